-- What reading a run of words gives: the earliest refusal that applies, or the frame and how many words it took.
use Rattle.std.specs.Prelude.{ℕ, ◌+◌, Bool, true, cond, ◌&&◌, List, [], ◌∷◌, map, length, take, drop, Option, ◌==◌, nat_le, slice_index}
use Rattle.frames.specs.declared.frame.Frame.{Frame}
use Rattle.frames.specs.declared.frame.Body.{Body}
use Rattle.frames.specs.declared.frame.Body.TheVariants.{ReqSlots, Slots, Token, Ack}
use Rattle.frames.specs.Answers.{Answer, gives, refuses, and_then, or_refuse}
use Rattle.codec.specs.declared.word.Kind.{Kind}
use Rattle.codec.specs.declared.word.Kind.TheVariants as kinds
use Rattle.codec.specs.Words.{word_kind, word_value, head_sender, head_addressee, head_count, kind_at}

-- How many words follow the head of that kind of frame, where a payload takes `size`.
abbrev pub count_after : ℕ → Kind → ℕ
count_after size kinds.ReqSlots = 3
count_after size kinds.Slots = 3
count_after size kinds.Token = 2 + size
count_after size kinds.Ack = 2

-- The value of a word that must be of that kind.
abbrev pub field_of : ℕ → ℕ → Answer ℕ
field_of kind w = cond (word_kind w == kind) (gives (word_value w)) (refuses 16)

-- The values of the first three words, where there are as many: the first a number s, the others of these kinds.
abbrev pub three_in : ℕ → ℕ → List ℕ → Answer (ℕ × ℕ × ℕ)
three_in second third ws =
    cond (nat_le 3 (length ws))
    (and_then (field_of 8 (slice_index ws 0)) (λ s.
    and_then (field_of second (slice_index ws 1)) (λ x.
    and_then (field_of third (slice_index ws 2)) (λ y. gives (s, x, y)))))
    (refuses 15)

-- Whether each word is of that kind.
abbrev pub all_of : ℕ → List ℕ → Bool
all_of kind [] = true
all_of kind (w ∷ ws) = word_kind w == kind && all_of kind ws

-- The frame with the nodes that a head names, and that body.
abbrev pub headed : {P : Type 0} → ℕ → Body P → Frame P
headed head b = record { sender = head_sender head; addressee = head_addressee head; body = b }

module _ {P : Type 0} (size : ℕ) (reads : List ℕ → Option P) where
  -- The payload in the first words.
  abbrev pub payload_of : List ℕ → Answer P
  payload_of ws = cond (all_of 12 (take size ws)) (or_refuse (reads (map word_value (take size ws))) 17) (refuses 16)

  -- The body of that kind of frame in the words after the head.
  abbrev pub body_of : Kind → List ℕ → Answer (Body P)
  body_of kinds.ReqSlots ws =
      and_then (field_of 8 (slice_index ws 0)) (λ s.
      and_then (field_of 10 (slice_index ws 1)) (λ n.
      and_then (field_of 11 (slice_index ws 2)) (λ l. gives (ReqSlots s n l))))
  body_of kinds.Slots ws =
      and_then (field_of 8 (slice_index ws 0)) (λ s.
      and_then (field_of 9 (slice_index ws 1)) (λ r.
      and_then (field_of 10 (slice_index ws 2)) (λ n. gives (Slots s r n))))
  body_of kinds.Token ws =
      and_then (field_of 8 (slice_index ws 0)) (λ s.
      and_then (field_of 9 (slice_index ws 1)) (λ r.
      and_then (payload_of (drop 2 ws)) (λ p. gives (Token s r p))))
  body_of kinds.Ack ws =
      and_then (field_of 8 (slice_index ws 0)) (λ s.
      and_then (field_of 9 (slice_index ws 1)) (λ r. gives (Ack s r)))

  -- The same, where there may be too few words.
  abbrev pub body_in : Kind → List ℕ → Answer (Body P)
  body_in kind ws = cond (nat_le (count_after size kind) (length ws)) (body_of kind ws) (refuses 15)

  -- The frame of that kind with that head, and the count of its words.
  abbrev pub frame_of : ℕ → Kind → List ℕ → Answer (Frame P × ℕ)
  frame_of head kind ws =
      cond (head_count head == count_after size kind)
      (and_then (body_in kind ws) (λ b. gives (headed head b, count_after size kind + 1)))
      (refuses 14)

  -- The frame at the front of a run, and the count of its words.
  abbrev pub frame_at : List ℕ → Answer (Frame P × ℕ)
  frame_at [] = refuses 12
  frame_at (head ∷ ws) = and_then (or_refuse (kind_at (word_kind head)) 13) (λ kind. frame_of head kind ws)
