-- The words of a frame: a head, then one word for each field in the order written here.
use Rattle.std.specs.Prelude.{ℕ, Bool, ◌&&◌, List, [], ◌∷◌, map, length, nat_le}
use Rattle.frames.specs.declared.frame.Frame.{Frame}
use Rattle.frames.specs.declared.frame.Body.{Body}
use Rattle.frames.specs.declared.frame.Body.TheVariants.{ReqSlots, Slots, Token, Ack}
use Rattle.codec.specs.declared.word.Kind.{Kind}
use Rattle.codec.specs.declared.word.Kind.TheVariants as kinds
use Rattle.codec.specs.Words.{word, head_word, kind_code}

-- The largest number that a field's word can hold, 2^28 − 1.
abbrev pub last_clock : ℕ
last_clock = 268435455

module _ {P : Type 0} where
  -- The kind of a body.
  abbrev pub kind_of : Body P → Kind
  kind_of (ReqSlots s n l) = kinds.ReqSlots
  kind_of (Slots s r n) = kinds.Slots
  kind_of (Token s r p) = kinds.Token
  kind_of (Ack s r) = kinds.Ack

  -- The words after the head: kind 8 for s, 9 for r, 10 for n, 11 for l, and 12 for each word of the payload.
  abbrev pub field_words : (P → List ℕ) → Body P → List ℕ
  field_words words (ReqSlots s n l) = word 8 s ∷ word 10 n ∷ word 11 l ∷ []
  field_words words (Slots s r n) = word 8 s ∷ word 9 r ∷ word 10 n ∷ []
  field_words words (Token s r p) = word 8 s ∷ word 9 r ∷ map (word 12) (words p)
  field_words words (Ack s r) = word 8 s ∷ word 9 r ∷ []

  -- The words of a frame, where `words` gives those of a payload.
  abbrev pub frame_words : (P → List ℕ) → Frame P → List ℕ
  frame_words words f =
      head_word (kind_code (kind_of f.body)) f.sender f.addressee (length (field_words words f.body))
      ∷ field_words words f.body

  -- Whether each field of a body fits a word.
  abbrev pub body_fits : Body P → Bool
  body_fits (ReqSlots s n l) = nat_le s last_clock && (nat_le n last_clock && nat_le l last_clock)
  body_fits (Slots s r n) = nat_le s last_clock && (nat_le r last_clock && nat_le n last_clock)
  body_fits (Token s r p) = nat_le s last_clock && nat_le r last_clock
  body_fits (Ack s r) = nat_le s last_clock && nat_le r last_clock

  -- Whether the words can hold the frame: two node numbers of 8 bits, and the fields.
  abbrev pub frame_fits : Frame P → Bool
  frame_fits f = nat_le f.sender 255 && (nat_le f.addressee 255 && body_fits f.body)
