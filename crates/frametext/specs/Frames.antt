-- The frame in a text, as `0>1 REQSLOTS s=0 n=3 l=0`.
use Rattle.std.specs.Prelude.{ℕ, ◌^◌, ◌<◌, cond, List, codes}
use Rattle.std.specs.Str.{bytes_eq}
use Rattle.frames.specs.declared.frame.Frame.{Frame}
use Rattle.frames.specs.declared.frame.Body.{Body}
use Rattle.frames.specs.declared.frame.Body.TheVariants.{ReqSlots, Slots, Token, Ack}
use Rattle.frametext.specs.Scan.{before, behind, first_word, other_words}
use Rattle.frametext.specs.Told.{Told, tells, unread, and_tell, or_unread, end_in}
use Rattle.frametext.specs.Numbers.{number_in, field_in}

-- The numbers of a frame that its types can hold: nodes of 32 bits, fields of 64.
abbrev pub body_held : {P : Type 0} → Body P → Type 0
body_held (ReqSlots s n l) = (s < 2 ^ 64) × (n < 2 ^ 64) × (l < 2 ^ 64)
body_held (Slots s r n) = (s < 2 ^ 64) × (r < 2 ^ 64) × (n < 2 ^ 64)
body_held (Token s r p) = (s < 2 ^ 64) × (r < 2 ^ 64)
body_held (Ack s r) = (s < 2 ^ 64) × (r < 2 ^ 64)

abbrev pub Held : {P : Type 0} → Frame P → Type 0
Held f = (f.sender < 2 ^ 32) × (f.addressee < 2 ^ 32) × body_held f.body

-- The number of a field that comes first in a text.
abbrev pub first_field : List ℕ → List ℕ → Told ℕ
first_field label bs = field_in 64 label (first_word bs)

-- The field s, and the field behind it.
abbrev pub two_in : List ℕ → List ℕ → Told (ℕ × ℕ)
two_in second bs = and_tell (first_field (codes "s=") bs) (λ s. and_tell (first_field second (other_words bs)) (λ x. tells (s, x)))

-- The text behind its first two words.
abbrev pub behind_two : List ℕ → List ℕ
behind_two bs = other_words (other_words bs)

-- The field s, the two fields behind it, and nothing more.
abbrev pub three_in : List ℕ → List ℕ → List ℕ → Told (ℕ × ℕ × ℕ)
three_in second third bs =
    and_tell (two_in second bs) (λ two.
    and_tell (first_field third (behind_two bs)) (λ y.
    and_tell (end_in (other_words (behind_two bs))) (λ _. tells (two.0, two.1, y))))

-- The sender and the addressee, as `0>1`.
abbrev pub route_in : List ℕ → Told (ℕ × ℕ)
route_in word =
    and_tell (or_unread (behind 62 word)) (λ to.
    and_tell (or_unread (number_in 10 32 (before 62 word))) (λ sender.
    and_tell (or_unread (number_in 10 32 to)) (λ addressee. tells (sender, addressee))))

module _ {P : Type 0} (spelled : List ℕ → Told P) where
  -- The fields of each kind of body.
  abbrev pub req_slots_in : List ℕ → Told (Body P)
  req_slots_in bs = and_tell (three_in (codes "n=") (codes "l=") bs) (λ f. tells (ReqSlots f.0 f.1 f.2))

  abbrev pub slots_in : List ℕ → Told (Body P)
  slots_in bs = and_tell (three_in (codes "r=") (codes "n=") bs) (λ f. tells (Slots f.0 f.1 f.2))

  abbrev pub token_in : List ℕ → Told (Body P)
  token_in bs = and_tell (two_in (codes "r=") bs) (λ f. and_tell (spelled (behind_two bs)) (λ p. tells (Token f.0 f.1 p)))

  abbrev pub ack_in : List ℕ → Told (Body P)
  ack_in bs = and_tell (two_in (codes "r=") bs) (λ f. and_tell (end_in (behind_two bs)) (λ _. tells (Ack f.0 f.1)))

  -- The body of that kind in a text.
  abbrev pub kind_in : List ℕ → List ℕ → Told (Body P)
  kind_in kind bs =
      cond (bytes_eq kind (codes "REQSLOTS")) (req_slots_in bs)
      (cond (bytes_eq kind (codes "SLOTS")) (slots_in bs)
      (cond (bytes_eq kind (codes "TOKEN")) (token_in bs)
      (cond (bytes_eq kind (codes "ACK")) (ack_in bs) unread)))

  -- The frame in a text, where `spelled` tells a payload.
  abbrev pub frame_in : List ℕ → Told (Frame P)
  frame_in bs =
      and_tell (route_in (first_word bs)) (λ route.
      and_tell (kind_in (first_word (other_words bs)) (other_words (other_words bs))) (λ body.
      tells (record { sender = route.0; addressee = route.1; body = body })))
