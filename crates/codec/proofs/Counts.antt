-- The count of a frame's words, from the fixed count of its payload's.
use Rattle.std.proofs.Common.{◌≡◌, ℕ, ◌≤◌, List, length, refl, arith}
use lib.ListN.{length-map}
use Rattle.frames.specs.declared.frame.Body.{Body}
use Rattle.frames.specs.declared.frame.Body.TheVariants.{ReqSlots, Slots, Token, Ack}
use Rattle.codec.specs.declared.word.Kind.{Kind}
use Rattle.codec.specs.declared.word.Kind.TheVariants as kinds
use Rattle.codec.specs.Words.{word}
use Rattle.codec.specs.Layout.{kind_of, field_words}
use Rattle.codec.specs.Reading.{count_after}

-- the words after the head are as many as its kind of frame has
pub fields_counted : {P : Type 0} (size : ℕ) (words : P → List ℕ) → ((x : P) → length (words x) ≡ size)
    → (b : Body P) → length (field_words words b) ≡ count_after size (kind_of b)
fields_counted size words counted (ReqSlots s n l) = refl
fields_counted size words counted (Slots s r n) = refl
fields_counted size words counted (Token s r p) = omega (arith, length-map (words p) (word 12), counted p)
fields_counted size words counted (Ack s r) = refl

-- and at most six
pub count_few : (size : ℕ) → size ≤ 4 → (k : Kind) → count_after size k ≤ 6
count_few size few kinds.ReqSlots = omega arith
count_few size few kinds.Slots = omega arith
count_few size few kinds.Token = omega arith
count_few size few kinds.Ack = omega arith
