-- What a text tells: a value, a payload that is refused by its number, or nothing that can be read.
-- Which of several expected things a fault names is left open.
use Rattle.std.specs.Prelude.{ℕ, List, [], ◌∷◌, Some, None, Ok, Err, Option, Result}
use Rattle.frames.specs.Answers.{Answer, gives, refuses, number_of, or_refuse}
use Rattle.frametext.specs.declared.fault.Fault.{Fault}
use Rattle.frametext.specs.declared.fault.Fault.TheVariants.{NotThere, NoPayload}

pub data Told (T : Type 0) : Type 0 where
  tells : T → Told T
  no_payload : ℕ → Told T
  unread : Told T

-- What a result says of its text.
abbrev pub told : {T : Type 0} → Result T Fault → Told T
told (Ok x) = tells x
told (Err (NotThere e)) = unread
told (Err (NoPayload r)) = no_payload (number_of r)

-- Goes on with the value, or ends there.
abbrev pub and_tell : {A B : Type 0} → Told A → (A → Told B) → Told B
and_tell (tells x) f = f x
and_tell (no_payload n) f = no_payload n
and_tell unread f = unread

-- The value that was found, or nothing that can be read.
abbrev pub or_unread : {A : Type 0} → Option A → Told A
or_unread (Some x) = tells x
or_unread None = unread

-- What an answer tells: its value, or the payload that is refused.
abbrev pub told_of : {A : Type 0} → Answer A → Told A
told_of (gives x) = tells x
told_of (refuses n) = no_payload n

-- The payload that was made, or its refusal: a part is out of range.
abbrev pub or_no_payload : {A : Type 0} → Option A → Told A
or_no_payload o = told_of (or_refuse o 20)

-- Nothing more in the text.
abbrev pub end_in : List ℕ → Told (Unit {0})
end_in [] = tells tt
end_in (b ∷ bs) = unread
