-- What a call answers: a value, or a refusal by its number.
use Rattle.std.specs.Prelude.{ℕ, Some, None, Ok, Err, Option, Result}
use Rattle.frames.specs.declared.refusal.Refusal.{Refusal}
use Rattle.frames.specs.declared.refusal.Refusal.TheVariants.{OwnNumber, AheadCount, CellCount, Peer, Addressee, PastLastClock, RequestWindow}
use Rattle.frames.specs.declared.refusal.Refusal.TheVariants.{SlotsWindow, SlotsClock, ClockSpent, WindowFull, EmptyRun, HeadKind, HeadCount}
use Rattle.frames.specs.declared.refusal.Refusal.TheVariants.{ShortRun, WordKind, PayloadWords, TooLarge, NoRoom, PartRange}

-- The number of each refusal.
abbrev pub number_of : Refusal → ℕ
number_of OwnNumber = 1
number_of AheadCount = 2
number_of CellCount = 3
number_of Peer = 4
number_of Addressee = 5
number_of PastLastClock = 6
number_of RequestWindow = 7
number_of SlotsWindow = 8
number_of SlotsClock = 9
number_of ClockSpent = 10
number_of WindowFull = 11
number_of EmptyRun = 12
number_of HeadKind = 13
number_of HeadCount = 14
number_of ShortRun = 15
number_of WordKind = 16
number_of PayloadWords = 17
number_of TooLarge = 18
number_of NoRoom = 19
number_of PartRange = 20

-- The answer of a call that may refuse.
pub data Answer (T : Type 0) : Type 0 where
  gives : T → Answer T
  refuses : ℕ → Answer T

-- The answer that a result stands for.
abbrev pub answer : {T : Type 0} → Result T Refusal → Answer T
answer (Ok x) = gives x
answer (Err e) = refuses (number_of e)

-- Goes on with the value, or passes the refusal on.
abbrev pub and_then : {A B : Type 0} → Answer A → (A → Answer B) → Answer B
and_then (gives x) f = f x
and_then (refuses n) f = refuses n

-- The value, or that refusal where there is none.
abbrev pub or_refuse : {A : Type 0} → Option A → ℕ → Answer A
or_refuse (Some x) n = gives x
or_refuse None n = refuses n
