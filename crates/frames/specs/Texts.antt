-- Refusals and frames as text.
use Rattle.std.specs.Prelude.{ℕ, List, [], ◌++◌, Some, Option, codes, decimal}
use Rattle.std.specs.Option.{option_map}
use Rattle.frames.specs.Answers.{number_of}
use Rattle.frames.specs.declared.refusal.Refusal.{Refusal}
use Rattle.frames.specs.declared.refusal.Refusal.TheVariants.{OwnNumber, AheadCount, CellCount, Peer, Addressee, PastLastClock, RequestWindow}
use Rattle.frames.specs.declared.refusal.Refusal.TheVariants.{SlotsWindow, SlotsClock, ClockSpent, WindowFull, EmptyRun, HeadKind, HeadCount}
use Rattle.frames.specs.declared.refusal.Refusal.TheVariants.{ShortRun, WordKind, PayloadWords, TooLarge, NoRoom, PartRange}
use Rattle.frames.specs.declared.frame.Frame.{Frame}
use Rattle.frames.specs.declared.frame.Body.{Body}
use Rattle.frames.specs.declared.frame.Body.TheVariants.{ReqSlots, Slots, Token, Ack}

-- The name of each refusal.
abbrev pub name_of : Refusal → List ℕ
name_of OwnNumber = codes "OwnNumber"
name_of AheadCount = codes "AheadCount"
name_of CellCount = codes "CellCount"
name_of Peer = codes "Peer"
name_of Addressee = codes "Addressee"
name_of PastLastClock = codes "PastLastClock"
name_of RequestWindow = codes "RequestWindow"
name_of SlotsWindow = codes "SlotsWindow"
name_of SlotsClock = codes "SlotsClock"
name_of ClockSpent = codes "ClockSpent"
name_of WindowFull = codes "WindowFull"
name_of EmptyRun = codes "EmptyRun"
name_of HeadKind = codes "HeadKind"
name_of HeadCount = codes "HeadCount"
name_of ShortRun = codes "ShortRun"
name_of WordKind = codes "WordKind"
name_of PayloadWords = codes "PayloadWords"
name_of TooLarge = codes "TooLarge"
name_of NoRoom = codes "NoRoom"
name_of PartRange = codes "PartRange"

-- A refusal is its number and its name, as `16 WordKind`.
abbrev pub refusal_text : Refusal → List ℕ
refusal_text e = decimal (number_of e) ++ (codes " " ++ name_of e)

-- A text behind the two nodes of a frame.
abbrev pub routed : ℕ → ℕ → List ℕ → List ℕ
routed sender addressee bs = decimal sender ++ (codes ">" ++ (decimal addressee ++ bs))

module _ {P : Type 0} (spelling : P → List ℕ) where
  -- The text of a body by itself, where `spelling` gives that of a payload.
  abbrev pub bare_body_text : Body P → List ℕ
  bare_body_text (ReqSlots s n l) = codes "REQSLOTS s=" ++ (decimal s ++ (codes " n=" ++ (decimal n ++ (codes " l=" ++ decimal l))))
  bare_body_text (Slots s r n) = codes "SLOTS s=" ++ (decimal s ++ (codes " r=" ++ (decimal r ++ (codes " n=" ++ decimal n))))
  bare_body_text (Token s r p) = codes "TOKEN s=" ++ (decimal s ++ (codes " r=" ++ (decimal r ++ (codes " " ++ spelling p))))
  bare_body_text (Ack s r) = codes "ACK s=" ++ (decimal s ++ (codes " r=" ++ decimal r))

  -- The text of a body, behind a space.
  abbrev pub body_text : Body P → List ℕ
  body_text b = codes " " ++ bare_body_text b

  -- The text of a frame.
  abbrev pub frame_text : Frame P → List ℕ
  frame_text f = routed f.sender f.addressee (body_text f.body)

-- What is known of these texts where `shown` is what is known of a payload's: of a token whose payload has no known text, nothing.
module _ {P : Type 0} (shown : P → Option (List ℕ)) where
  abbrev pub body_shown : Body P → Option (List ℕ)
  body_shown (ReqSlots s n l) = Some (bare_body_text {P = P} (λ _. []) (ReqSlots s n l))
  body_shown (Slots s r n) = Some (bare_body_text {P = P} (λ _. []) (Slots s r n))
  body_shown (Token s r p) = option_map (λ t. bare_body_text (λ _. t) (Token s r p)) (shown p)
  body_shown (Ack s r) = Some (bare_body_text {P = P} (λ _. []) (Ack s r))

  abbrev pub frame_shown : Frame P → Option (List ℕ)
  frame_shown f = option_map (λ t. routed f.sender f.addressee (codes " " ++ t)) (body_shown f.body)
