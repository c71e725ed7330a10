-- The payload in a text.
use Rattle.std.specs.Prelude.{ℕ, cond, List, Some, None, codes, Option}
use Rattle.std.specs.Str.{bytes_eq}
use Rattle.payloads.specs.declared.sort.Sort.{Sort}
use Rattle.payloads.specs.declared.sort.Sort.TheVariants.{AlarmPressed, DoorFault, Stopped}
use Rattle.payloads.specs.declared.event.LiftEvent.{LiftEvent}
use Rattle.payloads.specs.declared.line.ProfileLine.{ProfileLine}
use Rattle.payloads.specs.Lines.{line_of}
use Rattle.payloads.specs.Events.{event_of}
use Rattle.frametext.specs.Scan.{stripped, first_word, other_words}
use Rattle.frametext.specs.Told.{Told, tells, and_tell, or_unread, or_no_payload}
use Rattle.frametext.specs.Numbers.{number_in, field_in, signed_field_in}

-- A line in a text.
abbrev pub line_in : List ℕ → Told ProfileLine
line_in bs =
    and_tell (field_in 32 (codes "place=") (first_word bs)) (λ place.
    and_tell (signed_field_in (codes "step=") (other_words bs)) (λ step.
    or_no_payload (line_of place step)))

-- A sort in a text.
abbrev pub door_or_floor_in : Option (List ℕ) → List ℕ → Told Sort
door_or_floor_in (Some ds) bs = and_tell (or_unread (number_in 10 32 ds)) (λ code. tells (DoorFault code))
door_or_floor_in None bs = and_tell (signed_field_in (codes "floor=") bs) (λ floor. tells (Stopped floor))

abbrev pub sort_in : List ℕ → Told Sort
sort_in bs = cond (bytes_eq bs (codes "alarm")) (tells AlarmPressed) (door_or_floor_in (stripped (codes "door=") bs) bs)

-- An event in a text.
abbrev pub event_in : List ℕ → Told LiftEvent
event_in bs =
    and_tell (field_in 32 (codes "lift=") (first_word bs)) (λ lift.
    and_tell (sort_in (other_words bs)) (λ sort.
    or_no_payload (event_of lift sort)))
