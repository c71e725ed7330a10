-- Payloads as text.
use Rattle.std.specs.Prelude.{ℕ, List, ◌++◌, ℤ, codes, decimal}
use Rattle.std.specs.Fmt.{signed_decimal}
use Rattle.payloads.specs.declared.sort.Sort.{Sort}
use Rattle.payloads.specs.declared.sort.Sort.TheVariants.{AlarmPressed, DoorFault, Stopped}
use Rattle.payloads.specs.declared.event.LiftEvent.{LiftEvent}
use Rattle.payloads.specs.declared.line.ProfileLine.{ProfileLine}

-- A line, as `place=5 step=-2`.
abbrev pub parts_text : ℕ → ℤ → List ℕ
parts_text place step = codes "place=" ++ (decimal place ++ (codes " step=" ++ signed_decimal step))

abbrev pub line_text : ProfileLine → List ℕ
line_text x = parts_text x.place x.step

-- A sort by itself, as `alarm`, `door=7` or `floor=-3`.
abbrev pub bare_sort_text : Sort → List ℕ
bare_sort_text AlarmPressed = codes "alarm"
bare_sort_text (DoorFault code) = codes "door=" ++ decimal code
bare_sort_text (Stopped floor) = codes "floor=" ++ signed_decimal floor

-- A sort, behind a space.
abbrev pub sort_text : Sort → List ℕ
sort_text s = codes " " ++ bare_sort_text s

-- An event, as `lift=12 floor=-3`.
abbrev pub happening_text : ℕ → Sort → List ℕ
happening_text lift sort = codes "lift=" ++ (decimal lift ++ sort_text sort)

abbrev pub event_text : LiftEvent → List ℕ
event_text x = happening_text x.lift x.sort
