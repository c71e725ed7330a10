-- A lift event: which there are, and its two words.
use Rattle.std.specs.Prelude.{ℕ, ◌+◌, ◌*◌, ◌/◌, ◌%◌, ◌^◌, cond, List, [], ◌∷◌, Some, None, Option, ◌==◌}
use Rattle.payloads.specs.declared.sort.Sort.{Sort}
use Rattle.payloads.specs.declared.sort.Sort.TheVariants.{AlarmPressed, DoorFault, Stopped}
use Rattle.payloads.specs.declared.event.LiftEvent.{LiftEvent}
use Rattle.payloads.specs.Checked.{checked}
use Rattle.payloads.specs.Ranges.{event_fits, raised, lowered}

-- The event with these parts, if they are in range.
abbrev pub event_of : ℕ → Sort → Option LiftEvent
event_of lift sort = checked (event_fits lift sort) (λ fits. record { lift = lift; sort = sort; fits = fits })

-- The number of each sort, and what the second word says of it: nothing, the code, the floor counted from −64 on.
abbrev pub sort_code : Sort → ℕ
sort_code AlarmPressed = 1
sort_code (DoorFault code) = 2
sort_code (Stopped floor) = 3

abbrev pub sort_detail : Sort → ℕ
sort_detail AlarmPressed = 0
sort_detail (DoorFault code) = code
sort_detail (Stopped floor) = raised 64 floor

-- The sort with that number and that second word, if there is one; its range is looked at by `event_of`.
abbrev pub sort_of : ℕ → ℕ → Option Sort
sort_of code detail =
    cond (code == 1) (cond (detail == 0) (Some AlarmPressed) None)
    (cond (code == 2) (Some (DoorFault detail))
    (cond (code == 3) (Some (Stopped (lowered 64 detail))) None))

-- Its words: the sort's number in bits 19–16 and the lift in bits 15–0; then the detail.
abbrev pub event_words : LiftEvent → List ℕ
event_words x = (sort_code x.sort * 2 ^ 16 + x.lift) ∷ sort_detail x.sort ∷ []

-- The event of that lift and sort, if there is one.
abbrev pub event_by : ℕ → Option Sort → Option LiftEvent
event_by lift None = None
event_by lift (Some sort) = event_of lift sort

-- The event with these words, if there is one.
abbrev pub event_reads : List ℕ → Option LiftEvent
event_reads [] = None
event_reads (w ∷ []) = None
event_reads (w ∷ v ∷ []) = event_by (w % 2 ^ 16) (sort_of (w / 2 ^ 16) v)
event_reads (w ∷ v ∷ u ∷ ws) = None
