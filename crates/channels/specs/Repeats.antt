-- What the repeating layer is. Assumes nothing.
use Rattle.std.specs.Prelude.{List, [], ◌∷◌, Option}
use Rattle.std.specs.List.{FoldsTo}
use Rattle.channels.specs.declared.repeating.Repeating.{Repeating}

module _ {C F : Type 0} where
  -- What waits in the channel below waits here.
  abbrev pub repeat_waits : (C → List F) → Repeating C → List F
  repeat_waits waits c = waits c.below

  -- A put is two puts of the frame below, in turn.
  abbrev pub RepeatPuts : (C → F → C → Type 0) → Repeating C → F → Repeating C → Type 0
  RepeatPuts puts c f d = FoldsTo puts c.below (f ∷ f ∷ []) d.below

  -- A take is a take below.
  abbrev pub RepeatTakes : (C → Option F → C → Type 0) → Repeating C → Option F → Repeating C → Type 0
  RepeatTakes takes c o d = takes c.below o d.below
