-- What each channel shows, and all that it shows. Assumes nothing.
use Rattle.std.specs.Prelude.{◌≡◌, ◌⊎◌, List, Some, Option}
use Rattle.std.specs.List.{ContainsAt}

-- The two facts of a channel, whose waiting frames are `waits`: a put adds no frame but its own; what a take gives, and what it leaves, waited before.
pub record Lawful {C F : Type 0} (waits : C → List F) (puts : C → F → C → Type 0) (takes : C → Option F → C → Type 0) : Type 0 where
  pub put_adds : (c : C) (f : F) (d : C) → puts c f d → (g : F) → ContainsAt (waits d) g → ContainsAt (waits c) g ⊎ (f ≡ g)
  pub take_gives : (c : C) (f : F) (d : C) → takes c (Some f) d → ContainsAt (waits c) f
  pub take_leaves : (c : C) (o : Option F) (d : C) → takes c o d → (g : F) → ContainsAt (waits d) g → ContainsAt (waits c) g
