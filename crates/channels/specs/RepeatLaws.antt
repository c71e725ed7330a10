-- The repeating layer is a channel over each channel. It stands here, and not in proofs/, since a ghost member cites it. Assumes nothing.
use Rattle.std.specs.Prelude.{◌≡◌, ◌⊎◌, List, [], ◌∷◌, Option}
use Rattle.std.proofs.Common.{subst, sym, inr, ⊎_elim}
use Rattle.std.specs.List.{ContainsAt, FoldsTo}
use Rattle.channels.specs.Channels.{Lawful}
use Rattle.channels.specs.Repeats.{repeat_waits, RepeatPuts, RepeatTakes}

module _ {C F : Type 0} {waits : C → List F} {puts : C → F → C → Type 0} {takes : C → Option F → C → Type 0} (below : Lawful waits puts takes) where
  once : (c d : C) (f g : F) → FoldsTo puts c (f ∷ []) d → ContainsAt (waits d) g → ContainsAt (waits c) g ⊎ (f ≡ g)
  once c d f g p m = below.put_adds c f p.0 p.1 g (subst (λ b. ContainsAt (waits b) g) (sym p.2) m)

  pub repeat_lawful : Lawful (repeat_waits waits) (RepeatPuts puts) (RepeatTakes takes)
  repeat_lawful = record {
    put_adds = λ c f d p g m. ⊎_elim (below.put_adds c.below f p.0 p.1 g) inr (once p.0 d.below f g p.2 m);
    take_gives = λ c f d t. below.take_gives c.below f d.below t;
    take_leaves = λ c o d t. below.take_leaves c.below o d.below t;
  }
