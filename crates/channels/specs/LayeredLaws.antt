-- A channel under each layer, or none, is a channel. It stands here, and not in proofs/, since a ghost member cites it. Assumes nothing.
use Rattle.std.specs.Prelude.{◌≡◌, ◌⊎◌, List, Some, Option}
use Rattle.std.specs.List.{ContainsAt}
use Rattle.channels.specs.Channels.{Lawful}
use Rattle.channels.specs.RepeatLaws.{repeat_lawful}
use Rattle.channels.specs.HoldLaws.{hold_lawful}
use Rattle.channels.specs.Layereds.{layered_waits, LayeredPuts, LayeredTakes}
use Rattle.channels.specs.declared.layered.Layered.{Layered}
use Rattle.channels.specs.declared.layered.Layered.TheVariants.{Bare, Repeating, Holding}

module _ {C F : Type 0} {waits : C → List F} {puts : C → F → C → Type 0} {takes : C → Option F → C → Type 0} (below : Lawful waits puts takes) where
  adds : (c : Layered C F) (f : F) (d : Layered C F) → LayeredPuts puts c f d → (g : F) → ContainsAt (layered_waits waits d) g
      → ContainsAt (layered_waits waits c) g ⊎ (f ≡ g)
  adds (Bare c) f (Bare d) p = below.put_adds c f d p
  adds (Repeating c) f (Repeating d) p = (repeat_lawful below).put_adds c f d p
  adds (Holding c) f (Holding d) p = (hold_lawful below).put_adds c f d p
  adds _ f _ p = absurd p

  gives : (c : Layered C F) (f : F) (d : Layered C F) → LayeredTakes takes c (Some f) d → ContainsAt (layered_waits waits c) f
  gives (Bare c) f (Bare d) t = below.take_gives c f d t
  gives (Repeating c) f (Repeating d) t = (repeat_lawful below).take_gives c f d t
  gives (Holding c) f (Holding d) t = (hold_lawful below).take_gives c f d t
  gives _ f _ t = absurd t

  leaves : (c : Layered C F) (o : Option F) (d : Layered C F) → LayeredTakes takes c o d → (g : F) → ContainsAt (layered_waits waits d) g
      → ContainsAt (layered_waits waits c) g
  leaves (Bare c) o (Bare d) t = below.take_leaves c o d t
  leaves (Repeating c) o (Repeating d) t = (repeat_lawful below).take_leaves c o d t
  leaves (Holding c) o (Holding d) t = (hold_lawful below).take_leaves c o d t
  leaves _ o _ t = absurd t

  pub layered_lawful : Lawful (layered_waits waits) (LayeredPuts puts) (LayeredTakes takes)
  layered_lawful = record { put_adds = adds; take_gives = gives; take_leaves = leaves }
