-- What a channel under a layer chosen as the program runs is. Assumes nothing.
use Rattle.std.specs.Prelude.{ℕ, List, Some, None, Option, codes}
use Rattle.channels.specs.Repeats.{repeat_waits, RepeatPuts, RepeatTakes}
use Rattle.channels.specs.Holds.{hold_waits, HoldPuts, HoldTakes}
use Rattle.channels.specs.declared.layered.Layer.{Layer}
use Rattle.channels.specs.declared.layered.Layer.TheVariants.{Repeating, Holding}
use Rattle.channels.specs.declared.layered.Layered.{Layered}
use Rattle.channels.specs.declared.layered.Layered.TheVariants as over

-- The name of a layer.
abbrev pub layer_text : Layer → List ℕ
layer_text Repeating = codes "repeating"
layer_text Holding = codes "holding"

module _ {C F : Type 0} where
  -- A channel under that layer, which holds no frame yet.
  abbrev pub layered_over : C → Option Layer → Layered C F
  layered_over c None = over.Bare c
  layered_over c (Some Repeating) = over.Repeating (record { below = c })
  layered_over c (Some Holding) = over.Holding (record { below = c; held = None })

  -- What waits under the layer that stands there.
  abbrev pub layered_waits : (C → List F) → Layered C F → List F
  layered_waits waits (over.Bare c) = waits c
  layered_waits waits (over.Repeating c) = repeat_waits waits c
  layered_waits waits (over.Holding c) = hold_waits waits c

  -- A put is a put under the layer that stands there, and leaves that layer.
  abbrev pub LayeredPuts : (C → F → C → Type 0) → Layered C F → F → Layered C F → Type 0
  LayeredPuts puts (over.Bare c) f (over.Bare d) = puts c f d
  LayeredPuts puts (over.Repeating c) f (over.Repeating d) = RepeatPuts puts c f d
  LayeredPuts puts (over.Holding c) f (over.Holding d) = HoldPuts puts c f d
  LayeredPuts puts _ f _ = ⊥

  -- So is a take.
  abbrev pub LayeredTakes : (C → Option F → C → Type 0) → Layered C F → Option F → Layered C F → Type 0
  LayeredTakes takes (over.Bare c) o (over.Bare d) = takes c o d
  LayeredTakes takes (over.Repeating c) o (over.Repeating d) = RepeatTakes takes c o d
  LayeredTakes takes (over.Holding c) o (over.Holding d) = HoldTakes takes c o d
  LayeredTakes takes _ o _ = ⊥
