-- The holding layer is a channel over each channel. It stands here, and not in proofs/, since a ghost member cites it. Assumes nothing.
use Rattle.std.specs.Prelude.{◌≡◌, ◌⊎◌, List, [], ◌∷◌, ◌++◌, Some, None, Option}
use Rattle.std.proofs.Common.{subst, inl, inr, ⊎_elim}
use Rattle.std.specs.List.{ContainsAt}
use Rattle.std.proofs.ByRecursion.{has_append_left, has_push, has_push_cases}
use Rattle.channels.specs.Channels.{Lawful}
use Rattle.channels.specs.Holds.{with_held, HoldGives, hold_waits, PassesDown, HoldPuts, HoldTakes}
use Rattle.channels.specs.declared.holding.Holding.{Holding}

module _ {F : Type 0} where
  -- a frame in front of the held one
  has_before : (fs : List F) (o : Option F) (g : F) → ContainsAt fs g → ContainsAt (with_held fs o) g
  has_before fs None g m = m
  has_before fs (Some h) g m = has_append_left fs (h ∷ []) g m

  -- the held one stays
  has_with : (fs gs : List F) (o : Option F) (g : F) → (ContainsAt fs g → ContainsAt gs g) → ContainsAt (with_held fs o) g → ContainsAt (with_held gs o) g
  has_with fs gs None g k m = k m
  has_with fs gs (Some h) g k m =
      ⊎_elim (λ n. has_append_left gs (h ∷ []) g (k n)) (λ e. subst (ContainsAt (gs ++ h ∷ [])) e (has_push gs h)) (has_push_cases fs h g m)

  some_is : (f g : F) → Some f ≡ Some g → g ≡ f
  some_is f g e = cc

  module _ {C : Type 0} {waits : C → List F} {puts : C → F → C → Type 0} {takes : C → Option F → C → Type 0} (below : Lawful waits puts takes) where
    -- what waits below after the held frame is passed down
    passed : (c d : C) (held : Option F) (g : F) → PassesDown puts c held d → ContainsAt (waits d) g → ContainsAt (with_held (waits c) held) g
    passed c d None g e m = subst (λ b. ContainsAt (waits b) g) e m
    passed c d (Some h) g p m =
        ⊎_elim (has_append_left (waits c) (h ∷ []) g) (λ e. subst (ContainsAt (waits c ++ h ∷ [])) e (has_push (waits c) h)) (below.put_adds c h d p g m)

    adds : (c : Holding C F) (f : F) (d : Holding C F) → HoldPuts puts c f d → (g : F) → ContainsAt (hold_waits waits d) g → ContainsAt (hold_waits waits c) g ⊎ (f ≡ g)
    adds c f d p g m =
        ⊎_elim (λ n. inl (passed c.below d.below c.held g p.older n)) inr
        (has_push_cases (waits d.below) f g (subst (λ o. ContainsAt (with_held (waits d.below) o) g) p.newer m))

    -- by what was found below
    gives : (c d : C) (found held : Option F) (f : F) (held' : Option F) → takes c found d → HoldGives found held (Some f) held'
        → ContainsAt (with_held (waits c) held) f
    gives c d None held f held' t h = subst (λ o. ContainsAt (with_held (waits c) o) f) h.0 (has_push (waits c) f)
    gives c d (Some g) held f held' t h = has_before (waits c) held f (subst (ContainsAt (waits c)) (some_is f g h.0) (below.take_gives c g d t))

    leaves : (c d : C) (found held o held' : Option F) (g : F) → takes c found d → HoldGives found held o held'
        → ContainsAt (with_held (waits d) held') g → ContainsAt (with_held (waits c) held) g
    leaves c d None held o held' g t h m =
        has_before (waits c) held g (below.take_leaves c None d t g (subst (λ x. ContainsAt (with_held (waits d) x) g) h.1 m))
    leaves c d (Some f) held o held' g t h m =
        has_with (waits d) (waits c) held g (below.take_leaves c (Some f) d t g) (subst (λ x. ContainsAt (with_held (waits d) x) g) h.1 m)

    pub hold_lawful : Lawful (hold_waits waits) (HoldPuts puts) (HoldTakes takes)
    hold_lawful = record {
      put_adds = adds;
      take_gives = λ c f d t. gives c.below d.below t.found c.held f d.held t.below t.gives;
      take_leaves = λ c o d t g. leaves c.below d.below t.found c.held o d.held g t.below t.gives;
    }
