-- What the holding layer is. Assumes nothing.
use Rattle.std.specs.Prelude.{◌≡◌, List, [], ◌∷◌, ◌++◌, Some, None, Option}
use Rattle.channels.specs.declared.holding.Holding.{Holding}

-- These frames, and behind them the held one, if one is held.
abbrev pub with_held : {F : Type 0} → List F → Option F → List F
with_held fs None = fs
with_held fs (Some h) = fs ++ h ∷ []

-- What a take gives that found `found` below, with `held` held, and what is held after it: the frame found, or, where none was, the held one.
abbrev pub HoldGives : {F : Type 0} (found held : Option F) → Option F → Option F → Type 0
HoldGives (Some f) held o held' = (o ≡ Some f) × (held' ≡ held)
HoldGives None held o held' = (o ≡ held) × (held' ≡ None)

module _ {C F : Type 0} where
  -- What waits below waits here, and so does the held frame.
  abbrev pub hold_waits : (C → List F) → Holding C F → List F
  hold_waits waits c = with_held (waits c.below) c.held

  -- The held frame, if one is held, is put below.
  abbrev pub PassesDown : (C → F → C → Type 0) → C → Option F → C → Type 0
  PassesDown puts c None d = d ≡ c
  PassesDown puts c (Some h) d = puts c h d

  -- A put passes down the held frame and holds the new one.
  pub record HoldPuts (puts : C → F → C → Type 0) (c : Holding C F) (f : F) (d : Holding C F) : Type 0 where
    pub older : PassesDown puts c.below c.held d.below
    pub newer : d.held ≡ Some f

  -- A take is a take below, and what it gave decides the rest.
  pub record HoldTakes (takes : C → Option F → C → Type 0) (c : Holding C F) (o : Option F) (d : Holding C F) : Type 0 where
    pub found : Option F
    pub below : takes c.below found d.below
    pub gives : HoldGives found c.held o d.held
