-- What a wild channel is. Assumes nothing.
use Rattle.std.specs.Prelude.{◌≡◌, ℕ, ◌⊎◌, List, length, take, IfSome, Option}
use Rattle.std.specs.List.{ContainsAt}
use Rattle.channels.specs.Numbers.{number_after}
use Rattle.channels.specs.declared.wild.Wild.{Wild}

-- Each frame of the second list stands in the first or is f.
pub record AddsOnly {F : Type 0} (before : List F) (f : F) (after : List F) : Type 0 where
  pub each : (g : F) → ContainsAt after g → ContainsAt before g ⊎ (f ≡ g)

module _ {F : Type 0} where
  -- How many frames a wild channel has room for: its table's length.
  abbrev pub wild_room : Wild F → ℕ
  wild_room w = length w.table.now

  -- The frames that wait: the first of the table, as many as are counted.
  abbrev pub wild_waits : Wild F → List F
  wild_waits w = take w.count w.table.now

  -- A put draws a number and adds no frame but its own. Whether it adds it, and how often, is left open.
  pub record WildPuts (c : Wild F) (f : F) (d : Wild F) : Type 0 where
    pub number : d.number ≡ number_after c.number
    pub room : wild_room d ≡ wild_room c
    pub adds : AddsOnly (wild_waits c) f (wild_waits d)

  -- A take draws a number, and what it gives and what it leaves waited before. Whether it gives one, which, and what it leaves of those, is left open.
  pub record WildTakes (c : Wild F) (o : Option F) (d : Wild F) : Type 0 where
    pub number : d.number ≡ number_after c.number
    pub room : wild_room d ≡ wild_room c
    pub gives : IfSome o (ContainsAt (wild_waits c))
    pub leaves : (g : F) → ContainsAt (wild_waits d) g → ContainsAt (wild_waits c) g
