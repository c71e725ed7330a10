-- What a line is. Assumes nothing.
use Rattle.std.specs.Prelude.{◌≡◌, ℕ, ◌+◌, ◌-◌, ◌<◌, ◌≤◌, List, [], ◌∷◌, ◌++◌, length, take, drop, Some, Option, MatchOption, slice_index_or, slice_set}
use Rattle.std.specs.List.{slice_get}
use Rattle.channels.specs.declared.line.Line.{Line}

-- The first n frames of a table, from place h to its end and on from its start.
abbrev pub ring : {F : Type 0} → List F → ℕ → ℕ → List F
ring table h n = take n (drop h table ++ table)

module _ {F : Type 0} where
  -- How many frames a line has room for: its table's length.
  abbrev pub line_room : Line F → ℕ
  line_room l = length l.table.now

  -- The frames that wait, the oldest first.
  abbrev pub line_waits : Line F → List F
  line_waits l = ring l.table.now l.head l.count

  -- A put adds its frame at the end, and is lost where there is no room.
  pub record LinePuts (c : Line F) (f : F) (d : Line F) : Type 0 where
    pub room : line_room d ≡ line_room c
    pub added : length (line_waits c) < line_room c → line_waits d ≡ line_waits c ++ f ∷ []
    pub lost : line_room c ≤ length (line_waits c) → line_waits d ≡ line_waits c

  -- A take gives the oldest frame and leaves the others; it gives none where none waits.
  pub record LineTakes (c : Line F) (o : Option F) (d : Line F) : Type 0 where
    pub room : line_room d ≡ line_room c
    pub oldest : MatchOption o ((line_waits c ≡ []) × (line_waits d ≡ [])) (λ f. line_waits c ≡ f ∷ line_waits d)

  -- Place r of the table is place i of the list: a frame read there is the one that waits at i.
  abbrev pub ReadsAt : Line F → ℕ → ℕ → Type 0
  ReadsAt l i r = i < l.count → (f : F) → f ≡ slice_index_or l.table.now r f → Some f ≡ slice_get (line_waits l) i

  -- Where i frames wait, one written there and counted waits behind them.
  abbrev pub WritesAt : Line F → ℕ → ℕ → Type 0
  WritesAt l i r = i ≡ l.count → (f : F) → ring (slice_set l.table.now r f) l.head (i + 1) ≡ line_waits l ++ f ∷ []

  -- Where i is 0 and a frame waits, the oldest stands there, and the others behind it.
  abbrev pub OldestAt : Line F → ℕ → ℕ → Type 0
  OldestAt l i r =
      i ≡ 0 → 0 < l.count → (f : F) → f ≡ slice_index_or l.table.now r f → line_waits l ≡ f ∷ ring l.table.now (r + 1) (l.count - 1)
