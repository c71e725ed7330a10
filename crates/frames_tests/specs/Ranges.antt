-- The range of a stamp.
use Rattle.std.specs.Prelude.{ℕ, ◌^◌, Bool, nat_lt}

-- A stamp's value is below 2^112.
abbrev pub stamp_fits : ℕ → Bool
stamp_fits value = nat_lt value (2 ^ 112)
