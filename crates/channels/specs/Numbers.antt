-- The numbers that a wild channel goes by. Assumes nothing.
use Rattle.std.specs.Prelude.{ℕ, ◌+◌, ◌*◌, ◌%◌, ◌^◌}

-- The number after a number: it is multiplied and added to, and wraps at 2^64.
abbrev pub number_after : ℕ → ℕ
number_after n = (n * 6364136223846793005 + 1442695040888963407) % 2 ^ 64
