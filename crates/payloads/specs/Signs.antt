-- Counting from a lowest number on, and back.
use Rattle.std.specs.Prelude.{◌≡◌, ℕ, ℤ, pos, ◌+ℤ◌, ◌≤ℤ◌}
use Rattle.std.proofs.Common.{arith}
use Rattle.std.proofs.lemmas.Int.{ints}
use Rattle.payloads.specs.Ranges.{raised, lowered}

pub raised-lowered : (below n : ℕ) → raised below (lowered below n) ≡ n
raised-lowered below n = omega (arith, ints)

pub lowered-raised : (below : ℕ) (x : ℤ) → pos 0 ≤ℤ (x +ℤ pos below) → lowered below (raised below x) ≡ x
lowered-raised below x low = omega (arith, ints)
