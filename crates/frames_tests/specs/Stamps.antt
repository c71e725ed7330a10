-- A stamp: which there are, and its four words.
use Rattle.std.specs.Prelude.{ℕ, ◌+◌, ◌*◌, ◌/◌, ◌%◌, ◌^◌, cond, ◌&&◌, List, [], ◌∷◌, None, Option, nat_lt}
use Rattle.payloads.specs.Checked.{checked}
use Rattle.frames_tests.specs.declared.stamp.Stamp.{Stamp}
use Rattle.frames_tests.specs.Ranges.{stamp_fits}

-- The stamp with that value, if it is in range.
abbrev pub stamp_of : ℕ → Option Stamp
stamp_of value = checked (stamp_fits value) (λ fits. record { value = value; fits = fits })

-- 28 bits of a number, from that bit on.
abbrev pub part_of : ℕ → ℕ → ℕ
part_of value from = value / 2 ^ from % 2 ^ 28

-- Its words, the highest bits first.
abbrev pub stamp_words : Stamp → List ℕ
stamp_words x = part_of x.value 84 ∷ part_of x.value 56 ∷ part_of x.value 28 ∷ part_of x.value 0 ∷ []

-- The number with these parts of 28 bits.
abbrev pub joined : ℕ → ℕ → ℕ → ℕ → ℕ
joined a b c d = (a * 2 ^ 28 + b) * 2 ^ 56 + (c * 2 ^ 28 + d)

-- The stamp with these parts, if each has at most 28 bits.
abbrev pub stamp_by : ℕ → ℕ → ℕ → ℕ → Option Stamp
stamp_by a b c d = cond (nat_lt a (2 ^ 28) && (nat_lt b (2 ^ 28) && (nat_lt c (2 ^ 28) && nat_lt d (2 ^ 28)))) (stamp_of (joined a b c d)) None

-- The stamp with these words, if there is one.
abbrev pub stamp_reads : List ℕ → Option Stamp
stamp_reads [] = None
stamp_reads (a ∷ []) = None
stamp_reads (a ∷ b ∷ []) = None
stamp_reads (a ∷ b ∷ c ∷ []) = None
stamp_reads (a ∷ b ∷ c ∷ d ∷ []) = stamp_by a b c d
stamp_reads (a ∷ b ∷ c ∷ d ∷ e ∷ ws) = None
