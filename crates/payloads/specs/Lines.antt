-- A profile line: which there are, and its one word.
use Rattle.std.specs.Prelude.{ℕ, ◌+◌, ◌*◌, ◌/◌, ◌%◌, ◌^◌, List, [], ◌∷◌, ℤ, None, Option}
use Rattle.payloads.specs.declared.line.ProfileLine.{ProfileLine}
use Rattle.payloads.specs.Checked.{checked}
use Rattle.payloads.specs.Ranges.{line_fits, raised, lowered}

-- The line with these parts, if they are in range.
abbrev pub line_of : ℕ → ℤ → Option ProfileLine
line_of place step = checked (line_fits place step) (λ fits. record { place = place; step = step; fits = fits })

-- Its word: the place in bits 25–16, the step counted from −32,768 on in bits 15–0.
abbrev pub line_words : ProfileLine → List ℕ
line_words x = (x.place * 2 ^ 16 + raised 32768 x.step) ∷ []

-- The line with these words, if there is one.
abbrev pub line_reads : List ℕ → Option ProfileLine
line_reads [] = None
line_reads (w ∷ []) = line_of (w / 2 ^ 16) (lowered 32768 (w % 2 ^ 16))
line_reads (w ∷ v ∷ ws) = None
