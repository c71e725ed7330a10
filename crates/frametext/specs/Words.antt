-- The text of a word, as `0x8000001F`, and the word in a text.
use Rattle.std.specs.Prelude.{ℕ, ◌/◌, ◌%◌, ◌^◌, true, List, [], ◌∷◌, ◌++◌, Some, None, codes, Option}
use Rattle.std.specs.Fmt.{digit_glyph}
use Rattle.frametext.specs.Scan.{stripped}
use Rattle.frametext.specs.Numbers.{number_in}

-- The text behind a label, or all of it where it has none.
abbrev pub unlabelled : Option (List ℕ) → List ℕ → List ℕ
unlabelled (Some rest) bs = rest
unlabelled None bs = bs

-- The word of 32 bits that a text is, in hexadecimal digits, perhaps behind `0x`.
abbrev pub word_in : List ℕ → Option ℕ
word_in bs = number_in 16 32 (unlabelled (stripped (codes "0x") bs) bs)

-- A hexadecimal digit, for a number below 16.
abbrev pub digit_text : ℕ → List ℕ
digit_text d = digit_glyph true d ∷ []

-- A word is `0x` and eight hexadecimal digits, the highest first.
abbrev pub word_text : ℕ → List ℕ
word_text w =
    codes "0x" ++ (digit_text (w / 2 ^ 28) ++ (digit_text (w / 2 ^ 24 % 16) ++ (digit_text (w / 2 ^ 20 % 16) ++ (digit_text (w / 2 ^ 16 % 16)
    ++ (digit_text (w / 2 ^ 12 % 16) ++ (digit_text (w / 2 ^ 8 % 16) ++ (digit_text (w / 2 ^ 4 % 16) ++ digit_text (w % 16))))))))

-- A text with one more word, a space before it unless it is the first.
abbrev pub with_word : List ℕ → List ℕ → List ℕ
with_word [] word = word
with_word (b ∷ bs) word = (b ∷ bs) ++ (32 ∷ word)

-- Words one space apart.
abbrev pub words_text : List ℕ → List ℕ
words_text [] = []
words_text (w ∷ []) = word_text w
words_text (w ∷ v ∷ ws) = word_text w ++ (32 ∷ words_text (v ∷ ws))
