-- Texts, as lists of bytes, taken apart.
use Rattle.std.specs.Prelude.{◌≡◌, ℕ, cond, List, [], ◌∷◌, Some, None, Option, MatchOption, ◌==◌}
use Rattle.std.specs.Borrow.{Bor}

-- The text before the first byte c, which is all of it where there is no such byte.
abbrev pub before : ℕ → List ℕ → List ℕ
before c [] = []
before c (b ∷ bs) = cond (b == c) [] (b ∷ before c bs)

-- The text behind the first byte c, if there is one.
abbrev pub behind : ℕ → List ℕ → Option (List ℕ)
behind c [] = None
behind c (b ∷ bs) = cond (b == c) (Some bs) (behind c bs)

-- What a cut at c gives: the texts before and behind it, or nothing where c does not come.
abbrev pub Cut : ℕ → List ℕ → Option (Bor (List ℕ) × Bor (List ℕ)) → Type 0
Cut c bs r = MatchOption r ((before c bs ≡ bs) × (behind c bs ≡ None)) (λ x. (x.0.now ≡ before c bs) × (behind c bs ≡ Some x.1.now))

-- The text behind a label that it begins with.
abbrev pub stripped : List ℕ → List ℕ → Option (List ℕ)
stripped [] bs = Some bs
stripped (c ∷ cs) [] = None
stripped (c ∷ cs) (b ∷ bs) = cond (b == c) (stripped cs bs) None

-- The text, or an empty one.
abbrev pub or_empty : Option (List ℕ) → List ℕ
or_empty (Some bs) = bs
or_empty None = []

-- The first word of a text, and the text behind the space that ends it.
abbrev pub first_word : List ℕ → List ℕ
first_word bs = before 32 bs

abbrev pub other_words : List ℕ → List ℕ
other_words bs = or_empty (behind 32 bs)
