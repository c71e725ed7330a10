-- What `{:08X}` writes is the eight hexadecimal digits of a word.
use Rattle.std.proofs.Common.{◌≡◌, ℕ, zero, suc, ◌+◌, ◌-◌, ◌/◌, ◌%◌, ◌^◌, ◌<◌, ◌≤◌, Bool, true, false, eqb, List, [], ◌∷◌, ◌++◌, length, codes, drop, replicate, refl, sym, ap, ◌∙◌, arith}
use Rattle.std.proofs.Math.Nat.{pow-suc}
use Rattle.std.proofs.lemmas.List.{append-nil}
use Rattle.std.proofs.lemmas.Bool.{eqb-true, eq-eqb, false≢true}
use Rattle.std.specs.Fmt.{digit_glyph, digits_onto, digits, padded_integral, format_spec, char_count}
use Rattle.frametext.specs.Words.{word_text}

-- the last m digits of n, before `acc`
abbrev fixed : ℕ → ℕ → List ℕ → List ℕ
fixed zero n acc = acc
fixed (suc m) n acc = fixed m (n / 16) (digit_glyph true (n % 16) ∷ acc)

replicate-front : (m x : ℕ) (xs : List ℕ) → replicate m x ++ x ∷ xs ≡ x ∷ (replicate m x ++ xs)
replicate-front zero x xs = refl
replicate-front (suc m) x xs = ap (λ ys. x ∷ ys) (replicate-front m x xs)

fixed-zero : (m : ℕ) (acc : List ℕ) → fixed m 0 acc ≡ replicate m 48 ++ acc
fixed-zero zero acc = refl
fixed-zero (suc m) acc = fixed-zero m (48 ∷ acc) ∙ replicate-front m 48 acc

-- a number with more than one digit
some_left : (m n : ℕ) → n < 16 ^ suc m → eqb (n / 16) 0 ≡ false → 0 < m
some_left zero n small e = absurd (let none : n / 16 ≡ 0 = omega arith in false≢true (sym e ∙ eq-eqb (n / 16) 0 none))
some_left (suc m) n small e = omega arith

filled : (m k n : ℕ) (acc : List ℕ) → n < 16 ^ m → m ≤ k → 0 < m
    → replicate (m + length acc - length (digits_onto k 16 true n acc)) 48 ++ digits_onto k 16 true n acc ≡ fixed m n acc
filled zero k n acc small le some = absurd (omega arith)
filled (suc m) zero n acc small le some = absurd (omega arith)
filled (suc m) (suc k) n acc small le some =
    go (eqb (n / 16) 0) refl (filled m k (n / 16) (digit_glyph true (n % 16) ∷ acc) (omega (arith, pow-suc 16 m)) (omega arith))
  where
    go : (t : Bool) → eqb (n / 16) 0 ≡ t
        → (0 < m → let ds = digit_glyph true (n % 16) ∷ acc in let front = digits_onto k 16 true (n / 16) ds in
        replicate (m + length ds - length front) 48 ++ front ≡ fixed m (n / 16) ds)
        → replicate (suc m + length acc - length (digits_onto (suc k) 16 true n acc)) 48 ++ digits_onto (suc k) 16 true n acc ≡ fixed (suc m) n acc
    go true e more =
        let ds = digit_glyph true (n % 16) ∷ acc in
        let none : n / 16 ≡ 0 = eqb-true (n / 16) 0 e in
        let count : suc m + length acc - suc (length acc) ≡ m = omega arith in
        rw e (ap (λ j. replicate j 48 ++ ds) count ∙ sym (fixed-zero m ds) ∙ ap (λ q. fixed m q ds) (sym none))
    go false e more =
        let ds = digit_glyph true (n % 16) ∷ acc in
        let front = digits_onto k 16 true (n / 16) ds in
        let count : suc m + length acc ≡ m + suc (length acc) = omega arith in
        rw e (ap (λ j. replicate (j - length front) 48 ++ front) count ∙ more (some_left m n small e))

-- eight digits of a word, the highest first
eight : (w : ℕ) → w < 2 ^ 32 → fixed 8 w [] ≡ drop 2 (word_text w)
eight w small =
    let a : w / 16 / 16 / 16 / 16 / 16 / 16 / 16 % 16 ≡ w / 2 ^ 28 = omega arith in
    let b : w / 16 / 16 / 16 / 16 / 16 / 16 ≡ w / 2 ^ 24 = omega arith in
    let c : w / 16 / 16 / 16 / 16 / 16 ≡ w / 2 ^ 20 = omega arith in
    let d : w / 16 / 16 / 16 / 16 ≡ w / 2 ^ 16 = omega arith in
    let e : w / 16 / 16 / 16 ≡ w / 2 ^ 12 = omega arith in
    let f : w / 16 / 16 ≡ w / 2 ^ 8 = omega arith in
    cc

-- `{:08X}` of a word, behind `0x`
pub hex_shown : (w : ℕ) → w < 2 ^ 32 → codes "0x" ++ padded_integral (format_spec 32 0 4 8 (2 ^ 64 - 1)) false [] (digits 16 true w) ≡ word_text w
unfolding padded_integral digits char_count
hex_shown w small =
    let ds = digits_onto 64 16 true w [] in
    let count : 8 - length ds - 0 - 0 ≡ 8 + 0 - length ds = omega arith in
    ap (λ bs. codes "0x" ++ bs) (
    ap (λ j. replicate j 48 ++ (ds ++ [])) count
    ∙ ap (λ bs. replicate (8 + 0 - length ds) 48 ++ bs) (append-nil ds)
    ∙ filled 8 64 w [] small (omega arith) (omega arith)
    ∙ eight w small
    )
