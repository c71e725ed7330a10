-- What `split_once` and `strip_prefix` find is what the definitions say.
use Rattle.std.specs.Prelude.{◌≡◌, ℕ, suc, ◌+◌, ◌<◌, Bool, true, false, cond, List, [], ◌∷◌, ◌++◌, length, drop, Some, None, Option, MatchOption, ◌==◌, ◌≢◌, slice_index, refl}
use Rattle.std.proofs.Common.{sym, ap, ◌∙◌, arith}
use Rattle.std.specs.Borrow.{Bor}
use Rattle.std.specs.Str.Pattern.{FindsTextPrefix}
use Rattle.std.specs.Option.{option_map}
use Rattle.std.proofs.lemmas.Str.Pattern.{IsSplitOnceResult, split_parts}
use Rattle.std.proofs.lemmas.Bool.{eqb-true, eq-eqb, ne_eqb}
use Rattle.frametext.specs.Scan.{Cut, before, behind, stripped}

-- no byte of xs is c
abbrev pub Lacks : ℕ → List ℕ → Type 0
Lacks c xs = (i : ℕ) → i < length xs → slice_index xs i ≢ c

lacks_rest : (c x : ℕ) (xs : List ℕ) → Lacks c (x ∷ xs) → Lacks c xs
lacks_rest c x xs lacks i h e = lacks (suc i) (omega arith) e

other : (c x : ℕ) (xs : List ℕ) → Lacks c (x ∷ xs) → (x == c) ≡ false
other c x xs lacks = ne_eqb x c (λ e. lacks 0 (omega arith) e)

pub before-cut : (c : ℕ) (xs ys : List ℕ) → Lacks c xs → before c (xs ++ c ∷ ys) ≡ xs
before-cut c [] ys lacks = rw (eq-eqb c c refl)
before-cut c (x ∷ xs) ys lacks = rw (other c x xs lacks, before-cut c xs ys (lacks_rest c x xs lacks))

pub behind-cut : (c : ℕ) (xs ys : List ℕ) → Lacks c xs → behind c (xs ++ c ∷ ys) ≡ Some ys
behind-cut c [] ys lacks = rw (eq-eqb c c refl)
behind-cut c (x ∷ xs) ys lacks = rw (other c x xs lacks, behind-cut c xs ys (lacks_rest c x xs lacks))

pub before-all : (c : ℕ) (xs : List ℕ) → Lacks c xs → before c xs ≡ xs
before-all c [] lacks = refl
before-all c (x ∷ xs) lacks = rw (other c x xs lacks, before-all c xs (lacks_rest c x xs lacks))

pub behind-none : (c : ℕ) (xs : List ℕ) → Lacks c xs → behind c xs ≡ None
behind-none c [] lacks = refl
behind-none c (x ∷ xs) lacks = rw (other c x xs lacks, behind-none c xs (lacks_rest c x xs lacks))

pub stripped-front : (label rest : List ℕ) → stripped label (label ++ rest) ≡ Some rest
stripped-front [] rest = refl
stripped-front (c ∷ label) rest = rw (eq-eqb c c refl, stripped-front label rest)

stripped-only : (label bs rest : List ℕ) → stripped label bs ≡ Some rest → bs ≡ label ++ rest
stripped-only [] bs rest e = cc
stripped-only (c ∷ label) [] rest e = let z : ◌≡◌ {A = ℕ} 0 1 = cc in absurd (omega arith)
stripped-only (c ∷ label) (b ∷ bs) rest e = go (b == c) (eqb-true b c) (stripped-only label bs rest) e
  where
    go : (t : Bool) → (t ≡ true → b ≡ c) → (stripped label bs ≡ Some rest → bs ≡ label ++ rest)
        → cond t (stripped label bs) None ≡ Some rest → b ∷ bs ≡ c ∷ (label ++ rest)
    go true same more h = ap (λ x. x ∷ bs) (same refl) ∙ ap (λ xs. c ∷ xs) (more h)
    go false same more h = let z : ◌≡◌ {A = ℕ} 0 1 = cc in absurd (omega arith)

pub stripped-none : (label bs : List ℕ) → ((rest : List ℕ) → bs ≢ label ++ rest) → stripped label bs ≡ None
stripped-none label bs never = go (stripped label bs) refl
  where
    go : (o : Option (List ℕ)) → stripped label bs ≡ o → o ≡ None
    go None e = refl
    go (Some rest) e = absurd (never rest (stripped-only label bs rest e))

-- the clause of `strip_prefix` at a text
pub strip_read : (label bs : List ℕ) (r : Option (Bor (List ℕ)))
    → MatchOption r (FindsTextPrefix label bs None) (λ x. (n : ℕ) × FindsTextPrefix label bs (Some n) × (x.now ≡ drop n bs) × (length x.now + n ≡ length bs))
    → option_map (λ x. x.now) r ≡ stripped label bs
strip_read label bs None h = sym (stripped-none label bs h)
strip_read label bs (Some x) h =
    sym (ap (stripped label) h.1.1 ∙ stripped-front label (drop h.0 bs) ∙ ap Some (sym h.2))

-- the clause of `split_once` at an ASCII byte
pub cut_read : (c : ℕ) (bs : List ℕ) (r : Option (Bor (List ℕ) × Bor (List ℕ))) → IsSplitOnceResult c bs r → c < 128 → Cut c bs r
cut_read c bs None h ascii = let lacks = split_parts c bs None h ascii in (before-all c bs lacks, behind-none c bs lacks)
cut_read c bs (Some x) h ascii =
    let p = split_parts c bs (Some x) h ascii in (
      sym (ap (before c) p.0 ∙ before-cut c x.0.now x.1.now p.1),
      ap (behind c) p.0 ∙ behind-cut c x.0.now x.1.now p.1,
    )
