-- The laws of a stamp's words.
use Rattle.std.specs.Prelude.{◌≡◌, ℕ, ◌+◌, ◌*◌, ◌/◌, ◌^◌, ◌<◌, Bool, true, false, cond, ◌&&◌, List, [], ◌∷◌, Some, None, Option, nat_lt, refl}
use Rattle.std.proofs.Common.{ap, ◌∙◌, arith}
use Rattle.std.proofs.lemmas.Nat.{shr-shr}
use Rattle.std.proofs.lemmas.Bool.{ltb-true, lt-ltb, and_parts}
use Rattle.frames_tests.specs.declared.stamp.Stamp.{Stamp}
use Rattle.frames_tests.specs.Stamps.{stamp_of, part_of, stamp_words, joined, stamp_by, stamp_reads}
use Rattle.payloads.specs.Made.{checked-at, checked-only}

-- what stands under a test, where it is something
under : {X : Type 0} (t : Bool) (o : Option X) (x : X) → cond t o None ≡ Some x → (t ≡ true) × (o ≡ Some x)
under true o x e = (refl, e)
under false o x e = let z : ◌≡◌ {A = ℕ} 0 1 = cc in absurd (omega arith)

-- a stamp is the one with its value
pub stamp_of-value : (x : Stamp) → stamp_of x.value ≡ Some x
stamp_of-value x = checked-at _ _ x.fits

-- four numbers of 28 bits, as one test and as orders
record Narrow (a b c d : ℕ) : Type 0 where
  first : a < 2 ^ 28
  second : b < 2 ^ 28
  third : c < 2 ^ 28
  fourth : d < 2 ^ 28

narrow : (a b c d : ℕ) → (nat_lt a (2 ^ 28) && (nat_lt b (2 ^ 28) && (nat_lt c (2 ^ 28) && nat_lt d (2 ^ 28)))) ≡ true → Narrow a b c d
narrow a b c d e =
    let p = and_parts (nat_lt a (2 ^ 28)) _ e in
    let q = and_parts (nat_lt b (2 ^ 28)) _ p.1 in
    let r = and_parts (nat_lt c (2 ^ 28)) (nat_lt d (2 ^ 28)) q.1 in
    record {
      first = ltb-true a (2 ^ 28) p.0;
      second = ltb-true b (2 ^ 28) q.0;
      third = ltb-true c (2 ^ 28) r.0;
      fourth = ltb-true d (2 ^ 28) r.1;
    }

stamp_by-narrow : (a b c d : ℕ) → Narrow a b c d → stamp_by a b c d ≡ stamp_of (joined a b c d)
stamp_by-narrow a b c d n =
    let p = lt-ltb a (2 ^ 28) n.first in
    let q = lt-ltb b (2 ^ 28) n.second in
    let r = lt-ltb c (2 ^ 28) n.third in
    let s = lt-ltb d (2 ^ 28) n.fourth in
    rw (p, q, r, s)

-- a number of 112 bits is what its parts join to
joined-parts : (v : ℕ) → v < 2 ^ 112 → joined (part_of v 84) (part_of v 56) (part_of v 28) (part_of v 0) ≡ v
joined-parts v h =
    let top : v / 2 ^ 84 ≡ part_of v 84 = omega arith in
    let second : v / 2 ^ 56 ≡ v / 2 ^ 84 * 2 ^ 28 + part_of v 56 = omega (arith, shr-shr v 56 28) in
    let third : v / 2 ^ 28 ≡ v / 2 ^ 56 * 2 ^ 28 + part_of v 28 = omega (arith, shr-shr v 28 28) in
    let fourth : v ≡ v / 2 ^ 28 * 2 ^ 28 + part_of v 0 = omega arith in
    omega arith

pub stamp_back : (x : Stamp) → stamp_reads (stamp_words x) ≡ Some x
stamp_back x =
    let v = x.value in
    let n : Narrow (part_of v 84) (part_of v 56) (part_of v 28) (part_of v 0) =
    record { first = omega arith; second = omega arith; third = omega arith; fourth = omega arith } in
    stamp_by-narrow (part_of v 84) (part_of v 56) (part_of v 28) (part_of v 0) n
    ∙ ap stamp_of (joined-parts v (ltb-true v (2 ^ 112) x.fits))
    ∙ stamp_of-value x

-- what four numbers of 28 bits join to has them as its parts
record Parts (v a b c d : ℕ) : Type 0 where
  first : a ≡ part_of v 84
  second : b ≡ part_of v 56
  third : c ≡ part_of v 28
  fourth : d ≡ part_of v 0

parts_joined : (v a b c d : ℕ) → Narrow a b c d → joined a b c d ≡ v → Parts v a b c d
parts_joined v a b c d n e = record { first = omega arith; second = omega arith; third = omega arith; fourth = omega arith }

pub stamp_only : (ws : List ℕ) (x : Stamp) → stamp_reads ws ≡ Some x → ws ≡ stamp_words x
stamp_only [] x e = let z : ◌≡◌ {A = ℕ} 0 1 = cc in absurd (omega arith)
stamp_only (a ∷ []) x e = let z : ◌≡◌ {A = ℕ} 0 1 = cc in absurd (omega arith)
stamp_only (a ∷ b ∷ []) x e = let z : ◌≡◌ {A = ℕ} 0 1 = cc in absurd (omega arith)
stamp_only (a ∷ b ∷ c ∷ []) x e = let z : ◌≡◌ {A = ℕ} 0 1 = cc in absurd (omega arith)
stamp_only (a ∷ b ∷ c ∷ d ∷ []) x e =
    let t = under _ (stamp_of (joined a b c d)) x e in
    let value : joined a b c d ≡ x.value = ap (λ (y : Stamp). y.value) (checked-only _ _ x t.1).1 in
    let p = parts_joined x.value a b c d (narrow a b c d t.0) value in
    cc (p.first, p.second, p.third, p.fourth)
stamp_only (a ∷ b ∷ c ∷ d ∷ f ∷ ws) x e = let z : ◌≡◌ {A = ℕ} 0 1 = cc in absurd (omega arith)
