-- The laws of a profile line's word.
use Rattle.std.specs.Prelude.{◌≡◌, ℕ, ◌+◌, ◌*◌, ◌/◌, ◌%◌, ◌^◌, ◌<◌, ◌≤◌, true, ◌&&◌, List, [], ◌∷◌, pos, negsuc, ◌+ℤ◌, ◌≤ℤ◌, Some, int_le, nat_le}
use Rattle.std.proofs.Common.{sym, ap, ◌∙◌, arith}
use Rattle.std.proofs.lemmas.Int.{ints}
use Rattle.std.proofs.lemmas.Nat.{div-mul-add, mod-mul-add}
use Rattle.std.proofs.lemmas.Bool.{leb-true, and_parts}
use Rattle.payloads.specs.declared.line.ProfileLine.{ProfileLine}
use Rattle.payloads.specs.Ranges.{raised, lowered}
use Rattle.payloads.specs.Lines.{line_of, line_words, line_reads}
use Rattle.payloads.specs.Made.{checked-at, checked-only}
use Rattle.payloads.specs.Signs.{raised-lowered, lowered-raised}

-- a line is the one with its parts
pub line_of-parts : (x : ProfileLine) → line_of x.place x.step ≡ Some x
line_of-parts x = checked-at _ _ x.fits

-- what the invariant says, as orders
pub record InRange (x : ProfileLine) : Type 0 where
  pub place : x.place ≤ 1023
  pub low : pos 0 ≤ℤ (x.step +ℤ pos 32768)
  pub high : x.step ≤ℤ pos 32767
  pub raised : raised 32768 x.step < 65536

pub in_range : (x : ProfileLine) → InRange x
in_range x =
    let p = and_parts (nat_le x.place 1023) (int_le (negsuc 32767) x.step && int_le x.step (pos 32767)) x.fits in
    let q = and_parts (int_le (negsuc 32767) x.step) (int_le x.step (pos 32767)) p.1 in
    let a : int_le (negsuc 32767) x.step ≡ true = q.0 in
    let b : int_le x.step (pos 32767) ≡ true = q.1 in
    record {
      place = leb-true x.place 1023 p.0;
      low = omega (arith, ints);
      high = omega (arith, ints);
      raised = omega (arith, ints);
    }

pub line_back : (x : ProfileLine) → line_reads (line_words x) ≡ Some x
line_back x =
    let r = in_range x in
    let n = raised 32768 x.step in
    ap (λ p. line_of p (lowered 32768 ((x.place * 2 ^ 16 + n) % 2 ^ 16))) (div-mul-add x.place (2 ^ 16) n r.raised)
    ∙ ap (λ m. line_of x.place (lowered 32768 m)) (mod-mul-add x.place (2 ^ 16) n r.raised)
    ∙ ap (line_of x.place) (lowered-raised 32768 x.step r.low)
    ∙ line_of-parts x

pub line_only : (ws : List ℕ) (x : ProfileLine) → line_reads ws ≡ Some x → ws ≡ line_words x
line_only [] x e = let z : ◌≡◌ {A = ℕ} 0 1 = cc in absurd (omega arith)
line_only (w ∷ []) x e =
    let p = checked-only _ _ x e in
    let place : x.place ≡ w / 2 ^ 16 = sym (ap (λ (y : ProfileLine). y.place) p.1) in
    let step : x.step ≡ lowered 32768 (w % 2 ^ 16) = sym (ap (λ (y : ProfileLine). y.step) p.1) in
    let low = ap (raised 32768) step ∙ raised-lowered 32768 (w % 2 ^ 16) in
    ap (λ v. v ∷ []) (omega (arith, place, low))
line_only (w ∷ v ∷ ws) x e = let z : ◌≡◌ {A = ℕ} 0 1 = cc in absurd (omega arith)
