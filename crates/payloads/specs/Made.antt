-- The laws of a value that is made where a test holds.
use Rattle.std.specs.Prelude.{◌≡◌, ℕ, Bool, true, false, Some, None, refl}
use Rattle.std.proofs.Common.{ap, arith}
use Rattle.std.proofs.Math.Bool.{Bool-set}
use Rattle.payloads.specs.Checked.{checked}

pub checked-at : {X : Type 0} (t : Bool) (make : t ≡ true → X) (e : t ≡ true) → checked t make ≡ Some (make e)
unfolding checked
checked-at true make e = ap (λ h. Some (make h)) (Bool-set true true refl e)
checked-at false make e = let z : ◌≡◌ {A = ℕ} 0 1 = cc in absurd (omega arith)

pub checked-none : {X : Type 0} (t : Bool) (make : t ≡ true → X) → t ≡ false → checked t make ≡ None
unfolding checked
checked-none true make e = let z : ◌≡◌ {A = ℕ} 0 1 = cc in absurd (omega arith)
checked-none false make e = refl

pub checked-only : {X : Type 0} (t : Bool) (make : t ≡ true → X) (x : X) → checked t make ≡ Some x → (e : t ≡ true) × (make e ≡ x)
unfolding checked
checked-only true make x h = (refl, cc)
checked-only false make x h = let z : ◌≡◌ {A = ℕ} 0 1 = cc in absurd (omega arith)
