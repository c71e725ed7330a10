-- What comes out of a channel in which none waited, after two puts. Assumes nothing.
use Rattle.std.proofs.Common.{◌≡◌, zero, suc, ◌⊎◌, List, [], ◌∷◌, IfSome, Some, None, Option, subst, inl, inr, ⊎_elim, arith}
use Rattle.std.specs.List.{FoldsTo, ContainsAt}
use Rattle.channels.specs.Channels.{Lawful}
use Rattle.channels.proofs.Chains.{chained_adds}

has_none : {F : Type 0} (f : F) → ContainsAt [] f → ⊥
has_none f m = omega (arith, m.1)

has_two : {F : Type 0} (a b f : F) → ContainsAt (a ∷ b ∷ []) f → (a ≡ f) ⊎ (b ≡ f)
has_two a b f (zero, within, is) = inl (is a)
has_two a b f (suc zero, within, is) = inr (is a)
has_two a b f (suc (suc k), within, is) = absurd (omega arith)

module _ {C F : Type 0} {waits : C → List F} {puts : C → F → C → Type 0} {takes : C → Option F → C → Type 0} (laws : Lawful waits puts takes) where
  pub one_of_two : (a b : F) (c m d : C) (o : Option F) → FoldsTo puts c (a ∷ b ∷ []) m → takes m o d → waits c ≡ []
      → IfSome o (λ f. (a ≡ f) ⊎ (b ≡ f))
  one_of_two a b c m d None p t e = tt
  one_of_two a b c m d (Some f) p t e =
      ⊎_elim (λ k. absurd (has_none f (subst (λ l. ContainsAt l f) e k))) (has_two a b f) (chained_adds laws (a ∷ b ∷ []) c m p f (laws.take_gives m f d t))
