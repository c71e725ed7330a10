-- Frames put in turn. Assumes nothing.
use Rattle.std.proofs.Common.{◌⊎◌, List, [], ◌∷◌, Option, sym, subst, inl, inr, ⊎_elim}
use Rattle.std.specs.List.{ContainsAt, FoldsTo}
use Rattle.std.proofs.ByRecursion.{has_append_left, has_append_right, has_push}
use Rattle.channels.specs.Channels.{Lawful}

-- What waits after several puts waited before or was put.
pub chained_adds : {C F : Type 0} {waits : C → List F} {puts : C → F → C → Type 0} {takes : C → Option F → C → Type 0} → Lawful waits puts takes
    → (fs : List F) (c d : C) → FoldsTo puts c fs d → (g : F) → ContainsAt (waits d) g → ContainsAt (waits c) g ⊎ ContainsAt fs g
chained_adds {waits = waits} laws [] c d e g m = inl (subst (λ s. ContainsAt (waits s) g) (sym e) m)
chained_adds laws (f ∷ fs) c d p g m =
    ⊎_elim (λ k. ⊎_elim inl (λ e. inr (has_append_left (f ∷ []) fs g (subst (ContainsAt (f ∷ [])) e (has_push [] f)))) (laws.put_adds c f p.0 p.1 g k))
    (λ k. inr (has_append_right (f ∷ []) fs g k)) (chained_adds laws fs p.0 d p.2 g m)
