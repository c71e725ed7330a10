-- A line is a channel. It stands here, and not in proofs/, since a ghost member cites it. Assumes nothing.
use Rattle.std.specs.Prelude.{◌≡◌, ◌<◌, ◌≤◌, ◌⊎◌, [], ◌∷◌, length, Some, None, Option}
use Rattle.std.proofs.Common.{subst, sym, ◌∙◌, inl, inr}
use Rattle.std.specs.List.{ContainsAt}
use Rattle.std.proofs.ByRecursion.{has_append_left, has_append_right, has_push, has_push_cases}
use Rattle.std.proofs.lemmas.Bool.{cases_lt}
use Rattle.channels.specs.Channels.{Lawful}
use Rattle.channels.specs.Lines.{line_room, line_waits, LinePuts, LineTakes}
use Rattle.channels.specs.declared.line.Line.{Line}

module _ {F : Type 0} where
  adds : (c : Line F) (f : F) (d : Line F) → LinePuts c f d → (g : F) → ContainsAt (line_waits d) g → ContainsAt (line_waits c) g ⊎ (f ≡ g)
  adds c f d p g m = go (cases_lt (length (line_waits c)) (line_room c))
    where
      go : (length (line_waits c) < line_room c) ⊎ (line_room c ≤ length (line_waits c)) → ContainsAt (line_waits c) g ⊎ (f ≡ g)
      go (inl fits) = has_push_cases (line_waits c) f g (subst (λ l. ContainsAt l g) (p.added fits) m)
      go (inr full) = inl (subst (λ l. ContainsAt l g) (p.lost full) m)

  gives : (c : Line F) (f : F) (d : Line F) → LineTakes c (Some f) d → ContainsAt (line_waits c) f
  gives c f d t = subst (λ l. ContainsAt l f) (sym t.oldest) (has_append_left (f ∷ []) (line_waits d) f (has_push [] f))

  leaves : (c : Line F) (o : Option F) (d : Line F) → LineTakes c o d → (g : F) → ContainsAt (line_waits d) g → ContainsAt (line_waits c) g
  leaves c None d t g m = subst (λ l. ContainsAt l g) (t.oldest.1 ∙ sym t.oldest.0) m
  leaves c (Some f) d t g m = subst (λ l. ContainsAt l g) (sym t.oldest) (has_append_right (f ∷ []) (line_waits d) g m)

  pub line_lawful : Lawful {C = Line F} {F = F} line_waits LinePuts LineTakes
  line_lawful = record { put_adds = adds; take_gives = gives; take_leaves = leaves }
