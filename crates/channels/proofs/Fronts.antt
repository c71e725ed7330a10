-- The first frames of a table: which they are, and what a frame added or removed makes of them. Assumes nothing.
use Rattle.std.proofs.Common.{◌≡◌, ℕ, ◌+◌, ◌-◌, ◌<◌, ◌≤◌, ◌⊎◌, List, length, get_or, Some, take, drop, set, sym, ap, ◌∙◌, subst, inl, inr, ⊎_elim, arith, length-set, take-append-drop, length-take, take-take}
use Rattle.std.specs.List.{ContainsAt, slice_get}
use Rattle.std.proofs.ByRecursion.{has_append_left, has_get_or, has_push_cases}
use Rattle.std.proofs.Math.Seq.{take-set-lt}
use Rattle.std.proofs.lemmas.List.{take_more_set, take-set-le, get_or-take, get_or-set_same, get_or-set_other}
use Rattle.std.proofs.lemmas.Option.{slice_get-get_or}
use Rattle.std.proofs.lemmas.Bool.{cases_eq, cases_lt}
use Rattle.channels.specs.Wilds.{AddsOnly}

module _ {F : Type 0} where
  -- one frame more, behind the front
  pub front_adds : (n : ℕ) (t : List F) → n < length t → (f : F) → AddsOnly (take n t) f (take (n + 1) (set t n f))
  front_adds n t room f = subst (AddsOnly (take n t) f) (sym (take_more_set t n f room)) (record { each = λ g m. has_push_cases (take n t) f g m })

  -- what is added to what was added
  pub adds_again : (f : F) (fs gs hs : List F) → AddsOnly gs f hs → AddsOnly fs f gs → AddsOnly fs f hs
  adds_again f fs gs hs new old = record { each = λ g m. ⊎_elim (old.each g) inr (new.each g m) }

  -- one frame more, behind a front that has what was added before
  pub front_adds_again : (n : ℕ) (t : List F) → n < length t → (f : F) (fs : List F) → AddsOnly fs f (take n t) → AddsOnly fs f (take (n + 1) (set t n f))
  front_adds_again n t room f fs old = adds_again f fs (take n t) (take (n + 1) (set t n f)) (front_adds n t room f) old

  -- the frame read at a place of a list
  pub has_read : (fs : List F) (i : ℕ) (f : F) → i < length fs → f ≡ get_or fs i f → ContainsAt fs f
  has_read fs i f among read = subst (ContainsAt fs) (sym read) (has_get_or fs i f among)

  -- and it is the frame at that place
  pub nth_read : (fs : List F) (i : ℕ) (f : F) → i < length fs → f ≡ get_or fs i f → Some f ≡ slice_get fs i
  nth_read fs i f among read = sym (slice_get-get_or fs i f among ∙ ap Some (sym read))

  -- a frame of the front of a list
  has_take : (n : ℕ) (fs : List F) (g : F) → ContainsAt (take n fs) g → ContainsAt fs g
  has_take n fs g m = subst (λ l. ContainsAt l g) (take-append-drop n fs) (has_append_left (take n fs) (drop n fs) g m)

  -- a frame of a list in which one was overwritten
  has_set : (fs : List F) (i : ℕ) (f g : F) → ContainsAt (set fs i f) g → ContainsAt fs g ⊎ (f ≡ g)
  has_set fs i f g m = go (cases_eq m.0 i)
    where
      within : m.0 < length fs
      within = omega (arith, m.1, length-set fs i f)

      go : (m.0 ≡ i) ⊎ (m.0 ≡ i → ⊥) → ContainsAt fs g ⊎ (f ≡ g)
      go (inl e) = inr (sym (get_or-set_same fs i f f (omega (arith, e, within))) ∙ ap (λ k. get_or (set fs i f) k f) (sym e) ∙ m.2 f)
      go (inr ne) = inl (m.0, within, λ d. sym (get_or-set_other fs i m.0 f d ne) ∙ m.2 d)

  -- the last frame of the front overwrites another, and is dropped
  pub front_removed : (n at : ℕ) (t : List F) (d g : F) → 0 < n → n ≤ length t
      → ContainsAt (take (n - 1) (set t at (get_or t (n - 1) d))) g → ContainsAt (take n t) g
  front_removed n at t d g some fits m = go (cases_lt at (n - 1))
    where
      last : F
      last = get_or t (n - 1) d

      before : ContainsAt (take (n - 1) t) g → ContainsAt (take n t) g
      before k = has_take (n - 1) (take n t) g (subst (λ l. ContainsAt l g) (sym (take-take (n - 1) n t (omega arith))) k)

      is_last : last ≡ g → ContainsAt (take n t) g
      is_last e = subst (ContainsAt (take n t)) (get_or-take n t (n - 1) d (omega (arith, some)) ∙ e)
          (has_get_or (take n t) (n - 1) d (omega (arith, some, fits, length-take n t)))

      go : (at < n - 1) ⊎ (n - 1 ≤ at) → ContainsAt (take n t) g
      go (inl lt) = ⊎_elim before is_last (has_set (take (n - 1) t) at last g (subst (λ l. ContainsAt l g) (take-set-lt (n - 1) t at last lt) m))
      go (inr ge) = before (subst (λ l. ContainsAt l g) (take-set-le (n - 1) t at last ge) m)
