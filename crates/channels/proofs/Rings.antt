-- The frames of a table from a place on, round its end: how many, which, and what a write or a take makes of them. Assumes nothing.
use Rattle.std.proofs.Common.{◌≡◌, ℕ, suc, ◌+◌, ◌-◌, ◌<◌, ◌≤◌, ◌⊎◌, List, [], ◌∷◌, ◌++◌, length, get_or, take, drop, set, sym, ap, ◌∙◌, inl, inr, arith, length-append, length-drop, length-take}
use Rattle.std.proofs.lemmas.List.{take_more_set, take-append-le, drop-set-lt, drop-set-add, set-append_right, set-append_left, drop_more, drop_all, get_or_append_left, get_or-append_right, get_or-take, get_or-drop}
use Rattle.channels.specs.Lines.{ring}

module _ {F : Type 0} (t : List F) where
  pub ring-length : (h n : ℕ) → n ≤ length t → length (ring t h n) ≡ n
  ring-length h n fits = length-take n (drop h t ++ t) ∙ omega (arith, fits, length-append (drop h t) t)

  -- past the table's end is its start
  pub ring-start : (h n : ℕ) → length t ≤ h → n ≤ length t → ring t h n ≡ ring t 0 n
  ring-start h n past fits = ap (λ l. take n (l ++ t)) (drop_all h t past) ∙ sym (take-append-le n t t fits)

  -- the oldest, and the others
  pub ring-next : (h n : ℕ) (d : F) → h < length t → ring t h (suc n) ≡ get_or t h d ∷ ring t (h + 1) n
  ring-next h n d within = ap (λ l. take (suc n) (l ++ t)) (drop_more t h d within)

  -- r is the place in the table of place i of the ring from h on.
  abbrev pub Turned : (h i r : ℕ) → Type 0
  Turned h i r = (r ≡ h + i) ⊎ (length t + r ≡ h + i)

  -- the frame at a place
  pub ring-get_or : (h n i r : ℕ) (d : F) → h ≤ length t → i < n → r < length t → Turned h i r → get_or (ring t h n) i d ≡ get_or t r d
  ring-get_or h n i r d start among within way = get_or-take n (drop h t ++ t) i d among ∙ go way
    where
      rest : length (drop h t) ≡ length t - h
      rest = length-drop h t

      go : Turned h i r → get_or (drop h t ++ t) i d ≡ get_or t r d
      go (inl e) = get_or_append_left (drop h t) t d i (omega (arith, e, rest, within)) ∙ get_or-drop h t i d ∙ ap (λ j. get_or t j d) (sym e)
      go (inr e) = get_or-append_right (drop h t) t (length t - h) i d rest (omega (arith, e, start)) ∙ ap (λ j. get_or t j d) (omega (arith, e, start))

  -- a frame written behind the others
  pub ring-set : (h n r : ℕ) (f : F) → h ≤ length t → n < length t → r < length t → Turned h n r → ring (set t r f) h (n + 1) ≡ ring t h n ++ f ∷ []
  ring-set h n r f start fits within way = go way
    where
      rest : length (drop h t) ≡ length t - h
      rest = length-drop h t

      go : Turned h n r → ring (set t r f) h (n + 1) ≡ ring t h n ++ f ∷ []
      go (inl e) =
          let u = set t r f in
          let short : n ≤ length (drop h t) = omega (arith, e, rest, within) in
          let near : drop h u ≡ set (drop h t) n f = ap (λ j. drop h (set t j f)) e ∙ drop-set-add h t n f in
          ap (λ l. take (n + 1) (l ++ u)) near
          ∙ ap (take (n + 1)) (sym (set-append_left (drop h t) u n f (omega (arith, e, rest, within))))
          ∙ take_more_set (drop h t ++ u) n f (omega (arith, e, rest, within, length-append (drop h t) u))
          ∙ ap (λ l. l ++ f ∷ []) (take-append-le n (drop h t) u short ∙ sym (take-append-le n (drop h t) t short))
      go (inr e) =
          let round : set (drop h t ++ t) n f ≡ drop h t ++ set t r f =
          set-append_right (drop h t) t (length t - h) n f rest (omega (arith, e, start)) ∙ ap (λ j. drop h t ++ set t j f) (omega (arith, e, start)) in
          ap (λ l. take (n + 1) (l ++ set t r f)) (drop-set-lt h t r f (omega (arith, e, fits)))
          ∙ ap (take (n + 1)) (sym round)
          ∙ take_more_set (drop h t ++ t) n f (omega (arith, e, rest, length-append (drop h t) t))
