-- The places of a line's frames in its table. Assumes nothing.
use Rattle.std.proofs.Common.{◌≡◌, ℕ, suc, ◌+◌, ◌-◌, ◌<◌, ◌≤◌, List, [], ◌∷◌, ◌++◌, length, get_or, set, Some, sym, ap, ◌∙◌, inl, inr, arith}
use Rattle.std.specs.List.{slice_get}
use Rattle.std.proofs.lemmas.Option.{slice_get-get_or}
use Rattle.channels.specs.Lines.{ring}
use Rattle.channels.proofs.Rings.{Turned, ring-length, ring-start, ring-next, ring-get_or, ring-set}

module _ {F : Type 0} (t : List F) (h c i r : ℕ) (starts : h ≤ length t) (fits : c ≤ length t) (room : i < length t) (within : r < length t)
    (way : Turned t h i r) where
  pub place_reads : i < c → (f : F) → f ≡ get_or t r f → Some f ≡ slice_get (ring t h c) i
  place_reads among f read =
      sym (slice_get-get_or (ring t h c) i f (omega (arith, among, ring-length t h c fits))
      ∙ ap Some (ring-get_or t h c i r f starts among within way ∙ sym read))

  pub place_writes : i ≡ c → (f : F) → ring (set t r f) h (i + 1) ≡ ring t h c ++ f ∷ []
  place_writes all f = ring-set t h i r f starts room within way ∙ ap (λ n. ring t h n ++ f ∷ []) all

  pub place_oldest : i ≡ 0 → 0 < c → (f : F) → f ≡ get_or t r f → ring t h c ≡ f ∷ ring t (r + 1) (c - 1)
  place_oldest first some f read = ap (ring t h) more ∙ here way ∙ ap (λ x. x ∷ ring t (r + 1) (c - 1)) (sym read)
    where
      more : c ≡ suc (c - 1)
      more = omega (arith, some)

      here : Turned t h i r → ring t h (suc (c - 1)) ≡ get_or t r f ∷ ring t (r + 1) (c - 1)
      here (inl e) =
          let same : h ≡ r = omega (arith, e, first) in
          ap (λ j. ring t j (suc (c - 1))) same ∙ ring-next t r (c - 1) f within
      here (inr e) =
          let round : 0 ≡ r = omega (arith, e, first, starts) in
          ring-start t h (suc (c - 1)) (omega (arith, e, first)) (omega (arith, fits, more))
          ∙ ap (λ j. ring t j (suc (c - 1))) round
          ∙ ring-next t r (c - 1) f within
