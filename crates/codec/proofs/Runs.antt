-- Words read one by one, and words written over the front of a run.
use Rattle.std.proofs.Common.{◌≡◌, ℕ, zero, suc, ◌+◌, ◌-◌, ◌<◌, false, eqb, List, [], ◌∷◌, ◌++◌, length, get_or, take, drop, set, sym, ap, ◌∙◌, arith}
use borrow.Rule.Slice.PartMut.{put_mid}
use Rattle.std.proofs.lemmas.List.{append_assoc, append-nil, take_all, take_more, drop_all, drop_more, drop-drop, set_at, length-take-le}
use Rattle.std.proofs.lemmas.Bool.{and_left, and_right}
use Rattle.codec.specs.Words.{word_kind}
use Rattle.codec.specs.Reading.{all_of}

-- one word of another kind spoils them all
pub all_of_spoilt : (k i n : ℕ) (ws : List ℕ) → i < n → i < length ws → eqb (word_kind (get_or ws i 0)) k ≡ false → all_of k (take n ws) ≡ false
all_of_spoilt k i zero ws below within other = absurd (omega arith)
all_of_spoilt k i (suc n) [] below within other = absurd (omega arith)
all_of_spoilt k zero (suc n) (w ∷ ws) below within other = and_left (eqb (word_kind w) k) (all_of k (take n ws)) other
all_of_spoilt k (suc i) (suc n) (w ∷ ws) below within other =
    and_right (eqb (word_kind w) k) (all_of k (take n ws)) (all_of_spoilt k i n ws (omega arith) (omega arith) other)

-- Words written one by one over the front of a run: one more of them.
pub laid_more : (ws run : List ℕ) (i : ℕ) → i < length ws → i < length run
    → set (take i ws ++ drop i run) i (get_or ws i 0) ≡ take (i + 1) ws ++ drop (i + 1) run
laid_more ws run i within room =
    ap (λ rest. set (take i ws ++ rest) i (get_or ws i 0)) (drop_more run i 0 room)
    ∙ set_at (take i ws) (get_or run i 0) (drop (i + 1) run) (get_or ws i 0) i (length-take-le i ws (omega arith))
    ∙ sym (append_assoc (take i ws) (get_or ws i 0 ∷ []) (drop (i + 1) run))
    ∙ ap (λ front. front ++ drop (i + 1) run) (sym (take_more ws i 0 within))

-- Three words over the front of a run, and then `ws`, by way of the part behind the three.
pub laid_behind : (a b c size : ℕ) (ws run front part : List ℕ) → front ≡ a ∷ b ∷ c ∷ []
    → part ≡ ws ++ drop size (take (length (front ++ drop 3 run) - 3) (drop 3 (front ++ drop 3 run)))
    → put_mid 3 (length (front ++ drop 3 run) - 3) (front ++ drop 3 run) part ≡ a ∷ b ∷ c ∷ (ws ++ drop (3 + size) run)
laid_behind a b c size ws run front part three wrote =
    let rest = drop 3 run in
    let k = length (a ∷ b ∷ c ∷ rest) - 3 in
    let whole : take k rest ≡ rest = take_all k rest (omega arith) in
    let none : drop k rest ≡ [] = drop_all k rest (omega arith) in
    let there : part ≡ ws ++ drop size (take k rest) =
    wrote ∙ ap (λ f. ws ++ drop size (take (length (f ++ rest) - 3) (drop 3 (f ++ rest)))) three in
    ap (λ f. put_mid 3 (length (f ++ rest) - 3) (f ++ rest) part) three
    ∙ ap (λ r. a ∷ b ∷ c ∷ (part ++ r)) none
    ∙ ap (λ p. a ∷ b ∷ c ∷ p) (append-nil part ∙ there ∙ ap (λ r. ws ++ drop size r) whole ∙ ap (λ r. ws ++ r) (drop-drop size 3 run))
