-- Words shown one after another.
use Rattle.std.proofs.Common.{◌≡◌, ℕ, ◌+◌, ◌<◌, List, [], ◌∷◌, ◌++◌, length, get_or, take, sym, refl, ap, ◌∙◌}
use Rattle.std.proofs.lemmas.List.{take_more, append_assoc}
use Rattle.frametext.specs.Words.{word_text, with_word, words_text}

-- one word more, behind a space
spaced : (v : ℕ) (ws : List ℕ) (w : ℕ) → words_text (v ∷ ws) ++ (32 ∷ word_text w) ≡ words_text (v ∷ (ws ++ w ∷ []))
spaced v [] w = refl
spaced v (u ∷ ws) w =
    append_assoc (word_text v) (32 ∷ words_text (u ∷ ws)) (32 ∷ word_text w) ∙ ap (λ bs. word_text v ++ (32 ∷ bs)) (spaced u ws w)

words_push : (ws : List ℕ) (w : ℕ) → with_word (words_text ws) (word_text w) ≡ words_text (ws ++ w ∷ [])
words_push [] w = refl
words_push (v ∷ []) w = spaced v [] w
words_push (v ∷ u ∷ ws) w = spaced v (u ∷ ws) w

pub words_more : (ws : List ℕ) (i : ℕ) → i < length ws → with_word (words_text (take i ws)) (word_text (get_or ws i 0)) ≡ words_text (take (i + 1) ws)
words_more ws i h = words_push (take i ws) (get_or ws i 0) ∙ ap words_text (sym (take_more ws i 0 h))
