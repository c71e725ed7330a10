-- Frames read back from their text.
use Rattle.std.proofs.Common.{◌≡◌, ℕ, zero, suc, ◌^◌, ◌<◌, Bool, true, false, List, [], ◌∷◌, ◌++◌, Some, Option, codes, decimal, sym, refl, ap, ◌∙◌, arith}
use Rattle.std.specs.Option.{option_map}
use Rattle.std.specs.Str.{bytes_eq}
use Rattle.std.proofs.lemmas.Slice.Eq.{bytes_eq-Decides}
use Rattle.std.proofs.lemmas.List.{append_assoc}
use Rattle.frames.specs.declared.frame.Frame.{Frame}
use Rattle.frames.specs.declared.frame.Body.{Body}
use Rattle.frames.specs.declared.frame.Body.TheVariants.{ReqSlots, Slots, Token, Ack}
use Rattle.frametext.specs.Scan.{first_word, other_words}
use Rattle.frametext.specs.Told.{Told, tells, unread}
use Rattle.frames.specs.Texts.{routed, bare_body_text, frame_text, body_shown, frame_shown}
use Rattle.frametext.specs.Frames.{body_held, Held, kind_in, frame_in}
use Rattle.frametext.specs.Cuts.{Lacks, before-cut, behind-cut, before-all, behind-none}
use Rattle.frametext.specs.Digits.{number_back, decimal-lacks}

-- what is known of a frame's text is the whole of it, where that is so of each payload
pub frame_known : {P : Type 0} (shown : P → Option (List ℕ)) (spelling : P → List ℕ) → ((x : P) → shown x ≡ Some (spelling x))
    → (f : Frame P) → frame_shown shown f ≡ Some (frame_text spelling f)
frame_known {P = P} shown spelling law f = ap (option_map (λ t. routed f.sender f.addressee (codes " " ++ t))) (body_known f.body)
  where
    body_known : (b : Body P) → body_shown shown b ≡ Some (bare_body_text spelling b)
    body_known (ReqSlots s n l) = refl
    body_known (Slots s r n) = refl
    body_known (Token s r p) = ap (option_map (λ t. bare_body_text (λ _. t) (Token s r p))) (law p)
    body_known (Ack s r) = refl

different : (xs ys : List ℕ) → (xs ≡ ys → ⊥) → bytes_eq xs ys ≡ false
different xs ys apart = go (bytes_eq xs ys) (bytes_eq-Decides xs ys).0
  where
    go : (t : Bool) → (t ≡ true → xs ≡ ys) → t ≡ false
    go true same = absurd (apart (same refl))
    go false same = refl

-- a word that names none of the four kinds
pub other_kind : {P : Type 0} (spelled : List ℕ → Told P) (kind bs : List ℕ) → (kind ≡ codes "REQSLOTS" → ⊥) → (kind ≡ codes "SLOTS" → ⊥)
    → (kind ≡ codes "TOKEN" → ⊥) → (kind ≡ codes "ACK" → ⊥) → kind_in spelled kind bs ≡ unread
other_kind spelled kind bs a b c d =
    rw (different kind (codes "REQSLOTS") a, different kind (codes "SLOTS") b, different kind (codes "TOKEN") c, different kind (codes "ACK") d)

no_space : (n : ℕ) → n < 2 ^ 64 → Lacks 32 (decimal n)
no_space n held = decimal-lacks 32 n held (λ d. omega (arith, d))

Lacks-append : (c : ℕ) (xs ys : List ℕ) → Lacks c xs → Lacks c ys → Lacks c (xs ++ ys)
Lacks-append c [] ys left right i h e = right i h e
Lacks-append c (x ∷ xs) ys left right zero h e = left 0 (omega arith) e
Lacks-append c (x ∷ xs) ys left right (suc i) h e =
    Lacks-append c xs ys (λ j k d. left (suc j) (omega arith) d) right i (omega arith) e

arrow_no_space : Lacks 32 (codes ">")
arrow_no_space zero h e = omega arith
arrow_no_space (suc i) h e = omega arith

route_no_space : (a b : ℕ) → a < 2 ^ 32 → b < 2 ^ 32 → Lacks 32 (decimal a ++ (codes ">" ++ decimal b))
route_no_space a b ha hb =
    Lacks-append 32 (decimal a) (62 ∷ decimal b) (no_space a (omega arith))
    (Lacks-append 32 (62 ∷ []) (decimal b) arrow_no_space (no_space b (omega arith)))

module _ {P : Type 0} (spelling : P → List ℕ) (spelled : List ℕ → Told P) (respelled : (x : P) → spelled (spelling x) ≡ tells x) where
  -- the words of a body, from its kind on
  words_in : List ℕ → Told (Body P)
  words_in bs = kind_in spelled (first_word bs) (other_words bs)

  body_respelled : (b : Body P) → body_held b → words_in (bare_body_text spelling b) ≡ tells b
  unfolding words_in
  body_respelled (ReqSlots s n l) held =
      let rest = codes "n=" ++ (decimal n ++ (codes " l=" ++ decimal l)) in
      rw (
        before-cut 32 (decimal s) rest (no_space s held.0),
        number_back 64 s held.0 held.0,
        behind-cut 32 (decimal s) rest (no_space s held.0),
        before-cut 32 (decimal n) (codes "l=" ++ decimal l) (no_space n held.1),
        number_back 64 n held.1 held.1,
        behind-cut 32 (decimal n) (codes "l=" ++ decimal l) (no_space n held.1),
        before-all 32 (decimal l) (no_space l held.2),
        number_back 64 l held.2 held.2,
        behind-none 32 (decimal l) (no_space l held.2),
      )
  body_respelled (Slots s r n) held =
      let rest = codes "r=" ++ (decimal r ++ (codes " n=" ++ decimal n)) in
      rw (
        before-cut 32 (decimal s) rest (no_space s held.0),
        number_back 64 s held.0 held.0,
        behind-cut 32 (decimal s) rest (no_space s held.0),
        before-cut 32 (decimal r) (codes "n=" ++ decimal n) (no_space r held.1),
        number_back 64 r held.1 held.1,
        behind-cut 32 (decimal r) (codes "n=" ++ decimal n) (no_space r held.1),
        before-all 32 (decimal n) (no_space n held.2),
        number_back 64 n held.2 held.2,
        behind-none 32 (decimal n) (no_space n held.2),
      )
  body_respelled (Token s r p) held =
      let rest = codes "r=" ++ (decimal r ++ (codes " " ++ spelling p)) in
      rw (
        before-cut 32 (decimal s) rest (no_space s held.0),
        number_back 64 s held.0 held.0,
        behind-cut 32 (decimal s) rest (no_space s held.0),
        before-cut 32 (decimal r) (spelling p) (no_space r held.1),
        number_back 64 r held.1 held.1,
        behind-cut 32 (decimal r) (spelling p) (no_space r held.1),
        respelled p,
      )
  body_respelled (Ack s r) held =
      rw (
        before-cut 32 (decimal s) (codes "r=" ++ decimal r) (no_space s held.0),
        number_back 64 s held.0 held.0,
        behind-cut 32 (decimal s) (codes "r=" ++ decimal r) (no_space s held.0),
        before-all 32 (decimal r) (no_space r held.1),
        number_back 64 r held.1 held.1,
        behind-none 32 (decimal r) (no_space r held.1),
      )

  pub frame_respelled : (f : Frame P) → Held f → frame_in spelled (frame_text spelling f) ≡ tells f
  unfolding words_in
  frame_respelled f held =
      let a = f.sender in
      let b = f.addressee in
      let route = decimal a ++ (codes ">" ++ decimal b) in
      let body = bare_body_text spelling f.body in
      let apart : frame_text spelling f ≡ route ++ (32 ∷ body) =
      sym (append_assoc (decimal a) (codes ">" ++ decimal b) (32 ∷ body)) in
      let spaceless = route_no_space a b held.0 held.1 in
      let arrowless = decimal-lacks 62 a (omega (arith, held.0)) (λ d. omega (arith, d)) in
      ap (frame_in spelled) apart
      ∙ rw (
        before-cut 32 route body spaceless,
        behind-cut 32 route body spaceless,
        behind-cut 62 (decimal a) (decimal b) arrowless,
        before-cut 62 (decimal a) (decimal b) arrowless,
        number_back 32 a held.0 (omega (arith, held.0)),
        number_back 32 b held.1 (omega (arith, held.1)),
        body_respelled f.body held.2,
      )
