-- A frame reads back from its words.
use Rattle.std.proofs.Common.{◌≡◌, ℕ, ◌+◌, ◌^◌, ◌<◌, ◌≤◌, true, ◌&&◌, leb, List, [], ◌∷◌, ◌++◌, map, length, Some, Option, refl, ◌∙◌, arith}
use lib.ListN.{length-map}
use Rattle.std.specs.List.{AllByRecursion}
use Rattle.std.proofs.lemmas.List.{take_at, length-append}
use Rattle.std.proofs.lemmas.Bool.{eq-eqb, le-leb, leb-true, and_parts}
use Rattle.frames.specs.declared.frame.Frame.{Frame}
use Rattle.frames.specs.declared.frame.Body.{Body}
use Rattle.frames.specs.declared.frame.Body.TheVariants.{ReqSlots, Slots, Token, Ack}
use Rattle.frames.specs.Answers.{gives}
use Rattle.codec.specs.Words.{word, word_kind, word_value, head_word, head_count, kind_code}
use Rattle.codec.specs.Layout.{last_clock, kind_of, field_words, frame_words, body_fits, frame_fits}
use Rattle.codec.specs.Reading.{count_after, field_of, all_of, payload_of, body_of, frame_at}
use Rattle.codec.proofs.Counts.{fields_counted, count_few}
use Rattle.codec.proofs.Written.{frame_fits_lem}
use Rattle.codec.proofs.Heads.{kind_back, value_back, kind_at-code, head_kind_back, head_sender_back, head_addressee_back, head_count_back}

field_back : (k v : ℕ) → leb v last_clock ≡ true → field_of k (word k v) ≡ gives v
field_back k v fits =
    let narrow : v < 2 ^ 28 = omega (arith, leb-true v last_clock fits) in
    let same = eq-eqb (word_kind (word k v)) k (kind_back k v narrow) in
    rw (same, value_back k v narrow)

all_of-back : (k : ℕ) (vs : List ℕ) → AllByRecursion (λ v. v < 2 ^ 28) vs → all_of k (map (word k) vs) ≡ true
all_of-back k [] narrow = refl
all_of-back k (v ∷ vs) narrow = rw (eq-eqb (word_kind (word k v)) k (kind_back k v narrow.0)) (all_of-back k vs narrow.1)

values_back : (k : ℕ) (vs : List ℕ) → AllByRecursion (λ v. v < 2 ^ 28) vs → map word_value (map (word k) vs) ≡ vs
values_back k [] narrow = refl
values_back k (v ∷ vs) narrow = rw (value_back k v narrow.0, values_back k vs narrow.1)

module _ {P : Type 0} (size : ℕ) (words : P → List ℕ) (reads : List ℕ → Option P)
    (few : size ≤ 4) (counted : (x : P) → length (words x) ≡ size) (narrow : (x : P) → AllByRecursion (λ w. w < 2 ^ 28) (words x))
    (back : (x : P) → reads (words x) ≡ Some x) where
  payload_back : (p : P) (rest : List ℕ) → payload_of size reads (map (word 12) (words p) ++ rest) ≡ gives p
  payload_back p rest =
      let front = take_at (map (word 12) (words p)) rest size (length-map (words p) (word 12) ∙ counted p) in
      rw (front, all_of-back 12 (words p) (narrow p), values_back 12 (words p) (narrow p), back p)

  body_back : (b : Body P) (rest : List ℕ) → body_fits b ≡ true → body_of size reads (kind_of b) (field_words words b ++ rest) ≡ gives b
  body_back (ReqSlots s n l) rest fits =
      let p = and_parts (leb s last_clock) (leb n last_clock && leb l last_clock) fits in
      let q = and_parts (leb n last_clock) (leb l last_clock) p.1 in
      rw (field_back 8 s p.0, field_back 10 n q.0, field_back 11 l q.1)
  body_back (Slots s r n) rest fits =
      let p = and_parts (leb s last_clock) (leb r last_clock && leb n last_clock) fits in
      let q = and_parts (leb r last_clock) (leb n last_clock) p.1 in
      rw (field_back 8 s p.0, field_back 9 r q.0, field_back 10 n q.1)
  body_back (Token s r m) rest fits =
      let p = and_parts (leb s last_clock) (leb r last_clock) fits in
      rw (field_back 8 s p.0, field_back 9 r p.1, payload_back m rest)
  body_back (Ack s r) rest fits =
      let p = and_parts (leb s last_clock) (leb r last_clock) fits in
      rw (field_back 8 s p.0, field_back 9 r p.1)

  -- whatever follows the words
  pub frame_back : (f : Frame P) (rest : List ℕ) → frame_fits f ≡ true
      → frame_at size reads (frame_words words f ++ rest) ≡ gives (f, length (frame_words words f))
  frame_back f rest fits =
      let b = f.body in
      let fields = field_words words b in
      let n = length fields in
      let fit = frame_fits_lem f fits in
      let long : n ≡ count_after size (kind_of b) = fields_counted size words counted b in
      let small : n < 4096 = omega (arith, count_few size few (kind_of b)) in
      let k = kind_code (kind_of b) in
      let count = eq-eqb (head_count (head_word k f.sender f.addressee n)) (count_after size (kind_of b))
      (head_count_back k f.sender f.addressee n fit.sender fit.addressee small ∙ long) in
      let room = le-leb (count_after size (kind_of b)) (length (fields ++ rest)) (omega (arith, length-append fields rest)) in
      let whole : count_after size (kind_of b) + 1 ≡ length (frame_words words f) = omega arith in
      rw (
        head_kind_back k f.sender f.addressee n fit.sender fit.addressee small,
        kind_at-code (kind_of b),
        count,
        room,
        body_back b rest fit.body,
        head_sender_back k f.sender f.addressee n fit.sender fit.addressee small,
        head_addressee_back k f.sender f.addressee n fit.sender fit.addressee small,
        whole,
      )
