-- Words that read as a frame are the words of that frame.
use Rattle.std.proofs.Common.{◌≡◌, ℕ, suc, ◌+◌, ◌^◌, ◌≤◌, Bool, true, false, cond, eqb, leb, List, [], ◌∷◌, map, length, take, Some, None, Option, sym, refl, ap, ◌∙◌, subst, arith}
use Rattle.std.proofs.lemmas.Nat.{div-add-mod'}
use Rattle.std.proofs.lemmas.List.{length-take-le}
use Rattle.std.proofs.lemmas.Bool.Decides.{nat_tests}
use Rattle.std.proofs.lemmas.Bool.{eqb-true, leb-true, le-leb, and_parts, and_from}
use Rattle.frames.specs.declared.frame.Frame.{Frame}
use Rattle.frames.specs.declared.frame.Body.{Body}
use Rattle.frames.specs.declared.frame.Body.TheVariants.{ReqSlots, Slots, Token, Ack}
use Rattle.frames.specs.Answers.{Answer, gives, refuses, and_then, or_refuse}
use Rattle.codec.specs.declared.word.Kind.{Kind}
use Rattle.codec.specs.declared.word.Kind.TheVariants as kinds
use Rattle.codec.specs.Words.{word, word_kind, word_value, head_word, head_sender, head_addressee, head_count, kind_code, kind_at}
use Rattle.codec.specs.Layout.{last_clock, kind_of, field_words, frame_words, body_fits}
use Rattle.codec.specs.Writing.{writes}
use Rattle.codec.specs.Reading.{headed, count_after, field_of, all_of, payload_of, body_of, body_in, frame_of, frame_at}
use Rattle.codec.specs.Trips.{WritesBack}
use Rattle.codec.proofs.Written.{gives_same, writes-fitting}

gave : {A B : Type 0} (a : Answer A) (f : A → Answer B) (y : B) → and_then a f ≡ gives y → (x : A) × (a ≡ gives x) × (f x ≡ gives y)
gave (gives x) f y e = (x, refl, e)
gave (refuses n) f y e = let z : ◌≡◌ {A = ℕ} 0 1 = cc in absurd (omega arith)

tested : {A : Type 0} (t : Bool) (a : Answer A) (n : ℕ) (y : A) → cond t a (refuses n) ≡ gives y → (t ≡ true) × (a ≡ gives y)
tested true a n y e = (refl, e)
tested false a n y e = let z : ◌≡◌ {A = ℕ} 0 1 = cc in absurd (omega arith)

there : {A : Type 0} (o : Option A) (n : ℕ) (y : A) → or_refuse o n ≡ gives y → o ≡ Some y
there (Some x) n y e = cc
there None n y e = let z : ◌≡◌ {A = ℕ} 0 1 = cc in absurd (omega arith)

whole_word : (w k : ℕ) → eqb (word_kind w) k ≡ true → word k (word_value w) ≡ w
whole_word w k kind = ap (λ j. word j (word_value w)) (sym (eqb-true (word_kind w) k kind)) ∙ div-add-mod' w (2 ^ 28)

-- a field that is read
record FieldRead (k w v : ℕ) : Type 0 where
  word_is : w ≡ word k v
  fits : leb v last_clock ≡ true

field_only : (k w v : ℕ) → field_of k w ≡ gives v → FieldRead k w v
field_only k w v e =
    let t = tested (eqb (word_kind w) k) (gives (word_value w)) 16 v e in
    let value : word_value w ≡ v = gives_same (word_value w) v t.1 in
    record {
      word_is = sym (whole_word w k t.0) ∙ ap (word k) value;
      fits = le-leb v last_clock (omega arith);
    }

-- two fields and something third that are read
record ThreeRead {A B : Type 0} (j k x y : ℕ) (third : Answer A) (make : ℕ → ℕ → A → B) (b : B) : Type 0 where
  u : ℕ
  v : ℕ
  w : A
  first : FieldRead j x u
  second : FieldRead k y v
  third_is : third ≡ gives w
  made : make u v w ≡ b

three_only : {A B : Type 0} (j k x y : ℕ) (third : Answer A) (make : ℕ → ℕ → A → B) (b : B)
    → and_then (field_of j x) (λ u. and_then (field_of k y) (λ v. and_then third (λ w. gives (make u v w)))) ≡ gives b
    → ThreeRead j k x y third make b
three_only j k x y third make b e =
    let p = gave (field_of j x) (λ u. and_then (field_of k y) (λ v. and_then third (λ w. gives (make u v w)))) b e in
    let q = gave (field_of k y) (λ v. and_then third (λ w. gives (make p.0 v w))) b p.2 in
    let r = gave third (λ w. gives (make p.0 q.0 w)) b q.2 in
    record {
      u = p.0;
      v = q.0;
      w = r.0;
      first = field_only j x p.0 p.1;
      second = field_only k y q.0 q.1;
      third_is = r.1;
      made = gives_same (make p.0 q.0 r.0) b r.2;
    }

words_only : (k : ℕ) (ws : List ℕ) → all_of k ws ≡ true → map (word k) (map word_value ws) ≡ ws
words_only k [] all = refl
words_only k (w ∷ ws) all =
    let p = and_parts (eqb (word_kind w) k) (all_of k ws) all in
    rw (whole_word w k p.0, words_only k ws p.1)

kind_at-only : (n : ℕ) (k : Kind) → kind_at n ≡ Some k → kind_code k ≡ n
kind_at-only n k e = grind (arith, nat_tests)

-- a head is its kind, its two nodes and its count
head_only : (h : ℕ) → h ≡ head_word (word_kind h) (head_sender h) (head_addressee h) (head_count h)
head_only h = omega arith

module _ {P : Type 0} (size : ℕ) (words : P → List ℕ) (reads : List ℕ → Option P)
    (only : (ws : List ℕ) (x : P) → reads ws ≡ Some x → ws ≡ words x) where
  payload_only : (ws : List ℕ) (p : P) → payload_of size reads ws ≡ gives p → take size ws ≡ map (word 12) (words p)
  payload_only ws p e =
      let t = tested (all_of 12 (take size ws)) (or_refuse (reads (map word_value (take size ws))) 17) 16 p e in
      let r = there (reads (map word_value (take size ws))) 17 p t.1 in
      sym (words_only 12 (take size ws) t.0) ∙ ap (map (word 12)) (only (map word_value (take size ws)) p r)

  -- a body that is read from the words after a head of kind k
  record Only (k : Kind) (ws : List ℕ) (b : Body P) : Type 0 where
    kind : kind_of b ≡ k
    fits : body_fits b ≡ true
    words_are : take (count_after size k) ws ≡ field_words words b

  body_only : (k : Kind) (ws : List ℕ) (b : Body P) → count_after size k ≤ length ws → body_of size reads k ws ≡ gives b → Only k ws b
  body_only kinds.ReqSlots (x ∷ y ∷ z ∷ ws) b long e =
      let t = three_only 8 10 x y (field_of 11 z) ReqSlots b e in
      let l = field_only 11 z t.w t.third_is in
      subst (Only kinds.ReqSlots (x ∷ y ∷ z ∷ ws)) t.made (record {
        kind = refl;
        fits = and_from _ _ t.first.fits (and_from _ _ t.second.fits l.fits);
        words_are = cc (t.first.word_is, t.second.word_is, l.word_is);
      })
  body_only kinds.ReqSlots [] b long e = absurd (omega arith)
  body_only kinds.ReqSlots (x ∷ []) b long e = absurd (omega arith)
  body_only kinds.ReqSlots (x ∷ y ∷ []) b long e = absurd (omega arith)
  body_only kinds.Slots (x ∷ y ∷ z ∷ ws) b long e =
      let t = three_only 8 9 x y (field_of 10 z) Slots b e in
      let n = field_only 10 z t.w t.third_is in
      subst (Only kinds.Slots (x ∷ y ∷ z ∷ ws)) t.made (record {
        kind = refl;
        fits = and_from _ _ t.first.fits (and_from _ _ t.second.fits n.fits);
        words_are = cc (t.first.word_is, t.second.word_is, n.word_is);
      })
  body_only kinds.Slots [] b long e = absurd (omega arith)
  body_only kinds.Slots (x ∷ []) b long e = absurd (omega arith)
  body_only kinds.Slots (x ∷ y ∷ []) b long e = absurd (omega arith)
  body_only kinds.Token (x ∷ y ∷ ws) b long e =
      let t = three_only 8 9 x y (payload_of size reads ws) Token b e in
      let two : 2 + size ≡ suc (suc size) = omega arith in
      subst (Only kinds.Token (x ∷ y ∷ ws)) t.made (record {
        kind = refl;
        fits = and_from _ _ t.first.fits t.second.fits;
        words_are = rw two (cc (t.first.word_is, t.second.word_is, payload_only ws t.w t.third_is));
      })
  body_only kinds.Token [] b long e = absurd (omega arith)
  body_only kinds.Token (x ∷ []) b long e = absurd (omega arith)
  body_only kinds.Ack (x ∷ y ∷ ws) b long e =
      let p = gave (field_of 8 x) (λ s. and_then (field_of 9 y) (λ r. gives (Ack s r))) b e in
      let q = gave (field_of 9 y) (λ r. gives (Ack p.0 r)) b p.2 in
      let s = field_only 8 x p.0 p.1 in
      let r = field_only 9 y q.0 q.1 in
      subst (Only kinds.Ack (x ∷ y ∷ ws)) (gives_same (Ack p.0 q.0) b q.2) (record {
        kind = refl;
        fits = and_from _ _ s.fits r.fits;
        words_are = cc (s.word_is, r.word_is);
      })
  body_only kinds.Ack [] b long e = absurd (omega arith)
  body_only kinds.Ack (x ∷ []) b long e = absurd (omega arith)

  -- a frame whose head and body are read
  Whole : ℕ → List ℕ → Frame P × ℕ → Type 0
  Whole h ws got = (writes words got.0 got.1 ≡ gives got.1) × (take got.1 (h ∷ ws) ≡ frame_words words got.0)

  headed-only : (h : ℕ) (k : Kind) (ws : List ℕ) (b : Body P) → kind_code k ≡ word_kind h → head_count h ≡ count_after size k
      → count_after size k ≤ length ws → Only k ws b → Whole h ws (headed h b, count_after size k + 1)
  unfolding Whole
  headed-only h k ws b kind count long o =
      let m = count_after size k in
      let n = length (field_words words b) in
      let counted : m ≡ n = sym (length-take-le m ws long) ∙ ap length o.words_are in
      let one : m + 1 ≡ suc m = omega arith in
      let head : h ≡ head_word (kind_code (kind_of b)) (head_sender h) (head_addressee h) n =
      head_only h
      ∙ ap (λ j. head_word j (head_sender h) (head_addressee h) (head_count h)) (sym kind ∙ ap kind_code (sym o.kind))
      ∙ ap (head_word (kind_code (kind_of b)) (head_sender h) (head_addressee h)) (count ∙ counted) in
      let sender = le-leb (head_sender h) 255 (omega arith) in
      let addressee = le-leb (head_addressee h) 255 (omega arith) in (
        writes-fitting words (headed h b) (m + 1) (m + 1) (and_from _ _ sender (and_from _ _ addressee o.fits)) (omega arith) (omega arith),
        ap (λ j. take j (h ∷ ws)) one ∙ ap (λ xs. h ∷ xs) o.words_are ∙ ap (λ x. x ∷ field_words words b) head,
      )

  frame_only : (h : ℕ) (k : Kind) (ws : List ℕ) (got : Frame P × ℕ) → kind_code k ≡ word_kind h → frame_of size reads h k ws ≡ gives got → Whole h ws got
  frame_only h k ws got kind e =
      let m = count_after size k in
      let c = tested (eqb (head_count h) m) _ 14 got e in
      let g = gave (body_in size reads k ws) (λ b. gives (headed h b, m + 1)) got c.1 in
      let d = tested (leb m (length ws)) (body_of size reads k ws) 15 g.0 g.1 in
      let long = leb-true m (length ws) d.0 in
      subst (Whole h ws) (gives_same (headed h g.0, m + 1) got g.2)
      (headed-only h k ws g.0 kind (eqb-true (head_count h) m c.0) long (body_only k ws g.0 long d.1))

  -- what reading gives can be written, as the words that were read
  pub written_back : (run : List ℕ) → WritesBack words run (frame_at size reads run)
  unfolding Whole
  written_back [] f n e = let z : ◌≡◌ {A = ℕ} 0 1 = cc in absurd (omega arith)
  written_back (h ∷ ws) f n e =
      let g = gave (or_refuse (kind_at (word_kind h)) 13) (λ k. frame_of size reads h k ws) (f, n) e in
      frame_only h g.0 ws (f, n) (kind_at-only (word_kind h) g.0 (there (kind_at (word_kind h)) 13 g.0 g.1)) g.2
