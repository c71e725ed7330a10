-- What a frame that is written is: it fits its words, and they fit the run.
use Rattle.std.proofs.Common.{◌≡◌, ℕ, ◌<◌, ◌≤◌, Bool, true, false, cond, ◌&&◌, leb, List, length, sym, refl, ap, arith}
use Rattle.std.proofs.lemmas.Bool.{leb-true, le-leb, and_parts}
use Rattle.frames.specs.declared.frame.Frame.{Frame}
use Rattle.frames.specs.Answers.{gives, refuses}
use Rattle.codec.specs.Layout.{frame_words, body_fits, frame_fits}
use Rattle.codec.specs.Writing.{writes}

pub record Fits {P : Type 0} (f : Frame P) : Type 0 where
  pub sender : f.sender < 256
  pub addressee : f.addressee < 256
  pub body : body_fits f.body ≡ true

pub frame_fits_lem : {P : Type 0} (f : Frame P) → frame_fits f ≡ true → Fits f
frame_fits_lem f fits =
    let a = and_parts (leb f.sender 255) (leb f.addressee 255 && body_fits f.body) fits in
    let b = and_parts (leb f.addressee 255) (body_fits f.body) a.1 in
    record {
      sender = omega (arith, leb-true f.sender 255 a.0);
      addressee = omega (arith, leb-true f.addressee 255 b.0);
      body = b.1;
    }

pub gives_same : {A : Type 0} (x y : A) → gives x ≡ gives y → x ≡ y
gives_same x y e = cc

-- an answer under two tests, where it is a value
passed : (t u : Bool) (m n : ℕ) → cond t (cond u (gives m) (refuses 19)) (refuses 18) ≡ gives n → (t ≡ true) × (u ≡ true) × (n ≡ m)
passed true true m n e = (refl, refl, cc)
passed true false m n e = let z : ◌≡◌ {A = ℕ} 0 1 = cc in absurd (omega arith)
passed false u m n e = let z : ◌≡◌ {A = ℕ} 0 1 = cc in absurd (omega arith)

pub record Wrote {P : Type 0} (words : P → List ℕ) (f : Frame P) (room n : ℕ) : Type 0 where
  pub fits : frame_fits f ≡ true
  pub count : n ≡ length (frame_words words f)
  pub within : n ≤ room

pub wrote : {P : Type 0} (words : P → List ℕ) (f : Frame P) (room n : ℕ) → writes words f room ≡ gives n → Wrote words f room n
wrote words f room n e =
    let m = length (frame_words words f) in
    let p = passed (frame_fits f) (leb m room) m n e in
    record { fits = p.0; count = p.2; within = omega (arith, leb-true m room p.1, p.2) }

pub writes-fitting : {P : Type 0} (words : P → List ℕ) (f : Frame P) (room n : ℕ) → frame_fits f ≡ true → n ≡ length (frame_words words f)
    → n ≤ room → writes words f room ≡ gives n
writes-fitting words f room n fits count within =
    let m = length (frame_words words f) in
    let enough : leb m room ≡ true = le-leb m room (omega arith) in
    rw (fits, enough) (ap gives (sym count))
