-- Payloads read back from their text.
use Rattle.std.specs.Prelude.{◌≡◌, ℕ, ◌^◌, ◌<◌, true, ◌&&◌, ◌∷◌, ◌++◌, drop, ℤ, pos, negsuc, codes, decimal, FitsSigned, int_le, nat_le, refl}
use Rattle.std.proofs.Common.{ap, ◌∙◌, arith}
use Rattle.std.specs.Int.{w32}
use Rattle.std.specs.Fmt.{signed_decimal}
use Rattle.std.proofs.lemmas.Bool.{leb-true, and_parts}
use Rattle.payloads.specs.declared.line.ProfileLine.{ProfileLine}
use Rattle.payloads.specs.declared.event.LiftEvent.{LiftEvent}
use Rattle.payloads.specs.declared.sort.Sort.{Sort}
use Rattle.payloads.specs.declared.sort.Sort.TheVariants.{AlarmPressed, DoorFault, Stopped}
use Rattle.payloads.specs.Ranges.{sort_fits}
use Rattle.payloads.specs.LineLaws.{line_of-parts}
use Rattle.payloads.specs.EventLaws.{event_of-parts, in_range}
use Rattle.frametext.specs.Told.{tells}
use Rattle.payloads.specs.Texts.{line_text, sort_text, event_text}
use Rattle.frametext.specs.Payloads.{line_in, sort_in, event_in}
use Rattle.frametext.specs.Cuts.{Lacks, before-cut, behind-cut}
use Rattle.frametext.specs.Digits.{number_back, signed_back, decimal-lacks}

-- a number in range fits 32 bits
within32 : (a b : ℕ) (z : ℤ) → (int_le (negsuc a) z && int_le z (pos b)) ≡ true → a < 2 ^ 31 → b < 2 ^ 31 → FitsSigned w32 z
within32 a b (pos n) e low high = record { sfits = omega (arith, leb-true n b (and_parts (int_le (negsuc a) (pos n)) (int_le (pos n) (pos b)) e).1) }
within32 a b (negsuc n) e low high =
    record { sfits = omega (arith, leb-true n a (and_parts (int_le (negsuc a) (negsuc n)) (int_le (negsuc n) (pos b)) e).0) }

-- a written number has no space
lacks_space : (n : ℕ) → n < 2 ^ 32 → Lacks 32 (decimal n)
lacks_space n small = decimal-lacks 32 n (omega arith) (λ d. omega (arith, d))

pub line_respelled : (x : ProfileLine) → line_in (line_text x) ≡ tells x
line_respelled x =
    let p = and_parts (nat_le x.place 1023) (int_le (negsuc 32767) x.step && int_le x.step (pos 32767)) x.fits in
    let small : x.place < 2 ^ 32 = omega (arith, leb-true x.place 1023 p.0) in
    let fits = within32 32767 32767 x.step p.1 (omega arith) (omega arith) in
    let rest = codes "step=" ++ signed_decimal x.step in
    rw (
      before-cut 32 (decimal x.place) rest (lacks_space x.place small),
      number_back 32 x.place small (omega arith),
      behind-cut 32 (decimal x.place) rest (lacks_space x.place small),
      signed_back x.step fits,
      line_of-parts x,
    )

-- a sort in range is told by its text, which begins with a space
sort_respelled : (s : Sort) → sort_fits s ≡ true → sort_in (drop 1 (sort_text s)) ≡ tells s
sort_respelled AlarmPressed fits = refl
sort_respelled (DoorFault code) fits =
    let top = leb-true code 255 (and_parts (nat_le 1 code) (nat_le code 255) fits).1 in
    rw (number_back 32 code (omega arith) (omega arith))
sort_respelled (Stopped floor) fits = rw (signed_back floor (within32 63 191 floor fits (omega arith) (omega arith)))

sort_spaced : (s : Sort) → sort_text s ≡ 32 ∷ drop 1 (sort_text s)
sort_spaced AlarmPressed = refl
sort_spaced (DoorFault code) = refl
sort_spaced (Stopped floor) = refl

pub event_respelled : (x : LiftEvent) → event_in (event_text x) ≡ tells x
event_respelled x =
    let r = in_range x in
    let small : x.lift < 2 ^ 32 = omega (arith, r.lift) in
    let rest = drop 1 (sort_text x.sort) in
    ap (λ bs. event_in (codes "lift=" ++ (decimal x.lift ++ bs))) (sort_spaced x.sort)
    ∙ rw (
      before-cut 32 (decimal x.lift) rest (lacks_space x.lift small),
      number_back 32 x.lift small (omega arith),
      behind-cut 32 (decimal x.lift) rest (lacks_space x.lift small),
      sort_respelled x.sort r.sort,
      event_of-parts x,
    )
