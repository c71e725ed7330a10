-- The laws of a lift event's words.
use Rattle.std.specs.Prelude.{◌≡◌, ℕ, ◌+◌, ◌*◌, ◌/◌, ◌%◌, ◌^◌, ◌<◌, ◌≤◌, Bool, true, false, List, [], ◌∷◌, ℤ, pos, negsuc, ◌+ℤ◌, ◌≤ℤ◌, Some, None, Option, int_le, nat_le, refl}
use Rattle.std.proofs.Common.{ap, ◌∙◌, arith}
use Rattle.std.proofs.lemmas.Int.{ints}
use Rattle.std.proofs.lemmas.Nat.{div-mul-add, mod-mul-add}
use Rattle.std.proofs.lemmas.Bool.{leb-true, and_parts, and_right}
use Rattle.std.proofs.lemmas.Bool.Decides.{nat_tests}
use Rattle.payloads.specs.declared.sort.Sort.{Sort}
use Rattle.payloads.specs.declared.sort.Sort.TheVariants.{AlarmPressed, DoorFault, Stopped}
use Rattle.payloads.specs.declared.event.LiftEvent.{LiftEvent}
use Rattle.payloads.specs.Ranges.{sort_fits}
use Rattle.payloads.specs.Events.{event_of, sort_code, sort_detail, sort_of, event_by, event_words, event_reads}
use Rattle.payloads.specs.Made.{checked-at, checked-none, checked-only}
use Rattle.payloads.specs.Signs.{raised-lowered, lowered-raised}

-- an event is the one with its parts
pub event_of-parts : (x : LiftEvent) → event_of x.lift x.sort ≡ Some x
event_of-parts x = checked-at _ _ x.fits

-- what the invariant says, as orders
pub record InRange (x : LiftEvent) : Type 0 where
  pub lift : x.lift ≤ 65535
  pub sort : sort_fits x.sort ≡ true

pub in_range : (x : LiftEvent) → InRange x
in_range x =
    let p = and_parts (nat_le x.lift 65535) (sort_fits x.sort) x.fits in
    record { lift = leb-true x.lift 65535 p.0; sort = p.1 }

-- a floor in range can be counted from −64 on
floor_counts : (floor : ℤ) → sort_fits (Stopped floor) ≡ true → pos 0 ≤ℤ (floor +ℤ pos 64)
floor_counts floor fits =
    let p = and_parts (int_le (negsuc 63) floor) (int_le floor (pos 191)) fits in
    let low : int_le (negsuc 63) floor ≡ true = p.0 in
    omega (arith, ints)

-- a sort in range is the one with its number and detail
sort_back : (s : Sort) → sort_fits s ≡ true → sort_of (sort_code s) (sort_detail s) ≡ Some s
sort_back AlarmPressed fits = refl
sort_back (DoorFault code) fits = refl
sort_back (Stopped floor) fits = ap (λ x. Some (Stopped x)) (lowered-raised 64 floor (floor_counts floor fits))

record SortRead (code detail : ℕ) (s : Sort) : Type 0 where
  code_is : code ≡ sort_code s
  detail_is : detail ≡ sort_detail s

sort_only : (code detail : ℕ) (s : Sort) → sort_of code detail ≡ Some s → SortRead code detail s
sort_only code detail s e =
    let floor = raised-lowered 64 detail in
    record { code_is = grind (arith, nat_tests); detail_is = grind (arith, nat_tests) }

-- no sort in range has a detail above 255
detail_in : (s : Sort) → sort_fits s ≡ true → sort_detail s ≤ 255
detail_in AlarmPressed fits = omega arith
detail_in (DoorFault code) fits = grind (arith, nat_tests)
detail_in (Stopped floor) fits =
    let p = and_parts (int_le (negsuc 63) floor) (int_le floor (pos 191)) fits in
    let low : int_le (negsuc 63) floor ≡ true = p.0 in
    let high : int_le floor (pos 191) ≡ true = p.1 in
    omega (arith, ints)

pub detail_far : (lift code detail : ℕ) → 255 < detail → event_by lift (sort_of code detail) ≡ None
detail_far lift code detail far = go (sort_of code detail) refl
  where
    by_test : (s : Sort) (t : Bool) → sort_fits s ≡ t → detail ≡ sort_detail s → event_of lift s ≡ None
    by_test s true fits same = absurd (omega (arith, detail_in s fits))
    by_test s false fits same = checked-none _ _ (and_right (nat_le lift 65535) (sort_fits s) fits)

    go : (o : Option Sort) → sort_of code detail ≡ o → event_by lift o ≡ None
    go None e = refl
    go (Some s) e = by_test s (sort_fits s) refl (sort_only code detail s e).detail_is

pub event_back : (x : LiftEvent) → event_reads (event_words x) ≡ Some x
event_back x =
    let r = in_range x in
    let lift : x.lift < 2 ^ 16 = omega (arith, r.lift) in
    let code = sort_code x.sort in
    let detail = sort_detail x.sort in
    ap (λ l. event_by l (sort_of ((code * 2 ^ 16 + x.lift) / 2 ^ 16) detail)) (mod-mul-add code (2 ^ 16) x.lift lift)
    ∙ ap (λ c. event_by x.lift (sort_of c detail)) (div-mul-add code (2 ^ 16) x.lift lift)
    ∙ ap (event_by x.lift) (sort_back x.sort r.sort)
    ∙ event_of-parts x

read_by : (w v : ℕ) (x : LiftEvent) (o : Option Sort) → sort_of (w / 2 ^ 16) v ≡ o → event_by (w % 2 ^ 16) o ≡ Some x → w ∷ v ∷ [] ≡ event_words x
read_by w v x None s e = let z : ◌≡◌ {A = ℕ} 0 1 = cc in absurd (omega arith)
read_by w v x (Some sort) s e =
    let p = checked-only _ _ x e in
    let lift : w % 2 ^ 16 ≡ x.lift = ap (λ (y : LiftEvent). y.lift) p.1 in
    let same : sort ≡ x.sort = ap (λ (y : LiftEvent). y.sort) p.1 in
    let r = sort_only (w / 2 ^ 16) v x.sort (s ∙ ap Some same) in
    let first : w ≡ sort_code x.sort * 2 ^ 16 + x.lift = omega (arith, r.code_is) in
    cc (first, r.detail_is)

pub event_only : (ws : List ℕ) (x : LiftEvent) → event_reads ws ≡ Some x → ws ≡ event_words x
event_only [] x e = let z : ◌≡◌ {A = ℕ} 0 1 = cc in absurd (omega arith)
event_only (w ∷ []) x e = let z : ◌≡◌ {A = ℕ} 0 1 = cc in absurd (omega arith)
event_only (w ∷ v ∷ []) x e = read_by w v x (sort_of (w / 2 ^ 16) v) refl e
event_only (w ∷ v ∷ u ∷ ws) x e = let z : ◌≡◌ {A = ℕ} 0 1 = cc in absurd (omega arith)
