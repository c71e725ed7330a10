-- What `parse` reads is what the definitions say, and what `{n}` writes reads back.
use Rattle.std.specs.Prelude.{◌≡◌, ℕ, ◌^◌, ◌<◌, Bool, true, false, cond, ◌&&◌, List, [], ◌∷◌, length, ℤ, Some, None, Ok, Err, decimal, Option, Result, FitsSigned, nat_lt, refl}
use Rattle.std.proofs.Common.{ap, arith}
use Rattle.std.specs.Int.Signed.{mag}
use Rattle.std.specs.Str.Parse.{IsNumeral, AllDigits, digits_value, without_leading_plus, without_leading_sign, signed_digits_value, ParsesUnsigned, ParsesSigned}
use Rattle.std.specs.Result.{OkIff, result_ok}
use Rattle.std.specs.Option.{ok_or}
use Rattle.std.specs.Int.{IsInRange, w32}
use Rattle.std.specs.Char.{digit_value}
use Rattle.std.specs.Fmt.{signed_decimal}
use Rattle.std.specs.Str.{all_ascii_digits}
use Rattle.std.proofs.lemmas.Str.Parse.{IsNumeralModel, numerals_by_value, tells_all_ascii_digits, not_in_digits}
use Rattle.std.proofs.lemmas.Fmt.{parse-decimal, parse-signed_decimal, digits_decimal}
use Rattle.std.proofs.lemmas.Bool.{lt-ltb, ltb-true, and_from, and_parts}
use Rattle.frametext.specs.Cuts.{Lacks}
use Rattle.frametext.specs.Numbers.{are_digits, is_numeral, number_in, signed_in}

digits_true : (base : ℕ) (ds : List ℕ) → AllDigits base ds → are_digits base ds ≡ true
digits_true base [] d = refl
digits_true base (c ∷ cs) d =
    and_from (nat_lt (digit_value c) base) (are_digits base cs) (lt-ltb (digit_value c) base d.0) (digits_true base cs d.1)

true_digits : (base : ℕ) (ds : List ℕ) → are_digits base ds ≡ true → AllDigits base ds
true_digits base [] e = tt
true_digits base (c ∷ cs) e =
    let p = and_parts (nat_lt (digit_value c) base) (are_digits base cs) e in
    (ltb-true (digit_value c) base p.0, true_digits base cs p.1)

numeral_true : (base : ℕ) (ds : List ℕ) → IsNumeral base ds → is_numeral base ds ≡ true
numeral_true base ds n =
    and_from (nat_lt 0 (length ds)) (are_digits base ds) (lt-ltb 0 (length ds) n.0) (digits_true base ds n.1)

true_numeral : (base : ℕ) (ds : List ℕ) → is_numeral base ds ≡ true → IsNumeral base ds
true_numeral base ds e =
    let p = and_parts (nat_lt 0 (length ds)) (are_digits base ds) e in
    (ltb-true 0 (length ds) p.0, true_digits base ds p.1)

-- what is converted just where a test holds
converted : {A E : Type 0} (r : Result A E) (P : Type 0) (v : A) (t : Bool) → OkIff r P v → (P → t ≡ true) → (t ≡ true → P)
    → result_ok r ≡ cond t (Some v) None
converted (Ok x) P v t h to from = let e = to h.0 in rw e (ap Some h.1)
converted (Err d) P v true h to from = absurd (h (from refl))
converted (Err d) P v false h to from = refl

numeral_below : (base k : ℕ) (ds : List ℕ) → IsNumeral base ds × (digits_value base ds < 2 ^ k)
    → (is_numeral base ds && nat_lt (digits_value base ds) (2 ^ k)) ≡ true
numeral_below base k ds p =
    and_from (is_numeral base ds) (nat_lt (digits_value base ds) (2 ^ k)) (numeral_true base ds p.0) (lt-ltb (digits_value base ds) (2 ^ k) p.1)

below_numeral : (base k : ℕ) (ds : List ℕ) → (is_numeral base ds && nat_lt (digits_value base ds) (2 ^ k)) ≡ true
    → IsNumeral base ds × (digits_value base ds < 2 ^ k)
below_numeral base k ds e =
    let p = and_parts (is_numeral base ds) (nat_lt (digits_value base ds) (2 ^ k)) e in
    (true_numeral base ds p.0, ltb-true (digits_value base ds) (2 ^ k) p.1)

signed_test : (bs : List ℕ) → IsNumeral 10 (without_leading_sign bs) × FitsSigned w32 (signed_digits_value 10 bs)
    → (is_numeral 10 (without_leading_sign bs) && nat_lt (mag (signed_digits_value 10 bs)) (2 ^ 31)) ≡ true
signed_test bs p =
    let m = mag (signed_digits_value 10 bs) in
    and_from (is_numeral 10 (without_leading_sign bs)) (nat_lt m (2 ^ 31)) (numeral_true 10 (without_leading_sign bs) p.0) (lt-ltb m (2 ^ 31) p.1.sfits)

test_signed : (bs : List ℕ) → (is_numeral 10 (without_leading_sign bs) && nat_lt (mag (signed_digits_value 10 bs)) (2 ^ 31)) ≡ true
    → IsNumeral 10 (without_leading_sign bs) × FitsSigned w32 (signed_digits_value 10 bs)
test_signed bs e =
    let m = mag (signed_digits_value 10 bs) in
    let p = and_parts (is_numeral 10 (without_leading_sign bs)) (nat_lt m (2 ^ 31)) e in
    (true_numeral 10 (without_leading_sign bs) p.0, record { sfits = ltb-true m (2 ^ 31) p.1 })

-- at an unsigned type of k bits
pub number_read : {E : Type 0} (base k : ℕ) (bs : List ℕ) (r : Result ℕ E) → ParsesUnsigned k base bs r → result_ok r ≡ number_in base k bs
unfolding number_in
number_read base k bs r h = converted r _ _ _ h (numeral_below base k (without_leading_plus bs)) (below_numeral base k (without_leading_plus bs))

-- at a signed type of 32 bits
pub signed_read : {E : Type 0} (bs : List ℕ) (r : Result ℤ E) → ParsesSigned w32 10 bs r → result_ok r ≡ signed_in bs
unfolding signed_in
signed_read bs r h = converted r _ _ _ h (signed_test bs) (test_signed bs)

-- what is found by such a test is what `parse` would read
found : {A : Type 0} (P : Type 0) (v : A) (t : Bool) → (P → t ≡ true) → (t ≡ true → P)
    → OkIff {E = Unit {0}} (ok_or (cond t (Some v) None) tt) P v
found P v true to from = (from refl, refl)
found P v false to from = λ p. let z : false ≡ true = to p in let y : ◌≡◌ {A = ℕ} 0 1 = cc in absurd (omega arith)

some_from_ok : {A : Type 0} (o : Option A) (x : A) → ok_or {E = Unit {0}} o tt ≡ Ok x → o ≡ Some x
some_from_ok None x e = let z : ◌≡◌ {A = ℕ} 0 1 = cc in absurd (omega arith)
some_from_ok (Some y) x e = cc

-- what is written reads back
pub number_back : (k n : ℕ) → n < 2 ^ k → n < 2 ^ 64 → number_in 10 k (decimal n) ≡ Some n
unfolding number_in
number_back k n small fits =
    let ds = without_leading_plus (decimal n) in
    some_from_ok _ n (parse-decimal {E = Unit {0}} k n (decimal n) _ small fits refl (found _ _ _ (numeral_below 10 k ds) (below_numeral 10 k ds)))

pub signed_back : (z : ℤ) → FitsSigned w32 z → signed_in (signed_decimal z) ≡ Some z
unfolding signed_in
signed_back z fits =
    let bs = signed_decimal z in
    let far : mag z < 2 ^ 63 = omega (arith, fits.sfits) in
    some_from_ok _ z (parse-signed_decimal {E = Unit {0}} w32 z bs _ fits far refl (found _ _ _ (signed_test bs) (test_signed bs)))

own : IsNumeralModel (λ ds. all_ascii_digits ds ≡ true) (digits_value 10)
own = numerals_by_value (λ ds. all_ascii_digits ds ≡ true) tells_all_ascii_digits

-- and a written number has digits only
pub decimal-lacks : (c n : ℕ) → n < 2 ^ 64 → (IsInRange 48 57 c → ⊥) → Lacks c (decimal n)
decimal-lacks c n fits other = not_in_digits own (decimal n) c (digits_decimal own n fits) other
