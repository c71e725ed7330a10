-- Numbers as text: digits in a base, perhaps behind a sign.
use Rattle.std.specs.Prelude.{ℕ, ◌^◌, Bool, true, cond, ◌&&◌, List, [], ◌∷◌, length, ℤ, Some, None, Option, nat_lt}
use Rattle.std.specs.Int.Signed.{mag}
use Rattle.std.specs.Str.Parse.{digits_value, without_leading_plus, without_leading_sign, signed_digits_value}
use Rattle.std.specs.Char.{digit_value}
use Rattle.frametext.specs.Scan.{stripped}
use Rattle.frametext.specs.Told.{Told, and_tell, or_unread}

-- Whether each byte is a digit in that base.
abbrev pub are_digits : ℕ → List ℕ → Bool
are_digits base [] = true
are_digits base (c ∷ cs) = nat_lt (digit_value c) base && are_digits base cs

-- Whether a text is one digit or more, and nothing else.
abbrev pub is_numeral : ℕ → List ℕ → Bool
is_numeral base ds = nat_lt 0 (length ds) && are_digits base ds

-- The number below 2^k that a text is, in that base.
unfoldable pub number_in : ℕ → ℕ → List ℕ → Option ℕ
number_in base k bs =
    cond (is_numeral base (without_leading_plus bs) && nat_lt (digits_value base (without_leading_plus bs)) (2 ^ k)) (Some (digits_value base (without_leading_plus bs))) None

-- The signed number of 32 bits that a text is.
unfoldable pub signed_in : List ℕ → Option ℤ
signed_in bs =
    cond (is_numeral 10 (without_leading_sign bs) && nat_lt (mag (signed_digits_value 10 bs)) (2 ^ 31)) (Some (signed_digits_value 10 bs)) None

-- The number below 2^k behind a label, and a signed one.
abbrev pub field_in : ℕ → List ℕ → List ℕ → Told ℕ
field_in k label word = and_tell (or_unread (stripped label word)) (λ ds. or_unread (number_in 10 k ds))

abbrev pub signed_field_in : List ℕ → List ℕ → Told ℤ
signed_field_in label word = and_tell (or_unread (stripped label word)) (λ ds. or_unread (signed_in ds))
