-- Words and heads taken apart are what they were put together from.
use Rattle.std.proofs.Common.{◌≡◌, ℕ, ◌+◌, ◌*◌, ◌^◌, ◌<◌, Some, refl, arith}
use Rattle.std.proofs.lemmas.Nat.{shr_high, mod_low}
use Rattle.codec.specs.declared.word.Kind.{Kind}
use Rattle.codec.specs.declared.word.Kind.TheVariants as kinds
use Rattle.codec.specs.Words.{word, word_kind, word_value, head_word, head_sender, head_addressee, head_count, kind_code, kind_at}

pub kind_back : (k v : ℕ) → v < 2 ^ 28 → word_kind (word k v) ≡ k
kind_back k v narrow = shr_high k 28 v narrow

pub value_back : (k v : ℕ) → v < 2 ^ 28 → word_value (word k v) ≡ v
value_back k v narrow = mod_low k 28 v narrow

pub kind_at-code : (k : Kind) → kind_at (kind_code k) ≡ Some k
kind_at-code kinds.ReqSlots = refl
kind_at-code kinds.Slots = refl
kind_at-code kinds.Token = refl
kind_at-code kinds.Ack = refl

module _ (k s a n : ℕ) (sender : s < 256) (addressee : a < 256) (count : n < 4096) where
  pub head_kind_back : word_kind (head_word k s a n) ≡ k
  head_kind_back = kind_back k (s * 2 ^ 20 + a * 2 ^ 12 + n) (omega arith)

  pub head_sender_back : head_sender (head_word k s a n) ≡ s
  head_sender_back = omega arith

  pub head_addressee_back : head_addressee (head_word k s a n) ≡ a
  head_addressee_back = omega arith

  pub head_count_back : head_count (head_word k s a n) ≡ n
  head_count_back = omega arith
