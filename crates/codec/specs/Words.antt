-- One word: the top 4 bits are its kind, the low 28 its value.
use Rattle.std.specs.Prelude.{◌≡◌, ℕ, ◌+◌, ◌*◌, ◌/◌, ◌%◌, ◌^◌, ◌<◌, cond, Some, None, Option, ◌==◌}
use Rattle.codec.specs.declared.word.Kind.{Kind}
use Rattle.codec.specs.declared.word.Kind.TheVariants.{ReqSlots, Slots, Token, Ack}
use Rattle.codec.specs.declared.word.Field.{Field}
use Rattle.codec.specs.declared.word.Field.TheVariants.{Number, Clock, Count, Low, Payload}

-- The word of that kind with that value, and the two again.
abbrev pub word : ℕ → ℕ → ℕ
word kind value = kind * 2 ^ 28 + value

abbrev pub word_kind : ℕ → ℕ
word_kind w = w / 2 ^ 28

abbrev pub word_value : ℕ → ℕ
word_value w = w % 2 ^ 28

-- A head: in its value the sender has bits 27–20, the addressee bits 19–12, and the count of the words after it bits 11–0.
abbrev pub head_word : ℕ → ℕ → ℕ → ℕ → ℕ
head_word kind sender addressee count = word kind (sender * 2 ^ 20 + addressee * 2 ^ 12 + count)

-- The three parts of a head again.
abbrev pub head_sender : ℕ → ℕ
head_sender head = head / 2 ^ 20 % 2 ^ 8

abbrev pub head_addressee : ℕ → ℕ
head_addressee head = head / 2 ^ 12 % 2 ^ 8

abbrev pub head_count : ℕ → ℕ
head_count head = head % 2 ^ 12

-- The kind of a head, for each kind of frame.
abbrev pub kind_code : Kind → ℕ
kind_code ReqSlots = 1
kind_code Slots = 2
kind_code Token = 3
kind_code Ack = 4

-- The kind of frame with that head kind.
abbrev pub kind_at : ℕ → Option Kind
kind_at k =
    cond (k == 1) (Some ReqSlots)
    (cond (k == 2) (Some Slots)
    (cond (k == 3) (Some Token)
    (cond (k == 4) (Some Ack) None)))

-- The kind of the word of each field: s, r, n, l, and the payload.
abbrev pub field_code : Field → ℕ
field_code Number = 8
field_code Clock = 9
field_code Count = 10
field_code Low = 11
field_code Payload = 12

-- A kind's number as it stands in a word: four bits hold it.
pub record IsCode (code n : ℕ) : Type 0 where
  pub same : n ≡ code
  pub small : n < 16
