-- The ranges of payload parts, and signed parts as numbers from 0 on.
use Rattle.std.specs.Prelude.{ℕ, Bool, true, ◌&&◌, ℤ, pos, negsuc, ◌+ℤ◌, ◌-ℤ◌, int_le, nat_le, unsigned_abs}
use Rattle.payloads.specs.declared.sort.Sort.{Sort}
use Rattle.payloads.specs.declared.sort.Sort.TheVariants.{AlarmPressed, DoorFault, Stopped}

-- A line's place is 0 to 1,023, its step −32,768 to 32,767.
abbrev pub line_fits : ℕ → ℤ → Bool
line_fits place step = nat_le place 1023 && (int_le (negsuc 32767) step && int_le step (pos 32767))

-- A door fault's code is 1 to 255, a floor −64 to 191.
abbrev pub sort_fits : Sort → Bool
sort_fits AlarmPressed = true
sort_fits (DoorFault code) = nat_le 1 code && nat_le code 255
sort_fits (Stopped floor) = int_le (negsuc 63) floor && int_le floor (pos 191)

-- A lift's number is 0 to 65,535.
abbrev pub event_fits : ℕ → Sort → Bool
event_fits lift sort = nat_le lift 65535 && sort_fits sort

-- A number counted from −below on, and the number that this counts.
abbrev pub raised : ℕ → ℤ → ℕ
raised below x = unsigned_abs (x +ℤ pos below)

abbrev pub lowered : ℕ → ℕ → ℤ
lowered below n = pos n -ℤ pos below
