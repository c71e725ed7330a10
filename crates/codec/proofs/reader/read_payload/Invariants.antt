-- The words seen are all payload words, and their values are noted.
use Rattle.std.proofs.Common.{◌≡◌, true, map, length, take}
use Rattle.codec.specs.Words.{word_value}
use Rattle.codec.specs.Reading.{all_of}
use Rattle.codec.proofs.reader.read_payload.Given as goal

abbrev pub invariant-loop-i : goal.invariant-loop-i
invariant-loop-i g l =
    (length l.values ≡ 4)
    × (all_of 12 (take l.i l.ws) ≡ true)
    × (take l.i l.values ≡ map word_value (take l.i l.ws))
