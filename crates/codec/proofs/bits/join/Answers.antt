use Rattle.std.proofs.Common.{◌-◌, ap, ◌∙◌, arith}
use lib.Bits.{bit_or}
use Rattle.std.proofs.lemmas.Nat.{shl_whole, or_shifted}
use Rattle.codec.proofs.bits.join.Goals as goal

pub returns : goal.returns
returns c =
    let a = c.args in
    ap (λ x. bit_or x a.low) (shl_whole a.high (32 - a.shift) a.shift 32 c.requires.high (omega arith))
    ∙ or_shifted a.high a.shift a.low c.requires.low
