use Rattle.std.proofs.Common.{◌-◌, ◌/◌, ◌^◌, ap, ◌∙◌}
use lib.Bits.{bit_and}
use Rattle.std.proofs.lemmas.Nat.{one_shl, and_mask}
use Rattle.codec.proofs.bits.part.Goals as goal

pub returns : goal.returns
returns c =
    let a = c.args in
    ap (λ m. bit_and (a.w / 2 ^ a.from) (m - 1)) (one_shl a.width 32 c.requires.width)
    ∙ and_mask (a.w / 2 ^ a.from) a.width
