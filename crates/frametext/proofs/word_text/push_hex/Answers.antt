use Rattle.std.proofs.Common.{◌++◌, ap, ◌∙◌, string_bytes, arith, rules}
use Rattle.std.proofs.lemmas.Result.{IfOk-weaker}
use Rattle.frametext.proofs.Hexes.{hex_shown}
use Rattle.frametext.proofs.word_text.push_hex.Goals as goal

pub returns : goal.returns
returns c =
    let shown = hex_shown c.args.w (omega arith) in
    IfOk-weaker c.write.result _ _ (λ x h. h ∙ ap (λ bs. string_bytes c.args.text.now ++ bs) shown) (search rules)
