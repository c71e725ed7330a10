use Rattle.std.proofs.Common.{map, take, sym, arith}
use Rattle.std.proofs.lemmas.List.{length-take, get_or-take}
use Rattle.std.proofs.lemmas.Bool.{cond-false}
use Rattle.frames.specs.Answers.{refuses, or_refuse}
use Rattle.codec.specs.Words.{word_value}
use Rattle.codec.proofs.Runs.{all_of_spoilt}
use Rattle.codec.proofs.reader.read_payload.Goals as goal

pub returns-then-not-is_field : goal.returns-then-not-is_field
returns-then-not-is_field g c =
    let ws = c.args.ws.now in
    let size = g.P.Payload.SIZE in
    let n = length-take c.SIZE.result ws in
    let here = get_or-take c.SIZE.result ws c.loop-i.i 0 (omega arith) in
    let spoilt = all_of_spoilt 12 c.loop-i.i size ws (omega arith) (omega arith) (rw (← here) (sym c.if-not-is_field.ensures)) in
    sym (cond-false _ (or_refuse (g.P.Payload.reads (map word_value (take size ws))) 17) (refuses 16) spoilt)
