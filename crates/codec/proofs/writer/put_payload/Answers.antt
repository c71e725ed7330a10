use Rattle.std.proofs.Common.{◌≡◌, map, get_or, take, set, sym, ap, ◌∙◌, arith}
use lib.ListN.{length-map}
use Rattle.std.proofs.lemmas.List.{get_or-map, length-take}
use Rattle.codec.specs.Words.{word}
use Rattle.codec.proofs.Runs.{laid_more}
use Rattle.codec.proofs.writer.put_payload.Goals as goal

pub loop-i-preserved : goal.loop-i-preserved
loop-i-preserved g c =
    let i = c.loop-i.i in
    let ws = g.P.Payload.words c.args.payload in
    let counted = g.met.P.Payload.counted c.args.payload in
    let front = take c.SIZE.result c.args.run.now in
    let room = length-take c.SIZE.result c.args.run.now in
    let long = length-map ws (word 12) in
    let here = get_or-map (word 12) ws i 0 0 (omega arith) in
    let wrote : c.field_word.result ≡ get_or (map (word 12) ws) i 0 =
    c.field_word.ensures ∙ ap (word 12) (c.from.ensures ∙ c.word.ensures) ∙ sym here in
    ap (λ v. set c.loop-i.place-items i v) wrote
    ∙ ap (λ run. set run i (get_or (map (word 12) ws) i 0)) c.loop-i.invariant
    ∙ laid_more (map (word 12) ws) front i (omega arith) (omega arith)
