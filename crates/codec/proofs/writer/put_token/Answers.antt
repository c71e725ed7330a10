use Rattle.std.proofs.Common.{map, rules}
use Rattle.codec.specs.Words.{word}
use Rattle.codec.proofs.Runs.{laid_behind}
use Rattle.codec.proofs.writer.put_token.Goals as goal

pub returns : goal.returns
returns g c =
    let ws = map (word 12) (g.P.Payload.words c.args.payload) in
    laid_behind c.args.head (word 8 c.args.s) (word 9 c.args.r) g.P.Payload.SIZE ws c.args.run.now
    c.copy_from_slice.new.self c.put_payload.new.run (search rules) c.put_payload.ensures
