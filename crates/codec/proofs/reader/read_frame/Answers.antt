-- The answer is the definition's, so the words read are those of the frame.
use Rattle.std.proofs.Common.{◌≡◌, sym, ◌∙◌, rules}
use Rattle.std.proofs.lemmas.Slice.{first_rest}
use Rattle.frames.specs.Answers.{answer}
use Rattle.codec.specs.Reading.{frame_at}
use Rattle.codec.proofs.WriteBack.{written_back}
use Rattle.codec.proofs.reader.read_frame.Goals as goal

pub returns-clause-writes_back : goal.returns-clause-writes_back
returns-clause-writes_back g c =
    let p = g.P.Payload in
    let run = c.args.run.now in
    let told : answer c.read_after.result ≡ frame_at p.SIZE p.reads run = search (rules, first_rest) in
    λ f n e. written_back p.SIZE p.words p.reads g.met.P.Payload.only run f n (sym told ∙ e)
