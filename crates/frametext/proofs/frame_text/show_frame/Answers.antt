use Rattle.frametext.proofs.Framed.{frame_respelled}
use Rattle.frametext.proofs.frame_text.show_frame.Goals as goal

pub returns-clause-reads_back : goal.returns-clause-reads_back
returns-clause-reads_back g c =
    let p = g.P.PayloadText in frame_respelled p.spelling p.spelled g.met.P.PayloadText.respelled c.args.frame
