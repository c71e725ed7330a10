use Rattle.frametext.proofs.frame_text.frame_field.Goals as goal

pub returns : goal.returns
returns c = c.field.ensures
