use Rattle.std.proofs.Common.{sym, ap, ◌∙◌, w32}
use Rattle.std.proofs.lemmas.Int.{to_z-of_z}
use Rattle.payloads.specs.Ranges.{line_fits}
use Rattle.payloads.specs.Lines.{line_of}
use Rattle.payloads.specs.Made.{checked-none}
use Rattle.payloads.specs.LineLaws.{line_of-parts}
use Rattle.payloads.proofs.line.methods.line_of.Goals as goal

pub returns-then-line_fits : goal.returns-then-line_fits
returns-then-line_fits c = sym (line_of-parts _) ∙ ap (line_of c.args.place) (to_z-of_z w32 c.args.step c.ranges.step)

pub returns-else-line_fits : goal.returns-else-line_fits
returns-else-line_fits c =
    let same = to_z-of_z w32 c.args.step c.ranges.step in
    sym (checked-none _ _ (ap (line_fits c.args.place) (sym same) ∙ sym c.if-line_fits.ensures))
