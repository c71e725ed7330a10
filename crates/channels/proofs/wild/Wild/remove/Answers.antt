use Rattle.std.proofs.Common.{arith, length-take}
use Rattle.channels.proofs.Fronts.{front_removed}
use Rattle.channels.proofs.wild.Wild.remove.Goals as goal

pub returns-clause-leaves : goal.returns-clause-leaves
returns-clause-leaves g c = let w = c.args.self.now in
    λ f m. front_removed w.count c.args.at w.table.now _ f (omega (arith, c.requires, length-take w.count w.table.now)) w.fits m
