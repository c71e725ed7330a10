use Rattle.std.proofs.Common.{◌≤◌}
use Rattle.console.specs.Input.{input_left}
use Rattle.console.proofs.session.Session.next_change.Given as goal

abbrev pub invariant-loop-act : goal.invariant-loop-act
invariant-loop-act g l = goal.F-IsAlwaysCallable g l.act × (input_left l.self ≤ input_left l.fn.self)

abbrev pub decreases-loop-act : goal.decreases-loop-act
decreases-loop-act g l = input_left l.self
