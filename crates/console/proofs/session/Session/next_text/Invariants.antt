use Rattle.std.proofs.Common.{◌≤◌}
use Rattle.console.specs.Input.{input_left}
use Rattle.console.proofs.session.Session.next_text.Given as goal

abbrev pub invariant-loop-line : goal.invariant-loop-line
invariant-loop-line l = input_left l.self ≤ input_left l.fn.self

abbrev pub decreases-loop-line : goal.decreases-loop-line
decreases-loop-line l = input_left l.self
