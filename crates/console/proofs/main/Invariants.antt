use Rattle.console.specs.Input.{input_left}
use Rattle.console.proofs.main.Given as goal

abbrev pub decreases-loop-session : goal.decreases-loop-session
decreases-loop-session l = input_left l.session
