use Rattle.std.proofs.Common.{sym, arith}
use Rattle.std.proofs.lemmas.Bool.{le-ltb}
use Rattle.payloads.specs.Made.{checked-none}
use Rattle.frames_tests.specs.StampLaws.{stamp_of-value}
use Rattle.frames_tests.proofs.stamp.methods.stamp_of.Goals as goal

pub returns-then-value-le-LAST_STAMP : goal.returns-then-value-le-LAST_STAMP
returns-then-value-le-LAST_STAMP c = sym (stamp_of-value _)

pub returns-else-value-le-LAST_STAMP : goal.returns-else-value-le-LAST_STAMP
returns-else-value-le-LAST_STAMP c = sym (checked-none _ _ (le-ltb _ _ (omega arith)))
