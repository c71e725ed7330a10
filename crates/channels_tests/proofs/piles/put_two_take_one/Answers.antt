use Rattle.channels_tests.proofs.Two.{one_of_two}
use Rattle.channels_tests.proofs.piles.put_two_take_one.Goals as goal

pub returns-clause-given : goal.returns-clause-given
returns-clause-given g c = one_of_two g.met.C.Channel.lawful c.args.first c.args.second _ _ _ c.take.result c.put_two.ensures c.take.ensures
