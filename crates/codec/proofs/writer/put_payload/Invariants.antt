-- The first words are written, and what stood behind them is as it was.
use Rattle.std.proofs.Common.{◌≡◌, ◌++◌, map, take, drop}
use Rattle.codec.specs.Words.{word}
use Rattle.codec.proofs.writer.put_payload.Given as goal

abbrev pub invariant-loop-i : goal.invariant-loop-i
invariant-loop-i g l = l.place-items ≡ take l.i (map (word 12) (g.P.Payload.words l.payload)) ++ drop l.i l.initial.place-items
