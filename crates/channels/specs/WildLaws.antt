-- A wild channel is a channel. It stands here, and not in proofs/, since a ghost member cites it. Assumes nothing.
use Rattle.channels.specs.Channels.{Lawful}
use Rattle.channels.specs.Wilds.{wild_waits, WildPuts, WildTakes}
use Rattle.channels.specs.declared.wild.Wild.{Wild}

pub wild_lawful : {F : Type 0} → Lawful {C = Wild F} {F = F} wild_waits WildPuts WildTakes
wild_lawful = record { put_adds = λ c f d p. p.adds.each; take_gives = λ c f d t. t.gives; take_leaves = λ c o d t. t.leaves }
