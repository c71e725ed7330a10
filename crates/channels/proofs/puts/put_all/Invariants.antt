use Rattle.std.proofs.Common.{drop}
use Rattle.std.specs.List.{FoldsTo}
use Rattle.channels.proofs.puts.put_all.Given as goal

-- What is left makes the whole.
abbrev pub invariant-loop-frame : goal.invariant-loop-frame
invariant-loop-frame g l =
    let puts = g.C.Channel.puts in
    (d : _) → FoldsTo puts l.channel (drop l.frame-index l.frames) d → FoldsTo puts l.initial.channel l.frames d
