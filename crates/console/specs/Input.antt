-- What is left of the input of a session. Assumes nothing.
use Rattle.std.specs.Prelude.{ℕ, ◌<◌, Option, IfSome, IfOk}
use Rattle.std.specs.declared.result.Result.{Result}
use Rattle.std.specs.Io.Iter.{lines_left}
use Rattle.console.specs.declared.session.Session.{Session}

-- The most lines that may still come.
abbrev pub input_left : Session → ℕ
input_left s = lines_left s.lines

-- A call that found something read a line for it.
abbrev pub ReadsOn : {A E : Type 0} → Session → Result (Option A) E → Session → Type 0
ReadsOn s r t = IfOk r (λ found. IfSome found (λ _. input_left t < input_left s))
