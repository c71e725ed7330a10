-- What writing a frame into a run of words does.
use Rattle.std.specs.Prelude.{ℕ, cond, List, ◌++◌, length, drop, nat_le}
use Rattle.frames.specs.declared.frame.Frame.{Frame}
use Rattle.frames.specs.Answers.{Answer, gives, refuses}
use Rattle.codec.specs.Layout.{frame_words, frame_fits}

-- The answer where the run has that many words: how many of them the frame takes.
abbrev pub writes : {P : Type 0} → (P → List ℕ) → Frame P → ℕ → Answer ℕ
writes words f room =
    cond (frame_fits f)
    (cond (nat_le (length (frame_words words f)) room) (gives (length (frame_words words f))) (refuses 19))
    (refuses 18)

-- The run afterwards, by the answer: the frame's words and then what stood there, or all as it was.
abbrev pub overwritten : List ℕ → Answer ℕ → List ℕ → List ℕ
overwritten ws (gives n) run = ws ++ drop n run
overwritten ws (refuses n) run = run
