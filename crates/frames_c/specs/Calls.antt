-- What the two calls of C answer and leave behind.
use Rattle.std.specs.Prelude.{cond, List, [], ◌∷◌, ℕ, eqb, ℤ, pos, neg_ℤ, length}
use Rattle.frames.specs.Answers.{Answer, gives, refuses, and_then}
use Rattle.frames.specs.declared.frame.Frame.{Frame}
use Rattle.frames.specs.declared.frame.Body.TheVariants.{Token}
use Rattle.payloads.specs.declared.line.ProfileLine.{ProfileLine}
use Rattle.payloads.specs.Lines.{line_words, line_reads}
use Rattle.codec.specs.Layout.{frame_words}
use Rattle.codec.specs.Writing.{writes, overwritten}
use Rattle.codec.specs.Reading.{frame_at}
use Rattle.frames_c.specs.declared.line_frame.LineFrame.{LineFrame}
use Rattle.frames_c.specs.Flat.{flat}

-- A count as it is, a refusal as minus its number.
abbrev pub signed : Answer ℕ → ℤ
signed (gives n) = pos n
signed (refuses n) = neg_ℤ (pos n)

-- What writing a token says before its line is looked at: the line takes one word, whatever it is.
abbrev pub token_writes : LineFrame → ℕ → Answer ℕ
token_writes x room = writes (λ (_ : Unit {0}). 0 ∷ []) (record { sender = x.sender; addressee = x.addressee; body = Token x.s x.r tt }) room

-- The refusal where the numbers give no frame: that one, or of a token an earlier one that writing it meets.
abbrev pub earliest : LineFrame → ℕ → ℕ → Answer ℕ
earliest x room n = cond (eqb x.kind 3) (and_then (token_writes x room) (λ _. refuses n)) (refuses n)

-- The count of words that the given frame takes in a run of that many.
abbrev pub line_writes : LineFrame → Answer (Frame ProfileLine) → ℕ → Answer ℕ
line_writes x (gives f) room = writes line_words f room
line_writes x (refuses n) room = earliest x room n

-- The run afterwards: the given frame's words and then what stood there, or all as it was.
abbrev pub line_written : Answer (Frame ProfileLine) → List ℕ → List ℕ
line_written (gives f) run = overwritten (frame_words line_words f) (writes line_words f (length run)) run
line_written (refuses n) run = run

-- The frame at the front of a run of words, and the count of its words.
abbrev pub line_at : List ℕ → Answer (Frame ProfileLine × ℕ)
line_at run = frame_at 1 line_reads run

-- The count of the words that were read.
abbrev pub line_count : Answer (Frame ProfileLine × ℕ) → Answer ℕ
line_count got = and_then got (λ g. gives g.1)

-- The numbers afterwards: those of the frame that was read, or all as they were.
abbrev pub line_read : Answer (Frame ProfileLine × ℕ) → LineFrame → LineFrame
line_read (gives g) x = flat g.0
line_read (refuses n) x = x
