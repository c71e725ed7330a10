-- The words so far are shown.
use Rattle.std.proofs.Common.{◌≡◌, take, string_bytes}
use Rattle.frametext.specs.Words.{words_text}
use Rattle.frametext.proofs.word_text.show_words.Given as goal

abbrev pub invariant-loop-w : goal.invariant-loop-w
invariant-loop-w l = string_bytes l.text ≡ words_text (take l.w-index l.words)
