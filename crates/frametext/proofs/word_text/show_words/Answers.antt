use Rattle.std.proofs.Common.{get_or, ap, ◌∙◌, arith}
use Rattle.frametext.specs.Words.{word_text, with_word}
use Rattle.frametext.proofs.Shown.{words_more}
use Rattle.frametext.proofs.word_text.show_words.Goals as goal

pub loop-w-preserved : goal.loop-w-preserved
loop-w-preserved c =
    let ws = c.args.words.now in
    let i = c.loop-w.w-index in
    let word = word_text (get_or ws i 0) in
    c.in_ok-push_word.ensures ∙ ap (λ t. with_word t word) c.loop-w.invariant ∙ words_more ws i (omega arith)
