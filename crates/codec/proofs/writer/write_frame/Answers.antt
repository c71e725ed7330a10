-- The frame fits and so do its words: what stands in the run then reads back.
use Rattle.std.proofs.Common.{◌≡◌, ◌+◌, ◌-◌, ◌∷◌, ◌++◌, length, drop, sym, ap, ◌∙◌, arith}
use Rattle.frames.specs.Answers.{gives}
use Rattle.codec.specs.Words.{head_word, kind_code}
use Rattle.codec.specs.Layout.{kind_of, field_words, frame_words}
use Rattle.codec.specs.Reading.{count_after, frame_at}
use Rattle.codec.proofs.Counts.{fields_counted}
use Rattle.codec.proofs.Written.{gives_same}
use Rattle.codec.proofs.ReadBack.{frame_back}
use Rattle.codec.proofs.writer.write_frame.Goals as goal

pub returns-clause-reads_back : goal.returns-clause-reads_back
returns-clause-reads_back g c =
    let p = g.P.Payload in
    let laws = g.met.P.Payload in
    let f = c.args.frame in
    let n = c.word_count-count.result in
    let run = c.args.run.now in
    let fields = field_words p.words f.body in
    let fits = sym c.if-not-frame_fits.ensures in
    let count = c.word_count-count.ensures.count in
    let counted = fields_counted p.SIZE p.words laws.counted f.body in
    let long : n - 1 ≡ length fields = omega arith in
    let whole : count_after p.SIZE (kind_of f.body) + 1 ≡ n = omega arith in
    let head = c.head_of.ensures ∙ ap (head_word (kind_code (kind_of f.body)) f.sender f.addressee) long in
    let after : c.put_words.new.run ≡ frame_words p.words f ++ drop n run =
    c.put_words.ensures
    ∙ ap (λ h. h ∷ (fields ++ drop (count_after p.SIZE (kind_of f.body) + 1) run)) head
    ∙ ap (λ k. frame_words p.words f ++ drop k run) whole in
    let back = frame_back p.SIZE p.words p.reads laws.few laws.counted laws.narrow laws.back f (drop n run) fits in
    λ m e. ap (frame_at p.SIZE p.reads) after ∙ back ∙ ap (λ k. gives (f, k)) (sym count ∙ gives_same n m e)
