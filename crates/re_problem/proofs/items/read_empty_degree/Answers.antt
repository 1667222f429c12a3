use Rattle.std.proofs.Common.{◌∙◌, ◌<◌, ap, arith, sym}
use Rattle.re_problem.specs.Items.{degree_word}
use Rattle.re_problem.proofs.WordLemmas.{next_word, no_percent, no_word, percent, two_words}
use Rattle.re_problem.proofs.items.read_empty_degree.Goals as goal

pub returns-then-from-to : goal.returns-then-from-to
returns-then-from-to c = sym (ap degree_word (no_word c.args.line.now 0 c.skip_blanks-from.result c.word_end-to.result c.skip_blanks-from.ensures.place c.word_end-to.ensures.word c.if-from-to.true))

pub returns-then-skip_blanks-line : goal.returns-then-skip_blanks-line
returns-then-skip_blanks-line c =
    let ordered = c.word_end-to.ensures.from in
    let apart = c.if-from-to.false in
    let below : c.skip_blanks-from.result < c.word_end-to.result = omega arith in
    two_words c.args.line.now c.skip_blanks-from.result c.word_end-to.result
    (next_word c.args.line.now 0 c.skip_blanks-from.result c.word_end-to.result c.skip_blanks-from.ensures.place c.word_end-to.ensures.word ordered c.word_end-to.ensures.within apart)
    below c.word_end-to.ensures.within
    (let place = c.skip_blanks.ensures.place in let within = c.skip_blanks.ensures.within in let more = c.if-skip_blanks-line.true in omega arith)

pub returns-then-line-from-ne37 : goal.returns-then-line-from-ne37
returns-then-line-from-ne37 c =
    let ordered = c.word_end-to.ensures.from in
    let apart = c.if-from-to.false in
    let below : c.skip_blanks-from.result < c.word_end-to.result = omega arith in
    no_percent c.args.line.now c.skip_blanks-from.result c.word_end-to.result
    (next_word c.args.line.now 0 c.skip_blanks-from.result c.word_end-to.result c.skip_blanks-from.ensures.place c.word_end-to.ensures.word ordered c.word_end-to.ensures.within apart)
    below c.word_end-to.ensures.within (sym c.skip_blanks.ensures.place ∙ c.if-skip_blanks-line.false) c.if-line-from-ne37.true

pub returns : goal.returns
returns c =
    let ordered = c.word_end-to.ensures.from in
    let apart = c.if-from-to.false in
    let below : c.skip_blanks-from.result < c.word_end-to.result = omega arith in
    c.read_power.ensures
    ∙ percent c.args.line.now c.skip_blanks-from.result c.word_end-to.result
    (next_word c.args.line.now 0 c.skip_blanks-from.result c.word_end-to.result c.skip_blanks-from.ensures.place c.word_end-to.ensures.word ordered c.word_end-to.ensures.within apart)
    below c.word_end-to.ensures.within (sym c.skip_blanks.ensures.place ∙ c.if-skip_blanks-line.false) c.if-line-from-ne37.false
