use Rattle.std.proofs.Common.{◌∙◌, ◌+◌, ◌++◌, [], ap, arith, slice_index_or}
use Rattle.re_problem.specs.Printed.{word_text}
use Rattle.re_problem.proofs.GatheredLines.{no_power, run_added}
use Rattle.re_problem.proofs.printing.add_run.Goals as goal
use Rattle.re_problem.proofs.printing.add_run.Goals.{then-count-gt1, else-count-gt1}

pub returns-clause-run : goal.returns-clause-run
returns-clause-run c =
    let labels = c.args.labels.now in
    let at = c.args.at in
    let count = c.run_length-count.result in
    run_added c.args.words.now labels at (at + count) (slice_index_or labels at 0) count c.args.lines.now c.add.new.lines c.if-count-gt1.lines c.run_length-count.ensures.runs
    (c.add.ensures.word ∙ ap (λ label. c.args.lines.now ++ word_text (slice_index_or c.args.words.now label [])) c.label_at-label.ensures.label)
    (elim c.if-count-gt1.branch [
      | then-count-gt1 w ↦ λ front ended. w.lines-is ∙ w.add_power.ensures.power front ended
      | else-count-gt1 w ↦ λ front ended. w.lines-is ∙ ended ∙ no_power count front (let least = c.run_length-count.ensures.least in let few = w.if-count-gt1.false in omega arith)
    ])
