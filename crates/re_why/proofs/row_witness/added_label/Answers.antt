use Rattle.std.proofs.Common.{◌∙◌, arith, below_more, sym}
use Rattle.re_problem.proofs.FirstFound.{label-here, label-none}
use Rattle.re_why.specs.Finding.{can_add}
use Rattle.re_why.proofs.row_witness.added_label.Goals as goal

pub returns-then-can_add : goal.returns-then-can_add
returns-then-can_add c =
    sym (label-here (can_add c.args.passive.now c.args.sets.now c.args.place) c.args.labels c.loop-label.label c.loop-label-test.true c.loop-label.invariant (sym c.can_add.ensures ∙ c.if-can_add.true))

pub loop-label-preserved : goal.loop-label-preserved
loop-label-preserved c = below_more _ _ c.loop-label.invariant (sym c.can_add.ensures ∙ c.if-can_add.false)

pub returns : goal.returns
returns c = sym (label-none (can_add c.args.passive.now c.args.sets.now c.args.place) c.args.labels (λ k l. c.loop-label.invariant k (omega (arith, c.loop-label-test.false, l))))
