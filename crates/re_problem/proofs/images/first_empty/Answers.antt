use Rattle.std.proofs.Common.{◌∙◌, ap, arith, eqb, length, sym}
use Rattle.re_labels.specs.Rows.{set_at}
use Rattle.re_problem.proofs.FirstFound.{label-here, label-none, same_set}
use Rattle.re_problem.proofs.images.first_empty.Goals as goal

pub returns-then-is_empty : goal.returns-then-is_empty
returns-then-is_empty c =
    sym (label-here (λ label. eqb (length (set_at c.args.sets.now label)) 0) (length c.args.sets.now) c.loop-label.label c.loop-label-test.true c.loop-label.invariant
    (ap (λ s. eqb (length s) 0) (sym (c.index-sets-label.is ∙ same_set c.args.sets.now c.loop-label.label c.index-sets-label.result c.loop-label-test.true)) ∙ sym c.is_empty.ensures ∙ c.if-is_empty.true))

pub returns : goal.returns
returns c =
    sym (label-none (λ label. eqb (length (set_at c.args.sets.now label)) 0) (length c.args.sets.now) (λ k l. c.loop-label.invariant k (omega (arith, c.loop-label-test.false))))
