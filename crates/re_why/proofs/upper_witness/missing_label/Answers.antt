use Rattle.std.proofs.Common.{◌∙◌, ap, arith, below_more, not, sym}
use Rattle.re_problem.proofs.FirstFound.{label-here, label-none}
use Rattle.re_why.specs.Finding.{names_label}
use Rattle.re_why.proofs.upper_witness.missing_label.Goals as goal

pub returns-then-not-has_label : goal.returns-then-not-has_label
returns-then-not-has_label c =
    sym (label-here (λ label. not (names_label c.args.entries.now label)) c.args.labels c.loop-label.label c.loop-label-test.true c.loop-label.invariant
    (ap not (sym c.has_label.ensures ∙ c.if-not-has_label.true)))

pub loop-label-preserved : goal.loop-label-preserved
loop-label-preserved c = below_more _ _ c.loop-label.invariant (ap not (sym c.has_label.ensures ∙ c.if-not-has_label.false))

pub returns : goal.returns
returns c = sym (label-none (λ label. not (names_label c.args.entries.now label)) c.args.labels (λ k l. c.loop-label.invariant k (omega (arith, c.loop-label-test.false, l))))
