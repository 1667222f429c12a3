use Rattle.std.proofs.Common.{◌∙◌, ap, arith, below_more, not, sym}
use Rattle.re_problem.proofs.FirstFound.{label-here, label-none}
use Rattle.re_why.specs.Finding.{names_first}
use Rattle.re_why.proofs.end_witness.missing_pair.Goals as goal

pub returns-then-not-has_first : goal.returns-then-not-has_first
returns-then-not-has_first c =
    sym (label-here (λ label. not (names_first c.args.pairs.now label)) c.args.labels c.loop-label.label c.loop-label-test.true c.loop-label.invariant
    (ap not (sym c.has_first.ensures ∙ c.if-not-has_first.true)))

pub loop-label-preserved : goal.loop-label-preserved
loop-label-preserved c = below_more _ _ c.loop-label.invariant (ap not (sym c.has_first.ensures ∙ c.if-not-has_first.false))

pub returns : goal.returns
returns c = sym (label-none (λ label. not (names_first c.args.pairs.now label)) c.args.labels (λ k l. c.loop-label.invariant k (omega (arith, c.loop-label-test.false, l))))
