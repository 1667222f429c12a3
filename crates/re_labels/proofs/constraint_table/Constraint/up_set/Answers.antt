use Rattle.std.proofs.Common.{◌∙◌, arith, length}
use Rattle.re_labels.proofs.Tests.{eqb-true}
use Rattle.std.proofs.Common.{ap, sym}
use Rattle.re_labels.proofs.Strengths.{IsLabelSet-so_far, so_far-all, so_far-alone, so_far-more, so_far-none}
use Rattle.re_labels.proofs.constraint_table.Constraint.up_set.Goals as goal

pub loop-place-init : goal.loop-place-init
loop-place-init c = c.labels_below-candidates.ensures ∙ so_far-none c.args.self.now c.args.weak c.args.labels

pub returns-then-is_empty : goal.returns-then-is_empty
returns-then-is_empty c =
    so_far-alone c.args.self.now c.args.weak c.args.labels c.loop-place.place c.loop-place.candidates c.len-place-end.ensures.constraint c.loop-place.invariant
    (ap length (sym c.remove.ensures) ∙ eqb-true (length c.remove.result) 0 (sym c.is_empty.ensures ∙ c.if-is_empty.true))

pub kept_by-candidates-requires-clause-set : goal.kept_by-candidates-requires-clause-set
kept_by-candidates-requires-clause-set c = IsLabelSet-so_far c.args.self.now c.args.weak c.args.labels c.loop-place.place c.loop-place.candidates c.requires.labels c.loop-place.invariant

pub loop-place-preserved : goal.loop-place-preserved
loop-place-preserved c =
    c.kept_by-candidates.ensures
    ∙ so_far-more c.args.self.now c.args.weak c.args.labels c.loop-place.place c.in-Some.config.now c.loop-place.candidates (omega (arith, c.len-place-end.ensures.len, c.loop-place-test.true)) c.in-Some.ensures.config c.loop-place.invariant

pub returns : goal.returns
returns c =
    c.loop-place.invariant ∙ so_far-all c.args.self.now c.args.weak c.args.labels c.loop-place.place (omega (arith, c.len-place-end.ensures.len, c.loop-place-test.false))
