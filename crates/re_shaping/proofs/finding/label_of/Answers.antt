use Rattle.std.proofs.Common.{ap, arith, ◌∙◌, sym, inl, inr, length, get_or}
use Rattle.re_labels.proofs.Tests.{below-cases}
use Rattle.re_shaping.specs.Colours.{colour_at}
use Rattle.re_shaping.proofs.finding.label_of.Goals as goal

pub loop-label-preserved : goal.loop-label-preserved
loop-label-preserved c = λ x at same. elim (below-cases x c.loop-label.label at) [
  | inl earlier ↦ c.loop-label.invariant x earlier same
  | inr now ↦ c.if-other-colour.false (ap (λ l. get_or l c.loop-label.label 0) c.all-other-items.ensures.all ∙ ap (colour_at c.args.colours.now) (sym now) ∙ same)
]

pub returns : goal.returns
returns c = λ label below same.
    let n = ap length c.all-other-items.ensures.all in
    c.loop-label.invariant label (omega (arith, n, c.loop-label-test.false)) same
