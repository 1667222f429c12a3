use Rattle.std.proofs.Common.{◌∙◌, arith, length, sym, take}
use Rattle.re_labels.specs.Configs.{image_at}
use Rattle.re_labels.specs.Sets.{has}
use Rattle.re_problem.proofs.FirstFound.{label-here, label-none}
use Rattle.re_problem.proofs.images.first_twice.Goals as goal

pub returns-then-contains : goal.returns-then-contains
returns-then-contains c =
    sym (label-here (λ label. has (take label c.args.images.now) (image_at c.args.images.now label)) (length c.args.images.now) c.loop-label.label c.loop-label-test.true c.loop-label.invariant
    (sym c.contains.ensures.value ∙ c.if-contains.true))

pub returns : goal.returns
returns c =
    sym (label-none (λ label. has (take label c.args.images.now) (image_at c.args.images.now label)) (length c.args.images.now) (λ k l. c.loop-label.invariant k (omega (arith, c.loop-label-test.false))))
