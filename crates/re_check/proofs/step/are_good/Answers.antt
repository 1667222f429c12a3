use Rattle.std.proofs.Common.{◌≡◌, ◌≤◌, arith, length, subst}
use Rattle.std.specs.Prelude.{◌↔◌, IsTrue}
use Rattle.re_labels.specs.Constraints.{Constraint}
use Rattle.re_check.proofs.NextLabels.{next-count}
use Rattle.re_check.specs.StepClauses.{HasGoodImages}
use Rattle.re_check.proofs.StepTests.{good-test, known}
use Rattle.re_check.proofs.step.are_good.Goals as goal

pub are_good_images-requires-clause-few : goal.are_good_images-requires-clause-few
are_good_images-requires-clause-few c =
    let count : length c.args.entries.now ≡ length c.args.next.now.names = next-count c.args.entries.now (length c.args.next.now.names) c.requires.labels in
    omega (arith, count, c.active.ensures.problem.names.few)

pub are_good_images-requires-clause-known : goal.are_good_images-requires-clause-known
are_good_images-requires-clause-known c =
    known (length c.args.next.now.names) c.args.next.now.active c.active.result.now c.args.entries.now c.active.ensures.problem.problem.active c.active.ensures.active c.requires.labels

pub returns : goal.returns
returns c =
    let told = subst (λ (k : Constraint). IsTrue c.are_good_images.result ↔ HasGoodImages c.args.entries.now k c.passive.result.now) c.active.ensures.active c.are_good_images.ensures in
    good-test c.args.before.now.passive c.args.next.now.active c.args.entries.now c.are_good_images.result
    (subst (λ (k : Constraint). IsTrue c.are_good_images.result ↔ HasGoodImages c.args.entries.now c.args.next.now.active k) c.passive.ensures.passive told)
