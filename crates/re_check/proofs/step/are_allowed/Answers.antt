use Rattle.std.proofs.Common.{◌≡◌, ◌≤◌, arith, length, subst}
use Rattle.std.specs.Prelude.{◌↔◌, IsTrue}
use Rattle.re_labels.specs.Constraints.{Constraint}
use Rattle.re_check.proofs.NextLabels.{next-count}
use Rattle.re_check.specs.StepClauses.{HasAllowedImages}
use Rattle.re_check.proofs.StepTests.{allowed_images-test, known}
use Rattle.re_check.proofs.step.are_allowed.Goals as goal

pub are_allowed_images-requires-clause-few : goal.are_allowed_images-requires-clause-few
are_allowed_images-requires-clause-few c =
    let count : length c.args.entries.now ≡ length c.args.next.now.names = next-count c.args.entries.now (length c.args.next.now.names) c.requires.labels in
    omega (arith, count, c.passive.ensures.problem.names.few)

pub are_allowed_images-requires-clause-known : goal.are_allowed_images-requires-clause-known
are_allowed_images-requires-clause-known c =
    known (length c.args.next.now.names) c.args.next.now.passive c.passive.result.now c.args.entries.now c.passive.ensures.problem.problem.passive c.passive.ensures.passive c.requires.labels

pub returns : goal.returns
returns c =
    let told = subst (λ (k : Constraint). IsTrue c.are_allowed_images.result ↔ HasAllowedImages c.args.entries.now k c.active.result.now) c.passive.ensures.passive c.are_allowed_images.ensures in
    allowed_images-test c.args.before.now.active c.args.next.now.passive c.args.entries.now c.are_allowed_images.result
    (subst (λ (k : Constraint). IsTrue c.are_allowed_images.result ↔ HasAllowedImages c.args.entries.now c.args.next.now.passive k) c.active.ensures.active told)
