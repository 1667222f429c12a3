use Rattle.std.proofs.Common.{◌≡◌, arith, length}
use Rattle.re_check.proofs.NextLabels.{next-count}
use Rattle.re_check.proofs.StepTests.{known}
use Rattle.re_why.proofs.finding.shut_images.Goals as goal

pub shut_witness-requires-clause-few : goal.shut_witness-requires-clause-few
shut_witness-requires-clause-few c =
    let count : length c.args.entries.now ≡ length c.args.next.now.names = next-count c.args.entries.now (length c.args.next.now.names) c.requires.labels in
    omega (arith, count, c.passive.ensures.problem.names.few)

pub shut_witness-requires-clause-known : goal.shut_witness-requires-clause-known
shut_witness-requires-clause-known c =
    known (length c.args.next.now.names) c.args.next.now.passive c.passive.result.now c.args.entries.now c.passive.ensures.problem.problem.passive c.passive.ensures.passive c.requires.labels
