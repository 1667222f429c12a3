use Rattle.std.proofs.Common.{◌≡◌, arith, length}
use Rattle.re_check.proofs.NextLabels.{next-count}
use Rattle.re_check.proofs.StepTests.{known}
use Rattle.re_why.proofs.finding.bad_images.Goals as goal

pub bad_witness-requires-clause-few : goal.bad_witness-requires-clause-few
bad_witness-requires-clause-few c =
    let count : length c.args.entries.now ≡ length c.args.next.now.names = next-count c.args.entries.now (length c.args.next.now.names) c.requires.labels in
    omega (arith, count, c.active.ensures.problem.names.few)

pub bad_witness-requires-clause-known : goal.bad_witness-requires-clause-known
bad_witness-requires-clause-known c =
    known (length c.args.next.now.names) c.args.next.now.active c.active.result.now c.args.entries.now c.active.ensures.problem.problem.active c.active.ensures.active c.requires.labels
