use Rattle.std.proofs.Common.{◌∙◌, ap, refl, false, Some, []}
use Rattle.re_problem.specs.Steps.LowerMap.{by_set}
use Rattle.re_why.proofs.Dispatch.{before-U3, before-U4, next-labels}
use Rattle.re_why.proofs.finding.upper_witness.Goals as goal
use Rattle.re_check.proofs.StepMeaning.{exchanged-degrees}

pub bad_images-requires-clause-degree : goal.bad_images-requires-clause-degree
bad_images-requires-clause-degree c = (exchanged-degrees c.args.before.now c.args.next.now (before-U3 c.args.before.now (record { lower = false; next = c.args.next.now; rows = []; map = by_set c.args.entries.now }) refl (c.requires.fault ∙ ap Some c.in-U3.is)).0).0

pub bad_images-requires-clause-labels : goal.bad_images-requires-clause-labels
bad_images-requires-clause-labels c = next-labels c.args.before.now c.args.next.now c.args.entries.now (before-U3 c.args.before.now (record { lower = false; next = c.args.next.now; rows = []; map = by_set c.args.entries.now }) refl (c.requires.fault ∙ ap Some c.in-U3.is)).1

pub shut_images-requires-clause-degree : goal.shut_images-requires-clause-degree
shut_images-requires-clause-degree c = (exchanged-degrees c.args.before.now c.args.next.now (before-U4 c.args.before.now (record { lower = false; next = c.args.next.now; rows = []; map = by_set c.args.entries.now }) refl (c.requires.fault ∙ ap Some c.in-U4.is)).0).1

pub shut_images-requires-clause-labels : goal.shut_images-requires-clause-labels
shut_images-requires-clause-labels c = next-labels c.args.before.now c.args.next.now c.args.entries.now (before-U4 c.args.before.now (record { lower = false; next = c.args.next.now; rows = []; map = by_set c.args.entries.now }) refl (c.requires.fault ∙ ap Some c.in-U4.is)).1
