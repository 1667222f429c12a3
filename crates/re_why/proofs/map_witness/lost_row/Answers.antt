use Rattle.re_labels.proofs.Membership.{AllByRecursion-contains}
use Rattle.std.specs.Prelude.{Contains}
use Rattle.re_problem.specs.Steps.{entry_sets}
use Rattle.re_why.proofs.map_witness.lost_row.Goals as goal

pub image-requires-clause-held : goal.image-requires-clause-held
image-requires-clause-held c = λ set held. AllByRecursion-contains (Contains (entry_sets c.args.entries.now)) c.args.row.now set c.requires.held held
