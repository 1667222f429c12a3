use Rattle.std.proofs.Common.{length}
use Rattle.re_search.proofs.Losses.{below-most}
use Rattle.re_search.proofs.losing.loses.Goals as goal

pub loses_some-requires : goal.loses_some-requires
loses_some-requires c = below-most (length c.args.target.now.names) c.args.images.now c.names-names.ensures.problem.names.few c.requires

pub loses_some-requires-else-loses_some : goal.loses_some-requires-else-loses_some
loses_some-requires-else-loses_some c = below-most (length c.args.target.now.names) c.args.images.now c.names-names.ensures.problem.names.few c.requires
