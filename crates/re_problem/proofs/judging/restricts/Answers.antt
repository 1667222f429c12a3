use Rattle.std.proofs.Common.{◌∙◌, ap, length}
use Rattle.re_problem.proofs.ImageRows.{filled_sets, known_labels}
use Rattle.re_problem.proofs.judging.restricts.Goals as goal

pub first_not_good-requires-clause-sets : goal.first_not_good-requires-clause-sets
first_not_good-requires-clause-sets c =
    filled_sets (length c.args.from.now.names) c.args.map.now c.images-2.result.now c.images.result.now c.first_empty.result c.degrees.ensures.problem.names.few c.requires.labels c.images-2.ensures.images c.images.ensures.images
    c.first_empty.ensures c.in_default.is

pub first_not_allowed-requires-clause-known : goal.first_not_allowed-requires-clause-known
first_not_allowed-requires-clause-known c =
    known_labels (length c.args.to.now.names) (length c.images-3.result.now) c.args.to.now.passive c.passive-2.result.now c.passive-2.ensures.problem.problem.passive c.passive-2.ensures.passive
    (ap length c.images-3.ensures.images ∙ c.requires.images)

pub first_not_allowed-requires-clause-sets : goal.first_not_allowed-requires-clause-sets
first_not_allowed-requires-clause-sets c =
    filled_sets (length c.args.from.now.names) c.args.map.now c.images-3.result.now c.images.result.now c.first_empty.result c.degrees.ensures.problem.names.few c.requires.labels c.images-3.ensures.images c.images.ensures.images
    c.first_empty.ensures c.in_default.is
