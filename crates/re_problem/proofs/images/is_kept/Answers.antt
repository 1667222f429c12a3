use Rattle.std.proofs.Common.{map}
use Rattle.re_labels.specs.Configs.{image_at}
use Rattle.re_labels.proofs.SaidChoices.{found-is}
use Rattle.re_problem.proofs.images.is_kept.Goals as goal

pub returns : goal.returns
returns c = found-is c.args.constraint.now (map (image_at c.args.images.now) c.args.config.now) c.image.result c.contains.result c.contains.ensures c.image.ensures
