use Rattle.re_classes.proofs.FewIdentifiers.{below_tower}
use Rattle.re_classes.proofs.few_rounds.tower_law.Goals as goal

pub returns : goal.returns
returns c = below_tower
