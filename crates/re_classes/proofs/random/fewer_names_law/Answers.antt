use Rattle.re_classes.proofs.FewerNames.{fewer_names}
use Rattle.re_classes.proofs.random.fewer_names_law.Goals as goal

pub returns : goal.returns
returns c = fewer_names
