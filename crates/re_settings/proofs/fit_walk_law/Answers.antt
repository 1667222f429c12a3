use Rattle.re_settings.proofs.Told.{fit_walk_law as law}
use Rattle.re_settings.proofs.fit_walk_law.Goals as goal

pub returns : goal.returns
returns c = law
