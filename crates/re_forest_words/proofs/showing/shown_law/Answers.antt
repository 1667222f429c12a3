use Rattle.re_forest_words.proofs.BehindSteps.{shown}
use Rattle.re_forest_words.proofs.showing.shown_law.Goals as goal

pub returns : goal.returns
returns c = shown
