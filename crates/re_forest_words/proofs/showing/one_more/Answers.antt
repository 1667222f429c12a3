use Rattle.std.proofs.Common.{subst}
use Rattle.re_forest_words.proofs.BehindSteps.{shown_more}
use Rattle.re_forest_words.proofs.showing.one_more.Goals as goal
use Rattle.re_forest_words.specs.Showings.{IsShowing}
use Rattle.re_problem.specs.Derived.{derived}

pub returns-in-Shown : goal.returns-in-Shown
returns-in-Shown c = λ problem more is. shown_more problem more c.in-Shown.shown (subst (IsShowing (derived problem) more) c.in-Shown.is is)
