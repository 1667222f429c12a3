-- Worked problems, of three classes on forests.
use Rattle.re_forests.specs.TwoColours.{two_colours}
use Rattle.re_forests.specs.Classes.{IsAboveLinear, IsAboveLogOnForests, IsAboveLogStarOnForests, IsBelowLinear, IsBelowLogOnForests, IsBelowLogStarOnForests}
use Rattle.re_given.specs.Unavoidable.{colouring}
use Rattle.re_problem.specs.Examples.{relaxed_sinkless}

-- to colour the nodes of paths properly with 3 colours takes the order of log* N rounds
abbrev pub ThreeColoursLaw : Type 0
ThreeColoursLaw = IsAboveLogStarOnForests (colouring 2 2 3) × IsBelowLogStarOnForests (colouring 2 2 3)

-- the relaxation of sinkless orientation takes the order of log N rounds
abbrev pub SinklessLaw : Type 0
SinklessLaw = IsAboveLogOnForests relaxed_sinkless × IsBelowLogOnForests relaxed_sinkless

-- 2-colouring of paths takes the order of N rounds
abbrev pub TwoColoursLaw : Type 0
TwoColoursLaw = IsAboveLinear two_colours × IsBelowLinear two_colours
