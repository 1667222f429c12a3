-- Worked problems, one of each class.
use Rattle.re_classes.specs.Classes.{IsAboveLog, IsOrderLogStar}
use Rattle.re_given.specs.Unavoidable.{colouring}
use Rattle.re_problem.specs.Examples.{relaxed_sinkless}

-- to colour the nodes of paths properly with 3 colours takes the order of log* N rounds
abbrev pub PathColouringLaw : Type 0
PathColouringLaw = IsOrderLogStar (colouring 2 2 3)

-- the relaxation of sinkless orientation takes at least the order of log N rounds
abbrev pub SinklessClassLaw : Type 0
SinklessClassLaw = IsAboveLog relaxed_sinkless
