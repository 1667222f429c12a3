-- Problems that are examples.
use Rattle.std.specs.Prelude.{[], ◌∷◌}
use Rattle.re_problem.specs.Problems.{Problem}

-- 2-colouring of paths: the active nodes are coloured, and a passive node joins two of them
abbrev pub two_colours : Problem
two_colours = record {
  labels = 2;
  active = record { degree = 2; configs = (0 ∷ 0 ∷ []) ∷ (1 ∷ 1 ∷ []) ∷ [] };
  passive = record { degree = 2; configs = (0 ∷ 1 ∷ []) ∷ [] };
}
