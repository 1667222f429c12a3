-- What the definition of rare failures says of an algorithm whose chances are known.
use Rattle.std.specs.Prelude.{ℕ, ◌↔◌, ◌≤◌, ◌<◌}
use Rattle.re_given.specs.InputViews.{payloads}
use Rattle.re_given.specs.Unavoidable.{colouring}
use Rattle.re_classes.specs.RandomAlgorithms.{FailsRarely}

-- the two ends of an edge draw one of c colours with probability 1 / c: so the algorithm of 0 rounds in which each node outputs the colour that
-- it drew, on each edge, fails with a probability below 1 / q to colour the nodes properly exactly where q is less than c
abbrev pub DrawnColourLaw : Type 0
DrawnColourLaw = (a c q : ℕ) → 2 ≤ a → a ≤ 6 → 1 ≤ c → FailsRarely (colouring a 2 c) c 0 q payloads ↔ (q < c)
