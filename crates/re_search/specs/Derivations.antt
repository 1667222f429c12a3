-- What the derivation of a problem comes to.
use Rattle.std.specs.Prelude.{◌≡◌, None, Some}
use Rattle.re_problem.specs.Problems.{Problem}
use Rattle.re_step.specs.Derivations.{derivation, step_limit}
use Rattle.re_search.specs.declared.derivations.Found.{Found}
use Rattle.re_search.specs.declared.derivations.Found.TheVariants.{Derived, Limit}

-- the derived problem where it passes no limit, and else the first limit that it passes
abbrev pub IsFound : Problem → Found → Type 0
IsFound problem (Derived derived) = (step_limit problem ≡ None) × (derived ≡ derivation problem)
IsFound problem (Limit limit) = step_limit problem ≡ Some limit
