-- The extracted algorithm solves the first problem.
use Rattle.std.proofs.Common.{List, [], ◌∷◌, length}
use Rattle.std.specs.Prelude.{Contains}
use Rattle.re_laws.specs.Extracted.{IsUpperBound, Stage, extracted, first_fit}
use Rattle.re_labels.proofs.Membership.{first_found}
use Rattle.re_laws.proofs.SlowRounds.{SolvesBy-upper}
use Rattle.re_laws.proofs.ZeroRounds.{SolvesBy-zero}
use Rattle.re_laws.specs.Algorithms.{SolvesBy}
use Rattle.re_problem.proofs.ZeroPlaces.{ShowsZero-shows_zero, shows_zero-ShowsZero}
use Rattle.re_problem.specs.Problems.{Problem}
use Rattle.re_problem.specs.Zero.{ShowsZero, Zero, shows_zero}

-- the first configuration that passes shows Zero
pub first_fit-is : (problem : Problem) → Zero problem → Contains problem.active.configs (first_fit problem) × ShowsZero problem.passive (first_fit problem)
first_fit-is problem (config, held, shows) =
    let found = first_found (shows_zero problem.passive) problem.active.configs [] config held (ShowsZero-shows_zero problem.passive config shows) in
    (found.0, shows_zero-ShowsZero problem.passive (first_fit problem) found.1)

pub extracted_solves : (problem : Problem) (stages : List Stage) → IsUpperBound problem stages → SolvesBy problem (length stages) (extracted problem stages)
extracted_solves problem [] bound = let is = first_fit-is problem bound.1 in SolvesBy-zero problem bound.0 (first_fit problem, is.0, is.1)
extracted_solves problem (stage ∷ stages) bound =
    SolvesBy-upper problem stage.0 stage.1 (length stages) (extracted stage.0 stages) bound.1 (extracted_solves stage.0 stages bound.2)
