-- What the search for a fixed point behind relaxations answers.
use Rattle.std.specs.Prelude.{◌≡◌, Some, None}
use Rattle.re_labels.specs.declared.TheConstants.{MAX_LABELS}
use Rattle.re_problem.specs.NamedProblems.{unnamed}
use Rattle.re_problem.specs.Zero.{zero_place}
use Rattle.re_cert.specs.Bounds.{Bound, last_problem}
use Rattle.re_cert.specs.declared.certificate.Kind.TheVariants.{Fixed}
use Rattle.re_cert.specs.declared.certificate.TheConstants.{MAX_STEPS}
use Rattle.re_shaping.specs.Extensions.{GoesOn}
use Rattle.re_relaxed.specs.declared.types.Relaxed.{Relaxed}
use Rattle.re_relaxed.specs.declared.types.Relaxed.TheVariants.{Found, NotFound, Solvable, TooMany}

-- a fixed point that goes on from the chain; the place of the first configuration that shows that the chain's last problem is solvable without
-- communication, exactly where it is; or nothing found, which says nothing of the problem
abbrev pub Answers : Bound → Relaxed → Type 0
Answers chain (Found bound) = (zero_place (unnamed (last_problem chain)) ≡ None) × GoesOn Fixed MAX_STEPS MAX_LABELS chain bound
Answers chain (Solvable place) = zero_place (unnamed (last_problem chain)) ≡ Some place
Answers chain (NotFound nodes cut) = zero_place (unnamed (last_problem chain)) ≡ None
Answers chain TooMany = zero_place (unnamed (last_problem chain)) ≡ None
