-- Bounds below carry over from local algorithms that see the identifiers of active nodes alone; and nothing lies between constant and log* N.
use Rattle.std.proofs.Common.{◌+◌, ◌*◌}
use Rattle.re_classes.proofs.Decided.{above_log_star, constant}
use Rattle.re_forests.proofs.Linear.{linear}
use Rattle.re_forests.proofs.ApartForests.{constant_apart}
use Rattle.re_forests.specs.ClassLaws.{AboveLaw, AboveLinearLaw, ConstantLaw, NothingBetweenLaw}
use Rattle.re_forests.proofs.PortsOnForests.{ports_on_forests}
use Rattle.re_forests.proofs.Consequences.{above_log, above_log_star as above_log_star_views, link}

pub above : AboveLaw
above problem is = (above_log_star_views problem is, above_log problem is)

pub above_linear : AboveLinearLaw
above_linear problem is none = let (M, two) = linear problem is in (M, λ N T room solvable. none (two N T room solvable))

pub constant_forests : ConstantLaw
constant_forests problem is = (
  (λ forests. (constant problem is).0 (forests.0 + 1, λ N. link problem N forests.0 is (forests.1 ((1 + problem.active.degree) * N)))),
  (λ ports. (ports.0 + 1, λ N. ports_on_forests problem is ports.0 N ports.1)),
)

pub nothing_between : NothingBetweenLaw
nothing_between problem is = (
  (λ never. above_log_star_views problem is (above_log_star problem is (λ S solvable. never ((constant_forests problem is).1 (S, solvable))))),
  (λ above few. constant_apart problem few above),
)
