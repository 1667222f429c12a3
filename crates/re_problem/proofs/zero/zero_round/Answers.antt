use Rattle.std.proofs.Common.{◌≡◌, ap, ◌∙◌}
use Rattle.std.specs.List.{position}
use Rattle.re_problem.proofs.ZeroPlaces.{no-place, some-place}
use Rattle.re_problem.specs.NamedProblems.{unnamed}
use Rattle.re_problem.specs.Zero.{shows_zero, zero_place}
use Rattle.re_problem.proofs.zero.zero_round.Goals as goal

same : (c : goal.After-first_fit) → c.first_fit.result ≡ zero_place (unnamed c.args.problem.now)
same c = c.first_fit.ensures
    ∙ ap (λ passive. position (shows_zero passive) c.active.result.now.configs) c.passive.ensures.passive
    ∙ ap (λ active. position (shows_zero c.args.problem.now.passive) active.configs) c.active.ensures.active

pub returns-clause-none : goal.returns-clause-none
returns-clause-none c = no-place (unnamed c.args.problem.now) c.first_fit.result (same c)

pub returns-clause-some : goal.returns-clause-some
returns-clause-some c = some-place (unnamed c.args.problem.now) c.first_fit.result (same c)
