-- Bounds above on forests, also from those on infinite trees, and both bounds on paths.
use Rattle.re_layers.specs.Towers.{tower}
use Rattle.std.proofs.Common.{◌≡◌, ℕ, ◌+◌, ◌*◌, ◌^◌, ◌≤◌, subst, arith}
use Rattle.re_forests.proofs.AllSeen.{all_seen}
use Rattle.re_forests.proofs.FastPaths.{paths}
use Rattle.re_forests.proofs.OrderLog.{order_log}
use Rattle.re_forests.proofs.PathsLogStar.{paths_log_star}
use Rattle.re_forests.proofs.Unsolvable.{no_solution}
use Rattle.re_forests.specs.OnForests.{SolvableOnForests}
use Rattle.re_forests.proofs.TowerRooms.{places_room}
use Rattle.re_forests.specs.ClassLaws.{BelowLaw, BelowLinearLaw, BelowLogLaw, BelowLogStarLaw, NeverLaw, PathsLaw}
use Rattle.re_forests.proofs.FewOnForests.{few_colours_on_forests}
use Rattle.re_forests.proofs.LocalOnForests.{local_on_forests}
use Rattle.re_layers.proofs.Colours.{colours_law}
use Rattle.re_layers.proofs.FarColours.{far_colours_law}
use Rattle.re_layers.proofs.Layering.{layers}
use Rattle.re_layers.proofs.PathLayers.{path_layers}

pub below_log_star : BelowLogStarLaw
below_log_star problem is (k, solvable) =
    let (K, few) = few_colours_on_forests in
    let a : ℕ = problem.active.degree in
    let p : ℕ = problem.passive.degree in (
      2,
      k + K a p,
      λ h N low. let same : 2 * h + k + K a p ≡ 2 * h + (k + K a p) = omega arith in subst (SolvableOnForests problem N) same (few problem k h N is solvable low),
    )

pub below : BelowLaw
below problem is (K, solved) = (
  2,
  2 * (K + 11) + K + 2,
  λ h N few. (
      let k : ℕ = 2 * (h + (K + 11)) + K in
      let M : ℕ = tower (h + (K + 11)) in
      let room : N * 7 ^ (k + 2) ≤ M = places_room K h N few in
      let same : k + 2 ≡ 2 * h + (2 * (K + 11) + K + 2) = omega arith in
      subst (SolvableOnForests problem N) same (local_on_forests problem N M k is room (solved (h + (K + 11)) M (omega arith)))
      ),
)

pub below_log : BelowLogLaw
below_log = order_log (layers colours_law)

pub below_linear : BelowLinearLaw
below_linear = all_seen

pub never : NeverLaw
never = no_solution

pub on_paths : PathsLaw
on_paths problem is two two' = (
  (λ set l flexible. let (K, solved) = paths_log_star (path_layers far_colours_law) problem set l is two two' flexible in (4 * l + 2, K, solved)),
  (λ none.
      let (M, found) = paths problem is two two' in (
        M,
        λ N T room solvable. let (set, l, flexible) = found N T room solvable in none set l flexible,
      )),
)
