-- A problem with a trimmed set that isn't empty is solved in as many rounds as there are nodes, up to a constant.
use Rattle.std.proofs.Common.{ℕ, suc, ◌+◌, ◌*◌, ◌≤◌, arith}
use Rattle.re_forests.proofs.Fills.{trimmed_fills}
use Rattle.re_forests.proofs.Solved.{labels_from}
use Rattle.re_forests.specs.Trimmed.{AllSeenLaw}
use Rattle.re_layers.proofs.Locality.{local_most}
use Rattle.re_layers.proofs.Raking.{raked_layers}

few_rounds : (N : ℕ) → 9 * suc N + suc (9 * suc N) * (2 * 0 + 4) ≤ 49 * suc N
few_rounds N = omega arith

pub all_seen : AllSeenLaw
all_seen problem set x is_problem trimmed held = (
  49,
  λ N.
      let (layer, path, local_layer, local_path, layered) = raked_layers problem.active.degree problem.passive.degree N in
      let (algorithm, local, solves) =
      labels_from problem set 0 N (9 * suc N) (9 * suc N) layer path is_problem (trimmed_fills problem set x trimmed held) local_layer local_path
      (λ G forest. (let (is, none) = layered G forest in (is, λ v some. some (none v)))) in (
        algorithm,
        local_most (9 * suc N + suc (9 * suc N) * (2 * 0 + 4)) (49 * suc N) algorithm (few_rounds N) local,
        solves,
      ),
)
