-- From layers and labels: a problem with a flexible set of labels takes at most the order of log N rounds on forests.
use Rattle.std.proofs.Common.{ℕ, suc, ◌+◌, ◌*◌, ◌≤◌, arith}
use Rattle.re_forests.proofs.Solved.{labels}
use Rattle.re_forests.specs.LabelLaws.{OrderLogLaw}
use Rattle.re_layers.proofs.Locality.{local_most}
use Rattle.re_layers.specs.Laws.{LayersLaw}

few_rounds : (K b l : ℕ) → K * suc b + suc (K * suc b) * (2 * l + 4) ≤ (K + suc K * (2 * l + 4)) * suc b
few_rounds K b l = omega arith

pub order_log : LayersLaw → OrderLogLaw
order_log layers problem set l is_problem flexible =
    let (K, find) = layers problem.active.degree problem.passive.degree l in (
      K + suc K * (2 * l + 4),
      λ N b small.
          let (layer, path, local_layer, local_path, layered) = find N b small in
          let (algorithm, local, solves) =
          labels problem set l N (K * suc b) (K * suc b) layer path is_problem flexible local_layer local_path layered in (
            algorithm,
            local_most (K * suc b + suc (K * suc b) * (2 * l + 4)) ((K + suc K * (2 * l + 4)) * suc b) algorithm (few_rounds K b l) local,
            solves,
          ),
    )
