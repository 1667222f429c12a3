-- From layers of paths and labels: on paths a problem with a flexible set of labels takes at most the order of log* N rounds.
use Rattle.std.proofs.Common.{suc, ◌+◌, ◌*◌, subst, arith}
use Rattle.re_forests.proofs.Solved.{labels}
use Rattle.re_forests.specs.LabelLaws.{PathsLogStarLaw}
use Rattle.re_layers.proofs.Locality.{local_most}
use Rattle.re_layers.specs.Laws.{PathLayersLaw}
use Rattle.re_layers.specs.Networks.{IsForest}

pub paths_log_star : PathLayersLaw → PathsLogStarLaw
paths_log_star layers problem set l is_problem two two' flexible =
    let (M, K, find) = layers l in (
      K + suc M * (2 * l + 4),
      λ h N small.
          let (layer, path, local_layer, local_path, layered) = find h N small in
          let (algorithm, local, solves) =
          labels problem set l N M ((4 * l + 2) * h + K) layer path is_problem flexible local_layer local_path
          (λ G is. layered G (subst (λ a. IsForest a 2 N G) two (subst (λ p. IsForest problem.active.degree p N G) two' is))) in (
            algorithm,
            local_most ((4 * l + 2) * h + K + suc M * (2 * l + 4)) ((4 * l + 2) * h + (K + suc M * (2 * l + 4))) algorithm (omega arith) local,
            solves,
          ),
    )
