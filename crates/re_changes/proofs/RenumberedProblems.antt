-- Problems that are numbered anew are problems.
use Rattle.std.proofs.Common.{◌≡◌, ℕ, ◌<◌, List, [], length, map, get_or, Some, sym, ap, ◌∙◌, subst, arith}
use Rattle.re_labels.specs.Configs.{image_at}
use Rattle.re_labels.proofs.Membership.{In, length-map'}
use Rattle.re_problem.specs.NamedProblems.{NamedProblem, built, unnamed}
use Rattle.re_problem.specs.Problems.{IsProblem}
use Rattle.re_labels.proofs.ConstraintImages.{IsConstraint-image}
use Rattle.re_changes.specs.Renumbering.{renumbered}

-- ---- problems
module _ (stay images : List ℕ) (named : NamedProblem) (is : IsProblem (unnamed named))
    (active : (config : List ℕ) (x : ℕ) → In config named.active.configs → In x config → image_at images x < length stay)
    (passive : (config : List ℕ) (x : ℕ) → In config named.passive.configs → In x config → image_at images x < length stay) where
  pub IsProblem-renumbered : IsProblem (unnamed (renumbered stay images named))
  IsProblem-renumbered =
      let count = length-map' (λ label. get_or named.names label []) stay in
      record {
        active = IsConstraint-image images named.active (length named.names) (length (map (λ label. get_or named.names label []) stay)) is.active (λ config x i j. let l = active config x i j in omega (arith, count));
        passive = IsConstraint-image images named.passive (length named.names) (length (map (λ label. get_or named.names label []) stay)) is.passive (λ config x i j. let l = passive config x i j in omega (arith, count));
      }

-- ---- the same along equal lists
abbrev pub IsBuilt : List ℕ → List ℕ → NamedProblem → Type 0
IsBuilt stay images named = built (renumbered stay images named).names (renumbered stay images named).active (renumbered stay images named).passive ≡ Some (renumbered stay images named)

pub built-along : (stay stay' images images' : List ℕ) (named named' : NamedProblem) → stay' ≡ stay → images' ≡ images → named' ≡ named → IsBuilt stay images named → IsBuilt stay' images' named'
built-along stay stay' images images' named named' s m p h =
    subst (λ n. IsBuilt stay' images' n) (sym p) (subst (λ k. IsBuilt stay' k named) (sym m) (subst (λ k. IsBuilt k images named) (sym s) h))
