-- Randomised algorithms whose nodes have different identifiers too.
use Rattle.std.specs.Prelude.{ℕ, suc, ◌+◌, ◌*◌, ◌^◌, ◌<◌, not, List, length, filter, slice_index}
use Rattle.re_given.specs.Given.{around_known}
use Rattle.re_given.specs.InputViews.{Fits, InputView, known}
use Rattle.re_layers.specs.Networks.{AreDifferent}
use Rattle.re_local.specs.LocalAlgorithms.{behind_passive, identified, shown}
use Rattle.re_problem.specs.Problems.{Problem}
use Rattle.re_classes.specs.RandomAlgorithms.{string_lists}
use Rattle.re_labels.specs.Constraints.{has_config}
use Rattle.re_laws.specs.Trees.{IsView, end, leaf, more}

-- the view with the image of each node's label in its place
abbrev pub with_images : (ℕ → ℕ) → InputView → InputView
with_images image leaf = leaf
with_images image end = end
with_images image (more back label branch rest) = more back (image label) (with_images image branch) (with_images image rest)

-- the view with what nodes know of each active node in place of its identifier: the identifier x and its string s, as the number x * R + s
abbrev pub with_strings : ℕ → List ℕ → InputView → InputView
with_strings R strings = with_images (λ id. id * R + slice_index strings id)

-- Each active node has an identifier below N and draws one of R strings, as in FailsRarely. At each node, for each port numbering and whichever
-- different identifiers the nodes near it have, the algorithm of T rounds fails with a probability below 1 / q: of the R ^ N lists of
-- strings, one for each identifier, q times as many as those for which the labels around the node aren't allowed are still fewer than all.
-- The algorithm is a function of the ports, identifiers and strings that a node knows.
pub record FailsRarelyIdentified (problem : Problem) (N R T q : ℕ) (algorithm : InputView → List ℕ) : Type 0 where
  pub active : (v : InputView) → IsView problem.active.degree problem.passive.degree (suc T) v →
      Fits (identified problem.active.degree problem.passive.degree N).active (identified problem.active.degree problem.passive.degree N).passive v →
      AreDifferent (shown v) →
      q * length (filter (λ strings. not (has_config problem.active (algorithm (known T (with_strings R strings v))))) (string_lists R N)) < R ^ N
  pub passive : (v : InputView) → IsView problem.passive.degree problem.active.degree (suc (suc T)) v →
      Fits (identified problem.active.degree problem.passive.degree N).passive (identified problem.active.degree problem.passive.degree N).active v →
      AreDifferent (behind_passive v) →
      q * length (filter (λ strings. not (has_config problem.passive (around_known problem.passive.degree T algorithm (with_strings R strings v))))
      (string_lists R N)) < R ^ N
