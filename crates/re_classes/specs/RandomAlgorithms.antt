-- Randomised algorithms: active nodes draw random strings, and know those of the nodes near them.
use Rattle.std.specs.Prelude.{◌≡◌, ℕ, zero, suc, ◌*◌, ◌^◌, ◌<◌, not, List, [], ◌∷◌, length, map, filter, flat_map, slice_index}
use Rattle.re_given.specs.Given.{around_known}
use Rattle.re_given.specs.InputViews.{Fits, InputView, known}
use Rattle.re_labels.specs.Lists.{count_from}
use Rattle.re_local.specs.LocalAlgorithms.{behind_passive, identified, shown}
use Rattle.re_problem.specs.Problems.{Problem}
use Rattle.re_labels.specs.Constraints.{has_config}
use Rattle.re_laws.specs.Trees.{IsView, end, leaf, more}

-- what k nodes may draw, each one of R strings, which are the numbers below R: all lists of k strings
abbrev pub string_lists : ℕ → ℕ → List (List ℕ)
string_lists R zero = [] ∷ []
string_lists R (suc k) = flat_map (λ string. map (λ strings. string ∷ strings) (string_lists R k)) (count_from 0 R)

-- the view with a string in place of each node's number: the first string where the number is 0, and so on
abbrev pub painted : List ℕ → InputView → InputView
painted strings leaf = leaf
painted strings end = end
painted strings (more back number branch rest) = more back (slice_index strings number) (painted strings branch) (painted strings rest)

-- Each active node draws one of R strings, independently and all equally likely; a string is private, known to a node only where it sees the
-- node, and passive nodes draw none. At each node, for each port numbering, the algorithm of T rounds fails with a probability below 1 / q. A view
-- of an active node, or of a passive one, is a tree of ports whose active nodes, k of them, are numbered from 0 on in the order in which it
-- shows them. Of the R ^ k lists of strings that they may draw, q times as many as those for which the labels around the node aren't allowed
-- are still fewer than all. The algorithm is a function of the ports and strings that a node knows, and sees no numbers.
pub record FailsRarely (problem : Problem) (R T q : ℕ) (algorithm : InputView → List ℕ) : Type 0 where
  pub active : (v : InputView) (k : ℕ) → IsView problem.active.degree problem.passive.degree (suc T) v →
      Fits (identified problem.active.degree problem.passive.degree k).active (identified problem.active.degree problem.passive.degree k).passive v →
      shown v ≡ count_from 0 k →
      q * length (filter (λ strings. not (has_config problem.active (algorithm (known T (painted strings v))))) (string_lists R k)) < R ^ k
  pub passive : (v : InputView) (k : ℕ) → IsView problem.passive.degree problem.active.degree (suc (suc T)) v →
      Fits (identified problem.active.degree problem.passive.degree k).passive (identified problem.active.degree problem.passive.degree k).active v →
      behind_passive v ≡ count_from 0 k →
      q * length (filter (λ strings. not (has_config problem.passive (around_known problem.passive.degree T algorithm (painted strings v)))) (string_lists R k))
      < R ^ k
