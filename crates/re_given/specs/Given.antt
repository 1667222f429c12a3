-- Algorithms of T rounds on trees on which a solution of an input problem is given.
use Rattle.std.specs.Prelude.{ℕ, suc, List, [], ◌∷◌, map, Bool, true, false, ◌&&◌, ◌==◌, if◌then◌else◌, Contains}
use Rattle.re_given.specs.InputViews.{Fits, InputView, known}
use Rattle.re_given.specs.Inputs.{exchanged}
use Rattle.re_labels.specs.Lists.{count_from}
use Rattle.re_laws.specs.Algorithms.{at_port}
use Rattle.re_problem.specs.Problems.{Problem}
use Rattle.re_problem.specs.Steps.{IsUpper}
use Rattle.re_labels.specs.Constraints.{Has}
use Rattle.re_laws.specs.Trees.{IsView, backs, end, leaf, more, shift}

-- the labels that a node outputs where this is what it knows, one for each port
pub record KnownEntry : Type 0 where
  pub view : InputView
  pub labels : List ℕ

-- whether the two views are equal
abbrev pub same_input_view : InputView → InputView → Bool
same_input_view leaf leaf = true
same_input_view end end = true
same_input_view (more back label branch rest) (more back' label' branch' rest') =
    back == back' && label == label' && same_input_view branch branch' && same_input_view rest rest'
same_input_view _ _ = false

-- what the table gives where this is known: the labels of the first entry for it
abbrev pub answer_known : List KnownEntry → InputView → List ℕ
answer_known [] k = []
answer_known (entry ∷ table) k = if same_input_view entry.view k then entry.labels else answer_known table k

-- the labels on the edges of a node with a view of radius T + 2, where its neighbours output what the algorithm gives at what they know after T rounds
abbrev pub around_known : ℕ → ℕ → (InputView → List ℕ) → InputView → List ℕ
around_known degree T algorithm v =
    map (λ port. at_port (algorithm (known T (shift (suc T) v port))) (at_port (backs v) port)) (count_from 1 degree)

-- around each node stand labels that the problem allows, wherever the input labels fit
pub record SolvesGivenBy (problem input : Problem) (T : ℕ) (algorithm : InputView → List ℕ) : Type 0 where
  pub active : (v : InputView) → IsView problem.active.degree problem.passive.degree (suc T) v → Fits input.active input.passive v →
      Has problem.active (algorithm (known T v))
  pub passive : (v : InputView) → IsView problem.passive.degree problem.active.degree (suc (suc T)) v → Fits input.passive input.active v →
      Has problem.passive (around_known problem.passive.degree T algorithm v)

-- the table has an entry for all that an active node may know, and solves the problem
pub record SolvesGiven (problem input : Problem) (T : ℕ) (table : List KnownEntry) : Type 0 where
  pub entries : (v : InputView) → IsView problem.active.degree problem.passive.degree (suc T) v → Fits input.active input.passive v →
      Contains (map (λ (entry : KnownEntry). entry.view) table) (known T v)
  pub solves : SolvesGivenBy problem input T (answer_known table)

-- some algorithm of T rounds solves the problem given the input problem
abbrev pub SolvableGiven : Problem → Problem → ℕ → Type 0
SolvableGiven problem input T = (table : List KnownEntry) × SolvesGiven problem input T table

-- with some set of labels for each input label, an upper step leads to the input problem with its sides exchanged
abbrev pub ZeroGiven : Problem → Problem → Type 0
ZeroGiven problem input = (sets : ℕ → List ℕ) × IsUpper problem (exchanged input) sets
