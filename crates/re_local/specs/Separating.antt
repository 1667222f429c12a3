-- Hypergraphs of identifiers on whose trees all identifiers that a node of so many rounds sees are different.
use Rattle.std.specs.Prelude.{ℕ, suc, ◌+◌, ◌*◌, ◌/◌, ◌<◌, map}
use Rattle.re_given.specs.InputViews.{Fits, InputView}
use Rattle.re_given.specs.Unavoidable.{colouring}
use Rattle.re_local.specs.Identifiers.{IdHypergraph, JoinsAlike, identifiers, virtual_identifiers}
use Rattle.re_layers.specs.Networks.{AreDifferent}
use Rattle.re_local.specs.LocalAlgorithms.{behind_passive, shown}
use Rattle.re_problem.specs.NamedProblems.{OccursIn}
use Rattle.re_problem.specs.Problems.{Problem}
use Rattle.re_labels.specs.Constraints.{has_config}
use Rattle.re_laws.specs.Trees.{IsView}

-- wherever the input labels fit, the active nodes that are shown have different identifiers
pub record AreApart (input : Problem) (id : ℕ → ℕ) (T : ℕ) : Type 0 where
  pub active : (v : InputView) → IsView input.active.degree input.passive.degree (suc T) v → Fits input.active input.passive v →
      AreDifferent (map id (shown v))
  pub passive : (v : InputView) → IsView input.passive.degree input.active.degree (suc (suc T)) v → Fits input.passive input.active v →
      AreDifferent (map id (behind_passive v))

-- each label of an identifier stands around some passive node
abbrev pub HasAllEdges : ℕ → ℕ → ℕ → IdHypergraph → Type 0
HasAllEdges a p N hyper = (x i : ℕ) → x < N → i < a → OccursIn (identifiers a p N hyper).passive (x * a + i)

-- a hypergraph of N identifiers with a ports each, for passive degree p, lists below n and T rounds: each label of an identifier stands around
-- some passive node, the hypergraph joins alike ones, and its trees show different ones
pub record Separates (a p N n T : ℕ) (hyper : IdHypergraph) : Type 0 where
  pub edges : HasAllEdges a p N hyper
  pub joins : JoinsAlike a p N hyper n
  pub apart : AreApart (identifiers a p N hyper) (λ label. label / a) T

-- a hypergraph of N identifiers of M ports, for nodes that use a of these, passive degree p, lists below n and T rounds: each label of an
-- identifier stands around some passive node, the hypergraph joins alike ones, and its trees show different ones
pub record VirtualSeparates (a M p N n T : ℕ) (hyper : IdHypergraph) : Type 0 where
  pub edges : HasAllEdges M p N hyper
  pub joins : JoinsAlike M p N hyper n
  pub apart : AreApart (virtual_identifiers a M p N hyper) (λ label. label / M) T

-- the hypergraph that joins any p different identifiers below N, by all their ports: those of a proper colouring in which each is a colour
abbrev pub complete : ℕ → ℕ → ℕ → IdHypergraph
complete a p N labels = has_config (colouring a p N).passive (map (λ label. label / a) labels)
