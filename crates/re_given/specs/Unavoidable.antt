-- Input problems of which a solution helps no more in 0 rounds than ports do, such as proper colourings with many colours.
use Rattle.std.specs.Prelude.{◌≡◌, ℕ, ◌<◌, ◌==◌, List, [], ◌∷◌, length, filter, Contains}
use Rattle.std.specs.List.{AllByRecursion, AllZip}
use Rattle.re_labels.specs.Configs.{support_of}
use Rattle.re_labels.specs.Orders.{multisets}
use Rattle.re_laws.specs.Chains as chain
use Rattle.re_laws.specs.Chains.{IsLowerChain}
use Rattle.re_problem.specs.Problems.{Problem}
use Rattle.re_problem.specs.Steps.{Becomes}
use Rattle.re_labels.specs.Constraints.{Has}

-- whatever labels of the list are drawn for a passive node, they stand beside input labels that may stand around it: each beside its input
-- label in some active configuration and its list
abbrev pub IsMet : Problem → (List ℕ → List ℕ) → List ℕ → Type 0
IsMet input image list =
    (drawn : List ℕ) → length drawn ≡ input.passive.degree → AllByRecursion (Contains list) drawn →
    (labels : List ℕ) × AllZip (Becomes input.active image) labels drawn × Has input.passive labels

-- however each active configuration gets a list of as many labels below n, that of some configuration is met
abbrev pub IsUnavoidable : Problem → ℕ → Type 0
IsUnavoidable input n =
    (image : List ℕ → List ℕ) →
    ((config : List ℕ) → Contains input.active.configs config → (length (image config) ≡ input.active.degree) × AllByRecursion (λ x. x < n) (image config)) →
    (config : List ℕ) × Contains input.active.configs config × IsMet input image (image config)

-- a proper colouring with c colours: the edges of an active node have one label, its colour, and those of a passive node different ones
abbrev pub colouring : ℕ → ℕ → ℕ → Problem
colouring a p c = record {
  labels = c;
  active = record { degree = a; configs = filter (λ edges. length (support_of edges) == 1) (multisets a 0 c) };
  passive = record { degree = p; configs = filter (λ edges. length (support_of edges) == length edges) (multisets p 0 c) };
}

-- the problems to which the steps lead, in order
abbrev pub reached : {first last : Problem} {k : ℕ} → IsLowerChain first k last → List Problem
reached chain.IsLowerChain.done = []
reached (chain.IsLowerChain.step {next = next} is_next mapped rest) = next ∷ reached rest
