-- What is solvable given a proper colouring with few colours, and the words that show it.
use Rattle.std.specs.Prelude.{◌≡◌, ℕ, [], Some}
use Rattle.re_cert.specs.Bounds.{Bound}
use Rattle.re_cert.specs.declared.certificate.Kind.TheVariants.{Upper}
use Rattle.re_chains.specs.Chains.{chain_with}
use Rattle.re_given.specs.Inputs.{IsInput}
use Rattle.re_given_words.specs.Counting.{IsCounted}
use Rattle.re_given_words.specs.Extensions.{GoesOnGiven}
use Rattle.re_given_words.specs.declared.counting.Counted.TheVariants.{Exactly}
use Rattle.re_inputs.specs.declared.kinds.InputKind.{InputKind}
use Rattle.re_inputs.specs.declared.kinds.InputKind.TheVariants.{Colouring, Edges}
use Rattle.re_labels.specs.declared.sides.Side.{Side}
use Rattle.re_labels.specs.declared.sides.Side.TheVariants.{Active, Passive}
use Rattle.re_problem.specs.NamedProblems.{NamedProblem, unnamed}
use Rattle.re_evidence.specs.Colours.{IsColouringOf, IsSolvableGivenFew, colours_of, few_colours}
use Rattle.re_settle.specs.Measures.{coloured_steps, doublings, greatest_degree, shortest_labels}
use Rattle.re_settle.specs.declared.types.Coloured.{Coloured}
use Rattle.re_settle.specs.declared.types.ColouredWay.{ColouredWay}
use Rattle.re_settle.specs.declared.types.ColouredWay.TheVariants.{Rounds, Shortest}
use Rattle.re_chains.specs.GivenTexts.{IsGivenText, given_text}

-- the numbers of the words that are tried on a problem given few colours, where bounds are taken so many times
abbrev pub IsTriedGiven : ℕ → NamedProblem → ColouredWay → Type 0
IsTriedGiven times problem (Rounds most) = most ≡ 8
IsTriedGiven times problem (Shortest steps labels) =
    (steps ≡ coloured_steps (doublings times)) × (labels ≡ shortest_labels (greatest_degree problem) (doublings times))

-- an upper bound given this colouring goes on from the problem, with at most so many steps, each to a problem of at most so many labels; and its text, with
-- the colouring behind it, is no longer than one that is read, and is read as both
pub record GoesOnColoured (steps labels : ℕ) (side : Side) (colours : ℕ) (problem : NamedProblem) : Type 0 where
  pub input : NamedProblem
  pub colouring : IsColouringOf problem side colours input
  pub bound : Bound
  pub goes_on : GoesOnGiven input Upper steps labels (chain_with Upper problem []) bound
  pub text : IsGivenText bound input (given_text bound input)

-- what these words find of the problem and this colouring: `rounds` counts how many it takes; `shortest` may find an upper bound
abbrev pub ShowsColoured : ColouredWay → Side → ℕ → NamedProblem → Type 0
ShowsColoured (Rounds most) side colours problem = (k : ℕ) × IsCounted (unnamed problem) (Some (colours_of side problem colours)) most (Exactly k)
ShowsColoured (Shortest steps labels) side colours problem = GoesOnColoured steps labels side colours problem

-- the colours are one more than a node of the side meets others of it, the words are tried and show it, and some number of rounds is enough given so many
pub record IsColoured (times : ℕ) (problem : NamedProblem) (coloured : Coloured) : Type 0 where
  pub tried : IsTriedGiven times problem coloured.way
  pub colours : coloured.colours ≡ few_colours coloured.side problem.active.degree problem.passive.degree
  pub shows : ShowsColoured coloured.way coloured.side coloured.colours problem
  pub solvable : IsSolvableGivenFew coloured.side (unnamed problem)
