-- Proper colourings with few colours.
use Rattle.std.specs.Prelude.{◌≡◌, true, false, ℕ, ◌+◌, ◌-◌, ◌*◌, ◌↔◌, Option, None, Some}
use Rattle.re_classes.specs.Laws.{IsSolvableColoured}
use Rattle.re_given.specs.InputExamples.{edge_colouring}
use Rattle.re_given.specs.Inputs.{IsInput}
use Rattle.re_given.specs.Unavoidable.{colouring}
use Rattle.re_given_bounds.specs.EdgeClasses.{IsSolvableBothColoured, IsSolvableEdgeColoured}
use Rattle.re_inputs.specs.NamedInputs.{fits, input_of}
use Rattle.re_inputs.specs.declared.kinds.InputKind.{InputKind}
use Rattle.re_inputs.specs.declared.kinds.InputKind.TheVariants.{Colouring, Edges}
use Rattle.re_labels.specs.declared.sides.Side.{Side}
use Rattle.re_labels.specs.declared.sides.Side.TheVariants.{Active, Passive}
use Rattle.re_problem.specs.NamedProblems.{NamedProblem, unnamed}
use Rattle.re_problem.specs.Problems.{IsProblem, Problem}

-- one colour more than a node of a side meets others of it, where active nodes have degree a and passive ones p
abbrev pub few_colours : Side → ℕ → ℕ → ℕ
few_colours Active a p = a * (p - 1) + 1
few_colours Passive a p = p * (a - 1) + 1

-- the proper colouring of a side with so many colours, of the degrees of a problem
abbrev pub colours_of : Side → NamedProblem → ℕ → Problem
colours_of Active problem colours = colouring problem.active.degree problem.passive.degree colours
colours_of Passive problem colours = edge_colouring problem.active.degree problem.passive.degree colours

-- some number of rounds is enough given a proper colouring of the side with few colours
abbrev pub IsSolvableGivenFew : Side → Problem → Type 0
IsSolvableGivenFew Active problem = IsSolvableColoured problem
IsSolvableGivenFew Passive problem = IsSolvableEdgeColoured problem

-- few colours of the active nodes give few of the passive ones, so they are the one condition: what is solvable given few colours of the passive nodes is
-- solvable given few of the active ones, and given both at once exactly what is given these
abbrev pub OneConditionLaw : Type 0
OneConditionLaw = (problem : Problem) → IsProblem problem →
    (IsSolvableEdgeColoured problem → IsSolvableColoured problem) × (IsSolvableBothColoured problem ↔ IsSolvableColoured problem)

-- the kind of input problems that it is
abbrev pub input_kind : Side → InputKind
input_kind Active = Colouring
input_kind Passive = Edges

-- the input problem is this colouring, and one of the problem
pub record IsColouringOf (problem : NamedProblem) (side : Side) (colours : ℕ) (input : NamedProblem) : Type 0 where
  pub is_input : IsInput (unnamed problem) (unnamed input)
  pub same : unnamed input ≡ colours_of side problem colours

-- the input problem is the proper colouring of the side with few colours, with the names that `input` gives it
pub record IsNamedColouring (side : Side) (problem input : NamedProblem) : Type 0 where
  pub there : fits (input_kind side) problem.active.degree problem.passive.degree (few_colours side problem.active.degree problem.passive.degree) ≡ true
  pub same : input ≡ input_of (input_kind side) problem.active.degree problem.passive.degree (few_colours side problem.active.degree problem.passive.degree)

-- that colouring, or that `input` makes none with so many colours
abbrev pub FindsColouring : Side → NamedProblem → Option NamedProblem → Type 0
FindsColouring side problem (Some input) = IsNamedColouring side problem input
FindsColouring side problem None = fits (input_kind side) problem.active.degree problem.passive.degree (few_colours side problem.active.degree problem.passive.degree) ≡ false
