-- Input problems of the field with names for their labels.
use Rattle.std.specs.Prelude.{◌≡◌, ℕ, ◌==◌, nat_le, Bool, true, false, not, ◌&&◌, ◌||◌, List, filter, length, if◌then◌else◌}
use Rattle.re_labels.specs.Configs.{support_of}
use Rattle.re_labels.specs.Orders.{multisets}
use Rattle.re_families.specs.Families.{family_of, is_degree}
use Rattle.re_families.specs.declared.types.Family.TheVariants as family
use Rattle.re_given.specs.InputExamples as examples
use Rattle.re_given.specs.Inputs.{IsInput}
use Rattle.re_given.specs.Inputs as inputs
use Rattle.re_given.specs.Unavoidable.{colouring}
use Rattle.re_problem.specs.NamedProblems.{NamedProblem, unnamed}
use Rattle.re_problem.specs.Problems.{IsProblem, Problem}
use Rattle.re_labels.specs.Constraints.{Constraint}
use Rattle.re_inputs.specs.declared.kinds.InputKind.{InputKind}
use Rattle.re_inputs.specs.declared.kinds.InputKind.TheVariants.{Both, Colouring, Edges, Nothing, Orientation, Sides}

-- whether there is the input problem of this kind: degrees from 2 to 6, the passive one 2 for sides; the number is that of the colours, of nodes from
-- the passive degree and of edges from the active one to 16, and else 0, also for as many colours of edges as the active degree
abbrev pub fits : InputKind → ℕ → ℕ → ℕ → Bool
fits Colouring active passive number = is_degree active && is_degree passive && nat_le passive number && nat_le number 16
fits Edges active passive number = is_degree active && is_degree passive && (number == 0 || (nat_le active number && nat_le number 16))
fits Sides active passive number = is_degree active && is_degree passive && passive == 2 && number == 0
fits kind active passive number = is_degree active && is_degree passive && number == 0

-- the problem of these names and constraints
abbrev pub named : List (List ℕ) → Constraint → Constraint → NamedProblem
named names active passive = record { names = names; active = active; passive = passive }

-- the problem with its sides exchanged
abbrev pub named_exchanged : NamedProblem → NamedProblem
named_exchanged problem = record { names = problem.names; active = problem.passive; passive = problem.active }

-- whether edges of these labels may be those of an active node: in any way, or of both labels
abbrev pub may_stand : Bool → List ℕ → Bool
may_stand mixed edges = not mixed || length (support_of edges) == 2

-- how the edges of an active node may be directed
abbrev pub oriented_constraint : Bool → ℕ → Constraint
oriented_constraint mixed degree = record { degree = degree; configs = filter (may_stand mixed) (multisets degree 0 2) }

-- an orientation, with the labels of the family: exactly one edge of a passive node leads out of its active node
abbrev pub oriented : Bool → ℕ → ℕ → NamedProblem
oriented mixed active passive =
    record { names = (family_of family.Orientation active passive 0).names; active = oriented_constraint mixed active; passive = (family_of family.Orientation active passive 0).passive }

-- how many colours edges have: as many as the active degree, where no number stands
abbrev pub edge_colours : ℕ → ℕ → ℕ
edge_colours active number = if number == 0 then active else number

-- the input problem of a kind with these degrees and this number: the sides are a colouring with two colours, a colouring of the edges is
-- one of the passive nodes with its sides exchanged
abbrev pub input_of : InputKind → ℕ → ℕ → ℕ → NamedProblem
input_of Colouring active passive number = family_of family.Colouring active passive number
input_of Edges active passive number = named_exchanged (family_of family.Colouring passive active (edge_colours active number))
input_of Sides active passive number = family_of family.Colouring active 2 2
input_of Orientation active passive number = oriented false active passive
input_of Both active passive number = oriented true active passive
input_of Nothing active passive number = record {
  names = (family_of family.Colouring active passive 1).names;
  active = (family_of family.Colouring active passive 1).active;
  passive = (family_of family.Colouring passive active 1).active;
}

-- each is an input problem of each problem of its degrees
abbrev pub InputsLaw : Type 0
InputsLaw = (kind : InputKind) (problem : Problem) (number : ℕ) → IsProblem problem → fits kind problem.active.degree problem.passive.degree number ≡ true →
    IsInput problem (unnamed (input_of kind problem.active.degree problem.passive.degree number))

-- the input problem of this kind that the laws speak of, of a problem's degrees
abbrev pub law_input : InputKind → Problem → ℕ → Problem
law_input Colouring problem number = colouring problem.active.degree problem.passive.degree number
law_input Edges problem number = examples.edge_colouring problem.active.degree problem.passive.degree (edge_colours problem.active.degree number)
law_input Sides problem number = examples.sides problem.active.degree
law_input Orientation problem number = examples.oriented problem.active.degree problem.passive.degree
law_input Both problem number = examples.oriented_both problem.active.degree problem.passive.degree
law_input Nothing problem number = inputs.nothing problem

-- each is that one, with names
abbrev pub NamedInputsLaw : Type 0
NamedInputsLaw = (kind : InputKind) (problem : Problem) (number : ℕ) → IsProblem problem → fits kind problem.active.degree problem.passive.degree number ≡ true →
    unnamed (input_of kind problem.active.degree problem.passive.degree number) ≡ law_input kind problem number

-- the colouring of the family is the proper colouring of the laws
abbrev pub ColouringFamilyLaw : Type 0
ColouringFamilyLaw = (active passive number : ℕ) → unnamed (family_of family.Colouring active passive number) ≡ colouring active passive number
