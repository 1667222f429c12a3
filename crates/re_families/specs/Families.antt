-- Problems of the field that have names: colourings, matchings, orientations, independent sets that can't be larger.
use Rattle.std.specs.Prelude.{ℕ, ◌+◌, ◌/◌, ◌%◌, ◌==◌, nat_le, Bool, not, ◌&&◌, ◌||◌, List, [], ◌∷◌, codes, count_by, filter, length, map, if◌then◌else◌, Option, None, Some}
use Rattle.re_labels.specs.Lists.{count_from}
use Rattle.re_labels.specs.declared.sides.Side.{Side}
use Rattle.re_labels.specs.declared.sides.Side.TheVariants.{Active, Passive}
use Rattle.re_labels.specs.Configs.{support_of}
use Rattle.re_labels.specs.Orders.{multisets}
use Rattle.re_labels.specs.Constraints.{Constraint}
use Rattle.re_problem.specs.NamedProblems.{NamedProblem}
use Rattle.re_families.specs.declared.types.Family.{Family}
use Rattle.re_families.specs.declared.types.Family.TheVariants.{Colouring, Matching, Mis, Orientation}

-- ---- the labels of the edges of a node
-- how many of the edges have this label
abbrev pub count : ℕ → List ℕ → ℕ
count label edges = count_by (λ x. x == label) edges

-- whether all edges have one label
abbrev pub are_equal : List ℕ → Bool
are_equal edges = length (support_of edges) == 1

-- whether no two edges have the same label
abbrev pub are_different : List ℕ → Bool
are_different edges = length (support_of edges) == length edges

-- ---- families
-- the names of the labels, in order, and whether the edges of an active and of a passive node may have these labels
pub record Rules : Type 0 where
  pub names : List (List ℕ)
  pub active : List ℕ → Bool
  pub passive : List ℕ → Bool

-- a decimal digit
abbrev pub digit : ℕ → ℕ
digit value = 48 + value

-- the name of one of so many colours, which count from 1: one digit where there are at most 9 colours, and else two
abbrev pub colour_name : ℕ → ℕ → List ℕ
colour_name colours colour = if nat_le colours 9 then digit colour ∷ [] else digit (colour / 10) ∷ digit (colour % 10) ∷ []

-- all edges of an active node have one colour, and those of a passive node have different ones
abbrev pub colouring : ℕ → Rules
colouring colours = record {
  names = map (colour_name colours) (count_from 1 colours);
  active = are_equal;
  passive = are_different;
}

-- label 0 is M, a matched edge, and label 1 is O, any other. An active node has one matched edge, and of the edges of a passive node all are
-- matched or none is
abbrev pub matching : Rules
matching = record {
  names = codes "M" ∷ codes "O" ∷ [];
  active = λ edges. count 0 edges == 1;
  passive = are_equal;
}

-- label 0 is I, an edge that leads into its active node, and label 1 is O, one that leads out of it. An active node has an edge that leads
-- out of it, and of the edges of a passive node exactly one leads out of its active node
abbrev pub orientation : Rules
orientation = record {
  names = codes "I" ∷ codes "O" ∷ [];
  active = λ edges. nat_le 1 (count 1 edges);
  passive = λ edges. count 1 edges == 1;
}

-- label 0 is M, the edges of a node of the set; label 2 is P, by which another node points to one of the set, and label 1 is O, its other
-- edges. An active node has M at all edges, or P once and M nowhere. A passive node, which is an edge between two, has one M, or O twice
abbrev pub independent_set : Rules
independent_set = record {
  names = codes "M" ∷ codes "O" ∷ codes "P" ∷ [];
  active = λ edges. (count 0 edges == length edges) || ((count 0 edges == 0) && (count 2 edges == 1));
  passive = λ edges. (count 0 edges == 1) || (count 1 edges == length edges);
}

abbrev pub rules_of : Family → ℕ → Rules
rules_of Colouring number = colouring number
rules_of Matching number = matching
rules_of Orientation number = orientation
rules_of Mis number = independent_set

-- ---- problems
-- the test of a side
abbrev pub rule : Rules → Side → List ℕ → Bool
rule rules Active = rules.active
rule rules Passive = rules.passive

-- what may stand around a node of this side: the multisets of so many labels that pass its test, in order
abbrev pub constraint_of : Rules → Side → ℕ → Constraint
constraint_of rules side degree = record { degree = degree; configs = filter (rule rules side) (multisets degree 0 (length rules.names)) }

-- the problem of a family with these degrees and this number
unfoldable pub family_of : Family → ℕ → ℕ → ℕ → NamedProblem
family_of kind active passive number = record {
  names = (rules_of kind number).names;
  active = constraint_of (rules_of kind number) Active active;
  passive = constraint_of (rules_of kind number) Passive passive;
}

-- ---- parameters
abbrev pub is_degree : ℕ → Bool
is_degree degree = nat_le 2 degree && nat_le degree 6

-- whether the passive degree is one of the family's: from 2 to 6, and 2 for independent sets
abbrev pub passive_fits : Family → ℕ → Bool
passive_fits Mis passive = passive == 2
passive_fits kind passive = is_degree passive

-- whether the number is one of the family's: from 1 to 16 for colourings, and else 0
abbrev pub number_fits : Family → ℕ → Bool
number_fits Colouring number = nat_le 1 number && nat_le number 16
number_fits kind number = number == 0

-- the first parameter out of its range, if any
abbrev pub out_of_range : Family → ℕ → ℕ → ℕ → Option ℕ
out_of_range kind active passive number =
    if not (is_degree active) then Some active
    else if not (passive_fits kind passive) then Some passive
    else if not (number_fits kind number) then Some number
    else None
