-- The search tree: its nodes in preorder.
use Rattle.std.specs.Prelude.{ℕ, zero, suc, pred, ◌==◌, nat_le, nat_lt, Bool, true, false, not, ◌&&◌, ◌||◌, List, [], ◌∷◌, ◌++◌, find, flat_map, length, map, if◌then◌else◌, Option, None, Some, is_none, is_some, option_map, slice_index_or}
use Rattle.re_labels.specs.Lists.{count_from}
use Rattle.re_labels.specs.Orders.{orders}
use Rattle.re_labels.specs.Rows.{set_at}
use Rattle.re_labels.specs.GoodRows.{max_rows, max_sets}
use Rattle.re_problem.specs.NamedProblems.{NamedProblem, unnamed}
use Rattle.re_problem.specs.Steps.{SetEntry}
use Rattle.re_problem.specs.Steps.LowerMap.{by_set}
use Rattle.re_problem.specs.Zero.{zero_place}
use Rattle.re_changes.specs.Changes.{Changed, all_changed}
use Rattle.re_step.specs.Derivations.{named_derived, step_limit}
use Rattle.re_problem.specs.Verdicts.{renaming_verdict}
use Rattle.re_cert.specs.Bounds.{BoundStep, is_lower, next_problems}
use Rattle.re_cert.specs.declared.certificate.Kind.{Kind}
use Rattle.re_cert.specs.declared.certificate.Kind.TheVariants.{Lower, Upper, Fixed}
use Rattle.re_check.specs.Verdicts.{is_yes}

-- ---- steps
-- for each of the sets whose label is left, the label that it has become
abbrev pub entries_of : List (List ℕ) → List (Option ℕ) → List SetEntry
entries_of [] images = []
entries_of (set ∷ sets) [] = []
entries_of (set ∷ sets) (None ∷ images) = entries_of sets images
entries_of (set ∷ sets) (Some label ∷ images) = record { set = set; label = label } ∷ entries_of sets images

-- the step from a problem to what changes have made of its derived problem: a lower step has the maximal rows, too
abbrev pub step_to : Bool → NamedProblem → Changed → BoundStep
step_to lower problem made = record {
  lower = lower;
  next = made.problem;
  rows = if lower then max_rows problem.passive (length problem.names) else [];
  map = by_set (entries_of (max_sets problem.passive (length problem.names)) made.images);
}

-- the steps from a problem, in order: merges in lower steps and labels left out in upper ones, at most so many in each
abbrev pub steps_from : Kind → ℕ → NamedProblem → List BoundStep
steps_from kind most problem = map (step_to (is_lower kind) problem) (all_changed (is_lower kind) most (named_derived (unnamed problem)))

-- ---- nodes
-- a node: its problem, the steps that lead to it from the first problem, and how many more steps the tree has below it
pub record Node : Type 0 where
  pub problem : NamedProblem
  pub steps : List BoundStep
  pub left : ℕ

-- the root of the tree of this depth
abbrev pub root : NamedProblem → ℕ → Node
root first depth = record { problem = first; steps = []; left = depth }

-- the node behind one step more
abbrev pub child : Node → BoundStep → Node
child node s = record { problem = s.next; steps = node.steps ++ s ∷ []; left = pred node.left }

abbrev pub is_zero : NamedProblem → Bool
is_zero problem = is_some (zero_place (unnamed problem))

-- whether the node would have children: not at the greatest depth, and in trees of lower steps not where its problem is solvable without communication
abbrev pub goes_on : Kind → Node → Bool
goes_on kind node = nat_lt 0 node.left && (not (is_lower kind) || not (is_zero node.problem))

-- whether the node would have children, and its derived problem passes a limit
abbrev pub is_cut : Kind → Node → Bool
is_cut kind node = goes_on kind node && is_some (step_limit (unnamed node.problem))

-- the children, in order: none where the derived problem passes a limit
abbrev pub children : Kind → ℕ → Node → List Node
children kind most node = if goes_on kind node && is_none (step_limit (unnamed node.problem)) then map (child node) (steps_from kind most node.problem) else []

-- a node and those below it to a depth, each before its children, and these in order, each with all that is below it before the next one
abbrev pub preorder : Kind → ℕ → ℕ → Node → List Node
preorder kind most zero node = node ∷ []
preorder kind most (suc depth) node = node ∷ flat_map (preorder kind most depth) (children kind most node)

-- the roots of the trees that a search goes through in turn: at upper bounds trees of each depth up to the greatest, else one tree
abbrev pub roots : Kind → ℕ → NamedProblem → List Node
roots Upper depth first = map (root first) (count_from 0 (suc depth))
roots kind depth first = root first depth ∷ []

-- all nodes that a search may come to, in order
abbrev pub all_nodes : Kind → ℕ → ℕ → NamedProblem → List Node
all_nodes kind depth most first = flat_map (λ (node : Node). preorder kind most node.left node) (roots kind depth first)

-- ---- the way back of a fixed point
-- the first one-to-one map of labels, in the lexicographic order of the lists of images, that makes the one problem the other
abbrev pub renaming_to : NamedProblem → NamedProblem → Option (List ℕ)
renaming_to problem target =
    if length problem.names == length target.names && nat_le (length problem.names) 8
    then find (λ images. is_yes (renaming_verdict (unnamed problem) (unnamed target) images)) (orders (length problem.names) (count_from 0 (length problem.names)))
    else None

-- the problem behind so many steps
abbrev pub behind : NamedProblem → List BoundStep → ℕ → NamedProblem
behind first steps number = slice_index_or (first ∷ next_problems steps) number first

-- the number of a problem on the path to a node, with the first map that makes the node's problem this one, if any does
abbrev pub way_to : NamedProblem → Node → ℕ → Option (ℕ × List ℕ)
way_to first node number = option_map (λ images. (number, images)) (renaming_to node.problem (behind first node.steps number))

-- the first that is there
abbrev pub first_there : {X : Type 0} → List (Option X) → Option X
first_there [] = None
first_there (None ∷ others) = first_there others
first_there (Some x ∷ others) = Some x

-- the first problem on the path to a node, above the node itself, that its problem is an image of
abbrev pub way_back : NamedProblem → Node → Option (ℕ × List ℕ)
way_back first node = first_there (map (way_to first node) (count_from 0 (length node.steps)))

-- ---- successes
-- for a lower bound a problem at the greatest depth that isn't solvable without communication; for an upper bound one there that is; for a
-- fixed point one that isn't, and is an image of a problem on the path to it
abbrev pub succeeds : Kind → NamedProblem → Node → Bool
succeeds Lower first node = node.left == 0 && not (is_zero node.problem)
succeeds Upper first node = node.left == 0 && is_zero node.problem
succeeds Fixed first node = not (is_zero node.problem) && is_some (way_back first node)
