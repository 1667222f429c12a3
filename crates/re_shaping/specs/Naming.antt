-- A chain in whose last problem a label has another name.
use Rattle.std.specs.Prelude.{ℕ, ◌==◌, ◌&&◌, Bool, not, List, [], filter, flat_map, length, map, if◌then◌else◌, Option, None, Some, slice_index_or, slice_set}
use Rattle.std.specs.List.{list_any}
use Rattle.re_problem.specs.ItemSteps.{is_nil}
use Rattle.re_labels.specs.Lists.{count_from, place_of, same_list}
use Rattle.re_labels.specs.ListSets.{list_set}
use Rattle.re_labels.specs.Configs.{image_at}
use Rattle.re_problem.specs.NamedProblems.{NamedProblem}
use Rattle.re_problem.specs.Steps.{LowerMap, SetEntry}
use Rattle.re_problem.specs.Steps.LowerMap.{by_set}
use Rattle.re_changes.specs.Renumbering.{constraint_image}
use Rattle.re_cert.specs.Bounds.{Bound, BoundStep, entries_in, is_label, last_problem}
use Rattle.re_chains.specs.Chains.{chain_with}
use Rattle.re_shaping.specs.Chains.{sent_along, with_last}
use Rattle.re_shaping.specs.declared.refusal.Refusal.{Refusal}
use Rattle.re_shaping.specs.declared.refusal.Refusal.TheVariants.{NotALabel, Taken}

-- the name of each label, where that of x is another one
abbrev pub names_with : ℕ → List ℕ → NamedProblem → List (List ℕ)
names_with x name named = slice_set named.names x name

-- the new number of each label: the place of its name among all names in their order
abbrev pub name_numbers : ℕ → List ℕ → NamedProblem → List ℕ
name_numbers x name named = map (place_of (list_set (names_with x name named))) (names_with x name named)

-- the problem with the name for x, its labels numbered anew by the order of their names
abbrev pub named_problem : ℕ → List ℕ → NamedProblem → NamedProblem
named_problem x name named = record {
  names = list_set (names_with x name named);
  active = constraint_image (name_numbers x name named) named.active;
  passive = constraint_image (name_numbers x name named) named.passive;
}

-- the entries in the order of their labels, which are below n
abbrev pub by_label : ℕ → List SetEntry → List SetEntry
by_label n entries = flat_map (λ label. filter (λ (entry : SetEntry). entry.label == label) entries) (count_from 0 n)

-- the map sent along; in an upper step its entries are in the order of their new labels
abbrev pub named_map : ℕ → List ℕ → BoundStep → LowerMap
named_map x name s =
    if s.lower then sent_along (image_at (name_numbers x name s.next)) s.map
    else by_set (by_label (length s.next.names) (entries_in (sent_along (image_at (name_numbers x name s.next)) s.map)))

-- the step to the problem with the name for x
abbrev pub named_step : ℕ → List ℕ → BoundStep → BoundStep
named_step x name s = record { lower = s.lower; next = named_problem x name s.next; rows = s.rows; map = named_map x name s }

-- the chain in whose last problem x has the name
abbrev pub named : ℕ → List ℕ → Bound → Bound
named x name bound =
    if is_nil bound.steps then chain_with bound.kind (named_problem x name bound.first) []
    else with_last (named_step x name) bound

-- the name is that of another label than x
abbrev pub is_taken : ℕ → List ℕ → NamedProblem → Bool
is_taken x name named = list_any (same_list name) named.names && not (same_list name (slice_index_or named.names x []))

-- why x can't have the name: it is no label of the last problem, or the name is another label's
abbrev pub name_refusal : ℕ → List ℕ → Bound → Option Refusal
name_refusal x name bound =
    if not (is_label (last_problem bound) x) then Some (NotALabel x)
    else if is_taken x name (last_problem bound) then Some Taken
    else None
