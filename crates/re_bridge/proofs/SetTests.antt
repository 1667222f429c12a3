-- The tests of a map by sets.
use Rattle.std.proofs.Common.{◌≡◌, ℕ, Bool, true, not, List, map, sym, ◌∙◌, subst}
use Rattle.std.specs.Prelude.{◌||◌, ◌↔◌, Contains, IsTrue}
use Rattle.std.specs.List.{list_any}
use Rattle.re_labels.proofs.Before.{same_list-refl, same_list-same}
use Rattle.re_labels.proofs.Membership.{Contains-In, In-Contains, any-In, any-In_from}
use Rattle.re_labels.proofs.Tests.{same_tests}
use Rattle.re_labels.specs.Lists.{same_list}
use Rattle.re_labels.proofs.SaidChoices.{found-is}
use Rattle.re_labels.specs.Constraints.{Constraint, has_config}
use Rattle.re_labels.specs.Configs.{sorted}
use Rattle.re_problem.specs.Steps.{SetEntry, entry_sets, label_of}
use Rattle.re_check.proofs.RowSets.{HasSetsOf}
use Rattle.re_check.proofs.StepMeaning.{all_held, all_there}
use Rattle.re_bridge.specs.Bridges.{has_entries}

-- ---- the sets of a row that have entries
-- a set is one of the list exactly where it is the same as one
pub listed : (sets : List (List ℕ)) (set : List ℕ) → list_any (λ other. same_list other set) sets ≡ true → Contains sets set
listed sets set h = let (other, at, same) = any-In_from (λ other. same_list other set) sets h in subst (Contains sets) (same_list-same other set same) (In-Contains other sets at)

pub among : (sets : List (List ℕ)) (set : List ℕ) → Contains sets set → list_any (λ other. same_list other set) sets ≡ true
among sets set held = any-In (λ other. same_list other set) set sets (Contains-In set sets held) (same_list-refl set)

pub has_entries-sets : (entries : List SetEntry) (row : List (List ℕ)) → has_entries entries row ≡ true → HasSetsOf entries row
has_entries-sets entries row test = all_there (λ set. list_any (λ other. same_list other set) (entry_sets entries)) (Contains (entry_sets entries)) row (listed (entry_sets entries)) test

pub sets-has_entries : (entries : List SetEntry) (row : List (List ℕ)) → HasSetsOf entries row → has_entries entries row ≡ true
sets-has_entries entries row held = all_held (λ set. list_any (λ other. same_list other set) (entry_sets entries)) (Contains (entry_sets entries)) row (among (entry_sets entries)) held

pub entries-test : (entries : List SetEntry) (row : List (List ℕ)) (r : Bool) → IsTrue r ↔ HasSetsOf entries row → r ≡ has_entries entries row
entries-test entries row r tells = same_tests r (has_entries entries row) (λ t. sets-has_entries entries row (tells.0 t)) (λ t. tells.1 (has_entries-sets entries row t))

-- ---- the image of a row
pub row-tested : (active : Constraint) (row : List (List ℕ)) (entries : List SetEntry) (r : Bool) (config : List ℕ) (b : Bool) → r ≡ has_entries entries row → r ≡ true → IsTrue b ↔ Contains active.configs config
    → config ≡ sorted (map (label_of entries) row) → b ≡ (not (has_entries entries row) || has_config active (map (label_of entries) row))
row-tested active row entries r config b is passes tells image =
    let e : true ≡ has_entries entries row = sym passes ∙ is in
    found-is active (map (label_of entries) row) config b tells image ∙ (λ i. not (e i) || has_config active (map (label_of entries) row))
