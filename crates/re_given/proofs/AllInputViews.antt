-- All input views of a radius, and those among them that fit.
use Rattle.std.proofs.Common.{◌≡◌, ℕ, zero, suc, pred, ◌<◌, Bool, true, ◌&&◌, List, [], ◌∷◌, map, filter, refl, arith}
use Rattle.std.specs.Prelude.{Contains, flat_map}
use Rattle.re_labels.proofs.Rearranging.{Contains-Rearranged}
use Rattle.re_labels.proofs.Sorting.{Rearranged-sorted}
use Rattle.re_labels.specs.Configs.{IsConfig, sorted}
use Rattle.re_given.specs.InputViews.{Fits, FitsAround, InputView}
use Rattle.re_labels.proofs.Membership.{AllByRecursion-contains, Contains-count_from, Contains-filter, Contains-filter_cases, Contains-flat_map, Contains-flat_map_cases, Contains-here, Contains-later, Contains-map, Contains-map_cases, count_from_range}
use Rattle.re_labels.proofs.Tests.{and-true, true-and}
use Rattle.re_labels.specs.Lists.{count_from}
use Rattle.re_problem.specs.Problems.{IsProblem, Problem}
use Rattle.re_labels.proofs.Goodness.{Has-has_config, has_config-Has}
use Rattle.re_labels.specs.Constraints.{Constraint, Has, IsConstraint, has_config}
use Rattle.re_laws.specs.Trees.{IsTree, IsView, end, leaf, more}

-- all lists of n children with a back port from 1 to e, a label below l, and one of these branches
abbrev pub all_children : ℕ → ℕ → List InputView → ℕ → List InputView
all_children l e branches zero = end ∷ []
all_children l e branches (suc n) =
    flat_map (λ back. flat_map (λ label. flat_map (λ branch. map (more back label branch) (all_children l e branches n)) branches) (count_from 0 l)) (count_from 1 e)

-- all trees with labels below l that show n ports to that depth
abbrev pub all_trees : ℕ → ℕ → ℕ → ℕ → ℕ → List InputView
all_trees l d e zero n = leaf ∷ []
all_trees l d e (suc t) n = all_children l e (all_trees l e d t (pred e)) n

-- all labels of the tree are below l
abbrev pub AreBelow : ℕ → InputView → Type 0
AreBelow l leaf = Unit {0}
AreBelow l end = Unit {0}
AreBelow l (more back label branch rest) = (label < l) × AreBelow l branch × AreBelow l rest

Contains-all_children : (l d e t n : ℕ) (branches : List InputView) → ((x : InputView) → IsTree e d t (pred e) x → AreBelow l x → Contains branches x) → (x : InputView) → IsTree d e (suc t) n x → AreBelow l x → Contains (all_children l e branches n) x
Contains-all_children l d e t n branches each leaf h b = absurd h
Contains-all_children l d e t zero branches each end h b = Contains-here end []
Contains-all_children l d e t (suc n) branches each end h b = absurd h
Contains-all_children l d e t zero branches each (more back label branch rest) h b = absurd h
Contains-all_children l d e t (suc n) branches each (more back label branch rest) h b =
    let tails : Contains (all_children l e branches n) rest = Contains-all_children l d e t n branches each rest h.3 b.2 in
    let low = h.0 in let high = h.1 in let small = b.0 in
    Contains-flat_map (λ back. flat_map (λ label. flat_map (λ branch. map (more back label branch) (all_children l e branches n)) branches) (count_from 0 l)) (count_from 1 e) back (more back label branch rest)
    (Contains-count_from 1 e back low (omega arith))
    (Contains-flat_map (λ label. flat_map (λ branch. map (more back label branch) (all_children l e branches n)) branches) (count_from 0 l) label (more back label branch rest)
    (Contains-count_from 0 l label (omega arith) (omega arith))
    (Contains-flat_map (λ branch. map (more back label branch) (all_children l e branches n)) branches branch (more back label branch rest) (each branch h.2 b.1)
    (Contains-map (more back label branch) (all_children l e branches n) rest tails)))

pub Contains-all_trees : (l d e t n : ℕ) (x : InputView) → IsTree d e t n x → AreBelow l x → Contains (all_trees l d e t n) x
Contains-all_trees l d e zero n leaf h b = Contains-here leaf []
Contains-all_trees l d e zero n end h b = absurd h
Contains-all_trees l d e zero n (more back label branch rest) h b = absurd h
Contains-all_trees l d e (suc t) n x h b = Contains-all_children l d e t n (all_trees l e d t (pred e)) (Contains-all_trees l e d t (pred e)) x h b

all_children-IsTree : (l d e t n : ℕ) (branches : List InputView) → ((x : InputView) → Contains branches x → IsTree e d t (pred e) x) → (x : InputView) → Contains (all_children l e branches n) x → IsTree d e (suc t) n x
all_children-IsTree l d e t zero branches each x (zero, m, f) = rw (← f) tt
all_children-IsTree l d e t zero branches each x (suc k, m, f) = absurd (omega arith)
all_children-IsTree l d e t (suc n) branches each x h =
    let rows : ℕ → ℕ → InputView → List InputView = λ back label branch. map (more back label branch) (all_children l e branches n) in
    let (back, back_in, at) = Contains-flat_map_cases (λ back. flat_map (λ label. flat_map (rows back label) branches) (count_from 0 l)) (count_from 1 e) x h in
    let (label, label_in, at') = Contains-flat_map_cases (λ label. flat_map (rows back label) branches) (count_from 0 l) x at in
    let (branch, branch_in, at'') = Contains-flat_map_cases (rows back label) branches x at' in
    let (rest, rest_in, is) = Contains-map_cases (more back label branch) (all_children l e branches n) x at'' in
    let (low, high) = count_from_range 1 e back back_in in
    rw (← is) (low, omega arith, each branch branch_in, all_children-IsTree l d e t n branches each rest rest_in)

pub all_trees-IsTree : (l d e t n : ℕ) (x : InputView) → Contains (all_trees l d e t n) x → IsTree d e t n x
all_trees-IsTree l d e zero n x (zero, m, f) = rw (← f) tt
all_trees-IsTree l d e zero n x (suc k, m, f) = absurd (omega arith)
all_trees-IsTree l d e (suc t) n x h = all_children-IsTree l d e t n (all_trees l e d t (pred e)) (all_trees-IsTree l e d t (pred e)) x h

-- whether the input labels fit
abbrev pub fits_around : Constraint → Constraint → List ℕ → InputView → Bool
fits_around own other seen leaf = true
fits_around own other seen end = has_config own seen
fits_around own other seen (more back label branch rest) = fits_around other own (label ∷ []) branch && fits_around own other (label ∷ seen) rest

pub FitsAround-fits : (own other : Constraint) (seen : List ℕ) (x : InputView) → FitsAround own other seen x → fits_around own other seen x ≡ true
FitsAround-fits own other seen leaf h = refl
FitsAround-fits own other seen end h = Has-has_config own seen h
FitsAround-fits own other seen (more back label branch rest) h =
    true-and (fits_around other own (label ∷ []) branch) (fits_around own other (label ∷ seen) rest) (FitsAround-fits other own (label ∷ []) branch h.0) (FitsAround-fits own other (label ∷ seen) rest h.1)

pub fits-FitsAround : (own other : Constraint) (seen : List ℕ) (x : InputView) → fits_around own other seen x ≡ true → FitsAround own other seen x
fits-FitsAround own other seen leaf h = tt
fits-FitsAround own other seen end h = has_config-Has own seen h
fits-FitsAround own other seen (more back label branch rest) h =
    let both = and-true (fits_around other own (label ∷ []) branch) (fits_around own other (label ∷ seen) rest) h in
    (fits-FitsAround other own (label ∷ []) branch both.0, fits-FitsAround own other (label ∷ seen) rest both.1)

-- what stands in a configuration is below n
pub Has-below : (n : ℕ) (constraint : Constraint) (labels : List ℕ) → IsConstraint n constraint → Has constraint labels → (x : ℕ) → Contains labels x → x < n
Has-below n constraint labels is has x held =
    AllByRecursion-contains (λ x. x < n) (sorted labels) x (AllByRecursion-contains (IsConfig constraint.degree n) constraint.configs (sorted labels) is.configs has).below (Contains-Rearranged x (Rearranged-sorted labels) held)

-- labels that fit are input labels
seen-below : (l : ℕ) (own other : Constraint) (d e t n : ℕ) (seen : List ℕ) (x : InputView) → IsConstraint l own → IsTree d e (suc t) n x → FitsAround own other seen x → (y : ℕ) → Contains seen y → y < l
seen-below l own other d e t n seen leaf is tree h y held = absurd tree
seen-below l own other d e t n seen end is tree h y held = Has-below l own seen is h y held
seen-below l own other d e t zero seen (more back label branch rest) is tree h y held = absurd tree
seen-below l own other d e t (suc n) seen (more back label branch rest) is tree h y held =
    seen-below l own other d e t n (label ∷ seen) rest is tree.3 h.1 y (Contains-later y label seen held)

pub FitsAround-below : (l : ℕ) (own other : Constraint) (d e t n : ℕ) (seen : List ℕ) (x : InputView) → IsConstraint l own → IsConstraint l other → IsTree d e t n x → FitsAround own other seen x → AreBelow l x
FitsAround-below l own other d e t n seen leaf is is' tree h = tt
FitsAround-below l own other d e t n seen end is is' tree h = tt
FitsAround-below l own other d e zero n seen (more back label branch rest) is is' tree h = absurd tree
FitsAround-below l own other d e (suc t) zero seen (more back label branch rest) is is' tree h = absurd tree
FitsAround-below l own other d e (suc t) (suc n) seen (more back label branch rest) is is' tree h = (
  seen-below l own other d e t n (label ∷ seen) rest is tree.3 h.1 label (Contains-here label seen),
  FitsAround-below l other own e d t (pred e) (label ∷ []) branch is' is tree.2 h.0,
  FitsAround-below l own other d e (suc t) n (label ∷ seen) rest is is' tree.3 h.1,
)

-- all views of that radius of an active node that fit the input problem
abbrev pub fitting_views : Problem → ℕ → List InputView
fitting_views input radius =
    filter (fits_around input.active input.passive []) (all_trees input.labels input.active.degree input.passive.degree radius input.active.degree)

pub Contains-fitting : (input : Problem) (radius : ℕ) (v : InputView) → IsProblem input → IsView input.active.degree input.passive.degree radius v → Fits input.active input.passive v → Contains (fitting_views input radius) v
Contains-fitting input radius v is view fits =
    Contains-filter (fits_around input.active input.passive []) (all_trees input.labels input.active.degree input.passive.degree radius input.active.degree) v
    (Contains-all_trees input.labels input.active.degree input.passive.degree radius input.active.degree v view (FitsAround-below input.labels input.active input.passive input.active.degree input.passive.degree radius input.active.degree [] v is.active is.passive view fits))
    (FitsAround-fits input.active input.passive [] v fits)

pub fitting-IsView : (input : Problem) (radius : ℕ) (v : InputView) → Contains (fitting_views input radius) v → IsView input.active.degree input.passive.degree radius v × Fits input.active input.passive v
fitting-IsView input radius v held =
    let (listed, passes) = Contains-filter_cases (fits_around input.active input.passive []) (all_trees input.labels input.active.degree input.passive.degree radius input.active.degree) v held in
    (all_trees-IsTree input.labels input.active.degree input.passive.degree radius input.active.degree v listed, fits-FitsAround input.active input.passive [] v passes)
