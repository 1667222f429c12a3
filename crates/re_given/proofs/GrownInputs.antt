-- An input view that fits is cut from a deeper one that fits.
use Rattle.std.proofs.Common.{◌≡◌, ℕ, zero, suc, pred, ◌≤◌, ◌<◌, List, [], ◌∷◌, ◌++◌, length, subst, refl, sym, ◌∙◌, arith, append-nil}
use Rattle.std.specs.List.{AllByRecursion}
use Rattle.std.specs.Prelude.{Contains, ◌↔◌}
use Rattle.re_labels.proofs.Rearranging.{Contains-Rearranged, Rearranged-refl, Rearranged-sym, length-Rearranged}
use Rattle.re_labels.proofs.Sorting.{Rearranged-sorted, sorted-Rearranged, sorted_again}
use Rattle.re_labels.specs.Configs.{IsConfig, sorted}
use Rattle.re_labels.specs.Rearranging.{Rearranged, chained, kept, swapped}
use Rattle.re_given.proofs.Fitting.{Rearranged-front}
use Rattle.re_given.specs.InputViews.{FitsAround, InputView}
use Rattle.re_given.specs.Inputs.{IsInput}
use Rattle.re_problem.specs.NamedProblems.{OccursIn}
use Rattle.re_labels.proofs.Membership.{AllByRecursion-contains, Contains-here, Contains-later}
use Rattle.re_problem.specs.Problems.{Problem}
use Rattle.re_labels.proofs.Goodness.{Has-Rearranged}
use Rattle.re_labels.specs.Constraints.{Constraint, Has, IsConstraint}
use Rattle.re_laws.specs.Trees.{IsTree, cut, end, leaf, more}

-- both sides of an input problem, from one of them
pub record AreSides (n d e : ℕ) (own other : Constraint) : Type 0 where
  pub own_is : IsConstraint n own
  pub other_is : IsConstraint n other
  pub own_degree : own.degree ≡ d
  pub other_degree : other.degree ≡ e
  pub occurs : (label : ℕ) → OccursIn own label ↔ OccursIn other label

pub turned_sides : {n d e : ℕ} {own other : Constraint} → AreSides n d e own other → AreSides n e d other own
turned_sides s = record {
  own_is = s.other_is;
  other_is = s.own_is;
  own_degree = s.other_degree;
  other_degree = s.own_degree;
  occurs = λ label. ((s.occurs label).1, (s.occurs label).0);
}

-- what stands in a configuration occurs
pub Has-occurs : (constraint : Constraint) (labels : List ℕ) (x : ℕ) → Has constraint labels → Contains labels x → OccursIn constraint x
Has-occurs constraint labels x has held = (sorted labels, has, Contains-Rearranged x (Rearranged-sorted labels) held)

pub seen-occurs : (own other : Constraint) (d e t n : ℕ) (seen : List ℕ) (x : InputView) → IsTree d e (suc t) n x → FitsAround own other seen x → (y : ℕ) → Contains seen y → OccursIn own y
seen-occurs own other d e t n seen leaf tree h y held = absurd tree
seen-occurs own other d e t n seen end tree h y held = Has-occurs own seen y h held
seen-occurs own other d e t zero seen (more back label branch rest) tree h y held = absurd tree
seen-occurs own other d e t (suc n) seen (more back label branch rest) tree h y held =
    seen-occurs own other d e t n (label ∷ seen) rest tree.3 h.1 y (Contains-later y label seen held)

-- a list without one element
pub without_one : (xs : List ℕ) (x : ℕ) → Contains xs x → (rest : List ℕ) × Rearranged xs (x ∷ rest)
without_one [] x (k, l, e) = absurd (omega arith)
without_one (y ∷ xs) x (zero, l, e) = (xs, subst (λ z. Rearranged (y ∷ xs) (z ∷ xs)) e (Rearranged-refl (y ∷ xs)))
without_one (y ∷ xs) x (suc k, l, e) =
    let (rest, order) = without_one xs x (k, omega arith, e) in
    (y ∷ rest, chained (kept order) swapped)

-- a node's other labels, where one of its labels is known
pub completed : (n d e : ℕ) (own other : Constraint) (x : ℕ) → AreSides n d e own other → OccursIn own x → (rest : List ℕ) × (length rest ≡ pred d) × Has own (x ∷ rest)
completed n d e own other x sides (config, held, at) =
    let (rest, order) = without_one config x at in
    let is : IsConfig own.degree n config = AllByRecursion-contains (IsConfig own.degree n) own.configs config sides.own_is.configs held in
    let count : length config ≡ suc (length rest) = length-Rearranged order in
    let same : sorted (x ∷ rest) ≡ config = sym (sorted-Rearranged order) ∙ sorted_again config is.ascends in
    (rest, omega (arith, is.count, sides.own_degree), rw same held)

-- children with these labels, all of that depth
pub filled_children : (d e t : ℕ) (own other : Constraint) (rest seen : List ℕ) → 1 ≤ e → ((y : ℕ) → Contains rest y → (b : InputView) × IsTree e d t (pred e) b × FitsAround other own (y ∷ []) b) → Has own (rest ++ seen)
    → (b : InputView) × IsTree d e (suc t) (length rest) b × FitsAround own other seen b
filled_children d e t own other [] seen some each has = (end, tt, has)
filled_children d e t own other (y ∷ rest) seen some each has =
    let (branch, tree, fits) = each y (Contains-here y rest) in
    let (tail, tail_tree, tail_fits) = filled_children d e t own other rest (y ∷ seen) some (λ z held. each z (Contains-later z y rest held)) (Has-Rearranged own (Rearranged-sym (Rearranged-front rest y seen)) has) in
    (more 1 y branch tail, (omega arith, some, tree, tail_tree), (fits, tail_fits))

-- a branch of any depth behind an edge with this label
pub filled : (n d e : ℕ) (own other : Constraint) (t x : ℕ) → AreSides n d e own other → OccursIn own x → (b : InputView) × IsTree d e t (pred d) b × FitsAround own other (x ∷ []) b
filled n d e own other zero x sides occurs = (leaf, tt, tt)
filled n d e own other (suc t) x sides occurs =
    let (rest, count, has) = completed n d e own other x sides occurs in
    let some : 1 ≤ e = let l = sides.other_is.least in omega (arith, sides.other_degree) in
    let (b, tree, fits) = filled_children d e t own other rest (x ∷ []) some
    (λ y held. filled n e d other own t y (turned_sides sides) ((sides.occurs y).0 (Has-occurs own (x ∷ rest) y has (Contains-later y x rest held))))
    (Has-Rearranged own (Rearranged-sym (Rearranged-front rest x [])) (subst (λ labels. Has own (x ∷ labels)) (sym (append-nil rest)) has)) in
    (b, subst (λ m. IsTree d e (suc t) m b) count tree, fits)

-- a list of children whose branches are grown to a depth
pub grown_children : (labels d e : ℕ) (own other : Constraint) (t r n : ℕ) (seen : List ℕ) (x : InputView) → AreSides labels d e own other → IsTree d e (suc t) n x → t ≤ r → FitsAround own other seen x
    → (y : InputView) × IsTree d e (suc r) n y × FitsAround own other seen y × (cut (suc t) y ≡ x)
grown_children labels d e own other t r n seen leaf sides tree l fits = absurd tree
grown_children labels d e own other t r zero seen end sides tree l fits = (end, tt, fits, refl)
grown_children labels d e own other t r (suc n) seen end sides tree l fits = absurd tree
grown_children labels d e own other t r zero seen (more back label branch rest) sides tree l fits = absurd tree
grown_children labels d e own other zero r (suc n) seen (more back label branch rest) sides tree l fits =
    let occurs : OccursIn other label = (sides.occurs label).0 (seen-occurs own other d e zero n (label ∷ seen) rest tree.3 fits.1 label (Contains-here label seen)) in
    let (branch', branch_tree, branch_fits) = filled labels e d other own r label (turned_sides sides) occurs in
    let (rest', rest_tree, rest_fits, rest_cut) = grown_children labels d e own other zero r n (label ∷ seen) rest sides tree.3 l fits.1 in
    (more back label branch' rest', (tree.0, tree.1, branch_tree, rest_tree), (branch_fits, rest_fits), both (leaf_is branch tree.2) rest_cut)
  where
    leaf_is : (b : InputView) → IsTree e d zero (pred e) b → leaf ≡ b
    leaf_is leaf h = refl
    leaf_is end h = absurd h
    leaf_is (more back label branch rest) h = absurd h

    both : {b b' r r' : InputView} → b ≡ b' → r ≡ r' → ◌≡◌ {A = InputView} (more back label b r) (more back label b' r')
    both e f = cc
grown_children labels d e own other (suc t) zero (suc n) seen (more back label branch rest) sides tree l fits = absurd (omega arith)
grown_children labels d e own other (suc t) (suc r) (suc n) seen (more back label branch rest) sides tree l fits =
    let (branch', branch_tree, branch_fits, branch_cut) = grown_children labels e d other own t r (pred e) (label ∷ []) branch (turned_sides sides) tree.2 (omega arith) fits.0 in
    let (rest', rest_tree, rest_fits, rest_cut) = grown_children labels d e own other (suc t) (suc r) n (label ∷ seen) rest sides tree.3 l fits.1 in
    (more back label branch' rest', (tree.0, tree.1, branch_tree, rest_tree), (branch_fits, rest_fits), both branch_cut rest_cut)
  where
    both : {b b' r r' : InputView} → b ≡ b' → r ≡ r' → ◌≡◌ {A = InputView} (more back label b r) (more back label b' r')
    both e f = cc

-- what occurs is a label
pub occurs_below : (c : ℕ) (constraint : Constraint) (label : ℕ) → IsConstraint c constraint → OccursIn constraint label → label < c
occurs_below c constraint label is (config, held, at) =
    AllByRecursion-contains (λ x. x < c) config label (AllByRecursion-contains (IsConfig constraint.degree c) constraint.configs config is.configs held).below at

-- what occurs on one side of an input problem occurs on the other
pub both_occur : (problem input : Problem) → IsInput problem input → (label : ℕ) → OccursIn input.active label ↔ OccursIn input.passive label
both_occur problem input is label = (
  λ h. (is.occurs label (occurs_below input.labels input.active label is.is_problem.active h)).1,
  λ h. (is.occurs label (occurs_below input.labels input.passive label is.is_problem.passive h)).0,
)

-- the two sides of an input problem
pub active_sides : (problem input : Problem) → IsInput problem input → AreSides input.labels problem.active.degree problem.passive.degree input.active input.passive
active_sides problem input is = record { own_is = is.is_problem.active; other_is = is.is_problem.passive; own_degree = is.active_degree; other_degree = is.passive_degree; occurs = both_occur problem input is }

pub passive_sides : (problem input : Problem) → IsInput problem input → AreSides input.labels problem.passive.degree problem.active.degree input.passive input.active
passive_sides problem input is = turned_sides (active_sides problem input is)
