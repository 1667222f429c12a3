-- What the steps of `shift` do to lists of children.
use Rattle.std.proofs.Common.{◌≡◌, ◌≢◌, ℕ, zero, suc, pred, ◌-◌, ◌≤◌, ◌<◌, List, [], ◌∷◌, length, get_or, refl, sym, ◌∙◌, ap, arith, sub-one, subst}
use Rattle.std.specs.Prelude.{Some, Vec, insert, remove}
use Rattle.std.specs.declared.alloc.Global.{Global}
use Rattle.re_laws.specs.declared.Branch.{Branch, Node}
use Rattle.re_laws.specs.declared.Child.{Child}
use Rattle.re_laws.specs.Trees as tree
use Rattle.re_laws.proofs.ShownLemmas.{children-tree, shown_zero, tree_of_branch-Node}
use Rattle.re_laws.proofs.ViewLaws.{others-cut, shift-at}
use Rattle.re_laws.specs.Shown.{IsShownChild, tree_of_branch, tree_of_children}
use Rattle.re_laws.specs.Trees.{IsTree, IsView, Tree, child_at, cut, leaf, more, others, put, shift}

-- the child that a tree shows
abbrev pub shown : {E : Type 0} → Child E → tree.Child E
shown child = record { back = child.back; payload = child.payload; branch = tree_of_branch child.branch }

pub same_length : {E : Type 0} (depth : ℕ) (xs ys : List (Child E)) → depth ≢ 0 → tree_of_children xs ≡ cut depth (tree_of_children ys) → length xs ≡ length ys
same_length zero xs ys some h = absurd (some refl)
same_length (suc t) [] [] some h = refl
same_length (suc t) [] (y ∷ ys) some h = absurd (cc)
same_length (suc t) (x ∷ xs) [] some h = absurd (cc)
same_length (suc t) (x ∷ xs) (y ∷ ys) some h =
    let rest : tree_of_children xs ≡ cut (suc t) (tree_of_children ys) = cc in
    ap suc (same_length (suc t) xs ys some rest)

pub others-children : {E : Type 0} (i : ℕ) (xs : List (Child E)) → tree_of_children (remove xs i) ≡ others i (tree_of_children xs)
others-children zero [] = refl
others-children (suc i) [] = refl
others-children zero (x ∷ xs) = refl
others-children (suc i) (x ∷ xs) = ap (more x.back x.payload (tree_of_branch x.branch)) (others-children i xs)

pub put-children : {E : Type 0} (k : ℕ) (one : Child E) (xs : List (Child E)) → tree_of_children (insert xs k one) ≡ put k (shown one) (tree_of_children xs)
put-children zero one xs = refl
put-children (suc k) one [] = refl
put-children (suc k) one (x ∷ xs) = ap (more x.back x.payload (tree_of_branch x.branch)) (put-children k one xs)

pub child_at-children : {E : Type 0} (k : ℕ) (xs : List (Child E)) (child : Child E) → k < length xs → child ≡ get_or xs k child → child_at k (tree_of_children xs) ≡ Some (shown child)
child_at-children k [] child l e = absurd (omega arith)
child_at-children zero (x ∷ xs) child l e = ap (λ c. Some (shown c)) (sym e)
child_at-children (suc k) (x ∷ xs) child l e = child_at-children k xs child (omega arith) e

-- what is known of the child at a port of a view
pub record IsAtPort {E : Type 0} (d e t k : ℕ) (items : List (Child E)) (child : Child E) : Type 0 where
  pub count : length items ≡ d
  pub least : 1 ≤ child.back
  pub most : child.back ≤ e
  pub branch : IsTree e d t (pred e) (tree_of_branch child.branch)
  pub at : child_at k (tree_of_children items) ≡ Some (shown child)

pub at_port_is : {E : Type 0} (d e t k : ℕ) (items : List (Child E)) (child : Child E) → IsView d e (suc t) (tree_of_children items) → k < d → child ≡ get_or items k child → IsAtPort d e t k items child
at_port_is d e t k items child view l is =
    let (count, all) = children-tree d e t d items view in
    let inside : k < length items = omega arith in
    let one : IsShownChild e d t child = rw is (all k child inside) in
    let branch : IsTree e d t (pred e) (tree_of_branch child.branch) = (let shorter : e - 1 ≡ pred e = omega arith in rw shorter at one.2) in
    record { count = count; least = one.0; most = one.1; branch = branch; at = child_at-children k items child inside is }

-- what lies behind the first child
pub first_behind : {E : Type 0} (d e t n : ℕ) (items : List (Child E)) (first : Child E) → IsTree d e (suc t) n (tree_of_children items) → 1 ≤ n → first ≡ get_or items 0 first → IsTree e d t (pred e) (tree_of_branch first.branch)
first_behind d e t zero items first is some at = absurd (omega arith)
first_behind d e t (suc n) [] first is some at = absurd is
first_behind {E} d e t (suc n) (x ∷ items) first is some at = subst (λ (c : Child E). IsTree e d t (pred e) (tree_of_branch c.branch)) (sym at) is.2

-- a list of children that is cut is a list of children only where it is cut to a depth of at least 1
pub cut_node : {E : Type 0} (t : ℕ) (branch : Branch E) (rest : Vec (Child E) Global) (x : Tree E) → branch ≡ Node rest → tree_of_branch branch ≡ cut t x → (t ≢ 0) × (tree_of_children rest.items ≡ cut t x)
cut_node {E} t branch rest x node is = (λ none. no_leaf rest.items (same ∙ ap (λ n. cut n x) none), same)
  where
    same : tree_of_children rest.items ≡ cut t x
    same = sym (ap tree_of_branch node ∙ tree_of_branch-Node rest) ∙ is

    no_leaf : (items : List (Child E)) → tree_of_children items ≡ leaf → ⊥
    no_leaf [] h = cc
    no_leaf (y ∷ items) h = cc

-- what the code puts together is the neighbour's view
pub shift_node : {E : Type 0} (d e t port : ℕ) (items beyond answer : List (Child E)) (child one : Child E) → IsAtPort d e (suc t) (port - 1) items child → tree_of_branch child.branch ≡ tree_of_children beyond → tree_of_children answer ≡ tree_of_children beyond → one.back ≡ port → one.payload ≡ child.payload → tree_of_branch one.branch ≡ cut t (others (port - 1) (tree_of_children items)) → tree_of_children (insert answer (child.back - 1) one) ≡ shift (suc t) (tree_of_children items) port
shift_node {E} d e t port items beyond answer child one is node copied b p behind =
    let place : port - 1 ≡ pred port = sub-one port in
    let place' : child.back - 1 ≡ pred child.back = sub-one child.back in
    let at : child_at (pred port) (tree_of_children items) ≡ Some (shown child) = rw place at is.at in
    let copy : tree_of_children answer ≡ tree_of_branch child.branch = copied ∙ sym node in
    let turned_one : tree.Child E = record { back = port; payload = child.payload; branch = cut t (others (pred port) (tree_of_children items)) } in
    let rest : tree_of_branch one.branch ≡ cut t (others (pred port) (tree_of_children items)) = behind ∙ ap (λ n. cut t (others n (tree_of_children items))) place in
    let same_one : shown one ≡ turned_one = (λ i. record { back = b i; payload = p i; branch = rest i }) in
    put-children (child.back - 1) one answer
    ∙ (ap (λ x. put (child.back - 1) (shown one) x) copy
    ∙ (ap (λ n. put n (shown one) (tree_of_branch child.branch)) place'
    ∙ (ap (λ c. put (pred child.back) c (tree_of_branch child.branch)) same_one
    ∙ sym (shift-at (suc t) (tree_of_children items) port (shown child) at))))

pub shift_built : {E : Type 0} (d e t port : ℕ) (items beyond answer : List (Child E)) (child one : Child E) → IsAtPort d e t (port - 1) items child → tree_of_branch child.branch ≡ tree_of_children beyond → tree_of_children answer ≡ tree_of_children beyond → one.back ≡ port → one.payload ≡ child.payload → ((u : ℕ) → IsTree e d (suc u) (pred e) (tree_of_children beyond) → tree_of_branch one.branch ≡ cut u (others (port - 1) (tree_of_children items))) → tree_of_children (insert answer (child.back - 1) one) ≡ shift t (tree_of_children items) port
shift_built d e zero port items beyond answer child one is node copied b p behind = absurd (shown_zero e d (pred e) beyond (rw node at is.branch))
shift_built d e (suc t) port items beyond answer child one is node copied b p behind = shift_node d e t port items beyond answer child one is node copied b p (behind t (rw node at is.branch))

-- what lies behind a node is such a list for some depth
pub beyond_shown : {E : Type 0} (d e t k : ℕ) (items beyond : List (Child E)) (child : Child E) → 2 ≤ d → 2 ≤ e → IsAtPort d e t k items child → tree_of_branch child.branch ≡ tree_of_children beyond → (d' e' u n : ℕ) × (2 ≤ d') × (2 ≤ e') × (1 ≤ n) × IsTree d' e' (suc u) n (tree_of_children beyond)
beyond_shown d e zero k items beyond child two two' is node = absurd (shown_zero e d (pred e) beyond (rw node at is.branch))
beyond_shown d e (suc t) k items beyond child two two' is node = (e, d, t, pred e, two', two, omega arith, rw node at is.branch)

pub others-cut_some : {E : Type 0} (depth k : ℕ) (x : Tree E) → depth ≢ 0 → others k (cut depth x) ≡ cut depth (others k x)
others-cut_some zero k x some = absurd (some refl)
others-cut_some (suc t) k x some = others-cut t k x

-- nothing is left of a list of children only where it is cut to depth 0
pub others_leaf : {E : Type 0} (t k : ℕ) (items : List (Child E)) → leaf ≡ cut t (tree_of_children items) → leaf ≡ cut t (others k (tree_of_children items))
others_leaf zero k items h = refl
others_leaf (suc t) k [] h = absurd (cc)
others_leaf (suc t) k (x ∷ items) h = absurd (cc)

-- the child that the code reads
pub port_child : {E : Type 0} (d e t port from : ℕ) (items : List (Child E)) (child : Child E) → IsView d e (suc t) (tree_of_children items) → 1 ≤ port → port ≤ d → from ≡ port → child ≡ get_or items (from - 1) child → IsAtPort d e t (port - 1) items child
port_child d e t port from items child view low high same is = at_port_is d e t (port - 1) items child view (omega arith) (rw same at is)

pub leaf_depth : {E : Type 0} (d e t n : ℕ) (x : Tree E) → x ≡ leaf → IsTree d e t n x → t ≡ 0
leaf_depth d e zero n x is h = refl
leaf_depth {E} d e (suc t) n x is h =
    let none : IsTree d e (suc t) n (let l : Tree E = leaf in l) = rw is at h in
    absurd none

-- both degrees that a view is given are the number of its children
pub port_below : {E : Type 0} (d e t d' e' t' port : ℕ) (items : List (Child E)) → IsView d e (suc t) (tree_of_children items) → IsView d' e' (suc t') (tree_of_children items) → port ≤ d' → port ≤ d
port_below d e t d' e' t' port items view view' l =
    let one = (children-tree d e t d items view).0 in
    let two = (children-tree d' e' t' d' items view').0 in
    omega arith
