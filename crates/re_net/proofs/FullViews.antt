-- Full surroundings are views.
use Rattle.re_labels.proofs.Membership.{length-count_from}
use Rattle.std.proofs.Common.{◌≡◌, ℕ, zero, suc, pred, ◌+◌, ◌≤◌, ◌<◌, inl, inr, Bool, true, false, not, cond, eqb, List, [], ◌∷◌, length, Option, Some, None, refl, sym, ◌∙◌, ap, subst, arith}
use Rattle.std.specs.Prelude.{IsSome, filter}
use Rattle.std.specs.List.{cons_option, list_all}
use Rattle.std.proofs.lemmas.Bool.Decides.{eqb_tells}
use Rattle.re_labels.proofs.Tests.{and-true, eqb-true, true-and}
use Rattle.re_labels.specs.Lists.{count_from}
use Rattle.re_labels.specs.Sides.{degree_of, opposite}
use Rattle.re_labels.specs.declared.sides.Degrees.{Degrees}
use Rattle.re_labels.specs.declared.sides.Side.{Side}
use Rattle.re_labels.specs.declared.sides.Side.TheVariants.{Active}
use Rattle.re_net.specs.declared.joins.Neighbour.{Neighbour}
use Rattle.re_net.specs.FiniteTrees.{FiniteTree, IsFiniteTree, children_of, most_ports, neighbour, neighbours, neighbours_over, ports_of, seen, side_of, surroundings, unmarked}
use Rattle.re_net.specs.FullTrees.{has_all_ports, is_full, is_full_past}
use Rattle.re_net.proofs.Edges.{edge_of, opposite-opposite}
use Rattle.re_net.proofs.Rounds.{all_over}
use Rattle.re_net.proofs.Steps.{length-over}
use Rattle.re_net.proofs.Surroundings.{filter-above, other_ports}
use Rattle.re_laws.specs.Trees.{IsTree, IsView, Tree}

-- what holds of each port of a list
abbrev pub AllPorts : (ℕ → Type 0) → List ℕ → Type 0
AllPorts P [] = Unit {0}
AllPorts P (p ∷ ports) = P p × AllPorts P ports

-- as many neighbours as ports: all are taken
all_taken_over : (tree : FiniteTree) (v i n : ℕ) → length (neighbours_over tree v (count_from i n)) ≡ n → AllPorts (λ p. IsSome (neighbour tree v p)) (count_from i n)
all_taken_over tree v i zero h = tt
all_taken_over tree v i (suc n) h = by_value (neighbour tree v i) refl h (λ later. all_taken_over tree v (suc i) n later)
  where
    by_value : (o : Option Neighbour) → neighbour tree v i ≡ o → length (cons_option o (neighbours_over tree v (count_from (suc i) n))) ≡ suc n → (length (neighbours_over tree v (count_from (suc i) n)) ≡ n → AllPorts (λ p. IsSome (neighbour tree v p)) (count_from (suc i) n)) → IsSome (neighbour tree v i) × AllPorts (λ p. IsSome (neighbour tree v p)) (count_from (suc i) n)
    by_value None e count later = (let short = length-over tree v (suc i) n in absurd (omega arith))
    by_value (Some one) e count later = (rw e refl, later (omega arith))

ports_without : (P : ℕ → Type 0) (q : ℕ) (ports : List ℕ) → AllPorts P ports → AllPorts P (filter (λ p. not (eqb p q)) ports)
ports_without P q [] h = tt
ports_without P q (p ∷ ports) h = elim (eqb p q) as (λ b. AllPorts P (cond (not b) (p ∷ filter (λ p. not (eqb p q)) ports) (filter (λ p. not (eqb p q)) ports))) [
  | true ↦ ports_without P q ports h.1
  | false ↦ (h.0, ports_without P q ports h.1)
]

-- one port less
length-without : (q i n : ℕ) → i ≤ q → q < i + n → suc (length (filter (λ p. not (eqb p q)) (count_from i n))) ≡ n
length-without q i zero low high = absurd (omega arith)
length-without q i (suc n) low high =
    elim (eqb_tells i q) [
      | inl same ↦ (let e : i ≡ q = same.1 in rw (same.0, filter-above q (suc i) n (omega arith)) (ap suc (length-count_from (suc i) n)))
      | inr apart ↦ (let other = apart.1 in rw (apart.0) (ap suc (length-without q (suc i) n (omega arith) (omega arith))))
    ]

-- children over taken ports, each with a tree behind it
children_shown : {E : Type 0} (tree : FiniteTree) (mark : ℕ → E) (branch : Neighbour → Tree E) (test : Neighbour → Bool) (v d e t : ℕ) → ((p : ℕ) (one : Neighbour) → neighbour tree v p ≡ Some one → (1 ≤ one.port) × (one.port ≤ e))
    → ((p : ℕ) (one : Neighbour) → neighbour tree v p ≡ Some one → test one ≡ true → IsTree e d t (pred e) (branch one))
    → (ports : List ℕ) → AllPorts (λ p. IsSome (neighbour tree v p)) ports → list_all test (neighbours_over tree v ports) ≡ true → IsTree d e (suc t) (length ports) (children_of mark branch (neighbours_over tree v ports))
children_shown tree mark branch test v d e t ends shown [] taken all = tt
children_shown tree mark branch test v d e t ends shown (p ∷ ports) taken all = by_value (neighbour tree v p) refl taken.0 all (λ later. children_shown tree mark branch test v d e t ends shown ports taken.1 later)
  where
    by_value : (o : Option Neighbour) → neighbour tree v p ≡ o → IsSome o → list_all test (cons_option o (neighbours_over tree v ports)) ≡ true
        → (list_all test (neighbours_over tree v ports) ≡ true → IsTree d e (suc t) (length ports) (children_of mark branch (neighbours_over tree v ports)))
        → IsTree d e (suc t) (suc (length ports)) (children_of mark branch (cons_option o (neighbours_over tree v ports)))
    by_value None is some all later = absurd (cc)
    by_value (Some one) is some all later =
        let both = and-true (test one) (list_all test (neighbours_over tree v ports)) all in
        let end = ends p one is in
        (end.0, end.1, shown p one is both.0, later both.1)

moved_tree : {E : Type 0} {d d' e e' n n' : ℕ} (t : ℕ) (x : Tree E) → d ≡ d' → e ≡ e' → n ≡ n' → IsTree d e t n x → IsTree d' e' t n' x
moved_tree {E} {d} {d'} {e} {e'} {n} {n'} t x p q r h =
    subst (λ m. IsTree d' e' t m x) r (subst (λ m. IsTree d' m t n x) q (subst (λ m. IsTree m e t n x) p h))

-- the degree of a node's neighbours
abbrev pub far_ports : FiniteTree → ℕ → ℕ
far_ports tree v = degree_of tree.degrees (opposite (side_of tree v))

module _ {E : Type 0} (tree : FiniteTree) (mark : ℕ → E) (is_tree : IsFiniteTree tree) where
  -- a node all of whose ports are taken has them all
  pub taken_all : (v : ℕ) → has_all_ports tree v ≡ true → AllPorts (λ p. IsSome (neighbour tree v p)) (ports_of tree v)
  taken_all v h = all_taken_over tree v 1 (most_ports tree v) (eqb-true (length (neighbours tree v)) (most_ports tree v) h)

  full_seen : (t v : ℕ) (ports : List ℕ) → (has_all_ports tree v ≡ true → AllPorts (λ p. IsSome (neighbour tree v p)) ports) → is_full_past tree t v ports ≡ true → IsTree (most_ports tree v) (far_ports tree v) t (length ports) (seen tree mark t v ports)
  full_seen zero v ports taken full = tt
  full_seen (suc t) v ports taken full =
      let both = and-true (has_all_ports tree v) (list_all (λ one. is_full_past tree t one.node (other_ports tree one.node one.port)) (neighbours_over tree v ports)) full in
      children_shown tree mark (λ one. seen tree mark t one.node (other_ports tree one.node one.port)) (λ one. is_full_past tree t one.node (other_ports tree one.node one.port)) v (most_ports tree v) (far_ports tree v) t
      (λ p one is. let edge = edge_of tree is_tree v p one is in (edge.other_least, rw (far v p one is) edge.other_most))
      (λ p one is passes.
      let edge = edge_of tree is_tree v p one is in
      let least = edge.other_least in
      let most = edge.other_most in
      let less : suc (length (other_ports tree one.node one.port)) ≡ most_ports tree one.node = length-without one.port 1 (most_ports tree one.node) least (omega arith) in
      let count : length (other_ports tree one.node one.port) ≡ pred (far_ports tree v) = ap pred (less ∙ sym (far v p one is)) in
      let there : IsTree (most_ports tree one.node) (far_ports tree one.node) t (length (other_ports tree one.node one.port)) (seen tree mark t one.node (other_ports tree one.node one.port)) =
      full_seen t one.node (other_ports tree one.node one.port) (λ h. ports_without (λ q. IsSome (neighbour tree one.node q)) one.port (ports_of tree one.node) (taken_all one.node h)) passes in
      moved_tree t (seen tree mark t one.node (other_ports tree one.node one.port)) (sym (far v p one is)) (near v p one is) count there)
      ports (taken both.0) both.1
    where
      far : (v p : ℕ) (one : Neighbour) → neighbour tree v p ≡ Some one → far_ports tree v ≡ most_ports tree one.node
      far v p one is = ap (degree_of tree.degrees) (sym (edge_of tree is_tree v p one is).side)

      near : (v p : ℕ) (one : Neighbour) → neighbour tree v p ≡ Some one → far_ports tree one.node ≡ most_ports tree v
      near v p one is = ap (λ s. degree_of tree.degrees (opposite s)) (edge_of tree is_tree v p one is).side ∙ ap (degree_of tree.degrees) (opposite-opposite (side_of tree v))

  pub full_view : (v radius : ℕ) → is_full tree v radius ≡ true → IsView (most_ports tree v) (far_ports tree v) radius (surroundings tree mark v radius)
  full_view v radius full =
      let both = and-true (has_all_ports tree v) (is_full_past tree radius v (ports_of tree v)) full in
      let count : length (ports_of tree v) ≡ most_ports tree v = length-count_from 1 (most_ports tree v) in
      rw count at (full_seen radius v (ports_of tree v) (taken_all v) both.1)

-- what an active node with full surroundings holds at the last round is a view of the rule
pub output_view : (tree : FiniteTree) → IsFiniteTree tree → (v bound : ℕ) (degrees : Degrees) (radius : ℕ) (shown : Tree (Unit {0})) → degrees ≡ tree.degrees → radius ≡ bound → side_of tree v ≡ Active → is_full tree v bound ≡ true
    → shown ≡ surroundings tree unmarked v bound → IsView degrees.active degrees.passive radius shown
output_view tree is_tree v bound degrees radius shown same_degrees same_radius active full is =
    let view : IsView (degree_of tree.degrees (side_of tree v)) (degree_of tree.degrees (opposite (side_of tree v))) bound (surroundings tree unmarked v bound) = full_view tree unmarked is_tree v bound full in
    let view' : IsView tree.degrees.active tree.degrees.passive bound (surroundings tree unmarked v bound) = subst (λ (s : Side). IsView (degree_of tree.degrees s) (degree_of tree.degrees (opposite s)) bound (surroundings tree unmarked v bound)) active view in
    let view'' : IsView degrees.active degrees.passive bound (surroundings tree unmarked v bound) = subst (λ (d : Degrees). IsView d.active d.passive bound (surroundings tree unmarked v bound)) (sym same_degrees) view' in
    subst (λ r. IsView degrees.active degrees.passive r shown) (sym same_radius) (subst (λ x. IsView degrees.active degrees.passive bound x) (sym is) view'')

-- what holds past some ports holds past fewer
all_but_one : (tree : FiniteTree) (test : Neighbour → Bool) (v q : ℕ) (ports : List ℕ) → list_all test (neighbours_over tree v ports) ≡ true → list_all test (neighbours_over tree v (filter (λ p. not (eqb p q)) ports)) ≡ true
all_but_one tree test v q [] all = refl
all_but_one tree test v q (p ∷ ports) all = by_value (neighbour tree v p) (eqb p q) refl all (λ later. all_but_one tree test v q ports later)
  where
    by_value : (o : Option Neighbour) (b : Bool) → neighbour tree v p ≡ o → list_all test (cons_option o (neighbours_over tree v ports)) ≡ true
        → (list_all test (neighbours_over tree v ports) ≡ true → list_all test (neighbours_over tree v (filter (λ p. not (eqb p q)) ports)) ≡ true)
        → list_all test (neighbours_over tree v (cond (not b) (p ∷ filter (λ p. not (eqb p q)) ports) (filter (λ p. not (eqb p q)) ports))) ≡ true
    by_value None true e all later = later all
    by_value None false e all later = rw e (later all)
    by_value (Some one) true e all later = later (and-true (test one) (list_all test (neighbours_over tree v ports)) all).1
    by_value (Some one) false e all later =
        let both = and-true (test one) (list_all test (neighbours_over tree v ports)) all in
        rw e (true-and (test one) (list_all test (neighbours_over tree v (filter (λ p. not (eqb p q)) ports))) both.0 (later both.1))

full_fewer : (tree : FiniteTree) (t v q : ℕ) → is_full_past tree t v (ports_of tree v) ≡ true → is_full_past tree t v (other_ports tree v q) ≡ true
full_fewer tree zero v q full = refl
full_fewer tree (suc t) v q full =
    let both = and-true (has_all_ports tree v) (list_all (λ one. is_full_past tree t one.node (other_ports tree one.node one.port)) (neighbours_over tree v (ports_of tree v))) full in
    true-and (has_all_ports tree v) (list_all (λ one. is_full_past tree t one.node (other_ports tree one.node one.port)) (neighbours_over tree v (other_ports tree v q))) both.0
    (all_but_one tree (λ one. is_full_past tree t one.node (other_ports tree one.node one.port)) v q (ports_of tree v) both.1)

pub full_around : (tree : FiniteTree) → IsFiniteTree tree → (v radius : ℕ) → has_all_ports tree v ≡ true → ((p : ℕ) (one : Neighbour) → neighbour tree v p ≡ Some one → is_full tree one.node radius ≡ true) → is_full tree v (suc radius) ≡ true
full_around tree is_tree v radius has full =
    let each : list_all (λ one. is_full_past tree radius one.node (other_ports tree one.node one.port)) (neighbours_over tree v (ports_of tree v)) ≡ true =
    all_over tree (λ one. is_full_past tree radius one.node (other_ports tree one.node one.port)) v (ports_of tree v)
    (λ p one is. full_fewer tree radius one.node one.port (and-true (has_all_ports tree one.node) (is_full_past tree radius one.node (ports_of tree one.node)) (full p one is)).1) in
    true-and (has_all_ports tree v) (is_full_past tree (suc radius) v (ports_of tree v)) has
    (true-and (has_all_ports tree v) (list_all (λ one. is_full_past tree radius one.node (other_ports tree one.node one.port)) (neighbours_over tree v (ports_of tree v))) has each)
