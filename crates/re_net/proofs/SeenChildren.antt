-- What the steps of `children` add.
use Rattle.re_labels.proofs.Membership.{count_from-last}
use Rattle.std.proofs.Common.{◌≡◌, ◌≢◌, ℕ, suc, ◌+◌, true, false, not, eqb, List, [], ◌∷◌, ◌++◌, Some, None, refl, sym, ◌∙◌, ap, arith}
use Rattle.std.specs.Prelude.{filter}
use Rattle.std.proofs.lemmas.Bool.{eq-eqb}
use Rattle.std.proofs.lemmas.Bool.Decides.{nat_tests}
use Rattle.std.proofs.lemmas.List.Elements.{filter-append, filter_map-append}
use Rattle.re_labels.specs.Lists.{count_from}
use Rattle.re_net.specs.declared.joins.Neighbour.{Neighbour}
use Rattle.re_net.specs.FiniteTrees.{FiniteTree, children_of, neighbour, neighbours_over, ports_of, most_ports, seen}
use Rattle.re_net.proofs.Surroundings.{filter-above}
use Rattle.re_laws.specs.Shown.{tree_of_branch, tree_of_children}
use Rattle.re_laws.specs.declared.Child.{Child}
use Rattle.re_laws.specs.Trees.{Tree, end, leaf, more}

-- the children of one list behind those of another
abbrev pub followed : {E : Type 0} → Tree E → Tree E → Tree E
followed leaf y = y
followed end y = y
followed (more back payload branch rest) y = more back payload branch (followed rest y)

pub tree_of_children-append : {E : Type 0} (xs ys : List (Child E)) → tree_of_children (xs ++ ys) ≡ followed (tree_of_children xs) (tree_of_children ys)
tree_of_children-append [] ys = refl
tree_of_children-append (x ∷ xs) ys = ap (more x.back x.payload (tree_of_branch x.branch)) (tree_of_children-append xs ys)

pub children_of-append : {E : Type 0} (mark : ℕ → E) (f : Neighbour → Tree E) (xs ys : List Neighbour) → children_of mark f (xs ++ ys) ≡ followed (children_of mark f xs) (children_of mark f ys)
children_of-append mark f [] ys = refl
children_of-append mark f (x ∷ xs) ys = ap (more x.port (mark x.edge) (f x)) (children_of-append mark f xs ys)

-- what is seen of a neighbour
abbrev pub beyond : {E : Type 0} → FiniteTree → (ℕ → E) → ℕ → Neighbour → Tree E
beyond tree mark t one = seen tree mark t one.node (filter (λ p. not (eqb p one.port)) (ports_of tree one.node))

-- the children over the first n ports but the one by which the node is entered
abbrev pub children_seen : {E : Type 0} → FiniteTree → (ℕ → E) → ℕ → ℕ → ℕ → ℕ → Tree E
children_seen tree mark t v entered n = children_of mark (beyond tree mark t) (neighbours_over tree v (filter (λ p. not (eqb p entered)) (count_from 1 n)))

-- one port more
module _ {E : Type 0} (tree : FiniteTree) (mark : ℕ → E) (t v entered n : ℕ) where
  pub ports_more : filter (λ p. not (eqb p entered)) (count_from 1 (n + 1)) ≡ filter (λ p. not (eqb p entered)) (count_from 1 n) ++ filter (λ p. not (eqb p entered)) ((n + 1) ∷ [])
  ports_more =
      let e : n + 1 ≡ suc n = omega arith in
      let e' : 1 + n ≡ n + 1 = omega arith in
      ap (λ m. filter (λ p. not (eqb p entered)) (count_from 1 m)) e
      ∙ (ap (filter (λ p. not (eqb p entered))) (count_from-last 1 n)
      ∙ (filter-append (λ p. not (eqb p entered)) (count_from 1 n) ((1 + n) ∷ [])
      ∙ ap (λ m. filter (λ p. not (eqb p entered)) (count_from 1 n) ++ filter (λ p. not (eqb p entered)) (m ∷ [])) e'))

  seen_more : children_seen tree mark t v entered (n + 1) ≡ followed (children_seen tree mark t v entered n) (children_of mark (beyond tree mark t) (neighbours_over tree v (filter (λ p. not (eqb p entered)) ((n + 1) ∷ []))))
  seen_more =
      ap (λ ports. children_of mark (beyond tree mark t) (neighbours_over tree v ports)) ports_more
      ∙ (ap (children_of mark (beyond tree mark t)) (filter_map-append (neighbour tree v) (filter (λ p. not (eqb p entered)) (count_from 1 n)) (filter (λ p. not (eqb p entered)) ((n + 1) ∷ [])))
      ∙ children_of-append mark (beyond tree mark t) (neighbours_over tree v (filter (λ p. not (eqb p entered)) (count_from 1 n))) (neighbours_over tree v (filter (λ p. not (eqb p entered)) ((n + 1) ∷ []))))

  followed-end : (list : List Neighbour) → followed (children_of mark (beyond tree mark t) list) end ≡ children_of mark (beyond tree mark t) list
  followed-end [] = refl
  followed-end (one ∷ list) = ap (more one.port (mark one.edge) (beyond tree mark t one)) (followed-end list)

  pub skip_entered : n + 1 ≡ entered → children_seen tree mark t v entered (n + 1) ≡ children_seen tree mark t v entered n
  skip_entered is =
      let same : eqb (n + 1) entered ≡ true = eq-eqb (n + 1) entered is in
      seen_more ∙ rw same (followed-end (neighbours_over tree v (filter (λ p. not (eqb p entered)) (count_from 1 n))))

  pub skip_free : n + 1 ≢ entered → neighbour tree v (n + 1) ≡ None → children_seen tree mark t v entered (n + 1) ≡ children_seen tree mark t v entered n
  skip_free apart none =
      let other : eqb (n + 1) entered ≡ false = grind (arith, nat_tests) in
      seen_more ∙ rw (other, none) (followed-end (neighbours_over tree v (filter (λ p. not (eqb p entered)) (count_from 1 n))))

  pub add_taken : (one : Neighbour) → n + 1 ≢ entered → neighbour tree v (n + 1) ≡ Some one → children_seen tree mark t v entered (n + 1) ≡ followed (children_seen tree mark t v entered n) (more one.port (mark one.edge) (beyond tree mark t one) end)
  add_taken one apart is =
      let other : eqb (n + 1) entered ≡ false = grind (arith, nat_tests) in
      seen_more ∙ rw (other, is) refl

-- one child more
pub child_added : {E : Type 0} (tree : FiniteTree) (mark : ℕ → E) (t v entered n : ℕ) (one : Neighbour) (items : List (Child E)) (child : Child E) → n + 1 ≢ entered → neighbour tree v (n + 1) ≡ Some one → tree_of_children items ≡ children_seen tree mark t v entered n → child.back ≡ one.port → child.payload ≡ mark one.edge → tree_of_branch child.branch ≡ beyond tree mark t one → tree_of_children (items ++ child ∷ []) ≡ children_seen tree mark t v entered (n + 1)
child_added tree mark t v entered n one items child apart is before back payload branch =
    tree_of_children-append items (child ∷ [])
    ∙ ((λ i. followed (before i) (more (back i) (payload i) (branch i) end)) ∙ sym (add_taken tree mark t v entered n one apart is))

-- no port is 0, so all are seen of a node that is not entered
pub not_entered : (tree : FiniteTree) (v : ℕ) → filter (λ p. not (eqb p 0)) (ports_of tree v) ≡ ports_of tree v
not_entered tree v = filter-above 0 1 (most_ports tree v) (omega arith)
