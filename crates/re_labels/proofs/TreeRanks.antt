-- The number of a leaf, from level to level.
use Rattle.std.proofs.Common.{◌≡◌, ℕ, zero, suc, ◌<◌, ◌≤◌, ◌+◌, ◌-◌, Bool, true, false, cond, ltb, ◌&&◌, ◌||◌, List, [], ◌∷◌, length, get_or, refl, sym, ap, ◌∙◌, subst, arith, inl, inr}
use Rattle.std.proofs.lemmas.Bool.{false≢true, le-ltb, lt-ltb, ltb-true}
use Rattle.std.proofs.lemmas.List.Sums.{sum_by-cons}
use Rattle.std.specs.Prelude.{count_by}
use Rattle.re_labels.proofs.Before.{same_list-refl, same_list-same, three_ways}
use Rattle.re_labels.proofs.ListSets.{list_set-In, rising-list_set}
use Rattle.re_labels.proofs.Membership.{In, In-Contains}
use Rattle.re_labels.proofs.Tests.{and-true, or-false, or-true}
use Rattle.re_labels.specs.Lists.{same_list}
use Rattle.re_labels.proofs.TreeCounts.{counts-alike, one-counted, place-counted}
use Rattle.re_labels.proofs.TreeGrowth.{none_counted}
use Rattle.re_labels.proofs.TreeLeaves.{held_place, leaf-In, reached}
use Rattle.re_labels.specs.declared.prefix_tree.Kind.{Kind}
use Rattle.re_labels.specs.declared.prefix_tree.Kind.TheVariants.{Inner, Leaf}
use Rattle.re_labels.specs.declared.prefix_tree.Node.{Node}
use Rattle.re_labels.specs.PrefixTrees.{IsBelow, IsLink, IsTree, begins, held_configs, leaf_configs, leaves_of, node_at, prefix}
use Rattle.re_labels.specs.TreeWalks.{precedes}

-- ---- one label more
pub begins-is : (above config : List ℕ) → begins above config ≡ true → above ≡ prefix config (length above)
begins-is above config h = same_list-same above (prefix config (length above)) h

pub is-begins : (above config : List ℕ) → above ≡ prefix config (length above) → begins above config ≡ true
is-begins above config e = subst (λ l. same_list above l ≡ true) e (same_list-refl above)

module _ (label : ℕ) (above config : List ℕ) where
  pub begins-tail : begins (label ∷ above) config ≡ true → (begins above config ≡ true) × (label ≡ get_or config (length above) 0)
  begins-tail h =
      let is : label ∷ above ≡ get_or config (length above) 0 ∷ prefix config (length above) = begins-is (label ∷ above) config h in
      let rest : above ≡ prefix config (length above) = cc in
      (is-begins above config rest, cc)

  pub begins-more : begins above config ≡ true → label ≡ get_or config (length above) 0 → begins (label ∷ above) config ≡ true
  begins-more h e = is-begins (label ∷ above) config (λ i. e i ∷ begins-is above config h i)

exclusive : (above config : List ℕ) → precedes above config ≡ true → begins above config ≡ true → ⊥
exclusive [] config h b = false≢true h
exclusive (label ∷ above) config h b =
    let tail = begins-tail label above config b in
    elim (or-true (precedes above config) (begins above config && ltb (get_or config (length above) 0) label) h) [
      | inl p ↦ exclusive above config p tail.0
      | inr both ↦ let less = ltb-true (get_or config (length above) 0) label (and-true (begins above config) (ltb (get_or config (length above) 0) label) both).1 in let e = tail.1 in omega arith
    ]

module _ (above config : List ℕ) where
  outside : begins above config ≡ true → precedes above config ≡ false
  outside b = by_test (precedes above config) refl
    where
      by_test : (r : Bool) → precedes above config ≡ r → precedes above config ≡ false
      by_test true e = absurd (exclusive above config e b)
      by_test false e = e

  precedes_on-label : (label : ℕ) → begins above config ≡ true → precedes (label ∷ above) config ≡ ltb (get_or config (length above) 0) label
  precedes_on-label label h = (λ i. outside h i || (h i && ltb (get_or config (length above) 0) label))

  precedes_off-label : (label : ℕ) → begins above config ≡ false → precedes (label ∷ above) config ≡ precedes above config
  precedes_off-label label h = ap (λ b. precedes above config || (b && ltb (get_or config (length above) 0) label)) h ∙ or-false (precedes above config)

  module _ (label : ℕ) where
    precedes-off : begins above config ≡ false → precedes (label ∷ above) config ≡ precedes above config
    precedes-off = precedes_off-label label

    begins-off : begins above config ≡ false → begins (label ∷ above) config ≡ false
    begins-off h = by_test (begins (label ∷ above) config) refl
      where
        by_test : (r : Bool) → begins (label ∷ above) config ≡ r → begins (label ∷ above) config ≡ false
        by_test true e = absurd (false≢true (sym h ∙ (begins-tail label above config e).0))
        by_test false e = e

    precedes-on : begins above config ≡ true → precedes (label ∷ above) config ≡ ltb (get_or config (length above) 0) label
    precedes-on = precedes_on-label label

    begins-other : (label ≡ get_or config (length above) 0 → ⊥) → begins (label ∷ above) config ≡ false
    begins-other apart = by_test (begins (label ∷ above) config) refl
      where
        by_test : (r : Bool) → begins (label ∷ above) config ≡ r → begins (label ∷ above) config ≡ false
        by_test true e = absurd (apart (begins-tail label above config e).1)
        by_test false e = e

    -- the first label of all: nothing comes between
    first_same : (begins above config ≡ true → label ≤ get_or config (length above) 0) → cond (precedes (label ∷ above) config) 1 0 + cond false 1 0 ≡ cond (precedes above config) 1 0 + cond false 1 0
    first_same low = ap (λ (b : Bool). cond b 1 0 + 0) (by_test (begins above config) refl)
      where
        by_test : (b : Bool) → begins above config ≡ b → precedes (label ∷ above) config ≡ precedes above config
        by_test true h = precedes-on h ∙ le-ltb (get_or config (length above) 0) label (low h) ∙ sym (outside h)
        by_test false h = precedes-off h

    -- the last label of all: nothing comes behind
    last_same : (begins above config ≡ true → get_or config (length above) 0 ≤ label)
        → cond (precedes above config) 1 0 + cond (begins above config) 1 0 ≡ cond (precedes (label ∷ above) config) 1 0 + cond (begins (label ∷ above) config) 1 0
    last_same high = by_test (begins above config) refl
      where
        by_test : (b : Bool) → begins above config ≡ b → cond (precedes above config) 1 0 + cond (begins above config) 1 0 ≡ cond (precedes (label ∷ above) config) 1 0 + cond (begins (label ∷ above) config) 1 0
        by_test true h = elim (three_ways (get_or config (length above) 0) label) [
          | inl less ↦
              let p : precedes (label ∷ above) config ≡ true = precedes-on h ∙ lt-ltb (get_or config (length above) 0) label less in
              let q : begins (label ∷ above) config ≡ false = begins-other (λ e. omega arith) in
              (λ i. cond (outside h i) 1 0 + cond (h i) 1 0) ∙ sym (λ i. cond (p i) 1 0 + cond (q i) 1 0)
          | inr (inl same) ↦
              let p : precedes (label ∷ above) config ≡ false = precedes-on h ∙ le-ltb (get_or config (length above) 0) label (omega arith) in
              let q : begins (label ∷ above) config ≡ true = begins-more label above config h (sym same) in
              (λ i. cond (outside h i) 1 0 + cond (h i) 1 0) ∙ sym (λ i. cond (p i) 1 0 + cond (q i) 1 0)
          | inr (inr more) ↦ absurd (let l = high h in omega arith)
        ]
        by_test false h = (λ i. cond (sym (precedes-off h) i) 1 0 + cond (h i) 1 0) ∙ ap (λ (b : Bool). cond (precedes (label ∷ above) config) 1 0 + cond b 1 0) (sym (begins-off h))

    -- the next label: those of the label before come between
    next_same : (after : ℕ) → label < after → (begins above config ≡ true → label < get_or config (length above) 0 → after ≤ get_or config (length above) 0)
        → cond (precedes (after ∷ above) config) 1 0 + cond false 1 0 ≡ cond (precedes (label ∷ above) config) 1 0 + cond (begins (label ∷ above) config) 1 0
    next_same after rises between = by_test (begins above config) refl
      where
        by_test : (b : Bool) → begins above config ≡ b → cond (precedes (after ∷ above) config) 1 0 + cond false 1 0 ≡ cond (precedes (label ∷ above) config) 1 0 + cond (begins (label ∷ above) config) 1 0
        by_test true h = elim (three_ways (get_or config (length above) 0) label) [
          | inl less ↦
              let p : precedes (label ∷ above) config ≡ true = precedes-on h ∙ lt-ltb (get_or config (length above) 0) label less in
              let q : begins (label ∷ above) config ≡ false = begins-other (λ e. omega arith) in
              let r : precedes (after ∷ above) config ≡ true = precedes_on-label after h ∙ lt-ltb (get_or config (length above) 0) after (omega arith) in
              (λ i. cond (r i) 1 0 + 0) ∙ sym (λ i. cond (p i) 1 0 + cond (q i) 1 0)
          | inr (inl same) ↦
              let p : precedes (label ∷ above) config ≡ false = precedes-on h ∙ le-ltb (get_or config (length above) 0) label (omega arith) in
              let q : begins (label ∷ above) config ≡ true = begins-more label above config h (sym same) in
              let r : precedes (after ∷ above) config ≡ true = precedes_on-label after h ∙ lt-ltb (get_or config (length above) 0) after (omega arith) in
              (λ i. cond (r i) 1 0 + 0) ∙ sym (λ i. cond (p i) 1 0 + cond (q i) 1 0)
          | inr (inr more) ↦
              let p : precedes (label ∷ above) config ≡ false = precedes-on h ∙ le-ltb (get_or config (length above) 0) label (omega arith) in
              let q : begins (label ∷ above) config ≡ false = begins-other (λ e. omega arith) in
              let r : precedes (after ∷ above) config ≡ false = precedes_on-label after h ∙ le-ltb (get_or config (length above) 0) after (between h more) in
              (λ i. cond (r i) 1 0 + 0) ∙ sym (λ i. cond (p i) 1 0 + cond (q i) 1 0)
        ]
        by_test false h = (λ i. cond ((precedes_off-label after h ∙ sym (precedes-off h)) i) 1 0 + 0) ∙ ap (λ (b : Bool). cond (precedes (label ∷ above) config) 1 0 + cond b 1 0) (sym (begins-off h))

-- ---- leaves of a tree
pub counted-some : {X : Type 0} (p : X → Bool) (xs : List X) → 0 < count_by p xs → (x : X) × In x xs × (p x ≡ true)
counted-some p [] l = absurd (omega arith)
counted-some p (x ∷ xs) l = by_test (p x) refl (counted-some p xs)
  where
    by_test : (b : Bool) → p x ≡ b → (0 < count_by p xs → (y : _) × In y xs × (p y ≡ true)) → (y : _) × In y (x ∷ xs) × (p y ≡ true)
    by_test true e rest = (x, inl refl, e)
    by_test false e rest =
        let one : Bool → ℕ = λ b. cond b 1 0 in
        let here : count_by p (x ∷ xs) ≡ 0 + count_by p xs = sum_by-cons (λ x. cond (p x) 1 0) x xs ∙ ap (λ (n : ℕ). n + count_by p xs) (ap one e) in
        let r = rest (omega arith) in
        (r.0, inr r.1, r.2)

module _ (degree : ℕ) (nodes : List Node) (key : ℕ → List ℕ) (tree : IsTree degree nodes (held_configs nodes) key) where
  fits : (c : List ℕ) → In c (held_configs nodes) → length c ≡ degree
  fits c i = (held_place degree nodes key tree c (In-Contains c (held_configs nodes) i)).2

  pub leaves-counted : (q : ℕ) → q < length nodes → leaves_of (node_at nodes q).kind ≡ count_by (begins (key q)) (held_configs nodes)
  leaves-counted q l = by_kind (node_at nodes q).kind refl (tree.below q l)
    where
      by_kind : (k : Kind) → (node_at nodes q).kind ≡ k → IsBelow degree nodes (held_configs nodes) key (key q) k → leaves_of k ≡ count_by (begins (key q)) (held_configs nodes)
      by_kind (Inner first leaves) e below = below.2
      by_kind (Leaf config) e below =
          sym (ap (λ k. count_by (begins k) (held_configs nodes)) below.1
          ∙ one-counted (held_configs nodes) config degree (rising-list_set (leaf_configs nodes)) fits below.0 (list_set-In (leaf_configs nodes) config (leaf-In nodes q config l e)))

  module _ (place : ℕ) (within : place < length nodes) (short : length (key place) < degree) where
    child_there : (c : List ℕ) → In c (held_configs nodes) → begins (key place) c ≡ true → (q : ℕ) × (q < length nodes) × (key q ≡ get_or c (length (key place)) 0 ∷ key place)
    child_there c i h =
        let there = reached degree nodes key tree c (In-Contains c (held_configs nodes) i) (suc (length (key place))) (omega arith) in
        (there.0, there.1, there.2 ∙ ap (λ k. get_or c (length (key place)) 0 ∷ k) (sym (begins-is (key place) c h)))

    none : count_by (λ (c : List ℕ). false) (held_configs nodes) ≡ 0
    none = none_counted (λ c. false) (held_configs nodes) (λ x i h. false≢true h)

    pub first-rank : (first number : ℕ) → IsLink nodes key (key place) 0 first → number < count_by (begins (key place)) (held_configs nodes)
        → (0 < first) × (number + count_by (precedes (key first)) (held_configs nodes) ≡ number + count_by (precedes (key place)) (held_configs nodes))
    first-rank first number link less =
        let some = counted-some (begins (key place)) (held_configs nodes) (omega arith) in
        let there = child_there some.0 some.1 some.2 in
        let filled = (link.nearest there.0 (get_or some.0 (length (key place)) 0) there.1 there.2 (omega arith)).0 in
        let sums = counts-alike (precedes ((node_at nodes first).label ∷ key place)) (λ c. false) (precedes (key place)) (λ c. false) (held_configs nodes) (λ c i.
        first_same (key place) c (node_at nodes first).label (λ h. let q = child_there c i h in (link.nearest q.0 (get_or c (length (key place)) 0) q.1 q.2 (omega arith)).1)) in
        let on = ap (λ k. count_by (precedes k) (held_configs nodes)) (link.child filled).1 in
        (filled, omega arith)

    module _ (at : ℕ) (l : at < length nodes) (on : key at ≡ (node_at nodes at).label ∷ key place) where
      link : IsLink nodes key (key place) ((node_at nodes at).label + 1) (node_at nodes at).next
      link = tree.sibling at (key place) l on

      at_most : (c : List ℕ) → In c (held_configs nodes) → begins (key place) c ≡ true → (node_at nodes at).next ≡ 0 → get_or c (length (key place)) 0 ≤ (node_at nodes at).label
      at_most c i h last = elim (three_ways (node_at nodes at).label (get_or c (length (key place)) 0)) [
        | inl less ↦ absurd (let q = child_there c i h in let near = (link.nearest q.0 (get_or c (length (key place)) 0) q.1 q.2 (omega arith)).0 in omega arith)
        | inr (inl same) ↦ omega arith
        | inr (inr more) ↦ omega arith
      ]

      -- behind the last child nothing is left below the node
      pub last-rank : (node_at nodes at).next ≡ 0
          → count_by (precedes (key place)) (held_configs nodes) + count_by (begins (key place)) (held_configs nodes) ≡ count_by (precedes (key at)) (held_configs nodes) + count_by (begins (key at)) (held_configs nodes)
      last-rank last =
          let sums = counts-alike (precedes (key place)) (begins (key place)) (precedes ((node_at nodes at).label ∷ key place)) (begins ((node_at nodes at).label ∷ key place)) (held_configs nodes) (λ c i.
          last_same (key place) c (node_at nodes at).label (λ h. at_most c i h last)) in
          let before = ap (λ k. count_by (precedes k) (held_configs nodes)) on in
          let here = ap (λ k. count_by (begins k) (held_configs nodes)) on in
          omega arith

      -- the next child begins where this one ends
      pub after-rank : 0 < (node_at nodes at).next
          → count_by (precedes (key (node_at nodes at).next)) (held_configs nodes) ≡ count_by (precedes (key at)) (held_configs nodes) + count_by (begins (key at)) (held_configs nodes)
      after-rank some =
          let child = link.child some in
          let sums = counts-alike (precedes ((node_at nodes (node_at nodes at).next).label ∷ key place)) (λ c. false) (precedes ((node_at nodes at).label ∷ key place)) (begins ((node_at nodes at).label ∷ key place)) (held_configs nodes) (λ c i.
          next_same (key place) c (node_at nodes at).label (node_at nodes (node_at nodes at).next).label (let rise = child.0 in omega arith) (λ h more.
          let q = child_there c i h in (link.nearest q.0 (get_or c (length (key place)) 0) q.1 q.2 (omega arith)).1)) in
          let before = ap (λ k. count_by (precedes k) (held_configs nodes)) on in
          let here = ap (λ k. count_by (begins k) (held_configs nodes)) on in
          let behind = ap (λ k. count_by (precedes k) (held_configs nodes)) child.1 in
          let zero_more = none in
          omega arith

    pub next-rank : (at rest number : ℕ) → at < length nodes → key at ≡ (node_at nodes at).label ∷ key place → number < count_by (begins (key place)) (held_configs nodes)
        → rest + count_by (precedes (key at)) (held_configs nodes) ≡ number + count_by (precedes (key place)) (held_configs nodes) → leaves_of (node_at nodes at).kind ≤ rest
        → (0 < (node_at nodes at).next) × ((rest - leaves_of (node_at nodes at).kind) + count_by (precedes (key (node_at nodes at).next)) (held_configs nodes) ≡ number + count_by (precedes (key place)) (held_configs nodes))
    next-rank at rest number l on less rank most = elim (three_ways (node_at nodes at).next 0) [
      | inl none ↦ absurd (omega arith)
      | inr (inl last) ↦ absurd (let sums = last-rank at l on last in let leaves = leaves-counted at l in omega arith)
      | inr (inr some) ↦ let sums = after-rank at l on some in let leaves = leaves-counted at l in (some, omega arith)
    ]

  -- the leaf at the end of the way
  pub leaf-rank : (q number rest : ℕ) (config : List ℕ) → q < length nodes → (node_at nodes q).kind ≡ Leaf config → rest < leaves_of (node_at nodes q).kind
      → rest + count_by (precedes (key q)) (held_configs nodes) ≡ number → get_or (held_configs nodes) number [] ≡ config
  leaf-rank q number rest config l e less rank =
      let below : IsBelow degree nodes (held_configs nodes) key (key q) (Leaf config) = subst (IsBelow degree nodes (held_configs nodes) key (key q)) e (tree.below q l) in
      let one = ap leaves_of e in
      let on = ap (λ k. count_by (precedes k) (held_configs nodes)) below.1 in
      let place : number ≡ count_by (precedes (prefix config degree)) (held_configs nodes) = omega arith in
      ap (λ n. get_or (held_configs nodes) n []) place
      ∙ place-counted (held_configs nodes) config degree (rising-list_set (leaf_configs nodes)) fits below.0 (list_set-In (leaf_configs nodes) config (leaf-In nodes q config l e))

-- ---- the whole tree
all_counted : (configs : List (List ℕ)) → count_by (begins []) configs ≡ length configs
all_counted [] = refl
all_counted (c ∷ configs) = sum_by-cons (λ c. cond (begins [] c) 1 0) c configs ∙ ap (λ n. 1 + n) (all_counted configs) ∙ one_more (length configs)
  where
    one_more : (n : ℕ) → 1 + n ≡ suc n
    one_more n = omega arith

pub some-node : (nodes : List Node) (number : ℕ) → number < length (held_configs nodes) → 0 < length nodes
some-node [] number l = absurd (omega arith)
some-node (x ∷ nodes) number l = omega arith

pub root-leaves : (degree : ℕ) (nodes : List Node) (key : ℕ → List ℕ) → IsTree degree nodes (held_configs nodes) key → 0 < length nodes → leaves_of (node_at nodes 0).kind ≡ length (held_configs nodes)
root-leaves degree nodes key tree filled = leaves-counted degree nodes key tree 0 filled ∙ ap (λ k. count_by (begins k) (held_configs nodes)) tree.root ∙ all_counted (held_configs nodes)

pub root-rank : (degree : ℕ) (nodes : List Node) (key : ℕ → List ℕ) (number : ℕ) → IsTree degree nodes (held_configs nodes) key → number + count_by (precedes (key 0)) (held_configs nodes) ≡ number
root-rank degree nodes key number tree =
    let none : count_by (precedes (key 0)) (held_configs nodes) ≡ 0 = ap (λ k. count_by (precedes k) (held_configs nodes)) tree.root ∙ none_counted (precedes []) (held_configs nodes) (λ x i h. false≢true h) in
    omega arith

-- an inner node is above the leaves
pub inner-short : (degree : ℕ) (nodes : List Node) (configs : List (List ℕ)) (key : ℕ → List ℕ) (q first leaves : ℕ) → IsTree degree nodes configs key → q < length nodes → (node_at nodes q).kind ≡ Inner first leaves → length (key q) < degree
inner-short degree nodes configs key q first leaves tree l e =
    let below : IsBelow degree nodes configs key (key q) (Inner first leaves) = subst (IsBelow degree nodes configs key (key q)) e (tree.below q l) in below.0

-- some configuration lies at or below each node of a tree that has one
pub some-below : (degree : ℕ) (nodes : List Node) (key : ℕ → List ℕ) (q : ℕ) → IsTree degree nodes (held_configs nodes) key → q < length nodes → 0 < length (held_configs nodes) → 0 < count_by (begins (key q)) (held_configs nodes)
some-below degree nodes key zero tree l some =
    subst (λ n. 0 < n) (sym (ap (λ k. count_by (begins k) (held_configs nodes)) tree.root ∙ all_counted (held_configs nodes))) some
some-below degree nodes key (suc q) tree l some = tree.filled (suc q) (omega arith) l
