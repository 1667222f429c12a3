-- The labels of a prefix tree's nodes are those of its configurations.
use Rattle.std.proofs.Common.{◌≡◌, ℕ, suc, ◌<◌, ◌≤◌, ◌+◌, Bool, true, false, ◌||◌, eqb, List, ◌∷◌, length, get_or, refl, sym, ap, ◌∙◌, subst, arith, inl, inr}
use Rattle.std.specs.List.{list_any}
use Rattle.std.specs.Prelude.{Contains, ◌↔◌, IsTrue}
use Rattle.std.proofs.lemmas.List.{get_or_default}
use Rattle.std.proofs.lemmas.List.Elements.{Contains-get_or}
use Rattle.re_labels.proofs.Before.{three_ways}
use Rattle.re_labels.proofs.Membership.{In-Contains, any_found, any_true}
use Rattle.re_labels.proofs.Sets.{IsIn-has, has-IsIn, has-with_label}
use Rattle.re_labels.proofs.Tests.{eqb-same, eqb-true}
use Rattle.re_labels.specs.Sets.{has, with_label}
use Rattle.re_labels.proofs.TreeGrowth.{length-prefix}
use Rattle.re_labels.proofs.TreeLeaves.{held_place, reached}
use Rattle.re_labels.proofs.TreeRanks.{begins-is, counted-some}
use Rattle.re_labels.specs.declared.prefix_tree.Kind.{Kind}
use Rattle.re_labels.specs.declared.prefix_tree.Kind.TheVariants.{Inner, Leaf}
use Rattle.re_labels.specs.declared.prefix_tree.Node.{Node}
use Rattle.re_labels.specs.PrefixTrees.{IsBelow, IsTree, begins, held_configs, node_at, prefix}

-- the label of one of the nodes between the root and this place
abbrev pub IsLabelBefore : List Node → ℕ → ℕ → Type 0
IsLabelBefore nodes place label = (q : ℕ) × (0 < q) × (q < place) × ((node_at nodes q).label ≡ label)

module _ (degree : ℕ) (nodes : List Node) (key : ℕ → List ℕ) (tree : IsTree degree nodes (held_configs nodes) key) where
  key-short : (q : ℕ) → q < length nodes → length (key q) ≤ degree
  key-short q l = by_kind (node_at nodes q).kind (tree.below q l)
    where
      by_kind : (k : Kind) → IsBelow degree nodes (held_configs nodes) key (key q) k → length (key q) ≤ degree
      by_kind (Inner first leaves) below = let less = below.0 in omega arith
      by_kind (Leaf config) below = let long = ap length below.1 ∙ length-prefix config degree in omega arith

  -- the label of a node stands in a configuration
  node-held : (q : ℕ) → 0 < q → q < length nodes → (config : List ℕ) × Contains (held_configs nodes) config × (has config (node_at nodes q).label ≡ true)
  node-held q some l =
      let up = tree.parent q some l in
      let found = counted-some (begins (key q)) (held_configs nodes) (tree.filled q some l) in
      let held = In-Contains found.0 (held_configs nodes) found.1 in
      let fits = (held_place degree nodes key tree found.0 held).2 in
      let deep = key-short q l in
      let long : length (key q) ≡ suc (length (key up.0)) = ap length up.2 in
      let whole : (node_at nodes q).label ∷ key up.0 ≡ prefix found.0 (suc (length (key up.0))) =
      sym up.2 ∙ begins-is (key q) found.0 found.2 ∙ ap (prefix found.0) long in
      let label : get_or found.0 (length (key up.0)) 0 ≡ (node_at nodes q).label = cc in
      (found.0, held, IsIn-has found.0 (node_at nodes q).label (subst (Contains found.0) label (Contains-get_or found.0 (length (key up.0)) 0 (omega arith))))

  -- each label of a configuration is that of a node
  held-node : (config : List ℕ) (label : ℕ) → Contains (held_configs nodes) config → has config label ≡ true → IsLabelBefore nodes (length nodes) label
  held-node config label held h =
      let at = has-IsIn config label h in
      let fits = (held_place degree nodes key tree config held).2 in
      let there = reached degree nodes key tree config held (suc at.0) (omega (arith, at.1)) in
      let some : 0 < there.0 = elim (three_ways there.0 0) [
        | inl less ↦ omega arith
        | inr (inl none) ↦ absurd (let empty = tree.root in let e : key 0 ≡ prefix config (suc at.0) = ap key (sym none) ∙ there.2 in cc)
        | inr (inr more) ↦ more
      ] in
      let up = tree.parent there.0 some there.1 in
      let whole : (node_at nodes there.0).label ∷ key up.0 ≡ get_or config at.0 0 ∷ prefix config at.0 = sym up.2 ∙ there.2 in
      let same : (node_at nodes there.0).label ≡ get_or config at.0 0 = cc in
      (there.0, some, there.1, same ∙ get_or_default config at.0 0 label at.1 ∙ at.2)

  pub labels-held : (labels : List ℕ) → ((label : ℕ) → IsTrue (has labels label) ↔ IsLabelBefore nodes (length nodes) label) → (label : ℕ) → has labels label ≡ list_any (λ config. has config label) (held_configs nodes)
  labels-held labels each label = by (has labels label) (list_any (λ config. has config label) (held_configs nodes)) refl refl
    where
      to : has labels label ≡ true → list_any (λ config. has config label) (held_configs nodes) ≡ true
      to h =
          let q = (each label).0 h in
          let there = node-held q.0 q.1 q.2 in
          any_true (λ config. has config label) (held_configs nodes) there.0 there.1 (ap (has there.0) (sym q.3) ∙ there.2)

      back : list_any (λ config. has config label) (held_configs nodes) ≡ true → has labels label ≡ true
      back h = let there = any_found (λ config. has config label) (held_configs nodes) h in (each label).1 (held-node there.0 label there.1 there.2)

      by : (a b : Bool) → has labels label ≡ a → list_any (λ config. has config label) (held_configs nodes) ≡ b → has labels label ≡ list_any (λ config. has config label) (held_configs nodes)
      by true b e f = e ∙ sym (to e)
      by false true e f = back f ∙ sym f
      by false false e f = e ∙ sym f

-- one node more
pub labels-more : (nodes : List Node) (place : ℕ) (all more : List ℕ) (label : ℕ) → 0 < place → (node_at nodes place).label ≡ label → more ≡ with_label all label
    → ((x : ℕ) → IsTrue (has all x) ↔ IsLabelBefore nodes place x) → (x : ℕ) → IsTrue (has more x) ↔ IsLabelBefore nodes (place + 1) x
labels-more nodes place all more label some here is before x = (to, back)
  where
    or_yes : (b : Bool) → (b || true) ≡ true
    or_yes true = refl
    or_yes false = refl

    read : has more x ≡ (eqb label x || has all x)
    read = ap (λ s. has s x) is ∙ has-with_label all label x

    to : IsTrue (has more x) → IsLabelBefore nodes (place + 1) x
    to h = by (eqb label x) refl
      where
        by : (b : Bool) → eqb label x ≡ b → IsLabelBefore nodes (place + 1) x
        by true e = (place, some, omega arith, here ∙ eqb-true label x e)
        by false e = let q = (before x).0 (sym (ap (λ b. b || has all x) e) ∙ sym read ∙ h) in (q.0, q.1, omega (arith, q.2), q.3)

    back : IsLabelBefore nodes (place + 1) x → IsTrue (has more x)
    back q = read ∙ elim (three_ways q.0 place) [
      | inl less ↦ ap (λ b. eqb label x || b) ((before x).1 (q.0, q.1, less, q.3)) ∙ or_yes (eqb label x)
      | inr (inl same) ↦ ap (λ b. b || has all x) (ap (λ y. eqb y x) (sym here ∙ ap (λ p. (node_at nodes p).label) (sym same) ∙ q.3) ∙ eqb-same x)
      | inr (inr above) ↦ absurd (let low = q.2 in omega arith)
    ]
