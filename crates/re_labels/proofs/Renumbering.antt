-- A prefix tree whose labels are renumbered in rising order is the prefix tree of the images of its configurations.
use Rattle.std.proofs.Common.{◌≡◌, ℕ, zero, suc, ◌<◌, ◌≤◌, ◌+◌, Bool, true, false, cond, List, [], ◌∷◌, ◌++◌, length, get_or, map, refl, sym, ap, ◌∙◌, subst, arith, inl, inr}
use Rattle.std.proofs.lemmas.List.{ext_get_or, get_or-map, map-append}
use Rattle.std.proofs.lemmas.List.Elements.{Contains-get_or}
use Rattle.std.proofs.lemmas.List.Sums.{sum_by-cons}
use Rattle.std.specs.List.{AllByRecursion}
use Rattle.std.specs.Prelude.{count_by}
use Rattle.re_labels.proofs.Sorting.{sorted_again}
use Rattle.re_labels.specs.Configs.{IsConfig, image_at, image_of}
use Rattle.re_labels.proofs.Before.{IsBefore-apart, IsBefore-cases, IsBefore-head, IsBefore-tail, three_ways}
use Rattle.re_labels.proofs.ListSets.{In-list_set, list_set-In, list_set_map, one_set, rising-list_set}
use Rattle.re_labels.proofs.Membership.{AllByRecursion-In, AllByRecursion-from_In, Contains-In, In, In-append_left, In-append_right, length-map', map-alike}
use Rattle.re_labels.proofs.Rising.{rising-map}
use Rattle.re_labels.specs.Lists.{IsBefore, IsRising}
use Rattle.re_labels.specs.ListSets.{list_set}
use Rattle.re_labels.proofs.ConstraintImages.{IsConstraint-image}
use Rattle.re_labels.proofs.TreeGrowth.{length-prefix}
use Rattle.re_labels.proofs.TreeLeaves.{leaf-In}
use Rattle.re_labels.proofs.TreeRanks.{begins-is, counted-some, is-begins}
use Rattle.re_labels.specs.Constraints.{IsConstraint, images_of}
use Rattle.re_labels.specs.declared.prefix_tree.Kind.{Kind}
use Rattle.re_labels.specs.declared.prefix_tree.Kind.TheVariants.{Inner, Leaf}
use Rattle.re_labels.specs.declared.prefix_tree.Node.{Node}
use Rattle.re_labels.specs.PrefixTrees.{IsBelow, IsLink, IsTable, IsTree, begins, bare_root, configs_of, held_configs, leaf_configs, node_at, prefix}
use Rattle.re_labels.specs.Renumbered.{kind_image, node_image}
use Rattle.re_labels.specs.declared.TheConstants.{MAX_LABELS}

-- ---- rising lists of numbers
rising-at : (xs : List ℕ) → IsRising (λ x y. x < y) xs → (i j : ℕ) → i < j → j < length xs → get_or xs i 0 < get_or xs j 0
rising-at [] h i j l m = absurd (omega arith)
rising-at (x ∷ []) h i j l m = absurd (omega arith)
rising-at (x ∷ y ∷ xs) h zero zero l m = absurd (omega arith)
rising-at (x ∷ y ∷ xs) h zero (suc zero) l m = h.0
rising-at (x ∷ y ∷ xs) h zero (suc (suc j)) l m = let more = rising-at (y ∷ xs) h.1 zero (suc j) (omega arith) (omega arith) in let here = h.0 in omega arith
rising-at (x ∷ y ∷ xs) h (suc i) zero l m = absurd (omega arith)
rising-at (x ∷ y ∷ xs) h (suc i) (suc j) l m = rising-at (y ∷ xs) h.1 i j (omega arith) (omega arith)

-- ---- lists of labels that have images
module _ (images : List ℕ) (rises : IsRising (λ x y. x < y) images) where
  abbrev Low : List ℕ → Type 0
  Low xs = (x : ℕ) → In x xs → x < length images

  mono : (x y : ℕ) → x < y → y < length images → image_at images x < image_at images y
  mono x y l m = rising-at images rises x y l m

  mono-back : (x y : ℕ) → x < length images → image_at images x < image_at images y → x < y
  mono-back x y l less = elim (three_ways x y) [
    | inl low ↦ low
    | inr (inl same) ↦ absurd (let e = ap (image_at images) same in omega arith)
    | inr (inr high) ↦ absurd (let more = mono y x high l in omega arith)
  ]

  same-image : (x y : ℕ) → x < length images → y < length images → image_at images x ≡ image_at images y → x ≡ y
  same-image x y l m e = elim (three_ways x y) [
    | inl low ↦ absurd (let more = mono x y low m in omega arith)
    | inr (inl same) ↦ same
    | inr (inr high) ↦ absurd (let more = mono y x high l in omega arith)
  ]

  same-images : (xs ys : List ℕ) → Low xs → Low ys → map (image_at images) xs ≡ map (image_at images) ys → xs ≡ ys
  same-images [] [] l m e = refl
  same-images [] (y ∷ ys) l m e = absurd (cc)
  same-images (x ∷ xs) [] l m e = absurd (cc)
  same-images (x ∷ xs) (y ∷ ys) l m e =
      let here : image_at images x ≡ image_at images y = cc in
      let rest : map (image_at images) xs ≡ map (image_at images) ys = cc in
      let first = same-image x y (l x (inl refl)) (m y (inl refl)) here in
      let more = same-images xs ys (λ z i. l z (inr i)) (λ z i. m z (inr i)) rest in
      (λ i. first i ∷ more i)

  before-images : (xs ys : List ℕ) → Low xs → Low ys → IsBefore xs ys → IsBefore (map (image_at images) xs) (map (image_at images) ys)
  before-images [] [] l m b = absurd (IsBefore-apart [] b)
  before-images [] (y ∷ ys) l m b = refl
  before-images (x ∷ xs) [] l m b = b
  before-images (x ∷ xs) (y ∷ ys) l m b = elim (IsBefore-cases x y xs ys b) [
    | inl less ↦ IsBefore-head (image_at images x) (image_at images y) (map (image_at images) xs) (map (image_at images) ys) (mono x y less (m y (inl refl)))
    | inr both ↦ IsBefore-tail (image_at images x) (image_at images y) (map (image_at images) xs) (map (image_at images) ys) (ap (image_at images) both.0)
        (before-images xs ys (λ z i. l z (inr i)) (λ z i. m z (inr i)) both.1)
  ]

  ascending-images : (xs : List ℕ) → Low xs → IsRising (λ x y. x ≤ y) xs → IsRising (λ x y. x ≤ y) (map (image_at images) xs)
  ascending-images xs low h = rising-map (λ x y. x ≤ y) (λ x y. x ≤ y) (image_at images) xs (λ x y i j l. at_most x y (low y j) l) h
    where
      at_most : (x y : ℕ) → y < length images → x ≤ y → image_at images x ≤ image_at images y
      at_most x y m l = elim (three_ways x y) [
        | inl less ↦ let more = mono x y less m in omega arith
        | inr (inl same) ↦ let e = ap (image_at images) same in omega arith
        | inr (inr more) ↦ absurd (omega arith)
      ]

  prefix-images : (c : List ℕ) (d : ℕ) → d ≤ length c → prefix (map (image_at images) c) d ≡ map (image_at images) (prefix c d)
  prefix-images c zero l = refl
  prefix-images c (suc d) l = let here = get_or-map (image_at images) c d 0 0 (omega arith) in let rest = prefix-images c d (omega arith) in (λ i. here i ∷ rest i)

  prefix-low : (c : List ℕ) (d : ℕ) → d ≤ length c → Low c → Low (prefix c d)
  prefix-low c zero l low x i = absurd i
  prefix-low c (suc d) l low x (inl e) = subst (λ y. y < length images) (sym e) (low (get_or c d 0) (Contains-In (get_or c d 0) c (Contains-get_or c d 0 (omega arith))))
  prefix-low c (suc d) l low x (inr i) = prefix-low c d (omega arith) low x i

  begins-images : (k c : List ℕ) → Low k → Low c → length k ≤ length c → begins (map (image_at images) k) (map (image_at images) c) ≡ begins k c
  begins-images k c low lows short = by_test (begins k c) refl
    where
      there : prefix (map (image_at images) c) (length (map (image_at images) k)) ≡ map (image_at images) (prefix c (length k))
      there = ap (prefix (map (image_at images) c)) (length-map' (image_at images) k) ∙ prefix-images c (length k) short

      by_image : (b : Bool) → begins (map (image_at images) k) (map (image_at images) c) ≡ b → begins k c ≡ false → b ≡ false
      by_image true e none =
          let same = begins-is (map (image_at images) k) (map (image_at images) c) e ∙ there in
          sym (is-begins k c (same-images k (prefix c (length k)) low (prefix-low c (length k) short lows) same)) ∙ none
      by_image false e none = refl

      by_test : (b : Bool) → begins k c ≡ b → begins (map (image_at images) k) (map (image_at images) c) ≡ begins k c
      by_test true e = is-begins (map (image_at images) k) (map (image_at images) c) (ap (map (image_at images)) (begins-is k c e) ∙ sym there) ∙ sym e
      by_test false e = by_image (begins (map (image_at images) k) (map (image_at images) c)) refl e ∙ sym e

  counts-images : (k : List ℕ) (cs : List (List ℕ)) → Low k → ((c : List ℕ) → In c cs → Low c × (length k ≤ length c))
      → count_by (begins (map (image_at images) k)) (map (map (image_at images)) cs) ≡ count_by (begins k) cs
  counts-images k [] low all = refl
  counts-images k (c ∷ cs) low all =
      let here = begins-images k c low (all c (inl refl)).0 (all c (inl refl)).1 in
      let rest = counts-images k cs low (λ z i. all z (inr i)) in
      sum_by-cons (λ c. cond (begins (map (image_at images) k) c) 1 0) (map (image_at images) c) (map (map (image_at images)) cs)
      ∙ (λ i. cond (here i) 1 0 + rest i) ∙ sym (sum_by-cons (λ c. cond (begins k c) 1 0) c cs)

  configs-image : (k : Kind) → configs_of (kind_image images k) ≡ map (image_of images) (configs_of k)
  configs-image (Inner first leaves) = refl
  configs-image (Leaf config) = refl

  leaves-images : (nodes : List Node) → leaf_configs (map (node_image images) nodes) ≡ map (image_of images) (leaf_configs nodes)
  leaves-images [] = refl
  leaves-images (node ∷ nodes) =
      let here = configs-image node.kind in let rest = leaves-images nodes in
      (λ i. here i ++ rest i) ∙ sym (map-append (image_of images) (configs_of node.kind) (leaf_configs nodes))

  -- ---- the tree
  module _ (degree : ℕ) (nodes : List Node) (key : ℕ → List ℕ) (tree : IsTree degree nodes (held_configs nodes) key)
      (configs : AllByRecursion (IsConfig degree MAX_LABELS) (held_configs nodes)) (known : AllByRecursion (AllByRecursion (λ label. label < length images)) (held_configs nodes)) where
    abbrev pub new : List Node
    new = map (node_image images) nodes

    low-config : (c : List ℕ) → In c (held_configs nodes) → Low c
    low-config c i x j = AllByRecursion-In (λ label. label < length images) c x (AllByRecursion-In (AllByRecursion (λ label. label < length images)) (held_configs nodes) c known i) j

    is-config : (c : List ℕ) → In c (held_configs nodes) → IsConfig degree MAX_LABELS c
    is-config c i = AllByRecursion-In (IsConfig degree MAX_LABELS) (held_configs nodes) c configs i

    image-same : (c : List ℕ) → In c (held_configs nodes) → image_of images c ≡ map (image_at images) c
    image-same c i = sorted_again (map (image_at images) c) (ascending-images c (low-config c i) (is-config c i).ascends)

    held-images : held_configs new ≡ map (map (image_at images)) (held_configs nodes)
    held-images =
        ap list_set (leaves-images nodes) ∙ sym (list_set_map (image_of images) (leaf_configs nodes))
        ∙ ap list_set (map-alike (image_of images) (map (image_at images)) (held_configs nodes) (λ c held. image-same c (Contains-In c (held_configs nodes) held)))
        ∙ one_set (list_set (map (map (image_at images)) (held_configs nodes))) (map (map (image_at images)) (held_configs nodes)) (rising-list_set (map (map (image_at images)) (held_configs nodes)))
        (rising-map IsBefore IsBefore (map (image_at images)) (held_configs nodes) (λ c d i j b. before-images c d (low-config c i) (low-config d j) b) (rising-list_set (leaf_configs nodes)))
        (λ z i. In-list_set (map (map (image_at images)) (held_configs nodes)) z i) (λ z i. list_set-In (map (map (image_at images)) (held_configs nodes)) z i)

    long : (q : ℕ) → q < length nodes → q < length new
    long q l = subst (λ n. q < n) (sym (length-map' (node_image images) nodes)) l

    short : (q : ℕ) → q < length new → q < length nodes
    short q l = subst (λ n. q < n) (length-map' (node_image images) nodes) l

    at : (q : ℕ) → q < length nodes → node_at new q ≡ node_image images (node_at nodes q)
    at q l = get_or-map (node_image images) nodes q bare_root bare_root l

    key-short : (q : ℕ) → q < length nodes → length (key q) ≤ degree
    key-short q l = by_kind (node_at nodes q).kind (tree.below q l)
      where
        by_kind : (k : Kind) → IsBelow degree nodes (held_configs nodes) key (key q) k → length (key q) ≤ degree
        by_kind (Inner first leaves) below = let less = below.0 in omega arith
        by_kind (Leaf config) below = let long = ap length below.1 ∙ length-prefix config degree in omega arith

    key-low : (q : ℕ) → q < length nodes → Low (key q)
    key-low zero l x i = absurd (subst (In x) tree.root i)
    key-low (suc q) l x i =
        let some = counted-some (begins (key (suc q))) (held_configs nodes) (tree.filled (suc q) (omega arith) l) in
        let fits = (is-config some.0 some.1).count in
        let deep = key-short (suc q) l in
        prefix-low some.0 (length (key (suc q))) (omega arith) (low-config some.0 some.1) x (subst (In x) (begins-is (key (suc q)) some.0 some.2) i)

    abbrev pub key-image : ℕ → List ℕ
    key-image q = map (image_at images) (key q)

    -- a child of a renumbered node is a child of the node
    child-back : (q label : ℕ) (above : List ℕ) → q < length nodes → Low above → key-image q ≡ label ∷ map (image_at images) above
        → (l : ℕ) × (key q ≡ l ∷ above) × (label ≡ image_at images l) × (l < length images)
    child-back zero label above l low e = absurd (let none = ap (map (image_at images)) (sym tree.root) ∙ e in cc)
    child-back (suc q) label above l low e =
        let up = tree.parent (suc q) (omega arith) l in
        let whole : image_at images (node_at nodes (suc q)).label ∷ map (image_at images) (key up.0) ≡ label ∷ map (image_at images) above = ap (map (image_at images)) (sym up.2) ∙ e in
        let first : image_at images (node_at nodes (suc q)).label ≡ label = cc in
        let rest : map (image_at images) (key up.0) ≡ map (image_at images) above = cc in
        let same = same-images (key up.0) above (key-low up.0 up.1) low rest in (
          (node_at nodes (suc q)).label,
          up.2 ∙ ap (λ k. (node_at nodes (suc q)).label ∷ k) same,
          sym first,
          key-low (suc q) l (node_at nodes (suc q)).label (subst (In (node_at nodes (suc q)).label) (sym up.2) (inl refl)),
        )

    link-image : (above : List ℕ) (least least' target : ℕ) → Low above → ((l : ℕ) → l < length images → least ≤ l → least' ≤ image_at images l) → ((l : ℕ) → l < length images → least' ≤ image_at images l → least ≤ l)
        → IsLink nodes key above least target → IsLink new key-image (map (image_at images) above) least' target
    link-image above least least' target low to back link = record {
      within = long target link.within;
      child = λ some.
          let child = link.child some in
          let label = ap (λ (n : Node). n.label) (at target link.within) in
          let known = key-low target link.within (node_at nodes target).label (subst (In (node_at nodes target).label) (sym child.1) (inl refl)) in
          (subst (λ l. least' ≤ l) (sym label) (to (node_at nodes target).label known child.0), ap (map (image_at images)) child.1 ∙ ap (λ l. l ∷ map (image_at images) above) (sym label));
      nearest = λ q label l e h.
          let there = child-back q label above (short q l) low e in
          let near = link.nearest q there.0 (short q l) there.1 (back there.0 there.3 (subst (λ n. least' ≤ n) there.2 h)) in
          let child = link.child near.0 in
          let read = ap (λ (n : Node). n.label) (at target link.within) in
          let known = key-low target link.within (node_at nodes target).label (subst (In (node_at nodes target).label) (sym child.1) (inl refl)) in
          (near.0, subst (λ n. n ≤ label) (sym read) (subst (λ n. image_at images (node_at nodes target).label ≤ n) (sym there.2) (at_most (node_at nodes target).label there.0 there.3 near.1)));
    }
      where
        at_most : (x y : ℕ) → y < length images → x ≤ y → image_at images x ≤ image_at images y
        at_most x y m l = elim (three_ways x y) [
          | inl less ↦ let more = mono x y less m in omega arith
          | inr (inl same) ↦ let e = ap (image_at images) same in omega arith
          | inr (inr more) ↦ absurd (omega arith)
        ]

    below-image : (q : ℕ) → q < length nodes → (k : Kind) → (node_at nodes q).kind ≡ k → IsBelow degree nodes (held_configs nodes) key (key q) k → IsBelow degree new (held_configs new) key-image (key-image q) (kind_image images k)
    below-image q l (Inner first leaves) e below = (
      subst (λ n. n < degree) (sym (length-map' (image_at images) (key q))) below.0,
      link-image (key q) 0 0 first (key-low q l) (λ x m h. omega arith) (λ x m h. omega arith) below.1,
      below.2 ∙ sym (ap (count_by (begins (key-image q))) held-images
          ∙ counts-images (key q) (held_configs nodes) (key-low q l) (λ c i. (low-config c i, (let fits = (is-config c i).count in let deep = key-short q l in omega arith)))),
    )
    below-image q l (Leaf config) e below =
        let held = list_set-In (leaf_configs nodes) config (leaf-In nodes q config l e) in
        let same = image-same config held in (
          ap length same ∙ length-map' (image_at images) config ∙ below.0,
          ap (map (image_at images)) below.1 ∙ sym (prefix-images config degree (omega (arith, below.0))) ∙ ap (λ c. prefix c degree) (sym same),
        )

    pub renumbered-tree : ((x : ℕ) → image_at images x < MAX_LABELS) → IsTree degree new (held_configs new) key-image
    renumbered-tree narrow = record {
      root = ap (map (image_at images)) tree.root;
      narrow = λ q l. subst (λ (n : Node). n.label < MAX_LABELS) (sym (at q (short q l))) (narrow (node_at nodes q).label);
      apart = λ p q l m e. tree.apart p q (short p l) (short q m) (same-images (key p) (key q) (key-low p (short p l)) (key-low q (short q m)) e);
      parent = λ q some l.
          let up = tree.parent q some (short q l) in
          (up.0, long up.0 up.1, ap (map (image_at images)) up.2 ∙ ap (λ (n : Node). n.label ∷ key-image up.0) (sym (at q (short q l))), ap (λ (n : Node). n.parent) (at q (short q l)) ∙ up.3);
      sibling = λ q above l e. sibling-image q above (short q l) e;
      below = λ q l. subst (λ (n : Node). IsBelow degree new (held_configs new) key-image (key-image q) n.kind) (sym (at q (short q l)))
          (below-image q (short q l) (node_at nodes q).kind refl (tree.below q (short q l)));
      filled = λ q some l.
          subst (λ n. 0 < n) (sym (ap (count_by (begins (key-image q))) held-images
          ∙ counts-images (key q) (held_configs nodes) (key-low q (short q l)) (λ c i. (low-config c i, (let fits = (is-config c i).count in let deep = key-short q (short q l) in omega arith)))))
          (tree.filled q some (short q l));
    }
      where
        sibling-image : (q : ℕ) (above : List ℕ) → q < length nodes → key-image q ≡ (node_at new q).label ∷ above → IsLink new key-image above ((node_at new q).label + 1) (node_at new q).next
        sibling-image zero above l e = absurd (let none = ap (map (image_at images)) (sym tree.root) ∙ e in cc)
        sibling-image (suc q) above l e =
            let up = tree.parent (suc q) (omega arith) l in
            let label = (node_at nodes (suc q)).label in
            let known = key-low (suc q) l label (subst (In label) (sym up.2) (inl refl)) in
            let read : (node_at new (suc q)).label ≡ image_at images label = ap (λ (n : Node). n.label) (at (suc q) l) in
            let next : (node_at new (suc q)).next ≡ (node_at nodes (suc q)).next = ap (λ (n : Node). n.next) (at (suc q) l) in
            let whole : image_at images label ∷ map (image_at images) (key up.0) ≡ (node_at new (suc q)).label ∷ above = ap (map (image_at images)) (sym up.2) ∙ e in
            let rest : map (image_at images) (key up.0) ≡ above = cc in
            let link = link-image (key up.0) (label + 1) (image_at images label + 1) (node_at nodes (suc q)).next (key-low up.0 up.1)
            (λ x m h. let more = mono label x (omega arith) m in omega arith) (λ x m h. let more = mono-back label x known (omega arith) in omega arith)
            (tree.sibling (suc q) (key up.0) l up.2) in
            subst (λ a. IsLink new key-image a ((node_at new (suc q)).label + 1) (node_at new (suc q)).next) rest
            (subst (λ n. IsLink new key-image (map (image_at images) (key up.0)) (n + 1) (node_at new (suc q)).next) (sym read)
            (subst (IsLink new key-image (map (image_at images) (key up.0)) (image_at images label + 1)) (sym next) link))

    pub renumbered-table : (most : ℕ) → IsTable degree most nodes → ((x : ℕ) → image_at images x < MAX_LABELS) → IsTable degree most new
    renumbered-table most table narrow =
        let held : length (held_configs new) ≡ length (held_configs nodes) = ap length held-images ∙ length-map' (map (image_at images)) (held_configs nodes) in
        let leaf : length (leaf_configs new) ≡ length (leaf_configs nodes) = ap length (leaves-images nodes) ∙ length-map' (image_of images) (leaf_configs nodes) in
        let all : length new ≡ length nodes = length-map' (node_image images) nodes in
        let once = table.once in
        let few = table.few in
        let small = table.small in
        record {
          tree = (key-image, renumbered-tree narrow);
          once = omega arith;
          few = omega arith;
          small = omega arith;
        }

    -- the images of the configurations
    pub renumbered-configs : held_configs new ≡ list_set (map (image_of images) (held_configs nodes))
    renumbered-configs = ap list_set (leaves-images nodes) ∙ sym (list_set_map (image_of images) (leaf_configs nodes))

-- ---- node by node
-- what holds of the leaves holds of each
pub leaf-known : (P : List ℕ → Type 0) (nodes : List Node) (q : ℕ) → q < length nodes → AllByRecursion P (leaf_configs nodes) → AllByRecursion P (configs_of (node_at nodes q).kind)
leaf-known P [] q l all = absurd (omega arith)
leaf-known P (node ∷ nodes) zero l all = AllByRecursion-from_In P (configs_of node.kind) (λ x i. AllByRecursion-In P (leaf_configs (node ∷ nodes)) x all (In-append_left x (configs_of node.kind) (leaf_configs nodes) i))
leaf-known P (node ∷ nodes) (suc q) l all =
    leaf-known P nodes q (omega arith) (AllByRecursion-from_In P (leaf_configs nodes) (λ x i. AllByRecursion-In P (leaf_configs (node ∷ nodes)) x all (In-append_right x (configs_of node.kind) (leaf_configs nodes) i)))

pub all-imaged : (images : List ℕ) (nodes new : List Node) → length new ≡ length nodes → ((q : ℕ) → q < length nodes → node_at new q ≡ node_image images (node_at nodes q)) → new ≡ map (node_image images) nodes
all-imaged images nodes new same each =
    ext_get_or bare_root new (map (node_image images) nodes) (same ∙ sym (length-map' (node_image images) nodes))
    (λ q l. each q (omega arith) ∙ sym (get_or-map (node_image images) nodes q bare_root bare_root (omega arith)))

-- ---- the whole constraint
image-low : (images : List ℕ) (x : ℕ) → AllByRecursion (λ image. image < MAX_LABELS) images → image_at images x < MAX_LABELS
image-low images x all = elim (three_ways x (length images)) [
  | inl less ↦ AllByRecursion-In (λ image. image < MAX_LABELS) images (get_or images x 0) all (Contains-In (get_or images x 0) images (Contains-get_or images x 0 less))
  | inr (inl same) ↦ subst (λ n. n < MAX_LABELS) (sym (get_or-past images x (omega arith))) (omega arith)
  | inr (inr more) ↦ subst (λ n. n < MAX_LABELS) (sym (get_or-past images x (omega arith))) (omega arith)
]
  where
    get_or-past : (xs : List ℕ) (i : ℕ) → length xs ≤ i → get_or xs i 0 ≡ 0
    get_or-past [] i l = refl
    get_or-past (x ∷ xs) zero l = absurd (omega arith)
    get_or-past (x ∷ xs) (suc i) l = get_or-past xs i (omega arith)

module _ (images : List ℕ) (degree most : ℕ) (nodes written : List Node) (rises : IsRising (λ x y. x < y) images) (below : AllByRecursion (λ image. image < MAX_LABELS) images)
    (known : AllByRecursion (AllByRecursion (λ label. label < length images)) (held_configs nodes)) (is : IsConstraint MAX_LABELS (record { degree = degree; configs = held_configs nodes }))
    (all : written ≡ map (node_image images) nodes) where
  pub renumbered-held : held_configs written ≡ images_of images (record { degree = degree; configs = held_configs nodes })
  renumbered-held = ap held_configs all ∙ ap list_set (leaves-images images rises nodes) ∙ sym (list_set_map (image_of images) (leaf_configs nodes))

  pub renumbered : IsTable degree most nodes → IsTable degree most written × IsConstraint MAX_LABELS (record { degree = degree; configs = held_configs written })
  renumbered table = (
    subst (IsTable degree most) (sym all) (renumbered-table images rises degree nodes table.tree.0 table.tree.1 is.configs known most table (λ x. image-low images x below)),
    subst (λ l. IsConstraint MAX_LABELS (record { degree = degree; configs = l })) (sym renumbered-held)
        (IsConstraint-image images (record { degree = degree; configs = held_configs nodes }) MAX_LABELS MAX_LABELS is (λ config x i j. image-low images x below)),
  )
