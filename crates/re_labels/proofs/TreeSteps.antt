-- What was written makes the prefix tree grow by the configuration.
use Rattle.std.proofs.Common.{◌≡◌, ℕ, zero, suc, ◌<◌, ◌≤◌, ◌+◌, ◌-◌, ◌==◌, Bool, true, false, cond, eqb, List, [], ◌∷◌, ◌++◌, length, get_or, set, take, drop, refl, sym, ap, ◌∙◌, subst, arith, inl, inr, ◌⊎◌, zero-add, add_comm, add_assoc, append-nil, append_assoc, length-append}
use Rattle.std.proofs.Math.ListN.{length-set}
use Rattle.std.proofs.Math.Seq.{get_or-append_seam, take-append_seam}
use Rattle.std.proofs.lemmas.List.{map-append, take_more, get_or-append-add, get_or-set_same, get_or-set_other, get_or_append_left, get_or_default, get_or_past}
use Rattle.std.proofs.lemmas.List.Sums.{count_by-le-length, sum_by-cons}
use Rattle.std.specs.Prelude.{Contains, count_by, map}
use Rattle.re_labels.proofs.Before.{same_list-same, three_ways}
use Rattle.re_labels.proofs.ListSets.{cases_of, list_set_push}
use Rattle.std.proofs.lemmas.List.Elements.{Contains-get_or}
use Rattle.re_labels.specs.Configs.{IsConfig}
use Rattle.re_labels.proofs.Membership.{AllByRecursion-contains, In, In-Contains}
use Rattle.re_labels.proofs.Tests.{eqb-apart, eqb-same, eqb-true}
use Rattle.re_labels.specs.ListSets.{list_set, with_list}
use Rattle.re_labels.proofs.TreeChanges.{length-new_inners, with_leaves-none}
use Rattle.re_labels.proofs.TreeGrowth.{IsTree-grown, begins-own, grown_key, none_counted, off_way, prefix_apart}
use Rattle.re_labels.proofs.PlacesUp.{length-places_up, up_same, up_way}
use Rattle.re_labels.proofs.TreeLeaves.{gap-new, reached}
use Rattle.re_labels.specs.declared.prefix_tree.Kind.{Kind}
use Rattle.re_labels.specs.declared.prefix_tree.Kind.TheVariants.{Inner, Leaf}
use Rattle.re_labels.specs.declared.prefix_tree.Node.{Node}
use Rattle.re_labels.specs.PrefixTrees.{IsBelow, IsPrefixTree, IsTable, IsTree, bare_root, begins, configs_of, held_configs, leaf_configs, leaves_of, node_at, prefix}
use Rattle.re_labels.specs.TreeGrowth.{IsFound, IsGrown, IsLastLeaf, IsNewNode, linked, new_inner, new_inners, new_leaf, places_up, way_nodes, with_first, with_leaves}
use Rattle.re_labels.specs.declared.TheConstants.{MAX_LABELS}

-- ---- the new nodes in their order
inner_at : (config : List ℕ) (depth parent after start count k : ℕ) → k < count → node_at (new_inners config depth parent after start count) k ≡ new_inner config depth parent after start k
inner_at config depth parent after start zero k l = absurd (omega arith)
inner_at config depth parent after start (suc count) k l = elim (three_ways k count) [
  | inl less ↦
      let within : k < length (new_inners config depth parent after start count) = subst (λ n. k < n) (sym (length-new_inners config depth parent after start count)) less in
      get_or_append_left (new_inners config depth parent after start count) (new_inner config depth parent after start count ∷ []) bare_root k within ∙ inner_at config depth parent after start count k less
  | inr (inl same) ↦
      (λ i. node_at (new_inners config depth parent after start count ++ new_inner config depth parent after start count ∷ []) ((same ∙ sym (length-new_inners config depth parent after start count)) i))
      ∙ get_or-append_seam (new_inners config depth parent after start count) (new_inner config depth parent after start count) [] bare_root ∙ ap (new_inner config depth parent after start) (sym same)
  | inr (inr more) ↦ absurd (omega arith)
]

module _ (config : List ℕ) (depth parent after start : ℕ) (inside : depth < length config) where
  pub length-way_nodes : length (way_nodes config depth parent after start) + depth ≡ length config
  length-way_nodes =
      let inners = length-new_inners config depth parent after start (length config - depth - 1) in
      let whole = length-append (new_inners config depth parent after start (length config - depth - 1)) (new_leaf config depth parent after start (length config - depth - 1) ∷ []) in
      omega arith

  way_inner : (k : ℕ) → depth + k + 1 < length config → node_at (way_nodes config depth parent after start) k ≡ new_inner config depth parent after start k
  way_inner k l =
      let inners = length-new_inners config depth parent after start (length config - depth - 1) in
      get_or_append_left (new_inners config depth parent after start (length config - depth - 1)) (new_leaf config depth parent after start (length config - depth - 1) ∷ []) bare_root k (omega arith)
      ∙ inner_at config depth parent after start (length config - depth - 1) k (omega arith)

  way_leaf : (k : ℕ) → depth + k + 1 ≡ length config → node_at (way_nodes config depth parent after start) k ≡ new_leaf config depth parent after start k
  way_leaf k e =
      let last : length config - depth - 1 ≡ k = omega arith in
      let inners = length-new_inners config depth parent after start (length config - depth - 1) in
      let at : k ≡ length (new_inners config depth parent after start (length config - depth - 1)) = omega arith in
      ap (node_at (way_nodes config depth parent after start)) at
      ∙ get_or-append_seam (new_inners config depth parent after start (length config - depth - 1)) (new_leaf config depth parent after start (length config - depth - 1)) [] bare_root
      ∙ ap (new_leaf config depth parent after start) last

-- a way with the leaf alone
pub way-leaf : (config : List ℕ) (last parent start : ℕ) → last + 1 ≡ length config → way_nodes config last parent 0 start ≡ record { label = get_or config last 0; next = 0; parent = parent; kind = Leaf config } ∷ []
way-leaf config last parent start long =
    let none : length config - last - 1 ≡ 0 = omega (arith, long) in
    let same : last + 0 ≡ last = omega arith in
    let first : eqb 0 0 ≡ true = eqb-same 0 in
    ap (λ k. new_inners config last parent 0 start k ++ new_leaf config last parent 0 start k ∷ []) none
    ∙ (λ i. record { label = get_or config (same i) 0; next = cond (first i) 0 0; parent = cond (first i) parent (start + 0 - 1); kind = Leaf config } ∷ [])

-- ---- the link
module _ (nodes : List Node) (parent before start : ℕ) (parent_within : parent < length nodes) (before_within : before < length nodes) where
  below_parent : Node
  below_parent = record (node_at nodes parent) { kind = with_first (node_at nodes parent).kind start }

  linked-first : before ≡ 0 → linked nodes parent before start ≡ set nodes parent (record (node_at nodes parent) { kind = with_first (node_at nodes parent).kind start })
  linked-first none =
      let test : eqb before 0 ≡ true = ap (λ b. eqb b 0) none ∙ eqb-same 0 in
      ap (λ b. cond b (set nodes parent (record (node_at nodes parent) { kind = with_first (node_at nodes parent).kind start })) (set nodes before (record (node_at nodes before) { next = start }))) test

  linked-behind : 0 < before → linked nodes parent before start ≡ set nodes before (record (node_at nodes before) { next = start })
  linked-behind some =
      let test : eqb before 0 ≡ false = eqb-apart before 0 (λ e. omega arith) in
      ap (λ b. cond b (set nodes parent (record (node_at nodes parent) { kind = with_first (node_at nodes parent).kind start })) (set nodes before (record (node_at nodes before) { next = start }))) test

  by_before : (before ≡ 0) ⊎ (0 < before)
  by_before = elim (three_ways before 0) [ inl less ↦ inr (omega arith) | inr (inl same) ↦ inl same | inr (inr more) ↦ inr more ]

  by_place : (p q : ℕ) → (q ≡ p) ⊎ (q ≡ p → ⊥)
  by_place p q = elim (three_ways q p) [ inl less ↦ inr (λ e. omega arith) | inr (inl same) ↦ inl same | inr (inr more) ↦ inr (λ e. omega arith) ]

  pub length-linked : length (linked nodes parent before start) ≡ length nodes
  length-linked = elim by_before [
    | inl none ↦ ap length (linked-first none) ∙ length-set nodes parent (record (node_at nodes parent) { kind = with_first (node_at nodes parent).kind start })
    | inr some ↦ ap length (linked-behind some) ∙ length-set nodes before (record (node_at nodes before) { next = start })
  ]

  -- the node at q after the link, by what was linked
  first_same : before ≡ 0 → (q : ℕ) → q ≡ parent → node_at (linked nodes parent before start) q ≡ record (node_at nodes parent) { kind = with_first (node_at nodes parent).kind start }
  first_same none q e = (λ i. node_at (linked-first none i) (e i)) ∙ get_or-set_same nodes parent (record (node_at nodes parent) { kind = with_first (node_at nodes parent).kind start }) bare_root parent_within

  first_other : before ≡ 0 → (q : ℕ) → (q ≡ parent → ⊥) → node_at (linked nodes parent before start) q ≡ node_at nodes q
  first_other none q apart = ap (λ l. node_at l q) (linked-first none) ∙ get_or-set_other nodes parent q (record (node_at nodes parent) { kind = with_first (node_at nodes parent).kind start }) bare_root apart

  behind_same : 0 < before → (q : ℕ) → q ≡ before → node_at (linked nodes parent before start) q ≡ record (node_at nodes before) { next = start }
  behind_same some q e = (λ i. node_at (linked-behind some i) (e i)) ∙ get_or-set_same nodes before (record (node_at nodes before) { next = start }) bare_root before_within

  behind_other : 0 < before → (q : ℕ) → (q ≡ before → ⊥) → node_at (linked nodes parent before start) q ≡ node_at nodes q
  behind_other some q apart = ap (λ l. node_at l q) (linked-behind some) ∙ get_or-set_other nodes before q (record (node_at nodes before) { next = start }) bare_root apart

  pub linked-label : (q : ℕ) → (node_at (linked nodes parent before start) q).label ≡ (node_at nodes q).label
  linked-label q = elim by_before [
    | inl none ↦ elim (by_place parent q) [
      | inl same ↦ ap (λ (n : Node). n.label) (first_same none q same) ∙ ap (λ p. (node_at nodes p).label) (sym same)
      | inr apart ↦ ap (λ (n : Node). n.label) (first_other none q apart)
    ]
    | inr some ↦ elim (by_place before q) [
      | inl same ↦ ap (λ (n : Node). n.label) (behind_same some q same) ∙ ap (λ p. (node_at nodes p).label) (sym same)
      | inr apart ↦ ap (λ (n : Node). n.label) (behind_other some q apart)
    ]
  ]

  pub linked-parent : (q : ℕ) → (node_at (linked nodes parent before start) q).parent ≡ (node_at nodes q).parent
  linked-parent q = elim by_before [
    | inl none ↦ elim (by_place parent q) [
      | inl same ↦ ap (λ (n : Node). n.parent) (first_same none q same) ∙ ap (λ p. (node_at nodes p).parent) (sym same)
      | inr apart ↦ ap (λ (n : Node). n.parent) (first_other none q apart)
    ]
    | inr some ↦ elim (by_place before q) [
      | inl same ↦ ap (λ (n : Node). n.parent) (behind_same some q same) ∙ ap (λ p. (node_at nodes p).parent) (sym same)
      | inr apart ↦ ap (λ (n : Node). n.parent) (behind_other some q apart)
    ]
  ]

  pub linked-next_at : 0 < before → (node_at (linked nodes parent before start) before).next ≡ start
  linked-next_at some = ap (λ (n : Node). n.next) (behind_same some before refl)

  pub linked-next : (q : ℕ) → (0 < before → q ≡ before → ⊥) → (node_at (linked nodes parent before start) q).next ≡ (node_at nodes q).next
  linked-next q apart = elim by_before [
    | inl none ↦ elim (by_place parent q) [
      | inl same ↦ ap (λ (n : Node). n.next) (first_same none q same) ∙ ap (λ p. (node_at nodes p).next) (sym same)
      | inr other ↦ ap (λ (n : Node). n.next) (first_other none q other)
    ]
    | inr some ↦ ap (λ (n : Node). n.next) (behind_other some q (apart some))
  ]

  pub linked-kind_at : before ≡ 0 → (q : ℕ) → q ≡ parent → (node_at (linked nodes parent before start) q).kind ≡ with_first (node_at nodes q).kind start
  linked-kind_at none q same = ap (λ (n : Node). n.kind) (first_same none q same) ∙ ap (λ p. with_first (node_at nodes p).kind start) (sym same)

  pub linked-kind : (q : ℕ) → (before ≡ 0 → q ≡ parent → ⊥) → (node_at (linked nodes parent before start) q).kind ≡ (node_at nodes q).kind
  linked-kind q apart = elim by_before [
    | inl none ↦ ap (λ (n : Node). n.kind) (first_other none q (apart none))
    | inr some ↦ elim (by_place before q) [
      | inl same ↦ ap (λ (n : Node). n.kind) (behind_same some q same) ∙ ap (λ p. (node_at nodes p).kind) (sym same)
      | inr other ↦ ap (λ (n : Node). n.kind) (behind_other some q other)
    ]
  ]

  -- whether the first child of the place is another one
  pub by_link : (q : ℕ) → ((before ≡ 0) × (q ≡ parent)) ⊎ (before ≡ 0 → q ≡ parent → ⊥)
  by_link q = elim by_before [
    | inl none ↦ elim (by_place parent q) [ inl same ↦ inl (none, same) | inr apart ↦ inr (λ _. apart) ]
    | inr some ↦ inr (λ none same. omega arith)
  ]

-- ---- the places on the way
-- a test that holds at one place alone counts 1
once_counted : (p : ℕ → Bool) (xs : List ℕ) (j : ℕ) → j < length xs → p (get_or xs j 0) ≡ true → ((i : ℕ) → i < length xs → p (get_or xs i 0) ≡ true → i ≡ j) → count_by p xs ≡ 1
once_counted p [] j l e one = absurd (omega arith)
once_counted p (x ∷ xs) zero l e one =
    let number : Bool → ℕ = λ b. cond b 1 0 in
    sum_by-cons (λ x. cond (p x) 1 0) x xs ∙ (λ i. number (e i) + none i)
  where
    none : count_by p xs ≡ 0
    none = none_counted p xs (λ y held test. let i = held.0 in let at : p (get_or xs i 0) ≡ true = ap p (get_or_default xs i 0 y held.1 ∙ held.2) ∙ test in absurd (let no_more : suc i ≡ 0 = one (suc i) (omega (arith, held.1)) at in omega arith))
once_counted p (x ∷ xs) (suc j) l e one = sum_by-cons (λ x. cond (p x) 1 0) x xs ∙ by_test (p x) refl (once_counted p xs j (omega arith) e (λ i low test. let same : suc i ≡ suc j = one (suc i) (omega arith) test in omega arith))
  where
    by_test : (b : Bool) → p x ≡ b → count_by p xs ≡ 1 → cond (p x) 1 0 + count_by p xs ≡ 1
    by_test true h rest = absurd (let same : 0 ≡ suc j = one 0 (omega arith) h in omega arith)
    by_test false h rest = let number : Bool → ℕ = λ b. cond b 1 0 in ap (λ n. n + count_by p xs) (ap number h) ∙ zero-add (count_by p xs) ∙ rest

module _ (nodes : List Node) (config : List ℕ) (depth parent before after : ℕ) (found : IsFound nodes config depth parent before after)
    (key : ℕ → List ℕ) (tree : IsTree (length config) nodes (held_configs nodes) key)
    (no_old : (j q : ℕ) → depth < j → q < length nodes → key q ≡ prefix config j → ⊥) where
  abbrev pub way : List ℕ
  way = places_up nodes parent (suc depth)

  on_way : (j : ℕ) → j < length way → (get_or way j 0 < length nodes) × (key (get_or way j 0) ≡ prefix config (depth - j))
  on_way j l = up_way (length config) nodes (held_configs nodes) key tree config parent depth (suc depth) found.parent_within (found.gap key tree).on_way j
      (subst (λ n. j < n) (length-places_up nodes parent (suc depth)) l) (let e = length-places_up nodes parent (suc depth) in omega (arith, l, e))

  -- a place is on the way exactly where the configuration begins with its labels
  counted_old : (q : ℕ) → q < length nodes → count_by (λ p. p == q) way ≡ cond (begins (key q) config) 1 0
  counted_old q l = by_test (begins (key q) config) refl
    where
      by_test : (b : Bool) → begins (key q) config ≡ b → count_by (λ p. p == q) way ≡ cond (begins (key q) config) 1 0
      by_test true e =
          let number : Bool → ℕ = λ b. cond b 1 0 in
          let is : key q ≡ prefix config (length (key q)) = same_list-same (key q) (prefix config (length (key q))) e in
          let count : length way ≡ suc depth = length-places_up nodes parent (suc depth) in
          let low : length (key q) < suc depth = elim (three_ways depth (length (key q))) [
            | inl less ↦ absurd (no_old (length (key q)) q less l is)
            | inr (inl same) ↦ omega arith
            | inr (inr more) ↦ omega arith
          ] in
          let short : depth - length (key q) < length way = omega arith in
          let back : depth - (depth - length (key q)) ≡ length (key q) = omega arith in
          let there = on_way (depth - length (key q)) short in
          let at : get_or way (depth - length (key q)) 0 ≡ q = tree.apart (get_or way (depth - length (key q)) 0) q there.0 l (there.1 ∙ ap (prefix config) back ∙ sym is) in
          once_counted (λ p. p == q) way (depth - length (key q)) short (ap (λ p. eqb p q) at ∙ eqb-same q)
          (λ i small test.
          let equal : depth - i ≡ length (key q) = prefix_apart config (depth - i) (length (key q)) (sym (on_way i small).1 ∙ ap key (eqb-true (get_or way i 0) q test) ∙ is) in
          omega (arith, equal, small, count))
          ∙ sym (ap number e)
      by_test false e =
          let number : Bool → ℕ = λ b. cond b 1 0 in
          none_counted (λ p. p == q) way (λ p held test.
          let i = held.0 in
          let place : get_or way i 0 ≡ q = get_or_default way i 0 p held.1 ∙ held.2 ∙ eqb-true p q test in
          let is : key q ≡ prefix config (depth - i) = ap key (sym place) ∙ (on_way i held.1).1 in
          let begun : begins (key q) config ≡ true = ap (λ k. begins k config) is ∙ begins-own config (depth - i) in
          cc) ∙ sym (ap number e)

  counted_new : (q : ℕ) → length nodes ≤ q → count_by (λ p. p == q) way ≡ 0
  counted_new q l = none_counted (λ p. p == q) way (λ p held test.
      let i = held.0 in
      let place : get_or way i 0 ≡ q = get_or_default way i 0 p held.1 ∙ held.2 ∙ eqb-true p q test in
      let within = (on_way i held.1).0 in
      omega arith)

  module _ (longer new : List Node) (is_longer : longer ≡ nodes ++ way_nodes config depth parent after (length nodes))
      (same_length : length new ≡ length longer)
      (label : (q : ℕ) → (node_at new q).label ≡ (node_at (linked longer parent before (length nodes)) q).label)
      (next : (q : ℕ) → (node_at new q).next ≡ (node_at (linked longer parent before (length nodes)) q).next)
      (up : (q : ℕ) → (node_at new q).parent ≡ (node_at (linked longer parent before (length nodes)) q).parent)
      (kind : (q : ℕ) → (node_at new q).kind ≡ with_leaves (node_at (linked longer parent before (length nodes)) q).kind (count_by (λ p. p == q) way)) where
    length_longer : length longer + depth ≡ length nodes + length config
    length_longer = let e = ap length is_longer ∙ length-append nodes (way_nodes config depth parent after (length nodes)) in let f = length-way_nodes config depth parent after (length nodes) found.inside in omega arith

    parent_within : parent < length longer
    parent_within = let e = ap length is_longer ∙ length-append nodes (way_nodes config depth parent after (length nodes)) in let p = found.parent_within in omega arith

    before_within : before < length longer
    before_within = let e = ap length is_longer ∙ length-append nodes (way_nodes config depth parent after (length nodes)) in let p = found.before_within in omega arith

    old_node : (q : ℕ) → q < length nodes → node_at longer q ≡ node_at nodes q
    old_node q l = ap (λ n. node_at n q) is_longer ∙ get_or_append_left nodes (way_nodes config depth parent after (length nodes)) bare_root q l

    way_node : (q j : ℕ) → depth ≤ j → q + depth ≡ length nodes + j → node_at longer q ≡ node_at (way_nodes config depth parent after (length nodes)) (j - depth)
    way_node q j low at =
        let place : q ≡ length nodes + (j - depth) = omega arith in
        (λ i. node_at (is_longer i) (place i)) ∙ get_or-append-add nodes (way_nodes config depth parent after (length nodes)) (j - depth) bare_root

    -- a new node is neither linked nor counted
    new_label : (q : ℕ) → (node_at new q).label ≡ (node_at longer q).label
    new_label q = label q ∙ linked-label longer parent before (length nodes) parent_within before_within q

    new_up : (q : ℕ) → (node_at new q).parent ≡ (node_at longer q).parent
    new_up q = up q ∙ linked-parent longer parent before (length nodes) parent_within before_within q

    new_next : (q : ℕ) → length nodes ≤ q → (node_at new q).next ≡ (node_at longer q).next
    new_next q l = next q ∙ linked-next longer parent before (length nodes) parent_within before_within q (λ some e. let b = found.before_within in omega arith)

    new_kind : (q : ℕ) → length nodes ≤ q → (node_at new q).kind ≡ (node_at longer q).kind
    new_kind q l =
        kind q ∙ ap (with_leaves (node_at (linked longer parent before (length nodes)) q).kind) (counted_new q l) ∙ with_leaves-none (node_at (linked longer parent before (length nodes)) q).kind
        ∙ linked-kind longer parent before (length nodes) parent_within before_within q (λ none e. let p = found.parent_within in omega arith)

    pub IsGrown-written : IsGrown nodes new key config (length config) depth parent before after
    IsGrown-written = record {
      longer = let e = length_longer in omega arith;
      label = λ q l. new_label q ∙ ap (λ (n : Node). n.label) (old_node q l);
      linked = λ some. next before ∙ linked-next_at longer parent before (length nodes) parent_within before_within some;
      next = λ q l apart. next q ∙ linked-next longer parent before (length nodes) parent_within before_within q apart ∙ ap (λ (n : Node). n.next) (old_node q l);
      up = λ q l. new_up q ∙ ap (λ (n : Node). n.parent) (old_node q l);
      inner = λ q first leaves l is.
          let was : (node_at longer q).kind ≡ Inner first leaves = ap (λ (n : Node). n.kind) (old_node q l) ∙ is in
          elim (by_link longer parent before (length nodes) parent_within before_within q) [
            | inl here ↦
                let now : (node_at (linked longer parent before (length nodes)) q).kind ≡ Inner (length nodes) leaves =
                linked-kind_at longer parent before (length nodes) parent_within before_within here.0 q here.1 ∙ ap (λ k. with_first k (length nodes)) was in
                (length nodes, kind q ∙ (λ i. with_leaves (now i) (counted_old q l i)), λ none same. refl, λ apart. absurd (apart here.0 here.1))
            | inr apart ↦
                let now : (node_at (linked longer parent before (length nodes)) q).kind ≡ Inner first leaves =
                linked-kind longer parent before (length nodes) parent_within before_within q apart ∙ was in
                (first, kind q ∙ (λ i. with_leaves (now i) (counted_old q l i)), λ none same. absurd (apart none same), λ other. refl)
          ];
      leaf = λ q held l is.
          let was : (node_at longer q).kind ≡ Leaf held = ap (λ (n : Node). n.kind) (old_node q l) ∙ is in
          elim (by_link longer parent before (length nodes) parent_within before_within q) [
            | inl here ↦
                let now : (node_at (linked longer parent before (length nodes)) q).kind ≡ Leaf held =
                linked-kind_at longer parent before (length nodes) parent_within before_within here.0 q here.1 ∙ ap (λ k. with_first k (length nodes)) was in
                kind q ∙ ap (λ k. with_leaves k (count_by (λ p. p == q) way)) now
            | inr apart ↦
                let now : (node_at (linked longer parent before (length nodes)) q).kind ≡ Leaf held =
                linked-kind longer parent before (length nodes) parent_within before_within q apart ∙ was in
                kind q ∙ ap (λ k. with_leaves k (count_by (λ p. p == q) way)) now
          ];
      new_node = λ q j low high at. is_new q j low high at;
    }
      where
        is_new : (q j : ℕ) → depth ≤ j → j < length config → q + depth ≡ length nodes + j → IsNewNode config (length config) depth parent after q j (node_at new q)
        is_new q j low high at =
            let place = way_node q j low at in
            let above : length nodes ≤ q = omega arith in
            let level : depth + (j - depth) ≡ j = omega arith in
            elim (three_ways (suc j) (length config)) [
              | inl less ↦
                  let node : node_at longer q ≡ new_inner config depth parent after (length nodes) (j - depth) = place ∙ way_inner config depth parent after (length nodes) found.inside (j - depth) (omega arith) in
                  let number : length nodes + (j - depth) + 1 ≡ q + 1 = omega arith in
                  record {
                    label = new_label q ∙ ap (λ (n : Node). n.label) node ∙ ap (λ i. get_or config i 0) level;
                    top = λ same. new_next q above ∙ ap (λ (n : Node). n.next) node ∙ top_next (j - depth) (omega arith);
                    alone = λ more. new_next q above ∙ ap (λ (n : Node). n.next) node ∙ more_next (j - depth) (omega arith);
                    up_top = λ same. new_up q ∙ ap (λ (n : Node). n.parent) node ∙ top_up (j - depth) (omega arith);
                    up = λ more. ap (λ p. p + 1) (new_up q ∙ ap (λ (n : Node). n.parent) node ∙ more_up (j - depth) (omega arith)) ∙ omega arith;
                    inner = λ more. new_kind q above ∙ ap (λ (n : Node). n.kind) node ∙ ap (λ f. Inner f 1) number;
                    leaf = λ last. absurd (omega arith);
                  }
              | inr (inl same) ↦
                  let node : node_at longer q ≡ new_leaf config depth parent after (length nodes) (j - depth) = place ∙ way_leaf config depth parent after (length nodes) found.inside (j - depth) (omega arith) in
                  record {
                    label = new_label q ∙ ap (λ (n : Node). n.label) node ∙ ap (λ i. get_or config i 0) level;
                    top = λ same. new_next q above ∙ ap (λ (n : Node). n.next) node ∙ top_next (j - depth) (omega arith);
                    alone = λ more. new_next q above ∙ ap (λ (n : Node). n.next) node ∙ more_next (j - depth) (omega arith);
                    up_top = λ same. new_up q ∙ ap (λ (n : Node). n.parent) node ∙ top_up (j - depth) (omega arith);
                    up = λ more. ap (λ p. p + 1) (new_up q ∙ ap (λ (n : Node). n.parent) node ∙ more_up (j - depth) (omega arith)) ∙ omega arith;
                    inner = λ more. absurd (omega arith);
                    leaf = λ last. new_kind q above ∙ ap (λ (n : Node). n.kind) node;
                  }
              | inr (inr more) ↦ absurd (omega arith)
            ]
          where
            top_next : (k : ℕ) → k ≡ 0 → cond (eqb k 0) after 0 ≡ after
            top_next k e = ap (λ b. cond b after 0) (ap (λ n. eqb n 0) e ∙ eqb-same 0)

            top_up : (k : ℕ) → k ≡ 0 → cond (eqb k 0) parent (length nodes + k - 1) ≡ parent
            top_up k e = ap (λ b. cond b parent (length nodes + k - 1)) (ap (λ n. eqb n 0) e ∙ eqb-same 0)

            more_up : (k : ℕ) → 0 < k → cond (eqb k 0) parent (length nodes + k - 1) ≡ length nodes + k - 1
            more_up k l = ap (λ b. cond b parent (length nodes + k - 1)) (eqb-apart k 0 (λ e. omega arith))

            more_next : (k : ℕ) → 0 < k → cond (eqb k 0) after 0 ≡ 0
            more_next k l = ap (λ b. cond b after 0) (eqb-apart k 0 (λ e. omega arith))

-- ---- the configurations of the leaves
leaf_configs-append : (xs ys : List Node) → leaf_configs (xs ++ ys) ≡ leaf_configs xs ++ leaf_configs ys
leaf_configs-append [] ys = refl
leaf_configs-append (x ∷ xs) ys = ap (λ l. configs_of x.kind ++ l) (leaf_configs-append xs ys) ∙ sym (append_assoc (configs_of x.kind) (leaf_configs xs) (leaf_configs ys))

leaf_configs-inners : (config : List ℕ) (depth parent after start k : ℕ) → leaf_configs (new_inners config depth parent after start k) ≡ []
leaf_configs-inners config depth parent after start zero = refl
leaf_configs-inners config depth parent after start (suc k) =
    leaf_configs-append (new_inners config depth parent after start k) (new_inner config depth parent after start k ∷ []) ∙ ap (λ l. l ++ []) (leaf_configs-inners config depth parent after start k)

pub leaf_configs-way : (config : List ℕ) (depth parent after start : ℕ) → leaf_configs (way_nodes config depth parent after start) ≡ config ∷ []
leaf_configs-way config depth parent after start =
    leaf_configs-append (new_inners config depth parent after start (length config - depth - 1)) (new_leaf config depth parent after start (length config - depth - 1) ∷ [])
    ∙ ap (λ l. l ++ config ∷ []) (leaf_configs-inners config depth parent after start (length config - depth - 1))

leaf_configs-alike : (xs ys : List Node) → length xs ≡ length ys → ((q : ℕ) → configs_of (node_at xs q).kind ≡ configs_of (node_at ys q).kind) → leaf_configs xs ≡ leaf_configs ys
leaf_configs-alike [] [] e same = refl
leaf_configs-alike [] (y ∷ ys) e same = absurd (omega arith)
leaf_configs-alike (x ∷ xs) [] e same = absurd (omega arith)
leaf_configs-alike (x ∷ xs) (y ∷ ys) e same = let rest = leaf_configs-alike xs ys (omega arith) (λ q. same (suc q)) in (λ i. same 0 i ++ rest i)

configs_of-with_leaves : (kind : Kind) (more : ℕ) → configs_of (with_leaves kind more) ≡ configs_of kind
configs_of-with_leaves (Inner first leaves) more = refl
configs_of-with_leaves (Leaf config) more = refl

configs_of-with_first : (kind : Kind) (other : ℕ) → configs_of (with_first kind other) ≡ configs_of kind
configs_of-with_first (Inner first leaves) other = refl
configs_of-with_first (Leaf config) other = refl

pub leaf_configs-written : (longer new : List Node) (way : List ℕ) (parent before start : ℕ) → parent < length longer → before < length longer → length new ≡ length longer
    → ((q : ℕ) → (node_at new q).kind ≡ with_leaves (node_at (linked longer parent before start) q).kind (count_by (λ p. p == q) way)) → leaf_configs new ≡ leaf_configs longer
leaf_configs-written longer new way parent before start parent_within before_within same kind = leaf_configs-alike new longer same (λ q.
    ap configs_of (kind q) ∙ configs_of-with_leaves (node_at (linked longer parent before start) q).kind (count_by (λ p. p == q) way)
    ∙ elim (by_link longer parent before start parent_within before_within q) [
      | inl here ↦ ap configs_of (linked-kind_at longer parent before start parent_within before_within here.0 q here.1) ∙ configs_of-with_first (node_at longer q).kind start
      | inr apart ↦ ap configs_of (linked-kind longer parent before start parent_within before_within q apart)
    ])

-- ---- counts
pub count-with_list : (p : List ℕ → Bool) (ks : List (List ℕ)) (c : List ℕ) → (In c ks → ⊥) → count_by p (with_list ks c) ≡ count_by p ks + cond (p c) 1 0
count-with_list p [] c new = sum_by-cons (λ x. cond (p x) 1 0) c [] ∙ omega arith
count-with_list p (k ∷ ks) c new =
    let rest = count-with_list p ks c (λ i. new (inr i)) in
    let head_k : count_by p (k ∷ ks) ≡ cond (p k) 1 0 + count_by p ks = sum_by-cons (λ x. cond (p x) 1 0) k ks in
    elim (cases_of k ks c) [
      | inl b ↦
          let front : count_by p (with_list (k ∷ ks) c) ≡ cond (p c) 1 0 + count_by p (k ∷ ks) = ap (count_by p) b.1 ∙ sum_by-cons (λ x. cond (p x) 1 0) c (k ∷ ks) in
          front ∙ add_comm (cond (p c) 1 0) (count_by p (k ∷ ks))
      | inr (inl b) ↦ absurd (new (inl b.0))
      | inr (inr b) ↦
          ap (count_by p) b.1 ∙ sum_by-cons (λ x. cond (p x) 1 0) k (with_list ks c) ∙ ap (λ n. cond (p k) 1 0 + n) rest
          ∙ sym (add_assoc (cond (p k) 1 0) (count_by p ks) (cond (p c) 1 0)) ∙ ap (λ n. n + cond (p c) 1 0) (sym head_k)
    ]

-- ---- the whole step
module _ (nodes : List Node) (config : List ℕ) (depth parent before after : ℕ) (filled : 0 < length nodes) (held_tree : IsPrefixTree (length config) nodes) (found : IsFound nodes config depth parent before after) (low_labels : (j : ℕ) → j < length config → get_or config j 0 < MAX_LABELS)
    (longer new : List Node) (is_longer : longer ≡ nodes ++ way_nodes config depth parent after (length nodes)) (same_length : length new ≡ length longer)
    (label : (q : ℕ) → (node_at new q).label ≡ (node_at (linked longer parent before (length nodes)) q).label)
    (next : (q : ℕ) → (node_at new q).next ≡ (node_at (linked longer parent before (length nodes)) q).next)
    (up : (q : ℕ) → (node_at new q).parent ≡ (node_at (linked longer parent before (length nodes)) q).parent)
    (kind : (q : ℕ) → (node_at new q).kind ≡ with_leaves (node_at (linked longer parent before (length nodes)) q).kind (count_by (λ p. p == q) (places_up nodes parent (suc depth)))) where
  is_new : Contains (held_configs nodes) config → ⊥
  is_new = gap-new (length config) nodes held_tree.0 held_tree.1 config depth parent before after found.inside (found.gap held_tree.0 held_tree.1)

  pub leaves-written : leaf_configs new ≡ leaf_configs nodes ++ config ∷ []
  leaves-written =
      let e = ap length is_longer ∙ length-append nodes (way_nodes config depth parent after (length nodes)) in
      let p = found.parent_within in
      let b = found.before_within in
      leaf_configs-written longer new (places_up nodes parent (suc depth)) parent before (length nodes) (omega arith) (omega arith) same_length kind ∙ ap leaf_configs is_longer
      ∙ leaf_configs-append nodes (way_nodes config depth parent after (length nodes)) ∙ ap (λ l. leaf_configs nodes ++ l) (leaf_configs-way config depth parent after (length nodes))

  pub held-written : held_configs new ≡ with_list (held_configs nodes) config
  held-written = ap list_set leaves-written ∙ list_set_push (leaf_configs nodes) config

  grown : IsGrown nodes new held_tree.0 config (length config) depth parent before after
  grown = IsGrown-written nodes config depth parent before after found held_tree.0 held_tree.1
      (off_way (length config) nodes (held_configs nodes) held_tree.0 config depth parent before after held_tree.1 (found.gap held_tree.0 held_tree.1)) longer new is_longer same_length label next up kind

  pub IsPrefixTree-written : IsPrefixTree (length config) new
  IsPrefixTree-written =
      let key = held_tree.0 in
      let tree = held_tree.1 in
      let gap = found.gap key tree in (
        grown_key key (length nodes) config depth,
        IsTree-grown (length config) nodes new (held_configs nodes) (held_configs new) key config depth parent before after filled tree gap grown found.inside refl low_labels
            (λ labels. ap (count_by (begins labels)) held-written ∙ count-with_list (begins labels) (held_configs nodes) config (λ i. is_new (In-Contains config (held_configs nodes) i)))
            (reached (length config) nodes key tree),
      )

  -- where the last label alone is new and nothing comes behind it, the new node is the last leaf
  pub last-written : depth + 1 ≡ length config → after ≡ 0 → IsLastLeaf new config (length nodes)
  last-written last none =
      let node = grown.new_node (length nodes) depth (omega arith) found.inside refl in
      record {
        within = omega (arith, grown.longer, last);
        kind = node.leaf (omega (arith, last));
        label = node.label ∙ ap (λ j. get_or config j 0) (omega (arith, last));
        alone = node.top refl ∙ none;
      }

-- ---- how many leaves are counted
leaves_of-with_first : (kind : Kind) (other : ℕ) → leaves_of (with_first kind other) ≡ leaves_of kind
leaves_of-with_first (Inner first leaves) other = refl
leaves_of-with_first (Leaf config) other = refl

module _ (degree : ℕ) (nodes : List Node) (configs : List (List ℕ)) (key : ℕ → List ℕ) (tree : IsTree degree nodes configs key) where
  pub leaves_most : (q : ℕ) → q < length nodes → leaves_of (node_at nodes q).kind ≤ length configs + 1
  leaves_most q l = by_kind (node_at nodes q).kind (tree.below q l)
    where
      by_kind : (k : Kind) → IsBelow degree nodes configs key (key q) k → leaves_of k ≤ length configs + 1
      by_kind (Inner first leaves) below = let most = count_by-le-length (begins (key q)) configs in let e = below.2 in omega arith
      by_kind (Leaf config) below = omega arith

  pub leaves_most-linked : (longer : List Node) (config : List ℕ) (depth parent before after : ℕ) → depth < length config → parent < length nodes → before < length nodes → longer ≡ nodes ++ way_nodes config depth parent after (length nodes)
      → (q : ℕ) → leaves_of (node_at (linked longer parent before (length nodes)) q).kind ≤ length configs + 1
  leaves_most-linked longer config depth parent before after inside parent_within before_within is q =
      elim (by_link longer parent before (length nodes) parent_in before_in q) [
        | inl here ↦ subst (λ n. n ≤ length configs + 1) (sym (ap leaves_of (linked-kind_at longer parent before (length nodes) parent_in before_in here.0 q here.1) ∙ leaves_of-with_first (node_at longer q).kind (length nodes))) (before_link q)
        | inr apart ↦ subst (λ n. n ≤ length configs + 1) (sym (ap leaves_of (linked-kind longer parent before (length nodes) parent_in before_in q apart))) (before_link q)
      ]
    where
      whole : length longer ≡ length nodes + length (way_nodes config depth parent after (length nodes))
      whole = ap length is ∙ length-append nodes (way_nodes config depth parent after (length nodes))

      parent_in : parent < length longer
      parent_in = let e = whole in omega arith

      before_in : before < length longer
      before_in = let e = whole in omega arith

      before_link : (q : ℕ) → leaves_of (node_at longer q).kind ≤ length configs + 1
      before_link q = elim (three_ways q (length nodes)) [
        | inl less ↦
            subst (λ (n : Node). leaves_of n.kind ≤ length configs + 1) (sym (ap (λ l. node_at l q) is ∙ get_or_append_left nodes (way_nodes config depth parent after (length nodes)) bare_root q less)) (leaves_most q less)
        | inr (inl same) ↦ on_way q (omega arith)
        | inr (inr more) ↦ on_way q (omega arith)
      ]
        where
          on_way : (q : ℕ) → length nodes ≤ q → leaves_of (node_at longer q).kind ≤ length configs + 1
          on_way q above = elim (three_ways (depth + (q - length nodes) + 1) (length config)) [
            | inl less ↦ subst (λ n. n ≤ length configs + 1) (sym (ap (λ (n : Node). leaves_of n.kind) (there ∙ way_inner config depth parent after (length nodes) inside (q - length nodes) less))) (omega arith)
            | inr (inl same) ↦ subst (λ n. n ≤ length configs + 1) (sym (ap (λ (n : Node). leaves_of n.kind) (there ∙ way_leaf config depth parent after (length nodes) inside (q - length nodes) same))) (omega arith)
            | inr (inr more) ↦
                let e = whole in
                let f = length-way_nodes config depth parent after (length nodes) inside in
                subst (λ n. n ≤ length configs + 1) (sym (ap (λ (n : Node). leaves_of n.kind) (get_or_past longer q bare_root (omega arith)))) (omega arith)
          ]
            where
              there : node_at longer q ≡ node_at (way_nodes config depth parent after (length nodes)) (q - length nodes)
              there =
                  let place : q ≡ length nodes + (q - length nodes) = omega arith in
                  (λ i. node_at (is i) (place i)) ∙ get_or-append-add nodes (way_nodes config depth parent after (length nodes)) (q - length nodes) bare_root

-- the places above the gap are the same with the new nodes and the link
pub up-linked : (nodes longer : List Node) (config : List ℕ) (depth parent before after : ℕ) → IsPrefixTree (length config) nodes → IsFound nodes config depth parent before after
    → longer ≡ nodes ++ way_nodes config depth parent after (length nodes) → places_up (linked longer parent before (length nodes)) parent (suc depth) ≡ places_up nodes parent (suc depth)
up-linked nodes longer config depth parent before after tree found is =
    up_same (length config) nodes (held_configs nodes) tree.0 tree.1 config (linked longer parent before (length nodes))
    (λ q l. linked-parent longer parent before (length nodes) (let p = found.parent_within in omega (arith, whole)) (let b = found.before_within in omega (arith, whole)) q
    ∙ ap (λ (n : Node). n.parent) (ap (λ n. node_at n q) is ∙ get_or_append_left nodes (way_nodes config depth parent after (length nodes)) bare_root q l))
    parent depth found.parent_within (found.gap tree.0 tree.1).on_way
  where
    whole : length longer ≡ length nodes + length (way_nodes config depth parent after (length nodes))
    whole = ap length is ∙ length-append nodes (way_nodes config depth parent after (length nodes))

-- each of them is there
pub up-within : (nodes : List Node) (config : List ℕ) (depth parent before after : ℕ) → IsPrefixTree (length config) nodes → IsFound nodes config depth parent before after
    → (j : ℕ) → j < suc depth → get_or (places_up nodes parent (suc depth)) j 0 < length nodes
up-within nodes config depth parent before after tree found j l =
    (up_way (length config) nodes (held_configs nodes) tree.0 tree.1 config parent depth (suc depth) found.parent_within (found.gap tree.0 tree.1).on_way j l (omega arith)).0

-- what a slice of the whole vector wrote is the vector
pub written_back : (n : ℕ) (new old : List Node) → n ≡ length new → take n (new ++ drop (length new) old) ≡ new
written_back n new old e = ap (λ k. take k (new ++ drop (length new) old)) e ∙ take-append_seam new (drop (length new) old)

-- the labels of a configuration are below the number of labels
pub low-labels : (config : List ℕ) → IsConfig (length config) MAX_LABELS config → (j : ℕ) → j < length config → get_or config j 0 < MAX_LABELS
low-labels config is j l = AllByRecursion-contains (λ x. x < MAX_LABELS) config (get_or config j 0) is.below (Contains-get_or config j 0 l)

-- a table with one configuration more
count-all : {X : Type 0} (xs : List X) → count_by (λ (x : X). true) xs ≡ length xs
count-all [] = refl
count-all (x ∷ xs) = sum_by-cons (λ x. cond true 1 0) x xs ∙ ap (λ n. 1 + n) (count-all xs) ∙ one_more (length xs)
  where
    one_more : (n : ℕ) → 1 + n ≡ suc n
    one_more n = omega arith

pub length-with_list_new : (ks : List (List ℕ)) (c : List ℕ) → (In c ks → ⊥) → length (with_list ks c) ≡ length ks + 1
length-with_list_new ks c new =
    let counts : count_by (λ (x : List ℕ). true) (with_list ks c) ≡ count_by (λ (x : List ℕ). true) ks + 1 = count-with_list (λ x. true) ks c new in
    sym (count-all (with_list ks c)) ∙ counts ∙ ap (λ n. n + 1) (count-all ks)

pub IsTable-more : (degree most : ℕ) (nodes new : List Node) (config : List ℕ) → IsTable degree most nodes → degree ≤ 6 → length (held_configs nodes) < most → (Contains (held_configs nodes) config → ⊥)
    → IsPrefixTree degree new → leaf_configs new ≡ leaf_configs nodes ++ config ∷ [] → held_configs new ≡ with_list (held_configs nodes) config → length new ≤ length nodes + degree → IsTable degree most new
IsTable-more degree most nodes new config table six room absent tree leaves held longer =
    let more : length (held_configs new) ≡ length (held_configs nodes) + 1 = ap length held ∙ length-with_list_new (held_configs nodes) config (λ i. absent (In-Contains config (held_configs nodes) i)) in
    let leaf : length (leaf_configs new) ≡ length (leaf_configs nodes) + 1 = ap length leaves ∙ length-append (leaf_configs nodes) (config ∷ []) in
    let once = table.once in
    let small = table.small in
    record {
      tree = tree;
      once = omega arith;
      few = omega arith;
      small = omega arith;
    }

-- ---- tables
pub IsTable-empty : (degree most : ℕ) → IsTable degree most []
IsTable-empty degree most = record {
  tree = (
    λ q. [],
    record {
      root = refl;
      narrow = λ q l. absurd (omega arith);
      apart = λ p q l h e. absurd (omega arith);
      parent = λ q some l. absurd (omega arith);
      sibling = λ q above l e. absurd (omega arith);
      below = λ q l. absurd (omega arith);
      filled = λ q some l. absurd (omega arith);
    },
  );
  once = refl;
  few = omega arith;
  small = omega arith;
}

-- the leaves among the first nodes, with one node more
pub leaf_configs-more : (nodes : List Node) (i : ℕ) (x : Node) → i < length nodes → x ≡ get_or nodes i x → leaf_configs (take (i + 1) nodes) ≡ leaf_configs (take i nodes) ++ configs_of x.kind
leaf_configs-more nodes i x l e =
    ap leaf_configs (take_more nodes i x l ∙ ap (λ y. take i nodes ++ y ∷ []) (sym e)) ∙ leaf_configs-append (take i nodes) (x ∷ [])
    ∙ ap (λ c. leaf_configs (take i nodes) ++ c) (append-nil (configs_of x.kind))

pub images-more : (f : List ℕ → List ℕ) (nodes : List Node) (i : ℕ) (x : Node) (config : List ℕ) (all more : List (List ℕ)) → i < length nodes → x ≡ get_or nodes i x → x.kind ≡ Leaf config
    → all ≡ map f (leaf_configs (take i nodes)) → more ≡ all ++ f config ∷ [] → more ≡ map f (leaf_configs (take (i + 1) nodes))
images-more f nodes i x config all more l e leaf before pushed =
    pushed ∙ ap (λ a. a ++ f config ∷ []) before ∙ sym (map-append f (leaf_configs (take i nodes)) (config ∷ []))
    ∙ ap (λ k. map f (leaf_configs (take i nodes) ++ configs_of k)) (sym leaf) ∙ ap (map f) (sym (leaf_configs-more nodes i x l e))

pub images-same : (f : List ℕ → List ℕ) (nodes : List Node) (i first leaves : ℕ) (x : Node) (all : List (List ℕ)) → i < length nodes → x ≡ get_or nodes i x → x.kind ≡ Inner first leaves
    → all ≡ map f (leaf_configs (take i nodes)) → all ≡ map f (leaf_configs (take (i + 1) nodes))
images-same f nodes i first leaves x all l e inner before =
    before ∙ ap (map f) (sym (leaf_configs-more nodes i x l e ∙ ap (λ k. leaf_configs (take i nodes) ++ configs_of k) inner ∙ append-nil (leaf_configs (take i nodes))))
