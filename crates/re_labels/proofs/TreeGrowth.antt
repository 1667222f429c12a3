-- A prefix tree with one more way is a prefix tree again.
use Rattle.std.proofs.Common.{◌≡◌, ℕ, zero, suc, ◌<◌, ◌≤◌, ◌+◌, ◌-◌, Bool, true, false, cond, ltb, List, [], ◌∷◌, length, get_or, refl, sym, ap, ◌∙◌, subst, arith, zero-add, inl, inr, ◌⊎◌}
use Rattle.std.proofs.lemmas.Bool.{lt-ltb, le-ltb}
use Rattle.std.proofs.lemmas.List.Sums.{sum_by-cons}
use Rattle.std.specs.Prelude.{Contains, count_by}
use Rattle.re_labels.proofs.Before.{same_list-refl, same_list-same, three_ways}
use Rattle.re_labels.proofs.Membership.{Contains-here, Contains-later}
use Rattle.re_labels.specs.Lists.{same_list}
use Rattle.re_labels.specs.declared.prefix_tree.Kind.{Kind}
use Rattle.re_labels.specs.declared.prefix_tree.Kind.TheVariants.{Inner, Leaf}
use Rattle.re_labels.specs.declared.prefix_tree.Node.{Node}
use Rattle.re_labels.specs.PrefixTrees.{IsBelow, IsLink, IsTree, begins, node_at, prefix}
use Rattle.re_labels.specs.TreeGrowth.{IsGap, IsGrown}
use Rattle.re_labels.specs.declared.TheConstants.{MAX_LABELS}

pub length-prefix : (config : List ℕ) (d : ℕ) → length (prefix config d) ≡ d
length-prefix config zero = refl
length-prefix config (suc d) = ap suc (length-prefix config d)

pub prefix_apart : (config : List ℕ) (i j : ℕ) → prefix config i ≡ prefix config j → i ≡ j
prefix_apart config i j e = sym (length-prefix config i) ∙ ap length e ∙ length-prefix config j

-- the keys with those of the new nodes, which lie from n on
abbrev pub grown_key : (ℕ → List ℕ) → ℕ → List ℕ → ℕ → ℕ → List ℕ
grown_key key n config depth q = cond (ltb q n) (key q) (prefix config (suc (q + depth - n)))

pub grown_key-old : (key : ℕ → List ℕ) (n : ℕ) (config : List ℕ) (depth q : ℕ) → q < n → grown_key key n config depth q ≡ key q
grown_key-old key n config depth q l = ap (λ b. cond b (key q) (prefix config (suc (q + depth - n)))) (lt-ltb q n l)

pub grown_key-new : (key : ℕ → List ℕ) (n : ℕ) (config : List ℕ) (depth q j : ℕ) → depth ≤ j → q + depth ≡ n + j → grown_key key n config depth q ≡ get_or config j 0 ∷ prefix config j
grown_key-new key n config depth q j l e =
    let above : n ≤ q = omega arith in
    let same : q + depth - n ≡ j = omega arith in
    ap (λ b. cond b (key q) (prefix config (suc (q + depth - n)))) (le-ltb q n above) ∙ ap (λ i. prefix config (suc i)) same

-- a configuration begins with its own labels, and one that does has the same ones
pub begins-own : (config : List ℕ) (d : ℕ) → begins (prefix config d) config ≡ true
begins-own config d = ap (λ i. same_list (prefix config d) (prefix config i)) (length-prefix config d) ∙ same_list-refl (prefix config d)

pub begins-same : (config other : List ℕ) (d : ℕ) → begins (prefix config d) other ≡ true → prefix config d ≡ prefix other d
begins-same config other d h = same_list-same (prefix config d) (prefix other d) (subst (λ i. same_list (prefix config d) (prefix other i) ≡ true) (length-prefix config d) h)

pub none_counted : {X : Type 0} (p : X → Bool) (xs : List X) → ((x : X) → Contains xs x → p x ≡ true → ⊥) → count_by p xs ≡ 0
none_counted p [] none = refl
none_counted p (x ∷ xs) none = sum_by-cons (λ x. cond (p x) 1 0) x xs ∙ by_test (p x) refl (none_counted p xs (λ y i. none y (Contains-later y x xs i)))
  where
    by_test : (b : Bool) → p x ≡ b → count_by p xs ≡ 0 → cond (p x) 1 0 + count_by p xs ≡ 0
    by_test true e rest = absurd (none x (Contains-here x xs) e)
    by_test false e rest =
        let number : Bool → ℕ = λ b. cond b 1 0 in
        ap (λ n. n + count_by p xs) (ap number e) ∙ zero-add (count_by p xs) ∙ rest

-- no node lies on the way behind its gap
pub off_way : (degree : ℕ) (nodes : List Node) (configs : List (List ℕ)) (key : ℕ → List ℕ) (config : List ℕ) (depth parent before after : ℕ)
    → IsTree degree nodes configs key → IsGap nodes key config depth parent before after → (j q : ℕ) → depth < j → q < length nodes → key q ≡ prefix config j → ⊥
off_way degree nodes configs key config depth parent before after tree gap zero q l h e = omega arith
off_way degree nodes configs key config depth parent before after tree gap (suc j) q l h e = elim (three_ways depth j) [
  | inl less ↦
      let filled_key : 0 < q = above_root q e in
      let up = tree.parent q filled_key h in
      let on_up : key up.0 ≡ prefix config j = cc in
      off_way degree nodes configs key config depth parent before after tree gap j up.0 less up.1 on_up
  | inr (inl same) ↦ gap.missing q h (e ∙ ap (λ i. get_or config i 0 ∷ prefix config i) (sym same))
  | inr (inr more) ↦ absurd (omega arith)
]
  where
    above_root : (q : ℕ) → key q ≡ prefix config (suc j) → 0 < q
    above_root zero e = absurd (let empty = tree.root in cc)
    above_root (suc q) e = omega arith

module _ (degree : ℕ) (nodes new : List Node) (configs more : List (List ℕ)) (key : ℕ → List ℕ) (config : List ℕ) (depth parent before after : ℕ)
    (filled : 0 < length nodes) (tree : IsTree degree nodes configs key) (gap : IsGap nodes key config depth parent before after)
    (grown : IsGrown nodes new key config degree depth parent before after) (inside : depth < degree) (fits : length config ≡ degree) (low_labels : (j : ℕ) → j < degree → get_or config j 0 < MAX_LABELS)
    (counts : (labels : List ℕ) → count_by (begins labels) more ≡ count_by (begins labels) configs + cond (begins labels config) 1 0)
    (reached : (c : List ℕ) → Contains configs c → (d : ℕ) → d ≤ degree → (q : ℕ) × (q < length nodes) × (key q ≡ prefix c d)) where
  abbrev after_key : ℕ → List ℕ
  after_key = grown_key key (length nodes) config depth

  no_old : (j q : ℕ) → depth < j → q < length nodes → key q ≡ prefix config j → ⊥
  no_old = off_way degree nodes configs key config depth parent before after tree gap

  -- each place is old, or new with a label of the configuration
  abbrev IsNew : ℕ → Type 0
  IsNew q = (j : ℕ) × (depth ≤ j) × (j < degree) × (q + depth ≡ length nodes + j) × (after_key q ≡ get_or config j 0 ∷ prefix config j)

  split : (q : ℕ) → q < length new → ((q < length nodes) × (after_key q ≡ key q)) ⊎ IsNew q
  split q l = elim (three_ways q (length nodes)) [
    | inl less ↦ inl (less, grown_key-old key (length nodes) config depth q less)
    | inr (inl same) ↦ inr (new_at q (omega arith) l)
    | inr (inr above) ↦ inr (new_at q (omega arith) l)
  ]
    where
      new_at : (q : ℕ) → length nodes ≤ q → q < length new → IsNew q
      new_at q l h =
          let longer = grown.longer in
          let e : q + depth ≡ length nodes + (q + depth - length nodes) = omega arith in
          (q + depth - length nodes, omega arith, omega arith, e, grown_key-new key (length nodes) config depth q (q + depth - length nodes) (omega arith) e)

  -- an old node whose key is a part of the way is the gap's
  at_gap : (p j : ℕ) → p < length nodes → depth ≤ j → key p ≡ prefix config j → (j ≡ depth) × (p ≡ parent)
  at_gap p j l h e = elim (three_ways depth j) [
    | inl less ↦ absurd (no_old j p less l e)
    | inr (inl same) ↦ (sym same, tree.apart p parent l gap.within (e ∙ ap (prefix config) (sym same) ∙ sym gap.on_way))
    | inr (inr more) ↦ absurd (omega arith)
  ]

  -- a link stays, where it leads past no new child
  kept_link : (above : List ℕ) (least target : ℕ) → IsLink nodes key above least target
      → ((j : ℕ) → depth ≤ j → j < degree → above ≡ prefix config j → least ≤ get_or config j 0 → (0 < target) × ((node_at nodes target).label ≤ get_or config j 0))
      → IsLink new after_key above least target
  kept_link above least target link passes = record {
    within = let longer = grown.longer in let w = link.within in omega arith;
    child = λ filled.
        let l = link.within in
        let same : (node_at new target).label ≡ (node_at nodes target).label = grown.label target l in
        (subst (λ x. least ≤ x) (sym same) (link.child filled).0, grown_key-old key (length nodes) config depth target l ∙ (link.child filled).1 ∙ ap (λ x. x ∷ above) (sym same));
    nearest = λ q label l e h.
        let same : (node_at new target).label ≡ (node_at nodes target).label = grown.label target link.within in
        elim (split q l) [
          | inl old ↦
              let near = link.nearest q label old.0 (sym old.1 ∙ e) h in
              (near.0, subst (λ x. x ≤ label) (sym same) near.1)
          | inr is ↦
              let there : label ≡ get_or config is.0 0 = cc in
              let under : above ≡ prefix config is.0 = cc in
              let near = passes is.0 is.1 is.2 under (subst (λ x. least ≤ x) there h) in
              (near.0, subst (λ x. x ≤ label) (sym same) (subst (λ x. (node_at nodes target).label ≤ x) (sym there) near.1))
        ];
  }

  -- where the keys above are those of an old node other than the gap's, no new child is among them
  far_link : (p least target : ℕ) → p < length nodes → (p ≡ parent → ⊥) → IsLink nodes key (key p) least target → IsLink new after_key (key p) least target
  far_link p least target l other link = kept_link (key p) least target link (λ j low high e h. absurd (other (at_gap p j l low e).1))

  -- the first new node
  new_place : (j : ℕ) → depth ≤ j → j < degree → (q : ℕ) × (q < length new) × (q + depth ≡ length nodes + j) × (after_key q ≡ get_or config j 0 ∷ prefix config j)
  new_place j low high =
      let longer = grown.longer in
      let e : length nodes + (j - depth) + depth ≡ length nodes + j = omega arith in
      (length nodes + (j - depth), omega arith, e, grown_key-new key (length nodes) config depth (length nodes + (j - depth)) j low e)

  -- a link to the first new node, from below its label
  first_new : (least : ℕ) → least ≤ get_or config depth 0
      → ((q label : ℕ) → q < length nodes → key q ≡ label ∷ prefix config depth → least ≤ label → get_or config depth 0 ≤ label)
      → IsLink new after_key (prefix config depth) least (length nodes)
  first_new least low above = record {
    within = let longer = grown.longer in omega arith;
    child = λ filled. (subst (λ x. least ≤ x) (sym label) low, at ∙ ap (λ x. x ∷ prefix config depth) (sym label));
    nearest = λ q other l e h.
        elim (split q l) [
          | inl old ↦ (filled, subst (λ x. x ≤ other) (sym label) (above q other old.0 (sym old.1 ∙ e) h))
          | inr is ↦
              let there : other ≡ get_or config is.0 0 = cc in
              let under : prefix config depth ≡ prefix config is.0 = cc in
              let same : depth ≡ is.0 = prefix_apart config depth is.0 under in
              (filled, subst (λ x. x ≤ other) (sym label) (subst (λ j. get_or config depth 0 ≤ j) (ap (λ j. get_or config j 0) same ∙ sym there) (omega arith)))
        ];
  }
    where
      label : (node_at new (length nodes)).label ≡ get_or config depth 0
      label = (grown.new_node (length nodes) depth (omega arith) inside refl).label

      at : after_key (length nodes) ≡ get_or config depth 0 ∷ prefix config depth
      at = grown_key-new key (length nodes) config depth (length nodes) depth (omega arith) refl

  -- a link that leads nowhere
  no_link : (above : List ℕ) (least : ℕ) → 0 < length new
      → ((q label : ℕ) → q < length new → after_key q ≡ label ∷ above → least ≤ label → ⊥)
      → IsLink new after_key above least 0
  no_link above least some none = record {
    within = some;
    child = λ h. absurd (omega arith);
    nearest = λ q label l e h. absurd (none q label l e h);
  }

  -- no old node stands below the new part of the way
  no_old_child : (j q label : ℕ) → depth < j → q < length nodes → key q ≡ label ∷ prefix config j → ⊥
  no_old_child j q label low l e = elim (three_ways q 0) [
    | inl less ↦ omega arith
    | inr (inl same) ↦ absurd (let at : key q ≡ key 0 = ap key same in let empty = tree.root in cc)
    | inr (inr more) ↦ let up = tree.parent q more l in no_old j up.0 low up.1 cc
  ]

  -- ---- the fields
  root_after : after_key 0 ≡ []
  root_after = grown_key-old key (length nodes) config depth 0 filled ∙ tree.root

  narrow_after : (q : ℕ) → q < length new → (node_at new q).label < MAX_LABELS
  narrow_after q l = elim (split q l) [
    | inl old ↦ subst (λ x. x < MAX_LABELS) (sym (grown.label q old.0)) (tree.narrow q old.0)
    | inr is ↦ subst (λ x. x < MAX_LABELS) (sym (grown.new_node q is.0 is.1 is.2 is.3).label) (low_labels is.0 is.2)
  ]

  apart_after : (p q : ℕ) → p < length new → q < length new → after_key p ≡ after_key q → p ≡ q
  apart_after p q l h e = elim (split p l) [
    | inl old ↦ elim (split q h) [
      | inl other ↦ tree.apart p q old.0 other.0 cc
      | inr is ↦ absurd (no_old (suc is.0) p (let low = is.1 in omega arith) old.0 cc)
    ]
    | inr is ↦ elim (split q h) [
      | inl other ↦ absurd (no_old (suc is.0) q (let low = is.1 in omega arith) other.0 cc)
      | inr also ↦ let same : is.0 ≡ also.0 = prefix_apart config is.0 also.0 cc in let a = is.3 in let b = also.3 in omega arith
    ]
  ]

  parent_after : (q : ℕ) → 0 < q → q < length new → (p : ℕ) × (p < length new) × (after_key q ≡ (node_at new q).label ∷ after_key p) × ((node_at new q).parent ≡ p)
  parent_after q some l = elim (split q l) [
    | inl old ↦
        let up = tree.parent q some old.0 in
        let within : up.0 < length new = let longer = grown.longer in let u = up.1 in omega arith in
        (up.0, within, old.1 ∙ up.2 ∙ ap (λ x. x ∷ key up.0) (sym (grown.label q old.0)) ∙ ap (λ k. (node_at new q).label ∷ k) (sym (grown_key-old key (length nodes) config depth up.0 up.1)), grown.up q old.0 ∙ up.3)
    | inr is ↦ new_parent q is.0 l is.1 is.2 is.3 is.4
  ]
    where
      new_parent : (q j : ℕ) → q < length new → depth ≤ j → j < degree → q + depth ≡ length nodes + j → after_key q ≡ get_or config j 0 ∷ prefix config j
          → (p : ℕ) × (p < length new) × (after_key q ≡ (node_at new q).label ∷ after_key p) × ((node_at new q).parent ≡ p)
      new_parent q j l low high at e = elim (three_ways depth j) [
        | inl less ↦ below_top q j l less high at e
        | inr (inl same) ↦
            let within : parent < length new = let longer = grown.longer in let u = gap.within in omega arith in (
              parent,
              within,
              e ∙ ap (λ x. x ∷ prefix config j) (sym (grown.new_node q j low high at).label)
                  ∙ ap (λ k. (node_at new q).label ∷ k) (ap (prefix config) (sym same) ∙ sym gap.on_way ∙ sym (grown_key-old key (length nodes) config depth parent gap.within)),
              (grown.new_node q j low high at).up_top (sym same),
            )
        | inr (inr more) ↦ absurd (omega arith)
      ]
        where
          below_top : (q j : ℕ) → q < length new → depth < j → j < degree → q + depth ≡ length nodes + j → after_key q ≡ get_or config j 0 ∷ prefix config j
              → (p : ℕ) × (p < length new) × (after_key q ≡ (node_at new q).label ∷ after_key p) × ((node_at new q).parent ≡ p)
          below_top q zero l low high at e = absurd (omega arith)
          below_top q (suc j) l low high at e =
              let up = new_place j (omega arith) (omega arith) in
              (up.0, up.1, e ∙ ap (λ x. x ∷ prefix config (suc j)) (sym (grown.new_node q (suc j) (omega arith) high at).label) ∙ ap (λ k. (node_at new q).label ∷ k) (sym up.3), (let above = (grown.new_node q (suc j) (omega arith) high at).up low in let place = up.2 in omega arith))

  sibling_after : (q : ℕ) (above : List ℕ) → q < length new → after_key q ≡ (node_at new q).label ∷ above → IsLink new after_key above ((node_at new q).label + 1) (node_at new q).next
  sibling_after q above l e = elim (split q l) [
    | inl old ↦
        let same = grown.label q old.0 in
        let was : key q ≡ (node_at nodes q).label ∷ above = sym old.1 ∙ e ∙ ap (λ x. x ∷ above) same in
        subst (λ x. IsLink new after_key above (x + 1) (node_at new q).next) (sym same) (old_sibling q above old.0 was)
    | inr is ↦
        let node = grown.new_node q is.0 is.1 is.2 is.3 in
        let label = node.label in
        let under : above ≡ prefix config is.0 = cc in
        subst (λ a. IsLink new after_key a ((node_at new q).label + 1) (node_at new q).next) (sym under) (new_sibling q is.0 l is.1 is.2 is.3)
  ]
    where
      parent_link : (q : ℕ) → q < length nodes → key q ≡ (node_at nodes q).label ∷ prefix config depth → IsLink nodes key (prefix config depth) ((node_at nodes q).label + 1) (node_at nodes q).next
          → IsLink new after_key (prefix config depth) ((node_at nodes q).label + 1) (node_at new q).next
      parent_link q l was link = elim (three_ways before 0) [
        | inl less ↦ absurd (omega arith)
        | inr (inl none) ↦
            let higher = gap.first none q (node_at nodes q).label l was in
            subst (λ t. IsLink new after_key (prefix config depth) ((node_at nodes q).label + 1) t) (sym (grown.next q l (λ h e. omega arith)))
            (kept_link (prefix config depth) ((node_at nodes q).label + 1) (node_at nodes q).next link (λ j low high e h.
            let same : depth ≡ j = prefix_apart config depth j e in
            let label : get_or config depth 0 ≡ get_or config j 0 = ap (λ i. get_or config i 0) same in
            absurd (omega arith)))
        | inr (inr some) ↦ elim (three_ways q before) [
          | inl less ↦ other_one some (λ e. omega arith)
          | inr (inl same) ↦
              let behind = gap.behind some in
              let label : (node_at nodes q).label ≡ (node_at nodes before).label = ap (λ i. (node_at nodes i).label) same in
              let lower = behind.1 in
              subst (λ t. IsLink new after_key (prefix config depth) ((node_at nodes q).label + 1) t) (sym (ap (λ i. (node_at new i).next) same ∙ grown.linked some))
              (first_new ((node_at nodes q).label + 1) (omega arith) (λ r y h e more. elim (three_ways y (get_or config depth 0)) [
                | inl less ↦ absurd (let most = gap.last some r y h e less in omega arith)
                | inr (inl equal) ↦ omega arith
                | inr (inr above) ↦ omega arith
              ]))
          | inr (inr more) ↦ other_one some (λ e. omega arith)
        ]
      ]
        where
          other_one : 0 < before → (q ≡ before → ⊥) → IsLink new after_key (prefix config depth) ((node_at nodes q).label + 1) (node_at new q).next
          other_one some apart =
              let behind = gap.behind some in
              subst (λ t. IsLink new after_key (prefix config depth) ((node_at nodes q).label + 1) t) (sym (grown.next q l (λ h e. apart e)))
              (kept_link (prefix config depth) ((node_at nodes q).label + 1) (node_at nodes q).next link (λ j low high e h.
              let label : get_or config depth 0 ≡ get_or config j 0 = ap (λ i. get_or config i 0) (prefix_apart config depth j e) in
              let most = gap.last some q (node_at nodes q).label l was (omega arith) in
              let unlike : (node_at nodes q).label ≡ (node_at nodes before).label → ⊥ = λ e. apart (tree.apart q before l behind.0 (was ∙ ap (λ x. x ∷ prefix config depth) e ∙ sym behind.2)) in
              let near = link.nearest before (node_at nodes before).label behind.0 behind.2 (omega arith) in
              (near.0, let lower = behind.1 in let nearer = near.1 in omega arith)))

      old_sibling : (q : ℕ) (above : List ℕ) → q < length nodes → key q ≡ (node_at nodes q).label ∷ above → IsLink new after_key above ((node_at nodes q).label + 1) (node_at new q).next
      old_sibling q above l was = elim (three_ways q 0) [
        | inl less ↦ absurd (omega arith)
        | inr (inl same) ↦ absurd (let at : key q ≡ key 0 = ap key same in let empty = tree.root in cc)
        | inr (inr some) ↦
            let up = tree.parent q some l in
            let under : above ≡ key up.0 = cc in
            elim (three_ways up.0 parent) [
              | inl less ↦ elsewhere up.0 up.1 under (λ e. omega arith)
              | inr (inl same) ↦
                  let here : above ≡ prefix config depth = under ∙ ap key same ∙ gap.on_way in
                  subst (λ a. IsLink new after_key a ((node_at nodes q).label + 1) (node_at new q).next) (sym here)
                  (parent_link q l (was ∙ ap (λ a. (node_at nodes q).label ∷ a) here) (subst (λ a. IsLink nodes key a ((node_at nodes q).label + 1) (node_at nodes q).next) here (tree.sibling q above l was)))
              | inr (inr more) ↦ elsewhere up.0 up.1 under (λ e. omega arith)
            ]
      ]
        where
          elsewhere : (p : ℕ) → p < length nodes → above ≡ key p → (p ≡ parent → ⊥) → IsLink new after_key above ((node_at nodes q).label + 1) (node_at new q).next
          elsewhere p within under apart =
              let unlike : 0 < before → q ≡ before → ⊥ = λ some e.
              let behind = gap.behind some in
              let of_before : key q ≡ (node_at nodes before).label ∷ prefix config depth = ap key e ∙ behind.2 in
              let way = gap.on_way in
              let same : key p ≡ key parent = cc in
              apart (tree.apart p parent within gap.within same) in
              subst (λ t. IsLink new after_key above ((node_at nodes q).label + 1) t) (sym (grown.next q l unlike))
              (subst (λ a. IsLink new after_key a ((node_at nodes q).label + 1) (node_at nodes q).next) (sym under)
              (far_link p ((node_at nodes q).label + 1) (node_at nodes q).next within apart
              (subst (λ a. IsLink nodes key a ((node_at nodes q).label + 1) (node_at nodes q).next) under (tree.sibling q above l was))))

      new_sibling : (q j : ℕ) → q < length new → depth ≤ j → j < degree → q + depth ≡ length nodes + j
          → IsLink new after_key (prefix config j) ((node_at new q).label + 1) (node_at new q).next
      new_sibling q j l low high at =
          let node = grown.new_node q j low high at in
          let label = node.label in
          elim (three_ways depth j) [
            | inl less ↦
                subst (λ t. IsLink new after_key (prefix config j) ((node_at new q).label + 1) t) (sym (node.alone less))
                (no_link (prefix config j) ((node_at new q).label + 1) (omega arith) (λ r y h e more. elim (split r h) [
                  | inl old ↦ no_old_child j r y less old.0 (sym old.1 ∙ e)
                  | inr is ↦
                      let there : y ≡ get_or config is.0 0 = cc in
                      let under : prefix config j ≡ prefix config is.0 = cc in
                      let same : get_or config j 0 ≡ get_or config is.0 0 = ap (λ i. get_or config i 0) (prefix_apart config j is.0 under) in
                      omega arith
                ]))
            | inr (inl same) ↦
                let label_there : (node_at new q).label ≡ get_or config depth 0 = label ∙ ap (λ i. get_or config i 0) (sym same) in
                let moved : IsLink new after_key (prefix config depth) (get_or config depth 0 + 1) after =
                kept_link (prefix config depth) (get_or config depth 0 + 1) after gap.rest (λ i low high e h.
                let label : get_or config depth 0 ≡ get_or config i 0 = ap (λ i. get_or config i 0) (prefix_apart config depth i e) in absurd (omega arith)) in
                subst (λ t. IsLink new after_key (prefix config j) ((node_at new q).label + 1) t) (sym (node.top (sym same)))
                (subst (λ x. IsLink new after_key (prefix config j) (x + 1) after) (sym label_there)
                (subst (λ i. IsLink new after_key (prefix config i) (get_or config depth 0 + 1) after) same moved))
            | inr (inr more) ↦ absurd (omega arith)
          ]

  -- no configuration that was there begins with more of the way
  unheld : (d : ℕ) → depth < d → d ≤ degree → count_by (begins (prefix config d)) configs ≡ 0
  unheld d low high = none_counted (begins (prefix config d)) configs (λ c held b.
      let place = reached c held d high in
      no_old d place.0 low place.1 (place.2 ∙ sym (begins-same config c d b)))

  below_after : (q : ℕ) → q < length new → IsBelow degree new more after_key (after_key q) (node_at new q).kind
  below_after q l = elim (split q l) [
    | inl old ↦ subst (λ k. IsBelow degree new more after_key k (node_at new q).kind) (sym old.1) (old_below q old.0 (node_at nodes q).kind refl (tree.below q old.0))
    | inr is ↦ subst (λ k. IsBelow degree new more after_key k (node_at new q).kind) (sym is.4) (new_below q is.0 l is.1 is.2 is.3)
  ]
    where
      first_link : (q first other : ℕ) → q < length nodes → IsLink nodes key (key q) 0 first → (before ≡ 0 → q ≡ parent → other ≡ length nodes) → ((before ≡ 0 → q ≡ parent → ⊥) → other ≡ first)
          → IsLink new after_key (key q) 0 other
      first_link q first other l link linked stays = elim (three_ways q parent) [
        | inl less ↦ elsewhere (λ e. omega arith)
        | inr (inl same) ↦ elim (three_ways before 0) [
          | inl less ↦ absurd (omega arith)
          | inr (inl none) ↦
              let here : key q ≡ prefix config depth = ap key same ∙ gap.on_way in
              subst (λ t. IsLink new after_key (key q) 0 t) (sym (linked none same)) (subst (λ a. IsLink new after_key a 0 (length nodes)) (sym here)
              (first_new 0 (omega arith) (λ r y h e more. let higher = gap.first none r y h e in omega arith)))
          | inr (inr some) ↦
              let here : key q ≡ prefix config depth = ap key same ∙ gap.on_way in
              subst (λ t. IsLink new after_key (key q) 0 t) (sym (stays (λ none e. omega arith))) (kept_link (key q) 0 first link (λ j low high e h.
              let label : get_or config depth 0 ≡ get_or config j 0 = ap (λ i. get_or config i 0) (prefix_apart config depth j (sym here ∙ e)) in
              let behind = gap.behind some in
              let near = link.nearest before (node_at nodes before).label behind.0 (behind.2 ∙ ap (λ a. (node_at nodes before).label ∷ a) (sym here)) (omega arith) in
              (near.0, let lower = behind.1 in let nearer = near.1 in omega arith)))
        ]
        | inr (inr more) ↦ elsewhere (λ e. omega arith)
      ]
        where
          elsewhere : (q ≡ parent → ⊥) → IsLink new after_key (key q) 0 other
          elsewhere apart = subst (λ t. IsLink new after_key (key q) 0 t) (sym (stays (λ none. apart))) (far_link q 0 first l apart link)

      old_below : (q : ℕ) → q < length nodes → (k : Kind) → (node_at nodes q).kind ≡ k → IsBelow degree nodes configs key (key q) k → IsBelow degree new more after_key (key q) (node_at new q).kind
      old_below q l (Inner first leaves) e below =
          let g = grown.inner q first leaves l e in
          subst (λ k. IsBelow degree new more after_key (key q) k) (sym g.1)
          (below.0, first_link q first g.0 l below.1 g.2 g.3, ap (λ i. i + cond (begins (key q) config) 1 0) below.2 ∙ sym (counts (key q)))
      old_below q l (Leaf held) e below = subst (λ k. IsBelow degree new more after_key (key q) k) (sym (grown.leaf q held l e)) below

      -- the link of a new inner node to the next new one
      step_link : (q j : ℕ) → depth ≤ j → suc j < degree → q + depth ≡ length nodes + j → IsLink new after_key (prefix config (suc j)) 0 (q + 1)
      step_link q j low high at =
          let at_next : q + 1 + depth ≡ length nodes + suc j = omega arith in
          let node = grown.new_node (q + 1) (suc j) (omega arith) high at_next in
          let label = node.label in
          record {
            within = let longer = grown.longer in omega arith;
            child = λ some. (omega arith, grown_key-new key (length nodes) config depth (q + 1) (suc j) (omega arith) at_next ∙ ap (λ x. x ∷ prefix config (suc j)) (sym label));
            nearest = λ r y h e more. elim (split r h) [
              | inl old ↦ absurd (no_old_child (suc j) r y (omega arith) old.0 (sym old.1 ∙ e))
              | inr is ↦
                  let there : y ≡ get_or config is.0 0 = cc in
                  let under : prefix config (suc j) ≡ prefix config is.0 = cc in
                  let same : get_or config (suc j) 0 ≡ get_or config is.0 0 = ap (λ i. get_or config i 0) (prefix_apart config (suc j) is.0 under) in
                  (omega arith, omega arith)
            ];
          }

      new_below : (q j : ℕ) → q < length new → depth ≤ j → j < degree → q + depth ≡ length nodes + j → IsBelow degree new more after_key (prefix config (suc j)) (node_at new q).kind
      new_below q j l low high at =
          let node = grown.new_node q j low high at in
          elim (three_ways (suc j) degree) [
            | inl less ↦
                subst (λ k. IsBelow degree new more after_key (prefix config (suc j)) k) (sym (node.inner less)) (
                  subst (λ i. i < degree) (sym (length-prefix config (suc j))) less,
                  step_link q j low less at,
                  sym (counts (prefix config (suc j)) ∙ ap (λ i. i + cond (begins (prefix config (suc j)) config) 1 0) (unheld (suc j) (omega arith) (omega arith)) ∙ one_own (suc j)),
                )
            | inr (inl same) ↦
                subst (λ k. IsBelow degree new more after_key (prefix config (suc j)) k) (sym (node.leaf same)) (fits, ap (prefix config) same)
            | inr (inr more) ↦ absurd (omega arith)
          ]
        where
          one_own : (d : ℕ) → 0 + cond (begins (prefix config d) config) 1 0 ≡ 1
          one_own d = let number : Bool → ℕ = λ b. 0 + cond b 1 0 in ap number (begins-own config d)

  -- a configuration lies below each place but the root: an old one, or the new one
  filled_after : (q : ℕ) → 0 < q → q < length new → 0 < count_by (begins (after_key q)) more
  filled_after q some l = elim (split q l) [
    | inl old ↦
        let more_than = tree.filled q some old.0 in
        let sum = counts (key q) in
        subst (λ k. 0 < count_by (begins k) more) (sym old.1) (omega (arith, more_than, sum))
    | inr is ↦
        let number : Bool → ℕ = λ b. cond b 1 0 in
        let own : cond (begins (prefix config (suc is.0)) config) 1 0 ≡ 1 = ap number (begins-own config (suc is.0)) in
        let sum = counts (prefix config (suc is.0)) in
        let here : 0 < count_by (begins (prefix config (suc is.0))) more = omega (arith, own, sum) in
        subst (λ k. 0 < count_by (begins k) more) (sym is.4) here
  ]

  pub IsTree-grown : IsTree degree new more after_key
  IsTree-grown = record {
    root = root_after;
    narrow = narrow_after;
    apart = apart_after;
    parent = parent_after;
    sibling = sibling_after;
    below = below_after;
    filled = filled_after;
  }
