-- Configurations that differ in the last label alone, one behind the other.
use Rattle.std.proofs.Common.{◌≡◌, ℕ, suc, ◌<◌, ◌≤◌, ◌+◌, List, [], ◌∷◌, ◌++◌, length, get_or, refl, sym, ap, ◌∙◌, subst, arith, append_assoc, length-append}
use Rattle.std.proofs.lemmas.List.{append-nil, get_or_append_left, map-append}
use Rattle.std.proofs.Math.Seq.{get_or-append_seam}
use Rattle.std.specs.List.{AllByRecursion}
use Rattle.std.specs.Prelude.{Contains, None}
use Rattle.re_labels.proofs.Sorting.{length-sorted, rising_with_last}
use Rattle.re_labels.specs.Configs.{sorted}
use Rattle.re_labels.proofs.ListSets.{list_set-longer, list_set_append, list_set_push}
use Rattle.re_labels.proofs.Membership.{AllByRecursion-weaker, In-Contains}
use Rattle.re_labels.specs.Lists.{IsRising}
use Rattle.re_labels.specs.ListSets.{list_set, with_list}
use Rattle.re_labels.proofs.Behind.{found_behind}
use Rattle.re_labels.specs.Sets.{IsLabelSet}
use Rattle.re_labels.proofs.TreeCounts.{labels-prefix, prefix-labels}
use Rattle.re_labels.proofs.TreeSteps.{length-with_list_new}
use Rattle.re_labels.specs.Constraints.{with_each}
use Rattle.re_labels.specs.PrefixTrees.{IsPrefixTree, held_configs, leaf_configs, node_at, prefix}
use Rattle.re_labels.specs.TreeGrowth.{IsChildBefore, IsFound, IsLastLeaf}
use Rattle.re_labels.specs.declared.prefix_tree.Kind.TheVariants.{Leaf}
use Rattle.re_labels.specs.declared.prefix_tree.Node.{Node}

-- ---- labels and one more
by_items : (labels other : List ℕ) → length other ≡ length labels + 1 → ((i : ℕ) → i < length labels → get_or labels i 0 ≡ get_or other i 0) → other ≡ labels ++ get_or other (length labels) 0 ∷ []
by_items [] [] l h = absurd (omega (arith, l))
by_items [] (x ∷ []) l h = refl
by_items [] (x ∷ y ∷ other) l h = absurd (omega (arith, l))
by_items (a ∷ labels) [] l h = absurd (omega (arith, l))
by_items (a ∷ labels) (x ∷ other) l h = let rest = by_items labels other (omega (arith, l)) (λ i low. h (suc i) (omega (arith, low))) in (λ i. sym (h 0 (omega arith)) i ∷ rest i)

-- what is longer by one and begins with the labels is the labels and one more
pub one_more : (labels other : List ℕ) → length other ≡ length labels + 1 → prefix labels (length labels) ≡ prefix other (length labels) → other ≡ labels ++ get_or other (length labels) 0 ∷ []
one_more labels other l same = by_items labels other l (λ i low. prefix-labels labels other (length labels) i low same)

rising_front : (xs : List ℕ) (x : ℕ) → IsRising (λ x y. x ≤ y) (xs ++ x ∷ []) → IsRising (λ x y. x ≤ y) xs
rising_front [] x h = tt
rising_front (y ∷ []) x h = tt
rising_front (y ∷ z ∷ xs) x h = (h.0, rising_front (z ∷ xs) x h.1)

-- where the labels and one more ascend, they ascend with one that is at least their last label
pub rising_other : (labels : List ℕ) (last other n : ℕ) → suc n ≡ length labels → IsRising (λ x y. x ≤ y) (labels ++ last ∷ []) → get_or labels n 0 ≤ other → IsRising (λ x y. x ≤ y) (labels ++ other ∷ [])
rising_other labels last other n l rises low = rising_with_last labels other n l (rising_front labels last rises) low

rising_higher : (labels : List ℕ) (last next : ℕ) → last < next → IsRising (λ x y. x ≤ y) (labels ++ last ∷ []) → IsRising (λ x y. x ≤ y) (labels ++ next ∷ [])
rising_higher [] last next l h = tt
rising_higher (x ∷ []) last next l h = (omega (arith, l, h.0), tt)
rising_higher (x ∷ y ∷ labels) last next l h = (h.0, rising_higher (y ∷ labels) last next l h.1)

begins_both : (labels : List ℕ) (x y : ℕ) → prefix (labels ++ x ∷ []) (length labels) ≡ prefix (labels ++ y ∷ []) (length labels)
begins_both labels x y = labels-prefix (labels ++ x ∷ []) (labels ++ y ∷ []) (length labels) (λ i low. get_or_append_left labels (x ∷ []) 0 i low ∙ sym (get_or_append_left labels (y ∷ []) 0 i low))

at_end : (labels : List ℕ) (x : ℕ) → get_or (labels ++ x ∷ []) (length labels) 0 ≡ x
at_end labels x = get_or-append_seam labels x [] 0

-- ---- the next one
-- the labels and one more have their gap behind the child before
pub found_next : (nodes : List Node) (labels config : List ℕ) (at last : ℕ) → IsPrefixTree (length config) nodes → IsChildBefore nodes labels at last → config ≡ labels ++ last ∷ [] → IsFound nodes config (length labels) (node_at nodes at).parent at 0
found_next nodes labels config at last tree child is =
    found_behind nodes config (labels ++ child.kind.0 ∷ []) at (length labels) tree child.within child.kind.1 (omega (arith, ap length is, length-append labels (last ∷ [])))
    (ap (λ l. prefix l (length labels)) is ∙ begins_both labels last child.kind.0)
    (subst (λ n. (node_at nodes at).label < n) (sym (ap (λ l. get_or l (length labels) 0) is ∙ at_end labels last)) child.low) child.alone

-- the last leaf is the child before each one with a higher label
pub child_before : (nodes : List Node) (labels config : List ℕ) (place last next : ℕ) → IsLastLeaf nodes config place → config ≡ labels ++ last ∷ [] → last < next → IsChildBefore nodes labels place next
child_before nodes labels config place last next leaf is low = record {
  within = leaf.within;
  kind = (last, leaf.kind ∙ ap Leaf is);
  low = subst (λ n. n < next) (sym (leaf.label ∙ ap (λ n. get_or config n 0) (omega (arith, ap length is, length-append labels (last ∷ []))) ∙ ap (λ l. get_or l (length labels) 0) is ∙ at_end labels last)) low;
  alone = leaf.alone;
}

above_all : (last : ℕ) (rest : List ℕ) → IsRising (λ x y. x < y) (last ∷ rest) → AllByRecursion (λ x. last < x) rest
above_all last [] h = tt
above_all last (x ∷ rest) h = (h.0, AllByRecursion-weaker (λ y. x < y) (λ y. last < y) (λ y l. omega (arith, l, h.0)) rest (above_all x rest h.1))

-- what is the child before a label is so before all higher ones
pub all_behind : (nodes : List Node) (labels : List ℕ) (at last : ℕ) (rest : List ℕ) → IsRising (λ x y. x < y) (last ∷ rest) → IsChildBefore nodes labels at last → IsRising (λ x y. x ≤ y) (labels ++ last ∷ [])
    → AllByRecursion (λ next. IsChildBefore nodes labels at next × IsRising (λ x y. x ≤ y) (labels ++ next ∷ [])) (last ∷ rest)
all_behind nodes labels at last rest h child rises = (
  (child, rises),
  AllByRecursion-weaker (λ next. last < next) (λ next. IsChildBefore nodes labels at next × IsRising (λ x y. x ≤ y) (labels ++ next ∷ []))
      (λ next l. (record { within = child.within; kind = child.kind; low = omega (arith, l, child.low); alone = child.alone }, rising_higher labels last next l rises)) rest (above_all last rest h),
)

-- the last leaf is the child before those that are left
pub behind_next : (nodes : List Node) (labels config : List ℕ) (place last : ℕ) (rest : List ℕ) → IsRising (λ x y. x < y) (last ∷ rest) → IsLastLeaf nodes config place → config ≡ labels ++ last ∷ []
    → IsRising (λ x y. x ≤ y) (labels ++ last ∷ []) → AllByRecursion (λ next. IsChildBefore nodes labels place next × IsRising (λ x y. x ≤ y) (labels ++ next ∷ [])) rest
behind_next nodes labels config place last rest h leaf is rises =
    AllByRecursion-weaker (λ next. last < next) (λ next. IsChildBefore nodes labels place next × IsRising (λ x y. x ≤ y) (labels ++ next ∷ []))
    (λ next l. (child_before nodes labels config place last next leaf is l, rising_higher labels last next l rises)) rest (above_all last rest h)

-- ---- what is left of a set
pub set_rest : (n last : ℕ) (rest : List ℕ) → IsLabelSet n (last ∷ rest) → IsLabelSet n rest
set_rest n last [] h = (tt, h.1.1)
set_rest n last (x ∷ rest) h = (h.0.1, h.1.1)

-- ---- what is held
-- nothing more
pub held_none : (nodes : List Node) (labels : List ℕ) → held_configs nodes ≡ list_set (held_configs nodes ++ with_each labels [])
held_none nodes labels = ap list_set (sym (append-nil (leaf_configs nodes))) ∙ list_set_append (leaf_configs nodes) []

-- one more
pub held_more : (old now new : List (List ℕ)) (labels config begun : List ℕ) (last : ℕ) → now ≡ list_set (old ++ with_each labels begun) → config ≡ sorted (labels ++ last ∷ []) → new ≡ with_list now config
    → new ≡ list_set (old ++ with_each labels (begun ++ last ∷ []))
held_more old now new labels config begun last before is e =
    e ∙ (λ i. with_list (before i) (is i)) ∙ sym (list_set_push (old ++ with_each labels begun) (sorted (labels ++ last ∷ []))) ∙ ap list_set (append_assoc old (with_each labels begun) (sorted (labels ++ last ∷ []) ∷ []))
    ∙ ap (λ w. list_set (old ++ w)) (sym (map-append (λ x. sorted (labels ++ x ∷ [])) begun (last ∷ [])))

-- the others
pub held_others : (old now new : List (List ℕ)) (labels begun left lasts : List ℕ) → now ≡ list_set (old ++ with_each labels begun) → begun ++ left ≡ lasts → new ≡ list_set (now ++ with_each labels left)
    → new ≡ list_set (old ++ with_each labels lasts)
held_others old now new labels begun left lasts before both e =
    e ∙ ap (λ l. list_set (l ++ with_each labels left)) before ∙ sym (list_set_append (old ++ with_each labels begun) (with_each labels left)) ∙ ap list_set (append_assoc old (with_each labels begun) (with_each labels left))
    ∙ ap (λ w. list_set (old ++ w)) (sym (map-append (λ x. sorted (labels ++ x ∷ [])) begun left)) ∙ ap (λ l. list_set (old ++ with_each labels l)) both

-- where so many are held and the next one isn't, all are more
pub held_over : (most : ℕ) (old now : List (List ℕ)) (labels config begun left rest lasts : List ℕ) (last : ℕ) → now ≡ list_set (old ++ with_each labels begun) → left ≡ last ∷ rest → begun ++ left ≡ lasts
    → config ≡ sorted (labels ++ last ∷ []) → length now ≡ most → (Contains now config → ⊥) → most < length (list_set (old ++ with_each labels lasts))
held_over most old now labels config begun left rest lasts last before parts both is full absent =
    let one = held_more old now (with_list now config) labels config begun last before is refl in
    let whole : (begun ++ last ∷ []) ++ rest ≡ lasts = append_assoc begun (last ∷ []) rest ∙ ap (λ l. begun ++ l) (sym parts) ∙ both in
    let all = held_others old (list_set (old ++ with_each labels (begun ++ last ∷ []))) (list_set (list_set (old ++ with_each labels (begun ++ last ∷ [])) ++ with_each labels rest)) labels (begun ++ last ∷ []) rest lasts refl whole refl in
    let longer = list_set-longer (old ++ with_each labels (begun ++ last ∷ [])) (with_each labels rest) in
    let same = ap length (list_set_append (old ++ with_each labels (begun ++ last ∷ [])) (with_each labels rest) ∙ all) in
    omega (arith, length-with_list_new now config (λ i. absent (In-Contains config now i)), ap length one, longer, same, full)

-- ---- lengths
pub length-config : (labels config : List ℕ) (last : ℕ) → config ≡ sorted (labels ++ last ∷ []) → length config ≡ length labels + 1
length-config labels config last is = ap length is ∙ length-sorted (labels ++ last ∷ []) ∙ length-append labels (last ∷ [])
