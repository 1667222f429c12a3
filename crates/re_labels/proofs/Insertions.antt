-- Insertion into a constraint.
use Rattle.std.proofs.Common.{◌≡◌, ◌∷◌, ◌++◌, ◌+◌, ◌∙◌, ℕ, ◌<◌, ◌≤◌, map, take, List, [], length, get_or, inl, inr, sym, ap, subst, arith, length-append}
use Rattle.std.specs.List.Sorted.{IsPermutation}
use Rattle.std.specs.List.{AllByRecursion}
use Rattle.std.proofs.lemmas.List.Sorted.{Contains-permutation, IsPermutation-sym, length_permutation}
use Rattle.std.specs.Prelude.{Bool, Err, Ok, OnErr, OnOk, Result}
use Rattle.re_labels.specs.declared.constraint_table.InsertFault.{InsertFault}
use Rattle.std.proofs.lemmas.List.{take_more}
use Rattle.re_labels.proofs.ListSets.{In-list_set, In-with_list, cases_of, list_set-In, list_set_map, list_set_push, one_set, rising-list_set, rising-with_list}
use Rattle.re_labels.proofs.Membership.{In, In-append_cases, In-append_left, In-map_from, AllByRecursion-In, AllByRecursion-from_In, AllByRecursion-from_contains, all-push, Contains-In, Contains-map_cases, In-Contains, length-map'}
use Rattle.re_labels.specs.ListSets.{list_set, with_list}
use Rattle.re_labels.proofs.Sorting.{IsConfig-of_sorted, length-sorted}
use Rattle.re_labels.specs.Configs.{IsConfig, image_at, image_of, sorted}
use Rattle.re_labels.specs.Constraints.{IsConstraint, with_each}
use Rattle.re_labels.specs.PrefixTrees.{held_configs, leaf_configs}
use Rattle.re_labels.specs.declared.prefix_tree.Node.{Node}
use Rattle.re_labels.specs.declared.TheConstants.{MAX_LABELS}

-- ---- the constraint stays one
pub IsConstraint-with : (degree : ℕ) (configs new : List (List ℕ)) (config : List ℕ) → IsConstraint MAX_LABELS (record { degree = degree; configs = configs }) → length config ≡ degree → IsConfig (length config) MAX_LABELS config → new ≡ with_list configs config
    → IsConstraint MAX_LABELS (record { degree = degree; configs = new })
IsConstraint-with degree configs new config is e c n =
    let one : IsConfig degree MAX_LABELS config = subst (λ d. IsConfig d MAX_LABELS config) e c in
    subst (λ l. IsConstraint MAX_LABELS (record { degree = degree; configs = l })) (sym n) (record {
      least = is.least;
      most = is.most;
      configs = AllByRecursion-from_In (IsConfig degree MAX_LABELS) (with_list configs config) (λ z i. elim (In-with_list configs config z i) [
        | inl f ↦ subst (IsConfig degree MAX_LABELS) (sym f) one
        | inr j ↦ AllByRecursion-In (IsConfig degree MAX_LABELS) configs z is.configs j
      ]);
      ascends = rising-with_list configs config is.ascends;
    })

-- whether it was put in or nothing has changed
pub IsConstraint-either : (degree : ℕ) (configs now new : List (List ℕ)) (config : List ℕ) (result : Result Bool InsertFault) → IsConstraint MAX_LABELS (record { degree = degree; configs = configs }) → now ≡ configs
    → length config ≡ degree → IsConfig (length config) MAX_LABELS config → OnOk result (new ≡ with_list now config) → OnErr result (new ≡ now) → IsConstraint MAX_LABELS (record { degree = degree; configs = new })
IsConstraint-either degree configs now new config (Ok b) is same e c ok err = IsConstraint-with degree configs new config is e c (ok ∙ ap (λ l. with_list l config) same)
IsConstraint-either degree configs now new config (Err f) is same e c ok err = subst (λ l. IsConstraint MAX_LABELS (record { degree = degree; configs = l })) (sym (err ∙ same)) is

-- with the configurations of labels and one more of some
IsConstraint-some : (degree : ℕ) (configs new : List (List ℕ)) (labels some : List ℕ) → IsConstraint MAX_LABELS (record { degree = degree; configs = configs }) → length labels + 1 ≡ degree → AllByRecursion (λ x. x < MAX_LABELS) labels
    → AllByRecursion (λ x. x < MAX_LABELS) some → new ≡ list_set (configs ++ with_each labels some) → IsConstraint MAX_LABELS (record { degree = degree; configs = new })
IsConstraint-some degree configs new labels some is fit below lows n = subst (λ l. IsConstraint MAX_LABELS (record { degree = degree; configs = l })) (sym n) (record {
  least = is.least;
  most = is.most;
  configs = AllByRecursion-from_In (IsConfig degree MAX_LABELS) (list_set (configs ++ with_each labels some)) (λ z i. elim (In-append_cases z configs (with_each labels some) (In-list_set (configs ++ with_each labels some) z i)) [
    | inl j ↦ AllByRecursion-In (IsConfig degree MAX_LABELS) configs z is.configs j
    | inr j ↦
        let from = In-map_from (λ last. sorted (labels ++ last ∷ [])) z some j in
        subst (IsConfig degree MAX_LABELS) (sym from.2) (each from.0 (AllByRecursion-In (λ x. x < MAX_LABELS) some from.0 lows from.1))
  ]);
  ascends = rising-list_set (configs ++ with_each labels some);
})
  where
    each : (last : ℕ) → last < MAX_LABELS → IsConfig degree MAX_LABELS (sorted (labels ++ last ∷ []))
    each last low =
        let long : length (labels ++ last ∷ []) ≡ degree = length-append labels (last ∷ []) ∙ fit in
        subst (λ d. IsConfig d MAX_LABELS (sorted (labels ++ last ∷ []))) (length-sorted (labels ++ last ∷ []) ∙ long)
        (IsConfig-of_sorted (labels ++ last ∷ []) (subst (λ d. 2 ≤ d) (sym long) is.least) (subst (λ d. d ≤ 6) (sym long) is.most) (all-push (λ x. x < MAX_LABELS) labels last below low)).2

-- whether all or some first ones were put in
pub IsConstraint-each : (degree : ℕ) (configs now new : List (List ℕ)) (labels lasts : List ℕ) (result : Result Unit InsertFault) → IsConstraint MAX_LABELS (record { degree = degree; configs = configs }) → now ≡ configs → length labels + 1 ≡ degree
    → AllByRecursion (λ x. x < MAX_LABELS) labels → AllByRecursion (λ x. x < MAX_LABELS) lasts → OnOk result (new ≡ list_set (now ++ with_each labels lasts))
    → OnErr result ((begun rest : List ℕ) × (begun ++ rest ≡ lasts) × (new ≡ list_set (now ++ with_each labels begun))) → IsConstraint MAX_LABELS (record { degree = degree; configs = new })
IsConstraint-each degree configs now new labels lasts (Ok u) is same fit below lows ok err = IsConstraint-some degree configs new labels lasts is fit below lows (ok ∙ ap (λ l. list_set (l ++ with_each labels lasts)) same)
IsConstraint-each degree configs now new labels lasts (Err f) is same fit below lows ok (begun, rest, both, n) =
    IsConstraint-some degree configs new labels begun is fit below
    (AllByRecursion-from_In (λ x. x < MAX_LABELS) begun (λ x i. AllByRecursion-In (λ x. x < MAX_LABELS) lasts x lows (subst (In x) both (In-append_left x begun rest i)))) (n ∙ ap (λ l. list_set (l ++ with_each labels begun)) same)

-- ---- many insertions
-- one more configuration
pub list_set-step : (configs : List (List ℕ)) (i : ℕ) (x : List ℕ) → i < length configs → x ≡ get_or configs i x → list_set (take (i + 1) configs) ≡ with_list (list_set (take i configs)) x
list_set-step configs i x l e =
    let more : take (i + 1) configs ≡ take i configs ++ x ∷ [] = take_more configs i x l ∙ ap (λ y. take i configs ++ y ∷ []) (sym e) in
    ap list_set more ∙ list_set_push (take i configs) x

-- a set with one more list is longer by one at most
pub length-with_list_most : (ks : List (List ℕ)) (c : List ℕ) → length (with_list ks c) ≤ length ks + 1
length-with_list_most [] c = omega arith
length-with_list_most (k ∷ ks) c = elim (cases_of k ks c) [
  | inl b ↦ rw b.1 (omega arith)
  | inr (inl b) ↦ rw b.1 (omega arith)
  | inr (inr b) ↦ rw b.1 (omega (arith, length-with_list_most ks c))
]

-- the order doesn't count
pub list_set-permutation : (xs ys : List (List ℕ)) → IsPermutation xs ys → list_set ys ≡ list_set xs
list_set-permutation xs ys moved = one_set (list_set ys) (list_set xs) (rising-list_set ys) (rising-list_set xs)
    (λ z i. list_set-In xs z (Contains-In z xs (Contains-permutation ys xs z (IsPermutation-sym xs ys moved) (In-Contains z ys (In-list_set ys z i)))))
    (λ z i. list_set-In ys z (Contains-In z ys (Contains-permutation xs ys z moved (In-Contains z xs (In-list_set xs z i)))))

-- ---- images of configurations
length-image_of : (images config : List ℕ) → length (image_of images config) ≡ length config
length-image_of images config = length-sorted (map (image_at images) config) ∙ length-map' (image_at images) config

-- and there are as many
pub images-length : (configs : List (List ℕ)) (images : List ℕ) (all : List (List ℕ)) → IsPermutation (map (image_of images) configs) all → length all ≡ length configs
images-length configs images all moved = length_permutation (map (image_of images) configs) all moved ∙ length-map' (image_of images) configs

-- ---- images of the leaves
pub known-leaves : (P : List ℕ → Type 0) (nodes : List Node) → AllByRecursion P (held_configs nodes) → AllByRecursion P (leaf_configs nodes)
known-leaves P nodes all = AllByRecursion-from_In P (leaf_configs nodes) (λ x i. AllByRecursion-In P (held_configs nodes) x all (list_set-In (leaf_configs nodes) x i))

pub leaf-images-fit : (degree n : ℕ) (nodes : List Node) (images : List ℕ) (all : List (List ℕ)) → IsConstraint n (record { degree = degree; configs = held_configs nodes }) → IsPermutation (map (image_of images) (leaf_configs nodes)) all
    → AllByRecursion (λ config. length config ≡ degree) all
leaf-images-fit degree n nodes images all is moved = AllByRecursion-from_contains (λ config. length config ≡ degree) all (λ x held.
    let from = Contains-map_cases (image_of images) (leaf_configs nodes) x (Contains-permutation all (map (image_of images) (leaf_configs nodes)) x (IsPermutation-sym (map (image_of images) (leaf_configs nodes)) all moved) held) in
    ap length (sym from.2) ∙ length-image_of images from.0
    ∙ (AllByRecursion-In (IsConfig degree n) (held_configs nodes) from.0 is.configs (list_set-In (leaf_configs nodes) from.0 (Contains-In from.0 (leaf_configs nodes) from.1))).count)

pub leaf-images-set : (nodes : List Node) (images : List ℕ) (all : List (List ℕ)) → IsPermutation (map (image_of images) (leaf_configs nodes)) all → list_set all ≡ list_set (map (image_of images) (held_configs nodes))
leaf-images-set nodes images all moved = list_set-permutation (map (image_of images) (leaf_configs nodes)) all moved ∙ sym (list_set_map (image_of images) (leaf_configs nodes))
