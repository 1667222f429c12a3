-- The labels at least as strong, as a list has them.
use Rattle.std.proofs.Common.{◌≡◌, ℕ, zero, suc, ◌+◌, ◌<◌, ◌≤◌, Bool, true, false, not, filter, take, List, [], ◌∷◌, ◌++◌, length, length-append, map, get_or, refl, sym, ap, ◌∙◌, subst, inl, inr, arith}
use Rattle.std.specs.Prelude.{slice_set, ◌↔◌}
use Rattle.std.specs.List.{AllByRecursion, AllZip}
use Rattle.std.proofs.lemmas.Bool.{cases_lt}
use Rattle.std.proofs.lemmas.List.{get_or_past, take_more}
use Rattle.re_boxes.proofs.Spread.{AreFilled, IsIn-filled, in_with_stronger, of_with_stronger, one_label}
use Rattle.re_boxes.proofs.StrengthTests.{strength_law}
use Rattle.re_boxes.specs.Boxes.{IsStrength, with_stronger}
use Rattle.re_boxes.specs.Strength.{HasStronger, IsAbove}
use Rattle.re_labels.proofs.RowCalls.{read_within}
use Rattle.re_labels.proofs.OrdersAt.{count_push, get_or-map}
use Rattle.re_labels.specs.Configs.{IsConfig}
use Rattle.re_labels.specs.Rows.{IsChoice}
use Rattle.re_labels.proofs.Membership.{AllByRecursion-contains, AllByRecursion-from_contains, AllByRecursion-weaker, Contains-filter, Contains-filter_cases, Contains-here, Contains-none, get_or-count_from, length-count_from, length-map'}
use Rattle.re_labels.proofs.Sets.{IsIn-union, IsIn-union_cases, has-IsIn}
use Rattle.re_labels.specs.Lists.{count_from}
use Rattle.re_labels.specs.Sets.{IsIn, IsLabelSet, IsWithin, has, with_label}
use Rattle.re_labels.proofs.Strengths.{IsAtLeastAsStrong-refl, IsIn-up_set, IsIn-up_set_cases}
use Rattle.re_labels.specs.Constraints.{Constraint, Has, IsConstraint}
use Rattle.re_labels.specs.GoodRows.{IsGood}
use Rattle.re_labels.specs.Strength.{up_set}
use Rattle.re_boxes.specs.Choosing.{AreGoodChoices}
use Rattle.re_boxes.specs.HeldStrength.{IsWeakest, ups_in}
use Rattle.re_labels.specs.declared.TheConstants.{MAX_LABELS}

-- the up-sets of the labels below m
abbrev pub up_sets : Constraint → ℕ → ℕ → List (List ℕ)
up_sets constraint n m = map (λ x. up_set constraint x n) (count_from 0 m)

map-append : (f : ℕ → List ℕ) (xs ys : List ℕ) → map f (xs ++ ys) ≡ map f xs ++ map f ys
map-append f [] ys = refl
map-append f (x ∷ xs) ys = ap (λ l. f x ∷ l) (map-append f xs ys)

pub up_sets_more : (constraint : Constraint) (n m : ℕ) → up_sets constraint n (m + 1) ≡ up_sets constraint n m ++ up_set constraint m n ∷ []
up_sets_more constraint n m = ap (map (λ x. up_set constraint x n)) (sym (count_push m (count_from 0 m) refl)) ∙ map-append (λ x. up_set constraint x n) (count_from 0 m) (m ∷ [])

pub length-up_sets : (constraint : Constraint) (n m : ℕ) → length (up_sets constraint n m) ≡ m
length-up_sets constraint n m = length-map' (λ x. up_set constraint x n) (count_from 0 m) ∙ length-count_from 0 m

module _ (constraint : Constraint) (n : ℕ) (ups : List (List ℕ)) (e : ups ≡ up_sets constraint n n) where
  up_at : (x : ℕ) (d : List ℕ) → x < n → get_or ups x d ≡ up_set constraint x n
  up_at x d h =
      ap (λ l. get_or l x d) e ∙ get_or-map (λ x. up_set constraint x n) (count_from 0 n) x 0 d (let l = length-count_from 0 n in omega (arith, l))
      ∙ ap (λ y. up_set constraint y n) (let g = get_or-count_from 0 n x 0 h in g ∙ (let z : 0 + x ≡ x = omega arith in z))

  up_past : (x : ℕ) → n ≤ x → ups_in ups x ≡ x ∷ []
  up_past x h = get_or_past ups x (x ∷ []) (let l = length-up_sets constraint n n in omega (arith, l, ap length e))

  pub ups_below : (x y : ℕ) → x < n → IsIn y (get_or ups x []) → y < n
  ups_below x y h i = (IsIn-up_set_cases constraint x y n (subst (IsIn y) (up_at x [] h) i)).0

  pub stronger : IsConstraint MAX_LABELS constraint → HasStronger constraint n (ups_in ups)
  stronger fine x y = (there, back)
    where
      there : IsIn y (ups_in ups x) → IsAbove constraint n y x
      there i = elim (cases_lt x n) [
        | inl h ↦ let two = IsIn-up_set_cases constraint x y n (subst (IsIn y) (up_at x (x ∷ []) h) i) in inr (h, two.0, two.1)
        | inr h ↦ inl (one_label y x (subst (IsIn y) (up_past x h) i))
      ]

      back : IsAbove constraint n y x → IsIn y (ups_in ups x)
      back (inl same) = elim (cases_lt x n) [
        | inl h ↦ subst (IsIn y) (sym (up_at x (x ∷ []) h))
            (subst (λ z. IsIn z (up_set constraint x n)) (sym same) (IsIn-up_set constraint x x n h (IsAtLeastAsStrong-refl constraint MAX_LABELS x fine)))
        | inr h ↦ subst (IsIn y) (sym (up_past x h)) (subst (λ z. IsIn z (x ∷ [])) (sym same) (Contains-here x []))
      ]
      back (inr three) = subst (IsIn y) (sym (up_at x (x ∷ []) three.0)) (IsIn-up_set constraint x y n three.1 three.2)

  pub ups_strong : IsConstraint MAX_LABELS constraint → IsStrength constraint (ups_in ups)
  ups_strong fine = strength_law constraint n (ups_in ups) (stronger fine)

-- ---- a configuration whose labels go up
module _ (constraint : Constraint) (ups : ℕ → List ℕ) (strong : IsStrength constraint ups) where
  pub up_config : (c : List ℕ) → length c ≡ constraint.degree → Has constraint c → IsGood constraint (map ups c)
  up_config c count held = record {
    count = length-map' ups c ∙ count;
    filled = filled c;
    choice = λ e k. strong.keeps c e (beside c e k) held;
  }
    where
      filled : (c : List ℕ) → AreFilled (map ups c)
      filled [] = tt
      filled (x ∷ c) = (IsIn-filled x (ups x) (strong.holds x), filled c)

      beside : (c e : List ℕ) → IsChoice e (map ups c) → AllZip (λ x y. IsIn y (ups x)) c e
      beside [] [] k = tt
      beside [] (y ∷ e) k = absurd k
      beside (x ∷ c) [] k = absurd k
      beside (x ∷ c) (y ∷ e) k = (k.0, beside c e k.1)

-- a table of sets, with a test of each set's labels, takes one more
pub record IsTable (P : ℕ → ℕ → Bool) (n label : ℕ) (table : List (List ℕ)) : Type 0 where
  pub count : length table ≡ label
  pub told : (x z : ℕ) → x < label → z < n → has (get_or table x []) z ≡ P x z

pub table_more : (P : ℕ → ℕ → Bool) (n label : ℕ) (table more : List (List ℕ)) (set : List ℕ) → IsTable P n label table → more ≡ table ++ set ∷ []
    → ((z : ℕ) → z < n → has set z ≡ P label z) → IsTable P n (label + 1) more
table_more P n label table more set so_far pushed last =
    let count = so_far.count in
    record {
      count = ap length pushed ∙ length-append table (set ∷ []) ∙ (let e : length table + 1 ≡ label + 1 = omega (arith, count) in e);
      told = λ x z h k. elim (cases_lt x label) [
        | inl less ↦ ap (λ s. has s z) (ap (λ l. get_or l x []) pushed ∙ get_or-front table (set ∷ []) x (omega (arith, less, count))) ∙ so_far.told x z less k
        | inr past ↦
            let same : x ≡ label = omega (arith, h, past) in
            ap (λ s. has s z) (ap (λ l. get_or l x []) pushed ∙ ap (λ i. get_or (table ++ set ∷ []) i []) (same ∙ sym count) ∙ get_or-last table set) ∙ last z k ∙ ap (λ y. P y z) (sym same)
      ];
    }
  where
    get_or-front : (xs ys : List (List ℕ)) (i : ℕ) → i < length xs → get_or (xs ++ ys) i [] ≡ get_or xs i []
    get_or-front [] ys i h = absurd (omega arith)
    get_or-front (x ∷ xs) ys zero h = refl
    get_or-front (x ∷ xs) ys (suc i) h = get_or-front xs ys i (omega arith)

    get_or-last : (xs : List (List ℕ)) (y : List ℕ) → get_or (xs ++ y ∷ []) (length xs) [] ≡ y
    get_or-last [] y = refl
    get_or-last (x ∷ xs) y = get_or-last xs y

-- the labels that a label goes up to are below the number
pub labels_up : (ups : List (List ℕ)) (n : ℕ) → length ups ≡ n → ((x y : ℕ) → x < n → IsIn y (get_or ups x []) → y < n) → (x : ℕ) → x < n → AllByRecursion (λ z. z < n) (ups_in ups x)
labels_up ups n count below x h =
    AllByRecursion-from_contains (λ z. z < n) (ups_in ups x) (λ y i. below x y h (subst (IsIn y) (read_within ups x (x ∷ []) [] (omega (arith, h, count))) i))

-- ---- the weakest labels of a set
pub weakest_more : (ups : ℕ → List ℕ) (n : ℕ) (s rest weakest more : List ℕ) (x : ℕ) → IsIn x s → rest ≡ filter (λ z. not (has (ups x) z)) s → IsWithin weakest rest → IsWithin rest (with_stronger ups weakest)
    → more ≡ with_label weakest x → IsWithin more s × IsWithin s (with_stronger ups more)
weakest_more ups n s rest weakest more x here e within whole pushed = (
  (λ z i. elim (IsIn-union_cases weakest (x ∷ []) z (subst (IsIn z) pushed i)) [
    | inl j ↦ (Contains-filter_cases (λ z. not (has (ups x) z)) s z (subst (IsIn z) e (within z j))).0
    | inr j ↦ subst (λ y. IsIn y s) (sym (one_label z x j)) here
  ]),
  (λ z i. elim (has (ups x) z) as (λ b. has (ups x) z ≡ b → IsIn z (with_stronger ups more)) [
    | true ↦ λ t. in_with_stronger ups more x z (subst (IsIn x) (sym pushed) (IsIn-union weakest (x ∷ []) x (inr (Contains-here x [])))) (has-IsIn (ups x) z t)
    | false ↦ λ t.
        let a = of_with_stronger ups weakest z (whole z (subst (IsIn z) (sym e) (Contains-filter (λ z. not (has (ups x) z)) s z i (ap not t)))) in
        in_with_stronger ups more a.0 z (subst (IsIn a.0) (sym pushed) (IsIn-union weakest (x ∷ []) a.0 (inl a.1))) a.2
  ] refl),
)

module _ (constraint : Constraint) (ups : ℕ → List ℕ) (strong : IsStrength constraint ups) where
  -- a choice of the sets is one of their weakest labels, gone up
  pub lowered : (weakest sets : List (List ℕ)) (c : List ℕ) → AllZip (IsWeakest ups) weakest sets → IsChoice c sets → (e : List ℕ) × IsChoice e weakest × AllZip (λ x y. IsIn y (ups x)) e c
  lowered [] [] [] w k = ([], tt, tt)
  lowered [] [] (y ∷ c) w k = absurd k
  lowered [] (s ∷ sets) c w k = absurd w
  lowered (g ∷ weakest) [] c w k = absurd w
  lowered (g ∷ weakest) (s ∷ sets) [] w k = absurd k
  lowered (g ∷ weakest) (s ∷ sets) (y ∷ c) w k =
      let a = of_with_stronger ups g y (w.0.1 y k.0) in
      let more = lowered weakest sets c w.1 k.1 in
      (a.0 ∷ more.0, (a.1, more.1), (a.2, more.2))

  weakest_set : (weakest sets : List (List ℕ)) (i x : ℕ) → AllZip (IsWeakest ups) weakest sets → AllZip (IsWeakest ups) (slice_set weakest i (x ∷ [])) (slice_set sets i (x ∷ []))
  weakest_set [] [] i x w = tt
  weakest_set [] (s ∷ sets) i x w = absurd w
  weakest_set (g ∷ weakest) [] i x w = absurd w
  weakest_set (g ∷ weakest) (s ∷ sets) zero x w = (((λ z i. i), (λ z i. in_with_stronger ups (x ∷ []) x z (Contains-here x []) (subst (λ y. IsIn y (ups x)) (sym (one_label z x i)) (strong.holds x)))), w.1)
  weakest_set (g ∷ weakest) (s ∷ sets) (suc i) x w = (w.0, weakest_set weakest sets i x w.1)

  pub held_choice : (weakest sets : List (List ℕ)) (c : List ℕ) → AllZip (IsWeakest ups) weakest sets → IsChoice c weakest → IsChoice c sets
  held_choice [] [] [] w k = tt
  held_choice [] [] (y ∷ c) w k = absurd k
  held_choice [] (s ∷ sets) c w k = absurd w
  held_choice (g ∷ weakest) [] c w k = absurd w
  held_choice (g ∷ weakest) (s ∷ sets) [] w k = absurd k
  held_choice (g ∷ weakest) (s ∷ sets) (y ∷ c) w k = (w.0.0 y k.0, held_choice weakest sets c w.1 k.1)

  -- the weakest labels tell whether all choices are configurations
  pub weakest_tell : (weakest sets alone : List (List ℕ)) (i x : ℕ) → AllZip (IsWeakest ups) weakest sets → alone ≡ slice_set weakest i (x ∷ [])
      → AreGoodChoices constraint alone ↔ AreGoodChoices constraint (slice_set sets i (x ∷ []))
  weakest_tell weakest sets alone i x w e = (
    (λ good c k.
        let a = lowered (slice_set weakest i (x ∷ [])) (slice_set sets i (x ∷ [])) c (weakest_set weakest sets i x w) k in
        strong.keeps a.0 c a.2 (good a.0 (subst (IsChoice a.0) (sym e) a.1))),
    (λ good c k. good c (held_choice (slice_set weakest i (x ∷ [])) (slice_set sets i (x ∷ [])) c (weakest_set weakest sets i x w) (subst (IsChoice c) e k))),
  )

-- one more of the weakest labels
zip_push : (R : List ℕ → List ℕ → Type 0) (xs ys : List (List ℕ)) (x y : List ℕ) → AllZip R xs ys → R x y → AllZip R (xs ++ x ∷ []) (ys ++ y ∷ [])
zip_push R [] [] x y h k = (k, tt)
zip_push R [] (t ∷ ys) x y h k = absurd h
zip_push R (s ∷ xs) [] x y h k = absurd h
zip_push R (s ∷ xs) (t ∷ ys) x y h k = (h.0, zip_push R xs ys x y h.1 k)

pub weakest_push : (ups : ℕ → List ℕ) (sets weakest more : List (List ℕ)) (i : ℕ) (w set : List ℕ) → i < length sets → set ≡ get_or sets i set → AllZip (IsWeakest ups) weakest (take i sets) → more ≡ weakest ++ w ∷ []
    → IsWeakest ups w set → AllZip (IsWeakest ups) more (take (i + 1) sets)
weakest_push ups sets weakest more i w set inside is so_far pushed here =
    subst (λ l. AllZip (IsWeakest ups) l (take (i + 1) sets)) (sym pushed)
    (subst (AllZip (IsWeakest ups) (weakest ++ w ∷ [])) (sym (take_more sets i set inside ∙ ap (λ s. take i sets ++ s ∷ []) (sym is))) (zip_push (IsWeakest ups) weakest (take i sets) w set so_far here))

pub below_push : (n : ℕ) (sets more : List (List ℕ)) (set : List ℕ) → AllByRecursion (IsLabelSet n) sets → more ≡ sets ++ set ∷ [] → IsLabelSet n set → AllByRecursion (IsLabelSet n) more
below_push n sets more set h e k = subst (AllByRecursion (IsLabelSet n)) (sym e) (push sets h)
  where
    push : (xs : List (List ℕ)) → AllByRecursion (IsLabelSet n) xs → AllByRecursion (IsLabelSet n) (xs ++ set ∷ [])
    push [] h = (k, tt)
    push (x ∷ xs) h = (h.0, push xs h.1)

pub label_sets_more : (n m : ℕ) → n ≤ m → (sets : List (List ℕ)) → AllByRecursion (IsLabelSet n) sets → AllByRecursion (IsLabelSet m) sets
label_sets_more n m h sets k = AllByRecursion-weaker (IsLabelSet n) (IsLabelSet m) (λ s a. (a.0, AllByRecursion-weaker (λ x. x < n) (λ x. x < m) (λ x l. omega (arith, l, h)) s a.1)) sets k

-- a constraint of labels below n
pub constraint_below : (constraint : Constraint) (n : ℕ) → IsConstraint MAX_LABELS constraint → AllByRecursion (AllByRecursion (λ x. x < n)) constraint.configs → IsConstraint n constraint
constraint_below constraint n fine below = record {
  least = fine.least;
  most = fine.most;
  configs = AllByRecursion-from_contains (IsConfig constraint.degree n) constraint.configs (λ c h.
      let is : IsConfig constraint.degree MAX_LABELS c = AllByRecursion-contains (IsConfig constraint.degree MAX_LABELS) constraint.configs c fine.configs h in
      record { count = is.count; below = AllByRecursion-contains (AllByRecursion (λ x. x < n)) constraint.configs c below h; ascends = is.ascends });
  ascends = fine.ascends;
}
