-- Tables that are built row by row, and changed in one row.
use Rattle.std.proofs.Common.{◌≡◌, ◌∷◌, ◌++◌, ◌∙◌, ◌+◌, ℕ, zero, suc, ◌<◌, true, false, List, [], length, get_or, set, sym, ap, subst, arith, inl, inr, ◌⊎◌, length-append, get_or-set_other, get_or-set_same}
use Rattle.std.specs.Prelude.{◌↔◌}
use Rattle.std.proofs.Math.ListN.{get_or-append}
use Rattle.std.proofs.Math.Seq.{get_or-append_seam}
use Rattle.std.proofs.lemmas.Bool.{false≢true}
use Rattle.re_labels.proofs.Membership.{AllByRecursion-contains, Contains-none, In-Contains, not_all}
use Rattle.re_labels.proofs.Sets.{has-IsIn, IsIn-has, IsIn-union, IsIn-union_cases, IsIn-with_label_cases, IsIn-with_label_new, IsIn-with_label_old, within-IsWithin}
use Rattle.re_labels.proofs.Tests.{below-cases, same_or_not}
use Rattle.re_labels.specs.Sets.{IsIn, IsLabelSet, has, union, with_label, within}
use Rattle.re_flexible.specs.Relations.{Relates}

-- only what has a row leads anywhere
pub related_low : (table : List (List ℕ)) (x y : ℕ) → Relates table x y → x < length table
related_low [] x y held = absurd (Contains-none y held)
related_low (row ∷ table) zero y held = omega arith
related_low (row ∷ table) (suc x) y held = let low : x < length table = related_low table x y held in omega (arith, low)

-- a label of a set is below what its labels are below
pub in_low : (n : ℕ) (labels : List ℕ) (x : ℕ) → IsLabelSet n labels → IsIn x labels → x < n
in_low n labels x sets held = AllByRecursion-contains (λ y. y < n) labels x sets.1 held

-- ---- tables that are built
pub record IsBuilt (R : ℕ → ℕ → Type 0) (table : List (List ℕ)) (n : ℕ) : Type 0 where
  pub count : length table ≡ n
  pub rows : (x y : ℕ) → x < n → Relates table x y ↔ R x y

pub built_more : (R : ℕ → ℕ → Type 0) (table new : List (List ℕ)) (n : ℕ) (row : List ℕ) → IsBuilt R table n → new ≡ table ++ row ∷ [] → ((y : ℕ) → IsIn y row ↔ R n y) → IsBuilt R new (n + 1)
built_more R table new n row built e rows = record {
  count = (let long : length new ≡ length table + 1 = ap length e ∙ length-append table (row ∷ []) in let was : length table ≡ n = built.count in omega (arith, long, was));
  rows = λ x y low. subst (λ t. Relates t x y ↔ R x y) (sym e) (elim (below-cases x n low) [
    | inl less ↦ subst (λ s. IsIn y s ↔ R x y) (sym (get_or-append table (row ∷ []) [] x (let was : length table ≡ n = built.count in omega (arith, was, less)))) (built.rows x y less)
    | inr at ↦ subst (λ k. Relates (table ++ row ∷ []) k y ↔ R k y) (sym at)
        (subst (λ k. IsIn y (get_or (table ++ row ∷ []) k []) ↔ R n y) built.count (subst (λ s. IsIn y s ↔ R n y) (sym (get_or-append_seam table row [] [])) (rows y)))
  ]);
}

-- all rows are there
pub built_all : (R : ℕ → ℕ → Type 0) (table : List (List ℕ)) (n : ℕ) → IsBuilt R table n → ((x y : ℕ) → R x y → x < n) → (x y : ℕ) → Relates table x y ↔ R x y
built_all R table n built low x y = (
  λ held. (built.rows x y (let here : x < length table = related_low table x y held in let was : length table ≡ n = built.count in omega (arith, here, was))).0 held,
  λ holds. (built.rows x y (low x y holds)).1 holds,
)

-- ---- another row at one place
pub changed : (table : List (List ℕ)) (k : ℕ) (row : List ℕ) (x y : ℕ) → k < length table → Relates (set table k row) x y → ((x ≡ k) × IsIn y row) ⊎ ((x ≡ k → ⊥) × Relates table x y)
changed table k row x y low held = elim (same_or_not x k) [
  | inl e ↦ inl (e, subst (IsIn y) (get_or-set_same table k row [] low) (subst (λ i. Relates (set table k row) i y) e held))
  | inr apart ↦ inr (apart, subst (IsIn y) (get_or-set_other table k x row [] apart) held)
]

pub changed_at : (table : List (List ℕ)) (k : ℕ) (row : List ℕ) (y : ℕ) → k < length table → IsIn y row → Relates (set table k row) k y
changed_at table k row y low held = subst (IsIn y) (sym (get_or-set_same table k row [] low)) held

pub changed_other : (table : List (List ℕ)) (k : ℕ) (row : List ℕ) (x y : ℕ) → (x ≡ k → ⊥) → Relates table x y → Relates (set table k row) x y
changed_other table k row x y apart held = subst (IsIn y) (sym (get_or-set_other table k x row [] apart)) held

-- a row that grows by some labels
pub grown : (table new : List (List ℕ)) (k : ℕ) (row more : List ℕ) → k < length table → row ≡ get_or table k [] → new ≡ set table k (union row more)
    → (x y : ℕ) → Relates new x y ↔ (Relates table x y ⊎ ((x ≡ k) × IsIn y more))
grown table new k row more low at e x y = subst (λ t. Relates t x y ↔ (Relates table x y ⊎ ((x ≡ k) × IsIn y more))) (sym e) (
  λ held. elim (changed table k (union row more) x y low held) [
    | inl own ↦ elim (IsIn-union_cases row more y own.1) [
      | inl old ↦ inl (subst (λ i. Relates table i y) (sym own.0) (subst (IsIn y) at old))
      | inr added ↦ inr (own.0, added)
    ]
    | inr other ↦ inl other.1
  ],
  λ either. elim (same_or_not x k) [
    | inl same ↦ subst (λ i. Relates (set table k (union row more)) i y) (sym same) (changed_at table k (union row more) y low (IsIn-union row more y (elim either [
      | inl old ↦ inl (subst (IsIn y) (sym at) (subst (λ i. Relates table i y) same old))
      | inr added ↦ inr added.1
    ])))
    | inr apart ↦ changed_other table k (union row more) x y apart (elim either [ inl old ↦ old | inr added ↦ absurd (apart added.0) ])
  ],
)

-- ---- what the first labels of a set lead to
abbrev pub LedTo : List (List ℕ) → List ℕ → ℕ → ℕ → Type 0
LedTo table labels n y = (z : ℕ) × (z < n) × IsIn z labels × Relates table z y

pub led_none : (table : List (List ℕ)) (labels all : List ℕ) → all ≡ [] → (y : ℕ) → IsIn y all ↔ LedTo table labels 0 y
led_none table labels all e y = (λ held. absurd (Contains-none y (subst (IsIn y) e held)), λ led. absurd (let low : led.0 < 0 = led.1 in omega (arith, low)))

pub led_more : (table : List (List ℕ)) (labels all new row : List ℕ) (n : ℕ) → ((y : ℕ) → IsIn y all ↔ LedTo table labels n y) → has labels n ≡ true → row ≡ get_or table n [] → new ≡ union all row
    → (y : ℕ) → IsIn y new ↔ LedTo table labels (n + 1) y
led_more table labels all new row n so_far held at e y = (
  λ there. elim (IsIn-union_cases all row y (subst (IsIn y) e there)) [
    | inl old ↦ let (z, low, own, leads) = (so_far y).0 old in (z, omega (arith, low), own, leads)
    | inr here ↦ (n, omega arith, has-IsIn labels n held, subst (IsIn y) at here)
  ],
  λ led. subst (IsIn y) (sym e) (IsIn-union all row y (elim (below-cases led.0 n led.1) [
    | inl less ↦ inl ((so_far y).1 (led.0, less, led.2, led.3))
    | inr same ↦ inr (subst (IsIn y) (sym at) (subst (λ i. Relates table i y) same led.3))
  ])),
)

pub led_past : (table : List (List ℕ)) (labels all new : List ℕ) (n : ℕ) → ((y : ℕ) → IsIn y all ↔ LedTo table labels n y) → has labels n ≡ false → new ≡ all
    → (y : ℕ) → IsIn y new ↔ LedTo table labels (n + 1) y
led_past table labels all new n so_far missing e y = (
  λ there. let (z, low, own, leads) = (so_far y).0 (subst (IsIn y) e there) in (z, omega (arith, low), own, leads),
  λ led. subst (IsIn y) (sym e) ((so_far y).1 (elim (below-cases led.0 n led.1) [
    | inl less ↦ (led.0, less, led.2, led.3)
    | inr same ↦ absurd (false≢true (sym missing ∙ IsIn-has labels n (subst (λ i. IsIn i labels) same led.2)))
  ])),
)

pub led_all : (table : List (List ℕ)) (labels all : List ℕ) (n N : ℕ) → ((y : ℕ) → IsIn y all ↔ LedTo table labels n y) → n ≡ N → IsLabelSet N labels
    → (y : ℕ) → IsIn y all ↔ ((z : ℕ) × IsIn z labels × Relates table z y)
led_all table labels all n N so_far e sets y = (
  λ there. let (z, low, own, leads) = (so_far y).0 there in (z, own, leads),
  λ led. (so_far y).1 (led.0, (let low : led.0 < N = in_low N labels led.0 sets led.1 in omega (arith, low, e)), led.1, led.2),
)

-- ---- rows of built tables
pub union_row : (P Q : ℕ → Type 0) (one other both : List ℕ) → both ≡ union one other → ((y : ℕ) → IsIn y one ↔ P y) → ((y : ℕ) → IsIn y other ↔ Q y) → (y : ℕ) → IsIn y both ↔ (P y ⊎ Q y)
union_row P Q one other both e first second y = (
  λ held. elim (IsIn-union_cases one other y (subst (IsIn y) e held)) [ inl a ↦ inl ((first y).0 a) | inr b ↦ inr ((second y).0 b) ],
  λ either. subst (IsIn y) (sym e) (IsIn-union one other y (elim either [ inl a ↦ inl ((first y).1 a) | inr b ↦ inr ((second y).1 b) ])),
)

-- the labels of a row
pub row_is : (table : List (List ℕ)) (k : ℕ) (row : List ℕ) → row ≡ get_or table k [] → (y : ℕ) → IsIn y row ↔ Relates table k y
row_is table k row e y = (λ held. subst (IsIn y) e held, λ held. subst (IsIn y) (sym e) held)

pub own_row : (N : ℕ) (table : List (List ℕ)) (k : ℕ) (row new : List ℕ) → k < N → row ≡ get_or table k [] → new ≡ with_label row k → (y : ℕ) → IsIn y new ↔ ((k < N) × ((k ≡ y) ⊎ Relates table k y))
own_row N table k row new low at e y = (
  λ held. (low, elim (IsIn-with_label_cases row k y (subst (IsIn y) e held)) [ inl same ↦ inl same | inr old ↦ inr (subst (IsIn y) at old) ]),
  λ both. subst (IsIn y) (sym e) (elim both.1 [ inl same ↦ subst (λ i. IsIn i (with_label row k)) same (IsIn-with_label_new row k) | inr old ↦ IsIn-with_label_old row k y (subst (IsIn y) (sym at) old) ]),
)

-- a set with another one, where it has a label
pub joined_has : (own more new : List ℕ) (k : ℕ) → has own k ≡ true → new ≡ union own more → (y : ℕ) → IsIn y new ↔ (IsIn y own ⊎ (IsIn k own × IsIn y more))
joined_has own more new k held e y = (
  λ there. elim (IsIn-union_cases own more y (subst (IsIn y) e there)) [ inl a ↦ inl a | inr b ↦ inr (has-IsIn own k held, b) ],
  λ either. subst (IsIn y) (sym e) (IsIn-union own more y (elim either [ inl a ↦ inl a | inr b ↦ inr b.1 ])),
)

pub joined_not : (own more : List ℕ) (k : ℕ) → has own k ≡ false → (y : ℕ) → IsIn y own ↔ (IsIn y own ⊎ (IsIn k own × IsIn y more))
joined_not own more k missing y = (λ held. inl held, λ either. elim either [ inl a ↦ a | inr b ↦ absurd (false≢true (sym missing ∙ IsIn-has own k b.0)) ])

-- rows that lie within others
pub within_more : (first second : List (List ℕ)) (n : ℕ) (row other : List ℕ) → ((x y : ℕ) → x < n → Relates first x y → Relates second x y) → row ≡ get_or first n [] → other ≡ get_or second n [] → within row other ≡ true
    → (x y : ℕ) → x < n + 1 → Relates first x y → Relates second x y
within_more first second n row other so_far at to inside x y low held = elim (below-cases x n low) [
  | inl less ↦ so_far x y less held
  | inr same ↦ subst (λ i. Relates second i y) (sym same) (subst (IsIn y) to (within-IsWithin row other inside y (subst (IsIn y) (sym at) (subst (λ i. Relates first i y) same held))))
]

pub new_in : (N : ℕ) (first second : List (List ℕ)) (n : ℕ) (row other : List ℕ) → n < N → IsLabelSet N row → row ≡ get_or first n [] → other ≡ get_or second n [] → within row other ≡ false
    → (x : ℕ) × (y : ℕ) × (x < N) × (y < N) × Relates first x y × (Relates second x y → ⊥)
new_in N first second n row other low sets at to outside =
    let (y, own, missing) = not_all (has other) row outside in
    let held : IsIn y row = In-Contains y row own in
    (n, y, low, in_low N row y sets held, subst (IsIn y) at held, λ there. false≢true (sym missing ∙ IsIn-has other y (subst (IsIn y) (sym to) there)))
