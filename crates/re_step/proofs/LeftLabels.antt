-- Labels that complete choices.
use Rattle.std.proofs.Common.{◌≡◌, ℕ, zero, suc, ◌<◌, not, List, [], ◌∷◌, ◌++◌, length, sym, ap, ◌∙◌, subst, ◌⊎◌, inl, inr, arith, append_assoc, append-nil}
use Rattle.std.specs.Prelude.{Contains, slice_set, ◌↔◌}
use Rattle.std.proofs.lemmas.List.Elements.{Contains-append_right}
use Rattle.re_labels.proofs.Membership.{Contains-cases, Contains-here, Contains-none}
use Rattle.re_labels.proofs.Sets.{has-IsIn, IsIn-meet, IsIn-meet_cases, IsIn-with_label_cases, IsIn-with_label_old}
use Rattle.re_labels.specs.Sets.{IsIn, has, meet, with_label, without_label}
use Rattle.re_boxes.proofs.NextLabels.{IsIn-with_new}
use Rattle.re_boxes.proofs.DrawnChoices.{good_last, label_cases, label_kept}
use Rattle.re_boxes.specs.Choosing.{AreGoodBehind}
use Rattle.re_labels.specs.Constraints.{Constraint, Has}

-- a list with one element set
pub set_cases : {X : Type 0} (l : List X) (i : ℕ) (v y : X) → Contains (slice_set l i v) y → (y ≡ v) ⊎ Contains l y
set_cases [] i v y h = inr h
set_cases (x ∷ l) zero v y h = elim (Contains-cases y v l h) [
  | inl e ↦ inl e
  | inr k ↦ inr (Contains-append_right (x ∷ []) l y k)
]
set_cases (x ∷ l) (suc i) v y h = elim (Contains-cases y x (slice_set l i v) h) [
  | inl e ↦ inr (subst (Contains (x ∷ l)) (sym e) (Contains-here x l))
  | inr k ↦ elim (set_cases l i v y k) [
    | inl e ↦ inl e
    | inr j ↦ inr (Contains-append_right (x ∷ []) l y j)
  ]
]

-- ---- labels with a property
module _ (P : ℕ → Type 0) where
  pub none_left : (among : List ℕ) → among ≡ [] → (x : ℕ) → IsIn x among ↔ (IsIn x among × P x)
  none_left among e x = ((λ h. absurd (Contains-none x (subst (IsIn x) e h))), (λ h. h.0))

  pub all_left : (among : List ℕ) → ((x : ℕ) → P x) → (x : ℕ) → IsIn x among ↔ (IsIn x among × P x)
  all_left among p x = ((λ h. (h, p x)), (λ h. h.0))

  module _ (among left more : List ℕ) (label : ℕ) (is : left ≡ without_label among label) (told : (x : ℕ) → IsIn x more ↔ (IsIn x left × P x)) where
    pub one_kept : (out : List ℕ) → IsIn label among → out ≡ with_label more label → P label → (x : ℕ) → IsIn x out ↔ (IsIn x among × P x)
    one_kept out held e p x = (
      (λ h. elim (IsIn-with_label_cases more label x (subst (IsIn x) e h)) [
        | inl same ↦ (subst (λ y. IsIn y among) same held, subst P same p)
        | inr i ↦ let t = (told x).0 i in (label_kept among label x (subst (IsIn x) is t.0), t.1)
      ]),
      (λ h. subst (IsIn x) (sym e) (elim (label_cases among label x h.0) [
        | inl same ↦ IsIn-with_new more label x (sym same)
        | inr i ↦ IsIn-with_label_old more label x ((told x).1 (subst (IsIn x) (sym is) i, h.1))
      ])),
    )

    pub one_passed : (P label → ⊥) → (x : ℕ) → IsIn x more ↔ (IsIn x among × P x)
    one_passed never x = (
      (λ h. let t = (told x).0 h in (label_kept among label x (subst (IsIn x) is t.0), t.1)),
      (λ h. elim (label_cases among label x h.0) [
        | inl same ↦ absurd (never (subst P same h.1))
        | inr i ↦ (told x).1 (subst (IsIn x) (sym is) i, h.1)
      ]),
    )

  pub met : (n : ℕ) (among all out : List ℕ) → out ≡ meet among all → ((x : ℕ) → IsIn x among → x < n) → ((x : ℕ) → x < n → IsIn x all ↔ P x) → (x : ℕ) → IsIn x out ↔ (IsIn x among × P x)
  met n among all out e below told x = (
    (λ h. let t = IsIn-meet_cases among all x (subst (IsIn x) e h) in (t.0, (told x (below x t.0)).0 t.1)),
    (λ h. subst (IsIn x) (sym e) (IsIn-meet among all x h.0 ((told x (below x h.0)).1 h.1))),
  )

  pub whole_told : (n : ℕ) (whole all : List ℕ) → ((z : ℕ) → z < n → has whole z ≡ not (has [] z)) → ((x : ℕ) → IsIn x all ↔ (IsIn x whole × P x)) → (x : ℕ) → x < n → IsIn x all ↔ P x
  whole_told n whole all in_whole told x below = ((λ h. ((told x).0 h).1), (λ p. (told x).1 (has-IsIn whole x (in_whole x below), p)))

-- ---- choices behind drawn labels
module _ (constraint : Constraint) where
  pub last_told : (next : List ℕ) (others : List (List ℕ)) (among left : List ℕ) → length others < 1 → ((x : ℕ) → IsIn x left ↔ (IsIn x among × Has constraint (x ∷ next)))
      → (x : ℕ) → IsIn x left ↔ (IsIn x among × AreGoodBehind constraint (x ∷ next) others)
  last_told next others among left none told x = (
    (λ h. let t = (told x).0 h in (t.0, good_last constraint (x ∷ next) others none t.1)),
    (λ h. (told x).1 (h.0, alone others none h.1)),
  )
    where
      alone : (others : List (List ℕ)) → length others < 1 → AreGoodBehind constraint (x ∷ next) others → Has constraint (x ∷ next)
      alone [] none good = subst (Has constraint) (append-nil (x ∷ next)) (good [] tt)
      alone (s ∷ others) none good = absurd (omega (arith, none))

  module _ (drawn next first rest : List ℕ) (others : List (List ℕ)) (label : ℕ) (held : IsIn label first) (pushed : next ≡ drawn ++ label ∷ []) (is : rest ≡ without_label first label) where
    good_whole : (x : ℕ) → AreGoodBehind constraint (x ∷ next) others → AreGoodBehind constraint (x ∷ drawn) (without_label first label ∷ others) → AreGoodBehind constraint (x ∷ drawn) (first ∷ others)
    good_whole x here more [] k = absurd k
    good_whole x here more (z ∷ c) k = elim (label_cases first label z k.0) [
      | inl e ↦ subst (λ v. Has constraint (x ∷ v)) (ap (λ v. v ++ c) pushed ∙ append_assoc drawn (label ∷ []) c ∙ ap (λ y. drawn ++ y ∷ c) (sym e)) (here c k.1)
      | inr i ↦ more (z ∷ c) (i, k.1)
    ]

    good_here : (x : ℕ) → AreGoodBehind constraint (x ∷ drawn) (first ∷ others) → AreGoodBehind constraint (x ∷ next) others
    good_here x good c k = subst (λ v. Has constraint (x ∷ v)) (sym (ap (λ v. v ++ c) pushed ∙ append_assoc drawn (label ∷ []) c)) (good (label ∷ c) (held, k))

    good_more : (x : ℕ) → AreGoodBehind constraint (x ∷ drawn) (first ∷ others) → AreGoodBehind constraint (x ∷ drawn) (without_label first label ∷ others)
    good_more x good [] k = absurd k
    good_more x good (z ∷ c) k = good (z ∷ c) (label_kept first label z k.0, k.1)

    pub both_told : (among left out : List ℕ) → ((x : ℕ) → IsIn x left ↔ (IsIn x among × AreGoodBehind constraint (x ∷ next) others)) → ((x : ℕ) → IsIn x out ↔ (IsIn x left × AreGoodBehind constraint (x ∷ drawn) (rest ∷ others)))
        → (x : ℕ) → IsIn x out ↔ (IsIn x among × AreGoodBehind constraint (x ∷ drawn) (first ∷ others))
    both_told among left out here more x = (
      (λ h. let t = (more x).0 h in let u = (here x).0 t.0 in (u.0, good_whole x u.1 (subst (λ s. AreGoodBehind constraint (x ∷ drawn) (s ∷ others)) is t.1))),
      (λ h. (more x).1 ((here x).1 (h.0, good_here x h.1), subst (λ s. AreGoodBehind constraint (x ∷ drawn) (s ∷ others)) (sym is) (good_more x h.1))),
    )
