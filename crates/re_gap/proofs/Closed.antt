-- Labels of a kind, between any two of which a path of labels of that kind leads: some of them are a flexible set, found by adding those that
-- are met.
use Rattle.std.proofs.Common.{◌≡◌, ℕ, zero, suc, ◌+◌, ◌*◌, ◌<◌, Bool, true, false, List, [], ◌∷◌, length, sym, subst, ◌⊎◌, inl, inr, arith}
use Rattle.std.specs.Prelude.{Contains, not}
use Rattle.std.specs.List.{AllByRecursion}
use Rattle.re_forests.specs.Flexible.{IsFlexible, Leads, side}
use Rattle.re_layers.proofs.Different.{pigeonhole}
use Rattle.re_layers.proofs.Filters.{either}
use Rattle.re_layers.proofs.FreeNumbers.{Contains-holds, holds, holds-Contains}
use Rattle.re_labels.proofs.Membership.{AllByRecursion-contains, Contains-cases, Contains-here, Contains-none}
use Rattle.re_layers.specs.Networks.{AreDifferent}
use Rattle.re_problem.specs.Problems.{Problem}
use Rattle.re_labels.specs.Constraints.{Constraint, Has}
use Rattle.std.proofs.lemmas.Bool.{false≢true}

-- x and y stand together in some configuration whose other labels are of the kind
abbrev pub JoinsBy : Constraint → (ℕ → Type 0) → ℕ → ℕ → Type 0
JoinsBy constraint Q x y = (rest : List ℕ) × AllByRecursion Q rest × Has constraint (x ∷ y ∷ rest)

-- a path through m nodes leads from x to y, where all labels around its nodes are of the kind
abbrev pub LeadsBy : Problem → (ℕ → Type 0) → Bool → ℕ → ℕ → ℕ → Type 0
LeadsBy problem Q active zero x y = x ≡ y
LeadsBy problem Q active (suc m) x y = (z : ℕ) × Q z × JoinsBy (side problem active) Q x z × LeadsBy problem Q (not active) m z y

module _ (problem : Problem) (Q : ℕ → Type 0) (set : List ℕ) where
  abbrev IsNew : ℕ → Type 0
  IsNew z = Q z × (Contains set z → ⊥)

  of_set : (z : ℕ) → Q z → Contains set z ⊎ IsNew z
  of_set z q = elim (either (holds set z)) [
    | inl e ↦ inl (holds-Contains set z e)
    | inr e ↦ inr (q, λ held. false≢true (subst (λ b. b ≡ true) e (Contains-holds set z held)))
  ]

  all_of_set : (zs : List ℕ) → AllByRecursion Q zs → AllByRecursion (λ z. Contains set z) zs ⊎ ((z : ℕ) × IsNew z)
  all_of_set [] all = inl tt
  all_of_set (z ∷ zs) all = elim (of_set z all.0) [
    | inr new ↦ inr (z, new)
    | inl held ↦ elim (all_of_set zs all.1) [ inr new ↦ inr new | inl rest ↦ inl (held, rest) ]
  ]

  leads_of_set : (active : Bool) (m x y : ℕ) → LeadsBy problem Q active m x y → Leads problem set active m x y ⊎ ((z : ℕ) × IsNew z)
  leads_of_set active zero x y walk = inl walk
  leads_of_set active (suc m) x y walk = elim (of_set walk.0 walk.1) [
    | inr new ↦ inr (walk.0, new)
    | inl held ↦ elim (all_of_set walk.2.0 walk.2.1) [
      | inr new ↦ inr new
      | inl rest ↦ elim (leads_of_set (not active) m walk.0 y walk.3) [
        | inr new ↦ inr new
        | inl on ↦ inl (walk.0, held, (walk.2.0, rest, walk.2.2), on)
      ]
    ]
  ]

-- each member has a property, or something else holds
each_member : (P : ℕ → Type 0) (R : Type 0) (xs : List ℕ) → ((x : ℕ) → Contains xs x → P x ⊎ R) → ((x : ℕ) → Contains xs x → P x) ⊎ R
each_member P R [] each = inl (λ x held. absurd (Contains-none x held))
each_member P R (x ∷ xs) each = elim (each x (Contains-here x xs)) [
  | inr r ↦ inr r
  | inl here ↦ elim (each_member P R xs (λ y held. each y (later y held))) [
    | inr r ↦ inr r
    | inl rest ↦ inl (λ y held. elim (Contains-cases y x xs held) [ inl e ↦ subst P (sym e) here | inr there ↦ rest y there ])
  ]
]
  where
    later : (y : ℕ) → Contains xs y → Contains (x ∷ xs) y
    later y (k, l, e) = (suc k, omega arith, e)

each_kind : (P : Bool → Type 0) (R : Type 0) → ((b : Bool) → P b ⊎ R) → ((b : Bool) → P b) ⊎ R
each_kind P R each = elim (each true) [
  | inr r ↦ inr r
  | inl first ↦ elim (each false) [ inr r ↦ inr r | inl second ↦ inl (λ b. by first second b) ]
]
  where
    by : P true → P false → (b : Bool) → P b
    by first second true = first
    by first second false = second

module _ (problem : Problem) (Q : ℕ → Type 0) (l : ℕ) (low : (x : ℕ) → Q x → x < problem.labels)
    (leads : (active : Bool) (x y : ℕ) → Q x → Q y → LeadsBy problem Q active (suc (2 * l)) x y) where
  IsWhole : List ℕ → Type 0
  IsWhole set = (active : Bool) (x : ℕ) → Contains set x → (y : ℕ) → Contains set y → Leads problem set active (suc (2 * l)) x y

  whole_or_new : (set : List ℕ) → AllByRecursion Q set → IsWhole set ⊎ ((z : ℕ) × IsNew problem Q set z)
  unfolding IsWhole
  whole_or_new set all =
      each_kind (λ active. (x : ℕ) → Contains set x → (y : ℕ) → Contains set y → Leads problem set active (suc (2 * l)) x y)
      ((z : ℕ) × IsNew problem Q set z)
      (λ active.
      each_member (λ x. (y : ℕ) → Contains set y → Leads problem set active (suc (2 * l)) x y) ((z : ℕ) × IsNew problem Q set z) set
      (λ x at.
      each_member (λ y. Leads problem set active (suc (2 * l)) x y) ((z : ℕ) × IsNew problem Q set z) set
      (λ y there.
      leads_of_set problem Q set active (suc (2 * l)) x y
      (leads active x y (AllByRecursion-contains Q set x all at) (AllByRecursion-contains Q set y all there)))))

  grown : (fuel : ℕ) (x : ℕ) (set : List ℕ) → AllByRecursion Q (x ∷ set) → AreDifferent (x ∷ set)
      → problem.labels < length (x ∷ set) + fuel
      → (whole : List ℕ) × IsFlexible problem whole l
  unfolding IsWhole
  grown zero x set all differ more = absurd (
      let few = pigeonhole problem.labels (x ∷ set) differ (λ y held. low y (AllByRecursion-contains Q (x ∷ set) y all held)) in
      omega (arith, few, more))
  grown (suc fuel) x set all differ more = elim (whole_or_new (x ∷ set) all) [
    | inl whole ↦ (
      x ∷ set,
      record {
        some = (x, Contains-here x set);
        leads = λ active y z at there. whole active y at z there;
      },
    )
    | inr new ↦ grown fuel new.0 (x ∷ set) (new.1.0, all) (new.1.1, differ) (omega (arith, more))
  ]

  pub flexible_set : (x : ℕ) → Q x → (set : List ℕ) × IsFlexible problem set l
  flexible_set x q = grown problem.labels x [] (q, tt) ((λ held. Contains-none x held), tt) (omega arith)
