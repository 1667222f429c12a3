-- Walks over the choices behind drawn labels.
use Rattle.std.proofs.Common.{◌≡◌, ℕ, suc, ◌<◌, Bool, true, false, not, cond, eqb, List, [], ◌∷◌, ◌++◌, length, filter, refl, sym, ap, ◌∙◌, subst, ◌⊎◌, inl, inr, arith, append_assoc, append-nil, MatchBool, MatchOption, Option}
use Rattle.std.specs.Prelude.{Contains, IfSome, IsTrue, ◌↔◌}
use Rattle.re_labels.specs.Configs.{sorted}
use Rattle.re_labels.specs.Rows.{IsChoice}
use Rattle.re_labels.proofs.Membership.{AllByRecursion-contains, Contains-cases, Contains-filter, Contains-filter_cases, Contains-here, Contains-none}
use Rattle.re_labels.proofs.Tests.{eqb-same, eqb-true}
use Rattle.re_labels.proofs.Sets.{IsIn-meet_cases}
use Rattle.re_labels.specs.Sets.{IsIn, IsLabelSet, first_of, meet, without_label}
use Rattle.re_labels.specs.Constraints.{Constraint, Has}
use Rattle.re_boxes.specs.Choosing.{AreGoodBehind, AreGoodChoices, IsBadBehind}
use Rattle.re_labels.specs.declared.TheConstants.{MAX_LABELS}

-- ---- a set without one of its labels
filter-longest : (p : ℕ → Bool) (s : List ℕ) → length (filter p s) < suc (length s)
filter-longest p [] = omega arith
filter-longest p (x ∷ s) = elim (p x) as (λ b. length (cond b (x ∷ filter p s) (filter p s)) < suc (suc (length s))) [
  | true ↦ let l = filter-longest p s in omega (arith, l)
  | false ↦ let l = filter-longest p s in omega (arith, l)
]

pub filter-fewer : (p : ℕ → Bool) (s : List ℕ) (x : ℕ) → IsIn x s → p x ≡ false → length (filter p s) < length s
filter-fewer p [] x h e = absurd (Contains-none x h)
filter-fewer p (y ∷ s) x h e = elim (Contains-cases x y s h) [
  | inl same ↦ rw (sym (ap p same) ∙ e) (filter-longest p s)
  | inr i ↦ elim (p y) as (λ b. length (cond b (y ∷ filter p s) (filter p s)) < suc (length s)) [
    | true ↦ let l = filter-fewer p s x i e in omega (arith, l)
    | false ↦ let l = filter-fewer p s x i e in omega (arith, l)
  ]
]

pub without_label-fewer : (s : List ℕ) (x : ℕ) → IsIn x s → length (without_label s x) < length s
without_label-fewer s x h = filter-fewer (λ y. not (eqb y x)) s x h (ap not (eqb-same x))

-- a label of the set is this one or stays
pub label_cases : (s : List ℕ) (x z : ℕ) → IsIn z s → (z ≡ x) ⊎ IsIn z (without_label s x)
label_cases s x z h = elim (eqb z x) as (λ b. eqb z x ≡ b → (z ≡ x) ⊎ IsIn z (without_label s x)) [
  | true ↦ λ e. inl (eqb-true z x e)
  | false ↦ λ e. inr (Contains-filter (λ y. not (eqb y x)) s z h (ap not e))
] refl

pub label_kept : (s : List ℕ) (x z : ℕ) → IsIn z (without_label s x) → IsIn z s
label_kept s x z h = (Contains-filter_cases (λ y. not (eqb y x)) s z h).0

-- ---- walks
module _ (constraint : Constraint) where
  pub found-has : (labels config : List ℕ) (r : Bool) → IsTrue r ↔ Contains constraint.configs config → config ≡ sorted labels → IsTrue r ↔ Has constraint labels
  found-has labels config r known e = subst (λ v. IsTrue r ↔ Contains constraint.configs v) e known

  pub none_behind : (drawn first : List ℕ) (others : List (List ℕ)) → first ≡ [] → AreGoodBehind constraint drawn (first ∷ others)
  none_behind drawn first others e [] k = absurd k
  none_behind drawn first others e (x ∷ c) k = absurd (Contains-none x (subst (IsIn x) e k.0))

  pub good_last : (next : List ℕ) (others : List (List ℕ)) → length others < 1 → Has constraint next → AreGoodBehind constraint next others
  good_last next [] none has [] k = subst (Has constraint) (sym (append-nil next)) has
  good_last next [] none has (x ∷ c) k = absurd k
  good_last next (s ∷ others) none has c k = absurd (omega arith)

  pub bad_none : (drawn : List ℕ) (others : List (List ℕ)) → length others < 1 → (Has constraint drawn → ⊥) → IsBadBehind constraint drawn others drawn
  bad_none drawn [] none lacked = record { labels = []; behind = sym (append-nil drawn); chosen = tt; lacked = lacked }
  bad_none drawn (s ∷ others) none lacked = absurd (omega (arith, none))

  module _ (drawn next first : List ℕ) (others : List (List ℕ)) (label : ℕ) (held : IsIn label first) (pushed : next ≡ drawn ++ label ∷ []) where
    pub bad_last : length others < 1 → (Has constraint next → ⊥) → IsBadBehind constraint drawn (first ∷ others) next
    bad_last none lacked = record { labels = label ∷ []; behind = pushed; chosen = (held, last others none); lacked = lacked }
      where
        last : (others : List (List ℕ)) → length others < 1 → IsChoice [] others
        last [] none = tt
        last (s ∷ others) none = absurd (omega arith)

    pub bad_more : (found : List ℕ) → IsBadBehind constraint next others found → IsBadBehind constraint drawn (first ∷ others) found
    bad_more found bad = record {
      labels = label ∷ bad.labels;
      behind = bad.behind ∙ ap (λ v. v ++ bad.labels) pushed ∙ append_assoc drawn (label ∷ []) bad.labels;
      chosen = (held, bad.chosen);
      lacked = bad.lacked;
    }

    bad_rest : (found : List ℕ) → IsBadBehind constraint drawn (without_label first label ∷ others) found → IsBadBehind constraint drawn (first ∷ others) found
    bad_rest found bad = record { labels = bad.labels; behind = bad.behind; chosen = chosen bad.labels bad.chosen; lacked = bad.lacked }
      where
        chosen : (c : List ℕ) → IsChoice c (without_label first label ∷ others) → IsChoice c (first ∷ others)
        chosen [] k = absurd k
        chosen (x ∷ c) k = (label_kept first label x k.0, k.1)

    good_whole : AreGoodBehind constraint next others → AreGoodBehind constraint drawn (without_label first label ∷ others) → AreGoodBehind constraint drawn (first ∷ others)
    good_whole here rest [] k = absurd k
    good_whole here rest (x ∷ c) k = elim (label_cases first label x k.0) [
      | inl e ↦ subst (Has constraint) (ap (λ v. v ++ c) pushed ∙ append_assoc drawn (label ∷ []) c ∙ ap (λ y. drawn ++ y ∷ c) (sym e)) (here c k.1)
      | inr i ↦ rest (x ∷ c) (i, k.1)
    ]

    abbrev Answer : Bool → List ℕ → List ℕ → List ℕ → Type 0
    Answer r set back found = MatchBool r (IsBadBehind constraint back (set ∷ others) found) (AreGoodBehind constraint back (set ∷ others) × (found ≡ back))

    -- where the label is done, the rest of the set tells
    pub rest_tells : (back rest found : List ℕ) (r : Bool) → back ≡ drawn → rest ≡ without_label first label → AreGoodBehind constraint next others → Answer r rest back found → Answer r first drawn found
    rest_tells back rest found r same is here told =
        by_test r (subst (λ s. Answer r s drawn found) is (subst (λ b. Answer r rest b found) same told))
      where
        by_test : (r : Bool) → Answer r (without_label first label) drawn found → Answer r first drawn found
        by_test true bad = bad_rest found bad
        by_test false good = (good_whole here good.0, good.1)

  -- from no labels on
  pub bad_choice_found : (first : List ℕ) (others sets : List (List ℕ)) (drawn found : List ℕ) → first ∷ others ≡ sets → drawn ≡ [] → IsBadBehind constraint drawn (first ∷ others) found → IsBadBehind constraint [] sets found
  bad_choice_found first others sets drawn found whole empty bad = subst (λ d. IsBadBehind constraint d sets found) empty (subst (λ s. IsBadBehind constraint drawn s found) whole bad)

  pub good_choices : (first : List ℕ) (others sets : List (List ℕ)) (drawn : List ℕ) → first ∷ others ≡ sets → drawn ≡ [] → AreGoodBehind constraint drawn (first ∷ others) → AreGoodChoices constraint sets
  good_choices first others sets drawn whole empty good = subst (λ d. AreGoodBehind constraint d sets) empty (subst (λ s. AreGoodBehind constraint drawn s) whole good)

-- the least label, where there is one
abbrev IsPicked : List ℕ → Option ℕ → Type 0
IsPicked s r = MatchOption r (s ≡ []) (λ label. IsIn label s × (label < MAX_LABELS))

pub first_picked : (s : List ℕ) (r : Option ℕ) → r ≡ first_of s → IsLabelSet MAX_LABELS s → IsPicked s r
first_picked s r e set = subst (IsPicked s) (sym e) (least s set)
  where
    least : (s : List ℕ) → IsLabelSet MAX_LABELS s → IsPicked s (first_of s)
    least [] set = refl
    least (x ∷ s) set = (Contains-here x s, set.1.0)

-- the least label that another set has too
abbrev IsMet : List ℕ → Option ℕ → Type 0
IsMet s r = IfSome r (λ label. IsIn label s × (label < MAX_LABELS))

pub first_met : (s t m : List ℕ) (r : Option ℕ) → m ≡ meet s t → r ≡ first_of m → IsLabelSet MAX_LABELS s → IsMet s r
first_met s t m r e f set = subst (IsMet s) (sym (f ∙ ap first_of e)) (least (meet s t) (λ z i. (IsIn-meet_cases s t z i).0))
  where
    least : (m : List ℕ) → ((z : ℕ) → IsIn z m → IsIn z s) → IsMet s (first_of m)
    least [] h = tt
    least (x ∷ m) h = let i = h x (Contains-here x m) in (i, AllByRecursion-contains (λ z. z < MAX_LABELS) s x set.1 i)
