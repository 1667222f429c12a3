-- Labels that come next, and labels of candidates.
use Rattle.std.proofs.Common.{◌≡◌, ◌∷◌, ◌++◌, ◌∙◌, ◌+◌, ℕ, ◌<◌, ◌≤◌, true, false, not, eqb, List, [], length, get_or, set, refl, sym, ap, subst, arith, inl, inr, ◌⊎◌, get_or-set_other, get_or-set_same}
use Rattle.std.specs.Prelude.{Contains, ◌↔◌, MatchBool}
use Rattle.std.proofs.lemmas.Bool.{false≢true}
use Rattle.std.proofs.lemmas.List.Elements.{Contains-append_cases, Contains-append_left, Contains-append_right}
use Rattle.re_labels.proofs.Membership.{Contains-cases, Contains-filter, Contains-here, Contains-none}
use Rattle.re_labels.proofs.Sets.{has-IsIn, has-with_label, IsIn-has, IsIn-meet, IsIn-meet_cases, IsIn-with_label_cases, IsIn-with_label_old}
use Rattle.re_labels.proofs.Tests.{eqb-same, eqb-true, or-left}
use Rattle.re_labels.specs.Sets.{IsIn, has, meet, with_label, without_label}
use Rattle.re_labels.proofs.Descents.{ending-narrow}
use Rattle.re_boxes.specs.Spans.{Tree, IsEnding, IsFirst, IsSpan}
use Rattle.re_labels.specs.declared.branches.Branches.{Branches}
use Rattle.re_boxes.specs.declared.visiting.Candidate.{Candidate}
use Rattle.re_labels.specs.declared.TheConstants.{MAX_LABELS}

-- a set with one more label
pub IsIn-with_new : (s : List ℕ) (y x : ℕ) → y ≡ x → IsIn x (with_label s y)
IsIn-with_new s y x e = has-IsIn (with_label s y) x (has-with_label s y x ∙ or-left (eqb y x) (has s x) (ap (eqb y) (sym e) ∙ eqb-same y))

-- ---- the labels of candidates
abbrev pub HasLabel : List Candidate → ℕ → Type 0
HasLabel candidates x = (candidate : Candidate) × Contains candidates candidate × (candidate.label ≡ x)

pub labels-none : (x : ℕ) → IsIn x [] ↔ HasLabel [] x
labels-none x = (λ i. absurd (Contains-none x i), λ h. absurd (Contains-none h.0 h.1))

pub labels-more : (all : List Candidate) (one : Candidate) (s new : List ℕ) → ((x : ℕ) → IsIn x s ↔ HasLabel all x) → new ≡ with_label s one.label
    → (x : ℕ) → IsIn x new ↔ HasLabel (all ++ one ∷ []) x
labels-more all one s new is e x = subst (λ t. IsIn x t ↔ HasLabel (all ++ one ∷ []) x) (sym e) (
  (λ i. elim (IsIn-with_label_cases s one.label x i) [
    | inl same ↦ (one, Contains-append_right all (one ∷ []) one (Contains-here one []), same)
    | inr old ↦ let h = (is x).0 old in (h.0, Contains-append_left all (one ∷ []) h.0 h.1, h.2)
  ]),
  (λ h. elim (Contains-append_cases all (one ∷ []) h.0 h.1) [
    | inl old ↦ IsIn-with_label_old s one.label x ((is x).1 (h.0, old, h.2))
    | inr new ↦ elim (Contains-cases h.0 one [] new) [
      | inl same ↦ IsIn-with_new s one.label x (subst (λ (k : Candidate). k.label ≡ x) same h.2)
      | inr none ↦ absurd (Contains-none h.0 none)
    ]
  ]),
)

-- ---- whether a label is the first one
pub next-test : (constraint : Tree) (depth : ℕ) (span : Branches) (first label : ℕ) → IsFirst constraint depth span first
    → ((other : ℕ) (ending : List ℕ) → IsEnding constraint depth span (other ∷ ending) → label ≤ other)
    → MatchBool (eqb first label) (IsFirst constraint depth span label) ((other : ℕ) (ending : List ℕ) → IsEnding constraint depth span (other ∷ ending) → label < other)
next-test constraint depth span first label is low = elim (eqb first label) as (λ b. eqb first label ≡ b → MatchBool b (IsFirst constraint depth span label) ((other : ℕ) (ending : List ℕ) → IsEnding constraint depth span (other ∷ ending) → label < other)) [
  | true ↦ λ e. subst (IsFirst constraint depth span) (eqb-true first label e) is
  | false ↦ λ e other ending h.
      let low_first : label ≤ first = low first is.some.0 is.some.1 in
      let least : first ≤ other = is.least other ending h in
      strictly first label other (λ same. false≢true (sym e ∙ ap (eqb first) (sym same) ∙ eqb-same first)) low_first least
] refl
  where
    strictly : (first label other : ℕ) → (first ≡ label → ⊥) → label ≤ first → first ≤ other → label < other
    strictly first label other apart a b = grind arith

-- ---- the labels that come next in a span
abbrev pub Comes : Tree → ℕ → Branches → ℕ → Type 0
Comes constraint depth span x = (ending : List ℕ) × IsEnding constraint depth span (x ∷ ending)

pub Ending-below : (constraint : Tree) (depth : ℕ) → depth < constraint.degree → (span : Branches) → IsSpan constraint depth span → (x : ℕ) (ending : List ℕ) → IsEnding constraint depth span (x ∷ ending) → x < MAX_LABELS
Ending-below constraint depth deep span spans x ending h = ending-narrow constraint.degree constraint.nodes depth span spans deep x ending h

module _ (constraint : Tree) (depth : ℕ) (span : Branches) where
  -- the labels below a number have been found, and the others are to come
  pub record AreFound (found : List ℕ) (least : ℕ) (rest : Branches) : Type 0 where
    pub low : least ≤ MAX_LABELS
    pub span_of_rest : IsSpan constraint depth rest
    pub later : (other : ℕ) (ending : List ℕ) → IsEnding constraint depth rest (other ∷ ending) ↔ ((least ≤ other) × IsEnding constraint depth span (other ∷ ending))
    pub labels : (x : ℕ) → IsIn x found ↔ ((x < least) × Comes constraint depth span x)

  pub found-start : IsSpan constraint depth span → AreFound [] 0 span
  found-start spans = record {
    low = omega arith;
    span_of_rest = spans;
    later = λ other ending. (λ e. (omega arith, e), λ two. two.1);
    labels = λ x. (λ i. absurd (Contains-none x i), λ two. absurd (omega (arith, two.0)));
  }

  pub found-more : (found new : List ℕ) (least : ℕ) (rest after : Branches) (label : ℕ) → AreFound found least rest → label < MAX_LABELS → IsFirst constraint depth rest label → new ≡ with_label found label
      → IsSpan constraint depth after → ((other : ℕ) (ending : List ℕ) → IsEnding constraint depth after (other ∷ ending) ↔ ((label < other) × IsEnding constraint depth rest (other ∷ ending)))
      → AreFound new (label + 1) after
  found-more found new least rest after label state few first e spans ends = record {
    low = omega (arith, few);
    span_of_rest = spans;
    later = λ other ending. (
      (λ h. let two = (ends other ending).0 h in let wide = (state.later other ending).0 two.1 in (omega (arith, two.0), wide.1)),
      (λ two. (ends other ending).1 (omega (arith, two.0), (state.later other ending).1 (omega (arith, two.0, low_first.0), two.1))),
    );
    labels = λ x. subst (λ t. IsIn x t ↔ ((x < label + 1) × Comes constraint depth span x)) (sym e) (
      (λ i. elim (IsIn-with_label_cases found label x i) [
        | inl same ↦ (omega (arith, same), (first.some.0, subst (λ y. IsEnding constraint depth span (y ∷ first.some.0)) same low_first.1))
        | inr old ↦ let two = (state.labels x).0 old in (omega (arith, two.0, low_first.0), two.1)
      ]),
      (λ two. elim (sides x two.0) [
        | inl old ↦ IsIn-with_label_old found label x ((state.labels x).1 (old, two.1))
        | inr late ↦
            let there : IsEnding constraint depth rest (x ∷ two.1.0) = (state.later x two.1.0).1 (late.0, two.1.1) in
            let least_one = first.least x two.1.0 there in
            IsIn-with_new found label x (omega (arith, least_one, late.1))
      ]),
    );
  }
    where
      low_first : (least ≤ label) × IsEnding constraint depth span (label ∷ first.some.0)
      low_first = (state.later label first.some.0).0 first.some.1

      sides : (x : ℕ) → x < label + 1 → (x < least) ⊎ ((least ≤ x) × (x ≤ label))
      sides x h = grind arith

  pub found-all : (found : List ℕ) (least : ℕ) (rest : Branches) → AreFound found least rest → ((x : ℕ) (ending : List ℕ) → least ≤ x → IsEnding constraint depth span (x ∷ ending) → ⊥)
      → (x : ℕ) → IsIn x found ↔ Comes constraint depth span x
  found-all found least rest state none x = (
    (λ i. ((state.labels x).0 i).1),
    (λ h. elim (sides x) [
      | inl old ↦ (state.labels x).1 (old, h)
      | inr late ↦ absurd (none x h.0 late h.1)
    ]),
  )
    where
      sides : (x : ℕ) → (x < least) ⊎ (least ≤ x)
      sides x = grind arith

-- ---- sets narrowed one by one
abbrev pub IsNarrowedTo : List (List ℕ) → List (List ℕ) → List ℕ → ℕ → Type 0
IsNarrowedTo old new completions n = (a b : ℕ) → a < n → Contains (get_or new a []) b ↔ (Contains (get_or old a []) b × (IsIn a completions → IsIn b completions))

module _ (old now new : List (List ℕ)) (completions : List ℕ) (k : ℕ) (far : k < length now) (done : IsNarrowedTo old now completions k) (same : get_or now k [] ≡ get_or old k []) where
  narrow-cases : (a : ℕ) → a < k + 1 → (a < k) ⊎ (a ≡ k)
  narrow-cases a h = grind arith

  pub narrow-step : (r : List ℕ) → r ≡ get_or now k [] → new ≡ set now k (meet r completions) → has completions k ≡ true → IsNarrowedTo old new completions (k + 1)
  narrow-step r read e held a b below = elim (narrow-cases a below) [
    | inl l ↦
        let apart : (a ≡ k) → ⊥ = λ eq. absurd (omega (arith, eq, l)) in
        subst (λ s. Contains s b ↔ (Contains (get_or old a []) b × (IsIn a completions → IsIn b completions))) (sym (ap (λ xs. get_or xs a []) e ∙ get_or-set_other now k a (meet r completions) [] apart)) (done a b l)
    | inr at ↦
        let value : get_or new a [] ≡ meet (get_or old a []) completions =
        ap (get_or new a) refl ∙ ap (λ i. get_or new i []) at ∙ ap (λ xs. get_or xs k []) e ∙ get_or-set_same now k (meet r completions) [] far ∙ ap (λ s. meet s completions) (read ∙ same ∙ ap (λ i. get_or old i []) (sym at)) in
        subst (λ s. Contains s b ↔ (Contains (get_or old a []) b × (IsIn a completions → IsIn b completions))) (sym value) (
          (λ i. let two = IsIn-meet_cases (get_or old a []) completions b i in (two.0, λ _. two.1)),
          (λ two. IsIn-meet (get_or old a []) completions b two.0 (two.1 (subst (λ j. IsIn j completions) (sym at) (has-IsIn completions k held)))),
        )
  ]

  pub narrow-pass : new ≡ now → has completions k ≡ false → IsNarrowedTo old new completions (k + 1)
  narrow-pass e absent a b below = subst (λ xs. Contains (get_or xs a []) b ↔ (Contains (get_or old a []) b × (IsIn a completions → IsIn b completions))) (sym e) (elim (narrow-cases a below) [
    | inl l ↦ done a b l
    | inr at ↦
        let value : get_or now a [] ≡ get_or old a [] = ap (λ i. get_or now i []) at ∙ same ∙ ap (λ i. get_or old i []) (sym at) in
        subst (λ s. Contains s b ↔ (Contains (get_or old a []) b × (IsIn a completions → IsIn b completions))) (sym value) (
          (λ i. (i, λ in_it. absurd (false≢true (sym absent ∙ ap (has completions) (sym at) ∙ IsIn-has completions a in_it)))),
          (λ two. two.0),
        )
  ])

-- a set without any label but this one
pub alone-is : (s rest : List ℕ) (x y : ℕ) → rest ≡ without_label s x → length rest ≡ 0 → IsIn y s → y ≡ x
alone-is s rest x y e empty held = elim (eqb y x) as (λ b. eqb y x ≡ b → y ≡ x) [
  | true ↦ λ same. eqb-true y x same
  | false ↦ λ apart. absurd (
      let there : Contains (without_label s x) y = Contains-filter (λ z. not (eqb z x)) s y held (ap not apart) in
      let count : length (without_label s x) ≡ 0 = ap length (sym e) ∙ empty in
      omega (arith, there.1, count))
] refl
