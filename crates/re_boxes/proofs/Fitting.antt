-- Candidates: one more of them, the least label of all, and what is parted behind it.
use Rattle.std.proofs.Common.{◌≡◌, ◌∷◌, ◌++◌, ◌∙◌, ◌+◌, ℕ, ◌<◌, ◌≤◌, true, false, cond, ltb, List, [], length, refl, sym, ap, subst, arith, inl, inr, ◌⊎◌, Option, Some, None, length-append}
use Rattle.std.specs.Prelude.{Contains, ◌↔◌, MatchOption}
use Rattle.std.proofs.lemmas.Bool.Decides.{nat_tests}
use Rattle.std.proofs.lemmas.List.Elements.{Contains-append_cases, Contains-append_left, Contains-append_right}
use Rattle.re_labels.proofs.Membership.{Contains-cases, Contains-here, Contains-none}
use Rattle.re_boxes.specs.Spans.{Tree, AreFilled, AreSpans, Fits, IsEnding, IsFirst, IsNext, IsSpan, lesser}
use Rattle.re_labels.specs.declared.branches.Branches.{Branches}
use Rattle.re_boxes.specs.declared.visiting.Candidate.{Candidate}
use Rattle.re_labels.specs.declared.TheConstants.{MAX_LABELS}

-- what is read past the last candidate
abbrev pub no_candidate : Candidate
no_candidate = record { label = 0; span = record { place = 0 } }

-- ---- one more candidate
module _ (constraint : Tree) (depth : ℕ) where
  pub Fits-none : (x : ℕ) (ending : List ℕ) → Fits constraint depth [] x ending → ⊥
  Fits-none x ending h = Contains-none h.0 h.1

  pub Fits-cases : (all : List Candidate) (one : Candidate) (x : ℕ) (ending : List ℕ) → Fits constraint depth (all ++ one ∷ []) x ending
      → Fits constraint depth all x ending ⊎ ((one.label ≡ x) × IsEnding constraint depth one.span ending)
  Fits-cases all one x ending (d, held, same, end) = elim (Contains-append_cases all (one ∷ []) d held) [
    | inl h ↦ inl (d, h, same, end)
    | inr h ↦ elim (Contains-cases d one [] h) [
      | inl e ↦ inr (subst (λ (k : Candidate). k.label ≡ x) e same, subst (λ (k : Candidate). IsEnding constraint depth k.span ending) e end)
      | inr n ↦ absurd (Contains-none d n)
    ]
  ]

  pub Fits-old : (all : List Candidate) (one : Candidate) (x : ℕ) (ending : List ℕ) → Fits constraint depth all x ending → Fits constraint depth (all ++ one ∷ []) x ending
  Fits-old all one x ending (d, held, same, end) = (d, Contains-append_left all (one ∷ []) d held, same, end)

  pub Fits-new : (all : List Candidate) (one : Candidate) (x : ℕ) (ending : List ℕ) → one.label ≡ x → IsEnding constraint depth one.span ending → Fits constraint depth (all ++ one ∷ []) x ending
  Fits-new all one x ending same end = (one, Contains-append_right all (one ∷ []) one (Contains-here one []), same, end)

  -- what holds of all and of one more holds of all of them
  pub each-push : (P : Candidate → Type 0) (all : List Candidate) (one : Candidate) → ((c : Candidate) → Contains all c → P c) → P one → (c : Candidate) → Contains (all ++ one ∷ []) c → P c
  each-push P all one each here c held = elim (Contains-append_cases all (one ∷ []) c held) [
    | inl h ↦ each c h
    | inr h ↦ elim (Contains-cases c one [] h) [
      | inl e ↦ subst P (sym e) here
      | inr n ↦ absurd (Contains-none c n)
    ]
  ]

-- ---- the least label
abbrev pub IsFirstOf : Tree → ℕ → Branches → Option ℕ → Type 0
IsFirstOf constraint depth span first = MatchOption first ((ending : List ℕ) → IsEnding constraint depth span ending → ⊥) (λ label. (label < MAX_LABELS) × IsFirst constraint depth span label)

abbrev pub IsLeast : Tree → ℕ → Branches → List Candidate → Option ℕ → Type 0
IsLeast constraint depth main candidates least = MatchOption least
    (((ending : List ℕ) → IsEnding constraint depth main ending → ⊥) × ((x : ℕ) (ending : List ℕ) → Fits constraint (depth + 1) candidates x ending → ⊥))
    (λ label. (label < MAX_LABELS) × IsNext constraint depth main candidates label)

module _ (constraint : Tree) (depth : ℕ) (main : Branches) where
  pub least-start : (first : Option ℕ) → IsFirstOf constraint depth main first → IsLeast constraint depth main [] first
  least-start None none = (none, Fits-none constraint (depth + 1))
  least-start (Some label) (low, first) = (
    low,
    record {
      some = inl first.some;
      beside = first.least;
      among = λ x other ending f. absurd (Fits-none constraint (depth + 1) x (other ∷ ending) f);
    },
  )

  pub least-more : (all : List Candidate) (one : Candidate) (least first : Option ℕ) → IsLeast constraint depth main all least → IsFirstOf constraint (depth + 1) one.span first
      → IsLeast constraint depth main (all ++ one ∷ []) (lesser least first)
  least-more all one None None (none, no_fits) no_ending = (none, λ x ending f. elim (Fits-cases constraint (depth + 1) all one x ending f) [ inl g ↦ no_fits x ending g | inr g ↦ no_ending ending g.1 ])
  least-more all one None (Some y) (none, no_fits) (low, first) = (
    low,
    record {
      some = inr (one.label, first.some.0, Fits-new constraint (depth + 1) all one one.label (y ∷ first.some.0) refl first.some.1);
      beside = λ other ending e. absurd (none (other ∷ ending) e);
      among = λ x other ending f. elim (Fits-cases constraint (depth + 1) all one x (other ∷ ending) f) [ inl g ↦ absurd (no_fits x (other ∷ ending) g) | inr g ↦ first.least other ending g.1 ];
    },
  )
  least-more all one (Some l) None (low, next) no_ending = (
    low,
    record {
      some = elim next.some [ inl e ↦ inl e | inr f ↦ inr (f.0, f.1, Fits-old constraint (depth + 1) all one f.0 (l ∷ f.1) f.2) ];
      beside = next.beside;
      among = λ x other ending f. elim (Fits-cases constraint (depth + 1) all one x (other ∷ ending) f) [ inl g ↦ next.among x other ending g | inr g ↦ absurd (no_ending (other ∷ ending) g.1) ];
    },
  )
  least-more all one (Some l) (Some y) (low, next) (low_y, first) = elim (ltb l y) as (λ b. ltb l y ≡ b → IsLeast constraint depth main (all ++ one ∷ []) (cond b (Some l) (Some y))) [
    | true ↦ λ e. (
      low,
      record {
        some = elim next.some [ inl e ↦ inl e | inr f ↦ inr (f.0, f.1, Fits-old constraint (depth + 1) all one f.0 (l ∷ f.1) f.2) ];
        beside = next.beside;
        among = λ x other ending f. elim (Fits-cases constraint (depth + 1) all one x (other ∷ ending) f) [
          | inl g ↦ next.among x other ending g
          | inr g ↦ let less = is_less l y e in let more = first.least other ending g.1 in omega (arith, less, more)
        ];
      },
    )
    | false ↦ λ e. (
      low_y,
      record {
        some = inr (one.label, first.some.0, Fits-new constraint (depth + 1) all one one.label (y ∷ first.some.0) refl first.some.1);
        beside = λ other ending h. (let no_less = not_less l y e in let more = next.beside other ending h in omega (arith, no_less, more));
        among = λ x other ending f. elim (Fits-cases constraint (depth + 1) all one x (other ∷ ending) f) [
          | inl g ↦ let no_less = not_less l y e in let more = next.among x other ending g in omega (arith, no_less, more)
          | inr g ↦ first.least other ending g.1
        ];
      },
    )
  ] refl
    where
      is_less : (l y : ℕ) → ltb l y ≡ true → l < y
      is_less l y e = grind (arith, nat_tests)

      not_less : (l y : ℕ) → ltb l y ≡ false → y ≤ l
      not_less l y e = grind (arith, nat_tests)

-- ---- parted
module _ (constraint : Tree) (depth label : ℕ) where
  abbrev pub IsBelow : List Candidate → List Candidate → Type 0
  IsBelow below all = (x : ℕ) (ending : List ℕ) → Fits constraint (depth + 1) below x ending ↔ Fits constraint depth all x (label ∷ ending)

  abbrev pub IsAfter : List Candidate → List Candidate → Type 0
  IsAfter after all = (x other : ℕ) (ending : List ℕ) → Fits constraint depth after x (other ∷ ending) ↔ ((label < other) × Fits constraint depth all x (other ∷ ending))

  pub below-none : IsBelow [] []
  below-none x ending = (λ f. absurd (Fits-none constraint (depth + 1) x ending f), λ f. absurd (Fits-none constraint depth x (label ∷ ending) f))

  pub after-none : IsAfter [] []
  after-none x other ending = (λ f. absurd (Fits-none constraint depth x (other ∷ ending) f), λ f. absurd (Fits-none constraint depth x (other ∷ ending) f.1))

  pub below-taken : (below all : List Candidate) (one part : Candidate) → IsBelow below all → part.label ≡ one.label
      → ((ending : List ℕ) → IsEnding constraint (depth + 1) part.span ending ↔ IsEnding constraint depth one.span (label ∷ ending)) → IsBelow (below ++ part ∷ []) (all ++ one ∷ [])
  below-taken below all one part is same ends x ending = (
    (λ f. elim (Fits-cases constraint (depth + 1) below part x ending f) [
      | inl g ↦ Fits-old constraint depth all one x (label ∷ ending) ((is x ending).0 g)
      | inr g ↦ Fits-new constraint depth all one x (label ∷ ending) (sym same ∙ g.0) ((ends ending).0 g.1)
    ]),
    (λ f. elim (Fits-cases constraint depth all one x (label ∷ ending) f) [
      | inl g ↦ Fits-old constraint (depth + 1) below part x ending ((is x ending).1 g)
      | inr g ↦ Fits-new constraint (depth + 1) below part x ending (same ∙ g.0) ((ends ending).1 g.1)
    ]),
  )

  pub below-passed : (below all : List Candidate) (one : Candidate) → IsBelow below all → ((ending : List ℕ) → IsEnding constraint depth one.span (label ∷ ending) → ⊥) → IsBelow below (all ++ one ∷ [])
  below-passed below all one is none x ending = (
    (λ f. Fits-old constraint depth all one x (label ∷ ending) ((is x ending).0 f)),
    (λ f. elim (Fits-cases constraint depth all one x (label ∷ ending) f) [
      | inl g ↦ (is x ending).1 g
      | inr g ↦ absurd (none ending g.1)
    ]),
  )

  pub after-more : (after all : List Candidate) (one part : Candidate) → IsAfter after all → part.label ≡ one.label
      → ((other : ℕ) (ending : List ℕ) → IsEnding constraint depth part.span (other ∷ ending) ↔ ((label < other) × IsEnding constraint depth one.span (other ∷ ending))) → IsAfter (after ++ part ∷ []) (all ++ one ∷ [])
  after-more after all one part is same ends x other ending = (
    (λ f. elim (Fits-cases constraint depth after part x (other ∷ ending) f) [
      | inl g ↦ let two = (is x other ending).0 g in (two.0, Fits-old constraint depth all one x (other ∷ ending) two.1)
      | inr g ↦ let two = (ends other ending).0 g.1 in (two.0, Fits-new constraint depth all one x (other ∷ ending) (sym same ∙ g.0) two.1)
    ]),
    (λ two. elim (Fits-cases constraint depth all one x (other ∷ ending) two.1) [
      | inl g ↦ Fits-old constraint depth after part x (other ∷ ending) ((is x other ending).1 (two.0, g))
      | inr g ↦ Fits-new constraint depth after part x (other ∷ ending) (same ∙ g.0) ((ends other ending).1 (two.0, g.1))
    ]),
  )

  -- a candidate with another label next, where none has a lesser one
  pub passes-whole : (span : Branches) (first : Option ℕ) → IsFirstOf constraint depth span first → (first ≡ Some label → ⊥)
      → ((other : ℕ) (ending : List ℕ) → IsEnding constraint depth span (other ∷ ending) → label ≤ other)
      → (other : ℕ) (ending : List ℕ) → IsEnding constraint depth span (other ∷ ending) ↔ ((label < other) × IsEnding constraint depth span (other ∷ ending))
  passes-whole span None none not_it low other ending = (λ e. absurd (none (other ∷ ending) e), λ two. two.1)
  passes-whole span (Some f) (few, first) not_it low other ending = (
    (λ e.
        let low_f : label ≤ f = low f first.some.0 first.some.1 in
        let least : f ≤ other = first.least other ending e in
        (more f other (λ same. not_it (ap Some same)) low_f least, e)),
    (λ two. two.1),
  )
    where
      more : (f other : ℕ) → (f ≡ label → ⊥) → label ≤ f → f ≤ other → label < other
      more f other apart a b = grind arith

-- so many candidates have been parted
pub record ArePartedBy (constraint : Tree) (depth label : ℕ) (below after all : List Candidate) (count : ℕ) : Type 0 where
  pub few_below : length below ≤ count
  pub few_after : length after ≤ count
  pub spans_below : AreSpans constraint (depth + 1) below
  pub filled_below : AreFilled constraint (depth + 1) below
  pub spans_after : AreSpans constraint depth after
  pub is_below : IsBelow constraint depth label below all
  pub is_after : IsAfter constraint depth label after all

module _ (constraint : Tree) (depth label : ℕ) where
  pub parted-none : ArePartedBy constraint depth label [] [] [] 0
  parted-none = record {
    few_below = omega arith;
    few_after = omega arith;
    spans_below = λ one held. absurd (Contains-none one held);
    filled_below = λ one held. absurd (Contains-none one held);
    spans_after = λ one held. absurd (Contains-none one held);
    is_below = below-none constraint depth label;
    is_after = after-none constraint depth label;
  }

  pub parted-same : (below below' after after' all : List Candidate) (count : ℕ) → below' ≡ below → after' ≡ after → ArePartedBy constraint depth label below after all count → ArePartedBy constraint depth label below' after' all count
  parted-same below below' after after' all count e f state =
      subst (λ b. ArePartedBy constraint depth label b after' all count) (sym e) (subst (λ a. ArePartedBy constraint depth label below a all count) (sym f) state)

  module _ (below after all : List Candidate) (count : ℕ) (state : ArePartedBy constraint depth label below after all count) (one : Candidate) where
    pub parted-taken : (low high : Branches) → IsFirst constraint depth one.span label → IsSpan constraint (depth + 1) low → IsSpan constraint depth high
        → ((ending : List ℕ) → IsEnding constraint (depth + 1) low ending ↔ IsEnding constraint depth one.span (label ∷ ending))
        → ((other : ℕ) (ending : List ℕ) → IsEnding constraint depth high (other ∷ ending) ↔ ((label < other) × IsEnding constraint depth one.span (other ∷ ending)))
        → ArePartedBy constraint depth label (below ++ record { label = one.label; span = low } ∷ []) (after ++ record { label = one.label; span = high } ∷ []) (all ++ one ∷ []) (count + 1)
    parted-taken low high first span_low span_high ends_low ends_high = record {
      few_below = let few = state.few_below in let l = length-append below (record { label = one.label; span = low } ∷ []) in omega (arith, few, l);
      few_after = let few = state.few_after in let l = length-append after (record { label = one.label; span = high } ∷ []) in omega (arith, few, l);
      spans_below = each-push constraint (depth + 1) (λ (c : Candidate). IsSpan constraint (depth + 1) c.span) below (record { label = one.label; span = low }) state.spans_below span_low;
      filled_below = each-push constraint (depth + 1) (λ (c : Candidate). (ending : List ℕ) × IsEnding constraint (depth + 1) c.span ending) below (record { label = one.label; span = low }) state.filled_below (first.some.0, (ends_low first.some.0).1 first.some.1);
      spans_after = each-push constraint depth (λ (c : Candidate). IsSpan constraint depth c.span) after (record { label = one.label; span = high }) state.spans_after span_high;
      is_below = below-taken constraint depth label below all one (record { label = one.label; span = low }) state.is_below refl ends_low;
      is_after = after-more constraint depth label after all one (record { label = one.label; span = high }) state.is_after refl ends_high;
    }

    pub parted-passed : IsSpan constraint depth one.span → ((other : ℕ) (ending : List ℕ) → IsEnding constraint depth one.span (other ∷ ending) → label < other)
        → ArePartedBy constraint depth label below (after ++ one ∷ []) (all ++ one ∷ []) (count + 1)
    parted-passed span more = record {
      few_below = let few = state.few_below in omega (arith, few);
      few_after = let few = state.few_after in let l = length-append after (one ∷ []) in omega (arith, few, l);
      spans_below = state.spans_below;
      filled_below = state.filled_below;
      spans_after = each-push constraint depth (λ (c : Candidate). IsSpan constraint depth c.span) after one state.spans_after span;
      is_below = below-passed constraint depth label below all one state.is_below (λ ending e. absurd (let less = more label ending e in omega (arith, less)));
      is_after = after-more constraint depth label after all one one state.is_after refl (λ other ending. (λ e. (more other ending e, e), λ two. two.1));
    }
