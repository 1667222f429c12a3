-- An algorithm that solves a problem whatever the strings are fails at no list of them.
use Rattle.std.proofs.Common.{◌≡◌, ℕ, zero, suc, ◌*◌, ◌^◌, ◌≤◌, ◌<◌, Bool, false, cond, not, List, [], ◌∷◌, map, length, filter, refl, ◌∙◌, ap, subst, arith, inl, inr}
use Rattle.std.specs.Prelude.{Contains, slice_index}
use Rattle.std.proofs.Math.Nat.{one-le-pow}
use Rattle.re_given.proofs.Relabelled.{IsTree-relabelled, relabelled}
use Rattle.re_given.specs.Given.{around_known}
use Rattle.re_given.specs.InputViews.{known}
use Rattle.re_labels.proofs.Membership.{Contains-cases, Contains-flat_map_cases, Contains-here, Contains-later, Contains-map_cases, Contains-none, count_from_range}
use Rattle.re_labels.specs.Lists.{count_from}
use Rattle.re_local.proofs.LocalGiven.{FitsAround-taken}
use Rattle.re_local.specs.LocalAlgorithms.{identified}
use Rattle.re_classes.proofs.Numbered.{numbered_active, numbered_passive, painted-relabelled}
use Rattle.re_classes.specs.RandomLaws.{CertainLaw}
use Rattle.re_classes.specs.RandomAlgorithms.{painted, string_lists}
use Rattle.re_labels.proofs.Goodness.{Has-has_config}
use Rattle.re_labels.specs.Constraints.{Has, has_config}

pub strings_low : (R k : ℕ) (strings : List ℕ) → 1 ≤ R → Contains (string_lists R k) strings → (x : ℕ) → slice_index strings x < R
strings_low R zero strings some held x = go (elim (Contains-cases strings [] [] held) [ inl e ↦ e | inr there ↦ absurd (Contains-none strings there) ])
  where
    go : strings ≡ [] → slice_index strings x < R
    go e = rw e (omega (arith, some))
strings_low R (suc k) strings some held x =
    let (s, at, held') = Contains-flat_map_cases (λ string. map (λ strings. string ∷ strings) (string_lists R k)) (count_from 0 R) strings held in
    let (rest, at', e) = Contains-map_cases (λ strings. s ∷ strings) (string_lists R k) strings held' in
    let range = count_from_range 0 R s at in
    let low : s < R = (let l = range.1 in omega (arith, l)) in
    subst (λ (strings : List ℕ). slice_index strings x < R) e (go s rest x low (strings_low R k rest some at'))
  where
    go : (s : ℕ) (rest : List ℕ) (x : ℕ) → s < R → ((x : ℕ) → slice_index rest x < R) → slice_index (s ∷ rest) x < R
    go s rest zero low others = low
    go s rest (suc x) low others = others x

filter_none : {X : Type 0} (test : X → Bool) (xs : List X) → ((x : X) → Contains xs x → test x ≡ false) → length (filter test xs) ≡ 0
filter_none test [] none = refl
filter_none test (x ∷ xs) none =
    ap (λ b. length (cond b (x ∷ filter test xs) (filter test xs))) (none x (Contains-here x xs)) ∙ filter_none test xs
    (λ y at. none y (Contains-later y x xs at))

pub never_below : (R k q : ℕ) (test : List ℕ → Bool) → 1 ≤ R → ((strings : List ℕ) → Contains (string_lists R k) strings → test strings ≡ false)
    → q * length (filter test (string_lists R k)) < R ^ k
never_below R k q test some none =
    let all : length (filter test (string_lists R k)) ≡ 0 = filter_none test (string_lists R k) none in
    let pos : 1 ≤ R ^ k = one-le-pow k R some in
    rw all (omega (arith, pos))

pub certain : CertainLaw
certain problem R T q algorithm some solves =
    let a : ℕ = problem.active.degree in
    let p : ℕ = problem.passive.degree in
    record {
      active = λ v k view fits order.
          never_below R k q (λ strings. not (has_config problem.active (algorithm (known T (painted strings v))))) some
          (λ strings held.
          let has : Has problem.active (algorithm (known T (relabelled (slice_index strings) v))) =
          solves.active (relabelled (slice_index strings) v) (IsTree-relabelled (slice_index strings) a p (suc T) a v view)
          (FitsAround-taken (slice_index strings) (identified a p k).active (identified a p k).passive (identified a p R).active (identified a p R).passive
          (numbered_active a p k R (slice_index strings) (strings_low R k strings some held))
          (numbered_passive a p k R (slice_index strings) (strings_low R k strings some held)) [] v fits) in
          rw (painted-relabelled strings v) (ap not (Has-has_config problem.active (algorithm (known T (relabelled (slice_index strings) v))) has)));
      passive = λ v k view fits order.
          never_below R k q (λ strings. not (has_config problem.passive (around_known p T algorithm (painted strings v)))) some
          (λ strings held.
          let has : Has problem.passive (around_known p T algorithm (relabelled (slice_index strings) v)) =
          solves.passive (relabelled (slice_index strings) v) (IsTree-relabelled (slice_index strings) p a (suc (suc T)) p v view)
          (FitsAround-taken (slice_index strings) (identified a p k).passive (identified a p k).active (identified a p R).passive (identified a p R).active
          (numbered_passive a p k R (slice_index strings) (strings_low R k strings some held))
          (numbered_active a p k R (slice_index strings) (strings_low R k strings some held)) [] v fits) in
          rw (painted-relabelled strings v) (ap not (Has-has_config problem.passive (around_known p T algorithm (relabelled (slice_index strings) v)) has)));
    }
