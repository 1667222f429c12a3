-- Ends that fail END or BACK: something shows it.
use Rattle.std.proofs.Common.{◌≡◌, ℕ, zero, suc, ◌+◌, ◌<◌, ◌≤◌, Bool, true, false, eqb, not, ◌&&◌, List, [], ◌∷◌, length, map, refl, sym, ap, ◌∙◌, subst, ◌⊎◌, inl, inr, arith, Some, None, Option, true≢false}
use Rattle.std.specs.Prelude.{Contains, IsSome, find, if◌then◌else◌, is_none, is_some, nat_lt, replicate, slice_index_or}
use Rattle.std.specs.List.{AllByRecursion, AllZip, list_all}
use Rattle.std.proofs.lemmas.List.Quantifiers.{position-Some}
use Rattle.re_check.proofs.Telling.{read-held}
use Rattle.std.specs.Option.{option_map, option_or}
use Rattle.std.specs.Str.{bytes_eq}
use Rattle.std.proofs.lemmas.Bool.Decides.{nat_tests}
use Rattle.std.proofs.lemmas.Slice.Eq.{bytes_eq-Decides}
use Rattle.re_labels.proofs.Membership.{AllByRecursion-contains, Contains-In, In, In-Contains, In-map, In-map_from, any_found, any_true}
use Rattle.re_labels.proofs.Sets.{IsIn-has, has-IsIn}
use Rattle.re_labels.proofs.Tests.{eqb-same, eqb-true, not-true}
use Rattle.re_labels.specs.Lists.{IsRising, count_from}
use Rattle.re_labels.specs.Sets.{IsIn, has}
use Rattle.re_labels.proofs.Rearranging.{length-AllZip}
use Rattle.re_labels.proofs.Replacing.{has-support_of}
use Rattle.re_labels.specs.Configs.{support_of}
use Rattle.re_labels.specs.Rows.{IsChoice}
use Rattle.re_labels.specs.Constraints.{Constraint, Has}
use Rattle.re_problem.proofs.ZeroPlaces.{law}
use Rattle.re_problem.specs.NamedProblems.{NamedProblem, unnamed}
use Rattle.re_problem.specs.Problems.{Problem}
use Rattle.re_problem.specs.Zero.{ShowsZero, Zero, shows_zero, zero_place}
use Rattle.re_problem.specs.Verdicts.{first_label, renaming_verdict}
use Rattle.re_problem.specs.declared.verdict.MapVerdict.{MapVerdict}
use Rattle.re_problem.specs.declared.verdict.MapVerdict.TheVariants as verdict
use Rattle.re_cert.specs.Bounds.{is_lower}
use Rattle.re_cert.specs.declared.certificate.Kind.{Kind}
use Rattle.re_check.specs.Verdicts.{ends_well, goes_back, is_yes}
use Rattle.re_problem.proofs.VerdictLaws.{label-none}
use Rattle.re_why.proofs.Found.{found_passes, none_all}
use Rattle.re_why.proofs.Giving.{gives-at_last, gives-or, map-none, map-some, unordered-rising, unordered-some}
use Rattle.re_why.proofs.Rows.{bad_shown, first_label-some, none_bad}
use Rattle.re_why.proofs.Uppers.{all_labels}
use Rattle.re_why.specs.BadChoice.{first_bad}
use Rattle.re_why.specs.Finding.{back_witness, end_witness, first_unordered, firsts, fit_at, fit_witness, names_first, no_fit, no_fit_of, no_fit_witness, pairs_ascend, renaming_witness, seconds}
use Rattle.re_why.specs.Laws.{BackWitnessLaw, EndWitnessLaw, Gives}
use Rattle.re_why.proofs.Renamings.{renaming_fact}
use Rattle.re_why.specs.Witnesses.{IsAt, ShowsBack, ShowsEnd, ShowsRenaming}
use Rattle.re_why.specs.declared.witness.Witness.{Witness}
use Rattle.re_why.specs.declared.witness.Witness.TheVariants.{Fit, MissingPair, NoActive, NoFit, PairOrder, Renaming}

-- ---- END
fit_shown : (kind : Kind) (last : Problem) → is_lower kind ≡ true → IsSome (zero_place last) → Gives (fit_witness last) (ShowsEnd kind last)
fit_shown kind last low some = go (zero_place last) refl some
  where
    go : (o : Option ℕ) → zero_place last ≡ o → IsSome o → Gives (option_map (fit_at last.active) o) (ShowsEnd kind last)
    go None e some = absurd (true≢false (sym some))
    go (Some k) e some =
        let found = position-Some (shows_zero last.passive) last.active.configs k [] e in
        (low, read-held last.active.configs k [] found.0, (law last (slice_index_or last.active.configs k [])).0.0 found.1)

-- labels drawn from a configuration are choices from as many times its set
drawn-choice : (config drawn : List ℕ) (p : ℕ) → length drawn ≡ p → AllByRecursion (Contains config) drawn → IsChoice drawn (replicate p (support_of config))
drawn-choice config [] zero e h = tt
drawn-choice config [] (suc p) e h = absurd (let f : 0 ≡ suc p = e in omega (arith, f))
drawn-choice config (x ∷ drawn) zero e h = absurd (let f : suc (length drawn) ≡ 0 = e in omega (arith, f))
drawn-choice config (x ∷ drawn) (suc p) e h =
    let f : length drawn ≡ p = omega (arith, e) in
    (has-IsIn (support_of config) x (has-support_of config x ∙ IsIn-has config x h.0), drawn-choice config drawn p f h.1)

choice-drawn : (config drawn : List ℕ) (p : ℕ) → IsChoice drawn (replicate p (support_of config)) → (length drawn ≡ p) × AllByRecursion (Contains config) drawn
choice-drawn config [] zero h = (refl, tt)
choice-drawn config (x ∷ drawn) zero h = absurd h
choice-drawn config [] (suc p) h = absurd h
choice-drawn config (x ∷ drawn) (suc p) h =
    let (count, all) = choice-drawn config drawn p h.1 in
    (ap suc count, (has-IsIn config x (sym (has-support_of config x) ∙ IsIn-has (support_of config) x h.0), all))

no_fit_shown : (kind : Kind) (last : Problem) → is_lower kind ≡ false → (Zero last → ⊥) → Gives (no_fit_witness last) (ShowsEnd kind last)
no_fit_shown kind last up isnt = go last.active.configs refl
  where
    go : (configs : List (List ℕ)) → configs ≡ last.active.configs → Gives (no_fit_of last.passive configs) (ShowsEnd kind last)
    go [] e = (up, sym e)
    go (config ∷ configs) e =
        let sets = replicate last.passive.degree (support_of config) in
        gives-at_last (no_fit last.passive config) (ShowsEnd kind last)
        (λ w g.
        let (labels, found, same) = map-some (NoFit config) (first_bad last.passive sets) w g in
        let (chosen, bad) = bad_shown last.passive sets labels found in
        let (count, all) = choice-drawn config labels last.passive.degree chosen in
        subst (ShowsEnd kind last) same (up, isnt, subst (λ cs. IsAt cs 0 config) e (omega arith, refl), count, all, bad))
        (λ none.
        let each = none_bad last.passive sets (map-none (NoFit config) (first_bad last.passive sets) none) in
        isnt (config, subst (λ cs. Contains cs config) e (0, omega arith, refl), λ drawn count all. each drawn (drawn-choice config drawn last.passive.degree count all)))

is_none-some : {X : Type 0} (o : Option X) → is_none o ≡ false → IsSome o
is_none-some None e = absurd (true≢false e)
is_none-some (Some x) e = refl

some-is_some : {X : Type 0} (o : Option X) → is_some o ≡ false → IsSome o → ⊥
some-is_some None e s = true≢false (sym s)
some-is_some (Some x) e s = true≢false e

pub end_witness_law : EndWitnessLaw
end_witness_law kind last fails = go (is_lower kind) refl fails
  where
    problem : Problem
    problem = unnamed last

    go : (b : Bool) → is_lower kind ≡ b → (if b then is_none (zero_place problem) else is_some (zero_place problem)) ≡ false → Gives (if b then fit_witness problem else no_fit_witness problem) (ShowsEnd kind problem)
    go true low e = fit_shown kind problem low (is_none-some (zero_place problem) e)
    go false up e = no_fit_shown kind problem up (λ zero. some-is_some (zero_place problem) e ((law problem []).1.1 zero))

-- ---- BACK
module _ (last target : NamedProblem) (pairs : List (ℕ × ℕ)) (below : AllByRecursion (λ (pair : ℕ × ℕ). pair.0 < length last.names) pairs) where
  order_here : (k : ℕ) → first_unordered pairs_ascend 0 pairs ≡ Some k → ShowsBack last target pairs (PairOrder k)
  order_here k e =
      let (i, is, pair, next, at, behind, fails) = unordered-some pairs_ascend 0 pairs k e in
      let same : i ≡ k = omega (arith, is) in
      subst (λ m. ShowsBack last target pairs (PairOrder m)) same (pair, next, at, behind, λ l. let passes : nat_lt pair.0 next.0 ≡ true = grind (arith, nat_tests) in true≢false (sym passes ∙ fails))

  rises : (xs : List (ℕ × ℕ)) → IsRising (λ x y. pairs_ascend x y ≡ true) xs → IsRising (λ x y. x < y) (firsts xs)
  rises [] h = tt
  rises (x ∷ []) h = tt
  rises (x ∷ y ∷ xs) h = let passes : nat_lt x.0 y.0 ≡ true = h.0 in let l : x.0 < y.0 = grind (arith, nat_tests) in (l, rises (y ∷ xs) h.1)

  all_below : (xs : List (ℕ × ℕ)) → AllByRecursion (λ (pair : ℕ × ℕ). pair.0 < length last.names) xs → AllByRecursion (λ x. x < length last.names) (firsts xs)
  all_below [] h = tt
  all_below (x ∷ xs) h = (h.0, all_below xs h.1)

  named-is : (x : ℕ) → names_first pairs x ≡ true → Contains (firsts pairs) x
  named-is x passes =
      let (pair, held, same) = any_found (λ (pair : ℕ × ℕ). eqb pair.0 x) pairs passes in
      subst (Contains (firsts pairs)) (eqb-true pair.0 x same) (In-Contains pair.0 (firsts pairs) (In-map (λ (f : ℕ × ℕ). f.0) pair pairs (Contains-In pair pairs held)))

  is-named : (x : ℕ) → Contains (firsts pairs) x → names_first pairs x ≡ true
  is-named x held =
      let (pair, inside, same) = In-map_from (λ (f : ℕ × ℕ). f.0) x pairs (Contains-In x (firsts pairs) held) in
      any_true (λ (pair : ℕ × ℕ). eqb pair.0 x) pairs pair (In-Contains pair pairs inside) (subst (λ y. eqb pair.0 y ≡ true) (sym same) (eqb-same pair.0))

  missing_here : (x : ℕ) → first_label (λ x. not (names_first pairs x)) (length last.names) ≡ Some x → ShowsBack last target pairs (MissingPair x)
  missing_here x e =
      let (l, fails) = first_label-some (λ x. not (names_first pairs x)) (length last.names) x e in
      (l, λ held. true≢false (sym (is-named x held) ∙ not-true (names_first pairs x) fails))

  not-false : (b : Bool) → not b ≡ false → b ≡ true
  not-false true e = refl
  not-false false e = absurd (true≢false e)

  pub in_order : first_unordered pairs_ascend 0 pairs ≡ None → first_label (λ x. not (names_first pairs x)) (length last.names) ≡ None → firsts pairs ≡ count_from 0 (length last.names)
  in_order order whole =
      all_labels (length last.names) (firsts pairs) (rises pairs (unordered-rising pairs_ascend 0 pairs order)) (all_below pairs below)
      (λ x l. named-is x (not-false (names_first pairs x) (label-none (λ x. not (names_first pairs x)) (length last.names) whole x l)))

  renaming_here : (v : MapVerdict) → renaming_verdict (unnamed last) (unnamed target) (seconds pairs) ≡ v → is_yes v ≡ false → ShowsBack last target pairs (Renaming v)
  renaming_here v e fails =
      let other : renaming_verdict (unnamed last) (unnamed target) (seconds pairs) ≡ verdict.Yes → ⊥ = λ yes. true≢false (ap is_yes (sym yes ∙ e) ∙ fails) in
      (e, subst (ShowsRenaming (unnamed last) (unnamed target) (seconds pairs)) e (renaming_fact (unnamed last) (unnamed target) (seconds pairs) other))

  renaming_shown : (v : MapVerdict) → renaming_verdict (unnamed last) (unnamed target) (seconds pairs) ≡ v → is_yes v ≡ false → Gives (renaming_witness v) (ShowsBack last target pairs)
  renaming_shown verdict.Yes e fails = absurd (true≢false fails)
  renaming_shown verdict.Degrees e fails = renaming_here verdict.Degrees e fails
  renaming_shown (verdict.Empty x) e fails = renaming_here (verdict.Empty x) e fails
  renaming_shown (verdict.Twice x) e fails = renaming_here (verdict.Twice x) e fails
  renaming_shown (verdict.Active config) e fails = renaming_here (verdict.Active config) e fails
  renaming_shown (verdict.Passive config) e fails = renaming_here (verdict.Passive config) e fails
  renaming_shown (verdict.Count side) e fails = renaming_here (verdict.Count side) e fails

  back_shown : goes_back last target pairs ≡ false → Gives (back_witness last target pairs) (ShowsBack last target pairs)
  back_shown fails =
      let P = ShowsBack last target pairs in
      let missing = first_label (λ x. not (names_first pairs x)) (length last.names) in
      gives-or (option_map PairOrder (first_unordered pairs_ascend 0 pairs)) _ P (λ w e. let (k, found, same) = map-some PairOrder (first_unordered pairs_ascend 0 pairs) w e in subst P same (order_here k found)) (λ order.
      gives-or (option_map MissingPair missing) _ P (λ w e. let (x, found, same) = map-some MissingPair missing w e in subst P same (missing_here x found)) (λ whole.
      let passes : bytes_eq (firsts pairs) (count_from 0 (length last.names)) ≡ true = (bytes_eq-Decides (firsts pairs) (count_from 0 (length last.names))).1 (in_order (map-none PairOrder (first_unordered pairs_ascend 0 pairs) order) (map-none MissingPair missing whole)) in
      renaming_shown (renaming_verdict (unnamed last) (unnamed target) (seconds pairs)) refl (sym (ap (λ b. b && is_yes (renaming_verdict (unnamed last) (unnamed target) (seconds pairs))) passes) ∙ fails)))

pub back_witness_law : BackWitnessLaw
back_witness_law last target pairs below fails = back_shown last target pairs below fails
