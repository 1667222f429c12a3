-- A randomised algorithm that fails rarely enough fails nowhere under some list of strings, one for each identifier: so it is a deterministic one.
use Rattle.std.proofs.Common.{◌≡◌, ℕ, zero, suc, ◌+◌, ◌*◌, ◌^◌, ◌≤◌, ◌<◌, Bool, true, false, not, eqb, ◌&&◌, inl, inr, List, [], ◌∷◌, ◌++◌, map, length, filter, ◌%◌, refl, sym, ◌∙◌, ap, subst, arith, length-append}
use Rattle.std.specs.Prelude.{Contains}
use Rattle.std.specs.List.{AllByRecursion, list_any}
use Rattle.std.proofs.Math.Nat.{mul-le-mul_left, one-le-mul, pow-le-pow_left, pow-le-pow_right}
use Rattle.std.proofs.lemmas.Bool.{false_from_ne_true, false≢true, not_from_false}
use Rattle.std.proofs.lemmas.Bool.Decides.{eqb_tells}
use Rattle.std.proofs.lemmas.List.Elements.{Contains-append_cases, Contains-append_left, Contains-append_right}
use Rattle.re_given.proofs.AllInputViews.{Contains-all_trees, FitsAround-fits, all_trees, all_trees-IsTree, fits-FitsAround, fits_around}
use Rattle.re_given.proofs.Relabelled.{relabelled, relabelled-known}
use Rattle.re_given.specs.Given.{around_known}
use Rattle.re_given.specs.InputViews.{InputView, known}
use Rattle.re_labels.proofs.Membership.{AllByRecursion-contains, AllByRecursion-from_contains, Contains-filter, Contains-filter_cases, Contains-map, Contains-map_cases, any_found, any_true, length-filter_most, length-map'}
use Rattle.re_labels.proofs.Tests.{and-true, not-true, true-and}
use Rattle.re_local.proofs.LocalGiven.{around_known-relabelled}
use Rattle.re_layers.specs.Networks.{AreDifferent}
use Rattle.re_local.specs.LocalAlgorithms.{SolvableLocal, behind_passive, identified, shown}
use Rattle.re_problem.proofs.Examples.{IsProblem-relaxed_sinkless}
use Rattle.re_problem.proofs.FedLines.{unnot}
use Rattle.re_problem.specs.Examples.{relaxed_sinkless}
use Rattle.re_problem.specs.Problems.{Problem}
use Rattle.re_classes.proofs.Drawn.{none_happens, passing-strings, tally}
use Rattle.re_classes.proofs.FewerNames.{fewer_names}
use Rattle.re_classes.proofs.IdentifiedViews.{fails_identified, images-relabelled, no_names_active, no_names_passive, with_string}
use Rattle.re_classes.proofs.Numbered.{active_view_below, passive_view_below}
use Rattle.re_classes.proofs.Powers.{sinkless_bits, views_few}
use Rattle.re_classes.proofs.ViewCounts.{view_count}
use Rattle.re_classes.specs.RandomLaws.{DerandomisedLaw, DerandomisedIdentifiedLaw, RandomisedLaw, RandomisedIdentifiedLaw, SinklessRandomLaw, id_views, random_base}
use Rattle.re_classes.specs.IdentifiedRandom.{FailsRarelyIdentified, with_images, with_strings}
use Rattle.re_local.proofs.Counting.{one_if}
use Rattle.re_local.proofs.Separated.{sinkless_unique}
use Rattle.re_local.specs.SeparatingLaws.{identifier_base}
use Rattle.re_labels.proofs.Goodness.{has_config-Has}
use Rattle.re_labels.specs.Constraints.{has_config}

-- whether nothing stands twice
abbrev pub are_different : List ℕ → Bool
are_different [] = true
are_different (x ∷ xs) = not (list_any (eqb x) xs) && are_different xs

AreDifferent-tells : (xs : List ℕ) → AreDifferent xs → are_different xs ≡ true
AreDifferent-tells [] apart = refl
AreDifferent-tells (x ∷ xs) apart =
    true-and (not (list_any (eqb x) xs)) (are_different xs) (not_from_false (list_any (eqb x) xs) (false_from_ne_true (list_any (eqb x) xs) (λ e. found (any_found (eqb x) xs e))))
    (AreDifferent-tells xs apart.1)
  where
    found : (y : ℕ) × Contains xs y × (eqb x y ≡ true) → ⊥
    found (y, held, same) = elim (eqb_tells x y) [ inl t ↦ apart.0 (subst (λ z. Contains xs z) (sym t.1) held) | inr t ↦ false≢true (sym t.0 ∙ same) ]

tells-AreDifferent : (xs : List ℕ) → are_different xs ≡ true → AreDifferent xs
tells-AreDifferent [] h = tt
tells-AreDifferent (x ∷ xs) h =
    let both = and-true (not (list_any (eqb x) xs)) (are_different xs) h in
    (λ held. false≢true (sym (not-true (list_any (eqb x) xs) both.0) ∙ any_true (eqb x) xs x held same), tells-AreDifferent xs both.1)
  where
    same : eqb x x ≡ true
    same = elim (eqb_tells x x) [ inl t ↦ t.0 | inr t ↦ absurd (t.1 refl) ]

module _ (problem : Problem) (N R T q : ℕ) (algorithm : InputView → List ℕ) (fails : FailsRarelyIdentified problem N R T q algorithm) where
  abbrev a : ℕ
  a = problem.active.degree

  abbrev p : ℕ
  p = problem.passive.degree

  -- whether the algorithm fails at a view of an active node, and at one of a passive node, under these strings
  abbrev active_event : InputView → List ℕ → Bool
  active_event v strings = not (has_config problem.active (algorithm (known T (with_strings R strings v))))

  abbrev passive_event : InputView → List ℕ → Bool
  passive_event v strings = not (has_config problem.passive (around_known p T algorithm (with_strings R strings v)))

  -- the views with different identifiers
  abbrev passes_active : InputView → Bool
  passes_active v = fits_around (identified a p N).active (identified a p N).passive [] v && are_different (shown v)

  abbrev passes_passive : InputView → Bool
  passes_passive v = fits_around (identified a p N).passive (identified a p N).active [] v && are_different (behind_passive v)

  abbrev active_views : List InputView
  active_views = filter passes_active (all_trees N a p (suc T) a)

  abbrev passive_views : List InputView
  passive_views = filter passes_passive (all_trees N p a (suc (suc T)) p)

  abbrev events : List (List ℕ → Bool)
  events = map active_event active_views ++ map passive_event passive_views

  rare_active : (v : InputView) → Contains active_views v → q * tally R N (λ strings. one_if (active_event v strings)) < R ^ N
  rare_active v held =
      let (listed, passes) = Contains-filter_cases passes_active (all_trees N a p (suc T) a) v held in
      let both = and-true (fits_around (identified a p N).active (identified a p N).passive [] v) (are_different (shown v)) passes in
      subst (λ c. q * c < R ^ N) (passing-strings R N (active_event v))
      (fails.active v (all_trees-IsTree N a p (suc T) a v listed) (fits-FitsAround (identified a p N).active (identified a p N).passive [] v both.0)
      (tells-AreDifferent (shown v) both.1))

  rare_passive : (v : InputView) → Contains passive_views v → q * tally R N (λ strings. one_if (passive_event v strings)) < R ^ N
  rare_passive v held =
      let (listed, passes) = Contains-filter_cases passes_passive (all_trees N p a (suc (suc T)) p) v held in
      let both = and-true (fits_around (identified a p N).passive (identified a p N).active [] v) (are_different (behind_passive v)) passes in
      subst (λ c. q * c < R ^ N) (passing-strings R N (passive_event v))
      (fails.passive v (all_trees-IsTree N p a (suc (suc T)) p v listed) (fits-FitsAround (identified a p N).passive (identified a p N).active [] v both.0)
      (tells-AreDifferent (behind_passive v) both.1))

  all_rare : AllByRecursion (λ (event : List ℕ → Bool). q * tally R N (λ strings. one_if (event strings)) < R ^ N) events
  all_rare = AllByRecursion-from_contains (λ (event : List ℕ → Bool). q * tally R N (λ strings. one_if (event strings)) < R ^ N) events
      (λ event held. elim (Contains-append_cases (map active_event active_views) (map passive_event passive_views) event held) [
        | inl here ↦
            (let (v, at, e) = Contains-map_cases active_event active_views event here in
            subst (λ (event : List ℕ → Bool). q * tally R N (λ strings. one_if (event strings)) < R ^ N) e (rare_active v at))
        | inr there ↦
            (let (v, at, e) = Contains-map_cases passive_event passive_views event there in
            subst (λ (event : List ℕ → Bool). q * tally R N (λ strings. one_if (event strings)) < R ^ N) e (rare_passive v at))
      ])

  event_count : length events ≤ length (all_trees N a p (suc T) a) + length (all_trees N p a (suc (suc T)) p)
  event_count =
      let one : length (map active_event active_views) ≡ length active_views = length-map' active_event active_views in
      let two : length (map passive_event passive_views) ≡ length passive_views = length-map' passive_event passive_views in
      let one' : length active_views ≤ length (all_trees N a p (suc T) a) = length-filter_most passes_active (all_trees N a p (suc T) a) in
      let two' : length passive_views ≤ length (all_trees N p a (suc (suc T)) p) = length-filter_most passes_passive (all_trees N p a (suc (suc T)) p) in
      let both : length events ≡ length (map active_event active_views) + length (map passive_event passive_views) =
      length-append (map active_event active_views) (map passive_event passive_views) in
      omega (arith, one, two, one', two', both)

  -- under strings at which nothing fails the algorithm is a deterministic one
  fixed_strings : (strings : List ℕ) → AllByRecursion (λ (event : List ℕ → Bool). event strings ≡ false) events → SolvableLocal problem N T
  fixed_strings strings none = (
    λ k. algorithm (relabelled (with_string R strings) k),
    record {
      active = λ v view fits apart.
          let listed : Contains active_views v = Contains-filter passes_active (all_trees N a p (suc T) a) v
          (Contains-all_trees N a p (suc T) a v view (active_view_below a p N (suc T) a v view fits))
          (true-and (fits_around (identified a p N).active (identified a p N).passive [] v) (are_different (shown v))
          (FitsAround-fits (identified a p N).active (identified a p N).passive [] v fits)
          (AreDifferent-tells (shown v) (subst AreDifferent (map-same-id (shown v)) apart))) in
          let event : active_event v strings ≡ false = AllByRecursion-contains (λ (event : List ℕ → Bool). event strings ≡ false) events (active_event v) none
          (Contains-append_left (map active_event active_views) (map passive_event passive_views) (active_event v)
          (Contains-map active_event active_views v listed)) in
          let has = has_config-Has problem.active (algorithm (known T (with_strings R strings v)))
          (unnot (has_config problem.active (algorithm (known T (with_strings R strings v)))) event) in
          rw (relabelled-known (with_string R strings) T v, ← images-relabelled (with_string R strings) v) has;
      passive = λ v view fits apart.
          let listed : Contains passive_views v = Contains-filter passes_passive (all_trees N p a (suc (suc T)) p) v
          (Contains-all_trees N p a (suc (suc T)) p v view (passive_view_below a p N (suc (suc T)) p v view fits))
          (true-and (fits_around (identified a p N).passive (identified a p N).active [] v) (are_different (behind_passive v))
          (FitsAround-fits (identified a p N).passive (identified a p N).active [] v fits)
          (AreDifferent-tells (behind_passive v) (subst AreDifferent (map-same-id (behind_passive v)) apart))) in
          let event : passive_event v strings ≡ false = AllByRecursion-contains (λ (event : List ℕ → Bool). event strings ≡ false) events (passive_event v) none
          (Contains-append_right (map active_event active_views) (map passive_event passive_views) (passive_event v)
          (Contains-map passive_event passive_views v listed)) in
          let has = has_config-Has problem.passive (around_known p T algorithm (with_strings R strings v))
          (unnot (has_config problem.passive (around_known p T algorithm (with_strings R strings v))) event) in
          rw (around_known-relabelled (with_string R strings) algorithm T p a v view, ← images-relabelled (with_string R strings) v) has;
    },
  )
    where
      map-same-id : (xs : List ℕ) → map (λ x. x) xs ≡ xs
      map-same-id [] = refl
      map-same-id (x ∷ xs) = ap (◌∷◌ x) (map-same-id xs)

pub derandomised_identified : DerandomisedIdentifiedLaw
derandomised_identified problem d zero R T q algorithm is low low' few fails = (
  λ k. [],
  record {
    active = λ v view fits apart. absurd (no_names_active problem T is v view fits);
    passive = λ v view fits apart. absurd (no_names_passive problem T is v view fits);
  },
)
derandomised_identified problem d (suc M) R T q algorithm is low low' few fails =
    let (strings, none) = none_happens R N q (events problem N R T q algorithm fails) (all_rare problem N R T q algorithm fails) enough in
    fixed_strings problem N R T q algorithm fails strings none
  where
    N : ℕ
    N = suc M

    a : ℕ
    a = problem.active.degree

    p : ℕ
    p = problem.passive.degree

    least : 1 ≤ d
    least = let l = is.active.least in omega (arith, l, low)

    compare : (n x y : ℕ) → n ≤ x + y → x ≤ (d * N) ^ (d ^ suc T) → y ≤ (d * N) ^ (d ^ suc (suc T)) → n ≤ q
    compare n x y l one two =
        let radius : T + 2 ≡ suc (suc T) = omega arith in
        let views : id_views d N T ≡ 2 * (d * N) ^ (d ^ suc (suc T)) = ap (λ r. 2 * (d * N) ^ (d ^ r)) radius in
        let wider : d ^ suc T ≤ d ^ suc (suc T) = pow-le-pow_right least (omega arith) in
        let all : 1 ≤ d * N = one-le-mul least (omega arith) in
        let more : (d * N) ^ (d ^ suc T) ≤ (d * N) ^ (d ^ suc (suc T)) = pow-le-pow_right all wider in
        omega (arith, l, one, two, views, more, few)

    enough : length (events problem N R T q algorithm fails) ≤ q
    enough =
        compare (length (events problem N R T q algorithm fails)) (length (all_trees N a p (suc T) a)) (length (all_trees N p a (suc (suc T)) p))
        (event_count problem N R T q algorithm fails) (view_count d N a p T a least (omega arith) low low' low)
        (view_count d N p a (suc T) p least (omega arith) low' low low')

-- one that sees no identifiers is one that takes no notice of them
pub derandomised : DerandomisedLaw
derandomised problem d N R T q algorithm is low low' few fails =
    derandomised_identified problem d N R T q (λ k. algorithm (with_images (λ label. label % R) k)) is low low' few
    (fails_identified problem N R T q algorithm is fails)

pub randomised : RandomisedLaw
randomised problem d C l T is low low' small never q R algorithm enough fails =
    let least : 1 ≤ d = (let m = is.active.least in omega (arith, m, low)) in
    let few : id_views d ((2 ^ l) ^ (T + 1)) T ≤ q = (let v = views_few d l T least in omega (arith, v, enough)) in
    never ((2 ^ l) ^ (T + 1)) (pow-le-pow_left small (T + 1)) (derandomised problem d ((2 ^ l) ^ (T + 1)) R T q algorithm is low low' few fails)

pub randomised_identified : RandomisedIdentifiedLaw
randomised_identified problem d C l T is low low' small never N q R algorithm many enough fails =
    never M (omega arith) (derandomised_identified problem d M R T q algorithm is low low' few (fewer_names problem M N R T q algorithm many fails))
  where
    M : ℕ
    M = C ^ (T + 1)

    few : id_views d M T ≤ q
    few =
        let least : 1 ≤ d = (let m = is.active.least in omega (arith, m, low)) in
        let views : id_views d ((2 ^ l) ^ (T + 1)) T ≤ 2 ^ (random_base d l ^ (T + 1)) = views_few d l T least in
        let wider : d * M ≤ d * (2 ^ l) ^ (T + 1) = mul-le-mul_left d (pow-le-pow_left small (T + 1)) in
        let less : (d * M) ^ (d ^ (T + 2)) ≤ (d * (2 ^ l) ^ (T + 1)) ^ (d ^ (T + 2)) = pow-le-pow_left wider (d ^ (T + 2)) in
        omega (arith, views, less, enough)

pub sinkless_random : SinklessRandomLaw
sinkless_random T = randomised relaxed_sinkless 3 (identifier_base 3 2 2) 989 T IsProblem-relaxed_sinkless (omega arith) (omega arith)
    sinkless_bits (sinkless_unique T)
