-- Randomised algorithms whose nodes have identifiers too: those that take no notice of identifiers, or of strings.
use Rattle.std.proofs.Common.{◌≡◌, ℕ, zero, suc, ◌+◌, ◌*◌, ◌/◌, ◌%◌, ◌^◌, ◌≤◌, ◌<◌, Bool, true, false, cond, not, List, [], ◌∷◌, map, length, filter, refl, sym, ◌∙◌, ap, subst, arith}
use Rattle.std.specs.Prelude.{Contains, slice_index}
use Rattle.std.specs.List.{AllByRecursion}
use Rattle.std.proofs.Math.Nat.{pow-succ'}
use Rattle.std.proofs.lemmas.Nat.{div-mul-add, mod-mul-add}
use Rattle.re_given.proofs.Relabelled.{IsTree-relabelled, relabelled, relabelled-known}
use Rattle.re_given.specs.Given.{around_known}
use Rattle.re_given.specs.InputViews.{Fits, InputView, known}
use Rattle.re_labels.proofs.Membership.{Contains-here, Contains-later, count_from_range, length-count_from}
use Rattle.re_labels.specs.Lists.{count_from}
use Rattle.re_local.proofs.LocalGiven.{FitsAround-taken, around_known-relabelled, behind_passive-relabelled, shown-relabelled}
use Rattle.re_layers.specs.Networks.{AreDifferent}
use Rattle.re_local.specs.LocalAlgorithms.{behind_passive, identified, shown}
use Rattle.re_laws.specs.Algorithms.{at_port}
use Rattle.re_problem.specs.Problems.{IsProblem, Problem}
use Rattle.re_classes.proofs.Certain.{never_below, strings_low}
use Rattle.re_classes.proofs.Drawn.{passing-strings, rare_apart, tally, tally-same}
use Rattle.re_classes.proofs.Numbered.{HasLabels, active_view_below, active_view_labels, behind_passive_below, number, number_below, numbered_active, numbered_passive, numbers_all, painted-numbers, passive_view_below, passive_view_labels, shown_below}
use Rattle.re_classes.specs.RandomLaws.{CertainIdentifiedLaw, UnnoticedNamesLaw}
use Rattle.re_classes.specs.IdentifiedRandom.{FailsRarelyIdentified, with_images, with_strings}
use Rattle.re_classes.specs.RandomAlgorithms.{FailsRarely, painted, string_lists}
use Rattle.re_local.proofs.Counting.{one_if}
use Rattle.re_labels.proofs.Goodness.{Has-has_config}
use Rattle.re_labels.specs.Constraints.{Has, has_config}
use Rattle.re_laws.specs.Trees.{IsTree, IsView, backs, end, leaf, more, shift}

-- what is known of a node in place of its identifier
abbrev pub with_string : ℕ → List ℕ → ℕ → ℕ
with_string R strings id = id * R + slice_index strings id

pub images-relabelled : (image : ℕ → ℕ) (v : InputView) → with_images image v ≡ relabelled image v
images-relabelled image leaf = refl
images-relabelled image end = refl
images-relabelled image (more back label branch rest) =
    let here : with_images image branch ≡ relabelled image branch = images-relabelled image branch in
    let there : with_images image rest ≡ relabelled image rest = images-relabelled image rest in
    rw (here, there) refl

-- the strings alone, and the identifiers alone
strings_alone : (R : ℕ) (strings : List ℕ) (v : InputView) → ((x : ℕ) → slice_index strings x < R)
    → relabelled (λ label. label % R) (with_strings R strings v) ≡ painted strings v
strings_alone R strings leaf low = refl
strings_alone R strings end low = refl
strings_alone R strings (more back label branch rest) low =
    let at_label : (label * R + slice_index strings label) % R ≡ slice_index strings label = mod-mul-add label R (slice_index strings label) (low label) in
    let here : relabelled (λ label. label % R) (with_strings R strings branch) ≡ painted strings branch = strings_alone R strings branch low in
    let there : relabelled (λ label. label % R) (with_strings R strings rest) ≡ painted strings rest = strings_alone R strings rest low in
    rw (at_label, here, there) refl

names_alone : (R : ℕ) (strings : List ℕ) (v : InputView) → ((x : ℕ) → slice_index strings x < R)
    → relabelled (λ label. label / R) (with_strings R strings v) ≡ v
names_alone R strings leaf low = refl
names_alone R strings end low = refl
names_alone R strings (more back label branch rest) low =
    let at_label : (label * R + slice_index strings label) / R ≡ label = div-mul-add label R (slice_index strings label) (low label) in
    let here : relabelled (λ label. label / R) (with_strings R strings branch) ≡ branch = names_alone R strings branch low in
    let there : relabelled (λ label. label / R) (with_strings R strings rest) ≡ rest = names_alone R strings rest low in
    rw (at_label, here, there) refl

-- what the algorithm gives at the image of what is known is what it gives at what is known of the image
known-images : (image : ℕ → ℕ) (algorithm : InputView → List ℕ) (T : ℕ) (w : InputView)
    → algorithm (with_images image (known T w)) ≡ algorithm (known T (relabelled image w))
known-images image algorithm T w = ap algorithm (images-relabelled image (known T w) ∙ relabelled-known image T w)

around-images : (image : ℕ → ℕ) (algorithm : InputView → List ℕ) (T d e : ℕ) (w : InputView) → IsView d e (suc (suc T)) w
    → around_known d T (λ k. algorithm (with_images image k)) w ≡ around_known d T algorithm (relabelled image w)
around-images image algorithm T d e w view =
    each (count_from 1 d) ∙ around_known-relabelled image algorithm T d e w view
  where
    each : (ports : List ℕ) → map (λ port. at_port (algorithm (with_images image (known T (shift (suc T) w port)))) (at_port (backs w) port)) ports
        ≡ map (λ port. at_port (algorithm (relabelled image (known T (shift (suc T) w port)))) (at_port (backs w) port)) ports
    each [] = refl
    each (port ∷ ports) =
        let here : with_images image (known T (shift (suc T) w port)) ≡ relabelled image (known T (shift (suc T) w port)) =
        images-relabelled image (known T (shift (suc T) w port)) in
        let one = ap (λ k. at_port (algorithm k) (at_port (backs w) port)) here in
        let there = each ports in
        rw (one, there) refl

-- the view with strings is one
IsView-strings : (R : ℕ) (strings : List ℕ) (d e t : ℕ) (v : InputView) → IsView d e t v → IsView d e t (with_strings R strings v)
IsView-strings R strings d e t v view =
    subst (λ w. IsView d e t w) (sym (images-relabelled (with_string R strings) v)) (IsTree-relabelled (with_string R strings) d e t d v view)

filter-same : {X : Type 0} (test test' : X → Bool) (xs : List X) → ((x : X) → Contains xs x → test x ≡ test' x)
    → length (filter test xs) ≡ length (filter test' xs)
filter-same test test' [] same = refl
filter-same test test' (x ∷ xs) same =
    let here : test x ≡ test' x = same x (Contains-here x xs) in
    let rest : length (filter test xs) ≡ length (filter test' xs) = filter-same test test' xs (λ y at. same y (Contains-later y x xs at)) in
    ap (λ b. length (cond b (x ∷ filter test xs) (filter test xs))) here ∙ go (test' x) rest
  where
    go : (b : Bool) → length (filter test xs) ≡ length (filter test' xs)
        → length (cond b (x ∷ filter test xs) (filter test xs)) ≡ length (cond b (x ∷ filter test' xs) (filter test' xs))
    go false e = e
    go true e = ap suc e

some_shown : (d e t n : ℕ) (v : InputView) → 1 ≤ n → IsTree d e (suc t) n v → 1 ≤ length (shown v)
some_shown d e t n leaf some tree = absurd tree
some_shown d e t zero v some tree = absurd (omega (arith, some))
some_shown d e t (suc n) end some tree = absurd tree
some_shown d e t (suc n) (more back label branch rest) some tree = omega arith

some_behind : (d e t n : ℕ) (v : InputView) → 1 ≤ n → IsTree d e (suc t) n v → 1 ≤ length (behind_passive v)
some_behind d e t n leaf some tree = absurd tree
some_behind d e t zero v some tree = absurd (omega (arith, some))
some_behind d e t (suc n) end some tree = absurd tree
some_behind d e t (suc n) (more back label branch rest) some tree = omega arith

none_below : (xs : List ℕ) → 1 ≤ length xs → AllByRecursion (λ x. x < 0) xs → ⊥
none_below [] some below = omega (arith, some)
none_below (x ∷ xs) some below = let l = below.0 in omega (arith, l)

-- where something is rare there is some string
some_string : (R N q c : ℕ) → 1 ≤ N → q * c < R ^ N → 1 ≤ R
some_string (suc R) N q c some rare = omega arith
some_string zero zero q c some rare = absurd (omega (arith, some))
some_string zero (suc N) q c some rare =
    let none : 0 ^ suc N ≡ 0 * 0 ^ N = pow-succ' 0 N in
    let none' : 0 * 0 ^ N ≡ 0 = omega arith in
    absurd (omega (arith, none, none', rare))

some_below : (N : ℕ) (ids : List ℕ) → 1 ≤ length ids → AllByRecursion (λ x. x < N) ids → 1 ≤ N
some_below N [] some below = absurd (omega (arith, some))
some_below N (x ∷ ids) some below = let low = below.0 in omega (arith, low)

-- with no identifiers there are no views
pub no_names_active : (problem : Problem) (T : ℕ) → IsProblem problem → (v : InputView) → IsView problem.active.degree problem.passive.degree (suc T) v
    → Fits (identified problem.active.degree problem.passive.degree 0).active (identified problem.active.degree problem.passive.degree 0).passive v → ⊥
no_names_active problem T is v view fits =
    none_below (shown v) (some_shown problem.active.degree problem.passive.degree T problem.active.degree v (let l = is.active.least in omega (arith, l)) view)
    (shown_below 0 v (active_view_below problem.active.degree problem.passive.degree 0 (suc T) problem.active.degree v view fits))

pub no_names_passive : (problem : Problem) (T : ℕ) → IsProblem problem → (v : InputView) → IsView problem.passive.degree problem.active.degree (suc (suc T)) v
    → Fits (identified problem.active.degree problem.passive.degree 0).passive (identified problem.active.degree problem.passive.degree 0).active v → ⊥
no_names_passive problem T is v view fits =
    none_below (behind_passive v)
    (some_behind problem.passive.degree problem.active.degree (suc T) problem.passive.degree v (let l = is.passive.least in omega (arith, l)) view)
    (behind_passive_below 0 v (passive_view_below problem.active.degree problem.passive.degree 0 (suc (suc T)) problem.passive.degree v view fits))

-- ---- no notice of identifiers
module _ (problem : Problem) (N R T q : ℕ) (algorithm : InputView → List ℕ) (is : IsProblem problem) (fails : FailsRarely problem R T q algorithm) where
  abbrev a : ℕ
  a = problem.active.degree

  abbrev p : ℕ
  p = problem.passive.degree

  -- whether the algorithm fails at a view of an active node, and at one of a passive node, under these strings
  abbrev active_event : InputView → List ℕ → Bool
  active_event v strings = not (has_config problem.active (algorithm (known T (painted strings v))))

  abbrev passive_event : InputView → List ℕ → Bool
  passive_event v strings = not (has_config problem.passive (around_known p T algorithm (painted strings v)))

  -- where the strings of all identifiers are drawn, failing is as likely as where those that are shown are
  rare_at : (v : InputView) (ids : List ℕ) (event : InputView → List ℕ → Bool)
      → ((strings strings' : List ℕ) (w : InputView) → painted strings w ≡ painted strings' v → event w strings ≡ event v strings')
      → 1 ≤ length ids → AreDifferent ids → AllByRecursion (λ x. x < N) ids → HasLabels (λ y. Contains ids y) v
      → q * length (filter (event (relabelled (number ids) v)) (string_lists R (length ids))) < R ^ length ids
      → q * tally R N (λ strings. one_if (event v strings)) < R ^ N
  rare_at v ids event sees some apart below labels rare =
      let counted : length (filter (event (relabelled (number ids) v)) (string_lists R (length ids))) ≡ tally R (length ids)
      (λ strings. one_if (event (relabelled (number ids) v) strings)) =
      passing-strings R (length ids) (event (relabelled (number ids) v)) in
      let here : q * tally R (length ids) (λ strings. one_if (event (relabelled (number ids) v) strings)) < R ^ length ids =
      subst (λ c. q * c < R ^ length ids) counted rare in
      let there : q * tally R N (λ strings. one_if (event (relabelled (number ids) v) (map (slice_index strings) ids))) < R ^ N =
      rare_apart R (length ids) N q ids (λ strings. one_if (event (relabelled (number ids) v) strings)) some refl apart below here in
      let same : tally R N (λ strings. one_if (event (relabelled (number ids) v) (map (slice_index strings) ids))) ≡ tally R N
      (λ strings. one_if (event v strings)) =
      tally-same R N (λ strings. one_if (event (relabelled (number ids) v) (map (slice_index strings) ids))) (λ strings. one_if (event v strings))
      (λ strings. ap one_if (sees (map (slice_index strings) ids) strings (relabelled (number ids) v) (painted-numbers strings ids v labels))) in
      subst (λ c. q * c < R ^ N) same there

  rare_active : (v : InputView) → IsView a p (suc T) v → Fits (identified a p N).active (identified a p N).passive v → AreDifferent (shown v)
      → q * length (filter (active_event v) (string_lists R N)) < R ^ N
  rare_active v view fits apart =
      let some : 1 ≤ length (shown v) = some_shown a p T a v (let l = is.active.least in omega (arith, l)) view in
      let low : (x : ℕ) → number (shown v) x < length (shown v) = λ x. number_below (shown v) x some in
      subst (λ c. q * c < R ^ N) (sym (passing-strings R N (active_event v)))
      (rare_at v (shown v) active_event (λ strings strings' w e. ap (λ w. not (has_config problem.active (algorithm (known T w)))) e) some apart
      (shown_below N v (active_view_below a p N (suc T) a v view fits)) (active_view_labels a p N (suc T) a v view fits)
      (fails.active (relabelled (number (shown v)) v) (length (shown v)) (IsTree-relabelled (number (shown v)) a p (suc T) a v view)
      (FitsAround-taken (number (shown v)) (identified a p N).active (identified a p N).passive (identified a p (length (shown v))).active
      (identified a p (length (shown v))).passive
      (numbered_active a p N (length (shown v)) (number (shown v)) low) (numbered_passive a p N (length (shown v)) (number (shown v)) low) [] v fits)
      (shown-relabelled (number (shown v)) v ∙ numbers_all (shown v) apart)))

  rare_passive : (v : InputView) → IsView p a (suc (suc T)) v → Fits (identified a p N).passive (identified a p N).active v → AreDifferent (behind_passive v)
      → q * length (filter (passive_event v) (string_lists R N)) < R ^ N
  rare_passive v view fits apart =
      let some : 1 ≤ length (behind_passive v) = some_behind p a (suc T) p v (let l = is.passive.least in omega (arith, l)) view in
      let low : (x : ℕ) → number (behind_passive v) x < length (behind_passive v) = λ x. number_below (behind_passive v) x some in
      subst (λ c. q * c < R ^ N) (sym (passing-strings R N (passive_event v)))
      (rare_at v (behind_passive v) passive_event
      (λ strings strings' w e. ap (λ w. not (has_config problem.passive (around_known p T algorithm w))) e) some apart
      (behind_passive_below N v (passive_view_below a p N (suc (suc T)) p v view fits)) (passive_view_labels a p N (suc (suc T)) p v view fits)
      (fails.passive (relabelled (number (behind_passive v)) v) (length (behind_passive v))
      (IsTree-relabelled (number (behind_passive v)) p a (suc (suc T)) p v view)
      (FitsAround-taken (number (behind_passive v)) (identified a p N).passive (identified a p N).active (identified a p (length (behind_passive v))).passive
      (identified a p (length (behind_passive v))).active
      (numbered_passive a p N (length (behind_passive v)) (number (behind_passive v)) low)
      (numbered_active a p N (length (behind_passive v)) (number (behind_passive v)) low) [] v fits)
      (behind_passive-relabelled (number (behind_passive v)) v ∙ numbers_all (behind_passive v) apart)))

  unnoticed : FailsRarelyIdentified problem N R T q (λ k. algorithm (with_images (λ label. label % R) k))
  unnoticed = record {
    active = λ v view fits apart.
        let rare = rare_active v view fits apart in
        let few = shown_below N v (active_view_below a p N (suc T) a v view fits) in
        let names : 1 ≤ N = some_below N (shown v) (some_shown a p T a v (let l = is.active.least in omega (arith, l)) view) few in
        let some : 1 ≤ R = some_string R N q (length (filter (active_event v) (string_lists R N))) names rare in
        subst (λ c. q * c < R ^ N)
        (filter-same (active_event v)
        (λ strings. not (has_config problem.active (algorithm (with_images (λ label. label % R) (known T (with_strings R strings v))))))
        (string_lists R N)
        (λ strings held. ap (λ labels. not (has_config problem.active labels))
        (sym (known-images (λ label. label % R) algorithm T (with_strings R strings v)
        ∙ ap (λ w. algorithm (known T w)) (strings_alone R strings v (strings_low R N strings some held)))))) rare;
    passive = λ v view fits apart.
        let rare = rare_passive v view fits apart in
        let few = behind_passive_below N v (passive_view_below a p N (suc (suc T)) p v view fits) in
        let names : 1 ≤ N = some_below N (behind_passive v) (some_behind p a (suc T) p v (let l = is.passive.least in omega (arith, l)) view) few in
        let some : 1 ≤ R = some_string R N q (length (filter (passive_event v) (string_lists R N))) names rare in
        subst (λ c. q * c < R ^ N)
        (filter-same (passive_event v)
        (λ strings. not (has_config problem.passive (around_known p T (λ k. algorithm (with_images (λ label. label % R) k)) (with_strings R strings v))))
        (string_lists R N)
        (λ strings held. ap (λ labels. not (has_config problem.passive labels))
        (sym (around-images (λ label. label % R) algorithm T p a (with_strings R strings v) (IsView-strings R strings p a (suc (suc T)) v view)
        ∙ ap (λ w. around_known p T algorithm w) (strings_alone R strings v (strings_low R N strings some held)))))) rare;
  }

pub fails_identified : (problem : Problem) (N R T q : ℕ) (algorithm : InputView → List ℕ) → IsProblem problem → FailsRarely problem R T q algorithm
    → FailsRarelyIdentified problem N R T q (λ seen. algorithm (with_images (λ label. label % R) seen))
fails_identified problem N R T q algorithm is fails = unnoticed problem N R T q algorithm is fails

different_numbers : (i k : ℕ) → AreDifferent (count_from i k)
different_numbers i zero = tt
different_numbers i (suc k) =
    ((λ held. let low = (count_from_range (suc i) k i held).0 in omega (arith, low)), different_numbers (suc i) k)

-- where it fails rarely with any number of identifiers, it does so without: a view's numbers are identifiers too
unnamed : (problem : Problem) (R T q : ℕ) (algorithm : InputView → List ℕ) → IsProblem problem
    → ((N : ℕ) → FailsRarelyIdentified problem N R T q (λ seen. algorithm (with_images (λ label. label % R) seen))) → FailsRarely problem R T q algorithm
unnamed problem R T q algorithm is fails =
    let a : ℕ = problem.active.degree in
    let p : ℕ = problem.passive.degree in
    record {
      active = λ v k view fits order.
          let rare = FailsRarelyIdentified.active (fails k) v view fits (subst AreDifferent (sym order) (different_numbers 0 k)) in
          let count : length (shown v) ≡ k = ap length order ∙ length-count_from 0 k in
          let shows : 1 ≤ length (shown v) = some_shown a p T a v (let l = is.active.least in omega (arith, l)) view in
          let some : 1 ≤ R = some_string R k q _ (omega (arith, count, shows)) rare in
          subst (λ c. q * c < R ^ k)
          (filter-same (λ strings. not (has_config problem.active (algorithm (with_images (λ label. label % R) (known T (with_strings R strings v))))))
          (λ strings. not (has_config problem.active (algorithm (known T (painted strings v))))) (string_lists R k)
          (λ strings held. ap (λ labels. not (has_config problem.active labels))
          (known-images (λ label. label % R) algorithm T (with_strings R strings v)
          ∙ ap (λ w. algorithm (known T w)) (strings_alone R strings v (strings_low R k strings some held))))) rare;
      passive = λ v k view fits order.
          let rare = FailsRarelyIdentified.passive (fails k) v view fits (subst AreDifferent (sym order) (different_numbers 0 k)) in
          let count : length (behind_passive v) ≡ k = ap length order ∙ length-count_from 0 k in
          let shows : 1 ≤ length (behind_passive v) = some_behind p a (suc T) p v (let l = is.passive.least in omega (arith, l)) view in
          let some : 1 ≤ R = some_string R k q _ (omega (arith, count, shows)) rare in
          subst (λ c. q * c < R ^ k)
          (filter-same
          (λ strings. not
          (has_config problem.passive (around_known p T (λ seen. algorithm (with_images (λ label. label % R) seen)) (with_strings R strings v))))
          (λ strings. not (has_config problem.passive (around_known p T algorithm (painted strings v)))) (string_lists R k)
          (λ strings held. ap (λ labels. not (has_config problem.passive labels))
          (around-images (λ label. label % R) algorithm T p a (with_strings R strings v) (IsView-strings R strings p a (suc (suc T)) v view)
          ∙ ap (λ w. around_known p T algorithm w) (strings_alone R strings v (strings_low R k strings some held))))) rare;
    }

pub unnoticed_names : UnnoticedNamesLaw
unnoticed_names problem R T q algorithm is = ((λ fails N. fails_identified problem N R T q algorithm is fails), unnamed problem R T q algorithm is)

-- ---- no notice of strings
pub certain_identified : CertainIdentifiedLaw
certain_identified problem N R T q algorithm some solves =
    let a : ℕ = problem.active.degree in
    let p : ℕ = problem.passive.degree in
    record {
      active = λ v view fits apart.
          never_below R N q
          (λ strings. not (has_config problem.active (algorithm (with_images (λ label. label / R) (known T (with_strings R strings v)))))) some
          (λ strings held.
          let has : Has problem.active (algorithm (known T v)) = solves.active v view fits (subst AreDifferent (sym (same_ids (shown v))) apart) in
          let same = known-images (λ label. label / R) algorithm T (with_strings R strings v)
          ∙ ap (λ w. algorithm (known T w)) (names_alone R strings v (strings_low R N strings some held)) in
          ap (λ labels. not (has_config problem.active labels)) same ∙ ap not (Has-has_config problem.active (algorithm (known T v)) has));
      passive = λ v view fits apart.
          never_below R N q
          (λ strings. not (has_config problem.passive (around_known p T (λ k. algorithm (with_images (λ label. label / R) k)) (with_strings R strings v))))
          some
          (λ strings held.
          let has : Has problem.passive (around_known p T algorithm v) =
          solves.passive v view fits (subst AreDifferent (sym (same_ids (behind_passive v))) apart) in
          let same = around-images (λ label. label / R) algorithm T p a (with_strings R strings v) (IsView-strings R strings p a (suc (suc T)) v view)
          ∙ ap (λ w. around_known p T algorithm w) (names_alone R strings v (strings_low R N strings some held)) in
          ap (λ labels. not (has_config problem.passive labels)) same ∙ ap not (Has-has_config problem.passive (around_known p T algorithm v) has));
    }
  where
    same_ids : (xs : List ℕ) → map (λ x. x) xs ≡ xs
    same_ids [] = refl
    same_ids (x ∷ xs) = ap (◌∷◌ x) (same_ids xs)
