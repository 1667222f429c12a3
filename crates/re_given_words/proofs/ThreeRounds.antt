-- Three rounds: rows at the meetings of spots, from sets that stand at the ports for the derived problem.
use Rattle.std.proofs.Common.{◌≡◌, ℕ, zero, suc, ◌+◌, ◌*◌, ◌<◌, ◌≤◌, List, [], ◌∷◌, ◌++◌, length, map, get_or, refl, sym, ap, ◌∙◌, subst, arith, append_assoc, eqb, unwrap_or}
use Rattle.std.specs.Prelude.{Contains, slice_set}
use Rattle.std.specs.List.{AllByRecursion, AllZip, find, flat_map}
use Rattle.std.proofs.lemmas.List.{length-map}
use Rattle.std.proofs.lemmas.List.Elements.{Contains-get_or}
use Rattle.std.proofs.lemmas.Nat.{row_fits}
use Rattle.re_labels.proofs.ChoicesOfRows.{IsChoice-choices, choices-IsChoice}
use Rattle.re_labels.proofs.LawsOfRows.{multisets_law}
use Rattle.re_labels.proofs.OrdersAt.{get_or-flat_map, get_or-map, length-flat_map}
use Rattle.re_labels.proofs.Placing.{placed_whole}
use Rattle.re_labels.proofs.Rearranging.{AllZip-at, Rearranged-map, Rearranged-sym, length-AllZip}
use Rattle.re_labels.proofs.Rows.{all_at}
use Rattle.re_labels.proofs.Sorting.{AllByRecursion-Rearranged, Rearranged-sorted}
use Rattle.re_labels.specs.Configs.{IsConfig, sorted}
use Rattle.re_labels.specs.Rearranging.{Rearranged}
use Rattle.re_labels.specs.Rows.{IsChoice, choices, set_at}
use Rattle.re_labels.proofs.LabelPlaces.{map-get-place_of}
use Rattle.re_labels.proofs.Membership.{AllByRecursion-contains, AllByRecursion-from_contains, Contains-filter_cases, Contains-flat_map_cases, Contains-here, Contains-later, Contains-map_cases, count_from_range, first_found, length-count_from, map-alike}
use Rattle.re_labels.proofs.Tests.{eqb-true}
use Rattle.re_labels.specs.Lists.{count_from, place_of}
use Rattle.re_labels.specs.Sets.{IsIn}
use Rattle.re_labels.proofs.Goodness.{Has-has_config, IsGood-Rearranged, has_config-Has}
use Rattle.re_labels.proofs.MaxSets.{max_sets-row, maximal}
use Rattle.re_labels.specs.Constraints.{Constraint, Has, has_config}
use Rattle.re_labels.specs.GoodRows.{IsAllowed, IsGood, max_rows, max_sets}
use Rattle.re_labels.specs.Strength.{IsAtLeastAsStrong}
use Rattle.re_boxes.proofs.BoxesOfRows.{all_from_at}
use Rattle.re_boxes.proofs.Grown.{added_good, grown_law}
use Rattle.re_boxes.proofs.Spread.{one_label}
use Rattle.re_boxes.proofs.StrengthTests.{stronger_anywhere}
use Rattle.re_problem.proofs.DerivedProblem.{IsUpper-derived}
use Rattle.re_problem.specs.Derived.{derived}
use Rattle.re_problem.specs.Problems.{Problem}
use Rattle.re_given.specs.UpSets.{IsUpSet}
use Rattle.re_given_words.proofs.OneRound.{allowed-labels}
use Rattle.re_given_words.specs.Ahead.{ShowsTwo, StandsAt}
use Rattle.re_given_words.specs.Three.{IsMadeAt, IsMeeting, ShowsThree, port_of, spot_ports, spots_in, spots_of, types_of}
use Rattle.re_given_words.specs.declared.standing.Standing.{Standing}

-- ---- maximal rows
-- where each choice of the sets is a configuration, so is each one with a label that is at least as strong as one of a set in place of that set
only_stronger : (K : Constraint) (x y : ℕ) → IsAtLeastAsStrong K y x → (seen : List ℕ) (row : List (List ℕ)) (i : ℕ) (labels : List ℕ) → i < length row → IsIn x (set_at row i)
    → ((others : List ℕ) → IsChoice others row → Has K (seen ++ others)) → IsChoice labels (slice_set row i (y ∷ [])) → Has K (seen ++ labels)
only_stronger K x y strong seen [] i labels low held each chosen = absurd (omega (arith, low))
only_stronger K x y strong seen (s ∷ row) zero [] low held each chosen = absurd chosen
only_stronger K x y strong seen (s ∷ row) (suc i) [] low held each chosen = absurd chosen
only_stronger K x y strong seen (s ∷ row) zero (z ∷ labels) low held each chosen =
    subst (λ w. Has K (seen ++ w ∷ labels)) (sym (one_label z y chosen.0)) (stronger_anywhere K x y seen labels strong (each (x ∷ labels) (held, chosen.1)))
only_stronger K x y strong seen (s ∷ row) (suc i) (z ∷ labels) low held each chosen =
    subst (Has K) (append_assoc seen (z ∷ []) labels)
    (only_stronger K x y strong (seen ++ z ∷ []) row i labels (omega (arith, low)) held (λ others k. subst (Has K) (sym (append_assoc seen (z ∷ []) others)) (each (z ∷ others) (chosen.0, k))) chosen.1)

-- the sets of a maximal row are up-sets
pub maximal_up_sets : (K : Constraint) (n : ℕ) (row : List (List ℕ)) → Contains (max_rows K n) row → AllByRecursion (IsUpSet K n) row
maximal_up_sets K n row held =
    let three = (grown_law K n row).0 held in
    all_from_at (IsUpSet K n) row (λ i low. record {
      is_set = (all_at _ row i three.0.sets low).0;
      up = λ x y at below strong. three.2 i y low below (added_good K row i y three.1 (λ labels chosen. only_stronger K x y strong [] row i labels low at three.1.choice chosen));
    })

-- ---- lists
-- numbers from one on, as the numbers before it and more
shifted : (f : ℕ → List ℕ) (b i n : ℕ) → map f (count_from (b + i) n) ≡ map (λ k. f (b + k)) (count_from i n)
shifted f b i zero = refl
shifted f b i (suc n) = let e : suc (b + i) ≡ b + suc i = omega arith in ap (λ l. f (b + i) ∷ l) (ap (λ j. map f (count_from j n)) e ∙ shifted f b (suc i) n)

module _ {A B : Type 0} (R : A → B → Type 0) where
  zip-append : (xs zs : List A) (ys ws : List B) → AllZip R xs ys → AllZip R zs ws → AllZip R (xs ++ zs) (ys ++ ws)
  zip-append [] zs [] ws first rest = rest
  zip-append [] zs (y ∷ ys) ws first rest = absurd first
  zip-append (x ∷ xs) zs [] ws first rest = absurd first
  zip-append (x ∷ xs) zs (y ∷ ys) ws first rest = (first.0, zip-append xs zs ys ws first.1 rest)

  zip-flat : (xss : List (List A)) (yss : List (List B)) → AllZip (AllZip R) xss yss → AllZip R (flat_map (λ xs. xs) xss) (flat_map (λ ys. ys) yss)
  zip-flat [] [] zip = tt
  zip-flat [] (ys ∷ yss) zip = absurd zip
  zip-flat (xs ∷ xss) [] zip = absurd zip
  zip-flat (xs ∷ xss) (ys ∷ yss) zip = zip-append xs (flat_map (λ xs. xs) xss) ys (flat_map (λ ys. ys) yss) zip.0 (zip-flat xss yss zip.1)

  -- where each element has one that fits, they make a list
  listed : (xs : List A) → ((x : A) → Contains xs x → (y : B) × R x y) → (ys : List B) × AllZip R xs ys
  listed [] each = ([], tt)
  listed (x ∷ xs) each =
      let (y, fits) = each x (Contains-here x xs) in
      let (ys, rest) = listed xs (λ z held. each z (Contains-later z x xs held)) in
      (y ∷ ys, (fits, rest))

zip-weaker : {A B : Type 0} (R S : A → B → Type 0) → ((x : A) (y : B) → R x y → S x y) → (xs : List A) (ys : List B) → AllZip R xs ys → AllZip S xs ys
zip-weaker R S weaker [] [] zip = tt
zip-weaker R S weaker [] (y ∷ ys) zip = absurd zip
zip-weaker R S weaker (x ∷ xs) [] zip = absurd zip
zip-weaker R S weaker (x ∷ xs) (y ∷ ys) zip = (weaker x y zip.0, zip-weaker R S weaker xs ys zip.1)

-- ---- from sets that stand at the ports for the derived problem
module _ (problem : Problem) (standing : List Standing) (shows : ShowsTwo (derived problem) standing) where
  abbrev a : ℕ
  a = problem.active.degree

  abbrev p : ℕ
  p = problem.passive.degree

  abbrev sets : List (List ℕ)
  sets = max_sets problem.passive problem.labels

  abbrev types : List (List ℕ)
  types = types_of problem

  abbrev spots : ℕ
  spots = length (spot_ports problem)

  -- a row serves a type
  abbrev Serves : List ℕ → List (List ℕ) → Type 0
  Serves ports row = AllZip (StandsAt standing) ports row × IsGood (derived problem).passive row

  found : (rows : List (List (List ℕ))) × AllZip Serves types rows
  found = listed Serves types (λ ports held. let (row, zip, good) = shows.rows ports (((multisets_law a p).1 ports).0 held) in (row, (zip, good)))

  abbrev rows : List (List (List ℕ))
  rows = found.0

  -- the sets at the spots
  abbrev spot_sets : List (List ℕ)
  spot_sets = flat_map (λ (row : List (List ℕ)). row) rows

  rows-count : length types ≡ length rows
  rows-count = length-AllZip Serves types rows found.1

  serves : (t : ℕ) → t < length types → Serves (get_or types t []) (get_or rows t [])
  serves t low = AllZip-at Serves types rows t [] [] found.1 low

  row-length : (t : ℕ) → t < length rows → length (get_or rows t []) ≡ a
  row-length t low = (serves t (omega (arith, low, rows-count))).1.count

  type_is : (ports : List ℕ) → Contains types ports → IsConfig a p ports
  type_is ports held = ((multisets_law a p).1 ports).0 held

  spots-count : spots ≡ length types * a
  spots-count = length-flat_map (λ (ports : List ℕ). ports) a types [] (λ t low. (type_is (get_or types t []) (Contains-get_or types t [] low)).count)

  port-low : (s : ℕ) → s < spots → port_of problem s < p
  port-low s low =
      let (ports, held, at) = Contains-flat_map_cases (λ (ports : List ℕ). ports) types (port_of problem s) (Contains-get_or (spot_ports problem) s 0 low) in
      AllByRecursion-contains (λ i. i < p) ports (port_of problem s) (type_is ports held).below at

  -- each stands at the port of its spot
  stands : (s : ℕ) → s < spots → StandsAt standing (port_of problem s) (set_at spot_sets s)
  stands s low = AllZip-at (StandsAt standing) (spot_ports problem) spot_sets s 0 []
      (zip-flat (StandsAt standing) types rows (zip-weaker Serves (AllZip (StandsAt standing)) (λ ports row both. both.0) types rows found.1)) low

  -- at the spots of a type stands its row
  row-at : (t : ℕ) → t < length types → map (set_at spot_sets) (spots_in problem t) ≡ get_or rows t []
  row-at t low =
      let row = get_or rows t [] in
      let inside : t < length rows = omega (arith, low, rows-count) in
      let e : t * a ≡ t * a + 0 = omega arith in
      ap (λ b. map (set_at spot_sets) (count_from b a)) e ∙ shifted (set_at spot_sets) (t * a) 0 a
      ∙ map-alike (λ k. set_at spot_sets (t * a + k)) (set_at row) (count_from 0 a)
      (λ k held. get_or-flat_map (λ (row : List (List ℕ)). row) a rows t k [] [] row-length inside (let range = count_from_range 0 a k held in omega (arith, range.1)))
      ∙ ap (λ n. map (set_at row) (count_from 0 n)) (sym (row-length t inside)) ∙ placed_whole row

  -- ---- meetings
  -- at the spots of a meeting stand sets at all ports
  sets-stand : (ports meeting : List ℕ) → IsChoice meeting (map (spots_of problem) ports) → AllZip (StandsAt standing) ports (map (set_at spot_sets) meeting)
  sets-stand [] [] chosen = tt
  sets-stand [] (s ∷ meeting) chosen = absurd chosen
  sets-stand (i ∷ ports) [] chosen = absurd chosen
  sets-stand (i ∷ ports) (s ∷ meeting) chosen =
      let (among, test) = Contains-filter_cases (λ spot. eqb (port_of problem spot) i) (count_from 0 spots) s chosen.0 in
      let (_, high) = count_from_range 0 spots s among in
      (subst (λ j. StandsAt standing j (set_at spot_sets s)) (eqb-true (port_of problem s) i test) (stands s (omega (arith, high))), sets-stand ports meeting chosen.1)

  -- labels of the derived problem: an active choice of the sets at the spots
  pub labels_at : List ℕ → List ℕ
  labels_at meeting = unwrap_or (find (has_config (derived problem).active) (choices (map (set_at spot_sets) meeting))) []

  labels-are : (meeting : List ℕ) → IsMeeting problem meeting → IsChoice (labels_at meeting) (map (set_at spot_sets) meeting) × Has (derived problem).active (labels_at meeting)
  unfolding labels_at
  labels-are meeting is =
      let row = map (set_at spot_sets) meeting in
      let (labels, chosen, held) = shows.choice row (sets-stand (count_from 0 p) meeting is) in
      let (among, test) = first_found (has_config (derived problem).active) (choices row) [] labels (choices-IsChoice row labels chosen) (Has-has_config (derived problem).active labels held) in
      (IsChoice-choices row (labels_at meeting) among, has_config-Has (derived problem).active (labels_at meeting) test)

  -- and the sets for which they stand
  abbrev pub made : List ℕ → List (List ℕ)
  made meeting = map (set_at sets) (labels_at meeting)

  -- which are those of a maximal row
  row-of : (labels : List ℕ) → Has (derived problem).active labels → (row : List (List ℕ)) × Contains (max_rows problem.passive problem.labels) row × Rearranged row (map (set_at sets) labels)
  row-of labels held =
      let (row, at, e) = Contains-map_cases (map (place_of sets)) (max_rows problem.passive problem.labels) (sorted labels) held in
      let row_is : map (set_at sets) (sorted labels) ≡ row = ap (map (set_at sets)) (sym e) ∙ map-get-place_of sets row (max_sets-row problem.passive problem.labels row at) in
      (row, at, subst (λ r. Rearranged r (map (set_at sets) labels)) row_is (Rearranged-map (set_at sets) (Rearranged-sym (Rearranged-sorted labels))))

  -- a set that is made at a spot is that of a label of the set there
  drawn : (s : ℕ) (set : List ℕ) → s < spots → IsMadeAt problem made s set → (l : ℕ) × IsIn l (set_at spot_sets s) × (set_at sets l ≡ set)
  drawn s set low (meeting, is, at, same) =
      let i = port_of problem s in
      let labels = labels_at meeting in
      let row = map (set_at spot_sets) meeting in
      let chosen : IsChoice labels row = (labels-are meeting is).0 in
      let ports : length meeting ≡ length (map (spots_of problem) (count_from 0 p)) = length-AllZip IsIn meeting (map (spots_of problem) (count_from 0 p)) is in
      let inside : i < length meeting = let l = port-low s low in omega (arith, l, ports, length-map (count_from 0 p) (spots_of problem), length-count_from 0 p) in
      let within : i < length labels = omega (arith, inside, length-AllZip IsIn labels row chosen, length-map meeting (set_at spot_sets)) in (
        get_or labels i 0,
        subst (IsIn (get_or labels i 0)) (get_or-map (set_at spot_sets) meeting i 0 [] inside ∙ ap (set_at spot_sets) at) (AllZip-at IsIn labels row i 0 [] chosen within),
        sym (get_or-map (set_at sets) labels i 0 [] within) ∙ same,
      )

  all-drawn : (places : List ℕ) (chosen : List (List ℕ)) → AllByRecursion (λ s. s < spots) places → AllZip (IsMadeAt problem made) places chosen
      → (labels : List ℕ) × IsChoice labels (map (set_at spot_sets) places) × (map (set_at sets) labels ≡ chosen)
  all-drawn [] [] below zip = ([], tt, refl)
  all-drawn [] (set ∷ chosen) below zip = absurd zip
  all-drawn (s ∷ places) [] below zip = absurd zip
  all-drawn (s ∷ places) (set ∷ chosen) below zip =
      let (l, at, same) = drawn s set below.0 zip.0 in
      let (labels, rest, same_too) = all-drawn places chosen below.1 zip.1 in
      (l ∷ labels, (at, rest), (λ k. same k ∷ same_too k))

  spots-below : (t : ℕ) → t < length types → AllByRecursion (λ s. s < spots) (spots_in problem t)
  spots-below t low = AllByRecursion-from_contains (λ s. s < spots) (spots_in problem t) (λ s held.
      let range = count_from_range (t * a) a s held in
      let fits : t * a + a ≤ length types * a = row_fits t a (length types) a low (omega arith) in
      omega (arith, range.1, fits, spots-count))

  pub shows_three : ShowsThree problem made
  shows_three = record {
    good = λ meeting is.
        let (row, held, order) = row-of (labels_at meeting) (labels-are meeting is).1 in
        IsGood-Rearranged problem.passive order (maximal problem.passive problem.labels row held).good;
    up_sets = λ meeting is.
        let (row, held, order) = row-of (labels_at meeting) (labels-are meeting is).1 in
        AllByRecursion-Rearranged (IsUpSet problem.passive problem.labels) order (maximal_up_sets problem.passive problem.labels row held);
    choice = λ t low chosen zip.
        let (labels, among, same) = all-drawn (spots_in problem t) chosen (spots-below t low) zip in
        let held : Has (derived problem).passive labels = (serves t low).1.choice labels (subst (IsChoice labels) (row-at t low) among) in
        subst (IsAllowed problem.active) same (allowed-labels problem.active (set_at sets) labels ((IsUpper-derived problem).choice (sorted labels) held));
  }
