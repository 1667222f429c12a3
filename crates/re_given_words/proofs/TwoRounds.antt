-- Two rounds: rows of the next problem behind an upper step, and the problem of sets at ports.
use Rattle.std.proofs.Common.{◌≡◌, ℕ, zero, suc, ◌+◌, ◌<◌, ◌≤◌, true, List, [], ◌∷◌, length, map, filter, get_or, replicate, refl, sym, ap, ◌∙◌, subst, arith, eqb}
use Rattle.std.specs.Prelude.{Contains}
use Rattle.std.specs.List.{AllByRecursion, AllZip, flat_map}
use Rattle.std.proofs.lemmas.List.{get_or-map, get_or_default, length-map, length-replicate}
use Rattle.std.proofs.lemmas.List.Elements.{Contains-get_or}
use Rattle.re_labels.proofs.Membership.{AllByRecursion-from_contains, Contains-count_from, Contains-filter, Contains-filter_cases, Contains-flat_map, Contains-flat_map_cases, Contains-map, Contains-map_cases, count_from_range, get_or-count_from, length-count_from}
use Rattle.re_labels.proofs.Tests.{eqb-same, eqb-true}
use Rattle.re_labels.specs.Lists.{count_from}
use Rattle.re_labels.specs.Sets.{IsIn}
use Rattle.re_labels.proofs.LawsOfRows.{multisets_law}
use Rattle.re_labels.proofs.NextMultisets.{below-replicate}
use Rattle.re_labels.proofs.Placing.{placed_whole}
use Rattle.re_labels.proofs.Rearranging.{Rearranged-map, Rearranged-sym, length-AllZip}
use Rattle.re_labels.proofs.Sorting.{IsConfig-sorted, Rearranged-sorted}
use Rattle.re_labels.specs.Configs.{IsConfig, sorted}
use Rattle.re_labels.specs.Orders.{multisets}
use Rattle.re_labels.specs.Rows.{IsChoice, placed, set_at}
use Rattle.re_labels.proofs.Goodness.{IsAllowed-Rearranged, IsGood-Rearranged, IsGood-is_good, is_good-IsGood}
use Rattle.re_labels.proofs.MaxSets.{allowed_law}
use Rattle.re_labels.specs.Constraints.{Has}
use Rattle.re_labels.specs.GoodRows.{IsAllowed, IsGood, allowed, is_good}
use Rattle.re_problem.specs.Problems.{Problem}
use Rattle.re_problem.specs.Steps.{IsUpper}
use Rattle.re_labels.proofs.Replicated.{alike_rise}
use Rattle.re_given_words.proofs.OneRound.{HasDegrees, allowed-labels}
use Rattle.re_given_words.specs.Ahead.{HaveChoices, ShowsOne, ShowsTwo, SolvableByRows, StandsAt}
use Rattle.re_given_words.specs.declared.standing.Standing.{Standing}

-- a set at a port
abbrev pub stand : ℕ → List ℕ → Standing
stand port set = record { port = port; set = set }

-- from each multiset of ports some choice of a set at each is such a row, and each choice of a set at each port has an active choice
pub record Serves (problem : Problem) (Good : List (List ℕ) → Type 0) (standing : List Standing) : Type 0 where
  pub rows : (ports : List ℕ) → IsConfig problem.passive.degree problem.active.degree ports → (row : List (List ℕ)) × AllZip (StandsAt standing) ports row × Good row
  pub choice : HaveChoices problem.active standing

-- ---- from a row of the next problem behind an upper step
module _ (problem next : Problem) (sets : ℕ → List ℕ) (upper : IsUpper problem next sets) (row : List (List ℕ)) (shows : ShowsOne next row) where
  at_port : ℕ → List Standing
  at_port i = map (λ l. stand i (sets l)) (set_at row i)

  standing_of : List Standing
  standing_of = flat_map at_port (count_from 0 (length row))

  row_length : length row ≡ problem.active.degree
  row_length = shows.good.count ∙ upper.passive_degree

  stands : (i l : ℕ) → i < length row → Contains (set_at row i) l → StandsAt standing_of i (sets l)
  unfolding standing_of at_port
  stands i l low at =
      Contains-flat_map at_port (count_from 0 (length row)) i (stand i (sets l)) (Contains-count_from 0 (length row) i (omega arith) (omega (arith, low)))
      (Contains-map (λ l. stand i (sets l)) (set_at row i) l at)

  stands-from : (i : ℕ) (s : List ℕ) → StandsAt standing_of i s → (l : ℕ) × Contains (set_at row i) l × (sets l ≡ s)
  unfolding standing_of at_port
  stands-from i s held =
      let (j, among, there) = Contains-flat_map_cases at_port (count_from 0 (length row)) (stand i s) held in
      let (l, at, same) = Contains-map_cases (λ l. stand j (sets l)) (set_at row j) (stand i s) there in
      (l, subst (λ k. Contains (set_at row k) l) (ap (λ (t : Standing). t.port) same) at, ap (λ (t : Standing). t.set) same)

  -- a choice of labels of the sets of the row at these ports is one of sets at the ports
  zipped : (ports labels : List ℕ) → AllByRecursion (λ i. i < length row) ports → IsChoice labels (placed row ports) → AllZip (StandsAt standing_of) ports (map sets labels)
  zipped [] [] below chosen = tt
  zipped [] (l ∷ labels) below chosen = absurd chosen
  zipped (i ∷ ports) [] below chosen = absurd chosen
  zipped (i ∷ ports) (l ∷ labels) below chosen = (stands i l below.0 chosen.0, zipped ports labels below.1 chosen.1)

  unzipped : (ports : List ℕ) (chosen : List (List ℕ)) → AllZip (StandsAt standing_of) ports chosen → (labels : List ℕ) × IsChoice labels (placed row ports) × (map sets labels ≡ chosen)
  unzipped [] [] zip = ([], tt, refl)
  unzipped [] (s ∷ chosen) zip = absurd zip
  unzipped (i ∷ ports) [] zip = absurd zip
  unzipped (i ∷ ports) (s ∷ chosen) zip =
      let (l, at, same) = stands-from i s zip.0 in
      let (labels, chosen_too, same_too) = unzipped ports chosen zip.1 in
      (l ∷ labels, (at, chosen_too), (λ k. same k ∷ same_too k))

  pub served : (Good : List (List ℕ) → Type 0) → ((labels : List ℕ) → Has next.active labels → Good (map sets labels)) → (standing : List Standing) × Serves problem Good standing
  served Good good_of = (
    standing_of,
    record {
      rows = λ ports is.
          let (labels, chosen, held) = shows.choice ports (subst (λ d. IsConfig d (length row) ports) (sym upper.active_degree) (subst (λ n. IsConfig problem.passive.degree n ports) (sym row_length) is)) in
          (map sets labels, zipped ports labels (subst (λ n. AllByRecursion (λ i. i < n) ports) (sym row_length) is.below) chosen, good_of labels held);
      choice = λ chosen zip.
          let (labels, among, same) = unzipped (count_from 0 problem.active.degree) chosen zip in
          let whole : placed row (count_from 0 problem.active.degree) ≡ row = ap (λ n. placed row (count_from 0 n)) (sym row_length) ∙ placed_whole row in
          let held : Has next.passive labels = shows.good.choice labels (subst (IsChoice labels) whole among) in
          subst (IsAllowed problem.active) same (allowed-labels problem.active sets labels (upper.choice (sorted labels) held));
    },
  )

  pub served-two : SolvableByRows problem
  served-two =
      let (standing, serves) = served (IsGood problem.passive) (λ labels held. IsGood-Rearranged problem.passive (Rearranged-map sets (Rearranged-sym (Rearranged-sorted labels))) (upper.good (sorted labels) held)) in
      (standing, record { rows = serves.rows; choice = serves.choice })

-- ---- the problem of sets at ports
-- the sets, in order
pub sets_rows : List Standing → List (List ℕ)
sets_rows standing = map (λ (s : Standing). s.set) standing

-- a label for each set: the good rows of them, and the multisets that are allowed
pub sets_problem : Problem → List Standing → Problem
sets_problem problem standing = record {
  labels = length (sets_rows standing);
  active = record { degree = problem.passive.degree; configs = filter (λ places. is_good problem.passive (placed (sets_rows standing) places)) (multisets problem.passive.degree 0 (length (sets_rows standing))) };
  passive = record { degree = problem.active.degree; configs = allowed problem.active (sets_rows standing) problem.active.degree };
}

pub next_upper : (problem : Problem) (standing : List Standing) → IsUpper problem (sets_problem problem standing) (set_at (sets_rows standing))
unfolding sets_problem
next_upper problem standing = record {
  active_degree = refl;
  passive_degree = refl;
  good = λ config held. is_good-IsGood problem.passive (placed (sets_rows standing) config)
      (Contains-filter_cases (λ places. is_good problem.passive (placed (sets_rows standing) places)) (multisets problem.passive.degree 0 (length (sets_rows standing))) config held).1;
  choice = λ config held. (((allowed_law problem.active (sets_rows standing) problem.active.degree).1 config).0 held).1;
}

pub swapped_degrees : (problem : Problem) (standing : List Standing) → HasDegrees problem → HasDegrees (sets_problem problem standing)
unfolding sets_problem
swapped_degrees problem standing degrees = record {
  active_least = degrees.passive_least;
  active_most = degrees.passive_most;
  passive_least = degrees.active_least;
  passive_most = degrees.active_most;
}

module _ (problem : Problem) (degrees : HasDegrees problem) (standing : List Standing) (shows : ShowsTwo problem standing) where
  abbrev a : ℕ
  a = problem.active.degree

  abbrev p : ℕ
  p = problem.passive.degree

  abbrev n : ℕ
  n = length standing

  abbrev all : List (List ℕ)
  all = map (λ (s : Standing). s.set) standing

  all-length : length all ≡ n
  all-length = length-map standing (λ (s : Standing). s.set)

  there : ℕ → Standing
  there k = get_or standing k (stand 0 [])

  -- the places of the sets at a port
  pub places : ℕ → List ℕ
  places i = filter (λ k. eqb (there k).port i) (count_from 0 n)

  abbrev pub rows : List (List ℕ)
  rows = map places (count_from 0 a)

  rows-at : (i : ℕ) → i < a → set_at rows i ≡ places i
  rows-at i low =
      get_or-map places (count_from 0 a) i 0 [] (omega (arith, low, length-count_from 0 a))
      ∙ ap places (let e : get_or (count_from 0 a) i 0 ≡ 0 + i = get_or-count_from 0 a i 0 low in let same : get_or (count_from 0 a) i 0 ≡ i = omega (arith, e) in same)

  rows-length : length rows ≡ a
  rows-length = length-map (count_from 0 a) places ∙ length-count_from 0 a

  placed-below : (k : ℕ) → k < n → set_at all k ≡ (there k).set
  unfolding there
  placed-below k low = get_or-map (λ (s : Standing). s.set) standing k (stand 0 []) [] low

  place-low : (i k : ℕ) → Contains (places i) k → k < n
  unfolding places
  place-low i k held =
      let (among, test) = Contains-filter_cases (λ k. eqb (there k).port i) (count_from 0 n) k held in
      let (low, high) = count_from_range 0 n k among in omega (arith, high)

  -- a set that stands at a port has a place
  find : (i : ℕ) (s : List ℕ) → StandsAt standing i s → (k : ℕ) × Contains (places i) k × (set_at all k ≡ s)
  unfolding places there
  find i s (k, low, e) =
      let same : there k ≡ stand i s = get_or_default standing k (stand 0 []) (stand i s) low ∙ e in
      let port : (there k).port ≡ i = ap (λ (t : Standing). t.port) same in (
        k,
        Contains-filter (λ k. eqb (there k).port i) (count_from 0 n) k (Contains-count_from 0 n k (omega arith) (omega (arith, low))) (subst (λ j. eqb j i ≡ true) (sym port) (eqb-same i)),
        placed-below k low ∙ ap (λ (t : Standing). t.set) same,
      )

  -- and at its place a set stands at the port
  back : (i k : ℕ) → Contains (places i) k → StandsAt standing i (set_at all k)
  unfolding places there
  back i k held =
      let (among, test) = Contains-filter_cases (λ k. eqb (there k).port i) (count_from 0 n) k held in
      let low : k < n = place-low i k held in
      let same : there k ≡ stand i (set_at all k) = (λ j. stand (eqb-true (there k).port i test j) (sym (placed-below k low) j)) in
      subst (Contains standing) same (Contains-get_or standing k (stand 0 []) low)

  found : (ports : List ℕ) (chosen : List (List ℕ)) → AllByRecursion (λ i. i < a) ports → AllZip (StandsAt standing) ports chosen → (labels : List ℕ) × IsChoice labels (placed rows ports) × (placed all labels ≡ chosen)
  found [] [] below zip = ([], tt, refl)
  found [] (s ∷ chosen) below zip = absurd zip
  found (i ∷ ports) [] below zip = absurd zip
  found (i ∷ ports) (s ∷ chosen) below zip =
      let (k, at, same) = find i s zip.0 in
      let (labels, among, same_too) = found ports chosen below.1 zip.1 in
      (k ∷ labels, (subst (λ (set : List ℕ). Contains set k) (sym (rows-at i below.0)) at, among), (λ j. same j ∷ same_too j))

  backwards : (ports labels : List ℕ) → AllByRecursion (λ i. i < a) ports → IsChoice labels (placed rows ports) → AllZip (StandsAt standing) ports (placed all labels)
  backwards [] [] below chosen = tt
  backwards [] (k ∷ labels) below chosen = absurd chosen
  backwards (i ∷ ports) [] below chosen = absurd chosen
  backwards (i ∷ ports) (k ∷ labels) below chosen = (back i k (subst (λ (set : List ℕ). Contains set k) (rows-at i below.0) chosen.0), backwards ports labels below.1 chosen.1)

  labels-low : (ports labels : List ℕ) → AllByRecursion (λ i. i < a) ports → IsChoice labels (placed rows ports) → AllByRecursion (λ k. k < length all) labels
  labels-low [] [] below chosen = tt
  labels-low [] (k ∷ labels) below chosen = absurd chosen
  labels-low (i ∷ ports) [] below chosen = absurd chosen
  labels-low (i ∷ ports) (k ∷ labels) below chosen =
      let low : k < n = place-low i k (subst (λ (set : List ℕ). Contains set k) (rows-at i below.0) chosen.0) in
      (omega (arith, low, all-length), labels-low ports labels below.1 chosen.1)

  all_ports : AllByRecursion (λ i. i < a) (count_from 0 a)
  all_ports = AllByRecursion-from_contains (λ i. i < a) (count_from 0 a) (λ i held. let (low, high) = count_from_range 0 a i held in omega (arith, high))

  whole : placed rows (count_from 0 a) ≡ rows
  whole = ap (λ m. placed rows (count_from 0 m)) (sym rows-length) ∙ placed_whole rows

  -- some set stands at each port
  filled : (i : ℕ) → i < a → 0 < length (places i)
  filled i low = go p degrees.passive_least (shows.rows (replicate p i) (record { count = length-replicate p i; below = below-replicate p i a low; ascends = alike_rise p i }))
    where
      some : (xs : List ℕ) (k : ℕ) → Contains xs k → 0 < length xs
      some xs k (j, l, e) = omega (arith, l)

      go : (d : ℕ) → 2 ≤ d → (row : List (List ℕ)) × AllZip (StandsAt standing) (replicate d i) row × IsGood problem.passive row → 0 < length (places i)
      go zero least shown = absurd (omega (arith, least))
      go (suc d) least ([], zip, good) = absurd zip
      go (suc d) least (s ∷ row, zip, good) = let (k, at, same) = find i s zip.0 in some (places i) k at

  pub shows_next : ShowsOne (sets_problem problem standing) rows
  unfolding sets_problem sets_rows
  shows_next = record {
    good = record {
      count = rows-length;
      filled = AllByRecursion-from_contains (λ s. 0 < length s) rows (λ s held.
          let (i, at, same) = Contains-map_cases places (count_from 0 a) s held in
          let (low, high) = count_from_range 0 a i at in
          subst (λ (s : List ℕ). 0 < length s) same (filled i (omega (arith, high))));
      choice = λ labels chosen.
          let among : IsChoice labels (placed rows (count_from 0 a)) = subst (IsChoice labels) (sym whole) chosen in
          let count : length labels ≡ a = length-AllZip IsIn labels rows chosen ∙ rows-length in
          let is : IsConfig a (length all) (sorted labels) = IsConfig-sorted a (length all) labels count (labels-low (count_from 0 a) labels all_ports among) in
          let allow : IsAllowed problem.active (placed all labels) = shows.choice (placed all labels) (backwards (count_from 0 a) labels all_ports among) in
          ((allowed_law problem.active all a).1 (sorted labels)).1 (is, IsAllowed-Rearranged problem.active (Rearranged-map (set_at all) (Rearranged-sorted labels)) allow);
    };
    choice = λ ports is.
        let here : IsConfig p a ports = subst (λ m. IsConfig p m ports) rows-length is in
        let (row, zip, good) = shows.rows ports here in
        let (labels, chosen, same) = found ports row here.below zip in
        let count : length labels ≡ p = sym (length-map labels (set_at all)) ∙ ap length same ∙ good.count in
        let config : IsConfig p (length all) (sorted labels) = IsConfig-sorted p (length all) labels count (labels-low ports labels here.below chosen) in
        let good_too : IsGood problem.passive (placed all (sorted labels)) = IsGood-Rearranged problem.passive (Rearranged-map (set_at all) (Rearranged-sorted labels)) (subst (IsGood problem.passive) (sym same) good) in (
          labels,
          chosen,
          Contains-filter (λ places. is_good problem.passive (placed all places)) (multisets p 0 (length all)) (sorted labels) (((multisets_law p (length all)).1 (sorted labels)).1 config)
              (IsGood-is_good problem.passive (placed all (sorted labels)) good_too),
        );
  }
