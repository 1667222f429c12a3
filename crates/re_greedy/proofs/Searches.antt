-- Lists of multisets with which a problem is greedy, within others.
use Rattle.std.proofs.Common.{◌≡◌, ◌⊎◌, ℕ, zero, suc, ◌+◌, ◌-◌, ◌≤◌, ◌<◌, Bool, true, false, List, [], ◌∷◌, ◌++◌, filter, length, replicate, refl, sym, ◌∙◌, ap, subst, arith, inl, inr}
use Rattle.std.specs.Prelude.{Contains, ◌↔◌}
use Rattle.std.specs.List.{AllByRecursion, AllZip, list_any, remove}
use Rattle.re_greedy.proofs.Extras.{Rises, get_same, take_item, joined_one, taken_back}
use Rattle.re_greedy.proofs.GreedyTest.{listed}
use Rattle.re_greedy.specs.Findings.{IsFinding, IsNoneBetween, IsRefused, IsSearched, IsWhole, RefusedListLaw}
use Rattle.re_greedy.specs.declared.judging.ListVerdict.TheVariants.{Greedy as GreedyList, Limit as LimitList, NoEmpty, NotPassive, Stuck as StuckList}
use Rattle.re_greedy.specs.declared.finding.Greediness.{Greediness}
use Rattle.re_greedy.specs.declared.finding.Greediness.TheVariants.{Greedy, NotGreedy, Unknown}
use Rattle.re_greedy.specs.Greedy.{IsGreedy}
use Rattle.re_greedy.specs.Partials.{AreAdded, IsAnswered, IsPart, IsRight, IsStuck, IsUniverse, IsUniverseTo}
use Rattle.re_labels.proofs.Membership.{AllByRecursion-from_contains, AllByRecursion-contains, Contains-cases, Contains-filter, Contains-filter_cases, Contains-In, Contains-later, Contains-none, In-Contains, In-append_cases, In-append_left}
use Rattle.re_labels.proofs.Sorting.{length-sorted, sorted_again, sorted_rises}
use Rattle.re_labels.specs.Configs.{inserted, sorted}
use Rattle.re_labels.specs.Lists.{same_list}
use Rattle.re_problem.proofs.HeldLabels.{is_held}
use Rattle.re_problem.specs.Problems.{IsProblem, Problem}
use Rattle.re_labels.proofs.Tests.{below-cases}
use Rattle.re_labels.proofs.Lists.{Contains-last, Contains-more, Contains-more_cases}
use Rattle.re_labels.specs.Constraints.{Constraint}
use Rattle.std.proofs.Common.{append_assoc, get_or, take}
use Rattle.std.proofs.lemmas.List.{get_or_append_left, take_all}
use Rattle.std.proofs.lemmas.List.Edits.{length-remove}

abbrev Fits : List (List ℕ) → List ℕ → List (List ℕ) → Type 0
Fits partial labels around = AllZip (λ label seen. Contains partial (sorted (label ∷ seen))) labels around

fits_more : (some all : List (List ℕ)) → IsPart some all → (labels : List ℕ) (around : List (List ℕ)) → Fits some labels around → Fits all labels around
fits_more some all part [] [] zip = tt
fits_more some all part [] (seen ∷ around) zip = absurd zip
fits_more some all part (x ∷ labels) [] zip = absurd zip
fits_more some all part (x ∷ labels) (seen ∷ around) zip = (part (sorted (x ∷ seen)) zip.0, fits_more some all part labels around zip.1)

-- ---- what can't be answered within a list can't be within a part of it
pub stuck_within : (problem : Problem) (partial around other : List (List ℕ)) → IsStuck problem partial around → IsPart other partial → IsPart around other → IsGreedy problem other → ⊥
stuck_within problem partial around other stuck part held greedy =
    let each : AllByRecursion (λ seen. Contains other seen × (length seen < problem.passive.degree)) around =
    AllByRecursion-from_contains (λ seen. Contains other seen × (length seen < problem.passive.degree)) around
    (λ seen at. (held seen at, (AllByRecursion-contains (λ seen. Contains partial seen × (length seen < problem.passive.degree)) around seen stuck.each at).1)) in
    let (labels, zip, has) = greedy.next around stuck.count each in
    stuck.none labels (fits_more other partial part labels around zip) has

pub whole_greedy : (problem : Problem) (partial kept : List (List ℕ)) → IsWhole problem partial kept → IsAnswered problem partial → IsGreedy problem partial
whole_greedy problem partial kept whole answered = record { none = whole.held [] whole.none; full = whole.full; next = answered }

-- ---- one more that is kept, one that is gone
pub whole_without : (problem : Problem) (partial kept left : List (List ℕ)) (gone : List ℕ) → IsWhole problem partial kept
    → ((labels : List ℕ) → Contains left labels ↔ (Contains partial labels × (labels ≡ gone → ⊥))) → (Contains kept gone → ⊥) → IsWhole problem left kept
whole_without problem partial kept left gone whole are apart = record {
  full = λ labels at count. whole.full labels ((are labels).0 at).0 count;
  held = λ labels at. (are labels).1 (whole.held labels at, λ e. apart (subst (Contains kept) e at));
  none = whole.none;
}

pub whole_with : (problem : Problem) (partial kept : List (List ℕ)) (last : List ℕ) → IsWhole problem partial kept → Contains partial last → IsWhole problem partial (kept ++ last ∷ [])
whole_with problem partial kept last whole at = record {
  full = whole.full;
  held = λ labels there. elim (Contains-more_cases kept last labels there) [ inl before ↦ whole.held labels before | inr e ↦ subst (Contains partial) (sym e) at ];
  none = Contains-more kept last [] whole.none;
}

-- where no list without the first and none with it and without another of the others is it
pub refused_more : (problem : Problem) (partial kept left : List (List ℕ)) (first : List ℕ) (others : List (List ℕ))
    → ((labels : List ℕ) → Contains left labels ↔ (Contains partial labels × (labels ≡ first → ⊥)))
    → IsNoneBetween problem left kept
    → ((other : List (List ℕ)) → IsPart (kept ++ first ∷ []) other → IsPart other partial → IsGreedy problem other → IsPart others other)
    → (other : List (List ℕ)) → IsPart kept other → IsPart other partial → IsGreedy problem other → IsPart (first ∷ others) other
refused_more problem partial kept left first others are none rest other has part greedy = held (list_any (same_list first) other) refl
  where
    held : (b : Bool) → list_any (same_list first) other ≡ b → IsPart (first ∷ others) other
    held true e =
        let there : Contains other first = listed other first e in
        let more : IsPart (kept ++ first ∷ []) other = λ labels at. elim (Contains-more_cases kept first labels at) [ inl before ↦ has labels before | inr e ↦ subst (Contains other) (sym e) there ] in
        let behind : IsPart others other = rest other more part greedy in
        λ labels at. elim (Contains-cases labels first others at) [ inl e ↦ subst (Contains other) (sym e) there | inr later ↦ behind labels later ]
    held false e =
        let within : IsPart other left = λ labels at. (are labels).1 (part labels at, λ same. (let yes : list_any (same_list first) other ≡ true = is_held other first (subst (Contains other) same at) in absurd (cc))) in
        absurd (none other has within greedy)

-- where the first is to be kept
pub refused_kept : (problem : Problem) (partial kept : List (List ℕ)) (first : List ℕ) (others : List (List ℕ)) → Contains kept first
    → ((other : List (List ℕ)) → IsPart kept other → IsPart other partial → IsGreedy problem other → IsPart others other)
    → (other : List (List ℕ)) → IsPart kept other → IsPart other partial → IsGreedy problem other → IsPart (first ∷ others) other
refused_kept problem partial kept first others at rest other has part greedy labels there =
    elim (Contains-cases labels first others there) [ inl e ↦ subst (Contains other) (sym e) (has first at) | inr later ↦ rest other has part greedy labels later ]

pub part_rest : (first : List ℕ) (others all : List (List ℕ)) → IsPart (first ∷ others) all → IsPart others all
part_rest first others all part labels at = part labels (Contains-later labels first others at)

-- ---- all multisets that are left of passive configurations are enough
module _ (problem : Problem) (all : List (List ℕ)) (is : IsProblem problem) (universe : IsUniverse problem.passive all) where
  -- what is in a list goes on to a passive configuration
  within : (partial : List (List ℕ)) → IsGreedy problem partial → (k : ℕ) (labels : List ℕ) → Contains partial labels → Rises labels → length labels + k ≡ problem.passive.degree → Contains all labels
  within partial greedy zero labels at rises count =
      let whole : length labels ≡ problem.passive.degree = omega (arith, count) in universe.whole labels (greedy.full labels at whole)
  within partial greedy (suc k) labels at rises count =
      let fewer : length labels < problem.passive.degree = omega (arith, count) in
      let around : List (List ℕ) = replicate problem.active.degree labels in
      let (chosen, zip, has) = greedy.next (replicate problem.active.degree labels) (length-replicate problem.active.degree labels) (all_same problem.active.degree (at, fewer)) in
      let (x, next) = first_fits problem.active.degree chosen is.active.least zip in
      let longer : length (sorted (x ∷ labels)) ≡ suc (length labels) = length-sorted (x ∷ labels) in
      let there : Contains all (sorted (x ∷ labels)) = within partial greedy k (sorted (x ∷ labels)) next (sorted_rises (x ∷ labels)) (omega (arith, longer, count)) in
      let one : sorted (x ∷ labels) ≡ inserted x labels = joined_one x labels rises in
      let (i, inside, back) = taken_back x labels in
      let left : Contains all (sorted (remove (inserted x labels) i)) = universe.closed (inserted x labels) i (subst (Contains all) one there) inside in
      subst (Contains all) (ap sorted back ∙ sorted_again labels rises) left
    where
      all_same : (n : ℕ) → Contains partial labels × (length labels < problem.passive.degree) → AllByRecursion (λ seen. Contains partial seen × (length seen < problem.passive.degree)) (replicate n labels)
      all_same zero h = tt
      all_same (suc n) h = (h, all_same n h)

      length-replicate : (n : ℕ) (labels : List ℕ) → length (replicate n labels) ≡ n
      length-replicate zero labels = refl
      length-replicate (suc n) labels = ap suc (length-replicate n labels)

      first_fits : (n : ℕ) (chosen : List ℕ) → 2 ≤ n → Fits partial chosen (replicate n labels) → (x : ℕ) × Contains partial (sorted (x ∷ labels))
      first_fits zero chosen two zip = absurd (omega arith)
      first_fits (suc n) [] two zip = absurd zip
      first_fits (suc n) (x ∷ chosen) two zip = (x, zip.0)

  abbrev inside : List (List ℕ) → List (List ℕ)
  inside partial = filter (λ labels. list_any (same_list labels) all) partial

  inside_of : (partial : List (List ℕ)) (labels : List ℕ) → Contains partial labels → Contains all labels → Contains (inside partial) labels
  inside_of partial labels at there = Contains-filter (λ labels. list_any (same_list labels) all) partial labels at (is_held all labels there)

  pub inside_part : (partial : List (List ℕ)) → IsPart (inside partial) all
  inside_part partial labels at = listed all labels (Contains-filter_cases (λ labels. list_any (same_list labels) all) partial labels at).1

  from_inside : (partial : List (List ℕ)) (labels : List ℕ) → Contains (inside partial) labels → Contains partial labels
  from_inside partial labels at = (Contains-filter_cases (λ labels. list_any (same_list labels) all) partial labels at).0

  none_within : (partial : List (List ℕ)) → IsGreedy problem partial → Contains all []
  none_within partial greedy = (let count : 0 + problem.passive.degree ≡ problem.passive.degree = omega arith in within partial greedy problem.passive.degree [] greedy.none tt count)

  fits_inside : (partial : List (List ℕ)) → IsGreedy problem partial → (labels : List ℕ) (around : List (List ℕ))
      → AllByRecursion (λ seen. Contains (inside partial) seen × (length seen < problem.passive.degree)) around → Fits partial labels around → Fits (inside partial) labels around
  fits_inside partial greedy [] [] each zip = tt
  fits_inside partial greedy [] (seen ∷ around) each zip = absurd zip
  fits_inside partial greedy (x ∷ labels) [] each zip = absurd zip
  fits_inside partial greedy (x ∷ labels) (seen ∷ around) each zip =
      (inside_of partial (sorted (x ∷ seen)) zip.0 (at (problem.passive.degree - suc (length seen)) (omega (arith, fewer, longer))), fits_inside partial greedy labels around each.1 zip.1)
    where
      fewer : length seen < problem.passive.degree
      fewer = each.0.1

      longer : length (sorted (x ∷ seen)) ≡ suc (length seen)
      longer = length-sorted (x ∷ seen)

      at : (k : ℕ) → length (sorted (x ∷ seen)) + k ≡ problem.passive.degree → Contains all (sorted (x ∷ seen))
      at k count = within partial greedy k (sorted (x ∷ seen)) zip.0 (sorted_rises (x ∷ seen)) count

  pub inside_greedy : (partial : List (List ℕ)) → IsGreedy problem partial → IsGreedy problem (inside partial)
  inside_greedy partial greedy = record {
    none = inside_of partial [] greedy.none (none_within partial greedy);
    full = λ labels at count. greedy.full labels (from_inside partial labels at) count;
    next = λ around count each. (
        let outside : AllByRecursion (λ seen. Contains partial seen × (length seen < problem.passive.degree)) around =
        AllByRecursion-from_contains (λ seen. Contains partial seen × (length seen < problem.passive.degree)) around
        (λ seen at. (let here = AllByRecursion-contains (λ seen. Contains (inside partial) seen × (length seen < problem.passive.degree)) around seen each at in (from_inside partial seen here.0, here.1))) in
        let (labels, zip, has) = greedy.next around count outside in
        (labels, fits_inside partial greedy labels around each zip, has)
        );
  }

  -- so where none of them is it, none at all is
  pub none_at_all : IsNoneBetween problem all ([] ∷ []) → (partial : List (List ℕ)) → IsGreedy problem partial → ⊥
  none_at_all none partial greedy =
      let within : IsGreedy problem (inside partial) = inside_greedy partial greedy in
      none (inside partial) (λ labels at. elim (Contains-cases labels [] [] at) [ inl e ↦ subst (Contains (inside partial)) (sym e) within.none | inr later ↦ absurd (Contains-none labels later) ]) (inside_part partial) within

  pub none_without : (Contains all [] → ⊥) → (partial : List (List ℕ)) → IsGreedy problem partial → ⊥
  none_without apart partial greedy = apart (none_within partial greedy)

-- ---- the list of all that is left, as it grows
module _ (degree : ℕ) (before : List (List ℕ)) (labels : List ℕ) (k : ℕ) (after : List (List ℕ)) (added : AreAdded degree before labels k after) (inside : k < length labels) where
  split : (parts : (i : ℕ) → i < k → Contains after (sorted (remove labels i))) (all : List (List ℕ)) → IsPart after all → Contains all (sorted (remove labels k))
      → (i : ℕ) → i < k + 1 → Contains all (sorted (remove labels i))
  split parts all part last i l = elim (below-cases i k l) [ inl low ↦ part (sorted (remove labels i)) (parts i low) | inr e ↦ subst (λ i. Contains all (sorted (remove labels i))) (sym e) last ]

  pub added_same : Contains after (sorted (remove labels k)) → AreAdded degree before labels (k + 1) after
  added_same there = record { more = added.more; parts = split added.parts after (λ labels at. at) there }

  pub added_more : (part : List ℕ) (all : List (List ℕ)) → part ≡ sorted (remove labels k) → length labels ≤ degree → all ≡ after ++ part ∷ [] → AreAdded degree before labels (k + 1) all
  added_more part all is few e = subst (AreAdded degree before labels (k + 1)) (sym e) (record {
    more = (
      added.more.0 ++ part ∷ [],
      ap (λ xs. xs ++ part ∷ []) added.more.1 ∙ append_assoc before added.more.0 (part ∷ []),
      λ fewer at. elim (Contains-more_cases added.more.0 part fewer at) [
        | inl old ↦ added.more.2 fewer old
        | inr same ↦ (
            let count : length fewer ≡ length (remove labels k) = ap length (same ∙ is) ∙ length-sorted (remove labels k) in
            let one : length (remove labels k) + 1 ≡ length labels = length-remove labels k inside in
            omega arith
            )
      ],
    );
    parts = split added.parts (after ++ part ∷ []) (λ labels at. Contains-more after part labels at) (subst (Contains (after ++ part ∷ [])) is (Contains-last after part));
  })

-- the labels of one more were taken away
pub universe_more : (passive : Constraint) (all after : List (List ℕ)) (labels : List ℕ) (k degree : ℕ) → IsUniverseTo passive all k → k < length all → get_or all k [] ≡ labels
    → degree ≡ passive.degree → AreAdded degree all labels (length labels) after → IsUniverseTo passive after (k + 1)
universe_more passive all after labels k degree universe inside is same added =
    let (new, e, fewer) = added.more in
    let part : IsPart all after = λ labels at. subst (λ xs. Contains xs labels) (sym e) (In-Contains labels (all ++ new) (In-append_left labels all new (Contains-In labels all at))) in
    record {
      whole = λ config at. part config (universe.whole config at);
      closed = λ j i low there short. elim (below-cases j k low) [
        | inl old ↦ (
            let within : j < length all = omega (arith, old, inside) in
            let one : get_or after j [] ≡ get_or all j [] = ap (λ xs. get_or xs j []) e ∙ get_or_append_left all new [] j within in
            subst (λ w. Contains after (sorted (remove w i))) (sym one)
            (part (sorted (remove (get_or all j []) i)) (universe.closed j i old within (subst (λ w. i < length w) one short)))
            )
        | inr last ↦ (
            let one : get_or after j [] ≡ labels = ap (λ j. get_or after j []) last ∙ ap (λ xs. get_or xs k []) e ∙ get_or_append_left all new [] k inside ∙ is in
            subst (λ w. Contains after (sorted (remove w i))) (sym one) (added.parts i (subst (λ w. i < length w) one short))
            )
      ];
      few = λ labels at. elim (cases new e labels at) [ inl old ↦ universe.few labels old | inr last ↦ (let l : length labels < degree = fewer labels last in omega (arith, l, same)) ];
      full = λ labels at count. elim (cases new e labels at) [ inl old ↦ universe.full labels old count | inr last ↦ (let l : length labels < degree = fewer labels last in absurd (omega (arith, l, same, count))) ];
    }
  where
    cases : (new : List (List ℕ)) → after ≡ all ++ new → (labels : List ℕ) → Contains after labels → Contains all labels ⊎ Contains new labels
    cases new e labels at = elim (In-append_cases labels all new (Contains-In labels (all ++ new) (subst (λ xs. Contains xs labels) e at))) [
      | inl i ↦ inl (In-Contains labels all i)
      | inr i ↦ inr (In-Contains labels new i)
    ]

pub universe_done : (passive : Constraint) (all : List (List ℕ)) (k : ℕ) → IsUniverseTo passive all k → length all ≤ k → IsUniverse passive all
universe_done passive all k universe over = record {
  whole = universe.whole;
  closed = λ labels i at inside. closed labels i at inside;
  full = universe.full;
}
  where
    closed : (labels : List ℕ) (i : ℕ) → Contains all labels → i < length labels → Contains all (sorted (remove labels i))
    closed labels i (j, there, e) inside =
        let is : get_or all j [] ≡ labels = get_same all j labels there (sym e) in
        subst (λ w. Contains all (sorted (remove w i))) is (universe.closed j i (omega (arith, there, over)) there (subst (λ w. i < length w) (sym is) inside))

-- ---- a list without one of its members, as it grows
module _ (members left : List (List ℕ)) (gone item : List ℕ) (i : ℕ) (inside : i < length members) (at : item ≡ get_or members i item)
    (are : (labels : List ℕ) → Contains left labels ↔ (Contains (take i members) labels × (labels ≡ gone → ⊥))) where
  pub left_more : (all : List (List ℕ)) → all ≡ left ++ item ∷ [] → (item ≡ gone → ⊥) → (labels : List ℕ) → Contains all labels ↔ (Contains (take (i + 1) members) labels × (labels ≡ gone → ⊥))
  left_more all e apart labels =
      subst (λ xs. Contains xs labels ↔ (Contains (take (i + 1) members) labels × (labels ≡ gone → ⊥))) (sym e)
      (subst (λ xs. Contains (left ++ item ∷ []) labels ↔ (Contains xs labels × (labels ≡ gone → ⊥))) (sym (take_item members i item inside at)) (
        λ there. elim (Contains-more_cases left item labels there) [
          | inl old ↦ (Contains-more (take i members) item labels ((are labels).0 old).0, ((are labels).0 old).1)
          | inr same ↦ (subst (Contains (take i members ++ item ∷ [])) (sym same) (Contains-last (take i members) item), λ e. apart (sym same ∙ e))
        ],
        λ both. elim (Contains-more_cases (take i members) item labels both.0) [
          | inl old ↦ Contains-more left item labels ((are labels).1 (old, both.1))
          | inr same ↦ subst (Contains (left ++ item ∷ [])) (sym same) (Contains-last left item)
        ],
      ))

  pub left_same : (all : List (List ℕ)) → all ≡ left → item ≡ gone → (labels : List ℕ) → Contains all labels ↔ (Contains (take (i + 1) members) labels × (labels ≡ gone → ⊥))
  left_same all e same labels =
      subst (λ xs. Contains xs labels ↔ (Contains (take (i + 1) members) labels × (labels ≡ gone → ⊥))) (sym e)
      (subst (λ xs. Contains left labels ↔ (Contains xs labels × (labels ≡ gone → ⊥))) (sym (take_item members i item inside at)) (
        λ there. (Contains-more (take i members) item labels ((are labels).0 there).0, ((are labels).0 there).1),
        λ both. elim (Contains-more_cases (take i members) item labels both.0) [
          | inl old ↦ (are labels).1 (old, both.1)
          | inr one ↦ absurd (both.1 (one ∙ same))
        ],
      ))

-- ---- what the search answers
pub searched_of : (problem : Problem) (partial kept around : List (List ℕ)) (answer : Greediness) → IsStuck problem partial around → IsRefused problem partial kept around answer → IsSearched problem partial kept answer
searched_of problem partial kept around (Greedy found) stuck is = is
searched_of problem partial kept around NotGreedy stuck is = λ other has part greedy. stuck_within problem partial around other stuck part (is other has part greedy) greedy
searched_of problem partial kept around Unknown stuck is = tt

pub kept_of : (problem : Problem) (partial kept : List (List ℕ)) (first : List ℕ) (others : List (List ℕ)) (answer : Greediness) → Contains kept first
    → IsRefused problem partial kept others answer → IsRefused problem partial kept (first ∷ others) answer
kept_of problem partial kept first others (Greedy found) at is = is
kept_of problem partial kept first others NotGreedy at is = refused_kept problem partial kept first others at is
kept_of problem partial kept first others Unknown at is = tt

pub more_of : (problem : Problem) (partial kept left : List (List ℕ)) (first : List ℕ) (others : List (List ℕ)) (answer : Greediness)
    → ((labels : List ℕ) → Contains left labels ↔ (Contains partial labels × (labels ≡ first → ⊥))) → IsNoneBetween problem left kept
    → IsRefused problem partial (kept ++ first ∷ []) others answer → IsRefused problem partial kept (first ∷ others) answer
more_of problem partial kept left first others (Greedy found) are none is = is
more_of problem partial kept left first others NotGreedy are none is = refused_more problem partial kept left first others are none is
more_of problem partial kept left first others Unknown are none is = tt

pub found_of : (problem : Problem) (all : List (List ℕ)) (answer : Greediness) → IsProblem problem → IsUniverse problem.passive all → IsSearched problem all ([] ∷ []) answer → IsFinding problem answer
found_of problem all (Greedy found) is universe searched = searched
found_of problem all NotGreedy is universe searched = none_at_all problem all is universe searched
found_of problem all Unknown is universe searched = tt

pub left_all : (members left : List (List ℕ)) (gone : List ℕ) (i : ℕ) → length members ≤ i
    → ((labels : List ℕ) → Contains left labels ↔ (Contains (take i members) labels × (labels ≡ gone → ⊥))) → (labels : List ℕ) → Contains left labels ↔ (Contains members labels × (labels ≡ gone → ⊥))
left_all members left gone i over are labels = subst (λ xs. Contains left labels ↔ (Contains xs labels × (labels ≡ gone → ⊥))) (take_all i members over) (are labels)

-- ---- a list that is judged
pub refused_list : RefusedListLaw
refused_list problem partial tries GreedyList is refusal greedy = refusal
refused_list problem partial tries NoEmpty is refusal greedy = is greedy.none
refused_list problem partial tries (NotPassive labels) is refusal greedy = is.1 (λ count. greedy.full labels is.0 count)
refused_list problem partial tries (StuckList around) is refusal greedy =
    stuck_within problem partial around.items partial is (λ labels at. at)
    (λ labels at. (AllByRecursion-contains (λ seen. Contains partial seen × (length seen < problem.passive.degree)) around.items labels is.each at).0) greedy
refused_list problem partial tries LimitList is refusal greedy = refusal

pub right_more : (passive : Constraint) (members : List (List ℕ)) (i : ℕ) (item : List ℕ) → i < length members → item ≡ get_or members i item
    → ((labels : List ℕ) → Contains (take i members) labels → IsRight passive labels) → IsRight passive item → (labels : List ℕ) → Contains (take (i + 1) members) labels → IsRight passive labels
right_more passive members i item inside at before here labels there =
    elim (Contains-more_cases (take i members) item labels (subst (λ xs. Contains xs labels) (take_item members i item inside at) there)) [
      | inl old ↦ before labels old
      | inr e ↦ subst (IsRight passive) (sym e) here
    ]

pub right_all : (passive : Constraint) (members : List (List ℕ)) (i : ℕ) → length members ≤ i → ((labels : List ℕ) → Contains (take i members) labels → IsRight passive labels)
    → (labels : List ℕ) → Contains members labels → IsRight passive labels
right_all passive members i over before labels at = before labels (subst (λ xs. Contains xs labels) (sym (take_all i members over)) at)
