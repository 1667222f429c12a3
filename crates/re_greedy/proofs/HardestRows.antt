-- What is hardest to answer, step by step, and what it says of all that an active node may see.
use Rattle.std.proofs.Common.{◌≡◌, ◌⊎◌, ℕ, suc, ◌≤◌, ◌<◌, List, [], ◌∷◌, ◌++◌, ◌+◌, Bool, true, false, length, take, get_or, refl, sym, ◌∙◌, ap, subst, arith, inl, inr}
use Rattle.std.specs.Prelude.{Contains, nat_lt}
use Rattle.std.proofs.lemmas.Bool.Decides.{nat_tests}
use Rattle.std.specs.List.{AllByRecursion, AllZip}
use Rattle.std.proofs.lemmas.List.{length-append, length-map}
use Rattle.std.proofs.lemmas.List.Elements.{filter-append}
use Rattle.re_greedy.proofs.Extras.{get_same, take_item}
use Rattle.re_greedy.specs.Partials.{AreHardest, AreJoining, IsAnswered, IsCovered, IsStuck}
use Rattle.re_labels.proofs.LawsOfRows.{multisets_law}
use Rattle.re_labels.proofs.Rearranging.{Rearranged-map, Rearranged-sym}
use Rattle.re_labels.proofs.Sorting.{IsConfig-sorted, Rearranged-sorted}
use Rattle.re_labels.proofs.Sets.{within-IsWithin, IsWithin-within}
use Rattle.re_labels.proofs.Tests.{below-cases}
use Rattle.re_labels.specs.Configs.{IsConfig, sorted}
use Rattle.re_labels.specs.Orders.{multisets}
use Rattle.re_labels.specs.Rows.{IsChoice, placed, set_at}
use Rattle.re_labels.specs.Sets.{IsIn, IsWithin, within}
use Rattle.re_labels.proofs.Lists.{Contains-more_cases}
use Rattle.re_problem.specs.Problems.{Problem}
use Rattle.re_labels.proofs.Goodness.{IsAllowed-Rearranged, IsAllowed-is_allowed, is_allowed-IsAllowed}
use Rattle.re_greedy.specs.Findings.{IsTried}
use Rattle.re_greedy.specs.Greedy.{wanting}
use Rattle.re_greedy.specs.declared.answering.Tried.{Tried}
use Rattle.re_labels.specs.Constraints.{Constraint}
use Rattle.re_labels.specs.GoodRows.{IsAllowed, is_allowed}
use Rattle.std.proofs.Math.Seq.{get_or-append_seam}
use Rattle.std.proofs.lemmas.List.{get_or_append_left}

-- ---- how many want one more label
wants : (degree : ℕ) (part : List (List ℕ)) (member : List ℕ) → length (wanting degree (part ++ member ∷ [])) ≡ length (wanting degree part) + length (wanting degree (member ∷ []))
wants degree part member = ap length (filter-append (λ seen. nat_lt (length seen) degree) part (member ∷ [])) ∙ length-append (wanting degree part) (wanting degree (member ∷ []))

wants_as_many : (degree : ℕ) (part : List (List ℕ)) (member : List ℕ) → length (wanting degree part) ≤ length (wanting degree (part ++ member ∷ []))
wants_as_many degree part member = omega (arith, wants degree part member)

wants_one : (degree : ℕ) (member : List ℕ) → length member < degree → length (wanting degree (member ∷ [])) ≡ 1
wants_one degree member fewer = let e : nat_lt (length member) degree ≡ true = grind (arith, nat_tests) in rw e refl

wants_more : (degree : ℕ) (part : List (List ℕ)) (member : List ℕ) → length member < degree → length (wanting degree (part ++ member ∷ [])) ≡ length (wanting degree part) + 1
wants_more degree part member fewer = wants degree part member ∙ ap (λ n. length (wanting degree part) + n) (wants_one degree member fewer)

-- ---- one multiset more
module _ (degree : ℕ) (partial part chosen joining : List (List ℕ)) (member : List ℕ) (are : AreHardest degree partial part chosen joining) where
  pub hardest_long : degree ≤ length member → AreHardest degree partial (part ++ member ∷ []) chosen joining
  hardest_long long = record {
    alike = are.alike;
    few = omega (arith, are.few, wants_as_many degree part member);
    each = are.each;
    hardest = λ seen at fewer. elim (Contains-more_cases part member seen at) [
      | inl there ↦ are.hardest seen there fewer
      | inr e ↦ (let same : length seen ≡ length member = ap length e in absurd (omega arith))
    ];
  }

  pub hardest_covered : (set : List ℕ) → AreJoining partial member set → IsCovered joining set → AreHardest degree partial (part ++ member ∷ []) chosen joining
  hardest_covered set joins (i, inside, within) = record {
    alike = are.alike;
    few = omega (arith, are.few, wants_as_many degree part member);
    each = are.each;
    hardest = λ seen at fewer. elim (Contains-more_cases part member seen at) [
      | inl there ↦ are.hardest seen there fewer
      | inr e ↦ (i, omega (arith, are.alike), λ x at. subst (λ seen. Contains partial (sorted (x ∷ seen))) (sym e) ((joins x).0 (within x at)))
    ];
  }

  pub hardest_more : (set : List ℕ) → AreJoining partial member set → Contains partial member → length member < degree
      → AreHardest degree partial (part ++ member ∷ []) (chosen ++ member ∷ []) (joining ++ set ∷ [])
  hardest_more set joins there fewer = record {
    alike = count;
    few = omega (arith, are.few, wants_more degree part member fewer, length-append chosen (member ∷ []));
    each = λ i inside. each i inside (split i inside);
    hardest = λ seen at few. elim (Contains-more_cases part member seen at) [
      | inl before ↦ (
          let (i, inside, held) = are.hardest seen before few in
          (i, omega (arith, inside, length-append chosen (member ∷ [])), λ x at. held x (subst (IsIn x) (old_set i inside) at))
          )
      | inr e ↦ (
        length chosen,
        omega (arith, length-append chosen (member ∷ [])),
        λ x at.
            subst (λ seen. Contains partial (sorted (x ∷ seen))) (sym e) ((joins x).0 (subst (IsIn x) new_set at)),
      )
    ];
  }
    where
      count : length (joining ++ set ∷ []) ≡ length (chosen ++ member ∷ [])
      count = omega (arith, are.alike, length-append chosen (member ∷ []), length-append joining (set ∷ []))

      split : (i : ℕ) → i < length (chosen ++ member ∷ []) → (i < length chosen) ⊎ (i ≡ length chosen)
      split i inside = below-cases i (length chosen) (omega (arith, inside, length-append chosen (member ∷ [])))

      old_set : (i : ℕ) → i < length chosen → get_or (joining ++ set ∷ []) i [] ≡ get_or joining i []
      old_set i inside = get_or_append_left joining (set ∷ []) [] i (omega (arith, inside, are.alike))

      new_set : get_or (joining ++ set ∷ []) (length chosen) [] ≡ set
      new_set = subst (λ n. get_or (joining ++ set ∷ []) n [] ≡ set) are.alike (get_or-append_seam joining set [] [])

      each : (i : ℕ) → i < length (chosen ++ member ∷ []) → (i < length chosen) ⊎ (i ≡ length chosen) →
          Contains partial (get_or (chosen ++ member ∷ []) i []) × (length (get_or (chosen ++ member ∷ []) i []) < degree)
          × AreJoining partial (get_or (chosen ++ member ∷ []) i []) (get_or (joining ++ set ∷ []) i [])
      each i inside (inl old) =
          subst (λ seen. Contains partial seen × (length seen < degree) × AreJoining partial seen (get_or (joining ++ set ∷ []) i [])) (sym (get_or_append_left chosen (member ∷ []) [] i old))
          (subst (λ labels. Contains partial (get_or chosen i []) × (length (get_or chosen i []) < degree) × AreJoining partial (get_or chosen i []) labels) (sym (old_set i old)) (are.each i old))
      each i inside (inr e) =
          subst (λ i. Contains partial (get_or (chosen ++ member ∷ []) i []) × (length (get_or (chosen ++ member ∷ []) i []) < degree)
          × AreJoining partial (get_or (chosen ++ member ∷ []) i []) (get_or (joining ++ set ∷ []) i [])) (sym e)
          (subst (λ seen. Contains partial seen × (length seen < degree) × AreJoining partial seen (get_or (joining ++ set ∷ []) (length chosen) [])) (sym (get_or-append_seam chosen member [] []))
          (subst (λ labels. Contains partial member × (length member < degree) × AreJoining partial member labels) (sym new_set) (there, fewer, joins)))

-- ---- what they say of all that may be seen
module _ (problem : Problem) (partial chosen joining : List (List ℕ)) (are : AreHardest problem.passive.degree partial partial chosen joining) where
  abbrev Fits : List ℕ → List (List ℕ) → Type 0
  Fits labels around = AllZip (λ label seen. Contains partial (sorted (label ∷ seen))) labels around

  abbrev Known : List ℕ → Type 0
  Known places = AllByRecursion (λ i. i < length chosen) places

  choice_of : (places labels : List ℕ) → Known places → Fits labels (placed chosen places) → IsChoice labels (placed joining places)
  choice_of [] [] known zip = tt
  choice_of [] (x ∷ labels) known zip = absurd zip
  choice_of (i ∷ places) [] known zip = absurd zip
  choice_of (i ∷ places) (x ∷ labels) known zip = (((are.each i known.0).2 x).1 zip.0, choice_of places labels known.1 zip.1)

  pub known_places : (places : List ℕ) → Contains (multisets problem.active.degree 0 (length joining)) places → IsConfig problem.active.degree (length joining) places
  known_places places at = ((multisets_law problem.active.degree (length joining)).1 places).0 at

  known_of : (places : List ℕ) → AllByRecursion (λ i. i < length joining) places → Known places
  known_of [] h = tt
  known_of (i ∷ places) h = (let l : i < length joining = h.0 in omega (arith, l, are.alike), known_of places h.1)

  each_of : (places : List ℕ) → Known places → AllByRecursion (λ seen. Contains partial seen × (length seen < problem.passive.degree)) (placed chosen places)
  each_of [] known = tt
  each_of (i ∷ places) known = (((are.each i known.0).0, (are.each i known.0).1), each_of places known.1)

  pub stuck_of : (places : List ℕ) → Contains (multisets problem.active.degree 0 (length joining)) places → is_allowed problem.active (placed joining places) ≡ false → IsStuck problem partial (placed chosen places)
  stuck_of places at none =
      let config : IsConfig problem.active.degree (length joining) places = known_places places at in
      let known : Known places = known_of places config.below in
      record {
        count = length-map places (set_at chosen) ∙ config.count;
        each = each_of places known;
        none = λ labels zip has. (
            let yes : is_allowed problem.active (placed joining places) ≡ true = IsAllowed-is_allowed problem.active (placed joining places) (labels, choice_of places labels known zip, has) in
            absurd (cc)
            );
      }

  -- the hardest that stands for each that is seen
  stands_for : (around : List (List ℕ)) → AllByRecursion (λ seen. Contains partial seen × (length seen < problem.passive.degree)) around →
      (places : List ℕ) × Known places × (length places ≡ length around) × ((labels : List ℕ) → IsChoice labels (placed joining places) → Fits labels around)
  stands_for [] each = ([], tt, refl, λ labels choice. none labels choice)
    where
      none : (labels : List ℕ) → IsChoice labels [] → Fits labels []
      none [] h = tt
      none (x ∷ labels) h = absurd h
  stands_for (seen ∷ around) each =
      let (i, inside, held) = are.hardest seen each.0.0 each.0.1 in
      let (places, known, count, fits) = stands_for around each.1 in
      (i ∷ places, (inside, known), ap suc count, λ labels choice. more i places held fits labels choice)
    where
      more : (i : ℕ) (places : List ℕ) → ((x : ℕ) → IsIn x (get_or joining i []) → Contains partial (sorted (x ∷ seen)))
          → ((labels : List ℕ) → IsChoice labels (placed joining places) → Fits labels around)
          → (labels : List ℕ) → IsChoice labels (placed joining (i ∷ places)) → Fits labels (seen ∷ around)
      more i places held fits [] h = absurd h
      more i places held fits (x ∷ labels) h = (held x h.0, fits labels h.1)

  known_back : (places : List ℕ) → Known places → AllByRecursion (λ i. i < length joining) places
  known_back [] h = tt
  known_back (i ∷ places) h = (let l : i < length chosen = h.0 in omega (arith, l, are.alike), known_back places h.1)

  pub answered_of : ((places : List ℕ) → Contains (multisets problem.active.degree 0 (length joining)) places → is_allowed problem.active (placed joining places) ≡ true) → IsAnswered problem partial
  answered_of all around count each =
      let (places, known, alike, fits) = stands_for around each in
      let config : IsConfig problem.active.degree (length joining) (sorted places) = IsConfig-sorted problem.active.degree (length joining) places (alike ∙ count) (known_back places known) in
      let at : Contains (multisets problem.active.degree 0 (length joining)) (sorted places) = ((multisets_law problem.active.degree (length joining)).1 (sorted places)).1 config in
      let allowed : IsAllowed problem.active (placed joining places) =
      IsAllowed-Rearranged problem.active (Rearranged-map (set_at joining) (Rearranged-sym (Rearranged-sorted places))) (is_allowed-IsAllowed problem.active (placed joining (sorted places)) (all (sorted places) at)) in
      let (labels, choice, has) = allowed in
      (labels, fits labels choice, has)

-- ---- as a loop goes over the list
pub covered_here : (sets : List (List ℕ)) (set item : List ℕ) (i : ℕ) (b : Bool) → i < length sets → item ≡ get_or sets i item → b ≡ within item set → b ≡ true → IsCovered sets set
covered_here sets set item i b l e is held = (i, l, subst (λ s. IsWithin s set) (sym (get_same sets i item l e)) (within-IsWithin item set (sym is ∙ held)))

pub not_here : (sets : List (List ℕ)) (set item : List ℕ) (i : ℕ) (b : Bool) → i < length sets → item ≡ get_or sets i item → b ≡ within item set → b ≡ false → IsWithin (get_or sets i []) set → ⊥
not_here sets set item i b l e is none inside =
    let held : within item set ≡ true = IsWithin-within item set (subst (λ s. IsWithin s set) (get_same sets i item l e) inside) in
    absurd (cc)

pub no_item : (members : List (List ℕ)) (i : ℕ) (item : List ℕ) → i < length members → item ≡ get_or members i item → Contains members item
no_item members i item l e = (i, l, sym e)

module _ (degree : ℕ) (members chosen joining : List (List ℕ)) (item : List ℕ) (i : ℕ) (inside : i < length members) (at : item ≡ get_or members i item)
    (are : AreHardest degree members (take i members) chosen joining) where
  abbrev Onwards : List (List ℕ) → List (List ℕ) → Type 0
  Onwards chosen joining = AreHardest degree members (take (i + 1) members) chosen joining

  pub step_long : degree ≤ length item → Onwards chosen joining
  step_long long = subst (λ part. AreHardest degree members part chosen joining) (sym (take_item members i item inside at)) (hardest_long degree members (take i members) chosen joining item are long)

  pub step_covered : (set : List ℕ) → AreJoining members item set → IsCovered joining set → Onwards chosen joining
  step_covered set joins covered =
      subst (λ part. AreHardest degree members part chosen joining) (sym (take_item members i item inside at)) (hardest_covered degree members (take i members) chosen joining item are set joins covered)

  pub step_more : (set : List ℕ) (new_chosen new_joining : List (List ℕ)) → AreJoining members item set → length item < degree → new_chosen ≡ chosen ++ item ∷ [] → new_joining ≡ joining ++ set ∷ []
      → Onwards new_chosen new_joining
  step_more set new_chosen new_joining joins fewer one two =
      let more : AreHardest degree members (take i members ++ item ∷ []) (chosen ++ item ∷ []) (joining ++ set ∷ []) =
      hardest_more degree members (take i members) chosen joining item are set joins (no_item members i item inside at) fewer in
      subst (λ part. AreHardest degree members part new_chosen new_joining) (sym (take_item members i item inside at))
      (subst (λ c. AreHardest degree members (take i members ++ item ∷ []) c new_joining) (sym one)
      (subst (λ j. AreHardest degree members (take i members ++ item ∷ []) (chosen ++ item ∷ []) j) (sym two) more))

-- ---- what was tried
pub tried_is : (problem : Problem) (joining rows : List (List ℕ)) (constraint : Constraint) (tries : ℕ) (tried answer : Tried) → constraint ≡ problem.active → rows ≡ joining → tried ≡ answer
    → IsTried constraint rows tries tried → IsTried problem.active joining tries answer
tried_is problem joining rows constraint tries tried answer one two e is =
    subst (IsTried problem.active joining tries) e (subst (λ k. IsTried k joining tries tried) one (subst (λ r. IsTried constraint r tries tried) two is))

pub hardest_is : (problem : Problem) (partial chosen joining : List (List ℕ)) (degree : ℕ) (constraint : Constraint) → degree ≡ constraint.degree → constraint ≡ problem.passive
    → AreHardest degree partial partial chosen joining → AreHardest problem.passive.degree partial partial chosen joining
hardest_is problem partial chosen joining degree constraint e one are = subst (λ d. AreHardest d partial partial chosen joining) (e ∙ ap (λ (k : Constraint). k.degree) one) are

pub places_known : (numbers places : List ℕ) (chosen joining given : List (List ℕ)) → AllByRecursion (λ i. i < length joining) places → length joining ≡ length chosen → given ≡ chosen → numbers ≡ places
    → AllByRecursion (λ i. i < length given) numbers
places_known numbers places chosen joining given below alike one two =
    subst (AllByRecursion (λ i. i < length given)) (sym two) (subst (λ n. AllByRecursion (λ i. i < n) places) (alike ∙ ap length (sym one)) below)
