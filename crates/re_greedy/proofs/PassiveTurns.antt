-- The turn of one colour, at passive nodes: each tells a node of the colour what is put out around it.
use Rattle.std.proofs.Common.{◌≡◌, ℕ, zero, suc, ◌+◌, ◌-◌, ◌≤◌, ◌<◌, Bool, true, false, cond, eqb, ltb, List, [], ◌∷◌, ◌⊎◌, map, length, get_or, refl, sym, ◌∙◌, ap, subst, arith, inl, inr}
use Rattle.std.specs.Prelude.{Contains, not, replicate}
use Rattle.std.specs.List.{AllByRecursion, AllZip}
use Rattle.std.proofs.lemmas.Bool.Decides.{nat_tests}
use Rattle.std.proofs.lemmas.List.{length-map, length-replicate}
use Rattle.std.proofs.lemmas.Bool.{le-ltb}
use Rattle.re_labels.proofs.ChoicesOfRows.{IsChoice-Rearranged}
use Rattle.re_labels.proofs.Rearranging.{Contains-Rearranged, Rearranged-map, Rearranged-sym, length-Rearranged}
use Rattle.re_labels.proofs.Sorting.{Rearranged-sorted, length-sorted}
use Rattle.re_labels.specs.Configs.{IsConfig, sorted}
use Rattle.re_labels.specs.Rearranging.{Rearranged, chained, kept}
use Rattle.re_labels.specs.Rows.{IsChoice}
use Rattle.re_local.proofs.DifferentLabels.{Distinct-Rearranged}
use Rattle.re_given.proofs.GrownInputs.{without_one}
use Rattle.re_greedy.proofs.Parts.{Rearranged-filter, choice_only, chosen_each, put_out, put_out_high, put_out_low, put_out_most, waiting, waiting_high, waiting_low}
use Rattle.re_greedy.proofs.Stages.{Stands, passive_there, stage}
use Rattle.re_greedy.proofs.ActiveTurns.{has_below}
use Rattle.re_greedy.proofs.Told.{L, sets, sets_cases, sets_itself, sets_only, sets_there, told, wide, wide_below, wide_itself, wide_there}
use Rattle.re_greedy.specs.Greedy.{IsGreedy}
use Rattle.re_labels.proofs.Membership.{AllByRecursion-contains, AllByRecursion-from_contains, Contains-cases, Contains-filter, Contains-here, Contains-later, Contains-map_cases, Distinct}
use Rattle.re_labels.proofs.LabelPlaces.{get-place_of, place_of-below}
use Rattle.re_labels.proofs.Sets.{IsIn-has, has-IsIn}
use Rattle.re_labels.proofs.Tests.{eqb-apart, eqb-same, eqb-true}
use Rattle.re_labels.specs.Lists.{place_of}
use Rattle.re_labels.specs.Sets.{has}
use Rattle.re_problem.proofs.StepLaws.{map-map}
use Rattle.re_problem.specs.Problems.{IsProblem, Problem}
use Rattle.re_labels.proofs.Goodness.{Has-Rearranged}
use Rattle.re_labels.specs.Constraints.{Constraint, Has}
use Rattle.re_labels.specs.GoodRows.{IsGood}

module _ (problem : Problem) (partial : List (List ℕ)) (c q : ℕ) (is : IsProblem problem) (greedy : IsGreedy problem partial) (turn : q < c) where
  abbrev n : ℕ
  n = problem.labels

  abbrev member : Constraint
  member = record { degree = problem.passive.degree; configs = partial }

  abbrev most : ℕ
  most = L problem partial c q

  abbrev told_here : ℕ → List ℕ
  told_here = told problem partial c q

  abbrev wide_here : ℕ → List ℕ
  wide_here = wide problem partial c q

  abbrev sets_here : ℕ → List ℕ
  sets_here = sets problem partial c q

  later_than : (x : ℕ) → n + q ≤ x → (x ≡ n + q → ⊥) → n + suc q ≤ x
  later_than x low other = let apart : eqb x (n + q) ≡ false = eqb-apart x (n + q) other in grind (arith, nat_tests)

  -- some label fits beside what is seen
  one_fits : (k : ℕ) (seen : List ℕ) (labels : List ℕ) → 1 ≤ k → AllZip (λ label seen. Contains partial (sorted (label ∷ seen))) labels (replicate k seen)
      → (y : ℕ) × Contains labels y × Contains partial (sorted (y ∷ seen))
  one_fits zero seen labels some zip = absurd (omega (arith, some))
  one_fits (suc k) seen [] some zip = absurd zip
  one_fits (suc k) seen (y ∷ labels) some zip = (y, Contains-here y labels, zip.0)

  module _ (zs : List ℕ) (zs_is : IsConfig problem.passive.degree (n + c) zs) (around : Stands member n q zs) where
    abbrev seen : List ℕ
    seen = sorted (put_out n zs)

    abbrev place : ℕ
    place = n + c + place_of partial seen

    -- what the passive node tells: what is put out around it, to a node of colour q
    abbrev tells : ℕ → ℕ
    tells z = cond (eqb z (n + q)) place z

    low : (z : ℕ) → Contains zs z → z < n + c
    low z at = AllByRecursion-contains (λ z. z < n + c) zs z zs_is.below at

    tells_acting : tells (n + q) ≡ place
    tells_acting = subst (λ b. cond b place (n + q) ≡ place) (sym (eqb-same (n + q))) refl

    tells_other : (z : ℕ) → (z ≡ n + q → ⊥) → tells z ≡ z
    tells_other z other = subst (λ b. cond b place z ≡ z) (sym (eqb-apart z (n + q) other)) refl

    place_low : place < most
    place_low = let l = place_of-below partial seen around.put in omega (arith, l)

    told_place : told_here place ≡ seen
    told_place =
        let back : place - (n + c) ≡ place_of partial seen = omega arith in
        subst (λ k. get_or partial k [] ≡ seen) (sym back) (get-place_of partial seen around.put)

    -- the others, where one has colour q
    split : Contains zs (n + q) → (rest : List ℕ) × Rearranged zs ((n + q) ∷ rest) × ((z : ℕ) → Contains rest z → z ≡ n + q → ⊥) × Distinct (waiting n rest)
    split at =
        let (rest, order) = without_one zs (n + q) at in
        let apart : Distinct ((n + q) ∷ waiting n rest) =
        subst Distinct (waiting_high n (n + q) rest (omega arith)) (Distinct-Rearranged (Rearranged-filter (λ z. not (ltb z n)) order) around.different) in (
          rest,
          order,
          λ z there e. apart.0 (Contains-filter (λ z. not (ltb z n)) rest (n + q) (subst (Contains rest) e there) (ap not (le-ltb (n + q) n (omega arith)))),
          apart.1,
        )

    put_rest : (rest : List ℕ) → Rearranged zs ((n + q) ∷ rest) → Rearranged (put_out n zs) (put_out n rest)
    put_rest rest order = subst (Rearranged (put_out n zs)) (put_out_high n (n + q) rest (omega arith)) (Rearranged-filter (λ z. ltb z n) order)

    fewer : Contains zs (n + q) → length seen < problem.passive.degree
    fewer at =
        let (rest, order, other, apart) = split at in
        let whole : length zs ≡ suc (length rest) = length-Rearranged order in
        let part : length (put_out n zs) ≡ length (put_out n rest) = length-Rearranged (put_rest rest order) in
        let most = put_out_most n rest in
        let same : length seen ≡ length (put_out n zs) = length-sorted (put_out n zs) in
        let count = zs_is.count in
        omega (arith, whole, part, most, same, count)

    tells_in : (z : ℕ) → Contains zs z → Contains (wide_here z) (tells z)
    tells_in z at = by (eqb z (n + q)) refl
      where
        by : (b : Bool) → eqb z (n + q) ≡ b → Contains (wide_here z) (tells z)
        by true same =
            let z_is : z ≡ n + q = eqb-true z (n + q) same in
            let there : Contains (wide_here (n + q)) place =
            wide_there problem partial c q place (omega arith) place_low (subst (λ s. length s < problem.passive.degree) (sym told_place) (fewer (subst (Contains zs) z_is at))) in
            subst (λ z. Contains (wide_here z) (tells z)) (sym z_is) (subst (Contains (wide_here (n + q))) (sym tells_acting) there)
        by false apart =
            let other : z ≡ n + q → ⊥ = λ f. (let one : eqb z (n + q) ≡ true = subst (λ w. eqb z w ≡ true) f (eqb-same z) in absurd (cc)) in
            subst (Contains (wide_here z)) (sym (tells_other z other)) (wide_itself problem partial c q z other (low z at))

    -- ---- the sets for what it tells
    kept_is : (z y : ℕ) → Contains zs z → (z ≡ n + q → ⊥) → Contains (sets_here (tells z)) y → y ≡ z
    kept_is z y at other in_set = sets_only problem partial c q z y (low z at) (subst (λ w. Contains (sets_here w) y) (tells_other z other) in_set)

    acting_is : (y : ℕ) → Contains (sets_here (tells (n + q))) y → (y < n) × Has member (y ∷ seen)
    acting_is y in_set =
        let (small, has) = sets_cases problem partial c q place y (omega arith) (subst (λ w. Contains (sets_here w) y) tells_acting in_set) in
        (small, subst (λ s. Has member (y ∷ s)) told_place has)

    some_of : (s : List ℕ) (y : ℕ) → Contains s y → 0 < length s
    some_of s y (j, l, e) = omega (arith, l)

    filled : (z : ℕ) → Contains zs z → 0 < length (sets_here (tells z))
    filled z at = by (eqb z (n + q)) refl
      where
        by : (b : Bool) → eqb z (n + q) ≡ b → 0 < length (sets_here (tells z))
        by true same =
            let z_is : z ≡ n + q = eqb-true z (n + q) same in
            let few : length seen < problem.passive.degree = fewer (subst (Contains zs) z_is at) in
            let all : AllByRecursion (λ seen. Contains partial seen × (length seen < problem.passive.degree)) (replicate problem.active.degree seen) = alike problem.active.degree few in
            let (labels, zip, has) = greedy.next (replicate problem.active.degree seen) (length-replicate problem.active.degree seen) all in
            let least = is.active.least in
            let (y, there, fit) = one_fits problem.active.degree seen labels (omega (arith, least)) zip in
            let held : Contains (sets_here place) y =
            sets_there problem partial c q place y (omega arith) (has_below problem labels is has y there) (subst (λ s. Has member (y ∷ s)) (sym told_place) fit) in
            subst (λ z. 0 < length (sets_here (tells z))) (sym z_is) (subst (λ w. 0 < length (sets_here w)) (sym tells_acting) (some_of (sets_here place) y held))
          where
            alike : (k : ℕ) → length seen < problem.passive.degree → AllByRecursion (λ seen. Contains partial seen × (length seen < problem.passive.degree)) (replicate k seen)
            alike zero few = tt
            alike (suc k) few = ((around.put, few), alike k few)
        by false apart =
            let other : z ≡ n + q → ⊥ = λ f. (let one : eqb z (n + q) ≡ true = subst (λ w. eqb z w ≡ true) f (eqb-same z) in absurd (cc)) in
            subst (λ w. 0 < length (sets_here w)) (sym (tells_other z other)) (some_of (sets_here z) z (sets_itself problem partial c q z (low z at)))

    abbrev after : ℕ → List ℕ
    after z = sets_here (tells z)

    choice : (labels : List ℕ) → IsChoice labels (map after zs) → Has (stage problem partial c (suc q)).passive labels
    choice labels chosen = by (has zs (n + q)) refl
      where
        later : (z : ℕ) → Contains zs z → (z ≡ n + q → ⊥) → (z < n) ⊎ (n + suc q ≤ z)
        later z at other = elim (around.late z at) [ inl l ↦ inl l | inr h ↦ inr (later_than z h other) ]

        by : (b : Bool) → has zs (n + q) ≡ b → Has (stage problem partial c (suc q)).passive labels
        by false none =
            let other : (z : ℕ) → Contains zs z → z ≡ n + q → ⊥ =
            λ z at e. (let found : has zs (n + q) ≡ true = IsIn-has zs (n + q) (subst (Contains zs) e at) in absurd (cc)) in
            let same : zs ≡ labels = sym (choice_only after zs labels (λ z y at in_set. kept_is z y at (other z at) in_set) chosen) in
            subst (Has (stage problem partial c (suc q)).passive) same
            (passive_there problem partial c (suc q) zs zs_is.count zs_is.below (record { put = around.put; different = around.different; late = λ z at. later z at (other z at) }))
        by true found =
            let (rest, order, other, apart) = split (has-IsIn zs (n + q) found) in
            let (moved, order', chosen') = IsChoice-Rearranged labels (Rearranged-map after order) chosen in
            finish rest order other apart moved order' chosen'
          where
            finish : (rest : List ℕ) → Rearranged zs ((n + q) ∷ rest) → ((z : ℕ) → Contains rest z → z ≡ n + q → ⊥) → Distinct (waiting n rest)
                → (moved : List ℕ) → Rearranged labels moved → IsChoice moved (map after ((n + q) ∷ rest)) → Has (stage problem partial c (suc q)).passive labels
            finish rest order other apart [] order' chosen' = absurd chosen'
            finish rest order other apart (y ∷ ys) order' chosen' =
                let within : (z : ℕ) → Contains rest z → Contains zs z = λ z at. Contains-Rearranged z (Rearranged-sym order) (Contains-later z (n + q) rest at) in
                let same : rest ≡ ys = sym (choice_only after rest ys (λ z w at in_set. kept_is z w (within z at) (other z at) in_set) chosen'.1) in
                let (small, fit) = acting_is y chosen'.0 in
                let whole : length zs ≡ suc (length rest) = length-Rearranged order in
                let below : AllByRecursion (λ z. z < n + c) rest = AllByRecursion-from_contains (λ z. z < n + c) rest (λ z at. low z (within z at)) in
                let standing : Stands member n (suc q) (y ∷ rest) = record {
                  put = subst (Has member) (sym (put_out_low n y rest small))
                      (Has-Rearranged member (kept (chained (Rearranged-sym (Rearranged-sorted (put_out n zs))) (put_rest rest order))) fit);
                  different = subst Distinct (sym (waiting_low n y rest small)) apart;
                  late = λ z at. elim (Contains-cases z y rest at) [
                    | inl e ↦ inl (subst (λ z. z < n) (sym e) small)
                    | inr there ↦ later z (within z there) (other z there)
                  ];
                } in
                Has-Rearranged (stage problem partial c (suc q)).passive (Rearranged-sym order')
                (subst (λ ys. Has (stage problem partial c (suc q)).passive (y ∷ ys)) same
                (passive_there problem partial c (suc q) (y ∷ rest) (sym whole ∙ zs_is.count) (omega (arith, small), below) standing))

    good : IsGood (stage problem partial c (suc q)).passive (map sets_here (map tells zs))
    good = record {
      count = length-map (map tells zs) sets_here ∙ (length-map zs tells ∙ zs_is.count);
      filled = AllByRecursion-from_contains (λ s. 0 < length s) (map sets_here (map tells zs)) (λ s at.
          let (y, there, e) = Contains-map_cases sets_here (map tells zs) s at in
          let (z, here, e') = Contains-map_cases tells zs y there in
          subst (λ s. 0 < length s) e (subst (λ y. 0 < length (sets_here y)) e' (filled z here)));
      choice = λ labels chosen. choice labels (subst (IsChoice labels) (map-map sets_here tells zs) chosen);
    }

    pub tell : (ys : List ℕ) × IsChoice ys (map wide_here zs) × AllByRecursion (λ y. y < most) ys × IsGood (stage problem partial c (suc q)).passive (map sets_here ys)
    tell = (
      map tells zs,
      chosen_each wide_here tells zs tells_in,
      AllByRecursion-from_contains (λ y. y < most) (map tells zs) (λ y at.
          let (z, here, e) = Contains-map_cases tells zs y at in
          subst (λ y. y < most) e (wide_below problem partial c q z (tells z) (tells_in z here))),
      good,
    )
