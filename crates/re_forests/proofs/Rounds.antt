-- Rounds of labels, from x to x through 2 l + 1 and through 2 l + 3 nodes, with a first node of either kind: their labels are a flexible set.
use Rattle.std.proofs.Common.{◌≡◌, ℕ, zero, suc, ◌+◌, ◌-◌, ◌*◌, ◌≤◌, ◌<◌, Bool, true, false, List, [], ◌∷◌, map, refl, sym, ap, ◌∙◌, subst, arith, inl, inr, ◌⊎◌}
use Rattle.std.specs.Prelude.{Contains, not, flat_map}
use Rattle.re_labels.proofs.Sorting.{sorted-Rearranged}
use Rattle.re_labels.specs.Rearranging.{swapped}
use Rattle.re_forests.proofs.Leads.{after, after_even, joined, joined_odd, lead_as_long}
use Rattle.re_forests.proofs.Turning.{turning}
use Rattle.re_forests.specs.Flexible.{AreJoined, IsFlexible, Joins, Leads, side}
use Rattle.re_labels.proofs.Membership.{Contains-count_from, Contains-flat_map, Contains-flat_map_cases, Contains-here, Contains-later, Contains-map, Contains-map_cases, count_from_range}
use Rattle.re_labels.specs.Lists.{count_from}
use Rattle.re_labels.proofs.Tests.{not_not}
use Rattle.re_problem.specs.Problems.{Problem}
use Rattle.re_labels.specs.Constraints.{Constraint, Has}

pub after_not : (active : Bool) (m : ℕ) → after (not active) m ≡ not (after active m)
after_not active zero = refl
after_not active (suc m) = after_not (not active) m

pub after_more : (active : Bool) (m n : ℕ) → after (after active m) n ≡ after active (m + n)
after_more active zero n = ap (after active) (let e : n ≡ zero + n = omega arith in e)
after_more active (suc m) n = after_more (not active) m n ∙ ap (after active) (let e : suc (m + n) ≡ suc m + n = omega arith in e)

either_kind : (active kind : Bool) → (active ≡ kind) ⊎ (active ≡ not kind)
either_kind true true = inl refl
either_kind true false = inr refl
either_kind false true = inr refl
either_kind false false = inl refl

parity : (i : ℕ) → ((a : ℕ) × (i ≡ 2 * a)) ⊎ ((a : ℕ) × (i ≡ suc (2 * a)))
parity zero = inl (zero, omega arith)
parity (suc i) = elim (parity i) [
  | inl even ↦ inr (even.0, (let e : i ≡ 2 * even.0 = even.1 in omega (arith, e)))
  | inr odd ↦ inl (suc odd.0, (let e : i ≡ suc (2 * odd.0) = odd.1 in omega (arith, e)))
]

-- labels in turn, of which each two stand around a node, from x to x
pub record IsRound (problem : Problem) (active : Bool) (len x : ℕ) (mark : ℕ → ℕ) : Type 0 where
  pub first : mark 0 ≡ x
  pub last : mark len ≡ x
  pub linked : (i : ℕ) → i < len → Has (side problem (after active i)) (mark i ∷ mark (suc i) ∷ [])

module _ (problem : Problem) (set : List ℕ) where
  -- ---- the way back
  joins_back : (constraint : Constraint) (x y : ℕ) → Joins constraint set x y → Joins constraint set y x
  joins_back constraint x y (rest, held, has) = (rest, held, subst (λ l. Contains constraint.configs l) (sorted-Rearranged (swapped {x = x} {y = y} {xs = rest})) has)

  reversed : (active : Bool) (m x y : ℕ) → Contains set x → Leads problem set active m x y → Leads problem set (after active (suc m)) m y x
  reversed active zero x y held walk = sym walk
  reversed active (suc m) x y held (z, there, join, walk) =
      lead_as_long problem set (after active (suc (suc m))) (m + 1) (suc m) y x (omega arith)
      (joined problem set (after active (suc (suc m))) m 1 y z x (reversed (not active) m z y there walk) (x, held, joins_back (side problem kind) x z (subst (λ k. Joins (side problem k) set x z) same join), refl))
    where
      kind : Bool
      kind = after (after active (suc (suc m))) m

      same : active ≡ after (after active (suc (suc m))) m
      same = sym (after_more active (suc (suc m)) m ∙ (ap (after active) (let e : suc (suc m) + m ≡ 2 * suc m = omega arith in e) ∙ after_even active (suc m)))

  reversed_odd : (active : Bool) (l x y : ℕ) → Contains set x → Leads problem set active (suc (2 * l)) x y → Leads problem set active (suc (2 * l)) y x
  reversed_odd active l x y held walk =
      subst (λ kind. Leads problem set kind (suc (2 * l)) y x) (after_even (not (not active)) l ∙ not_not active) (reversed active (suc (2 * l)) x y held walk)

  reversed_even : (active : Bool) (l x y : ℕ) → Contains set x → Leads problem set (not active) (2 * l) x y → Leads problem set active (2 * l) y x
  reversed_even active l x y held walk =
      subst (λ kind. Leads problem set kind (2 * l) y x) (after_even (not (not active)) l ∙ not_not active) (reversed (not active) (2 * l) x y held walk)

  -- ---- parts of rounds
  part : (active : Bool) (len : ℕ) (mark : ℕ → ℕ) → ((i : ℕ) → i ≤ len → Contains set (mark i))
      → ((i : ℕ) → i < len → Has (side problem (after active i)) (mark i ∷ mark (suc i) ∷ []))
      → (j i : ℕ) → i + j ≤ len → Leads problem set (after active i) j (mark i) (mark (i + j))
  part active len mark held linked zero i low = ap mark (let e : i ≡ i + zero = omega arith in e)
  part active len mark held linked (suc j) i low = (
    mark (suc i),
    held (suc i) (omega arith),
    ([], tt, linked i (omega arith)),
    subst (λ kind. Leads problem set kind j (mark (suc i)) (mark (i + suc j))) (after_not active i)
        (subst (λ k. Leads problem set (after active (suc i)) j (mark (suc i)) (mark k)) (let e : suc i + j ≡ i + suc j = omega arith in e)
        (part active len mark held linked j (suc i) (omega arith))),
  )

  -- from x to y through an even number of nodes and through an odd one, of which the first is of this kind
  abbrev Both : Bool → ℕ → ℕ → Type 0
  Both active x y = ((a : ℕ) × Leads problem set active (2 * a) x y) × ((b : ℕ) × Leads problem set active (suc (2 * b)) x y)

  both_of_kind : (active : Bool) (l x : ℕ) (mark : ℕ → ℕ) → IsRound problem active (suc (2 * l)) x mark → ((i : ℕ) → i ≤ suc (2 * l) → Contains set (mark i))
      → (i : ℕ) → i ≤ suc (2 * l) → Both active x (mark i)
  both_of_kind active l x mark round held i low = by (parity i)
    where
      len : ℕ
      len = suc (2 * l)

      there : Leads problem set active i x (mark i)
      there = subst (λ z. Leads problem set active i z (mark i)) round.first (subst (λ k. Leads problem set active i (mark 0) (mark k)) (let e : 0 + i ≡ i = omega arith in e) (part active len mark held round.linked i 0 (omega (arith, low))))

      onward : Leads problem set (after active i) (len - i) (mark i) x
      onward = subst (λ z. Leads problem set (after active i) (len - i) (mark i) z) (ap mark (let e : i + (len - i) ≡ len = omega (arith, low) in e) ∙ round.last) (part active len mark held round.linked (len - i) i (omega (arith, low)))

      back : Leads problem set active (len - i) x (mark i)
      back = subst (λ kind. Leads problem set kind (len - i) x (mark i))
          (after_more active i (suc (len - i)) ∙ (ap (after active) (let e : i + suc (len - i) ≡ 2 * suc l = omega (arith, low) in e) ∙ after_even active (suc l)))
          (reversed (after active i) (len - i) (mark i) x (held i low) onward)

      by : ((a : ℕ) × (i ≡ 2 * a)) ⊎ ((a : ℕ) × (i ≡ suc (2 * a))) → Both active x (mark i)
      by (inl (a, e)) = ((a, lead_as_long problem set active i (2 * a) x (mark i) e there), (l - a, lead_as_long problem set active (len - i) (suc (2 * (l - a))) x (mark i) (omega (arith, e, low)) back))
      by (inr (a, e)) = ((l - a, lead_as_long problem set active (len - i) (2 * (l - a)) x (mark i) (omega (arith, e, low)) back), (a, lead_as_long problem set active i (suc (2 * a)) x (mark i) e there))

  both_of_other : (active : Bool) (l x y : ℕ) → Leads problem set (not active) (suc (2 * l)) x x → Both active x y → Both (not active) x y
  both_of_other active l x y round ((a, even), (b, odd)) = (
    (suc (l + b), lead_as_long problem set (not active) (suc (2 * l) + suc (2 * b)) (2 * suc (l + b)) x y (omega arith) (joined_odd problem set (not active) l (suc (2 * b)) x x y round (twice_kind (suc (2 * b)) odd))),
    (l + a, lead_as_long problem set (not active) (suc (2 * l) + 2 * a) (suc (2 * (l + a))) x y (omega arith) (joined_odd problem set (not active) l (2 * a) x x y round (twice_kind (2 * a) even))),
  )
    where
      twice_kind : (m : ℕ) → Leads problem set active m x y → Leads problem set (not (not active)) m x y
      twice_kind m walk = subst (λ kind. Leads problem set kind m x y) (sym (not_not active)) walk

  joined_with : (x y : ℕ) → Contains set x → Contains set y → ((active : Bool) → Both active x y) → AreJoined problem set x y
  joined_with x y own held both = record {
    first = own;
    second = held;
    odd = λ active. ((both active).1, (let (b, walk) = (both active).1 in (b, reversed_odd active b x y own walk)));
    even = λ active. ((both active).0, (let (a, walk) = (both (not active)).0 in (a, reversed_even active a x y own walk)));
  }

-- ---- all four rounds
module _ (problem : Problem) (x l : ℕ) (mark : Bool → Bool → ℕ → ℕ) where
  abbrev pub half : Bool → ℕ
  half false = l
  half true = suc l

  kinds : List Bool
  kinds = true ∷ false ∷ []

  a_kind : (b : Bool) → Contains (true ∷ false ∷ []) b
  a_kind true = Contains-here true (false ∷ [])
  a_kind false = Contains-later false true (false ∷ []) (Contains-here false [])

  abbrev pub marks : Bool → Bool → List ℕ
  marks long active = map (mark long active) (count_from 0 (suc (suc (2 * half long))))

  abbrev pub around : List ℕ
  around = flat_map (λ long. flat_map (λ active. marks long active) (true ∷ false ∷ [])) (true ∷ false ∷ [])

  around_has : (long active : Bool) (i : ℕ) → i ≤ suc (2 * half long) → Contains around (mark long active i)
  around_has long active i low =
      Contains-flat_map (λ long. flat_map (λ active. marks long active) (true ∷ false ∷ [])) (true ∷ false ∷ []) long (mark long active i) (a_kind long)
      (Contains-flat_map (λ active. marks long active) (true ∷ false ∷ []) active (mark long active i) (a_kind active)
      (Contains-map (mark long active) (count_from 0 (suc (suc (2 * half long)))) i (Contains-count_from 0 (suc (suc (2 * half long))) i (omega arith) (omega (arith, low)))))

  around_cases : (y : ℕ) → Contains around y → (long : Bool) × (active : Bool) × (i : ℕ) × (i ≤ suc (2 * half long)) × (mark long active i ≡ y)
  around_cases y held =
      let (long, _, at) = Contains-flat_map_cases (λ long. flat_map (λ active. marks long active) (true ∷ false ∷ [])) (true ∷ false ∷ []) y held in
      let (active, _, there) = Contains-flat_map_cases (λ active. marks long active) (true ∷ false ∷ []) y at in
      let (i, in_range, same) = Contains-map_cases (mark long active) (count_from 0 (suc (suc (2 * half long)))) y there in
      let range : (0 ≤ i) × (i < 0 + suc (suc (2 * half long))) = count_from_range 0 (suc (suc (2 * half long))) i in_range in
      (long, active, i, omega (arith, range.1), same)

  module _ (rounds : (long active : Bool) → IsRound problem active (suc (2 * half long)) x (mark long active)) where
    whole : (long active : Bool) → Leads problem around active (suc (2 * half long)) x x
    whole long active =
        let r : IsRound problem active (suc (2 * half long)) x (mark long active) = rounds long active in
        subst (λ z. Leads problem around active (suc (2 * half long)) z x) r.first
        (subst (λ z. Leads problem around active (suc (2 * half long)) (mark long active 0) z) r.last
        (subst (λ k. Leads problem around active (suc (2 * half long)) (mark long active 0) (mark long active k)) (let e : 0 + suc (2 * half long) ≡ suc (2 * half long) = omega arith in e)
        (part problem around active (suc (2 * half long)) (mark long active) (around_has long active) r.linked (suc (2 * half long)) 0 (omega arith))))

    each : (y : ℕ) → Contains around y → (active : Bool) → Both problem around active x y
    each y held active =
        let (long, kind, i, low, same) = around_cases y held in
        let own : Both problem around kind x y = subst (Both problem around kind x) same (both_of_kind problem around kind (half long) x (mark long kind) (rounds long kind) (around_has long kind) i low) in
        elim (either_kind active kind) [
          | inl e ↦ subst (λ k. Both problem around k x y) (sym e) own
          | inr e ↦ subst (λ k. Both problem around k x y) (sym e) (both_of_other problem around kind l x y (whole false (not kind)) own)
        ]

    own_in : Contains around x
    own_in = subst (Contains around) (rounds false true).first (around_has false true 0 (omega arith))

    pub round_flexible : (k : ℕ) × IsFlexible problem around k
    round_flexible =
        (turning problem around).0 x l (record { shorter = whole false; longer = whole true })
        (λ y held. joined_with problem around x y own_in held (each y held)) own_in
