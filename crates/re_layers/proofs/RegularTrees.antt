-- The tree without end in which all active nodes have one number of neighbours, and all passive ones another; its part below N is a forest.
use Rattle.std.proofs.Common.{◌≡◌, ℕ, zero, suc, ◌+◌, ◌*◌, ◌/◌, ◌%◌, ◌≤◌, ◌<◌, Bool, true, false, leb, List, [], ◌∷◌, length, refl, sym, ap, ◌∙◌, subst, ◌⊎◌, inl, inr, arith}
use Rattle.std.specs.Prelude.{Contains, filter, not, if◌then◌else◌}
use Rattle.std.proofs.Math.Nat.{div-le_self, mod-lt, mul-le-mul_left, mul-le-mul_right}
use Rattle.std.proofs.lemmas.Bool.{cases_lt, le-leb, lt-leb}
use Rattle.std.proofs.lemmas.Bool.Decides.{eqb_tells}
use Rattle.std.proofs.lemmas.Nat.{div-add-mod', div-mul-add}
use Rattle.re_layers.proofs.Full.{cut, cut_cases, cut_different, cut_fewer, cut_held}
use Rattle.re_labels.proofs.Membership.{Contains-cases, Contains-here, Contains-later, Contains-none}
use Rattle.re_labels.proofs.Tests.{not_not}
use Rattle.re_layers.proofs.NodeNumbers.{kind, kind_number, number, number_later, number_least, number_most, number_of, number_same, place, place_number}
use Rattle.re_layers.proofs.Rooted.{ball_different}
use Rattle.re_layers.specs.Networks.{AreDifferent, IsForest, Network}

-- ---- m says how many neighbours a node has besides the one above it
module _ (m : Bool → ℕ) (some : (k : Bool) → 1 ≤ m k) where
  abbrev children : Bool → ℕ → ℕ → List ℕ
  children k i zero = []
  children k i (suc j) = number (not k) (suc (i * m k + j)) ∷ children k i j

  -- the node above; the first active node and the first passive one stand beside each other
  abbrev first : Bool → ℕ → ℕ
  first k zero = number (not k) zero
  first k (suc i) = number (not k) (i / m (not k))

  abbrev around : Bool → ℕ → List ℕ
  around k i = first k i ∷ children k i (m k)

  abbrev pub whole : Network
  whole = record { active = kind; near = λ v. around (kind v) (place v) }

  abbrev pub up_of : Bool → ℕ → ℕ
  up_of k zero = zero
  up_of k (suc i) = number (not k) (i / m (not k))

  abbrev pub up : ℕ → ℕ
  up v = up_of (kind v) (place v)

  up_number : (k : Bool) (i : ℕ) → up (number k i) ≡ up_of k i
  up_number k i = ap (λ b. up_of b (place (number k i))) (kind_number k i) ∙ ap (up_of k) (place_number k i)

  near_number : (k : Bool) (i : ℕ) → whole.near (number k i) ≡ around k i
  near_number k i = ap (λ b. around b (place (number k i))) (kind_number k i) ∙ ap (around k) (place_number k i)

  children_cases : (k : Bool) (i n w : ℕ) → Contains (children k i n) w → (j : ℕ) × (j < n) × (w ≡ number (not k) (suc (i * m k + j)))
  children_cases k i zero w held = absurd (Contains-none w held)
  children_cases k i (suc n) w held = elim (Contains-cases w (number (not k) (suc (i * m k + n))) (children k i n) held) [
    | inl e ↦ (n, omega arith, e)
    | inr later ↦ (let (j, low, e) = children_cases k i n w later in (j, omega arith, e))
  ]

  children_held : (k : Bool) (i n j : ℕ) → j < n → Contains (children k i n) (number (not k) (suc (i * m k + j)))
  children_held k i zero j l = absurd (omega arith)
  children_held k i (suc n) j l = elim (eqb_tells j n) [
    | inl t ↦ subst (λ x. Contains (children k i (suc n)) (number (not k) (suc (i * m k + x)))) (sym t.1)
        (Contains-here (number (not k) (suc (i * m k + n))) (children k i n))
    | inr t ↦ Contains-later (number (not k) (suc (i * m k + j))) (number (not k) (suc (i * m k + n))) (children k i n)
        (children_held k i n j (let other : j ≡ n → ⊥ = t.1 in omega (arith, l, other)))
  ]

  around_cases : (k : Bool) (i w : ℕ) → Contains (around k i) w → (w ≡ first k i) ⊎ ((j : ℕ) × (j < m k) × (w ≡ number (not k) (suc (i * m k + j))))
  around_cases k i w held = elim (Contains-cases w (first k i) (children k i (m k)) held) [ inl e ↦ inl e | inr later ↦ inr (children_cases k i (m k) w later) ]

  length_around : (k : Bool) (i : ℕ) → length (around k i) ≡ suc (m k)
  length_around k i = ap suc (count (m k))
    where
      count : (n : ℕ) → length (children k i n) ≡ n
      count zero = refl
      count (suc n) = ap suc (count n)

  -- ---- each edge leads up from one of its ends
  deeper : (k : Bool) (i j : ℕ) → i ≤ i * m k + j
  deeper k i j = let more : i * 1 ≤ i * m k = mul-le-mul_left i (some k) in omega (arith, more)

  above_child : (k : Bool) (i j : ℕ) → j < m k → up (number (not k) (suc (i * m k + j))) ≡ number k i
  above_child k i j l =
      up_number (not k) (suc (i * m k + j)) ∙ ap (λ b. number b ((i * m k + j) / m b)) (not_not k) ∙ ap (number k) (div-mul-add i (m k) j l)

  first_child : (k : Bool) (i j : ℕ) → j < m k → first (not k) (suc (i * m k + j)) ≡ number k i
  first_child k i j l = ap (λ b. number b ((i * m k + j) / m b)) (not_not k) ∙ ap (number k) (div-mul-add i (m k) j l)

  child_later : (k : Bool) (i j : ℕ) → number k i < number (not k) (suc (i * m k + j))
  child_later k i j = subst (λ b. number b i < number (not k) (suc (i * m k + j))) (not_not k) (number_later (not k) (i * m k + j) i (deeper k i j))

  AnEdge : ℕ → ℕ → Type 0
  AnEdge v w = ((w ≡ up v) × (w < v)) ⊎ ((v ≡ up w) × (v < w))

  edge_first : (k : Bool) (i : ℕ) → AnEdge (number k i) (first k i)
  unfolding AnEdge
  edge_first true zero = inr (refl, omega arith)
  edge_first false zero = inl (refl, omega arith)
  edge_first k (suc i) = inl (sym (up_number k (suc i)), number_later k i (i / m (not k)) (div-le_self i (m (not k))))

  edge_of : (k : Bool) (i w : ℕ) → Contains (around k i) w → AnEdge (number k i) w
  unfolding AnEdge
  edge_of k i w held = elim (around_cases k i w held) [
    | inl e ↦ subst (λ x. AnEdge (number k i) x) (sym e) (edge_first k i)
    | inr c ↦ (let (j, low, e) = c in
        subst (λ x. AnEdge (number k i) x) (sym e) (inr (sym (above_child k i j low), child_later k i j)))
  ]

  -- ---- both ends
  back_first : (k : Bool) (i : ℕ) → Contains (whole.near (first k i)) (number k i)
  back_first k zero =
      subst (λ xs. Contains xs (number k zero)) (sym (near_number (not k) zero))
      (subst (λ b. Contains (around (not k) zero) (number b zero)) (not_not k) (Contains-here (number (not (not k)) zero) (children (not k) zero (m (not k)))))
  back_first k (suc i) =
      let d : ℕ = m (not k) in
      let low : i % d < d = mod-lt i (some (not k)) in
      let e : i / d * d + i % d ≡ i = div-add-mod' i d in
      let held : Contains (children (not k) (i / d) d) (number (not (not k)) (suc (i / d * d + i % d))) = children_held (not k) (i / d) d (i % d) low in
      let there : Contains (children (not k) (i / d) d) (number k (suc i)) =
      subst (λ x. Contains (children (not k) (i / d) d) (number k (suc x))) e
      (subst (λ b. Contains (children (not k) (i / d) d) (number b (suc (i / d * d + i % d)))) (not_not k) held) in
      subst (λ xs. Contains xs (number k (suc i))) (sym (near_number (not k) (i / d)))
      (Contains-later (number k (suc i)) (first (not k) (i / d)) (children (not k) (i / d) d) there)

  back_of : (k : Bool) (i w : ℕ) → Contains (around k i) w → Contains (whole.near w) (number k i)
  back_of k i w held = elim (around_cases k i w held) [
    | inl e ↦ subst (λ x. Contains (whole.near x) (number k i)) (sym e) (back_first k i)
    | inr c ↦ (let (j, low, e) = c in
        let place : ℕ = suc (i * m k + j) in
        subst (λ x. Contains (whole.near x) (number k i)) (sym e)
        (subst (λ xs. Contains xs (number k i)) (sym (near_number (not k) place))
        (subst (λ x. Contains (around (not k) place) x) (first_child k i j low) (Contains-here (first (not k) place) (children (not k) place (m (not k)))))))
  ]

  -- ---- kinds alternate
  kind_of : (k : Bool) (i w : ℕ) → Contains (around k i) w → kind w ≡ not k
  kind_of k i w held = elim (around_cases k i w held) [
    | inl e ↦ ap kind e ∙ at i
    | inr c ↦ (let (j, low, e) = c in ap kind e ∙ kind_number (not k) (suc (i * m k + j)))
  ]
    where
      at : (i : ℕ) → kind (first k i) ≡ not k
      at zero = kind_number (not k) zero
      at (suc i) = kind_number (not k) (i / m (not k))

  -- ---- neighbours differ
  first_low : (k : Bool) (i : ℕ) → first k i ≤ number (not k) i
  first_low k zero = omega arith
  first_low k (suc i) = low (not k) (i / m (not k)) (suc i) (let less = div-le_self i (m (not k)) in omega (arith, less))
    where
      low : (b : Bool) (x y : ℕ) → x ≤ y → number b x ≤ number b y
      low true x y l = omega arith
      low false x y l = omega arith

  apart_of : (k : Bool) (i : ℕ) → AreDifferent (around k i)
  apart_of k i = (
    λ held. (let (j, low, e) = children_cases k i (m k) (first k i) held in
        higher (not k) i (i * m k + j) (deeper k i j) (subst (λ x. x ≤ number (not k) i) e (first_low k i))),
    descending (m k),
  )
    where
      higher : (b : Bool) (x y : ℕ) → x ≤ y → number b (suc y) ≤ number b x → ⊥
      higher true x y l h = omega arith
      higher false x y l h = omega arith

      descending : (n : ℕ) → AreDifferent (children k i n)
      descending zero = tt
      descending (suc n) = (
        λ held. (let (j, low, e) = children_cases k i n (number (not k) (suc (i * m k + n))) held in
            let same : suc (i * m k + n) ≡ suc (i * m k + j) = number_same (not k) (suc (i * m k + n)) (suc (i * m k + j)) e in
            omega (arith, low, same)),
        descending n,
      )

  -- ---- how far the neighbours of the nodes below s go
  abbrev pub reach : ℕ → ℕ
  reach s = (m true + m false + 2) * (2 * s + 2)

  wide : (s : ℕ) → 2 * s + 2 ≤ reach s
  wide s = let more : 1 * (2 * s + 2) ≤ reach s = mul-le-mul_right (2 * s + 2) (let least : 1 ≤ m true + m false + 2 = omega arith in least) in omega (arith, more)

  pub reach_more : (s : ℕ) → s ≤ reach s
  reach_more s = let more = wide s in omega (arith, more)

  one_of : (k : Bool) → m k ≤ m true + m false + 2
  one_of true = omega arith
  one_of false = omega arith

  near_low : (k : Bool) (i w s : ℕ) → number k i < s → Contains (around k i) w → w < reach s
  near_low k i w s low held = elim (around_cases k i w held) [
    | inl e ↦ (let more = wide s in
        let most = first_low k i in
        let high : number (not k) i ≤ 2 * i + 1 = number_most (not k) i i (omega arith) in
        let least = number_least k i in
        omega (arith, e, more, most, high, least, low))
    | inr c ↦ (let (j, less, e) = c in
        let least = number_least k i in
        let high : number (not k) (suc (i * m k + j)) ≤ 2 * suc (i * m k + j) + 1 = number_most (not k) (suc (i * m k + j)) (suc (i * m k + j)) (omega arith) in
        let row : suc i * m k ≤ s * m k = mul-le-mul_right (m k) (let less' : suc i ≤ s = omega (arith, least, low) in less') in
        let rows : s * m k ≤ s * (m true + m false + 2) = mul-le-mul_left s (one_of k) in
        let one : suc i * m k ≡ i * m k + m k = omega arith in
        let all : reach s ≡ 2 * (s * (m true + m false + 2)) + 2 * (m true + m false + 2) = omega arith in
        omega (arith, e, high, row, rows, one, all, less))
  ]

  -- ---- of all nodes
  pub whole_low : (v w s : ℕ) → v < s → Contains (whole.near v) w → w < reach s
  whole_low v w s low held = near_low (kind v) (place v) w s (subst (λ x. x < s) (sym (number_of v)) low) held

  pub whole_full : (v : ℕ) → length (whole.near v) ≡ suc (m (whole.active v))
  whole_full v = length_around (kind v) (place v)

  edge : (v w : ℕ) → Contains (whole.near v) w → AnEdge v w
  edge v w held = subst (λ x. AnEdge x w) (number_of v) (edge_of (kind v) (place v) w held)

  pub up_lower : (x : ℕ) → up x ≤ x
  up_lower x = subst (λ y. up x ≤ y) (number_of x) (at (kind x) (place x))
    where
      at : (k : Bool) (i : ℕ) → up_of k i ≤ number k i
      at k zero = omega arith
      at k (suc i) = let less = number_later k i (i / m (not k)) (div-le_self i (m (not k))) in omega (arith, less)

  -- ---- the forest
  pub forest : (N : ℕ) → IsForest (suc (m true)) (suc (m false)) N (cut N whole)
  unfolding AnEdge
  forest N = record {
    degrees = λ v. (let fewer = cut_fewer N whole v in let full = whole_full v in let same = ports (whole.active v) in omega (arith, fewer, full, same));
    below = λ v w held. (let c = cut_cases N whole v w held in (c.0, c.1));
    turns = λ v w held. kind_of (kind v) (place v) w (cut_cases N whole v w held).2;
    both = λ v w held. (let c = cut_cases N whole v w held in
        cut_held N whole w v c.1 c.0 (subst (Contains (whole.near w)) (number_of v) (back_of (kind v) (place v) w c.2)));
    acyclic = ball_different (cut N whole) (λ x. x) up up_lower (λ v w held. edge v w (cut_cases N whole v w held).2)
        (λ v. cut_different N whole v (apart_of (kind v) (place v)));
  }
    where
      ports : (k : Bool) → suc (m k) ≡ (if k then suc (m true) else suc (m false))
      ports true = refl
      ports false = refl

  -- the first active node and the first passive one
  pub whole_edge : Contains (whole.near 0) 1
  whole_edge = Contains-here 1 (children true 0 (m true))

  pub whole_ups : (v w : ℕ) → Contains (whole.near v) w → ((w ≡ up v) × (w < v)) ⊎ ((v ≡ up w) × (v < w))
  unfolding AnEdge
  whole_ups v w held = edge v w held

  pub whole_both : (v w : ℕ) → Contains (whole.near v) w → Contains (whole.near w) v
  whole_both v w held = subst (Contains (whole.near w)) (number_of v) (back_of (kind v) (place v) w held)

  pub whole_turns : (v w : ℕ) → Contains (whole.near v) w → kind w ≡ not (kind v)
  whole_turns v w held = kind_of (kind v) (place v) w held

  pub whole_apart : (v : ℕ) → AreDifferent (whole.near v)
  whole_apart v = apart_of (kind v) (place v)

  -- of the neighbours of node 0, d have a place below d
  pub first_places : (d : ℕ) → d ≤ suc (m true) → length (filter (λ w. leb (suc (place w)) d) (whole.near 0)) ≡ d
  first_places zero most = none (whole.near 0)
    where
      none : (xs : List ℕ) → length (filter (λ w. leb (suc (place w)) 0) xs) ≡ 0
      none [] = refl
      none (x ∷ xs) = rw (lt-leb (suc (place x)) 0 (omega arith)) (none xs)
  first_places (suc d) most = rw (le-leb 1 (suc d) (omega arith)) (ap suc (counted (m true) (omega (arith, most))))
    where
      child : ℕ → ℕ
      child j = number false (suc (0 * m true + j))

      at_child : (j : ℕ) → place (child j) ≡ suc j
      at_child j = place_number false (suc (0 * m true + j)) ∙ omega arith

      few : (n : ℕ) → n ≤ d → length (filter (λ w. leb (suc (place w)) (suc d)) (children true 0 n)) ≡ n
      few zero l = refl
      few (suc n) l =
          rw (le-leb (suc (place (child n))) (suc d) (let e = at_child n in omega (arith, e, l))) (ap suc (few n (omega (arith, l))))

      counted : (n : ℕ) → d ≤ n → length (filter (λ w. leb (suc (place w)) (suc d)) (children true 0 n)) ≡ d
      counted zero l = omega (arith, l)
      counted (suc n) l = elim (cases_lt n d) [
        | inl low ↦ (let e : suc n ≡ d = omega (arith, l, low) in few (suc n) (omega (arith, e)) ∙ e)
        | inr high ↦ rw (lt-leb (suc (place (child n))) (suc d) (let e = at_child n in omega (arith, e, high))) (counted n high)
      ]
