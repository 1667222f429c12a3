-- After enough edges each large set of points holds one, so some edge has one colour; and the points are no more than a power.
use Rattle.std.proofs.Common.{◌≡◌, ℕ, zero, suc, ◌+◌, ◌*◌, ◌^◌, ◌≤◌, ◌<◌, Bool, true, false, eqb, inl, inr, refl, sym, ◌∙◌, ap, subst, arith}
use Rattle.std.specs.Prelude.{◌⊎◌}
use Rattle.std.proofs.Math.Nat.{le-mul_of_pos_right, le_of_mul-le-mul_left, le_of_mul-le-mul_right, mul-le-mul_left, mul-le-mul_right, mul_assoc, one-le-mul, one-le-pow, pow-le-pow_left, pow-lt-pow_left, pow-succ', pow-zero}
use Rattle.std.proofs.lemmas.Bool.{cases_lt, eqb-true}
use Rattle.std.proofs.lemmas.Bool.Decides.{eqb_tells}
use Rattle.std.proofs.lemmas.Nat.{mul-pow}
use Rattle.re_layers.proofs.Towers.{power_of}
use Rattle.re_local.proofs.Balls.{many_edges}
use Rattle.re_local.proofs.Counting.{all_at, average, count, count-le, count_some, one_if, total, total-const, total-le, total-swap}
use Rattle.re_local.proofs.Sets.{number_below, number_of, set, set_number}
use Rattle.re_local.proofs.Stages.{Stage, begin, full, more, over}
use Rattle.re_local.specs.Hypergraphs.{IsUncolourable, SparseLaw, hypergraph_base}

-- ---- powers
-- (c + 1)^n is at least c^n + n c^(n - 1)
bernoulli : (c n : ℕ) → c ^ n * (c + n) ≤ c * suc c ^ n
bernoulli c zero = rw (pow-zero c, pow-zero (suc c)) (omega arith)
bernoulli c (suc n) =
    let before = bernoulli c n in
    let scaled : suc c * (c ^ n * (c + n)) ≤ suc c * (c * suc c ^ n) = mul-le-mul_left (suc c) before in
    rw (pow-succ' c n, pow-succ' (suc c) n) (grow (c ^ n) (suc c ^ n) scaled)
  where
    grow : (x y : ℕ) → suc c * (x * (c + n)) ≤ suc c * (c * y) → c * x * (c + suc n) ≤ c * (suc c * y)
    grow x y scaled = omega (arith, scaled)

halved : (c : ℕ) → 1 ≤ c → 2 * c ^ suc c < suc c ^ suc c
halved c some = elim (cases_lt (2 * c ^ suc c) (suc c ^ suc c)) [
  | inl l ↦ l
  | inr l ↦ absurd (never (c ^ suc c) (suc c ^ suc c) (one-le-pow (suc c) c some) (bernoulli c (suc c)) (mul-le-mul_left c l))
]
  where
    never : (x y : ℕ) → 1 ≤ x → x * (c + suc c) ≤ c * y → c * y ≤ c * (2 * x) → ⊥
    never x y pos low high = omega (arith, pos, low, high)

-- nothing is left when each of so many steps leaves no more than this part
none_left : (left c n : ℕ) → 1 ≤ c → 1 ≤ n → left * suc c ^ (suc c * n) ≤ 2 ^ n * c ^ (suc c * n) → left ≡ 0
none_left zero c n some some' l = refl
none_left (suc left) c n some some' l =
    let lower : (2 * c ^ suc c) ^ n < (suc c ^ suc c) ^ n = pow-lt-pow_left (halved c some) (λ e. (let e' : n ≡ 0 = e in omega (arith, e', some'))) in
    let one_way : suc c ^ (suc c * n) ≡ (suc c ^ suc c) ^ n = power_of (suc c) (suc c) n in
    let other_way : 2 ^ n * c ^ (suc c * n) ≡ (2 * c ^ suc c) ^ n = ap (λ z. 2 ^ n * z) (power_of c (suc c) n) ∙ sym (mul-pow 2 (c ^ suc c) n) in
    let high : suc left * suc c ^ (suc c * n) ≤ (2 * c ^ suc c) ^ n = subst (λ z. suc left * suc c ^ (suc c * n) ≤ z) other_way l in
    let more : suc left * (suc c ^ suc c) ^ n ≤ (2 * c ^ suc c) ^ n = subst (λ z. suc left * z ≤ (2 * c ^ suc c) ^ n) one_way high in
    absurd (never ((2 * c ^ suc c) ^ n) ((suc c ^ suc c) ^ n) lower more)
  where
    never : (x y : ℕ) → x < y → suc left * y ≤ x → ⊥
    never x y l l' = omega (arith, l, l')

-- ---- the pigeonhole
-- one of the colours has so many points
many_of_one : (n m q : ℕ) (colour : ℕ → ℕ) → ((x : ℕ) → x < n → colour x < suc m) → n ≡ suc m * q → (shade : ℕ) × (q ≤ count (λ x. eqb (colour x) shade) n)
many_of_one n m q colour below is =
    let (shade, sl, high) = average (λ s. count (λ x. eqb (colour x) s) n) (suc m) (omega arith) in
    let swap : total (λ s. count (λ x. eqb (colour x) s) n) (suc m) ≡ total (λ x. count (λ s. eqb (colour x) s) (suc m)) n =
    total-swap (λ s x. one_if (eqb (colour x) s)) (suc m) n in
    let each : total (λ x. 1) n ≤ total (λ x. count (λ s. eqb (colour x) s) (suc m)) n = total-le (λ x. 1) (λ x. count (λ s. eqb (colour x) s) (suc m)) n
    (λ x l. count_some (λ s. eqb (colour x) s) (suc m) (colour x) (below x l) (self (colour x))) in
    let all = total-const 1 n in
    let enough : suc m * q ≤ suc m * count (λ x. eqb (colour x) shade) n = omega (arith, high, swap, each, all, is) in
    let some : 0 < suc m = omega arith in
    (shade, le_of_mul-le-mul_left enough some)
  where
    self : (x : ℕ) → eqb x x ≡ true
    self x = elim (eqb_tells x x) [ inl t ↦ t.0 | inr t ↦ absurd (t.1 refl) ]

-- ---- the numbers of points
-- of the sets of points at hand a new edge can be made to lie in one of this many
share : ℕ → ℕ → ℕ
share r m = (3 * suc m) ^ r

-- at most this many edges meet in a point
most_edges : ℕ → ℕ → ℕ
most_edges r m = 3 * (suc r * suc (share r m) * suc m)

-- a third of the points that a large set has
third : ℕ → ℕ → ℕ → ℕ
third r m g = suc r * suc (most_edges r m * r) ^ g

points_of : ℕ → ℕ → ℕ → ℕ
points_of r m g = 3 * suc m * third r m g

steps_of : ℕ → ℕ → ℕ → ℕ
steps_of r m g = suc (share r m) * points_of r m g

some_third : (r m g : ℕ) → 1 ≤ third r m g
unfolding third
some_third r m g =
    let some : 1 ≤ suc (most_edges r m * r) ^ g = one-le-pow g (suc (most_edges r m * r)) (omega arith) in
    grown r (suc (most_edges r m * r) ^ g) some
  where
    grown : (r x : ℕ) → 1 ≤ x → 1 ≤ suc r * x
    grown r x l = omega (arith, l)

within_third : (r m g : ℕ) → r * suc (most_edges r m * r) ^ g ≤ third r m g
unfolding third
within_third r m g = grown (suc (most_edges r m * r) ^ g)
  where
    grown : (x : ℕ) → r * x ≤ suc r * x
    grown x = omega arith

some_points : (r m g : ℕ) → 1 ≤ points_of r m g
unfolding points_of
some_points r m g = grown (third r m g) (some_third r m g)
  where
    grown : (u : ℕ) → 1 ≤ u → 1 ≤ 3 * suc m * u
    grown u l = omega (arith, l)

-- the base of the power is as large as what is needed
base_enough : (r m : ℕ) → 3 * (r + 1) * (m + 1) * suc (most_edges r m * r) ≤ hypergraph_base r m
unfolding most_edges share
base_enough r m =
    let x : ℕ = 3 * (r + 1) * (m + 1) in
    let low : 3 * suc m ≤ x = omega arith in
    let within : (3 * suc m) ^ r ≤ x ^ r = pow-le-pow_left low r in
    let wide : 2 * r + 1 ≤ x = omega arith in
    let positive : 1 ≤ x ^ r = one-le-pow r x (let l : 0 < x = omega arith in l) in
    let edges : 3 * (suc r * suc ((3 * suc m) ^ r) * suc m) ≡ x * suc ((3 * suc m) ^ r) = omega arith in
    let three : r + 3 ≡ suc (suc (suc r)) = omega arith in
    let power : x ^ (r + 3) ≡ x * (x * (x * x ^ r)) =
    ap (λ e. x ^ e) three ∙ (pow-succ' x (suc (suc r)) ∙ (ap (λ z. x * z) (pow-succ' x (suc r)) ∙ ap (λ z. x * (x * z)) (pow-succ' x r))) in
    let enough : suc (x * suc ((3 * suc m) ^ r) * r) ≤ x * (x * x ^ r) = grown x (x ^ r) ((3 * suc m) ^ r) positive within wide (omega arith) in
    rw (edges, power) (mul-le-mul_left x enough)
  where
    grown : (x y c : ℕ) → 1 ≤ y → c ≤ y → 2 * r + 1 ≤ x → 1 ≤ x → suc (x * suc c * r) ≤ x * (x * y)
    grown x y c some within wide some' =
        let twice : r * x * suc c ≤ r * x * (2 * y) = mul-le-mul_left (r * x) (let l : suc c ≤ 2 * y = omega arith in l) in
        let unit : 1 ≤ x * y = one-le-mul some' some in
        let wider : (2 * r + 1) * (x * y) ≤ x * (x * y) = mul-le-mul_right (x * y) wide in
        omega (arith, twice, unit, wider)

points_within : (r m g : ℕ) → points_of r m g ≤ hypergraph_base r m ^ (g + 1)
unfolding points_of third
points_within r m g =
    let one_power : points_of r m g ≤ (3 * (r + 1) * (m + 1) * suc (most_edges r m * r)) ^ (g + 1) =
    go (3 * suc m) (suc (most_edges r m * r)) (3 * (r + 1) * (m + 1)) (omega arith) (omega arith) (omega arith) in
    let more = pow-le-pow_left (base_enough r m) (g + 1) in
    omega (arith, one_power, more)
  where
    turned : (a b x y : ℕ) → a * b * (x * y) ≡ a * y * (b * x)
    turned a b x y = omega arith

    go : (k b a : ℕ) → 1 ≤ k → 1 ≤ b → k * suc r ≡ a → k * (suc r * b ^ g) ≤ (a * b) ^ (g + 1)
    go k b a some some' is =
        let regroup : k * (suc r * b ^ g) ≡ a * b ^ g = sym (mul_assoc k (suc r) (b ^ g)) ∙ ap (λ z. z * b ^ g) is in
        let one_more : g + 1 ≡ suc g = omega arith in
        let power : (a * b) ^ (g + 1) ≡ a * b ^ g * (b * a ^ g) =
        ap (λ e. (a * b) ^ e) one_more ∙ (pow-succ' (a * b) g ∙ (ap (λ z. a * b * z) (mul-pow a b g) ∙ turned a b (a ^ g) (b ^ g))) in
        let positive : 1 ≤ a = subst (λ z. 1 ≤ z) is (let l : k * 1 ≤ k * suc r = mul-le-mul_left k (omega arith) in omega (arith, l, some)) in
        let more : 1 ≤ b * a ^ g = one-le-mul some' (one-le-pow g a positive) in
        rw (regroup, power) (le-mul_of_pos_right (a * b ^ g) more)

shares : (r m : ℕ) → 1 ≤ share r m
unfolding share
shares r m = one-le-pow r (3 * suc m) (omega arith)

-- few points are full
few_full : (r n u m c D t f : ℕ) → D ≡ 3 * (suc r * suc c * suc m) → n ≡ 3 * suc m * u → t < suc c * n → f * D ≤ t * r → f ≤ u
few_full r n u m c D t f is n_is early few =
    let steps : t * r ≤ suc c * n * r = mul-le-mul_right r (let l : t ≤ suc c * n = omega (arith, early) in l) in
    let points : suc c * n * r ≡ suc c * (3 * suc m * u) * r = ap (λ z. suc c * z * r) n_is in
    let less : f * (3 * (suc r * suc c * suc m)) ≤ t * r = subst (λ d. f * d ≤ t * r) is few in
    let enough : suc c * (3 * suc m * u) * r ≤ u * (3 * (suc r * suc c * suc m)) = omega arith in
    le_of_mul-le-mul_right (let l : f * (3 * (suc r * suc c * suc m)) ≤ u * (3 * (suc r * suc c * suc m)) = omega (arith, less, steps, points, enough) in l)
    (let some : 0 < 3 * (suc r * suc c * suc m) = omega arith in some)

module _ (r m g : ℕ) where
  abbrev At : ℕ → Type 0
  At t = Stage r g (points_of r m g) (3 * third r m g) (share r m) (most_edges r m) t

  -- how many points are full
  abbrev full_points : {t : ℕ} → At t → ℕ
  full_points now = count (full r (most_edges r m) now.hyper) (points_of r m g)

  few_are_full : {t : ℕ} (now : At t) → t < steps_of r m g → full_points now ≤ third r m g
  unfolding steps_of points_of most_edges share
  few_are_full {t} now early =
      let many = many_edges r (points_of r m g) (most_edges r m) now.hyper in
      let low : now.hyper.edges * r ≤ t * r = mul-le-mul_right r now.up_to in
      few_full r (points_of r m g) (third r m g) m (share r m) (most_edges r m) t (full_points now) refl refl early (omega (arith, many, low))

  next : (t : ℕ) → t < steps_of r m g → At t → At (suc t)
  unfolding points_of share
  next t early now = elim (empty_or (count now.alive (2 ^ points_of r m g))) [
    | inl none ↦ over r g (points_of r m g) (3 * third r m g) (share r m) (most_edges r m) t now none
    | inr some ↦
        (let few = few_are_full now early in
        let near = within_third r m g in
        more r g (points_of r m g) (3 * third r m g) (share r m) (most_edges r m) (third r m g) (3 * suc m) (some_third r m g) (some_points r m g)
        (omega arith) refl t now some (omega (arith, few, near)))
  ]
    where
      empty_or : (k : ℕ) → (k ≡ 0) ⊎ (1 ≤ k)
      empty_or zero = inl refl
      empty_or (suc k) = inr (omega arith)

  at_last : (t : ℕ) → t ≤ steps_of r m g → At t
  at_last zero l = begin r g (points_of r m g) (3 * third r m g) (share r m) (most_edges r m)
  at_last (suc t) l = next t l (at_last t (omega (arith, l)))

  uncolourable : (last : At (steps_of r m g)) → IsUncolourable r (points_of r m g) m last.hyper
  unfolding steps_of points_of
  uncolourable last colour below =
      let n : ℕ = points_of r m g in
      let none : count last.alive (2 ^ n) ≡ 0 = none_left (count last.alive (2 ^ n)) (share r m) n (shares r m) (some_points r m g) last.left in
      let (shade, many) = many_of_one n m (3 * third r m g) colour (λ x l. (let low = below x l in omega (arith, low))) (omega arith) in
      of_shade none shade many
    where
      shaded : ℕ → ℕ → Bool
      shaded shade x = eqb (colour x) shade

      of_shade : count last.alive (2 ^ points_of r m g) ≡ 0 → (shade : ℕ)
          → 3 * third r m g ≤ count (λ x. eqb (colour x) shade) (points_of r m g)
          → (edge : ℕ) × (shade : ℕ) × (edge < last.hyper.edges) × ((place : ℕ) → place < r → colour (last.hyper.at edge place) ≡ shade)
      of_shade none shade many =
          let n : ℕ = points_of r m g in
          let i : ℕ = number_of (shaded shade) n in
          let same : (x : ℕ) → x < n → set i x ≡ eqb (colour x) shade = set_number (shaded shade) n in
          let as_many : count (shaded shade) n ≤ count (set i) n = count-le (shaded shade) (set i) n (λ x l e. same x l ∙ e) in
          let (e, el, inside) = last.hit i (omega (arith, many, as_many)) (dead i (number_below (shaded shade) n) (last.alive i) refl) in (
            e,
            shade,
            el,
            λ p pl. eqb-true (colour (last.hyper.at e p)) shade
                (sym (same (last.hyper.at e p) (last.is_hyper.below e p el pl)) ∙ all_at (λ p. set i (last.hyper.at e p)) r p pl inside),
          )
        where
          dead : (i : ℕ) → i < 2 ^ points_of r m g → (b : Bool) → last.alive i ≡ b → last.alive i ≡ false
          dead i l false e = e
          dead i l true e = absurd (let some = count_some last.alive (2 ^ points_of r m g) i l e in omega (arith, some, none))

pub sparse_hyper : SparseLaw
sparse_hyper r m g =
    let last = at_last r m g (steps_of r m g) (omega arith) in
    (points_of r m g, last.hyper, points_within r m g, last.is_hyper, last.sparse, uncolourable r m g last)
