-- Points far from one another are chosen one after another, so that many of the sets at hand hold them all.
use Rattle.std.proofs.Common.{◌≡◌, ℕ, zero, suc, ◌+◌, ◌*◌, ◌^◌, ◌≤◌, ◌<◌, Bool, true, false, cond, ◌&&◌, ◌||◌, not, refl, sym, ap, arith}
use Rattle.std.proofs.Math.Nat.{le_of_mul-le-mul_right, mul-le-mul_left, mul-le-mul_right, mul_assoc, pow-succ', pow-zero}
use Rattle.std.proofs.lemmas.Bool.{and_parts, or_parts}
use Rattle.re_local.proofs.Counting.{
  all_below,
  average,
  count,
  count-le,
  count-or,
  count-split,
  count_none,
  one_if,
  total,
  total-swap,
  total_beyond,
}

-- the set holds the first r points
abbrev pub holds : ℕ → (ℕ → ℕ) → (ℕ → Bool) → Bool
holds r points s = all_below (λ p. s (points p)) r

-- what was forbidden, and what is near the point
abbrev forbidding : (ℕ → ℕ → Bool) → (ℕ → Bool) → ℕ → ℕ → Bool
forbidding near forbidden x y = forbidden y || near x y

-- points below n: none is forbidden, nor near one before it
abbrev pub IsSpread : ℕ → (ℕ → ℕ → Bool) → ℕ → (ℕ → Bool) → (ℕ → ℕ) → Type 0
IsSpread n near zero forbidden points = Unit {0}
IsSpread n near (suc r) forbidden points =
    (points 0 < n) × (forbidden (points 0) ≡ false) × IsSpread n near r (forbidding near forbidden (points 0)) (λ p. points (suc p))

-- a point, and behind it the others
abbrev first_then : ℕ → (ℕ → ℕ) → ℕ → ℕ
first_then x points zero = x
first_then x points (suc p) = points p

-- n points, and sets of points, of which those below M are counted
module _ (n M : ℕ) (set : ℕ → ℕ → Bool) where
  -- ---- one point
  -- the set is live and holds the point
  abbrev holding : (ℕ → Bool) → ℕ → ℕ → Bool
  holding live x i = live i && set i x

  -- and the point isn't forbidden
  abbrev offering : (ℕ → Bool) → (ℕ → Bool) → ℕ → ℕ → Bool
  offering live forbidden x i = live i && (set i x && not (forbidden x))

  -- a point that isn't forbidden and lies in one of K live sets
  record Picked (K : ℕ) (live forbidden : ℕ → Bool) : Type 0 where
    point : ℕ
    below : point < n
    free : forbidden point ≡ false
    many : count live M ≤ K * count (holding live point) M

  -- where each live set has p points that aren't forbidden
  pick : (p K : ℕ) (live forbidden : ℕ → Bool) → ((i : ℕ) → live i ≡ true → p ≤ count (λ x. set i x && not (forbidden x)) n)
      → 1 ≤ p → 1 ≤ n → n ≤ K * p → 1 ≤ count live M → Picked K live forbidden
  pick p K live forbidden rich some some' small alive =
      let (x, xl, high) = average (λ x. count (offering live forbidden x) M) n some' in
      let many : count live M * p ≤ total (λ i. count (λ x. offering live forbidden x i) n) M =
      total_beyond live (λ i. count (λ x. offering live forbidden x i) n) p M (λ i l. in_set i (live i) refl) in
      let swap : total (λ i. count (λ x. offering live forbidden x i) n) M ≡ total (λ x. count (offering live forbidden x) M) n =
      total-swap (λ i x. one_if (offering live forbidden x i)) M n in
      found x xl (omega (arith, many, swap, high))
    where
      in_set : (i : ℕ) (t : Bool) → live i ≡ t → cond t 1 0 * p ≤ count (λ x. t && (set i x && not (forbidden x))) n
      in_set i false e = omega arith
      in_set i true e = let low = rich i e in omega (arith, low)

      found : (x : ℕ) → x < n → count live M * p ≤ n * count (offering live forbidden x) M → Picked K live forbidden
      found x xl high =
          let w : ℕ = count (offering live forbidden x) M in
          let scaled : n * w ≤ K * p * w = mul-le-mul_right w small in
          let regroup : K * p * w ≡ K * w * p = omega arith in
          let high' : count live M * p ≤ K * w * p = omega (arith, high, scaled, regroup) in
          let enough : count live M ≤ K * w = le_of_mul-le-mul_right high' some in
          let less : w ≤ count (holding live x) M =
          count-le (offering live forbidden x) (holding live x) M (λ i l e. held (live i) (set i x) (not (forbidden x)) e) in
          record {
            point = x;
            below = xl;
            free = allowed (forbidden x) refl enough;
            many = (let more = mul-le-mul_left K less in omega (arith, enough, more));
          }
        where
          held : (a b c : Bool) → (a && (b && c)) ≡ true → (a && b) ≡ true
          held true true c e = refl
          held true false c e = e
          held false b c e = e

          never : (a b : Bool) → (a && (b && false)) ≡ false
          never true true = refl
          never true false = refl
          never false b = refl

          allowed : (t : Bool) → forbidden x ≡ t → count live M ≤ K * count (λ i. live i && (set i x && not t)) M → t ≡ false
          allowed false e enough = refl
          allowed true e enough =
              let none : count (λ i. live i && (set i x && false)) M ≡ 0 =
              count_none (λ i. live i && (set i x && false)) M (λ i l. never (live i) (set i x)) in
              absurd (omega (arith, enough, ap (λ z. K * z) none, alive))

  -- ---- r points
  -- the set is live and holds the points
  abbrev pub holding_all : (ℕ → Bool) → ℕ → (ℕ → ℕ) → ℕ → Bool
  holding_all live r points i = live i && holds r points (set i)

  -- points that are spread, all of which lie in one of K ^ r live sets
  pub record Chosen (near : ℕ → ℕ → Bool) (K r : ℕ) (live forbidden : ℕ → Bool) : Type 0 where
    pub points : ℕ → ℕ
    pub spread : IsSpread n near r forbidden points
    pub many : count live M ≤ K ^ r * count (holding_all live r points) M

  -- where each live set has q points, and few are forbidden or near a point
  pub choose : (near : ℕ → ℕ → Bool) (B p q K : ℕ) → ((x : ℕ) → count (near x) n ≤ B) → 1 ≤ p → 1 ≤ n → n ≤ K * p
      → (r : ℕ) (live forbidden : ℕ → Bool) → ((i : ℕ) → live i ≡ true → q ≤ count (set i) n) → 1 ≤ count live M
      → count forbidden n + r * B + p ≤ q → Chosen near K r live forbidden
  choose near B p q K close some some' small zero live forbidden large alive room = record {
    points = λ p. 0;
    spread = tt;
    many = rw (pow-zero K) (let less = count-le live (λ i. live i && true) M (λ i l e. same (live i) e) in omega (arith, less));
  }
    where
      same : (a : Bool) → a ≡ true → (a && true) ≡ true
      same true e = refl
      same false e = e
  choose near B p q K close some some' small (suc r) live forbidden large alive room =
      next (pick p K live forbidden rich some some' small alive) (choose near B p q K close some some' small r)
    where
      rich : (i : ℕ) → live i ≡ true → p ≤ count (λ x. set i x && not (forbidden x)) n
      rich i e =
          let low = large i e in
          let split = count-split (set i) forbidden n in
          let few = count-le (λ x. set i x && forbidden x) forbidden n (λ x l e. (and_parts (set i x) (forbidden x) e).1) in
          omega (arith, low, split, few, room)

      next : Picked K live forbidden
          → ((live forbidden : ℕ → Bool) → ((i : ℕ) → live i ≡ true → q ≤ count (set i) n) → 1 ≤ count live M
          → count forbidden n + r * B + p ≤ q → Chosen near K r live forbidden)
          → Chosen near K (suc r) live forbidden
      next picked further =
          let union = count-or forbidden (near x) n in
          let near_few = close x in
          with_rest (further (holding live x) (forbidding near forbidden x) (λ i e. large i (and_parts (live i) (set i x) e).0)
          (positive (count (holding live x) M) picked.many) (omega (arith, union, near_few, room)))
        where
          x : ℕ
          x = picked.point

          positive : (w : ℕ) → count live M ≤ K * w → 1 ≤ w
          positive zero l = absurd (omega (arith, l, alive))
          positive (suc w) l = omega arith

          grouped : (a b c : Bool) → (a && b && c) ≡ true → (a && (b && c)) ≡ true
          grouped true b c e = e
          grouped false b c e = e

          with_rest : Chosen near K r (holding live x) (forbidding near forbidden x) → Chosen near K (suc r) live forbidden
          with_rest rest = record {
            points = first_then x rest.points;
            spread = (picked.below, picked.free, rest.spread);
            many =
                let w : ℕ = count (holding_all live (suc r) (first_then x rest.points)) M in
                let less : count (holding_all (holding live x) r rest.points) M ≤ w =
                count-le (holding_all (holding live x) r rest.points) (holding_all live (suc r) (first_then x rest.points)) M
                (λ i l e. grouped (live i) (set i x) (holds r rest.points (set i)) e) in
                let all = mul-le-mul_left (K ^ r) less in
                let rest_many = rest.many in
                let within : count (holding live x) M ≤ K ^ r * w = omega (arith, rest_many, all) in
                let scaled = mul-le-mul_left K within in
                let regroup : K * (K ^ r * w) ≡ K * K ^ r * w = sym (mul_assoc K (K ^ r) w) in
                let first_many = picked.many in
                rw (pow-succ' K r) (omega (arith, first_many, scaled, regroup));
          }

-- ---- what is spread
module _ (n : ℕ) (near : ℕ → ℕ → Bool) where
  pub spread_below : (r : ℕ) (forbidden : ℕ → Bool) (points : ℕ → ℕ) → IsSpread n near r forbidden points → (p : ℕ) → p < r → points p < n
  spread_below zero forbidden points spread p l = absurd (omega arith)
  spread_below (suc r) forbidden points spread zero l = spread.0
  spread_below (suc r) forbidden points spread (suc p) l =
      spread_below r (forbidding near forbidden (points 0)) (λ p. points (suc p)) spread.2 p (omega arith)

  pub spread_free : (r : ℕ) (forbidden : ℕ → Bool) (points : ℕ → ℕ) → IsSpread n near r forbidden points → (p : ℕ) → p < r
      → forbidden (points p) ≡ false
  spread_free zero forbidden points spread p l = absurd (omega arith)
  spread_free (suc r) forbidden points spread zero l = spread.1
  spread_free (suc r) forbidden points spread (suc p) l = (or_parts (forbidden (points (suc p))) (near (points 0) (points (suc p)))
      (spread_free r (forbidding near forbidden (points 0)) (λ p. points (suc p)) spread.2 p (omega arith))).0

  pub spread_far : (r : ℕ) (forbidden : ℕ → Bool) (points : ℕ → ℕ) → IsSpread n near r forbidden points → (p q : ℕ) → p < q → q < r
      → near (points p) (points q) ≡ false
  spread_far zero forbidden points spread p q l l' = absurd (omega arith)
  spread_far (suc r) forbidden points spread p zero l l' = absurd (omega arith)
  spread_far (suc r) forbidden points spread zero (suc q) l l' = (or_parts (forbidden (points (suc q))) (near (points 0) (points (suc q)))
      (spread_free r (forbidding near forbidden (points 0)) (λ p. points (suc p)) spread.2 q (omega arith))).1
  spread_far (suc r) forbidden points spread (suc p) (suc q) l l' =
      spread_far r (forbidding near forbidden (points 0)) (λ p. points (suc p)) spread.2 p q (omega arith) (omega arith)
