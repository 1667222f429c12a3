-- What lies within so many steps of a point, and how much that is where few edges meet.
use Rattle.std.proofs.Common.{◌≡◌, ℕ, zero, suc, ◌+◌, ◌*◌, ◌^◌, ◌≤◌, ◌<◌, Bool, true, false, cond, eqb, leb, ◌&&◌, ◌||◌, inl, inr, sym, subst, arith}
use Rattle.std.proofs.Math.Nat.{mul-le-mul_right, mul_assoc, one-le-pow, pow-succ', pow-zero}
use Rattle.std.proofs.lemmas.Bool.{and_from, or_left, or_right}
use Rattle.std.proofs.lemmas.Bool.Decides.{eqb_tells}
use Rattle.re_layers.proofs.Claims.{any_true}
use Rattle.re_layers.proofs.Peeling.{any_below}
use Rattle.re_labels.proofs.Tests.{eqb-same}
use Rattle.re_local.proofs.Counting.{count, count-any, count-or, count_large, count_one, one_if, total, total-const, total-le, total-swap, total_within}
use Rattle.re_local.specs.Hypergraphs.{Hyper, On, Walk, one, step}

-- a point stands at one of the first r places
abbrev pub stands : ℕ → (ℕ → ℕ) → ℕ → Bool
stands r points x = any_below (λ p. eqb (points p) x) r

-- how many edges hold the point
abbrev pub edges_at : ℕ → Hyper ℕ → ℕ → ℕ
edges_at r hyper x = count (λ e. stands r (hyper.at e) x) hyper.edges

-- the second point is within k steps of the first one: it is that one, or an edge leads to one within k - 1 steps of it
abbrev pub ball : ℕ → Hyper ℕ → ℕ → ℕ → ℕ → Bool
ball r hyper zero x y = eqb x y
ball r hyper (suc k) x y = eqb x y || any_below (λ e. stands r (hyper.at e) x && any_below (λ p. ball r hyper k (hyper.at e p) y) r) hyper.edges

pub stands_at : (r : ℕ) (points : ℕ → ℕ) (x p : ℕ) → p < r → points p ≡ x → stands r points x ≡ true
stands_at r points x p l e = any_true (λ p. eqb (points p) x) r p l (elim (eqb_tells (points p) x) [ inl t ↦ t.0 | inr t ↦ absurd (t.1 e) ])

-- ---- few points stand on one edge, so few points have many edges
stands_few : (r n : ℕ) (points : ℕ → ℕ) → count (stands r points) n ≤ r
stands_few r n points =
    let union = count-any (λ p y. eqb (points p) y) r n in
    let ones : total (λ p. count (λ y. eqb (points p) y) n) r ≤ total (λ p. 1) r =
    total-le (λ p. count (λ y. eqb (points p) y) n) (λ p. 1) r (λ p l. count_one (points p) n) in
    let all = total-const 1 r in
    omega (arith, union, ones, all)

pub many_edges : (r n D : ℕ) (hyper : Hyper ℕ) → count (λ x. leb D (edges_at r hyper x)) n * D ≤ hyper.edges * r
many_edges r n D hyper =
    let large = count_large (edges_at r hyper) D n in
    let swap : total (edges_at r hyper) n ≡ total (λ e. count (stands r (hyper.at e)) n) hyper.edges =
    total-swap (λ x e. one_if (stands r (hyper.at e) x)) n hyper.edges in
    let few : total (λ e. count (stands r (hyper.at e)) n) hyper.edges ≤ total (λ e. r) hyper.edges =
    total-le (λ e. count (stands r (hyper.at e)) n) (λ e. r) hyper.edges (λ e l. stands_few r n (hyper.at e)) in
    let all = total-const r hyper.edges in
    omega (arith, large, swap, few, all)

-- ---- few points are within k steps
module _ (r n D : ℕ) (hyper : Hyper ℕ) (few : (x : ℕ) → edges_at r hyper x ≤ D) where
  -- the second point is within k steps of one on the edge
  abbrev behind : ℕ → ℕ → ℕ → Bool
  behind k e y = any_below (λ p. ball r hyper k (hyper.at e p) y) r

  behind_small : (k e b : ℕ) → ((z : ℕ) → count (ball r hyper k z) n ≤ b) → count (behind k e) n ≤ r * b
  behind_small k e b small =
      let union = count-any (λ p. ball r hyper k (hyper.at e p)) r n in
      let each : total (λ p. count (ball r hyper k (hyper.at e p)) n) r ≤ total (λ p. b) r =
      total-le (λ p. count (ball r hyper k (hyper.at e p)) n) (λ p. b) r (λ p l. small (hyper.at e p)) in
      let all = total-const b r in
      omega (arith, union, each, all)

  -- what an edge at x leads to
  led_small : (k x b : ℕ) → ((z : ℕ) → count (ball r hyper k z) n ≤ b)
      → count (λ y. any_below (λ e. stands r (hyper.at e) x && behind k e y) hyper.edges) n ≤ D * r * b
  led_small k x b small =
      let union = count-any (λ e y. stands r (hyper.at e) x && behind k e y) hyper.edges n in
      let each : total (λ e. count (λ y. stands r (hyper.at e) x && behind k e y) n) hyper.edges ≤ edges_at r hyper x * (r * b) =
      total_within (λ e. stands r (hyper.at e) x) (λ e. count (λ y. stands r (hyper.at e) x && behind k e y) n) (r * b) hyper.edges
      (λ e l. within (stands r (hyper.at e) x) e) in
      let less : edges_at r hyper x * (r * b) ≤ D * (r * b) = mul-le-mul_right (r * b) (few x) in
      let regroup : D * (r * b) ≡ D * r * b = sym (mul_assoc D r b) in
      omega (arith, union, each, less, regroup)
    where
      within : (t : Bool) (e : ℕ) → count (λ y. t && behind k e y) n ≤ cond t 1 0 * (r * b)
      within false e = let none = total-const 0 n in omega (arith, none)
      within true e = let all = behind_small k e b small in omega (arith, all)

  pub ball_small : (k x : ℕ) → count (ball r hyper k x) n ≤ suc (D * r) ^ k
  ball_small zero x = rw (pow-zero (suc (D * r))) (count_one x n)
  ball_small (suc k) x =
      let parts = count-or (λ y. eqb x y) (λ y. any_below (λ e. stands r (hyper.at e) x && behind k e y) hyper.edges) n in
      let self = count_one x n in
      let others = led_small k x (suc (D * r) ^ k) (λ z. ball_small k z) in
      let some : 1 ≤ suc (D * r) ^ k = one-le-pow k (suc (D * r)) (omega arith) in
      rw (pow-succ' (suc (D * r)) k) (omega (arith, parts, self, others, some))

-- ---- steps
-- the second point is within k steps of the first one: each step goes along an edge
pub data Near (r : ℕ) (hyper : Hyper ℕ) : ℕ → ℕ → ℕ → Type 0 where
  stay : {k x : ℕ} → Near r hyper k x x
  move : {k e x y z : ℕ} → On r hyper e x → On r hyper e y → Near r hyper k y z → Near r hyper (suc k) x z

-- an edge at x leads to what is within k steps of a point on it
led : (r : ℕ) (hyper : Hyper ℕ) (k e x y z : ℕ) → On r hyper e x → On r hyper e y → ball r hyper k y z ≡ true → ball r hyper (suc k) x z ≡ true
led r hyper k e x y z on off holds =
    let at_point : ball r hyper k (hyper.at e off.1) z ≡ true = subst (λ y. ball r hyper k y z ≡ true) (sym off.3) holds in
    let at_edge : any_below (λ p. ball r hyper k (hyper.at e p) z) r ≡ true = any_true (λ p. ball r hyper k (hyper.at e p) z) r off.1 off.2 at_point in
    let here = stands_at r (hyper.at e) x on.1 on.2 on.3 in
    or_right (eqb x z) (any_below (λ e. stands r (hyper.at e) x && any_below (λ p. ball r hyper k (hyper.at e p) z) r) hyper.edges)
    (any_true (λ e. stands r (hyper.at e) x && any_below (λ p. ball r hyper k (hyper.at e p) z) r) hyper.edges e on.0
    (and_from (stands r (hyper.at e) x) (any_below (λ p. ball r hyper k (hyper.at e p) z) r) here at_edge))

module _ {r : ℕ} {hyper : Hyper ℕ} where
  -- the ball holds what is near
  pub ball_holds : {k x y : ℕ} → Near r hyper k x y → ball r hyper k x y ≡ true
  ball_holds (stay {k} {x}) = self k x
    where
      self : (k x : ℕ) → ball r hyper k x x ≡ true
      self zero x = eqb-same x
      self (suc k) x = or_left (eqb x x)
          (any_below (λ e. stands r (hyper.at e) x && any_below (λ p. ball r hyper k (hyper.at e p) x) r) hyper.edges) (eqb-same x)
  ball_holds (move {k} {e} {x} {y} {z} on off near) = led r hyper k e x y z on off (ball_holds near)

  pub near_more : {k j x y : ℕ} → Near r hyper k x y → k ≤ j → Near r hyper j x y
  near_more stay l = stay
  near_more {j = j} (move on off near) l = further j on off (λ i low. near_more {j = i} near low) l
    where
      further : {k e x y z : ℕ} (j : ℕ) → On r hyper e x → On r hyper e y
          → ((i : ℕ) → k ≤ i → Near r hyper i y z) → suc k ≤ j → Near r hyper j x z
      further zero on off near l = absurd (omega arith)
      further (suc j) on off near l = move on off (near j (omega arith))

  pub near_joined : {k j x y z : ℕ} → Near r hyper k x y → Near r hyper j y z → Near r hyper (k + j) x z
  near_joined {k} {j} stay rest = near_more rest (omega arith)
  near_joined {j = j} {z = z} (move {k} {x = x} on off near) rest = subst (λ i. Near r hyper i x z) (omega arith) (move on off (near_joined near rest))

  pub near_turned : {k x y : ℕ} → Near r hyper k x y → Near r hyper k y x
  near_turned stay = stay
  near_turned (move {k} {x = x} {z = z} on off near) =
      subst (λ i. Near r hyper i z x) (omega arith) (near_joined (near_turned near) (move {k = 0} off on stay))

  pub near_walk : {k e f x y : ℕ} → Walk r hyper k e f x y → Near r hyper k x y
  near_walk (one on off apart) = move on off stay
  near_walk (step on off apart other walk) = move on off (near_walk walk)
