-- Few colours that differ within what an algorithm sees are found in the order of log* N rounds, and then it runs on any number of nodes.
use Rattle.std.proofs.Common.{◌≡◌, ℕ, zero, suc, ◌+◌, ◌*◌, ◌^◌, ◌≤◌, List, map, sym, ap, ◌∙◌, subst, arith}
use Rattle.std.specs.Prelude.{Contains}
use Rattle.std.proofs.Math.Nat.{mul-le-mul_right, pow-le-pow_right, pow-succ'}
use Rattle.re_forests.specs.OnForests.{SolvableOnForests}
use Rattle.re_forests.specs.Classes.{IsBelowLogStarOnForests}
use Rattle.re_gap.proofs.Coloured.{far, put, put_same, run, run_solves}
use Rattle.re_gap.proofs.Renamed.{IsSeenIn}
use Rattle.re_gap.proofs.Trees.{tree_of_forest}
use Rattle.re_layers.proofs.Balls.{ball_near, ball_own, ball_size}
use Rattle.re_layers.proofs.Locality.{local_most, same_ball, same_fewer}
use Rattle.re_labels.proofs.Membership.{map-alike}
use Rattle.re_layers.proofs.Recolouring.{coloured_fewer, reduced, reduced_local}
use Rattle.re_layers.specs.Laws.{FarColoursLaw}
use Rattle.re_layers.specs.Layers.{IsColoured}
use Rattle.re_layers.specs.Networks.{IsForest, IsLocal, Network, ball}
use Rattle.re_layers.specs.Towers.{tower}
use Rattle.re_layers.proofs.Towers.{power_of}
use Rattle.re_problem.specs.Problems.{IsProblem, Problem}
use Rattle.re_layers.proofs.FarColours.{more_colours}

-- ---- the run is local
seen_here : (G H : Network) (colour tint : ℕ → ℕ) (part whole : List ℕ) → part ≡ whole
    → ((x : ℕ) → Contains part x → (G.active x ≡ H.active x) × (G.near x ≡ H.near x) × (colour x ≡ tint x))
    → IsSeenIn G colour part H tint whole
seen_here G H colour tint part whole same each = record {
  nodes = λ x at is. (x, subst (λ l. Contains l x) same at, sym (each x at).2, sym (each x at).0 ∙ is);
  edges = λ x y at there on. (
    x,
    y,
    subst (λ l. Contains l x) same at,
    subst (λ l. Contains l y) same there,
    subst (λ near. Contains near y) (each x at).1 on,
    sym (each x at).2,
    sym (each y there).2,
  );
}

run_local : (N T r : ℕ) (algorithm : Network → ℕ → List ℕ) (colour : Network → ℕ → ℕ) → IsLocal T algorithm → IsLocal r colour
    → IsLocal (suc (suc T) + suc r) (λ G v. run N T algorithm G (colour G) v)
run_local N T r algorithm colour local tinted G H v same =
    let (balls, each) = same_ball G H (suc (suc T)) (suc r) v same in
    let own : (x : ℕ) → Contains (ball G (suc (suc T)) v) x → colour G x ≡ colour H x =
    λ x at. tinted G H x (same_fewer G H r (suc r) x (omega arith) (each x at)) in
    let all : (x : ℕ) → Contains (ball G (suc (suc T)) v) x → (G.active x ≡ H.active x) × (G.near x ≡ H.near x)
    × (colour G x ≡ colour H x) =
    λ x at. ((each x at).0, (each x at).1, own x at) in
    let there : IsSeenIn G (colour G) (ball G (suc (suc T)) v) H (colour H) (ball H (suc (suc T)) v) =
    seen_here G H (colour G) (colour H) (ball G (suc (suc T)) v) (ball H (suc (suc T)) v) balls all in
    let back : IsSeenIn H (colour H) (ball H (suc (suc T)) v) G (colour G) (ball G (suc (suc T)) v) =
    seen_here H G (colour H) (colour G) (ball H (suc (suc T)) v) (ball G (suc (suc T)) v) (sym balls)
    (λ x at. (let e = all x (subst (λ l. Contains l x) (sym balls) at) in (sym e.0, sym e.1, sym e.2))) in
    map-alike (put N T algorithm G (colour G) v) (put N T algorithm H (colour H) v) (G.near v)
    (λ w on. put_same N T algorithm local G H (colour G) (colour H) v w v w there back (own v (ball_own G (suc (suc T)) v))
    (own w (ball_near G (suc T) v w on)))
    ∙ ap (map (put N T algorithm H (colour H) v)) (each v (ball_own G (suc (suc T)) v)).1

-- ---- so few colours
fewest_colours : FarColoursLaw → (a p d : ℕ) → (K : ℕ) × ((h N : ℕ) → N ≤ tower h →
    (colour : Network → ℕ → ℕ) × IsLocal (d * h + K) colour
    × ((G : Network) → IsForest a p N G → IsColoured d (suc (ball_size (a + p) d)) G (colour G)))
fewest_colours far_colours a p d =
    let (C, K, found) = far_colours a p d in (
      C * d + K,
      λ h N enough. (let (colour, local, coloured) = found h N enough in (
        reduced d (ball_size (a + p) d) (λ v. 0) C colour,
        local_most (C * d + (d * h + K)) (d * h + (C * d + K)) (reduced d (ball_size (a + p) d) (λ v. 0) C colour) (omega arith)
            (reduced_local d (ball_size (a + p) d) (λ v. 0) C (d * h + K) colour local),
        λ G forest.
            coloured_fewer d C colour G forest
            (more_colours d C (suc (ball_size (a + p) d) + C) G (colour G) (omega arith) (coloured G forest)),
      )),
    )

-- ---- how many there are
size_most : (m k : ℕ) → m ≤ 12 → suc (ball_size m (suc k)) ≤ 14 ^ suc k
size_most m zero few = rw (pow-succ' 14 0) (omega arith)
size_most m (suc k) few =
    let rest : suc (ball_size m (suc k)) ≤ 14 ^ suc k = size_most m k few in
    let product : m * ball_size m (suc k) ≤ 12 * ball_size m (suc k) = mul-le-mul_right (ball_size m (suc k)) few in
    let power : 14 ^ suc (suc k) ≡ 14 * 14 ^ suc k = pow-succ' 14 (suc k) in
    omega (arith, rest, product, power)

pub enough : (m T N : ℕ) → m ≤ 12 → (14 ^ 4) ^ (T + 1) ≤ N → suc (ball_size m (far T)) ≤ N
enough m T N few room =
    let same : far T ≡ suc (2 * T + 3) = omega arith in
    let most : suc (ball_size m (far T)) ≤ 14 ^ far T = subst (λ k. suc (ball_size m k) ≤ 14 ^ k) (sym same)
    (size_most m (2 * T + 3) few) in
    let more : 14 ^ far T ≤ 14 ^ (4 * (T + 1)) = pow-le-pow_right (omega arith) (omega arith) in
    let e : 14 ^ (4 * (T + 1)) ≡ (14 ^ 4) ^ (T + 1) = power_of 14 4 (T + 1) in
    omega (arith, most, more, e, room)

pub faster : FarColoursLaw → (problem : Problem) (N T : ℕ) → IsProblem problem → (14 ^ 4) ^ (T + 1) ≤ N → SolvableOnForests problem N T
    → IsBelowLogStarOnForests problem
faster far_colours problem N T is room solvable =
    let (algorithm, local, solves) = solvable in
    let a : ℕ = problem.active.degree in
    let p : ℕ = problem.passive.degree in
    let (K, found) = fewest_colours far_colours a p (far T) in (
      far T,
      K + (T + 3),
      λ h M low.
          (let (colour, tinted, coloured) = found h M low in
          let r : ℕ = far T * h + K in (
            (λ G v. run N T algorithm G (colour G) v),
            local_most (suc (suc T) + suc r) (far T * h + (K + (T + 3))) (λ G v. run N T algorithm G (colour G) v) (omega arith)
                (run_local N T r algorithm colour local tinted),
            λ G forest.
                run_solves N T algorithm is local solves (tree_of_forest forest)
                (more_colours (far T) (suc (ball_size (a + p) (far T))) N G (colour G)
                (enough (a + p) T N (let x = is.active.most in let y = is.passive.most in omega (arith, x, y)) room) (coloured G forest)),
          )),
    )
