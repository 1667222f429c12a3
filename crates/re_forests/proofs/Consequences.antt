-- The link of the two models, and lower bounds that carry over.
use Rattle.std.proofs.Common.{◌≡◌, ℕ, zero, suc, ◌+◌, ◌*◌, ◌^◌, ◌≤◌, sym, ◌∙◌, ap, subst, arith, add-one}
use Rattle.std.proofs.Math.Nat.{mul-le-mul_left, mul-le-mul_right, mul-one, pow-le-pow_right, pow-succ', pow-zero}
use Rattle.std.proofs.lemmas.List.{map-id}
use Rattle.std.proofs.lemmas.Nat.{pow-add}
use Rattle.re_classes.specs.Classes.{IsAboveLog, IsAboveLogStar, IsMoreThanConstant}
use Rattle.re_forests.specs.OnForests.{SolvableOnForests, SolvesOn}
use Rattle.re_forests.proofs.ViewsLinked.{on_views, solves_active, solves_passive}
use Rattle.re_forests.specs.Classes.{IsAboveLogOnForests, IsAboveLogStarOnForests}
use Rattle.re_forests.specs.ToViews.{IsMoreThanConstantOnForests}
use Rattle.re_layers.specs.Networks.{AreDifferent, IsForest, Network}
use Rattle.re_layers.proofs.Towers.{below_power, tower-next}
use Rattle.re_local.specs.LocalAlgorithms.{SolvableLocal, behind_passive, shown}
use Rattle.re_layers.specs.Towers.{tower}
use Rattle.re_problem.specs.Problems.{IsProblem, Problem}

pub link : (problem : Problem) (N T : ℕ) → IsProblem problem → SolvableOnForests problem ((1 + problem.active.degree) * N) T → SolvableLocal problem N (T + 1)
link problem N T is (A, local, solves) =
    let some : 1 ≤ problem.active.degree = let l = is.active.least in omega arith in
    let some' : 1 ≤ problem.passive.degree = let l = is.passive.least in omega arith in
    let size : (1 + problem.active.degree) * N ≡ N + N * problem.active.degree = omega arith in
    let solves_there : (G : Network) → IsForest problem.active.degree problem.passive.degree (N + N * problem.active.degree) G → SolvesOn problem G (A G) = λ G forest.
    solves G (subst (λ M. IsForest problem.active.degree problem.passive.degree M G) (sym size) forest) in
    subst (SolvableLocal problem N) (sym (add-one T)) (
      on_views problem.active.degree N T A,
      record {
        active = λ v view fits apart. solves_active problem N T some some' A local solves_there v view fits (subst AreDifferent (map-id (shown v)) apart);
        passive = λ w view fits apart. solves_passive problem N T some some' A local solves_there w view fits (subst AreDifferent (map-id (behind_passive w)) apart);
      },
    )

forest_more : (a p N more : ℕ) (G : Network) → N ≤ more → IsForest a p N G → IsForest a p more G
forest_more a p N more G l h = record {
  degrees = h.degrees;
  below = λ v w held. (let low = (h.below v w held).0 in omega arith, let low = (h.below v w held).1 in omega arith);
  turns = h.turns;
  both = h.both;
  acyclic = h.acyclic;
}

pub fewer_on_forests : (problem : Problem) (N more T : ℕ) → N ≤ more → SolvableOnForests problem more T → SolvableOnForests problem N T
fewer_on_forests problem N more T l (A, local, solves) = (A, local, λ G forest. solves G (forest_more problem.active.degree problem.passive.degree N more G l forest))

pub more_than_constant : (problem : Problem) → IsProblem problem → IsMoreThanConstant problem → IsMoreThanConstantOnForests problem
more_than_constant problem is above T =
    let (N, beyond) = above (T + 1) in (
      (1 + problem.active.degree) * N,
      λ more l solvable. beyond N (omega arith) (link problem N T is (fewer_on_forests problem ((1 + problem.active.degree) * N) more T l solvable)),
    )

-- ---- powers
first_power : (B : ℕ) → B ^ suc zero ≡ B
first_power B = pow-succ' B zero ∙ (ap (λ z. B * z) (pow-zero B) ∙ mul-one B)

square : (C : ℕ) → C ^ suc (suc zero) ≡ C * C
square C = pow-succ' C (suc zero) ∙ ap (λ z. C * z) (first_power C)

powers : (k C B T : ℕ) → k * (C * C) ≤ B → C ≤ B → k * C ^ suc (suc T) ≤ B ^ suc T
powers k C B zero most low = rw (square C, first_power B) most
powers k C B (suc T) most low =
    let once : k * C ^ suc (suc T) ≤ B ^ suc T = powers k C B T most low in
    let one : C * (k * C ^ suc (suc T)) ≤ C * B ^ suc T = mul-le-mul_left C once in
    let two : C * B ^ suc T ≤ B * B ^ suc T = mul-le-mul_right (B ^ suc T) low in
    rw (pow-succ' C (suc (suc T)), pow-succ' B (suc T)) (omega (arith, one, two))

low_base : (k C : ℕ) → 1 ≤ k → C ≤ k * (C * C)
low_base k zero some = omega arith
low_base k (suc C) some =
    let one : 1 * (suc C * suc C) ≤ k * (suc C * suc C) = mul-le-mul_right (suc C * suc C) some in
    let two : suc C * 1 ≤ suc C * suc C = mul-le-mul_left (suc C) (omega arith) in
    omega (arith, one, two)

pub above_log : (problem : Problem) → IsProblem problem → IsAboveLog problem → IsAboveLogOnForests problem
above_log problem is (C, beyond) =
    let k : ℕ = 1 + problem.active.degree in
    let B : ℕ = k * (C * C) in (
      B,
      λ T N l solvable. (
          let n : ℕ = C ^ suc (suc T) in
          let enough : B ^ suc T ≤ N = subst (λ j. B ^ j ≤ N) (add-one T) l in
          let most : k * n ≤ B ^ suc T = powers k C B T (omega arith) (low_base k C (omega arith)) in
          let room : k * n ≤ N = omega (arith, most, enough) in
          let there : C ^ (T + 1 + 1) ≤ n = subst (λ j. C ^ j ≤ n) (sym (add-one (T + 1) ∙ ap suc (add-one T))) (omega arith) in
          beyond (T + 1) n there (link problem n T is (fewer_on_forests problem (k * n) N T room solvable))
          ),
    )

-- ---- towers of twos
higher : (h k : ℕ) → tower h + k ≤ tower (h + k)
higher h zero = subst (λ j. tower h + 0 ≤ tower j) (let e : h ≡ h + 0 = omega arith in e) (omega arith)
higher h (suc k) =
    let once : tower h + k ≤ tower (h + k) = higher h k in
    let next : suc (tower (h + k)) ≤ tower (suc (h + k)) = tower-next (h + k) in
    let most : tower h + suc k ≤ tower (suc (h + k)) = omega (arith, once, next) in
    subst (λ j. tower h + suc k ≤ tower j) (let e : suc (h + k) ≡ h + suc k = omega arith in e) most

towers : (k h : ℕ) → (1 + k) * tower h ≤ tower (suc (h + k))
towers k h =
    let x : ℕ = tower h in
    let one : suc x ≤ 2 ^ x = below_power x in
    let two : suc k ≤ 2 ^ k = below_power k in
    let three : suc x * suc k ≤ 2 ^ x * suc k = mul-le-mul_right (suc k) one in
    let four : 2 ^ x * suc k ≤ 2 ^ x * 2 ^ k = mul-le-mul_left (2 ^ x) two in
    let five : 2 ^ (x + k) ≡ 2 ^ x * 2 ^ k = pow-add 2 x k in
    let six : 2 ^ (x + k) ≤ 2 ^ tower (h + k) = pow-le-pow_right (omega arith) (higher h k) in
    omega (arith, three, four, five, six)

pub above_log_star : (problem : Problem) → IsProblem problem → IsAboveLogStar problem → IsAboveLogStarOnForests problem
above_log_star problem is (c, beyond) =
    let a : ℕ = problem.active.degree in (
      c + a + 2,
      λ T N l solvable. (
          let h : ℕ = T + 1 + c in
          let place : T + (c + a + 2) ≡ suc (h + a) = omega arith in
          let enough : tower (suc (h + a)) ≤ N = subst (λ j. tower j ≤ N) place l in
          let most : (1 + a) * tower h ≤ tower (suc (h + a)) = towers a h in
          let room : (1 + a) * tower h ≤ N = omega (arith, most, enough) in
          beyond (T + 1) (tower h) (omega arith) (link problem (tower h) T is (fewer_on_forests problem ((1 + a) * tower h) N T room solvable))
          ),
    )
