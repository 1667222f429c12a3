-- Few rounds solve no more with random strings, and failures that are rare enough, than with port numbers alone.
use Rattle.std.proofs.Common.{◌≡◌, ℕ, suc, ◌+◌, ◌*◌, ◌^◌, ◌≤◌, sym, subst, arith, ◌%◌}
use Rattle.std.proofs.Math.Nat.{mul-le-mul_right, pow-le-pow_right, pow-succ'}
use Rattle.std.proofs.lemmas.Nat.{pow-add}
use Rattle.re_layers.proofs.Towers.{above, below_power, cube_below, power_below, tower-le}
use Rattle.re_layers.specs.Towers.{tower}
use Rattle.re_classes.proofs.Gap.{gap}
use Rattle.re_classes.proofs.PortNumbered.{Solvable-local}
use Rattle.re_classes.proofs.Derandomised.{derandomised, derandomised_identified}
use Rattle.re_classes.proofs.FewerNames.{fewer_names}
use Rattle.re_classes.proofs.IdentifiedViews.{fails_identified}
use Rattle.re_classes.specs.GapLaws.{IdentifiedConstantLaw, IdentifiedGapLaw, RandomisedConstantLaw, RandomisedGapLaw}
use Rattle.re_classes.specs.RandomLaws.{id_views}
use Rattle.re_classes.specs.IdentifiedRandom.{with_images}

pub randomised_constant : RandomisedConstantLaw
randomised_constant problem T is =
    let (N, ports) = Solvable-local problem T is in (
      id_views (problem.active.degree + problem.passive.degree) N T,
      λ R algorithm fails.
          ports (derandomised problem (problem.active.degree + problem.passive.degree) N R T
          (id_views (problem.active.degree + problem.passive.degree) N T) algorithm is (omega arith) (omega arith) (omega arith) fails),
    )

pub identified_constant : IdentifiedConstantLaw
identified_constant problem T is =
    let (N, ports) = Solvable-local problem T is in (
      N,
      id_views (problem.active.degree + problem.passive.degree) N T,
      λ wide R algorithm many fails.
          ports (derandomised_identified problem (problem.active.degree + problem.passive.degree) N R T
          (id_views (problem.active.degree + problem.passive.degree) N T) algorithm is (omega arith) (omega arith) (omega arith)
          (fewer_names problem N wide R T (id_views (problem.active.degree + problem.passive.degree) N T) algorithm many fails)),
    )

-- the views with 2 ^ m identifiers, where m is large
few_views : (d m T : ℕ) → d ≤ 6 → 3 * (T + 2) ≤ m → 4 ≤ m → 2 * (d * 2 ^ (2 ^ m)) ^ (d ^ (T + 2)) ≤ 2 ^ (2 ^ (2 ^ m))
few_views d m T low small large =
    let ports : d ≤ 2 ^ 3 = omega (arith, low) in
    let times : d * 2 ^ (2 ^ m) ≤ 2 ^ 3 * 2 ^ (2 ^ m) = mul-le-mul_right (2 ^ (2 ^ m)) ports in
    let sum : 2 ^ (3 + 2 ^ m) ≡ 2 ^ 3 * 2 ^ (2 ^ m) = pow-add 2 3 (2 ^ m) in
    let base : d * 2 ^ (2 ^ m) ≤ 2 ^ (3 + 2 ^ m) = subst (λ z. d * 2 ^ (2 ^ m) ≤ z) (sym sum) times in
    let edges : d ^ (T + 2) ≤ 2 ^ (3 * (T + 2)) = power_below d 3 (T + 2) (T + 2) ports (omega arith) in
    let edges' : 2 ^ (3 * (T + 2)) ≤ 2 ^ m = pow-le-pow_right (omega arith) small in
    let all : (d * 2 ^ (2 ^ m)) ^ (d ^ (T + 2)) ≤ 2 ^ ((3 + 2 ^ m) * 2 ^ m) =
    power_below (d * 2 ^ (2 ^ m)) (3 + 2 ^ m) (d ^ (T + 2)) (2 ^ m) base (omega (arith, edges, edges')) in
    let twice : 2 ^ suc ((3 + 2 ^ m) * 2 ^ m) ≡ 2 * 2 ^ ((3 + 2 ^ m) * 2 ^ m) = pow-succ' 2 ((3 + 2 ^ m) * 2 ^ m) in
    let above_m : suc m ≤ 2 ^ m = below_power m in
    let cube : 2 ^ m * (2 ^ m * 2 ^ m) ≤ 2 ^ (2 ^ m) = cube_below m large in
    let exponent : suc ((3 + 2 ^ m) * 2 ^ m) ≤ 2 ^ (2 ^ m) = compare (2 ^ m) (2 ^ (2 ^ m)) (omega (arith, above_m, large)) cube in
    let last : 2 ^ suc ((3 + 2 ^ m) * 2 ^ m) ≤ 2 ^ (2 ^ (2 ^ m)) = pow-le-pow_right (omega arith) exponent in
    omega (arith, all, twice, last)
  where
    compare : (x w : ℕ) → 5 ≤ x → x * (x * x) ≤ w → suc ((3 + x) * x) ≤ w
    compare x w l h =
        let square : 5 * x ≤ x * x = mul-le-mul_right x l in
        let cubes : 5 * (x * x) ≤ x * (x * x) = mul-le-mul_right (x * x) l in
        omega (arith, l, square, cubes, h)

pub identified_gap : IdentifiedGapLaw
identified_gap problem h N R T q algorithm is l many enough fails =
    (gap problem h T (tower (T + h + 6)) is l (omega arith)).0
    (derandomised_identified problem 6 (tower (T + h + 6)) R T q algorithm is is.active.most is.passive.most few
    (fewer_names problem (tower (T + h + 6)) N R T q algorithm many fails))
  where
    m : ℕ
    m = tower (T + h + 4)

    small : 3 * (T + 2) ≤ m
    small =
        let x : ℕ = tower (T + 2) in
        let over : suc (T + 2) ≤ x = above (T + 2) in
        let four : tower 2 ≤ tower (T + 2) = tower-le 2 (T + 2) (omega arith) in
        let cube : 2 ^ x * (2 ^ x * 2 ^ x) ≤ 2 ^ (2 ^ x) = cube_below x (omega (arith, four)) in
        let next : suc x ≤ 2 ^ x = below_power x in
        let up : 2 ^ (2 ^ x) ≤ m = tower-le (suc (suc (T + 2))) (T + h + 4) (omega arith) in
        compare (T + 2) (2 ^ x) (2 ^ (2 ^ x)) m (omega (arith, over, next)) cube up
      where
        compare : (t p w m : ℕ) → suc (suc t) ≤ p → p * (p * p) ≤ w → w ≤ m → 3 * t ≤ m
        compare t p w m l h u =
            let one : 2 * p ≤ p * p = mul-le-mul_right p (omega (arith, l)) in
            let two : 2 * (p * p) ≤ p * (p * p) = mul-le-mul_right (p * p) (omega (arith, l)) in
            omega (arith, l, one, two, h, u)

    large : 4 ≤ m
    large = let four : tower 2 ≤ tower (T + h + 4) = tower-le 2 (T + h + 4) (omega arith) in omega (arith, four)

    few : id_views 6 (tower (T + h + 6)) T ≤ q
    few =
        let views : 2 * (6 * 2 ^ (2 ^ m)) ^ (6 ^ (T + 2)) ≤ 2 ^ (2 ^ (2 ^ m)) = few_views 6 m T (omega arith) small large in
        let six : T + h + 6 ≡ suc (suc (T + h + 4)) = omega arith in
        let seven : T + h + 7 ≡ suc (suc (suc (T + h + 4))) = omega arith in
        let top : 2 ^ (2 ^ (2 ^ m)) ≤ q = subst (λ k. tower k ≤ q) seven enough in
        subst (λ k. id_views 6 (tower k) T ≤ q) (sym six) (omega (arith, views, top))

pub randomised_gap : RandomisedGapLaw
randomised_gap problem h R T q algorithm is l enough fails =
    identified_gap problem h (tower (T + h + 6)) R T q (λ k. algorithm (with_images (λ label. label % R) k)) is l (omega arith) enough
    (fails_identified problem (tower (T + h + 6)) R T q algorithm is fails)
