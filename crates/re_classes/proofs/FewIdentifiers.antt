-- How many identifiers with virtual ports are enough: no more than a tower.
use Rattle.std.proofs.Common.{◌≡◌, ℕ, zero, suc, ◌+◌, ◌-◌, ◌*◌, ◌^◌, ◌≤◌, sym, subst, arith}
use Rattle.std.proofs.Math.Nat.{mul-le-mul, mul-le-mul_right, one-le-pow, pow-le-pow_left, pow-le-pow_right, pow-succ', pow-zero}
use Rattle.std.proofs.lemmas.Nat.{pow-add}
use Rattle.re_layers.proofs.Towers.{above, below_power, power_below, power_of, tower-le}
use Rattle.re_layers.specs.Towers.{tower}
use Rattle.re_classes.specs.FewRoundsLaws.{TowerLaw}
use Rattle.re_local.specs.SeparatingLaws.{virtual_base, virtual_ports}

pub below_tower : TowerLaw
below_tower n = let l : suc n ≤ tower n = above n in omega (arith, l)

-- ---- in powers of a number that is large enough
module _ (a p n Q : ℕ) (low : a ≤ 6) (low' : p ≤ 6) (large : 2 ^ n * 8 ≤ Q) (some : 64 ≤ Q) where
  ports_few : virtual_ports a n ≤ Q
  ports_few =
      let one : 1 ≤ 2 ^ n = one-le-pow n 2 (omega arith) in
      let each : (a - 1) * 2 ^ n ≤ 5 * 2 ^ n = mul-le-mul_right (2 ^ n) (omega (arith, low)) in
      omega (arith, one, each, large)

  labels_few : suc n ≤ Q
  labels_few = let l = below_power n in omega (arith, l, large)

  places_few : p * virtual_ports a n ^ p ≤ 6 * Q ^ 6
  places_few =
      let one : virtual_ports a n ^ p ≤ Q ^ p = pow-le-pow_left ports_few p in
      let two : Q ^ p ≤ Q ^ 6 = pow-le-pow_right (omega (arith, some)) low' in
      mul-le-mul low' (omega (arith, one, two))

  -- 64 times the sixth power is at most the seventh
  next_power : 64 * Q ^ 6 ≤ Q ^ 7
  next_power =
      let more : 64 * Q ^ 6 ≤ Q * Q ^ 6 = mul-le-mul_right (Q ^ 6) some in
      let same : Q ^ 7 ≡ Q * Q ^ 6 = pow-succ' Q 6 in
      omega (arith, more, same)

  sixth : 1 ≤ Q ^ 6
  sixth = one-le-pow 6 Q (omega (arith, some))

  squares : 64 * Q ≤ Q * Q
  squares = mul-le-mul_right Q some

  colours_few : (2 ^ n) ^ virtual_ports a n + virtual_ports a n + 1 ≤ 2 * 2 ^ (Q * Q)
  colours_few =
      let one : (2 ^ n) ^ virtual_ports a n ≤ 2 ^ (n * Q) = power_below (2 ^ n) n (virtual_ports a n) Q (omega arith) ports_few in
      let times : n * Q ≤ Q * Q = mul-le-mul_right Q (let l = labels_few in omega (arith, l)) in
      let two : 2 ^ (n * Q) ≤ 2 ^ (Q * Q) = pow-le-pow_right (omega arith) times in
      let own : suc Q ≤ 2 ^ Q = below_power Q in
      let three : 2 ^ Q ≤ 2 ^ (Q * Q) = pow-le-pow_right (omega arith) (let l = squares in omega (arith, l)) in
      let ports = ports_few in
      omega (arith, one, two, own, three, ports)

  factor : 3 * (p * virtual_ports a n ^ p + 1) * ((2 ^ n) ^ virtual_ports a n + virtual_ports a n + 1) ≤ 2 ^ (Q ^ 3)
  factor =
      let places = places_few in
      let some' = sixth in
      let next = next_power in
      let left : 3 * (p * virtual_ports a n ^ p + 1) ≤ Q ^ 7 = omega (arith, places, some', next) in
      let up : Q ^ 7 ≤ 2 ^ (Q * 7) = power_below Q Q 7 7 (let l = below_power Q in omega (arith, l)) (omega arith) in
      let both : 3 * (p * virtual_ports a n ^ p + 1) * ((2 ^ n) ^ virtual_ports a n + virtual_ports a n + 1) ≤ 2 ^ (Q * 7) * (2 * 2 ^ (Q * Q)) = mul-le-mul (omega (arith, left, up)) colours_few in
      let same : 2 ^ (Q * 7 + Q * Q) ≡ 2 ^ (Q * 7) * 2 ^ (Q * Q) = pow-add 2 (Q * 7) (Q * Q) in
      let twice : 2 ^ suc (Q * 7 + Q * Q) ≡ 2 * 2 ^ (Q * 7 + Q * Q) = pow-succ' 2 (Q * 7 + Q * Q) in
      let square = squares in
      let cube : 64 * (Q * Q) ≤ Q * (Q * Q) = mul-le-mul_right (Q * Q) some in
      let third : Q ^ 3 ≡ Q * (Q * Q) = power_three in
      let exponent : suc (Q * 7 + Q * Q) ≤ Q ^ 3 = omega (arith, square, cube, third, some) in
      let last : 2 ^ suc (Q * 7 + Q * Q) ≤ 2 ^ (Q ^ 3) = pow-le-pow_right (omega arith) exponent in
      omega (arith, both, same, twice, last)
    where
      power_three : Q ^ 3 ≡ Q * (Q * Q)
      power_three = let one : Q ^ 3 ≡ Q * Q ^ 2 = pow-succ' Q 2 in let two : Q ^ 2 ≡ Q * Q ^ 1 = pow-succ' Q 1 in let three : Q ^ 1 ≡ Q * Q ^ 0 = pow-succ' Q 0 in
          rw (one, two, three, pow-zero Q) (omega arith)

  virtual_few : (T : ℕ) → suc T ≤ Q → virtual_base a p n ^ (T + 1) ≤ 2 ^ (Q ^ 12)
  virtual_few T tl =
      let x : ℕ = 3 * (p * virtual_ports a n ^ p + 1) * ((2 ^ n) ^ virtual_ports a n + virtual_ports a n + 1) in
      let r : ℕ = p * virtual_ports a n ^ p + 3 in
      let places = places_few in
      let some' = sixth in
      let next = next_power in
      let once : x ^ r ≤ 2 ^ (Q ^ 3 * Q ^ 7) = power_below x (Q ^ 3) r (Q ^ 7) factor (omega (arith, places, some', next)) in
      let five : (x ^ r) ^ 5 ≤ 2 ^ (Q ^ 3 * Q ^ 7 * 5) = power_below (x ^ r) (Q ^ 3 * Q ^ 7) 5 5 once (omega arith) in
      let all : ((x ^ r) ^ 5) ^ (T + 1) ≤ 2 ^ (Q ^ 3 * Q ^ 7 * 5 * Q) = power_below ((x ^ r) ^ 5) (Q ^ 3 * Q ^ 7 * 5) (T + 1) Q five (omega (arith, tl)) in
      let ten : Q ^ 10 ≡ Q ^ 3 * Q ^ 7 = pow-add Q 3 7 in
      let eleven : Q ^ 11 ≡ Q * Q ^ 10 = pow-succ' Q 10 in
      let twelve : Q ^ 12 ≡ Q * Q ^ 11 = pow-succ' Q 11 in
      let more : 64 * Q ^ 11 ≤ Q * Q ^ 11 = mul-le-mul_right (Q ^ 11) some in
      let exponent : Q ^ 3 * Q ^ 7 * 5 * Q ≤ Q ^ 12 = subst (λ z. z * 5 * Q ≤ Q ^ 12) ten (omega (arith, eleven, twelve, more)) in
      let last : 2 ^ (Q ^ 3 * Q ^ 7 * 5 * Q) ≤ 2 ^ (Q ^ 12) = pow-le-pow_right (omega arith) exponent in
      omega (arith, all, last)

-- ---- towers
twelve_times : (q : ℕ) → 12 * (7 + q) ≤ 2 ^ (7 + q)
twelve_times zero = omega arith
twelve_times (suc q) =
    let before : 12 * (7 + q) ≤ 2 ^ (7 + q) = twelve_times q in
    let next : 7 + suc q ≡ suc (7 + q) = omega arith in
    rw next (rw (pow-succ' 2 (7 + q)) (omega (arith, before)))

twelfth_below : (u : ℕ) → 7 ≤ u → 12 * u ≤ 2 ^ u
twelfth_below u l =
    let split : 7 + (u - 7) ≡ u = omega (arith, l) in
    subst (λ z. 12 * z ≤ 2 ^ z) split (twelve_times (u - 7))

-- identifiers enough for virtual ports, for as many labels as T derivations may lead to
pub below_virtual : (a p h T : ℕ) → a ≤ 6 → p ≤ 6 → virtual_base a p (tower (T + h)) ^ (T + 1) ≤ tower (T + h + 6)
below_virtual a p h T low low' =
    let s : ℕ = T + h + 3 in
    let up : tower (suc (T + h)) ≤ tower s = tower-le (suc (T + h)) s (omega arith) in
    let three : tower 3 ≤ tower s = tower-le 3 s (omega arith) in
    let times : 12 * tower s ≤ tower (suc s) = twelfth_below (tower s) (omega (arith, three)) in
    let four : tower 4 ≤ tower (suc s) = tower-le 4 (suc s) (omega arith) in
    let T_below : suc T ≤ tower T = above T in
    let T_up : tower T ≤ tower (suc s) = tower-le T (suc s) (omega arith) in
    let large : tower (suc (T + h)) * 8 ≤ tower (suc s) = omega (arith, up, times) in
    let enough : virtual_base a p (tower (T + h)) ^ (T + 1) ≤ 2 ^ (tower (suc s) ^ 12) = virtual_few a p (tower (T + h)) (tower (suc s)) low low' large (omega (arith, four)) T (omega (arith, T_below, T_up)) in
    let power : tower (suc s) ^ 12 ≡ 2 ^ (tower s * 12) = sym (power_of 2 (tower s) 12) in
    let one : 2 ^ (tower s * 12) ≤ 2 ^ tower (suc s) = pow-le-pow_right (omega arith) (omega (arith, times)) in
    let high : tower (suc s) ^ 12 ≤ tower (suc (suc s)) = rw power one in
    let last : 2 ^ (tower (suc s) ^ 12) ≤ tower (suc (suc (suc s))) = pow-le-pow_right (omega arith) high in
    let same : T + h + 6 ≡ suc (suc (suc s)) = omega arith in
    rw same (omega (arith, enough, last))
