-- Powers, and towers of twos.
use Rattle.std.proofs.Common.{◌≡◌, ℕ, zero, suc, ◌+◌, ◌-◌, ◌*◌, ◌^◌, ◌≤◌, sym, ◌∙◌, ap, subst, arith, mul-suc}
use Rattle.std.proofs.Math.Nat.{mul-le-mul_right, one-le-pow, pow-le-pow_left, pow-le-pow_right, pow-suc, pow-succ', pow-zero}
use Rattle.std.proofs.lemmas.Nat.{mul-le, pow-add}
use Rattle.re_layers.specs.Towers.{tower}

-- ---- powers
pub power_of : (a b n : ℕ) → a ^ (b * n) ≡ (a ^ b) ^ n
power_of a b zero = rw (pow-zero (a ^ b)) (ap (λ e. a ^ e) (let none : b * 0 ≡ 0 = omega arith in none) ∙ pow-zero a)
power_of a b (suc n) = ap (λ e. a ^ e) (mul-suc b n) ∙ (pow-add a (b * n) b ∙ (ap (λ z. z * a ^ b) (power_of a b n) ∙ sym (pow-suc (a ^ b) n)))

-- a power of what is at most a power of two
pub power_below : (x e b f : ℕ) → x ≤ 2 ^ e → b ≤ f → x ^ b ≤ 2 ^ (e * f)
power_below x e b f l m =
    let one : x ^ b ≤ (2 ^ e) ^ b = pow-le-pow_left l b in
    let some : 1 ≤ 2 ^ e = one-le-pow e 2 (omega arith) in
    let two : (2 ^ e) ^ b ≤ (2 ^ e) ^ f = pow-le-pow_right some m in
    let same : 2 ^ (e * f) ≡ (2 ^ e) ^ f = power_of 2 e f in
    rw same (omega (arith, one, two))

-- a power is at least its base
pub own_power : (x n : ℕ) → 1 ≤ n → x ≤ x ^ n
own_power x zero some = absurd (omega (arith, some))
own_power zero (suc n) some = omega arith
own_power (suc x) (suc n) some =
    let power : suc x ^ suc n ≡ suc x ^ n * suc x = pow-suc (suc x) n in
    let up : 1 * suc x ≤ suc x ^ n * suc x = mul-le-mul_right (suc x) (one-le-pow n (suc x) (omega arith)) in
    omega (arith, power, up)

pub below_power : (n : ℕ) → suc n ≤ 2 ^ n
below_power zero = rw (pow-zero 2) (omega arith)
below_power (suc n) = let before : suc n ≤ 2 ^ n = below_power n in rw (pow-succ' 2 n) (omega (arith, before))

-- three times a number from 4 on is at most the power of two to it
three_times : (q : ℕ) → 3 * (4 + q) ≤ 2 ^ (4 + q)
three_times zero = omega arith
three_times (suc q) =
    let before : 3 * (4 + q) ≤ 2 ^ (4 + q) = three_times q in
    let next : 4 + suc q ≡ suc (4 + q) = omega arith in
    rw next (rw (pow-succ' 2 (4 + q)) (omega (arith, before)))

pub cube_below : (q : ℕ) → 4 ≤ q → 2 ^ q * (2 ^ q * 2 ^ q) ≤ 2 ^ (2 ^ q)
cube_below q l =
    let split : 4 + (q - 4) ≡ q = omega arith in
    let times : 3 * q ≤ 2 ^ q = subst (λ z. 3 * z ≤ 2 ^ z) split (three_times (q - 4)) in
    let low : q + (q + q) ≤ 2 ^ q = omega (arith, times) in
    let high : 2 ^ (q + (q + q)) ≤ 2 ^ (2 ^ q) = pow-le-pow_right (omega arith) low in
    let same : 2 ^ (q + (q + q)) ≡ 2 ^ q * (2 ^ q * 2 ^ q) = pow-add 2 q (q + q) ∙ ap (λ z. 2 ^ q * z) (pow-add 2 q q) in
    subst (λ z. z ≤ 2 ^ (2 ^ q)) same high

-- ---- towers
pub tower-some : (h : ℕ) → 1 ≤ tower h
tower-some zero = omega arith
tower-some (suc h) = one-le-pow (tower h) 2 (omega arith)

pub tower-next : (h : ℕ) → suc (tower h) ≤ tower (suc h)
tower-next h = below_power (tower h)

pub above : (h : ℕ) → suc h ≤ tower h
above zero = omega arith
above (suc h) =
    let before : suc h ≤ tower h = above h in
    let next : suc (tower h) ≤ tower (suc h) = tower-next h in
    omega (arith, before, next)

tower-more : (h more : ℕ) → tower h ≤ tower (more + h)
tower-more h zero = let same : 0 + h ≡ h = omega arith in rw same (omega arith)
tower-more h (suc more) =
    let before : tower h ≤ tower (more + h) = tower-more h more in
    let next : suc (tower (more + h)) ≤ tower (suc (more + h)) = tower-next (more + h) in
    let same : suc more + h ≡ suc (more + h) = omega arith in
    rw same (omega (arith, before, next))

pub tower-le : (h k : ℕ) → h ≤ k → tower h ≤ tower k
tower-le h k l = let same : (k - h) + h ≡ k = omega arith in subst (λ z. tower h ≤ tower z) same (tower-more h (k - h))

-- some tower is at least the power of a number, where the exponent grows by two with each of its twos
pub tower-power : (x c k : ℕ) → x ≤ 2 ^ c → (h : ℕ) × (x ^ (2 * h + k) ≤ tower h)
tower-power x c k l = (suc (suc (suc m)), omega (arith, power, larger, last))
  where
    m : ℕ
    m = c + k + 8

    q : ℕ
    q = tower m

    p : ℕ
    p = 2 ^ q

    low : suc m ≤ q
    low = above m

    next : suc q ≤ p
    next = tower-next m

    split : 4 + (q - 4) ≡ q
    split = let l = low in omega (arith, l)

    times : 3 * q ≤ p
    times = subst (λ z. 3 * z ≤ 2 ^ z) split (three_times (q - 4))

    power : x ^ (2 * suc (suc (suc m)) + k) ≤ 2 ^ (c * p)
    power = power_below x c (2 * suc (suc (suc m)) + k) p l (let l = low in let t = times in omega (arith, l, t))

    product : c * p ≤ p * (p * p)
    product =
        let one : c * p ≤ p * p = mul-le-mul_right p (let l = low in let t = next in omega (arith, l, t)) in
        let two : 1 * (p * p) ≤ p * (p * p) = mul-le-mul_right (p * p) (let t = next in omega (arith, t)) in
        omega (arith, one, two)

    larger : 2 ^ (c * p) ≤ 2 ^ (p * (p * p))
    larger = pow-le-pow_right (omega arith) product

    last : 2 ^ (p * (p * p)) ≤ tower (suc (suc (suc m)))
    last = pow-le-pow_right (omega arith) (cube_below q (let l = low in omega (arith, l)))

-- ---- bits of colours
-- a power of 2 that has room for e times its exponent, and more
abbrev room : ℕ → ℕ
room e = 2 * e + 4

enough_room : (e : ℕ) → (room e + 3) * e ≤ 2 ^ room e
enough_room e =
    let low : suc e ≤ 2 ^ e = below_power e in
    let square : suc e * suc e ≤ 2 ^ e * 2 ^ e = mul-le (suc e) (suc e) (2 ^ e) (2 ^ e) low low in
    let twice : 2 * e ≡ e + e = omega arith in
    let split : 2 ^ room e ≡ 2 ^ (2 * e) * 2 ^ 4 = pow-add 2 (2 * e) 4 in
    let halves : 2 ^ (2 * e) ≡ 2 ^ e * 2 ^ e = ap (λ n. 2 ^ n) twice ∙ pow-add 2 e e in
    let whole_square : suc e * suc e ≡ e * e + 2 * e + 1 = grind arith in
    let whole : (room e + 3) * e ≡ 2 * (e * e) + 7 * e = grind arith in
    omega (arith, square, split, halves, whole_square, whole)

-- how many bits the colours have where x stands for a tower
abbrev pub bits : ℕ → ℕ → ℕ
bits e x = 2 ^ room e * x

-- as many numbers of e tests have fewer bits, with x in place of 2 ^ x
pub tests_bits : (e x : ℕ) → 1 ≤ x → (2 * suc (bits e (2 ^ x))) ^ e ≤ 2 ^ bits e x
tests_bits e x some = omega (arith, power, few)
  where
    base : 2 * suc (bits e (2 ^ x)) ≤ 2 ^ (room e + x + 2)
    base =
        let joined : 2 ^ (room e + x) ≡ 2 ^ room e * 2 ^ x = pow-add 2 (room e) x in
        let more : 2 ^ (room e + x + 2) ≡ 2 ^ (room e + x) * 2 ^ 2 = pow-add 2 (room e + x) 2 in
        let one : 1 ≤ 2 ^ (room e + x) = one-le-pow (room e + x) 2 (omega arith) in
        omega (arith, joined, more, one)

    power : (2 * suc (bits e (2 ^ x))) ^ e ≤ 2 ^ ((room e + x + 2) * e)
    power = subst (λ n. (2 * suc (bits e (2 ^ x))) ^ e ≤ n) (sym (power_of 2 (room e + x + 2) e)) (pow-le-pow_left base e)

    product : (room e + x + 2) * e ≤ 2 ^ room e * x
    product =
        let wide : room e + x + 2 ≤ (room e + 3) * x = grind (arith, some) in
        let one : (room e + x + 2) * e ≤ (room e + 3) * x * e = mul-le-mul_right e wide in
        let turned : (room e + 3) * x * e ≡ (room e + 3) * e * x = grind arith in
        let two : (room e + 3) * e * x ≤ 2 ^ room e * x = mul-le-mul_right x (enough_room e) in
        omega (arith, one, turned, two)

    few : 2 ^ ((room e + x + 2) * e) ≤ 2 ^ bits e x
    few = pow-le-pow_right (omega arith) product

-- numbers up to a tower have so many bits
pub first_bits : (e N h : ℕ) → N ≤ tower h → suc N ≤ 2 ^ bits e (tower h)
first_bits e N h l =
    let low : suc (tower h) ≤ 2 ^ tower h = below_power (tower h) in
    let one : 1 ≤ 2 ^ room e = one-le-pow (room e) 2 (omega arith) in
    let up : 1 * tower h ≤ 2 ^ room e * tower h = mul-le-mul_right (tower h) one in
    let more : 2 ^ tower h ≤ 2 ^ bits e (tower h) = pow-le-pow_right (omega arith) (omega (arith, up)) in
    omega (arith, l, low, more)
