-- Numbers for rows of so many digits.
use Rattle.std.proofs.Common.{◌≡◌, ℕ, zero, suc, ◌+◌, ◌*◌, ◌%◌, ◌/◌, ◌^◌, ◌≤◌, ◌<◌, sym, ap, ◌∙◌, arith}
use Rattle.std.proofs.Math.Nat.{mul-le-mul_right, pow-suc, pow-zero}
use Rattle.std.proofs.lemmas.Nat.{div-mul-add, mod-mul-add}

-- the number whose e digits to base m are these, the lowest first
abbrev pub code : ℕ → ℕ → (ℕ → ℕ) → ℕ
code m zero digit = 0
code m (suc e) digit = code m e (λ i. digit (suc i)) * m + digit 0

pub code_low : (m e : ℕ) (digit : ℕ → ℕ) → ((i : ℕ) → digit i < m) → code m e digit < m ^ e
code_low m zero digit low = rw (pow-zero m) (omega arith)
code_low m (suc e) digit low = rw (pow-suc m e) (up (code m e (λ i. digit (suc i))) (m ^ e) (code_low m e (λ i. digit (suc i)) (λ i. low (suc i))))
  where
    up : (x y : ℕ) → x < y → x * m + digit 0 < y * m
    up x y l =
        let first : digit 0 < m = low 0 in
        let more : suc x * m ≤ y * m = mul-le-mul_right m l in
        let split : suc x * m ≡ x * m + m = grind arith in
        omega (arith, first, more, split)

-- equal numbers have equal digits
pub code_same : (m e : ℕ) (digit other : ℕ → ℕ) → ((i : ℕ) → digit i < m) → ((i : ℕ) → other i < m) → code m e digit ≡ code m e other
    → (i : ℕ) → i < e → digit i ≡ other i
code_same m zero digit other low low' same i l = absurd (omega (arith, l))
code_same m (suc e) digit other low low' same zero l =
    sym (mod-mul-add (code m e (λ i. digit (suc i))) m (digit 0) (low 0)) ∙ (ap (λ n. n % m) same ∙ mod-mul-add (code m e (λ i. other (suc i))) m (other 0) (low' 0))
code_same m (suc e) digit other low low' same (suc i) l =
    code_same m e (λ i. digit (suc i)) (λ i. other (suc i)) (λ i. low (suc i)) (λ i. low' (suc i))
    (sym (div-mul-add (code m e (λ i. digit (suc i))) m (digit 0) (low 0)) ∙ (ap (λ n. n / m) same ∙ div-mul-add (code m e (λ i. other (suc i))) m (other 0) (low' 0)))
    i (omega (arith, l))
