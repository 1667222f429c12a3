-- Sums over the numbers below a bound, and how many of them pass a test.
use Rattle.std.proofs.Common.{◌≡◌, ℕ, zero, suc, ◌+◌, ◌*◌, ◌≤◌, ◌<◌, Bool, true, false, cond, eqb, leb, ◌&&◌, ◌||◌, not, inl, inr, refl, sym, ◌∙◌, ap, arith}
use Rattle.std.proofs.Math.Nat.{mul-le-mul_left}
use Rattle.std.proofs.lemmas.Bool.{false≢true}
use Rattle.std.proofs.lemmas.Bool.Decides.{eqb_tells, leb_tells}
use Rattle.re_layers.proofs.Peeling.{any_below}

-- the sum of f over the numbers below n
abbrev pub total : (ℕ → ℕ) → ℕ → ℕ
total f zero = 0
total f (suc n) = f 0 + total (λ x. f (suc x)) n

-- 1 where a test passes, else 0
abbrev pub one_if : Bool → ℕ
one_if t = cond t 1 0

-- how many numbers below n pass the test
abbrev pub count : (ℕ → Bool) → ℕ → ℕ
count b n = total (λ x. cond (b x) 1 0) n

-- all numbers below n pass the test
abbrev pub all_below : (ℕ → Bool) → ℕ → Bool
all_below b zero = true
all_below b (suc n) = b 0 && all_below (λ x. b (suc x)) n

-- ---- sums
pub total-le : (f g : ℕ → ℕ) (n : ℕ) → ((x : ℕ) → x < n → f x ≤ g x) → total f n ≤ total g n
total-le f g zero each = omega arith
total-le f g (suc n) each =
    let here : f 0 ≤ g 0 = each 0 (omega arith) in
    let rest : total (λ x. f (suc x)) n ≤ total (λ x. g (suc x)) n = total-le (λ x. f (suc x)) (λ x. g (suc x)) n (λ x l. each (suc x) (omega arith)) in
    omega (arith, here, rest)

pub total-add : (f g : ℕ → ℕ) (n : ℕ) → total (λ x. f x + g x) n ≡ total f n + total g n
total-add f g zero = omega arith
total-add f g (suc n) = let rest = total-add (λ x. f (suc x)) (λ x. g (suc x)) n in omega (arith, rest)

pub total-scaled : (f : ℕ → ℕ) (c n : ℕ) → total (λ x. f x * c) n ≡ total f n * c
total-scaled f c zero = omega arith
total-scaled f c (suc n) = let rest = total-scaled (λ x. f (suc x)) c n in omega (arith, rest)

pub total-const : (c n : ℕ) → total (λ x. c) n ≡ n * c
total-const c zero = omega arith
total-const c (suc n) = let rest = total-const c n in omega (arith, rest)

pub total-swap : (f : ℕ → ℕ → ℕ) (n m : ℕ) → total (λ x. total (f x) m) n ≡ total (λ y. total (λ x. f x y) n) m
total-swap f zero m = let none = total-const 0 m in omega (arith, none)
total-swap f (suc n) m =
    let rest : total (λ x. total (f (suc x)) m) n ≡ total (λ y. total (λ x. f (suc x) y) n) m = total-swap (λ x. f (suc x)) n m in
    let parts : total (λ y. f 0 y + total (λ x. f (suc x) y) n) m ≡ total (f 0) m + total (λ y. total (λ x. f (suc x) y) n) m =
    total-add (f 0) (λ y. total (λ x. f (suc x) y) n) m in
    omega (arith, rest, parts)

-- some number has at least the average
pub average : (f : ℕ → ℕ) (n : ℕ) → 1 ≤ n → (x : ℕ) × (x < n) × (total f n ≤ n * f x)
average f zero l = absurd (omega arith)
average f (suc zero) l = (0, omega arith, omega arith)
average f (suc (suc n)) l = larger (average (λ x. f (suc x)) (suc n) (omega arith))
  where
    larger : (x : ℕ) × (x < suc n) × (total (λ x. f (suc x)) (suc n) ≤ suc n * f (suc x))
        → (x : ℕ) × (x < suc (suc n)) × (total f (suc (suc n)) ≤ suc (suc n) * f x)
    larger (x, xl, h) = elim (leb_tells (f 0) (f (suc x))) [
      | inl t ↦ (suc x, omega arith, (let low = t.1 in omega (arith, h, low)))
      | inr t ↦
          (let low : f (suc x) ≤ f 0 = (let l' = t.1 in omega arith) in
          let more : suc n * f (suc x) ≤ suc n * f 0 = mul-le-mul_left (suc n) low in
          (0, omega arith, omega (arith, h, more)))
    ]

-- ---- counts
pub count-le : (b c : ℕ → Bool) (n : ℕ) → ((x : ℕ) → x < n → b x ≡ true → c x ≡ true) → count b n ≤ count c n
count-le b c n each = total-le (λ x. cond (b x) 1 0) (λ x. cond (c x) 1 0) n (λ x l. here (b x) (c x) (each x l))
  where
    here : (b c : Bool) → (b ≡ true → c ≡ true) → cond b 1 0 ≤ cond c 1 0
    here false c h = omega arith
    here true true h = omega arith
    here true false h = absurd (false≢true (h refl))

pub count-or : (b c : ℕ → Bool) (n : ℕ) → count (λ x. b x || c x) n ≤ count b n + count c n
count-or b c n =
    let parts = total-add (λ x. cond (b x) 1 0) (λ x. cond (c x) 1 0) n in
    let less : count (λ x. b x || c x) n ≤ total (λ x. cond (b x) 1 0 + cond (c x) 1 0) n =
    total-le (λ x. cond (b x || c x) 1 0) (λ x. cond (b x) 1 0 + cond (c x) 1 0) n (λ x l. here (b x) (c x)) in
    omega (arith, parts, less)
  where
    here : (b c : Bool) → cond (b || c) 1 0 ≤ cond b 1 0 + cond c 1 0
    here false c = omega arith
    here true c = omega arith

-- those that pass a test are those that pass a second one too, and the others
pub count-split : (b c : ℕ → Bool) (n : ℕ) → count b n ≡ count (λ x. b x && not (c x)) n + count (λ x. b x && c x) n
count-split b c zero = omega arith
count-split b c (suc n) =
    let first : cond (b 0) 1 0 ≡ cond (b 0 && not (c 0)) 1 0 + cond (b 0 && c 0) 1 0 = here (b 0) (c 0) in
    let rest = count-split (λ x. b (suc x)) (λ x. c (suc x)) n in
    omega (arith, first, rest)
  where
    here : (b c : Bool) → cond b 1 0 ≡ cond (b && not c) 1 0 + cond (b && c) 1 0
    here false c = omega arith
    here true false = omega arith
    here true true = omega arith

pub count_none : (b : ℕ → Bool) (n : ℕ) → ((x : ℕ) → x < n → b x ≡ false) → count b n ≡ 0
count_none b zero each = refl
count_none b (suc n) each =
    let here : one_if (b 0) ≡ 0 = ap one_if (each 0 (omega arith)) in
    let rest : count (λ x. b (suc x)) n ≡ 0 = count_none (λ x. b (suc x)) n (λ x l. each (suc x) (omega arith)) in
    omega (arith, here, rest)

pub count_some : (b : ℕ → Bool) (n x : ℕ) → x < n → b x ≡ true → 1 ≤ count b n
count_some b zero x l passes = absurd (omega arith)
count_some b (suc n) zero l passes = let here : one_if (b 0) ≡ 1 = ap one_if passes in omega (arith, here)
count_some b (suc n) (suc x) l passes = let rest = count_some (λ x. b (suc x)) n x (omega arith) passes in omega (arith, rest)

pub count_below : (b : ℕ → Bool) (n : ℕ) → count b n ≤ n
count_below b n =
    let all : total (λ x. 1) n ≡ n * 1 = total-const 1 n in
    let less : count b n ≤ total (λ x. 1) n = total-le (λ x. cond (b x) 1 0) (λ x. 1) n (λ x l. here (b x)) in
    omega (arith, all, less)
  where
    here : (b : Bool) → cond b 1 0 ≤ 1
    here false = omega arith
    here true = omega arith

-- at most one number is x
pub count_one : (x n : ℕ) → count (λ y. eqb x y) n ≤ 1
count_one x zero = omega arith
count_one zero (suc n) =
    let others : count (λ y. eqb 0 (suc y)) n ≡ 0 = count_none (λ y. eqb 0 (suc y)) n (λ y l. apart y) in
    let first : cond (eqb 0 0) 1 0 ≤ 1 = here (eqb 0 0) in
    omega (arith, others, first)
  where
    apart : (y : ℕ) → eqb 0 (suc y) ≡ false
    apart y = elim (eqb_tells 0 (suc y)) [ inl t ↦ absurd (let e = t.1 in omega (arith, e)) | inr t ↦ t.0 ]

    here : (b : Bool) → cond b 1 0 ≤ 1
    here false = omega arith
    here true = omega arith
count_one (suc x) (suc n) =
    let first : one_if (eqb (suc x) 0) ≡ 0 = ap one_if (apart x) in
    let others : count (λ y. eqb (suc x) (suc y)) n ≤ count (λ y. eqb x y) n =
    count-le (λ y. eqb (suc x) (suc y)) (λ y. eqb x y) n (λ y l e. smaller y e) in
    let rest = count_one x n in
    omega (arith, first, others, rest)
  where
    apart : (x : ℕ) → eqb (suc x) 0 ≡ false
    apart x = elim (eqb_tells (suc x) 0) [ inl t ↦ absurd (let e = t.1 in omega (arith, e)) | inr t ↦ t.0 ]

    smaller : (y : ℕ) → eqb (suc x) (suc y) ≡ true → eqb x y ≡ true
    smaller y e = elim (eqb_tells x y) [
      | inl t ↦ t.0
      | inr t ↦ elim (eqb_tells (suc x) (suc y)) [
        | inl u ↦ absurd (t.1 (let e' = u.1 in omega (arith, e')))
        | inr u ↦ absurd (false≢true (sym u.0 ∙ e))
      ]
    ]

-- a union has no more than the sum of the counts
pub count-any : (c : ℕ → ℕ → Bool) (t n : ℕ) → count (λ y. any_below (λ e. c e y) t) n ≤ total (λ e. count (c e) n) t
count-any c zero n = let none = total-const 0 n in omega (arith, none)
count-any c (suc t) n =
    let parts = count-or (c 0) (λ y. any_below (λ e. c (suc e) y) t) n in
    let rest = count-any (λ e. c (suc e)) t n in
    omega (arith, parts, rest)

-- what has values only at the numbers that pass, and none above c
pub total_within : (b : ℕ → Bool) (f : ℕ → ℕ) (c n : ℕ) → ((x : ℕ) → x < n → f x ≤ cond (b x) 1 0 * c) → total f n ≤ count b n * c
total_within b f c n each =
    let scaled = total-scaled (λ x. cond (b x) 1 0) c n in
    let less = total-le f (λ x. cond (b x) 1 0 * c) n each in
    omega (arith, scaled, less)

-- what has values of at least c at the numbers that pass
pub total_beyond : (b : ℕ → Bool) (f : ℕ → ℕ) (c n : ℕ) → ((x : ℕ) → x < n → cond (b x) 1 0 * c ≤ f x) → count b n * c ≤ total f n
total_beyond b f c n each =
    let scaled = total-scaled (λ x. cond (b x) 1 0) c n in
    let less = total-le (λ x. cond (b x) 1 0 * c) f n each in
    omega (arith, scaled, less)

-- not many numbers have large values
pub count_large : (f : ℕ → ℕ) (c n : ℕ) → count (λ x. leb c (f x)) n * c ≤ total f n
count_large f c n = total_beyond (λ x. leb c (f x)) f c n (λ x l. elim (leb_tells c (f x)) [
  | inl t ↦ rw t.0 (let low = t.1 in omega arith)
  | inr t ↦ rw t.0 (omega arith)
])

-- ---- some and all
pub all_at : (b : ℕ → Bool) (n x : ℕ) → x < n → all_below b n ≡ true → b x ≡ true
all_at b zero x l e = absurd (omega arith)
all_at b (suc n) x l e = go (b 0) refl e x l (all_at (λ x. b (suc x)) n)
  where
    go : (t : Bool) → b 0 ≡ t → (t && all_below (λ x. b (suc x)) n) ≡ true → (x : ℕ) → x < suc n
        → ((x : ℕ) → x < n → all_below (λ x. b (suc x)) n ≡ true → b (suc x) ≡ true) → b x ≡ true
    go false here e x l further = absurd (false≢true e)
    go true here e zero l further = here
    go true here e (suc x) l further = further x (omega arith) e
