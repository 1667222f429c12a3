-- Sums over all lists of random strings: what depends on the strings of some nodes alone is as likely as where only these draw, and what happens
-- rarely enough doesn't happen at some list.
use Rattle.std.proofs.Common.{◌≡◌, ◌≢◌, ℕ, zero, suc, pred, ◌+◌, ◌*◌, ◌^◌, ◌≤◌, ◌<◌, Bool, true, false, cond, inl, inr, List, [], ◌∷◌, ◌++◌, map, length, filter, refl, sym, ◌∙◌, ap, arith}
use Rattle.std.specs.Prelude.{Contains, flat_map, slice_index}
use Rattle.std.specs.List.{AllByRecursion}
use Rattle.std.proofs.Math.Nat.{mul-le-mul_left, mul-le-mul_right, one-le-pow, pow-succ', pow-zero}
use Rattle.std.proofs.lemmas.Bool.{cases_lt}
use Rattle.re_local.proofs.Counting.{one_if, total, total-add, total-const, total-le, total-scaled, total-swap}
use Rattle.re_labels.specs.Lists.{count_from}
use Rattle.re_layers.specs.Networks.{AreDifferent}
use Rattle.re_classes.specs.RandomAlgorithms.{string_lists}

-- the sum of f over all lists of k strings
abbrev pub tally : ℕ → ℕ → (List ℕ → ℕ) → ℕ
tally R zero f = f []
tally R (suc k) f = total (λ s. tally R k (λ strings. f (s ∷ strings))) R

pub total-same : (f g : ℕ → ℕ) (n : ℕ) → ((x : ℕ) → f x ≡ g x) → total f n ≡ total g n
total-same f g n same =
    let less : total f n ≤ total g n = total-le f g n (λ x l. (let e = same x in omega (arith, e))) in
    let most : total g n ≤ total f n = total-le g f n (λ x l. (let e = same x in omega (arith, e))) in
    omega (arith, less, most)

pub tally-same : (R k : ℕ) (f g : List ℕ → ℕ) → ((strings : List ℕ) → f strings ≡ g strings) → tally R k f ≡ tally R k g
tally-same R zero f g same = same []
tally-same R (suc k) f g same =
    total-same (λ s. tally R k (λ strings. f (s ∷ strings))) (λ s. tally R k (λ strings. g (s ∷ strings))) R
    (λ s. tally-same R k (λ strings. f (s ∷ strings)) (λ strings. g (s ∷ strings)) (λ strings. same (s ∷ strings)))

tally-add : (R k : ℕ) (f g : List ℕ → ℕ) → tally R k (λ strings. f strings + g strings) ≡ tally R k f + tally R k g
tally-add R zero f g = refl
tally-add R (suc k) f g =
    total-same (λ s. tally R k (λ strings. f (s ∷ strings) + g (s ∷ strings)))
    (λ s. tally R k (λ strings. f (s ∷ strings)) + tally R k (λ strings. g (s ∷ strings))) R
    (λ s. tally-add R k (λ strings. f (s ∷ strings)) (λ strings. g (s ∷ strings)))
    ∙ total-add (λ s. tally R k (λ strings. f (s ∷ strings))) (λ s. tally R k (λ strings. g (s ∷ strings))) R

pub tally-const : (R k c : ℕ) → tally R k (λ strings. c) ≡ R ^ k * c
tally-const R zero c = rw (pow-zero R) (omega arith)
tally-const R (suc k) c =
    let each : total (λ s. tally R k (λ strings. c)) R ≡ R * tally R k (λ strings. c) = total-const (tally R k (λ strings. c)) R in
    each ∙ scaled (tally R k (λ strings. c)) (R ^ k) (tally-const R k c) (R ^ suc k) (pow-succ' R k)
  where
    scaled : (t p : ℕ) → t ≡ p * c → (p' : ℕ) → p' ≡ R * p → R * t ≡ p' * c
    scaled t p e p' e' = rw (e, e') (omega arith)

-- ---- the string of one node first
-- the list with one string more, at a place
abbrev pub put_in : ℕ → ℕ → List ℕ → List ℕ
put_in zero s strings = s ∷ strings
put_in (suc x) s [] = 0 ∷ put_in x s []
put_in (suc x) s (t ∷ strings) = t ∷ put_in x s strings

-- the number of a place where the place x is left out
abbrev pub without : ℕ → ℕ → ℕ
without zero y = pred y
without (suc x) zero = zero
without (suc x) (suc y) = suc (without x y)

put_in-there : (x s : ℕ) (strings : List ℕ) → slice_index (put_in x s strings) x ≡ s
put_in-there zero s strings = refl
put_in-there (suc x) s [] = put_in-there x s []
put_in-there (suc x) s (t ∷ strings) = put_in-there x s strings

put_in-other : (x s y : ℕ) (strings : List ℕ) → y ≢ x → slice_index (put_in x s strings) y ≡ slice_index strings (without x y)
put_in-other zero s zero strings other = absurd (other refl)
put_in-other zero s (suc y) strings other = refl
put_in-other (suc x) s zero [] other = refl
put_in-other (suc x) s (suc y) [] other = put_in-other x s y [] (λ e. other (ap suc e))
put_in-other (suc x) s zero (t ∷ strings) other = refl
put_in-other (suc x) s (suc y) (t ∷ strings) other = put_in-other x s y strings (λ e. other (ap suc e))

without-below : (x y n : ℕ) → y ≢ x → y < suc n → x < suc n → without x y < n
without-below zero zero n other l m = absurd (other refl)
without-below zero (suc y) n other l m = omega arith
without-below (suc x) zero n other l m = omega arith
without-below (suc x) (suc y) zero other l m = absurd (omega arith)
without-below (suc x) (suc y) (suc n) other l m = let rest = without-below x y n (λ e. other (ap suc e)) (omega arith) (omega arith) in omega (arith, rest)

without-same : (x y z : ℕ) → y ≢ x → z ≢ x → without x y ≡ without x z → y ≡ z
without-same zero zero z other other' e = absurd (other refl)
without-same zero (suc y) zero other other' e = absurd (other' refl)
without-same zero (suc y) (suc z) other other' e = ap suc e
without-same (suc x) zero zero other other' e = refl
without-same (suc x) zero (suc z) other other' e = absurd (omega (arith, e))
without-same (suc x) (suc y) zero other other' e = absurd (omega (arith, e))
without-same (suc x) (suc y) (suc z) other other' e = ap suc (without-same x y z (λ e. other (ap suc e)) (λ e. other' (ap suc e)) (ap pred e))

tally-first : (R n x : ℕ) (f : List ℕ → ℕ) → x < suc n → tally R (suc n) f ≡ total (λ s. tally R n (λ strings. f (put_in x s strings))) R
tally-first R n zero f l = refl
tally-first R zero (suc x) f l = absurd (omega arith)
tally-first R (suc n) (suc x) f l =
    total-same (λ t. tally R (suc n) (λ strings. f (t ∷ strings))) (λ t. total (λ s. tally R n (λ strings. f (t ∷ put_in x s strings))) R) R
    (λ t. tally-first R n x (λ strings. f (t ∷ strings)) (omega arith))
    ∙ total-swap (λ t s. tally R n (λ strings. f (t ∷ put_in x s strings))) R R

-- ---- independence
others_same : (x s : ℕ) (strings ids : List ℕ) → (Contains ids x → ⊥)
    → map (slice_index (put_in x s strings)) ids ≡ map (slice_index strings) (map (without x) ids)
others_same x s strings [] none = refl
others_same x s strings (y ∷ ids) none =
    let here : slice_index (put_in x s strings) y ≡ slice_index strings (without x y) =
    put_in-other x s y strings (λ e. none (zero, omega arith, e)) in
    let rest : map (slice_index (put_in x s strings)) ids ≡ map (slice_index strings) (map (without x) ids) =
    others_same x s strings ids (λ held. none (suc held.0, (let l = held.1 in omega (arith, l)), held.2)) in
    rw (here, rest) refl

-- different ones are still so where another one is left out
still_different : (x : ℕ) (ids : List ℕ) → (Contains ids x → ⊥) → AreDifferent ids → AreDifferent (map (without x) ids)
still_different x [] none apart = tt
still_different x (y ∷ ids) none apart = (
  λ held. back ids (λ held. none (suc held.0, (let l = held.1 in omega (arith, l)), held.2)) held apart.0,
  still_different x ids
      (λ held. none (suc held.0, (let l = held.1 in omega (arith, l)), held.2)) apart.1,
)
  where
    back : (zs : List ℕ) → (Contains zs x → ⊥) → Contains (map (without x) zs) (without x y) → (Contains zs y → ⊥) → ⊥
    back [] not_x (k, l, e) not_y = omega (arith, l)
    back (z ∷ zs) not_x (zero, l, e) not_y =
        not_y (zero, omega arith, without-same x z y (λ e. not_x (zero, omega arith, e)) (λ e. none (zero, omega arith, e)) e)
    back (z ∷ zs) not_x (suc k, l, e) not_y =
        back zs (λ held. not_x (suc held.0, (let l = held.1 in omega (arith, l)), held.2)) (k, omega arith, e)
        (λ held. not_y (suc held.0, (let l = held.1 in omega (arith, l)), held.2))

still_below : (x n : ℕ) (ids : List ℕ) → x < suc n → (Contains ids x → ⊥) → AllByRecursion (λ y. y < suc n) ids
    → AllByRecursion (λ y. y < n) (map (without x) ids)
still_below x n [] l none below = tt
still_below x n (y ∷ ids) l none below = (
  without-below x y n (λ e. none (zero, omega arith, e)) below.0 l,
  still_below x n ids l (λ held. none (suc held.0, (let l = held.1 in omega (arith, l)), held.2)) below.1,
)

-- where N nodes draw, and only the strings of k different ones count, it is as where k nodes draw
pub drawn_apart : (R k N : ℕ) (ids : List ℕ) (f : List ℕ → ℕ) → length ids ≡ k → AreDifferent ids → AllByRecursion (λ x. x < N) ids
    → tally R N (λ strings. f (map (slice_index strings) ids)) * R ^ k ≡ R ^ N * tally R k f
drawn_apart R zero N [] f count apart below =
    let all = tally-const R N (f []) in
    let one : R ^ 0 ≡ 1 = pow-zero R in
    rw (all, one) (omega arith)
drawn_apart R zero N (x ∷ ids) f count apart below = absurd (omega (arith, count))
drawn_apart R (suc k) N [] f count apart below = absurd (omega (arith, count))
drawn_apart R (suc k) zero (x ∷ ids) f count apart below = absurd (let l : x < 0 = below.0 in omega (arith, l))
drawn_apart R (suc k) (suc n) (x ∷ ids) f count apart below =
    let first = tally-first R n x (λ strings. f (map (slice_index strings) (x ∷ ids))) below.0 in
    let parts : total (λ s. tally R n (λ strings. f (map (slice_index (put_in x s strings)) (x ∷ ids)))) R ≡ total inner R =
    total-same (λ s. tally R n (λ strings. f (map (slice_index (put_in x s strings)) (x ∷ ids)))) inner R
    (λ s. tally-same R n (λ strings. f (map (slice_index (put_in x s strings)) (x ∷ ids))) (λ strings. f (s ∷ map (slice_index strings) (map (without x) ids)))
    (λ strings. rw (put_in-there x s strings, others_same x s strings ids apart.0) refl)) in
    let each : total (λ s. inner s * R ^ k) R ≡ total (λ s. tally R k (λ strings. f (s ∷ strings)) * R ^ n) R =
    total-same (λ s. inner s * R ^ k) (λ s. tally R k (λ strings. f (s ∷ strings)) * R ^ n) R
    (λ s. (let e = drawn_apart R k n (map (without x) ids) (λ strings. f (s ∷ strings)) (length_less ids count) (still_different x ids apart.0 apart.1)
    (still_below x n ids below.0 apart.0 below.1) in omega (arith, e))) in
    let left = total-scaled inner (R ^ k) R in
    let right = total-scaled (λ s. tally R k (λ strings. f (s ∷ strings))) (R ^ n) R in
    rw (first, parts, pow-succ' R k, pow-succ' R n)
    (scaled (total inner R) (R ^ k) (R ^ n) (total (λ s. tally R k (λ strings. f (s ∷ strings))) R) (sym left ∙ each ∙ right))
  where
    inner : ℕ → ℕ
    inner = λ s. tally R n (λ strings. f (s ∷ map (slice_index strings) (map (without x) ids)))

    length_less : (ids : List ℕ) → suc (length ids) ≡ suc k → length (map (without x) ids) ≡ k
    length_less ids e = mapped ids ∙ ap pred e
      where
        mapped : (ids : List ℕ) → length (map (without x) ids) ≡ length ids
        mapped [] = refl
        mapped (y ∷ ids) = ap suc (mapped ids)

    scaled : (t p p' u : ℕ) → t * p ≡ u * p' → t * (R * p) ≡ R * p' * u
    scaled t p p' u e = let e' : R * (t * p) ≡ R * (u * p') = ap (λ z. R * z) e in omega (arith, e')

-- what is rare where k nodes draw is so where N nodes draw
pub rare_apart : (R k N q : ℕ) (ids : List ℕ) (f : List ℕ → ℕ) → 1 ≤ k → length ids ≡ k → AreDifferent ids → AllByRecursion (λ x. x < N) ids
    → q * tally R k f < R ^ k
    → q * tally R N (λ strings. f (map (slice_index strings) ids)) < R ^ N
rare_apart R k N q ids f some count apart below rare =
    compare (tally R N (λ strings. f (map (slice_index strings) ids))) (tally R k f) (R ^ k) (R ^ N) (drawn_apart R k N ids f count apart below) rare
    (one-le-pow N R (some_string R k some rare))
  where
    some_string : (R k : ℕ) → 1 ≤ k → q * tally R k f < R ^ k → 1 ≤ R
    some_string (suc R) k some rare = omega arith
    some_string zero zero some rare = absurd (omega (arith, some))
    some_string zero (suc k) some rare =
        let none : 0 ^ suc k ≡ 0 * 0 ^ k = pow-succ' 0 k in
        absurd (let none' : 0 * 0 ^ k ≡ 0 = omega arith in omega (arith, none, none', rare))

    compare : (t u p p' : ℕ) → t * p ≡ p' * u → q * u < p → 1 ≤ p' → q * t < p'
    compare t u p p' e l pos = elim (cases_lt (q * t) p') [
      | inl less ↦ less
      | inr more ↦
          (let up : p * p' ≤ p * (q * t) = mul-le-mul_left p more in
          let up' : p' * suc (q * u) ≤ p' * p = mul-le-mul_left p' l in
          let e' : q * (t * p) ≡ q * (p' * u) = ap (λ z. q * z) e in
          absurd (omega (arith, up, up', e', pos)))
    ]

-- ---- some list at which nothing happens
total_least : (f : ℕ → ℕ) (n c : ℕ) → total f n < n * c → (x : ℕ) × (x < n) × (f x < c)
total_least f zero c l = absurd (let none : 0 * c ≡ 0 = omega arith in omega (arith, l))
total_least f (suc n) c l = elim (cases_lt (f 0) c) [
  | inl less ↦ (0, omega arith, less)
  | inr more ↦ (let further : total (λ x. f (suc x)) n < n * c = omega (arith, l, more) in
      let (x, m, less) = total_least (λ x. f (suc x)) n c further in (suc x, omega (arith, m), less))
]

some_none : (R N : ℕ) (f : List ℕ → ℕ) → tally R N f < R ^ N → (strings : List ℕ) × (f strings ≡ 0)
some_none R zero f l = ([], (let one : R ^ 0 ≡ 1 = pow-zero R in omega (arith, one, l)))
some_none R (suc N) f l =
    let power : R ^ suc N ≡ R * R ^ N = pow-succ' R N in
    let (s, m, less) = total_least (λ s. tally R N (λ strings. f (s ∷ strings))) R (R ^ N) (omega (arith, l, power)) in
    let (strings, none) = some_none R N (λ strings. f (s ∷ strings)) less in
    (s ∷ strings, none)

-- how many of these tests pass
abbrev pub happening : List (List ℕ → Bool) → List ℕ → ℕ
happening [] strings = 0
happening (event ∷ events) strings = one_if (event strings) + happening events strings

sum_of : (R N q : ℕ) (events : List (List ℕ → Bool))
    → AllByRecursion (λ (event : List ℕ → Bool). q * tally R N (λ strings. one_if (event strings)) < R ^ N) events
    → q * tally R N (happening events) + length events ≤ length events * R ^ N
sum_of R N q [] rare =
    let none : tally R N (λ strings. 0) ≡ R ^ N * 0 = tally-const R N 0 in
    let zeros : q * (R ^ N * 0) ≡ 0 = omega arith in
    rw (none, zeros) (omega arith)
sum_of R N q (event ∷ events) rare =
    let rest = sum_of R N q events rare.1 in
    let parts : tally R N (λ strings. one_if (event strings) + happening events strings) ≡ tally R N (λ strings. one_if (event strings)) + tally R N
    (happening events) =
    tally-add R N (λ strings. one_if (event strings)) (happening events) in
    let here : q * tally R N (λ strings. one_if (event strings)) < R ^ N = rare.0 in
    rw parts (together (tally R N (λ strings. one_if (event strings))) (tally R N (happening events)) (length events) (R ^ N) here rest)
  where
    together : (t u n p : ℕ) → q * t < p → q * u + n ≤ n * p → q * (t + u) + suc n ≤ suc n * p
    together t u n p l m = omega (arith, l, m)

none-happening : (events : List (List ℕ → Bool)) (strings : List ℕ) → happening events strings ≡ 0
    → AllByRecursion (λ (event : List ℕ → Bool). event strings ≡ false) events
none-happening [] strings none = tt
none-happening (event ∷ events) strings none = (here (event strings) (omega (arith, none)), none-happening events strings (omega (arith, none)))
  where
    here : (b : Bool) → one_if b ≡ 0 → b ≡ false
    here false e = refl
    here true e = absurd (omega (arith, e))

-- at some list of strings none of q events happens, if each of them is less likely than one in q
pub none_happens : (R N q : ℕ) (events : List (List ℕ → Bool))
    → AllByRecursion (λ (event : List ℕ → Bool). q * tally R N (λ strings. one_if (event strings)) < R ^ N) events
    → length events ≤ q → (strings : List ℕ) × AllByRecursion (λ (event : List ℕ → Bool). event strings ≡ false) events
none_happens R N q [] rare few = ([], tt)
none_happens R N q (event ∷ events) rare few =
    let sum = sum_of R N q (event ∷ events) rare in
    let less = compare (tally R N (happening (event ∷ events))) (length events) (R ^ N) few sum in
    let (strings, none) = some_none R N (happening (event ∷ events)) less in
    (strings, none-happening (event ∷ events) strings none)
  where
    compare : (t n p : ℕ) → suc n ≤ q → q * t + suc n ≤ suc n * p → t < p
    compare t n p l m = elim (cases_lt t p) [
      | inl less ↦ less
      | inr more ↦
          (let up : suc n * p ≤ suc n * t = mul-le-mul_left (suc n) more in
          let up' : suc n * t ≤ q * t = mul-le-mul_right t l in
          absurd (omega (arith, up, up', m)))
    ]

-- ---- counts of lists of strings
-- how many of these pass the test
abbrev pub passing : {X : Type 0} → (X → Bool) → List X → ℕ
passing test xs = length (filter test xs)

passing-append : {X : Type 0} (test : X → Bool) (xs ys : List X) → passing test (xs ++ ys) ≡ passing test xs + passing test ys
passing-append test [] ys = omega arith
passing-append test (x ∷ xs) ys = go (test x) (passing-append test xs ys)
  where
    go : (b : Bool) → passing test (xs ++ ys) ≡ passing test xs + passing test ys
        → length (cond b (x ∷ filter test (xs ++ ys)) (filter test (xs ++ ys))) ≡ length (cond b (x ∷ filter test xs) (filter test xs)) + passing test ys
    go false e = e
    go true e = omega (arith, e)

passing-map : {X Y : Type 0} (test : Y → Bool) (f : X → Y) (xs : List X) → passing test (map f xs) ≡ passing (λ x. test (f x)) xs
passing-map test f [] = refl
passing-map test f (x ∷ xs) = go (test (f x)) (passing-map test f xs)
  where
    go : (b : Bool) → passing test (map f xs) ≡ passing (λ x. test (f x)) xs
        → length (cond b (f x ∷ filter test (map f xs)) (filter test (map f xs))) ≡ length
        (cond b (x ∷ filter (λ x. test (f x)) xs) (filter (λ x. test (f x)) xs))
    go false e = e
    go true e = ap suc e

passing-flat_map : (test : List ℕ → Bool) (f : ℕ → List (List ℕ)) (i n : ℕ)
    → passing test (flat_map f (count_from i n)) ≡ total (λ x. passing test (f (i + x))) n
passing-flat_map test f i zero = refl
passing-flat_map test f i (suc n) =
    let here : i + 0 ≡ i = omega arith in
    let next : (x : ℕ) → suc i + x ≡ i + suc x = λ x. omega arith in
    passing-append test (f i) (flat_map f (count_from (suc i) n))
    ∙ (ap (λ t. passing test (f i) + t)
    (passing-flat_map test f (suc i) n ∙ total-same (λ x. passing test (f (suc i + x))) (λ x. passing test (f (i + suc x))) n
    (λ x. ap (λ y. passing test (f y)) (next x)))
    ∙ ap (λ j. passing test (f j) + total (λ x. passing test (f (i + suc x))) n) (sym here))

pub passing-strings : (R k : ℕ) (test : List ℕ → Bool) → length (filter test (string_lists R k)) ≡ tally R k (λ strings. one_if (test strings))
passing-strings R zero test = go (test [])
  where
    none : List ℕ
    none = []

    go : (b : Bool) → length (cond b (none ∷ []) []) ≡ one_if b
    go false = refl
    go true = refl
passing-strings R (suc k) test =
    passing-flat_map test (λ s. map (λ strings. s ∷ strings) (string_lists R k)) 0 R
    ∙ total-same (λ s. passing test (map (λ strings. (0 + s) ∷ strings) (string_lists R k))) (λ s. tally R k (λ strings. one_if (test (s ∷ strings)))) R
    (λ s. each s (passing-strings R k (λ strings. test (s ∷ strings))))
  where
    each : (s : ℕ) → passing (λ strings. test (s ∷ strings)) (string_lists R k) ≡ tally R k (λ strings. one_if (test (s ∷ strings)))
        → passing test (map (λ strings. (0 + s) ∷ strings) (string_lists R k)) ≡ tally R k (λ strings. one_if (test (s ∷ strings)))
    each s rest =
        let same : 0 + s ≡ s = omega arith in
        ap (λ t. passing test (map (λ strings. t ∷ strings) (string_lists R k))) same ∙ (passing-map test (λ strings. s ∷ strings) (string_lists R k) ∙ rest)
