-- Numbers, digit after digit.
use Rattle.std.proofs.Common.{◌≡◌, ℕ, suc, ◌<◌, ◌≤◌, ◌+◌, ◌-◌, ◌*◌, ◌^◌, Bool, true, false, List, [], ◌∷◌, ◌++◌, length, take, get_or, refl, arith, add-one}
use Rattle.std.specs.Char.{is_ascii_digit}
use Rattle.std.specs.List.{list_all}
use Rattle.std.proofs.Math.Nat.{pow-le-pow_right, pow-suc}
use Rattle.std.proofs.lemmas.List.{take_more}
use Rattle.std.proofs.lemmas.List.Folds.{list_all_at}
use Rattle.std.proofs.lemmas.Bool.Decides.{nat_tests}
use Rattle.re_problem.specs.Numerals.{continued}

-- one digit more keeps the number below the next power of ten
pub ten_times : (value digit i : ℕ) → value < 10 ^ i → digit < 10 → i < 9 → (10 * value + digit < 10 ^ (i + 1)) × (10 * value + digit < 2 ^ 32)
ten_times value digit i below small few =
    let power : 10 ^ suc i ≡ 10 ^ i * 10 = pow-suc 10 i in
    let most : 10 ^ i ≤ 10 ^ 8 = pow-le-pow_right {n = 10} (omega arith) {i = i} {j = 8} (omega arith) in
    (rw add-one (omega arith), omega arith)

continued_more : (value : ℕ) (digits : List ℕ) (digit : ℕ) → continued value (digits ++ digit ∷ []) ≡ 10 * continued value digits + (digit - 48)
continued_more value [] digit = refl
continued_more value (d ∷ digits) digit = continued_more (10 * value + (d - 48)) digits digit

pub continued_next : (digits : List ℕ) (i : ℕ) → i < length digits → continued 0 (take (i + 1) digits) ≡ 10 * continued 0 (take i digits) + (get_or digits i 0 - 48)
continued_next digits i below = rw (take_more digits i 0 below) (continued_more 0 (take i digits) (get_or digits i 0))

pub digit_range : (digits : List ℕ) (i : ℕ) → list_all is_ascii_digit digits ≡ true → i < length digits → (48 ≤ get_or digits i 0) × (get_or digits i 0 ≤ 57)
digit_range digits i all below = go (is_ascii_digit (get_or digits i 0)) refl
  where
    go : (test : Bool) → is_ascii_digit (get_or digits i 0) ≡ test → (48 ≤ get_or digits i 0) × (get_or digits i 0 ≤ 57)
    go false is = let none : list_all is_ascii_digit digits ≡ false = list_all_at is_ascii_digit digits i 0 below is in absurd (cc)
    go true is = (grind (arith, nat_tests, is), grind (arith, nat_tests, is))

-- the next digit of a number
pub next_digit : (digits : List ℕ) (i digit value : ℕ) → list_all is_ascii_digit digits ≡ true → length digits ≤ 9 → i < length digits
    → digit ≡ get_or digits i 0 - 48 → value < 10 ^ i → (10 * value + digit < 10 ^ (i + 1)) × (10 * value + digit < 2 ^ 32)
next_digit digits i digit value all few below is small =
    let range = digit_range digits i all below in
    ten_times value digit i small (omega (arith, range.0, range.1)) (omega arith)

pub next_value : (digits : List ℕ) (i digit value : ℕ) → i < length digits → digit ≡ get_or digits i 0 - 48 → value ≡ continued 0 (take i digits)
    → 10 * value + digit ≡ continued 0 (take (i + 1) digits)
next_value digits i digit value below is so_far = rw (continued_next digits i below, is, so_far) refl
