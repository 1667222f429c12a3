-- How many trees of input labels there are.
use Rattle.std.proofs.Common.{◌≡◌, ℕ, zero, suc, pred, ◌*◌, ◌^◌, ◌≤◌, List, length, map, get_or, sym, ◌∙◌, ap, arith}
use Rattle.std.specs.Prelude.{flat_map}
use Rattle.std.proofs.Math.Nat.{mul-le-mul, mul-le-mul_right, one-le-mul, one-le-pow, pow-le-pow_left, pow-le-pow_right, pow-suc, pow-succ', pow-zero}
use Rattle.re_labels.proofs.OrdersAt.{length-flat_map}
use Rattle.re_given.proofs.AllInputViews.{all_children, all_trees}
use Rattle.re_given.specs.InputViews.{InputView}
use Rattle.re_labels.proofs.Membership.{length-count_from, length-map'}
use Rattle.re_labels.specs.Lists.{count_from}
use Rattle.re_layers.proofs.Towers.{power_of}
use Rattle.re_laws.specs.Trees.{leaf, more}

children_count : (l e : ℕ) (branches : List InputView) (n : ℕ) → length (all_children l e branches n) ≡ (e * l * length branches) ^ n
children_count l e branches zero = sym (pow-zero (e * l * length branches))
children_count l e branches (suc n) =
    let inner : (back label : ℕ) → length (flat_map (λ branch. map (more back label branch) (all_children l e branches n)) branches)
    ≡ length branches * length (all_children l e branches n) =
    λ back label. length-flat_map (λ branch. map (more back label branch) (all_children l e branches n)) (length (all_children l e branches n)) branches leaf
    (λ k m. length-map' (more back label (get_or branches k leaf)) (all_children l e branches n)) in
    let middle : (back : ℕ) → length
    (flat_map (λ label. flat_map (λ branch. map (more back label branch) (all_children l e branches n)) branches) (count_from 0 l))
    ≡ length (count_from 0 l) * (length branches * length (all_children l e branches n)) =
    λ back. length-flat_map (λ label. flat_map (λ branch. map (more back label branch) (all_children l e branches n)) branches)
    (length branches * length (all_children l e branches n)) (count_from 0 l) 0
    (λ k m. inner back (get_or (count_from 0 l) k 0)) in
    let outer : length (all_children l e branches (suc n)) ≡ length (count_from 1 e) *
    (length (count_from 0 l) * (length branches * length (all_children l e branches n))) =
    length-flat_map (λ back. flat_map (λ label. flat_map (λ branch. map (more back label branch) (all_children l e branches n)) branches) (count_from 0 l))
    (length (count_from 0 l) * (length branches * length (all_children l e branches n))) (count_from 1 e) 0 (λ k m. middle (get_or (count_from 1 e) k 0)) in
    outer ∙ together (length-count_from 1 e) (length-count_from 0 l) (children_count l e branches n)
  where
    regrouped : (b x : ℕ) → e * (l * (b * x)) ≡ e * l * b * x
    regrouped b x = omega arith

    together : {e' l' c : ℕ} → e' ≡ e → l' ≡ l → c ≡ (e * l * length branches) ^ n → e' * (l' * (length branches * c)) ≡ (e * l * length branches) ^ suc n
    together first second third = rw (first, second, third, pow-succ' (e * l * length branches) n) (regrouped (length branches) ((e * l * length branches) ^ n))

-- the powers for one layer more
layer : (m l t n c : ℕ) → 1 ≤ m → 1 ≤ l → c ≤ (m * l) ^ (m ^ t) → n ≤ m → c ^ n ≤ (m * l) ^ (m ^ suc t)
layer m l t n c some some' low few =
    let all : 1 ≤ m * l = one-le-mul some some' in
    let base : c ^ n ≤ ((m * l) ^ (m ^ t)) ^ n = pow-le-pow_left low n in
    let more : ((m * l) ^ (m ^ t)) ^ n ≤ ((m * l) ^ (m ^ t)) ^ m = pow-le-pow_right (one-le-pow (m ^ t) (m * l) all) few in
    let is : (m * l) ^ (m ^ suc t) ≡ ((m * l) ^ (m ^ t)) ^ m = ap (λ e. (m * l) ^ e) (pow-suc m t) ∙ power_of (m * l) (m ^ t) m in
    omega (arith, base, more, is)

branch_count : (m l d e t n : ℕ) → 1 ≤ m → 1 ≤ l → d ≤ m → e ≤ m → suc n ≤ m → m * l * length (all_trees l d e t n) ≤ (m * l) ^ (m ^ t)
branch_count m l d e zero n some some' low low' few =
    let first : m ^ 0 ≡ 1 = pow-zero m in
    let one : (m * l) ^ 1 ≡ m * l * (m * l) ^ 0 = pow-succ' (m * l) 0 in
    let none : (m * l) ^ 0 ≡ 1 = pow-zero (m * l) in
    rw (first, one, none) (omega arith)
branch_count m l d e (suc t) n some some' low low' few =
    let behind : m * l * length (all_trees l e d t (pred e)) ≤ (m * l) ^ (m ^ t) = branch_count m l e d t (pred e) some some' low' low (short e low') in
    let here : e * l * length (all_trees l e d t (pred e)) ≤ (m * l) ^ (m ^ t) = smaller (length (all_trees l e d t (pred e))) ((m * l) ^ (m ^ t)) behind in
    let own : (e * l * length (all_trees l e d t (pred e))) ^ n ≤ ((m * l) ^ (m ^ t)) ^ n = pow-le-pow_left here n in
    let one : m * l ≤ (m * l) ^ (m ^ t) = at_least in
    let both : m * l * (e * l * length (all_trees l e d t (pred e))) ^ n ≤ (m * l) ^ (m ^ t) * ((m * l) ^ (m ^ t)) ^ n = mul-le-mul one own in
    let power : ((m * l) ^ (m ^ t)) ^ suc n ≡ (m * l) ^ (m ^ t) * ((m * l) ^ (m ^ t)) ^ n = pow-succ' ((m * l) ^ (m ^ t)) n in
    let high : ((m * l) ^ (m ^ t)) ^ suc n ≤ (m * l) ^ (m ^ suc t) = layer m l t (suc n) ((m * l) ^ (m ^ t)) some some' (omega arith) few in
    rw (children_count l e (all_trees l e d t (pred e)) n) (omega (arith, both, power, high))
  where
    short : (e : ℕ) → e ≤ m → suc (pred e) ≤ m
    short zero low = omega (arith, some)
    short (suc e) low = omega (arith, low)

    smaller : (b x : ℕ) → m * l * b ≤ x → e * l * b ≤ x
    smaller b x h = let less : e * (l * b) ≤ m * (l * b) = mul-le-mul_right (l * b) low' in omega (arith, less, h)

    at_least : m * l ≤ (m * l) ^ (m ^ t)
    at_least =
        let all : 1 ≤ m * l = one-le-mul some some' in
        let up : (m * l) ^ 1 ≤ (m * l) ^ (m ^ t) = pow-le-pow_right all (one-le-pow t m some) in
        let one : (m * l) ^ 1 ≡ m * l * (m * l) ^ 0 = pow-succ' (m * l) 0 in
        let none : (m * l) ^ 0 ≡ 1 = pow-zero (m * l) in
        let is : m * l * (m * l) ^ 0 ≡ m * l * 1 = ap (λ z. m * l * z) none in
        omega (arith, up, one, is)

pub view_count : (m l d e t n : ℕ) → 1 ≤ m → 1 ≤ l → d ≤ m → e ≤ m → n ≤ m → length (all_trees l d e (suc t) n) ≤ (m * l) ^ (m ^ suc t)
view_count m l d e t n some some' low low' few =
    let behind : m * l * length (all_trees l e d t (pred e)) ≤ (m * l) ^ (m ^ t) = branch_count m l e d t (pred e) some some' low' low (short e low') in
    let here : e * l * length (all_trees l e d t (pred e)) ≤ (m * l) ^ (m ^ t) = smaller (length (all_trees l e d t (pred e))) ((m * l) ^ (m ^ t)) behind in
    rw (children_count l e (all_trees l e d t (pred e)) n) (layer m l t n (e * l * length (all_trees l e d t (pred e))) some some' here few)
  where
    short : (e : ℕ) → e ≤ m → suc (pred e) ≤ m
    short zero low = omega (arith, some)
    short (suc e) low = omega (arith, low)

    smaller : (b x : ℕ) → m * l * b ≤ x → e * l * b ≤ x
    smaller b x h = let less : e * (l * b) ≤ m * (l * b) = mul-le-mul_right (l * b) low' in omega (arith, less, h)
