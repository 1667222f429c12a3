-- How long the lists of all trees are.
use Rattle.std.proofs.Common.{◌≡◌, ℕ, zero, suc, pred, ◌+◌, ◌*◌, ◌^◌, ◌≤◌, ◌<◌, List, [], ◌∷◌, map, length, get_or, refl, sym, ◌∙◌, ap, arith, length-append}
use Rattle.std.proofs.Math.Nat.{mul_assoc, mul_comm, one-le-pow, pow-le-pow_right, pow-suc, pow-zero, suc-mul, mul-le-mul, one-le-mul}
use Rattle.std.proofs.lemmas.List.{length-map, get_or-append-add, get_or_append_left}
use Rattle.std.specs.Prelude.{flat_map}
use Rattle.re_labels.proofs.Membership.{length-count_from}
use Rattle.re_labels.specs.Lists.{count_from}
use Rattle.re_algo.specs.Counting.{tree_count}
use Rattle.re_laws.specs.AllViews.{all_children, all_trees, all_views}
use Rattle.re_laws.specs.Trees.{Tree, more}

-- pieces of one length
pub length-pieces : {A B : Type 0} (f : A → List B) (n : ℕ) (xs : List A) → ((x : A) → length (f x) ≡ n) → length (flat_map f xs) ≡ length xs * n
length-pieces f n [] each = omega arith
length-pieces f n (x ∷ xs) each =
    let here : length (f x) ≡ n = each x in
    let rest : length (flat_map f xs) ≡ length xs * n = length-pieces f n xs each in
    length-append (f x) (flat_map f xs) ∙ (rw suc-mul (omega (arith, here, rest)))

-- what stands in a piece
pub get_or-pieces : {A B : Type 0} (f : A → List B) (n : ℕ) (xs : List A) (i j : ℕ) (a : A) (b : B) → ((x : A) → length (f x) ≡ n) → i < length xs → j < n → get_or (flat_map f xs) (i * n + j) b ≡ get_or (f (get_or xs i a)) j b
get_or-pieces f n [] i j a b each l m = absurd (omega arith)
get_or-pieces f n (x ∷ xs) zero j a b each l m =
    let here : length (f x) ≡ n = each x in
    let e : 0 * n + j ≡ j = omega arith in
    rw e (get_or_append_left (f x) (flat_map f xs) b j (omega arith))
get_or-pieces f n (x ∷ xs) (suc i) j a b each l m =
    let here : length (f x) ≡ n = each x in
    let e : suc i * n + j ≡ length (f x) + (i * n + j) = rw suc-mul (omega (arith, here)) in
    rw e (get_or-append-add (f x) (flat_map f xs) (i * n + j) b ∙ get_or-pieces f n xs i j a b each (omega arith) m)

-- a place in a piece is within all pieces
pub piece_below : (i n j m : ℕ) → i < n → j < m → i * m + j < n * m
piece_below i n j m l k =
    let more : suc i * m ≤ n * m = mul-le-mul {n₁ = suc i} {m₁ = m} {n₂ = n} {m₂ = m} l (omega arith) in
    let e : suc i * m ≡ i * m + m = suc-mul i m in
    omega arith

pub length-all_children : (e n : ℕ) (branches : List (Tree (Unit {0}))) → length (all_children e branches n) ≡ (length branches * e) ^ n
length-all_children e zero branches = sym (pow-zero (length branches * e))
length-all_children e (suc n) branches =
    let tails : ℕ = length (all_children e branches n) in
    let tails_is : tails ≡ (length branches * e) ^ n = length-all_children e n branches in
    let pieces : length (all_children e branches (suc n)) ≡ length (count_from 1 e) * (length branches * tails) =
    length-pieces (λ back. flat_map (λ branch. map (more back tt branch) (all_children e branches n)) branches) (length branches * tails) (count_from 1 e)
    (λ back. length-pieces (λ branch. map (more back tt branch) (all_children e branches n)) tails branches (λ branch. length-map (all_children e branches n) (more back tt branch))) in
    pieces ∙ (ap (λ m. m * (length branches * tails)) (length-count_from 1 e)
    ∙ (sym (mul_assoc e (length branches) tails)
    ∙ (ap (λ m. m * tails) (mul_comm e (length branches))
    ∙ (mul_comm (length branches * e) tails
    ∙ (ap (λ m. m * (length branches * e)) tails_is
    ∙ sym (pow-suc (length branches * e) n))))))

pub length-all_trees : (d e t n : ℕ) → length (all_trees d e t n) ≡ tree_count d e t n
length-all_trees d e zero n = refl
length-all_trees d e (suc t) n = length-all_children e n (all_trees e d t (pred e)) ∙ ap (λ m. (m * e) ^ n) (length-all_trees e d t (pred e))

pub tree_count-some : (d e t n : ℕ) → 1 ≤ d → 1 ≤ e → 1 ≤ tree_count d e t n
tree_count-some d e zero n some some' = omega arith
tree_count-some d e (suc t) n some some' =
    let below : 1 ≤ tree_count e d t (pred e) = tree_count-some e d t (pred e) some' some in
    one-le-pow n (tree_count e d t (pred e) * e) (one-le-mul below some')

-- a number is no more than its powers
pub base_within : (b n : ℕ) → 1 ≤ b → 1 ≤ n → b ≤ b ^ n
base_within b n some ports =
    let one : b ^ 1 ≡ b = rw (pow-suc, pow-zero) (omega arith) in
    let up : b ^ 1 ≤ b ^ n = pow-le-pow_right {n = b} some {i = 1} {j = n} ports in
    omega arith

-- a node has no more views than its neighbours of a radius greater by one
pub fewer_views : (d e t : ℕ) → 2 ≤ d → 2 ≤ e → length (all_views e d t) ≤ length (all_views d e (suc t))
fewer_views d e t two two' = rw (length-all_trees e d t e, length-all_trees d e (suc t) d) (fewer t)
  where
    squares : (x n : ℕ) → 1 ≤ x → 2 ≤ n → x * x ≤ x ^ n
    squares x n some many =
        let e : x ^ 2 ≡ x * x = rw (pow-suc, pow-suc, pow-zero) (omega arith) in
        let up : x ^ 2 ≤ x ^ n = pow-le-pow_right {n = x} some {i = 2} {j = n} many in
        omega arith

    fewer : (t : ℕ) → tree_count e d t e ≤ tree_count d e (suc t) d
    fewer zero = tree_count-some d e 1 d (omega arith) (omega arith)
    fewer (suc t) =
        let c : ℕ = tree_count d e t (pred d) * d in
        let c_some : 1 ≤ c = one-le-mul (tree_count-some d e t (pred d) (omega arith) (omega arith)) (omega arith) in
        let b : ℕ = c ^ pred e in
        let b_some : 1 ≤ b = one-le-pow (pred e) c c_some in
        let c_within : c ≤ b = base_within c (pred e) c_some (omega arith) in
        let y_some : 1 ≤ b * e = one-le-mul b_some (omega arith) in
        let b_within : b ≤ b * e = (let m : b * 1 ≤ b * e = mul-le-mul {n₁ = b} {m₁ = 1} {n₂ = b} {m₂ = e} (omega arith) (omega arith) in omega arith) in
        let whole : c ^ suc (pred e) ≡ b * c = pow-suc c (pred e) in
        let e_is : suc (pred e) ≡ e = omega arith in
        let left : c ^ e ≡ b * c = ap (λ n. c ^ n) (sym e_is) ∙ whole in
        let middle : b * c ≤ (b * e) * (b * e) = mul-le-mul {n₁ = b} {m₁ = c} {n₂ = b * e} {m₂ = b * e} b_within (omega arith) in
        let right : (b * e) * (b * e) ≤ (b * e) ^ d = squares (b * e) d y_some two in
        omega arith
