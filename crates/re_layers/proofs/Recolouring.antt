-- One colour less: nodes of the last colour take one that is free around them.
use Rattle.std.proofs.Common.{◌≡◌, ℕ, zero, suc, ◌+◌, ◌*◌, ◌≤◌, ◌<◌, Bool, true, false, cond, List, map, length, refl, sym, ◌∙◌, subst, arith}
use Rattle.std.specs.Prelude.{Contains, ◌==◌, filter}
use Rattle.std.proofs.lemmas.Bool.{eq-eqb, eqb-false, eqb-true}
use Rattle.std.proofs.lemmas.List.{length-map}
use Rattle.re_layers.proofs.Balls.{ball_back, ball_size, length-ball_forest}
use Rattle.re_layers.proofs.FreeNumbers.{free, free_most, free_other}
use Rattle.re_layers.proofs.Locality.{local_among, local_most, local_of}
use Rattle.re_labels.proofs.Membership.{Contains-filter, Contains-map, length-filter_most}
use Rattle.re_layers.specs.Layers.{IsColoured}
use Rattle.re_layers.specs.Networks.{IsForest, IsLocal, Network, ball}

-- different nodes of one class that are at most d hops from each other have different colours
abbrev pub IsApart : ℕ → (ℕ → ℕ) → Network → (ℕ → ℕ) → Type 0
IsApart d class G colour = (v w : ℕ) → Contains (ball G d v) w → (v ≡ w → ⊥) → class v ≡ class w → colour v ≡ colour w → ⊥

-- the colours of the nodes of v's class within d hops
abbrev around : ℕ → (ℕ → ℕ) → (Network → ℕ → ℕ) → Network → ℕ → List ℕ
around d class colour G v = map (λ w. colour G w) (filter (λ w. class v == class w) (ball G d v))

-- nodes of colour q take one of at most B that is free around them
abbrev recoloured_by : ℕ → ℕ → ℕ → List ℕ → ℕ
recoloured_by B q own taken = cond (own == q) (free B taken) own

abbrev pub recoloured : ℕ → ℕ → (ℕ → ℕ) → ℕ → (Network → ℕ → ℕ) → Network → ℕ → ℕ
recoloured d B class q colour G v = recoloured_by B q (colour G v) (around d class colour G v)

pub recoloured_local : (d B : ℕ) (class : ℕ → ℕ) (q r : ℕ) (colour : Network → ℕ → ℕ) → IsLocal r colour → IsLocal (d + r) (recoloured d B class q colour)
recoloured_local d B class q r colour is =
    local_of (d + r) (recoloured_by B q) colour (around d class colour) (local_most r (d + r) colour (omega arith) is) (local_among d r (λ v w. class v == class w) colour is)

pub recoloured_below : (d B : ℕ) (class : ℕ → ℕ) (q : ℕ) (colour : Network → ℕ → ℕ) (G : Network) → B < q
    → ((v : ℕ) → colour G v < suc q) → (v : ℕ) → recoloured d B class q colour G v < q
recoloured_below d B class q colour G high below v = by (colour G v == q) refl
  where
    by : (b : Bool) → (colour G v == q) ≡ b → cond b (free B (around d class colour G v)) (colour G v) < q
    by true e = let most : free B (around d class colour G v) ≤ B = free_most B (around d class colour G v) in omega (arith, most, high)
    by false e =
        let l : colour G v < suc q = below v in
        let other : colour G v ≡ q → ⊥ = eqb-false (colour G v) q e in
        omega (arith, l, other)

pub recoloured_apart : {a p N : ℕ} (d : ℕ) (class : ℕ → ℕ) (q : ℕ) (colour : Network → ℕ → ℕ) (G : Network) → IsForest a p N G
    → IsApart d class G (colour G) → IsApart d class G (recoloured d (ball_size (a + p) d) class q colour G)
recoloured_apart {a} {p} d class q colour G is apart v w held other alike = by (colour G v == q) (colour G w == q) refl refl
  where
    few : (x : ℕ) → length (around d class colour G x) ≤ ball_size (a + p) d
    few x =
        let mapped : length (around d class colour G x) ≡ length (filter (λ w. class x == class w) (ball G d x)) =
        length-map (filter (λ w. class x == class w) (ball G d x)) (λ w. colour G w) in
        let some : length (filter (λ w. class x == class w) (ball G d x)) ≤ length (ball G d x) = length-filter_most (λ w. class x == class w) (ball G d x) in
        let all : length (ball G d x) ≤ ball_size (a + p) d = length-ball_forest G is d x in
        omega (arith, mapped, some, all)

    -- a node doesn't take the colour of another one of its class
    fresh : (x y : ℕ) → Contains (ball G d x) y → class x ≡ class y → free (ball_size (a + p) d) (around d class colour G x) ≡ colour G y → ⊥
    fresh x y near alike same =
        free_other (ball_size (a + p) d) (around d class colour G x) (few x)
        (subst (Contains (around d class colour G x)) (sym same)
        (Contains-map (λ w. colour G w) (filter (λ w. class x == class w) (ball G d x)) y
        (Contains-filter (λ w. class x == class w) (ball G d x) y near (eq-eqb (class x) (class y) alike))))

    by : (i j : Bool) → (colour G v == q) ≡ i → (colour G w == q) ≡ j
        → cond i (free (ball_size (a + p) d) (around d class colour G v)) (colour G v) ≡ cond j (free (ball_size (a + p) d) (around d class colour G w)) (colour G w) → ⊥
    by true true e f same = apart v w held other alike (eqb-true (colour G v) q e ∙ sym (eqb-true (colour G w) q f))
    by true false e f same = fresh v w held alike same
    by false true e f same = fresh w v (ball_back G is.both d v w held) (sym alike) (sym same)
    by false false e f same = apart v w held other alike same

-- ---- so many colours less
abbrev pub reduced : ℕ → ℕ → (ℕ → ℕ) → ℕ → (Network → ℕ → ℕ) → Network → ℕ → ℕ
reduced d B class zero colour = colour
reduced d B class (suc m) colour = reduced d B class m (recoloured d B class (suc B + m) colour)

pub reduced_local : (d B : ℕ) (class : ℕ → ℕ) (m r : ℕ) (colour : Network → ℕ → ℕ) → IsLocal r colour → IsLocal (m * d + r) (reduced d B class m colour)
reduced_local d B class zero r colour is = local_most r (zero * d + r) colour (omega arith) is
reduced_local d B class (suc m) r colour is =
    local_most (m * d + (d + r)) (suc m * d + r) (reduced d B class (suc m) colour) (omega arith)
    (reduced_local d B class m (d + r) (recoloured d B class (suc B + m) colour) (recoloured_local d B class (suc B + m) r colour is))

pub reduced_below : (d B : ℕ) (class : ℕ → ℕ) (m : ℕ) (colour : Network → ℕ → ℕ) (G : Network)
    → ((v : ℕ) → colour G v < suc B + m) → (v : ℕ) → reduced d B class m colour G v < suc B
reduced_below d B class zero colour G below v = let l = below v in omega (arith, l)
reduced_below d B class (suc m) colour G below v =
    reduced_below d B class m (recoloured d B class (suc B + m) colour) G
    (recoloured_below d B class (suc B + m) colour G (omega arith) (λ x. let l = below x in omega (arith, l))) v

pub reduced_apart : {a p N : ℕ} (d : ℕ) (class : ℕ → ℕ) (m : ℕ) (colour : Network → ℕ → ℕ) (G : Network) → IsForest a p N G
    → IsApart d class G (colour G) → IsApart d class G (reduced d (ball_size (a + p) d) class m colour G)
reduced_apart d class zero colour G is apart = apart
reduced_apart {a} {p} d class (suc m) colour G is apart =
    reduced_apart d class m (recoloured d (ball_size (a + p) d) class (suc (ball_size (a + p) d) + m) colour) G is
    (recoloured_apart d class (suc (ball_size (a + p) d) + m) colour G is apart)

-- so from any such colouring follows one with few colours, in d rounds for each colour that there is less
pub coloured_fewer : {a p N : ℕ} (d m : ℕ) (colour : Network → ℕ → ℕ) (G : Network) → IsForest a p N G
    → IsColoured d (suc (ball_size (a + p) d) + m) G (colour G) → IsColoured d (suc (ball_size (a + p) d)) G (reduced d (ball_size (a + p) d) (λ v. 0) m colour G)
coloured_fewer {a} {p} d m colour G is coloured = record {
  below = reduced_below d (ball_size (a + p) d) (λ v. 0) m colour G coloured.below;
  apart = λ v w held other. reduced_apart d (λ v. 0) m colour G is (λ v w held other alike. coloured.apart v w held other) v w held other refl;
}
