-- Colours bit by bit of the identifiers: after t bits nodes differ that have the same later bits.
use Rattle.std.proofs.Common.{◌≡◌, ℕ, zero, suc, ◌+◌, ◌*◌, ◌/◌, ◌%◌, ◌^◌, ◌≤◌, ◌<◌, Bool, true, false, cond, refl, sym, ap, ◌∙◌, subst, arith, inl, inr, add-suc, suc-add}
use Rattle.std.specs.Prelude.{Contains, ◌==◌}
use Rattle.std.proofs.Math.Nat.{pow-suc, pow-zero}
use Rattle.std.proofs.lemmas.Bool.{eqb-false, eqb-true}
use Rattle.std.proofs.lemmas.Nat.{div-add-mod', div_below, mod_below}
use Rattle.re_layers.proofs.Balls.{ball_back, ball_first, ball_none, ball_size}
use Rattle.re_layers.proofs.Locality.{local_most}
use Rattle.re_layers.proofs.Recolouring.{IsApart, reduced, reduced_apart, reduced_below, reduced_local}
use Rattle.re_layers.specs.Layers.{IsColoured}
use Rattle.re_layers.specs.Laws.{ColoursLaw}
use Rattle.re_layers.specs.Networks.{IsForest, IsLocal, Network, ball}

-- ---- classes
-- what is left of a number without its first t bits
abbrev pub rest : ℕ → ℕ → ℕ
rest zero v = v
rest (suc t) v = rest t v / 2

rest_below : (t s v : ℕ) → v < 2 ^ (t + s) → rest t v < 2 ^ s
rest_below zero s v l = subst (λ n. v < 2 ^ n) e l
  where
    e : zero + s ≡ s
    e = omega arith
rest_below (suc t) s v l =
    let more : rest t v < 2 ^ suc s = rest_below t (suc s) v (subst (λ n. v < 2 ^ n) (suc-add t s ∙ sym (add-suc t s)) l) in
    let twice : 2 ^ suc s ≡ 2 ^ s * 2 = pow-suc 2 s in
    div_below (rest t v) 2 (2 ^ s) (omega arith) (omega (arith, more, twice))

-- nothing is left of numbers of b bits
pub rest_none : (b v : ℕ) → v < 2 ^ b → rest b v ≡ 0
rest_none b v l =
    let e : b ≡ b + 0 = omega arith in
    let low : rest b v < 2 ^ 0 = rest_below b 0 v (subst (λ n. v < 2 ^ n) e l) in
    let one : 2 ^ 0 ≡ 1 = pow-zero 2 in
    omega (arith, low, one)

rest_same : (t v w : ℕ) → rest t v % 2 ≡ rest t w % 2 → rest (suc t) v ≡ rest (suc t) w → rest t v ≡ rest t w
rest_same t v w e f =
    let one : rest t v / 2 * 2 + rest t v % 2 ≡ rest t v = div-add-mod' (rest t v) 2 in
    let other : rest t w / 2 * 2 + rest t w % 2 ≡ rest t w = div-add-mod' (rest t w) 2 in
    omega (arith, one, other, e, f)

-- ---- one bit more
-- colours of B + 1 with the next bit in front of them
abbrev tagged : ℕ → ℕ → (Network → ℕ → ℕ) → Network → ℕ → ℕ
tagged B t colour G v = cond (rest t v % 2 == 0) (colour G v) (suc B + colour G v)

tagged_local : (B t r : ℕ) (colour : Network → ℕ → ℕ) → IsLocal r colour → IsLocal r (tagged B t colour)
tagged_local B t r colour is G H v same = ap (λ c. cond (rest t v % 2 == 0) c (suc B + c)) (is G H v same)

tagged_below : (B t : ℕ) (colour : Network → ℕ → ℕ) (G : Network) → ((v : ℕ) → colour G v < suc B) → (v : ℕ) → tagged B t colour G v < suc B + suc B
tagged_below B t colour G below v = by (rest t v % 2 == 0) (below v)
  where
    by : (b : Bool) → colour G v < suc B → cond b (colour G v) (suc B + colour G v) < suc B + suc B
    by true l = omega (arith, l)
    by false l = omega (arith, l)

tagged_apart : (d B t : ℕ) (colour : Network → ℕ → ℕ) (G : Network) → ((v : ℕ) → colour G v < suc B)
    → IsApart d (rest t) G (colour G) → IsApart d (rest (suc t)) G (tagged B t colour G)
tagged_apart d B t colour G below apart v w held other alike = by (rest t v % 2 == 0) (rest t w % 2 == 0) refl refl (below v) (below w)
  where
    bits : rest t v % 2 ≡ rest t w % 2 → colour G v ≡ colour G w → ⊥
    bits e same = apart v w held other (rest_same t v w e alike) same

    by : (i j : Bool) → (rest t v % 2 == 0) ≡ i → (rest t w % 2 == 0) ≡ j → colour G v < suc B → colour G w < suc B
        → cond i (colour G v) (suc B + colour G v) ≡ cond j (colour G w) (suc B + colour G w) → ⊥
    by true true e f l m same = bits (eqb-true (rest t v % 2) 0 e ∙ sym (eqb-true (rest t w % 2) 0 f)) same
    by true false e f l m same = absurd (omega (arith, l, m, same))
    by false true e f l m same = absurd (omega (arith, l, m, same))
    by false false e f l m same =
        let i : rest t v % 2 < 2 = mod_below (rest t v) 2 (omega arith) in
        let j : rest t w % 2 < 2 = mod_below (rest t w) 2 (omega arith) in
        let some : rest t v % 2 ≡ 0 → ⊥ = eqb-false (rest t v % 2) 0 e in
        let more : rest t w % 2 ≡ 0 → ⊥ = eqb-false (rest t w % 2) 0 f in
        bits (omega (arith, i, j, some, more)) (omega (arith, same))

-- ---- all bits
-- colours of at most B by the first t bits
abbrev pub colours : ℕ → ℕ → ℕ → Network → ℕ → ℕ
colours d B zero = λ G v. 0
colours d B (suc t) = reduced d B (rest (suc t)) (suc B) (tagged B t (colours d B t))

pub colours_local : (d B t : ℕ) → IsLocal (suc B * d * t) (colours d B t)
colours_local d B zero = λ G H v same. refl
colours_local d B (suc t) =
    local_most (suc B * d + suc B * d * t) (suc B * d * suc t) (colours d B (suc t)) (omega arith)
    (reduced_local d B (rest (suc t)) (suc B) (suc B * d * t) (tagged B t (colours d B t)) (tagged_local B t (suc B * d * t) (colours d B t) (colours_local d B t)))

pub colours_below : (d B t : ℕ) (G : Network) (v : ℕ) → colours d B t G v < suc B
colours_below d B zero G v = omega arith
colours_below d B (suc t) G v =
    reduced_below d B (rest (suc t)) (suc B) (tagged B t (colours d B t)) G (tagged_below B t (colours d B t) G (λ w. colours_below d B t G w)) v

pub colours_apart : {a p N : ℕ} (d t : ℕ) (G : Network) → IsForest a p N G → IsApart d (rest t) G (colours d (ball_size (a + p) d) t G)
colours_apart d zero G is = λ v w held other alike same. other alike
colours_apart {a} {p} d (suc t) G is =
    reduced_apart d (rest (suc t)) (suc (ball_size (a + p) d)) (tagged (ball_size (a + p) d) t (colours d (ball_size (a + p) d) t)) G is
    (tagged_apart d (ball_size (a + p) d) t (colours d (ball_size (a + p) d) t) G (λ w. colours_below d (ball_size (a + p) d) t G w) (colours_apart d t G is))

-- ---- forests
-- who has another node around has a neighbour, and so a number below N
pub below_ball : {a p N : ℕ} (d : ℕ) (G : Network) → IsForest a p N G → (v w : ℕ) → Contains (ball G d v) w → (v ≡ w → ⊥) → v < N
below_ball zero G is v w held other = absurd (other (ball_none G v w held))
below_ball (suc d) G is v w held other = elim (ball_first G d v w held) [
  | inl e ↦ absurd (other e)
  | inr first ↦ (let (x, near, at) = first in (is.below v x near).0)
]

pub colours_forest : {a p N : ℕ} (d b : ℕ) → N ≤ 2 ^ b → (G : Network) → IsForest a p N G
    → IsColoured d (suc (ball_size (a + p) d)) G (colours d (ball_size (a + p) d) b G)
colours_forest {a} {p} {N} d b enough G is = record {
  below = λ v. colours_below d (ball_size (a + p) d) b G v;
  apart = λ v w held other same.
      let v_low : v < N = below_ball d G is v w held other in
      let w_low : w < N = below_ball d G is w v (ball_back G is.both d v w held) (λ e. other (sym e)) in
      colours_apart d b G is v w held other (rest_none b v (omega (arith, v_low, enough)) ∙ sym (rest_none b w (omega (arith, w_low, enough)))) same;
}

pub colours_law : ColoursLaw
colours_law = λ a p d. (
  suc (ball_size (a + p) d),
  suc (ball_size (a + p) d) * d,
  λ N b enough. (colours d (ball_size (a + p) d) b, colours_local d (ball_size (a + p) d) b, λ G is. colours_forest d b enough G is),
)
