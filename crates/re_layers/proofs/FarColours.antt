-- Colours in the order of log* N rounds: the new colour of a node are the bits that tell its old one from those around it (Linial, 1987).
use Rattle.std.proofs.Common.{◌≡◌, ℕ, zero, suc, ◌+◌, ◌*◌, ◌^◌, ◌≤◌, ◌<◌, true, false, List, map, length, get_or, min, refl, sym, ap, ◌∙◌, subst, arith}
use Rattle.std.specs.Prelude.{Contains}
use Rattle.std.proofs.lemmas.Bool.{false≢true}
use Rattle.std.proofs.lemmas.List.{get_or-map}
use Rattle.re_layers.proofs.Balls.{ball_back, ball_size, length-ball_forest}
use Rattle.re_layers.proofs.BitTests.{passes, separating, separating_fails, separating_low, separating_passes}
use Rattle.re_layers.proofs.Codes.{code, code_low, code_same}
use Rattle.re_layers.proofs.Colours.{below_ball}
use Rattle.re_layers.proofs.Locality.{local_most, local_of, local_within}
use Rattle.re_layers.proofs.Recolouring.{coloured_fewer, reduced, reduced_local}
use Rattle.re_layers.proofs.Towers.{bits, first_bits, tests_bits, tower-some}
use Rattle.re_layers.specs.Laws.{FarColoursLaw}
use Rattle.re_layers.specs.Layers.{IsColoured}
use Rattle.re_layers.specs.Networks.{IsForest, IsLocal, Network, ball}
use Rattle.re_layers.specs.Towers.{tower}

-- ---- one step
-- e tests that a colour of b bits passes, and those around it fail
abbrev told : ℕ → ℕ → ℕ → List ℕ → ℕ
told e b own near = code (2 * suc b) e (λ i. separating b own (get_or near i own))

abbrev hashed : ℕ → ℕ → ℕ → (Network → ℕ → ℕ) → Network → ℕ → ℕ
hashed d e b colour G v = told e b (colour G v) (map (λ w. colour G w) (ball G d v))

hashed_local : (d e b r : ℕ) (colour : Network → ℕ → ℕ) → IsLocal r colour → IsLocal (d + r) (hashed d e b colour)
hashed_local d e b r colour is =
    local_of (d + r) (told e b) colour (λ G v. map (λ w. colour G w) (ball G d v)) (local_most r (d + r) colour (omega arith) is) (local_within d r colour is)

-- a power of the number of bits is enough for colours of so many bits
hashed_coloured : {a p N : ℕ} (d b : ℕ) (colour : Network → ℕ → ℕ) (G : Network) → IsForest a p N G → IsColoured d (2 ^ b) G (colour G)
    → IsColoured d ((2 * suc b) ^ ball_size (a + p) d) G (hashed d (ball_size (a + p) d) b colour G)
hashed_coloured {a} {p} d b colour G is coloured = record {
  below = λ v. code_low (2 * suc b) (ball_size (a + p) d) (digit v) (digit_low v);
  apart = λ v w held other same. clash v w held other (code_same (2 * suc b) (ball_size (a + p) d) (digit v) (digit w) (digit_low v) (digit_low w) same);
}
  where
    around : ℕ → List ℕ
    around v = map (λ w. colour G w) (ball G d v)

    digit : ℕ → ℕ → ℕ
    digit v i = separating b (colour G v) (get_or (map (λ w. colour G w) (ball G d v)) i (colour G v))

    digit_low : (v i : ℕ) → digit v i < 2 * suc b
    digit_low v i = separating_low b (colour G v) (get_or (map (λ w. colour G w) (ball G d v)) i (colour G v))

    -- at the place of w in the ball of v stands a test that w fails
    clash : (v w : ℕ) → Contains (ball G d v) w → (v ≡ w → ⊥) → ((i : ℕ) → i < ball_size (a + p) d → digit v i ≡ digit w i) → ⊥
    clash v w (i, l, e) other same =
        let few : length (ball G d v) ≤ ball_size (a + p) d = length-ball_forest G is d v in
        let here : get_or (map (λ w. colour G w) (ball G d v)) i (colour G v) ≡ colour G w =
        get_or-map (λ w. colour G w) (ball G d v) i w (colour G v) l ∙ ap (λ w. colour G w) e in
        let fails : passes (digit v i) (colour G w) ≡ false =
        subst (λ c. passes (separating b (colour G v) c) (colour G w) ≡ false) (sym here)
        (separating_fails b (colour G v) (colour G w) (coloured.below v) (coloured.below w) (coloured.apart v w (i, l, e) other)) in
        let holds : passes (digit w i) (colour G w) ≡ true = separating_passes b (colour G w) (get_or (map (λ w. colour G w) (ball G d w)) i (colour G w)) in
        let one : digit v i ≡ digit w i = same i (omega (arith, l, few)) in
        false≢true (sym fails ∙ (ap (λ t. passes t (colour G w)) one ∙ holds))

pub more_colours : (d C D : ℕ) (G : Network) (colour : ℕ → ℕ) → C ≤ D → IsColoured d C G colour → IsColoured d D G colour
more_colours d C D G colour l is = record { below = λ v. (let low = is.below v in omega (arith, l, low)); apart = is.apart }

-- ---- all steps
abbrev identifier : ℕ → Network → ℕ → ℕ
identifier N G v = min v N

identifier_coloured : {a p N : ℕ} (d : ℕ) (G : Network) → IsForest a p N G → IsColoured d (suc N) G (identifier N G)
identifier_coloured {a} {p} {N} d G is = record {
  below = λ v. omega arith;
  apart = λ v w held other same.
      let v_low : v < N = below_ball d G is v w held other in
      let w_low : w < N = below_ball d G is w v (ball_back G is.both d v w held) (λ e. other (sym e)) in
      other (omega (arith, v_low, w_low, same));
}

-- so many colours are found from those of a higher tower
abbrev climbed : ℕ → ℕ → ℕ → (Network → ℕ → ℕ) → Network → ℕ → ℕ
climbed d e zero colour = colour
climbed d e (suc h) colour = climbed d e h (hashed d e (bits e (tower (suc h))) colour)

climbed_local : (d e h r : ℕ) (colour : Network → ℕ → ℕ) → IsLocal r colour → IsLocal (d * h + r) (climbed d e h colour)
climbed_local d e zero r colour is = local_most r (d * zero + r) colour (omega arith) is
climbed_local d e (suc h) r colour is =
    local_most (d * h + (d + r)) (d * suc h + r) (climbed d e (suc h) colour) (omega arith)
    (climbed_local d e h (d + r) (hashed d e (bits e (tower (suc h))) colour) (hashed_local d e (bits e (tower (suc h))) r colour is))

climbed_coloured : {a p N : ℕ} (d h : ℕ) (colour : Network → ℕ → ℕ) (G : Network) → IsForest a p N G
    → IsColoured d (2 ^ bits (ball_size (a + p) d) (tower h)) G (colour G)
    → IsColoured d (2 ^ bits (ball_size (a + p) d) 1) G (climbed d (ball_size (a + p) d) h colour G)
climbed_coloured d zero colour G is coloured = coloured
climbed_coloured {a} {p} d (suc h) colour G is coloured =
    climbed_coloured d h (hashed d (ball_size (a + p) d) (bits (ball_size (a + p) d) (tower (suc h))) colour) G is
    (more_colours d ((2 * suc (bits (ball_size (a + p) d) (tower (suc h)))) ^ ball_size (a + p) d) (2 ^ bits (ball_size (a + p) d) (tower h)) G
    (hashed d (ball_size (a + p) d) (bits (ball_size (a + p) d) (tower (suc h))) colour G)
    (tests_bits (ball_size (a + p) d) (tower h) (tower-some h))
    (hashed_coloured d (bits (ball_size (a + p) d) (tower (suc h))) colour G is coloured))

-- and at the end one after the other goes
abbrev last_colours : ℕ → ℕ
last_colours e = 2 ^ bits e 1

abbrev far_colours : ℕ → ℕ → ℕ → ℕ → Network → ℕ → ℕ
far_colours d e h N = reduced d e (λ v. 0) (last_colours e) (climbed d e h (identifier N))

far_local : (d e h N : ℕ) → IsLocal (d * h + last_colours e * d) (far_colours d e h N)
far_local d e h N =
    local_most (last_colours e * d + (d * h + 0)) (d * h + last_colours e * d) (far_colours d e h N) (omega arith)
    (reduced_local d e (λ v. 0) (last_colours e) (d * h + 0) (climbed d e h (identifier N)) (climbed_local d e h 0 (identifier N) (λ G H v same. refl)))

far_coloured : {a p N : ℕ} (d h : ℕ) → N ≤ tower h → (G : Network) → IsForest a p N G
    → IsColoured d (suc (ball_size (a + p) d)) G (far_colours d (ball_size (a + p) d) h N G)
far_coloured {a} {p} {N} d h enough G is =
    coloured_fewer d (last_colours (ball_size (a + p) d)) (climbed d (ball_size (a + p) d) h (identifier N)) G is
    (more_colours d (last_colours (ball_size (a + p) d)) (suc (ball_size (a + p) d) + last_colours (ball_size (a + p) d)) G
    (climbed d (ball_size (a + p) d) h (identifier N) G) (omega arith)
    (climbed_coloured d h (identifier N) G is
    (more_colours d (suc N) (2 ^ bits (ball_size (a + p) d) (tower h)) G (identifier N G) (first_bits (ball_size (a + p) d) N h enough) (identifier_coloured d G is))))

pub far_colours_law : FarColoursLaw
far_colours_law = λ a p d. (
  suc (ball_size (a + p) d),
  last_colours (ball_size (a + p) d) * d,
  λ h N enough. (far_colours d (ball_size (a + p) d) h N, far_local d (ball_size (a + p) d) h N, λ G is. far_coloured d h enough G is),
)
