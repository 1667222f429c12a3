-- Colours that differ around passive nodes get fewer: one more is enough than an active node has others in the neighbourhoods of its neighbours.
use Rattle.std.proofs.Common.{◌≡◌, ℕ, zero, suc, ◌+◌, ◌-◌, ◌*◌, ◌≤◌, ◌<◌, Bool, true, false, not, cond, List, map, length, refl, sym, ◌∙◌, ap, subst, arith}
use Rattle.std.specs.Prelude.{Contains, ◌==◌, filter, flat_map, if◌then◌else◌}
use Rattle.std.proofs.Math.Nat.{mul-le-mul_right}
use Rattle.std.proofs.lemmas.Bool.{eqb-false, eqb-true, ne_eqb}
use Rattle.std.proofs.lemmas.List.{length-map}
use Rattle.re_forests.specs.Colours.{AreApartAround}
use Rattle.re_layers.proofs.FreeNumbers.{free, free_most, free_other, without_less}
use Rattle.re_layers.proofs.Locality.{local_most, local_of, same_near}
use Rattle.re_labels.proofs.Membership.{Contains-filter, Contains-filter_cases, Contains-flat_map, Contains-flat_map_cases, Contains-map, flat_map-alike, map-alike}
use Rattle.re_layers.proofs.Membership.{length-pieces}
use Rattle.re_layers.specs.Networks.{AreSame, IsForest, IsLocal, Network, others}

-- the other neighbours of the neighbours
abbrev pub second : Network → ℕ → List ℕ
second G v = flat_map (λ w. others G v w) (G.near v)

abbrev pub colours_second : (Network → ℕ → ℕ) → Network → ℕ → List ℕ
colours_second colour G v = map (λ w. colour G w) (second G v)

-- nodes of colour q take one of at most B that none of those has
abbrev fewer_by : ℕ → ℕ → ℕ → List ℕ → ℕ
fewer_by B q own taken = cond (own == q) (free B taken) own

abbrev pub fewer : ℕ → ℕ → (Network → ℕ → ℕ) → Network → ℕ → ℕ
fewer B q colour G v = fewer_by B q (colour G v) (colours_second colour G v)

-- ---- locality
local_second : (r : ℕ) (colour : Network → ℕ → ℕ) → IsLocal r colour → IsLocal (suc (suc r)) (colours_second colour)
local_second r colour local G H v same =
    map-alike (λ w. colour G w) (λ w. colour H w) (second G v) seen ∙ ap (λ xs. map (λ w. colour H w) xs) ports
  where
    seen : (x : ℕ) → Contains (second G v) x → colour G x ≡ colour H x
    seen x held =
        let (w, near, there) = Contains-flat_map_cases (λ w. others G v w) (G.near v) x held in
        let at : AreSame (suc r) G H w = same_near G H (suc r) v w same near in
        local G H x (same_near G H r w x at (Contains-filter_cases (λ y. not (y == v)) (G.near w) x there).0)

    ports : second G v ≡ second H v
    ports =
        flat_map-alike (λ w. others G v w) (λ w. others H v w) (G.near v)
        (λ w near. let at : AreSame (suc r) G H w = same_near G H (suc r) v w same near in ap (λ xs. filter (λ y. not (y == v)) xs) at.1)
        ∙ ap (λ xs. flat_map (λ w. others H v w) xs) same.1

pub fewer_local : (B q r : ℕ) (colour : Network → ℕ → ℕ) → IsLocal r colour → IsLocal (suc (suc r)) (fewer B q colour)
fewer_local B q r colour local = local_of (suc (suc r)) (fewer_by B q) colour (colours_second colour) (local_most r (suc (suc r)) colour (omega arith) local) (local_second r colour local)

-- ---- one colour less
pub fewer_below : (B q : ℕ) (colour : Network → ℕ → ℕ) (G : Network) → B < q → ((v : ℕ) → colour G v < suc q) → (v : ℕ) → fewer B q colour G v < q
fewer_below B q colour G high below v = by (colour G v == q) refl
  where
    by : (b : Bool) → (colour G v == q) ≡ b → cond b (free B (colours_second colour G v)) (colour G v) < q
    by true e = let most : free B (colours_second colour G v) ≤ B = free_most B (colours_second colour G v) in omega (arith, most, high)
    by false e =
        let l : colour G v < suc q = below v in
        let other : colour G v ≡ q → ⊥ = eqb-false (colour G v) q e in
        omega (arith, l, other)

-- how many others there are
few_second : {a p N : ℕ} (G : Network) → IsForest a p N G → (v : ℕ) → G.active v ≡ true → length (second G v) ≤ a * (p - 1)
few_second {a} {p} G forest v active =
    let pieces : length (second G v) ≤ length (G.near v) * (p - 1) = length-pieces (λ w. others G v w) (p - 1) (G.near v) piece in
    let most : length (G.near v) ≤ a = subst (λ (b : Bool). length (G.near v) ≤ (if b then a else p)) active (forest.degrees v) in
    let product : length (G.near v) * (p - 1) ≤ a * (p - 1) = mul-le-mul_right (p - 1) most in
    omega (arith, pieces, product)
  where
    piece : (w : ℕ) → Contains (G.near v) w → length (others G v w) ≤ p - 1
    piece w near =
        let passive : G.active w ≡ false = forest.turns v w near ∙ ap not active in
        let most : length (G.near w) ≤ p = subst (λ (b : Bool). length (G.near w) ≤ (if b then a else p)) passive (forest.degrees w) in
        let less : length (others G v w) < length (G.near w) = without_less v (G.near w) (forest.both v w near) in
        omega (arith, most, less)

pub fewer_apart : {a p N : ℕ} (q : ℕ) (colour : Network → ℕ → ℕ) (G : Network) → IsForest a p N G → a * (p - 1) < q
    → AreApartAround (suc q) G (colour G) → AreApartAround q G (fewer (a * (p - 1)) q colour G)
fewer_apart {a} {p} q colour G forest high coloured = record {
  below = fewer_below (a * (p - 1)) q colour G high coloured.below;
  apart = λ w u v passive first later other same. by w u v passive first later other (colour G u == q) (colour G v == q) refl refl same;
}
  where
    -- an active node doesn't take the colour of another one with a common neighbour
    fresh : (w u v : ℕ) → G.active w ≡ false → Contains (G.near w) u → Contains (G.near w) v → (u ≡ v → ⊥) → free (a * (p - 1)) (colours_second colour G u) ≡ colour G v → ⊥
    fresh w u v passive first later other same =
        let active : G.active u ≡ true = forest.turns w u first ∙ ap not passive in
        let size : length (colours_second colour G u) ≡ length (second G u) = length-map (second G u) (λ x. colour G x) in
        let few : length (second G u) ≤ a * (p - 1) = few_second G forest u active in
        free_other (a * (p - 1)) (colours_second colour G u) (omega (arith, size, few))
        (subst (Contains (colours_second colour G u)) (sym same)
        (Contains-map (λ x. colour G x) (second G u) v
        (Contains-flat_map (λ x. others G u x) (G.near u) w v (forest.both w u first)
        (Contains-filter (λ y. not (y == u)) (G.near w) v later (ap not (ne_eqb v u (λ e. other (sym e))))))))

    by : (w u v : ℕ) → G.active w ≡ false → Contains (G.near w) u → Contains (G.near w) v → (u ≡ v → ⊥) → (i j : Bool) → (colour G u == q) ≡ i → (colour G v == q) ≡ j
        → cond i (free (a * (p - 1)) (colours_second colour G u)) (colour G u) ≡ cond j (free (a * (p - 1)) (colours_second colour G v)) (colour G v) → ⊥
    by w u v passive first later other true true e f same = coloured.apart w u v passive first later other (eqb-true (colour G u) q e ∙ sym (eqb-true (colour G v) q f))
    by w u v passive first later other true false e f same = fresh w u v passive first later other same
    by w u v passive first later other false true e f same = fresh w v u passive later first (λ e. other (sym e)) (sym same)
    by w u v passive first later other false false e f same = coloured.apart w u v passive first later other same

-- ---- so many colours less
abbrev pub few : ℕ → ℕ → (Network → ℕ → ℕ) → Network → ℕ → ℕ
few B zero colour = colour
few B (suc m) colour = few B m (fewer B (suc B + m) colour)

pub few_local : (B m r : ℕ) (colour : Network → ℕ → ℕ) → IsLocal r colour → IsLocal (2 * m + r) (few B m colour)
few_local B zero r colour local = local_most r (2 * zero + r) colour (omega arith) local
few_local B (suc m) r colour local =
    local_most (2 * m + suc (suc r)) (2 * suc m + r) (few B (suc m) colour) (omega arith) (few_local B m (suc (suc r)) (fewer B (suc B + m) colour) (fewer_local B (suc B + m) r colour local))

pub few_apart : {a p N : ℕ} (m : ℕ) (colour : Network → ℕ → ℕ) (G : Network) → IsForest a p N G
    → AreApartAround (suc (a * (p - 1)) + m) G (colour G) → AreApartAround (suc (a * (p - 1))) G (few (a * (p - 1)) m colour G)
few_apart {a} {p} zero colour G forest coloured = subst (λ c. AreApartAround c G (colour G)) (omega arith) coloured
few_apart {a} {p} (suc m) colour G forest coloured =
    few_apart m (fewer (a * (p - 1)) (suc (a * (p - 1)) + m) colour) G forest
    (fewer_apart (suc (a * (p - 1)) + m) colour G forest (omega arith) (subst (λ c. AreApartAround c G (colour G)) (omega arith) coloured))
