-- On paths constantly many rounds of rake and compress are enough, so that layers are found as soon as far colours.
use Rattle.std.proofs.Common.{◌≡◌, ℕ, zero, suc, ◌+◌, ◌*◌, ◌^◌, ◌≤◌, ◌<◌, Bool, true, false, List, length, refl, arith}
use Rattle.std.specs.Prelude.{Contains, flat_map, if◌then◌else◌}
use Rattle.std.proofs.Math.Nat.{mul-le-mul_right}
use Rattle.std.proofs.lemmas.Nat.{mul-le, pow-add}
use Rattle.re_layers.proofs.Balls.{others_near}
use Rattle.re_layers.proofs.FreeNumbers.{without_less}
use Rattle.re_layers.proofs.Growth.{none_left}
use Rattle.re_layers.proofs.LastSteps.{layer, path}
use Rattle.re_layers.proofs.Layered.{coloured_far, coloured_timed, layered}
use Rattle.re_layers.proofs.LocalRounds.{layer_local, path_local}
use Rattle.re_layers.proofs.Membership.{length-pieces}
use Rattle.re_layers.proofs.Rounds.{Plan, alive, shrinks}
use Rattle.re_layers.proofs.Towers.{below_power}
use Rattle.re_layers.specs.Laws.{FarColoursLaw, PathLayersLaw}
use Rattle.re_layers.specs.Layers.{IsColoured, IsLayered}
use Rattle.re_layers.specs.Networks.{IsForest, IsLocal, Network, branch, others}

-- ---- paths
two_ways : {N : ℕ} (G : Network) → IsForest 2 2 N G → (v : ℕ) → length (G.near v) ≤ 2
two_ways G is v = by (G.active v) (is.degrees v)
  where
    by : (b : Bool) → length (G.near v) ≤ (if b then 2 else 2) → length (G.near v) ≤ 2
    by true l = l
    by false l = l

-- a branch of a path has one more node than hops at most
short_branch : {N : ℕ} (G : Network) → IsForest 2 2 N G → (k u v : ℕ) → Contains (G.near u) v → length (branch G k u v) ≤ suc k
short_branch G is zero u v on = omega arith
short_branch G is (suc k) u v on =
    let pieces : length (flat_map (λ w. branch G k v w) (others G u v)) ≤ length (others G u v) * suc k =
    length-pieces (λ w. branch G k v w) (suc k) (others G u v) (λ w held. short_branch G is k v w (others_near G u v w held)) in
    let less : length (others G u v) < length (G.near v) = without_less u (G.near v) (is.both u v on) in
    let two : length (G.near v) ≤ 2 = two_ways G is v in
    let one : length (others G u v) * suc k ≤ 1 * suc k = mul-le-mul_right (suc k) (omega (arith, less, two)) in
    omega (arith, pieces, one)

-- after so many times n rounds it would have to have more
abbrev doublings : ℕ → ℕ
doublings n = 2 * n + 2 * n

enough_doublings : (n : ℕ) → 1 ≤ n → suc (doublings n * n) < 2 ^ doublings n
enough_doublings n some =
    let low : suc (2 * n) ≤ 2 ^ (2 * n) = below_power (2 * n) in
    let square : suc (2 * n) * suc (2 * n) ≤ 2 ^ (2 * n) * 2 ^ (2 * n) = mul-le (suc (2 * n)) (suc (2 * n)) (2 ^ (2 * n)) (2 ^ (2 * n)) low low in
    let halves : 2 ^ doublings n ≡ 2 ^ (2 * n) * 2 ^ (2 * n) = pow-add 2 (2 * n) (2 * n) in
    let whole : suc (2 * n) * suc (2 * n) ≡ 4 * (n * n) + 4 * n + 1 = grind arith in
    let product : doublings n * n ≡ 4 * (n * n) = grind arith in
    omega (arith, some, square, halves, whole, product)

-- ---- layers
-- how many inner nodes the paths of layers have, how many steps there are, and how many hops they take
abbrev inner : ℕ → ℕ
inner l = 2 * l + 1

abbrev steps : ℕ → ℕ → ℕ
steps l C = doublings (suc (inner l)) * suc (inner l) * (C + 2)

abbrev hops : ℕ → ℕ → ℕ
hops l C = suc (steps l C) * suc (2 * inner l)

module _ (l C r N : ℕ) (colour : Network → ℕ → ℕ) (local : IsLocal r colour)
    (coloured : (G : Network) → IsForest 2 2 N G → IsColoured (inner l + inner l) C G (colour G)) where
  abbrev plan : Plan
  plan = record { colour = colour; colours = C; inner = inner l }

  all_gone : (G : Network) → IsForest 2 2 N G → (v : ℕ) → alive plan G (steps l C) v ≡ false
  all_gone G is v =
      none_left is (shrinks plan G (omega arith) (λ v. (coloured G is).below v)) (omega arith) (doublings (suc (inner l))) (omega arith)
      (λ x v on.
      let short = short_branch G is (doublings (suc (inner l)) * suc (inner l)) x v on in
      let enough = enough_doublings (suc (inner l)) (omega arith) in
      omega (arith, short, enough)) v

  found : (n : ℕ) → r + hops l C ≤ n
      → (layer : Network → ℕ → ℕ) × (path : Network → ℕ → List ℕ) × IsLocal n layer × IsLocal n path
      × ((G : Network) → IsForest 2 2 N G → IsLayered G l (steps l C) (layer G) (path G))
  found n enough = (
    layer plan (steps l C),
    path plan (steps l C),
    layer_local plan r local (steps l C) n enough,
    path_local plan r local (steps l C) n enough,
    λ G is. layered plan G is (coloured_far plan G (coloured G is)) (coloured_timed plan G (coloured G is)) (steps l C) l refl (all_gone G is) (steps l C) (omega arith),
  )

pub path_layers : FarColoursLaw → PathLayersLaw
path_layers colours l =
    let (C, K, find) = colours 2 2 (inner l + inner l) in (
      steps l C,
      K + hops l C,
      λ h N enough.
          let (colour, local, coloured) = find h N enough in
          let same : (inner l + inner l) * h ≡ (4 * l + 2) * h = grind arith in
          found l C ((inner l + inner l) * h + K) N colour local coloured ((4 * l + 2) * h + (K + hops l C)) (omega (arith, same)),
    )
