-- What follows from the gap: without a flexible set at least the order of log N, with at most log* N a flexible set, and nothing between log* and log.
use Rattle.std.proofs.Common.{◌≡◌, ℕ, suc, ◌+◌, ◌*◌, ◌^◌, ◌≤◌, arith}
use Rattle.std.proofs.Math.Nat.{pow-le-pow_left, pow-le-pow_right}
use Rattle.re_forests.proofs.ApartForests.{apart}
use Rattle.re_gap.proofs.Gap.{gap}
use Rattle.re_gap.specs.Laws.{BetweenLogsLaw, FlexibleLaw, NotFlexibleLaw}
use Rattle.re_layers.specs.Laws.{FarColoursLaw}
use Rattle.re_layers.specs.Towers.{tower}
use Rattle.re_layers.proofs.Towers.{below_power, power_of, tower-power}

-- some tower is at least a power whose exponent is of the order of its height
high_tower : (c K C : ℕ) → (h : ℕ) × (C ^ (c * h + K + 1) ≤ tower h)
high_tower c K C =
    let B : ℕ = suc C ^ suc c in
    let base : suc B ≤ 2 ^ B = below_power B in
    let (h, few) = tower-power B B (K + 1) (omega (arith, base)) in
    let exponent : c * h + K + 1 ≤ suc c * (2 * h + (K + 1)) = omega arith in
    let one : C ^ (c * h + K + 1) ≤ suc C ^ (c * h + K + 1) = pow-le-pow_left (omega arith) (c * h + K + 1) in
    let two : suc C ^ (c * h + K + 1) ≤ suc C ^ (suc c * (2 * h + (K + 1))) = pow-le-pow_right (omega arith) exponent in
    let three : suc C ^ (suc c * (2 * h + (K + 1))) ≡ B ^ (2 * h + (K + 1)) = power_of (suc C) (suc c) (2 * h + (K + 1)) in
    let enough : C ^ (c * h + K + 1) ≤ tower h = omega (arith, one, two, three, few) in
    (h, enough)

pub not_flexible : FarColoursLaw → NotFlexibleLaw
not_flexible far_colours problem is none =
    let (C, found) = gap far_colours in (C, λ T N room solvable. none (found problem N T is room solvable).1)

pub flexible : FarColoursLaw → FlexibleLaw
flexible far_colours problem is (c, K, solved) =
    let (C, found) = gap far_colours in
    let (h, room) = high_tower c K C in
    (found problem (tower h) (c * h + K) is room (solved h (tower h) (omega arith))).1

pub between_logs : FarColoursLaw → BetweenLogsLaw
between_logs far_colours problem is = (
  (λ slow. (let (C, found) = gap far_colours in (C, λ T N room solvable. slow (found problem N T is room solvable).0))),
  (λ above below. (apart problem).1 below above),
)
