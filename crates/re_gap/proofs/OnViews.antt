-- A bound below on forests is one for local algorithms on views.
use Rattle.std.proofs.Common.{◌≡◌, ℕ, suc, ◌+◌, ◌*◌, ◌^◌, ◌≤◌, subst, sym, arith}
use Rattle.std.proofs.Math.Nat.{mul-le-mul, pow-le-pow_left, pow-le-pow_right}
use Rattle.std.proofs.lemmas.Nat.{mul-pow}
use Rattle.re_forests.proofs.LocalOnForests.{local_on_forests}
use Rattle.re_gap.specs.Laws.{AboveLogOnViewsLaw}
use Rattle.re_layers.proofs.Towers.{power_of}

-- a power has room for the identifiers of a forest and for the places that are thought behind it
room : (C T N : ℕ) → ((suc C * 7) ^ 3) ^ (T + 1) ≤ N → C ^ (T + 3) * 7 ^ (T + 2) ≤ N
room C T N many =
    let base : C ^ (T + 3) ≤ suc C ^ (T + 3) = pow-le-pow_left (omega arith) (T + 3) in
    let places : 7 ^ (T + 2) ≤ 7 ^ (T + 3) = pow-le-pow_right (omega arith) (omega arith) in
    let product : C ^ (T + 3) * 7 ^ (T + 2) ≤ suc C ^ (T + 3) * 7 ^ (T + 3) = mul-le-mul base places in
    let joined : (suc C * 7) ^ (T + 3) ≡ suc C ^ (T + 3) * 7 ^ (T + 3) = mul-pow (suc C) 7 (T + 3) in
    let more : (suc C * 7) ^ (T + 3) ≤ (suc C * 7) ^ (3 * (T + 1)) = pow-le-pow_right (omega arith) (omega arith) in
    let outer : (suc C * 7) ^ (3 * (T + 1)) ≡ ((suc C * 7) ^ 3) ^ (T + 1) = power_of (suc C * 7) 3 (T + 1) in
    omega (arith, product, joined, more, outer, many)

pub above_log_on_views : AboveLogOnViewsLaw
above_log_on_views problem is (C, beyond) = (
  (suc C * 7) ^ 3,
  λ T N many solvable.
      let next : T + 2 + 1 ≡ T + 3 = omega arith in
      beyond (T + 2) (C ^ (T + 3)) (subst (λ e. C ^ e ≤ C ^ (T + 3)) (sym next) (omega arith))
      (local_on_forests problem (C ^ (T + 3)) N T is (room C T N many) solvable),
)
