-- The problems at which END is judged, and the steps that are kept.
use Rattle.std.proofs.Common.{◌≡◌, ℕ, zero, suc, ◌-◌, ◌<◌, ◌≤◌, Bool, true, false, refl, sym, ap, ◌∙◌, arith, None, Some}
use Rattle.std.proofs.lemmas.Bool.{false≢true}
use Rattle.std.proofs.lemmas.Bool.Decides.{nat_tests}
use Rattle.std.specs.Prelude.{◌&&◌, if◌then◌else◌, nat_lt}
use Rattle.re_labels.proofs.Tests.{and-true}
use Rattle.re_cert.specs.Bounds.{Bound}
use Rattle.re_problem.specs.NamedProblems.{NamedProblem}
use Rattle.re_walks.specs.Walking.{Walk, cut, found, nowhere}
use Rattle.re_settings.specs.Verdicts.{end_number, is_cut, is_nowhere, kept_steps}
use Rattle.re_settings.specs.Walks.{walk_at}

-- ---- the steps that are kept
nowhere-is : (w : Walk) → is_nowhere w ≡ true → w ≡ nowhere
nowhere-is nowhere e = refl
nowhere-is (found labels) e = absurd (false≢true e)
nowhere-is cut e = absurd (false≢true e)

pub record IsKept (input : NamedProblem) (bound : Bound) (number steps : ℕ) : Type 0 where
  pub fewer : steps < number
  pub shown : walk_at input bound steps ≡ nowhere

pub kept : (input : NamedProblem) (bound : Bound) (number steps : ℕ) → kept_steps input bound number ≡ Some steps → IsKept input bound number steps
kept input bound zero steps e = let wrong : None ≡ Some steps = e in absurd (cc)
kept input bound (suc number) steps e = go (kept input bound number steps) (is_nowhere (walk_at input bound number)) refl e
  where
    go : (kept_steps input bound number ≡ Some steps → IsKept input bound number steps) → (b : Bool) → is_nowhere (walk_at input bound number) ≡ b → (if b then Some number else kept_steps input bound number) ≡ Some steps
        → IsKept input bound (suc number) steps
    go before true same is =
        let here : number ≡ steps = (let there : Some number ≡ Some steps = is in cc) in
        record { fewer = omega (arith, here); shown = ap (walk_at input bound) (sym here) ∙ nowhere-is (walk_at input bound number) same }
    go before false same is = let rest = before is in record { fewer = (let l = rest.fewer in omega arith); shown = rest.shown }

-- one step less
pub kept-here : (input : NamedProblem) (bound : Bound) (number : ℕ) → 0 < number → is_nowhere (walk_at input bound (number - 1)) ≡ true → Some (number - 1) ≡ kept_steps input bound number
kept-here input bound zero l shown = absurd (omega (arith, l))
kept-here input bound (suc number) l shown =
    let same : suc number - 1 ≡ number = omega arith in
    ap Some same ∙ ap (λ b. if b then Some number else kept_steps input bound number) (sym (ap (λ n. is_nowhere (walk_at input bound n)) (sym same) ∙ shown))

pub kept-on : (input : NamedProblem) (bound : Bound) (number : ℕ) → 0 < number → is_nowhere (walk_at input bound (number - 1)) ≡ false → kept_steps input bound (number - 1) ≡ kept_steps input bound number
kept-on input bound zero l shown = absurd (omega (arith, l))
kept-on input bound (suc number) l shown =
    let same : suc number - 1 ≡ number = omega arith in
    ap (kept_steps input bound) same ∙ ap (λ b. if b then Some number else kept_steps input bound number) (sym (ap (λ n. is_nowhere (walk_at input bound n)) (sym same) ∙ shown))

-- a number that isn't 0
pub some_number : (number : ℕ) → (number ≡ 0 → ⊥) → 0 < number
some_number zero other = absurd (other refl)
some_number (suc number) other = omega arith

-- ---- the problem at which END is judged
pub end-low : (input : NamedProblem) (bound : Bound) (number : ℕ) → bound.back ≤ number → bound.back ≤ end_number input bound number
end-low input bound zero l = l
end-low input bound (suc number) l = go (end-low input bound number) (is_cut (walk_at input bound (suc number)) && nat_lt bound.back (suc number)) refl
  where
    go : (bound.back ≤ number → bound.back ≤ end_number input bound number) → (b : Bool) → (is_cut (walk_at input bound (suc number)) && nat_lt bound.back (suc number)) ≡ b
        → bound.back ≤ (if b then end_number input bound number else suc number)
    go before true e =
        let test : nat_lt bound.back (suc number) ≡ true = (and-true (is_cut (walk_at input bound (suc number))) (nat_lt bound.back (suc number)) e).1 in
        let below : bound.back < suc number = grind (arith, nat_tests) in
        before (omega (arith, below))
    go before false e = l

pub end-high : (input : NamedProblem) (bound : Bound) (number : ℕ) → end_number input bound number ≤ number
end-high input bound zero = omega arith
end-high input bound (suc number) = go (end-high input bound number) (is_cut (walk_at input bound (suc number)) && nat_lt bound.back (suc number))
  where
    go : end_number input bound number ≤ number → (b : Bool) → (if b then end_number input bound number else suc number) ≤ suc number
    go before true = omega (arith, before)
    go before false = omega arith
