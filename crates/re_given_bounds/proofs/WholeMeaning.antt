-- An accepted lower bound says of local algorithms what it says of as many rounds.
use Rattle.std.proofs.Common.{◌≡◌, ℕ, ◌≤◌, true, length, None, ap}
use Rattle.re_bounds.proofs.GivenMeaning.{accepted_kind, last_not_zero, no_faults, to_last}
use Rattle.re_bounds.specs.GivenBounds.{IsOver}
use Rattle.re_cert.specs.Bounds.{Bound, is_lower, last_problem}
use Rattle.re_cert.specs.declared.certificate.Kind.TheVariants.{Lower}
use Rattle.re_check.specs.Verdicts.{bound_fault}
use Rattle.re_given_bounds.specs.LocalBounds.{WholeLowerBoundLaw}
use Rattle.re_local.proofs.WholeBound.{whole_bound}
use Rattle.re_local.specs.SeparatingLaws.{IsBeyondPower, virtual_base}
use Rattle.re_problem.specs.NamedProblems.{unnamed}

whole_bound_at : (bound : Bound) → IsOver bound → (n T : ℕ) → bound.kind ≡ Lower → bound_fault bound ≡ None → length (last_problem bound).names ≤ n → T ≤ length bound.steps
    → IsBeyondPower (unnamed bound.first) (virtual_base bound.first.active.degree bound.first.passive.degree n) T
whole_bound_at bound over n T e none labels few =
    let (steps, ends) = no_faults bound over none in
    let lower : is_lower bound.kind ≡ true = ap is_lower e in
    whole_bound (unnamed bound.first) (unnamed (last_problem bound)) (length bound.steps) n T over.first.problem (to_last bound over lower steps) (last_not_zero bound over lower ends) labels few

pub whole_lower_bound : WholeLowerBoundLaw
whole_lower_bound bound n T over accepted labels few =
    let (none, kind) = accepted_kind Lower bound.kind (length bound.steps) (bound_fault bound) accepted in
    whole_bound_at bound over n T kind none labels few
