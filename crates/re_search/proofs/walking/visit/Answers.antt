use Rattle.std.proofs.Common.{◌≡◌, None, Err, not, ltb, true, sym, ap, ◌∙◌, subst}
use Rattle.std.specs.Prelude.{◌&&◌, ◌||◌, is_some}
use Rattle.re_cert.specs.Bounds.{is_lower}
use Rattle.re_problem.specs.NamedProblems.{unnamed}
use Rattle.re_problem.specs.Zero.{zero_place}
use Rattle.re_step.specs.Derivations.{derivation, step_limit}
use Rattle.re_search.proofs.walking.visit.Goals as goal

pub returns-in-Ok : goal.returns-in-Ok
returns-in-Ok c = (
  sym c.succeeds.ensures ∙ c.if-succeeds.false,
  ap (λ z. ltb 0 c.args.left && (not (is_lower c.args.tree.now.kind) || not z)) (sym (c.is_zero-zero.ensures ∙ ap (λ p. is_some (zero_place (unnamed p))) c.end_of-problem.ensures)) ∙ sym c.goes_on.ensures ∙ c.if-not-goes_on.false,
  subst (λ p. step_limit (unnamed p) ≡ None) c.end_of-problem.ensures c.in-Ok.ensures.none,
  c.in-Ok.ensures.derived ∙ ap (λ p. derivation (unnamed p)) c.end_of-problem.ensures,
)

pub returns-in-Err-Limit : goal.returns-in-Err-Limit
returns-in-Err-Limit c = (
  sym c.succeeds.ensures ∙ c.if-succeeds.false,
  ap (λ z. ltb 0 c.args.left && (not (is_lower c.args.tree.now.kind) || not z)) (sym (c.is_zero-zero.ensures ∙ ap (λ p. is_some (zero_place (unnamed p))) c.end_of-problem.ensures)) ∙ sym c.goes_on.ensures ∙ c.if-not-goes_on.false,
  subst (λ p. is_some (step_limit (unnamed p)) ≡ true) c.end_of-problem.ensures (ap is_some (c.in-Err-Limit.ensures.limit c.in-Err-Limit.field-0-0 (ap (λ f. Err f) c.in-Err-Limit.field-0-is))),
)
