use Rattle.std.proofs.Common.{◌≡◌, ◌+◌, ◌-◌, Some, ap, arith, subst, suc, sym, ◌∙◌}
use Rattle.std.specs.Prelude.{IfOk}
use Rattle.re_problem.specs.NamedProblems.{unnamed}
use Rattle.re_changes.proofs.TrimmedProblems.{covered-first, trimmed-none, trimmed-some}
use Rattle.re_changes.specs.Trimming.{IsKnown, first_covered, trimmed}
use Rattle.re_changes.proofs.trimming.trimmed.Goals as goal

pub returns-in_default : goal.returns-in_default
returns-in_default c = subst (λ p. IfOk c.copy.result (λ rest. rest ≡ p)) (sym (trimmed-none c.args.steps c.args.problem.now (sym c.next_covered.ensures.first ∙ c.in_default.is))) c.copy.ensures

pub loop-done-init : goal.loop-done-init
loop-done-init c =
    let first : first_covered (unnamed c.args.problem.now) ≡ Some c.in-Some.first = sym c.next_covered.ensures.first ∙ c.in-Some.is in
    let one_less : c.args.steps ≡ suc (c.args.steps - 1) = omega (arith, (covered-first c.args.problem.now c.in-Some.first first).0, c.requires) in
    record {
      trims = ap (trimmed (c.args.steps - 1)) c.in_ok-rest.ensures ∙ sym (trimmed-some (c.args.steps - 1) c.args.problem.now c.in-Some.first first) ∙ ap (λ k. trimmed k c.args.problem.now) (sym one_less);
      known = subst (IsKnown c.next_covered.new.known.passed c.next_covered.new.known.covers.items) (sym c.in_ok-rest.ensures) c.in-Some.ensures.known;
    }

pub returns-in_default-next_covered : goal.returns-in_default-next_covered
returns-in_default-next_covered c =
    sym (trimmed-none (c.args.steps - c.loop-done._done) c.loop-done.rest (sym c.next_covered-in-loop-done.ensures.first ∙ c.in_default-next_covered.is)) ∙ c.loop-done.invariant.trims

pub loop-done-preserved : goal.loop-done-preserved
loop-done-preserved c =
    let first : first_covered (unnamed c.loop-done.rest) ≡ Some c.in-Some-next_covered.label = sym c.next_covered-in-loop-done.ensures.first ∙ c.in-Some-next_covered.is in
    let one_less : c.args.steps - c.loop-done._done ≡ suc (c.args.steps - (c.loop-done._done + 1)) = omega (arith, c.loop-done-test.true) in
    record {
      trims = ap (trimmed (c.args.steps - (c.loop-done._done + 1))) c.in_ok-rest-2.ensures
          ∙ sym (trimmed-some (c.args.steps - (c.loop-done._done + 1)) c.loop-done.rest c.in-Some-next_covered.label first)
          ∙ ap (λ k. trimmed k c.loop-done.rest) (sym one_less) ∙ c.loop-done.invariant.trims;
      known = subst (IsKnown c.next_covered-in-loop-done.new.known.passed c.next_covered-in-loop-done.new.known.covers.items) (sym c.in_ok-rest-2.ensures) c.in-Some-next_covered.ensures.known;
    }
