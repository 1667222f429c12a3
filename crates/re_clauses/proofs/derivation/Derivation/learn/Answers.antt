use Rattle.std.proofs.Common.{List, ℕ, subst, sym}
use Rattle.re_clauses.specs.Clauses.{Satisfies}
use Rattle.re_clauses.proofs.Satisfied.{satisfied_behind}
use Rattle.re_clauses.proofs.derivation.Derivation.learn.Goals as goal

pub invariant_of-self-in_err-push : goal.invariant_of-self-in_err-push
invariant_of-self-in_err-push c = (
  λ values are. subst (λ (l : List (List ℕ)). Satisfies values l) (sym c.in_err-push.ensures.kept) (c.self.invariant.0 values are),
  c.self.invariant.1,
)

pub invariant_of-self-2 : goal.invariant_of-self-2
invariant_of-self-2 c = (
  λ values are. subst (λ (l : List (List ℕ)). Satisfies values l) (sym c.in_ok-push.ensures.pushed)
      (satisfied_behind values c.self.inside.learned c.args.clause.now (c.self.invariant.0 values are) (c.is_implied.ensures c.if-not-is_implied.false values are)),
  c.self.invariant.1,
)
