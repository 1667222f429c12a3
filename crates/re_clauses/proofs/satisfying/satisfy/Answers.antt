use Rattle.std.proofs.Common.{◌∙◌, List, ℕ, subst, sym}
use Rattle.re_clauses.specs.Clauses.{IsSatisfiable}
use Rattle.re_clauses.specs.Implied.{values_of}
use Rattle.re_clauses.proofs.satisfying.satisfy.Goals as goal

pub returns-then-satisfy_all-clause-yes : goal.returns-then-satisfy_all-clause-yes
returns-then-satisfy_all-clause-yes c = λ _. (values_of c.truths-then-clash.result.now, c.satisfy_all.ensures c.if-satisfy_all.true)

pub returns-then-settle-clause-no : goal.returns-then-settle-clause-no
returns-then-settle-clause-no c = λ _ some.
    c.settle.ensures.clash c.if-settle.true (subst (λ (l : List (List ℕ)). IsSatisfiable l) (sym (c.settle_all-settled.ensures ∙ c.loop.invariant)) some)
