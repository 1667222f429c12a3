use Rattle.std.proofs.Common.{◌∙◌, sym, ⊎_elim}
use Rattle.std.proofs.lemmas.Bool.{cases_Bool, false≢true}
use Rattle.re_clauses.specs.Clauses.{satisfies}
use Rattle.re_clauses.proofs.derivation.is_implied.Goals as goal

pub returns-then-follow : goal.returns-then-follow
returns-then-follow c = λ _ values are.
    ⊎_elim (λ is. is)
    (λ none. absurd (false≢true (sym (c.follow.ensures.clash c.if-follow.true values (c.loop-place.invariant.2 values are none)) ∙ c.in-Some-clause_at.ensures values are)))
    (cases_Bool (satisfies values c.args.clause.now))
