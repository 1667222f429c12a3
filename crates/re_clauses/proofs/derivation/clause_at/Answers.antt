use Rattle.std.proofs.Common.{◌∙◌, ap, arith}
use Rattle.re_clauses.specs.Clauses.{satisfies}
use Rattle.re_clauses.proofs.Satisfied.{satisfied_at}
use Rattle.re_clauses.proofs.derivation.clause_at.Goals as goal

pub returns-then-place-len-2 : goal.returns-then-place-len-2
returns-then-place-len-2 c = λ values are.
    ap (satisfies values) c.clause-then-place-len-2.ensures
    ∙ satisfied_at values c.args.learned.now _ (let len = c.len-3.ensures in let test = c.if-place-len-2.true in omega (arith, len, test)) (c.requires values are)
