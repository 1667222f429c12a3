use Rattle.std.proofs.Common.{◌≡◌, rules, subst, sym, Err}
use Rattle.std.proofs.lemmas.Result.{IfOk-weaker}
use Rattle.re_cert.specs.Bounds.{last_problem}
use Rattle.re_frame.specs.Outcomes.{outcome_of}
use Rattle.re_closure.proofs.RaisedWithin.{raised_limit_within}
use Rattle.re_closure.specs.Closures.{AreNamed}
use Rattle.re_closure.specs.RaisedClosures.{RaisedAnswers}
use Rattle.re_closure.specs.declared.types.ClosureFault.TheVariants.{Limit}
use Rattle.re_closure.proofs.raised_output.raised_output.Goals as goal

pub returns-in-Err-Limit : goal.returns-in-Err-Limit
returns-in-Err-Limit c =
    let passed : c.find_raised.result ≡ Err (Limit c.in-Err-Limit.limit) = search rules in
    let told = c.find_raised.ensures.limit c.in-Err-Limit.limit passed in
    IfOk-weaker c.limit_output.result _ _ (λ output e. raised_limit_within c.args.more c.args.edges.now c.args.chain.now.certificate (outcome_of output) told.0 (c.in-Err-Limit.limit, e, told.1)) c.limit_output.ensures

pub solvable_closure-requires : goal.solvable_closure-requires
solvable_closure-requires c =
    let solved = subst (RaisedAnswers c.args.edges.now c.args.chain.now.certificate) c.in-Ok-SolvableClosure.field-0-is c.in-Ok-SolvableClosure.ensures.answers in
    subst (λ problem. AreNamed problem c.as_slice.result.now) (sym c.last-then-more-eq0.ensures)
    (subst (AreNamed (last_problem c.args.chain.now.certificate)) (sym c.as_slice.ensures.value) solved.2.1.named)
