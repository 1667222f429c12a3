use Rattle.std.proofs.Common.{◌≡◌, ap, inl, inr, rules, subst, sym, Err, ◌∙◌}
use Rattle.re_cert.specs.Bounds.{last_problem}
use Rattle.re_frame.specs.Outcomes.{limit, refused}
use Rattle.re_closure.proofs.GivenTaken.{taken_open}
use Rattle.re_closure.specs.Closures.{Answers, AreNamed}
use Rattle.re_closure.specs.ClosureWords.{closure_line, limit_line}
use Rattle.re_closure.specs.declared.types.ClosureFault.TheVariants.{Limit}
use Rattle.re_closure.proofs.going_on.closing_output.Goals as goal

pub fixed_output-requires-clause-room : goal.fixed_output-requires-clause-room
fixed_output-requires-clause-room c = (subst (Answers c.args.chain.now.certificate) c.in-Ok-Found.field-0-is c.in-Ok-Found.ensures.answers).1

pub fixed_output-requires-clause-closed : goal.fixed_output-requires-clause-closed
fixed_output-requires-clause-closed c = (subst (Answers c.args.chain.now.certificate) c.in-Ok-Found.field-0-is c.in-Ok-Found.ensures.answers).2

pub unreachable-requires : goal.unreachable-requires
unreachable-requires c =
    taken_open c.args.setting.now c.args.chain.now.certificate c.answer_law.ensures c.taken_alone_law.ensures c.input-input.ensures.named c.kind-kind.ensures.bound c.over_problems.ensures c.args.chain.now.chain c.requires _
    (subst (Answers c.args.chain.now.certificate) c.in-Ok-Solvable.field-0-is c.in-Ok-Solvable.ensures.answers)

pub solvable_closure-requires : goal.solvable_closure-requires
solvable_closure-requires c =
    let solved = subst (Answers c.args.chain.now.certificate) c.in-Ok-SolvableClosure.field-0-is c.in-Ok-SolvableClosure.ensures.answers in
    subst (λ problem. AreNamed problem c.as_slice.result.now) (sym c.last.ensures)
    (subst (AreNamed (last_problem c.args.chain.now.certificate)) (sym c.as_slice.ensures.value) solved.2.named)

pub returns-in_ok-output-in-Ok-SolvableClosure : goal.returns-in_ok-output-in-Ok-SolvableClosure
returns-in_ok-output-in-Ok-SolvableClosure c =
    let solved = subst (Answers c.args.chain.now.certificate) c.in-Ok-SolvableClosure.field-0-is c.in-Ok-SolvableClosure.ensures.answers in
    (c.requires, inl (c.in-Ok-SolvableClosure.sets.items, c.in_ok-output-in-Ok-SolvableClosure.ensures ∙ (λ i. refused (closure_line (c.last.ensures i) (c.as_slice.ensures.value i))), solved.1, solved.2))

pub returns-in_ok-limit_output-in-Err-Limit : goal.returns-in_ok-limit_output-in-Err-Limit
returns-in_ok-limit_output-in-Err-Limit c =
    let passed : c.find_closure.result ≡ Err (Limit c.in-Err-Limit.limit) = search rules in
    let told = c.find_closure.ensures.limit c.in-Err-Limit.limit passed in
    inl (c.requires, inr (inr (c.in-Err-Limit.limit, c.in_ok-limit_output-in-Err-Limit.ensures ∙ ap (λ passed. limit (limit_line passed)) c.in-Err-Limit.limit-is, told.1)))
