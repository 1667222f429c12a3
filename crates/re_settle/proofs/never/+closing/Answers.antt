use Rattle.std.proofs.Common.{◌≡◌, ◌+◌, ◌-◌, suc, Err, None, arith, rules, subst}
use Rattle.std.specs.Prelude.{IfSome}
use Rattle.re_chains.specs.declared.one_kind.LowerChain.{LowerChain}
use Rattle.re_closure.specs.Closures.{Answers}
use Rattle.re_closure.specs.declared.types.ClosureFault.TheVariants.{Limit}
use Rattle.re_settings.proofs.EndNumbers.{some_number}
use Rattle.re_problem.specs.NamedProblems.{NamedProblem, unnamed}
use Rattle.re_problem.specs.Problems.{IsProblem}
use Rattle.re_settle.proofs.Known.{closes_later}
use Rattle.re_settle.proofs.Unclosed.{unclosed_at_end, unclosed_at_once, unclosed_by_length, unclosed_by_limit, unclosed_here, unclosed_later}
use Rattle.re_settle.specs.Ways.{ClosesBehind}
use Rattle.re_shaping.specs.Stepped.{stepped, stepping_fault}
use Rattle.re_settle.proofs.never.+closing.Goals as goal

pub returns-then-has-clause-closes : goal.returns-then-has-clause-closes
returns-then-has-clause-closes t c =
    let found = subst (Answers c.args.chain.now.certificate) c.in-Ok-Found.field-0-is c.in-Ok-Found.ensures.answers in
    (c.in-Ok-Found.certificate, found.2, c.in_ok-has-in-Ok-Found.ensures.text c.if-has.true)

pub returns-in-Ok-Found-clause-none : goal.returns-in-Ok-Found-clause-none
returns-in-Ok-Found-clause-none t c = λ none.
    let found = subst (Answers c.args.chain.now.certificate) c.in-Ok-Found.field-0-is c.in-Ok-Found.ensures.answers in
    unclosed_by_length c.args.times c.args.more c.args.chain.now.certificate c.one_outcome_law.ensures.plain (subst (λ (p : NamedProblem). IsProblem (unnamed p)) c.last-last.ensures c.names-names.ensures.problem.problem) found.1 c.in-Ok-Found.certificate found.2
    (c.in_ok-has-in-Ok-Found.ensures.long c.if-has.false)

pub returns-then-more-eq0-clause-none : goal.returns-then-more-eq0-clause-none
returns-then-more-eq0-clause-none t c = λ none.
    let found = subst (Answers c.args.chain.now.certificate) c.in-Ok-SolvableClosure.field-0-is c.in-Ok-SolvableClosure.ensures.answers in
    unclosed_here c.args.times c.args.more c.args.chain.now.certificate c.one_outcome_law.ensures.plain (subst (λ (p : NamedProblem). IsProblem (unnamed p)) c.last-last.ensures c.names-names.ensures.problem.problem) found.1 c.in-Ok-SolvableClosure._sets.items found.2
    c.if-more-eq0.true

pub returns-in-Some-2-clause-closes : goal.returns-in-Some-2-clause-closes
returns-in-Some-2-clause-closes t c =
    let found = subst (Answers c.args.chain.now.certificate) c.in-Ok-SolvableClosure.field-0-is c.in-Ok-SolvableClosure.ensures.answers in
    let closes = subst (λ found. IfSome found (λ steps. ClosesBehind steps c.in-Some.next.certificate)) c.in-Some-2.is c.in_ok-steps-in-Some.ensures.closes in
    let more : suc c.in-Some-2.steps ≡ c.in-Some-2.steps + 1 = omega arith in
    let may = subst (λ found. IfSome found (λ (next : LowerChain). stepping_fault c.args.chain.now.certificate ≡ None)) c.in-Some.is c.in_ok-next_chain-in-Ok-SolvableClosure.ensures.may in
    let next = subst (λ found. IfSome found (λ (next : LowerChain). next.certificate ≡ stepped c.args.chain.now.certificate)) c.in-Some.is c.in_ok-next_chain-in-Ok-SolvableClosure.ensures.stepped in
    subst (λ k. ClosesBehind k c.args.chain.now.certificate) more
    (closes_later c.args.chain.now.certificate c.in-Some.next.certificate c.in-Some-2.steps c.in-Ok-SolvableClosure._sets.items found.2 may next closes)

pub returns-in-None-clause-none : goal.returns-in-None-clause-none
returns-in-None-clause-none t c = λ none.
    let found = subst (Answers c.args.chain.now.certificate) c.in-Ok-SolvableClosure.field-0-is c.in-Ok-SolvableClosure.ensures.answers in
    unclosed_at_end c.args.times c.args.more c.args.chain.now.certificate c.one_outcome_law.ensures.plain (subst (λ (p : NamedProblem). IsProblem (unnamed p)) c.last-last.ensures c.names-names.ensures.problem.problem) found.1 c.in-Ok-SolvableClosure._sets.items found.2
    (c.in_ok-next_chain-in-Ok-SolvableClosure.ensures.none c.in-None.is)

pub returns-in-Ok-SolvableClosure-clause-none : goal.returns-in-Ok-SolvableClosure-clause-none
returns-in-Ok-SolvableClosure-clause-none t c = λ none.
    let found = subst (Answers c.args.chain.now.certificate) c.in-Ok-SolvableClosure.field-0-is c.in-Ok-SolvableClosure.ensures.answers in
    let some = some_number c.args.more c.if-more-eq0.false in
    let one : c.args.more ≡ suc (c.args.more - 1) = omega (arith, some) in
    let next = subst (λ found. IfSome found (λ (next : LowerChain). next.certificate ≡ stepped c.args.chain.now.certificate)) c.in-Some.is c.in_ok-next_chain-in-Ok-SolvableClosure.ensures.stepped in
    unclosed_later c.args.times c.args.more c.args.chain.now.certificate c.one_outcome_law.ensures.plain (subst (λ (p : NamedProblem). IsProblem (unnamed p)) c.last-last.ensures c.names-names.ensures.problem.problem) found.1 c.in-Ok-SolvableClosure._sets.items found.2
    c.in-Some.next.certificate (c.args.more - 1) next one (c.in_ok-steps-in-Some.ensures.none c.in-None-2.is)

pub returns-in-Ok-Solvable-clause-none : goal.returns-in-Ok-Solvable-clause-none
returns-in-Ok-Solvable-clause-none t c = λ none.
    unclosed_at_once c.args.times c.args.more c.args.chain.now.certificate c.in-Ok-Solvable._place (subst (Answers c.args.chain.now.certificate) c.in-Ok-Solvable.field-0-is c.in-Ok-Solvable.ensures.answers)

pub returns-in-Err-Limit-clause-none : goal.returns-in-Err-Limit-clause-none
returns-in-Err-Limit-clause-none t c = λ none.
    let passed : c.find_closure.result ≡ Err (Limit c.in-Err-Limit._passed) = search rules in
    unclosed_by_limit c.args.times c.args.more c.args.chain.now.certificate c.in-Err-Limit._passed (c.find_closure.ensures.limit c.in-Err-Limit._passed passed).1
