use Rattle.std.proofs.Common.{refl, arith}
use Rattle.re_explore.proofs.Said.{is_answer}
use Rattle.re_explore.proofs.sure.run_sure.Goals as goal

pub returns-clause-answer : goal.returns-clause-answer
returns-clause-answer c no_memory =
    let answered = c.run.ensures.answer (is_answer c.run.result no_memory (λ fault. absurd (omega (arith, (c.run.ensures.read_fault fault).1))) (λ fault. absurd (omega (arith, c.run.ensures.write_fault fault))))
    c.args.source.now.left (λ reads. refl) in
    (answered.0, answered.1, answered.2.status, answered.2.text)

pub returns-clause-partly : goal.returns-clause-partly
returns-clause-partly c ended = c.run.ensures.memory_partly ended c.args.source.now.left (λ reads. refl)
