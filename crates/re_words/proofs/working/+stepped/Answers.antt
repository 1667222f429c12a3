use Rattle.re_words.proofs.WorkingLemmas.{limit_there, one_more}
use Rattle.re_frame.specs.Outcomes.{outcome_of}
use Rattle.std.proofs.Common.{rules}
use Rattle.std.proofs.lemmas.Result.{IfOk-weaker}
use Rattle.re_words.proofs.working.+stepped.Goals as goal

pub returns-else-further-eq0 : goal.returns-else-further-eq0
returns-else-further-eq0 t c = IfOk-weaker c.stepped.result _ _
    (λ output e. one_more c.args.number c.args.further c.args.problem.now c.derived.inside.problem (outcome_of output) (search rules) (search rules) (search rules) e) c.stepped.ensures

pub returns-in-Err-Limit : goal.returns-in-Err-Limit
returns-in-Err-Limit t c = IfOk-weaker c.limit_output.result _ _
    (λ output e. limit_there c.args.number c.args.further c.args.problem.now _ (outcome_of output) (search (c.step.ensures.limit, rules)) e) c.limit_output.ensures
