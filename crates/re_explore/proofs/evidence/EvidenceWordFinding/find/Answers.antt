use Rattle.re_frame.specs.Outcomes.{outcome_of}
use Rattle.re_explore.proofs.Evidences.{show_says}
use Rattle.re_explore.proofs.evidence.EvidenceWordFinding.find.Goals as goal
use Rattle.std.proofs.lemmas.Result.{IfOk-weaker}

pub returns-clause-says : goal.returns-clause-says
returns-clause-says c = IfOk-weaker c.text_output.result _ _ (λ output may. show_says _ (outcome_of output) may) c.text_output.ensures
