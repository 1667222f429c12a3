use Rattle.re_explore.proofs.Evidences.{evidence_told}
use Rattle.re_explore.proofs.evidence_law.Goals as goal

pub returns : goal.returns
returns c = evidence_told c.judge_law.ensures
