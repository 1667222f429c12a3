use Rattle.std.proofs.Common.{◌∙◌, ap, length, sym}
use Rattle.re_clauses.proofs.Pieces.{length-pieces}
use Rattle.re_clauses.proofs.clauses.Clauses.len.Goals as goal

pub returns : goal.returns
returns c = ap length c.as_slice.ensures.value ∙ (sym (length-pieces c.self.inside.literals.items 0 c.self.inside.ends.items) ∙ ap length c.self.view_is)
