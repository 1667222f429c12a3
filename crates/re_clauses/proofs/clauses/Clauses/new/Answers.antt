use Rattle.std.proofs.Common.{◌∙◌, ap}
use Rattle.re_clauses.specs.Tables.{pieces}
use Rattle.re_clauses.proofs.Pieces.{no_ends, no_pieces}
use Rattle.re_clauses.proofs.clauses.Clauses.new.Goals as goal

pub invariant_of-result : goal.invariant_of-result
invariant_of-result c = rw (c.new.ensures.items, c.new-2.ensures.items) no_ends

pub returns : goal.returns
returns c = ap (pieces c.new.result.items 0) c.new-2.ensures.items ∙ no_pieces c.new.result.items 0
