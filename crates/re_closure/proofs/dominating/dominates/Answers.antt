use Rattle.std.proofs.Common.{ap, length, sym, ◌∙◌}
use Rattle.std.proofs.lemmas.Bool.{false≢true}
use Rattle.re_closure.proofs.Dominations.{one_length}
use Rattle.re_closure.proofs.dominating.dominates.Goals as goal

pub returns-then-tops-sets : goal.returns-then-tops-sets
returns-then-tops-sets c = (
  λ told. absurd (false≢true told),
  λ dom. absurd (c.if-tops-sets.true (ap length c.sets-tops.ensures.sets ∙ one_length c.args.top.now c.args.line.now dom ∙ sym (ap length c.sets-sets.ensures.sets))),
)
