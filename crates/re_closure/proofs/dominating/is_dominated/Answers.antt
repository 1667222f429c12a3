use Rattle.std.proofs.Common.{sym, ◌∙◌}
use Rattle.std.proofs.lemmas.Bool.{false≢true}
use Rattle.re_closure.proofs.Dominations.{none_more, none_of_all}
use Rattle.re_closure.proofs.dominating.is_dominated.Goals as goal

pub loop-top-preserved : goal.loop-top-preserved
loop-top-preserved c = none_more c.args.lines.now c.args.line.now c.loop-top.top-index c.top-item.result c.loop-top-test.true c.top-item.is c.loop-top.invariant
    (λ dom. false≢true (sym c.if-dominates.false ∙ c.dominates.ensures.1 dom))

pub returns : goal.returns
returns c = (
  λ told. absurd (false≢true told),
  λ held. absurd (none_of_all c.args.lines.now c.args.line.now c.loop-top.top-index c.loop-top-test.false c.loop-top.invariant held),
)
