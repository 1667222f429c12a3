use Rattle.re_step.proofs.RestLemmas.{once_all, once_held, once_more}
use Rattle.std.proofs.Common.{rules, ℕ, List, ◌+◌, take, Contains, ◌↔◌, subst, sym}
use Rattle.re_step.proofs.rests.each_once.Goals as goal
use Rattle.re_step.proofs.rests.each_once.Goals.{then-not-is_last+in_ok-push, else-not-is_last}

pub loop-config-preserved : goal.loop-config-preserved
loop-config-preserved c = elim c.if-not-is_last.branch [
  | then-not-is_last+in_ok-push w ↦ once_more c.args.configs.now c.loop-config.kept.items c.if-not-is_last.kept.items c.loop-config.config-index c.config-item.result c.loop-config-test.true c.config-item.is c.loop-config.invariant (search rules)
  | else-not-is_last w ↦ subst (λ k. (z : List ℕ) → Contains k.items z ↔ Contains (take (c.loop-config.config-index + 1) c.args.configs.now) z) (sym w.kept-is)
      (once_held c.args.configs.now c.loop-config.kept.items c.loop-config.config-index c.config-item.result c.loop-config-test.true c.config-item.is c.loop-config.invariant
      (subst (λ l. Contains l c.config-item.result) c.as_slice.ensures.value (c.is_last.ensures (search (w.if-not-is_last, rules)))))
]

pub returns : goal.returns
returns c = once_all c.args.configs.now c.loop-config.kept.items c.loop-config.config-index c.loop-config-test.false c.loop-config.invariant
