use Rattle.std.proofs.Common.{arith, true, ap, sym, ◌∙◌}
use Rattle.std.specs.List.{list_all}
use Rattle.std.proofs.lemmas.List.{take_all}
use Rattle.re_labels.proofs.Strengths.{not-strong, strong-tells}
use Rattle.re_labels.specs.Strength.{may_replace}
use Rattle.re_labels.proofs.constraint_table.Constraint.at_least.Goals as goal

pub returns-then-not-may_replace : goal.returns-then-not-may_replace
returns-then-not-may_replace c =
    strong-tells c.args.self.now c.args.weak c.args.strong _
    (not-strong c.args.self.now c.args.strong c.args.weak c.loop-place.place c.in-Some.config.now c.may_replace.result (omega (arith, c.len-place-end.ensures.len, c.loop-place-test.true)) c.in-Some.ensures.config c.may_replace.ensures c.if-not-may_replace.true)

pub returns : goal.returns
returns c =
    strong-tells c.args.self.now c.args.weak c.args.strong true
    (sym (ap (list_all (may_replace c.args.self.now c.args.strong c.args.weak)) (sym (take_all c.loop-place.place c.args.self.now.configs (omega (arith, c.len-place-end.ensures.len, c.loop-place-test.false)))) ∙ c.loop-place.invariant))
