use Rattle.std.proofs.Common.{ap, sym, ◌∙◌}
use Rattle.re_shaping.specs.Merging.{merge_limit, merge_refusal, merged}
use Rattle.re_settle.proofs.never.merge_way.Goals as goal

pub closed_way-requires-clause-relaxed : goal.closed_way-requires-clause-relaxed
closed_way-requires-clause-relaxed c = c.in-Ok.ensures.merged ∙ ap (merged c.args.from c.args.to) c.requires

pub closed_way-requires-clause-may : goal.closed_way-requires-clause-may
closed_way-requires-clause-may c = ap (merge_refusal c.args.from c.args.to) (sym c.requires) ∙ c.in-Ok.ensures.may

pub closed_way-requires-clause-within : goal.closed_way-requires-clause-within
closed_way-requires-clause-within c = ap (merge_limit c.args.from c.args.to) (sym c.requires) ∙ c.in-Ok.ensures.within

pub closed_way-requires-clause-text : goal.closed_way-requires-clause-text
closed_way-requires-clause-text c = c.in_ok-has-in-Ok.ensures.text c.if-has.true
