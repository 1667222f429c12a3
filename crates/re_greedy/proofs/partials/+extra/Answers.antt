use Rattle.re_greedy.proofs.Extras.{extra_nowhere, extra_step, extra_there, joined_some}
use Rattle.re_greedy.proofs.partials.+extra.Goals as goal

pub returns-in_default : goal.returns-in_default
returns-in_default t c = λ x e. joined_some x c.args.seen.now c.args.whole.now e c.in_default.len_below

pub returns-then-label-first : goal.returns-then-label-first
returns-then-label-first t c =
    extra_step c.args.whole.now c.args.seen.now c.extra.result c.in-len1-up.len_at_least c.in-len1-up-seen.len_at_least c.requires.whole c.requires.seen c.if-label-first.true c.extra.ensures

pub returns-then-eq : goal.returns-then-eq
returns-then-eq t c = extra_there c.args.whole.now c.args.seen.now c.eq.result c.in-len1-up.len_at_least c.in-len1-up-seen.len_at_least c.requires.whole c.eq.ensures c.if-eq.true

pub returns : goal.returns
returns t c =
    extra_nowhere c.args.whole.now c.args.seen.now c.eq.result c.in-len1-up.len_at_least c.in-len1-up-seen.len_at_least c.requires.whole c.requires.seen c.if-label-first.false c.eq.ensures c.if-eq.false
