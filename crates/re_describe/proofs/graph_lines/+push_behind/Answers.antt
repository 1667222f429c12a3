use Rattle.std.proofs.Common.{drop, refl}
use Rattle.std.proofs.lemmas.Result.{on_ok_weaker}
use Rattle.re_labels.proofs.Patterns.{others-are, parted}
use Rattle.re_describe.proofs.Drawn.{behind_here, behind_later}
use Rattle.re_describe.proofs.graph_lines.+push_behind.Goals as goal

pub returns-then-has_end : goal.returns-then-has_end
returns-then-has_end t c = on_ok_weaker c.push_others.result
    (λ grown. behind_here c.args.passive.now _ c.ends-item.result c.ends.result.now c.ends-then-has_end.result.now c.args.here c.has_end.result c.args.text.now.items c.push_others.new.text.items
    (parted c.args.passive.now _ c.ends-item.result c.in-len1-up.len_at_least c.ends-item.is (others-are c.args.passive.now))
    c.ends.ensures.ends c.ends-then-has_end.ensures.ends c.has_end.ensures c.if-has_end.true grown)
    c.push_others.ensures

pub returns : goal.returns
returns t c = on_ok_weaker c.push_behind.result
    (λ grown. behind_later c.args.passive.now (drop 1 c.args.passive.now) c.ends-item.result c.ends.result.now c.args.here c.has_end.result c.args.text.now.items c.push_behind.new.text.items
    (parted c.args.passive.now _ c.ends-item.result c.in-len1-up.len_at_least c.ends-item.is refl)
    c.ends.ensures.ends c.has_end.ensures c.if-has_end.false grown (others-are c.args.passive.now))
    c.push_behind.ensures
