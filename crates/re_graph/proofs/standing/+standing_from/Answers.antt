use Rattle.std.proofs.Common.{drop, refl}
use Rattle.re_labels.proofs.Patterns.{others-are, parted}
use Rattle.re_graph.proofs.EndSearch.{found-here, found-later}
use Rattle.re_graph.proofs.standing.+standing_from.Goals as goal

pub returns-then-has_end : goal.returns-then-has_end
returns-then-has_end t c =
    found-here c.args.number c.args.passive.now _ c.ends-item.result c.ends.result.now c.ends-then-has_end.result.now c.args.here c.has_end.result c.place_among.result
    (parted c.args.passive.now _ c.ends-item.result c.in-len1-up.len_at_least c.ends-item.is (others-are c.args.passive.now))
    c.ends.ensures.ends c.ends-then-has_end.ensures.ends c.has_end.ensures c.if-has_end.true c.place_among.ensures.place

pub returns : goal.returns
returns t c =
    found-later c.args.number c.args.passive.now (drop 1 c.args.passive.now) c.ends-item.result c.ends.result.now c.args.here c.has_end.result c.standing_from.result
    (parted c.args.passive.now _ c.ends-item.result c.in-len1-up.len_at_least c.ends-item.is refl)
    c.ends.ensures.ends c.has_end.ensures c.if-has_end.false c.standing_from.ensures (others-are c.args.passive.now)
