use Rattle.std.proofs.Common.{ap, sym, length, ◌∙◌, ◌++◌}
use Rattle.re_changes.proofs.Counted.{flat_map-next}
use Rattle.re_changes.specs.Classes.{strong_by}
use Rattle.re_changes.specs.Diagrams.{edges_from}
use Rattle.re_changes.proofs.drawing.edges_of.Goals as goal

pub loop-from-preserved : goal.loop-from-preserved
loop-from-preserved c =
    c.in_ok-push_edges.ensures ∙ ap (λ l. l ++ edges_from (strong_by c.args.ups.now) (length c.args.ups.now) c.args.least.now c.loop-from.from) c.loop-from.invariant
    ∙ sym (flat_map-next (edges_from (strong_by c.args.ups.now) (length c.args.ups.now) c.args.least.now) c.loop-from.from)
