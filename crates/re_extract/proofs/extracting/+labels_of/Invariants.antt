use Rattle.std.proofs.Common.{length, take}
use Rattle.re_cert.specs.Stages.{stages_of}
use Rattle.re_extract.proofs.Levels.{Level, Looking}
use Rattle.re_extract.proofs.extracting.+labels_of.Given as goal

abbrev pub decreases-labels_of : goal.decreases-labels_of
decreases-labels_of l = length l.steps.now

abbrev pub invariant-loop-view : goal.invariant-loop-view
invariant-loop-view l =
    Level l.fn.pool l.pool l.before.active.degree l.before.passive.degree (length (stages_of l.others)) l.next.keys (take l.view-index l.views) l.all.items

abbrev pub invariant-loop-back : goal.invariant-loop-back
invariant-loop-back l =
    Looking l.fn.pool l.pool l.before.active.degree l.before.passive.degree (length (stages_of l.others)) l.next.keys (take l.view-index l.views) l.all.items l.view l.sights.items l.back-index l.port
