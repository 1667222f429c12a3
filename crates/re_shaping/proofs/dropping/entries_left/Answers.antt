use Rattle.std.proofs.Common.{◌≡◌, None, ap, get_or, sym, ◌∙◌}
use Rattle.re_problem.specs.Steps.{SetEntry}
use Rattle.re_shaping.proofs.LeftEntries.{left-passed, left-pushed}
use Rattle.re_shaping.proofs.dropping.entries_left.Goals as goal
use Rattle.re_shaping.proofs.dropping.entries_left.Goals.{in-Some+in_ok-push-in-Some, in-None}

pub loop-entry-preserved : goal.loop-entry-preserved
loop-entry-preserved c =
    let entry : SetEntry = record { set = c.entry.inside.set; label = c.entry.inside.label } in
    let at : record { set = c.entry.inside.set; label = c.entry.inside.label } ≡ get_or c.args.entries.now c.loop-entry.entry-index (record { set = c.entry.inside.set; label = c.entry.inside.label }) =
    c.entry.view_is ∙ c.entry-item.is ∙ ap (λ (d : SetEntry). get_or c.args.entries.now c.loop-entry.entry-index d) (sym c.entry.view_is) in
    elim c.match-images-entry.branch [
      | in-Some+in_ok-push-in-Some w ↦ left-pushed (λ label. get_or c.args.images.now label None) c.args.entries.now c.loop-entry.entry-index (record { set = c.entry.inside.set; label = c.entry.inside.label }) w.in-Some.label
          c.loop-entry-test.true at w.in-Some.is ((λ i. (w.left-is i).items) ∙ w.in_ok-push-in-Some.ensures.items) c.loop-entry.invariant
      | in-None w ↦ left-passed (λ label. get_or c.args.images.now label None) c.args.entries.now c.loop-entry.entry-index (record { set = c.entry.inside.set; label = c.entry.inside.label })
          c.loop-entry-test.true at w.in-None.is (λ i. (w.left-is i).items) c.loop-entry.invariant
    ]
