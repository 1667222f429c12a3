use Rattle.std.proofs.Common.{◌++◌, ◌∙◌, filter, ap, sym}
use Rattle.re_changes.proofs.Counted.{flat_map-next}
use Rattle.re_settings.specs.Fits.{ends_in}
use Rattle.re_settings.proofs.ordering.by_last.Goals as goal

pub loop-label-preserved : goal.loop-label-preserved
loop-label-preserved c =
    c.in_ok-push_ending.ensures ∙ ap (λ o. o ++ filter (ends_in c.args.constraint.now.degree c.loop-label.label) c.args.constraint.now.configs) c.loop-label.invariant
    ∙ sym (flat_map-next (λ label. filter (ends_in c.args.constraint.now.degree label) c.args.constraint.now.configs) c.loop-label.label)
