use Rattle.std.proofs.Common.{◌∙◌, ◌≡◌, ap, subst, sym, true}
use Rattle.re_cert.specs.Bounds.{BoundStep, map_fits, step_with}
use Rattle.re_texts.proofs.FittingParts.{labels_ready, sets_ready}
use Rattle.re_texts.proofs.printed_certificate.push_map.Goals as goal

pub push_entries-requires-clause-sets : goal.push_entries-requires-clause-sets
push_entries-requires-clause-sets c =
    sets_ready c.args.before.now c.step.inside.next _ c.names.result.now c.as_slice.result.now (subst (λ (s : BoundStep). map_fits c.args.before.now s.next s.map ≡ true) (sym c.step.view_is ∙ ap (step_with c.step.inside.next) c.in-Upper.is) c.requires) c.names.ensures.names c.as_slice.ensures.value

pub push_entries-requires-clause-labels : goal.push_entries-requires-clause-labels
push_entries-requires-clause-labels c =
    labels_ready c.args.before.now c.step.inside.next _ c.names-in-Upper.result.now c.as_slice.result.now (subst (λ (s : BoundStep). map_fits c.args.before.now s.next s.map ≡ true) (sym c.step.view_is ∙ ap (step_with c.step.inside.next) c.in-Upper.is) c.requires) c.names-in-Upper.ensures.names c.as_slice.ensures.value
