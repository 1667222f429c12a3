use Rattle.std.proofs.Common.{◌≡◌, None, Some, ap, map, sym, ◌∙◌}
use Rattle.re_shaping.proofs.TidiedBounds.{tidied_built}
use Rattle.re_shaping.specs.Tidied.{step_in_order, tidied}
use Rattle.re_shaping.proofs.tidying.tidy.Goals as goal

pub unreachable-requires : goal.unreachable-requires
unreachable-requires c =
    let made =
    tidied_built c.args.certificate.now c.kind.result c.back.result c.in_ok-first.first c.in_ok-steps.steps.items c.in_ok-renaming.renaming.items c.kind.ensures.bound c.kind.ensures.kind c.back.ensures.back
    (c.in_ok-first.ensures ∙ c.first.ensures.first) (c.in_ok-steps.ensures ∙ ap (map step_in_order) c.steps.ensures.steps) c.in_ok-renaming.ensures
    in
    let none : None ≡ Some (tidied c.args.certificate.now) = sym c.in-None.is ∙ c.build.ensures ∙ made in cc

pub returns : goal.returns
returns c =
    let made =
    tidied_built c.args.certificate.now c.kind.result c.back.result c.in_ok-first.first c.in_ok-steps.steps.items c.in_ok-renaming.renaming.items c.kind.ensures.bound c.kind.ensures.kind c.back.ensures.back
    (c.in_ok-first.ensures ∙ c.first.ensures.first) (c.in_ok-steps.ensures ∙ ap (map step_in_order) c.steps.ensures.steps) c.in_ok-renaming.ensures
    in
    let same : Some c.in-Some.tidied ≡ Some (tidied c.args.certificate.now) = sym c.in-Some.is ∙ c.build.ensures ∙ made in cc
