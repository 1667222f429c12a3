use Rattle.std.proofs.Common.{◌∙◌, ap, sym}
use Rattle.re_cert.specs.Bounds.{BoundStep, step_with}
use Rattle.re_texts.proofs.FittingParts.{rows_ready}
use Rattle.re_texts.proofs.printed_certificate.push_rows_of.Goals as goal

pub push_rows-requires : goal.push_rows-requires
push_rows-requires c =
    rows_ready c.args.before.now c.args.step.now c.names.result.now c.as_slice.result.now c.requires c.names.ensures.names
    (c.as_slice.ensures.value ∙ sym (ap (λ (s : BoundStep). s.rows) (sym c.step.view_is ∙ ap (step_with c.step.inside.next) c.in-Lower.is)))
