use Rattle.std.proofs.Common.{◌∙◌, ap}
use Rattle.re_cert.specs.Bounds.{has_row_maps}
use Rattle.re_texts.proofs.printed_certificate.has_row_maps.Goals as goal

pub returns : goal.returns
returns c = c.some_by_row.ensures ∙ ap has_row_maps c.steps.ensures.steps
