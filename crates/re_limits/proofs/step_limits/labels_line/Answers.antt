use Rattle.re_limits.proofs.Texts.{joined}
use Rattle.std.proofs.Common.{◌∙◌, codes}
use Rattle.std.specs.Fmt.{decimal}
use Rattle.re_limits.proofs.step_limits.labels_line.Goals as goal

pub returns : goal.returns
returns c = joined _ _ _ _ (decimal c.args.count) (codes "\n") c.in_ok-text.ensures (c.as_str.ensures.value ∙ c.in_ok-rest.ensures) c.in_ok-push_str.ensures.bytes
