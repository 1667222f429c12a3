use Rattle.std.proofs.Common.{◌≡◌, take}
use Rattle.re_labels.specs.Configs.{support_of}
use Rattle.re_labels.proofs.configuration.Config.support.Given as goal

abbrev pub invariant-loop-label : goal.invariant-loop-label
invariant-loop-label l = l.support ≡ support_of (take l.label-index l.labels)
