use Rattle.std.proofs.Common.{◌≡◌, map, take}
use Rattle.re_labels.specs.Configs.{image_at}
use Rattle.re_shaping.specs.Chains.{entry_sent}
use Rattle.re_shaping.proofs.sending.sent_entries.Given as goal

abbrev pub invariant-loop-entry : goal.invariant-loop-entry
invariant-loop-entry l = l.sent.items ≡ map (entry_sent (image_at l.images)) (take l.entry-index l.entries)
