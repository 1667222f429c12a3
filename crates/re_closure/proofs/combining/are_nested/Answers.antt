use Rattle.std.proofs.Common.{inl, inr, sym, ◌∙◌}
use Rattle.re_labels.proofs.Sets.{within-IsWithin}
use Rattle.re_closure.proofs.combining.are_nested.Goals as goal

pub returns-then-within : goal.returns-then-within
returns-then-within c = λ told. inl (within-IsWithin c.args.set c.args.other (sym c.within.ensures ∙ c.if-within.true))

pub returns : goal.returns
returns c = λ told. inr (within-IsWithin c.args.other c.args.set (sym c.within-2.ensures ∙ told))
