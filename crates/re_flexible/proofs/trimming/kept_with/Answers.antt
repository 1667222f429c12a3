use Rattle.std.proofs.Common.{◌∙◌, subst, sym}
use Rattle.std.proofs.lemmas.Bool.{false≢true}
use Rattle.re_labels.proofs.Membership.{Contains-none}
use Rattle.re_labels.proofs.Sets.{IsIn-has, IsIn-meet, IsIn-meet_cases, has-IsIn}
use Rattle.re_labels.specs.Sets.{IsIn}
use Rattle.re_flexible.proofs.trimming.kept_with.Goals as goal

pub returns-then-has : goal.returns-then-has
returns-then-has c = λ y. (
  λ held. let two = IsIn-meet_cases c.args.set c.args.kept y (subst (IsIn y) c.meet.ensures held) in (two.0, has-IsIn c.args.kept c.args.label (sym c.has.ensures ∙ c.if-has.true), two.1),
  λ three. subst (IsIn y) (sym c.meet.ensures) (IsIn-meet c.args.set c.args.kept y three.0 three.2),
)

pub returns : goal.returns
returns c = λ y. (
  λ held. absurd (Contains-none y (subst (IsIn y) c.empty.ensures held)),
  λ three. absurd (false≢true (sym (sym c.has.ensures ∙ c.if-has.false) ∙ IsIn-has c.args.kept c.args.label three.1)),
)
