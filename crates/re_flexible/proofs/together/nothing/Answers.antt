use Rattle.std.proofs.Common.{subst}
use Rattle.re_labels.proofs.Membership.{Contains-none}
use Rattle.re_labels.specs.Sets.{IsIn}
use Rattle.re_flexible.proofs.Building.{built_all, built_more}
use Rattle.re_flexible.proofs.together.nothing.Goals as goal

pub loop-label-preserved : goal.loop-label-preserved
loop-label-preserved c = built_more (λ x y. ⊥) c.loop-label.table.items _ c.loop-label._label c.empty.result c.loop-label.invariant c.push.ensures.items
    (λ y. (λ held. Contains-none y (subst (IsIn y) c.empty.ensures held), λ none. absurd none))

pub returns-clause-nothing : goal.returns-clause-nothing
returns-clause-nothing c = λ x y held. (built_all (λ x y. ⊥) c.loop-label.table.items c.loop-label._label c.loop-label.invariant (λ x y none. absurd none) x y).0 held
