use Rattle.std.proofs.Common.{◌∷◌, [], subst, sym, true}
use Rattle.re_given_words.proofs.SetsAdded.{added-missed, added-new}
use Rattle.re_given_words.specs.Searching.{AreAllowed, IsAdded, IsMissed}
use Rattle.re_given_words.proofs.drawing.let_stand.Goals as goal

pub returns-then-not-branch : goal.returns-then-not-branch
returns-then-not-branch c =
    added-missed c.args.active.now c.args.new c.args.standing.now.items c.requires
    (subst (λ standing. IsMissed c.args.active.now standing c.args.new []) c.as_slice-2.ensures.value (c.in_ok-are_allowed.ensures.no c.if-not-branch.true))

pub returns : goal.returns
returns c =
    subst (IsAdded c.args.active.now (c.args.new.port ∷ []) (c.args.new.set ∷ []) c.args.standing.now.items true) (sym c.in_ok-push.ensures.items)
    (added-new c.args.active.now c.args.new c.args.standing.now.items c.requires
    (subst (λ standing. AreAllowed c.args.active.now standing c.args.new []) c.as_slice-2.ensures.value (c.in_ok-are_allowed.ensures.yes c.if-not-branch.false)))
