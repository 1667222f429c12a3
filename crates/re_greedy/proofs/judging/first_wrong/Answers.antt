use Rattle.std.proofs.Common.{◌≡◌, subst, sym, true}
use Rattle.std.specs.Prelude.{Contains}
use Rattle.re_greedy.proofs.HardestRows.{no_item}
use Rattle.re_greedy.proofs.Searches.{right_all, right_more}
use Rattle.re_greedy.proofs.judging.first_wrong.Goals as goal
use Rattle.re_greedy.specs.Partials.{IsRight}

pub returns-then-not-is_right : goal.returns-then-not-is_right
returns-then-not-is_right c =
    subst (λ l. Contains c.args.members.now l × (IsRight c.args.passive.now l → ⊥)) (sym c.copy.ensures) (
      no_item c.args.members.now c.loop-member.member-index c.member-item.result c.loop-member-test.true c.member-item.is,
      λ right. (let held : c.is_right.result ≡ true = c.is_right.ensures.1 right in absurd (cc)),
    )

pub loop-member-preserved : goal.loop-member-preserved
loop-member-preserved c =
    right_more c.args.passive.now c.args.members.now c.loop-member.member-index c.member-item.result c.loop-member-test.true c.member-item.is c.loop-member.invariant (c.is_right.ensures.0 c.if-not-is_right.false)

pub returns : goal.returns
returns c = right_all c.args.passive.now c.args.members.now c.loop-member.member-index c.loop-member-test.false c.loop-member.invariant
