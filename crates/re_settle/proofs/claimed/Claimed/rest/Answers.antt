use Rattle.std.proofs.Common.{◌∙◌}
use Rattle.re_settle.proofs.Pieces.{follows, told_by}
use Rattle.re_settle.proofs.claimed.Claimed.rest.Goals as goal

pub returns-clause-follows : goal.returns-clause-follows
returns-clause-follows c =
    follows c.args.self.now c.in_ok-classified.classified c.by_claim.result.text.items c.in_ok-classified.ensures.settled c.in_ok-classified.ensures.same
    (told_by c.args.self.now.classified.settled c.by_claim.result c.in_ok-text.text.items c.by_claim.ensures ∙ c.in_ok-text.ensures)
