use Rattle.std.proofs.Common.{◌<◌, ◌∙◌, ap, length, subst, sym}
use Rattle.std.specs.List.{AllByRecursion}
use Rattle.re_families.proofs.Listing.{is_config}
use Rattle.re_greedy.proofs.answering.first_stuck.Goals as goal

pub allows_at-requires-clause-degree : goal.allows_at-requires-clause-degree
allows_at-requires-clause-degree c =
    let is = is_config c.args.constraint.now.degree (length c.args.joining.now) c.loop-picks.yielded c.loop-picks.picks-iterator c.next.new.self c.in-Some.picks c.loop-picks.invariant.all c.in-Some.ensures.steps in
    ap length c.numbers.ensures ∙ is.count

pub allows_at-requires-clause-known : goal.allows_at-requires-clause-known
allows_at-requires-clause-known c =
    let is = is_config c.args.constraint.now.degree (length c.args.joining.now) c.loop-picks.yielded c.loop-picks.picks-iterator c.next.new.self c.in-Some.picks c.loop-picks.invariant.all c.in-Some.ensures.steps in
    subst (AllByRecursion (λ place. place < length c.args.joining.now)) (sym c.numbers.ensures) is.below
