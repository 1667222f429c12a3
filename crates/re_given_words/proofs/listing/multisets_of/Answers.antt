use Rattle.std.proofs.Common.{◌≡◌, ◌∙◌, ◌<◌, ◌++◌, ◌∷◌, ap, sym, subst, arith, rules, [], length, append-nil}
use Rattle.std.specs.List.{AllByRecursion}
use Rattle.re_labels.specs.Orders.{multisets}
use Rattle.re_labels.proofs.Membership.{AllByRecursion-weaker}
use Rattle.re_labels.specs.declared.TheConstants.{MAX_LABELS}
use Rattle.re_families.proofs.Listing.{config_is, is_config, passed}
use Rattle.re_given_words.proofs.listing.multisets_of.Goals as goal

pub config_of-requires-clause-two : goal.config_of-requires-clause-two
config_of-requires-clause-two c =
    let is = is_config c.args.count c.args.below c.loop-picks.yielded c.loop-picks.picks-iterator c.next.new.self c.in-Some.picks c.loop-picks.invariant.all c.in-Some.ensures.steps in
    omega (arith, is.count, ap length c.numbers.ensures)

pub config_of-requires-clause-six : goal.config_of-requires-clause-six
config_of-requires-clause-six c =
    let is = is_config c.args.count c.args.below c.loop-picks.yielded c.loop-picks.picks-iterator c.next.new.self c.in-Some.picks c.loop-picks.invariant.all c.in-Some.ensures.steps in
    omega (arith, is.count, ap length c.numbers.ensures)

pub config_of-requires-clause-below : goal.config_of-requires-clause-below
config_of-requires-clause-below c =
    let is = is_config c.args.count c.args.below c.loop-picks.yielded c.loop-picks.picks-iterator c.next.new.self c.in-Some.picks c.loop-picks.invariant.all c.in-Some.ensures.steps in
    subst (AllByRecursion (λ x. x < MAX_LABELS)) (sym c.numbers.ensures) (AllByRecursion-weaker (λ x. x < c.args.below) (λ x. x < MAX_LABELS) (λ x l. omega (arith, l)) c.in-Some.picks is.below)

pub loop-picks-init : goal.loop-picks-init
loop-picks-init c = record {
  all = c.into_iter-picks-iterator.ensures.into_iter_gives ∙ c.new-picks-items.ensures;
  items = search rules;
}

pub loop-picks-preserved : goal.loop-picks-preserved
loop-picks-preserved c =
    let is = is_config c.args.count c.args.below c.loop-picks.yielded c.loop-picks.picks-iterator c.next.new.self c.in-Some.picks c.loop-picks.invariant.all c.in-Some.ensures.steps in
    let same = config_is c.args.count c.args.below c.in-Some.picks c.numbers.result.now c.config_of.result is c.numbers.ensures c.config_of.ensures in
    record {
      all = passed (multisets c.args.count 0 c.args.below) c.loop-picks.yielded c.loop-picks.picks-iterator c.next.new.self c.in-Some.picks c.loop-picks.invariant.all c.in-Some.ensures.steps;
      items = c.in_ok-push.ensures.items ∙ (λ i. c.loop-picks.invariant.items i ++ same i ∷ []);
    }

pub returns : goal.returns
returns c =
    let none : c.loop-picks.picks-iterator ≡ [] = c.in-None.ensures.steps.0 in
    c.loop-picks.invariant.items ∙ sym (append-nil c.loop-picks.yielded) ∙ ap (λ l. c.loop-picks.yielded ++ l) (sym none) ∙ c.loop-picks.invariant.all
