use Rattle.std.proofs.Common.{◌≡◌, ◌∙◌, ◌<◌, ap, sym, subst, arith, [], length}
use Rattle.std.specs.List.{AllByRecursion}
use Rattle.re_labels.specs.Orders.{multisets}
use Rattle.re_inputs.specs.NamedInputs.{may_stand}
use Rattle.re_labels.proofs.Membership.{AllByRecursion-weaker}
use Rattle.re_families.proofs.Listing.{all_kept, config_is, is_config, kept, left, passed, room}
use Rattle.re_inputs.proofs.making.oriented_constraint.Goals as goal
use Rattle.re_labels.specs.declared.TheConstants.{MAX_LABELS}

pub loop-picks-init : goal.loop-picks-init
loop-picks-init c = record {
  degree = c.new-constraint.ensures.degree;
  all = c.into_iter-picks-iterator.ensures.into_iter_gives ∙ c.new-picks-items.ensures;
  configs = c.new-constraint.ensures.empty;
}

pub config_of-config-requires-clause-two : goal.config_of-config-requires-clause-two
config_of-config-requires-clause-two c =
    let is = is_config c.args.degree 2 c.loop-picks.yielded c.loop-picks.picks-iterator c.next.new.self c.in-Some.picks c.loop-picks.invariant.all c.in-Some.ensures.steps in
    omega (arith, is.count, ap length c.numbers.ensures)

pub config_of-config-requires-clause-below : goal.config_of-config-requires-clause-below
config_of-config-requires-clause-below c =
    let is = is_config c.args.degree 2 c.loop-picks.yielded c.loop-picks.picks-iterator c.next.new.self c.in-Some.picks c.loop-picks.invariant.all c.in-Some.ensures.steps in
    subst (AllByRecursion (λ x. x < MAX_LABELS)) (sym c.numbers.ensures) (AllByRecursion-weaker (λ x. x < 2) (λ x. x < MAX_LABELS) (λ x l. omega (arith, l)) c.in-Some.picks is.below)

pub put-requires-clause-degree : goal.put-requires-clause-degree
put-requires-clause-degree c =
    let is = is_config c.args.degree 2 c.loop-picks.yielded c.loop-picks.picks-iterator c.next.new.self c.in-Some.picks c.loop-picks.invariant.all c.in-Some.ensures.steps in
    ap length (config_is c.args.degree 2 c.in-Some.picks c.numbers.result.now c.config_of-config.result is c.numbers.ensures c.config_of-config.ensures) ∙ is.count ∙ sym c.loop-picks.invariant.degree

pub put-requires-clause-room : goal.put-requires-clause-room
put-requires-clause-room c =
    room (may_stand c.args.mixed) c.args.degree 2 c.loop-picks.yielded c.loop-picks.picks-iterator c.loop-picks.constraint.configs c.requires.most (omega arith)
    c.loop-picks.invariant.all c.loop-picks.invariant.configs

pub loop-picks-preserved : goal.loop-picks-preserved
loop-picks-preserved c =
    let is = is_config c.args.degree 2 c.loop-picks.yielded c.loop-picks.picks-iterator c.next.new.self c.in-Some.picks c.loop-picks.invariant.all c.in-Some.ensures.steps in
    let same = config_is c.args.degree 2 c.in-Some.picks c.numbers.result.now c.config_of-config.result is c.numbers.ensures c.config_of-config.ensures in
    record {
      degree = c.in_ok-put.ensures.degree ∙ c.loop-picks.invariant.degree;
      all = passed (multisets c.args.degree 0 2) c.loop-picks.yielded c.loop-picks.picks-iterator c.next.new.self c.in-Some.picks c.loop-picks.invariant.all c.in-Some.ensures.steps;
      configs =
          let p = may_stand c.args.mixed in
          kept p c.loop-picks.yielded c.loop-picks.constraint.configs c.in-Some.picks c.loop-picks.invariant.configs c.put.new.constraint.configs c.config_of-config.result
          (ap p (sym same) ∙ sym c.if-not-may_stand.ensures) same c.in_ok-put.ensures.configs;
    }

pub loop-picks-preserved-then-not-may_stand : goal.loop-picks-preserved-then-not-may_stand
loop-picks-preserved-then-not-may_stand c =
    let is = is_config c.args.degree 2 c.loop-picks.yielded c.loop-picks.picks-iterator c.next.new.self c.in-Some.picks c.loop-picks.invariant.all c.in-Some.ensures.steps in
    let same = config_is c.args.degree 2 c.in-Some.picks c.numbers.result.now c.config_of-config.result is c.numbers.ensures c.config_of-config.ensures in
    record {
      degree = c.loop-picks.invariant.degree;
      all = passed (multisets c.args.degree 0 2) c.loop-picks.yielded c.loop-picks.picks-iterator c.next.new.self c.in-Some.picks c.loop-picks.invariant.all c.in-Some.ensures.steps;
      configs =
          let p = may_stand c.args.mixed in
          left p c.loop-picks.yielded c.loop-picks.constraint.configs c.in-Some.picks c.loop-picks.invariant.configs (ap p (sym same) ∙ sym c.if-not-may_stand.ensures);
    }

pub returns : goal.returns
returns c =
    let none : c.loop-picks.picks-iterator ≡ [] = c.in-None.ensures.steps.0 in
    let configs = all_kept (may_stand c.args.mixed) c.args.degree 2 c.loop-picks.yielded c.loop-picks.picks-iterator c.loop-picks.constraint.configs c.loop-picks.invariant.all none c.loop-picks.invariant.configs in
    (λ i. record { degree = c.loop-picks.invariant.degree i; configs = configs i })
