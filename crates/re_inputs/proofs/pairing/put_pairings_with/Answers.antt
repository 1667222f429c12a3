use Rattle.std.proofs.Common.{◌≡◌, ◌∙◌, ◌++◌, ◌∷◌, [], Err, ap, refl, subst, sym}
use Rattle.re_labels.specs.Configs.{IsConfig}
use Rattle.re_families.proofs.Listing.{passed}
use Rattle.re_inputs.proofs.PairingLemmas.{at_end, at_start, come_to, one_more, too_many}
use Rattle.re_inputs.specs.Pairings.{pairings}
use Rattle.re_labels.proofs.Membership.{AllByRecursion-In}
use Rattle.re_labels.specs.declared.constraint_table.InsertFault.TheVariants.{TooManyConfigurations}
use Rattle.re_inputs.proofs.pairing.put_pairings_with.Goals as goal

pub loop-second-init : goal.loop-second-init
loop-second-init c = (
  [],
  record {
    degree = refl;
    all = c.into_iter-second-iterator.ensures.into_iter_gives ∙ c.configs-second-items.ensures;
    configs = at_start (pairings c.args.m c.args.first.now) c.args.constraint.now.configs c.degree-degree.ensures.constraint.ascends;
  },
)

pub put_pairings-requires-clause-first : goal.put_pairings-requires-clause-first
put_pairings-requires-clause-first c = subst (λ d. IsConfig d c.args.n c.args.first.now) (sym c.loop-second.invariant.1.degree) c.requires.first

pub put_pairings-requires-clause-second : goal.put_pairings-requires-clause-second
put_pairings-requires-clause-second c =
    let at = come_to c.args.given.now.configs c.loop-second.invariant.0 c.loop-second.second-iterator c.next.new.self c.in-Some.second.now c.loop-second.invariant.1.all c.in-Some.ensures.steps in
    subst (λ d. IsConfig d c.args.m c.in-Some.second.now) (c.requires.same ∙ sym c.loop-second.invariant.1.degree)
    (AllByRecursion-In (IsConfig c.args.given.now.degree c.args.m) c.args.given.now.configs c.in-Some.second.now c.requires.given.configs at)

pub loop-second-preserved : goal.loop-second-preserved
loop-second-preserved c = (
  c.loop-second.invariant.0 ++ c.in-Some.second.now ∷ [],
  record {
    degree = c.put_pairings.ensures.degree ∙ c.loop-second.invariant.1.degree;
    all = passed c.args.given.now.configs c.loop-second.invariant.0 c.loop-second.second-iterator c.next.new.self c.in-Some.second.now c.loop-second.invariant.1.all c.in-Some.ensures.steps;
    configs = one_more (pairings c.args.m c.args.first.now) c.args.constraint.now.configs c.args.given.now.configs c.loop-second.invariant.0 c.loop-second.second-iterator c.loop-second.constraint.configs
        c.loop-second.invariant.1.all c.loop-second.invariant.1.configs c.in-Some.second.now c.put_pairings.new.constraint.configs c.in-Ok.ensures.configs;
  },
)

pub returns-in-Err-clause-many : goal.returns-in-Err-clause-many
returns-in-Err-clause-many c = λ many.
    let is : c.in-Err.fault ≡ TooManyConfigurations = cc in
    too_many (pairings c.args.m c.args.first.now) c.args.constraint.now.configs c.args.given.now.configs c.loop-second.invariant.0 c.loop-second.second-iterator c.loop-second.constraint.configs
    c.loop-second.invariant.1.all c.loop-second.invariant.1.configs c.in-Some.second.now c.next.new.self c.in-Some.ensures.steps (c.in-Err.ensures.many (ap Err is))

pub returns-clause-configs : goal.returns-clause-configs
returns-clause-configs c =
    at_end (pairings c.args.m c.args.first.now) c.args.constraint.now.configs c.args.given.now.configs c.loop-second.invariant.0 c.loop-second.second-iterator c.loop-second.constraint.configs
    c.loop-second.invariant.1.all c.loop-second.invariant.1.configs c.in-None.ensures.steps.0

pub returns-in-Err-clause-degree : goal.returns-in-Err-clause-degree
returns-in-Err-clause-degree c = c.in-Err.ensures.degree ∙ c.loop-second.invariant.1.degree

pub returns-clause-degree : goal.returns-clause-degree
returns-clause-degree c = c.loop-second.invariant.1.degree
