use Rattle.std.proofs.Common.{◌≡◌, ◌∙◌, ◌++◌, ◌∷◌, [], Err, ap, refl, subst, sym}
use Rattle.re_labels.specs.Configs.{IsConfig}
use Rattle.re_families.proofs.Listing.{passed}
use Rattle.re_inputs.proofs.PairingLemmas.{at_end, at_start, come_to, one_more, too_many}
use Rattle.re_inputs.specs.Pairings.{pairings_with}
use Rattle.re_labels.proofs.Membership.{AllByRecursion-In}
use Rattle.re_labels.specs.declared.constraint_table.InsertFault.TheVariants.{TooManyConfigurations}
use Rattle.re_inputs.proofs.pairing.put_all_pairings.Goals as goal

pub loop-first-init : goal.loop-first-init
loop-first-init c = (
  [],
  record {
    degree = refl;
    all = c.into_iter-first-iterator.ensures.into_iter_gives ∙ c.configs-first-items.ensures;
    configs = at_start (pairings_with c.args.m c.args.given.now) c.args.constraint.now.configs c.degree-degree.ensures.constraint.ascends;
  },
)

pub put_pairings_with-requires-clause-first : goal.put_pairings_with-requires-clause-first
put_pairings_with-requires-clause-first c =
    let at = come_to c.args.own.now.configs c.loop-first.invariant.0 c.loop-first.first-iterator c.next.new.self c.in-Some.first.now c.loop-first.invariant.1.all c.in-Some.ensures.steps in
    subst (λ d. IsConfig d c.args.n c.in-Some.first.now) (sym (c.loop-first.invariant.1.degree ∙ c.requires.degree))
    (AllByRecursion-In (IsConfig c.args.own.now.degree c.args.n) c.args.own.now.configs c.in-Some.first.now c.requires.own.configs at)

pub put_pairings_with-requires-clause-same : goal.put_pairings_with-requires-clause-same
put_pairings_with-requires-clause-same c = c.requires.same ∙ sym (c.loop-first.invariant.1.degree ∙ c.requires.degree)

pub loop-first-preserved : goal.loop-first-preserved
loop-first-preserved c = (
  c.loop-first.invariant.0 ++ c.in-Some.first.now ∷ [],
  record {
    degree = c.put_pairings_with.ensures.degree ∙ c.loop-first.invariant.1.degree;
    all = passed c.args.own.now.configs c.loop-first.invariant.0 c.loop-first.first-iterator c.next.new.self c.in-Some.first.now c.loop-first.invariant.1.all c.in-Some.ensures.steps;
    configs = one_more (pairings_with c.args.m c.args.given.now) c.args.constraint.now.configs c.args.own.now.configs c.loop-first.invariant.0 c.loop-first.first-iterator c.loop-first.constraint.configs
        c.loop-first.invariant.1.all c.loop-first.invariant.1.configs c.in-Some.first.now c.put_pairings_with.new.constraint.configs c.in-Ok.ensures.configs;
  },
)

pub returns-in-Err-clause-many : goal.returns-in-Err-clause-many
returns-in-Err-clause-many c = λ many.
    let is : c.in-Err.fault ≡ TooManyConfigurations = cc in
    too_many (pairings_with c.args.m c.args.given.now) c.args.constraint.now.configs c.args.own.now.configs c.loop-first.invariant.0 c.loop-first.first-iterator c.loop-first.constraint.configs
    c.loop-first.invariant.1.all c.loop-first.invariant.1.configs c.in-Some.first.now c.next.new.self c.in-Some.ensures.steps (c.in-Err.ensures.many (ap Err is))

pub returns-clause-configs : goal.returns-clause-configs
returns-clause-configs c =
    at_end (pairings_with c.args.m c.args.given.now) c.args.constraint.now.configs c.args.own.now.configs c.loop-first.invariant.0 c.loop-first.first-iterator c.loop-first.constraint.configs
    c.loop-first.invariant.1.all c.loop-first.invariant.1.configs c.in-None.ensures.steps.0

pub returns-in-Err-clause-degree : goal.returns-in-Err-clause-degree
returns-in-Err-clause-degree c = c.in-Err.ensures.degree ∙ c.loop-first.invariant.1.degree

pub returns-clause-degree : goal.returns-clause-degree
returns-clause-degree c = c.loop-first.invariant.1.degree
