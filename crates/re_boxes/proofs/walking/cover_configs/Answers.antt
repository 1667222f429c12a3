use Rattle.std.proofs.Common.{◌≡◌, ◌∙◌, ◌<◌, [], ◌∷◌, inl, inr, map, subst, sym, refl, append-nil}
use Rattle.std.specs.List.{AllByRecursion}
use Rattle.std.specs.Prelude.{Contains}
use Rattle.re_labels.proofs.Membership.{AllByRecursion-contains, Contains-cases, Contains-here, Contains-later, Contains-none}
use Rattle.re_labels.specs.GoodRows.{IsDominated}
use Rattle.re_boxes.proofs.Growing.{dominated_longer, longer_on}
use Rattle.re_boxes.specs.HeldStrength.{ups_in}
use Rattle.re_boxes.proofs.walking.cover_configs.Goals as goal

pub loop-config-init : goal.loop-config-init
loop-config-init g c =
    let all : c.into_iter-config-iterator.result ≡ c.args.constraint.now.configs = c.into_iter-config-iterator.ensures.into_iter_gives ∙ c.configs-config-items.ensures in
    record {
      serves = c.requires.serves;
      longer = ([], sym (append-nil _));
      most = refl;
      held = λ config i. subst (λ l. Contains l config) all i;
      done = λ config i. inl (subst (λ l. Contains l config) (sym all) i);
    }

pub loop-config-preserved : goal.loop-config-preserved
loop-config-preserved g c =
    let ups = ups_in c.args.strength.now.ups.items in
    let config = c.in-Some.config.now in
    let left : c.loop-config.config-iterator ≡ config ∷ c.next.new.self = c.in-Some.ensures.steps in
    record {
      serves = c.in_ok-cover_config.ensures.serves;
      longer = longer_on (g.K.Keeper.rows c.args.keeper.now) (g.K.Keeper.rows c.loop-config.keeper) (g.K.Keeper.rows c.cover_config.new.keeper) c.loop-config.invariant.longer c.cover_config.ensures.longer;
      most = c.cover_config.ensures.most ∙ c.loop-config.invariant.most;
      held = λ other i. c.loop-config.invariant.held other (subst (λ l. Contains l other) (sym left) (Contains-later other config c.next.new.self i));
      done = λ other i. elim (c.loop-config.invariant.done other i) [
        | inl more ↦ elim (Contains-cases other config c.next.new.self (subst (λ l. Contains l other) left more)) [
          | inl same ↦ inr (subst (λ v. IsDominated (g.K.Keeper.rows c.cover_config.new.keeper) (map ups v)) (sym same) c.in_ok-cover_config.ensures.dominated)
          | inr later ↦ inl later
        ]
        | inr before ↦ inr (dominated_longer (g.K.Keeper.rows c.loop-config.keeper) (g.K.Keeper.rows c.cover_config.new.keeper) c.cover_config.ensures.longer (map ups other) before)
      ];
    }

pub cover_config-requires-clause-config : goal.cover_config-requires-clause-config
cover_config-requires-clause-config g c =
    let config = c.in-Some.config.now in
    let left : c.loop-config.config-iterator ≡ config ∷ c.next.new.self = c.in-Some.ensures.steps in
    c.loop-config.invariant.held config (subst (λ l. Contains l config) (sym left) (Contains-here config c.next.new.self))

pub cover_config-requires-clause-below : goal.cover_config-requires-clause-below
cover_config-requires-clause-below g c =
    let config = c.in-Some.config.now in
    let left : c.loop-config.config-iterator ≡ config ∷ c.next.new.self = c.in-Some.ensures.steps in
    AllByRecursion-contains (AllByRecursion (λ label. label < c.args.strength.now.labels)) c.args.constraint.now.configs config c.requires.below
    (c.loop-config.invariant.held config (subst (λ l. Contains l config) (sym left) (Contains-here config c.next.new.self)))

pub returns-clause-dominated : goal.returns-clause-dominated
returns-clause-dominated g c = λ config i. elim (c.loop-config.invariant.done config i) [
  | inl more ↦ absurd (Contains-none config (subst (λ l. Contains l config) c.in-None.ensures.steps.0 more))
  | inr done ↦ done
]
