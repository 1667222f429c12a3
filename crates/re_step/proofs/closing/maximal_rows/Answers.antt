use Rattle.std.proofs.Common.{◌≡◌, ◌<◌, ◌≤◌, ◌∙◌, ap, sym, subst, rules, length, arith}
use Rattle.std.specs.Prelude.{Contains}
use Rattle.std.specs.Ordering.{is_lt}
use Rattle.re_labels.proofs.Membership.{Contains-none}
use Rattle.re_step.specs.Kept.{AreDifferent}
use Rattle.std.specs.List.{AllByRecursion}
use Rattle.std.specs.List.Sorted.{IsSortedBy}
use Rattle.std.proofs.lemmas.List.Sorted.{answers_always}
use Rattle.re_labels.specs.Rows.{row_cmp}
use Rattle.re_labels.specs.GoodRows.{max_rows}
use Rattle.re_step.proofs.Listing.{configs_longer, is_below, listed, listed_few, rows_ranked}
use Rattle.re_boxes.specs.HeldStrength.{ups_in}
use Rattle.re_step.proofs.closing.maximal_rows.Goals as goal
use Rattle.re_labels.specs.declared.TheConstants.{MAX_ROWS}

pub returns-clause-rows : goal.returns-clause-rows
returns-clause-rows c =
    let n = c.of-strength.result.labels in
    let same : n ≡ c.args.labels = c.of-strength.ensures.labels in
    let ups = ups_in c.of-strength.result.ups.items in
    let rows = c.cover_rows.new.found.rows.items in
    let configs = configs_longer c.args.constraint.now ups c.cover_configs.new.keeper.rows.items rows c.in_ok-cover_rows.ensures.longer c.in_ok-cover_configs.ensures.dominated in
    let sorted : IsSortedBy is_below c.sort_unstable_by.new.self.items = c.sort_unstable_by.ensures.sorted is_below rows_ranked (answers_always _ _ _ (λ f a r g called. let e : r ≡ row_cmp a.0.now a.1.0.now = search rules in ap is_lt e)) in
    listed c.args.constraint.now n MAX_ROWS rows c.sort_unstable_by.new.self.items c.in_ok-cover_rows.ensures.kept c.sort_unstable_by.ensures.permutation c.degree-degree.ensures.constraint
    (subst (λ m. AllByRecursion (AllByRecursion (λ x. x < m)) c.args.constraint.now.configs) (sym same) c.requires.below) ups c.of-strength.ensures.strong sorted configs c.in_ok-cover_rows.ensures.covered
    ∙ ap (max_rows c.args.constraint.now) same

pub returns-clause-few : goal.returns-clause-few
returns-clause-few c =
    let n = c.of-strength.result.labels in
    let same : n ≡ c.args.labels = c.of-strength.ensures.labels in
    let ups = ups_in c.of-strength.result.ups.items in
    let rows = c.cover_rows.new.found.rows.items in
    let configs = configs_longer c.args.constraint.now ups c.cover_configs.new.keeper.rows.items rows c.in_ok-cover_rows.ensures.longer c.in_ok-cover_configs.ensures.dominated in
    let sorted : IsSortedBy is_below c.sort_unstable_by.new.self.items = c.sort_unstable_by.ensures.sorted is_below rows_ranked (answers_always _ _ _ (λ f a r g called. let e : r ≡ row_cmp a.0.now a.1.0.now = search rules in ap is_lt e)) in
    subst (λ m. length (max_rows c.args.constraint.now m) ≤ MAX_ROWS) same
    (listed_few c.args.constraint.now n MAX_ROWS rows c.sort_unstable_by.new.self.items c.in_ok-cover_rows.ensures.kept c.sort_unstable_by.ensures.permutation c.degree-degree.ensures.constraint
    (subst (λ m. AllByRecursion (AllByRecursion (λ x. x < m)) c.args.constraint.now.configs) (sym same) c.requires.below) ups c.of-strength.ensures.strong sorted configs c.in_ok-cover_rows.ensures.covered)

pub cover_configs-requires-clause-below : goal.cover_configs-requires-clause-below
cover_configs-requires-clause-below c = subst (λ m. AllByRecursion (AllByRecursion (λ x. x < m)) c.args.constraint.now.configs) (sym c.of-strength.ensures.labels) c.requires.below

pub cover_configs-requires-clause-serves : goal.cover_configs-requires-clause-serves
cover_configs-requires-clause-serves c = (
  record {
    maximal = λ row h. absurd (Contains-none row (subst (λ l. Contains l row) c.in-Ok.ensures.items h));
    different = subst AreDifferent (sym c.in-Ok.ensures.items) tt;
    few = omega (arith, ap length c.in-Ok.ensures.items);
  },
  (λ held h. absurd (c.in-Ok-new.ensures held h)),
)
