use Rattle.std.proofs.Common.{◌∙◌, ap, subst, sym}
use Rattle.std.specs.Prelude.{Contains}
use Rattle.std.specs.List.{AllByRecursion}
use Rattle.std.proofs.lemmas.List.Elements.{Contains-get_or}
use Rattle.re_labels.proofs.LawsOfRows.{multisets_law}
use Rattle.re_labels.specs.Configs.{IsConfig}
use Rattle.re_given_words.proofs.Asked.{all-both}
use Rattle.re_given_words.proofs.LabelOrders.{IsBad-ordered, orders_in}
use Rattle.re_given_words.specs.Asking.{IsBad}
use Rattle.re_given_words.proofs.asking.bad_of.Goals.{then-is_highest+in_ok-push_orders, else-is_highest}
use Rattle.re_given_words.proofs.asking.bad_of.Goals as goal

is_config : (c : goal.Joined-is_highest) → IsConfig c.degree.result c.args.labels c.config-item.result
is_config c =
    let at : Contains c.as_slice-config-items.result.now c.config-item.result =
    subst (Contains c.as_slice-config-items.result.now) (sym c.config-item.is) (Contains-get_or c.as_slice-config-items.result.now c.loop-config.config-index c.config-item.result c.loop-config-test.true) in
    ((multisets_law c.degree.result c.args.labels).1 c.config-item.result).0 (subst (λ l. Contains l c.config-item.result) (c.as_slice-config-items.ensures.value ∙ c.in_ok-multisets.ensures) at)

pub loop-config-preserved : goal.loop-config-preserved
loop-config-preserved c = elim c.if-is_highest.branch [
  | then-is_highest+in_ok-push_orders w ↦ subst (AllByRecursion (IsBad c.args.passive.now c.args.labels)) (sym (ap (λ bad. bad.items) w.bad-is))
      (all-both (IsBad c.args.passive.now c.args.labels) c.loop-config.bad.items (orders_in c.config-item.result) w.push_orders.new.all.items c.loop-config.invariant
      (IsBad-ordered c.args.passive.now c.degree.result c.args.labels c.config-item.result (is_config c) (c.is_highest.ensures w.if-is_highest.true)) w.in_ok-push_orders.ensures)
  | else-is_highest w ↦ subst (AllByRecursion (IsBad c.args.passive.now c.args.labels)) (sym (ap (λ bad. bad.items) w.bad-is)) c.loop-config.invariant
]
