use Rattle.std.proofs.Common.{◌≡◌, ◌∙◌, ◌++◌, [], ap, append-nil, subst, sym}
use Rattle.std.specs.Prelude.{Contains}
use Rattle.std.specs.List.{flat_map}
use Rattle.re_given_words.proofs.LabelOrders.{Has-ordered, orders_in}
use Rattle.re_given_words.proofs.asking.orders_of.Goals as goal

pub returns : goal.returns
returns c = λ labels held.
    let none : c.loop-config.config-iterator ≡ [] = c.in-None.ensures.steps.0 in
    let same : c.loop-config.orders.items ≡ flat_map orders_in c.args.constraint.now.configs =
    sym (append-nil c.loop-config.orders.items) ∙ ap (λ l. c.loop-config.orders.items ++ flat_map orders_in l) (sym none) ∙ c.loop-config.invariant in
    subst (λ l. Contains l labels) (sym same) (Has-ordered c.args.constraint.now labels held)
