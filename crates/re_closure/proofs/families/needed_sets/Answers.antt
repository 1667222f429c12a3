use Rattle.std.proofs.Common.{◌++◌, ap, sym, ◌∙◌, subst, map, List, ℕ}
use Rattle.std.specs.Prelude.{Contains, ◌↔◌}
use Rattle.std.specs.List.Sorted.{IsNonDecreasingBy}
use Rattle.std.proofs.lemmas.Result.{IfOk-weaker}
use Rattle.re_labels.specs.Sets.{number}
use Rattle.re_closure_laws.specs.Lines.{others}
use Rattle.re_closure.proofs.NeededSets.{needed}
use Rattle.re_closure.proofs.families.needed_sets.Goals as goal

pub without_repeats-requires : goal.without_repeats-requires
without_repeats-requires c = subst (IsNonDecreasingBy number) (sym c.as_slice-3.ensures.value) c.in_order-all.ensures.order

pub returns-clause-needed : goal.returns-clause-needed
returns-clause-needed c =
    let left = c.in_ok-left.ensures ∙ ap (map (others c.args.labels)) (c.as_slice.ensures.value ∙ c.in_ok-held.ensures) in
    let whole = c.in_ok-extend_from_slice.ensures.items ∙ (λ i. c.in_ok-sets.ensures i ++ (c.as_slice-2.ensures.value ∙ left) i) in
    IfOk-weaker c.without_repeats.result _ _
    (λ once same. needed c.args.labels c.args.passive.now c.args.active.now c.extend_from_slice.new.self.items c.in_order-all.result.items once.items whole c.in_order-all.ensures.same
    (subst (λ l. (set : List ℕ) → Contains once.items set ↔ Contains l set) c.as_slice-3.ensures.value same)) c.without_repeats.ensures.same
