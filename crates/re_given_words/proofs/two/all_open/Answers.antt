use Rattle.std.proofs.Common.{◌≡◌, ◌∙◌, ◌++◌, ◌∷◌, [], ap, subst, sym, take}
use Rattle.re_labels.specs.Orders.{multisets}
use Rattle.re_problem.specs.NamedProblems.{unnamed}
use Rattle.re_labels.specs.Constraints.{Constraint}
use Rattle.re_given_words.proofs.RowsOrdered.{AreAll, all-more, begun}
use Rattle.re_given_words.proofs.SetsAdded.{seen-all, seen-more}
use Rattle.re_given_words.proofs.two.all_open.Goals as goal

pub loop-ports-preserved : goal.loop-ports-preserved
loop-ports-preserved c =
    subst (λ seen. AreAll c.args.rows.now seen c.push.new.self.items) (sym (seen-more c.as_slice-ports-items.result.now c.loop-ports.ports-index c.ports-item.result c.loop-ports-test.true c.ports-item.is))
    (subst (AreAll c.args.rows.now (take c.loop-ports.ports-index c.as_slice-ports-items.result.now ++ c.ports-item.result ∷ [])) (sym c.in_ok-push.ensures.items)
    (all-more c.args.rows.now (take c.loop-ports.ports-index c.as_slice-ports-items.result.now) c.loop-ports.opens.items c.ports-item.result _ c.loop-ports.invariant c.copy.ensures c.in_ok-rows.ensures))

listed : (c : goal.After-drop-ports_of-2) → take c.loop-ports.ports-index c.as_slice-ports-items.result.now ≡ multisets (unnamed c.args.problem.now).passive.degree 0 (unnamed c.args.problem.now).active.degree
listed c =
    seen-all c.as_slice-ports-items.result.now c.loop-ports.ports-index c.loop-ports.auto.ports-index-end c.loop-ports-test.false
    ∙ c.as_slice-ports-items.ensures.value ∙ c.in_ok-ports_of.ensures
    ∙ (λ k. multisets ((c.degree.ensures.degree ∙ ap (λ (side : Constraint). side.degree) c.passive.ensures.passive) k) 0 ((c.degree-2.ensures.degree ∙ ap (λ (side : Constraint). side.degree) c.active.ensures.active) k))

pub returns : goal.returns
returns c = begun (unnamed c.args.problem.now) c.args.rows.now c.loop-ports.opens.items c.names-names.ensures.problem.problem (subst (λ seen. AreAll c.args.rows.now seen c.loop-ports.opens.items) (listed c) c.loop-ports.invariant)
