use Rattle.std.proofs.Common.{◌≡◌, ◌∙◌, ◌++◌, ◌∷◌, [], Vec, ap, subst, sym, take, false}
use Rattle.std.specs.Prelude.{List, ℕ}
use Rattle.re_given_words.proofs.Serving.{AreFitting, fitting-kept, fitting-refused, left-from}
use Rattle.re_given_words.proofs.SetsAdded.{refused-from, seen-all, seen-more}
use Rattle.re_given_words.specs.Searching.{IsAdded, IsRefused}
use Rattle.re_given_words.proofs.searching.left_of.Goals as goal
use Rattle.re_given_words.proofs.searching.left_of.Goals.{else-branch, then-branch+in_ok-push}

pub loop-row-preserved : goal.loop-row-preserved
loop-row-preserved c =
    subst (λ all. AreFitting c.args.active.now c.args.standing.now c.args.before.now.ports all c.if-branch.rows.items) (sym (seen-more c.as_slice-row-items.result.now c.loop-row.row-index c.row-item.result c.loop-row-test.true c.row-item.is))
    (elim c.if-branch.branch [
      | then-branch+in_ok-push w ↦
          subst (AreFitting c.args.active.now c.args.standing.now c.args.before.now.ports (seen ++ c.row-item.result ∷ []))
          ((λ k. c.loop-row.rows.items ++ sym (w.new.ensures ∙ c.sets-sets.ensures.sets) k ∷ []) ∙ sym w.in_ok-push.ensures.items ∙ sym (ap (λ (v : Vec _ _). v.items) w.rows-is))
          (fitting-kept c.args.active.now c.args.standing.now c.args.before.now.ports seen c.loop-row.rows.items c.row-item.result c.loop-row.invariant)
      | else-branch w ↦
          subst (AreFitting c.args.active.now c.args.standing.now c.args.before.now.ports (seen ++ c.row-item.result ∷ [])) (sym (ap (λ (v : Vec _ _). v.items) w.rows-is))
          (fitting-refused c.args.active.now c.args.standing.now c.args.before.now.ports seen c.loop-row.rows.items c.row-item.result c.loop-row.invariant (refused w.if-branch.false))
    ])
  where
    seen : List (List (List ℕ))
    seen = take c.loop-row.row-index c.as_slice-row-items.result.now

    refused : c.in_ok-fits.field-0 ≡ false → IsRefused c.args.active.now c.args.before.now.ports c.row-item.result c.args.standing.now
    refused none =
        let (more, added) = c.in_ok-fits.ensures in
        subst (λ ports. IsRefused c.args.active.now ports c.row-item.result c.args.standing.now) c.labels-ports.ensures.labels
        (subst (λ sets. IsRefused c.args.active.now c.labels-ports.result.now sets c.args.standing.now) c.sets-sets.ensures.sets
        (refused-from c.args.active.now c.labels-ports.result.now c.sets-sets.result.now c.args.standing.now more (subst (λ b. IsAdded c.args.active.now c.labels-ports.result.now c.sets-sets.result.now c.args.standing.now b more) none added)))

pub returns : goal.returns
returns c =
    left-from c.args.active.now c.args.standing.now c.args.before.now.ports c.args.before.now _ (λ i. c.args.before.now.ports) c.copy.ensures
    (subst (λ seen. AreFitting c.args.active.now c.args.standing.now c.args.before.now.ports seen c.loop-row.rows.items)
    (seen-all c.as_slice-row-items.result.now c.loop-row.row-index c.loop-row.auto.row-index-end c.loop-row-test.false ∙ c.as_slice-row-items.ensures.value) c.loop-row.invariant)
