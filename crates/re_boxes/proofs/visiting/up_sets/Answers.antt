use Rattle.std.proofs.Common.{◌≡◌, ◌∙◌, ◌<◌, [], ℕ, arith, List, ap, get_or, length, subst, sym}
use Rattle.std.specs.Prelude.{Contains, ◌↔◌}
use Rattle.re_boxes.proofs.Visits.{narrowed-up_sets, visit-start}
use Rattle.re_boxes.specs.Spans.{IsEnding, IsNarrowed, IsVisit, tree_of}
use Rattle.re_labels.specs.Sets.{IsLabelSet}
use Rattle.re_labels.proofs.Lists.{refilled}
use Rattle.re_boxes.proofs.visiting.up_sets.Goals as goal

pub visit-requires-clause-visit : goal.visit-requires-clause-visit
visit-requires-clause-visit c =
    let some : 0 < c.args.constraint.now.degree = (let least = c.degree-degree.ensures.constraint.least in omega (arith, least)) in
    let all = c.of-main.ensures c.args.constraint.now.degree some c.nodes-nodes.ensures.tree in
    subst (λ (b : List ℕ). IsVisit (tree_of c.args.constraint.now c.nodes-nodes.result.now) b 0 c.of-main.result []) (sym c.new-beginning.ensures)
    (visit-start (tree_of c.args.constraint.now c.nodes-nodes.result.now) c.of-main.result all.0
    (λ ending. subst (λ (l : List (List ℕ)). IsEnding (tree_of c.args.constraint.now c.nodes-nodes.result.now) 0 c.of-main.result ending ↔ Contains l ending) c.nodes-nodes.ensures.configs (all.1 ending)))

pub returns : goal.returns
returns c =
    let given : c.as_mut_slice.result.now ≡ c.whole_sets-ups.result.items = c.as_mut_slice.ensures.value in
    let kept : length c.visit.new.ups ≡ length c.whole_sets-ups.result.items = c.visit.auto.ups ∙ ap length given in
    refilled c.whole_sets-ups.result.items c.visit.new.ups kept
    ∙ narrowed-up_sets (tree_of c.args.constraint.now c.nodes-nodes.result.now) c.degree-degree.ensures.constraint c.args.labels c.whole_sets-ups.result.items c.visit.new.ups c.requires c.whole_sets-ups.ensures kept
    (subst (λ old. (k : ℕ) → ((a : ℕ) → IsLabelSet k (get_or old a [])) → (a : ℕ) → IsLabelSet k (get_or c.visit.new.ups a [])) given c.visit.ensures.sets)
    (subst (λ b. IsNarrowed c.args.constraint.now b c.whole_sets-ups.result.items c.visit.new.ups) c.new-beginning.ensures
    (subst (λ old. IsNarrowed c.args.constraint.now c.new-beginning.result.items old c.visit.new.ups) given c.visit.ensures.narrowed))
