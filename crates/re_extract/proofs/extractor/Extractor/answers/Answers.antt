use Rattle.std.proofs.Common.{◌≡◌, ◌≤◌, ◌∙◌, ap, length, map, sym, subst, ℕ}
use Rattle.std.specs.List.{AllByRecursion}
use Rattle.std.proofs.lemmas.Result.{IfOk-weaker}
use Rattle.re_cert.specs.Bounds.{Bound}
use Rattle.re_cert.specs.Stages.{stages_of}
use Rattle.re_extract.proofs.Placed.{all_narrow, all_views_of, answers_at}
use Rattle.re_extract.specs.Seen.{AreViews}
use Rattle.re_labels.specs.declared.sides.Degrees.{Degrees}
use Rattle.re_laws.specs.Extracted.{extracted}
use Rattle.re_pool.specs.Narrow.{IsNarrow}
use Rattle.re_pool.specs.Pools.{tree_at}
use Rattle.re_problem.specs.NamedProblems.{NamedProblem, unnamed}
use Rattle.re_laws.specs.AllViews.{all_views}
use Rattle.re_laws.specs.Shown.{tree_of_view}
use Rattle.re_extract.proofs.extractor.Extractor.answers.Goals as goal

pub placed-requires : goal.placed-requires
placed-requires c =
    let bound = c.self.inside.certificate in
    let d = bound.first.active.degree in
    let e = bound.first.passive.degree in
    let k = length bound.steps in
    let own : c.degrees-degrees.result.active ≡ d = ap (λ (degrees : Degrees). degrees.active) c.degrees-degrees.ensures.degrees ∙ ap (λ (n : NamedProblem). n.active.degree) c.first.ensures.first in
    let other : c.degrees-degrees.result.passive ≡ e = ap (λ (degrees : Degrees). degrees.passive) c.degrees-degrees.ensures.degrees ∙ ap (λ (n : NamedProblem). n.passive.degree) c.first.ensures.first in
    let count : length c.steps.result.now ≡ k = ap length c.steps.ensures.steps in
    let are : map tree_of_view c.as_slice.result.now ≡ all_views d e k =
    ap (map tree_of_view) c.as_slice.ensures.value ∙ (c.in_ok-views.ensures ∙ (λ i. all_views (own i) (other i) (count i))) in
    let problem = subst (λ (n : NamedProblem). (n.active.degree ≤ 6) × (n.passive.degree ≤ 6)) c.first.ensures.first (c.degrees-degrees.ensures.problem.problem.active.most, c.degrees-degrees.ensures.problem.problem.passive.most) in
    subst (AllByRecursion IsNarrow) (sym are) (all_narrow d e k problem.0 problem.1)

pub extract_all-requires : goal.extract_all-requires
extract_all-requires c =
    let bound = c.self.inside.certificate in
    let d = bound.first.active.degree in
    let e = bound.first.passive.degree in
    let k = length bound.steps in
    let own : c.degrees-degrees.result.active ≡ d = ap (λ (degrees : Degrees). degrees.active) c.degrees-degrees.ensures.degrees ∙ ap (λ (n : NamedProblem). n.active.degree) c.first.ensures.first in
    let other : c.degrees-degrees.result.passive ≡ e = ap (λ (degrees : Degrees). degrees.passive) c.degrees-degrees.ensures.degrees ∙ ap (λ (n : NamedProblem). n.passive.degree) c.first.ensures.first in
    let count : length c.steps.result.now ≡ k = ap length c.steps.ensures.steps in
    let are : map tree_of_view c.as_slice.result.now ≡ all_views d e k =
    ap (map tree_of_view) c.as_slice.ensures.value ∙ (c.in_ok-views.ensures ∙ (λ i. all_views (own i) (other i) (count i))) in
    let there : map tree_of_view c.as_slice.result.now ≡ all_views c.args.self.now.first.active.degree c.args.self.now.first.passive.degree (length c.args.self.now.steps) =
    are ∙ ap (λ (b : Bound). all_views b.first.active.degree b.first.passive.degree (length b.steps)) c.self.view_is in
    let self = c.args.self.now in
    subst (AreViews c.placed.new.pool self.first.active.degree self.first.passive.degree (length self.steps)) (sym c.as_slice-2.ensures.value)
    (all_views_of c.placed.new.pool self.first.active.degree self.first.passive.degree (length self.steps) c.in_ok-ids.ids.items c.in_ok-ids.ensures.held (c.in_ok-ids.ensures.trees ∙ there))

pub returns-clause-answers : goal.returns-clause-answers
returns-clause-answers c =
    let bound = c.self.inside.certificate in
    let d = bound.first.active.degree in
    let e = bound.first.passive.degree in
    let k = length bound.steps in
    let own : c.degrees-degrees.result.active ≡ d = ap (λ (degrees : Degrees). degrees.active) c.degrees-degrees.ensures.degrees ∙ ap (λ (n : NamedProblem). n.active.degree) c.first.ensures.first in
    let other : c.degrees-degrees.result.passive ≡ e = ap (λ (degrees : Degrees). degrees.passive) c.degrees-degrees.ensures.degrees ∙ ap (λ (n : NamedProblem). n.passive.degree) c.first.ensures.first in
    let count : length c.steps.result.now ≡ k = ap length c.steps.ensures.steps in
    let are : map tree_of_view c.as_slice.result.now ≡ all_views d e k =
    ap (map tree_of_view) c.as_slice.ensures.value ∙ (c.in_ok-views.ensures ∙ (λ i. all_views (own i) (other i) (count i))) in
    let there : map tree_of_view c.as_slice.result.now ≡ all_views c.args.self.now.first.active.degree c.args.self.now.first.passive.degree (length c.args.self.now.steps) =
    are ∙ ap (λ (b : Bound). all_views b.first.active.degree b.first.passive.degree (length b.steps)) c.self.view_is in
    let self = c.args.self.now in
    let f = extracted (unnamed self.first) (stages_of self.steps) in
    let eq : map (λ (id : ℕ). f (tree_at c.placed.new.pool id)) c.as_slice-2.result.now ≡ map f (all_views self.first.active.degree self.first.passive.degree (length self.steps)) =
    ap (map (λ (id : ℕ). f (tree_at c.placed.new.pool id))) c.as_slice-2.ensures.value
    ∙ (answers_at f c.placed.new.pool c.in_ok-ids.ids.items ∙ ap (map f) (c.in_ok-ids.ensures.trees ∙ there)) in
    IfOk-weaker c.extract_all.result _ _ (λ x h. h ∙ eq) c.extract_all.ensures.labels
