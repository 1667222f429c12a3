use Rattle.std.proofs.Common.{◌≡◌, ◌≤◌, length, sym, ap, ◌∙◌, subst}
use Rattle.std.proofs.lemmas.Result.{IfOk-weaker}
use Rattle.re_cert.specs.Bounds.{has_row_maps, is_bound, last_problem}
use Rattle.re_labels.specs.declared.TheConstants.{MAX_ROWS}
use Rattle.re_labels.specs.Lists.{place_of}
use Rattle.re_problem.specs.NamedProblems.{NamedProblem, unnamed}
use Rattle.re_labels.specs.GoodRows.{max_rows}
use Rattle.re_closure.proofs.Joined.{few_first, first_made, made_is, map_sets, surely_closed, surely_fits}
use Rattle.re_closure.specs.Closed.{made_bound}
use Rattle.re_closure.specs.Closures.{IsClosed}
use Rattle.re_closure.specs.Sides.{IsMapOf, bound_by, closed_bound}
use Rattle.re_closure.proofs.finding.certificate_of.Goals as goal

pub first_map-requires-clause-few : goal.first_map-requires-clause-few
first_map-requires-clause-few c =
    subst (λ (p : NamedProblem). length (max_rows p.passive (length p.names)) ≤ MAX_ROWS) (sym c.last.ensures) (few_first c.args.chain.now.certificate c.over_problems.ensures c.args.closure c.requires.closure)

pub step_with-requires : goal.step_with-requires
step_with-requires c = map_sets _ _ _ c.in_ok-map.map c.in_ok-map.ensures

pub certificate_by-requires-clause-out : goal.certificate_by-requires-clause-out
certificate_by-requires-clause-out c = map_sets _ _ _ c.args.closure.out c.requires.closure.computed.out_is

pub certificate_by-requires-clause-back : goal.certificate_by-requires-clause-back
certificate_by-requires-clause-back c = map_sets _ _ _ c.args.closure.back c.requires.closure.computed.back_is

pub certificate_by-requires-clause-fits : goal.certificate_by-requires-clause-fits
certificate_by-requires-clause-fits c =
    let of = c.requires.closure in
    let chain = c.args.chain.now.certificate in
    let form : c.have_row_maps-by_rows.result ≡ has_row_maps chain.steps = c.have_row_maps-by_rows.ensures ∙ ap has_row_maps c.steps.ensures.steps in
    let map = subst (λ (p : NamedProblem). IsMapOf p.passive (length p.names) (place_of c.args.closure.sets.items) c.in_ok-map.map) c.last.ensures
    (subst (λ sets. IsMapOf c.last.result.now.passive (length c.last.result.now.names) (place_of sets) c.in_ok-map.map) c.as_slice.ensures.value c.in_ok-map.ensures) in
    let first = first_made chain of.active of.passive c.args.closure of.computed c.in_ok-map.map map c.have_row_maps-by_rows.result form c.in_ok-between.between c.in_ok-between.ensures c.in_ok-first.first c.in_ok-first.ensures in
    let same : made_bound c.have_row_maps-by_rows.result chain c.in_ok-first.first c.args.closure ≡ closed_bound chain of.active of.passive =
    made_is (unnamed (last_problem chain)) of.active of.passive c.args.closure of.computed c.have_row_maps-by_rows.result chain c.in_ok-first.first ∙ (λ i. bound_by (form i) chain (first i) of.active of.passive) in
    ap is_bound same ∙ surely_fits chain c.over_problems.ensures c.args.closure of c.steps.ensures.bound c.args.chain.now.chain c.requires.room c.requires.not_zero

pub returns : goal.returns
returns c =
    let of = c.requires.closure in
    let chain = c.args.chain.now.certificate in
    let form : c.have_row_maps-by_rows.result ≡ has_row_maps chain.steps = c.have_row_maps-by_rows.ensures ∙ ap has_row_maps c.steps.ensures.steps in
    let map = subst (λ (p : NamedProblem). IsMapOf p.passive (length p.names) (place_of c.args.closure.sets.items) c.in_ok-map.map) c.last.ensures
    (subst (λ sets. IsMapOf c.last.result.now.passive (length c.last.result.now.names) (place_of sets) c.in_ok-map.map) c.as_slice.ensures.value c.in_ok-map.ensures) in
    let first = first_made chain of.active of.passive c.args.closure of.computed c.in_ok-map.map map c.have_row_maps-by_rows.result form c.in_ok-between.between c.in_ok-between.ensures c.in_ok-first.first c.in_ok-first.ensures in
    let same : made_bound c.have_row_maps-by_rows.result chain c.in_ok-first.first c.args.closure ≡ closed_bound chain of.active of.passive =
    made_is (unnamed (last_problem chain)) of.active of.passive c.args.closure of.computed c.have_row_maps-by_rows.result chain c.in_ok-first.first ∙ (λ i. bound_by (form i) chain (first i) of.active of.passive) in
    IfOk-weaker c.certificate_by.result _ _
    (λ made e. subst (IsClosed chain) (sym (e ∙ same)) (surely_closed chain c.over_problems.ensures c.args.closure of c.steps.ensures.bound c.args.chain.now.chain c.requires.room c.requires.not_zero)) c.certificate_by.ensures
