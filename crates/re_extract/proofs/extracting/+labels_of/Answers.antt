use Rattle.std.proofs.Common.{◌≡◌, suc, ◌+◌, ◌-◌, ◌∷◌, ◌∙◌, ap, arith, drop, get_or, length, map, subst, sym, take}
use Rattle.std.specs.Prelude.{◌++◌, []}
use Rattle.std.proofs.lemmas.List.{take_all, take_more}
use Rattle.std.proofs.lemmas.Result.{IfOk-weaker}
use Rattle.re_cert.specs.Bounds.{entries_in}
use Rattle.re_cert.specs.Stages.{stages_of}
use Rattle.re_labels.proofs.Patterns.{others-are, parted}
use Rattle.re_extract.proofs.Levels.{Level, chosen_as, labels_as, level_labels, level_more, level_none, level_some, looking_more, looking_none}
use Rattle.re_extract.proofs.Opening.{Opened, length-backs, opened, some_choices, view_at}
use Rattle.re_extract.specs.Seen.{labels_over}
use Rattle.re_laws.proofs.Ports.{over_view}
use Rattle.re_laws.specs.Algorithms.{back_at}
use Rattle.re_laws.specs.Extracted.{extracted}
use Rattle.re_pool.specs.Pools.{tree_at}
use Rattle.re_problem.specs.NamedProblems.{NamedProblem, unnamed}
use Rattle.re_problem.specs.Steps.{set_for}
use Rattle.re_laws.specs.Trees.{IsView, backs, shift}
use Rattle.re_extract.proofs.extracting.+labels_of.Goals as goal

pub loop-view-init : goal.loop-view-init
loop-view-init t c = level_none c.args.pool.now _ _ _ c.new-next.result.keys c.new-all.result.items c.len-pool.ensures.pool c.new-next.ensures.empty c.new-all.ensures.items

pub loop-back-init : goal.loop-back-init
loop-back-init t c = looking_none c.args.pool.now c.loop-view.pool _ _ _ c.loop-view.next.keys _ c.loop-view.all.items c.view-item.result c.new-sights.result.items c.loop-view.invariant c.new-sights.ensures

pub shift-requires-clause-view : goal.shift-requires-clause-view
shift-requires-clause-view t c =
    let steps = c.args.steps.now in
    let others = take (length steps - 1) (drop 1 steps) in
    let start = c.args.pool.now in
    let before = c.args.before.now in
    let view = c.view-item.result in
    let whole : c.step-item.result ∷ others ≡ steps = parted steps others c.step-item.result c.in-len1-up.len_at_least c.step-item.is (others-are steps) in
    let open_ : Opened start before c.step-item.result others c.args.views.now = opened start before steps others c.step-item.result c.args.views.now whole c.requires.bound c.requires.views in
    let d = before.active.degree in
    let e = before.passive.degree in
    let T = length (stages_of others) in
    let problem = open_.bound.0 in
    let here = view_at start d e (suc T) c.args.views.now c.loop-view.view-index view open_.views c.loop-view-test.true c.view-item.is in
    let same : tree_at c.loop-back.pool view ≡ tree_at start view = c.loop-back.invariant.level.keeps.trees view here.0 in
    let count : length c.as_slice-back-items.result.now ≡ d =
    ap length (c.as_slice-back-items.ensures.value ∙ c.backs_of-backs.ensures.backs) ∙ (ap (λ x. length (backs x)) (c.loop-view.invariant.keeps.trees view here.0) ∙ length-backs d e T d (tree_at start view) here.1) in
    let port = c.loop-back.invariant.port_is in
    let below = c.loop-back-test.true in
    (d, e, T, problem.active.least, problem.passive.least, problem.passive.most, omega arith, subst (IsView d e (suc T)) (sym same) here.1)

pub loop-back-preserved : goal.loop-back-preserved
loop-back-preserved t c =
    let steps = c.args.steps.now in
    let others = take (length steps - 1) (drop 1 steps) in
    let start = c.args.pool.now in
    let before = c.args.before.now in
    let view = c.view-item.result in
    let whole : c.step-item.result ∷ others ≡ steps = parted steps others c.step-item.result c.in-len1-up.len_at_least c.step-item.is (others-are steps) in
    let open_ : Opened start before c.step-item.result others c.args.views.now = opened start before steps others c.step-item.result c.args.views.now whole c.requires.bound c.requires.views in
    let d = before.active.degree in
    let e = before.passive.degree in
    let T = length (stages_of others) in
    let problem = open_.bound.0 in
    let here = view_at start d e (suc T) c.args.views.now c.loop-view.view-index view open_.views c.loop-view-test.true c.view-item.is in
    let v = tree_at start view in
    let same : tree_at c.loop-back.pool view ≡ v = c.loop-back.invariant.level.keeps.trees view here.0 in
    let are : c.as_slice-back-items.result.now ≡ backs v = c.as_slice-back-items.ensures.value ∙ (c.backs_of-backs.ensures.backs ∙ ap backs (c.loop-view.invariant.keeps.trees view here.0)) in
    let count : length c.as_slice-back-items.result.now ≡ d = ap length are ∙ length-backs d e T d v here.1 in
    let port = c.loop-back.invariant.port_is in
    let below = c.loop-back-test.true in
    let over : tree_at c.shift.new.self c.in_ok-over.over ≡ shift T v (c.loop-back.port + 1) =
    c.in_ok-over.ensures.tree d e T problem.active.least problem.passive.least (subst (IsView d e (suc T)) (sym same) here.1) ∙ ap (λ x. shift T x (c.loop-back.port + 1)) same in
    let seen : IsView e d T (tree_at c.shift.new.self c.in_ok-over.over) =
    subst (IsView e d T) (sym over) (over_view d e T (c.loop-back.port + 1) v here.1 (omega arith) (omega arith)) in
    let back : get_or c.as_slice-back-items.result.now c.loop-back.back-index 0 ≡ back_at v (suc c.loop-back.back-index) = ap (λ l. get_or l c.loop-back.back-index 0) are in
    looking_more start c.loop-back.pool c.shift.new.self d e T c.loop-back.next.keys c.put.new.seen.keys (take c.loop-view.view-index c.args.views.now) c.loop-view.all.items view c.loop-back.sights.items c.push.new.self.items
    c.loop-back.back-index c.loop-back.port c.in_ok-over.over c.in_ok-place.place (get_or c.as_slice-back-items.result.now c.loop-back.back-index 0)
    c.loop-back.invariant c.in_ok-over.ensures.keeps c.in_ok-over.ensures.pool c.in_ok-over.ensures.held over seen c.put.ensures.put c.in_ok-place.ensures.place back c.push.ensures.items

pub loop-view-preserved : goal.loop-view-preserved
loop-view-preserved t c =
    let steps = c.args.steps.now in
    let others = take (length steps - 1) (drop 1 steps) in
    let start = c.args.pool.now in
    let before = c.args.before.now in
    let view = c.view-item.result in
    let views = c.args.views.now in
    let whole : c.step-item.result ∷ others ≡ steps = parted steps others c.step-item.result c.in-len1-up.len_at_least c.step-item.is (others-are steps) in
    let open_ : Opened start before c.step-item.result others views = opened start before steps others c.step-item.result views whole c.requires.bound c.requires.views in
    let d = before.active.degree in
    let e = before.passive.degree in
    let T = length (stages_of others) in
    let here = view_at start d e (suc T) views c.loop-view.view-index view open_.views c.loop-view-test.true c.view-item.is in
    let count : length c.as_slice-back-items.result.now ≡ d =
    ap length (c.as_slice-back-items.ensures.value ∙ c.backs_of-backs.ensures.backs) ∙ (ap (λ x. length (backs x)) (c.loop-view.invariant.keeps.trees view here.0) ∙ length-backs d e T d (tree_at start view) here.1) in
    let past = c.loop-back-test.false in
    let far = c.loop-back.auto.back-index-end in
    let all : c.loop-back.back-index ≡ d = omega arith in
    let more : take (c.loop-view.view-index + 1) views ≡ take c.loop-view.view-index views ++ view ∷ [] =
    take_more views c.loop-view.view-index view c.loop-view-test.true ∙ ap (λ x. take c.loop-view.view-index views ++ x ∷ []) (sym c.view-item.is) in
    level_more start c.loop-back.pool d e T c.loop-back.next.keys (take c.loop-view.view-index views) (take (c.loop-view.view-index + 1) views) c.loop-view.all.items c.push-in-loop-view.new.self.items view c.loop-back.back-index c.loop-back.port
    c.loop-back.sights c.loop-back.invariant all more c.in_ok-push.ensures.items

pub all_chosen-requires : goal.all_chosen-requires
all_chosen-requires t c =
    let steps = c.args.steps.now in
    let others = take (length steps - 1) (drop 1 steps) in
    let start = c.args.pool.now in
    let before = c.args.before.now in
    let views = c.args.views.now in
    let step = c.step-item.result in
    let whole : c.step-item.result ∷ others ≡ steps = parted steps others c.step-item.result c.in-len1-up.len_at_least c.step-item.is (others-are steps) in
    let open_ : Opened start before c.step-item.result others views = opened start before steps others c.step-item.result views whole c.requires.bound c.requires.views in
    let d = before.active.degree in
    let e = before.passive.degree in
    let T = length (stages_of others) in
    let f = extracted (unnamed step.next) (stages_of others) in
    let entries = entries_in step.map in
    let past = c.loop-view-test.false in
    let every : take c.loop-view.view-index views ≡ views = take_all c.loop-view.view-index views (omega arith) in
    let level : Level start c.loop-view.pool d e T c.loop-view.next.keys views c.loop-view.all.items =
    subst (λ ids. Level start c.loop-view.pool d e T c.loop-view.next.keys ids c.loop-view.all.items) every c.loop-view.invariant in
    let answers : c.in_ok-answers.answers.items ≡ map (λ id. f (tree_at c.loop-view.pool id)) c.loop-view.next.keys =
    c.in_ok-answers.ensures.labels
    ∙ (ap (λ (n : NamedProblem). map (λ id. extracted (unnamed n) (stages_of others) (tree_at c.loop-view.pool id)) c.as_slice.result.now) c.next-2.ensures
    ∙ ap (map (λ id. f (tree_at c.loop-view.pool id))) c.as_slice.ensures.keys) in
    let some = some_choices start (unnamed before) (unnamed step.next, set_for entries) (stages_of others) views open_.bound open_.views in
    let base = level_some start c.loop-view.pool c.loop-view.next.keys (unnamed before) T f entries c.in_ok-answers.answers.items answers e views c.loop-view.all.items level some in
    chosen_as before.active c.active.result.now entries c.entries.result.now c.in_ok-answers.answers.items c.as_slice-2.result.now c.loop-view.all.items c.as_slice-3.result.now
    c.active.ensures.active c.entries.ensures c.as_slice-2.ensures.value c.as_slice-3.ensures.value base

pub returns-clause-labels : goal.returns-clause-labels
returns-clause-labels t c =
    let steps = c.args.steps.now in
    let others = take (length steps - 1) (drop 1 steps) in
    let start = c.args.pool.now in
    let before = c.args.before.now in
    let views = c.args.views.now in
    let step = c.step-item.result in
    let whole : c.step-item.result ∷ others ≡ steps = parted steps others c.step-item.result c.in-len1-up.len_at_least c.step-item.is (others-are steps) in
    let d = before.active.degree in
    let e = before.passive.degree in
    let T = length (stages_of others) in
    let f = extracted (unnamed step.next) (stages_of others) in
    let entries = entries_in step.map in
    let past = c.loop-view-test.false in
    let every : take c.loop-view.view-index views ≡ views = take_all c.loop-view.view-index views (omega arith) in
    let level : Level start c.loop-view.pool d e T c.loop-view.next.keys views c.loop-view.all.items =
    subst (λ ids. Level start c.loop-view.pool d e T c.loop-view.next.keys ids c.loop-view.all.items) every c.loop-view.invariant in
    let answers : c.in_ok-answers.answers.items ≡ map (λ id. f (tree_at c.loop-view.pool id)) c.loop-view.next.keys =
    c.in_ok-answers.ensures.labels
    ∙ (ap (λ (n : NamedProblem). map (λ id. extracted (unnamed n) (stages_of others) (tree_at c.loop-view.pool id)) c.as_slice.result.now) c.next-2.ensures
    ∙ ap (map (λ id. f (tree_at c.loop-view.pool id))) c.as_slice.ensures.keys) in
    let base = level_labels start c.loop-view.pool c.loop-view.next.keys (unnamed before) T f entries c.in_ok-answers.answers.items answers e views c.loop-view.all.items level in
    let eq : map (labels_over c.active.result.now c.entries.result.now c.as_slice-2.result.now) c.as_slice-3.result.now ≡ map (λ id. extracted (unnamed before) (stages_of steps) (tree_at start id)) views =
    labels_as before.active c.active.result.now entries c.entries.result.now c.in_ok-answers.answers.items c.as_slice-2.result.now c.loop-view.all.items c.as_slice-3.result.now
    c.active.ensures.active c.entries.ensures c.as_slice-2.ensures.value c.as_slice-3.ensures.value
    ∙ (base ∙ ap (λ s. map (λ id. extracted (unnamed before) (stages_of s) (tree_at start id)) views) whole) in
    IfOk-weaker c.all_chosen.result _ _ (λ x h. h ∙ eq) c.all_chosen.ensures
