use Rattle.std.proofs.Common.{◌≡◌, ◌++◌, ◌∙◌, ap, codes, length}
use Rattle.std.proofs.lemmas.Result.{on_ok_weaker}
use Rattle.std.specs.Fmt.{decimal}
use Rattle.re_describe.specs.Heads.{side_counts}
use Rattle.re_describe.proofs.Growing.{more, more3}
use Rattle.re_describe.proofs.problems.push_counts.Goals as goal

pub returns : goal.returns
returns c =
    let t0 = c.args.text.now.items in
    let t1 = c.push_count.new.text.items in
    let t2 = c.push_side_counts.new.text.items in
    let t3 = c.push_side_counts-2.new.text.items in
    let t4 = c.push_words.new.text.items in
    let e1 : t1 ≡ t0 ++ (codes "\n- labels: " ++ decimal (length c.args.problem.now.names)) = c.in_ok-push_count.ensures ∙ ap (λ n. t0 ++ (codes "\n- labels: " ++ decimal n)) (c.len.ensures.len ∙ ap length c.names.ensures.names) in
    let e2 : t2 ≡ t1 ++ side_counts (codes "\n- active nodes: degree ") c.args.problem.now.active = c.in_ok-push_side_counts.ensures ∙ ap (λ s. t1 ++ side_counts (codes "\n- active nodes: degree ") s) c.active.ensures.active in
    let e3 : t3 ≡ t2 ++ side_counts (codes "\n- passive nodes: degree ") c.args.problem.now.passive = c.in_ok-push_side_counts-2.ensures ∙ ap (λ s. t2 ++ side_counts (codes "\n- passive nodes: degree ") s) c.passive.ensures.passive in
    on_ok_weaker c.push_words.result
    (λ f. more t0 t1 t4 (codes "\n- labels: " ++ decimal (length c.args.problem.now.names))
    (side_counts (codes "\n- active nodes: degree ") c.args.problem.now.active ++ (side_counts (codes "\n- passive nodes: degree ") c.args.problem.now.passive ++ codes "\n")) e1
    (more3 t1 t2 t3 t4 (side_counts (codes "\n- active nodes: degree ") c.args.problem.now.active) (side_counts (codes "\n- passive nodes: degree ") c.args.problem.now.passive) (codes "\n") e2 e3 f))
    c.push_words.ensures
