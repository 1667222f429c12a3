use Rattle.std.proofs.Common.{◌≡◌, ◌∙◌, ap, sym, subst, arith, length, get_or, ℕ, List, ◌∷◌, ◌<◌, add-one, refl}
use Rattle.re_labels.proofs.TreeLeaves.{gap-found, held_there, inner-place, short-key}
use Rattle.re_labels.specs.PrefixTrees.{prefix}
use Rattle.re_labels.proofs.prefix_tree.gap_of.Goals as goal

pub child_of-requires : goal.child_of-requires
child_of-requires c =
    inner-place c.args.nodes.now c.args.config.now c.loop-depth.place c.loop-depth.depth c.requires.tree c.loop-depth.invariant.within
    (subst (λ (l : List ℕ). c.loop-depth.depth < length l) c.labels-labels.ensures.labels c.loop-depth-test.true) c.loop-depth.invariant.on_way

pub returns-in-Err : goal.returns-in-Err
returns-in-Err c =
    let short = subst (λ (l : List ℕ). c.loop-depth.depth < length l) c.labels-labels.ensures.labels c.loop-depth-test.true in
    record {
      inside = short;
      parent_within = c.loop-depth.invariant.within;
      before_within = c.in-Err.ensures.0;
      after_within = c.in-Err.ensures.1;
      gap = λ key tree.
          let on = c.loop-depth.invariant.on_way key tree in
          gap-found c.args.nodes.now c.args.config.now key c.loop-depth.depth c.loop-depth.place (get_or c.labels-labels.result.now c.loop-depth.depth 0) c.in-Err.between.before c.in-Err.between.after
          (ap (λ (l : List ℕ). get_or l c.loop-depth.depth 0) c.labels-labels.ensures.labels) c.loop-depth.invariant.within on
          (c.in-Err.ensures.2 (length c.args.config.now) key tree (short-key c.args.nodes.now c.args.config.now c.loop-depth.place c.loop-depth.depth key short on));
    }

pub loop-depth-preserved : goal.loop-depth-preserved
loop-depth-preserved c =
    let short = subst (λ (l : List ℕ). c.loop-depth.depth < length l) c.labels-labels.ensures.labels c.loop-depth-test.true in
    record {
      within = c.in-Ok.ensures.0;
      deep = omega (arith, short);
      on_way = λ key tree.
          let on = c.loop-depth.invariant.on_way key tree in
          c.in-Ok.ensures.1 (length c.args.config.now) key tree (short-key c.args.nodes.now c.args.config.now c.loop-depth.place c.loop-depth.depth key short on)
          ∙ (λ i. get_or (c.labels-labels.ensures.labels i) c.loop-depth.depth 0 ∷ on i) ∙ ap (prefix c.args.config.now) (sym (add-one c.loop-depth.depth));
    }

pub returns : goal.returns
returns c =
    let tree = c.requires.tree in
    let whole : c.loop-depth.depth ≡ length c.args.config.now = omega (arith, c.loop-depth-test.false, c.loop-depth.invariant.deep, ap length c.labels-labels.ensures.labels) in
    held_there (length c.args.config.now) c.args.nodes.now tree.0 tree.1 c.loop-depth.place c.args.config.now c.loop-depth.invariant.within refl
    (c.loop-depth.invariant.on_way tree.0 tree.1 ∙ ap (prefix c.args.config.now) whole)
