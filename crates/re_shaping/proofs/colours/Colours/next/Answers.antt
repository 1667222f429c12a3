use Rattle.std.proofs.Common.{◌≡◌, ◌+◌, ◌<◌, ◌%◌, ◌^◌, ◌++◌, [], ◌∷◌, ap, arith, ◌∙◌, length, get_or}
use Rattle.std.proofs.Math.ListN.{replicate}
use Rattle.std.proofs.lemmas.List.{get_or-replicate}
use Rattle.re_shaping.specs.Colours.{colours_by, next_colour, numbers_at}
use Rattle.re_shaping.specs.declared.colours.TheConstants.{ACTIVE, PASSIVE}
use Rattle.re_shaping.proofs.Coding.{colours_by_more, next_step}
use Rattle.re_shaping.proofs.colours.Colours.next.Goals as goal

pub loop-label-preserved : goal.loop-label-preserved
loop-label-preserved c =
    let inside : c.loop-label.label < 128 = omega (arith, ap length c.all-colour-items.ensures.all, c.all-colour-items.ensures.most) in
    record {
      colours = c.push.ensures.items
          ∙ ap (λ m. c.loop-label.held.items ++ m ∷ []) (c.mixed.ensures
          ∙ next_step c.args.problem.now c.args.self.now c.loop-label.label (get_or c.all-colour-items.result.now c.loop-label.label 0) (get_or (replicate 128 0) c.loop-label.label 0)
          (get_or c.add_constraint.new.sums c.loop-label.label 0) (get_or c.add_constraint-2.new.sums c.loop-label.label 0)
          (ap (λ l. get_or l c.loop-label.label 0) c.all-colour-items.ensures.all)
          (get_or-replicate 128 c.loop-label.label 0 0 inside)
          (c.add_constraint.ensures c.loop-label.label (omega (arith, inside, c.add_constraint.auto.sums))
          ∙ ap (λ k. (get_or (replicate 128 0) c.loop-label.label 0 + numbers_at c.args.self.now ACTIVE k c.loop-label.label) % 2 ^ 64) c.active.ensures.active)
          (c.add_constraint-2.ensures c.loop-label.label (omega (arith, inside, c.add_constraint.auto.sums, c.add_constraint-2.auto.sums))
          ∙ ap (λ k. (get_or c.add_constraint.new.sums c.loop-label.label 0 + numbers_at c.args.self.now PASSIVE k c.loop-label.label) % 2 ^ 64) c.passive.ensures.passive))
          ∙ colours_by_more (next_colour c.args.problem.now c.args.self.now) c.loop-label.held.items c.loop-label.label c.loop-label.invariant.colours;
      count = omega (arith, c.push.ensures.len, c.loop-label.invariant.count);
    }

pub returns : goal.returns
returns c =
    let e : c.loop-label.label ≡ length c.args.self.now = omega (arith, ap length c.all-colour-items.ensures.all) in
    c.loop-label.invariant.colours ∙ ap (colours_by (next_colour c.args.problem.now c.args.self.now)) e
