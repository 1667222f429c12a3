use Rattle.std.proofs.Common.{◌≡◌, ◌+◌, ◌%◌, ◌^◌, ◌++◌, [], ◌∷◌, ap, arith, ◌∙◌, cond, eqb, length, get_or}
use Rattle.re_shaping.specs.Colours.{colour_at, colours_by}
use Rattle.re_shaping.specs.declared.colours.TheConstants.{SINGLED}
use Rattle.re_shaping.proofs.Coding.{colours_by_more, single_other, single_same}
use Rattle.re_shaping.proofs.colours.Colours.with_single.Goals.{else-other-label, then-other-label}
use Rattle.re_shaping.proofs.colours.Colours.with_single.Goals as goal

pub loop-other-preserved : goal.loop-other-preserved
loop-other-preserved c =
    let single : c.if-other-label.single ≡ cond (eqb c.loop-other.other c.args.label) SINGLED 0 = elim c.if-other-label.branch [
      | then-other-label w ↦ w.single-is ∙ single_same c.loop-other.other c.args.label SINGLED w.if-other-label.true
      | else-other-label w ↦ w.single-is ∙ single_other c.loop-other.other c.args.label SINGLED w.if-other-label.false
    ] in
    let own = ap (λ l. get_or l c.loop-other.other 0) c.all-colour-items.ensures.all in
    record {
      colours = c.push.ensures.items
          ∙ ap (λ m. c.loop-other.held.items ++ m ∷ []) (λ i. (own i + single i) % 2 ^ 64)
          ∙ colours_by_more (λ other. (colour_at c.args.self.now other + cond (eqb other c.args.label) SINGLED 0) % 2 ^ 64) c.loop-other.held.items c.loop-other.other c.loop-other.invariant.colours;
      count = omega (arith, c.push.ensures.len, c.loop-other.invariant.count);
    }

pub returns : goal.returns
returns c =
    let e : c.loop-other.other ≡ length c.args.self.now = omega (arith, ap length c.all-colour-items.ensures.all) in
    c.loop-other.invariant.colours ∙ ap (colours_by (λ other. (colour_at c.args.self.now other + cond (eqb other c.args.label) SINGLED 0) % 2 ^ 64)) e
