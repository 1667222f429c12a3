use Rattle.std.proofs.Common.{◌≡◌, ◌∙◌, ◌+◌, ◌-◌, ◌∷◌, [], ap, sym, arith, length, get_or, cond, ℕ, length-append}
use Rattle.re_labels.proofs.Tests.{eqb-apart}
use Rattle.re_labels.proofs.TreeChanges.{length-new_inners, more_inners}
use Rattle.re_labels.specs.TreeGrowth.{new_inners}
use Rattle.re_labels.specs.declared.prefix_tree.Node.{Node}
use Rattle.re_labels.specs.declared.prefix_tree.Kind.TheVariants.{Inner}
use Rattle.re_labels.proofs.prefix_tree.add_way.Goals as goal

pub overflow_add-first : goal.overflow_add-first
overflow_add-first c =
    let k = c.loop-level.level - c.args.depth in
    omega (
      arith,
      c.len.ensures,
      ap length c.loop-level.invariant.items,
      length-append c.args.nodes.now.items (new_inners c.args.config.now c.args.depth c.args.parent c.args.after (length c.args.nodes.now.items) k),
      length-new_inners c.args.config.now c.args.depth c.args.parent c.args.after (length c.args.nodes.now.items) k,
      c.loop-level.nodes.ok.0,
      c.args.nodes.now.ok.0,
      c.requires.few,
      c.loop-level-test.true,
      ap length c.labels.ensures.labels,
      c.loop-level.invariant.low,
    )

pub overflow_cast-first : goal.overflow_cast-first
overflow_cast-first c =
    let k = c.loop-level.level - c.args.depth in
    omega (
      arith,
      c.len.ensures,
      ap length c.loop-level.invariant.items,
      length-append c.args.nodes.now.items (new_inners c.args.config.now c.args.depth c.args.parent c.args.after (length c.args.nodes.now.items) k),
      length-new_inners c.args.config.now c.args.depth c.args.parent c.args.after (length c.args.nodes.now.items) k,
      c.loop-level.nodes.ok.0,
      c.args.nodes.now.ok.0,
      c.requires.few,
      c.loop-level-test.true,
      ap length c.labels.ensures.labels,
      c.loop-level.invariant.low,
    )

pub loop-level-preserved : goal.loop-level-preserved
loop-level-preserved c =
    let k = c.loop-level.level - c.args.depth in
    let start = length c.args.nodes.now.items in
    let low = c.loop-level.invariant.low in
    let length_now : length c.loop-level.nodes.items ≡ start + k =
    ap length c.loop-level.invariant.items ∙ length-append c.args.nodes.now.items (new_inners c.args.config.now c.args.depth c.args.parent c.args.after start k) ∙ ap (λ n. start + n) (length-new_inners c.args.config.now c.args.depth c.args.parent c.args.after start k) in
    let len : c.len.result ≡ start + k = omega (arith, c.len.ensures, length_now, c.loop-level.nodes.ok.0) in
    let level : c.loop-level.level ≡ c.args.depth + k = omega (arith, low) in
    let label : get_or c.labels-in-loop-level.result.now c.loop-level.level 0 ≡ get_or c.args.config.now (c.args.depth + k) 0 = (λ i. get_or (c.labels-in-loop-level.ensures.labels i) (level i) 0) in
    let number : ℕ → ℕ → ℕ → ℕ → Node = λ l n p f. record { label = l; next = n; parent = p; kind = Inner f 1 } in
    record {
      low = omega (arith, low);
      items = more_inners c.args.nodes.now.items c.loop-level.nodes.items c.push_reserved.new.self.items _ c.args.config.now c.args.depth c.args.parent c.args.after start c.loop-level.level low c.loop-level.invariant.items c.push_reserved.ensures.items
          (λ i. number (label i) (c.loop-level.invariant.next i) (c.loop-level.invariant.above i) (len i + 1));
      next = ap (λ b. cond b c.args.after 0) (sym (eqb-apart (c.loop-level.level + 1 - c.args.depth) 0 (λ e. omega (arith, low))));
      above = (omega (arith, len, low)) ∙ ap (λ b. cond b c.args.parent (start + (c.loop-level.level + 1 - c.args.depth) - 1)) (sym (eqb-apart (c.loop-level.level + 1 - c.args.depth) 0 (λ e. omega (arith, low))));
      capacity = c.push_reserved.ensures.capacity ∙ c.loop-level.invariant.capacity;
      room = omega (
        arith,
        ap length c.push_reserved.ensures.items,
        length-append c.loop-level.nodes.items (number (get_or c.labels-in-loop-level.result.now c.loop-level.level 0) c.loop-level.next c.loop-level.above (c.len.result + 1) ∷ []),
        c.loop-level.nodes.ok.0,
        c.push_reserved.new.self.ok.0,
        c.push_reserved.ensures.capacity,
        c.loop-level.invariant.room,
        c.loop-level-test.true,
      );
    }
