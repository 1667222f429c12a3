use Rattle.std.proofs.Common.{◌≡◌, ◌<◌, ◌∙◌, ap, sym, subst, arith, length, take, drop, ◌++◌, ℕ, suc, ◌+◌, get_or, add-one, length-append, count_by, ◌==◌}
use Rattle.re_labels.proofs.TreeLeaves.{gap-new}
use Rattle.re_labels.proofs.TreeSteps.{low-labels, IsPrefixTree-written, IsTable-more, last-written, held-written, leaves-written, leaves_most-linked, length-way_nodes, up-linked, up-within, written_back}
use Rattle.re_labels.specs.PrefixTrees.{IsTable, held_configs, leaves_of, node_at}
use Rattle.re_labels.specs.TreeGrowth.{IsLastLeaf, linked, places_up, way_nodes, with_leaves}
use Rattle.re_labels.specs.declared.constraint_table.TheConstants.{MAX_CONFIGURATIONS}
use Rattle.re_labels.proofs.prefix_tree.join_way.Goals as goal

pub count_up-requires-clause-fits : goal.count_up-requires-clause-fits
count_up-requires-clause-fits c q =
    let old = c.requires.0 in
    let is = c.requires.1 in
    let longer = c.args.nodes.now.items in
    let start : c.args.start ≡ length old = is.behind in
    let now : c.as_mut_slice-2.result.now ≡ linked longer c.args.gap.parent c.args.gap.between.before (length old) =
    c.as_mut_slice-2.ensures.value ∙ written_back c.args.nodes.now.len c.link.new.nodes longer (omega (arith, c.link.auto.nodes, c.as_mut_slice.ensures.len))
    ∙ c.link.ensures ∙ (λ i. linked (c.as_mut_slice.ensures.value i) c.args.gap.parent c.args.gap.between.before (start i)) in
    let most = leaves_most-linked (length c.args.config.now) old (held_configs old) is.table.tree.0 is.table.tree.1 longer c.args.config.now c.args.gap.depth c.args.gap.parent c.args.gap.between.before c.args.gap.between.after
    is.found.inside is.found.parent_within is.found.before_within is.way q in
    let same = ap (λ l. leaves_of (node_at l q).kind) now in
    omega (arith, most, same, is.few, is.found.inside, c.labels-labels.ensures.six)

pub count_up-requires-clause-within : goal.count_up-requires-clause-within
count_up-requires-clause-within c j l =
    let old = c.requires.0 in
    let is = c.requires.1 in
    let longer = c.args.nodes.now.items in
    let start : c.args.start ≡ length old = is.behind in
    let now : c.as_mut_slice-2.result.now ≡ linked longer c.args.gap.parent c.args.gap.between.before (length old) =
    c.as_mut_slice-2.ensures.value ∙ written_back c.args.nodes.now.len c.link.new.nodes longer (omega (arith, c.link.auto.nodes, c.as_mut_slice.ensures.len))
    ∙ c.link.ensures ∙ (λ i. linked (c.as_mut_slice.ensures.value i) c.args.gap.parent c.args.gap.between.before (start i)) in
    let linked_length : length c.as_mut_slice-2.result.now ≡ length longer = ap length c.as_mut_slice-2.ensures.value ∙ ap length (written_back c.args.nodes.now.len c.link.new.nodes longer (omega (arith, c.link.auto.nodes, c.as_mut_slice.ensures.len)))
    ∙ c.link.auto.nodes ∙ ap length c.as_mut_slice.ensures.value in
    let places : places_up c.as_mut_slice-2.result.now c.args.gap.parent (c.args.gap.depth + 1) ≡ places_up old c.args.gap.parent (suc c.args.gap.depth) =
    (λ i. places_up (now i) c.args.gap.parent (add-one c.args.gap.depth i))
    ∙ up-linked old longer c.args.config.now c.args.gap.depth c.args.gap.parent c.args.gap.between.before c.args.gap.between.after is.table.tree is.found is.way in
    let within = up-within old c.args.config.now c.args.gap.depth c.args.gap.parent c.args.gap.between.before c.args.gap.between.after is.table.tree is.found j (omega (arith, l)) in
    let more = ap length is.way ∙ length-append old (way_nodes c.args.config.now c.args.gap.depth c.args.gap.parent c.args.gap.between.after (length old)) in
    let same = ap (λ w. get_or w j 0) places in
    omega (arith, within, more, same, linked_length)

pub returns-clause-table : goal.returns-clause-table
returns-clause-table c =
    let old = c.requires.0 in
    let is = c.requires.1 in
    let longer = c.args.nodes.now.items in
    let new = c.count_up.new.nodes in
    let start : c.args.start ≡ length old = is.behind in
    let now : c.as_mut_slice-2.result.now ≡ linked longer c.args.gap.parent c.args.gap.between.before (length old) =
    c.as_mut_slice-2.ensures.value ∙ written_back c.args.nodes.now.len c.link.new.nodes longer (omega (arith, c.link.auto.nodes, c.as_mut_slice.ensures.len))
    ∙ c.link.ensures ∙ (λ i. linked (c.as_mut_slice.ensures.value i) c.args.gap.parent c.args.gap.between.before (start i)) in
    let linked_length : length c.as_mut_slice-2.result.now ≡ length longer = ap length c.as_mut_slice-2.ensures.value ∙ ap length (written_back c.args.nodes.now.len c.link.new.nodes longer (omega (arith, c.link.auto.nodes, c.as_mut_slice.ensures.len)))
    ∙ c.link.auto.nodes ∙ ap length c.as_mut_slice.ensures.value in
    let long : length new ≡ length longer = c.count_up.auto.nodes ∙ linked_length in
    let filled : 0 < length old = omega (arith, is.found.parent_within) in
    let places : places_up c.as_mut_slice-2.result.now c.args.gap.parent (c.args.gap.depth + 1) ≡ places_up old c.args.gap.parent (suc c.args.gap.depth) =
    (λ i. places_up (now i) c.args.gap.parent (add-one c.args.gap.depth i))
    ∙ up-linked old longer c.args.config.now c.args.gap.depth c.args.gap.parent c.args.gap.between.before c.args.gap.between.after is.table.tree is.found is.way in
    let label : (q : ℕ) → (node_at new q).label ≡ (node_at (linked longer c.args.gap.parent c.args.gap.between.before (length old)) q).label =
    λ q. c.count_up.ensures.label q ∙ ap (λ l. (node_at l q).label) now in
    let next : (q : ℕ) → (node_at new q).next ≡ (node_at (linked longer c.args.gap.parent c.args.gap.between.before (length old)) q).next =
    λ q. c.count_up.ensures.next q ∙ ap (λ l. (node_at l q).next) now in
    let up : (q : ℕ) → (node_at new q).parent ≡ (node_at (linked longer c.args.gap.parent c.args.gap.between.before (length old)) q).parent =
    λ q. c.count_up.ensures.parent q ∙ ap (λ l. (node_at l q).parent) now in
    let kind : (q : ℕ) → (node_at new q).kind ≡ with_leaves (node_at (linked longer c.args.gap.parent c.args.gap.between.before (length old)) q).kind (count_by (λ p. p == q) (places_up old c.args.gap.parent (suc c.args.gap.depth))) =
    λ q. c.count_up.ensures.kind q ∙ (λ i. with_leaves (node_at (now i) q).kind (count_by (λ p. p == q) (places i))) in
    let back = written_back c.args.nodes.now.len new (take c.args.nodes.now.len (c.link.new.nodes ++ drop (length c.link.new.nodes) longer)) (omega (arith, long, c.args.nodes.now.ok.0)) in
    subst (IsTable (length c.args.config.now) MAX_CONFIGURATIONS) (sym back)
    (IsTable-more (length c.args.config.now) MAX_CONFIGURATIONS old new c.args.config.now is.table c.labels-labels.ensures.six is.few
    (gap-new (length c.args.config.now) old is.table.tree.0 is.table.tree.1 c.args.config.now c.args.gap.depth c.args.gap.parent c.args.gap.between.before c.args.gap.between.after
    is.found.inside (is.found.gap is.table.tree.0 is.table.tree.1))
    (IsPrefixTree-written old c.args.config.now c.args.gap.depth c.args.gap.parent c.args.gap.between.before c.args.gap.between.after filled is.table.tree is.found (low-labels c.args.config.now c.labels-labels.ensures.config) longer new is.way long label next up kind)
    (leaves-written old c.args.config.now c.args.gap.depth c.args.gap.parent c.args.gap.between.before c.args.gap.between.after filled is.table.tree is.found (low-labels c.args.config.now c.labels-labels.ensures.config) longer new is.way long label next up kind)
    (held-written old c.args.config.now c.args.gap.depth c.args.gap.parent c.args.gap.between.before c.args.gap.between.after filled is.table.tree is.found (low-labels c.args.config.now c.labels-labels.ensures.config) longer new is.way long label next up kind)
    (omega (
      arith,
      long,
      ap length is.way,
      length-append old (way_nodes c.args.config.now c.args.gap.depth c.args.gap.parent c.args.gap.between.after (length old)),
      length-way_nodes c.args.config.now c.args.gap.depth c.args.gap.parent c.args.gap.between.after (length old) is.found.inside,
    )))

pub returns-clause-held : goal.returns-clause-held
returns-clause-held c old is =
    let longer = c.args.nodes.now.items in
    let new = c.count_up.new.nodes in
    let start : c.args.start ≡ length old = is.behind in
    let now : c.as_mut_slice-2.result.now ≡ linked longer c.args.gap.parent c.args.gap.between.before (length old) =
    c.as_mut_slice-2.ensures.value ∙ written_back c.args.nodes.now.len c.link.new.nodes longer (omega (arith, c.link.auto.nodes, c.as_mut_slice.ensures.len))
    ∙ c.link.ensures ∙ (λ i. linked (c.as_mut_slice.ensures.value i) c.args.gap.parent c.args.gap.between.before (start i)) in
    let linked_length : length c.as_mut_slice-2.result.now ≡ length longer = ap length c.as_mut_slice-2.ensures.value ∙ ap length (written_back c.args.nodes.now.len c.link.new.nodes longer (omega (arith, c.link.auto.nodes, c.as_mut_slice.ensures.len)))
    ∙ c.link.auto.nodes ∙ ap length c.as_mut_slice.ensures.value in
    let long : length new ≡ length longer = c.count_up.auto.nodes ∙ linked_length in
    let filled : 0 < length old = omega (arith, is.found.parent_within) in
    let places : places_up c.as_mut_slice-2.result.now c.args.gap.parent (c.args.gap.depth + 1) ≡ places_up old c.args.gap.parent (suc c.args.gap.depth) =
    (λ i. places_up (now i) c.args.gap.parent (add-one c.args.gap.depth i))
    ∙ up-linked old longer c.args.config.now c.args.gap.depth c.args.gap.parent c.args.gap.between.before c.args.gap.between.after is.table.tree is.found is.way in
    let label : (q : ℕ) → (node_at new q).label ≡ (node_at (linked longer c.args.gap.parent c.args.gap.between.before (length old)) q).label =
    λ q. c.count_up.ensures.label q ∙ ap (λ l. (node_at l q).label) now in
    let next : (q : ℕ) → (node_at new q).next ≡ (node_at (linked longer c.args.gap.parent c.args.gap.between.before (length old)) q).next =
    λ q. c.count_up.ensures.next q ∙ ap (λ l. (node_at l q).next) now in
    let up : (q : ℕ) → (node_at new q).parent ≡ (node_at (linked longer c.args.gap.parent c.args.gap.between.before (length old)) q).parent =
    λ q. c.count_up.ensures.parent q ∙ ap (λ l. (node_at l q).parent) now in
    let kind : (q : ℕ) → (node_at new q).kind ≡ with_leaves (node_at (linked longer c.args.gap.parent c.args.gap.between.before (length old)) q).kind (count_by (λ p. p == q) (places_up old c.args.gap.parent (suc c.args.gap.depth))) =
    λ q. c.count_up.ensures.kind q ∙ (λ i. with_leaves (node_at (now i) q).kind (count_by (λ p. p == q) (places i))) in
    let back = written_back c.args.nodes.now.len new (take c.args.nodes.now.len (c.link.new.nodes ++ drop (length c.link.new.nodes) longer)) (omega (arith, long, c.args.nodes.now.ok.0)) in
    ap held_configs back ∙ held-written old c.args.config.now c.args.gap.depth c.args.gap.parent c.args.gap.between.before c.args.gap.between.after filled is.table.tree is.found (low-labels c.args.config.now c.labels-labels.ensures.config) longer new is.way long label next up kind

pub returns-clause-leaf : goal.returns-clause-leaf
returns-clause-leaf c old is last none =
    let longer = c.args.nodes.now.items in
    let new = c.count_up.new.nodes in
    let start : c.args.start ≡ length old = is.behind in
    let now : c.as_mut_slice-2.result.now ≡ linked longer c.args.gap.parent c.args.gap.between.before (length old) =
    c.as_mut_slice-2.ensures.value ∙ written_back c.args.nodes.now.len c.link.new.nodes longer (omega (arith, c.link.auto.nodes, c.as_mut_slice.ensures.len))
    ∙ c.link.ensures ∙ (λ i. linked (c.as_mut_slice.ensures.value i) c.args.gap.parent c.args.gap.between.before (start i)) in
    let linked_length : length c.as_mut_slice-2.result.now ≡ length longer = ap length c.as_mut_slice-2.ensures.value ∙ ap length (written_back c.args.nodes.now.len c.link.new.nodes longer (omega (arith, c.link.auto.nodes, c.as_mut_slice.ensures.len)))
    ∙ c.link.auto.nodes ∙ ap length c.as_mut_slice.ensures.value in
    let long : length new ≡ length longer = c.count_up.auto.nodes ∙ linked_length in
    let filled : 0 < length old = omega (arith, is.found.parent_within) in
    let places : places_up c.as_mut_slice-2.result.now c.args.gap.parent (c.args.gap.depth + 1) ≡ places_up old c.args.gap.parent (suc c.args.gap.depth) =
    (λ i. places_up (now i) c.args.gap.parent (add-one c.args.gap.depth i))
    ∙ up-linked old longer c.args.config.now c.args.gap.depth c.args.gap.parent c.args.gap.between.before c.args.gap.between.after is.table.tree is.found is.way in
    let label : (q : ℕ) → (node_at new q).label ≡ (node_at (linked longer c.args.gap.parent c.args.gap.between.before (length old)) q).label =
    λ q. c.count_up.ensures.label q ∙ ap (λ l. (node_at l q).label) now in
    let next : (q : ℕ) → (node_at new q).next ≡ (node_at (linked longer c.args.gap.parent c.args.gap.between.before (length old)) q).next =
    λ q. c.count_up.ensures.next q ∙ ap (λ l. (node_at l q).next) now in
    let up : (q : ℕ) → (node_at new q).parent ≡ (node_at (linked longer c.args.gap.parent c.args.gap.between.before (length old)) q).parent =
    λ q. c.count_up.ensures.parent q ∙ ap (λ l. (node_at l q).parent) now in
    let kind : (q : ℕ) → (node_at new q).kind ≡ with_leaves (node_at (linked longer c.args.gap.parent c.args.gap.between.before (length old)) q).kind (count_by (λ p. p == q) (places_up old c.args.gap.parent (suc c.args.gap.depth))) =
    λ q. c.count_up.ensures.kind q ∙ (λ i. with_leaves (node_at (now i) q).kind (count_by (λ p. p == q) (places i))) in
    let back = written_back c.args.nodes.now.len new (take c.args.nodes.now.len (c.link.new.nodes ++ drop (length c.link.new.nodes) longer)) (omega (arith, long, c.args.nodes.now.ok.0)) in
    subst (λ l. IsLastLeaf l c.args.config.now c.args.start) (sym back)
    (subst (IsLastLeaf new c.args.config.now) (sym start)
    (last-written old c.args.config.now c.args.gap.depth c.args.gap.parent c.args.gap.between.before c.args.gap.between.after filled is.table.tree is.found (low-labels c.args.config.now c.labels-labels.ensures.config) longer new is.way long label next up kind last none))
