use Rattle.std.proofs.Common.{◌≡◌, ◌+◌, ◌-◌, ◌<◌, ◌∷◌, ap, arith, drop, get_or, length, map, sym, ℕ, ◌∙◌}
use Rattle.std.proofs.lemmas.List.{drop_all, drop_more}
use Rattle.std.proofs.lemmas.List.Elements.{Contains-get_or}
use Rattle.re_labels.specs.Rows.{set_at}
use Rattle.re_labels.proofs.Membership.{AllByRecursion-contains}
use Rattle.re_closure.proofs.DiagramOrders.{all_alone, all_below-at, all_below-count, all_with_edge}
use Rattle.re_closure.specs.Diagrams.{all_below, with_lower}
use Rattle.re_closure.proofs.diagrams.all_below.Goals as goal

pub edges-init : goal.edges-init
edges-init c = record {
  within = omega arith;
  below = c.singles-below.ensures ∙ all_alone c.args.labels ∙ ap (λ edges. all_below edges c.args.labels) (sym (drop_all (length c.args.edges.now) c.args.edges.now (omega arith)));
}

pub with_edge-below-requires-clause-low : goal.with_edge-below-requires-clause-low
with_edge-below-requires-clause-low c =
    let some = c.edges-test.true in
    let within = c.edges.invariant.within in
    let there : c.edges.left - 1 < length c.args.edges.now = omega (arith, some, within) in
    let both = AllByRecursion-contains (λ (edge : ℕ × ℕ). (edge.0 < c.args.labels) × (edge.1 < c.args.labels)) c.args.edges.now _ c.requires.edges (Contains-get_or c.args.edges.now (c.edges.left - 1) (0, 0) there) in
    let count : length c.as_slice.result.now ≡ c.args.labels = ap length (c.as_slice.ensures.value ∙ c.edges.invariant.below) ∙ all_below-count (drop c.edges.left c.args.edges.now) c.args.labels in
    omega (arith, both.0, count)

pub with_edge-below-requires-clause-high : goal.with_edge-below-requires-clause-high
with_edge-below-requires-clause-high c =
    let some = c.edges-test.true in
    let within = c.edges.invariant.within in
    let there : c.edges.left - 1 < length c.args.edges.now = omega (arith, some, within) in
    let both = AllByRecursion-contains (λ (edge : ℕ × ℕ). (edge.0 < c.args.labels) × (edge.1 < c.args.labels)) c.args.edges.now _ c.requires.edges (Contains-get_or c.args.edges.now (c.edges.left - 1) (0, 0) there) in
    let few = c.requires.few in
    omega (arith, both.1, few)

pub edges-preserved : goal.edges-preserved
edges-preserved c =
    let some = c.edges-test.true in
    let within = c.edges.invariant.within in
    let k : ℕ = c.edges.left - 1 in
    let n : ℕ = c.args.labels in
    let there : c.edges.left - 1 < length c.args.edges.now = omega (arith, some, within) in
    let edge : ℕ × ℕ = get_or c.args.edges.now (c.edges.left - 1) (0, 0) in
    let both = AllByRecursion-contains (λ (edge : ℕ × ℕ). (edge.0 < c.args.labels) × (edge.1 < c.args.labels)) c.args.edges.now edge c.requires.edges (Contains-get_or c.args.edges.now (c.edges.left - 1) (0, 0) there) in
    let next : c.edges.left - 1 + 1 ≡ c.edges.left = omega (arith, some) in
    let front : drop (c.edges.left - 1) c.args.edges.now ≡ edge ∷ drop c.edges.left c.args.edges.now
    = drop_more c.args.edges.now (c.edges.left - 1) (0, 0) there ∙ ap (λ k. edge ∷ drop k c.args.edges.now) next in
    let before = c.as_slice.ensures.value ∙ c.edges.invariant.below in
    record {
      within = omega (arith, within);
      below = c.with_edge-below.ensures
          ∙ (λ i. map (with_lower (set_at (before i) edge.0) edge.1) (before i))
          ∙ ap (λ lower. map (with_lower lower edge.1) (all_below (drop c.edges.left c.args.edges.now) n)) (all_below-at (drop c.edges.left c.args.edges.now) n edge.0 both.0)
          ∙ all_with_edge edge (drop c.edges.left c.args.edges.now) n both.1
          ∙ ap (λ edges. all_below edges n) (sym front);
    }
