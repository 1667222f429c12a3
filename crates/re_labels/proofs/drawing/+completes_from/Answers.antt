use Rattle.std.proofs.Common.{◌≡◌, ◌<◌, ◌≤◌, ◌+◌, ◌-◌, ◌*◌, ◌∙◌, ℕ, suc, List, Bool, true, false, cond, eqb, length, get_or, [], ap, sym, subst, arith, refl, inl, inr}
use Rattle.std.proofs.lemmas.Bool.{false≢true}
use Rattle.std.proofs.lemmas.List.{get_or_read}
use Rattle.std.specs.List.{remove}
use Rattle.re_labels.proofs.Before.{three_ways}
use Rattle.re_labels.proofs.Sets.{IsIn-has, has-IsIn}
use Rattle.re_labels.proofs.Tests.{above_zero, eqb-true}
use Rattle.re_labels.specs.Sets.{IsIn, has}
use Rattle.re_labels.proofs.Fitting.{all-drawn, completes-nowhere, depth-below, further, last-drawn, length-one_taken, more-drawn, nearer, next-higher, short-below, sibling-link}
use Rattle.re_labels.proofs.TreeWalks.{falls, first_link, read-there}
use Rattle.re_labels.specs.Fitting.{Completes, CompletesFrom}
use Rattle.re_labels.specs.PrefixTrees.{IsLink, first_of, held_configs, node_at}
use Rattle.re_labels.specs.declared.prefix_tree.Node.{Node}
use Rattle.re_labels.proofs.drawing.+completes_from.Goals as goal
use Rattle.re_labels.proofs.drawing.+completes_from.Goals.{then-has+else-is_empty+else-completes_from, else-has}

test-of : (nodes : List Node) (sets : List (List ℕ)) (at place : ℕ) (node : Node) (set : List ℕ) (r : Bool) → at < length nodes → place < length sets → node ≡ get_or nodes at node → set ≡ get_or sets place set
    → r ≡ has set (get_or nodes at node).label → has (get_or sets place []) (node_at nodes at).label ≡ r
test-of nodes sets at place node set r l h read_node read_set e =
    (λ i. has (sym (get_or_read sets place set h read_set []) i) (sym (read-there nodes at node l read_node) i).label) ∙ sym e

small : (b : Bool) (x : ℕ) → cond b 0 (256 - x) ≤ 256
small true x = omega arith
small false x = omega arith

-- the measure falls with a set less, and at the next sibling
fewer-sets : (more less t first at : ℕ) (a b : ℕ) → more ≡ suc less → a ≤ 256 → less * 257 + a < more * 257 + b
fewer-sets more less t first at a b e small = omega arith

pub returns-then-at-eq0 : goal.returns-then-at-eq0
returns-then-at-eq0 t c degree key above least tree depth link = (
  λ h. absurd (false≢true h),
  λ found. absurd (completes-nowhere degree c.args.nodes.now key tree above least c.args.sets.now depth c.requires.open.6
      (subst (IsLink c.args.nodes.now key above least) c.if-at-eq0.true link) found),
)

pub returns-then-is_empty : goal.returns-then-is_empty
returns-then-is_empty t c degree key above least tree depth link =
    let nodes = c.args.nodes.now in
    let sets = c.args.sets.now in
    let some : 0 < c.args.at = omega (arith, c.if-at-eq0.false) in
    let held = has-IsIn (get_or sets c.loop-place.place []) (node_at nodes c.args.at).label
    (test-of nodes sets c.args.at c.loop-place.place c.index-nodes-at.result c.index-sets-place.result c.has.result link.within c.loop-place-test.true c.index-nodes-at.is c.index-sets-place.is c.has.ensures ∙ c.if-has.true) in
    let empty : length (remove sets c.loop-place.place) ≡ 0 = ap length (sym c.without-rest.ensures) ∙ eqb-true (length c.without-rest.result.items) 0 (sym c.is_empty.ensures ∙ c.if-is_empty.true) in
    (λ _. last-drawn degree nodes key above least c.args.at sets tree depth c.requires.open.6 link some c.loop-place.place c.loop-place-test.true held empty, λ _. refl)

pub completes_from-requires : goal.completes_from-requires
completes_from-requires t c =
    let nodes = c.args.nodes.now in
    let sets = c.args.sets.now in
    let o = c.requires.open in
    let some : 0 < c.args.at = omega (arith, c.if-at-eq0.false) in
    let rest : c.as_slice.result.now ≡ remove sets c.loop-place.place = c.as_slice.ensures.value ∙ c.without-rest.ensures in
    let more : 0 < length c.as_slice.result.now = subst (λ (l : List (List ℕ)). 0 < length l) (sym c.as_slice.ensures.value) (above_zero (length c.without-rest.result.items) (sym c.is_empty.ensures ∙ c.if-is_empty.false)) in
    let kind : c.first_of-first.result ≡ first_of (node_at nodes c.args.at).kind =
    c.first_of-first.ensures ∙ ap (λ (n : Node). first_of n.kind) (read-there nodes c.args.at c.index-nodes-at-2.result o.7.within c.index-nodes-at-2.is) in
    let short = short-below o.0 nodes o.1 o.2 o.3 c.args.at sets o.4 o.5 o.6 o.7 some c.loop-place.place c.loop-place-test.true (subst (λ (l : List (List ℕ)). 0 < length l) rest more) in
    let depth : length (o.1 c.args.at) + length c.as_slice.result.now ≡ o.0 =
    subst (λ (l : List (List ℕ)). length (o.1 c.args.at) + length l ≡ o.0) (sym rest) (depth-below o.0 nodes o.1 o.2 o.3 c.args.at sets o.4 o.5 o.6 o.7 some c.loop-place.place c.loop-place-test.true) in
    let one_less : length sets ≡ suc (length c.as_slice.result.now) = length-one_taken [] sets c.loop-place.place c.loop-place-test.true ∙ ap (λ (l : List (List ℕ)). suc (length l)) (sym rest) in (
      omega (arith, c.decreases, one_less, small (eqb c.first_of-first.result 0) (node_at nodes c.first_of-first.result).label),
      (
        (o.0, o.1, o.1 c.args.at, 0, o.4, depth, more, first_link o.0 nodes (held_configs nodes) o.1 o.4 c.args.at c.first_of-first.result o.7.within short kind),
        omega (arith, one_less, c.requires.six),
      ),
    )

pub returns-then-completes_from : goal.returns-then-completes_from
returns-then-completes_from t c degree key above least tree depth link =
    let nodes = c.args.nodes.now in
    let sets = c.args.sets.now in
    let some : 0 < c.args.at = omega (arith, c.if-at-eq0.false) in
    let held = has-IsIn (get_or sets c.loop-place.place []) (node_at nodes c.args.at).label
    (test-of nodes sets c.args.at c.loop-place.place c.index-nodes-at.result c.index-sets-place.result c.has.result link.within c.loop-place-test.true c.index-nodes-at.is c.index-sets-place.is c.has.ensures ∙ c.if-has.true) in
    let rest : c.as_slice.result.now ≡ remove sets c.loop-place.place = c.as_slice.ensures.value ∙ c.without-rest.ensures in
    let more : 0 < length c.as_slice.result.now = subst (λ (l : List (List ℕ)). 0 < length l) (sym c.as_slice.ensures.value) (above_zero (length c.without-rest.result.items) (sym c.is_empty.ensures ∙ c.if-is_empty.false)) in
    let kind : c.first_of-first.result ≡ first_of (node_at nodes c.args.at).kind =
    c.first_of-first.ensures ∙ ap (λ (n : Node). first_of n.kind) (read-there nodes c.args.at c.index-nodes-at-2.result link.within c.index-nodes-at-2.is) in
    let short = short-below degree nodes key above least c.args.at sets tree depth c.requires.open.6 link some c.loop-place.place c.loop-place-test.true (subst (λ (l : List (List ℕ)). 0 < length l) rest more) in
    let deeper : length (key c.args.at) + length c.as_slice.result.now ≡ degree =
    subst (λ (l : List (List ℕ)). length (key c.args.at) + length l ≡ degree) (sym rest) (depth-below degree nodes key above least c.args.at sets tree depth c.requires.open.6 link some c.loop-place.place c.loop-place-test.true) in
    let found = (c.completes_from.ensures degree key (key c.args.at) 0 tree deeper (first_link degree nodes (held_configs nodes) key tree c.args.at c.first_of-first.result link.within short kind)).0 c.if-completes_from.true in (
      λ _. more-drawn degree nodes key above least c.args.at sets tree depth c.requires.open.6 link some c.loop-place.place c.loop-place-test.true held
          (subst (CompletesFrom (held_configs nodes) (key c.args.at) 0) rest found),
      λ _. refl,
    )

pub loop-place-preserved : goal.loop-place-preserved
loop-place-preserved t c degree key above least tree depth link =
    let nodes = c.args.nodes.now in
    let sets = c.args.sets.now in
    let some : 0 < c.args.at = omega (arith, c.if-at-eq0.false) in
    let test = test-of nodes sets c.args.at c.loop-place.place c.index-nodes-at.result c.index-sets-place.result c.has.result link.within c.loop-place-test.true c.index-nodes-at.is c.index-sets-place.is c.has.ensures in
    let kind : c.first_of-first.result ≡ first_of (node_at nodes c.args.at).kind =
    c.first_of-first.ensures ∙ ap (λ (n : Node). first_of n.kind) (read-there nodes c.args.at c.index-nodes-at-2.result link.within c.index-nodes-at-2.is) in
    let here : IsIn (node_at nodes c.args.at).label (get_or sets c.loop-place.place []) → Completes (held_configs nodes) (key c.args.at) (remove sets c.loop-place.place) → ⊥ =
    λ held found. elim c.if-has.branch [
      | then-has+else-is_empty+else-completes_from w ↦
          let rest : w.as_slice.result.now ≡ remove sets c.loop-place.place = w.as_slice.ensures.value ∙ w.without-rest.ensures in
          let more : 0 < length w.as_slice.result.now = subst (λ (l : List (List ℕ)). 0 < length l) (sym w.as_slice.ensures.value) (above_zero (length w.without-rest.result.items) (sym w.is_empty.ensures ∙ w.if-is_empty.false)) in
          let short = short-below degree nodes key above least c.args.at sets tree depth c.requires.open.6 link some c.loop-place.place c.loop-place-test.true (subst (λ (l : List (List ℕ)). 0 < length l) rest more) in
          let deeper : length (key c.args.at) + length w.as_slice.result.now ≡ degree =
          subst (λ (l : List (List ℕ)). length (key c.args.at) + length l ≡ degree) (sym rest) (depth-below degree nodes key above least c.args.at sets tree depth c.requires.open.6 link some c.loop-place.place c.loop-place-test.true) in
          let yes = (w.completes_from.ensures degree key (key c.args.at) 0 tree deeper (first_link degree nodes (held_configs nodes) key tree c.args.at c.first_of-first.result link.within short kind)).1
          (subst (CompletesFrom (held_configs nodes) (key c.args.at) 0) (sym rest) (all-drawn degree nodes key above least c.args.at sets tree depth c.requires.open.6 link some c.loop-place.place found)) in
          false≢true (sym w.if-completes_from.false ∙ yes)
      | else-has w ↦ false≢true (sym w.if-has.false ∙ sym test ∙ IsIn-has (get_or sets c.loop-place.place []) (node_at nodes c.args.at).label held)
    ] in
    λ i l held found. elim (three_ways i c.loop-place.place) [
      | inl less ↦ c.loop-place.invariant degree key above least tree depth link i less held found
      | inr (inl same) ↦ here (subst (λ k. IsIn (node_at nodes c.args.at).label (get_or sets k [])) same held) (subst (λ k. Completes (held_configs nodes) (key c.args.at) (remove sets k)) same found)
      | inr (inr more) ↦ absurd (omega (arith, more, l))
    ]

pub completes_from-requires-2 : goal.completes_from-requires-2
completes_from-requires-2 t c =
    let nodes = c.args.nodes.now in
    let o = c.requires.open in
    let some : 0 < c.args.at = omega (arith, c.if-at-eq0.false) in
    let next : (get_or nodes c.args.at c.index-nodes-at-3.result).next ≡ (node_at nodes c.args.at).next = ap (λ (n : Node). n.next) (read-there nodes c.args.at c.index-nodes-at-3.result o.7.within c.index-nodes-at-3.is) in
    let narrow = o.4.narrow c.args.at o.7.within in
    let less = falls c.args.at (node_at nodes c.args.at).next (node_at nodes c.args.at).label (node_at nodes (node_at nodes c.args.at).next).label c.if-at-eq0.false (omega (arith, narrow))
    (next-higher o.0 nodes o.1 o.2 o.3 c.args.at c.args.sets.now o.4 o.5 o.6 o.7 some) in
    let less_there = subst (λ k. cond (eqb k 0) 0 (256 - (node_at nodes k).label) < cond (eqb c.args.at 0) 0 (256 - (node_at nodes c.args.at).label)) (sym next) less in (
      omega (arith, c.decreases, less_there),
      (
        (o.0, o.1, o.2, (node_at nodes c.args.at).label + 1, o.4, o.5, o.6, subst (IsLink nodes o.1 o.2 ((node_at nodes c.args.at).label + 1)) (sym next) (sibling-link o.0 nodes o.1 o.2 o.3 c.args.at c.args.sets.now o.4 o.5 o.6 o.7 some)),
        c.requires.six,
      ),
    )

pub returns : goal.returns
returns t c degree key above least tree depth link =
    let nodes = c.args.nodes.now in
    let sets = c.args.sets.now in
    let some : 0 < c.args.at = omega (arith, c.if-at-eq0.false) in
    let next : (get_or nodes c.args.at c.index-nodes-at-3.result).next ≡ (node_at nodes c.args.at).next = ap (λ (n : Node). n.next) (read-there nodes c.args.at c.index-nodes-at-3.result link.within c.index-nodes-at-3.is) in
    let on = c.completes_from-2.ensures degree key above ((node_at nodes c.args.at).label + 1) tree depth
    (subst (IsLink nodes key above ((node_at nodes c.args.at).label + 1)) (sym next) (sibling-link degree nodes key above least c.args.at sets tree depth c.requires.open.6 link some)) in (
      λ h. nearer degree nodes key above least c.args.at sets tree depth c.requires.open.6 link some (on.0 h),
      λ found. on.1 (further degree nodes key above least c.args.at sets tree depth c.requires.open.6 link some
          (λ i l. c.loop-place.invariant degree key above least tree depth link i (omega (arith, l, c.loop-place-test.false))) found),
    )
