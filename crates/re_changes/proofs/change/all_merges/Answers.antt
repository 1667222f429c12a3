use Rattle.re_labels.proofs.Membership.{count_from-last}
use Rattle.std.proofs.Common.{◌≡◌, ℕ, ◌+◌, ◌-◌, ◌<◌, ◌≤◌, ◌++◌, ◌∷◌, [], List, suc, refl, sym, ap, map, flat_map, ◌∙◌, append_assoc, arith, rules}
use Rattle.std.proofs.lemmas.List.{map-append}
use Rattle.re_labels.specs.Lists.{count_from}
use Rattle.re_changes.proofs.Counted.{flat_map-next}
use Rattle.re_changes.specs.declared.change.Change.{Change}
use Rattle.re_changes.specs.declared.change.Change.TheVariants.{Merge}
use Rattle.re_changes.proofs.change.all_merges.Goals as goal

-- one pair more, where the first label is fixed
paired : (x y : ℕ) (old before after : List Change) → suc x ≤ y → before ≡ old ++ map (λ y. Merge x y) (count_from (suc x) (y - suc x)) → after ≡ before ++ Merge x y ∷ []
    → after ≡ old ++ map (λ y. Merge x y) (count_from (suc x) (y + 1 - suc x))
paired x y old before after l so_far push =
    let n : y + 1 - suc x ≡ suc (y - suc x) = omega arith in
    let m : suc x + (y - suc x) ≡ y = omega arith in
    push ∙ ap (λ l. l ++ Merge x y ∷ []) so_far ∙ append_assoc old (map (λ y. Merge x y) (count_from (suc x) (y - suc x))) (Merge x y ∷ [])
    ∙ ap (λ l. old ++ l) (sym (ap (λ k. map (λ y. Merge x y) (count_from (suc x) k)) n ∙ ap (map (λ y. Merge x y)) (count_from-last (suc x) (y - suc x) ∙ ap (λ z. count_from (suc x) (y - suc x) ++ z ∷ []) m)
    ∙ map-append (λ y. Merge x y) (count_from (suc x) (y - suc x)) (y ∷ [])))

-- all pairs of one label more
row_more : (n x high : ℕ) (before after : List Change) → n ≤ high → high ≤ n → before ≡ flat_map (λ x. map (λ y. Merge x y) (count_from (suc x) (n - suc x))) (count_from 0 x)
    → after ≡ before ++ map (λ y. Merge x y) (count_from (suc x) (high - suc x)) → after ≡ flat_map (λ x. map (λ y. Merge x y) (count_from (suc x) (n - suc x))) (count_from 0 (x + 1))
row_more n x high before after l m so_far added =
    let same : high ≡ n = omega arith in
    added ∙ ap (λ k. before ++ map (λ y. Merge x y) (count_from (suc x) (k - suc x))) same ∙ ap (λ l. l ++ map (λ y. Merge x y) (count_from (suc x) (n - suc x))) so_far
    ∙ sym (flat_map-next (λ x. map (λ y. Merge x y) (count_from (suc x) (n - suc x))) x)

pub loop-high-preserved : goal.loop-high-preserved
loop-high-preserved c = paired c.loop-low.low c.loop-high.high c.loop-low.changes.items c.loop-high.changes.items c.push.new.self.items (omega arith) c.loop-high.invariant (search rules)

pub loop-low-preserved : goal.loop-low-preserved
loop-low-preserved c = row_more c.args.labels c.loop-low.low c.loop-high.high c.loop-low.changes.items c.loop-high.changes.items (omega arith) (omega arith) c.loop-low.invariant c.loop-high.invariant
