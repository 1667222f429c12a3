-- How many multisets there are.
use Rattle.std.proofs.Common.{◌≡◌, ℕ, zero, suc, ◌+◌, ◌-◌, ◌≤◌, ◌<◌, true, leb, List, ◌∷◌, length, map, refl, subst, ◌∙◌, arith, length-append}
use Rattle.std.specs.List.{list_all}
use Rattle.std.proofs.lemmas.Bool.{leb-true}
use Rattle.re_labels.specs.Orders.{begun, multisets}
use Rattle.re_labels.proofs.Membership.{length-map'}
use Rattle.re_labels.specs.Lists.{count_from}
use Rattle.re_problem.proofs.UsedLabels.{counted_all}
use Rattle.re_labels.specs.declared.constraint_table.TheConstants.{MAX_CONFIGURATIONS}

-- f 1 + .. + f k
sums : (ℕ → ℕ) → ℕ → ℕ
sums f zero = 0
sums f (suc k) = f (suc k) + sums f k

-- how many multisets of d of k numbers there are
tally : ℕ → ℕ → ℕ
tally zero k = 1
tally (suc d) k = sums (tally d) k

length-begun : (d : ℕ) → ((lo k : ℕ) → length (multisets d lo k) ≡ tally d k) → (lo k : ℕ) → length (begun (multisets d) lo k) ≡ sums (tally d) k
unfolding sums
length-begun d each lo zero = refl
length-begun d each lo (suc k) =
    length-append (map (λ v. lo ∷ v) (multisets d lo (suc k))) (begun (multisets d) (suc lo) k)
    ∙ (λ i. (length-map' (λ (v : List ℕ). lo ∷ v) (multisets d lo (suc k)) ∙ each lo (suc k)) i + length-begun d each (suc lo) k i)

length-multisets : (d lo k : ℕ) → length (multisets d lo k) ≡ tally d k
unfolding tally
length-multisets zero lo k = refl
length-multisets (suc d) lo k = length-begun d (length-multisets d) lo k

sums-more : (f : ℕ → ℕ) (k more : ℕ) → sums f k ≤ sums f (more + k)
unfolding sums
sums-more f k zero = let e : k ≡ 0 + k = omega arith in subst (λ m. sums f k ≤ sums f m) e (omega arith)
sums-more f k (suc more) =
    let e : suc (more + k) ≡ suc more + k = omega arith in
    subst (λ m. sums f k ≤ sums f m) e (omega (arith, sums-more f k more))

tally-more : (d k more : ℕ) → tally d k ≤ tally d (more + k)
unfolding tally
tally-more zero k more = omega arith
tally-more (suc d) k more = sums-more (tally d) k more

few_tallies : list_all (λ d. leb (tally d 16) 1000000) (count_from 0 7) ≡ true
unfolding tally sums
few_tallies = refl

pub few_multisets : (d n : ℕ) → d ≤ 6 → n ≤ 16 → length (multisets d 0 n) < MAX_CONFIGURATIONS
few_multisets d n six few =
    let most : tally d 16 ≤ 1000000 = leb-true (tally d 16) 1000000 (counted_all (λ d. leb (tally d 16) 1000000) 7 d few_tallies (omega arith)) in
    let e : (16 - n) + n ≡ 16 = omega arith in
    let more : tally d n ≤ tally d 16 = subst (λ m. tally d n ≤ tally d m) e (tally-more d n (16 - n)) in
    omega (arith, most, more, length-multisets d 0 n)
