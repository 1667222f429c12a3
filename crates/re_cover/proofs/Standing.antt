-- Where an end of an active node stands, and what stands at one of a passive node.
use Rattle.std.proofs.Common.{◌≡◌, ℕ, zero, suc, pred, ◌+◌, ◌<◌, Bool, true, false, cond, ◌||◌, List, [], ◌∷◌, length, get_or, refl, sym, ◌∙◌, ap, subst, arith, eqb}
use Rattle.std.specs.Prelude.{Contains}
use Rattle.std.specs.List.{AllByRecursion, list_any}
use Rattle.std.proofs.lemmas.Bool.{true≢false}
use Rattle.std.proofs.lemmas.List.{get_or_default}
use Rattle.re_cover.specs.declared.ends.GraphEnd.{GraphEnd}
use Rattle.re_cover.specs.Graphs.{IsActiveEnd, IsGraph, IsPassiveEnd, PortGraph, active_end, no_end, passive_end, place_among, same_end, standing_from}
use Rattle.re_labels.proofs.Membership.{any_true}
use Rattle.re_labels.proofs.Tests.{and-true, eqb-same, eqb-true}

pub same_end-same : (here other : GraphEnd) → same_end here other ≡ true → here ≡ other
same_end-same here other h =
    let both = and-true (eqb here.node other.node) (eqb here.port other.port) h in
    let nodes : here.node ≡ other.node = eqb-true here.node other.node both.0 in
    let ports : here.port ≡ other.port = eqb-true here.port other.port both.1 in
    λ i. record { node = nodes i; port = ports i }

pub same_end-refl : (here : GraphEnd) → same_end here here ≡ true
same_end-refl here = rw (eqb-same here.node, eqb-same here.port) refl

-- where some end is equal, the first one is, too
pub place_among-is : (ends : List GraphEnd) (here : GraphEnd) → list_any (λ other. same_end other here) ends ≡ true → (place_among ends here < length ends) × (get_or ends (place_among ends here) no_end ≡ here)
place_among-is [] here h = absurd (true≢false (sym h))
place_among-is (other ∷ ends) here h = go (same_end other here) refl h (place_among-is ends here)
  where
    go : (b : Bool) → b ≡ same_end other here → (b || list_any (λ other. same_end other here) ends) ≡ true
        → (list_any (λ other. same_end other here) ends ≡ true → (place_among ends here < length ends) × (get_or ends (place_among ends here) no_end ≡ here))
        → (cond b 0 (suc (place_among ends here)) < suc (length ends)) × (get_or (other ∷ ends) (cond b 0 (suc (place_among ends here))) no_end ≡ here)
    go true e h rest = (omega arith, same_end-same other here (sym e))
    go false e h rest = let (less, at) = rest h in (omega (arith, less), at)

-- an end that stands somewhere stands where it is found
pub standing_from-is : (number p : ℕ) (passive : List (List GraphEnd)) (here : GraphEnd) → AllByRecursion (λ ends. length ends ≡ p) passive
    → (s k : ℕ) → s < length passive → k < p → get_or (get_or passive s []) k no_end ≡ here
    → (s' : ℕ) × (k' : ℕ) × (s' < length passive) × (k' < p) × (standing_from number passive here ≡ record { node = number + s'; port = suc k' }) × (get_or (get_or passive s' []) k' no_end ≡ here)
standing_from-is number p [] here counts s k less low at = absurd (omega arith)
standing_from-is number p (ends ∷ passive) here counts s k less low at =
    go (list_any (λ other. same_end other here) ends) refl s less at (λ s less at. standing_from-is (suc number) p passive here counts.1 s k less low at)
  where
    go : (b : Bool) → b ≡ list_any (λ other. same_end other here) ends
        → (s : ℕ) → s < suc (length passive) → get_or (get_or (ends ∷ passive) s []) k no_end ≡ here
        → ((s : ℕ) → s < length passive → get_or (get_or passive s []) k no_end ≡ here → (s' : ℕ) × (k' : ℕ) × (s' < length passive) × (k' < p) × (standing_from (suc number) passive here ≡ record { node = suc number + s'; port = suc k' }) × (get_or (get_or passive s' []) k' no_end ≡ here))
        → (s' : ℕ) × (k' : ℕ) × (s' < suc (length passive)) × (k' < p) × (cond b (record { node = number; port = suc (place_among ends here) }) (standing_from (suc number) passive here) ≡ record { node = number + s'; port = suc k' }) × (get_or (get_or (ends ∷ passive) s' []) k' no_end ≡ here)
    go true e s less at rest =
        let (low', at') = place_among-is ends here (sym e) in
        let same : number ≡ number + 0 = omega arith in
        (0, place_among ends here, omega arith, omega (arith, low', counts.0), ap (λ n. record { node = n; port = suc (place_among ends here) }) same, at')
    go false e zero less at rest =
        let found : Contains ends here = (k, omega (arith, low, counts.0), get_or_default ends k here no_end (omega (arith, low, counts.0)) ∙ at) in
        absurd (true≢false (sym (any_true (λ other. same_end other here) ends here found (same_end-refl here)) ∙ sym e))
    go false e (suc s) less at rest =
        let (s', k', less', low', is, at') = rest s (omega (arith, less)) at in
        let same : suc number + s' ≡ number + suc s' = omega arith in
        (suc s', k', omega (arith, less'), low', is ∙ ap (λ n. record { node = n; port = suc k' }) same, at')

module _ (graph : PortGraph) (is : IsGraph graph) where
  -- from an active node over an edge to a passive one, and back
  pub over_active : (here : GraphEnd) → IsActiveEnd graph here → IsPassiveEnd graph (passive_end graph here) × (active_end graph (passive_end graph here) ≡ here)
  over_active here active = go (is.each here active)
    where
      go : (there : GraphEnd) × IsPassiveEnd graph there × (active_end graph there ≡ here) → IsPassiveEnd graph (passive_end graph here) × (active_end graph (passive_end graph here) ≡ here)
      go (there, passive, at) =
          let low = passive.least in
          let high = passive.most in
          found (standing_from-is 0 graph.passive_degree graph.passive here is.count there.node (pred there.port) passive.node (omega (arith, low, high)) at)
        where
          found : (s : ℕ) × (k : ℕ) × (s < length graph.passive) × (k < graph.passive_degree) × (passive_end graph here ≡ record { node = 0 + s; port = suc k }) × (get_or (get_or graph.passive s []) k no_end ≡ here)
              → IsPassiveEnd graph (passive_end graph here) × (active_end graph (passive_end graph here) ≡ here)
          found (s, k, less, few, stands, at) =
              let same : 0 + s ≡ s = omega arith in
              subst (λ there. IsPassiveEnd graph there × (active_end graph there ≡ here)) (sym (stands ∙ ap (λ node. record { node = node; port = suc k }) same)) (record { node = less; least = omega arith; most = omega (arith, few) }, at)

  -- an end of a list of them
  at_place : (ends : List GraphEnd) (k : ℕ) → AllByRecursion (IsActiveEnd graph) ends → k < length ends → IsActiveEnd graph (get_or ends k no_end)
  at_place [] k all less = absurd (omega arith)
  at_place (here ∷ ends) zero all less = all.0
  at_place (here ∷ ends) (suc k) all less = at_place ends k all.1 (omega arith)

  at_places : (passive : List (List GraphEnd)) (s k : ℕ) → AllByRecursion (λ ends. length ends ≡ graph.passive_degree) passive → AllByRecursion (AllByRecursion (IsActiveEnd graph)) passive → s < length passive → k < graph.passive_degree
      → IsActiveEnd graph (get_or (get_or passive s []) k no_end)
  at_places [] s k counts all less few = absurd (omega arith)
  at_places (ends ∷ passive) zero k counts all less few = at_place ends k all.0 (omega (arith, counts.0))
  at_places (ends ∷ passive) (suc s) k counts all less few = at_places passive s k counts.1 all.1 (omega arith) few

  -- from a passive node over an edge to an active one, and back
  pub over_passive : (here : GraphEnd) → IsPassiveEnd graph here → IsActiveEnd graph (active_end graph here) × (passive_end graph (active_end graph here) ≡ here)
  over_passive here passive =
      let low = passive.least in
      let high = passive.most in
      let active : IsActiveEnd graph (active_end graph here) = at_places graph.passive here.node (pred here.port) is.count is.ends passive.node (omega (arith, low, high)) in
      let (there, back) = over_active (active_end graph here) active in
      (active, is.once (passive_end graph (active_end graph here)) here there passive back)
