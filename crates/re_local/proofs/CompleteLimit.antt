-- From one round on the hypergraph that joins all different identifiers doesn't do: two neighbours of a node may be one identifier.
use Rattle.std.proofs.Common.{◌≡◌, ℕ, zero, suc, pred, ◌+◌, ◌*◌, ◌/◌, ◌≤◌, ◌<◌, List, [], ◌∷◌, ◌++◌, map, length, sym, ◌∙◌, ap, subst, arith, append-nil}
use Rattle.std.specs.Prelude.{Contains}
use Rattle.std.proofs.lemmas.List.Elements.{Contains-append_right}
use Rattle.re_labels.proofs.Rearranging.{Rearranged-refl, Rearranged-sym}
use Rattle.re_labels.specs.Rearranging.{Rearranged, chained}
use Rattle.re_given.proofs.Fitting.{Rearranged-front}
use Rattle.re_given.proofs.GrownInputs.{AreSides, Has-occurs, active_sides, filled, filled_children}
use Rattle.re_given.proofs.ZeroGiven.{config-Has}
use Rattle.re_given.specs.InputViews.{FitsAround, InputView}
use Rattle.re_given.specs.Inputs.{IsInput}
use Rattle.re_labels.proofs.Membership.{Contains-count_from, Contains-here, Contains-later, Contains-map, Distinct-count_from, length-count_from}
use Rattle.re_labels.specs.Lists.{count_from}
use Rattle.re_local.proofs.Complete.{different_distinct, different_there, edges_complete, some_below}
use Rattle.re_local.proofs.IdentifierInputs.{IsInput-identifiers, identifiers_active, identifiers_passive}
use Rattle.re_local.proofs.UnavoidableIdentifiers.{first_ports, length-labels_at, same_port}
use Rattle.re_local.specs.Identifiers.{id_labels, identifiers, labels_at}
use Rattle.re_layers.specs.Networks.{AreDifferent}
use Rattle.re_local.specs.LocalAlgorithms.{behind_active, behind_passive, shown}
use Rattle.re_local.specs.Separating.{AreApart, complete}
use Rattle.re_problem.specs.NamedProblems.{OccursIn}
use Rattle.re_problem.specs.Problems.{IsProblem, Problem}
use Rattle.re_labels.proofs.Goodness.{Has-Rearranged}
use Rattle.re_labels.specs.Constraints.{Has}
use Rattle.re_laws.specs.Trees.{IsTree, end, more}

-- the degrees are b + 2 and r + 2
module _ (b r N T : ℕ) (most : suc (suc b) ≤ 6) (most' : suc (suc r) ≤ 6) (many : suc (suc r) ≤ N) where
  abbrev a : ℕ
  a = suc (suc b)

  abbrev p : ℕ
  p = suc (suc r)

  abbrev input : Problem
  input = identifiers (suc (suc b)) (suc (suc r)) N (complete (suc (suc b)) (suc (suc r)) N)

  is_problem : IsProblem input
  is_problem = record { active = identifiers_active a p N (complete a p N) (omega arith) most; passive = identifiers_passive a p N (complete a p N) (omega arith) most' }

  is_input : IsInput input input
  is_input = IsInput-identifiers input N (complete a p N) is_problem (omega arith) (edges_complete a p N (omega arith) many)

  sides : AreSides (a * N) a p input.active input.passive
  sides = active_sides input input is_input

  -- the labels of the identifiers behind the second one
  abbrev others : List ℕ
  others = labels_at (suc (suc b)) (count_from 2 r) (same_port 0 r)

  -- the first identifier by one of its ports, and all others by their first ones, stand around a passive node
  beside : (k : ℕ) → k < a → Has input.passive ((0 * a + k) ∷ (1 * a + 0) ∷ others)
  beside k l =
      let (count, low) = first_ports a (suc r) 0 (omega arith) in
      different_there a p N (count_from 0 p) (k ∷ same_port 0 (suc r)) (length-count_from 0 p) (some_below N p many) (different_distinct (count_from 0 p) (Distinct-count_from 0 p)) (ap suc count) (l, low)

  occurs : (k : ℕ) → k < a → (y : ℕ) → Contains ((0 * a + k) ∷ (1 * a + 0) ∷ others) y → OccursIn input.active y
  occurs k l y at = (sides.occurs y).1 (Has-occurs input.passive ((0 * a + k) ∷ (1 * a + 0) ∷ others) y (beside k l) at)

  -- behind a port of the first identifier, with the second one first
  behind : (k : ℕ) → k < a → (c : InputView) × (rest : InputView) × IsTree p a (suc T) (pred p) (more 1 (1 * a + 0) c rest) × FitsAround input.passive input.active (k ∷ []) (more 1 (1 * a + 0) c rest)
  behind k l =
      let one : 0 * a + k ≡ k = omega arith in
      let has : Has input.passive (k ∷ (1 * a + 0) ∷ others) = subst (λ z. Has input.passive (z ∷ (1 * a + 0) ∷ others)) one (beside k l) in
      let (c, c_tree, c_fits) = filled (a * N) a p input.active input.passive T (1 * a + 0) sides (occurs k l (1 * a + 0) (Contains-later (1 * a + 0) (0 * a + k) ((1 * a + 0) ∷ others) (Contains-here (1 * a + 0) others))) in
      let last : Has input.passive (((1 * a + 0) ∷ others) ++ (k ∷ [])) =
      Has-Rearranged input.passive (Rearranged-sym (Rearranged-front ((1 * a + 0) ∷ others) k [])) (subst (λ labels. Has input.passive (k ∷ labels)) (sym (append-nil ((1 * a + 0) ∷ others))) has) in
      let (rest, tree, fits) = filled_children p a T input.passive input.active others ((1 * a + 0) ∷ k ∷ []) (omega arith)
      (λ y at. filled (a * N) a p input.active input.passive T y sides (occurs k l y (Contains-later y (0 * a + k) ((1 * a + 0) ∷ others) (Contains-later y (1 * a + 0) others at))))
      (Has-Rearranged input.passive (Rearranged-sym (Rearranged-front others (1 * a + 0) (k ∷ []))) last) in
      let few : length others ≡ r = length-labels_at a (count_from 2 r) (same_port 0 r) (length-count_from 2 r ∙ sym (first_ports a r 0 (omega arith)).0) ∙ (first_ports a r 0 (omega arith)).0 in
      (c, rest, (omega arith, omega arith, c_tree, subst (λ m. IsTree p a (suc T) m rest) few tree), (c_fits, fits))

  children : (k m : ℕ) (seen : List ℕ) → k + m ≤ a → Rearranged (count_from k m ++ seen) (id_labels a 0) → (v : InputView) × IsTree a p (suc (suc T)) m v × FitsAround input.active input.passive seen v
  children k zero seen l order =
      (end, tt, Has-Rearranged input.active (Rearranged-sym order) (config-Has (a * N) input.active (id_labels a 0) is_problem.active (Contains-map (id_labels a) (count_from 0 N) 0 (Contains-count_from 0 N 0 (omega arith) (omega arith)))))
  children k (suc m) seen l order =
      let (c, b', tree, fits) = behind k (omega arith) in
      let (rest, rest_tree, rest_fits) = children (suc k) m (k ∷ seen) (omega arith) (chained (Rearranged-front (count_from (suc k) m) k seen) order) in
      (more 1 k (more 1 (1 * a + 0) c b') rest, (omega arith, omega arith, tree, rest_tree), (fits, rest_fits))

  twice : (c b' d e rest : InputView) → AreDifferent (map (λ label. label / a) (shown (more 1 0 (more 1 (1 * a + 0) c b') (more 1 1 (more 1 (1 * a + 0) d e) rest)))) → ⊥
  twice c b' d e rest h =
      let x : ℕ = 1 * a + 0 in
      let mine : List ℕ = behind_active c ++ behind_passive b' in
      let last : List ℕ = (behind_active d ++ behind_passive e) ++ behind_active rest in
      h.1.0 (Contains-map (λ label. label / a) (mine ++ (x ∷ last)) x (Contains-append_right mine (x ∷ last) x (Contains-here x last)))

  pub limit : AreApart input (λ label. label / suc (suc b)) (suc T) → ⊥
  limit apart =
      let start : 0 * a ≡ 0 = omega arith in
      let order : Rearranged (count_from 0 a ++ []) (id_labels a 0) = rw (append-nil (count_from 0 a), start) (Rearranged-refl (count_from 0 a)) in
      let second : Rearranged (count_from 1 (suc b) ++ (0 ∷ [])) (id_labels a 0) = chained (Rearranged-front (count_from 1 (suc b)) 0 []) order in
      let third : Rearranged (count_from 2 b ++ (1 ∷ 0 ∷ [])) (id_labels a 0) = chained (Rearranged-front (count_from 2 b) 1 (0 ∷ [])) second in
      let (c, b', tree, fits) = behind 0 (omega arith) in
      let (d, e, tree', fits') = behind 1 (omega arith) in
      let (rest, rest_tree, rest_fits) = children 2 b (1 ∷ 0 ∷ []) (omega arith) third in
      twice c b' d e rest
      (apart.active (more 1 0 (more 1 (1 * a + 0) c b') (more 1 1 (more 1 (1 * a + 0) d e) rest)) (omega arith, omega arith, tree, (omega arith, omega arith, tree', rest_tree)) (fits, (fits', rest_fits)))

pub complete_limit : (a p N T : ℕ) → 2 ≤ a → a ≤ 6 → 2 ≤ p → p ≤ 6 → p ≤ N → AreApart (identifiers a p N (complete a p N)) (λ label. label / a) (suc T) → ⊥
complete_limit zero p N T least most least' most' many apart = absurd (omega (arith, least))
complete_limit (suc zero) p N T least most least' most' many apart = absurd (omega (arith, least))
complete_limit (suc (suc b)) zero N T least most least' most' many apart = absurd (omega (arith, least'))
complete_limit (suc (suc b)) (suc zero) N T least most least' most' many apart = absurd (omega (arith, least'))
complete_limit (suc (suc b)) (suc (suc r)) N T least most least' most' many apart = limit b r N T most most' many apart
