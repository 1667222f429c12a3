-- Identifiers that are all different are a proper colouring.
use Rattle.std.proofs.Common.{◌≡◌, ℕ, zero, suc, pred, ◌≤◌, ◌<◌, List, [], ◌∷◌, ◌++◌, refl, sym, ◌∙◌, subst, arith, inl, inr, append-nil}
use Rattle.std.specs.Prelude.{Contains, replicate}
use Rattle.std.specs.List.{AllByRecursion}
use Rattle.std.proofs.lemmas.List.{map-id}
use Rattle.std.proofs.lemmas.List.Elements.{Contains-append_left, Contains-append_right}
use Rattle.re_labels.proofs.LawsOfRows.{multisets_law}
use Rattle.re_labels.proofs.Rearranging.{Contains-Rearranged, Rearranged-sym}
use Rattle.re_labels.proofs.Sorting.{Rearranged-sorted}
use Rattle.re_labels.specs.Configs.{IsConfig, sorted}
use Rattle.re_labels.specs.Rearranging.{Rearranged, chained, kept, swapped, unmoved}
use Rattle.re_given.proofs.Colourings.{colour_there, colours_there}
use Rattle.re_given.proofs.Fitting.{Has-around, Rearranged-front}
use Rattle.re_given.specs.Given.{SolvableGiven, answer_known}
use Rattle.re_given.specs.InputViews.{Fits, FitsAround, InputView, payloads}
use Rattle.re_given.specs.Unavoidable.{colouring}
use Rattle.re_labels.proofs.Before.{three_ways}
use Rattle.re_labels.proofs.Membership.{AllByRecursion-contains, Contains-cases, Contains-here, Contains-later, Contains-map_cases, Contains-none, count_from_range}
use Rattle.re_labels.specs.Lists.{IsRising, count_from}
use Rattle.re_local.proofs.FewerRounds.{IsPart, held, left_out, none, part_different, part_empty}
use Rattle.re_layers.specs.Networks.{AreDifferent}
use Rattle.re_local.specs.LocalAlgorithms.{SolvableLocal, behind_active, behind_passive, identified, shown}
use Rattle.re_problem.specs.Problems.{IsProblem, Problem}
use Rattle.re_labels.specs.Constraints.{Has}
use Rattle.re_laws.specs.Trees.{IsTree, IsView, end, leaf, more}

pub different_Rearranged : {xs ys : List ℕ} → Rearranged xs ys → AreDifferent xs → AreDifferent ys
different_Rearranged unmoved d = tt
different_Rearranged (kept {x = x} h) d = (λ at. d.0 (Contains-Rearranged x (Rearranged-sym h) at), different_Rearranged h d.1)
different_Rearranged (swapped {x = x} {y = y} {xs = xs}) d =
    (λ at. elim (Contains-cases y x xs at) [ inl e ↦ d.0 (subst (Contains (y ∷ xs)) e (Contains-here y xs)) | inr there ↦ d.1.0 there ], (λ at. d.0 (Contains-later x y xs at), d.1.1))
different_Rearranged (chained h i) d = different_Rearranged i (different_Rearranged h d)

pub rising_strictly : (xs : List ℕ) → IsRising (λ x y. x ≤ y) xs → AreDifferent xs → IsRising (λ x y. x < y) xs
rising_strictly [] h d = tt
rising_strictly (x ∷ []) h d = tt
rising_strictly (x ∷ y ∷ xs) h d =
    let apart : x ≡ y → ⊥ = λ e. d.0 (subst (Contains (y ∷ xs)) (sym e) (Contains-here y xs)) in
    let low : x ≤ y = h.0 in
    (below low apart, rising_strictly (y ∷ xs) h.1 d.1)
  where
    below : x ≤ y → (x ≡ y → ⊥) → x < y
    below low apart = elim (three_ways x y) [ inl l ↦ l | inr (inl e) ↦ absurd (apart e) | inr (inr l) ↦ absurd (omega (arith, l, low)) ]

pub all_alike : (n w : ℕ) → AllByRecursion (λ y. y ≡ w) (replicate n w)
all_alike zero w = tt
all_alike (suc n) w = (refl, all_alike n w)

part_left : (xs ys : List ℕ) → IsPart xs (xs ++ ys)
part_left [] ys = part_empty ys
part_left (x ∷ xs) ys = held (part_left xs ys)

pub part_right : (xs ys : List ℕ) → IsPart ys (xs ++ ys)
part_right [] ys = whole ys
  where
    whole : (ys : List ℕ) → IsPart ys ys
    whole [] = none
    whole (y ∷ ys) = held (whole ys)
part_right (x ∷ xs) ys = left_out (part_right xs ys)

part_trans : {xs ys zs : List ℕ} → IsPart xs ys → IsPart ys zs → IsPart xs zs
part_trans h none = h
part_trans h (left_out i) = left_out (part_trans h i)
part_trans (left_out h) (held i) = left_out (part_trans h i)
part_trans (held h) (held i) = held (part_trans h i)

part_rest : (xs us vs : List ℕ) → IsPart (xs ++ vs) (xs ++ (us ++ vs))
part_rest [] us vs = part_right us vs
part_rest (x ∷ xs) us vs = held (part_rest xs us vs)

module _ (a p N : ℕ) (some : 1 ≤ a) where
  -- an identifier stands on all edges of its node
  pub alike : (labels : List ℕ) (y z : ℕ) → Has (identified a p N).active labels → Contains labels y → Contains labels z → y ≡ z
  alike labels y z has at at' =
      let (x, there, is) = Contains-map_cases (replicate a) (count_from 0 N) (sorted labels) has in
      let one : (w : ℕ) → Contains labels w → w ≡ x = λ w h. AllByRecursion-contains (λ y. y ≡ x) (replicate a x) w (all_alike a x) (subst (λ (c : List ℕ). Contains c w) (sym is) (Contains-Rearranged w (Rearranged-sorted labels) h)) in
      one y at ∙ sym (one z at')

  active_there : (labels : List ℕ) → Has (identified a p N).active labels → Has (colouring a p N).active labels
  active_there labels has =
      let (x, there, is) = Contains-map_cases (replicate a) (count_from 0 N) (sorted labels) has in
      subst (Contains (colouring a p N).active.configs) is (colour_there a p N x some (let l = (count_from_range 0 N x there).1 in omega arith))

  passive_there : (labels : List ℕ) → Has (identified a p N).passive labels → AreDifferent labels → Has (colouring a p N).passive labels
  passive_there labels has different =
      let is : IsConfig p N (sorted labels) = ((multisets_law p N).1 (sorted labels)).0 has in
      colours_there a p N (sorted labels) is.count (rising_strictly (sorted labels) is.ascends (different_Rearranged (Rearranged-sorted labels) different), is.below)

  alike_behind : (t n z : ℕ) (seen : List ℕ) (x : InputView) → IsTree a p t n x → FitsAround (identified a p N).active (identified a p N).passive seen x → Contains seen z → (y : ℕ) → Contains (payloads x) y → y ≡ z
  alike_behind zero n z seen leaf tree fits at y stands = absurd (Contains-none y stands)
  alike_behind zero n z seen end tree fits at y stands = absurd tree
  alike_behind zero n z seen (more back label branch rest) tree fits at y stands = absurd tree
  alike_behind (suc t) n z seen x tree fits at y stands =
      alike (payloads x ++ seen) y z (Has-around (identified a p N).active (identified a p N).passive a p t n seen x tree fits) (Contains-append_left (payloads x) seen y stands) (Contains-append_right (payloads x) seen z at)

  mutual
    coloured_active : (t n z : ℕ) (seen : List ℕ) (x : InputView) → IsTree a p t n x → ((y : ℕ) → Contains (payloads x) y → y ≡ z) → FitsAround (identified a p N).active (identified a p N).passive seen x → AreDifferent (z ∷ behind_active x)
        → FitsAround (colouring a p N).active (colouring a p N).passive seen x
    coloured_active t n z seen leaf tree same fits d = tt
    coloured_active t n z seen end tree same fits d = active_there seen fits
    coloured_active zero n z seen (more back label branch rest) tree same fits d = absurd tree
    coloured_active (suc t) zero z seen (more back label branch rest) tree same fits d = absurd tree
    coloured_active (suc t) (suc n) z seen (more back label branch rest) tree same fits d =
        let is : label ≡ z = same label (Contains-here label (payloads rest)) in
        let first : AreDifferent (z ∷ behind_passive branch) = part_different (held (part_left (behind_passive branch) (behind_active rest))) d in
        let others : AreDifferent (z ∷ behind_active rest) = part_different (held (part_right (behind_passive branch) (behind_active rest))) d in (
          coloured_passive t (pred p) (label ∷ []) branch tree.2 fits.0 (subst (λ y. AreDifferent (y ∷ behind_passive branch)) (sym is) first),
          coloured_active (suc t) n z (label ∷ seen) rest tree.3 (λ y at. same y (Contains-later y label (payloads rest) at)) fits.1 others,
        )

    coloured_passive : (t n : ℕ) (seen : List ℕ) (x : InputView) → IsTree p a t n x → FitsAround (identified a p N).passive (identified a p N).active seen x → AreDifferent (seen ++ behind_passive x)
        → FitsAround (colouring a p N).passive (colouring a p N).active seen x
    coloured_passive t n seen leaf tree fits d = tt
    coloured_passive t n seen end tree fits d = passive_there seen fits (rw append-nil at d)
    coloured_passive zero n seen (more back label branch rest) tree fits d = absurd tree
    coloured_passive (suc t) zero seen (more back label branch rest) tree fits d = absurd tree
    coloured_passive (suc t) (suc n) seen (more back label branch rest) tree fits d =
        let first : AreDifferent (label ∷ behind_active branch) = part_different (part_trans (part_left (label ∷ behind_active branch) (behind_passive rest)) (part_right seen ((label ∷ behind_active branch) ++ behind_passive rest))) d in
        let front : AreDifferent (label ∷ seen ++ (behind_active branch ++ behind_passive rest)) = different_Rearranged (Rearranged-front seen label (behind_active branch ++ behind_passive rest)) d in
        let others : AreDifferent (label ∷ seen ++ behind_passive rest) = part_different (part_rest (label ∷ seen) (behind_active branch) (behind_passive rest)) front in (
          coloured_active t (pred a) label (label ∷ []) branch tree.2 (alike_behind t (pred a) label (label ∷ []) branch tree.2 fits.0 (Contains-here label [])) fits.0 first,
          coloured_passive (suc t) n (label ∷ seen) rest tree.3 fits.1 others,
        )

  coloured_root : (t : ℕ) (v : InputView) → IsView a p (suc t) v → Fits (identified a p N).active (identified a p N).passive v → AreDifferent (shown v) → Fits (colouring a p N).active (colouring a p N).passive v
  coloured_root t leaf view fits d = tt
  coloured_root t end view fits d = active_there [] fits
  coloured_root t (more back label branch rest) view fits d =
      coloured_active (suc t) a label [] (more back label branch rest) view
      (λ y at. alike (payloads (more back label branch rest) ++ []) y label (Has-around (identified a p N).active (identified a p N).passive a p t a [] (more back label branch rest) view fits)
      (Contains-append_left (payloads (more back label branch rest)) [] y at) (Contains-append_left (payloads (more back label branch rest)) [] label (Contains-here label (payloads rest))))
      fits d

pub SolvableLocal-coloured : (problem : Problem) (N T : ℕ) → IsProblem problem → SolvableGiven problem (colouring problem.active.degree problem.passive.degree N) T → SolvableLocal problem N T
SolvableLocal-coloured problem N T is (table, solves) =
    let a : ℕ = problem.active.degree in
    let p : ℕ = problem.passive.degree in
    let some : 1 ≤ a = let l = is.active.least in omega arith in (
      answer_known table,
      record {
        active = λ v view fits apart. solves.solves.active v view (coloured_root a p N some T v view fits (subst AreDifferent (map-id (shown v)) apart));
        passive = λ v view fits apart. solves.solves.passive v view (coloured_passive a p N some (suc (suc T)) p [] v view fits (subst AreDifferent (map-id (behind_passive v)) apart));
      },
    )
