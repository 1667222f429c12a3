-- Colours of passive nodes, which are edges where they have two ends, from unique identifiers: one hop shows the identifiers around them.
use Rattle.std.proofs.Common.{◌≡◌, ℕ, zero, suc, pred, ◌^◌, ◌≤◌, ◌<◌, Some, List, [], ◌∷◌, ◌++◌, map, length, get_or, refl, sym, ◌∙◌, ap, subst, arith, inl, inr, append-nil, one-add}
use Rattle.std.specs.Prelude.{Contains, replicate, unwrap_or}
use Rattle.std.specs.List.{AllByRecursion}
use Rattle.std.proofs.lemmas.List.{map-id}
use Rattle.std.proofs.lemmas.List.Elements.{Contains-append_left}
use Rattle.re_labels.proofs.ChoicesOfRows.{choices-IsChoice}
use Rattle.re_labels.proofs.LawsOfRows.{multisets_law}
use Rattle.re_labels.proofs.Rearranging.{Contains-Rearranged, Rearranged-sym}
use Rattle.re_labels.proofs.Sorting.{AllByRecursion-Rearranged, Rearranged-sorted, length-sorted, sorted-Rearranged, sorted_again, sorted_rises}
use Rattle.re_labels.specs.Configs.{IsConfig, sorted}
use Rattle.re_labels.specs.Rearranging.{Rearranged, kept}
use Rattle.re_labels.specs.Rows.{IsChoice, choices}
use Rattle.re_labels.proofs.Replicated.{alike_rise}
use Rattle.re_given.proofs.Colourings.{colour_there, colours_there}
use Rattle.re_given.proofs.Fitting.{Has-around, Rearranged-front}
use Rattle.re_given.proofs.KnownViews.{payloads-known}
use Rattle.re_given.specs.Given.{around_known}
use Rattle.re_given.specs.InputExamples.{edge_colouring}
use Rattle.re_given.specs.InputViews.{Fits, FitsAround, InputView, known, payloads}
use Rattle.re_labels.proofs.Membership.{Contains-cases, Contains-here, Contains-later, Contains-none}
use Rattle.re_labels.proofs.LabelPlaces.{get-place_of, place_of-below}
use Rattle.re_labels.specs.Lists.{count_from, place_of}
use Rattle.re_laws.proofs.Ports.{map-count}
use Rattle.re_laws.specs.Algorithms.{at_port}
use Rattle.re_local.proofs.ColouredLocal.{alike, different_Rearranged, part_right, rising_strictly}
use Rattle.re_local.proofs.Complete.{alike_choice, length-alike}
use Rattle.re_local.proofs.FewerRounds.{held, part_different}
use Rattle.re_layers.specs.Networks.{AreDifferent}
use Rattle.re_local.specs.LocalAlgorithms.{SolvableLocal, behind_active, behind_passive, identified, shown}
use Rattle.re_labels.specs.Constraints.{Has}
use Rattle.re_laws.proofs.JoinedBranches.{backs-child}
use Rattle.re_laws.proofs.ViewLaws.{HasRoom, HasRoom-tree, IsChild, child_at-put, child_of, shift-at}
use Rattle.re_laws.specs.Trees.{Child, IsTree, IsView, backs, child_at, cut, end, leaf, more, others, put, shift}
use Rattle.re_layers.proofs.Different.{Different-apart}

-- ---- lists of labels
in_append : (xs ys : List ℕ) (y : ℕ) → Contains (xs ++ ys) y → (Contains xs y → ⊥) → Contains ys y
in_append [] ys y at none = at
in_append (x ∷ xs) ys y at none = elim (Contains-cases y x (xs ++ ys) at) [
  | inl e ↦ absurd (none (subst (λ z. Contains (z ∷ xs) y) e (Contains-here y xs)))
  | inr later ↦ in_append xs ys y later (λ here. none (Contains-later y x xs here))
]

constant_ports : (x i n : ℕ) → map (λ port. x) (count_from i n) ≡ replicate n x
constant_ports x i zero = refl
constant_ports x i (suc n) = ap (λ xs. x ∷ xs) (constant_ports x (suc i) n)

-- ---- children and their labels
payloads_behind : (x : InputView) (y : ℕ) → Contains (payloads x) y → Contains (behind_passive x) y
payloads_behind leaf y at = at
payloads_behind end y at = at
payloads_behind (more back label branch rest) y at = elim (Contains-cases y label (payloads rest) at) [
  | inl e ↦ subst (λ z. Contains ((label ∷ behind_active branch) ++ behind_passive rest) z) (sym e) (Contains-here label (behind_active branch ++ behind_passive rest))
  | inr later ↦ right (label ∷ behind_active branch) (payloads_behind rest y later)
]
  where
    right : (zs : List ℕ) → Contains (behind_passive rest) y → Contains (zs ++ behind_passive rest) y
    right [] there = there
    right (z ∷ zs) there = Contains-later y z (zs ++ behind_passive rest) (right zs there)

some_payload : (d e t n : ℕ) (x : InputView) → IsTree d e (suc t) n x → 1 ≤ n → (y : ℕ) × Contains (payloads x) y
some_payload d e t n leaf is some = absurd is
some_payload d e t zero x is some = absurd (omega (arith, some))
some_payload d e t (suc n) end is some = absurd is
some_payload d e t (suc n) (more back label branch rest) is some = (label, Contains-here label (payloads rest))

payloads-cut : (t : ℕ) (x : InputView) → payloads (cut (suc t) x) ≡ payloads x
payloads-cut t leaf = refl
payloads-cut t end = refl
payloads-cut t (more back label branch rest) = ap (λ xs. label ∷ xs) (payloads-cut t rest)

payloads_parts : (k : ℕ) (c : Child ℕ) (x : InputView) → child_at k x ≡ Some c → Rearranged (payloads x) (payloads (others k x) ++ c.payload ∷ [])
payloads_parts k c leaf at = absurd (cc)
payloads_parts k c end at = absurd (cc)
payloads_parts zero c (more back label branch rest) at =
    let is = ap (λ found. unwrap_or found c) at in
    subst (λ (c : Child ℕ). Rearranged (label ∷ payloads rest) (payloads rest ++ c.payload ∷ [])) is
    (Rearranged-sym (subst (λ xs. Rearranged (payloads rest ++ label ∷ []) (label ∷ xs)) (append-nil (payloads rest)) (Rearranged-front (payloads rest) label [])))
payloads_parts (suc k) c (more back label branch rest) at = kept (payloads_parts k c rest at)

module _ (a p N : ℕ) (a_some : 1 ≤ a) (p_low : 2 ≤ p) where
  -- ---- the number of a list of p identifiers in any order
  abbrev lists : List (List ℕ)
  lists = choices (replicate p (count_from 0 N))

  abbrev number : List ℕ → ℕ
  number ids = place_of lists (sorted ids)

  listed : (ids : List ℕ) → Has (identified a p N).passive ids → Contains lists (sorted ids)
  listed ids has =
      let is : IsConfig p N (sorted ids) = ((multisets_law p N).1 (sorted ids)).0 has in
      choices-IsChoice (replicate p (count_from 0 N)) (sorted ids) (subst (λ k. IsChoice (sorted ids) (replicate k (count_from 0 N))) is.count (alike_choice N (sorted ids) is.below))

  number_below : (ids : List ℕ) → Has (identified a p N).passive ids → number ids < N ^ p
  number_below ids has = subst (λ k. number ids < k) (length-alike N p) (place_of-below lists (sorted ids) (listed ids has))

  same_number : (ids others : List ℕ) → Has (identified a p N).passive ids → Has (identified a p N).passive others → number ids ≡ number others → sorted ids ≡ sorted others
  same_number ids others has has' same =
      sym (get-place_of lists (sorted ids) (listed ids has)) ∙ (ap (λ k. get_or lists k []) same ∙ get-place_of lists (sorted others) (listed others has'))

  -- ---- an active node colours its edges by the identifiers around the passive nodes there
  abbrev colours_at : InputView → List ℕ
  colours_at leaf = []
  colours_at end = []
  colours_at (more back label branch rest) = number (payloads branch ++ label ∷ []) ∷ colours_at rest

  colours_known : (x : InputView) → colours_at (known 1 x) ≡ colours_at x
  colours_known leaf = refl
  colours_known end = refl
  colours_known (more back label branch rest) =
      let here : payloads (known 0 branch) ≡ payloads branch = payloads-known 0 branch in
      let there : colours_at (known 1 rest) ≡ colours_at rest = colours_known rest in
      rw (here, there) refl

  colour_at : (k : ℕ) (c : Child ℕ) (x : InputView) → child_at k x ≡ Some c → get_or (colours_at x) k 0 ≡ number (payloads c.branch ++ c.payload ∷ [])
  colour_at k c leaf at = absurd (cc)
  colour_at k c end at = absurd (cc)
  colour_at zero c (more back label branch rest) at =
      let is = ap (λ found. unwrap_or found c) at in
      subst (λ (c : Child ℕ). number (payloads branch ++ label ∷ []) ≡ number (payloads c.branch ++ c.payload ∷ [])) is refl
  colour_at (suc k) c (more back label branch rest) at = colour_at k c rest at

  length-colours : (t n : ℕ) (x : InputView) → IsTree a p (suc t) n x → length (colours_at x) ≡ n
  length-colours t n leaf is = absurd is
  length-colours t zero end is = refl
  length-colours t (suc n) end is = absurd is
  length-colours t zero (more back label branch rest) is = absurd is
  length-colours t (suc n) (more back label branch rest) is = ap suc (length-colours t n rest is.3)

  -- the identifiers around the passive node behind an edge
  around : (label : ℕ) (branch : InputView) → IsTree p a 1 (pred p) branch → FitsAround (identified a p N).passive (identified a p N).active (label ∷ []) branch → Has (identified a p N).passive (payloads branch ++ label ∷ [])
  around label branch is fits = Has-around (identified a p N).passive (identified a p N).active p a 0 (pred p) (label ∷ []) branch is fits

  colours_below : (n : ℕ) (seen : List ℕ) (x : InputView) → IsTree a p 2 n x → FitsAround (identified a p N).active (identified a p N).passive seen x → AllByRecursion (λ c. c < N ^ p) (colours_at x)
  colours_below n seen leaf is fits = absurd is
  colours_below n seen end is fits = tt
  colours_below zero seen (more back label branch rest) is fits = absurd is
  colours_below (suc n) seen (more back label branch rest) is fits =
      (number_below (payloads branch ++ label ∷ []) (around label branch is.2 fits.0), colours_below n (label ∷ seen) rest is.3 fits.1)

  -- a colour at some child: that of the identifiers around the passive node there
  record Found (x : InputView) (colour : ℕ) : Type 0 where
    label : ℕ
    branch : InputView
    number_is : colour ≡ number (payloads branch ++ label ∷ [])
    has : Has (identified a p N).passive (payloads branch ++ label ∷ [])
    own : Contains (payloads x) label
    behind : (y : ℕ) → Contains (payloads branch) y → Contains (behind_active x) y

  found : (n : ℕ) (seen : List ℕ) (x : InputView) (colour : ℕ) → IsTree a p 2 n x → FitsAround (identified a p N).active (identified a p N).passive seen x → Contains (colours_at x) colour → Found x colour
  found n seen leaf colour is fits at = absurd is
  found n seen end colour is fits at = absurd (Contains-none colour at)
  found zero seen (more back label branch rest) colour is fits at = absurd is
  found (suc n) seen (more back label branch rest) colour is fits at = elim (Contains-cases colour (number (payloads branch ++ label ∷ [])) (colours_at rest) at) [
    | inl e ↦ record {
      label = label;
      branch = branch;
      number_is = e;
      has = around label branch is.2 fits.0;
      own = Contains-here label (payloads rest);
      behind = λ y there. Contains-append_left (behind_passive branch) (behind_active rest) y (payloads_behind branch y there);
    }
    | inr later ↦ (
        let it : Found rest colour = found n (label ∷ seen) rest colour is.3 fits.1 later in
        record {
          label = it.label;
          branch = it.branch;
          number_is = it.number_is;
          has = it.has;
          own = Contains-later it.label label (payloads rest) it.own;
          behind = λ y there. right (behind_passive branch) y (it.behind y there);
        }
        )
  ]
    where
      right : (zs : List ℕ) (y : ℕ) → Contains (behind_active rest) y → Contains (zs ++ behind_active rest) y
      right [] y there = there
      right (z ∷ zs) y there = Contains-later y z (zs ++ behind_active rest) (right zs y there)

  colours_differ : (n z : ℕ) (seen : List ℕ) (x : InputView) → IsTree a p 2 n x → FitsAround (identified a p N).active (identified a p N).passive seen x → ((y : ℕ) → Contains (payloads x) y → y ≡ z)
      → AreDifferent (z ∷ behind_active x) → AreDifferent (colours_at x)
  colours_differ n z seen leaf is fits own apart = absurd is
  colours_differ n z seen end is fits own apart = tt
  colours_differ zero z seen (more back label branch rest) is fits own apart = absurd is
  colours_differ (suc n) z seen (more back label branch rest) is fits own apart = (
    λ at. clash (found n (label ∷ seen) rest (number (payloads branch ++ label ∷ [])) is.3 fits.1 at),
    colours_differ n z (label ∷ seen) rest is.3 fits.1 (λ y there. own y (Contains-later y label (payloads rest) there)) (part_different (held (part_right (behind_passive branch) (behind_active rest))) apart),
  )
    where
      clash : Found rest (number (payloads branch ++ label ∷ [])) → ⊥
      clash it =
          let (y, at) = some_payload p a 0 (pred p) branch is.2 (omega (arith, p_low)) in
          let same : sorted (payloads branch ++ label ∷ []) ≡ sorted (payloads it.branch ++ it.label ∷ []) =
          same_number (payloads branch ++ label ∷ []) (payloads it.branch ++ it.label ∷ []) (around label branch is.2 fits.0) it.has it.number_is in
          let there : Contains (sorted (payloads branch ++ label ∷ [])) y =
          Contains-Rearranged y (Rearranged-sorted (payloads branch ++ label ∷ [])) (Contains-append_left (payloads branch) (label ∷ []) y at) in
          let other : Contains (payloads it.branch ++ it.label ∷ []) y =
          Contains-Rearranged y (Rearranged-sym (Rearranged-sorted (payloads it.branch ++ it.label ∷ []))) (subst (λ (ids : List ℕ). Contains ids y) same there) in
          let behind : Contains (behind_passive branch) y = payloads_behind branch y at in
          let mine : Contains (it.label ∷ []) y =
          in_append (payloads it.branch) (it.label ∷ []) y other (λ near. Different-apart (behind_passive branch) (behind_active rest) y apart.1 behind (it.behind y near)) in
          let is_own : y ≡ z = elim (Contains-cases y it.label [] mine) [
            | inl e ↦ e ∙ own it.label (Contains-later it.label label (payloads rest) it.own)
            | inr none ↦ absurd (Contains-none y none)
          ] in
          apart.0 (subst (Contains (behind_passive branch ++ behind_active rest)) is_own (Contains-append_left (behind_passive branch) (behind_active rest) y behind))

  -- ---- these are a proper colouring
  coloured_active : (v : InputView) → IsView a p 2 v → Fits (identified a p N).active (identified a p N).passive v → AreDifferent (shown v) → Has (edge_colouring a p (N ^ p)).active (colours_at v)
  coloured_active leaf view fits apart = absurd view
  coloured_active end view fits apart = let none : 0 ≡ a = length-colours 1 a end view in absurd (omega (arith, none, a_some))
  coloured_active (more back label branch rest) view fits apart =
      let v : InputView = more back label branch rest in
      let colours : List ℕ = colours_at v in
      let own : (y : ℕ) → Contains (payloads v) y → y ≡ label =
      λ y at. alike a p N a_some (payloads v ++ []) y label (Has-around (identified a p N).active (identified a p N).passive a p 1 a [] v view fits)
      (Contains-append_left (payloads v) [] y at) (Contains-append_left (payloads v) [] label (Contains-here label (payloads rest))) in
      let different : AreDifferent colours = colours_differ a label [] v view fits own apart in
      colours_there p a (N ^ p) (sorted colours) (length-sorted colours ∙ length-colours 1 a v view) (
        rising_strictly (sorted colours) (sorted_rises colours) (different_Rearranged (Rearranged-sorted colours) different),
        AllByRecursion-Rearranged (λ c. c < N ^ p) (Rearranged-sorted colours) (colours_below a [] v view fits),
      )

  coloured_passive : (w : InputView) → IsView p a 3 w → Fits (identified a p N).passive (identified a p N).active w → Has (edge_colouring a p (N ^ p)).passive (around_known p 1 colours_at w)
  coloured_passive w view fits =
      let has : Has (identified a p N).passive (payloads w) = subst (Has (identified a p N).passive) (append-nil (payloads w)) (Has-around (identified a p N).passive (identified a p N).active p a 2 p [] w view fits) in
      let colour : ℕ = number (payloads w) in
      let one : around_known p 1 colours_at w ≡ replicate p colour =
      map-count (λ port. at_port (colours_at (known 1 (shift 2 w port))) (at_port (backs w) port)) (λ port. colour) 1 p (λ k l. rw one-add (each k l)) ∙ constant_ports colour 1 p in
      let there : Has (edge_colouring a p (N ^ p)).passive (replicate p colour) =
      subst (Contains (edge_colouring a p (N ^ p)).passive.configs) (sym (sorted_again (replicate p colour) (alike_rise p colour))) (colour_there p a (N ^ p) colour (omega (arith, p_low)) (number_below (payloads w) has)) in
      subst (Has (edge_colouring a p (N ^ p)).passive) (sym one) there
    where
      each : (k : ℕ) → k < p → at_port (colours_at (known 1 (shift 2 w (suc k)))) (at_port (backs w) (suc k)) ≡ number (payloads w)
      each k l = go (child_of p a 2 p w view k l)
        where
          go : (c : Child ℕ) × (child_at k w ≡ Some c) × IsChild a p 2 c → at_port (colours_at (known 1 (shift 2 w (suc k)))) (at_port (backs w) (suc k)) ≡ number (payloads w)
          go (c, at, child) =
              let back : Child ℕ = record { back = suc k; payload = c.payload; branch = cut 1 (others k w) } in
              let room : HasRoom (pred c.back) c.branch = HasRoom-tree a p 1 (pred a) c.branch child.branch (pred c.back) (let l = child.least in let m = child.most in omega arith) in
              let seen : shift 2 w (suc k) ≡ put (pred c.back) back c.branch = shift-at 2 w (suc k) c at in
              let port : at_port (backs w) (suc k) ≡ c.back = backs-child k c w at in
              let there : child_at (pred c.back) (put (pred c.back) back c.branch) ≡ Some back = child_at-put (pred c.back) back c.branch room in
              let colour : get_or (colours_at (put (pred c.back) back c.branch)) (pred c.back) 0 ≡ number (payloads (cut 1 (others k w)) ++ c.payload ∷ []) = colour_at (pred c.back) back (put (pred c.back) back c.branch) there in
              let order : sorted (payloads (others k w) ++ c.payload ∷ []) ≡ sorted (payloads w) = sym (sorted-Rearranged (payloads_parts k c w at)) in
              let ids : sorted (payloads (cut 1 (others k w)) ++ c.payload ∷ []) ≡ sorted (payloads w) = ap (λ ids. sorted (ids ++ c.payload ∷ [])) (payloads-cut 0 (others k w)) ∙ order in
              ap (λ xs. at_port xs (at_port (backs w) (suc k))) (colours_known (shift 2 w (suc k)))
              ∙ (ap (λ v. at_port (colours_at v) (at_port (backs w) (suc k))) seen ∙ (ap (at_port (colours_at (put (pred c.back) back c.branch))) port ∙ (colour ∙ ap (place_of lists) ids)))

-- in one hop active nodes with unique identifiers below N colour the passive nodes with N^p colours
pub edges_coloured : (a p N : ℕ) → 1 ≤ a → 2 ≤ p → SolvableLocal (edge_colouring a p (N ^ p)) N 1
edges_coloured a p N a_some p_low = (
  colours_at a p N a_some p_low,
  record {
    active = λ v view fits apart. rw (colours_known a p N a_some p_low v) (coloured_active a p N a_some p_low v view fits (subst AreDifferent (map-id (shown v)) apart));
    passive = λ w view fits apart. coloured_passive a p N a_some p_low w view fits;
  },
)
