-- Two levels of labels: what trimming leaves of all labels, and what it leaves of those in one part of a core from which and to which paths of labels lead.
use Rattle.std.proofs.Common.{◌≡◌, ℕ, zero, suc, ◌+◌, ◌*◌, ◌≤◌, ◌<◌, Bool, true, false, cond, eqb, List, [], ◌∷◌, map, length, refl, sym, ◌∙◌, ap, ap₂, subst, arith, ◌⊎◌, inl, inr}
use Rattle.std.specs.Prelude.{Contains, not, filter, flat_map, if◌then◌else◌}
use Rattle.std.specs.List.{list_any}
use Rattle.std.proofs.Math.Nat.{div-eq_of_lt, mod-eq_of_lt}
use Rattle.std.proofs.lemmas.Bool.{eq-eqb, false≢true}
use Rattle.std.proofs.lemmas.Bool.Decides.{eqb_tells}
use Rattle.re_forests.proofs.Arms.{arms, arms_cutting, arms_edge, arms_near, is_single}
use Rattle.re_forests.proofs.Bridges.{deep, fine_of, forest_of, inside, lead, mark, plain}
use Rattle.re_forests.proofs.Cores.{ToLeaves, fills_edge}
use Rattle.re_forests.proofs.Cuts.{IsCutting}
use Rattle.re_forests.proofs.EdgeLabels.{label_turned}
use Rattle.re_forests.proofs.Growing.{Around, IsFull, grown, keeps, path_kind}
use Rattle.re_forests.proofs.TrimmedEdges.{Fine, survive, survivors, survivors_part, survivors_trimmed}
use Rattle.re_forests.proofs.TreeWalks.{leads_joined}
use Rattle.re_forests.specs.Flexible.{Leads}
use Rattle.re_forests.specs.OnForests.{SolvesOn}
use Rattle.re_forests.specs.Trimmed.{HasTwoLevels}
use Rattle.re_labels.proofs.Membership.{Contains-count_from, Contains-filter, Contains-filter_cases, Contains-flat_map, Contains-flat_map_cases, Contains-map, Contains-map_cases, Contains-none, any_found, any_true, length-count_from, length-filter_most}
use Rattle.re_labels.specs.Lists.{count_from}
use Rattle.re_layers.specs.Networks.{IsForest, IsLocal, Network}
use Rattle.re_problem.specs.Problems.{IsProblem, Problem}

not_single : (xs : List ℕ) → 2 ≤ length xs → is_single xs ≡ false
not_single [] le = refl
not_single (x ∷ []) le = absurd (omega arith)
not_single (x ∷ y ∷ xs) le = refl

either_kind : (c b : Bool) → (c ≡ b) ⊎ (not c ≡ b)
either_kind true true = inl refl
either_kind true false = inr refl
either_kind false true = inr refl
either_kind false false = inl refl

module _ (problem : Problem) (is : IsProblem problem) (K : Network) (Q : ℕ) (some : 0 < Q) (cutting : IsCutting problem.active.degree problem.passive.degree Q K)
    (S N T : ℕ) (big : grown (suc problem.labels) (suc (suc T + suc (2 * S)) * Q) ≤ N)
    (algorithm : Network → ℕ → List ℕ) (local : IsLocal T algorithm)
    (solves : (G : Network) → IsForest problem.active.degree problem.passive.degree N G → SolvesOn problem G (algorithm G))
    (part : ℕ → Bool) (kept : (v w : ℕ) → Contains (K.near v) w → part v ≡ part w) (leaves : ToLeaves K S)
    (f g : ℕ) (other : Contains (K.near f) g) (apart : part f ≡ false)
    (r r' : ℕ) (rooted : Contains (K.near r) r') (own : part r ≡ true) (around : Around K (IsFull problem.active.degree problem.passive.degree K) problem.labels r) where
  abbrev net : Network
  net = plain problem is K Q some cutting S N T big algorithm local solves

  abbrev on : ℕ → ℕ → ℕ
  on v w = mark problem is K Q some cutting S N T big algorithm local solves v w

  abbrev lowest : List ℕ
  lowest = deep problem is K Q some cutting S N T big algorithm local solves

  cut : IsCutting problem.active.degree problem.passive.degree (suc (suc T + suc (2 * S)) * Q) (arms K Q (suc T) 0 0)
  cut = arms_cutting problem.active.degree problem.passive.degree is.active.least is.passive.least K Q some cutting (suc T) 0 0 (suc T + suc (2 * S)) (omega arith)

  forest : IsForest problem.active.degree problem.passive.degree N net
  forest = forest_of problem is K Q some cutting S N T big algorithm local solves (arms K Q (suc T) 0 0) cut

  edge_arms : (v w : ℕ) → Contains (K.near v) w → Contains ((arms K Q (suc T) 0 0).near v) w
  edge_arms v w held =
      arms_edge problem.active.degree problem.passive.degree is.active.least is.passive.least K Q some cutting (suc T) 0 0 v w held

  edge_net : (v w : ℕ) → Contains (K.near v) w → Contains (net.near v) w
  edge_net v w held =
      fills_edge problem.active.degree problem.passive.degree is.active.least is.passive.least is.active.most is.passive.most (suc problem.labels)
      (arms K Q (suc T) 0 0) (suc (suc T + suc (2 * S)) * Q) (inside problem is K Q some cutting S N T big algorithm local solves 0 some) cut v w (edge_arms v w held)

  on_turned : (v w : ℕ) → Contains (K.near v) w → on v w ≡ on w v
  on_turned v w held = label_turned net (algorithm net) v w (forest.turns v w (edge_net v w held))

  on_lowest : (v w : ℕ) → Contains (K.near v) w → Contains lowest (on v w)
  on_lowest v w held =
      (fine_of problem is K Q some cutting S N T big algorithm local solves (arms K Q (suc T) 0 0) cut v w (edge_arms v w held)).1 w (edge_net v w held)

  -- ---- the labels of the part
  abbrev marks : List ℕ
  marks = flat_map (λ v. cond (part v) (map (λ w. on v w) (K.near v)) []) (count_from 0 Q)

  abbrev core : List ℕ
  core = filter (λ x. list_any (λ y. eqb y x) marks) (count_from 0 problem.labels)

  in_core : (v w : ℕ) → Contains (K.near v) w → part v ≡ true → Contains core (on v w)
  in_core v w held at =
      let low : v < Q = (cutting.below v w held).0 in
      let there : Contains marks (on v w) =
      Contains-flat_map (λ v. cond (part v) (map (λ w. on v w) (K.near v)) []) (count_from 0 Q) v (on v w) (Contains-count_from 0 Q v (omega arith) (omega arith))
      (subst (λ b. Contains (cond b (map (λ w. on v w) (K.near v)) []) (on v w)) (sym at) (Contains-map (λ w. on v w) (K.near v) w held)) in
      Contains-filter (λ x. list_any (λ y. eqb y x) marks) (count_from 0 problem.labels) (on v w)
      (survivors_part problem is problem.labels (count_from 0 problem.labels) (on v w) (on_lowest v w held))
      (any_true (λ y. eqb y (on v w)) marks (on v w) there (eq-eqb (on v w) (on v w) refl))

  of_core : (x : ℕ) → Contains core x → (v : ℕ) × (w : ℕ) × Contains (K.near v) w × (part v ≡ true) × (x ≡ on v w)
  of_core x held =
      let (y, there, test) = any_found (λ y. eqb y x) marks (Contains-filter_cases (λ x. list_any (λ y. eqb y x) marks) (count_from 0 problem.labels) x held).1 in
      let (v, at, among) = Contains-flat_map_cases (λ v. cond (part v) (map (λ w. on v w) (K.near v)) []) (count_from 0 Q) y there in
      by v y (part v) refl among (elim (eqb_tells y x) [ inl (t, e) ↦ sym e | inr (t, e) ↦ absurd (false≢true (sym t ∙ test)) ])
    where
      by : (v y : ℕ) (b : Bool) → part v ≡ b → Contains (cond b (map (λ w. on v w) (K.near v)) []) y → x ≡ y
          → (v : ℕ) × (w : ℕ) × Contains (K.near v) w × (part v ≡ true) × (x ≡ on v w)
      by v y true e among same = let (w, near, at) = Contains-map_cases (λ w. on v w) (K.near v) y among in (v, w, near, e, same ∙ sym at)
      by v y false e among same = absurd (Contains-none y among)

  -- an edge with the label, and its end of a given kind
  oriented : (b : Bool) (x : ℕ) → Contains core x → (u : ℕ) × (v : ℕ) × Contains (K.near u) v × (part v ≡ true) × (K.active v ≡ b) × (x ≡ on v u)
  oriented b x held =
      let (v, w, edge, at, e) = of_core x held in
      elim (either_kind (K.active v) b) [
        | inl k ↦ (w, v, cutting.both v w edge, at, k, e)
        | inr k ↦ (v, w, edge, sym (kept v w edge) ∙ at, cutting.turns v w edge ∙ k, e ∙ on_turned v w edge)
      ]

  ends : (b : Bool) → (c : ℕ) × (d : ℕ) × Contains (K.near d) c × (part c ≡ false) × (part d ≡ false) × (K.active d ≡ b)
  ends b = elim (either_kind (K.active f) b) [
    | inl k ↦ (g, f, other, sym (kept f g other) ∙ apart, apart, k)
    | inr k ↦ (f, g, cutting.both f g other, apart, sym (kept f g other) ∙ apart, cutting.turns f g other ∙ k)
  ]

  flexible : (active : Bool) (x y : ℕ) → Contains core x → Contains core y → Leads problem lowest active (suc (2 * (S + S + (suc T + suc T) + 2))) x y
  flexible active x y first second =
      let (u, v, edge, at, kind, e) = oriented active x first in
      let (u', v', edge', at', kind', e') = oriented active y second in
      let (c, d, link, part_c, part_d, k) = ends (path_kind active (S + S + (suc T + suc T) + 2)) in
      let zero_more : 0 + (S + S + (suc T + suc T) + 2) ≡ S + S + (suc T + suc T) + 2 = omega arith in
      let one_more : 1 + (S + S + (suc T + suc T) + 2) ≡ suc (S + S + (suc T + suc T) + 2) = omega arith in
      let one : Leads problem lowest (K.active v) (0 + (S + S + (suc T + suc T) + 2)) (on v u) (on d c) =
      (lead problem is K Q some cutting S N T big algorithm local solves part kept leaves u v c d 0 edge at link part_c (omega arith)
      (ap₂ path_kind kind zero_more ∙ sym k)).0 in
      let two : Leads problem lowest (K.active d) (1 + (S + S + (suc T + suc T) + 2)) (on d c) (on u' v') =
      (lead problem is K Q some cutting S N T big algorithm local solves part kept leaves u' v' d c 1 edge' at' (cutting.both d c link) part_d (omega arith)
      (ap₂ path_kind kind' one_more ∙ ap not (sym k) ∙ sym (cutting.turns d c link))).1 in
      let one' : Leads problem lowest active (S + S + (suc T + suc T) + 2) x (on d c) =
      subst (λ b. Leads problem lowest b (S + S + (suc T + suc T) + 2) x (on d c)) kind
      (subst (λ m. Leads problem lowest (K.active v) m x (on d c)) zero_more
      (subst (λ z. Leads problem lowest (K.active v) (0 + (S + S + (suc T + suc T) + 2)) z (on d c)) (sym e) one)) in
      let two' : Leads problem lowest (path_kind active (S + S + (suc T + suc T) + 2)) (suc (S + S + (suc T + suc T) + 2)) (on d c) y =
      subst (λ b. Leads problem lowest b (suc (S + S + (suc T + suc T) + 2)) (on d c) y) k
      (subst (λ m. Leads problem lowest (K.active d) m (on d c) y) one_more
      (subst (λ z. Leads problem lowest (K.active d) (1 + (S + S + (suc T + suc T) + 2)) (on d c) z) (on_turned u' v' edge' ∙ sym e') two)) in
      subst (λ m. Leads problem lowest active m x y)
      (let h : S + S + (suc T + suc T) + 2 + suc (S + S + (suc T + suc T) + 2) ≡ suc (2 * (S + S + (suc T + suc T) + 2)) = omega arith in h)
      (leads_joined problem lowest active (S + S + (suc T + suc T) + 2) (suc (S + S + (suc T + suc T) + 2)) x (on d c) y one' two')

  -- ---- the middle of the core
  wide : (b : Bool) → 2 ≤ (if b then problem.active.degree else problem.passive.degree)
  wide true = is.active.least
  wide false = is.passive.least

  keep_full : (v : ℕ) → v < Q → IsFull problem.active.degree problem.passive.degree K v → (net.near v ≡ K.near v) × (net.active v ≡ K.active v)
  keep_full v low full =
      let enough = wide (K.active v) in
      let near : (arms K Q (suc T) 0 0).near v ≡ K.near v =
      arms_near problem.active.degree problem.passive.degree is.active.least is.passive.least K Q some cutting (suc T) 0 0 v low
      (not_single (K.near v) (omega (arith, full, enough))) in
      let kind : (arms K Q (suc T) 0 0).active v ≡ K.active v = ap₂ (λ i v. path_kind (K.active v) i) (div-eq_of_lt low) (mod-eq_of_lt low) in
      let (near', kind') =
      keeps problem.active.degree problem.passive.degree is.active.least is.passive.least is.active.most is.passive.most (suc problem.labels)
      (arms K Q (suc T) 0 0) (suc (suc T + suc (2 * S)) * Q) v (inside problem is K Q some cutting S N T big algorithm local solves 0 some)
      (inside problem is K Q some cutting S N T big algorithm local solves v low)
      (ap length near ∙ full ∙ ap (λ b. if b then problem.active.degree else problem.passive.degree) (sym kind)) in
      (near' ∙ near, kind' ∙ kind)

  fine_core : (v : ℕ) → v < Q → part v ≡ true → IsFull problem.active.degree problem.passive.degree K v
      → Fine problem is N net (algorithm net) forest (solves net forest) core v
  fine_core v low at full =
      let (near, kind) = keep_full v low full in (
        ap length near ∙ full ∙ ap (λ b. if b then problem.active.degree else problem.passive.degree) (sym kind),
        λ w held. in_core v w (subst (λ xs. Contains xs w) near held) at,
      )

  core_around : (n v : ℕ) → v < Q → part v ≡ true → Around K (IsFull problem.active.degree problem.passive.degree K) n v
      → Around net (Fine problem is N net (algorithm net) forest (solves net forest) core) n v
  core_around zero v low at full = fine_core v low at full
  core_around (suc n) v low at all = (
    fine_core v low at all.0,
    λ w held.
        (let edge : Contains (K.near v) w = subst (λ xs. Contains xs w) (keep_full v low all.0).0 held in
        core_around n w (cutting.below v w edge).1 (sym (kept v w edge) ∙ at) (all.1 w edge)),
  )

  few_core : length core ≤ problem.labels
  few_core = let most = length-filter_most (λ x. list_any (λ y. eqb y x) marks) (count_from 0 problem.labels) in omega (arith, most, length-count_from 0 problem.labels)

  few_labels : length (count_from 0 problem.labels) ≤ problem.labels
  few_labels = omega (arith, length-count_from 0 problem.labels)

  part_of : (x : ℕ) → Contains core x → Contains lowest x
  part_of x held = let (v, w, edge, at, e) = of_core x held in subst (λ z. Contains lowest z) (sym e) (on_lowest v w edge)

  pub two_levels : HasTwoLevels problem
  two_levels = record {
    lower = lowest;
    upper = survivors problem problem.labels core;
    l = S + S + (suc T + suc T) + 2;
    lower_trimmed = survivors_trimmed problem is problem.labels (count_from 0 problem.labels) few_labels;
    upper_trimmed = survivors_trimmed problem is problem.labels core few_core;
    flexible = record {
      some = (
        on r r',
        (survive problem is N net (algorithm net) forest (solves net forest) problem.labels core r (core_around problem.labels r (cutting.below r r' rooted).0 own around)).1 r'
            (edge_net r r' rooted),
      );
      part = λ x held. part_of x (survivors_part problem is problem.labels core x held);
      leads = λ active x y first second. flexible active x y (survivors_part problem is problem.labels core x first) (survivors_part problem is problem.labels core y second);
    };
  }
