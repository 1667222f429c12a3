-- The labels that a forest is given solve the problem: the law of labels.
use Rattle.std.proofs.Common.{◌≡◌, ℕ, zero, suc, ◌+◌, ◌*◌, ◌≤◌, ◌<◌, Bool, true, false, leb, List, [], ◌∷◌, ◌++◌, length, map, get_or, sym, ◌∙◌, subst, inl, inr, arith}
use Rattle.std.specs.Prelude.{Contains}
use Rattle.std.proofs.lemmas.Bool.{cases_lt}
use Rattle.std.proofs.lemmas.List.Elements.{Contains-get_or}
use Rattle.re_forests.proofs.Agreed.{agreed, along, at_first, at_last, nil_cases, path_is, raked_is, renewed}
use Rattle.re_forests.proofs.Filled.{one_given_is, port, two_given_is}
use Rattle.re_forests.proofs.Given.{given, given_local, given_new, given_old, highest, length-given, seen}
use Rattle.re_forests.proofs.Paths.{kind_at}
use Rattle.re_forests.proofs.Ports.{Has-Rearranged, at_ports, near_differ}
use Rattle.re_forests.proofs.Walks.{around, around_has, beside, between_has, fixed}
use Rattle.re_forests.proofs.Fills.{Fills, flexible_fills}
use Rattle.re_forests.specs.Flexible.{side}
use Rattle.re_forests.specs.LabelLaws.{LabelsLaw}
use Rattle.re_forests.specs.OnForests.{SolvableOnForests, SolvesOn, label_towards}
use Rattle.re_labels.proofs.Membership.{Contains-filter_cases, Contains-here, map-alike}
use Rattle.re_layers.specs.Layers.{IsLayered, IsPath, upper}
use Rattle.re_layers.specs.Networks.{IsForest, IsLocal, Network}
use Rattle.re_problem.specs.Problems.{IsProblem, Problem}
use Rattle.re_labels.specs.Constraints.{Has, IsConstraint}
use Rattle.re_laws.proofs.Mapping.{count_of}

first_member : (highers near : List ℕ) → ((w : ℕ) → Contains highers w → Contains near w) → 0 < length near → Contains near (get_or (highers ++ near) 0 0)
first_member [] near within some = Contains-get_or near 0 0 some
first_member (u ∷ highers) near within some = within u (Contains-here u highers)

module _ (problem : Problem) (is_problem : IsProblem problem) (set : List ℕ) (l : ℕ) {Paths : Type 0} (fills : Fills problem set l Paths)
    (layer : Network → ℕ → ℕ) (path : Network → ℕ → List ℕ) {a p N M : ℕ} (G : Network) (forest : IsForest a p N G)
    (is : IsLayered G l M (layer G) (path G)) (ways : (v : ℕ) → (path G v ≡ [] → ⊥) → Paths) where
  side_is : (active : Bool) → IsConstraint problem.labels (side problem active)
  side_is true = is_problem.active
  side_is false = is_problem.passive

  abbrev labels_at : ℕ → ℕ → List ℕ
  labels_at n v = given problem set l fills layer path M n G v

  -- the labels of a node with as many neighbours as ports are a configuration
  abbrev IsRight : ℕ → List ℕ → Type 0
  IsRight v labels = length (G.near v) ≡ (side problem (G.active v)).degree → Has (side problem (G.active v)) labels

  raked_right : (n v : ℕ) → path G v ≡ [] → IsRight v (renewed problem set l fills layer path G forest is n v)
  raked_right n v none full =
      let kind : Bool = G.active v in
      let h : ℕ = highest layer G v in
      let z : ℕ = seen (suc (2 * l)) G (labels_at n) v h v in
      let rest : List ℕ = around problem set l fills kind z in
      let has : Has (side problem kind) (fixed problem set l fills z ∷ rest) = around_has problem set l fills kind z in
      let size : length (fixed problem set l fills z ∷ rest) ≡ (side problem kind).degree =
      count_of problem.labels (side problem kind) (fixed problem set l fills z ∷ rest) (side_is kind) has in
      let least = (side_is kind).least in
      let held : Contains (G.near v) h =
      first_member (upper G (layer G) v) (G.near v) (λ w at. (Contains-filter_cases (λ u. leb (layer G v) (layer G u)) (G.near v) w at).0) (omega (arith, full, least)) in
      subst (Has (side problem kind)) (sym (raked_is problem set l fills layer path G forest is n v none))
      (Has-Rearranged (side problem kind) (one_given_is fills.some.0 h (fixed problem set l fills z) rest (G.near v) held (full ∙ sym size)) has)

  path_right : (n : ℕ) (own : List ℕ) (height : ℕ) → IsPath G l (layer G) (path G) own height → (i : ℕ) → i < 2 * l + 1
      → IsRight (get_or own (suc i) 0) (renewed problem set l fills layer path G forest is n (get_or own (suc i) 0))
  path_right n own height on i low full =
      let v : ℕ = get_or own (suc i) 0 in
      let x : ℕ = at_first problem set l fills layer path G forest is n own in
      let y : ℕ = at_last problem set l fills layer path G forest is n own in
      let label : ℕ → ℕ = along problem set l fills layer path G forest is n own in
      let rest : List ℕ = beside problem set l fills (G.active (get_or own 1 0)) x y i in
      let has : Has (side problem (G.active v)) (label i ∷ label (suc i) ∷ rest) =
      subst (λ kind. Has (side problem kind) (label i ∷ label (suc i) ∷ rest)) (kind_at G forest l (layer G) (path G) own height on i low)
      (between_has problem set l fills (G.active (get_or own 1 0)) x y i (omega arith)) in
      let size : length (label i ∷ label (suc i) ∷ rest) ≡ (side problem (G.active v)).degree =
      count_of problem.labels (side problem (G.active v)) (label i ∷ label (suc i) ∷ rest) (side_is (G.active v)) has in
      subst (Has (side problem (G.active v))) (sym (path_is problem set l fills layer path G forest is n own height on i low))
      (Has-Rearranged (side problem (G.active v))
      (two_given_is fills.some.0 (get_or own i 0) (get_or own (suc (suc i)) 0) (label i) (label (suc i)) rest (G.near v)
      (on.before i low) (on.behind i low) (on.apart i low) (full ∙ sym size)) has)

  renewed_right : (n v : ℕ) → IsRight v (renewed problem set l fills layer path G forest is n v)
  renewed_right n v = elim (nil_cases (path G v)) [
    | inl none ↦ raked_right n v none
    | inr some ↦ (let (on, (i, low, e)) = is.paths v some in
        subst (λ u. IsRight u (renewed problem set l fills layer path G forest is n u)) e (path_right n (path G v) (layer G v) on i low))
  ]

  pub right : (n v : ℕ) → M ≤ layer G v + n → IsRight v (labels_at n v)
  right zero v at = let low = is.below v in absurd (omega (arith, low))
  right (suc n) v at = elim (cases_lt (layer G v + n) M) [
    | inl new ↦ subst (IsRight v) (sym (given_new problem set l fills layer path M n G v new)) (renewed_right n v)
    | inr old ↦ subst (IsRight v) (sym (given_old problem set l fills layer path M n G v old)) (right n v old)
  ]

  -- what a passive node is told are its own labels
  told : (w : ℕ) → map (λ v. label_towards G (labels_at M) w v) (G.near w) ≡ labels_at M w
  told w =
      map-alike (λ v. label_towards G (labels_at M) w v) (λ v. get_or (labels_at M w) (port (G.near w) v) 0) (G.near w)
      (λ v held. agreed problem set l fills layer path G forest is ways M v w (forest.both w v held) (omega arith) (omega arith))
      ∙ at_ports (G.near w) (labels_at M w) (near_differ G forest w) (length-given problem set l fills layer path M M G w)

  pub solves : SolvesOn problem G (labels_at M)
  solves = record {
    active = λ v kind full. subst (λ b. Has (side problem b) (labels_at M v)) kind (right M v (omega arith) (subst (λ b. length (G.near v) ≡ (side problem b).degree) (sym kind) full));
    passive = λ w kind full. subst (Has problem.passive) (sym (told w))
        (subst (λ b. Has (side problem b) (labels_at M w)) kind (right M w (omega arith) (subst (λ b. length (G.near w) ≡ (side problem b).degree) (sym kind) full)));
  }

-- labels from layers, where a set fills their paths
pub labels_from : (problem : Problem) (set : List ℕ) (l N M r : ℕ) {Paths : Type 0} (layer : Network → ℕ → ℕ) (path : Network → ℕ → List ℕ) →
    IsProblem problem → Fills problem set l Paths → IsLocal r layer → IsLocal r path →
    ((G : Network) → IsForest problem.active.degree problem.passive.degree N G →
    IsLayered G l M (layer G) (path G) × ((v : ℕ) → (path G v ≡ [] → ⊥) → Paths)) →
    SolvableOnForests problem N (r + suc M * (2 * l + 4))
labels_from problem set l N M r layer path is_problem fills local_layer local_path layered = (
  given problem set l fills layer path M M,
  given_local problem set l fills layer path r local_layer local_path M M,
  λ G forest. (let (is, ways) = layered G forest in solves problem is_problem set l fills layer path G forest is ways),
)

pub labels : LabelsLaw
labels problem set l N M r layer path is_problem flexible local_layer local_path layered =
    labels_from problem set l N M r layer path is_problem (flexible_fills problem set l flexible) local_layer local_path (λ G forest. (layered G forest, λ v some. tt))
