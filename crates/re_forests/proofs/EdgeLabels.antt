-- The labels of the edges of a solved network, and what stands around its full nodes.
use Rattle.std.proofs.Common.{◌≡◌, ℕ, Bool, true, false, List, [], ◌∷◌, map, length, refl, sym, ◌∙◌, ap, subst, inl, inr}
use Rattle.std.specs.Prelude.{Contains, not, if◌then◌else◌}
use Rattle.std.specs.List.{AllByRecursion}
use Rattle.re_labels.proofs.Rearranging.{Rearranged-map, Rearranged-refl}
use Rattle.re_labels.specs.Rearranging.{Rearranged, chained, kept, swapped}
use Rattle.re_forests.proofs.Growing.{IsFull}
use Rattle.re_forests.proofs.Ports.{Has-Rearranged, at_ports, near_differ}
use Rattle.re_forests.specs.Flexible.{Joins, side}
use Rattle.re_forests.specs.OnForests.{SolvesOn, label_towards}
use Rattle.re_labels.proofs.Membership.{Contains-map_cases, AllByRecursion-from_contains, Contains-cases, Contains-here, Contains-later, Contains-none}
use Rattle.re_layers.specs.Networks.{IsForest, Network}
use Rattle.re_problem.specs.Problems.{IsProblem, Problem}
use Rattle.re_labels.specs.Constraints.{Has}
use Rattle.re_laws.proofs.Mapping.{count_of}

-- the label on the edge of v and w, which its active node puts there
abbrev pub label_on : Network → (ℕ → List ℕ) → ℕ → ℕ → ℕ
label_on G labels v w = if G.active v then label_towards G labels w v else label_towards G labels v w

pub label_turned : (G : Network) (labels : ℕ → List ℕ) (v w : ℕ) → G.active w ≡ not (G.active v) → label_on G labels v w ≡ label_on G labels w v
label_turned G labels v w kinds =
    by (G.active v) ∙ sym (ap (λ b. if b then label_towards G labels v w else label_towards G labels w v) kinds)
  where
    by : (b : Bool) → (if b then label_towards G labels w v else label_towards G labels v w) ≡ (if not b then label_towards G labels v w else label_towards G labels w v)
    by true = refl
    by false = refl

-- one of a list in front
pub picked : (xs : List ℕ) (x : ℕ) → Contains xs x
    → (rest : List ℕ) × Rearranged xs (x ∷ rest) × ((y : ℕ) → Contains rest y → Contains xs y) × ((y : ℕ) → Contains xs y → (y ≡ x → ⊥) → Contains rest y)
picked [] x held = absurd (Contains-none x held)
picked (z ∷ xs) x held = elim (Contains-cases x z xs held) [
  | inl e ↦ (
    xs,
    subst (λ w. Rearranged (z ∷ xs) (w ∷ xs)) (sym e) (Rearranged-refl (z ∷ xs)),
    λ y at. Contains-later y z xs at,
    λ y at ne. elim (Contains-cases y z xs at) [ inl f ↦ absurd (ne (f ∙ sym e)) | inr there ↦ there ],
  )
  | inr there ↦
      let (rest, moved, of, to) = picked xs x there in (
        z ∷ rest,
        chained (kept moved) swapped,
        λ y at. elim (Contains-cases y z rest at) [
          | inl f ↦ subst (λ w. Contains (z ∷ xs) w) (sym f) (Contains-here z xs)
          | inr later ↦ Contains-later y z xs (of y later)
        ],
        λ y at ne. elim (Contains-cases y z xs at) [
          | inl f ↦ subst (λ w. Contains (z ∷ rest) w) (sym f) (Contains-here z rest)
          | inr later ↦ Contains-later y z rest (to y later ne)
        ],
      )
]

all_map : (f : ℕ → ℕ) (set xs : List ℕ) → ((x : ℕ) → Contains xs x → Contains set (f x)) → AllByRecursion (λ z. Contains set z) (map f xs)
all_map f set xs each =
    AllByRecursion-from_contains (λ z. Contains set z) (map f xs)
    (λ y held. (let (x, at, e) = Contains-map_cases f xs y held in subst (λ z. Contains set z) e (each x at)))

module _ (problem : Problem) (N : ℕ) (G : Network) (labels : ℕ → List ℕ) (is : IsProblem problem)
    (forest : IsForest problem.active.degree problem.passive.degree N G) (solves : SolvesOn problem G labels) where
  pub Has_around : (v : ℕ) → IsFull problem.active.degree problem.passive.degree G v → Has (side problem (G.active v)) (map (λ w. label_on G labels v w) (G.near v))
  Has_around v full = by (G.active v) refl
    where
      by : (b : Bool) → G.active v ≡ b → Has (side problem b) (map (λ w. label_on G labels v w) (G.near v))
      by true e =
          let count : length (G.near v) ≡ problem.active.degree = full ∙ ap (λ b. if b then problem.active.degree else problem.passive.degree) e in
          let has : Has problem.active (labels v) = solves.active v e count in
          let all : map (λ w. label_towards G labels w v) (G.near v) ≡ labels v =
          at_ports (G.near v) (labels v) (near_differ G forest v) (count_of problem.labels problem.active (labels v) is.active has ∙ sym count) in
          subst (λ b. Has problem.active (map (λ w. if b then label_towards G labels w v else label_towards G labels v w) (G.near v))) (sym e)
          (subst (λ l. Has problem.active l) (sym all) has)
      by false e =
          let count : length (G.near v) ≡ problem.passive.degree = full ∙ ap (λ b. if b then problem.active.degree else problem.passive.degree) e in
          subst (λ b. Has problem.passive (map (λ w. if b then label_towards G labels w v else label_towards G labels v w) (G.near v))) (sym e) (solves.passive v e count)

  -- two edges of a full node all of whose labels are of a set
  pub joins_around : (set : List ℕ) (v u w : ℕ) → IsFull problem.active.degree problem.passive.degree G v
      → ((z : ℕ) → Contains (G.near v) z → Contains set (label_on G labels v z)) → Contains (G.near v) u → Contains (G.near v) w → (w ≡ u → ⊥)
      → Joins (side problem (G.active v)) set (label_on G labels v u) (label_on G labels v w)
  joins_around set v u w full all first second ne =
      let f : ℕ → ℕ = λ z. label_on G labels v z in
      let (rest, moved, of, to) = picked (G.near v) u first in
      let (last, moved', of', to') = picked rest w (to w second ne) in (
        map f last,
        all_map f set last (λ z at. all z (of z (of' z at))),
        Has-Rearranged (side problem (G.active v)) (Rearranged-map f (chained moved (kept moved'))) (Has_around v full),
      )

  -- one edge in front
  pub Has_first : (v u : ℕ) → IsFull problem.active.degree problem.passive.degree G v → Contains (G.near v) u
      → (rest : List ℕ) × Has (side problem (G.active v)) (label_on G labels v u ∷ rest)
      × ((set : List ℕ) → ((z : ℕ) → Contains (G.near v) z → Contains set (label_on G labels v z)) → AllByRecursion (λ z. Contains set z) rest)
  Has_first v u full first =
      let f : ℕ → ℕ = λ z. label_on G labels v z in
      let (rest, moved, of, to) = picked (G.near v) u first in (
        map f rest,
        Has-Rearranged (side problem (G.active v)) (Rearranged-map f moved) (Has_around v full),
        λ set all. all_map f set rest (λ z at. all z (of z at)),
      )
