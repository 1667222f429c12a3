-- An algorithm for forests below N runs on each tree with N colours that differ within what is seen: they take the place of identifiers.
use Rattle.std.proofs.Common.{◌≡◌, ℕ, suc, ◌+◌, ◌*◌, List, map, length, get_or, refl, sym, ap₂, ◌∙◌, subst, inl, inr, arith}
use Rattle.std.specs.Prelude.{Contains}
use Rattle.std.proofs.lemmas.Bool.Decides.{eqb_tells}
use Rattle.std.proofs.lemmas.List.{length-map}
use Rattle.re_labels.proofs.Rearranging.{Rearranged-map, Rearranged-sym, length-Rearranged}
use Rattle.re_labels.specs.Rearranging.{Rearranged}
use Rattle.re_forests.proofs.Filled.{port}
use Rattle.re_forests.proofs.Ports.{Has-Rearranged, at_ports}
use Rattle.re_laws.proofs.Mapping.{count_of as length-Has}
use Rattle.re_forests.specs.OnForests.{SolvesOn, label_towards}
use Rattle.re_gap.proofs.Members.{at_port}
use Rattle.re_gap.proofs.Renamed.{IsOneToOne, IsSeenIn, marked_same, near_apart, near_whole, one_to_one, renamed, renamed_alike, renamed_forest, same_around}
use Rattle.re_gap.proofs.Trees.{IsTree}
use Rattle.re_layers.proofs.Balls.{ball_back, ball_before, ball_join, ball_more, ball_most, ball_near, ball_own}
use Rattle.re_layers.proofs.Locality.{same_less}
use Rattle.re_labels.proofs.Membership.{map-alike}
use Rattle.re_layers.specs.Layers.{IsColoured}
use Rattle.re_layers.specs.Networks.{IsForest, IsLocal, Network, ball}
use Rattle.re_problem.proofs.StepLaws.{map-map}
use Rattle.re_problem.specs.Problems.{IsProblem, Problem}
use Rattle.re_labels.specs.Constraints.{Has}

-- how far colours differ
abbrev pub far : ℕ → ℕ
far T = 2 * T + 4

module _ (N T : ℕ) (algorithm : Network → ℕ → List ℕ) where
  -- what is seen around v, renamed
  abbrev pub view : Network → (ℕ → ℕ) → ℕ → Network
  view G colour v = renamed N G colour (ball G (suc (suc T)) v)

  -- the label that v puts on its edge to w
  pub put : Network → (ℕ → ℕ) → ℕ → ℕ → ℕ
  put G colour v w = label_towards (view G colour v) (algorithm (view G colour v)) (colour w) (colour v)

  pub put_is : (G : Network) (colour : ℕ → ℕ) (v w : ℕ)
      → put G colour v w ≡ label_towards (view G colour v) (algorithm (view G colour v)) (colour w) (colour v)
  unfolding put
  put_is G colour v w = refl

  abbrev pub run : Network → (ℕ → ℕ) → ℕ → List ℕ
  run G colour v = map (put G colour v) (G.near v)

  -- what is seen to be the same is labelled the same
  pub put_same : IsLocal T algorithm → (G H : Network) (colour tint : ℕ → ℕ) (v w x y : ℕ)
      → IsSeenIn G colour (ball G (suc (suc T)) v) H tint (ball H (suc (suc T)) x)
      → IsSeenIn H tint (ball H (suc (suc T)) x) G colour (ball G (suc (suc T)) v)
      → colour v ≡ tint x → colour w ≡ tint y → put G colour v w ≡ put H tint x y
  unfolding put
  put_same local G H colour tint v w x y there back own other =
      ap₂ (λ c e. label_towards (view G colour v) (algorithm (view G colour v)) e c) own other
      ∙ ap₂ (λ labels near. get_or labels (port near (tint y)) 0)
      (local (view G colour v) (view H tint x) (tint x) (renamed_alike N there back T (tint x)))
      (renamed_alike N there back 1 (tint x)).1

  module _ {problem : Problem} (is : IsProblem problem) (local : IsLocal T algorithm)
      (solves : (G : Network) → IsForest problem.active.degree problem.passive.degree N G → SolvesOn problem G (algorithm G))
      {G : Network} (tree : IsTree problem.active.degree problem.passive.degree G) {colour : ℕ → ℕ}
      (coloured : IsColoured (far T) N G colour) where
    one_around : (v : ℕ) → IsOneToOne colour (ball G (suc (suc T)) v)
    one_around v = one_to_one colour (ball G (suc (suc T)) v) (λ x y at there same. elim (eqb_tells x y) [
      | inl t ↦ t.1
      | inr t ↦ absurd (coloured.apart x y
          (ball_most G (suc (suc T) + suc (suc T)) (far T) x y (omega arith)
          (ball_join G (suc (suc T)) (suc (suc T)) x v y (ball_back G tree.both (suc (suc T)) v x at) there)) t.1 same)
    ])

    -- a neighbour sees what v puts out
    put_seen : (w v u : ℕ) → Contains (G.near w) v
        → label_towards (view G colour w) (algorithm (view G colour w)) (colour u) (colour v) ≡ put G colour v u
    unfolding put
    put_seen w v u on =
        let same = same_around N G colour (ball G (suc (suc T)) w) (ball G (suc (suc T)) v) (one_around w)
        (one_around v) coloured.below (suc T) v
        (λ x at. (ball_before G (suc T) w v x on at, ball_more G (suc T) v x at)) in
        ap₂ (λ labels near. get_or labels (port near (colour u)) 0)
        (local (view G colour w) (view G colour v) (colour v) (same_less (view G colour w) (view G colour v) T (colour v) same)) same.1

    whole : (v : ℕ) → Rearranged (map colour (G.near v)) ((view G colour v).near (colour v))
    whole v =
        near_whole N G colour (ball G (suc (suc T)) v) coloured.below (one_around v) v (ball_own G (suc (suc T)) v) (tree.differ v)
        (λ y on. ball_near G (suc T) v y on)

    counted : (v n : ℕ) → length (G.near v) ≡ n → length ((view G colour v).near (colour v)) ≡ n
    counted v n count = sym (length-Rearranged (whole v)) ∙ (length-map (G.near v) colour ∙ count)

    solved : (v : ℕ) → SolvesOn problem (view G colour v) (algorithm (view G colour v))
    solved v = solves (view G colour v) (renamed_forest N G colour (ball G (suc (suc T)) v) coloured.below (one_around v) tree)

    pub run_solves : SolvesOn problem G (run G colour)
    unfolding put
    run_solves = record {
      active = λ v kind count.
          let near : List ℕ = (view G colour v).near (colour v) in
          let labels : List ℕ = algorithm (view G colour v) (colour v) in
          let f : ℕ → ℕ = λ c. get_or labels (port near c) 0 in
          let size : length near ≡ problem.active.degree = counted v problem.active.degree count in
          let has : Has problem.active labels =
          (solved v).active (colour v)
          (marked_same N G colour (ball G (suc (suc T)) v) coloured.below (one_around v) v (ball_own G (suc (suc T)) v) ∙ kind) size in
          let all : map f near ≡ labels =
          at_ports near labels (near_apart N G colour (ball G (suc (suc T)) v) coloured.below (one_around v) (colour v))
          (length-Has problem.labels problem.active labels is.active has ∙ sym size) in
          subst (Has problem.active) (map-map f colour (G.near v))
          (Has-Rearranged problem.active (Rearranged-map f (Rearranged-sym (whole v))) (subst (Has problem.active) (sym all) has));
      passive = λ w kind count.
          let near : List ℕ = (view G colour w).near (colour w) in
          let f : ℕ → ℕ = λ c. label_towards (view G colour w) (algorithm (view G colour w)) (colour w) c in
          let has : Has problem.passive (map f near) =
          (solved w).passive (colour w)
          (marked_same N G colour (ball G (suc (suc T)) w) coloured.below (one_around w) w (ball_own G (suc (suc T)) w) ∙ kind)
          (counted w problem.passive.degree count) in
          let each : map (λ v. f (colour v)) (G.near w) ≡ map (λ v. label_towards G (run G colour) w v) (G.near w) =
          map-alike (λ v. f (colour v)) (λ v. label_towards G (run G colour) w v) (G.near w)
          (λ v on. put_seen w v w on ∙ sym (at_port (put G colour v) (G.near v) w (tree.differ v) (tree.both w v on))) in
          subst (Has problem.passive) (map-map f colour (G.near w) ∙ each)
          (Has-Rearranged problem.passive (Rearranged-map f (Rearranged-sym (whole w))) has);
    }
