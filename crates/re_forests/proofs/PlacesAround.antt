-- Views of the places of a forest: what the neighbours of a full passive node put on their edges to it is what stands around its view.
use Rattle.std.proofs.Common.{◌≡◌, ℕ, suc, ◌<◌, Bool, true, false, not, List, length, map, get_or, sym, ◌∙◌, ap, subst, arith, one-add}
use Rattle.std.specs.Prelude.{if◌then◌else◌}
use Rattle.re_forests.specs.OnForests.{label_towards}
use Rattle.re_forests.proofs.Filled.{port}
use Rattle.re_forests.proofs.Places.{IsGood, IsPorted-places, Place, back_real, next_real, places, real}
use Rattle.re_forests.proofs.Views.{IsView-view, Ported, child, child_at-view, shift-view, view}
use Rattle.re_labels.specs.Lists.{count_from}
use Rattle.re_laws.proofs.Ports.{map-at_port, map-count}
use Rattle.re_laws.specs.Algorithms.{at_port}
use Rattle.re_layers.specs.Networks.{IsForest, Network}
use Rattle.re_laws.proofs.JoinedBranches.{backs-child}
use Rattle.re_laws.specs.Trees.{IsView, Tree, backs, shift}

module _ {E : Type 0} (a p N : ℕ) (colour : Place → E) (G : Network) (forest : IsForest a p N G) (some_active : 0 < a) (some_passive : 0 < p) where
  abbrev graph : Ported Place E
  graph = places a p colour G

  pub active_view : (t v : ℕ) → G.active v ≡ true → IsView a p t (view (places a p colour G) t (real v))
  active_view t v is =
      subst (λ (b : Bool). IsView (if b then a else p) (if not b then a else p) t (view (places a p colour G) t (real v))) is
      (IsView-view (places a p colour G) (IsGood a p G) (IsPorted-places a p N colour G forest some_active some_passive) t (real v) tt)

  pub passive_view : (t v : ℕ) → G.active v ≡ false → IsView p a t (view (places a p colour G) t (real v))
  passive_view t v is =
      subst (λ (b : Bool). IsView (if b then a else p) (if not b then a else p) t (view (places a p colour G) t (real v))) is
      (IsView-view (places a p colour G) (IsGood a p G) (IsPorted-places a p N colour G forest some_active some_passive) t (real v) tt)

  -- what the algorithm puts on the edges of a full passive node
  pub labels_around : (t : ℕ) (algorithm : Tree E → List ℕ) (w : ℕ) → G.active w ≡ false → length (G.near w) ≡ p
      → map (λ port. at_port (algorithm (shift t (view (places a p colour G) (suc t) (real w)) port)) (at_port (backs (view (places a p colour G) (suc t) (real w))) port)) (count_from 1 p)
      ≡ map (λ v. label_towards G (λ v. algorithm (view (places a p colour G) t (real v))) w v) (G.near w)
  labels_around t algorithm w passive count =
      map-count (λ port. at_port (algorithm (shift t seen port)) (at_port (backs seen) port)) (λ port. label_towards G labels w (at_port (G.near w) port)) 1 p (λ k l. rw one-add (each k l))
      ∙ map-at_port (λ v. label_towards G labels w v) (G.near w) p count
    where
      seen : Tree E
      seen = view (places a p colour G) (suc t) (real w)

      labels : ℕ → List ℕ
      labels v = algorithm (view (places a p colour G) t (real v))

      each : (k : ℕ) → k < p → at_port (algorithm (shift t seen (suc k))) (at_port (backs seen) (suc k)) ≡ label_towards G labels w (at_port (G.near w) (suc k))
      each k l =
          let low : k < length (G.near w) = omega arith in
          let less : k < (if G.active w then a else p) = subst (λ (b : Bool). k < (if b then a else p)) (sym passive) l in
          let there : shift t seen (suc k) ≡ view (places a p colour G) t (real (get_or (G.near w) k 0)) =
          shift-view (places a p colour G) (IsGood a p G) (IsPorted-places a p N colour G forest some_active some_passive) t (real w) k tt less
          ∙ ap (view (places a p colour G) t) (next_real G w k low) in
          let back : get_or (backs seen) k 0 ≡ suc (port (G.near (get_or (G.near w) k 0)) w) =
          backs-child k (child (places a p colour G) (λ y. view (places a p colour G) t y) (real w) k) seen (child_at-view (places a p colour G) t (real w) k less)
          ∙ ap suc (back_real G w k low) in
          ap (λ x. at_port (algorithm x) (get_or (backs seen) k 0)) there ∙ ap (λ q. at_port (labels (get_or (G.near w) k 0)) q) back
