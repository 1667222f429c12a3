-- What the number and the place of a view mean.
use Rattle.std.specs.Prelude.{◌≡◌, ℕ, suc, ◌<◌, ◌≤◌, length, slice_index_or}
use Rattle.re_laws.specs.AllViews.{all_views}
use Rattle.re_laws.specs.Trees.{Tree, IsView, leaf}
use Rattle.re_algo.specs.Counting.{view_place}

-- a view stands at its place of the list of all views, and the view at a place has this place
abbrev pub PlaceLaw : Type 0
PlaceLaw = (d e radius : ℕ) →
    ((v : Tree (Unit {0})) → IsView d e radius v → (view_place d e v < length (all_views d e radius)) × (slice_index_or (all_views d e radius) (view_place d e v) leaf ≡ v))
    × ((k : ℕ) → k < length (all_views d e radius) → view_place d e (slice_index_or (all_views d e radius) k leaf) ≡ k)

-- a node never has more views than its neighbours have of a radius greater by one
abbrev pub FewerViewsLaw : Type 0
FewerViewsLaw = (d e radius : ℕ) → 2 ≤ d → 2 ≤ e → length (all_views e d radius) ≤ length (all_views d e (suc radius))
