-- The place of a name that isn't among the names.
use Rattle.std.proofs.Common.{◌≡◌, ℕ, suc, Bool, true, false, List, [], ◌∷◌, length, refl, ap, subst}
use Rattle.std.specs.Prelude.{Contains, if◌then◌else◌}
use Rattle.re_labels.proofs.Before.{same_list-same}
use Rattle.re_labels.proofs.Membership.{Contains-here, Contains-later}
use Rattle.re_labels.specs.Lists.{place_of, same_list}

pub place_of-past : (lists : List (List ℕ)) (v : List ℕ) → (Contains lists v → ⊥) → place_of lists v ≡ length lists
place_of-past [] v apart = refl
place_of-past (w ∷ lists) v apart = go (same_list w v) refl (place_of-past lists v (λ held. apart (Contains-later v w lists held)))
  where
    go : (b : Bool) → same_list w v ≡ b → place_of lists v ≡ length lists → (if b then 0 else suc (place_of lists v)) ≡ suc (length lists)
    go true same rest = absurd (apart (subst (Contains (w ∷ lists)) (same_list-same w v same) (Contains-here w lists)))
    go false other rest = ap suc rest
