-- Allowed multisets of sets, by rows.
use Rattle.std.proofs.Common.{◌≡◌, ℕ, ◌<◌, List, [], ◌∷◌, length, sym, subst}
use Rattle.std.specs.List.{AllByRecursion}
use Rattle.re_labels.proofs.LawsOfRows.{multisets_law}
use Rattle.re_labels.proofs.Rows.{all_at}
use Rattle.re_labels.specs.Configs.{IsConfig}
use Rattle.re_labels.specs.Orders.{multisets}
use Rattle.re_labels.specs.Rows.{placed}
use Rattle.re_labels.proofs.Membership.{AllByRecursion-from_contains}
use Rattle.re_reference.specs.Reading.{AreSets}

-- sets at places among sets
pub placed_are : (sets : List (List ℕ)) (places : List ℕ) → AreSets sets → AllByRecursion (λ x. x < length sets) places → AreSets (placed sets places)
placed_are sets [] are h = tt
placed_are sets (i ∷ places) are h = (all_at _ sets i are h.0, placed_are sets places are h.1)

pub all_configs : (d k : ℕ) (all : List (List ℕ)) → all ≡ multisets d 0 k → AllByRecursion (IsConfig d k) all
all_configs d k all e = subst (AllByRecursion (IsConfig d k)) (sym e) (AllByRecursion-from_contains (IsConfig d k) (multisets d 0 k) (λ v held. ((multisets_law d k).1 v).0 held))
