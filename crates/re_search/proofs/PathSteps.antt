-- The steps of a path, and their entries.
use Rattle.std.proofs.Common.{◌≡◌, ℕ, zero, suc, ◌+◌, ◌<◌, List, [], ◌∷◌, ◌++◌, length, take, get_or, Option, None, Some, refl, sym, ap, ◌∙◌, arith}
use Rattle.re_problem.specs.Steps.{SetEntry}
use Rattle.re_cert.specs.Bounds.{BoundStep}
use Rattle.re_search.specs.Nodes.{entries_of}
use Rattle.re_labels.proofs.Sorting.{take_front}

-- ---- entries
entries-passed : (sets : List (List ℕ)) (images : List (Option ℕ)) (k : ℕ) → k < length images → length images ≡ length sets → get_or images k None ≡ None
    → entries_of (take (k + 1) sets) (take (k + 1) images) ≡ entries_of (take k sets) (take k images)
entries-passed sets images k l e at = let m : k + 1 ≡ suc k = omega arith in ap (λ n. entries_of (take n sets) (take n images)) m ∙ go sets images k l e at
  where
    go : (sets : List (List ℕ)) (images : List (Option ℕ)) (k : ℕ) → k < length images → length images ≡ length sets → get_or images k None ≡ None
        → entries_of (take (suc k) sets) (take (suc k) images) ≡ entries_of (take k sets) (take k images)
    go [] [] k l e at = absurd (omega arith)
    go [] (image ∷ images) k l e at = absurd (omega arith)
    go (set ∷ sets) [] k l e at = absurd (omega arith)
    go (set ∷ sets) (None ∷ images) zero l e at = refl
    go (set ∷ sets) (Some label ∷ images) zero l e at = cc
    go (set ∷ sets) (None ∷ images) (suc k) l e at = go sets images k (omega arith) (omega arith) at
    go (set ∷ sets) (Some label ∷ images) (suc k) l e at = ap (λ rest. record { set = set; label = label } ∷ rest) (go sets images k (omega arith) (omega arith) at)

entries-added : (sets : List (List ℕ)) (images : List (Option ℕ)) (k label : ℕ) (set : List ℕ) → k < length images → length images ≡ length sets → get_or images k None ≡ Some label → set ≡ get_or sets k set
    → entries_of (take (k + 1) sets) (take (k + 1) images) ≡ entries_of (take k sets) (take k images) ++ record { set = set; label = label } ∷ []
entries-added sets images k label set l e at there = let m : k + 1 ≡ suc k = omega arith in ap (λ n. entries_of (take n sets) (take n images)) m ∙ go sets images k l e at there
  where
    go : (sets : List (List ℕ)) (images : List (Option ℕ)) (k : ℕ) → k < length images → length images ≡ length sets → get_or images k None ≡ Some label → set ≡ get_or sets k set
        → entries_of (take (suc k) sets) (take (suc k) images) ≡ entries_of (take k sets) (take k images) ++ record { set = set; label = label } ∷ []
    go [] [] k l e at there = absurd (omega arith)
    go [] (image ∷ images) k l e at there = absurd (omega arith)
    go (s ∷ sets) [] k l e at there = absurd (omega arith)
    go (s ∷ sets) (None ∷ images) zero l e at there = cc
    go (s ∷ sets) (Some x ∷ images) zero l e at there = let same : x ≡ label = cc in (λ i. record { set = sym there i; label = same i } ∷ [])
    go (s ∷ sets) (None ∷ images) (suc k) l e at there = go sets images k (omega arith) (omega arith) at there
    go (s ∷ sets) (Some x ∷ images) (suc k) l e at there = ap (λ rest. record { set = s; label = x } ∷ rest) (go sets images k (omega arith) (omega arith) at there)

pub entries_passed : (sets : List (List ℕ)) (images : List (Option ℕ)) (k : ℕ) (entries : List SetEntry) → k < length images → length images ≡ length sets → get_or images k None ≡ None → entries ≡ entries_of (take k sets) (take k images)
    → entries ≡ entries_of (take (k + 1) sets) (take (k + 1) images)
entries_passed sets images k entries l e at so_far = so_far ∙ sym (entries-passed sets images k l e at)

pub entries_added : (sets : List (List ℕ)) (images : List (Option ℕ)) (k label : ℕ) (set : List ℕ) (entries after : List SetEntry) → k < length images → length images ≡ length sets → get_or images k None ≡ Some label → set ≡ get_or sets k set
    → entries ≡ entries_of (take k sets) (take k images) → after ≡ entries ++ record { set = set; label = label } ∷ [] → after ≡ entries_of (take (k + 1) sets) (take (k + 1) images)
entries_added sets images k label set entries after l e at there so_far push =
    push ∙ ap (λ es. es ++ record { set = set; label = label } ∷ []) so_far ∙ sym (entries-added sets images k label set l e at there)

-- ---- paths
-- behind a walk over a child the path is cut to what it was
pub truncated : (items pushed after cut : List BoundStep) (s : BoundStep) (depth : ℕ) → depth ≡ length items → pushed ≡ items ++ s ∷ [] → after ≡ pushed → cut ≡ take depth after → cut ≡ items
truncated items pushed after cut s depth d push same made =
    made ∙ ap (take depth) (same ∙ push) ∙ ap (λ n. take n (items ++ s ∷ [])) d ∙ take_front items (s ∷ [])
