-- What may stand around passive nodes, step by step: what joins it, what is hard to answer, what a search finds.
use Rattle.std.specs.Prelude.{◌≡◌, ℕ, ◌<◌, ◌≤◌, ◌↔◌, List, [], ◌∷◌, ◌++◌, length, Contains, MatchOption, Option, slice_index_or}
use Rattle.std.specs.List.{AllByRecursion, AllZip, remove}
use Rattle.re_greedy.specs.Greedy.{wanting}
use Rattle.re_labels.specs.Configs.{sorted}
use Rattle.re_labels.specs.Sets.{IsIn, IsWithin}
use Rattle.re_problem.specs.Problems.{Problem}
use Rattle.re_labels.specs.Constraints.{Constraint, Has}

-- the label with which the second multiset is the first one, or none where none is
abbrev pub IsExtra : List ℕ → List ℕ → Option ℕ → Type 0
IsExtra whole seen answer = MatchOption answer ((x : ℕ) → sorted (x ∷ seen) ≡ whole → ⊥) (λ x. sorted (x ∷ seen) ≡ whole)

-- the labels with which what is seen is in the list
abbrev pub AreJoining : List (List ℕ) → List ℕ → List ℕ → Type 0
AreJoining partial seen labels = (x : ℕ) → IsIn x labels ↔ Contains partial (sorted (x ∷ seen))

-- some set lies within the set
abbrev pub IsCovered : List (List ℕ) → List ℕ → Type 0
IsCovered sets set = (i : ℕ) × (i < length sets) × IsWithin (slice_index_or sets i []) set

-- some multisets of the list that want one more label, no more than the part has of them, each with the labels that may join it; what may join another one of the
-- part holds what may join one of these
pub record AreHardest (degree : ℕ) (partial part chosen joining : List (List ℕ)) : Type 0 where
  pub alike : length joining ≡ length chosen
  pub few : length chosen ≤ length (wanting degree part)
  pub each : (i : ℕ) → i < length chosen →
      Contains partial (slice_index_or chosen i []) × (length (slice_index_or chosen i []) < degree) × AreJoining partial (slice_index_or chosen i []) (slice_index_or joining i [])
  pub hardest : (seen : List ℕ) → Contains part seen → length seen < degree →
      (i : ℕ) × (i < length chosen) × ((x : ℕ) → IsIn x (slice_index_or joining i []) → Contains partial (sorted (x ∷ seen)))

-- what an active node may see around its passive nodes, and can't answer
pub record IsStuck (problem : Problem) (partial around : List (List ℕ)) : Type 0 where
  pub count : length around ≡ problem.active.degree
  pub each : AllByRecursion (λ seen. Contains partial seen × (length seen < problem.passive.degree)) around
  pub none : (labels : List ℕ) → AllZip (λ label seen. Contains partial (sorted (label ∷ seen))) labels around → Has problem.active labels → ⊥

-- what it may see it can answer
abbrev pub IsAnswered : Problem → List (List ℕ) → Type 0
IsAnswered problem partial = (around : List (List ℕ)) → length around ≡ problem.active.degree →
    AllByRecursion (λ seen. Contains partial seen × (length seen < problem.passive.degree)) around →
    (labels : List ℕ) × AllZip (λ label seen. Contains partial (sorted (label ∷ seen))) labels around × Has problem.active labels

-- each multiset of the first list is in the second one
abbrev pub IsPart : List (List ℕ) → List (List ℕ) → Type 0
IsPart some all = (labels : List ℕ) → Contains some labels → Contains all labels

-- the passive configurations, and all that is left of them when labels are taken away
pub record IsUniverse (passive : Constraint) (all : List (List ℕ)) : Type 0 where
  pub whole : IsPart passive.configs all
  pub closed : (labels : List ℕ) (i : ℕ) → Contains all labels → i < length labels → Contains all (sorted (remove labels i))
  pub full : (labels : List ℕ) → Contains all labels → length labels ≡ passive.degree → Contains passive.configs labels

-- behind a list of multisets, those that are left of one when the label at one of the first k places is taken away, where they aren't there
pub record AreAdded (degree : ℕ) (before : List (List ℕ)) (labels : List ℕ) (k : ℕ) (after : List (List ℕ)) : Type 0 where
  pub more : (new : List (List ℕ)) × (after ≡ before ++ new) × ((fewer : List ℕ) → Contains new fewer → length fewer < degree)
  pub parts : (i : ℕ) → i < k → Contains after (sorted (remove labels i))

-- the passive configurations, and all that is left of the first k of the list when a label is taken away
pub record IsUniverseTo (passive : Constraint) (all : List (List ℕ)) (k : ℕ) : Type 0 where
  pub whole : IsPart passive.configs all
  pub closed : (j : ℕ) (i : ℕ) → j < k → j < length all → i < length (slice_index_or all j []) → Contains all (sorted (remove (slice_index_or all j []) i))
  pub few : (labels : List ℕ) → Contains all labels → length labels ≤ passive.degree
  pub full : (labels : List ℕ) → Contains all labels → length labels ≡ passive.degree → Contains passive.configs labels

-- where the multiset is as large as a passive configuration, it is one
abbrev pub IsRight : Constraint → List ℕ → Type 0
IsRight passive labels = length labels ≡ passive.degree → Contains passive.configs labels

-- a multiset of the list that isn't so, or that all are
abbrev pub IsFirstWrong : Constraint → List (List ℕ) → Option (List ℕ) → Type 0
IsFirstWrong passive partial answer = MatchOption answer ((labels : List ℕ) → Contains partial labels → IsRight passive labels)
    (λ labels. Contains partial labels × (IsRight passive labels → ⊥))
