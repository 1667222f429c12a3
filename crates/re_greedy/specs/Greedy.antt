-- Greedy problems: active nodes, one after another in any order, can be labelled, whatever those before them have put out.
use Rattle.std.specs.Prelude.{◌≡◌, ℕ, ◌<◌, ◌==◌, nat_lt, Bool, not, ◌&&◌, ◌||◌, List, [], ◌∷◌, length, filter, map, Contains}
use Rattle.std.specs.List.{AllByRecursion, AllZip, list_all, list_any}
use Rattle.re_labels.specs.Configs.{sorted}
use Rattle.re_labels.specs.Orders.{multisets}
use Rattle.re_labels.specs.Rows.{placed}
use Rattle.re_labels.specs.Lists.{count_from, same_list}
use Rattle.re_problem.specs.Problems.{Problem}
use Rattle.re_labels.specs.Constraints.{Has}
use Rattle.re_labels.specs.GoodRows.{is_allowed}

-- the multisets of the list may stand around a passive node while some of its active nodes have put out their labels and others haven't: none at
-- all may, those of all are passive configurations, and whatever an active node sees around its passive nodes, which still want its
-- label, it can put out an active configuration with which they may stand there again
pub record IsGreedy (problem : Problem) (partial : List (List ℕ)) : Type 0 where
  pub none : Contains partial []
  pub full : (labels : List ℕ) → Contains partial labels → length labels ≡ problem.passive.degree → Contains problem.passive.configs labels
  pub next : (around : List (List ℕ)) → length around ≡ problem.active.degree →
      AllByRecursion (λ seen. Contains partial seen × (length seen < problem.passive.degree)) around →
      (labels : List ℕ) × AllZip (λ label seen. Contains partial (sorted (label ∷ seen))) labels around × Has problem.active labels

-- the labels below n that may join what is seen
abbrev pub joining : ℕ → List (List ℕ) → List ℕ → List ℕ
joining n partial seen = filter (λ label. list_any (same_list (sorted (label ∷ seen))) partial) (count_from 0 n)

-- the multisets of the list that want one more label
abbrev pub wanting : ℕ → List (List ℕ) → List (List ℕ)
wanting degree partial = filter (λ seen. nat_lt (length seen) degree) partial

-- whether the problem is greedy with these multisets
abbrev pub is_greedy : Problem → List (List ℕ) → Bool
is_greedy problem partial =
    list_any (same_list []) partial
    && (list_all (λ labels. not (length labels == problem.passive.degree) || list_any (same_list labels) problem.passive.configs) partial
    && list_all (λ places. is_allowed problem.active (placed (map (joining problem.labels partial) (wanting problem.passive.degree partial)) places))
    (multisets problem.active.degree 0 (length (wanting problem.passive.degree partial))))
