-- What the growth of a prefix tree writes, node by node.
use Rattle.std.proofs.Common.{◌≡◌, ℕ, zero, suc, ◌<◌, ◌≤◌, ◌+◌, ◌-◌, ◌==◌, true, false, eqb, List, [], ◌∷◌, ◌++◌, length, get_or, set, take, refl, sym, ap, ◌∙◌, arith, inl, inr, add-one, add_assoc, append_assoc, length-append}
use Rattle.std.proofs.lemmas.List.{get_or-set_same, get_or-set_other}
use Rattle.std.proofs.lemmas.List.Sums.{count_by_more_no, count_by_more_yes}
use Rattle.std.specs.Prelude.{count_by}
use Rattle.re_labels.proofs.Before.{three_ways}
use Rattle.re_labels.proofs.Tests.{eqb-apart, eqb-same}
use Rattle.re_labels.specs.declared.prefix_tree.Kind.{Kind}
use Rattle.re_labels.specs.declared.prefix_tree.Kind.TheVariants.{Inner, Leaf}
use Rattle.re_labels.specs.declared.prefix_tree.Node.{Node}
use Rattle.re_labels.specs.PrefixTrees.{bare_root, leaves_of, node_at}
use Rattle.re_labels.specs.TreeGrowth.{new_inner, new_inners, with_leaves}

-- ---- the new nodes
pub length-new_inners : (config : List ℕ) (depth parent after start k : ℕ) → length (new_inners config depth parent after start k) ≡ k
length-new_inners config depth parent after start zero = refl
length-new_inners config depth parent after start (suc k) =
    length-append (new_inners config depth parent after start k) (new_inner config depth parent after start k ∷ []) ∙ ap (λ n. n + 1) (length-new_inners config depth parent after start k) ∙ add-one k

pub more_inners : (old items new : List Node) (node : Node) (config : List ℕ) (depth parent after start level : ℕ) → depth ≤ level → items ≡ old ++ new_inners config depth parent after start (level - depth)
    → new ≡ items ++ node ∷ [] → node ≡ new_inner config depth parent after start (level - depth) → new ≡ old ++ new_inners config depth parent after start (level + 1 - depth)
more_inners old items new node config depth parent after start level low before pushed is =
    let step : level + 1 - depth ≡ suc (level - depth) = omega arith in
    pushed ∙ (λ i. before i ++ is i ∷ []) ∙ append_assoc old (new_inners config depth parent after start (level - depth)) (new_inner config depth parent after start (level - depth) ∷ [])
    ∙ ap (λ k. old ++ new_inners config depth parent after start k) (sym step)

-- ---- one leaf more
pub with_leaves-none : (kind : Kind) → with_leaves kind 0 ≡ kind
with_leaves-none (Inner first leaves) = let same : leaves + 0 ≡ leaves = omega arith in ap (Inner first) same
with_leaves-none (Leaf config) = refl

pub with_leaves-more : (kind : Kind) (a b : ℕ) → with_leaves (with_leaves kind a) b ≡ with_leaves kind (a + b)
with_leaves-more (Inner first leaves) a b = ap (Inner first) (add_assoc leaves a b)
with_leaves-more (Leaf config) a b = refl

pub leaves_of-with : (kind : Kind) (more : ℕ) → leaves_of (with_leaves kind more) ≤ leaves_of kind + more
leaves_of-with (Inner first leaves) more = omega arith
leaves_of-with (Leaf config) more = omega arith

-- a place counted at one more node
pub count_more : (nodes new : List Node) (start : ℕ → Kind) (way : List ℕ) (i place : ℕ) (node : Node) → i < length way → place ≡ get_or way i 0 → place < length nodes
    → new ≡ set nodes place node → node.kind ≡ with_leaves (node_at nodes place).kind 1
    → ((q : ℕ) → (node_at nodes q).kind ≡ with_leaves (start q) (count_by (λ p. p == q) (take i way)))
    → (q : ℕ) → (node_at new q).kind ≡ with_leaves (start q) (count_by (λ p. p == q) (take (i + 1) way))
count_more nodes new start way i place node l at within is one so_far q = elim (three_ways place q) [
  | inl less ↦ other (λ e. omega arith) (eqb-apart place q (λ e. omega arith))
  | inr (inl same) ↦
      let read : node_at new q ≡ node = ap (λ n. node_at n q) is ∙ ap (node_at (set nodes place node)) (sym same) ∙ get_or-set_same nodes place node bare_root within in
      let yes : eqb (get_or way i 0) q ≡ true = ap (λ p. eqb p q) (sym at ∙ same) ∙ eqb-same q in
      ap (λ (n : Node). n.kind) read ∙ one ∙ ap (λ p. with_leaves (node_at nodes p).kind 1) same ∙ ap (λ k. with_leaves k 1) (so_far q)
      ∙ with_leaves-more (start q) (count_by (λ p. p == q) (take i way)) 1 ∙ ap (with_leaves (start q)) (sym (count_by_more_yes (λ p. p == q) way i 0 l yes))
  | inr (inr more) ↦ other (λ e. omega arith) (eqb-apart place q (λ e. omega arith))
]
  where
    other : (q ≡ place → ⊥) → eqb place q ≡ false → (node_at new q).kind ≡ with_leaves (start q) (count_by (λ p. p == q) (take (i + 1) way))
    other apart test =
        let read : node_at new q ≡ node_at nodes q = ap (λ n. node_at n q) is ∙ get_or-set_other nodes place q node bare_root apart in
        let not_here : eqb (get_or way i 0) q ≡ false = ap (λ p. eqb p q) (sym at) ∙ test in
        ap (λ (n : Node). n.kind) read ∙ so_far q ∙ ap (with_leaves (start q)) (sym (count_by_more_no (λ p. p == q) way i 0 l not_here))

-- what no change of a node touches
pub same_part : {X : Type 0} (part : Node → X) (nodes : List Node) (place : ℕ) (node : Node) → place < length nodes → part node ≡ part (node_at nodes place)
    → (q : ℕ) → part (node_at (set nodes place node) q) ≡ part (node_at nodes q)
same_part part nodes place node within same q = elim (three_ways q place) [
  | inl less ↦ ap part (get_or-set_other nodes place q node bare_root (λ e. omega arith))
  | inr (inl equal) ↦ ap (λ n. part (node_at (set nodes place node) n)) equal ∙ ap part (get_or-set_same nodes place node bare_root within) ∙ same ∙ ap (λ n. part (node_at nodes n)) (sym equal)
  | inr (inr more) ↦ ap part (get_or-set_other nodes place q node bare_root (λ e. omega arith))
]
