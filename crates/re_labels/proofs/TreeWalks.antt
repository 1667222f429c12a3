-- Walks along the children of a node.
use Rattle.std.proofs.Common.{◌≡◌, ℕ, zero, suc, ◌<◌, ◌+◌, ◌-◌, cond, eqb, List, ◌∷◌, length, get_or, sym, ap, ◌∙◌, subst, arith, inl, inr}
use Rattle.std.proofs.lemmas.List.{get_or_read}
use Rattle.re_labels.proofs.Before.{three_ways}
use Rattle.re_labels.proofs.Tests.{eqb-apart}
use Rattle.re_labels.proofs.TreeGrowth.{length-prefix}
use Rattle.re_labels.specs.declared.prefix_tree.Kind.{Kind}
use Rattle.re_labels.specs.declared.prefix_tree.Kind.TheVariants.{Inner, Leaf}
use Rattle.re_labels.specs.declared.prefix_tree.Node.{Node}
use Rattle.re_labels.specs.PrefixTrees.{IsBelow, IsLink, IsTree, bare_root, first_of, node_at}
use Rattle.re_labels.specs.TreeWalks.{IsMissing, IsWalked}

module _ (degree : ℕ) (nodes : List Node) (configs : List (List ℕ)) (key : ℕ → List ℕ) (tree : IsTree degree nodes configs key) where
  pub first_link : (place first : ℕ) → place < length nodes → length (key place) < degree → first ≡ first_of (node_at nodes place).kind → IsLink nodes key (key place) 0 first
  first_link place first l short e = subst (λ t. IsLink nodes key (key place) 0 t) (sym e) (by_kind (node_at nodes place).kind (tree.below place l))
    where
      by_kind : (k : Kind) → IsBelow degree nodes configs key (key place) k → IsLink nodes key (key place) 0 (first_of k)
      by_kind (Inner first leaves) below = below.1
      by_kind (Leaf config) below = absurd (let e : length (key place) ≡ degree = ap length below.1 ∙ length-prefix config degree in omega arith)

  -- a node is a child of the one that it names as its parent
  pub child_there : (near parent : ℕ) → near < length nodes → 0 < near → (node_at nodes near).parent ≡ parent → key near ≡ (node_at nodes near).label ∷ key parent
  child_there near parent l some is = let up = tree.parent near some l in up.2 ∙ ap (λ p. (node_at nodes near).label ∷ key p) (sym up.3 ∙ is)

  pub walk_near : (near parent wanted next : ℕ) → near < length nodes → 0 < near → (node_at nodes near).parent ≡ parent → (node_at nodes near).label < wanted → next ≡ (node_at nodes near).next
      → IsWalked nodes key (key parent) wanted near next
  walk_near near parent wanted next l some is low e =
      let on = child_there near parent l some is in
      record {
        first = λ none. absurd (omega arith);
        behind = λ there. (l, low, on);
        link = λ there. subst (λ t. IsLink nodes key (key parent) ((node_at nodes near).label + 1) t) (sym e) (tree.sibling near (key parent) l on);
      }

  module _ (above : List ℕ) (wanted : ℕ) where
    pub walk_start : (at : ℕ) → IsLink nodes key above 0 at → IsWalked nodes key above wanted 0 at
    walk_start at link = record {
      first = λ none. link;
      behind = λ some. absurd (omega arith);
      link = λ some. absurd (omega arith);
    }

    pub walk_within : (before at : ℕ) → IsWalked nodes key above wanted before at → at < length nodes
    walk_within before at walked = elim (three_ways before 0) [
      | inl less ↦ absurd (omega arith)
      | inr (inl none) ↦ (walked.first none).within
      | inr (inr some) ↦ (walked.link some).within
    ]

    pub walk_at : (before at : ℕ) → IsWalked nodes key above wanted before at → 0 < at → key at ≡ (node_at nodes at).label ∷ above
    walk_at before at walked there = elim (three_ways before 0) [
      | inl less ↦ absurd (omega arith)
      | inr (inl none) ↦ ((walked.first none).child there).1
      | inr (inr some) ↦ ((walked.link some).child there).1
    ]

    pub walk_step : (before at next : ℕ) → IsWalked nodes key above wanted before at → 0 < at → (node_at nodes at).label < wanted → next ≡ (node_at nodes at).next → IsWalked nodes key above wanted at next
    walk_step before at next walked there low e =
        let within = walk_within before at walked in
        let on = walk_at before at walked there in
        record {
          first = λ none. absurd (omega arith);
          behind = λ some. (within, low, on);
          link = λ some. subst (λ t. IsLink nodes key above ((node_at nodes at).label + 1) t) (sym e) (tree.sibling at above within on);
        }

    pub walk_end : (before at : ℕ) → IsWalked nodes key above wanted before at → (0 < at → wanted < (node_at nodes at).label) → IsMissing nodes key above wanted before at
    walk_end before at walked high = record {
      missing = λ q l e. elim (three_ways before 0) [
        | inl less ↦ omega arith
        | inr (inl none) ↦ let near = (walked.first none).nearest q wanted l e (omega arith) in let more = high near.0 in let less = near.1 in omega arith
        | inr (inr some) ↦ let low = (walked.behind some).1 in let near = (walked.link some).nearest q wanted l e (omega arith) in let more = high near.0 in let less = near.1 in omega arith
      ];
      first = λ none q label l e. let near = (walked.first none).nearest q label l e (omega arith) in let more = high near.0 in let less = near.1 in omega arith;
      behind = walked.behind;
      last = λ some q label l e low. elim (three_ways (node_at nodes before).label label) [
        | inl less ↦ absurd (let near = (walked.link some).nearest q label l e (omega arith) in let more = high near.0 in let less = near.1 in omega arith)
        | inr (inl same) ↦ omega arith
        | inr (inr more) ↦ omega arith
      ];
      rest = record {
        within = walk_within before at walked;
        child = λ there. let more = high there in (omega arith, walk_at before at walked there);
        nearest = λ q label l e h. elim (three_ways before 0) [
          | inl less ↦ absurd (omega arith)
          | inr (inl none) ↦ (walked.first none).nearest q label l e (omega arith)
          | inr (inr some) ↦ let low = (walked.behind some).1 in (walked.link some).nearest q label l e (omega arith)
        ];
      };
    }

-- the place where the walk stands, and how far it may still go
pub links_higher : (degree : ℕ) (nodes : List Node) (configs : List (List ℕ)) (key : ℕ → List ℕ) (above : List ℕ) (at : ℕ) → IsTree degree nodes configs key → at < length nodes → key at ≡ (node_at nodes at).label ∷ above
    → 0 < (node_at nodes at).next → (node_at nodes at).label < (node_at nodes (node_at nodes at).next).label
links_higher degree nodes configs key above at tree l e some = let child = ((tree.sibling at above l e).child some).0 in omega arith

-- what was read at a place is the node there
pub read-node : (nodes : List Node) (q : ℕ) (x : Node) → q < length nodes → x ≡ get_or nodes q x → x ≡ node_at nodes q
read-node nodes q x l e = get_or_read nodes q x l e bare_root

pub read-there : (nodes : List Node) (q : ℕ) (x : Node) → q < length nodes → x ≡ get_or nodes q x → get_or nodes q x ≡ node_at nodes q
read-there nodes q x l e = sym e ∙ read-node nodes q x l e

-- a walk has fewer labels before it at the next sibling
pub falls : (at next label after : ℕ) → (at ≡ 0 → ⊥) → label < 256 → (0 < next → label < after) → cond (eqb next 0) 0 (256 - after) < cond (eqb at 0) 0 (256 - label)
falls at next label after some fits higher =
    subst (λ b. cond (eqb next 0) 0 (256 - after) < cond b 0 (256 - label)) (sym (eqb-apart at 0 some)) (by_next next higher)
  where
    by_next : (next : ℕ) → (0 < next → label < after) → cond (eqb next 0) 0 (256 - after) < 256 - label
    by_next zero higher = omega arith
    by_next (suc next) higher =
        let more = higher (omega arith) in
        subst (λ b. cond b 0 (256 - after) < 256 - label) (sym (eqb-apart (suc next) 0 (λ e. omega arith))) (omega arith)
