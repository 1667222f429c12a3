-- What the steps of `pad` do to lists of children.
use Rattle.std.proofs.Common.{◌≡◌, ℕ, zero, suc, pred, ◌+◌, ◌-◌, ◌≤◌, List, [], ◌∷◌, ◌++◌, refl, sym, ap, ◌∙◌, arith, add-one}
use Rattle.re_laws.specs.declared.Branch.{Branch}
use Rattle.re_laws.specs.declared.Child.{Child}
use Rattle.re_laws.proofs.ShownLemmas.{after, tree_of_children-append}
use Rattle.re_laws.specs.Shown.{tree_of_branch, tree_of_children}
use Rattle.re_laws.specs.Trees.{Tree, copies, end, full, more}

copies-suc : {E : Type 0} (n : ℕ) (fill : E) (branch : Tree E) → after (copies n fill branch) (more 1 fill branch end) ≡ copies (suc n) fill branch
copies-suc zero fill branch = refl
copies-suc (suc n) fill branch = ap (more 1 fill branch) (copies-suc n fill branch)

-- one more equal child
pub copies_more : {E : Type 0} (n : ℕ) (fill : E) (x : Tree E) (kept : List (Child E)) (branch : Branch E) → tree_of_children kept ≡ copies n fill x → tree_of_branch branch ≡ x → tree_of_children (kept ++ record { back = 1; payload = fill; branch = branch } ∷ []) ≡ copies (n + 1) fill x
copies_more {E} n fill x kept branch so_far here =
    let one : Child E = record { back = 1; payload = fill; branch = branch } in
    tree_of_children-append kept (one ∷ []) ∙ (ap (λ y. after y (more 1 fill (tree_of_branch branch) end)) so_far ∙ (ap (λ y. after (copies n fill x) (more 1 fill y end)) here ∙ (copies-suc n fill x ∙ ap (λ m. copies m fill x) (sym (add-one n)))))

-- as many equal children as ports are a full list
pub copies_all : {E : Type 0} (d e depth n i : ℕ) (fill : E) → 1 ≤ depth → i ≡ n → copies i fill (full e d (depth - 1) (pred e) fill) ≡ full d e depth n fill
copies_all d e zero n i fill some all = absurd (omega arith)
copies_all d e (suc t) n i fill some all =
    let less : suc t - 1 ≡ t = omega arith in
    ap (λ m. copies i fill (full e d m (pred e) fill)) less ∙ ap (λ m. copies m fill (full e d t (pred e) fill)) all
