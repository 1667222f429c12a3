-- The last label of a list raised.
use Rattle.std.proofs.Common.{◌≡◌, ℕ, suc, ◌<◌, ◌≤◌, ◌+◌, Bool, true, false, cond, ltb, List, [], ◌∷◌, ◌++◌, Some, refl, sym, ap, ◌∙◌, arith}
use Rattle.std.proofs.lemmas.Bool.Decides.{nat_tests}
use Rattle.re_walks.specs.Walking.{or_raised, raised}

-- raising the last label
pub raised-last : (n : ℕ) (labels : List ℕ) (label : ℕ) → raised n (labels ++ label ∷ []) ≡ cond (ltb (suc label) n) (Some (labels ++ suc label ∷ [])) (raised n labels)
raised-last n [] label = refl
raised-last n (x ∷ labels) label = ap (or_raised n x) (raised-last n labels label) ∙ go (ltb (suc label) n)
  where
    go : (b : Bool) → or_raised n x (cond b (Some (labels ++ suc label ∷ [])) (raised n labels)) ≡ cond b (Some (x ∷ labels ++ suc label ∷ [])) (or_raised n x (raised n labels))
    go true = refl
    go false = refl

pub raised-up : (n label : ℕ) (old back new first : List ℕ) → raised n old ≡ raised n first → old ≡ back ++ label ∷ [] → label + 1 < n → new ≡ back ++ (label + 1) ∷ [] → raised n first ≡ Some new
raised-up n label old back new first so_far popped less pushed =
    let s : label + 1 ≡ suc label = omega arith in
    let lower : ltb (suc label) n ≡ true = (let l : suc label < n = omega (arith, less) in grind (arith, nat_tests)) in
    sym so_far ∙ ap (raised n) popped ∙ raised-last n back label ∙ ap (λ b. cond b (Some (back ++ suc label ∷ [])) (raised n back)) lower ∙ ap Some (sym (pushed ∙ ap (λ x. back ++ x ∷ []) s))

pub raised-on : (n label : ℕ) (old back first : List ℕ) → raised n old ≡ raised n first → old ≡ back ++ label ∷ [] → n ≤ label + 1 → raised n back ≡ raised n first
raised-on n label old back first so_far popped most =
    let higher : ltb (suc label) n ≡ false = (let l : n ≤ suc label = omega (arith, most) in grind (arith, nat_tests)) in
    sym (ap (λ b. cond b (Some (back ++ suc label ∷ [])) (raised n back)) higher) ∙ sym (raised-last n back label) ∙ ap (raised n) (sym popped) ∙ so_far
