-- What a search in a list finds, and the back ports that links show.
use Rattle.std.proofs.Common.{inl, inr, ◌≡◌, ◌++◌, ℕ, zero, suc, ◌<◌, List, [], ◌∷◌, length, get_or, map, refl, sym, ap, ◌∙◌, arith, Some, true, false, Bool, cond}
use Rattle.std.specs.Prelude.{◌&&◌, find, if◌then◌else◌, nat_le, unwrap_or, None}
use Rattle.std.proofs.lemmas.List.Quantifiers.{position-Some}
use Rattle.re_extract.specs.Seen.{IsPut}
use Rattle.re_labels.specs.PortLabels.{port_labels}
use Rattle.re_laws.specs.Extracted.{first_fit}
use Rattle.re_pool.specs.Pools.{children_of}
use Rattle.re_pool.specs.declared.shape.Link.{Link}
use Rattle.re_problem.specs.Problems.{Problem}
use Rattle.re_problem.specs.Zero.{shows_zero, zero_place}
use Rattle.re_laws.specs.Trees.{Tree, backs}

find_at : (p : List ℕ → Bool) (xs : List (List ℕ)) (i : ℕ) → i < length xs → p (get_or xs i []) ≡ true → ((k : ℕ) → k < i → p (get_or xs k []) ≡ false) → get_or xs i [] ≡ unwrap_or (find p xs) []
find_at p [] i l h before = absurd (omega arith)
find_at p (x ∷ xs) zero l h before = ap (λ b. unwrap_or (cond b (Some x) (find p xs)) []) (sym h)
find_at p (x ∷ xs) (suc i) l h before =
    find_at p xs i (omega arith) h (λ k below. before (suc k) (omega arith))
    ∙ ap (λ b. unwrap_or (cond b (Some x) (find p xs)) []) (sym (before zero (omega arith)))

-- the first configuration that shows Zero, by its place
pub fit_at : (problem : Problem) (i : ℕ) → Some i ≡ zero_place problem → get_or problem.active.configs i [] ≡ first_fit problem
fit_at problem i e =
    let found = position-Some (shows_zero problem.passive) problem.active.configs i [] (sym e) in
    find_at (shows_zero problem.passive) problem.active.configs i found.0 found.1 found.2

-- the back ports of the children that links show
pub backs-links : (known : List (Tree (Unit {0}))) (links : List Link) → backs (children_of known links) ≡ map (λ (link : Link). link.back) links
backs-links known [] = refl
backs-links known (link ∷ links) = ap (λ l. link.back ∷ l) (backs-links known links)

-- labels by port are the labels that were given
pub held_labels : (labels held : List ℕ) → Some held ≡ port_labels labels → held ≡ labels
held_labels labels held e = go (nat_le 2 (length labels) && nat_le (length labels) 6) e
  where
    go : (b : Bool) → Some held ≡ (if b then Some labels else None) → held ≡ labels
    go true e = let same : held ≡ labels = cc in same
    go false e = absurd (cc)

-- what is put into a set is its last element, or nothing changed
pub is_put : (old new : List ℕ) (x : ℕ) (b : Bool) → new ≡ (if b then old else old ++ x ∷ []) → IsPut old new x
is_put old new x true e = inl e
is_put old new x false e = inr e
