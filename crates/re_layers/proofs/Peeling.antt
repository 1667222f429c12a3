-- One step that rakes or compresses the nodes that are alive: which it removes.
use Rattle.std.proofs.Common.{ℕ, zero, suc, Bool, true, false, eqb, leb, List, [], ◌∷◌, length, get_or}
use Rattle.std.specs.Prelude.{flat_map, filter, ◌&&◌, ◌||◌, not}
use Rattle.re_layers.specs.Networks.{Network, ball}

-- some number below n passes the test
abbrev pub any_below : (ℕ → Bool) → ℕ → Bool
any_below test zero = false
any_below test (suc n) = test 0 || any_below (λ i. test (suc i)) n

-- the first list, or the empty one
abbrev pub leading : List (List ℕ) → List ℕ
leading [] = []
leading (xs ∷ rest) = xs

-- something is in the list
abbrev pub nonempty : List ℕ → Bool
nonempty [] = false
nonempty (x ∷ xs) = true

-- the neighbours that are alive
abbrev pub living : Network → (ℕ → Bool) → ℕ → List ℕ
living G alive v = filter alive (G.near v)

-- those but x
abbrev pub onward : Network → (ℕ → Bool) → ℕ → ℕ → List ℕ
onward G alive x v = filter (λ w. not (eqb w x)) (living G alive v)

abbrev pub next : Network → (ℕ → Bool) → ℕ → ℕ → ℕ
next G alive x v = get_or (onward G alive x v) 0 v

-- the walk x, v, .. that goes on from v for k nodes
unfoldable pub trail : Network → (ℕ → Bool) → ℕ → ℕ → ℕ → List ℕ
trail G alive zero x v = x ∷ v ∷ []
trail G alive (suc k) x v = x ∷ trail G alive k v (next G alive x v)

-- the walk has one way on at each of the k nodes from v on, and all from v on are alive
unfoldable pub clear : Network → (ℕ → Bool) → ℕ → ℕ → ℕ → Bool
clear G alive zero x v = alive v
clear G alive (suc k) x v = alive v && (eqb (length (onward G alive x v)) 1 && clear G alive k v (next G alive x v))

-- the walk from the first of these neighbours of u
abbrev pub walk_from : Network → (ℕ → Bool) → ℕ → ℕ → List ℕ → List (List ℕ)
walk_from G alive k u [] = []
walk_from G alive k u (x ∷ xs) = trail G alive k x u ∷ []

-- the path that a chosen node u stands first on, if any
unfoldable pub claim : Network → (ℕ → Bool) → (ℕ → Bool) → ℕ → ℕ → List (List ℕ)
claim G alive chosen k u = walk_from G alive k u (filter (λ x. chosen u && clear G alive k x u) (living G alive u))

-- the path of u, if v is one of its k inner nodes
unfoldable pub claim_on : Network → (ℕ → Bool) → (ℕ → Bool) → ℕ → ℕ → ℕ → List (List ℕ)
claim_on G alive chosen k v u = filter (λ own. any_below (λ i. eqb (get_or own (suc i) 0) v) k) (claim G alive chosen k u)

-- the path that v is an inner node of, if any
unfoldable pub owned : Network → (ℕ → Bool) → (ℕ → Bool) → ℕ → ℕ → List ℕ
owned G alive chosen k v = leading (flat_map (claim_on G alive chosen k v) (ball G k v))

-- v is taken away: with its path, or as a leaf where leaves of its kind are
unfoldable pub removed : Network → (ℕ → Bool) → (ℕ → Bool) → (ℕ → Bool) → ℕ → ℕ → Bool
removed G alive chosen raked k v = nonempty (owned G alive chosen k v) || (raked v && leb (length (living G alive v)) 1)
