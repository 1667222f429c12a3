-- How many views there are, and at which place of the list of all of them a view stands.
use Rattle.std.specs.Prelude.{IsSome, ℕ, zero, suc, pred, ◌+◌, ◌*◌, ◌^◌, nat_le, length, if◌then◌else◌, Option, None, Some}
use Rattle.re_laws.specs.AllViews.{all_views}
use Rattle.re_laws.specs.Trees.{IsView, Tree, leaf, end, more}
use Rattle.re_algo.specs.declared.counting.TheConstants.{MAX_VIEWS}

-- the number, where it is no more than the most views that are listed
abbrev pub listed : ℕ → Option ℕ
listed count = if nat_le count MAX_VIEWS then Some count else None

-- how many views of that radius a node of degree d with neighbours of degree e has, where they are not too many
abbrev pub view_count : ℕ → ℕ → ℕ → Option ℕ
view_count d e radius = listed (length (all_views d e radius))

-- how many trees show n ports to that depth: for each port a back port and a branch are chosen
abbrev pub tree_count : ℕ → ℕ → ℕ → ℕ → ℕ
tree_count d e zero n = 1
tree_count d e (suc t) n = (tree_count e d t (pred e) * e) ^ n

-- the number whose digits are the back ports in preorder, where the digits before are read already: the back port k of e ports is
-- the digit k - 1 to the base e
abbrev pub read_after : {E : Type 0} → ℕ → ℕ → ℕ → Tree E → ℕ
read_after d e before leaf = before
read_after d e before end = before
read_after d e before (more back payload branch rest) = read_after d e (read_after e d (before * e + pred back) branch) rest

-- the place of a view among all views, counted from 0
abbrev pub view_place : {E : Type 0} → ℕ → ℕ → Tree E → ℕ
view_place d e v = read_after d e 0 v

-- a view of a radius of which there are not too many
abbrev pub HasPlace : ℕ → ℕ → Tree (Unit {0}) → Type 0
HasPlace d e v = (radius : ℕ) × IsView d e radius v × IsSome (view_count d e radius)
