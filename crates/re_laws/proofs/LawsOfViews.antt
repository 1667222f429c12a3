-- The laws of views, put together.
use Rattle.std.proofs.Common.{◌≡◌, suc, pred, subst, sym, arith, get_or, Some}
use Rattle.re_laws.proofs.AllViewsLemmas.{Contains-all_views, all_views-IsView}
use Rattle.re_laws.proofs.JoinedBranches.{IsView-branchwise, backs-child, cut-branchwise_all, shift-branchwise}
use Rattle.re_laws.proofs.Preorder.{rising-all_views}
use Rattle.re_laws.proofs.ViewLaws.{IsChild, IsTree-cut, IsView-pad, IsView-shift, child_of, cut-cut, cut-pad, cut-same, shift-cut, shift-shift}
use Rattle.re_laws.specs.ViewLaws.{AllViewsLaw, BranchwiseLaw, CommuteLaw, CutLaw, NeighbourLaw, PadLaw, ShiftLaw}
use Rattle.re_laws.specs.Trees.{Child, backs, child_at, cut, shift}

pub cut_law : {E : Type 0} → CutLaw E
cut_law d e radius t v view le = (IsTree-cut d e radius t d v view le, (λ u low. cut-cut u t v low), cut-same d e radius d v view)

pub neighbour_law : {E : Type 0} → NeighbourLaw E
neighbour_law d e t v i view low high =
    let (c, at, child) = child_of d e t d v view (pred i) (omega arith) in
    IsView-shift d e t v i c view low high at child

pub shift_law : {E : Type 0} → ShiftLaw E
shift_law {E} d e t v i view low high = go (child_of d e (suc t) d v view (pred i) (omega arith))
  where
    go : (c : Child E) × (child_at (pred i) v ≡ Some c) × IsChild e d (suc t) c → shift t (shift (suc t) v i) (get_or (backs v) (pred i) 0) ≡ cut t v
    go (c, at, child) =
        subst (λ port. shift t (shift (suc t) v i) port ≡ cut t v) (sym (backs-child (pred i) c v at)) (shift-shift d e t v i c view at child)

pub commute_law : {E : Type 0} → CommuteLaw E
commute_law d e t u v i view low high le =
    let (c, at, child) = child_of d e t d v view (pred i) (omega arith) in
    shift-cut t u v i c le at

pub pad_law : {E : Type 0} → PadLaw E
pad_law d e t radius fill v one one' view le = (IsView-pad d e t radius fill v one one' view le, cut-pad d e t radius fill v view le)

pub all_views_law : AllViewsLaw
all_views_law d e radius = ((λ v. (all_views-IsView d e radius v, Contains-all_views d e radius v)), rising-all_views d e radius)

pub branchwise_law : BranchwiseLaw
branchwise_law d e t w ends view are = (IsView-branchwise d e t w ends are, cut-branchwise_all d e t w ends view are, shift-branchwise d e t w ends view are)
