-- Views with the labels that the nodes of an algorithm put on their edges.
use Rattle.std.proofs.Common.{◌≡◌, ℕ, zero, suc, pred, ◌+◌, ◌≤◌, ◌<◌, Some, List, [], ◌∷◌, ◌++◌, map, length, get_or, subst, refl, sym, ◌∙◌, ap, arith, one-add, add-zero, append-nil, zero-add}
use Rattle.re_labels.proofs.Rearranging.{Rearranged-sym}
use Rattle.re_given.proofs.FastGiven.{back_range}
use Rattle.re_given.proofs.Fitting.{FitsAround-others, Rearranged-front}
use Rattle.re_given.proofs.Relabelled.{backs-cut}
use Rattle.re_given.specs.Given.{SolvesGivenBy, around_known}
use Rattle.re_given.specs.InputViews.{FitsAround, InputView, known}
use Rattle.re_given.specs.Inputs.{IsInput}
use Rattle.re_labels.specs.Lists.{count_from}
use Rattle.re_laws.proofs.Ports.{map-count}
use Rattle.re_laws.specs.Algorithms.{at_port}
use Rattle.re_laws.proofs.Mapping.{count_of}
use Rattle.re_problem.specs.Problems.{IsProblem, Problem}
use Rattle.re_labels.proofs.Goodness.{Has-Rearranged}
use Rattle.re_labels.specs.Constraints.{Constraint, Has}
use Rattle.re_laws.proofs.JoinedBranches.{back-shift, backs-child}
use Rattle.re_laws.proofs.ViewLaws.{IsChild, IsTree-others, child_of, others-cut, put-others, shift-at, shift-cut, shift-shift}
use Rattle.re_laws.specs.Trees.{Child, IsTree, IsView, Tree, backs, child_at, cut, end, leaf, more, others, put, shift}

-- ---- equal parts
pub same_child : {back back' payload payload' : ℕ} {branch branch' : InputView} → back ≡ back' → payload ≡ payload' → branch ≡ branch'
    → ◌≡◌ {A = Child ℕ} (record { back = back; payload = payload; branch = branch }) (record { back = back'; payload = payload'; branch = branch' })
same_child e f g = cc

-- ---- lists of children
-- the children f i, f (i + 1), .., n of them
abbrev pub listed : ℕ → (ℕ → Child ℕ) → ℕ → InputView
listed i f zero = end
listed i f (suc n) = more (f i).back (f i).payload (f i).branch (listed (suc i) f n)

child_at-listed : (i : ℕ) (f : ℕ → Child ℕ) (n k : ℕ) → k < n → child_at k (listed i f n) ≡ Some (f (i + k))
child_at-listed i f zero k l = absurd (omega arith)
child_at-listed i f (suc n) zero l = rw add-zero refl
child_at-listed i f (suc n) (suc k) l = let e : suc i + k ≡ i + suc k = omega arith in rw (← e) (child_at-listed (suc i) f n k (omega arith))

pub listed-same : (i : ℕ) (f g : ℕ → Child ℕ) (n : ℕ) → ((k : ℕ) → k < n → f (i + k) ≡ g (i + k)) → listed i f n ≡ listed i g n
listed-same i f g zero same = refl
listed-same i f g (suc n) same =
    let here : f i ≡ g i = rw add-zero at (same zero (omega arith)) in
    let rest : listed (suc i) f n ≡ listed (suc i) g n = listed-same (suc i) f g n (λ k l. let e : suc i + k ≡ i + suc k = omega arith in rw e (same (suc k) (omega arith))) in
    rw (here, rest) refl

cut-listed : (t i : ℕ) (f : ℕ → Child ℕ) (n : ℕ) → cut (suc t) (listed i f n) ≡ listed i (λ k. record (f k) { branch = cut t (f k).branch }) n
cut-listed t i f zero = refl
cut-listed t i f (suc n) = ap (more (f i).back (f i).payload (cut t (f i).branch)) (cut-listed t (suc i) f n)

IsTree-listed : (d e t i : ℕ) (f : ℕ → Child ℕ) (n : ℕ) → ((k : ℕ) → k < n → IsChild e d t (f (i + k))) → IsTree d e (suc t) n (listed i f n)
IsTree-listed d e t i f zero each = tt
IsTree-listed d e t i f (suc n) each =
    let here : IsChild e d t (f i) = rw add-zero at (each zero (omega arith)) in
    (here.least, here.most, here.branch, IsTree-listed d e t (suc i) f n (λ k l. let e : suc i + k ≡ i + suc k = omega arith in rw e (each (suc k) (omega arith))))

FitsAround-listed : (own other : Constraint) (seen : List ℕ) (i : ℕ) (f : ℕ → Child ℕ) (n : ℕ) → Has own (map (λ k. (f k).payload) (count_from i n) ++ seen) → ((k : ℕ) → k < n → FitsAround other own ((f (i + k)).payload ∷ []) (f (i + k)).branch) → FitsAround own other seen (listed i f n)
FitsAround-listed own other seen i f zero has each = has
FitsAround-listed own other seen i f (suc n) has each =
    let here : FitsAround other own ((f i).payload ∷ []) (f i).branch = rw add-zero at (each zero (omega arith)) in (
      here,
      FitsAround-listed own other ((f i).payload ∷ seen) (suc i) f n (Has-Rearranged own (Rearranged-sym (Rearranged-front (map (λ k. (f k).payload) (count_from (suc i) n)) (f i).payload seen)) has)
          (λ k l. let e : suc i + k ≡ i + suc k = omega arith in rw e (each (suc k) (omega arith))),
    )

-- the children but one show a port less
pub others-shown : {E : Type 0} (d e t k : ℕ) (x : Tree E) → IsTree d e t d x → k < d → IsTree d e t (pred d) (others k x)
others-shown zero e t k x h l = absurd (omega arith)
others-shown (suc d) e zero k leaf h l = tt
others-shown (suc d) e zero k end h l = absurd h
others-shown (suc d) e zero k (more back payload branch rest) h l = absurd h
others-shown (suc d) e (suc t) k x h l = IsTree-others (suc d) e t d k x h l

cut-others : {E : Type 0} (t k : ℕ) (x : Tree E) → cut t (others k x) ≡ others k (cut t x)
cut-others zero k x = refl
cut-others (suc t) k x = sym (others-cut t k x)

-- what is counted from 1 by ports and from 0 by places
pub ports-places : {A : Type 0} (f g : ℕ → A) (i n : ℕ) → ((k : ℕ) → k < n → f (suc (i + k)) ≡ g (i + k)) → map f (count_from (suc i) n) ≡ map g (count_from i n)
ports-places f g i zero same = refl
ports-places f g i (suc n) same =
    let here : f (suc i) ≡ g i = rw add-zero at (same zero (omega arith)) in
    let rest : map f (count_from (suc (suc i)) n) ≡ map g (count_from (suc i) n) = ports-places f g (suc i) n (λ k l. let e : suc i + k ≡ i + suc k = omega arith in rw e (same (suc k) (omega arith))) in
    cc

-- ---- views with the labels that the nodes put on their edges
-- the nodes of one side: their degree, the constraint around them, and which label stands at place k around a node with a view of that radius
pub record Kind (E : Type 0) : Type 0 where
  pub degree : ℕ
  pub constraint : Constraint
  pub label : ℕ → Tree E → ℕ → ℕ

-- the view with these labels to depth t, where v has radius r
abbrev pub with_labels : {E : Type 0} → Kind E → Kind E → ℕ → ℕ → Tree E → InputView
with_labels own other zero r v = leaf
with_labels own other (suc t) r v =
    listed 0 (λ k. record {
      back = at_port (backs v) (suc k);
      payload = own.label r v k;
      branch = others (pred (at_port (backs v) (suc k))) (with_labels other own t (pred r) (shift (pred r) v (suc k)));
    }) own.degree

-- its child at a place
abbrev pub child_labels : {E : Type 0} → Kind E → Kind E → ℕ → ℕ → Tree E → ℕ → Child ℕ
child_labels own other t r v k = record {
  back = at_port (backs v) (suc k);
  payload = own.label r v k;
  branch = others (pred (at_port (backs v) (suc k))) (with_labels other own t (pred r) (shift (pred r) v (suc k)));
}

-- the views of these nodes in question, by their radius, and those of the other side: from a neighbour one sees one of those; and what the label
-- at a place has to be: the same from both ends of the edge, the same at a lesser radius above R, and those around a node a configuration
pub record IsKind {E : Type 0} (R : ℕ) (own other : Kind E) (Own Other : ℕ → Tree E → Type 0) : Type 0 where
  pub view : (r : ℕ) (v : Tree E) → Own r v → IsView own.degree other.degree r v
  pub near : (r : ℕ) (v : Tree E) (k : ℕ) → Own (suc r) v → k < own.degree → Other r (shift r v (suc k))
  pub edge : (r : ℕ) (v : Tree E) (k : ℕ) → Own (suc r) v → R < r → k < own.degree → own.label (suc r) v k ≡ other.label r (shift r v (suc k)) (pred (at_port (backs v) (suc k)))
  pub still : (u r : ℕ) (v : Tree E) (k : ℕ) → Own r v → R < u → u ≤ r → k < own.degree → own.label u (cut u v) k ≡ own.label r v k
  pub fits : (r : ℕ) (v : Tree E) → Own r v → R < r → Has own.constraint (map (own.label r v) (count_from 0 own.degree))

pub IsTree-labels : {E : Type 0} {Own Other : ℕ → Tree E → Type 0} (S : ℕ) (own other : Kind E) (t r : ℕ) (v : Tree E) → IsKind S own other Own Other → IsKind S other own Other Own → t ≤ r → Own r v → IsTree own.degree other.degree t own.degree (with_labels own other t r v)
IsTree-labels S own other zero r v is is' l view = tt
IsTree-labels S own other (suc t) zero v is is' l view = absurd (omega arith)
IsTree-labels S own other (suc t) (suc r) v is is' l view =
    IsTree-listed own.degree other.degree t 0 (child_labels own other t (suc r) v) own.degree (λ k m.
    rw zero-add (child k m (IsTree-labels S other own t r (shift r v (suc k)) is' is (omega arith) (is.near r v k view m))))
  where
    child : (k : ℕ) → k < own.degree → IsTree other.degree own.degree t other.degree (with_labels other own t r (shift r v (suc k))) → IsChild other.degree own.degree t (child_labels own other t (suc r) v k)
    child k m there =
        let (low, high) = back_range own.degree other.degree r v (is.view (suc r) v view) k m in
        record {
          least = low;
          most = high;
          branch = others-shown other.degree own.degree t (pred (at_port (backs v) (suc k))) (with_labels other own t r (shift r v (suc k))) there (omega arith);
        }

-- what is left of it at a lesser depth is that of the cut view
pub cut-labels : {E : Type 0} {Own Other : ℕ → Tree E → Type 0} (S : ℕ) (own other : Kind E) (t' t u r : ℕ) (v : Tree E) → IsKind S own other Own Other → IsKind S other own Other Own → t' ≤ t → S + t' ≤ u → u ≤ r → S + t ≤ r → Own r v
    → cut t' (with_labels own other t r v) ≡ with_labels own other t' u (cut u v)
cut-labels S own other zero t u r v is is' a b c d view = refl
cut-labels S own other (suc t') zero u r v is is' a b c d view = absurd (omega arith)
cut-labels S own other (suc t') (suc t) zero r v is is' a b c d view = absurd (omega arith)
cut-labels S own other (suc t') (suc t) (suc u) zero v is is' a b c d view = absurd (omega arith)
cut-labels S own other (suc t') (suc t) (suc u) (suc r) v is is' a b c d view =
    cut-listed t' 0 (child_labels own other t (suc r) v) own.degree
    ∙ listed-same 0 (λ k. record (child_labels own other t (suc r) v k) { branch = cut t' (child_labels own other t (suc r) v k).branch }) (child_labels own other t' (suc u) (cut (suc u) v)) own.degree (λ k l.
    rw zero-add (same k l (cut-labels S other own t' t u r (shift r v (suc k)) is' is (omega arith) (omega arith) (omega arith) (omega arith) (is.near r v k view l))))
  where
    same : (k : ℕ) → k < own.degree → cut t' (with_labels other own t r (shift r v (suc k))) ≡ with_labels other own t' u (cut u (shift r v (suc k))) → record (child_labels own other t (suc r) v k) { branch = cut t' (child_labels own other t (suc r) v k).branch } ≡ child_labels own other t' (suc u) (cut (suc u) v) k
    same k l beyond =
        let (child, at, is_child) = child_of own.degree other.degree r own.degree v (is.view (suc r) v view) k l in
        let back_is : at_port (backs (cut (suc u) v)) (suc k) ≡ at_port (backs v) (suc k) = ap (λ ports. at_port ports (suc k)) (backs-cut u v) in
        let label_is : own.label (suc u) (cut (suc u) v) k ≡ own.label (suc r) v k = is.still (suc u) (suc r) v k view (omega arith) c l in
        let near_is : shift u (cut (suc u) v) (suc k) ≡ cut u (shift r v (suc k)) = shift-cut r u v (suc k) child (omega arith) at in
        let branch_is : cut t' (others (pred (at_port (backs v) (suc k))) (with_labels other own t r (shift r v (suc k)))) ≡ others (pred (at_port (backs v) (suc k))) (with_labels other own t' u (cut u (shift r v (suc k)))) =
        cut-others t' (pred (at_port (backs v) (suc k))) (with_labels other own t r (shift r v (suc k))) ∙ ap (others (pred (at_port (backs v) (suc k)))) beyond in
        rw (back_is, label_is, near_is, branch_is) refl

pub child_at-labels : {E : Type 0} (own other : Kind E) (t r : ℕ) (v : Tree E) (k : ℕ) → k < own.degree → child_at k (with_labels own other (suc t) r v) ≡ Some (child_labels own other t r v k)
child_at-labels own other t r v k l = rw zero-add at (child_at-listed 0 (child_labels own other t r v) own.degree k l)

pub backs-labels : {E : Type 0} (own other : Kind E) (t r : ℕ) (v : Tree E) (k : ℕ) → k < own.degree → at_port (backs (with_labels own other (suc t) r v)) (suc k) ≡ at_port (backs v) (suc k)
backs-labels own other t r v k l = backs-child k (child_labels own other t r v k) (with_labels own other (suc t) r v) (child_at-labels own other t r v k l)

-- seen from a neighbour, it is the neighbour's view with these labels
pub shift-labels : {E : Type 0} {Own Other : ℕ → Tree E → Type 0} (S : ℕ) (own other : Kind E) (t r : ℕ) (v : Tree E) (k : ℕ) → IsKind S own other Own Other → IsKind S other own Other Own → S + suc t ≤ r → Own (suc r) v → k < own.degree
    → shift (suc t) (with_labels own other (suc (suc t)) (suc r) v) (suc k) ≡ with_labels other own (suc t) r (shift r v (suc k))
shift-labels {E} S own other t zero v k is is' l view m = absurd (omega arith)
shift-labels {E} S own other t (suc r) v k is is' l view m = go (child_of own.degree other.degree (suc r) own.degree v (is.view (suc (suc r)) v view) k m) (back_range own.degree other.degree (suc r) v (is.view (suc (suc r)) v view) k m)
  where
    go : (c : Child E) × (child_at k v ≡ Some c) × IsChild other.degree own.degree (suc r) c → (1 ≤ at_port (backs v) (suc k)) × (at_port (backs v) (suc k) ≤ other.degree)
        → shift (suc t) (with_labels own other (suc (suc t)) (suc (suc r)) v) (suc k) ≡ with_labels other own (suc t) (suc r) (shift (suc r) v (suc k))
    go (c, at, child) (low, high) =
        let V : InputView = with_labels own other (suc (suc t)) (suc (suc r)) v in
        let w : Tree E = shift (suc r) v (suc k) in
        let W : InputView = with_labels other own (suc t) (suc r) w in
        let b : ℕ = at_port (backs v) (suc k) in
        let here : Child ℕ = child_labels own other (suc t) (suc (suc r)) v k in
        let there : Child ℕ = child_labels other own t (suc r) w (pred b) in
        let back_is : b ≡ c.back = backs-child k c v at in
        let port_is : suc (pred b) ≡ b = omega arith in
        let seen : shift (suc t) V (suc k) ≡ put (pred b) (record { back = suc k; payload = here.payload; branch = cut t (others k V) }) (others (pred b) W) =
        shift-at (suc t) V (suc k) here (child_at-labels own other (suc t) (suc (suc r)) v k m) in
        let found : child_at (pred b) W ≡ Some there = child_at-labels other own t (suc r) w (pred b) (omega arith) in
        let back_there : at_port (backs w) (suc (pred b)) ≡ suc k = ap (at_port (backs w)) (port_is ∙ back_is) ∙ back-shift own.degree other.degree r v (suc k) c at child in
        let label_there : own.label (suc (suc r)) v k ≡ other.label (suc r) w (pred b) = is.edge (suc r) v k view (omega arith) m in
        let beyond : shift r w (suc (pred b)) ≡ cut r v = ap (shift r w) (port_is ∙ back_is) ∙ shift-shift own.degree other.degree r v (suc k) c (is.view (suc (suc r)) v view) at child in
        let branch_there : cut t (others k V) ≡ others (pred (at_port (backs w) (suc (pred b)))) (with_labels own other t r (shift r w (suc (pred b)))) =
        cut-others t k V ∙ (ap (others k) (cut-labels S own other t (suc (suc t)) r (suc (suc r)) v is is' (omega arith) (omega arith) (omega arith) (omega arith) view) ∙
        (ap (λ x. others k (with_labels own other t r x)) (sym beyond) ∙ ap (λ i. others (pred i) (with_labels own other t r (shift r w (suc (pred b))))) (sym back_there))) in
        let same : record { back = suc k; payload = here.payload; branch = cut t (others k V) } ≡ there = same_child (sym back_there) label_there branch_there in
        seen ∙ (ap (λ x. put (pred b) x (others (pred b) W)) same ∙ put-others (pred b) there W found)

pub FitsAround-labels : {E : Type 0} {Own Other : ℕ → Tree E → Type 0} (S : ℕ) (own other : Kind E) (t r : ℕ) (v : Tree E) → IsKind S own other Own Other → IsKind S other own Other Own → S + t ≤ r → Own r v → FitsAround own.constraint other.constraint [] (with_labels own other t r v)
FitsAround-labels S own other zero r v is is' l view = tt
FitsAround-labels S own other (suc t) zero v is is' l view = absurd (omega arith)
FitsAround-labels S own other (suc t) (suc r) v is is' l view =
    FitsAround-listed own.constraint other.constraint [] 0 (child_labels own other t (suc r) v) own.degree
    (subst (Has own.constraint) (sym (append-nil (map (own.label (suc r) v) (count_from 0 own.degree)))) (is.fits (suc r) v view (omega arith)))
    (λ k m. rw zero-add (behind t k m (omega arith) (FitsAround-labels S other own t r (shift r v (suc k)) is' is (omega arith) (is.near r v k view m))))
  where
    behind : (t k : ℕ) → k < own.degree → S + suc t ≤ suc r → FitsAround other.constraint own.constraint [] (with_labels other own t r (shift r v (suc k)))
        → FitsAround other.constraint own.constraint ((child_labels own other t (suc r) v k).payload ∷ []) (child_labels own other t (suc r) v k).branch
    behind zero k m l there = tt
    behind (suc t) k m l there =
        let (low, high) = back_range own.degree other.degree r v (is.view (suc r) v view) k m in
        let b : ℕ = at_port (backs v) (suc k) in
        let label_is : own.label (suc r) v k ≡ other.label r (shift r v (suc k)) (pred b) = is.edge r v k view (omega arith) m in
        let parts = FitsAround-others other.constraint own.constraint [] (pred b) (child_labels other own t r (shift r v (suc k)) (pred b)) (with_labels other own (suc t) r (shift r v (suc k)))
        (child_at-labels other own t r (shift r v (suc k)) (pred b) (omega arith)) there in
        rw label_is parts.1

-- ---- the two sides of a problem, with the labels of an algorithm
-- what active nodes put on their edges where this is their view, and the views of both sides in question: from a neighbour one sees one of the other
-- side; more than radius R says nothing more; and the problem allows what stands around each node
pub record HasOutputs {E : Type 0} (problem : Problem) (R : ℕ) (f : Tree E → List ℕ) (Active Passive : ℕ → Tree E → Type 0) : Type 0 where
  pub active_view : (r : ℕ) (v : Tree E) → Active r v → IsView problem.active.degree problem.passive.degree r v
  pub passive_view : (r : ℕ) (v : Tree E) → Passive r v → IsView problem.passive.degree problem.active.degree r v
  pub active_near : (r : ℕ) (v : Tree E) (k : ℕ) → Active (suc r) v → k < problem.active.degree → Passive r (shift r v (suc k))
  pub passive_near : (r : ℕ) (v : Tree E) (k : ℕ) → Passive (suc r) v → k < problem.passive.degree → Active r (shift r v (suc k))
  pub enough : (u : ℕ) (v : Tree E) → R ≤ u → f (cut u v) ≡ f v
  pub active : (r : ℕ) (v : Tree E) → Active r v → R ≤ r → Has problem.active (f v)
  pub passive : (r : ℕ) (v : Tree E) → Passive (suc r) v → R ≤ r
      → Has problem.passive (map (λ k. at_port (f (shift r v (suc k))) (at_port (backs v) (suc k))) (count_from 0 problem.passive.degree))

-- the labels of a list, by their places
all_from : (xs : List ℕ) (i : ℕ) (f : ℕ → ℕ) → ((k : ℕ) → k < length xs → f (i + k) ≡ get_or xs k 0) → map f (count_from i (length xs)) ≡ xs
all_from [] i f same = refl
all_from (x ∷ xs) i f same =
    let here : f i ≡ x = rw add-zero at (same zero (omega arith)) in
    let rest : map f (count_from (suc i) (length xs)) ≡ xs = all_from xs (suc i) f (λ k l. let e : suc i + k ≡ i + suc k = omega arith in rw e (same (suc k) (omega arith))) in
    rw (here, rest) refl

all_of : (xs : List ℕ) (n : ℕ) → length xs ≡ n → map (λ k. at_port xs (suc k)) (count_from 0 n) ≡ xs
all_of xs n count = subst (λ n. map (λ k. at_port xs (suc k)) (count_from 0 n) ≡ xs) count (all_from xs 0 (λ k. at_port xs (suc k)) (λ k l. rw zero-add refl))

module _ {E : Type 0} (input : Problem) (is : IsProblem input) (R : ℕ) (f : Tree E → List ℕ) (Active Passive : ℕ → Tree E → Type 0) (outputs : HasOutputs input R f Active Passive) where
  -- an active node puts its labels on its edges
  abbrev pub active_kind : Kind E
  active_kind = record { degree = input.active.degree; constraint = input.active; label = λ r v k. at_port (f v) (suc k) }

  -- and at a passive node stand those of its neighbours
  abbrev pub passive_kind : Kind E
  passive_kind = record { degree = input.passive.degree; constraint = input.passive; label = λ r v k. at_port (f (shift (pred r) v (suc k))) (at_port (backs v) (suc k)) }

  pub active_is : IsKind R active_kind passive_kind Active Passive
  active_is = record {
    view = outputs.active_view;
    near = outputs.active_near;
    edge = edge;
    still = λ u r v k here some l m. ap (λ xs. at_port xs (suc k)) (outputs.enough u v (omega arith));
    fits = λ r v here some.
        let has : Has input.active (f v) = outputs.active r v here (omega arith) in
        subst (Has input.active) (sym (all_of (f v) input.active.degree (count_of input.labels input.active (f v) is.active has))) has;
  }
    where
      edge : (r : ℕ) (v : Tree E) (k : ℕ) → Active (suc r) v → R < r → k < input.active.degree
          → at_port (f v) (suc k) ≡ at_port (f (shift (pred r) (shift r v (suc k)) (suc (pred (at_port (backs v) (suc k)))))) (at_port (backs (shift r v (suc k))) (suc (pred (at_port (backs v) (suc k)))))
      edge zero v k here some m = absurd (omega arith)
      edge (suc r) v k here some m =
          let view : IsView input.active.degree input.passive.degree (suc (suc r)) v = outputs.active_view (suc (suc r)) v here in
          let (c, at, child) = child_of input.active.degree input.passive.degree (suc r) input.active.degree v view k m in
          let (low, high) = back_range input.active.degree input.passive.degree (suc r) v view k m in
          let port_is : suc (pred (at_port (backs v) (suc k))) ≡ at_port (backs v) (suc k) = omega arith in
          let back_is : at_port (backs v) (suc k) ≡ c.back = backs-child k c v at in
          let beyond : shift r (shift (suc r) v (suc k)) (suc (pred (at_port (backs v) (suc k)))) ≡ cut r v = ap (shift r (shift (suc r) v (suc k))) (port_is ∙ back_is) ∙ shift-shift input.active.degree input.passive.degree r v (suc k) c view at child in
          let looks_back : at_port (backs (shift (suc r) v (suc k))) (suc (pred (at_port (backs v) (suc k)))) ≡ suc k = ap (at_port (backs (shift (suc r) v (suc k)))) (port_is ∙ back_is) ∙ back-shift input.active.degree input.passive.degree r v (suc k) c at child in
          rw (beyond, looks_back, outputs.enough r v (omega arith)) refl

  pub passive_is : IsKind R passive_kind active_kind Passive Active
  passive_is = record {
    view = outputs.passive_view;
    near = outputs.passive_near;
    edge = λ r v k here some m. refl;
    still = still;
    fits = fits;
  }
    where
      still : (u r : ℕ) (v : Tree E) (k : ℕ) → Passive r v → R < u → u ≤ r → k < input.passive.degree
          → at_port (f (shift (pred u) (cut u v) (suc k))) (at_port (backs (cut u v)) (suc k)) ≡ at_port (f (shift (pred r) v (suc k))) (at_port (backs v) (suc k))
      still zero r v k here some l m = absurd (omega arith)
      still (suc u) zero v k here some l m = absurd (omega arith)
      still (suc u) (suc r) v k here some l m =
          let (c, at, child) = child_of input.passive.degree input.active.degree r input.passive.degree v (outputs.passive_view (suc r) v here) k m in
          rw (backs-cut u v, shift-cut r u v (suc k) c (omega arith) at, outputs.enough u (shift r v (suc k)) (omega arith)) refl

      fits : (r : ℕ) (v : Tree E) → Passive r v → R < r → Has input.passive (map (λ k. at_port (f (shift (pred r) v (suc k))) (at_port (backs v) (suc k))) (count_from 0 input.passive.degree))
      fits zero v here some = absurd (omega arith)
      fits (suc r) v here some = outputs.passive r v here (omega arith)

  -- ---- an algorithm of T rounds to which these labels are given
  module _ (problem : Problem) (is_input : IsInput problem input) (T : ℕ) (A : InputView → List ℕ) (solves : SolvesGivenBy problem input T A) where
    -- what it gives at a view of radius r
    abbrev pub behind_labels : ℕ → Tree E → List ℕ
    behind_labels r v = A (known T (with_labels active_kind passive_kind (suc T) r v))

    pub active_behind : (r : ℕ) (v : Tree E) → Active r v → R + suc T ≤ r → Has problem.active (behind_labels r v)
    active_behind r v here l =
        let V : InputView = with_labels active_kind passive_kind (suc T) r v in
        let shown : IsTree input.active.degree input.passive.degree (suc T) input.active.degree V = IsTree-labels R active_kind passive_kind (suc T) r v active_is passive_is (omega arith) here in
        solves.active V (of_problem V shown) (FitsAround-labels R active_kind passive_kind (suc T) r v active_is passive_is l here)
      where
        of_problem : (x : InputView) → IsTree input.active.degree input.passive.degree (suc T) input.active.degree x → IsView problem.active.degree problem.passive.degree (suc T) x
        of_problem x shown = rw (is_input.active_degree, is_input.passive_degree) at shown

    pub passive_behind : (r : ℕ) (v : Tree E) → Passive (suc r) v → R + suc T ≤ r
        → Has problem.passive (map (λ port. at_port (behind_labels r (shift r v port)) (at_port (backs v) port)) (count_from 1 problem.passive.degree))
    passive_behind r v here l = subst (Has problem.passive) around_is (solves.passive V (of_problem V shown) (FitsAround-labels R passive_kind active_kind (suc (suc T)) (suc r) v passive_is active_is (omega arith) here))
      where
        V : InputView
        V = with_labels passive_kind active_kind (suc (suc T)) (suc r) v

        shown : IsTree input.passive.degree input.active.degree (suc (suc T)) input.passive.degree V
        shown = IsTree-labels R passive_kind active_kind (suc (suc T)) (suc r) v passive_is active_is (omega arith) here

        of_problem : (x : InputView) → IsTree input.passive.degree input.active.degree (suc (suc T)) input.passive.degree x → IsView problem.passive.degree problem.active.degree (suc (suc T)) x
        of_problem x shown = rw (is_input.active_degree, is_input.passive_degree) at shown

        around_is : around_known problem.passive.degree T A V ≡ map (λ port. at_port (behind_labels r (shift r v port)) (at_port (backs v) port)) (count_from 1 problem.passive.degree)
        around_is = map-count (λ port. at_port (A (known T (shift (suc T) V port))) (at_port (backs V) port)) (λ port. at_port (behind_labels r (shift r v port)) (at_port (backs v) port)) 1 problem.passive.degree (λ k l. rw one-add (each k l))
          where
            each : (k : ℕ) → k < problem.passive.degree → at_port (A (known T (shift (suc T) V (suc k)))) (at_port (backs V) (suc k)) ≡ at_port (behind_labels r (shift r v (suc k))) (at_port (backs v) (suc k))
            each k n =
                let m : k < input.passive.degree = rw is_input.passive_degree n in
                let turned : shift (suc T) V (suc k) ≡ with_labels active_kind passive_kind (suc T) r (shift r v (suc k)) = shift-labels R passive_kind active_kind T r v k passive_is active_is l here m in
                let port : at_port (backs V) (suc k) ≡ at_port (backs v) (suc k) = backs-labels passive_kind active_kind (suc T) (suc r) v k m in
                rw (turned, port) refl
