-- The lines of a diagram, one after another.
use Rattle.std.proofs.Common.{◌≡◌, ℕ, ◌+◌, ◌<◌, ◌≤◌, List, [], ◌∷◌, ◌++◌, append_assoc, length, Ok, refl, sym, ap, ◌∙◌, subst, arith}
use Rattle.std.proofs.lemmas.List.{append-nil}
use Rattle.re_io.specs.declared.read.TheConstants.{MAX_BYTES}
use Rattle.re_problem.specs.ProblemTexts.{lines_of, or_else}
use Rattle.re_problem.specs.declared.fault.TextFault.{TextFault}
use Rattle.re_problem.specs.declared.fault.TextFault.TheVariants.{Bad, NoMemory}
use Rattle.re_closure.specs.DiagramTexts.{AreEdges, AreEdgesOf, EdgesRefuse, LineRefuses, TakesLine, edge_fault, edges_fault, edges_of, edges_on}

-- ---- all lines
all_edges : (n : ℕ) (xs ys : List (ℕ × ℕ)) → AreEdges n xs → AreEdges n ys → AreEdges n (xs ++ ys)
all_edges n [] ys h k = k
all_edges n (x ∷ xs) ys h k = (h.0, all_edges n xs ys h.1 k)

-- how far the lines are read, of which the first stands at a byte and has a number: no fault is in those in front of the rest, and these are their edges
pub record EdgesSoFar (names : List (List ℕ)) (byte number : ℕ) (text : List ℕ) (edges : List (ℕ × ℕ)) (at current : ℕ) (rest : List ℕ) : Type 0 where
  pub fault : edges_fault names byte number (lines_of text) ≡ edges_fault names at current (lines_of rest)
  pub edges_are : edges_of names (lines_of text) ≡ edges ++ edges_of names (lines_of rest)
  pub below : AreEdges (length names) edges
  pub counted : current ≤ at + 1
  pub within : 0 < length rest → at + length rest ≤ MAX_BYTES

pub no_edges : (names : List (List ℕ)) (byte number : ℕ) (text : List ℕ) → number ≤ byte + 1 → (0 < length text → byte + length text ≤ MAX_BYTES) → EdgesSoFar names byte number text [] byte number text
no_edges names byte number text counted within = record { fault = refl; edges_are = refl; below = tt; counted = counted; within = within }

module _ (names : List (List ℕ)) (byte number : ℕ) (text : List ℕ) (edges : List (ℕ × ℕ)) (at current : ℕ) (rest line behind : List ℕ) (s : EdgesSoFar names byte number text edges at current rest)
    (cut : lines_of rest ≡ line ∷ lines_of behind) where
  here : edges_fault names byte number (lines_of text) ≡ or_else (edge_fault names at current line) (edges_fault names (at + length line + 1) (current + 1) (lines_of behind))
  here = s.fault ∙ ap (edges_fault names at current) cut

  pub line_taken : (new : List (ℕ × ℕ)) (next : ℕ) → next ≡ at + (length line + 1) → TakesLine names at current line edges new (Ok tt) → length behind < length rest → (0 < length behind → length line + 1 + length behind ≤ length rest)
      → EdgesSoFar names byte number text new next (current + 1) behind
  line_taken new next is taken less left = record {
    fault = here ∙ ap (λ f. or_else f (edges_fault names (at + length line + 1) (current + 1) (lines_of behind))) taken.0 ∙ ap (λ b. edges_fault names b (current + 1) (lines_of behind)) (let e : at + length line + 1 ≡ next = omega (arith, is) in e);
    edges_are = s.edges_are ∙ ap (λ l. edges ++ edges_of names l) cut ∙ sym (append_assoc edges (edges_on names line) (edges_of names (lines_of behind))) ∙ ap (λ l. l ++ edges_of names (lines_of behind)) (sym taken.1);
    below = subst (AreEdges (length names)) (sym taken.1) (all_edges (length names) edges (edges_on names line) s.below taken.2);
    counted = (let c = s.counted in omega (arith, c, is));
    within = λ some. (let old = s.within (omega arith) in let fits = left some in omega (arith, old, fits, is));
  }

  pub line_refused : (fault : TextFault) → LineRefuses names at current line fault → EdgesRefuse names byte number (lines_of text) fault
  line_refused (Bad fault) wrong = here ∙ ap (λ f. or_else f (edges_fault names (at + length line + 1) (current + 1) (lines_of behind))) wrong
  line_refused NoMemory wrong = tt

pub edges_read : (names : List (List ℕ)) (byte number : ℕ) (text : List ℕ) (edges : List (ℕ × ℕ)) (at current : ℕ) (rest : List ℕ) → EdgesSoFar names byte number text edges at current rest → length rest ≡ 0
    → AreEdgesOf names byte number (lines_of text) edges
edges_read names byte number text edges at current (b ∷ rest) s end = absurd (omega arith)
edges_read names byte number text edges at current [] s end = (s.fault, sym (append-nil edges) ∙ sym s.edges_are, s.below)
