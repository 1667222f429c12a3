-- The lines of nodes, one behind the other.
use Rattle.std.proofs.Common.{◌≡◌, ◌≢◌, ◌-◌, ◌*◌, ◌<◌, ◌≤◌, ◌++◌, ◌∙◌, ℕ, zero, suc, List, append_assoc, ap, arith, drop, length, length-drop, refl, sym, take}
use Rattle.std.proofs.lemmas.List.{length-take-le}
use Rattle.std.specs.Prelude.{codes}
use Rattle.re_texts.specs.CertificateLines.{image_text}
use Rattle.re_graph.specs.Solving.{labels_of}
use Rattle.re_graph_words.specs.Solutions.{node_lines}

pub some-nodes : (nodes : ℕ) → nodes ≢ 0 → 0 < nodes
some-nodes zero ne = absurd (ne refl)
some-nodes (suc nodes) ne = omega arith

pub first-count : (degree nodes : ℕ) (labels : List ℕ) → 0 < nodes → length labels ≡ nodes * degree → degree ≤ length labels
first-count degree (suc nodes) labels some count = omega (arith, count)
first-count degree zero labels some count = absurd (omega arith)

pub other-count : (degree nodes : ℕ) (labels : List ℕ) → 0 < nodes → length labels ≡ nodes * degree → length (drop degree labels) ≡ (nodes - 1) * degree
other-count degree (suc nodes) labels some count =
    let same : suc nodes - 1 ≡ nodes = omega arith in
    length-drop degree labels ∙ (let z : length labels - degree ≡ nodes * degree = omega (arith, count) in z) ∙ ap (λ n. n * degree) (sym same)
other-count degree zero labels some count = absurd (omega arith)

pub one-node : (names : List (List ℕ)) (degree nodes : ℕ) (labels text : List ℕ) → 0 < nodes
    → (text ++ (image_text names (take degree labels) ++ codes "\n")) ++ node_lines names (labels_of degree (nodes - 1) (drop degree labels)) ≡ text ++ node_lines names (labels_of degree nodes labels)
one-node names degree (suc nodes) labels text some =
    let same : suc nodes - 1 ≡ nodes = omega arith in
    ap (λ n. (text ++ (image_text names (take degree labels) ++ codes "\n")) ++ node_lines names (labels_of degree n (drop degree labels))) same
    ∙ append_assoc text (image_text names (take degree labels) ++ codes "\n") (node_lines names (labels_of degree nodes (drop degree labels)))
one-node names degree zero labels text some = absurd (omega arith)

pub first-length : (degree nodes : ℕ) (labels first : List ℕ) → 0 < nodes → length labels ≡ nodes * degree → first ≡ take degree labels → length first ≡ degree
first-length degree nodes labels first some count is = ap length is ∙ length-take-le degree labels (first-count degree nodes labels some count)
