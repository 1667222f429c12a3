-- Two edges of coloured trees are joined by a path of one tree that looks like either of them around its ends.
use Rattle.std.proofs.Common.{◌≡◌, ℕ, suc, ◌+◌, ◌*◌, ◌≤◌, ◌<◌, Bool, true, false, List, length, refl, sym, ap, ap₂, ◌∙◌, subst, ◌⊎◌, inl, inr, arith}
use Rattle.std.specs.Prelude.{Contains, not, if◌then◌else◌}
use Rattle.std.proofs.lemmas.List.{length-map}
use Rattle.re_labels.proofs.Tests.{not_not}
use Rattle.re_forests.proofs.EdgeLabels.{label_on, label_turned}
use Rattle.re_forests.proofs.Growing.{path_kind}
use Rattle.re_forests.proofs.TreeWalks.{Walk, walk_as_long, walk_back, walk_edge, walk_joined, walk_kind}
use Rattle.re_forests.specs.OnForests.{SolvesOn}
use Rattle.re_gap.proofs.Around.{leads_along}
use Rattle.re_gap.proofs.Closed.{LeadsBy}
use Rattle.re_gap.proofs.Coloured.{far, put, put_same, run, run_solves}
use Rattle.re_gap.proofs.Crossed.{Avoids, active_number, avoids_of, ball_in, ball_out, cross, cross_child, crossed, crossed_tree, kept_near, kept_near_back, near_kept, other_side}
use Rattle.re_gap.proofs.CrossedWalks.{kept_before, walk_crossed}
use Rattle.re_gap.proofs.Deep.{IsArm, arm, down_first}
use Rattle.re_gap.proofs.FreeColours.{extended, extended_coloured, extended_given}
use Rattle.re_gap.proofs.Realised.{IsOn, IsRegular, as_active, label_put}
use Rattle.re_gap.proofs.Renamed.{IsSeenIn}
use Rattle.re_gap.proofs.Rerooted.{IsRootedAt, rooted_at}
use Rattle.re_gap.proofs.Trees.{IsTree}
use Rattle.re_layers.proofs.Balls.{ball_join, ball_most, ball_near, ball_own, ball_size}
use Rattle.re_layers.proofs.FreeNumbers.{Contains-holds, holds, holds-Contains}
use Rattle.re_layers.proofs.NodeNumbers.{kind, kind_number, number, number_of, place, place_number}
use Rattle.re_layers.specs.Networks.{IsForest, IsLocal, Network, ball}
use Rattle.re_problem.specs.Problems.{IsProblem, Problem}

-- how far the trees are left as they are
abbrev pub reach : ℕ → ℕ
reach T = suc (suc (suc T)) + far T

pub degree_least : {problem : Problem} → IsProblem problem → {N T : ℕ} {G : Network} {colour : ℕ → ℕ} → IsRegular problem N T G colour
    → (v : ℕ) → 2 ≤ length (G.near v)
degree_least {problem} is {G = G} regular v = by (G.active v) (regular.full v)
  where
    by : (b : Bool) → length (G.near v) ≡ (if b then problem.active.degree else problem.passive.degree) → 2 ≤ length (G.near v)
    by true e = let least = is.active.least in omega (arith, e, least)
    by false e = let least = is.passive.least in omega (arith, e, least)

module _ (problem : Problem) (N T : ℕ) (algorithm : Network → ℕ → List ℕ) (is : IsProblem problem) (local : IsLocal T algorithm)
    (solves : (G : Network) → IsForest problem.active.degree problem.passive.degree N G → SolvesOn problem G (algorithm G))
    (room : suc (ball_size (problem.active.degree + problem.passive.degree) (far T)) ≤ N) where
  module _ (active : Bool) (value : Bool → ℕ) (on : (b : Bool) → IsOn problem N T algorithm active (value b)) where
    abbrev G : Bool → Network
    G b = (on b).G

    abbrev from : Bool → ℕ
    from b = (on b).from

    abbrev to : Bool → ℕ
    to b = (on b).to

    abbrev rooted : (b : Bool) → IsRootedAt problem.active.degree problem.passive.degree (G b) (from b)
    rooted b = rooted_at (on b).regular.tree (from b)

    abbrev long : Bool → ℕ
    long true = reach T
    long false = suc (reach T)

    abbrev arm_of : (b : Bool) → IsArm (rooted b) (long b) (to b)
    arm_of b = arm (rooted b) (degree_least is (on b).regular) (long b) (to b) (on b).edge

    -- the walk of the first tree is taken to the near end of its edge, and that of the second too: these ends are joined
    child : Bool → ℕ
    child true = (arm_of true).inner
    child false = (arm_of false).outer

    root : Bool → ℕ
    root true = (arm_of true).outer
    root false = (arm_of false).inner

    cut : (b : Bool) → Contains ((G b).near (child b)) (root b)
    unfolding child root
    cut true = (arm_of true).edge
    cut false = (on false).regular.tree.both (arm_of false).inner (arm_of false).outer (arm_of false).edge

    outer_end : (b : Bool) → ((arm_of b).outer ≡ child b) ⊎ ((arm_of b).outer ≡ root b)
    unfolding child root
    outer_end true = inr refl
    outer_end false = inl refl

    tree : (b : Bool) → IsTree problem.active.degree problem.passive.degree (G b)
    tree b = (rooted_at (on b).regular.tree (root b)).tree

    least : (b : Bool) → (tree b).rank (root b) ≡ 0
    unfolding tree
    least b = (rooted_at (on b).regular.tree (root b)).least

    inner_kind : (b : Bool) → (G b).active (arm_of b).inner ≡ path_kind active (long b)
    inner_kind b =
        walk_kind (G b) (on b).regular.tree.turns (long b) (from b) (to b) (arm_of b).before (arm_of b).inner (arm_of b).walk
        ∙ ap (λ k. path_kind k (long b)) (on b).kind

    outer_kind : (b : Bool) → (G b).active (arm_of b).outer ≡ not (path_kind active (long b))
    outer_kind b = (on b).regular.tree.turns (arm_of b).inner (arm_of b).outer (arm_of b).edge ∙ ap not (inner_kind b)

    kinds : (b : Bool) → (G (not b)).active (root (not b)) ≡ not ((G b).active (child b))
    unfolding child root
    kinds true = inner_kind false ∙ sym (ap not (inner_kind true))
    kinds false = outer_kind true ∙ sym (ap not (outer_kind false) ∙ ap not (not_not (path_kind active (reach T))))

    abbrev J : Network
    J = crossed G child root

    J_tree : IsTree problem.active.degree problem.passive.degree J
    J_tree = crossed_tree G child root tree cut least kinds

    J_full : (v : ℕ) → length (J.near v) ≡ (if J.active v then problem.active.degree else problem.passive.degree)
    J_full v = length-map ((G (kind v)).near (place v)) (cross G child root (kind v) (place v)) ∙ (on (kind v)).regular.full (place v)

    few : (v : ℕ) → length (J.near v) ≤ problem.active.degree + problem.passive.degree
    few v = by (J.active v) (J_full v)
      where
        by : (b : Bool) → length (J.near v) ≡ (if b then problem.active.degree else problem.passive.degree)
            → length (J.near v) ≤ problem.active.degree + problem.passive.degree
        by true e = omega (arith, e)
        by false e = omega (arith, e)

    -- ---- around the first nodes all is as it was
    clear : (b : Bool) (x : ℕ) → Contains (ball (G b) (reach T) (from b)) x → (x ≡ child b → ⊥) × (x ≡ root b → ⊥)
    unfolding child root
    clear true x held = (
      λ e. (arm_of true).inner_far (reach T) (omega arith) (subst (Contains (ball (G true) (reach T) (from true))) e held),
      λ e. (arm_of true).outer_far (reach T) (omega arith) (subst (Contains (ball (G true) (reach T) (from true))) e held),
    )
    clear false x held = (
      λ e. (arm_of false).outer_far (reach T) (omega arith) (subst (Contains (ball (G false) (reach T) (from false))) e held),
      λ e. (arm_of false).inner_far (reach T) (omega arith) (subst (Contains (ball (G false) (reach T) (from false))) e held),
    )

    avoids : (b : Bool) (j k u : ℕ) → j + k ≤ reach T → Contains (ball (G b) j (from b)) u → Avoids G child root b k u
    avoids b j k u low at =
        avoids_of G child root b k u
        (λ x held. clear b x (ball_most (G b) (j + k) (reach T) (from b) x low (ball_join (G b) j k (from b) u x at held)))

    -- ---- colours
    fixed : ℕ → Bool
    fixed v = holds (ball (G (kind v)) (suc (suc (suc T))) (from (kind v))) (place v)

    given : ℕ → ℕ
    given v = (on (kind v)).colour (place v)

    fixed_number : (b : Bool) (i : ℕ) → fixed (number b i) ≡ holds (ball (G b) (suc (suc (suc T))) (from b)) i
    unfolding fixed
    fixed_number b i =
        ap (λ c. holds (ball (G c) (suc (suc (suc T))) (from c)) (place (number b i))) (kind_number b i)
        ∙ ap (holds (ball (G b) (suc (suc (suc T))) (from b))) (place_number b i)

    given_number : (b : Bool) (i : ℕ) → given (number b i) ≡ (on b).colour i
    unfolding given
    given_number b i = ap (λ c. (on c).colour (place (number b i))) (kind_number b i) ∙ ap (on b).colour (place_number b i)

    given_low : (v : ℕ) → given v < N
    unfolding given
    given_low v = (on (kind v)).regular.coloured.below (place v)

    apart_at : (b : Bool) (i w : ℕ) → Contains (ball (G b) (suc (suc (suc T))) (from b)) i → Contains (ball J (far T) (number b i)) w
        → (number b i ≡ w → ⊥) → (on b).colour i ≡ given w → ⊥
    apart_at b i w at held other same =
        let (z, there, e) = ball_out G child root b (far T) i w (avoids b (suc (suc (suc T))) (far T) i (omega arith) at) held in
        (on b).regular.coloured.apart i z there (λ own. other (ap (number b) own ∙ e)) (same ∙ (ap given (sym e) ∙ given_number b z))

    given_apart : (v w : ℕ) → fixed v ≡ true → fixed w ≡ true → Contains (ball J (far T) v) w → (v ≡ w → ⊥) → given v ≡ given w → ⊥
    unfolding fixed given
    given_apart v w e f held other same =
        apart_at (kind v) (place v) w (holds-Contains (ball (G (kind v)) (suc (suc (suc T))) (from (kind v))) (place v) e)
        (subst (λ z. Contains (ball J (far T) z) w) (sym (number_of v)) held) (λ own. other (sym (number_of v) ∙ own)) same

    colour : ℕ → ℕ
    colour = extended (far T) N (problem.active.degree + problem.passive.degree) J few J_tree.both room fixed given

    regular : IsRegular problem N T J colour
    unfolding colour
    regular = record {
      tree = J_tree;
      full = J_full;
      coloured =
          extended_coloured (far T) N (problem.active.degree + problem.passive.degree) J few J_tree.both room fixed given given_low given_apart;
    }

    colour_same : (b : Bool) (i : ℕ) → Contains (ball (G b) (suc (suc (suc T))) (from b)) i → colour (number b i) ≡ (on b).colour i
    unfolding colour
    colour_same b i held =
        extended_given (far T) N (problem.active.degree + problem.passive.degree) J few J_tree.both room fixed given (number b i)
        (fixed_number b i ∙ Contains-holds (ball (G b) (suc (suc (suc T))) (from b)) i held)
        ∙ given_number b i

    -- ---- what is seen from the first edges
    inside : (b : Bool) (u x : ℕ) → Contains (ball (G b) 1 (from b)) u → Contains (ball (G b) (suc (suc T)) u) x
        → Contains (ball (G b) (suc (suc (suc T))) (from b)) x
    inside b u x near held =
        ball_most (G b) (1 + suc (suc T)) (suc (suc (suc T))) (from b) x (omega arith)
        (ball_join (G b) 1 (suc (suc T)) (from b) u x near held)

    clear_around : (b : Bool) (u : ℕ) → Contains (ball (G b) 1 (from b)) u → Avoids G child root b (suc (suc T)) u
    clear_around b u near = avoids b 1 (suc (suc T)) u (omega arith) near

    seen_there : (b : Bool) (u : ℕ) → Contains (ball (G b) 1 (from b)) u
        → IsSeenIn (G b) (on b).colour (ball (G b) (suc (suc T)) u) J colour (ball J (suc (suc T)) (number b u))
    seen_there b u near = record {
      nodes = λ x at act. (
        number b x,
        ball_in G child root b (suc (suc T)) u x (clear_around b u near) at,
        colour_same b x (inside b u x near at),
        active_number G child root b x ∙ act,
      );
      edges = λ x y at there next. (
        number b x,
        number b y,
        ball_in G child root b (suc (suc T)) u x (clear_around b u near) at,
        ball_in G child root b (suc (suc T)) u y (clear_around b u near) there,
        kept_near G child root b (suc (suc T)) u x y (clear_around b u near) at next,
        colour_same b x (inside b u x near at),
        colour_same b y (inside b u y near there),
      );
    }

    seen_back : (b : Bool) (u : ℕ) → Contains (ball (G b) 1 (from b)) u
        → IsSeenIn J colour (ball J (suc (suc T)) (number b u)) (G b) (on b).colour (ball (G b) (suc (suc T)) u)
    seen_back b u near = record {
      nodes = λ v at act. (
          let (x, held, e) = ball_out G child root b (suc (suc T)) u v (clear_around b u near) at in (
            x,
            held,
            sym (colour_same b x (inside b u x near held)) ∙ ap colour e,
            sym (active_number G child root b x) ∙ (ap J.active e ∙ act),
          ));
      edges = λ v w at there next. (
          let (x, held, e) = ball_out G child root b (suc (suc T)) u v (clear_around b u near) at in
          let (y, held', f) = ball_out G child root b (suc (suc T)) u w (clear_around b u near) there in (
            x,
            y,
            held,
            held',
            kept_near_back G child root b (suc (suc T)) u x y (clear_around b u near) held
                (subst (λ z. Contains (J.near z) (number b y)) (sym e) (subst (Contains (J.near v)) (sym f) next)),
            sym (colour_same b x (inside b u x near held)) ∙ ap colour e,
            sym (colour_same b y (inside b u y near held')) ∙ ap colour f,
          ));
    }

    put_kept : (b : Bool) (u w : ℕ) → Contains (ball (G b) 1 (from b)) u → Contains (ball (G b) 1 (from b)) w
        → put N T algorithm J colour (number b u) (number b w) ≡ put N T algorithm (G b) (on b).colour u w
    put_kept b u w at there =
        put_same N T algorithm local J (G b) colour (on b).colour (number b u) (number b w) u w (seen_back b u at) (seen_there b u at)
        (colour_same b u (ball_most (G b) 1 (suc (suc (suc T))) (from b) u (omega arith) at))
        (colour_same b w (ball_most (G b) 1 (suc (suc (suc T))) (from b) w (omega arith) there))

    first_edge : (b : Bool) → Contains (J.near (number b (from b))) (number b (to b))
    first_edge b =
        kept_near G child root b 0 (from b) (from b) (to b) (avoids b 0 0 (from b) (omega arith) (ball_own (G b) 0 (from b)))
        (ball_own (G b) 0 (from b)) (on b).edge

    first_back : (b : Bool) → Contains (J.near (number b (to b))) (number b (from b))
    first_back b = J_tree.both (number b (from b)) (number b (to b)) (first_edge b)

    labels : ℕ → List ℕ
    labels = run N T algorithm J colour

    label_kept : (b : Bool) → label_on J labels (number b (to b)) (number b (from b)) ≡ value b
    unfolding labels
    label_kept b =
        let own : Contains (ball (G b) 1 (from b)) (from b) = ball_own (G b) 1 (from b) in
        let next : Contains (ball (G b) 1 (from b)) (to b) = ball_near (G b) 0 (from b) (to b) (on b).edge in
        let own_label : ℕ = put N T algorithm J colour (number b (to b)) (number b (from b)) in
        let other_label : ℕ = put N T algorithm J colour (number b (from b)) (number b (to b)) in
        label_put problem N T algorithm J colour regular (number b (to b)) (number b (from b)) (first_back b)
        ∙ (ap (λ k. if k then own_label else other_label) (active_number G child root b (to b))
        ∙ (ap₂ (λ x y. if (G b).active (to b) then x else y) (put_kept b (to b) (from b) next own) (put_kept b (from b) (to b) own next)
        ∙ (sym (label_put problem N T algorithm (G b) (on b).colour (on b).regular (to b) (from b)
        ((on b).regular.tree.both (from b) (to b) (on b).edge))
        ∙ (on b).label)))

    each : (v w : ℕ) → Contains (J.near v) w → IsOn problem N T algorithm true (label_on J labels v w)
    unfolding labels
    each v w next =
        as_active problem N T algorithm (J.active v) (label_on J (run N T algorithm J colour) v w) (record {
          G = J;
          colour = colour;
          regular = regular;
          from = w;
          to = v;
          edge = J_tree.both v w next;
          kind = refl;
          label = refl;
        })

    -- ---- the path
    down : (b : Bool) → Walk J (long b) (number b (from b)) (number b (to b)) (number b (arm_of b).before) (number b (arm_of b).inner)
    down b =
        walk_crossed G child root b (arm_of b).outer (outer_end b) (rooted b) (long b) (from b) (to b) (arm_of b).before (arm_of b).inner
        (down_first (rooted b) (to b) (on b).edge) (arm_of b).higher (arm_of b).walk

    over : Walk J 1 (number true (arm_of true).before) (number true (arm_of true).inner) (number true (arm_of true).inner)
        (number false (arm_of false).inner)
    unfolding child root
    over = (
      number false (arm_of false).inner,
      cross_child G child root tree cut least kinds true,
      other_side true (arm_of false).inner (arm_of true).before,
      (refl, refl),
    )

    onward : Walk J 1 (number true (arm_of true).inner) (number false (arm_of false).inner) (number false (arm_of false).inner)
        (number false (arm_of false).before)
    onward = (
      number false (arm_of false).before,
      near_kept G child root false (arm_of false).inner (arm_of false).before
          (kept_before G child root false (arm_of false).outer (outer_end false) (arm_of false).inner (arm_of false).before
          (λ e. (let same = ap (rooted false).tree.rank e in let less = (arm_of false).higher in omega (arith, same, less)))
          (λ e. (arm_of false).ne (sym e)))
          ((on false).regular.tree.both (arm_of false).before (arm_of false).inner
          (walk_edge (G false) (long false) (from false) (to false) (arm_of false).before (arm_of false).inner (on false).edge
          (arm_of false).walk)),
      (λ e. other_side false (arm_of true).inner (arm_of false).before (sym e)),
      (refl, refl),
    )

    back : Walk J (suc (reach T)) (number false (arm_of false).inner) (number false (arm_of false).before) (number false (to false))
        (number false (from false))
    back =
        walk_back J J_tree.both (suc (reach T)) (number false (from false)) (number false (to false)) (number false (arm_of false).before)
        (number false (arm_of false).inner) (first_back false) (down false)

    path : Walk J (suc (2 * suc (reach T))) (number true (from true)) (number true (to true)) (number false (to false))
        (number false (from false))
    path =
        walk_as_long J (reach T + 1 + (1 + suc (reach T))) (suc (2 * suc (reach T))) (number true (from true)) (number true (to true))
        (number false (to false))
        (number false (from false)) (omega arith)
        (walk_joined J (reach T + 1) (1 + suc (reach T)) (number true (from true)) (number true (to true))
        (number true (arm_of true).inner)
        (number false (arm_of false).inner) (number false (to false)) (number false (from false))
        (walk_joined J (reach T) 1 (number true (from true)) (number true (to true)) (number true (arm_of true).before)
        (number true (arm_of true).inner)
        (number true (arm_of true).inner) (number false (arm_of false).inner) (down true) over)
        (walk_joined J 1 (suc (reach T)) (number true (arm_of true).inner) (number false (arm_of false).inner)
        (number false (arm_of false).inner)
        (number false (arm_of false).before) (number false (to false)) (number false (from false)) onward back))

    pub joined : LeadsBy problem (IsOn problem N T algorithm true) active (suc (2 * suc (reach T))) (value true) (value false)
    unfolding labels
    joined =
        let Q : ℕ → Type 0 = IsOn problem N T algorithm true in
        let m : ℕ = suc (2 * suc (reach T)) in
        let first : label_on J labels (number true (to true)) (number true (from true)) ≡ value true = label_kept true in
        let last : label_on J labels (number false (from false)) (number false (to false)) ≡ value false =
        label_turned J labels (number false (from false)) (number false (to false))
        (J_tree.turns (number false (from false)) (number false (to false)) (first_edge false))
        ∙ label_kept false in
        let side : J.active (number true (to true)) ≡ active = active_number G child root true (to true) ∙ (on true).kind in
        subst (λ k. LeadsBy problem Q k m (value true) (value false)) side
        (subst (λ x. LeadsBy problem Q (J.active (number true (to true))) m x (value false)) first
        (subst (λ y. LeadsBy problem Q (J.active (number true (to true))) m
        (label_on J labels (number true (to true)) (number true (from true))) y) last
        (leads_along problem is J labels J_tree J_full (run_solves N T algorithm is local solves J_tree regular.coloured) Q each m
        (number true (from true)) (number true (to true)) (number false (to false)) (number false (from false)) (first_back true) path)))
