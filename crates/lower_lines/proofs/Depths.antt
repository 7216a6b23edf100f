-- The active calls of the graphs by their depth: which call a depth has, and what changes with an array of it.
use Rattle.std.proofs.Common.{◌≡◌, ℕ, zero, suc, ◌+◌, ◌-◌, ◌<◌, Bool, true, false, ℤ, List, [], ◌∷◌}
use Rattle.std.proofs.Common.{length, map, Option, Some, None, refl, sym, ap, ◌∙◌, subst, arith, eq-eqb}
use Rattle.std.proofs.lemmas.Bool.{leb-false, leb-true, ne_eqb}
use Rattle.std.specs.Prelude.{slice_get, nat_le, option_map, if◌then◌else◌, ◌==◌}
use Rattle.std.specs.List.{AllZip}
use Rattle.std.proofs.lemmas.List.{length-map}
use Rattle.flow_graph.specs.States as graph
use Rattle.flow_graph.specs.States.{active_of, depth_of, frame_at, waiting_place, waiting_with, with_elements}
use Rattle.lower_lines.specs.Relation.{SameWaiting}

-- ---- lists

none-past : {A : Type 0} (xs : List A) → slice_get xs (length xs) ≡ None
none-past [] = refl
none-past (x ∷ xs) = none-past xs

-- ---- the call of a depth

abbrev pub calls_in : List graph.Waiting → List graph.Activation
calls_in ws = map (λ w. w.activation) ws

abbrev pub deep : List graph.Activation → ℕ → Option graph.Activation
deep [] depth = None
deep (b ∷ bs) depth = if depth == suc (length bs) then Some b else deep bs depth

deep-place : (ws : List graph.Waiting) (depth j : ℕ) → j + depth ≡ length ws
    → option_map (λ (w : graph.Waiting). w.activation) (slice_get ws j) ≡ deep (calls_in ws) depth
deep-place [] depth j e = refl
deep-place (w ∷ ws) depth zero e =
    let many = length-map ws (λ (v : graph.Waiting). v.activation) in
    sym (ap (λ (b : Bool). if b then Some w.activation else deep (calls_in ws) depth)
    (eq-eqb depth (suc (length (calls_in ws))) (omega (arith, e, many))))
deep-place (w ∷ ws) depth (suc j) e =
    let many = length-map ws (λ (v : graph.Waiting). v.activation) in
    deep-place ws depth j (omega (arith, e))
    ∙ sym (ap (λ (b : Bool). if b then Some w.activation else deep (calls_in ws) depth)
    (ne_eqb depth (suc (length (calls_in ws))) (λ same. omega (arith, e, many, same))))

deep-past : (ws : List graph.Waiting) (depth : ℕ) → length ws < depth → deep (calls_in ws) depth ≡ None
deep-past [] depth lt = refl
deep-past (w ∷ ws) depth lt =
    let many = length-map ws (λ (v : graph.Waiting). v.activation) in
    ap (λ (b : Bool). if b then Some w.activation else deep (calls_in ws) depth)
    (ne_eqb depth (suc (length (calls_in ws))) (λ same. omega (arith, lt, many, same)))
    ∙ deep-past ws depth (omega (arith, lt))

-- the place of a depth among waiting calls
abbrev place_in : ℕ → ℕ → ℕ
place_in depth n = if nat_le depth n then n - depth else n

deep-waits : (ws : List graph.Waiting) (depth : ℕ)
    → option_map (λ (w : graph.Waiting). w.activation) (slice_get ws (place_in depth (length ws)))
    ≡ deep (calls_in ws) depth
deep-waits ws depth = by (nat_le depth (length ws)) refl
  where
    by : (b : Bool) → nat_le depth (length ws) ≡ b → option_map (λ (w : graph.Waiting). w.activation)
        (slice_get ws (if b then length ws - depth else length ws)) ≡ deep (calls_in ws) depth
    by true e =
        let le = leb-true depth (length ws) e in
        deep-place ws depth (length ws - depth) (omega (arith, le))
    by false e =
        let gt = leb-false depth (length ws) e in
        ap (option_map (λ (w : graph.Waiting). w.activation)) (none-past ws)
        ∙ sym (deep-past ws depth (omega (arith, gt)))

-- the call that a name of a frame array names
pub frame-deep : (g : graph.State) (depth : ℕ) → frame_at g depth ≡ deep (active_of g) depth
frame-deep g depth =
    let many = length-map g.waiting (λ (v : graph.Waiting). v.activation) in
    ap (λ (n : ℕ). if depth == suc n then Some g.current
    else option_map (λ (w : graph.Waiting). w.activation) (slice_get g.waiting (waiting_place g depth))) (sym many)
    ∙ ap (λ (x : Option graph.Activation). if depth == suc (length (calls_in g.waiting)) then Some g.current else x)
    (deep-waits g.waiting depth)

-- ---- another array in the call of a depth

abbrev pub with_deep : ℕ → ℕ → List ℤ → List graph.Activation → List graph.Activation
with_deep k depth elements [] = []
with_deep k depth elements (b ∷ bs) = if depth == suc (length bs) then with_elements k elements b ∷ bs
    else b ∷ with_deep k depth elements bs

waiting-more : (k j : ℕ) (elements : List ℤ) (w : graph.Waiting) (ws : List graph.Waiting) (m : Option graph.Waiting)
    → waiting_with k elements (suc j) m (w ∷ ws) ≡ w ∷ waiting_with k elements j m ws
waiting-more k j elements w ws None = refl
waiting-more k j elements w ws (Some v) = refl

with-place : (ws : List graph.Waiting) (k depth j : ℕ) (elements : List ℤ) → j + depth ≡ length ws
    → calls_in (waiting_with k elements j (slice_get ws j) ws) ≡ with_deep k depth elements (calls_in ws)
with-place [] k depth j elements e = refl
with-place (w ∷ ws) k depth zero elements e =
    let many = length-map ws (λ (v : graph.Waiting). v.activation) in
    sym (ap (λ (b : Bool). if b then with_elements k elements w.activation ∷ calls_in ws
    else w.activation ∷ with_deep k depth elements (calls_in ws))
    (eq-eqb depth (suc (length (calls_in ws))) (omega (arith, e, many))))
with-place (w ∷ ws) k depth (suc j) elements e =
    let many = length-map ws (λ (v : graph.Waiting). v.activation) in
    ap calls_in (waiting-more k j elements w ws (slice_get ws j))
    ∙ ap (λ (bs : List graph.Activation). w.activation ∷ bs) (with-place ws k depth j elements (omega (arith, e)))
    ∙ sym (ap (λ (b : Bool). if b then with_elements k elements w.activation ∷ calls_in ws
    else w.activation ∷ with_deep k depth elements (calls_in ws))
    (ne_eqb depth (suc (length (calls_in ws))) (λ same. omega (arith, e, many, same))))

with-past : (ws : List graph.Waiting) (k depth : ℕ) (elements : List ℤ) → length ws < depth
    → with_deep k depth elements (calls_in ws) ≡ calls_in ws
with-past [] k depth elements lt = refl
with-past (w ∷ ws) k depth elements lt =
    let many = length-map ws (λ (v : graph.Waiting). v.activation) in
    ap (λ (b : Bool). if b then with_elements k elements w.activation ∷ calls_in ws
    else w.activation ∷ with_deep k depth elements (calls_in ws))
    (ne_eqb depth (suc (length (calls_in ws))) (λ same. omega (arith, lt, many, same)))
    ∙ ap (λ (bs : List graph.Activation). w.activation ∷ bs) (with-past ws k depth elements (omega (arith, lt)))

with-waits : (ws : List graph.Waiting) (k depth : ℕ) (elements : List ℤ)
    → calls_in (waiting_with k elements (place_in depth (length ws))
    (slice_get ws (place_in depth (length ws))) ws)
    ≡ with_deep k depth elements (calls_in ws)
with-waits ws k depth elements = by (nat_le depth (length ws)) refl
  where
    by : (b : Bool) → nat_le depth (length ws) ≡ b
        → calls_in (waiting_with k elements (if b then length ws - depth else length ws)
        (slice_get ws (if b then length ws - depth else length ws)) ws)
        ≡ with_deep k depth elements (calls_in ws)
    by true e =
        let le = leb-true depth (length ws) e in
        with-place ws k depth (length ws - depth) elements (omega (arith, le))
    by false e =
        let gt = leb-false depth (length ws) e in
        ap (λ (m : Option graph.Waiting). calls_in (waiting_with k elements (length ws) m ws)) (none-past ws)
        ∙ sym (with-past ws k depth elements (omega (arith, gt)))

-- the state with another array in the call of a depth, where it is the youngest or not
abbrev pub with_frame : Bool → ℕ → ℕ → List ℤ → graph.State → graph.State
with_frame mine k depth elements g = if mine then record g { current = with_elements k elements g.current }
    else record g {
      waiting = waiting_with k elements (waiting_place g depth)
          (slice_get g.waiting (waiting_place g depth)) g.waiting;
    }

pub active-with : (g : graph.State) (k depth : ℕ) (elements : List ℤ)
    → active_of (with_frame (depth == depth_of g) k depth elements g) ≡ with_deep k depth elements (active_of g)
active-with g k depth elements =
    by (depth == depth_of g)
    ∙ ap (λ (n : ℕ). if depth == suc n then with_elements k elements g.current ∷ calls_in g.waiting
    else g.current ∷ with_deep k depth elements (calls_in g.waiting))
    (sym (length-map g.waiting (λ (v : graph.Waiting). v.activation)))
  where
    by : (mine : Bool) → active_of (with_frame mine k depth elements g)
        ≡ (if mine then with_elements k elements g.current ∷ calls_in g.waiting
        else g.current ∷ with_deep k depth elements (calls_in g.waiting))
    by true = refl
    by false = ap (λ (bs : List graph.Activation). g.current ∷ bs) (with-waits g.waiting k depth elements)

-- ---- what of waiting calls is the same

same-waiting : (w : graph.Waiting) → SameWaiting w w
same-waiting w = record {
  function = refl;
  arguments = refl;
  variables = refl;
  block = refl;
  point = refl;
}

pub all-same : (ws : List graph.Waiting) → AllZip SameWaiting ws ws
all-same [] = tt
all-same (w ∷ ws) = (same-waiting w, all-same ws)

pub waiting-same : (ws : List graph.Waiting) (k j : ℕ) (elements : List ℤ)
    → AllZip SameWaiting ws (waiting_with k elements j (slice_get ws j) ws)
waiting-same [] k j elements = tt
waiting-same (w ∷ ws) k zero elements = (
  record {
    function = refl;
    arguments = refl;
    variables = refl;
    block = refl;
    point = refl;
  },
  all-same ws,
)
waiting-same (w ∷ ws) k (suc j) elements =
    subst (λ (vs : List graph.Waiting). AllZip SameWaiting (w ∷ ws) vs)
    (sym (waiting-more k j elements w ws (slice_get ws j))) (same-waiting w, waiting-same ws k j elements)
