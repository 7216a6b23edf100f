-- The pieces of a point: their order, how many there are, and one variable's after another's.
use Rattle.std.proofs.Common.{ℕ, ◌≡◌, ◌<◌, ◌≤◌, ◌+◌, ◌*◌, inl, inr, Bool, true, false, List, [], ◌∷◌}
use Rattle.std.proofs.Common.{◌++◌, ◌&&◌, not, length, take, get_or, Option, Some, None, refl, sym, ap, subst, arith}
use Rattle.std.proofs.Common.{◌∙◌, append_assoc, Result, Ok, Err, OnOk, IfOk}
use Rattle.std.proofs.lemmas.Option.{get_or_from_slice_get}
use Rattle.pcc_base.specs.declared.run.Width.{Width}
use Rattle.pcc_base.specs.declared.run.Width.TheVariants.{Two}
use Rattle.puzzle_board.specs.declared.area.Area.{Area}
use Rattle.puzzle_board.specs.declared.piece.Spot.{Spot}
use Rattle.puzzle_board.specs.declared.piece.State.{State}
use Rattle.puzzle_board.specs.declared.piece.State.TheVariants.{Unplaced}
use Rattle.puzzle_board.specs.Boards.{with_piece}
use Rattle.flow_liveness.specs.Names.{is_named}
use Rattle.std.specs.Prelude.{option_map, slice_get}
use Rattle.std.specs.List.{AllByRecursion}
use Rattle.std.proofs.lemmas.List.{append-nil, length-append, map-append, take_more}
use Rattle.pcc_base.proofs.Lists.{all-append, all-weaker}
use Rattle.flow_graph.specs.declared.op.Op.{Op}
use Rattle.flow_graph.specs.Graphs.{Flow, IsFlow, IsPlaced, has_point}
use Rattle.flow_graph.specs.Liveness.{defined}
use Rattle.flow_graph.specs.Lives.{AreLive, IsAscending, Lives, at_point}
use Rattle.flow_graph.proofs.Points.{every-from}
use Rattle.flow_liveness.proofs.Placed.{op-fits, placed-within}
use Rattle.flow_liveness.proofs.Variables.{before-within}
use Rattle.puzzle_board.specs.declared.piece.Kind.{Kind}
use Rattle.puzzle_board.specs.declared.piece.Kind.TheVariants.{Z}
use Rattle.puzzle_board.specs.declared.piece.Piece.{Piece}
use Rattle.allocator.specs.PointBoards.{if_so, piece_of, pieces_of_all, pieces_of_variable, use_kind}
use Rattle.allocator.specs.PointBoards.{Fixed, fixed_result, fixed_use, fixed_variable, point_pieces}
use Rattle.allocator.specs.PointBoards.{width_at, with_result}
use Rattle.allocator.specs.Order.{AreInOrder, Precedes}
use Rattle.allocator.specs.PointPuzzles.{pair_of, pieces_at, puzzle_of, unplaced_states}
use Rattle.allocator.proofs.Fixing.{defined-within}
use Rattle.allocator.proofs.OneMore.{ascending-result, every-one, few}

-- ---- the pieces of one variable

pair : Flow → ℕ → Bool → Bool → Bool → Bool → List Piece
pair flow v before after here free =
    if_so before (piece_of flow (use_kind after here) v) ++ if_so (here && free) (piece_of flow Z v)

pair-order : (flow : Flow) (v : ℕ) (b a d e : Bool) → AreInOrder (pair flow v b a d e)
unfolding pair
pair-order flow v false a false e = tt
pair-order flow v false a true false = tt
pair-order flow v false a true true = (tt, tt)
pair-order flow v true a false e = (tt, tt)
pair-order flow v true a true false = (tt, tt)
pair-order flow v true true true true = ((inr (refl, refl, refl), tt), (tt, tt))
pair-order flow v true false true true = ((inr (refl, refl, refl), tt), (tt, tt))

pair-of : (flow : Flow) (v : ℕ) (b a d e : Bool) → AllByRecursion (λ p. p.var ≡ v) (pair flow v b a d e)
unfolding pair
pair-of flow v false a false e = tt
pair-of flow v false a true false = tt
pair-of flow v false a true true = (refl, tt)
pair-of flow v true a false e = (refl, tt)
pair-of flow v true a true false = (refl, tt)
pair-of flow v true a true true = (refl, (refl, tt))

pair-few : (flow : Flow) (v : ℕ) (b a d e : Bool) → length (pair flow v b a d e) ≤ 2
unfolding pair
pair-few flow v false a false e = omega arith
pair-few flow v false a true false = omega arith
pair-few flow v false a true true = omega arith
pair-few flow v true a false e = omega arith
pair-few flow v true a true false = omega arith
pair-few flow v true a true true = omega arith

module _ (flow : Flow) (lives : Lives) (point : ℕ) (op : Op) where
  abbrev own : ℕ → List Piece
  own v = pieces_of_variable flow lives point op v

  abbrev all : List ℕ → List Piece
  all vs = pieces_of_all flow lives point op vs

  own-order : (v : ℕ) → AreInOrder (own v)
  unfolding pair
  own-order v = pair-order flow v _ _ _ _

  pub own-of : (v : ℕ) → AllByRecursion (λ p. p.var ≡ v) (own v)
  unfolding pair
  own-of v = pair-of flow v _ _ _ _

  own-few : (v : ℕ) → length (own v) ≤ 2
  unfolding pair
  own-few v = pair-few flow v _ _ _ _

  -- ---- the pieces of all

  pub all-of : (P : ℕ → Type 0) (vs : List ℕ) → AllByRecursion P vs → AllByRecursion (λ p. P p.var) (all vs)
  all-of P [] h = tt
  all-of P (v ∷ vs) h =
      all-append (λ p. P p.var) (own v) (all vs)
      (all-weaker (λ p. p.var ≡ v) (λ p. P p.var) (own v) (λ p e. subst P (sym e) h.0) (own-of v))
      (all-of P vs h.1)

  order-join :
      (v : ℕ) (ps qs : List Piece) → AreInOrder ps → AreInOrder qs → AllByRecursion (λ p. p.var ≡ v) ps
      → AllByRecursion (λ q. v < q.var) qs → AreInOrder (ps ++ qs)
  order-join v [] qs one two of above = two
  order-join v (p ∷ ps) qs one two of above = (
    all-append (Precedes p) ps qs one.0
        (all-weaker (λ q. v < q.var) (Precedes p) qs
        (λ q h. inl (let e = of.0 in omega (arith, h, e))) above),
    order-join v ps qs one.1 two of.1 above,
  )

  all-order : (vs : List ℕ) → IsAscending vs → AreInOrder (all vs)
  all-order [] a = tt
  all-order (v ∷ vs) a =
      order-join v (own v) (all vs) (own-order v) (all-order vs a.1) (own-of v) (all-of (λ w. v < w) vs a.0)

  all-few : (vs : List ℕ) → length (all vs) ≤ 2 * length vs
  all-few [] = omega arith
  all-few (v ∷ vs) =
      let here = own-few v in
      let rest = all-few vs in
      omega (arith, here, rest, length-append (own v) (all vs))

  all-join : (vs ws : List ℕ) → all (vs ++ ws) ≡ all vs ++ all ws
  all-join [] ws = refl
  all-join (v ∷ vs) ws = ap (λ ps. own v ++ ps) (all-join vs ws) ∙ sym (append_assoc (own v) (all vs) (all ws))

  -- one variable more
  pub all-more :
      (vs : List ℕ) (i : ℕ) → i < length vs → all (take (i + 1) vs) ≡ all (take i vs) ++ own (get_or vs i 0)
  all-more vs i lt =
      ap all (take_more vs i 0 lt)
      ∙ (all-join (take i vs) (get_or vs i 0 ∷ [])
      ∙ ap (λ ps. all (take i vs) ++ ps) (append-nil (own (get_or vs i 0))))

-- ---- the pieces of a point

every-result :
    (P : ℕ → Type 0) (d : Option ℕ) (vs : List ℕ) → ((v : ℕ) → d ≡ Some v → P v) → AllByRecursion P vs
    → AllByRecursion P (with_result d vs)
every-result P None vs h all = all
every-result P (Some v) vs h all = every-one P v vs (h v refl) all

-- the variables of a point are there
pub vars-within :
    (flow : Flow) (homes : List ℕ) (lives : Lives) (point : ℕ) (op : Op) → IsFlow flow homes → AreLive flow lives
    → IsPlaced flow point → slice_get flow.ops point ≡ Some op
    → AllByRecursion (λ v. v < length flow.widths) (with_result (defined op) (at_point lives.before point))
vars-within flow homes lives point op is live placed has =
    every-result (λ v. v < length flow.widths) (defined op) (at_point lives.before point)
    (λ v e. defined-within flow op v (op-fits flow homes is point placed op has) e)
    (every-from (λ v. v < length flow.widths) (at_point lives.before point)
    (λ v i. before-within flow homes is v point ((live.before point v (placed-within flow homes is point placed)).0 i)))

pub pieces-order :
    (flow : Flow) (lives : Lives) (point : ℕ) (op : Op) → IsAscending (at_point lives.before point)
    → AreInOrder (point_pieces flow lives point op)
pieces-order flow lives point op a =
    all-order flow lives point op (with_result (defined op) (at_point lives.before point))
    (ascending-result (defined op) (at_point lives.before point) a)

pub pieces-few :
    (flow : Flow) (homes : List ℕ) (lives : Lives) (point : ℕ) (op : Op) → IsFlow flow homes → AreLive flow lives
    → IsAscending (at_point lives.before point) → IsPlaced flow point → slice_get flow.ops point ≡ Some op
    → length (point_pieces flow lives point op) ≤ 2 * length flow.widths
pieces-few flow homes lives point op is live a placed has =
    let vs = with_result (defined op) (at_point lives.before point) in
    let many = all-few flow lives point op vs in
    let below = few vs (length flow.widths) (ascending-result (defined op) (at_point lives.before point) a)
    (vars-within flow homes lives point op is live placed has) in
    omega (arith, many, below)

-- ---- in the code's words

fixed-name : (o : Option Fixed) → option_map (λ (f : ℕ × Spot). f.0) (option_map pair_of o) ≡ fixed_variable o
fixed-name None = refl
fixed-name (Some fixed) = refl

pub name-of : (o : Option (ℕ × Spot)) (n : Option ℕ) (fixed : Option Fixed) → o ≡ option_map pair_of fixed
    → n ≡ option_map (λ (f : ℕ × Spot). f.0) o → n ≡ fixed_variable fixed
name-of o n fixed e f = f ∙ (ap (λ (x : Option (ℕ × Spot)). option_map (λ (f : ℕ × Spot). f.0) x) e ∙ fixed-name fixed)

pair-in : ℕ → Width → Bool → Bool → Bool → Bool → Bool → List Piece
pair-in v width before after here fixed_before fixed_after =
    if_so (before && not fixed_before) (record { kind = use_kind after here; width = width; var = v })
    ++ if_so (here && not fixed_after) (record { kind = Z; width = width; var = v })

-- what is put last for a variable are its pieces
pub pushed :
    (flow : Flow) (lives : Lives) (point : ℕ) (op : Op) (v : ℕ) (old mid new : List Piece) (b a d fb fa one two : Bool)
    (kind : Kind) (width : Width) (before after : Option ℕ)
    → b ≡ has_point v (at_point lives.before point) → a ≡ has_point v (at_point lives.after point)
    → d ≡ is_named (defined op) v → fb ≡ is_named before v → before ≡ fixed_variable (fixed_use op)
    → fa ≡ is_named after v → after ≡ fixed_variable (fixed_result op) → kind ≡ use_kind a d
    → slice_get flow.widths v ≡ Some width → one ≡ (b && not fb) → two ≡ (d && not fa)
    → mid ≡ old ++ if_so one (record { kind = kind; width = width; var = v })
    → new ≡ mid ++ if_so two (record { kind = Z; width = width; var = v })
    → new ≡ old ++ pieces_of_variable flow lives point op v
unfolding pair-in
pushed flow lives point op v old mid new b a d fb fa one two kind width before after eb ea ed efb ebf efa eaf ek ew
    eo et em en =
    let wide : width ≡ width_at flow v = sym (get_or_from_slice_get flow.widths v width Two ew) in
    let mid-is : mid ≡ old ++ if_so (b && not fb) (record { kind = use_kind a d; width = width; var = v }) =
    em ∙ (ap (λ (x : Bool). old ++ if_so x (record { kind = kind; width = width; var = v })) eo
    ∙ ap (λ (k : Kind). old ++ if_so (b && not fb) (record { kind = k; width = width; var = v })) ek) in
    let all : new ≡ old ++ pair-in v width b a d fb fa =
    en ∙ (ap (λ (x : Bool). mid ++ if_so x (record { kind = Z; width = width; var = v })) et
    ∙ (ap (λ (ps : List Piece). ps ++ if_so (d && not fa) (record { kind = Z; width = width; var = v })) mid-is
    ∙ append_assoc old (if_so (b && not fb) (record { kind = use_kind a d; width = width; var = v }))
    (if_so (d && not fa) (record { kind = Z; width = width; var = v })))) in
    let fb-is : fb ≡ is_named (fixed_variable (fixed_use op)) v = efb ∙ ap (λ (n : Option ℕ). is_named n v) ebf in
    let fa-is : fa ≡ is_named (fixed_variable (fixed_result op)) v = efa ∙ ap (λ (n : Option ℕ). is_named n v) eaf in
    all ∙ (ap (λ (w : Width). old ++ pair-in v w b a d fb fa) wide
    ∙ (ap (λ (x : Bool). old ++ pair-in v (width_at flow v) x a d fb fa) eb
    ∙ (ap (λ (x : Bool). old ++ pair-in v (width_at flow v) (has_point v (at_point lives.before point)) x d fb fa) ea
    ∙ (ap (λ (x : Bool). old ++ pair-in v (width_at flow v) (has_point v (at_point lives.before point))
    (has_point v (at_point lives.after point)) x fb fa) ed
    ∙ (ap (λ (x : Bool). old ++ pair-in v (width_at flow v) (has_point v (at_point lives.before point))
    (has_point v (at_point lives.after point)) (is_named (defined op) v) x fa) fb-is
    ∙ ap (λ (x : Bool). old ++ pair-in v (width_at flow v) (has_point v (at_point lives.before point))
    (has_point v (at_point lives.after point)) (is_named (defined op) v)
    (is_named (fixed_variable (fixed_use op)) v) x) fa-is)))))

pub on-ok : {A E : Type 0} (r : Result A E) (P Q : Type 0) → (P → Q) → OnOk r P → OnOk r Q
on-ok (Ok a) P Q f h = f h
on-ok (Err e) P Q f h = tt

-- one piece more on a board of which none is placed
pub puzzle-more :
    (areas : List Area) (pieces : List Piece) (i : ℕ) (p : Piece) → i < length pieces → get_or pieces i p ≡ p
    → with_piece (puzzle_of areas (take i pieces)) p ≡ puzzle_of areas (take (i + 1) pieces)
puzzle-more areas pieces i p lt is =
    let more : take (i + 1) pieces ≡ take i pieces ++ p ∷ [] =
    take_more pieces i p lt ∙ ap (λ (q : Piece). take i pieces ++ q ∷ []) is in
    let states : unplaced_states (take i pieces) ++ Unplaced ∷ [] ≡ unplaced_states (take i pieces ++ p ∷ []) =
    sym (map-append (λ (q : Piece). Unplaced) (take i pieces) (p ∷ [])) in
    ap (λ (ss : List State). record { areas = areas; pieces = take i pieces ++ p ∷ []; states = ss }) states
    ∙ ap (λ (ps : List Piece). puzzle_of areas ps) (sym more)

-- ---- what the code has

pub if-ok : {A E : Type 0} (r : Result A E) (P Q : A → Type 0) → ((a : A) → P a → Q a) → IfOk r P → IfOk r Q
if-ok (Ok a) P Q f h = f a h
if-ok (Err e) P Q f h = tt

module _
    (flow : Flow) (lives : Lives) (point : ℕ) (op : Op) (vars : List ℕ)
    (has : slice_get flow.ops point ≡ Some op) (is : vars ≡ with_result (defined op) (at_point lives.before point))
    (pieces : List Piece) (e : pieces ≡ pieces_of_all flow lives point op vars) where
  point-is : pieces ≡ point_pieces flow lives point op
  point-is = e ∙ ap (λ (vs : List ℕ). pieces_of_all flow lives point op vs) is

  pub value-is : pieces_at flow lives point ≡ Some pieces
  value-is = ap (λ (o : Option Op). option_map (point_pieces flow lives point) o) has ∙ ap Some (sym point-is)

  pub order-is : IsAscending (at_point lives.before point) → AreInOrder pieces
  order-is a = subst AreInOrder (sym point-is) (pieces-order flow lives point op a)

  pub few-is :
      (homes : List ℕ) → IsFlow flow homes → AreLive flow lives → IsAscending (at_point lives.before point)
      → IsPlaced flow point → length pieces ≤ 2 * length flow.widths
  few-is homes flows live a placed =
      subst (λ (ps : List Piece). length ps ≤ 2 * length flow.widths) (sym point-is)
      (pieces-few flow homes lives point op flows live a placed has)
