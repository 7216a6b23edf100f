-- The moves of an edge, one variable at a time.
use Rattle.std.proofs.Common.{◌≡◌, ◌≢◌, ◌⊎◌, ◌≤◌, ◌<◌, ◌+◌, ℕ, Bool, true, false, List, [], ◌∷◌, ◌++◌, Option, Some, None}
use Rattle.std.proofs.Common.{inl, inr, refl, sym, ap, subst, ◌∙◌, arith, length, length-append, drop, get_or}
use Rattle.std.specs.Prelude.{◌==◌, ◌||◌, not, option_map, slice_get, if◌then◌else◌}
use Rattle.std.specs.List.{AllByRecursion, AllZip, list_any}
use Rattle.std.proofs.Math.ListN.{drop_of_length-le}
use Rattle.std.proofs.lemmas.Bool.Decides.{eqb_tells, nat_tests}
use Rattle.std.proofs.lemmas.List.{drop_more}
use Rattle.std.proofs.lemmas.Option.{none-some, slice_get_within}
use Rattle.std.proofs.lemmas.Slice.Zip.{AllZip-long}
use Rattle.pcc_base.specs.declared.run.Width.{Width}
use Rattle.pcc_base.proofs.Lists.{all-push}
use Rattle.ia32_insn.specs.Places.{Place, InWord, InByte, InSlot}
use Rattle.flow_graph.specs.Graphs.{Flow, HasWidth, IsDistinct, IsFlow, IsIn}
use Rattle.flow_graph.specs.Liveness.{IsSuccessor}
use Rattle.flow_liveness.proofs.Placed.{placed-within}
use Rattle.puzzle_board.specs.declared.place.Place.{Place as BoardPlace}
use Rattle.puzzle_board.specs.Places.{Entry, PlaceMap, entries_at, place_in}
use Rattle.allocator.specs.PointMaps.{IsLegalMap}
use Rattle.ia32_rows.proofs.Moves.{alike, unlike}
use Rattle.ia32_laws.specs.Supports.{HoldsWidth}
use Rattle.ia32_placements.specs.Laws.{IsMoved}
use Rattle.ia32_placements.specs.Standings.{standing_after, standing_before, standing_if_any}
use Rattle.ia32_placements.proofs.Edges.{next-placed, stood-behind}
use Rattle.ia32_placements.proofs.Moving.{moves-are-few}
use Rattle.ia32_emit.specs.declared.locations.Location.{Location}
use Rattle.ia32_emit.specs.Locations.{place_of}
use Rattle.parallel_copies.specs.declared.moves.Move.{Move}
use Rattle.parallel_copies.specs.Copies.{source, target}
use Rattle.parallel_copies.specs.Overlap.{is_idle}
use Rattle.parallel_copies.specs.Steps.{is_busy}
use Rattle.parallel_copies.proofs.Starting.{idle-same}
use Rattle.ia32_select.specs.EdgeMoves.{AreMovesOf, IsMinded, IsMoveOf, Minds, Stays}
use Rattle.ia32_select.specs.Selections.{CanSelect}
use Rattle.ia32_select.proofs.Bridging.{after-for, one-slot}

-- ---- one variable

-- where the code has a location, there stands the variable
pub found-there : (o : Option Location) (x : Location) (s : Option Place) → option_map place_of o ≡ s → o ≡ Some x
    → s ≡ Some (place_of x)
found-there o x s e f = sym e ∙ ap (option_map place_of) f

-- and where it has none, nowhere
pub found-nowhere : (o : Option Location) (s : Option Place) → option_map place_of o ≡ s → o ≡ None → s ≡ None
found-nowhere o s e f = sym e ∙ ap (option_map place_of) f

-- what is wanted nowhere stays
pub stays-nowhere : (places : PlaceMap) (point next v : ℕ) → standing_before places next v ≡ None
    → Stays places point next v
stays-nowhere places point next v e new f = absurd (none-some new (sym e ∙ f))

width-within : (widths : List Width) (v : ℕ) (place : Place) → HoldsWidth (slice_get widths v) place → v < length widths
width-within widths v place h = chosen (slice_get widths v) refl h
  where
    chosen : (o : Option Width) → slice_get widths v ≡ o → HoldsWidth o place → v < length widths
    chosen None e h = absurd h
    chosen (Some width) e h = slice_get_within widths v width e

idle-itself : (p : Place) → is_idle p p ≡ true
idle-itself (InWord r) = grind (arith, nat_tests)
idle-itself (InByte r) = grind (arith, nat_tests)
idle-itself (InSlot k) = refl

-- a busy move leads elsewhere
busy-elsewhere : (p q : Place) → not (is_idle p q) ≡ true → p ≢ q
busy-elsewhere p q e same = clash (is_idle p q) e (subst (λ (x : Place). is_idle p x ≡ true) same (idle-itself p))
  where
    clash : (b : Bool) → not b ≡ true → b ≡ true → ⊥
    clash true e f = cc
    clash false e f = cc

module _
    (flow : Flow) (homes : List ℕ) (places : PlaceMap) (is : IsFlow flow homes) (legal : IsLegalMap flow places)
    (small : places.frame ≤ 0x4000) (point next : ℕ) (leads : IsSuccessor flow point next) where
  -- what stands nowhere after the point isn't wanted next
  pub stays-unwanted : (v : ℕ) → standing_after places point v ≡ None → Stays places point next v
  stays-unwanted v e new f =
      let old = stood-behind flow homes places is legal point next v new leads f in
      absurd (none-some old.0 (sym e ∙ old.1))

  -- a variable that stands after the point is there
  pub within : (v : ℕ) (place : Place) → standing_after places point v ≡ Some place → v < length flow.widths
  within v place e =
      width-within flow.widths v place (after-for flow homes places is legal small point next leads v place e).holds

  -- a move that changes nothing is of a variable that stays
  pub stays-idle : (v : ℕ) (m : Move) → standing_after places point v ≡ Some (source m)
      → standing_before places next v ≡ Some (target m) → is_busy m ≡ false → Stays places point next v
  stays-idle v m e f idle new g =
      let same : source m ≡ target m = idle-same (source m) (target m)
      (one-slot flow homes places is legal small point next leads v (source m) (target m) e f) idle in
      e ∙ (ap Some same ∙ (sym f ∙ g))

  -- and one that changes something is the variable's
  pub its-move : (v : ℕ) (m : Move) → HasWidth flow v m.width → standing_after places point v ≡ Some (source m)
      → standing_before places next v ≡ Some (target m) → is_busy m ≡ true → IsMoveOf flow places point next v m
  its-move v m has e f busy =
      record { width = has; from = e; to = f; changes = busy-elsewhere (source m) (target m) busy }

-- ---- one more variable

zip-push : {A B : Type 0} (R : A → B → Type 0) (xs : List A) (ys : List B) (x : A) (y : B) → AllZip R xs ys → R x y
    → AllZip R (xs ++ x ∷ []) (ys ++ y ∷ [])
zip-push R [] [] x y h r = (r, tt)
zip-push R [] (b ∷ ys) x y h r = absurd h
zip-push R (a ∷ xs) [] x y h r = absurd h
zip-push R (a ∷ xs) (b ∷ ys) x y h r = (h.0, zip-push R xs ys x y h.1 r)

zip-first-all : {A B : Type 0} (R : A → B → Type 0) (P : A → Type 0) → ((x : A) (y : B) → R x y → P x) → (xs : List A)
    (ys : List B) → AllZip R xs ys → AllByRecursion P xs
zip-first-all R P f [] [] h = tt
zip-first-all R P f [] (y ∷ ys) h = absurd h
zip-first-all R P f (x ∷ xs) [] h = absurd h
zip-first-all R P f (x ∷ xs) (y ∷ ys) h = (f x y h.0, zip-first-all R P f xs ys h.1)

distinct-push : (xs : List ℕ) (v : ℕ) → IsDistinct xs → (IsIn v xs → ⊥) → IsDistinct (xs ++ v ∷ [])
distinct-push [] v d other = (tt, tt)
distinct-push (x ∷ xs) v d other = (
  all-push (λ q. q ≢ x) xs v d.0 (λ same. other (inl (sym same))),
  distinct-push xs v d.1 (λ among. other (inr among)),
)

in-left : (xs : List ℕ) (v w : ℕ) → IsIn w xs → IsIn w (xs ++ v ∷ [])
in-left [] v w h = absurd h
in-left (x ∷ xs) v w (inl e) = inl e
in-left (x ∷ xs) v w (inr h) = inr (in-left xs v w h)

in-last : (xs : List ℕ) (v : ℕ) → IsIn v (xs ++ v ∷ [])
in-last [] v = inl refl
in-last (x ∷ xs) v = inr (in-last xs v)

module _ (flow : Flow) (places : PlaceMap) (point next : ℕ) where
  pub moves-first : (vs : List ℕ) (moves : List Move) → vs ≡ [] → moves ≡ []
      → AreMovesOf flow places point next vs moves
  moves-first vs moves e f =
      let start : AreMovesOf flow places point next [] [] = record { each = tt; once = tt } in
      subst (λ (l : List ℕ). AreMovesOf flow places point next l moves) (sym e)
      (subst (λ (l : List Move). AreMovesOf flow places point next [] l) (sym f) start)

  pushed : (vs : List ℕ) (moves : List Move) (v : ℕ) (m : Move) → AreMovesOf flow places point next vs moves
      → IsMoveOf flow places point next v m → (IsIn v vs → ⊥)
      → AreMovesOf flow places point next (vs ++ v ∷ []) (moves ++ m ∷ [])
  pushed vs moves v m so-far its other =
      record {
        each = zip-push (IsMoveOf flow places point next) vs moves v m so-far.each its;
        once = distinct-push vs v so-far.once other;
      }

  pub moves-more : (vs ws : List ℕ) (moves more : List Move) (v : ℕ) (m : Move)
      → AreMovesOf flow places point next vs moves → IsMoveOf flow places point next v m → (IsIn v vs → ⊥)
      → ws ≡ vs ++ v ∷ [] → more ≡ moves ++ m ∷ [] → AreMovesOf flow places point next ws more
  moves-more vs ws moves more v m so-far its other e f =
      subst (λ (l : List ℕ). AreMovesOf flow places point next l more) (sym e)
      (subst (λ (l : List Move). AreMovesOf flow places point next (vs ++ v ∷ []) l) (sym f)
      (pushed vs moves v m so-far its other))

  -- there is room for one more
  pub room : (homes : List ℕ) → IsFlow flow homes → IsLegalMap flow places → IsSuccessor flow point next
      → (vs : List ℕ) (moves : List Move) (v : ℕ) (m : Move) → AreMovesOf flow places point next vs moves
      → IsMoveOf flow places point next v m → (IsIn v vs → ⊥) → (length vs < 16) × (length moves < 16)
  room homes is legal leads vs moves v m so-far its other =
      let all = pushed vs moves v m so-far its other in
      let most : length (vs ++ v ∷ []) ≤ 16 = moves-are-few flow homes places point next (vs ++ v ∷ []) is legal leads
      all.once
      (zip-first-all (IsMoveOf flow places point next) (IsMoved places point next)
      (λ w n of. (source n, target n, of.from, of.to, of.changes)) (vs ++ v ∷ []) (moves ++ m ∷ []) all.each) in
      let one = length-append vs (v ∷ []) in
      let same = AllZip-long (IsMoveOf flow places point next) vs moves so-far.each in
      (omega (arith, most, one), omega (arith, most, one, same))

pub minds-pushed : (places : PlaceMap) (point next v : ℕ) (vs ws : List ℕ) → ws ≡ vs ++ v ∷ []
    → Minds places point next v vs ws
minds-pushed places point next v vs ws e =
    subst (λ (l : List ℕ). Minds places point next v vs l) (sym e) (record {
      this = inl (in-last vs v);
      others = λ w among. in-left vs v w among;
    })

pub minds-staying : (places : PlaceMap) (point next v : ℕ) (vs : List ℕ) → Stays places point next v
    → Minds places point next v vs vs
minds-staying places point next v vs stays = record { this = inr stays; others = λ w among. among }

pub minds-listed : (places : PlaceMap) (point next v : ℕ) (vs : List ℕ) → IsIn v vs → Minds places point next v vs vs
minds-listed places point next v vs among = record { this = inl among; others = λ w other. other }

-- ---- the test

pub listed : (v : ℕ) (vs : List ℕ) → list_any (λ w. w == v) vs ≡ true → IsIn v vs
listed v [] e = cc
listed v (x ∷ xs) e = chosen (x == v) refl e (listed v xs)
  where
    chosen : (b : Bool) → (x == v) ≡ b → (b || list_any (λ w. w == v) xs) ≡ true
        → (list_any (λ w. w == v) xs ≡ true → IsIn v xs) → IsIn v (x ∷ xs)
    chosen true same f rest = inl (alike x v same)
    chosen false other f rest = inr (rest f)

pub unlisted : (v : ℕ) (vs : List ℕ) → list_any (λ w. w == v) vs ≡ false → IsIn v vs → ⊥
unlisted v [] e among = among
unlisted v (x ∷ xs) e among = chosen (x == v) refl e among (unlisted v xs)
  where
    chosen : (b : Bool) → (x == v) ≡ b → (b || list_any (λ w. w == v) xs) ≡ false → IsIn v (x ∷ xs)
        → (list_any (λ w. w == v) xs ≡ false → IsIn v xs → ⊥) → ⊥
    chosen true same f among rest = cc
    chosen false other f (inl same) rest = unlike x v other same
    chosen false other f (inr among) rest = rest f among

-- ---- the entries before the next point

-- the variable has a place among the entries
abbrev pub IsLeft : List Entry → ℕ → Type 0
IsLeft entries v = (place : BoardPlace) × (place_in entries v ≡ Some place)

-- at first the entries have all that isn't wanted nowhere
pub left-first : (places : PlaceMap) (point next : ℕ) (vs : List ℕ) (v : ℕ)
    → IsMinded places point next vs v ⊎ IsLeft (entries_at places.before next) v
left-first places point next vs v = by (place_in (entries_at places.before next) v) refl
  where
    by : (o : Option BoardPlace) → place_in (entries_at places.before next) v ≡ o
        → IsMinded places point next vs v ⊎ IsLeft (entries_at places.before next) v
    by None e = inl (inr (stays-nowhere places point next v (ap standing_if_any e)))
    by (Some place) e = inr (place, e)

-- one entry less is left
pub left-more : (places : PlaceMap) (point next : ℕ) (vs ws : List ℕ) (entries : List Entry) (i : ℕ) (d : Entry)
    → i < length entries → Minds places point next (get_or entries i d).0 vs ws
    → ((v : ℕ) → IsMinded places point next vs v ⊎ IsLeft (drop i entries) v)
    → (v : ℕ) → IsMinded places point next ws v ⊎ IsLeft (drop (i + 1) entries) v
left-more places point next vs ws entries i d inside minds left v = by (left v)
  where
    by : IsMinded places point next vs v ⊎ IsLeft (drop i entries) v
        → IsMinded places point next ws v ⊎ IsLeft (drop (i + 1) entries) v
    by (inl (inl among)) = inl (inl (minds.others v among))
    by (inl (inr stays)) = inl (inr stays)
    by (inr l) =
        let e : Entry = get_or entries i d in
        let rest : List Entry = drop (i + 1) entries in
        let at : place_in (e ∷ rest) v ≡ Some l.0 =
        ap (λ (es : List Entry). place_in es v) (sym (drop_more entries i d inside)) ∙ l.1 in
        elim (eqb_tells e.0 v) [
          | inl same ↦ inl (subst (λ (w : ℕ). IsMinded places point next ws w) same.1 minds.this)
          | inr other ↦ inr (l.0, sym (ap (λ (b : Bool). if b then Some e.1 else place_in rest v) other.0) ∙ at)
        ]

-- and at the end none
pub left-last : (places : PlaceMap) (point next : ℕ) (vs : List ℕ) (entries : List Entry) (i : ℕ) → length entries ≤ i
    → ((v : ℕ) → IsMinded places point next vs v ⊎ IsLeft (drop i entries) v)
    → (v : ℕ) → IsMinded places point next vs v
left-last places point next vs entries i past left v = by (left v)
  where
    by : IsMinded places point next vs v ⊎ IsLeft (drop i entries) v → IsMinded places point next vs v
    by (inl minded) = minded
    by (inr l) =
        absurd (none-some l.0 (ap (λ (es : List Entry). place_in es v) (sym (drop_of_length-le entries past)) ∙ l.1))

-- ---- both points are there

pub edge-points : (flow : Flow) (homes : List ℕ) (places : PlaceMap) → IsFlow flow homes → CanSelect flow places
    → (point next : ℕ) → IsSuccessor flow point next → (point < length places.before) × (next < length places.before)
edge-points flow homes places is h point next leads =
    let same = h.points in
    let first = placed-within flow homes is point leads.0 in
    let second = placed-within flow homes is next (next-placed flow homes places is h.legal point next leads) in
    (omega (arith, first, same), omega (arith, second, same))
