-- Moves from a point of a legal map to the next, made at once, bring each variable to its new place.
use Rattle.std.proofs.Common.{◌≡◌, ◌≢◌, ◌≤◌, ℕ, List, [], ◌∷◌, Option, Some}
use Rattle.std.proofs.Common.{inl, inr, sym, ap, subst, ◌∙◌, arith, length}
use Rattle.std.specs.List.{AllByRecursion, AllZip}
use Rattle.std.proofs.lemmas.Bool.Decides.{eqb_tells}
use Rattle.std.proofs.lemmas.Option.{same_Some}
use Rattle.pcc_base.specs.declared.run.Width.{Width}
use Rattle.pcc_base.specs.declared.run.Width.TheVariants.{One, Two}
use Rattle.ia32_insn.specs.declared.register_names.Reg32.TheVariants.{Ebp}
use Rattle.ia32_insn.specs.declared.insn.Insn.{Insn}
use Rattle.ia32_insn.specs.Places.{Place, InWord, InByte, InSlot}
use Rattle.ia32_insn.specs.Spelling.{HasSpelling}
use Rattle.ia32_insn.specs.State.{State}
use Rattle.ia32_insn.specs.Meaning.{word_of}
use Rattle.flow_graph.specs.declared.op.Op.{Op}
use Rattle.flow_graph.specs.Graphs.{Flow, HasWidth, IsDistinct, IsFlow, IsIn, IsPlaced}
use Rattle.flow_graph.specs.Liveness.{IsSuccessor}
use Rattle.flow_liveness.proofs.Placed.{fitting}
use Rattle.puzzle_board.specs.Places.{PlaceMap}
use Rattle.allocator.specs.PointMaps.{IsLegalMap}
use Rattle.ia32_rows.specs.Copying.{AreHeld, Copies, FitsWidth}
use Rattle.ia32_rows.specs.Contains.{ApartFromPlace, Contains, IsPlaceIn, OutsidePlace}
use Rattle.ia32_rows.specs.Effects.{IsStraight}
use Rattle.ia32_rows.specs.Laws.{ArePlacesApart}
use Rattle.ia32_rows.specs.Sites.{IsInFrame}
use Rattle.ia32_rows.proofs.Kept.{keeps-stricter}
use Rattle.ia32_laws.specs.Supports.{AreAllApart, HoldsWidth, IsPlaceFor, SupportsPoint}
use Rattle.ia32_placements.specs.Laws.{IsSlotOf}
use Rattle.ia32_placements.specs.Placed.{no_moves, placement_in}
use Rattle.ia32_placements.specs.Standings.{standing_after, standing_before}
use Rattle.ia32_placements.proofs.Edges.{next-placed}
use Rattle.ia32_placements.proofs.Frames.{four-words}
use Rattle.ia32_placements.proofs.Moving.{slots-are-own}
use Rattle.ia32_placements.proofs.Supported.{supports-point}
use Rattle.parallel_copies.specs.declared.moves.Move.{Move}
use Rattle.parallel_copies.specs.Copies.{ApartFromTarget, AreAllBeside, AreBeside, AreOneSlot, AreSlotsApart, Copied}
use Rattle.parallel_copies.specs.Copies.{CopyAtOnce, Fits, Holds, IsInside, IsMove, IsSlotFor, Moves, source, target}
use Rattle.parallel_copies.specs.Copies as copies
use Rattle.parallel_copies.specs.Steps.{IsWaiting, NotSlots}
use Rattle.parallel_copies.proofs.Keeping.{contains-after}
use Rattle.ia32_select.specs.EdgeMoves.{AreAllMoves, AreBetween, AreMovesOf, IsMoveOf}

-- ---- lists side by side

-- what holds of each pair holds of the second of each
zip-all : {A B : Type 0} (R : A → B → Type 0) (P : B → Type 0) → ((x : A) (y : B) → R x y → P y) → (xs : List A)
    (ys : List B) → AllZip R xs ys → AllByRecursion P ys
zip-all R P f [] [] h = tt
zip-all R P f [] (y ∷ ys) h = absurd h
zip-all R P f (x ∷ xs) [] h = absurd h
zip-all R P f (x ∷ xs) (y ∷ ys) h = (f x y h.0, zip-all R P f xs ys h.1)

-- the same, where something is known of the first of each too
zip-both : {A B : Type 0} (R : A → B → Type 0) (Q : A → Type 0) (P : B → Type 0)
    → ((x : A) (y : B) → Q x → R x y → P y) → (xs : List A) (ys : List B) → AllByRecursion Q xs → AllZip R xs ys
    → AllByRecursion P ys
zip-both R Q P f [] [] q h = tt
zip-both R Q P f [] (y ∷ ys) q h = absurd h
zip-both R Q P f (x ∷ xs) [] q h = absurd h
zip-both R Q P f (x ∷ xs) (y ∷ ys) q h = (f x y q.0 h.0, zip-both R Q P f xs ys q.1 h.1)

-- beside one of the first list stands one of the second
zip-found : {B : Type 0} (R : ℕ → B → Type 0) (P : B → Type 0) (v : ℕ) (xs : List ℕ) (ys : List B) → AllZip R xs ys
    → AllByRecursion P ys → IsIn v xs → (y : B) × R v y × P y
zip-found R P v [] ys h p among = absurd among
zip-found R P v (x ∷ xs) [] h p among = absurd h
zip-found R P v (x ∷ xs) (y ∷ ys) h p (inl same) = (y, subst (λ (w : ℕ). R w y) same h.0, p.0)
zip-found R P v (x ∷ xs) (y ∷ ys) h p (inr among) = zip-found R P v xs ys h.1 p.1 among

-- ---- places

slot-for : (frame k : ℕ) → frame ≤ 0x4000 → IsInFrame frame k → IsSlotFor 16 k
slot-for frame k small inside =
    let low = inside.low in
    let high = inside.high in
    (inr (omega (arith, low)), omega (arith, high, small))

-- a place for a variable in a frame is one that moves may have
moves-place : (frame : ℕ) (width : Width) (place : Place) → frame ≤ 0x4000 → IsPlaceIn frame place
    → HoldsWidth (Some width) place → copies.IsPlaceFor 16 width place
moves-place frame Two (InWord r) small inside holds = inside
moves-place frame Two (InByte r) small inside holds = absurd holds
moves-place frame Two (InSlot k) small inside holds = slot-for frame k small inside
moves-place frame One (InWord r) small inside holds = absurd holds
moves-place frame One (InByte r) small inside holds = tt
moves-place frame One (InSlot k) small inside holds = slot-for frame k small inside

is-inside : (frame : ℕ) (place : Place) → IsPlaceIn frame place → IsInside frame place
is-inside frame (InWord r) h = tt
is-inside frame (InByte r) h = tt
is-inside frame (InSlot k) h = let low = h.low in (omega (arith, low), h.high)

not-slots : (p q : Place) → AreOneSlot p q → p ≢ q → NotSlots p q
not-slots (InSlot k) (InSlot j) h other = other (ap InSlot h)
not-slots (InSlot k) (InWord r) h other = tt
not-slots (InSlot k) (InByte r) h other = tt
not-slots (InWord r) q h other = tt
not-slots (InByte r) q h other = tt

fits : (width : Width) (w : ℕ) → FitsWidth width w → Fits width w
fits One w h = omega (arith, h)
fits Two w h = omega (arith, h)

-- what is apart from a place is apart from the bytes of it that a move writes
narrower : (base : ℕ) (width : Width) (p : Place) (a n : ℕ) → ApartFromPlace base p a n
    → ApartFromTarget base width p a n
narrower base width (InWord r) a n h = tt
narrower base width (InByte r) a n h = tt
narrower base One (InSlot k) a n (inl h) = inl (omega (arith, h))
narrower base One (InSlot k) a n (inr h) = inr h
narrower base Two (InSlot k) a n h = h

-- what a move does is done to a variable of its width, which stands where it comes from
moved-so : (s t : State) (w : ℕ) (width also : Width) (old from new to : Place) → width ≡ also → old ≡ from → new ≡ to
    → ((n : ℕ) → Contains s also from n → Contains t also to n) → Contains s width old w → Contains t width new w
moved-so s t w width also old from new to e f g moves contains =
    subst (λ (d : Width). Contains t d new w) (sym e)
    (subst (λ (p : Place). Contains t also p w) (sym g)
    (moves w (subst (λ (p : Place). Contains s also p w) f (subst (λ (d : Width). Contains s d old w) e contains))))

module _
    (flow : Flow) (homes : List ℕ) (places : PlaceMap) (is : IsFlow flow homes) (legal : IsLegalMap flow places)
    (small : places.frame ≤ 0x4000) (point next : ℕ) (leads : IsSuccessor flow point next) where
  -- a point of a block has what its code asks for
  has-support : (p : ℕ) → IsPlaced flow p → (op : Op) × SupportsPoint flow (placement_in flow places no_moves) p op
  has-support p (block, stands) =
      let (op, has, fit) = fitting flow homes is p block stands in
      (op, supports-point flow homes places no_moves p op is legal (block, stands) has)

  pub next-is-placed : IsPlaced flow next
  next-is-placed = next-placed flow homes places is legal point next leads

  pub after-for : (v : ℕ) (place : Place) → standing_after places point v ≡ Some place
      → IsPlaceFor flow (placement_in flow places no_moves) v place
  after-for v place e = (has-support point leads.0).1.after v place e

  pub before-for : (v : ℕ) (place : Place) → standing_before places next v ≡ Some place
      → IsPlaceFor flow (placement_in flow places no_moves) v place
  before-for v place e = (has-support next next-is-placed).1.before v place e

  after-apart : AreAllApart (standing_after places point)
  after-apart = (has-support point leads.0).1.after_apart

  before-apart : AreAllApart (standing_before places next)
  before-apart = (has-support next next-is-placed).1.before_apart

  -- ---- slots

  behind : (v slot : ℕ) → standing_after places point v ≡ Some (InSlot slot) → IsSlotOf flow places v slot
  behind v slot e = (point, leads.0, inr e)

  ahead : (v slot : ℕ) → standing_before places next v ≡ Some (InSlot slot) → IsSlotOf flow places v slot
  ahead v slot e = (next, next-is-placed, inl e)

  pub one-slot : (v : ℕ) (p q : Place) → standing_after places point v ≡ Some p
      → standing_before places next v ≡ Some q → AreOneSlot p q
  one-slot v (InSlot k) (InSlot j) e f =
      (slots-are-own flow homes places is legal).0 v k j (behind v k e) (ahead v j f)
  one-slot v (InSlot k) (InWord r) e f = tt
  one-slot v (InSlot k) (InByte r) e f = tt
  one-slot v (InWord r) q e f = tt
  one-slot v (InByte r) q e f = tt

  from-to : (v w : ℕ) (p q : Place) → v ≢ w → standing_after places point v ≡ Some p
      → standing_before places next w ≡ Some q → AreSlotsApart p q
  from-to v w (InSlot k) (InSlot j) other e f =
      (slots-are-own flow homes places is legal).1 v w k j other (behind v k e) (ahead w j f)
  from-to v w (InSlot k) (InWord r) other e f = tt
  from-to v w (InSlot k) (InByte r) other e f = tt
  from-to v w (InWord r) q other e f = tt
  from-to v w (InByte r) q other e f = tt

  to-from : (v w : ℕ) (p q : Place) → v ≢ w → standing_before places next v ≡ Some p
      → standing_after places point w ≡ Some q → AreSlotsApart p q
  to-from v w (InSlot k) (InSlot j) other e f =
      (slots-are-own flow homes places is legal).1 v w k j other (ahead v k e) (behind w j f)
  to-from v w (InSlot k) (InWord r) other e f = tt
  to-from v w (InSlot k) (InByte r) other e f = tt
  to-from v w (InWord r) q other e f = tt
  to-from v w (InByte r) q other e f = tt

  -- ---- what is asked of moves

  place-for : (v : ℕ) (width : Width) (place : Place) → HasWidth flow v width
      → IsPlaceFor flow (placement_in flow places no_moves) v place → copies.IsPlaceFor 16 width place
  place-for v width place has for =
      moves-place places.frame width place small for.inside
      (subst (λ (d : Option Width). HoldsWidth d place) has for.holds)

  is-move : (v : ℕ) (m : Move) → IsMoveOf flow places point next v m → IsMove 16 m
  is-move v m of =
      record {
        from_fits = place-for v m.width (source m) of.width (after-for v (source m) of.from);
        to_fits = place-for v m.width (target m) of.width (before-for v (target m) of.to);
        slots = one-slot v (source m) (target m) of.from of.to;
      }

  beside : (v w : ℕ) (m n : Move) → w ≢ v → IsMoveOf flow places point next v m → IsMoveOf flow places point next w n
      → AreBeside m n
  beside v w m n other one two =
      let apart : v ≢ w = λ same. other (sym same) in
      record {
        sources = after-apart v w (source m) (source n) apart one.from two.from;
        targets = before-apart v w (target m) (target n) apart one.to two.to;
        from_to = from-to v w (source m) (target n) apart one.from two.to;
        to_from = to-from v w (target m) (source n) apart one.to two.from;
      }

  all-beside : (vs : List ℕ) (moves : List Move) → IsDistinct vs → AllZip (IsMoveOf flow places point next) vs moves
      → AreAllBeside moves
  all-beside [] [] once of = tt
  all-beside [] (m ∷ moves) once of = absurd of
  all-beside (v ∷ vs) [] once of = absurd of
  all-beside (v ∷ vs) (m ∷ moves) once of = (
    zip-both (IsMoveOf flow places point next) (λ w. w ≢ v) (AreBeside m) (λ w n other two. beside v w m n other of.0 two)
        vs moves once.0 of.1,
    all-beside vs moves once.1 of.1,
  )

  pub can-be-made : (vs : List ℕ) (moves : List Move) → AreMovesOf flow places point next vs moves
      → copies.AreMoves 16 moves
  can-be-made vs moves of =
      record {
        short = omega arith;
        each = zip-all (IsMoveOf flow places point next) (IsMove 16) (λ v m one. is-move v m one) vs moves of.each;
        beside = all-beside vs moves of.once of.each;
      }

  -- ---- what the moves do

  holds : (s : State) → AreHeld flow (standing_after places point) (standing_before places next) s → (v : ℕ) (m : Move)
      → IsMoveOf flow places point next v m → Holds places.frame s m
  holds s held v m of =
      let there = held v m.width (source m) (target m) of.width of.from of.to in
      record {
        number = there.0;
        contains = there.2;
        fits = fits m.width there.0 there.1;
        from_inside = is-inside places.frame (source m) (after-for v (source m) of.from).inside;
        to_inside = is-inside places.frame (target m) (before-for v (target m) of.to).inside;
      }

  waits : (v : ℕ) (m : Move) → IsMoveOf flow places point next v m → IsWaiting 16 m
  waits v m of =
      let move = is-move v m of in
      record {
        from_fits = inl move.from_fits;
        to_fits = move.to_fits;
        slots = not-slots (source m) (target m) move.slots of.changes;
      }

  -- where a variable stays, no other one moves to
  beside-staying : (v : ℕ) (place : Place) → standing_before places next v ≡ Some place
      → standing_after places point v ≡ Some place → (w : ℕ) (m : Move) → IsMoveOf flow places point next w m
      → ArePlacesApart place (target m)
  beside-staying v place to from w m of =
      elim (eqb_tells v w) [
        | inl same ↦ absurd (of.changes (same_Some (source m) (target m)
            (sym of.from ∙ (ap (standing_after places point) (sym same.1) ∙ (from
            ∙ (sym to ∙ (ap (standing_before places next) same.1 ∙ of.to)))))))
        | inr other ↦ before-apart v w place (target m) other.1 to of.to
      ]

  pub copied : (vs : List ℕ) (moves : List Move) (insns : List Insn) → AreAllMoves flow places point next vs moves
      → CopyAtOnce moves 16 insns → Copies flow (placement_in flow places (λ from to. insns)) point next
  copied vs moves insns all copy site s framed held =
      let four = four-words flow places legal.frame in
      let of = all.moves_of.each in
      let are-held : AllByRecursion (Holds places.frame s) moves =
      zip-all (IsMoveOf flow places point next) (Holds places.frame s) (λ v m one. holds s held v m one) vs moves of in
      let end = copy site places.frame s framed (omega arith) four are-held in
      let t : State = end.0 in
      let done : Copied moves 16 s t = end.3 in (
        t,
        end.1,
        end.2,
        record {
          moved = λ v w width old new has from to fit contains. elim (all.all v) [
            | inl among ↦ let found = zip-found (IsMoveOf flow places point next) (Moves s t) v vs moves of done.moved
                among in
                moved-so s t w width found.0.width old (source found.0) new (target found.0)
                (same_Some width found.0.width (sym has ∙ found.1.width))
                (same_Some old (source found.0) (sym from ∙ found.1.from))
                (same_Some new (target found.0) (sym to ∙ found.1.to)) found.2 contains
            | inr stays ↦ let there = stays new to in
                contains-after site places.frame 16 moves s t framed (omega arith) four
                (zip-all (IsMoveOf flow places point next) (IsWaiting 16) (λ x m one. waits x m one) vs moves of) are-held
                done.keeps width new w (place-for v width new has (before-for v new to))
                (is-inside places.frame new (before-for v new to).inside)
                (zip-all (IsMoveOf flow places point next) (λ m. ArePlacesApart new (target m))
                (λ x m one. beside-staying v new to there x m one) vs moves of)
                (subst (λ (p : Place). Contains s width p w) (same_Some old new (sym from ∙ there)) contains)
          ];
          keeps = keeps-stricter (copies.OutsideAll moves) _ (copies.ApartFromAll (word_of Ebp s) 16 moves) _ s t
              (λ k q. (
                zip-all (IsMoveOf flow places point next) (λ m. OutsidePlace (target m) k)
                    (λ v m one. q.0 v (target m) one.to) vs moves of,
                q.1,
                q.2,
              ))
              (λ a n q. (
                zip-all (IsMoveOf flow places point next) (λ m. ApartFromTarget (word_of Ebp s) m.width (target m) a n)
                    (λ v m one. narrower (word_of Ebp s) m.width (target m) a n (q.0 v (target m) one.to)) vs moves of,
                q.1,
              )) done.keeps;
        },
      )

  pub are-between : (vs : List ℕ) (moves : List Move) (insns : List Insn) → AreAllMoves flow places point next vs moves
      → CopyAtOnce moves 16 insns → length insns ≤ 20 → AllByRecursion IsStraight insns
      → AllByRecursion HasSpelling insns → AreBetween flow places point next insns
  are-between vs moves insns all copy few straight spelled =
      record {
        few = omega (arith, few);
        straight = straight;
        spelled = spelled;
        copies = copied vs moves insns all copy;
      }
