-- The moves that change something, one step after another, and the end.
use Rattle.std.proofs.Common.{◌≡◌, ◌≢◌, ℕ, zero, suc, ◌+◌, ◌<◌, ◌≤◌, Bool, true, false, List, [], ◌∷◌, ◌++◌, length, map}
use Rattle.std.proofs.Common.{cond, refl, sym, ap, subst, ◌∙◌, inl, inr, arith, length-append}
use Rattle.std.specs.Prelude.{⊤, ◌⊎◌, not, slice_get, filter}
use Rattle.std.specs.List.{AllByRecursion}
use Rattle.std.proofs.lemmas.List.{map-append}
use Rattle.ia32_insn.specs.Places.{Place, InWord, InByte, InSlot}
use Rattle.ia32_insn.specs.declared.insn.Insn.{Insn}
use Rattle.ia32_insn.specs.declared.item.Item.{Item}
use Rattle.ia32_insn.specs.State.{State}
use Rattle.ia32_insn.specs.Meaning.{word_of}
use Rattle.ia32_insn.specs.declared.register_names.Reg32.TheVariants.{Ebp}
use Rattle.ia32_insn.specs.Items.{plain}
use Rattle.ia32_rows.specs.Sites.{Site, Framed}
use Rattle.ia32_insn.specs.Spelling.{HasSpelling}
use Rattle.ia32_rows.specs.Effects.{IsStraight, Leads}
use Rattle.ia32_rows.specs.Contains.{Contains, OutsidePlace}
use Rattle.ia32_rows.specs.Laws.{ArePlacesApart}
use Rattle.ia32_rows.proofs.Kept.{keeps-same}
use Rattle.ia32_rows.proofs.Straight.{leads-join}
use Rattle.parallel_copies.specs.declared.moves.Move.{Move}
use Rattle.parallel_copies.specs.Overlap.{is_idle, is_same}
use Rattle.parallel_copies.specs.Copies.{ApartFromAll, ApartFromTarget, AreBeside, AreMoves, AreOneSlot, CopyAtOnce, Copied}
use Rattle.parallel_copies.specs.Copies.{Holds, IsMove, IsPlaceFor, Moves, OutsideAll, source, target}
use Rattle.parallel_copies.specs.Steps.{Advances, AreWaiting, Came, IsWaiting, NotSlots, Reaches, is_busy, weight}
use Rattle.parallel_copies.proofs.Lists.{all-append, all-at, all-from, all-map, all-two}
use Rattle.parallel_copies.proofs.Apart.{one-place}
use Rattle.parallel_copies.proofs.Beside.{beside-or_same}
use Rattle.parallel_copies.proofs.Keeping.{contains-after, keeps-rest}
use Rattle.parallel_copies.proofs.Stuck.{all-filtered, beside-filtered, not-false as turned}
use Rattle.parallel_copies.proofs.Counting.{few-moves}

-- ---- the moves that change something

busy-slots : (p q : Place) → not (is_idle p q) ≡ true → NotSlots p q
busy-slots (InSlot k) (InSlot j) e = cc
busy-slots (InSlot k) (InWord r) e = tt
busy-slots (InSlot k) (InByte r) e = tt
busy-slots (InWord r) q e = tt
busy-slots (InByte r) q e = tt

-- a move whose slots are one, and that isn't busy, leads to where it comes from
pub idle-same : (p q : Place) → AreOneSlot p q → not (is_idle p q) ≡ false → p ≡ q
idle-same (InSlot k) (InSlot j) h e = ap InSlot h
idle-same (InSlot k) (InWord r) h e = cc
idle-same (InSlot k) (InByte r) h e = cc
idle-same (InWord r) (InWord q) h e = one-place (InWord r) (InWord q) (turned (is_same (InWord r) (InWord q)) e)
idle-same (InByte r) (InByte q) h e = one-place (InByte r) (InByte q) (turned (is_same (InByte r) (InByte q)) e)
idle-same (InWord r) (InByte q) h e = cc
idle-same (InWord r) (InSlot k) h e = cc
idle-same (InByte r) (InWord q) h e = cc
idle-same (InByte r) (InSlot k) h e = cc

pub busy-waiting : (word : ℕ) (moves : List Move) → AreMoves word moves → AreWaiting word (filter is_busy moves)
busy-waiting word moves h =
    record {
      short = h.short;
      each = all-filtered is_busy (IsWaiting word) moves
          (all-map (IsMove word) (λ m. is_busy m ≡ true → IsWaiting word m) moves
          (λ m k e. record {
            from_fits = inl k.from_fits;
            to_fits = k.to_fits;
            slots = busy-slots (source m) (target m) e;
          }) h.each);
      beside = beside-filtered is_busy moves h.beside;
    }

pub busy-few : (word : ℕ) (moves : List Move) → AreMoves word moves
    → (length (filter is_busy moves) ≤ 16) × (weight (filter is_busy moves) ≤ 20)
busy-few word moves h =
    let waits = busy-waiting word moves h in
    few-moves word (filter is_busy moves) waits.beside
    (all-filtered is_busy (λ m. IsPlaceFor word m.width (source m)) moves
    (all-map (IsMove word) (λ m. is_busy m ≡ true → IsPlaceFor word m.width (source m)) moves (λ m k e. k.from_fits) h.each))
    (all-map (IsWaiting word) (λ m. IsPlaceFor word m.width (target m)) (filter is_busy moves) (λ m w. w.to_fits) waits.each)
    (all-map (IsWaiting word) (λ m. NotSlots (source m) (target m)) (filter is_busy moves) (λ m w. w.slots) waits.each)

restored : (P : Move → Type 0) (moves : List Move) → AllByRecursion P (filter is_busy moves)
    → AllByRecursion (λ m. is_busy m ≡ false → P m) moves → AllByRecursion P moves
restored P [] h k = tt
restored P (x ∷ xs) h k = chosen (is_busy x) refl h (restored P xs)
  where
    chosen : (b : Bool) → is_busy x ≡ b → AllByRecursion P (cond b (x ∷ filter is_busy xs) (filter is_busy xs))
        → (AllByRecursion P (filter is_busy xs) → AllByRecursion (λ m. is_busy m ≡ false → P m) xs → AllByRecursion P xs)
        → AllByRecursion P (x ∷ xs)
    chosen true e all more = (all.0, more all.1 k.1)
    chosen false e all more = (k.0 e, more all k.1)

clash : (b : Bool) → b ≡ true → b ≡ false → ⊥
clash b e f = cc

-- the others are made by doing nothing
pub busy-reaches : (word : ℕ) (moves : List Move) → AreMoves word moves → Reaches word moves (filter is_busy moves) []
busy-reaches word moves h site frame s framed low high holds =
    let busy : List Move = filter is_busy moves in
    let waits = busy-waiting word moves h in
    let now : AllByRecursion (Holds frame s) busy =
    all-filtered is_busy (Holds frame s) moves
    (all-map (Holds frame s) (λ m. is_busy m ≡ true → Holds frame s m) moves (λ m k e. k) holds) in (
      s,
      record {
        leads = refl;
        framed = framed;
        holds = now;
        rest = λ t copied. record {
          moved = restored (Moves s t) moves copied.moved
              (all-from (λ m. is_busy m ≡ false → Moves s t m) moves (λ i m there idle n is.
              let mine = all-at (IsMove word) moves i m there h.each in
              let held = all-at (Holds frame s) moves i m there holds in
              let same = idle-same (source m) (target m) mine.slots idle in
              let apart : AllByRecursion (λ x. ArePlacesApart (target m) (target x)) busy =
              all-filtered is_busy (λ x. ArePlacesApart (target m) (target x)) moves
              (all-map (λ x. (m ≡ x) ⊎ AreBeside m x) (λ x. is_busy x ≡ true → ArePlacesApart (target m) (target x)) moves
              (λ x either e. elim either [
                | inl eq ↦ absurd (clash (is_busy m) (ap is_busy eq ∙ e) idle)
                | inr b ↦ b.targets
              ]) (beside-or_same moves i m there h.beside)) in
              contains-after site frame word busy s t framed low high waits.each now copied.keeps m.width (target m) n
              mine.to_fits held.to_inside apart (subst (λ (p : Place). Contains s m.width p n) same is)));
          keeps = keeps-rest word moves busy s s t refl
              (keeps-same (OutsideAll moves) (ApartFromAll (word_of Ebp s) word moves) s)
              (λ k q. (
                all-filtered is_busy (λ m. OutsidePlace (target m) k) moves
                    (all-map (λ m. OutsidePlace (target m) k) (λ m. is_busy m ≡ true → OutsidePlace (target m) k) moves
                    (λ m x e. x) q.0),
                q.1,
                q.2,
              ))
              (λ b a k l. (
                all-filtered is_busy (λ m. ApartFromTarget b m.width (target m) a k) moves
                    (all-map (λ m. ApartFromTarget b m.width (target m) a k)
                    (λ m. is_busy m ≡ true → ApartFromTarget b m.width (target m) a k) moves (λ m x e. x) l.0),
                l.1,
              )) copied.keeps;
        };
      },
    )

-- ---- one step after another

pub reaches-then : (word : ℕ) (moves old new : List Move) (before after : List Insn) → Reaches word moves old before
    → Advances word old new before after → Reaches word moves new after
reaches-then word moves old new before after first step site frame s framed low high holds =
    let one = first site frame s framed low high holds in
    let u : State = one.0 in
    let two = step.reaches site frame u one.1.framed low high one.1.holds in
    let v : State = two.0 in
    let joined : map plain after ≡ map plain before ++ map plain step.added =
    ap (map plain) step.joined ∙ map-append plain before step.added in (
      v,
      record {
        leads = subst (λ (items : List Item). Leads site items s v) (sym joined)
            (leads-join site (map plain before) (map plain step.added) s u v one.1.leads two.1.leads);
        framed = two.1.framed;
        holds = two.1.holds;
        rest = λ t copied. one.1.rest t (two.1.rest t copied);
      },
    )

-- as many instructions as the moves weighed at first
pub room-then : (word : ℕ) (old new : List Move) (before after : List Insn) → Advances word old new before after
    → length before + weight old ≤ 20 → length after + weight new ≤ 20
room-then word old new before after step h =
    let joined : length after ≡ length before + length step.added =
    ap (λ (l : List Insn). length l) step.joined ∙ length-append before step.added in
    let room = step.room in
    omega (arith, joined)

-- what waits after some steps, and the instructions so far
pub record IsMaking (word : ℕ) (moves waiting : List Move) (insns : List Insn) : Type 0 where
  pub waits : AreWaiting word waiting
  pub room : length insns + weight waiting ≤ 20
  pub straight : AllByRecursion IsStraight insns
  pub spelled : AllByRecursion HasSpelling insns
  pub reaches : Reaches word moves waiting insns

all-joined : (P : Insn → Type 0) (before after added : List Insn) → after ≡ before ++ added → AllByRecursion P before
    → AllByRecursion P added → AllByRecursion P after
all-joined P before after added e h k =
    subst (λ (l : List Insn). AllByRecursion P l) (sym e) (all-append P before added h k)

pub making-first : (word : ℕ) (moves waiting : List Move) (insns : List Insn) → AreMoves word moves
    → waiting ≡ filter is_busy moves → insns ≡ [] → IsMaking word moves waiting insns
making-first word moves waiting insns h e f =
    let few = (busy-few word moves h).1 in
    let start : IsMaking word moves (filter is_busy moves) [] = record {
      waits = busy-waiting word moves h;
      room = omega (arith, few);
      straight = tt;
      spelled = tt;
      reaches = busy-reaches word moves h;
    } in
    subst (λ (l : List Insn). IsMaking word moves waiting l) (sym f)
    (subst (λ (l : List Move). IsMaking word moves l []) (sym e) start)

pub making-more : (word : ℕ) (moves old new : List Move) (before after : List Insn) → IsMaking word moves old before
    → Advances word old new before after → IsMaking word moves new after
making-more word moves old new before after so_far step =
    record {
      waits = step.waiting;
      room = room-then word old new before after step so_far.room;
      straight = all-joined IsStraight before after step.added step.joined so_far.straight step.straight;
      spelled = all-joined HasSpelling before after step.added step.joined so_far.spelled step.spelled;
      reaches = reaches-then word moves old new before after so_far.reaches step;
    }

-- ---- the end

pub all-made : (word : ℕ) (moves : List Move) (insns : List Insn) → Reaches word moves [] insns
    → CopyAtOnce moves word insns
all-made word moves insns reaches site frame s framed low high holds =
    let end = reaches site frame s framed low high holds in
    let u : State = end.0 in (
      u,
      end.1.leads,
      end.1.framed,
      end.1.rest u (record {
        moved = tt;
        keeps = keeps-same (OutsideAll []) (ApartFromAll (word_of Ebp u) word []) u;
      }),
    )

pub making-last : (word : ℕ) (moves waiting : List Move) (insns : List Insn) → IsMaking word moves waiting insns
    → waiting ≡ [] → CopyAtOnce moves word insns
making-last word moves waiting insns h e =
    all-made word moves insns (subst (λ (l : List Move). Reaches word moves l insns) e h.reaches)
