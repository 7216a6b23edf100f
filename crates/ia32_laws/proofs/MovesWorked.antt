-- A placement in which a variable moves from one register to another supports its graph.
use Rattle.std.proofs.Common.{◌≡◌, ◌≢◌, ℕ, zero, suc, [], ◌∷◌, Some, inl, inr, refl}
use Rattle.std.proofs.Common.{sym, subst, ◌∙◌, arith, pos}
use Rattle.std.specs.Prelude.{map, slice_get, slice_index_or}
use Rattle.std.proofs.lemmas.Option.{none-some, same_Some}
use Rattle.pcc_base.specs.declared.run.Width.{Width}
use Rattle.pcc_base.specs.declared.run.Width.TheVariants.{Two}
use Rattle.ia32_insn.specs.declared.register_names.Reg32.TheVariants.{Eax, Ebp, Edx}
use Rattle.ia32_insn.specs.Places.{Place, InWord}
use Rattle.ia32_insn.specs.declared.operand.Rm32.TheVariants as rm
use Rattle.ia32_insn.specs.declared.insn.Insn.TheVariants as insn
use Rattle.ia32_insn.specs.declared.item.Item.TheVariants as item
use Rattle.ia32_insn.specs.State as machine
use Rattle.ia32_insn.specs.Meaning.{word_of}
use Rattle.flow_graph.specs.declared.op.Op.{Op}
use Rattle.flow_graph.specs.declared.op.Op.TheVariants as op
use Rattle.flow_graph.specs.Graphs.{HasWidth, IsIn, IsPlaced, following}
use Rattle.flow_graph.specs.Liveness.{IsBehind, IsSuccessor, LeadsTo, defined}
use Rattle.ia32_rows.specs.Sites.{Framed, Site}
use Rattle.ia32_rows.specs.Contains.{ApartFromPlace, Contains, Untouched}
use Rattle.ia32_rows.specs.Copying.{ApartFromAll, Copied, OutsideAll}
use Rattle.ia32_rows.specs.Effects.{Leads}
use Rattle.ia32_rows.specs.Laws.{ArePlacesApart}
use Rattle.ia32_rows.proofs.Kept.{keeps-stricter}
use Rattle.ia32_rows.proofs.Moves.{copy-puts}
use Rattle.ia32_rows.proofs.Sound.{word-below}
use Rattle.ia32_laws.specs.MovesWorked.{MovesSupport, eax_to_edx, first_in, in_eax, in_edx, returns_five}
use Rattle.ia32_laws.specs.Supports.{AreMoves, IsPlaceFor, SupportsPoint}

-- ---- the points

-- the one variable can stand in a register for variables
word-for : (v : ℕ) (place : Place) → (first_in (InWord Eax) v ≡ Some place) → IsPlaceFor returns_five eax_to_edx v place
word-for zero place e =
    subst (IsPlaceFor returns_five eax_to_edx 0) (same_Some (InWord Eax) place e)
    (record { inside = tt; holds = tt; apart = λ k below array h at. absurd (none-some array h) })
word-for (suc v) place e = absurd (none-some place e)

edx-for : (v : ℕ) (place : Place) → (first_in (InWord Edx) v ≡ Some place) → IsPlaceFor returns_five eax_to_edx v place
edx-for zero place e =
    subst (IsPlaceFor returns_five eax_to_edx 0) (same_Some (InWord Edx) place e)
    (record { inside = tt; holds = tt; apart = λ k below array h at. absurd (none-some array h) })
edx-for (suc v) place e = absurd (none-some place e)

-- nothing stands beside it
alone : (place one two : Place) (v w : ℕ) → v ≢ w → first_in place v ≡ Some one → first_in place w ≡ Some two
    → ArePlacesApart one two
alone place one two zero zero other e f = absurd (other refl)
alone place one two zero (suc w) other e f = absurd (none-some two f)
alone place one two (suc v) w other e f = absurd (none-some one e)

-- the point that makes it 5
constant : SupportsPoint returns_five eax_to_edx 0 (op.Const 0 (pos 5))
constant =
    record {
      before = λ v place e. absurd (none-some place e);
      after = word-for;
      before_apart = λ v w one two other e f. absurd (none-some one e);
      after_apart = λ v w one two other e f. alone (InWord Eax) one two v w other e f;
      read = λ v used. absurd used;
      written = λ v e. (InWord Eax, subst (λ (n : ℕ). first_in (InWord Eax) n ≡ Some (InWord Eax)) (same_Some 0 v e) refl);
      stays = λ v place other e. absurd (only v place other e);
    }
  where
    only : (v : ℕ) (place : Place) → defined (op.Const 0 (pos 5)) ≢ Some v → first_in (InWord Eax) v ≡ Some place → ⊥
    only zero place other e = other refl
    only (suc v) place other e = none-some place e

-- and the one that returns it
returning : SupportsPoint returns_five eax_to_edx 1 (op.Return (Some 0))
returning =
    record {
      before = edx-for;
      after = λ v place e. absurd (none-some place e);
      before_apart = λ v w one two other e f. alone (InWord Edx) one two v w other e f;
      after_apart = λ v w one two other e f. absurd (none-some one e);
      read = λ v used. (InWord Edx, there v used);
      written = λ v e. absurd (none-some v e);
      stays = λ v place other e. absurd (none-some place e);
    }
  where
    there : (v : ℕ) → IsIn v (0 ∷ []) → first_in (InWord Edx) v ≡ Some (InWord Edx)
    there v (inl e) = subst (λ (n : ℕ). first_in (InWord Edx) n ≡ Some (InWord Edx)) e refl
    there v (inr h) = absurd h

points : (point : ℕ) (o : Op) → IsPlaced returns_five point → slice_get returns_five.ops point ≡ Some o
    → SupportsPoint returns_five eax_to_edx point o
points zero o placed has =
    subst (SupportsPoint returns_five eax_to_edx 0) (same_Some (op.Const 0 (pos 5)) o has) constant
points (suc zero) o placed has =
    subst (SupportsPoint returns_five eax_to_edx 1) (same_Some (op.Return (Some 0)) o has) returning
points (suc (suc point)) o placed has = absurd (none-some o has)

-- ---- the move

-- the second point alone follows another, which is the first
only-one : (point next : ℕ) → IsSuccessor returns_five point next → (point ≡ 0) × (next ≡ 1)
only-one zero next (placed, o, has, leads) =
    (refl, behind (subst (LeadsTo returns_five 0 next) (sym (same_Some (op.Const 0 (pos 5)) o has)) leads))
  where
    behind : IsBehind returns_five 0 next → next ≡ 1
    behind (zero, e) = sym (same_Some 1 next e)
    behind (suc block, e) = absurd (nowhere block e)
      where
        nowhere : (k : ℕ) → following 0 (slice_index_or [] k []) ≡ Some next → ⊥
        nowhere zero e = none-some next e
        nowhere (suc k) e = none-some next e
only-one (suc zero) next (placed, o, has, leads) =
    absurd (subst (LeadsTo returns_five 1 next) (sym (same_Some (op.Return (Some 0)) o has)) leads)
only-one (suc (suc point)) next (placed, o, has, leads) = absurd (none-some o has)

copied : (site : Site) (s : machine.State) → Framed site 16 s
    → (t : machine.State) × Leads site (map item.Plain (insn.Mov (rm.Reg Edx) Eax ∷ [])) s t × Framed site 16 t
    × Copied returns_five (in_eax 0) (in_edx 1) s t
copied site s framed =
    let small = word-below site.text site.low site.high Eax s framed.sound in
    let (t, puts) = copy-puts site 16 (InWord Edx) (InWord Eax) (word_of Eax s) s framed tt tt tt tt refl small in (
      t,
      puts.leads,
      puts.framed,
      record {
        moved = λ v w width old new has from to fits contains. moved t puts.holds v w width old new has from to contains;
        keeps = keeps-stricter (Untouched (InWord Edx)) (OutsideAll (in_edx 1)) (ApartFromPlace (word_of Ebp s)
            (InWord Edx)) (ApartFromAll (word_of Ebp s) (in_edx 1)) s t
            (λ k outside. (outside.0 0 (InWord Edx) refl, outside.1, outside.2)) (λ a n apart. tt) puts.keeps;
      },
    )
  where
    moved : (t : machine.State) → word_of Edx t ≡ word_of Eax s → (v w : ℕ) (width : Width) (old new : Place)
        → HasWidth returns_five v width → in_eax 0 v ≡ Some old → in_edx 1 v ≡ Some new → Contains s width old w
        → Contains t width new w
    moved t holds zero w width old new has from to contains =
        let wide : Contains s Two (InWord Eax) w =
        subst (λ (place : Place). Contains s Two place w) (sym (same_Some (InWord Eax) old from))
        (subst (λ (d : Width). Contains s d old w) (sym (same_Some Two width has)) contains) in
        subst (λ (d : Width). Contains t d new w) (same_Some Two width has)
        (subst (λ (place : Place). Contains t Two place w) (same_Some (InWord Edx) new to) (holds ∙ wide))
    moved t holds (suc v) w width old new has from to contains = absurd (none-some old from)

moves : (point next : ℕ) → IsSuccessor returns_five point next → AreMoves returns_five eax_to_edx point next
moves point next leads =
    let at = only-one point next leads in
    subst (λ (p : ℕ). AreMoves returns_five eax_to_edx p next) (sym at.0)
    (subst (AreMoves returns_five eax_to_edx 0) (sym at.1)
    (record {
      few = omega arith;
      straight = (tt, tt);
      spelled = ((0x89 ∷ 0xc2 ∷ [], inl (0xc2 ∷ [], refl, (0xc2, refl, refl, refl, refl))), tt);
      copies = λ site s framed held. copied site s framed;
    }))

stood : (point next v : ℕ) (place : Place) → IsSuccessor returns_five point next → in_edx next v ≡ Some place
    → (old : Place) × (in_eax point v ≡ Some old)
stood point next v place leads e =
    let at = only-one point next leads in
    subst (λ (p : ℕ). (old : Place) × (in_eax p v ≡ Some old)) (sym at.0)
    (there v (subst (λ (n : ℕ). in_edx n v ≡ Some place) at.1 e))
  where
    there : (v : ℕ) → first_in (InWord Edx) v ≡ Some place → (old : Place) × (first_in (InWord Eax) v ≡ Some old)
    there zero f = (InWord Eax, refl)
    there (suc v) f = absurd (none-some place f)

-- ---- the whole

pub moves-support : MovesSupport
moves-support =
    record {
      four_words = omega arith;
      words = omega arith;
      below_registers = omega arith;
      zeroed_words = omega arith;
      arrays = record {
        as_many = refl;
        inside = λ k below array e f. absurd (none-some array e);
        apart = λ k l below other one two distinct e f g h. absurd (none-some one e);
      };
      cleared = λ k below array e f. absurd (none-some array e);
      points = points;
      begins = λ point v place first e.
          absurd (none-some place (subst (λ (p : ℕ). in_edx p v ≡ Some place) (sym (same_Some 0 point first)) e));
      moves = moves;
      stood = stood;
    }
