-- A small graph over a legal map in which nothing moves; and a move.
use Rattle.std.proofs.Common.{◌≡◌, ℕ, zero, suc, pos, Bool, cond, [], ◌∷◌, Some, None, inl, inr, refl, sym, ap}
use Rattle.std.proofs.Common.{subst, arith, rules, ◌∙◌}
use Rattle.std.proofs.lemmas.Bool.Decides.{eqb_tells}
use Rattle.std.proofs.lemmas.Option.{none-some, same_Some}
use Rattle.pcc_base.specs.declared.run.Width.{Width}
use Rattle.pcc_base.specs.declared.run.Width.TheVariants.{One, Two}
use Rattle.ia32_insn.specs.declared.register_names.Reg32.TheVariants.{Eax, Ebx}
use Rattle.ia32_insn.specs.Places.{Place, InWord}
use Rattle.ia32_insn.specs.State.{State}
use Rattle.ia32_insn.specs.Meaning.{word_of}
use Rattle.flow_graph.specs.declared.op.Op.{Op}
use Rattle.flow_graph.specs.declared.op.Op.TheVariants.{Const, Return}
use Rattle.flow_graph.specs.Graphs.{HasWidth, IsBlock, IsFlow, points_of}
use Rattle.flow_graph.specs.Liveness.{IsBehind, IsSuccessor, LeadsTo}
use Rattle.allocator.specs.WorkedBoards.{five_in_eax, five_returned, in_area}
use Rattle.puzzle_board.specs.declared.place.Place.{Place as BoardPlace}
use Rattle.puzzle_board.specs.Places.{place_in}
use Rattle.allocator.proofs.LegalExample.{legal-map, behind-first}
use Rattle.ia32_rows.specs.Contains.{Contains}
use Rattle.ia32_rows.specs.Copying.{Copies}
use Rattle.ia32_rows.proofs.Moves.{copy-puts}
use Rattle.ia32_rows.proofs.Sound.{word-below}
use Rattle.ia32_laws.specs.Supports.{AreMoves}
use Rattle.ia32_placements.specs.Laws.{AllMove}
use Rattle.ia32_placements.specs.Placed.{no_moves, placement_in}
use Rattle.ia32_placements.specs.Standings.{standing_after, standing_before, standing_if_any, standing_of}
use Rattle.ia32_placements.specs.Worked.{EaxSupports, EbxIsMoved, five_in_ebx, one_move}
use Rattle.ia32_placements.proofs.Whole.{legal-maps-support}

-- ---- the graph

block-is : (block : ℕ) → IsBlock five_returned (0 ∷ 0 ∷ []) block (points_of five_returned block)
block-is zero = record {
  at_home = (refl, (refl, tt));
  fits = ((Const 0 (pos 5), refl, ((Two, refl), tt)), ((Return (Some 0), refl, (refl, tt)), tt));
  once = (((λ e. omega (arith, e)), tt), (tt, tt));
  ends = ((Const 0 (pos 5), refl, refl), tt);
}
block-is (suc block) = record { at_home = tt; fits = tt; once = tt; ends = tt }

is-flow : IsFlow five_returned (0 ∷ 0 ∷ [])
is-flow = record {
  one_home = refl;
  each_block = block-is;
  arrays_fit = tt;
  few_elements = tt;
  numbers = (search rules, (tt, tt));
  few_variables = omega arith;
  few_arrays = omega arith;
  few_blocks = omega arith;
  few_points = omega arith;
}

one-edge : (point next : ℕ) → IsSuccessor five_returned point next → (0 ≡ point) × (1 ≡ next)
one-edge zero next (placed, op, e, leads) = (
  refl,
  behind-first next
      (subst (λ (o : Op). LeadsTo five_returned 0 next o) (sym (same_Some (Const 0 (pos 5)) op e)) leads),
)
one-edge (suc zero) next (placed, op, e, leads) =
    absurd (subst (λ (o : Op). LeadsTo five_returned 1 next o) (sym (same_Some (Return (Some 0)) op e)) leads)
one-edge (suc (suc point)) next (placed, op, e, leads) = absurd (none-some op e)

-- ---- nothing moves

stays : Copies five_returned (placement_in five_returned (five_in_eax 16) no_moves) 0 1
stays site s framed held = (
  s,
  refl,
  framed,
  record {
    moved = λ v w width old new has from to fits contains.
        subst (λ (p : Place). Contains s width p w) (same_Some old new (sym from ∙ to)) contains;
    keeps = record {
      cells = λ k outside. refl;
      loads = λ n a w apart e. e;
      left = refl;
      taken = refl;
      written = refl;
    };
  },
)

none-move : AllMove five_returned (five_in_eax 16) no_moves
none-move point next leads =
    let (first, second) = one-edge point next leads in
    subst (λ (p : ℕ). AreMoves five_returned (placement_in five_returned (five_in_eax 16) no_moves) p next) first
    (subst (λ (n : ℕ). AreMoves five_returned (placement_in five_returned (five_in_eax 16) no_moves) 0 n) second
    (record { few = omega arith; straight = tt; spelled = tt; copies = stays }))

pub eax-supports : EaxSupports
eax-supports = legal-maps-support five_returned (0 ∷ 0 ∷ []) (five_in_eax 16) no_moves is-flow legal-map none-move

-- ---- a move

-- where the variable stands on either side
only-one : (at : BoardPlace) (v : ℕ) (place : Place) → standing_if_any (place_in ((0, at) ∷ []) v) ≡ Some place
    → (0 ≡ v) × (standing_of at ≡ Some place)
only-one at v place e =
    elim (eqb_tells 0 v) [
      | inl same ↦ (same.1, sym (ap (λ (b : Bool). standing_if_any (cond b (Some at) None)) same.0) ∙ e)
      | inr other ↦ absurd (none-some place
          (sym (ap (λ (b : Bool). standing_if_any (cond b (Some at) None)) other.0) ∙ e))
    ]

behind : (v : ℕ) (old : Place) → standing_after five_in_ebx 0 v ≡ Some old → (0 ≡ v) × (InWord Eax ≡ old)
behind v old e = let (same, at) = only-one (in_area 0) v old e in (same, same_Some (InWord Eax) old at)

ahead : (v : ℕ) (new : Place) → standing_before five_in_ebx 1 v ≡ Some new → (0 ≡ v) × (InWord Ebx ≡ new)
ahead v new e = let (same, at) = only-one (in_area 1) v new e in (same, same_Some (InWord Ebx) new at)

word-moved : (v w : ℕ) (width : Width) (old new : Place) (s t : State) → HasWidth five_returned v width → 0 ≡ v
    → InWord Eax ≡ old → InWord Ebx ≡ new → word_of Ebx t ≡ word_of Eax s → Contains s width old w
    → Contains t width new w
word-moved v w width old new s t has zero-is from to same contains =
    subst (λ (p : Place). Contains t width p w) to
    (by width
    (same_Some Two width (subst (λ (k : ℕ). HasWidth five_returned k width) (sym zero-is) has))
    (subst (λ (p : Place). Contains s width p w) (sym from) contains))
  where
    by : (width : Width) → Two ≡ width → Contains s width (InWord Eax) w → Contains t width (InWord Ebx) w
    by Two e contains = same ∙ contains
    by One e contains = contains

moves : Copies five_returned (placement_in five_returned five_in_ebx one_move) 0 1
moves site s framed held =
    let (t, puts) = copy-puts site 16 (InWord Ebx) (InWord Eax) (word_of Eax s) s framed tt tt tt tt refl
    (word-below site.text site.low site.high Eax s framed.sound) in (
      t,
      puts.leads,
      puts.framed,
      record {
        moved = λ v w width old new has from to fits contains.
            word-moved v w width old new s t has (behind v old from).0 (behind v old from).1 (ahead v new to).1
            puts.holds contains;
        keeps = record {
          cells = λ k outside. puts.keeps.cells k (outside.0 0 (InWord Ebx) refl, outside.1, outside.2);
          loads = λ n a w apart e. puts.keeps.loads n a w tt e;
          left = puts.keeps.left;
          taken = puts.keeps.taken;
          written = puts.keeps.written;
        };
      },
    )

pub ebx-is-moved : EbxIsMoved
ebx-is-moved = record {
  few = omega arith;
  straight = (tt, tt);
  spelled = ((0x89 ∷ 0xc3 ∷ [], inl (0xc3 ∷ [], refl, (0xc3, refl, refl, refl, refl))), tt);
  copies = moves;
}
