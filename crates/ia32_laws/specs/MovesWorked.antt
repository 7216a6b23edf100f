-- A placement in which a variable moves from one register to another supports its graph.
use Rattle.std.specs.Prelude.{ℕ, zero, suc, [], ◌∷◌, pos, Option, Some, None}
use Rattle.pcc_base.specs.declared.run.Width.TheVariants.{Two}
use Rattle.ia32_insn.specs.declared.register_names.Reg32.TheVariants.{Eax, Edx}
use Rattle.ia32_insn.specs.Places.{Place, InWord}
use Rattle.ia32_insn.specs.declared.operand.Rm32.TheVariants as rm
use Rattle.ia32_insn.specs.declared.insn.Insn.TheVariants as insn
use Rattle.flow_graph.specs.declared.op.Op.TheVariants as op
use Rattle.flow_graph.specs.Graphs.{Flow}
use Rattle.ia32_rows.specs.Placements.{Placement}
use Rattle.ia32_laws.specs.Supports.{Supports}

-- a variable becomes 5, and is returned
abbrev pub returns_five : Flow
returns_five =
    record {
      widths = Two ∷ [];
      arrays = [];
      blocks = (0 ∷ 1 ∷ []) ∷ [];
      ops = op.Const 0 (pos 5) ∷ op.Return (Some 0) ∷ [];
    }

-- the first variable in this place, and no other anywhere
abbrev pub first_in : Place → ℕ → Option Place
first_in place zero = Some place
first_in place (suc v) = None

-- it stands nowhere before the first point, and in EDX before later ones
abbrev pub in_edx : ℕ → ℕ → Option Place
in_edx zero v = None
in_edx (suc point) v = first_in (InWord Edx) v

-- it stands in EAX after the first point, and nowhere after later ones
abbrev pub in_eax : ℕ → ℕ → Option Place
in_eax zero v = first_in (InWord Eax) v
in_eax (suc point) v = None

abbrev pub eax_to_edx : Placement
eax_to_edx =
    record {
      frame = 16;
      zeroed = 16;
      arrays = [];
      before = in_edx;
      after = in_eax;
      between = λ point next. insn.Mov (rm.Reg Edx) Eax ∷ [];
    }

abbrev pub MovesSupport : Type 0
MovesSupport = Supports returns_five eax_to_edx
