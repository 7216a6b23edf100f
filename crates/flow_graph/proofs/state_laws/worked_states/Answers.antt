-- The states are computed.
use Rattle.std.proofs.Common.{ℕ, zero, suc, ◌<◌, pos, List, [], ◌∷◌, inl, refl, arith}
use Rattle.std.specs.List.{All}
use Rattle.std.proofs.lemmas.List.Elements.{All-from_recursion, All-nil}
use Rattle.pcc_base.specs.Objects.{FitsBytes, IsObject}
use Rattle.pcc_base.specs.declared.run.Width.TheVariants.{Two}
use Rattle.flow_graph.specs.Graphs.{IsBlock, IsFlow, LastIsEnd, points_of}
use Rattle.flow_graph.specs.WellFormed.{FitsWidth, IsGraph, NamesWithin}
use Rattle.flow_graph.specs.WorkedStates.{element_graph, element_program}
use Rattle.flow_graph.proofs.state_laws.worked_states.Goals as goal

-- ---- the program

-- both points are at home in block 0
abbrev homes : List ℕ
homes = 0 ∷ 0 ∷ []

each-block : (b : ℕ) → IsBlock element_graph homes b (points_of element_graph b)
each-block zero = record {
  at_home = (refl, (refl, tt));
  fits = ((_, refl, (refl, (refl, (refl, tt)))), ((_, refl, (refl, tt)), tt));
  once = ((λ e. absurd (omega (arith, e)), tt), (tt, tt));
  ends = ((_, refl, refl), tt);
}
each-block (suc b) = record { at_home = tt; fits = tt; once = tt; ends = tt }

flow-kept : IsFlow element_graph homes
flow-kept = record {
  one_home = refl;
  each_block = each-block;
  arrays_fit = tt;
  few_elements = tt;
  numbers = (omega arith, (tt, tt));
  few_variables = omega arith;
  few_arrays = omega arith;
  few_blocks = omega arith;
  few_points = omega arith;
}

graph-kept : IsGraph 1 1 element_graph
graph-kept = record {
  keeps = (homes, flow-kept);
  begins = omega arith;
  ended = All-from_recursion (LastIsEnd element_graph.ops) element_graph.blocks ((_, refl, refl), tt);
  names = All-from_recursion (NamesWithin 1 1) element_graph.ops (tt, (tt, tt));
}

-- the one element fits
seven-fits : All (FitsBytes 1) (pos 7 ∷ [])
seven-fits = All-from_recursion (FitsBytes 1) (pos 7 ∷ []) ((record { le = tt }, record { lt = tt }), tt)

object-kept : IsObject (record { width = 1; elements = pos 7 ∷ [] })
object-kept = record { width = inl refl; some_elements = omega arith; elements = seven-fits }

pub returns-clause-program : goal.returns-clause-program
returns-clause-program c = record {
  functions = All-from_recursion (IsGraph 1 1) element_program.functions (graph-kept, tt);
  objects = All-from_recursion IsObject element_program.objects (object-kept, tt);
  main = omega arith;
}

-- ---- the states

pub returns-clause-kept : goal.returns-clause-kept
returns-clause-kept c = record {
  placed = inl refl;
  active = (
    record {
      function = omega arith;
      variables = (omega arith, (record { sfits = omega arith }, (record { sfits = omega arith }, tt)));
      arguments = All-nil (FitsWidth element_program (0 ∷ []) Two);
      arrays = tt;
    },
    tt,
  );
  waiting = (refl, refl);
  few = omega arith;
  objects = (record { many = refl; fit = seven-fits }, tt);
  left = All-nil (λ byte. byte < 256);
  written = All-nil (λ byte. byte < 256);
}

pub returns-clause-great_step : goal.returns-clause-great_step
returns-clause-great_step c = refl

pub returns-clause-great : goal.returns-clause-great
returns-clause-great c h = (h.objects.0.fit 0 (pos 0) (omega arith)).1.lt

pub returns-clause-long_step : goal.returns-clause-long_step
returns-clause-long_step c = refl

pub returns-clause-long : goal.returns-clause-long
returns-clause-long c h = let many = h.objects.0.many in absurd (omega (arith, many))
