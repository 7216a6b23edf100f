use Rattle.std.proofs.Common.{rules, ◌≡◌, ℕ, [], subst, sym}
use Rattle.c_tree.specs.Erased.{program_of}
use Rattle.c_tree.specs.Evaluation.{source_outcome}
use Rattle.flow_graph.specs.Running.{IsNeverStuck}
use Rattle.flow_graph.specs.States.{GraphProgram}
use Rattle.flow_graph.specs.WellFormed.{IsGraphProgram}
use Rattle.lower.specs.Graphs.{graphs_of}
use Rattle.lower_lines.specs.Lowering.{AreSmall, HasObjects, HaveMarks, HaveShapes, KeepsOutcome, MarksOnce}
use Rattle.lower_lines.specs.Programs.{lowered}
use Rattle.lower_lines.specs.Shown.{variables_shown}
use Rattle.lower_laws.specs.Declared.{IsDeclaredFirst}
use Rattle.lower_laws.specs.SettledLaws.{HaveLiveness, NothingLiveFirst}
use Rattle.lower.proofs.program.lower.Goals as goal

pub returns-clause-outcome : goal.returns-clause-outcome
returns-clause-outcome c =
    let e : graphs_of record {
      functions = c.in_ok-functions.functions;
      objects = c.in_ok-objects.objects;
      main = c.args.program.now.main;
    } ≡ lowered (program_of c.args.program.now) = search rules in
    subst (λ (g : GraphProgram). KeepsOutcome (program_of c.args.program.now) g) (sym e)
    (c.all_programs_lower.ensures (program_of c.args.program.now) c.requires.typed c.requires.memory)

pub returns-clause-well_formed : goal.returns-clause-well_formed
returns-clause-well_formed c =
    let e : graphs_of record {
      functions = c.in_ok-functions.functions;
      objects = c.in_ok-objects.objects;
      main = c.args.program.now.main;
    } ≡ lowered (program_of c.args.program.now) = search rules in
    subst (λ (g : GraphProgram). IsGraphProgram g) (sym e)
    (c.graphs_are_there.ensures (program_of c.args.program.now) c.requires.typed c.requires.memory)

pub returns-clause-never_stuck : goal.returns-clause-never_stuck
returns-clause-never_stuck c =
    let e : graphs_of record {
      functions = c.in_ok-functions.functions;
      objects = c.in_ok-objects.objects;
      main = c.args.program.now.main;
    } ≡ lowered (program_of c.args.program.now) = search rules in
    subst (λ (g : GraphProgram). IsNeverStuck g) (sym e)
    (c.never_stuck.ensures (lowered (program_of c.args.program.now))
    (variables_shown (program_of c.args.program.now) (λ (statement : ℕ). []))
    (λ input turns. (
      source_outcome (program_of c.args.program.now) (λ (statement : ℕ). []) input turns,
      c.all_programs_lower.ensures (program_of c.args.program.now) c.requires.typed c.requires.memory
          (λ (statement : ℕ). []) (λ statement. tt) input turns,
    )))

pub returns-clause-shapes : goal.returns-clause-shapes
returns-clause-shapes c =
    let e : graphs_of record {
      functions = c.in_ok-functions.functions;
      objects = c.in_ok-objects.objects;
      main = c.args.program.now.main;
    } ≡ lowered (program_of c.args.program.now) = search rules in
    subst (λ (g : GraphProgram). HaveShapes (program_of c.args.program.now) g) (sym e)
    (c.shapes_hold.ensures (program_of c.args.program.now) c.requires.typed)

pub returns-clause-has_objects : goal.returns-clause-has_objects
returns-clause-has_objects c =
    let e : graphs_of record {
      functions = c.in_ok-functions.functions;
      objects = c.in_ok-objects.objects;
      main = c.args.program.now.main;
    } ≡ lowered (program_of c.args.program.now) = search rules in
    subst (λ (g : GraphProgram). HasObjects (program_of c.args.program.now) g) (sym e)
    (c.objects_hold.ensures (program_of c.args.program.now))

pub returns-clause-marks : goal.returns-clause-marks
returns-clause-marks c =
    let e : graphs_of record {
      functions = c.in_ok-functions.functions;
      objects = c.in_ok-objects.objects;
      main = c.args.program.now.main;
    } ≡ lowered (program_of c.args.program.now) = search rules in
    subst (λ (g : GraphProgram). MarksOnce g) (sym e)
    ((c.marks_hold.ensures (program_of c.args.program.now) c.requires.typed).0)

pub returns-clause-statements : goal.returns-clause-statements
returns-clause-statements c =
    let e : graphs_of record {
      functions = c.in_ok-functions.functions;
      objects = c.in_ok-objects.objects;
      main = c.args.program.now.main;
    } ≡ lowered (program_of c.args.program.now) = search rules in
    subst (λ (g : GraphProgram). HaveMarks (program_of c.args.program.now) g) (sym e)
    ((c.marks_hold.ensures (program_of c.args.program.now) c.requires.typed).1)

pub returns-clause-small : goal.returns-clause-small
returns-clause-small c =
    let e : graphs_of record {
      functions = c.in_ok-functions.functions;
      objects = c.in_ok-objects.objects;
      main = c.args.program.now.main;
    } ≡ lowered (program_of c.args.program.now) = search rules in
    subst (λ (g : GraphProgram). AreSmall (program_of c.args.program.now) g) (sym e)
    (c.graphs_are_small.ensures (program_of c.args.program.now) c.requires.typed c.requires.memory)

pub returns-clause-liveness : goal.returns-clause-liveness
returns-clause-liveness c =
    let e : graphs_of record {
      functions = c.in_ok-functions.functions;
      objects = c.in_ok-objects.objects;
      main = c.args.program.now.main;
    } ≡ lowered (program_of c.args.program.now) = search rules in
    subst (λ (g : GraphProgram). HaveLiveness (program_of c.args.program.now) g) (sym e)
    (c.liveness_holds.ensures (program_of c.args.program.now) c.requires.typed)

pub returns-clause-first_points : goal.returns-clause-first_points
returns-clause-first_points c =
    let e : graphs_of record {
      functions = c.in_ok-functions.functions;
      objects = c.in_ok-objects.objects;
      main = c.args.program.now.main;
    } ≡ lowered (program_of c.args.program.now) = search rules in
    subst (λ (g : GraphProgram). IsDeclaredFirst (program_of c.args.program.now)
    → NothingLiveFirst (program_of c.args.program.now) g) (sym e)
    (c.first_points_hold.ensures (program_of c.args.program.now) c.requires.typed)
