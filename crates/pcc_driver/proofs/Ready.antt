-- The program that typing accepts is one that is compiled.
use Rattle.std.proofs.lemmas.List.Elements.{All-from_recursion, All-weaker}
use Rattle.pcc_base.specs.Names.{IsName}
use Rattle.c_tree.specs.Program.{Function, Local, Program}
use Rattle.pcc_program.specs.Ready.{IsReady}
use Rattle.c_check_laws.specs.Named.{IsNamed}
use Rattle.map_lines.specs.MapLaws.{IsNamedFunction}
use Rattle.pcc_program.specs.Programs.{IsCompilable}

named_function : (f : Function) → IsNamed f → IsNamedFunction f
named_function f named =
    record { name = named.name; locals = All-from_recursion (λ (l : Local). IsName l.name) f.locals named.locals }

pub compilable : (p : Program) → IsReady p → IsCompilable p
compilable p ready =
    record {
      typed = ready.typed;
      declared = ready.declared;
      memory = ready.memory;
      names = All-weaker IsNamed IsNamedFunction named_function p.functions
          (All-from_recursion IsNamed p.functions ready.names);
      objects = ready.objects;
    }
