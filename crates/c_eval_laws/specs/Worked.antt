-- A program on which a bound that isn't above the turns is met too early.
use Rattle.std.specs.Prelude.{ℕ, pos, [], ◌∷◌, codes, Some}
use Rattle.pcc_base.specs.Outcome.{nothing_listed}
use Rattle.c_tree.specs.declared.types.IntegerType.TheVariants.{Int}
use Rattle.c_tree.specs.Evaluation.{call_within, first_state}
use Rattle.c_tree.specs.Program.{int, Expression, Constant, Call, NoMore, Return, Done, Next, Function}
use Rattle.c_tree.specs.Program.{Program}
use Rattle.c_tree.specs.Store.{Evaluated, Held, State, no_activation}

-- a function without locals that returns this
abbrev returning : ℕ → Expression → Function
returning number value = record {
  name = codes "f";
  result = int;
  parameters = 0;
  locals = [];
  arrays = [];
  body = Next (Return number (Some value)) Done;
}

-- `int f(void){return 7;} int main(void){return f();}`
abbrev pub calls_f : Program
calls_f = record {
  objects = [];
  functions = returning 0 (Constant Int (pos 7)) ∷ returning 1 (Call int 0 NoMore) ∷ [];
  main = 1;
}

-- what its `main` comes to over a bound of calls, from the first state of so many turns
abbrev pub main_within : ℕ → ℕ → Evaluated Held
main_within bound turns = call_within bound calls_f nothing_listed 1 [] (first_state calls_f [] turns)

-- the state in which `main` is active and its one statement was visited, with so many turns left
abbrev pub after_turns : ℕ → State
after_turns turns = record (first_state calls_f [] turns) {
  visits = record { statement = 1; values = [] } ∷ [];
  active = no_activation ∷ [];
}
