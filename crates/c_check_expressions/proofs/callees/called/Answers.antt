use Rattle.std.proofs.Common.{rules, ◌≡◌, [], Bor}
use Rattle.std.specs.Prelude.{Option, option_map}
use Rattle.c_check_names.specs.Views.{meaning_of}
use Rattle.c_check_names.specs.declared.meaning.Meaning.{Meaning as Shown}
use Rattle.c_typing.specs.Expressions.{called, not_called}
use Rattle.c_typing.specs.Names.{Meaning}
use Rattle.c_check_expressions.specs.Callees.{parameters_of}
use Rattle.c_check_expressions.proofs.Uncalled.{uncalled}
use Rattle.c_check_expressions.proofs.callees.called.Goals as goal

pub returns-in-Some-Local : goal.returns-in-Some-Local
returns-in-Some-Local c = λ gs before typed count said.
    let m : Option Meaning = option_map (λ (m : Bor Shown). meaning_of m.now) c.args.meaning in
    let none : parameters_of m ≡ [] = search rules in
    let is : called c.args.scopes.now c.args.name.now gs m ≡ not_called c.local_called.result gs = search rules in
    uncalled m c.local_called.result c.args.scopes.now c.args.name.now gs c.args.given.values c.no_function.result
    before
    c.args.notes.now _ none is c.no_function.ensures said

pub returns-in-Some-Object : goal.returns-in-Some-Object
returns-in-Some-Object c = λ gs before typed count said.
    let m : Option Meaning = option_map (λ (m : Bor Shown). meaning_of m.now) c.args.meaning in
    let none : parameters_of m ≡ [] = search rules in
    let is : called c.args.scopes.now c.args.name.now gs m ≡ not_called c.number_called.result gs = search rules in
    uncalled m c.number_called.result c.args.scopes.now c.args.name.now gs c.args.given.values
    c.no_function-in-Some-Object.result before
    c.args.notes.now _ none is c.no_function-in-Some-Object.ensures said

pub returns-in-Some-LocalArray : goal.returns-in-Some-LocalArray
returns-in-Some-LocalArray c = λ gs before typed count said.
    let m : Option Meaning = option_map (λ (m : Bor Shown). meaning_of m.now) c.args.meaning in
    let none : parameters_of m ≡ [] = search rules in
    let is : called c.args.scopes.now c.args.name.now gs m ≡ not_called c.array_called.result gs = search rules in
    uncalled m c.array_called.result c.args.scopes.now c.args.name.now gs c.args.given.values
    c.no_function-in-Some-LocalArray.result before
    c.args.notes.now _ none is c.no_function-in-Some-LocalArray.ensures said

pub returns-in-None : goal.returns-in-None
returns-in-None c = λ gs before typed count said.
    let m : Option Meaning = option_map (λ (m : Bor Shown). meaning_of m.now) c.args.meaning in
    let none : parameters_of m ≡ [] = search rules in
    let is : called c.args.scopes.now c.args.name.now gs m ≡ not_called c.undeclared.result gs = search rules in
    uncalled m c.undeclared.result c.args.scopes.now c.args.name.now gs c.args.given.values c.no_function-in-None.result
    before
    c.args.notes.now _ none is c.no_function-in-None.ensures said
