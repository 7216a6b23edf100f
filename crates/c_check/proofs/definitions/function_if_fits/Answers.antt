use Rattle.std.proofs.Common.{subst}
use Rattle.c_tree.specs.Program.{Statements}
use Rattle.c_typing.specs.Checked.{fits}
use Rattle.c_typing.specs.Files.{function_with}
use Rattle.c_check_names.specs.Views as views
use Rattle.c_check.specs.FileAnswers.{IsFunction}
use Rattle.c_check.proofs.Bodies.{function_fails, function_said}
use Rattle.c_check.proofs.definitions.function_if_fits.Goals as goal

pub returns-in-Fails : goal.returns-in-Fails
returns-in-Fails c = λ first h part before after said.
    let g = views.signature_of c.args.signature.now in
    function_fails part c.args.part c.in-Fails.fault
    (λ statements. fits (function_with c.args.name.now g first c.args.scopes.now statements)) before after c.in-Fails.is
    said

pub returns-in_ok-whole-in-Fits : goal.returns-in_ok-whole-in-Fits
returns-in_ok-whole-in-Fits c = λ first h part before after said.
    let g = views.signature_of c.args.signature.now in
    function_said part c.args.part c.in-Fits.body (function_with c.args.name.now g first c.args.scopes.now)
    c.in_ok-whole-in-Fits.whole before after c.in-Fits.is
    (λ x same. subst (λ (y : Statements). IsFunction (function_with c.args.name.now g first c.args.scopes.now y)
    c.in_ok-whole-in-Fits.whole) same (c.in_ok-whole-in-Fits.ensures first h)) said
