-- One command behind the other.
use Rattle.pcc_words.specs.App as apps
use Rattle.pcc_words.proofs.app.app.Goals as goal

pub returns : goal.returns
returns c =
    let one = c.with_command-with_compile.ensures apps.top apps.compile c.top.ensures c.compile.ensures in
    let two = c.with_command-with_run.ensures apps.with_compile apps.run one c.run.ensures in
    let three = c.with_command-with_eval.ensures apps.with_run apps.eval two c.eval.ensures in
    let four = c.with_command-with_solve.ensures apps.with_eval apps.solve three c.solve.ensures in
    let five = c.with_command-with_generate.ensures apps.with_solve apps.generate four c.generate.ensures in
    let six = c.with_command-with_selftest.ensures apps.with_generate apps.selftest five c.selftest.ensures in
    let seven = c.with_command-with_least.ensures apps.with_selftest apps.least six c.least.ensures in
    c.with_command.ensures apps.with_least apps.board seven c.board.ensures
