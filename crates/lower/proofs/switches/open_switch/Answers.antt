use Rattle.std.proofs.Common.{rules, ap, sym, ◌≡◌, ◌∙◌, true}
use Rattle.c_tree.specs.Erased.{expression_of}
use Rattle.lower.proofs.Switched.{front-whole}
use Rattle.lower_lines.specs.Expressions.{part_of}
use Rattle.lower_lines.specs.Parts.{operand}
use Rattle.lower_lines.specs.Statements.{comparing_blocks}
use Rattle.lower_lines.specs.Variables.{Spot}
use Rattle.lower_builder.specs.Sites.{context_of}
use Rattle.lower_expressions.specs.Views.{after_of}
use Rattle.lower.proofs.switches.open_switch.Goals as goal

pub returns-clause-adds : goal.returns-clause-adds
returns-clause-adds c =
    let number : c.in_ok-x.x.number ≡ ((operand (context_of c.args.site.now) true
    (part_of (context_of c.args.site.now) (expression_of c.args.e.now))).spot 0).number =
    ap (λ (s : Spot). s.number) c.in_ok-x.ensures.spot in
    let blocks : c.in_ok-behind.field-0 ≡ comparing_blocks c.in_ok-cases.cases.items = search rules in
    let same : c.as_slice-4.result.now ≡ c.in_ok-cases.cases.items = search rules in
    front-whole (context_of c.args.site.now) c.args.n (part_of (context_of c.args.site.now) (expression_of
    c.args.e.now))
    c.args.labels.now c.args.statements (after_of c.args.after) c.in_ok-exit.exit c.next-first.result
    c.in_ok-starts.starts.count c.in_ok-otherwise.otherwise c.in_ok-behind.field-0 c.in_ok-tests.tests
    c.in_ok-x.x.number c.as_slice-4.result.now c.in_ok-emit.ensures c.in_ok-exit.ensures.block
    c.in_ok-exit.ensures.lines c.in_ok-exit.ensures.next c.next-first.ensures c.in_ok-starts.ensures.count
    c.in_ok-take_blocks.ensures.lines c.in_ok-take_blocks.ensures.next c.in_ok-otherwise.ensures
    (same ∙ c.in_ok-cases.ensures) (blocks ∙ ap comparing_blocks (sym same)) c.in_ok-tests.ensures.first
    c.in_ok-tests.ensures.lines c.in_ok-tests.ensures.next
    number c.in_ok-x.ensures.adds c.in_ok-compare.ensures
