-- The routines can be assembled, and stand one behind the other.
use Rattle.std.proofs.Common.{arith, sym, subst, refl, []}
use Rattle.ia32_insn.specs.Items.{text_start, start_items, putchar_items, getchar_items, exit_items, check_items}
use Rattle.ia32_asm.specs.Sections.{CanAssemble}
use Rattle.elf_link.proofs.RoutineItems.{plainly_can, putchar_plainly, getchar_plainly, exit_plainly, check_plainly}
use Rattle.elf_link.proofs.Placing.{start_can, start_named, same_items}
use Rattle.elf_link.proofs.text.text_of.Goals as goal

pub put_routine-requires-clause-can : goal.put_routine-requires-clause-can
put_routine-requires-clause-can c =
    start_can c.args.addresses.now.stack c.args.addresses.now.depth c.args.main c.in_ok-start.start.items
    c.in_ok-start.ensures (omega arith) (omega arith)

pub put_routine-requires-2-clause-can : goal.put_routine-requires-2-clause-can
put_routine-requires-2-clause-can c = subst CanAssemble (sym c.in_ok-putchar.ensures)
    (plainly_can putchar_items putchar_plainly (omega arith))

pub put_routine-requires-3-clause-can : goal.put_routine-requires-3-clause-can
put_routine-requires-3-clause-can c = subst CanAssemble (sym c.in_ok-getchar.ensures)
    (plainly_can getchar_items getchar_plainly (omega arith))

pub put_routine-requires-4-clause-can : goal.put_routine-requires-4-clause-can
put_routine-requires-4-clause-can c = subst CanAssemble (sym c.in_ok-exit.ensures)
    (plainly_can exit_items exit_plainly (omega arith))

pub put_routine-requires-5-clause-can : goal.put_routine-requires-5-clause-can
put_routine-requires-5-clause-can c = subst CanAssemble (sym c.in_ok-check.ensures)
    (plainly_can check_items check_plainly (omega arith))

pub put_routine-requires-clause-named : goal.put_routine-requires-clause-named
put_routine-requires-clause-named c =
    start_named c.args.addresses.now c.args.sections.now.items c.args.addresses.now.stack c.args.addresses.now.depth
    c.args.main c.in_ok-start.start.items
    c.in_ok-start.ensures c.requires.order c.requires.laid c.requires.main_there (omega arith)

pub returns : goal.returns
returns c =
    record {
      start = c.put_routine.new.text.items;
      functions = c.put_sections.new.text.items;
      putchar = c.put_routine-2.new.text.items;
      getchar = c.put_routine-3.new.text.items;
      exit = c.put_routine-4.new.text.items;
      starts = same_items c.args.addresses.now text_start c.in_ok-start.start.items
          (start_items c.args.addresses.now.stack c.args.addresses.now.depth c.args.main)
          c.new-text.result.items [] c.put_routine.new.text.items c.in_ok-start.ensures c.new-text.ensures.items
          c.in_ok-put_routine.ensures;
      calls = c.in_ok-put_sections.ensures;
      puts = same_items c.args.addresses.now c.args.addresses.now.putchar c.in_ok-putchar.putchar.items putchar_items
          c.put_sections.new.text.items c.put_sections.new.text.items c.put_routine-2.new.text.items
          c.in_ok-putchar.ensures refl c.in_ok-put_routine-2.ensures;
      gets = same_items c.args.addresses.now c.args.addresses.now.getchar c.in_ok-getchar.getchar.items getchar_items
          c.put_routine-2.new.text.items c.put_routine-2.new.text.items c.put_routine-3.new.text.items
          c.in_ok-getchar.ensures refl c.in_ok-put_routine-3.ensures;
      exits = same_items c.args.addresses.now c.args.addresses.now.exit c.in_ok-exit.exit.items exit_items
          c.put_routine-3.new.text.items c.put_routine-3.new.text.items c.put_routine-4.new.text.items
          c.in_ok-exit.ensures refl c.in_ok-put_routine-4.ensures;
      checks = same_items c.args.addresses.now c.args.addresses.now.check c.in_ok-check.check.items check_items
          c.put_routine-4.new.text.items c.put_routine-4.new.text.items c.put_routine-5.new.text.items
          c.in_ok-check.ensures refl c.in_ok-put_routine-5.ensures;
    }
