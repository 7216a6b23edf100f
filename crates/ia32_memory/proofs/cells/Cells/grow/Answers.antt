use Rattle.std.proofs.Common.{◌≡◌, ℕ, ◌+◌, ◌-◌, ◌≤◌, ◌++◌, length, replicate, refl, ap, ◌∙◌, arith, vec_capacity}
use Rattle.std.proofs.Common.{length-append}
use Rattle.std.proofs.lemmas.List.{length-replicate}
use Rattle.ia32_memory.proofs.KeepingCells.{resized, laid-grown}
use Rattle.ia32_memory.proofs.cells.Cells.grow.Goals as goal

pub returns-clause-kept : goal.returns-clause-kept
returns-clause-kept c =
    let old = c.args.self.now in
    let front = old.front.items in
    let more = c.args.count - length front in
    let new = c.resize.new.self in
    let room : c.args.count ≤ vec_capacity old.front = omega (arith, c.requires.there, c.requires.within.1) in
    let grown : new.items ≡ front ++ replicate more 0 =
    resized c.resize.result c.args.count old.front.len front new.items (c.resize.ensures.succeeds room)
    c.resize.ensures.items old.front.ok.0 c.requires.more in
    let long : length new.items ≡ length front + more =
    ap length grown ∙ length-append front (replicate more 0)
    ∙ ap (λ (n : ℕ). length front + n) (length-replicate more 0) in
    record {
      same = laid-grown old.size more front old.back.items new.items grown
          (omega (arith, c.requires.there, c.requires.more));
      within = (
        omega (arith, long, c.requires.there, c.requires.more),
        omega (arith, c.requires.within.1, c.resize.ensures.capacity),
      );
      size = refl;
      front = omega (arith, long);
    }
