-- The three tests together.
use Rattle.std.proofs.Common.{◌∙◌, sym, subst, Bool, List, map, AllPairs, false, true≢false}
use Rattle.std.specs.Bool.{Decides}
use Rattle.std.proofs.lemmas.Result.{IfOk-weaker}
use Rattle.elf_image.specs.Pieces.{AreApart}
use Rattle.elf_image.specs.declared.loaded.Segment.{Segment}
use Rattle.elf_image.specs.Segments.{IsLoadable, piece_of}
use Rattle.elf_image.proofs.Apart.{loads-all, loads-none}
use Rattle.elf_image.proofs.loaded.Loaded.is_loadable.Goals as goal
use Rattle.elf_image.proofs.loaded.Loaded.is_loadable.Goals.{then-not-all_fit-via-then-not-all_fit}
use Rattle.elf_image.proofs.loaded.Loaded.is_loadable.Goals.{then-not-all_fit-via-else-not-all_fit+then-not-are_few}

pub returns-then-not-all_fit : goal.returns-then-not-all_fit
returns-then-not-all_fit c =
    let entry = c.args.self.now.entry in
    let None : List Segment → Type 0 = λ xs. Decides false
    (IsLoadable (record { entry = entry; pieces = map piece_of xs })) in
    let segments = c.as_slice-segments.result.now in
    subst None c.as_slice-segments.ensures.value
    (loads-none entry segments (λ each memory. elim c.then-not-all_fit.branch [
      | then-not-all_fit-via-then-not-all_fit w ↦ true≢false (sym (c.all_fit.ensures.1 each) ∙ w.if-not-all_fit.true)
      | then-not-all_fit-via-else-not-all_fit+then-not-are_few w
          ↦ true≢false (sym (w.are_few.ensures.1 memory) ∙ w.if-not-are_few.true)
    ]))

pub returns : goal.returns
returns c =
    let entry = c.args.self.now.entry in
    let segments = c.as_slice-segments.result.now in
    let Loads : List Segment → Bool → Type 0 = λ xs apart.
    Decides apart (IsLoadable (record { entry = entry; pieces = map piece_of xs })) in
    IfOk-weaker c.are_apart.result (λ apart. Decides apart (AllPairs AreApart (map piece_of segments)))
    (Loads c.args.self.now.segments.items) (λ apart pairs.
    subst (λ (xs : List Segment). Loads xs apart) c.as_slice-segments.ensures.value
    (loads-all entry segments apart (c.all_fit.ensures.0 c.if-not-all_fit.false)
    (c.are_few.ensures.0 c.if-not-are_few.false) pairs)) c.are_apart.ensures
