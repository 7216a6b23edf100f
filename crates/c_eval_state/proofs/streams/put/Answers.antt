use Rattle.std.proofs.Common.{rules, ◌≡◌, ℕ, List, [], ◌∷◌, ◌++◌, take}
use Rattle.c_tree.specs.Evaluation.{low_byte}
use Rattle.c_eval_laws.specs.Tasks.{top}
use Rattle.c_eval_state.specs.Left.{left_of}
use Rattle.c_eval_state.proofs.streams.put.Goals as goal

-- the byte is written whole
whole : (old new : List ℕ) (byte : ℕ) → new ≡ old ++ byte ∷ [] → (n : ℕ) × (new ≡ old ++ take n (byte ∷ []))
whole old new byte is = (1, is)

pub returns-in_err-hold-in-Ok-clause-told : goal.returns-in_err-hold-in-Ok-clause-told
returns-in_err-hold-in-Ok-clause-told g c = λ tells.
    let old = left_of c.args.left.now in
    let is : g.O.Sink.taken c.put_all.new.self ≡ g.O.Sink.taken c.args.out.now ++ low_byte (top old.values) ∷ [] =
    search (rules, c.in-Ok.ensures.told tells) in
    search (
      rules,
      whole (g.O.Sink.taken c.args.out.now) (g.O.Sink.taken c.put_all.new.self) (low_byte (top old.values))
          is,
    )
