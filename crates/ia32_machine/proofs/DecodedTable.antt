-- The table of decoded instructions over memory that changes.
use Rattle.std.specs.Prelude.{◌≡◌, ◌≢◌, ◌<◌, ℕ, List, [], ◌∷◌, ◌++◌, length, slice_index_or}
use Rattle.std.proofs.Common.{◌∙◌, arith}
use Rattle.std.proofs.Math.ListN.{set}
use Rattle.std.proofs.lemmas.List.Elements.{All-push, All-set}
use Rattle.ia32_insn.specs.State.{Area}
use Rattle.ia32_machine.specs.Code.{KeepsCode}
use Rattle.ia32_machine.specs.Table.{IsFound, IsDecoded, AreDecoded, IsFoundAt}
use Rattle.ia32_machine.specs.declared.decoded.Decoded.{Decoded}

-- one entry stays right where the code is kept
found-kept : (old new : List Area) (e : Decoded) → KeepsCode old new → IsFound old e → IsFound new e
found-kept old new e keeps f =
    let k = keeps e.address f.0 in (k.0, (f.1.0, f.1.1, k.1 ∙ f.1.2, f.1.3, f.1.4))

-- so do all
pub decoded-kept : (old new : List Area) (es : List Decoded) → KeepsCode old new → AreDecoded old es
    → AreDecoded new es
decoded-kept old new es keeps h =
    λ k d inside filled. found-kept old new (slice_index_or es k d) keeps (h k d inside filled)

-- an empty entry is right over any memory
pub empty-decoded : (memory : List Area) (e : Decoded) → e.after ≡ e.address → IsDecoded memory e
empty-decoded memory e same = λ differ. absurd (differ same)

-- one more entry
pub more-decoded : (memory : List Area) (es : List Decoded) (e : Decoded) → IsDecoded memory e → AreDecoded memory es
    → AreDecoded memory (es ++ e ∷ [])
more-decoded memory es e one all = All-push (IsDecoded memory) es e all one

-- an entry that takes the place of another
pub put-decoded : (memory : List Area) (es : List Decoded) (i : ℕ) (e : Decoded) → IsDecoded memory e
    → AreDecoded memory es → AreDecoded memory (set es i e)
put-decoded memory es i e one all = All-set (IsDecoded memory) es i e one all

-- no entries
pub none-decoded : (memory : List Area) → AreDecoded memory []
none-decoded memory = λ k d inside. absurd (omega (arith, inside))

-- what an entry that was looked up says
pub entry-found : (memory : List Area) (es : List Decoded) (i address : ℕ) (d : Decoded) → i < length es
    → AreDecoded memory es → (slice_index_or es i d).address ≡ address → (slice_index_or es i d).after ≢ address
    → IsFoundAt memory address (slice_index_or es i d)
entry-found memory es i address d inside all at differ =
    (at, all i d inside (λ same. differ (same ∙ at)))
