-- The memory of a segment.
use Rattle.std.specs.Prelude.{◌≡◌, ℕ, ◌-◌, ◌≤◌, ◌<◌, List, ◌++◌, length, take, replicate, map, get_or, All}
use Rattle.std.proofs.Common.{sym, ◌∙◌, ap, subst, arith, append-nil, length-append}
use Rattle.std.proofs.lemmas.List.{take_all, length-replicate, get_or-map, length-map}
use Rattle.pcc_base.specs.Bytes.{zeros}
use Rattle.elf_image.specs.Pieces.{Piece}
use Rattle.elf_image.specs.declared.loaded.Segment.{Segment}
use Rattle.elf_image.specs.Segments.{IsPiece, piece_of}
use Rattle.ia32_memory.specs.Cells.{padded}

-- bytes that fill their size are padded by nothing
pub padded-full : (n : ℕ) (bytes : List ℕ) → length bytes ≡ n → padded n bytes ≡ bytes
unfolding padded zeros
padded-full n bytes full =
    let none : n - length bytes ≡ 0 = omega (arith, full) in
    ap (λ (k : ℕ). bytes ++ replicate k 0) none ∙ append-nil bytes

-- a list that was filled up with zeros is padded
pub padded-filled : (n : ℕ) (bytes filled : List ℕ) → length bytes ≤ n → filled
    ≡ take n bytes ++ replicate (n - length bytes) 0 → filled ≡ padded n bytes
unfolding padded zeros
padded-filled n bytes filled fits e = e ∙ ap (λ (b : List ℕ). b ++ replicate (n - length bytes) 0)
    (take_all n bytes fits)

-- the bytes and their zeros have the size
pub length-padded : (n : ℕ) (bytes : List ℕ) → length bytes ≤ n → length (padded n bytes) ≡ n
unfolding padded zeros
length-padded n bytes fits = simp (length-append, length-replicate) (omega arith)

-- each segment is a piece, where all are
pub piece_at : (segments : List Segment) (i : ℕ) (s : Segment) → i < length segments → s ≡ get_or segments i s
    → All IsPiece (map piece_of segments) → IsPiece (piece_of s)
piece_at segments i s within e each =
    let at : get_or (map piece_of segments) i (piece_of s) ≡ piece_of (get_or segments i s) =
    get_or-map piece_of segments i s (piece_of s) within in
    let holds : IsPiece (get_or (map piece_of segments) i (piece_of s)) =
    each i (piece_of s) (let n : i < length (map piece_of segments) = simp length-map within in n) in
    subst (λ (p : Piece). IsPiece p) (at ∙ sym (ap piece_of e)) holds
