-- Which segments are loadable, part by part.
use Rattle.std.proofs.Common.{◌≡◌, ℕ, ◌+◌, ◌≤◌, ◌<◌, Bool, true, false, true≢false, List, [], ◌∷◌, length}
use Rattle.std.proofs.Common.{map, All, AllPairs, HoldsAt, MatchBool, refl, sym, subst, arith, get_or, fold, sum_by}
use Rattle.std.specs.Bool.{Decides}
use Rattle.std.specs.List.{AllWithin}
use Rattle.std.proofs.lemmas.List.{length-map, get_or-map}
use Rattle.std.proofs.lemmas.List.Elements.{All-map, All-from_all_within}
use Rattle.elf_image.specs.declared.distinct.Extent.{Extent}
use Rattle.elf_image.specs.MemoryExtents.{AreDistinct}
use Rattle.elf_image.specs.Pieces.{AreApart}
use Rattle.elf_image.proofs.Pairs.{pairs-map, pairs-unmap}
use Rattle.elf_image.specs.declared.loaded.Segment.{Segment}
use Rattle.elf_image.specs.Extents.{extent_of}
use Rattle.elf_image.specs.Segments.{IsPiece, IsLoadable, piece_of}

-- what `all` answers of what is made of elements
pub decided : {X Y : Type 0} (P : Y → Type 0) (f : X → Y) (xs : List X) (r : Bool)
    → MatchBool r (AllWithin (λ x. P (f x)) xs 0 (length xs))
    ((k : ℕ) × (k < length xs) × HoldsAt (λ x. P (f x) → ⊥) xs k)
    → Decides r (All P (map f xs))
decided P f xs true h = (λ e. All-map P f xs (All-from_all_within (λ x. P (f x)) xs h), λ all. refl)
decided P f [] false (k, inside, not) = absurd (omega (arith, inside))
decided P f (x ∷ xs) false (k, inside, not) =
    let same : get_or (map f (x ∷ xs)) k (f x) ≡ f (get_or (x ∷ xs) k x) = get_or-map f (x ∷ xs) k x (f x) inside in
    let within : k < length (map f (x ∷ xs)) = subst (λ (n : ℕ). k < n) (sym (length-map (x ∷ xs) f)) inside in
    (λ e. absurd (true≢false (sym e)), λ all. absurd (not x (subst P same (all k (f x) within))))

-- the sizes of what is made of elements
sizes-from : {X Y : Type 0} (size : Y → ℕ) (f : X → Y) (n : ℕ) (xs : List X)
    → fold (λ sum y. sum + size y) n (map f xs) ≡ fold (λ sum x. sum + size (f x)) n xs
sizes-from size f n [] = refl
sizes-from size f n (x ∷ xs) = sizes-from size f (n + size (f x)) xs

pub sizes : {X Y : Type 0} (size : Y → ℕ) (f : X → Y) (xs : List X)
    → sum_by size (map f xs) ≡ sum_by (λ x. size (f x)) xs
sizes size f xs = sizes-from size f 0 xs

-- segments that fit and have not too much memory are loadable where no two overlap
pub loads-all : (entry : ℕ) (segments : List Segment) (apart : Bool) → All IsPiece (map piece_of segments)
    → sum_by (λ piece. piece.size) (map piece_of segments) ≤ 0x50000000
    → Decides apart (AllPairs AreApart (map piece_of segments))
    → Decides apart (IsLoadable (record { entry = entry; pieces = map piece_of segments }))
loads-all entry segments apart each memory pairs =
    (λ e. record { each = each; apart = pairs.0 e; memory = memory }, λ loadable. pairs.1 loadable.apart)

-- segments of which one doesn't fit, or that have too much memory, are not loadable
pub loads-none : (entry : ℕ) (segments : List Segment)
    → (All IsPiece (map piece_of segments) → sum_by (λ piece. piece.size) (map piece_of segments) ≤ 0x50000000 → ⊥)
    → Decides false (IsLoadable (record { entry = entry; pieces = map piece_of segments }))
loads-none entry segments not =
    (λ e. absurd (true≢false (sym e)), λ loadable. absurd (not loadable.each loadable.memory))

-- segments are apart exactly where their memory is
pub memory-apart : (segments : List Segment) (extents : List Extent) (apart : Bool) → extents ≡ map extent_of segments
    → Decides apart (AllPairs AreDistinct extents) → Decides apart (AllPairs AreApart (map piece_of segments))
memory-apart segments extents apart same decides =
    let Apart : List Extent → Type 0 = λ es. AllPairs AreDistinct es in (
      λ e. pairs-map AreApart piece_of segments
          (pairs-unmap AreDistinct extent_of segments (subst Apart same (decides.0 e))),
      λ all. decides.1 (subst Apart (sym same)
          (pairs-map AreDistinct extent_of segments (pairs-unmap AreApart piece_of segments all))),
    )
