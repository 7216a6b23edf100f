-- What images load.
use Rattle.std.proofs.Common.{◌≡◌, ℕ, ◌+◌, ◌*◌, ◌≤◌, zero, suc, List, [], ◌∷◌, length, take, map, All, AllPairs, refl}
use Rattle.std.proofs.Common.{sym}
use Rattle.std.proofs.Common.{ap, ◌∙◌, subst, arith, Bool, true, false, cond, Option, Some, None, ◌++◌, ◌<◌, sum_by}
use Rattle.std.proofs.Common.{append-nil}
use Rattle.std.proofs.Math.Seq.{take-length}
use Rattle.std.proofs.lemmas.List.Elements.{All-nil, All-cons}
use Rattle.std.proofs.lemmas.List.{length-map, get_or-map}
use Rattle.std.proofs.lemmas.List.FromFn.{filter_of_map_range_with_len_more}
use Rattle.elf_image.specs.Fields.{Header, IsExecutable, entry_in, header_at, header_count, headers_offset, is_load}
use Rattle.elf_image.specs.Fields.{loads_in}
use Rattle.elf_image.specs.Headers.{load_header_at}
use Rattle.elf_image.proofs.Apart.{sizes}
use Rattle.elf_image.specs.Layout.{Parts, Fits, image_bytes, text_address, text_span, data_memory}
use Rattle.elf_image.specs.Pieces.{AreApart, Piece}
use Rattle.elf_image.specs.Segments.{IsInFile, IsLoadable, IsPiece, Loads, Segments, image_segments}
use Rattle.elf_image.specs.Segments.{IsFilePart, piece_at, segments_in}
use Rattle.elf_image.proofs.Front.{data-reads, data_header, entry-reads, length-image, loads-both, text-reads}
use Rattle.elf_image.proofs.Front.{text_header}

-- the two segments of an image are apart: the data begins behind the pages of the text
parts-apart : (parts : Parts) → AllPairs AreApart (image_segments parts).pieces
parts-apart parts zero zero d less inside = absurd (omega (arith, less))
parts-apart parts zero (suc zero) d less inside = λ address a b. omega (arith, a.1, b.0)
parts-apart parts zero (suc (suc j)) d less inside = absurd (omega (arith, inside))
parts-apart parts (suc i) zero d less inside = absurd (omega (arith, less))
parts-apart parts (suc i) (suc zero) d less inside = absurd (omega (arith, less))
parts-apart parts (suc i) (suc (suc j)) d less inside = absurd (omega (arith, inside))

-- the text, and the data, as segments
abbrev text_piece : Parts → Piece
text_piece parts =
    record {
      address = text_address;
      bytes = parts.text;
      size = length parts.text;
      readable = true;
      writable = false;
      runnable = true;
    }

abbrev data_piece : Parts → Piece
data_piece parts =
    record {
      address = text_address + text_span parts;
      bytes = parts.data_bytes;
      size = data_memory parts;
      readable =
          true;
      writable = true;
      runnable = false;
    }

-- the segments of an image may be loaded
pub loadable-image : (parts : Parts) → Fits parts → IsLoadable (image_segments parts)
loadable-image parts fits =
    let size = fits.size in
    record {
      each = All-cons IsPiece (text_piece parts) (data_piece parts ∷ []) (record {
        filled = omega arith;
        within =
            omega arith;
      }) (All-cons IsPiece (data_piece parts) [] (record { filled = omega arith; within = omega arith })
          (All-nil IsPiece));
      apart = parts-apart parts;
      memory = omega arith;
    }

-- the segment of the text's header is the text
text-piece : (parts : Parts) → piece_at (image_bytes parts) (text_header parts) ≡ text_piece parts
text-piece parts =
    ap (λ (bytes : List ℕ). (let piece : Piece = record {
      address = text_address;
      bytes = bytes;
      size =
          length parts.text;
      readable = true;
      writable = false;
      runnable = true;
    } in piece)) (text-reads parts)

-- the segment of the data's header is the data
data-piece : (parts : Parts) → piece_at (image_bytes parts) (data_header parts) ≡ data_piece parts
data-piece parts =
    ap (λ (bytes : List ℕ). (let piece : Piece = record {
      address = text_address + text_span parts;
      bytes = bytes;
      size = data_memory parts;
      readable = true;
      writable = true;
      runnable = false;
    } in piece))
    (ap (take (length parts.data_bytes)) (data-reads parts) ∙ take-length parts.data_bytes)

-- segments are equal where their fields are
segments-equal : {e f : ℕ} {ps qs : List Piece} → e ≡ f → ps ≡ qs → record { entry = e; pieces = ps }
    ≡ (let segments : Segments = record { entry = f; pieces = qs } in segments)
segments-equal same-entry same-pieces = cc

-- the segments of an image are those that its bytes say
image-says : (parts : Parts) → Fits parts → image_segments parts ≡ segments_in (image_bytes parts)
image-says parts fits =
    let bytes = image_bytes parts in
    let pieces : map (piece_at bytes) (loads_in 2 bytes) ≡ text_piece parts ∷ data_piece parts ∷ [] =
    ap (map (piece_at bytes)) (loads-both parts fits)
    ∙ ap (λ (p : Piece). p ∷ piece_at bytes (data_header parts) ∷ []) (text-piece parts)
    ∙ ap (λ (p : Piece). text_piece parts ∷ p ∷ []) (data-piece parts) in
    segments-equal (sym (entry-reads parts fits)) (sym pieces)

-- a written image loads its segments
pub loads-image : (parts : Parts) → Fits parts → Loads (image_bytes parts) (image_segments parts)
loads-image parts fits =
    let bytes = image_bytes parts in
    let long = length-image parts in
    let P : List Header → Type 0 = λ hs. All (IsInFile bytes) hs in
    let two : 0x34 + 0x20 * 2 ≤ length bytes = omega (arith, long) in
    record {
      executable = record {
        long = omega (arith, long);
        identified = refl;
        kind = refl;
        processor = refl;
        version = refl;
        header_size = refl;
        some = omega arith;
      };
      headers = two;
      parts = subst P (sym (loads-both parts fits))
          (All-cons (IsInFile bytes) (text_header parts) (data_header parts ∷ []) (omega (arith, long))
          (All-cons (IsInFile bytes) (data_header parts) [] (omega (arith, long)) (All-nil (IsInFile bytes))));
      are = image-says parts fits;
      loadable = loadable-image parts fits;
    }

-- bytes load one list of segments at most
pub loads-one : (bytes : List ℕ) (a b : Segments) → Loads bytes a → Loads bytes b → a ≡ b
loads-one bytes a b p q = p.are ∙ sym q.are

-- ---- what is read

-- a header that is there is the one
taken : (b : Bool) (g h : Header) → cond b (Some g) None ≡ Some h → cond b (g ∷ []) [] ≡ h ∷ []
taken true g h e = cc
taken false g h e = absurd (let wrong : (let none : Option Header = None in none) ≡ Some h = e in cc)

left-out : (b : Bool) (g : Header) → cond b (Some g) None ≡ None → cond b (g ∷ []) [] ≡ []
left-out true g e = absurd (let wrong : Some g ≡ None = e in cc)
left-out false g e = refl

-- one header more, where it loads a segment
pub one-more : (k : ℕ) (bytes : List ℕ) (h : Header) → load_header_at (headers_offset bytes + 0x20 * k) bytes ≡ Some h
    → loads_in (k + 1) bytes ≡ loads_in k bytes ++ h ∷ []
one-more k bytes h found =
    let at : ℕ → Header = λ j. header_at (headers_offset bytes + 0x20 * j) bytes in
    filter_of_map_range_with_len_more is_load at 0 k k (omega arith)
    ∙ ap (λ (hs : List Header). loads_in k bytes ++ hs) (taken (is_load (at k)) (at k) h found)

-- and where it doesn't
pub one-not : (k : ℕ) (bytes : List ℕ) → load_header_at (headers_offset bytes + 0x20 * k) bytes ≡ None
    → loads_in (k + 1) bytes ≡ loads_in k bytes
one-not k bytes none =
    let at : ℕ → Header = λ j. header_at (headers_offset bytes + 0x20 * j) bytes in
    filter_of_map_range_with_len_more is_load at 0 k k (omega arith)
    ∙ ap (λ (hs : List Header). loads_in k bytes ++ hs) (left-out (is_load (at k)) (at k) none)
    ∙ append-nil (loads_in k bytes)

-- what the headers of segments say, of what is made of them
headers-of : (Q : Piece → Type 0) (bytes : List ℕ) (hs : List Header) → All Q (map (piece_at bytes) hs)
    → All (λ h. Q (piece_at bytes h)) hs
headers-of Q bytes hs all = λ k d inside.
    subst Q (get_or-map (piece_at bytes) hs k d (piece_at bytes d) inside)
    (all k (piece_at bytes d) (subst (λ (n : ℕ). k < n) (sym (length-map hs (piece_at bytes))) inside))

-- the headers of a file that loads segments are sound
pub loads-sound : (bytes : List ℕ) (segments : Segments) → Loads bytes segments
    → All (λ h. IsInFile bytes h × IsPiece (piece_at bytes h)) (loads_in (header_count bytes) bytes)
loads-sound bytes segments loads =
    let Each : Segments → Type 0 = λ s. All IsPiece s.pieces in
    let each = headers-of IsPiece bytes (loads_in (header_count bytes) bytes)
    (subst Each loads.are loads.loadable.each) in
    λ k d inside. (loads.parts k d inside, each k d inside)

-- and have not too much memory
pub loads-few : (bytes : List ℕ) (segments : Segments) → Loads bytes segments
    → sum_by (λ h. h.memory_size) (loads_in (header_count bytes) bytes) ≤ 0x50000000
loads-few bytes segments loads =
    let Few : Segments → Type 0 = λ s. sum_by (λ piece. piece.size) s.pieces ≤ 0x50000000 in
    let few = subst Few loads.are loads.loadable.memory in
    let same = sizes (λ (piece : Piece). piece.size) (piece_at bytes) (loads_in (header_count bytes) bytes) in
    omega (arith, few, same)

-- the segments that were read are those of the file
pub read-are : (bytes : List ℕ) (entry : ℕ) (pieces : List Piece) (headers : List Header) → entry ≡ entry_in bytes
    → pieces ≡ map (piece_at bytes) headers → headers ≡ loads_in (header_count bytes) bytes
    → record { entry = entry; pieces = pieces } ≡ segments_in bytes
read-are bytes entry pieces headers same-entry are read =
    segments-equal same-entry (are ∙ ap (map (piece_at bytes)) read)

-- a file whose header, program headers and segments are sound loads them
pub loads-read : (bytes : List ℕ) (segments : Segments) → IsExecutable bytes
    → IsFilePart bytes (headers_offset bytes) (0x20 * header_count bytes)
    → All (λ h. IsInFile bytes h × IsPiece (piece_at bytes h)) (loads_in (header_count bytes) bytes)
    → segments ≡ segments_in bytes → IsLoadable segments → Loads bytes segments
loads-read bytes segments executable headers sound are loadable =
    record {
      executable = executable;
      headers = headers;
      parts = λ k d inside. (sound k d inside).0;
      are = are;
      loadable =
          loadable;
    }
