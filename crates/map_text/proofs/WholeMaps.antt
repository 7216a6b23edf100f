-- The text of a map is read as the map, whatever is behind it; so it is that of one map, and no other's beginning.
use Rattle.std.proofs.Common.{◌≡◌, ℕ, ◌==◌, List, [], ◌∷◌, ◌++◌, flat_map, Option, Some, refl, sym, ap, ◌∙◌}
use Rattle.std.proofs.Common.{append_assoc, append-nil}
use Rattle.std.specs.List.{slice_split}
use Rattle.std.proofs.lemmas.List.Splits.{join_with_byte-slice_split}
use Rattle.std.proofs.lemmas.Option.{same_Some}
use Rattle.pcc_base.specs.Ascii.{newline}
use Rattle.map_text.specs.Maps.{Map}
use Rattle.map_text.specs.Reading.{map_by, map_from, map_in, with_line}
use Rattle.map_text.specs.Rules.{IsMap}
use Rattle.map_text.specs.Words.{AfterLine, ArrayLine, BeforeLine, BlockLine, BoardLine, EndLine, FunctionLine, Line}
use Rattle.map_text.specs.Words.{ObjectLine, PointLine, SpilledLine, TitleLine, VariableLine, line_text, map_text}
use Rattle.map_text.proofs.LinesRead.{line-cut, line-given}
use Rattle.map_text.proofs.MapLines.{AreReadLines, IsInner, inner_lines, lines-read}
use Rattle.map_text.proofs.TreesRead.{lines-put, put}

abbrev cut : List ℕ → List (List ℕ)
cut text = slice_split (λ b. b == newline) text

-- any line but the last is put behind those before it
inner-put : (m : Map) (line : Line) (lines : List (List ℕ)) (others : Map → Option (Map × List ℕ)) → IsInner line
    → map_by m (Some line) lines others ≡ others (with_line m line)
inner-put m TitleLine lines others is = refl
inner-put m (ObjectLine n a c b) lines others is = refl
inner-put m (FunctionLine n name f) lines others is = refl
inner-put m (ArrayLine n d c b) lines others is = refl
inner-put m (VariableLine n w x) lines others is = refl
inner-put m (BlockLine n) lines others is = refl
inner-put m (PointLine n a o) lines others is = refl
inner-put m (BoardLine areas pieces) lines others is = refl
inner-put m (BeforeLine standings) lines others is = refl
inner-put m (AfterLine standings) lines others is = refl
inner-put m (SpilledLine variables) lines others is = refl
inner-put m EndLine lines others is = absurd is

-- lines before the last are put behind each other
inner-read : (m : Map) (lines : List Line) (rest : List ℕ) → AreReadLines lines
    → map_from m (cut (flat_map line_text lines ++ rest)) ≡ map_from (put m lines) (cut rest)
inner-read m [] rest ok = refl
inner-read m (line ∷ lines) rest ok =
    let more = flat_map line_text lines ++ rest in
    ap (λ (text : List ℕ). map_from m (cut text)) (append_assoc (line_text line) (flat_map line_text lines) rest)
    ∙ ap (map_from m) (line-cut line more ok.0.0)
    ∙ ap (λ (o : Option Line). map_by m o (cut more) (λ n. map_from n (cut more))) (line-given line ok.0.0)
    ∙ inner-put m line (cut more) (λ n. map_from n (cut more)) ok.0.1
    ∙ inner-read (with_line m line) lines rest ok.1

-- the last line ends a map, and what is behind it is given back
end-read : (m : Map) (rest : List ℕ) → map_from m (cut (line_text EndLine ++ rest)) ≡ Some (m, rest)
end-read m rest =
    ap (map_from m) (line-cut EndLine rest tt)
    ∙ ap (λ (o : Option Line). map_by m o (cut rest) (λ n. map_from n (cut rest))) (line-given EndLine tt)
    ∙ ap (λ (text : List ℕ). Some (m, text)) (join_with_byte-slice_split newline rest)

-- the texts of two lists of lines
texts-append : (xs ys : List Line) → flat_map line_text (xs ++ ys) ≡ flat_map line_text xs ++ flat_map line_text ys
texts-append [] ys = refl
texts-append (x ∷ xs) ys =
    ap (λ (text : List ℕ). line_text x ++ text) (texts-append xs ys)
    ∙ sym (append_assoc (line_text x) (flat_map line_text xs) (flat_map line_text ys))

abbrev empty_map : Map
empty_map = record { objects = []; functions = [] }

-- a map's text, and what is behind it
text-parts : (m : Map) (rest : List ℕ)
    → map_text m ++ rest ≡ flat_map line_text (TitleLine ∷ inner_lines m) ++ (line_text EndLine ++ rest)
text-parts m rest =
    ap (λ (text : List ℕ). text ++ rest) (texts-append (TitleLine ∷ inner_lines m) (EndLine ∷ []))
    ∙ append_assoc (flat_map line_text (TitleLine ∷ inner_lines m)) (line_text EndLine) rest

pub map-read : (m : Map) (rest : List ℕ) → IsMap m → map_in (map_text m ++ rest) ≡ Some (m, rest)
map-read m rest is =
    ap map_in (text-parts m rest)
    ∙ inner-read empty_map (TitleLine ∷ inner_lines m) (line_text EndLine ++ rest) ((tt, tt), lines-read m is)
    ∙ ap (λ (n : Map). map_from n (cut (line_text EndLine ++ rest))) (lines-put m)
    ∙ end-read m rest

parts-same : (p q : Map × List ℕ) → Some p ≡ Some q → (p.0 ≡ q.0) × (p.1 ≡ q.1)
parts-same p q e =
    let same : p ≡ q = same_Some p q e in (ap (λ (x : Map × List ℕ). x.0) same, ap (λ (x : Map × List ℕ). x.1) same)

-- one text, one map, whatever is behind either
both-read : (a b : Map) (r s : List ℕ) → IsMap a → IsMap b → map_text a ++ r ≡ map_text b ++ s → (a ≡ b) × (r ≡ s)
both-read a b r s is is' same =
    parts-same (a, r) (b, s) (sym (map-read a r is) ∙ ap map_in same ∙ map-read b s is')

pub whole-one : (a b : Map) → IsMap a → IsMap b → map_text a ≡ map_text b → a ≡ b
whole-one a b is is' same =
    (both-read a b [] [] is is' (append-nil (map_text a) ∙ same ∙ sym (append-nil (map_text b)))).0

pub prefix-none : (a b : Map) (rest : List ℕ) → IsMap a → IsMap b → map_text a ++ rest ≡ map_text b → rest ≡ []
prefix-none a b rest is is' same = (both-read a b rest [] is is' (same ∙ sym (append-nil (map_text b)))).1
