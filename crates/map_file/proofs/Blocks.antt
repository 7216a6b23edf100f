-- Points of a block, and the points of all blocks.
use Rattle.std.proofs.Common.{◌≡◌, ◌<◌, ℕ, ◌+◌, Bool, true, false, true≢false, List, [], ◌∷◌, ◌++◌, length, map, drop}
use Rattle.std.proofs.Common.{get_or, All, ◌≤◌, refl, sym, ap, ◌∙◌, append_assoc}
use Rattle.std.specs.Bool.{Decides}
use Rattle.std.specs.List.{AllByRecursion, flat_map}
use Rattle.std.proofs.lemmas.List.{append-nil, drop_all, drop_more, map-append}
use Rattle.std.proofs.lemmas.List.Elements.{All-from_recursion, recursion_from_All}
use Rattle.flow_graph.specs.Graphs.{is_end}
use Rattle.map_text.specs.Maps.{MapPoint}
use Rattle.map_text.specs.Rules.{IsMapBlock}
use Rattle.map_file.specs.Views.{point_of}
use Rattle.map_file.specs.declared.file.MapPoint as file

abbrev IsPlain : MapPoint → Type 0
IsPlain p = is_end p.op ≡ false

ends-last : (ps : List MapPoint) (p : MapPoint) → AllByRecursion IsPlain ps → is_end p.op ≡ true
    → IsMapBlock (ps ++ p ∷ [])
ends-last [] p plain e = e
ends-last (q ∷ []) p plain e = (plain.0, e)
ends-last (q ∷ r ∷ ps) p plain e = (plain.0, ends-last (r ∷ ps) p plain.1 e)

last-ends : (ps : List MapPoint) (p : MapPoint) → IsMapBlock (ps ++ p ∷ [])
    → AllByRecursion IsPlain ps × (is_end p.op ≡ true)
last-ends [] p is = (tt, is)
last-ends (q ∷ []) p is = ((is.0, tt), is.1)
last-ends (q ∷ r ∷ ps) p is = (let rest = last-ends (r ∷ ps) p is.1 in ((is.0, rest.0), rest.1))

-- the last op is an end, so the others tell
pub others_tell : (ps : List MapPoint) (p : MapPoint) (r : Bool) → is_end p.op ≡ true → Decides r (All IsPlain ps)
    → Decides r (IsMapBlock (ps ++ p ∷ []))
others_tell ps p r e told = (
  λ t. ends-last ps p (recursion_from_All IsPlain ps (told.0 t)) e,
  λ is. told.1 (All-from_recursion IsPlain ps (last-ends ps p is).0),
)

-- the last op is none
pub no_end : (ps : List MapPoint) (p : MapPoint) → is_end p.op ≡ false → Decides false (IsMapBlock (ps ++ p ∷ []))
no_end ps p e =
    (λ t. absurd (true≢false (sym t)), λ is. absurd (true≢false (sym (last-ends ps p is).1 ∙ e)))

-- ---- what is put for each, one after another

-- what was put so far and that of the others, where one element more has its own
pub next_put : {X Y : Type 0} (put : X → List Y) (start old new : List Y) (xs : List X) (i : ℕ) (d : X)
    → i < length xs → old ++ flat_map put (drop i xs) ≡ start → new ≡ old ++ put (get_or xs i d)
    → new ++ flat_map put (drop (i + 1) xs) ≡ start
next_put {X} {Y} put start old new xs i d h all is =
    ap (λ (t : List Y). t ++ flat_map put (drop (i + 1) xs)) is
    ∙ append_assoc old (put (get_or xs i d)) (flat_map put (drop (i + 1) xs))
    ∙ ap (λ (ys : List X). old ++ flat_map put ys) (sym (drop_more xs i d h))
    ∙ all

-- nothing is left to put
pub all_put : {X Y : Type 0} (put : X → List Y) (start old : List Y) (xs : List X) (i : ℕ) → length xs ≤ i
    → old ++ flat_map put (drop i xs) ≡ start → old ≡ start
all_put {X} {Y} put start old xs i past all =
    sym (append-nil old) ∙ ap (λ (ys : List X). old ++ flat_map put ys) (sym (drop_all i xs past)) ∙ all

-- the numbers of points, one after another
pub numbers_flat : (points : List file.MapPoint)
    → flat_map (λ p. p.number ∷ []) points ≡ map (λ p. p.number) (map point_of points)
numbers_flat [] = refl
numbers_flat (p ∷ points) = ap (λ (ns : List ℕ). p.number ∷ ns) (numbers_flat points)

-- what is made of the elements of lists, list by list
pub made_flat : {X Y Z : Type 0} (make : Y → Z) (list : X → List Y) (xs : List X)
    → flat_map (λ x. map make (list x)) xs ≡ map make (flat_map (λ ys. ys) (map list xs))
made_flat make list [] = refl
made_flat {X} {Y} {Z} make list (x ∷ xs) =
    ap (λ (zs : List Z). map make (list x) ++ zs) (made_flat make list xs)
    ∙ sym (map-append make (list x) (flat_map (λ ys. ys) (map list xs)))
