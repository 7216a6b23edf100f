-- The text of functions, and that of a whole map.
use Rattle.std.proofs.Common.{◌≡◌, ◌<◌, ◌≤◌, ℕ, suc, ◌+◌, List, [], ◌∷◌, ◌++◌, drop, get_or, length, map, Some}
use Rattle.std.proofs.Common.{sym, ap, subst, ◌∙◌, arith, append_assoc}
use Rattle.std.specs.Prelude.{option_map, slice_get, slice_index, slice_index_or}
use Rattle.std.specs.List.{AllByRecursion, flat_map}
use Rattle.std.proofs.Math.ListN.{drop_of_length-le}
use Rattle.std.proofs.lemmas.List.{append-nil, drop_more}
use Rattle.std.proofs.lemmas.List.Concat.{flat_map-append}
use Rattle.std.proofs.lemmas.Option.{slice_get-get_or, slice_get-map}
use Rattle.c_tree.specs.declared.program.Function as built
use Rattle.c_tree.specs.declared.program.StaticObject.{StaticObject}
use Rattle.c_tree.specs.Erased.{function_of, object_of}
use Rattle.c_tree.specs.Program.{Function, Program}
use Rattle.flow_graph.specs.Graphs.{Flow}
use Rattle.map_text.specs.Maps.{Map, MapFunction}
use Rattle.map_text.specs.Words.{EndLine, FunctionLine, Line, TitleLine, array_lines, block_lines, function_lines}
use Rattle.map_text.specs.Words.{lines_of, numbered, object_lines, variable_lines}
use Rattle.map_lines.specs.declared.home.Home as code
use Rattle.map_lines.specs.MapOf.{Home, function_over, functions_over}
use Rattle.map_lines.specs.Printing.{CanPrint, CanPrintAll, address_in, graph_of, home_of}
use Rattle.map_lines.proofs.Texts.{next-put}

-- the text of three lists of lines
texts-of-three : (text : Line → List ℕ) (a b c : List Line) → flat_map text (a ++ b ++ c)
    ≡ flat_map text a ++ flat_map text b ++ flat_map text c
texts-of-three text a b c =
    flat_map-append text (a ++ b) c ∙ ap (λ (t : List ℕ). t ++ flat_map text c) (flat_map-append text a b)

-- the lines of a function are its own, and those of its arrays, variables and blocks
pub function-put : (text : Line → List ℕ) (k frame : ℕ) (f : Function) (flow : Flow) (home : Home) (address : ℕ → ℕ)
    (old one two three four : List ℕ) → frame ≡ home.places.frame
    → one ≡ old ++ text (FunctionLine k f.name frame)
    → two ≡ one ++ flat_map text (numbered array_lines 0 (function_over f flow home address).arrays)
    → three ≡ two ++ flat_map text (numbered variable_lines 0 (function_over f flow home address).variables)
    → four ≡ three ++ flat_map text (numbered block_lines 0 (function_over f flow home address).blocks)
    → four ≡ old ++ flat_map text (function_lines k (function_over f flow home address))
function-put text k frame f flow home address old one two three four same is-one is-two is-three is-four =
    let g : MapFunction = function_over f flow home address in
    let a : List Line = numbered array_lines 0 g.arrays in
    let v : List Line = numbered variable_lines 0 g.variables in
    let b : List Line = numbered block_lines 0 g.blocks in
    is-four
    ∙ ap (λ (t : List ℕ). t ++ flat_map text b) (is-three
    ∙ ap (λ (t : List ℕ). t ++ flat_map text v) (is-two
    ∙ ap (λ (t : List ℕ). t ++ flat_map text a) (is-one
    ∙ ap (λ (n : ℕ). old ++ text (FunctionLine k f.name n)) same)))
    ∙ joined (text (FunctionLine k g.name g.frame)) (flat_map text a) (flat_map text v) (flat_map text b)
    ∙ ap (λ (t : List ℕ). old ++ (text (FunctionLine k g.name g.frame) ++ t)) (sym (texts-of-three text a v b))
  where
    joined : (x a v b : List ℕ) → (((old ++ x) ++ a) ++ v) ++ b ≡ old ++ (x ++ ((a ++ v) ++ b))
    joined x a v b = simp append_assoc

-- the next function, and the others
pub functions-put : (text : Line → List ℕ) (start old new : List ℕ) (fs : List built.Function) (homes : List code.Home)
    (table : List (List ℕ)) (i : ℕ) (d : built.Function) (e : code.Home) (addresses : List ℕ)
    → i < length fs → i < length homes → slice_index_or table i [] ≡ addresses
    → old ++ flat_map text (numbered function_lines i (functions_over i (map function_of (drop i fs))
    (map graph_of (drop i homes)) (map home_of (drop i homes)) (address_in table))) ≡ start
    → new ≡ old ++ flat_map text (function_lines i (function_over (function_of (get_or fs i d))
    (graph_of (get_or homes i e)) (home_of (get_or homes i e)) (λ p. slice_index addresses p)))
    → new ++ flat_map text (numbered function_lines (i + 1) (functions_over (i + 1)
    (map function_of (drop (i + 1) fs)) (map graph_of (drop (i + 1) homes)) (map home_of (drop (i + 1) homes))
    (address_in table))) ≡ start
functions-put text start old new fs homes table i d e addresses h k is all put =
    let next : i + 1 ≡ suc i = omega arith in
    let f : Function = function_of (get_or fs i d) in
    let home : code.Home = get_or homes i e in
    let gs : List Function = map function_of (drop (i + 1) fs) in
    let hs : List code.Home = drop (i + 1) homes in
    ap (λ (n : ℕ). new ++ flat_map text (numbered function_lines (i + 1)
    (functions_over n gs (map graph_of hs) (map home_of hs) (address_in table)))) next
    ∙ next-put text function_lines start old new i (function_over f (graph_of home) (home_of home) (address_in table i))
    (functions_over (suc i) gs (map graph_of hs) (map home_of hs) (address_in table))
    (ap (λ (xs : List built.Function). old ++ flat_map text (numbered function_lines i
    (functions_over i (map function_of xs) (map graph_of (home ∷ hs)) (map home_of (home ∷ hs)) (address_in table))))
    (sym (drop_more fs i d h))
    ∙ ap (λ (xs : List code.Home). old ++ flat_map text (numbered function_lines i
    (functions_over i (map function_of (drop i fs)) (map graph_of xs) (map home_of xs) (address_in table))))
    (sym (drop_more homes i e k))
    ∙ all)
    (put ∙ ap (λ (ps : List ℕ). old ++ flat_map text (function_lines i
    (function_over f (graph_of home) (home_of home) (λ p. slice_index ps p)))) (sym is))

-- behind the last function nothing more stands
pub functions-past : (text : Line → List ℕ) (start old : List ℕ) (fs : List built.Function) (n : ℕ) (flows : List Flow)
    (homes : List Home) (addresses : ℕ → ℕ → ℕ) → length fs ≤ n
    → old ++ flat_map text (numbered function_lines n (functions_over n (map function_of (drop n fs)) flows homes addresses))
    ≡ start → old ≡ start
functions-past text start old fs n flows homes addresses past all =
    sym (append-nil old)
    ∙ ap (λ (xs : List built.Function). old ++ flat_map text (numbered function_lines n
    (functions_over n (map function_of xs) flows homes addresses))) (sym (drop_of_length-le fs past))
    ∙ all

-- a map's first line, its objects, its functions and its last line
pub map-put : (text : Line → List ℕ) (m : Map) (one two three four : List ℕ) → one ≡ [] ++ text TitleLine
    → two ≡ one ++ flat_map text (numbered object_lines 0 m.objects)
    → three ≡ two ++ flat_map text (numbered function_lines 0 m.functions) → four ≡ three ++ text EndLine
    → four ≡ flat_map text (lines_of m)
map-put text m one two three four is-one is-two is-three is-four =
    let o : List Line = numbered object_lines 0 m.objects in
    let f : List Line = numbered function_lines 0 m.functions in
    is-four
    ∙ ap (λ (t : List ℕ). t ++ text EndLine) (is-three
    ∙ ap (λ (t : List ℕ). t ++ flat_map text f) (is-two
    ∙ ap (λ (t : List ℕ). t ++ flat_map text o) is-one))
    ∙ joined (text TitleLine) (flat_map text o) (flat_map text f) (text EndLine)
    ∙ ap (λ (t : List ℕ). text TitleLine ++ t) (sym (texts-of-three text o f (EndLine ∷ [])))
  where
    joined : (t o f e : List ℕ) → (((([] ++ t) ++ o) ++ f) ++ e) ≡ t ++ ((o ++ f) ++ (e ++ []))
    joined t o f e = simp (append_assoc, append-nil)

-- objects in memory have as many elements as typed ones
pub small-objects : (n : ℕ) (os : List StaticObject)
    → AllByRecursion (λ o. length o.elements ≤ n) (map object_of os)
    → AllByRecursion (λ o. length o.elements.items ≤ n) os
small-objects n [] all = tt
small-objects n (o ∷ os) all = (all.0, small-objects n os all.1)

-- what printing a function rests on is what printing the program does
pub can-at : (program : Program) (homes : List code.Home) (objects : List ℕ) (table : List (List ℕ))
    → CanPrintAll program homes objects table → (i : ℕ) (f : Function) (home : code.Home) (addresses mine : List ℕ)
    → slice_get program.functions i ≡ Some f → slice_get homes i ≡ Some home → slice_get table i ≡ Some addresses
    → mine ≡ addresses → CanPrint f home mine
can-at program homes objects table can i f home addresses mine one two three same =
    subst (λ (ps : List ℕ). CanPrint f home ps) (sym same) (can.each i f home addresses one two three)

-- an element that a function makes of one of a list
pub made-at : {X Y : Type 0} (make : X → Y) (xs : List X) (i : ℕ) (d : X) → i < length xs
    → slice_get (map make xs) i ≡ Some (make (get_or xs i d))
made-at make xs i d h = slice_get-map make xs i ∙ ap (option_map make) (slice_get-get_or xs i d h)
