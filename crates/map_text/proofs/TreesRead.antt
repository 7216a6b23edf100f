-- The lines of a map, put one after another, make the map.
use Rattle.std.proofs.Common.{◌≡◌, ℕ, suc, List, [], ◌∷◌, ◌++◌, flat_map, refl, sym, ap, ◌∙◌, append_assoc, append-nil}
use Rattle.map_text.specs.Maps.{Map, MapArray, MapFunction, MapObject, MapPoint, MapVariable}
use Rattle.map_text.specs.Reading.{in_block, in_function, in_last, in_point, new_function, new_point, with_line}
use Rattle.map_text.specs.Words.{AfterLine, BeforeLine, BoardLine, Line, SpilledLine, array_lines, block_lines}
use Rattle.map_text.specs.Words.{function_lines, numbered, object_lines, point_lines, variable_lines}

-- the map with lines more
abbrev pub put : Map → List Line → Map
put m [] = m
put m (line ∷ lines) = put (with_line m line) lines

pub put-append : (m : Map) (xs ys : List Line) → put m (xs ++ ys) ≡ put (put m xs) ys
put-append m [] ys = refl
put-append m (x ∷ xs) ys = put-append (with_line m x) xs ys

-- a list that ends in an element, of which the last is changed
last-changed : {X : Type 0} (change : X → X) (xs : List X) (x : X) → in_last change (xs ++ x ∷ []) ≡ xs ++ change x ∷ []
last-changed change [] x = refl
last-changed change (y ∷ []) x = refl
last-changed change (y ∷ z ∷ xs) x = ap (λ ys. y ∷ ys) (last-changed change (z ∷ xs) x)

abbrev made : List MapObject → List MapFunction → Map
made objects functions = record { objects = objects; functions = functions }

-- a map whose last function is this one
abbrev ending : List MapObject → List MapFunction → MapFunction → Map
ending objects functions f = made objects (functions ++ f ∷ [])

function-changed : (change : MapFunction → MapFunction) (os : List MapObject) (fs : List MapFunction) (f : MapFunction)
    → in_function change (ending os fs f) ≡ ending os fs (change f)
function-changed change os fs f = ap (made os) (last-changed change fs f)

-- ---- objects

objects-put : (k : ℕ) (os : List MapObject) (more : List MapObject) → put (made os []) (numbered object_lines k more)
    ≡ made (os ++ more) []
objects-put k os [] = ap (λ (xs : List MapObject). made xs []) (sym (append-nil os))
objects-put k os (o ∷ more) =
    objects-put (suc k) (os ++ o ∷ []) more
    ∙ ap (λ (xs : List MapObject). made xs []) (append_assoc os (o ∷ []) more)

-- ---- arrays and variables

abbrev with_arrays : MapFunction → List MapArray → MapFunction
with_arrays f more = record f { arrays = f.arrays ++ more }

abbrev with_variables : MapFunction → List MapVariable → MapFunction
with_variables f more = record f { variables = f.variables ++ more }

abbrev with_blocks : MapFunction → List (List MapPoint) → MapFunction
with_blocks f blocks = record f { blocks = blocks }

arrays-put : (k : ℕ) (os : List MapObject) (fs : List MapFunction) (f : MapFunction) (more : List MapArray)
    → put (ending os fs f) (numbered array_lines k more) ≡ ending os fs (with_arrays f more)
arrays-put k os fs f [] = ap (λ (xs : List MapArray). ending os fs (record f { arrays = xs })) (sym (append-nil f.arrays))
arrays-put k os fs f (a ∷ more) =
    ap (λ (m : Map). put m (numbered array_lines (suc k) more))
    (function-changed (λ g. record g { arrays = g.arrays ++ a ∷ [] }) os fs f)
    ∙ arrays-put (suc k) os fs (with_arrays f (a ∷ [])) more
    ∙ ap (λ (xs : List MapArray). ending os fs (record f { arrays = xs })) (append_assoc f.arrays (a ∷ []) more)

variables-put : (k : ℕ) (os : List MapObject) (fs : List MapFunction) (f : MapFunction) (more : List MapVariable)
    → put (ending os fs f) (numbered variable_lines k more) ≡ ending os fs (with_variables f more)
variables-put k os fs f [] =
    ap (λ (xs : List MapVariable). ending os fs (record f { variables = xs })) (sym (append-nil f.variables))
variables-put k os fs f (v ∷ more) =
    ap (λ (m : Map). put m (numbered variable_lines (suc k) more))
    (function-changed (λ g. record g { variables = g.variables ++ v ∷ [] }) os fs f)
    ∙ variables-put (suc k) os fs (with_variables f (v ∷ [])) more
    ∙ ap (λ (xs : List MapVariable). ending os fs (record f { variables = xs })) (append_assoc f.variables (v ∷ []) more)

-- ---- points

-- a map whose last block is this one
abbrev ends_in : List MapObject → List MapFunction → MapFunction → List (List MapPoint) → List MapPoint → Map
ends_in os fs f blocks points = ending os fs (with_blocks f (blocks ++ points ∷ []))

block-changed : (change : List MapPoint → List MapPoint) (os : List MapObject) (fs : List MapFunction) (f : MapFunction)
    (blocks : List (List MapPoint)) (points : List MapPoint)
    → in_block change (ends_in os fs f blocks points) ≡ ends_in os fs f blocks (change points)
block-changed change os fs f blocks points =
    function-changed (λ g. record g { blocks = in_last change g.blocks }) os fs
    (with_blocks f (blocks ++ points ∷ []))
    ∙ ap (λ (xs : List (List MapPoint)). ending os fs (with_blocks f xs)) (last-changed change blocks points)

point-changed : (change : MapPoint → MapPoint) (os : List MapObject) (fs : List MapFunction) (f : MapFunction)
    (blocks : List (List MapPoint)) (points : List MapPoint) (p : MapPoint)
    → in_point change (ends_in os fs f blocks (points ++ p ∷ [])) ≡ ends_in os fs f blocks (points ++ change p ∷ [])
point-changed change os fs f blocks points p =
    block-changed (in_last change) os fs f blocks (points ++ p ∷ [])
    ∙ ap (ends_in os fs f blocks) (last-changed change points p)

point-put : (os : List MapObject) (fs : List MapFunction) (f : MapFunction) (blocks : List (List MapPoint))
    (points : List MapPoint) (p : MapPoint)
    → put (ends_in os fs f blocks points) (point_lines p) ≡ ends_in os fs f blocks (points ++ p ∷ [])
point-put os fs f blocks points p =
    ap
    (λ (m : Map).
    put m (BoardLine p.areas p.pieces ∷ BeforeLine p.before ∷ AfterLine p.after ∷ SpilledLine p.spilled ∷ []))
    (block-changed (λ ps. ps ++ new_point p.number p.address p.op ∷ []) os fs f blocks points)
    ∙ ap (λ (m : Map). put m (BeforeLine p.before ∷ AfterLine p.after ∷ SpilledLine p.spilled ∷ []))
    (point-changed (λ q. record q { areas = p.areas; pieces = p.pieces }) os fs f blocks points
    (new_point p.number p.address p.op))
    ∙ ap (λ (m : Map). put m (AfterLine p.after ∷ SpilledLine p.spilled ∷ []))
    (point-changed (λ q. record q { before = p.before }) os fs f blocks points
    (record (new_point p.number p.address p.op) { areas = p.areas; pieces = p.pieces }))
    ∙ ap (λ (m : Map). put m (SpilledLine p.spilled ∷ []))
    (point-changed (λ q. record q { after = p.after }) os fs f blocks points
    (record (new_point p.number p.address p.op) { areas = p.areas; pieces = p.pieces; before = p.before }))
    ∙ point-changed (λ q. record q { spilled = p.spilled }) os fs f blocks points
    (record (new_point p.number p.address p.op) {
      areas = p.areas;
      pieces = p.pieces;
      before = p.before;
      after = p.after;
    })

points-put : (os : List MapObject) (fs : List MapFunction) (f : MapFunction) (blocks : List (List MapPoint))
    (points more : List MapPoint)
    → put (ends_in os fs f blocks points) (flat_map point_lines more) ≡ ends_in os fs f blocks (points ++ more)
points-put os fs f blocks points [] = ap (ends_in os fs f blocks) (sym (append-nil points))
points-put os fs f blocks points (p ∷ more) =
    put-append (ends_in os fs f blocks points) (point_lines p) (flat_map point_lines more)
    ∙ ap (λ (m : Map). put m (flat_map point_lines more)) (point-put os fs f blocks points p)
    ∙ points-put os fs f blocks (points ++ p ∷ []) more
    ∙ ap (ends_in os fs f blocks) (append_assoc points (p ∷ []) more)

-- ---- blocks and functions

blocks-put : (k : ℕ) (os : List MapObject) (fs : List MapFunction) (f : MapFunction) (blocks more : List (List MapPoint))
    → put (ending os fs (with_blocks f blocks)) (numbered block_lines k more) ≡ ending os fs (with_blocks f (blocks ++ more))
blocks-put k os fs f blocks [] =
    ap (λ (xs : List (List MapPoint)). ending os fs (with_blocks f xs)) (sym (append-nil blocks))
blocks-put k os fs f blocks (b ∷ more) =
    ap (λ (m : Map). put m (flat_map point_lines b ++ numbered block_lines (suc k) more))
    (function-changed (λ g. record g { blocks = g.blocks ++ [] ∷ [] }) os fs (with_blocks f blocks))
    ∙ put-append (ends_in os fs f blocks []) (flat_map point_lines b) (numbered block_lines (suc k) more)
    ∙ ap (λ (m : Map). put m (numbered block_lines (suc k) more)) (points-put os fs f blocks [] b)
    ∙ blocks-put (suc k) os fs f (blocks ++ b ∷ []) more
    ∙ ap (λ (xs : List (List MapPoint)). ending os fs (with_blocks f xs)) (append_assoc blocks (b ∷ []) more)

function-put : (k : ℕ) (os : List MapObject) (fs : List MapFunction) (f : MapFunction)
    → put (made os fs) (function_lines k f) ≡ ending os fs f
function-put k os fs f =
    let A = numbered array_lines 0 f.arrays in
    let V = numbered variable_lines 0 f.variables in
    let B = numbered block_lines 0 f.blocks in
    let new = new_function f.name f.frame in
    put-append (ending os fs new) (A ++ V) B
    ∙ ap (λ (m : Map). put m B) (put-append (ending os fs new) A V)
    ∙ ap (λ (m : Map). put (put m V) B) (arrays-put 0 os fs new f.arrays)
    ∙ ap (λ (m : Map). put m B) (variables-put 0 os fs (with_arrays new f.arrays) f.variables)
    ∙ blocks-put 0 os fs (with_variables (with_arrays new f.arrays) f.variables) [] f.blocks

functions-put : (k : ℕ) (os : List MapObject) (fs more : List MapFunction)
    → put (made os fs) (numbered function_lines k more) ≡ made os (fs ++ more)
functions-put k os fs [] = ap (made os) (sym (append-nil fs))
functions-put k os fs (f ∷ more) =
    put-append (made os fs) (function_lines k f) (numbered function_lines (suc k) more)
    ∙ ap (λ (m : Map). put m (numbered function_lines (suc k) more)) (function-put k os fs f)
    ∙ functions-put (suc k) os (fs ++ f ∷ []) more
    ∙ ap (made os) (append_assoc fs (f ∷ []) more)

-- the lines between a map's first and its last make the map
pub lines-put : (m : Map)
    → put (made [] []) (numbered object_lines 0 m.objects ++ numbered function_lines 0 m.functions) ≡ m
lines-put m =
    put-append (made [] []) (numbered object_lines 0 m.objects) (numbered function_lines 0 m.functions)
    ∙ ap (λ (n : Map). put n (numbered function_lines 0 m.functions)) (objects-put 0 [] m.objects)
    ∙ functions-put 0 m.objects [] m.functions
