-- The rules of a whole map, which lists every block and every point with its board.
use Rattle.std.specs.Prelude.{◌≡◌, ◌<◌, ◌≤◌, ◌⊎◌, ⊤, ◌^◌, true, false, List, [], ◌∷◌, length, map, slice_get, Some}
use Rattle.std.specs.List.{All, AllByRecursion}
use Rattle.pcc_base.specs.Names.{IsName}
use Rattle.puzzle_board.specs.declared.piece.Kind.TheVariants.{X, Z}
use Rattle.puzzle_board.specs.declared.piece.Piece.{Piece}
use Rattle.flow_graph.specs.Graphs.{IsDistinct, is_end}
use Rattle.map_text.specs.Maps.{Map, MapFunction, MapVariable, MapPoint, points_of, IsNumber, IsMapObject, IsMapArray}
use Rattle.map_text.specs.Maps.{IsMapVariable, AreStandings, IsMapOp}

-- ---- pieces

-- a piece of a variable of the function, of its width
abbrev pub IsMapPiece : List MapVariable → Piece → Type 0
IsMapPiece variables piece =
    (v : MapVariable) × (slice_get variables piece.var ≡ Some v) × (piece.width ≡ v.width)

-- one piece comes before another: its variable is smaller, or both are of one variable, an X and then a Z
abbrev pub ComesBefore : Piece → Piece → Type 0
ComesBefore p q = (p.var < q.var) ⊎ ((p.var ≡ q.var) × (p.kind ≡ X) × (q.kind ≡ Z))

-- pieces ascend by variable, and two pieces of one variable are an X and then a Z
abbrev pub AreInOrder : List Piece → Type 0
AreInOrder [] = ⊤
AreInOrder (p ∷ ps) = AllByRecursion (ComesBefore p) ps × AreInOrder ps

-- ---- points and blocks

-- a point of a function of a map: its board has four areas, and its pieces are of variables of the function, in order;
-- the variables before it and after it ascend, and those that are spilled are distinct
pub record IsMapPoint (m : Map) (f : MapFunction) (p : MapPoint) : Type 0 where
  pub number : IsNumber p.number
  pub address : IsNumber p.address
  pub op : IsMapOp m f p.op
  pub areas : length p.areas ≡ 4
  pub pieces : All (IsMapPiece f.variables) p.pieces
  pub in_order : AreInOrder p.pieces
  pub before : AreStandings f.variables p.before
  pub after : AreStandings f.variables p.after
  pub spilled : All (λ v. v < length f.variables) p.spilled
  pub once : IsDistinct p.spilled

-- a block has a point, its last op is an end, and no other is
abbrev pub IsMapBlock : List MapPoint → Type 0
IsMapBlock [] = ⊥
IsMapBlock (p ∷ []) = is_end p.op ≡ true
IsMapBlock (p ∷ q ∷ ps) = (is_end p.op ≡ false) × IsMapBlock (q ∷ ps)

-- ---- functions and maps

-- No two points of a function have one number.
pub record IsMapFunction (m : Map) (f : MapFunction) : Type 0 where
  pub name : IsName f.name
  pub frame : IsNumber f.frame
  pub arrays : All IsMapArray f.arrays
  pub few_arrays : length f.arrays ≤ 2 ^ 32
  pub variables : All IsMapVariable f.variables
  pub few_variables : length f.variables ≤ 2 ^ 32
  pub blocks : All IsMapBlock f.blocks
  pub few_blocks : length f.blocks ≤ 2 ^ 32
  pub points : All (IsMapPoint m f) (points_of f)
  pub distinct : IsDistinct (map (λ p. p.number) (points_of f))

-- objects, functions, arrays, variables and blocks are numbered from 0 in order, by numbers of 32 bits
pub record IsMap (m : Map) : Type 0 where
  pub objects : All IsMapObject m.objects
  pub few_objects : length m.objects ≤ 2 ^ 32
  pub functions : All (IsMapFunction m) m.functions
  pub few_functions : length m.functions ≤ 2 ^ 32
