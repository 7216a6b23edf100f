-- The names of an elementary form: each variable has a fresh one before each point and another after it, where it is
-- live, and on each edge of the graph there is one parallel copy (Quintão Pereira and Palsberg, PLDI 2008, section 2).
use Rattle.std.specs.Prelude.{ℕ, suc, ◌+◌, ◌*◌, ◌==◌, Bool, true, false, if◌then◌else◌, List, [], ◌∷◌, ◌++◌}
use Rattle.std.specs.Prelude.{Option, Some, None, option_map, slice_get, slice_index_or}
use Rattle.pcc_base.specs.Outcome.{Value, Number}
use Rattle.std.specs.Prelude.{pos}
use Rattle.flow_graph.specs.declared.op.Op.{Op}
use Rattle.flow_graph.specs.Graphs.{Flow, has_point}
use Rattle.flow_graph.specs.Liveness.{defined}
use Rattle.flow_graph.specs.Shapes.{if_any}
use Rattle.flow_graph.specs.Lives.{Lives, at_point}

-- ---- the places of points

-- the points of the blocks, block by block
abbrev pub joined : List (List ℕ) → List ℕ
joined [] = []
joined (points ∷ blocks) = points ++ joined blocks

abbrev pub one_further : Option ℕ → Bool → Option ℕ
one_further (Some place) here = Some (suc place)
one_further None true = Some 0
one_further None false = None

-- the place of a point among points, if it is there; of several the last
abbrev pub place_in : ℕ → List ℕ → Option ℕ
place_in point [] = None
place_in point (p ∷ ps) = one_further (place_in point ps) (p == point)

-- the place of a point among the points of the blocks; one that was removed has none
abbrev pub place_of : Flow → ℕ → Option ℕ
place_of flow point = place_in point (joined flow.blocks)

-- ---- names: two of each place and variable

abbrev pub first_name : ℕ → ℕ → ℕ
first_name variable place = 2 * (place * 0x1_0000_0000 + variable)

abbrev pub second_name : ℕ → ℕ → ℕ
second_name variable place = 2 * (place * 0x1_0000_0000 + variable) + 1

abbrev pub where_named : Bool → Option ℕ → Option ℕ
where_named true name = name
where_named false name = None

-- the name of a variable before a point, where it is live there
abbrev pub name_before : Flow → Lives → ℕ → ℕ → Option ℕ
name_before flow lives point variable =
    where_named (has_point variable (at_point lives.before point))
    (option_map (first_name variable) (place_of flow point))

abbrev pub defined_by : Option Op → Option ℕ
defined_by None = None
defined_by (Some op) = defined op

-- the variable that the op of a point defines, if it defines one
abbrev pub result_of : Flow → ℕ → Option ℕ
result_of flow point = defined_by (slice_get flow.ops point)

-- the variables that have a name after a point: the one that is defined there, and those that are live
abbrev pub named_after : Flow → Lives → ℕ → List ℕ
named_after flow lives point = if_any (result_of flow point) ++ at_point lives.after point

-- the name of a variable after a point, where it is live there or defined by the point's op
abbrev pub name_after : Flow → Lives → ℕ → ℕ → Option ℕ
name_after flow lives point variable =
    where_named (has_point variable (named_after flow lives point))
    (option_map (second_name variable) (place_of flow point))

-- ---- the copy on an edge

-- one name takes the value of another
pub record Move : Type 0 where
  pub to : ℕ
  pub from : ℕ

abbrev pub move_between : Option ℕ → Option ℕ → List Move
move_between (Some to) (Some from) = record { to = to; from = from } ∷ []
move_between (Some to) None = []
move_between None from = []

abbrev pub moves_of : (ℕ → Option ℕ) → (ℕ → Option ℕ) → List ℕ → List Move
moves_of to from [] = []
moves_of to from (v ∷ vs) = move_between (to v) (from v) ++ moves_of to from vs

-- from a point to the next one the name of each variable that is live before that one takes the value of the same
-- variable's name after the point
abbrev pub edge_copy : Flow → Lives → ℕ → ℕ → List Move
edge_copy flow lives point next =
    moves_of (name_before flow lives next) (name_after flow lives point) (at_point lives.before next)

-- ---- values of names

-- the value of each name
abbrev pub Names : Type 0
Names = ℕ → Value

-- the name that a name's value comes from; one that no move goes to keeps its value
abbrev pub source_of : List Move → ℕ → ℕ
source_of [] name = name
source_of (m ∷ ms) name = if m.to == name then m.from else source_of ms name

-- the values after a parallel copy: all moves read the values before it
abbrev pub copied : List Move → Names → Names
copied moves names name = names (source_of moves name)

-- these variables' names take these values
abbrev pub is_named : Option ℕ → ℕ → Bool
is_named None name = false
is_named (Some n) name = n == name

abbrev pub with_values : (ℕ → Option ℕ) → List ℕ → List Value → Names → Names
with_values name_of [] values names name = names name
with_values name_of (v ∷ vs) values names name =
    if is_named (name_of v) name then slice_index_or values v (Number (pos 0))
    else with_values name_of vs values names name

-- without a variable
abbrev pub without_result : Option ℕ → List ℕ → List ℕ
without_result result [] = []
without_result result (v ∷ vs) =
    if is_named result v then without_result result vs else v ∷ without_result result vs

-- after an op, where the variables have these values: the names after its point have them
abbrev pub settled : Flow → Lives → ℕ → List Value → Names → Names
settled flow lives point values names =
    with_values (name_after flow lives point) (named_after flow lives point) values names

-- while a call waits: the names after its point have them, other than that of its result
abbrev pub waited : Flow → Lives → ℕ → List Value → Names → Names
waited flow lives point values names =
    with_values (name_after flow lives point)
    (without_result (result_of flow point) (at_point lives.after point)) values names

-- on the way from a point to the next one: the names after the point are settled, and then those before the next
-- point are copied from them, all at once
abbrev pub passed : Flow → Lives → ℕ → ℕ → List Value → Names → Names
passed flow lives point next values names =
    copied (edge_copy flow lives point next) (settled flow lives point values names)

-- ---- variables read off their names; one that has no name has 0

abbrev pub value_of_name : Names → Option ℕ → Value
value_of_name names None = Number (pos 0)
value_of_name names (Some name) = names name

abbrev pub opened_from : {A : Type 0} → (ℕ → Option ℕ) → Names → ℕ → List A → List Value
opened_from name_of names variable [] = []
opened_from name_of names variable (w ∷ widths) =
    value_of_name names (name_of variable) ∷ opened_from name_of names (suc variable) widths

-- the values of a graph's variables by their names
abbrev pub opened_values : Flow → (ℕ → Option ℕ) → Names → List Value
opened_values flow name_of names = opened_from name_of names 0 flow.widths
