-- What a map shows of a state of the machine: at the address of a mark, the statement is visited, with
-- the values that the places named before it hold.
use Rattle.std.specs.Prelude.{ℕ, zero, suc, ◌+◌, ◌-◌, ◌%◌, ◌^◌, Bool, true, false, ◌&&◌, List, [], ◌∷◌, ◌++◌, take}
use Rattle.std.specs.Prelude.{drop, map, filter_map, count_by, slice_get, slice_index, Option, Some, None, option_map}
use Rattle.std.specs.Prelude.{nat_lt, nat_le, ◌==◌, if◌then◌else◌}
use Rattle.byteorder.specs.Endian.{little_number, twos_complement}
use Rattle.pcc_base.specs.declared.run.Width.{Width}
use Rattle.pcc_base.specs.declared.run.Width.TheVariants.{One, Two}
use Rattle.pcc_base.specs.Outcome.{ArrayName, Null, Static, InFrame, Unknown, Value, Number, Array, Part, Scalar}
use Rattle.pcc_base.specs.Outcome.{ArrayOf, IndexOf, Visit, Listing}
use Rattle.ia32_insn.specs.Registers.{register, byte_place}
use Rattle.ia32_insn.specs.declared.register_names.Reg32.TheVariants.{Ebp}
use Rattle.ia32_insn.specs.State.{State, Area, has_bytes}
use Rattle.flow_graph.specs.Kinds.{marked}
use Rattle.ia32_insn.specs.Places.{Place, InWord, InByte, InSlot}
use Rattle.map_text.specs.Maps.{Map, MapFunction, MapVariable, MapPoint, Standing, Named, NamesScalar, NamesArray}
use Rattle.map_text.specs.Maps.{NamesIndex, Temporary, points_of}

-- ---- what the map says

-- a mark: its address, the statement, the number of its function, and where variables stand before it
pub record MarkAt : Type 0 where
  pub address : ℕ
  pub statement : ℕ
  pub function : ℕ
  pub standings : List Standing

-- the mark that a point of a function is, if it is one
abbrev pub mark_at : ℕ → MapPoint → Option MarkAt
mark_at f p =
    option_map (λ statement. record { address = p.address; statement = statement; function = f; standings = p.before })
    (marked p.op)

-- the marks of functions that are numbered from k on
abbrev pub marks_from : ℕ → List MapFunction → List MarkAt
marks_from k [] = []
marks_from k (f ∷ fs) = filter_map (mark_at k) (points_of f) ++ marks_from (suc k) fs

abbrev pub marks_of : Map → List MarkAt
marks_of m = marks_from 0 m.functions

-- the address of each point, and its function
abbrev pub points_from : ℕ → List MapFunction → List (ℕ × ℕ)
points_from k [] = []
points_from k (f ∷ fs) = map (λ p. (p.address, k)) (points_of f) ++ points_from (suc k) fs

abbrev pub points_in : Map → List (ℕ × ℕ)
points_in m = points_from 0 m.functions

-- the variables of a function
abbrev pub variables_of : Option MapFunction → List MapVariable
variables_of None = []
variables_of (Some f) = f.variables

abbrev pub variables_in : Map → ℕ → List MapVariable
variables_in m f = variables_of (slice_get m.functions f)

-- how far below its frame each frame array of a function is, in order
abbrev pub arrays_below : Option MapFunction → List ℕ
arrays_below None = []
arrays_below (Some f) = map (λ a. a.below) f.arrays

abbrev pub arrays_in : Map → ℕ → List ℕ
arrays_in m f = arrays_below (slice_get m.functions f)

-- the address of each static object, in order
abbrev pub objects_of : Map → List ℕ
objects_of m = map (λ o. o.address) m.objects

-- a variable that is the first of a local
abbrev pub begins_local : Named → Bool
begins_local (NamesScalar name) = true
begins_local (NamesArray name) = true
begins_local (NamesIndex name) = false
begins_local Temporary = false

-- how many locals begin before a variable
abbrev pub locals_before : List MapVariable → ℕ → ℕ
locals_before variables v = count_by (λ x. begins_local x.named) (take v variables)

-- the part of a local that a variable is, before which so many locals begin
abbrev pub part_named : ℕ → Option Named → Option Part
part_named before None = None
part_named before (Some (NamesScalar name)) = Some (Scalar before)
part_named before (Some (NamesArray name)) = Some (ArrayOf before)
part_named before (Some (NamesIndex name)) = Some (IndexOf (before - 1))
part_named before (Some Temporary) = None

abbrev pub name_in : List MapVariable → ℕ → Option Named
name_in variables v = option_map (λ x. x.named) (slice_get variables v)

abbrev pub part_of : List MapVariable → Standing → Option Part
part_of variables s = part_named (locals_before variables s.variable) (name_in variables s.variable)

-- the parts that the first mark of a statement shows
abbrev pub listed_by : Map → List MarkAt → ℕ → List Part
listed_by m [] statement = []
listed_by m (mark ∷ marks) statement =
    if mark.statement == statement then filter_map (part_of (variables_in m mark.function)) mark.standings
    else listed_by m marks statement

-- the listing of the parts whose places the map's marks name
abbrev pub listed : Map → Listing
listed m statement = listed_by m (marks_of m) statement

-- ---- what a state holds

-- the number in n bytes of memory, the lowest first
abbrev pub number_at : ℕ → ℕ → List Area → Option ℕ
number_at n address [] = None
number_at n address (area ∷ areas) =
    if has_bytes area address n then Some (little_number n (drop (address - area.address) area.bytes)) else number_at n
    address areas

abbrev pub word_at : ℕ → List Area → Option ℕ
word_at address memory = number_at 4 address memory

-- the depth word, with which the second area begins
abbrev pub depth_of : List Area → ℕ
depth_of [] = 0
depth_of (text ∷ []) = 0
depth_of (text ∷ second ∷ areas) = little_number 4 second.bytes

-- the function of the point with the greatest address below this one, the last of several
abbrev pub function_below : ℕ → List (ℕ × ℕ) → Option (ℕ × ℕ) → Option (ℕ × ℕ)
function_below address [] best = best
function_below address (point ∷ points) None =
    function_below address points (if nat_lt point.0 address then Some point else None)
function_below address (point ∷ points) (Some best) =
    function_below address points (if nat_lt point.0 address && nat_le best.0 point.0 then Some point else Some best)

abbrev pub caller_of : Map → Option ℕ → Option ℕ
caller_of m None = None
caller_of m (Some address) = option_map (λ point. point.1) (function_below address (points_in m) None)

-- a frame: its address, its function where that is known, and its depth, 1 for the oldest
pub record Frame : Type 0 where
  pub address : ℕ
  pub function : Option ℕ
  pub depth : ℕ

-- the frames from an address on, as many as are left; the return address is four bytes above a frame
abbrev pub frames_from : Map → List Area → ℕ → Option ℕ → Option ℕ → List Frame
frames_from m memory zero address function = []
frames_from m memory (suc n) None function = []
frames_from m memory (suc n) (Some address) function =
    record { address = address; function = function; depth = suc n }
    ∷ frames_from m memory n (word_at address memory) (caller_of m (word_at (address + 4) memory))

-- the frames of a state at a mark, the youngest first
abbrev pub frames_of : Map → MarkAt → State → List Frame
frames_of m mark s = frames_from m s.memory (depth_of s.memory) (Some (register Ebp s.registers)) (Some mark.function)

-- the place in a list of addresses, from a number on
abbrev pub place_of : ℕ → ℕ → List ℕ → Option ℕ
place_of k address [] = None
place_of k address (first ∷ others) = if first == address then Some k else place_of (suc k) address others

-- the arrays of a function; a frame whose function isn't known has none
abbrev pub arrays_of : Map → Option ℕ → List ℕ
arrays_of m None = []
arrays_of m (Some f) = arrays_in m f

-- the array that is at this address, by how far each is below its frame
abbrev pub array_in : ℕ → ℕ → ℕ → List ℕ → Option ℕ
array_in k address frame [] = None
array_in k address frame (below ∷ belows) =
    if address + below == frame then Some k else array_in (suc k) address frame belows

abbrev pub in_frame : ℕ → ArrayName → Option ℕ → ArrayName
in_frame depth otherwise None = otherwise
in_frame depth otherwise (Some k) = InFrame k depth

-- the frame array at an address, where the younger frames have one of this name, or none
abbrev pub named_from : Map → ℕ → ArrayName → List Frame → ArrayName
named_from m address younger [] = younger
named_from m address younger (frame ∷ frames) =
    named_from m address (in_frame frame.depth younger (array_in 0 address frame.address (arrays_of m frame.function)))
    frames

-- the frame array at an address: of several, that of the least depth
abbrev pub named_in_frames : Map → ℕ → List Frame → ArrayName
named_in_frames m address frames = named_from m address Unknown frames

abbrev pub static_or : ArrayName → Option ℕ → ArrayName
static_or otherwise None = otherwise
static_or otherwise (Some k) = Static k

-- the array that a word is the address of: none at 0, a static object, or a frame array
abbrev pub array_named : Map → List Frame → ℕ → ArrayName
array_named m frames zero = Null
array_named m frames (suc n) = static_or (named_in_frames m (suc n) frames) (place_of 0 (suc n) (objects_of m))

abbrev pub bytes_of : Width → ℕ
bytes_of One = 1
bytes_of Two = 4

-- so many bytes below EBP, which wraps at 32 bits
abbrev pub slot_address : State → ℕ → ℕ
slot_address s below = (register Ebp s.registers + 2 ^ 32 - below) % 2 ^ 32

-- the number in a place, where it can be read
abbrev pub number_in : Width → Place → State → Option ℕ
number_in width (InWord r) s = Some (register r s.registers)
number_in width (InByte r) s = Some (slice_index s.registers (byte_place r))
number_in width (InSlot below) s = number_at (bytes_of width) (slot_address s below) s.memory

-- a byte or word read as a signed number; what can't be read is unknown
abbrev pub signed_value : Width → Option ℕ → Value
signed_value width None = Array Unknown
signed_value width (Some n) = Number (twos_complement (bytes_of width) n)

abbrev pub array_value : Map → List Frame → Option ℕ → Value
array_value m frames None = Array Unknown
array_value m frames (Some n) = Array (array_named m frames n)

-- the value that a variable of a width shows in its place, where it carries a local's name
abbrev pub value_named : Map → List Frame → State → Place → Width → Named → Option Value
value_named m frames s place width (NamesScalar name) = Some (signed_value width (number_in width place s))
value_named m frames s place width (NamesArray name) = Some (array_value m frames (number_in width place s))
value_named m frames s place width (NamesIndex name) = Some (signed_value width (number_in width place s))
value_named m frames s place width Temporary = None

abbrev pub value_of : Map → List Frame → State → Place → Option MapVariable → Option Value
value_of m frames s place None = None
value_of m frames s place (Some v) = value_named m frames s place v.width v.named

abbrev pub values_of : Map → MarkAt → State → List Value
values_of m mark s =
    filter_map
    (λ standing.
    value_of m (frames_of m mark s) s standing.place (slice_get (variables_in m mark.function) standing.variable))
    mark.standings

-- the visit of a mark
abbrev pub visit_at : Map → State → MarkAt → Visit
visit_at m s mark = record { statement = mark.statement; values = values_of m mark s }

-- the visit of a step from a state: that of the first mark whose address is EIP
abbrev pub visits_by : Map → State → List MarkAt → List Visit
visits_by m s [] = []
visits_by m s (mark ∷ marks) = if mark.address == s.eip then visit_at m s mark ∷ [] else visits_by m s marks

abbrev pub visits_of : Map → State → List Visit
visits_of m s = visits_by m s (marks_of m)
