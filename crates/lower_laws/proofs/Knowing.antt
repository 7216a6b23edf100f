-- Evaluations that keep the locals of each active call in their types, and make only visits whose values are known.
use Rattle.std.proofs.Common.{◌≡◌, ℕ, zero, suc, Bool, true, false, ℤ, pos, List, [], ◌∷◌, map, Option, Some, None}
use Rattle.std.proofs.Common.{sym, subst}
use Rattle.std.specs.Prelude.{if◌then◌else◌, ◌==◌, length, slice_get, slice_index_or, slice_set}
use Rattle.std.specs.List.{All, AllByRecursion, AllZip}
use Rattle.std.proofs.lemmas.List.Elements.{All-append, All-cons, All-nil}
use Rattle.pcc_base.specs.Outcome.{End, AreKnown, ArrayName, IsKnown, Listing, Part, Scalar, ArrayOf, IndexOf, Value}
use Rattle.pcc_base.specs.Outcome.{Visit, Null, Static, InFrame, Unknown, Array}
use Rattle.c_tree.specs.declared.expression.BinaryOp.{BinaryOp}
use Rattle.c_tree.specs.declared.types.IntegerType.{IntegerType}
use Rattle.c_tree.specs.declared.types.ValueType.{ValueType}
use Rattle.c_tree.specs.declared.types.ValueType.TheVariants.{Void, Integer, Pointer}
use Rattle.c_tree.specs.Evaluation.{Found, InLocal, InObject, AtIndex, Left, Falls, Breaks, Continues, Returns, Runs}
use Rattle.c_tree.specs.Evaluation.{after_body, after_statement, after_switch, computed, do_loop, element_read}
use Rattle.c_tree.specs.Evaluation.{element_written, get_from, load, loop, none_or_from, put, store, updated}
use Rattle.c_tree.specs.Operators.{Computed, Computes, Traps, binary_value}
use Rattle.c_tree.specs.Program.{Local, Program}
use Rattle.c_tree.specs.Store.{Activation, Evaluated, Gives, Ends, Held, HoldsNumber, HoldsPointer, State, and_then}
use Rattle.c_tree.specs.Store.{array_held, element_at, array_named, part_value, take_turn, turn_with, visited}
use Rattle.c_tree.specs.Store.{with_array, with_array_in, with_local, with_own, with_youngest, youngest, in_type}
use Rattle.c_tree.specs.WellTyped.{IsInteger}
use Rattle.lower_lines.specs.Shown.{IsPartOf, IsPointer, ListsLocals, locals_at}
use Rattle.lower_lines.proofs.Locals.{zip-index, zip-set}
use Rattle.lower_laws.proofs.Values.{Computing, HasKind, IsFound, IsLeftSo, IsSafe, binary-safe, in-kind}
use Rattle.lower_laws.proofs.Values.{number-kind}

-- ---- states

-- a call's locals hold values of their types
abbrev pub HoldsLocals : List Local → Activation → Type 0
HoldsLocals locals a = AllZip (λ l x. HasKind l.of x) locals a.values

-- the active calls' locals, the youngest first, do so, and what was visited is known
abbrev pub Known : List (List Local) → State → Type 0
Known calls s = AllZip HoldsLocals calls s.active × AreKnown s.visits

-- what an evaluation comes to: such a value and state, or an end with visits that are known
abbrev pub Comes : {A : Type 0} → List (List Local) → (A → Type 0) → Evaluated A → Type 0
Comes calls K (Gives value t) = K value × Known calls t
Comes calls K (Ends end t) = AreKnown t.visits

-- it comes to this from every such state
pub record Knows {A : Type 0} (calls : List (List Local)) (K : A → Type 0) (run : State → Evaluated A) : Type 0 where
  pub from : (s : State) → Known calls s → Comes calls K (run s)

-- ---- evaluations that are made of others

then-comes : {A B : Type 0} (calls : List (List Local)) (K : A → Type 0) (L : B → Type 0) (r : Evaluated A)
    (go : A → State → Evaluated B) → Comes calls K r
    → ((v : A) → K v → (t : State) → Known calls t → Comes calls L (go v t)) → Comes calls L (and_then r go)
then-comes calls K L (Gives v t) go h after = after v h.0 t h.1
then-comes calls K L (Ends end t) go h after = h

pub then-knows : {A B : Type 0} {calls : List (List Local)} {K : A → Type 0} {L : B → Type 0}
    {f : State → Evaluated A} {go : A → State → Evaluated B} → Knows calls K f
    → ((v : A) → K v → Knows calls L (go v)) → Knows calls L (λ s. and_then (f s) go)
then-knows {A} {B} {calls} {K} {L} {f} {go} h after =
    record { from = λ s k. then-comes calls K L (f s) go (h.from s k) (λ v kv t kt. (after v kv).from t kt) }

pub either-knows : {A : Type 0} {calls : List (List Local)} {K : A → Type 0} {f g : State → Evaluated A}
    (test : Bool) → Knows calls K f → Knows calls K g → Knows calls K (λ s. if test then f s else g s)
either-knows true h h' = h
either-knows false h h' = h'

pub gives-knows : {A : Type 0} {calls : List (List Local)} {K : A → Type 0} {v : A} → K v
    → Knows calls K (λ s. Gives v s)
gives-knows {A} {calls} {K} {v} h = record { from = λ s k. (h, k) }

pub ends-knows : {A : Type 0} {calls : List (List Local)} {K : A → Type 0} {end : End}
    → Knows calls K (λ s. Ends end s)
ends-knows = record { from = λ s k. k.1 }

weaken-comes : {A : Type 0} (calls : List (List Local)) (K L : A → Type 0) (r : Evaluated A) → Comes calls K r
    → ((v : A) → K v → L v) → Comes calls L r
weaken-comes calls K L (Gives v t) h weaker = (weaker v h.0, h.1)
weaken-comes calls K L (Ends end t) h weaker = h

pub weaken-knows : {A : Type 0} {calls : List (List Local)} {K L : A → Type 0} {f : State → Evaluated A}
    → Knows calls K f → ((v : A) → K v → L v) → Knows calls L f
weaken-knows {A} {calls} {K} {L} {f} h weaker =
    record { from = λ s k. weaken-comes calls K L (f s) (h.from s k) weaker }

-- an evaluation behind a change of the state that keeps it
pub before-knows : {A : Type 0} {calls : List (List Local)} {K : A → Type 0} {f : State → Evaluated A}
    (change : State → State) → ((s : State) → Known calls s → Known calls (change s)) → Knows calls K f
    → Knows calls K (λ s. f (change s))
before-knows change keeps h = record { from = λ s k. h.from (change s) (keeps s k) }

turn-comes : {A : Type 0} (calls : List (List Local)) (K : A → Type 0) (n : ℕ) (s : State) (go : State → Evaluated A)
    → Knows calls K go → Known calls s → Comes calls K (turn_with n s go)
turn-comes calls K zero s go h k = k.1
turn-comes calls K (suc n) s go h k = h.from (record s { turns = n }) k

pub turn-knows : {A : Type 0} {calls : List (List Local)} {K : A → Type 0} {go : State → Evaluated A}
    → Knows calls K go → Knows calls K (λ s. take_turn s go)
turn-knows {A} {calls} {K} {go} h = record { from = λ s k. turn-comes calls K s.turns s go h k }

-- ---- locals

-- the youngest call's locals
youngest-holds : (locals : List Local) (older : List (List Local)) (active : List Activation)
    → AllZip HoldsLocals (locals ∷ older) active → AllZip (λ l x. HasKind l.of x) locals (youngest active).values
youngest-holds locals older [] h = absurd h
youngest-holds locals older (a ∷ active) h = h.0

-- another value in a local
local-active : (locals : List Local) (older : List (List Local)) (active : List Activation) (v : ℕ) (l : Local)
    (value : Held) → AllZip HoldsLocals (locals ∷ older) active → slice_get locals v ≡ Some l → HasKind l.of value
    → AllZip HoldsLocals (locals ∷ older)
    (with_youngest (record { values = slice_set (youngest active).values v value; arrays = (youngest active).arrays })
    active)
local-active locals older [] v l value h e k = absurd h
local-active locals older (a ∷ active) v l value h e k =
    (zip-set (λ l x. HasKind l.of x) locals a.values v l value h.0 e k, h.1)

pub local-known : (locals : List Local) (older : List (List Local)) (s : State) (v : ℕ) (l : Local) (value : Held)
    → Known (locals ∷ older) s → slice_get locals v ≡ Some l → HasKind l.of value
    → Known (locals ∷ older) (with_local v value s)
local-known locals older s v l value h e k = (local-active locals older s.active v l value h.0 e k, h.1)

-- ---- arrays

either-active : (calls : List (List Local)) (test : Bool) (xs ys : List Activation) → AllZip HoldsLocals calls xs
    → AllZip HoldsLocals calls ys → AllZip HoldsLocals calls (if test then xs else ys)
either-active calls true xs ys h h' = h
either-active calls false xs ys h h' = h'

array-active : (calls : List (List Local)) (k depth : ℕ) (elements : List ℤ) (active : List Activation)
    → AllZip HoldsLocals calls active → AllZip HoldsLocals calls (with_array_in k depth elements active)
array-active [] k depth elements [] h = h
array-active [] k depth elements (a ∷ active) h = absurd h
array-active (c ∷ calls) k depth elements [] h = absurd h
array-active (c ∷ calls) k depth elements (a ∷ active) h =
    either-active (c ∷ calls) (depth == suc (length active)) (with_own k elements a ∷ active)
    (a ∷ with_array_in k depth elements active) h (h.0, array-active calls k depth elements active h.1)

pub array-known : (calls : List (List Local)) (s : State) (array : ArrayName) (elements : List ℤ) → Known calls s
    → Known calls (with_array array elements s)
array-known calls s Null elements h = h
array-known calls s (Static k) elements h = h
array-known calls s (InFrame k depth) elements h = (array-active calls k depth elements s.active h.0, h.1)
array-known calls s Unknown elements h = h

-- ---- loads and stores

read-comes : (calls : List (List Local)) (of : ValueType) (s : State) (element : Option ℤ) → IsInteger of
    → Known calls s → Comes calls (HasKind of) (element_read s element)
read-comes calls of s None h k = k.1
read-comes calls of s (Some n) h k = (number-kind of n h, k)

held-kind : (locals : List Local) (of : ValueType) (xs : List Held) (v : ℕ) (l : Local)
    → AllZip (λ l x. HasKind l.of x) locals xs → slice_get locals v ≡ Some l → l.of ≡ of
    → HasKind of (slice_index_or xs v (HoldsNumber (pos 0)))
held-kind locals of xs v l h e same =
    subst (λ (t : ValueType). HasKind t (slice_index_or xs v (HoldsNumber (pos 0)))) same
    (zip-index (λ l x. HasKind l.of x) locals xs v l (HoldsNumber (pos 0)) h e)

pub load-knows : (locals : List Local) (older : List (List Local)) (of : ValueType) (found : Found)
    → IsFound locals of found → Knows (locals ∷ older) (HasKind of) (load found)
load-knows locals older of (InLocal v) (l, e, same) =
    record {
      from = λ s k.
          (held-kind locals of (youngest s.active).values v l (youngest-holds locals older s.active k.0) e same, k);
    }
load-knows locals older of (InObject object) h =
    record {
      from = λ s k. read-comes (locals ∷ older) of s (element_at (array_named s (Static object)) (pos 0)) h k;
    }
load-knows locals older of (AtIndex array index) h =
    record { from = λ s k. read-comes (locals ∷ older) of s (element_at (array_named s array) index) h k }

written-comes : (calls : List (List Local)) (of : ValueType) (array : ArrayName) (index : ℤ) (value : Held) (s : State)
    (old : Option ℤ) → HasKind of value → Known calls s
    → Comes calls (HasKind of) (element_written array index value s old)
written-comes calls of array index value s None h k = k.1
written-comes calls of array index value s (Some n) h k = (h, array-known calls s array _ k)

pub store-knows : (locals : List Local) (older : List (List Local)) (of : ValueType) (found : Found) (value : Held)
    → IsFound locals of found → HasKind of value → Knows (locals ∷ older) (HasKind of) (store found value)
store-knows locals older of (InLocal v) value (l, e, same) h =
    record {
      from = λ s k.
          (h, local-known locals older s v l value k e (subst (λ (t : ValueType). HasKind t value) (sym same) h));
    }
store-knows locals older of (InObject object) value found h =
    record {
      from = λ s k. written-comes (locals ∷ older) of (Static object) (pos 0) value s
          (element_at (array_named s (Static object)) (pos 0)) h k;
    }
store-knows locals older of (AtIndex array index) value found h =
    record {
      from = λ s k. written-comes (locals ∷ older) of array index value s (element_at (array_named s array) index) h k;
    }

pub element-knows : {calls : List (List Local)} (array : ArrayName) (index : ℤ) (value : Held) → IsSafe value
    → Knows calls IsSafe (store (AtIndex array index) value)
element-knows {calls} array index value h =
    record {
      from = λ s k. written-comes calls Void array index value s (element_at (array_named s array) index) h k;
    }

-- ---- operators and the outside

computed-comes : (calls : List (List Local)) (K : Held → Type 0) (c : Computed) (s : State) → Computing K c
    → Known calls s → Comes calls K (computed c s)
computed-comes calls K (Computes v) s h k = (h, k)
computed-comes calls K (Traps trap) s h k = k.1

pub computed-knows : {calls : List (List Local)} {K : Held → Type 0} (c : Computed) → Computing K c
    → Knows calls K (computed c)
computed-knows {calls} {K} c h = record { from = λ s k. computed-comes calls K c s h k }

pub updated-knows : (locals : List Local) (older : List (List Local)) (of : ValueType) (within : IntegerType)
    (op : BinaryOp) (found : Found) (old value : Held) → IsFound locals of found → IsSafe old → IsSafe value
    → Knows (locals ∷ older) (HasKind of) (updated of within op found old value)
updated-knows locals older of within op found old value is h h' =
    then-knows (computed-knows {K = IsSafe} (binary_value within op old value)
    (binary-safe within op old value h h')) (λ new safe.
    store-knows locals older of found (in_type of new) is (in-kind of new safe))

pub put-knows : {calls : List (List Local)} (of : ValueType) (v : Held) → IsInteger of
    → Knows calls (HasKind of) (put v)
put-knows {calls} of v is = record { from = λ s k. (number-kind of _ is, k) }

get-comes : (calls : List (List Local)) (of : ValueType) (left : List ℕ) (s : State) → IsInteger of → Known calls s
    → Comes calls (HasKind of) (get_from left s)
get-comes calls of [] s is k = (number-kind of _ is, k)
get-comes calls of (byte ∷ bytes) s is k = (number-kind of _ is, k)

pub get-knows : {calls : List (List Local)} (of : ValueType) → IsInteger of
    → Knows calls (HasKind of) (λ s. get_from s.left s)
get-knows {calls} of is = record { from = λ s k. get-comes calls of s.left s is k }

-- ---- visits

-- what a pointer's local holds at a place of a list
array-shown : (locals : List Local) (xs : List Held) (k : ℕ) (l : Local) → AllZip (λ l x. HasKind l.of x) locals xs
    → slice_get locals k ≡ Some l → IsPointer l.of → IsKnown (Array (array_held (slice_get xs k)))
array-shown [] xs k l h e is = absurd (cc)
array-shown (m ∷ locals) [] k l h e is = absurd h
array-shown (m ∷ locals) (x ∷ xs) zero l h e is =
    let same : m ≡ l = cc in pointer l.of x is (subst (λ (n : Local). HasKind n.of x) same h.0)
  where
    pointer : (of : ValueType) (x : Held) → IsPointer of → HasKind of x → IsKnown (Array (array_held (Some x)))
    pointer Void x is h = absurd is
    pointer (Integer t) x is h = absurd is
    pointer (Pointer t) (HoldsNumber n) is h = absurd h
    pointer (Pointer t) (HoldsPointer array index) is h = h
array-shown (m ∷ locals) (x ∷ xs) (suc k) l h e is = array-shown locals xs k l h.1 e is

part-known : (locals : List Local) (xs : List Held) (part : Part) → AllZip (λ l x. HasKind l.of x) locals xs
    → IsPartOf locals part → IsKnown (part_value xs part)
part-known locals xs (Scalar k) h is = tt
part-known locals xs (ArrayOf k) h (l, e, is) = array-shown locals xs k l h e is
part-known locals xs (IndexOf k) h is = tt

parts-known : (locals : List Local) (xs : List Held) (parts : List Part) → AllZip (λ l x. HasKind l.of x) locals xs
    → AllByRecursion (IsPartOf locals) parts → All IsKnown (map (part_value xs) parts)
parts-known locals xs [] h all = All-nil IsKnown
parts-known locals xs (part ∷ parts) h all =
    All-cons IsKnown (part_value xs part) (map (part_value xs) parts) (part-known locals xs part h all.0)
    (parts-known locals xs parts h all.1)

abbrev AllKnown : Visit → Type 0
AllKnown visit = All IsKnown visit.values

pub none-known : AreKnown []
none-known = All-nil AllKnown

-- a statement of the function is visited
pub visit-known : (p : Program) (listing : Listing) (locals : List Local) (older : List (List Local)) (n : ℕ)
    (s : State) → ListsLocals p listing → locals_at p.functions n ≡ locals → Known (locals ∷ older) s
    → Known (locals ∷ older) (visited listing n s)
visit-known p listing locals older n s lists own k =
    let xs = (youngest s.active).values in
    let values : List Value = map (part_value xs) (listing n) in
    let visit : Visit = record { statement = n; values = values } in
    let shown = subst (λ (ls : List Local). AllByRecursion (IsPartOf ls) (listing n)) own (lists n) in
    let known = parts-known locals xs (listing n) (youngest-holds locals older s.active k.0) shown in
    (k.0, All-append AllKnown s.visits (visit ∷ []) k.1 (All-cons AllKnown visit [] known none-known))

-- ---- statements

pub statement-knows : {calls : List (List Local)} (result : ValueType) {next : Runs} (left : Left)
    → IsLeftSo result left → Knows calls (IsLeftSo result) next
    → Knows calls (IsLeftSo result) (after_statement next left)
statement-knows result Falls is h = h
statement-knows result Breaks is h = gives-knows tt
statement-knows result Continues is h = gives-knows tt
statement-knows result (Returns value) is h = gives-knows is

pub body-knows : {calls : List (List Local)} (result : ValueType) {next : Runs} (left : Left) → IsLeftSo result left
    → Knows calls (IsLeftSo result) next → Knows calls (IsLeftSo result) (after_body next left)
body-knows result Falls is h = h
body-knows result Breaks is h = gives-knows tt
body-knows result Continues is h = h
body-knows result (Returns value) is h = gives-knows is

pub switch-knows : {calls : List (List Local)} (result : ValueType) (left : Left) → IsLeftSo result left
    → Knows calls (IsLeftSo result) (after_switch left)
switch-knows result Falls is = gives-knows tt
switch-knows result Breaks is = gives-knows tt
switch-knows result Continues is = gives-knows tt
switch-knows result (Returns value) is = gives-knows is

pub from-knows : {calls : List (List Local)} (result : ValueType) (place : Option ℕ) (from : ℕ → Runs)
    → ((n : ℕ) → Knows calls (IsLeftSo result) (from n)) → Knows calls (IsLeftSo result) (none_or_from place from)
from-knows result None from h = gives-knows tt
from-knows result (Some place) from h = h place

-- anything
abbrev pub Any : {A : Type 0} → A → Type 0
Any x = Unit {0}

pub loop-knows : {calls : List (List Local)} (result : ValueType) (bound : ℕ) (test : State → Evaluated Bool)
    (body after : Runs) → Knows calls (Any {A = Bool}) test → Knows calls (IsLeftSo result) body
    → Knows calls (IsLeftSo result) after → Knows calls (IsLeftSo result) (loop bound test body after)
loop-knows result zero test body after h b a = ends-knows
loop-knows result (suc bound) test body after h b a =
    turn-knows (then-knows h (λ holds any. either-knows holds
    (then-knows b (λ left is. body-knows result left is
    (then-knows a (λ left any. loop-knows result bound test body after h b a))))
    (gives-knows tt)))

pub do-knows : {calls : List (List Local)} (result : ValueType) (bound : ℕ) (test : State → Evaluated Bool)
    (body : Runs) → Knows calls (Any {A = Bool}) test → Knows calls (IsLeftSo result) body
    → Knows calls (IsLeftSo result) (do_loop bound test body)
do-knows result zero test body h b = ends-knows
do-knows result (suc bound) test body h b =
    turn-knows (then-knows b (λ left is. body-knows result left is
    (then-knows h (λ holds any. either-knows holds (do-knows result bound test body h b) (gives-knows tt)))))
