-- Programs that are above no limit are bounded.
use Rattle.std.proofs.Common.{◌≡◌, ◌≤◌, ℕ, suc, ◌+◌, ◌*◌, Bool, true, false, List, [], ◌∷◌, Option, Some, None, refl}
use Rattle.std.proofs.Common.{arith, length}
use Rattle.std.specs.Prelude.{◌/◌, if◌then◌else◌, nat_lt, sum_by}
use Rattle.std.specs.List.{AllByRecursion}
use Rattle.std.proofs.lemmas.Bool.Decides.{nat_tests}
use Rattle.std.proofs.lemmas.List.Elements.{All-from_recursion}
use Rattle.std.proofs.lemmas.List.Elements.{recursion_from_All}
use Rattle.std.proofs.lemmas.List.Sums.{sum_by-cons}
use Rattle.pcc_base.specs.declared.refusal.Limit.{Limit}
use Rattle.c_tree.specs.declared.types.IntegerType.{IntegerType}
use Rattle.c_tree.specs.declared.types.IntegerType.TheVariants.{Char, Short, Int}
use Rattle.c_tree.specs.Program.{Function, LocalArray, StaticObject}
use Rattle.c_tree.specs.Sizes.{array_bytes, bytes_of, frame_bound}
use Rattle.c_typing.specs.Typed.{arrays_bytes, large_frame, most_arrays, most_frame, object_bytes}
use Rattle.lower_lines.specs.Words.{FunctionHasWords}
use Rattle.pcc_program.specs.LimitLaws.{KeepsWords, LimitsBound}
use Rattle.lower_laws.proofs.Sizes.{count-small as elements-small}

-- a limit that isn't passed, and then none of the others
pub below-limit : (m n : ℕ) (l : Limit) (rest : Option Limit) → (if nat_lt m n then Some l else rest) ≡ None
    → (n ≤ m) × (rest ≡ None)
below-limit m n l rest e = by (nat_lt m n) refl e
  where
    by : (t : Bool) → nat_lt m n ≡ t → (if t then Some l else rest) ≡ None → (n ≤ m) × (rest ≡ None)
    by true t e = absurd (cc)
    by false t e = (grind (arith, nat_tests, t), e)

pub frames-below : (k : ℕ) (fs : List Function) → large_frame k fs ≡ None
    → AllByRecursion (λ f. frame_bound f ≤ 0x4000) fs
frames-below k [] e = tt
frames-below k (f ∷ fs) e =
    let h = below-limit most_frame (frame_bound f) _ (large_frame (suc k) fs) e in
    (h.0, frames-below (suc k) fs h.1)

objects-few : (os : List StaticObject) (n : ℕ) → sum_by object_bytes os ≤ n → length os ≤ n
objects-few [] n h = omega arith
objects-few (o ∷ os) n h =
    let s = sum_by-cons object_bytes o os in
    let k = objects-few os (sum_by object_bytes os) (omega arith) in
    omega (arith, h, s, k)

objects-small : (os : List StaticObject) (n : ℕ) → sum_by object_bytes os ≤ n
    → AllByRecursion (λ o. length o.elements ≤ n) os
objects-small [] n h = tt
objects-small (o ∷ os) n h =
    let s = sum_by-cons object_bytes o os in
    let e = elements-small o.element (length o.elements) in
    (omega (arith, h, s, e), objects-small os n (omega (arith, h, s)))

counts-small : (arrays : List LocalArray) → sum_by array_bytes arrays ≤ 0x4000
    → AllByRecursion (λ a. a.count ≤ 0xffffffff) arrays
counts-small [] h = tt
counts-small (a ∷ arrays) h =
    let s = sum_by-cons array_bytes a arrays in
    let e = elements-small a.element a.count in
    (omega (arith, h, s, e), counts-small arrays (omega (arith, h, s)))

functions-bound : (fs : List Function) → AllByRecursion (λ f. frame_bound f ≤ 0x4000) fs → AllByRecursion KeepsWords fs
    → AllByRecursion FunctionHasWords fs
functions-bound [] h keeps = tt
functions-bound (f ∷ fs) h keeps = (
  record {
    arrays = All-from_recursion (λ (a : LocalArray). a.count ≤ 0xffffffff) f.arrays
        (counts-small f.arrays (let k = h.0 in omega (arith, k)));
    body = keeps.0.body;
    declared = keeps.0.declared;
    frame = h.0;
  },
  functions-bound fs h.1 keeps.1,
)

pub limits-bound : LimitsBound
limits-bound p none keeps small =
    let h = below-limit most_arrays (arrays_bytes p) _ (large_frame 0 p.functions) none in
    record {
      functions = All-from_recursion FunctionHasWords p.functions
          (functions-bound p.functions (frames-below 0 p.functions h.1)
          (recursion_from_All KeepsWords p.functions keeps));
      small = small;
      few_objects = objects-few p.objects 0x01000000 h.0;
      few_elements = All-from_recursion (λ (o : StaticObject). length o.elements ≤ 0x01000000) p.objects
          (objects-small p.objects 0x01000000 h.0);
    }
