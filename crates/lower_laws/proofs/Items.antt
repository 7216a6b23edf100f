-- Sets of the lines of declared scalars and arrays.
use Rattle.std.proofs.Common.{◌≡◌, ◌<◌, ℕ, suc, ◌+◌, ◌*◌, Bool, true, false, pos, List, [], ◌∷◌, ◌++◌, Option, Some}
use Rattle.std.proofs.Common.{None, inl, inr, refl, arith, length-append}
use Rattle.std.specs.Prelude.{if◌then◌else◌}
use Rattle.std.specs.List.{AllByRecursion}
use Rattle.c_tree.specs.declared.types.IntegerType.{IntegerType}
use Rattle.c_tree.specs.declared.types.IntegerType.TheVariants.{Char, Short, Int, UnsignedInt}
use Rattle.c_tree.specs.declared.types.ValueType.{ValueType}
use Rattle.c_tree.specs.declared.types.ValueType.TheVariants.{Void, Integer, Pointer}
use Rattle.c_tree.specs.Evaluation.{type_at}
use Rattle.c_tree.specs.Program.{Expression, Constant, Start as StartOf, Read, Address, Unary, Binary, And, Or}
use Rattle.c_tree.specs.Program.{Conditional, Cast, Assign, Update, Step, Comma, Call, Putchar, Getchar, Exit}
use Rattle.flow_graph.specs.declared.op.Op.TheVariants as op
use Rattle.flow_graph.specs.Graphs.{IsIn}
use Rattle.lower_lines.specs.Expressions.{assigned_local, part_of, words_of}
use Rattle.lower_lines.specs.Lines.{Line, Emit}
use Rattle.lower_lines.specs.Parts.{Dropped, ToLocal, Part, bits_of, in_type, operand}
use Rattle.lower_lines.specs.Statements.{elements_blocks, elements_lines, initialiser_part, local_blocks, local_lines}
use Rattle.lower_lines.specs.Statements.{reads_none, zeroed_by, zeroing}
use Rattle.lower_lines.specs.Variables.{Context, Spot, local_spot, local_variables, own}
use Rattle.lower_laws.proofs.FitsCompound.{Becomes}
use Rattle.lower_laws.specs.Flows.{Within}
use Rattle.lower_laws.specs.Settled.{Settled}
use Rattle.lower_laws.proofs.Addresses.{assigned-local, becomes-integer}
use Rattle.lower_laws.proofs.Compound.{settles-as, turned-alike, turned-part}
use Rattle.lower_laws.proofs.Parts.{LivePart, Ready, constant-part, number-in, operand-held, settled-less}
use Rattle.lower_laws.proofs.Parts.{start-part}
use Rattle.lower_laws.proofs.Sets.{F, flows-then, keeps, last-less, one-in, swapped, wider, writes}
use Rattle.lower_laws.proofs.LiveConditions.{ready}
use Rattle.lower_laws.proofs.Copies.{three-in}
use Rattle.lower_laws.proofs.Runs.{agrees-split}

-- a local becomes 0 or null
pub zeroed-flows : (c : Context) (B : ℕ → List ℕ) (of : ValueType) (spot : Spot) (S : List ℕ)
    → F c B S (zeroed_by of spot) (words_of of spot ++ S)
zeroed-flows c B Void spot S = λ v is. is
zeroed-flows c B (Integer t) spot S =
    writes c B (op.Const spot.number (pos 0)) spot.number S (spot.number ∷ S) [] (refl, refl, refl) refl
    (λ v is. absurd is) (λ v is. is)
zeroed-flows c B (Pointer t) spot S =
    writes c B (op.Const spot.array (pos 0)) spot.array S (spot.array ∷ spot.number ∷ S)
    (Emit (op.Const spot.number (pos 0)) ∷ []) (refl, refl, refl) refl (λ v is. absurd is)
    (writes c B (op.Const spot.number (pos 0)) spot.number (spot.array ∷ S) (spot.array ∷ spot.number ∷ S) []
    (refl, refl, refl) refl (λ v is. absurd is) (swapped c B spot.array spot.number S))

module _ (c : Context) (D : List ℕ) (low-known : (v : ℕ) → IsIn v D → v < local_variables c.function) where
  abbrev L : ℕ
  L = local_variables c.function

  abbrev Live : Part → Type 0
  Live a = LivePart c D low-known a

  -- ---- the initialiser of a local that isn't known before

  abbrev Words : ValueType → ℕ → List ℕ
  Words of k = words_of of (local_spot c k)

  wide-initial : (of : ValueType) (k : ℕ) (a : Part) → Becomes of a.of → Live a
      → ((v : ℕ) → IsIn v (Words of k) → v < L) → (block : ℕ)
      → Settled c block ((in_type c of a).blocks (ToLocal k) + 0) Dropped D
      ((in_type c of a).lines block 0 (ToLocal k) ++ []) (Words of k ++ D)
  wide-initial of k a turns h low block =
      let x = in_type c of a in
      let s = settles-as c D low-known x of (turned-alike c D low-known of a turns)
      (turned-part c D low-known of a turns h) block 0 (ToLocal k) D (ready c D low-known) low in
      record {
        sets = s.sets;
        size = let e = s.size in omega (arith, e);
        flows = λ B a g. flows-then c B D (x.lines block 0 (ToLocal k)) [] (Words of k ++ D) (Words of k ++ D)
            (s.flows B a tt) (λ v is. is);
      }

  pub initial-settled : (of : ValueType) (k : ℕ) (a : Part) → Becomes of a.of → Live a
      → ((v : ℕ) → IsIn v (Words of k) → v < L) → (block : ℕ)
      → Settled c block ((assigned_local c of k a).blocks Dropped) Dropped D
      ((assigned_local c of k a).lines block 0 Dropped) (Words of k ++ D)
  initial-settled (Integer Char) k a turns h low block =
      let x = operand c true a in
      let (u, e) = becomes-integer c D low-known Char a.of turns in
      let m = operand-held c D low-known true a h block 0 D (ready c D low-known) in
      let s = m.settled in
      let d = (local_spot c k).number in
      let n = (x.spot 0).number in
      record {
        sets = s.sets;
        size = s.size;
        flows = λ B b g. flows-then c B D (x.lines block 0) (Emit (op.Low d n) ∷ []) m.T (d ∷ D) (s.flows B b tt)
            (writes c B (op.Low d n) d m.T (d ∷ D) [] (refl, refl, refl) refl
            (one-in m.T n (number-in c D low-known a x u block 0 D e m)) (λ v is. kept d m.T m.more v is));
      }
    where
      kept : (d : ℕ) (T : List ℕ) → Within D T → Within (d ∷ D) (d ∷ T)
      kept d T w v (inl e) = inl e
      kept d T w v (inr is) = inr (w v is)
  initial-settled Void k a turns h low block = wide-initial Void k a turns h low block
  initial-settled (Integer Short) k a turns h low block = wide-initial (Integer Short) k a turns h low block
  initial-settled (Integer Int) k a turns h low block = wide-initial (Integer Int) k a turns h low block
  initial-settled (Integer UnsignedInt) k a turns h low block = wide-initial (Integer UnsignedInt) k a turns h low block
  initial-settled (Pointer t) k a turns h low block = wide-initial (Pointer t) k a turns h low block

  -- a number or a string reads no local
  steady : (e : Expression) → reads_none e ≡ true → Live (part_of c e)
  steady (Constant of n) is = constant-part c D low-known of n
  steady (StartOf element array) is = start-part c D low-known element array
  steady (Read of place) is = absurd (cc)
  steady (Address element place) is = absurd (cc)
  steady (Unary of operator e) is = absurd (cc)
  steady (Binary of operator a b) is = absurd (cc)
  steady (And a b) is = absurd (cc)
  steady (Or a b) is = absurd (cc)
  steady (Conditional of t a b) is = absurd (cc)
  steady (Cast to e) is = absurd (cc)
  steady (Assign of place e) is = absurd (cc)
  steady (Update of operator place e) is = absurd (cc)
  steady (Step of operator place) is = absurd (cc)
  steady (Comma a b) is = absurd (cc)
  steady (Call of f arguments) is = absurd (cc)
  steady (Putchar e) is = absurd (cc)
  steady Getchar is = absurd (cc)
  steady (Exit e) is = absurd (cc)

  -- ---- a declared local; behind it there is a set that has its variables

  module _ (k : ℕ) (E : List ℕ) (low' : (v : ℕ) → IsIn v E → v < local_variables c.function)
      (has : Within (words_of (type_at c.function k) (local_spot c k)) E)
      (new : Within E (words_of (type_at c.function k) (local_spot c k) ++ D)) where
    abbrev pub LiveInitialiser : Option Expression → Type 0
    LiveInitialiser None = Unit {0}
    LiveInitialiser (Some e) = Becomes (type_at c.function k) (part_of c e).of × LivePart c E low' (part_of c e)

    pub local-settled : (value : Option Expression) → LiveInitialiser value → (block : ℕ)
        → Settled c block (local_blocks c k value) Dropped D (local_lines c k value block) E
    local-settled None h block = record {
      sets = [];
      size = refl;
      flows = λ B a g. last-less c B D (zeroing c k) (Words (type_at c.function k) k ++ D) E new
          (zeroed-flows c B (type_at c.function k) (local_spot c k) D);
    }
    local-settled (Some e) h block = by (reads_none e) (λ t. steady e t)
      where
        by : (t : Bool) → (t ≡ true → Live (part_of c e))
            → Settled c block (local_blocks c k (Some e)) Dropped D
            ((if t then [] else zeroing c k) ++ (initialiser_part c k e).lines block 0 Dropped) E
        by true read =
            let of = type_at c.function k in
            settled-less c D low-known block (local_blocks c k (Some e)) Dropped D
            ((initialiser_part c k e).lines block 0 Dropped) (Words of k ++ D) E new
            (initial-settled of k (part_of c e) h.0 (read refl) (λ v is. low' v (has v is)) block)
        by false read =
            let of = type_at c.function k in
            let lines = (initialiser_part c k e).lines block 0 Dropped in
            let s = (assigned-local c E low' of k has (part_of c e) h.0 h.1).settles block 0 Dropped E (ready c E low')
            tt in
            record {
              sets = s.sets;
              size = s.size;
              flows = λ B a g. flows-then c B D (zeroing c k) lines (Words of k ++ D) E
                  (zeroed-flows c B of (local_spot c k) D) (wider c B E (Words of k ++ D) lines E new (s.flows B a tt));
            }

  -- ---- arrays: the array is in a temporary of level 0

  abbrev Array : List ℕ
  Array = (own c 0).array ∷ D

  array-ready : Ready c D low-known 1 Array
  array-ready = record { known = λ v is. inr is; under = λ v is. below v is }
    where
      below : (v : ℕ) → IsIn v Array → v < L + 1 * 5
      below v (inl e) = omega (arith, e)
      below v (inr is) = let k = low-known v is in omega (arith, k)

  -- an expression that is a number
  abbrev pub LiveNumber : Expression → Type 0
  LiveNumber e = ((u : IntegerType) × ((part_of c e).of ≡ Integer u)) × Live (part_of c e)

  pub elements-settled : (t : IntegerType) (place : ℕ) (es : List Expression) (block : ℕ)
      → AllByRecursion LiveNumber es
      → Settled c block (elements_blocks c es) Dropped Array (elements_lines c t place es block) Array
  elements-settled t place [] block h = record { sets = []; size = refl; flows = λ B a g v is. is }
  elements-settled t place (e ∷ es) block h =
      let a = part_of c e in
      let x = operand c true a in
      let (u, of) = h.0.0 in
      let m = operand-held c D low-known true a h.0.1 block 1 Array array-ready in
      let s = m.settled in
      let r = elements-settled t (suc place) es (block + x.blocks) h.1 in
      let y = (own c 0).number in
      let q = (own c 0).array in
      let n = (x.spot 1).number in
      let is-there = number-in c D low-known a x u block 1 Array of m in
      let rest = elements_lines c t (suc place) es (block + x.blocks) in
      let store : List Line = Emit (op.Store (bits_of t) q y n) ∷ rest in
      record {
        sets = s.sets ++ r.sets;
        size = let i = length-append s.sets r.sets in let f = s.size in let f' = r.size in omega (arith, i, f, f');
        flows = λ B all g.
            let (front, back) = agrees-split B block x.blocks s.sets r.sets s.size all in
            flows-then c B Array (x.lines block 1) (Emit (op.Const y (pos place)) ∷ store) m.T Array
            (s.flows B front tt)
            (writes c B (op.Const y (pos place)) y m.T Array store (refl, refl, refl) refl (λ v is. absurd is)
            (keeps c B (op.Store (bits_of t) q y n) (y ∷ m.T) Array rest (refl, refl, refl)
            (three-in (y ∷ m.T) q y n (inr (m.more q (inl refl))) (inl refl) (inr is-there))
            (wider c B Array (y ∷ m.T) rest Array (λ v is. inr (m.more v is)) (r.flows B back tt))));
      }

  pub filled-settled : (k : ℕ) (t : IntegerType) (es : List Expression) (block : ℕ) → AllByRecursion LiveNumber es
      → Settled c block (elements_blocks c es) Dropped D
      (Emit (op.Clear k) ∷ Emit (op.Frame (own c 0).array k) ∷ elements_lines c t 0 es block) D
  filled-settled k t es block h =
      let q = (own c 0).array in
      let r = elements-settled t 0 es block h in
      let lines = elements_lines c t 0 es block in
      record {
        sets = r.sets;
        size = r.size;
        flows = λ B a g.
            keeps c B (op.Clear k) D D (Emit (op.Frame q k) ∷ lines) (refl, refl, refl) (λ v is. absurd is)
            (writes c B (op.Frame q k) q D D lines (refl, refl, refl) refl (λ v is. absurd is)
            (last-less c B Array lines Array D (λ v is. inr is) (r.flows B a tt)));
      }
