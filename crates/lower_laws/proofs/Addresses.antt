-- Sets of the lines of addresses, assignments and calls.
use Rattle.std.proofs.Common.{◌≡◌, ◌<◌, ◌≤◌, ◌⊎◌, ℕ, suc, ◌+◌, ◌*◌, Bool, true, false, List, []}
use Rattle.std.proofs.Common.{◌∷◌, ◌++◌, Option, Some, None, inl, inr, refl, sym, subst, arith, length}
use Rattle.std.proofs.Common.{length-append}
use Rattle.std.specs.Prelude.{◌&&◌}
use Rattle.std.specs.List.{AllByRecursion}
use Rattle.c_tree.specs.declared.expression.BinaryOp.TheVariants.{Add}
use Rattle.c_tree.specs.declared.types.IntegerType.{IntegerType}
use Rattle.c_tree.specs.declared.types.IntegerType.TheVariants.{Char, Short, Int, UnsignedInt}
use Rattle.c_tree.specs.declared.types.ValueType.{ValueType}
use Rattle.c_tree.specs.declared.types.ValueType.TheVariants.{Void, Integer, Pointer}
use Rattle.c_tree.specs.WellTyped.{BinaryGives, IsResult}
use Rattle.flow_graph.specs.declared.op.Op.TheVariants as op
use Rattle.flow_graph.specs.Graphs.{IsIn}
use Rattle.lower_lines.specs.Expressions.{Addressed, AtAddress, address_part, all_simple, arguments_blocks}
use Rattle.lower_lines.specs.Expressions.{arguments_lines, arguments_words}
use Rattle.lower_lines.specs.Expressions.{array_kept, assigned_element, assigned_local}
use Rattle.lower_lines.specs.Expressions.{assigned_object, call_part, element_of, element_spot, element_sum, kept_if}
use Rattle.lower_lines.specs.Expressions.{local_part, read_part, result_lines, stored_lines}
use Rattle.lower_lines.specs.Expressions.{target_of, words_of}
use Rattle.lower_lines.specs.Lines.{Line, Emit}
use Rattle.lower_lines.specs.Parts.{Wanted, Dropped, Own, ToLocal, Tests, Operand, Part, bits_of, in_type, made}
use Rattle.lower_lines.specs.Parts.{converted_lines, operand, standing, target, tested_blocks}
use Rattle.lower_lines.specs.Variables.{Context, ForArray, ForNumber, Spot, copied, local_spot, local_variables, own}
use Rattle.lower_lines.specs.Variables.{temporary}
use Rattle.lower_lines.proofs.Constructs.{local-type}
use Rattle.lower_laws.proofs.Pieces.{LinesGive, lines-give}
use Rattle.lower_laws.proofs.FitsCompound.{Becomes}
use Rattle.lower_laws.specs.Flows.{Within}
use Rattle.lower_laws.proofs.Applied.{Free, LowTarget, Settled, none-agrees}
use Rattle.lower_laws.proofs.Compound.{Alike, alike-same, operand-then, retyped, settles-as, turned-alike}
use Rattle.lower_laws.proofs.Compound.{turned-part}
use Rattle.lower_laws.proofs.Parts.{Held, LivePart, Ready, binary-part}
use Rattle.lower_laws.proofs.Parts.{local-part, number-in, operand-held, reached-more}
use Rattle.lower_laws.proofs.Parts.{settled-count, settled-less, settled-then}
use Rattle.lower_laws.proofs.Sets.{F, Goes, agrees-at, agrees-back}
use Rattle.lower_laws.proofs.Sets.{agrees-front, converted-flows, copied-flows, flows-then, keeps}
use Rattle.lower_laws.proofs.Sets.{made-flows, more-in, one-in, reached, two-in, wider, writes}

module _ (c : Context) (D : List ℕ) (low-known : (v : ℕ) → IsIn v D → v < local_variables c.function) where
  abbrev L : ℕ
  L = local_variables c.function

  abbrev Live : Part → Type 0
  Live a = LivePart c D low-known a

  abbrev IsReady : ℕ → List ℕ → Type 0
  IsReady level S = Ready c D low-known level S

  -- a variable that may be there behind lines of a level
  abbrev Good : ℕ → List ℕ → ℕ → Type 0
  Good level S v = (v < L + suc level * 5) × Free c level v × (IsIn v S ⊎ (L + level * 5 ≤ v))

  -- what is there behind the lines of an address
  pub record At (to : Addressed) (stays : Bool) (block level : ℕ) (S : List ℕ) : Type 0 where
    pub T : List ℕ
    pub settled : Settled c block to.blocks Own S (to.lines stays block level) T
    pub more : Within S T
    pub array : IsIn (to.spot stays level).array T
    pub number : IsIn (to.spot stays level).number T
    pub good : (v : ℕ) → IsIn v T → Good level S v

  pub record LiveAddress (to : Addressed) : Type 0 where
    pub comes : (stays : Bool) (block level : ℕ) (S : List ℕ) → IsReady level S → At to stays block level S
    pub value : Live to.value
    pub pointer : (t : IntegerType) × (to.value.of ≡ Pointer t)

  pub ready-at : (level : ℕ) (S T : List ℕ) → IsReady level S → Within S T → ((v : ℕ) → IsIn v T → Good level S v)
      → IsReady (suc level) T
  ready-at level S T ready more good = record {
    known = λ v is. more v (ready.known v is);
    under = λ v is. (good v is).0;
  }

  held-good : (a : Part) (x : Operand) (block level : ℕ) (S : List ℕ) (k : Held c D low-known a x block level S) (v : ℕ)
      → IsIn v k.T → Good level S v
  held-good a x block level S k v is = (k.ready.under v is, k.free v is, k.new v is)

  standing-count : (a : Part) (o : Option Spot) → ((s : Spot) → o ≡ Some s → a.stands ≡ Some s) → Live a
      → (standing c a o).blocks ≡ a.blocks Own
  standing-count a None same h = refl
  standing-count a (Some s) same h = sym (h.quiet s (same s refl))

  operand-count : (stays : Bool) (a : Part) → Live a → (operand c stays a).blocks ≡ a.blocks Own
  operand-count true a h = standing-count a a.stands (λ s e. e) h
  operand-count false a h = refl

  pub target-address : (a : Part) (t : IntegerType) → a.of ≡ Pointer t → Live a → LiveAddress (target_of c a)
  target-address a t of h = record {
    comes = λ stays block level S ready.
        let x = operand c stays a in
        let k = operand-held c D low-known stays a h block level S ready in
        let both : Within (words_of (Pointer t) (x.spot level)) k.T =
        subst (λ (s : ValueType). Within (words_of s (x.spot level)) k.T) of k.has in
        record {
          T = k.T;
          settled = settled-count c D low-known block x.blocks (a.blocks Own) Own S (x.lines block level) k.T
              (operand-count stays a h) k.settled;
          more = k.more;
          array = both (x.spot level).array (inl refl);
          number = both (x.spot level).number (inr (inl refl));
          good = held-good a x block level S k;
        };
    value = h;
    pointer = (t, of);
  }

  pointer-number : (t e : IntegerType) (s : ValueType) → BinaryGives Add (Pointer t) s (Pointer e)
      → (u : IntegerType) × (s ≡ Integer u)
  pointer-number t e Void g = absurd g
  pointer-number t e (Integer u) g = (u, refl)
  pointer-number t e (Pointer u) g = absurd g.1

  number-pointer : (t e : IntegerType) (s : ValueType) → BinaryGives Add (Integer t) s (Pointer e)
      → (u : IntegerType) × (s ≡ Pointer u)
  number-pointer t e Void g = absurd g
  number-pointer t e (Integer u) g = absurd (cc)
  number-pointer t e (Pointer u) g = (u, refl)

  -- the sum of an index and a number, beside the array; what else the second operand left is let go
  sum-settled : (block : ℕ) (to x : Spot) (y : ℕ) (S T : List ℕ) → IsIn x.array T → IsIn x.number T → IsIn y T
      → Within S T → Settled c block 0 Own T (element_sum to x y) (to.number ∷ to.array ∷ S)
  sum-settled block to x y S T h k m more = record {
    sets = [];
    size = refl;
    flows = λ B a g.
        let last : List Line = Emit (op.Add to.number x.number y) ∷ [] in
        flows-then c B T (copied to.array x.array) last (to.array ∷ T) (to.number ∷ to.array ∷ S)
        (copied-flows c B T to.array x.array h)
        (writes c B (op.Add to.number x.number y) to.number (to.array ∷ T) (to.number ∷ to.array ∷ S) []
        (refl, refl, refl) refl (two-in (to.array ∷ T) x.number y (inr k) (inr m)) (λ v is. kept v is));
  }
    where
      kept : (v : ℕ) → IsIn v (to.number ∷ to.array ∷ S) → IsIn v (to.number ∷ to.array ∷ T)
      kept v (inl e) = inl e
      kept v (inr (inl e)) = inr (inl e)
      kept v (inr (inr is)) = inr (inr (more v is))

  pub temp-good : (level v : ℕ) (S : List ℕ) → L + level * 5 ≤ v → v < L + level * 5 + 3 → Good level S v
  temp-good level v S h k = (
    omega (arith, k),
    (λ e. absurd (omega (arith, k, e)), λ e. absurd (omega (arith, k, e))),
    inr h,
  )

  two-good : (level x y : ℕ) (S T : List ℕ) → Good level S x → Good level S y
      → ((v : ℕ) → IsIn v T → Good level S v) → (v : ℕ) → IsIn v (x ∷ y ∷ T) → Good level S v
  two-good level x y S T h k m v (inl e) = subst (λ (u : ℕ). Good level S u) e h
  two-good level x y S T h k m v (inr (inl e)) = subst (λ (u : ℕ). Good level S u) e k
  two-good level x y S T h k m v (inr (inr is)) = m v is

  -- the two operands, and the sum behind them
  sum-at : (stays : Bool) (to : Spot) (a b : Part) (block level : ℕ) (S : List ℕ) (ready : IsReady level S) → Live a
      → Live b
      → (k : Held c D low-known a (operand c b.simple a) block level S)
      → (m : Held c D low-known b (operand c true b) (block + (operand c b.simple a).blocks) (suc level) k.T)
      → (x : Spot) (y : ℕ) → IsIn x.array m.T → IsIn x.number m.T → IsIn y m.T
      → Settled c block ((operand c b.simple a).blocks + (operand c true b).blocks) Own S
      ((operand c b.simple a).lines block level
      ++ ((operand c true b).lines (block + (operand c b.simple a).blocks) (suc level) ++ element_sum to x y))
      (to.number ∷ to.array ∷ k.T)
  sum-at stays to a b block level S ready ha hb k m x y h h' h2 =
      let p = operand c b.simple a in
      let q = operand c true b in
      let second = q.lines (block + p.blocks) (suc level) in
      let sum = element_sum to x y in
      let T = to.number ∷ to.array ∷ k.T in
      settled-count c D low-known block (p.blocks + (q.blocks + 0)) (p.blocks + q.blocks) Own S
      (p.lines block level ++ (second ++ sum)) T (omega arith)
      (settled-then c D low-known block p.blocks (q.blocks + 0) Own Own S k.T T (p.lines block level) (second ++ sum)
      (λ B. tt) k.more k.settled
      (settled-then c D low-known (block + p.blocks) q.blocks 0 Own Own k.T m.T T second sum (λ B. tt) m.more m.settled
      (sum-settled (block + p.blocks + q.blocks) to x y k.T m.T h h' h2 m.more)))

  kept-good : (o : Option Spot) (x : Spot) (level : ℕ) (S : List ℕ) → Good level S x.array
      → Good level S (array_kept c o x level)
  kept-good None x level S h = temp-good level (temporary c level ForArray) S (omega arith) (omega arith)
  kept-good (Some s) x level S h = h

  pub element-address : (element : IntegerType) (of : ValueType) (a b : Part) → a.of ≡ of
      → BinaryGives Add of b.of (Pointer element) → Live a → Live b → LiveAddress (element_of c element of a b)
  element-address element (Pointer t) a b e gives ha hb =
      let p = operand c b.simple a in
      let q = operand c true b in
      let (u, e') = pointer-number t element b.of gives in
      record {
        comes = λ stays block level S ready.
            let k = operand-held c D low-known b.simple a ha block level S ready in
            let m = operand-held c D low-known true b hb (block + p.blocks) (suc level) k.T k.ready in
            let both : Within (words_of (Pointer t) (p.spot level)) k.T =
            subst (λ (s : ValueType). Within (words_of s (p.spot level)) k.T) e k.has in
            let arr = array_kept c (kept_if (stays && b.simple) a.stands) (p.spot level) level in
            let to = element_spot c arr level in
            let first = both (p.spot level).array (inl refl) in
            let second = both (p.spot level).number (inr (inl refl)) in
            record {
              T = to.number ∷ to.array ∷ k.T;
              settled = sum-at stays to a b block level S ready ha hb k m (p.spot level) (q.spot (suc level)).number
                  (m.more (p.spot level).array first) (m.more (p.spot level).number second)
                  (number-in c D low-known b q u (block + p.blocks) (suc level) k.T e' m);
              more = λ v is. inr (inr (k.more v is));
              array = inr (inl refl);
              number = inl refl;
              good = two-good level to.number to.array S k.T
                  (temp-good level (temporary c level ForNumber) S (omega arith) (omega arith))
                  (kept-good (kept_if (stays && b.simple) a.stands) (p.spot level) level S
                  (held-good a p block level S k (p.spot level).array first)) (held-good a p block level S k);
            };
        value = binary-part c D low-known (Pointer element) Add a b
            (subst (λ (s : ValueType). LinesGive Add s b.of (Pointer element)) (sym e)
            (lines-give Add (Pointer t) b.of (Pointer element) gives)) ha hb;
        pointer = (element, refl);
      }
  element-address element (Integer t) a b e gives ha hb =
      let p = operand c b.simple a in
      let q = operand c true b in
      let (u, e') = number-pointer t element b.of gives in
      record {
        comes = λ stays block level S ready.
            let k = operand-held c D low-known b.simple a ha block level S ready in
            let m = operand-held c D low-known true b hb (block + p.blocks) (suc level) k.T k.ready in
            let both : Within (words_of (Pointer u) (q.spot (suc level))) m.T =
            subst (λ (s : ValueType). Within (words_of s (q.spot (suc level))) m.T) e' m.has in
            let to = own c level in
            record {
              T = to.number ∷ to.array ∷ k.T;
              settled = sum-at stays to a b block level S ready ha hb k m (q.spot (suc level)) (p.spot level).number
                  (both (q.spot (suc level)).array (inl refl)) (both (q.spot (suc level)).number (inr (inl refl)))
                  (m.more (p.spot level).number (number-in c D low-known a p t block level S e k));
              more = λ v is. inr (inr (k.more v is));
              array = inr (inl refl);
              number = inl refl;
              good = two-good level to.number to.array S k.T
                  (temp-good level (temporary c level ForNumber) S (omega arith) (omega arith))
                  (temp-good level (temporary c level ForArray) S (omega arith) (omega arith))
                  (held-good a p block level S k);
            };
        value = binary-part c D low-known (Pointer element) Add a b
            (subst (λ (s : ValueType). LinesGive Add s b.of (Pointer element)) (sym e)
            (lines-give Add (Integer t) b.of (Pointer element) gives)) ha hb;
        pointer = (element, refl);
      }
  element-address element Void a b e gives ha hb = absurd gives

  -- lines behind those of an address
  pub address-then : (to : Addressed) (stays : Bool) (block level n : ℕ) (w : Wanted) (of : ValueType) (S : List ℕ)
      (k : At to stays block level S) (lines : List Line)
      → Settled c (block + to.blocks) n w k.T lines (reached c level w of k.T)
      → Settled c block (to.blocks + n) w S (to.lines stays block level ++ lines) (reached c level w of S)
  address-then to stays block level n w of S k lines s =
      settled-less c D low-known block (to.blocks + n) w S (to.lines stays block level ++ lines)
      (reached c level w of k.T) (reached c level w of S) (reached-more c D low-known level w of S k.T k.more)
      (settled-then c D low-known block to.blocks n Own w S k.T (reached c level w of k.T) (to.lines stays block level)
      lines (λ B. tt) k.more k.settled s)

  pub element-read : (t : IntegerType) (to : Addressed) → LiveAddress to
      → Live (read_part c (Integer t) (AtAddress t to))
  element-read t to h = record {
    settles = λ block level w S ready low.
        let k = h.comes true block level S ready in
        let at = to.spot true level in
        let ops : Spot → List Line = λ x. Emit (op.Load (bits_of t) x.number at.array at.number) ∷ [] in
        let lines = made c (block + to.blocks) level w (Integer t) ops in
        settled-count c D low-known block (to.blocks + 0) to.blocks w S (to.lines true block level ++ lines)
        (reached c level w (Integer t) S) (omega arith)
        (address-then to true block level 0 w (Integer t) S k lines
        (record {
          sets = [];
          size = refl;
          flows = λ B a g.
              let d = (target c level w).number in
              made-flows c B (block + to.blocks) level w (Integer t) ops k.T
              (none-agrees c B (block + to.blocks) level w t (words_of (Integer t) (own c level) ++ k.T)) g
              (writes c B (op.Load (bits_of t) d at.array at.number) d k.T (d ∷ k.T) [] (refl, refl, refl) refl
              (two-in k.T at.array at.number k.array k.number) (λ v is. is));
        }));
    stands = λ s e. absurd (cc);
    quiet = λ s e. absurd (cc);
    tests = λ holds fails. refl;
  }

  pub address-part : (element t : IntegerType) (to : Addressed) → LiveAddress to
      → Live (address_part c element (AtAddress t to))
  address-part element t to h =
      let (u, e) = h.pointer in
      retyped c D low-known to.value (Pointer element)
      (subst (λ (s : ValueType). Alike s (Pointer element)) (sym e) tt) h.value

  -- ---- assignments

  stored-settled : (of : ValueType) (k block level : ℕ) (w : Wanted) (S : List ℕ)
      → Within (words_of of (local_spot c k)) D → IsReady level S → LowTarget c w of
      → Settled c block (tested_blocks w of) w S (stored_lines c block level w of k) (reached c level w of S)
  stored-settled of k block level w S h ready low = by w low
    where
      same-blocks : (of : ValueType) (w : Wanted) → (local_part c of k).blocks w ≡ tested_blocks w of
      same-blocks Void w = refl
      same-blocks (Integer Char) Dropped = refl
      same-blocks (Integer Char) Own = refl
      same-blocks (Integer Char) (ToLocal local) = refl
      same-blocks (Integer Char) (Tests holds fails) = refl
      same-blocks (Integer Short) w = refl
      same-blocks (Integer Int) w = refl
      same-blocks (Integer UnsignedInt) w = refl
      same-blocks (Pointer t) w = refl

      read : (w : Wanted) → LowTarget c w of
          → Settled c block (tested_blocks w of) w S ((local_part c of k).lines block level w) (reached c level w of S)
      read w low =
          settled-count c D low-known block ((local_part c of k).blocks w) (tested_blocks w of) w S
          ((local_part c of k).lines block level w) (reached c level w of S) (same-blocks of w)
          (settles-as c D low-known (local_part c of k) of (alike-same (local_part c of k).of of (local-type c of k))
          (local-part c D low-known of k h) block level w S ready low)

      by : (w : Wanted) → LowTarget c w of
          → Settled c block (tested_blocks w of) w S (stored_lines c block level w of k) (reached c level w of S)
      by Dropped low = record { sets = []; size = refl; flows = λ B a g v is. is }
      by Own low = read Own low
      by (ToLocal other) low = read (ToLocal other) low
      by (Tests holds fails) low = read (Tests holds fails) low

  pub becomes-integer : (t : IntegerType) (from : ValueType) → Becomes (Integer t) from → (u : IntegerType)
      × (from ≡ Integer u)
  becomes-integer t Void h = absurd h
  becomes-integer t (Integer u) h = (u, refl)
  becomes-integer t (Pointer u) h = absurd h

  wide-assigned : (of : ValueType) (k : ℕ) → Within (words_of of (local_spot c k)) D → (a : Part) → Becomes of a.of
      → Live a → (block level : ℕ) (w : Wanted) (S : List ℕ) → IsReady level S → LowTarget c w of
      → Settled c block ((in_type c of a).blocks (ToLocal k) + tested_blocks w of) w S
      ((in_type c of a).lines block level (ToLocal k)
      ++ stored_lines c (block + (in_type c of a).blocks (ToLocal k)) level w of k) (reached c level w of S)
  wide-assigned of k h a turns ha block level w S ready low =
      let v = in_type c of a in
      settled-then c D low-known block (v.blocks (ToLocal k)) (tested_blocks w of) (ToLocal k) w S S
      (reached c level w of S) (v.lines block level (ToLocal k))
      (stored_lines c (block + v.blocks (ToLocal k)) level w of k) (λ B. tt) (λ x is. is)
      (settled-less c D low-known block (v.blocks (ToLocal k)) (ToLocal k) S (v.lines block level (ToLocal k))
      (words_of of (local_spot c k) ++ S) S (more-in (words_of of (local_spot c k)) S)
      (settles-as c D low-known v of (turned-alike c D low-known of a turns) (turned-part c D low-known of a turns ha)
      block level (ToLocal k) S ready (λ x is. low-known x (h x is))))
      (stored-settled of k (block + v.blocks (ToLocal k)) level w S h ready low)

  pub assigned-local : (of : ValueType) (k : ℕ) → Within (words_of of (local_spot c k)) D → (a : Part)
      → Becomes of a.of → Live a → Live (assigned_local c of k a)
  assigned-local (Integer Char) k h a turns ha =
      let x = operand c true a in
      let (u, e) = becomes-integer Char a.of turns in
      record {
        settles = λ block level w S ready low.
            let m = operand-held c D low-known true a ha block level S ready in
            let d = (local_spot c k).number in
            let n = (x.spot level).number in
            let rest = stored_lines c (block + x.blocks) level w (Integer Char) k in
            let s = stored-settled (Integer Char) k (block + x.blocks) level w S h ready low in
            let T = reached c level w (Integer Char) S in
            let ms = m.settled in
            record {
              sets = ms.sets ++ s.sets;
              size =
                  let e0 = length-append ms.sets s.sets in let e1 = ms.size in let e2 = s.size in
                  let z = no-blocks w in omega (arith, e0, e1, e2, z);
              flows = λ B b g.
                  let e1 = ms.size in
                  flows-then c B S (x.lines block level) (Emit (op.Low d n) ∷ rest) m.T T
                  (ms.flows B (agrees-front B block ms.sets s.sets b) tt)
                  (writes c B (op.Low d n) d m.T T rest (refl, refl, refl) refl
                  (one-in m.T n (number-in c D low-known a x u block level S e m))
                  (wider c B S (d ∷ m.T) rest T (λ v is. inr (m.more v is))
                  (s.flows B (agrees-at B s.sets (block + length ms.sets) (block + x.blocks) (omega (arith, e1))
                  (agrees-back B block ms.sets s.sets b)) g)));
            };
        stands = λ s e'. absurd (cc);
        quiet = λ s e'. absurd (cc);
        tests = λ holds fails. refl;
      }
    where
      no-blocks : (w : Wanted) → tested_blocks w (Integer Char) ≡ 0
      no-blocks Dropped = refl
      no-blocks Own = refl
      no-blocks (ToLocal local) = refl
      no-blocks (Tests holds fails) = refl
  assigned-local Void k h a turns ha = record {
    settles = wide-assigned Void k h a turns ha;
    stands = λ s e. absurd (cc);
    quiet = λ s e. absurd (cc);
    tests = λ holds fails. refl;
  }
  assigned-local (Integer Short) k h a turns ha = record {
    settles = wide-assigned (Integer Short) k h a turns ha;
    stands = λ s e. absurd (cc);
    quiet = λ s e. absurd (cc);
    tests = λ holds fails. refl;
  }
  assigned-local (Integer Int) k h a turns ha = record {
    settles = wide-assigned (Integer Int) k h a turns ha;
    stands = λ s e. absurd (cc);
    quiet = λ s e. absurd (cc);
    tests = λ holds fails. refl;
  }
  assigned-local (Integer UnsignedInt) k h a turns ha = record {
    settles = wide-assigned (Integer UnsignedInt) k h a turns ha;
    stands = λ s e. absurd (cc);
    quiet = λ s e. absurd (cc);
    tests = λ holds fails. refl;
  }
  assigned-local (Pointer t) k h a turns ha = record {
    settles = wide-assigned (Pointer t) k h a turns ha;
    stands = λ s e. absurd (cc);
    quiet = λ s e. absurd (cc);
    tests = λ holds fails. refl;
  }

  pub assigned-object : (t : IntegerType) (o : ℕ) (a : Part) (u : IntegerType) → a.of ≡ Integer u → Live a
      → Live (assigned_object c t o a)
  assigned-object t o a u e h =
      let x = operand c true a in
      record {
        settles = λ block level w S ready low.
            let n = (x.spot level).number in
            let rest = converted_lines c (block + x.blocks) level w t n in
            let lines = Emit (op.Put (bits_of t) o n) ∷ rest in
            settled-count c D low-known block (x.blocks + 0) x.blocks w S (x.lines block level ++ lines)
            (reached c level w (Integer t) S) (omega arith)
            (operand-then c D low-known true a h block level S ready w (Integer t) 0 lines
            (λ T k same. record {
              sets = [];
              size = refl;
              flows = λ B b g.
                  let is = subst (λ (Q : List ℕ). IsIn n Q) same (number-in c D low-known a x u block level S e k) in
                  keeps c B (op.Put (bits_of t) o n) T (reached c level w (Integer t) T) rest (refl, refl, refl)
                  (one-in T n is) (converted-flows c B (block + x.blocks) level w t n T is g);
            }));
        stands = λ s e'. absurd (cc);
        quiet = λ s e'. absurd (cc);
        tests = λ holds fails. refl;
      }

  three-in : (S : List ℕ) (x y z : ℕ) → IsIn x S → IsIn y S → IsIn z S → Within (x ∷ y ∷ z ∷ []) S
  three-in S x y z h k m v (inl e) = subst (λ (u : ℕ). IsIn u S) e h
  three-in S x y z h k m v (inr is) = two-in S y z k m v is

  pub assigned-element : (t : IntegerType) (to : Addressed) (a : Part) (u : IntegerType) → a.of ≡ Integer u
      → LiveAddress to → Live a → Live (assigned_element c t to a)
  assigned-element t to a u e h ha =
      let x = operand c true a in
      record {
        settles = λ block level w S ready low.
            let k = h.comes a.simple block level S ready in
            let at = to.spot a.simple level in
            let m = operand-held c D low-known true a ha (block + to.blocks) (suc level) k.T
            (ready-at level S k.T ready k.more k.good) in
            let n = (x.spot (suc level)).number in
            let rest = converted_lines c (block + to.blocks + x.blocks) level w t n in
            let lines = Emit (op.Store (bits_of t) at.array at.number n) ∷ rest in
            let second = x.lines (block + to.blocks) (suc level) in
            let T = reached c level w (Integer t) m.T in
            let is = number-in c D low-known a x u (block + to.blocks) (suc level) k.T e m in
            settled-count c D low-known block (to.blocks + (x.blocks + 0)) (to.blocks + x.blocks) w S
            (to.lines a.simple block level ++ (second ++ lines)) (reached c level w (Integer t) S) (omega arith)
            (address-then to a.simple block level (x.blocks + 0) w (Integer t) S k (second ++ lines)
            (settled-less c D low-known (block + to.blocks) (x.blocks + 0) w k.T (second ++ lines) T
            (reached c level w (Integer t) k.T) (reached-more c D low-known level w (Integer t) k.T m.T m.more)
            (settled-then c D low-known (block + to.blocks) x.blocks 0 Own w k.T m.T T second lines (λ B. tt) m.more
            m.settled
            (record {
              sets = [];
              size = refl;
              flows = λ B b g.
                  keeps c B (op.Store (bits_of t) at.array at.number n) m.T T rest (refl, refl, refl)
                  (three-in m.T at.array at.number n (m.more at.array k.array) (m.more at.number k.number) is)
                  (converted-flows c B (block + to.blocks + x.blocks) level w t n m.T is g);
            }))));
        stands = λ s e'. absurd (cc);
        quiet = λ s e'. absurd (cc);
        tests = λ holds fails. refl;
      }

  -- ---- calls

  -- what is there behind the lines of arguments
  record Passed (parts : List Part) (block level : ℕ) (S : List ℕ) : Type 0 where
    T : List ℕ
    settled : Settled c block (arguments_blocks c parts) Own S (arguments_lines c parts block level) T
    more : Within S T
    has : Within (arguments_words c parts level) T

  append-in : (xs ys T : List ℕ) → Within xs T → Within ys T → Within (xs ++ ys) T
  append-in [] ys T h k v is = k v is
  append-in (x ∷ xs) ys T h k v (inl e) = h v (inl e)
  append-in (x ∷ xs) ys T h k v (inr is) = append-in xs ys T (λ u i. h u (inr i)) k v is

  arguments-passed : (parts : List Part) → AllByRecursion (LivePart c D low-known) parts → (block level : ℕ)
      (S : List ℕ) → IsReady level S → Passed parts block level S
  arguments-passed [] h block level S ready = record {
    T = S;
    settled = record { sets = []; size = refl; flows = λ B a g v is. is };
    more = λ v is. is;
    has = λ v is. absurd is;
  }
  arguments-passed (a ∷ parts) h block level S ready =
      let x = operand c (all_simple parts) a in
      let k = operand-held c D low-known (all_simple parts) a h.0 block level S ready in
      let m = arguments-passed parts h.1 (block + x.blocks) (suc level) k.T k.ready in
      record {
        T = m.T;
        settled = settled-then c D low-known block x.blocks (arguments_blocks c parts) Own Own S k.T m.T
            (x.lines block level) (arguments_lines c parts (block + x.blocks) (suc level)) (λ B. tt) k.more k.settled
            m.settled;
        more = λ v is. m.more v (k.more v is);
        has = append-in (words_of a.of (x.spot level)) (arguments_words c parts (suc level)) m.T
            (λ v is. m.more v (k.has v is)) m.has;
      }

  call-made : (B : ℕ → List ℕ) (block level : ℕ) (w : Wanted) (t : IntegerType) (f : ℕ) (words S : List ℕ)
      → Within words S → Goes c B w S
      → F c B S (made c block level w (Integer t) (λ to. Emit (op.Call (Some to.number) f words) ∷ []))
      (reached c level w (Integer t) S)
  call-made B block level w t f words S h g =
      let d = (target c level w).number in
      made-flows c B block level w (Integer t) (λ to. Emit (op.Call (Some to.number) f words) ∷ []) S
      (none-agrees c B block level w t (words_of (Integer t) (own c level) ++ S)) g
      (writes c B (op.Call (Some d) f words) d S (d ∷ S) [] (refl, refl, refl) refl h (λ v is. is))

  call-alone : (B : ℕ → List ℕ) (f : ℕ) (words S : List ℕ) → Within words S
      → F c B S (Emit (op.Call None f words) ∷ []) S
  call-alone B f words S h = keeps c B (op.Call None f words) S S [] (refl, refl, refl) h (λ v is. is)

  result-flows : (B : ℕ → List ℕ) (block level : ℕ) (w : Wanted) (of : ValueType) (f : ℕ) (words S : List ℕ)
      → IsResult of → Within words S → Goes c B w S
      → F c B S (result_lines c block level w of f words) (reached c level w of S)
  result-flows B block level Dropped Void f words S is h g = call-alone B f words S h
  result-flows B block level Own Void f words S is h g = call-alone B f words S h
  result-flows B block level (ToLocal local) Void f words S is h g = call-alone B f words S h
  result-flows B block level (Tests holds fails) Void f words S is h g = call-alone B f words S h
  result-flows B block level Dropped (Integer t) f words S is h g = call-alone B f words S h
  result-flows B block level Own (Integer t) f words S is h g = call-made B block level Own t f words S h g
  result-flows B block level (ToLocal local) (Integer t) f words S is h g =
      call-made B block level (ToLocal local) t f words S h g
  result-flows B block level (Tests holds fails) (Integer t) f words S is h g =
      call-made B block level (Tests holds fails) t f words S h g
  result-flows B block level w (Pointer t) f words S is h g = absurd is

  pub call-part : (of : ValueType) (f : ℕ) (parts : List Part) → IsResult of
      → AllByRecursion (LivePart c D low-known) parts → Live (call_part c of f parts)
  call-part of f parts is h = record {
    settles = λ block level w S ready low.
        let k = arguments-passed parts h block level S ready in
        let n = arguments_blocks c parts in
        let words = arguments_words c parts level in
        let lines = result_lines c (block + n) level w of f words in
        let T = reached c level w of k.T in
        settled-count c D low-known block (n + 0) n w S (arguments_lines c parts block level ++ lines)
        (reached c level w of S) (omega arith)
        (settled-less c D low-known block (n + 0) w S (arguments_lines c parts block level ++ lines) T
        (reached c level w of S) (reached-more c D low-known level w of S k.T k.more)
        (settled-then c D low-known block n 0 Own w S k.T T (arguments_lines c parts block level) lines (λ B. tt) k.more
        k.settled
        (record {
          sets = [];
          size = refl;
          flows = λ B a g. result-flows B (block + n) level w of f words k.T is k.has g;
        })));
    stands = λ s e. absurd (cc);
    quiet = λ s e. absurd (cc);
    tests = λ holds fails. refl;
  }
