-- An array that a string initialises: it is cleared, and the loop copies the string.
use Rattle.std.proofs.Common.{◌≡◌, ℕ, zero, suc, ◌≤◌, ◌<◌, ◌+◌, ◌*◌, List, [], ◌∷◌, ◌++◌}
use Rattle.std.proofs.Common.{length, map, refl, sym, ap, ◌∙◌, subst, arith, append_assoc, append-nil, Option, Some}
use Rattle.std.proofs.Common.{ℤ, pos}
use Rattle.std.specs.Prelude.{min, slice_get, slice_index_or, replicate, take}
use Rattle.std.proofs.lemmas.List.Elements.{recursion_from_All}
use Rattle.pcc_base.specs.Outcome.{ArrayName, InFrame, Static, Array as ArrayValue, Number, Outcome}
use Rattle.pcc_base.specs.declared.run.Width.TheVariants.{Two}
use Rattle.pcc_base.proofs.Lists.{all-at}
use Rattle.c_tree.specs.declared.types.IntegerType.{IntegerType}
use Rattle.c_tree.specs.Evaluation.{declare, initialise, own_array, text_then_zeros, type_at, zeroed}
use Rattle.c_tree.specs.Objects.{IsObject, data_object, data_objects}
use Rattle.c_tree.specs.Program.{Array, Function, LocalArray, StaticObject, Text}
use Rattle.c_tree.specs.Store as source
use Rattle.c_tree.specs.Store.{Evaluated, Gives, array_named}
use Rattle.c_tree.specs.WellTyped.{CanInitialise, IsTypedFunction}
use Rattle.flow_graph.specs.declared.op.Comparison.TheVariants.{Lt}
use Rattle.flow_graph.specs.declared.op.Op.TheVariants as op
use Rattle.flow_graph.specs.States as graph
use Rattle.flow_graph.specs.States.{array_at, array_from, number_at, number_of, value_at, with_element, with_value}
use Rattle.lower_lines.specs.Following.{Begins, Comes, IsSite, Site, Stand, behind, context_of}
use Rattle.lower_lines.specs.Lines.{Line, Start, Emit}
use Rattle.lower_lines.specs.Parts.{bits_of}
use Rattle.lower_lines.specs.Relation.{Keeps, Shows}
use Rattle.lower_lines.specs.Statements.{copying, count_in, length_in, text_count}
use Rattle.lower_lines.specs.Variables.{ForArray, ForNumber, ForOld, ForScratch, levels_of, local_variables, own}
use Rattle.lower_lines.specs.Variables.{temporary}
use Rattle.lower_lines.proofs.Changes.{kept-by-change, kept-twice, temporaries-free}
use Rattle.lower_lines.proofs.Locals.{get-set_other, get-set_same}
use Rattle.lower_lines.proofs.Steps.{const-step, static-step}
use Rattle.lower_laws.proofs.Atoms.{with-older}
use Rattle.lower_laws.proofs.Going.{stand-back, stand-front}
use Rattle.lower_laws.proofs.Made.{some-and, variable-there}
use Rattle.lower_laws.proofs.Widths.{temporary-width}
use Rattle.lower_laws.proofs.Arrays.{clear-goes, depths, elements-there}
use Rattle.lower_laws.proofs.Onward.{jump-goes, line-there, start-goes}
use Rattle.lower_laws.proofs.Straight.{marked-lowers}
use Rattle.lower_laws.specs.Laws.{ArrayLowers, TextsLower}
use Rattle.lower_laws.specs.Ways.{Behind, From, LowersLines}
use Rattle.lower_laws.proofs.Texts.{all-of-text, array-twice, five-behind, loop-goes, named-set, none-then-zeros}
use Rattle.lower_laws.proofs.Texts.{count-array, count-from, count-number, from-array, low-count, low-from}
use Rattle.lower_laws.proofs.Texts.{low-number, low-scratch, number-array, number-from, scratch-array}
use Rattle.lower_laws.proofs.Texts.{scratch-count, scratch-from, scratch-number}

-- ---- the whole

pub get-mapped : {X Y : Type 0} (f : X → Y) (xs : List X) (k : ℕ) (x : X) → slice_get xs k ≡ Some x
    → slice_get (map f xs) k ≡ Some (f x)
get-mapped f [] k x e = absurd (cc)
get-mapped f (y ∷ xs) zero x e = ap (λ (z : _). Some (f z)) (same y x e)
  where
    same : {A : Type 0} (y x : A) → Some y ≡ Some x → y ≡ x
    same y x e = cc
get-mapped f (y ∷ xs) (suc k) x e = get-mapped f xs k x e

-- a string is as long in every state
text-long : (xss : List (List ℤ)) (os : List StaticObject) (k : ℕ) (o : StaticObject)
    → map (λ (xs : List ℤ). length xs) xss ≡ map (λ (q : StaticObject). length q.elements) os → slice_get os k ≡ Some o
    → length (slice_index_or xss k []) ≡ length o.elements
text-long [] [] k o e at = absurd (cc)
text-long [] (q ∷ os) k o e at = absurd (cc)
text-long (xs ∷ xss) [] k o e at = absurd (cc)
text-long (xs ∷ xss) (q ∷ os) zero o e at =
    let first : length xs ≡ length q.elements = cc in first ∙ ap (λ (r : StaticObject). length r.elements) (same q o at)
  where
    same : {A : Type 0} (y x : A) → Some y ≡ Some x → y ≡ x
    same y x e = cc
text-long (xs ∷ xss) (q ∷ os) (suc k) o e at =
    let rest : map (λ (ys : List ℤ). length ys) xss ≡ map (λ (r : StaticObject). length r.elements) os = cc in
    text-long xss os k o rest at

-- lines behind lines
six-behind : (xs ys : List Line) (a b c d e f : Line)
    → ((((((xs ++ a ∷ []) ++ b ∷ []) ++ c ∷ []) ++ d ∷ []) ++ e ∷ []) ++ f ∷ []) ++ ys
    ≡ xs ++ (a ∷ b ∷ c ∷ d ∷ e ∷ f ∷ ys)
six-behind xs ys a b c d e f =
    append_assoc (((((xs ++ a ∷ []) ++ b ∷ []) ++ c ∷ []) ++ d ∷ []) ++ e ∷ []) (f ∷ []) ys
    ∙ append_assoc ((((xs ++ a ∷ []) ++ b ∷ []) ++ c ∷ []) ++ d ∷ []) (e ∷ []) (f ∷ ys)
    ∙ append_assoc (((xs ++ a ∷ []) ++ b ∷ []) ++ c ∷ []) (d ∷ []) (e ∷ f ∷ ys)
    ∙ append_assoc ((xs ++ a ∷ []) ++ b ∷ []) (c ∷ []) (d ∷ e ∷ f ∷ ys)
    ∙ append_assoc (xs ++ a ∷ []) (b ∷ []) (c ∷ d ∷ e ∷ f ∷ ys) ∙ append_assoc xs (a ∷ []) (b ∷ c ∷ d ∷ e ∷ f ∷ ys)

module _ (S : Site) (site : IsSite S) (older : List Function) (k : ℕ) (a : LocalArray)
    (at : slice_get S.function.arrays k ≡ Some a) (object : ℕ) (text : StaticObject)
    (at_text : slice_get S.program.objects object ≡ Some text) (same : text.element ≡ a.element) (block left : ℕ)
    (few : suc left ≤ 0x01000000) (front : List Line) (s0 : source.State) (g : graph.State)
    (begins : Begins S (S.function ∷ older) s0 g) where
  abbrev active : List Function
  active = S.function ∷ older

  abbrev array : ArrayName
  array = InFrame k (suc (length older))

  abbrev first : ℕ
  first = local_variables S.function

  abbrev count : ℕ
  count = suc left

  abbrev p : ℕ
  p = (own (context_of S) 0).array

  abbrev y : ℕ
  y = (own (context_of S) 0).number

  abbrev q : ℕ
  q = (own (context_of S) 1).array

  abbrev z : ℕ
  z = (own (context_of S) 1).number

  abbrev el : ℕ
  el = temporary (context_of S) 0 ForOld

  abbrev one : ℕ
  one = temporary (context_of S) 0 ForScratch

  abbrev string : List ℤ
  string = array_named s0 (Static object)

  abbrev lines : List Line
  lines = Emit (op.Static q object) ∷ Emit (op.Const y (pos 0)) ∷ Emit (op.Const z (pos count))
      ∷ Emit (op.Const one (pos 1)) ∷ Emit (op.Jump block) ∷ Start block
      ∷ Emit (op.Load (bits_of a.element) el q y) ∷ Emit (op.Store (bits_of a.element) p y el) ∷ Emit (op.Add y y one)
      ∷ Emit (op.Branch Lt y z block (suc block)) ∷ Start (suc block) ∷ []

  abbrev loop : List Line
  loop = Emit (op.Load (bits_of a.element) el q y) ∷ Emit (op.Store (bits_of a.element) p y el) ∷ Emit (op.Add y y one)
      ∷ Emit (op.Branch Lt y z block (suc block)) ∷ Start (suc block) ∷ []

  -- where the array is zero, its string is copied
  copying-goes : value_at g p ≡ Some (ArrayValue array)
      → array_named s0 array ≡ replicate (length (array_named s0 array)) (pos 0)
      → source.with_array array (array_named s0 array) s0 ≡ s0
      → count ≤ length (array_named s0 array) → count ≤ length string → Stand S front lines
      → (h : graph.State)
      × Shows S.program active (source.with_array array (text_then_zeros (array_named s0 array) (take count string)) s0)
      h
      × Keeps first 0 g h × ((turns : ℕ) (o : Outcome) → Comes S turns (behind (front ++ lines) h) o
      → Comes S turns (behind front g) o)
  copying-goes at_p zeros still short long stands =
      let l1 = Emit (op.Static q object) in
      let l2 = Emit (op.Const y (pos 0)) in
      let l3 = Emit (op.Const z (pos count)) in
      let l4 = Emit (op.Const one (pos 1)) in
      let l5 = Emit (op.Jump block) in
      let f1 = front ++ l1 ∷ [] in
      let f2 = f1 ++ l2 ∷ [] in
      let f3 = f2 ++ l3 ∷ [] in
      let f4 = f3 ++ l4 ∷ [] in
      let f5 = f4 ++ l5 ∷ [] in
      let b1 = stand-back S front (l1 ∷ []) (l2 ∷ l3 ∷ l4 ∷ l5 ∷ Start block ∷ loop) stands in
      let b2 = stand-back S f1 (l2 ∷ []) (l3 ∷ l4 ∷ l5 ∷ Start block ∷ loop) b1 in
      let b3 = stand-back S f2 (l3 ∷ []) (l4 ∷ l5 ∷ Start block ∷ loop) b2 in
      let b4 = stand-back S f3 (l4 ∷ []) (l5 ∷ Start block ∷ loop) b3 in
      let b5 = stand-back S f4 (l5 ∷ []) (Start block ∷ loop) b4 in
      let v1 = ArrayValue (Static object) in
      let v2 = Number (pos 0) in
      let v3 = Number (pos count) in
      let v4 = Number (pos 1) in
      let h1 = with_value q v1 g in
      let h2 = with_value y v2 h1 in
      let h3 = with_value z v3 h2 in
      let h4 = with_value one v4 h3 in
      let w1 = temporary-width (context_of S) 1 ForArray (next-level) in
      let w2 = temporary-width (context_of S) 0 ForNumber (some-level) in
      let w3 = temporary-width (context_of S) 1 ForNumber (next-level) in
      let w4 = temporary-width (context_of S) 0 ForScratch (some-level) in
      let shows1 = temporaries-free S.program S.function older s0 g q v1 begins.shows (above1 first) in
      let shows2 = temporaries-free S.program S.function older s0 h1 y v2 shows1 (above2 first) in
      let shows3 = temporaries-free S.program S.function older s0 h2 z v3 shows2 (above3 first) in
      let shows4 = temporaries-free S.program S.function older s0 h3 one v4 shows3 (above4 first) in
      let t1 = variable-there S.program S.function older s0 g q Two begins.shows w1 in
      let t2 = variable-there S.program S.function older s0 h1 y Two shows1 w2 in
      let t3 = variable-there S.program S.function older s0 h2 z Two shows2 w3 in
      let t4 = variable-there S.program S.function older s0 h3 one Two shows3 w4 in
      let keeps1 = (kept-by-change first 0 q v1 g).1 (low-from first) in
      let keeps2 = (kept-by-change first 0 y v2 h1).1 (low-number first) in
      let keeps3 = (kept-by-change first 0 z v3 h2).1 (low-count first) in
      let keeps4 = (kept-by-change first 0 one v4 h3).1 (low-scratch first) in
      let zero : source.with_array array (text_then_zeros (array_named s0 array) (take 0 string)) s0 ≡ s0 =
      ap (λ (es : List ℤ). source.with_array array es s0) (none-then-zeros (array_named s0 array) ∙ sym zeros) ∙ still
      in
      let (h, done, goes) = loop-goes S site older k a at object text at_text same count block few f5 s0 g begins.shows
      left 0 h4 (zero-and left) short long b5 (record {
        shows = subst (λ (t : source.State). Shows S.program active t h4) (sym zero) shows4;
        keeps = kept-twice first 0 g h1 h4 keeps1 (kept-twice first 0 h1 h2 h4 keeps2
            (kept-twice first 0 h2 h3 h4 keeps3 keeps4));
        mine = begins.function;
        at_p = get-set_other h3.current.variables one p v4 (scratch-array first)
            ∙ (get-set_other h2.current.variables z p v3 (count-array first)
            ∙ (get-set_other h1.current.variables y p v2 (number-array first)
            ∙ (get-set_other g.current.variables q p v1 (from-array first) ∙ at_p)));
        at_q = get-set_other h3.current.variables one q v4 (scratch-from first)
            ∙ (get-set_other h2.current.variables z q v3 (count-from first)
            ∙ (get-set_other h1.current.variables y q v2 (number-from first)
            ∙ get-set_same g.current.variables q v1 t1));
        at_y = ap number_of (get-set_other h3.current.variables one y v4 (scratch-number first)
            ∙ (get-set_other h2.current.variables z y v3 (count-number first)
            ∙ get-set_same h1.current.variables y v2 t2));
        at_z = ap number_of (get-set_other h3.current.variables one z v4 (scratch-count first)
            ∙ get-set_same h2.current.variables z v3 t3);
        at_one = ap number_of (get-set_same h3.current.variables one v4 t4);
      }) in (
        h,
        done.shows,
        done.keeps,
        λ turns o r.
            static-step S site front g begins.function q object turns o
            (stand-front S front (l1 ∷ []) (l2 ∷ l3 ∷ l4 ∷ l5 ∷ Start block ∷ loop) stands)
            (const-step S site f1 h1 begins.function y (pos 0) turns o
            (stand-front S f1 (l2 ∷ []) (l3 ∷ l4 ∷ l5 ∷ Start block ∷ loop) b1) w2
            (const-step S site f2 h2 begins.function z (pos count) turns o
            (stand-front S f2 (l3 ∷ []) (l4 ∷ l5 ∷ Start block ∷ loop) b2) w3
            (const-step S site f3 h3 begins.function one (pos 1) turns o
            (stand-front S f3 (l4 ∷ []) (l5 ∷ Start block ∷ loop) b3) w4
            (jump-goes S site f4 (Start block ∷ loop) block h4 turns o begins.function b4
            (line-there S f5 loop block b5)
            (start-goes S site f5 loop block h4 turns o begins.function b5
            (goes turns o (subst (λ (ls : List Line). Comes S turns (behind ls h) o)
            (sym (together front)) r))))))),
      )
    where
      some-level : 0 < levels_of S.function
      some-level = omega arith

      next-level : 1 < levels_of S.function
      next-level = omega arith

      above1 : (m : ℕ) → m ≤ m + 1 * 5 + 0
      above1 m = omega arith

      above2 : (m : ℕ) → m ≤ m + 0 * 5 + 1
      above2 m = omega arith

      above3 : (m : ℕ) → m ≤ m + 1 * 5 + 1
      above3 m = omega arith

      above4 : (m : ℕ) → m ≤ m + 0 * 5 + 3
      above4 m = omega arith

      zero-and : (n : ℕ) → 0 + suc n ≡ suc n
      zero-and n = omega arith

      together : (xs : List Line)
          → (((((((((((xs ++ Emit (op.Static q object) ∷ []) ++ Emit (op.Const y (pos 0)) ∷ [])
          ++ Emit (op.Const z (pos count)) ∷ []) ++ Emit (op.Const one (pos 1)) ∷ []) ++ Emit (op.Jump block) ∷ [])
          ++ Start block ∷ []) ++ Emit (op.Load (bits_of a.element) el q y) ∷ [])
          ++ Emit (op.Store (bits_of a.element) p y el) ∷ []) ++ Emit (op.Add y y one) ∷ [])
          ++ Emit (op.Branch Lt y z block (suc block)) ∷ []) ++ Start (suc block) ∷ []) ≡ xs ++ lines
      together xs =
          five-behind ((((((xs ++ Emit (op.Static q object) ∷ []) ++ Emit (op.Const y (pos 0)) ∷ [])
          ++ Emit (op.Const z (pos count)) ∷ []) ++ Emit (op.Const one (pos 1)) ∷ []) ++ Emit (op.Jump block) ∷ [])
          ++ Start block ∷ []) (Emit (op.Load (bits_of a.element) el q y)) (Emit (op.Store (bits_of a.element) p y el))
          (Emit (op.Add y y one)) (Emit (op.Branch Lt y z block (suc block))) (Start (suc block))
          ∙ six-behind xs loop (Emit (op.Static q object)) (Emit (op.Const y (pos 0))) (Emit (op.Const z (pos count)))
          (Emit (op.Const one (pos 1))) (Emit (op.Jump block)) (Start block)

-- an array that is shown has some elements where its function says so, and so has a string
some-left : (n : ℕ) → 1 ≤ n → (left : ℕ) × (n ≡ suc left)
some-left zero h = absurd (omega (arith, h))
some-left (suc n) h = (n, refl)

both-some : (m n : ℕ) → 1 ≤ m → 1 ≤ n → 1 ≤ min m n
both-some m n h k = omega (arith, h, k)

pub texts-lower : TextsLower
texts-lower S site well memory n k element object h mine =
    let (a, at, can) = some-and (slice_get S.function.arrays k)
    (λ (m : LocalArray). (m.element ≡ element) × CanInitialise S.program S.function m (Text object)) h in
    let (text, at_text, is) = some-and (slice_get S.program.objects object)
    (λ (o : StaticObject). (o.element ≡ a.element) × (length o.elements ≤ suc a.count)) can.1 in
    subst (λ (t : IntegerType). ArrayLowers S n k t (Text object)) can.0 (by a at text at_text is.0)
  where
    function-typed : IsTypedFunction S.program S.function
    function-typed = all-at (IsTypedFunction S.program) S.program.functions S.number S.function
        (recursion_from_All (IsTypedFunction S.program) S.program.functions well.functions) site.there

    some-elements : (a : LocalArray) → slice_get S.function.arrays k ≡ Some a → 1 ≤ a.count
    some-elements a at = all-at (λ (m : LocalArray). 1 ≤ m.count) S.function.arrays k a
        (recursion_from_All (λ (m : LocalArray). 1 ≤ m.count) S.function.arrays function-typed.arrays) at

    some-text : (text : StaticObject) → slice_get S.program.objects object ≡ Some text → 1 ≤ length text.elements
    some-text text at = (all-at IsObject (data_objects S.program) object (data_object text)
        (recursion_from_All IsObject (data_objects S.program) well.objects) (get-mapped data_object S.program.objects
        object text at)).some_elements

    few-elements : (text : StaticObject) → slice_get S.program.objects object ≡ Some text
        → length text.elements ≤ 0x01000000
    few-elements text at = all-at (λ (o : StaticObject). length o.elements ≤ 0x01000000) S.program.objects object text
        (recursion_from_All (λ (o : StaticObject). length o.elements ≤ 0x01000000) S.program.objects
        memory.few_elements) at

    by : (a : LocalArray) → slice_get S.function.arrays k ≡ Some a → (text : StaticObject)
        → slice_get S.program.objects object ≡ Some text → text.element ≡ a.element
        → ArrayLowers S n k a.element (Text object)
    by a at text at_text same =
        let c = context_of S in
        let counted : text_count c k object ≡ min a.count (length text.elements) =
        ap (λ (o : Option LocalArray). min (count_in o) (length_in (slice_get S.program.objects object))) at
        ∙ ap (λ (o : Option StaticObject). min a.count (length_in o)) at_text in
        let (left, many) = some-left (min a.count (length text.elements)) (both-some a.count (length text.elements)
        (some-elements a at) (some-text text at_text)) in
        let run : source.State → Evaluated (Unit {0}) = λ s. initialise S.calls (own_array s k) a.element (Text object)
        (source.with_array (own_array s k) (zeroed (array_named s (own_array s k))) s) in
        subst (λ (m : ℕ). LowersLines S 2 (λ block. Emit (op.Mark n) ∷ Emit (op.Clear k)
        ∷ Emit (op.Frame (own c 0).array
        k) ∷ Emit (op.Static (own c 1).array object) ∷ copying c a.element m block)
        (declare S.calls S.listing (type_at S.function) (Array n k a.element (Text object)))) (sym (counted ∙ many))
        (marked-lowers S site n 2 (λ block. Emit (op.Clear k) ∷ Emit (op.Frame (own c 0).array k)
        ∷ Emit (op.Static (own c 1).array object) ∷ copying c a.element (suc left) block) run mine (record {
          follows = λ active block before s g stands room b.
              with-older S.function active (λ calls. Begins S calls s g → From S calls 0 (behind before g) s g
              (Behind S (before ++ (Emit (op.Clear k) ∷ Emit (op.Frame (own c 0).array k)
              ∷ Emit (op.Static (own c 1).array object) ∷ copying c a.element (suc left) block))) (run s)) b.youngest
              (λ older bo. copied a at text at_text same left many older block before s g bo stands) b;
        }))
      where
        copied : (a : LocalArray) → slice_get S.function.arrays k ≡ Some a → (text : StaticObject)
            → slice_get S.program.objects object ≡ Some text → text.element ≡ a.element → (left : ℕ)
            → min a.count (length text.elements) ≡ suc left → (older : List Function) (block : ℕ) (before : List Line)
            (s : source.State) (g : graph.State) → Begins S (S.function ∷ older) s g
            → Stand S before (Emit (op.Clear k) ∷ Emit (op.Frame (own (context_of S) 0).array k)
            ∷ Emit (op.Static (own (context_of S) 1).array object) ∷ copying (context_of S) a.element (suc left) block)
            → From S (S.function ∷ older) 0 (behind before g) s g
            (Behind S (before ++ (Emit (op.Clear k) ∷ Emit (op.Frame (own (context_of S) 0).array k)
            ∷ Emit (op.Static (own (context_of S) 1).array object) ∷ copying (context_of S) a.element (suc left)
            block)))
            (initialise S.calls (own_array s k) a.element (Text object)
            (source.with_array (own_array s k) (zeroed (array_named s (own_array s k))) s))
        copied a at text at_text same left many older block before s g bo stands =
            let c = context_of S in
            let array = InFrame k (suc (length older)) in
            let clear = Emit (op.Clear k) in
            let frame = Emit (op.Frame (own c 0).array k) in
            let rest = Emit (op.Static (own c 1).array object) ∷ copying c a.element (suc left) block in
            let front = (before ++ clear ∷ []) ++ frame ∷ [] in
            let (g0, b0, keeps0, at_p, comes0) = clear-goes S site older k a at before rest s g bo stands in
            let es = array_named s array in
            let s0 = source.with_array array (zeroed es) s in
            let text_now = array_named s0 (Static object) in
            let cleared : array_named s0 array ≡ zeroed es = named-set S older k a at s g (zeroed es) bo.shows in
            let size : length es ≡ a.count = (elements-there S site older k a at s g bo.shows).1 in
            let size0 : length (array_named s0 array) ≡ a.count =
            (elements-there S site older k a at s0 g0 b0.shows).1 in
            let text_size : length text_now ≡ length text.elements = text-long s0.objects S.program.objects object
            text b0.shows.counts at_text in
            let zeros : array_named s0 array ≡ replicate (length (array_named s0 array)) (pos 0) =
            cleared ∙ ap (λ (m : ℕ). replicate m (pos 0)) (size ∙ sym size0) in
            let still : source.with_array array (array_named s0 array) s0 ≡ s0 =
            ap (λ (xs : List ℤ). source.with_array array xs s0) cleared
            ∙ array-twice k (suc (length older)) (zeroed es) (zeroed es) s in
            let back = stand-back S (before ++ clear ∷ []) (frame ∷ []) rest
            (stand-back S before (clear ∷ []) (frame ∷ rest) stands) in
            let (h, shows, keeps, comes) = copying-goes S site older k a at object text at_text same block left
            (omega (arith, many, few-elements text at_text)) front s0 g0 b0 at_p zeros still
            (omega (arith, many, size0)) (omega (arith, many, text_size)) back in
            let full : text_then_zeros (array_named s0 array) (take (suc left) text_now)
            ≡ text_then_zeros (array_named s0 array) text_now =
            all-of-text (array_named s0 array) text_now (suc left) (omega (arith, many, size0, text_size)) in
            let name : own_array s k ≡ array = ap (InFrame k) (depths S site older k a at s g bo.shows).1 in
            let t = source.with_array array (text_then_zeros (array_named s0 array) text_now) s0 in
            let together : front ++ rest ≡ before ++ (clear ∷ frame ∷ rest) =
            append_assoc (before ++ clear ∷ []) (frame ∷ []) rest ∙ append_assoc before (clear ∷ []) (frame ∷ rest) in
            subst (λ (x : ArrayName). From S (S.function ∷ older) 0 (behind before g) s g
            (Behind S (before ++ (clear ∷ frame ∷ rest)))
            (initialise S.calls x a.element (Text object) (source.with_array x (zeroed (array_named s x)) s)))
            (sym name) (
              h,
              [],
              subst (λ (xs : List ℤ). Shows S.program (S.function ∷ older) (source.with_array array xs s0) h) full
                  shows,
              kept-twice (local_variables S.function) 0 g g0 h keeps0 keeps,
              sym (append-nil s.visits),
              λ o r. comes0 o (comes s.turns o (subst (λ (ls : List Line). Comes S s.turns (behind ls h) o)
                  (sym together) r)),
            )
