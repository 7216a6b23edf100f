-- Declared arrays that a string initialises: a loop of the graph copies its elements, which are numbers of the array's
-- type.
use Rattle.std.proofs.Common.{◌≡◌, ◌≢◌, ℕ, zero, suc, ◌≤◌, ◌<◌, ◌+◌, ◌*◌, Bool, true, false, List, [], ◌∷◌, ◌++◌}
use Rattle.std.proofs.Common.{length, map, refl, sym, ap, ◌∙◌, subst, arith, append_assoc, Option, Some}
use Rattle.std.proofs.Common.{ℤ, pos, eq-eqb}
use Rattle.std.specs.Prelude.{min, if◌then◌else◌, slice_get, slice_set, slice_index_or, replicate, take, ◌==◌}
use Rattle.std.specs.Prelude.{IsSomeAnd, ◌+ℤ◌, int_lt}
use Rattle.std.specs.Int.{w32, int_wrap}
use Rattle.std.proofs.lemmas.Bool.Decides.{nat_tests}
use Rattle.std.proofs.lemmas.Int.{int_wrap_fits}
use Rattle.std.proofs.lemmas.Option.{slice_get_within}
use Rattle.pcc_base.specs.Outcome.{ArrayName, Null, InFrame, Static, Array as ArrayValue, Number, Outcome}
use Rattle.pcc_base.specs.declared.run.Width.TheVariants.{Two}
use Rattle.pcc_base.proofs.Lists.{element-at}
use Rattle.c_tree.specs.Evaluation.{text_then_zeros}
use Rattle.c_tree.specs.Program.{Function, LocalArray, StaticObject}
use Rattle.c_tree.specs.Store as source
use Rattle.c_tree.specs.Store.{array_named, arrays_in, call_of_depth, converted, with_array_in, with_own}
use Rattle.flow_graph.specs.declared.op.Comparison.TheVariants.{Lt}
use Rattle.flow_graph.specs.declared.op.Op.TheVariants as op
use Rattle.flow_graph.specs.Meaning.{Moved, accessed, stored}
use Rattle.flow_graph.specs.States as graph
use Rattle.flow_graph.specs.States.{array_at, array_from, number_at, number_of, value_at, with_element, with_value}
use Rattle.lower_lines.specs.Following.{Comes, IsSite, Site, Stand, behind, context_of, graphs_of}
use Rattle.lower_lines.specs.Lines.{Line, Start, Emit, open_after, ops_in}
use Rattle.lower_lines.specs.Parts.{bits_of}
use Rattle.lower_lines.specs.Relation.{AreNumbersOf, IsArrayOf, Keeps, ShowCalls, Shows}
use Rattle.lower_lines.specs.Variables.{ForNumber, ForOld, ForScratch, levels_of, local_variables, own}
use Rattle.lower_lines.specs.Variables.{temporary}
use Rattle.lower_lines.proofs.Arrays.{arrays-fit, arrays-reached, arrays-set, as-many, element-fits}
use Rattle.lower_lines.proofs.Arrays.{kept-by-arrays}
use Rattle.lower_lines.proofs.Changes.{kept-by-change, kept-twice, temporaries-free, turns-free}
use Rattle.lower_lines.proofs.Locals.{get-set_other, get-set_same, length-slice_set}
use Rattle.lower_lines.proofs.Steps.{branch-step, load-step, store-step, two-step}
use Rattle.lower_laws.proofs.Going.{stand-back, stand-front}
use Rattle.lower_laws.proofs.Made.{variable-there}
use Rattle.lower_laws.proofs.Widths.{temporary-width}
use Rattle.lower_laws.proofs.Working.{comparison-is}
use Rattle.lower_laws.proofs.Arrays.{lists-there, named-of}
use Rattle.lower_laws.proofs.Arrays.{stored-same}
use Rattle.lower_laws.proofs.Onward.{start-goes}
use Rattle.lower_laws.proofs.Assigning.{index-set}
use Rattle.lower_laws.proofs.Declared.{set-twice}

-- ---- a text's elements, and zeros after them

-- no text
pub none-then-zeros : (zs : List ℤ) → text_then_zeros zs [] ≡ replicate (length zs) (pos 0)
none-then-zeros [] = refl
none-then-zeros (z ∷ zs) = ap (λ (ns : List ℤ). pos 0 ∷ ns) (none-then-zeros zs)

-- one element more
more-of-text : (zs text : List ℤ) (i : ℕ) (n : ℤ) → i < length zs → slice_get text i ≡ Some n
    → slice_set (text_then_zeros zs (take i text)) i n ≡ text_then_zeros zs (take (suc i) text)
more-of-text [] text i n h e = absurd (omega (arith, h))
more-of-text (z ∷ zs) [] i n h e = absurd (cc)
more-of-text (z ∷ zs) (c ∷ cs) zero n h e = ap (λ (m : ℤ). m ∷ text_then_zeros zs []) (sym (same c n e))
  where
    same : (a b : ℤ) → Some a ≡ Some b → a ≡ b
    same a b e = cc
more-of-text (z ∷ zs) (c ∷ cs) (suc i) n h e =
    ap (λ (ns : List ℤ). c ∷ ns) (more-of-text zs cs i n (omega (arith, h)) e)

-- all of it that there is room for
pub all-of-text : (zs text : List ℤ) (m : ℕ) → min (length zs) (length text) ≤ m
    → text_then_zeros zs (take m text) ≡ text_then_zeros zs text
all-of-text [] text m h = refl
all-of-text (z ∷ zs) [] zero h = refl
all-of-text (z ∷ zs) [] (suc m) h = refl
all-of-text (z ∷ zs) (c ∷ cs) zero h = absurd (omega (arith, h))
all-of-text (z ∷ zs) (c ∷ cs) (suc m) h = ap (λ (ns : List ℤ). c ∷ ns) (all-of-text zs cs m (omega (arith, h)))

length-text : (zs text : List ℤ) → length (text_then_zeros zs text) ≡ length zs
length-text [] text = refl
length-text (z ∷ zs) [] = ap suc (length-text zs [])
length-text (z ∷ zs) (c ∷ cs) = ap suc (length-text zs cs)

get-fits : (P : ℤ → Type 0) (xs : List ℤ) (k : ℕ) (x : ℤ) → ((j : ℕ) (d : ℤ) → j < length xs
    → P (slice_index_or xs j d)) → slice_get xs k ≡ Some x → P x
get-fits P [] k x h e = absurd (cc)
get-fits P (y ∷ xs) zero x h e = subst P (same y x e) (h 0 (pos 0) (omega arith))
  where
    same : (a b : ℤ) → Some a ≡ Some b → a ≡ b
    same a b e = cc
get-fits P (y ∷ xs) (suc k) x h e = get-fits P xs k x (λ j d low. h (suc j) d (omega (arith, low))) e

-- ---- an array that gets elements twice

as-long : (k depth : ℕ) (es : List ℤ) (calls : List source.Activation)
    → length (with_array_in k depth es calls) ≡ length calls
as-long k depth es [] = refl
as-long k depth es (a ∷ calls) = by (depth == suc (length calls)) (as-long k depth es calls)
  where
    by : (here : Bool) → length (with_array_in k depth es calls) ≡ length calls
        → length (if here then with_own k es a ∷ calls else a ∷ with_array_in k depth es calls) ≡ suc (length calls)
    by true e = refl
    by false e = ap suc e

calls-twice : (k depth : ℕ) (es fs : List ℤ) (calls : List source.Activation)
    → with_array_in k depth fs (with_array_in k depth es calls) ≡ with_array_in k depth fs calls
calls-twice k depth es fs [] = refl
calls-twice k depth es fs (a ∷ calls) = by (depth == suc (length calls)) refl (calls-twice k depth es fs calls)
  where
    by : (here : Bool) → (depth == suc (length calls)) ≡ here
        → with_array_in k depth fs (with_array_in k depth es calls) ≡ with_array_in k depth fs calls
        → with_array_in k depth fs (if here then with_own k es a ∷ calls else a ∷ with_array_in k depth es calls)
        ≡ (if here then with_own k fs a ∷ calls else a ∷ with_array_in k depth fs calls)
    by true e others =
        ap (λ (b : Bool). if b then with_own k fs (with_own k es a) ∷ calls
        else with_own k es a ∷ with_array_in k depth fs calls) e
        ∙ ap (λ (xss : List (List ℤ)). record { values = a.values; arrays = xss } ∷ calls)
        (set-twice a.arrays k es fs)
    by false e others =
        let rest = with_array_in k depth es calls in
        ap (λ (n : ℕ). if depth == suc n then with_own k fs a ∷ rest else a ∷ with_array_in k depth fs rest)
        (as-long k depth es calls)
        ∙ ap (λ (b : Bool). if b then with_own k fs a ∷ rest else a ∷ with_array_in k depth fs rest) e
        ∙ ap (λ (cs : List source.Activation). a ∷ cs) others

pub array-twice : (k depth : ℕ) (es fs : List ℤ) (s : source.State)
    → source.with_array (InFrame k depth) fs (source.with_array (InFrame k depth) es s)
    ≡ source.with_array (InFrame k depth) fs s
array-twice k depth es fs s =
    ap (λ (calls : List source.Activation). record s { active = calls }) (calls-twice k depth es fs s.active)

-- ---- comparisons

below-holds : (m n : ℕ) → m < n → int_lt (pos m) (pos n) ≡ true
below-holds m n h = grind (arith, nat_tests, h)

last-fails : (m : ℕ) → int_lt (pos m) (pos m) ≡ false
last-fails m = grind (arith, nat_tests)

one-more : (i : ℕ) → i < 0x7fffffff → int_wrap w32 (pos i +ℤ pos 1) ≡ pos (suc i)
one-more i h =
    let e : i + 1 ≡ suc i = omega arith in
    ap (λ (m : ℕ). int_wrap w32 (pos m)) e ∙ int_wrap_fits w32 (pos (suc i)) (record { sfits = omega (arith, h) })

-- ---- the variables of the loop

module _ (n : ℕ) where
  old-array : n + 0 * 5 + 0 ≡ n + 0 * 5 + 2 → ⊥
  old-array e = omega (arith, e)

  old-number : n + 0 * 5 + 1 ≡ n + 0 * 5 + 2 → ⊥
  old-number e = omega (arith, e)

  old-scratch : n + 0 * 5 + 3 ≡ n + 0 * 5 + 2 → ⊥
  old-scratch e = omega (arith, e)

  old-from : n + 1 * 5 + 0 ≡ n + 0 * 5 + 2 → ⊥
  old-from e = omega (arith, e)

  old-count : n + 1 * 5 + 1 ≡ n + 0 * 5 + 2 → ⊥
  old-count e = omega (arith, e)

  pub number-array : n + 0 * 5 + 0 ≡ n + 0 * 5 + 1 → ⊥
  number-array e = omega (arith, e)

  number-scratch : n + 0 * 5 + 3 ≡ n + 0 * 5 + 1 → ⊥
  number-scratch e = omega (arith, e)

  pub number-from : n + 1 * 5 + 0 ≡ n + 0 * 5 + 1 → ⊥
  number-from e = omega (arith, e)

  number-count : n + 1 * 5 + 1 ≡ n + 0 * 5 + 1 → ⊥
  number-count e = omega (arith, e)

  pub from-array : n + 0 * 5 + 0 ≡ n + 1 * 5 + 0 → ⊥
  from-array e = omega (arith, e)

  pub count-array : n + 0 * 5 + 0 ≡ n + 1 * 5 + 1 → ⊥
  count-array e = omega (arith, e)

  pub count-number : n + 0 * 5 + 1 ≡ n + 1 * 5 + 1 → ⊥
  count-number e = omega (arith, e)

  pub count-from : n + 1 * 5 + 0 ≡ n + 1 * 5 + 1 → ⊥
  count-from e = omega (arith, e)

  pub scratch-array : n + 0 * 5 + 0 ≡ n + 0 * 5 + 3 → ⊥
  scratch-array e = omega (arith, e)

  pub scratch-number : n + 0 * 5 + 1 ≡ n + 0 * 5 + 3 → ⊥
  scratch-number e = omega (arith, e)

  pub scratch-from : n + 1 * 5 + 0 ≡ n + 0 * 5 + 3 → ⊥
  scratch-from e = omega (arith, e)

  pub scratch-count : n + 1 * 5 + 1 ≡ n + 0 * 5 + 3 → ⊥
  scratch-count e = omega (arith, e)

  low-old : n + 0 * 5 ≤ n + 0 * 5 + 2
  low-old = omega arith

  pub low-number : n + 0 * 5 ≤ n + 0 * 5 + 1
  low-number = omega arith

  pub low-scratch : n + 0 * 5 ≤ n + 0 * 5 + 3
  low-scratch = omega arith

  pub low-from : n + 0 * 5 ≤ n + 1 * 5 + 0
  low-from = omega arith

  pub low-count : n + 0 * 5 ≤ n + 1 * 5 + 1
  low-count = omega arith

-- lines behind lines
pub five-behind : (xs : List Line) (a b c d e : Line)
    → ((((xs ++ a ∷ []) ++ b ∷ []) ++ c ∷ []) ++ d ∷ []) ++ e ∷ [] ≡ xs ++ (a ∷ b ∷ c ∷ d ∷ e ∷ [])
five-behind xs a b c d e =
    append_assoc (((xs ++ a ∷ []) ++ b ∷ []) ++ c ∷ []) (d ∷ []) (e ∷ [])
    ∙ append_assoc ((xs ++ a ∷ []) ++ b ∷ []) (c ∷ []) (d ∷ e ∷ [])
    ∙ append_assoc (xs ++ a ∷ []) (b ∷ []) (c ∷ d ∷ e ∷ []) ∙ append_assoc xs (a ∷ []) (b ∷ c ∷ d ∷ e ∷ [])

-- ---- an array of the youngest call

-- it has the elements that it got
pub named-set : (S : Site) (older : List Function) (k : ℕ) (a : LocalArray) → slice_get S.function.arrays k ≡ Some a
    → (s : source.State) (g : graph.State) (es : List ℤ) → Shows S.program (S.function ∷ older) s g
    → array_named (source.with_array (InFrame k (suc (length older))) es s) (InFrame k (suc (length older))) ≡ es
named-set S older k a at s g es shows =
    by s.active g.current (map (λ (w : graph.Waiting). w.activation) g.waiting) shows.calls
  where
    by : (calls : List source.Activation) (b : graph.Activation) (bs : List graph.Activation)
        → ShowCalls S.program (S.function ∷ older) calls (b ∷ bs)
        → slice_index_or (arrays_in (call_of_depth (with_array_in k (suc (length older)) es calls)
        (suc (length older)))) k [] ≡ es
    by [] b bs h = absurd h
    by (c ∷ calls) b bs h =
        let there = lists-there c.arrays S.function.arrays k a h.0.counts at in
        let inside = slice_get_within c.arrays k (slice_index_or c.arrays k []) there.0 in
        let many = as-many S.program older calls bs h.1 in
        let here = eq-eqb (suc (length calls)) (suc (length calls)) refl in
        ap (λ (n : ℕ). slice_index_or (arrays_in (call_of_depth (if suc n == suc (length calls) then with_own k es c ∷
        calls else c ∷ with_array_in k (suc n) es calls) (suc n))) k []) many.0
        ∙ ap (λ (q : Bool). slice_index_or (arrays_in (call_of_depth (if q then with_own k es c ∷ calls
        else c ∷ with_array_in k (suc (length calls)) es calls) (suc (length calls)))) k []) here
        ∙ ap (λ (q : Bool). slice_index_or (arrays_in (if q then Some (with_own k es c)
        else call_of_depth calls (suc (length calls)))) k []) here
        ∙ index-set c.arrays k es [] inside

-- ---- the loop

module _ (S : Site) (site : IsSite S) (older : List Function) (k : ℕ) (a : LocalArray)
    (at : slice_get S.function.arrays k ≡ Some a) (object : ℕ) (text : StaticObject)
    (at_text : slice_get S.program.objects object ≡ Some text) (same : text.element ≡ a.element) (count block : ℕ)
    (few : count ≤ 0x01000000) (front : List Line) (s0 : source.State) (g : graph.State)
    (begun : Shows S.program (S.function ∷ older) s0 g) where
  abbrev active : List Function
  active = S.function ∷ older

  abbrev array : ArrayName
  array = InFrame k (suc (length older))

  abbrev first : ℕ
  first = local_variables S.function

  abbrev p : ℕ
  p = (own (context_of S) 0).array

  abbrev y : ℕ
  y = (own (context_of S) 0).number

  abbrev q : ℕ
  q = (own (context_of S) 1).array

  abbrev z : ℕ
  z = (own (context_of S) 1).number

  abbrev el : ℕ
  el = temporary (context_of S) 0 ForOld

  abbrev one : ℕ
  one = temporary (context_of S) 0 ForScratch

  abbrev string : List ℤ
  string = array_named s0 (Static object)

  abbrev content : ℕ → List ℤ
  content i = text_then_zeros (array_named s0 array) (take i string)

  abbrev reached : ℕ → source.State
  reached i = source.with_array array (content i) s0

  -- what is known before a turn of the loop
  pub record Turning (h : graph.State) (i : ℕ) : Type 0 where
    pub shows : Shows S.program active (reached i) h
    pub keeps : Keeps first 0 g h
    pub mine : h.current.function ≡ S.number
    pub at_p : value_at h p ≡ Some (ArrayValue array)
    pub at_q : value_at h q ≡ Some (ArrayValue (Static object))
    pub at_y : number_at h y ≡ Some (pos i)
    pub at_z : number_at h z ≡ Some (pos count)
    pub at_one : number_at h one ≡ Some (pos 1)

  abbrev loading : Line
  loading = Emit (op.Load (bits_of a.element) el q y)

  abbrev storing : Line
  storing = Emit (op.Store (bits_of a.element) p y el)

  abbrev adding : Line
  adding = Emit (op.Add y y one)

  abbrev choosing : Line
  choosing = Emit (op.Branch Lt y z block (suc block))

  abbrev turning : List Line
  turning = loading ∷ storing ∷ adding ∷ choosing ∷ Start (suc block) ∷ []

  abbrev inside : List Line
  inside = front ++ Start block ∷ []

  abbrev behind_add : List Line
  behind_add = ((inside ++ loading ∷ []) ++ storing ∷ []) ++ adding ∷ []

  is-text : IsArrayOf S.program active a.element (Static object)
  is-text = subst (λ (o : Option StaticObject). IsSomeAnd o (λ m. m.element ≡ a.element)) (sym at_text) same

  no-null : Static object ≢ Null
  no-null e = cc

  frame-no-null : array ≢ Null
  frame-no-null e = cc

  reaches : (before : List Line) (t : source.State) (h : graph.State) (which : ArrayName)
      → Shows S.program active t h → IsArrayOf S.program active a.element which → which ≢ Null → (go : List ℤ → Moved)
      → accessed (graphs_of S) (behind before h) (bits_of a.element) which go ≡ go (array_named t which)
  reaches before t h which shows is some go = arrays-reached S.program active t (behind before h) a.element which
      (turns-free S.program active t h t.turns t.visits (open_after 0 before) (length (ops_in before)) shows) is some go

  some-level : 0 < levels_of S.function
  some-level = omega arith

  next-level : 1 < levels_of S.function
  next-level = omega arith

  -- one turn, up to its branch
  turn-goes : (i : ℕ) (h : graph.State) → i < count → count ≤ length (array_named s0 array) → count ≤ length string
      → Stand S inside turning → Turning h i → (h3 : graph.State) × Turning h3 (suc i)
      × ((turns : ℕ) (o : Outcome) → Comes S turns (behind behind_add h3) o → Comes S turns (behind inside h) o)
  turn-goes i h less short long stands now =
      let t = reached i in
      let (n, there) = element-at string i (omega (arith, less, long)) in
      let cur = array_named t array in
      let held : cur ≡ content i = named-set S older k a at s0 g (content i) begun in
      let below : i < length (array_named s0 array) = omega (arith, less, short) in
      let (old, there') = element-at cur i (subst (λ (es : List ℤ). i < length es) (sym held)
      (subst (λ (m : ℕ). i < m) (sym (length-text (array_named s0 array) (take i string))) below)) in
      let fits = get-fits (λ m. converted a.element m ≡ m) string i n
      (arrays-fit S.program active t h a.element (Static object) now.shows is-text) there in
      let kept_n : stored (bits_of a.element) n ≡ n = stored-same a.element n ∙ fits in
      let mine = named-of S site older k a at in
      let h1 = with_value el (Number n) h in
      let new = slice_set cur i n in
      let h2 = graph.with_array array new h1 in
      let h3 = with_value y (Number (pos (suc i))) h2 in
      let shows1 = temporaries-free S.program S.function older t h el (Number n) now.shows (above-old first) in
      let shows2 = arrays-set S.program active t h1 a.element array new shows1 mine (length-slice_set cur i n)
      (subst (λ (m : ℤ). AreNumbersOf a.element (slice_set cur i m)) fits
      (element-fits a.element cur (pos i) n (arrays-fit S.program active t h1 a.element array shows1 mine))) in
      let next : source.with_array array new t ≡ reached (suc i) =
      array-twice k (suc (length older)) (content i) new s0
      ∙ ap (λ (es : List ℤ). source.with_array array es s0) (ap (λ (es : List ℤ). slice_set es i n) held
      ∙ more-of-text (array_named s0 array) string i n below there) in
      let shows3 = temporaries-free S.program S.function older (reached (suc i)) h2 y (Number (pos (suc i)))
      (subst (λ (u : source.State). Shows S.program active u h2) next shows2) (above-number first) in
      let kept2 = kept-by-arrays first 2 h1 array new in
      let there_el = variable-there S.program S.function older t h el Two now.shows
      (temporary-width (context_of S) 0 ForOld some-level) in
      let there_y = variable-there S.program S.function older (source.with_array array new t) h2 y Two shows2
      (temporary-width (context_of S) 0 ForNumber some-level) in
      let at_el1 = get-set_same h.current.variables el (Number n) there_el in
      let at_p1 = get-set_other h.current.variables el p (Number n) (old-array first) ∙ now.at_p in
      let at_q1 = get-set_other h.current.variables el q (Number n) (old-from first) ∙ now.at_q in
      let at_y1 = ap number_of (get-set_other h.current.variables el y (Number n) (old-number first)) ∙ now.at_y in
      let at_z1 = ap number_of (get-set_other h.current.variables el z (Number n) (old-count first)) ∙ now.at_z in
      let at_one1 = ap number_of (get-set_other h.current.variables el one (Number n) (old-scratch first)) ∙
      now.at_one in
      let at_p2 = kept2.temporaries p (from-first0 first) (within0 first) ∙ at_p1 in
      let at_q2 = kept2.temporaries q (from-first5 first) (within5 first) ∙ at_q1 in
      let at_y2 = ap number_of (kept2.temporaries y (from-first1 first) (within1 first)) ∙ at_y1 in
      let at_z2 = ap number_of (kept2.temporaries z (from-first6 first) (within6 first)) ∙ at_z1 in
      let at_one2 = ap number_of (kept2.temporaries one (from-first3 first) (within3 first)) ∙ at_one1 in
      let more = Number (pos (suc i)) in
      let sum : int_wrap w32 (pos i +ℤ pos 1) ≡ pos (suc i) = one-more i (omega (arith, less, few)) in
      let keeps1 = (kept-by-change first 0 el (Number n) h).1 (low-old first) in
      let keeps2 = kept-by-arrays first 0 h1 array new in
      let keeps3 = (kept-by-change first 0 y more h2).1 (low-number first) in
      let s1 = stand-front S inside (loading ∷ []) (storing ∷ adding ∷ choosing ∷ Start (suc block) ∷ []) stands in
      let back1 = stand-back S inside (loading ∷ []) (storing ∷ adding ∷ choosing ∷ Start (suc block) ∷ []) stands in
      let s2 = stand-front S (inside ++ loading ∷ []) (storing ∷ []) (adding ∷ choosing ∷ Start (suc block) ∷ []) back1
      in
      let back2 = stand-back S (inside ++ loading ∷ []) (storing ∷ []) (adding ∷ choosing ∷ Start (suc block) ∷ [])
      back1 in
      let s3 = stand-front S ((inside ++ loading ∷ []) ++ storing ∷ []) (adding ∷ [])
      (choosing ∷ Start (suc block) ∷ []) back2 in (
        h3,
        record {
          shows = shows3;
          keeps = kept-twice first 0 g h h3 now.keeps (kept-twice first 0 h h1 h3 keeps1
              (kept-twice first 0 h1 h2 h3 keeps2 keeps3));
          mine = kept2.function ∙ now.mine;
          at_p = get-set_other h2.current.variables y p more (number-array first) ∙ at_p2;
          at_q = get-set_other h2.current.variables y q more (number-from first) ∙ at_q2;
          at_y = ap number_of (get-set_same h2.current.variables y more there_y);
          at_z = ap number_of (get-set_other h2.current.variables y z more (number-count first)) ∙ at_z2;
          at_one = ap number_of (get-set_other h2.current.variables y one more (number-scratch first)) ∙ at_one2;
        },
        λ turns o r. load-step S site inside h now.mine (bits_of a.element) el q y turns (Static object) (pos i) n
            string o s1 (ap array_from now.at_q) now.at_y
            (reaches inside t h (Static object) now.shows is-text no-null) there
            (store-step S site (inside ++ loading ∷ []) h1 now.mine (bits_of a.element) p y el turns array (pos i) n old
            cur o s2 (ap array_from at_p1) at_y1 (ap number_of at_el1)
            (reaches (inside ++ loading ∷ []) t h1 array shows1 mine frame-no-null) there'
            (subst (λ (m : ℤ). Comes S turns (behind ((inside ++ loading ∷ []) ++ storing ∷ [])
            (graph.with_array array (slice_set cur i m) h1)) o) (sym kept_n)
            (two-step S site ((inside ++ loading ∷ []) ++ storing ∷ []) h2 (kept2.function ∙ now.mine) (op.Add y y one)
            y y one (λ u v. int_wrap w32 (u +ℤ v)) (pos i) (pos 1) turns o s3 refl refl refl refl at_y2 at_one2
            (subst (λ (m : ℤ). Comes S turns (behind behind_add (with_value y (Number m) h2)) o) (sym sum) r)))),
      )
    where
      above-old : (m : ℕ) → m ≤ m + 0 * 5 + 2
      above-old m = omega arith

      above-number : (m : ℕ) → m ≤ m + 0 * 5 + 1
      above-number m = omega arith

      from-first0 : (m : ℕ) → m ≤ m + 0 * 5 + 0
      from-first0 m = omega arith

      within0 : (m : ℕ) → m + 0 * 5 + 0 < m + 2 * 5
      within0 m = omega arith

      from-first1 : (m : ℕ) → m ≤ m + 0 * 5 + 1
      from-first1 m = omega arith

      within1 : (m : ℕ) → m + 0 * 5 + 1 < m + 2 * 5
      within1 m = omega arith

      from-first3 : (m : ℕ) → m ≤ m + 0 * 5 + 3
      from-first3 m = omega arith

      within3 : (m : ℕ) → m + 0 * 5 + 3 < m + 2 * 5
      within3 m = omega arith

      from-first5 : (m : ℕ) → m ≤ m + 1 * 5 + 0
      from-first5 m = omega arith

      within5 : (m : ℕ) → m + 1 * 5 + 0 < m + 2 * 5
      within5 m = omega arith

      from-first6 : (m : ℕ) → m ≤ m + 1 * 5 + 1
      from-first6 m = omega arith

      within6 : (m : ℕ) → m + 1 * 5 + 1 < m + 2 * 5
      within6 m = omega arith

  abbrev whole : List Line
  whole = (behind_add ++ choosing ∷ []) ++ Start (suc block) ∷ []

  last-stands : Stand S front (Start block ∷ turning) → Stand S behind_add (choosing ∷ Start (suc block) ∷ [])
  last-stands stands =
      stand-back S ((inside ++ loading ∷ []) ++ storing ∷ []) (adding ∷ []) (choosing ∷ Start (suc block) ∷ [])
      (stand-back S (inside ++ loading ∷ []) (storing ∷ []) (adding ∷ choosing ∷ Start (suc block) ∷ [])
      (stand-back S inside (loading ∷ []) (storing ∷ adding ∷ choosing ∷ Start (suc block) ∷ [])
      (stand-back S front (Start block ∷ []) turning stands)))

  -- all turns that are left
  pub loop-goes : (left i : ℕ) (h : graph.State) → i + suc left ≡ count → count ≤ length (array_named s0 array)
      → count ≤ length string → Stand S front (Start block ∷ turning) → Turning h i → (h' : graph.State)
      × Turning h' count
      × ((turns : ℕ) (o : Outcome) → Comes S turns (behind whole h') o → Comes S turns (behind inside h) o)
  loop-goes zero i h sum short long stands now =
      let back = stand-back S front (Start block ∷ []) turning stands in
      let last = last-stands stands in
      let e : suc i ≡ count = omega (arith, sum) in
      let (h3, later, goes) = turn-goes i h (omega (arith, sum)) short long back now in
      let done = subst (λ (m : ℕ). Turning h3 m) e later in (
        h3,
        done,
        λ turns o r. goes turns o (branch-step S site behind_add h3 done.mine Lt y z block (suc block) false turns o
            (behind_add ++ choosing ∷ []) (stand-front S behind_add (choosing ∷ []) (Start (suc block) ∷ []) last)
            (comparison-is Lt h3 y z (pos count) (pos count) done.at_y done.at_z ∙ ap Some (last-fails count))
            (stand-back S behind_add (choosing ∷ []) (Start (suc block) ∷ []) last)
            (start-goes S site (behind_add ++ choosing ∷ []) [] (suc block) h3 turns o done.mine
            (stand-back S behind_add (choosing ∷ []) (Start (suc block) ∷ []) last) r)),
      )
  loop-goes (suc left) i h sum short long stands now =
      let back = stand-back S front (Start block ∷ []) turning stands in
      let last = last-stands stands in
      let (h3, later, goes) = turn-goes i h (omega (arith, sum)) short long back now in
      let (h', done, rest) = loop-goes left (suc i) h3 (omega (arith, sum)) short long stands later in (
        h',
        done,
        λ turns o r. goes turns o (branch-step S site behind_add h3 later.mine Lt y z block (suc block) true turns o
            front (stand-front S behind_add (choosing ∷ []) (Start (suc block) ∷ []) last)
            (comparison-is Lt h3 y z (pos (suc i)) (pos count) later.at_y later.at_z
            ∙ ap Some (below-holds (suc i) count (omega (arith, sum))))
            (stand-front S front (Start block ∷ []) turning stands)
            (start-goes S site front turning block h3 turns o later.mine stands (rest turns o r))),
      )
