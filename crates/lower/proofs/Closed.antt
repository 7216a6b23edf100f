-- The lines of a typed program's function are what their graph asks for.
use Rattle.std.proofs.Common.{◌≡◌, ◌<◌, ◌≤◌, ℕ, List, [], Some, refl, arith, map, length, ◌∙◌, subst, sym, ap}
use Rattle.std.specs.Prelude.{slice_get, sum_by}
use Rattle.std.specs.List.{AllByRecursion, range_with_len}
use Rattle.std.proofs.lemmas.List.Elements.{recursion_from_All}
use Rattle.std.proofs.lemmas.List.{length-map}
use Rattle.c_tree.specs.Program.{Function, Program}
use Rattle.c_tree.specs.Sizes.{array_bytes, function_size}
use Rattle.c_tree.specs.WellTyped.{IsTypedFunction, WellTyped}
use Rattle.pcc_base.specs.declared.run.Width.{Width}
use Rattle.pcc_base.proofs.Lists.{all-weaker, all-at}
use Rattle.flow_graph.specs.Graphs.{FitsOp, Flow, IsArray}
use Rattle.lower_lines.specs.Lines.{Line, graph_of_lines, ops_in, points_in, starts_in}
use Rattle.lower_lines.specs.Lowering.{array_of}
use Rattle.lower_lines.specs.Programs.{blocks_of_function, lines_of_function}
use Rattle.lower_lines.specs.Variables.{Context, variable_widths}
use Rattle.lower_lines.specs.Words.{FunctionHasWords, IsInMemory}
use Rattle.lower_builder.specs.Graphs.{AllFit, AreClosed}
use Rattle.lower_lines.proofs.Closing.{all-lines-close}
use Rattle.lower_lines.proofs.Ordered.{graphs-are-laid-out}
use Rattle.lower_lines.proofs.Shapes.{length-range}
use Rattle.lower_laws.specs.FitsLaws.{IsGood, Room}
use Rattle.lower_laws.proofs.Functions.{function-fits}
use Rattle.lower_laws.proofs.Sizes.{counts-small, function-small}

module _ (p : Program) (well : WellTyped p) (memory : IsInMemory p) (k : ℕ) (f : Function)
    (at : slice_get p.functions k ≡ Some f) where
  abbrev c : Context
  c = record { program = p; function = f }

  -- the graph without points
  abbrev blank : Flow
  blank = graph_of_lines (variable_widths f) (map array_of f.arrays) (blocks_of_function c) []

  abbrev room : Room
  room = record {
    program = p;
    function = f;
    flow = blank;
    widths = refl;
    arrays = length-map f.arrays array_of;
  }

  functions : AllByRecursion (IsTypedFunction p) p.functions
  functions = recursion_from_All (IsTypedFunction p) p.functions well.functions

  words : FunctionHasWords f
  words = all-at FunctionHasWords p.functions k f (recursion_from_All FunctionHasWords p.functions memory.functions) at

  typed : IsTypedFunction p f
  typed = all-at (IsTypedFunction p) p.functions k f functions at

  size-small : function_size f ≤ 0x10000
  size-small = let s = function-small p.functions k f at in let m = memory.small in omega (arith, s, m)

  arrays-small : sum_by array_bytes f.arrays ≤ 0x4000
  arrays-small = let h = words.frame in omega (arith, h)

  blocks-many : length blank.blocks ≡ blocks_of_function c
  blocks-many = length-map (range_with_len 0 (blocks_of_function c)) (λ b. points_in b [])
      ∙ length-range 0 (blocks_of_function c)

  pub arrays-are : AllByRecursion IsArray (map array_of f.arrays)
  arrays-are = (graphs-are-laid-out p well k f at).arrays_fit

  pub blocks-there : 1 ≤ blocks_of_function c
  blocks-there = omega arith

  pub lines-closed : AreClosed (blocks_of_function c) (lines_of_function c)
  lines-closed =
      let h = (all-lines-close p well k f at).0 in
      record {
        once = h.once;
        inside = recursion_from_All (λ (block : ℕ). block < blocks_of_function c) (starts_in (lines_of_function c))
            h.inside;
        closed = h.closed;
      }

  pub lines-fit : AllFit blank (lines_of_function c)
  lines-fit = all-weaker (IsGood blank) (FitsOp blank) (ops_in (lines_of_function c)) (λ i good. good.0)
      (function-fits room functions typed (counts-small f.arrays 0x4000 arrays-small (omega arith)) words.body
      (let s = size-small in omega (arith, s)) (all-lines-close p well k f at).1 blocks-many)

  -- the same of what is made in memory, which is equal to it
  pub arrays-of : {arrays : List (ℕ × ℕ)} → arrays ≡ map array_of f.arrays → AllByRecursion IsArray arrays
  arrays-of e = subst (λ (xs : List (ℕ × ℕ)). AllByRecursion IsArray xs) (sym e) arrays-are

  pub closed-of : (d : Context) {blocks : ℕ} {lines : List Line} → d ≡ c → lines ≡ lines_of_function d
      → blocks ≡ blocks_of_function d → AreClosed blocks lines
  closed-of d {blocks} {lines} e ls bs =
      subst (λ (xs : List Line). AreClosed blocks xs) (sym (ls ∙ ap (λ (x : Context). lines_of_function x) e))
      (subst (λ (n : ℕ). AreClosed n (lines_of_function c)) (sym (bs ∙ ap (λ (x : Context). blocks_of_function x) e))
      lines-closed)

  pub fit-of : (d : Context) {widths : List Width} {arrays : List (ℕ × ℕ)} {blocks : ℕ} {lines : List Line} → d ≡ c
      → widths ≡ variable_widths f → arrays ≡ map array_of f.arrays → lines ≡ lines_of_function d
      → blocks ≡ blocks_of_function d → AllFit (graph_of_lines widths arrays blocks []) lines
  fit-of d {widths} {arrays} {blocks} {lines} e ws rs ls bs =
      subst (λ (xs : List Line). AllFit (graph_of_lines widths arrays blocks []) xs)
      (sym (ls ∙ ap (λ (x : Context). lines_of_function x) e))
      (subst (λ (n : ℕ). AllFit (graph_of_lines widths arrays n []) (lines_of_function c))
      (sym (bs ∙ ap (λ (x : Context). blocks_of_function x) e))
      (subst (λ (xs : List (ℕ × ℕ)). AllFit (graph_of_lines widths xs (blocks_of_function c) []) (lines_of_function c))
      (sym rs)
      (subst (λ (xs : List Width). AllFit (graph_of_lines xs (map array_of f.arrays) (blocks_of_function c) [])
      (lines_of_function c)) (sym ws) lines-fit)))
