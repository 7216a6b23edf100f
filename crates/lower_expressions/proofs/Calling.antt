-- The arguments of a call, one after another.
use Rattle.std.proofs.Common.{◌≡◌, ◌<◌, ◌≤◌, ℕ, suc, ◌+◌, List, [], ◌∷◌, ◌++◌, refl, sym, ap, ◌∙◌, arith, append_assoc}
use Rattle.std.proofs.Common.{subst, true, drop, length, get_or, Option}
use Rattle.std.proofs.lemmas.List.{drop_all, drop_more, append-nil}
use Rattle.std.specs.Prelude.{Bool, ◌&&◌}
use Rattle.c_tree.specs.declared.expression.Expression as built
use Rattle.c_tree.specs.Erased.{expression_of}
use Rattle.c_tree.specs.declared.types.ValueType.{ValueType}
use Rattle.c_tree.specs.Program.{Local}
use Rattle.lower_builder.specs.Built.{Built, Adds}
use Rattle.lower_lines.specs.Expressions.{all_passed, all_simple, arguments_blocks, arguments_lines, arguments_words}
use Rattle.lower_lines.specs.Expressions.{call_part, part_of, parts_of, result_lines, words_of}
use Rattle.lower_lines.specs.Lines.{Line}
use Rattle.lower_lines.specs.Parts.{Wanted, Part, operand}
use Rattle.lower_lines.specs.Variables.{Context, Spot}
use Rattle.lower_builder.specs.Views.{AddsOperand, AddsPart}
use Rattle.lower_builder.proofs.Joined.{counted, lined, two}
use Rattle.lower_expressions.specs.Rows.{arguments_list, parameter_type, passed_as}
use Rattle.lower_expressions.specs.Passing.{passed_from}
use Rattle.lower_expressions.proofs.Joining.{passed-there}

-- behind so many arguments, each at a level of its own, where these are all
pub record IsPassing (c : Context) (all rest : List Part) (level : ℕ) (s : Built) (own : ℕ) (t : Built)
    (passed : List ℕ) : Type 0 where
  pub lines : t.lines ++ arguments_lines c rest t.next own ≡ s.lines ++ arguments_lines c all s.next level
  pub next : t.next + arguments_blocks c rest ≡ s.next + arguments_blocks c all
  pub words : passed ++ arguments_words c rest own ≡ arguments_words c all level

pub passing-none : (c : Context) (all : List Part) (level : ℕ) (s : Built) → IsPassing c all all level s level s []
passing-none c all level s = record { lines = refl; next = refl; words = refl }

pub passing-more : (c : Context) (all rest : List Part) (a : Part) (stays : Bool) (level own after : ℕ) (spot : Spot)
    (words more : List ℕ) (s t u : Built) → IsPassing c all (a ∷ rest) level s own t words → stays ≡ all_simple rest
    → AddsOperand (operand c stays a) own t u → spot ≡ (operand c stays a).spot own
    → more ≡ words ++ words_of a.of spot → after ≡ own + 1 → IsPassing c all rest level s after u more
passing-more c all rest a stays level own after spot words more s t u h se x e m up =
    let X = operand c (all_simple rest) a in
    let x' : AddsOperand X own t u = subst (λ (b : Bool). AddsOperand (operand c b a) own t u) se x in
    let e' : spot ≡ X.spot own = e ∙ ap (λ (b : Bool). (operand c b a).spot own) se in
    let up' : after ≡ suc own = omega (arith, up) in
    let sum : t.next + X.blocks + arguments_blocks c rest ≡ t.next + (X.blocks + arguments_blocks c rest) =
    omega arith in
    record {
      lines = ap (λ (n : ℕ). u.lines ++ arguments_lines c rest u.next n) up'
          ∙ ap (λ (n : ℕ). u.lines ++ arguments_lines c rest n (suc own)) x'.next
          ∙ ap (λ (ls : List Line). ls ++ arguments_lines c rest (t.next + X.blocks) (suc own)) x'.lines
          ∙ append_assoc t.lines (X.lines t.next own) (arguments_lines c rest (t.next + X.blocks) (suc own))
          ∙ h.lines;
      next = ap (λ (n : ℕ). n + arguments_blocks c rest) x'.next ∙ sum ∙ h.next;
      words = ap (λ (n : ℕ). more ++ arguments_words c rest n) up'
          ∙ ap (λ (ws : List ℕ). ws ++ arguments_words c rest (suc own)) (m ∙ ap (λ p. words ++ words_of a.of p) e')
          ∙ append_assoc words (words_of a.of (X.spot own)) (arguments_words c rest (suc own))
          ∙ h.words;
    }

pub passing-all : (c : Context) (of : ValueType) (f : ℕ) (all : List Part) (level own : ℕ) (w : Wanted) (words : List ℕ)
    (s t u : Built) → IsPassing c all [] level s own t words → Adds t u 0 (result_lines c t.next level w of f words)
    → AddsPart (call_part c of f all) level w s u
passing-all c of f all level own w words s t u h m =
    let none : t.next ≡ t.next + 0 = omega arith in
    let passed : Adds s t (arguments_blocks c all) (arguments_lines c all s.next level) = record {
      lines = sym (append-nil t.lines) ∙ h.lines;
      next = none ∙ h.next;
    } in
    let are : words ≡ arguments_words c all level = sym (append-nil words) ∙ h.words in
    let m' : Adds t u 0 (result_lines c t.next level w of f (arguments_words c all level)) =
    lined (ap (result_lines c t.next level w of f) are) m in
    let count : arguments_blocks c all + 0 ≡ arguments_blocks c all = omega arith in
    counted count (two (λ n. result_lines c n level w of f (arguments_words c all level)) passed m')

-- no arguments are left
pub passed-past : (c : Context) (ls : List Local) (es : List built.Expression) (i : ℕ) → drop i es ≡ []
    → passed_from c ls es i ≡ []
passed-past c ls es i past =
    ap (λ (xs : List built.Expression). all_passed c (drop i ls) (parts_of c (arguments_list xs))) past
    ∙ none (drop i ls)
  where
    none : (ls : List Local) → all_passed c ls [] ≡ []
    none [] = refl
    none (l ∷ ls) = refl

-- ---- arguments that store nothing

pub simple-here : (c : Context) (ls : List Local) (es : List built.Expression) (i : ℕ) (e : built.Expression)
    (p : Option ValueType) (here : Bool) → i < length es → e ≡ get_or es i e → p ≡ parameter_type ls i
    → here ≡ (passed_as c p (part_of c (expression_of e))).simple
    → all_simple (passed_from c ls es i) ≡ (here && all_simple (passed_from c ls es (i + 1)))
simple-here c ls es i e p here h at pe he =
    let there : drop i es ≡ e ∷ drop (i + 1) es =
    drop_more es i e h ∙ ap (λ x. x ∷ drop (i + 1) es) (sym at) in
    let same : (passed_as c (parameter_type ls i) (part_of c (expression_of e))).simple ≡ here =
    ap (λ q. (passed_as c q (part_of c (expression_of e))).simple) (sym pe) ∙ sym he in
    ap all_simple (passed-there c ls es i e there)
    ∙ ap (λ b. b && all_simple (passed_from c ls es (i + 1))) same

pub simple-past : (c : Context) (ls : List Local) (es : List built.Expression) (i : ℕ) → length es ≤ i
    → true ≡ all_simple (passed_from c ls es i)
simple-past c ls es i past = sym (ap all_simple (passed-past c ls es i (drop_all i es past)))
