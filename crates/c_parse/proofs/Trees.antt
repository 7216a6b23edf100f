-- What is read whole is the raw tree, and where the reading fails the fault stands.
use Rattle.std.proofs.Common.{◌≡◌, ℕ, ◌+◌, ◌≤◌, Bool, true, false, List, [], ◌∷◌, Option, Some, None, ap, sym, ◌∙◌, arith}
use Rattle.std.proofs.Common.{if◌then◌else◌, refl, unwrap_or}
use Rattle.pcc_base.specs.declared.span.Span.{Span}
use Rattle.pcc_base.specs.declared.fault.FaultKind.{FaultKind}
use Rattle.pcc_base.specs.declared.fault.FaultKind.TheVariants.{Syntax, TooDeep}
use Rattle.c_lex.specs.declared.token.Token.{Token}
use Rattle.c_syntax.specs.Statements.{ExternalTree}
use Rattle.c_syntax.specs.Grammar.{Tree}
use Rattle.c_grammar.specs.Chains.{Found}
use Rattle.c_grammar.specs.StatementReading.{Below, below_of, read_unit}
use Rattle.c_grammar.proofs.Exact.{exact}
use Rattle.c_grammar.proofs.SoundStatements.{unit_sound}
use Rattle.c_parse_expressions.specs.Places.{front_place}
use Rattle.c_parse_expressions.specs.Readings.{Refused}
use Rattle.c_parse_expressions.specs.declared.parse_error.ParseError.TheVariants.{Fault}
use Rattle.c_parse.specs.StatementParts.{fields_of, below_node}
use Rattle.c_parse.proofs.Below.{fields_are}
use Rattle.c_parse.specs.ParserRefusals.{NoneUnsupported, IsFaulty, next_place}

same_reads : (n : ℕ) (ts : List Token) → read_unit (below_of n) ts ≡ read_unit (fields_of n) ts
same_reads n ts = ap (λ (b : Below). read_unit b ts) (sym (fields_are n))

tree_at : (n : ℕ) (ts us : List Token) (es : List ExternalTree) → read_unit (fields_of n) ts ≡ Found es us → us ≡ []
    → (h : ℕ) × (h ≤ n + 1) × Tree ts h es
tree_at n ts us es e whole =
    (let s = unit_sound n ts es (same_reads n ts ∙ (e ∙ ap (λ (vs : List Token). Found es vs) whole)) in
    (s.0, omega (arith, s.1), s.2))

-- what is read whole is a tree of height at most 256
pub tree_is : (ts us : List Token) (es : List ExternalTree) → read_unit (below_node 256) ts ≡ Found es us → us ≡ []
    → (h : ℕ) × (h ≤ 256) × Tree ts h es
tree_is ts us es e whole = (let s = tree_at 255 ts us es e whole in (s.0, omega (arith, s.1), s.2))

placed : (us : List Token) (end : Span) (at : Option Span) → front_place us ≡ at
    → unwrap_or at end ≡ next_place us end
placed [] end None e = refl
placed [] end (Some at) e = absurd (let no : None ≡ Some at = e in cc)
placed (t ∷ ts) end None e = absurd (let no : Some t.at ≡ None = e in cc)
placed (t ∷ ts) end (Some at) e = (let is : Some t.at ≡ Some at = e in cc)

-- where the reading fails, the fault stands at the next token or at the end
pub fault_is : (ts : List Token) (end : Span) (deep : Bool) (at : Option Span) (kind : FaultKind)
    → kind ≡ (if deep then TooDeep else Syntax) → NoneUnsupported ts
    → Refused (read_unit (below_node 256) ts) (Fault deep at) → IsFaulty ts end kind (unwrap_or at end)
fault_is ts end true at kind is none r =
    (let s = exact 255 ts true r.0 (same_reads 255 ts ∙ r.1) in
    rw is (none, (s.0, r.0, s.1, s.2, placed r.0 end at r.2)))
fault_is ts end false at kind is none r =
    (let s = exact 255 ts false r.0 (same_reads 255 ts ∙ r.1) in
    rw is (none, (s.0, r.0, s.1, s.2, placed r.0 end at r.2)))
