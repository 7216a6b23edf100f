-- One file after the other.
use Rattle.std.specs.List.{AllByRecursion}
use Rattle.std.proofs.Common.{rules, ◌≡◌, ℕ, List, ◌∷◌, Vec, Global, length, map, ap}
use Rattle.std.proofs.Common.{◌∙◌, subst, arith}
use Rattle.std.proofs.lemmas.List.{length-map, map-append}
use Rattle.pcc_base.specs.declared.span.Span.{Span}
use Rattle.c_lex.specs.declared.token.Token.{Token}
use Rattle.c_front.specs.declared.lexed.Lexed.{Lexed}
use Rattle.c_front.specs.Refusals.{AreUnread}
use Rattle.c_front.proofs.Reading.{all_ends, lexed_all, lexed_on, unread_on}
use Rattle.c_front.proofs.lexed.lex_files.Goals as goal

abbrev bytes : List (Vec ℕ Global) → List (List ℕ)
bytes texts = map (λ t. t.items) texts

abbrev tokens : List Lexed → List (List Token)
tokens files = map (λ f. f.tokens.items) files

abbrev ends : List Lexed → List Span
ends files = map (λ f. f.end) files

-- what is said of all is said of those behind the first
behind : (P : Vec ℕ Global → Type 0) (all : List (Vec ℕ Global)) (text : Vec ℕ Global) (rest : List (Vec ℕ Global))
    → all ≡ text ∷ rest → AllByRecursion P all → AllByRecursion P rest
behind P all text rest e h = (subst (AllByRecursion P) e h).1

pub texts-preserved : goal.texts-preserved
texts-preserved c =
    let e : c.texts.rest.now ≡ c.in-Some.text.now ∷ c.in-Some.others.now = search rules in
    let bound = c.texts.invariant.bound in
    record {
      so = lexed_on (bytes c.args.texts.now) (tokens c.texts.files.items) (tokens c.push.new.values.items)
          (ends c.texts.files.items) (ends c.push.new.values.items) c.texts.file
          c.texts.left c.len-left.result (bytes c.texts.rest.now) c.in-Some.text.now.items c.as_slice.result.now
          (bytes c.in-Some.others.now) c.in_ok-lexed.lexed.tokens.items c.in_ok-lexed.lexed.end c.texts.invariant.so
          (ap bytes e) c.as_slice.ensures.value c.in_ok-lexed.ensures.tokens (omega (arith, c.len-left.ensures))
          c.in_ok-lexed.ensures.few c.in_ok-lexed.ensures.end
          (ap tokens c.in_ok-push.ensures ∙ map-append (λ (f : Lexed). f.tokens.items) c.texts.files.items _)
          (ap ends c.in_ok-push.ensures ∙ map-append (λ (f : Lexed). f.end) c.texts.files.items _);
      bound = omega (arith, ap length e, bound);
      small = behind _ c.texts.rest.now c.in-Some.text.now c.in-Some.others.now e c.texts.invariant.small;
    }

pub returns-in_err-lexed-clause-refused : goal.returns-in_err-lexed-clause-refused
returns-in_err-lexed-clause-refused c =
    let e : c.texts.rest.now ≡ c.in-Some.text.now ∷ c.in-Some.others.now = search rules in
    let refused : AreUnread (bytes c.args.texts.now) c.in_err-lexed.field-0.0 =
    unread_on (bytes c.args.texts.now) (tokens c.texts.files.items) (ends c.texts.files.items) c.texts.file c.texts.left (bytes c.texts.rest.now)
    c.in-Some.text.now.items c.as_slice.result.now (bytes c.in-Some.others.now) c.in_err-lexed.field-0.0
    c.texts.invariant.so (ap bytes e) c.as_slice.ensures.value c.in_err-lexed.ensures.refused in
    search rules

pub returns-clause-tokens : goal.returns-clause-tokens
returns-clause-tokens c =
    lexed_all (bytes c.args.texts.now) (tokens c.texts.files.items) (ends c.texts.files.items) c.texts.file c.texts.left
    (bytes c.texts.rest.now) c.texts.invariant.so (length-map c.texts.rest.now _ ∙ c.in_default.ensures.cases)

pub returns-clause-ends : goal.returns-clause-ends
returns-clause-ends c =
    all_ends (bytes c.args.texts.now) (tokens c.texts.files.items) (ends c.texts.files.items) c.texts.file c.texts.left
    (bytes c.texts.rest.now) c.texts.invariant.so (length-map c.texts.rest.now _ ∙ c.in_default.ensures.cases)
