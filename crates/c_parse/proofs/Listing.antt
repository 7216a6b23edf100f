-- What the turns of a loop over a list read in all.
use Rattle.std.proofs.Common.{◌≡◌, ◌<◌, ◌≤◌, ◌-◌, ℕ, List, [], ◌∷◌, ◌++◌, map, length, true, false, is_some}
use Rattle.std.proofs.Common.{Some, None, refl, ap, ◌∙◌, subst, arith}
use Rattle.pcc_base.specs.declared.span.Span.{Span}
use Rattle.c_lex.specs.declared.token.Token.{Token}
use Rattle.c_lex.specs.declared.token.Punct.{Punct}
use Rattle.c_lex.specs.declared.token.Punct.TheVariants as marks
use Rattle.c_syntax.specs.Expressions.{Expr}
use Rattle.c_syntax.specs.Declarations.{ParameterTree}
use Rattle.c_grammar.specs.Chains.{Step, Done, Fails, Goes, Takes, Reads, Found}
use Rattle.c_grammar.proofs.Chains.{Continues, continues_start}
use Rattle.c_grammar.proofs.Chains.{continues_goes, continues_done, continues_fails}
use Rattle.c_grammar.specs.Taking.{take_mark}
use Rattle.c_grammar.specs.Reading.{Reader, Readers, readers}
use Rattle.c_grammar.specs.DeclarationReading.{Listed, list_step, read_more, maybe_from, maybe_before, read_parameter}
use Rattle.c_grammar.specs.DeclarationReading.{read_parameters, parameters_from}
use Rattle.c_parse_expressions.specs.Places.{front_place, front_begins}
use Rattle.c_parse_expressions.specs.Readings.{Refused}
use Rattle.c_parse_expressions.specs.declared.parse_error.ParseError.{ParseError}
use Rattle.c_parse_expressions.specs.declared.parse_error.ParseError.TheVariants.{Fault, NoMemory}
use Rattle.c_parse_expressions.proofs.Refused.{refused_then, refused_before}
use Rattle.c_parse_expressions.specs.declared.expression.Rule.{Rule}
use Rattle.c_parse_expressions.specs.ExpressionReadings.{below, reader_of}
use Rattle.c_parse_expressions.proofs.Turns.{none_below, no_reader_faults}

pub map_push : {T A : Type 0} (f : T → A) (xs : List T) (x : T) → map f (xs ++ x ∷ []) ≡ map f xs ++ f x ∷ []
map_push f [] x = refl
map_push f (y ∷ ys) x = ap (λ zs. f y ∷ zs) (map_push f ys x)

pub list_first : {T A : Type 0} (f : T → A) (step : Listed A → List Token → Step (Listed A)) (out : Reads (Listed A))
    (xs ys : List T) (x : T) (cs : List Span) (us : List Token) →
    xs ≡ [] → ys ≡ xs ++ x ∷ [] → cs ≡ [] → Continues step (f x ∷ [], []) us out → Continues step (map f ys, cs) us out
list_first f step out xs ys x cs us e g h c =
    (let k : (f x ∷ [], []) ≡ (map f ys, cs) = rw (g, e, h) refl in subst (λ a. Continues step a us out) k c)

pub list_more : {T A : Type 0} (f : T → A) (read : List Token → Reads A) (out : Reads (Listed A)) (xs ys : List T)
    (x : T) (cs ds : List Span) (c : Span) (ts us vs : List Token) →
    Continues (list_step read) (map f xs, cs) ts out → take_mark marks.Comma ts ≡ Some (c, us)
    → read us ≡ Found (f x) vs → ys ≡ xs ++ x ∷ [] → ds ≡ cs ++ c ∷ [] → length us < length ts
    → length vs ≤ length us →
    Continues (list_step read) (map f ys, ds) vs out
list_more f read out xs ys x cs ds c ts us vs before e r g h less fewer =
    (let goes : list_step read (map f xs, cs) ts ≡ Goes (map f xs ++ f x ∷ [], cs ++ c ∷ []) vs = rw (e, r) refl in
    let shorter : length vs < length ts = omega arith in
    let k : (map f xs ++ f x ∷ [], cs ++ c ∷ []) ≡ (map f ys, ds) = rw (g, h, map_push f xs x) refl in
    subst (λ a. Continues (list_step read) a vs out) k
    (continues_goes (list_step read) (map f xs, cs) (map f xs ++ f x ∷ [], cs ++ c ∷ []) ts vs out before goes
    shorter))

pub list_refused : {A : Type 0} (read : List Token → Reads A) (a : Listed A) (c : Span) (ts us : List Token)
    (out : Reads (Listed A)) (e : ParseError) →
    Continues (list_step read) a ts out → take_mark marks.Comma ts ≡ Some (c, us) → Refused (read us) e → Refused out e
list_refused read a c ts us out (Fault deep at) before e r =
    (let fails : list_step read a ts ≡ Fails deep r.0 = rw (e, r.1) refl in (
      r.0,
      continues_fails (list_step read) a ts out deep r.0 before fails,
      r.2,
    ))
list_refused read a c ts us out NoMemory before e r = tt

pub list_done : {A : Type 0} (read : List Token → Reads A) (a : Listed A) (ts us : List Token) (out : Reads (Listed A))
    → Continues (list_step read) a ts out → take_mark marks.Comma ts ≡ None → us ≡ ts → out ≡ Found a us
list_done read a ts us out before e same =
    (let done : list_step read a ts ≡ Done = rw e refl in continues_done (list_step read) a ts out before done
    ∙ rw same refl)

begun_with : (b : Readers) (close : Takes Span) (ts : List Token) (p : ParameterTree) (us : List Token)
    → is_some close ≡ false → read_parameter b ts ≡ Found p us
    → Continues (list_step (read_parameter b)) (p ∷ [], []) us (parameters_from b close ts)
begun_with b (Some close) ts p us e r = absurd (let wrong : true ≡ false = e in cc)
begun_with b None ts p us e r =
    (let k : read_more (read_parameter b) p us ≡ parameters_from b None ts = rw r refl in
    subst (λ out. Continues (list_step (read_parameter b)) (p ∷ [], []) us out) k
    (continues_start (list_step (read_parameter b)) (p ∷ [], []) us))

-- the first parameter, where no `)` comes at once
pub parameters_begun : (b : Readers) (ts : List Token) (p : ParameterTree) (us : List Token)
    → is_some (take_mark marks.RightParen ts) ≡ false → read_parameter b ts ≡ Found p us
    → Continues (list_step (read_parameter b)) (p ∷ [], []) us (read_parameters b ts)
parameters_begun b ts p us e r = begun_with b (take_mark marks.RightParen ts) ts p us e r

closed : (read : Reader) (close : Takes Span) (ts : List Token) → is_some close ≡ true
    → maybe_from read close ts ≡ Found None ts
closed read None ts e = absurd (let no : false ≡ true = e in cc)
closed read (Some close) ts e = refl

-- nothing where the mark comes at once
pub maybe_closed : (read : Reader) (close : Punct) (ts : List Token) → is_some (take_mark close ts) ≡ true
    → (maybe_before read close ts ≡ Found None ts) × (length ts ≤ length ts)
maybe_closed read close ts e = (closed read (take_mark close ts) ts e, omega arith)

not_closed : (read : Reader) (close : Takes Span) (ts us : List Token) (x : Expr) → is_some close ≡ false
    → read ts ≡ Found x us → maybe_from read close ts ≡ Found (Some x) us
not_closed read None ts us x e r = rw r refl
not_closed read (Some close) ts us x e r = absurd (let no : true ≡ false = e in cc)

-- the tree that is read where the mark does not come at once
pub maybe_reads : (rule : Rule) (close : Punct) (height lower : ℕ) (ts us : List Token) (x : Expr)
    → lower ≡ height - 1 → is_some (take_mark close ts) ≡ false → reader_of rule (readers lower) ts ≡ Found x us
    → length us < length ts
    → (maybe_before (reader_of rule (below height)) close ts ≡ Found (Some x) us) × (length us ≤ length ts)
maybe_reads rule close height lower ts us x l e r less = (
  not_closed (reader_of rule (below height)) (take_mark close ts) ts us x e
      (subst (λ k. reader_of rule (readers k) ts ≡ Found x us) l r),
  omega arith,
)

not_read : (read : Reader) (close : Takes Span) (ts : List Token) (e : ParseError) → is_some close ≡ false
    → Refused (read ts) e → Refused (maybe_from read close ts) e
not_read read None ts e n r = refused_then (read ts) (λ x us. Found (Some x) us) e r
not_read read (Some close) ts e n r = absurd (let no : true ≡ false = n in cc)

-- a refusal where the mark does not come at once
pub maybe_refused : (rule : Rule) (close : Punct) (height lower : ℕ) (ts : List Token) (e : ParseError)
    → lower ≡ height - 1 → is_some (take_mark close ts) ≡ false → Refused (reader_of rule (readers lower) ts) e
    → Refused (maybe_before (reader_of rule (below height)) close ts) e
maybe_refused rule close height lower ts e l n r =
    not_read (reader_of rule (below height)) (take_mark close ts) ts e n
    (subst (λ k. Refused (reader_of rule (readers k) ts) e) l r)

-- where no height is left and the mark does not come at once
pub maybe_too_low : (rule : Rule) (close : Punct) (height : ℕ) (ts : List Token) (e : ParseError) → height ≡ 1
    → is_some (take_mark close ts) ≡ false → e ≡ Fault (front_begins ts) (front_place ts)
    → Refused (maybe_before (reader_of rule (below height)) close ts) e
maybe_too_low rule close height ts e h n is =
    not_read (reader_of rule (below height)) (take_mark close ts) ts e n
    (refused_before _ (front_begins ts) ts (front_place ts) e (none_below rule height ts h ∙ no_reader_faults ts) refl is)
