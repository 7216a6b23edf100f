-- What is read of an expression is a tree of the rule, of exactly the tokens taken.
use Rattle.std.proofs.Common.{◌≡◌, ℕ, zero, suc, ◌+◌, ◌≤◌, ◌<◌, Bool, true, false, List, [], ◌∷◌, ◌++◌, length, Option}
use Rattle.std.proofs.Common.{Some, None, eqb, ltb, leb, if◌then◌else◌, refl, ap, sym, ◌∙◌, subst, arith, append_assoc}
use Rattle.std.proofs.lemmas.Bool.{ltb-true, leb-true, eqb-true}
use denote.Enum.Bare.{same_true}
use Rattle.std.proofs.lemmas.List.{append-nil}
use Rattle.pcc_base.specs.declared.span.Span.{Span}
use Rattle.pcc_base.specs.declared.keyword.Keyword.{Keyword}
use Rattle.pcc_base.specs.declared.keyword.Keyword.TheVariants as words
use Rattle.pcc_base.specs.contracts.keyword.Keyword.{the_type as the_words}
use Rattle.c_lex.specs.declared.token.Token.{Token}
use Rattle.c_lex.specs.declared.token.TokenKind.{TokenKind}
use Rattle.c_lex.specs.declared.token.TokenKind.TheVariants as kinds
use Rattle.c_lex.specs.declared.token.Punct.{Punct}
use Rattle.c_lex.specs.declared.token.Punct.TheVariants as marks
use Rattle.c_lex.specs.contracts.token.Punct.{the_type as the_marks}
use Rattle.c_syntax.specs.declared.operator.BinaryOp.{BinaryOp}
use Rattle.c_syntax.specs.declared.operator.UnaryOp.{UnaryOp}
use Rattle.c_syntax.specs.declared.operator.StepOp.{StepOp}
use Rattle.c_syntax.specs.declared.operator.AssignOp.{AssignOp}
use Rattle.c_syntax.specs.declared.operator.SpecifierWord.{SpecifierWord}
use Rattle.c_syntax.specs.declared.expression.Identifier.{Identifier as Ident}
use Rattle.c_syntax.specs.declared.expression.Specifier.{Specifier}
use Rattle.c_syntax.specs.Marks.{ident, mark, word, binary_mark, unary_mark, step_mark, assign_mark, specifier_word}
use Rattle.c_syntax.specs.Expressions.{Expr, exprs_of}
use Rattle.c_syntax.specs.ExpressionTokens.{expr_tokens, exprs_tokens, more_tokens, text_tokens, specifiers_tokens}
use Rattle.c_syntax.specs.ExpressionTokens.{consts_tokens, pointer_tokens, expr_height, exprs_height, looseness}
use Rattle.c_syntax.specs.ExpressionTokens.{IsExpr, AreValues, Separate, Follow, IsSpecifiers, binary_level}
use Rattle.c_grammar.proofs.Values.{exprs_height-push}
use Rattle.c_grammar.specs.Chains.{Step, Done, Fails, Goes, Takes, Reads, Found, Faults, needed, above, then_read, then_step, chain, chain_on}
use Rattle.c_grammar.specs.Chains.{chained}
use Rattle.c_grammar.specs.Taking.{is_mark, is_word, of_mark, binary_of_mark, unary_of_mark, step_of_mark}
use Rattle.c_grammar.specs.Taking.{assign_of_mark, specifier_of, specifier_of_word, at_level, taken, take_by, take_mark}
use Rattle.c_grammar.specs.Taking.{take_word, take_unary, take_step, take_assign, take_binary, take_texts, texts_from}
use Rattle.c_grammar.specs.Taking.{read_mark, read_word}
use Rattle.c_grammar.specs.Taking.{take_specifiers, specifiers_from, take_consts, take_pointer, pointer_from}
use Rattle.c_grammar.specs.Taking.{with_front}
use Rattle.c_grammar.specs.Reading.{Reader, Readers, Values, readers, no_reader, readers_over, value_at, value_step}
use Rattle.c_grammar.specs.Reading.{arguments_from, read_arguments, call_from, parenthesised_from, primary_at}
use Rattle.c_grammar.specs.Reading.{read_primary, postfix_from, suffix_from, suffix_step, read_postfix, unary_from}
use Rattle.c_grammar.specs.Reading.{prefix_from, read_unary, cast_behind, cast_inside, cast_with, cast_from, read_cast, infix_from, infix_step}
use Rattle.c_grammar.specs.Reading.{read_infix, read_binary, conditional_from, read_conditional, assignment_from}
use Rattle.c_grammar.specs.Reading.{read_assignment, read_expression}
use Rattle.c_grammar.proofs.Reading.{readers-none, readers-suc}

-- ---- what holds of what is read

abbrev pub Holds : {A : Type 0} → (A → List Token → Type 0) → Reads A → Type 0
Holds P (Faults deep us) = Unit {0}
Holds P (Found a us) = P a us

abbrev pub HoldsTaken : {A : Type 0} → (A → List Token → Type 0) → Takes A → Type 0
HoldsTaken P None = Unit {0}
HoldsTaken P (Some (a, us)) = P a us

abbrev pub Holds1 : {A : Type 0} → (A → Type 0) → Option A → Type 0
Holds1 P None = Unit {0}
Holds1 P (Some a) = P a

abbrev pub HoldsStep : {A : Type 0} → (A → List Token → Type 0) → Step A → Type 0
HoldsStep P Done = Unit {0}
HoldsStep P (Fails deep us) = Unit {0}
HoldsStep P (Goes a us) = P a us

pub holds_needed : {A : Type 0} (P : A → List Token → Type 0) (ts : List Token) (o : Takes A) → HoldsTaken P o
    → Holds P (needed ts o)
holds_needed P ts None h = tt
holds_needed P ts (Some (a, us)) h = h

pub holds_then : {A B : Type 0} (P : A → List Token → Type 0) (Q : B → List Token → Type 0) (r : Reads A)
    (f : A → List Token → Reads B) → Holds P r → ((a : A) (us : List Token) → P a us → Holds Q (f a us))
    → Holds Q (then_read r f)
holds_then P Q (Faults deep us) f h g = tt
holds_then P Q (Found a us) f h g = g a us h

pub step_then : {A B : Type 0} (P : A → List Token → Type 0) (Q : B → List Token → Type 0) (r : Reads A)
    (f : A → List Token → Step B) → Holds P r → ((a : A) (us : List Token) → P a us → HoldsStep Q (f a us))
    → HoldsStep Q (then_step r f)
step_then P Q (Faults deep us) f h g = tt
step_then P Q (Found a us) f h g = g a us h

-- behind a token that makes a node above a part that is so high
pub holds_above : {A B : Type 0} (P : A → List Token → Type 0) (Q : B → List Token → Type 0) (part height : ℕ)
    (t : Token) (ts : List Token) (r : Reads A) (f : A → List Token → Reads B) → Holds P r
    → ((a : A) (us : List Token) → part < height → P a us → Holds Q (f a us))
    → Holds Q (then_read (above part height t ts r) f)
holds_above P Q part height t ts r f h g = by (ltb part height) refl
  where
    by : (b : Bool) → ltb part height ≡ b → Holds Q (then_read (if b then r else Faults true (t ∷ ts)) f)
    by true e = holds_then P Q r f h (λ a us k. g a us (ltb-true part height e) k)
    by false e = tt

pub step_above : {A B : Type 0} (P : A → List Token → Type 0) (Q : B → List Token → Type 0) (part height : ℕ)
    (t : Token) (ts : List Token) (r : Reads A) (f : A → List Token → Step B) → Holds P r
    → ((a : A) (us : List Token) → part < height → P a us → HoldsStep Q (f a us))
    → HoldsStep Q (then_step (above part height t ts r) f)
step_above P Q part height t ts r f h g = by (ltb part height) refl
  where
    by : (b : Bool) → ltb part height ≡ b → HoldsStep Q (then_step (if b then r else Faults true (t ∷ ts)) f)
    by true e = step_then P Q r f h (λ a us k. g a us (ltb-true part height e) k)
    by false e = tt

-- a test before what is read, and what fails where it doesn't hold
pub holds_if : {A : Type 0} (P : A → List Token → Type 0) (b deep : Bool) (us : List Token) (r : Reads A)
    → (b ≡ true → Holds P r) → Holds P (if b then r else Faults deep us)
holds_if P true deep us r h = h refl
holds_if P false deep us r h = tt

taken_if : {A : Type 0} (P : A → List Token → Type 0) (b : Bool) (o : Takes A) → (b ≡ true → HoldsTaken P o)
    → HoldsTaken P (if b then o else None)
taken_if P true o h = h refl
taken_if P false o h = tt

holds_on : {A : Type 0} (I : A → List Token → Type 0) (s : Step A) (next : A → List Token → Reads A) (a : A)
    (ts : List Token) → I a ts → HoldsStep I s → ((b : A) (us : List Token) → I b us → Holds I (next b us))
    → Holds I (chain_on s next a ts)
holds_on I Done next a ts i k g = i
holds_on I (Fails deep us) next a ts i k g = tt
holds_on I (Goes b us) next a ts i k g = g b us k

-- what each step keeps holds in the end
pub holds_chain : {A : Type 0} (I : A → List Token → Type 0) (step : A → List Token → Step A)
    → ((a : A) (ts : List Token) → I a ts → HoldsStep I (step a ts)) → (n : ℕ) (a : A) (ts : List Token) → I a ts
    → Holds I (chain step n a ts)
unfolding chain
holds_chain I step keeps zero a ts i = holds_on I (step a ts) (λ b us. Faults false us) a ts i (keeps a ts i) (λ b us k. tt)
holds_chain I step keeps (suc n) a ts i = holds_on I (step a ts) (chain step n) a ts i (keeps a ts i)
    (λ b us k. holds_chain I step keeps n b us k)

-- ---- tokens

abbrev pub At : {A : Type 0} → (A → Span → Token) → List Token → A × Span → List Token → Type 0
At token ts a us = ts ≡ token a.0 a.1 ∷ us

pub mark_is : (m : Punct) (kind : TokenKind) → is_mark m kind ≡ true → kind ≡ kinds.Mark m
mark_is m (kinds.Mark n) e = ap kinds.Mark (sym (same_true the_marks tt m n e))
mark_is m (kinds.Word w) e = absurd (let wrong : false ≡ true = e in cc)
mark_is m (kinds.Ident name) e = absurd (let wrong : false ≡ true = e in cc)
mark_is m (kinds.Number z u) e = absurd (let wrong : false ≡ true = e in cc)
mark_is m (kinds.Text bytes) e = absurd (let wrong : false ≡ true = e in cc)

word_is : (w : Keyword) (kind : TokenKind) → is_word w kind ≡ true → kind ≡ kinds.Word w
word_is w (kinds.Word v) e = ap kinds.Word (sym (same_true the_words tt w v e))
word_is w (kinds.Mark n) e = absurd (let wrong : false ≡ true = e in cc)
word_is w (kinds.Ident name) e = absurd (let wrong : false ≡ true = e in cc)
word_is w (kinds.Number z u) e = absurd (let wrong : false ≡ true = e in cc)
word_is w (kinds.Text bytes) e = absurd (let wrong : false ≡ true = e in cc)

pub mark_taken : (m : Punct) (ts : List Token) → HoldsTaken (λ at us. ts ≡ mark m at ∷ us) (take_mark m ts)
mark_taken m [] = tt
mark_taken m (t ∷ ts) = taken_if (λ at us. t ∷ ts ≡ mark m at ∷ us) (is_mark m t.kind) (Some (t.at, ts))
    (λ e. ap (λ k. (let x : Token = record { kind = k; at = t.at } in x) ∷ ts) (mark_is m t.kind e))

pub word_taken : (w : Keyword) (ts : List Token) → HoldsTaken (λ at us. ts ≡ word w at ∷ us) (take_word w ts)
word_taken w [] = tt
word_taken w (t ∷ ts) = taken_if (λ at us. t ∷ ts ≡ word w at ∷ us) (is_word w t.kind) (Some (t.at, ts))
    (λ e. ap (λ k. (let x : Token = record { kind = k; at = t.at } in x) ∷ ts) (word_is w t.kind e))

pub mark_read : (m : Punct) (ts : List Token) → Holds (λ at us. ts ≡ mark m at ∷ us) (read_mark m ts)
mark_read m ts = holds_needed (λ at us. ts ≡ mark m at ∷ us) ts (take_mark m ts) (mark_taken m ts)

pub word_read : (w : Keyword) (ts : List Token) → Holds (λ at us. ts ≡ word w at ∷ us) (read_word w ts)
word_read w ts = holds_needed (λ at us. ts ≡ word w at ∷ us) ts (take_word w ts) (word_taken w ts)

-- the operators are those of the tables
unary_is : (n : Punct) → Holds1 (λ op. n ≡ unary_mark op) (unary_of_mark n)
unary_is marks.And = refl
unary_is marks.Star = refl
unary_is marks.Plus = refl
unary_is marks.Minus = refl
unary_is marks.Tilde = refl
unary_is marks.Bang = refl
unary_is _ = tt

step_is : (n : Punct) → Holds1 (λ op. n ≡ step_mark op) (step_of_mark n)
step_is marks.PlusPlus = refl
step_is marks.MinusMinus = refl
step_is _ = tt

assign_is : (n : Punct) → Holds1 (λ op. n ≡ assign_mark op) (assign_of_mark n)
assign_is marks.Equal = refl
assign_is marks.StarEqual = refl
assign_is marks.SlashEqual = refl
assign_is marks.PercentEqual = refl
assign_is marks.PlusEqual = refl
assign_is marks.MinusEqual = refl
assign_is marks.ShiftLeftEqual = refl
assign_is marks.ShiftRightEqual = refl
assign_is marks.AndEqual = refl
assign_is marks.CaretEqual = refl
assign_is marks.OrEqual = refl
assign_is _ = tt

binary_is : (n : Punct) → Holds1 (λ op. n ≡ binary_mark op) (binary_of_mark n)
binary_is marks.Star = refl
binary_is marks.Slash = refl
binary_is marks.Percent = refl
binary_is marks.Plus = refl
binary_is marks.Minus = refl
binary_is marks.ShiftLeft = refl
binary_is marks.ShiftRight = refl
binary_is marks.Less = refl
binary_is marks.Greater = refl
binary_is marks.LessEqual = refl
binary_is marks.GreaterEqual = refl
binary_is marks.EqualEqual = refl
binary_is marks.BangEqual = refl
binary_is marks.And = refl
binary_is marks.Caret = refl
binary_is marks.Or = refl
binary_is marks.AndAnd = refl
binary_is marks.OrOr = refl
binary_is marks.Comma = refl
binary_is _ = tt

specifier_is : (w : Keyword) → Holds1 (λ s. w ≡ specifier_word s) (specifier_of_word w)
specifier_is words.Auto = refl
specifier_is words.Register = refl
specifier_is words.Static = refl
specifier_is words.Extern = refl
specifier_is words.Const = refl
specifier_is words.Void = refl
specifier_is words.Char = refl
specifier_is words.Short = refl
specifier_is words.Int = refl
specifier_is words.Signed = refl
specifier_is _ = tt

-- a mark that stands for something in a table
by_table : {A : Type 0} (table : Punct → Option A) (spelled : A → Punct)
    → ((n : Punct) → Holds1 (λ a. n ≡ spelled a) (table n)) → (kind : TokenKind)
    → Holds1 (λ a. kind ≡ kinds.Mark (spelled a)) (of_mark table kind)
by_table table spelled is (kinds.Mark n) = under (table n) (is n)
  where
    under : (o : Option _) → Holds1 (λ a. n ≡ spelled a) o → Holds1 (λ a. kinds.Mark n ≡ kinds.Mark (spelled a)) o
    under None h = tt
    under (Some a) h = ap kinds.Mark h
by_table table spelled is _ = tt

-- the token at the front
taken_by : {A : Type 0} (table : TokenKind → Option A) (spelled : A → Punct)
    → ((kind : TokenKind) → Holds1 (λ a. kind ≡ kinds.Mark (spelled a)) (table kind)) → (ts : List Token)
    → HoldsTaken (λ a us. ts ≡ mark (spelled a.0) a.1 ∷ us) (take_by table ts)
taken_by table spelled is [] = tt
taken_by table spelled is (t ∷ ts) = under (table t.kind) (is t.kind)
  where
    under : (o : Option _) → Holds1 (λ a. t.kind ≡ kinds.Mark (spelled a)) o
        → HoldsTaken (λ a us. t ∷ ts ≡ mark (spelled a.0) a.1 ∷ us) (taken o t.at ts)
    under None h = tt
    under (Some a) h = ap (λ k. (let x : Token = record { kind = k; at = t.at } in x) ∷ ts) h

pub unary_taken : (ts : List Token) → HoldsTaken (λ a us. ts ≡ mark (unary_mark a.0) a.1 ∷ us) (take_unary ts)
unary_taken = taken_by (of_mark unary_of_mark) unary_mark (by_table unary_of_mark unary_mark unary_is)

pub step_taken : (ts : List Token) → HoldsTaken (λ a us. ts ≡ mark (step_mark a.0) a.1 ∷ us) (take_step ts)
step_taken = taken_by (of_mark step_of_mark) step_mark (by_table step_of_mark step_mark step_is)

pub assign_taken : (ts : List Token) → HoldsTaken (λ a us. ts ≡ mark (assign_mark a.0) a.1 ∷ us) (take_assign ts)
assign_taken = taken_by (of_mark assign_of_mark) assign_mark (by_table assign_of_mark assign_mark assign_is)

pub binary_taken : (k : ℕ) (ts : List Token)
    → HoldsTaken (λ a us. (ts ≡ mark (binary_mark a.0) a.1 ∷ us) × (binary_level a.0 ≡ k)) (take_binary k ts)
binary_taken k [] = tt
binary_taken k (t ∷ ts) = under (of_mark binary_of_mark t.kind) (by_table binary_of_mark binary_mark binary_is t.kind)
  where
    level : (op : BinaryOp) (b : Bool) → eqb (binary_level op) k ≡ b → t.kind ≡ kinds.Mark (binary_mark op)
        → HoldsTaken (λ a us. (t ∷ ts ≡ mark (binary_mark a.0) a.1 ∷ us) × (binary_level a.0 ≡ k))
        (taken (if b then Some op else None) t.at ts)
    level op true e h = (
      ap (λ m. (let x : Token = record { kind = m; at = t.at } in x) ∷ ts) h,
      eqb-true (binary_level op) k e,
    )
    level op false e h = tt

    under : (o : Option BinaryOp) → Holds1 (λ op. t.kind ≡ kinds.Mark (binary_mark op)) o
        → HoldsTaken (λ a us. (t ∷ ts ≡ mark (binary_mark a.0) a.1 ∷ us) × (binary_level a.0 ≡ k))
        (taken (at_level k o) t.at ts)
    under None h = tt
    under (Some op) h = level op (eqb (binary_level op) k) refl h

-- ---- rows

pub texts_taken : (ts : List Token) → ts ≡ text_tokens (take_texts ts).0 ++ (take_texts ts).1
texts_taken [] = refl
texts_taken (t ∷ ts) = by_kind t.kind t.at (texts_taken ts)
  where
    by_kind : (kind : TokenKind) (at : Span) → ts ≡ text_tokens (take_texts ts).0 ++ (take_texts ts).1
        → (let x : Token = record { kind = kind; at = at } in x ∷ ts
        ≡ text_tokens (texts_from kind x ts (take_texts ts)).0 ++ (texts_from kind x ts (take_texts ts)).1)
    by_kind (kinds.Text bytes) at h = ap (λ us. (let x : Token = record { kind = kinds.Text bytes; at = at } in x) ∷ us)
        h
    by_kind (kinds.Word w) at h = refl
    by_kind (kinds.Ident name) at h = refl
    by_kind (kinds.Number z u) at h = refl
    by_kind (kinds.Mark n) at h = refl

specifier_of_is : (kind : TokenKind) → Holds1 (λ s. kind ≡ kinds.Word (specifier_word s)) (specifier_of kind)
specifier_of_is (kinds.Word w) = under (specifier_of_word w) (specifier_is w)
  where
    under : (o : Option SpecifierWord) → Holds1 (λ s. w ≡ specifier_word s) o
        → Holds1 (λ s. kinds.Word w ≡ kinds.Word (specifier_word s)) o
    under None h = tt
    under (Some s) h = ap kinds.Word h
specifier_of_is _ = tt

pub specifiers_taken : (ts : List Token) → ts ≡ specifiers_tokens (take_specifiers ts).0 ++ (take_specifiers ts).1
specifiers_taken [] = refl
specifiers_taken (t ∷ ts) = under (specifier_of t.kind) (specifier_of_is t.kind) (specifiers_taken ts)
  where
    under : (o : Option SpecifierWord) → Holds1 (λ s. t.kind ≡ kinds.Word (specifier_word s)) o → ts
        ≡ specifiers_tokens (take_specifiers ts).0 ++ (take_specifiers ts).1 → t ∷ ts
        ≡ specifiers_tokens (specifiers_from o t ts (take_specifiers ts)).0
        ++ (specifiers_from o t ts (take_specifiers ts)).1
    under None h g = refl
    under (Some s) h g = ap (λ k. (let x : Token = record { kind = k; at = t.at } in x) ∷ ts) h
        ∙ ap (λ us. word (specifier_word s) t.at ∷ us) g

pub consts_taken : (ts : List Token) → ts ≡ consts_tokens (take_consts ts).0 ++ (take_consts ts).1
consts_taken [] = refl
consts_taken (t ∷ ts) = under (is_word words.Const t.kind) refl (consts_taken ts)
  where
    under : (b : Bool) → is_word words.Const t.kind ≡ b → ts ≡ consts_tokens (take_consts ts).0 ++ (take_consts ts).1
        → t ∷ ts ≡ consts_tokens (if b then with_front t.at (take_consts ts) else ([], t ∷ ts)).0
        ++ (if b then with_front t.at (take_consts ts) else ([], t ∷ ts)).1
    under false e g = refl
    under true e g = ap (λ k. (let x : Token = record { kind = k; at = t.at } in x) ∷ ts) (word_is words.Const t.kind e)
        ∙ ap (λ us. word words.Const t.at ∷ us) g

pub pointer_taken : (ts : List Token) → ts ≡ pointer_tokens (take_pointer ts).0 ++ (take_pointer ts).1
pointer_taken ts = under (take_mark marks.Star ts) (mark_taken marks.Star ts)
  where
    under : (o : Takes Span) → HoldsTaken (λ at us. ts ≡ mark marks.Star at ∷ us) o → ts
        ≡ pointer_tokens (pointer_from o ts).0 ++ (pointer_from o ts).1
    under None h = refl
    under (Some (at, us)) h = h ∙ ap (λ vs. mark marks.Star at ∷ vs) (consts_taken us)

-- ---- what is read is a tree

pub record Sound (c h : ℕ) (ts : List Token) (t : Expr) (us : List Token) : Type 0 where
  pub tokens : ts ≡ expr_tokens t ++ us
  pub is : IsExpr t
  pub loose : looseness t ≤ c
  pub low : expr_height t ≤ h

abbrev pub SoundReader : ℕ → ℕ → Reader → Type 0
SoundReader c h reader = (ts : List Token) → Holds (Sound c h ts) (reader ts)

pub record SoundReaders (h : ℕ) (b : Readers) : Type 0 where
  pub expression : SoundReader 16 h b.expression
  pub assignment : SoundReader 15 h b.assignment
  pub conditional : SoundReader 14 h b.conditional
  pub binary : (k : ℕ) → k ≤ 10 → SoundReader (k + 3) h (b.binary k)
  pub cast : SoundReader 3 h b.cast
  pub unary : SoundReader 2 h b.unary

-- a looser rule has the trees of a tighter one
pub looser : (c d h : ℕ) (ts : List Token) (t : Expr) (us : List Token) → c ≤ d → Sound c h ts t us → Sound d h ts t us
looser c d h ts t us le s = record { tokens = s.tokens; is = s.is; loose = omega (arith, s.loose); low = s.low }

holds_looser : (c d h : ℕ) (ts : List Token) (r : Reads Expr) → c ≤ d → Holds (Sound c h ts) r → Holds (Sound d h ts) r
holds_looser c d h ts (Faults deep us) le s = tt
holds_looser c d h ts (Found t us) le s = looser c d h ts t us le s

-- ---- arguments

-- values with commas, in the tokens from the first of them
pub record SoundValues (h : ℕ) (ts : List Token) (values : Values) (us : List Token) : Type 0 where
  pub tokens : ts ≡ exprs_tokens (exprs_of values.0) values.1 ++ us
  pub are : AreValues (exprs_of values.0)
  pub apart : Separate (exprs_of values.0) values.1
  pub low : exprs_height (exprs_of values.0) ≤ h
  pub some : 1 ≤ length values.0

more_push : (es : List Expr) (commas : List Span) (e : Expr) (at : Span) → Follow (exprs_of es) commas
    → more_tokens (exprs_of (es ++ e ∷ [])) (commas ++ at ∷ [])
    ≡ more_tokens (exprs_of es) commas ++ mark marks.Comma at ∷ expr_tokens e
more_push [] commas e at f = rw f (ap (λ ts. mark marks.Comma at ∷ ts) (append-nil (expr_tokens e)))
more_push (x ∷ es) [] e at f = absurd f
more_push (x ∷ es) (c ∷ commas) e at f =
    ap (λ ts. mark marks.Comma c ∷ (expr_tokens x ++ ts)) (more_push es commas e at f)
    ∙ ap (λ ts. mark marks.Comma c ∷ ts) (sym
    (append_assoc (expr_tokens x) (more_tokens (exprs_of es) commas) (mark marks.Comma at ∷ expr_tokens e)))

follow_push : (es : List Expr) (commas : List Span) (e : Expr) (at : Span) → Follow (exprs_of es) commas
    → Follow (exprs_of (es ++ e ∷ [])) (commas ++ at ∷ [])
follow_push [] commas e at f = rw f refl
follow_push (x ∷ es) [] e at f = absurd f
follow_push (x ∷ es) (c ∷ commas) e at f = follow_push es commas e at f

are_push : (es : List Expr) (e : Expr) → AreValues (exprs_of es) → IsExpr e → looseness e ≤ 15
    → AreValues (exprs_of (es ++ e ∷ []))
are_push [] e are is le = (is, le, tt)
are_push (x ∷ es) e are is le = (are.0, are.1, are_push es e are.2 is le)

pub values_push : (h : ℕ) (ts : List Token) (es : List Expr) (commas : List Span) (us vs ws : List Token) (at : Span)
    (e : Expr) → SoundValues h ts (es, commas) us → us ≡ mark marks.Comma at ∷ vs → Sound 15 h vs e ws
    → SoundValues h ts (es ++ e ∷ [], commas ++ at ∷ []) ws
values_push h ts [] commas us vs ws at e s f g = absurd (omega (arith, s.some))
values_push h ts (x ∷ es) commas us vs ws at e s f g =
    record {
      tokens = s.tokens ∙ (ap (λ zs. (expr_tokens x ++ more_tokens (exprs_of es) commas) ++ zs)
          (f ∙ ap (λ zs. mark marks.Comma at ∷ zs) g.tokens)
          ∙ (sym (append_assoc (expr_tokens x ++ more_tokens (exprs_of es) commas) (mark marks.Comma at ∷ expr_tokens e)
          ws)
          ∙ ap (λ zs. zs ++ ws) (append_assoc (expr_tokens x) (more_tokens (exprs_of es) commas)
          (mark marks.Comma at ∷ expr_tokens e) ∙ ap (λ zs. expr_tokens x ++ zs)
          (sym (more_push es commas e at s.apart)))));
      are = are_push (x ∷ es) e s.are g.is g.loose;
      apart = follow_push es commas e at s.apart;
      low = omega (arith, s.low, g.low, exprs_height-push (x ∷ es) e);
      some = omega arith;
    }

pub sound_value : (n : ℕ) (b : Readers) → SoundReaders n b → (ts : List Token) (a : Values) (us : List Token)
    → SoundValues n ts a us → HoldsStep (SoundValues n ts) (value_step b a us)
sound_value n b sb ts a us s = under (take_mark marks.Comma us) (mark_taken marks.Comma us)
  where
    under : (o : Takes Span) → HoldsTaken (λ at vs. us ≡ mark marks.Comma at ∷ vs) o
        → HoldsStep (SoundValues n ts) (value_at b a o)
    under None h = tt
    under (Some (at, vs)) h = step_then (Sound 15 n vs) (SoundValues n ts) (b.assignment vs) _ (sb.assignment vs)
        (λ e ws g. values_push n ts a.0 a.1 us vs ws at e s h g)

pub first_value : (h : ℕ) (ts : List Token) (e : Expr) (us : List Token) → Sound 15 h ts e us
    → SoundValues h ts (e ∷ [], []) us
first_value h ts e us s =
    record {
      tokens = s.tokens ∙ ap (λ zs. zs ++ us) (sym (append-nil (expr_tokens e)));
      are = (s.is, s.loose, tt);
      apart = refl;
      low = omega (arith, s.low);
      some = omega arith;
    }

-- what the arguments of a call are
pub record SoundArguments (h : ℕ) (ts : List Token) (values : Values) (us : List Token) : Type 0 where
  pub tokens : ts ≡ exprs_tokens (exprs_of values.0) values.1 ++ us
  pub are : AreValues (exprs_of values.0)
  pub apart : Separate (exprs_of values.0) values.1
  pub low : exprs_height (exprs_of values.0) ≤ h

some_arguments : (h : ℕ) (ts : List Token) (r : Reads Values) → Holds (SoundValues h ts) r
    → Holds (SoundArguments h ts) r
some_arguments h ts (Faults deep us) s = tt
some_arguments h ts (Found values us) s = record { tokens = s.tokens; are = s.are; apart = s.apart; low = s.low }

pub sound_arguments : (n : ℕ) (b : Readers) → SoundReaders n b → (ts : List Token)
    → Holds (SoundArguments n ts) (read_arguments b ts)
sound_arguments n b sb ts = under (take_mark marks.RightParen ts)
  where
    under : (o : Takes Span) → Holds (SoundArguments n ts) (arguments_from b o ts)
    under (Some close) = record { tokens = refl; are = tt; apart = refl; low = omega arith }
    under None =
        holds_then (Sound 15 n ts) (SoundArguments n ts) (b.assignment ts) _ (sb.assignment ts) (λ e us s.
        some_arguments n ts (chained (value_step b) (e ∷ [], []) us)
        (holds_chain (SoundValues n ts) (value_step b) (λ a vs g. sound_value n b sb ts a vs g) (length us)
        (e ∷ [], []) us (first_value n ts e us s)))

-- ---- primary

pub sound_call : (n : ℕ) (b : Readers) → SoundReaders n b → (f : Ident) (ts : List Token)
    → Holds (Sound 0 (suc n) (ident f.name f.at ∷ ts)) (call_from b f (take_mark marks.LeftParen ts) ts)
sound_call n b sb f ts = under (take_mark marks.LeftParen ts) (mark_taken marks.LeftParen ts)
  where
    under : (o : Takes Span) → HoldsTaken (λ at us. ts ≡ mark marks.LeftParen at ∷ us) o
        → Holds (Sound 0 (suc n) (ident f.name f.at ∷ ts)) (call_from b f o ts)
    under None h = record { tokens = refl; is = tt; loose = omega arith; low = omega arith }
    under (Some (o, us)) h =
        holds_then (SoundArguments n us) (Sound 0 (suc n) (ident f.name f.at ∷ ts)) (read_arguments b us) _
        (sound_arguments n b sb us) (λ values vs s.
        holds_then (λ c ws. vs ≡ mark marks.RightParen c ∷ ws) (Sound 0 (suc n) (ident f.name f.at ∷ ts))
        (read_mark marks.RightParen vs) _ (mark_read marks.RightParen vs) (λ c ws g.
        record {
          tokens = ap (λ zs. ident f.name f.at ∷ zs)
              (h ∙ ap (λ zs. mark marks.LeftParen o ∷ zs)
              (s.tokens ∙ (ap (λ zs. exprs_tokens (exprs_of values.0) values.1 ++ zs) g
              ∙ sym (append_assoc (exprs_tokens (exprs_of values.0) values.1) (mark marks.RightParen c ∷ []) ws))));
          is = (s.are, s.apart);
          loose = omega arith;
          low = omega (arith, s.low);
        }))

pub sound_parens : (n : ℕ) (b : Readers) → SoundReaders n b → (o : Span) (ts : List Token)
    → Holds (Sound 0 (suc n) (mark marks.LeftParen o ∷ ts)) (parenthesised_from b o ts)
sound_parens n b sb o ts =
    holds_above (Sound 16 n ts) (Sound 0 (suc n) (mark marks.LeftParen o ∷ ts)) 0 b.height _ ts (b.expression ts) _
    (sb.expression ts) (λ e us some s.
    holds_then (λ c vs. us ≡ mark marks.RightParen c ∷ vs) (Sound 0 (suc n) (mark marks.LeftParen o ∷ ts))
    (read_mark marks.RightParen us) _ (mark_read marks.RightParen us) (λ c vs g.
    record {
      tokens = ap (λ zs. mark marks.LeftParen o ∷ zs)
          (s.tokens ∙ (ap (λ zs. expr_tokens e ++ zs) g
          ∙ sym (append_assoc (expr_tokens e) (mark marks.RightParen c ∷ []) vs)));
      is = s.is;
      loose = omega arith;
      low = omega (arith, s.low);
    }))

pub sound_at : (n : ℕ) (b : Readers) → SoundReaders n b → (kind : TokenKind) (at : Span) (ts : List Token)
    → (let x : Token = record { kind = kind; at = at } in Holds (Sound 0 (suc n) (x ∷ ts)) (primary_at b kind at ts))
sound_at n b sb (kinds.Ident name) at ts = sound_call n b sb (record { name = name; at = at }) ts
sound_at n b sb (kinds.Number value true) at ts = tt
sound_at n b sb (kinds.Number value false) at ts = record { tokens = refl; is = tt; loose = omega arith; low = omega arith }
sound_at n b sb (kinds.Text bytes) at ts =
    record {
      tokens = ap (λ zs. (let x : Token = record { kind = kinds.Text bytes; at = at } in x) ∷ zs)
          (texts_taken ts);
      is = tt;
      loose = omega arith;
      low = omega arith;
    }
sound_at n b sb (kinds.Mark m) at ts =
    holds_if (Sound 0 (suc n) (mark m at ∷ ts)) (is_mark marks.LeftParen (kinds.Mark m)) false (mark m at ∷ ts)
    (parenthesised_from b at ts)
    (λ e.
    (let P : TokenKind → Type 0 = λ k. (let x : Token = record { kind = k; at = at } in
    Holds (Sound 0 (suc n) (x ∷ ts)) (parenthesised_from b at ts)) in
    subst P (sym (mark_is marks.LeftParen (kinds.Mark m) e)) (sound_parens n b sb at ts)))
sound_at n b sb (kinds.Word w) at ts = tt

pub sound_primary : (n : ℕ) (b : Readers) → SoundReaders n b → SoundReader 0 (suc n) (read_primary b)
sound_primary n b sb [] = tt
sound_primary n b sb (t ∷ ts) = sound_at n b sb t.kind t.at ts

-- ---- postfix

pub sound_suffix : (n : ℕ) (b : Readers) → SoundReaders n b → (ts : List Token) (base : Expr) (us : List Token)
    → Sound 1 (suc n) ts base us → HoldsStep (Sound 1 (suc n) ts) (suffix_step (suc n) b base us)
sound_suffix n b sb ts base us s = under (take_mark marks.LeftBracket us) (mark_taken marks.LeftBracket us)
  where
    steps : (o : Takes (StepOp × Span)) → HoldsTaken (λ a vs. us ≡ mark (step_mark a.0) a.1 ∷ vs) o
        → HoldsStep (Sound 1 (suc n) ts) (postfix_from (suc n) base o)
    steps None h = tt
    steps (Some (op, vs)) h =
        step_above (λ (_ : StepOp × Span) ws. vs ≡ ws) (Sound 1 (suc n) ts) (expr_height base) (suc n) _ vs (Found op vs) _
        refl (λ _ ws e k.
        record {
          tokens = s.tokens ∙ (ap (λ zs. expr_tokens base ++ zs)
              (h ∙ ap (λ zs. mark (step_mark op.0) op.1 ∷ zs) k)
              ∙ sym (append_assoc (expr_tokens base) (mark (step_mark op.0) op.1 ∷ []) ws));
          is = (s.is, s.loose);
          loose =
              omega arith;
          low = omega (arith, e);
        })

    under : (o : Takes Span) → HoldsTaken (λ at vs. us ≡ mark marks.LeftBracket at ∷ vs) o
        → HoldsStep (Sound 1 (suc n) ts) (suffix_from (suc n) b base o us)
    under None h = steps (take_step us) (step_taken us)
    under (Some (o, vs)) h =
        step_above (Sound 16 n vs) (Sound 1 (suc n) ts) (expr_height base) (suc n) _ vs (b.expression vs) _
        (sb.expression vs) (λ i ws e g.
        step_then (λ c xs. ws ≡ mark marks.RightBracket c ∷ xs) (Sound 1 (suc n) ts) (read_mark marks.RightBracket ws) _
        (mark_read marks.RightBracket ws) (λ c xs k.
        record {
          tokens = s.tokens ∙ (ap (λ zs. expr_tokens base ++ zs)
              (h ∙ ap (λ zs. mark marks.LeftBracket o ∷ zs)
              (g.tokens ∙ (ap (λ zs. expr_tokens i ++ zs) k
              ∙ sym (append_assoc (expr_tokens i) (mark marks.RightBracket c ∷ []) xs))))
              ∙ sym (append_assoc (expr_tokens base)
              (mark marks.LeftBracket o ∷ (expr_tokens i ++ mark marks.RightBracket c ∷ [])) xs));
          is = (s.is, s.loose, g.is);
          loose = omega arith;
          low = omega (arith, g.low, e);
        }))

pub sound_postfix : (n : ℕ) (b : Readers) → SoundReaders n b → SoundReader 1 (suc n) (read_postfix (suc n) b)
sound_postfix n b sb ts =
    holds_then (Sound 0 (suc n) ts) (Sound 1 (suc n) ts) (read_primary b ts) _ (sound_primary n b sb ts) (λ e us s.
    holds_chain (Sound 1 (suc n) ts) (suffix_step (suc n) b) (λ a vs g. sound_suffix n b sb ts a vs g) (length us) e us
    (looser 0 1 (suc n) ts e us (omega arith) s))

-- ---- unary and cast

pub sound_unary : (n : ℕ) (b : Readers) → SoundReaders n b → SoundReader 2 (suc n) (read_unary (suc n) b)
sound_unary n b sb ts = steps (take_step ts) (step_taken ts)
  where
    unaries : (o : Takes (UnaryOp × Span)) → HoldsTaken (λ a us. ts ≡ mark (unary_mark a.0) a.1 ∷ us) o
        → Holds (Sound 2 (suc n) ts) (unary_from (suc n) b o ts)
    unaries None h = holds_looser 1 2 (suc n) ts (read_postfix (suc n) b ts) (omega arith) (sound_postfix n b sb ts)
    unaries (Some (op, us)) h =
        holds_above (Sound 3 n us) (Sound 2 (suc n) ts) 0 b.height _ us (b.cast us) _ (sb.cast us) (λ e vs some s.
        record {
          tokens = h ∙ ap (λ zs. mark (unary_mark op.0) op.1 ∷ zs) s.tokens;
          is = (s.is, s.loose);
          loose =
              omega arith;
          low = omega (arith, s.low);
        })

    steps : (o : Takes (StepOp × Span)) → HoldsTaken (λ a us. ts ≡ mark (step_mark a.0) a.1 ∷ us) o
        → Holds (Sound 2 (suc n) ts) (prefix_from (suc n) b o ts)
    steps None h = unaries (take_unary ts) (unary_taken ts)
    steps (Some (op, us)) h =
        holds_above (Sound 2 n us) (Sound 2 (suc n) ts) 0 b.height _ us (b.unary us) _ (sb.unary us) (λ e vs some s.
        record {
          tokens = h ∙ ap (λ zs. mark (step_mark op.0) op.1 ∷ zs) s.tokens;
          is = (s.is, s.loose);
          loose =
              omega arith;
          low = omega (arith, s.low);
        })

pub sound_cast : (n : ℕ) (b : Readers) → SoundReaders n b → SoundReader 3 (suc n) (read_cast (suc n) b)
sound_cast n b sb ts = under (take_mark marks.LeftParen ts) (mark_taken marks.LeftParen ts)
  where
    plain : Holds (Sound 3 (suc n) ts) (read_unary (suc n) b ts)
    plain = holds_looser 2 3 (suc n) ts (read_unary (suc n) b ts) (omega arith) (sound_unary n b sb ts)

    behind : (o : Span) (us : List Token) (ss : List Specifier) (vs : List Token) → ts
        ≡ mark marks.LeftParen o ∷ us → us ≡ specifiers_tokens ss ++ vs → IsSpecifiers ss
        → Holds (Sound 3 (suc n) ts) (cast_behind b o ss (take_pointer vs))
    behind o us [] vs h g some = absurd some
    behind o us (s ∷ ss) vs h g some =
        holds_then (λ c ws. (take_pointer vs).1 ≡ mark marks.RightParen c ∷ ws) (Sound 3 (suc n) ts)
        (read_mark marks.RightParen (take_pointer vs).1) _ (mark_read marks.RightParen (take_pointer vs).1)
        (λ c ws k.
        holds_then (Sound 3 n ws) (Sound 3 (suc n) ts) (b.cast ws) _ (sb.cast ws) (λ e xs m.
        (let tail : List Token = mark marks.RightParen c ∷ expr_tokens e in
        record {
          tokens = h ∙ ap (λ zs. mark marks.LeftParen o ∷ zs)
              (g ∙ (ap (λ zs. specifiers_tokens (s ∷ ss) ++ zs)
              (pointer_taken vs ∙ (ap (λ zs. pointer_tokens (take_pointer vs).0 ++ zs)
              (k ∙ ap (λ zs. mark marks.RightParen c ∷ zs) m.tokens)
              ∙ sym (append_assoc (pointer_tokens (take_pointer vs).0) tail xs)))
              ∙ sym (append_assoc (specifiers_tokens (s ∷ ss)) (pointer_tokens (take_pointer vs).0 ++ tail) xs)));
          is = (tt, m.is, m.loose);
          loose = omega arith;
          low = omega (arith, m.low);
        })))

    inside : (o : Span) (us : List Token) → ts ≡ mark marks.LeftParen o ∷ us → IsSpecifiers (take_specifiers us).0
        → Holds (Sound 3 (suc n) ts) (cast_inside b o us)
    inside o us h some = by (ltb 0 b.height)
      where
        by : (x : Bool) → Holds (Sound 3 (suc n) ts) (if x then
            cast_behind b o (take_specifiers us).0 (take_pointer (take_specifiers us).1) else Faults true
            (mark marks.LeftParen o ∷ us))
        by true = behind o us (take_specifiers us).0 (take_specifiers us).1 h (specifiers_taken us) some
        by false = tt

    with_specifiers : (o : Span) (us : List Token) (ss : List Specifier) → ts ≡ mark marks.LeftParen o ∷ us
        → (take_specifiers us).0 ≡ ss → Holds (Sound 3 (suc n) ts) (cast_with (suc n) b o ss us ts)
    with_specifiers o us [] h e = plain
    with_specifiers o us (s ∷ ss) h e = inside o us h (subst IsSpecifiers (sym e) tt)

    under : (o : Takes Span) → HoldsTaken (λ at us. ts ≡ mark marks.LeftParen at ∷ us) o
        → Holds (Sound 3 (suc n) ts) (cast_from (suc n) b o ts)
    under None h = plain
    under (Some (o, us)) h = with_specifiers o us (take_specifiers us).0 h refl

-- ---- operators between operands

-- one more operator and its right operand
pub sound_turn : (k n c : ℕ) (right : Reader) → c + 1 ≡ k + 3 → SoundReader c n right → (ts : List Token) (l : Expr)
    (us : List Token) → Sound (k + 3) (suc n) ts l us
    → HoldsStep (Sound (k + 3) (suc n) ts) (infix_step k (suc n) right l us)
sound_turn k n c right sum sr ts l us s = under (take_binary k us) (binary_taken k us)
  where
    under : (o : Takes (BinaryOp × Span)) → HoldsTaken
        (λ a vs. (us ≡ mark (binary_mark a.0) a.1 ∷ vs) × (binary_level a.0 ≡ k)) o
        → HoldsStep (Sound (k + 3) (suc n) ts) (infix_from (suc n) right l o)
    under None h = tt
    under (Some (op, vs)) h =
        step_above (Sound c n vs) (Sound (k + 3) (suc n) ts) (expr_height l) (suc n) _ vs (right vs) _ (sr vs)
        (λ r ws e g.
        record {
          tokens = s.tokens ∙ (ap (λ zs. expr_tokens l ++ zs)
              (h.0 ∙ ap (λ zs. mark (binary_mark op.0) op.1 ∷ zs) g.tokens)
              ∙ sym (append_assoc (expr_tokens l) (mark (binary_mark op.0) op.1 ∷ expr_tokens r) ws));
          is = (s.is, omega (arith, s.loose, h.1), g.is, omega (arith, g.loose, h.1));
          loose = omega (arith, h.1);
          low = omega (arith, g.low, e);
        })

pub sound_infix : (k n c : ℕ) (operand right : Reader) → c + 1 ≡ k + 3 → SoundReader c (suc n) operand
    → SoundReader c n right → SoundReader (k + 3) (suc n) (read_infix k (suc n) operand right)
sound_infix k n c operand right sum so sr ts =
    holds_then (Sound c (suc n) ts) (Sound (k + 3) (suc n) ts) (operand ts) _ (so ts) (λ e us s.
    holds_chain (Sound (k + 3) (suc n) ts) (infix_step k (suc n) right)
    (λ a vs g. sound_turn k n c right sum sr ts a vs g) (length us) e us
    (looser c (k + 3) (suc n) ts e us (omega arith) s))

pub sound_binary : (n : ℕ) (b : Readers) → SoundReaders n b → (k : ℕ) → k ≤ 10
    → SoundReader (k + 3) (suc n) (read_binary (suc n) b k)
sound_binary n b sb zero h = sound_cast n b sb
sound_binary n b sb (suc k) h = sound_infix (suc k) n (k + 3) (read_binary (suc n) b k) (b.binary k) (omega arith)
    (sound_binary n b sb k (omega arith)) (sb.binary k (omega arith))

pub sound_conditional : (n : ℕ) (b : Readers) → SoundReaders n b → SoundReader 14 (suc n) (read_conditional (suc n) b)
sound_conditional n b sb ts =
    holds_then (Sound 13 (suc n) ts) (Sound 14 (suc n) ts) (read_binary (suc n) b 10 ts) _
    (sound_binary n b sb 10 (omega arith) ts)
    (λ c us s. under c us s (take_mark marks.Question us) (mark_taken marks.Question us))
  where
    under : (c : Expr) (us : List Token) → Sound 13 (suc n) ts c us → (o : Takes Span)
        → HoldsTaken (λ at vs. us ≡ mark marks.Question at ∷ vs) o
        → Holds (Sound 14 (suc n) ts) (conditional_from (suc n) b c o us)
    under c us s None h = looser 13 14 (suc n) ts c us (omega arith) s
    under c us s (Some (q, vs)) h =
        holds_above (Sound 16 n vs) (Sound 14 (suc n) ts) (expr_height c) (suc n) _ vs (b.expression vs) _
        (sb.expression vs) (λ f ws e g.
        holds_then (λ k xs. ws ≡ mark marks.Colon k ∷ xs) (Sound 14 (suc n) ts) (read_mark marks.Colon ws) _
        (mark_read marks.Colon ws) (λ k xs i.
        holds_then (Sound 14 n xs) (Sound 14 (suc n) ts) (b.conditional xs) _ (sb.conditional xs) (λ z ys j.
        (let tail : List Token = mark marks.Colon k ∷ expr_tokens z in
        record {
          tokens = s.tokens ∙ (ap (λ zs. expr_tokens c ++ zs)
              (h ∙ ap (λ zs. mark marks.Question q ∷ zs)
              (g.tokens ∙ (ap (λ zs. expr_tokens f ++ zs) (i ∙ ap (λ zs. mark marks.Colon k ∷ zs) j.tokens)
              ∙ sym (append_assoc (expr_tokens f) tail ys))))
              ∙ sym (append_assoc (expr_tokens c) (mark marks.Question q ∷ (expr_tokens f ++ tail)) ys));
          is = (s.is, s.loose, g.is, j.is, j.loose);
          loose = omega arith;
          low = omega (arith, g.low, j.low, e);
        }))))

pub sound_assignment : (n : ℕ) (b : Readers) → SoundReaders n b → SoundReader 15 (suc n) (read_assignment (suc n) b)
sound_assignment n b sb ts =
    holds_then (Sound 14 (suc n) ts) (Sound 15 (suc n) ts) (read_conditional (suc n) b ts) _
    (sound_conditional n b sb ts) (λ l us s. under l us s (take_assign us) (assign_taken us))
  where
    under : (l : Expr) (us : List Token) → Sound 14 (suc n) ts l us → (o : Takes (AssignOp × Span))
        → HoldsTaken (λ a vs. us ≡ mark (assign_mark a.0) a.1 ∷ vs) o
        → Holds (Sound 15 (suc n) ts) (assignment_from (suc n) b l o us)
    under l us s None h = looser 14 15 (suc n) ts l us (omega arith) s
    under l us s (Some (op, vs)) h =
        holds_if (Sound 15 (suc n) ts) (leb (looseness l) 2) false _ _ (λ u.
        holds_above (Sound 15 n vs) (Sound 15 (suc n) ts) (expr_height l) (suc n) _ vs (b.assignment vs) _
        (sb.assignment vs) (λ r ws e g.
        record {
          tokens = s.tokens ∙ (ap (λ zs. expr_tokens l ++ zs)
              (h ∙ ap (λ zs. mark (assign_mark op.0) op.1 ∷ zs) g.tokens)
              ∙ sym (append_assoc (expr_tokens l) (mark (assign_mark op.0) op.1 ∷ expr_tokens r) ws));
          is = (
            s.is,
            leb-true (looseness l) 2 u,
            g.is,
            g.loose,
          );
          loose = omega arith;
          low = omega (arith, g.low, e);
        }))

pub sound_expression : (n : ℕ) (b : Readers) → SoundReaders n b → SoundReader 16 (suc n) (read_expression (suc n) b)
sound_expression n b sb = sound_infix 13 n 15 (read_assignment (suc n) b) b.assignment refl (sound_assignment n b sb)
    sb.assignment

-- the readers for a height read trees alone
pub sound : (height : ℕ) → SoundReaders height (readers height)
sound zero = (let P : Readers → Type 0 = λ r. SoundReaders 0 r in
    subst P (sym readers-none) (record {
      expression = none 16;
      assignment = none 15;
      conditional = none 14;
      binary = λ k h. none (k + 3);
      cast = none 3;
      unary = none 2;
    }))
  where
    none : (c : ℕ) → SoundReader c 0 no_reader
    none c [] = tt
    none c (t ∷ ts) = tt
sound (suc n) =
    (let sb = sound n in
    let b : Readers = readers n in
    let all : SoundReaders (suc n) (readers_over (suc n) b) = record {
      expression = sound_expression n b sb;
      assignment = sound_assignment n b sb;
      conditional = sound_conditional n b sb;
      binary = sound_binary n b sb;
      cast = sound_cast n b sb;
      unary = sound_unary n b sb;
    } in
    let P : Readers → Type 0 = λ r. SoundReaders (suc n) r in
    subst P (sym (readers-suc n)) all)
