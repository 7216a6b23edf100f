-- Objects of blocks and string literals are noted in the order of the tokens that they are told apart by.
use Rattle.std.proofs.Common.{◌≡◌, refl, sym, ap, subst, ◌∙◌, List, [], ◌∷◌, ◌++◌}
use Rattle.std.proofs.Common.{inl, inr, arith, ℕ, suc, ◌≤◌, length}
use Rattle.std.specs.List.{AllByRecursion}
use Rattle.c_typing.specs.Expressions.{text_bytes}
use Rattle.c_typing.proofs.CountUp.{IfFits}
use Rattle.c_check_laws.proofs.Ranges.{InRange}
use Rattle.c_check_laws.proofs.Ranged.{HasInts, ints_left, ints_right, ranged, Fitting, text_fits}
use Rattle.std.specs.Prelude.{Option, Some, None, ◌⊎◌}
use Rattle.std.proofs.lemmas.List.{append-nil}
use Rattle.pcc_base.specs.declared.span.Span.{Span}
use Rattle.pcc_base.specs.declared.fault.Fault.{Fault}
use Rattle.pcc_base.proofs.Lists.{all-append}
use Rattle.c_lex.specs.declared.token.Token.{Token}
use Rattle.c_syntax.specs.declared.expression.Identifier.{Identifier as Ident}
use Rattle.c_syntax.specs.declared.expression.TextPiece.{TextPiece}
use Rattle.c_syntax.specs.Expressions as trees
use Rattle.c_syntax.specs.Expressions.{Expr, Exprs, NoExpr, OneExpr}
use Rattle.c_syntax.specs.ExpressionTokens.{text_tokens, expr_tokens, exprs_tokens, more_tokens, IsText, IsExpr}
use Rattle.c_syntax.specs.ExpressionTokens.{AreValues}
use Rattle.c_syntax.specs.ExpressionTokens.{Separate, Follow, specifiers_tokens, pointer_tokens}
use Rattle.c_tree.specs.declared.types.ValueType.{ValueType}
use Rattle.c_tree.specs.Program.{Expression, Arguments, NoMore, Argument}
use Rattle.c_typing.specs.Library.{Entity, Library, Shared, OfFile, At}
use Rattle.c_typing.specs.Library as library
use Rattle.c_typing.specs.Checked.{Checked, Fits, Fails, Note, Uses, Stores, Defines, fits, noted, also, if_fits, pair}
use Rattle.c_typing.specs.Checked.{both}
use Rattle.c_typing.specs.Names.{Meaning, Local, LocalArray, Object, ObjectArray, Function, Scope, meaning_of}
use Rattle.c_typing.specs.Rows.{assigned, unary_row, step_row, place_named, cast_row, binary_row, index_row}
use Rattle.c_typing.specs.Rows.{conditional_row, assignment_row}
use Rattle.c_typing.specs.Expressions.{type_name, named, Given, arguments_for, count_faults, call_of, called}
use Rattle.c_typing.specs.Expressions.{given, first_piece, postfix_op, prefix_op, typed_expression}
use Rattle.c_check_laws.proofs.Plain.{Plain, assigned_plain, unary_plain, step_plain, cast_plain, binary_plain}
use Rattle.c_check_laws.proofs.Plain.{index_plain, conditional_plain, assignment_plain, type_plain}

-- ---- places among tokens

abbrev pub place_of : Entity → List Span → List Span
place_of (Library f) ps = ps
place_of (Shared name) ps = ps
place_of (OfFile file name) ps = ps
place_of (At place) ps = place ∷ ps

-- the places of objects of blocks and of string literals
abbrev pub places : List Note → List Span
places [] = []
places (Uses e at ∷ ns) = places ns
places (Stores x ∷ ns) = place_of x.entity (places ns)
places (Defines e d ∷ ns) = places ns

place_on : (e : Entity) (ps qs : List Span) → place_of e ps ++ qs ≡ place_of e (ps ++ qs)
place_on (Library f) ps qs = refl
place_on (Shared name) ps qs = refl
place_on (OfFile file name) ps qs = refl
place_on (At place) ps qs = refl

pub places_on : (ns ms : List Note) → places (ns ++ ms) ≡ places ns ++ places ms
places_on [] ms = refl
places_on (Uses e at ∷ ns) ms = places_on ns ms
places_on (Stores x ∷ ns) ms = ap (place_of x.entity) (places_on ns ms) ∙ sym (place_on x.entity (places ns) (places
    ms))
places_on (Defines e d ∷ ns) ms = places_on ns ms

-- the places are those of some of the tokens, in order
abbrev pub Sub : List Span → List Token → Type 0
Sub [] ts = Unit {0}
Sub (p ∷ ps) [] = ⊥
Sub (p ∷ ps) (t ∷ ts) = ((p ≡ t.at) × Sub ps ts) ⊎ Sub (p ∷ ps) ts

pub sub_skip : (ps : List Span) (t : Token) (ts : List Token) → Sub ps ts → Sub ps (t ∷ ts)
sub_skip [] t ts h = tt
sub_skip (p ∷ ps) t ts h = inr h

pub sub_behind : (ps : List Span) (us ts : List Token) → Sub ps ts → Sub ps (us ++ ts)
sub_behind ps [] ts h = h
sub_behind ps (u ∷ us) ts h = sub_skip ps u (us ++ ts) (sub_behind ps us ts h)

pub sub_on : (ps qs : List Span) (ts us : List Token) → Sub ps ts → Sub qs us → Sub (ps ++ qs) (ts ++ us)
sub_on [] qs ts us h k = sub_behind qs ts us k
sub_on (p ∷ ps) qs [] us h k = absurd h
sub_on (p ∷ ps) qs (t ∷ ts) us (inl e) k = inl (e.0, sub_on ps qs ts us e.1 k)
sub_on (p ∷ ps) qs (t ∷ ts) us (inr h) k = inr (sub_on (p ∷ ps) qs ts us h k)

pub sub_before : (ps : List Span) (ts us : List Token) → Sub ps ts → Sub ps (ts ++ us)
sub_before ps ts us h = subst (λ qs. Sub qs (ts ++ us)) (append-nil ps) (sub_on ps [] ts us h tt)

-- an object that is noted has elements, and its values fit them
abbrev pub IsRight : Note → Type 0
IsRight (Uses e at) = Unit {0}
IsRight (Stores x) = (1 ≤ x.count) × Fitting x.element x.contents
IsRight (Defines e d) = Unit {0}

abbrev pub AreRight : List Note → Type 0
AreRight ns = AllByRecursion IsRight ns

-- what is noted stands at these tokens, and is right where their numbers are of `int`
abbrev pub Placed : {A : Type 0} → List Token → Checked A → Type 0
Placed T (Fits a ns) = Sub (places ns) T × (HasInts T → AreRight ns)
Placed T (Fails f fs) = Unit {0}

pub widen : {A : Type 0} (T U : List Token) (c : Checked A) → ((ps : List Span) → Sub ps T → Sub ps U) → (HasInts U →
    HasInts T)
    → Placed T c
    → Placed U c
widen T U (Fits a ns) f g h = (f (places ns) h.0, λ z. h.1 (g z))
widen T U (Fails x xs) f g h = tt

pub inside : {A : Type 0} (before T after : List Token) (c : Checked A) → Placed T c
    → Placed (before ++ (T ++ after)) c
inside before T after c h =
    widen T (before ++ (T ++ after)) c (λ ps k. sub_behind ps before (T ++ after) (sub_before ps T after k))
    (λ z. ints_left T after (ints_right before (T ++ after) z)) h

pub behind : {A : Type 0} (before T : List Token) (c : Checked A) → Placed T c → Placed (before ++ T) c
behind before T c h = widen T (before ++ T) c (λ ps k. sub_behind ps before T k) (λ z. ints_right before T z) h

-- nothing is noted that stands at a token
abbrev pub Bare : {A : Type 0} → Checked A → Type 0
Bare (Fits a ns) = (places ns ≡ []) × AreRight ns
Bare (Fails f fs) = Unit {0}

pub bare_plain : {A : Type 0} (c : Checked A) → Plain c → Bare c
bare_plain (Fits a ns) h = (ap places h, subst AreRight (sym h) tt)
bare_plain (Fails f fs) h = tt

noted_bare : {A : Type 0} (T : List Token) (ns : List Note) (c : Checked A) → Sub (places ns) T
    → (HasInts T → AreRight ns) → Bare c → Placed T (noted ns c)
noted_bare T ns (Fits a ms) h r k = (
  subst (λ ps. Sub ps T) (sym (places_on ns ms ∙ ap (λ qs. places ns ++ qs) k.0 ∙ append-nil (places ns))) h,
  λ z. all-append IsRight ns ms (r z) k.1,
)
noted_bare T ns (Fails f fs) h r k = tt

pub placed_bare : {A B : Type 0} (T : List Token) (c : Checked A) (f : A → Checked B) → Placed T c
    → ((a : A) → Bare (f a)) → Placed T (if_fits c f)
placed_bare T (Fits a ns) f h k = noted_bare T ns (f a) h.0 h.1 (k a)
placed_bare T (Fails x xs) f h k = tt

pub placed_if : {A B : Type 0} (T : List Token) (c : Checked A) (f : A → Checked B) → Placed T c
    → ((a : A) → Plain (f a)) → Placed T (if_fits c f)
placed_if T c f h k = placed_bare T c f h (λ a. bare_plain (f a) (k a))

noted_plain : {A : Type 0} (T : List Token) (ns : List Note) (c : Checked A) → ns ≡ [] → Placed T c
    → Placed T (noted ns c)
noted_plain T ns (Fits a ms) e h =
    subst (λ ks. Sub (places (ks ++ ms)) T × (HasInts T → AreRight (ks ++ ms))) (sym e) h
noted_plain T ns (Fails f fs) e h = tt

-- behind a part that notes nothing, and of which P holds
pub placed_knowing : {A B : Type 0} (P : A → Type 0) (T : List Token) (c : Checked A) (f : A → Checked B) → Plain c
    → IfFits P c → ((a : A) → P a → Placed T (f a)) → Placed T (if_fits c f)
placed_knowing P T (Fits a ns) f h p k = noted_plain T ns (f a) h (k a p)
placed_knowing P T (Fails x xs) f h p k = tt

-- behind a part that notes nothing
pub placed_after : {A B : Type 0} (T : List Token) (c : Checked A) (f : A → Checked B) → Plain c
    → ((a : A) → Placed T (f a)) → Placed T (if_fits c f)
placed_after T (Fits a ns) f h k = noted_plain T ns (f a) h (k a)
placed_after T (Fails x xs) f h k = tt

pub placed_pair : {A B : Type 0} (T U : List Token) (c : Checked A) (d : Checked B) → Placed T c → Placed U d
    → Placed (T ++ U) (pair c d)
placed_pair T U (Fits a ns) (Fits b ms) h k = (
  subst (λ ps. Sub ps (T ++ U)) (sym (places_on ns ms)) (sub_on (places ns) (places ms) T U h.0 k.0),
  λ z. all-append IsRight ns ms (h.1 (ints_left T U z)) (k.1 (ints_right T U z)),
)
placed_pair T U (Fits a ns) (Fails g gs) h k = tt
placed_pair T U (Fails f fs) d h k = tt

pub placed_both : {A B C : Type 0} (T U : List Token) (c : Checked A) (d : Checked B) (f : A → B → Checked C)
    → Placed T c → Placed U d → ((a : A) (b : B) → Plain (f a b)) → Placed (T ++ U) (both c d f)
placed_both T U c d f h k on =
    placed_if (T ++ U) (pair c d) (λ p. f p.0 p.1) (placed_pair T U c d h k) (λ p. on p.0 p.1)

-- a first part that notes nothing
pub plain_first : {A B : Type 0} (T : List Token) (c : Checked A) (d : Checked B) → Plain c → Placed T d
    → Placed T (pair c d)
plain_first T (Fits a ns) (Fits b ms) h k =
    subst (λ ks. Sub (places (ks ++ ms)) T × (HasInts T → AreRight (ks ++ ms))) (sym h) k
plain_first T (Fits a ns) (Fails g gs) h k = tt
plain_first T (Fails f fs) d h k = tt

pub placed_also : {A : Type 0} (T : List Token) (fs : List Fault) (c : Checked A) → Placed T c → Placed T (also fs c)
placed_also T [] c h = h
placed_also T (f ∷ fs) c h = tt

pub never_fits : {A : Type 0} (B : Type 0) (T : List Token) (c : Checked A) (g : Fault) (gs : List Fault)
    → Placed {A = B} T (if_fits c (λ x. Fails g gs))
never_fits B T (Fits a ns) g gs = tt
never_fits B T (Fails f fs) g gs = tt

-- ---- lists of expressions

abbrev pub PlacedAll : List Given → List Token → Type 0
PlacedAll [] T = Unit {0}
PlacedAll (g ∷ gs) T = (U : List Token) × (V : List Token) × (T ≡ U ++ V) × Placed U g.value
    × (HasInts U → IfFits InRange g.value) × PlacedAll gs V

arguments_placed : (types : List ValueType) (gs : List Given) (T : List Token) → PlacedAll gs T
    → Placed T (arguments_for types gs)
arguments_placed types [] T h = (tt, λ z. tt)
arguments_placed [] (g ∷ gs) T (U, V, e, h, r, k) =
    subst (λ W. Placed W (arguments_for [] (g ∷ gs))) (sym e)
    (placed_both U V g.value (arguments_for [] gs) (λ e es. fits (Argument e es)) h (arguments_placed [] gs V k)
    (λ a b. refl))
arguments_placed (t ∷ ts) (g ∷ gs) T (U, V, e, h, r, k) =
    subst (λ W. Placed W (arguments_for (t ∷ ts) (g ∷ gs))) (sym e)
    (placed_both U V (if_fits g.value (assigned t g.at)) (arguments_for ts gs) (λ e es. fits (Argument e es))
    (placed_if U g.value (assigned t g.at) h (λ x. assigned_plain t g.at x)) (arguments_placed ts gs V k) (λ a b. refl))

call_bare : (s : Scope) (at : Span) (e : Entity) (of : ValueType) (es : Arguments) → Bare (call_of s at e of es)
call_bare s at (Library library.Putchar) of NoMore = tt
call_bare s at (Library library.Putchar) of (Argument e es) = (refl, tt)
call_bare s at (Library library.Getchar) of es = (refl, tt)
call_bare s at (Library library.Exit) of NoMore = tt
call_bare s at (Library library.Exit) of (Argument e es) = (refl, tt)
call_bare s at (Shared name) of es = (refl, (tt, tt))
call_bare s at (OfFile file name) of es = (refl, (tt, tt))
call_bare s at (At place) of es = (refl, (tt, tt))

called_placed : (s : Scope) (x : Ident) (gs : List Given) (o : Option Meaning) (T : List Token) → PlacedAll gs T
    → Placed T (called s x gs o)
called_placed s x gs None T h = tt
called_placed s x gs (Some (Local v of)) T h = tt
called_placed s x gs (Some (LocalArray k element)) T h = tt
called_placed s x gs (Some (Object e of)) T h = tt
called_placed s x gs (Some (ObjectArray e element)) T h = tt
called_placed s x gs (Some (Function e g)) T h =
    placed_also T (count_faults x.at g.parameters gs)
    (if_fits (arguments_for g.parameters gs) (call_of s x.at e g.result))
    (placed_bare T (arguments_for g.parameters gs) (call_of s x.at e g.result)
    (arguments_placed g.parameters gs T h) (λ es. call_bare s x.at e g.result es))

named_placed : (s : Scope) (x : Ident) (o : Option Meaning) (T : List Token) → Placed T (named s x o)
named_placed s x None T = tt
named_placed s x (Some (Local v of)) T = (tt, λ z. tt)
named_placed s x (Some (LocalArray k element)) T = (tt, λ z. tt)
named_placed s x (Some (Object e of)) T = (tt, λ z. (tt, tt))
named_placed s x (Some (ObjectArray e element)) T = (tt, λ z. (tt, tt))
named_placed s x (Some (Function e g)) T = tt

pub text_first : (pieces : List TextPiece) → IsText pieces → Sub (first_piece pieces ∷ []) (text_tokens pieces)
text_first [] h = absurd h
text_first (p ∷ ps) h = inl (refl, tt)

pub one_more : (n : ℕ) → 1 ≤ suc n
one_more n = omega arith

-- ---- expressions

mutual
  pub typed_placed : (s : Scope) (e : Expr) → IsExpr e → Placed (expr_tokens e) (typed_expression s e)
  typed_placed s (trees.Identifier x) h =
      named_placed s x (meaning_of s.names x.name) (expr_tokens (trees.Identifier x))
  typed_placed s (trees.Number value at) h = (tt, λ z. tt)
  typed_placed s (trees.Text pieces) h =
      (text_first pieces h, λ z. ((one_more (length (text_bytes pieces)), text_fits pieces), tt))
  typed_placed s (trees.Parenthesised o e c) h =
      inside (_ ∷ []) (expr_tokens e) (_ ∷ []) (typed_expression s e) (typed_placed s e h)
  typed_placed s (trees.Call x o arguments commas c) h =
      let r = called s x (given s arguments) (meaning_of s.names x.name) in
      inside (_ ∷ _ ∷ []) (exprs_tokens arguments commas) (_ ∷ []) r
      (called_placed s x (given s arguments) (meaning_of s.names x.name) (exprs_tokens arguments commas)
      (given_placed s arguments commas h.0 h.1))
  typed_placed s (trees.Index b o i c) h =
      placed_both (expr_tokens b) (_ ∷ (expr_tokens i ++ _ ∷ [])) (typed_expression s b) (typed_expression s i)
      (index_row o) (typed_placed s b h.0)
      (inside (_ ∷ []) (expr_tokens i) (_ ∷ []) (typed_expression s i) (typed_placed s i h.2))
      (λ x y. index_plain o x y)
  typed_placed s (trees.Postfix b op at) h =
      let row : Expression → Checked Expression = λ e. step_row (postfix_op op) at (place_named e) in
      let T = expr_tokens b in
      inside [] T (_ ∷ []) (if_fits (typed_expression s b) row)
      (placed_if T (typed_expression s b) row (typed_placed s b h.0)
      (λ x. step_plain (postfix_op op) at (place_named x)))
  typed_placed s (trees.Prefix op at b) h =
      let row : Expression → Checked Expression = λ e. step_row (prefix_op op) at (place_named e) in
      let T = expr_tokens b in
      behind (_ ∷ []) T (if_fits (typed_expression s b) row)
      (placed_if T (typed_expression s b) row (typed_placed s b h.0)
      (λ x. step_plain (prefix_op op) at (place_named x)))
  typed_placed s (trees.Unary op at e) h =
      let T = expr_tokens e in
      behind (_ ∷ []) T (if_fits (typed_expression s e) (unary_row op at))
      (placed_if T (typed_expression s e) (unary_row op at) (typed_placed s e h.0) (λ x. unary_plain op at x))
  typed_placed s (trees.Cast o specifiers pointer c e) h =
      let T = expr_tokens e in
      let t = type_name o specifiers pointer in
      let p = pair t (typed_expression s e) in
      let r = both t (typed_expression s e) (cast_row o) in
      behind (_ ∷ []) (specifiers_tokens specifiers ++ (pointer_tokens pointer ++ _ ∷ T)) r
      (behind (specifiers_tokens specifiers) (pointer_tokens pointer ++ _ ∷ T) r
      (behind (pointer_tokens pointer) (_ ∷ T) r (behind (_ ∷ []) T r
      (placed_if T p (λ q. cast_row o q.0 q.1)
      (plain_first T t (typed_expression s e) (type_plain o specifiers pointer) (typed_placed s e h.1))
      (λ q. cast_plain o q.0 q.1)))))
  typed_placed s (trees.Binary op l at r) h =
      placed_both (expr_tokens l) (_ ∷ expr_tokens r) (typed_expression s l) (typed_expression s r) (binary_row op at)
      (typed_placed s l h.0) (behind (_ ∷ []) (expr_tokens r) (typed_expression s r) (typed_placed s r h.2))
      (λ x y. binary_plain op at x y)
  typed_placed s (trees.Conditional t q a k b) h =
      placed_both (expr_tokens t) (_ ∷ (expr_tokens a ++ _ ∷ expr_tokens b)) (typed_expression s t)
      (pair (typed_expression s a) (typed_expression s b)) (λ x p. conditional_row q x p.0 p.1) (typed_placed s t h.0)
      (behind (_ ∷ []) (expr_tokens a ++ _ ∷ expr_tokens b) (pair (typed_expression s a) (typed_expression s b))
      (placed_pair (expr_tokens a) (_ ∷ expr_tokens b) (typed_expression s a) (typed_expression s b)
      (typed_placed s a h.2) (behind (_ ∷ []) (expr_tokens b) (typed_expression s b) (typed_placed s b h.3))))
      (λ x p. conditional_plain q x p.0 p.1)
  typed_placed s (trees.Assignment op l at r) h =
      placed_both (expr_tokens l) (_ ∷ expr_tokens r) (typed_expression s l) (typed_expression s r)
      (λ x e. assignment_row op at (place_named x) e)
      (typed_placed s l h.0) (behind (_ ∷ []) (expr_tokens r) (typed_expression s r) (typed_placed s r h.2))
      (λ x y. assignment_plain op at (place_named x) y)

  pub given_placed : (s : Scope) (es : Exprs) (commas : List Span) → AreValues es → Separate es commas
      → PlacedAll (given s es) (exprs_tokens es commas)
  given_placed s NoExpr commas h k = tt
  given_placed s (OneExpr e es) commas h k = (
    expr_tokens e,
    more_tokens es commas,
    refl,
    typed_placed s e h.0,
    (λ z. ranged s e z),
    more_placed s es commas h.2 k,
  )

  more_placed : (s : Scope) (es : Exprs) (commas : List Span) → AreValues es → Follow es commas
      → PlacedAll (given s es) (more_tokens es commas)
  more_placed s NoExpr commas h k = tt
  more_placed s (OneExpr e es) [] h k = absurd k
  more_placed s (OneExpr e es) (at ∷ commas) h k = (
    _ ∷ expr_tokens e,
    more_tokens es commas,
    refl,
    behind (_ ∷ []) (expr_tokens e) (typed_expression s e) (typed_placed s e h.0),
    (λ z. ranged s e z.1),
    more_placed s es commas h.2 k,
  )
