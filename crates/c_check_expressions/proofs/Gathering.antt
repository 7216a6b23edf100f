-- Arguments, one behind the other.
use Rattle.std.proofs.Common.{◌≡◌, refl, sym, ap, ◌∙◌, subst, List, [], ◌∷◌, ◌++◌, drop, slice_get, map, Option, Some}
use Rattle.std.proofs.Common.{None, Bool, true, false, ◌&&◌, ℕ, zero, suc}
use Rattle.std.proofs.lemmas.List.{append-nil, append_assoc, map-append}
use Rattle.std.specs.Prelude.{Vec}
use Rattle.std.specs.declared.alloc.Global.{Global}
use Rattle.pcc_base.specs.declared.fault.Fault.{Fault}
use Rattle.c_syntax.specs.declared.expression.Expression.{Expression as Raw}
use Rattle.c_syntax.specs.Expressions.{expr_of, exprs_of}
use Rattle.c_tree.specs.declared.expression.Expression.{Expression as Built}
use Rattle.c_tree.specs.declared.expression.Expression.{Row_of-Expression, end_of-Expression, more_of-Expression}
use Rattle.c_tree.specs.declared.expression.Expression.{items-the_row-Expression}
use Rattle.c_tree.specs.declared.types.ValueType.{ValueType}
use Rattle.c_tree.specs.Erased.{boxed_of, expression_of, arguments_of}
use Rattle.c_tree.specs.Program.{Expression, Arguments, NoMore, Argument}
use Rattle.c_typing.specs.Faults.{least}
use Rattle.c_typing.specs.Checked.{Checked, Fits, Fails, Note, both, fits, if_fits, pair}
use Rattle.c_typing.specs.Expressions.{Given, given, arguments_for, have_types, has_type}
use Rattle.c_typing.specs.Names.{Scope}
use Rattle.c_check_expressions.specs.declared.judged.Judged.{Judged}
use Rattle.c_check_expressions.specs.declared.judged.Judged.TheVariants as answers
use Rattle.c_check_expressions.specs.declared.judged.Operand.{Operand}
use Rattle.c_check_expressions.specs.Judged.{IsOperandOf, joined_answers}
use Rattle.c_check_expressions.specs.Parts.{Stands}
use Rattle.c_check_expressions.proofs.Together.{pair_stands}
use Rattle.c_check_expressions.specs.Said.{IsGrown, IsSaid}
use Rattle.c_check_expressions.proofs.Answered.{grown_pair, grown_row}
use Rattle.c_check_expressions.specs.Arguments.{before_others, AreTrees, AreArguments, for_parameter, one_behind, given_of}

-- what was judged before other arguments
abbrev pub rejoined : Checked (List Expression) → Checked Arguments → Checked Arguments
rejoined front rest = both front rest (λ es others. fits (before_others es others))

abbrev pub argument_before : Checked Expression → Checked Arguments → Checked Arguments
argument_before c rest = both c rest (λ e es. fits (Argument e es))

behind_before : (es : List Expression) (e : Expression) (others : Arguments)
    → before_others (es ++ e ∷ []) others ≡ before_others es (Argument e others)
behind_before [] e others = refl
behind_before (x ∷ xs) e others = ap (Argument x) (behind_before xs e others)

-- what fits is its tree and its notes
pub fits_same : {A : Type 0} (a b : A) (ns ms : List Note) → a ≡ b → ns ≡ ms → Fits a ns ≡ Fits b ms
fits_same a b ns ms h k = ap (λ x. Fits x ns) h ∙ ap (Fits b) k

pub next_rejoined : (front : Checked (List Expression)) (c : Checked Expression) (rest : Checked Arguments)
    → rejoined (one_behind front c) rest ≡ rejoined front (argument_before c rest)
next_rejoined (Fits es ns) (Fits e ms) (Fits others ks) =
    fits_same (before_others (es ++ e ∷ []) others) (before_others es (Argument e others))
    ((((ns ++ ms) ++ []) ++ ks) ++ []) ((ns ++ ((ms ++ ks) ++ [])) ++ [])
    (behind_before es e others)
    (ap (λ xs. xs ++ []) (ap (λ xs. xs ++ ks) (append-nil (ns ++ ms)) ∙ append_assoc ns ms ks
    ∙ ap (λ xs. ns ++ xs) (sym (append-nil (ms ++ ks)))))
next_rejoined (Fits es ns) (Fits e ms) (Fails h hs) = refl
next_rejoined (Fits es ns) (Fails g gs) (Fits others ks) = refl
next_rejoined (Fits es ns) (Fails g gs) (Fails h hs) = refl
next_rejoined (Fails f fs) (Fits e ms) (Fits others ks) = ap (λ xs. Fails f (xs ++ [])) (append-nil fs)
next_rejoined (Fails f fs) (Fits e ms) (Fails h hs) = ap (λ xs. Fails f (xs ++ h ∷ hs)) (append-nil fs)
next_rejoined (Fails f fs) (Fails g gs) (Fits others ks) = ap (Fails f) (append_assoc fs (g ∷ gs) [])
next_rejoined (Fails f fs) (Fails g gs) (Fails h hs) = ap (Fails f) (append_assoc fs (g ∷ gs) (h ∷ hs))

first_rejoined : (rest : Checked Arguments) → rejoined (fits []) rest ≡ rest
first_rejoined (Fits others ks) = ap (Fits others) (append-nil ks)
first_rejoined (Fails h hs) = refl

last_rejoined : (front : Checked (List Expression)) (values : Judged (Vec Built Global)) (before after : List Note)
    → IsSaid AreTrees front values before after → IsSaid AreArguments (rejoined front (fits NoMore)) values before after
last_rejoined (Fits es ns) (answers.Fits v) before after said = (
  ap (λ xs. before_others xs NoMore) said.0,
  said.1 ∙ ap (λ xs. before ++ xs) (sym (append-nil (ns ++ []) ∙ append-nil ns)),
)
last_rejoined (Fits es ns) (answers.Fails f) before after said = absurd said.0
last_rejoined (Fails g gs) (answers.Fits v) before after said = absurd said.0
last_rejoined (Fails g gs) (answers.Fails f) before after said =
    (ap (λ xs. least (g ∷ xs)) (append-nil gs) ∙ said.0, tt)

-- ---- one more behind others

abbrev pub AreBehind : List Expression × Expression → Vec Built Global × Operand → Type 0
AreBehind p q = AreTrees p.0 q.0 × IsOperandOf p.1 q.1

trees_behind : (c : Checked (List Expression × Expression)) (v more : Vec Built Global) (o : Operand)
    → Stands AreBehind c (answers.Fits (v, o)) → more.items ≡ v.items ++ o.tree.value ∷ []
    → Stands AreTrees (if_fits c (λ p. fits (p.0 ++ p.1 ∷ []))) (answers.Fits more)
trees_behind (Fits p ns) v more o h is =
    ap (map expression_of) is ∙ map-append expression_of v.items (o.tree.value ∷ [])
    ∙ ap (λ xs. xs ++ boxed_of o.tree ∷ []) h.0 ∙ ap (λ x. p.0 ++ x ∷ []) h.1.0
trees_behind (Fails f fs) v more o h is = absurd h

fault_behind : (c : Checked (List Expression × Expression)) (f : Fault) → Stands AreBehind c (answers.Fails f)
    → Stands AreTrees (if_fits c (λ p. fits (p.0 ++ p.1 ∷ []))) (answers.Fails f)
fault_behind (Fits p ns) f h = absurd h
fault_behind (Fails g gs) f h = h

module _ (front : Checked (List Expression)) (c : Checked Expression) (values : Judged (Vec Built Global))
    (part : Judged Operand) where
  grown_behind : (before between after : List Note) → IsSaid AreTrees front values before between
      → IsSaid IsOperandOf c part between after → IsGrown (one_behind front c) before after
  grown_behind before between after x y = grown_row (λ p. fits (p.0 ++ p.1 ∷ [])) (pair front c) before after
      (λ p. refl)
      (grown_pair front c before between after x.1 y.1)

  pub behind_fails : (f : Fault) (before between after : List Note) → IsSaid AreTrees front values before between
      → IsSaid IsOperandOf c part between after → joined_answers values part ≡ answers.Fails f
      → IsSaid AreTrees (one_behind front c) (answers.Fails f) before after
  behind_fails f before between after x y is = (
    fault_behind (pair front c) f (subst (Stands AreBehind (pair front c)) is
        (pair_stands AreTrees IsOperandOf front c values part x.0 y.0)),
    grown_behind before between after x y,
  )

  pub behind_fits : (v : Vec Built Global) (o : Operand) (more : Vec Built Global) (before between after : List Note)
      → IsSaid AreTrees front values before between → IsSaid IsOperandOf c part between after
      → joined_answers values part ≡ answers.Fits (v, o) → more.items ≡ v.items ++ o.tree.value ∷ []
      → IsSaid AreTrees (one_behind front c) (answers.Fits more) before after
  behind_fits v o more before between after x y is items = (
    trees_behind (pair front c) v more o (subst (Stands AreBehind (pair front c)) is
        (pair_stands AreTrees IsOperandOf front c values part x.0 y.0)) items,
    grown_behind before between after x y,
  )

-- ---- parameters

abbrev head_of : List ValueType → Option ValueType
head_of [] = None
head_of (t ∷ ts) = Some t

abbrev behind_head : List ValueType → List ValueType
behind_head [] = []
behind_head (t ∷ ts) = ts

next_argument : (types : List ValueType) (g : Given) (gs : List Given) → arguments_for types (g ∷ gs)
    ≡ argument_before (for_parameter (head_of types) g.at g.value) (arguments_for (behind_head types) gs)
next_argument [] g gs = refl
next_argument (t ∷ ts) g gs = refl

head_at : (types : List ValueType) (i : ℕ) → head_of (drop i types) ≡ slice_get types i
head_at [] zero = refl
head_at [] (suc i) = refl
head_at (t ∷ ts) zero = refl
head_at (t ∷ ts) (suc i) = head_at ts i

behind_at : (types : List ValueType) (i : ℕ) → behind_head (drop i types) ≡ drop (suc i) types
behind_at [] zero = refl
behind_at [] (suc i) = refl
behind_at (t ∷ ts) zero = refl
behind_at (t ∷ ts) (suc i) = behind_at ts i

last_argument : (types : List ValueType) → arguments_for types [] ≡ fits NoMore
last_argument [] = refl
last_argument (t ∷ ts) = refl

-- ---- what is known behind so many arguments

pub record Gathered (parameters : List ValueType) (all : List Given) (i : ℕ) (values : Judged (Vec Built Global))
    (typed : Bool) (before after : List Note) : Type 0 where
  pub front : Checked (List Expression)
  pub said : IsSaid AreTrees front values before after
  pub types : (typed && have_types (drop i all)) ≡ have_types all
  pub same : rejoined front (arguments_for (drop i parameters) (drop i all)) ≡ arguments_for parameters all

pub gathered_none : (parameters : List ValueType) (all : List Given) (values : Judged (Vec Built Global))
    (typed : Bool) (before : List Note) → IsSaid AreTrees (fits []) values before before → typed ≡ true
    → Gathered parameters all zero values typed before before
gathered_none parameters all values typed before said is = record {
  front = fits [];
  said = said;
  types = ap (λ b. b && have_types all) is;
  same = first_rejoined (arguments_for parameters all);
}

and_assoc : (a b c : Bool) → ((a && b) && c) ≡ (a && (b && c))
and_assoc true b c = refl
and_assoc false b c = refl

and_true : (a : Bool) → (a && true) ≡ a
and_true true = refl
and_true false = refl

pub gathered_more : (parameters : List ValueType) (all : List Given) (i : ℕ) (g : Given)
    (values more : Judged (Vec Built Global)) (typed now : Bool) (before between after : List Note)
    → drop i all ≡ g ∷ drop (suc i) all
    → ((front : Checked (List Expression)) → IsSaid AreTrees front values before between
    → IsSaid AreTrees (one_behind front (for_parameter (slice_get parameters i) g.at g.value)) more before after)
    → now ≡ (typed && has_type g.value)
    → Gathered parameters all i values typed before between
    → Gathered parameters all (suc i) more now before after
gathered_more parameters all i g values more typed now before between after part step typed_is so_far =
    let c = for_parameter (slice_get parameters i) g.at g.value in
    let rest = arguments_for (drop (suc i) parameters) (drop (suc i) all) in record {
      front = one_behind so_far.front c;
      said = step so_far.front so_far.said;
      types = ap (λ b. b && have_types (drop (suc i) all)) typed_is
          ∙ and_assoc typed (has_type g.value) (have_types (drop (suc i) all))
          ∙ ap (λ gs. typed && have_types gs) (sym part) ∙ so_far.types;
      same = next_rejoined so_far.front c rest
          ∙ ap (rejoined so_far.front) (sym (ap (arguments_for (drop i parameters)) part
          ∙ next_argument (drop i parameters) g (drop (suc i) all)
          ∙ ap (λ o. argument_before (for_parameter o g.at g.value)
          (arguments_for (behind_head (drop i parameters)) (drop (suc i) all))) (head_at parameters i)
          ∙ ap (λ ts. argument_before c (arguments_for ts (drop (suc i) all))) (behind_at parameters i)))
          ∙ so_far.same;
    }

pub gathered_all : (parameters : List ValueType) (all : List Given) (i : ℕ) (values : Judged (Vec Built Global))
    (typed : Bool) (before after : List Note) → drop i all ≡ [] → Gathered parameters all i values typed before after
    → IsSaid AreArguments (arguments_for parameters all) values before after × (typed ≡ have_types all)
gathered_all parameters all i values typed before after none g = (
  subst (λ c. IsSaid AreArguments c values before after)
      (ap (rejoined g.front) (sym (ap (arguments_for (drop i parameters)) none ∙ last_argument (drop i parameters)))
      ∙ g.same) (last_rejoined g.front values before after g.said),
  sym (and_true typed) ∙ sym (ap (λ gs. typed && have_types gs) none) ∙ g.types,
)

-- ---- the arguments of a raw tree

pub given_all : (s : Scope) (es : List Raw) → given s (exprs_of (map expr_of es)) ≡ map (given_of s) es
given_all s [] = refl
given_all s (e ∷ es) = ap (λ gs. given_of s e ∷ gs) (given_all s es)

-- a row of arguments as a list
pub row_is : {m : _} (row : Row_of-Expression m)
    → arguments_of row ≡ before_others (map expression_of (items-the_row-Expression m row)) NoMore
row_is end_of-Expression = refl
row_is (more_of-Expression e rest) = ap (Argument (expression_of e)) (row_is rest)
