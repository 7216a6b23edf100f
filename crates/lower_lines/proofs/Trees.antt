-- The blocks of every typed expression: its lines start each of them once, and close what they open.
use Rattle.std.proofs.Common.{List, [], ◌∷◌, refl, sym, subst, take}
use Rattle.std.specs.Prelude.{slice_get}
use Rattle.std.specs.List.{All, AllByRecursion}
use Rattle.std.proofs.lemmas.List.Elements.{recursion_from_All}
use Rattle.pcc_base.proofs.Lists.{all-at}
use Rattle.c_tree.specs.declared.types.ValueType.{ValueType}
use Rattle.c_tree.specs.declared.types.ValueType.TheVariants.{Integer, Pointer}
use Rattle.c_tree.specs.declared.expression.BinaryOp.TheVariants.{Add}
use Rattle.c_tree.specs.Program.{value_type, Expression, Constant, Start, Read, Address, Unary, Binary, And, Or}
use Rattle.c_tree.specs.Program.{Conditional, Cast, Assign, Update, Step, Comma, Call, Putchar, Getchar, Exit, Place}
use Rattle.c_tree.specs.Program.{LocalPlace, StaticPlace, Target, Element, Local, Function, Program, Arguments}
use Rattle.c_tree.specs.Program.{Argument, NoMore}
use Rattle.c_tree.specs.WellTyped.{AreArguments, IsPlace, IsResult, IsScalar, IsTyped, IsTypedFunction}
use Rattle.flow_graph.specs.declared.op.Op.TheVariants as op
use Rattle.lower_lines.specs.Expressions.{all_passed, parameters_of}
use Rattle.lower_lines.specs.Expressions.{part_of, parts_of, place_of}
use Rattle.lower_lines.specs.Variables.{Context}
use Rattle.lower_lines.proofs.Constructs.{IsLaid, IsLaidPlace, Turns, address-laid, all-passed-laid, and-laid}
use Rattle.lower_lines.proofs.Constructs.{assign-laid, binary-laid, call-laid, cast-laid, comma-laid}
use Rattle.lower_lines.proofs.Constructs.{conditional-laid}
use Rattle.lower_lines.proofs.Constructs.{constant-laid, element-laid, exit-laid, getchar-laid, number-laid, or-laid}
use Rattle.lower_lines.proofs.Constructs.{read-laid, start-laid, step-laid, target-laid, unary-laid, update-laid}
use Rattle.lower_lines.proofs.Types.{binary-scalars, cast-turns, conditional-turns, part-type}
use Rattle.lower_lines.proofs.Types.{place-scalar, some-and, unary-scalar, update-scalars}

module _ (p : Program) (f : Function) (all : All (IsTypedFunction p) p.functions) (typed : IsTypedFunction p f) where
  abbrev c : Context
  c = record { program = p; function = f }

  -- the type of a part is the expression's
  pub scalar-part : (e : Expression) → IsTyped p f e → IsScalar (value_type e) → IsScalar (part_of c e).of
  scalar-part e h s = subst (λ (o : ValueType). IsScalar o) (sym (part-type p f e h)) s

  pub turns-part : (of : ValueType) (e : Expression) → IsTyped p f e → Turns of (value_type e)
      → Turns of (part_of c e).of
  turns-part of e h s = subst (λ (o : ValueType). Turns of o) (sym (part-type p f e h)) s

  mutual
    pub laid : (e : Expression) → IsTyped p f e → IsLaid (part_of c e)
    laid (Constant of n) h = constant-laid c of n
    laid (Start element array) h = start-laid c element array
    laid (Read of place) h = read-laid c of (place_of c place) (laid-place place of h)
    laid (Address element place) h = address-laid c element (place_of c place) (laid-place place (Integer element) h.1)
    laid (Unary of operator e) h = unary-laid c of operator (part_of c e) (laid e h.0)
        (scalar-part e h.0 (unary-scalar operator (value_type e) of h.1))
    laid (Binary of operator a b) h =
        let (s, t) = binary-scalars operator (value_type a) (value_type b) of h.2 in
        binary-laid c of operator (part_of c a) (part_of c b) (laid a h.0) (laid b h.1)
        (scalar-part a h.0 s) (scalar-part b h.1 t)
    laid (And a b) h = and-laid c (part_of c a) (part_of c b) (laid a h.0) (laid b h.2)
        (scalar-part a h.0 h.1) (scalar-part b h.2 h.3)
    laid (Or a b) h = or-laid c (part_of c a) (part_of c b) (laid a h.0) (laid b h.2)
        (scalar-part a h.0 h.1) (scalar-part b h.2 h.3)
    laid (Conditional of t a b) h =
        let (m, n) = conditional-turns (value_type a) (value_type b) of h.4 in
        conditional-laid c of (part_of c t) (part_of c a) (part_of c b) (laid t h.0) (laid a h.2) (laid b h.3)
        (scalar-part t h.0 h.1) (turns-part of a h.2 m) (turns-part of b h.3 n)
    laid (Cast to e) h = cast-laid c to (part_of c e) (laid e h.0)
        (turns-part to e h.0 (cast-turns to (value_type e) h.1))
    laid (Assign of place e) h = assign-laid c of (place_of c place) (part_of c e) (laid-place place of h.0)
        (laid e h.1)
    laid (Update of operator place e) h =
        let (s, t) = update-scalars operator of (value_type e) h.2 in
        update-laid c of operator (place_of c place) (part_of c e) (laid-place place of h.0) (laid e h.1) s
        (scalar-part e h.1 t)
    laid (Step of operator place) h = step-laid c of operator (place_of c place) (laid-place place of h)
        (place-scalar p f typed place of h)
    laid (Comma a b) h = comma-laid (part_of c a) (part_of c b) (laid a h.0) (laid b h.1)
    laid (Call of k arguments) h =
        let (g, at, (is, are)) = some-and (slice_get p.functions k) _ h in
        call-laid c of k (all_passed c (parameters_of (slice_get p.functions k)) (parts_of c arguments))
        (all-passed-laid c (parameters_of (slice_get p.functions k)) (parts_of c arguments)
        (laid-all (take g.parameters g.locals) arguments are))
        (subst (λ (o : ValueType). IsResult o) is
        (all-at (IsTypedFunction p) p.functions k g (recursion_from_All (IsTypedFunction p) p.functions all) at).result)
    laid (Putchar e) h = number-laid c op.Putchar (part_of c e) (λ d s. refl) (laid e h.0)
    laid Getchar h = getchar-laid c
    laid (Exit e) h = exit-laid c (part_of c e) (laid e h.0)

    pub laid-place : (place : Place) (of : ValueType) → IsPlace p f place of → IsLaidPlace (place_of c place)
    laid-place (LocalPlace v) of h = tt
    laid-place (StaticPlace k) of h = tt
    laid-place (Target element e) of h = target-laid c (part_of c e) (laid e h.0)
        (scalar-part e h.0 (subst (λ (o : ValueType). IsScalar o) (sym h.1) tt))
    laid-place (Element element a i) of h =
        let (s, t) = binary-scalars Add (value_type a) (value_type i) (Pointer element) h.2 in
        element-laid c element (part_of c a).of (part_of c a) (part_of c i) (laid a h.0) (laid i h.1)
        (scalar-part a h.0 s) (scalar-part i h.1 t)

    pub laid-all : (parameters : List Local) (arguments : Arguments) → AreArguments p f parameters arguments
        → AllByRecursion IsLaid (parts_of c arguments)
    laid-all parameters NoMore h = tt
    laid-all [] (Argument e es) h = absurd h
    laid-all (l ∷ ls) (Argument e es) h = (laid e h.0, laid-all ls es h.2)
