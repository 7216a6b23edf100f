-- A part whose value is a number: what it follows as one integer type it follows as any other, since a variable of
-- width Two holds the number itself.
use Rattle.std.proofs.Common.{◌≡◌, ℕ, ℤ, List, Option, None, Some, refl, sym, subst}
use Rattle.std.specs.Prelude.{slice_get, IsSomeAnd}
use Rattle.c_tree.specs.declared.types.IntegerType.{IntegerType}
use Rattle.c_tree.specs.declared.types.IntegerType.TheVariants.{Char, Short, Int, UnsignedInt}
use Rattle.c_tree.specs.declared.types.ValueType.{ValueType}
use Rattle.c_tree.specs.declared.types.ValueType.TheVariants.{Void, Integer, Pointer}
use Rattle.c_tree.specs.Operators.{promoted}
use Rattle.c_tree.specs.Program.{Local, Function}
use Rattle.c_tree.specs.Store as source
use Rattle.c_tree.specs.Store.{Evaluated, Gives, Ends, Held, HoldsNumber, HoldsPointer, converted}
use Rattle.flow_graph.specs.States as graph
use Rattle.lower_lines.specs.Following.{Follows, GivesOf, GoesInto, HoldsWanted, Lowers, MayWant, Site}
use Rattle.lower_lines.specs.Lines.{Line}
use Rattle.lower_lines.specs.Parts.{Wanted, Dropped, Own, ToLocal, Tests, Part, retyped}
use Rattle.lower_lines.specs.Relation.{IsOf}
use Rattle.lower_lines.specs.Variables.{Spot}
use Rattle.lower_laws.proofs.Made.{some-and}
use Rattle.lower_laws.proofs.Operands.{integer-not-void}

-- ---- one integer type is as good as another

goes-into-any : (t u : IntegerType) (of : ValueType) → GoesInto (Integer t) of → GoesInto (Integer u) of
goes-into-any t u Void h = absurd h
goes-into-any t u (Integer Char) h = absurd h
goes-into-any t u (Integer Short) h = tt
goes-into-any t u (Integer Int) h = tt
goes-into-any t u (Integer UnsignedInt) h = tt
goes-into-any t u (Pointer w) h = absurd h

pub may-any : (S : Site) (wanted : Wanted) (t u : IntegerType) → MayWant S wanted (Integer t)
    → MayWant S wanted (Integer u)
may-any S Dropped t u may = tt
may-any S Own t u may = integer-not-void u
may-any S (ToLocal k) t u may =
    let (l, e, into) = some-and (slice_get S.function.locals k) (λ m. GoesInto (Integer t) m.of) may in
    subst (λ (o : Option Local). IsSomeAnd o (λ m. GoesInto (Integer u) m.of)) (sym e) (goes-into-any t u l.of into)
may-any S (Tests yes' no') t u may = (integer-not-void u, may.1, may.2)

holds-any : (S : Site) (level : ℕ) (wanted : Wanted) (t u : IntegerType) (h : graph.State) (v : Held)
    → HoldsWanted S level wanted (Integer t) h v → HoldsWanted S level wanted (Integer u) h v
holds-any S level Dropped t u h v holds = tt
holds-any S level Own t u h (HoldsNumber n) holds = holds
holds-any S level Own t u h (HoldsPointer array index) holds = absurd holds
holds-any S level (ToLocal k) t u h v holds = tt
holds-any S level (Tests yes' no') t u h v holds = tt

is-any : (S : Site) (active : List Function) (t u : IntegerType) (v : Held) → IsOf S.program active (Integer t) v
    → IsOf S.program active (Integer u) v
is-any S active t u (HoldsNumber n) is = tt
is-any S active t u (HoldsPointer array index) is = absurd is

pub gives-any : (S : Site) (active : List Function) (t u : IntegerType) (r : Evaluated Held)
    → GivesOf S.program active (Integer t) r → GivesOf S.program active (Integer u) r
gives-any S active t u (Ends end w) typed = tt
gives-any S active t u (Gives v w) typed = is-any S active t u v typed

pub follows-any : (S : Site) (active : List Function) (before lines : List Line) (level : ℕ) (wanted : Wanted)
    (t u : IntegerType) (s : source.State) (g : graph.State) (r : Evaluated Held)
    → Follows S active before lines level wanted (Integer t) s g r
    → Follows S active before lines level wanted (Integer u) s g r
follows-any S active before lines level wanted t u s g (Ends end w) ends = ends
follows-any S active before lines level wanted t u s g (Gives v w) (h, us, shows, keeps, holds, seen, goes) =
    (h, us, shows, keeps, holds-any S level wanted t u h v holds, seen, goes)

pub retyped-lowers : (S : Site) (a : Part) (run : source.State → Evaluated Held) (t u : IntegerType)
    → a.of ≡ Integer t → a.stands ≡ None → Lowers S a run → Lowers S (retyped u a) run
retyped-lowers S a run t u of nowhere lowers = record {
  follows = λ active block level wanted before s g stands room may b.
      follows-any S active before (a.lines block level wanted) level wanted t u s g (run s)
      (subst (λ (p : ValueType). Follows S active before (a.lines block level wanted) level wanted p s g (run s)) of
      (lowers.follows active block level wanted before s g stands room (as_before wanted may) b));
  typed = λ active block level wanted before s g stands room may b.
      gives-any S active t u (run s) (subst (λ (p : ValueType). GivesOf S.program active p (run s)) of
      (lowers.typed active block level wanted before s g stands room (as_before wanted may) b));
  simple = lowers.simple;
  stands = λ spot same. absurd (never a.stands spot nowhere same);
}
  where
    as_before : (wanted : Wanted) → MayWant S wanted (Integer u) → MayWant S wanted a.of
    as_before wanted may = subst (λ (p : ValueType). MayWant S wanted p) (sym of) (may-any S wanted u t may)

    never : (o : Option Spot) (spot : Spot) → o ≡ None → o ≡ Some spot → ⊥
    never o spot e f = cc

-- ---- types that numbers are promoted to

-- every number is one of the type
abbrev pub HasAll : IntegerType → Type 0
HasAll w = (n : ℤ) → converted w n ≡ n

pub promoted-all : (t : IntegerType) → HasAll (promoted t)
promoted-all Char n = refl
promoted-all Short n = refl
promoted-all Int n = refl
promoted-all UnsignedInt n = refl
