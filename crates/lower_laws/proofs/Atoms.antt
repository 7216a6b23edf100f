-- Constants, locals of type `char`, and `getchar`.
use Rattle.std.proofs.Common.{◌≡◌, ℕ, ◌+◌, ◌<◌, ℤ, pos, negsuc, List, [], ◌∷◌, ◌++◌, Option, Some}
use Rattle.std.proofs.Common.{refl, sym, ap, ◌∙◌, subst, append-nil}
use Rattle.std.specs.Prelude.{slice_get}
use Rattle.std.proofs.lemmas.Option.{same_Some}
use Rattle.pcc_base.specs.Outcome.{Value, Number}
use Rattle.c_tree.specs.declared.types.IntegerType.{IntegerType}
use Rattle.c_tree.specs.declared.types.IntegerType.TheVariants.{Char, Int}
use Rattle.c_tree.specs.declared.types.ValueType.{ValueType}
use Rattle.c_tree.specs.declared.types.ValueType.TheVariants.{Integer}
use Rattle.c_tree.specs.Evaluation.{get_from, type_of}
use Rattle.c_tree.specs.Program.{Local, Function}
use Rattle.c_tree.specs.Store as source
use Rattle.c_tree.specs.Store.{Evaluated, Gives, Held, HoldsNumber, HoldsPointer, converted, held}
use Rattle.flow_graph.specs.declared.op.Op.TheVariants as op
use Rattle.flow_graph.specs.States as graph
use Rattle.flow_graph.specs.States.{number_at, number_of, with_value}
use Rattle.lower_lines.specs.Expressions.{constant_part, getchar_part, local_part}
use Rattle.lower_lines.specs.Following.{Begins, Follows, GivesOf, IsSite, MayWant, Site, Stand, context_of}
use Rattle.lower_lines.specs.Lines.{Line, Emit}
use Rattle.lower_lines.specs.Parts.{Wanted}
use Rattle.lower_lines.specs.Relation.{HoldsAt, IsOf, Keeps}
use Rattle.lower_lines.specs.Shown.{first_variable}
use Rattle.lower_lines.specs.Variables.{Spot, levels_of, local_spot, typed_spot}
use Rattle.lower_lines.proofs.Changes.{bytes-taken, kept-none, locals-held}
use Rattle.lower_lines.proofs.Steps.{const-step, getchar-end, getchar-step, one-step}
use Rattle.lower_laws.proofs.Made.{number-made}
use Rattle.lower_laws.specs.ExpressionsLaws.{CharsLower, ConstantsLower, GetcharLowers}
use Rattle.lower_laws.proofs.Levels.{level-below}

-- the youngest of the active calls is one of the function
pub with-older : (f : Function) (active : List Function) (P : List Function → Type 0) → slice_get active 0 ≡ Some f
    → ((older : List Function) → P (f ∷ older)) → P active
with-older f [] P e all = absurd (cc)
with-older f (h ∷ older) P e all = subst (λ (k : Function). P (k ∷ older)) (sym (same_Some h f e)) (all older)

nothing-seen : {A : Type 0} (xs : List A) → xs ≡ xs ++ []
nothing-seen xs = sym (append-nil xs)

pub constants-lower : ConstantsLower
constants-lower S site t n = record {
  follows = λ active block level wanted before s g stands room may begins.
      with-older S.function active (λ calls. Begins S calls s g → Follows S calls before
      ((constant_part (context_of S) t n).lines block level wanted) level wanted (Integer t) s g
      (Gives (HoldsNumber (converted t n)) s)) begins.youngest
      (λ older b. number-made S site older level before s s g g (converted t n) []
      (λ to. Emit (op.Const to.number (converted t n)) ∷ []) (level-below level (levels_of S.function) room)
      b.shows b.function
      (kept-none _ level g) (nothing-seen s.visits)
      (λ to takes there o r. const-step S site before g b.function to.number (converted t n) s.turns o there takes.0 r)
      block wanted t stands may) begins;
  typed = λ active block level wanted before s g stands room may begins. tt;
  simple = λ e active s g begins. refl;
  stands = λ spot e. absurd (cc);
}

-- a value of an integer type is a number
pub held-number : (vs : List Value) (t : IntegerType) (spot : Spot) (x : Held) → HoldsAt vs (Integer t) spot x
    → (n : ℤ) × (x ≡ HoldsNumber n) × (slice_get vs spot.number ≡ Some (Number n))
held-number vs t spot (HoldsNumber n) h = (n, refl, h)
held-number vs t spot (HoldsPointer array index) h = absurd h

char-follows : (S : Site) (site : IsSite S) (k : ℕ) (l : Local) → slice_get S.function.locals k ≡ Some l
    → l.of ≡ Integer Char → (older : List Function) (block level : ℕ) (wanted : Wanted) (before : List Line)
    (s : source.State) (g : graph.State)
    → Stand S before ((local_part (context_of S) (Integer Char) k).lines block level wanted)
    → level < levels_of S.function → MayWant S wanted (Integer Char) → Begins S (S.function ∷ older) s g
    → Follows S (S.function ∷ older) before ((local_part (context_of S) (Integer Char) k).lines block level wanted)
    level wanted (Integer Char) s g (Gives (held s k) s)
char-follows S site k l e of older block level wanted before s g stands room may b =
    let v = first_variable S.function.locals k in
    let at = (locals-held S.program S.function older s g k l b.shows e).0 in
    let (n, is, there) = held-number g.current.variables Char (typed_spot (Integer Char) v) (held s k)
    (subst (λ (m : ValueType). HoldsAt g.current.variables m (typed_spot m v) (held s k)) of at) in
    let spot : (local_spot (context_of S) k).number ≡ v =
    ap (λ (o : Option Local). (typed_spot (type_of o) v).number) e
    ∙ ap (λ (m : ValueType). (typed_spot m v).number) of in
    let read : number_at g (local_spot (context_of S) k).number ≡ Some n =
    ap (number_at g) spot ∙ ap number_of there in
    subst (λ (x : Held). Follows S (S.function ∷ older) before
    ((local_part (context_of S) (Integer Char) k).lines block level wanted) level wanted (Integer Char) s g (Gives x s))
    (sym is)
    (number-made S site older level before s s g g n []
    (λ to. Emit (op.Wide to.number (local_spot (context_of S) k).number) ∷ []) room b.shows b.function
    (kept-none _ level g) (nothing-seen s.visits)
    (λ to takes here o r. one-step S site before g b.function
    (op.Wide to.number (local_spot (context_of S) k).number) to.number (local_spot (context_of S) k).number (λ m. m) n
    s.turns o here refl refl refl refl read r) block wanted Char stands may)

pub chars-lower : CharsLower
chars-lower S site k l e of = record {
  follows = λ active block level wanted before s g stands room may begins.
      with-older S.function active (λ calls. Begins S calls s g → Follows S calls before
      ((local_part (context_of S) (Integer Char) k).lines block level wanted) level wanted (Integer Char) s g
      (Gives (held s k) s)) begins.youngest
      (λ older b. char-follows S site k l e of older block level wanted before s g stands
      (level-below level (levels_of S.function) room) may b) begins;
  typed = λ active block level wanted before s g stands room may begins.
      with-older S.function active (λ calls. Begins S calls s g → GivesOf S.program calls (Integer Char)
      (Gives (held s k) s)) begins.youngest
      (λ older b. subst (λ (m : ValueType). IsOf S.program (S.function ∷ older) m (held s k)) of
      (locals-held S.program S.function older s g k l b.shows e).1) begins;
  simple = λ same active s g begins. refl;
  stands = λ spot same. absurd (cc);
}

-- what is left of the input decides what `getchar` gives
getchar-follows : (S : Site) (site : IsSite S) (older : List Function) (block level : ℕ) (wanted : Wanted)
    (before : List Line) (s : source.State) (g : graph.State) (left : List ℕ) → s.left ≡ left
    → Stand S before ((getchar_part (context_of S)).lines block level wanted) → level < levels_of S.function
    → MayWant S wanted (Integer Int) → Begins S (S.function ∷ older) s g
    → Follows S (S.function ∷ older) before ((getchar_part (context_of S)).lines block level wanted) level wanted
    (Integer Int) s g (get_from left s)
getchar-follows S site older block level wanted before s g [] e stands room may b =
    number-made S site older level before s s g g (negsuc 0) [] (λ to. Emit (op.Getchar to.number) ∷ []) room b.shows
    b.function (kept-none _ level g) (nothing-seen s.visits)
    (λ to takes here o r. getchar-end S site before g b.function to.number s.turns o here (b.shows.left ∙ e) r) block
    wanted Int stands may
getchar-follows S site older block level wanted before s g (byte ∷ bytes) e stands room may b =
    number-made S site older level before s (record s { left = bytes; taken = s.taken + 1 }) g
    (record g { left = bytes; taken = g.taken + 1 }) (pos byte) [] (λ to. Emit (op.Getchar to.number) ∷ []) room
    (bytes-taken S.program (S.function ∷ older) s g bytes b.shows) b.function (taken-kept _ level g bytes)
    (nothing-seen s.visits)
    (λ to takes here o r. getchar-step S site before g b.function to.number s.turns byte bytes o here
    (b.shows.left ∙ e) r) block wanted Int stands may
  where
    taken-kept : (first level : ℕ) (g : graph.State) (bytes : List ℕ)
        → Keeps first level g (record g { left = bytes; taken = g.taken + 1 })
    taken-kept first level g bytes = let k = kept-none first level g in record {
      function = refl;
      arguments = refl;
      temporaries = λ v low below. refl;
      waiting = k.waiting;
    }

getchar-typed : (S : Site) (active : List Function) (s : source.State) (left : List ℕ)
    → GivesOf S.program active (Integer Int) (get_from left s)
getchar-typed S active s [] = tt
getchar-typed S active s (byte ∷ bytes) = tt

pub getchar-lowers : GetcharLowers
getchar-lowers S site = record {
  follows = λ active block level wanted before s g stands room may begins.
      with-older S.function active (λ calls. Begins S calls s g → Follows S calls before
      ((getchar_part (context_of S)).lines block level wanted) level wanted (Integer Int) s g (get_from s.left s))
      begins.youngest
      (λ older b. getchar-follows S site older block level wanted before s g s.left refl stands
      (level-below level (levels_of S.function) room) may b) begins;
  typed = λ active block level wanted before s g stands room may begins. getchar-typed S active s s.left;
  simple = λ same active s g begins. absurd (cc);
  stands = λ spot same. absurd (cc);
}
