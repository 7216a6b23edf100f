-- The numbers of elements of frame arrays are stored.
use Rattle.std.proofs.Common.{◌≡◌, ◌⊎◌, ℕ, zero, suc, ◌+◌, ◌-◌, ◌^◌, ◌<◌, ◌≤◌, List, [], ◌∷◌, ◌++◌, pos}
use Rattle.std.proofs.Common.{Some, Ok, inl, inr, refl, sym, subst, ◌∙◌, arith}
use Rattle.std.specs.Prelude.{slice_get}
use Rattle.std.specs.Int.{w32, cast_unsigned}
use Rattle.std.specs.List.{AllByRecursion}
use Rattle.std.proofs.lemmas.Option.{none-some, same_Some}
use Rattle.ia32_insn.specs.declared.register_names.Reg32.TheVariants.{Esp, Ebp}
use Rattle.ia32_insn.specs.declared.item.Item.{Item}
use Rattle.ia32_insn.specs.State.{State}
use Rattle.ia32_insn.specs.Keeps.{AreDisjoint}
use Rattle.ia32_insn.specs.Meaning.{load, word_of}
use Rattle.ia32_rows.specs.Paths.{Comes}
use Rattle.ia32_rows.specs.Sites.{Framed, ReadyAt, Site}
use Rattle.ia32_rows.proofs.Frames.{number-stored}
use Rattle.ia32_rows.proofs.Steps.{comes-not, comes-then}
use Rattle.ia32_laws.specs.Supports.{AreArraysIn, size_of}
use Rattle.ia32_rows.specs.Rows.{headers}

-- the four bytes of the number of each array are apart from so many bytes
abbrev pub HeadersApart : ℕ → List (ℕ × ℕ) → List ℕ → ℕ → ℕ → Type 0
HeadersApart base arrays belows b n =
    (k distance : ℕ) (array : ℕ × ℕ) → slice_get arrays k ≡ Some array → slice_get belows k ≡ Some distance
    → AreDisjoint (base - (distance + 4)) 4 b n

-- The items behind the numbers are ready, and each number stands; all else is as before.
pub record Headed (site : Site) (size : ℕ) (items : List Item) (arrays : List (ℕ × ℕ)) (belows : List ℕ)
    (s u : State) : Type 0 where
  pub comes : Comes site.text s u
  pub ready : ReadyAt site items u
  pub framed : Framed site size u
  pub ebp : word_of Ebp u ≡ word_of Ebp s
  pub esp : word_of Esp u ≡ word_of Esp s
  pub counts : (k distance : ℕ) (array : ℕ × ℕ) → slice_get arrays k ≡ Some array → slice_get belows k ≡ Some distance
      → load 4 (word_of Ebp s - (distance + 4)) u ≡ Ok array.1
  pub kept : (n b w : ℕ) → HeadersApart (word_of Ebp s) arrays belows b n → load n b s ≡ Ok w → load n b u ≡ Ok w
  pub left : u.left ≡ s.left
  pub taken : u.taken ≡ s.taken
  pub written : u.written ≡ s.written

none-headed : (site : Site) (size : ℕ) (items : List Item) (arrays : List (ℕ × ℕ)) (belows : List ℕ) (s : State)
    → Framed site size s → ReadyAt site items s
    → ((k distance : ℕ) (array : ℕ × ℕ) → slice_get arrays k ≡ Some array → slice_get belows k ≡ Some distance → ⊥)
    → Headed site size items arrays belows s s
none-headed site size items arrays belows s framed ready none =
    record {
      comes = comes-not site.text s;
      ready = ready;
      framed = framed;
      ebp = refl;
      esp = refl;
      counts = λ k distance array e f. absurd (none k distance array e f);
      kept = λ n b w apart e. e;
      left = refl;
      taken = refl;
      written = refl;
    }

-- those behind the first
arrays-behind : (array : ℕ × ℕ) (arrays : List (ℕ × ℕ)) (size distance : ℕ) (belows : List ℕ)
    → AreArraysIn (array ∷ arrays) size (distance ∷ belows) → AreArraysIn arrays size belows
arrays-behind array arrays size distance belows h =
    let many = h.as_many in
    record {
      as_many = omega (arith, many);
      inside = λ k d one e f. h.inside (suc k) d one e f;
      apart = λ k l d other one two distinct e f g i.
          h.apart (suc k) (suc l) d other one two (λ same. distinct (omega (arith, same))) e f g i;
    }

-- two numbers of elements are apart
two-apart : (base size d other z y : ℕ) → d + 4 ≤ size → other + 4 ≤ size → size ≤ base
    → (d + 4 + z ≤ other) ⊎ (other + 4 + y ≤ d) → AreDisjoint (base - (other + 4)) 4 (base - (d + 4)) 4
two-apart base size d other z y a b c (inl h) = inl (omega arith)
two-apart base size d other z y a b c (inr h) = inr (omega arith)

pub headers-go : (site : Site) (size : ℕ) (arrays : List (ℕ × ℕ)) (belows : List ℕ) (items : List Item) (s : State)
    → Framed site size s → AreArraysIn arrays size belows → AllByRecursion (λ array. array.1 ≤ 0xffffffff) arrays
    → ReadyAt site (headers arrays belows ++ items) s → (u : State) × Headed site size items arrays belows s u
headers-go site size arrays [] items s framed inside few ready =
    (s, none-headed site size items arrays [] s framed ready (λ k distance array e f. none-some distance f))
headers-go site size [] (d ∷ belows) items s framed inside few ready =
    (s, none-headed site size items [] (d ∷ belows) s framed ready (λ k distance array e f. none-some array e))
headers-go site size (array ∷ arrays) (d ∷ belows) items s framed inside few ready =
    let first = inside.inside 0 d array refl refl in
    let high = first.high in
    let one = few.0 in
    let whole = framed.esp in
    let E : ℕ = word_of Ebp s in
    let p = number-stored site size (headers arrays belows ++ items) (λ b n. AreDisjoint (E - (d + 4)) 4 b n)
    (pos array.1) (d + 4) s framed ready (omega arith) (omega (arith, high)) (fits array.1 one)
    (λ n b k. k) in
    let m : State = p.0 in
    let q = headers-go site size arrays belows items m (p.1).framed (arrays-behind array arrays size d belows inside)
    few.1 (p.1).ready in
    let u : State = q.0 in
    let ebp = (p.1).ebp in
    let inner : (n b w : ℕ) → HeadersApart E arrays belows b n → load n b m ≡ Ok w → load n b u ≡ Ok w =
    λ n b w apart. (q.1).kept n b w (λ k other two e f. subst (λ (base : ℕ). AreDisjoint (base - (other + 4)) 4 b n)
    (sym ebp) (apart k other two e f)) in (
      u,
      record {
        comes = comes-then site.text s m u (p.1).comes (q.1).comes;
        ready = (q.1).ready;
        framed = (q.1).framed;
        ebp = (q.1).ebp ∙ ebp;
        esp = (q.1).esp ∙ (p.1).esp;
        counts = each (word_of Ebp m) m u ebp (inner 4 (E - (d + 4)) array.1 (λ k other two e f.
            two-apart E size d other (size_of two) (size_of array) (omega (arith, high))
            (inside.inside (suc k) other two e f).high (omega (arith, whole))
            (inside.apart 0 (suc k) d other array two (λ same. omega (arith, same)) refl refl e f)) p.2)
            (q.1).counts;
        kept = λ n b w apart e. inner n b w (λ k other two f g. apart (suc k) other two f g)
            ((p.1).kept n b w (apart 0 d array refl refl) e);
        left = (q.1).left ∙ (p.1).left;
        taken = (q.1).taken ∙ (p.1).taken;
        written = (q.1).written ∙ (p.1).written;
      },
    )
  where
    fits : (n : ℕ) → n ≤ 0xffffffff → cast_unsigned w32 (pos n) < 2 ^ 32
    fits n h = omega arith

    each : (base : ℕ) (m u : State) → base ≡ word_of Ebp s → load 4 (word_of Ebp s - (d + 4)) u ≡ Ok array.1
        → ((k distance : ℕ) (one : ℕ × ℕ) → slice_get arrays k ≡ Some one → slice_get belows k ≡ Some distance
        → load 4 (base - (distance + 4)) u ≡ Ok one.1)
        → (k distance : ℕ) (one : ℕ × ℕ) → slice_get (array ∷ arrays) k ≡ Some one
        → slice_get (d ∷ belows) k ≡ Some distance → load 4 (word_of Ebp s - (distance + 4)) u ≡ Ok one.1
    each base m u same here rest zero distance one e f =
        subst (λ (a : ℕ × ℕ). load 4 (word_of Ebp s - (distance + 4)) u ≡ Ok a.1) (same_Some array one e)
        (subst (λ (k : ℕ). load 4 (word_of Ebp s - (k + 4)) u ≡ Ok array.1) (same_Some d distance f) here)
    each base m u same here rest (suc k) distance one e f =
        subst (λ (b : ℕ). load 4 (b - (distance + 4)) u ≡ Ok one.1) same (rest k distance one e f)
