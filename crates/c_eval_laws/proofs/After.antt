-- States that come after one another, and what single changes of a state leave as it was.
use Rattle.std.proofs.Common.{◌≡◌, ℕ, suc, ◌+◌, ℤ, pos, negsuc, List, [], ◌∷◌, ◌++◌, length, set}
use Rattle.std.proofs.Common.{get_or, Bool, true, false, Some, refl, sym, ap, arith, ◌∙◌, append_assoc}
use Rattle.std.proofs.Common.{length-append, ◌≤◌, drop}
use Rattle.std.proofs.lemmas.List.{append-nil, drop-drop, length-drop, length-set, length-replicate}
use Rattle.std.proofs.Math.Seq.{map-set_same, drop-append_seam}
use Rattle.std.specs.Prelude.{if◌then◌else◌, ◌==◌}
use Rattle.pcc_base.specs.Outcome.{ArrayName, Null, Static, InFrame, Unknown, Listing}
use Rattle.c_tree.specs.Evaluation.{text_then_zeros, zeroed}
use Rattle.c_tree.specs.Store.{Activation, Held, State, with_local, with_youngest, youngest, array_named, with_array}
use Rattle.c_tree.specs.Store.{with_array_in, call_of_depth, arrays_in, with_own, with_element, visited}
use Rattle.c_eval_laws.specs.Bounds.{ComesAfter, lengths, sizes, sizes_of}

-- nothing but turns, active calls and elements of objects change
unchanged : (s t : State) → t.turns ≤ s.turns → t.visits ≡ s.visits → t.written ≡ s.written → t.left ≡ s.left
    → t.taken ≡ s.taken → lengths t.objects ≡ lengths s.objects → ComesAfter s t
unchanged s t le v w l n o = record {
  turns = le;
  visits = ([], v ∙ sym (append-nil s.visits));
  written = ([], w ∙ sym (append-nil s.written));
  input = ([], sym l, omega (arith, n));
  objects = o;
}

-- a state comes after itself
pub after-same : (s : State) → ComesAfter s s
after-same s = unchanged s s (omega arith) refl refl refl refl refl

-- what stands behind a list, and more behind that
behind : {A : Type 0} (xs ys zs m n : List A) → ys ≡ xs ++ m → zs ≡ ys ++ n → zs ≡ xs ++ (m ++ n)
behind xs ys zs m n e f = let g = append_assoc xs m n in cc

-- a state comes after what the one before it comes after
pub after-then : (s t u : State) → ComesAfter s t → ComesAfter t u → ComesAfter s u
after-then s t u a b = record {
  turns = omega arith;
  visits = (a.visits.0 ++ b.visits.0, behind s.visits t.visits u.visits _ _ a.visits.1 b.visits.1);
  written = (a.written.0 ++ b.written.0, behind s.written t.written u.written _ _ a.written.1 b.written.1);
  input = (
    a.input.0 ++ b.input.0,
    a.input.1 ∙ ap (λ x. a.input.0 ++ x) b.input.1 ∙ sym (append_assoc a.input.0 b.input.0 u.left),
    omega (arith, length-append a.input.0 b.input.0, a.input.2, b.input.2),
  );
  objects = b.objects ∙ a.objects;
}

-- What is left of the input, and how much of it was taken, stays so.
pub input-stays : (input : List ℕ) (s t : State) → ComesAfter s t → s.left ≡ drop s.taken input
    → s.taken ≤ length input → (t.left ≡ drop t.taken input) × (t.taken ≤ length input)
input-stays input s t h e le =
    let bytes : List ℕ = h.input.0 in
    let f : drop s.taken input ≡ bytes ++ t.left = sym e ∙ h.input.1 in
    let n : length (drop s.taken input) ≡ length bytes + length t.left = ap length f ∙ length-append bytes t.left in (
      sym (ap (λ (k : ℕ). drop k input) h.input.2 ∙ sym (drop-drop (length bytes) s.taken input)
          ∙ ap (λ (xs : List ℕ). drop (length bytes) xs) f ∙ drop-append_seam bytes t.left),
      omega (arith, n, length-drop s.taken input, h.input.2),
    )

-- a state comes after another, and the calls hold as much as before
pub record Follows (s t : State) : Type 0 where
  pub after : ComesAfter s t
  pub same : sizes t.active ≡ sizes s.active

-- a state follows itself
pub follows-same : (s : State) → Follows s s
follows-same s = record { after = after-same s; same = refl }

-- and what the one before it follows
pub follows-then : (s t u : State) → Follows s t → Follows t u → Follows s u
follows-then s t u a b = record { after = after-then s t u a.after b.after; same = b.same ∙ a.same }

-- only the calls change, and each holds as much as before
calls-follow : (s : State) (active : List Activation) → sizes active ≡ sizes s.active
    → Follows s (record s { active = active })
calls-follow s active e = record {
  after = unchanged s _ (omega arith) refl refl refl refl refl;
  same = e;
}

-- ---- a local

-- another value in a local of the youngest call leaves as many
sizes-youngest : (local : ℕ) (value : Held) (active : List Activation) → sizes (with_youngest
    (record { values = set (youngest active).values local value; arrays = (youngest active).arrays }) active)
    ≡ sizes active
sizes-youngest local value [] = refl
sizes-youngest local value (a ∷ others) =
    ap (λ (n : ℕ). (n, lengths a.arrays) ∷ sizes others) (length-set a.values local value)

-- another value in a local
pub local-follows : (local : ℕ) (value : Held) (s : State) → Follows s (with_local local value s)
local-follows local value s = calls-follow s _ (sizes-youngest local value s.active)

-- ---- an array

-- as many elements in an array leave the lengths of all as they were
lengths-set : (arrays : List (List ℤ)) (k : ℕ) (elements : List ℤ) → length elements ≡ length (get_or arrays k [])
    → lengths (set arrays k elements) ≡ lengths arrays
lengths-set arrays k elements e = map-set_same (λ xs. length xs) arrays k elements [] e

-- as many elements in an array of one call, or of those below it
sizes-here : (here : Bool) (k depth : ℕ) (elements : List ℤ) (a : Activation) (others : List Activation)
    → length elements ≡ length (get_or (arrays_in (if here then Some a else call_of_depth others depth)) k [])
    → (length elements ≡ length (get_or (arrays_in (call_of_depth others depth)) k [])
    → sizes (with_array_in k depth elements others) ≡ sizes others)
    → sizes (if here then with_own k elements a ∷ others else a ∷ with_array_in k depth elements others)
    ≡ sizes (a ∷ others)
sizes-here true k depth elements a others e below =
    ap (λ (ns : List ℕ). (length a.values, ns) ∷ sizes others) (lengths-set a.arrays k elements e)
sizes-here false k depth elements a others e below = ap (λ (xs : _). sizes_of a ∷ xs) (below e)

-- as many elements in an array of the call of a depth
sizes-array : (k depth : ℕ) (elements : List ℤ) (active : List Activation)
    → length elements ≡ length (get_or (arrays_in (call_of_depth active depth)) k [])
    → sizes (with_array_in k depth elements active) ≡ sizes active
sizes-array k depth elements [] e = refl
sizes-array k depth elements (a ∷ others) e = sizes-here (depth == suc (length others)) k depth elements a others e
    (sizes-array k depth elements others)

-- as many elements as before in an array
pub array-follows : (array : ArrayName) (elements : List ℤ) (s : State)
    → length elements ≡ length (array_named s array) → Follows s (with_array array elements s)
array-follows Null elements s e = follows-same s
array-follows (Static k) elements s e = record {
  after = unchanged s _ (omega arith) refl refl refl refl (lengths-set s.objects k elements e);
  same = refl;
}
array-follows (InFrame k depth) elements s e = calls-follow s _ (sizes-array k depth elements s.active e)
array-follows Unknown elements s e = follows-same s

-- another element leaves as many
pub length-with_element : (elements : List ℤ) (index value : ℤ)
    → length (with_element elements index value) ≡ length elements
length-with_element elements (pos i) value = length-set elements i value
length-with_element elements (negsuc i) value = refl

-- so does a text with zeros behind it
pub length-text : (elements text : List ℤ) → length (text_then_zeros elements text) ≡ length elements
length-text [] text = refl
length-text (n ∷ ns) [] = ap suc (length-text ns [])
length-text (n ∷ ns) (c ∷ cs) = ap suc (length-text ns cs)

-- and zeros in place of all
pub length-zeroed : (elements : List ℤ) → length (zeroed elements) ≡ length elements
length-zeroed elements = length-replicate (length elements) (pos 0)

-- ---- visits and turns

-- a visit is added
pub visit-follows : (listing : Listing) (statement : ℕ) (s : State) → Follows s (visited listing statement s)
visit-follows listing statement s = record {
  after = record {
    turns = omega arith;
    visits = (_, refl);
    written = ([], sym (append-nil s.written));
    input = ([], refl, omega arith);
    objects = refl;
  };
  same = refl;
}

-- a byte is written
pub written-follows : (byte : ℕ) (s : State) → Follows s (record s { written = s.written ++ byte ∷ [] })
written-follows byte s = record {
  after = record {
    turns = omega arith;
    visits = ([], sym (append-nil s.visits));
    written = (byte ∷ [], refl);
    input = ([], refl, omega arith);
    objects = refl;
  };
  same = refl;
}

-- a byte is taken
pub taken-follows : (byte : ℕ) (bytes : List ℕ) (s : State) → s.left ≡ byte ∷ bytes
    → Follows s (record s { left = bytes; taken = s.taken + 1 })
taken-follows byte bytes s e = record {
  after = record {
    turns = omega arith;
    visits = ([], sym (append-nil s.visits));
    written = ([], sym (append-nil s.written));
    input = (byte ∷ [], e, refl);
    objects = refl;
  };
  same = refl;
}

-- a turn is taken
pub turn-follows : (n : ℕ) (s : State) → s.turns ≡ suc n → Follows s (record s { turns = n })
turn-follows n s e = record {
  after = unchanged s _ (omega (arith, e)) refl refl refl refl refl;
  same = refl;
}
