-- Labels of a switch, and the blocks of the statements that have them.
use Rattle.std.proofs.Common.{◌≡◌, ℕ, zero, suc, ◌+◌, ◌<◌, ◌≤◌, List, [], ◌∷◌, ◌++◌, refl, sym, ap, ◌∙◌, arith}
use Rattle.std.proofs.Common.{drop, length, Option, Some, None, Bool, true, false}
use Rattle.std.specs.Prelude.{get_or, if◌then◌else◌}
use Rattle.std.proofs.lemmas.Option.{same_Some}
use Rattle.c_tree.specs.declared.statement.Label.{Label}
use Rattle.lower.specs.LabelStarts.{AreStarts}
use Rattle.lower.specs.StartedBlocks.{starts_at}
use Rattle.lower_lines.specs.Statements.{has_label, labelled_before, labelled_from}

pub one-of : {A : Type 0} (xs : List A) (i : ℕ) (d : A) → i < length xs
    → drop i xs ≡ get_or xs i d ∷ drop (i + 1) xs
one-of {A} xs i d there =
    let plus : suc i ≡ i + 1 = omega arith in
    first xs i there ∙ ap (λ (n : ℕ). get_or xs i d ∷ drop n xs) plus
  where
    first : (xs : List A) (i : ℕ) → i < length xs → drop i xs ≡ get_or xs i d ∷ drop (suc i) xs
    first [] i there = absurd (omega (arith, there))
    first (y ∷ ys) zero there = refl
    first (y ∷ ys) (suc i) there = first ys i (omega (arith, there))

pub none-of : {A : Type 0} (xs : List A) (i : ℕ) → length xs ≤ i → drop i xs ≡ []
none-of [] zero w = refl
none-of [] (suc i) w = refl
none-of (x ∷ xs) zero w = absurd (omega (arith, w))
none-of (x ∷ xs) (suc i) w = none-of xs i (omega (arith, w))

-- ---- blocks by places

pub start-before : (starts more : List (Option ℕ)) (p : ℕ) → p < length starts
    → starts_at (starts ++ more) p ≡ starts_at starts p
start-before [] more p there = absurd (omega (arith, there))
start-before (x ∷ xs) more zero there = refl
start-before (x ∷ xs) more (suc p) there = start-before xs more p (omega (arith, there))

pub start-last : (starts : List (Option ℕ)) (x : Option ℕ) → starts_at (starts ++ x ∷ []) (length starts) ≡ x
start-last [] x = refl
start-last (y ∷ ys) x = start-last ys x

no-start : (starts : List (Option ℕ)) (p block : ℕ) → length starts ≤ p → starts_at starts p ≡ Some block → ⊥
no-start [] p block w e = cc
no-start (x ∷ xs) zero block w e = omega (arith, w)
no-start (x ∷ xs) (suc p) block w e = no-start xs p block (omega (arith, w)) e

-- ---- the blocks that statements start

started-in : (starts : List (Option ℕ)) (f : ℕ → Option ℕ) (p block : ℕ)
    → ((q : ℕ) → q < length starts → starts_at starts q ≡ f q) → starts_at starts p ≡ Some block → f p ≡ Some block
started-in [] f p block h e = absurd (none-some e)
  where
    none-some : {n : ℕ} → None ≡ Some n → ⊥
    none-some e = cc
started-in (x ∷ xs) f zero block h e = sym (h zero (omega arith)) ∙ e
started-in (x ∷ xs) f (suc p) block h e =
    started-in xs (λ (q : ℕ). f (suc q)) p block (λ q there. h (suc q) (omega (arith, there))) e

chosen : (q : Bool) (x block : ℕ) → (if q then Some x else None) ≡ Some block → block ≡ x
chosen true x block e = sym (same_Some x block e)
chosen false x block e = absurd (none-some e)
  where
    none-some : {n : ℕ} → None ≡ Some n → ⊥
    none-some e = cc

pub found : (first : ℕ) (labels : List Label) (starts : List (Option ℕ)) (n place : ℕ) → length starts ≡ place
    → place ≤ n → ((p : ℕ) → p < place → starts_at starts p ≡ labelled_from first labels p)
    → AreStarts first labels starts
found first labels starts n place size bound h p block e =
    chosen (has_label labels p) (first + labelled_before labels p) block
    (started-in starts (λ (q : ℕ). labelled_from first labels q) p block
    (λ q there. h q (omega (arith, there, size))) e)

-- one statement more, which has a label or none
pub count-more : (labels : List Label) (place count : ℕ) → has_label labels place ≡ true
    → count ≡ labelled_before labels place → count + 1 ≡ labelled_before labels (place + 1)
count-more labels place count h e =
    let plus : suc place ≡ place + 1 = omega arith in
    ap (λ (k : ℕ). k + 1) e ∙ ap (λ (q : Bool). labelled_before labels place + (if q then 1 else 0)) (sym h)
    ∙ ap (λ (k : ℕ). labelled_before labels k) plus

pub count-same : (labels : List Label) (place count : ℕ) → has_label labels place ≡ false
    → count ≡ labelled_before labels place → count ≡ labelled_before labels (place + 1)
count-same labels place count h e =
    let plus : suc place ≡ place + 1 = omega arith in
    let none : labelled_before labels place ≡ labelled_before labels place + 0 = omega arith in
    e ∙ none ∙ ap (λ (q : Bool). labelled_before labels place + (if q then 1 else 0)) (sym h)
    ∙ ap (λ (k : ℕ). labelled_before labels k) plus

pub label-there : (first : ℕ) (labels : List Label) (place count block : ℕ) → has_label labels place ≡ true
    → count ≡ labelled_before labels place → block ≡ first + count → Some block ≡ labelled_from first labels place
label-there first labels place count block h e is =
    ap Some (is ∙ ap (λ (k : ℕ). first + k) e)
    ∙ ap (λ (q : Bool). if q then Some (first + labelled_before labels place) else None) (sym h)

pub label-none : (first : ℕ) (labels : List Label) (place : ℕ) → has_label labels place ≡ false
    → None ≡ labelled_from first labels place
label-none first labels place h =
    ap (λ (q : Bool). if q then Some (first + labelled_before labels place) else None) (sym h)

last-of : (f : ℕ → Option ℕ) (starts : List (Option ℕ)) (x : Option ℕ)
    → ((p : ℕ) → p < length starts → starts_at starts p ≡ f p) → x ≡ f (length starts)
    → (p : ℕ) → p < suc (length starts) → starts_at (starts ++ x ∷ []) p ≡ f p
last-of f [] x h e zero there = e
last-of f [] x h e (suc p) there = absurd (omega (arith, there))
last-of f (y ∷ ys) x h e zero there = h zero (omega arith)
last-of f (y ∷ ys) x h e (suc p) there =
    last-of (λ (q : ℕ). f (suc q)) ys x (λ q within. h (suc q) (omega (arith, within))) e p (omega (arith, there))

pub starts-more : (first : ℕ) (labels : List Label) (starts now : List (Option ℕ)) (place : ℕ) (x : Option ℕ)
    → length starts ≡ place → ((p : ℕ) → p < place → starts_at starts p ≡ labelled_from first labels p)
    → x ≡ labelled_from first labels place → now ≡ starts ++ x ∷ []
    → (p : ℕ) → p < place + 1 → starts_at now p ≡ labelled_from first labels p
starts-more first labels starts now place x size h e is p there =
    ap (λ (ys : List (Option ℕ)). starts_at ys p) is ∙ last-of (λ (q : ℕ). labelled_from first labels q) starts x
    (λ q within. h q (omega (arith, within, size)))
    (e ∙ ap (λ (q : ℕ). labelled_from first labels q) (sym size)) p (omega (arith, there, size))

pub size-more : (starts now : List (Option ℕ)) (place : ℕ) (x : Option ℕ) → length starts ≡ place
    → now ≡ starts ++ x ∷ [] → length now ≡ place + 1
size-more starts now place x size is = ap length is ∙ longer starts ∙ ap (λ (k : ℕ). k + 1) size
  where
    longer : (ys : List (Option ℕ)) → length (ys ++ x ∷ []) ≡ length ys + 1
    longer [] = refl
    longer (y ∷ ys) =
        let e : suc (length ys + 1) ≡ suc (length ys) + 1 = omega arith in
        ap suc (longer ys) ∙ e

-- an element that is there doesn't depend on what is said where none is
pub any-default : (xs : List Bool) (i : ℕ) (d : Bool) → i < length xs → get_or xs i d ≡ get_or xs i false
any-default [] i d there = absurd (omega (arith, there))
any-default (x ∷ xs) zero d there = refl
any-default (x ∷ xs) (suc i) d there = any-default xs i d (omega (arith, there))
