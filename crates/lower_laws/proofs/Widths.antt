-- Which variables are there, and how wide they are: temporaries by level and role, and those of locals.
use Rattle.std.proofs.Common.{◌≡◌, ℕ, zero, suc, ◌+◌, ◌*◌, ◌<◌, List, [], ◌∷◌, ◌++◌, length, Some}
use Rattle.std.proofs.Common.{refl, sym, ap, ◌∙◌, subst, arith}
use Rattle.std.specs.Prelude.{slice_get}
use Rattle.std.proofs.lemmas.Option.{same_Some}
use Rattle.pcc_base.specs.declared.run.Width.{Width}
use Rattle.pcc_base.specs.declared.run.Width.TheVariants.{One, Two}
use Rattle.c_tree.specs.Program.{Local}
use Rattle.lower_lines.specs.Shown.{first_variable, local_widths, type_widths}
use Rattle.lower_lines.specs.Variables.{Context, Role, ForArray, ForNumber, ForOld, ForScratch, ForByte, level_widths}
use Rattle.lower_lines.specs.Variables.{levels_of, levels_widths, local_variables, role_place, temporary}
use Rattle.lower_lines.specs.Variables.{variable_widths}

pub get-behind : {X : Type 0} (xs ys : List X) (k : ℕ) → slice_get (xs ++ ys) (length xs + k) ≡ slice_get ys k
get-behind [] ys k = let e : 0 + k ≡ k = omega arith in ap (slice_get ys) e
get-behind (x ∷ xs) ys k =
    let e : suc (length xs) + k ≡ suc (length xs + k) = omega arith in
    ap (slice_get (x ∷ xs ++ ys)) e ∙ get-behind xs ys k

pub get-before : {X : Type 0} (xs ys : List X) (k : ℕ) → k < length xs → slice_get (xs ++ ys) k ≡ slice_get xs k
get-before [] ys k h = absurd (omega (arith, h))
get-before (x ∷ xs) ys zero h = refl
get-before (x ∷ xs) ys (suc k) h = get-before xs ys k (omega (arith, h))

-- the widths of a level are the same at each
level-width : (levels level j : ℕ) → level < levels → j < 5
    → slice_get (levels_widths levels) (level * 5 + j) ≡ slice_get level_widths j
level-width zero level j h below = absurd (omega (arith, h))
level-width (suc levels) zero j h below =
    let e : 0 * 5 + j ≡ j = omega arith in
    ap (slice_get (level_widths ++ levels_widths levels)) e
    ∙ get-before level_widths (levels_widths levels) j below
level-width (suc levels) (suc level) j h below =
    let e : suc level * 5 + j ≡ 5 + (level * 5 + j) = omega arith in
    ap (slice_get (level_widths ++ levels_widths levels)) e
    ∙ get-behind level_widths (levels_widths levels) (level * 5 + j)
    ∙ level-width levels level j (omega (arith, h)) below

-- the width of a role
abbrev pub role_width : Role → Width
role_width ForArray = Two
role_width ForNumber = Two
role_width ForOld = Two
role_width ForScratch = Two
role_width ForByte = One

role-below : (role : Role) → role_place role < 5
role-below ForArray = omega arith
role-below ForNumber = omega arith
role-below ForOld = omega arith
role-below ForScratch = omega arith
role-below ForByte = omega arith

role-width : (role : Role) → slice_get level_widths (role_place role) ≡ Some (role_width role)
role-width ForArray = refl
role-width ForNumber = refl
role-width ForOld = refl
role-width ForScratch = refl
role-width ForByte = refl

-- a temporary of a level that the function has is there
pub temporary-width : (c : Context) (level : ℕ) (role : Role) → level < levels_of c.function
    → slice_get (variable_widths c.function) (temporary c level role) ≡ Some (role_width role)
temporary-width c level role h =
    let n = local_variables c.function in
    let e : n + level * 5 + role_place role ≡ n + (level * 5 + role_place role) = omega arith in
    ap (slice_get (variable_widths c.function)) e
    ∙ get-behind (local_widths c.function.locals) (levels_widths (levels_of c.function)) (level * 5 + role_place role)
    ∙ level-width (levels_of c.function) level (role_place role) h (role-below role) ∙ role-width role

-- the variables of a local have the widths of its type
pub local-width : (ls : List Local) (k j : ℕ) (l : Local) → slice_get ls k ≡ Some l → j < length (type_widths l.of)
    → slice_get (local_widths ls) (first_variable ls k + j) ≡ slice_get (type_widths l.of) j
local-width [] k j l e h = absurd (cc)
local-width (m ∷ ls) zero j l e h =
    let plain : 0 + j ≡ j = omega arith in
    let same = ap (λ (n : Local). type_widths n.of) (same_Some m l e) in
    ap (slice_get (type_widths m.of ++ local_widths ls)) plain
    ∙ get-before (type_widths m.of) (local_widths ls) j (subst (λ (ws : List Width). j < length ws) (sym same) h)
    ∙ ap (λ (ws : List Width). slice_get ws j) same
local-width (m ∷ ls) (suc k) j l e h =
    let sum : length (type_widths m.of) + first_variable ls k + j
    ≡ length (type_widths m.of) + (first_variable ls k + j) = omega arith in
    ap (slice_get (type_widths m.of ++ local_widths ls)) sum
    ∙ get-behind (type_widths m.of) (local_widths ls) (first_variable ls k + j)
    ∙ local-width ls k j l e h
