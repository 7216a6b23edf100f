-- Statements of which each is judged, one behind the other, and the scope behind each.
use Rattle.std.proofs.Common.{◌≡◌, refl, sym, ap, ◌∙◌, subst, ℕ, suc, ◌+◌, ◌<◌, ◌≤◌, arith, List, [], ◌∷◌, ◌++◌}
use Rattle.std.proofs.Common.{length, map, drop, get_or}
use Rattle.std.specs.Prelude.{Vec}
use Rattle.std.specs.declared.alloc.Global.{Global}
use Rattle.std.proofs.Math.Seq.{drop-cons}
use Rattle.std.proofs.lemmas.List.{append-nil, append_assoc, drop_all}
use Rattle.c_syntax.specs.declared.statement.Statement.{Statement as Raw}
use Rattle.c_syntax.specs.Statements.{stmt_of, stmts_of}
use Rattle.c_tree.specs.declared.statement.Statement.{Statement as Built}
use Rattle.c_tree.specs.Erased.{statement_of}
use Rattle.c_tree.specs.Program.{Done, Next, Statement, Statements}
use Rattle.c_typing.specs.Faults.{least}
use Rattle.c_typing.specs.Checked.{Checked, Fits, Fails, Note, both, fits}
use Rattle.c_typing.specs.Names.{Scope}
use Rattle.c_typing.specs.Statements.{Around, after_statement, after_statements, row_before, typed_statement}
use Rattle.c_typing.specs.Statements.{typed_statements}
use Rattle.c_check_expressions.specs.declared.judged.Judged.{Judged}
use Rattle.c_check_expressions.specs.declared.judged.Judged.TheVariants as answers
use Rattle.c_check_expressions.specs.Said.{IsSaid}
use Rattle.c_check_expressions.proofs.Gathering.{fits_same}
use Rattle.c_check_declarations.proofs.Lists.{notes_same}
use Rattle.c_check_statements.specs.Answers.{AreListed, AreStatements}
use Rattle.c_check_statements.specs.Together.{joined}
use Rattle.c_check_statements.proofs.Ones.{all_row}

-- statements before others
abbrev pub rejoined : Checked (List Statement) → Checked Statements → Checked Statements
rejoined front rest = both front rest (λ sts others. fits (row_before sts others))

row_behind : (xs ys : List Statement) (zs : Statements) → row_before (xs ++ ys) zs ≡ row_before xs (row_before ys zs)
row_behind [] ys zs = refl
row_behind (x ∷ xs) ys zs = ap (λ (rest : Statements). Next x rest) (row_behind xs ys zs)

next_rejoined : (front c : Checked (List Statement)) (rest : Checked Statements)
    → rejoined (joined front c) rest ≡ rejoined front (rejoined c rest)
next_rejoined (Fits xs ns) (Fits ys ms) (Fits zs ks) = fits_same (row_before (xs ++ ys) zs)
    (row_before xs (row_before ys zs)) ((((ns ++ ms) ++ []) ++ ks) ++ []) ((ns ++ ((ms ++ ks) ++ [])) ++ [])
    (row_behind xs ys zs) (notes_same ns ms ks)
next_rejoined (Fits xs ns) (Fits ys ms) (Fails h hs) = refl
next_rejoined (Fits xs ns) (Fails g gs) (Fits zs ks) = refl
next_rejoined (Fits xs ns) (Fails g gs) (Fails h hs) = refl
next_rejoined (Fails f fs) (Fits ys ms) (Fits zs ks) = ap (λ xs. Fails f (xs ++ [])) (append-nil fs)
next_rejoined (Fails f fs) (Fits ys ms) (Fails h hs) = ap (λ xs. Fails f (xs ++ h ∷ hs)) (append-nil fs)
next_rejoined (Fails f fs) (Fails g gs) (Fits zs ks) = ap (Fails f) (append_assoc fs (g ∷ gs) [])
next_rejoined (Fails f fs) (Fails g gs) (Fails h hs) = ap (Fails f) (append_assoc fs (g ∷ gs) (h ∷ hs))

first_rejoined : (rest : Checked Statements) → rejoined (fits []) rest ≡ rest
first_rejoined (Fits xs ks) = ap (Fits xs) (append-nil ks)
first_rejoined (Fails h hs) = refl

last_rejoined : (front : Checked (List Statement)) (j : Judged (Vec Built Global)) (before after : List Note)
    → IsSaid AreListed front j before after → IsSaid AreStatements (rejoined front (fits Done)) j before after
last_rejoined (Fits xs ns) (answers.Fits v) before after said = (
  all_row v.items ∙ ap (λ ys. row_before ys Done) said.0,
  said.1 ∙ ap (λ ks. before ++ ks) (sym (append-nil (ns ++ []) ∙ append-nil ns)),
)
last_rejoined (Fits xs ns) (answers.Fails f) before after said = absurd said.0
last_rejoined (Fails g gs) (answers.Fits v) before after said = absurd said.0
last_rejoined (Fails g gs) (answers.Fails f) before after said =
    (ap (λ xs. least (g ∷ xs)) (append-nil gs) ∙ said.0, tt)

-- what is known behind some statements: what was judged so far and the rest are the whole
pub record Gathered (whole rest : Checked Statements) (so_far : Judged (Vec Built Global)) (before now : List Note)
    : Type 0 where
  pub front : Checked (List Statement)
  pub said : IsSaid AreListed front so_far before now
  pub same : rejoined front rest ≡ whole

pub gathered_none : (whole : Checked Statements) (v : Vec Built Global) (before : List Note)
    → map statement_of v.items ≡ [] → Gathered whole whole (answers.Fits v) before before
gathered_none whole v before h = record {
  front = fits [];
  said = (h, sym (append-nil before));
  same = first_rejoined whole;
}

pub gathered_more : (whole rest others : Checked Statements) (c : Checked (List Statement))
    (so_far more : Judged (Vec Built Global)) (before now after : List Note) → rest ≡ rejoined c others
    → ((front : Checked (List Statement)) (start : List Note) → IsSaid AreListed front so_far start now
    → IsSaid AreListed (joined front c) more start after)
    → Gathered whole rest so_far before now → Gathered whole others more before after
gathered_more whole rest others c so_far more before now after parts step g = record {
  front = joined g.front c;
  said = step g.front before g.said;
  same = next_rejoined g.front c others ∙ ap (rejoined g.front) (sym parts) ∙ g.same;
}

pub gathered_all : (whole rest : Checked Statements) (so_far : Judged (Vec Built Global)) (before now : List Note)
    → rest ≡ fits Done → Gathered whole rest so_far before now → IsSaid AreStatements whole so_far before now
gathered_all whole rest so_far before now none g =
    subst (λ c. IsSaid AreStatements c so_far before now) (ap (rejoined g.front) (sym none) ∙ g.same)
    (last_rejoined g.front so_far before now g.said)

-- ---- statements of a raw list

next_one : (xs : List Raw) (i : ℕ) (x : Raw) → i < length xs → x ≡ get_or xs i x → drop i xs ≡ x ∷ drop (i + 1) xs
next_one xs i x lt same =
    let e : suc i ≡ i + 1 = omega arith in
    drop-cons xs i x lt ∙ ap (λ y. y ∷ drop (suc i) xs) (sym same) ∙ ap (λ k. x ∷ drop k xs) e

pub next_typed : (w : Around) (s t : Scope) (xs : List Raw) (i : ℕ) (x : Raw) → i < length xs → x ≡ get_or xs i x
    → t ≡ after_statement (stmt_of x) s
    → typed_statements w (stmts_of (map stmt_of (drop i xs))) s
    ≡ rejoined (typed_statement w (stmt_of x) s) (typed_statements w (stmts_of (map stmt_of (drop (i + 1) xs))) t)
next_typed w s t xs i x lt same h =
    ap (λ ys. typed_statements w (stmts_of (map stmt_of ys)) s) (next_one xs i x lt same)
    ∙ ap (λ u. rejoined (typed_statement w (stmt_of x) s)
    (typed_statements w (stmts_of (map stmt_of (drop (i + 1) xs))) u)) (sym h)

pub next_scope : (s t : Scope) (xs : List Raw) (i : ℕ) (x : Raw) → i < length xs → x ≡ get_or xs i x
    → t ≡ after_statement (stmt_of x) s
    → after_statements (stmts_of (map stmt_of (drop (i + 1) xs))) t
    ≡ after_statements (stmts_of (map stmt_of (drop i xs))) s
next_scope s t xs i x lt same h =
    ap (λ u. after_statements (stmts_of (map stmt_of (drop (i + 1) xs))) u) h
    ∙ ap (λ ys. after_statements (stmts_of (map stmt_of ys)) s) (sym (next_one xs i x lt same))

pub none_typed : (w : Around) (s : Scope) (xs : List Raw) (i : ℕ) → length xs ≤ i
    → typed_statements w (stmts_of (map stmt_of (drop i xs))) s ≡ fits Done
none_typed w s xs i le = ap (λ ys. typed_statements w (stmts_of (map stmt_of ys)) s) (drop_all i xs le)

pub none_scope : (s : Scope) (xs : List Raw) (i : ℕ) → length xs ≤ i
    → after_statements (stmts_of (map stmt_of (drop i xs))) s ≡ s
none_scope s xs i le = ap (λ ys. after_statements (stmts_of (map stmt_of ys)) s) (drop_all i xs le)
