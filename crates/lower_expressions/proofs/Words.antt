-- The lines of parameters, one after another.
use Rattle.std.proofs.Common.{◌≡◌, ℕ, zero, suc, ◌+◌, ◌<◌, List, [], ◌∷◌, ◌++◌, refl, sym, ap, ◌∙◌, arith}
use Rattle.std.proofs.Common.{append_assoc, map, drop, take, length, subst}
use Rattle.std.specs.Prelude.{get_or}
use Rattle.c_tree.specs.Erased.{local_of}
use Rattle.c_tree.specs.Program.{Local}
use Rattle.c_tree.specs.declared.program.Local as memory
use Rattle.lower_lines.specs.Lines.{Line}
use Rattle.lower_lines.specs.Programs.{parameter_of, parameters_lines, words_in}
use Rattle.lower_lines.specs.Variables.{Context, local_spot}

one-more : (ls : List memory.Local) (count k : ℕ) (d : memory.Local) → k < count → k < length ls
    → drop k (take count (map local_of ls)) ≡ local_of (get_or ls k d) ∷ drop (suc k) (take count (map local_of ls))
one-more [] count k d below there = absurd (omega arith)
one-more (l ∷ ls) zero k d below there = absurd (omega arith)
one-more (l ∷ ls) (suc count) zero d below there = refl
one-more (l ∷ ls) (suc count) (suc k) d below there = one-more ls count k d (omega arith) (omega arith)

-- the lines of one more parameter
step : (c : Context) (ls : List memory.Local) (count k word word' : ℕ) (d : memory.Local) (before now whole : List Line)
    → k < count → k < length ls
    → now ≡ before ++ parameter_of c (get_or ls k d).of (local_spot c k) word
    → word' ≡ word + words_in (get_or ls k d).of
    → before ++ parameters_lines c (drop k (take count (map local_of ls))) k word ≡ whole
    → now ++ parameters_lines c (drop (suc k) (take count (map local_of ls))) (suc k) word' ≡ whole
step c ls count k word word' d before now whole below there is more e =
    let x = parameter_of c (get_or ls k d).of (local_spot c k) word in
    let y : ℕ → List Line = λ n. parameters_lines c (drop (suc k) (take count (map local_of ls))) (suc k) n in
    ap (λ (ls : List Line). ls ++ y word') is ∙ append_assoc before x (y word')
    ∙ ap (λ (n : ℕ). before ++ (x ++ y n)) more
    ∙ ap (λ (us : List Local). before ++ parameters_lines c us k word) (sym (one-more ls count k d below there)) ∙ e

pub stepped : (c : Context) (ls : List memory.Local) (count k word word' : ℕ) (d : memory.Local)
    (before now whole : List Line) → k < count → k < length ls
    → now ≡ before ++ parameter_of c (get_or ls k d).of (local_spot c k) word
    → word' ≡ word + words_in (get_or ls k d).of
    → before ++ parameters_lines c (drop k (take count (map local_of ls))) k word ≡ whole
    → now ++ parameters_lines c (drop (k + 1) (take count (map local_of ls))) (k + 1) word' ≡ whole
stepped c ls count k word word' d before now whole below there is more e =
    let next : suc k ≡ k + 1 = omega arith in
    subst (λ (n : ℕ). now ++ parameters_lines c (drop n (take count (map local_of ls))) n word' ≡ whole) next
    (step c ls count k word word' d before now whole below there is more e)
