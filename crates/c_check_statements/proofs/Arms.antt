-- What is known behind a head, whose number was taken, said of the statement.
use Rattle.std.proofs.Common.{◌≡◌, subst, ℕ, List}
use Rattle.std.specs.Prelude.{Vec}
use Rattle.std.specs.declared.alloc.Global.{Global}
use Rattle.c_tree.specs.declared.statement.Statement.{Statement as Built}
use Rattle.c_tree.specs.Program.{Statement}
use Rattle.c_typing.specs.Checked.{Checked, Note}
use Rattle.c_typing.specs.Names.{Scope, entered, numbered}
use Rattle.c_typing.specs.Statements.{Around}
use Rattle.c_check_expressions.specs.declared.judged.Judged.{Judged}
use Rattle.c_check_expressions.specs.Said.{IsSaid}
use Rattle.c_check_statements.specs.Answers.{AreListed}

pub at_number : (F : Scope → ℕ → Checked (List Statement)) (s t : Scope) (n : ℕ) (j : Judged (Vec Built Global))
    (before after : List Note) → t ≡ numbered s → n ≡ s.next → IsSaid AreListed (F t n) j before after
    → IsSaid AreListed (F (numbered s) s.next) j before after
at_number F s t n j before after t_is n_is said =
    subst (λ (u : Scope). IsSaid AreListed (F u s.next) j before after) t_is
    (subst (λ (m : ℕ). IsSaid AreListed (F t m) j before after) n_is said)

-- the same inside a loop or a switch
pub around_number : (F : Around → Scope → ℕ → Checked (List Statement)) (v w : Around) (s t : Scope) (n : ℕ)
    (j : Judged (Vec Built Global)) (before after : List Note) → v ≡ w → t ≡ numbered s → n ≡ s.next
    → IsSaid AreListed (F v t n) j before after → IsSaid AreListed (F w (numbered s) s.next) j before after
around_number F v w s t n j before after v_is t_is n_is said =
    subst (λ (a : Around). IsSaid AreListed (F a (numbered s) s.next) j before after) v_is
    (at_number (F v) s t n j before after t_is n_is said)

-- the same behind a first branch
pub branch_number : (F : Scope → Scope → ℕ → Checked (List Statement)) (behind : Scope → Scope) (s t u : Scope)
    (n m : ℕ) (j : Judged (Vec Built Global)) (before after : List Note) → t ≡ numbered s → u ≡ behind t → n ≡ s.next
    → m ≡ n → IsSaid AreListed (F t u m) j before after
    → IsSaid AreListed (F (numbered s) (behind (numbered s)) s.next) j before after
branch_number F behind s t u n m j before after t_is u_is n_is m_is said =
    at_number (λ (v : Scope) (k : ℕ). F v (behind v) k) s t n j before after t_is n_is
    (subst (λ (v : Scope). IsSaid AreListed (F t v n) j before after) u_is
    (subst (λ (k : ℕ). IsSaid AreListed (F t u k) j before after) m_is said))

-- the same in a scope of its own
pub around_entered : (F : Around → Scope → ℕ → Checked (List Statement)) (v w : Around) (s t u : Scope) (n : ℕ)
    (j : Judged (Vec Built Global)) (before after : List Note) → v ≡ w → t ≡ numbered s → u ≡ entered t → n ≡ s.next
    → IsSaid AreListed (F v u n) j before after → IsSaid AreListed (F w (entered (numbered s)) s.next) j before after
around_entered F v w s t u n j before after v_is t_is u_is n_is said =
    around_number (λ (a : Around) (x : Scope) (k : ℕ). F a (entered x) k) v w s t n j before after v_is t_is n_is
    (subst (λ (x : Scope). IsSaid AreListed (F v x n) j before after) u_is said)
