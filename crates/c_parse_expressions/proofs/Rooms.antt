-- Whether a node has room for what stands below it.
use Rattle.std.proofs.Common.{◌≡◌, ◌<◌, ◌≤◌, ◌-◌, ℕ, zero, suc, true, false, List, ◌∷◌, Some, None, ltb, nat_le, refl, sym, ap, subst, ◌∙◌, arith}
use Rattle.std.proofs.lemmas.Bool.{le-ltb, lt-ltb}
use Rattle.pcc_base.specs.declared.span.Span.{Span}
use Rattle.c_lex.specs.declared.token.Token.{Token}
use Rattle.c_lex.specs.declared.token.Punct.TheVariants as marks
use Rattle.c_syntax.specs.declared.operator.StepOp.{StepOp}
use Rattle.c_syntax.specs.declared.operator.AssignOp.{AssignOp}
use Rattle.c_syntax.specs.Expressions.{Expr, Postfix, Assignment}
use Rattle.c_syntax.specs.ExpressionTokens.{expr_height, looseness}
use Rattle.c_syntax.specs.Marks.{mark, step_mark, assign_mark}
use Rattle.c_grammar.specs.Chains.{Goes, Takes, Reads, Found, Faults, then_read, above, room}
use Rattle.c_grammar.specs.Reading.{Readers, readers, assignment_from, postfix_from, suffix_from, suffix_step}
use Rattle.c_grammar.specs.Taking.{take_mark, take_step}
use Rattle.c_parse_expressions.specs.ExpressionReadings.{below}
use Rattle.c_parse_expressions.specs.Readings.{Refused, RefusedStep}
use Rattle.c_parse_expressions.specs.declared.parse_error.ParseError.{ParseError}
use Rattle.c_parse_expressions.specs.declared.parse_error.ParseError.TheVariants.{Fault}
use Rattle.c_parse_expressions.proofs.Refused.{refused_before, refused_so, refused_step, refused_then}

pub readers_height : (n : ℕ) → (readers n).height ≡ n
unfolding readers
readers_height zero = refl
readers_height (suc n) = refl

-- ---- the tests, for the search
pub room_below : (height : ℕ) → 1 < height → ltb 0 (readers (height - 1)).height ≡ true
room_below height h = lt-ltb 0 (readers (height - 1)).height (omega (arith, readers_height (height - 1), h))

pub no_room_below : (height : ℕ) → height ≡ 1 → ltb 0 (readers (height - 1)).height ≡ false
no_room_below height e = le-ltb 0 (readers (height - 1)).height (omega (arith, readers_height (height - 1), e))

pub part_is_low : (part height : ℕ) → part < height → ltb part height ≡ true
part_is_low part height h = lt-ltb part height h

pub part_is_high : (part height : ℕ) → height ≤ part → ltb part height ≡ false
part_is_high part height h = le-ltb part height h

-- ---- where a node has no room

high_faults : {A : Type 0} (part height : ℕ) (t : Token) (ts : List Token) (r : Reads A) → height ≤ part
    → above part height t ts r ≡ Faults true (t ∷ ts)
high_faults part height t ts r h = (let e : ltb part height ≡ false = part_is_high part height h in rw e refl)

-- above a part that is as high as the node may be
pub above_fault : {A : Type 0} (part height : ℕ) (t : Token) (ts : List Token) (r : Reads A) (e : ParseError)
    → height ≤ part → e ≡ Fault true (Some t.at) → Refused (above part height t ts r) e
above_fault part height t ts r e h f =
    refused_before (above part height t ts r) true (t ∷ ts) (Some t.at) e (high_faults part height t ts r h) refl f

-- where the node may be 1 high
pub room_fault : {A : Type 0} (height : ℕ) (t : Token) (ts : List Token) (r : Reads A) (e : ParseError) → height ≡ 1
    → e ≡ Fault true (Some t.at) → Refused (room (below height).height t ts r) e
room_fault height t ts r e h f =
    above_fault 0 (below height).height t ts r e (omega (arith, readers_height (height - 1), h)) f

-- `++` or `--` behind an expression that is as high as the node may be
pub suffix_fault : (height : ℕ) (b : Readers) (base : Expr) (ts us vs : List Token) (op : StepOp) (at : Span)
    (e : ParseError) →
    take_mark marks.LeftBracket ts ≡ None → us ≡ ts → take_step us ≡ Some ((op, at), vs) → height ≤ expr_height base
    → e ≡ Fault true (Some at) → RefusedStep (suffix_step height b base ts) e
suffix_fault height b base ts us vs op at e none same step high f =
    let is : suffix_step height b base ts ≡ postfix_from height base (Some ((op, at), vs)) =
    ap (λ (t : Takes Span). suffix_from height b base t ts) none
    ∙ ap (λ (t : Takes (StepOp × Span)). postfix_from height base t) (ap take_step (sym same) ∙ step) in
    subst (λ s. RefusedStep s e) (sym is)
    (refused_step _ (λ _ us. Goes (Postfix base op at) us) e (above_fault (expr_height base) height (mark (step_mark op) at) vs (Found (op, at) vs)
    e high f))

-- an assignment to what is no unary expression
pub no_target : (height : ℕ) (b : Readers) (l m : Expr) (op : AssignOp) (at : Span) (ts : List Token) (e : ParseError)
    → l ≡ m → nat_le (looseness m) 2 ≡ false → e ≡ Fault false (Some at)
    → Refused (assignment_from height b l (Some ((op, at), ts)) ts) e
no_target height b l m op at ts e same loose f =
    let is : nat_le (looseness l) 2 ≡ false = ap (λ (x : Expr). nat_le (looseness x) 2) same ∙ loose in
    let faults : assignment_from height b l (Some ((op, at), ts)) ts ≡ Faults false (mark (assign_mark op) at ∷ ts) =
    rw is refl in
    refused_before (assignment_from height b l (Some ((op, at), ts)) ts) false (mark (assign_mark op) at ∷ ts) (Some at)
    e faults refl f

-- and one that is too high
pub high_assignment : (height : ℕ) (b : Readers) (l m : Expr) (op : AssignOp) (at : Span) (ts : List Token)
    (e : ParseError) → l ≡ m → nat_le (looseness m) 2 ≡ true → height ≤ expr_height l → e ≡ Fault true (Some at)
    → Refused (assignment_from height b l (Some ((op, at), ts)) ts) e
high_assignment height b l m op at ts e same loose high f =
    let is : nat_le (looseness l) 2 ≡ true = ap (λ (x : Expr). nat_le (looseness x) 2) same ∙ loose in
    let reads : assignment_from height b l (Some ((op, at), ts)) ts
    ≡ then_read (above (expr_height l) height (mark (assign_mark op) at) ts (b.assignment ts))
    (λ r vs. Found (Assignment op l at r) vs) = rw is refl in
    refused_so _ _ e reads (refused_then _ _ e (above_fault (expr_height l) height (mark (assign_mark op) at) ts
    (b.assignment ts) e high f))
