-- Texts have one answer: a typed program, a fault, or a limit.
use Rattle.std.proofs.Common.{◌≡◌, refl, sym, ap, ap₂, subst, ◌∙◌, ℕ, List, [], inl, inr, arith}
use Rattle.std.specs.Prelude.{◌⊎◌, Option, Some, None, slice_get}
use Rattle.pcc_base.specs.declared.span.Span.{Span}
use Rattle.pcc_base.specs.declared.fault.Fault.{Fault}
use Rattle.pcc_base.specs.declared.fault.FaultKind.{FaultKind}
use Rattle.pcc_base.specs.declared.refusal.Limit.{Limit}
use Rattle.pcc_base.specs.declared.refusal.Limit.TheVariants as limits
use Rattle.c_lex.specs.declared.token.Token.{Token}
use Rattle.c_syntax.specs.Statements.{ExternalTree}
use Rattle.c_tree.specs.Program.{Function, Program}
use Rattle.c_typing.specs.Typed.{IsAbove, IsAccepted, IsLeastFault}
use Rattle.c_typing.proofs.OneProgram.{one_typed_program}
use Rattle.c_check.proofs.OneAnswer.{one_answer}
use Rattle.c_front.specs.Accepted.{HaveTrees}
use Rattle.c_front.specs.Refusals.{FirstFaulty, HaveLexicalFault, HaveManyTokens, WithTokens, ends_of, first_place}
use Rattle.c_front.proofs.OneFault.{lexical_once, syntax_once}
use Rattle.c_front.proofs.OneReading.{lexical_or_limit, no_lexical, stand_fewer, tokens_once, trees_once, trees_or_fault}
use Rattle.c_front.specs.Answers.{Exceed, Excess, ManyTokens, LargeArrays, LargeFrame, HaveFault, HaveLargeFrame}
use Rattle.c_front.specs.Answers.{HaveTypedProgram, end_of}
use Rattle.c_front.specs.Units.{HaveUnits, WithUnits}

-- texts have one raw tree each
units_once : (texts : List (List ℕ)) (a b : List (List ExternalTree)) → HaveUnits texts a → HaveUnits texts b → a ≡ b
units_once texts a b p q = trees_once q.files a b
    (subst (λ (files : List (List Token)). HaveTrees files a) (tokens_once 0 texts p.files q.files p.tokens q.tokens)
    p.trees) q.trees

-- what holds of the raw trees of texts holds of these
here : (P : List (List ExternalTree) → Type 0) (texts : List (List ℕ)) (units : List (List ExternalTree))
    → HaveUnits texts units → WithUnits texts P → P units
here P texts units have (other, again, h) = subst P (units_once texts other units again have) h

-- texts with raw trees have no earlier fault, and not too many tokens
no_early_fault : (texts : List (List ℕ)) (units : List (List ExternalTree)) (fault : Fault) → HaveUnits texts units
    → HaveLexicalFault texts fault → ⊥
no_early_fault texts units fault have (n, behind, few) = no_lexical 0 texts n fault have.files behind have.tokens

no_syntax_fault : (texts : List (List ℕ)) (units : List (List ExternalTree)) (fault : Fault) → HaveUnits texts units
    → WithTokens texts (λ files. FirstFaulty files (ends_of 0 texts) fault.kind fault.at) → ⊥
no_syntax_fault texts units fault have (files, lexed, few, faulty) =
    trees_or_fault have.files (ends_of 0 texts) units fault.kind fault.at have.trees
    (subst (λ (fs : List (List Token)). FirstFaulty fs (ends_of 0 texts) fault.kind fault.at)
    (tokens_once 0 texts files have.files lexed have.tokens) faulty)

not_many : (texts : List (List ℕ)) (units : List (List ExternalTree)) → HaveUnits texts units → HaveManyTokens texts → ⊥
not_many texts units have many =
    let few = have.few in omega (arith, stand_fewer 0 texts 0x10001 have.files many have.tokens, few)

-- so its fault is one of typing
typing_fault : (texts : List (List ℕ)) (units : List (List ExternalTree)) (fault : Fault) → HaveUnits texts units
    → HaveFault texts fault → IsLeastFault units (end_of texts) fault
typing_fault texts units fault have (inl h) = absurd (no_early_fault texts units fault have h)
typing_fault texts units fault have (inr (inl h)) = absurd (no_syntax_fault texts units fault have h)
typing_fault texts units fault have (inr (inr h)) =
    here (λ (us : List (List ExternalTree)). IsLeastFault us (end_of texts) fault) texts units have h

-- ---- limits

-- the name of a function, where it is there
abbrev name_in : Option Function → List ℕ
name_in None = []
name_in (Some f) = f.name

-- what is told of a limit that a program with these functions is above
abbrev told_of : List Function → Limit → Excess
told_of fs (limits.Tokens n) = ManyTokens
told_of fs (limits.Arrays n) = LargeArrays n
told_of fs (limits.Frame k n) = LargeFrame (name_in (slice_get fs k)) n
told_of fs (limits.Files n) = ManyTokens
told_of fs (limits.FileBytes n) = ManyTokens

-- raw trees have a typed program that is above a limit, of which this is told
record AreTold (units : List (List ExternalTree)) (excess : Excess) : Type 0 where
  limit : Limit
  above : IsAbove units limit
  told : told_of above.program.functions limit ≡ excess

told_arrays : (units : List (List ExternalTree)) (bytes : ℕ) → IsAbove units (limits.Arrays bytes)
    → AreTold units (LargeArrays bytes)
told_arrays units bytes h = record { limit = limits.Arrays bytes; above = h; told = refl }

told_frame : (units : List (List ExternalTree)) (name : List ℕ) (bytes : ℕ) → HaveLargeFrame units name bytes
    → AreTold units (LargeFrame name bytes)
told_frame units name bytes h = record {
  limit = limits.Frame h.number bytes;
  above = record { program = h.program; typed = h.typed; above = h.above };
  told = ap (λ (o : Option Function). LargeFrame (name_in o) bytes) h.there
      ∙ ap (λ (n : List ℕ). LargeFrame n bytes) h.named;
}

-- one thing is told of them
told_once : (units : List (List ExternalTree)) (a b : Excess) → AreTold units a → AreTold units b → a ≡ b
told_once units a b h g =
    let limit : h.limit ≡ g.limit =
    (one_answer units (first_place 0)).0.limit h.limit g.limit h.above g.above in
    let program : h.above.program ≡ g.above.program =
    one_typed_program units h.above.program g.above.program h.above.typed g.above.typed in
    sym h.told ∙ ap (λ (p : Program). told_of p.functions h.limit) program
    ∙ ap (λ (l : Limit). told_of g.above.program.functions l) limit ∙ g.told

-- texts are above a limit of typing, or have too many tokens
above_or_many : (texts : List (List ℕ)) (excess : Excess) → Exceed texts excess
    → WithUnits texts (λ units. AreTold units excess) ⊎ (HaveManyTokens texts × (excess ≡ ManyTokens))
above_or_many texts ManyTokens h = inr (h, refl)
above_or_many texts (LargeArrays bytes) (units, have, h) = inl (units, have, told_arrays units bytes h)
above_or_many texts (LargeFrame name bytes) (units, have, h) = inl (units, have, told_frame units name bytes h)

-- ---- the answers

pub one_program : (texts : List (List ℕ)) (p q : Program) → HaveTypedProgram texts p → HaveTypedProgram texts q → p ≡ q
one_program texts p q (units, have, is) other =
    (one_answer units (end_of texts)).0.program p q is
    (here (λ (us : List (List ExternalTree)). IsAccepted us q) texts units have other)

both_limits : (texts : List (List ℕ)) (a b : Excess)
    → (WithUnits texts (λ units. AreTold units a) ⊎ (HaveManyTokens texts × (a ≡ ManyTokens)))
    → (WithUnits texts (λ units. AreTold units b) ⊎ (HaveManyTokens texts × (b ≡ ManyTokens))) → a ≡ b
both_limits texts a b (inl (units, have, h)) (inl other) =
    told_once units a b h (here (λ (us : List (List ExternalTree)). AreTold us b) texts units have other)
both_limits texts a b (inl (units, have, h)) (inr (many, e)) = absurd (not_many texts units have many)
both_limits texts a b (inr (many, e)) (inl (units, have, h)) = absurd (not_many texts units have many)
both_limits texts a b (inr (many, e)) (inr (again, f)) = e ∙ sym f

pub one_limit : (texts : List (List ℕ)) (a b : Excess) → Exceed texts a → Exceed texts b → a ≡ b
one_limit texts a b h g = both_limits texts a b (above_or_many texts a h) (above_or_many texts b g)

-- where texts have raw trees, the one fault of typing
one_of_typing : (texts : List (List ℕ)) (units : List (List ExternalTree)) (e f : Fault) → HaveUnits texts units
    → HaveFault texts e → HaveFault texts f → e ≡ f
one_of_typing texts units e f have p q =
    (one_answer units (end_of texts)).0.fault e f (typing_fault texts units e have p) (typing_fault texts units f have q)

pub one_fault : (texts : List (List ℕ)) (e f : Fault) → HaveFault texts e → HaveFault texts f → e ≡ f
one_fault texts e f (inr (inr (units, have, h))) q = one_of_typing texts units e f have (inr (inr (units, have, h))) q
one_fault texts e f p (inr (inr (units, have, h))) = one_of_typing texts units e f have p (inr (inr (units, have, h)))
one_fault texts e f (inl (n, p, few)) (inl (m, q, nor)) = lexical_once 0 texts n m e f p q
one_fault texts e f (inl (n, p, few)) (inr (inl (files, lexed, low, h))) =
    absurd (no_lexical 0 texts n e files p lexed)
one_fault texts e f (inr (inl (files, lexed, low, h))) (inl (n, q, few)) =
    absurd (no_lexical 0 texts n f files q lexed)
one_fault texts e f (inr (inl (files, lexed, low, h))) (inr (inl (others, again, few, g))) =
    let once = syntax_once files (ends_of 0 texts) e.kind f.kind e.at f.at h
    (subst (λ (fs : List (List Token)). FirstFaulty fs (ends_of 0 texts) f.kind f.at)
    (tokens_once 0 texts others files again lexed) g) in
    ap₂ (λ (kind : FaultKind) (at : Span). record { kind = kind; at = at }) once.0 once.1

pub no_fault : (texts : List (List ℕ)) (p : Program) (fault : Fault) → HaveTypedProgram texts p
    → HaveFault texts fault → ⊥
no_fault texts p fault (units, have, is) faulty =
    (one_answer units (end_of texts)).1.fault p fault is (typing_fault texts units fault have faulty)

pub within : (texts : List (List ℕ)) (p : Program) (excess : Excess) → HaveTypedProgram texts p
    → Exceed texts excess → ⊥
within texts p excess (units, have, is) h = not_above (above_or_many texts excess h)
  where
    not_above : (WithUnits texts (λ us. AreTold us excess) ⊎ (HaveManyTokens texts × (excess ≡ ManyTokens))) → ⊥
    not_above (inl told) =
        let there : AreTold units excess = here (λ (us : List (List ExternalTree)). AreTold us excess) texts units have
        told in
        (one_answer units (end_of texts)).1.limit p there.limit is there.above
    not_above (inr (many, e)) = not_many texts units have many

many_or_fault : (texts : List (List ℕ)) (fault : Fault) → HaveFault texts fault → HaveManyTokens texts → ⊥
many_or_fault texts fault (inl h) many = lexical_or_limit texts fault h many
many_or_fault texts fault (inr (inl (files, lexed, most, h))) many =
    omega (arith, stand_fewer 0 texts 0x10001 files many lexed, most)
many_or_fault texts fault (inr (inr (units, have, h))) many = not_many texts units have many

pub fault_or_limit : (texts : List (List ℕ)) (fault : Fault) (excess : Excess) → HaveFault texts fault
    → Exceed texts excess → ⊥
fault_or_limit texts fault excess faulty h = neither (above_or_many texts excess h)
  where
    neither : (WithUnits texts (λ us. AreTold us excess) ⊎ (HaveManyTokens texts × (excess ≡ ManyTokens))) → ⊥
    neither (inl (units, have, told)) =
        (one_answer units (end_of texts)).1.both fault told.limit (typing_fault texts units fault have faulty)
        told.above
    neither (inr (many, e)) = many_or_fault texts fault faulty many
