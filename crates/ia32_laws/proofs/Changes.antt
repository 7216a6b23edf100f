-- The machine follows the ops that change one word.
use Rattle.std.proofs.Common.{◌≡◌, ℕ, false, ◌+◌, ◌-◌, ◌%◌, ◌^◌, ◌<◌, ◌≤◌, ℤ, ◌-ℤ◌, neg_ℤ, List, Option}
use Rattle.std.proofs.Common.{Some}
use Rattle.std.proofs.Common.{inl, refl, sym, ap, subst, ◌∙◌, arith}
use Rattle.std.specs.Prelude.{FitsSigned}
use Rattle.std.specs.Int.{w8, w32, cast_signed, cast_unsigned, int_bit_not, int_wrap}
use Rattle.std.proofs.lemmas.Int.{ints, to_z-of_z, of_z-to_z, wrapping_sub-bits, SFits-int_wrap}
use Rattle.pcc_base.specs.Outcome.{Number}
use Rattle.pcc_base.specs.declared.run.Width.{Width}
use Rattle.pcc_base.specs.declared.run.Width.TheVariants.{One, Two}
use Rattle.ia32_insn.specs.Places.{Place}
use Rattle.ia32_insn.specs.declared.insn.Insn.TheVariants as insn
use Rattle.ia32_insn.specs.declared.item.Item.{Item}
use Rattle.ia32_insn.specs.State as machine
use Rattle.ia32_insn.specs.Arithmetic.{complement, extended8, negation}
use Rattle.flow_graph.specs.declared.op.Op.{Op}
use Rattle.flow_graph.specs.declared.op.Op.TheVariants as op
use Rattle.flow_graph.specs.Graphs.{HasWidth, IsIn}
use Rattle.flow_graph.specs.Liveness.{IsBehind, LeadsTo, defined, uses}
use Rattle.flow_graph.specs.Meaning.{given, sets, zero_extended}
use Rattle.flow_graph.specs.States as graph
use Rattle.flow_graph.specs.States.{active_of, flow_at, number_of, op_at, value_at}
use Rattle.flow_graph.specs.WellFormed.{IsState}
use Rattle.flow_graph.proofs.Numbers.{byte-word, extended-fits, not-fits}
use Rattle.ia32_laws.proofs.Landing.{FollowsKept, followed}
use Rattle.ia32_rows.specs.Placements.{Code, placement_of}
use Rattle.ia32_rows.specs.Shows.{Shows, StandsIn}
use Rattle.ia32_rows.specs.Sites.{Framed, Site}
use Rattle.ia32_rows.specs.Contains.{Contains, HoldsWord, IsPlaceIn}
use Rattle.ia32_rows.specs.Laws.{Puts}
use Rattle.ia32_rows.specs.Rows.{changing, widening}
use Rattle.ia32_rows.proofs.Unary.{complement-puts, extension-puts, negation-puts, zero_extension-puts}
use Rattle.ia32_laws.specs.Supports.{HoldsWidth, IsSupported, site_of}
use Rattle.ia32_laws.specs.KeepsOps.{ComplementFollows, ExtensionFollows, NegationFollows, RowAt, after_at}
use Rattle.ia32_laws.specs.KeepsOps.{ZeroExtensionFollows, before_at}
use Rattle.ia32_laws.proofs.Shown.{point-supported}
use Rattle.ia32_laws.proofs.Zones.{shown-in-frame}
use Rattle.ia32_laws.proofs.Puts.{IsLow, puts-follow}
use Rattle.ia32_insn.specs.declared.register_names.Reg32.TheVariants.{Ebp}
use Rattle.ia32_insn.specs.Meaning.{word_of}
use Rattle.ia32_laws.proofs.Small.{byte-in, byte-small}
use Rattle.ia32_laws.proofs.Numbers.{zero-extension-is}
use Rattle.ia32_laws.proofs.Words.{word-fits}
use Rattle.ia32_laws.proofs.Ops.{at-after, at-before, given-number, has-number, op-is}

-- ---- words

-- What a change makes of the word of a number is the word of what the function makes of the number.
record IsChangedBy (how : ℕ → ℕ) (f : ℤ → ℤ) : Type 0 where
  fits : (x : ℤ) → FitsSigned w32 x → FitsSigned w32 (f x)
  word : (x : ℤ) → FitsSigned w32 x → cast_unsigned w32 (f x) ≡ how (cast_unsigned w32 x)

-- NEG
negated : IsChangedBy negation (λ n. int_wrap w32 (neg_ℤ n))
negated =
    record {
      fits = λ x f. SFits-int_wrap w32 (neg_ℤ x);
      word = λ x f. word x f;
    }
  where
    from-zero : (x : ℤ) → neg_ℤ x ≡ cast_signed w32 0 -ℤ x
    from-zero x = omega (arith, ints)

    word : (x : ℤ) → FitsSigned w32 x → cast_unsigned w32 (int_wrap w32 (neg_ℤ x)) ≡ negation (cast_unsigned w32 x)
    word x f =
        let n : ℕ = cast_unsigned w32 x in
        let small = word-fits x f in
        let bits = wrapping_sub-bits w32 0 n (omega arith) small in
        let same : neg_ℤ x ≡ cast_signed w32 0 -ℤ cast_signed w32 n =
        from-zero x ∙ ap (λ (z : ℤ). cast_signed w32 0 -ℤ z) (sym (to_z-of_z w32 x f)) in
        let back : cast_unsigned w32 (int_wrap w32 (neg_ℤ x)) ≡ (0 + (0x1_0000_0000 - n)) % 0x1_0000_0000 =
        ap (λ (z : ℤ). cast_unsigned w32 (int_wrap w32 z)) same ∙ ap (cast_unsigned w32) (sym bits)
        ∙ of_z-to_z w32 ((0 + (0x1_0000_0000 - n)) % 0x1_0000_0000) (omega arith) in
        back
        ∙ ap (λ (k : ℕ). k % 0x1_0000_0000) (let e : 0 + (0x1_0000_0000 - n) ≡ 0x1_0000_0000 - n = omega arith in e)

-- NOT
complemented : IsChangedBy complement (int_bit_not w32)
complemented =
    record {
      fits = λ x f. not-fits x;
      word = λ x f. of_z-to_z w32 (complement (cast_unsigned w32 x)) (omega arith);
    }

-- ---- ops

unary-follows : (how : ℕ → ℕ) (Row : Place → Place → List Item) (f : ℤ → ℤ) (o : Op) (d a : ℕ) (code : Code)
    (input : List ℕ) (g : graph.State) (s : machine.State)
    → ((site : Site) (frame : ℕ) (p q : Place) (x : ℕ) (m : machine.State) → Framed site frame m → 16 ≤ frame
    → IsPlaceIn frame p → HoldsWord q → IsPlaceIn frame q → Contains m Two q x → x < 2 ^ 32
    → (u : machine.State) × Puts site frame (Row p q) p (how x) m u)
    → IsChangedBy how f → defined o ≡ Some d → IsIn a (uses o)
    → ((next : ℕ) → IsBehind (flow_at code.program g.current.function) g.point next
    → LeadsTo (flow_at code.program g.current.function) g.point next o)
    → HasWidth (flow_at code.program g.current.function) d Two
    → HasWidth (flow_at code.program g.current.function) a Two → IsSupported code → IsState code.program g
    → Shows code input g s → op_at code.program g ≡ Some o → RowAt code g (Row (after_at code g d) (before_at code g
    a)) s
    → FollowsKept code input s g false (given (number_of (value_at g a)) (λ x. sets code.program g d (Number (f x))))
unary-follows how Row f o d a code input g s puts changed sets_d reads_a leads wd wa supported state shown has r =
    given-number (FollowsKept code input s g false) (value_at g a) (λ x. sets code.program g d (Number (f x))) tt
    (λ x e.
    let here = point-supported code g o supported state has in
    let (place, at) = here.written d sets_d in
    let for = here.after d place at in
    let framed = (shown-in-frame code input g s supported state shown).framed in
    let four = (supported.supports g.current.function state.active.0.function).four_words in
    let one = has-number code input g s o a x supported state shown has reads_a wa e in
    let low : IsLow code (active_of g) shown.frames (Some Two) (Number (f x)) (how (cast_unsigned w32 x)) =
    (changed.fits x one.fits, sym (changed.word x one.fits)) in
    puts-follow code input g s o d (how (cast_unsigned w32 x)) (Number (f x)) place (Row place one.place) supported
    state
    shown has sets_d leads
    (at-before code g s a one.place (λ p. Row place p) one.at
    (at-after code g s d place (λ p. Row p (before_at code g a)) at r)) at
    (puts (site_of code g.current.function) (placement_of code g.current.function).frame place one.place
    (cast_unsigned w32 x) s framed four for.inside one.holds one.inside one.contains (word-fits x one.fits))
    (subst (λ (v : Option Width). IsLow code (active_of g) shown.frames v (Number (f x)) (how (cast_unsigned w32 x)))
    (sym wd) low) tt)

pub negation-follows : NegationFollows
negation-follows d a code input g s supported state shown has r =
    followed code input g s (op.Neg d a) false supported state has (
    let fits = (op-is code g (op.Neg d a) supported state has).fits in
    unary-follows negation (changing insn.Neg) _ (op.Neg d a) d a code input g s negation-puts negated refl (inl refl)
    (λ next h. h) fits.0 fits.1.0 supported state shown has r)

pub complement-follows : ComplementFollows
complement-follows d a code input g s supported state shown has r =
    followed code input g s (op.Not d a) false supported state has (
    let fits = (op-is code g (op.Not d a) supported state has).fits in
    unary-follows complement (changing insn.Not) _ (op.Not d a) d a code input g s complement-puts complemented refl
    (inl refl) (λ next h. h) fits.0 fits.1.0 supported state shown has r)

-- ---- a byte to a word

-- the word of a byte with its sign is that of its number
extended-word : (n : ℤ) (b : ℕ) → FitsSigned w8 n → b ≡ cast_unsigned w8 n → cast_unsigned w32 n ≡ extended8 b
extended-word n b fits is =
    ap (cast_unsigned w32) (sym (to_z-of_z w8 n fits)) ∙ ap (λ (k : ℕ). cast_unsigned w32 (cast_signed w8 k)) (sym is)

pub extension-follows : ExtensionFollows
extension-follows d a code input g s supported state shown has r =
    followed code input g s (op.Wide d a) false supported state has (
    given-number (FollowsKept code input s g false) (value_at g a) (λ x. sets code.program g d (Number x)) tt (λ x e.
    let o : Op = op.Wide d a in
    let here = point-supported code g o supported state has in
    let fits = (op-is code g o supported state has).fits in
    let (to, at) = here.written d refl in
    let (from, before) = here.read a (inl refl) in
    let for_to = here.after d to at in
    let for_from = here.before a from before in
    let framed = (shown-in-frame code input g s supported state shown).framed in
    let four = (supported.supports g.current.function state.active.0.function).four_words in
    let two : HoldsWidth (Some One) from = subst (λ (w : Option Width). HoldsWidth w from) fits.1.0 for_from.holds in
    let stands = subst (λ (w : Option Width).
    StandsIn code (active_of g) shown.frames s (word_of Ebp s) w (Number x) from) fits.1.0
    (shown.variables a (Number x) from e before) in
    let (b, contains, byte) = byte-in code g shown.frames s from (Number x) two stands in
    let low : IsLow code (active_of g) shown.frames (Some Two) (Number x) (extended8 b) =
    (byte-word x byte.0, sym (extended-word x b byte.0 byte.1)) in
    puts-follow code input g s o d (extended8 b) (Number x) to (widening insn.MovSx8 to from) supported state shown has refl
    (λ next h. h)
    (at-before code g s a from (λ p. widening insn.MovSx8 to p) before
    (at-after code g s d to (λ p. widening insn.MovSx8 p (before_at code g a)) at r)) at
    (extension-puts (site_of code g.current.function) (placement_of code g.current.function).frame to from b s framed
    four
    for_to.inside for_from.inside contains (byte-small (Number x) b byte))
    (subst (λ (v : Option Width). IsLow code (active_of g) shown.frames v (Number x) (extended8 b)) (sym fits.0) low)
    tt))

-- ---- a byte without its sign

pub zero-extension-follows : ZeroExtensionFollows
zero-extension-follows d a code input g s supported state shown has r =
    followed code input g s (op.Zero d a) false supported state has (
    given-number (FollowsKept code input s g false) (value_at g a)
    (λ x. sets code.program g d (Number (zero_extended x))) tt (λ x e.
    let o : Op = op.Zero d a in
    let here = point-supported code g o supported state has in
    let fits = (op-is code g o supported state has).fits in
    let (to, at) = here.written d refl in
    let (from, before) = here.read a (inl refl) in
    let for_to = here.after d to at in
    let for_from = here.before a from before in
    let framed = (shown-in-frame code input g s supported state shown).framed in
    let four = (supported.supports g.current.function state.active.0.function).four_words in
    let two : HoldsWidth (Some One) from = subst (λ (w : Option Width). HoldsWidth w from) fits.1.0 for_from.holds in
    let stands = subst (λ (w : Option Width).
    StandsIn code (active_of g) shown.frames s (word_of Ebp s) w (Number x) from) fits.1.0
    (shown.variables a (Number x) from e before) in
    let (b, contains, byte) = byte-in code g shown.frames s from (Number x) two stands in
    let low : IsLow code (active_of g) shown.frames (Some Two) (Number (zero_extended x)) b =
    (extended-fits x, byte.1 ∙ sym (zero-extension-is x byte.0)) in
    puts-follow code input g s o d b (Number (zero_extended x)) to (widening insn.MovZx8 to from) supported state shown
    has refl (λ next h. h)
    (at-before code g s a from (λ p. widening insn.MovZx8 to p) before
    (at-after code g s d to (λ p. widening insn.MovZx8 p (before_at code g a)) at r)) at
    (zero_extension-puts (site_of code g.current.function) (placement_of code g.current.function).frame to from b s
    framed four for_to.inside for_from.inside contains (byte-small (Number x) b byte))
    (subst (λ (v : Option Width). IsLow code (active_of g) shown.frames v (Number (zero_extended x)) b) (sym fits.0) low)
    tt))
