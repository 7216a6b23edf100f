use Rattle.std.proofs.Common.{◌≡◌, ◌≤◌, ◌-◌, List, [], ◌∷◌, ◌++◌, length, take, drop, refl, sym, ◌∙◌, ap, subst, arith}
use Rattle.std.proofs.Common.{ℕ}
use Rattle.std.proofs.lemmas.List.{take_rest, length-drop}
use Rattle.c_lex.specs.Characters.{ReadsFront, read_character}
use Rattle.c_lex.specs.declared.quotes.Reading.TheVariants.{Character}
use Rattle.c_lex.proofs.LiteralReading.{reads_more}
use Rattle.c_lex.proofs.quotes.inside_at.Goals as goal

-- the invariant where what is left is a part of the slice
left_step : (q : ℕ) (text before after left now : List ℕ) (v n : ℕ) → ReadsFront q text before left
    × (length left ≤ length text) → Character v n ≡ read_character q left → v ≤ 255 → after ≡ before ++ v ∷ []
    → now ≡ take (length left - n) (drop n left) → ReadsFront q text after now × (length now ≤ length text)
left_step q text before after left now v n h e small pushed cut =
    let rest : now ≡ drop n left = cut ∙ take_rest left n in
    let reads : ReadsFront q text (before ++ v ∷ []) (drop n left) =
    reads_more q text before left v n h.0 (sym e) small in
    let there : ReadsFront q text after (drop n left) =
    subst (λ (vs : List ℕ). ReadsFront q text vs (drop n left)) (sym pushed) reads in (
      subst (λ (r : List ℕ). ReadsFront q text after r) (sym rest) there,
      omega (arith, ap length rest, length-drop n left, h.1),
    )

pub loop-value-preserved : goal.loop-value-preserved
loop-value-preserved c =
    left_step c.args.quote c.args.text.now c.loop-value.values.items c.push.new.self.items c.loop-value.left.now _
    c.in-Character.value c.in-Character.length c.loop-value.invariant c.in-Character.ensures.reading (omega arith)
    c.in_ok-push-in-Character.ensures.items refl
