-- Where the routines stand in the text of a program.
use Rattle.std.proofs.Common.{◌≡◌, ℕ, ◌+◌, List, [], ◌++◌, length, refl, sym, ap, ◌∙◌, arith, append_assoc}
use Rattle.std.proofs.Common.{length-append}
use Rattle.std.proofs.lemmas.List.{append-nil}
use Rattle.ia32_insn.specs.Items.{IsText, Places, check_items, exit_items, getchar_items, putchar_items, text_start}
use Rattle.ia32_rows.specs.Placements.{Code, objects_of}
use Rattle.ia32_rows.specs.Sites.{StandsFrom}
use Rattle.ia32_laws.specs.Supports.{IsSupported, site_of}

abbrev TextOf : Code → Type 0
TextOf code =
    IsText code.items code.order (objects_of code.program) code.program.main code.places code.symbols code.text

abbrev places_in : Code → ℕ → Places
places_in code f = (site_of code f).places

pub putchar-stands : (code : Code) (f : ℕ) → IsSupported code
    → StandsFrom (site_of code f) putchar_items code.symbols.putchar
putchar-stands code f h =
    let t : TextOf code = h.is_code.text in
    record {
      bytes = t.putchar;
      here = record {
        done = t.start ++ t.code;
        rest = t.getchar ++ t.exit ++ t.check;
        whole = t.whole ∙ apart (t.start ++ t.code) t.putchar t.getchar t.exit t.check;
        place = t.putchar_is;
      };
      stand = t.putchar_at (places_in code f);
    }
  where
    apart : (a b c d e : List ℕ) → a ++ b ++ c ++ d ++ e ≡ a ++ (b ++ (c ++ d ++ e))
    apart a b c d e = simp append_assoc refl

pub getchar-stands : (code : Code) (f : ℕ) → IsSupported code
    → StandsFrom (site_of code f) getchar_items code.symbols.getchar
getchar-stands code f h =
    let t : TextOf code = h.is_code.text in
    let long = length-append (t.start ++ t.code) t.putchar in
    record {
      bytes = t.getchar;
      here = record {
        done = t.start ++ t.code ++ t.putchar;
        rest = t.exit ++ t.check;
        whole = t.whole ∙ apart (t.start ++ t.code ++ t.putchar) t.getchar t.exit t.check;
        place = t.getchar_is
            ∙ behind text_start (length (t.start ++ t.code)) (length t.putchar) code.symbols.putchar
            (length (t.start ++ t.code ++ t.putchar)) t.putchar_is long;
      };
      stand = t.getchar_at (places_in code f);
    }
  where
    apart : (a b c d : List ℕ) → a ++ b ++ c ++ d ≡ a ++ (b ++ (c ++ d))
    apart a b c d = simp append_assoc refl

    behind : (start a b p n : ℕ) → p ≡ start + a → n ≡ a + b → p + b ≡ start + n
    behind start a b p n e h = omega arith

pub exit-stands : (code : Code) (f : ℕ) → IsSupported code
    → StandsFrom (site_of code f) exit_items code.symbols.exit
unfolding getchar-stands
exit-stands code f h =
    let t : TextOf code = h.is_code.text in
    let before = getchar-stands code f h in
    let place = before.here.place in
    let long = length-append (t.start ++ t.code ++ t.putchar) t.getchar in
    record {
      bytes = t.exit;
      here = record {
        done = t.start ++ t.code ++ t.putchar ++ t.getchar;
        rest = t.check;
        whole = t.whole ∙ apart (t.start ++ t.code ++ t.putchar ++ t.getchar) t.exit t.check;
        place = t.exit_is
            ∙ behind text_start (length (t.start ++ t.code ++ t.putchar)) (length t.getchar) code.symbols.getchar
            (length (t.start ++ t.code ++ t.putchar ++ t.getchar)) place long;
      };
      stand = t.exit_at (places_in code f);
    }
  where
    apart : (a b c : List ℕ) → a ++ b ++ c ≡ a ++ (b ++ c)
    apart a b c = append_assoc a b c

    behind : (start a b p n : ℕ) → p ≡ start + a → n ≡ a + b → p + b ≡ start + n
    behind start a b p n e h = omega arith

pub check-stands : (code : Code) (f : ℕ) → IsSupported code
    → StandsFrom (site_of code f) check_items code.symbols.check
unfolding exit-stands
check-stands code f h =
    let t : TextOf code = h.is_code.text in
    let before = exit-stands code f h in
    let place = before.here.place in
    let long = length-append (t.start ++ t.code ++ t.putchar ++ t.getchar) t.exit in
    record {
      bytes = t.check;
      here = record {
        done = t.start ++ t.code ++ t.putchar ++ t.getchar ++ t.exit;
        rest = [];
        whole = t.whole
            ∙ ap (λ (l : List ℕ). (t.start ++ t.code ++ t.putchar ++ t.getchar ++ t.exit) ++ l)
            (sym (append-nil t.check));
        place = t.check_is
            ∙ behind text_start (length (t.start ++ t.code ++ t.putchar ++ t.getchar)) (length t.exit) code.symbols.exit
            (length (t.start ++ t.code ++ t.putchar ++ t.getchar ++ t.exit)) place long;
      };
      stand = t.check_at (places_in code f);
    }
  where
    behind : (start a b p n : ℕ) → p ≡ start + a → n ≡ a + b → p + b ≡ start + n
    behind start a b p n e h = omega arith
