-- The lines of objects, functions, arrays and variables: their words one after another.
use Rattle.std.proofs.Common.{◌≡◌, ℕ, List, [], ◌∷◌, ◌++◌, codes, decimal, sym, ap, ◌∙◌, append_assoc, append-nil}
use Rattle.pcc_base.specs.Ascii.{minus, newline, space}
use Rattle.pcc_base.specs.declared.run.Width.{Width}
use Rattle.map_text.specs.Maps.{Named}
use Rattle.map_text.specs.Words.{ArrayLine, FunctionLine, ObjectLine, VariableLine, address_text, each_spaced}
use Rattle.map_text.specs.Words.{line_text, named_text, spaced, width_text}
use Rattle.map_text.proofs.Printed.{four_pushed, more-pushed, word_pushed}
use Rattle.map_text.proofs.PrintedLines.{line-made}

four-words : (old first a b c d : List ℕ)
    → old ++ first ++ each_spaced (a ∷ []) ++ each_spaced (b ∷ []) ++ each_spaced (c ∷ []) ++ each_spaced (d ∷ [])
    ++ newline ∷ []
    ≡ old ++ (spaced (first ∷ a ∷ b ∷ c ∷ d ∷ []) ++ newline ∷ [])
four-words old first a b c d =
    ap (λ (t : List ℕ). t ++ newline ∷ []) (four_pushed (old ++ first) a b c d)
    ∙ line-made old first (each_spaced (a ∷ b ∷ c ∷ d ∷ []))

pub object_pushed : (old : List ℕ) (n a c b : ℕ)
    → old ++ codes "object" ++ each_spaced (decimal n ∷ []) ++ each_spaced (address_text a ∷ [])
    ++ each_spaced (decimal c ∷ []) ++ each_spaced (decimal b ∷ []) ++ newline ∷ []
    ≡ old ++ line_text (ObjectLine n a c b)
object_pushed old n a c b = four-words old (codes "object") (decimal n) (address_text a) (decimal c) (decimal b)

pub function_pushed : (old : List ℕ) (n : ℕ) (name : List ℕ) (f : ℕ)
    → old ++ codes "function" ++ each_spaced (decimal n ∷ []) ++ each_spaced (name ∷ [])
    ++ each_spaced (codes "frame" ∷ []) ++ each_spaced (decimal f ∷ []) ++ newline ∷ []
    ≡ old ++ line_text (FunctionLine n name f)
function_pushed old n name f = four-words old (codes "function") (decimal n) name (codes "frame") (decimal f)

pub offset_pushed : (old : List ℕ) (n : ℕ) → old ++ codes " -" ++ decimal n ≡ old ++ each_spaced ((minus ∷ decimal n) ∷ [])
offset_pushed old n =
    append_assoc old (codes " -") (decimal n)
    ∙ ap (λ (t : List ℕ). old ++ (space ∷ minus ∷ t)) (sym (append-nil (decimal n)))

pub array_pushed : (old : List ℕ) (n d c b : ℕ)
    → old ++ codes "array" ++ each_spaced (decimal n ∷ []) ++ each_spaced ((minus ∷ decimal d) ∷ [])
    ++ each_spaced (decimal c ∷ []) ++ each_spaced (decimal b ∷ []) ++ newline ∷ []
    ≡ old ++ line_text (ArrayLine n d c b)
array_pushed old n d c b =
    four-words old (codes "array") (decimal n) (minus ∷ decimal d) (decimal c) (decimal b)

pub variable_pushed : (old : List ℕ) (n : ℕ) (w : Width) (x : Named)
    → old ++ codes "var" ++ each_spaced (decimal n ∷ []) ++ each_spaced (width_text w ∷ []) ++ codes " " ++ named_text x
    ++ newline ∷ []
    ≡ old ++ line_text (VariableLine n w x)
variable_pushed old n w x =
    ap (λ (t : List ℕ). t ++ newline ∷ [])
    (word_pushed (old ++ codes "var" ++ each_spaced (decimal n ∷ []) ++ each_spaced (width_text w ∷ [])) (named_text x)
    ∙ ap (λ (t : List ℕ). t ++ each_spaced (named_text x ∷ []))
    (more-pushed (old ++ codes "var") (decimal n ∷ []) (width_text w ∷ []))
    ∙ more-pushed (old ++ codes "var") (decimal n ∷ width_text w ∷ []) (named_text x ∷ []))
    ∙ line-made old (codes "var") (each_spaced (decimal n ∷ width_text w ∷ named_text x ∷ []))
