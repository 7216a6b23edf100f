-- Texts that are put at the end, one after the other.
use Rattle.std.proofs.Common.{◌≡◌, ℕ, List, ◌++◌, ap, append_assoc, ◌∙◌}

-- three texts
pub put_three : (a b c old one two new : List ℕ) → one ≡ old ++ a → two ≡ one ++ b → new ≡ two ++ c → new ≡ old ++ (a ++ b ++ c)
put_three a b c old one two new p1 p2 p3 =
    rw (p3, p2, p1) (simp append_assoc)

-- five texts
pub put_five : (a b c d e old one two three four new : List ℕ) → one ≡ old ++ a → two ≡ one ++ b → three ≡ two ++ c → four ≡ three ++ d → new ≡ four ++ e → new ≡ old ++ (a ++ b ++ c ++ d ++ e)
put_five a b c d e old one two three four new p1 p2 p3 p4 p5 =
    rw (p5, p4, p3, p2, p1) (simp append_assoc)

-- eleven texts
pub put_eleven : (a b c d e f g h i j k old one two three four five six seven eight nine ten new : List ℕ) → one ≡ old ++ a → two ≡ one ++ b → three ≡ two ++ c → four ≡ three ++ d → five ≡ four ++ e → six ≡ five ++ f → seven ≡ six ++ g → eight ≡ seven ++ h → nine ≡ eight ++ i → ten ≡ nine ++ j → new ≡ ten ++ k → new ≡ old ++ (a ++ b ++ c ++ d ++ e ++ f ++ g ++ h ++ i ++ j ++ k)
put_eleven a b c d e f g h i j k old one two three four five six seven eight nine ten new p1 p2 p3 p4 p5 p6 p7 p8 p9 p10 p11 =
    rw (p11, p10, p9, p8, p7, p6, p5, p4, p3, p2, p1) (simp append_assoc)

-- a text that is made of a number, where the number is known as another one
pub put_same : (text : ℕ → List ℕ) (old new : List ℕ) (n m : ℕ) → new ≡ old ++ text n → n ≡ m → new ≡ old ++ text m
put_same text old new n m put is = put ∙ ap (λ k. old ++ text k) is
