-- Words read one after another, where all are read.
use Rattle.std.proofs.Common.{◌≡◌, ℕ, ◌+◌, ◌<◌, ◌≤◌, List, [], ◌∷◌, ◌++◌, length, get_or, drop, Option, Some, None}
use Rattle.std.proofs.Common.{option_map, refl, sym, ap, ◌∙◌, append_assoc, append-nil}
use Rattle.std.specs.Borrow.{Bor}
use Rattle.std.proofs.lemmas.List.{drop_more, drop_all}
use Rattle.ia32_insn.specs.Reading.{◌>>=◌}
use Rattle.map_text.specs.Fields.{all_in}
use Rattle.map_reader.specs.Views.{texts}

-- what is read, behind these
abbrev pub behind : {X : Type 0} → List X → Option (List X) → Option (List X)
behind front read = option_map (λ others. front ++ others) read

-- none are behind none
pub none_so_far : {X : Type 0} (read : Option (List X)) → behind [] read ≡ read
none_so_far None = refl
none_so_far (Some xs) = refl

behind-next : {X : Type 0} (front : List X) (x : X) (read : Option (List X))
    → behind (front ++ x ∷ []) read ≡ behind front (read >>= (λ others. Some (x ∷ others)))
behind-next front x None = refl
behind-next front x (Some xs) = ap Some (append_assoc front (x ∷ []) xs)

next-texts : (words : List (Bor (List ℕ))) (i : ℕ) (d : Bor (List ℕ)) → i < length words
    → texts (drop i words) ≡ (get_or words i d).now ∷ texts (drop (i + 1) words)
next-texts words i d lt = ap texts (drop_more words i d lt)

-- the next word is read
pub one_more : {X : Type 0} (read : List ℕ → Option X) (words : List (Bor (List ℕ))) (i : ℕ) (d : Bor (List ℕ))
    (front new : List X) (x : X) (all : Option (List X)) → i < length words
    → behind front (all_in read (texts (drop i words))) ≡ all → Some x ≡ read (get_or words i d).now
    → new ≡ front ++ x ∷ [] → behind new (all_in read (texts (drop (i + 1) words))) ≡ all
one_more {X = X} read words i d front new x all lt so is put =
    let rest = all_in read (texts (drop (i + 1) words)) in
    ap (λ (f : List X). behind f rest) put
    ∙ behind-next front x rest
    ∙ ap (λ (o : Option X). behind front (o >>= (λ first. rest >>= (λ others. Some (first ∷ others))))) is
    ∙ ap (λ (ws : List (List ℕ)). behind front (all_in read ws)) (sym (next-texts words i d lt))
    ∙ so

-- the next word isn't read
pub no_more : {X : Type 0} (read : List ℕ → Option X) (words : List (Bor (List ℕ))) (i : ℕ) (d : Bor (List ℕ))
    (front : List X) (all : Option (List X)) → i < length words
    → behind front (all_in read (texts (drop i words))) ≡ all → None ≡ read (get_or words i d).now → None ≡ all
no_more {X = X} read words i d front all lt so is =
    let rest = all_in read (texts (drop (i + 1) words)) in
    ap (λ (o : Option X). behind front (o >>= (λ first. rest >>= (λ others. Some (first ∷ others))))) is
    ∙ ap (λ (ws : List (List ℕ)). behind front (all_in read ws)) (sym (next-texts words i d lt))
    ∙ so

-- all words were read
pub all_read : {X : Type 0} (read : List ℕ → Option X) (words : List (Bor (List ℕ))) (i : ℕ) (front : List X)
    (all : Option (List X)) → length words ≤ i → behind front (all_in read (texts (drop i words))) ≡ all
    → Some front ≡ all
all_read read words i front all past so =
    ap Some (sym (append-nil front))
    ∙ ap (λ (ws : List (Bor (List ℕ))). behind front (all_in read (texts ws))) (sym (drop_all i words past))
    ∙ so
