-- Known bytes over a write of pieces, and over a read up to a limit.
use Rattle.std.proofs.Common.{ℕ, ◌≡◌, ◌<◌, ◌≤◌, ◌+◌, ◌-◌, List, [], ◌++◌, length, take, drop, Option, Some, None}
use Rattle.std.proofs.Common.{IfSome, option_map, arith, ap, sym, subst, ◌∙◌, length-drop}
use Rattle.std.proofs.Math.Seq.{take-add}
use Rattle.std.proofs.lemmas.List.{take_all, length-take}
use Rattle.std.proofs.KnownBytes.{Appends-trans}
use Rattle.std.specs.Io.KnownBytes.{Appends}

-- after the first k bytes, n more of the rest make the first k + n
pub appended_more : (a b c : Option (List ℕ)) (bytes : List ℕ) (k n : ℕ) → Appends a b (take k bytes)
    → Appends b c (take n (take (length bytes - k) (drop k bytes))) → Appends a c (take (k + n) bytes)
appended_more a b c bytes k n p q =
    let rest : take (length bytes - k) (drop k bytes) ≡ drop k bytes =
    take_all (length bytes - k) (drop k bytes) (omega (arith, length-drop k bytes)) in
    subst (λ xs. Appends a c xs) (sym (take-add k n bytes))
    (Appends-trans a b c (take k bytes) (take n (drop k bytes)) p (subst (λ xs. Appends b c (take n xs)) rest q))

-- what was received under a limit that it didn't reach is all that was left
whole : (known : Option (List ℕ)) (limit : ℕ) (items : List ℕ)
    → IfSome (option_map (take limit) known) (λ xs. items ≡ xs) → length items < limit
    → IfSome known (λ left. Some left ≡ Some items)
whole None limit items e p = tt
whole (Some left) limit items e p =
    let short : length left ≤ limit = omega (arith, length-take limit left, ap length e) in
    ap Some (sym (e ∙ take_all limit left short))

-- the same, for a reader whose bytes came behind none
pub whole_read : {R : Type 0} (remaining : R → Option (List ℕ)) (reader inner : R) (limit : ℕ) (old items : List ℕ)
    → inner ≡ reader → old ≡ [] → IfSome (option_map (take limit) (remaining inner)) (λ xs. items ≡ old ++ xs)
    → length items < limit → IfSome (remaining reader) (λ left. Some left ≡ Some items)
whole_read remaining reader inner limit old items same none e p =
    subst (λ r. IfSome (remaining r) (λ left. Some left ≡ Some items)) same
    (whole (remaining inner) limit items
    (subst (λ o. IfSome (option_map (take limit) (remaining inner)) (λ xs. items ≡ o ++ xs)) none e) p)
