-- A part of some bytes at their front, and readings that find parts.
use Rattle.std.specs.Prelude.{◌≡◌, ℕ, ◌≤◌, List, ◌++◌, length, take, drop, Option, Some, None, IfSome}
use Rattle.std.proofs.Common.{sym, ◌∙◌, ap, subst, arith}
use Rattle.std.proofs.Math.Seq.{take-append_seam}
use Rattle.std.proofs.lemmas.List.{take-append-drop, length-take-le, length-append}
use Rattle.ia32_insn.specs.Reading.{◌>>=◌}

-- n bytes at the front of which something holds
pub record Part (P : List ℕ → Type 0) (n : ℕ) (bytes : List ℕ) : Type 0 where
  pub front : List ℕ
  pub after : List ℕ
  pub bytes_are : bytes ≡ front ++ after
  pub count : n ≡ length front
  pub holds : P front

-- the first n bytes are a part
pub Part-take : (P : List ℕ → Type 0) (n : ℕ) (bytes : List ℕ) → n ≤ length bytes → P (take n bytes) → Part P n bytes
Part-take P n bytes room holds =
    record {
      front = take n bytes;
      after = drop n bytes;
      bytes_are = sym (take-append-drop n bytes);
      count = sym (length-take-le n bytes room);
      holds = holds;
    }

-- and a part is the first n bytes
pub take-Part : (P : List ℕ → Type 0) (n : ℕ) (bytes : List ℕ) → Part P n bytes → (n ≤ length bytes) × P (take n bytes)
take-Part P n bytes p =
    let size : length bytes ≡ length (p.front ++ p.after) = ap length p.bytes_are in
    let room : n ≤ length bytes = omega (arith, size, length-append p.front p.after, p.count) in
    let same : p.front ≡ take n bytes =
    sym (take-append_seam p.front p.after) ∙ ap (λ (bs : List ℕ). take (length p.front) bs) (sym p.bytes_are) ∙ ap
    (λ (k : ℕ). take k bytes) (sym p.count) in
    (room, subst P same p.holds)

-- what holds of what a second part reads, where it holds of each first part
pub then_holds : {A B : Type 0} (o : Option A) (f : A → Option B) (P : A → Type 0) (Q : B → Type 0) → IfSome o P
    → ((x : A) → P x → IfSome (f x) Q) → IfSome (o >>= f) Q
then_holds None f P Q h next = tt
then_holds (Some x) f P Q h next = next x h

-- what a second part reads, where the first is known
pub then_reads : {A B : Type 0} (o : Option A) (f : A → Option B) (x : A) → o ≡ Some x → (o >>= f) ≡ f x
then_reads o f x e = ap (λ v. v >>= f) e
