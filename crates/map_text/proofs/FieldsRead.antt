-- The words of fields are plain, and read as what they write.
use Rattle.std.proofs.Common.{◌≡◌, ◌<◌, ℕ, ◌-◌, ◌^◌, Bool, true, false, if◌then◌else◌, List}
use Rattle.std.proofs.Common.{[], ◌∷◌, ◌++◌, codes, decimal, map, length, take, drop, bytes_eq, Option, Some, None}
use Rattle.std.proofs.Common.{◌⊎◌, inl, inr, option_map, refl, sym, ap, subst, ◌∙◌, arith, length-append}
use Rattle.std.specs.Bool.{Decides}
use Rattle.std.specs.List.{AllByRecursion}
use Rattle.std.proofs.Math.Seq.{take-append_seam, drop-append_seam}
use Rattle.std.proofs.lemmas.Bool.{eq-eqb}
use Rattle.std.proofs.lemmas.Fmt.{decimal_digit}
use Rattle.std.proofs.lemmas.Slice.Eq.{bytes_eq-Decides}
use Rattle.pcc_base.specs.Ascii.{minus, colon, dot, equals_sign}
use Rattle.pcc_base.specs.Names.{IsName}
use Rattle.pcc_base.specs.declared.run.Width.{Width}
use Rattle.pcc_base.specs.declared.run.Width.TheVariants.{One, Two}
use Rattle.puzzle_board.specs.declared.area.Area.{Area}
use Rattle.puzzle_board.specs.declared.area.Column.{Column}
use Rattle.puzzle_board.specs.declared.area.Column.TheVariants.{Both, Upper, Lower, Neither}
use Rattle.puzzle_board.specs.declared.piece.Kind.{Kind}
use Rattle.puzzle_board.specs.declared.piece.Kind.TheVariants.{X, Y, Z}
use Rattle.puzzle_board.specs.declared.piece.Piece.{Piece}
use Rattle.ia32_insn.specs.declared.register_names.Reg32.TheVariants.{Eax, Ecx, Edx, Ebx, Esp, Ebp, Esi, Edi}
use Rattle.ia32_insn.specs.declared.register_names.Reg8.TheVariants.{Al, Cl, Dl, Bl, Ah, Ch, Dh, Bh}
use Rattle.ia32_insn.specs.Places.{Place, InWord, InByte, InSlot, IsPlace}
use Rattle.ia32_insn.specs.Reading.{◌>>=◌}
use Rattle.flow_graph.specs.declared.op.Bits.{Bits}
use Rattle.flow_graph.specs.declared.op.Bits.TheVariants.{Eight, Sixteen, ThirtyTwo}
use Rattle.flow_graph.specs.declared.op.Comparison.{Comparison}
use Rattle.flow_graph.specs.declared.op.Comparison.TheVariants.{Eq, Ne, Lt, Le, Gt, Ge}
use Rattle.flow_graph.specs.declared.op.Order.{Order}
use Rattle.flow_graph.specs.declared.op.Order.TheVariants as order
use Rattle.map_text.specs.Fields.{cut_at, before, number_in, below_in, if_any_in}
use Rattle.map_text.specs.Fields.{bytes_in, width_in, bits_in, comparison_in, named_in, named_by, register_in, place_in}
use Rattle.map_text.specs.Fields.{order_in, standing_in, column_in, area_in, kind_in, width_of_digit, piece_in, all_in}
use Rattle.map_text.specs.Maps.{IsNumber, IsNamed, Named, NamesScalar, NamesArray, NamesIndex, Standing, Temporary}
use Rattle.map_text.specs.Words.{area_word, bits_text, column_letter, comparison_text, if_any_text, kind_letter}
use Rattle.map_text.specs.Words.{named_text, order_text, piece_word, place_text, standing_word, width_digit, width_text}
use Rattle.map_text.proofs.LineRules.{IsAnyNumber, IsStandingText}
use Rattle.map_text.proofs.Numbers.{below-read, number-read}
use Rattle.map_text.proofs.Plain.{Avoids, IsPlain, decimal-plain, digits-avoid, name-avoids, name-plain, plain-append}
use Rattle.map_text.proofs.Plain.{plain-tested}

-- ---- parts of a word

pub cut-found : (byte : ℕ) (xs ys : List ℕ) → Avoids byte xs → cut_at byte (xs ++ byte ∷ ys) ≡ Some (xs, ys)
cut-found byte [] ys avoids =
    ap (λ (t : Bool). if t then Some ([], ys) else option_map (λ parts. (byte ∷ parts.0, parts.1)) (cut_at byte ys))
    (eq-eqb byte byte refl)
cut-found byte (x ∷ xs) ys avoids =
    ap
    (λ (t : Bool).
    if t then Some ([], xs ++ byte ∷ ys)
    else option_map (λ parts. (x ∷ parts.0, parts.1)) (cut_at byte (xs ++ byte ∷ ys)))
    avoids.0
    ∙ ap (option_map (λ parts. (x ∷ parts.0, parts.1))) (cut-found byte xs ys avoids.1)

pub cut-none : (byte : ℕ) (xs : List ℕ) → Avoids byte xs → cut_at byte xs ≡ None
cut-none byte [] avoids = refl
cut-none byte (x ∷ xs) avoids =
    ap (λ (t : Bool). if t then Some ([], xs) else option_map (λ parts. (x ∷ parts.0, parts.1)) (cut_at byte xs)) avoids.0
    ∙ ap (option_map (λ parts. (x ∷ parts.0, parts.1))) (cut-none byte xs avoids.1)

same-bytes : (xs : List ℕ) → bytes_eq xs xs ≡ true
same-bytes xs = (bytes_eq-Decides xs xs).1 refl

other-bytes : (xs ys : List ℕ) → (xs ≡ ys → ⊥) → bytes_eq xs ys ≡ false
other-bytes xs ys other = go (bytes_eq xs ys) (bytes_eq-Decides xs ys)
  where
    go : (b : Bool) → Decides b (xs ≡ ys) → b ≡ false
    go true d = absurd (other (d.0 refl))
    go false d = refl

before-found : (xs back : List ℕ) → before back (xs ++ back) ≡ Some xs
before-found xs back =
    let long : length (xs ++ back) - length back ≡ length xs = omega (arith, length-append xs back) in
    ap
    (λ (k : ℕ). if bytes_eq (drop k (xs ++ back)) back then Some (take k (xs ++ back)) else None)
    long
    ∙ ap (λ (ys : List ℕ). if bytes_eq ys back then Some (take (length xs) (xs ++ back)) else None) (drop-append_seam xs back)
    ∙ ap (λ (t : Bool). if t then Some (take (length xs) (xs ++ back)) else None) (same-bytes back)
    ∙ ap Some (take-append_seam xs back)

-- ---- words of one kind

-- a number is no minus sign
number-no-minus : (n : ℕ) → IsNumber n → decimal n ≡ codes "-" → ⊥
number-no-minus n small e = absurd-first (digits-avoid minus n (λ h. omega arith) (omega arith)) e
  where
    absurd-first : Avoids minus (decimal n) → decimal n ≡ codes "-" → ⊥
    absurd-first avoids same = let h : Avoids minus (codes "-") = subst (Avoids minus) same avoids in absurd (cc (h.0))

pub if-any-read : (v : Option ℕ) → IsAnyNumber v → if_any_in (if_any_text v) ≡ Some v
unfolding if_any_in
if-any-read None ok = refl
if-any-read (Some n) ok =
    ap (λ (t : Bool). if t then Some None else option_map Some (number_in (decimal n)))
    (other-bytes (decimal n) (codes "-") (number-no-minus n ok))
    ∙ ap (option_map Some) (number-read n ok)

pub width-read : (w : Width) → width_in (width_text w) ≡ Some w
unfolding width_in
width-read One = refl
width-read Two = refl

pub bits-read : (b : Bits) → bits_in (bits_text b) ≡ Some b
unfolding bits_in
bits-read Eight = refl
bits-read Sixteen = refl
bits-read ThirtyTwo = refl

pub comparison-read : (c : Comparison) → comparison_in (comparison_text c) ≡ Some c
unfolding comparison_in
comparison-read Eq = refl
comparison-read Ne = refl
comparison-read Lt = refl
comparison-read Le = refl
comparison-read Gt = refl
comparison-read Ge = refl

pub order-read : (o : Order) → order_in (order_text o) ≡ Some o
unfolding order_in
order-read order.Lt = refl
order-read order.Le = refl
order-read order.Gt = refl
order-read order.Ge = refl

-- the bytes of an element
bytes-known : (n : ℕ) (w : List ℕ) → decimal n ≡ w → bytes_in w ≡ Some n → bytes_in (decimal n) ≡ Some n
bytes-known n w e is = ap bytes_in e ∙ is

one-byte : bytes_in (codes "1") ≡ Some 1
unfolding bytes_in
one-byte = refl

two-bytes : bytes_in (codes "2") ≡ Some 2
unfolding bytes_in
two-bytes = refl

four-bytes : bytes_in (codes "4") ≡ Some 4
unfolding bytes_in
four-bytes = refl

pub bytes-read : (n : ℕ) → (n ≡ 1) ⊎ ((n ≡ 2) ⊎ (n ≡ 4)) → bytes_in (decimal n) ≡ Some n
bytes-read n (inl e) =
    subst (λ (k : ℕ). bytes_in (decimal k) ≡ Some k) (sym e)
    (bytes-known 1 (codes "1") (decimal_digit 1 (omega arith)) one-byte)
bytes-read n (inr (inl e)) =
    subst (λ (k : ℕ). bytes_in (decimal k) ≡ Some k) (sym e)
    (bytes-known 2 (codes "2") (decimal_digit 2 (omega arith)) two-bytes)
bytes-read n (inr (inr e)) =
    subst (λ (k : ℕ). bytes_in (decimal k) ≡ Some k) (sym e)
    (bytes-known 4 (codes "4") (decimal_digit 4 (omega arith)) four-bytes)

-- ---- names

name-no-minus : (name : List ℕ) → IsName name → name ≡ codes "-" → ⊥
name-no-minus name is e =
    let h : Avoids minus (codes "-") = subst (Avoids minus) e (name-avoids minus name (omega arith) is) in absurd (cc (h.0))

pub named-read : (x : Named) → IsNamed x → named_in (named_text x) ≡ Some x
unfolding named_in
named-read (NamesScalar name) ok =
    ap (named_by name) (cut-none dot name (name-avoids dot name (omega arith) ok))
    ∙ ap (λ (t : Bool). Some (if t then Temporary else NamesScalar name))
    (other-bytes name (codes "-") (name-no-minus name ok))
named-read (NamesArray name) ok =
    ap (named_by (name ++ codes ".base")) (cut-found dot name (codes "base") (name-avoids dot name (omega arith) ok))
named-read (NamesIndex name) ok =
    ap (named_by (name ++ codes ".index")) (cut-found dot name (codes "index") (name-avoids dot name (omega arith) ok))
named-read Temporary ok = refl

pub named-plain : (x : Named) → IsNamed x → IsPlain (named_text x)
named-plain (NamesScalar name) ok = name-plain name ok
named-plain (NamesArray name) ok = plain-append name (codes ".base") (name-plain name ok) (plain-tested (codes ".base") refl refl)
named-plain (NamesIndex name) ok =
    plain-append name (codes ".index") (name-plain name ok) (plain-tested (codes ".index") refl refl)
named-plain Temporary ok = plain-tested (codes "-") refl refl

-- ---- places

slot-read : (below : ℕ) → IsPlace (InSlot below) → place_in (place_text (InSlot below)) ≡ Some (InSlot below)
unfolding place_in
slot-read below ok =
    ap (λ (o : Option (List ℕ)). option_map InSlot (o >>= below_in)) (before-found (minus ∷ decimal below) (codes "]"))
    ∙ ap (option_map InSlot) (below-read below ok.0 ok.1)

pub place-read : (p : Place) → IsPlace p → place_in (place_text p) ≡ Some p
unfolding place_in register_in
place-read (InWord Eax) ok = refl
place-read (InWord Ecx) ok = refl
place-read (InWord Edx) ok = refl
place-read (InWord Ebx) ok = refl
place-read (InWord Esp) ok = absurd ok
place-read (InWord Ebp) ok = absurd ok
place-read (InWord Esi) ok = absurd ok
place-read (InWord Edi) ok = absurd ok
place-read (InByte Al) ok = refl
place-read (InByte Cl) ok = refl
place-read (InByte Dl) ok = refl
place-read (InByte Bl) ok = refl
place-read (InByte Ah) ok = refl
place-read (InByte Ch) ok = refl
place-read (InByte Dh) ok = refl
place-read (InByte Bh) ok = refl
place-read (InSlot below) ok = slot-read below ok

place-plain : (p : Place) → IsPlace p → IsPlain (place_text p)
place-plain (InWord Eax) ok = plain-tested (codes "eax") refl refl
place-plain (InWord Ecx) ok = plain-tested (codes "ecx") refl refl
place-plain (InWord Edx) ok = plain-tested (codes "edx") refl refl
place-plain (InWord Ebx) ok = plain-tested (codes "ebx") refl refl
place-plain (InWord Esp) ok = absurd ok
place-plain (InWord Ebp) ok = absurd ok
place-plain (InWord Esi) ok = absurd ok
place-plain (InWord Edi) ok = absurd ok
place-plain (InByte Al) ok = plain-tested (codes "al") refl refl
place-plain (InByte Cl) ok = plain-tested (codes "cl") refl refl
place-plain (InByte Dl) ok = plain-tested (codes "dl") refl refl
place-plain (InByte Bl) ok = plain-tested (codes "bl") refl refl
place-plain (InByte Ah) ok = plain-tested (codes "ah") refl refl
place-plain (InByte Ch) ok = plain-tested (codes "ch") refl refl
place-plain (InByte Dh) ok = plain-tested (codes "dh") refl refl
place-plain (InByte Bh) ok = plain-tested (codes "bh") refl refl
place-plain (InSlot below) ok =
    let small : below < 2 ^ 32 = omega (arith, ok.1) in
    plain-append (codes "[ebp-" ++ decimal below) (codes "]")
    (plain-append (codes "[ebp-") (decimal below) (plain-tested (codes "[ebp-") refl refl) (decimal-plain below small))
    (plain-tested (codes "]") refl refl)

pub standing-read : (s : Standing) → IsStandingText s → standing_in (standing_word s) ≡ Some s
unfolding standing_in
standing-read s ok =
    let small : s.variable < 2 ^ 64 = omega (arith, ok.variable) in
    ap
    (λ (o : Option (List ℕ × List ℕ)).
    o >>= (λ parts. number_in parts.0 >>= (λ variable. place_in parts.1
    >>= (λ place. Some (record { variable = variable; place = place })))))
    (cut-found equals_sign (decimal s.variable) (place_text s.place)
    (digits-avoid equals_sign s.variable (λ h. omega arith) small))
    ∙ ap
    (λ (o : Option ℕ).
    o >>= (λ variable. place_in (place_text s.place)
    >>= (λ place. Some (record { variable = variable; place = place }))))
    (number-read s.variable ok.variable)
    ∙ ap (λ (o : Option Place). o >>= (λ place. Some (record { variable = s.variable; place = place })))
    (place-read s.place ok.place)

pub standing-plain : (s : Standing) → IsStandingText s → IsPlain (standing_word s)
standing-plain s ok =
    plain-append (decimal s.variable) (equals_sign ∷ place_text s.place) (decimal-plain s.variable ok.variable)
    (plain-append (codes "=") (place_text s.place) (plain-tested (codes "=") refl refl) (place-plain s.place ok.place))

-- ---- boards

column-read : (c : Column) → column_in (column_letter c) ≡ Some c
unfolding column_in
column-read Both = refl
column-read Upper = refl
column-read Lower = refl
column-read Neither = refl

pub area-read : (a : Area) → area_in (area_word a) ≡ Some a
unfolding area_in
area-read a =
    ap
    (λ (o : Option Column).
    o >>= (λ low. column_in (column_letter a.high) >>= (λ high. Some (record { low = low; high = high }))))
    (column-read a.low)
    ∙ ap (λ (o : Option Column). o >>= (λ high. Some (record { low = a.low; high = high }))) (column-read a.high)

pub area-plain : (a : Area) → IsPlain (area_word a)
area-plain a = plain-append (column_letter a.low ∷ []) (column_letter a.high ∷ []) (letter a.low) (letter a.high)
  where
    letter : (c : Column) → IsPlain (column_letter c ∷ [])
    letter Both = plain-tested (codes "b") refl refl
    letter Upper = plain-tested (codes "u") refl refl
    letter Lower = plain-tested (codes "l") refl refl
    letter Neither = plain-tested (codes "n") refl refl

kind-read : (k : Kind) → kind_in (kind_letter k) ≡ Some k
unfolding kind_in
kind-read X = refl
kind-read Y = refl
kind-read Z = refl

digit-width : (w : Width) → width_of_digit (width_digit w) ≡ Some w
unfolding width_of_digit
digit-width One = refl
digit-width Two = refl

abbrev pub IsPieceText : Piece → Type 0
IsPieceText p = IsNumber p.var

pub piece-read : (p : Piece) → IsPieceText p → piece_in (piece_word p) ≡ Some p
unfolding piece_in
piece-read p ok =
    ap
    (λ (o : Option Kind).
    o >>= (λ kind. width_of_digit (width_digit p.width) >>= (λ width. number_in (decimal p.var)
    >>= (λ var. Some (record { kind = kind; width = width; var = var })))))
    (kind-read p.kind)
    ∙ ap
    (λ (o : Option Width).
    o >>= (λ width. number_in (decimal p.var)
    >>= (λ var. Some (record { kind = p.kind; width = width; var = var }))))
    (digit-width p.width)
    ∙ ap (λ (o : Option ℕ). o >>= (λ var. Some (record { kind = p.kind; width = p.width; var = var })))
    (number-read p.var ok)

pub piece-plain : (p : Piece) → IsPieceText p → IsPlain (piece_word p)
piece-plain p ok =
    plain-append (kind_letter p.kind ∷ []) (width_digit p.width ∷ colon ∷ decimal p.var) (letter p.kind)
    (plain-append (width_digit p.width ∷ colon ∷ []) (decimal p.var) (digit p.width) (decimal-plain p.var ok))
  where
    letter : (k : Kind) → IsPlain (kind_letter k ∷ [])
    letter X = plain-tested (codes "X") refl refl
    letter Y = plain-tested (codes "Y") refl refl
    letter Z = plain-tested (codes "Z") refl refl

    digit : (w : Width) → IsPlain (width_digit w ∷ colon ∷ [])
    digit One = plain-tested (codes "1:") refl refl
    digit Two = plain-tested (codes "2:") refl refl

-- ---- lists

pub all-read : {A : Type 0} (read : List ℕ → Option A) (write : A → List ℕ) (P : A → Type 0)
    → ((x : A) → P x → read (write x) ≡ Some x) → (xs : List A) → AllByRecursion P xs
    → all_in read (map write xs) ≡ Some xs
all-read read write P back [] ok = refl
all-read {A = A} read write P back (x ∷ xs) ok =
    ap
    (λ (o : Option A). o >>= (λ first. all_in read (map write xs) >>= (λ others. Some (first ∷ others))))
    (back x ok.0)
    ∙ ap (λ (o : Option (List A)). o >>= (λ others. Some (x ∷ others))) (all-read read write P back xs ok.1)

pub all-plain : {A : Type 0} (write : A → List ℕ) (P : A → Type 0) → ((x : A) → P x → IsPlain (write x)) → (xs : List A)
    → AllByRecursion P xs → AllByRecursion IsPlain (map write xs)
all-plain write P plain [] ok = tt
all-plain write P plain (x ∷ xs) ok = (plain x ok.0, all-plain write P plain xs ok.1)
