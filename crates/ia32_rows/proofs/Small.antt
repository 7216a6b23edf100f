-- Lists of bytes stay lists of bytes where some of them are replaced, and a word has in its lowest bytes what loads of
-- fewer bytes give.
use Rattle.std.proofs.Common.{ℕ, zero, suc, ◌<◌, List, [], ◌∷◌, ◌++◌, take, drop, arith}
use Rattle.std.specs.Int.{byte_at, bytes_low_first}
use Rattle.std.proofs.lemmas.List.Elements.{All-append, All-cons, All-drop, All-nil, All-push, All-take}
use Rattle.byteorder.specs.Endian.{little_bytes}
use Rattle.pcc_base.specs.Bytes.{AreBytes}

byte-small : (i x : ℕ) → byte_at i x < 256
byte-small zero x = omega arith
byte-small (suc i) x = omega arith

-- the bytes of a number
pub bytes-small : (i n x : ℕ) → AreBytes (bytes_low_first i n x)
bytes-small i zero x = All-nil (λ byte. byte < 256)
bytes-small i (suc n) x =
    All-cons (λ byte. byte < 256) (byte_at i x) (bytes_low_first (suc i) n x) (byte-small i x)
    (bytes-small (suc i) n x)

-- bytes with those of a number in the place of some
pub replaced-small : (k n x m : ℕ) (bytes : List ℕ) → AreBytes bytes
    → AreBytes (take k bytes ++ little_bytes n x ++ drop m bytes)
replaced-small k n x m bytes small =
    All-append (λ byte. byte < 256) (take k bytes ++ little_bytes n x) (drop m bytes)
    (All-append (λ byte. byte < 256) (take k bytes) (little_bytes n x)
    (All-take (λ byte. byte < 256) k bytes small) (bytes-small 0 n x))
    (All-drop (λ byte. byte < 256) m bytes small)

-- and with one byte in the place of one
pub with-small : (k m y : ℕ) (bytes : List ℕ) → y < 256 → AreBytes bytes
    → AreBytes (take k bytes ++ (y ∷ []) ++ drop m bytes)
with-small k m y bytes fits small =
    All-append (λ byte. byte < 256) (take k bytes ++ (y ∷ [])) (drop m bytes)
    (All-push (λ byte. byte < 256) (take k bytes) y (All-take (λ byte. byte < 256) k bytes small) fits)
    (All-drop (λ byte. byte < 256) m bytes small)
