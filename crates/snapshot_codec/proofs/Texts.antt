-- Bytes that are UTF-8 are the text of their code points, and others are none.
use Rattle.std.proofs.Common.{◌≡◌, ℕ, List, Bool, true, false, cond, Ok, Err, refl, sym, ap, ◌∙◌, IsUtf8}
use Rattle.std.specs.Str.{chars, is_utf8}
use Rattle.std.proofs.lemmas.Str.{IsUtf8-from_is_utf8, is_utf8-from_IsUtf8}
use Rattle.snapshot_codec.specs.declared.fault.SnapFault.TheVariants.{BadText}
use Rattle.snapshot_codec.specs.Reading.{points_of}

pub utf8_so : (bytes s t : List ℕ) → s ≡ bytes → IsUtf8 bytes → t ≡ chars s → points_of bytes ≡ Ok t
utf8_so bytes s t same u is = rw (is_utf8-from_IsUtf8 bytes u) (ap (λ (x : List ℕ). Ok x) (ap chars (sym same) ∙ sym is))

refused : (bytes : List ℕ) (b : Bool) → is_utf8 bytes ≡ b → (IsUtf8 bytes → ⊥) → cond b (Ok (chars bytes)) (Err BadText) ≡ Err BadText
refused bytes true e not = absurd (not (IsUtf8-from_is_utf8 bytes e))
refused bytes false e not = refl

pub utf8_not : (bytes : List ℕ) → (IsUtf8 bytes → ⊥) → points_of bytes ≡ Err BadText
utf8_not bytes not = refused bytes (is_utf8 bytes) refl not
