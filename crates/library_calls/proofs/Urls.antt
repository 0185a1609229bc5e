-- What is read of a URL, by whether its bytes are UTF-8.
use Rattle.std.proofs.Common.{◌≡◌, ℕ, List, Bool, true, false, Result, Err, ap, refl}
use Rattle.std.specs.Prelude.{if◌then◌else◌}
use Rattle.std.specs.Str.{IsUtf8, is_utf8}
use Rattle.std.proofs.lemmas.Str.{IsUtf8-from_is_utf8, is_utf8-from_IsUtf8}
use Rattle.batch_text.specs.View.{Seen, view_of}
use Rattle.library_calls.specs.Told.{Told}
use Rattle.library_calls.specs.Inputs.{refused_url, seen_or_told, url_in}

abbrev pub isnt_read : Told → Result Seen Told
isnt_read told = Err told

abbrev read_if : Bool → List ℕ → Result Seen Told
read_if is_text bytes = if is_text then seen_or_told (view_of bytes) else Err refused_url

pub of_text : (bytes : List ℕ) → IsUtf8 bytes → url_in bytes ≡ seen_or_told (view_of bytes)
of_text bytes utf8 = ap (λ (b : Bool). read_if b bytes) (is_utf8-from_IsUtf8 bytes utf8)

no_text : (bytes : List ℕ) → (IsUtf8 bytes → ⊥) → (b : Bool) → is_utf8 bytes ≡ b → b ≡ false
no_text bytes refused true e = absurd (refused (IsUtf8-from_is_utf8 bytes e))
no_text bytes refused false e = refl

pub of_no_text : (bytes : List ℕ) → (IsUtf8 bytes → ⊥) → url_in bytes ≡ Err refused_url
of_no_text bytes refused = ap (λ (b : Bool). read_if b bytes) (no_text bytes refused (is_utf8 bytes) refl)
