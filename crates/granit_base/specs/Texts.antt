-- What the parts of a text say.
use Rattle.std.specs.Prelude.{ℕ, Bool, true, false, List, string_bytes}
use Rattle.std.specs.Str.{chars}
use Rattle.granit_base.specs.declared.text.TextParts.{TextParts}
use Rattle.granit_base.specs.declared.text.TextParts.TheVariants.{Borrowed, Owned}

abbrev pub text_bytes : TextParts → List ℕ
text_bytes (Borrowed s) = s.now
text_bytes (Owned s) = string_bytes s

abbrev pub text_is_borrowed : TextParts → Bool
text_is_borrowed (Borrowed s) = true
text_is_borrowed (Owned s) = false

abbrev pub text_chars : TextParts → List ℕ
text_chars t = chars (text_bytes t)
