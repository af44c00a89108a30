-- How the code reads the characters of a URI: a character a turn.
use Rattle.std.specs.Prelude.{◌≡◌, ℕ, Bool, true, false, List, [], ◌∷◌, ◌++◌, Option, Some, None, Result, Ok}
use Rattle.std.specs.Prelude.{Err}
use Rattle.std.specs.Str.{chars}
use Rattle.granit_base.specs.Classes.{is_uri_char, is_tag_char}
use Rattle.granit_base.specs.Place.{Mark}
use Rattle.granit_base.specs.Written.{string_chars}
use Rattle.granit_error.specs.FaultKind.{FaultKind, NoMemory, DirectiveByteLimitExceeded, InvalidTagEscape}
use Rattle.granit_error.specs.FaultKind.{InvalidTagUtf8LeadingByte, InvalidTagUtf8TrailingByte, InvalidTagUtf8}
use Rattle.granit_error.specs.Refused.{Refused}
use Rattle.granit_lexemes.specs.Here.{Here, next_char, step}
use Rattle.granit_lexemes.specs.Outcome.{Fault, Fails, fault_at, ◌>>=◌}
use Rattle.granit_lexemes.specs.Pieces.{with_front, pieces}
use Rattle.granit_lexemes.specs.Tags.{Budget, UriState, spent, is_utf8, escaped_byte, bytes_behind, escaped_by}
use Rattle.granit_lexemes.specs.Tags.{uri_turn, uri_len}
use Rattle.granit_properties.specs.declared.uri.Uri.{Uri}
use Rattle.granit_properties.specs.declared.uri.Uri.TheVariants.{Whole, Tag}
use Rattle.granit_properties.specs.declared.uri.UriParts.{UriParts}

abbrev pub uri_test : Uri → ℕ → Bool
uri_test Whole c = is_uri_char c
uri_test Tag c = is_tag_char c

-- what is left of a limit, where there is one
abbrev pub budget_of : (limit : Option ℕ) (left : ℕ) → Option Budget
budget_of None left = None
budget_of (Some limit) left = Some (record { left = left; limit = limit })

abbrev pub uri_at : Here → Option Budget → UriState
uri_at h b = record { here = h; budget = b }

-- a cursor stands there, and so much is left
abbrev pub LandsUri : (Here → Type 0) → Option Budget → UriState → Type 0
LandsUri Lands b s = Lands s.here × (s.budget ≡ b)

-- so many more bytes were read
abbrev pub TrailsTo : Option ℕ → Result (Unit {0}) Refused → (Here → Type 0) → UriParts
    → Result (List ℕ × UriState) Fault → Type 0
TrailsTo limit (Ok u) Lands p given =
    (now : Here) × Lands now × (given ≡ Ok (p.bytes.items, uri_at now (budget_of limit p.left)))
TrailsTo limit (Err e) Lands p given = Fails e given

-- all of it was read
abbrev pub UriTo : Option ℕ → Result UriParts Refused → (Here → Type 0) → Result (List ℕ × UriState) Fault → Type 0
UriTo limit (Ok p) Lands given =
    (now : Here) × Lands now × (given ≡ Ok (string_chars p.value, uri_at now (budget_of limit p.left)))
UriTo limit (Err e) Lands given = Fails e given

-- a turn's characters were appended
abbrev pub AppendsUri : Result (Unit {0}) Refused → (Here → Type 0) → (old new : List ℕ) → Option Budget
    → Result (Option (List ℕ) × UriState) Fault → Type 0
AppendsUri (Ok u) Lands old new b given =
    (piece : List ℕ) × (now : Here) × Lands now × (given ≡ Ok (Some piece, uri_at now b)) × (new ≡ old ++ piece)
AppendsUri (Err e) Lands old new b given = Fails e given

-- the bytes of a character were appended as it
abbrev pub SpellsUri : Result (Unit {0}) Refused → (old new bytes : List ℕ) → Mark → Type 0
SpellsUri (Ok u) old new bytes start = (is_utf8 bytes ≡ true) × (new ≡ old ++ chars bytes)
SpellsUri (Err e) old new bytes start =
    (e.kind ≡ NoMemory → ⊥) → (is_utf8 bytes ≡ false) × (e ≡ fault_at InvalidTagUtf8 start)

-- a turn at a `%`, and at another character
abbrev pub escaped_char : Mark → UriState → Result (Option (List ℕ) × UriState) Fault
escaped_char start s = escaped_byte start s >>= λ x. escaped_by start (bytes_behind x.0) x.0 x.1

abbrev pub own_char : Mark → UriState → Result (Option (List ℕ) × UriState) Fault
own_char start s = spent s.budget 1 start >>= λ left. Ok (Some (next_char s.here ∷ []), uri_at (step s.here) left)

-- what is read behind what was read
abbrev pub uri_whole : Uri → Mark → Option ℕ → UriParts → Here → Result (List ℕ × UriState) Fault
uri_whole uri start limit p h =
    with_front (string_chars p.value) (pieces uri_len (uri_turn (uri_test uri) start)
    (uri_at h (budget_of limit p.left)))

-- a turn goes on with the same whole, or that is all of it
abbrev pub UriGoesOn : Uri → Mark → Option ℕ → Result Bool Refused → (Here → Type 0) → UriParts
    → Result (List ℕ × UriState) Fault → Type 0
UriGoesOn uri start limit (Ok true) Lands p before = (now : Here) × Lands now
    × (uri_whole uri start limit p now ≡ before)
UriGoesOn uri start limit (Ok false) Lands p before =
    (now : Here) × Lands now × (before ≡ Ok (string_chars p.value, uri_at now (budget_of limit p.left)))
UriGoesOn uri start limit (Err e) Lands p before = Fails e before

-- the kinds that a URI is refused by
abbrev pub IsUriKind : (limit : Option ℕ) → FaultKind → Type 0
IsUriKind limit NoMemory = Unit {0}
IsUriKind (Some n) (DirectiveByteLimitExceeded m) = n ≡ m
IsUriKind limit InvalidTagEscape = Unit {0}
IsUriKind limit InvalidTagUtf8LeadingByte = Unit {0}
IsUriKind limit InvalidTagUtf8TrailingByte = Unit {0}
IsUriKind limit InvalidTagUtf8 = Unit {0}
IsUriKind limit _ = ⊥
