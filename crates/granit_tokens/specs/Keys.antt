-- The keys that are inserted among a scanner's tokens, and the `:` that have keys.
use Rattle.std.specs.Prelude.{ℕ, Bool, true, false, List, [], ◌∷◌, Option}
use Rattle.granit_lexemes.specs.Lexeme.{LexemeKind, Colon, KeyStart}
use Rattle.granit_lexemes.specs.Place.{one_more_if}
use Rattle.granit_machine.specs.Items.{has_key}
use Rattle.granit_steps.specs.Tokens.{KeySign, ScanToken, Inserted, Own}

abbrev pub is_inserted_key : ScanToken → Bool
is_inserted_key (Inserted KeySign m) = true
is_inserted_key t = false

-- a `:` with its key
abbrev pub is_keyed_kind : LexemeKind → Option KeyStart → Bool
is_keyed_kind Colon key = has_key key
is_keyed_kind kind key = false

abbrev pub is_keyed_value : ScanToken → Bool
is_keyed_value (Own x) = is_keyed_kind x.kind x.key
is_keyed_value t = false

abbrev pub key_signs : List ScanToken → ℕ
key_signs [] = 0
key_signs (t ∷ ts) = one_more_if (is_inserted_key t) (key_signs ts)

abbrev pub keyed_values : List ScanToken → ℕ
keyed_values [] = 0
keyed_values (t ∷ ts) = one_more_if (is_keyed_value t) (keyed_values ts)
