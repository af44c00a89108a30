-- Lists of lexemes that fit their lines and their keys, and lists that don't, each as items and as the grammar sees
-- them.
use Rattle.std.specs.Prelude.{ℕ, suc, Bool, true, false, ◌&&◌, List, [], ◌∷◌, map, Option, Some, None}
use Rattle.granit_base.specs.declared.style.ScalarStyle.TheVariants.{Plain}
use Rattle.granit_lexemes.specs.Basics.{owned}
use Rattle.granit_lexemes.specs.Lexeme.{LexemeKind, Open, Close, Dash, Question, Colon, Scalar, KeyStart, Lexeme}
use Rattle.granit_lexemes.specs.Lexeme.{OfLexeme}
use Rattle.granit_lexemes.specs.declared.layout.Bracket.TheVariants.{Square}
use Rattle.granit_language.specs.Fitting.{item_fits, behind_item, item_stands}
use Rattle.granit_language.specs.Reading.{line_fits, keys_next, key_fits}
use Rattle.granit_language.specs.Seen.{lexemes_flagged, terminal_seen}
use Rattle.granit_language.specs.Terminal.{Terminal, text_start}
use Rattle.granit_machine.specs.Lexing.{FlaggedItem}

-- ---- lexemes

-- a lexeme that stands behind another one on its line, in a column without brackets
pub record Outline : Type 0 where
  pub kind : LexemeKind
  pub key : Option ℕ
  pub in_flow : Bool
  pub begins_line : Bool
  pub follows_indicator : Bool
  pub begins_key : Bool

abbrev pub outlined : LexemeKind → Option ℕ → Outline
outlined kind key = record {
  kind = kind;
  key = key;
  in_flow = false;
  begins_line = false;
  follows_indicator = false;
  begins_key = false;
}

abbrev pub at_line_start : Outline → Outline
at_line_start x = record x { begins_line = true }

abbrev pub behind_sign : Outline → Outline
behind_sign x = record x { follows_indicator = true }

abbrev pub inside : Outline → Outline
inside x = record x { in_flow = true }

abbrev pub as_key : Outline → Outline
as_key x = record x { begins_key = true }

abbrev pub a_dash : Outline
a_dash = outlined Dash None

abbrev pub a_question : Outline
a_question = outlined Question None

abbrev pub a_colon : Outline
a_colon = outlined Colon None

abbrev pub a_text : Outline
a_text = outlined (Scalar Plain (owned (0x61 ∷ []))) None

abbrev pub an_opener : Outline
an_opener = outlined (Open Square) None

abbrev pub a_closer : Outline
a_closer = outlined (Close Square) None

-- a `:` with the number of its key
abbrev pub keyed : ℕ → Outline
keyed n = outlined Colon (Some n)

abbrev pub outlined_key_start : Option ℕ → Option KeyStart
outlined_key_start None = None
outlined_key_start (Some n) = Some (record { number = n; start = text_start })

abbrev pub outlined_lexeme : ℕ → Outline → Lexeme
outlined_lexeme n x = record {
  number = n;
  kind = x.kind;
  start = text_start;
  shown = record { start = text_start; end = text_start };
  end = text_start;
  indent = None;
  in_flow = x.in_flow;
  begins_line = x.begins_line;
  follows_indicator = x.follows_indicator;
  ends_column = false;
  key = outlined_key_start x.key;
  tail = None;
}

-- numbered from the first one's number on
abbrev pub items_from : ℕ → List Outline → List FlaggedItem
items_from n [] = []
items_from n (x ∷ xs) = record {
  item = OfLexeme (outlined_lexeme n x);
  begins_key = x.begins_key;
} ∷ items_from (suc n) xs

-- ---- what they fit

abbrev pub items_fit_lines : List FlaggedItem → Bool
items_fit_lines [] = true
items_fit_lines (i ∷ is) = item_stands i.item i.begins_key && items_fit_lines is

abbrev pub items_fit_keys : List (Option ℕ) → List FlaggedItem → Bool
items_fit_keys ks [] = true
items_fit_keys ks (i ∷ is) = item_fits i.item ks && items_fit_keys (behind_item i.item i.begins_key ks) is

abbrev pub terminals_fit_lines : List Terminal → Bool
terminals_fit_lines [] = true
terminals_fit_lines (x ∷ xs) = line_fits x && terminals_fit_lines xs

abbrev pub terminals_fit_keys : List (Option ℕ) → List Terminal → Bool
terminals_fit_keys ks [] = true
terminals_fit_keys ks (x ∷ xs) = key_fits x.kind ks && terminals_fit_keys (keys_next x.kind x.at ks) xs

-- whether they fit their lines, and their keys
pub record Fit : Type 0 where
  pub lines : Bool
  pub keys : Bool

abbrev pub fit : Bool → Bool → Fit
fit lines keys = record { lines = lines; keys = keys }

pub record FitRow : Type 0 where
  pub lexemes : List Outline
  pub tells : Fit

abbrev pub row : List Outline → Fit → FitRow
row xs tells = record { lexemes = xs; tells = tells }

abbrev pub item_fit : List FlaggedItem → Fit
item_fit is = fit (items_fit_lines is) (items_fit_keys (None ∷ []) is)

abbrev pub terminal_fit : List Terminal → Fit
terminal_fit xs = fit (terminals_fit_lines xs) (terminals_fit_keys (None ∷ []) xs)

abbrev pub terminals_seen : List Outline → List Terminal
terminals_seen xs = map terminal_seen (lexemes_flagged (items_from 0 xs))

-- what is found of the lists as items and as terminals, and what is told of them
abbrev pub fits_of_items : List FitRow → List Fit
fits_of_items [] = []
fits_of_items (r ∷ rs) = item_fit (items_from 0 r.lexemes) ∷ fits_of_items rs

abbrev pub fits_of_terminals : List FitRow → List Fit
fits_of_terminals [] = []
fits_of_terminals (r ∷ rs) = terminal_fit (terminals_seen r.lexemes) ∷ fits_of_terminals rs

abbrev pub told_fits : List FitRow → List Fit
told_fits [] = []
told_fits (r ∷ rs) = r.tells ∷ told_fits rs

-- ---- rows

abbrev pub lines_of_entries : List FitRow
lines_of_entries =
    -- "- - a"
    row (at_line_start a_dash ∷ behind_sign a_dash ∷ behind_sign a_text ∷ []) (fit true true)
    -- "? ? a"
    ∷ row (at_line_start a_question ∷ behind_sign a_question ∷ behind_sign a_text ∷ []) (fit true true)
    -- ": : a"
    ∷ row (at_line_start a_colon ∷ behind_sign a_colon ∷ behind_sign a_text ∷ []) (fit true true)
    -- "- a: a"
    ∷ row (at_line_start a_dash ∷ as_key (behind_sign a_text) ∷ keyed 1 ∷ a_text ∷ []) (fit true true)
    -- "a - ", no text
    ∷ row (at_line_start a_text ∷ a_dash ∷ []) (fit false true)
    -- "a ? ", no text
    ∷ row (at_line_start a_text ∷ a_question ∷ []) (fit false true)
    -- "a : " where the `:` has no key, no text
    ∷ row (at_line_start a_text ∷ a_colon ∷ []) (fit false true)
    -- "a: a: " where the second one has its key, no text
    ∷ row (as_key (at_line_start a_text) ∷ keyed 0 ∷ as_key a_text ∷ keyed 2 ∷ []) (fit false true)
    -- "a: [] : " where it has, no text
    ∷ row (as_key (at_line_start a_text) ∷ keyed 0 ∷ as_key an_opener ∷ inside a_closer ∷ keyed 2 ∷ []) (fit false true)
    -- "[- ? : a: a]"
    ∷ row (at_line_start an_opener ∷ inside a_dash ∷ inside a_question ∷ inside a_colon
    ∷ as_key (inside a_text) ∷ inside (keyed 4)
    ∷ inside a_text ∷ inside a_closer ∷ []) (fit true true)
    ∷ []

abbrev pub keys_of_colons : List FitRow
keys_of_colons =
    -- "a: "
    row (as_key (at_line_start a_text) ∷ keyed 0 ∷ []) (fit true true)
    -- "a : " where the `:` names a lexeme that begins no key
    ∷ row (at_line_start a_text ∷ keyed 0 ∷ []) (fit true false)
    -- "a: " where it names itself
    ∷ row (as_key (at_line_start a_text) ∷ keyed 1 ∷ []) (fit true false)
    -- "a: a\n: " where both name the first lexeme
    ∷ row (as_key (at_line_start a_text) ∷ keyed 0 ∷ a_text ∷ at_line_start (keyed 0) ∷ []) (fit true false)
    -- "a\n[]: " where both begin keys, and the `:` names the later one, and the earlier one
    ∷ row (as_key (at_line_start a_text) ∷ as_key (at_line_start an_opener) ∷ inside a_closer
    ∷ keyed 1 ∷ []) (fit true true)
    ∷ row (as_key (at_line_start a_text) ∷ as_key (at_line_start an_opener) ∷ inside a_closer
    ∷ keyed 0 ∷ []) (fit true false)
    -- "[a: a]: "
    ∷ row (as_key (at_line_start an_opener) ∷ as_key (inside a_text) ∷ inside (keyed 1) ∷ inside a_text
    ∷ inside a_closer ∷ keyed 0
    ∷ []) (fit true true)
    -- "[a: ]" where the `:` names the bracket
    ∷ row (as_key (at_line_start an_opener) ∷ inside a_text ∷ inside (keyed 0) ∷ inside a_closer ∷ []) (fit true false)
    -- "[a]: " where it names what stands inside
    ∷ row (as_key (at_line_start an_opener) ∷ as_key (inside a_text) ∷ inside a_closer ∷ keyed 1 ∷ []) (fit true false)
    -- "a]: " where no bracket was open
    ∷ row (as_key (at_line_start a_text) ∷ a_closer ∷ keyed 0 ∷ []) (fit true false)
    ∷ []
