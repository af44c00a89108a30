-- What the lexemes that were written leave open, and the tokens that are written of an item.
use Rattle.std.specs.Prelude.{ℕ, Bool, true, false, ◌&&◌, not, if◌then◌else◌, List, [], ◌∷◌, ◌++◌, drop}
use Rattle.std.specs.Prelude.{replicate, Option, Some, None, is_none}
use Rattle.granit_base.specs.Place.{Mark}
use Rattle.granit_lexemes.specs.Comment.{CommentRead}
use Rattle.granit_lexemes.specs.Lexeme.{LexemeKind, Directive, StreamEnd, KeyStart, Open, Close, Comma, Dash, Question}
use Rattle.granit_lexemes.specs.Lexeme.{Colon, Lexeme, Item, OfLexeme, OfComment, is_entry_dash}
use Rattle.granit_lexemes.specs.declared.layout.LastLexeme.{LastLexeme}
use Rattle.granit_lexemes.specs.declared.layout.LastLexeme.TheVariants.{Opener, Another}
use Rattle.granit_machine.specs.Columns.{entered}
use Rattle.granit_machine.specs.FlowLexemes.{opened, closed_bracket, last_of_comma}
use Rattle.granit_machine.specs.Laid.{Laid, laid_start, is_in_flow, block_column, is_column}
use Rattle.granit_steps.specs.Tokens.{ScanToken, tokens_of, pairs_of, behind_ends, begins_single, ended_blocks}
use Rattle.granit_steps.specs.Tokens.{ends_single, with_pair_if, pairs_behind, tail_token}
use Rattle.granit_scan.specs.TokenViews as views
use Rattle.granit_scan.specs.TokenViews.{PlainToken, inserted_if, kind_shown, marked, shown_span, shown_tokens}

-- the open columns and brackets, whether the last lexeme is an opener, in which brackets a single pair is open, and
-- whether a document's directives are being told: the last lexeme but the end is one
pub record Following : Type 0 where
  pub laid : Laid
  pub pairs : List Bool
  pub in_header : Bool

abbrev pub following_start : Following
following_start = record { laid = laid_start; pairs = []; in_header = false }

-- ---- what a lexeme leaves open, where the columns that it ends are closed

abbrev pub entry_start : Option KeyStart → Mark → Mark
entry_start None m = m
entry_start (Some k) m = k.start

abbrev pub with_last : LastLexeme → Laid → Laid
with_last last s = record s { last = last }

-- outside flow an entry begins in a column
abbrev pub entry_in_column : ℕ → Laid → Laid
entry_in_column column s = if is_in_flow s then with_last Another s else entered column (with_last Another s)

abbrev pub laid_by_lexeme : LexemeKind → Lexeme → Laid → Laid
laid_by_lexeme (Open bracket) l s = with_last Opener (opened bracket l.start s)
laid_by_lexeme (Close bracket) l s = with_last Another (closed_bracket (drop 1 s.brackets) s)
laid_by_lexeme Comma l s = with_last (last_of_comma s) s
laid_by_lexeme Dash l s = entry_in_column l.start.place.column s
laid_by_lexeme Question l s = entry_in_column l.start.place.column s
laid_by_lexeme Colon l s = entry_in_column (entry_start l.key l.start).place.column s
laid_by_lexeme kind l s = with_last Another s

-- a lexeme leaves open, and an item does
abbrev pub laid_behind : Lexeme → Laid → Laid
laid_behind l s = laid_by_lexeme l.kind l (behind_ends l s)

abbrev pub laid_of : Item → Laid → Laid
laid_of (OfLexeme l) s = laid_behind l s
laid_of (OfComment c) s = s

-- whether directives are being told behind a lexeme, and behind an item
abbrev pub header_behind : LexemeKind → (before : Bool) → Bool
header_behind (Directive d) before = true
header_behind StreamEnd before = before
header_behind kind before = false

abbrev pub header_of : Item → (before : Bool) → Bool
header_of (OfLexeme l) before = header_behind l.kind before
header_of (OfComment c) before = before

-- ---- an item is written

abbrev pub followed : Bool → Item → Following → Following
followed begins_key i f = record {
  laid = laid_of i f.laid;
  pairs = pairs_of f.laid begins_key f.pairs i;
  in_header = header_of i f.in_header;
}

-- its tokens
abbrev pub item_tokens : Bool → Item → Following → List ScanToken
item_tokens begins_key i f = tokens_of f.laid begins_key f.pairs i

-- what is open, and the tokens that wait
pub record Writing : Type 0 where
  pub following : Following
  pub waiting : List PlainToken

abbrev pub writing_start : Writing
writing_start = record { following = following_start; waiting = [] }

abbrev pub wrote : Bool → Item → Writing → Writing
wrote begins_key i w = record {
  following = followed begins_key i w.following;
  waiting = w.waiting ++ shown_tokens (item_tokens begins_key i w.following);
}

abbrev pub wrote_lexeme : Bool → Lexeme → Writing → Writing
wrote_lexeme begins_key l w = wrote begins_key (OfLexeme l) w

-- ---- a lexeme is written part by part

abbrev pub with_laid : Laid → Writing → Writing
with_laid s w = record w { following = record (w.following) { laid = s } }

abbrev pub adds : List PlainToken → Writing → Writing
adds ts w = record w { waiting = w.waiting ++ ts }

-- the ends of the block collections that a lexeme ends, whose columns are closed
abbrev pub with_ends : Lexeme → Writing → Writing
with_ends l w =
    adds (replicate (ended_blocks l w.following.laid) (marked views.CollectionEnd l.start))
    (with_laid (behind_ends l w.following.laid) w)

-- whether no entry stands in a column yet
abbrev pub is_new_at : ℕ → Laid → Bool
is_new_at column s = not (is_in_flow s) && not (is_column (block_column s) column)

-- whether a block mapping begins in a new column
abbrev pub begins_mapping_by : LexemeKind → Option KeyStart → Bool → Bool
begins_mapping_by Dash key begins_key = false
begins_mapping_by Question key begins_key = true
begins_mapping_by Colon key begins_key = is_none key
begins_mapping_by kind key begins_key = begins_key

abbrev pub start_tokens : (new : Bool) → Bool → Lexeme → List PlainToken
start_tokens true begins_key l =
    inserted_if (is_entry_dash l.kind) views.SequenceStart l.start
    ++ inserted_if (begins_mapping_by l.kind l.key begins_key) views.MappingStart l.start
start_tokens false begins_key l = []

abbrev pub with_start : Bool → Lexeme → Writing → Writing
with_start begins_key l w = adds (start_tokens (is_new_at l.start.place.column w.following.laid) begins_key l) w

-- what is inserted behind the ends of block collections
abbrev pub before_tokens : Bool → Lexeme → Following → List PlainToken
before_tokens begins_key l f =
    inserted_if (ends_single l.kind f.pairs) views.CloseCurly l.start
    ++ (start_tokens (is_new_at l.start.place.column f.laid) begins_key l
    ++ (inserted_if (begins_single begins_key l f.laid) views.OpenCurly l.start
    ++ inserted_if begins_key views.Key l.start))

abbrev pub inserted_before : Bool → Lexeme → Writing → Writing
inserted_before begins_key l w = record {
  following = record (w.following) {
    pairs = with_pair_if (begins_single begins_key l w.following.laid)
        w.following.pairs;
  };
  waiting = w.waiting ++ before_tokens begins_key l w.following;
}

abbrev pub left_behind : Lexeme → Writing → Writing
left_behind l w = record w {
  following = record {
    laid = laid_by_lexeme l.kind l w.following.laid;
    pairs = pairs_behind l.kind w.following.pairs;
    in_header = header_behind l.kind w.following.in_header;
  };
}

abbrev pub with_tail_written : Option CommentRead → Writing → Writing
with_tail_written c w = adds (shown_tokens (tail_token c)) w

abbrev pub with_own : Lexeme → Writing → Writing
with_own l w = adds (record { kind = kind_shown l.kind; span = shown_span l.kind l } ∷ shown_tokens (tail_token l.tail))
    w
