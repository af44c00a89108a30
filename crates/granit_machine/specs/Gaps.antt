-- What stands between lexemes, and where a tab or a comment is refused there (YAML 1.2.2, 6.1 and 6.6).
use Rattle.std.specs.Prelude.{ℕ, suc, Bool, ◌==◌, ◌&&◌, ◌||◌, not, nat_lt, if◌then◌else◌, List, [], ◌∷◌, slice_index}
use Rattle.std.specs.Prelude.{Option, Some, None, Result, Ok}
use Rattle.granit_base.specs.Classes.{is_break, is_bom, is_gap, is_breakz, is_blank_or_breakz}
use Rattle.granit_base.specs.Place.{Mark}
use Rattle.granit_error.specs.FaultKind.{TabInBlockIndentation, TabNotAllowed, CommentInterceptedScalar}
use Rattle.granit_error.specs.OptionsData.{OptionsData}
use Rattle.granit_lexemes.specs.Basics.{fails_at, past_break, is_document_mark}
use Rattle.granit_lexemes.specs.Comment.{CommentRead, comment}
use Rattle.granit_lexemes.specs.Here.{Here, text_len, next_char, mark_of, step, chosen}
use Rattle.granit_lexemes.specs.LayoutData.{is_left}
use Rattle.granit_lexemes.specs.Moves.{past_prefix_mark}
use Rattle.granit_lexemes.specs.Outcome.{Fault, ◌>>=◌}
use Rattle.granit_machine.specs.Laid.{Laid, is_question, is_in_flow, block_column}
use Rattle.granit_lexemes.specs.declared.layout.LastLexeme.{LastLexeme}
use Rattle.granit_lexemes.specs.declared.layout.LastLexeme.TheVariants.{Adjacent, Another}
use Rattle.granit_machine.specs.PossibleKeys.{tab_column_of}
use Rattle.granit_machine.specs.ReaderState.{ReaderState}

-- ---- tabs that begin a line

-- the first of the tabs that begin a line with something on it
abbrev pub leading_tab : Here → Option Mark
leading_tab h = if h.begins_line && not (is_breakz (next_char h)) then h.tab else None

-- such a tab may not stand left of where a node may stand behind `?`, nor left of its block, before a mark (6.1)
unfoldable pub refuse_tab_at : OptionsData → Laid → Mark → (tab : Mark) → Result (Unit {0}) Fault
refuse_tab_at o l m tab =
    if is_question l.last && is_left (block_column l) tab.place.column then fails_at TabNotAllowed tab
    else if nat_lt tab.place.column
    (tab_column_of (l.rolled || (is_in_flow l && o.strict_indentation)) (block_column l)) then
    fails_at TabInBlockIndentation m
    else Ok tt

abbrev pub refuse_tab : OptionsData → Laid → Mark → (tab : Option Mark) → Result (Unit {0}) Fault
refuse_tab o l m None = Ok tt
refuse_tab o l m (Some tab) = refuse_tab_at o l m tab

-- ---- blanks, breaks and byte-order marks

-- whether a byte-order mark here stands in front of a document, where one may
abbrev pub at_prefix_mark : Bool → Here → Bool
at_prefix_mark may_prefix h = (may_prefix && is_bom (next_char h)) && h.place.column == 0

-- whether a gap begins here
abbrev pub begins_gap : Bool → Here → Bool
begins_gap may_prefix h = is_gap (next_char h) || at_prefix_mark may_prefix h

abbrev pub over_gap_char : Bool → Here → Here
over_gap_char may_prefix h = if at_prefix_mark may_prefix h then past_prefix_mark h else step h

-- over blanks, breaks and byte-order marks in front of a document, at most as many as a list has
abbrev pub skip_gap : Bool → List ℕ → Here → Here
skip_gap may_prefix [] h = h
skip_gap may_prefix (c ∷ cs) h =
    let on = skip_gap may_prefix cs (over_gap_char may_prefix h) in chosen (begins_gap may_prefix h) on h

unfoldable pub past_gap : Bool → Here → Here
past_gap may_prefix h = skip_gap may_prefix h.unread.text h

-- over a break, where one stands here
unfoldable pub over_break_if : Here → Here
over_break_if h = if is_break (next_char h) then past_break h else h

-- ---- what ends a gap

abbrev pub GapRead : Type 0
GapRead = Result (Option CommentRead × ReaderState) Fault

abbrev pub no_more_adjacent : LastLexeme → LastLexeme
no_more_adjacent Adjacent = Another
no_more_adjacent last = last

abbrev pub last_behind : (moved : Bool) → LastLexeme → LastLexeme
last_behind moved last = if moved then no_more_adjacent last else last

-- whether what stands here would go on with a plain scalar that a comment cut short
unfoldable pub goes_on_behind : Laid → Here → Mark → Bool
goes_on_behind l h cut =
    ((not (is_in_flow l) && h.place.line == suc cut.place.line)
    && (not (is_left (block_column l) h.place.column) && not (text_len h == 0)))
    && not (is_document_mark h.unread.text || (next_char h == 0x3A && is_blank_or_breakz (slice_index h.unread.text 1)))

abbrev pub refuse_cut_by : Laid → Here → Option Mark → Result (Unit {0}) Fault
refuse_cut_by l h None = Ok tt
refuse_cut_by l h (Some cut) = if goes_on_behind l h cut then fails_at CommentInterceptedScalar cut else Ok tt

abbrev pub refuse_cut : Laid → Here → Result (Unit {0}) Fault
refuse_cut l h = refuse_cut_by l h l.cut

abbrev pub behind_note : Laid → Laid
behind_note l = record l { last = no_more_adjacent l.last }

-- a comment with its break
unfoldable pub noted_gap : Here → Laid → GapRead
noted_gap h l = comment h >>= λ x. Ok (Some x.0, record { here = over_break_if x.1; laid = behind_note l })

abbrev pub behind_gap : (moved : Bool) → Laid → Laid
behind_gap moved l = record l { last = last_behind moved l.last; cut = None }

-- what a lexeme may begin at
unfoldable pub ready_gap : OptionsData → (moved : Bool) → Here → Laid → GapRead
ready_gap o moved h l =
    refuse_tab o l (mark_of h) (leading_tab h) >>= λ t. refuse_cut l h >>= λ u.
    Ok (None, record { here = h; laid = behind_gap moved l })

-- behind the blanks and breaks: a comment with its break, or what a lexeme may begin at
unfoldable pub gap_ends : OptionsData → (moved : Bool) → Here → Laid → GapRead
gap_ends o moved h l = if next_char h == 0x23 then noted_gap h l else ready_gap o moved h l

-- whether a byte-order mark may stand in the gap
abbrev pub takes_prefix : Laid → Bool
takes_prefix l = l.may_prefix && not (is_in_flow l)

-- the gap that begins here, up to a comment or a lexeme
abbrev pub gap : OptionsData → Here → Laid → GapRead
gap o h l = gap_ends o (begins_gap (takes_prefix l) h) (past_gap (takes_prefix l) h) l
