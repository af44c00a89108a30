-- `-`, `?` and `:` (YAML 1.2.2, 7.4.2 and 8.2).
use Rattle.std.specs.Prelude.{ℕ, Bool, false, ◌==◌, ◌&&◌, ◌||◌, not, nat_lt, if◌then◌else◌, map, slice_index, Option}
use Rattle.std.specs.Prelude.{Some, None, is_some, Result, Ok}
use Rattle.granit_base.specs.Classes.{is_blank, is_break, is_gap, is_flow, is_blank_or_breakz}
use Rattle.granit_error.specs.FaultKind.{BlockEntryInFlowCollection, FlowMappingValueAdjacentCollection}
use Rattle.granit_error.specs.FaultKind.{InvalidColonPlacement, BlockSequenceEntryNotAllowed, MappingKeyNotAllowed}
use Rattle.granit_error.specs.FaultKind.{MappingValueNotAllowed, InvalidBlockEntryWhitespace, ExpectedWhitespace}
use Rattle.granit_error.specs.OptionsData.{OptionsData}
use Rattle.granit_lexemes.specs.Basics.{fails_at}
use Rattle.granit_lexemes.specs.Comment.{CommentRead, comment}
use Rattle.granit_lexemes.specs.Here.{Here, text_len, next_char, mark_of, step, past}
use Rattle.granit_lexemes.specs.Lexeme.{Dash, Question, Colon, KeyStart, Lexeme}
use Rattle.granit_lexemes.specs.Outcome.{Fault, ◌>>=◌}
use Rattle.granit_lexemes.specs.Tail.{tail_at}
use Rattle.granit_machine.specs.Columns.{widened, with_entry, with_pair}
use Rattle.granit_machine.specs.Gaps.{leading_tab, refuse_tab}
use Rattle.granit_machine.specs.Laid.{Laid, is_adjacent, is_in_flow}
use Rattle.granit_lexemes.specs.declared.layout.LastLexeme.TheVariants.{BehindDash, BehindQuestion, BehindBareColon}
use Rattle.granit_lexemes.specs.declared.layout.LastLexeme.TheVariants.{Another}
use Rattle.granit_lexemes.specs.declared.layout.PossibleKey.{PossibleKey}
use Rattle.granit_machine.specs.PossibleKeys.{top_key, forgets_key, is_allowed, start_of_key, is_far_below}
use Rattle.granit_machine.specs.ReaderState.{Read, sign_lexeme, with_tail, given}

-- ---- `-` (8.2.1)

-- a `-` lets no tab stand in its column where something else than a node's characters follows
abbrev pub widened_if : Bool → Laid → Laid
widened_if wide l = record l { columns = if wide then map widened l.columns else l.columns; rolled = wide }

-- whether another `-` stands here behind a tab
unfoldable pub is_tabbed_dash : Here → Bool
is_tabbed_dash h = (is_some h.tab && next_char h == 0x2D) && is_blank_or_breakz (slice_index h.unread.text 1)

abbrev pub is_before_break : Here → Bool
is_before_break h = is_break (next_char h) || is_flow (next_char h)

abbrev pub dash_lexeme : Lexeme → Option CommentRead → Here → Lexeme
dash_lexeme x tail h = record x { tail = tail; end = mark_of h }

-- a `-` with its tail, behind which no `-` may stand behind a tab
unfoldable pub behind_dash : Lexeme → Laid → Option CommentRead → Here → Read
behind_dash x l tail h =
    if is_tabbed_dash h then fails_at InvalidBlockEntryWhitespace (mark_of h)
    else given (dash_lexeme x tail h) BehindDash h (forgets_key (widened_if (is_before_break h) l))

-- an entry was begun by it
unfoldable pub dash_up_to : Lexeme → (end : Here) → Laid → Read
dash_up_to x end l = tail_at end >>= λ y. behind_dash x l y.0 y.1

unfoldable pub dash : OptionsData → Bool → Here → Laid → Read
dash o ends h l =
    if is_in_flow l then fails_at BlockEntryInFlowCollection (mark_of h)
    else if not (is_allowed h.begins_line h.tab l) then fails_at BlockSequenceEntryNotAllowed (mark_of h)
    else with_entry o h.place.column (mark_of h) l >>= dash_up_to (sign_lexeme ends Dash h l) (step h)

-- ---- `?` (7.4.2, 8.2.2)

abbrev pub question_noted : Lexeme → Laid → CommentRead → Here → Read
question_noted x l c h = given (with_tail x (Some c)) BehindQuestion h l

-- behind the blanks and breaks behind a `?`: a comment, or what the key may begin at
unfoldable pub question_up_to : OptionsData → Lexeme → Here → Laid → Read
question_up_to o x h l =
    if next_char h == 0x23 then (comment h >>= λ y. question_noted x l y.0 y.1)
    else refuse_tab o l (mark_of h) (leading_tab h) >>= λ u. given x BehindQuestion h l

-- whether a NUL stands behind the first character
abbrev pub nul_behind : Here → Bool
nul_behind h = slice_index h.unread.text 1 == 0x00 && nat_lt 1 (text_len h)

abbrev pub behind_question : Laid → Laid
behind_question l = forgets_key (record l { rolled = false; last = BehindQuestion })

-- an entry was begun by a `?` that stands here
unfoldable pub question_by : OptionsData → Lexeme → Here → Laid → Read
question_by o x h l =
    if nul_behind h then fails_at ExpectedWhitespace (mark_of (step h))
    else question_up_to o x (past is_gap (step h)) (behind_question l)

unfoldable pub question : OptionsData → Bool → Here → Laid → Read
question o ends h l =
    if is_in_flow l then given (sign_lexeme ends Question h l) Another (step h) (forgets_key l)
    else if not (is_allowed h.begins_line h.tab l) then fails_at MappingKeyNotAllowed (mark_of h)
    else with_entry o h.place.column (mark_of h) l >>= question_by o (sign_lexeme ends Question h l) h

-- ---- `:` (7.4.2, 8.2.2)

abbrev pub colon_lexeme : Bool → Option KeyStart → Option CommentRead → Here → Laid → Lexeme
colon_lexeme ends key tail h l = record (sign_lexeme ends Colon h l) { key = key; tail = tail }

abbrev pub keyed_given : Lexeme → Here → Laid → Read
keyed_given x after l = given x Another after (forgets_key l)

unfoldable pub keyed_colon : OptionsData → Bool → PossibleKey → Option CommentRead → (after h : Here) → Laid → Read
keyed_colon o ends k tail after h l =
    if is_far_below h.place l k then fails_at InvalidColonPlacement (mark_of h)
    else if is_in_flow l then keyed_given (colon_lexeme ends (Some (start_of_key k)) tail h l) after l
    else with_pair o k.start.place.column k.start l >>=
    keyed_given (colon_lexeme ends (Some (start_of_key k)) tail h l) after

abbrev pub bare_given : Lexeme → Here → Laid → Read
bare_given x after l = given x BehindBareColon after l

unfoldable pub bare_colon : OptionsData → Bool → Option CommentRead → (after h : Here) → Laid → Read
bare_colon o ends tail after h l =
    if is_in_flow l then given (colon_lexeme ends None tail h l) Another after l
    else if not (is_allowed h.begins_line h.tab l) then fails_at MappingValueNotAllowed (mark_of h)
    else with_pair o h.place.column (mark_of h) l >>= bare_given (colon_lexeme ends None tail h l) after

abbrev pub colon_by_key : OptionsData → Bool → Option PossibleKey → Option CommentRead → (after h : Here) → Laid → Read
colon_by_key o ends (Some k) tail after h l = keyed_colon o ends k tail after h l
colon_by_key o ends None tail after h l = bare_colon o ends tail after h l

-- the tail of a `:`, where a blank follows it
unfoldable pub colon_tail : Here → Result (Option CommentRead × Here) Fault
colon_tail h = if is_blank (next_char h) then tail_at h else Ok (None, h)

abbrev pub opens_flow : ℕ → Bool
opens_flow c = c == 0x5B || c == 0x7B

unfoldable pub colon : OptionsData → Bool → Here → Laid → Read
colon o ends h l =
    if not (is_adjacent l.last) && opens_flow (slice_index h.unread.text 1) then
    fails_at FlowMappingValueAdjacentCollection (mark_of h)
    else colon_tail (step h) >>= λ x. colon_by_key o ends (top_key l) x.0 x.1 h l
