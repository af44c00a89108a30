-- What stands before a turn, and what is asked of it where that was refused.
use Rattle.std.specs.Prelude.{◌≡◌, ◌-◌, ℕ, Bool, true, false, ◌&&◌, ◌||◌, if◌then◌else◌, Option, Some, None}
use Rattle.std.specs.Option.{option_map}
use Rattle.granit_frames.specs.StateViews.{stage_view}
use Rattle.granit_items.specs.ItemViews.{boxed_lexeme}
use Rattle.granit_lexemes.specs.Lexeme as lexemes
use Rattle.granit_lexemes.specs.Lexeme.{Item, Lexeme, LexemeKind, OfComment, OfLexeme}
use Rattle.granit_machine.specs.Frames.{DocumentStage, ParserState}
use Rattle.granit_refusals.specs.declared.refusal.Before.{Before}
use Rattle.granit_refusals.specs.declared.refusal.Refusal.{Refusal}
use Rattle.granit_restart.specs.Header.{is_directive, is_directives, is_fresh}
use Rattle.granit_restart.specs.Skipping as skipping

-- ---- an item

abbrev pub mark_if : LexemeKind → Lexeme → Option Lexeme
mark_if lexemes.DocumentStart l = Some l
mark_if lexemes.DocumentEnd l = Some l
mark_if lexemes.StreamEnd l = Some l
mark_if kind l = None

-- a lexeme that may be a boundary
abbrev pub mark_of_item : Item → Option Lexeme
mark_of_item (OfLexeme l) = mark_if l.kind l
mark_of_item (OfComment c) = None

abbrev pub directive_in : Item → Option Bool
directive_in (OfLexeme l) = Some (is_directive l.kind)
directive_in (OfComment c) = None

-- ---- before a turn

abbrev pub IsBefore : ParserState → Refusal → Type 0
IsBefore p r = (stage_view r.stage ≡ p.stage) × (r.last_end ≡ p.last_end) × (r.count ≡ p.count)

-- the same of an item that is no mark
abbrev pub whole : Before → Refusal
whole b = record {
  front = None;
  takes_front = true;
  directive = b.directive;
  expects_start = false;
  stage = b.stage;
  last_end = b.last_end;
  count = b.count;
}

abbrev pub IsBeforeItem : ParserState → Item → Refusal → Type 0
IsBeforeItem p i r =
    IsBefore p r × (r.takes_front ≡ true) × (option_map boxed_lexeme r.front ≡ mark_of_item i)
    × (r.directive ≡ directive_in i)

abbrev pub IsBeforeRead : ParserState → Refusal → Type 0
IsBeforeRead p r = IsBefore p r × (r.takes_front ≡ false) × (r.front ≡ None)

-- the same, behind which a next anchor gets this number; 0 is as 1
abbrev pub recounted : ℕ → Refusal → Refusal
recounted offset r = record r { count = offset - 1 }

-- ---- what is asked of it

abbrev pub stage_is_within : DocumentStage → Bool
stage_is_within stage = skipping.is_within_document stage

abbrev pub refusal_ends_before : Refusal → Bool
refusal_ends_before r = (r.takes_front && r.expects_start) && stage_is_within (stage_view r.stage)

abbrev pub is_true : Option Bool → Bool
is_true None = false
is_true (Some b) = b

abbrev pub refuses_outside : Refusal → Bool
refuses_outside r =
    (r.expects_start || is_directives (stage_view r.stage)) || (is_fresh (stage_view r.stage) && is_true r.directive)

abbrev pub refusal_outside : Refusal → Bool
refusal_outside r =
    if r.takes_front then refuses_outside r else is_directives (stage_view r.stage) || is_fresh (stage_view r.stage)

abbrev pub or_before : Option Bool → Bool → Bool
or_before None before = before
or_before (Some b) before = b

abbrev pub refusal_in_directive : Refusal → Bool
refusal_in_directive r = or_before r.directive (is_directives (stage_view r.stage))
