-- How the code reads a plain scalar: a stretch of content a turn.
use Rattle.std.specs.Prelude.{◌≡◌, ℕ, ◌==◌, Bool, true, false, ◌&&◌, ◌||◌, not, if◌then◌else◌, List, []}
use Rattle.std.specs.Prelude.{◌∷◌, ◌++◌, length, Option, Some, None, Result, Ok, Err}
use Rattle.granit_base.specs.Classes.{is_blank, is_break, is_z, is_printable}
use Rattle.granit_base.specs.Place.{Mark}
use Rattle.granit_base.specs.Written.{Written}
use Rattle.granit_base.specs.declared.style.ScalarStyle.TheVariants.{Plain}
use Rattle.granit_error.specs.FaultKind.{FaultKind, NoMemory, PlainScalarStartsWithDashFlowIndicator, TabInPlainScalar}
use Rattle.granit_error.specs.FaultKind.{InputSlicingUnavailable, UnexpectedCharacter}
use Rattle.granit_error.specs.Refused.{Refused}
use Rattle.granit_lexemes.specs.Here.{Here, text_len, next_char, mark_of}
use Rattle.granit_lexemes.specs.LayoutData.{LayoutData}
use Rattle.granit_lexemes.specs.Outcome.{Fault, Fails, ◌>>=◌}
use Rattle.granit_lexemes.specs.Pieces.{with_front, pieces}
use Rattle.granit_lexemes.specs.Basics.{fails_at, only_printable, unprintable, owned}
use Rattle.granit_lexemes.specs.PlainScalar.{PlainState, PlainRead, between, on_content, on_blank, on_break}
use Rattle.granit_lexemes.specs.PlainScalar.{meets_comment, ends_before_line, plain_turn, plain_len, plain_start}
use Rattle.granit_base.specs.PlainContent.{is_content}
use Rattle.granit_cursor.specs.Tokens.{scalar_token}
use Rattle.granit_cursor.specs.declared.token.Lexed.{Lexed}
use Rattle.granit_plain.specs.PlainTaken.{PlainTaken}
use Rattle.granit_plain.specs.declared.plain.Ahead.{Ahead}
use Rattle.granit_plain.specs.declared.plain.PlainScalar.{PlainScalar}
use Rattle.granit_plain.specs.declared.plain.Ahead.TheVariants.{Blank, Break, Tab, Content, End}

-- a plain scalar, behind which no comment is read
abbrev pub plain_lexed : PlainRead → Lexed
plain_lexed r = record {
  token = scalar_token Plain r.text r.source;
  comment = None;
  cut_by_comment = r.cut_by_comment;
  on_new_line = r.on_new_line;
}

-- the same by what was read of a scalar that begins there
abbrev pub plain_from : Mark → PlainScalar → Lexed
plain_from start r = record {
  token = scalar_token Plain r.text (record { start = start; end = r.end });
  comment = None;
  cut_by_comment = r.cut_by_comment;
  on_new_line = r.on_new_line;
}

-- where reading stands, by what the code holds
abbrev pub plain_state : PlainTaken → Here → PlainState
plain_state p h = record {
  here = h;
  end = p.end;
  pending = p.pending;
  on_new_line = p.on_new_line;
  left_tab = p.left_tab;
}

-- what is read from a state on
abbrev pub plain_rest : LayoutData → Mark → PlainState → Result (List ℕ × PlainState) Fault
plain_rest at start s = pieces plain_len (plain_turn at start) s

-- the same behind what was read
abbrev pub plain_whole : LayoutData → Mark → PlainTaken → Here → Result (List ℕ × PlainState) Fault
plain_whole at start p h = with_front p.value (plain_rest at start (plain_state p h))

-- what stands next
abbrev pub ahead_of : LayoutData → PlainState → Ahead
ahead_of at s =
    if is_blank (next_char s.here) then Blank
    else if is_break (next_char s.here) then Break
    else if meets_comment s then End
    else if s.left_tab && not (is_z (next_char s.here)) then Tab
    else if s.on_new_line && ends_before_line at s.here then End
    else if is_content at.in_flow s.here.unread.text then Content
    else End

-- what a turn gives where that is next
abbrev pub plain_turn_by : LayoutData → Mark → PlainState → Ahead → Result (Option (List ℕ) × PlainState) Fault
plain_turn_by at start s Blank = Ok (Some [], on_blank at s)
plain_turn_by at start s Break = Ok (Some [], on_break s)
plain_turn_by at start s Tab = fails_at TabInPlainScalar start
plain_turn_by at start s Content = Ok (Some (between s ++ next_char s.here ∷ []), on_content s)
plain_turn_by at start s End = Ok (None, s)

-- what a turn takes is there
abbrev pub TakesSome : Ahead → Type 0 → Type 0
TakesSome Tab some = Unit {0}
TakesSome End some = Unit {0}
TakesSome _ some = some

-- a turn goes on with the same whole, or that is all of it
abbrev pub TurnKeepsWhole : LayoutData → Mark → Result Bool Refused → (Here → Type 0) → PlainTaken
    → Result (List ℕ × PlainState) Fault → Type 0
TurnKeepsWhole at start (Ok true) Lands p before = (now : Here) × Lands now × (plain_whole at start p now ≡ before)
TurnKeepsWhole at start (Ok false) Lands p before =
    (now : Here) × Lands now × (before ≡ Ok (p.value, plain_state p now))
TurnKeepsWhole at start (Err e) Lands p before = Fails e before

-- what was read is all of it
abbrev pub PartsTo : Result PlainTaken Refused → (Here → Type 0) → Result (List ℕ × PlainState) Fault → Type 0
PartsTo (Ok p) Lands given = (now : Here) × Lands now × (given ≡ Ok (p.value, plain_state p now))
PartsTo (Err e) Lands given = Fails e given

-- nothing was taken behind that place, or the break behind it
abbrev pub nothing_taken : (end : Mark) → (on_new_line : Bool) → PlainTaken
nothing_taken end on_new_line =
    record { value = []; pending = []; end = end; on_new_line = on_new_line; left_tab = false }

-- whether a comment that begins behind what was read cuts the scalar short
abbrev pub cuts_at : (left_tab on_new_line : Bool) → (pending : List ℕ) → Bool
cuts_at left_tab on_new_line pending = left_tab || (not on_new_line && not (length pending == 0))

-- a plain scalar of that text, which ends there
abbrev pub ended_plain : LayoutData → (start : Mark) → Written → (end : Mark) → (on_new_line cuts : Bool) → Here
    → Result (PlainRead × Here) Fault
ended_plain at start text end on_new_line cuts h =
    only_printable (unprintable text.characters) start
    (if not (text_len h == 0) && not (is_printable (next_char h))
    then fails_at (UnexpectedCharacter (next_char h)) (mark_of h)
    else Ok (
      record {
        text = text;
        source = record { start = start; end = end };
        cut_by_comment = if not at.in_flow && (next_char h == 0x23 && cuts) then Some (mark_of h) else None;
        on_new_line = on_new_line;
      },
      h,
    ))

-- the same of a text by what was read, where that ends
abbrev pub plain_ended_by : LayoutData → (start : Mark) → (List ℕ → Mark → Written) → List ℕ × PlainState
    → Result (PlainRead × Here) Fault
plain_ended_by at start text x =
    ended_plain at start (text x.0 x.1.end) x.1.end x.1.on_new_line
    (cuts_at x.1.left_tab x.1.on_new_line x.1.pending) x.1.here

-- a scalar whose text is copied
abbrev pub copied_plain : LayoutData → Here → Result (PlainRead × Here) Fault
copied_plain at h = plain_rest at (mark_of h) (plain_start h) >>= plain_ended_by at (mark_of h)
    (λ value end. owned value)

-- the kinds that a plain scalar is refused by
abbrev pub IsPlainKind : FaultKind → Type 0
IsPlainKind NoMemory = Unit {0}
IsPlainKind InputSlicingUnavailable = Unit {0}
IsPlainKind PlainScalarStartsWithDashFlowIndicator = Unit {0}
IsPlainKind TabInPlainScalar = Unit {0}
IsPlainKind (UnexpectedCharacter c) = Unit {0}
IsPlainKind _ = ⊥
