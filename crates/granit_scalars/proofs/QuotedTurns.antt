-- What a turn over a quoted scalar does.
use Rattle.std.proofs.Common.{◌≡◌, ℕ, suc, ◌<◌, ◌==◌, Bool, true, false, not, ◌&&◌, ◌||◌, List, [], ◌∷◌, ◌++◌, length}
use Rattle.std.proofs.Common.{Option, Some, None, Result, Ok, Err, refl, sym, ap, subst, arith}
use Rattle.std.specs.Prelude.{slice_index, if◌then◌else◌}
use Rattle.std.proofs.lemmas.Bool.Decides.{nat_tests}
use Rattle.granit_base.specs.Classes.{is_blank, is_break, is_gap, is_printable}
use Rattle.granit_base.specs.Place.{Mark, first}
use Rattle.granit_error.specs.FaultKind.{InvalidIndentation, UnclosedQuotedScalar, DocumentIndicatorInQuotedScalar}
use Rattle.granit_error.specs.FaultKind.{TabInIndentation, InvalidQuotedScalarIndent, UnexpectedCharacter}
use Rattle.granit_lexemes.specs.Here.{Here, next_char, mark_of, step, text_len}
use Rattle.granit_lexemes.specs.LayoutData.{LayoutData}
use Rattle.granit_lexemes.specs.Outcome.{Fault, ◌>>=◌}
use Rattle.granit_lexemes.specs.Pieces.{Shortens}
use Rattle.granit_lexemes.specs.Basics.{fails_at, past_break, is_document_mark}
use Rattle.granit_lexemes.specs.QuotedScalar.{QuotedState, quote_char, is_closing, is_tab_left, is_strictly_left}
use Rattle.granit_lexemes.specs.QuotedScalar.{is_loosely_left, between_quoted, quoted_at, over_blank, over_break}
use Rattle.granit_lexemes.specs.QuotedScalar.{quoted_piece, quoted_content, quoted_turn, quoted_len, escape_or}
use Rattle.granit_lexemes.proofs.HereLemmas.{step_len}
use Rattle.granit_lexemes.proofs.PlainTurned.{no_gap_of}
use Rattle.granit_scalars.proofs.PlainTurns.{seen_blank}
use Rattle.granit_scalars.proofs.QuotedEscapes.{ReadsEscape, reads_escape}
use Rattle.granit_scalars.proofs.Stepping.{Seen, seen_as, shorter, broken}

-- ---- the tests

abbrev pub tab_meets : LayoutData → QuotedState → Bool
tab_meets at s = s.on_new_line && (next_char s.here == 0x09 && is_tab_left at s.here.place.column)

abbrev pub strict_meets : LayoutData → QuotedState → Bool
strict_meets at s = s.on_new_line && is_strictly_left at s.escaped s.here.place.column

abbrev pub loose_meets : Bool → LayoutData → QuotedState → Bool
loose_meets single at s =
    s.on_new_line && is_loosely_left at s.escaped (is_closing single s.here.unread.text) s.here.place.column

abbrev pub mark_meets : QuotedState → Bool
mark_meets s = s.on_new_line && (s.here.place.column == 0 && is_document_mark s.here.unread.text)

pub closing_is : (single : Bool) (text : List ℕ) → is_closing single text ≡ (first text == quote_char single
    && not (single && slice_index text 1 == 0x27))
unfolding is_closing
closing_is single text = refl

-- a character that may stand where it does
pub record Placed (single : Bool) (at : LayoutData) (s : QuotedState) : Type 0 where
  pub no_gap : is_gap (next_char s.here) ≡ false
  pub no_strict : strict_meets at s ≡ false
  pub no_loose : loose_meets single at s ≡ false
  pub no_mark : mark_meets s ≡ false

-- each turn, with the tests that led to it
pub data QuotedTurned (single : Bool) (at : LayoutData) (start : Mark) (s : QuotedState) : Result (Option (List ℕ)
    × QuotedState) Fault → Type 0 where
  past_a_blank : is_blank (next_char s.here) ≡ true → tab_meets at s ≡ false
      → QuotedTurned single at start s (Ok (Some [], over_blank s))
  at_a_tab : tab_meets at s ≡ true → QuotedTurned single at start s (fails_at TabInIndentation (mark_of s.here))
  past_a_break : is_break (next_char s.here) ≡ true → QuotedTurned single at start s (Ok (Some [], over_break s))
  at_strict : is_gap (next_char s.here) ≡ false → strict_meets at s ≡ true
      → QuotedTurned single at start s (fails_at InvalidIndentation (mark_of s.here))
  at_loose : is_gap (next_char s.here) ≡ false → loose_meets single at s ≡ true
      → QuotedTurned single at start s (fails_at InvalidQuotedScalarIndent (mark_of s.here))
  at_a_mark : strict_meets at s ≡ false → loose_meets single at s ≡ false → mark_meets s ≡ true
      → QuotedTurned single at start s (fails_at DocumentIndicatorInQuotedScalar start)
  at_the_end : Placed single at s → (text_len s.here == 0) ≡ true
      → QuotedTurned single at start s (fails_at UnclosedQuotedScalar start)
  at_a_character : Placed single at s → (text_len s.here == 0) ≡ false → is_printable (next_char s.here) ≡ false
      → QuotedTurned single at start s (fails_at (UnexpectedCharacter (next_char s.here)) (mark_of s.here))
  at_the_quote : Placed single at s → is_closing single s.here.unread.text ≡ true
      → QuotedTurned single at start s (Ok (None, s))
  in_content : Placed single at s → (text_len s.here == 0) ≡ false → is_printable (next_char s.here) ≡ true
      → is_closing single s.here.unread.text ≡ false → QuotedTurned single at start s (quoted_content single start s)

-- the tests of a turn
pub record QuotedTests : Type 0 where
  pub blank : Bool
  pub tab : Bool
  pub line_break : Bool
  pub strict : Bool
  pub loose : Bool
  pub mark : Bool
  pub ended : Bool
  pub prints : Bool
  pub closing : Bool

abbrev pub tests_at : Bool → LayoutData → QuotedState → QuotedTests
tests_at single at s = record {
  blank = is_blank (next_char s.here);
  tab = tab_meets at s;
  line_break = is_break (next_char s.here);
  strict = strict_meets at s;
  loose = loose_meets single at s;
  mark = mark_meets s;
  ended = text_len s.here == 0;
  prints = is_printable (next_char s.here);
  closing = is_closing single s.here.unread.text;
}

-- a turn by its tests, in their order
abbrev pub turn_on_tests : Bool → Mark → QuotedState → QuotedTests → Result (Option (List ℕ) × QuotedState) Fault
turn_on_tests single start s x =
    if x.blank then (if x.tab then fails_at TabInIndentation (mark_of s.here) else Ok (Some [], over_blank s))
    else if x.line_break then Ok (Some [], over_break s)
    else if x.strict then fails_at InvalidIndentation (mark_of s.here)
    else if x.loose then fails_at InvalidQuotedScalarIndent (mark_of s.here)
    else if x.mark then fails_at DocumentIndicatorInQuotedScalar start
    else if x.ended then fails_at UnclosedQuotedScalar start
    else if not x.prints then fails_at (UnexpectedCharacter (next_char s.here)) (mark_of s.here)
    else if x.closing then Ok (None, s)
    else quoted_content single start s

pub turn_is : (single : Bool) (at : LayoutData) (start : Mark) (s : QuotedState)
    → quoted_turn single at start s ≡ turn_on_tests single start s (tests_at single at s)
unfolding quoted_turn
turn_is single at start s = refl

module _ (single : Bool) (at : LayoutData) (start : Mark) (s : QuotedState) where
  -- at a gap, or else as what follows
  gap_turned : (a t b : Bool) (r : Result (Option (List ℕ) × QuotedState) Fault)
      → is_blank (next_char s.here) ≡ a → tab_meets at s ≡ t → is_break (next_char s.here) ≡ b
      → (is_gap (next_char s.here) ≡ false → QuotedTurned single at start s r)
      → QuotedTurned single at start s (if a then
      (if t then fails_at TabInIndentation (mark_of s.here) else Ok (Some [], over_blank s))
      else if b then Ok (Some [], over_break s) else r)
  gap_turned true true b r ya yt yb on = at_a_tab yt
  gap_turned true false b r ya yt yb on = past_a_blank ya yt
  gap_turned false t true r ya yt yb on = past_a_break yb
  gap_turned false t false r ya yt yb on = on (no_gap_of (next_char s.here) ya yb)

  -- where nothing may stand, or else as what follows
  place_turned : (d e f : Bool) (r : Result (Option (List ℕ) × QuotedState) Fault) → is_gap (next_char s.here) ≡ false
      → strict_meets at s ≡ d → loose_meets single at s ≡ e → mark_meets s ≡ f
      → (Placed single at s → QuotedTurned single at start s r)
      → QuotedTurned single at start s (if d then fails_at InvalidIndentation (mark_of s.here)
      else if e then fails_at InvalidQuotedScalarIndent (mark_of s.here)
      else if f then fails_at DocumentIndicatorInQuotedScalar start else r)
  place_turned true e f r n yd ye yf on = at_strict n yd
  place_turned false true f r n yd ye yf on = at_loose n ye
  place_turned false false true r n yd ye yf on = at_a_mark yd ye yf
  place_turned false false false r n yd ye yf on =
      on (record { no_gap = n; no_strict = yd; no_loose = ye; no_mark = yf })

  -- where content may stand
  placed_turned : (g p c : Bool) → (text_len s.here == 0) ≡ g → is_printable (next_char s.here) ≡ p
      → is_closing single s.here.unread.text ≡ c → Placed single at s
      → QuotedTurned single at start s (if g then fails_at UnclosedQuotedScalar start
      else if not p then fails_at (UnexpectedCharacter (next_char s.here)) (mark_of s.here)
      else if c then Ok (None, s) else quoted_content single start s)
  placed_turned true p c yg yp yc placed = at_the_end placed yg
  placed_turned false false c yg yp yc placed = at_a_character placed yg yp
  placed_turned false true true yg yp yc placed = at_the_quote placed yc
  placed_turned false true false yg yp yc placed = in_content placed yg yp yc

  pub quoted_turned : QuotedTurned single at start s (quoted_turn single at start s)
  unfolding quoted_turn
  quoted_turned = gap_turned (is_blank (next_char s.here)) (tab_meets at s) (is_break (next_char s.here)) _
      refl refl refl
      (λ n. place_turned (strict_meets at s) (loose_meets single at s) (mark_meets s) _ n refl refl refl
      (placed_turned (text_len s.here == 0) (is_printable (next_char s.here)) (is_closing single s.here.unread.text)
      refl refl refl))

-- ---- content

-- each piece of content, with the tests that led to it
pub data ContentTurned (single : Bool) (start : Mark) (s : QuotedState) : Result (Option (List ℕ) × QuotedState) Fault
    → Type 0 where
  at_a_doubled : single ≡ true → next_char s.here ≡ 0x27
      → ContentTurned single start s (quoted_piece s (0x27, step (step s.here)))
  at_itself : (single && next_char s.here == 0x27) ≡ false → (single || not (next_char s.here == 0x5C)) ≡ true
      → ContentTurned single start s (quoted_piece s (next_char s.here, step s.here))
  at_escaped_break : single ≡ false → next_char s.here ≡ 0x5C → is_break (slice_index s.here.unread.text 1) ≡ true
      → ContentTurned single start s (Ok (Some (between_quoted s), quoted_at true (step s.here)))
  at_an_escape : single ≡ false → next_char s.here ≡ 0x5C → is_break (slice_index s.here.unread.text 1) ≡ false
      → ContentTurned single start s (escape_or start (step s.here) >>= quoted_piece s)

content_as : (single : Bool) (start : Mark) (s : QuotedState) (a b c : Bool) → (single && next_char s.here == 0x27) ≡ a
    → (single || not (next_char s.here == 0x5C)) ≡ b → is_break (slice_index s.here.unread.text 1) ≡ c
    → ContentTurned single start s (if a then quoted_piece s (0x27, step (step s.here)) else if b then quoted_piece s
    (next_char s.here, step s.here) else if c then Ok (Some (between_quoted s), quoted_at true (step s.here)) else
    (escape_or start (step s.here) >>= quoted_piece s))
content_as true start s true b c ya yb yc = at_a_doubled refl (grind (arith, nat_tests))
content_as true start s false true c ya yb yc = at_itself ya yb
content_as true start s false false c ya yb yc = absurd cc
content_as false start s true b c ya yb yc = absurd cc
content_as false start s false true c ya yb yc = at_itself ya yb
content_as false start s false false true ya yb yc = at_escaped_break refl (grind (arith, nat_tests)) yc
content_as false start s false false false ya yb yc = at_an_escape refl (grind (arith, nat_tests)) yc

pub content_turned : (single : Bool) (start : Mark) (s : QuotedState)
    → ContentTurned single start s (quoted_content single start s)
unfolding quoted_content
content_turned single start s = content_as single start s (single && next_char s.here == 0x27) (single
    || not (next_char s.here == 0x5C)) (is_break (slice_index s.here.unread.text 1)) refl refl refl

-- ---- each turn but the last takes a character

seen_in : (text : List ℕ) (h : Here) → h.unread.text ≡ text → (length text == 0) ≡ false → Seen h
seen_in [] h e n = absurd cc
seen_in (c ∷ t) h e n = seen_as h c t e

-- a character that is there
pub seen_there : (h : Here) → (text_len h == 0) ≡ false → Seen h
seen_there h n = seen_in h.unread.text h refl n

blank_here : (s : QuotedState) (b : Bool) → s.on_new_line ≡ b → (over_blank s).here ≡ step s.here
unfolding over_blank
blank_here s true e = rw e refl
blank_here s false e = rw e refl

break_here : (s : QuotedState) (b : Bool) → s.on_new_line ≡ b → (over_break s).here ≡ past_break s.here
unfolding over_break
break_here s true e = rw e refl
break_here s false e = rw e refl

abbrev Less : QuotedState → Result (Option (List ℕ) × QuotedState) Fault → Type 0
Less s (Ok (Some piece, after)) = quoted_len after < quoted_len s
Less s _ = Unit {0}

less_to : (s after : QuotedState) (h : Here) → after.here ≡ h → text_len h < text_len s.here
    → quoted_len after < quoted_len s
less_to s after h e l = subst (λ n. n < quoted_len s) (sym (ap text_len e)) l

no_longer : (h : Here) (e : List ℕ) (after : Here) → h.unread.text ≡ e ++ after.unread.text
    → text_len after < suc (text_len h)
no_longer h [] after is = let e = ap (λ (t : List ℕ). length t) is in omega arith
no_longer h (c ∷ e) after is =
    let l = longer e after.unread.text in let k = ap (λ (t : List ℕ). length t) is in omega arith
  where
    longer : (e t : List ℕ) → length t < suc (length (e ++ t))
    longer [] t = omega arith
    longer (c ∷ e) t = let l = longer e t in omega arith

escape_less : (s : QuotedState) (start : Mark) → Seen s.here → (r : Result (ℕ × Here) Fault)
    → ReadsEscape start (step s.here) r → Less s (r >>= quoted_piece s)
escape_less s start there (Ok (c, after)) read =
    let a = no_longer (step s.here) read.characters after read.text in
    let b = shorter s.here there in
    omega arith
escape_less s start there (Err f) read = tt

step_no_longer : (h : Here) → text_len (step h) < suc (text_len h)
step_no_longer h = omega (arith, step_len h)

content_less : (single : Bool) (start : Mark) (s : QuotedState) → Seen s.here
    → (r : Result (Option (List ℕ) × QuotedState) Fault) → ContentTurned single start s r → Less s r
content_less single start s there r (at_a_doubled y e) =
    let a = shorter s.here there in let b = step_no_longer (step s.here) in omega arith
content_less single start s there r (at_itself y e) = shorter s.here there
content_less single start s there r (at_escaped_break y e b) = shorter s.here there
content_less single start s there r (at_an_escape y e b) =
    escape_less s start there (escape_or start (step s.here)) (reads_escape start (step s.here))

less : {single : Bool} {at : LayoutData} {start : Mark} (s : QuotedState) (r : Result (Option (List ℕ)
    × QuotedState) Fault) → QuotedTurned single at start s r → Less s r
less s r (past_a_blank y t) =
    less_to s (over_blank s) (step s.here) (blank_here s s.on_new_line refl) (shorter s.here (seen_blank s.here y))
less s r (at_a_tab t) = tt
less s r (past_a_break y) =
    less_to s (over_break s) (past_break s.here) (break_here s s.on_new_line refl) (broken s.here y).shortens
less s r (at_strict n y) = tt
less s r (at_loose n y) = tt
less s r (at_a_mark n m y) = tt
less s r (at_the_end p y) = tt
less s r (at_a_character p n y) = tt
less s r (at_the_quote p y) = tt
less {single} {at} {start} s r (in_content p n y c) =
    content_less single start s (seen_there s.here n) (quoted_content single start s) (content_turned single start s)

pub quoted_shortens : (single : Bool) (at : LayoutData) (start : Mark)
    → Shortens quoted_len (quoted_turn single at start)
quoted_shortens single at start s after piece e =
    subst (Less s) e (less s (quoted_turn single at start s) (quoted_turned single at start s))
