-- No refusal of the plain functions names a source.
use Rattle.std.specs.Prelude.{slice_index}
use Rattle.std.proofs.Common.{◌≡◌, ℕ, zero, suc, ◌+◌, ◌*◌, ◌==◌, ◌&&◌, ◌||◌, not, Bool, true, false, if◌then◌else◌}
use Rattle.std.proofs.Common.{List, [], Option, Some, None, Result, Ok, Err, sym, ap}
use lib.Utf8.{scalar}
use Rattle.granit_base.specs.Classes.{is_blank, is_break, hex_value, is_printable, is_z}
use Rattle.granit_base.specs.Place.{Mark}
use Rattle.granit_base.specs.Written.{Written}
use Rattle.granit_error.specs.FaultKind.{FaultKind}
use Rattle.granit_lexemes.proofs.PieceLemmas.{same_error}
use Rattle.granit_lexemes.specs.Comment.{behind_comment, skipped_comment, comment, past_comment}
use Rattle.granit_lexemes.specs.Decoding.{letter_value, digit_count, is_high, is_low}
use Rattle.granit_lexemes.specs.Here.{Here, text_len, next_char, step, past, mark_of}
use Rattle.granit_lexemes.specs.LayoutData.{LayoutData}
use Rattle.granit_lexemes.specs.Outcome.{Fault, fault_at, ◌>>=◌}
use Rattle.granit_lexemes.specs.Pieces.{pieces, Shortens}
use Rattle.granit_lexemes.specs.Basics.{is_document_mark, fails_at, only_printable}
use Rattle.granit_lexemes.specs.PlainScalar.{PlainState, meets_comment, ends_before_line, plain_turn, plain_len}
use Rattle.granit_lexemes.specs.PlainScalar.{behind_plain, plain_scalar}
use Rattle.granit_base.specs.PlainContent.{is_content}
use Rattle.granit_lexemes.specs.QuotedScalar.{QuotedState, is_closing, is_tab_left, is_strictly_left, is_loosely_left}
use Rattle.granit_lexemes.specs.QuotedScalar.{may_trail, digits_or, second_half_or, numbered_or, escape_or_by}
use Rattle.granit_lexemes.specs.QuotedScalar.{escape_or, quoted_content, quoted_turn, quoted_len, behind_quoted}
use Rattle.granit_lexemes.specs.QuotedScalar.{quoted_tail, quoted_scalar}
use Rattle.granit_scalars.proofs.PlainTurns.{plain_shortens}
use Rattle.granit_scalars.proofs.QuotedTurns.{quoted_shortens}
use Rattle.granit_scalars.proofs.Turning.{Carries, pieces_hold}

pub record IsNameless {Y : Type 0} (r : Result Y Fault) : Type 0 where
  pub none : (f : Fault) → r ≡ Err f → f.sources ≡ []

pub ok_none : {Y : Type 0} {y : Y} → IsNameless {Y = Y} (Ok y)
ok_none = record { none = λ f e. absurd cc }

pub err_none : {Y : Type 0} {kind : FaultKind} {mark : Mark} → IsNameless {Y = Y} (fails_at kind mark)
err_none {kind = kind} {mark = mark} = record {
  none = λ f e. ap (λ (g : Fault). g.sources)
      (sym (same_error (fault_at kind mark) f e));
}

pub then_none : {A B : Type 0} {r : Result A Fault} {f : A → Result B Fault} → IsNameless r
    → ((x : A) → IsNameless (f x)) → IsNameless (r >>= f)
then_none {r = Ok x} n m = m x
then_none {r = Err e} n m = record { none = λ f is. n.none f (ap Err (same_error e f is)) }

pub if_none : {Y : Type 0} (v : Bool) {r s : Result Y Fault} → IsNameless r → IsNameless s
    → IsNameless (if v then r else s)
if_none true n m = n
if_none false n m = m

carried : {S A : Type 0} (s : S) (r : Result (Option (List A) × S) Fault) → IsNameless r
    → Carries (λ (t : S) (given : Result (List A × S) Fault). IsNameless given) s r
carried s (Err f) n = record { none = λ g is. n.none g (ap Err (same_error f g is)) }
carried s (Ok (None, after)) n = ok_none
carried s (Ok (Some piece, after)) n = λ given m. then_none m (λ x. ok_none)

pub pieces_none : {S A : Type 0} (size : S → ℕ) (turn : S → Result (Option (List A) × S) Fault) → Shortens size turn
    → ((s : S) → IsNameless (turn s)) → (s : S) → IsNameless (pieces size turn s)
pieces_none {S} {A} size turn less n s = pieces_hold (λ (t : S) (given : Result (List A × S) Fault). IsNameless given)
    size turn less (λ t. carried t (turn t) (n t)) s

-- ---- comments

behind_comment_none : (h : Here) → IsNameless (behind_comment h)
unfolding behind_comment
behind_comment_none h = if_none _ ok_none err_none

pub skipped_none : (h : Here) → IsNameless (skipped_comment h)
unfolding skipped_comment
skipped_none h = behind_comment_none (past_comment h)

pub comment_none : (h : Here) → IsNameless (comment h)
unfolding comment
comment_none h = then_none (skipped_none h) (λ x. ok_none)

-- ---- plain scalars

plain_turn_none : (at : LayoutData) (start : Mark) (s : PlainState) → IsNameless (plain_turn at start s)
unfolding plain_turn
plain_turn_none at start s =
    if_none (is_blank (next_char s.here)) ok_none
    (if_none (is_break (next_char s.here)) ok_none
    (if_none (meets_comment s) ok_none
    (if_none (s.left_tab && not (is_z (next_char s.here))) err_none
    (if_none (s.on_new_line && ends_before_line at s.here) ok_none
    (if_none (is_content at.in_flow s.here.unread.text) ok_none ok_none)))))

behind_plain_none : (at : LayoutData) (start : Mark) (value : List ℕ) (s : PlainState)
    → IsNameless (behind_plain at start value s)
unfolding behind_plain
behind_plain_none at start value s = if_none _ err_none ok_none

printable_none : {Y : Type 0} (u : Option ℕ) (start : Mark) (r : Result Y Fault) → IsNameless r
    → IsNameless (only_printable u start r)
printable_none None start r n = n
printable_none (Some c) start r n = err_none

pub plain_none : (at : LayoutData) (h : Here) → IsNameless (plain_scalar at h)
unfolding plain_scalar
plain_none at h =
    if_none _ err_none
    (then_none (pieces_none plain_len (plain_turn at (mark_of h)) (plain_shortens at (mark_of h))
    (plain_turn_none at (mark_of h)) _)
    (λ x. printable_none _ (mark_of h) _ (behind_plain_none at (mark_of h) x.0 x.1)))

-- ---- quoted scalars

digits_none : (kind : FaultKind) (start : Mark) (count n : ℕ) (h : Here) → IsNameless (digits_or kind start count n h)
unfolding digits_or
digits_none kind start zero n h = ok_none
digits_none kind start (suc count) n h = if_none _
    (digits_none kind start count (n * 16 + hex_value (next_char h)) (step h)) err_none

second_none : (start : Mark) (high : ℕ) (h : Here) → IsNameless (second_half_or start high h)
unfolding second_half_or
second_none start high h = if_none _ (then_none (digits_none _ start 4 0 (step (step h)))
    (λ x. if_none _ ok_none err_none)) err_none

numbered_none : (start : Mark) (count n : ℕ) (h : Here) → IsNameless (numbered_or start count n h)
unfolding numbered_or
numbered_none start count n h =
    if_none (scalar n) ok_none
    (if_none (count == 4 && is_high n) (second_none start n h)
    (if_none (count == 4 && is_low n) err_none err_none))

escape_by_none : (start : Mark) (value count : Option ℕ) (h : Here) → IsNameless (escape_or_by start value count h)
escape_by_none start (Some c) count h = ok_none
escape_by_none start None (Some count) h = then_none (digits_none _ start count 0 (step h))
    (λ x. numbered_none start count x.0 x.1)
escape_by_none start None None h = err_none

escape_none : (start : Mark) (h : Here) → IsNameless (escape_or start h)
unfolding escape_or
escape_none start h = escape_by_none start (letter_value (next_char h)) (digit_count (next_char h)) h

content_none : (single : Bool) (start : Mark) (s : QuotedState) → IsNameless (quoted_content single start s)
unfolding quoted_content
content_none single start s =
    if_none (single && next_char s.here == 0x27) ok_none
    (if_none (single || not (next_char s.here == 0x5C)) ok_none
    (if_none (is_break (slice_index s.here.unread.text 1)) ok_none
    (then_none (escape_none start (step s.here)) (λ x. ok_none))))

quoted_turn_none : (single : Bool) (at : LayoutData) (start : Mark) (s : QuotedState)
    → IsNameless (quoted_turn single at start s)
unfolding quoted_turn
quoted_turn_none single at start s =
    if_none (is_blank (next_char s.here)) (if_none
    (s.on_new_line && (next_char s.here == 0x09 && is_tab_left at s.here.place.column)) err_none ok_none)
    (if_none (is_break (next_char s.here)) ok_none
    (if_none (s.on_new_line && is_strictly_left at s.escaped s.here.place.column) err_none
    (if_none (s.on_new_line && is_loosely_left at s.escaped (is_closing single s.here.unread.text) s.here.place.column)
    err_none
    (if_none (s.on_new_line && (s.here.place.column == 0 && is_document_mark s.here.unread.text)) err_none
    (if_none (text_len s.here == 0) err_none
    (if_none (not (is_printable (next_char s.here))) err_none
    (if_none (is_closing single s.here.unread.text) ok_none (content_none single start s))))))))

behind_quoted_none : (single : Bool) (at : LayoutData) (start : Mark) (value : Written) (end : Mark) (h : Here)
    → IsNameless (behind_quoted single at start value end h)
unfolding behind_quoted
behind_quoted_none single at start value end h =
    if_none (text_len h == 0) ok_none
    (if_none (not (is_printable (next_char h))) err_none
    (if_none (may_trail at (h.place.line == start.place.line) (next_char h)) ok_none err_none))

tail_none : (single : Bool) (at : LayoutData) (start : Mark) (value : Written) (h : Here)
    → IsNameless (quoted_tail single at start value h)
unfolding quoted_tail
tail_none single at start value h =
    if_none (next_char h == 0x23) err_none
    (if_none (next_char (past is_blank h) == 0x23) (then_none (comment_none (past is_blank h)) (λ x. ok_none))
    (behind_quoted_none single at start value (mark_of h) (past is_blank h)))

pub quoted_none : (single : Bool) (at : LayoutData) (h : Here) → IsNameless (quoted_scalar single at h)
unfolding quoted_scalar
quoted_none single at h =
    then_none (pieces_none quoted_len (quoted_turn single at (mark_of h)) (quoted_shortens single at (mark_of h))
    (quoted_turn_none single at (mark_of h)) _)
    (λ x. tail_none single at (mark_of h) _ _)
