-- Reading plain and quoted scalars takes a character, and never goes back.
use Rattle.std.proofs.Common.{◌≡◌, ℕ, zero, suc, ◌+◌, ◌*◌, ◌≤◌, Bool, true, false, List, ◌++◌, Option, Some, None}
use Rattle.std.proofs.Common.{Result, Ok, arith}
use Rattle.std.specs.Prelude.{if◌then◌else◌}
use Rattle.granit_base.specs.Classes.{is_blank, hex_value}
use Rattle.granit_base.specs.Place.{Mark}
use Rattle.granit_base.specs.Written.{Written}
use Rattle.granit_error.specs.FaultKind.{FaultKind, InvalidLowSurrogateHexEscape, InvalidQuotedScalarHexEscape}
use Rattle.granit_lexemes.specs.Basics.{past_break, only_printable, unprintable}
use Rattle.granit_lexemes.specs.Comment.{comment}
use Rattle.granit_lexemes.specs.Decoding.{letter_value, digit_count}
use Rattle.granit_lexemes.specs.Here.{Here, text_len, next_char, step, past, mark_of}
use Rattle.granit_lexemes.specs.LayoutData.{LayoutData}
use Rattle.granit_lexemes.specs.Outcome.{Fault}
use Rattle.granit_lexemes.specs.Pieces.{turns, then_more, pieces}
use Rattle.granit_lexemes.specs.PlainScalar.{PlainState, on_content, on_blank, on_break, meets_comment, plain_turn}
use Rattle.granit_lexemes.specs.PlainScalar.{plain_len, plain_start, behind_plain, plain_scalar}
use Rattle.granit_base.specs.PlainContent.{is_content}
use Rattle.granit_lexemes.specs.QuotedScalar.{QuotedState, digits_or, joined_or, second_half_or, numbered_or}
use Rattle.granit_lexemes.specs.QuotedScalar.{escape_or_by, escape_or, between_quoted, quoted_at, over_blank}
use Rattle.granit_lexemes.specs.QuotedScalar.{over_break, quoted_piece, quoted_content, quoted_turn, quoted_len}
use Rattle.granit_lexemes.specs.QuotedScalar.{quoted_read, asked_comment, behind_quoted, quoted_tail, quoted_rest}
use Rattle.granit_lexemes.specs.QuotedScalar.{quoted_text}
use Rattle.granit_lexemes.specs.QuotedScalar.{quoted_scalar}
use Rattle.granit_lexemes.proofs.PlainTurned.{Turned, past_a_blank, past_a_break, at_a_comment, at_a_tab, at_a_line}
use Rattle.granit_lexemes.proofs.PlainTurned.{past_content, at_no_content, turned}
use Rattle.granit_termination.proofs.BlockLengths.{only_printable-fits}
use Rattle.granit_termination.proofs.LengthLemmas.{Fits, fits_if, fits_bind, turns-fits, then_more-fits, pieces-fits}
use Rattle.granit_termination.proofs.LengthLemmas.{here_if, step-fits, step-less, past-fits, past_break-fits}
use Rattle.granit_termination.proofs.LengthLemmas.{comment-fits}

-- ---- plain scalars

plain_if : (n : ℕ) (b : Bool) (s t : PlainState) → plain_len s ≤ n → plain_len t ≤ n
    → plain_len (if b then s else t) ≤ n
plain_if n true s t p q = p
plain_if n false s t p q = q

on_blank-fits : (at : LayoutData) (n : ℕ) (s : PlainState) → text_len (step s.here) ≤ n → plain_len (on_blank at s) ≤ n
unfolding on_blank
on_blank-fits at n s p = search (plain_if, p)

on_break-fits : (n : ℕ) (s : PlainState) → text_len (past_break s.here) ≤ n → plain_len (on_break s) ≤ n
unfolding on_break
on_break-fits n s p = search (plain_if, p)

on_content-fits : (n : ℕ) (s : PlainState) → text_len (step s.here) ≤ n → plain_len (on_content s) ≤ n
unfolding on_content
on_content-fits n s p = p

plain_turn-fits : (at : LayoutData) (start : Mark) (n : ℕ) (s : PlainState) → plain_len s ≤ n
    → Fits plain_len n (plain_turn at start s)
unfolding plain_turn
plain_turn-fits at start n s p =
    let a = on_blank-fits at n s (step-fits n s.here p) in
    let b = on_break-fits n s (past_break-fits n s.here p) in
    let c = on_content-fits n s (step-fits n s.here p) in
    search (fits_if, a, b, c, p) depth 12

past_break-less : (n : ℕ) (h : Here) → text_len h ≤ suc n → text_len (past_break h) ≤ n
unfolding past_break
past_break-less n h p = let a = step-less n h p in let b = step-fits n (step h) a in search (here_if, a, b)

no_comment : (h : Here) → meets_comment (plain_start h) ≡ false
no_comment h = grind arith

first_turn : (at : LayoutData) (start : Mark) (n : ℕ) (h : Here) → text_len h ≤ suc n
    → is_content at.in_flow h.unread.text ≡ true → (r : Result (Option (List ℕ) × PlainState) Fault)
    → Turned at start (plain_start h) r → Fits plain_len n r
first_turn at start n h p held r (past_a_blank e) = on_blank-fits at n (plain_start h) (step-less n h p)
first_turn at start n h p held r (past_a_break e) = on_break-fits n (plain_start h) (past_break-less n h p)
first_turn at start n h p held r (at_a_comment e meets) = absurd (let m = no_comment h in cc)
first_turn at start n h p held r (at_a_tab e f g) = tt
first_turn at start n h p held r (at_a_line e f g) = absurd cc
first_turn at start n h p held r (past_content e f g i) = on_content-fits n (plain_start h) (step-less n h p)
first_turn at start n h p held r (at_no_content e f g) = absurd cc

-- where content begins, a plain scalar takes it
plain_pieces-fits : (at : LayoutData) (start : Mark) (n : ℕ) (h : Here) → text_len h ≤ suc n
    → is_content at.in_flow h.unread.text ≡ true
    → Fits plain_len n (pieces plain_len (plain_turn at start) (plain_start h))
unfolding pieces turns
plain_pieces-fits at start n h p held =
    let turn = plain_turn at start in
    fits_bind plain_len plain_len n n (turn (plain_start h)) (λ x. then_more (turns turn (text_len h)) x.0 x.1)
    (first_turn at start n h p held (turn (plain_start h)) (turned at start (plain_start h)))
    (λ x q. then_more-fits plain_len n (turns turn (text_len h)) x.0 x.1 q
    (turns-fits plain_len turn (plain_turn-fits at start) (text_len h) n x.1 q))

behind_plain-fits : (at : LayoutData) (start : Mark) (value : List ℕ) (n : ℕ) (s : PlainState) → plain_len s ≤ n
    → Fits text_len n (behind_plain at start value s)
unfolding behind_plain
behind_plain-fits at start value n s p = search (fits_if, p)

pub plain_scalar-fits : (at : LayoutData) (n : ℕ) (h : Here) → text_len h ≤ suc n
    → is_content at.in_flow h.unread.text ≡ true → Fits text_len n (plain_scalar at h)
unfolding plain_scalar
plain_scalar-fits at n h p held =
    let e = fits_bind plain_len text_len n n (pieces plain_len (plain_turn at (mark_of h)) (plain_start h))
    (λ x. only_printable (unprintable x.0) (mark_of h) (behind_plain at (mark_of h) x.0 x.1))
    (plain_pieces-fits at (mark_of h) n h p held)
    (λ x q. only_printable-fits text_len n (unprintable x.0) (mark_of h) (behind_plain at (mark_of h) x.0 x.1)
    (behind_plain-fits at (mark_of h) x.0 n x.1 q)) in
    search (fits_if, e)

-- ---- quoted scalars

digits_or-fits : (kind : FaultKind) (start : Mark) (count value n : ℕ) (h : Here) → text_len h ≤ n
    → Fits text_len n (digits_or kind start count value h)
unfolding digits_or
digits_or-fits kind start zero value n h p = p
digits_or-fits kind start (suc count) value n h p =
    let e = digits_or-fits kind start count (value * 16 + hex_value (next_char h)) n (step h) (step-fits n h p) in
    search (fits_if, e)

joined_or-fits : (start : Mark) (high low n : ℕ) (h : Here) → text_len h ≤ n
    → Fits text_len n (joined_or start high low h)
joined_or-fits start high low n h p = search (fits_if, p)

second_half_or-fits : (start : Mark) (high n : ℕ) (h : Here) → text_len h ≤ n
    → Fits text_len n (second_half_or start high h)
unfolding second_half_or
second_half_or-fits start high n h p =
    let e = fits_bind text_len text_len n n (digits_or InvalidLowSurrogateHexEscape start 4 0 (step (step h)))
    (λ x. joined_or start high x.0 x.1)
    (digits_or-fits InvalidLowSurrogateHexEscape start 4 0 n (step (step h)) (step-fits n (step h) (step-fits n h p)))
    (λ x q. joined_or-fits start high x.0 n x.1 q) in
    search (fits_if, e)

numbered_or-fits : (start : Mark) (count value n : ℕ) (h : Here) → text_len h ≤ n
    → Fits text_len n (numbered_or start count value h)
unfolding numbered_or
numbered_or-fits start count value n h p = let e = second_half_or-fits start value n h p in search (fits_if, e, p)

escape_or_by-fits : (start : Mark) (letter count : Option ℕ) (n : ℕ) (h : Here) → text_len h ≤ n
    → Fits text_len n (escape_or_by start letter count h)
escape_or_by-fits start (Some c) count n h p = step-fits n h p
escape_or_by-fits start None (Some count) n h p =
    fits_bind text_len text_len n n (digits_or InvalidQuotedScalarHexEscape start count 0 (step h))
    (λ x. numbered_or start count x.0 x.1)
    (digits_or-fits InvalidQuotedScalarHexEscape start count 0 n (step h) (step-fits n h p))
    (λ x q. numbered_or-fits start count x.0 n x.1 q)
escape_or_by-fits start None None n h p = tt

escape_or-fits : (start : Mark) (n : ℕ) (h : Here) → text_len h ≤ n → Fits text_len n (escape_or start h)
unfolding escape_or
escape_or-fits start n h p = escape_or_by-fits start (letter_value (next_char h)) (digit_count (next_char h)) n h p

quoted_if : (n : ℕ) (b : Bool) (s t : QuotedState) → quoted_len s ≤ n → quoted_len t ≤ n
    → quoted_len (if b then s else t) ≤ n
quoted_if n true s t p q = p
quoted_if n false s t p q = q

over_blank-fits : (n : ℕ) (s : QuotedState) → text_len (step s.here) ≤ n → quoted_len (over_blank s) ≤ n
unfolding over_blank
over_blank-fits n s p = search (quoted_if, p)

over_break-fits : (n : ℕ) (s : QuotedState) → text_len (past_break s.here) ≤ n → quoted_len (over_break s) ≤ n
unfolding over_break
over_break-fits n s p = search (quoted_if, p)

quoted_content-fits : (single : Bool) (start : Mark) (n : ℕ) (s : QuotedState) → quoted_len s ≤ n
    → Fits quoted_len n (quoted_content single start s)
unfolding quoted_content
quoted_content-fits single start n s p =
    let a = step-fits n s.here p in
    let b = step-fits n (step s.here) a in
    let e = fits_bind text_len quoted_len n n (escape_or start (step s.here)) (quoted_piece s)
    (escape_or-fits start n (step s.here) a) (λ x q. q) in
    search (fits_if, a, b, e)

quoted_turn-fits : (single : Bool) (at : LayoutData) (start : Mark) (n : ℕ) (s : QuotedState) → quoted_len s ≤ n
    → Fits quoted_len n (quoted_turn single at start s)
unfolding quoted_turn
quoted_turn-fits single at start n s p =
    let a = over_blank-fits n s (step-fits n s.here p) in
    let b = over_break-fits n s (past_break-fits n s.here p) in
    let c = quoted_content-fits single start n s p in
    search (fits_if, a, b, c, p) depth 12

behind_quoted-fits : (single : Bool) (at : LayoutData) (start : Mark) (value : Written) (end : Mark) (n : ℕ) (h : Here)
    → text_len h ≤ n → Fits text_len n (behind_quoted single at start value end h)
unfolding behind_quoted
behind_quoted-fits single at start value end n h p = search (fits_if, p)

quoted_tail-fits : (single : Bool) (at : LayoutData) (start : Mark) (value : Written) (n : ℕ) (h : Here)
    → text_len h ≤ n → Fits text_len n (quoted_tail single at start value h)
unfolding quoted_tail
quoted_tail-fits single at start value n h p =
    let b = past-fits is_blank n h p in
    let c : text_len (past is_blank h) ≤ suc n = omega (arith, b) in
    let e = fits_bind text_len text_len n n (comment (past is_blank h))
    (λ x. Ok (quoted_read single start value (mark_of h) (asked_comment at x.0), x.1))
    (comment-fits n (past is_blank h) c) (λ x q. q) in
    let f = behind_quoted-fits single at start value (mark_of h) n (past is_blank h) b in
    search (fits_if, e, f)

pub quoted_scalar-fits : (single : Bool) (at : LayoutData) (n : ℕ) (h : Here) → text_len h ≤ suc n
    → Fits text_len n (quoted_scalar single at h)
unfolding quoted_scalar
quoted_scalar-fits single at n h p =
    fits_bind quoted_len text_len n n (quoted_rest single at (mark_of h) (quoted_at false (step h)))
    (λ x. quoted_tail single at (mark_of h) (quoted_text single (step h) (x.0 ++ between_quoted x.1)) (step x.1.here))
    (pieces-fits quoted_len (quoted_turn single at (mark_of h)) (quoted_turn-fits single at (mark_of h)) n
    (quoted_at false (step h)) (step-less n h p))
    (λ x q. quoted_tail-fits single at (mark_of h) (quoted_text single (step h) (x.0 ++ between_quoted x.1)) n
    (step x.1.here)
    (step-fits n x.1.here q))
