-- A scalar is read where comments aren't asked for as where they are, without its comment.
use Rattle.std.proofs.Common.{◌≡◌, Bool, true, false, ◌==◌, not, if◌then◌else◌, ◌++◌, None}
use Rattle.std.proofs.Common.{Result, Ok, Err, refl}
use Rattle.granit_base.specs.Classes.{is_blank, is_printable}
use Rattle.granit_base.specs.Place.{Mark}
use Rattle.granit_base.specs.Written.{Written}
use Rattle.granit_lexemes.specs.Comment.{CommentRead, comment}
use Rattle.granit_lexemes.specs.Here.{Here, text_len, next_char, mark_of, step, past}
use Rattle.granit_lexemes.specs.LayoutData.{LayoutData}
use Rattle.granit_lexemes.specs.Outcome.{Fault, ◌>>=◌}
use Rattle.granit_lexemes.specs.PlainScalar.{plain_turn, on_blank, behind_plain, plain_scalar}
use Rattle.granit_lexemes.specs.QuotedScalar.{QuotedRead, quoted_turn, is_strictly_left, is_loosely_left}
use Rattle.granit_lexemes.specs.QuotedScalar.{quoted_at, quoted_read, asked_comment, may_trail, behind_quoted}
use Rattle.granit_lexemes.specs.QuotedScalar.{quoted_tail, quoted_rest, between_quoted, quoted_scalar}
use Rattle.granit_lexemes.specs.QuotedScalar.{quoted_text}
use Rattle.granit_cursor.specs.Reading.{coded}
use Rattle.granit_content.specs.Reads.{note_if_asked}
use Rattle.granit_content.specs.ScalarReads.{layout_asking}

-- what a test decides, as the code has it
pub same_if : {X Y S : Type 0} (code : Y → X) (test : Bool) (a b : Result (X × S) Fault) (c d : Result (Y × S) Fault)
    → a ≡ coded code c → b ≡ coded code d → (if test then a else b) ≡ coded code (if test then c else d)
same_if code true a b c d p q = p
same_if code false a b c d p q = q

-- what follows, as the code has it
pub same_then : {X Y S A : Type 0} (code : Y → X) (r : Result A Fault) (f : A → Result (X × S) Fault)
    (g : A → Result (Y × S) Fault) → ((x : A) → f x ≡ coded code (g x)) → (r >>= f) ≡ coded code (r >>= g)
same_then code (Ok x) f g same = same x
same_then code (Err e) f g same = refl

-- with its comment where comments are asked for
abbrev pub heard : Bool → QuotedRead → QuotedRead
heard asked r = record r { comment = note_if_asked asked r.comment }

comment_heard : (single asked : Bool) (at : LayoutData) (start : Mark) (value : Written) (end : Mark)
    (x : CommentRead × Here) → ◌≡◌ {A = Result (QuotedRead × Here) Fault}
    (Ok (quoted_read single start value end (asked_comment (layout_asking asked at) x.0), x.1))
    (coded (heard asked) (Ok (quoted_read single start value end (asked_comment (layout_asking true at) x.0), x.1)))
comment_heard single true at start value end x = refl
comment_heard single false at start value end x = refl

none_heard : (asked : Bool) → None ≡ note_if_asked asked None
none_heard true = refl
none_heard false = refl

behind_heard : (single asked : Bool) (at : LayoutData) (start : Mark) (value : Written) (end : Mark) (h : Here)
    → behind_quoted single (layout_asking asked at) start value end h
    ≡ coded (heard asked) (behind_quoted single (layout_asking true at) start value end h)
unfolding behind_quoted may_trail
behind_heard single true at start value end h = same_if (heard true) (text_len h == 0) _ _ _ _ refl
    (same_if (heard true) (not (is_printable (next_char h))) _ _ _ _ refl
    (same_if (heard true) (may_trail at (h.place.line == start.place.line) (next_char h)) _ _ _ _ refl refl))
behind_heard single false at start value end h = same_if (heard false) (text_len h == 0) _ _ _ _ refl
    (same_if (heard false) (not (is_printable (next_char h))) _ _ _ _ refl
    (same_if (heard false) (may_trail at (h.place.line == start.place.line) (next_char h)) _ _ _ _ refl refl))

tail_heard : (single asked : Bool) (at : LayoutData) (start : Mark) (value : Written) (h : Here)
    → quoted_tail single (layout_asking asked at) start value h
    ≡ coded (heard asked) (quoted_tail single (layout_asking true at) start value h)
unfolding quoted_tail
tail_heard single asked at start value h =
    same_if (heard asked) (next_char h == 0x23) _ _ _ _ refl
    (same_if (heard asked) (next_char (past is_blank h) == 0x23) _ _ _ _
    (same_then (heard asked) (comment (past is_blank h)) _ _ (comment_heard single asked at start value (mark_of h)))
    (behind_heard single asked at start value (mark_of h) (past is_blank h)))

turn_heard : (single asked : Bool) (at : LayoutData) (start : Mark)
    → quoted_turn single (layout_asking asked at) start ≡ quoted_turn single (layout_asking true at) start
unfolding quoted_turn is_strictly_left is_loosely_left
turn_heard single asked at start = refl

-- a quoted scalar is read as where comments are asked for, less its comment
pub quoted_heard : (single asked : Bool) (at : LayoutData) (h : Here)
    → quoted_scalar single (layout_asking asked at) h
    ≡ coded (heard asked) (quoted_scalar single (layout_asking true at) h)
unfolding quoted_scalar
quoted_heard single asked at h = rw (turn_heard single asked at (mark_of h))
    (same_then (heard asked) (quoted_rest single (layout_asking true at) (mark_of h) (quoted_at false (step h))) _ _
    (λ x. tail_heard single asked at (mark_of h) (quoted_text single (step h) (x.0 ++ between_quoted x.1))
    (step x.1.here)))

-- a plain scalar reads no comment
pub plain_heard : (asked : Bool) (at : LayoutData) (h : Here)
    → plain_scalar (layout_asking asked at) h ≡ plain_scalar (layout_asking true at) h
unfolding plain_scalar plain_turn behind_plain on_blank
plain_heard asked at h = refl
