-- Reading block scalars never goes back.
use Rattle.std.proofs.Common.{ℕ, zero, suc, ◌-◌, ◌≤◌, ◌==◌, Bool, true, false, List, ◌++◌, Option, Some, None, Result}
use Rattle.std.proofs.Common.{Ok}
use Rattle.granit_base.specs.Classes.{is_blank, is_non_breakz}
use Rattle.granit_base.specs.Place.{Mark}
use Rattle.granit_lexemes.specs.Basics.{past_break, only_printable, unprintable, text_up_to}
use Rattle.granit_lexemes.specs.BlockHeader.{Chomping, BlockHeader, header_sign, block_header, content_column}
use Rattle.granit_lexemes.specs.BlockHeader.{chomping_of}
use Rattle.granit_lexemes.specs.BlockScalar.{over_spaces, indented, empty_turn, empty_lines, BlockState, between_lines}
use Rattle.granit_lexemes.specs.BlockScalar.{line_up_to, block_turn, block_len, last_break, kept}
use Rattle.granit_lexemes.specs.BlockScalar.{block_read, behind_block, content_lines, block_lines, block_body}
use Rattle.granit_lexemes.specs.BlockScalar.{block_scalar}
use Rattle.granit_lexemes.specs.Here.{Here, text_len, next_char, step, mid_line, past, mark_of}
use Rattle.granit_lexemes.specs.Outcome.{Fault, ◌>>=◌}
use Rattle.granit_lexemes.specs.Pieces.{pieces}
use Rattle.granit_lexemes.specs.Tail.{tail_at}
use Rattle.granit_termination.proofs.LengthLemmas.{Fits, fits_if, fits_bind, fits_behind, pieces-fits, here_if}
use Rattle.granit_termination.proofs.LengthLemmas.{step-fits}
use Rattle.granit_termination.proofs.LengthLemmas.{step-less, past-fits, past_break-fits, tail_at-fits}

header_sign-fits : (start : Mark) (b : BlockHeader) (n : ℕ) (h : Here) → text_len h ≤ n
    → Fits text_len n (header_sign start b h)
unfolding header_sign
header_sign-fits start b n h p = let m = step-fits n h p in search (fits_if, m, p)

block_header-fits : (n : ℕ) (h : Here) → text_len h ≤ suc n → Fits text_len n (block_header h)
unfolding block_header
block_header-fits n h p =
    let b : BlockHeader = record { chomping = None; digit = None } in
    fits_bind text_len text_len n n (header_sign (mark_of h) b (step h)) (λ x. header_sign (mark_of h) x.0 x.1)
    (header_sign-fits (mark_of h) b n (step h) (step-less n h p)) (λ x q. header_sign-fits (mark_of h) x.0 n x.1 q)

over_spaces-fits : (k n : ℕ) (h : Here) → text_len h ≤ n → text_len (over_spaces k h) ≤ n
unfolding over_spaces
over_spaces-fits zero n h p = p
over_spaces-fits (suc k) n h p = here_if n (next_char h == 0x20) (over_spaces k (step h)) h
    (over_spaces-fits k n (step h) (step-fits n h p)) p

empty_turn-fits : (column n : ℕ) (h : Here) → text_len h ≤ n → Fits text_len n (empty_turn column h)
unfolding empty_turn
empty_turn-fits column n h p =
    let e = over_spaces-fits (column - h.place.column) n h p in
    let b = past_break-fits n (indented column h) e in
    search (fits_if, b, e)

empty_lines-fits : (column n : ℕ) (h : Here) → text_len h ≤ n → Fits text_len n (empty_lines column h)
empty_lines-fits column n h p = pieces-fits text_len (empty_turn column) (empty_turn-fits column) n h p

line_up_to-fits : (literal : Bool) (column n : ℕ) (s : BlockState) (after : Here) → text_len after ≤ n
    → Fits block_len n (line_up_to literal column s after)
unfolding line_up_to
line_up_to-fits literal column n s after p =
    let piece : List ℕ = between_lines literal s.before (is_blank (next_char s.here)) s.empty
    ++ text_up_to s.here after in
    let e = fits_bind text_len block_len n n (empty_lines column (past_break after))
    (λ x. Ok (
      Some piece,
      record {
        here = x.1;
        empty = x.0;
        before = Some (is_blank (next_char s.here));
        broken =
            true;
      },
    ))
    (empty_lines-fits column n (past_break after) (past_break-fits n after p)) (λ x q. q) in
    search (fits_if, e, p)

block_turn-fits : (literal : Bool) (column n : ℕ) (s : BlockState) → block_len s ≤ n
    → Fits block_len n (block_turn literal column s)
unfolding block_turn
block_turn-fits literal column n s p =
    let e = line_up_to-fits literal column n s (mid_line (past is_non_breakz s.here))
    (past-fits is_non_breakz n s.here p) in
    search (fits_if, e, p)

pub only_printable-fits : {A S : Type 0} (size : S → ℕ) (n : ℕ) (o : Option ℕ) (m : Mark) (r : Result (A × S) Fault)
    → Fits size n r → Fits size n (only_printable o m r)
only_printable-fits size n None m r p = p
only_printable-fits size n (Some c) m r p = tt

behind_block-fits : (chomping : Chomping) (column : ℕ) (shown : Mark) (text : List ℕ) (n : ℕ) (s : BlockState)
    → block_len s ≤ n → Fits text_len n (behind_block chomping column shown text s)
unfolding behind_block
behind_block-fits chomping column shown text n s p =
    let whole : List ℕ = (text ++ last_break chomping s) ++ kept chomping s.empty in
    let e = only_printable-fits text_len n (unprintable whole) shown (Ok (block_read column shown whole, s.here)) p in
    search (fits_if, e)

content_lines-fits : (literal : Bool) (chomping : Chomping) (broken : Bool) (block : Option ℕ) (column : ℕ)
    (start : Mark) (empty : List ℕ) (n : ℕ) (h : Here) → text_len h ≤ n
    → Fits text_len n (content_lines literal chomping broken block column start empty h)
unfolding content_lines
content_lines-fits literal chomping broken block column start empty n h p =
    let s : BlockState = record { here = h; empty = empty; before = None; broken = false } in
    let e = fits_bind block_len text_len n n (pieces block_len (block_turn literal column) s)
    (λ x. behind_block chomping column (mark_of h) x.0 x.1)
    (pieces-fits block_len (block_turn literal column) (block_turn-fits literal column) n s p)
    (λ x q. behind_block-fits chomping column (mark_of h) x.0 n x.1 q) in
    search (fits_if, e, p)

block_lines-fits : (literal : Bool) (header : BlockHeader) (broken : Bool) (block : Option ℕ) (start : Mark) (n : ℕ)
    (h : Here) → text_len h ≤ n → Fits text_len n (block_lines literal header broken block start h)
unfolding block_lines
block_lines-fits literal header broken block start n h p =
    let e = fits_behind text_len n (content_column block header.digit h)
    (λ column. empty_lines column h >>= λ x. content_lines literal (chomping_of header.chomping) broken block column
    start x.0 x.1)
    (λ column. fits_bind text_len text_len n n (empty_lines column h)
    (λ x. content_lines literal (chomping_of header.chomping) broken block column start x.0 x.1)
    (empty_lines-fits column n h p) (λ x q. content_lines-fits literal (chomping_of header.chomping) broken block column
    start x.0 n x.1 q)) in
    search (fits_if, e)

block_body-fits : (literal : Bool) (header : BlockHeader) (block : Option ℕ) (start : Mark) (n : ℕ) (h : Here)
    → text_len h ≤ n → Fits text_len n (block_body literal header block start h)
unfolding block_body
block_body-fits literal header block start n h p =
    let a = block_lines-fits literal header true block start n (past_break h) (past_break-fits n h p) in
    let b = block_lines-fits literal header false block start n h p in
    search (fits_if, a, b)

pub block_scalar-fits : (literal : Bool) (block : Option ℕ) (n : ℕ) (h : Here) → text_len h ≤ suc n
    → Fits text_len n (block_scalar literal block h)
unfolding block_scalar
block_scalar-fits literal block n h p =
    fits_bind text_len text_len n n (block_header h) _ (block_header-fits n h p)
    (λ x q. fits_bind text_len text_len n n (tail_at x.1) _ (tail_at-fits n x.1 q)
    (λ y r. fits_bind text_len text_len n n (block_body literal x.0 block (mark_of h) y.1) _
    (block_body-fits literal x.0 block (mark_of h) n y.1 r) (λ z t. t)))
