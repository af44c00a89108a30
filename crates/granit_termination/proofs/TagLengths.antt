-- Reading tags, names and directives never goes back.
use Rattle.std.proofs.Common.{ℕ, zero, suc, ◌+◌, ◌≤◌, ◌==◌, Bool, List, [], ◌∷◌, ◌++◌, length, Option, Some, None, Ok}
use Rattle.std.proofs.Common.{arith}
use Rattle.std.specs.Str.{encode_utf8_all}
use Rattle.granit_base.specs.Classes.{is_blank, is_anchor_char, is_alpha, is_tag_char, is_uri_char, is_digit}
use Rattle.granit_base.specs.Classes.{is_yaml_non_space}
use Rattle.granit_base.specs.Place.{Mark}
use Rattle.granit_error.specs.OptionsData.{OptionsData}
use Rattle.granit_lexemes.specs.Basics.{count_up_to, text_up_to}
use Rattle.granit_lexemes.specs.Comment.{CommentRead, comment}
use Rattle.granit_lexemes.specs.Directive.{word_up_to, number_up_to, version_number, minor_number, version_directive}
use Rattle.granit_lexemes.specs.Directive.{blanks_within, behind_word, handle_by, handle_at, prefix_ends, prefix_at}
use Rattle.granit_lexemes.specs.Directive.{behind_handle_at, tag_directive, ParameterState, parameter_behind}
use Rattle.granit_lexemes.specs.Directive.{parameter_turn, parameters_len, reserved_directive, directive_of}
use Rattle.granit_lexemes.specs.Directive.{behind_name, directive_at, directive_tail, directive_up_to, directive_behind}
use Rattle.granit_lexemes.specs.Directive.{directive}
use Rattle.granit_lexemes.specs.Here.{Here, text_len, next_char, step, past, mark_of}
use Rattle.granit_lexemes.specs.Lexeme.{DirectiveKind, Version, Reserved}
use Rattle.granit_lexemes.specs.Moves.{steps}
use Rattle.granit_lexemes.specs.Outcome.{◌>>=◌}
use Rattle.granit_lexemes.specs.Pieces.{pieces}
use Rattle.granit_lexemes.specs.Tags.{Budget, spent, UriState, escaped_byte, bytes_behind, trailing_bytes, spelled_char}
use Rattle.granit_lexemes.specs.Tags.{escaped_by, uri_turn, uri_len, decoded, TagRead, tag_of, tag_ends}
use Rattle.granit_lexemes.specs.Tags.{behind_verbatim, behind_handle, short_tag, tag_by, tag_at, name_up_to, name_at}
use Rattle.granit_termination.proofs.LengthLemmas.{Fits, fits_if, fits_bind, fits_behind, pieces-fits, here_if}
use Rattle.granit_termination.proofs.LengthLemmas.{step-fits}
use Rattle.granit_termination.proofs.LengthLemmas.{step-less, steps-fits, past-fits, comment-fits, tail_at-fits}

-- ---- names

name_up_to-fits : (n : ℕ) (h after : Here) → text_len after ≤ n → Fits text_len n (name_up_to h after)
name_up_to-fits n h after p = search (fits_if, p)

pub name_at-fits : (n : ℕ) (h : Here) → text_len h ≤ suc n → Fits text_len n (name_at h)
unfolding name_at
name_at-fits n h p = name_up_to-fits n h (past is_anchor_char (step h))
    (past-fits is_anchor_char n (step h) (step-less n h p))

-- ---- URIs

escaped_byte-fits : (start : Mark) (n : ℕ) (s : UriState) → uri_len s ≤ n → Fits uri_len n (escaped_byte start s)
unfolding escaped_byte
escaped_byte-fits start n s p = let m = steps-fits 3 n s.here p in search (fits_if, fits_behind, m)

trailing_bytes-fits : (start : Mark) (count n : ℕ) (bytes : List ℕ) (s : UriState) → uri_len s ≤ n
    → Fits uri_len n (trailing_bytes start count bytes s)
unfolding trailing_bytes
trailing_bytes-fits start zero n bytes s p = p
trailing_bytes-fits start (suc count) n bytes s p =
    fits_bind uri_len uri_len n n (escaped_byte start s) _ (escaped_byte-fits start n s p)
    (λ x q. let m = trailing_bytes-fits start count n (bytes ++ x.0 ∷ []) x.1 q in search (fits_if, m))

spelled_char-fits : (start : Mark) (n : ℕ) (bytes : List ℕ) (s : UriState) → uri_len s ≤ n
    → Fits uri_len n (spelled_char start bytes s)
spelled_char-fits start n bytes s p = search (fits_if, p)

escaped_by-fits : (start : Mark) (o : Option ℕ) (b n : ℕ) (s : UriState) → uri_len s ≤ n
    → Fits uri_len n (escaped_by start o b s)
escaped_by-fits start None b n s p = tt
escaped_by-fits start (Some count) b n s p =
    fits_bind uri_len uri_len n n (trailing_bytes start count (b ∷ []) s) _
    (trailing_bytes-fits start count n (b ∷ []) s p) (λ x q. spelled_char-fits start n x.0 x.1 q)

uri_turn-fits : (test : ℕ → Bool) (start : Mark) (n : ℕ) (s : UriState) → uri_len s ≤ n
    → Fits uri_len n (uri_turn test start s)
unfolding uri_turn
uri_turn-fits test start n s p =
    let m = step-fits n s.here p in
    let more : (x : ℕ × UriState) → uri_len x.1 ≤ n
    → Fits uri_len n (escaped_by start (bytes_behind x.0) x.0 x.1) = λ x q. escaped_by-fits start (bytes_behind x.0)
    x.0 n x.1 q in
    let e = fits_bind uri_len uri_len n n (escaped_byte start s) (λ x. escaped_by start (bytes_behind x.0) x.0 x.1)
    (escaped_byte-fits start n s p) more in
    search (fits_if, fits_behind, e, m, p)

pub decoded-fits : (test : ℕ → Bool) (start : Mark) (budget : Option Budget) (n : ℕ) (h : Here) → text_len h ≤ n
    → Fits uri_len n (decoded test start budget h)
decoded-fits test start budget n h p = pieces-fits uri_len (uri_turn test start) (uri_turn-fits test start) n
    (record { here = h; budget = budget }) p

-- ---- tags

tag_ends-fits : (in_flow : Bool) (start : Mark) (tag : TagRead) (n : ℕ) (h : Here) → text_len h ≤ n
    → Fits text_len n (tag_ends in_flow start tag h)
unfolding tag_ends
tag_ends-fits in_flow start tag n h p = search (fits_if, p)

behind_verbatim-fits : (in_flow : Bool) (start : Mark) (suffix : List ℕ) (n : ℕ) (h : Here) → text_len h ≤ n
    → Fits text_len n (behind_verbatim in_flow start suffix h)
behind_verbatim-fits in_flow start suffix n h p = let e = tag_ends-fits in_flow start (tag_of [] suffix) n (step h)
    (step-fits n h p) in search (fits_if, e)

behind_handle-fits : (in_flow : Bool) (start : Mark) (handle suffix : List ℕ) (n : ℕ) (h : Here) → text_len h ≤ n
    → Fits text_len n (behind_handle in_flow start handle suffix h)
behind_handle-fits in_flow start handle suffix n h p = let e = tag_ends-fits in_flow start (tag_of handle suffix) n h
    p in search (fits_if, e)

tag_by-fits : (in_flow : Bool) (n : ℕ) (h word : Here) → text_len word ≤ n → Fits text_len n (tag_by in_flow h word)
tag_by-fits in_flow n h word p =
    let a = fits_bind uri_len text_len n n (decoded is_tag_char (mark_of h) None (step word))
    (λ x. behind_handle in_flow (mark_of h) (text_up_to h (step word)) x.0 x.1.here)
    (decoded-fits is_tag_char (mark_of h) None n (step word) (step-fits n word p))
    (λ x q. behind_handle-fits in_flow (mark_of h) (text_up_to h (step word)) x.0 n x.1.here q) in
    let b = fits_bind uri_len text_len n n (decoded is_tag_char (mark_of h) None word)
    (λ x. tag_ends in_flow (mark_of h) (short_tag (text_up_to (step h) word ++ x.0)) x.1.here)
    (decoded-fits is_tag_char (mark_of h) None n word p)
    (λ x q. tag_ends-fits in_flow (mark_of h) (short_tag (text_up_to (step h) word ++ x.0)) n x.1.here q) in
    search (fits_if, a, b)

pub tag_at-fits : (in_flow : Bool) (n : ℕ) (h : Here) → text_len h ≤ suc n → Fits text_len n (tag_at in_flow h)
unfolding tag_at steps
tag_at-fits in_flow n h p =
    let a = fits_bind uri_len text_len n n (decoded is_uri_char (mark_of h) None (steps 2 h))
    (λ x. behind_verbatim in_flow (mark_of h) x.0 x.1.here)
    (decoded-fits is_uri_char (mark_of h) None n (steps 2 h) (step-fits n (step h) (step-less n h p)))
    (λ x q. behind_verbatim-fits in_flow (mark_of h) x.0 n x.1.here q) in
    let b = tag_by-fits in_flow n h (past is_alpha (step h)) (past-fits is_alpha n (step h) (step-less n h p)) in
    search (fits_if, a, b)

-- ---- directives

word_up_to-fits : (budget : Option Budget) (start : Mark) (n : ℕ) (h after : Here) → text_len after ≤ n
    → Fits text_len n (word_up_to budget start h after)
word_up_to-fits budget start n h after p = fits_behind text_len n
    (spent budget (length (encode_utf8_all (text_up_to h after))) start) (λ left. Ok (left, after)) (λ left. p)

number_up_to-fits : (start : Mark) (n : ℕ) (h after : Here) → text_len after ≤ n
    → Fits text_len n (number_up_to start h after)
number_up_to-fits start n h after p = search (fits_if, p)

version_number-fits : (start : Mark) (n : ℕ) (h : Here) → text_len h ≤ n → Fits text_len n (version_number start h)
unfolding version_number
version_number-fits start n h p = number_up_to-fits start n h (past is_digit h) (past-fits is_digit n h p)

minor_number-fits : (start : Mark) (n : ℕ) (h : Here) → text_len h ≤ n → Fits text_len n (minor_number start h)
unfolding minor_number
minor_number-fits start n h p = let e = version_number-fits start n (step h) (step-fits n h p) in search (fits_if, e)

version_directive-fits : (start : Mark) (n : ℕ) (h : Here) → text_len h ≤ n
    → Fits text_len n (version_directive start h)
version_directive-fits start n h p =
    fits_bind text_len text_len n n (version_number start (past is_blank h))
    (λ major. minor_number start major.1 >>= λ minor. Ok (Version major.0 minor.0, minor.1))
    (version_number-fits start n (past is_blank h) (past-fits is_blank n h p))
    (λ major q. fits_bind text_len text_len n n (minor_number start major.1)
    (λ minor. Ok (Version major.0 minor.0, minor.1)) (minor_number-fits start n major.1 q) (λ minor r. r))

blanks_within-fits : (budget : Option Budget) (start : Mark) (n : ℕ) (h : Here) → text_len h ≤ n
    → Fits text_len n (blanks_within budget start h)
blanks_within-fits budget start n h p =
    fits_behind text_len n (spent budget (count_up_to h (past is_blank h)) start) (λ left. Ok (left, past is_blank h))
    (λ left. past-fits is_blank n h p)

behind_word-fits : (n : ℕ) (word : Here) → text_len word ≤ n → text_len (behind_word word) ≤ n
behind_word-fits n word p = here_if n (next_char word == 0x21) (step word) word (step-fits n word p) p

handle_by-fits : (budget : Option Budget) (start : Mark) (n : ℕ) (h word : Here) → text_len word ≤ n
    → Fits text_len n (handle_by budget start h word)
unfolding handle_by
handle_by-fits budget start n h word p = let e = behind_word-fits n word p in search (fits_behind, fits_if, e)

handle_at-fits : (budget : Option Budget) (start : Mark) (n : ℕ) (h : Here) → text_len h ≤ n
    → Fits text_len n (handle_at budget start h)
unfolding handle_at
handle_at-fits budget start n h p = let e = handle_by-fits budget start n h (past is_alpha (step h))
    (past-fits is_alpha n (step h) (step-fits n h p)) in search (fits_if, e)

prefix_ends-fits : (start : Mark) (handle prefix : List ℕ) (n : ℕ) (h : Here) → text_len h ≤ n
    → Fits text_len n (prefix_ends start handle prefix h)
prefix_ends-fits start handle prefix n h p = search (fits_if, p)

prefix_at-fits : (budget : Option Budget) (start : Mark) (handle : List ℕ) (n : ℕ) (h : Here) → text_len h ≤ n
    → Fits text_len n (prefix_at budget start handle h)
unfolding prefix_at
prefix_at-fits budget start handle n h p =
    let a = fits_behind text_len n (spent budget 1 start)
    (λ left. decoded is_uri_char start left (step h) >>= λ x. prefix_ends start handle (0x21 ∷ x.0) x.1.here)
    (λ left. fits_bind uri_len text_len n n (decoded is_uri_char start left (step h))
    (λ x. prefix_ends start handle (0x21 ∷ x.0) x.1.here)
    (decoded-fits is_uri_char start left n (step h) (step-fits n h p))
    (λ x q. prefix_ends-fits start handle (0x21 ∷ x.0) n x.1.here q)) in
    let b = fits_bind uri_len text_len n n (decoded is_uri_char start budget h)
    (λ x. prefix_ends start handle x.0 x.1.here)
    (decoded-fits is_uri_char start budget n h p) (λ x q. prefix_ends-fits start handle x.0 n x.1.here q) in
    search (fits_if, a, b)

tag_directive-fits : (budget : Option Budget) (start : Mark) (n : ℕ) (h : Here) → text_len h ≤ n
    → Fits text_len n (tag_directive budget start h)
tag_directive-fits budget start n h p =
    fits_bind text_len text_len n n (blanks_within budget start h)
    (λ x. handle_at x.0 start x.1 >>= behind_handle_at start x.1) (blanks_within-fits budget start n h p)
    (λ x q. fits_bind text_len text_len n n (handle_at x.0 start x.1) (behind_handle_at start x.1)
    (handle_at-fits x.0 start n x.1 q)
    (λ y r. fits_bind text_len text_len n n (blanks_within y.0 start y.1)
    (λ z. prefix_at z.0 start (text_up_to x.1 y.1) z.1) (blanks_within-fits y.0 start n y.1 r)
    (λ z s. prefix_at-fits z.0 start (text_up_to x.1 y.1) n z.1 s)))

parameter_behind-fits : (o : OptionsData) (start : Mark) (n : ℕ) (s : ParameterState) (h : Here) → text_len h ≤ n
    → Fits parameters_len n (parameter_behind o start s h)
unfolding parameter_behind
parameter_behind-fits o start n s h p =
    let e : (left : Option Budget) → Fits parameters_len n (word_up_to left start h (past is_yaml_non_space h) >>= λ x.
    Ok (Some (text_up_to h x.1 ∷ []), record { here = x.1; budget = x.0; count = s.count + 1 })) =
    λ left. fits_bind text_len parameters_len n n (word_up_to left start h (past is_yaml_non_space h))
    (λ x. Ok (Some (text_up_to h x.1 ∷ []), record { here = x.1; budget = x.0; count = s.count + 1 }))
    (word_up_to-fits left start n h (past is_yaml_non_space h) (past-fits is_yaml_non_space n h p)) (λ x q. q) in
    search (fits_if, fits_behind, e, p)

parameter_turn-fits : (o : OptionsData) (start : Mark) (n : ℕ) (s : ParameterState) → parameters_len s ≤ n
    → Fits parameters_len n (parameter_turn o start s)
parameter_turn-fits o start n s p = parameter_behind-fits o start n s (past is_blank s.here)
    (past-fits is_blank n s.here p)

reserved_directive-fits : (o : OptionsData) (budget : Option Budget) (start : Mark) (name : List ℕ) (n : ℕ) (h : Here)
    → text_len h ≤ n → Fits text_len n (reserved_directive o budget start name h)
reserved_directive-fits o budget start name n h p =
    fits_bind parameters_len text_len n n (pieces parameters_len (parameter_turn o start)
    (record { here = h; budget = budget; count = 0 })) (λ x. Ok (Reserved name x.0, x.1.here))
    (pieces-fits parameters_len (parameter_turn o start) (parameter_turn-fits o start) n
    (record { here = h; budget = budget; count = 0 }) p) (λ x q. q)

directive_of-fits : (o : OptionsData) (budget : Option Budget) (start : Mark) (name : List ℕ) (n : ℕ) (h : Here)
    → text_len h ≤ n → Fits text_len n (directive_of o budget start name h)
unfolding directive_of
directive_of-fits o budget start name n h p =
    let a = version_directive-fits start n h p in
    let b = tag_directive-fits budget start n h p in
    let c = reserved_directive-fits o budget start name n h p in
    search (fits_if, a, b, c)

behind_name-fits : (o : OptionsData) (start : Mark) (n : ℕ) (h : Here) (x : Option Budget × Here) → text_len x.1 ≤ n
    → Fits text_len n (behind_name o start h x)
behind_name-fits o start n h x p = let e = directive_of-fits o x.0 start (text_up_to h x.1) n x.1 p in search
    (fits_if, e)

directive_at-fits : (o : OptionsData) (n : ℕ) (h : Here) → text_len h ≤ suc n → Fits text_len n (directive_at o h)
unfolding directive_at
directive_at-fits o n h p =
    let budget : Option Budget = Some (record { left = o.max_directive_bytes; limit = o.max_directive_bytes }) in
    fits_bind text_len text_len n n (word_up_to budget (mark_of (step h)) (step h) (past is_yaml_non_space (step h)))
    (behind_name o (mark_of h) (step h))
    (word_up_to-fits budget (mark_of (step h)) n (step h) (past is_yaml_non_space (step h))
    (past-fits is_yaml_non_space n (step h) (step-less n h p)))
    (λ x q. behind_name-fits o (mark_of h) n (step h) x q)

-- ---- a directive and its line

directive_tail-fits : (kind : DirectiveKind) (n : ℕ) (end : Here) → text_len end ≤ n
    → Fits text_len n (directive_tail kind end)
unfolding directive_tail
directive_tail-fits kind n end p =
    let more : text_len end ≤ suc n = omega (arith, p) in
    let e = fits_bind text_len text_len n n (comment end) (λ x. Ok (Some x.0, x.1)) (comment-fits n end more)
    (λ x q. q) in
    let f = tail_at-fits n end p in
    search (fits_if, e, f)

directive_up_to-fits : (h : Here) (kind : DirectiveKind) (end : Here) (noted : Option CommentRead) (n : ℕ)
    (after : Here) → text_len after ≤ n → Fits text_len n (directive_up_to h kind end noted after)
unfolding directive_up_to
directive_up_to-fits h kind end noted n after p = search (fits_if, p)

directive_behind-fits : (h : Here) (kind : DirectiveKind) (n : ℕ) (end : Here) → text_len end ≤ n
    → Fits text_len n (directive_behind h kind end)
directive_behind-fits h kind n end p =
    fits_bind text_len text_len n n (directive_tail kind end) (λ x. directive_up_to h kind end x.0 x.1)
    (directive_tail-fits kind n end p) (λ x q. directive_up_to-fits h kind end x.0 n x.1 q)

pub directive-fits : (o : OptionsData) (n : ℕ) (h : Here) → text_len h ≤ suc n → Fits text_len n (directive o h)
unfolding directive
directive-fits o n h p =
    let e = fits_bind text_len text_len n n (directive_at o h) (λ x. directive_behind h x.0 x.1)
    (directive_at-fits o n h p) (λ x q. directive_behind-fits h x.0 n x.1 q) in
    search (fits_if, e)
