-- The characters of URIs, a turn at a time.
use Rattle.std.proofs.Common.{◌≡◌, ℕ, zero, suc, ◌+◌, ◌-◌, ◌*◌, ◌<◌, ◌≤◌, ◌==◌, Bool, true, false, not, ◌&&◌, List, []}
use Rattle.std.proofs.Common.{◌∷◌, ◌++◌, Option, Some, None, Result, Ok, Err, refl, sym, ap, ◌∙◌, subst, arith}
use Rattle.std.specs.Prelude.{if◌then◌else◌, slice_index}
use Rattle.std.specs.Str.{IsUtf8, is_utf8}
use Rattle.std.proofs.lemmas.Bool.{cond-true, cond-false, and_parts}
use Rattle.std.proofs.lemmas.Str.{IsUtf8-from_is_utf8, is_utf8-from_IsUtf8}
use Rattle.granit_base.specs.Classes.{is_within, is_hex, hex_value, is_uri_char, is_tag_char, is_uri_sign, is_word_char}
use Rattle.granit_base.specs.Classes.{is_digit, is_flow}
use Rattle.granit_base.specs.Place.{Mark}
use Rattle.granit_base.specs.Written.{string_chars}
use Rattle.granit_error.specs.FaultKind.{InvalidTagUtf8TrailingByte}
use Rattle.granit_error.specs.Refused.{Refused}
use Rattle.granit_lexemes.specs.Basics.{fails_at}
use Rattle.granit_lexemes.specs.Here.{Here, text_len, next_char, step}
use Rattle.granit_lexemes.specs.Moves.{steps}
use Rattle.granit_lexemes.specs.Outcome.{Fault, Fails, ◌>>=◌}
use Rattle.granit_lexemes.specs.Pieces.{Shortens}
use Rattle.granit_lexemes.specs.Tags.{Budget, UriState, spent, is_utf8 as is_text, escaped_byte, bytes_behind}
use Rattle.granit_lexemes.specs.Tags.{trailing_bytes, spelled_char, escaped_by, uri_turn, uri_len}
use Rattle.granit_lexemes.proofs.DecodingLemmas.{digit_below}
use Rattle.granit_lexemes.proofs.HereLemmas.{step_len, step_shortens}
use Rattle.granit_lexemes.proofs.PieceLemmas.{loop_more, loop_done, loop_fails}
use Rattle.granit_properties.specs.declared.uri.Uri.{Uri}
use Rattle.granit_properties.specs.declared.uri.Uri.TheVariants.{Whole, Tag}
use Rattle.granit_properties.specs.declared.uri.UriParts.{UriParts}
use Rattle.granit_properties.specs.UriCode.{uri_test, budget_of, uri_at, escaped_char, own_char, uri_whole}

pub byte_of_digits : (high low : ℕ) → is_hex high ≡ true → is_hex low ≡ true → hex_value high * 16 + hex_value low < 256
byte_of_digits high low h l = omega (arith, digit_below high h, digit_below low l)

pub no_nul : (u : Uri) → uri_test u 0 ≡ false
unfolding is_uri_char is_tag_char is_uri_sign is_word_char is_digit is_flow
no_nul Whole = refl
no_nul Tag = refl

pub some_char : (u : Uri) (c : ℕ) → uri_test u c ≡ true → 0 < c
some_char u c e = by c refl
  where
    by : (k : ℕ) → c ≡ k → 0 < c
    by zero z = absurd (let a : uri_test u 0 ≡ true = ap (uri_test u) (sym z) ∙ e in let b = no_nul u in cc)
    by (suc k) z = omega (arith, z)

-- a byte that is there
pub byte_given : (start : Mark) (h : Here) (b after : Option Budget) (high low : ℕ) → next_char h ≡ 0x25
    → high ≡ slice_index h.unread.text 1 → low ≡ slice_index h.unread.text 2 → is_hex high ≡ true → is_hex low ≡ true
    → spent b 3 start ≡ Ok after → escaped_byte start (uri_at h b)
    ≡ Ok (hex_value high * 16 + hex_value low, uri_at (step (step (step h))) after)
unfolding escaped_byte steps
byte_given start h b after high low sign is_high is_low p q left = rw (sign, ← is_high, ← is_low, p, q, left) refl

-- ---- a turn makes the rest shorter

abbrev Within : {A : Type 0} → ℕ → Result (A × UriState) Fault → Type 0
Within n (Ok x) = text_len x.1.here < n
Within n (Err f) = Unit {0}

within_then : {A B : Type 0} (n : ℕ) (r : Result (A × UriState) Fault) (k : A × UriState → Result (B × UriState) Fault)
    → Within n r → ((x : A × UriState) → text_len x.1.here < n → Within n (k x)) → Within n (r >>= k)
within_then n (Ok x) k w more = more x w
within_then n (Err f) k w more = tt

within_if : {A : Type 0} (n : ℕ) (v : Bool) (r s : Result (A × UriState) Fault) → (v ≡ true → Within n r) → Within n s
    → Within n (if v then r else s)
within_if n true r s p q = p refl
within_if n false r s p q = q

within_spent : {A : Type 0} (n : ℕ) (r : Result (Option Budget) Fault) (h : Here) (a : A) → text_len h < n
    → Within n (r >>= λ left. Ok (a, uri_at h left))
within_spent n (Ok left) h a less = less
within_spent n (Err f) h a less = tt

not_nul : (c : ℕ) → (c == 0x25) ≡ true → (0 == 0x25) ≡ false
not_nul c e = refl

percent_less : (h : Here) → (next_char h == 0x25) ≡ true → text_len (step h) < text_len h
percent_less h e = step_shortens (λ c. c == 0x25) h refl e

byte_within : (start : Mark) (s : UriState) → Within (text_len s.here) (escaped_byte start s)
unfolding escaped_byte steps
byte_within start s =
    within_if (text_len s.here) ((next_char s.here == 0x25 && is_hex (slice_index s.here.unread.text 1))
    && is_hex (slice_index s.here.unread.text 2)) _ _
    (λ e. within_spent (text_len s.here) (spent s.budget 3 start) (step (step (step s.here))) _
    (let a = percent_less s.here (and_parts _ _ (and_parts _ _ e).0).0 in omega
    (arith, a, step_len (step s.here), step_len (step (step s.here)))))
    tt

trails_within : (start : Mark) (n count : ℕ) (bytes : List ℕ) (s : UriState) → text_len s.here < n
    → Within n (trailing_bytes start count bytes s)
unfolding trailing_bytes
trails_within start n zero bytes s less = less
trails_within start n (suc count) bytes s less =
    within_then n (escaped_byte start s) _ (closer (escaped_byte start s) (byte_within start s))
    (λ x w. within_if n (is_within 0x80 0xBF x.0) _ _ (λ e. trails_within start n count (bytes ++ x.0 ∷ []) x.1 w)
    tt)
  where
    closer : (r : Result (ℕ × UriState) Fault) → Within (text_len s.here) r → Within n r
    closer (Ok x) w = omega (arith, w, less)
    closer (Err f) w = tt

escaped_within : (start : Mark) (n b : ℕ) (o : Option ℕ) (s : UriState) → text_len s.here < n
    → Within n (escaped_by start o b s)
escaped_within start n b None s less = tt
escaped_within start n b (Some count) s less =
    within_then n (trailing_bytes start count (b ∷ []) s) (λ x. spelled_char start x.0 x.1)
    (trails_within start n count (b ∷ []) s less) (λ x w. within_if n (is_text x.0) _ _ (λ e. w) tt)

abbrev Less : UriState → Result (Option (List ℕ) × UriState) Fault → Type 0
Less s (Ok (Some piece, after)) = text_len after.here < text_len s.here
Less s (Ok (None, after)) = Unit {0}
Less s (Err f) = Unit {0}

less_of : (s : UriState) (r : Result (Option (List ℕ) × UriState) Fault) → Within (text_len s.here) r → Less s r
less_of s (Ok (Some piece, after)) w = w
less_of s (Ok (None, after)) w = tt
less_of s (Err f) w = tt

turn_less : (u : Uri) (start : Mark) (s : UriState) → Less s (uri_turn (uri_test u) start s)
unfolding uri_turn
turn_less u start s = by (uri_test u (next_char s.here)) (next_char s.here == 0x25) refl refl
  where
    by : (v w : Bool) → uri_test u (next_char s.here) ≡ v → (next_char s.here == 0x25) ≡ w
        → Less s (if not v then Ok (None, s) else if w then escaped_char start s else own_char start s)
    by false w e f = tt
    by true true e f = less_of s (escaped_char start s)
        (within_then (text_len s.here) (escaped_byte start s) (λ x. escaped_by start (bytes_behind x.0) x.0 x.1)
        (byte_within start s) (λ x w. escaped_within start (text_len s.here) x.0 (bytes_behind x.0) x.1 w))
    by true false e f = less_of s (own_char start s)
        (within_spent (text_len s.here) (spent s.budget 1 start) (step s.here) _
        (step_shortens (uri_test u) s.here (no_nul u) e))

pub uri_shortens : (u : Uri) (start : Mark) → Shortens uri_len (uri_turn (uri_test u) start)
uri_shortens u start s after piece e = subst (Less s) e (turn_less u start s)

-- ---- what a turn of the code leaves of the whole

pub turn_escaped : (u : Uri) (start : Mark) (s : UriState) → uri_test u (next_char s.here) ≡ true
    → (next_char s.here == 0x25) ≡ true → uri_turn (uri_test u) start s ≡ escaped_char start s
unfolding uri_turn
turn_escaped u start s e f = rw (e, f) refl

pub turn_itself : (u : Uri) (start : Mark) (s : UriState) → uri_test u (next_char s.here) ≡ true
    → (next_char s.here == 0x25) ≡ false → uri_turn (uri_test u) start s ≡ own_char start s
unfolding uri_turn
turn_itself u start s e f = rw (e, f) refl

turn_none : (u : Uri) (start : Mark) (s : UriState) → uri_test u (next_char s.here) ≡ false
    → uri_turn (uri_test u) start s ≡ Ok (None, s)
unfolding uri_turn
turn_none u start s e = rw e refl

pub turn_goes : (u : Uri) (start : Mark) (limit : Option ℕ) (p q : UriParts) (h now : Here) (piece : List ℕ)
    → uri_turn (uri_test u) start (uri_at h (budget_of limit p.left))
    ≡ Ok (Some piece, uri_at now (budget_of limit q.left)) → string_chars q.value ≡ string_chars p.value ++ piece
    → uri_whole u start limit q now ≡ uri_whole u start limit p h
turn_goes u start limit p q h now piece is grown =
    loop_more uri_len (uri_turn (uri_test u) start) (uri_shortens u start) (string_chars p.value) (string_chars q.value)
    (uri_at h (budget_of limit p.left)) (uri_at now (budget_of limit q.left)) piece (uri_whole u start limit p h)
    refl is grown

pub turn_fails : (u : Uri) (start : Mark) (limit : Option ℕ) (p : UriParts) (h : Here) (e : Refused)
    → Fails e (uri_turn (uri_test u) start (uri_at h (budget_of limit p.left))) → Fails e (uri_whole u start limit p h)
turn_fails u start limit p h e fails = loop_fails uri_len (uri_turn (uri_test u) start) (string_chars p.value)
    (uri_at h (budget_of limit p.left)) e (uri_whole u start limit p h) refl fails

pub turn_ends : (u : Uri) (start : Mark) (limit : Option ℕ) (p : UriParts) (h : Here) → uri_test u (next_char h) ≡ false
    → uri_whole u start limit p h ≡ Ok (string_chars p.value, uri_at h (budget_of limit p.left))
turn_ends u start limit p h e =
    loop_done uri_len (uri_turn (uri_test u) start) (string_chars p.value) (uri_at h (budget_of limit p.left))
    (uri_at h (budget_of limit p.left)) (uri_whole u start limit p h) refl
    (turn_none u start (uri_at h (budget_of limit p.left)) e)

-- ---- the bytes of a character

-- a state by its parts
pub state_is : (s : UriState) (b : Option Budget) → s.budget ≡ b → s ≡ uri_at s.here b
state_is s b e = ap (uri_at s.here) e

pub byte_on : (start : Mark) (count i b : ℕ) (bytes : List ℕ) (s after : UriState) → i < count
    → escaped_byte start s ≡ Ok (b, after) → is_within 0x80 0xBF b ≡ true
    → trailing_bytes start (count - (i + 1)) (bytes ++ b ∷ []) after ≡ trailing_bytes start (count - i) bytes s
unfolding trailing_bytes
byte_on start count i b bytes s after less is within = sym
    (ap (λ n. trailing_bytes start n bytes s) (let n : count - i ≡ suc (count - (i + 1)) = omega arith in n)
    ∙ ap (λ r. r >>= λ x. if is_within 0x80 0xBF x.0 then trailing_bytes start (count - (i + 1)) (bytes ++ x.0 ∷ []) x.1
    else fails_at InvalidTagUtf8TrailingByte start) is ∙ cond-true (is_within 0x80 0xBF b) _ _ within)

pub byte_wrong : (start : Mark) (count i b : ℕ) (bytes : List ℕ) (s after : UriState) → i < count
    → escaped_byte start s ≡ Ok (b, after) → is_within 0x80 0xBF b ≡ false
    → trailing_bytes start (count - i) bytes s ≡ fails_at InvalidTagUtf8TrailingByte start
unfolding trailing_bytes
byte_wrong start count i b bytes s after less is without = ap (λ n. trailing_bytes start n bytes s)
    (let n : count - i ≡ suc (count - (i + 1)) = omega arith in n)
    ∙ ap (λ r. r >>= λ x. if is_within 0x80 0xBF x.0 then trailing_bytes start (count - (i + 1)) (bytes ++ x.0 ∷ []) x.1
    else fails_at InvalidTagUtf8TrailingByte start) is ∙ cond-false (is_within 0x80 0xBF b) _ _ without

pub byte_fails : (start : Mark) (count i : ℕ) (bytes : List ℕ) (s : UriState) (e : Refused) → i < count
    → Fails e (escaped_byte start s) → Fails e (trailing_bytes start (count - i) bytes s)
unfolding trailing_bytes
byte_fails start count i bytes s e less fails other = ap (λ n. trailing_bytes start n bytes s)
    (let n : count - i ≡ suc (count - (i + 1)) = omega arith in n)
    ∙ ap (λ r. r >>= λ x. if is_within 0x80 0xBF x.0 then trailing_bytes start (count - (i + 1)) (bytes ++ x.0 ∷ []) x.1
    else fails_at InvalidTagUtf8TrailingByte start) (fails other)

pub bytes_end : (start : Mark) (count i : ℕ) (bytes : List ℕ) (s : UriState) → count ≤ i
    → trailing_bytes start (count - i) bytes s ≡ Ok (bytes, s)
unfolding trailing_bytes
bytes_end start count i bytes s le = ap (λ n. trailing_bytes start n bytes s) (let n : count - i ≡ 0 = omega arith in n)

-- the test for UTF-8
same_test : (bytes : List ℕ) → is_text bytes ≡ is_utf8 bytes
unfolding is_utf8
same_test bytes = refl

pub text_is : (bytes : List ℕ) → IsUtf8 bytes → is_text bytes ≡ true
text_is bytes u = same_test bytes ∙ is_utf8-from_IsUtf8 bytes u

pub text_is_not : (bytes : List ℕ) → (IsUtf8 bytes → ⊥) → is_text bytes ≡ false
text_is_not bytes none = by (is_utf8 bytes) refl
  where
    by : (v : Bool) → is_utf8 bytes ≡ v → is_text bytes ≡ false
    by true e = absurd (none (IsUtf8-from_is_utf8 bytes e))
    by false e = same_test bytes ∙ e
