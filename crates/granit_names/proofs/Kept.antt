-- Decoding within a limit: the same as without one, or the limit is passed by what stands there.
use Rattle.std.proofs.Common.{◌≡◌, ℕ, zero, suc, ◌+◌, ◌-◌, ◌<◌, ◌==◌, Bool, true, false, not, List, [], ◌∷◌, ◌++◌}
use Rattle.std.proofs.Common.{length, Option, Some, None, Result, Ok, Err, refl, sym, ap, ◌∙◌, subst, arith}
use Rattle.std.proofs.Common.{append_assoc, length-append}
use Rattle.std.specs.Prelude.{slice_index, if◌then◌else◌, nat_lt}
use Rattle.std.specs.Str.{chars}
use Rattle.std.proofs.lemmas.Bool.Decides.{nat_tests}
use Rattle.granit_base.specs.Classes.{is_uri_char}
use Rattle.granit_base.specs.Place.{Mark}
use Rattle.granit_error.specs.FaultKind.{DirectiveByteLimitExceeded, InvalidTagEscape, InvalidTagUtf8TrailingByte}
use Rattle.granit_lexemes.specs.Gap.{Each}
use Rattle.granit_lexemes.specs.Here.{Here, text_len, next_char, step}
use Rattle.granit_lexemes.specs.Moves.{steps}
use Rattle.granit_lexemes.specs.Outcome.{Fault, ◌>>=◌}
use Rattle.granit_lexemes.specs.PlainExtent.{over}
use Rattle.granit_lexemes.specs.Basics.{fails_at}
use Rattle.granit_lexemes.specs.Pieces.{with_front, then_more, turns, pieces}
use Rattle.granit_scalars.proofs.QuotedEscapes.{over_text}
pub use Rattle.granit_scalars.proofs.Stepping.{over-append, seen}
use Rattle.granit_lexemes.specs.Tags.{Budget, UriState, is_utf8, escaped_byte, bytes_behind, trailing_bytes}
use Rattle.granit_lexemes.specs.Tags.{spelled_char, escaped_by, uri_turn, decoded}
use Rattle.granit_lexemes.specs.TagExtent.{byte_of, is_escape, is_trailing}
use Rattle.granit_names.proofs.Spelling.{uri_class}
use Rattle.granit_names.proofs.Escaped.{free, escape_parts}

pub each-append : (test : ℕ → Bool) (a b : List ℕ) → Each test a → Each test b → Each test (a ++ b)
each-append test [] b p q = q
each-append test (c ∷ a) b p q = (p.0, each-append test a b p.1 q)

module _ (start : Mark) (limit : ℕ) where
  -- a reader that may still take so many bytes
  abbrev pub held : ℕ → Here → UriState
  held left h = record { here = h; budget = Some (record { left = left; limit = limit }) }

  abbrev Limit : {Y : Type 0} → Result Y Fault
  Limit = fails_at (DirectiveByteLimitExceeded limit) start

  abbrev with_budget : {A : Type 0} → A → Here → Option Budget → Result (A × UriState) Fault
  with_budget x g b = Ok (x, record { here = g; budget = b })

  -- what is given without a limit, and within one
  pub data Kept {A : Type 0} (left : ℕ) (h : Here) : (without within : Result (A × UriState) Fault) → Type 0 where
    same : (f : Fault) → Kept left h (Err f) (Err f)
    passed : {r : Result (A × UriState) Fault} (front rest : List ℕ) → Each is_uri_char front
        → h.unread.text ≡ front ++ rest → left < length front → Kept left h r Limit
    kept : (x : A) (front : List ℕ) (more : ℕ) → Each is_uri_char front
        → h.unread.text ≡ front ++ (over front h).unread.text → more + length front ≡ left
        → Kept left h (Ok (x, free (over front h))) (Ok (x, held more (over front h)))

  nothing_taken : {A : Type 0} (left : ℕ) (h : Here) (x : A) → Kept left h (Ok (x, free h)) (Ok (x, held left h))
  nothing_taken left h x = kept x [] left tt refl (omega arith)

  kept_before : {A : Type 0} (left more : ℕ) (h : Here) (front : List ℕ) → Each is_uri_char front
      → h.unread.text ≡ front ++ (over front h).unread.text → more + length front ≡ left
      → (r s : Result (A × UriState) Fault) → Kept more (over front h) r s → Kept left h r s
  kept_before left more h front y t n r s (same f) = same f
  kept_before left more h front y t n r s (passed ahead rest z u l) =
      passed (front ++ ahead) rest (each-append is_uri_char front ahead y z)
      (t ∙ ap (λ (k : List ℕ). front ++ k) u ∙ sym (append_assoc front ahead rest))
      (omega (arith, length-append front ahead))
  kept_before {A} left more h front y t n r s (kept x ahead last z u m) =
      subst (λ (g : Here). Kept left h (Ok (x, free g)) (Ok (x, held last g))) (over-append front ahead h)
      (kept x (front ++ ahead) last (each-append is_uri_char front ahead y z)
      (t ∙ ap (λ (k : List ℕ). front ++ k) u ∙ sym (append_assoc front ahead (over ahead (over front h)).unread.text)
      ∙ ap (λ (g : Here). (front ++ ahead) ++ g.unread.text) (sym (over-append front ahead h)))
      (omega (arith, length-append front ahead)))

  kept_bind : {A B : Type 0} (left : ℕ) (h : Here) (r s : Result (A × UriState) Fault)
      (f : A × UriState → Result (B × UriState) Fault) → Kept left h r s
      → ((x : A) (g : Here) (more : ℕ) → Kept more g (f (x, free g)) (f (x, held more g)))
      → Kept left h (r >>= f) (s >>= f)
  kept_bind left h r s f (same e) k = same e
  kept_bind left h r s f (passed front rest y t l) k = passed front rest y t l
  kept_bind left h r s f (kept x front more y t n) k = kept_before left more h front y t n (f (x, free (over front h)))
      (f (x, held more (over front h))) (k x (over front h) more)

  kept_if : {A : Type 0} (left : ℕ) (h : Here) (v : Bool) (a b c d : Result (A × UriState) Fault) → Kept left h a b
      → Kept left h c d → Kept left h (if v then a else c) (if v then b else d)
  kept_if left h true a b c d p q = p
  kept_if left h false a b c d p q = q

  -- ---- one byte

  spent_byte : (left : ℕ) (h : Here) (x : ℕ) (front : List ℕ) → Each is_uri_char front
      → h.unread.text ≡ front ++ (over front h).unread.text → (v : Bool) → nat_lt left (length front) ≡ v
      → Kept left h (Ok (x, free (over front h)))
      ((if v then Limit else Ok (Some (record { left = left - length front; limit = limit }))) >>= with_budget x
      (over front h))
  spent_byte left h x front y t true e = passed front (over front h).unread.text y t (grind (arith, nat_tests))
  spent_byte left h x front y t false e = kept x front (left - length front) y t (grind (arith, nat_tests))

  byte_if : (left : ℕ) (h : Here) (v : Bool) → is_escape h.unread.text ≡ v
      → Kept left h (if v then Ok (
        byte_of (slice_index h.unread.text 1) (slice_index h.unread.text 2),
        free
            (step (step (step h))),
      ) else fails_at InvalidTagEscape start)
      (if v then ((if nat_lt left 3 then Limit else Ok (Some (record { left = left - 3; limit = limit }))) >>=
      with_budget (byte_of (slice_index h.unread.text 1) (slice_index h.unread.text 2)) (step (step (step h))))
      else fails_at InvalidTagEscape start)
  byte_if left h true e =
      let p = escape_parts h.unread.text e in
      let front = 0x25 ∷ p.0 ∷ p.1 ∷ [] in
      let t : h.unread.text ≡ front ++ p.2 = p.3 in
      let y : Each is_uri_char front = (uri_class.sign, (uri_class.digit p.0 p.4, (uri_class.digit p.1 p.5, tt))) in
      spent_byte left h (byte_of (slice_index h.unread.text 1) (slice_index h.unread.text 2)) front y
      (t ∙ ap (λ (l : List ℕ). front ++ l) (sym (over_text front p.2 h t))) (nat_lt left 3) refl
  byte_if left h false e = same _

  kept_byte : (left : ℕ) (h : Here) → Kept left h (escaped_byte start (free h)) (escaped_byte start (held left h))
  unfolding escaped_byte steps
  kept_byte left h = byte_if left h (is_escape h.unread.text) refl

  -- ---- a character

  kept_trailing : (left count : ℕ) (bytes : List ℕ) (h : Here)
      → Kept left h (trailing_bytes start count bytes (free h)) (trailing_bytes start count bytes (held left h))
  unfolding trailing_bytes
  kept_trailing left zero bytes h = nothing_taken left h bytes
  kept_trailing left (suc count) bytes h =
      kept_bind left h (escaped_byte start (free h)) (escaped_byte start (held left h))
      (λ x. if is_trailing x.0 then trailing_bytes start count (bytes ++ x.0 ∷ []) x.1 else fails_at
      InvalidTagUtf8TrailingByte start) (kept_byte left h)
      (λ x g more. kept_if more g (is_trailing x) _ _ _ _ (kept_trailing more count (bytes ++ x ∷ []) g) (same _))

  kept_spelled : (left : ℕ) (bytes : List ℕ) (h : Here)
      → Kept left h (spelled_char start bytes (free h)) (spelled_char start bytes (held left h))
  kept_spelled left bytes h = kept_if left h (is_utf8 bytes) _ _ _ _ (nothing_taken left h (Some (chars bytes)))
      (same _)

  kept_by : (left : ℕ) (o : Option ℕ) (b : ℕ) (h : Here)
      → Kept left h (escaped_by start o b (free h)) (escaped_by start o b (held left h))
  kept_by left None b h = same _
  kept_by left (Some count) b h = kept_bind left h (trailing_bytes start count (b ∷ []) (free h))
      (trailing_bytes start count (b ∷ []) (held left h)) (λ x. spelled_char start x.0 x.1)
      (kept_trailing left count (b ∷ []) h) (λ x g more. kept_spelled more x g)

  -- ---- all turns

  spent_one : (left : ℕ) (h : Here) → Each is_uri_char (next_char h ∷ [])
      → h.unread.text ≡ next_char h ∷ (step h).unread.text → (v : Bool) → nat_lt left 1 ≡ v
      → Kept left h (Ok (Some (next_char h ∷ []), free (step h)))
      ((if v then Limit else Ok (Some (record { left = left - 1; limit = limit }))) >>= with_budget
      (Some (next_char h ∷ [])) (step h))
  spent_one left h y t true e = passed (next_char h ∷ []) (step h).unread.text y t (grind (arith, nat_tests))
  spent_one left h y t false e = kept (Some (next_char h ∷ [])) (next_char h ∷ []) (left - 1) y t
      (grind (arith, nat_tests))

  turn_if : (left : ℕ) (h : Here) (v : Bool) → is_uri_char (next_char h) ≡ v
      → Kept left h (if not v then Ok (None, free h) else if next_char h == 0x25 then
      (escaped_byte start (free h) >>= λ x. escaped_by start (bytes_behind x.0) x.0 x.1) else Ok
      (Some (next_char h ∷ []), free (step h)))
      (if not v then Ok (None, held left h) else if next_char h == 0x25 then
      (escaped_byte start (held left h) >>= λ x. escaped_by start (bytes_behind x.0) x.0 x.1)
      else ((if nat_lt left 1 then Limit else Ok (Some (record { left = left - 1; limit = limit }))) >>= with_budget
      (Some (next_char h ∷ [])) (step h)))
  turn_if left h false e = nothing_taken left h None
  turn_if left h true e =
      kept_if left h (next_char h == 0x25) _ _ _ _
      (kept_bind left h (escaped_byte start (free h)) (escaped_byte start (held left h))
      (λ x. escaped_by start (bytes_behind x.0) x.0 x.1) (kept_byte left h)
      (λ x g more. kept_by more (bytes_behind x) x g))
      (spent_one left h (e, tt) (seen is_uri_char h uri_class.nul e).is (nat_lt left 1) refl)

  kept_turn : (left : ℕ) (h : Here) → Kept left h (uri_turn is_uri_char start (free h))
      (uri_turn is_uri_char start (held left h))
  unfolding uri_turn
  kept_turn left h = turn_if left h (is_uri_char (next_char h)) refl

  kept_front : (left : ℕ) (h : Here) (piece : List ℕ) (r s : Result (List ℕ × UriState) Fault) → Kept left h r s
      → Kept left h (with_front piece r) (with_front piece s)
  kept_front left h piece r s (same f) = same f
  kept_front left h piece r s (passed front rest y t l) = passed front rest y t l
  kept_front left h piece r s (kept x front more y t n) = kept (piece ++ x) front more y t n

  kept_more : (n left : ℕ) (h : Here) (o : Option (List ℕ))
      → Kept left h (turns (uri_turn is_uri_char start) n (free h)) (turns (uri_turn is_uri_char start) n (held left h))
      → Kept left h (then_more (turns (uri_turn is_uri_char start) n) o (free h))
      (then_more (turns (uri_turn is_uri_char start) n) o (held left h))
  kept_more n left h None k = nothing_taken left h []
  kept_more n left h (Some piece) k = kept_front left h piece _ _ k

  kept_turns : (n left : ℕ) (h : Here) → Kept left h (turns (uri_turn is_uri_char start) n (free h))
      (turns (uri_turn is_uri_char start) n (held left h))
  unfolding turns
  kept_turns zero left h = nothing_taken left h []
  kept_turns (suc n) left h =
      kept_bind left h (uri_turn is_uri_char start (free h)) (uri_turn is_uri_char start (held left h))
      (λ x. then_more (turns (uri_turn is_uri_char start) n) x.0 x.1) (kept_turn left h)
      (λ o g more. kept_more n more g o (kept_turns n more g))

  pub kept_decoded : (left : ℕ) (h : Here) → Kept left h (decoded is_uri_char start None h)
      (decoded is_uri_char start (Some (record { left = left; limit = limit })) h)
  unfolding pieces
  kept_decoded left h = kept_turns (suc (text_len h)) left h
