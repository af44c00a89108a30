-- The escapes of one character within a limit: read while it lasts, and refused at the first one that passes it.
use Rattle.std.proofs.Common.{◌≡◌, ℕ, zero, suc, ◌+◌, ◌-◌, ◌<◌, ◌≤◌, true, false, ◌&&◌, List, [], ◌∷◌, ◌++◌}
use Rattle.std.proofs.Common.{length, Option, Some, None, Result, Ok, Err, refl, sym, ap, ap₂, ◌∙◌, subst, arith}
use Rattle.std.proofs.Common.{append_assoc, append-nil, length-append, ◌⊎◌, inl, inr}
use Rattle.std.specs.Prelude.{slice_index, if◌then◌else◌, nat_lt}
use Rattle.std.proofs.lemmas.Bool.{cond-true, cond-false, cases_lt}
use Rattle.std.proofs.lemmas.Bool.Decides.{nat_tests}
use lib.Utf8.{scalar, encode}
use Rattle.granit_base.specs.Classes.{is_hex}
use Rattle.granit_base.specs.Place.{Mark}
use Rattle.granit_error.specs.FaultKind.{FaultKind, DirectiveByteLimitExceeded, InvalidTagEscape}
use Rattle.granit_error.specs.FaultKind.{InvalidTagUtf8LeadingByte, InvalidTagUtf8TrailingByte}
use Rattle.granit_lexemes.specs.Basics.{fails_at}
use Rattle.granit_lexemes.specs.Gap.{Each}
use Rattle.granit_lexemes.specs.Here.{Here}
use Rattle.granit_lexemes.specs.Moves.{steps}
use Rattle.granit_lexemes.specs.Outcome.{Fault, fault_at, ◌>>=◌}
use Rattle.granit_lexemes.specs.PlainExtent.{over}
use Rattle.granit_lexemes.specs.TagExtent.{byte_of, Escapes, no_more, one_more, is_escape, is_trailing, Begun}
use Rattle.granit_lexemes.specs.TagExtent.{WrongEscapes, digits, inside, leading, trailing, no_character}
use Rattle.granit_lexemes.specs.Tags.{Budget, spent, UriState, is_utf8, escaped_byte, bytes_behind, trailing_bytes}
use Rattle.granit_lexemes.specs.Tags.{spelled_char, escaped_by}
use Rattle.granit_lexemes.specs.DirectiveCause.{escapes_read}
use Rattle.granit_names.proofs.Escaped.{utf8_is, char_utf8, chars_one}
use Rattle.granit_names.proofs.Kept.{held}
use Rattle.granit_names.proofs.Spelling.{rows}
use Rattle.granit_names.proofs.WrongBytes.{not_utf8}
use Rattle.granit_scalars.proofs.QuotedEscapes.{over_text}

module _ (start : Mark) (limit : ℕ) where
  abbrev pub Limit : {Y : Type 0} → Result Y Fault
  Limit = fails_at (DirectiveByteLimitExceeded limit) start

  abbrev pub room : ℕ → Option Budget
  room left = Some (record { left = left; limit = limit })

  pub spent_within : (left n : ℕ) → n ≤ left → spent (room left) n start ≡ Ok (room (left - n))
  spent_within left n l = let e : nat_lt left n ≡ false = grind (arith, nat_tests) in cond-false (nat_lt left n) _ _ e

  pub spent_over : (left n : ℕ) → left < n → spent (room left) n start ≡ Limit
  spent_over left n l = let e : nat_lt left n ≡ true = grind (arith, nat_tests) in cond-true (nat_lt left n) _ _ e

  -- ---- one byte

  abbrev with_budget : {A : Type 0} → A → Here → Option Budget → Result (A × UriState) Fault
  with_budget x g b = Ok (x, record { here = g; budget = b })

  byte_by : (left : ℕ) (h : Here) (high low : ℕ) (rest : List ℕ) → h.unread.text ≡ 0x25 ∷ high ∷ low ∷ rest
      → is_hex high ≡ true → is_hex low ≡ true
      → escaped_byte start (held start limit left h)
      ≡ (spent (room left) 3 start >>= with_budget (byte_of high low) (over (0x25 ∷ high ∷ low ∷ []) h))
  unfolding escaped_byte steps
  byte_by left h high low rest e p q =
      cond-true (is_escape h.unread.text) _ _ (ap is_escape e ∙ ap₂ (λ a b. a && b) p q)
      ∙ ap (λ (l : List ℕ). spent (room left) 3 start >>= with_budget (byte_of (slice_index l 1) (slice_index l 2))
      (over (0x25 ∷ high ∷ low ∷ []) h)) e

  byte_within : (left : ℕ) (h : Here) (high low : ℕ) (rest : List ℕ) → h.unread.text ≡ 0x25 ∷ high ∷ low ∷ rest
      → is_hex high ≡ true → is_hex low ≡ true → 3 ≤ left
      → escaped_byte start (held start limit left h)
      ≡ Ok (byte_of high low, held start limit (left - 3) (over (0x25 ∷ high ∷ low ∷ []) h))
  byte_within left h high low rest e p q l =
      byte_by left h high low rest e p q
      ∙ ap (λ r. r >>= with_budget (byte_of high low) (over (0x25 ∷ high ∷ low ∷ []) h)) (spent_within left 3 l)

  byte_over : (left : ℕ) (h : Here) (high low : ℕ) (rest : List ℕ) → h.unread.text ≡ 0x25 ∷ high ∷ low ∷ rest
      → is_hex high ≡ true → is_hex low ≡ true → left < 3 → escaped_byte start (held start limit left h) ≡ Limit
  byte_over left h high low rest e p q l =
      byte_by left h high low rest e p q
      ∙ ap (λ r. r >>= with_budget (byte_of high low) (over (0x25 ∷ high ∷ low ∷ []) h)) (spent_over left 3 l)

  byte_none : (left : ℕ) (h : Here) → is_escape h.unread.text ≡ false
      → escaped_byte start (held start limit left h) ≡ Err (fault_at InvalidTagEscape start)
  unfolding escaped_byte
  byte_none left h n = cond-false (is_escape h.unread.text) _ _ n

  -- ---- further bytes

  abbrev trail : ℕ → List ℕ → ℕ × UriState → Result (List ℕ × UriState) Fault
  trail k bytes x =
      if is_trailing x.0 then trailing_bytes start k (bytes ++ x.0 ∷ []) x.1
      else fails_at InvalidTagUtf8TrailingByte start

  -- over further bytes that stand there, with so many left
  trailing_within : (left count k : ℕ) (bytes source more rest : List ℕ) (h : Here) → Escapes source more
      → k ≡ length more + count → Each is_trailing more → h.unread.text ≡ source ++ rest → length source ≤ left
      → trailing_bytes start k bytes (held start limit left h)
      ≡ trailing_bytes start count (bytes ++ more) (held start limit (left - length source) (over source h))
  unfolding trailing_bytes
  trailing_within left count k bytes source more rest h no_more n p t l =
      let m : k ≡ count = omega (arith, n) in
      let all : left ≡ left - length {A = ℕ} [] = omega arith in
      ap₂ (λ j (b : List ℕ). trailing_bytes start j b (held start limit left h)) m (sym (append-nil bytes))
      ∙ ap (λ (i : ℕ). trailing_bytes start count (bytes ++ []) (held start limit i h)) all
  trailing_within left count zero bytes source more rest h (one_more y z e) n p t l = absurd (omega arith)
  trailing_within left count (suc k) bytes source more rest h
      (one_more {high} {low} {source = s} {bytes = bs} y z e) n p t l =
      let next = over (0x25 ∷ high ∷ low ∷ []) h in
      let fits : length s ≤ left - 3 = omega arith in
      let same : left - 3 - length s ≡ left - suc (suc (suc (length s))) = omega arith in
      ap (λ r. r >>= trail k bytes) (byte_within left h high low (s ++ rest) t y z (omega arith))
      ∙ cond-true (is_trailing (byte_of high low)) _ _ p.0
      ∙ trailing_within (left - 3) count k (bytes ++ byte_of high low ∷ []) s bs rest next e (omega (arith, n)) p.1
      (over_text (0x25 ∷ high ∷ low ∷ []) (s ++ rest) h t) fits
      ∙ ap₂ (λ (b : List ℕ) (i : ℕ). trailing_bytes start count b (held start limit i (over s next)))
      (append_assoc bytes (byte_of high low ∷ []) bs) same

  trailing_over : (left count k : ℕ) (bytes source more rest : List ℕ) (h : Here) → Escapes source more
      → k ≡ length more + count → Each is_trailing more → h.unread.text ≡ source ++ rest → left < length source
      → trailing_bytes start k bytes (held start limit left h) ≡ Limit
  unfolding trailing_bytes
  trailing_over left count k bytes source more rest h no_more n p t l = absurd (omega arith)
  trailing_over left count zero bytes source more rest h (one_more y z e) n p t l = absurd (omega arith)
  trailing_over left count (suc k) bytes source more rest h
      (one_more {high} {low} {source = s} {bytes = bs} y z e) n p t l =
      by (λ some. trailing_over (left - 3) count k (bytes ++ byte_of high low ∷ []) s bs rest
      (over (0x25 ∷ high ∷ low ∷ []) h) e (omega (arith, n)) p.1 (over_text (0x25 ∷ high ∷ low ∷ []) (s ++ rest) h t)
      (omega (arith, some))) (cases_lt left 3)
    where
      by : (3 ≤ left → trailing_bytes start k (bytes ++ byte_of high low ∷ [])
          (held start limit (left - 3) (over (0x25 ∷ high ∷ low ∷ []) h)) ≡ Limit) → (left < 3) ⊎ (3 ≤ left)
          → trailing_bytes start (suc k) bytes (held start limit left h) ≡ Limit
      by more (inl few) = ap (λ r. r >>= trail k bytes) (byte_over left h high low (s ++ rest) t y z few)
      by more (inr some) =
          ap (λ r. r >>= trail k bytes) (byte_within left h high low (s ++ rest) t y z some)
          ∙ cond-true (is_trailing (byte_of high low)) _ _ p.0 ∙ more some

  trailing_missing : (left k : ℕ) (bytes : List ℕ) (h : Here) → is_escape h.unread.text ≡ false
      → trailing_bytes start (suc k) bytes (held start limit left h) ≡ Err (fault_at InvalidTagEscape start)
  unfolding trailing_bytes
  trailing_missing left k bytes h n = ap (λ r. r >>= trail k bytes) (byte_none left h n)

  -- a further byte that isn't one
  trailing_strange : (left k b : ℕ) (bytes piece row rest : List ℕ) (h : Here) → row ≡ b ∷ [] → Escapes piece row
      → is_trailing b ≡ false → h.unread.text ≡ piece ++ rest → length piece ≤ left
      → trailing_bytes start (suc k) bytes (held start limit left h)
      ≡ Err (fault_at InvalidTagUtf8TrailingByte start)
  unfolding trailing_bytes
  trailing_strange left k b bytes piece row rest h f no_more n t l = absurd cc
  trailing_strange left k b bytes piece row rest h f (one_more {high} {low} {source = s} y z e) n t l =
      let same : byte_of high low ≡ b = cc in
      ap (λ r. r >>= trail k bytes) (byte_within left h high low (s ++ rest) t y z (omega arith))
      ∙ cond-false (is_trailing (byte_of high low)) _ _ (ap is_trailing same ∙ n)

  -- one byte that passes the limit
  one_length : (b : ℕ) (piece row : List ℕ) → row ≡ b ∷ [] → Escapes piece row → length piece ≡ 3
  one_length b piece row f no_more = absurd cc
  one_length b piece row f (one_more y z no_more) = refl
  one_length b piece row f (one_more y z (one_more v w e)) = absurd cc

  strange_over : (left k b : ℕ) (bytes piece row rest : List ℕ) (h : Here) → row ≡ b ∷ [] → Escapes piece row
      → h.unread.text ≡ piece ++ rest → left < length piece
      → trailing_bytes start (suc k) bytes (held start limit left h) ≡ Limit
  unfolding trailing_bytes
  strange_over left k b bytes piece row rest h f no_more t l = absurd cc
  strange_over left k b bytes piece row rest h f (one_more {high} {low} {source = s} y z e) t l =
      let n = one_length b piece row f (one_more y z e) in
      ap (λ r. r >>= trail k bytes) (byte_over left h high low (s ++ rest) t y z (omega arith))

  -- ---- one character

  abbrev pub char_held : ℕ → Here → Result (Option (List ℕ) × UriState) Fault
  char_held left h = escaped_byte start (held start limit left h) >>= λ x. escaped_by start (bytes_behind x.0) x.0 x.1

  abbrev spell : List ℕ × UriState → Result (Option (List ℕ) × UriState) Fault
  spell x = spelled_char start x.0 x.1

  -- over the first byte and some further ones, with so many left
  lead_within : (left : ℕ) (h : Here) (lead count some : ℕ) (source more row rest : List ℕ)
      → bytes_behind lead ≡ Some count → count ≡ length more + some → Each is_trailing more → row ≡ lead ∷ more
      → Escapes source row → h.unread.text ≡ source ++ rest → length source ≤ left
      → char_held left h
      ≡ (trailing_bytes start some row (held start limit (left - length source) (over source h)) >>= spell)
  lead_within left h lead count some source more row rest w n p f no_more t l = absurd cc
  lead_within left h lead count some source more row rest w n p f
      (one_more {high} {low} {source = s} {bytes = bs} y z e) t l =
      let same : byte_of high low ≡ lead = cc in
      let behind : bs ≡ more = cc in
      let front = 0x25 ∷ high ∷ low ∷ [] in
      let next = over front h in
      let fits : length s ≤ left - 3 = omega arith in
      let room_same : left - 3 - length s ≡ left - suc (suc (suc (length s))) = omega arith in
      ap (λ r. r >>= λ x. escaped_by start (bytes_behind x.0) x.0 x.1)
      (byte_within left h high low (s ++ rest) t y z (omega arith))
      ∙ ap (λ o. escaped_by start o (byte_of high low) (held start limit (left - 3) next)) (ap bytes_behind same ∙ w)
      ∙ ap (λ r. r >>= spell)
      (trailing_within (left - 3) some count (byte_of high low ∷ []) s bs rest next e
      (n ∙ ap (λ (b : List ℕ). length b + some) (sym behind)) (subst (Each is_trailing) (sym behind) p)
      (over_text front (s ++ rest) h t) fits)
      ∙ ap (λ (i : ℕ). trailing_bytes start some (byte_of high low ∷ bs) (held start limit i (over s next)) >>= spell)
      room_same

  lead_over : (left : ℕ) (h : Here) (lead count some : ℕ) (source more row rest : List ℕ)
      → bytes_behind lead ≡ Some count → count ≡ length more + some → Each is_trailing more → row ≡ lead ∷ more
      → Escapes source row → h.unread.text ≡ source ++ rest → left < length source → char_held left h ≡ Limit
  lead_over left h lead count some source more row rest w n p f no_more t l = absurd cc
  lead_over left h lead count some source more row rest w n p f
      (one_more {high} {low} {source = s} {bytes = bs} y z e) t l = by (cases_lt left 3)
    where
      by : (left < 3) ⊎ (3 ≤ left) → char_held left h ≡ Limit
      by (inl few) = ap (λ r. r >>= λ x. escaped_by start (bytes_behind x.0) x.0 x.1)
          (byte_over left h high low (s ++ rest) t y z few)
      by (inr enough) =
          let same : byte_of high low ≡ lead = cc in
          let behind : bs ≡ more = cc in
          let front = 0x25 ∷ high ∷ low ∷ [] in
          let next = over front h in
          let long : left - 3 < length s = omega arith in
          ap (λ r. r >>= λ x. escaped_by start (bytes_behind x.0) x.0 x.1)
          (byte_within left h high low (s ++ rest) t y z enough)
          ∙ ap (λ o. escaped_by start o (byte_of high low) (held start limit (left - 3) next))
          (ap bytes_behind same ∙ w)
          ∙ ap (λ r. r >>= spell)
          (trailing_over (left - 3) some count (byte_of high low ∷ []) s bs rest next e
          (n ∙ ap (λ (b : List ℕ). length b + some) (sym behind)) (subst (Each is_trailing) (sym behind) p)
          (over_text front (s ++ rest) h t) long)

  -- a character that stands there
  pub char_within : (left : ℕ) (h : Here) (c : ℕ) (source rest : List ℕ) → scalar c ≡ true
      → Escapes source (encode c) → h.unread.text ≡ source ++ rest → length source ≤ left
      → char_held left h ≡ Ok (Some (c ∷ []), held start limit (left - length source) (over source h))
  unfolding trailing_bytes
  char_within left h c source rest s e t l =
      let r = rows c s in
      let utf8 = utf8_is (encode c) (char_utf8 c (encode c) s refl) in
      lead_within left h r.lead (length r.more) 0 source r.more (encode c) rest r.wants (omega arith) r.each r.is e t l
      ∙ cond-true (is_utf8 (encode c)) _ _ utf8
      ∙ ap (λ (k : List ℕ). Ok (Some k, held start limit (left - length source) (over source h)))
      (chars_one c (encode c) s refl)

  pub char_over : (left : ℕ) (h : Here) (c : ℕ) (source rest : List ℕ) → scalar c ≡ true
      → Escapes source (encode c) → h.unread.text ≡ source ++ rest → left < length source → char_held left h ≡ Limit
  char_over left h c source rest s e t l =
      let r = rows c s in
      lead_over left h r.lead (length r.more) 0 source r.more (encode c) rest r.wants (omega arith) r.each r.is e t l

  -- ---- what is wrong

  lead_none : (left b : ℕ) (source row rest : List ℕ) (h : Here) → row ≡ b ∷ [] → Escapes source row
      → bytes_behind b ≡ None → h.unread.text ≡ source ++ rest → length source ≤ left
      → char_held left h ≡ Err (fault_at InvalidTagUtf8LeadingByte start)
  lead_none left b source row rest h f no_more n t l = absurd cc
  lead_none left b source row rest h f (one_more {high} {low} {source = s} y z e) n t l =
      let same : byte_of high low ≡ b = cc in
      ap (λ r. r >>= λ x. escaped_by start (bytes_behind x.0) x.0 x.1)
      (byte_within left h high low (s ++ rest) t y z (omega arith))
      ∙ ap (λ o. escaped_by start o (byte_of high low) (held start limit (left - 3) (over (0x25 ∷ high ∷ low ∷ []) h)))
      (ap bytes_behind same ∙ n)

  lead_passes : (left b : ℕ) (source row rest : List ℕ) (h : Here) → row ≡ b ∷ [] → Escapes source row
      → h.unread.text ≡ source ++ rest → left < length source → char_held left h ≡ Limit
  lead_passes left b source row rest h f no_more t l = absurd cc
  lead_passes left b source row rest h f (one_more {high} {low} {source = s} y z e) t l =
      let n = one_length b source row f (one_more y z e) in
      ap (λ r. r >>= λ x. escaped_by start (bytes_behind x.0) x.0 x.1)
      (byte_over left h high low (s ++ rest) t y z (omega arith))

  -- so many bytes are still wanted
  wants : (count : ℕ) (source bytes : List ℕ) (b : Begun count source bytes) → length bytes < count + 1
      → (k : ℕ) × (count ≡ length b.more + suc k)
  wants count source bytes b l =
      let whole : length bytes ≡ length (b.lead ∷ b.more) = ap (length {A = ℕ}) b.are in
      (count - length b.more - 1, omega (arith, l, whole))

  all_there : (bytes : List ℕ) (s : UriState) → trailing_bytes start 0 bytes s ≡ Ok (bytes, s)
  unfolding trailing_bytes
  all_there bytes s = refl

  pub wrong_within : {kind : FaultKind} {text : List ℕ} (w : WrongEscapes kind text) (left : ℕ) (h : Here)
      → h.unread.text ≡ text → length (escapes_read w) ≤ left → char_held left h ≡ Err (fault_at kind start)
  wrong_within (digits n) left h t l = ap (λ r. r >>= λ x. escaped_by start (bytes_behind x.0) x.0 x.1)
      (byte_none left h (ap is_escape t ∙ n))
  wrong_within (inside count source bytes rest b few n) left h t l =
      let (k, some) = wants count source bytes b few in
      lead_within left h b.lead count (suc k) source b.more bytes rest b.wants some b.each b.are b.escapes t l
      ∙ ap (λ r. r >>= spell) (trailing_missing (left - length source) k bytes (over source h)
      (ap is_escape (over_text source rest h t) ∙ n))
  wrong_within (leading b source rest e n) left h t l = lead_none left b source (b ∷ []) rest h refl e n t l
  wrong_within (trailing count b source piece bytes rest begun few e n) left h t l =
      let (k, some) = wants count source bytes begun few in
      let sum = length-append source piece in
      let first : length source ≤ left = omega arith in
      let second : length piece ≤ left - length source = omega arith in
      lead_within left h begun.lead count (suc k) source begun.more bytes (piece ++ rest) begun.wants some begun.each
      begun.are begun.escapes t first
      ∙ ap (λ r. r >>= spell) (trailing_strange (left - length source) k b bytes piece (b ∷ []) rest (over source h)
      refl e n (over_text source (piece ++ rest) h t) second)
  wrong_within (no_character count source bytes rest b all none) left h t l =
      let whole : length bytes ≡ length (b.lead ∷ b.more) = ap (length {A = ℕ}) b.are in
      lead_within left h b.lead count 0 source b.more bytes rest b.wants (omega (arith, all, whole)) b.each b.are
      b.escapes t l
      ∙ ap (λ r. r >>= spell) (all_there bytes (held start limit (left - length source) (over source h)))
      ∙ cond-false (is_utf8 bytes) _ _ (not_utf8 count source bytes b all none (is_utf8 bytes) refl)

  pub wrong_over : {kind : FaultKind} {text : List ℕ} (w : WrongEscapes kind text) (left : ℕ) (h : Here)
      → h.unread.text ≡ text → left < length (escapes_read w) → char_held left h ≡ Limit
  wrong_over (digits n) left h t l = absurd (omega arith)
  wrong_over (inside count source bytes rest b few n) left h t l =
      let (k, some) = wants count source bytes b few in
      lead_over left h b.lead count (suc k) source b.more bytes rest b.wants some b.each b.are b.escapes t l
  wrong_over (leading b source rest e n) left h t l = lead_passes left b source (b ∷ []) rest h refl e t l
  wrong_over (trailing count b source piece bytes rest begun few e n) left h t l =
      let (k, some) = wants count source bytes begun few in by k some (cases_lt left (length source))
    where
      by : (k : ℕ) → count ≡ length begun.more + suc k → (left < length source) ⊎ (length source ≤ left)
          → char_held left h ≡ Limit
      by k some (inl long) = lead_over left h begun.lead count (suc k) source begun.more bytes (piece ++ rest)
          begun.wants some begun.each begun.are begun.escapes t long
      by k some (inr fits) =
          let sum = length-append source piece in
          let long : left - length source < length piece = omega arith in
          lead_within left h begun.lead count (suc k) source begun.more bytes (piece ++ rest) begun.wants some
          begun.each begun.are begun.escapes t fits
          ∙ ap (λ r. r >>= spell) (strange_over (left - length source) k b bytes piece (b ∷ []) rest (over source h)
          refl e (over_text source (piece ++ rest) h t) long)
  wrong_over (no_character count source bytes rest b all none) left h t l =
      let whole : length bytes ≡ length (b.lead ∷ b.more) = ap (length {A = ℕ}) b.are in
      lead_over left h b.lead count 0 source b.more bytes rest b.wants (omega (arith, all, whole)) b.each b.are
      b.escapes t l
