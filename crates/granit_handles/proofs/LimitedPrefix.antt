-- Characters of a URI within a limit: what is wrong among them is refused, or the limit where it is passed before.
use Rattle.std.proofs.Common.{◌≡◌, ◌≢◌, ℕ, zero, suc, ◌+◌, ◌-◌, ◌<◌, ◌≤◌, ◌==◌, true, false, not, List, [], ◌∷◌}
use Rattle.std.proofs.Common.{◌++◌, length, Option, Some, Result, Ok, Err, refl, sym, ap, ◌∙◌, subst, arith}
use Rattle.std.proofs.Common.{append_assoc, length-append, ◌⊎◌, inl, inr}
use Rattle.std.specs.Str.{encode_utf8_all}
use Rattle.std.proofs.lemmas.Bool.{cond-true, cond-false, and_parts, cases_lt}
use Rattle.std.proofs.lemmas.Str.{encode_ascii}
use lib.Utf8.{scalar, scalars, encode}
use Rattle.granit_base.specs.Classes.{is_uri_char}
use Rattle.granit_base.specs.Place.{Mark, first}
use Rattle.granit_error.specs.FaultKind.{FaultKind}
use Rattle.granit_lexemes.specs.Here.{Here, text_len, next_char, step}
use Rattle.granit_lexemes.specs.Outcome.{Fault, fault_at, ◌>>=◌}
use Rattle.granit_lexemes.specs.Pieces.{with_front, then_more, turns, pieces}
use Rattle.granit_lexemes.specs.PlainExtent.{over}
use Rattle.granit_lexemes.specs.TagExtent.{byte_of, SpellsBytes, nothing, itself, percent, SpellsText, Escapes, no_more}
use Rattle.granit_lexemes.specs.TagExtent.{one_more, WrongEscapes}
use Rattle.granit_lexemes.specs.Tags.{Budget, spent, UriState, uri_turn, decoded}
use Rattle.granit_lexemes.specs.DirectiveCause.{escapes_read}
use Rattle.granit_names.proofs.Decoded.{decoded_is}
use Rattle.granit_names.proofs.Escaped.{free}
use Rattle.granit_handles.proofs.HandleLaw.{as_long}
use Rattle.granit_names.proofs.Kept.{held, Kept, same, passed, kept, kept_decoded}
use Rattle.granit_names.proofs.LimitedEscapes.{Limit, room, spent_within, spent_over, char_held, char_within, char_over}
use Rattle.granit_names.proofs.LimitedEscapes.{wrong_within, wrong_over}
use Rattle.granit_names.proofs.Spelling.{uri_class, part, AreHigh, rows}
use Rattle.granit_names.proofs.Runs.{over_text}

-- ---- the next character, and what is spelled behind it

record NextChar (c : ℕ) (source bytes : List ℕ) : Type 0 where
  front : List ℕ
  more : List ℕ
  whole : source ≡ front ++ more
  some : 0 < length front
  spells : SpellsBytes is_uri_char more bytes
  how : ((front ≡ c ∷ []) × (is_uri_char c ≡ true) × ((c == 0x25) ≡ false)) ⊎ Escapes front (encode c)

some_front : (front row : List ℕ) → Escapes front row → row ≢ [] → 0 < length front
some_front front row no_more n = absurd (n refl)
some_front front row (one_more y z e) n = omega arith

some_row : (c : ℕ) → scalar c ≡ true → encode c ≢ []
some_row c s = let r = rows c s in let e = r.is in λ z. cc

high_row : (c : ℕ) (s : scalar c ≡ true) → 128 ≤ c → AreHigh (encode c)
high_row c s l = let r = rows c s in subst AreHigh (sym r.is) (r.high l)

low_next : (c : ℕ) (source bytes row : List ℕ) → c < 128 → row ≡ c ∷ bytes → SpellsBytes is_uri_char source row
    → NextChar c source bytes
low_next c source bytes row l e nothing = absurd cc
low_next c source bytes row l e (itself {c = d} {source = more} {bytes = bs} y n p) =
    let same : d ≡ c = cc in
    let behind : bs ≡ bytes = cc in
    record {
      front = d ∷ [];
      more = more;
      whole = refl;
      some = omega arith;
      spells = subst (SpellsBytes is_uri_char more) behind p;
      how = inl (
        ap (λ k. k ∷ []) same,
        ap is_uri_char (sym same) ∙ y,
        ap (λ k. k == 0x25) (sym same) ∙ n,
      );
    }
low_next c source bytes row l e (percent {high} {low} {source = more} {bytes = bs} y z p) =
    let same : byte_of high low ≡ c = cc in
    let behind : bs ≡ bytes = cc in
    record {
      front = 0x25 ∷ high ∷ low ∷ [];
      more = more;
      whole = refl;
      some = omega arith;
      spells = subst (SpellsBytes is_uri_char more) behind p;
      how = inr (subst (Escapes (0x25 ∷ high ∷ low ∷ [])) (ap (λ x. x ∷ []) same ∙ sym (encode_ascii c l))
          (one_more y z no_more));
    }

next_by : (c : ℕ) (source bytes : List ℕ) → scalar c ≡ true → SpellsBytes is_uri_char source (encode c ++ bytes)
    → (c < 128) ⊎ (128 ≤ c) → NextChar c source bytes
next_by c source bytes s p (inl l) = low_next c source bytes (encode c ++ bytes) l
    (ap (λ (r : List ℕ). r ++ bytes) (encode_ascii c l)) p
next_by c source bytes s p (inr l) =
    let a = part (encode c) source bytes uri_class (high_row c s l) p in
    record {
      front = a.front;
      more = a.rest;
      whole = a.whole;
      some = some_front a.front (encode c) a.escapes (some_row c s);
      spells = a.spells;
      how = inr a.escapes;
    }

none_left : (source bytes : List ℕ) → [] ≡ bytes → SpellsBytes is_uri_char source bytes → source ≡ []
none_left source bytes e nothing = refl
none_left source bytes e (itself y n p) = absurd cc
none_left source bytes e (percent y z p) = absurd cc

begins_escape : (front rest row : List ℕ) → Escapes front row → row ≢ [] → first (front ++ rest) ≡ 0x25
begins_escape front rest row no_more n = absurd (n refl)
begins_escape front rest row (one_more y z e) n = refl

-- ---- one turn

module _ (start : Mark) (limit : ℕ) where
  abbrev with_turn : List ℕ → Here → Option Budget → Result (Option (List ℕ) × UriState) Fault
  with_turn piece g b = Ok (Some piece, record { here = g; budget = b })

  abbrev turn : ℕ → Here → Result (Option (List ℕ) × UriState) Fault
  turn left h = uri_turn is_uri_char start (held start limit left h)

  escape_turn : (left : ℕ) (h : Here) → next_char h ≡ 0x25 → turn left h ≡ char_held start limit left h
  unfolding uri_turn
  escape_turn left h e =
      cond-false (not (is_uri_char (next_char h))) _ _ (ap (λ c. not (is_uri_char c)) e ∙ ap not uri_class.sign)
      ∙ cond-true (next_char h == 0x25) _ _ (ap (λ c. c == 0x25) e)

  plain_turn : (left : ℕ) (h : Here) → is_uri_char (next_char h) ≡ true → (next_char h == 0x25) ≡ false
      → turn left h ≡ (spent (room start limit left) 1 start >>= with_turn (next_char h ∷ []) (step h))
  unfolding uri_turn
  plain_turn left h y n = cond-false (not (is_uri_char (next_char h))) _ _ (ap not y)
      ∙ cond-false (next_char h == 0x25) _ _ n

  module _ (left : ℕ) (h : Here) (c : ℕ) (source bytes rest : List ℕ) (s : scalar c ≡ true)
      (a : NextChar c source bytes) (t : h.unread.text ≡ a.front ++ (a.more ++ rest)) where
    abbrev How : Type 0
    How = ((a.front ≡ c ∷ []) × (is_uri_char c ≡ true) × ((c == 0x25) ≡ false)) ⊎ Escapes a.front (encode c)

    begins : a.front ≡ c ∷ [] → next_char h ≡ c
    begins is = ap first t ∙ ap (λ (l : List ℕ). first (l ++ (a.more ++ rest))) is

    begins_so : Escapes a.front (encode c) → next_char h ≡ 0x25
    begins_so e = ap first t ∙ begins_escape a.front (a.more ++ rest) (encode c) e (some_row c s)

    within_by : How → length a.front ≤ left
        → turn left h ≡ Ok (Some (c ∷ []), held start limit (left - length a.front) (over a.front h))
    within_by (inl (is, y, n)) l =
        let f = begins is in
        let one : length a.front ≡ 1 = ap (length {A = ℕ}) is in
        plain_turn left h (ap is_uri_char f ∙ y) (ap (λ x. x == 0x25) f ∙ n)
        ∙ ap (λ r. r >>= with_turn (next_char h ∷ []) (step h)) (spent_within start limit left 1 (omega arith))
        ∙ ap (λ (x : ℕ). Ok (Some (x ∷ []), held start limit (left - 1) (step h))) f
        ∙ ap (λ (w : List ℕ). Ok (Some (c ∷ []), held start limit (left - length w) (over w h))) (sym is)
    within_by (inr e) l = escape_turn left h (begins_so e)
        ∙ char_within start limit left h c a.front (a.more ++ rest) s e t l

    over_by : How → left < length a.front → turn left h ≡ Limit start limit
    over_by (inl (is, y, n)) l =
        let f = begins is in
        let one : length a.front ≡ 1 = ap (length {A = ℕ}) is in
        plain_turn left h (ap is_uri_char f ∙ y) (ap (λ x. x == 0x25) f ∙ n)
        ∙ ap (λ r. r >>= with_turn (next_char h ∷ []) (step h)) (spent_over start limit left 1 (omega arith))
    over_by (inr e) l = escape_turn left h (begins_so e)
        ∙ char_over start limit left h c a.front (a.more ++ rest) s e t l

  -- ---- all turns, up to what is wrong

  abbrev goes_on : ℕ → Option (List ℕ) × UriState → Result (List ℕ × UriState) Fault
  goes_on n x = then_more (turns (uri_turn is_uri_char start) n) x.0 x.1

  shorter : (h : Here) (front more rest : List ℕ) (n : ℕ) → 0 < length front
      → h.unread.text ≡ front ++ (more ++ rest) → text_len h < suc n → text_len (over front h) < n
  shorter h front more rest n some t l =
      let e : text_len h ≡ length front + length (more ++ rest) =
      ap (length {A = ℕ}) t ∙ length-append front (more ++ rest) in
      let f : text_len (over front h) ≡ length (more ++ rest) =
      ap (length {A = ℕ}) (over_text front (more ++ rest) h t) in
      omega arith

  turns_fail : (n left : ℕ) (text source rest : List ℕ) (h : Here) (part : ℕ) (f : Fault) → scalars text ≡ true
      → SpellsBytes is_uri_char source (encode_utf8_all text) → h.unread.text ≡ source ++ rest → first rest ≡ 0x25
      → ((i : ℕ) (g : Here) → g.unread.text ≡ rest → part ≤ i → char_held start limit i g ≡ Err f)
      → length source + part ≤ left → text_len h < n
      → turns (uri_turn is_uri_char start) n (held start limit left h) ≡ Err f
  unfolding turns
  turns_fail zero left text source rest h part f s p t e w m l = absurd (omega arith)
  turns_fail (suc n) left [] source rest h part f s p t e w m l =
      let none = none_left source [] refl p in
      let here : h.unread.text ≡ rest = t ∙ ap (λ (u : List ℕ). u ++ rest) none in
      ap (λ r. r >>= goes_on n) (escape_turn left h (ap first here ∙ e) ∙ w left h here (omega arith))
  turns_fail (suc n) left (c ∷ text) source rest h part f s p t e w m l =
      let ss = and_parts (scalar c) (scalars text) s in
      let a = next_by c source (encode_utf8_all text) ss.0 p (cases_lt c 128) in
      let whole : h.unread.text ≡ a.front ++ (a.more ++ rest) =
      t ∙ ap (λ (l : List ℕ). l ++ rest) a.whole ∙ append_assoc a.front a.more rest in
      let u : (over a.front h).unread.text ≡ a.more ++ rest = over_text a.front (a.more ++ rest) h whole in
      let sum : length source ≡ length a.front + length a.more =
      ap (length {A = ℕ}) a.whole ∙ length-append a.front a.more in
      let fits : length a.more + part ≤ left - length a.front = omega arith in
      ap (λ r. r >>= goes_on n)
      (within_by left h c source (encode_utf8_all text) rest ss.0 a whole a.how (omega arith))
      ∙ ap (with_front (c ∷ []))
      (turns_fail n (left - length a.front) text a.more rest (over a.front h) part f ss.1 a.spells u e w fits
      (shorter h a.front a.more rest n a.some whole l))

  turns_pass : (n left : ℕ) (text source rest : List ℕ) (h : Here) (part : ℕ) → scalars text ≡ true
      → SpellsBytes is_uri_char source (encode_utf8_all text) → h.unread.text ≡ source ++ rest → first rest ≡ 0x25
      → ((i : ℕ) (g : Here) → g.unread.text ≡ rest → i < part → char_held start limit i g ≡ Limit start limit)
      → left < length source + part → text_len h < n
      → turns (uri_turn is_uri_char start) n (held start limit left h) ≡ Limit start limit
  unfolding turns
  turns_pass zero left text source rest h part s p t e w m l = absurd (omega arith)
  turns_pass (suc n) left [] source rest h part s p t e w m l =
      let none = none_left source [] refl p in
      let zero_long : length source ≡ 0 = ap (length {A = ℕ}) none in
      let here : h.unread.text ≡ rest = t ∙ ap (λ (u : List ℕ). u ++ rest) none in
      ap (λ r. r >>= goes_on n) (escape_turn left h (ap first here ∙ e) ∙ w left h here (omega arith))
  turns_pass (suc n) left (c ∷ text) source rest h part s p t e w m l =
      let ss = and_parts (scalar c) (scalars text) s in
      let a = next_by c source (encode_utf8_all text) ss.0 p (cases_lt c 128) in
      let whole : h.unread.text ≡ a.front ++ (a.more ++ rest) =
      t ∙ ap (λ (l : List ℕ). l ++ rest) a.whole ∙ append_assoc a.front a.more rest in
      let u : (over a.front h).unread.text ≡ a.more ++ rest = over_text a.front (a.more ++ rest) h whole in
      let sum : length source ≡ length a.front + length a.more =
      ap (length {A = ℕ}) a.whole ∙ length-append a.front a.more in
      by ss.0 a whole
      (λ fits. turns_pass n (left - length a.front) text a.more rest (over a.front h) part ss.1 a.spells u e w
      (omega (arith, fits)) (shorter h a.front a.more rest n a.some whole l)) (cases_lt left (length a.front))
    where
      by : scalar c ≡ true → (a : NextChar c source (encode_utf8_all text))
          → h.unread.text ≡ a.front ++ (a.more ++ rest)
          → (length a.front ≤ left → turns (uri_turn is_uri_char start) n
          (held start limit (left - length a.front) (over a.front h)) ≡ Limit start limit)
          → (left < length a.front) ⊎ (length a.front ≤ left)
          → turns (uri_turn is_uri_char start) (suc n) (held start limit left h) ≡ Limit start limit
      by s₁ a whole more (inl long) = ap (λ r. r >>= goes_on n)
          (over_by left h c source (encode_utf8_all text) rest s₁ a whole a.how long)
      by s₁ a whole more (inr fits) =
          ap (λ r. r >>= goes_on n) (within_by left h c source (encode_utf8_all text) rest s₁ a whole a.how fits)
          ∙ ap (with_front (c ∷ [])) (more fits)

  -- ---- characters of a URI

  abbrev pub decode : ℕ → Here → Result (List ℕ × UriState) Fault
  decode left h = decoded is_uri_char start (room start limit left) h

  pub decode_fails : (left : ℕ) (text source rest : List ℕ) (h : Here) {kind : FaultKind} (w : WrongEscapes kind rest)
      → SpellsText is_uri_char source text → h.unread.text ≡ source ++ rest → first rest ≡ 0x25
      → length source + length (escapes_read w) ≤ left → decode left h ≡ Err (fault_at kind start)
  unfolding pieces
  decode_fails left text source rest h {kind} w s t e m =
      turns_fail (suc (text_len h)) left text source rest h (length (escapes_read w)) (fault_at kind start) s.scalar
      (subst (SpellsBytes is_uri_char source) (sym s.encodes) s.spells) t e
      (λ i g u l. wrong_within start limit w i g u l) m (omega arith)

  pub decode_passes : (left : ℕ) (text source rest : List ℕ) (h : Here) {kind : FaultKind}
      (w : WrongEscapes kind rest) → SpellsText is_uri_char source text → h.unread.text ≡ source ++ rest
      → first rest ≡ 0x25 → left < length source + length (escapes_read w) → decode left h ≡ Limit start limit
  unfolding pieces
  decode_passes left text source rest h w s t e m =
      turns_pass (suc (text_len h)) left text source rest h (length (escapes_read w)) s.scalar
      (subst (SpellsBytes is_uri_char source) (sym s.encodes) s.spells) t e
      (λ i g u l. wrong_over start limit w i g u l) m (omega arith)

  -- characters that are right, and more than the limit
  long_is : (left : ℕ) (g : Here) (source text rest : List ℕ) → g.unread.text ≡ source ++ rest
      → left < length source → (r s : Result (List ℕ × UriState) Fault) → r ≡ Ok (text, free (over source g))
      → Kept start limit left g r s → s ≡ Limit start limit
  long_is left g source text rest t l r s e (same f) = absurd cc
  long_is left g source text rest t l r s e (passed front other y u m) = refl
  long_is left g source text rest t l r s e (kept x front more y u m) =
      let pair : ◌≡◌ {A = List ℕ × UriState} (x, free (over front g)) (text, free (over source g)) = cc in
      let there : over front g ≡ over source g = ap (λ (p : List ℕ × UriState). p.1.here) pair in
      let whole : g.unread.text ≡ source ++ (over source g).unread.text =
      t ∙ ap (λ (k : List ℕ). source ++ k) (sym (over_text source rest g t)) in
      let long = as_long start limit g front source u whole there in
      absurd (omega arith)

  pub decode_long : (left : ℕ) (g : Here) (source text rest : List ℕ) → SpellsText is_uri_char source text
      → g.unread.text ≡ source ++ rest → is_uri_char (first rest) ≡ false → left < length source
      → decode left g ≡ Limit start limit
  decode_long left g source text rest s t n l = long_is left g source text rest t l _ _
      (decoded_is is_uri_char start uri_class text source rest g s t n) (kept_decoded start limit left g)
