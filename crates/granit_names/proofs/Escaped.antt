-- The escapes of one character: what is read is there, and what is there is read.
use Rattle.std.proofs.Common.{◌≡◌, ◌≢◌, ℕ, zero, suc, ◌<◌, ◌==◌, Bool, true, false, ◌&&◌, List, [], ◌∷◌, ◌++◌, length}
use Rattle.std.proofs.Common.{Option, Some, None, Result, Ok, refl, sym, ap, ap₂, ◌∙◌, subst, arith, append_assoc}
use Rattle.std.proofs.Common.{append-nil}
use Rattle.std.specs.Prelude.{slice_index, if◌then◌else◌}
use Rattle.std.proofs.lemmas.Bool.{cond-true, cond-false, and_parts}
use Rattle.std.proofs.lemmas.Bool.Decides.{nat_tests}
use Rattle.std.proofs.lemmas.Str.{chars-encodes, IsUtf8-from_is_utf8, is_utf8-from_IsUtf8, scalars-chars, encodes-chars}
use Rattle.std.specs.Str.{IsUtf8, chars}
use Rattle.std.specs.Str as text
use lib.Utf8.{scalar, encode}
use Rattle.granit_base.specs.Classes.{is_hex}
use Rattle.granit_base.specs.Place.{Mark}
use Rattle.granit_error.specs.FaultKind.{FaultKind, InvalidTagEscape, InvalidTagUtf8LeadingByte}
use Rattle.granit_error.specs.FaultKind.{InvalidTagUtf8TrailingByte, InvalidTagUtf8}
use Rattle.granit_lexemes.specs.Gap.{Each}
use Rattle.granit_lexemes.specs.Here.{Here}
use Rattle.granit_lexemes.specs.Moves.{steps}
use Rattle.granit_lexemes.specs.Outcome.{Fault, ◌>>=◌}
use Rattle.granit_lexemes.specs.PlainExtent.{over}
use Rattle.granit_lexemes.specs.Basics.{fails_at}
use Rattle.granit_lexemes.proofs.DecodingLemmas.{no_hex_nul}
use Rattle.granit_scalars.proofs.QuotedEscapes.{over_text}
use Rattle.granit_scalars.proofs.Stepping.{over-append}
use Rattle.granit_lexemes.specs.Tags.{UriState, is_utf8, escaped_byte, bytes_behind, trailing_bytes, spelled_char}
use Rattle.granit_lexemes.specs.Tags.{escaped_by}
use Rattle.granit_lexemes.specs.TagExtent.{byte_of, Escapes, no_more, one_more, is_escape, is_trailing, Begun}
use Rattle.granit_lexemes.specs.TagExtent.{WrongEscapes, digits, inside, leading, trailing, no_character, SpellsText}
use Rattle.granit_names.proofs.Spelling.{escapes_spell, escapes-append, rows}

-- a reader with no limit
abbrev pub free : Here → UriState
free h = record { here = h; budget = None }

-- ---- one byte

abbrev pub EscapeAt : List ℕ → Type 0
EscapeAt text = (high : ℕ) × (low : ℕ) × (rest : List ℕ) × (text ≡ 0x25 ∷ high ∷ low ∷ rest) × (is_hex high ≡ true)
    × (is_hex low ≡ true)

pub escape_parts : (text : List ℕ) → is_escape text ≡ true → EscapeAt text
escape_parts [] e = absurd cc
escape_parts (c ∷ []) e = absurd (let n = no_hex_nul in let p = and_parts ((c == 0x25) && is_hex 0) (is_hex 0)
    e in let q = p.1 in cc)
escape_parts (c ∷ a ∷ []) e = absurd (let n = no_hex_nul in let p = and_parts ((c == 0x25) && is_hex a) (is_hex 0)
    e in let q = p.1 in cc)
escape_parts (c ∷ a ∷ b ∷ t) e =
    let p = and_parts ((c == 0x25) && is_hex a) (is_hex b) e in
    let q = and_parts (c == 0x25) (is_hex a) p.0 in
    let r = q.0 in
    let is : c ≡ 0x25 = grind (arith, nat_tests) in
    (a, b, t, ap (λ k. k ∷ a ∷ b ∷ t) is, q.1, p.1)

pub byte_is : (start : Mark) (h : Here) (high low : ℕ) (rest : List ℕ) → h.unread.text ≡ 0x25 ∷ high ∷ low ∷ rest
    → is_hex high ≡ true → is_hex low ≡ true
    → escaped_byte start (free h) ≡ Ok (byte_of high low, free (over (0x25 ∷ high ∷ low ∷ []) h))
unfolding escaped_byte steps
byte_is start h high low rest e p q =
    cond-true (is_escape h.unread.text) _ _ (ap is_escape e ∙ ap₂ (λ a b. a && b) p q)
    ∙ ap (λ (l : List ℕ). Ok (byte_of (slice_index l 1) (slice_index l 2), free (over (0x25 ∷ high ∷ low ∷ []) h))) e

pub byte_fails : (start : Mark) (h : Here) → is_escape h.unread.text ≡ false
    → escaped_byte start (free h) ≡ fails_at InvalidTagEscape start
unfolding escaped_byte
byte_fails start h n = cond-false (is_escape h.unread.text) _ _ n

-- an escape stands here and is read, or none does
pub data Byte (start : Mark) (h : Here) : Result (ℕ × UriState) Fault → Type 0 where
  read : (source : List ℕ) (b : ℕ) → Escapes source (b ∷ []) → h.unread.text ≡ source ++ (over source h).unread.text
      → Byte start h (Ok (b, free (over source h)))
  none : is_escape h.unread.text ≡ false → Byte start h (fails_at InvalidTagEscape start)

byte_if : (start : Mark) (h : Here) (v : Bool) → is_escape h.unread.text ≡ v
    → Byte start h (escaped_byte start (free h))
byte_if start h true y =
    let p = escape_parts h.unread.text y in
    let front = 0x25 ∷ p.0 ∷ p.1 ∷ [] in
    let e : h.unread.text ≡ front ++ p.2 = p.3 in
    subst (Byte start h) (sym (byte_is start h p.0 p.1 p.2 p.3 p.4 p.5))
    (read front (byte_of p.0 p.1) (one_more p.4 p.5 no_more)
    (e ∙ ap (λ (l : List ℕ). front ++ l) (sym (over_text front p.2 h e))))
byte_if start h false n = subst (Byte start h) (sym (byte_fails start h n)) (none n)

pub byte : (start : Mark) (h : Here) → Byte start h (escaped_byte start (free h))
byte start h = byte_if start h (is_escape h.unread.text) refl

-- ---- the further bytes

pub data TrailingRead (start : Mark) (count : ℕ) (bytes : List ℕ) (h : Here) : Result (List ℕ × UriState) Fault
    → Type 0 where
  all_there : {all : List ℕ} {after : UriState} (source more : List ℕ) → Escapes source more → length more ≡ count
      → Each is_trailing more → h.unread.text ≡ source ++ (over source h).unread.text
      → all ≡ bytes ++ more → after ≡ free (over source h) → TrailingRead start count bytes h (Ok (all, after))
  missing : (source more rest : List ℕ) → Escapes source more → length more < count → Each is_trailing more
      → h.unread.text ≡ source ++ rest → is_escape rest ≡ false
      → TrailingRead start count bytes h (fails_at InvalidTagEscape start)
  strange : (source more piece rest : List ℕ) (b : ℕ) → Escapes source more → length more < count
      → Each is_trailing more → Escapes piece (b ∷ []) → is_trailing b ≡ false
      → h.unread.text ≡ source ++ (piece ++ rest)
      → TrailingRead start count bytes h (fails_at InvalidTagUtf8TrailingByte start)

-- a byte in front of what is read behind it
one_before : (start : Mark) (count b : ℕ) (bytes source : List ℕ) (h : Here) → Escapes source (b ∷ [])
    → h.unread.text ≡ source ++ (over source h).unread.text → is_trailing b ≡ true
    → (r : Result (List ℕ × UriState) Fault) → TrailingRead start count (bytes ++ b ∷ []) (over source h) r
    → TrailingRead start (suc count) bytes h r
one_before start count b bytes source h e w y r (all_there piece more f n p t a l) =
    all_there (source ++ piece) (b ∷ more) (escapes-append piece more e f) (ap suc n) (y, p)
    (w ∙ ap (λ (k : List ℕ). source ++ k) t ∙ sym (append_assoc source piece _)
    ∙ ap (λ (g : Here). (source ++ piece) ++ g.unread.text) (sym (over-append source piece h)))
    (a ∙ append_assoc bytes (b ∷ []) more) (l ∙ ap free (sym (over-append source piece h)))
one_before start count b bytes source h e w y r (missing piece more rest f n p t s) =
    missing (source ++ piece) (b ∷ more) rest (escapes-append piece more e f) (omega arith) (y, p)
    (w ∙ ap (λ (k : List ℕ). source ++ k) t ∙ sym (append_assoc source piece rest)) s
one_before start count b bytes source h e w y r (strange piece more last rest d f n p g s t) =
    strange (source ++ piece) (b ∷ more) last rest d (escapes-append piece more e f) (omega arith) (y, p) g s
    (w ∙ ap (λ (k : List ℕ). source ++ k) t ∙ sym (append_assoc source piece (last ++ rest)))

trail_if : (start : Mark) (count b : ℕ) (bytes source : List ℕ) (h : Here) → Escapes source (b ∷ [])
    → h.unread.text ≡ source ++ (over source h).unread.text
    → (r : Result (List ℕ × UriState) Fault) → TrailingRead start count (bytes ++ b ∷ []) (over source h) r
    → (v : Bool) → is_trailing b ≡ v → TrailingRead start (suc count) bytes h
    (if v then r else fails_at InvalidTagUtf8TrailingByte start)
trail_if start count b bytes source h e w r t true y = one_before start count b bytes source h e w y r t
trail_if start count b bytes source h e w r t false n = strange [] [] source (over source h).unread.text b no_more
    (omega arith) tt e n w

trail_on : (start : Mark) (count : ℕ) (bytes : List ℕ) (h : Here)
    → ((all : List ℕ) (g : Here) → TrailingRead start count all g (trailing_bytes start count all (free g)))
    → (r : Result (ℕ × UriState) Fault) → Byte start h r
    → TrailingRead start (suc count) bytes h (r >>= λ x. if is_trailing x.0 then trailing_bytes start count
    (bytes ++ x.0 ∷ []) x.1 else fails_at InvalidTagUtf8TrailingByte start)
trail_on start count bytes h more r (read source b e w) = trail_if start count b bytes source h e w _
    (more (bytes ++ b ∷ []) (over source h)) (is_trailing b) refl
trail_on start count bytes h more r (none n) = missing [] [] h.unread.text no_more (omega arith) tt refl n

pub trails : (start : Mark) (count : ℕ) (bytes : List ℕ) (h : Here)
    → TrailingRead start count bytes h (trailing_bytes start count bytes (free h))
unfolding trailing_bytes
trails start zero bytes h = all_there [] [] no_more refl tt refl (sym (append-nil bytes)) refl
trails start (suc count) bytes h = trail_on start count bytes h (λ all g. trails start count all g)
    (escaped_byte start (free h)) (byte start h)

-- ---- a character

pub utf8_is : (bytes : List ℕ) → IsUtf8 bytes → is_utf8 bytes ≡ true
unfolding text.is_utf8
utf8_is bytes u = is_utf8-from_IsUtf8 bytes u

pub utf8_means : (bytes : List ℕ) → is_utf8 bytes ≡ true → IsUtf8 bytes
unfolding text.is_utf8
utf8_means bytes e = IsUtf8-from_is_utf8 bytes e

pub char_utf8 : (c : ℕ) (bytes : List ℕ) → scalar c ≡ true → encode c ≡ bytes → IsUtf8 bytes
char_utf8 c bytes s e = (c ∷ [], (ap (λ b. b && true) s, append-nil (encode c) ∙ e))

-- an escaped character is read, or what is wrong with its escapes
pub data Character (test : ℕ → Bool) (start : Mark) (h : Here) : Result (Option (List ℕ) × UriState) Fault
    → Type 0 where
  spelled : (source text : List ℕ) → source ≢ [] → SpellsText test source text
      → h.unread.text ≡ source ++ (over source h).unread.text
      → Character test start h (Ok (Some text, free (over source h)))
  wrong : {kind : FaultKind} → WrongEscapes kind h.unread.text → Character test start h (fails_at kind start)

some_escapes : (source : List ℕ) (b : ℕ) (bytes row : List ℕ) → row ≡ b ∷ bytes → Escapes source row → source ≢ []
some_escapes source b bytes row e no_more = λ z. cc
some_escapes source b bytes row e (one_more p q f) = λ z. cc

spell_if : (test : ℕ → Bool) (start : Mark) (h : Here) (lead count : ℕ) (more source : List ℕ)
    → Escapes source (lead ∷ more) → bytes_behind lead ≡ Some count → length more ≡ count → Each is_trailing more
    → h.unread.text ≡ source ++ (over source h).unread.text → (v : Bool) → is_utf8 (lead ∷ more) ≡ v
    → Character test start h (if v then Ok (Some (chars (lead ∷ more)), free (over source h)) else fails_at
    InvalidTagUtf8 start)
spell_if test start h lead count more source e w n p t true y =
    let u = utf8_means (lead ∷ more) y in
    spelled source (chars (lead ∷ more)) (some_escapes source lead more (lead ∷ more) refl e)
    (record {
      bytes = lead ∷ more;
      spells = escapes_spell test e;
      scalar = scalars-chars (lead ∷ more) u;
      encodes =
          encodes-chars (lead ∷ more) u;
    }) t
spell_if test start h lead count more source e w n p t false y =
    wrong (subst (WrongEscapes InvalidTagUtf8) (sym t)
    (no_character count source (lead ∷ more) (over source h).unread.text
    (record { lead = lead; more = more; are = refl; escapes = e; wants = w; each = p }) (omega (arith, n))
    (λ c s f. let z = utf8_is (lead ∷ more) (char_utf8 c (lead ∷ more) s f) in cc)))

module _ (test : ℕ → Bool) (start : Mark) (h : Here) (lead : ℕ) (front : List ℕ) (e : Escapes front (lead ∷ []))
    (t : h.unread.text ≡ front ++ (over front h).unread.text) where
  behind_is : (source rest : List ℕ) → (over front h).unread.text ≡ source ++ rest
      → h.unread.text ≡ (front ++ source) ++ rest
  behind_is source rest f = t ∙ ap (λ (l : List ℕ). front ++ l) f ∙ sym (append_assoc front source rest)

  begun : (count : ℕ) (source more : List ℕ) → bytes_behind lead ≡ Some count → Escapes source more
      → Each is_trailing more → Begun count (front ++ source) (lead ∷ more)
  begun count source more w f p = record {
    lead = lead;
    more = more;
    are = refl;
    escapes = escapes-append source more e
        f;
    wants = w;
    each = p;
  }

  behind_lead : (count : ℕ) → bytes_behind lead ≡ Some count → (r : Result (List ℕ × UriState) Fault)
      → TrailingRead start count (lead ∷ []) (over front h) r
      → Character test start h (r >>= λ x. spelled_char start x.0 x.1)
  behind_lead count w r (all_there {after} source more f n p s a l) =
      subst (λ (k : List ℕ). Character test start h (spelled_char start k after)) (sym a)
      (subst (λ (g : UriState). Character test start h (spelled_char start (lead ∷ more) g))
      (sym (l ∙ ap free (sym (over-append front source h))))
      (spell_if test start h lead count more (front ++ source) (escapes-append source more e f) w n p
      (behind_is source (over source (over front h)).unread.text s
      ∙ ap (λ (g : Here). (front ++ source) ++ g.unread.text) (sym (over-append front source h)))
      (is_utf8 (lead ∷ more)) refl))
  behind_lead count w r (missing source more rest f n p s z) =
      wrong (subst (WrongEscapes InvalidTagEscape) (sym (behind_is source rest s))
      (inside count (front ++ source) (lead ∷ more) rest (begun count source more w f p) (omega arith) z))
  behind_lead count w r (strange source more piece rest b f n p g z s) =
      wrong (subst (WrongEscapes InvalidTagUtf8TrailingByte) (sym (behind_is source (piece ++ rest) s))
      (trailing count b (front ++ source) piece (lead ∷ more) rest (begun count source more w f p) (omega arith) g
      z))

  lead_by : (o : Option ℕ) → bytes_behind lead ≡ o
      → Character test start h (escaped_by start o lead (free (over front h)))
  lead_by None w = wrong (subst (WrongEscapes InvalidTagUtf8LeadingByte) (sym t)
      (leading lead front (over front h).unread.text e w))
  lead_by (Some count) w = behind_lead count w (trailing_bytes start count (lead ∷ []) (free (over front h)))
      (trails start count (lead ∷ []) (over front h))

-- the escapes of a character from here on
abbrev pub escaped_char : Mark → Here → Result (Option (List ℕ) × UriState) Fault
escaped_char start h = escaped_byte start (free h) >>= λ x. escaped_by start (bytes_behind x.0) x.0 x.1

char_by : (test : ℕ → Bool) (start : Mark) (h : Here) (r : Result (ℕ × UriState) Fault) → Byte start h r
    → Character test start h (r >>= λ x. escaped_by start (bytes_behind x.0) x.0 x.1)
char_by test start h r (read source b e t) = lead_by test start h b source e t (bytes_behind b) refl
char_by test start h r (none n) = wrong (digits n)

pub character : (test : ℕ → Bool) (start : Mark) (h : Here) → Character test start h (escaped_char start h)
character test start h = char_by test start h (escaped_byte start (free h)) (byte start h)

-- ---- a character that stands there is read

trailing_is : (start : Mark) (count : ℕ) (bytes source more rest : List ℕ) (h : Here) → Escapes source more
    → length more ≡ count → Each is_trailing more → h.unread.text ≡ source ++ rest
    → trailing_bytes start count bytes (free h) ≡ Ok (bytes ++ more, free (over source h))
unfolding trailing_bytes
trailing_is start zero bytes source more rest h no_more n p t = ap (λ (l : List ℕ). Ok (l, free h))
    (sym (append-nil bytes))
trailing_is start zero bytes source more rest h (one_more y z e) n p t = absurd (omega arith)
trailing_is start (suc count) bytes source more rest h no_more n p t = absurd (omega arith)
trailing_is start (suc count) bytes source more rest h (one_more {high} {low} {source = s} {bytes = bs} y z e) n p t =
    ap (λ r. r >>= λ x. if is_trailing x.0 then trailing_bytes start count (bytes ++ x.0 ∷ []) x.1 else fails_at
    InvalidTagUtf8TrailingByte start) (byte_is start h high low (s ++ rest) t y z)
    ∙ cond-true (is_trailing (byte_of high low)) _ _ p.0
    ∙ trailing_is start count (bytes ++ byte_of high low ∷ []) s bs rest (over (0x25 ∷ high ∷ low ∷ []) h) e
    (omega (arith, n)) p.1 (over_text (0x25 ∷ high ∷ low ∷ []) (s ++ rest) h t)
    ∙ ap (λ (l : List ℕ). Ok (l, free (over (0x25 ∷ high ∷ low ∷ s) h))) (append_assoc bytes (byte_of high low ∷ []) bs)

pub chars_one : (c : ℕ) (bytes : List ℕ) → scalar c ≡ true → encode c ≡ bytes → chars bytes ≡ c ∷ []
chars_one c bytes s e = ap chars (sym (append-nil (encode c) ∙ e)) ∙ chars-encodes (c ∷ []) (ap (λ b. b && true) s)

char_is : (start : Mark) (h : Here) (c lead : ℕ) (source more row rest : List ℕ) → scalar c ≡ true
    → encode c ≡ lead ∷ more → bytes_behind lead ≡ Some (length more) → Each is_trailing more
    → row ≡ lead ∷ more → Escapes source row → h.unread.text ≡ source ++ rest
    → escaped_char start h ≡ Ok (Some (c ∷ []), free (over source h))
char_is start h c lead source more row rest s f w p q no_more t = absurd cc
char_is start h c lead source more row rest s f w p q (one_more {high} {low} {source = more_source} {bytes = bs} y z e)
    t =
    let same : byte_of high low ≡ lead = cc in
    let behind : bs ≡ more = cc in
    let n : length bs ≡ length more = ap (length {A = ℕ}) behind in
    let utf8 = utf8_is (lead ∷ more) (char_utf8 c (lead ∷ more) s f) in
    ap (λ r. r >>= λ x. escaped_by start (bytes_behind x.0) x.0 x.1)
    (byte_is start h high low (more_source ++ rest) t y z)
    ∙ ap (λ b. escaped_by start (bytes_behind b) b (free (over (0x25 ∷ high ∷ low ∷ []) h))) same
    ∙ ap (λ o. escaped_by start o lead (free (over (0x25 ∷ high ∷ low ∷ []) h))) w
    ∙ ap (λ r. r >>= λ x. spelled_char start x.0 x.1)
    (trailing_is start (length more) (lead ∷ []) more_source bs rest (over (0x25 ∷ high ∷ low ∷ []) h) e n
    (subst (Each is_trailing) (sym behind) p) (over_text (0x25 ∷ high ∷ low ∷ []) (more_source ++ rest) h t))
    ∙ ap (λ (l : List ℕ). spelled_char start (lead ∷ l) (free (over (0x25 ∷ high ∷ low ∷ more_source) h))) behind
    ∙ cond-true (is_utf8 (lead ∷ more)) _ _ utf8
    ∙ ap (λ (l : List ℕ). Ok (Some l, free (over (0x25 ∷ high ∷ low ∷ more_source) h))) (chars_one c (lead ∷ more) s f)

-- the escapes of a character's bytes give that character
pub escaped_is : (start : Mark) (h : Here) (c : ℕ) (source rest : List ℕ) → scalar c ≡ true → Escapes source (encode c)
    → h.unread.text ≡ source ++ rest → escaped_char start h ≡ Ok (Some (c ∷ []), free (over source h))
escaped_is start h c source rest s e t = let r = rows c s in char_is start h c r.lead source r.more (encode c) rest s
    r.is r.wants r.each r.is e t
