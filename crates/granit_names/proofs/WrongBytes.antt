-- What is wrong with the escapes of one character is refused with exactly its kind.
use Rattle.std.proofs.Common.{◌≡◌, ℕ, zero, suc, ◌+◌, ◌-◌, Bool, true, false, List, [], ◌∷◌, ◌++◌, length}
use Rattle.std.proofs.Common.{Option, Some, None, Err, refl, sym, ap, ap₂, ◌∙◌, subst, arith}
use Rattle.std.proofs.Common.{append_assoc, append-nil, length-append}
use Rattle.std.specs.Prelude.{if◌then◌else◌}
use Rattle.std.specs.Str.{encode_utf8_all}
use Rattle.std.proofs.lemmas.Bool.{cond-true, cond-false, and_parts}
use lib.Utf8.{scalar, scalars}
use Rattle.granit_base.specs.Place.{Mark}
use Rattle.granit_error.specs.FaultKind.{FaultKind, InvalidTagEscape, InvalidTagUtf8LeadingByte}
use Rattle.granit_error.specs.FaultKind.{InvalidTagUtf8TrailingByte, InvalidTagUtf8}
use Rattle.granit_lexemes.specs.Basics.{fails_at}
use Rattle.granit_lexemes.specs.Gap.{Each}
use Rattle.granit_lexemes.specs.Here.{Here}
use Rattle.granit_lexemes.specs.Outcome.{fault_at, ◌>>=◌}
use Rattle.granit_lexemes.specs.PlainExtent.{over}
use Rattle.granit_lexemes.specs.TagExtent.{byte_of, Escapes, no_more, one_more, is_escape, is_trailing, Begun}
use Rattle.granit_lexemes.specs.TagExtent.{NoCharacter, WrongEscapes, digits, inside, leading, trailing, no_character}
use Rattle.granit_lexemes.specs.Tags.{is_utf8, bytes_behind, trailing_bytes, spelled_char, escaped_by}
use Rattle.granit_names.proofs.Escaped.{free, byte_is, byte_fails, utf8_means, escaped_char}
use Rattle.granit_names.proofs.Spelling.{rows}
use Rattle.granit_scalars.proofs.QuotedEscapes.{over_text}

-- over further bytes that stand there, with so many left
trailing_to : (start : Mark) (count k : ℕ) (bytes source more rest : List ℕ) (h : Here) → Escapes source more
    → k ≡ length more + count → Each is_trailing more → h.unread.text ≡ source ++ rest
    → trailing_bytes start k bytes (free h) ≡ trailing_bytes start count (bytes ++ more) (free (over source h))
unfolding trailing_bytes
trailing_to start count k bytes source more rest h no_more n p t =
    let m : k ≡ count = omega (arith, n) in
    ap₂ (λ j (l : List ℕ). trailing_bytes start j l (free h)) m (sym (append-nil bytes))
trailing_to start count zero bytes source more rest h (one_more y z e) n p t = absurd (omega arith)
trailing_to start count (suc k) bytes source more rest h (one_more {high} {low} {source = s} {bytes = bs} y z e) n p t =
    let next = over (0x25 ∷ high ∷ low ∷ []) h in
    ap (λ r. r >>= λ x.
    if is_trailing x.0 then trailing_bytes start k (bytes ++ x.0 ∷ []) x.1
    else fails_at InvalidTagUtf8TrailingByte start) (byte_is start h high low (s ++ rest) t y z)
    ∙ cond-true (is_trailing (byte_of high low)) _ _ p.0
    ∙ trailing_to start count k (bytes ++ byte_of high low ∷ []) s bs rest next e (omega (arith, n)) p.1
    (over_text (0x25 ∷ high ∷ low ∷ []) (s ++ rest) h t)
    ∙ ap (λ (l : List ℕ). trailing_bytes start count l (free (over s next)))
    (append_assoc bytes (byte_of high low ∷ []) bs)

-- over the first byte and some further ones, with so many left
lead_runs : (start : Mark) (h : Here) (lead count left : ℕ) (source more row rest : List ℕ)
    → bytes_behind lead ≡ Some count → count ≡ length more + left → Each is_trailing more → row ≡ lead ∷ more
    → Escapes source row → h.unread.text ≡ source ++ rest
    → escaped_char start h
    ≡ (trailing_bytes start left row (free (over source h)) >>= λ x. spelled_char start x.0 x.1)
lead_runs start h lead count left source more row rest w n p f no_more t = absurd cc
lead_runs start h lead count left source more row rest w n p f
    (one_more {high} {low} {source = s} {bytes = bs} y z e) t =
    let same : byte_of high low ≡ lead = cc in
    let behind : bs ≡ more = cc in
    let front = 0x25 ∷ high ∷ low ∷ [] in
    let next = over front h in
    ap (λ r. r >>= λ x. escaped_by start (bytes_behind x.0) x.0 x.1) (byte_is start h high low (s ++ rest) t y z)
    ∙ ap (λ o. escaped_by start o (byte_of high low) (free next)) (ap bytes_behind same ∙ w)
    ∙ ap (λ r. r >>= λ x. spelled_char start x.0 x.1)
    (trailing_to start left count (byte_of high low ∷ []) s bs rest next e
    (n ∙ ap (λ (l : List ℕ). length l + left) (sym behind)) (subst (Each is_trailing) (sym behind) p)
    (over_text front (s ++ rest) h t))

begun_runs : (start : Mark) (h : Here) (count left : ℕ) (source bytes rest : List ℕ) (b : Begun count source bytes)
    → count ≡ length b.more + left → h.unread.text ≡ source ++ rest
    → escaped_char start h
    ≡ (trailing_bytes start left bytes (free (over source h)) >>= λ x. spelled_char start x.0 x.1)
begun_runs start h count left source bytes rest b n t =
    lead_runs start h b.lead count left source b.more bytes rest b.wants n b.each b.are b.escapes t

trailing_missing : (start : Mark) (k : ℕ) (bytes : List ℕ) (h : Here) → is_escape h.unread.text ≡ false
    → trailing_bytes start (suc k) bytes (free h) ≡ Err (fault_at InvalidTagEscape start)
unfolding trailing_bytes
trailing_missing start k bytes h n =
    ap (λ r. r >>= λ x.
    if is_trailing x.0 then trailing_bytes start k (bytes ++ x.0 ∷ []) x.1
    else fails_at InvalidTagUtf8TrailingByte start) (byte_fails start h n)

trailing_strange : (start : Mark) (k b : ℕ) (bytes piece row rest : List ℕ) (h : Here) → row ≡ b ∷ []
    → Escapes piece row → is_trailing b ≡ false → h.unread.text ≡ piece ++ rest
    → trailing_bytes start (suc k) bytes (free h) ≡ Err (fault_at InvalidTagUtf8TrailingByte start)
unfolding trailing_bytes
trailing_strange start k b bytes piece row rest h f no_more n t = absurd cc
trailing_strange start k b bytes piece row rest h f (one_more {high} {low} {source = s} y z e) n t =
    let same : byte_of high low ≡ b = cc in
    ap (λ r. r >>= λ x.
    if is_trailing x.0 then trailing_bytes start k (bytes ++ x.0 ∷ []) x.1
    else fails_at InvalidTagUtf8TrailingByte start) (byte_is start h high low (s ++ rest) t y z)
    ∙ cond-false (is_trailing (byte_of high low)) _ _ (ap is_trailing same ∙ n)

lead_none : (start : Mark) (b : ℕ) (source row rest : List ℕ) (h : Here) → row ≡ b ∷ [] → Escapes source row
    → bytes_behind b ≡ None → h.unread.text ≡ source ++ rest
    → escaped_char start h ≡ Err (fault_at InvalidTagUtf8LeadingByte start)
lead_none start b source row rest h f no_more n t = absurd cc
lead_none start b source row rest h f (one_more {high} {low} {source = s} y z e) n t =
    let same : byte_of high low ≡ b = cc in
    ap (λ r. r >>= λ x. escaped_by start (bytes_behind x.0) x.0 x.1) (byte_is start h high low (s ++ rest) t y z)
    ∙ ap (λ o. escaped_by start o (byte_of high low) (free (over (0x25 ∷ high ∷ low ∷ []) h)))
    (ap bytes_behind same ∙ n)

-- ---- bytes that are no character's

no_length : (l : List ℕ) → length l ≡ 0 → l ≡ []
no_length [] e = refl
no_length (c ∷ l) e = absurd (omega arith)

-- a text whose bytes begin with a first byte and go as far as that wants is one character
one_character : (count : ℕ) (source bytes text : List ℕ) (b : Begun count source bytes) → length bytes ≡ count + 1
    → NoCharacter bytes → scalars text ≡ true → encode_utf8_all text ≡ bytes → ⊥
one_character count source bytes [] b n none s e = let f = e ∙ b.are in cc
one_character count source bytes (c ∷ text) b n none s e =
    let ss = and_parts (scalar c) (scalars text) s in
    let r = rows c ss.0 in
    let more = encode_utf8_all text in
    let joined : r.lead ∷ (r.more ++ more) ≡ b.lead ∷ b.more =
    ap (λ (l : List ℕ). l ++ more) (sym r.is) ∙ e ∙ b.are in
    let lead : r.lead ≡ b.lead = cc in
    let behind : r.more ++ more ≡ b.more = cc in
    let wants : ◌≡◌ {A = Option ℕ} (Some (length r.more)) (Some count) =
    sym r.wants ∙ ap bytes_behind lead ∙ b.wants in
    let counted : length r.more ≡ count = cc in
    let whole : length bytes ≡ length (b.lead ∷ b.more) = ap (length {A = ℕ}) b.are in
    let parts : length r.more + length more ≡ length b.more =
    sym (length-append r.more more) ∙ ap (length {A = ℕ}) behind in
    let left : more ≡ [] = no_length more (omega (arith, n, counted, whole, parts)) in
    none c ss.0
    (r.is ∙ ap₂ (λ k (l : List ℕ). k ∷ l) lead
    (sym (append-nil r.more) ∙ ap (λ (l : List ℕ). r.more ++ l) (sym left) ∙ behind) ∙ sym b.are)

pub not_utf8 : (count : ℕ) (source bytes : List ℕ) (b : Begun count source bytes) → length bytes ≡ count + 1
    → NoCharacter bytes → (v : Bool) → is_utf8 bytes ≡ v → v ≡ false
not_utf8 count source bytes b n none false y = refl
not_utf8 count source bytes b n none true y =
    let u = utf8_means bytes y in absurd (one_character count source bytes u.0 b n none u.1.0 u.1.1)

spells_none : (start : Mark) (count : ℕ) (source bytes : List ℕ) (h : Here) (b : Begun count source bytes)
    → length bytes ≡ count + 1 → NoCharacter bytes
    → (trailing_bytes start 0 bytes (free h) >>= λ x. spelled_char start x.0 x.1)
    ≡ Err (fault_at InvalidTagUtf8 start)
unfolding trailing_bytes
spells_none start count source bytes h b n none =
    cond-false (is_utf8 bytes) _ _ (not_utf8 count source bytes b n none (is_utf8 bytes) refl)

-- ---- the law

pub wrong_is : (start : Mark) {kind : FaultKind} {text : List ℕ} → WrongEscapes kind text → (h : Here)
    → h.unread.text ≡ text → escaped_char start h ≡ Err (fault_at kind start)
wrong_is start (digits n) h t =
    ap (λ r. r >>= λ x. escaped_by start (bytes_behind x.0) x.0 x.1) (byte_fails start h (ap is_escape t ∙ n))
wrong_is start (inside count source bytes rest b l n) h t =
    let k = count - length b.more - 1 in
    let whole : length bytes ≡ length (b.lead ∷ b.more) = ap (length {A = ℕ}) b.are in
    let some : count ≡ length b.more + suc k = omega (arith, l, whole) in
    begun_runs start h count (suc k) source bytes rest b some t
    ∙ ap (λ r. r >>= λ x. spelled_char start x.0 x.1)
    (trailing_missing start k bytes (over source h) (ap is_escape (over_text source rest h t) ∙ n))
wrong_is start (leading b source rest e n) h t = lead_none start b source (b ∷ []) rest h refl e n t
wrong_is start (trailing count b source piece bytes rest begun l e n) h t =
    let k = count - length begun.more - 1 in
    let whole : length bytes ≡ length (begun.lead ∷ begun.more) = ap (length {A = ℕ}) begun.are in
    let some : count ≡ length begun.more + suc k = omega (arith, l, whole) in
    begun_runs start h count (suc k) source bytes (piece ++ rest) begun some t
    ∙ ap (λ r. r >>= λ x. spelled_char start x.0 x.1)
    (trailing_strange start k b bytes piece (b ∷ []) rest (over source h) refl e n
    (over_text source (piece ++ rest) h t))
wrong_is start (no_character count source bytes rest b n none) h t =
    let whole : length bytes ≡ length (b.lead ∷ b.more) = ap (length {A = ℕ}) b.are in
    let all : count ≡ length b.more + 0 = omega (arith, n, whole) in
    begun_runs start h count 0 source bytes rest b all t ∙ spells_none start count source bytes (over source h) b n none
