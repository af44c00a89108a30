-- The characters of a class with their escapes decoded: what is read is there, and what is there is read.
use Rattle.std.proofs.Common.{◌≡◌, ◌≢◌, ℕ, zero, suc, ◌+◌, ◌<◌, ◌≤◌, ◌==◌, Bool, true, false, not, List, [], ◌∷◌, ◌++◌}
use Rattle.std.proofs.Common.{length, Option, Some, None, Result, Ok, Err, refl, sym, ap, ◌∙◌, subst, arith}
use Rattle.std.proofs.Common.{append_assoc, length-append, ◌⊎◌, inl, inr}
use Rattle.std.specs.Str.{encode_utf8_all}
use Rattle.std.proofs.lemmas.Bool.{cond-true, cond-false, and_parts, cases_lt}
use Rattle.std.proofs.lemmas.Bool.Decides.{nat_tests}
use Rattle.std.proofs.lemmas.Str.{encode_ascii}
use lib.Utf8.{scalar, scalars, encode}
use Rattle.granit_base.specs.Place.{Mark, first}
use Rattle.granit_error.specs.FaultKind.{FaultKind}
use Rattle.granit_lexemes.specs.Here.{Here, text_len, next_char, step}
use Rattle.granit_lexemes.specs.Outcome.{Fault, ◌>>=◌}
use Rattle.granit_lexemes.specs.PlainExtent.{over}
use Rattle.granit_lexemes.specs.Basics.{fails_at}
use Rattle.granit_lexemes.specs.Pieces.{with_front, then_more, turns, pieces}
use Rattle.granit_scalars.proofs.QuotedEscapes.{over_text}
use Rattle.granit_scalars.proofs.Stepping.{seen, over-append}
use Rattle.granit_lexemes.specs.Tags.{UriState, uri_turn, decoded}
use Rattle.granit_lexemes.specs.TagExtent.{byte_of, SpellsBytes, nothing, itself, percent, SpellsText, Escapes, no_more}
use Rattle.granit_lexemes.specs.TagExtent.{one_more, WrongEscapes}
use Rattle.granit_names.proofs.Spelling.{IsUriClass, text-append, empty_spells, one_text, part, Parted, AreHigh, rows}
use Rattle.granit_names.proofs.Escaped.{free, escaped_char, Character, spelled, wrong, character, escaped_is}

-- ---- a turn

module _ (test : ℕ → Bool) (start : Mark) (k : IsUriClass test) where
  -- the end, a character, or a wrong escape
  data Turned (h : Here) : Result (Option (List ℕ) × UriState) Fault → Type 0 where
    ended : test (next_char h) ≡ false → Turned h (Ok (None, free h))
    took : (source text : List ℕ) → source ≢ [] → SpellsText test source text
        → h.unread.text ≡ source ++ (over source h).unread.text → Turned h (Ok (Some text, free (over source h)))
    strange : {kind : FaultKind} → next_char h ≡ 0x25 → WrongEscapes kind h.unread.text → Turned h (fails_at kind start)

  ends_turn : (h : Here) → test (next_char h) ≡ false → uri_turn test start (free h) ≡ Ok (None, free h)
  unfolding uri_turn
  ends_turn h n = cond-true (not (test (next_char h))) _ _ (ap not n)

  escape_turn : (h : Here) → next_char h ≡ 0x25 → uri_turn test start (free h) ≡ escaped_char start h
  unfolding uri_turn
  escape_turn h e = cond-false (not (test (next_char h))) _ _ (ap (λ c. not (test c)) e ∙ ap not k.sign)
      ∙ cond-true (next_char h == 0x25) _ _ (ap (λ c. c == 0x25) e)

  char_turn : (h : Here) → test (next_char h) ≡ true → (next_char h == 0x25) ≡ false
      → uri_turn test start (free h) ≡ Ok (Some (next_char h ∷ []), free (step h))
  unfolding uri_turn
  char_turn h y n = cond-false (not (test (next_char h))) _ _ (ap not y) ∙ cond-false (next_char h == 0x25) _ _ n

  of_character : (h : Here) → next_char h ≡ 0x25 → (r : Result (Option (List ℕ) × UriState) Fault)
      → Character test start h r → Turned h r
  of_character h e r (spelled source text some s t) = took source text some s t
  of_character h e r (wrong w) = strange e w

  turned_if : (h : Here) (a b : Bool) → test (next_char h) ≡ a → (next_char h == 0x25) ≡ b
      → Turned h (uri_turn test start (free h))
  turned_if h false b p q = subst (Turned h) (sym (ends_turn h p)) (ended p)
  turned_if h true true p q =
      let is : next_char h ≡ 0x25 = grind (arith, nat_tests) in
      subst (Turned h) (sym (escape_turn h is)) (of_character h is (escaped_char start h) (character test start h))
  turned_if h true false p q =
      let s = seen test h k.nul p in
      subst (Turned h) (sym (char_turn h p q))
      (took (next_char h ∷ []) (next_char h ∷ []) (λ z. cc) (one_text (next_char h) k p q) s.is)

  turned : (h : Here) → Turned h (uri_turn test start (free h))
  turned h = turned_if h (test (next_char h)) (next_char h == 0x25) refl refl

  -- ---- all turns

  -- characters that spell a text stand here, all of them, or such and then a wrong escape
  pub data Decodes (h : Here) : Result (List ℕ × UriState) Fault → Type 0 where
    read : {after : UriState} (source text : List ℕ) → SpellsText test source text
        → h.unread.text ≡ source ++ (over source h).unread.text → test (next_char (over source h)) ≡ false
        → after ≡ free (over source h) → Decodes h (Ok (text, after))
    bad : {kind : FaultKind} (source text rest : List ℕ) → SpellsText test source text → h.unread.text ≡ source ++ rest
        → first rest ≡ 0x25 → WrongEscapes kind rest → Decodes h (fails_at kind start)

  one_before : (h : Here) (front text : List ℕ) → SpellsText test front text
      → h.unread.text ≡ front ++ (over front h).unread.text → (r : Result (List ℕ × UriState) Fault)
      → Decodes (over front h) r → Decodes h (with_front text r)
  one_before h front text s t r (read source more p u n l) =
      let g = sym (over-append front source h) in
      read (front ++ source) (text ++ more) (text-append s p)
      (t ∙ ap (λ (w : List ℕ). front ++ w) u ∙ sym (append_assoc front source _)
      ∙ ap (λ (i : Here). (front ++ source) ++ i.unread.text) g)
      (ap (λ (i : Here). test (next_char i)) (sym g) ∙ n) (l ∙ ap free g)
  one_before h front text s t r (bad source more rest p u f w) =
      bad (front ++ source) (text ++ more) rest (text-append s p)
      (t ∙ ap (λ (w : List ℕ). front ++ w) u ∙ sym (append_assoc front source rest)) f w

  some_length : (source : List ℕ) → source ≢ [] → 0 < length source
  some_length [] n = absurd (n refl)
  some_length (c ∷ source) n = omega arith

  shorter : (h : Here) (source rest : List ℕ) (n : ℕ) → source ≢ [] → h.unread.text ≡ source ++ rest
      → text_len h < suc n → length rest < n
  shorter h source rest n some t l =
      let m = some_length source some in
      let e : text_len h ≡ length source + length rest = ap (length {A = ℕ}) t ∙ length-append source rest in
      omega arith

  turn_decodes : (n : ℕ) (h : Here) → text_len h < suc n
      → ((g : Here) → text_len g < n → Decodes g (turns (uri_turn test start) n (free g)))
      → (r : Result (Option (List ℕ) × UriState) Fault) → Turned h r
      → Decodes h (r >>= λ x. then_more (turns (uri_turn test start) n) x.0 x.1)
  turn_decodes n h l more r (ended e) = read [] [] (empty_spells test) refl e refl
  turn_decodes n h l more r (took source text some s t) = one_before h source text s t _
      (more (over source h) (shorter h source (over source h).unread.text n some t l))
  turn_decodes n h l more r (strange e w) = bad [] [] h.unread.text (empty_spells test) refl e w

  turns_decode : (n : ℕ) (h : Here) → text_len h < n → Decodes h (turns (uri_turn test start) n (free h))
  unfolding turns
  turns_decode zero h l = absurd (omega arith)
  turns_decode (suc n) h l = turn_decodes n h l (λ g m. turns_decode n g m) (uri_turn test start (free h)) (turned h)

  pub decodes : (h : Here) → Decodes h (decoded test start None h)
  unfolding pieces
  decodes h = turns_decode (suc (text_len h)) h (omega arith)

  -- ---- what stands there is read

  -- characters in front that one turn takes, and what is spelled behind them
  record Taken (h : Here) (c : ℕ) (source bytes : List ℕ) : Type 0 where
    front : List ℕ
    more : List ℕ
    whole : source ≡ front ++ more
    some : front ≢ []
    spells : SpellsBytes test more bytes
    turn : (rest : List ℕ) → h.unread.text ≡ source ++ rest
        → uri_turn test start (free h) ≡ Ok (Some (c ∷ []), free (over front h))

  escaped_turn : (h : Here) (c : ℕ) (front rest : List ℕ) → scalar c ≡ true → Escapes front (encode c) → front ≢ []
      → next_char h ≡ 0x25 → h.unread.text ≡ front ++ rest
      → uri_turn test start (free h) ≡ Ok (Some (c ∷ []), free (over front h))
  escaped_turn h c front rest s e some f t = escape_turn h f ∙ escaped_is start h c front rest s e t

  begins_escape : (front rest row : List ℕ) → Escapes front row → row ≢ [] → first (front ++ rest) ≡ 0x25
  begins_escape front rest row no_more n = absurd (n refl)
  begins_escape front rest row (one_more y z e) n = refl

  some_front : (front row : List ℕ) → Escapes front row → row ≢ [] → front ≢ []
  some_front front row no_more n = absurd (n refl)
  some_front front row (one_more y z e) n = λ z. cc

  some_row : (c : ℕ) → scalar c ≡ true → encode c ≢ []
  some_row c s = let r = rows c s in let e = r.is in λ z. cc

  by_escapes : (h : Here) (c : ℕ) (source bytes : List ℕ) → scalar c ≡ true → Parted test source (encode c) bytes
      → Taken h c source bytes
  by_escapes h c source bytes s p = record {
    front = p.front;
    more = p.rest;
    whole = p.whole;
    some = some_front p.front (encode c) p.escapes (some_row c s);
    spells = p.spells;
    turn = λ rest t.
        let e : h.unread.text ≡ p.front ++ (p.rest ++ rest) = t ∙ ap (λ (l : List ℕ). l ++ rest) p.whole
        ∙ append_assoc p.front p.rest rest in
        escaped_turn h c p.front (p.rest ++ rest) s p.escapes (some_front p.front (encode c) p.escapes (some_row c s))
        (ap first e ∙ begins_escape p.front (p.rest ++ rest) (encode c) p.escapes (some_row c s)) e;
  }

  high_row : (c : ℕ) (s : scalar c ≡ true) → 128 ≤ c → AreHigh (encode c)
  high_row c s l = let r = rows c s in subst AreHigh (sym r.is) (r.high l)

  low_taken : (h : Here) (c : ℕ) (source bytes row : List ℕ) → scalar c ≡ true → c < 128 → row ≡ c ∷ bytes
      → SpellsBytes test source row → Taken h c source bytes
  low_taken h c source bytes row s l e nothing = cc
  low_taken h c source bytes row s l e (itself {c = d} {source = more} {bytes = bs} y n p) =
      let same : d ≡ c = cc in
      let behind : bs ≡ bytes = cc in
      record {
        front = d ∷ [];
        more = more;
        whole = refl;
        some = λ z. cc;
        spells = subst (SpellsBytes test more) behind p;
        turn = λ rest t.
            let f : next_char h ≡ d = ap first t in
            char_turn h (ap test f ∙ y) (ap (λ x. x == 0x25) f ∙ n)
            ∙ ap (λ x. Ok (Some (x ∷ []), free (step h))) (f ∙ same);
      }
  low_taken h c source bytes row s l e (percent {high} {low} {source = more} {bytes = bs} y z p) =
      let same : byte_of high low ≡ c = cc in
      let behind : bs ≡ bytes = cc in
      by_escapes h c source bytes s (record {
        front = 0x25 ∷ high ∷ low ∷ [];
        rest = more;
        whole = refl;
        escapes = subst (Escapes (0x25 ∷ high ∷ low ∷ [])) (ap (λ x. x ∷ []) same ∙ sym (encode_ascii c l))
            (one_more y z no_more);
        spells = subst (SpellsBytes test more) behind p;
      })

  taken_by : (h : Here) (c : ℕ) (source bytes : List ℕ) → scalar c ≡ true → SpellsBytes test source (encode c ++ bytes)
      → (c < 128) ⊎ (128 ≤ c) → Taken h c source bytes
  taken_by h c source bytes s p (inl l) = low_taken h c source bytes (encode c ++ bytes) s l
      (ap (λ (r : List ℕ). r ++ bytes) (encode_ascii c l)) p
  taken_by h c source bytes s p (inr l) = by_escapes h c source bytes s
      (part (encode c) source bytes k (high_row c s l) p)

  none_left : (source bytes : List ℕ) → [] ≡ bytes → SpellsBytes test source bytes → source ≡ []
  none_left source bytes e nothing = refl
  none_left source bytes e (itself y n p) = cc
  none_left source bytes e (percent y z p) = cc

  turns_read : (n : ℕ) (text source rest : List ℕ) (h : Here) → scalars text ≡ true
      → SpellsBytes test source (encode_utf8_all text) → h.unread.text ≡ source ++ rest → test (first rest) ≡ false
      → text_len h < n
      → turns (uri_turn test start) n (free h) ≡ Ok (text, free (over source h))
  unfolding turns
  turns_read zero text source rest h s p t e l = absurd (omega arith)
  turns_read (suc n) [] source rest h s p t e l =
      let none = none_left source [] refl p in
      let here : h.unread.text ≡ rest = t ∙ ap (λ (w : List ℕ). w ++ rest) none in
      ap (λ r. r >>= λ x. then_more (turns (uri_turn test start) n) x.0 x.1)
      (ends_turn h (ap (λ (w : List ℕ). test (first w)) here ∙ e))
      ∙ ap (λ (w : List ℕ). Ok ([], free (over w h))) (sym none)
  turns_read (suc n) (c ∷ text) source rest h s p t e l =
      let ss = and_parts (scalar c) (scalars text) s in
      let a = taken_by h c source (encode_utf8_all text) ss.0 p (cases_lt c 128) in
      let w : h.unread.text ≡ a.front ++ (a.more ++ rest) = t ∙ ap (λ (l : List ℕ). l ++ rest) a.whole
      ∙ append_assoc a.front a.more rest in
      let u : (over a.front h).unread.text ≡ a.more ++ rest = over_text a.front (a.more ++ rest) h w in
      let m : text_len (over a.front h) < n = subst (λ (l : List ℕ). length l < n) (sym u)
      (shorter h a.front (a.more ++ rest) n a.some w l) in
      ap (λ r. r >>= λ x. then_more (turns (uri_turn test start) n) x.0 x.1) (a.turn rest t)
      ∙ ap (with_front (c ∷ [])) (turns_read n text a.more rest (over a.front h) ss.1 a.spells u e m)
      ∙ ap (λ (g : Here). Ok (c ∷ text, free g))
      (sym (over-append a.front a.more h) ∙ ap (λ (l : List ℕ). over l h) (sym a.whole))

  pub decoded_is : (text source rest : List ℕ) (h : Here) → SpellsText test source text → h.unread.text ≡ source ++ rest
      → test (first rest) ≡ false → decoded test start None h ≡ Ok (text, free (over source h))
  unfolding pieces
  decoded_is text source rest h s t e = turns_read (suc (text_len h)) text source rest h s.scalar
      (subst (SpellsBytes test source) (sym s.encodes) s.spells) t e (omega arith)

  -- ---- a wrong escape that stands there is refused

  turns_fail : (n : ℕ) (text source rest : List ℕ) (h : Here) (f : Fault) → scalars text ≡ true
      → SpellsBytes test source (encode_utf8_all text) → h.unread.text ≡ source ++ rest → first rest ≡ 0x25
      → ((g : Here) → g.unread.text ≡ rest → escaped_char start g ≡ Err f) → text_len h < n
      → turns (uri_turn test start) n (free h) ≡ Err f
  unfolding turns
  turns_fail zero text source rest h f s p t e w l = absurd (omega arith)
  turns_fail (suc n) [] source rest h f s p t e w l =
      let none = none_left source [] refl p in
      let here : h.unread.text ≡ rest = t ∙ ap (λ (u : List ℕ). u ++ rest) none in
      ap (λ r. r >>= λ x. then_more (turns (uri_turn test start) n) x.0 x.1)
      (escape_turn h (ap first here ∙ e) ∙ w h here)
  turns_fail (suc n) (c ∷ text) source rest h f s p t e w l =
      let ss = and_parts (scalar c) (scalars text) s in
      let a = taken_by h c source (encode_utf8_all text) ss.0 p (cases_lt c 128) in
      let whole : h.unread.text ≡ a.front ++ (a.more ++ rest) =
      t ∙ ap (λ (l : List ℕ). l ++ rest) a.whole ∙ append_assoc a.front a.more rest in
      let u : (over a.front h).unread.text ≡ a.more ++ rest = over_text a.front (a.more ++ rest) h whole in
      let m : text_len (over a.front h) < n =
      subst (λ (l : List ℕ). length l < n) (sym u) (shorter h a.front (a.more ++ rest) n a.some whole l) in
      ap (λ r. r >>= λ x. then_more (turns (uri_turn test start) n) x.0 x.1) (a.turn rest t)
      ∙ ap (with_front (c ∷ [])) (turns_fail n text a.more rest (over a.front h) f ss.1 a.spells u e w m)

  pub decoded_fails : (text source rest : List ℕ) (h : Here) (f : Fault) → SpellsText test source text
      → h.unread.text ≡ source ++ rest → first rest ≡ 0x25
      → ((g : Here) → g.unread.text ≡ rest → escaped_char start g ≡ Err f) → decoded test start None h ≡ Err f
  unfolding pieces
  decoded_fails text source rest h f s t e w =
      turns_fail (suc (text_len h)) text source rest h f s.scalar
      (subst (SpellsBytes test source) (sym s.encodes) s.spells) t e w (omega arith)
