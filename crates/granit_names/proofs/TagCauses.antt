-- What a tag is refused for is refused with exactly that, so at most one cause stands.
use Rattle.std.proofs.Common.{◌≡◌, ◌≢◌, ℕ, ◌==◌, Bool, true, false, not, List, [], ◌∷◌, ◌++◌, length, Result, Err}
use Rattle.std.proofs.Common.{None, refl, sym, ap, ◌∙◌, subst, arith, append_assoc, append-nil}
use Rattle.std.specs.Prelude.{slice_index}
use Rattle.std.proofs.lemmas.Bool.{cond-true, cond-false}
use Rattle.std.proofs.lemmas.Bool.Decides.{nat_tests}
use Rattle.granit_base.specs.Classes.{is_uri_char, is_tag_char, is_alpha, is_word_char, is_digit}
use Rattle.granit_base.specs.Place.{Mark, first}
use Rattle.granit_error.specs.FaultKind.{FaultKind, MissingTagUri, InvalidTagTerminator}
use Rattle.granit_lexemes.proofs.HereLemmas.{stepped_text}
use Rattle.granit_lexemes.specs.Basics.{text_up_to}
use Rattle.granit_lexemes.specs.Gap.{Each}
use Rattle.granit_lexemes.specs.Here.{Here, next_char, mark_of, step}
use Rattle.granit_lexemes.specs.Moves.{steps}
use Rattle.granit_lexemes.specs.Outcome.{Fault, fault_at, ◌>>=◌}
use Rattle.granit_lexemes.specs.PlainExtent.{over}
use Rattle.granit_lexemes.specs.TagExtent.{SpellsText, WrongEscapes, ends_tag, Opens, RefusesTag}
use Rattle.granit_lexemes.specs.TagExtent.{verbatim as opens_verbatim, named as opens_named, primary as opens_primary}
use Rattle.granit_lexemes.specs.TagExtent.{escape, nothing as has_nothing, unclosed}
use Rattle.granit_lexemes.specs.TagExtent.{behind_verbatim as wrong_behind_verbatim, behind_named, behind_primary}
use Rattle.granit_lexemes.specs.Tags.{TagRead, tag_of, decoded, tag_ends, behind_verbatim, behind_handle}
use Rattle.granit_lexemes.specs.Tags.{short_tag, tag_at}
use Rattle.granit_names.proofs.Decoded.{decoded_is, decoded_fails}
use Rattle.granit_names.proofs.Runs.{run_of}
use Rattle.granit_names.proofs.Spelling.{uri_class, tag_class, spelled_each}
use Rattle.granit_names.proofs.TagLaw.{no_alpha_nul, no_alpha_bang, no_uri_close, alpha_tag, tag_no_angle, tag_no_bang}
use Rattle.granit_names.proofs.TagLaw.{spells_nothing, some_is}
use Rattle.granit_names.proofs.TagOnce.{by_word, alpha_no_angle, word_front}
use Rattle.granit_names.proofs.WrongBytes.{wrong_is}
use Rattle.granit_scalars.proofs.QuotedEscapes.{over_text}

-- a tag that may not end is refused
end_fails : (in_flow : Bool) (start : Mark) (kind : TagRead) (g : Here) → ends_tag in_flow (next_char g) ≡ false
    → tag_ends in_flow start kind g ≡ Err (fault_at InvalidTagTerminator start)
unfolding tag_ends ends_tag
end_fails in_flow start kind g e = cond-false (ends_tag in_flow (next_char g)) _ _ e

no_alpha_percent : is_alpha 0x25 ≡ false
unfolding is_alpha is_word_char is_digit
no_alpha_percent = refl

no_alpha_if : (c : ℕ) → is_tag_char c ≡ false → (v : Bool) → is_alpha c ≡ v → v ≡ false
no_alpha_if c n false y = refl
no_alpha_if c n true y = absurd (let a = alpha_tag c y in cc)

-- what no tag holds is no letter of a word
no_alpha_of : (c : ℕ) → is_tag_char c ≡ false → is_alpha c ≡ false
no_alpha_of c n = no_alpha_if c n (is_alpha c) refl

no_bang_of : (c : ℕ) → c ≢ 0x21 → (c == 0x21) ≡ false
no_bang_of c n = by (c == 0x21) refl
  where
    by : (v : Bool) → (c == 0x21) ≡ v → v ≡ false
    by false y = refl
    by true y = absurd (n (grind (arith, nat_tests)))

module _ (in_flow : Bool) (h : Here) where
  -- ---- `!<`

  verbatim_by : (rest : List ℕ) → h.unread.text ≡ 0x21 ∷ 0x3C ∷ rest
      → tag_at in_flow h
      ≡ (decoded is_uri_char (mark_of h) None (step (step h)) >>= λ x.
      behind_verbatim in_flow (mark_of h) x.0 x.1.here)
  unfolding tag_at steps
  verbatim_by rest t =
      cond-true (slice_index h.unread.text 1 == 0x3C) _ _ (ap (λ (l : List ℕ). slice_index l 1 == 0x3C) t)

  -- behind a URI that stands there
  verbatim_read : (uri text rest : List ℕ) → SpellsText is_uri_char uri text
      → h.unread.text ≡ 0x21 ∷ 0x3C ∷ (uri ++ rest) → is_uri_char (first rest) ≡ false
      → tag_at in_flow h ≡ behind_verbatim in_flow (mark_of h) text (over uri (step (step h)))
  verbatim_read uri text rest s t n =
      verbatim_by (uri ++ rest) t
      ∙ ap (λ r. r >>= λ x. behind_verbatim in_flow (mark_of h) x.0 x.1.here)
      (decoded_is is_uri_char (mark_of h) uri_class text uri rest (step (step h)) s
      (over_text (0x21 ∷ 0x3C ∷ []) (uri ++ rest) h t) n)

  -- ---- a handle of a name

  named_by : (word rest : List ℕ) → Each is_alpha word → h.unread.text ≡ 0x21 ∷ (word ++ 0x21 ∷ rest)
      → tag_at in_flow h
      ≡ (decoded is_tag_char (mark_of h) None (step (over word (step h))) >>= λ x.
      behind_handle in_flow (mark_of h) (text_up_to h (step (over word (step h)))) x.0 x.1.here)
  named_by word rest y t =
      let w = over word (step h) in
      by_word in_flow h word (0x21 ∷ rest) t (alpha_no_angle word (0x21 ∷ rest) y refl) y no_alpha_bang
      ∙ cond-true (next_char w == 0x21) _ _
      (ap (λ (l : List ℕ). first l == 0x21) (over_text (0x21 ∷ word) (0x21 ∷ rest) h t))

  named_text : (word rest : List ℕ) → h.unread.text ≡ 0x21 ∷ (word ++ 0x21 ∷ rest)
      → (step (over word (step h))).unread.text ≡ rest
  named_text word rest t =
      stepped_text (over word (step h)) 0x21 rest (over_text (0x21 ∷ word) (0x21 ∷ rest) h t)

  named_read : (word source text rest : List ℕ) → Each is_alpha word → SpellsText is_tag_char source text
      → h.unread.text ≡ 0x21 ∷ (word ++ 0x21 ∷ (source ++ rest)) → is_tag_char (first rest) ≡ false
      → tag_at in_flow h
      ≡ behind_handle in_flow (mark_of h) (text_up_to h (step (over word (step h)))) text
      (over source (step (over word (step h))))
  named_read word source text rest y s t n =
      named_by word (source ++ rest) y t
      ∙ ap (λ r. r >>= λ x. behind_handle in_flow (mark_of h) (text_up_to h (step (over word (step h)))) x.0 x.1.here)
      (decoded_is is_tag_char (mark_of h) tag_class text source rest (step (over word (step h))) s
      (named_text word (source ++ rest) t) n)

  -- the same, as its front is written
  front_named : (word source : List ℕ) → h.unread.text ≡ (0x21 ∷ (word ++ 0x21 ∷ [])) ++ source
      → h.unread.text ≡ 0x21 ∷ (word ++ 0x21 ∷ source)
  front_named word source t = t ∙ ap (λ (l : List ℕ). 0x21 ∷ l) (append_assoc word (0x21 ∷ []) source)

  -- ---- `!` and a suffix

  not_second : (source rest : List ℕ) → Each is_tag_char source → (first rest == 0x21) ≡ false
      → (first (source ++ rest) == 0x21) ≡ false
  not_second [] rest y n = n
  not_second (c ∷ source) rest y n = tag_no_bang c y.0

  not_alpha : (source rest : List ℕ) → is_alpha (first source) ≡ false → is_alpha (first rest) ≡ false
      → is_alpha (first (source ++ rest)) ≡ false
  not_alpha [] rest y n = n
  not_alpha (c ∷ source) rest y n = y

  not_angle : (source rest : List ℕ) → Each is_tag_char source → (first rest == 0x3C) ≡ false
      → (first (source ++ rest) == 0x3C) ≡ false
  not_angle [] rest y n = n
  not_angle (c ∷ source) rest y n = tag_no_angle c y.0

  -- the word in front of a suffix, and what is decoded behind it
  record Short (source text rest : List ℕ) : Type 0 where
    more : List ℕ
    value : List ℕ
    word : Here
    spells : SpellsText is_tag_char more value
    behind : word.unread.text ≡ more ++ rest
    gives : tag_at in_flow h
        ≡ (decoded is_tag_char (mark_of h) None word >>= λ x.
        tag_ends in_flow (mark_of h) (short_tag (text_up_to (step h) word ++ x.0)) x.1.here)

  short_second : (source front more rest : List ℕ) → source ≡ front ++ more → Each is_alpha front
      → Each is_tag_char more → (Each is_alpha source → (first rest == 0x21) ≡ false)
      → (first (more ++ rest) == 0x21) ≡ false
  short_second source front [] rest e y z n = n (subst (Each is_alpha) (sym (e ∙ append-nil front)) y)
  short_second source front (c ∷ more) rest e y z n = tag_no_bang c z.0

  short_by : (source text rest : List ℕ) → SpellsText is_tag_char source text
      → h.unread.text ≡ 0x21 ∷ (source ++ rest) → (slice_index h.unread.text 1 == 0x3C) ≡ false
      → is_alpha (first rest) ≡ false → (Each is_alpha source → (first rest == 0x21) ≡ false)
      → Short source text rest
  short_by source text rest s t angle m second =
      let r = run_of is_alpha no_alpha_nul source in
      let b = word_front r.front r.rest text r.each (subst (λ (l : List ℕ). SpellsText is_tag_char l text) r.whole s) in
      let w = over r.front (step h) in
      let whole : h.unread.text ≡ 0x21 ∷ (r.front ++ (r.rest ++ rest)) =
      t ∙ ap (λ (l : List ℕ). 0x21 ∷ (l ++ rest)) r.whole
      ∙ ap (λ (l : List ℕ). 0x21 ∷ l) (append_assoc r.front r.rest rest) in
      let behind : w.unread.text ≡ r.rest ++ rest = over_text (0x21 ∷ r.front) (r.rest ++ rest) h whole in
      let n : (first (r.front ++ (r.rest ++ rest)) == 0x3C) ≡ false =
      ap (λ (l : List ℕ). slice_index l 1 == 0x3C) (sym whole) ∙ angle in
      record {
        more = r.rest;
        value = b.value;
        word = w;
        spells = b.spells;
        behind = behind;
        gives = by_word in_flow h r.front (r.rest ++ rest) whole n r.each (not_alpha r.rest rest r.all m)
            ∙ cond-false (next_char w == 0x21) _ _
            (ap (λ (l : List ℕ). first l == 0x21) behind
            ∙ short_second source r.front r.rest rest r.whole r.each (spelled_each tag_class b.spells.spells) second);
      }

  -- ---- each cause

  escape_refused : {front source text rest : List ℕ} {test : ℕ → Bool} {kind : FaultKind} → Opens front test
      → h.unread.text ≡ front ++ (source ++ rest) → SpellsText test source text → first rest ≡ 0x25
      → WrongEscapes kind rest → tag_at in_flow h ≡ Err (fault_at kind (mark_of h))
  escape_refused {source = source} {text = text} {rest = rest} {kind = kind} opens_verbatim t s e w =
      verbatim_by (source ++ rest) t
      ∙ ap (λ r. r >>= λ x. behind_verbatim in_flow (mark_of h) x.0 x.1.here)
      (decoded_fails is_uri_char (mark_of h) uri_class text source rest (step (step h)) (fault_at kind (mark_of h)) s
      (over_text (0x21 ∷ 0x3C ∷ []) (source ++ rest) h t) e (wrong_is (mark_of h) w))
  escape_refused {source = source} {text = text} {rest = rest} {kind = kind} (opens_named word y) t s e w =
      let whole = front_named word (source ++ rest) t in
      named_by word (source ++ rest) y whole
      ∙ ap (λ r. r >>= λ x. behind_handle in_flow (mark_of h) (text_up_to h (step (over word (step h)))) x.0 x.1.here)
      (decoded_fails is_tag_char (mark_of h) tag_class text source rest (step (over word (step h)))
      (fault_at kind (mark_of h)) s (named_text word (source ++ rest) whole) e (wrong_is (mark_of h) w))
  escape_refused {source = source} {text = text} {rest = rest} {kind = kind} opens_primary t s e w =
      let each = spelled_each tag_class s.spells in
      let angle : (slice_index h.unread.text 1 == 0x3C) ≡ false =
      ap (λ (l : List ℕ). slice_index l 1 == 0x3C) t ∙ not_angle source rest each (ap (λ c. c == 0x3C) e) in
      let b = short_by source text rest s t angle (ap is_alpha e ∙ no_alpha_percent) (λ _. ap (λ c. c == 0x21) e) in
      b.gives
      ∙ ap (λ r. r >>= λ x. tag_ends in_flow (mark_of h) (short_tag (text_up_to (step h) b.word ++ x.0)) x.1.here)
      (decoded_fails is_tag_char (mark_of h) tag_class b.value b.more rest b.word (fault_at kind (mark_of h)) b.spells
      b.behind e (wrong_is (mark_of h) w))

  nothing_refused : {front : List ℕ} {test : ℕ → Bool} (rest : List ℕ) → Opens front test
      → h.unread.text ≡ front ++ rest
      → SpellsText test [] [] → front ≢ 0x21 ∷ [] → test (first rest) ≡ false
      → tag_at in_flow h ≡ Err (fault_at MissingTagUri (mark_of h))
  nothing_refused rest opens_verbatim t s f n = verbatim_read [] [] rest s t n
  nothing_refused rest (opens_named word y) t s f n = named_read word [] [] rest y s (front_named word rest t) n
  nothing_refused rest opens_primary t s f n = absurd (f refl)

  some_text : {test : ℕ → Bool} (source text : List ℕ) → SpellsText test source text → source ≢ []
      → (length text == 0) ≡ false
  some_text source text s some = some_is text (λ z. some (spells_nothing source text s z))

  refused : {kind : FaultKind} {m : Mark} → RefusesTag in_flow h kind m → tag_at in_flow h ≡ Err (fault_at kind m)
  refused (escape front e w) = escape_refused front.opens front.whole front.spells e w
  refused (has_nothing {rest = rest} front f n) = nothing_refused rest front.opens front.whole front.spells f n
  refused (unclosed {uri = uri} {text = text} {rest = rest} front some n close) =
      let g = over uri (step (step h)) in
      verbatim_read uri text rest front.spells front.whole n
      ∙ cond-false (length text == 0) _ _ (some_text uri text front.spells some)
      ∙ cond-true (not (next_char g == 0x3E)) _ _
      (ap (λ (l : List ℕ). not (first l == 0x3E)) (over_text (0x21 ∷ 0x3C ∷ uri) rest h front.whole) ∙ ap not close)
  refused (wrong_behind_verbatim {uri = uri} {text = text} {rest = rest} front some n) =
      let g = over uri (step (step h)) in
      let close : g.unread.text ≡ 0x3E ∷ rest = over_text (0x21 ∷ 0x3C ∷ uri) (0x3E ∷ rest) h front.whole in
      verbatim_read uri text (0x3E ∷ rest) front.spells front.whole no_uri_close
      ∙ cond-false (length text == 0) _ _ (some_text uri text front.spells some)
      ∙ cond-false (not (next_char g == 0x3E)) _ _ (ap (λ (l : List ℕ). not (first l == 0x3E)) close)
      ∙ end_fails in_flow (mark_of h) (tag_of [] text) (step g)
      (ap (λ (l : List ℕ). ends_tag in_flow (first l)) (stepped_text g 0x3E rest close) ∙ n)
  refused (behind_named {source = source} {text = text} {rest = rest} word y front some n m) =
      let whole = front_named word (source ++ rest) front.whole in
      let g = step (over word (step h)) in
      named_read word source text rest y front.spells whole n
      ∙ cond-false (length text == 0) _ _ (some_text source text front.spells some)
      ∙ end_fails in_flow (mark_of h) (tag_of (text_up_to h g) text) (over source g)
      (ap (λ (l : List ℕ). ends_tag in_flow (first l))
      (over_text source rest g (named_text word (source ++ rest) whole)) ∙ m)
  refused (behind_primary {source = source} {text = text} {rest = rest} front n m angle second) =
      let b = short_by source text rest front.spells front.whole angle (no_alpha_of (first rest) n)
      (λ y. no_bang_of (first rest) (second y)) in
      b.gives
      ∙ ap (λ r. r >>= λ x. tag_ends in_flow (mark_of h) (short_tag (text_up_to (step h) b.word ++ x.0)) x.1.here)
      (decoded_is is_tag_char (mark_of h) tag_class b.value b.more rest b.word b.spells b.behind n)
      ∙ end_fails in_flow (mark_of h) (short_tag (text_up_to (step h) b.word ++ b.value)) (over b.more b.word)
      (ap (λ (l : List ℕ). ends_tag in_flow (first l)) (over_text b.more rest b.word b.behind) ∙ m)

-- ---- the law

-- what has a cause is refused with exactly that
pub tag_cause_refused : (in_flow : Bool) (h : Here) (kind : FaultKind) (m : Mark) → RefusesTag in_flow h kind m
    → tag_at in_flow h ≡ Err (fault_at kind m)
tag_cause_refused in_flow h kind m p = refused in_flow h p

same_fault : (f g : Fault) → ◌≡◌ {A = Result (TagRead × Here) Fault} (Err f) (Err g)
    → (f.kind ≡ g.kind) × (f.mark ≡ g.mark)
same_fault f g e = let same : f ≡ g = cc in (ap (λ (x : Fault). x.kind) same, ap (λ (x : Fault). x.mark) same)

-- at most one cause at one mark
pub one_tag_cause : (in_flow : Bool) (h : Here) (kind other : FaultKind) (m n : Mark) → RefusesTag in_flow h kind m
    → RefusesTag in_flow h other n → (kind ≡ other) × (m ≡ n)
one_tag_cause in_flow h kind other m n p q =
    same_fault (fault_at kind m) (fault_at other n)
    (sym (tag_cause_refused in_flow h kind m p) ∙ tag_cause_refused in_flow h other n q)
