-- A tag is read where it stands, and refused where none does.
use Rattle.std.proofs.Common.{◌≡◌, ◌≢◌, ℕ, ◌<◌, ◌≤◌, ◌==◌, Bool, true, false, not, ◌&&◌, ◌||◌, List, [], ◌∷◌, ◌++◌}
use Rattle.std.proofs.Common.{length, None, Result, Ok, Err, refl, sym, ap, ◌∙◌, subst, arith, append_assoc}
use Rattle.std.specs.Prelude.{slice_index, if◌then◌else◌}
use Rattle.std.specs.Str.{encode_utf8_all}
use Rattle.std.proofs.lemmas.Bool.{and_parts, eqb-true}
use Rattle.std.proofs.lemmas.Bool.Decides.{nat_tests}
use Rattle.std.proofs.lemmas.List.{nil_from_length}
use Rattle.std.proofs.lemmas.Str.{cons_from_encodes}
use lib.Utf8.{scalars}
use Rattle.granit_base.specs.Classes.{is_digit, is_word_char, is_uri_sign, is_uri_char, is_flow, is_tag_char, is_alpha}
use Rattle.granit_base.specs.Classes.{is_blank, is_break, is_z, is_breakz, is_blank_or_breakz}
use Rattle.granit_base.specs.Place.{first}
use Rattle.granit_error.specs.FaultKind.{MissingTagUri, UnclosedVerbatimTag, InvalidTagTerminator}
use Rattle.granit_lexemes.specs.Gap.{Each}
use Rattle.granit_lexemes.specs.Here.{Here, next_char, mark_of, step, past}
use Rattle.granit_lexemes.specs.Moves.{steps}
use Rattle.granit_lexemes.specs.Outcome.{Fault, ◌>>=◌}
use Rattle.granit_lexemes.specs.PlainExtent.{over}
use Rattle.granit_lexemes.specs.Basics.{fails_at}
use Rattle.granit_lexemes.proofs.HereLemmas.{not_empty, stepped_text}
use Rattle.granit_scalars.proofs.QuotedEscapes.{over_text}
use Rattle.granit_scalars.proofs.Stepping.{seen, over-append, second_of}
use Rattle.granit_lexemes.specs.Basics.{text_up_to}
use Rattle.granit_lexemes.specs.Tags.{TagRead, tag_of, UriState, decoded, tag_ends, behind_verbatim, behind_handle}
use Rattle.granit_lexemes.specs.Tags.{short_tag, tag_by, tag_at}
use Rattle.granit_lexemes.specs.TagExtent.{SpellsBytes, nothing as no_bytes, itself, percent, SpellsText, verbatim}
use Rattle.granit_lexemes.specs.TagExtent.{named, primary, alone, ends_tag, AnswersTag, verbatim as opens_verbatim}
use Rattle.granit_lexemes.specs.TagExtent.{named as opens_named, primary as opens_primary, TagFront, RefusesTag, escape}
use Rattle.granit_lexemes.specs.TagExtent.{nothing as has_nothing, unclosed, behind_verbatim as wrong_behind_verbatim}
use Rattle.granit_lexemes.specs.TagExtent.{behind_named, behind_primary}
use Rattle.granit_names.proofs.Runs.{run_of, past_run, text_over}
use Rattle.granit_names.proofs.Spelling.{uri_class, tag_class, text-append, empty_spells, one_text}
use Rattle.granit_names.proofs.Decoded.{Decodes, read, bad, decodes}

-- ---- classes

pub no_alpha_nul : is_alpha 0 ≡ false
unfolding is_alpha is_word_char is_digit
no_alpha_nul = refl

pub alpha_tag : (c : ℕ) → is_alpha c ≡ true → is_tag_char c ≡ true
unfolding is_alpha is_tag_char is_uri_char is_uri_sign is_word_char is_digit is_flow
alpha_tag c e = grind (arith, nat_tests)

pub alpha_itself : (c : ℕ) → is_alpha c ≡ true → (c == 0x25) ≡ false
unfolding is_alpha is_word_char is_digit
alpha_itself c e = grind (arith, nat_tests)

pub tag_no_angle : (c : ℕ) → is_tag_char c ≡ true → (c == 0x3C) ≡ false
unfolding is_tag_char is_uri_char is_uri_sign is_word_char is_digit
tag_no_angle c e = grind (arith, nat_tests)

pub tag_no_bang : (c : ℕ) → is_tag_char c ≡ true → (c == 0x21) ≡ false
unfolding is_tag_char
tag_no_bang c e = grind (arith, nat_tests)

pub no_tag_bang : is_tag_char 0x21 ≡ false
unfolding is_tag_char is_uri_char is_uri_sign is_word_char is_digit is_flow
no_tag_bang = refl

pub no_alpha_bang : is_alpha 0x21 ≡ false
unfolding is_alpha is_word_char is_digit
no_alpha_bang = refl

pub no_uri_close : is_uri_char 0x3E ≡ false
unfolding is_uri_char is_uri_sign is_word_char is_digit
no_uri_close = refl

pub blank_low : (c : ℕ) → is_blank_or_breakz c ≡ true → c < 0x21
unfolding is_blank_or_breakz is_breakz is_blank is_break is_z
blank_low c e = grind (arith, nat_tests)

tag_above : (c : ℕ) → is_tag_char c ≡ true → 0x21 ≤ c
unfolding is_tag_char is_uri_char is_uri_sign is_word_char is_digit
tag_above c e = grind (arith, nat_tests)

tag_no_flow : (c : ℕ) → is_tag_char c ≡ true → is_flow c ≡ false
unfolding is_tag_char
tag_no_flow c e = grind (arith, nat_tests)

closer_flow : (c : ℕ) → (c == 0x2C || (c == 0x5D || c == 0x7D)) ≡ true → is_flow c ≡ true
unfolding is_flow
closer_flow c e = grind (arith, nat_tests)

ends_or : (in_flow : Bool) (c : ℕ) → ends_tag in_flow c ≡ true → (v : Bool) → is_blank_or_breakz c ≡ v
    → is_tag_char c ≡ true → ⊥
unfolding ends_tag
ends_or in_flow c e true p y = let a = blank_low c p in let b = tag_above c y in omega arith
ends_or in_flow c e false p y =
    let f : (in_flow && (c == 0x2C || (c == 0x5D || c == 0x7D)))
    ≡ true = ap (λ b. b || (in_flow && (c == 0x2C || (c == 0x5D || c == 0x7D)))) (sym p) ∙ e in
    let a = closer_flow c (and_parts in_flow _ f).1 in
    let b = tag_no_flow c y in
    cc

pub ends_no_tag : (in_flow : Bool) (c : ℕ) → ends_tag in_flow c ≡ true → is_tag_char c ≡ false
ends_no_tag in_flow c e = by (is_tag_char c) refl
  where
    by : (v : Bool) → is_tag_char c ≡ v → is_tag_char c ≡ false
    by false p = p
    by true p = absurd (ends_or in_flow c e (is_blank_or_breakz c) refl p)

pub ends_no_alpha : (in_flow : Bool) (c : ℕ) → ends_tag in_flow c ≡ true → is_alpha c ≡ false
ends_no_alpha in_flow c e = by (is_alpha c) refl
  where
    by : (v : Bool) → is_alpha c ≡ v → is_alpha c ≡ false
    by false p = p
    by true p = let a = alpha_tag c p in let b = ends_no_tag in_flow c e in absurd cc

pub ends_no_sign : (in_flow : Bool) (c : ℕ) → ends_tag in_flow c ≡ true → ((c == 0x3C) ≡ false) × ((c == 0x21) ≡ false)
unfolding ends_tag is_blank_or_breakz is_breakz is_blank is_break is_z
ends_no_sign in_flow c e = (grind (arith, nat_tests), grind (arith, nat_tests))

-- ---- what is spelled, and nothing

none_read : {test : ℕ → Bool} (source bytes : List ℕ) → [] ≡ bytes → SpellsBytes test source bytes → source ≡ []
none_read source bytes e no_bytes = refl
none_read source bytes e (itself y n p) = cc
none_read source bytes e (percent y z p) = cc

pub spells_nothing : {test : ℕ → Bool} (source text : List ℕ) → SpellsText test source text → text ≡ [] → source ≡ []
spells_nothing source text s e = none_read source s.bytes (ap encode_utf8_all (sym e) ∙ s.encodes) s.spells

none_spelled : {test : ℕ → Bool} (source text row : List ℕ) → source ≡ [] → encode_utf8_all text ≡ row
    → scalars text ≡ true → SpellsBytes test source row → text ≡ []
none_spelled source [] row e f s p = refl
none_spelled source (c ∷ text) row e f s no_bytes = let c_some = cons_from_encodes [] (encode_utf8_all text) c
    (sym f) in let z = c_some.1 in cc
none_spelled source (c ∷ text) row e f s (itself y n p) = cc
none_spelled source (c ∷ text) row e f s (percent y z p) = cc

pub no_value : {test : ℕ → Bool} (source text : List ℕ) → SpellsText test source text → source ≡ [] → text ≡ []
no_value source text s e = none_spelled source text s.bytes e s.encodes s.scalar s.spells

pub some_is : (l : List ℕ) → l ≢ [] → (length l == 0) ≡ false
some_is [] n = absurd (n refl)
some_is (c ∷ l) n = not_empty c l

some_not : (l : List ℕ) → (length l == 0) ≡ false → l ≢ []
some_not [] e = λ z. cc
some_not (c ∷ l) e = λ z. cc

-- a word spells itself
word_text : (word : List ℕ) → Each is_alpha word → SpellsText is_tag_char word word
word_text [] y = empty_spells is_tag_char
word_text (c ∷ word) y = text-append (one_text c tag_class (alpha_tag c y.0) (alpha_itself c y.0)) (word_text word y.1)

-- ---- what is read is there

abbrev pub TagAnswered : Bool → Here → Result (TagRead × Here) Fault → Type 0
TagAnswered in_flow h (Ok (kind, after)) = AnswersTag in_flow h kind after
TagAnswered in_flow h (Err f) = RefusesTag in_flow h f.kind f.mark × (f.sources ≡ [])

module _ (in_flow : Bool) (h : Here) where
  -- the end of a tag
  ends_if : (kind : TagRead) (g : Here) → (ends_tag in_flow (next_char g) ≡ true → AnswersTag in_flow h kind g)
      → (ends_tag in_flow (next_char g) ≡ false → RefusesTag in_flow h InvalidTagTerminator (mark_of h))
      → (v : Bool) → ends_tag in_flow (next_char g) ≡ v
      → TagAnswered in_flow h (if v then Ok (kind, g) else fails_at InvalidTagTerminator (mark_of h))
  ends_if kind g stood unended true e = stood e
  ends_if kind g stood unended false e = (unended e, refl)

  tag_end : (kind : TagRead) (g : Here) → (ends_tag in_flow (next_char g) ≡ true → AnswersTag in_flow h kind g)
      → (ends_tag in_flow (next_char g) ≡ false → RefusesTag in_flow h InvalidTagTerminator (mark_of h))
      → TagAnswered in_flow h (tag_ends in_flow (mark_of h) kind g)
  unfolding tag_ends ends_tag
  tag_end kind g stood unended = ends_if kind g stood unended (ends_tag in_flow (next_char g)) refl

  -- ---- `!<`

  module _ (whole : h.unread.text ≡ 0x21 ∷ 0x3C ∷ (step (step h)).unread.text) (uri suffix : List ℕ)
      (s : SpellsText is_uri_char uri suffix)
      (t : (step (step h)).unread.text ≡ uri ++ (over uri (step (step h))).unread.text)
      (n : is_uri_char (next_char (over uri (step (step h)))) ≡ false) where
    abbrev behind_uri : Here
    behind_uri = over uri (step (step h))

    abbrev opening : List ℕ
    opening = 0x21 ∷ 0x3C ∷ []

    front_is : TagFront h opening is_uri_char uri suffix behind_uri.unread.text
    front_is = record { whole = whole ∙ ap (λ (l : List ℕ). 0x21 ∷ 0x3C ∷ l) t; opens = opens_verbatim; spells = s }

    close_if : uri ≢ [] → (v : Bool) → (next_char behind_uri == 0x3E) ≡ v
        → TagAnswered in_flow h (if not v then fails_at UnclosedVerbatimTag (mark_of h) else tag_ends in_flow
        (mark_of h) (tag_of [] suffix) (step behind_uri))
    close_if some false e = (unclosed front_is some n e, refl)
    close_if some true e =
        let close : next_char behind_uri ≡ 0x3E = grind (arith, nat_tests) in
        let seen_close = seen (λ c. c == 0x3E) behind_uri refl e in
        let behind : behind_uri.unread.text ≡ 0x3E ∷ (step behind_uri).unread.text = seen_close.is
        ∙ ap (λ c. c ∷ (step behind_uri).unread.text) close in
        let all : h.unread.text ≡ 0x21 ∷ 0x3C ∷ (uri ++ 0x3E ∷ (step behind_uri).unread.text) = front_is.whole
        ∙ ap (λ (l : List ℕ). 0x21 ∷ 0x3C ∷ (uri ++ l)) behind in
        tag_end (tag_of [] suffix) (step behind_uri)
        (λ y. record {
          source = 0x21 ∷ 0x3C ∷ (uri ++ 0x3E ∷ []);
          handle = [];
          suffix = suffix;
          rest = (step behind_uri).unread.text;
          stands = record {
            whole = all ∙ ap (λ (l : List ℕ). 0x21 ∷ 0x3C ∷ l)
                (sym (append_assoc uri (0x3E ∷ []) (step behind_uri).unread.text));
            spells = verbatim some s;
            ends = y;
          };
          answer = refl;
          reached = sym (over-append uri (0x3E ∷ []) (step (step h)));
        })
        (λ m. wrong_behind_verbatim (record { whole = all; opens = opens_verbatim; spells = s }) some m)

    nothing_if : (v : Bool) → (length suffix == 0) ≡ v
        → TagAnswered in_flow h (if v then fails_at MissingTagUri (mark_of h) else if not (next_char behind_uri == 0x3E)
        then fails_at UnclosedVerbatimTag (mark_of h) else tag_ends in_flow (mark_of h) (tag_of [] suffix)
        (step behind_uri))
    nothing_if true e =
        let none = spells_nothing uri suffix s (nil_from_length suffix (eqb-true (length suffix) 0 e)) in
        let f : h.unread.text ≡ opening ++ (step (step h)).unread.text = whole in (
          has_nothing (record { whole = f; opens = opens_verbatim; spells = empty_spells is_uri_char }) (λ z. cc)
              (ap (λ (l : List ℕ). is_uri_char (next_char (over l (step (step h))))) (sym none) ∙ n),
          refl,
        )
    nothing_if false e = close_if (λ z. some_not suffix e (no_value uri suffix s z)) (next_char behind_uri == 0x3E) refl

    verbatim_reads : TagAnswered in_flow h (behind_verbatim in_flow (mark_of h) suffix behind_uri)
    verbatim_reads = nothing_if (length suffix == 0) refl

  verbatim_on : h.unread.text ≡ 0x21 ∷ 0x3C ∷ (step (step h)).unread.text → (r : Result (List ℕ × UriState) Fault)
      → Decodes is_uri_char (mark_of h) uri_class (step (step h)) r
      → TagAnswered in_flow h (r >>= λ x. behind_verbatim in_flow (mark_of h) x.0 x.1.here)
  verbatim_on whole r (read uri suffix s t n l) =
      subst (λ (g : UriState). TagAnswered in_flow h (behind_verbatim in_flow (mark_of h) suffix g.here)) (sym l)
      (verbatim_reads whole uri suffix s t n)
  verbatim_on whole r (bad source text rest s t f w) = (
    escape (record { whole = whole ∙ ap (λ (l : List ℕ). 0x21 ∷ 0x3C ∷ l) t; opens = opens_verbatim; spells = s }) f
        w,
    refl,
  )

  -- ---- `!` and a word

  module _ (word : List ℕ) (y : Each is_alpha word)
      (whole : h.unread.text ≡ 0x21 ∷ (word ++ (over word (step h)).unread.text)) where
    abbrev behind_word : Here
    behind_word = over word (step h)

    -- with a second `!`
    module _ (second : behind_word.unread.text ≡ 0x21 ∷ (step behind_word).unread.text) where
      abbrev handle : List ℕ
      handle = 0x21 ∷ (word ++ 0x21 ∷ [])

      over_handle : over handle h ≡ step behind_word
      over_handle = over-append word (0x21 ∷ []) (step h)

      behind_handle_is : h.unread.text ≡ handle ++ (step behind_word).unread.text
      behind_handle_is = whole ∙ ap (λ (l : List ℕ). 0x21 ∷ (word ++ l)) second
          ∙ ap (λ (l : List ℕ). 0x21 ∷ l) (sym (append_assoc word (0x21 ∷ []) (step behind_word).unread.text))

      handle_is : text_up_to h (step behind_word) ≡ handle
      handle_is = ap (text_up_to h) (sym over_handle)
          ∙ text_over handle (step behind_word).unread.text h behind_handle_is

      not_primary : handle ≢ 0x21 ∷ []
      not_primary z = no_more word (let t : word ++ 0x21 ∷ [] ≡ [] = cc in t)
        where
          no_more : (w : List ℕ) → w ++ 0x21 ∷ [] ≡ [] → ⊥
          no_more [] e = cc
          no_more (c ∷ w) e = cc

      module _ (source suffix : List ℕ) (s : SpellsText is_tag_char source suffix)
          (t : (step behind_word).unread.text ≡ source ++ (over source (step behind_word)).unread.text)
          (n : is_tag_char (next_char (over source (step behind_word))) ≡ false) where
        suffix_front : TagFront h handle is_tag_char source suffix (over source (step behind_word)).unread.text
        suffix_front = record {
          whole = behind_handle_is
              ∙ ap (λ (l : List ℕ). handle ++ l) t;
          opens = opens_named word y;
          spells = s;
        }

        named_end : source ≢ [] → TagAnswered in_flow h
            (tag_ends in_flow (mark_of h) (tag_of handle suffix) (over source (step behind_word)))
        named_end some =
            tag_end (tag_of handle suffix) (over source (step behind_word))
            (λ e. record {
              source = 0x21 ∷ (word ++ 0x21 ∷ source);
              handle = handle;
              suffix = suffix;
              rest = (over source (step behind_word)).unread.text;
              stands = record {
                whole = suffix_front.whole ∙ ap (λ (l : List ℕ). 0x21 ∷ l)
                    (append_assoc word (0x21 ∷ []) _ ∙ sym (append_assoc word (0x21 ∷ source) _));
                spells = named word y some s;
                ends = e;
              };
              answer = refl;
              reached = sym (over-append word (0x21 ∷ source) (step h));
            })
            (λ m. behind_named word y suffix_front some n m)

        suffix_if : (v : Bool) → (length suffix == 0) ≡ v
            → TagAnswered in_flow h (if v then fails_at MissingTagUri (mark_of h) else tag_ends in_flow (mark_of h)
            (tag_of handle suffix) (over source (step behind_word)))
        suffix_if true e =
            let none = spells_nothing source suffix s (nil_from_length suffix (eqb-true (length suffix) 0 e)) in (
              has_nothing (record {
                whole = behind_handle_is;
                opens = opens_named word y;
                spells = empty_spells
                    is_tag_char;
              }) not_primary
                  (ap (λ (l : List ℕ). is_tag_char (next_char (over l (step behind_word)))) (sym none) ∙ n),
              refl,
            )
        suffix_if false e = named_end (λ z. some_not suffix e (no_value source suffix s z))

        named_reads : TagAnswered in_flow h (behind_handle in_flow (mark_of h) (text_up_to h (step behind_word)) suffix
            (over source (step behind_word)))
        named_reads = subst (λ (l : List ℕ). TagAnswered in_flow h
            (behind_handle in_flow (mark_of h) l suffix (over source (step behind_word)))) (sym handle_is)
            (suffix_if (length suffix == 0) refl)

      named_on : (r : Result (List ℕ × UriState) Fault) → Decodes is_tag_char (mark_of h) tag_class (step behind_word) r
          → TagAnswered in_flow h (r >>= λ x. behind_handle in_flow (mark_of h) (text_up_to h (step behind_word)) x.0
          x.1.here)
      named_on r (read source suffix s t n l) =
          subst (λ (g : UriState). TagAnswered in_flow h
          (behind_handle in_flow (mark_of h) (text_up_to h (step behind_word)) suffix g.here)) (sym l)
          (named_reads source suffix s t n)
      named_on r (bad source text rest s t f w) = (
        escape (record {
          whole = behind_handle_is
              ∙ ap (λ (l : List ℕ). handle ++ l) t;
          opens = opens_named word y;
          spells = s;
        }) f w,
        refl,
      )

    -- without one
    module _ (all : is_alpha (next_char behind_word) ≡ false) (only : (next_char behind_word == 0x21) ≡ false)
        (angle : (slice_index h.unread.text 1 == 0x3C) ≡ false) where
      word_is : text_up_to (step h) behind_word ≡ word
      word_is = text_over word behind_word.unread.text (step h)
          (stepped_text h 0x21 (word ++ behind_word.unread.text) whole)

      short_front : (source text rest : List ℕ) → SpellsText is_tag_char source text
          → behind_word.unread.text ≡ source ++ rest
          → TagFront h (0x21 ∷ []) is_tag_char (word ++ source) (word ++ text) rest
      short_front source text rest s t = record {
        whole = whole ∙ ap (λ (l : List ℕ). 0x21 ∷ (word ++ l)) t
            ∙ ap (λ (l : List ℕ). 0x21 ∷ l) (sym (append_assoc word source rest));
        opens = opens_primary;
        spells = text-append (word_text word y) s;
      }

      short_answers : (spelled value rest : List ℕ) (g : Here) → SpellsText is_tag_char spelled value
          → h.unread.text ≡ 0x21 ∷ (spelled ++ rest) → g ≡ over spelled (step h) → ends_tag in_flow (first rest) ≡ true
          → AnswersTag in_flow h (short_tag value) g
      short_answers [] value rest g s t l e = record {
        source = 0x21 ∷ [];
        handle = [];
        suffix = 0x21 ∷ [];
        rest = rest;
        stands = record { whole = t; spells = alone; ends = e };
        answer = ap short_tag (no_value [] value s refl);
        reached = l;
      }
      short_answers (c ∷ spelled) [] rest g s t l e = absurd (let z = spells_nothing (c ∷ spelled) [] s refl in cc)
      short_answers (c ∷ spelled) (d ∷ value) rest g s t l e = record {
        source = 0x21 ∷ c ∷ spelled;
        handle = 0x21 ∷ [];
        suffix = d ∷ value;
        rest = rest;
        stands = record { whole = t; spells = primary (λ z. cc) s; ends = e };
        answer = refl;
        reached = l;
      }

      each_behind : (w s : List ℕ) → Each is_alpha (w ++ s) → Each is_alpha s
      each_behind [] s e = e
      each_behind (c ∷ w) s e = each_behind w s e.1

      no_second : (source rest : List ℕ) → behind_word.unread.text ≡ source ++ rest → Each is_alpha source
          → first rest ≢ 0x21
      no_second [] rest t e z = let a : (next_char behind_word == 0x21) ≡ true = ap (λ (l : List ℕ). first l == 0x21) t
          ∙ ap (λ c. c == 0x21) z in cc
      no_second (c ∷ source) rest t e z = let a : is_alpha (next_char behind_word)
          ≡ true = ap (λ (l : List ℕ). is_alpha (first l)) t ∙ e.0 in cc

      short_reads : (source suffix : List ℕ) → SpellsText is_tag_char source suffix
          → behind_word.unread.text ≡ source ++ (over source behind_word).unread.text
          → is_tag_char (next_char (over source behind_word)) ≡ false
          → TagAnswered in_flow h (tag_ends in_flow (mark_of h) (short_tag (text_up_to (step h) behind_word ++ suffix))
          (over source behind_word))
      short_reads source suffix s t n =
          let rest = (over source behind_word).unread.text in
          let f = short_front source suffix rest s t in
          subst (λ (l : List ℕ). TagAnswered in_flow h
          (tag_ends in_flow (mark_of h) (short_tag (l ++ suffix)) (over source behind_word))) (sym word_is)
          (tag_end (short_tag (word ++ suffix)) (over source behind_word)
          (λ e. short_answers (word ++ source) (word ++ suffix) rest (over source behind_word) f.spells f.whole
          (sym (over-append word source (step h))) e)
          (λ m. behind_primary f n m angle (λ p. no_second source rest t (each_behind word source p))))

      short_on : (r : Result (List ℕ × UriState) Fault) → Decodes is_tag_char (mark_of h) tag_class behind_word r
          → TagAnswered in_flow h (r >>= λ x. tag_ends in_flow (mark_of h)
          (short_tag (text_up_to (step h) behind_word ++ x.0)) x.1.here)
      short_on r (read source suffix s t n l) =
          subst (λ (g : UriState). TagAnswered in_flow h
          (tag_ends in_flow (mark_of h) (short_tag (text_up_to (step h) behind_word ++ suffix)) g.here)) (sym l)
          (short_reads source suffix s t n)
      short_on r (bad source text rest s t f w) = (escape (short_front source text rest s t) f w, refl)

    word_if : is_alpha (next_char behind_word) ≡ false → (slice_index h.unread.text 1 == 0x3C) ≡ false → (v : Bool)
        → (next_char behind_word == 0x21) ≡ v
        → TagAnswered in_flow h (if v then (decoded is_tag_char (mark_of h) None (step behind_word) >>=
        λ x. behind_handle in_flow (mark_of h) (text_up_to h (step behind_word)) x.0 x.1.here)
        else (decoded is_tag_char (mark_of h) None behind_word >>= λ x. tag_ends in_flow (mark_of h)
        (short_tag (text_up_to (step h) behind_word ++ x.0)) x.1.here))
    word_if all angle true e =
        let bang : next_char behind_word ≡ 0x21 = grind (arith, nat_tests) in
        let s = seen (λ c. c == 0x21) behind_word refl e in
        named_on (s.is ∙ ap (λ c. c ∷ (step behind_word).unread.text) bang)
        (decoded is_tag_char (mark_of h) None (step behind_word))
        (decodes is_tag_char (mark_of h) tag_class (step behind_word))
    word_if all angle false e = short_on all e angle (decoded is_tag_char (mark_of h) None behind_word)
        (decodes is_tag_char (mark_of h) tag_class behind_word)

  module _ (bang : next_char h ≡ 0x21) where
    begins : h.unread.text ≡ 0x21 ∷ (step h).unread.text
    begins = let s = seen (λ c. c == 0x21) h refl (ap (λ c. c == 0x21) bang) in s.is
        ∙ ap (λ c. c ∷ (step h).unread.text) bang

    by_word : (slice_index h.unread.text 1 == 0x3C) ≡ false
        → TagAnswered in_flow h (tag_by in_flow h (past is_alpha (step h)))
    by_word angle =
        let r = run_of is_alpha no_alpha_nul (step h).unread.text in
        let t = over_text r.front r.rest (step h) r.whole in
        subst (λ (g : Here). TagAnswered in_flow h (tag_by in_flow h g))
        (sym (past_run is_alpha no_alpha_nul r.front r.rest (step h) r.whole r.each r.all))
        (word_if r.front r.each (begins ∙ ap (λ (l : List ℕ). 0x21 ∷ l)
        (r.whole ∙ ap (λ (l : List ℕ). r.front ++ l) (sym t)))
        (ap (λ (l : List ℕ). is_alpha (first l)) t ∙ r.all) angle (next_char (over r.front (step h)) == 0x21) refl)

    angle_if : (v : Bool) → (slice_index h.unread.text 1 == 0x3C) ≡ v
        → TagAnswered in_flow h (if v then (decoded is_uri_char (mark_of h) None (step (step h)) >>=
        λ x. behind_verbatim in_flow (mark_of h) x.0 x.1.here) else tag_by in_flow h (past is_alpha (step h)))
    angle_if true e =
        let s = seen (λ c. c == 0x21) h refl (ap (λ c. c == 0x21) bang) in
        let f : (next_char (step h) == 0x3C) ≡ true = ap (λ c. c == 0x3C) (sym (second_of h s)) ∙ e in
        let is : next_char (step h) ≡ 0x3C = grind (arith, nat_tests) in
        let p = seen (λ c. c == 0x3C) (step h) refl f in
        verbatim_on (begins ∙ ap (λ (l : List ℕ). 0x21 ∷ l) (p.is ∙ ap (λ c. c ∷ (step (step h)).unread.text) is))
        (decoded is_uri_char (mark_of h) None (step (step h)))
        (decodes is_uri_char (mark_of h) uri_class (step (step h)))
    angle_if false e = by_word e

    pub tag_answered : TagAnswered in_flow h (tag_at in_flow h)
    unfolding tag_at steps
    tag_answered = angle_if (slice_index h.unread.text 1 == 0x3C) refl

pub tag_stands : (in_flow : Bool) (h : Here) (kind : TagRead) (after : Here) → next_char h ≡ 0x21
    → tag_at in_flow h ≡ Ok (kind, after) → AnswersTag in_flow h kind after
tag_stands in_flow h kind after b e = subst (TagAnswered in_flow h) e (tag_answered in_flow h b)

pub tag_refused : (in_flow : Bool) (h : Here) (f : Fault) → next_char h ≡ 0x21 → tag_at in_flow h ≡ Err f
    → RefusesTag in_flow h f.kind f.mark × (f.sources ≡ [])
tag_refused in_flow h f b e = subst (TagAnswered in_flow h) e (tag_answered in_flow h b)
