-- The handle and the prefix of `%TAG`, and how many bytes they have.
use Rattle.std.proofs.Common.{◌≡◌, ℕ, ◌==◌, Bool, true, false, ◌||◌, List, [], ◌∷◌, ◌++◌, Ok, refl, sym, ap, ◌∙◌, subst}
use Rattle.std.specs.Prelude.{if◌then◌else◌}
use Rattle.granit_base.specs.Classes.{is_alpha}
use Rattle.granit_base.specs.Written.{string_chars}
use Rattle.granit_directives.specs.PrefixCode.{ClosesTo, SpellsTo, past_handle}
use Rattle.granit_directives.specs.declared.tag_directive.SpelledHandle.{SpelledHandle}
use Rattle.granit_lexemes.proofs.HereLemmas.{step_shortens, past_len}
use Rattle.granit_lexemes.specs.Basics.{count_up_to, text_up_to}
use Rattle.granit_lexemes.specs.DirectiveExtent.{bytes_of}
use Rattle.granit_lexemes.specs.Gap.{Each}
use Rattle.granit_lexemes.specs.Here.{Here, next_char, step}
use Rattle.granit_lexemes.specs.PlainExtent.{over}
use Rattle.granit_handles.proofs.HandleLaw.{is_uri_or_blank, tag_uri, uri_part, each_as, part_bytes, bang_uri}
use Rattle.granit_names.proofs.Kept.{each-append}
use Rattle.granit_names.proofs.Runs.{text_over}
use Rattle.granit_names.proofs.TagLaw.{no_alpha_nul, alpha_tag}
use Rattle.granit_handles.proofs.VersionLaw.{all_over}
use Rattle.granit_properties.proofs.TagLemmas.{past_word, handle_is}
use Rattle.granit_properties.proofs.WordLemmas.{up_to_length, up_to_more}

-- ---- a handle is spelled by characters of one byte

word_text : (h : Here) → next_char h ≡ 0x21 → text_up_to h (past_word h) ≡ 0x21 ∷ text_up_to (step h) (past_word h)
word_text h sign =
    up_to_more h (past_word h) (step_shortens (λ c. c == 0x21) h refl (ap (λ c. c == 0x21) sign))
    (past_len is_alpha (step h))
    ∙ ap (λ c. c ∷ text_up_to (step h) (past_word h)) sign

word_each : (h : Here) → Each is_uri_or_blank (text_up_to (step h) (past_word h))
word_each h =
    let r = all_over is_alpha no_alpha_nul (step h) in
    let is : text_up_to (step h) (past_word h) ≡ r.0 = ap (text_up_to (step h)) r.2
    ∙ text_over r.0 (over r.0 (step h)).unread.text (step h) r.1.whole in
    subst (Each is_uri_or_blank) (sym is) (each_as is_alpha is_uri_or_blank
    (λ c e. uri_part c (tag_uri c (alpha_tag c e))) r.0 r.1.each)

bytes_counted : (h after : Here) → Each is_uri_or_blank (text_up_to h after)
    → bytes_of (text_up_to h after) ≡ count_up_to h after
bytes_counted h after each = part_bytes (text_up_to h after) each ∙ up_to_length h after

sign_part : is_uri_or_blank 0x21 ≡ true
sign_part = uri_part 0x21 bang_uri

word_bytes : (h : Here) → next_char h ≡ 0x21 → bytes_of (text_up_to h (past_word h)) ≡ count_up_to h (past_word h)
word_bytes h sign = bytes_counted h (past_word h)
    (subst (Each is_uri_or_blank) (sym (word_text h sign)) (sign_part, word_each h))

handle_bytes : (h : Here) → next_char h ≡ 0x21 → next_char (past_word h) ≡ 0x21
    → bytes_of (text_up_to h (step (past_word h))) ≡ count_up_to h (step (past_word h))
handle_bytes h sign second =
    let each = each-append is_uri_or_blank (text_up_to (step h) (past_word h)) (0x21 ∷ []) (word_each h)
    (sign_part, tt) in
    bytes_counted h (step (past_word h)) (subst (Each is_uri_or_blank) (sym (handle_is h sign second))
    (sign_part, each))

-- a `!` and the word behind it
pub word_is : (h : Here) (front word : List ℕ) → next_char h ≡ 0x21 → front ≡ 0x21 ∷ []
    → word ≡ front ++ text_up_to (step h) (past_word h) → word ≡ text_up_to h (past_word h)
word_is h front word sign e is = is ∙ ap (λ (l : List ℕ). l ++ text_up_to (step h) (past_word h)) e
    ∙ sym (word_text h sign)

-- behind it, where a second `!` is taken or isn't there
pub handle_spelled : (h : Here) (Lands : Here → Type 0) (closed : Bool) (p : SpelledHandle) (word text : List ℕ)
    → next_char h ≡ 0x21 → word ≡ text_up_to h (past_word h)
    → ClosesTo {E = Unit {0}} (Ok closed) Lands word text (past_word h) → string_chars p.text ≡ text
    → p.bytes ≡ bytes_of text → p.ends ≡ (closed || (bytes_of word == 1)) → SpellsTo {E = Unit {0}} (Ok p) Lands h
handle_spelled h Lands true p word text sign is given t n e =
    let second : (next_char (past_word h) == 0x21) ≡ true = ap (λ c. c == 0x21) given.0 in
    let reach : past_handle h ≡ step (past_word h) =
    ap (λ (v : Bool). if v then step (past_word h) else past_word h) second in
    let whole : text ≡ text_up_to h (step (past_word h)) = given.2
    ∙ ap (λ (l : List ℕ). l ++ 0x21 ∷ []) (is ∙ word_text h sign) ∙ sym (handle_is h sign given.0) in (
      subst Lands (sym reach) given.1,
      t ∙ whole ∙ sym (ap (text_up_to h) reach),
      n ∙ ap bytes_of whole ∙ handle_bytes h sign given.0 ∙ sym (ap (count_up_to h) reach),
      e ∙ sym (ap (λ (v : Bool). v || (count_up_to h (past_word h) == 1)) second),
    )
handle_spelled h Lands false p word text sign is given t n e =
    let reach : past_handle h ≡ past_word h =
    ap (λ (v : Bool). if v then step (past_word h) else past_word h) given.0 in
    let whole : text ≡ text_up_to h (past_word h) = given.2 ∙ is in (
      subst Lands (sym reach) given.1,
      t ∙ whole ∙ sym (ap (text_up_to h) reach),
      n ∙ ap bytes_of whole ∙ word_bytes h sign ∙ sym (ap (count_up_to h) reach),
      e ∙ ap (λ (k : ℕ). k == 1) (ap bytes_of is ∙ word_bytes h sign)
          ∙ sym (ap (λ (v : Bool). v || (count_up_to h (past_word h) == 1)) given.0),
    )
