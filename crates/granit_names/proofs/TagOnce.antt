-- A tag that stands somewhere is the only one there, and is answered.
use Rattle.std.proofs.Common.{◌≡◌, ◌≢◌, ℕ, ◌==◌, Bool, true, false, not, List, [], ◌∷◌, ◌++◌, length, Result, Ok, refl}
use Rattle.std.proofs.Common.{sym, ap, ap₂, ◌∙◌, subst, append_assoc}
use Rattle.std.specs.Prelude.{slice_index}
use Rattle.std.specs.Str.{encode_utf8_all}
use Rattle.std.proofs.lemmas.Bool.{cond-true, cond-false, and_parts}
use Rattle.std.proofs.lemmas.List.{append_cancel_right}
use Rattle.std.proofs.lemmas.Str.{encode_ascii, cons_from_encodes}
use lib.Utf8.{scalar, scalars}
use Rattle.granit_base.specs.Classes.{is_uri_char, is_tag_char, is_alpha}
use Rattle.granit_base.specs.Place.{first}
use Rattle.granit_lexemes.proofs.HereLemmas.{stepped_text}
use Rattle.granit_lexemes.specs.Gap.{Each}
use Rattle.granit_lexemes.specs.Here.{Here, next_char, mark_of, step}
use Rattle.granit_lexemes.specs.Moves.{steps}
use Rattle.granit_lexemes.specs.Outcome.{Fault, ◌>>=◌}
use Rattle.granit_lexemes.specs.PlainExtent.{over}
use Rattle.granit_scalars.proofs.QuotedEscapes.{over_text}
pub use Rattle.granit_scalars.proofs.Stepping.{over-append}
use Rattle.granit_lexemes.specs.Basics.{text_up_to}
use Rattle.granit_lexemes.specs.Tags.{TagRead, tag_of, tag_ends, behind_verbatim, behind_handle, short_tag, tag_by}
use Rattle.granit_lexemes.specs.Tags.{tag_at}
use Rattle.granit_lexemes.specs.TagExtent.{SpellsBytes, itself, percent, SpellsText, SpellsTag, verbatim, named}
use Rattle.granit_lexemes.specs.TagExtent.{primary, alone, ends_tag, TagStands, AnswersTag}
use Rattle.granit_names.proofs.Runs.{run_of, past_run, text_over}
use Rattle.granit_names.proofs.Spelling.{uri_class, tag_class, empty_spells, spelled_each}
use Rattle.granit_names.proofs.Decoded.{decoded_is}
use Rattle.granit_names.proofs.TagLaw.{no_alpha_nul, no_alpha_bang, no_uri_close, ends_no_tag, ends_no_alpha}
use Rattle.granit_names.proofs.TagLaw.{ends_no_sign, alpha_tag, alpha_itself, tag_no_angle, tag_no_bang, spells_nothing}
use Rattle.granit_names.proofs.TagLaw.{some_is}

-- a tag that may end is answered
end_answers : (in_flow : Bool) (h : Here) (kind : TagRead) (g : Here) → ends_tag in_flow (next_char g) ≡ true
    → tag_ends in_flow (mark_of h) kind g ≡ Ok (kind, g)
unfolding tag_ends ends_tag
end_answers in_flow h kind g e = cond-true (ends_tag in_flow (next_char g)) _ _ e

-- ---- `!<`

verbatim_behind : (in_flow : Bool) (h g : Here) (suffix rest : List ℕ) → (length suffix == 0) ≡ false
    → g.unread.text ≡ 0x3E ∷ rest → ends_tag in_flow (first rest) ≡ true
    → behind_verbatim in_flow (mark_of h) suffix g ≡ Ok (tag_of [] suffix, step g)
verbatim_behind in_flow h g suffix rest some t e =
    cond-false (length suffix == 0) _ _ some
    ∙ cond-false (not (next_char g == 0x3E)) _ _ (ap (λ (l : List ℕ). not (first l == 0x3E)) t)
    ∙ end_answers in_flow h (tag_of [] suffix) (step g)
    (ap (λ (l : List ℕ). ends_tag in_flow (first l)) (stepped_text g 0x3E rest t) ∙ e)

verbatim_is : (in_flow : Bool) (h : Here) (uri suffix rest : List ℕ) → uri ≢ [] → SpellsText is_uri_char uri suffix
    → h.unread.text ≡ 0x21 ∷ 0x3C ∷ (uri ++ 0x3E ∷ rest) → ends_tag in_flow (first rest) ≡ true
    → tag_at in_flow h ≡ Ok (tag_of [] suffix, over (0x21 ∷ 0x3C ∷ (uri ++ 0x3E ∷ [])) h)
unfolding tag_at steps
verbatim_is in_flow h uri suffix rest some s t e =
    let g = step (step h) in
    let u : g.unread.text ≡ uri ++ 0x3E ∷ rest = over_text (0x21 ∷ 0x3C ∷ []) (uri ++ 0x3E ∷ rest) h t in
    cond-true (slice_index h.unread.text 1 == 0x3C) _ _ (ap (λ (l : List ℕ). slice_index l 1 == 0x3C) t)
    ∙ ap (λ r. r >>= λ x. behind_verbatim in_flow (mark_of h) x.0 x.1.here)
    (decoded_is is_uri_char (mark_of h) uri_class suffix uri (0x3E ∷ rest) g s u no_uri_close)
    ∙ verbatim_behind in_flow h (over uri g) suffix rest (some_is suffix (λ z. some (spells_nothing uri suffix s z)))
    (over_text uri (0x3E ∷ rest) g u) e
    ∙ ap (λ (i : Here). Ok (tag_of [] suffix, i)) (sym (over-append uri (0x3E ∷ []) g))

-- ---- `!` and a word

-- a tag that isn't verbatim, by the word behind its `!`
pub by_word : (in_flow : Bool) (h : Here) (word rest : List ℕ) → h.unread.text ≡ 0x21 ∷ (word ++ rest)
    → (first (word ++ rest) == 0x3C) ≡ false → Each is_alpha word → is_alpha (first rest) ≡ false
    → tag_at in_flow h ≡ tag_by in_flow h (over word (step h))
unfolding tag_at
by_word in_flow h word rest t n y m =
    cond-false (slice_index h.unread.text 1 == 0x3C) _ _ (ap (λ (l : List ℕ). slice_index l 1 == 0x3C) t ∙ n)
    ∙ ap (tag_by in_flow h) (past_run is_alpha no_alpha_nul word rest (step h) (stepped_text h 0x21 (word ++ rest) t) y
    m)

pub alpha_no_angle : (word rest : List ℕ) → Each is_alpha word → (first rest == 0x3C) ≡ false
    → (first (word ++ rest) == 0x3C) ≡ false
alpha_no_angle [] rest y n = n
alpha_no_angle (c ∷ word) rest y n = tag_no_angle c (alpha_tag c y.0)

named_is : (in_flow : Bool) (h : Here) (word source suffix rest : List ℕ) → Each is_alpha word → source ≢ []
    → SpellsText is_tag_char source suffix → h.unread.text ≡ 0x21 ∷ (word ++ 0x21 ∷ (source ++ rest))
    → ends_tag in_flow (first rest) ≡ true
    → tag_at in_flow h ≡ Ok (tag_of (0x21 ∷ (word ++ 0x21 ∷ [])) suffix, over (0x21 ∷ (word ++ 0x21 ∷ source)) h)
named_is in_flow h word source suffix rest y some s t e =
    let w = over word (step h) in
    let behind : w.unread.text ≡ 0x21 ∷ (source ++ rest) = over_text (0x21 ∷ word) (0x21 ∷ (source ++ rest)) h t in
    let u : (step w).unread.text ≡ source ++ rest = stepped_text w 0x21 (source ++ rest) behind in
    let handle : text_up_to h (step w) ≡ 0x21 ∷ (word ++ 0x21 ∷ []) =
    ap (text_up_to h) (sym (over-append word (0x21 ∷ []) (step h)))
    ∙ text_over (0x21 ∷ (word ++ 0x21 ∷ [])) (source ++ rest) h
    (t ∙ ap (λ (l : List ℕ). 0x21 ∷ l) (sym (append_assoc word (0x21 ∷ []) (source ++ rest)))) in
    by_word in_flow h word (0x21 ∷ (source ++ rest)) t (alpha_no_angle word (0x21 ∷ (source ++ rest)) y refl) y
    no_alpha_bang
    ∙ cond-true (next_char w == 0x21) _ _ (ap (λ (l : List ℕ). first l == 0x21) behind)
    ∙ ap (λ r. r >>= λ x. behind_handle in_flow (mark_of h) (text_up_to h (step w)) x.0 x.1.here)
    (decoded_is is_tag_char (mark_of h) tag_class suffix source rest (step w) s u (ends_no_tag in_flow (first rest) e))
    ∙ cond-false (length suffix == 0) _ _ (some_is suffix (λ z. some (spells_nothing source suffix s z)))
    ∙ ap (λ (l : List ℕ). tag_ends in_flow (mark_of h) (tag_of l suffix) (over source (step w))) handle
    ∙ end_answers in_flow h (tag_of (0x21 ∷ (word ++ 0x21 ∷ [])) suffix) (over source (step w))
    (ap (λ (l : List ℕ). ends_tag in_flow (first l)) (over_text source rest (step w) u) ∙ e)
    ∙ ap (λ (i : Here). Ok (tag_of (0x21 ∷ (word ++ 0x21 ∷ [])) suffix, i))
    (sym (over-append word (0x21 ∷ source) (step h)))

-- what a word in front spells is that word
pub record WordFront (word more text : List ℕ) : Type 0 where
  pub value : List ℕ
  pub is : text ≡ word ++ value
  pub spells : SpellsText is_tag_char more value

one_letter : (c : ℕ) (more text row : List ℕ) → is_alpha c ≡ true → SpellsBytes is_tag_char (c ∷ more) row
    → scalars text ≡ true → encode_utf8_all text ≡ row → WordFront (c ∷ []) more text
one_letter c more text row y (itself {bytes = bs} z n p) s e =
    let small = tag_class.small c z in
    let k = cons_from_encodes text bs c (e ∙ ap (λ (l : List ℕ). l ++ bs) (sym (encode_ascii c small))) in
    let parts = and_parts (scalar c) (scalars k.0) (ap scalars (sym k.1) ∙ s) in
    record { value = k.0; is = k.1; spells = record { bytes = bs; spells = p; scalar = parts.1; encodes = k.2 } }
one_letter c more text row y (percent z w p) s e = absurd (let n = alpha_itself 0x25 y in cc)

pub word_front : (word more text : List ℕ) → Each is_alpha word → SpellsText is_tag_char (word ++ more) text
    → WordFront word more text
word_front [] more text y s = record { value = text; is = refl; spells = s }
word_front (c ∷ word) more text y s =
    let one = one_letter c (word ++ more) text s.bytes y.0 s.spells s.scalar s.encodes in
    let all = word_front word more one.value y.1 one.spells in
    record { value = all.value; is = one.is ∙ ap (λ (l : List ℕ). c ∷ l) all.is; spells = all.spells }

first_no_bang : (in_flow : Bool) (more rest : List ℕ) → Each is_tag_char more → ends_tag in_flow (first rest) ≡ true
    → (first (more ++ rest) == 0x21) ≡ false
first_no_bang in_flow [] rest y e = (ends_no_sign in_flow (first rest) e).1
first_no_bang in_flow (c ∷ more) rest y e = tag_no_bang c y.0

first_no_angle : (in_flow : Bool) (more rest : List ℕ) → Each is_tag_char more → ends_tag in_flow (first rest) ≡ true
    → (first (more ++ rest) == 0x3C) ≡ false
first_no_angle in_flow [] rest y e = (ends_no_sign in_flow (first rest) e).0
first_no_angle in_flow (c ∷ more) rest y e = tag_no_angle c y.0

first_no_alpha : (in_flow : Bool) (more rest : List ℕ) → is_alpha (first more) ≡ false
    → ends_tag in_flow (first rest) ≡ true → is_alpha (first (more ++ rest)) ≡ false
first_no_alpha in_flow [] rest n e = ends_no_alpha in_flow (first rest) e
first_no_alpha in_flow (c ∷ more) rest n e = n

short_is : (in_flow : Bool) (h : Here) (source suffix rest : List ℕ) → SpellsText is_tag_char source suffix
    → h.unread.text ≡ 0x21 ∷ (source ++ rest) → ends_tag in_flow (first rest) ≡ true
    → tag_at in_flow h ≡ Ok (short_tag suffix, over (0x21 ∷ source) h)
short_is in_flow h source suffix rest s t e =
    let r = run_of is_alpha no_alpha_nul source in
    let b = word_front r.front r.rest suffix r.each
    (subst (λ (l : List ℕ). SpellsText is_tag_char l suffix) r.whole s) in
    let w = over r.front (step h) in
    let whole : h.unread.text ≡ 0x21 ∷ (r.front ++ (r.rest ++ rest)) = t
    ∙ ap (λ (l : List ℕ). 0x21 ∷ (l ++ rest)) r.whole
    ∙ ap (λ (l : List ℕ). 0x21 ∷ l) (append_assoc r.front r.rest rest) in
    let behind : (step h).unread.text ≡ r.front
    ++ (r.rest ++ rest) = stepped_text h 0x21 (r.front ++ (r.rest ++ rest)) whole in
    let u : w.unread.text ≡ r.rest ++ rest = over_text r.front (r.rest ++ rest) (step h) behind in
    let n : (first (r.front ++ (r.rest ++ rest)) == 0x3C) ≡ false =
    ap (λ (l : List ℕ). first l == 0x3C) (sym (append_assoc r.front r.rest rest)
    ∙ ap (λ (l : List ℕ). l ++ rest) (sym r.whole))
    ∙ first_no_angle in_flow source rest (spelled_each tag_class s.spells) e in
    by_word in_flow h r.front (r.rest ++ rest) whole n r.each (first_no_alpha in_flow r.rest rest r.all e)
    ∙ cond-false (next_char w == 0x21) _ _ (ap (λ (l : List ℕ). first l == 0x21) u
    ∙ first_no_bang in_flow r.rest rest (spelled_each tag_class b.spells.spells) e)
    ∙ ap (λ x. x >>= λ x. tag_ends in_flow (mark_of h) (short_tag (text_up_to (step h) w ++ x.0)) x.1.here)
    (decoded_is is_tag_char (mark_of h) tag_class b.value r.rest rest w b.spells u (ends_no_tag in_flow (first rest) e))
    ∙ ap (λ (l : List ℕ). tag_ends in_flow (mark_of h) (short_tag l) (over r.rest w))
    (ap (λ (l : List ℕ). l ++ b.value) (text_over r.front (r.rest ++ rest) (step h) behind) ∙ sym b.is)
    ∙ end_answers in_flow h (short_tag suffix) (over r.rest w)
    (ap (λ (l : List ℕ). ends_tag in_flow (first l)) (over_text r.rest rest w u) ∙ e)
    ∙ ap (λ (i : Here). Ok (short_tag suffix, i))
    (sym (over-append r.front r.rest (step h)) ∙ ap (λ (l : List ℕ). over l (step h)) (sym r.whole))

short_some : (suffix : List ℕ) → suffix ≢ [] → short_tag suffix ≡ tag_of (0x21 ∷ []) suffix
short_some [] n = absurd (n refl)
short_some (c ∷ cs) n = refl

-- ---- any tag

spelled_is : (in_flow : Bool) (h : Here) (source handle suffix rest : List ℕ) → SpellsTag source handle suffix
    → h.unread.text ≡ source ++ rest → ends_tag in_flow (first rest) ≡ true
    → tag_at in_flow h ≡ Ok (tag_of handle suffix, over source h)
spelled_is in_flow h source handle suffix rest (verbatim {uri} some s) t e =
    verbatim_is in_flow h uri suffix rest some s
    (t ∙ ap (λ (l : List ℕ). 0x21 ∷ 0x3C ∷ l) (append_assoc uri (0x3E ∷ []) rest)) e
spelled_is in_flow h source handle suffix rest (named {source = more} word y some s) t e =
    named_is in_flow h word more suffix rest y some s
    (t ∙ ap (λ (l : List ℕ). 0x21 ∷ l) (append_assoc word (0x21 ∷ more) rest)) e
spelled_is in_flow h source handle suffix rest (primary {source = more} some s) t e =
    short_is in_flow h more suffix rest s t e
    ∙ ap (λ (k : TagRead). Ok (k, over (0x21 ∷ more) h))
    (short_some suffix (λ z. some (spells_nothing more suffix s z)))
spelled_is in_flow h source handle suffix rest alone t e = short_is in_flow h [] [] rest (empty_spells is_tag_char) t e

pub tag_is : (in_flow : Bool) (h : Here) (kind : TagRead) (after : Here) → AnswersTag in_flow h kind after
    → tag_at in_flow h ≡ Ok (kind, after)
tag_is in_flow h kind after a =
    spelled_is in_flow h a.source a.handle a.suffix a.rest a.stands.spells a.stands.whole a.stands.ends
    ∙ ap₂ (λ (k : TagRead) (g : Here). Ok (k, g)) (sym a.answer) (sym a.reached)

-- a tag as one: its characters, its handle, what it spells, and what stands behind it
pub record TagForm : Type 0 where
  pub source : List ℕ
  pub handle : List ℕ
  pub suffix : List ℕ
  pub rest : List ℕ

abbrev TagIsAt : Bool → Here → TagForm → Type 0
TagIsAt in_flow h x = TagStands in_flow h x.source x.handle x.suffix x.rest

abbrev tag_of_form : TagForm → TagRead
tag_of_form x = tag_of x.handle x.suffix

form_read : (in_flow : Bool) (h : Here) (x : TagForm) → TagIsAt in_flow h x
    → tag_at in_flow h ≡ Ok (tag_of_form x, over x.source h)
form_read in_flow h x p = spelled_is in_flow h x.source x.handle x.suffix x.rest p.spells p.whole p.ends

pub one_tag_stands : (in_flow : Bool) (h : Here) (x y : TagForm) → TagIsAt in_flow h x → TagIsAt in_flow h y
    → (x.source ≡ y.source) × (x.handle ≡ y.handle) × (x.suffix ≡ y.suffix) × (x.rest ≡ y.rest)
one_tag_stands in_flow h x y p q =
    let e : ◌≡◌ {A = Result (TagRead × Here) Fault} (Ok (tag_of_form x, over x.source h))
    (Ok (tag_of_form y, over y.source h)) =
    sym (form_read in_flow h x p) ∙ form_read in_flow h y q in
    let pair : ◌≡◌ {A = TagRead × Here} (tag_of_form x, over x.source h) (tag_of_form y, over y.source h) = cc in
    let kind : tag_of_form x ≡ tag_of_form y = ap (λ (t : TagRead × Here). t.0) pair in
    let place : over x.source h ≡ over y.source h = ap (λ (t : TagRead × Here). t.1) pair in
    let r : x.rest ≡ y.rest = sym (over_text x.source x.rest h p.whole) ∙ ap (λ (g : Here). g.unread.text) place
    ∙ over_text y.source y.rest h q.whole in
    let joined : x.source ++ x.rest ≡ y.source ++ x.rest = sym p.whole ∙ q.whole
    ∙ ap (λ (l : List ℕ). y.source ++ l) (sym r) in (
      append_cancel_right x.source y.source x.rest joined,
      ap (λ (t : TagRead). t.handle) kind,
      ap (λ (t : TagRead). t.suffix) kind,
      r,
    )
