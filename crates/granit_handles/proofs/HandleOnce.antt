-- A `%TAG` that stands somewhere is answered.
use Rattle.std.proofs.Common.{◌≡◌, ℕ, suc, ◌+◌, ◌-◌, ◌≤◌, ◌==◌, Bool, true, false, ◌||◌, List, [], ◌∷◌, ◌++◌, length}
use Rattle.std.proofs.Common.{Option, Some, Result, Ok, refl, sym, ap, ap₂, ◌∙◌, subst, arith, append_assoc}
use Rattle.std.specs.Prelude.{if◌then◌else◌, nat_lt}
use Rattle.std.specs.Str.{encode_utf8_all}
use Rattle.std.proofs.lemmas.Bool.{cond-true, cond-false, and_parts}
use Rattle.std.proofs.lemmas.Bool.Decides.{nat_tests}
use Rattle.std.proofs.lemmas.Str.{encode_ascii, cons_from_encodes}
use lib.Utf8.{scalar, scalars}
use Rattle.granit_base.specs.Classes.{is_blank, is_blank_or_breakz, is_alpha, is_digit, is_word_char, is_uri_sign}
use Rattle.granit_base.specs.Classes.{is_uri_char, is_tag_char}
use Rattle.granit_base.specs.Place.{Mark, first}
use Rattle.granit_error.specs.FaultKind.{ExpectedTagDirectiveBang}
use Rattle.granit_lexemes.proofs.HereLemmas.{stepped_text}
use Rattle.granit_lexemes.specs.Gap.{Each}
use Rattle.granit_lexemes.specs.Here.{Here, next_char, step, past}
use Rattle.granit_lexemes.specs.Outcome.{Fault, ◌>>=◌}
use Rattle.granit_lexemes.specs.PlainExtent.{over}
use Rattle.granit_lexemes.specs.Basics.{fails_at}
use Rattle.granit_names.proofs.Runs.{over_text}
use Rattle.granit_names.proofs.Kept.{over-append}
use Rattle.granit_lexemes.specs.Basics.{count_up_to, text_up_to}
use Rattle.granit_lexemes.specs.Directive.{blanks_within, handle_by, handle_at, prefix_ends, prefix_at}
use Rattle.granit_lexemes.specs.Directive.{behind_handle_at, tag_directive}
use Rattle.granit_lexemes.specs.Lexeme.{TagPrefix}
use Rattle.granit_lexemes.specs.Tags.{Budget, spent, UriState, decoded}
use Rattle.granit_lexemes.specs.TagExtent.{SpellsBytes, itself, percent, SpellsText}
use Rattle.granit_lexemes.specs.DirectiveExtent.{bytes_of, SpellsHandle, named, alone, begins_prefix, PrefixStands}
use Rattle.granit_names.proofs.Runs.{count_over, text_over, past_run}
use Rattle.granit_names.proofs.Spelling.{uri_class, spelled_each}
use Rattle.granit_names.proofs.Escaped.{free}
use Rattle.granit_names.proofs.Decoded.{decoded_is}
use Rattle.granit_names.proofs.Kept.{held, Kept, same, passed, kept, kept_decoded}
pub use Rattle.granit_names.proofs.Kept.{each-append}
use Rattle.granit_names.proofs.TagLaw.{no_alpha_bang, blank_low}
pub use Rattle.granit_names.proofs.TagLaw.{alpha_tag, no_alpha_nul}
use Rattle.granit_handles.proofs.VersionLaw.{no_blank_nul}
use Rattle.granit_handles.proofs.ReservedLaw.{bytes-append}
use Rattle.granit_handles.proofs.HandleLaw.{is_uri_or_blank, tag_uri, blank_part, uri_part, each_as, part_bytes}
use Rattle.granit_handles.proofs.HandleLaw.{bang_uri}

uri_above : (c : ℕ) → is_uri_char c ≡ true → 0x21 ≤ c
unfolding is_uri_char is_uri_sign is_word_char is_digit
uri_above c e = grind (arith, nat_tests)

pub ends_no_uri : (c : ℕ) → is_blank_or_breakz c ≡ true → is_uri_char c ≡ false
ends_no_uri c e = by (is_uri_char c) refl
  where
    by : (v : Bool) → is_uri_char c ≡ v → is_uri_char c ≡ false
    by false p = p
    by true p = let a = uri_above c p in let b = blank_low c e in absurd (omega arith)

pub uri_no_blank : (c : ℕ) → is_uri_char c ≡ true → is_blank c ≡ false
unfolding is_blank
uri_no_blank c e = let a = uri_above c e in grind (arith, nat_tests)

-- ---- decoding within a limit that is enough

front_short : (front other source rest : List ℕ) → source ++ rest ≡ front ++ other → Each is_uri_char front
    → is_uri_char (first rest) ≡ false → length front ≤ length source
front_short [] other source rest e y n = omega arith
front_short (c ∷ front) other [] rest e y n = absurd
    (let t : is_uri_char (first rest) ≡ true = ap (λ (l : List ℕ). is_uri_char (first l)) e ∙ y.0 in cc)
front_short (c ∷ front) other (d ∷ source) rest e y n = let t : source ++ rest
    ≡ front ++ other = cc in let k = front_short front other source rest t y.1 n in omega arith

module _ (start : Mark) (limit : ℕ) where
  abbrev budget : ℕ → Option Budget
  budget left = Some (record { left = left; limit = limit })

  kept_is : (left : ℕ) (g : Here) (source text rest : List ℕ) → g.unread.text ≡ source ++ rest
      → is_uri_char (first rest) ≡ false → length source ≤ left → (r s : Result (List ℕ × UriState) Fault)
      → r ≡ Ok (text, free (over source g)) → Kept start limit left g r s
      → (more : ℕ) × (s ≡ Ok (text, held start limit more (over source g)))
  kept_is left g source text rest t n l r s e (same f) = absurd cc
  kept_is left g source text rest t n l r s e (passed front other y u m) = absurd
      (let k = front_short front other source rest (sym t ∙ u) y n in omega arith)
  kept_is left g source text rest t n l r s e (kept x front more y u m) =
      let pair : ◌≡◌ {A = List ℕ × UriState} (x, free (over front g)) (text, free (over source g)) = cc in (
        more,
        ap₂ (λ (a : List ℕ) (i : Here). Ok (a, held start limit more i)) (ap (λ (p : List ℕ × UriState). p.0) pair)
            (ap (λ (p : List ℕ × UriState). p.1.here) pair),
      )

  pub decoded_kept : (left : ℕ) (g : Here) (source text rest : List ℕ) → SpellsText is_uri_char source text
      → g.unread.text ≡ source ++ rest → is_uri_char (first rest) ≡ false → length source ≤ left
      → (more : ℕ) × (decoded is_uri_char start (budget left) g ≡ Ok (text, held start limit more (over source g)))
  decoded_kept left g source text rest s t n l = kept_is left g source text rest t n l _ _
      (decoded_is is_uri_char start uri_class text source rest g s t n) (kept_decoded start limit left g)

  spent_ok : (left n : ℕ) → n ≤ left → spent (budget left) n start ≡ Ok (budget (left - n))
  spent_ok left n l = let e : nat_lt left n ≡ false = grind (arith, nat_tests) in cond-false (nat_lt left n) _ _ e

  abbrev with_place : Here → Option Budget → Result (Option Budget × Here) Fault
  with_place i l = Ok (l, i)

  pub blanks_ok : (left : ℕ) (g : Here) (blanks rest : List ℕ) → g.unread.text ≡ blanks ++ rest → Each is_blank blanks
      → is_blank (first rest) ≡ false → length blanks ≤ left
      → blanks_within (budget left) start g ≡ Ok (budget (left - length blanks), over blanks g)
  blanks_ok left g blanks rest t y n l =
      ap (λ (i : Here). spent (budget left) (count_up_to g i) start >>= with_place i)
      (past_run is_blank no_blank_nul blanks rest g t y n)
      ∙ ap (λ k. spent (budget left) k start >>= with_place (over blanks g)) (count_over blanks rest g t)
      ∙ ap (λ r. r >>= with_place (over blanks g)) (spent_ok left (length blanks) l)

  -- ---- the handle

  abbrev by_handle : ℕ → Here → Here → ℕ → ℕ → Bool → Result (Option Budget × Here) Fault
  by_handle left place q n m v = spent (budget left) n start >>= λ l. if v
      || m == 1 then Ok (l, if v then step q else q) else fails_at ExpectedTagDirectiveBang start

  pub bang_at : (left : ℕ) (place : Here) (rest : List ℕ) → place.unread.text ≡ 0x21 ∷ rest
      → handle_at (budget left) start place ≡ handle_by (budget left) start place (past is_alpha (step place))
  unfolding handle_at
  bang_at left place rest t = cond-true (next_char place == 0x21) _ _ (ap (λ (l : List ℕ). first l == 0x21) t)

  pub second_is : (left : ℕ) (place q : Here) → (next_char q == 0x21) ≡ true → count_up_to place (step q) ≤ left
      → handle_by (budget left) start place q ≡ Ok (budget (left - count_up_to place (step q)), step q)
  unfolding handle_by
  second_is left place q e l =
      ap (λ v. by_handle left place q (count_up_to place (if v then step q else q)) (count_up_to place q) v) e
      ∙ ap (λ r. r >>= with_place (step q)) (spent_ok left (count_up_to place (step q)) l)

  pub lone_is : (left : ℕ) (place q : Here) → (next_char q == 0x21) ≡ false → count_up_to place q ≡ 1 → 1 ≤ left
      → handle_by (budget left) start place q ≡ Ok (budget (left - 1), q)
  unfolding handle_by
  lone_is left place q e k l =
      ap (λ v. by_handle left place q (count_up_to place (if v then step q else q)) (count_up_to place q) v) e
      ∙ ap (λ n. by_handle left place q n n false) k
      ∙ ap (λ r. r >>= with_place q) (spent_ok left 1 l)

  pub handle_is : (left : ℕ) (place : Here) (handle behind : List ℕ) → SpellsHandle handle behind
      → place.unread.text ≡ handle ++ behind → length handle ≤ left
      → handle_at (budget left) start place ≡ Ok (budget (left - length handle), over handle place)
  handle_is left place handle behind (named word y) t l =
      let q = over word (step place) in
      let u : place.unread.text ≡ 0x21 ∷ (word ++ 0x21 ∷ behind) = t
      ∙ ap (λ (k : List ℕ). 0x21 ∷ k) (append_assoc word (0x21 ∷ []) behind) in
      let v : (step place).unread.text ≡ word ++ 0x21 ∷ behind = stepped_text place 0x21 (word ++ 0x21 ∷ behind) u in
      let e : step q ≡ over (0x21 ∷ (word ++ 0x21 ∷ [])) place = sym (over-append word (0x21 ∷ []) (step place)) in
      let k : count_up_to place (step q) ≡ length (0x21 ∷ (word ++ 0x21 ∷ [])) = ap (count_up_to place) e
      ∙ count_over (0x21 ∷ (word ++ 0x21 ∷ [])) behind place t in
      bang_at left place (word ++ 0x21 ∷ behind) u
      ∙ ap (handle_by (budget left) start place)
      (past_run is_alpha no_alpha_nul word (0x21 ∷ behind) (step place) v y no_alpha_bang)
      ∙ second_is left place q (ap (λ (w : List ℕ). first w == 0x21) (over_text word (0x21 ∷ behind) (step place) v))
      (omega arith)
      ∙ ap₂ (λ n (i : Here). Ok (budget (left - n), i)) k e
  handle_is left place handle behind (alone n m) t l =
      let v : (step place).unread.text ≡ behind = stepped_text place 0x21 behind t in
      bang_at left place behind t
      ∙ ap (handle_by (budget left) start place) (past_run is_alpha no_alpha_nul [] behind (step place) v tt n)
      ∙ lone_is left place (step place) (ap (λ (w : List ℕ). first w == 0x21) v ∙ m)
      (count_over (0x21 ∷ []) behind place t) l

  -- ---- the prefix

  end_is : (handle text : List ℕ) (g : Here) → is_blank_or_breakz (next_char g) ≡ true
      → prefix_ends start handle text g ≡ Ok (TagPrefix handle text, g)
  end_is handle text g e = cond-true (is_blank_or_breakz (next_char g)) _ _ e

  pub record BehindBang (more text : List ℕ) : Type 0 where
    pub value : List ℕ
    pub is : text ≡ 0x21 ∷ value
    pub spells : SpellsText is_uri_char more value

  pub behind_bang : (c : ℕ) (more text row : List ℕ) → c ≡ 0x21 → SpellsBytes is_uri_char (c ∷ more) row
      → scalars text ≡ true → encode_utf8_all text ≡ row → BehindBang more text
  behind_bang c more text row z (itself {bytes = bs} y n p) s e =
      let k = cons_from_encodes text bs c (e ∙ ap (λ (l : List ℕ). l ++ bs)
      (sym (encode_ascii c (uri_class.small c y)))) in
      let parts = and_parts (scalar c) (scalars k.0) (ap scalars (sym k.1) ∙ s) in
      record {
        value = k.0;
        is = k.1 ∙ ap (λ d. d ∷ k.0) z;
        spells =
            record { bytes = bs; spells = p; scalar = parts.1; encodes = k.2 };
      }
  behind_bang c more text row z (percent y w p) s e = absurd (omega arith)

  module _ (left : ℕ) (g : Here) (handle rest : List ℕ) (e : is_blank_or_breakz (first rest) ≡ true) where
    bang_is : (more text : List ℕ) → SpellsText is_uri_char (0x21 ∷ more) text → g.unread.text ≡ 0x21 ∷ (more ++ rest)
        → suc (length more) ≤ left → prefix_at (budget left) start handle g
        ≡ Ok (TagPrefix handle text, over (0x21 ∷ more) g)
    unfolding prefix_at
    bang_is more text s t l =
        let b = behind_bang 0x21 more text s.bytes refl s.spells s.scalar s.encodes in
        let u : (step g).unread.text ≡ more ++ rest = stepped_text g 0x21 (more ++ rest) t in
        let d = decoded_kept (left - 1) (step g) more b.value rest b.spells u (ends_no_uri (first rest) e)
        (omega arith) in
        cond-true (next_char g == 0x21) _ _ (ap (λ (w : List ℕ). first w == 0x21) t)
        ∙ ap (λ r. r >>= λ left. decoded is_uri_char start left (step g) >>= λ x. prefix_ends start handle (0x21 ∷ x.0)
        x.1.here) (spent_ok left 1 (omega arith))
        ∙ ap (λ r. r >>= λ x. prefix_ends start handle (0x21 ∷ x.0) x.1.here) d.1
        ∙ end_is handle (0x21 ∷ b.value) (over more (step g))
        (ap (λ (w : List ℕ). is_blank_or_breakz (first w)) (over_text more rest (step g) u) ∙ e)
        ∙ ap (λ (w : List ℕ). Ok (TagPrefix handle w, over more (step g))) (sym b.is)

    char_is : (spelled text : List ℕ) → SpellsText is_uri_char spelled text → g.unread.text ≡ spelled ++ rest
        → length spelled ≤ left → (next_char g == 0x21) ≡ false → is_tag_char (next_char g) ≡ true
        → prefix_at (budget left) start handle g ≡ Ok (TagPrefix handle text, over spelled g)
    unfolding prefix_at
    char_is spelled text s t l n k =
        let d = decoded_kept left g spelled text rest s t (ends_no_uri (first rest) e) l in
        cond-false (next_char g == 0x21) _ _ n
        ∙ cond-true (is_tag_char (next_char g)) _ _ k
        ∙ ap (λ r. r >>= λ x. prefix_ends start handle x.0 x.1.here) d.1
        ∙ end_is handle text (over spelled g)
        (ap (λ (w : List ℕ). is_blank_or_breakz (first w)) (over_text spelled rest g t) ∙ e)

    prefix_by : (spelled text : List ℕ) → SpellsText is_uri_char spelled text → g.unread.text ≡ spelled ++ rest
        → length spelled ≤ left → begins_prefix (first spelled) ≡ true → (v : Bool) → (first spelled == 0x21) ≡ v
        → prefix_at (budget left) start handle g ≡ Ok (TagPrefix handle text, over spelled g)
    prefix_by [] text s t l b true f = absurd cc
    prefix_by [] text s t l b false f = absurd (let u = tag_uri 0 b in let n = uri_class.nul in cc)
    prefix_by (c ∷ more) text s t l b true f =
        let is : c ≡ 0x21 = grind (arith, nat_tests) in
        bang_is more text (subst (λ d. SpellsText is_uri_char (d ∷ more) text) is s)
        (t ∙ ap (λ d. d ∷ (more ++ rest)) is) l
    prefix_by (c ∷ more) text s t l b false f =
        let k : is_tag_char c ≡ true = ap (λ v. v || is_tag_char c) (sym f) ∙ b in
        char_is (c ∷ more) text s t l (ap (λ (w : List ℕ). first w == 0x21) t ∙ f)
        (ap (λ (w : List ℕ). is_tag_char (first w)) t ∙ k)

  -- ---- the directive

  pub handle_each : (handle behind : List ℕ) → SpellsHandle handle behind → Each is_uri_or_blank handle
  handle_each handle behind (named word y) = (
    uri_part 0x21 bang_uri,
    each-append is_uri_or_blank word (0x21 ∷ [])
        (each_as is_alpha is_uri_or_blank (λ c z. uri_part c (tag_uri c (alpha_tag c z))) word y)
        (uri_part 0x21 bang_uri, tt),
  )
  handle_each handle behind (alone n m) = (uri_part 0x21 bang_uri, tt)

  pub bang_blank : is_blank 0x21 ≡ false
  unfolding is_blank
  bang_blank = refl

  pub handle_no_blank : (handle behind : List ℕ) → SpellsHandle handle behind
      → is_blank (first (handle ++ behind)) ≡ false
  handle_no_blank handle behind (named word y) = bang_blank
  handle_no_blank handle behind (alone n m) = bang_blank

  pub prefix_no_blank : (spelled rest : List ℕ) → Each is_uri_char spelled → begins_prefix (first spelled) ≡ true
      → is_blank (first (spelled ++ rest)) ≡ false
  prefix_no_blank [] rest y b = absurd (let u = tag_uri 0 b in let n = uri_class.nul in cc)
  prefix_no_blank (c ∷ spelled) rest y b = uri_no_blank c y.0

  pub tag_is : (left : ℕ) (g : Here) (source handle text rest : List ℕ)
      → PrefixStands g.unread.text source handle text rest → is_blank_or_breakz (first rest) ≡ true
      → bytes_of source ≤ left → tag_directive (budget left) start g ≡ Ok (TagPrefix handle text, over source g)
  tag_is left g source handle text rest s e l =
      let hs = s.handle_is in
      let behind = s.gap ++ (s.spelled ++ rest) in
      let uris = spelled_each uri_class s.prefix_is.spells in
      let n1 = part_bytes s.blanks (each_as is_blank is_uri_or_blank blank_part s.blanks hs.each) in
      let n2 = part_bytes handle (handle_each handle behind hs.spells) in
      let n3 = part_bytes s.gap (each_as is_blank is_uri_or_blank blank_part s.gap s.each) in
      let n4 = part_bytes s.spelled (each_as is_uri_char is_uri_or_blank uri_part s.spelled uris) in
      let sum : bytes_of source ≡ length s.blanks + (length handle + (length s.gap + length s.spelled)) =
      ap bytes_of s.is ∙ omega (
        arith,
        bytes-append s.blanks (handle ++ (s.gap ++ s.spelled)),
        bytes-append handle
            (s.gap ++ s.spelled),
        bytes-append s.gap s.spelled,
      ) in
      let p = over s.blanks g in
      let t1 : p.unread.text ≡ handle ++ behind = over_text s.blanks (handle ++ behind) g hs.whole in
      let q = over handle p in
      let t2 : q.unread.text ≡ behind = over_text handle behind p t1 in
      let i = over s.gap q in
      let t3 : i.unread.text ≡ s.spelled ++ rest = over_text s.gap (s.spelled ++ rest) q t2 in
      let a = left - length s.blanks in
      let b = a - length handle in
      let c = b - length s.gap in
      ap (λ r. r >>= λ x. handle_at x.0 start x.1 >>= behind_handle_at start x.1)
      (blanks_ok left g s.blanks (handle ++ behind) hs.whole hs.each (handle_no_blank handle behind hs.spells)
      (omega arith))
      ∙ ap (λ r. r >>= behind_handle_at start p) (handle_is a p handle behind hs.spells t1 (omega arith))
      ∙ ap (λ r. r >>= λ x. prefix_at x.0 start (text_up_to p q) x.1)
      (blanks_ok b q s.gap (s.spelled ++ rest) t2 s.each (prefix_no_blank s.spelled rest uris s.begins) (omega arith))
      ∙ ap (λ (w : List ℕ). prefix_at (budget c) start w i) (text_over handle behind p t1)
      ∙ prefix_by c i handle rest e s.spelled text s.prefix_is t3 (omega arith) s.begins (first s.spelled == 0x21) refl
      ∙ ap (λ (j : Here). Ok (TagPrefix handle text, j))
      (sym (over-append s.gap s.spelled q) ∙ sym (over-append handle (s.gap ++ s.spelled) p)
      ∙ sym (over-append s.blanks (handle ++ (s.gap ++ s.spelled)) g) ∙ ap (λ (w : List ℕ). over w g) (sym s.is))
