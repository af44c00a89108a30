-- What is wrong in `%TAG` is refused where it stands within the limit, and the limit where it is passed before.
use Rattle.std.proofs.Common.{◌≡◌, ◌≢◌, ℕ, zero, suc, ◌+◌, ◌-◌, ◌<◌, ◌≤◌, ◌==◌, Bool, true, false, ◌||◌, List, [], ◌∷◌}
use Rattle.std.proofs.Common.{◌++◌}
use Rattle.std.proofs.Common.{length, Option, Result, Ok, Err, refl, sym, ap, ◌∙◌, arith}
use Rattle.std.proofs.Common.{append_assoc, length-append, ◌⊎◌, inl, inr}
use Rattle.std.specs.Prelude.{if◌then◌else◌}
use Rattle.std.proofs.lemmas.Bool.{cond-true, cond-false, cases_lt}
use Rattle.std.proofs.lemmas.Bool.Decides.{nat_tests}
use Rattle.granit_base.specs.Classes.{is_blank, is_blank_or_breakz, is_alpha, is_uri_char, is_tag_char}
use Rattle.granit_base.specs.Place.{Mark, first}
use Rattle.granit_error.specs.FaultKind.{FaultKind, ExpectedTagDirectiveBang}
use Rattle.granit_error.specs.FaultKind.{InvalidGlobalTagCharacter, InvalidTagDirectiveTerminator}
use Rattle.granit_lexemes.proofs.HereLemmas.{stepped_text}
use Rattle.granit_lexemes.specs.Basics.{count_up_to, text_up_to}
use Rattle.granit_lexemes.specs.Directive.{blanks_within, handle_by, handle_at, prefix_ends, prefix_at}
use Rattle.granit_lexemes.specs.Directive.{behind_handle_at, tag_directive}
use Rattle.granit_lexemes.specs.DirectiveExtent.{SpellsHandle, named, alone, HandleStands}
use Rattle.granit_lexemes.specs.DirectiveExtent.{begins_prefix, WrongPrefix, no_bang, no_second}
use Rattle.granit_lexemes.specs.DirectiveExtent.{no_prefix, wrong_escape, unended}
use Rattle.granit_lexemes.specs.Gap.{Each}
use Rattle.granit_lexemes.specs.Here.{Here, next_char, step}
use Rattle.granit_lexemes.specs.Lexeme.{DirectiveKind}
use Rattle.granit_lexemes.specs.Outcome.{Fault, fault_at, ◌>>=◌}
use Rattle.granit_lexemes.specs.PlainExtent.{over}
use Rattle.granit_lexemes.specs.TagExtent.{SpellsText, WrongEscapes}
use Rattle.granit_lexemes.specs.Tags.{Budget, spent, UriState, decoded}
use Rattle.granit_lexemes.specs.DirectiveCause.{escapes_read, prefix_read}
use Rattle.granit_handles.proofs.HandleLaw.{tag_uri, bang_uri}
use Rattle.granit_handles.proofs.HandleOnce.{uri_no_blank, blanks_ok, bang_at, handle_is, decoded_kept, handle_no_blank}
use Rattle.granit_handles.proofs.HandleOnce.{behind_bang, bang_blank}
use Rattle.granit_names.proofs.LimitedEscapes.{spent_within, spent_over}
pub use Rattle.granit_names.proofs.LimitedEscapes.{Limit, room}
use Rattle.granit_handles.proofs.LimitedPrefix.{decode, decode_fails, decode_passes, decode_long}
use Rattle.granit_names.proofs.Runs.{count_over, text_over, past_run}
use Rattle.granit_names.proofs.Spelling.{uri_class}
use Rattle.granit_names.proofs.TagLaw.{no_alpha_nul, no_alpha_bang}
use Rattle.granit_handles.proofs.VersionLaw.{no_blank_nul}
use Rattle.granit_names.proofs.Runs.{over_text}
use Rattle.granit_names.proofs.Kept.{over-append}

module _ (start : Mark) (limit : ℕ) where
  abbrev with_place : Here → Option Budget → Result (Option Budget × Here) Fault
  with_place i l = Ok (l, i)

  blanks_over : (left : ℕ) (g : Here) (blanks rest : List ℕ) → g.unread.text ≡ blanks ++ rest → Each is_blank blanks
      → is_blank (first rest) ≡ false → left < length blanks
      → blanks_within (room start limit left) start g ≡ Limit start limit
  blanks_over left g blanks rest t y n l =
      ap (λ (i : Here). spent (room start limit left) (count_up_to g i) start >>= with_place i)
      (past_run is_blank no_blank_nul blanks rest g t y n)
      ∙ ap (λ k. spent (room start limit left) k start >>= with_place (over blanks g)) (count_over blanks rest g t)
      ∙ ap (λ r. r >>= with_place (over blanks g)) (spent_over start limit left (length blanks) l)

  -- ---- the handle

  second_over : (left : ℕ) (place q : Here) → (next_char q == 0x21) ≡ true → left < count_up_to place (step q)
      → handle_by (room start limit left) start place q ≡ Limit start limit
  unfolding handle_by
  second_over left place q e l =
      ap (λ (v : Bool). spent (room start limit left) (count_up_to place (if v then step q else q)) start >>= λ b.
      if (next_char q == 0x21) || count_up_to place q == 1 then with_place (if next_char q == 0x21 then step q else q) b
      else Err (fault_at ExpectedTagDirectiveBang start)) e
      ∙ ap (λ r. r >>= λ b.
      if (next_char q == 0x21) || count_up_to place q == 1 then with_place (if next_char q == 0x21 then step q else q) b
      else Err (fault_at ExpectedTagDirectiveBang start)) (spent_over start limit left (count_up_to place (step q)) l)

  lone_over : (left : ℕ) (place q : Here) → (next_char q == 0x21) ≡ false → left < count_up_to place q
      → handle_by (room start limit left) start place q ≡ Limit start limit
  unfolding handle_by
  lone_over left place q e l =
      ap (λ (v : Bool). spent (room start limit left) (count_up_to place (if v then step q else q)) start >>= λ b.
      if (next_char q == 0x21) || count_up_to place q == 1 then with_place (if next_char q == 0x21 then step q else q) b
      else Err (fault_at ExpectedTagDirectiveBang start)) e
      ∙ ap (λ r. r >>= λ b.
      if (next_char q == 0x21) || count_up_to place q == 1 then with_place (if next_char q == 0x21 then step q else q) b
      else Err (fault_at ExpectedTagDirectiveBang start)) (spent_over start limit left (count_up_to place q) l)

  -- a word without a second `!`
  lone_fails : (left : ℕ) (place q : Here) → (next_char q == 0x21) ≡ false → (count_up_to place q == 1) ≡ false
      → count_up_to place q ≤ left
      → handle_by (room start limit left) start place q ≡ Err (fault_at ExpectedTagDirectiveBang start)
  unfolding handle_by
  lone_fails left place q e n l =
      ap (λ (v : Bool). spent (room start limit left) (count_up_to place (if v then step q else q)) start >>= λ b.
      if v || count_up_to place q == 1 then with_place (if v then step q else q) b
      else Err (fault_at ExpectedTagDirectiveBang start)) e
      ∙ ap (λ r. r >>= λ b. if count_up_to place q == 1 then with_place q b
      else Err (fault_at ExpectedTagDirectiveBang start)) (spent_within start limit left (count_up_to place q) l)
      ∙ cond-false (count_up_to place q == 1) _ _ n

  handle_over : (left : ℕ) (place : Here) (handle behind : List ℕ) → SpellsHandle handle behind
      → place.unread.text ≡ handle ++ behind → left < length handle
      → handle_at (room start limit left) start place ≡ Limit start limit
  handle_over left place handle behind (named word y) t l =
      let q = over word (step place) in
      let u : place.unread.text ≡ 0x21 ∷ (word ++ 0x21 ∷ behind) = t
      ∙ ap (λ (k : List ℕ). 0x21 ∷ k) (append_assoc word (0x21 ∷ []) behind) in
      let v : (step place).unread.text ≡ word ++ 0x21 ∷ behind = stepped_text place 0x21 (word ++ 0x21 ∷ behind) u in
      let e : step q ≡ over (0x21 ∷ (word ++ 0x21 ∷ [])) place = sym (over-append word (0x21 ∷ []) (step place)) in
      let k : count_up_to place (step q) ≡ length (0x21 ∷ (word ++ 0x21 ∷ [])) = ap (count_up_to place) e
      ∙ count_over (0x21 ∷ (word ++ 0x21 ∷ [])) behind place t in
      bang_at start limit left place (word ++ 0x21 ∷ behind) u
      ∙ ap (handle_by (room start limit left) start place)
      (past_run is_alpha no_alpha_nul word (0x21 ∷ behind) (step place) v y no_alpha_bang)
      ∙ second_over left place q (ap (λ (w : List ℕ). first w == 0x21) (over_text word (0x21 ∷ behind) (step place) v))
      (omega arith)
  handle_over left place handle behind (alone n m) t l =
      let v : (step place).unread.text ≡ behind = stepped_text place 0x21 behind t in
      let k : count_up_to place (step place) ≡ 1 = count_over (0x21 ∷ []) behind place t in
      bang_at start limit left place behind t
      ∙ ap (handle_by (room start limit left) start place)
      (past_run is_alpha no_alpha_nul [] behind (step place) v tt n)
      ∙ lone_over left place (step place) (ap (λ (w : List ℕ). first w == 0x21) v ∙ m) (omega arith)

  module _ (left : ℕ) (place : Here) (word rest : List ℕ) (t : place.unread.text ≡ 0x21 ∷ (word ++ rest))
      (y : Each is_alpha word) (n : is_alpha (first rest) ≡ false) (m : (first rest == 0x21) ≡ false) where
    word_text : (step place).unread.text ≡ word ++ rest
    word_text = stepped_text place 0x21 (word ++ rest) t

    word_by : handle_at (room start limit left) start place
        ≡ handle_by (room start limit left) start place (over word (step place))
    word_by = bang_at start limit left place (word ++ rest) t
        ∙ ap (handle_by (room start limit left) start place)
        (past_run is_alpha no_alpha_nul word rest (step place) word_text y n)

    no_bang_behind : (next_char (over word (step place)) == 0x21) ≡ false
    no_bang_behind = ap (λ (w : List ℕ). first w == 0x21) (over_text word rest (step place) word_text) ∙ m

    counted : count_up_to place (over word (step place)) ≡ suc (length word)
    counted = count_over (0x21 ∷ word) rest place t

    some_word : word ≢ [] → (suc (length word) == 1) ≡ false
    some_word some = by word some
      where
        by : (w : List ℕ) → w ≢ [] → (suc (length w) == 1) ≡ false
        by [] s = absurd (s refl)
        by (c ∷ w) s = grind (arith, nat_tests)

    word_fails : word ≢ [] → suc (length word) ≤ left
        → handle_at (room start limit left) start place ≡ Err (fault_at ExpectedTagDirectiveBang start)
    word_fails some l =
        let k = counted in
        word_by ∙ lone_fails left place (over word (step place)) no_bang_behind
        (ap (λ i. i == 1) k ∙ some_word some) (omega arith)

    word_over : left < suc (length word) → handle_at (room start limit left) start place ≡ Limit start limit
    word_over l = let k = counted in word_by ∙ lone_over left place (over word (step place)) no_bang_behind
        (omega arith)

  -- ---- the prefix

  begins_none : (c : ℕ) → begins_prefix c ≡ false → ((c == 0x21) ≡ false) × (is_tag_char c ≡ false)
  begins_none c e = by (c == 0x21) (is_tag_char c) e
    where
      by : (a b : Bool) → (a || b) ≡ false → (a ≡ false) × (b ≡ false)
      by false false p = (refl, refl)
      by false true p = absurd cc
      by true b p = absurd cc

  begins_char : (c : ℕ) → begins_prefix c ≡ true → (c == 0x21) ≡ false → is_tag_char c ≡ true
  begins_char c e n = ap (λ v. v || is_tag_char c) (sym n) ∙ e

  module _ (left : ℕ) (g : Here) (handle : List ℕ) where
    abbrev at : Result (DirectiveKind × Here) Fault
    at = prefix_at (room start limit left) start handle g

    prefix_none : begins_prefix (next_char g) ≡ false → at ≡ Err (fault_at InvalidGlobalTagCharacter start)
    unfolding prefix_at
    prefix_none e =
        let p = begins_none (next_char g) e in
        cond-false (next_char g == 0x21) _ _ p.0 ∙ cond-false (is_tag_char (next_char g)) _ _ p.1

    abbrev behind_text : List ℕ × UriState → Result (DirectiveKind × Here) Fault
    behind_text x = prefix_ends start handle x.0 x.1.here

    abbrev behind_mark : List ℕ × UriState → Result (DirectiveKind × Here) Fault
    behind_mark x = prefix_ends start handle (0x21 ∷ x.0) x.1.here

    -- one that begins with a character of a tag
    char_at : begins_prefix (next_char g) ≡ true → (next_char g == 0x21) ≡ false
        → at ≡ (decode start limit left g >>= behind_text)
    unfolding prefix_at
    char_at e n = cond-false (next_char g == 0x21) _ _ n
        ∙ cond-true (is_tag_char (next_char g)) _ _ (begins_char (next_char g) e n)

    -- one that begins with `!`
    mark_by : (next_char g == 0x21) ≡ true
        → at ≡ (spent (room start limit left) 1 start >>= λ b. decoded is_uri_char start b (step g) >>= behind_mark)
    unfolding prefix_at
    mark_by e = cond-true (next_char g == 0x21) _ _ e

    mark_at : (next_char g == 0x21) ≡ true → 1 ≤ left → at ≡ (decode start limit (left - 1) (step g) >>= behind_mark)
    mark_at e l = mark_by e
        ∙ ap (λ r. r >>= λ b. decoded is_uri_char start b (step g) >>= behind_mark) (spent_within start limit left 1 l)

    mark_over : (next_char g == 0x21) ≡ true → left < 1 → at ≡ Limit start limit
    mark_over e l = mark_by e
        ∙ ap (λ r. r >>= λ b. decoded is_uri_char start b (step g) >>= behind_mark) (spent_over start limit left 1 l)

    -- what is spelled, by its first character
    data Spelled (spelled text rest : List ℕ) : Type 0 where
      marked : (more value : List ℕ) → spelled ≡ 0x21 ∷ more → SpellsText is_uri_char more value
          → text ≡ 0x21 ∷ value → Spelled spelled text rest
      unmarked : (first (spelled ++ rest) == 0x21) ≡ false → Spelled spelled text rest

    spelled_by : (spelled text rest : List ℕ) → SpellsText is_uri_char spelled text → (first rest == 0x21) ≡ false
        → (v : Bool) → (first spelled == 0x21) ≡ v → Spelled spelled text rest
    spelled_by [] text rest s n v e = unmarked n
    spelled_by (c ∷ more) text rest s n false e = unmarked e
    spelled_by (c ∷ more) text rest s n true e =
        let is : c ≡ 0x21 = grind (arith, nat_tests) in
        let b = behind_bang start limit c more text s.bytes is s.spells s.scalar s.encodes in
        marked more b.value (ap (λ d. d ∷ more) is) b.spells b.is

    no_mark : (rest : List ℕ) → first rest ≡ 0x25 → (first rest == 0x21) ≡ false
    no_mark rest e = ap (λ c. c == 0x21) e

    module _ (spelled text rest : List ℕ) (t : g.unread.text ≡ spelled ++ rest)
        (e : begins_prefix (first (spelled ++ rest)) ≡ true) where
      begins_here : begins_prefix (next_char g) ≡ true
      begins_here = ap (λ (w : List ℕ). begins_prefix (first w)) t ∙ e

      unmarked_here : (first (spelled ++ rest) == 0x21) ≡ false → (next_char g == 0x21) ≡ false
      unmarked_here n = ap (λ (w : List ℕ). first w == 0x21) t ∙ n

      module _ (more : List ℕ) (is : spelled ≡ 0x21 ∷ more) where
        marked_text : g.unread.text ≡ 0x21 ∷ (more ++ rest)
        marked_text = t ∙ ap (λ (w : List ℕ). w ++ rest) is

        marked_here : (next_char g == 0x21) ≡ true
        marked_here = ap (λ (w : List ℕ). first w == 0x21) marked_text

        behind_here : (step g).unread.text ≡ more ++ rest
        behind_here = stepped_text g 0x21 (more ++ rest) marked_text

        marked_long : length spelled ≡ suc (length more)
        marked_long = ap (length {A = ℕ}) is

      -- a wrong escape
      module _ {kind : FaultKind} (w : WrongEscapes kind rest) (s : SpellsText is_uri_char spelled text)
          (f : first rest ≡ 0x25) where
        escape_by : Spelled spelled text rest → length spelled + length (escapes_read w) ≤ left
            → at ≡ Err (fault_at kind start)
        escape_by (marked more value is p q) l =
            let n = marked_long more is in
            mark_at (marked_here more is) (omega arith)
            ∙ ap (λ r. r >>= behind_mark)
            (decode_fails start limit (left - 1) value more rest (step g) w p (behind_here more is) f (omega arith))
        escape_by (unmarked n) l = char_at begins_here (unmarked_here n)
            ∙ ap (λ r. r >>= behind_text) (decode_fails start limit left text spelled rest g w s t f l)

        pub escape_within : length spelled + length (escapes_read w) ≤ left → at ≡ Err (fault_at kind start)
        escape_within l =
            escape_by (spelled_by spelled text rest s (no_mark rest f) (first spelled == 0x21) refl) l

        passes_by : Spelled spelled text rest → left < length spelled + length (escapes_read w)
            → (1 ≤ left) ⊎ (left < 1) → at ≡ Limit start limit
        passes_by (marked more value is p q) l (inl some) =
            let n = marked_long more is in
            mark_at (marked_here more is) some
            ∙ ap (λ r. r >>= behind_mark)
            (decode_passes start limit (left - 1) value more rest (step g) w p (behind_here more is) f (omega arith))
        passes_by (marked more value is p q) l (inr none) = mark_over (marked_here more is) none
        passes_by (unmarked n) l o = char_at begins_here (unmarked_here n)
            ∙ ap (λ r. r >>= behind_text) (decode_passes start limit left text spelled rest g w s t f l)

        pub escape_over : left < length spelled + length (escapes_read w) → at ≡ Limit start limit
        escape_over l =
            passes_by (spelled_by spelled text rest s (no_mark rest f) (first spelled == 0x21) refl) l
            (some_or_none left)
          where
            some_or_none : (n : ℕ) → (1 ≤ n) ⊎ (n < 1)
            some_or_none zero = inr (omega arith)
            some_or_none (suc n) = inl (omega arith)

      -- a prefix that is right up to what ends it
      module _ (s : SpellsText is_uri_char spelled text) (u : is_uri_char (first rest) ≡ false) where
        no_uri_mark : (first rest == 0x21) ≡ false
        no_uri_mark = by (first rest == 0x21) refl
          where
            by : (v : Bool) → (first rest == 0x21) ≡ v → v ≡ false
            by false p = refl
            by true p = absurd
                (let is : first rest ≡ 0x21 = grind (arith, nat_tests) in
                let y : is_uri_char (first rest) ≡ true = ap is_uri_char is ∙ bang_uri in cc)

        ends_by : Spelled spelled text rest → is_blank_or_breakz (first rest) ≡ false → length spelled ≤ left
            → at ≡ Err (fault_at InvalidTagDirectiveTerminator start)
        ends_by (marked more value is p q) z l =
            let n = marked_long more is in
            let d = decoded_kept start limit (left - 1) (step g) more value rest p (behind_here more is) u (omega arith)
            in
            mark_at (marked_here more is) (omega arith)
            ∙ ap (λ r. r >>= behind_mark) d.1
            ∙ cond-false (is_blank_or_breakz (next_char (over more (step g)))) _ _
            (ap (λ (w : List ℕ). is_blank_or_breakz (first w)) (over_text more rest (step g) (behind_here more is)) ∙ z)
        ends_by (unmarked n) z l =
            let d = decoded_kept start limit left g spelled text rest s t u l in
            char_at begins_here (unmarked_here n)
            ∙ ap (λ r. r >>= behind_text) d.1
            ∙ cond-false (is_blank_or_breakz (next_char (over spelled g))) _ _
            (ap (λ (w : List ℕ). is_blank_or_breakz (first w)) (over_text spelled rest g t) ∙ z)

        pub ends_within : is_blank_or_breakz (first rest) ≡ false → length spelled ≤ left
            → at ≡ Err (fault_at InvalidTagDirectiveTerminator start)
        ends_within z l = ends_by (spelled_by spelled text rest s no_uri_mark (first spelled == 0x21) refl) z l

        long_by : Spelled spelled text rest → left < length spelled → (1 ≤ left) ⊎ (left < 1)
            → at ≡ Limit start limit
        long_by (marked more value is p q) l (inl some) =
            let n = marked_long more is in
            mark_at (marked_here more is) some
            ∙ ap (λ r. r >>= behind_mark)
            (decode_long start limit (left - 1) (step g) more value rest p (behind_here more is) u (omega arith))
        long_by (marked more value is p q) l (inr none) = mark_over (marked_here more is) none
        long_by (unmarked n) l o = char_at begins_here (unmarked_here n)
            ∙ ap (λ r. r >>= behind_text) (decode_long start limit left g spelled text rest s t u l)

        pub ends_over : left < length spelled → at ≡ Limit start limit
        ends_over l =
            long_by (spelled_by spelled text rest s no_uri_mark (first spelled == 0x21) refl) l (some_or_none left)
          where
            some_or_none : (n : ℕ) → (1 ≤ n) ⊎ (n < 1)
            some_or_none zero = inr (omega arith)
            some_or_none (suc n) = inl (omega arith)

  -- ---- up to the prefix

  module _ (left : ℕ) (g : Here) where
    abbrev tag : Result (DirectiveKind × Here) Fault
    tag = tag_directive (room start limit left) start g

    abbrev behind_blanks : Option Budget × Here → Result (DirectiveKind × Here) Fault
    behind_blanks x = handle_at x.0 start x.1 >>= behind_handle_at start x.1

    module _ (blanks behind : List ℕ) (t : g.unread.text ≡ blanks ++ behind) (y : Each is_blank blanks)
        (n : is_blank (first behind) ≡ false) where
      to_handle : length blanks ≤ left
          → tag ≡ (handle_at (room start limit (left - length blanks)) start (over blanks g)
          >>= behind_handle_at start (over blanks g))
      to_handle l = ap (λ r. r >>= behind_blanks) (blanks_ok start limit left g blanks behind t y n l)

      blanks_pass : left < length blanks → tag ≡ Limit start limit
      blanks_pass l = ap (λ r. r >>= behind_blanks) (blanks_over left g blanks behind t y n l)

    module _ (blanks sign behind : List ℕ) (hs : HandleStands g.unread.text blanks sign behind) where
      abbrev first_place : Here
      first_place = over blanks g

      no_blank : is_blank (first (sign ++ behind)) ≡ false
      no_blank = handle_no_blank start limit sign behind hs.spells

      sign_text : first_place.unread.text ≡ sign ++ behind
      sign_text = over_text blanks (sign ++ behind) g hs.whole

      behind_sign : (over sign first_place).unread.text ≡ behind
      behind_sign = over_text sign behind first_place sign_text

      to_gap : length blanks + length sign ≤ left
          → tag ≡ behind_handle_at start first_place
          (room start limit (left - length blanks - length sign), over sign first_place)
      to_gap l =
          to_handle blanks (sign ++ behind) hs.whole hs.each no_blank (omega arith)
          ∙ ap (λ r. r >>= behind_handle_at start first_place)
          (handle_is start limit (left - length blanks) first_place sign behind hs.spells sign_text (omega arith))

      sign_by : left < length blanks + length sign → (left < length blanks) ⊎ (length blanks ≤ left)
          → tag ≡ Limit start limit
      sign_by l (inl long) = blanks_pass blanks (sign ++ behind) hs.whole hs.each no_blank long
      sign_by l (inr fits) =
          to_handle blanks (sign ++ behind) hs.whole hs.each no_blank fits
          ∙ ap (λ r. r >>= behind_handle_at start first_place)
          (handle_over (left - length blanks) first_place sign behind hs.spells sign_text (omega arith))

      module _ (gap rest : List ℕ) (is : behind ≡ gap ++ rest) (each : Each is_blank gap)
          (no : is_blank (first rest) ≡ false) where
        gap_text : (over sign first_place).unread.text ≡ gap ++ rest
        gap_text = behind_sign ∙ is

        at_prefix : (over gap (over sign first_place)).unread.text ≡ rest
        at_prefix = over_text gap rest (over sign first_place) gap_text

        to_prefix : length blanks + length sign + length gap ≤ left
            → tag ≡ prefix_at (room start limit (left - length blanks - length sign - length gap)) start sign
            (over gap (over sign first_place))
        to_prefix l =
            to_gap (omega arith)
            ∙ ap (λ r. r >>= λ x. prefix_at x.0 start (text_up_to first_place (over sign first_place)) x.1)
            (blanks_ok start limit (left - length blanks - length sign) (over sign first_place) gap rest gap_text each
            no (omega arith))
            ∙ ap (λ (w : List ℕ). prefix_at (room start limit (left - length blanks - length sign - length gap)) start w
            (over gap (over sign first_place))) (text_over sign behind first_place sign_text)

        gap_by : left < length blanks + length sign + length gap
            → (left < length blanks + length sign) ⊎ (length blanks + length sign ≤ left) → tag ≡ Limit start limit
        gap_by l (inl long) = sign_by long (cases_lt left (length blanks))
        gap_by l (inr fits) =
            to_gap fits
            ∙ ap (λ r. r >>= λ x. prefix_at x.0 start (text_up_to first_place (over sign first_place)) x.1)
            (blanks_over (left - length blanks - length sign) (over sign first_place) gap rest gap_text each no
            (omega arith))

        gap_pass : left < length blanks + length sign + length gap → tag ≡ Limit start limit
        gap_pass l = gap_by l (cases_lt left (length blanks + length sign))

  -- ---- each cause

  begins_no_blank : (c : ℕ) → begins_prefix c ≡ true → is_blank c ≡ false
  begins_no_blank c e = by (c == 0x21) refl
    where
      by : (v : Bool) → (c == 0x21) ≡ v → is_blank c ≡ false
      by true p =
          let is : c ≡ 0x21 = grind (arith, nat_tests) in ap is_blank is ∙ bang_blank start limit
      by false p = uri_no_blank c (tag_uri c (begins_char c e p))

  place_of : {text blanks sign behind : List ℕ} (g : Here) → g.unread.text ≡ text → HandleStands text blanks sign behind
      → HandleStands g.unread.text blanks sign behind
  place_of g t hs = record { whole = t ∙ hs.whole; each = hs.each; spells = hs.spells }

  no_blank_behind : (spelled rest : List ℕ) → begins_prefix (first spelled) ≡ true
      → begins_prefix (first (spelled ++ rest)) ≡ true
  no_blank_behind [] rest e = absurd (let u = tag_uri 0 e in let n = uri_class.nul in cc)
  no_blank_behind (c ∷ spelled) rest e = e

  four : (a b c d : List ℕ) → length (a ++ (b ++ (c ++ d))) ≡ length a + length b + length c + length d
  four a b c d =
      omega (arith, length-append a (b ++ (c ++ d)), length-append b (c ++ d), length-append c d)

  three : (a b c : List ℕ) → length ((a ++ b) ++ c) ≡ length a + length b + length c
  three a b c = omega (arith, length-append (a ++ b) c, length-append a b)

  five : (a b c d e : List ℕ) → length (((a ++ b) ++ c) ++ (d ++ e))
      ≡ length a + length b + length c + (length d + length e)
  five a b c d e = omega (arith, length-append ((a ++ b) ++ c) (d ++ e), three a b c, length-append d e)

  pub prefix_fails : {text : List ℕ} {kind : FaultKind} (w : WrongPrefix text kind) (left : ℕ) (g : Here)
      → g.unread.text ≡ text → length (prefix_read w) ≤ left
      → tag_directive (room start limit left) start g ≡ Err (fault_at kind start)
  unfolding handle_at
  prefix_fails (no_bang {blanks} {behind} a n) left g t l =
      let place = over blanks g in
      let whole : g.unread.text ≡ blanks ++ behind = t ∙ a.whole in
      to_handle left g blanks behind whole a.each a.all l
      ∙ ap (λ r. r >>= behind_handle_at start place)
      (cond-false (next_char place == 0x21) _ _
      (ap (λ (k : List ℕ). first k == 0x21) (over_text blanks behind g whole) ∙ n))
  prefix_fails (no_second blanks word rest is each letters some n m) left g t l =
      let place = over blanks g in
      let behind = 0x21 ∷ (word ++ rest) in
      let whole : g.unread.text ≡ blanks ++ behind = t ∙ is in
      let sum = length-append blanks (0x21 ∷ word) in
      to_handle left g blanks behind whole each (bang_blank start limit) (omega arith)
      ∙ ap (λ r. r >>= behind_handle_at start place)
      (word_fails (left - length blanks) place word rest (over_text blanks behind g whole) letters n m some
      (omega arith))
  prefix_fails (no_prefix blanks sign behind gap rest hs a n) left g t l =
      let k = place_of g t hs in
      let sum = three blanks sign gap in
      let there = at_prefix left g blanks sign behind k gap rest a.whole a.each a.all in
      to_prefix left g blanks sign behind k gap rest a.whole a.each a.all (omega arith)
      ∙ prefix_none (left - length blanks - length sign - length gap) (over gap (over sign (over blanks g))) sign
      (ap (λ (w : List ℕ). begins_prefix (first w)) there ∙ n)
  prefix_fails (wrong_escape blanks sign gap spelled prefix rest hs each begins spells f w) left g t l =
      let k = place_of g t hs in
      let no = begins_no_blank (first (spelled ++ rest)) begins in
      let sum = five blanks sign gap spelled (escapes_read w) in
      let there = at_prefix left g blanks sign (gap ++ (spelled ++ rest)) k gap (spelled ++ rest) refl each no in
      to_prefix left g blanks sign (gap ++ (spelled ++ rest)) k gap (spelled ++ rest) refl each no (omega arith)
      ∙ escape_within (left - length blanks - length sign - length gap) (over gap (over sign (over blanks g))) sign
      spelled prefix rest there begins w spells f (omega arith)
  prefix_fails (unended {handle = sign} {prefix} {rest} p u z) left g t l =
      let k = place_of g t p.handle_is in
      let begins = no_blank_behind p.spelled rest p.begins in
      let no = begins_no_blank (first (p.spelled ++ rest)) begins in
      let sum = ap (length {A = ℕ}) p.is ∙ four p.blanks sign p.gap p.spelled in
      let there = at_prefix left g p.blanks sign (p.gap ++ (p.spelled ++ rest)) k p.gap (p.spelled ++ rest) refl p.each
      no in
      to_prefix left g p.blanks sign (p.gap ++ (p.spelled ++ rest)) k p.gap (p.spelled ++ rest) refl p.each no
      (omega arith)
      ∙ ends_within (left - length p.blanks - length sign - length p.gap)
      (over p.gap (over sign (over p.blanks g))) sign p.spelled prefix rest there begins p.prefix_is u z (omega arith)

  pub prefix_passes : {text : List ℕ} {kind : FaultKind} (w : WrongPrefix text kind) (left : ℕ) (g : Here)
      → g.unread.text ≡ text → left < length (prefix_read w)
      → tag_directive (room start limit left) start g ≡ Limit start limit
  prefix_passes (no_bang {blanks} {behind} a n) left g t l =
      blanks_pass left g blanks behind (t ∙ a.whole) a.each a.all l
  prefix_passes (no_second blanks word rest is each letters some n m) left g t l =
      by (cases_lt left (length blanks))
    where
      by : (left < length blanks) ⊎ (length blanks ≤ left) → tag left g ≡ Limit start limit
      by (inl long) = blanks_pass left g blanks (0x21 ∷ (word ++ rest)) (t ∙ is) each (bang_blank start limit) long
      by (inr fits) =
          let place = over blanks g in
          let behind = 0x21 ∷ (word ++ rest) in
          let sum = length-append blanks (0x21 ∷ word) in
          to_handle left g blanks behind (t ∙ is) each (bang_blank start limit) fits
          ∙ ap (λ r. r >>= behind_handle_at start place)
          (word_over (left - length blanks) place word rest (over_text blanks behind g (t ∙ is)) letters n m
          (omega arith))
  prefix_passes (no_prefix blanks sign behind gap rest hs a n) left g t l =
      let k = place_of g t hs in
      let sum = three blanks sign gap in
      gap_pass left g blanks sign behind k gap rest a.whole a.each a.all (omega arith)
  prefix_passes (wrong_escape blanks sign gap spelled prefix rest hs each begins spells f w) left g t l =
      by (cases_lt left (length blanks + length sign + length gap))
    where
      by : (left < length blanks + length sign + length gap) ⊎ (length blanks + length sign + length gap ≤ left)
          → tag left g ≡ Limit start limit
      by (inl long) = gap_pass left g blanks sign (gap ++ (spelled ++ rest)) (place_of g t hs) gap (spelled ++ rest)
          refl
          each (begins_no_blank (first (spelled ++ rest)) begins) long
      by (inr fits) =
          let k = place_of g t hs in
          let no = begins_no_blank (first (spelled ++ rest)) begins in
          let sum = five blanks sign gap spelled (escapes_read w) in
          let there = at_prefix left g blanks sign (gap ++ (spelled ++ rest)) k gap (spelled ++ rest) refl each no in
          to_prefix left g blanks sign (gap ++ (spelled ++ rest)) k gap (spelled ++ rest) refl each no fits
          ∙ escape_over (left - length blanks - length sign - length gap) (over gap (over sign (over blanks g))) sign
          spelled prefix rest there begins w spells f (omega arith)
  prefix_passes (unended {handle = sign} {prefix} {rest} p u z) left g t l =
      by (cases_lt left (length p.blanks + length sign + length p.gap))
    where
      by : (left < length p.blanks + length sign + length p.gap)
          ⊎ (length p.blanks + length sign + length p.gap ≤ left) → tag left g ≡ Limit start limit
      by (inl long) = gap_pass left g p.blanks sign (p.gap ++ (p.spelled ++ rest)) (place_of g t p.handle_is) p.gap
          (p.spelled ++ rest) refl p.each
          (begins_no_blank (first (p.spelled ++ rest)) (no_blank_behind p.spelled rest p.begins)) long
      by (inr fits) =
          let k = place_of g t p.handle_is in
          let begins = no_blank_behind p.spelled rest p.begins in
          let no = begins_no_blank (first (p.spelled ++ rest)) begins in
          let sum = ap (length {A = ℕ}) p.is ∙ four p.blanks sign p.gap p.spelled in
          let there = at_prefix left g p.blanks sign (p.gap ++ (p.spelled ++ rest)) k p.gap (p.spelled ++ rest) refl
          p.each no in
          to_prefix left g p.blanks sign (p.gap ++ (p.spelled ++ rest)) k p.gap (p.spelled ++ rest) refl p.each no fits
          ∙ ends_over (left - length p.blanks - length sign - length p.gap)
          (over p.gap (over sign (over p.blanks g))) sign p.spelled prefix rest there begins p.prefix_is u (omega arith)
