-- `%TAG`, a handle and a prefix: what is read is there, and what is refused has its cause.
use Rattle.std.proofs.Common.{◌≡◌, ◌≢◌, ℕ, suc, ◌+◌, ◌-◌, ◌≤◌, ◌<◌, ◌==◌, Bool, true, false, ◌||◌, List, [], ◌∷◌, ◌++◌}
use Rattle.std.proofs.Common.{length, Option, Some, Result, Ok, Err, refl, sym, ap, ap₂, ◌∙◌, subst, arith}
use Rattle.std.proofs.Common.{append_assoc, length-append}
use Rattle.std.specs.Prelude.{if◌then◌else◌, nat_lt}
use Rattle.std.specs.Str.{encode_utf8_all}
use Rattle.std.proofs.lemmas.Bool.{and_parts}
use Rattle.std.proofs.lemmas.Bool.Decides.{nat_tests}
use Rattle.std.proofs.lemmas.Str.{encode_ascii}
use Rattle.granit_base.specs.Classes.{is_blank, is_blank_or_breakz, is_alpha, is_digit, is_word_char, is_uri_sign}
use Rattle.granit_base.specs.Classes.{is_uri_char, is_tag_char}
use Rattle.granit_base.specs.Place.{Mark, first}
use Rattle.granit_error.specs.FaultKind.{FaultKind, DirectiveByteLimitExceeded, ExpectedTagBang}
use Rattle.granit_error.specs.FaultKind.{ExpectedTagDirectiveBang, InvalidGlobalTagCharacter}
use Rattle.granit_error.specs.FaultKind.{InvalidTagDirectiveTerminator}
use Rattle.granit_lexemes.specs.Gap.{Each}
use Rattle.granit_lexemes.specs.Here.{Here, text_len, next_char, step, past}
use Rattle.granit_lexemes.specs.Outcome.{Fault, ◌>>=◌}
use Rattle.granit_lexemes.specs.PlainExtent.{over}
use Rattle.granit_lexemes.specs.Basics.{fails_at}
use Rattle.granit_names.proofs.Runs.{over_text}
use Rattle.granit_names.proofs.Kept.{seen, over-append}
use Rattle.granit_lexemes.specs.Basics.{count_up_to, text_up_to}
use Rattle.granit_lexemes.specs.Directive.{handle_by, handle_at, prefix_ends, prefix_at, behind_handle_at}
use Rattle.granit_lexemes.specs.Directive.{tag_directive}
use Rattle.granit_lexemes.specs.Lexeme.{DirectiveKind, TagPrefix}
use Rattle.granit_lexemes.specs.Tags.{Budget, spent, UriState, decoded}
use Rattle.granit_lexemes.specs.TagExtent.{SpellsText, WrongEscapes}
use Rattle.granit_lexemes.specs.DirectiveExtent.{bytes_of, PrefixBegins, up_to_blanks, up_to_word, up_to_handle}
use Rattle.granit_lexemes.specs.DirectiveExtent.{up_to_gap, up_to_prefix, All, SpellsHandle, named, alone, HandleStands}
use Rattle.granit_lexemes.specs.DirectiveExtent.{begins_prefix, PrefixStands, WrongPrefix, no_bang, no_second}
use Rattle.granit_lexemes.specs.DirectiveExtent.{no_prefix, wrong_escape, unended}
use Rattle.granit_names.proofs.Runs.{count_over, text_over}
use Rattle.granit_names.proofs.Spelling.{uri_class, text-append, one_text, spelled_each}
use Rattle.granit_names.proofs.Escaped.{free}
use Rattle.granit_names.proofs.Decoded.{Decodes, read, bad, decodes}
use Rattle.granit_names.proofs.Kept.{each-append, held, Kept, same, passed, kept, kept_decoded}
use Rattle.granit_names.proofs.TagLaw.{no_alpha_nul, alpha_tag}
use Rattle.granit_handles.proofs.VersionLaw.{no_blank_nul, all_over}
use Rattle.granit_handles.proofs.ReservedLaw.{blank_small}

-- whether a character may stand among the parts of `%TAG`
abbrev pub is_uri_or_blank : ℕ → Bool
is_uri_or_blank c = is_blank c || is_uri_char c

pub tag_uri : (c : ℕ) → is_tag_char c ≡ true → is_uri_char c ≡ true
unfolding is_tag_char
tag_uri c e = (and_parts _ _ e).0

pub blank_part : (c : ℕ) → is_blank c ≡ true → is_uri_or_blank c ≡ true
blank_part c e = ap (λ b. b || is_uri_char c) e

pub uri_part : (c : ℕ) → is_uri_char c ≡ true → is_uri_or_blank c ≡ true
uri_part c e = by (is_blank c) (is_uri_char c) e
  where
    by : (a b : Bool) → b ≡ true → (a || b) ≡ true
    by true b p = refl
    by false b p = p

pub each_as : (p q : ℕ → Bool) → ((c : ℕ) → p c ≡ true → q c ≡ true) → (l : List ℕ) → Each p l → Each q l
each_as p q f [] y = tt
each_as p q f (c ∷ l) y = (f c y.0, each_as p q f l y.1)

part_small : (c : ℕ) → is_uri_or_blank c ≡ true → c < 128
part_small c e = by (is_blank c) refl
  where
    by : (v : Bool) → is_blank c ≡ v → c < 128
    by true p = blank_small c p
    by false p = uri_class.small c (ap (λ b. b || is_uri_char c) (sym p) ∙ e)

pub part_bytes : (l : List ℕ) → Each is_uri_or_blank l → bytes_of l ≡ length l
part_bytes [] y = refl
part_bytes (c ∷ l) y =
    let e : bytes_of (c ∷ l) ≡ length (c ∷ encode_utf8_all l) = ap (λ (k : List ℕ). length (k ++ encode_utf8_all l))
    (encode_ascii c (part_small c y.0)) in
    e ∙ ap suc (part_bytes l y.1)

pub bang_uri : is_uri_char 0x21 ≡ true
unfolding is_uri_char is_uri_sign is_word_char is_digit
bang_uri = refl

module _ (start : Mark) (limit : ℕ) where
  abbrev budget : ℕ → Option Budget
  budget left = Some (record { left = left; limit = limit })

  abbrev Limit : {Y : Type 0} → Result Y Fault
  Limit = fails_at (DirectiveByteLimitExceeded limit) start

  -- ---- the prefix, decoded within the limit

  data PrefixRead (left : ℕ) (t : Here) : Result (List ℕ × UriState) Fault → Type 0 where
    prefix : {after : UriState} (source text : List ℕ) → SpellsText is_uri_char source text
        → t.unread.text ≡ source ++ (over source t).unread.text → is_uri_char (next_char (over source t)) ≡ false
        → length source ≤ left → after.here ≡ over source t
        → PrefixRead left t (Ok (text, after))
    bad_prefix : {kind : FaultKind} (source text rest : List ℕ) → SpellsText is_uri_char source text
        → t.unread.text ≡ source ++ rest → first rest ≡ 0x25 → WrongEscapes kind rest
        → PrefixRead left t (fails_at kind start)
    long_prefix : (front rest : List ℕ) → Each is_uri_char front → t.unread.text ≡ front ++ rest → left < length front
        → PrefixRead left t Limit

  pub as_long : (t : Here) (a b : List ℕ) → t.unread.text ≡ a ++ (over a t).unread.text
      → t.unread.text ≡ b ++ (over b t).unread.text → over a t ≡ over b t → length a ≡ length b
  as_long t a b p q e =
      let x : text_len t ≡ length a + text_len (over a t) = ap (length {A = ℕ}) p
      ∙ length-append a (over a t).unread.text in
      let y : text_len t ≡ length b + text_len (over b t) = ap (length {A = ℕ}) q
      ∙ length-append b (over b t).unread.text in
      let z : text_len (over a t) ≡ text_len (over b t) = ap text_len e in
      omega arith

  of_read : (left more : ℕ) (t : Here) (x front : List ℕ) → t.unread.text ≡ front ++ (over front t).unread.text
      → more + length front ≡ left → (state : UriState) → state ≡ free (over front t)
      → Decodes is_uri_char start uri_class t (Ok (x, state))
      → PrefixRead left t (Ok (x, held start limit more (over front t)))
  of_read left more t x front u n state is (read source text s w e l) =
      let place : over source t ≡ over front t = ap (λ (i : UriState). i.here) (sym l ∙ is) in
      let k = as_long t source front w u place in
      prefix source text s w e (omega arith) (sym place)

  of_bad : (left : ℕ) (t : Here) (r : Result (List ℕ × UriState) Fault) (f : Fault) → r ≡ Err f
      → Decodes is_uri_char start uri_class t r → PrefixRead left t (Err f)
  of_bad left t r f e (read source text s w n l) = absurd cc
  of_bad left t r f e (bad source text rest s w p q) = subst (PrefixRead left t) e (bad_prefix source text rest s w p q)

  of_kept : (left : ℕ) (t : Here) (r s : Result (List ℕ × UriState) Fault) → Decodes is_uri_char start uri_class t r
      → Kept start limit left t r s → PrefixRead left t s
  of_kept left t r s d (same f) = of_bad left t (Err f) f refl d
  of_kept left t r s d (passed front rest y u l) = long_prefix front rest y u l
  of_kept left t r s d (kept x front more y u n) = of_read left more t x front u n (free (over front t)) refl d

  prefix_read : (left : ℕ) (t : Here) → PrefixRead left t (decoded is_uri_char start (budget left) t)
  prefix_read left t = of_kept left t _ _ (decodes is_uri_char start uri_class t) (kept_decoded start limit left t)

  -- ---- the directive

  pub data PrefixLineRead (left : ℕ) (g : Here) : Result (DirectiveKind × Here) Fault → Type 0 where
    read_tag : {kind : DirectiveKind} {after : Here} (source handle text : List ℕ)
        → PrefixStands g.unread.text source handle text (over source g).unread.text
        → is_blank_or_breakz (next_char (over source g)) ≡ true → bytes_of source ≤ left
        → kind ≡ TagPrefix handle text → after ≡ over source g → PrefixLineRead left g (Ok (kind, after))
    wrong_tag : {kind : FaultKind} → WrongPrefix g.unread.text kind → PrefixLineRead left g (fails_at kind start)
    passed_tag : {front : List ℕ} → PrefixBegins g.unread.text front → left < bytes_of front
        → PrefixLineRead left g Limit

  -- parts that were kept, and where reading stands behind them
  record Parts (left : ℕ) (g : Here) (room : ℕ) (front : List ℕ) (place : Here) : Type 0 where
    whole : g.unread.text ≡ front ++ place.unread.text
    each : Each is_uri_or_blank front
    kept_room : room + length front ≡ left
    lands : place ≡ over front g

  passes : (left : ℕ) (g : Here) (room : ℕ) (front : List ℕ) (place : Here) (more rest : List ℕ)
      → Parts left g room front place → place.unread.text ≡ more ++ rest → Each is_uri_or_blank more
      → PrefixBegins g.unread.text (front ++ more) → room < length more → PrefixLineRead left g Limit
  passes left g room front place more rest p t y f l =
      let e = each-append is_uri_or_blank front more p.each y in
      let k = p.kept_room in
      passed_tag f (omega (arith, part_bytes (front ++ more) e, length-append front more))

  goes_on : (left : ℕ) (g : Here) (room : ℕ) (front : List ℕ) (place : Here) (more : List ℕ)
      → Parts left g room front place → place.unread.text ≡ more ++ (over more place).unread.text
      → Each is_uri_or_blank more → length more ≤ room
      → Parts left g (room - length more) (front ++ more) (over more place)
  goes_on left g room front place more p t y l =
      let k = p.kept_room in
      record {
        whole = p.whole ∙ ap (λ (w : List ℕ). front ++ w) t
            ∙ sym (append_assoc front more (over more place).unread.text);
        each = each-append is_uri_or_blank front more p.each y;
        kept_room = omega (arith, length-append front more);
        lands = ap (over more) p.lands ∙ sym (over-append front more g);
      }

  module _ (left : ℕ) (g : Here) (blanks handle gap : List ℕ) (b : Each is_blank blanks) (c : Each is_blank gap)
      (room : ℕ) (behind : List ℕ) (place : Here) (hs : HandleStands g.unread.text blanks handle behind)
      (gone : behind ≡ gap ++ place.unread.text) (all : is_blank (next_char place) ≡ false)
      (p : Parts left g room ((blanks ++ handle) ++ gap) place) where
    stands_for : (spelled rest : List ℕ) → place.unread.text ≡ spelled ++ rest
        → HandleStands g.unread.text blanks handle (gap ++ (spelled ++ rest))
    stands_for spelled rest t = subst (HandleStands g.unread.text blanks handle)
        (gone ∙ ap (λ (l : List ℕ). gap ++ l) t) hs

    joined : (spelled : List ℕ) → blanks ++ (handle ++ (gap ++ spelled)) ≡ ((blanks ++ handle) ++ gap) ++ spelled
    joined spelled = sym (append_assoc blanks handle (gap ++ spelled))
        ∙ sym (append_assoc (blanks ++ handle) gap spelled)

    end_if : (spelled text : List ℕ) → SpellsText is_uri_char spelled text
        → place.unread.text ≡ spelled ++ (over spelled place).unread.text → begins_prefix (first spelled) ≡ true
        → is_uri_char (next_char (over spelled place)) ≡ false → length spelled ≤ room → Each is_uri_char spelled
        → (v : Bool) → is_blank_or_breakz (next_char (over spelled place)) ≡ v
        → PrefixLineRead left g (if v then Ok (TagPrefix handle text, over spelled place) else fails_at
        InvalidTagDirectiveTerminator start)
    end_if spelled text s t f n l y true e =
        let source = blanks ++ (handle ++ (gap ++ spelled)) in
        let q = goes_on left g room ((blanks ++ handle) ++ gap) place spelled p t
        (each_as is_uri_char is_uri_or_blank uri_part spelled y) l in
        let lands : over spelled place ≡ over source g = q.lands
        ∙ ap (λ (k : List ℕ). over k g) (sym (joined spelled)) in
        let k = q.kept_room in
        let bytes : bytes_of source ≡ length (((blanks ++ handle) ++ gap) ++ spelled) = ap bytes_of (joined spelled)
        ∙ part_bytes (((blanks ++ handle) ++ gap) ++ spelled) q.each in
        read_tag source handle text
        (record {
          blanks = blanks;
          gap = gap;
          behind = behind;
          spelled = spelled;
          handle_is = stands_for spelled
              (over source g).unread.text (t ∙ ap (λ (i : Here). spelled ++ i.unread.text) lands);
          each = c;
          begins = f;
          prefix_is = s;
          is = refl;
        })
        (ap (λ (i : Here). is_blank_or_breakz (next_char i)) (sym lands) ∙ e) (omega arith) refl lands
    end_if spelled text s t f n l y false e =
        wrong_tag (unended (record {
          blanks = blanks;
          gap = gap;
          behind = behind;
          spelled = spelled;
          handle_is =
              stands_for spelled (over spelled place).unread.text t;
          each = c;
          begins = f;
          prefix_is = s;
          is = refl;
        }) n
        e)

    -- a prefix that begins with `!`
    bang_on : place.unread.text ≡ 0x21 ∷ (step place).unread.text → 1 ≤ room → (r : Result (List ℕ × UriState) Fault)
        → PrefixRead (room - 1) (step place) r
        → PrefixLineRead left g (r >>= λ x. prefix_ends start handle (0x21 ∷ x.0) x.1.here)
    bang_on t some r (prefix {after} source text s u n l e) =
        let one = text-append (one_text 0x21 uri_class bang_uri refl) s in
        subst (λ (i : Here). PrefixLineRead left g (prefix_ends start handle (0x21 ∷ text) i)) (sym e)
        (end_if (0x21 ∷ source) (0x21 ∷ text) one (t ∙ ap (λ (k : List ℕ). 0x21 ∷ k) u) refl n (omega arith)
        (bang_uri, spelled_uri source text s) (is_blank_or_breakz (next_char (over source (step place)))) refl)
      where
        spelled_uri : (a b : List ℕ) → SpellsText is_uri_char a b → Each is_uri_char a
        spelled_uri a b k = spelled_each uri_class k.spells
    bang_on t some r (bad_prefix source text rest s u f w) =
        wrong_tag (wrong_escape blanks handle gap (0x21 ∷ source) (0x21 ∷ text) rest
        (stands_for (0x21 ∷ source) rest (t ∙ ap (λ (k : List ℕ). 0x21 ∷ k) u)) c refl
        (text-append (one_text 0x21 uri_class bang_uri refl) s) f w)
    bang_on t some r (long_prefix front rest y u l) =
        passes left g room ((blanks ++ handle) ++ gap) place (0x21 ∷ front) rest p (t ∙ ap (λ (k : List ℕ). 0x21 ∷ k) u)
        (uri_part 0x21 bang_uri, each_as is_uri_char is_uri_or_blank uri_part front y)
        (up_to_prefix blanks handle gap (0x21 ∷ front) rest
        (stands_for (0x21 ∷ front) rest (t ∙ ap (λ (k : List ℕ). 0x21 ∷ k) u)) c refl (bang_uri, y)) (omega arith)

    -- one that begins with a character of a tag
    begins_so : (front rest : List ℕ) → is_tag_char (next_char place) ≡ true → place.unread.text ≡ front ++ rest
        → begins_prefix (first (front ++ rest)) ≡ true
    begins_so front rest e t = by (first (front ++ rest) == 0x21) (is_tag_char (first (front ++ rest)))
        (ap (λ (k : List ℕ). is_tag_char (first k)) (sym t) ∙ e)
      where
        by : (x y : Bool) → y ≡ true → (x || y) ≡ true
        by true y q = refl
        by false y q = q

    front_begins : (front rest : List ℕ) → begins_prefix (first (front ++ rest)) ≡ true
        → is_uri_char (first rest) ≡ false → is_tag_char (first (front ++ rest)) ≡ true
        → begins_prefix (first front) ≡ true
    front_begins [] rest e n k = absurd (let u = tag_uri (first rest) k in cc)
    front_begins (d ∷ front) rest e n k = e

    some_begins : (front rest : List ℕ) → begins_prefix (first (front ++ rest)) ≡ true → 0 < length front
        → begins_prefix (first front) ≡ true
    some_begins [] rest e l = absurd (omega arith)
    some_begins (d ∷ front) rest e l = e

    tag_on : is_tag_char (next_char place) ≡ true → (r : Result (List ℕ × UriState) Fault) → PrefixRead room place r
        → PrefixLineRead left g (r >>= λ x. prefix_ends start handle x.0 x.1.here)
    tag_on k r (prefix {after} source text s u n l e) =
        subst (λ (i : Here). PrefixLineRead left g (prefix_ends start handle text i)) (sym e)
        (end_if source text s u (front_begins source (over source place).unread.text
        (begins_so source (over source place).unread.text k u) n
        (ap (λ (w : List ℕ). is_tag_char (first w)) (sym u) ∙ k)) n l (spelled_each uri_class s.spells)
        (is_blank_or_breakz (next_char (over source place))) refl)
    tag_on k r (bad_prefix source text rest s u f w) = wrong_tag
        (wrong_escape blanks handle gap source text rest (stands_for source rest u) c (begins_so source rest k u) s f w)
    tag_on k r (long_prefix front rest y u l) = passes left g room ((blanks ++ handle) ++ gap) place front rest p u
        (each_as is_uri_char is_uri_or_blank uri_part front y)
        (up_to_prefix blanks handle gap front rest (stands_for front rest u) c
        (some_begins front rest (begins_so front rest k u) (omega arith)) y) l

    one_if : place.unread.text ≡ 0x21 ∷ (step place).unread.text → (v : Bool) → nat_lt room 1 ≡ v
        → PrefixLineRead left g ((if v then Limit else Ok (budget (room - 1))) >>= λ left. decoded is_uri_char start
        left (step place) >>= λ x. prefix_ends start handle (0x21 ∷ x.0) x.1.here)
    one_if t true e = passes left g room ((blanks ++ handle) ++ gap) place (0x21 ∷ []) (step place).unread.text p t
        (uri_part 0x21 bang_uri, tt) (up_to_prefix blanks handle gap (0x21 ∷ []) (step place).unread.text
        (stands_for (0x21 ∷ []) (step place).unread.text t) c refl (bang_uri, tt)) (grind (arith, nat_tests))
    one_if t false e = bang_on t (grind (arith, nat_tests)) (decoded is_uri_char start (budget (room - 1)) (step place))
        (prefix_read (room - 1) (step place))

    char_if : (next_char place == 0x21) ≡ false → (v : Bool) → is_tag_char (next_char place) ≡ v
        → PrefixLineRead left g (if v then (decoded is_uri_char start (budget room) place >>= λ x. prefix_ends start
        handle x.0 x.1.here) else fails_at InvalidGlobalTagCharacter start)
    char_if n true e = tag_on e (decoded is_uri_char start (budget room) place) (prefix_read room place)
    char_if n false e =
        wrong_tag (no_prefix blanks handle behind gap place.unread.text hs
        (record { whole = gone; each = c; all = all }) (ap₂ (λ x y. x || y) n e))

    prefix_if : (v : Bool) → (next_char place == 0x21) ≡ v
        → PrefixLineRead left g (if v then (spent (budget room) 1 start >>= λ left. decoded is_uri_char start left
        (step place) >>= λ x. prefix_ends start handle (0x21 ∷ x.0) x.1.here)
        else if is_tag_char (next_char place) then
        (decoded is_uri_char start (budget room) place >>= λ x. prefix_ends start handle x.0 x.1.here) else fails_at
        InvalidGlobalTagCharacter start)
    prefix_if true e =
        let is : next_char place ≡ 0x21 = grind (arith, nat_tests) in
        let s = seen (λ k. k == 0x21) place refl e in
        one_if (s.is ∙ ap (λ k. k ∷ (step place).unread.text) is) (nat_lt room 1) refl
    prefix_if false e = char_if e (is_tag_char (next_char place)) refl

    prefix_at_read : PrefixLineRead left g (prefix_at (budget room) start handle place)
    unfolding prefix_at
    prefix_at_read = prefix_if (next_char place == 0x21) refl

  -- ---- the gap behind a handle

  abbrev with_place : Here → Option Budget → Result (Option Budget × Here) Fault
  with_place i l = Ok (l, i)

  module _ (left : ℕ) (g : Here) (blanks handle : List ℕ) (b : Each is_blank blanks) (room : ℕ) (before place : Here)
      (hs : HandleStands g.unread.text blanks handle place.unread.text) (p : Parts left g room (blanks ++ handle) place)
      (written : text_up_to before place ≡ handle) where
    module _ (gap : List ℕ) (a : All is_blank place.unread.text gap (over gap place).unread.text) where
      gap_if : (v : Bool) → nat_lt room (length gap) ≡ v
          → PrefixLineRead left g (((if v then Limit else Ok (budget (room - length gap))) >>= with_place
          (over gap place)) >>= λ x. prefix_at x.0 start (text_up_to before place) x.1)
      gap_if true e = passes left g room (blanks ++ handle) place gap (over gap place).unread.text p a.whole
          (each_as is_blank is_uri_or_blank blank_part gap a.each)
          (up_to_gap blanks handle place.unread.text gap (over gap place).unread.text hs a) (grind (arith, nat_tests))
      gap_if false e =
          subst (λ (l : List ℕ). PrefixLineRead left g
          (prefix_at (budget (room - length gap)) start l (over gap place))) (sym written)
          (prefix_at_read left g blanks handle gap b a.each (room - length gap) place.unread.text (over gap place) hs
          a.whole a.all
          (goes_on left g room (blanks ++ handle) place gap p a.whole
          (each_as is_blank is_uri_or_blank blank_part gap a.each) (grind (arith, nat_tests))))

    gap_read : PrefixLineRead left g (behind_handle_at start before (budget room, place))
    gap_read =
        let c = all_over is_blank no_blank_nul place in
        subst (λ (i : Here). PrefixLineRead left g
        ((spent (budget room) (count_up_to place i) start >>= with_place i) >>= λ x. prefix_at x.0 start
        (text_up_to before place) x.1)) (sym c.2)
        (subst (λ (k : ℕ). PrefixLineRead left g
        ((spent (budget room) k start >>= with_place (over c.0 place)) >>= λ x. prefix_at x.0 start
        (text_up_to before place) x.1)) (sym (count_over c.0 (over c.0 place).unread.text place c.1.whole))
        (gap_if c.0 c.1 (nat_lt room (length c.0)) refl))

  -- ---- the handle

  module _ (left : ℕ) (g : Here) (blanks : List ℕ) (b : Each is_blank blanks) (room : ℕ) (place : Here)
      (p : Parts left g room blanks place) (bang : place.unread.text ≡ 0x21 ∷ (step place).unread.text)
      (word : List ℕ) (w : All is_alpha (step place).unread.text word (over word (step place)).unread.text) where
    abbrev past_word : Here
    past_word = over word (step place)

    word_whole : place.unread.text ≡ (0x21 ∷ word) ++ past_word.unread.text
    word_whole = bang ∙ ap (λ (l : List ℕ). 0x21 ∷ l) w.whole

    word_part : Each is_uri_or_blank word
    word_part = each_as is_alpha is_uri_or_blank (λ c y. uri_part c (tag_uri c (alpha_tag c y))) word w.each

    bang_part : is_uri_or_blank 0x21 ≡ true
    bang_part = uri_part 0x21 bang_uri

    -- behind the handle's characters, where they are a handle
    handle_kept : (handle rest : List ℕ) (after : Here) → after ≡ over handle place → place.unread.text ≡ handle ++ rest
        → Each is_uri_or_blank handle → SpellsHandle handle rest → (v : Bool) → nat_lt room (length handle) ≡ v
        → PrefixLineRead left g (((if v then Limit else Ok (budget (room - length handle))) >>= with_place after) >>=
        behind_handle_at start place)
    handle_kept handle rest after l t y s true e = passes left g room blanks place handle rest p t y
        (up_to_handle blanks handle rest (record {
          whole = p.whole
              ∙ ap (λ (k : List ℕ). blanks ++ k) t;
          each = b;
          spells = s;
        })) (grind (arith, nat_tests))
    handle_kept handle rest after l t y s false e =
        let u : after.unread.text ≡ rest = ap (λ (i : Here). i.unread.text) l ∙ over_text handle rest place t in
        let t2 : place.unread.text ≡ handle ++ (over handle place).unread.text = t
        ∙ ap (λ (k : List ℕ). handle ++ k) (sym (over_text handle rest place t)) in
        let q : Parts left g (room - length handle) (blanks ++ handle) after =
        subst (Parts left g (room - length handle) (blanks ++ handle)) (sym l)
        (goes_on left g room blanks place handle p t2 y (grind (arith, nat_tests))) in
        gap_read left g blanks handle b (room - length handle) place after
        (record {
          whole = p.whole ∙ ap (λ (k : List ℕ). blanks ++ k) (t ∙ ap (λ (k : List ℕ). handle ++ k) (sym u));
          each = b;
          spells = subst (SpellsHandle handle) (sym u) s;
        }) q
        (ap (text_up_to place) l ∙ text_over handle rest place t)

    -- `!` and a word without a second `!`
    lone_if : (next_char past_word == 0x21) ≡ false → (l : List ℕ) → l ≡ word → (v : Bool)
        → nat_lt room (suc (length l)) ≡ v
        → PrefixLineRead left g (((if v then Limit else Ok (budget (room - suc (length l)))) >>= λ left. if suc
        (length l) == 1 then Ok (left, past_word) else fails_at ExpectedTagDirectiveBang start) >>= behind_handle_at
        start place)
    lone_if n l is true e = passes left g room blanks place (0x21 ∷ l) past_word.unread.text p
        (word_whole ∙ ap (λ (k : List ℕ). 0x21 ∷ (k ++ past_word.unread.text)) (sym is))
        (bang_part, subst (Each is_uri_or_blank) (sym is) word_part)
        (subst (λ (k : List ℕ). PrefixBegins g.unread.text (blanks ++ 0x21 ∷ k)) (sym is)
        (up_to_word blanks word past_word.unread.text (p.whole ∙ ap (λ (k : List ℕ). blanks ++ k) word_whole) b w.each))
        (grind (arith, nat_tests))
    lone_if n [] is false e =
        let t : place.unread.text ≡ 0x21 ∷ past_word.unread.text = word_whole
        ∙ ap (λ (k : List ℕ). 0x21 ∷ (k ++ past_word.unread.text)) (sym is) in
        handle_kept (0x21 ∷ []) past_word.unread.text past_word (ap (λ (k : List ℕ). over k (step place)) (sym is)) t
        (bang_part, tt) (alone w.all n) false e
    lone_if n (c ∷ l) is false e =
        let two : (suc (suc (length l)) == 1) ≡ false = grind (arith, nat_tests) in
        let some : word ≢ [] = λ z. let q : c ∷ l ≡ [] = is ∙ z in cc in
        subst (λ (v : Bool). PrefixLineRead left g
        ((if v then Ok (budget (room - suc (suc (length l))), past_word) else fails_at ExpectedTagDirectiveBang
        start) >>= behind_handle_at start place)) (sym two)
        (wrong_tag (no_second blanks word past_word.unread.text (p.whole ∙ ap (λ (k : List ℕ). blanks ++ k) word_whole)
        b w.each some w.all n))

    abbrev by_handle : Bool → Result (Option Budget × Here) Fault
    by_handle v =
        spent (budget room) (count_up_to place (if v then step past_word else past_word)) start >>= λ left.
        if v || count_up_to place past_word == 1 then Ok (left, if v then step past_word else past_word) else fails_at
        ExpectedTagDirectiveBang start

    second_if : (v : Bool) → (next_char past_word == 0x21) ≡ v
        → PrefixLineRead left g (by_handle v >>= behind_handle_at start place)
    second_if true e =
        let is : next_char past_word ≡ 0x21 = grind (arith, nat_tests) in
        let s = seen (λ c. c == 0x21) past_word refl e in
        let handle = 0x21 ∷ (word ++ 0x21 ∷ []) in
        let t : place.unread.text ≡ handle ++ (step past_word).unread.text =
        word_whole ∙ ap (λ (k : List ℕ). 0x21 ∷ (word ++ k)) (s.is ∙ ap (λ c. c ∷ (step past_word).unread.text) is)
        ∙ ap (λ (k : List ℕ). 0x21 ∷ k) (sym (append_assoc word (0x21 ∷ []) (step past_word).unread.text)) in
        let l : step past_word ≡ over handle place = sym (over-append word (0x21 ∷ []) (step place)) in
        let k : count_up_to place (step past_word) ≡ length handle = ap (count_up_to place) l
        ∙ count_over handle (step past_word).unread.text place t in
        subst (λ (n : ℕ). PrefixLineRead left g
        ((spent (budget room) n start >>= with_place (step past_word)) >>= behind_handle_at start place)) (sym k)
        (handle_kept handle (step past_word).unread.text (step past_word) l t
        (bang_part, each-append is_uri_or_blank word (0x21 ∷ []) word_part (bang_part, tt)) (named word w.each)
        (nat_lt room (length handle)) refl)
    second_if false e =
        let k : count_up_to place past_word ≡ suc (length word) = count_over (0x21 ∷ word) past_word.unread.text place
        word_whole in
        subst (λ (n : ℕ). PrefixLineRead left g
        ((spent (budget room) n start >>= λ left. if n == 1 then Ok (left, past_word) else fails_at
        ExpectedTagDirectiveBang start) >>= behind_handle_at start place)) (sym k)
        (lone_if e word refl (nat_lt room (suc (length word))) refl)

    handle_by_read : PrefixLineRead left g (handle_by (budget room) start place past_word >>= behind_handle_at start
        place)
    unfolding handle_by
    handle_by_read = second_if (next_char past_word == 0x21) refl

  module _ (left : ℕ) (g : Here) (blanks : List ℕ)
      (a : All is_blank g.unread.text blanks (over blanks g).unread.text) where
    abbrev first_place : Here
    first_place = over blanks g

    bang_if : (room : ℕ) → Parts left g room blanks first_place → (v : Bool) → (next_char first_place == 0x21) ≡ v
        → PrefixLineRead left g ((if v then handle_by (budget room) start first_place (past is_alpha (step first_place))
        else fails_at ExpectedTagBang start) >>= behind_handle_at start first_place)
    bang_if room p true e =
        let is : next_char first_place ≡ 0x21 = grind (arith, nat_tests) in
        let s = seen (λ c. c == 0x21) first_place refl e in
        let w = all_over is_alpha no_alpha_nul (step first_place) in
        subst (λ (i : Here). PrefixLineRead left g
        (handle_by (budget room) start first_place i >>= behind_handle_at start first_place)) (sym w.2)
        (handle_by_read left g blanks a.each room first_place p (s.is ∙ ap (λ c. c ∷ (step first_place).unread.text) is)
        w.0 w.1)
    bang_if room p false e = wrong_tag (no_bang a e)

    bang_read : (room : ℕ) → Parts left g room blanks first_place
        → PrefixLineRead left g (handle_at (budget room) start first_place >>= behind_handle_at start first_place)
    unfolding handle_at
    bang_read room p = bang_if room p (next_char first_place == 0x21) refl

    nothing_kept : Parts left g left [] g
    nothing_kept = record { whole = refl; each = tt; kept_room = omega arith; lands = refl }

    blanks_if : (v : Bool) → nat_lt left (length blanks) ≡ v
        → PrefixLineRead left g (((if v then Limit else Ok (budget (left - length blanks))) >>= with_place first_place)
        >>= λ x. handle_at x.0 start x.1 >>= behind_handle_at start x.1)
    blanks_if true e = passes left g left [] g blanks first_place.unread.text nothing_kept a.whole
        (each_as is_blank is_uri_or_blank blank_part blanks a.each) (up_to_blanks a) (grind (arith, nat_tests))
    blanks_if false e =
        bang_read (left - length blanks) (goes_on left g left [] g blanks nothing_kept a.whole
        (each_as is_blank is_uri_or_blank blank_part blanks a.each) (grind (arith, nat_tests)))

  pub tag_reads : (left : ℕ) (g : Here) → PrefixLineRead left g (tag_directive (budget left) start g)
  tag_reads left g =
      let c = all_over is_blank no_blank_nul g in
      subst (λ (i : Here). PrefixLineRead left g
      ((spent (budget left) (count_up_to g i) start >>= with_place i) >>= λ x. handle_at x.0 start x.1 >>=
      behind_handle_at start x.1)) (sym c.2)
      (subst (λ (k : ℕ). PrefixLineRead left g
      ((spent (budget left) k start >>= with_place (over c.0 g)) >>= λ x. handle_at x.0 start x.1 >>=
      behind_handle_at start x.1)) (sym (count_over c.0 (over c.0 g).unread.text g c.1.whole))
      (blanks_if left g c.0 c.1 (nat_lt left (length c.0)) refl))
