-- `%TAG` is read, or refused for what is wrong within the limit, or for the limit where nothing is wrong within it.
use Rattle.std.proofs.Common.{◌≡◌, ℕ, ◌<◌, ◌≤◌, true, List, ◌∷◌, ◌++◌, length, Result, Ok, Err, refl}
use Rattle.std.proofs.Common.{sym}
use Rattle.std.proofs.Common.{ap, ◌∙◌, subst, arith, ◌⊎◌, inl, inr}
use Rattle.std.proofs.lemmas.Bool.{cases_lt}
use Rattle.granit_base.specs.Classes.{is_blank, is_blank_or_breakz, is_alpha, is_uri_char}
use Rattle.granit_base.specs.Place.{Mark}
use Rattle.granit_error.specs.FaultKind.{FaultKind, DirectiveByteLimitExceeded}
use Rattle.granit_lexemes.specs.Directive.{tag_directive}
use Rattle.granit_lexemes.specs.DirectiveExtent.{bytes_of, PrefixBegins, PrefixStands, WrongPrefix, no_bang, no_second}
use Rattle.granit_lexemes.specs.DirectiveExtent.{no_prefix, wrong_escape, unended, up_to_blanks, up_to_word}
use Rattle.granit_lexemes.specs.DirectiveExtent.{up_to_handle, up_to_gap, up_to_prefix}
use Rattle.granit_lexemes.specs.Gap.{Each}
use Rattle.granit_lexemes.specs.Here.{Here, next_char}
use Rattle.granit_lexemes.specs.Lexeme.{DirectiveKind, TagPrefix}
use Rattle.granit_lexemes.specs.Outcome.{Fault, fault_at}
use Rattle.granit_lexemes.specs.PlainExtent.{over}
use Rattle.granit_lexemes.specs.TagExtent.{WrongEscapes, digits, inside, leading, trailing, no_character}
use Rattle.granit_lexemes.specs.DirectiveCause.{escapes_read, prefix_read}
use Rattle.granit_handles.proofs.HandleLaw.{is_uri_or_blank, tag_uri, blank_part, uri_part, each_as, part_bytes}
use Rattle.granit_handles.proofs.HandleLaw.{bang_uri}
use Rattle.granit_handles.proofs.HandleLaw.{PrefixLineRead, read_tag, wrong_tag, passed_tag, tag_reads}
use Rattle.granit_handles.proofs.HandleOnce.{ends_no_uri, handle_each}
use Rattle.granit_handles.proofs.HandleOnce.{each-append}
use Rattle.granit_handles.proofs.LimitedTag.{Limit, room}
use Rattle.granit_handles.proofs.LimitedTag.{prefix_fails, prefix_passes}
use Rattle.granit_handles.proofs.TagFronts.{uri_class, escapes_spell, spelled_each}
use Rattle.granit_handles.proofs.TagFronts.{front_short}
use Rattle.granit_handles.proofs.HandleOnce.{alpha_tag}

-- ---- what is read of `%TAG` is ASCII

escapes_each : {kind : FaultKind} {text : List ℕ} (w : WrongEscapes kind text) → Each is_uri_char (escapes_read w)
escapes_each (digits n) = tt
escapes_each (inside count source bytes rest b few n) = spelled_each uri_class (escapes_spell is_uri_char b.escapes)
escapes_each (leading b source rest e n) = spelled_each uri_class (escapes_spell is_uri_char e)
escapes_each (trailing count b source piece bytes rest begun few e n) =
    each-append is_uri_char source piece (spelled_each uri_class (escapes_spell is_uri_char begun.escapes))
    (spelled_each uri_class (escapes_spell is_uri_char e))
escapes_each (no_character count source bytes rest b all none) =
    spelled_each uri_class (escapes_spell is_uri_char b.escapes)

blanks_each : (l : List ℕ) → Each is_blank l → Each is_uri_or_blank l
blanks_each l y = each_as is_blank is_uri_or_blank blank_part l y

uris_each : (l : List ℕ) → Each is_uri_char l → Each is_uri_or_blank l
uris_each l y = each_as is_uri_char is_uri_or_blank uri_part l y

joined : (a b : List ℕ) → Each is_uri_or_blank a → Each is_uri_or_blank b → Each is_uri_or_blank (a ++ b)
joined a b p q = each-append is_uri_or_blank a b p q

word_each : (word : List ℕ) → Each is_alpha word → Each is_uri_or_blank word
word_each word y = each_as is_alpha is_uri_or_blank (λ c z. uri_part c (tag_uri c (alpha_tag c z))) word y

prefix_each : (start : Mark) (limit : ℕ) {text : List ℕ} {kind : FaultKind} (w : WrongPrefix text kind)
    → Each is_uri_or_blank (prefix_read w)
prefix_each start limit (no_bang {blanks} a n) = blanks_each blanks a.each
prefix_each start limit (no_second blanks word rest is each letters some n m) =
    joined blanks (0x21 ∷ word) (blanks_each blanks each) (uri_part 0x21 bang_uri, word_each word letters)
prefix_each start limit (no_prefix blanks sign behind gap rest hs a n) =
    joined (blanks ++ sign) gap
    (joined blanks sign (blanks_each blanks hs.each) (handle_each start limit sign behind hs.spells))
    (blanks_each gap a.each)
prefix_each start limit (wrong_escape blanks sign gap spelled prefix rest hs each begins spells f w) =
    joined ((blanks ++ sign) ++ gap) (spelled ++ escapes_read w)
    (joined (blanks ++ sign) gap
    (joined blanks sign (blanks_each blanks hs.each)
    (handle_each start limit sign (gap ++ (spelled ++ rest)) hs.spells))
    (blanks_each gap each))
    (joined spelled (escapes_read w) (uris_each spelled (spelled_each uri_class spells.spells))
    (uris_each (escapes_read w) (escapes_each w)))
prefix_each start limit (unended {source} {handle = sign} {prefix} {rest} p u z) =
    subst (Each is_uri_or_blank) (sym p.is)
    (joined p.blanks (sign ++ (p.gap ++ p.spelled)) (blanks_each p.blanks p.handle_is.each)
    (joined sign (p.gap ++ p.spelled) (handle_each start limit sign (p.gap ++ (p.spelled ++ rest)) p.handle_is.spells)
    (joined p.gap p.spelled (blanks_each p.gap p.each)
    (uris_each p.spelled (spelled_each uri_class p.prefix_is.spells)))))

front_each : (start : Mark) (limit : ℕ) {text front : List ℕ} → PrefixBegins text front → Each is_uri_or_blank front
front_each start limit (up_to_blanks {blanks} a) = blanks_each blanks a.each
front_each start limit (up_to_word blanks word rest e y z) =
    joined blanks (0x21 ∷ word) (blanks_each blanks y) (uri_part 0x21 bang_uri, word_each word z)
front_each start limit (up_to_handle blanks sign behind hs) =
    joined blanks sign (blanks_each blanks hs.each) (handle_each start limit sign behind hs.spells)
front_each start limit (up_to_gap blanks sign behind gap rest hs a) =
    joined (blanks ++ sign) gap
    (joined blanks sign (blanks_each blanks hs.each) (handle_each start limit sign behind hs.spells))
    (blanks_each gap a.each)
front_each start limit (up_to_prefix blanks sign gap spelled rest hs y begins each) =
    joined ((blanks ++ sign) ++ gap) spelled
    (joined (blanks ++ sign) gap
    (joined blanks sign (blanks_each blanks hs.each)
    (handle_each start limit sign (gap ++ (spelled ++ rest)) hs.spells))
    (blanks_each gap y)) (uris_each spelled each)

pub front_bytes : (start : Mark) (limit : ℕ) {text front : List ℕ} → PrefixBegins text front
    → bytes_of front ≡ length front
front_bytes start limit {front = front} f = part_bytes front (front_each start limit f)

-- ---- no part of `%TAG` is wrong for the limit

no_limit_there : {kind : FaultKind} {text : List ℕ} (n : ℕ) → WrongEscapes kind text
    → kind ≡ DirectiveByteLimitExceeded n → ⊥
no_limit_there n (digits e) = λ z. cc
no_limit_there n (inside count source bytes rest b few e) = λ z. cc
no_limit_there n (leading b source rest e none) = λ z. cc
no_limit_there n (trailing count b source piece bytes rest begun few e m) = λ z. cc
no_limit_there n (no_character count source bytes rest b all none) = λ z. cc

no_limit : {text : List ℕ} {kind : FaultKind} (n : ℕ) → WrongPrefix text kind → kind ≡ DirectiveByteLimitExceeded n → ⊥
no_limit n (no_bang a m) = λ z. cc
no_limit n (no_second blanks word rest is each letters some m k) = λ z. cc
no_limit n (no_prefix blanks sign behind gap rest hs a m) = λ z. cc
no_limit n (wrong_escape blanks sign gap spelled prefix rest hs each begins spells f w) = no_limit_there n w
no_limit n (unended p u z) = λ z. cc

kinds_same : {A : Type 0} (kind other : FaultKind) (m : Mark)
    → ◌≡◌ {A = Result A Fault} (Err (fault_at kind m)) (Err (fault_at other m)) → kind ≡ other
kinds_same kind other m e = let q : fault_at kind m ≡ fault_at other m = cc in ap (λ (f : Fault). f.kind) q

-- ---- the first cause

module _ (start : Mark) (limit : ℕ) where
  pub data TagFirst (left : ℕ) (g : Here) : Result (DirectiveKind × Here) Fault → Type 0 where
    stands : {kind : DirectiveKind} {after : Here} (source handle text : List ℕ)
        → PrefixStands g.unread.text source handle text (over source g).unread.text
        → is_blank_or_breakz (next_char (over source g)) ≡ true → bytes_of source ≤ left
        → kind ≡ TagPrefix handle text → after ≡ over source g → TagFirst left g (Ok (kind, after))
    wrong_first : {kind : FaultKind} (w : WrongPrefix g.unread.text kind) → bytes_of (prefix_read w) ≤ left
        → TagFirst left g (Err (fault_at kind start))
    limit_first : {front : List ℕ} → PrefixBegins g.unread.text front → left < bytes_of front
        → ((kind : FaultKind) (w : WrongPrefix g.unread.text kind) → left < bytes_of (prefix_read w))
        → TagFirst left g (Limit start limit)

  module _ (left : ℕ) (g : Here) where
    abbrev tag : Result (DirectiveKind × Here) Fault
    tag = tag_directive (room start limit left) start g

    -- what is wrong within the limit is refused, and the limit where it isn't within it
    pub first_refused : {text : List ℕ} {kind : FaultKind} (w : WrongPrefix text kind) → g.unread.text ≡ text
        → bytes_of (prefix_read w) ≤ left → tag ≡ Err (fault_at kind start)
    first_refused w t l = let n = part_bytes (prefix_read w) (prefix_each start limit w) in
        prefix_fails start limit w left g t (omega arith)

    pub limit_passed : {kind : FaultKind} (w : WrongPrefix g.unread.text kind) → left < bytes_of (prefix_read w)
        → tag ≡ Limit start limit
    limit_passed w l = let n = part_bytes (prefix_read w) (prefix_each start limit w) in
        prefix_passes start limit w left g refl (omega arith)

    wrong_by : {kind : FaultKind} (w : WrongPrefix g.unread.text kind) → Err (fault_at kind start) ≡ tag
        → (left < bytes_of (prefix_read w)) ⊎ (bytes_of (prefix_read w) ≤ left)
        → TagFirst left g (Err (fault_at kind start))
    wrong_by w e (inr fits) = wrong_first w fits
    wrong_by {kind} w e (inl long) = absurd (no_limit limit w
        (kinds_same kind (DirectiveByteLimitExceeded limit) start (e ∙ limit_passed w long)))

    all_behind : Limit start limit ≡ tag → (kind : FaultKind) (w : WrongPrefix g.unread.text kind)
        → (left < bytes_of (prefix_read w)) ⊎ (bytes_of (prefix_read w) ≤ left) → left < bytes_of (prefix_read w)
    all_behind e kind w (inl long) = long
    all_behind e kind w (inr fits) = absurd (no_limit limit w
        (sym (kinds_same (DirectiveByteLimitExceeded limit) kind start (e ∙ first_refused w refl fits))))

    first_by : (r : Result (DirectiveKind × Here) Fault) → r ≡ tag → PrefixLineRead start limit left g r
        → TagFirst left g r
    first_by r e (read_tag source handle text p b l k m) = stands source handle text p b l k m
    first_by r e (wrong_tag w) = wrong_by w e (cases_lt left (bytes_of (prefix_read w)))
    first_by r e (passed_tag f l) = limit_first f l
        (λ kind w. all_behind e kind w (cases_lt left (bytes_of (prefix_read w))))

    pub tag_firsts : TagFirst left g tag
    tag_firsts = first_by tag refl (tag_reads start limit left g)

    -- the limit is told where it is passed and nothing is wrong within it
    abbrev AllBehind : List ℕ → Type 0
    AllBehind text = (kind : FaultKind) (w : WrongPrefix text kind) → left < bytes_of (prefix_read w)

    parts_each : {text source handle prefix rest : List ℕ} (p : PrefixStands text source handle prefix rest)
        → Each is_uri_or_blank source
    parts_each {handle = sign} {rest = rest} p =
        subst (Each is_uri_or_blank) (sym p.is)
        (joined p.blanks (sign ++ (p.gap ++ p.spelled)) (blanks_each p.blanks p.handle_is.each)
        (joined sign (p.gap ++ p.spelled) (handle_each start limit sign (p.gap ++ (p.spelled ++ rest))
        p.handle_is.spells)
        (joined p.gap p.spelled (blanks_each p.gap p.each)
        (uris_each p.spelled (spelled_each uri_class p.prefix_is.spells)))))

    limit_by : {front : List ℕ} → PrefixBegins g.unread.text front → left < length front → AllBehind g.unread.text
        → (r : Result (DirectiveKind × Here) Fault) → TagFirst left g r → r ≡ Limit start limit
    limit_by f l all r (stands source handle text p b fits k m) =
        let u = ends_no_uri (next_char (over source g)) b in
        let n = front_short start limit p u f in
        let e = part_bytes source (parts_each p) in
        absurd (omega arith)
    limit_by f l all r (wrong_first {kind} w fits) = absurd (let k = all kind w in omega arith)
    limit_by f l all r (limit_first g m others) = refl

    limit_here : {front : List ℕ} → PrefixBegins g.unread.text front → left < length front → AllBehind g.unread.text
        → tag ≡ Limit start limit
    limit_here f l all = limit_by f l all tag tag_firsts

    pub limit_refused : (text front : List ℕ) → g.unread.text ≡ text → PrefixBegins text front → left < length front
        → AllBehind text → tag ≡ Limit start limit
    limit_refused text front t = subst (λ (x : List ℕ). PrefixBegins x front → left < length front → AllBehind x
        → tag ≡ Limit start limit) t (λ f l all. limit_here f l all)
