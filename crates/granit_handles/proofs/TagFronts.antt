-- What is counted of `%TAG` is no longer than what stands there.
pub use Rattle.granit_names.proofs.TagOnce.{over-append, tag_is}
pub use Rattle.granit_names.proofs.NameLaw.{name_is, name_refused, name_stands, seen}
pub use Rattle.granit_names.proofs.Spelling.{escapes_spell, spelled_each, uri_class}
pub use Rattle.granit_names.proofs.TagLaw.{tag_refused, tag_stands}
use Rattle.std.proofs.Common.{◌≡◌, ℕ, suc, ◌+◌, ◌≤◌, ◌==◌, Bool, true, false, List, [], ◌∷◌, ◌++◌, length}
use Rattle.std.proofs.Common.{refl, sym, ap, ◌∙◌, arith, append_assoc, length-append}
use Rattle.granit_base.specs.Classes.{is_blank, is_alpha, is_uri_char}
use Rattle.granit_base.specs.Place.{Mark, first}
use Rattle.granit_lexemes.specs.DirectiveExtent.{PrefixBegins, up_to_blanks, up_to_word, up_to_handle, up_to_gap}
use Rattle.granit_lexemes.specs.DirectiveExtent.{up_to_prefix, SpellsHandle, named, alone, PrefixStands}
use Rattle.granit_lexemes.specs.Gap.{Each}
use Rattle.granit_handles.proofs.HandleOnce.{handle_no_blank, prefix_no_blank, bang_blank}
use Rattle.granit_names.proofs.TagLaw.{no_alpha_bang}
use Rattle.granit_names.proofs.NameLaw.{same_run}

-- a run of a class is no longer than the whole run
run_short : (test : ℕ → Bool) (front other source rest : List ℕ) → front ++ other ≡ source ++ rest → Each test front
    → test (first rest) ≡ false → length front ≤ length source
run_short test [] other source rest e y n = omega arith
run_short test (c ∷ front) other [] rest e y n = absurd
    (let t : test (first rest) ≡ true = ap (λ (l : List ℕ). test (first l)) (sym e) ∙ y.0 in cc)
run_short test (c ∷ front) other (d ∷ source) rest e y n =
    let t : front ++ other ≡ source ++ rest = cc in
    let k = run_short test front other source rest t y.1 n in omega arith

word_and_mark : (word behind : List ℕ) → (0x21 ∷ (word ++ 0x21 ∷ [])) ++ behind ≡ 0x21 ∷ (word ++ 0x21 ∷ behind)
word_and_mark word behind = ap (λ (l : List ℕ). 0x21 ∷ l) (append_assoc word (0x21 ∷ []) behind)

-- behind `!` alone no handle of a name begins
not_named : (word more behind : List ℕ) → word ++ 0x21 ∷ more ≡ behind → Each is_alpha word
    → is_alpha (first behind) ≡ false → (first behind == 0x21) ≡ false → ⊥
not_named [] more behind e y n m =
    let t : (first behind == 0x21) ≡ true = ap (λ (l : List ℕ). first l == 0x21) (sym e) in cc
not_named (c ∷ word) more behind e y n m =
    let t : is_alpha (first behind) ≡ true = ap (λ (l : List ℕ). is_alpha (first l)) (sym e) ∙ y.0 in cc

-- one handle stands at a place
handles_same : (a b x y : List ℕ) → a ++ x ≡ b ++ y → SpellsHandle a x → SpellsHandle b y → (a ≡ b) × (x ≡ y)
handles_same a b x y e (named word p) (named other q) =
    let t : word ++ 0x21 ∷ x ≡ other ++ 0x21 ∷ y =
    let f = sym (word_and_mark word x) ∙ e ∙ word_and_mark other y in cc in
    let s = same_run is_alpha word other (0x21 ∷ x) (0x21 ∷ y) t p q no_alpha_bang no_alpha_bang in
    let behind : x ≡ y = let g = s.1 in cc in
    (ap (λ (l : List ℕ). 0x21 ∷ (l ++ 0x21 ∷ [])) s.0, behind)
handles_same a b x y e (named word p) (alone n m) = absurd
    (not_named word x y (let f = sym (word_and_mark word x) ∙ e in cc) p n m)
handles_same a b x y e (alone n m) (named word p) = absurd
    (not_named word y x (let f = sym (word_and_mark word y) ∙ sym e in cc) p n m)
handles_same a b x y e (alone n m) (alone k l) = (refl, let f = e in cc)

-- the word of a handle is its whole word
word_short : (word rest b y : List ℕ) → 0x21 ∷ (word ++ rest) ≡ b ++ y → Each is_alpha word → SpellsHandle b y
    → suc (length word) ≤ length b
word_short word rest b y e p (named other q) =
    let t : word ++ rest ≡ other ++ 0x21 ∷ y = let f = e ∙ word_and_mark other y in cc in
    let k = run_short is_alpha word rest other (0x21 ∷ y) t p no_alpha_bang in
    omega (arith, length-append other (0x21 ∷ []))
word_short word rest b y e p (alone n m) =
    let t : word ++ rest ≡ [] ++ y = let f = e in cc in
    let k = run_short is_alpha word rest [] y t p n in omega arith

module _ (start : Mark) (limit : ℕ) {text source handle prefix rest : List ℕ}
    (p : PrefixStands text source handle prefix rest) (u : is_uri_char (first rest) ≡ false) where
  abbrev behind : List ℕ
  behind = p.gap ++ (p.spelled ++ rest)

  long : length source ≡ length p.blanks + (length handle + (length p.gap + length p.spelled))
  long = ap (length {A = ℕ}) p.is ∙ omega (
    arith,
    length-append p.blanks (handle ++ (p.gap ++ p.spelled)),
    length-append handle (p.gap ++ p.spelled),
    length-append p.gap p.spelled,
  )

  no_blank : is_blank (first (handle ++ behind)) ≡ false
  no_blank = handle_no_blank start limit handle behind p.handle_is.spells

  spelled_uri : Each is_uri_char p.spelled
  spelled_uri = spelled_each uri_class p.prefix_is.spells

  no_blank_spelled : is_blank (first (p.spelled ++ rest)) ≡ false
  no_blank_spelled = prefix_no_blank start limit p.spelled rest spelled_uri p.begins

  blanks_same : (blanks more : List ℕ) → text ≡ blanks ++ more → Each is_blank blanks → is_blank (first more) ≡ false
      → (blanks ≡ p.blanks) × (more ≡ handle ++ behind)
  blanks_same blanks more e y n = same_run is_blank blanks p.blanks more (handle ++ behind)
      (sym e ∙ p.handle_is.whole) y p.handle_is.each n no_blank

  handle_same : (blanks sign more : List ℕ) → text ≡ blanks ++ (sign ++ more) → Each is_blank blanks
      → SpellsHandle sign more → (blanks ≡ p.blanks) × (sign ≡ handle) × (more ≡ behind)
  handle_same blanks sign more e y s =
      let b = blanks_same blanks (sign ++ more) e y (handle_no_blank start limit sign more s) in
      let k = handles_same sign handle more behind b.1 s p.handle_is.spells in
      (b.0, k.0, k.1)

  pub front_short : {front : List ℕ} → PrefixBegins text front → length front ≤ length source
  front_short (up_to_blanks {blanks} {rest = more} a) =
      let b = ap (length {A = ℕ}) (blanks_same blanks more a.whole a.each a.all).0 in let n = long in omega arith
  front_short (up_to_word blanks word more e y z) =
      let s = blanks_same blanks (0x21 ∷ (word ++ more)) e y (bang_blank start limit) in
      let b = ap (length {A = ℕ}) s.0 in
      let k = word_short word more handle behind s.1 z p.handle_is.spells in
      let n = long in omega (arith, length-append blanks (0x21 ∷ word))
  front_short (up_to_handle blanks sign more hs) =
      let s = handle_same blanks sign more hs.whole hs.each hs.spells in
      let b = ap (length {A = ℕ}) s.0 in
      let k = ap (length {A = ℕ}) s.1 in
      let n = long in omega (arith, length-append blanks sign)
  front_short (up_to_gap blanks sign more gap further hs a) =
      let s = handle_same blanks sign more hs.whole hs.each hs.spells in
      let b = ap (length {A = ℕ}) s.0 in
      let k = ap (length {A = ℕ}) s.1 in
      let r = same_run is_blank gap p.gap further (p.spelled ++ rest) (sym a.whole ∙ s.2) a.each p.each a.all
      no_blank_spelled in
      let g = ap (length {A = ℕ}) r.0 in
      let n = long in omega (arith, length-append (blanks ++ sign) gap, length-append blanks sign)
  front_short (up_to_prefix blanks sign gap spelled further hs y begins each) =
      let s = handle_same blanks sign (gap ++ (spelled ++ further)) hs.whole hs.each hs.spells in
      let b = ap (length {A = ℕ}) s.0 in
      let k = ap (length {A = ℕ}) s.1 in
      let no = prefix_no_blank start limit spelled further each begins in
      let r = same_run is_blank gap p.gap (spelled ++ further) (p.spelled ++ rest) s.2 y p.each no no_blank_spelled in
      let g = ap (length {A = ℕ}) r.0 in
      let q = run_short is_uri_char spelled further p.spelled rest r.1 each u in
      let n = long in
      omega (
        arith,
        length-append ((blanks ++ sign) ++ gap) spelled,
        length-append (blanks ++ sign) gap,
        length-append blanks sign,
      )
