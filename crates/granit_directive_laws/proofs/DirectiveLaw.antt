-- A directive is read where it stands, and refused where none does.
use Rattle.std.proofs.Common.{◌≡◌, ◌≢◌, ℕ, ◌-◌, ◌≤◌, ◌==◌, Bool, true, false, not, List, [], ◌∷◌, ◌++◌, length, Option}
use Rattle.std.proofs.Common.{Result, Ok, Err, refl, sym, ap, ap₂, ◌∙◌, subst, arith}
use Rattle.std.specs.Prelude.{if◌then◌else◌, nat_lt, codes}
use Rattle.std.proofs.lemmas.Bool.{cond-true, cond-false}
use Rattle.std.proofs.lemmas.Bool.Decides.{nat_tests}
use Rattle.std.specs.Cmp.Lexicographic.{bytes_decides}
use Rattle.granit_base.specs.Classes.{is_blank_or_breakz, is_yaml_non_space}
use Rattle.granit_base.specs.Place.{Mark, first}
use Rattle.granit_base.specs.Written.{same_text}
use Rattle.granit_error.specs.FaultKind.{FaultKind, MissingDirectiveName, InvalidDirectiveName}
use Rattle.granit_error.specs.FaultKind.{DirectiveByteLimitExceeded}
use Rattle.granit_error.specs.OptionsData.{OptionsData}
use Rattle.granit_lexemes.specs.Here.{Here, next_char, mark_of, step}
use Rattle.granit_lexemes.specs.Outcome.{Fault, ◌>>=◌}
use Rattle.granit_lexemes.specs.PlainExtent.{over}
use Rattle.granit_lexemes.specs.Basics.{fails_at}
use Rattle.granit_lexemes.proofs.HereLemmas.{not_empty, stepped_text}
use Rattle.granit_scalars.proofs.QuotedEscapes.{over_text}
use Rattle.granit_scalars.proofs.Stepping.{seen, over-append}
use Rattle.granit_lexemes.specs.Directive.{word_up_to, version_directive, tag_directive, ParameterState}
use Rattle.granit_lexemes.specs.Directive.{reserved_directive, directive_of, behind_name, directive_at}
use Rattle.granit_lexemes.specs.Lexeme.{DirectiveKind, Reserved}
use Rattle.granit_lexemes.specs.Tags.{Budget, spent}
use Rattle.granit_lexemes.specs.DirectiveExtent.{bytes_of, All, DirectiveName, DirectiveNameStands, VersionStands}
use Rattle.granit_lexemes.specs.DirectiveExtent.{PrefixStands, WordsStand, Continues, version, handle, reserved}
use Rattle.granit_lexemes.specs.DirectiveExtent.{DirectiveStands, WrongContinuation, version as wrong_version}
use Rattle.granit_lexemes.specs.DirectiveExtent.{handle as wrong_handle, long_handle, long_words, long_blanks}
use Rattle.granit_lexemes.specs.DirectiveExtent.{many_words, WrongDirective, nameless, wrong_name, long_name, behind}
use Rattle.granit_handles.proofs.VersionLaw.{count_over, text_over}
use Rattle.granit_handles.proofs.VersionLaw.{all_over, all_past, VersionRead, read_version, wrong_version as no_version}
use Rattle.granit_handles.proofs.VersionLaw.{version_reads, version_is}
use Rattle.granit_lexemes.specs.DirectiveCause.{FirstBehind, FirstWrong}
use Rattle.granit_directive_laws.proofs.FirstTag.{TagFirst, stands, wrong_first, limit_first, tag_firsts}
use Rattle.granit_handles.proofs.HandleOnce.{tag_is}
use Rattle.granit_handles.proofs.ReservedLaw.{no_word_nul, budget, WordsRead, read, too_long, too_wide, too_many}
use Rattle.granit_handles.proofs.ReservedLaw.{words_read, reserved_is}

-- why no directive stands here, and no such cause before it
pub record FirstDirective (o : OptionsData) (h : Here) (kind : FaultKind) (m : Mark) : Type 0 where
  pub wrong : WrongDirective o h kind m
  pub first : FirstWrong wrong

abbrev pub DirectiveAnswered : OptionsData → Here → Result (DirectiveKind × Here) Fault → Type 0
DirectiveAnswered o h (Ok (kind, after)) = DirectiveStands o h kind after
DirectiveAnswered o h (Err f) = FirstDirective o h f.kind f.mark × (f.sources ≡ [])

abbrev with_place : Here → Option Budget → Result (Option Budget × Here) Fault
with_place g l = Ok (l, g)

-- ---- which directive a name makes

name_same : (a b : List ℕ) → same_text a b ≡ true → a ≡ b
name_same a b e = (bytes_decides a b).0 e

other_name : (a b : List ℕ) → same_text a b ≡ false → a ≢ b
other_name a b e z = let t = (bytes_decides a b).1 z in cc

name_differs : (a b : List ℕ) → a ≢ b → same_text a b ≡ false
name_differs a b n = by (same_text a b) refl
  where
    by : (v : Bool) → same_text a b ≡ v → same_text a b ≡ false
    by false p = p
    by true p = absurd (n (name_same a b p))

-- ---- behind a name

module _ (o : OptionsData) (h : Here) (name : List ℕ) where
  abbrev place : Here
  place = over name (step h)

  abbrev room : ℕ
  room = o.max_directive_bytes - bytes_of name

  -- what is read behind the name
  abbrev Went : Result (DirectiveKind × Here) Fault → Type 0
  Went (Ok (kind, after)) = (source : List ℕ) × Continues o name place.unread.text source kind
      × (after ≡ over source place)
  Went (Err f) = (w : WrongContinuation o name place.unread.text f.kind) × FirstBehind w × (f.mark ≡ mark_of h)
      × (f.sources ≡ [])

  went_all : DirectiveNameStands o h name place.unread.text → (r : Result (DirectiveKind × Here) Fault) → Went r
      → DirectiveAnswered o h r
  went_all s (Ok (kind, after)) w = record {
    name = name;
    rest = place.unread.text;
    source = w.0;
    stands = s;
    goes =
        w.1;
    reached = w.2 ∙ sym (over-append name w.0 (step h));
  }
  went_all s (Err f) w =
      (subst (FirstDirective o h f.kind) (sym w.2) (record { wrong = behind s w.0; first = w.1 }), w.3)

  version_went : name ≡ codes "YAML" → (r : Result (DirectiveKind × Here) Fault) → VersionRead (mark_of h) place r
      → Went r
  version_went e r (read_version source major minor s k l) =
      (source, subst (Continues o name place.unread.text source) (sym k) (version e s), l)
  version_went e r (no_version w) = (wrong_version e w, tt, refl, refl)

  module _ (fits : bytes_of name ≤ o.max_directive_bytes) where
    words_went : name ≢ codes "YAML" → name ≢ codes "TAG" → (r : Result (List (List ℕ) × ParameterState) Fault)
        → WordsRead o (mark_of h) o.max_directive_bytes room 0 place r
        → Went (r >>= λ x. Ok (Reserved name x.0, x.1.here))
    words_went n m r (read source blanks words s t b c l) =
        (source ++ blanks, reserved n m s t (omega arith) (omega arith), l)
    words_went n m r (too_long source piece word rest further words s p c l) =
        (long_words n m s p (omega arith) (omega arith), tt, refl, refl)
    words_went n m r (too_wide source piece word rest further words s p c l) =
        (long_blanks n m s p (omega arith) (omega arith), tt, refl, refl)
    words_went n m r (too_many source piece word rest further words s p c l) =
        (many_words n m s p (omega arith) (omega arith), tt, refl, refl)

    abbrev left : Option Budget
    left = budget o (mark_of h) o.max_directive_bytes room

    tag_went : name ≡ codes "TAG" → (r : Result (DirectiveKind × Here) Fault)
        → TagFirst (mark_of h) o.max_directive_bytes room place r → Went r
    tag_went e r (stands source prefix text s f b k l) = (
      source,
      subst (Continues o name place.unread.text source) (sym k)
          (handle (over source place).unread.text e s f (omega arith)),
      l,
    )
    tag_went e r (wrong_first w l) = (wrong_handle e w, omega arith, refl, refl)
    tag_went e r (limit_first f l all) =
        (long_handle e f (omega arith), λ kind w. let k = all kind w in omega arith, refl, refl)

    tag_if : name ≢ codes "YAML" → (v : Bool) → same_text name (codes "TAG") ≡ v
        → Went (if v then tag_directive left (mark_of h) place else reserved_directive o left (mark_of h) name place)
    tag_if n true e = tag_went (name_same name (codes "TAG") e) _
        (tag_firsts (mark_of h) o.max_directive_bytes room place)
    tag_if n false e = words_went n (other_name name (codes "TAG") e) _
        (words_read o (mark_of h) o.max_directive_bytes room place)

    yaml_if : (v : Bool) → same_text name (codes "YAML") ≡ v
        → Went (if v then version_directive (mark_of h) place
        else if same_text name (codes "TAG") then tag_directive left (mark_of h) place
        else reserved_directive o left (mark_of h) name place)
    yaml_if true e = version_went (name_same name (codes "YAML") e) _ (version_reads (mark_of h) place)
    yaml_if false e = tag_if (other_name name (codes "YAML") e) (same_text name (codes "TAG")) refl

    name_went : Went (directive_of o left (mark_of h) name place)
    unfolding directive_of
    name_went = yaml_if (same_text name (codes "YAML")) refl

  -- ---- the name

  -- behind a name that is within the limit
  abbrev pub given_behind : Option Budget → (k : ℕ) → List ℕ → Result (DirectiveKind × Here) Fault
  given_behind l k t =
      if k == 0 then fails_at MissingDirectiveName (mark_of (step h))
      else if not (is_blank_or_breakz (next_char place)) then fails_at InvalidDirectiveName (mark_of (step h))
      else directive_of o l (mark_of h) t place

  abbrev pub given_name : Result (DirectiveKind × Here) Fault
  given_name =
      ((if nat_lt o.max_directive_bytes (bytes_of name) then fails_at (DirectiveByteLimitExceeded o.max_directive_bytes)
      (mark_of (step h)) else Ok (budget o (mark_of h) o.max_directive_bytes room)) >>= with_place place)
      >>= behind_name o (mark_of h) (step h)

  pub name_run : (rest : List ℕ) → All is_yaml_non_space (step h).unread.text name rest → directive_at o h ≡ given_name
  unfolding directive_at
  name_run rest a =
      ap (λ (g : Here). word_up_to (budget o (mark_of h) o.max_directive_bytes o.max_directive_bytes) (mark_of (step h))
      (step h) g >>= behind_name o (mark_of h) (step h))
      (all_past is_yaml_non_space no_word_nul (step h) name rest a)
      ∙ ap (λ (l : List ℕ). (spent (budget o (mark_of h) o.max_directive_bytes o.max_directive_bytes) (bytes_of l)
      (mark_of (step h)) >>= with_place place) >>= behind_name o (mark_of h) (step h))
      (text_over name rest (step h) a.whole)

  pub behind_is : (l : Option Budget) (rest : List ℕ) → All is_yaml_non_space (step h).unread.text name rest
      → behind_name o (mark_of h) (step h) (l, place) ≡ given_behind l (length name) name
  behind_is l rest a = ap₂ (λ k (t : List ℕ). given_behind l k t) (count_over name rest (step h) a.whole)
      (text_over name rest (step h) a.whole)

  module _ (d : DirectiveName h name place.unread.text) where
    parted_if : name ≢ [] → bytes_of name ≤ o.max_directive_bytes → (v : Bool)
        → is_blank_or_breakz (next_char place) ≡ v
        → DirectiveAnswered o h (if not v then fails_at InvalidDirectiveName (mark_of (step h)) else directive_of o
        (budget o (mark_of h) o.max_directive_bytes room) (mark_of h) name place)
    parted_if some fits true e = went_all (record { is = d; some = some; within = fits; parted = e }) _ (name_went fits)
    parted_if some fits false e = (record { wrong = wrong_name d some fits e; first = tt }, refl)

    some_if : bytes_of name ≤ o.max_directive_bytes → (v : Bool) → (length name == 0) ≡ v
        → DirectiveAnswered o h (if v then fails_at MissingDirectiveName (mark_of (step h)) else if not
        (is_blank_or_breakz (next_char place)) then fails_at InvalidDirectiveName (mark_of (step h)) else directive_of o
        (budget o (mark_of h) o.max_directive_bytes room) (mark_of h) name place)
    some_if fits true e = (
      record {
        wrong = nameless (subst (λ (l : List ℕ). DirectiveName h l place.unread.text) (empty_is name e) d);
        first = tt;
      },
      refl,
    )
      where
        empty_is : (l : List ℕ) → (length l == 0) ≡ true → l ≡ []
        empty_is [] e = refl
        empty_is (c ∷ l) e = absurd (let n = not_empty c l in cc)
    some_if fits false e = parted_if (λ z. let t : (length name == 0)
        ≡ true = ap (λ (l : List ℕ). length l == 0) z in cc) fits (is_blank_or_breakz (next_char place)) refl

    limit_if : All is_yaml_non_space (step h).unread.text name place.unread.text → (v : Bool)
        → nat_lt o.max_directive_bytes (bytes_of name) ≡ v
        → DirectiveAnswered o h (((if v then fails_at (DirectiveByteLimitExceeded o.max_directive_bytes)
        (mark_of (step h)) else Ok (budget o (mark_of h) o.max_directive_bytes room)) >>= with_place place) >>=
        behind_name o (mark_of h) (step h))
    limit_if a true e = (record { wrong = long_name d (grind (arith, nat_tests)); first = tt }, refl)
    limit_if a false e = subst (DirectiveAnswered o h)
        (sym (behind_is (budget o (mark_of h) o.max_directive_bytes room) place.unread.text a))
        (some_if (grind (arith, nat_tests)) (length name == 0) refl)

pub directive_answered : (o : OptionsData) (h : Here) → next_char h ≡ 0x25 → DirectiveAnswered o h (directive_at o h)
directive_answered o h sign =
    let s = seen (λ c. c == 0x25) h refl (ap (λ c. c == 0x25) sign) in
    let w = all_over is_yaml_non_space no_word_nul (step h) in
    let d : DirectiveName h w.0 (over w.0 (step h)).unread.text =
    record { text = (step h).unread.text; begins = s.is ∙ ap (λ c. c ∷ (step h).unread.text) sign; is = w.1 } in
    subst (DirectiveAnswered o h) (sym (name_run o h w.0 (over w.0 (step h)).unread.text w.1))
    (limit_if o h w.0 d w.1 (nat_lt o.max_directive_bytes (bytes_of w.0)) refl)

pub directive_stands : (o : OptionsData) (h : Here) (kind : DirectiveKind) (after : Here) → next_char h ≡ 0x25
    → directive_at o h ≡ Ok (kind, after) → DirectiveStands o h kind after
directive_stands o h kind after b e = subst (DirectiveAnswered o h) e (directive_answered o h b)

pub directive_refused : (o : OptionsData) (h : Here) (f : Fault) → next_char h ≡ 0x25 → directive_at o h ≡ Err f
    → FirstDirective o h f.kind f.mark × (f.sources ≡ [])
directive_refused o h f b e = subst (DirectiveAnswered o h) e (directive_answered o h b)

-- ---- what stands there is read

module _ (o : OptionsData) (h : Here) (name rest : List ℕ) (s : DirectiveNameStands o h name rest) where
  abbrev front : All is_yaml_non_space s.is.text name rest
  front = s.is.is

  pub behind_sign : (step h).unread.text ≡ s.is.text
  behind_sign = stepped_text h 0x25 s.is.text s.is.begins

  pub name_all : All is_yaml_non_space (step h).unread.text name rest
  name_all = subst (λ (l : List ℕ). All is_yaml_non_space l name rest) (sym behind_sign) front

  pub name_place : (over name (step h)).unread.text ≡ rest
  name_place = over_text name rest (step h) name_all.whole

  some_name : (l : List ℕ) → l ≢ [] → (length l == 0) ≡ false
  some_name [] n = absurd (n refl)
  some_name (c ∷ l) n = not_empty c l

  pub name_read : directive_at o h ≡ directive_of o
      (budget o (mark_of h) o.max_directive_bytes (o.max_directive_bytes - bytes_of name)) (mark_of h) name
      (over name (step h))
  name_read =
      let fits = s.within in
      let n : nat_lt o.max_directive_bytes (bytes_of name) ≡ false = grind (arith, nat_tests) in
      let g = over name (step h) in
      let p : is_blank_or_breakz (next_char g) ≡ true = ap (λ (l : List ℕ). is_blank_or_breakz (first l)) name_place
      ∙ s.parted in
      name_run o h name rest name_all
      ∙ ap (λ (v : Bool). ((if v then fails_at (DirectiveByteLimitExceeded o.max_directive_bytes) (mark_of (step h))
      else Ok (budget o (mark_of h) o.max_directive_bytes (o.max_directive_bytes - bytes_of name))) >>= with_place g)
      >>= behind_name o (mark_of h) (step h)) n
      ∙ behind_is o h name (budget o (mark_of h) o.max_directive_bytes (o.max_directive_bytes - bytes_of name)) rest
      name_all
      ∙ cond-false (length name == 0) _ _ (some_name name s.some)
      ∙ cond-false (not (is_blank_or_breakz (next_char g))) _ _ (ap not p)

pub yaml_of : (o : OptionsData) (l : Option Budget) (start : Mark) (name : List ℕ) (g : Here) → name ≡ codes "YAML"
    → directive_of o l start name g ≡ version_directive start g
unfolding directive_of
yaml_of o l start name g e = cond-true (same_text name (codes "YAML")) _ _ ((bytes_decides name (codes "YAML")).1 e)

pub prefix_of : (o : OptionsData) (l : Option Budget) (start : Mark) (name : List ℕ) (g : Here) → name ≡ codes "TAG"
    → directive_of o l start name g ≡ tag_directive l start g
unfolding directive_of
prefix_of o l start name g e =
    cond-false (same_text name (codes "YAML")) _ _ (ap (λ (n : List ℕ). same_text n (codes "YAML")) e)
    ∙ cond-true (same_text name (codes "TAG")) _ _ ((bytes_decides name (codes "TAG")).1 e)

pub reserved_of : (o : OptionsData) (l : Option Budget) (start : Mark) (name : List ℕ) (g : Here) → name ≢ codes "YAML"
    → name ≢ codes "TAG" → directive_of o l start name g ≡ reserved_directive o l start name g
unfolding directive_of
reserved_of o l start name g n m = cond-false (same_text name (codes "YAML")) _ _ (name_differs name (codes "YAML") n)
    ∙ cond-false (same_text name (codes "TAG")) _ _ (name_differs name (codes "TAG") m)

goes_is : (o : OptionsData) (h : Here) (name rest source : List ℕ) (kind : DirectiveKind)
    → DirectiveNameStands o h name rest → Continues o name rest source kind
    → directive_of o (budget o (mark_of h) o.max_directive_bytes (o.max_directive_bytes - bytes_of name)) (mark_of h)
    name (over name (step h)) ≡ Ok (kind, over source (over name (step h)))
goes_is o h name rest source kind s (version {major} {minor} e v) =
    yaml_of o _ (mark_of h) name (over name (step h)) e
    ∙ version_is (mark_of h) (over name (step h)) source major minor
    (subst (λ (l : List ℕ). VersionStands l source major minor) (sym (name_place o h name rest s)) v)
goes_is o h name rest source kind s (handle {handle = word} {prefix} further e t p b) =
    let fits = s.within in
    prefix_of o _ (mark_of h) name (over name (step h)) e
    ∙ tag_is (mark_of h) o.max_directive_bytes (o.max_directive_bytes - bytes_of name) (over name (step h)) source word
    prefix further
    (subst (λ (l : List ℕ). PrefixStands l source word prefix further) (sym (name_place o h name rest s)) t) p
    (omega arith)
goes_is o h name rest source kind s (reserved {source = words_source} {blanks} {rest = end} {more} {words} n m w t b
    c) =
    let fits = s.within in
    reserved_of o _ (mark_of h) name (over name (step h)) n m
    ∙ reserved_is o (mark_of h) o.max_directive_bytes (o.max_directive_bytes - bytes_of name) name words_source blanks
    more end words (over name (step h))
    (subst (λ (l : List ℕ). WordsStand l words_source words more) (sym (name_place o h name rest s)) w) t (omega arith)
    c

pub directive_is : (o : OptionsData) (h : Here) (kind : DirectiveKind) (after : Here) → DirectiveStands o h kind after
    → directive_at o h ≡ Ok (kind, after)
directive_is o h kind after a =
    name_read o h a.name a.rest a.stands
    ∙ goes_is o h a.name a.rest a.source kind a.stands a.goes
    ∙ ap (λ (g : Here). Ok (kind, g)) (sym (over-append a.name a.source (step h)) ∙ sym a.reached)

pub one_directive_stands : (o : OptionsData) (h : Here) (kind other : DirectiveKind) (after place : Here)
    → DirectiveStands o h kind after → DirectiveStands o h other place → (kind ≡ other) × (after ≡ place)
one_directive_stands o h kind other after place p q =
    let e : ◌≡◌ {A = Result (DirectiveKind × Here) Fault} (Ok (kind, after)) (Ok (other, place)) = sym
    (directive_is o h kind after p) ∙ directive_is o h other place q in
    let pair : ◌≡◌ {A = DirectiveKind × Here} (kind, after) (other, place) = cc in
    (ap (λ (x : DirectiveKind × Here). x.0) pair, ap (λ (x : DirectiveKind × Here). x.1) pair)
