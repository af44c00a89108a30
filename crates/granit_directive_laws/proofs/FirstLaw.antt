-- What is the first cause of a directive is what the directive is refused for, so one such cause stands at most.
use Rattle.std.proofs.Common.{◌≡◌, ◌≢◌, ℕ, ◌+◌, ◌-◌, ◌<◌, ◌≤◌, ◌==◌, Bool, true, false, not, List, [], ◌∷◌, ◌++◌}
use Rattle.std.proofs.Common.{length}
use Rattle.std.proofs.Common.{Option, Result, Ok, Err, refl, sym, ap, ◌∙◌, subst, arith, ◌⊎◌, inl, inr}
use Rattle.std.specs.Prelude.{if◌then◌else◌, nat_lt, codes}
use Rattle.std.proofs.lemmas.Bool.{cond-true, cond-false, cases_lt}
use Rattle.std.proofs.lemmas.Bool.Decides.{nat_tests}
use Rattle.granit_base.specs.Classes.{is_blank, is_blank_or_breakz, is_yaml_non_space}
use Rattle.granit_base.specs.Place.{Mark, first}
use Rattle.granit_error.specs.FaultKind.{FaultKind, DirectiveByteLimitExceeded, TooManyReservedDirectiveParams}
use Rattle.granit_error.specs.OptionsData.{OptionsData}
use Rattle.granit_lexemes.proofs.HereLemmas.{stepped_text}
use Rattle.granit_lexemes.specs.Basics.{fails_at}
use Rattle.granit_lexemes.specs.Directive.{DirectiveRead, version_number, minor_number, version_directive}
use Rattle.granit_lexemes.specs.Directive.{parameter_turn, directive_of, behind_name, directive_at, directive_behind}
use Rattle.granit_lexemes.specs.Directive.{directive}
use Rattle.granit_lexemes.specs.DirectiveExtent.{bytes_of, All, DirectiveName, DirectiveNameStands, NumberStands}
use Rattle.granit_lexemes.specs.DirectiveExtent.{WrongNumber, missing, too_long, WrongVersion, first_wrong, no_point}
use Rattle.granit_lexemes.specs.DirectiveExtent.{second_wrong, WordStands, WordsStand, WrongContinuation, version}
use Rattle.granit_lexemes.specs.DirectiveExtent.{handle}
use Rattle.granit_lexemes.specs.DirectiveExtent.{long_handle, long_words, long_blanks, many_words, WrongDirective}
use Rattle.granit_lexemes.specs.DirectiveExtent.{nameless, wrong_name, long_name, behind, RefusesDirective, disallowed}
use Rattle.granit_lexemes.specs.DirectiveExtent.{wrong, line}
use Rattle.granit_lexemes.specs.Here.{Here, next_char, mark_of, step}
use Rattle.granit_lexemes.specs.Lexeme.{DirectiveKind, Version}
use Rattle.granit_lexemes.specs.Outcome.{Fault, fault_at, ◌>>=◌}
use Rattle.granit_lexemes.specs.PlainExtent.{over}
use Rattle.granit_lexemes.specs.Tags.{Budget}
use Rattle.granit_lexemes.specs.DirectiveCause.{FirstBehind, FirstWrong, ComesFirst, DirectiveCause}
use Rattle.granit_directive_laws.proofs.DirectiveLaw.{name_run, behind_is, name_read, name_place, yaml_of, prefix_of}
use Rattle.granit_directive_laws.proofs.DirectiveLaw.{reserved_of}
use Rattle.granit_directive_laws.proofs.DirectiveLaw.{directive_is}
use Rattle.granit_directive_laws.proofs.FirstTag.{first_refused, limit_refused, front_bytes}
use Rattle.granit_directive_laws.proofs.LineLaw.{line_end_wrong}
use Rattle.granit_handles.proofs.ReservedLaw.{budget, reading, bytes-append, long_here, wide_here, many_here}
use Rattle.granit_handles.proofs.ReservedLaw.{reserved_fails}
use Rattle.granit_handles.proofs.ReservedLaw.{reserved_over}
use Rattle.granit_handles.proofs.VersionLaw.{some_is}
use Rattle.granit_handles.proofs.VersionLaw.{no_blank_nul, all_past, number_run, number_is}
use Rattle.granit_scalars.proofs.QuotedEscapes.{over_text}

-- ---- `%YAML`

module _ (start : Mark) (g : Here) where
  number_fails : {kind : FaultKind} → WrongNumber g.unread.text kind
      → version_number start g ≡ Err (fault_at kind start)
  number_fails (missing e) = number_run start g [] g.unread.text (record { whole = refl; each = tt; all = e })
  number_fails (too_long {digits} {rest} a l) =
      number_run start g digits rest a
      ∙ cond-false (length digits == 0) _ _ (grind (arith, nat_tests))
      ∙ cond-true (nat_lt 9 (length digits)) _ _ (grind (arith, nat_tests))

module _ (start : Mark) (g : Here) where
  abbrev both : ℕ × Here → Result (DirectiveKind × Here) Fault
  both major = minor_number start major.1 >>= λ minor. Ok (Version major.0 minor.0, minor.1)

  abbrev with_major : ℕ → ℕ × Here → Result (DirectiveKind × Here) Fault
  with_major major minor = Ok (Version major minor.0, minor.1)

  module _ (blanks rest : List ℕ) (a : All is_blank g.unread.text blanks rest) where
    blanks_text : (over blanks g).unread.text ≡ rest
    blanks_text = over_text blanks rest g a.whole

    past_blanks : version_directive start g ≡ (version_number start (over blanks g) >>= both)
    past_blanks = ap (λ (i : Here). version_number start i >>= both) (all_past is_blank no_blank_nul g blanks rest a)

    module _ (digits fraction : List ℕ) (n : ℕ) (s : NumberStands rest digits fraction n) where
      digits_here : NumberStands (over blanks g).unread.text digits fraction n
      digits_here = subst (λ (l : List ℕ). NumberStands l digits fraction n) (sym blanks_text) s

      digits_text : (over digits (over blanks g)).unread.text ≡ fraction
      digits_text = over_text digits fraction (over blanks g) digits_here.is.whole

      past_number : version_directive start g ≡ both (n, over digits (over blanks g))
      past_number = past_blanks ∙ ap (λ r. r >>= both) (number_is start (over blanks g) digits fraction n digits_here)

  pub version_fails : {kind : FaultKind} → WrongVersion g.unread.text kind
      → version_directive start g ≡ Err (fault_at kind start)
  unfolding minor_number
  version_fails {kind} (first_wrong {blanks} {behind = rest} a w) =
      past_blanks blanks rest a
      ∙ ap (λ r. r >>= both) (number_fails start (over blanks g)
      (subst (λ (l : List ℕ). WrongNumber l kind) (sym (blanks_text blanks rest a)) w))
  version_fails (no_point {blanks} {behind = more} {digits} {rest} {n} a s e) =
      let point = over digits (over blanks g) in
      past_number blanks more a digits rest n s
      ∙ ap (λ r. r >>= with_major n) (cond-false (next_char point == 0x2E) _ _
      (ap (λ (l : List ℕ). first l == 0x2E) (digits_text blanks more a digits rest n s) ∙ e))
  version_fails {kind} (second_wrong {blanks} {behind = more} {digits} {rest} {n} a s w) =
      let point = over digits (over blanks g) in
      let t = digits_text blanks more a digits (0x2E ∷ rest) n s in
      let u = stepped_text point 0x2E rest t in
      past_number blanks more a digits (0x2E ∷ rest) n s
      ∙ ap (λ r. r >>= with_major n) (cond-true (next_char point == 0x2E) _ _
      (ap (λ (l : List ℕ). first l == 0x2E) t)
      ∙ number_fails start (step point) (subst (λ (l : List ℕ). WrongNumber l kind) (sym u) w))

-- ---- behind a name

module _ (o : OptionsData) (h : Here) (name rest : List ℕ) (s : DirectiveNameStands o h name rest) where
  abbrev g : Here
  g = over name (step h)

  abbrev most : ℕ
  most = o.max_directive_bytes

  abbrev room : ℕ
  room = most - bytes_of name

  there : g.unread.text ≡ rest
  there = name_place o h name rest s

  module _ (n : name ≢ codes "YAML") (m : name ≢ codes "TAG") (source front : List ℕ) (words : List (List ℕ))
      (stand : WordsStand rest source words front) where
    here : WordsStand g.unread.text source words front
    here = subst (λ (l : List ℕ). WordsStand l source words front) (sym there) stand

    abbrev read : Result (DirectiveKind × Here) Fault
    read = directive_of o (budget o (mark_of h) most room) (mark_of h) name g

    words_over : room < bytes_of source → length words ≤ o.max_reserved_directive_params
        → read ≡ fails_at (DirectiveByteLimitExceeded most) (mark_of h)
    words_over l c = reserved_of o (budget o (mark_of h) most room) (mark_of h) name g n m
        ∙ reserved_over o (mark_of h) most room name source front words g here l c

    words_fail : (f : Fault) → bytes_of source ≤ room → length words ≤ o.max_reserved_directive_params
        → ((i c : ℕ) (g : Here) → i + bytes_of source ≡ room → c ≡ length words → g.unread.text ≡ front
        → parameter_turn o (mark_of h) (reading o (mark_of h) most i c g) ≡ Err f) → read ≡ Err f
    words_fail f l c w = reserved_of o (budget o (mark_of h) most room) (mark_of h) name g n m
        ∙ reserved_fails o (mark_of h) most room name source front words f g here l c w

    module _ (piece word behind : List ℕ) (last : WordStands front piece word behind) where
      moved : (i : Here) → i.unread.text ≡ front → WordStands i.unread.text piece word behind
      moved i t = record {
        blanks = last.blanks;
        behind = last.behind;
        parted = subst (λ (l : List ℕ). All is_blank l last.blanks last.behind) (sym t) last.parted;
        begins = last.begins;
        is = last.is;
        source_is = last.source_is;
      }

      blanks_kept : (i : Here) (t : i.unread.text ≡ front) → bytes_of (moved i t).blanks ≡ bytes_of last.blanks
      unfolding moved
      blanks_kept i t = refl

      pub long_word : length words < o.max_reserved_directive_params → room < bytes_of (source ++ piece)
          → read ≡ fails_at (DirectiveByteLimitExceeded most) (mark_of h)
      long_word c l = by (cases_lt room (bytes_of source))
        where
          by : (room < bytes_of source) ⊎ (bytes_of source ≤ room)
              → read ≡ fails_at (DirectiveByteLimitExceeded most) (mark_of h)
          by (inl passed) = words_over passed (omega arith)
          by (inr fits) =
              let sum = bytes-append source piece in
              words_fail (fault_at (DirectiveByteLimitExceeded most) (mark_of h)) fits (omega arith)
              (λ i k j e d t. long_here o (mark_of h) most i k j piece word behind (moved j t)
              (omega (arith, e, sum)) (omega (arith, d)))

      pub long_gap : length words ≡ o.max_reserved_directive_params → room < bytes_of (source ++ last.blanks)
          → read ≡ fails_at (DirectiveByteLimitExceeded most) (mark_of h)
      long_gap c l = by (cases_lt room (bytes_of source))
        where
          by : (room < bytes_of source) ⊎ (bytes_of source ≤ room)
              → read ≡ fails_at (DirectiveByteLimitExceeded most) (mark_of h)
          by (inl passed) = words_over passed (omega arith)
          by (inr fits) =
              let sum = bytes-append source last.blanks in
              words_fail (fault_at (DirectiveByteLimitExceeded most) (mark_of h)) fits (omega arith)
              (λ i k j e d t. wide_here o (mark_of h) most i k j piece word behind (moved j t)
              (omega (arith, e, sum, blanks_kept j t)))

      pub many : length words ≡ o.max_reserved_directive_params → bytes_of (source ++ last.blanks) ≤ room
          → read ≡ fails_at (TooManyReservedDirectiveParams o.max_reserved_directive_params) (mark_of h)
      many c l =
          let sum = bytes-append source last.blanks in
          words_fail (fault_at (TooManyReservedDirectiveParams o.max_reserved_directive_params) (mark_of h))
          (omega arith) (omega arith)
          (λ i k j e d t. many_here o (mark_of h) most i k j piece word behind (moved j t)
          (omega (arith, e, sum, blanks_kept j t)) (omega (arith, c, d)))

  continuation_fails : {kind : FaultKind} (w : WrongContinuation o name rest kind) → FirstBehind w
      → directive_of o (budget o (mark_of h) most room) (mark_of h) name g ≡ Err (fault_at kind (mark_of h))
  continuation_fails {kind} (version e w) f =
      yaml_of o (budget o (mark_of h) most room) (mark_of h) name g e
      ∙ version_fails (mark_of h) g (subst (λ (l : List ℕ). WrongVersion l kind) (sym there) w)
  continuation_fails (handle e w) f =
      let fits = s.within in
      prefix_of o (budget o (mark_of h) most room) (mark_of h) name g e
      ∙ first_refused (mark_of h) most room g w there (omega (arith, f, fits))
  continuation_fails (long_handle {front} e b l) f =
      let fits = s.within in
      let n = front_bytes (mark_of h) most b in
      prefix_of o (budget o (mark_of h) most room) (mark_of h) name g e
      ∙ limit_refused (mark_of h) most room g rest front there b (omega (arith, l, n))
      (λ kind w. let k = f kind w in omega (arith, k, fits))
  continuation_fails (long_words {source} {piece} {word} {rest = front} {behind = more} {words} n m stand next few l)
      f =
      let fits = s.within in
      long_word n m source front words stand piece word more next few (omega (arith, l, fits))
  continuation_fails (long_blanks {source} {piece} {word} {rest = front} {behind = more} {words} n m stand next all l)
      f =
      let fits = s.within in
      long_gap n m source front words stand piece word more next all (omega (arith, l, fits))
  continuation_fails (many_words {source} {piece} {word} {rest = front} {behind = more} {words} n m stand next all l)
      f =
      let fits = s.within in
      many n m source front words stand piece word more next all (omega (arith, l, fits))

-- ---- the name

module _ (o : OptionsData) (h : Here) where
  name_there : {name rest : List ℕ} → (d : DirectiveName h name rest)
      → All is_yaml_non_space (step h).unread.text name rest
  name_there {name} {rest} d = subst (λ (l : List ℕ). All is_yaml_non_space l name rest)
      (sym (stepped_text h 0x25 d.text d.begins)) d.is

  abbrev with_place : Here → Option Budget → Result (Option Budget × Here) Fault
  with_place i l = Ok (l, i)

  abbrev within_by : List ℕ → Bool → Result (DirectiveKind × Here) Fault
  within_by name v = ((if v then fails_at (DirectiveByteLimitExceeded o.max_directive_bytes) (mark_of (step h)) else Ok
      (budget o (mark_of h) o.max_directive_bytes (o.max_directive_bytes - bytes_of name)))
      >>= with_place (over name (step h))) >>= behind_name o (mark_of h) (step h)

  pub wrong_refused : {kind : FaultKind} {m : Mark} (w : WrongDirective o h kind m) → FirstWrong w
      → directive_at o h ≡ Err (fault_at kind m)
  wrong_refused (nameless {rest} d) f =
      let a = name_there d in
      let n : nat_lt o.max_directive_bytes (bytes_of []) ≡ false = grind (arith, nat_tests) in
      name_run o h [] rest a ∙ ap (within_by []) n
      ∙ behind_is o h [] (budget o (mark_of h) o.max_directive_bytes (o.max_directive_bytes - bytes_of [])) rest a
  wrong_refused (wrong_name {name} {rest} d some fits n) f =
      let a = name_there d in
      let e : nat_lt o.max_directive_bytes (bytes_of name) ≡ false = grind (arith, nat_tests) in
      name_run o h name rest a ∙ ap (within_by name) e
      ∙ behind_is o h name (budget o (mark_of h) o.max_directive_bytes (o.max_directive_bytes - bytes_of name)) rest a
      ∙ cond-false (length name == 0) _ _ (some_is name some)
      ∙ cond-true (not (is_blank_or_breakz (next_char (over name (step h))))) _ _
      (ap (λ (l : List ℕ). not (is_blank_or_breakz (first l))) (over_text name rest (step h) a.whole) ∙ ap not n)
  wrong_refused (long_name {name} {rest} d l) f =
      let e : nat_lt o.max_directive_bytes (bytes_of name) ≡ true = grind (arith, nat_tests) in
      name_run o h name rest (name_there d) ∙ ap (within_by name) e
  wrong_refused (behind {name} {rest} s w) f = name_read o h name rest s ∙ continuation_fails o h name rest s w f

  -- ---- the whole

  cause_by : {kind : FaultKind} {m : Mark} (c : RefusesDirective o h kind m) → ComesFirst c
      → directive o h ≡ Err (fault_at kind m)
  unfolding directive
  cause_by (disallowed e) f = cond-true o.disallow_directives _ _ e
  cause_by (wrong n w) f = cond-false o.disallow_directives _ _ n
      ∙ ap (λ (r : Result (DirectiveKind × Here) Fault). r >>= λ x. directive_behind h x.0 x.1) (wrong_refused w f)
  cause_by (line {found} {end} n s w) f = cond-false o.disallow_directives _ _ n
      ∙ ap (λ (r : Result (DirectiveKind × Here) Fault). r >>= λ x. directive_behind h x.0 x.1)
      (directive_is o h found end s)
      ∙ line_end_wrong h found end w

-- what has a cause is refused with exactly that
pub directive_cause_refused : (o : OptionsData) (h : Here) (kind : FaultKind) (m : Mark) → DirectiveCause o h kind m
    → directive o h ≡ Err (fault_at kind m)
directive_cause_refused o h kind m p = cause_by o h p.cause p.first

same_fault : (f g : Fault) → ◌≡◌ {A = Result (DirectiveRead × Here) Fault} (Err f) (Err g)
    → (f.kind ≡ g.kind) × (f.mark ≡ g.mark)
same_fault f g e = let t : f ≡ g = cc in (ap (λ (f : Fault). f.kind) t, ap (λ (f : Fault). f.mark) t)

pub one_directive_cause : (o : OptionsData) (h : Here) (kind other : FaultKind) (m n : Mark)
    → DirectiveCause o h kind m → DirectiveCause o h other n → (kind ≡ other) × (m ≡ n)
one_directive_cause o h kind other m n p q = same_fault (fault_at kind m) (fault_at other n)
    (sym (directive_cause_refused o h kind m p) ∙ directive_cause_refused o h other n q)
