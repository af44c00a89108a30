-- A directive by its parts, with its line's end.
use Rattle.std.proofs.Common.{◌≡◌, ℕ, ◌==◌, Bool, true, false, not, List, length, Option, Some, Result, Ok, Err, refl}
use Rattle.std.proofs.Common.{sym, ap, ◌∙◌}
use Rattle.std.specs.Prelude.{codes}
use Rattle.std.specs.Str.{chars}
use Rattle.std.proofs.lemmas.Bool.{cond-true, cond-false}
use Rattle.granit_base.specs.Classes.{is_blank_or_breakz, is_breakz}
use Rattle.granit_cursor.proofs.GivenLemmas.{same_ok}
use Rattle.granit_cursor.specs.Reading.{coded}
use Rattle.granit_cursor.specs.declared.token.Lexed.{Lexed}
use Rattle.granit_directives.specs.DirectiveCode.{directive_lexed}
use Rattle.granit_directives.specs.WordCode.{past_spelled}
use Rattle.granit_error.specs.FaultKind.{MissingDirectiveName, InvalidDirectiveName, InvalidDirectiveTerminator}
use Rattle.granit_error.specs.OptionsData.{OptionsData}
use Rattle.granit_error.specs.Refused.{Refused}
use Rattle.granit_lexemes.specs.Basics.{fails_at, text_up_to}
use Rattle.granit_lexemes.specs.Comment.{CommentRead}
use Rattle.granit_lexemes.specs.Directive.{DirectiveRead, word_up_to, behind_name, directive_of, directive_at}
use Rattle.granit_lexemes.specs.Directive.{directive_tail, directive_up_to, directive_behind, directive}
use Rattle.granit_lexemes.specs.Here.{Here, next_char, mark_of, step}
use Rattle.granit_lexemes.specs.Lexeme.{DirectiveKind}
use Rattle.granit_lexemes.specs.Outcome.{Fault, Fails, ◌>>=◌}
use Rattle.granit_lexemes.specs.Tags.{Budget}
use Rattle.granit_properties.proofs.NameLemmas.{counted}
use Rattle.granit_properties.specs.UriCode.{budget_of}

-- ---- what a value in the code's form comes from

pub coded_given : {X Y : Type 0} (code : Y → X) (r : Result (Y × Here) Fault) (x : X) (a : Here)
    → coded code r ≡ Ok (x, a) → (y : Y) × (r ≡ Ok (y, a)) × (x ≡ code y)
coded_given {X = X} code (Ok z) x a e =
    let same = same_ok (code z.0, z.1) (x, a) e in
    (z.0, ap (λ (i : Here). Ok (z.0, i)) (ap (λ (p : X × Here). p.1) same), sym (ap (λ (p : X × Here). p.0) same))
coded_given code (Err f) x a e = absurd cc

coded_err : {X Y : Type 0} (code : Y → X) (r : Result (Y × Here) Fault) (e : Refused) → coded code r ≡ Err e → r ≡ Err e
coded_err code (Ok z) e is = absurd cc
coded_err code (Err f) e is = let same : f ≡ e = cc in ap (λ (g : Fault). Err g) same

pub coded_fails : {X Y : Type 0} (code : Y → X) (r : Result (Y × Here) Fault) (e : Refused) → Fails e (coded code r)
    → Fails e r
coded_fails code r e fails other = coded_err code r e (fails other)

-- ---- the name

pub yaml_spelled : chars (codes "YAML") ≡ codes "YAML"
unfolding chars
yaml_spelled = refl

pub tag_spelled : chars (codes "TAG") ≡ codes "TAG"
unfolding chars
tag_spelled = refl

module _ (o : OptionsData) (h : Here) where
  abbrev whole_budget : Option Budget
  whole_budget = budget_of (Some o.max_directive_bytes) o.max_directive_bytes

  abbrev place : Here
  place = past_spelled (step h)

  abbrev name_read : Result (Option Budget × Here) Fault
  name_read = word_up_to whole_budget (mark_of (step h)) (step h) place

  pub name_passes : (e : Refused) → Fails e name_read → Fails e (directive_at o h)
  unfolding directive_at
  name_passes e fails other = ap (λ (r : Result (Option Budget × Here) Fault). r >>= behind_name o (mark_of h) (step h))
      (fails other)

  behind : (left : Option Budget) → name_read ≡ Ok (left, place)
      → directive_at o h ≡ behind_name o (mark_of h) (step h) (left, place)
  unfolding directive_at
  behind left is = ap (λ (r : Result (Option Budget × Here) Fault). r >>= behind_name o (mark_of h) (step h)) is

  pub no_name : (left : Option Budget) (name : List ℕ) → name_read ≡ Ok (left, place) → name ≡ text_up_to (step h) place
      → (length name == 0) ≡ true → directive_at o h ≡ fails_at MissingDirectiveName (mark_of (step h))
  no_name left name is text none = behind left is ∙ cond-true _ _ _ (counted (step h) place name true text none)

  pub wrong_name : (left : Option Budget) (name : List ℕ) → name_read ≡ Ok (left, place)
      → name ≡ text_up_to (step h) place → (length name == 0) ≡ false → is_blank_or_breakz (next_char place) ≡ false
      → directive_at o h ≡ fails_at InvalidDirectiveName (mark_of (step h))
  wrong_name left name is text some parted = behind left is
      ∙ cond-false _ _ _ (counted (step h) place name false text some) ∙ cond-true _ _ _ (ap not parted)

  pub right_name : (left : Option Budget) (name : List ℕ) → name_read ≡ Ok (left, place)
      → name ≡ text_up_to (step h) place → (length name == 0) ≡ false → is_blank_or_breakz (next_char place) ≡ true
      → directive_at o h ≡ directive_of o left (mark_of h) name place
  right_name left name is text some parted =
      behind left is ∙ cond-false _ _ _ (counted (step h) place name false text some) ∙ cond-false _ _ _ (ap not parted)
      ∙ ap (λ (n : List ℕ). directive_of o left (mark_of h) n place) (sym text)

-- ---- the whole

module _ (o : OptionsData) (comments : Bool) (h : Here) where
  abbrev given : Result (DirectiveRead × Here) Fault → Result (Lexed × Here) Fault
  given r = coded (directive_lexed comments) r

  allowed : o.disallow_directives ≡ false → directive o h ≡ (directive_at o h >>= λ x. directive_behind h x.0 x.1)
  unfolding directive
  allowed e = cond-false o.disallow_directives _ _ e

  pub directive_fails : (e : Refused) → o.disallow_directives ≡ false → Fails e (directive_at o h)
      → Fails e (given (directive o h))
  directive_fails e p fails other = ap given (allowed p
      ∙ ap (λ (r : Result (DirectiveKind × Here) Fault). r >>= λ x. directive_behind h x.0 x.1) (fails other))

  behind_directive : (kind : DirectiveKind) (end : Here) → o.disallow_directives ≡ false
      → directive_at o h ≡ Ok (kind, end) → directive o h ≡ directive_behind h kind end
  behind_directive kind end p is = allowed p
      ∙ ap (λ (r : Result (DirectiveKind × Here) Fault). r >>= λ x. directive_behind h x.0 x.1) is

  pub tail_fails : (e : Refused) (kind : DirectiveKind) (end : Here) → o.disallow_directives ≡ false
      → directive_at o h ≡ Ok (kind, end) → Fails e (directive_tail kind end) → Fails e (given (directive o h))
  tail_fails e kind end p is fails other =
      ap given (behind_directive kind end p is
      ∙ ap (λ (r : Result (Option CommentRead × Here) Fault). r >>= λ x. directive_up_to h kind end x.0 x.1)
      (fails other))

  line_is : (kind : DirectiveKind) (end after : Here) (noted : Option CommentRead) → o.disallow_directives ≡ false
      → directive_at o h ≡ Ok (kind, end) → directive_tail kind end ≡ Ok (noted, after)
      → directive o h ≡ directive_up_to h kind end noted after
  line_is kind end after noted p is tail =
      behind_directive kind end p is ∙ ap (λ (r : Result (Option CommentRead × Here) Fault). r >>= λ x. directive_up_to
      h kind end x.0 x.1) tail

  pub line_goes_on : (kind : DirectiveKind) (end after : Here) (noted : Option CommentRead)
      → o.disallow_directives ≡ false → directive_at o h ≡ Ok (kind, end) → directive_tail kind end ≡ Ok (noted, after)
      → is_breakz (next_char after) ≡ false → given (directive o h) ≡ fails_at InvalidDirectiveTerminator (mark_of h)
  unfolding directive_up_to
  line_goes_on kind end after noted p is tail e =
      ap given (line_is kind end after noted p is tail ∙ cond-false (is_breakz (next_char after)) _ _ e)
