-- A directive as a lexeme is what the call that reads it gives.
use Rattle.std.proofs.Common.{◌≡◌, ℕ, Bool, true, false, List, [], ◌∷◌, map, Option, Some, None, Result, Ok, refl, sym}
use Rattle.std.proofs.Common.{ap, ap₂, ◌∙◌}
use Rattle.std.specs.Option.{option_map}
use Rattle.granit_cursor.specs.Reading.{coded}
use Rattle.granit_cursor.specs.declared.token.Lexed.{Lexed}
use Rattle.granit_directives.specs.DirectiveCode.{kind_type, noted_if, directive_lexed}
use Rattle.granit_error.specs.OptionsData.{OptionsData}
use Rattle.granit_error.specs.Refused.{Refused}
use Rattle.granit_lexemes.specs.Basics.{owned}
use Rattle.granit_lexemes.specs.Comment.{CommentRead}
use Rattle.granit_lexemes.specs.Directive.{DirectiveRead, directive}
use Rattle.granit_lexemes.specs.Here.{Here}
use Rattle.granit_lexemes.specs.Lexeme.{DirectiveKind, Version, TagPrefix, Reserved, LexemeKind, Directive}
use Rattle.granit_lexemes.specs.Outcome.{Fault, Fails, ◌>>=◌}
use Rattle.granit_machine.specs.Gaps.{over_break_if}
use Rattle.granit_machine.specs.Laid.{Laid}
use Rattle.granit_machine.specs.ReaderState.{Read, lexeme_to, with_tail, read_to}
use Rattle.granit_machine.specs.StreamLexemes.{behind_directive, directive_given, directive_lexeme}
use Rattle.granit_steps.specs.Steps.{incoming}
use Rattle.granit_items.specs.ItemViews.{written_characters}
use Rattle.granit_content.specs.KindViews.{kind_of_type, note_of_token}
use Rattle.granit_content.specs.Reads.{seen, comment_kept}
use Rattle.granit_content.specs.ScalarReads.{lexed_as}
use Rattle.granit_content.proofs.CodedLemmas.{coded_back, coded_fails, fails_then}
use Rattle.granit_content.proofs.ItemLemmas.{read_seen}
use Rattle.granit_content.proofs.ScalarLemmas.{note_is}

texts_back : (texts : List (List ℕ)) → map written_characters (map owned texts) ≡ texts
texts_back [] = refl
texts_back (t ∷ ts) = ap (λ (us : List (List ℕ)). t ∷ us) (texts_back ts)

-- the kind of a directive, by its token
kind_back : (kind : DirectiveKind) → kind_of_type (kind_type kind) ≡ Directive kind
kind_back (Version major minor) = refl
kind_back (TagPrefix handle prefix) = refl
kind_back (Reserved name parameters) = ap (λ (ps : List (List ℕ)). Directive (Reserved name ps)) (texts_back parameters)

-- the comment that is kept, by its token
kept_token : (asked : Bool) (c : Option CommentRead)
    → comment_kept (seen asked c) ≡ option_map note_of_token (noted_if asked c)
kept_token true (Some c) = ap (λ (d : CommentRead). Some d) (sym (note_is c))
kept_token true None = refl
kept_token false (Some c) = refl
kept_token false None = refl

module _ (o : OptionsData) (asked ends : Bool) (h : Here) (l : Laid) where
  abbrev directive_to : LexemeKind → DirectiveRead → Option CommentRead → Here → Read
  directive_to kind read tail after = read_to (with_tail (lexeme_to ends kind read.source.end h l) tail)
      (over_break_if after) (behind_directive l)

  kept : (read : DirectiveRead) (after : Here)
      → coded (incoming asked) (directive_given ends h l read after)
      ≡ read_to (lexed_as ends (directive_lexed asked read) h l) (over_break_if after) (behind_directive l)
  kept read after =
      read_seen asked (lexeme_to ends (Directive read.kind) read.source.end h l) read.noted (over_break_if after)
      (behind_directive l)
      ∙ ap₂ (λ (k : LexemeKind) (t : Option CommentRead). directive_to k read t after) (sym (kind_back read.kind))
      (kept_token asked read.noted)

  pub directive_items : (lexed : Lexed) (after : Here)
      → coded (directive_lexed asked) (directive o h) ≡ Ok (lexed, after)
      → coded (incoming asked) (directive_lexeme o ends h l)
      ≡ read_to (lexed_as ends lexed h l) (over_break_if after) (behind_directive l)
  directive_items lexed after is =
      let y = coded_back (directive_lexed asked) (directive o h) lexed after is in
      ap (λ (r : Result (DirectiveRead × Here) Fault). coded (incoming asked)
      (r >>= λ x. directive_given ends h l x.0 x.1)) y.1
      ∙ kept y.0 after
      ∙ ap (λ (t : Lexed). read_to (lexed_as ends t h l) (over_break_if after) (behind_directive l)) y.2

  pub directive_fails : (e : Refused) → Fails e (coded (directive_lexed asked) (directive o h))
      → Fails e (coded (incoming asked) (directive_lexeme o ends h l))
  directive_fails e fails = fails_then (directive_lexeme o ends h l) _ e
      (fails_then (directive o h) _ e (coded_fails (directive_lexed asked) (directive o h) e fails))
