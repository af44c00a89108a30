-- Scalars as lexemes are what the calls that read them give.
use Rattle.std.proofs.Common.{◌≡◌, Bool, true, false, Option, Some, None, Result, Ok, refl, sym, ap, subst, ◌∙◌}
use Rattle.std.specs.Option.{option_map}
use Rattle.granit_block.specs.BlockCode.{asked_note, block_lexed, block_lexed_at}
use Rattle.granit_cursor.specs.Reading.{coded}
use Rattle.granit_cursor.specs.Tokens.{token_placement, comment_token, is_right_placed}
use Rattle.granit_cursor.specs.declared.token.Lexed.{Lexed}
use Rattle.granit_error.specs.OptionsData.{OptionsData}
use Rattle.granit_error.specs.Refused.{Refused}
use Rattle.granit_plain.specs.PlainCode.{plain_lexed}
use Rattle.granit_quoted.specs.QuotedCode.{quoted_lexed}
use Rattle.granit_lexemes.specs.BlockScalar.{BlockGiven, block_scalar}
use Rattle.granit_lexemes.specs.Comment.{CommentRead}
use Rattle.granit_lexemes.specs.Here.{Here}
use Rattle.granit_lexemes.specs.Lexeme.{Scalar}
use Rattle.granit_lexemes.specs.LayoutData.{LayoutData}
use Rattle.granit_lexemes.specs.Outcome.{Fault, Fails, ◌>>=◌}
use Rattle.granit_lexemes.specs.PlainScalar.{PlainRead, plain_scalar}
use Rattle.granit_lexemes.specs.QuotedScalar.{QuotedRead, quoted_style, quoted_scalar}
use Rattle.granit_lexemes.specs.declared.layout.LastLexeme.TheVariants.{Adjacent, Another}
use Rattle.granit_machine.specs.Laid.{Laid, block_column}
use Rattle.granit_machine.specs.NodeLexemes as nodes
use Rattle.granit_machine.specs.PossibleKeys.{layout_of}
use Rattle.granit_machine.specs.ReaderState.{Read, lexeme_to, given}
use Rattle.granit_steps.specs.Steps.{incoming}
use Rattle.granit_content.specs.KindViews.{note_of_token}
use Rattle.granit_content.specs.Reads.{seen, comment_kept, note_if_asked}
use Rattle.granit_content.specs.ScalarReads.{layout_asking, lexed_as, block_as}
use Rattle.granit_content.proofs.CodedLemmas.{coded_at_back, coded_back, coded_fails, coded_twice, fails_then}
use Rattle.granit_content.proofs.HeardLemmas.{heard, plain_heard, quoted_heard}
use Rattle.granit_content.proofs.ItemLemmas.{read_untailed, read_seen}

right_is : (b : Bool) → is_right_placed (token_placement b) ≡ b
right_is true = refl
right_is false = refl

-- a comment's token says the comment
pub note_is : (c : CommentRead) → note_of_token (comment_token c) ≡ c
note_is c = ap (λ (b : Bool). record c { is_right = b }) (right_is c.is_right)

-- the comment that is kept, by its token
kept_token : (asked : Bool) (c : Option CommentRead)
    → comment_kept (seen asked c) ≡ option_map note_of_token (option_map comment_token (note_if_asked asked c))
kept_token true (Some c) = ap (λ (d : CommentRead). Some d) (sym (note_is c))
kept_token true None = refl
kept_token false (Some c) = refl
kept_token false None = refl

asked_token : (asked : Bool) (at : LayoutData) (c : Option CommentRead)
    → comment_kept (seen asked c) ≡ option_map note_of_token (asked_note (layout_asking asked at) c)
asked_token true at (Some c) = ap (λ (d : CommentRead). Some d) (sym (note_is c))
asked_token true at None = refl
asked_token false at (Some c) = refl
asked_token false at None = refl

module _ (asked ends : Bool) (h : Here) (l : Laid) (after : Here) where
  abbrev quoted_to : QuotedRead → Option CommentRead → Bool → Read
  quoted_to read tail single = given (record (lexeme_to ends (Scalar (quoted_style single) read.text) read.source.end h
      l) { tail = tail }) Adjacent after l

  quoted_kept : (single : Bool) (read : QuotedRead)
      → coded (incoming asked) (nodes.quoted_given single ends h l read after)
      ≡ given (lexed_as ends (quoted_lexed single (heard asked read)) h l) Adjacent after l
  quoted_kept single read =
      read_seen asked (lexeme_to ends (Scalar (quoted_style single) read.text) read.source.end h l) read.comment after _
      ∙ ap (λ (t : Option CommentRead). quoted_to read t single) (kept_token asked read.comment)

  abbrev block_to : BlockGiven → Option CommentRead → Bool → Read
  block_to b tail literal = given (record (nodes.block_shown literal ends b after h l) { tail = tail }) Another after
      (nodes.unrolled l)

  block_kept : (at : LayoutData) (literal : Bool) (b : BlockGiven)
      → coded (incoming asked) (nodes.block_given literal ends h l b after)
      ≡ given (block_as ends (block_lexed (layout_asking asked at) literal b after) h l) Another
      after (nodes.unrolled l)
  block_kept at literal b =
      read_seen asked (nodes.block_shown literal ends b after h l) b.noted after _
      ∙ ap (λ (t : Option CommentRead). block_to b t literal) (asked_token asked at b.noted)

module _ (o : OptionsData) (asked ends : Bool) (h : Here) (l : Laid) where
  abbrev here_layout : LayoutData
  here_layout = layout_of o h.place.column l

  module _ (lexed : Lexed) (after : Here) where
    pub plain_items : coded plain_lexed (plain_scalar (layout_asking asked here_layout) h) ≡ Ok (lexed, after)
        → coded (incoming asked) (nodes.plain_lexeme o ends h l)
        ≡ given (lexed_as ends lexed h l) Another after (record l { rolled = false; cut = lexed.cut_by_comment })
    plain_items is =
        let y = coded_back plain_lexed (plain_scalar here_layout h) lexed after
        (ap (coded plain_lexed) (sym (plain_heard asked here_layout h)) ∙ is) in
        ap (λ (r : Result (PlainRead × Here) Fault). coded (incoming asked)
        (r >>= λ x. nodes.plain_given ends h l x.0 x.1)) y.1
        ∙ read_untailed asked (lexed_as ends (plain_lexed y.0) h l) after _ refl
        ∙ ap (λ (t : Lexed). given (lexed_as ends t h l) Another after
        (record l { rolled = false; cut = t.cut_by_comment })) y.2

    pub quoted_items : (single : Bool) → coded (quoted_lexed single)
        (quoted_scalar single (layout_asking asked here_layout) h)
        ≡ Ok (lexed, after)
        → coded (incoming asked) (nodes.quoted_lexeme o single ends h l)
        ≡ given (lexed_as ends lexed h l) Adjacent after l
    quoted_items single is =
        let both = coded_twice (quoted_lexed single) (heard asked) (quoted_scalar single here_layout h) in
        let y = coded_back (λ (r : QuotedRead). quoted_lexed single (heard asked r))
        (quoted_scalar single here_layout h) lexed after
        (sym both ∙ ap (coded (quoted_lexed single)) (sym (quoted_heard single asked here_layout h)) ∙ is) in
        ap (λ (r : Result (QuotedRead × Here) Fault). coded (incoming asked)
        (r >>= λ z. nodes.quoted_given single ends h l z.0 z.1)) y.1
        ∙ quoted_kept asked ends h l after single y.0
        ∙ ap (λ (t : Lexed). given (lexed_as ends t h l) Adjacent after l) y.2

    pub block_items : (literal : Bool) → block_lexed_at (layout_asking asked here_layout) literal h ≡ Ok (lexed, after)
        → coded (incoming asked) (nodes.block_lexeme literal ends h l)
        ≡ given (block_as ends lexed h l) Another after (nodes.unrolled l)
    block_items literal is =
        let y = coded_at_back (block_lexed (layout_asking asked here_layout) literal)
        (block_scalar literal (block_column l) h)
        lexed after is in
        ap (λ (r : Result (BlockGiven × Here) Fault). coded (incoming asked)
        (r >>= λ z. nodes.block_given literal ends h l z.0 z.1)) y.1
        ∙ block_kept asked ends h l after here_layout literal y.0
        ∙ ap (λ (t : Lexed). given (block_as ends t h l) Another after (nodes.unrolled l)) y.2

  module _ (e : Refused) where
    pub plain_fails : Fails e (coded plain_lexed (plain_scalar (layout_asking asked here_layout) h))
        → Fails e (coded (incoming asked) (nodes.plain_lexeme o ends h l))
    plain_fails fails =
        let read = coded_fails plain_lexed (plain_scalar (layout_asking asked here_layout) h) e fails in
        let there = subst (λ (r : Result (PlainRead × Here) Fault). Fails e r) (plain_heard asked here_layout h) read in
        fails_then (nodes.plain_lexeme o ends h l) _ e (fails_then (plain_scalar here_layout h) _ e there)

    pub quoted_fails : (single : Bool) → Fails e
        (coded (quoted_lexed single) (quoted_scalar single (layout_asking asked here_layout) h))
        → Fails e (coded (incoming asked) (nodes.quoted_lexeme o single ends h l))
    quoted_fails single fails =
        let read = coded_fails (quoted_lexed single)
        (quoted_scalar single (layout_asking asked here_layout) h) e fails in
        let there = coded_fails (heard asked) (quoted_scalar single here_layout h) e
        (subst (λ (r : Result (QuotedRead × Here) Fault). Fails e r) (quoted_heard single asked here_layout h)
        read) in
        fails_then (nodes.quoted_lexeme o single ends h l) _ e
        (fails_then (quoted_scalar single here_layout h) _ e there)
