-- An answer tells the comments of its text.
use Rattle.std.proofs.Common.{Bool, List, None, Ok, Option, Some, [], ap, cond, false, not, refl, subst, sym, true, ℕ}
use Rattle.std.proofs.Common.{◌++◌, ◌∙◌, ◌∷◌, ◌≡◌}
use Rattle.granit_answers.proofs.Caused.{read_whole}
use Rattle.granit_answers.proofs.CommentsInText.{line_stands, tail_in_text}
use Rattle.granit_answers.proofs.OneCause.{answer_reads, unasked_silent}
use Rattle.granit_answers.specs.CommentStands.{CommentStands}
use Rattle.granit_base.specs.declared.style.Placement.{Placement}
use Rattle.granit_base.specs.declared.style.Placement.TheVariants.{Right}
use Rattle.granit_before.specs.ToldComments.{TailPlaced}
use Rattle.granit_comments.specs.TextComments.{LinesStand, TailsStand, TellsComments, TellsEach}
use Rattle.granit_comments.specs.TextComments.{behind_lexeme, between_lexemes, no_comment, no_more}
use Rattle.granit_error.specs.OptionsData.{OptionsData}
use Rattle.granit_before.proofs.Numbered.{one_placement, placed_is}
use Rattle.granit_quiet.specs.CommentEvents.{comment_event, comment_events, item_events, only_comments}
use Rattle.granit_quiet.specs.CommentEvents.{tail_events}
use Rattle.granit_before.specs.ToldComments.{tail_event}
use Rattle.granit_quiet.specs.Quiet.{but_comments}
use Rattle.granit_lexemes.specs.Comment.{CommentRead}
use Rattle.granit_lexemes.specs.Here.{start_of}
use Rattle.granit_lexemes.specs.Lexeme.{Dash, Item, Lexeme, LexemeKind, OfComment, OfLexeme}
use Rattle.granit_lexemes.specs.PlainEvent.{PlainEvent, is_note}
use Rattle.granit_machine.specs.Lexing.{FlaggedItem, flagged, lex}
use Rattle.granit_machine.specs.Machine.{run}
use Rattle.granit_machine.specs.Parser.{next_line, placed}
use Rattle.granit_machine.specs.Reader.{LexState}

-- ---- which comments are told

tells_kind : (l : Lexeme) (b : Bool) (c : CommentRead) (is : List FlaggedItem) (es : List PlainEvent)
    (kind : LexemeKind) → l.kind ≡ kind → l.tail ≡ Some c → TellsEach is es
    → TellsEach (record { item = OfLexeme l; begins_key = b } ∷ is) (tail_events kind (Some c) (next_line is) ++ es)
tells_kind l b c is es Dash k e t =
    behind_lexeme l b c Right e (subst (λ k. TailPlaced k c is Right) (sym k) refl) t
tells_kind l b c is es kind k e t =
    behind_lexeme l b c (placed c (next_line is)) e
    (subst (λ k. TailPlaced k c is (placed c (next_line is))) (sym k) (placed_is c is)) t

tells_tail : (l : Lexeme) (b : Bool) (is : List FlaggedItem) (es : List PlainEvent) (tail : Option CommentRead)
    → l.tail ≡ tail → TellsEach is es
    → TellsEach (record { item = OfLexeme l; begins_key = b } ∷ is) (tail_events l.kind tail (next_line is) ++ es)
tells_tail l b is es None e t = no_comment l b e t
tells_tail l b is es (Some c) e t = tells_kind l b c is es l.kind refl e t

tells_item : (x : Item) (b : Bool) (is : List FlaggedItem) (es : List PlainEvent) → TellsEach is es
    → TellsEach (record { item = x; begins_key = b } ∷ is) (item_events x (next_line is) ++ es)
tells_item (OfComment c) b is es t = between_lexemes c b (placed c (next_line is)) (placed_is c is) t
tells_item (OfLexeme l) b is es t = tells_tail l b is es l.tail refl t

tells_each : (is : List FlaggedItem) → TellsEach is (comment_events is)
tells_each [] = no_more
tells_each (i ∷ is) = tells_item i.item i.begins_key is (comment_events is) (tells_each is)

-- ---- without comments none is told

none_among : (es : List PlainEvent) → only_comments (but_comments es) ≡ []
none_among [] = refl
none_among (e ∷ es) = by (is_note e.kind) refl (none_among es)
  where
    by : (v : Bool) → is_note e.kind ≡ v → only_comments (but_comments es) ≡ []
        → only_comments (cond (not v) (e ∷ but_comments es) (but_comments es)) ≡ []
    by true q n = n
    by false q n = ap (λ v. cond v (e ∷ only_comments (but_comments es)) (only_comments (but_comments es))) q ∙ n

-- ---- where each stands

tail_event_is : (kind : LexemeKind) (c : CommentRead) (back : List FlaggedItem) (placement : Placement)
    → TailPlaced kind c back placement → comment_event c placement ≡ tail_event kind c (next_line back)
tail_event_is Dash c back placement p = ap (comment_event c) p
tail_event_is kind c back placement p =
    ap (comment_event c) (one_placement c back placement (placed c (next_line back)) p (placed_is c back))

module _ (o : OptionsData) (x : List ℕ) (es : List PlainEvent) (r : run o x ≡ Ok es) (items : List Item)
    (t : LexState) (e : lex o (start_of x) ≡ Ok (items, t)) where
  lines_stand : o.emit_comments ≡ true → LinesStand o (flagged items) es
  lines_stand on front back c b placement same p =
      subst (λ p. CommentStands o front back ⊥ (comment_event c p) es)
      (one_placement c back (placed c (next_line back)) placement (placed_is c back) p)
      (line_stands o x items t e front back c b es on r same)

  tails_stand : o.emit_comments ≡ true → TailsStand o (flagged items) es
  tails_stand on front back l b c placement same tail p =
      subst (λ v. CommentStands o (front ++ (record { item = OfLexeme l; begins_key = b } ∷ [])) back (l.kind ≡ Dash) v
      es) (sym (tail_event_is l.kind c back placement p))
      (tail_in_text o x items t e front back l b c es on r tail same)

pub comments_told : (o : OptionsData) (x : List ℕ) (es : List PlainEvent) → run o x ≡ Ok es → TellsComments o x es
comments_told o x es r =
    let y = answer_reads o x es r in record {
      items = y.items;
      state = y.state.reader;
      whole = read_whole o x y.items y.state None y.are_read y.to_end;
      told = λ on. subst (TellsEach (flagged y.items)) (sym (y.comments on)) (tells_each (flagged y.items));
      lines = lines_stand o x es r y.items y.state y.are_read;
      tails = tails_stand o x es r y.items y.state y.are_read;
      none = y.none;
      unasked = λ off. ap only_comments (sym (unasked_silent o x es off r)) ∙ none_among es;
    }
