-- Where each comment of a text stands among the other events of its answer.
use Rattle.std.proofs.Common.{◌≡◌, ℕ, Bool, true, List, [], ◌∷◌, ◌++◌, map, Option, Some, None, Ok, Err, refl, sym, ap}
use Rattle.std.proofs.Common.{◌∙◌, subst, append_assoc}
use Rattle.granit_error.specs.OptionsData.{OptionsData}
use Rattle.granit_order.specs.Order.{item_of}
use Rattle.granit_agreement.proofs.OpenRuns.{Left, fed_left}
use Rattle.granit_agreement.proofs.Waitings.{place_empty}
use Rattle.granit_order.specs.Answers.{comment_event}
use Rattle.granit_comment_places.specs.CommentPlaces.{StandsBehind, directly, behind_empty, before_start, StandsAmong}
use Rattle.granit_comment_places.specs.CommentPlaces.{tail_event}
use Rattle.granit_order.specs.Answers.{but_comments}
use Rattle.granit_comment_places.proofs.CommentsStand.{comment_stands, tail_stands}
use Rattle.granit_order.proofs.BracketsKept.{none_waits_behind}
use Rattle.granit_language.specs.OpenTold.{ToldBefore}
use Rattle.granit_language.specs.Scope.{no_scope}
use Rattle.granit_language.specs.Scoping.{scoped}
use Rattle.granit_language.specs.Seen.{terminal_seen, lexemes_flagged}
use Rattle.granit_language.specs.Terminal.{Terminal}
use Rattle.granit_lexemes.specs.Comment.{CommentRead}
use Rattle.granit_lexemes.specs.Here.{start_of, mark_of}
use Rattle.granit_lexemes.specs.Lexeme as lexemes
use Rattle.granit_lexemes.specs.Lexeme.{Lexeme, Item, OfLexeme, OfComment}
use Rattle.granit_lexemes.specs.Outcome.{Fault}
use Rattle.granit_lexemes.specs.PlainEvent.{PlainEvent, StreamStart, event_on}
use Rattle.granit_machine.proofs.ClosingLemmas.{FeedGiven}
use Rattle.granit_machine.specs.Frames.{ParserState}
use Rattle.granit_machine.specs.Lexing.{FlaggedItem, flagged, lex}
use Rattle.granit_machine.specs.Machine.{feed_all, settled, run}
use Rattle.granit_machine.specs.Parser.{next_line, placed}
use Rattle.granit_machine.specs.Reader.{LexState}
use Rattle.granit_answers.specs.CommentStands as text
use Rattle.granit_answers.specs.CommentStands.{InFrontOf, CommentStands}
use Rattle.granit_answers.proofs.Answered.{asked_are, Shown}
use Rattle.granit_answers.proofs.Asked.{failed, Asked, asked_run, asked_to_end, asked_stopped}
use Rattle.granit_answers.proofs.Caused.{read_whole}
use Rattle.granit_answers.proofs.RowsTold.{Start, prefix_fair}

module _ (o : OptionsData) (x : List ℕ) where
  abbrev Begin : PlainEvent
  Begin = event_on StreamStart (mark_of (start_of x))

  -- ---- from the parser's state to the open place

  in_front : (xs : List Terminal) (K : Type 0) (given : List PlainEvent) (left : ParserState) (told : List PlainEvent) →
      Left o xs given left → StandsBehind K given left told → InFrontOf o xs K (Begin ∷ told)
  in_front xs K given left told l (directly e) =
      text.directly l.place
      (subst (λ given. ToldBefore o xs l.place (Begin ∷ given)) (sym e) l.before)
  in_front xs K given left told l (behind_empty w n e) =
      let (r, is, waits, at) = place_empty o l.place w (sym l.waits ∙ n) in
      text.behind_empty (Begin ∷ given) r w.at
      (subst (λ place. ToldBefore o xs place (Begin ∷ given)) is l.before) waits at
      (ap (λ es. Begin ∷ es) e)
  in_front xs K given left told l (before_start begun k m e) =
      text.before_start l.place begun k m
      (subst (λ given. ToldBefore o xs l.place (Begin ∷ given)) (sym e) l.before)

  module _ (items : List Item) (t : LexState) (e : lex o (start_of x) ≡ Ok (items, t)) where
    in_text : (upto others back : List FlaggedItem) (K : Type 0) (c : PlainEvent) (gs es : List PlainEvent) →
        flagged items ≡ upto ++ others → es ≡ Begin ∷ gs → StandsAmong o (Start o x) K upto back c gs →
        CommentStands o upto back K c es
    in_text upto others back K c gs es same is s =
        let fair = prefix_fair o x items t e upto others same in
        let fed : feed_all o (map item_of (lexemes_flagged upto)) (Start o x) ≡ Ok (s.given, s.left) =
        ap (λ (is : List FlaggedItem). feed_all o is (Start o x)) (sym (asked_are upto)) ∙ s.fed in
        let l = fed_left o (mark_of (start_of x)) (lexemes_flagged upto) s.given s.left fair fed in
        record {
          front = Begin ∷ s.front;
          rest = s.rest;
          is = is ∙ ap (λ gs. Begin ∷ gs) s.is;
          stands =
              in_front (scoped no_scope (map terminal_seen (lexemes_flagged upto))) K s.given s.left
              (but_comments s.front) l s.stands;
          behind = s.behind;
        }

    -- what was given to the end
    record Given (es : List PlainEvent) : Type 0 where
      events : List PlainEvent
      state : ParserState
      fed : feed_all o (flagged items) (Start o x) ≡ Ok (events, state)
      are : es ≡ Begin ∷ events
      none_waits : state.waiting ≡ None

    shown_by : (es : List PlainEvent) (r : FeedGiven) → Shown o x r ≡ Ok es →
        (gs : List PlainEvent) × (q : ParserState) × (r ≡ Ok (gs, q)) × (es ≡ Begin ∷ gs)
    shown_by es (Ok (gs, q)) h = let same : Begin ∷ gs ≡ es = cc in (gs, q, refl, sym same)
    shown_by es (Err f) h = absurd cc

    never_ok : (r : FeedGiven) (f : Fault) (es : List PlainEvent) → failed f r ≡ Ok es → ⊥
    never_ok (Ok y) f es h = cc
    never_ok (Err g) f es h = cc

    given_by : (es : List PlainEvent) → Asked o x ≡ Ok es → (fault : Option Fault) → t.fault ≡ fault → Given es
    given_by es r None n =
        let (gs, q, fed, are) = shown_by es (feed_all o (flagged items) (Start o x)) (sym (asked_to_end o x items t e n)
        ∙ r) in
        record {
          events = gs;
          state = q;
          fed = fed;
          are = are;
          none_waits =
              none_waits_behind o (mark_of (start_of x)) _ t.reader items gs q (read_whole o x items t None e n) fed;
        }
    given_by es r (Some f) n =
        absurd (never_ok (feed_all o (settled t.reader.laid (flagged items)) (Start o x)) f es
        (sym (asked_stopped o x items t e f n) ∙ r))

    given : (es : List PlainEvent) → o.emit_comments ≡ true → run o x ≡ Ok es → Given es
    given es asked r = given_by es (sym (asked_run o x asked) ∙ r) t.fault refl

    pub line_stands : (front back : List FlaggedItem) (c : CommentRead) (b : Bool) (es : List PlainEvent) →
        o.emit_comments ≡ true → run o x ≡ Ok es →
        flagged items ≡ front ++ (record { item = OfComment c; begins_key = b } ∷ back) →
        CommentStands o front back ⊥ (comment_event c (placed c (next_line back))) es
    line_stands front back c b es asked r same =
        let g = given es asked r in
        let s =
        comment_stands o (Start o x) front back c b g.events g.state refl refl
        (ap (λ (is : List FlaggedItem). feed_all o is (Start o x)) (sym same) ∙ g.fed) g.none_waits in
        in_text front (record { item = OfComment c; begins_key = b } ∷ back) back ⊥
        (comment_event c (placed c (next_line back))) g.events es same g.are s

    pub tail_in_text :
        (front back : List FlaggedItem) (l : Lexeme) (b : Bool) (c : CommentRead) (es : List PlainEvent) →
        o.emit_comments ≡ true → run o x ≡ Ok es → l.tail ≡ Some c →
        flagged items ≡ front ++ (record { item = OfLexeme l; begins_key = b } ∷ back) →
        CommentStands o (front ++ (record { item = OfLexeme l; begins_key = b } ∷ [])) back (l.kind ≡ lexemes.Dash)
        (tail_event l.kind c (next_line back)) es
    tail_in_text front back l b c es asked r tail same =
        let i : FlaggedItem = record { item = OfLexeme l; begins_key = b } in
        let g = given es asked r in
        let s =
        tail_stands o (Start o x) front back l b c g.events g.state refl refl tail
        (ap (λ (is : List FlaggedItem). feed_all o is (Start o x)) (sym same) ∙ g.fed) g.none_waits in
        in_text (front ++ (i ∷ [])) back back (l.kind ≡ lexemes.Dash) (tail_event l.kind c (next_line back)) g.events es
        (same ∙ sym (append_assoc front (i ∷ []) back)) g.are s
