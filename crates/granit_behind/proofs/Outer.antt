-- Where no document is open, the end of the last event is of no matter.
use Rattle.std.proofs.Common.{ℕ, Bool, true, false, ◌==◌, if◌then◌else◌, List, [], ◌∷◌, ◌++◌, Option, Some, None}
use Rattle.std.proofs.Common.{Result, Ok, Err}
use Rattle.granit_base.specs.Place.{Mark}
use Rattle.granit_error.specs.OptionsData.{OptionsData}
use Rattle.granit_lexemes.specs.Comment.{CommentRead}
use Rattle.granit_lexemes.specs.Lexeme.{DirectiveKind, Version, TagPrefix, Reserved, LexemeKind, Item, OfLexeme}
use Rattle.granit_lexemes.specs.Lexeme.{OfComment}
use Rattle.granit_lexemes.specs.Lexeme as lexemes
use Rattle.granit_lexemes.specs.Outcome.{Fault, ◌>>=◌}
use Rattle.granit_lexemes.specs.Pieces.{turns, pieces}
use Rattle.granit_lexemes.specs.PlainEvent.{PlainEvent, PlainVersion, event_at}
use Rattle.granit_lexemes.specs.PlainEvent as events
use Rattle.granit_machine.specs.Closing.{close_turn}
use Rattle.granit_machine.specs.Entries.{lookup_text}
use Rattle.granit_machine.specs.Frames.{Fresh, Directives, ParserState}
use Rattle.granit_machine.specs.Lexing.{FlaggedItem}
use Rattle.granit_machine.specs.NodeSteps.{Stepped}
use Rattle.granit_machine.specs.Parser.{placed, take_token, take_comment, take_tail, take_lexeme, take_item, feed}
use Rattle.granit_machine.specs.StreamSteps.{with_version, with_handle, with_directive, behind_directives}
use Rattle.granit_machine.specs.StreamSteps.{without_directives}
use Rattle.granit_machine.specs.StreamSteps.{when_fresh, declared}
use Rattle.granit_machine.specs.TokenSort.{Token, token_of}

-- ---- states that differ there

abbrev pub fresh_at : Mark → ParserState → ParserState
fresh_at m p = record p { frames = []; stage = Fresh; last_end = m; waiting = None }

abbrev pub directed_at : Option PlainVersion → Mark → ParserState → ParserState
directed_at version m p = record p { frames = []; stage = Directives version; last_end = m; waiting = None }

pub data AlikeState : ParserState → ParserState → Type 0 where
  same_state : (p : ParserState) → AlikeState p p
  both_fresh : (m n : Mark) (p : ParserState) → AlikeState (fresh_at m p) (fresh_at n p)
  both_directed : (version : Option PlainVersion) (m n : Mark) (p : ParserState)
      → AlikeState (directed_at version m p) (directed_at version n p)

pub data AlikeStep : Stepped → Stepped → Type 0 where
  steps_on : {p q : ParserState} → AlikeState p q → AlikeStep (Ok p) (Ok q)
  steps_not : (f : Fault) → AlikeStep (Err f) (Err f)

same_step : (r : Stepped) → AlikeStep r r
same_step (Ok p) = steps_on (same_state p)
same_step (Err f) = steps_not f

step_if : (b : Bool) (x y v w : Stepped) → AlikeStep x v → AlikeStep y w
    → AlikeStep (if b then x else y) (if b then v else w)
step_if true x y v w p q = p
step_if false x y v w p q = q

step_then : (r s : Stepped) (f g : ParserState → Stepped) → AlikeStep r s
    → ((p q : ParserState) → AlikeState p q → AlikeStep (f p) (g q)) → AlikeStep (r >>= f) (s >>= g)
step_then r s f g (steps_on {p = p} {q = q} x) h = h p q x
step_then r s f g (steps_not e) h = steps_not e

-- ---- comments

comment_alike : (c : CommentRead) (next : Option ℕ) (p q : ParserState) → AlikeState p q
    → AlikeStep (take_comment c next p) (take_comment c next q)
comment_alike c next x y (same_state p) = same_step (take_comment c next p)
comment_alike c next x y (both_fresh m n p) =
    let e = event_at (events.Comment c.text (placed c next)) c.source in
    steps_on (both_fresh m n (record p { given = p.given ++ e ∷ [] }))
comment_alike c next x y (both_directed version m n p) =
    let e = event_at (events.Comment c.text (placed c next)) c.source in
    steps_on (both_directed version m n (record p { given = p.given ++ e ∷ [] }))

tail_alike : (kind : LexemeKind) (tail : Option CommentRead) (next : Option ℕ) (p q : ParserState) → AlikeState p q
    → AlikeStep (take_tail kind tail next p) (take_tail kind tail next q)
tail_alike lexemes.Dash tail next p q x = steps_on x
tail_alike kind None next p q x = steps_on x
tail_alike kind (Some c) next p q x = comment_alike c next p q x

-- ---- lexemes

module _ (o : OptionsData) (t : Token) where
  version_alike : (known : Option PlainVersion) (major minor : ℕ) (p q : ParserState)
      → ((version : Option PlainVersion) → AlikeState (record p { stage = Directives version })
      (record q { stage = Directives version }))
      → AlikeStep (with_version t known major minor p) (with_version t known major minor q)
  version_alike (Some v) major minor p q h = steps_not _
  version_alike None major minor p q h = step_if (major == 1) _ _ _ _
      (steps_on (h (Some (record { major = major; minor = minor })))) (steps_not _)

  handle_alike : (version : Option PlainVersion) (handle prefix : List ℕ) (known : Option (List ℕ)) (p q : ParserState)
      → AlikeState (record (declared o.keep_tags handle prefix p) { stage = Directives version })
      (record (declared o.keep_tags handle prefix q) { stage = Directives version })
      → AlikeStep (with_handle o t version handle prefix known p) (with_handle o t version handle prefix known q)
  handle_alike version handle prefix (Some known) p q h = steps_not _
  handle_alike version handle prefix None p q h = steps_on h

  fresh_directive : (d : DirectiveKind) (version : Option PlainVersion) (m n : Mark) (p : ParserState)
      → AlikeStep (with_directive o t d version (fresh_at m p)) (with_directive o t d version (fresh_at n p))
  fresh_directive (Version major minor) version m n p =
      version_alike version major minor (fresh_at m p) (fresh_at n p) (λ v. both_directed v m n p)
  fresh_directive (TagPrefix handle prefix) version m n p =
      handle_alike version handle prefix (lookup_text handle p.handles) (fresh_at m p) (fresh_at n p)
      (both_directed version m n (declared o.keep_tags handle prefix p))
  fresh_directive (Reserved name parameters) version m n p = steps_on (both_directed version m n p)

  more_directive : (d : DirectiveKind) (version : Option PlainVersion) (m n : Mark) (p : ParserState)
      → AlikeStep (with_directive o t d version (directed_at version m p))
      (with_directive o t d version (directed_at version n p))
  more_directive (Version major minor) version m n p =
      version_alike version major minor (directed_at version m p) (directed_at version n p)
      (λ v. both_directed v m n p)
  more_directive (TagPrefix handle prefix) version m n p =
      handle_alike version handle prefix (lookup_text handle p.handles) (directed_at version m p)
      (directed_at version n p) (both_directed version m n (declared o.keep_tags handle prefix p))
  more_directive (Reserved name parameters) version m n p = steps_on (both_directed version m n p)

  fresh_alike : (kind : LexemeKind) (m n : Mark) (p : ParserState)
      → AlikeStep (when_fresh o kind t (fresh_at m p)) (when_fresh o kind t (fresh_at n p))
  fresh_alike lexemes.DocumentEnd m n p = steps_on (both_fresh m n p)
  fresh_alike (lexemes.Directive d) m n p = fresh_directive d None m n (without_directives p)
  fresh_alike kind m n p = same_step (when_fresh o kind t (fresh_at m p))

  directed_alike : (kind : LexemeKind) (version : Option PlainVersion) (m n : Mark) (p : ParserState)
      → AlikeStep (behind_directives o kind t version (directed_at version m p))
      (behind_directives o kind t version (directed_at version n p))
  directed_alike (lexemes.Directive d) version m n p = more_directive d version m n p
  directed_alike kind version m n p = same_step (behind_directives o kind t version (directed_at version m p))

  lexeme_alike : (next : Option ℕ) (p q : ParserState) → AlikeState p q
      → AlikeStep (take_lexeme o t next p) (take_lexeme o t next q)
  unfolding pieces turns close_turn
  lexeme_alike next x y (same_state p) = same_step (take_lexeme o t next p)
  lexeme_alike next x y (both_fresh m n p) =
      step_then (take_token o t (fresh_at m p)) (take_token o t (fresh_at n p)) _ _
      (fresh_alike t.lexeme.kind m n p) (tail_alike t.lexeme.kind t.lexeme.tail next)
  lexeme_alike next x y (both_directed version m n p) =
      step_then (take_token o t (directed_at version m p)) (take_token o t (directed_at version n p)) _ _
      (directed_alike t.lexeme.kind version m n p) (tail_alike t.lexeme.kind t.lexeme.tail next)

-- ---- items

pub data AlikeFed : Result (List PlainEvent × ParserState) Fault → Result (List PlainEvent × ParserState) Fault
    → Type 0 where
  feeds_on : (es : List PlainEvent) {p q : ParserState} → AlikeState p q → AlikeFed (Ok (es, p)) (Ok (es, q))
  feeds_not : (f : Fault) → AlikeFed (Err f) (Err f)

fed_by : (p q : ParserState) → AlikeState p q
    → AlikeFed (Ok (p.given, record p { given = [] })) (Ok (q.given, record q { given = [] }))
fed_by x y (same_state p) = feeds_on p.given (same_state (record p { given = [] }))
fed_by x y (both_fresh m n p) = feeds_on p.given (both_fresh m n (record p { given = [] }))
fed_by x y (both_directed version m n p) = feeds_on p.given (both_directed version m n (record p { given = [] }))

fed_alike : (r s : Stepped) → AlikeStep r s
    → AlikeFed (r >>= λ q. Ok (q.given, record q { given = [] })) (s >>= λ q. Ok (q.given, record q { given = [] }))
fed_alike r s (steps_on {p = p} {q = q} x) = fed_by p q x
fed_alike r s (steps_not e) = feeds_not e

item_alike : (o : OptionsData) (i : Item) (begins_key : Bool) (next : Option ℕ) (p q : ParserState) → AlikeState p q
    → AlikeStep (take_item o i begins_key next p) (take_item o i begins_key next q)
item_alike o (OfComment c) begins_key next p q x = comment_alike c next p q x
item_alike o (OfLexeme l) begins_key next p q x = lexeme_alike o (token_of begins_key l) next p q x

pub feed_alike : (o : OptionsData) (i : FlaggedItem) (next : Option ℕ) (p q : ParserState) → AlikeState p q
    → AlikeFed (feed o i next p) (feed o i next q)
unfolding feed
feed_alike o i next p q x = fed_alike (take_item o i.item i.begins_key next p) (take_item o i.item i.begins_key next q)
    (item_alike o i.item i.begins_key next p q x)
