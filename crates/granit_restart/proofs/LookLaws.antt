-- A look ahead by turns tells what is told without them.
use Rattle.std.proofs.Common.{◌≡◌, ℕ, zero, suc, ◌<◌, ◌-◌, ◌==◌, Bool, true, false, ◌||◌, ◌&&◌, List, [], ◌∷◌, ◌++◌}
use Rattle.std.proofs.Common.{Option, Some, None, Result, Ok, Err, refl, sym, ap, subst, ◌∙◌, arith}
use Rattle.std.proofs.lemmas.Option.{same_Some}
use Rattle.std.specs.Prelude.{if◌then◌else◌}
use Rattle.granit_base.specs.Place.{Mark}
use Rattle.granit_error.specs.FaultKind.{TooManyComments, UnsupportedYamlMajorVersion}
use Rattle.granit_error.specs.OptionsData.{OptionsData}
use Rattle.granit_lexemes.specs.Basics.{fails_at}
use Rattle.granit_lexemes.specs.Comment.{CommentRead}
use Rattle.granit_lexemes.specs.Here.{text_len}
use Rattle.granit_lexemes.specs.Lexeme as lexemes
use Rattle.granit_lexemes.specs.Lexeme.{DirectiveKind, Version, TagPrefix, Reserved, LexemeKind, Item, OfLexeme}
use Rattle.granit_lexemes.specs.Lexeme.{OfComment}
use Rattle.granit_lexemes.specs.Outcome.{Fault, ◌>>=◌}
use Rattle.granit_lexemes.specs.Pieces.{pieces, turns}
use Rattle.granit_lexemes.specs.PlainEvent.{PlainEvent, EventKind, event_at, StreamEnd, DocumentStart}
use Rattle.granit_lexemes.specs.PlainEvent.{Comment}
use Rattle.granit_steps.proofs.Futures.{lex_turn-Shortens}
use Rattle.granit_machine.specs.Closing.{close_turn}
use Rattle.granit_machine.specs.Entries.{lookup_text}
use Rattle.granit_machine.specs.Frames.{Root, Directives, Inside, Waiting, ParserState}
use Rattle.granit_machine.specs.Giving.{give}
use Rattle.granit_machine.specs.Laid.{Laid}
use Rattle.granit_machine.specs.Lexing.{FlaggedItem}
use Rattle.granit_machine.specs.Machine.{is_settled}
use Rattle.granit_machine.specs.NodeSteps.{misplaced, Stepped}
use Rattle.granit_machine.specs.Parser.{feed, hold, take_item, take_tail}
use Rattle.granit_machine.specs.Reader.{behind_read, is_end, lex_len, lex_turn, LexState, LexTurn, read}
use Rattle.granit_machine.specs.ReaderState.{Read, ReaderState}
use Rattle.granit_machine.specs.StreamSteps.{bare_start, begin_document, when_fresh, with_directive}
use Rattle.granit_machine.specs.StreamSteps.{with_handle, without_directives}
use Rattle.granit_machine.specs.TokenSort.{begins_node, BeginsNode, Token, token_of, TokenSort}
use Rattle.granit_restart.proofs.MarkLaws.{items, MarksSettled, other_kind_passes, pushed_items, Sound, TurnSound}
use Rattle.granit_restart.proofs.MarkLaws.{turn_sound, turned_sound, unsettled_none}
use Rattle.granit_restart.proofs.MarkReads.{any_marks, is_mark}
use Rattle.granit_restart.proofs.StartLemmas.{node_starts, step_if, step_then, StepStarts, tail_starts}
use Rattle.granit_restart.specs.Following.{document_follows, one_kept, past_event, past_events, past_items, past_lexeme}
use Rattle.granit_restart.specs.Following.{past_read, past_reading, past_reads, past_tail}
use Rattle.granit_restart.specs.Header.{is_directives}
use Rattle.granit_restart.specs.Looking.{behind_waiting, look_ahead, look_behind, look_by, look_in, outer, Outside}
use Rattle.granit_restart.specs.Looking.{told_by, told_event, turn_ahead}
use Rattle.granit_restart.specs.Skipping.{with_pending}
use Rattle.granit_restart.specs.Turned.{Turned}
use Rattle.granit_steps.proofs.Futures.{pushed_nil, Ready}
use Rattle.granit_steps.proofs.StepLaws.{step_turn-Shortens}
use Rattle.granit_steps.specs.Steps.{front_turn, incoming, line_behind, may_go, read_more, read_unless}
use Rattle.granit_steps.specs.Steps.{StepState, step_size, step_turn, Turn, turn_by, with_fed, with_read}

-- ---- what comes behind is asked alike

kept_alike : (room : ℕ) (m : Mark) (f g : ℕ → Result Bool Fault) → ((n : ℕ) → f n ≡ g n)
    → one_kept room m f ≡ one_kept room m g
kept_alike zero m f g e = refl
kept_alike (suc n) m f g e = e n

tail_alike : (room : ℕ) (tail : Option CommentRead) (f g : ℕ → Result Bool Fault) → ((n : ℕ) → f n ≡ g n)
    → past_tail room tail f ≡ past_tail room tail g
tail_alike room None f g e = e room
tail_alike room (Some c) f g e = kept_alike room c.source.start f g e

lexeme_alike : (room : ℕ) (kind : LexemeKind) (tail : Option CommentRead) (f g : ℕ → Result Bool Fault)
    → ((n : ℕ) → f n ≡ g n) → past_lexeme room kind tail f ≡ past_lexeme room kind tail g
lexeme_alike room lexemes.DocumentEnd tail f g e = tail_alike room tail f g e
lexeme_alike room lexemes.StreamEnd tail f g e = refl
lexeme_alike room kind tail f g e = refl

items_alike : (room : ℕ) (is : List Item) (f g : ℕ → Result Bool Fault) → ((n : ℕ) → f n ≡ g n)
    → past_items room is f ≡ past_items room is g
items_alike room [] f g e = e room
items_alike room (OfComment c ∷ is) f g e =
    kept_alike room c.source.start _ _ (λ n. items_alike n is f g e)
items_alike room (OfLexeme l ∷ is) f g e =
    lexeme_alike room l.kind l.tail _ _ (λ n. items_alike n is f g e)

items_append : (room : ℕ) (xs ys : List Item) (more : ℕ → Result Bool Fault)
    → past_items room (xs ++ ys) more ≡ past_items room xs (λ n. past_items n ys more)
items_append room [] ys more = refl
items_append room (OfComment c ∷ is) ys more =
    kept_alike room c.source.start _ _ (λ n. items_append n is ys more)
items_append room (OfLexeme l ∷ is) ys more =
    lexeme_alike room l.kind l.tail _ _ (λ n. items_append n is ys more)

event_alike : (room : ℕ) (kind : EventKind) (m : Mark) (f g : ℕ → Result Bool Fault) → ((n : ℕ) → f n ≡ g n)
    → past_event room kind m f ≡ past_event room kind m g
event_alike room (Comment text placement) m f g e = kept_alike room m f g e
event_alike room StreamEnd m f g e = refl
event_alike room kind m f g e = refl

events_alike : (room : ℕ) (es : List PlainEvent) (f g : ℕ → Result Bool Fault) → ((n : ℕ) → f n ≡ g n)
    → past_events room es f ≡ past_events room es g
events_alike room [] f g e = e room
events_alike room (x ∷ es) f g e =
    event_alike room x.kind x.span.start _ _ (λ n. events_alike n es f g e)

-- ---- what waits tells

told_kind : (kind : EventKind) (room : ℕ) (m : Mark) (told : ℕ → Option (Result Bool Fault))
    (past : ℕ → Result Bool Fault) (x : Result Bool Fault) → ((n : ℕ) → told n ≡ Some x → past n ≡ x)
    → told_event room kind m told ≡ Some x → past_event room kind m past ≡ x
told_kind (Comment text placement) zero m told past x more e = same_Some (fails_at TooManyComments m) x e
told_kind (Comment text placement) (suc n) m told past x more e = more n e
told_kind StreamEnd room m told past x more e = same_Some (Ok false) x e
told_kind kind room m told past x more e = same_Some (Ok true) x e

pub told_past : (room : ℕ) (es : List PlainEvent) (more : ℕ → Result Bool Fault) (x : Result Bool Fault)
    → told_by room es ≡ Some x → past_events room es more ≡ x
told_past room [] more x e = absurd (cc)
told_past room (d ∷ es) more x e = told_kind d.kind room d.span.start _ _ x (λ n. told_past n es more x) e

-- events that are all kept, and how many more may be
record KeptBy (room : ℕ) (kind : EventKind) (m : Mark) (es : List PlainEvent) : Type 0 where
  left : ℕ
  past : (more : ℕ → Result Bool Fault) → past_event room kind m (λ n. past_events n es more) ≡ more left
  behind : (fs : List PlainEvent) (more : ℕ → Result Bool Fault)
      → past_event room kind m (λ n. past_events n (es ++ fs) more) ≡ past_events left fs more
  told : (fs : List PlainEvent) → told_event room kind m (λ n. told_by n (es ++ fs)) ≡ told_by left fs

pub record Kept (room : ℕ) (es : List PlainEvent) : Type 0 where
  pub left : ℕ
  pub past : (more : ℕ → Result Bool Fault) → past_events room es more ≡ more left
  pub behind : (fs : List PlainEvent) (more : ℕ → Result Bool Fault)
      → past_events room (es ++ fs) more ≡ past_events left fs more
  pub told : (fs : List PlainEvent) → told_by room (es ++ fs) ≡ told_by left fs

kept_kind : (kind : EventKind) (room : ℕ) (m : Mark) (es : List PlainEvent)
    → ((n : ℕ) → told_by n es ≡ None → Kept n es) → told_event room kind m (λ n. told_by n es) ≡ None
    → KeptBy room kind m es
kept_kind (Comment text placement) zero m es more e = absurd (cc)
kept_kind (Comment text placement) (suc n) m es more e =
    let k = more n e in record { left = k.left; past = k.past; behind = k.behind; told = k.told }
kept_kind StreamEnd room m es more e = absurd (cc)
kept_kind kind room m es more e = absurd (cc)

pub kept : (room : ℕ) (es : List PlainEvent) → told_by room es ≡ None → Kept room es
kept room [] e =
    record { left = room; past = λ more. refl; behind = λ fs more. refl; told = λ fs. refl }
kept room (d ∷ es) e =
    let k = kept_kind d.kind room d.span.start es (λ n. kept n es) e in
    record { left = k.left; past = k.past; behind = k.behind; told = k.told }

-- ---- what an item tells that is fed between documents

-- what the definition tells is what the events and what is left tell, or what these tell at once
pub data Looks (v : Result Bool Fault) (left : ℕ) (more : ℕ → Result Bool Fault) (es : List PlainEvent)
    (q : ParserState) : Type 0 where
  looks_on : Outside q → v ≡ past_events left es more → Looks v left more es q
  looks_start : ((room : ℕ) → told_by room es ≡ Some (Ok true)) → v ≡ Ok true → Looks v left more es q
  looks_over : is_directives q.stage ≡ false → ((room : ℕ) → told_by room es ≡ Some (Ok false)) → v ≡ Ok false
      → Looks v left more es q
  looks_directives : is_directives q.stage ≡ true → v ≡ Ok true → Looks v left more es q

abbrev FedLooks : Result Bool Fault → ℕ → (ℕ → Result Bool Fault) → Result (List PlainEvent × ParserState) Fault
    → Type 0
FedLooks v left more (Ok x) = Looks v left more x.0 x.1
FedLooks v left more (Err f) = v ≡ Ok true

-- what a step hands out
abbrev pub handed : Stepped → Result (List PlainEvent × ParserState) Fault
handed r = r >>= λ q. Ok (q.given, record q { given = [] })

start_fed : (v : Result Bool Fault) (left : ℕ) (more : ℕ → Result Bool Fault) (e : PlainEvent) (r : Stepped)
    → ((room : ℕ) (later : ℕ → Option (Result Bool Fault)) → told_event room e.kind e.span.start later ≡ Some (Ok true))
    → v ≡ Ok true → StepStarts e r → FedLooks v left more (handed r)
start_fed v left more e (Ok q) begins is s =
    looks_start (λ room. ap (told_by room) s.first ∙ begins room (λ n. told_by n s.rest)) is
start_fed v left more e (Err f) begins is s = is

abbrev StepDirects : Stepped → Type 0
StepDirects (Ok q) = is_directives q.stage ≡ true
StepDirects (Err f) = Unit {0}

directs_if : (b : Bool) (r s : Stepped) → StepDirects r → StepDirects s → StepDirects (if b then r else s)
directs_if true r s p q = p
directs_if false r s p q = q

directs_then : (r : Stepped) (f : ParserState → Stepped) → StepDirects r
    → ((q : ParserState) → is_directives q.stage ≡ true → StepDirects (f q)) → StepDirects (r >>= f)
directs_then (Ok q) f p more = more q p
directs_then (Err g) f p more = tt

hold_directs : (c : CommentRead) (f : PlainEvent) (w : Option Waiting) (p : ParserState)
    → is_directives p.stage ≡ true → StepDirects (hold c f w p)
hold_directs c f None p e = e
hold_directs c f (Some w) p e =
    let q : ParserState = record p { waiting = Some (record w { room = w.room - 1; held = w.held ++ f ∷ [] }) } in
    directs_if (w.room == 0) (fails_at TooManyComments c.source.start) (Ok q) tt e

tail_directs : (kind : LexemeKind) (tail : Option CommentRead) (next : Option ℕ) (p : ParserState)
    → is_directives p.stage ≡ true → StepDirects (take_tail kind tail next p)
tail_directs lexemes.Dash tail next p e = e
tail_directs kind None next p e = e
tail_directs kind (Some c) next p e = hold_directs c _ p.waiting p e

handle_directs : (o : OptionsData) (t : Token) (handle prefix : List ℕ) (known : Option (List ℕ)) (p : ParserState)
    → StepDirects (with_handle o t None handle prefix known p)
handle_directs o t handle prefix (Some known) p = tt
handle_directs o t handle prefix None p = refl

directive_directs : (o : OptionsData) (t : Token) (d : DirectiveKind) (p : ParserState)
    → StepDirects (with_directive o t d None p)
directive_directs o t (Version major minor) p =
    let q : ParserState = record p { stage = Directives (Some (record { major = major; minor = minor })) } in
    directs_if (major == 1) (Ok q) (misplaced UnsupportedYamlMajorVersion t) refl tt
directive_directs o t (TagPrefix handle prefix) p = handle_directs o t handle prefix (lookup_text handle p.handles) p
directive_directs o t (Reserved name parameters) p = refl

directs_fed : (left : ℕ) (more : ℕ → Result Bool Fault) (r : Stepped) → StepDirects r
    → FedLooks (Ok true) left more (handed r)
directs_fed left more (Ok q) p = looks_directives p refl
directs_fed left more (Err f) p = refl

bare_begins : (sort : TokenSort) (t : Token) (room : ℕ) (later : ℕ → Option (Result Bool Fault))
    → told_event room (bare_start sort t).kind (bare_start sort t).span.start later ≡ Some (Ok true)
bare_begins BeginsNode t room later = refl
bare_begins sort t room later = refl

pub document_starts : (o : OptionsData) (t : Token) (p : ParserState)
    → StepStarts (bare_start t.sort t) (begin_document o t (outer p))
document_starts o t p =
    let e = bare_start t.sort t in
    step_if e (begins_node t.sort) _ _ (node_starts e o t _ (record { rest = []; first = refl })) tt

fed_kind : (o : OptionsData) (kind : LexemeKind) (t : Token) (tail : Option CommentRead) (next : Option ℕ)
    (p : ParserState) (left : ℕ) (more : ℕ → Result Bool Fault)
    → FedLooks (past_lexeme left kind tail more) left more
    (handed (when_fresh o kind t (outer p) >>= take_tail kind tail next))
fed_kind o lexemes.DocumentEnd t None next p left more = looks_on refl refl
fed_kind o lexemes.DocumentEnd t (Some c) next p left more = looks_on refl refl
fed_kind o lexemes.StreamEnd t None next p left more = looks_over refl (λ room. refl) refl
fed_kind o lexemes.StreamEnd t (Some c) next p left more = looks_over refl (λ room. refl) refl
fed_kind o (lexemes.Directive d) t tail next p left more =
    let r = with_directive o t d None (without_directives (outer p)) in
    directs_fed left more (r >>= take_tail (lexemes.Directive d) tail next)
    (directs_then r (take_tail (lexemes.Directive d) tail next)
    (directive_directs o t d (without_directives (outer p)))
    (λ q e. tail_directs (lexemes.Directive d) tail next q e))
fed_kind o lexemes.DocumentStart t tail next p left more =
    let e = event_at (DocumentStart true None) t.lexeme.shown in
    let q = give e (record (outer p) { names = []; handles = []; stage = Inside }) in
    let s : ParserState = record q { frames = Root true ∷ q.frames } in
    start_fed (Ok true) left more e (take_tail lexemes.DocumentStart tail next s) (λ room later. refl) refl
    (tail_starts e lexemes.DocumentStart tail next s (record { rest = []; first = refl }))
fed_kind o kind t tail next p left more =
    let e = bare_start t.sort t in
    let r = begin_document o t (outer p) in
    start_fed (Ok true) left more e (r >>= take_tail kind tail next) (bare_begins t.sort t) refl
    (step_then e r (take_tail kind tail next) (document_starts o t p) (λ q s. tail_starts e kind tail next q s))

fed_item : (o : OptionsData) (i : Item) (b : Bool) (next : Option ℕ) (p : ParserState) (is : List Item) (left : ℕ)
    (more : ℕ → Result Bool Fault)
    → FedLooks (past_items left (i ∷ is) more) left (λ n. past_items n is more)
    (handed (take_item o i b next (outer p)))
unfolding pieces turns close_turn
fed_item o (OfComment c) b next p is left more = looks_on refl refl
fed_item o (OfLexeme l) b next p is left more =
    fed_kind o l.kind (token_of b l) l.tail next p left (λ n. past_items n is more)

feed_looks : (o : OptionsData) (i : FlaggedItem) (next : Option ℕ) (p : ParserState) (is : List Item) (left : ℕ)
    (more : ℕ → Result Bool Fault) → Outside p
    → FedLooks (past_items left (i.item ∷ is) more) left (λ n. past_items n is more) (feed o i next p)
unfolding feed
feed_looks o i next p is left more out =
    subst (λ q. FedLooks (past_items left (i.item ∷ is) more) left (λ n. past_items n is more)
    (handed (take_item o i.item i.begins_key next q))) (sym out)
    (fed_item o i.item i.begins_key next p is left more)

-- ---- reads

module _ (o : OptionsData) where
  abbrev EnoughReads : ℕ → ℕ → Type 0
  EnoughReads n k =
      (l : LexState) (room : ℕ) → lex_len l < n → lex_len l < k → past_reads o n l room ≡ past_reads o k l room

  enough_read : (n k : ℕ) (l : LexState) (room : ℕ) (r : LexTurn) → EnoughReads n k → lex_len l < suc n
      → lex_len l < suc k → lex_turn o l ≡ r
      → past_read o (past_reads o n) room r ≡ past_read o (past_reads o k) room r
  enough_read n k l room (Ok (Some is, after)) more h g e =
      let less = lex_turn-Shortens o l after is e in
      items_alike room (incoming o.emit_comments is) _ _
      (λ left. more after left (omega (arith, less, h)) (omega (arith, less, g)))
  enough_read n k l room (Ok (None, after)) more h g e = refl
  enough_read n k l room (Err f) more h g e = refl

  enough_reads : (n k : ℕ) → EnoughReads n k
  enough_reads zero k l room h g = absurd (omega arith)
  enough_reads (suc n) zero l room h g = absurd (omega arith)
  enough_reads (suc n) (suc k) l room h g = enough_read n k l room (lex_turn o l) (enough_reads n k) h g refl

  -- what the items that wait and what is left tell
  abbrev pub Asked : StepState → ℕ → Result Bool Fault
  Asked s left = past_items left (items s.queue) (past_reading o s.reading s.reading.fault)

  abbrev pub TurnLooks : Result Bool Fault → ℕ → Turn → Type 0
  TurnLooks v left (Ok (Some y, t)) = Looks v left (Asked t) t.pending t.parser
  TurnLooks v left (Ok (None, t)) = v ≡ Ok false
  TurnLooks v left (Err f) = v ≡ Ok true

  fed_turn : (v : Result Bool Fault) (left : ℕ) (s : StepState) (is : List FlaggedItem)
      (r : Result (List PlainEvent × ParserState) Fault)
      → FedLooks v left (λ n. past_items n (items is) (past_reading o s.reading s.reading.fault)) r
      → TurnLooks v left (r >>= λ x. Ok (Some [], with_fed s is x))
  fed_turn v left s is (Ok x) p = p
  fed_turn v left s is (Err f) p = p

  abbrev unread : ReaderState → LexState
  unread s = record { reader = s; ended = false; fault = None }

  len_within : (l : LexState) → lex_len l < suc (suc (text_len l.reader.here))
  len_within l = by l.ended
    where
      by : (b : Bool) → (if b then 0 else suc (text_len l.reader.here)) < suc (suc (text_len l.reader.here))
      by true = omega arith
      by false = omega arith

  read_nil : (b : Bool) → incoming b [] ≡ []
  read_nil true = refl
  read_nil false = refl

  read_looks : (s : ReaderState) (q : List FlaggedItem) (p : ParserState) (left : ℕ) (r : Read) → read o s ≡ r
      → Outside p
      → TurnLooks (past_items left (items q) (past_reading o (unread s) None)) left
      (behind_read r s
      >>= λ x. Ok (Some [], with_read o (record { reading = unread s; queue = q; parser = p; pending = [] }) x))
  unfolding lex_turn
  read_looks s q p left (Err f) is out =
      looks_on out (items_alike left (items q) _ (λ n. Ok true)
      (λ n. ap (λ r. past_read o (past_reads o (suc (text_len s.here))) n (behind_read r s)) is)
      ∙ sym (ap (λ q. past_items left (items q) (λ n. Ok true)) (pushed_nil o.emit_comments q)))
  read_looks s q p left (Ok x) is out =
      let m : LexState = record { reader = x.1; ended = is_end x.0; fault = None } in
      let new = incoming o.emit_comments x.0 in
      let turn : lex_turn o (unread s) ≡ Ok (Some x.0, m) = ap (λ r. behind_read r s) is in
      let less : lex_len m < lex_len (unread s) = lex_turn-Shortens o (unread s) m x.0 turn in
      looks_on out
      (items_alike left (items q) _ (λ n. past_items n new (past_reading o m None))
      (λ n. ap (past_read o (past_reads o (suc (text_len s.here))) n) turn
      ∙ items_alike n new _ _ (λ k. enough_reads (suc (text_len s.here)) (suc (suc (text_len m.reader.here))) m k less
      (len_within m)))
      ∙ sym (ap (λ is. past_items left is (past_reading o m None)) (pushed_items q new)
      ∙ items_append left (items q) new (past_reading o m None)))

  -- ---- a turn

  unless_looks : (s : ReaderState) (q : List FlaggedItem) (p : ParserState) (left : ℕ) → Outside p
      → TurnLooks (past_items left (items q) (past_reading o (unread s) None)) left
      (read_unless o None (record { reading = unread s; queue = q; parser = p; pending = [] }))
  unfolding lex_turn
  unless_looks s q p left out = read_looks s q p left (read o s) refl out

  abbrev at : ReaderState → Bool → Option Fault → LexState
  at s ended end = record { reader = s; ended = ended; fault = end }

  wait_looks : (s : ReaderState) (ended : Bool) (end : Option Fault) (q : List FlaggedItem) (p : ParserState) (left : ℕ)
      → Outside p → (ended ≡ true → end ≡ None) → (ended ≡ true → q ≡ [])
      → ((f : Fault) → ended ≡ false → end ≡ Some f
      → past_items left (items q) (past_reading o (at s ended end) end) ≡ Ok true)
      → TurnLooks (past_items left (items q) (past_reading o (at s ended end) end)) left
      (read_more o ended (record { reading = at s ended end; queue = q; parser = p; pending = [] }))
  unfolding lex_turn
  wait_looks s true (Some f) q p left out one none stuck = absurd (let h = one refl in cc)
  wait_looks s true None q p left out one none stuck =
      ap (λ q. past_items left (items q) (past_reading o (at s true None) None)) (none refl)
  wait_looks s false (Some f) q p left out one none stuck = stuck f refl refl
  wait_looks s false None q p left out one none stuck = unless_looks s q p left out

  not_ended : (s : ReaderState) (ended : Bool) (end : Option Fault) (i : FlaggedItem) (is : List FlaggedItem)
      → may_go (at s ended end) i is ≡ false → ended ≡ true → i ∷ is ≡ []
  not_ended s true end i is e h = absurd (cc)
  not_ended s false end i is e h = absurd (cc)

  and_true : (a : Bool) → (a && true) ≡ false → a ≡ false
  and_true true e = e
  and_true false e = refl

  not_settled : (s : ReaderState) (ended : Bool) (end : Option Fault) (i : FlaggedItem) (is : List FlaggedItem)
      (f : Fault) → may_go (at s ended end) i is ≡ false → ended ≡ false → end ≡ Some f
      → is_settled s.laid i.item ≡ false
  not_settled s true end i is f e n h = absurd (cc)
  not_settled s false None i is f e n h = absurd (cc)
  not_settled s false (Some g) i is f e n h = and_true (is_settled s.laid i.item) e

  or_left : (a b : Bool) → (a || b) ≡ false → a ≡ false
  or_left true b e = e
  or_left false b e = refl

  unsettled_passes : (l : Laid) (i : Item) (is : List Item) (left : ℕ) (more : ℕ → Result Bool Fault)
      → is_settled l i ≡ false → any_marks (i ∷ is) ≡ false → past_items left (i ∷ is) more ≡ Ok true
  unsettled_passes l (OfComment c) is left more none e = absurd (cc)
  unsettled_passes l (OfLexeme x) is left more none e =
      other_kind_passes left x.kind x.tail (λ n. past_items n is more) (or_left (is_mark x.kind) (any_marks is) e)

  front_looks : (b : Bool) (s : StepState) (i : FlaggedItem) (is : List FlaggedItem) (left : ℕ)
      → s.queue ≡ i ∷ is → may_go s.reading i is ≡ b → Sound s → Outside s.parser
      → TurnLooks (past_items left (items (i ∷ is)) (past_reading o s.reading s.reading.fault)) left
      (front_turn b o i is (record { reading = s.reading; queue = i ∷ is; parser = s.parser; pending = [] }))
  front_looks true s i is left queue e p out =
      fed_turn (past_items left (items (i ∷ is)) (past_reading o s.reading s.reading.fault)) left
      (record { reading = s.reading; queue = i ∷ is; parser = s.parser; pending = [] }) is
      (feed o i (line_behind s.reading is) s.parser)
      (feed_looks o i (line_behind s.reading is) s.parser (items is) left
      (past_reading o s.reading s.reading.fault) out)
  front_looks false s i is left queue e p out =
      let l = s.reading in
      let ready : Ready s.reading s.queue = p.ready in
      wait_looks l.reader l.ended l.fault (i ∷ is) s.parser left out ready.one_end
      (not_ended l.reader l.ended l.fault i is e)
      (λ f going fault. stuck (not_settled l.reader l.ended l.fault i is f e going fault))
    where
      stuck : is_settled s.reading.reader.laid i.item ≡ false
          → past_items left (items (i ∷ is)) (past_reading o s.reading s.reading.fault) ≡ Ok true
      stuck held =
          unsettled_passes s.reading.reader.laid i.item (items is) left (past_reading o s.reading s.reading.fault) held
          (unsettled_none s.reading.reader.laid i.item (items is) (any_marks (items (i ∷ is))) refl
          (subst (λ q. MarksSettled s.reading.reader.laid (items q)) queue
          p.marked) held)

  queue_looks : (s : StepState) (q : List FlaggedItem) (left : ℕ) → s.queue ≡ q → Sound s → Outside s.parser
      → TurnLooks (past_items left (items q) (past_reading o s.reading s.reading.fault)) left
      (turn_by o [] q (record { reading = s.reading; queue = q; parser = s.parser; pending = [] }))
  queue_looks s [] left queue p out =
      let l = s.reading in
      let ready : Ready s.reading s.queue = p.ready in
      wait_looks l.reader l.ended l.fault [] s.parser left out ready.one_end (λ e. refl)
      (λ f going fault. stuck f fault)
    where
      stuck : (f : Fault) → s.reading.fault ≡ Some f → past_reading o s.reading s.reading.fault left ≡ Ok true
      stuck f fault = ap (λ g. past_reading o s.reading g left) fault
  queue_looks s (i ∷ is) left queue p out =
      front_looks (may_go s.reading i is) s i is left queue refl p out

  pub turn_looks : (s : StepState) (left : ℕ) → Sound s → Outside s.parser
      → TurnLooks (Asked s left) left (step_turn o (with_pending [] s))
  unfolding step_turn
  turn_looks s left p out = queue_looks s s.queue left refl p out

  -- ---- the look

  abbrev Right : ℕ → ℕ → Type 0
  Right room n = (s : StepState) → Sound s → Outside s.parser → step_size s < n
      → (look_in o room n s).0 ≡ past_events room s.pending (Asked s)

  -- events that tell are enough for a look
  pub told_look : (room n : ℕ) (s : StepState) (x : Result Bool Fault) → step_size s < n
      → told_by room s.pending ≡ Some x → (look_in o room n s).0 ≡ x
  told_look room zero s x h e = absurd (omega arith)
  told_look room (suc n) s x h e = ap (λ told. (look_by o (look_in o room n) s told).0) e

  directs_look : (b : Bool) (n room : ℕ) (t : StepState) (v : Result Bool Fault) → v ≡ Ok true
      → (look_in o room n t).0 ≡ Ok true → (if b then (Ok true, t) else look_in o room n t).0 ≡ v
  directs_look true n room t v e g = sym e
  directs_look false n room t v e g = g ∙ sym e

  behind_look : (room n : ℕ) (es : List PlainEvent) (v : Result Bool Fault) (k : Kept room es) (t : StepState)
      → Right room n → Sound t → step_size t < n → Looks v k.left (Asked t) t.pending t.parser
      → (if is_directives t.parser.stage then (Ok true, with_pending (es ++ t.pending) t)
      else look_in o room n (with_pending (es ++ t.pending) t)).0 ≡ v
  behind_look room n es v k t more sound h (looks_on out e) =
      let u = with_pending (es ++ t.pending) t in
      ap (λ b. (if b then (Ok true, u) else look_in o room n u).0)
      (ap (λ (p : ParserState). is_directives p.stage) out)
      ∙ more u (record { ready = sound.ready; marked = sound.marked }) out h ∙ k.behind t.pending (Asked t) ∙ sym e
  behind_look room n es v k t more sound h (looks_start told e) =
      let u = with_pending (es ++ t.pending) t in
      directs_look (is_directives t.parser.stage) n room u v e
      (told_look room n u (Ok true) h (k.told t.pending ∙ told k.left))
  behind_look room n es v k t more sound h (looks_over stage told e) =
      let u = with_pending (es ++ t.pending) t in
      ap (λ b. (if b then (Ok true, u) else look_in o room n u).0) stage
      ∙ told_look room n u (Ok false) h (k.told t.pending ∙ told k.left) ∙ sym e
  behind_look room n es v k t more sound h (looks_directives stage e) =
      let u = with_pending (es ++ t.pending) t in
      ap (λ b. (if b then (Ok true, u) else look_in o room n u).0) stage ∙ sym e

  turn_look : (room n : ℕ) (s : StepState) (v : Result Bool Fault) (k : Kept room s.pending) (r : Turn) → Right room n
      → step_turn o (with_pending [] s) ≡ r → TurnSound r → step_size s < suc n → TurnLooks v k.left r
      → (look_behind (look_in o room n) s (behind_waiting s.pending r)).0 ≡ v
  turn_look room n s v k (Ok (Some y, t)) more e sound h looks =
      let less : step_size t < step_size s = step_turn-Shortens o (with_pending [] s) t y e in
      behind_look room n s.pending v k t more sound (omega (arith, less, h)) looks
  turn_look room n s v k (Ok (None, t)) more e sound h looks = sym looks
  turn_look room n s v k (Err f) more e sound h looks = sym looks

  told_right : (room n : ℕ) (s : StepState) (told : Option (Result Bool Fault)) → told_by room s.pending ≡ told
      → Right room n → Sound s → Outside s.parser → step_size s < suc n
      → (look_by o (look_in o room n) s told).0 ≡ past_events room s.pending (Asked s)
  told_right room n s (Some x) e more sound out h = sym (told_past room s.pending (Asked s) x e)
  told_right room n s None e more sound out h =
      let k = kept room s.pending e in
      ap (λ b. (if b then (Ok true, s) else look_behind (look_in o room n) s (turn_ahead o s)).0)
      (ap (λ (p : ParserState). is_directives p.stage) out)
      ∙ turn_look room n s (Asked s k.left) k (step_turn o (with_pending [] s)) more refl
      (turn_sound o (with_pending [] s) (record { ready = sound.ready; marked = sound.marked })) h
      (turn_looks s k.left sound out)
      ∙ sym (k.past (Asked s))

  look_right : (room n : ℕ) → Right room n
  look_right room zero s sound out h = absurd (omega arith)
  look_right room (suc n) s sound out h =
      told_right room n s (told_by room s.pending) refl (look_right room n) sound out h

  -- where no directive was read, what waits and what is left tell
  pub follows_says : (room : ℕ) (s : StepState) → is_directives s.parser.stage ≡ false
      → document_follows o room s ≡ past_events room s.pending (Asked s)
  unfolding document_follows
  follows_says room s e =
      events_alike room s.pending _ (Asked s) (λ left. ap (λ b. if b then Ok true else Asked s left) e)

  -- and what waits alone, where it tells
  pub follows_told : (room : ℕ) (s : StepState) (x : Result Bool Fault) → told_by room s.pending ≡ Some x
      → document_follows o room s ≡ x
  unfolding document_follows
  follows_told room s x e = told_past room s.pending _ x e

  pub outside_stage : (s : StepState) → Outside s.parser → is_directives s.parser.stage ≡ false
  outside_stage s out = ap (λ (p : ParserState). is_directives p.stage) out

  -- a look tells whether another document is there
  pub look_tells : (room : ℕ) (s : StepState) → Turned o s → Outside s.parser
      → (look_ahead o room s).0 ≡ document_follows o room s
  look_tells room s turned out =
      look_right room (suc (step_size s)) s (turned_sound o s turned) out (omega arith)
      ∙ sym (follows_says room s (outside_stage s out))
