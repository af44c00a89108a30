-- What one turn gives between documents and among directives: comments alone, or first what is none.
use Rattle.std.proofs.Common.{◌≡◌, ◌⊎◌, inl, inr, ℕ, ◌==◌, Bool, true, false, List, [], ◌∷◌, Option, Some, None}
use Rattle.std.proofs.Common.{Ok, Err, refl, sym, subst}
use Rattle.std.specs.Prelude.{if◌then◌else◌}
use Rattle.granit_error.specs.FaultKind.{UnsupportedYamlMajorVersion}
use Rattle.granit_error.specs.OptionsData.{OptionsData}
use Rattle.granit_quiet.proofs.CommentLaws.{handed}
use Rattle.granit_quiet.proofs.QuietStream.{bare_start_tells}
use Rattle.granit_lexemes.specs.Comment.{CommentRead}
use Rattle.granit_lexemes.specs.Lexeme as lexemes
use Rattle.granit_lexemes.specs.Lexeme.{DirectiveKind, Version, TagPrefix, Reserved, LexemeKind, Item, OfLexeme}
use Rattle.granit_lexemes.specs.Lexeme.{OfComment}
use Rattle.granit_lexemes.specs.Outcome.{Fault, ◌>>=◌}
use Rattle.granit_lexemes.specs.Pieces.{pieces, turns}
use Rattle.granit_lexemes.specs.PlainEvent.{DocumentStart, event_at, PlainEvent, PlainVersion}
use Rattle.granit_machine.proofs.ClosingLemmas.{FeedGiven}
use Rattle.granit_machine.specs.Closing.{close_turn}
use Rattle.granit_machine.specs.Entries.{lookup_text}
use Rattle.granit_machine.specs.Frames.{Directives, Inside, ParserState, Root}
use Rattle.granit_machine.specs.Giving.{give}
use Rattle.granit_machine.specs.Lexing.{FlaggedItem}
use Rattle.granit_machine.specs.NodeSteps.{misplaced, Stepped}
use Rattle.granit_machine.specs.Parser.{feed, take_item, take_tail}
use Rattle.granit_machine.specs.Reader.{lex_turn, LexTurn}
use Rattle.granit_machine.specs.StreamSteps.{bare_start, begin_document, behind_directives, open_document, when_fresh}
use Rattle.granit_machine.specs.StreamSteps.{with_directive, with_handle, with_version, without_directives}
use Rattle.granit_machine.specs.TokenSort.{Token, token_of}
use Rattle.granit_restart.proofs.LookLaws.{document_starts}
use Rattle.granit_restart.proofs.StartLemmas.{step_then, StepStarts, tail_starts}
use Rattle.granit_restart.specs.Ahead.{is_note}
use Rattle.granit_restart.specs.Looking.{outer, Outside}
use Rattle.granit_steps.specs.Steps.{front_turn, line_behind, may_go, read_more, read_unless, step_turn, StepState}
use Rattle.granit_steps.specs.Steps.{Turn, turn_by, with_fed, with_read}

-- no node is open, and nothing waits or is held
abbrev bare : ParserState → ParserState
bare p = record p { frames = []; waiting = None; given = [] }

-- the same, and directives were read
abbrev pub headed : Option PlainVersion → ParserState → ParserState
headed v p = record p { frames = []; stage = Directives v; waiting = None; given = [] }

abbrev pub Among : ParserState → Type 0
Among p = (v : Option PlainVersion) × (p ≡ headed v p)

-- one comment at most
abbrev pub OneNote : List PlainEvent → Type 0
OneNote es = (es ≡ []) ⊎ ((e : PlainEvent) × (es ≡ e ∷ []) × (is_note e.kind ≡ true))

-- among directives still, or what comes first is no comment
pub data Heads (es : List PlainEvent) (q : ParserState) : Type 0 where
  heads_among : Among q → OneNote es → Heads es q
  heads_start : (e : PlainEvent) (rest : List PlainEvent) → es ≡ e ∷ rest → is_note e.kind ≡ false → Heads es q

abbrev FedHeads : FeedGiven → Type 0
FedHeads (Ok x) = Heads x.0 x.1
FedHeads (Err f) = Unit {0}

-- ---- directives

abbrev StepAmong : Stepped → Type 0
StepAmong (Ok q) = Among q
StepAmong (Err f) = Unit {0}

among_if : (b : Bool) (r s : Stepped) → StepAmong r → StepAmong s → StepAmong (if b then r else s)
among_if true r s x y = x
among_if false r s x y = y

version_among : (t : Token) (known : Option PlainVersion) (major minor : ℕ) (p : ParserState)
    → StepAmong (with_version t known major minor (bare p))
version_among t (Some known) major minor p = tt
version_among t None major minor p =
    let w : Option PlainVersion = Some (record { major = major; minor = minor }) in
    among_if (major == 1) (Ok (headed w p)) (misplaced UnsupportedYamlMajorVersion t) (w, refl) tt

handle_among : (o : OptionsData) (t : Token) (version : Option PlainVersion) (handle prefix : List ℕ)
    (known : Option (List ℕ)) (p : ParserState) → StepAmong (with_handle o t version handle prefix known (bare p))
handle_among o t version handle prefix (Some known) p = tt
handle_among o t version handle prefix None p = (version, refl)

directive_among : (o : OptionsData) (t : Token) (d : DirectiveKind) (version : Option PlainVersion) (p : ParserState)
    → StepAmong (with_directive o t d version (bare p))
directive_among o t (Version major minor) version p = version_among t version major minor p
directive_among o t (TagPrefix handle prefix) version p =
    handle_among o t version handle prefix (lookup_text handle p.handles) p
directive_among o t (Reserved name parameters) version p = (version, refl)

tail_heads : (d : DirectiveKind) (tail : Option CommentRead) (next : Option ℕ) (v : Option PlainVersion)
    (p : ParserState) → FedHeads (handed (take_tail (lexemes.Directive d) tail next (headed v p)))
tail_heads d None next v p = heads_among (v, refl) (inl refl)
tail_heads d (Some c) next v p = heads_among (v, refl) (inr (_, refl, refl))

directed : (d : DirectiveKind) (tail : Option CommentRead) (next : Option ℕ) (r : Stepped) → StepAmong r
    → FedHeads (handed (r >>= take_tail (lexemes.Directive d) tail next))
directed d tail next (Ok q) a =
    subst (λ q. FedHeads (handed (take_tail (lexemes.Directive d) tail next q))) (sym a.1)
    (tail_heads d tail next a.0 q)
directed d tail next (Err f) a = tt

-- ---- what begins a document

start_heads : (e : PlainEvent) (r : Stepped) → is_note e.kind ≡ false → StepStarts e r → FedHeads (handed r)
start_heads e (Ok q) other s = heads_start e s.rest s.first other
start_heads e (Err f) other s = tt

opened : (t : Token) (tail : Option CommentRead) (next : Option ℕ) (v : Option PlainVersion) (p : ParserState)
    → FedHeads (handed (open_document t v (bare p) >>= take_tail lexemes.DocumentStart tail next))
opened t tail next v p =
    let e = event_at (DocumentStart true v) t.lexeme.shown in
    let q = give e (record (bare p) { names = []; stage = Inside }) in
    let s : ParserState = record q { frames = Root true ∷ q.frames } in
    start_heads e (take_tail lexemes.DocumentStart tail next s) refl
    (tail_starts e lexemes.DocumentStart tail next s (record { rest = []; first = refl }))

-- ---- an item among directives

kind_heads : (o : OptionsData) (kind : LexemeKind) (t : Token) (tail : Option CommentRead) (next : Option ℕ)
    (v : Option PlainVersion) (p : ParserState)
    → FedHeads (handed (behind_directives o kind t v (headed v p) >>= take_tail kind tail next))
kind_heads o (lexemes.Directive d) t tail next v p =
    directed d tail next (with_directive o t d v (headed v p))
    (directive_among o t d v (record p { stage = Directives v }))
kind_heads o lexemes.DocumentStart t tail next v p = opened t tail next v (record p { stage = Directives v })
kind_heads o kind t tail next v p = tt

item_heads : (o : OptionsData) (i : Item) (b : Bool) (next : Option ℕ) (v : Option PlainVersion) (p : ParserState)
    → FedHeads (handed (take_item o i b next (headed v p)))
unfolding pieces turns close_turn
item_heads o (OfComment c) b next v p = heads_among (v, refl) (inr (_, refl, refl))
item_heads o (OfLexeme l) b next v p = kind_heads o l.kind (token_of b l) l.tail next v p

feed_heads : (o : OptionsData) (i : FlaggedItem) (next : Option ℕ) (p : ParserState) → Among p
    → FedHeads (feed o i next p)
unfolding feed
feed_heads o i next p a =
    subst (λ q. FedHeads (handed (take_item o i.item i.begins_key next q))) (sym a.1)
    (item_heads o i.item i.begins_key next a.0 p)

-- ---- an item between documents

-- between documents still, or the same
abbrev pub Outer : List PlainEvent → ParserState → Type 0
Outer es q = Outside q ⊎ Heads es q

abbrev FedOuter : FeedGiven → Type 0
FedOuter (Ok x) = Outer x.0 x.1
FedOuter (Err f) = Unit {0}

heads_outer : (r : FeedGiven) → FedHeads r → FedOuter r
heads_outer (Ok x) h = inr h
heads_outer (Err f) h = tt

kind_outer : (o : OptionsData) (kind : LexemeKind) (t : Token) (tail : Option CommentRead) (next : Option ℕ)
    (p : ParserState) → FedOuter (handed (when_fresh o kind t (outer p) >>= take_tail kind tail next))
kind_outer o lexemes.DocumentEnd t None next p = inl refl
kind_outer o lexemes.DocumentEnd t (Some c) next p = inl refl
kind_outer o lexemes.StreamEnd t None next p = inr (heads_start _ _ refl refl)
kind_outer o lexemes.StreamEnd t (Some c) next p = inr (heads_start _ _ refl refl)
kind_outer o (lexemes.Directive d) t tail next p =
    let r = with_directive o t d None (without_directives (outer p)) in
    heads_outer (handed (r >>= take_tail (lexemes.Directive d) tail next))
    (directed d tail next r (directive_among o t d None (without_directives (outer p))))
kind_outer o lexemes.DocumentStart t tail next p =
    let q : ParserState = record (outer p) { handles = [] } in
    heads_outer (handed (open_document t None q >>= take_tail lexemes.DocumentStart tail next))
    (opened t tail next None q)
kind_outer o kind t tail next p =
    let e = bare_start t.sort t in
    let r = begin_document o t (outer p) in
    heads_outer (handed (r >>= take_tail kind tail next))
    (start_heads e (r >>= take_tail kind tail next) (bare_start_tells t.sort t)
    (step_then e r (take_tail kind tail next) (document_starts o t p) (λ q s. tail_starts e kind tail next q s)))

item_outer : (o : OptionsData) (i : Item) (b : Bool) (next : Option ℕ) (p : ParserState)
    → FedOuter (handed (take_item o i b next (outer p)))
unfolding pieces turns close_turn
item_outer o (OfComment c) b next p = inl refl
item_outer o (OfLexeme l) b next p = kind_outer o l.kind (token_of b l) l.tail next p

feed_outer : (o : OptionsData) (i : FlaggedItem) (next : Option ℕ) (p : ParserState) → Outside p
    → FedOuter (feed o i next p)
unfolding feed
feed_outer o i next p out =
    subst (λ q. FedOuter (handed (take_item o i.item i.begins_key next q))) (sym out)
    (item_outer o i.item i.begins_key next p)

-- ---- a turn

-- where a state stands, of which no event waits, and what a turn from there may leave
pub data Place : Type 0 where
  Between Header : Place

abbrev pub Stands : Place → ParserState → Type 0
Stands Between p = Outside p
Stands Header p = Among p

abbrev pub Leaves : Place → List PlainEvent → ParserState → Type 0
Leaves Between es q = Outer es q
Leaves Header es q = Heads es q

abbrev pub TurnLeaves : Place → Turn → Type 0
TurnLeaves place (Ok x) = Leaves place x.1.pending x.1.parser
TurnLeaves place (Err f) = Unit {0}

module _ (o : OptionsData) where
  stays : (place : Place) (s : StepState) → s.pending ≡ [] → Stands place s.parser → Leaves place s.pending s.parser
  stays Between s none p = inl p
  stays Header s none p = heads_among p (inl none)

  read_leaves : (place : Place) (s : StepState) (r : LexTurn) → s.pending ≡ [] → Stands place s.parser
      → TurnLeaves place (r >>= λ x. Ok (Some [], with_read o s x))
  read_leaves place s (Ok x) none p = stays place s none p
  read_leaves place s (Err f) none p = tt

  unless_leaves : (place : Place) (s : StepState) (fault : Option Fault) → s.pending ≡ [] → Stands place s.parser
      → TurnLeaves place (read_unless o fault s)
  unless_leaves place s (Some f) none p = tt
  unless_leaves place s None none p = read_leaves place s (lex_turn o s.reading) none p

  more_leaves : (place : Place) (s : StepState) (ended : Bool) → s.pending ≡ [] → Stands place s.parser
      → TurnLeaves place (read_more o ended s)
  more_leaves place s true none p = stays place s none p
  more_leaves place s false none p = unless_leaves place s s.reading.fault none p

  between_fed : (s : StepState) (is : List FlaggedItem) (r : FeedGiven) → FedOuter r
      → TurnLeaves Between (r >>= λ x. Ok (Some [], with_fed s is x))
  between_fed s is (Ok x) h = h
  between_fed s is (Err f) h = tt

  header_fed : (s : StepState) (is : List FlaggedItem) (r : FeedGiven) → FedHeads r
      → TurnLeaves Header (r >>= λ x. Ok (Some [], with_fed s is x))
  header_fed s is (Ok x) h = h
  header_fed s is (Err f) h = tt

  front_leaves : (place : Place) (b : Bool) (s : StepState) (i : FlaggedItem) (is : List FlaggedItem)
      → s.pending ≡ [] → Stands place s.parser → TurnLeaves place (front_turn b o i is s)
  front_leaves Between true s i is none p =
      between_fed s is (feed o i (line_behind s.reading is) s.parser)
      (feed_outer o i (line_behind s.reading is) s.parser p)
  front_leaves Header true s i is none p =
      header_fed s is (feed o i (line_behind s.reading is) s.parser)
      (feed_heads o i (line_behind s.reading is) s.parser p)
  front_leaves place false s i is none p = more_leaves place s s.reading.ended none p

  by_leaves : (place : Place) (es : List PlainEvent) (q : List FlaggedItem) (s : StepState) → s.pending ≡ []
      → Stands place s.parser → TurnLeaves place (turn_by o es q s)
  by_leaves place (e ∷ es) q s none p = stays place s none p
  by_leaves place [] [] s none p = more_leaves place s s.reading.ended none p
  by_leaves place [] (i ∷ is) s none p = front_leaves place (may_go s.reading i is) s i is none p

  pub turn_leaves : (place : Place) (s : StepState) → s.pending ≡ [] → Stands place s.parser
      → TurnLeaves place (step_turn o s)
  unfolding step_turn
  turn_leaves place s none p = by_leaves place s.pending s.queue s none p
