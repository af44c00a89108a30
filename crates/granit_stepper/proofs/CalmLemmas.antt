-- Outside all nodes nothing waits for one, wherever turns and restarts lead.
use Rattle.std.proofs.Common.{◌≡◌, ℕ, ◌==◌, ◌-◌, ◌++◌, Bool, true, false, List, [], ◌∷◌, Option, Some, None, Result, Ok}
use Rattle.std.proofs.Common.{Err, refl, sym, subst}
use Rattle.std.specs.Prelude.{if◌then◌else◌}
use Rattle.granit_error.specs.OptionsData.{OptionsData}
use Rattle.granit_frames.specs.Outside.{NoneWaitsOutside}
use Rattle.granit_feeding.proofs.RoomSteps.{Calm, CalmBy, FreshBy, Leaves, MayWait}
use Rattle.granit_feeding.proofs.RoomStream.{token_leaves}
use Rattle.granit_lexemes.specs.Basics.{fails_at}
use Rattle.granit_lexemes.specs.Comment.{CommentRead}
use Rattle.granit_error.specs.FaultKind.{TooManyComments}
use Rattle.granit_lexemes.specs.Lexeme as lexemes
use Rattle.granit_lexemes.specs.Lexeme.{Item, LexemeKind, OfComment, OfLexeme}
use Rattle.granit_lexemes.specs.Outcome.{Fault, ◌>>=◌}
use Rattle.granit_lexemes.specs.PlainEvent.{Comment, PlainEvent, event_at}
use Rattle.granit_machine.specs.Closing.{close}
use Rattle.granit_machine.specs.Frames.{Frame, ParserState, Waiting}
use Rattle.granit_machine.specs.Lexing.{FlaggedItem}
use Rattle.granit_machine.specs.NodeSteps.{Stepped}
use Rattle.granit_machine.specs.Parser.{feed, hold, placed, take_comment, take_item, take_tail, take_token}
use Rattle.granit_machine.specs.Reader.{lex_turn}
use Rattle.granit_machine.specs.TokenSort.{token_of}
use Rattle.granit_restart.specs.Turned.{Turned, turned_anew, turned_counting, turned_keeping, turned_on}
use Rattle.granit_restart.specs.Turned.{turned_start, turned_with}
use Rattle.granit_stepper.proofs.RefusalLemmas.{restart_drops}
use Rattle.granit_stepper.specs.Numbers.{TurnsTo, no_turn, one_turn}
use Rattle.granit_steps.specs.Steps.{StepState, Turn, front_turn, line_behind, may_go, read_more, read_unless}
use Rattle.granit_steps.specs.Steps.{step_turn}
use Rattle.granit_steps.specs.Steps.{turn_by, with_fed, with_read}

-- ---- an item

abbrev StaysCalm : Stepped → Type 0
StaysCalm (Ok q) = Calm q
StaysCalm (Err f) = Unit {0}

calm_if : (b : Bool) (r s : Stepped) → StaysCalm r → StaysCalm s → StaysCalm (if b then r else s)
calm_if true r s x y = x
calm_if false r s x y = y

hold_calm : (c : CommentRead) (e : PlainEvent) (w : Option Waiting) (p : ParserState) → p.waiting ≡ w → Calm p
    → StaysCalm (hold c e w p)
hold_calm c e None p is calm = calm
hold_calm c e (Some w) p is calm =
    let may : MayWait p.frames = subst (CalmBy p.frames) is calm in
    calm_if (w.room == 0) (fails_at TooManyComments c.source.start)
    (Ok (record p { waiting = Some (record w { room = w.room - 1; held = w.held ++ e ∷ [] }) })) tt may

comment_calm : (c : CommentRead) (next : Option ℕ) (p : ParserState) → Calm p → StaysCalm (take_comment c next p)
comment_calm c next p calm =
    hold_calm c (event_at (Comment c.text (placed c next)) c.source) p.waiting p refl calm

tail_calm : (kind : LexemeKind) (tail : Option CommentRead) (next : Option ℕ) (p : ParserState) → Calm p
    → StaysCalm (take_tail kind tail next p)
tail_calm lexemes.Dash tail next p calm = calm
tail_calm kind None next p calm = calm
tail_calm kind (Some c) next p calm = comment_calm c next p calm

fresh_calm : (room : Result ℕ Fault) (fs : List Frame) (w : Option Waiting) → FreshBy room fs w → CalmBy fs w
fresh_calm room fs None x = tt
fresh_calm room fs (Some w) x = x.0

behind_calm : (room : Result ℕ Fault) (kind : LexemeKind) (tail : Option CommentRead) (next : Option ℕ) (r : Stepped)
    → Leaves room r → StaysCalm (r >>= take_tail kind tail next)
behind_calm room kind tail next (Ok q) leaves =
    tail_calm kind tail next q (fresh_calm room q.frames q.waiting leaves.says)
behind_calm room kind tail next (Err f) leaves = tt

item_calm : (o : OptionsData) (i : Item) (b : Bool) (next : Option ℕ) (p : ParserState) → Calm p
    → StaysCalm (take_item o i b next p)
item_calm o (OfComment c) b next p calm = comment_calm c next p calm
item_calm o (OfLexeme l) b next p calm =
    behind_calm _ l.kind l.tail next (close o (token_of b l) p >>= take_token o (token_of b l))
    (token_leaves o b l p calm)

-- ---- a turn

abbrev TurnCalm : Turn → Type 0
TurnCalm (Ok x) = Calm x.1.parser
TurnCalm (Err f) = Unit {0}

fed_calm : (s : StepState) (is : List FlaggedItem) (r : Stepped) → StaysCalm r
    → TurnCalm ((r >>= λ q. Ok (q.given, record q { given = [] })) >>= λ x. Ok (Some [], with_fed s is x))
fed_calm s is (Ok q) calm = calm
fed_calm s is (Err f) calm = tt

feed_calm : (o : OptionsData) (i : FlaggedItem) (is : List FlaggedItem) (next : Option ℕ) (s : StepState)
    → Calm s.parser → TurnCalm (feed o i next s.parser >>= λ x. Ok (Some [], with_fed s is x))
unfolding feed
feed_calm o i is next s calm =
    fed_calm s is (take_item o i.item i.begins_key next s.parser)
    (item_calm o i.item i.begins_key next s.parser calm)

module _ (o : OptionsData) (s : StepState) (calm : Calm s.parser) where
  lexed_calm : {X : Type 0} (r : Result X Fault) (after : X → StepState)
      → ((x : X) → Calm (after x).parser) → TurnCalm (r >>= λ x. Ok (Some [], after x))
  lexed_calm (Ok x) after stays = stays x
  lexed_calm (Err f) after stays = tt

  unless_calm : (f : Option Fault) → TurnCalm (read_unless o f s)
  unless_calm None = lexed_calm (lex_turn o s.reading) (with_read o s) (λ x. calm)
  unless_calm (Some f) = tt

  read_calm : (b : Bool) → TurnCalm (read_more o b s)
  read_calm true = calm
  read_calm false = unless_calm s.reading.fault

  front_calm : (b : Bool) (i : FlaggedItem) (is : List FlaggedItem) → TurnCalm (front_turn b o i is s)
  front_calm true i is = feed_calm o i is (line_behind s.reading is) s calm
  front_calm false i is = read_calm s.reading.ended

  turn_by_calm : (es : List PlainEvent) (q : List FlaggedItem) → TurnCalm (turn_by o es q s)
  turn_by_calm (e ∷ es) q = calm
  turn_by_calm [] [] = read_calm s.reading.ended
  turn_by_calm [] (i ∷ is) = front_calm (may_go s.reading i is) i is

  turn_calm : TurnCalm (step_turn o s)
  unfolding step_turn
  turn_calm = turn_by_calm s.pending s.queue

-- ---- wherever turns and restarts lead

turned_calm : (o : OptionsData) (s : StepState) → Turned o s → Calm s.parser
turned_calm o s (turned_start h) = tt
turned_calm o s (turned_on {s = before} turned is) =
    subst TurnCalm is (turn_calm o before (turned_calm o before turned))
turned_calm o s (turned_with {s = before} es turned) = turned_calm o before turned
turned_calm o s (turned_anew {s = before} h turned) =
    subst Calm (sym (restart_drops h before).0) tt
turned_calm o s (turned_counting {s = before} count turned) = turned_calm o before turned
turned_calm o s (turned_keeping keep turned) = turned_calm (record o { keep_tags = keep }) s turned

none_by : (fs : List Frame) (w : Option Waiting) → fs ≡ [] → CalmBy fs w → w ≡ None
none_by fs None is calm = refl
none_by fs (Some w) is calm = absurd (subst MayWait is calm)

pub nothing_waits_outside : (o : OptionsData) (s : StepState) → Turned o s → NoneWaitsOutside s.parser
nothing_waits_outside o s turned = λ is. none_by s.parser.frames s.parser.waiting is (turned_calm o s turned)

pub turns_turned : {o : OptionsData} {m n : StepState} → Turned o m → TurnsTo o m n → Turned o n
turns_turned turned no_turn = turned
turns_turned turned (one_turn is rest) = turns_turned (turned_on turned is) rest
