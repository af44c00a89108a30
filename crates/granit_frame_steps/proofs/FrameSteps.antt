-- Every step inside a document: what the parser does and what the grammar's machine takes agree.
use Rattle.granit_views.specs.Fair.{FairAt, frame_ends_at}
use Rattle.granit_views.specs.Good.{at_root, at_entry, at_key, at_asked, at_value, at_item, at_curly, curly_key}
use Rattle.granit_views.specs.Good.{curly_asked, curly_value, made_key, made_value, pair_asked, pair_value, Good}
use Rattle.granit_views.specs.Good.{hole, behind_properties, past_entry, key_done, ask_done, pair_done, item_done}
use Rattle.granit_views.specs.Good.{curly_key_done, curly_ask_done, curly_solo, curly_done, made_key_done}
use Rattle.granit_views.specs.Good.{made_done, square_ask_done, square_done}
use Rattle.granit_views.specs.Stepping.{taken, StepView, LimitView}
use Rattle.granit_views.specs.Steps.{Steps}
use Rattle.granit_views.specs.View.{Beside}
use Rattle.granit_event_machine.specs.EventMachine.{OpenFrame, InFrames, EventStep, GoesTo, StopsWith, ended_by}
use Rattle.granit_event_machine.specs.Guarded.{blocks_open}
use Rattle.granit_language.specs.Terminal.{Terminal}
use Rattle.granit_lexemes.specs.Lexeme.{KeyStart}
use Rattle.granit_machine.specs.Frames.{ParserState}
use Rattle.granit_machine.specs.Parser.{take_token}
use Rattle.std.proofs.Common.{◌≡◌, Bool, true, false, List, Option, Result, Ok, Err}
use Rattle.std.proofs.lemmas.Bool.{or_from}
use Rattle.std.specs.Prelude.{nat_le}
use Rattle.granit_error.specs.OptionsData.{OptionsData}
use Rattle.granit_lexemes.specs.Outcome.{Fault}
use Rattle.granit_lexemes.specs.Lexeme as lexemes
use Rattle.granit_views.proofs.Arrivals.{Arrival, arriving, arriving_token, beside_at, parser_at, StepsM}
use Rattle.granit_views.proofs.Arrivals.{StepsLimited}
use Rattle.granit_frame_steps.proofs.BehindPlaces.{behind_properties_steps}
use Rattle.granit_node_steps.proofs.DoneCalms.{Calm, item_done_calm, curly_key_done_calm, curly_done_calm}
use Rattle.granit_node_steps.proofs.DoneCalms.{curly_solo_calm, curly_ask_done_calm, made_key_done_calm, made_done_calm}
use Rattle.granit_node_steps.proofs.DoneCalms.{square_ask_done_calm, block_key_calm}
use Rattle.granit_views.proofs.DoneSteps as done
use Rattle.granit_node_steps.proofs.FlowFlats.{item_flat, curly_flat, curly_asked_flat, curly_value_flat}
use Rattle.granit_node_steps.proofs.FlowFlats.{made_value_flat, pair_asked_flat, pair_value_flat}
use Rattle.granit_node_steps.proofs.FlowNodes as flow
use Rattle.granit_frame_steps.proofs.MappingPlaces.{mapping_steps, asking, asked, valued, paired}
use Rattle.granit_views.proofs.MoreSteps.{made_done_steps, square_asked_steps}
use Rattle.granit_frame_steps.proofs.SequencePlaces.{root_steps, entry_steps, past_steps}
use Rattle.granit_views.proofs.Views.{Flat, means_limited}

calm_limited :
    (o : OptionsData) (x : Terminal) (d : Beside) (r : Result ParserState Fault) (y : EventStep) → StepView o x d r y →
    Calm o x y → LimitView o x d r y
calm_limited o x d (Ok p) (GoesTo st es) h c = (h, c)
calm_limited o x d (Err f) (GoesTo st es) h c = absurd h
calm_limited o x d (Ok p) (StopsWith k) h c = h
calm_limited o x d (Err f) (StopsWith k) h c = h

flat_step :
    (b : Bool) (k : lexemes.LexemeKind) (key : Option KeyStart) (a : Arrival) (fs : List OpenFrame) →
    StepsM b k key a fs →
    Flat a.options.block_nesting_limit (taken (ended_by (arriving b k key a) (InFrames fs)) (arriving b k key a)) →
    StepsLimited b k key a fs
flat_step b k key a fs h c =
    means_limited a.options (arriving b k key a) (beside_at a)
    (take_token a.options (arriving_token b k key a) (parser_at fs a))
    (taken (ended_by (arriving b k key a) (InFrames fs)) (arriving b k key a)) h c

calm_step :
    (b : Bool) (k : lexemes.LexemeKind) (key : Option KeyStart) (a : Arrival) (fs : List OpenFrame) →
    Steps b k key a.scope a.lexeme a.options (beside_at a) fs →
    Calm a.options (arriving b k key a) (taken (ended_by (arriving b k key a) (InFrames fs)) (arriving b k key a)) →
    StepsLimited b k key a fs
calm_step b k key a fs h c =
    calm_limited a.options (arriving b k key a) (beside_at a)
    (take_token a.options (arriving_token b k key a) (parser_at fs a))
    (taken (ended_by (arriving b k key a) (InFrames fs)) (arriving b k key a)) h c

-- where nothing more ends before the lexeme
pub frame_steps :
    (b : Bool) (k : lexemes.LexemeKind) (key : Option KeyStart) (a : Arrival) (fs : List OpenFrame) →
    Good (InFrames fs) →
    FairAt (arriving b k key a) (InFrames fs) → frame_ends_at (arriving b k key a) (InFrames fs) ≡ false →
    nat_le (blocks_open fs) a.options.block_nesting_limit ≡ true → StepsLimited b k key a fs
frame_steps b k key a fs (hole (at_root {m = m})) f n e = root_steps b k key a m n e
frame_steps b k key a fs (hole (at_entry {loose = loose} {c = c} {w = w} {fs = gs} p h)) f n e =
    entry_steps b k key a loose c w gs p h n e
frame_steps b k key a fs (hole (at_key p h)) f n e = absurd f
frame_steps b k key a fs (hole (at_asked {c = c} {fs = gs} p h)) f n e =
    mapping_steps b k key a c _ gs asking p h n e
frame_steps b k key a fs (hole (at_value {c = c} {w = w} {fs = gs} p h)) f n e =
    mapping_steps b k key a c _ gs valued p h n e
frame_steps b k key a fs (hole (at_item {fs = gs} h)) f n e =
    flat_step b k key a fs (flow.item_steps b k key a gs h)
    (item_flat b k key a.scope a.lexeme a.options gs h e)
frame_steps b k key a fs (hole (at_curly {fs = gs} h)) f n e =
    flat_step b k key a fs (flow.curly_steps b k key a gs h)
    (curly_flat b k key a.scope a.lexeme a.options gs h e)
frame_steps b k key a fs (hole (curly_key h)) f n e = absurd f
frame_steps b k key a fs (hole (curly_asked {fs = gs} h)) f n e =
    flat_step b k key a fs (flow.curly_asked_steps b k key a gs h)
    (curly_asked_flat b k key a.scope a.lexeme a.options gs h e)
frame_steps b k key a fs (hole (curly_value {w = w} {fs = gs} h)) f n e =
    flat_step b k key a fs (flow.curly_value_steps w b k key a gs h)
    (curly_value_flat b k key a.scope a.lexeme a.options w gs h e)
frame_steps b k key a fs (hole (made_key h)) f n e = absurd f
frame_steps b k key a fs (hole (made_value {w = w} {fs = gs} h)) f n e =
    flat_step b k key a fs (flow.made_value_steps w b k key a gs h (or_from _ _ n f))
    (made_value_flat b k key a.scope a.lexeme a.options w gs h e (or_from _ _ n f))
frame_steps b k key a fs (hole (pair_asked {fs = gs} h)) f n e =
    flat_step b k key a fs (flow.pair_asked_steps b k key a gs h n)
    (pair_asked_flat b k key a.scope a.lexeme a.options gs h e n)
frame_steps b k key a fs (hole (pair_value {w = w} {fs = gs} h)) f n e =
    flat_step b k key a fs (flow.pair_value_steps w b k key a gs h n)
    (pair_value_flat b k key a.scope a.lexeme a.options w gs h e n)
frame_steps b k key a fs (behind_properties {p = p} {fs = gs} g h) f n e =
    behind_properties_steps b k key a p gs g h f n e
frame_steps b k key a fs (past_entry {loose = loose} {c = c} {fs = gs} p h) f n e =
    past_steps b k key a loose c gs p n e
frame_steps b k key a fs (key_done {c = c} {fs = gs} p h) f n e =
    calm_step b k key a fs (done.key_done_steps c b k key a.scope a.lexeme a.options (beside_at a) gs h)
    (block_key_calm b k key a.scope a.lexeme a.options c gs h e)
frame_steps b k key a fs (ask_done {c = c} {fs = gs} p h) f n e =
    mapping_steps b k key a c _ gs asked p h n e
frame_steps b k key a fs (pair_done {c = c} {fs = gs} p h) f n e =
    mapping_steps b k key a c _ gs paired p h n e
frame_steps b k key a fs (item_done {fs = gs} h) f n e =
    calm_step b k key a fs (done.item_done_steps b k key a.scope a.lexeme a.options (beside_at a) gs h)
    (item_done_calm b k key a.scope a.lexeme a.options gs h e)
frame_steps b k key a fs (curly_key_done {fs = gs} h) f n e =
    calm_step b k key a fs (done.curly_key_steps b k key a.scope a.lexeme a.options (beside_at a) gs h)
    (curly_key_done_calm b k key a.scope a.lexeme a.options gs h e)
frame_steps b k key a fs (curly_ask_done {fs = gs} h) f n e =
    calm_step b k key a fs (done.curly_asked_steps b k key a.scope a.lexeme a.options (beside_at a) gs h)
    (curly_ask_done_calm b k key a.scope a.lexeme a.options gs h e)
frame_steps b k key a fs (curly_solo {fs = gs} h) f n e =
    calm_step b k key a fs (done.curly_solo_steps b k key a.scope a.lexeme a.options (beside_at a) gs h)
    (curly_solo_calm b k key a.scope a.lexeme a.options gs h e)
frame_steps b k key a fs (curly_done {fs = gs} h) f n e =
    calm_step b k key a fs (done.curly_done_steps b k key a.scope a.lexeme a.options (beside_at a) gs h)
    (curly_done_calm b k key a.scope a.lexeme a.options gs h e)
frame_steps b k key a fs (made_key_done {fs = gs} h) f n e =
    calm_step b k key a fs (done.made_key_steps b k key a.scope a.lexeme a.options (beside_at a) gs h)
    (made_key_done_calm b k key a.scope a.lexeme a.options gs h e)
frame_steps b k key a fs (made_done {fs = gs} h) f n e =
    calm_step b k key a fs
    (made_done_steps b k key a.scope a.lexeme a.options (beside_at a) gs h (or_from _ _ n f))
    (made_done_calm b k key a.scope a.lexeme a.options gs h e (or_from _ _ n f))
frame_steps b k key a fs (square_ask_done {fs = gs} h) f n e =
    calm_step b k key a fs (square_asked_steps b k key a.scope a.lexeme a.options (beside_at a) gs h n)
    (square_ask_done_calm b k key a.scope a.lexeme a.options gs h e n)
frame_steps b k key a fs (square_done h) f n e = cc (n)
