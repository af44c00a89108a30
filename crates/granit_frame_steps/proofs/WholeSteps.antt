-- A whole step: what a lexeme ends, and how it is taken.
use Rattle.granit_views.specs.Closed.{Below, with_all}
use Rattle.granit_views.specs.Fair.{FairAt, Fair, frame_ends_at}
use Rattle.granit_views.specs.Good.{Good}
use Rattle.granit_views.specs.Running.{Knows, NextView}
use Rattle.granit_views.specs.Stepping.{taken, at_kind}
use Rattle.granit_views.specs.View.{Beside, state_of, give_all, with_given}
use Rattle.granit_event_machine.specs.EventMachine.{OpenFrame, EventState, IsFresh, HasDirectives, IsRooted, InFrames}
use Rattle.granit_event_machine.specs.EventMachine.{IsEnded, Ending, ending, with_event, ended_by, EventStep, GoesTo}
use Rattle.granit_event_machine.specs.EventMachine.{StopsWith, after_events, take_frames}
use Rattle.granit_event_machine.specs.Guarded.{blocks_open, state_count}
use Rattle.granit_language.specs.Scope.{Scope}
use Rattle.granit_language.specs.Terminal.{Terminal}
use Rattle.granit_language.specs.TreeEvents.{TreeEvent}
use Rattle.granit_lexemes.specs.Lexeme.{KeyStart}
use Rattle.granit_machine.specs.Closing.{close}
use Rattle.granit_machine.specs.Frames.{ParserState}
use Rattle.granit_machine.specs.Parser.{take_token}
use Rattle.granit_machine.specs.TokenSort.{token_of}
use Rattle.std.proofs.Common.{◌≡◌, ℕ, Bool, true, false, List, [], ◌∷◌, refl, sym, ap, ◌∙◌, subst, Option, Result, Ok}
use Rattle.std.proofs.Common.{Err}
use Rattle.std.specs.Prelude.{nat_le}
use Rattle.granit_base.specs.Place.{Mark}
use Rattle.granit_error.specs.OptionsData.{OptionsData}
use Rattle.granit_lexemes.specs.Outcome.{Fault, ◌>>=◌}
use Rattle.granit_lexemes.specs.PlainEvent.{PlainEvent}
use Rattle.granit_lexemes.specs.Lexeme as lexemes
use Rattle.granit_views.proofs.Closes.{close_agrees, give_append, no_more_through}
use Rattle.granit_frame_steps.proofs.FrameNexts.{frame_next}
use Rattle.granit_frame_steps.proofs.StageSteps.{fresh_next, directed_next, rooted_next}
use Rattle.granit_views.proofs.Views.{after_nothing, met_as}

-- ---- what closing leaves

knows_closed :
    (o : OptionsData) (st cs : EventState) (s : Scope) (d : Beside) (last : Mark) (given : List PlainEvent)
    → Below st cs → Knows o st s d →
    Knows o cs s (with_given last given d)
knows_closed o (InFrames fs) (InFrames gs) s d last given b k = (ap (with_given last given) k.0, k.1, k.2)
knows_closed o (InFrames fs) (IsRooted e) s d last given b k = (ap (with_given last given) k.0, k.1, k.2)
knows_closed o (InFrames fs) IsFresh s d last given b k = absurd b
knows_closed o (InFrames fs) (HasDirectives v) s d last given b k = absurd b
knows_closed o (InFrames fs) IsEnded s d last given b k = absurd b
knows_closed o IsFresh cs s d last given b k = subst (λ c. Knows o c s (with_given last given d)) (sym b) k
knows_closed o (HasDirectives v) cs s d last given b k = subst (λ c. Knows o c s (with_given last given d)) (sym b) k
knows_closed o (IsRooted e) cs s d last given b k =
    subst (λ c. Knows o c s (with_given last given d)) (sym b) (ap (with_given last given) k.0, k.1, k.2)
knows_closed o IsEnded cs s d last given b k = subst (λ c. Knows o c s (with_given last given d)) (sym b) tt

-- the limit is kept
kept_closed :
    (n : ℕ) (st : EventState) (gs : List OpenFrame) → Below st (InFrames gs) → nat_le (state_count st) n ≡ true →
    nat_le (blocks_open gs) n ≡ true
kept_closed n (InFrames fs) gs b e = no_more_through (blocks_open gs) (blocks_open fs) n b e
kept_closed n IsFresh gs b e = cc (b)
kept_closed n (HasDirectives v) gs b e = cc (b)
kept_closed n (IsRooted m) gs b e = cc (b)
kept_closed n IsEnded gs b e = cc (b)

-- ---- taking

inner_next :
    (b : Bool) (k : lexemes.LexemeKind) (key : Option KeyStart) (s : Scope) (l : lexemes.Lexeme) (o : OptionsData)
    (st cs : EventState) (d : Beside) → Below st cs → nat_le (state_count st) o.block_nesting_limit ≡ true →
    Good cs → FairAt (met_as b k key s l) cs → frame_ends_at (met_as b k key s l) cs ≡ false → Knows o cs s d →
    NextView o (met_as b k key s l) s d.given (take_token o (token_of b (at_kind l k key)) (state_of o cs d))
    (taken (ended_by (met_as b k key s l) cs) (met_as b k key s l))
inner_next b k key s l o st (InFrames gs) d w e g f n q =
    subst
    (λ c.
    NextView o (met_as b k key s l) s d.given (take_token o (token_of b (at_kind l k key)) (state_of o (InFrames gs) c))
    (taken (ended_by (met_as b k key s l) (InFrames gs)) (met_as b k key s l)))
    (sym q.0)
    (frame_next b k key (record { scope = s; lexeme = l; options = o; last = d.last; given = d.given }) gs g f n
    (kept_closed o.block_nesting_limit st gs w e) q.1 q.2)
inner_next b k key s l o st IsFresh d w e g f n q = fresh_next b k key s l o d q
inner_next b k key s l o st (HasDirectives v) d w e g f n q = directed_next b k key s l o v d q
inner_next b k key s l o st (IsRooted m) d w e g f n q = rooted_next b k key s l o m d q
inner_next b k key s l o st IsEnded d w e g f n q = absurd f

-- events of closing come first
next_before :
    (o : OptionsData) (x : Terminal) (s : Scope) (given : List PlainEvent) (es : List TreeEvent)
    (r : Result ParserState Fault) (y : EventStep) → NextView o x s (give_all o es given) r y →
    NextView o x s given r (after_events es y)
next_before o x s given es (Ok p) (GoesTo st more) h = record {
  beside = h.beside;
  is_seen = h.is_seen;
  gives = h.gives ∙ sym (give_append o es more given);
  knows = h.knows;
  passes = h.passes;
  comes = h.comes;
}
next_before o x s given es (Err f) (GoesTo st more) h = h
next_before o x s given es (Ok p) (StopsWith k) h = h
next_before o x s given es (Err f) (StopsWith k) h = h

after_more :
    (e : TreeEvent) (es : List TreeEvent) (y : EventStep) →
    after_events (e ∷ []) (after_events es y) ≡ after_events (e ∷ es) y
after_more e es (GoesTo st more) = refl
after_more e es (StopsWith k) = refl

taken_with : (x : Terminal) (e : TreeEvent) (y : Ending) → taken (with_event e y) x ≡ after_events (e ∷ []) (taken y x)
taken_with x e (ending st es) = sym (after_more e es (take_frames st x.kind x.at))

taken_all : (x : Terminal) (es : List TreeEvent) (y : Ending) → taken (with_all es y) x ≡ after_events es (taken y x)
taken_all x [] y = sym (after_nothing (taken y x))
taken_all x (e ∷ es) y =
    taken_with x e (with_all es y)
    ∙ (ap (after_events (e ∷ [])) (taken_all x es y) ∙ after_more e es (taken y x))

-- a lexeme ends what it ends, and is taken
pub step_next :
    (b : Bool) (k : lexemes.LexemeKind) (key : Option KeyStart) (s : Scope) (l : lexemes.Lexeme) (o : OptionsData)
    (st : EventState) (d : Beside) → Good st → Fair (met_as b k key s l) st → Knows o st s d →
    nat_le (state_count st) o.block_nesting_limit ≡ true →
    NextView o (met_as b k key s l) s d.given
    (close o (token_of b (at_kind l k key)) (state_of o st d) >>= take_token o (token_of b (at_kind l k key)))
    (taken (ended_by (met_as b k key s l) st) (met_as b k key s l))
step_next b k key s l o st d g f q e =
    let c = close_agrees b s (at_kind l k key) o st d g f in
    let v = c.viewed in
    subst
    (λ r.
    NextView o (met_as b k key s l) s d.given (r >>= take_token o (token_of b (at_kind l k key)))
    (taken (ended_by (met_as b k key s l) st) (met_as b k key s l)))
    (sym (c.closes_to ∙ ap (λ p. Ok p) v.view))
    (subst
    (NextView o (met_as b k key s l) s d.given
    (take_token o (token_of b (at_kind l k key))
    (state_of o v.closed_state (with_given v.last (give_all o v.gives d.given) d))))
    (sym
    (ap (λ y. taken y (met_as b k key s l)) v.closes_is
    ∙ taken_all (met_as b k key s l) v.gives (ended_by (met_as b k key s l) v.closed_state)))
    (next_before o (met_as b k key s l) s d.given v.gives
    (take_token o (token_of b (at_kind l k key))
    (state_of o v.closed_state (with_given v.last (give_all o v.gives d.given) d)))
    (taken (ended_by (met_as b k key s l) v.closed_state) (met_as b k key s l))
    (inner_next b k key s l o st v.closed_state (with_given v.last (give_all o v.gives d.given) d) v.below e v.is_good
    v.is_fair v.stays
    (knows_closed o st v.closed_state s d v.last (give_all o v.gives d.given) v.below q))))
