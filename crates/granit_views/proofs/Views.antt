-- How views of steps are carried: an event before, and the limit of block collections.
use Rattle.granit_views.specs.Stepping.{MeansView, LimitView, knowing, known_behind, moved_on, at_kind}
use Rattle.granit_views.specs.View.{Beside, state_of, give_all}
use Rattle.granit_event_machine.specs.EventMachine.{EventState, EventStep, GoesTo, StopsWith, after_events}
use Rattle.granit_event_machine.specs.Guarded.{limit_fault, fault_unless, first_fault, state_count, is_loose}
use Rattle.granit_language.specs.GrammarFault.{TooManyBlocks}
use Rattle.granit_language.specs.Scope.{Scope}
use Rattle.granit_language.specs.Scoping.{scope_fault}
use Rattle.granit_language.specs.Seen.{terminal_of}
use Rattle.granit_language.specs.Telling.{event_told}
use Rattle.granit_language.specs.Terminal.{Anchor, Tag, Alias, Property, Scalar, Open, TerminalKind, Part, Terminal}
use Rattle.granit_language.specs.TreeEvents.{TreeEvent}
use Rattle.granit_machine.specs.Frames.{ParserState}
use Rattle.std.proofs.Common.{◌≡◌, ℕ, true, List, [], ◌∷◌, ◌++◌, refl, sym, ap, ◌∙◌, None, Result, Ok, Err, Bool}
use Rattle.std.proofs.Common.{Option}
use Rattle.std.specs.Prelude.{nat_le}
use Rattle.granit_base.specs.Place.{Mark}
use Rattle.granit_error.specs.OptionsData.{OptionsData}
use Rattle.granit_lexemes.specs.Lexeme.{LexemeKind, Lexeme}
use Rattle.granit_lexemes.specs.Lexeme.{KeyStart}
use Rattle.granit_lexemes.specs.Outcome.{Fault}
use Rattle.granit_views.proofs.Closes.{give_append}
use Rattle.granit_lexemes.specs.PlainEvent.{PlainEvent}

-- the last event's end and what was given before a step don't matter to what is known behind it
pub moved_same :
    (o : OptionsData) (k : TerminalKind) (s : Scope) (a b m : Mark) (g h more : List PlainEvent) →
    record (known_behind k (knowing o s a g)) { last = m; given = more }
    ≡ record (known_behind k (knowing o s b h)) { last = m; given = more }
moved_same o (Part (Property (Anchor name))) s a b m g h more = refl
moved_same o (Part (Property (Tag handle suffix))) s a b m g h more = refl
moved_same o (Part (Alias name)) s a b m g h more = refl
moved_same o (Part (Scalar style text)) s a b m g h more = refl
moved_same o (Part (Open bracket)) s a b m g h more = refl
moved_same o k s a b m g h more = refl

pub after_nothing : (y : EventStep) → after_events [] y ≡ y
after_nothing (GoesTo st es) = refl
after_nothing (StopsWith k) = refl

-- a step keeps the limit
abbrev pub Flat : ℕ → EventStep → Type 0
Flat n (GoesTo st es) = limit_fault n st ≡ None
Flat n (StopsWith k) = Unit {0}

pub count_flat : (n d : ℕ) (st : EventState) → state_count st ≡ d → nat_le d n ≡ true → limit_fault n st ≡ None
count_flat n d st c e = ap (λ b. fault_unless b (TooManyBlocks (is_loose st))) (ap (λ d. nat_le d n) c ∙ e)

-- what means something and keeps the limit passes
pub means_limited :
    (o : OptionsData) (x : Terminal) (d : Beside) (r : Result ParserState Fault) (y : EventStep) → MeansView o x d r y →
    Flat o.block_nesting_limit y → LimitView o x d r y
means_limited o x d (Ok p) (GoesTo st es) h e =
    (h.0, ap (λ f. first_fault f (scope_fault o x.kind x.at.scope)) e ∙ h.1)
means_limited o x d (Err f) (GoesTo st es) h e =
    (h.0, ap (λ f. first_fault f (scope_fault o x.kind x.at.scope)) e ∙ h.1, h.2)
means_limited o x d (Ok p) (StopsWith k) h e = h
means_limited o x d (Err f) (StopsWith k) h e = h

-- an event was given before
pub event_before :
    (o : OptionsData) (x : Terminal) (s : Scope) (a last : Mark) (given : List PlainEvent) (e : TreeEvent)
    (r : Result ParserState Fault) (y : EventStep) →
    LimitView o x (knowing o s a (given ++ event_told o e)) r y →
    LimitView o x (knowing o s last given) r (after_events (e ∷ []) y)
event_before o x s a last given e (Ok p) (GoesTo st es) h = (
  (
    h.0.0,
    h.0.1 ∙ ap (state_of o st) (moved_same o x.kind s a last h.0.0 (given ++ event_told o e) given
        (give_all o es (given ++ event_told o e))),
  ),
  h.1,
)
event_before o x s a last given e (Err f) (GoesTo st es) h = h
event_before o x s a last given e (Ok p) (StopsWith k) h = h
event_before o x s a last given e (Err f) (StopsWith k) h = h

-- events were given before
pub events_before :
    (o : OptionsData) (x : Terminal) (s : Scope) (a last : Mark) (given : List PlainEvent) (es : List TreeEvent)
    (r : Result ParserState Fault) (y : EventStep) → LimitView o x (knowing o s a (give_all o es given)) r y →
    LimitView o x (knowing o s last given) r (after_events es y)
events_before o x s a last given es (Ok p) (GoesTo st more) h = (
  (
    h.0.0,
    h.0.1
        ∙ ap (λ g. state_of o st (moved_on o x h.0.0 g (knowing o s a (give_all o es given))))
        (sym (give_append o es more given))
        ∙ ap (state_of o st)
        (moved_same o x.kind s a last h.0.0 (give_all o es given) given (give_all o (es ++ more) given)),
  ),
  h.1,
)
events_before o x s a last given es (Err f) (GoesTo st more) h = h
events_before o x s a last given es (Ok p) (StopsWith k) h = h
events_before o x s a last given es (Err f) (StopsWith k) h = h

abbrev pub met_as : Bool → LexemeKind → Option KeyStart → Scope → Lexeme → Terminal
met_as b k key s l = terminal_of b s (at_kind l k key)
