-- The line of the next token places comments and does nothing else.
use Rattle.std.proofs.Common.{◌≡◌, ℕ, Bool, true, false, List, [], ◌∷◌, ◌++◌, map, Option, Some, None, Ok, Err}
use Rattle.std.proofs.Common.{◌==◌, refl, sym, ap, ◌∙◌}
use Rattle.std.proofs.lemmas.List.{map-append}
use Rattle.std.specs.Prelude.{if◌then◌else◌, ◌-◌}
use Rattle.granit_error.specs.FaultKind.{TooManyComments}
use Rattle.granit_error.specs.OptionsData.{OptionsData}
use Rattle.granit_lexemes.specs.Basics.{fails_at}
use Rattle.granit_lexemes.specs.Comment.{CommentRead}
use Rattle.granit_lexemes.specs.Lexeme.{LexemeKind, Dash, Item, OfLexeme, OfComment}
use Rattle.granit_lexemes.specs.Outcome.{Fault, ◌>>=◌}
use Rattle.granit_lexemes.specs.PlainEvent.{PlainEvent, event_at, Comment}
use Rattle.granit_machine.proofs.ClosingLemmas.{FeedGiven}
use Rattle.granit_machine.specs.Closing.{close}
use Rattle.granit_machine.specs.Frames.{Waiting, ParserState}
use Rattle.granit_machine.specs.Lexing.{FlaggedItem}
use Rattle.granit_machine.specs.NodeSteps.{Stepped}
use Rattle.granit_machine.specs.Parser.{placed, hold, take_comment, take_tail, take_token, take_item, feed}
use Rattle.granit_machine.specs.TokenSort.{token_of}
use Rattle.granit_shapes.specs.Placeless.{unplaced_event, unplaced_events, unplaced, unplaced_step, unplaced_after}

appended : (es : List PlainEvent) (d e : PlainEvent) → unplaced_event d ≡ unplaced_event e
    → unplaced_events (es ++ d ∷ []) ≡ unplaced_events (es ++ e ∷ [])
appended es d e p =
    map-append unplaced_event es (d ∷ []) ∙ (ap (λ x. map unplaced_event es ++ x ∷ []) p
    ∙ sym (map-append unplaced_event es (e ∷ [])))

step_if : (b : Bool) (f : Stepped) (q r : ParserState) → unplaced q ≡ unplaced r
    → unplaced_step (if b then f else Ok q) ≡ unplaced_step (if b then f else Ok r)
step_if true f q r p = refl
step_if false f q r p = ap Ok p

held : (c : CommentRead) (d e : PlainEvent) (w : Option Waiting) (p : ParserState)
    → unplaced_event d ≡ unplaced_event e → unplaced_step (hold c d w p) ≡ unplaced_step (hold c e w p)
held c d e None p q = ap (λ es. Ok (record (unplaced p) { given = es })) (appended p.given d e q)
held c d e (Some w) p q =
    step_if (w.room == 0) (fails_at TooManyComments c.source.start)
    (record p { waiting = Some (record w { room = w.room - 1; held = w.held ++ d ∷ [] }) })
    (record p { waiting = Some (record w { room = w.room - 1; held = w.held ++ e ∷ [] }) })
    (ap (λ es. record (unplaced p) { waiting = Some (record { at = w.at; room = w.room - 1; held = es }) })
    (appended w.held d e q))

commented : (c : CommentRead) (next other : Option ℕ) (p : ParserState)
    → unplaced_step (take_comment c next p) ≡ unplaced_step (take_comment c other p)
commented c next other p =
    held c (event_at (Comment c.text (placed c next)) c.source) (event_at (Comment c.text (placed c other)) c.source)
    p.waiting p refl

tailed : (kind : LexemeKind) (tail : Option CommentRead) (next other : Option ℕ) (p : ParserState)
    → unplaced_step (take_tail kind tail next p) ≡ unplaced_step (take_tail kind tail other p)
tailed Dash tail next other p = refl
tailed kind None next other p = refl
tailed kind (Some c) next other p = commented c next other p

behind : (r : Stepped) (f g : ParserState → Stepped) → ((q : ParserState) → unplaced_step (f q) ≡ unplaced_step (g q))
    → unplaced_step (r >>= f) ≡ unplaced_step (r >>= g)
behind (Ok q) f g p = p q
behind (Err e) f g p = refl

pub item_placed : (o : OptionsData) (i : Item) (key : Bool) (next other : Option ℕ) (p : ParserState)
    → unplaced_step (take_item o i key next p) ≡ unplaced_step (take_item o i key other p)
item_placed o (OfComment c) key next other p = commented c next other p
item_placed o (OfLexeme l) key next other p =
    let t = token_of key l in
    behind (close o t p >>= take_token o t) (take_tail t.lexeme.kind t.lexeme.tail next)
    (take_tail t.lexeme.kind t.lexeme.tail other) (λ q. tailed t.lexeme.kind t.lexeme.tail next other q)

-- ---- of steps that are alike

abbrev taken_to : ParserState → Stepped
taken_to q = Ok q

abbrev refused_for : Fault → Stepped
refused_for f = Err f

same_state : (x y : ParserState) → taken_to x ≡ taken_to y → x ≡ y
same_state x y p = cc

same_fault : (e f : Fault) → refused_for e ≡ refused_for f → e ≡ f
same_fault e f p = cc

not_both : (x : ParserState) (f : Fault) → taken_to x ≡ refused_for f → ⊥
not_both x f p = cc

pub alike_fault : (r s : Stepped) (f : Fault) → unplaced_step r ≡ unplaced_step s → r ≡ Err f → s ≡ Err f
alike_fault (Err e) (Err g) f p q = sym p ∙ q
alike_fault (Err e) (Ok y) f p q = absurd (not_both (unplaced y) e (sym p))
alike_fault (Ok x) s f p q = absurd (not_both x f q)

pub alike_passed : (r s : Stepped) (q : ParserState) → unplaced_step r ≡ unplaced_step s → r ≡ Ok q
    → (t : ParserState) × (s ≡ Ok t) × (unplaced t ≡ unplaced q)
alike_passed (Err e) s q p h = absurd (not_both q e (sym h))
alike_passed (Ok x) (Err g) q p h = absurd (not_both (unplaced x) g p)
alike_passed (Ok x) (Ok y) q p h =
    (y, refl, sym (same_state (unplaced x) (unplaced y) p) ∙ ap unplaced (same_state x q h))

abbrev fed_by : ParserState → FeedGiven
fed_by q = Ok (q.given, record q { given = [] })

fed_alike : (r s : Stepped) → unplaced_step r ≡ unplaced_step s
    → unplaced_after (r >>= fed_by) ≡ unplaced_after (s >>= fed_by)
fed_alike (Err e) (Err g) p = ap (λ (f : Fault). Err f) (same_fault e g p)
fed_alike (Err e) (Ok y) p = absurd (not_both (unplaced y) e (sym p))
fed_alike (Ok x) (Err g) p = absurd (not_both (unplaced x) g p)
fed_alike (Ok x) (Ok y) p = ap fed_by (same_state (unplaced x) (unplaced y) p)

pub feed_placed : (o : OptionsData) (i : FlaggedItem) (next other : Option ℕ) (p : ParserState)
    → unplaced_after (feed o i next p) ≡ unplaced_after (feed o i other p)
unfolding feed
feed_placed o i next other p =
    fed_alike (take_item o i.item i.begins_key next p) (take_item o i.item i.begins_key other p)
    (item_placed o i.item i.begins_key next other p)

failed_both : (x : List PlainEvent × ParserState) (f : Fault) (r : FeedGiven) → Ok x ≡ r → r ≡ Err f → ⊥
failed_both x f r p q = cc

pub feed_fault : (r s : FeedGiven) (f : Fault) → unplaced_after r ≡ unplaced_after s → r ≡ Err f → s ≡ Err f
feed_fault (Err e) (Err g) f p q = sym p ∙ q
feed_fault (Err e) (Ok y) f p q = absurd (failed_both (unplaced_events y.0, unplaced y.1) e (Err e) (sym p) refl)
feed_fault (Ok x) s f p q = absurd (failed_both x f (Ok x) refl q)
