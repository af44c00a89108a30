-- A node that begins keeps what was given in front of it.
use Rattle.std.proofs.Common.{◌≡◌, ℕ, ◌-◌, ◌==◌, Bool, true, false, List, [], ◌∷◌, ◌++◌, Option, Some, None, Result}
use Rattle.std.proofs.Common.{Ok, Err, refl, ap, ◌∙◌}
use Rattle.std.specs.Prelude.{if◌then◌else◌, nat_le}
use Rattle.granit_base.specs.Place.{Mark}
use Rattle.granit_base.specs.Written.{Written}
use Rattle.granit_base.specs.declared.style.Placement.TheVariants.{Right}
use Rattle.granit_error.specs.FaultKind.{TooManyComments}
use Rattle.granit_error.specs.OptionsData.{OptionsData}
use Rattle.granit_lexemes.specs.Basics.{fails_at}
use Rattle.granit_lexemes.specs.Comment.{CommentRead}
use Rattle.granit_lexemes.specs.Lexeme as lexemes
use Rattle.granit_lexemes.specs.Lexeme.{LexemeKind}
use Rattle.granit_lexemes.specs.Outcome.{Fault, ◌>>=◌}
use Rattle.granit_lexemes.specs.PlainEvent.{PlainEvent, PlainTag, EventKind, event_at, Anchor, Comment}
use Rattle.granit_lexemes.specs.Source.{Source}
use Rattle.granit_lexemes.specs.declared.layout.Bracket.{Bracket}
use Rattle.granit_lexemes.specs.declared.layout.Bracket.TheVariants.{Square, Curly}
use Rattle.granit_machine.specs.Frames.{AtKey, AtQuestion, AtValue, Frame, Root, BlockSequence}
use Rattle.granit_machine.specs.Frames.{BlockMapping, FlowSequence, FlowMapping, FlowPair, Waiting, ParserState}
use Rattle.granit_machine.specs.Entries.{lookup_text}
use Rattle.granit_machine.specs.Giving.{below_properties, flush, flush_held, give, null_at, node_event}
use Rattle.granit_machine.specs.Giving.{properties_on, tell_anchor}
use Rattle.granit_machine.specs.NodeEnds.{begin, begin_block, block_count, block_mapping, empty_span, finish, finish_in}
use Rattle.granit_machine.specs.NodeEnds.{may_be_indentless, waits}
use Rattle.granit_machine.specs.NodeSteps.{Stepped, DashRole, NextEntry, NewSequence, IndentlessSequence, alias_by}
use Rattle.granit_machine.specs.NodeSteps.{anchored, bare, bare_by, block_sequence, dash_room, first_dash, give_tail}
use Rattle.granit_machine.specs.NodeSteps.{known_prefix, node, node_by, open_flow, tag_prefix, tagged, take_dash}
use Rattle.granit_machine.specs.NodeSteps.{token_number}
use Rattle.granit_machine.specs.Parser.{hold, take_tail}
use Rattle.granit_machine.specs.TokenSort.{BeginsKey, Token, TokenSort}

-- an event stands first among what was given
pub record Starts (e : PlainEvent) (p : ParserState) : Type 0 where
  pub rest : List PlainEvent
  pub first : p.given ≡ e ∷ rest

module _ (e : PlainEvent) where
  starts_more : (p q : ParserState) (more : List PlainEvent) → q.given ≡ p.given ++ more → Starts e p → Starts e q
  starts_more p q more eq x = record { rest = x.rest ++ more; first = eq ∙ ap (λ es. es ++ more) x.first }

  starts_same : (p q : ParserState) → q.given ≡ p.given → Starts e p → Starts e q
  starts_same p q eq x = record { rest = x.rest; first = eq ∙ x.first }

  -- ---- giving

  held_starts : (w : Option Waiting) (p : ParserState) → Starts e p → Starts e (flush_held w p)
  held_starts None p x = x
  held_starts (Some w) p x = starts_more p _ w.held refl x

  flush_starts : (p : ParserState) → Starts e p → Starts e (flush p)
  flush_starts p x = held_starts p.waiting p x

  give_starts : (f : PlainEvent) (p : ParserState) → Starts e p → Starts e (give f p)
  give_starts f p x = starts_more (flush p) (give f p) (f ∷ []) refl (flush_starts p x)

  if_starts : (b : Bool) (p q : ParserState) → Starts e p → Starts e q → Starts e (if b then p else q)
  if_starts true p q x y = x
  if_starts false p q x y = y

  anchor_starts : (o : OptionsData) (a : Option (ℕ × Written × Source)) (p : ParserState) → Starts e p
      → Starts e (tell_anchor o a p)
  anchor_starts o None p x = x
  anchor_starts o (Some a) p x =
      if_starts o.emit_anchor_events _ p (starts_more p _ (event_at (Anchor a.0 a.1) a.2 ∷ []) refl x) x

  node_event_starts : (o : OptionsData) (kind : ℕ → Option PlainTag → EventKind) (source : Source) (indent : Option ℕ)
      (p : ParserState) → Starts e p → Starts e (node_event o kind source indent p)
  unfolding node_event
  node_event_starts o kind source indent p x =
      let q : ParserState = record p { frames = below_properties p.frames } in
      anchor_starts o (properties_on p.frames source.end).anchor _
      (give_starts _ q (starts_same p q refl x))

  -- ---- nodes end and begin

  finish_given : (fs : List Frame) (p : ParserState) → (finish_in fs p).given ≡ p.given
  finish_given (Root explicit ∷ fs) p = refl
  finish_given (BlockMapping column stage ∷ fs) p = refl
  finish_given (FlowMapping single stage ∷ fs) p = refl
  finish_given (FlowPair stage ∷ fs) p = refl
  finish_given (FlowSequence behind_entry ∷ fs) p = refl
  finish_given fs p = refl

  finish_starts : (p : ParserState) → Starts e p → Starts e (finish p)
  finish_starts p x = starts_same p (finish p) (finish_given p.frames p) x

  begin_starts : (o : OptionsData) (kind : ℕ → Option PlainTag → EventKind) (source : Source) (frame : Frame)
      (p : ParserState) → Starts e p → Starts e (begin o kind source frame p)
  begin_starts o kind source frame p x =
      starts_same (node_event o kind source None p) _ refl (node_event_starts o kind source None p x)

  waits_starts : (m : Mark) (room : ℕ) (p : ParserState) → Starts e p → Starts e (waits m room p)
  waits_starts m room p x = starts_same (flush p) (waits m room p) refl (flush_starts p x)

  give_tail_starts : (tail : Option CommentRead) (p : ParserState) → Starts e p → Starts e (give_tail tail p)
  give_tail_starts None p x = x
  give_tail_starts (Some c) p x =
      starts_more (flush p) _ (event_at (Comment c.text Right) c.source ∷ []) refl (flush_starts p x)

  -- ---- steps

  abbrev pub StepStarts : Stepped → Type 0
  StepStarts (Ok q) = Starts e q
  StepStarts (Err f) = Unit {0}

  pub step_if : (b : Bool) (r s : Stepped) → StepStarts r → StepStarts s → StepStarts (if b then r else s)
  step_if true r s x y = x
  step_if false r s x y = y

  step_behind : {A : Type 0} (r : Result A Fault) (f : A → Stepped) → ((a : A) → StepStarts (f a))
      → StepStarts (r >>= f)
  step_behind (Ok a) f x = x a
  step_behind (Err g) f x = tt

  pub step_then : (r : Stepped) (f : ParserState → Stepped) → StepStarts r
      → ((q : ParserState) → Starts e q → StepStarts (f q)) → StepStarts (r >>= f)
  step_then (Ok q) f x y = y q x
  step_then (Err g) f x y = tt

  begin_block_starts : (o : OptionsData) (kind : ℕ → Option PlainTag → EventKind) (m : Mark) (frame : Frame)
      (p : ParserState) → Starts e p → StepStarts (begin_block o kind m frame p)
  unfolding begin_block
  begin_block_starts o kind m frame p x =
      step_if (nat_le o.block_nesting_limit (block_count p.frames)) _ _ tt
      (begin_starts o kind (empty_span m) frame p x)

  alias_starts : (o : OptionsData) (t : Token) (name : Written) (known : Option ℕ) (p : ParserState) → Starts e p
      → StepStarts (alias_by o t name known p)
  alias_starts o t name (Some n) p x =
      let q = node_event o (λ number tag. Rattle.granit_lexemes.specs.PlainEvent.Alias n) t.lexeme.shown None p in
      finish_starts q (node_event_starts o _ t.lexeme.shown None p x)
  alias_starts o t name None p x =
      step_if o.emit_unresolved_aliases _ _
      (finish_starts _ (node_event_starts o _ t.lexeme.shown None p x)) tt

  dash_starts : (o : OptionsData) (t : Token) (role : DashRole) (indentless : Bool) (p : ParserState) → Starts e p
      → StepStarts (take_dash o t role indentless p)
  unfolding take_dash
  dash_starts o t NextEntry indentless p x =
      step_behind (dash_room o t.lexeme.tail) _
      (λ room. waits_starts t.lexeme.end room _
      (starts_same (give_tail t.lexeme.tail p) _ refl (give_tail_starts t.lexeme.tail p x)))
  dash_starts o t NewSequence indentless p x =
      step_then (begin_block o block_sequence t.lexeme.start (BlockSequence (token_number t) false) p) _
      (begin_block_starts o block_sequence t.lexeme.start (BlockSequence (token_number t) false) p x)
      (λ q y. step_behind (dash_room o t.lexeme.tail) _
      (λ room. waits_starts t.lexeme.end room (give_tail t.lexeme.tail q) (give_tail_starts t.lexeme.tail q y)))
  dash_starts o t IndentlessSequence indentless p x =
      step_if (nat_le o.block_nesting_limit (block_count p.frames)) _ _ tt
      (step_behind (dash_room o t.lexeme.tail) _
      (λ room. waits_starts t.lexeme.end room _
      (begin_starts o block_sequence (empty_span t.lexeme.end) (BlockSequence (token_number t) true) _
      (give_tail_starts t.lexeme.tail p x))))

  flow_starts : (o : OptionsData) (bracket : Bracket) (t : Token) (p : ParserState) → Starts e p
      → Starts e (open_flow o bracket t p)
  flow_starts o Square t p x = begin_starts o _ t.lexeme.shown _ p x
  flow_starts o Curly t p x = begin_starts o _ t.lexeme.shown _ p x

  bare_starts : (o : OptionsData) (kind : LexemeKind) (t : Token) (p : ParserState) → Starts e p
      → StepStarts (bare_by o kind t p)
  bare_starts o (lexemes.Alias name) t p x = alias_starts o t name (lookup_text name.characters p.names) p x
  bare_starts o (lexemes.Scalar style text) t p x =
      finish_starts _ (node_event_starts o _ t.lexeme.shown t.lexeme.indent p x)
  bare_starts o (lexemes.Open bracket) t p x = flow_starts o bracket t p x
  bare_starts o (lexemes.Anchor name) t p x = starts_same (flush p) (anchored t name (flush p)) refl (flush_starts p x)
  bare_starts o (lexemes.Tag handle suffix) t p x =
      step_behind (tag_prefix t handle (known_prefix o handle p)) _
      (λ prefix. starts_same (flush p) (tagged t handle suffix prefix (flush p)) refl (flush_starts p x))
  bare_starts o lexemes.Dash t p x =
      dash_starts o t (first_dash (may_be_indentless (token_number t) (below_properties p.frames))) false p x
  bare_starts o lexemes.Question t p x =
      begin_block_starts o block_mapping t.lexeme.start (BlockMapping (token_number t) AtQuestion) p x
  bare_starts o kind t p x =
      step_then (begin_block o block_mapping t.lexeme.start (BlockMapping (token_number t) AtValue) p) _
      (begin_block_starts o block_mapping t.lexeme.start (BlockMapping (token_number t) AtValue) p x)
      (λ q y. waits_starts t.lexeme.start o.max_buffered_comment_events _
      (give_starts (null_at t.lexeme.start) q y))

  sorted_starts : (o : OptionsData) (sort : TokenSort) (t : Token) (p : ParserState) → Starts e p
      → StepStarts (node_by o sort t p)
  sorted_starts o BeginsKey t p x =
      step_then (begin_block o block_mapping t.lexeme.start (BlockMapping (token_number t) AtKey) p) (bare o t)
      (begin_block_starts o block_mapping t.lexeme.start (BlockMapping (token_number t) AtKey) p x)
      (λ q y. bare_starts o t.lexeme.kind t q y)
  sorted_starts o sort t p x = bare_starts o t.lexeme.kind t p x

  pub node_starts : (o : OptionsData) (t : Token) (p : ParserState) → Starts e p → StepStarts (node o t p)
  node_starts o t p x = sorted_starts o t.sort t p x

  -- ---- the comment behind it

  hold_starts : (c : CommentRead) (f : PlainEvent) (w : Option Waiting) (p : ParserState) → Starts e p
      → StepStarts (hold c f w p)
  hold_starts c f None p x = starts_more p _ (f ∷ []) refl x
  hold_starts c f (Some w) p x =
      let q : ParserState =
      record p { waiting = Some (record w { room = w.room - 1; held = w.held ++ f ∷ [] }) } in
      step_if (w.room == 0) (fails_at TooManyComments c.source.start) (Ok q) tt (starts_same p q refl x)

  pub tail_starts : (kind : LexemeKind) (tail : Option CommentRead) (next : Option ℕ) (p : ParserState) → Starts e p
      → StepStarts (take_tail kind tail next p)
  tail_starts lexemes.Dash tail next p x = x
  tail_starts kind None next p x = x
  tail_starts kind (Some c) next p x = hold_starts c _ p.waiting p x
