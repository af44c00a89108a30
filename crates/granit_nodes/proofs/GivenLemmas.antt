-- How many events steps leave.
use Rattle.std.proofs.Common.{◌≡◌, ◌≤◌, ◌<◌, ℕ, suc, Bool, true, false, if◌then◌else◌, List, [], ◌∷◌, ◌++◌, length}
use Rattle.std.proofs.Common.{Option, Some, None, Result, Ok, Err, refl, arith, ap, sym}
use Rattle.std.specs.Prelude.{nat_le}
use Rattle.std.proofs.lemmas.List.{length-append}
use Rattle.granit_base.specs.Place.{Mark}
use Rattle.granit_base.specs.Written.{Written}
use Rattle.granit_base.specs.declared.style.Placement.TheVariants.{Right}
use Rattle.granit_base.specs.declared.style.StructureStyle.TheVariants.{Flow}
use Rattle.granit_error.specs.FaultKind.{RecursionLimitExceeded, UnknownAnchor}
use Rattle.granit_error.specs.OptionsData.{OptionsData}
use Rattle.granit_error.specs.Refused.{Refused}
use Rattle.granit_lexemes.specs.Basics.{fails_at}
use Rattle.granit_lexemes.specs.Comment.{CommentRead}
use Rattle.granit_lexemes.specs.Lexeme as lexemes
use Rattle.granit_lexemes.specs.Lexeme.{LexemeKind}
use Rattle.granit_lexemes.specs.Outcome.{Fault, ◌>>=◌}
use Rattle.granit_lexemes.specs.PlainEvent.{PlainEvent, PlainTag, EventKind, event_at, Comment, Anchor, Alias}
use Rattle.granit_lexemes.specs.PlainEvent.{UnresolvedAlias, Scalar, SequenceStart, MappingStart}
use Rattle.granit_lexemes.specs.Source.{Source}
use Rattle.granit_lexemes.specs.declared.layout.Bracket.{Bracket}
use Rattle.granit_lexemes.specs.declared.layout.Bracket.TheVariants.{Square, Curly}
use Rattle.granit_machine.specs.Entries.{lookup_text}
use Rattle.granit_machine.specs.Frames.{AtKey, AtQuestion, BehindQuestion, AtValue, BehindAlone, Frame, Root}
use Rattle.granit_machine.specs.Frames.{BlockSequence}
use Rattle.granit_machine.specs.Frames.{BlockMapping, FlowSequence, FlowMapping, FlowPair, Waiting, ParserState}
use Rattle.granit_machine.specs.Giving.{null_at, with_indent, flush_held, flush, put, give, empty_by, give_empty}
use Rattle.granit_machine.specs.Giving.{properties_on, below_properties, key_indent, anchor_number, tag_value}
use Rattle.granit_machine.specs.Giving.{span_with_tag, tell_anchor, node_event}
use Rattle.granit_machine.specs.NodeEnds.{finish_in, finish, owed_in, owed, end_kind, below, end_node, empty_span}
use Rattle.granit_machine.specs.NodeEnds.{begin, begin_block, block_count, block_mapping, may_be_indentless, waits}
use Rattle.granit_machine.specs.NodeEnds.{with_top}
use Rattle.granit_machine.specs.NodeSteps.{Stepped, misplaced, alias_by, block_sequence, NextEntry, dash_room}
use Rattle.granit_machine.specs.NodeSteps.{give_tail}
use Rattle.granit_machine.specs.NodeSteps.{token_number, take_dash, first_dash, open_flow, bare_by, bare, node_by, node}
use Rattle.granit_machine.specs.TokenSort.{TokenSort, BeginsKey, Token}
use Rattle.granit_frames.specs.Wanting.{keeps_text, StepWantsToGive}

abbrev pub given_count : ParserState → ℕ
given_count p = length p.given

more : (xs ys : List PlainEvent) → length xs ≤ length (xs ++ ys)
more xs ys = omega (arith, length-append xs ys)

one_more : (xs : List PlainEvent) (e : PlainEvent) → length (xs ++ e ∷ []) ≡ suc (length xs)
one_more xs e = omega (arith, length-append xs (e ∷ []))

-- ---- held comments

held_events : (w : Option Waiting) (p : ParserState) → given_count p ≤ given_count (flush_held w p)
held_events None p = omega arith
held_events (Some w) p = more p.given w.held

pub flush_events : (p : ParserState) → given_count p ≤ given_count (flush p)
flush_events p = held_events p.waiting p

-- ---- events

pub give_events : (e : PlainEvent) (p : ParserState) → given_count p < given_count (give e p)
give_events e p = omega (arith, one_more (flush p).given e, flush_events p)

empty_events_by : (w : Option Waiting) (p : ParserState) → given_count p ≤ given_count (empty_by w p)
empty_events_by None p = omega arith
empty_events_by (Some w) p =
    let q = put (null_at w.at) p in
    omega (arith, one_more p.given (null_at w.at), flush_events q)

pub empty_events : (p : ParserState) → given_count p ≤ given_count (give_empty p)
empty_events p = empty_events_by p.waiting p

-- the comment behind a `-`
pub tail_events : (tail : Option CommentRead) (p : ParserState) → given_count p ≤ given_count (give_tail tail p)
tail_events None p = omega arith
tail_events (Some c) p =
    omega (arith, one_more (flush p).given (event_at (Comment c.text Right) c.source), flush_events p)

-- ---- the empty nodes of a pair

twice : (e f : PlainEvent) (p : ParserState) → given_count p ≤ given_count (give f (give e p))
twice e f p = omega (arith, give_events e p, give_events f (give e p))

once : (e : PlainEvent) (p : ParserState) → given_count p ≤ given_count (give e p)
once e p = omega (arith, give_events e p)

owed_events_in : (fs : List Frame) (x : Mark) (p : ParserState) → given_count p ≤ given_count (owed_in fs x p)
owed_events_in (BlockSequence column indentless ∷ fs) x p = empty_events p
owed_events_in (BlockMapping column AtValue ∷ fs) x p = empty_events p
owed_events_in (FlowMapping single AtValue ∷ fs) x p = empty_events p
owed_events_in (BlockMapping column AtQuestion ∷ fs) x p = twice (with_indent (Some column) (null_at x)) (null_at x) p
owed_events_in (FlowMapping single AtQuestion ∷ fs) x p = twice (null_at x) (null_at x) p
owed_events_in (FlowPair AtQuestion ∷ fs) x p = twice (null_at x) (null_at x) p
owed_events_in (BlockMapping column BehindQuestion ∷ fs) x p = once (null_at x) p
owed_events_in (FlowMapping single BehindQuestion ∷ fs) x p = once (null_at x) p
owed_events_in (FlowMapping single BehindAlone ∷ fs) x p = once (null_at x) p
owed_events_in (FlowPair BehindQuestion ∷ fs) x p = once (null_at x) p
owed_events_in (FlowPair AtValue ∷ fs) x p = once (null_at x) p
owed_events_in fs x p = omega arith

pub owed_events : (x : Mark) (p : ParserState) → given_count p ≤ given_count (owed x p)
owed_events x p = owed_events_in p.frames x p

pub waits_events : (m : Mark) (room : ℕ) (p : ParserState) → given_count p ≤ given_count (waits m room p)
waits_events m room p = flush_events p

-- ---- nodes

told_events : (o : OptionsData) (a : Option (ℕ × Written × Source)) (p : ParserState)
    → given_count p ≤ given_count (tell_anchor o a p)
told_events o None p = omega arith
told_events o (Some a) p = by_cases o.emit_anchor_events
  where
    e : PlainEvent
    e = event_at (Anchor a.0 a.1) a.2

    by_cases : (b : Bool) → given_count p ≤ given_count (if b then record p { given = p.given ++ e ∷ [] } else p)
    by_cases true = more p.given (e ∷ [])
    by_cases false = omega arith

pub node_events : (o : OptionsData) (kind : ℕ → Option PlainTag → EventKind) (source : Source) (indent : Option ℕ)
    (p : ParserState) → given_count p < given_count (node_event o kind source indent p)
unfolding node_event
node_events o kind source indent p =
    let q = properties_on p.frames source.end in
    let r : ParserState = record p { frames = below_properties p.frames } in
    let e : PlainEvent = record {
      kind = kind (anchor_number q.anchor) (tag_value q.tag);
      span = span_with_tag q.tag source (key_indent r.frames indent);
    } in
    omega (arith, told_events o q.anchor (give e r), give_events e r)

finish_given : (fs : List Frame) (p : ParserState) → (finish_in fs p).given ≡ p.given
finish_given (Root explicit ∷ fs) p = refl
finish_given (BlockMapping column stage ∷ fs) p = refl
finish_given (FlowMapping single stage ∷ fs) p = refl
finish_given (FlowPair stage ∷ fs) p = refl
finish_given (FlowSequence behind_entry ∷ fs) p = refl
finish_given fs p = refl

pub finish_events : (p : ParserState) → given_count (finish p) ≡ given_count p
finish_events p = ap (λ (es : List PlainEvent). length es) (finish_given p.frames p)

pub end_events : (x : Mark) (source : Source) (p : ParserState) → given_count p < given_count (end_node x source p)
unfolding end_node
end_events x source p =
    let q = owed x p in
    let r : ParserState = record q { frames = below q.frames } in
    let e = event_at (end_kind q.frames) source in
    omega (arith, finish_events (give e r), give_events e r, owed_events x p)

-- this state is left
abbrev pub IsLeft : Stepped → ParserState → Type 0
IsLeft r q = r ≡ Ok q

leaf_events : (o : OptionsData) (kind : ℕ → Option PlainTag → EventKind) (source : Source) (indent : Option ℕ)
    (p q : ParserState) → IsLeft (Ok (finish (node_event o kind source indent p))) q → given_count p < given_count q
leaf_events o kind source indent p q is =
    let n = node_event o kind source indent p in
    let same : finish n ≡ q = cc in
    rw (sym same) (omega (arith, finish_events n, node_events o kind source indent p))

-- ---- steps that may be refused

pub bound : {A : Type 0} (r : Result A Fault) (f : A → Stepped) (q : ParserState) → (r >>= f) ≡ Ok q
    → (x : A) × (r ≡ Ok x) × (f x ≡ Ok q)
bound (Ok x) f q is = (x, refl, is)
bound (Err e) f q is = absurd cc

module _ (o : OptionsData) (t : Token) where
  pub block_events : (kind : ℕ → Option PlainTag → EventKind) (m : Mark) (f : Frame) (p q : ParserState)
      → begin_block o kind m f p ≡ Ok q → given_count p < given_count q
  unfolding begin_block
  block_events kind m f p q is = by_cases (nat_le o.block_nesting_limit (block_count p.frames)) is
    where
      begun : ParserState
      begun = begin o kind (empty_span m) f p

      by_cases : (b : Bool) → (if b then fails_at RecursionLimitExceeded m else Ok begun) ≡ Ok q
          → given_count p < given_count q
      by_cases true e = absurd cc
      by_cases false e =
          let same : begun ≡ q = cc in
          rw (sym same) (node_events o kind (empty_span m) None p)

  waiting_events : (m : Mark) (room : ℕ) (p q r : ParserState) → given_count p < given_count q
      → IsLeft (Ok (waits m room q)) r → given_count p < given_count r
  waiting_events m room p q r less is =
      let same : waits m room q ≡ r = cc in
      rw (sym same) (omega (arith, less, waits_events m room q))

  dash_events : (b : Bool) (p q : ParserState) → take_dash o t (first_dash b) false p ≡ Ok q
      → given_count p < given_count q
  unfolding take_dash
  dash_events false p q is =
      let f = BlockSequence (token_number t) false in
      let begun = bound (begin_block o block_sequence t.lexeme.start f p)
      (λ r. dash_room o t.lexeme.tail >>= λ room. Ok (waits t.lexeme.end room (give_tail t.lexeme.tail r))) q is in
      let room = bound (dash_room o t.lexeme.tail)
      (λ room. Ok (waits t.lexeme.end room (give_tail t.lexeme.tail begun.0))) q begun.2 in
      waiting_events t.lexeme.end room.0 p (give_tail t.lexeme.tail begun.0) q
      (omega (
        arith,
        block_events block_sequence t.lexeme.start f p begun.0 begun.1,
        tail_events t.lexeme.tail begun.0,
      )) room.2
  dash_events true p q is = by_cases (nat_le o.block_nesting_limit (block_count p.frames)) is
    where
      tailed : ParserState
      tailed = give_tail t.lexeme.tail p

      begun : ParserState
      begun = begin o block_sequence (empty_span t.lexeme.end) (BlockSequence (token_number t) true) tailed

      by_cases : (b : Bool)
          → (if b then fails_at RecursionLimitExceeded t.lexeme.end
          else dash_room o t.lexeme.tail >>= λ room. Ok (waits t.lexeme.end room begun)) ≡ Ok q
          → given_count p < given_count q
      by_cases true e = absurd cc
      by_cases false e =
          let room = bound (dash_room o t.lexeme.tail) (λ room. Ok (waits t.lexeme.end room begun)) q e in
          waiting_events t.lexeme.end room.0 p begun q
          (omega (
            arith,
            tail_events t.lexeme.tail p,
            node_events o block_sequence (empty_span t.lexeme.end) None tailed,
          )) room.2

  alias_events : (name : Written) (n : Option ℕ) (p q : ParserState) → alias_by o t name n p ≡ Ok q
      → given_count p < given_count q
  alias_events name (Some n) p q is = leaf_events o (λ number tag. Alias n) t.lexeme.shown None p q is
  alias_events name None p q is = by_cases o.emit_unresolved_aliases is
    where
      by_cases : (b : Bool)
          → (if b then Ok (finish (node_event o (λ number tag. UnresolvedAlias name) t.lexeme.shown None p))
          else misplaced UnknownAnchor t) ≡ Ok q
          → given_count p < given_count q
      by_cases true e = leaf_events o (λ number tag. UnresolvedAlias name) t.lexeme.shown None p q e
      by_cases false e = absurd cc

  open_events : (bracket : Bracket) (p q : ParserState) → IsLeft (Ok (open_flow o bracket t p)) q
      → given_count p < given_count q
  open_events Square p q is =
      let same : open_flow o Square t p ≡ q = cc in
      rw (sym same) (node_events o (λ number tag. SequenceStart Flow number tag) t.lexeme.shown None p)
  open_events Curly p q is =
      let same : open_flow o Curly t p ≡ q = cc in
      rw (sym same) (node_events o (λ number tag. MappingStart Flow number tag) t.lexeme.shown None p)

  colon_events : (p q : ParserState)
      → (begin_block o block_mapping t.lexeme.start (BlockMapping (token_number t) AtValue) p >>= λ r.
      Ok (waits t.lexeme.start o.max_buffered_comment_events (give (null_at t.lexeme.start) r))) ≡ Ok q
      → given_count p < given_count q
  colon_events p q is =
      let f = BlockMapping (token_number t) AtValue in
      let e = null_at t.lexeme.start in
      let begun = bound (begin_block o block_mapping t.lexeme.start f p)
      (λ r. Ok (waits t.lexeme.start o.max_buffered_comment_events (give e r))) q is in
      waiting_events t.lexeme.start o.max_buffered_comment_events p (give e begun.0) q
      (omega (arith, block_events block_mapping t.lexeme.start f p begun.0 begun.1, give_events e begun.0)) begun.2

  bare_events_by : (kind : LexemeKind) (p q : ParserState) → keeps_text kind ≡ false → bare_by o kind t p ≡ Ok q
      → given_count p < given_count q
  bare_events_by (lexemes.Alias name) p q none is = alias_events name (lookup_text name.characters p.names) p q is
  bare_events_by (lexemes.Scalar style text) p q none is =
      leaf_events o (λ number tag. Scalar text style number tag) t.lexeme.shown t.lexeme.indent p q is
  bare_events_by (lexemes.Open bracket) p q none is = open_events bracket p q is
  bare_events_by (lexemes.Anchor name) p q none is = absurd cc
  bare_events_by (lexemes.Tag handle suffix) p q none is = absurd cc
  bare_events_by lexemes.Dash p q none is =
      dash_events (may_be_indentless (token_number t) (below_properties p.frames)) p q is
  bare_events_by lexemes.Question p q none is =
      block_events block_mapping t.lexeme.start (BlockMapping (token_number t) AtQuestion) p q is
  bare_events_by kind p q none is = colon_events p q is

  -- a lexeme where a node must stand gives an event, but for an anchor or a tag
  pub bare_events : (p q : ParserState) → keeps_text t.lexeme.kind ≡ false → bare o t p ≡ Ok q
      → given_count p < given_count q
  bare_events p q none is = bare_events_by t.lexeme.kind p q none is

  node_events_by : (sort : TokenSort) (p q : ParserState) → keeps_text t.lexeme.kind ≡ false
      → node_by o sort t p ≡ Ok q → given_count p < given_count q
  node_events_by BeginsKey p q none is =
      let f = BlockMapping (token_number t) AtKey in
      let begun = bound (begin_block o block_mapping t.lexeme.start f p) (bare o t) q is in
      omega (
        arith,
        block_events block_mapping t.lexeme.start f p begun.0 begun.1,
        bare_events begun.0 q none begun.2,
      )
  node_events_by sort p q none is = bare_events p q none is

  pub first_events : (p q : ParserState) → keeps_text t.lexeme.kind ≡ false → node o t p ≡ Ok q
      → given_count p < given_count q
  first_events p q none is = node_events_by t.sort p q none is

  -- so no other lexeme's step leaves as few
  pub bare_gives : {X : Type 0} (r : Result X Refused) (p : ParserState) → keeps_text t.lexeme.kind ≡ false
      → StepWantsToGive r p (bare o t p)
  bare_gives r p none = λ q is few.
      let less = bare_events p q none is in
      absurd (omega (arith, few, less))

  pub first_gives : {X : Type 0} (r : Result X Refused) (p : ParserState) → keeps_text t.lexeme.kind ≡ false
      → StepWantsToGive r p (node o t p)
  first_gives r p none = λ q is few.
      let less = first_events p q none is in
      absurd (omega (arith, few, less))

  -- a `-` that goes on with its sequence leaves no fewer
  pub next_events : (indentless : Bool) (p q : ParserState) → take_dash o t NextEntry indentless p ≡ Ok q
      → given_count p ≤ given_count q
  unfolding take_dash
  next_events indentless p q is =
      let tailed = give_tail t.lexeme.tail p in
      let begun = with_top (BlockSequence (token_number t) indentless) tailed in
      let room = bound (dash_room o t.lexeme.tail) (λ room. Ok (waits t.lexeme.end room begun)) q is in
      let same : IsLeft (Ok (waits t.lexeme.end room.0 begun)) q = room.2 in
      let left : waits t.lexeme.end room.0 begun ≡ q = cc in
      rw (sym left) (omega (arith, tail_events t.lexeme.tail p, waits_events t.lexeme.end room.0 begun))
