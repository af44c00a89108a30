-- A small text is read, and a stack includes it.
use Rattle.std.proofs.Common.{◌≡◌, ◌<◌, ℕ, zero, suc, false, List, [], ◌∷◌, ◌++◌, Option, Some, None, Result, Ok, Err}
use Rattle.std.proofs.Common.{arith, inl, max, refl, sym, subst}
use Rattle.std.specs.Borrow.{Bor}
use Rattle.std.specs.Option.{option_map}
use Rattle.std.specs.Prelude.{codes, take}
use Rattle.granit_base.specs.Counts.{last_count}
use Rattle.granit_base.specs.Written.{Written}
use Rattle.granit_base.specs.declared.place.Span.{Span}
use Rattle.granit_error.specs.OptionsData.{OptionsData, default_options}
use Rattle.granit_error.specs.Refused.{Refused}
use Rattle.granit_event.specs.declared.event.Event.{Event}
use Rattle.granit_event.specs.Events.{plain_events}
use Rattle.granit_layers.specs.Kinds.{SetsAny, StepsAny, number_by_kind, number_over}
use Rattle.granit_layers.specs.Passing.{StackRun, no_call, one_call}
use Rattle.granit_layers.specs.Stacking.{EndsStack, Stack, StepsTo, TurnsOnce, Withheld, is_none_left, layer_of}
use Rattle.granit_layers.specs.Stacking.{none_yet, one_more}
use Rattle.granit_layers.specs.Turning.{Next, turn_of}
use Rattle.granit_layers.specs.declared.kinds.AnyKind.{AnyKind}
use Rattle.granit_layers.specs.declared.kinds.AnyKind.TheVariants.{Fourth}
use Rattle.granit_layers.specs.declared.layer.Layer.{Layer}
use Rattle.granit_layers.specs.declared.turn.Turn.TheVariants.{Gives, Withholds, Leaves}
use Rattle.granit_lexemes.specs.Outcome.{Fault}
use Rattle.granit_lexemes.specs.PlainEvent.{PlainEvent, plain_span}
use Rattle.granit_parser.specs.Parsing.{LeavesNumbers, LeadsTo, first_given, none_given}
use Rattle.granit_replay.specs.Replaying.{Replay, behind_next, next_of, raised_by}
use Rattle.granit_replay.specs.declared.resolver.Included.{Included}
use Rattle.granit_replay.specs.declared.resolver.Included.TheVariants.{Borrowed}
use Rattle.granit_stack_laws.specs.Examples.{example_mark, lone, owned_name, running, small_end, small_events}
use Rattle.granit_stack_laws.specs.Examples.{small_layer, small_life, small_replay, small_text}
use Rattle.granit_stack_laws.specs.Fresh.{Happens, is_included, is_next, is_pushed, nothing}
use Rattle.granit_stack.specs.Including.{Handling, Includes, ReadsText}
use Rattle.granit_stack.specs.Stacked.{Stacked}
use Rattle.granit_stack_laws.specs.Life.{IsNumbered, UnreadAny}
use Rattle.granit_parser.specs.Numbers.{with_offset}
use Rattle.granit_steps.specs.Steps.{StepState, steps_start}
use Rattle.granit_steps.specs.Told.{GivesEvents, gives_end, gives_event}
use lib.Utf8.{encode}
use Rattle.std.specs.Fmt.{digits}
use Rattle.std.specs.Str.{chars}
use Rattle.granit_base.specs.Classes.{is_z, is_break, is_breakz, is_blank, is_blank_or_breakz, is_digit, is_hex}
use Rattle.granit_base.specs.Classes.{hex_value, is_word_char, is_alpha, is_flow, is_bom, is_printable}
use Rattle.granit_base.specs.Classes.{is_yaml_non_break, is_yaml_non_space, is_anchor_char, is_uri_sign, is_uri_char}
use Rattle.granit_base.specs.Classes.{is_tag_char, is_gap}
use Rattle.granit_lexemes.specs.Here.{begins_behind, tab_behind, step, past}
use Rattle.granit_lexemes.specs.Moves.{steps, past_prefix_mark}
use Rattle.granit_lexemes.specs.Basics.{past_break}
use Rattle.granit_lexemes.specs.Pieces.{turns, pieces}
use Rattle.granit_lexemes.specs.Decoding.{letter_value, digit_count, is_high, is_low}
use Rattle.granit_lexemes.specs.Line.{quoted_char, event_line}
use Rattle.granit_lexemes.specs.Comment.{behind_comment, skipped_comment, comment}
use Rattle.granit_lexemes.specs.Tail.{tail_behind}
use Rattle.granit_lexemes.specs.PlainScalar.{on_content, on_blank, on_break, plain_turn, behind_plain, plain_scalar}
use Rattle.granit_lexemes.specs.QuotedScalar.{is_closing, digits_or, second_half_or, numbered_or, escape_or}
use Rattle.granit_lexemes.specs.QuotedScalar.{is_strictly_left, is_loosely_left, over_blank, over_break, quoted_content}
use Rattle.granit_lexemes.specs.QuotedScalar.{quoted_turn, may_trail, behind_quoted, quoted_tail, quoted_scalar}
use Rattle.granit_lexemes.specs.Tags.{escaped_byte, bytes_behind, trailing_bytes, uri_turn, tag_ends, tag_at, name_at}
use Rattle.granit_lexemes.specs.Directive.{version_number, minor_number, handle_by, handle_at, prefix_at}
use Rattle.granit_lexemes.specs.Directive.{parameter_behind, directive_of, directive_at, directive_tail}
use Rattle.granit_lexemes.specs.Directive.{directive_up_to, directive}
use Rattle.granit_lexemes.specs.BlockHeader.{header_sign, block_header, leading_turn, content_column}
use Rattle.granit_lexemes.specs.BlockScalar.{over_spaces, empty_turn, line_up_to, block_turn, is_white, behind_block}
use Rattle.granit_lexemes.specs.BlockScalar.{content_lines, block_lines, block_body, block_scalar}
use Rattle.granit_machine.specs.BlockSteps.{in_sequence, behind_indicator}
use Rattle.granit_machine.specs.Closing.{goes_on_with, close_turn}
use Rattle.granit_machine.specs.Columns.{refuse_column, entered_columns}
use Rattle.granit_machine.specs.Events.{wide_line}
use Rattle.granit_machine.specs.FlowLexemes.{opener, closes}
use Rattle.granit_machine.specs.Gaps.{refuse_tab_at, past_gap, over_break_if, goes_on_behind, noted_gap, ready_gap}
use Rattle.granit_machine.specs.Gaps.{gap_ends}
use Rattle.granit_machine.specs.Giving.{node_event}
use Rattle.granit_machine.specs.IndicatorLexemes.{is_tabbed_dash, behind_dash, dash_up_to, dash, question_up_to}
use Rattle.granit_machine.specs.IndicatorLexemes.{question_by, question, keyed_colon, bare_colon, colon_tail, colon}
use Rattle.granit_machine.specs.Items.{lexeme_line}
use Rattle.granit_machine.specs.LexemeSort.{sort_of, sort_at}
use Rattle.granit_machine.specs.NodeEnds.{end_node, end_properties, begin_block}
use Rattle.granit_machine.specs.NodeSteps.{take_dash}
use Rattle.granit_machine.specs.Parser.{feed}
use Rattle.granit_machine.specs.PossibleKeys.{is_stale, is_allowed, node_key, is_far_below}
use Rattle.granit_machine.specs.Reader.{lexeme_of, is_strict_outside, lexeme_in_column, lexeme_by, read, lex_turn}
use Rattle.granit_machine.specs.ReaderState.{tailed}
use Rattle.granit_machine.specs.StreamLexemes.{end_mark_up_to}
use Rattle.granit_steps.specs.Steps.{step_turn, next_event}

-- ---- all that is given, by so many steps, and the count of anchors behind it

abbrev collected : (count : ℕ) → Result (Option PlainEvent × StepState) Fault
    → (StepState → Option (List PlainEvent × ℕ)) → Option (List PlainEvent × ℕ)
collected count (Ok (None, t)) more = Some ([], count)
collected count (Ok (Some e, t)) more = option_map (λ (x : List PlainEvent × ℕ). (e ∷ x.0, x.1)) (more t)
collected count (Err f) more = None

abbrev all_given : OptionsData → ℕ → StepState → Option (List PlainEvent × ℕ)
all_given o zero s = None
all_given o (suc n) s = collected s.parser.count (next_event o s) (all_given o n)

record AllGiven (o : OptionsData) (s : StepState) (x : List PlainEvent × ℕ) : Type 0 where
  all : GivesEvents o s x.0 None
  last : StepState
  leads : LeadsTo o s x.0 last
  count : last.parser.count ≡ x.1

by_step : (o : OptionsData) (n : ℕ) (s : StepState) (r : Result (Option PlainEvent × StepState) Fault)
    (x : List PlainEvent × ℕ)
    → ((t : StepState) (y : List PlainEvent × ℕ) → all_given o n t ≡ Some y → AllGiven o t y)
    → next_event o s ≡ r → collected s.parser.count r (all_given o n) ≡ Some x → AllGiven o s x
by_step o n s (Ok (None, t)) x more is all =
    let none : x ≡ ([], s.parser.count) = cc in
    subst (AllGiven o s) (sym none) (record { all = gives_end is; last = s; leads = none_given; count = refl })
by_step o n s (Ok (Some e, t)) x more is all = behind (all_given o n t) refl all
  where
    behind : (y : Option (List PlainEvent × ℕ)) → all_given o n t ≡ y
        → option_map (λ (z : List PlainEvent × ℕ). (e ∷ z.0, z.1)) y ≡ Some x → AllGiven o s x
    behind None same told = absurd cc
    behind (Some z) same told =
        let whole : x ≡ (e ∷ z.0, z.1) = cc in
        let rest = more t z same in
        subst (AllGiven o s) (sym whole) (record {
          all = gives_event is rest.all;
          last = rest.last;
          leads = first_given is rest.leads;
          count = rest.count;
        })
by_step o n s (Err f) x more is all = absurd cc

gives_all : (o : OptionsData) (n : ℕ) (s : StepState) (x : List PlainEvent × ℕ) → all_given o n s ≡ Some x
    → AllGiven o s x
gives_all o zero s x all = absurd cc
gives_all o (suc n) s x all = by_step o n s (next_event o s) x (gives_all o n) refl all

small_told : all_given default_options 12 (with_offset 2 (steps_start small_text))
    ≡ Some (plain_events (small_events 2), 2)
unfolding is_z is_break is_breakz is_blank is_blank_or_breakz is_digit is_hex hex_value is_word_char is_alpha is_flow
    is_bom is_printable is_yaml_non_break is_yaml_non_space is_anchor_char is_uri_sign is_uri_char is_tag_char is_gap
    begins_behind tab_behind step past steps past_prefix_mark past_break turns pieces letter_value digit_count is_high
    is_low quoted_char event_line behind_comment skipped_comment comment tail_behind on_content on_blank on_break
    plain_turn behind_plain plain_scalar is_closing digits_or second_half_or numbered_or escape_or is_strictly_left
    is_loosely_left over_blank over_break quoted_content quoted_turn may_trail behind_quoted quoted_tail quoted_scalar
    escaped_byte bytes_behind trailing_bytes uri_turn tag_ends tag_at name_at version_number minor_number handle_by
    handle_at prefix_at parameter_behind directive_of directive_at directive_tail directive_up_to directive header_sign
    block_header leading_turn content_column over_spaces empty_turn line_up_to block_turn is_white behind_block
    content_lines block_lines block_body block_scalar in_sequence behind_indicator goes_on_with close_turn refuse_column
    entered_columns wide_line opener closes refuse_tab_at past_gap over_break_if goes_on_behind noted_gap ready_gap
    gap_ends node_event is_tabbed_dash behind_dash dash_up_to dash question_up_to question_by question keyed_colon
    bare_colon colon_tail colon lexeme_line sort_of sort_at end_node end_properties begin_block take_dash feed is_stale
    is_allowed node_key is_far_below lexeme_of is_strict_outside lexeme_in_column lexeme_by read lex_turn tailed
    end_mark_up_to step_turn next_event digits encode chars
small_told = refl

pub small_read : (text : Bor (List ℕ)) → chars text.now ≡ small_text
    → ReadsText default_options (Some 2) (Borrowed text) (Ok (small_replay 2))
small_read text is =
    let given = gives_all default_options 12 (with_offset 2 (steps_start small_text))
    (plain_events (small_events 2), 2) small_told in
    let few = subst (λ (n : ℕ). n < last_count) (sym given.count) (omega arith) in (
      subst (λ (x : List ℕ).
          GivesEvents default_options (with_offset 2 (steps_start x)) (plain_events (small_events 2)) None) (sym is)
          given.all,
      refl,
      subst (λ (x : List ℕ).
          LeavesNumbers default_options (with_offset 2 (steps_start x)) (plain_events (small_events 2))) (sym is)
          (given.last, given.leads, few),
    )

-- ---- a stack

module _ {A B C : Type 0} (steps_a : A → Next → A → Type 0) (steps_b : B → Next → B → Type 0)
    (steps_c : C → Next → C → Type 0) (offset_a : A → ℕ) (offset_b : B → ℕ) (offset_c : C → ℕ)
    (sets_a : ℕ → A → A → Type 0) (sets_b : ℕ → B → B → Type 0) (sets_c : ℕ → C → C → Type 0)
    (above_a : A → ℕ → ℕ) (above_b : B → ℕ → ℕ) (above_c : C → ℕ → ℕ) (unread_a : A → Type 0)
    (unread_b : B → Type 0) (unread_c : C → Type 0) where
  abbrev Kind : Type 0
  Kind = AnyKind A B C Replay

  abbrev Steps : Kind → Next → Kind → Type 0
  Steps = StepsAny steps_a steps_b steps_c (λ (p : Replay) r q. (r ≡ next_of p) × (q ≡ behind_next p))

  abbrev number : Kind → ℕ
  number = number_by_kind offset_a offset_b offset_c (λ (p : Replay). p.anchor_offset)

  abbrev Sets : ℕ → Kind → Kind → Type 0
  Sets = SetsAny sets_a sets_b sets_c (λ n (p : Replay) q. q ≡ record p { anchor_offset = n })

  abbrev above : Kind → ℕ → ℕ
  above = number_over above_a above_b above_c (λ (p : Replay) below. max p.anchor_offset below)

  abbrev Fresh : Kind → Type 0
  Fresh = UnreadAny unread_a unread_b unread_c IsNumbered

  abbrev replaying : Written → Option Span → List (Event × Span) → ℕ → Layer Kind
  replaying name ended es n = record {
    name = name;
    parser = Fourth (record { events = es; anchor_offset = n });
    ended = ended;
  }

  module _ (name : Written) (ended : Option Span) (n : ℕ) (e : Event × Span) (es : List (Event × Span)) where
    gives : (ls : List (Layer Kind)) → Gives e ≡ turn_of (is_none_left ls) false ended (Some (Ok e))
        → TurnsOnce Steps number Sets false (replaying name ended (e ∷ es) n ∷ ls) (Some (Ok e))
        (replaying name ended es (raised_by n e) ∷ ls)
    gives ls turns = (
      Gives e,
      replaying name ended es (raised_by n e),
      record { given = Some (Ok e); step = (refl, refl); turns = turns; name = refl; ended = refl },
      (refl, refl),
    )

    withholds : (end : Option Span) (ls : List (Layer Kind))
        → Withholds end ≡ turn_of (is_none_left ls) false ended (Some (Ok e))
        → TurnsOnce Steps number Sets false (replaying name ended (e ∷ es) n ∷ ls) None
        (replaying name end es (raised_by n e) ∷ ls)
    withholds end ls turns = (
      Withholds end,
      replaying name end es (raised_by n e),
      record { given = Some (Ok e); step = (refl, refl); turns = turns; name = refl; ended = refl },
      (refl, refl),
    )

    leaves : (k : Layer Kind) (ks : List (Layer Kind)) (q : Kind)
        → Leaves ≡ turn_of false false ended (Some (Ok e)) → Sets (max (number k.parser) (raised_by n e)) k.parser q
        → TurnsOnce Steps number Sets false (replaying name ended (e ∷ es) n ∷ k ∷ ks) None
        (record k { parser = q } ∷ ks)
    leaves k ks q turns sets = (
      Leaves,
      replaying name ended es (raised_by n e),
      record { given = Some (Ok e); step = (refl, refl); turns = turns; name = refl; ended = refl },
      (refl, (q, sets, refl)),
    )

  -- turns that give an event in the end are a call
  calls : {old mid new : List (Layer Kind)} {e : Event × Span} → Withheld Steps number Sets false old mid
      → TurnsOnce Steps number Sets false mid (Some (Ok e)) new → EndsStack (Some (Ok e)) None None
      → StepsTo Steps number Sets (running old) (Some (Ok e)) (running new)
  calls {mid = mid} {e = e} quiet turn ends = record {
    gives = (Ok e, refl, inl (mid, quiet, turn));
    peeked = refl;
    end = ends;
    emits_comments = refl;
  }

  pub small_comes : (name : List ℕ) → StackRun Steps number Sets
      (running (layer_of (Fourth (small_replay 2)) (owned_name name) ∷ small_layer 4 2 ∷ [])) small_end
      (running (small_layer 6 3 ∷ []))
  small_comes name =
      let end : Span = plain_span (example_mark 7 2 0) (example_mark 7 2 0) in
      one_call (calls (one_more (one_more none_yet (withholds _ _ _ _ _ None _ refl)) (withholds _ _ _ _ _ None _ refl))
      (gives _ _ _ _ _ _ refl) refl)
      (one_call (calls none_yet (gives _ _ _ _ _ _ refl) refl)
      (one_call (calls none_yet (gives _ _ _ _ _ _ refl) refl)
      (one_call (calls (one_more (one_more none_yet (withholds _ _ _ _ _ (Some end) _ refl))
      (leaves _ _ _ _ _ _ _ _ refl refl)) (gives _ _ _ _ _ _ refl) refl)
      (one_call (calls none_yet (gives _ _ _ _ _ _ refl) refl) no_call))))

  small_begins : StackRun Steps number Sets (running (small_layer 0 1 ∷ [])) (take 4 (small_events 1))
      (running (small_layer 4 2 ∷ []))
  small_begins =
      one_call (calls none_yet (gives _ _ _ _ _ _ refl) refl)
      (one_call (calls none_yet (gives _ _ _ _ _ _ refl) refl)
      (one_call (calls none_yet (gives _ _ _ _ _ _ refl) refl)
      (one_call (calls none_yet (gives _ _ _ _ _ _ refl) refl) no_call)))

  module _ {R : Type 0} (answers : R → List ℕ → Result Included Refused → R → Type 0) (errors : R → ℕ) where
    abbrev handling : Handling Kind R
    handling = record {
      offset_of = number;
      sets_offset = Sets;
      offset_over = above;
      again = Fourth;
      answers = answers;
      errors = errors;
    }

    abbrev Lives : Stacked Kind R → List (Event × Span) → Stacked Kind R → Type 0
    Lives = Happens Steps handling Fresh

    -- calls of `next_event` come first
    runs_on : (p s : Stack Kind) (o : OptionsData) (r : Option R) (q : Stacked Kind R) (es xs : List (Event × Span))
        → StackRun Steps number Sets p es s → Lives (record { stack = s; options = o; resolver = r }) xs q
        → Lives (record { stack = p; options = o; resolver = r }) (es ++ xs) q
    runs_on p s o r q es xs no_call more = more
    runs_on p s o r q es xs (one_call {mid = mid} {e = e} {es = rest} step run) more =
        is_next (Some (Ok e)) step (runs_on mid s o r q rest xs run more)

    small_begun : (r : R) (q : Stacked Kind R) (xs : List (Event × Span)) → Lives (lone (small_layer 4 2 ∷ []) r) xs q
        → Lives (lone [] r) (take 4 (small_events 1) ++ xs) q
    small_begun r q xs more =
        is_pushed (Fourth (record { events = small_events 1; anchor_offset = 1 }))
        (owned_name (codes "root")) (omega arith)
        (_, refl, refl) refl (runs_on _ _ _ _ q (take 4 (small_events 1)) xs small_begins more)

    pub small_before : (r : R) → Lives (lone [] r) (take 4 (small_events 1)) (lone (small_layer 4 2 ∷ []) r)
    small_before r = small_begun r (lone (small_layer 4 2 ∷ []) r) [] nothing

    module _ (name : List ℕ) (text : Bor (List ℕ)) (r q : R) (is : chars text.now ≡ small_text)
        (found : answers r name (Ok (Borrowed text)) q) (same : errors q ≡ errors r) where
      pub small_included : Includes handling (lone (small_layer 4 2 ∷ []) r) name (Ok tt)
          (lone (layer_of (Fourth (small_replay 2)) (owned_name name) ∷ small_layer 4 2 ∷ []) q)
      small_included =
          (Borrowed text, (q, refl, found, same, tt), (small_replay 2, small_read text is, (_, refl, refl)))

      pub small_lives : Lives (lone [] r) small_life (lone (small_layer 6 3 ∷ []) q)
      small_lives =
          small_begun r (lone (small_layer 6 3 ∷ []) q) small_end
          (is_included name (Ok tt) small_included refl
          (runs_on _ _ _ _ (lone (small_layer 6 3 ∷ []) q) small_end [] (small_comes name) nothing))
