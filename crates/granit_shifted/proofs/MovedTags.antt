-- Names, tags and directives are read alike wherever a text stands.
use Rattle.std.proofs.Common.{◌≡◌, ℕ, zero, suc, ◌+◌, ◌*◌, ◌==◌, ◌&&◌, ◌||◌, not, Bool, List, [], ◌∷◌, ◌++◌, length}
use Rattle.std.proofs.Common.{Option, Some, None, Ok, refl, ap, ◌∙◌}
use Rattle.std.specs.Prelude.{nat_lt, nat_le, slice_index, codes, if◌then◌else◌}
use Rattle.std.specs.Str.{chars, encode_utf8_all}
use Rattle.granit_base.specs.Classes.{is_blank, is_blank_or_breakz, is_breakz, is_hex, hex_value, is_digit, is_alpha}
use Rattle.granit_base.specs.Classes.{is_uri_char, is_tag_char, is_anchor_char, is_yaml_non_space, is_within}
use Rattle.granit_base.specs.Place.{Mark}
use Rattle.granit_base.specs.Written.{Written, same_text}
use Rattle.granit_error.specs.FaultKind as kinds
use Rattle.granit_error.specs.OptionsData.{OptionsData}
use Rattle.granit_lexemes.specs.Basics.{as_spelled, count_up_to, fails_at, text_up_to}
use Rattle.granit_lexemes.specs.Comment.{CommentRead}
use Rattle.granit_lexemes.specs.Directive.{word_up_to, digits_value, number_up_to, version_number, minor_number}
use Rattle.granit_lexemes.specs.Directive.{version_directive, blanks_within, ends_handle, behind_word, handle_by}
use Rattle.granit_lexemes.specs.Directive.{handle_at, prefix_ends, prefix_at, behind_handle_at, tag_directive}
use Rattle.granit_lexemes.specs.Directive.{ParameterState, parameter_behind, parameter_turn, parameters_len}
use Rattle.granit_lexemes.specs.Directive.{reserved_directive, directive_of, behind_name, directive_at}
use Rattle.granit_lexemes.specs.Directive.{is_reserved, DirectiveRead, directive_tail, directive_read, directive_up_to}
use Rattle.granit_lexemes.specs.Directive.{directive}
use Rattle.granit_lexemes.specs.Here.{Here, next_char, mark_of, step, past}
use Rattle.granit_lexemes.specs.Lexeme.{DirectiveKind, Version, TagPrefix, Reserved}
use Rattle.granit_lexemes.specs.Moves.{steps}
use Rattle.granit_lexemes.specs.Outcome.{fault_at, ◌>>=◌}
use Rattle.granit_lexemes.specs.Tags.{Budget, spent, UriState, is_utf8, escaped_byte, bytes_behind, trailing_bytes}
use Rattle.granit_lexemes.specs.Tags.{spelled_char, escaped_by, uri_turn, uri_len, decoded, TagRead, tag_of, tag_ends}
use Rattle.granit_lexemes.specs.Tags.{behind_verbatim, behind_handle, short_tag, tag_by, tag_at, name_up_to, name_at}
use Rattle.granit_shifted.specs.Shift.{moved_mark, moved_source, moved_here, moved_tail, Shift, moved_text}
use Rattle.granit_shifted.proofs.MovedLexemes.{Same, same_ok, same_no, same_if, same_then, same_at, on_state}
use Rattle.granit_shifted.proofs.MovedLexemes.{pieces_same, step_moved, steps_moved, past_moved, if_here, on_here}
use Rattle.granit_shifted.proofs.MovedBlocks.{itself}
use Rattle.granit_shifted.proofs.MovedLexemes.{on_tail, some_comment, tail_same}

module _ (shift : Shift) where
  -- ---- escapes

  abbrev moved_uri : UriState → UriState
  moved_uri s = record s { here = moved_here shift s.here }

  abbrev on_uri : {A : Type 0} → A × UriState → A × UriState
  on_uri x = (x.0, moved_uri x.1)

  spent_same : (b : Option Budget) (n : ℕ) (start : Mark)
      → Same shift (itself shift) (spent b n (moved_mark shift start)) (spent b n start)
  spent_same None n start = same_ok shift (itself shift) _ _ refl
  spent_same (Some b) n start = same_if shift (itself shift) (nat_lt b.left n) _ _ _ _
      (same_no shift (itself shift) (fault_at (kinds.DirectiveByteLimitExceeded b.limit) start))
      (same_ok shift (itself shift) _ _ refl)

  -- a value and a state at a place
  uri_ok : {A : Type 0} (x : A) (left : Option Budget) (g h : Here) → g ≡ moved_here shift h
      → Same shift on_uri (Ok (x, record { here = g; budget = left })) (Ok (x, record { here = h; budget = left }))
  uri_ok {A} x left g h e = same_ok shift on_uri _ _ (ap
      (λ (g : Here). let s : A × UriState = (x, record { here = g; budget = left }) in s) e)

  byte_same : (start : Mark) (s : UriState) → Same shift on_uri (escaped_byte (moved_mark shift start) (moved_uri s))
      (escaped_byte start s)
  unfolding escaped_byte
  byte_same start s =
      let c = slice_index s.here.unread.text 1 in let d = slice_index s.here.unread.text 2 in
      same_if shift on_uri ((next_char s.here == 0x25 && is_hex c) && is_hex d) _ _ _ _
      (same_then shift (itself shift) on_uri _ _ _ _ (spent_same s.budget 3 start)
      (λ left. uri_ok (hex_value c * 16 + hex_value d) left _ (steps 3 s.here) (steps_moved shift 3 s.here)))
      (same_no shift on_uri (fault_at kinds.InvalidTagEscape start))

  trailing_same : (start : Mark) (count : ℕ) (bytes : List ℕ) (s : UriState)
      → Same shift on_uri (trailing_bytes (moved_mark shift start) count bytes (moved_uri s))
      (trailing_bytes start count bytes s)
  unfolding trailing_bytes
  trailing_same start zero bytes s = same_ok shift on_uri (bytes, s) _ refl
  trailing_same start (suc count) bytes s =
      same_then shift on_uri on_uri _ _ _ _ (byte_same start s)
      (λ x. same_if shift on_uri (is_within 0x80 0xBF x.0) _ _ _ _ (trailing_same start count (bytes ++ x.0 ∷ []) x.1)
      (same_no shift on_uri (fault_at kinds.InvalidTagUtf8TrailingByte start)))

  spelled_same : (start : Mark) (bytes : List ℕ) (s : UriState)
      → Same shift on_uri (spelled_char (moved_mark shift start) bytes (moved_uri s)) (spelled_char start bytes s)
  spelled_same start bytes s = same_if shift on_uri (is_utf8 bytes) _ _ _ _
      (same_ok shift on_uri (Some (chars bytes), s) _ refl)
      (same_no shift on_uri (fault_at kinds.InvalidTagUtf8 start))

  escaped_same : (start : Mark) (count : Option ℕ) (b : ℕ) (s : UriState)
      → Same shift on_uri (escaped_by (moved_mark shift start) count b (moved_uri s)) (escaped_by start count b s)
  escaped_same start None b s = same_no shift on_uri (fault_at kinds.InvalidTagUtf8LeadingByte start)
  escaped_same start (Some count) b s = same_then shift on_uri on_uri _ _ _ _ (trailing_same start count (b ∷ []) s)
      (λ x. spelled_same start x.0 x.1)

  uri_turn_same : (test : ℕ → Bool) (start : Mark) (s : UriState)
      → Same shift (on_state shift moved_uri) (uri_turn test (moved_mark shift start) (moved_uri s))
      (uri_turn test start s)
  unfolding uri_turn
  uri_turn_same test start s =
      let f = on_uri {A = Option (List ℕ)} in
      same_if shift f (not (test (next_char s.here))) _ _ _ _ (same_ok shift f (None, s) _ refl)
      (same_if shift f (next_char s.here == 0x25) _ _ _ _
      (same_then shift on_uri f _ _ _ _ (byte_same start s) (λ x. escaped_same start (bytes_behind x.0) x.0 x.1))
      (same_then shift (itself shift) f _ _ _ _ (spent_same s.budget 1 start)
      (λ left. uri_ok (Some (next_char s.here ∷ [])) left _ (step s.here) (step_moved shift s.here))))

  decoded_same : (test : ℕ → Bool) (start : Mark) (budget : Option Budget) (h : Here)
      → Same shift on_uri (decoded test (moved_mark shift start) budget (moved_here shift h))
      (decoded test start budget h)
  decoded_same test start budget h = pieces_same shift uri_len moved_uri (uri_turn test (moved_mark shift start))
      (uri_turn test start)
      (λ s. refl) (uri_turn_same test start) (record { here = h; budget = budget })

  decoded_at : (test : ℕ → Bool) (start : Mark) (budget : Option Budget) (g h : Here) → g ≡ moved_here shift h
      → Same shift on_uri (decoded test (moved_mark shift start) budget g) (decoded test start budget h)
  decoded_at test start budget g h e = same_at shift on_uri (decoded test (moved_mark shift start) budget) g
      (moved_here shift h) _ e
      (decoded_same test start budget h)

  -- ---- tags

  tag_ends_same : (in_flow : Bool) (start : Mark) (tag : TagRead) (h : Here)
      → Same shift (on_here shift) (tag_ends in_flow (moved_mark shift start) tag (moved_here shift h))
      (tag_ends in_flow start tag h)
  unfolding tag_ends
  tag_ends_same in_flow start tag h =
      same_if shift (on_here shift) (is_blank_or_breakz (next_char h)
      || (in_flow && (next_char h == 0x2C || (next_char h == 0x5D || next_char h == 0x7D)))) _ _ _ _
      (same_ok shift (on_here shift) (tag, h) _ refl)
      (same_no shift (on_here shift) (fault_at kinds.InvalidTagTerminator start))

  verbatim_same : (in_flow : Bool) (start : Mark) (suffix : List ℕ) (h : Here)
      → Same shift (on_here shift) (behind_verbatim in_flow (moved_mark shift start) suffix (moved_here shift h))
      (behind_verbatim in_flow start suffix h)
  verbatim_same in_flow start suffix h =
      same_if shift (on_here shift) (length suffix == 0) _ _ _ _
      (same_no shift (on_here shift) (fault_at kinds.MissingTagUri start))
      (same_if shift (on_here shift) (not (next_char h == 0x3E)) _ _ _ _
      (same_no shift (on_here shift) (fault_at kinds.UnclosedVerbatimTag start))
      (same_at shift (on_here shift) (tag_ends in_flow (moved_mark shift start) (tag_of [] suffix))
      (step (moved_here shift h)) (moved_here shift (step h)) _
      (step_moved shift h) (tag_ends_same in_flow start (tag_of [] suffix) (step h))))

  behind_handle_same : (in_flow : Bool) (start : Mark) (handle suffix : List ℕ) (h : Here)
      → Same shift (on_here shift) (behind_handle in_flow (moved_mark shift start) handle suffix (moved_here shift h))
      (behind_handle in_flow start handle suffix h)
  behind_handle_same in_flow start handle suffix h = same_if shift (on_here shift) (length suffix == 0) _ _ _ _
      (same_no shift (on_here shift) (fault_at kinds.MissingTagUri start))
      (tag_ends_same in_flow start (tag_of handle suffix) h)

  named_same : (in_flow : Bool) (h word : Here)
      → Same shift (on_here shift) (decoded is_tag_char (moved_mark shift (mark_of h)) None
      (step (moved_here shift word)) >>=
      λ x. behind_handle
      in_flow (moved_mark shift (mark_of h)) (text_up_to (moved_here shift h) (step (moved_here shift word))) x.0
      x.1.here)
      (decoded is_tag_char (mark_of h) None (step word) >>= λ x. behind_handle in_flow (mark_of h)
      (text_up_to h (step word)) x.0 x.1.here)
  named_same in_flow h word =
      same_at shift (on_here shift) (λ (g : Here). decoded is_tag_char (moved_mark shift (mark_of h)) None g >>=
      λ x. behind_handle in_flow
      (moved_mark shift (mark_of h)) (text_up_to (moved_here shift h) g) x.0 x.1.here) (step (moved_here shift word))
      (moved_here shift (step word)) _ (step_moved shift word)
      (same_then shift on_uri (on_here shift) _ _ _ _ (decoded_same is_tag_char (mark_of h) None (step word))
      (λ x. behind_handle_same in_flow (mark_of h) (text_up_to h (step word)) x.0 x.1.here))

  short_same : (in_flow : Bool) (h word : Here)
      → Same shift (on_here shift) (decoded is_tag_char (moved_mark shift (mark_of h)) None (moved_here shift word) >>=
      λ x. tag_ends in_flow
      (moved_mark shift (mark_of h)) (short_tag (text_up_to (step (moved_here shift h)) (moved_here shift word) ++ x.0))
      x.1.here)
      (decoded is_tag_char (mark_of h) None word >>= λ x. tag_ends in_flow (mark_of h)
      (short_tag (text_up_to (step h) word ++ x.0)) x.1.here)
  short_same in_flow h word =
      same_at shift (on_here shift) (λ (g : Here). decoded is_tag_char (moved_mark shift (mark_of h)) None
      (moved_here shift word) >>= λ x. tag_ends
      in_flow (moved_mark shift (mark_of h)) (short_tag (text_up_to g (moved_here shift word) ++ x.0)) x.1.here)
      (step (moved_here shift h)) (moved_here shift (step h)) _ (step_moved shift h)
      (same_then shift on_uri (on_here shift) _ _ _ _ (decoded_same is_tag_char (mark_of h) None word)
      (λ x. tag_ends_same in_flow (mark_of h) (short_tag (text_up_to (step h) word ++ x.0)) x.1.here))

  tag_by_same : (in_flow : Bool) (h word : Here)
      → Same shift (on_here shift) (tag_by in_flow (moved_here shift h) (moved_here shift word)) (tag_by in_flow h word)
  tag_by_same in_flow h word = same_if shift (on_here shift) (next_char word == 0x21) _ _ _ _
      (named_same in_flow h word)
      (short_same in_flow h word)

  word_moved : (test : ℕ → Bool) (h : Here) → past test (step (moved_here shift h))
      ≡ moved_here shift (past test (step h))
  word_moved test h = ap (past test) (step_moved shift h) ∙ past_moved shift test (step h)

  pub tag_same : (in_flow : Bool) (h : Here) → Same shift (on_here shift) (tag_at in_flow (moved_here shift h))
      (tag_at in_flow h)
  unfolding tag_at
  tag_same in_flow h =
      same_if shift (on_here shift) (slice_index h.unread.text 1 == 0x3C) _ _ _ _
      (same_then shift on_uri (on_here shift) _ _ _ _
      (decoded_at is_uri_char (mark_of h) None (steps 2 (moved_here shift h)) (steps 2 h)
      (steps_moved shift 2 h)) (λ x. verbatim_same in_flow (mark_of h) x.0 x.1.here))
      (same_at shift (on_here shift) (tag_by in_flow (moved_here shift h)) (past is_alpha (step (moved_here shift h)))
      (moved_here shift (past is_alpha (step h))) _ (word_moved is_alpha h)
      (tag_by_same in_flow h (past is_alpha (step h))))

  -- ---- names

  abbrev pub on_name : Written × Here → Written × Here
  on_name x = (moved_text shift x.0, moved_here shift x.1)

  name_up_to_same : (h after : Here) → Same shift on_name (name_up_to (moved_here shift h) (moved_here shift after))
      (name_up_to h after)
  name_up_to_same h after =
      same_at shift on_name (λ (g : Here). if count_up_to g (moved_here shift after) == 0 then
      fails_at kinds.MissingAnchorOrAliasName (moved_mark shift (mark_of h)) else Ok (
        as_spelled (moved_here shift h) (text_up_to g (moved_here shift after)),
        moved_here
            shift after,
      ))
      (step (moved_here shift h)) (moved_here shift (step h)) _ (step_moved shift h)
      (same_if shift on_name (count_up_to (step h) after == 0) _ _ _ _
      (same_no shift on_name (fault_at kinds.MissingAnchorOrAliasName (mark_of h)))
      (same_ok shift on_name (as_spelled h (text_up_to (step h) after), after) _
      refl))

  pub name_same : (h : Here) → Same shift on_name (name_at (moved_here shift h)) (name_at h)
  unfolding name_at
  name_same h = same_at shift on_name (name_up_to (moved_here shift h))
      (past is_anchor_char (step (moved_here shift h)))
      (moved_here shift (past is_anchor_char (step h))) _ (word_moved is_anchor_char h)
      (name_up_to_same h (past is_anchor_char (step h)))

  -- ---- versions

  number_up_to_same : (start : Mark) (h after : Here)
      → Same shift (on_here shift) (number_up_to (moved_mark shift start) (moved_here shift h) (moved_here shift after))
      (number_up_to start h after)
  number_up_to_same start h after =
      same_if shift (on_here shift) (count_up_to h after == 0) _ _ _ _
      (same_no shift (on_here shift) (fault_at kinds.MissingYamlVersion start))
      (same_if shift (on_here shift) (nat_lt 9 (count_up_to h after)) _ _ _ _
      (same_no shift (on_here shift) (fault_at kinds.YamlVersionTooLong start))
      (same_ok shift (on_here shift) (digits_value 0 (text_up_to h after), after) _ refl))

  version_number_same : (start : Mark) (h : Here)
      → Same shift (on_here shift) (version_number (moved_mark shift start) (moved_here shift h))
      (version_number start h)
  unfolding version_number
  version_number_same start h = same_at shift (on_here shift)
      (number_up_to (moved_mark shift start) (moved_here shift h))
      (past is_digit (moved_here shift h)) (moved_here shift (past is_digit h)) _ (past_moved shift is_digit h)
      (number_up_to_same start h (past is_digit h))

  minor_same : (start : Mark) (h : Here) → Same shift (on_here shift)
      (minor_number (moved_mark shift start) (moved_here shift h))
      (minor_number start h)
  unfolding minor_number
  minor_same start h =
      same_if shift (on_here shift) (next_char h == 0x2E) _ _ _ _
      (same_at shift (on_here shift) (version_number (moved_mark shift start)) (step (moved_here shift h))
      (moved_here shift (step h)) _ (step_moved shift h)
      (version_number_same start (step h))) (same_no shift (on_here shift)
      (fault_at kinds.MissingYamlVersionSeparator start))

  version_same : (start : Mark) (h : Here) → Same shift (on_here shift)
      (version_directive (moved_mark shift start) (moved_here shift h))
      (version_directive start h)
  version_same start h =
      same_then shift (on_here shift) (on_here shift) _ _ _ _
      (same_at shift (on_here shift) (version_number (moved_mark shift start)) (past is_blank (moved_here shift h))
      (moved_here shift (past is_blank h)) (version_number start (past is_blank h)) (past_moved shift is_blank h)
      (version_number_same start (past is_blank h)))
      (λ major. same_then shift (on_here shift) (on_here shift) _ _ _ _ (minor_same start major.1)
      (λ minor. same_ok shift (on_here shift) (Version major.0 minor.0, minor.1) _ refl))

  -- ---- handles and prefixes

  blanks_same : (budget : Option Budget) (start : Mark) (h : Here)
      → Same shift (on_here shift) (blanks_within budget (moved_mark shift start) (moved_here shift h))
      (blanks_within budget start h)
  blanks_same budget start h =
      same_at shift (on_here shift) (λ (g : Here). spent budget (count_up_to (moved_here shift h) g)
      (moved_mark shift start)
      >>= λ left. Ok
      (left, g)) (past is_blank (moved_here shift h)) (moved_here shift (past is_blank h)) _
      (past_moved shift is_blank h)
      (same_then shift (itself shift) (on_here shift) _ _ _ _
      (spent_same budget (count_up_to h (past is_blank h)) start)
      (λ left. same_ok shift (on_here shift) (left, past is_blank h) _ refl))

  behind_word_moved : (word : Here) → behind_word (moved_here shift word) ≡ moved_here shift (behind_word word)
  behind_word_moved word = if_here shift (next_char word == 0x21) _ _ _ _ (step_moved shift word) refl

  handle_by_same : (budget : Option Budget) (start : Mark) (h word : Here)
      → Same shift (on_here shift) (handle_by budget (moved_mark shift start) (moved_here shift h)
      (moved_here shift word))
      (handle_by budget start h word)
  unfolding handle_by
  handle_by_same budget start h word =
      same_at shift (on_here shift) (λ (g : Here). spent budget (count_up_to (moved_here shift h) g)
      (moved_mark shift start)
      >>=
      λ left. if ends_handle (moved_here shift h) (moved_here shift word) then Ok (left, g) else
      fails_at kinds.ExpectedTagDirectiveBang (moved_mark shift start))
      (behind_word (moved_here shift word)) (moved_here shift (behind_word word)) _ (behind_word_moved word)
      (same_then shift (itself shift) (on_here shift) _ _ _ _
      (spent_same budget (count_up_to h (behind_word word)) start)
      (λ left. same_if shift (on_here shift) (ends_handle h word) _ _ _ _
      (same_ok shift (on_here shift) (left, behind_word word) _ refl)
      (same_no shift (on_here shift) (fault_at kinds.ExpectedTagDirectiveBang start))))

  handle_at_same : (budget : Option Budget) (start : Mark) (h : Here)
      → Same shift (on_here shift) (handle_at budget (moved_mark shift start) (moved_here shift h))
      (handle_at budget start h)
  unfolding handle_at
  handle_at_same budget start h =
      same_if shift (on_here shift) (next_char h == 0x21) _ _ _ _
      (same_at shift (on_here shift) (handle_by budget (moved_mark shift start) (moved_here shift h))
      (past is_alpha (step (moved_here shift h)))
      (moved_here shift (past is_alpha (step h))) _ (word_moved is_alpha h)
      (handle_by_same budget start h (past is_alpha (step h))))
      (same_no shift (on_here shift) (fault_at kinds.ExpectedTagBang start))

  prefix_ends_same : (start : Mark) (handle prefix : List ℕ) (h : Here)
      → Same shift (on_here shift) (prefix_ends (moved_mark shift start) handle prefix (moved_here shift h))
      (prefix_ends start handle prefix h)
  prefix_ends_same start handle prefix h = same_if shift (on_here shift) (is_blank_or_breakz (next_char h)) _ _ _ _
      (same_ok shift (on_here shift) (TagPrefix handle prefix, h) _ refl)
      (same_no shift (on_here shift) (fault_at kinds.InvalidTagDirectiveTerminator start))

  prefix_same : (budget : Option Budget) (start : Mark) (handle : List ℕ) (h : Here)
      → Same shift (on_here shift) (prefix_at budget (moved_mark shift start) handle (moved_here shift h))
      (prefix_at budget start handle h)
  unfolding prefix_at
  prefix_same budget start handle h =
      same_if shift (on_here shift) (next_char h == 0x21) _ _ _ _
      (same_then shift (itself shift) (on_here shift) _ _ _ _ (spent_same budget 1 start)
      (λ left. same_then shift on_uri (on_here shift) _ _ _ _
      (decoded_at is_uri_char start left (step (moved_here shift h)) (step h) (step_moved shift h))
      (λ x. prefix_ends_same start handle (0x21 ∷ x.0) x.1.here)))
      (same_if shift (on_here shift) (is_tag_char (next_char h)) _ _ _ _
      (same_then shift on_uri (on_here shift) _ _ _ _ (decoded_same is_uri_char start budget h)
      (λ x. prefix_ends_same start handle x.0 x.1.here))
      (same_no shift (on_here shift) (fault_at kinds.InvalidGlobalTagCharacter start)))

  behind_handle_at_same : (start : Mark) (h : Here) (x : Option Budget × Here)
      → Same shift (on_here shift) (behind_handle_at (moved_mark shift start) (moved_here shift h) (on_here shift x))
      (behind_handle_at start h x)
  behind_handle_at_same start h x = same_then shift (on_here shift) (on_here shift) _ _ _ _ (blanks_same x.0 start x.1)
      (λ y. prefix_same y.0 start (text_up_to h x.1) y.1)

  tag_directive_same : (budget : Option Budget) (start : Mark) (h : Here)
      → Same shift (on_here shift) (tag_directive budget (moved_mark shift start) (moved_here shift h))
      (tag_directive budget start h)
  tag_directive_same budget start h = same_then shift (on_here shift) (on_here shift) _ _ _ _
      (blanks_same budget start h)
      (λ x. same_then shift (on_here shift) (on_here shift) _ _ _ _ (handle_at_same x.0 start x.1)
      (behind_handle_at_same start x.1))

  -- ---- reserved directives

  abbrev moved_parameters : ParameterState → ParameterState
  moved_parameters s = record s { here = moved_here shift s.here }

  word_same : (budget : Option Budget) (start : Mark) (h after : Here)
      → Same shift (on_here shift) (word_up_to budget (moved_mark shift start) (moved_here shift h)
      (moved_here shift after))
      (word_up_to budget start h after)
  word_same budget start h after = same_then shift (itself shift) (on_here shift) _ _ _ _
      (spent_same budget (length (encode_utf8_all (text_up_to h after))) start)
      (λ left. same_ok shift (on_here shift) (left, after) _ refl)

  parameter_same : (o : OptionsData) (start : Mark) (s : ParameterState) (h : Here)
      → Same shift (on_state shift moved_parameters)
      (parameter_behind o (moved_mark shift start) (moved_parameters s) (moved_here shift h))
      (parameter_behind o start s h)
  unfolding parameter_behind
  parameter_same o start s h =
      let f = on_state shift {A = Option (List (List ℕ))} moved_parameters in
      same_if shift f ((count_up_to s.here h == 0 || next_char h == 0x23) || is_blank_or_breakz (next_char h)) _ _ _ _
      (same_ok shift f (None, record s { here = h }) _ refl)
      (same_then shift (itself shift) f _ _ _ _ (spent_same s.budget (count_up_to s.here h) start)
      (λ left. same_if shift f (nat_le o.max_reserved_directive_params s.count) _ _ _ _
      (same_no shift f (fault_at (kinds.TooManyReservedDirectiveParams o.max_reserved_directive_params) start))
      (same_then shift (on_here shift) f _ _ _ _
      (same_at shift (on_here shift) (word_up_to left (moved_mark shift start) (moved_here shift h))
      (past is_yaml_non_space (moved_here shift h)) (moved_here shift (past is_yaml_non_space h))
      (word_up_to left start h (past is_yaml_non_space h)) (past_moved shift is_yaml_non_space h)
      (word_same left start h (past is_yaml_non_space h)))
      (λ x. same_ok shift f (Some (text_up_to h x.1 ∷ []), record { here = x.1; budget = x.0; count = s.count + 1 }) _
      refl))))

  parameter_turn_same : (o : OptionsData) (start : Mark) (s : ParameterState)
      → Same shift (on_state shift moved_parameters) (parameter_turn o (moved_mark shift start) (moved_parameters s))
      (parameter_turn o start s)
  parameter_turn_same o start s = same_at shift (on_state shift moved_parameters)
      (parameter_behind o (moved_mark shift start) (moved_parameters s)) (past is_blank (moved_here shift s.here))
      (moved_here shift (past is_blank s.here)) _ (past_moved shift is_blank s.here)
      (parameter_same o start s (past is_blank s.here))

  reserved_same : (o : OptionsData) (budget : Option Budget) (start : Mark) (name : List ℕ) (h : Here)
      → Same shift (on_here shift) (reserved_directive o budget (moved_mark shift start) name (moved_here shift h))
      (reserved_directive o budget start name h)
  reserved_same o budget start name h =
      same_then shift (on_state shift moved_parameters) (on_here shift) _ _ _ _
      (pieces_same shift parameters_len moved_parameters (parameter_turn o (moved_mark shift start))
      (parameter_turn o start)
      (λ s. refl) (parameter_turn_same o start) (record { here = h; budget = budget; count = 0 }))
      (λ x. same_ok shift (on_here shift) (Reserved name x.0, x.1.here) _ refl)

  -- ---- any directive

  directive_of_same : (o : OptionsData) (budget : Option Budget) (start : Mark) (name : List ℕ) (h : Here)
      → Same shift (on_here shift) (directive_of o budget (moved_mark shift start) name (moved_here shift h))
      (directive_of o budget start name h)
  unfolding directive_of
  directive_of_same o budget start name h =
      same_if shift (on_here shift) (same_text name (codes "YAML")) _ _ _ _ (version_same start h)
      (same_if shift (on_here shift) (same_text name (codes "TAG")) _ _ _ _ (tag_directive_same budget start h)
      (reserved_same o budget start name h))

  behind_name_same : (o : OptionsData) (start : Mark) (h : Here) (x : Option Budget × Here)
      → Same shift (on_here shift) (behind_name o (moved_mark shift start) (moved_here shift h) (on_here shift x))
      (behind_name o start h x)
  behind_name_same o start h x =
      same_if shift (on_here shift) (count_up_to h x.1 == 0) _ _ _ _
      (same_no shift (on_here shift) (fault_at kinds.MissingDirectiveName (mark_of h)))
      (same_if shift (on_here shift) (not (is_blank_or_breakz (next_char x.1))) _ _ _ _
      (same_no shift (on_here shift) (fault_at kinds.InvalidDirectiveName (mark_of h)))
      (directive_of_same o x.0 start (text_up_to h x.1) x.1))

  directive_at_same : (o : OptionsData) (h : Here)
      → Same shift (on_here shift) (directive_at o (moved_here shift h)) (directive_at o h)
  unfolding directive_at
  directive_at_same o h =
      let budget : Option Budget = Some (record { left = o.max_directive_bytes; limit = o.max_directive_bytes }) in
      same_at shift (on_here shift) (λ (g : Here). word_up_to budget (mark_of g) g (past is_yaml_non_space g) >>=
      behind_name o
      (moved_mark shift (mark_of h)) g) (step (moved_here shift h)) (moved_here shift (step h)) _ (step_moved shift h)
      (same_then shift (on_here shift) (on_here shift) _ _ _ _ (same_at shift (on_here shift)
      (word_up_to budget (moved_mark shift (mark_of (step h))) (moved_here shift (step h)))
      (past is_yaml_non_space (moved_here shift (step h))) (moved_here shift (past is_yaml_non_space (step h)))
      (word_up_to budget (mark_of (step h)) (step h) (past is_yaml_non_space (step h)))
      (past_moved shift is_yaml_non_space (step h))
      (word_same budget (mark_of (step h)) (step h) (past is_yaml_non_space (step h))))
      (λ x. behind_name_same o (mark_of h) (step h) x))

  -- ---- its line

  abbrev pub on_directive : DirectiveRead × Here → DirectiveRead × Here
  on_directive x = (
    record { kind = x.0.kind; source = moved_source shift x.0.source; noted = moved_tail shift x.0.noted },
    moved_here shift
        x.1,
  )

  directive_tail_same : (kind : DirectiveKind) (end : Here)
      → Same shift (on_tail shift) (directive_tail kind (moved_here shift end)) (directive_tail kind end)
  unfolding directive_tail
  directive_tail_same kind end = same_if shift (on_tail shift) (is_reserved kind && next_char end == 0x23) _ _ _ _
      (some_comment shift end)
      (tail_same shift end)

  directive_up_to_same : (h : Here) (kind : DirectiveKind) (end : Here) (noted : Option CommentRead) (after : Here)
      → Same shift on_directive (directive_up_to (moved_here shift h) kind (moved_here shift end)
      (moved_tail shift noted)
      (moved_here shift after))
      (directive_up_to h kind end noted after)
  unfolding directive_up_to
  directive_up_to_same h kind end noted after = same_if shift on_directive (is_breakz (next_char after)) _ _ _ _
      (same_ok shift on_directive (directive_read h kind end noted, after) _ refl)
      (same_no shift on_directive (fault_at kinds.InvalidDirectiveTerminator (mark_of h)))

  pub directive_same : (o : OptionsData) (h : Here)
      → Same shift on_directive (directive o (moved_here shift h)) (directive o h)
  unfolding directive
  directive_same o h =
      same_if shift on_directive o.disallow_directives _ _ _ _
      (same_no shift on_directive (fault_at kinds.DirectiveDisallowed (mark_of h)))
      (same_then shift (on_here shift) on_directive _ _ _ _ (directive_at_same o h)
      (λ x. same_then shift (on_tail shift) on_directive _ _ _ _ (directive_tail_same x.0 x.1)
      (λ y. directive_up_to_same h x.0 x.1 y.0 y.1)))
