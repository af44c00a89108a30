-- Names, tags and directives are read alike where byte offsets or lending are forgotten.
use Rattle.std.proofs.Common.{◌≡◌, ℕ, zero, suc, ◌+◌, ◌*◌, ◌==◌, ◌&&◌, ◌||◌, not, Bool, List, [], ◌∷◌, ◌++◌, length}
use Rattle.std.proofs.Common.{Option, Some, None, Ok, refl, ap, ◌∙◌}
use Rattle.std.specs.Prelude.{nat_lt, nat_le, slice_index, codes, if◌then◌else◌}
use Rattle.std.specs.Str.{chars, encode_utf8_all}
use Rattle.granit_base.specs.Classes.{is_blank, is_blank_or_breakz, is_breakz, is_hex, hex_value, is_digit, is_alpha}
use Rattle.granit_base.specs.Classes.{is_uri_char, is_tag_char, is_anchor_char, is_yaml_non_space, is_within}
use Rattle.granit_base.specs.Place.{Mark}
use Rattle.granit_base.specs.Written.{Written, same_text}
use Rattle.granit_error.specs.FaultKind as kinds
use Rattle.granit_error.specs.OptionsData.{OptionsData}
use Rattle.granit_lexemes.specs.Basics.{text_up_to, count_up_to}
use Rattle.granit_lexemes.specs.Comment.{CommentRead}
use Rattle.granit_lexemes.specs.Directive.{word_up_to, digits_value, number_up_to, version_number, minor_number}
use Rattle.granit_lexemes.specs.Directive.{version_directive, blanks_within, ends_handle, behind_word, handle_by}
use Rattle.granit_lexemes.specs.Directive.{handle_at, prefix_ends, prefix_at, behind_handle_at, tag_directive}
use Rattle.granit_lexemes.specs.Directive.{ParameterState, parameter_behind, parameter_turn, parameters_len}
use Rattle.granit_lexemes.specs.Directive.{reserved_directive, directive_of, behind_name, directive_at}
use Rattle.granit_lexemes.specs.Directive.{is_reserved, DirectiveRead, directive_tail, directive_read, directive_up_to}
use Rattle.granit_lexemes.specs.Directive.{directive}
use Rattle.granit_lexemes.specs.Here.{Here, next_char, mark_of, step, past}
use Rattle.granit_lexemes.specs.Lexeme.{DirectiveKind, Version, TagPrefix, Reserved}
use Rattle.granit_lexemes.specs.Moves.{steps}
use Rattle.granit_lexemes.specs.Outcome.{fault_at, ◌>>=◌}
use Rattle.granit_lexemes.specs.Tags.{Budget, spent, UriState, is_utf8, escaped_byte, bytes_behind, trailing_bytes}
use Rattle.granit_lexemes.specs.Tags.{spelled_char, escaped_by, uri_turn, uri_len, decoded, TagRead, tag_of, tag_ends}
use Rattle.granit_lexemes.specs.Tags.{behind_verbatim, behind_handle, short_tag, tag_by, tag_at, name_up_to, name_at}
use Rattle.granit_feeding.specs.Offsets.{bare_mark, bare_source, bare_here, bare_tail, Kept, bare_text}
use Rattle.granit_offsets.proofs.BareLexemes.{Same, same_ok, same_no, same_if, same_then, same_at, on_state}
use Rattle.granit_offsets.proofs.BareLexemes.{pieces_same, step_bare, steps_bare, past_bare, if_here, on_here}
use Rattle.granit_offsets.proofs.BareLexemes.{on_tail, some_comment, tail_same, itself}

module _ (keep : Kept) where
  -- ---- escapes

  abbrev bare_uri : UriState → UriState
  bare_uri s = record s { here = bare_here keep s.here }

  abbrev on_uri : {A : Type 0} → A × UriState → A × UriState
  on_uri x = (x.0, bare_uri x.1)

  spent_same : (b : Option Budget) (n : ℕ) (start : Mark)
      → Same keep (itself keep) (spent b n (bare_mark keep start)) (spent b n start)
  spent_same None n start = same_ok keep (itself keep) _ _ refl
  spent_same (Some b) n start = same_if keep (itself keep) (nat_lt b.left n) _ _ _ _
      (same_no keep (itself keep) (fault_at (kinds.DirectiveByteLimitExceeded b.limit) start))
      (same_ok keep (itself keep) _ _ refl)

  -- a value and a state at a place
  uri_ok : {A : Type 0} (x : A) (left : Option Budget) (g h : Here) → g ≡ bare_here keep h
      → Same keep on_uri (Ok (x, record { here = g; budget = left })) (Ok (x, record { here = h; budget = left }))
  uri_ok {A} x left g h e = same_ok keep on_uri _ _ (ap
      (λ (g : Here). let s : A × UriState = (x, record { here = g; budget = left }) in s) e)

  byte_same : (start : Mark) (s : UriState) → Same keep on_uri (escaped_byte (bare_mark keep start) (bare_uri s))
      (escaped_byte start s)
  unfolding escaped_byte
  byte_same start s =
      let c = slice_index s.here.unread.text 1 in let d = slice_index s.here.unread.text 2 in
      same_if keep on_uri ((next_char s.here == 0x25 && is_hex c) && is_hex d) _ _ _ _
      (same_then keep (itself keep) on_uri _ _ _ _ (spent_same s.budget 3 start)
      (λ left. uri_ok (hex_value c * 16 + hex_value d) left _ (steps 3 s.here) (steps_bare keep 3 s.here)))
      (same_no keep on_uri (fault_at kinds.InvalidTagEscape start))

  trailing_same : (start : Mark) (count : ℕ) (bytes : List ℕ) (s : UriState)
      → Same keep on_uri (trailing_bytes (bare_mark keep start) count bytes (bare_uri s))
      (trailing_bytes start count bytes s)
  unfolding trailing_bytes
  trailing_same start zero bytes s = same_ok keep on_uri (bytes, s) _ refl
  trailing_same start (suc count) bytes s =
      same_then keep on_uri on_uri _ _ _ _ (byte_same start s)
      (λ x. same_if keep on_uri (is_within 0x80 0xBF x.0) _ _ _ _ (trailing_same start count (bytes ++ x.0 ∷ []) x.1)
      (same_no keep on_uri (fault_at kinds.InvalidTagUtf8TrailingByte start)))

  spelled_same : (start : Mark) (bytes : List ℕ) (s : UriState)
      → Same keep on_uri (spelled_char (bare_mark keep start) bytes (bare_uri s)) (spelled_char start bytes s)
  spelled_same start bytes s = same_if keep on_uri (is_utf8 bytes) _ _ _ _
      (same_ok keep on_uri (Some (chars bytes), s) _ refl)
      (same_no keep on_uri (fault_at kinds.InvalidTagUtf8 start))

  escaped_same : (start : Mark) (count : Option ℕ) (b : ℕ) (s : UriState)
      → Same keep on_uri (escaped_by (bare_mark keep start) count b (bare_uri s)) (escaped_by start count b s)
  escaped_same start None b s = same_no keep on_uri (fault_at kinds.InvalidTagUtf8LeadingByte start)
  escaped_same start (Some count) b s = same_then keep on_uri on_uri _ _ _ _ (trailing_same start count (b ∷ []) s)
      (λ x. spelled_same start x.0 x.1)

  uri_turn_same : (test : ℕ → Bool) (start : Mark) (s : UriState)
      → Same keep (on_state keep bare_uri) (uri_turn test (bare_mark keep start) (bare_uri s)) (uri_turn test start s)
  unfolding uri_turn
  uri_turn_same test start s =
      let f = on_uri {A = Option (List ℕ)} in
      same_if keep f (not (test (next_char s.here))) _ _ _ _ (same_ok keep f (None, s) _ refl)
      (same_if keep f (next_char s.here == 0x25) _ _ _ _
      (same_then keep on_uri f _ _ _ _ (byte_same start s) (λ x. escaped_same start (bytes_behind x.0) x.0 x.1))
      (same_then keep (itself keep) f _ _ _ _ (spent_same s.budget 1 start)
      (λ left. uri_ok (Some (next_char s.here ∷ [])) left _ (step s.here) (step_bare keep s.here))))

  decoded_same : (test : ℕ → Bool) (start : Mark) (budget : Option Budget) (h : Here)
      → Same keep on_uri (decoded test (bare_mark keep start) budget (bare_here keep h)) (decoded test start budget h)
  decoded_same test start budget h = pieces_same keep uri_len bare_uri (uri_turn test (bare_mark keep start))
      (uri_turn test start)
      (λ s. refl) (uri_turn_same test start) (record { here = h; budget = budget })

  decoded_at : (test : ℕ → Bool) (start : Mark) (budget : Option Budget) (g h : Here) → g ≡ bare_here keep h
      → Same keep on_uri (decoded test (bare_mark keep start) budget g) (decoded test start budget h)
  decoded_at test start budget g h e = same_at keep on_uri (decoded test (bare_mark keep start) budget) g
      (bare_here keep h) _ e
      (decoded_same test start budget h)

  -- ---- tags

  tag_ends_same : (in_flow : Bool) (start : Mark) (tag : TagRead) (h : Here)
      → Same keep (on_here keep) (tag_ends in_flow (bare_mark keep start) tag (bare_here keep h))
      (tag_ends in_flow start tag h)
  unfolding tag_ends
  tag_ends_same in_flow start tag h =
      same_if keep (on_here keep) (is_blank_or_breakz (next_char h)
      || (in_flow && (next_char h == 0x2C || (next_char h == 0x5D || next_char h == 0x7D)))) _ _ _ _
      (same_ok keep (on_here keep) (tag, h) _ refl)
      (same_no keep (on_here keep) (fault_at kinds.InvalidTagTerminator start))

  verbatim_same : (in_flow : Bool) (start : Mark) (suffix : List ℕ) (h : Here)
      → Same keep (on_here keep) (behind_verbatim in_flow (bare_mark keep start) suffix (bare_here keep h))
      (behind_verbatim in_flow start suffix h)
  verbatim_same in_flow start suffix h =
      same_if keep (on_here keep) (length suffix == 0) _ _ _ _
      (same_no keep (on_here keep) (fault_at kinds.MissingTagUri start))
      (same_if keep (on_here keep) (not (next_char h == 0x3E)) _ _ _ _
      (same_no keep (on_here keep) (fault_at kinds.UnclosedVerbatimTag start))
      (same_at keep (on_here keep) (tag_ends in_flow (bare_mark keep start) (tag_of [] suffix))
      (step (bare_here keep h)) (bare_here keep (step h)) _
      (step_bare keep h) (tag_ends_same in_flow start (tag_of [] suffix) (step h))))

  behind_handle_same : (in_flow : Bool) (start : Mark) (handle suffix : List ℕ) (h : Here)
      → Same keep (on_here keep) (behind_handle in_flow (bare_mark keep start) handle suffix (bare_here keep h))
      (behind_handle in_flow start handle suffix h)
  behind_handle_same in_flow start handle suffix h = same_if keep (on_here keep) (length suffix == 0) _ _ _ _
      (same_no keep (on_here keep) (fault_at kinds.MissingTagUri start))
      (tag_ends_same in_flow start (tag_of handle suffix) h)

  named_same : (in_flow : Bool) (h word : Here)
      → Same keep (on_here keep) (decoded is_tag_char (bare_mark keep (mark_of h)) None (step (bare_here keep word)) >>=
      λ x. behind_handle
      in_flow (bare_mark keep (mark_of h)) (text_up_to (bare_here keep h) (step (bare_here keep word))) x.0 x.1.here)
      (decoded is_tag_char (mark_of h) None (step word) >>= λ x. behind_handle in_flow (mark_of h)
      (text_up_to h (step word)) x.0 x.1.here)
  named_same in_flow h word =
      same_at keep (on_here keep) (λ (g : Here). decoded is_tag_char (bare_mark keep (mark_of h)) None g >>=
      λ x. behind_handle in_flow
      (bare_mark keep (mark_of h)) (text_up_to (bare_here keep h) g) x.0 x.1.here) (step (bare_here keep word))
      (bare_here keep (step word)) _ (step_bare keep word)
      (same_then keep on_uri (on_here keep) _ _ _ _ (decoded_same is_tag_char (mark_of h) None (step word))
      (λ x. behind_handle_same in_flow (mark_of h) (text_up_to h (step word)) x.0 x.1.here))

  short_same : (in_flow : Bool) (h word : Here)
      → Same keep (on_here keep) (decoded is_tag_char (bare_mark keep (mark_of h)) None (bare_here keep word) >>=
      λ x. tag_ends in_flow
      (bare_mark keep (mark_of h)) (short_tag (text_up_to (step (bare_here keep h)) (bare_here keep word) ++ x.0))
      x.1.here)
      (decoded is_tag_char (mark_of h) None word >>= λ x. tag_ends in_flow (mark_of h)
      (short_tag (text_up_to (step h) word ++ x.0)) x.1.here)
  short_same in_flow h word =
      same_at keep (on_here keep) (λ (g : Here). decoded is_tag_char (bare_mark keep (mark_of h)) None
      (bare_here keep word) >>= λ x. tag_ends
      in_flow (bare_mark keep (mark_of h)) (short_tag (text_up_to g (bare_here keep word) ++ x.0)) x.1.here)
      (step (bare_here keep h)) (bare_here keep (step h)) _ (step_bare keep h)
      (same_then keep on_uri (on_here keep) _ _ _ _ (decoded_same is_tag_char (mark_of h) None word)
      (λ x. tag_ends_same in_flow (mark_of h) (short_tag (text_up_to (step h) word ++ x.0)) x.1.here))

  tag_by_same : (in_flow : Bool) (h word : Here)
      → Same keep (on_here keep) (tag_by in_flow (bare_here keep h) (bare_here keep word)) (tag_by in_flow h word)
  tag_by_same in_flow h word = same_if keep (on_here keep) (next_char word == 0x21) _ _ _ _ (named_same in_flow h word)
      (short_same in_flow h word)

  word_bare : (test : ℕ → Bool) (h : Here) → past test (step (bare_here keep h)) ≡ bare_here keep (past test (step h))
  word_bare test h = ap (past test) (step_bare keep h) ∙ past_bare keep test (step h)

  pub tag_same : (in_flow : Bool) (h : Here) → Same keep (on_here keep) (tag_at in_flow (bare_here keep h))
      (tag_at in_flow h)
  unfolding tag_at
  tag_same in_flow h =
      same_if keep (on_here keep) (slice_index h.unread.text 1 == 0x3C) _ _ _ _
      (same_then keep on_uri (on_here keep) _ _ _ _
      (decoded_at is_uri_char (mark_of h) None (steps 2 (bare_here keep h)) (steps 2 h)
      (steps_bare keep 2 h)) (λ x. verbatim_same in_flow (mark_of h) x.0 x.1.here))
      (same_at keep (on_here keep) (tag_by in_flow (bare_here keep h)) (past is_alpha (step (bare_here keep h)))
      (bare_here keep (past is_alpha (step h))) _ (word_bare is_alpha h)
      (tag_by_same in_flow h (past is_alpha (step h))))

  -- ---- names

  abbrev pub on_name : Written × Here → Written × Here
  on_name x = (bare_text keep x.0, bare_here keep x.1)

  name_up_to_same : (h after : Here) → Same keep on_name (name_up_to (bare_here keep h) (bare_here keep after))
      (name_up_to h after)
  name_up_to_same h after =
      same_at keep on_name (λ (g : Here). if count_up_to g (bare_here keep after) == 0 then
      Rattle.granit_lexemes.specs.Basics.fails_at kinds.MissingAnchorOrAliasName (bare_mark keep (mark_of h)) else Ok (
        Rattle.granit_lexemes.specs.Basics.as_spelled (bare_here keep h) (text_up_to g (bare_here keep after)),
        bare_here
            keep after,
      ))
      (step (bare_here keep h)) (bare_here keep (step h)) _ (step_bare keep h)
      (same_if keep on_name (count_up_to (step h) after == 0) _ _ _ _
      (same_no keep on_name (fault_at kinds.MissingAnchorOrAliasName (mark_of h)))
      (same_ok keep on_name (Rattle.granit_lexemes.specs.Basics.as_spelled h (text_up_to (step h) after), after) _
      refl))

  pub name_same : (h : Here) → Same keep on_name (name_at (bare_here keep h)) (name_at h)
  unfolding name_at
  name_same h = same_at keep on_name (name_up_to (bare_here keep h)) (past is_anchor_char (step (bare_here keep h)))
      (bare_here keep (past is_anchor_char (step h))) _ (word_bare is_anchor_char h)
      (name_up_to_same h (past is_anchor_char (step h)))

  -- ---- versions

  number_up_to_same : (start : Mark) (h after : Here)
      → Same keep (on_here keep) (number_up_to (bare_mark keep start) (bare_here keep h) (bare_here keep after))
      (number_up_to start h after)
  number_up_to_same start h after =
      same_if keep (on_here keep) (count_up_to h after == 0) _ _ _ _
      (same_no keep (on_here keep) (fault_at kinds.MissingYamlVersion start))
      (same_if keep (on_here keep) (nat_lt 9 (count_up_to h after)) _ _ _ _
      (same_no keep (on_here keep) (fault_at kinds.YamlVersionTooLong start))
      (same_ok keep (on_here keep) (digits_value 0 (text_up_to h after), after) _ refl))

  version_number_same : (start : Mark) (h : Here)
      → Same keep (on_here keep) (version_number (bare_mark keep start) (bare_here keep h)) (version_number start h)
  unfolding version_number
  version_number_same start h = same_at keep (on_here keep) (number_up_to (bare_mark keep start) (bare_here keep h))
      (past is_digit (bare_here keep h)) (bare_here keep (past is_digit h)) _ (past_bare keep is_digit h)
      (number_up_to_same start h (past is_digit h))

  minor_same : (start : Mark) (h : Here) → Same keep (on_here keep)
      (minor_number (bare_mark keep start) (bare_here keep h))
      (minor_number start h)
  unfolding minor_number
  minor_same start h =
      same_if keep (on_here keep) (next_char h == 0x2E) _ _ _ _
      (same_at keep (on_here keep) (version_number (bare_mark keep start)) (step (bare_here keep h))
      (bare_here keep (step h)) _ (step_bare keep h)
      (version_number_same start (step h))) (same_no keep (on_here keep)
      (fault_at kinds.MissingYamlVersionSeparator start))

  version_same : (start : Mark) (h : Here) → Same keep (on_here keep)
      (version_directive (bare_mark keep start) (bare_here keep h))
      (version_directive start h)
  version_same start h =
      same_then keep (on_here keep) (on_here keep) _ _ _ _
      (same_at keep (on_here keep) (version_number (bare_mark keep start)) (past is_blank (bare_here keep h))
      (bare_here keep (past is_blank h)) (version_number start (past is_blank h)) (past_bare keep is_blank h)
      (version_number_same start (past is_blank h)))
      (λ major. same_then keep (on_here keep) (on_here keep) _ _ _ _ (minor_same start major.1)
      (λ minor. same_ok keep (on_here keep) (Version major.0 minor.0, minor.1) _ refl))

  -- ---- handles and prefixes

  blanks_same : (budget : Option Budget) (start : Mark) (h : Here)
      → Same keep (on_here keep) (blanks_within budget (bare_mark keep start) (bare_here keep h))
      (blanks_within budget start h)
  blanks_same budget start h =
      same_at keep (on_here keep) (λ (g : Here). spent budget (count_up_to (bare_here keep h) g) (bare_mark keep start)
      >>= λ left. Ok
      (left, g)) (past is_blank (bare_here keep h)) (bare_here keep (past is_blank h)) _ (past_bare keep is_blank h)
      (same_then keep (itself keep) (on_here keep) _ _ _ _ (spent_same budget (count_up_to h (past is_blank h)) start)
      (λ left. same_ok keep (on_here keep) (left, past is_blank h) _ refl))

  behind_word_bare : (word : Here) → behind_word (bare_here keep word) ≡ bare_here keep (behind_word word)
  behind_word_bare word = if_here keep (next_char word == 0x21) _ _ _ _ (step_bare keep word) refl

  handle_by_same : (budget : Option Budget) (start : Mark) (h word : Here)
      → Same keep (on_here keep) (handle_by budget (bare_mark keep start) (bare_here keep h) (bare_here keep word))
      (handle_by budget start h word)
  unfolding handle_by
  handle_by_same budget start h word =
      same_at keep (on_here keep) (λ (g : Here). spent budget (count_up_to (bare_here keep h) g) (bare_mark keep start)
      >>=
      λ left. if ends_handle (bare_here keep h) (bare_here keep word) then Ok (left, g) else
      Rattle.granit_lexemes.specs.Basics.fails_at kinds.ExpectedTagDirectiveBang (bare_mark keep start))
      (behind_word (bare_here keep word)) (bare_here keep (behind_word word)) _ (behind_word_bare word)
      (same_then keep (itself keep) (on_here keep) _ _ _ _ (spent_same budget (count_up_to h (behind_word word)) start)
      (λ left. same_if keep (on_here keep) (ends_handle h word) _ _ _ _
      (same_ok keep (on_here keep) (left, behind_word word) _ refl)
      (same_no keep (on_here keep) (fault_at kinds.ExpectedTagDirectiveBang start))))

  handle_at_same : (budget : Option Budget) (start : Mark) (h : Here)
      → Same keep (on_here keep) (handle_at budget (bare_mark keep start) (bare_here keep h)) (handle_at budget start h)
  unfolding handle_at
  handle_at_same budget start h =
      same_if keep (on_here keep) (next_char h == 0x21) _ _ _ _
      (same_at keep (on_here keep) (handle_by budget (bare_mark keep start) (bare_here keep h))
      (past is_alpha (step (bare_here keep h)))
      (bare_here keep (past is_alpha (step h))) _ (word_bare is_alpha h)
      (handle_by_same budget start h (past is_alpha (step h))))
      (same_no keep (on_here keep) (fault_at kinds.ExpectedTagBang start))

  prefix_ends_same : (start : Mark) (handle prefix : List ℕ) (h : Here)
      → Same keep (on_here keep) (prefix_ends (bare_mark keep start) handle prefix (bare_here keep h))
      (prefix_ends start handle prefix h)
  prefix_ends_same start handle prefix h = same_if keep (on_here keep) (is_blank_or_breakz (next_char h)) _ _ _ _
      (same_ok keep (on_here keep) (TagPrefix handle prefix, h) _ refl)
      (same_no keep (on_here keep) (fault_at kinds.InvalidTagDirectiveTerminator start))

  prefix_same : (budget : Option Budget) (start : Mark) (handle : List ℕ) (h : Here)
      → Same keep (on_here keep) (prefix_at budget (bare_mark keep start) handle (bare_here keep h))
      (prefix_at budget start handle h)
  unfolding prefix_at
  prefix_same budget start handle h =
      same_if keep (on_here keep) (next_char h == 0x21) _ _ _ _
      (same_then keep (itself keep) (on_here keep) _ _ _ _ (spent_same budget 1 start)
      (λ left. same_then keep on_uri (on_here keep) _ _ _ _
      (decoded_at is_uri_char start left (step (bare_here keep h)) (step h) (step_bare keep h))
      (λ x. prefix_ends_same start handle (0x21 ∷ x.0) x.1.here)))
      (same_if keep (on_here keep) (is_tag_char (next_char h)) _ _ _ _
      (same_then keep on_uri (on_here keep) _ _ _ _ (decoded_same is_uri_char start budget h)
      (λ x. prefix_ends_same start handle x.0 x.1.here))
      (same_no keep (on_here keep) (fault_at kinds.InvalidGlobalTagCharacter start)))

  behind_handle_at_same : (start : Mark) (h : Here) (x : Option Budget × Here)
      → Same keep (on_here keep) (behind_handle_at (bare_mark keep start) (bare_here keep h) (on_here keep x))
      (behind_handle_at start h x)
  behind_handle_at_same start h x = same_then keep (on_here keep) (on_here keep) _ _ _ _ (blanks_same x.0 start x.1)
      (λ y. prefix_same y.0 start (text_up_to h x.1) y.1)

  tag_directive_same : (budget : Option Budget) (start : Mark) (h : Here)
      → Same keep (on_here keep) (tag_directive budget (bare_mark keep start) (bare_here keep h))
      (tag_directive budget start h)
  tag_directive_same budget start h = same_then keep (on_here keep) (on_here keep) _ _ _ _ (blanks_same budget start h)
      (λ x. same_then keep (on_here keep) (on_here keep) _ _ _ _ (handle_at_same x.0 start x.1)
      (behind_handle_at_same start x.1))

  -- ---- reserved directives

  abbrev bare_parameters : ParameterState → ParameterState
  bare_parameters s = record s { here = bare_here keep s.here }

  word_same : (budget : Option Budget) (start : Mark) (h after : Here)
      → Same keep (on_here keep) (word_up_to budget (bare_mark keep start) (bare_here keep h) (bare_here keep after))
      (word_up_to budget start h after)
  word_same budget start h after = same_then keep (itself keep) (on_here keep) _ _ _ _
      (spent_same budget (length (encode_utf8_all (text_up_to h after))) start)
      (λ left. same_ok keep (on_here keep) (left, after) _ refl)

  parameter_same : (o : OptionsData) (start : Mark) (s : ParameterState) (h : Here)
      → Same keep (on_state keep bare_parameters)
      (parameter_behind o (bare_mark keep start) (bare_parameters s) (bare_here keep h))
      (parameter_behind o start s h)
  unfolding parameter_behind
  parameter_same o start s h =
      let f = on_state keep {A = Option (List (List ℕ))} bare_parameters in
      same_if keep f ((count_up_to s.here h == 0 || next_char h == 0x23) || is_blank_or_breakz (next_char h)) _ _ _ _
      (same_ok keep f (None, record s { here = h }) _ refl)
      (same_then keep (itself keep) f _ _ _ _ (spent_same s.budget (count_up_to s.here h) start)
      (λ left. same_if keep f (nat_le o.max_reserved_directive_params s.count) _ _ _ _
      (same_no keep f (fault_at (kinds.TooManyReservedDirectiveParams o.max_reserved_directive_params) start))
      (same_then keep (on_here keep) f _ _ _ _
      (same_at keep (on_here keep) (word_up_to left (bare_mark keep start) (bare_here keep h))
      (past is_yaml_non_space (bare_here keep h)) (bare_here keep (past is_yaml_non_space h))
      (word_up_to left start h (past is_yaml_non_space h)) (past_bare keep is_yaml_non_space h)
      (word_same left start h (past is_yaml_non_space h)))
      (λ x. same_ok keep f (Some (text_up_to h x.1 ∷ []), record { here = x.1; budget = x.0; count = s.count + 1 }) _
      refl))))

  parameter_turn_same : (o : OptionsData) (start : Mark) (s : ParameterState)
      → Same keep (on_state keep bare_parameters) (parameter_turn o (bare_mark keep start) (bare_parameters s))
      (parameter_turn o start s)
  parameter_turn_same o start s = same_at keep (on_state keep bare_parameters)
      (parameter_behind o (bare_mark keep start) (bare_parameters s)) (past is_blank (bare_here keep s.here))
      (bare_here keep (past is_blank s.here)) _ (past_bare keep is_blank s.here)
      (parameter_same o start s (past is_blank s.here))

  reserved_same : (o : OptionsData) (budget : Option Budget) (start : Mark) (name : List ℕ) (h : Here)
      → Same keep (on_here keep) (reserved_directive o budget (bare_mark keep start) name (bare_here keep h))
      (reserved_directive o budget start name h)
  reserved_same o budget start name h =
      same_then keep (on_state keep bare_parameters) (on_here keep) _ _ _ _
      (pieces_same keep parameters_len bare_parameters (parameter_turn o (bare_mark keep start))
      (parameter_turn o start)
      (λ s. refl) (parameter_turn_same o start) (record { here = h; budget = budget; count = 0 }))
      (λ x. same_ok keep (on_here keep) (Reserved name x.0, x.1.here) _ refl)

  -- ---- any directive

  directive_of_same : (o : OptionsData) (budget : Option Budget) (start : Mark) (name : List ℕ) (h : Here)
      → Same keep (on_here keep) (directive_of o budget (bare_mark keep start) name (bare_here keep h))
      (directive_of o budget start name h)
  unfolding directive_of
  directive_of_same o budget start name h =
      same_if keep (on_here keep) (same_text name (codes "YAML")) _ _ _ _ (version_same start h)
      (same_if keep (on_here keep) (same_text name (codes "TAG")) _ _ _ _ (tag_directive_same budget start h)
      (reserved_same o budget start name h))

  behind_name_same : (o : OptionsData) (start : Mark) (h : Here) (x : Option Budget × Here)
      → Same keep (on_here keep) (behind_name o (bare_mark keep start) (bare_here keep h) (on_here keep x))
      (behind_name o start h x)
  behind_name_same o start h x =
      same_if keep (on_here keep) (count_up_to h x.1 == 0) _ _ _ _
      (same_no keep (on_here keep) (fault_at kinds.MissingDirectiveName (mark_of h)))
      (same_if keep (on_here keep) (not (is_blank_or_breakz (next_char x.1))) _ _ _ _
      (same_no keep (on_here keep) (fault_at kinds.InvalidDirectiveName (mark_of h)))
      (directive_of_same o x.0 start (text_up_to h x.1) x.1))

  directive_at_same : (o : OptionsData) (h : Here)
      → Same keep (on_here keep) (directive_at o (bare_here keep h)) (directive_at o h)
  unfolding directive_at
  directive_at_same o h =
      let budget : Option Budget = Some (record { left = o.max_directive_bytes; limit = o.max_directive_bytes }) in
      same_at keep (on_here keep) (λ (g : Here). word_up_to budget (mark_of g) g (past is_yaml_non_space g) >>=
      behind_name o
      (bare_mark keep (mark_of h)) g) (step (bare_here keep h)) (bare_here keep (step h)) _ (step_bare keep h)
      (same_then keep (on_here keep) (on_here keep) _ _ _ _ (same_at keep (on_here keep)
      (word_up_to budget (bare_mark keep (mark_of (step h))) (bare_here keep (step h)))
      (past is_yaml_non_space (bare_here keep (step h))) (bare_here keep (past is_yaml_non_space (step h)))
      (word_up_to budget (mark_of (step h)) (step h) (past is_yaml_non_space (step h)))
      (past_bare keep is_yaml_non_space (step h))
      (word_same budget (mark_of (step h)) (step h) (past is_yaml_non_space (step h))))
      (λ x. behind_name_same o (mark_of h) (step h) x))

  -- ---- its line

  abbrev pub on_directive : DirectiveRead × Here → DirectiveRead × Here
  on_directive x = (
    record { kind = x.0.kind; source = bare_source keep x.0.source; noted = bare_tail keep x.0.noted },
    bare_here keep
        x.1,
  )

  directive_tail_same : (kind : DirectiveKind) (end : Here)
      → Same keep (on_tail keep) (directive_tail kind (bare_here keep end)) (directive_tail kind end)
  unfolding directive_tail
  directive_tail_same kind end = same_if keep (on_tail keep) (is_reserved kind && next_char end == 0x23) _ _ _ _
      (some_comment keep end)
      (tail_same keep end)

  directive_up_to_same : (h : Here) (kind : DirectiveKind) (end : Here) (noted : Option CommentRead) (after : Here)
      → Same keep on_directive (directive_up_to (bare_here keep h) kind (bare_here keep end) (bare_tail keep noted)
      (bare_here keep after))
      (directive_up_to h kind end noted after)
  unfolding directive_up_to
  directive_up_to_same h kind end noted after = same_if keep on_directive (is_breakz (next_char after)) _ _ _ _
      (same_ok keep on_directive (directive_read h kind end noted, after) _ refl)
      (same_no keep on_directive (fault_at kinds.InvalidDirectiveTerminator (mark_of h)))

  pub directive_same : (o : OptionsData) (h : Here)
      → Same keep on_directive (directive o (bare_here keep h)) (directive o h)
  unfolding directive
  directive_same o h =
      same_if keep on_directive o.disallow_directives _ _ _ _
      (same_no keep on_directive (fault_at kinds.DirectiveDisallowed (mark_of h)))
      (same_then keep (on_here keep) on_directive _ _ _ _ (directive_at_same o h)
      (λ x. same_then keep (on_tail keep) on_directive _ _ _ _ (directive_tail_same x.0 x.1)
      (λ y. directive_up_to_same h x.0 x.1 y.0 y.1)))
