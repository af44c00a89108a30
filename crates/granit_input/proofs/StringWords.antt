-- Words of a plain scalar that a string lends.
use Rattle.std.proofs.Common.{◌≡◌, ℕ, ◌+◌, ◌-◌, ◌<◌, ◌≤◌, ◌==◌, ◌&&◌, ◌||◌, not, Bool, true, false, List, [], ◌∷◌}
use Rattle.std.proofs.Common.{◌++◌, length}
use Rattle.std.proofs.Common.{take, drop, slice_index, Option, Some, None, refl, sym, ap, ◌∙◌, subst, arith}
use Rattle.std.specs.Str.{chars, encode_utf8_all}
use Rattle.std.proofs.lemmas.Bool.{and_parts, not-true}
use Rattle.std.proofs.lemmas.Bool.Decides.{nat_tests}
use Rattle.std.proofs.lemmas.List.{drop-drop, length-append, length-drop}
use Rattle.granit_base.specs.Classes.{is_blank, is_blank_or_breakz, is_break, is_breakz, is_flow, is_z}
use Rattle.granit_base.specs.Place.{Unread, first}
use Rattle.granit_base.specs.PlainContent.{is_content}
use Rattle.granit_runs.specs.Cuts.{SpellsFront}
use Rattle.granit_runs.specs.Runs.{begins_word, is_plain_word, run_length, starts}
use Rattle.granit_runs.specs.Unread.{left_of, past_count, utf8_length}
use Rattle.granit_runs.specs.White.{is_skipped}
use Rattle.granit_runs.specs.declared.whitespace.SkipTabs.TheVariants.{No}
use Rattle.granit_runs.specs.Words.{AreWords, EndsLine, EndsWords, LendsWords, SplitsLineEnd, SplitsWords, stops_words}
use Rattle.granit_runs.proofs.AsciiLemmas.{spells_on}
use Rattle.granit_runs.proofs.RunLemmas.{front_whole, run_within}
use Rattle.granit_runs.proofs.StringLemmas.{past_bytes}

-- ---- behind words no word goes on

no_space : (c : ℕ) → (c == 0x3A || is_flow c) ≡ true → (c == 0x20) ≡ false
unfolding is_flow
no_space c is = grind (arith, nat_tests)

pub stop_no_word : (in_flow : Bool) (text : List ℕ) → stops_words in_flow text ≡ true
    → is_plain_word in_flow text ≡ false
stop_no_word in_flow text stops =
    let parts = and_parts (first text == 0x3A || is_flow (first text)) (not (is_content in_flow text)) stops in
    rw (not-true (is_content in_flow text) parts.1, no_space (first text) parts.0) refl

pub feed_no_word : (in_flow : Bool) (text : List ℕ) → first text ≡ 0x0A → is_plain_word in_flow text ≡ false
unfolding is_blank_or_breakz is_breakz is_break is_blank
feed_no_word in_flow text feed = rw feed refl

feed_some : (text : List ℕ) → first text ≡ 0x0A → 0 < length text
feed_some [] feed = absurd cc
feed_some (c ∷ cs) feed = omega arith

module _ (in_flow : Bool) (source rest behind : List ℕ) (n : ℕ) (fits : length rest ≤ length source)
    (w : SplitsWords in_flow rest n behind) where
  rest_length : length rest ≡ n + length behind
  rest_length =
      ap length w.bytes ∙ length-append (encode_utf8_all (take n (chars rest))) behind
      ∙ ap (λ (m : ℕ). m + length behind) w.words.single

  taken_count : length source - length behind - (length source - length rest) ≡ n
  taken_count = omega (arith, rest_length, fits)

  -- they are lent from where the rest begins
  pub lends_words : (u : Unread) → is_plain_word in_flow (chars behind) ≡ false → u ≡ left_of source rest
      → LendsWords in_flow u (length source - length rest) (length source - length behind)
  lends_words u over is =
      let text : chars rest ≡ u.text = sym (ap (λ (v : Unread). v.text) is) in
      let whole : n ≡ run_length (is_plain_word in_flow) (chars rest) =
      front_whole (is_plain_word in_flow) (chars rest) n (record { rest = w.front })
      (ap (is_plain_word in_flow) (sym w.rest) ∙ over) in
      record {
        words = subst (λ (t : List ℕ). AreWords t (length source - length behind - (length source - length rest))) text
            (subst (AreWords (chars rest)) (sym taken_count) w.words);
        whole = taken_count ∙ whole ∙ ap (run_length (is_plain_word in_flow)) text;
        offset = ap (λ (v : Unread). v.offset) is;
        lends = ap (λ (v : Unread). v.lends) is;
      }

  text_behind : (u : Unread) → u ≡ left_of source rest
      → drop (length source - length behind - (length source - length rest)) u.text ≡ chars behind
  text_behind u is =
      ap (λ (m : ℕ). drop m u.text) taken_count ∙ ap (λ (v : Unread). drop n v.text) is ∙ sym w.rest

  -- what stops them stands next
  pub stopped : (u : Unread) → stops_words in_flow (chars behind) ≡ true → u ≡ left_of source rest
      → EndsWords in_flow None u (length source - length behind - (length source - length rest)) None
      (λ v. v ≡ left_of source behind)
  stopped u stops is = (
    ap (stops_words in_flow) (text_behind u is) ∙ stops,
    ap (λ (m : ℕ). past_count m u) taken_count ∙ ap (past_count n) is
        ∙ past_bytes source rest behind n fits w.rest w.bytes,
  )

  module _ (column : Option ℕ) (spaces : ℕ) (after : List ℕ)
      (p : SplitsLineEnd in_flow column behind spaces after) where
    pub both_bytes : SpellsFront rest (n + (1 + spaces)) after
    both_bytes = spells_on rest behind after n (1 + spaces) w.rest w.bytes p.bytes

    both_text : chars after ≡ drop (n + (1 + spaces)) (chars rest)
    both_text = p.rest ∙ ap (drop (1 + spaces)) w.rest ∙ drop-drop (1 + spaces) n (chars rest)

    -- and a line was passed with them
    pub line_ended : (u : Unread) → u ≡ left_of source rest
        → EndsLine in_flow column spaces (drop (length source - length behind - (length source - length rest)) u.text)
        × (past_count (length source - length behind - (length source - length rest) + (1 + spaces)) u
        ≡ left_of source after)
    line_ended u is = (
      subst (EndsLine in_flow column spaces) (sym (text_behind u is)) p.ends,
      ap (λ (m : ℕ). past_count (m + (1 + spaces)) u) taken_count ∙ ap (past_count (n + (1 + spaces))) is
          ∙ past_bytes source rest after (n + (1 + spaces)) fits both_text both_bytes,
    )

    -- so many fewer characters are left
    pub line_left : length (chars after) + (length source - length behind - (length source - length rest)
        + (1 + spaces)) ≤ length (chars rest)
    line_left =
        let some = feed_some (chars behind) p.ends.feed in
        let blanks = run_within (starts (is_skipped No)) (drop 1 (chars behind)) in
        omega (
          arith,
          taken_count,
          p.ends.blanks,
          some,
          blanks,
          length-drop 1 (chars behind),
          ap length w.rest
              ∙ length-drop n (chars rest),
          ap length both_text
              ∙ length-drop (n + (1 + spaces)) (chars rest),
        )

  pub words_left : length (chars behind) + (length source - length behind - (length source - length rest) + 0)
      ≤ length (chars rest)
  words_left =
      omega (
        arith,
        taken_count,
        w.front,
        run_within (is_plain_word in_flow) (chars rest),
        ap length w.rest ∙ length-drop n (chars rest),
      )

  pub some_taken : length source - length rest < length source - length behind
  some_taken = omega (arith, rest_length, fits, w.words.some)
