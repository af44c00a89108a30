-- A line that declares a handle is read as a directive, wherever it stands at the start of a line.
use Rattle.std.proofs.Common.{◌≡◌, ℕ, suc, ◌+◌, ◌||◌, Bool, true, false, List, [], ◌∷◌, ◌++◌, length, Some}
use Rattle.std.proofs.Common.{None, Ok, refl, sym, ap, ap₂, ◌∙◌, subst, arith, length-append}
use Rattle.std.proofs.lemmas.Bool.Decides.{nat_tests}
use Rattle.std.specs.Char.{encode_utf8}
use Rattle.std.specs.Prelude.{codes}
use Rattle.std.specs.Str.{encode_utf8_all}
use Rattle.granit_base.specs.Classes.{is_blank, is_blank_or_breakz, is_break, is_breakz, is_bom, is_digit}
use Rattle.granit_base.specs.Classes.{is_gap, is_printable, is_uri_char, is_uri_sign, is_word_char}
use Rattle.granit_base.specs.Classes.{is_yaml_non_break, is_yaml_non_space, is_z}
use Rattle.granit_base.specs.Place.{first}
use Rattle.granit_error.specs.OptionsData.{OptionsData}
use Rattle.granit_language.specs.Begins as begins
use Rattle.granit_lexemes.proofs.CharTests.{no_blank_break}
use Rattle.granit_lexemes.proofs.HereLemmas.{no_line_end}
use Rattle.granit_lexemes.specs.Directive.{DirectiveRead, directive}
use Rattle.granit_lexemes.specs.DirectiveExtent.{All, DirectiveNameStands, DirectiveStands}
use Rattle.granit_lexemes.specs.DirectiveExtent.{bytes_of, handle}
use Rattle.granit_lexemes.specs.DirectiveExtent.{nothing}
use Rattle.granit_lexemes.specs.Gap.{Each}
use Rattle.granit_lexemes.specs.Here.{Here, mark_of, start_of}
use Rattle.granit_lexemes.specs.Lexeme as lexemes
use Rattle.granit_lexemes.specs.Lexeme.{Lexeme, OfLexeme, TagPrefix}
use Rattle.granit_lexemes.specs.Basics.{past_break}
use Rattle.granit_lexemes.specs.Outcome.{◌>>=◌}
use Rattle.granit_lexemes.specs.PlainExtent.{over}
use Rattle.granit_machine.specs.Gaps.{gap_ends, over_break_if, past_gap, ready_gap}
use Rattle.granit_machine.specs.LexemeSort.{LexemeSort}
use Rattle.granit_machine.specs.Reader.{lexeme_by, read, read_whole}
use Rattle.granit_machine.specs.ReaderState.{lexeme_to}
use Rattle.granit_machine.specs.StreamLexemes.{directive_given}
use Rattle.granit_handles.proofs.HandleLaw.{blank_part, each_as, is_uri_or_blank, uri_part}
use Rattle.granit_handles.proofs.HandleOnce.{ends_no_uri, handle_each}
use Rattle.granit_names.proofs.Kept.{each-append}
use Rattle.granit_reading.proofs.ReadAnswers.{whole_is}
use Rattle.granit_names.proofs.Spelling.{spelled_each, uri_class}
use Rattle.granit_reading.proofs.SortAnswers.{sort_answers}
use Rattle.granit_behind.proofs.AloneStates.{seen_first, sum_none}
use Rattle.granit_led.proofs.KeptDeclared.{stands_before}
use Rattle.granit_behind.proofs.LineGaps.{Seen, here_at, laid_at, seen_behind, step_line, step_on}
use Rattle.granit_led.specs.Declaring.{DeclaresHandle}

-- ---- over characters of the line

break_parts_words : (c : ℕ) → is_break c ≡ true → is_blank_or_breakz c ≡ true
unfolding is_blank_or_breakz is_breakz
break_parts_words c e = on (is_blank c) (is_break c) (is_z c) e
  where
    on : (a b z : Bool) → b ≡ true → (a || (b || z)) ≡ true
    on true b z e = refl
    on false true z e = refl
    on false false z e = absurd (cc)

part_no_break : (c : ℕ) → is_uri_or_blank c ≡ true → is_break c ≡ false
part_no_break c e = by (is_break c) refl
  where
    by : (v : Bool) → is_break c ≡ v → is_break c ≡ false
    by false p = p
    by true p =
        let n : is_uri_or_blank c ≡ false =
        ap₂ (λ (a b : Bool). a || b) (no_blank_break c p) (ends_no_uri c (break_parts_words c p)) in
        absurd (cc)

-- the place behind characters on one line, at which this is known of the line
pub record PartsOver (cs ds : List ℕ) (b i n : ℕ) (s : Seen) : Type 0 where
  pub seen : Seen
  pub is : over cs (here_at (cs ++ ds) (Some b) true i n s)
      ≡ here_at ds (Some (b + bytes_of cs)) true (i + length cs) n seen

pub over_parts : (cs ds : List ℕ) (b i n : ℕ) (s : Seen) → Each is_uri_or_blank cs → PartsOver cs ds b i n s
over_parts [] ds b i n s y = record {
  seen = s;
  is = ap₂ (λ (b i : ℕ). here_at ds (Some b) true i n s) (sym (sum_none b)) (sym (sum_none i));
}
over_parts (c ∷ cs) ds b i n s y =
    let behind = over_parts cs ds (b + length (encode_utf8 c)) (i + 1) n
    (seen_behind c (cs ++ ds) (Some b) i n s) y.1 in
    let bytes : bytes_of (c ∷ cs) ≡ length (encode_utf8 c) + bytes_of cs =
    length-append (encode_utf8 c) (encode_utf8_all cs) in
    record {
      seen = behind.seen;
      is = ap (over cs) (step_on c (cs ++ ds) (Some b) true i n s
          (no_line_end c (cs ++ ds) (part_no_break c y.0)))
          ∙ behind.is
          ∙ ap₂ (λ (b i : ℕ). here_at ds (Some b) true i n behind.seen) (omega (arith, bytes)) (omega arith);
    }

pub past_line_feed : (ds : List ℕ) (b i n : ℕ) (s : Seen)
    → over_break_if (here_at (0x0A ∷ ds) (Some b) true i n s)
    ≡ here_at ds (Some (b + 1)) true (i + 1) (n + 1) seen_first
unfolding over_break_if past_break is_break encode_utf8
past_line_feed ds b i n s = step_line 0x0A ds (Some b) true i n s refl

-- ---- what the line says

parts_ended : (c : ℕ) → is_blank_or_breakz c ≡ true → is_yaml_non_space c ≡ false
unfolding is_blank_or_breakz is_breakz is_z is_blank is_break is_yaml_non_space is_yaml_non_break is_printable
parts_ended c e = grind (arith, nat_tests, e)

parted_before : (source behind : List ℕ) → is_blank_or_breakz (first source) ≡ true
    → is_blank_or_breakz (first (source ++ 0x0A ∷ behind)) ≡ true
unfolding is_blank_or_breakz is_breakz is_blank is_break
parted_before [] behind e = refl
parted_before (c ∷ source) behind e = e

tag_letters : Each is_yaml_non_space (codes "TAG")
unfolding is_yaml_non_space is_yaml_non_break is_printable is_break is_bom is_blank
tag_letters = (refl, (refl, (refl, tt)))

pub feed_parts : (text : List ℕ) → is_blank_or_breakz (first (0x0A ∷ text)) ≡ true
unfolding is_blank_or_breakz is_breakz is_blank is_break
feed_parts text = refl

letters_part : Each is_uri_or_blank (0x25 ∷ codes "TAG")
unfolding is_blank is_uri_char is_uri_sign is_word_char is_digit
letters_part = (refl, (refl, (refl, (refl, tt))))

module _ {o : OptionsData} {line word prefix : List ℕ} (d : DeclaresHandle o line word prefix) where
  source_each : Each is_uri_or_blank d.source
  source_each =
      let s = d.stands in
      let p = is_uri_or_blank in
      let m = mark_of (start_of []) in
      subst (Each p) (sym s.is) (each-append p s.blanks (word ++ (s.gap ++ s.spelled))
      (each_as is_blank p blank_part s.blanks s.handle_is.each)
      (each-append p word (s.gap ++ s.spelled) (handle_each m 0 word _ s.handle_is.spells)
      (each-append p s.gap s.spelled (each_as is_blank p blank_part s.gap s.each)
      (each_as is_uri_char p uri_part s.spelled (spelled_each uri_class s.prefix_is.spells)))))

  abbrev pub declaring : List ℕ
  declaring = 0x25 ∷ (codes "TAG" ++ d.source)

  declaring_each : Each is_uri_or_blank declaring
  declaring_each = each-append is_uri_or_blank (0x25 ∷ codes "TAG") d.source letters_part source_each

  module _ (behind : List ℕ) (b i n : ℕ) where
    abbrev pub declaring_start : Here
    declaring_start = here_at (declaring ++ 0x0A ∷ behind) (Some b) true i n seen_first

    pub declaring_over : PartsOver declaring (0x0A ∷ behind) b i n seen_first
    declaring_over = over_parts declaring (0x0A ∷ behind) b i n seen_first declaring_each

    abbrev pub declaring_end : Here
    declaring_end = here_at (0x0A ∷ behind) (Some (b + bytes_of declaring)) true (i + length declaring) n
        declaring_over.seen

    abbrev declaring_read : DirectiveRead
    declaring_read = record {
      kind = TagPrefix word prefix;
      source = record { start = mark_of declaring_start; end = mark_of declaring_end };
      noted = None;
    }

    tag_name_stands : DirectiveNameStands o declaring_start (codes "TAG") (d.source ++ 0x0A ∷ behind)
    tag_name_stands =
        let ends = parted_before d.source behind d.parted in
        record {
          is = record {
            text = codes "TAG" ++ (d.source ++ 0x0A ∷ behind);
            begins = refl;
            is = record { whole = refl; each = tag_letters; all = parts_ended _ ends };
          };
          some = λ e. absurd (cc);
          within = let a = d.within in omega (arith, a);
          parted = ends;
        }

    declaring_stands : DirectiveStands o declaring_start (TagPrefix word prefix) declaring_end
    declaring_stands = record {
      name = codes "TAG";
      rest = d.source ++ 0x0A ∷ behind;
      source = d.source;
      stands = tag_name_stands;
      goes = handle (0x0A ∷ behind) refl (stands_before (0x0A ∷ behind) d.stands) (feed_parts behind) d.within;
      reached = sym declaring_over.is;
    }

    no_blank_in_front : All is_blank (0x0A ∷ behind) [] (0x0A ∷ behind)
    unfolding is_blank
    no_blank_in_front = record { whole = refl; each = tt; all = refl }

    feed_breaks : is_breakz (first (0x0A ∷ behind)) ≡ true
    unfolding is_breakz is_break
    feed_breaks = refl

    declaring_answered : directive o declaring_start ≡ Ok (declaring_read, declaring_end)
    declaring_answered = whole_is o declaring_start declaring_read declaring_end (record {
      allowed = d.allowed;
      end = declaring_end;
      stands = declaring_stands;
      line = nothing no_blank_in_front feed_breaks;
      place = refl;
    })

    -- ---- the read

    abbrev pub declaring_lexeme : ℕ → Lexeme
    declaring_lexeme number = lexeme_to false (lexemes.Directive (TagPrefix word prefix)) (mark_of declaring_end)
        declaring_start (laid_at number true)

    abbrev pub past_declaring : Here
    past_declaring = here_at behind (Some (b + bytes_of declaring + 1)) true (i + length declaring + 1) (n + 1)
        seen_first

    -- the directive, and then the next line
    pub declaring_reads : (number : ℕ)
        → read o (record { here = declaring_start; laid = laid_at number true })
        ≡ Ok (
          OfLexeme (declaring_lexeme number) ∷ [],
          record { here = past_declaring; laid = laid_at (suc number) true },
        )
    unfolding read past_gap gap_ends ready_gap lexeme_by is_gap is_blank is_break is_bom is_breakz is_z
    declaring_reads number =
        let l = laid_at number true in
        ap (λ (sort : LexemeSort). lexeme_by o sort declaring_start l >>= λ y. read_whole o y.0 y.1)
        (sort_answers false false declaring_start (begins.directive refl))
        ∙ ap (λ r. r >>= (λ x. directive_given false declaring_start l x.0 x.1) >>= λ y. read_whole o y.0 y.1)
        declaring_answered
        ∙ ap (λ (h : Here). Ok
        (OfLexeme (declaring_lexeme number) ∷ [], record { here = h; laid = laid_at (suc number) true }))
        (past_line_feed behind (b + bytes_of declaring) (i + length declaring) n declaring_over.seen)
