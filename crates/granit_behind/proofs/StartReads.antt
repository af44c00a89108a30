-- A `---` in column 0 is read, and a document begins.
use Rattle.std.proofs.Common.{◌≡◌, ℕ, suc, ◌+◌, Bool, true, false, ◌||◌, List, [], ◌∷◌, Option, None, Ok}
use Rattle.std.proofs.Common.{refl, sym, ap, ◌∙◌}
use Rattle.granit_base.specs.Classes.{is_blank, is_break, is_blank_or_breakz, is_breakz, is_gap, is_bom, is_z}
use Rattle.granit_base.specs.Place.{first}
use Rattle.granit_error.specs.OptionsData.{OptionsData}
use Rattle.granit_language.specs.Begins.{dashes}
use Rattle.granit_lexemes.specs.Here.{Here, mark_of}
use Rattle.granit_lexemes.specs.Lexeme.{DocumentStart, Lexeme, OfLexeme}
use Rattle.granit_lexemes.specs.Moves.{steps}
use Rattle.granit_lexemes.specs.Outcome.{◌>>=◌}
use Rattle.granit_machine.specs.Gaps.{past_gap, gap_ends, ready_gap}
use Rattle.granit_machine.specs.LexemeSort.{LexemeSort}
use Rattle.granit_machine.specs.Reader.{read, lexeme_by, read_whole}
use Rattle.granit_machine.specs.ReaderState.{lexeme_to}
use Rattle.granit_reading.proofs.SortAnswers.{sort_answers}
use Rattle.granit_restart.specs.Boundary.{is_separated}
use Rattle.granit_behind.proofs.LineGaps.{Seen, here_at, laid_at, more, seen_behind, step_on}
use Rattle.granit_behind.proofs.AloneStates.{seen_first}

-- a blank, a break or the end stands behind it
pub parted : (behind : List ℕ) → is_separated behind ≡ true → is_blank_or_breakz (first behind) ≡ true
unfolding is_blank_or_breakz is_breakz is_z is_blank is_break
parted [] e = refl
parted (c ∷ cs) e = on (is_blank c) (is_break c) (is_z c) e
  where
    on : (a b z : Bool) → (a || b) ≡ true → (a || (b || z)) ≡ true
    on true b z e = refl
    on false true z e = refl
    on false false z e = absurd (cc)

abbrev pub marked : List ℕ → List ℕ
marked behind = 0x2D ∷ 0x2D ∷ 0x2D ∷ behind

abbrev pub start_lexeme : ℕ → Here → Lexeme
start_lexeme number h = lexeme_to false DocumentStart (mark_of (steps 3 h)) h (laid_at number true)

pub start_read : (o : OptionsData) (number : ℕ) (behind : List ℕ) (offset : Option ℕ) (lends : Bool) (i n : ℕ)
    → is_separated behind ≡ true
    → read o (record { here = here_at (marked behind) offset lends i n seen_first; laid = laid_at number true })
    ≡ Ok (
      OfLexeme (start_lexeme number (here_at (marked behind) offset lends i n seen_first)) ∷ [],
      record {
        here = steps 3 (here_at (marked behind) offset lends i n seen_first);
        laid = laid_at (suc number)
            false;
      },
    )
unfolding read past_gap gap_ends ready_gap lexeme_by is_gap is_blank is_break is_bom is_breakz is_z
start_read o number behind offset lends i n e =
    let h = here_at (marked behind) offset lends i n seen_first in
    let l = laid_at number true in
    ap (λ (sort : LexemeSort). lexeme_by o sort h l >>= λ y. read_whole o y.0 y.1)
    (sort_answers false false h (dashes (refl, behind, refl, parted behind e)))

-- behind it nothing is known of its line
pub three_on : (behind : List ℕ) (offset : Option ℕ) (lends : Bool) (i n : ℕ) (s : Seen)
    → steps 3 (here_at (marked behind) offset lends i n s)
    ≡ here_at behind (more 0x2D (more 0x2D (more 0x2D offset))) lends (i + 1 + 1 + 1) n
    (record { column = s.column + 1 + 1 + 1; begins_line = false; tab = None })
unfolding steps
three_on behind offset lends i n s =
    let a = seen_behind 0x2D (0x2D ∷ 0x2D ∷ behind) offset i n s in
    let b = seen_behind 0x2D (0x2D ∷ behind) (more 0x2D offset) (i + 1) n a in
    ap (steps 2) (step_on 0x2D (0x2D ∷ 0x2D ∷ behind) offset lends i n s refl)
    ∙ ap (steps 1) (step_on 0x2D (0x2D ∷ behind) (more 0x2D offset) lends (i + 1) n a refl)
    ∙ step_on 0x2D behind (more 0x2D (more 0x2D offset)) lends (i + 1 + 1) n b refl

pub three_alike : (behind : List ℕ) (offset : Option ℕ) (lends : Bool) (i n : ℕ) (s t : Seen) → s.column ≡ t.column
    → steps 3 (here_at (marked behind) offset lends i n s) ≡ steps 3 (here_at (marked behind) offset lends i n t)
three_alike behind offset lends i n s t e =
    three_on behind offset lends i n s
    ∙ ap (λ (c : ℕ). here_at behind (more 0x2D (more 0x2D (more 0x2D offset))) lends (i + 1 + 1 + 1) n
    (record { column = c + 1 + 1 + 1; begins_line = false; tab = None })) e
    ∙ sym (three_on behind offset lends i n t)

pub three_line : (h : Here) (behind : List ℕ) → h.unread.text ≡ marked behind → (steps 3 h).place.line ≡ h.place.line
three_line h behind text =
    let s : Seen = record { column = h.place.column; begins_line = h.begins_line; tab = h.tab } in
    let at = λ (text : List ℕ). here_at text h.unread.offset h.unread.lends h.place.index h.place.line s in
    ap (λ (text : List ℕ). (steps 3 (at text)).place.line) text
    ∙ ap (λ (g : Here). g.place.line) (three_on behind h.unread.offset h.unread.lends h.place.index h.place.line s)
