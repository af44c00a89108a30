-- What the sort of a lexeme says of the text that it begins.
use Rattle.std.proofs.Common.{◌≡◌, ℕ, ◌==◌, ◌&&◌, ◌||◌, not, Bool, true, false, inl, inr, refl}
use Rattle.std.proofs.Math.Bool.{and-false}
use Rattle.std.specs.Prelude.{slice_index}
use Rattle.std.proofs.lemmas.Bool.{cases_Bool, and_parts, eqb-true, ne_eqb, not-false}
use Rattle.granit_base.specs.Classes.{is_blank_or_breakz, is_flow, is_bom, is_gap}
use Rattle.granit_base.specs.Classes.{is_printable}
use Rattle.granit_base.specs.PlainContent.{is_content}
use Rattle.granit_lexemes.specs.Basics.{is_document_mark}
use Rattle.granit_lexemes.specs.BlockScalar.{block_indicator}
use Rattle.granit_lexemes.specs.Here.{Here, text_len, next_char}
use Rattle.granit_lexemes.specs.QuotedScalar.{quote_char}
use Rattle.granit_machine.proofs.SortLemmas.{no_colon, no_gap_or_nul}
use Rattle.granit_machine.specs.LexemeSort.{sort_of, sort_at}
use Rattle.granit_reader.specs.SortViews.{PlacedFits, SortFits}

pub any_next : (c next other : ℕ) → (c ≡ 0x2D → ⊥) → (c ≡ 0x3F → ⊥) → (c ≡ 0x3A → ⊥) → (in_flow adjacent : Bool)
    → sort_of in_flow adjacent c next ≡ sort_of in_flow adjacent c other
unfolding sort_of
any_next c next other dash question colon in_flow adjacent =
    rw (ne_eqb c 0x2D dash, ne_eqb c 0x3F question, ne_eqb c 0x3A colon) refl

-- ---- content of a plain scalar

content : (in_flow near : Bool) (h : Here) → is_gap (next_char h) ≡ false → is_printable (next_char h) ≡ true
    → (next_char h == 0x3A && (is_blank_or_breakz (slice_index h.unread.text 1)
    || (in_flow && (is_flow (slice_index h.unread.text 1) || near)))) ≡ false → is_flow (next_char h) ≡ false
    → is_content in_flow h.unread.text ≡ true
content in_flow near h clear printable colon flow =
    rw (
      no_gap_or_nul (next_char h) clear printable,
      no_colon (next_char h == 0x3A)
          (is_blank_or_breakz (slice_index h.unread.text 1)) in_flow (is_flow (slice_index h.unread.text 1)) near colon,
      flow,
      and-false in_flow,
    ) refl

no_flow : (c : ℕ) → (c == 0x2C) ≡ false → (c == 0x5B) ≡ false → (c == 0x5D) ≡ false → (c == 0x7B) ≡ false
    → (c == 0x7D) ≡ false → is_flow c ≡ false
unfolding is_flow
no_flow c comma square squared curly curled = rw (comma, square, squared, curly, curled) refl

-- ---- signs

block_sign : (c : ℕ) (b : Bool) → (c == 0x7C || c == 0x3E) ≡ true → (c == 0x7C) ≡ b → c ≡ block_indicator b
block_sign c true either is = eqb-true c 0x7C is
block_sign c false either is = let other : (c == 0x3E) ≡ true = rw is at either in eqb-true c 0x3E other

quote_sign : (c : ℕ) (b : Bool) → (c == 0x27 || c == 0x22) ≡ true → (c == 0x27) ≡ b → c ≡ quote_char b
quote_sign c true either is = eqb-true c 0x27 is
quote_sign c false either is = let other : (c == 0x22) ≡ true = rw is at either in eqb-true c 0x22 other

placed_fits : (in_flow near : Bool) (h : Here) → is_gap (next_char h) ≡ false → is_printable (next_char h) ≡ true
    → PlacedFits in_flow (sort_of in_flow near (next_char h) (slice_index h.unread.text 1)) h
unfolding sort_of
placed_fits in_flow near h clear printable =
    let c = next_char h in
    let next = slice_index h.unread.text 1 in
    elim (cases_Bool (c == 0x5B)) [
      | inl e ↦ rw e tt
      | inr square ↦ rw square (
          elim (cases_Bool (c == 0x7B)) [
            | inl e ↦ rw e tt
            | inr curly ↦ rw curly (
                elim (cases_Bool (c == 0x5D)) [
                  | inl e ↦ rw e tt
                  | inr squared ↦ rw squared (
                      elim (cases_Bool (c == 0x7D)) [
                        | inl e ↦ rw e tt
                        | inr curled ↦ rw curled (
                            elim (cases_Bool (c == 0x2C)) [
                              | inl e ↦ rw e tt
                              | inr comma ↦ rw comma (
                                  elim (cases_Bool (c == 0x2D && is_blank_or_breakz next)) [
                                    | inl e ↦ rw e tt
                                    | inr dash ↦ rw dash (
                                        elim (cases_Bool (c == 0x3F && is_blank_or_breakz next)) [
                                          | inl e ↦ rw e tt
                                          | inr question ↦ rw question (
                                              elim (cases_Bool (c == 0x3A
                                              && (is_blank_or_breakz next || (in_flow && (is_flow next || near))))) [
                                                | inl e ↦ rw e tt
                                                | inr colon ↦ rw colon (
                                                    elim (cases_Bool (c == 0x2A)) [
                                                      | inl e ↦ rw e (eqb-true c 0x2A e)
                                                      | inr alias ↦ rw alias (
                                                          elim (cases_Bool (c == 0x26)) [
                                                            | inl e ↦ rw e (eqb-true c 0x26 e)
                                                            | inr anchor ↦ rw anchor (
                                                                elim (cases_Bool (c == 0x21)) [
                                                                  | inl e ↦ rw e (eqb-true c 0x21 e)
                                                                  | inr tag ↦ rw tag (
                                                                      elim (cases_Bool ((c == 0x7C || c == 0x3E)
                                                                      && not in_flow)) [
                                                                        | inl e ↦ rw e (block_sign c (c == 0x7C)
                                                                            (and_parts (c == 0x7C || c == 0x3E)
                                                                            (not in_flow) e).0 refl)
                                                                        | inr block ↦ rw block (
                                                                            elim (cases_Bool (c == 0x27 || c == 0x22)) [
                                                                              | inl e ↦ rw e (quote_sign c (c == 0x27) e
                                                                                  refl)
                                                                              | inr quote ↦ rw quote (
                                                                                  elim (cases_Bool (is_bom c)) [
                                                                                    | inl e ↦ rw e tt
                                                                                    | inr mark ↦ rw mark (
                                                                                        elim (cases_Bool (((c == 0x40
                                                                                        || c == 0x60) || c == 0x25)
                                                                                        || (c == 0x7C || c ==
                                                                                        0x3E))) [
                                                                                          | inl e ↦ rw e tt
                                                                                          | inr other ↦ rw other (
                                                                                              content in_flow near h
                                                                                              clear printable colon
                                                                                              (no_flow c comma
                                                                                              square squared curly
                                                                                              curled))
                                                                                        ])
                                                                                  ])
                                                                            ])
                                                                      ])
                                                                ])
                                                          ])
                                                    ])
                                              ])
                                        ])
                                  ])
                            ])
                      ])
                ])
          ])
    ]

pub sort_fits : (in_flow near : Bool) (h : Here) → is_gap (next_char h) ≡ false
    → SortFits in_flow (sort_at in_flow near h) h
unfolding sort_at
sort_fits in_flow near h clear =
    let c = next_char h in
    elim (cases_Bool (text_len h == 0)) [
      | inl e ↦ rw e tt
      | inr some ↦ rw some (
          elim (cases_Bool (h.place.column == 0 && is_document_mark h.unread.text)) [
            | inl e ↦ rw e (elim (cases_Bool (c == 0x2D)) [ inl d ↦ rw d tt | inr d ↦ rw d tt ])
            | inr unmarked ↦ rw unmarked (
                elim (cases_Bool (not (is_printable c))) [
                  | inl e ↦ rw e tt
                  | inr printable ↦ rw printable (
                      elim (cases_Bool (h.place.column == 0 && c == 0x25)) [
                        | inl e ↦ rw e (eqb-true c 0x25 (and_parts (h.place.column == 0) (c == 0x25) e).1)
                        | inr other ↦ rw other (placed_fits in_flow near h clear (not-false (is_printable c) printable))
                      ])
                ])
          ])
    ]
