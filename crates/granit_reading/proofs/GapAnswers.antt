-- What stands between lexemes and behind them is what the reader gives.
pub use Rattle.granit_blocks.proofs.BlockHeads.{quoted_cause_refused, tail_touched}
pub use Rattle.granit_blocks.proofs.BlockCauses.{cause_refused, in_comment_fails}
use Rattle.std.proofs.Common.{◌≡◌, ℕ, ◌≤◌, ◌==◌, ◌&&◌, Bool, true, false, List, [], ◌∷◌, length, Option, Some, None, Ok}
use Rattle.std.proofs.Common.{refl, sym, ap, ap₂, ◌∙◌, arith}
use Rattle.std.specs.Prelude.{nat_lt}
use Rattle.std.specs.Bool.{Decides}
use Rattle.std.proofs.lemmas.Bool.{cond-true, cond-false, or_left, or_right}
use Rattle.std.proofs.lemmas.Bool.Decides.{nat_tests}
use Rattle.granit_base.specs.Classes.{is_gap, is_blank, is_break, is_bom}
use Rattle.granit_base.specs.Place.{Mark, first}
use Rattle.granit_error.specs.OptionsData.{OptionsData}
use Rattle.granit_lexemes.specs.Comment.{CommentRead, StandsComment}
use Rattle.granit_lexemes.specs.Here.{Here, text_len, next_char, mark_of, step, chosen, past}
use Rattle.granit_lexemes.specs.LayoutData.{is_left}
use Rattle.granit_lexemes.specs.Moves.{past_prefix_mark}
use Rattle.granit_lexemes.specs.Outcome.{◌>>=◌}
use Rattle.granit_lexemes.proofs.HereLemmas.{past_goes, past_stops}
use Rattle.granit_blocks.proofs.BlockHeads.{comment_answered}
use Rattle.granit_termination.proofs.LengthLemmas.{step-less}
use Rattle.granit_termination.proofs.ReadLengths.{past_prefix_mark-less}
use Rattle.granit_machine.specs.Gaps.{leading_tab, refuse_tab_at, refuse_tab, at_prefix_mark, begins_gap, over_gap_char}
use Rattle.granit_machine.specs.Gaps.{skip_gap, past_gap, goes_on_behind, refuse_cut_by, over_break_if, behind_note}
use Rattle.granit_machine.specs.Gaps.{behind_gap, noted_gap, ready_gap, gap_ends, takes_prefix, gap}
use Rattle.granit_machine.specs.Laid.{Laid, is_nonempty, is_question, block_column}
use Rattle.granit_machine.specs.ReaderState.{ReaderState}
use Rattle.granit_language.specs.Allowed.{TabsFit, CutFits}
use Rattle.granit_language.specs.Standing.{GapStands, in_front_of_comment, in_front_of_lexeme}
use Rattle.granit_language.specs.Stretch.{GapTo, ends, white, prefix_mark, GapHere}
use Rattle.granit_reading.proofs.Deciding.{asserts, rejects, goes_decided, tab_told, key_tab_decided, tab_limit}
use Rattle.granit_reading.proofs.Deciding.{block_tab_decided, prefix_decided}
use Rattle.granit_reading.proofs.Gapping.{mark_decided, stops_tells}

pub hash_is : {h end : Here} {c : CommentRead} → StandsComment h c end → (next_char h == 0x23) ≡ true
hash_is p = ap (λ (t : List ℕ). first t == 0x23) p.spelled.spelled

-- ---- the gap

gap_no_bom : (c : ℕ) → is_gap c ≡ true → is_bom c ≡ false
unfolding is_gap is_blank is_break is_bom
gap_no_bom c e = grind (arith, nat_tests)

no_mark : (may b d : Bool) → b ≡ false → ((may && b) && d) ≡ false
no_mark true true d e = absurd cc
no_mark true false d e = refl
no_mark false b d e = refl

module _ {May : Type 0} (may : Bool) (d : Decides may May) where
  white_over : (h : Here) (c : ℕ) (rest : List ℕ) → h.unread.text ≡ c ∷ rest → is_gap c ≡ true
      → (begins_gap may h ≡ true) × (over_gap_char may h ≡ step h)
  white_over h c rest e w =
      let g : is_gap (next_char h) ≡ true = ap (λ (t : List ℕ). is_gap (first t)) e ∙ w in (
        or_left (is_gap (next_char h)) (at_prefix_mark may h) g,
        cond-false (at_prefix_mark may h) _ _
            (no_mark may (is_bom (next_char h)) (h.place.column == 0) (gap_no_bom (next_char h) g)),
      )

  mark_over : (h : Here) (rest : List ℕ) → May → h.place.column ≡ 0 → h.unread.text ≡ 0xFEFF ∷ rest
      → (begins_gap may h ≡ true) × (over_gap_char may h ≡ past_prefix_mark h)
  mark_over h rest m z e =
      let p : at_prefix_mark may h ≡ true = asserts (mark_decided may h d) ((m, ap (λ (t : List ℕ). first t) e), z) in
      (or_right (is_gap (next_char h)) (at_prefix_mark may h) p, cond-true (at_prefix_mark may h) _ _ p)

  skipped : (xs : List ℕ) (h at : Here) {cs : List ℕ} → text_len h ≤ length xs → GapTo May h cs at
      → begins_gap may at ≡ false → skip_gap may xs h ≡ at
  skipped [] h at p ends stop = refl
  skipped [] h at p (white e w g) stop = absurd (let m = ap (length {A = ℕ}) e in omega (arith, m, p))
  skipped [] h at p (prefix_mark m z e g) stop = absurd (let n = ap (length {A = ℕ}) e in omega (arith, n, p))
  skipped (x ∷ xs) h at p ends stop = ap (λ v. chosen v (skip_gap may xs (over_gap_char may h)) h) stop
  skipped (x ∷ xs) h at p (white {c = c} {rest = rest} e w g) stop =
      let o = white_over h c rest e w in
      ap₂ (λ v k. chosen v (skip_gap may xs k) h) o.0 o.1 ∙ skipped xs (step h) at (step-less (length xs) h p) g stop
  skipped (x ∷ xs) h at p (prefix_mark {rest = rest} m z e g) stop =
      let o = mark_over h rest m z e in
      ap₂ (λ v k. chosen v (skip_gap may xs k) h) o.0 o.1
      ∙ skipped xs (past_prefix_mark h) at (past_prefix_mark-less (length xs) h p) g stop

  moved_by : (h at : Here) {cs : List ℕ} → GapTo May h cs at → begins_gap may at ≡ false
      → begins_gap may h ≡ is_nonempty cs
  moved_by h at ends stop = stop
  moved_by h at (white {c = c} {rest = rest} e w g) stop = (white_over h c rest e w).0
  moved_by h at (prefix_mark {rest = rest} m z e g) stop = (mark_over h rest m z e).0

  pub past_gap_answers : (h at : Here) → GapHere May h at → past_gap may h ≡ at
  unfolding past_gap
  past_gap_answers h at g = skipped h.unread.text h at (omega arith) g.over (stops_tells may at d g.stops)

  pub moved_answers : (h at : Here) (g : GapHere May h at) → begins_gap may h ≡ is_nonempty g.gap
  moved_answers h at g = moved_by h at g.over (stops_tells may at d g.stops)

-- blanks and breaks alone
white_past : (h at : Here) {cs : List ℕ} → GapTo ⊥ h cs at → is_gap (next_char at) ≡ false → past is_gap h ≡ at
white_past h at ends stop = past_stops is_gap h stop
white_past h at (white {c = c} {rest = rest} e w g) stop = sym
    (past_goes is_gap h gap_nul (ap (λ (t : List ℕ). is_gap (first t)) e ∙ w)) ∙ white_past (step h) at g stop
  where
    gap_nul : is_gap 0 ≡ false
    gap_nul = Rattle.granit_reading.proofs.Gapping.is_gap_nul
white_past h at (prefix_mark m z e g) stop = absurd m

pub past_white_answers : (h at : Here) → GapHere ⊥ h at → past is_gap h ≡ at
past_white_answers h at g = white_past h at g.over g.stops.0

-- ---- what ends a gap

pub tab_answers : (o : OptionsData) (l : Laid) (h : Here) → TabsFit o l h
    → refuse_tab o l (mark_of h) (leading_tab h) ≡ Ok tt
unfolding refuse_tab_at
tab_answers o l h fits = on (leading_tab h) refl
  where
    on : (t : Option Mark) → leading_tab h ≡ t → refuse_tab o l (mark_of h) t ≡ Ok tt
    on None e = refl
    on (Some t) e =
        let f = fits t (tab_told h t e) in
        cond-false (is_question l.last && is_left (block_column l) t.place.column) _ _
        (rejects (key_tab_decided l t) f.0)
        ∙ cond-false (nat_lt t.place.column (tab_limit o l)) _ _ (rejects (block_tab_decided o l t) f.1)

pub cut_answers : (l : Laid) (h : Here) → CutFits l h → refuse_cut_by l h l.cut ≡ Ok tt
cut_answers l h fits = on l.cut refl
  where
    on : (t : Option Mark) → l.cut ≡ t → refuse_cut_by l h t ≡ Ok tt
    on None e = refl
    on (Some t) e = cond-false (goes_on_behind l h t) _ _ (rejects (goes_decided l h t) (fits t e))

ends_answers : (o : OptionsData) (h : Here) (l : Laid) (c : Option CommentRead) (t : ReaderState) → GapStands o h l c t
    → gap o h l ≡ Ok (c, t)
unfolding gap_ends noted_gap ready_gap
ends_answers o h l c t (in_front_of_comment {comment = k} at end g p) =
    ap (λ x. gap_ends o (begins_gap (takes_prefix l) h) x l)
    (past_gap_answers (takes_prefix l) (prefix_decided l) h at g)
    ∙ cond-true (next_char at == 0x23) _ _ (hash_is p)
    ∙ ap (λ r. r >>= λ x. Ok (Some x.0, record { here = over_break_if x.1; laid = behind_note l }))
    (comment_answered at k end p)
ends_answers o h l c t (in_front_of_lexeme at g n f k) =
    ap₂ (λ v x. gap_ends o v x l) (moved_answers (takes_prefix l) (prefix_decided l) h at g)
    (past_gap_answers (takes_prefix l) (prefix_decided l) h at g)
    ∙ cond-false (next_char at == 0x23) _ _ n
    ∙ ap (λ r. r >>= λ t. refuse_cut_by l at l.cut >>= λ u. Ok
    (None, record { here = at; laid = behind_gap (is_nonempty g.gap) l })) (tab_answers o l at f)
    ∙ ap (λ r. r >>= λ u. Ok (None, record { here = at; laid = behind_gap (is_nonempty g.gap) l })) (cut_answers l at k)

-- a gap that stands is given
pub gap_answers : {o : OptionsData} {h : Here} {l : Laid} {c : Option CommentRead} {t : ReaderState}
    → GapStands o h l c t → gap o h l ≡ Ok (c, t)
gap_answers {o = o} {h = h} {l = l} {c = c} {t = t} g = ends_answers o h l c t g
