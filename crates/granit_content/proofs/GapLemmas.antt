-- What stands between lexemes.
use Rattle.std.proofs.Common.{◌≡◌, ℕ, ◌==◌, Bool, true, false, if◌then◌else◌, List, [], ◌∷◌, drop}
use Rattle.std.proofs.Common.{◌&&◌, not, Option, Some, None, is_some, Result, Ok, Err, inl, inr, refl, sym, ap, ◌∙◌}
use Rattle.std.proofs.lemmas.Bool.{cases_Bool, eqb-true}
use Rattle.granit_base.specs.Classes.{is_blank, is_break, is_breakz, is_gap, is_bom}
use Rattle.granit_base.specs.Place.{Mark, first}
use Rattle.granit_error.specs.OptionsData.{OptionsData}
use Rattle.granit_lexemes.proofs.CharTests.{blank_gap}
use Rattle.granit_lexemes.specs.Comment.{CommentRead, comment}
use Rattle.granit_lexemes.specs.Here.{Here, next_char, mark_of, step, skip, past}
use Rattle.granit_lexemes.specs.Moves.{past_prefix_mark}
use Rattle.granit_lexemes.specs.Outcome.{Fault, ◌>>=◌}
use Rattle.granit_lexemes.proofs.HereLemmas.{step_text}
use Rattle.granit_machine.specs.Gaps.{leading_tab, refuse_tab, at_prefix_mark, begins_gap, over_gap_char, skip_gap}
use Rattle.granit_machine.specs.Gaps.{past_gap, over_break_if, refuse_cut, behind_note, noted_gap, behind_gap}
use Rattle.granit_machine.specs.Gaps.{ready_gap, gap_ends}
use Rattle.granit_machine.specs.Laid.{Laid}
use Rattle.granit_machine.specs.ReaderState.{ReaderState}
use Rattle.granit_runs.proofs.RunLemmas.{blank_some, break_some}
use Rattle.granit_cursor.specs.Reading.{coded}
use Rattle.granit_cursor.proofs.GivenLemmas.{same_ok}
use Rattle.granit_content.specs.Reads.{Seen, Nothing, seen, seen_comment}

no_gap : is_gap 0 ≡ false
unfolding is_gap is_blank is_break
no_gap = refl

no_mark : is_bom 0 ≡ false
unfolding is_bom
no_mark = refl

nothing_passes : (may : Bool) (h : Here) → next_char h ≡ 0 → begins_gap may h ≡ false
nothing_passes true h none = rw (none, no_gap, no_mark) refl
nothing_passes false h none = rw (none, no_gap) refl

text_over : (b : Bool) (h : Here) → (if b then past_prefix_mark h else step h).unread.text ≡ drop 1 h.unread.text
unfolding past_prefix_mark
text_over true h = refl
text_over false h = step_text h

gap_from : (may : Bool) (text : List ℕ) (h : Here) → text ≡ h.unread.text → begins_gap may h ≡ true
    → skip_gap may text h ≡ skip_gap may (drop 1 text) (over_gap_char may h)
gap_from may [] h is held = absurd (let none = nothing_passes may h (ap first (sym is)) in cc)
gap_from may (c ∷ cs) h is held = rw held refl

-- a character of a gap, and then the rest of it
pub gap_goes : (may : Bool) (h : Here) → begins_gap may h ≡ true → past_gap may (over_gap_char may h) ≡ past_gap may h
unfolding past_gap
gap_goes may h held =
    ap (λ (text : List ℕ). skip_gap may text (over_gap_char may h)) (text_over (at_prefix_mark may h) h)
    ∙ sym (gap_from may h.unread.text h refl held)

gap_stays : (may : Bool) (text : List ℕ) (h : Here) → begins_gap may h ≡ false → skip_gap may text h ≡ h
gap_stays may [] h failed = refl
gap_stays may (c ∷ cs) h failed = rw failed refl

-- where no gap begins, it ends
pub gap_stops : (may : Bool) (h : Here) → begins_gap may h ≡ false → past_gap may h ≡ h
unfolding past_gap
gap_stops may h failed = gap_stays may h.unread.text h failed

-- ---- characters of a gap

-- each character that passes a test is of a gap, and no byte-order mark
abbrev pub InGap : (ℕ → Bool) → Type 0
InGap test = (c : ℕ) → test c ≡ true → (is_gap c ≡ true) × (is_bom c ≡ false)

unmarked : (may : Bool) (h : Here) → is_bom (next_char h) ≡ false → over_gap_char may h ≡ step h
unmarked true h none = rw none refl
unmarked false h none = refl

gap_on : (test : ℕ → Bool) → InGap test → (may : Bool) (h : Here) → test (next_char h) ≡ true
    → past_gap may (step h) ≡ past_gap may h
gap_on test in_gap may h held =
    let is = in_gap (next_char h) held in
    let begins : begins_gap may h ≡ true = rw is.0 refl in
    sym (ap (past_gap may) (unmarked may h is.1)) ∙ gap_goes may h begins

skip_on : (test : ℕ → Bool) → InGap test → (may : Bool) (text : List ℕ) (h : Here) → text ≡ h.unread.text
    → past_gap may (skip test text h) ≡ past_gap may h
skip_on test in_gap may [] h is = refl
skip_on test in_gap may (c ∷ cs) h is =
    elim (cases_Bool (test (next_char h))) [
      | inl held ↦ let rest : cs ≡ (step h).unread.text = sym
          (step_text h ∙ ap (λ (text : List ℕ). drop 1 text) (sym is)) in
          rw held (skip_on test in_gap may cs (step h) rest ∙ gap_on test in_gap may h held)
      | inr failed ↦ rw failed refl
    ]

-- over such characters
pub gap_behind : (test : ℕ → Bool) → InGap test → (may : Bool) (h : Here) → past_gap may (past test h) ≡ past_gap may h
unfolding past
gap_behind test in_gap may h = skip_on test in_gap may h.unread.text h refl

-- ---- blanks of a gap

blank_unmarked : (c : ℕ) → is_blank c ≡ true → is_bom c ≡ false
unfolding is_blank is_bom
blank_unmarked c held =
    elim (cases_Bool (c == 0x20)) [
      | inl space ↦ rw (eqb-true c 0x20 space) refl
      | inr other ↦ let tab : (c == 0x09) ≡ true = rw other at held in rw (eqb-true c 0x09 tab) refl
    ]

-- over its blanks
pub gap_behind_blanks : (may : Bool) (h : Here) → past_gap may (past is_blank h) ≡ past_gap may h
gap_behind_blanks may h = gap_behind is_blank (λ c held. (blank_gap c held, blank_unmarked c held)) may h

-- ---- tabs that begin a line

-- where none stands before a place, none is refused there
pub no_leading_tab : (o : OptionsData) (l : Laid) (h : Here) {tab : Option Mark} → h.tab ≡ tab → is_some tab ≡ false
    → refuse_tab o l (mark_of h) (leading_tab h) ≡ Ok tt
no_leading_tab o l h {tab = Some t} is none = absurd cc
no_leading_tab o l h {tab = None} is none =
    elim (cases_Bool (h.begins_line && not (is_breakz (next_char h)))) [
      | inl begins ↦ rw (begins, is) refl
      | inr other ↦ rw other refl
    ]

-- ---- what ends a gap

pub gap_noted : (o : OptionsData) (moved : Bool) (h : Here) (l : Laid) → (next_char h == 0x23) ≡ true
    → gap_ends o moved h l ≡ noted_gap h l
unfolding gap_ends
gap_noted o moved h l hash = rw hash refl

pub gap_ready : (o : OptionsData) (moved : Bool) (h : Here) (l : Laid) → (next_char h == 0x23) ≡ false
    → gap_ends o moved h l ≡ ready_gap o moved h l
unfolding gap_ends
gap_ready o moved h l hash = rw hash refl

-- behind a comment and its break
abbrev behind : Laid → Here → ReaderState
behind l h = record { here = over_break_if h; laid = behind_note l }

noted_on : (asked : Bool) (l : Laid) (r : Result (CommentRead × Here) Fault) (s : Seen) (after : Here)
    → coded (seen_comment asked) r ≡ Ok (s, after)
    → coded (seen asked) (r >>= λ x. Ok (Some x.0, behind l x.1)) ≡ Ok (s, behind l after)
noted_on asked l (Ok x) s after is =
    let same = same_ok (seen_comment asked x.0, x.1) (s, after) is in
    ap (λ (p : Seen × Here). Ok (p.0, behind l p.1)) same
noted_on asked l (Err f) s after is = absurd cc

pub noted_given : (asked : Bool) (h : Here) (l : Laid) (s : Seen) (after : Here)
    → coded (seen_comment asked) (comment h) ≡ Ok (s, after)
    → coded (seen asked) (noted_gap h l) ≡ Ok (s, behind l after)
unfolding noted_gap
noted_given asked h l s after is = noted_on asked l (comment h) s after is

pub ready_given : (asked : Bool) (o : OptionsData) (moved : Bool) (h : Here) (l : Laid) (u v : Unit {0})
    → refuse_tab o l (mark_of h) (leading_tab h) ≡ Ok u → refuse_cut l h ≡ Ok v
    → coded (seen asked) (ready_gap o moved h l) ≡ Ok (Nothing, record { here = h; laid = behind_gap moved l })
unfolding ready_gap
ready_given asked o moved h l u v tabs cuts = rw (tabs, cuts) refl

pub mark_is : (c : ℕ) → is_bom c ≡ (c == 0xFEFF)
unfolding is_bom
mark_is c = refl

-- a blank or a break is a character, and a byte-order mark this one
pub ruleset gap_chars = (blank_some, break_some, mark_is)
