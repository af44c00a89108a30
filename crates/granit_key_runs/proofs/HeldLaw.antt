-- What is held behind lexemes is said of them.
use Rattle.std.proofs.Common.{◌≡◌, ℕ, suc, Bool, true, false, List, [], length, refl, sym, ap, ◌∙◌, subst}
use Rattle.std.proofs.lemmas.Bool.{both_ways}
use Rattle.granit_error.specs.OptionsData.{OptionsData}
use Rattle.granit_lexemes.specs.Here.{Here, mark_of, start_of}
use Rattle.granit_lexemes.specs.Lexeme.{Lexeme, Item}
use Rattle.granit_machine.specs.Reader.{is_end}
use Rattle.granit_machine.specs.ReaderState.{ReaderState, reader_start}
use Rattle.granit_language.specs.Before.{freshened, closed_for}
use Rattle.granit_language.specs.HeldSaid.{RunsSay, has_ended}
use Rattle.granit_language.specs.OpenColumns.{latest}
use Rattle.granit_language.specs.Reached.{ends_column_by, Reads, of_comment, of_lexeme, Reached, stops, goes_on}
use Rattle.granit_places.proofs.ColumnsWhole.{latest_noted, latest_joined}
use Rattle.granit_places.proofs.Counting.{At, start_at}
use Rattle.granit_places.proofs.Moving.{closed_held, lexeme_moved}
use Rattle.granit_key_runs.proofs.RunsKept.{Signed}
use Rattle.granit_key_runs.proofs.RunsWhole.{ReadRuns, read_runs, start_says}
use Rattle.granit_places.proofs.Telling.{gap_agrees, telling}

-- ---- one read

-- behind the end of the text the last lexeme is that
pub read_ends : (o : OptionsData) (ls : List Lexeme) {s after : ReaderState} {items : List Item}
    → Reads o s items after →
    is_end items ≡ true → has_ended (latest items ls) ≡ true
read_ends o ls (of_comment at g k) e = absurd cc
read_ends o ls {s = s} (of_lexeme {items = items} at behind sort comes given keys) e =
    let f = freshened o at in
    let t = telling o (ends_column_by sort f) f.here _ sort items behind given.1 in
    ap has_ended (ap (λ (is : List Item). latest is ls) t.are ∙ latest_noted t.lexeme t.note ls)
    ∙ sym (ap is_end t.are) ∙ e

read_counts : (o : OptionsData) (ls : List Lexeme) {s after : ReaderState} {items : List Item} → Reads o s items after →
    s.laid.number ≡ length ls → after.laid.number ≡ length (latest items ls)
read_counts o ls (of_comment at g k) e = (gap_agrees g).number ∙ e
read_counts o ls {s = s} (of_lexeme {items = items} at behind sort comes given keys) e =
    let f = freshened o at in
    let t = telling o (ends_column_by sort f) f.here _ sort items behind given.1 in
    let c = closed_held sort f.here f.laid in
    let v = lexeme_moved o sort f.here
    (closed_for sort f.here f.laid) t.lexeme t.cut t.reached behind.laid t.told t.says t.leaves in
    v.next
    ∙ ap suc (c.0 ∙ ((gap_agrees comes.gap).number ∙ e))
    ∙ sym (ap length (ap (λ (is : List Item). latest is ls) t.are ∙ latest_noted t.lexeme t.note ls))

-- ---- all that was read

reached_counts : (o : OptionsData) (ls : List Lexeme) {s t : ReaderState} {items : List Item} → Reached o s items t →
    s.laid.number ≡ length ls → t.laid.number ≡ length (latest items ls)
reached_counts o ls stops e = e
reached_counts o ls {t = t} (goes_on next items more r last rest is) e =
    reached_counts o (latest items ls) rest (read_counts o ls r e)
    ∙ sym (ap length (ap (λ (is : List Item). latest is ls) is ∙ latest_joined items more ls))

pub lexemes_counted : (o : OptionsData) (h : Here) (items : List Item) (t : ReaderState) →
    Reached o (reader_start h) items t →
    t.laid.number ≡ length (latest items [])
lexemes_counted o h items t r = reached_counts o [] r refl

goes_said : (o : OptionsData) (text : List ℕ) (ls : List Lexeme) {s next : ReaderState} {items : List Item}
    (t : ReaderState) (all more : List Item) → Reads o s items next → (is_end items ≡ true → more ≡ []) →
    ReadRuns o text s ls items next → latest all ls ≡ latest more (latest items ls) →
    has_ended (latest all ls) ≡ false →
    (At text next.here → RunsSay o text (mark_of next.here) (latest items ls) next.laid →
    Signed text (latest items ls) next →
    has_ended (latest more (latest items ls)) ≡ false →
    RunsSay o text (mark_of t.here) (latest more (latest items ls)) t.laid) → (v : Bool) → is_end items ≡ v →
    RunsSay o text (mark_of t.here) (latest more (latest items ls)) t.laid
goes_said o text ls {items = items} t all more read last p same n on true y =
    absurd (both_ways (has_ended (latest items ls))
    (sym (ap (λ (more : List Item). has_ended (latest more (latest items ls))) (last y))
    ∙ (sym (ap has_ended same) ∙ n))
    (read_ends o ls read y))
goes_said o text ls t all more read last p same n on false y =
    on p.place (p.runs y) (p.signed y) (sym (ap has_ended same) ∙ n)

reached_says : (o : OptionsData) (text : List ℕ) (ls : List Lexeme) {s t : ReaderState} {items : List Item} →
    Reached o s items t →
    At text s.here → RunsSay o text (mark_of s.here) ls s.laid → Signed text ls s →
    has_ended (latest items ls) ≡ false →
    RunsSay o text (mark_of t.here) (latest items ls) t.laid
reached_says o text ls stops a r d n = r
reached_says o text ls {t = t} {items = all} (goes_on next items more read last rest e) a r d n =
    let same = ap (λ (is : List Item). latest is ls) e ∙ latest_joined items more ls in
    subst (λ (xs : List Lexeme). RunsSay o text (mark_of t.here) xs t.laid) (sym same)
    (goes_said o text ls t all more read last (read_runs o text ls read a r d) same n
    (λ b q f g. reached_says o text (latest items ls) rest b q f g) (is_end items) refl)

pub held_said : (o : OptionsData) (text : List ℕ) (items : List Item) (t : ReaderState) →
    Reached o (reader_start (start_of text)) items t → has_ended (latest items []) ≡ false →
    RunsSay o text (mark_of t.here) (latest items []) t.laid
held_said o text items t r n =
    reached_says o text [] r (start_at text) (start_says o text (start_of text)) (λ e. absurd cc) n
