-- How many bytes a text has, and blanks that are taken whole.
use Rattle.std.proofs.Common.{◌≡◌, ℕ, ◌-◌, List, length, sym, ap, ◌∙◌, arith}
use Rattle.std.specs.Str.{chars, encode_utf8_all, IsUtf8}
use Rattle.std.proofs.lemmas.List.{length-drop}
use Rattle.std.proofs.lemmas.Str.{encodes-chars}
use Rattle.granit_base.specs.Classes.{is_blank}
use Rattle.granit_cursor.proofs.MoveLemmas.{steps_past}
use Rattle.granit_runs.proofs.RunLemmas.{run_within}
use Rattle.granit_runs.specs.Runs.{run_length, starts}
use Rattle.granit_lexemes.specs.Basics.{count_up_to}
use Rattle.granit_lexemes.specs.Here.{Here, text_len, past}
use Rattle.granit_lexemes.specs.Moves.{steps}
use Rattle.granit_scalars.proofs.Comments.{steps_text}

pub bytes_are : (bs : List ℕ) → IsUtf8 bs → length bs ≡ length (encode_utf8_all (chars bs))
bytes_are bs u = ap (length {A = ℕ}) (sym (encodes-chars bs u))

pub blanks_reached : (n : ℕ) (h : Here) → n ≡ run_length (starts is_blank) h.unread.text → steps n h ≡ past is_blank h
blanks_reached n h is = ap (λ (m : ℕ). steps m h) is ∙ steps_past is_blank h

pub blanks_counted : (n : ℕ) (h : Here) → n ≡ run_length (starts is_blank) h.unread.text
    → n ≡ count_up_to h (past is_blank h)
blanks_counted n h is =
    let within = run_within (starts is_blank) h.unread.text in
    let behind : text_len (steps n h) ≡ text_len h - n = ap (λ (t : List ℕ). length t) (steps_text n h)
    ∙ length-drop n h.unread.text in
    let there : text_len (past is_blank h) ≡ text_len h - n =
    sym (ap (λ (g : Here). text_len g) (blanks_reached n h is)) ∙ behind in
    omega (arith, is, within, there)
