-- A plain scalar, a stretch of content a turn.
use Rattle.std.proofs.Common.{◌≡◌, ℕ, suc, ◌<◌, Bool, true, false, not, ◌&&◌, if◌then◌else◌, List, []}
use Rattle.std.proofs.Common.{◌∷◌, length, take, drop, Some, Result, Ok, refl, sym, ap, ap₂, ◌∙◌}
use Rattle.std.proofs.Common.{arith}
use Rattle.std.proofs.lemmas.Bool.{and_parts, or_parts, not-true}
use Rattle.std.proofs.lemmas.List.{append-nil}
use Rattle.granit_base.specs.Classes.{is_blank, is_break, is_z, is_breakz, is_blank_or_breakz}
use Rattle.granit_base.specs.Place.{Mark, first}
use Rattle.granit_error.specs.FaultKind.{TabInPlainScalar}
use Rattle.granit_lexemes.specs.Here.{Here, next_char}
use Rattle.granit_lexemes.specs.LayoutData.{LayoutData}
use Rattle.granit_lexemes.specs.Outcome.{Fault, fault_at}
use Rattle.granit_lexemes.specs.Pieces.{with_front}
use Rattle.granit_lexemes.specs.Basics.{fails_at}
use Rattle.granit_lexemes.specs.PlainScalar.{PlainState, meets_comment, ends_before_line}
use Rattle.granit_lexemes.specs.PlainScalar.{plain_turn, plain_len}
use Rattle.granit_base.specs.PlainContent.{is_content}
use Rattle.granit_lexemes.proofs.PieceLemmas.{with_front-nil, pieces_more, pieces_done}
use Rattle.granit_lexemes.proofs.PieceLemmas.{pieces_fails}
use Rattle.granit_scalars.proofs.PlainTurns.{plain_shortens}
use Rattle.granit_lexemes.proofs.PlainTurned.{chain}
use Rattle.granit_plain.specs.PlainCode.{plain_state, plain_rest, plain_whole, ahead_of, plain_turn_by, nothing_taken}
use Rattle.granit_plain.specs.PlainTaken.{PlainTaken}
use Rattle.granit_plain.specs.declared.plain.Ahead.{Ahead}
use Rattle.granit_plain.specs.declared.plain.Ahead.TheVariants.{Blank, Break, Tab, Content, End}

-- ---- one turn, by what is next

abbrev pub next_by : (a b c d e f : Bool) → Ahead
next_by a b c d e f = if a then Blank else if b then Break else if c then End else if d then Tab else if e then End else
    if f then Content else End

turn_by : (at : LayoutData) (start : Mark) (s : PlainState) (a b c d e f : Bool)
    → chain at start s a b c d e f ≡ plain_turn_by at start s (next_by a b c d e f)
turn_by at start s true b c d e f = refl
turn_by at start s false true c d e f = refl
turn_by at start s false false true d e f = refl
turn_by at start s false false false true e f = refl
turn_by at start s false false false false true f = refl
turn_by at start s false false false false false true = refl
turn_by at start s false false false false false false = refl

pub turn_is : (at : LayoutData) (start : Mark) (s : PlainState) (k : Ahead) → ahead_of at s ≡ k
    → plain_turn at start s ≡ plain_turn_by at start s k
unfolding plain_turn
turn_is at start s k is =
    turn_by at start s (is_blank (next_char s.here)) (is_break (next_char s.here)) (meets_comment s)
    (s.left_tab && not (is_z (next_char s.here))) (s.on_new_line && ends_before_line at s.here)
    (is_content at.in_flow s.here.unread.text)
    ∙ ap (plain_turn_by at start s) is

-- ---- on over a stretch of content

-- a character of content is neither a blank nor a break
pub apart : (in_flow : Bool) (text : List ℕ) → is_content in_flow text ≡ true
    → (is_blank (first text) ≡ false) × (is_break (first text) ≡ false)
unfolding is_blank_or_breakz is_breakz
apart in_flow text held =
    let solid = not-true (is_blank_or_breakz (first text)) (and_parts _ _ held).0 in
    let parts = or_parts _ _ solid in (parts.0, (or_parts _ _ parts.1).0)

pub take_suc : (n : ℕ) (text : List ℕ) → 0 < length text → first text ∷ take n (drop 1 text) ≡ take (suc n) text
take_suc n [] some = absurd (omega arith)
take_suc n (c ∷ cs) some = refl

-- ---- what a turn of the code leaves of the whole

pub gap_goes : (at : LayoutData) (start : Mark) (p q : PlainTaken) (h now : Here) (k : Ahead)
    → ahead_of at (plain_state p h) ≡ k → plain_turn_by at start (plain_state p h) k ≡ Ok (Some [], plain_state q now)
    → q.value ≡ p.value → plain_whole at start q now ≡ plain_whole at start p h
gap_goes at start p q h now k is given value =
    let more = pieces_more plain_len (plain_turn at start) (plain_shortens at start) (plain_state p h)
    (plain_state q now) [] (turn_is at start (plain_state p h) k is ∙ given) in
    ap₂ (λ (v : List ℕ) (r : Result (List ℕ × PlainState) Fault). with_front v r) value
    (sym (more ∙ with_front-nil (plain_rest at start (plain_state q now))))

pub turn_ends : (at : LayoutData) (start : Mark) (p : PlainTaken) (h : Here) → ahead_of at (plain_state p h) ≡ End
    → plain_whole at start p h ≡ Ok (p.value, plain_state p h)
turn_ends at start p h is =
    let done = pieces_done plain_len (plain_turn at start) (plain_state p h) (plain_state p h)
    (turn_is at start (plain_state p h) End is) in
    ap (with_front p.value) done ∙ ap (λ (v : List ℕ). Ok (v, plain_state p h)) (append-nil p.value)

pub turn_refused : (at : LayoutData) (start : Mark) (p : PlainTaken) (h : Here) → ahead_of at (plain_state p h) ≡ Tab
    → plain_whole at start p h ≡ fails_at TabInPlainScalar start
turn_refused at start p h is =
    ap (with_front p.value) (pieces_fails plain_len (plain_turn at start) (plain_state p h)
    (fault_at TabInPlainScalar start) (turn_is at start (plain_state p h) Tab is))

-- nothing was read yet
pub plain_begins : (at : LayoutData) (start : Mark) (p : PlainTaken) (h : Here) → p.value ≡ []
    → plain_whole at start p h ≡ plain_rest at start (plain_state p h)
plain_begins at start p h none =
    ap (λ (v : List ℕ). with_front v (plain_rest at start (plain_state p h))) none
    ∙ with_front-nil (plain_rest at start (plain_state p h))

pub none_held : (value pending : List ℕ) (end : Mark) (on_new_line : Bool) → value ≡ [] → pending ≡ []
    → ◌≡◌ {A = PlainTaken} (record {
      value = value;
      pending = pending;
      end = end;
      on_new_line = on_new_line;
      left_tab = false;
    }) (nothing_taken end on_new_line)
none_held value pending end on_new_line v p = rw (v, p) refl
