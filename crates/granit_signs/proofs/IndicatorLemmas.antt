-- `-`, `?` and `:` are what the code gives.
use Rattle.std.proofs.Common.{◌≡◌, ℕ, ◌==◌, ◌&&◌, Bool, true, false, not, nat_lt, if◌then◌else◌, List, []}
use Rattle.std.proofs.Common.{◌∷◌, drop, length, slice_index, Option, Some, None, Result, Ok, Err, refl, sym, ap}
use Rattle.std.proofs.Common.{◌∙◌, arith}
use Rattle.std.proofs.Math.Bool.{or-false}
use Rattle.std.proofs.lemmas.Bool.Decides.{nat_tests}
use Rattle.granit_base.specs.Classes.{is_gap}
use Rattle.granit_base.specs.Place.{Mark}
use Rattle.granit_cursor.specs.Reading.{coded}
use Rattle.granit_error.specs.OptionsData.{OptionsData}
use Rattle.granit_error.specs.Refused.{Refused}
use Rattle.granit_lexemes.proofs.HereLemmas.{step_text}
use Rattle.granit_lexemes.specs.Comment.{CommentRead, comment}
use Rattle.granit_lexemes.specs.Here.{Here, text_len, next_char, mark_of, step, chosen, skip, past}
use Rattle.granit_lexemes.specs.Lexeme.{Dash, Question, Colon, Lexeme}
use Rattle.granit_lexemes.specs.Outcome.{Fault, Fails, ◌>>=◌}
use Rattle.granit_lexemes.specs.Tail.{tail_at}
use Rattle.granit_lexemes.specs.declared.layout.LastLexeme.{LastLexeme}
use Rattle.granit_lexemes.specs.declared.layout.LastLexeme.TheVariants.{BehindQuestion, BehindBareColon, Another}
use Rattle.granit_lexemes.specs.declared.layout.PossibleKey.{PossibleKey}
use Rattle.granit_machine.specs.Columns.{with_entry, with_pair}
use Rattle.granit_machine.specs.Gaps.{begins_gap, skip_gap, past_gap, leading_tab, refuse_tab}
use Rattle.granit_machine.specs.IndicatorLexemes.{is_tabbed_dash, behind_dash, dash_up_to, dash, question_noted}
use Rattle.granit_machine.specs.IndicatorLexemes.{behind_question, question_up_to, nul_behind, question_by, question}
use Rattle.granit_machine.specs.IndicatorLexemes.{keyed_colon, bare_colon, colon_by_key}
use Rattle.granit_machine.specs.IndicatorLexemes.{colon_tail, opens_flow, colon}
use Rattle.granit_machine.specs.Laid.{Laid, is_in_flow, is_adjacent}
use Rattle.granit_machine.specs.PossibleKeys.{top_key, forgets_key, is_allowed, is_far_below}
use Rattle.granit_machine.specs.ReaderState.{sign_lexeme, with_tail, given}
use Rattle.granit_steps.specs.Steps.{incoming}
use Rattle.granit_signs.specs.IndicatorReads.{question_from, lexeme_with_key, keyed_by, bare_entry_read, colon_by}
use Rattle.granit_signs.specs.IndicatorReads.{keyed_entry, bare_entry}
use Rattle.granit_content.specs.Reads.{Seen, seen, seen_comment, comment_kept}
use Rattle.granit_content.proofs.CodedLemmas.{coded_back, coded_fails, fails_then}
use Rattle.granit_content.proofs.HeardLemmas.{same_if, same_then}
use Rattle.granit_content.proofs.ItemLemmas.{read_untailed, read_seen}

-- ---- branches

pub if_true : {A : Type 0} (a : Bool) (x y : A) → a ≡ true → (if a then x else y) ≡ x
if_true a x y held = rw held refl

pub if_false : {A : Type 0} (a : Bool) (x y : A) → a ≡ false → (if a then x else y) ≡ y
if_false a x y failed = rw failed refl

third : {A : Type 0} (a b : Bool) (x y z : A) → a ≡ false → b ≡ true → (if a then x else if not b then y else z) ≡ z
third a b x y z failed held = rw (failed, held) refl

then_third : {A B : Type 0} (a b : Bool) (x y z : Result A Fault) (f : A → Result B Fault)
    → ((if a then x else if b then y else z) >>= f) ≡ (if a then x >>= f else if b then y >>= f else z >>= f)
then_third true b x y z f = refl
then_third false true x y z f = refl
then_third false false x y z f = refl

then_then : {A B C : Type 0} (r : Result A Fault) (f : A → B) (g : B → Result C Fault)
    → (r >>= (λ x. Ok (f x)) >>= g) ≡ (r >>= λ x. g (f x))
then_then (Ok x) f g = refl
then_then (Err e) f g = refl

-- ---- an entry counts no lexeme

entered_number : {A : Type 0} (r : Result A Fault) (l k m : Laid) → (r >>= λ u. Ok k) ≡ Ok m → k.number ≡ l.number
    → m.number ≡ l.number
entered_number (Ok u) l k m is same = let e : k ≡ m = cc in sym (ap (λ (n : Laid). n.number) e) ∙ same
entered_number (Err f) l k m is same = absurd cc

pair_number : (o : OptionsData) (column : ℕ) (mark : Mark) (l m : Laid) → with_pair o column mark l ≡ Ok m
    → m.number ≡ l.number
pair_number o column mark l m is = entered_number _ l _ m is refl

-- ---- `-`

module _ (asked : Bool) (x : Lexeme) (l : Laid) where
  dash_kept : (tail : Option CommentRead) (h : Here)
      → behind_dash x l (comment_kept (seen asked tail)) h ≡ coded (incoming asked) (behind_dash x l tail h)
  unfolding behind_dash
  dash_kept tail h = same_if (incoming asked) (is_tabbed_dash h) _ _ _ _ refl
      (sym (read_seen asked (record x { end = mark_of h }) tail h _))

  -- with the tail that is seen
  pub dash_tailed : (h : Here) (s : Seen) (after : Here) → coded (seen asked) (tail_at h) ≡ Ok (s, after)
      → coded (incoming asked) (dash_up_to x h l) ≡ behind_dash x l (comment_kept s) after
  unfolding dash_up_to
  dash_tailed h s after is =
      let y = coded_back (seen asked) (tail_at h) s after is in
      ap (λ (r : Result (Option CommentRead × Here) Fault). coded (incoming asked) (r >>= λ z. behind_dash x l z.0 z.1))
      y.1
      ∙ sym (dash_kept y.0 after)
      ∙ ap (λ (t : Seen). behind_dash x l (comment_kept t) after) y.2

  pub dash_fails : (h : Here) (e : Refused) → Fails e (coded (seen asked) (tail_at h))
      → Fails e (coded (incoming asked) (dash_up_to x h l))
  unfolding dash_up_to
  dash_fails h e fails = fails_then (dash_up_to x h l) _ e
      (fails_then (tail_at h) _ e (coded_fails (seen asked) (tail_at h) e fails))

pub dash_entered : (o : OptionsData) (ends : Bool) (h : Here) (l m : Laid) → is_in_flow l ≡ false
    → is_allowed h.begins_line h.tab l ≡ true → with_entry o h.place.column (mark_of h) l ≡ Ok m
    → dash o ends h l ≡ dash_up_to (sign_lexeme ends Dash h l) (step h) m
unfolding dash
dash_entered o ends h l m flow allowed entered = rw (flow, allowed, entered) refl

-- ---- `?`

skip_is : (text : List ℕ) (h : Here) → skip_gap false text h ≡ skip is_gap text h
skip_is [] h = refl
skip_is (c ∷ cs) h =
    ap (λ (on : Here). chosen (begins_gap false h) on h) (skip_is cs (step h))
    ∙ ap (λ (b : Bool). chosen b (skip is_gap cs (step h)) h) (or-false (is_gap (next_char h)))

-- where no byte-order mark may stand in the gap
pub gap_is : (h : Here) → past_gap false h ≡ past is_gap h
unfolding past_gap past
gap_is h = skip_is h.unread.text h

nul_on : (text : List ℕ) → (slice_index text 1 == 0x00 && nat_lt 1 (length text))
    ≡ (slice_index (drop 1 text) 0 == 0x00 && not (length (drop 1 text) == 0))
nul_on [] = refl
nul_on (c ∷ []) = refl
nul_on (c ∷ d ∷ ds) = grind (arith, nat_tests)

nul_is : (h : Here) → nul_behind h ≡ (next_char (step h) == 0x00 && not (text_len (step h) == 0))
nul_is h = nul_on h.unread.text ∙ ap (λ (text : List ℕ). slice_index text 0 == 0x00 && not (length text == 0))
    (sym (step_text h))

question_on : (o : OptionsData) (x : Lexeme) (h : Here) (l : Laid) → question_by o x h l ≡ question_from o x (step h) l
unfolding question_by
question_on o x h l = rw (nul_is h) refl

pub question_entered : (o : OptionsData) (ends : Bool) (h : Here) (l m : Laid) → is_in_flow l ≡ false
    → is_allowed h.begins_line h.tab l ≡ true → with_entry o h.place.column (mark_of h) l ≡ Ok m
    → question o ends h l ≡ question_from o (sign_lexeme ends Question h l) (step h) m
unfolding question
question_entered o ends h l m flow allowed entered =
    third (is_in_flow l) (is_allowed h.begins_line h.tab l) _ _ _ flow allowed
    ∙ ap (λ (r : Result Laid Fault). r >>= question_by o (sign_lexeme ends Question h l) h) entered
    ∙ question_on o (sign_lexeme ends Question h l) h m

pub question_in_flow : (o : OptionsData) (ends : Bool) (h : Here) (l : Laid) → is_in_flow l ≡ true
    → question o ends h l ≡ given (sign_lexeme ends Question h l) Another (step h) (forgets_key l)
unfolding question
question_in_flow o ends h l flow = if_true (is_in_flow l) _ _ flow

pub question_behind : (o : OptionsData) (x : Lexeme) (h : Here) (l m : Laid)
    → (next_char h == 0x00 && not (text_len h == 0)) ≡ false → m ≡ behind_question l
    → question_from o x h l ≡ question_up_to o x (past_gap false h) m
question_behind o x h l m fits left =
    if_false (next_char h == 0x00 && not (text_len h == 0)) _ _ fits
    ∙ ap (λ (now : Here). question_up_to o x now (behind_question l)) (sym (gap_is h))
    ∙ ap (λ (n : Laid). question_up_to o x (past_gap false h) n) (sym left)

module _ (asked : Bool) (o : OptionsData) (x : Lexeme) (h : Here) (l : Laid) where
  noted_on : (r : Result (CommentRead × Here) Fault) (s : Seen) (after : Here)
      → coded (seen_comment asked) r ≡ Ok (s, after)
      → coded (incoming asked) (r >>= λ y. question_noted x l y.0 y.1)
      ≡ given (with_tail x (comment_kept s)) BehindQuestion after l
  noted_on r s after is =
      let y = coded_back (seen_comment asked) r s after is in
      ap (λ (q : Result (CommentRead × Here) Fault). coded (incoming asked) (q >>= λ z. question_noted x l z.0 z.1)) y.1
      ∙ read_seen asked x (Some y.0) after _
      ∙ ap (λ (t : Seen). given (with_tail x (comment_kept t)) BehindQuestion after l) y.2

  pub question_with_note : (s : Seen) (after : Here) → (next_char h == 0x23) ≡ true
      → coded (seen_comment asked) (comment h) ≡ Ok (s, after)
      → coded (incoming asked) (question_up_to o x h l) ≡ given (with_tail x (comment_kept s)) BehindQuestion after l
  unfolding question_up_to
  question_with_note s after hash is = rw hash (noted_on (comment h) s after is)

  pub question_note_fails : (e : Refused) → (next_char h == 0x23) ≡ true
      → Fails e (coded (seen_comment asked) (comment h)) → Fails e (coded (incoming asked) (question_up_to o x h l))
  unfolding question_up_to
  question_note_fails e hash fails =
      rw hash (fails_then (comment h >>= λ y. question_noted x l y.0 y.1) (λ y. Ok (incoming asked y.0, y.1)) e
      (fails_then (comment h) _ e (coded_fails (seen_comment asked) (comment h) e fails)))

  pub question_ready : (next_char h == 0x23) ≡ false → refuse_tab o l (mark_of h) (leading_tab h) ≡ Ok tt
      → x.tail ≡ None → coded (incoming asked) (question_up_to o x h l) ≡ given x BehindQuestion h l
  unfolding question_up_to
  question_ready hash tabs none = rw (hash, tabs) (read_untailed asked x h _ none)

-- ---- `:`

module _ (asked : Bool) (o : OptionsData) (ends : Bool) (tail : Option CommentRead) (after h : Here) (l : Laid) where
  abbrev tailed_sign : Option CommentRead → Lexeme
  tailed_sign t = with_tail (sign_lexeme ends Colon h l) t

  keyed_kept : (k : PossibleKey) → keyed_by o k (tailed_sign (comment_kept (seen asked tail))) (mark_of h) after l
      ≡ coded (incoming asked) (keyed_colon o ends k tail after h l)
  unfolding keyed_colon
  keyed_kept k =
      then_third (is_far_below h.place l k) (is_in_flow l) _ _ _ _
      ∙ same_if (incoming asked) (is_far_below h.place l k) _ _ _ _ refl
      (same_if (incoming asked) (is_in_flow l) _ _ _ _
      (sym (read_seen asked (lexeme_with_key k (sign_lexeme ends Colon h l)) tail after _))
      (same_then (incoming asked) (with_pair o k.start.place.column k.start l) _ _
      (λ m. sym (read_seen asked (lexeme_with_key k (sign_lexeme ends Colon h l)) tail after _))))

  bare_kept : bare_entry_read o (tailed_sign (comment_kept (seen asked tail))) (mark_of h)
      (is_allowed h.begins_line h.tab l) after l
      ≡ coded (incoming asked) (bare_colon o ends tail after h l)
  unfolding bare_colon
  bare_kept =
      then_third (is_in_flow l) (not (is_allowed h.begins_line h.tab l)) _ _ _ _
      ∙ same_if (incoming asked) (is_in_flow l) _ _ _ _
      (sym (read_seen asked (sign_lexeme ends Colon h l) tail after _))
      (same_if (incoming asked) (not (is_allowed h.begins_line h.tab l)) _ _ _ _ refl
      (then_then (with_pair o h.place.column (mark_of h) l) _ _
      ∙ same_then (incoming asked) (with_pair o h.place.column (mark_of h) l) _ _
      (λ m. sym (read_seen asked (sign_lexeme ends Colon h l) tail after _))))

  colon_kept : (key : Option PossibleKey) → colon_by o key (tailed_sign (comment_kept (seen asked tail))) (mark_of h)
      (is_allowed h.begins_line h.tab l) after l ≡ coded (incoming asked) (colon_by_key o ends key tail after h l)
  colon_kept (Some k) = keyed_kept k
  colon_kept None = bare_kept

module _ (asked : Bool) (o : OptionsData) (ends : Bool) (h : Here) (l : Laid)
    (fits : (not (is_adjacent l.last) && opens_flow (slice_index h.unread.text 1)) ≡ false) where
  -- with the tail that is seen
  pub colon_tailed : (s : Seen) (after : Here) → coded (seen asked) (colon_tail (step h)) ≡ Ok (s, after)
      → coded (incoming asked) (colon o ends h l)
      ≡ colon_by o (top_key l) (with_tail (sign_lexeme ends Colon h l) (comment_kept s)) (mark_of h)
      (is_allowed h.begins_line h.tab l) after l
  unfolding colon
  colon_tailed s after is =
      let y = coded_back (seen asked) (colon_tail (step h)) s after is in
      rw fits (ap (λ (r : Result (Option CommentRead × Here) Fault). coded (incoming asked)
      (r >>= λ z. colon_by_key o ends (top_key l) z.0 z.1 h l)) y.1
      ∙ sym (colon_kept asked o ends y.0 after h l (top_key l))
      ∙ ap (λ (t : Seen). colon_by o (top_key l) (with_tail (sign_lexeme ends Colon h l) (comment_kept t)) (mark_of h)
      (is_allowed h.begins_line h.tab l) after l) y.2)

  pub colon_fails : (e : Refused) → Fails e (coded (seen asked) (colon_tail (step h)))
      → Fails e (coded (incoming asked) (colon o ends h l))
  unfolding colon
  colon_fails e fails =
      rw fits (fails_then (colon_tail (step h) >>= λ z. colon_by_key o ends (top_key l) z.0 z.1 h l)
      (λ y. Ok (incoming asked y.0, y.1)) e
      (fails_then (colon_tail (step h)) _ e (coded_fails (seen asked) (colon_tail (step h)) e fails)))

-- ---- a `:`, by what the code holds

chosen_number : (far flow : Bool) (f : Fault) (r : Result Laid Fault) (l n : Laid)
    → ((m : Laid) → r ≡ Ok m → m.number ≡ l.number) → (if far then Err f else if flow then Ok l else r) ≡ Ok n
    → n.number ≡ l.number
chosen_number true flow f r l n counts is = absurd cc
chosen_number false true f r l n counts is = let same : l ≡ n = cc in sym (ap (λ (m : Laid). m.number) same)
chosen_number false false f r l n counts is = counts n is

-- no lexeme is counted where a `:` may stand
pub keyed_number : (o : OptionsData) (k : PossibleKey) (m : Mark) (l n : Laid) → keyed_entry o k m l ≡ Ok n
    → n.number ≡ l.number
keyed_number o k m l n is =
    chosen_number (is_far_below m.place l k) (is_in_flow l) _ (with_pair o k.start.place.column k.start l) l n
    (λ p. pair_number o k.start.place.column k.start l p) is

bare_pair : (r : Result Laid Fault) (l : Laid) (e : LastLexeme × Laid)
    → ((m : Laid) → r ≡ Ok m → m.number ≡ l.number) → (r >>= λ n. Ok (BehindBareColon, n)) ≡ Ok e
    → e.1.number ≡ l.number
bare_pair (Ok m) l e counts is =
    let same : (BehindBareColon, m) ≡ e = cc in
    sym (ap (λ (p : LastLexeme × Laid). p.1.number) same) ∙ counts m refl
bare_pair (Err f) l e counts is = absurd cc

chosen_bare : (flow held : Bool) (f : Fault) (r : Result Laid Fault) (l : Laid) (e : LastLexeme × Laid)
    → ((m : Laid) → r ≡ Ok m → m.number ≡ l.number)
    → (if flow then Ok (Another, l) else if not held then Err f else r >>= λ n. Ok (BehindBareColon, n)) ≡ Ok e
    → e.1.number ≡ l.number
chosen_bare true held f r l e counts is =
    let same : (Another, l) ≡ e = cc in sym (ap (λ (p : LastLexeme × Laid). p.1.number) same)
chosen_bare false false f r l e counts is = absurd cc
chosen_bare false true f r l e counts is = bare_pair r l e counts is

pub bare_number : (o : OptionsData) (m : Mark) (allowed : Bool) (l : Laid) (e : LastLexeme × Laid)
    → bare_entry o m allowed l ≡ Ok e → e.1.number ≡ l.number
bare_number o m allowed l e is =
    chosen_bare (is_in_flow l) allowed _ (with_pair o m.place.column m l) l e
    (λ p. pair_number o m.place.column m l p) is

pub keyed_fits : (o : OptionsData) (k : PossibleKey) (m : Mark) (l : Laid) → is_far_below m.place l k ≡ false
    → is_in_flow l ≡ false → keyed_entry o k m l ≡ with_pair o k.start.place.column k.start l
keyed_fits o k m l near flow = rw (near, flow) refl

pub colon_same : (o : OptionsData) (key : Option PossibleKey) {x y : Lexeme} {m n : Mark} {a b : Bool} (after : Here)
    (l : Laid) → x ≡ y → m ≡ n → a ≡ b → colon_by o key x m a after l ≡ colon_by o key y n b after l
colon_same o key {x} {y} {m} {n} {a} {b} after l p q r =
    ap (λ (z : Lexeme). colon_by o key z m a after l) p
    ∙ ap (λ (z : Mark). colon_by o key y z a after l) q
    ∙ ap (λ (z : Bool). colon_by o key y n z after l) r
