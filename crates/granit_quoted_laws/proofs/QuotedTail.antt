-- What stands behind a closing quote.
use Rattle.std.proofs.Common.{◌≡◌, ℕ, ◌==◌, Bool, true, false, not, ◌&&◌, ◌||◌, List, [], ◌∷◌, ◌++◌, Option, None}
use Rattle.std.proofs.Common.{Result, Ok, Err, refl, sym, ap, ◌∙◌, subst, arith}
use Rattle.std.specs.Prelude.{if◌then◌else◌}
use Rattle.std.proofs.lemmas.Bool.{cond-true, cond-false}
use Rattle.std.proofs.lemmas.Bool.Decides.{nat_tests}
use Rattle.granit_base.specs.Classes.{is_blank, is_printable}
use Rattle.granit_base.specs.Place.{Mark, first}
use Rattle.granit_base.specs.Written.{Written}
use Rattle.granit_error.specs.FaultKind.{CommentNotSeparated, UnexpectedCharacter}
use Rattle.granit_lexemes.proofs.CharTests.{blank_no_hash}
use Rattle.granit_lexemes.specs.Comment.{CommentRead, comment, ReadsComment}
use Rattle.granit_lexemes.specs.Gap.{Each}
use Rattle.granit_lexemes.specs.Here.{Here, next_char, mark_of, step, text_len, past}
use Rattle.granit_lexemes.specs.LayoutData.{LayoutData}
use Rattle.granit_lexemes.specs.Outcome.{Fault, ◌>>=◌}
use Rattle.granit_lexemes.specs.PlainExtent.{over, starts_comment}
use Rattle.granit_lexemes.specs.Basics.{fails_at}
use Rattle.granit_lexemes.specs.QuotedExtent.{BlanksBehind, ends_quoted, Trails, comment as trails_comment}
use Rattle.granit_lexemes.specs.QuotedExtent.{nothing as trails_nothing, WrongBehind, touching}
use Rattle.granit_lexemes.specs.QuotedExtent.{comment as wrong_comment, character, trailing_single, trailing_double}
use Rattle.granit_lexemes.specs.QuotedScalar.{QuotedRead, quoted_read, asked_comment, trailing_kind, may_trail}
use Rattle.granit_lexemes.specs.QuotedScalar.{behind_quoted, quoted_tail}
use Rattle.granit_lexemes.proofs.HereLemmas.{past_goes, past_stops, stepped_text}
pub use Rattle.granit_scalars.proofs.Comments.{comment_answered, comment_reads}
use Rattle.granit_scalars.proofs.QuotedEscapes.{over_text}
use Rattle.granit_scalars.proofs.QuotedTurns.{seen_there}

-- ---- blanks

pub is_blank_nul : is_blank 0 ≡ false
unfolding is_blank
is_blank_nul = refl

record Split (text : List ℕ) : Type 0 where
  blanks : List ℕ
  rest : List ℕ
  whole : text ≡ blanks ++ rest
  each : Each is_blank blanks
  all : is_blank (first rest) ≡ false

split_on : (c : ℕ) (t : List ℕ) → Split t → (b : Bool) → is_blank c ≡ b → Split (c ∷ t)
split_on c t s true y = record {
  blanks = c ∷ s.blanks;
  rest = s.rest;
  whole = ap
      (λ (l : List ℕ). c ∷ l) s.whole;
  each = (y, s.each);
  all = s.all;
}
split_on c t s false y = record { blanks = []; rest = c ∷ t; whole = refl; each = tt; all = y }

split : (text : List ℕ) → Split text
split [] = record { blanks = []; rest = []; whole = refl; each = tt; all = is_blank_nul }
split (c ∷ t) = split_on c t (split t) (is_blank c) refl

past_blanks : (blanks rest : List ℕ) (h : Here) → h.unread.text ≡ blanks ++ rest → Each is_blank blanks
    → is_blank (first rest) ≡ false → past is_blank h ≡ over blanks h
past_blanks [] rest h e y n = past_stops is_blank h (ap (λ (t : List ℕ). is_blank (first t)) e ∙ n)
past_blanks (b ∷ blanks) rest h e y n =
    sym (past_goes is_blank h is_blank_nul (ap (λ (t : List ℕ). is_blank (first t)) e ∙ y.0))
    ∙ past_blanks blanks rest (step h) (stepped_text h b (blanks ++ rest) e) y.1 n

-- ---- what is read is there

abbrev pub TailReads : Bool → LayoutData → Mark → Written → Here → Result (QuotedRead × Here) Fault → Type 0
TailReads single at start value h (Ok (read, after)) = (noted : Option CommentRead) × Trails at start h noted after
    × (read ≡ quoted_read single start value (mark_of h) noted)
TailReads single at start value h (Err f) = WrongBehind single at start h f.kind f.mark

ends_with : (a b c : Bool) → a ≡ false → b ≡ true → (a || (b && c)) ≡ c
ends_with true b c p q = cc
ends_with false true c p q = refl
ends_with false false c p q = cc

trailing : (single : Bool) (at : LayoutData) (start : Mark) (h : Here) (blanks rest : List ℕ)
    → BlanksBehind h blanks rest → starts_comment rest ≡ false
    → is_printable (first rest) ≡ true → ends_quoted at start (over blanks h) ≡ false
    → (b : Bool) → single ≡ b → WrongBehind single at start h (trailing_kind b) (mark_of (over blanks h))
trailing single at start h blanks rest p n prints y true s = trailing_single blanks rest s p n prints y
trailing single at start h blanks rest p n prints y false s = trailing_double blanks rest s p n prints y

module _ (single : Bool) (at : LayoutData) (start : Mark) (value : Written) (h : Here) (blanks rest : List ℕ)
    (p : BlanksBehind h blanks rest) (n : starts_comment rest ≡ false) where
  abbrev pub past_here : Here
  past_here = over blanks h

  answered : ends_quoted at start past_here ≡ true
      → TailReads single at start value h (Ok (quoted_read single start value (mark_of h) None, past_here))
  answered y = (None, trails_nothing blanks rest p n refl y, refl)

  may_if : (text_len past_here == 0) ≡ false → is_printable (next_char past_here) ≡ true → (b : Bool)
      → may_trail at (past_here.place.line == start.place.line) (next_char past_here) ≡ b
      → TailReads single at start value h (if b then Ok (quoted_read single start value (mark_of h) None, past_here)
      else fails_at (trailing_kind single) (mark_of past_here))
  may_if some prints true y = answered (ends_with (text_len past_here == 0) (is_printable (next_char past_here))
      (may_trail at (past_here.place.line == start.place.line) (next_char past_here)) some prints ∙ y)
  may_if some prints false y =
      trailing single at start h blanks rest p n
      (ap (λ (t : List ℕ). is_printable (first t)) (sym (over_text blanks rest h p.whole))
      ∙ prints) (ends_with (text_len past_here == 0) (is_printable (next_char past_here))
      (may_trail at (past_here.place.line == start.place.line) (next_char past_here)) some prints ∙ y) single refl

  strange : (text_len past_here == 0) ≡ false → is_printable (next_char past_here) ≡ false
      → WrongBehind single at start h (UnexpectedCharacter (next_char past_here)) (mark_of past_here)
  strange some y =
      let there : rest ≡ next_char past_here ∷ (step past_here).unread.text = sym (over_text blanks rest h p.whole)
      ∙ (seen_there past_here some).is in
      character blanks (step past_here).unread.text (subst (BlanksBehind h blanks) there p) y

  prints_if : (text_len past_here == 0) ≡ false → (b : Bool) → is_printable (next_char past_here) ≡ b
      → TailReads single at start value h (if not b then fails_at (UnexpectedCharacter (next_char past_here))
      (mark_of past_here)
      else if may_trail at (past_here.place.line == start.place.line) (next_char past_here) then Ok
      (quoted_read single start value (mark_of h) None, past_here)
      else fails_at (trailing_kind single) (mark_of past_here))
  prints_if some true y = may_if some y (may_trail at (past_here.place.line == start.place.line)
      (next_char past_here)) refl
  prints_if some false y = strange some y

  some_if : (b : Bool) → (text_len past_here == 0) ≡ b
      → TailReads single at start value h (if b then Ok (quoted_read single start value (mark_of h) None, past_here)
      else if not (is_printable (next_char past_here)) then fails_at (UnexpectedCharacter (next_char past_here))
      (mark_of past_here)
      else if may_trail at (past_here.place.line == start.place.line) (next_char past_here) then Ok
      (quoted_read single start value (mark_of h) None, past_here)
      else fails_at (trailing_kind single) (mark_of past_here))
  some_if true y = answered (ap (λ b. b
      || (is_printable (next_char past_here)
      && may_trail at (past_here.place.line == start.place.line) (next_char past_here))) y)
  some_if false y = prints_if y (is_printable (next_char past_here)) refl

  pub behind_reads : TailReads single at start value h (behind_quoted single at start value (mark_of h) past_here)
  unfolding behind_quoted
  behind_reads = some_if (text_len past_here == 0) refl

with_comment : (single : Bool) (at : LayoutData) (start : Mark) (value : Written) (h : Here) (b : ℕ)
    (blanks rest : List ℕ) → BlanksBehind h (b ∷ blanks) rest → starts_comment rest ≡ true
    → (r : Result (CommentRead × Here) Fault) → ReadsComment (over (b ∷ blanks) h) r
    → TailReads single at start value h (r >>= λ x. Ok
    (quoted_read single start value (mark_of h) (asked_comment at x.0), x.1))
with_comment single at start value h b blanks rest p y (Ok (c, after)) read =
    (asked_comment at c, trails_comment b blanks rest c p y read refl, refl)
with_comment single at start value h b blanks rest p y (Err f) read = wrong_comment b blanks rest p read

comment_if : (single : Bool) (at : LayoutData) (start : Mark) (value : Written) (h : Here)
    → (next_char h == 0x23) ≡ false → (blanks rest : List ℕ) → BlanksBehind h blanks rest → (b : Bool)
    → (next_char (over blanks h) == 0x23) ≡ b
    → TailReads single at start value h (if b then
    (comment (over blanks h) >>= λ x. Ok (quoted_read single start value (mark_of h) (asked_comment at x.0), x.1))
    else behind_quoted single at start value (mark_of h) (over blanks h))
comment_if single at start value h n [] rest p true y = absurd cc
comment_if single at start value h n (b ∷ blanks) rest p true y =
    let hash : next_char (over (b ∷ blanks) h) ≡ 0x23 = grind (arith, nat_tests) in
    with_comment single at start value h b blanks rest p
    (ap (λ (t : List ℕ). first t == 0x23) (sym (over_text (b ∷ blanks) rest h p.whole))
    ∙ y) (comment (over (b ∷ blanks) h)) (comment_reads (over (b ∷ blanks) h) hash)
comment_if single at start value h n blanks rest p false y = behind_reads single at start value h blanks rest p
    (ap (λ (t : List ℕ). first t == 0x23) (sym (over_text blanks rest h p.whole)) ∙ y)

touching_if : (single : Bool) (at : LayoutData) (start : Mark) (value : Written) (h : Here) (blanks rest : List ℕ)
    → BlanksBehind h blanks rest → (b : Bool) → (next_char h == 0x23) ≡ b
    → TailReads single at start value h (if b then fails_at CommentNotSeparated (mark_of h)
    else if next_char (over blanks h) == 0x23 then
    (comment (over blanks h) >>= λ x. Ok (quoted_read single start value (mark_of h) (asked_comment at x.0), x.1))
    else behind_quoted single at start value (mark_of h) (over blanks h))
touching_if single at start value h blanks rest p true y = touching y
touching_if single at start value h blanks rest p false y =
    comment_if single at start value h y blanks rest p (next_char (over blanks h) == 0x23) refl

-- what is read behind a closing quote may stand there, or is wrong
pub tail_reads : (single : Bool) (at : LayoutData) (start : Mark) (value : Written) (h : Here)
    → TailReads single at start value h (quoted_tail single at start value h)
unfolding quoted_tail
tail_reads single at start value h =
    let s = split h.unread.text in
    subst (λ (g : Here). TailReads single at start value h
    (if next_char h == 0x23 then fails_at CommentNotSeparated (mark_of h)
    else if next_char g == 0x23 then (comment g >>= λ x. Ok
    (quoted_read single start value (mark_of h) (asked_comment at x.0), x.1))
    else behind_quoted single at start value (mark_of h) g)) (sym (past_blanks s.blanks s.rest h s.whole s.each s.all))
    (touching_if single at start value h s.blanks s.rest (record { whole = s.whole; each = s.each; all = s.all })
    (next_char h == 0x23) refl)

-- ---- what may stand there is read

pub tail_past : (single : Bool) (at : LayoutData) (start : Mark) (value : Written) (h : Here) (blanks rest : List ℕ)
    → BlanksBehind h blanks rest → (next_char h == 0x23) ≡ false
    → quoted_tail single at start value h ≡ (if next_char (over blanks h) == 0x23 then
    (comment (over blanks h) >>= λ x. Ok (quoted_read single start value (mark_of h) (asked_comment at x.0), x.1))
    else behind_quoted single at start value (mark_of h) (over blanks h))
unfolding quoted_tail
tail_past single at start value h blanks rest p n =
    cond-false (next_char h == 0x23) _ _ n
    ∙ ap (λ (g : Here). if next_char g == 0x23 then
    (comment g >>= λ x. Ok (quoted_read single start value (mark_of h) (asked_comment at x.0), x.1))
    else behind_quoted single at start value (mark_of h) g) (past_blanks blanks rest h p.whole p.each p.all)

pub no_hash : (h : Here) (blanks rest : List ℕ) → BlanksBehind h blanks rest → starts_comment rest ≡ false
    → (next_char h == 0x23) ≡ false
no_hash h [] rest p n = ap (λ (t : List ℕ). first t == 0x23) p.whole ∙ n
no_hash h (b ∷ blanks) rest p n = ap (λ (t : List ℕ). first t == 0x23) p.whole ∙ blank_no_hash b p.each.0

abbrev behind_chain : Bool → Mark → Written → Mark → Here → (a b c : Bool) → Result (QuotedRead × Here) Fault
behind_chain single start value e h a b c =
    if a then Ok (quoted_read single start value e None, h) else if not b then fails_at
    (UnexpectedCharacter (next_char h)) (mark_of h) else if c then Ok (quoted_read single start value e None, h)
    else fails_at (trailing_kind single) (mark_of h)

behind_if : (single : Bool) (start : Mark) (value : Written) (e : Mark) (h : Here) (a b c : Bool)
    → (a || (b && c)) ≡ true → behind_chain single start value e h a b c ≡ Ok (quoted_read single start value e None, h)
behind_if single start value e h true b c y = refl
behind_if single start value e h false true true y = refl
behind_if single start value e h false true false y = absurd cc
behind_if single start value e h false false c y = absurd cc

behind_answers : (single : Bool) (at : LayoutData) (start : Mark) (value : Written) (e : Mark) (h : Here)
    → ends_quoted at start h ≡ true
    → behind_quoted single at start value e h ≡ Ok (quoted_read single start value e None, h)
unfolding behind_quoted
behind_answers single at start value e h y = behind_if single start value e h (text_len h == 0)
    (is_printable (next_char h)) (may_trail at (h.place.line == start.place.line) (next_char h)) y

pub tail_answers : (single : Bool) (at : LayoutData) (start : Mark) (value : Written) (h : Here)
    (noted : Option CommentRead) (after : Here) → Trails at start h noted after
    → quoted_tail single at start value h ≡ Ok (quoted_read single start value (mark_of h) noted, after)
tail_answers single at start value h noted after (trails_comment b blanks rest c p y stands is) =
    tail_past single at start value h (b ∷ blanks) rest p (ap (λ (t : List ℕ). first t == 0x23) p.whole
    ∙ blank_no_hash b p.each.0)
    ∙ cond-true (next_char (over (b ∷ blanks) h) == 0x23) _ _
    (ap (λ (t : List ℕ). first t == 0x23) (over_text (b ∷ blanks) rest h p.whole) ∙ y)
    ∙ ap (λ r. r >>= λ x. Ok (quoted_read single start value (mark_of h) (asked_comment at x.0), x.1))
    (comment_answered (over (b ∷ blanks) h) c after stands)
    ∙ ap (λ (v : Option CommentRead). Ok (quoted_read single start value (mark_of h) v, after)) (sym is)
tail_answers single at start value h noted after (trails_nothing blanks rest p n lands y) =
    tail_past single at start value h blanks rest p (no_hash h blanks rest p n)
    ∙ cond-false (next_char (over blanks h) == 0x23) _ _
    (ap (λ (t : List ℕ). first t == 0x23) (over_text blanks rest h p.whole) ∙ n)
    ∙ behind_answers single at start value (mark_of h) (over blanks h) (ap (ends_quoted at start) (sym lands) ∙ y)
    ∙ ap (λ (g : Here). Ok (quoted_read single start value (mark_of h) None, g)) (sym lands)
