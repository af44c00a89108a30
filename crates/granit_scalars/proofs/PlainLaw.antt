-- The plain function answers the plain scalar that stands there, or refuses it with its cause.
use Rattle.std.proofs.Common.{◌≡◌, ℕ, ◌==◌, Bool, true, false, cond, not, ◌&&◌, ◌||◌, List, [], ◌∷◌, ◌++◌, length}
use Rattle.std.proofs.Common.{Option, Some, None, Result, Ok, Err, refl, sym, ap, ap₂, ◌∙◌, subst}
use Rattle.std.specs.Prelude.{if◌then◌else◌}
use Rattle.std.proofs.Math.Bool.{and-false, or-false}
use Rattle.granit_base.specs.Classes.{is_printable}
use Rattle.granit_base.specs.Place.{Mark}
use Rattle.granit_error.specs.FaultKind.{PlainScalarStartsWithDashFlowIndicator, UnexpectedCharacter}
use Rattle.granit_lexemes.specs.Folding.{folded}
use Rattle.granit_lexemes.specs.Here.{Here, next_char, mark_of, step}
use Rattle.granit_lexemes.specs.LayoutData.{LayoutData}
use Rattle.granit_lexemes.specs.Outcome.{Fault, ◌>>=◌}
use Rattle.granit_lexemes.specs.Pieces.{with_front, pieces}
use Rattle.granit_lexemes.specs.PlainExtent.{Separation, OnLine, Folded, separation_text, left_tab, PlainStands}
use Rattle.granit_lexemes.specs.PlainExtent.{tab_refused, is_cut, is_folded, over, behind_of, plain_answer}
use Rattle.granit_lexemes.specs.PlainExtent.{is_flow_dash, is_unprintable_at, AnswersPlain, is_inside, is_behind}
use Rattle.granit_lexemes.specs.PlainExtent.{RefusesPlain}
use Rattle.granit_lexemes.specs.Basics.{fails_at, unprintable, only_printable}
use Rattle.granit_lexemes.specs.PlainScalar.{PlainState, PlainRead, on_content, meets_comment, plain_turn, plain_len}
use Rattle.granit_lexemes.specs.PlainScalar.{plain_start, cut_mark, is_one_line, plain_read, behind_plain, plain_scalar}
use Rattle.granit_base.specs.PlainContent.{is_content}
use Rattle.granit_lexemes.proofs.PieceLemmas.{pieces_more}
use Rattle.granit_scalars.proofs.Folding.{folds_content}
use Rattle.granit_scalars.proofs.PlainKept.{Kept, Stays, content_stays}
use Rattle.granit_scalars.proofs.PlainReads.{Finds, Reads, reads}
use Rattle.granit_scalars.proofs.PlainSpelling.{solid, no_longer}
use Rattle.granit_scalars.proofs.PlainTurns.{seen_content, plain_shortens}
use Rattle.granit_scalars.proofs.Stepping.{over_lends}

-- ---- the first character

first_turn : (at : LayoutData) (h : Here) → is_content at.in_flow h.unread.text ≡ true
    → plain_turn at (mark_of h) (plain_start h) ≡ Ok (Some (next_char h ∷ []), on_content (plain_start h))
unfolding plain_turn
first_turn at h y =
    let s = solid at.in_flow h.unread.text y in
    let b = s.no_blank in
    let k = s.no_break in
    let none : meets_comment (plain_start h) ≡ false = and-false (next_char h == 0x23) in
    rw (b, k, none, y) refl

first_piece : (at : LayoutData) (h : Here) → is_content at.in_flow h.unread.text ≡ true
    → pieces plain_len (plain_turn at (mark_of h)) (plain_start h)
    ≡ with_front (next_char h ∷ []) (pieces plain_len (plain_turn at (mark_of h)) (on_content (plain_start h)))
first_piece at h y = pieces_more plain_len (plain_turn at (mark_of h)) (plain_shortens at (mark_of h)) (plain_start h)
    (on_content (plain_start h)) (next_char h ∷ []) (first_turn at h y)

-- ---- the scalar stands there

stands : (at : LayoutData) (h : Here) → is_content at.in_flow h.unread.text ≡ true
    → (source : List ℕ) (tail : Separation) (rest : List ℕ) → Finds at (step h) source tail rest
    → PlainStands at h (next_char h ∷ source) tail rest
stands at h y source tail rest found =
    let c = next_char h in
    let there : h.unread.text ≡ c ∷ (source ++ (separation_text tail ++ rest)) = (seen_content at.in_flow h y).is
    ∙ ap (λ (t : List ℕ). c ∷ t) found.whole in
    record {
      extent = record {
        whole = there;
        spelled = record {
          start = c;
          more = source;
          begins = refl;
          content =
              subst (λ (t : List ℕ). is_content at.in_flow t ≡ true) there y;
          goes = found.goes;
        };
        longest = no_longer c source tail rest found.goes found.separation found.no_gap found.ends;
      };
      separation = found.separation;
      behind = found.no_gap;
      ends = found.ends;
    }

-- ---- what is answered

abbrev pub Answered : LayoutData → Here → Result (PlainRead × Here) Fault → Type 0
Answered at h (Ok (read, after)) = AnswersPlain at h read after
Answered at h (Err f) = RefusesPlain at h f.kind f.mark

cut_is : (at : LayoutData) (tail : Separation) (s : PlainState) → Kept at tail s
    → meets_comment s ≡ is_cut at tail s.here.unread.text
cut_is at (OnLine blanks) s k =
    ap₂ (λ (t l : Bool). next_char s.here == 0x23 && (t || (not l && not (length s.pending == 0)))) k.tab k.line
    ∙ ap (λ (p : List ℕ). next_char s.here == 0x23 && not (length p == 0)) k.pending
cut_is at (Folded breaks indent) s k =
    ap₂ (λ (t l : Bool). next_char s.here == 0x23 && (t || (not l && not (length s.pending == 0)))) k.tab k.line
    ∙ ap (λ v. next_char s.here == 0x23 && v) (or-false (left_tab at.block_column 0 indent))

line_is : (at : LayoutData) (tail : Separation) (s : PlainState) → Kept at tail s → s.on_new_line ≡ is_folded tail
line_is at (OnLine blanks) s k = k.line
line_is at (Folded breaks indent) s k = k.line

-- what a scalar that began somewhere is read to
record PlainFound : Type 0 where
  value : List ℕ
  end : Mark
  lends : Bool
  cut : Option Mark
  line : Bool

abbrev read_of : Mark → PlainFound → PlainRead
read_of start x = record {
  text = record { characters = x.value; is_borrowed = is_one_line start x.end && x.lends };
  source = record { start = start; end = x.end };
  cut_by_comment = x.cut;
  on_new_line = x.line;
}

same_read : (start : Mark) (x y : PlainFound) → x.value ≡ y.value → x.end ≡ y.end → x.lends ≡ y.lends
    → x.cut ≡ y.cut → x.line ≡ y.line → read_of start x ≡ read_of start y
same_read start x y e f i g h = rw (e, f, i, g, h) refl

answer_is : (at : LayoutData) (h : Here) (value source : List ℕ) (tail : Separation) (s : PlainState)
    → value ≡ folded source → Stays at tail (over source h) s
    → plain_read at (mark_of h) value s ≡ plain_answer at h source tail s.here.unread.text
answer_is at h value source tail s e k =
    same_read (mark_of h) (record {
      value = value;
      end = s.end;
      lends = s.here.unread.lends;
      cut = cut_mark at s;
      line = s.on_new_line;
    })
    (record {
      value = folded source;
      end = mark_of (over source h);
      lends = h.unread.lends;
      cut = if not at.in_flow && is_cut at tail s.here.unread.text then Some (mark_of (behind_of h source tail))
          else None;
      line = is_folded tail;
    })
    e k.end (ap (λ (n : Here). n.unread.lends) k.here ∙ over_lends (separation_text tail) (over source h)
    ∙ over_lends source h)
    (ap₂ (λ (b : Bool) (n : Here). if not at.in_flow && b then Some (mark_of n) else None) (cut_is at tail s k.kept)
    k.here)
    (line_is at tail s k.kept)

behind_as : (at : LayoutData) (h : Here) → is_flow_dash at h.unread.text ≡ false
    → (value source : List ℕ) (tail : Separation) (s : PlainState) → value ≡ folded source → unprintable source ≡ None
    → PlainStands at h source tail s.here.unread.text → Stays at tail (over source h) s
    → tab_refused at tail s.here.unread.text ≡ false
    → (b : Bool) → is_unprintable_at s.here.unread.text ≡ b
    → Answered at h (if b then fails_at (UnexpectedCharacter (next_char s.here)) (mark_of s.here) else Ok
    (plain_read at (mark_of h) value s, s.here))
behind_as at h d value source tail s e u p k t true y = is_behind source tail s.here.unread.text
    (record { stands = p; no_dash = d; no_tab = t }) u y refl (ap mark_of k.here)
behind_as at h d value source tail s e u p k t false y = record {
  source = source;
  tail = tail;
  rest = s.here.unread.text;
  stands = p;
  answer = answer_is at h value source tail s e k;
  reached = k.here;
  no_dash = d;
  no_tab = t;
  inside = u;
  printable = y;
}

printed : (at : LayoutData) (h : Here) → is_flow_dash at h.unread.text ≡ false
    → (value source : List ℕ) (tail : Separation) (s : PlainState) → value ≡ folded source
    → PlainStands at h source tail s.here.unread.text → Stays at tail (over source h) s
    → tab_refused at tail s.here.unread.text ≡ false
    → (u : Option ℕ) → unprintable source ≡ u
    → Answered at h (only_printable u (mark_of h) (behind_plain at (mark_of h) value s))
unfolding behind_plain
printed at h d value source tail s e p k t (Some c) y = is_inside source tail s.here.unread.text
    (record { stands = p; no_dash = d; no_tab = t }) y refl
printed at h d value source tail s e p k t None y = behind_as at h d value source tail s e y p k t
    (is_unprintable_at s.here.unread.text) refl

run_answers : (at : LayoutData) (h : Here) → is_content at.in_flow h.unread.text ≡ true
    → is_flow_dash at h.unread.text ≡ false → (run : Result (List ℕ × PlainState) Fault)
    → Reads at (mark_of h) (on_content (plain_start h)) run
    → Answered at h (with_front (next_char h ∷ []) run >>= λ x. only_printable (unprintable x.0) (mark_of h)
    (behind_plain at (mark_of h) x.0 x.1))
run_answers at h y d (Ok (value, last)) reading =
    let r = reading (OnLine []) (step h) (content_stays at (plain_start h)) in
    let c = next_char h in
    let s = solid at.in_flow h.unread.text y in
    let same : unprintable (c ∷ value) ≡ unprintable (c ∷ r.source) = ap
    (λ (u : Option ℕ). cond (not (is_printable c)) (Some c) u) r.characters in
    printed at h d (c ∷ value) (c ∷ r.source) r.tail last
    (ap (λ (t : List ℕ). c ∷ t) r.value ∙ sym (folds_content c r.source s.no_blank s.no_break))
    (stands at h y r.source r.tail last.here.unread.text r.finds) r.stays r.untabbed (unprintable (c ∷ value))
    (sym same)
run_answers at h y d (Err f) reading =
    let r = reading (OnLine []) (step h) (content_stays at (plain_start h)) in
    subst (λ (g : Fault). RefusesPlain at h g.kind g.mark) (sym r.fault)
    (record {
      source = next_char h ∷ r.source;
      tail = r.tail;
      rest = r.rest;
      stands = stands at h y r.source r.tail
          r.rest r.finds;
      no_dash = d;
      tab = r.tabbed;
      marks = refl;
    })

dash_or : (at : LayoutData) (h : Here) → is_content at.in_flow h.unread.text ≡ true → (b : Bool)
    → is_flow_dash at h.unread.text ≡ b
    → Answered at h (if b then fails_at PlainScalarStartsWithDashFlowIndicator (mark_of h) else pieces plain_len
    (plain_turn at (mark_of h)) (plain_start h) >>= λ x. only_printable (unprintable x.0) (mark_of h)
    (behind_plain at (mark_of h) x.0 x.1))
dash_or at h y true d = record { dash = d; marks = refl }
dash_or at h y false d =
    subst (λ (run : Result (List ℕ × PlainState) Fault). Answered at h
    (run >>= λ x. only_printable (unprintable x.0) (mark_of h) (behind_plain at (mark_of h) x.0 x.1)))
    (sym (first_piece at h y))
    (run_answers at h y d (pieces plain_len (plain_turn at (mark_of h)) (on_content (plain_start h)))
    (reads at (mark_of h) (on_content (plain_start h))))

-- where content begins, the plain function answers what stands there
pub answered : (at : LayoutData) (h : Here) → is_content at.in_flow h.unread.text ≡ true
    → Answered at h (plain_scalar at h)
unfolding plain_scalar
answered at h y = dash_or at h y (is_flow_dash at h.unread.text) refl
