-- What is kept while a plain scalar is read: the separation that was read since its last content.
use Rattle.std.proofs.Common.{◌≡◌, ℕ, zero, suc, ◌+◌, ◌==◌, true, false, ◌&&◌, ◌||◌, List, [], ◌∷◌, ◌++◌, length}
use Rattle.std.proofs.Common.{replicate, Option, refl, sym, ap, ap₂, ◌∙◌, subst, arith, append_assoc, append-nil}
use Rattle.std.proofs.Common.{add-zero, length-append}
use Rattle.std.proofs.Math.Bool.{or_assoc, or-false}
use Rattle.granit_base.specs.Classes.{is_blank, is_break, is_gap}
use Rattle.granit_base.specs.Place.{first}
use Rattle.granit_lexemes.proofs.CharTests.{blank_apart_from_break}
use Rattle.granit_lexemes.specs.Folding.{folded}
use Rattle.granit_lexemes.specs.Gap.{Each}
use Rattle.granit_lexemes.specs.Here.{Here, next_char, mark_of, step}
use Rattle.granit_lexemes.specs.LayoutData.{LayoutData, is_left}
use Rattle.granit_lexemes.specs.PlainExtent.{Separation, OnLine, Folded, separation_text, UpToBreak, before_break}
use Rattle.granit_lexemes.specs.PlainExtent.{IsSeparation, left_tab, over}
use Rattle.granit_lexemes.specs.Basics.{past_break}
use Rattle.granit_lexemes.specs.PlainScalar.{PlainState, on_content, on_blank, on_break}
use Rattle.granit_scalars.proofs.Folding.{folded_behind, folds_behind_blank, folds_behind_break}
use Rattle.granit_scalars.proofs.Folding.{folds_break}
use Rattle.granit_scalars.proofs.PlainSpelling.{blanks_gap, separation_gap}
use Rattle.granit_scalars.proofs.Stepping.{over-append, Seen, column_on, Broken, broken}
use Rattle.granit_scalars.proofs.PlainTurns.{seen_blank}

-- blanks on a line of content
pub record KeptOnLine (blanks : List ℕ) (s : PlainState) : Type 0 where
  pub only_blanks : Each is_blank blanks
  pub pending : s.pending ≡ blanks
  pub line : s.on_new_line ≡ false
  pub tab : s.left_tab ≡ false

-- breaks, and the blanks that begin a line
pub record KeptFolded (at : LayoutData) (breaks indent : List ℕ) (s : PlainState) : Type 0 where
  pub up : UpToBreak breaks
  pub only_blanks : Each is_blank indent
  pub line : s.on_new_line ≡ true
  pub tab : s.left_tab ≡ left_tab at.block_column 0 indent
  pub column : s.here.place.column ≡ length indent
  pub empty : ℕ
  pub pending : s.pending ≡ replicate empty 0x0A
  pub folds : (t : List ℕ) → first t ≡ next_char s.here → folded (breaks ++ (indent ++ t)) ≡ folded_behind empty t

abbrev pub Kept : LayoutData → Separation → PlainState → Type 0
Kept at (OnLine blanks) s = KeptOnLine blanks s
Kept at (Folded breaks indent) s = KeptFolded at breaks indent s

-- behind content that ends here, this separation was read
pub record Stays (at : LayoutData) (g : Separation) (behind : Here) (s : PlainState) : Type 0 where
  pub end : s.end ≡ mark_of behind
  pub here : s.here ≡ over (separation_text g) behind
  pub text : behind.unread.text ≡ separation_text g ++ s.here.unread.text
  pub kept : Kept at g s

pub separation_kept : (at : LayoutData) (g : Separation) (s : PlainState) → Kept at g s → IsSeparation g
separation_kept at (OnLine blanks) s k = k.only_blanks
separation_kept at (Folded breaks indent) s k = (k.up, k.only_blanks)

-- ---- content

pub content_stays : (at : LayoutData) (s : PlainState) → Stays at (OnLine []) (step s.here) (on_content s)
unfolding on_content
content_stays at s = record {
  end = refl;
  here = refl;
  text = refl;
  kept =
      record { only_blanks = tt; pending = refl; line = refl; tab = refl };
}

-- ---- a blank

-- a separation after one more blank, or after one more break
abbrev pub Goes : LayoutData → Here → PlainState → Type 0
Goes at behind after = (g : Separation) × Stays at g behind after

pub one_more_blank : (bs : List ℕ) (b : ℕ) → Each is_blank bs → is_blank b ≡ true → Each is_blank (bs ++ b ∷ [])
one_more_blank [] b y z = (z, tt)
one_more_blank (c ∷ bs) b y z = (y.0, one_more_blank bs b y.1 z)

-- on over one more character
pub over_one : (front : List ℕ) (behind h : Here) → h ≡ over front behind
    → step h ≡ over (front ++ next_char h ∷ []) behind
over_one front behind h e = ap step e ∙ sym (over-append front (next_char h ∷ []) behind)

pub text_one : (front : List ℕ) (whole : List ℕ) (h : Here) → Seen h → whole ≡ front ++ h.unread.text
    → whole ≡ (front ++ next_char h ∷ []) ++ (step h).unread.text
text_one front whole h s e = e ∙ ap (λ (t : List ℕ). front ++ t) s.is
    ∙ sym (append_assoc front (next_char h ∷ []) (step h).unread.text)

abbrev on_line_blank : PlainState → PlainState
on_line_blank s = record s { here = step s.here; pending = s.pending ++ next_char s.here ∷ [] }

abbrev on_indent_blank : LayoutData → PlainState → PlainState
on_indent_blank at s = record s {
  here = step s.here;
  left_tab = s.left_tab
      || (next_char s.here == 0x09 && is_left at.block_column s.here.place.column);
}

is_line_blank : (at : LayoutData) (s : PlainState) → s.on_new_line ≡ false → on_blank at s ≡ on_line_blank s
unfolding on_blank
is_line_blank at s e = rw e refl

is_indent_blank : (at : LayoutData) (s : PlainState) → s.on_new_line ≡ true → on_blank at s ≡ on_indent_blank at s
unfolding on_blank
is_indent_blank at s e = rw e refl

-- a tab at the end of some blanks
left_tab-append : (block : Option ℕ) (column : ℕ) (bs : List ℕ) (b : ℕ)
    → left_tab block column (bs ++ b ∷ []) ≡ (left_tab block column bs
    || (b == 0x09 && is_left block (column + length bs)))
left_tab-append block column [] b = or-false (b == 0x09 && is_left block column)
    ∙ ap (λ n. b == 0x09 && is_left block n) (sym (add-zero column))
left_tab-append block column (c ∷ bs) b =
    let first_is = c == 0x09 && is_left block column in
    ap (λ v. first_is || v) (left_tab-append block (suc column) bs b)
    ∙ sym (or_assoc first_is (left_tab block (suc column) bs) (b == 0x09 && is_left block (suc column + length bs)))
    ∙ ap (λ n. (first_is || left_tab block (suc column) bs) || (b == 0x09 && is_left block n)) (omega arith)

pub blank_stays : (at : LayoutData) (g : Separation) (behind : Here) (s : PlainState)
    → is_blank (next_char s.here) ≡ true → Stays at g behind s → Goes at behind (on_blank at s)
blank_stays at (OnLine bs) behind s y h =
    let k = h.kept in
    let seen = seen_blank s.here y in
    let c = next_char s.here in
    let after : Stays at (OnLine (bs ++ c ∷ [])) behind (on_line_blank s) = record {
      end = h.end;
      here = over_one bs behind s.here h.here;
      text = text_one bs behind.unread.text s.here seen h.text;
      kept = record {
        only_blanks = one_more_blank bs c k.only_blanks y;
        pending = ap (λ (t : List ℕ). t ++ c ∷ [])
            k.pending;
        line = k.line;
        tab = k.tab;
      };
    } in
    (OnLine (bs ++ c ∷ []), subst (Stays at (OnLine (bs ++ c ∷ [])) behind) (sym (is_line_blank at s k.line)) after)
blank_stays at (Folded breaks indent) behind s y h =
    let k = h.kept in
    let seen = seen_blank s.here y in
    let c = next_char s.here in
    let n : is_break c ≡ false = blank_apart_from_break c y in
    let joined : (breaks ++ indent) ++ c ∷ [] ≡ breaks ++ (indent ++ c ∷ []) = append_assoc breaks indent (c ∷ []) in
    let after : Stays at (Folded breaks (indent ++ c ∷ [])) behind (on_indent_blank at s) = record {
      end = h.end;
      here = over_one (breaks ++ indent) behind s.here h.here ∙ ap (λ (t : List ℕ). over t behind) joined;
      text = text_one (breaks ++ indent) behind.unread.text s.here seen h.text
          ∙ ap (λ (t : List ℕ). t ++ (step s.here).unread.text) joined;
      kept = record {
        up = k.up;
        only_blanks = one_more_blank indent c k.only_blanks y;
        line = k.line;
        tab = ap₂ (λ v m. v || (c == 0x09 && is_left at.block_column m)) k.tab k.column
            ∙ sym (left_tab-append at.block_column 0 indent c
            ∙ ap (λ m. left_tab at.block_column 0 indent || (c == 0x09 && is_left at.block_column m)) (omega arith));
        column = column_on s.here seen n ∙ ap (λ m. m + 1) k.column ∙ sym (length-append indent (c ∷ []));
        empty = k.empty;
        pending = k.pending;
        folds = λ t e. ap (λ (l : List ℕ). folded (breaks ++ l)) (append_assoc indent (c ∷ []) t) ∙ k.folds (c ∷ t) refl
            ∙ folds_behind_blank k.empty c t y n;
      };
    } in (
      Folded breaks (indent ++ c ∷ []),
      subst (Stays at (Folded breaks (indent ++ c ∷ [])) behind)
          (sym (is_indent_blank at s k.line)) after,
    )

-- ---- a break

abbrev on_first_break : PlainState → PlainState
on_first_break s = record s { here = past_break s.here; pending = []; on_new_line = true }

abbrev on_further_break : PlainState → PlainState
on_further_break s = record s { here = past_break s.here; pending = s.pending ++ 0x0A ∷ []; left_tab = false }

is_first_break : (s : PlainState) → s.on_new_line ≡ false → on_break s ≡ on_first_break s
unfolding on_break
is_first_break s e = rw e refl

is_further_break : (s : PlainState) → s.on_new_line ≡ true → on_break s ≡ on_further_break s
unfolding on_break
is_further_break s e = rw e refl

up_behind : (front : List ℕ) {breaks : List ℕ} → Each is_gap front → UpToBreak breaks → UpToBreak (front ++ breaks)
up_behind [] e up = up
up_behind (c ∷ front) e up = before_break e.0 (up_behind front e.1 up)

over_break : (front : List ℕ) (behind h : Here) (b : Broken h (past_break h)) → h ≡ over front behind
    → past_break h ≡ over ((front ++ b.characters) ++ []) behind
over_break front behind h b e =
    b.is ∙ ap (over b.characters) e ∙ sym (over-append front b.characters behind)
    ∙ ap (λ (t : List ℕ). over t behind) (sym (append-nil (front ++ b.characters)))

text_break : (front whole : List ℕ) (h : Here) (b : Broken h (past_break h)) → whole ≡ front ++ h.unread.text
    → whole ≡ ((front ++ b.characters) ++ []) ++ (past_break h).unread.text
text_break front whole h b e =
    e ∙ ap (λ (t : List ℕ). front ++ t) b.text ∙ sym (append_assoc front b.characters (past_break h).unread.text)
    ∙ ap (λ (t : List ℕ). t ++ (past_break h).unread.text) (sym (append-nil (front ++ b.characters)))

pub one_more : (k c : ℕ) → replicate k c ++ c ∷ [] ≡ replicate (suc k) c
one_more zero c = refl
one_more (suc k) c = ap (λ (t : List ℕ). c ∷ t) (one_more k c)

pub break_stays : (at : LayoutData) (g : Separation) (behind : Here) (s : PlainState)
    → is_break (next_char s.here) ≡ true → Stays at g behind s → Goes at behind (on_break s)
break_stays at (OnLine bs) behind s y h =
    let k = h.kept in
    let b = broken s.here y in
    let g = Folded (bs ++ b.characters) [] in
    let after : Stays at g behind (on_first_break s) = record {
      end = h.end;
      here = over_break bs behind s.here b h.here;
      text = text_break bs behind.unread.text s.here b h.text;
      kept = record {
        up = up_behind bs (blanks_gap bs k.only_blanks) b.up;
        only_blanks = tt;
        line = refl;
        tab = k.tab;
        column = b.column;
        empty = 0;
        pending = refl;
        folds = λ t e. ap folded (append_assoc bs b.characters t)
            ∙ folds_break bs b.characters t k.only_blanks (b.breaks t e);
      };
    } in
    (g, subst (Stays at g behind) (sym (is_first_break s k.line)) after)
break_stays at (Folded breaks indent) behind s y h =
    let k = h.kept in
    let b = broken s.here y in
    let front = breaks ++ indent in
    let g = Folded (front ++ b.characters) [] in
    let after : Stays at g behind (on_further_break s) = record {
      end = h.end;
      here = over_break front behind s.here b h.here;
      text = text_break front behind.unread.text s.here b h.text;
      kept = record {
        up = up_behind front (separation_gap (Folded breaks indent) (k.up, k.only_blanks)) b.up;
        only_blanks = tt;
        line = k.line;
        tab = refl;
        column = b.column;
        empty = suc k.empty;
        pending = ap (λ (t : List ℕ). t ++ 0x0A ∷ []) k.pending ∙ one_more k.empty 0x0A;
        folds = λ t e. ap folded (append_assoc front b.characters t ∙ append_assoc breaks indent (b.characters ++ t))
            ∙ k.folds (b.characters ++ t) (b.head t) ∙ folds_behind_break k.empty b.characters t (b.breaks t e);
      };
    } in
    (g, subst (Stays at g behind) (sym (is_further_break s k.line)) after)
