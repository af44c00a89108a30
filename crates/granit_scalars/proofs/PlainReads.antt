-- What is read from a state on: the rest of a plain scalar, and what ends it.
use Rattle.std.proofs.Common.{◌≡◌, ℕ, zero, suc, ◌==◌, Bool, true, false, cond, not, ◌&&◌, ◌||◌, List, [], ◌∷◌, ◌++◌}
use Rattle.std.proofs.Common.{length, replicate, Option, Some, Result, Ok, Err, refl, sym, ap, ap₂, ◌∙◌, subst}
use Rattle.std.proofs.Common.{append_assoc, ◌⊎◌, inl, inr}
use Rattle.std.proofs.lemmas.Bool.{and_parts, and_left, or_parts, or_left, or_cases}
use Rattle.granit_base.specs.Classes.{is_blank, is_break, is_z, is_gap, is_printable}
use Rattle.granit_base.specs.Place.{Mark, first}
use Rattle.granit_error.specs.FaultKind.{TabInPlainScalar}
use Rattle.granit_lexemes.specs.Folding.{folded, break_text}
use Rattle.granit_lexemes.specs.Gap.{Each}
use Rattle.granit_lexemes.specs.Here.{Here, next_char, step}
use Rattle.granit_lexemes.specs.LayoutData.{LayoutData, is_outside}
use Rattle.granit_lexemes.specs.Outcome.{Fault, fault_at}
use Rattle.granit_lexemes.specs.Pieces.{with_front, pieces}
use Rattle.granit_lexemes.specs.PlainExtent.{Separation, OnLine, Folded, separation_text, IsSeparation, left_tab}
use Rattle.granit_lexemes.specs.PlainExtent.{starts_comment, MayFollow, GoesOn, ends, goes_on, EndsPlain, nothing_more}
use Rattle.granit_lexemes.specs.PlainExtent.{colon, flow_indicator, comment, comment_line, outside_line, tab_line}
use Rattle.granit_lexemes.specs.PlainExtent.{document_mark, tab_refused, over}
use Rattle.granit_lexemes.specs.Basics.{is_document_mark, unprintable}
use Rattle.granit_lexemes.specs.PlainScalar.{PlainState, between, on_content, on_blank, on_break, meets_comment}
use Rattle.granit_lexemes.specs.PlainScalar.{ends_before_line, plain_turn, plain_len}
use Rattle.granit_base.specs.PlainContent.{is_content}
use Rattle.granit_lexemes.proofs.HereLemmas.{not_empty}
use Rattle.granit_scalars.proofs.Folding.{folds_blanks, folds_behind_content}
use Rattle.granit_scalars.proofs.PlainSpelling.{Solid, solid, colon_found, indicator_found, no_content_is, blanks_gap}
use Rattle.granit_scalars.proofs.PlainSpelling.{separation_gap}
use Rattle.granit_scalars.proofs.Printing.{unprintable_behind, break_text_gap}
use Rattle.granit_scalars.proofs.PlainKept.{KeptOnLine, KeptFolded, Kept, Stays, separation_kept, content_stays}
use Rattle.granit_scalars.proofs.PlainKept.{blank_stays, break_stays, Goes}
use Rattle.granit_lexemes.proofs.PlainTurned.{tab_found, line_found, Turned, past_a_blank, past_a_break, at_a_comment}
use Rattle.granit_scalars.proofs.PlainTurns.{seen_content}
use Rattle.granit_lexemes.proofs.PlainTurned.{at_a_tab, at_a_line, past_content, at_no_content, turned}
use Rattle.granit_scalars.proofs.PlainTurns.{plain_shortens}
use Rattle.granit_scalars.proofs.Stepping.{over-append}
use Rattle.granit_scalars.proofs.Turning.{Carries, pieces_hold}

-- the rest of a scalar, behind content that ends here, and what ends it
pub record Finds (at : LayoutData) (behind : Here) (source : List ℕ) (tail : Separation) (rest : List ℕ) : Type 0 where
  pub whole : behind.unread.text ≡ source ++ (separation_text tail ++ rest)
  pub goes : GoesOn at source (separation_text tail ++ rest)
  pub separation : IsSeparation tail
  pub no_gap : is_gap (first rest) ≡ false
  pub ends : EndsPlain at tail rest

-- where it is read
pub record FindsText (at : LayoutData) (behind : Here) (text : List ℕ) (after : PlainState) : Type 0 where
  pub source : List ℕ
  pub tail : Separation
  pub finds : Finds at behind source tail after.here.unread.text
  pub stays : Stays at tail (over source behind) after
  pub untabbed : tab_refused at tail after.here.unread.text ≡ false
  pub value : text ≡ folded source
  pub characters : unprintable text ≡ unprintable source

-- where a tab is refused
pub record FindsTab (at : LayoutData) (start : Mark) (behind : Here) (f : Fault) : Type 0 where
  pub source : List ℕ
  pub tail : Separation
  pub rest : List ℕ
  pub finds : Finds at behind source tail rest
  pub tabbed : tab_refused at tail rest ≡ true
  pub fault : f ≡ fault_at TabInPlainScalar start

abbrev pub Reads : LayoutData → Mark → PlainState → Result (List ℕ × PlainState) Fault → Type 0
Reads at start s (Ok (value, after)) = (g : Separation) (behind : Here) → Stays at g behind s
    → FindsText at behind value after
Reads at start s (Err f) = (g : Separation) (behind : Here) → Stays at g behind s → FindsTab at start behind f

-- ---- blanks and breaks

-- a turn that only lengthens the separation
lengthens : (at : LayoutData) (start : Mark) (s after : PlainState)
    → ((g : Separation) (behind : Here) → Stays at g behind s → Goes at behind after)
    → (given : Result (List ℕ × PlainState) Fault) → Reads at start after given → Reads at start s (with_front [] given)
lengthens at start s after on (Ok (value, last)) reads = λ g behind h. let k = on g behind h in reads k.0 behind k.1
lengthens at start s after on (Err f) reads = λ g behind h. let k = on g behind h in reads k.0 behind k.1

-- ---- content

between_line : (s : PlainState) (blanks : List ℕ) → KeptOnLine blanks s → between s ≡ blanks
between_line s blanks k = ap (λ b. cond (b && length s.pending == 0) (0x20 ∷ []) s.pending) k.line ∙ k.pending

between_empty : (k : ℕ) → cond {A = List ℕ} (length {A = ℕ} (replicate k 0x0A) == 0) (0x20 ∷ []) (replicate k 0x0A)
    ≡ break_text k
between_empty zero = refl
between_empty (suc k) = ap (λ b. cond {A = List ℕ} b (0x20 ∷ []) (replicate (suc k) 0x0A))
    (not_empty 0x0A (replicate k 0x0A))

between_folded : (at : LayoutData) (s : PlainState) (breaks indent : List ℕ) (k : KeptFolded at breaks indent s)
    → between s ≡ break_text k.empty
between_folded at s breaks indent k =
    ap₂ (λ b (t : List ℕ). cond (b && length t == 0) (0x20 ∷ []) t) k.line k.pending ∙ between_empty k.empty

between_gap : (at : LayoutData) (g : Separation) (s : PlainState) → Kept at g s → Each is_gap (between s)
between_gap at (OnLine blanks) s k = subst (Each is_gap) (sym (between_line s blanks k))
    (blanks_gap blanks k.only_blanks)
between_gap at (Folded breaks indent) s k = subst (Each is_gap) (sym (between_folded at s breaks indent k))
    (break_text_gap k.empty)

-- the value of a source that goes on behind a separation
value_on : (at : LayoutData) (g : Separation) (s : PlainState) (more : List ℕ) → Kept at g s → Solid (next_char s.here)
    → folded (separation_text g ++ next_char s.here ∷ more) ≡ between s ++ (next_char s.here ∷ folded more)
value_on at (OnLine blanks) s more k c = folds_blanks blanks (next_char s.here) more k.only_blanks c.no_blank c.no_break
    ∙ ap (λ (t : List ℕ). t ++ (next_char s.here ∷ folded more)) (sym (between_line s blanks k))
value_on at (Folded breaks indent) s more k c =
    ap folded (append_assoc breaks indent (next_char s.here ∷ more)) ∙ k.folds (next_char s.here ∷ more) refl
    ∙ folds_behind_content k.empty (next_char s.here) more c.no_blank c.no_break
    ∙ ap (λ (t : List ℕ). t ++ (next_char s.here ∷ folded more)) (sym (between_folded at s breaks indent k))

-- ---- tests

not_left : (a b : Bool) → (a && b) ≡ false → b ≡ true → a ≡ false
not_left true b e f = cc
not_left false b e f = refl

pub not_right : (a b : Bool) → (a && b) ≡ false → a ≡ true → b ≡ false
not_right true b e f = e
not_right false b e f = cc

and_not : (a b : Bool) → b ≡ true → (a && not b) ≡ false
and_not true b e = ap not e
and_not false b e = refl

pub neither_gap : (c : ℕ) → is_gap c ≡ false → (is_blank c ≡ false) × (is_break c ≡ false)
unfolding is_gap
neither_gap c e = or_parts (is_blank c) (is_break c) e

-- a comment behind blanks, and behind none
behind_blanks : (tab line none : Bool) → tab ≡ false → line ≡ false → none ≡ false
    → (tab || (not line && not none)) ≡ true
behind_blanks true line none p q r = cc
behind_blanks false true none p q r = cc
behind_blanks false false none p q r = ap not r

behind_nothing : (tab line none : Bool) → tab ≡ false → none ≡ true → (tab || (not line && not none)) ≡ true → ⊥
behind_nothing true line none p q r = cc
behind_nothing false true none p q r = cc
behind_nothing false false none p q r = let e : not none ≡ false = ap not q in cc

-- ---- content may follow where it is taken

comment_none : (s : PlainState) → meets_comment s ≡ false
    → (s.left_tab || (not s.on_new_line && not (length s.pending == 0))) ≡ true
    → starts_comment s.here.unread.text ≡ false
comment_none s m e = not_left (starts_comment s.here.unread.text)
    (s.left_tab || (not s.on_new_line && not (length s.pending == 0))) m e

follows : (at : LayoutData) (g : Separation) (s : PlainState) → Kept at g s → meets_comment s ≡ false
    → tab_found s ≡ false → line_found at s ≡ false → Solid (next_char s.here) → MayFollow at g s.here.unread.text
follows at (OnLine []) s k m t l c = tt
follows at (OnLine (b ∷ bs)) s k m t l c =
    comment_none s m (behind_blanks s.left_tab s.on_new_line (length s.pending == 0) k.tab k.line
    (ap (λ (p : List ℕ). length p == 0) k.pending ∙ not_empty b bs))
follows at (Folded breaks indent) s k m t l c =
    let mark = s.here.place.column == 0 && is_document_mark s.here.unread.text in
    let outside = is_outside at s.here.place.column in
    let hash = starts_comment s.here.unread.text in
    let before : ((hash || outside) || mark) ≡ false = not_right s.on_new_line ((hash || outside) || mark) l k.line in
    let parts = or_parts (hash || outside) mark before in
    let more = or_parts hash outside parts.0 in (
      more.0,
      ap (is_outside at) (sym k.column) ∙ more.1,
      sym k.tab ∙ not_left s.left_tab (not (is_z (next_char s.here))) t (ap not c.no_z),
      ap (λ n. n == 0 && is_document_mark s.here.unread.text) (sym k.column) ∙ parts.1,
    )

further : (at : LayoutData) (start : Mark) (s : PlainState) → meets_comment s ≡ false → tab_found s ≡ false
    → line_found at s ≡ false → is_content at.in_flow s.here.unread.text ≡ true
    → (g : Separation) (behind : Here) → Stays at g behind s → (source : List ℕ) (tail : Separation) (rest : List ℕ)
    → Finds at (step s.here) source tail rest
    → Finds at behind (separation_text g ++ next_char s.here ∷ source) tail rest
further at start s m t l y g behind h source tail rest found =
    let c = next_char s.here in
    let there : s.here.unread.text ≡ c ∷ (source ++ (separation_text tail ++ rest)) =
    (seen_content at.in_flow s.here y).is ∙ ap (λ (u : List ℕ). c ∷ u) found.whole in
    record {
      whole = h.text ∙ ap (λ (u : List ℕ). separation_text g ++ u) there
          ∙ sym (append_assoc (separation_text g) (c ∷ source) (separation_text tail ++ rest));
      goes = goes_on g c refl (separation_kept at g s h.kept)
          (subst (λ (u : List ℕ). is_content at.in_flow u ≡ true) there y)
          (subst (λ (u : List ℕ). MayFollow at g u) there
          (follows at g s h.kept m t l (solid at.in_flow s.here.unread.text y)))
          found.goes;
      separation = found.separation;
      no_gap = found.no_gap;
      ends = found.ends;
    }

over_on : (g : List ℕ) (source : List ℕ) (behind h : Here) → h ≡ over g behind
    → over source (step h) ≡ over (g ++ next_char h ∷ source) behind
over_on g source behind h e = ap (λ (k : Here). over source (step k)) e
    ∙ sym (over-append g (next_char h ∷ source) behind)

takes : (at : LayoutData) (start : Mark) (s : PlainState) → meets_comment s ≡ false → tab_found s ≡ false
    → line_found at s ≡ false → is_content at.in_flow s.here.unread.text ≡ true
    → (given : Result (List ℕ × PlainState) Fault) → Reads at start (on_content s) given
    → Reads at start s (with_front (between s ++ next_char s.here ∷ []) given)
takes at start s m t l y (Ok (value, last)) reads = λ g behind h.
    let r = reads (OnLine []) (step s.here) (content_stays at s) in
    let c = next_char s.here in
    let joined : (between s ++ c ∷ []) ++ value ≡ between s ++ (c ∷ value) = append_assoc (between s) (c ∷ []) value in
    record {
      source = separation_text g ++ c ∷ r.source;
      tail = r.tail;
      finds = further at start s m t l y g behind h r.source r.tail last.here.unread.text r.finds;
      stays = subst (λ (k : Here). Stays at r.tail k last) (over_on (separation_text g) r.source behind s.here h.here)
          r.stays;
      untabbed = r.untabbed;
      characters = ap unprintable joined ∙ unprintable_behind (between s) (c ∷ value) (between_gap at g s h.kept)
          ∙ ap (λ (u : Option ℕ). cond (not (is_printable c)) (Some c) u) r.characters
          ∙ sym (unprintable_behind (separation_text g) (c ∷ r.source)
          (separation_gap g (separation_kept at g s h.kept)));
      value = joined ∙ ap (λ (u : List ℕ). between s ++ (c ∷ u)) r.value
          ∙ sym (value_on at g s r.source h.kept (solid at.in_flow s.here.unread.text y));
    }
takes at start s m t l y (Err f) reads = λ g behind h.
    let r = reads (OnLine []) (step s.here) (content_stays at s) in
    record {
      source = separation_text g ++ next_char s.here ∷ r.source;
      tail = r.tail;
      rest = r.rest;
      finds = further at start s m t l y g behind h r.source r.tail r.rest r.finds;
      tabbed = r.tabbed;
      fault = r.fault;
    }

-- ---- ends

found : (at : LayoutData) (s : PlainState) (g : Separation) (behind : Here) → Stays at g behind s
    → is_gap (next_char s.here) ≡ false → EndsPlain at g s.here.unread.text → Finds at behind [] g s.here.unread.text
found at s g behind h n over_is = record {
  whole = h.text;
  goes = ends;
  separation = separation_kept at g s h.kept;
  no_gap = n;
  ends = over_is;
}

stopped : (at : LayoutData) (s : PlainState) (g : Separation) (behind : Here) → Stays at g behind s
    → is_gap (next_char s.here) ≡ false → EndsPlain at g s.here.unread.text
    → tab_refused at g s.here.unread.text ≡ false → FindsText at behind [] s
stopped at s g behind h n over_is u = record {
  source = [];
  tail = g;
  finds = found at s g behind h n over_is;
  stays =
      h;
  untabbed = u;
  value = refl;
  characters = refl;
}

comment_parts : (s : PlainState) → meets_comment s ≡ true
    → (starts_comment s.here.unread.text ≡ true)
    × ((s.left_tab || (not s.on_new_line && not (length s.pending == 0))) ≡ true)
comment_parts s y = and_parts (starts_comment s.here.unread.text)
    (s.left_tab || (not s.on_new_line && not (length s.pending == 0))) y

no_content_ends : (at : LayoutData) (g : Separation) (rest : List ℕ)
    → (is_z (first rest) ≡ true) ⊎ ((colon_found at.in_flow rest ≡ true) ⊎ (indicator_found at.in_flow rest ≡ true))
    → EndsPlain at g rest
no_content_ends at g rest (inl y) = nothing_more y
no_content_ends at g rest (inr (inl y)) = colon y
no_content_ends at g rest (inr (inr y)) = flow_indicator y

comment_ends : (at : LayoutData) (g : Separation) (s : PlainState) → Kept at g s → meets_comment s ≡ true
    → EndsPlain at g s.here.unread.text
comment_ends at (OnLine []) s k y =
    absurd (behind_nothing s.left_tab s.on_new_line (length s.pending == 0) k.tab
    (ap (λ (p : List ℕ). length p == 0) k.pending) (comment_parts s y).1)
comment_ends at (OnLine (b ∷ bs)) s k y = comment (comment_parts s y).0
comment_ends at (Folded breaks indent) s k y = comment_line (comment_parts s y).0

comment_untabbed : (at : LayoutData) (g : Separation) (s : PlainState) → meets_comment s ≡ true
    → tab_refused at g s.here.unread.text ≡ false
comment_untabbed at (OnLine blanks) s y = refl
comment_untabbed at (Folded breaks indent) s y =
    and_not (left_tab at.block_column 0 indent && not (is_z (next_char s.here))) (starts_comment s.here.unread.text)
    (comment_parts s y).0

untabbed : (at : LayoutData) (g : Separation) (s : PlainState) → Kept at g s → tab_found s ≡ false
    → tab_refused at g s.here.unread.text ≡ false
untabbed at (OnLine blanks) s k t = refl
untabbed at (Folded breaks indent) s k t =
    and_left (left_tab at.block_column 0 indent && not (is_z (next_char s.here)))
    (not (starts_comment s.here.unread.text)) (ap (λ v. v && not (is_z (next_char s.here))) (sym k.tab) ∙ t)

line_parts : (at : LayoutData) (breaks indent : List ℕ) (s : PlainState) → s.here.place.column ≡ length indent
    → (((starts_comment s.here.unread.text || is_outside at s.here.place.column) ≡ true)
    ⊎ ((s.here.place.column == 0 && is_document_mark s.here.unread.text) ≡ true))
    → EndsPlain at (Folded breaks indent) s.here.unread.text
line_parts at breaks indent s e (inr y) = document_mark
    (ap (λ n. n == 0 && is_document_mark s.here.unread.text) (sym e) ∙ y)
line_parts at breaks indent s e (inl y) = line_or at breaks indent s e
    (or_cases (starts_comment s.here.unread.text) (is_outside at s.here.place.column) y)
  where
    line_or : (at : LayoutData) (breaks indent : List ℕ) (s : PlainState) → s.here.place.column ≡ length indent
        → (starts_comment s.here.unread.text ≡ true) ⊎ (is_outside at s.here.place.column ≡ true)
        → EndsPlain at (Folded breaks indent) s.here.unread.text
    line_or at breaks indent s e (inl y) = comment_line y
    line_or at breaks indent s e (inr y) = outside_line (ap (is_outside at) (sym e) ∙ y)

line_ends : (at : LayoutData) (g : Separation) (s : PlainState) → Kept at g s → line_found at s ≡ true
    → EndsPlain at g s.here.unread.text
line_ends at (OnLine blanks) s k y = absurd (let n : s.on_new_line
    ≡ true = (and_parts s.on_new_line (ends_before_line at s.here) y).0 in let m = k.line in cc)
line_ends at (Folded breaks indent) s k y =
    line_parts at breaks indent s k.column
    (or_cases (starts_comment s.here.unread.text || is_outside at s.here.place.column)
    (s.here.place.column == 0 && is_document_mark s.here.unread.text)
    (and_parts s.on_new_line (ends_before_line at s.here) y).1)

tab_ends : (at : LayoutData) (start : Mark) (g : Separation) (s : PlainState) (behind : Here) → Stays at g behind s
    → is_gap (next_char s.here) ≡ false → meets_comment s ≡ false → tab_found s ≡ true
    → FindsTab at start behind (fault_at TabInPlainScalar start)
tab_ends at start (OnLine blanks) s behind h n m t = absurd
    (let y : s.left_tab ≡ true = (and_parts s.left_tab (not (is_z (next_char s.here))) t).0 in let k =
    h.kept in let no = k.tab in cc)
tab_ends at start (Folded breaks indent) s behind h n m t =
    let k = h.kept in
    let tab : s.left_tab ≡ true = (and_parts s.left_tab (not (is_z (next_char s.here))) t).0 in
    let hash : starts_comment s.here.unread.text
    ≡ false = comment_none s m (or_left s.left_tab (not s.on_new_line && not (length s.pending == 0)) tab) in
    record {
      source = [];
      tail = Folded breaks indent;
      rest = s.here.unread.text;
      finds = found at s (Folded breaks indent) behind h n (tab_line (sym k.tab ∙ tab));
      tabbed = ap₂ (λ u v. (u && not (is_z (next_char s.here))) && not v) (sym k.tab) hash ∙ ap (λ u. u && not false) t;
      fault = refl;
    }

-- ---- every turn

reads_turn : (at : LayoutData) (start : Mark) (s : PlainState) (r : Result (Option (List ℕ) × PlainState) Fault)
    → Turned at start s r → Carries (Reads at start) s r
reads_turn at start s r (past_a_blank y) = lengthens at start s (on_blank at s)
    (λ g behind h. blank_stays at g behind s y h)
reads_turn at start s r (past_a_break y) = lengthens at start s (on_break s)
    (λ g behind h. break_stays at g behind s y h)
reads_turn at start s r (at_a_comment n y) = λ g behind h. stopped at s g behind h n (comment_ends at g s h.kept y)
    (comment_untabbed at g s y)
reads_turn at start s r (at_a_tab n m t) = λ g behind h. tab_ends at start g s behind h n m t
reads_turn at start s r (at_a_line n t y) = λ g behind h. stopped at s g behind h n (line_ends at g s h.kept y)
    (untabbed at g s h.kept t)
reads_turn at start s r (past_content m t l y) = takes at start s m t l y
reads_turn at start s r (at_no_content n t c) = λ g behind h. stopped at s g behind h n
    (no_content_ends at g s.here.unread.text (no_content_is at.in_flow s.here.unread.text c
    (neither_gap (next_char s.here) n).0 (neither_gap (next_char s.here) n).1)) (untabbed at g s h.kept t)

pub reads : (at : LayoutData) (start : Mark) (s : PlainState)
    → Reads at start s (pieces plain_len (plain_turn at start) s)
reads at start s = pieces_hold (Reads at start) plain_len (plain_turn at start) (plain_shortens at start)
    (λ t. reads_turn at start t (plain_turn at start t) (turned at start t)) s
