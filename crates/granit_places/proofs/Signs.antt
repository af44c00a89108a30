-- What stands between a `?` or a `:` without key and the place behind it.
use Rattle.std.proofs.Common.{◌≡◌, ℕ, suc, ◌==◌, ◌&&◌, ◌||◌, not, Bool, true, false, List, [], ◌∷◌, ◌++◌, length, drop}
use Rattle.std.proofs.Common.{Option, Some, None, ◌⊎◌, inl, inr, refl, sym, ap, ap₂, ◌∙◌, subst, arith, append_assoc}
use Rattle.std.proofs.Math.Seq.{drop-append_seam}
use Rattle.std.specs.Prelude.{if◌then◌else◌, is_none, slice_index}
use Rattle.std.proofs.lemmas.Bool.{cond-true, cond-false}
use Rattle.std.proofs.lemmas.Bool.Decides.{nat_tests}
use Rattle.std.proofs.lemmas.List.{append-nil}
use Rattle.granit_base.specs.Classes.{is_gap, is_blank, is_break}
use Rattle.granit_base.specs.Place.{Mark, first, ends_line}
use Rattle.granit_lexemes.proofs.CharTests.{break_gap}
use Rattle.granit_lexemes.specs.Basics.{past_break}
use Rattle.granit_lexemes.specs.Comment.{CommentRead, StandsComment}
use Rattle.granit_lexemes.specs.Gap.{Each}
use Rattle.granit_lexemes.specs.HeaderExtent.{LexemeTail, commented, uncommented}
use Rattle.granit_lexemes.specs.Here.{Here, next_char, is_quiet, first_tab, mark_of, begins_behind, tab_behind, step}
use Rattle.granit_lexemes.specs.Moves.{past_prefix_mark}
use Rattle.granit_lexemes.specs.PlainExtent.{over}
use Rattle.granit_lexemes.proofs.HereLemmas.{not_empty, stepped_text}
use Rattle.granit_scalars.proofs.Comments.{steps_text}
use Rattle.granit_scalars.proofs.Stepping.{seen, is_break_nul, second_of}
use Rattle.granit_machine.specs.Gaps.{over_break_if}
use Rattle.granit_language.specs.KeyRuns.{no_tab}
use Rattle.granit_language.specs.Stretch.{GapTo, ends, white, prefix_mark}

-- a line begins here, or ends, or a tab stands directly before it where one stands among these characters
abbrev pub TabSeen : Here → List ℕ → Type 0
TabSeen h cs = (h.begins_line ≡ true) ⊎ (((h.unread.text ≡ []) ⊎ (is_break (next_char h) ≡ true))
    ⊎ (is_none h.tab ≡ no_tab cs))

no_tab-append : (cs ds : List ℕ) → no_tab (cs ++ ds) ≡ (no_tab cs && no_tab ds)
no_tab-append [] ds = refl
no_tab-append (c ∷ cs) ds = ap (λ b. not (c == 0x09) && b) (no_tab-append cs ds)
    ∙ joined (not (c == 0x09)) (no_tab cs) (no_tab ds)
  where
    joined : (a b d : Bool) → (a && (b && d)) ≡ ((a && b) && d)
    joined true b d = refl
    joined false b d = refl

-- ---- one character on

module _ (h : Here) (c : ℕ) (t : List ℕ) (e : h.unread.text ≡ c ∷ t) where
  some_here : (length h.unread.text == 0) ≡ false
  some_here = ap (λ (l : List ℕ). length l == 0) e ∙ not_empty c t

  line_behind : (step h).begins_line ≡ (ends_line h.unread.text || (is_quiet c && h.begins_line))
  unfolding step begins_behind
  line_behind = ap (λ (g : Here). g.begins_line) (cond-false (length h.unread.text == 0) h _ some_here)
      ∙ ap (λ (l : List ℕ). ends_line h.unread.text || (is_quiet (first l) && h.begins_line)) e

  tab_on : (step h).tab ≡ (if ends_line h.unread.text
      || not (is_quiet c) then None else if c == 0x09 then first_tab h.tab (mark_of h) else h.tab)
  unfolding step tab_behind
  tab_on = ap (λ (g : Here). g.tab) (cond-false (length h.unread.text == 0) h _ some_here)
      ∙ ap (λ (l : List ℕ). if ends_line h.unread.text
      || not (is_quiet (first l)) then None else if first l == 0x09 then first_tab h.tab (mark_of h) else h.tab) e

  -- behind a sign no tab stands directly before
  pub sign_tab : is_quiet c ≡ false → (step h).tab ≡ None
  sign_tab q = tab_on ∙ cond-true (ends_line h.unread.text || not (is_quiet c)) _ _
      (second (ends_line h.unread.text) (ap not q))
    where
      second : (a : Bool) {b : Bool} → b ≡ true → (a || b) ≡ true
      second true e = refl
      second false e = e

  none_first : (tab : Option Mark) (m : Mark) → is_none (first_tab tab m) ≡ false
  none_first None m = refl
  none_first (Some k) m = refl

  breaks : is_quiet c ≡ false → is_break c ≡ true → ends_line h.unread.text ≡ true
  unfolding is_break
  breaks q b = ap (λ (l : List ℕ). ends_line l) e
      ∙ (let n : (c == 0x0A) ≡ true = grind (arith, nat_tests, q, b) in ap
      (λ v. v || (c == 0x0D && not (first t == 0x0A))) n)

  -- a blank or a break on
  gap_seen : (cs : List ℕ) → is_gap c ≡ true → TabSeen h cs → TabSeen (step h) (cs ++ c ∷ [])
  gap_seen cs g s = on (ends_line h.unread.text) refl (is_quiet c) refl s
    where
      gap_or : is_quiet c ≡ false → is_break c ≡ true
      gap_or q = gap_break c g q
        where
          gap_break : (c : ℕ) → is_gap c ≡ true → is_quiet c ≡ false → is_break c ≡ true
          gap_break c g q = Rattle.granit_reading.proofs.Gapping.gap_break c g q

      on : (l : Bool) → ends_line h.unread.text ≡ l → (q : Bool) → is_quiet c ≡ q → TabSeen h cs
          → TabSeen (step h) (cs ++ c ∷ [])
      on true f q r s = inl (line_behind ∙ ap (λ v. v || (is_quiet c && h.begins_line)) f)
      on false f false r s = absurd (let b = breaks r (gap_or r) in cc)
      on false f true r (inl b) = inl (line_behind ∙ ap₂ (λ (v w : Bool). v || (w && h.begins_line)) f r ∙ b)
      on false f true r (inr (inl (inl n))) = absurd (let z = sym n ∙ e in cc)
      on false f true r (inr (inl (inr b))) = inr (inl (inr (carriage b)))
        where
          carriage : is_break (next_char h) ≡ true → is_break (next_char (step h)) ≡ true
          carriage b = Rattle.granit_reading.proofs.Gapping.carriage h c t e f b
      on false f true r (inr (inr k)) = inr (inr (tab_none ∙ sym (no_tab-append cs (c ∷ []))))
        where
          kept : (v : Bool) → (c == 0x09) ≡ v
              → is_none (if v then first_tab h.tab (mark_of h) else h.tab) ≡ (is_none h.tab && (not v && true))
          kept true z = none_first h.tab (mark_of h) ∙ sym (and_false (is_none h.tab))
            where
              and_false : (a : Bool) → (a && false) ≡ false
              and_false true = refl
              and_false false = refl
          kept false z = sym (and_true (is_none h.tab))
            where
              and_true : (a : Bool) → (a && true) ≡ a
              and_true true = refl
              and_true false = refl

          tab_none : is_none (step h).tab ≡ (no_tab cs && (not (c == 0x09) && true))
          tab_none = ap is_none (tab_on ∙ cond-false (ends_line h.unread.text || not (is_quiet c)) _ _
              (ap₂ (λ (v w : Bool). v || not w) f r)) ∙ kept (c == 0x09) refl
              ∙ ap (λ b. b && (not (c == 0x09) && true)) k

-- ---- over gaps, blanks and comments

pub to_gap_seen : {may : Type 0} {h at : Here} {gs : List ℕ} (cs : List ℕ) → GapTo may h gs at → TabSeen h cs
    → TabSeen at (cs ++ gs)
unfolding past_prefix_mark
to_gap_seen {h = h} cs ends s = subst (TabSeen h) (sym (append-nil cs)) s
to_gap_seen {h = h} {at = at} cs (white {c = c} {cs = gs} {rest = rest} e w g) s =
    subst (TabSeen at) (append_assoc cs (c ∷ []) gs) (to_gap_seen (cs ++ c ∷ []) g (gap_seen h c rest e cs w s))
to_gap_seen {h = h} {at = at} cs (prefix_mark {cs = gs} {rest = rest} may column e g) s =
    subst (TabSeen at) (append_assoc cs (0xFEFF ∷ []) gs) (to_gap_seen (cs ++ 0xFEFF ∷ []) g (marked s))
  where
    marked : TabSeen h cs → TabSeen (past_prefix_mark h) (cs ++ 0xFEFF ∷ [])
    marked (inl b) = inl b
    marked (inr (inl (inl n))) = absurd (let z = sym n ∙ e in cc)
    marked (inr (inl (inr b))) = absurd (let z = sym (ap (λ (l : List ℕ). is_break (first l)) e)
        ∙ b in let y = no_break_bom in cc)
      where
        no_break_bom : is_break 0xFEFF ≡ false
        no_break_bom = Rattle.granit_reading.proofs.Gapping.no_break_bom
    marked (inr (inr k)) = inr (inr (k ∙ sym (no_tab-append cs (0xFEFF ∷ []) ∙ and_true (no_tab cs))))
      where
        and_true : (a : Bool) → (a && true) ≡ a
        and_true true = refl
        and_true false = refl

-- a gap is text
pub gap_text : {may : Type 0} {h at : Here} {gs : List ℕ} → GapTo may h gs at → h.unread.text ≡ gs ++ at.unread.text
unfolding past_prefix_mark
gap_text ends = refl
gap_text {h = h} (white {c = c} {rest = rest} e w g) = e
    ∙ ap (λ (l : List ℕ). c ∷ l) (sym (stepped_text h c rest e) ∙ gap_text g)
gap_text {h = h} (prefix_mark {rest = rest} may column e g) = e
    ∙ ap (λ (l : List ℕ). 0xFEFF ∷ l) (sym (ap (drop 1) e) ∙ gap_text g)

blanks_gap : (cs : List ℕ) (h : Here) (rest : List ℕ) → h.unread.text ≡ cs ++ rest → Each is_blank cs
    → GapTo ⊥ h cs (over cs h)
unfolding is_gap
blanks_gap [] h rest e b = ends
blanks_gap (c ∷ cs) h rest e b = white e (ap (λ v. v || is_break c) b.0)
    (blanks_gap cs (step h) rest (stepped_text h c (cs ++ rest) e) b.1)

-- where a comment ends its line does
pub comment_end : {h after : Here} {c : CommentRead} → StandsComment h c after
    → (h.unread.text ≡ (0x23 ∷ c.text.characters) ++ after.unread.text)
    × ((after.unread.text ≡ []) ⊎ (is_break (next_char after) ≡ true))
comment_end {h = h} {after = after} {c = c} p =
    let n = suc (length c.text.characters) in
    let t : after.unread.text ≡ p.spelled.behind = ap (λ (g : Here). g.unread.text) p.lands ∙ steps_text n h
    ∙ ap (drop n) p.spelled.spelled ∙ drop-append_seam c.text.characters p.spelled.behind in (
      p.spelled.spelled ∙ ap (λ (l : List ℕ). 0x23 ∷ (c.text.characters ++ l)) (sym t),
      elim p.spelled.ends
          [ inl e ↦ inl (t ∙ e) | inr b ↦ inr (ap (λ (l : List ℕ). is_break (first l)) t ∙ b) ],
    )

-- ---- behind a sign

-- characters of the text lead from an index to a place
pub record From (text : List ℕ) (i : ℕ) (h : Here) : Type 0 where
  pub characters : List ℕ
  pub leads : drop i text ≡ characters ++ h.unread.text
  pub seen : TabSeen h characters

module _ (text : List ℕ) (i : ℕ) where
  pub from_gap : {may : Type 0} {h at : Here} {gs : List ℕ} → GapTo may h gs at → From text i h → From text i at
  from_gap {gs = gs} g f = record {
    characters = f.characters ++ gs;
    leads = f.leads
        ∙ ap (λ (l : List ℕ). f.characters ++ l) (gap_text g)
        ∙ sym (append_assoc f.characters gs _);
    seen = to_gap_seen f.characters g f.seen;
  }

  pub from_comment : {h after : Here} {c : CommentRead} → StandsComment h c after → From text i h → From text i after
  from_comment {c = c} p f =
      let e = comment_end p in
      record {
        characters = f.characters ++ 0x23 ∷ c.text.characters;
        leads = f.leads
            ∙ ap (λ (l : List ℕ). f.characters ++ l) e.0
            ∙ sym (append_assoc f.characters (0x23 ∷ c.text.characters) _);
        seen = inr (inl e.1);
      }

  pub from_tail : {end after : Here} {held : Option CommentRead} → LexemeTail end held after → From text i end
      → From text i after
  from_tail {end = end} (commented b blanks rest c p y s) f = from_comment s
      (from_gap (blanks_gap (b ∷ blanks) end rest p.whole p.each) f)
  from_tail {end = end} (uncommented blanks rest p n lands) f = subst (From text i) (sym lands)
      (from_gap (blanks_gap blanks end rest p.whole p.each) f)

-- where the line ends, over its break if there is one
pub over_break_from : (text : List ℕ) (i : ℕ) (h : Here) → (h.unread.text ≡ []) ⊎ (is_break (next_char h) ≡ true)
    → From text i h → From text i (over_break_if h)
unfolding over_break_if past_break
over_break_from text i h (inl e) f = subst (From text i)
    (sym (cond-false (is_break (next_char h)) _ _ (ap (λ (l : List ℕ). is_break (first l)) e ∙ is_break_nul))) f
over_break_from text i h (inr b) f = subst (From text i) (sym (cond-true (is_break (next_char h)) _ _ b))
    (on (next_char h == 0x0D && slice_index h.unread.text 1 == 0x0A) refl)
  where
    one : (h : Here) → is_break (next_char h) ≡ true → From text i h → From text i (step h)
    one h b f = let s = seen is_break h is_break_nul b in from_gap text i {may = ⊥}
        (white s.is (break_gap (next_char h) b) ends) f

    line_feed : (c d : ℕ) → (c == 0x0D && d == 0x0A) ≡ true → is_break d ≡ true
    line_feed c d e = Rattle.granit_reading.proofs.Gapping.line_feed c d e

    on : (v : Bool) → (next_char h == 0x0D && slice_index h.unread.text 1 == 0x0A) ≡ v
        → From text i (if v then step (step h) else step h)
    on true e = one (step h) (ap is_break (sym (second_of h (seen is_break h is_break_nul b)))
        ∙ line_feed (next_char h) (slice_index h.unread.text 1) e) (one h b f)
    on false e = one h b f
