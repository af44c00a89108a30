-- The key of each `:` of a text is the run of lexemes before it.
use Rattle.std.proofs.Common.{◌≡◌, ℕ, Bool, true, false, List, [], ◌∷◌, ◌++◌, drop, Option, Some, refl}
use Rattle.std.proofs.Common.{sym, ap, ap₂, ◌∙◌, subst, ◌⊎◌, inl, inr}
use Rattle.std.specs.Prelude.{is_none}
use Rattle.granit_language.specs.Stretch.{TailIf}
use Rattle.std.proofs.lemmas.Bool.{and_parts}
use Rattle.std.proofs.lemmas.List.{append_cancel_right}
use Rattle.granit_base.specs.Classes.{is_blank, is_break, is_gap}
use Rattle.granit_base.specs.Place.{Mark}
use Rattle.granit_error.specs.OptionsData.{OptionsData}
use Rattle.granit_lexemes.proofs.CharTests.{break_gap}
use Rattle.granit_lexemes.specs.Comment.{CommentRead}
use Rattle.granit_lexemes.specs.Here.{Here, next_char, is_quiet, mark_of, step, start_of}
use Rattle.granit_lexemes.specs.Lexeme.{Lexeme, Item}
use Rattle.granit_lexemes.specs.Lexeme.{OfLexeme, OfComment}
use Rattle.granit_machine.specs.Gaps.{over_break_if}
use Rattle.granit_machine.specs.Laid.{Laid, is_in_flow}
use Rattle.granit_lexemes.specs.declared.layout.PossibleKey.{PossibleKey}
use Rattle.granit_machine.specs.LexemeSort.{OpenSign, CloseSign, CommaSign, DashSign, QuestionSign, ColonSign}
use Rattle.granit_machine.specs.LexemeSort.{AliasSign, AnchorSign, TagSign, BlockSign, QuoteSign, StrayMark, NoSign}
use Rattle.granit_machine.specs.LexemeSort.{PlainSign, LexemeSort, TextEnd, StartMark, EndMark, Unprintable}
use Rattle.granit_machine.specs.LexemeSort.{DirectiveSign, Placed, PlacedSort}
use Rattle.granit_machine.specs.NodeLexemes.{note_items}
use Rattle.granit_machine.specs.PossibleKeys.{top_key, is_stale}
use Rattle.granit_machine.specs.Reader.{is_end_kind, is_end}
use Rattle.granit_machine.specs.ReaderState.{ReaderState, reader_start}
use Rattle.granit_language.specs.Before.{freshened, closed_for}
use Rattle.granit_language.specs.Before.{behind}
use Rattle.granit_language.specs.Begins.{Begins}
use Rattle.granit_language.specs.KeyRuns.{is_key_sign, no_tab, NoTabBehind}
use Rattle.granit_language.specs.KeyRuns.{ColonsSay}
use Rattle.granit_language.specs.HeldSaid.{no_run_now}
use Rattle.granit_language.specs.HeldSaid.{RunsSay}
use Rattle.granit_language.specs.OpenColumns.{latest}
use Rattle.granit_language.specs.Reached.{ends_column_by, Reads, of_comment, of_lexeme, Reached, stops, goes_on}
use Rattle.granit_language.specs.Standing.{GapStands, in_front_of_comment, in_front_of_lexeme}
use Rattle.granit_language.specs.Standing.{QuestionStands, QuestionTail, a_comment, no_comment, Given}
use Rattle.granit_places.proofs.ColumnsWhole.{latest_noted}
use Rattle.granit_places.proofs.Counting.{At, start_at, to_step}
use Rattle.granit_places.proofs.PlacesLaw.{gap_passes, given_places}
use Rattle.granit_places.proofs.Telling.{stops_there}
use Rattle.granit_key_runs.proofs.RunsLaw.{onward, TabSays}
use Rattle.granit_places.proofs.Signs.{TabSeen, sign_tab, comment_end, From, from_gap, from_comment, from_tail}
use Rattle.granit_places.proofs.Signs.{over_break_from}
use Rattle.granit_places.proofs.Telling.{SaysOf, gap_agrees, telling}
use Rattle.granit_key_runs.proofs.RunsKept.{IsPlaced, lexeme_goes, colon_says, gap_runs, fresh_runs, fresh_nears}
use Rattle.granit_key_runs.proofs.RunsKept.{closed_runs, closed_near, noted_says, says_joined, Signed, sign_there}

module _ (o : OptionsData) (text : List ℕ) where
  -- over a break where one ends the line
  from_break : (i : ℕ) (h : Here) → (h.unread.text ≡ []) ⊎ (is_break (next_char h) ≡ true) → From text i h
      → From text i (over_break_if h)
  from_break i h e f = over_break_from text i h e f

  gap_signed : {h : Here} {l : Laid} {c : Option CommentRead} {t : ReaderState} (i : ℕ) → GapStands o h l c t
      → From text i h → From text i t.here
  gap_signed i (in_front_of_comment at end g p) f = from_break i end (comment_end p).1
      (from_comment text i p (from_gap text i g.over f))
  gap_signed i (in_front_of_lexeme at g n t k) f = from_gap text i g.over f

  -- the place behind a sign
  from_sign : (h : Here) (a : At text h) (c : ℕ) (t : List ℕ) → h.unread.text ≡ c ∷ t → is_quiet c ≡ false
      → From text (step h).place.index (step h)
  from_sign h a c t e q =
      let b = (to_step text h a).place in
      record {
        characters = [];
        leads = ap (λ i. drop i text) b.here.mark.index
            ∙ sym b.here.text;
        seen = inr (inr (ap is_none (sign_tab h c t e q)));
      }

  question_signed : (ends : Bool) (h : Here) (l : Laid) (y : Lexeme) (after : Here) (v : Bool)
      → QuestionStands o ends h l y after v → From text (step h).place.index (step h)
      → (y.shown.end ≡ mark_of (step h)) × From text (step h).place.index after
  question_signed ends h l y after true p f = (
    ap (λ (y : Lexeme). y.shown.end) p.is,
    subst
        (From text (step h).place.index) (sym p.reaches) f,
  )
  question_signed ends h l y after false p f = (ap (λ (y : Lexeme). y.shown.end) p.is, on p.tailed)
    where
      on : {l : Laid} {held : Option CommentRead} {g : Here} → QuestionTail o l p.at held g
          → From text (step h).place.index g
      on (a_comment s) = from_comment text _ s (from_gap text _ p.gap.over f)
      on (no_comment n t) = from_gap text _ p.gap.over f

  tail_if_signed : (v : Bool) (end after : Here) (held : Option CommentRead) (i : ℕ) → TailIf v end held after
      → From text i end → From text i after
  tail_if_signed true end after held i p f = from_tail text i p f
  tail_if_signed false end after held i p f = subst (From text i) (sym p.1) f

  -- a `?` or a `:` is read, and characters lead on from its end
  abbrev SignRead : Here → List Item → Here → Type 0
  SignRead h items after = (y : Lexeme) (notes : List Item) → items ≡ OfLexeme y ∷ notes
      → From text y.shown.end.place.index after

  sign_read : (ends : Bool) (sort : PlacedSort) (h : Here) (l : Laid) (items : List Item) (after : ReaderState)
      → (sort ≡ QuestionSign) ⊎ (sort ≡ ColonSign) → Given o ends (Placed sort) h l items after
      → From text (step h).place.index (step h) → SignRead h items after.here
  sign_read ends QuestionSign h l (OfLexeme y ∷ []) after e p f = λ z notes are. let q = question_signed ends h l y
      after.here (is_in_flow l) p.0 f in let same : y ≡ z = cc in subst
      (λ (z : Lexeme). From text z.shown.end.place.index after.here) same
      (subst (λ (m : Mark). From text m.place.index after.here) (sym q.0) q.1)
  sign_read ends ColonSign h l (OfLexeme y ∷ []) after e p f =
      λ z notes are. let same : y ≡ z = cc in subst (λ (z : Lexeme). From text z.shown.end.place.index after.here) same
      (subst (λ (m : Mark). From text m.place.index after.here) (sym (ap (λ (y : Lexeme). y.shown.end) p.0.is))
      (tail_if_signed (is_blank (next_char (step h))) (step h) after.here p.0.tail _ p.0.tailed f))
  sign_read ends QuestionSign h l [] after e p f = absurd p
  sign_read ends QuestionSign h l (OfComment c ∷ is) after e p f = absurd p
  sign_read ends QuestionSign h l (OfLexeme y ∷ i ∷ is) after e p f = absurd p
  sign_read ends ColonSign h l [] after e p f = absurd p
  sign_read ends ColonSign h l (OfComment c ∷ is) after e p f = absurd p
  sign_read ends ColonSign h l (OfLexeme y ∷ i ∷ is) after e p f = absurd p
  sign_read ends sort h l items after (inl e) p f = absurd cc
  sign_read ends sort h l items after (inr e) p f = absurd cc

-- ---- reads

no_break : (h : Here) → is_gap (next_char h) ≡ false → is_break (next_char h) ≡ true → ⊥
no_break h g b = let z = break_gap (next_char h) b in cc

-- in front of a lexeme of the text the tab is one behind the sign
tabs_say : (text : List ℕ) (ls : List Lexeme) (s : ReaderState) → At text s.here → Signed text ls s
    → is_gap (next_char s.here) ≡ false → (s.here.unread.text ≡ [] → ⊥) → TabSays text ls s.here s.laid
tabs_say text ls s a f g some i line = let q = f i in on q.0 q.1 q.2 q.3
  where
    on : (y : Lexeme) (ys : List Lexeme) → ls ≡ y ∷ ys → From text y.shown.end.place.index s.here
        → (is_none s.here.tab ≡ true → NoTabBehind text ls (mark_of s.here))
        × (NoTabBehind text ls (mark_of s.here) → is_none s.here.tab ≡ true)
    on y ys e p = by p.seen
      where
        here : drop s.here.place.index text ≡ s.here.unread.text
        here = ap (λ i. drop i text) a.here.mark.index ∙ sym a.here.text

        leads : drop y.shown.end.place.index text ≡ p.characters ++ drop s.here.place.index text
        leads = p.leads ∙ ap (λ (l : List ℕ). p.characters ++ l) (sym here)

        by : TabSeen s.here p.characters → (is_none s.here.tab ≡ true → NoTabBehind text ls (mark_of s.here))
            × (NoTabBehind text ls (mark_of s.here) → is_none s.here.tab ≡ true)
        by (inl b) = absurd cc
        by (inr (inl (inl n))) = absurd (some n)
        by (inr (inl (inr b))) = absurd (no_break s.here g b)
        by (inr (inr k)) = (
          λ n. subst (λ (l : List Lexeme). NoTabBehind text l (mark_of s.here)) (sym e)
              (p.characters, leads, sym k ∙ n),
          λ v. back (subst (λ (l : List Lexeme). NoTabBehind text l (mark_of s.here)) e v),
        )
          where
            back : NoTabBehind text (y ∷ ys) (mark_of s.here) → is_none s.here.tab ≡ true
            back (cs, d, n) = let same : cs ≡ p.characters = append_cancel_right cs p.characters
                (drop s.here.place.index text) (sym d ∙ leads) in k ∙ ap no_tab (sym same) ∙ n

closed_tabs : (text : List ℕ) (sort : LexemeSort) (h : Here) (l : Laid) (ls : List Lexeme) → TabSays text ls h l
    → TabSays text ls h (closed_for sort h l)
closed_tabs text TextEnd h l ls t = t
closed_tabs text StartMark h l ls t = t
closed_tabs text EndMark h l ls t = t
closed_tabs text DirectiveSign h l ls t = t
closed_tabs text Unprintable h l ls t = t
closed_tabs text (Placed sort) h l ls t = t

module _ (o : OptionsData) (text : List ℕ) where
  pub record ReadRuns (s : ReaderState) (ls : List Lexeme) (items : List Item) (after : ReaderState) : Type 0 where
    pub says : ColonsSay o text ls items
    pub place : At text after.here
    pub runs : is_end items ≡ false → RunsSay o text (mark_of after.here) (latest items ls) after.laid
    pub signed : is_end items ≡ false → Signed text (latest items ls) after

  gap_keeps : {s at : ReaderState} {c : Option CommentRead} (ls : List Lexeme) → GapStands o s.here s.laid c at
      → Signed text ls s → Signed text ls at
  gap_keeps ls g f i = let q = f (sym (gap_agrees g).last.indicator ∙ i) in (q.0, q.1, q.2, gap_signed o text _ g q.3)

  -- behind a lexeme that is a sign
  sign_signed : (ends : Bool) (sort : LexemeSort) (h : Here) (l : Laid) (items : List Item) (after : ReaderState)
      (x : Lexeme) (notes : List Item) → items ≡ OfLexeme x ∷ notes → SaysOf sort h l x
      → Given o ends sort h l items after
      → (IsPlaced sort → At text h) → ((p : PlacedSort) → sort ≡ Placed p → (p ≡ QuestionSign) ⊎ (p ≡ ColonSign)
      → From text (step h).place.index (step h)) → is_key_sign x.kind x.key ≡ true
      → From text x.shown.end.place.index after.here
  sign_signed ends (Placed QuestionSign) h l items after x notes are s p a f e = sign_read o text ends QuestionSign h
      l items after (inl refl) p (f QuestionSign refl (inl refl)) x notes are
  sign_signed ends (Placed ColonSign) h l items after x notes are s p a f e = sign_read o text ends ColonSign h l
      items after (inr refl) p (f ColonSign refl (inr refl)) x notes are
  sign_signed ends TextEnd h l items after x notes are s p a f e = absurd (let z = ap₂ is_key_sign s.0.is s.0.key in cc)
  sign_signed ends StartMark h l items after x notes are s p a f e = absurd
      (let z = ap₂ is_key_sign s.0.is s.0.key in cc)
  sign_signed ends EndMark h l items after x notes are s p a f e = absurd (let z = ap₂ is_key_sign s.0.is s.0.key in cc)
  sign_signed ends DirectiveSign h l items after x notes are s p a f e = absurd
      (let z = ap₂ is_key_sign s.1.is s.1.key in cc)
  sign_signed ends Unprintable h l items after x notes are s p a f e = absurd s
  sign_signed ends (Placed (OpenSign bracket)) h l items after x notes are s p a f e = absurd
      (let z = ap₂ is_key_sign s.is s.key in cc)
  sign_signed ends (Placed (CloseSign bracket)) h l items after x notes are s p a f e = absurd
      (let z = ap₂ is_key_sign s.0.is s.0.key in cc)
  sign_signed ends (Placed CommaSign) h l items after x notes are s p a f e = absurd
      (let z = ap₂ is_key_sign s.is s.key in cc)
  sign_signed ends (Placed DashSign) h l items after x notes are s p a f e = absurd
      (let z = ap₂ is_key_sign s.0.is s.0.key in cc)
  sign_signed ends (Placed AliasSign) h l items after x notes are s p a f e = absurd
      (let z = ap₂ is_key_sign s.1.is s.1.key in cc)
  sign_signed ends (Placed AnchorSign) h l items after x notes are s p a f e = absurd
      (let z = ap₂ is_key_sign s.1.is s.1.key in cc)
  sign_signed ends (Placed TagSign) h l items after x notes are s p a f e = absurd
      (let z = ap₂ is_key_sign s.2.is s.2.key in cc)
  sign_signed ends (Placed (BlockSign literal)) h l items after x notes are s p a f e = absurd
      (let z = ap₂ is_key_sign s.2.is s.2.key in cc)
  sign_signed ends (Placed (QuoteSign single)) h l items after x notes are s p a f e = absurd
      (let z = ap₂ is_key_sign s.2.is s.2.key in cc)
  sign_signed ends (Placed PlainSign) h l items after x notes are s p a f e = absurd
      (let z = ap₂ is_key_sign s.2.is s.2.key in cc)
  sign_signed ends (Placed StrayMark) h l items after x notes are s p a f e = absurd s
  sign_signed ends (Placed NoSign) h l items after x notes are s p a f e = absurd s

  placed_some : (sort : LexemeSort) (in_flow adjacent : Bool) (h : Here) → IsPlaced sort
      → Begins in_flow adjacent h.place.column h.unread.text sort → h.unread.text ≡ [] → ⊥
  placed_some (Placed sort) in_flow adjacent h i b e = let q = sign_there b in let z = sym e ∙ q.2 in absurd cc
  placed_some TextEnd in_flow adjacent h i b e = absurd i
  placed_some StartMark in_flow adjacent h i b e = absurd i
  placed_some EndMark in_flow adjacent h i b e = absurd i
  placed_some DirectiveSign in_flow adjacent h i b e = absurd i
  placed_some Unprintable in_flow adjacent h i b e = absurd i

  step_from : (sort : LexemeSort) (in_flow adjacent : Bool) (h : Here) → At text h
      → Begins in_flow adjacent h.place.column h.unread.text sort → (p : PlacedSort) → sort ≡ Placed p
      → (p ≡ QuestionSign) ⊎ (p ≡ ColonSign) → From text (step h).place.index (step h)
  step_from sort in_flow adjacent h a b p e k = let q = sign_there
      (subst (λ sort. Begins in_flow adjacent h.place.column h.unread.text sort) e b) in from_sign o text h a q.0 q.1
      q.2 (q.3 k)

  pub read_runs : {s after : ReaderState} {items : List Item} (ls : List Lexeme) → Reads o s items after
      → At text s.here → RunsSay o text (mark_of s.here) ls s.laid → Signed text ls s → ReadRuns s ls items after
  read_runs {s = s} ls (of_comment {comment = c} at g k) a r d =
      let p = (gap_passes text g a).further in
      record {
        says = tt;
        place = p.place;
        runs = λ e. fresh_runs o text (mark_of s.here) ls at (onward text a p)
            (gap_runs o text (mark_of s.here) ls s.laid at.laid (gap_agrees g) r);
        signed = λ e. gap_keeps ls g d;
      }
  read_runs {s = s} ls (of_lexeme {items = items} at behind sort comes given keys) a r d =
      let p = (gap_passes text comes.gap a).further in
      let f = freshened o at in
      let h = at.here in
      let u = fresh_runs o text (mark_of s.here) ls at (onward text a p)
      (gap_runs o text (mark_of s.here) ls s.laid at.laid (gap_agrees comes.gap) r) in
      let c = closed_for sort h f.laid in
      let v = closed_runs o text (mark_of h) ls sort h f.laid u in
      let t = telling o (ends_column_by sort f) h _ sort items behind given.1 in
      let n = closed_near sort h f.laid in
      let q = ((given_places text o _ sort h _ items behind given.1).passes p.place).further in
      let near = λ (k : PossibleKey) (e : top_key c ≡ Some k). subst (λ g. is_stale o g (mark_of h) k ≡ false)
      (sym n.1) (fresh_nears o at k (sym n.0 ∙ e)) in
      let tabs = λ (i : IsPlaced sort). closed_tabs text sort h f.laid ls
      (tabs_say text ls f p.place (gap_keeps ls comes.gap d) (stops_there comes.gap)
      (placed_some sort _ _ h i comes.begins)) in
      let e = ap (λ (is : List Item). latest is ls) t.are ∙ latest_noted t.lexeme t.note ls in
      let goes = λ (w : t.lexeme.kind ≡ Rattle.granit_lexemes.specs.Lexeme.StreamEnd → ⊥). lexeme_goes o text h c ls
      t.lexeme behind.laid v sort t.cut t.reached tabs w t.told t.says t.leaves in
      record {
        says = subst (ColonsSay o text ls) (sym t.are)
            (noted_says o text ls t.lexeme t.note
            (colon_says o text h c ls t.lexeme behind.laid v near sort t.told t.says));
        place = q.place;
        runs = λ y. subst (λ (xs : List Lexeme). RunsSay o text (mark_of behind.here) xs (freshened o behind).laid)
            (sym e)
            (fresh_runs o text (mark_of h) (t.lexeme ∷ ls) behind (onward text p.place q)
            (goes (λ is. let z = sym y ∙ ap is_end t.are ∙ ap is_end_kind is in cc)));
        signed = λ y z. (
          t.lexeme,
          ls,
          e,
          sign_signed (ends_column_by sort f) sort h _ items behind t.lexeme (note_items t.note) t.are t.says given.1
              (λ i. p.place) (step_from sort _ _ h p.place comes.begins)
              (and_parts _ _ (sym (goes (λ is. let w = sym y ∙ ap is_end t.are ∙ ap is_end_kind is in cc)).last.sign
              ∙ z)).1,
        );
      }

  runs_reach : {s t : ReaderState} {items : List Item} (ls : List Lexeme) → Reached o s items t → At text s.here
      → RunsSay o text (mark_of s.here) ls s.laid → Signed text ls s → ColonsSay o text ls items
  runs_reach ls stops a r d = tt
  runs_reach {s = s} ls (goes_on next items more read last rest e) a r d =
      let p = read_runs ls read a r d in
      subst (ColonsSay o text ls) (sym e) (says_joined o text ls items more p.says
      (on (is_end items) refl p.runs p.signed (λ (q : RunsSay o text (mark_of next.here) (latest items ls) next.laid)
      (d : Signed text (latest items ls) next). runs_reach (latest items ls) rest p.place q d)))
    where
      on : (v : Bool) → is_end items ≡ v → (is_end items ≡ false
          → RunsSay o text (mark_of next.here) (latest items ls) next.laid)
          → (is_end items ≡ false → Signed text (latest items ls) next)
          → (RunsSay o text (mark_of next.here) (latest items ls) next.laid → Signed text (latest items ls) next
          → ColonsSay o text (latest items ls) more) → ColonsSay o text (latest items ls) more
      on true y f d g = subst (ColonsSay o text (latest items ls)) (sym (last y)) tt
      on false y f d g = g (f y) (d y)

-- at the start of a text there is none
pub start_says : (o : OptionsData) (text : List ℕ) (h : Here) → RunsSay o text (mark_of h) [] (reader_start h).laid
start_says o text h = record {
  depths = no_run_now tt refl;
  last = record { opener = refl; dash = refl; indicator = λ e. tt; sign = refl };
}

-- each `:` of a text has the key that the lexemes before it say
pub colons_said : (o : OptionsData) (text : List ℕ) (items : List Item) (t : ReaderState)
    → Reached o (reader_start (start_of text)) items t → ColonsSay o text [] items
colons_said o text items t r =
    runs_reach o text [] r (start_at text) (start_says o text (start_of text)) (λ e. absurd cc)
