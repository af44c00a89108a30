-- The gap behind a quoted scalar is refused as the lexemes before it and the text say.
use Rattle.std.proofs.Common.{◌≡◌, ℕ, suc, ◌==◌, Bool, false, List, [], ◌∷◌, drop, map, None, inl, inr, refl, sym, ap}
use Rattle.std.proofs.Common.{◌∙◌}
use Rattle.std.specs.Bool.{Decides}
use Rattle.granit_base.specs.Place.{Mark}
use Rattle.granit_error.specs.FaultKind.{FaultKind}
use Rattle.granit_error.specs.OptionsData.{OptionsData}
use Rattle.granit_language.specs.Allowed.{InFlow, LeftOfKey, MayPrefix}
use Rattle.granit_language.specs.Before.{freshened, in_front}
use Rattle.granit_language.specs.OpenColumns.{latest}
use Rattle.granit_language.specs.Reached.{Reached}
use Rattle.granit_language.specs.Refusing.{GapRefused, WrongTab, left_of_key, in_indentation, WrongGap, spoiled, tab}
use Rattle.granit_language.specs.Refusing.{cut}
use Rattle.granit_language.specs.Standing.{GapStands, in_front_of_lexeme, quoted_lexeme_of}
use Rattle.granit_language.specs.Stretch.{GapTo, ends, white, prefix_mark, GapHere}
use Rattle.granit_lexemes.specs.Here.{Here, next_char, mark_of, start_of}
use Rattle.granit_lexemes.specs.Lexeme.{Lexeme, Item}
use Rattle.granit_lexemes.specs.QuotedScalar.{QuotedRead, quoted_style}
use Rattle.granit_lexemes.specs.declared.layout.LastLexeme.TheVariants.{Adjacent}
use Rattle.granit_lexemes.specs.declared.layout.OpenBracket.{OpenBracket}
use Rattle.granit_machine.specs.Laid.{Laid, behind_lexeme, is_in_flow}
use Rattle.granit_machine.specs.LexemeSort.{QuoteSign, LexemeSort, Placed}
use Rattle.granit_machine.specs.ReaderState.{ReaderState, reader_start}
use Rattle.granit_places.proofs.ColumnsKept.{OpenSays, changed}
use Rattle.granit_places.proofs.ColumnsLaw.{columns_change, front_flow}
use Rattle.granit_places.proofs.ColumnsWhole.{agrees_said, fresh_said}
use Rattle.granit_places.proofs.Moving.{closed_held, lexeme_moved}
use Rattle.granit_places.proofs.Telling.{Told, SaysOf, Agrees, gap_agrees}
use Rattle.granit_before.proofs.HeldWhole.{opener_of, held_said, front_openers, inside_said, fresh_openers}
use Rattle.granit_layouts.proofs.TabRows.{tab_there, tab_back}
use Rattle.granit_before.proofs.TabsInnermost.{rolled_step}
use Rattle.granit_before.proofs.TabsLeft.{gap_tabs}
use Rattle.granit_before.proofs.TabsWhole.{tabs_as, tabs_said}
use Rattle.granit_before.specs.Openers.{IsInside}
use Rattle.granit_before.specs.QuotedGap.{QuotedGapWrong, in_comment, behind_tab}
use Rattle.granit_before.specs.Tabs.{IndentsFurther}

-- ---- gaps

gap_as : {P Q : Type 0} {h after : Here} {cs : List ℕ} → (P → Q) → GapTo P h cs after → GapTo Q h cs after
gap_as f ends = ends
gap_as f (white e w g) = white e w (gap_as f g)
gap_as f (prefix_mark may column e g) = prefix_mark (f may) column e (gap_as f g)

gap_here : {P Q : Type 0} {h at : Here} → (P → Q) → (Q → P) → GapHere P h at → GapHere Q h at
gap_here f g p = record {
  gap = p.gap;
  over = gap_as f p.over;
  stops = (p.stops.0, λ q c. p.stops.1 (g q) c);
}

-- ---- behind the scalar

self_agrees : (a : Laid) → Agrees a a
self_agrees a = record {
  number = refl;
  key = refl;
  brackets = refl;
  columns = refl;
  last = record { opener = refl; dash = refl; indicator = refl };
}

module _ (o : OptionsData) (text : List ℕ) (items : List Item) (t at : ReaderState) (single closes : Bool)
    (read : QuotedRead) (r : Reached o (reader_start (start_of text)) items t)
    (g : GapStands o t.here t.laid None at) where
  abbrev sort : LexemeSort
  sort = Placed (QuoteSign single)

  abbrev l : Laid
  l = in_front sort at.here (freshened o at).laid

  abbrev x : Lexeme
  x = quoted_lexeme_of single closes at.here l read

  abbrev after : Laid
  after = behind_lexeme Adjacent l

  abbrev ls : List Lexeme
  ls = latest items []

  -- a place at which the text behind the scalar stands
  abbrev behind : Here
  behind = record (at.here) { unread = record (at.here.unread) { text = drop x.end.place.index text } }

  told : Told at.here l x
  told = record { number = refl; start = refl; flow = refl; line = refl; follows = refl }

  says : SaysOf sort at.here l x
  says = (quoted_style single, read.text, record { is = refl; key = refl })

  columns_before : OpenSays ls (freshened o at).laid
  columns_before =
      fresh_said o ls at (agrees_said ls t.laid at.laid (gap_agrees g) (held_said o (start_of text) items t r).columns)

  columns : OpenSays (x ∷ ls) after
  columns =
      let c = closed_held sort at.here (freshened o at).laid in
      let v = lexeme_moved o sort at.here _ x None at.here after told says (self_agrees after) in
      changed ls (freshened o at).laid x after columns_before (v.number ∙ c.0) (v.next ∙ ap suc c.0)
      (columns_change o sort at.here (freshened o at).laid x None at.here after told says (self_agrees after))

  inside_before : is_in_flow (freshened o at).laid ≡ is_in_flow l
  inside_before = sym (front_flow sort at.here (freshened o at).laid)

  rolled : Decides after.rolled (IndentsFurther text (x ∷ ls))
  rolled =
      let w = tabs_as text ls {a = (freshened o at).laid} {b = t.laid} (record {
        columns = (gap_tabs g).columns;
        rolled = (gap_tabs g).rolled;
      }) (tabs_said o text items t r) in
      rolled_step text ls (freshened o at).laid columns_before.columns w.innermost at.here behind x refl
      (sym inside_before) (λ e. refl) sort says (read.text, refl)

  inside : (InFlow after → IsInside (x ∷ ls)) × (IsInside (x ∷ ls) → InFlow after)
  inside =
      inside_said (x ∷ ls) after
      (front_openers sort at.here (freshened o at).laid
      ∙ (fresh_openers o (mark_of at.here) at.laid.brackets
      ∙ (ap (λ (bs : List OpenBracket). map opener_of bs) (gap_agrees g).brackets
      ∙ (held_said o (start_of text) items t r).brackets)))

  no_prefix : MayPrefix after → ⊥
  no_prefix p = let z = p.0 in cc

  no_key : (m : Mark) → LeftOfKey after m → ⊥
  no_key m (inl e, p) = cc
  no_key m (inr e, p) = cc

  no_cut : l.cut ≡ None
  no_cut = on g
    where
      on : {s : ReaderState} → GapStands o t.here t.laid None s →
          (in_front sort s.here (freshened o s).laid).cut ≡ None
      on (in_front_of_lexeme h gap n tabs fits) = refl

  pub quoted_gap_said : (end : Here) (kind : FaultKind) (m : Mark) → GapRefused o end after kind m →
      QuotedGapWrong o text (x ∷ ls) end kind m
  quoted_gap_said end kind m p = on p.at (gap_here (λ q. no_prefix q) (λ q. absurd q) p.gap) p.wrong
    where
      tabbed : {kind : FaultKind} {m : Mark} (h : Here) → GapHere ⊥ end h →
          (next_char h == 0x23) ≡ false → WrongTab o after h kind m → QuotedGapWrong o text (x ∷ ls) end kind m
      tabbed h gap n (left_of_key {tab = tabs} b k) = absurd (no_key tabs k)
      tabbed h gap n (in_indentation {tab = tabs} b k i) =
          behind_tab h gap n b (tab_there o text (x ∷ ls) after columns.columns inside tabs rolled i)

      on : {kind : FaultKind} {m : Mark} (h : Here) → GapHere ⊥ end h → WrongGap o after h kind m →
          QuotedGapWrong o text (x ∷ ls) end kind m
      on h gap (spoiled s) = in_comment h gap s
      on h gap (tab n w) = tabbed h gap n w
      on h gap (cut n f e c) = absurd (let z = sym no_cut ∙ e in cc)

  pub said_quoted_gap : (end : Here) (kind : FaultKind) (m : Mark) → QuotedGapWrong o text (x ∷ ls) end kind m →
      GapRefused o end after kind m
  said_quoted_gap end kind m (in_comment h gap s) =
      record { at = h; gap = gap_here (λ q. absurd q) (λ q. no_prefix q) gap; wrong = spoiled s }
  said_quoted_gap end kind m (behind_tab {tab = tabs} h gap n b i) = record {
    at = h;
    gap = gap_here (λ q. absurd q) (λ q. no_prefix q) gap;
    wrong =
        tab n (in_indentation b (λ k. no_key tabs k)
        (tab_back o text (x ∷ ls) after columns.columns inside tabs rolled i));
  }
