-- Where tabs may stand behind the lexemes of a text, said of these.
use Rattle.std.proofs.Common.{◌≡◌, ℕ, List, [], ◌∷◌, drop}
use Rattle.std.proofs.Common.{refl, sym, ap, ◌∙◌, subst}
use Rattle.std.specs.Bool.{Decides}
use Rattle.std.proofs.lemmas.Bool.Decides.{Decides-at}
use Rattle.granit_base.specs.Place.{Mark}
use Rattle.granit_error.specs.OptionsData.{OptionsData}
use Rattle.granit_language.specs.Before.{freshened, in_front}
use Rattle.granit_language.specs.OpenColumns.{latest}
use Rattle.granit_language.specs.Reached.{ends_column_by, Reads, of_comment, of_lexeme, Reached, stops, goes_on}
use Rattle.granit_lexemes.specs.Here.{Here, mark_of, start_of}
use Rattle.granit_lexemes.specs.Lexeme.{Lexeme, Item}
use Rattle.granit_machine.specs.Laid.{Laid}
use Rattle.granit_machine.specs.ReaderState.{ReaderState, reader_start}
use Rattle.granit_places.proofs.ColumnsKept.{OpenSays}
use Rattle.granit_places.proofs.ColumnsLaw.{front_flow}
use Rattle.granit_places.proofs.ColumnsWhole.{agrees_said, fresh_said, reads_said, latest_noted, latest_joined}
pub use Rattle.granit_places.proofs.Counting.{At, start_at}
pub use Rattle.granit_places.proofs.PlacesLaw.{gap_passes, given_places}
use Rattle.granit_places.proofs.Telling.{gap_agrees, telling}
use Rattle.granit_machine.specs.NodeLexemes.{note_items}
use Rattle.granit_before.proofs.TabsColumns.{Widths, columns_step}
use Rattle.granit_before.proofs.TabsInnermost.{rolled_step}
use Rattle.granit_before.proofs.TabsLeft.{SameTabs, gap_tabs, left_tabs, styled}
use Rattle.granit_before.specs.Tabs.{IndentsFurther, behind_sign, behind_opener, still_so}

pub record TabsSay (text : List ℕ) (ls : List Lexeme) (l : Laid) : Type 0 where
  pub innermost : Decides l.rolled (IndentsFurther text ls)
  pub widths : Widths text ls l.columns

pub tabs_as : (text : List ℕ) (ls : List Lexeme) {a b : Laid} → SameTabs a b → TabsSay text ls b → TabsSay text ls a
tabs_as text ls {a = a} {b = b} e p = record {
  innermost = Decides-at a.rolled b.rolled e.rolled p.innermost;
  widths = subst (Widths text ls) (sym e.columns) p.widths;
}

-- the text behind a place
here_text : {text : List ℕ} {g : Here} → At text g → drop g.place.index text ≡ g.unread.text
here_text {text = text} a = ap (λ i. drop i text) a.here.mark.index ∙ sym a.here.text

none_first : {A : Type 0} (text : List ℕ) {xs : List Lexeme} → xs ≡ [] → IndentsFurther text xs → A
none_first text e (behind_sign a) = absurd cc
none_first text e (behind_opener c k f i p) = absurd cc
none_first text e (still_so s m) = absurd cc

module _ (o : OptionsData) (text : List ℕ) where
  pub record ReadTabs (ls : List Lexeme) (items : List Item) (after : ReaderState) : Type 0 where
    pub place : At text after.here
    pub columns : OpenSays (latest items ls) after.laid
    pub tabs : TabsSay text (latest items ls) after.laid

  read_tabs : {s after : ReaderState} {items : List Item} (ls : List Lexeme) → Reads o s items after →
      At text s.here → OpenSays ls s.laid → TabsSay text ls s.laid → ReadTabs ls items after
  read_tabs {s = s} ls (of_comment at g k) a m w = record {
    place = (gap_passes text g a).further.place;
    columns = reads_said o ls (of_comment at g k) m;
    tabs =
        tabs_as text ls (record { columns = refl; rolled = refl })
        (tabs_as text ls (gap_tabs g) w);
  }
  read_tabs {s = s} ls (of_lexeme {items = items} at behind sort comes given keys) a m w =
      let f = freshened o at in
      let n = fresh_said o ls at (agrees_said ls s.laid at.laid (gap_agrees comes.gap) m) in
      let v = tabs_as text ls {a = f.laid} {b = s.laid} (record {
        columns = (gap_tabs comes.gap).columns;
        rolled = (gap_tabs comes.gap).rolled;
      }) w in
      let t = telling o (ends_column_by sort f) f.here _ sort items behind given.1 in
      let p = ((given_places text o _ sort at.here _ items behind given.1).passes
      (gap_passes text comes.gap a).further.place).further.place in
      let e = left_tabs o (ends_column_by sort f) sort f.here (in_front sort f.here f.laid) items behind given.1 in
      let x = t.lexeme in
      let st = styled o (ends_column_by sort f) sort f.here (in_front sort f.here f.laid) items behind x
      (note_items t.note) t.are given.1 in
      let there = λ (q : x.end ≡ mark_of behind.here). ap (λ (m : Mark). drop m.place.index text) q ∙ here_text p in
      let flow = t.told.flow ∙ front_flow sort f.here f.laid in
      let same = ap (λ (is : List Item). latest is ls) t.are ∙ latest_noted x t.note ls in
      record {
        place = p;
        columns = reads_said o ls (of_lexeme at behind sort comes given keys) m;
        tabs = subst (λ (l : List Lexeme). TabsSay text l (freshened o behind).laid) (sym same) (record {
          innermost =
              Decides-at behind.laid.rolled _ e.rolled
              (rolled_step text ls f.laid n.columns v.innermost f.here behind.here x t.told.start flow there sort
              t.says st);
          widths =
              subst (Widths text (x ∷ ls)) (sym e.columns)
              (columns_step text ls f.laid n v.widths f.here behind.here x t.told.start flow there sort t.says st);
        });
      }

  reached_tabs : {s t : ReaderState} {items : List Item} (ls : List Lexeme) → Reached o s items t →
      At text s.here → OpenSays ls s.laid → TabsSay text ls s.laid → TabsSay text (latest items ls) t.laid
  reached_tabs ls stops a m w = w
  reached_tabs {t = t} ls (goes_on next items more r last rest e) a m w =
      let p = read_tabs ls r a m w in
      subst (λ (l : List Lexeme). TabsSay text l t.laid)
      (sym (ap (λ (is : List Item). latest is ls) e ∙ latest_joined items more ls))
      (reached_tabs (latest items ls) rest p.place p.columns p.tabs)

  pub tabs_said : (items : List Item) (t : ReaderState) → Reached o (reader_start (start_of text)) items t →
      TabsSay text (latest items []) t.laid
  tabs_said items t r =
      reached_tabs [] r (start_at text)
      (record { columns = record { are_open = λ c p. p; are_kept = λ c p. p; fall = tt }; key = tt })
      (record { innermost = (λ e. absurd cc, λ p. none_first text refl p); widths = tt })
