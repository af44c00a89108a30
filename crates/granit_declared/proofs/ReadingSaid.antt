-- An answer's reading is the declared one.
use Rattle.std.proofs.Common.{◌≡◌, ℕ, Bool, true, List, [], ◌∷◌, ◌++◌, map, refl, sym, ap, ap₂}
use Rattle.std.proofs.Common.{◌∙◌, subst}
use Rattle.std.specs.Prelude.{is_none}
use Rattle.std.proofs.lemmas.Bool.Decides.{same_from_decides}
use Rattle.std.proofs.lemmas.List.{append-nil}
use Rattle.granit_error.specs.OptionsData.{OptionsData}
use Rattle.granit_lexemes.proofs.PieceLemmas.{fault_none}
use Rattle.granit_order.specs.Answers.{AnswersReading}
use Rattle.granit_order.specs.Answers.{comment_events, only_comments}
use Rattle.granit_language.specs.OpenColumns.{latest}
use Rattle.granit_language.specs.Reached.{Reached, ReadWhole}
use Rattle.granit_language.specs.Seen.{terminal_seen, lexemes_flagged}
use Rattle.granit_language.specs.TextFault.{NoneTooMany, NoneTold}
use Rattle.granit_language.specs.Whole.{WholeReading}
use Rattle.granit_lexemes.specs.Here.{start_of}
use Rattle.granit_lexemes.specs.Lexeme.{Lexeme, Item, OfLexeme, OfComment}
use Rattle.granit_lexemes.specs.PlainEvent.{PlainEvent}
use Rattle.granit_machine.specs.Laid.{Laid}
use Rattle.granit_machine.specs.Lexing.{FlaggedItem, flagged}
use Rattle.granit_machine.specs.ReaderState.{ReaderState, reader_start}
use Rattle.granit_order.proofs.BracketsKept.{lexed}
use Rattle.granit_order.proofs.BracketsKept.{lexed_whole}
use Rattle.granit_order.proofs.BracketsKept.{all_read_whole}
use Rattle.granit_declared.proofs.CommentsSaid.{comments_told, one_telling}
use Rattle.granit_declared.proofs.KeyFlags.{items_same, flags_said}
use Rattle.granit_declared.specs.DeclaredReading.{DeclaredReading}
use Rattle.granit_before.specs.KeyBegins.{items_of, FlagSays, FlagsSay}
use Rattle.granit_before.specs.ToldComments.{CommentsTold}

-- ---- flags are the only ones

abbrev flag_of : Item → Bool → FlaggedItem
flag_of i b = record { item = i; begins_key = b }

module _ (o : OptionsData) (text : List ℕ) where
  one_flag : (before : List Lexeme) (i : Item) (a b : Bool) (more : List Item) → FlagSays o text before i a more →
      FlagSays o text before i b more → a ≡ b
  one_flag before (OfLexeme x) a b more p q = same_from_decides a b p q
  one_flag before (OfComment c) a b more p q = p ∙ sym q

  pub flags_once : (before : List Lexeme) (fs gs : List FlaggedItem) → items_of fs ≡ items_of gs →
      FlagsSay o text before fs → FlagsSay o text before gs → fs ≡ gs
  flags_once before [] [] e p q = refl
  flags_once before [] (g ∷ gs) e p q = absurd cc
  flags_once before (f ∷ fs) [] e p q = absurd cc
  flags_once before (f ∷ fs) (g ∷ gs) e p q =
      let i : f.item ≡ g.item = cc (e) in
      let is : items_of fs ≡ items_of gs = cc (e) in
      let b : FlagSays o text before f.item g.begins_key (items_of fs) =
      subst (λ (i : Item). FlagSays o text before i g.begins_key (items_of fs)) (sym i)
      (subst (FlagSays o text before g.item g.begins_key) (sym is) q.0) in
      let flag = one_flag before f.item f.begins_key g.begins_key (items_of fs) p.0 b in
      let more = flags_once (latest (f.item ∷ []) before) fs gs is p.1
      (subst (λ (i : Item). FlagsSay o text (latest (i ∷ []) before) gs) (sym i) q.1) in
      let head : f ≡ g = ap₂ flag_of i flag in
      ap₂ (λ (f : FlaggedItem) (fs : List FlaggedItem). f ∷ fs) head more

-- ---- comments that are too many

none_told : (o : OptionsData) (l : Laid) (items : List Item) →
    (o.emit_comments ≡ true → NoneTooMany o (flagged items)) →
    NoneTold o true l items
none_told o l items n e given b =
    subst (NoneTooMany o)
    (b.is ∙ (ap (λ (more : List FlaggedItem). given ++ more) (b.all refl) ∙ append-nil given)) (n e)

told_none : (o : OptionsData) (l : Laid) (items : List Item) → NoneTold o true l items → o.emit_comments ≡ true →
    NoneTooMany o (flagged items)
told_none o l items n e =
    n e (flagged items) (record {
      more = [];
      is = sym (append-nil (flagged items));
      all = λ t. refl;
      settled = λ t. absurd cc;
    })

-- ---- readings

pub answer_declared : (o : OptionsData) (x : List ℕ) (es : List PlainEvent) → AnswersReading o x es →
    DeclaredReading o x es
answer_declared o x es a =
    let w = (lexed_whole o (start_of x) a.items a.state a.are_read).whole in
    let ended : is_none a.state.fault ≡ true = ap is_none a.to_end in
    record {
      items = flagged a.items;
      state = a.state.reader;
      stand =
          subst (λ (is : List Item). ReadWhole o (reader_start (start_of x)) is true a.state.reader)
          (sym (items_same a.items))
          (subst (λ (v : Bool). ReadWhole o (reader_start (start_of x)) a.items v a.state.reader) ended w);
      flags = flags_said o x a.items a.state.reader a.stand;
      tree_events = a.tree_events;
      reading = a.reading;
      told = a.told;
      comments =
          λ e. subst (CommentsTold (flagged a.items)) (sym (a.comments e)) (comments_told (flagged a.items));
      none = told_none o a.state.reader.laid a.items a.none;
    }

pub declared_answer : (o : OptionsData) (x : List ℕ) (es : List PlainEvent) → DeclaredReading o x es →
    AnswersReading o x es
declared_answer o x es d =
    let r = all_read_whole o (start_of x) (items_of d.items) true d.state d.stand in
    let stand = (lexed o (start_of x) (items_of d.items) r.0 r.1).reached in
    let same : flagged (items_of d.items) ≡ d.items =
    flags_once o x [] (flagged (items_of d.items)) d.items (items_same (items_of d.items))
    (flags_said o x (items_of d.items) r.0.reader stand) d.flags in
    record {
      items = items_of d.items;
      state = r.0;
      are_read = r.1;
      to_end = fault_none r.0.fault r.2;
      stand = stand;
      tree_events = d.tree_events;
      reading =
          subst (λ (fs : List FlaggedItem). WholeReading o (map terminal_seen (lexemes_flagged fs)) d.tree_events)
          (sym same) d.reading;
      told = d.told;
      comments =
          λ e. one_telling d.items (only_comments es) (comment_events d.items) (d.comments e) (comments_told d.items)
          ∙ sym (ap (λ (fs : List FlaggedItem). comment_events fs) same);
      none =
          none_told o r.0.reader.laid (items_of d.items)
          (λ e. subst (NoneTooMany o) (sym same) (d.none e));
    }

-- the flags of the items of a text are the only ones that say where keys begin
pub flags_are : (o : OptionsData) (text : List ℕ) (items : List Item) (t : ReaderState) (fs : List FlaggedItem) →
    Reached o (reader_start (start_of text)) items t → items_of fs ≡ items → FlagsSay o text [] fs → fs ≡ flagged items
flags_are o text items t fs r e f =
    flags_once o text [] fs (flagged items) (e ∙ sym (items_same items)) f (flags_said o text items t r)
