-- What the machine answers for canonical text.
pub use Rattle.granit_answers.proofs.OneCause.{answer_reads, cause_answered, reading_answered, unasked_silent}
pub use Rattle.granit_answers.proofs.CommentsCaused.{any_fault_caused}
pub use Rattle.granit_answers.proofs.Answered.{one_answer}
use Rattle.std.proofs.Common.{Bool, Err, List, Ok, Option, Result, [], ap, ap₂, cond, false, not, refl, subst, sym}
use Rattle.std.proofs.Common.{true, ℕ, ◌++◌, ◌∙◌, ◌∷◌, ◌≡◌, ◌≤◌}
use Rattle.std.proofs.lemmas.List.{append-nil}
use Rattle.std.specs.Prelude.{None}
use Rattle.granit_lexemes.proofs.PieceLemmas.{fault_none}
use Rattle.granit_canonical.proofs.Whole.{AreBare, BareRead, flagged_bare, items_of, text_read, unflagged}
use Rattle.granit_canonical_steps.specs.Canonical.{canonical_events}
use Rattle.granit_error.specs.OptionsData.{OptionsData}
use Rattle.granit_answers.specs.CommentStands.{comment_events, only_comments, tail_events}
use Rattle.granit_answers.specs.CommentStands.{but_comments}
use Rattle.granit_language.specs.CommentRows.{AreComments, RowTooLong, tail_comments}
use Rattle.granit_language.specs.Telling.{events_told}
use Rattle.granit_language.specs.TextFault.{NoneTold}
use Rattle.granit_language.specs.TreeEvents.{TreeEvent}
use Rattle.granit_lexemes.specs.Comment.{CommentRead}
use Rattle.granit_lexemes.specs.Here.{start_of}
use Rattle.granit_lexemes.specs.Lexeme.{Item, Lexeme, LexemeKind, OfComment, OfLexeme}
use Rattle.granit_lexemes.specs.Outcome.{Fault}
use Rattle.granit_lexemes.specs.PlainEvent.{PlainEvent, is_note}
use Rattle.granit_machine.specs.Laid.{Laid}
use Rattle.granit_machine.specs.Lexing.{FlaggedItem, flagged, lex}
use Rattle.granit_machine.specs.Machine.{run}
use Rattle.granit_machine.specs.Parser.{next_line}
use Rattle.granit_machine.specs.Reader.{LexState}
use Rattle.granit_model.specs.Characters.{HasCharacters}
use Rattle.granit_model.specs.FlowText.{flow_characters}
use Rattle.granit_model.specs.Tree.{DocumentsFit, PlainTrees, trees_depth}
use Rattle.granit_answers.proofs.CommentsCaused.{all_read_whole}

-- ---- no comment is one too many, since there is none

abbrev pub BareItem : Item → Type 0
BareItem (OfLexeme l) = l.tail ≡ None
BareItem (OfComment c) = ⊥

abbrev pub BareItems : List FlaggedItem → Type 0
BareItems [] = Unit {0}
BareItems (i ∷ is) = BareItem i.item × BareItems is

bare_items : (ls : List Lexeme) → AreBare ls → BareItems (unflagged ls)
bare_items [] b = tt
bare_items (l ∷ ls) b = (b.1, bare_items ls b.2)

pub bare_behind : (front rest : List FlaggedItem) → BareItems (front ++ rest) → BareItems rest
bare_behind [] rest b = b
bare_behind (i ∷ front) rest b = bare_behind front rest b.1

pub no_row : (row rest : List FlaggedItem) (cs : List CommentRead) → BareItems (row ++ rest) → AreComments row cs
    → cs ≡ []
no_row [] rest [] b a = refl
no_row [] rest (c ∷ cs) b a = absurd a
no_row (i ∷ row) rest [] b a = absurd a
no_row (i ∷ row) rest (c ∷ cs) b a = absurd (subst BareItem a.0 b.0)

pub not_more : (kept : List CommentRead) (c : CommentRead) → [] ≡ kept ++ (c ∷ []) → ⊥
not_more [] c e = cc
not_more (k ∷ kept) c e = cc

pub no_row_too_long : (o : OptionsData) (items front : List FlaggedItem) (f : Fault) → BareItems items
    → RowTooLong o items front f → ⊥
no_row_too_long o items front f b r =
    let here = bare_behind front (record { item = OfLexeme r.lexeme; begins_key = r.flag } ∷ (r.row ++ r.rest))
    (subst BareItems r.is b) in
    not_more r.kept r.one
    (sym (ap₂ (λ (t : Option CommentRead) (cs : List CommentRead). tail_comments t ++ cs) here.0
    (no_row r.row r.rest r.comments here.1 r.are)) ∙ r.more)

none_of : (o : OptionsData) (l : Laid) (ls : List Lexeme) → AreBare ls → NoneTold o true l (items_of ls)
none_of o l ls b asked given before front f many =
    let is : unflagged ls ≡ given ++ before.more = sym (flagged_bare ls b) ∙ before.is in
    let same : unflagged ls ≡ given = is ∙ ap (λ (more : List FlaggedItem). given ++ more) (before.all refl)
    ∙ append-nil given in
    no_row_too_long o given front f (subst BareItems same (bare_items ls b)) many.row

-- and none is told
no_events : (ls : List Lexeme) → AreBare ls → comment_events (unflagged ls) ≡ []
no_events [] b = refl
no_events (l ∷ ls) b = quiet l.kind l.tail (next_line (unflagged ls)) (comment_events (unflagged ls)) b.1
    ∙ no_events ls b.2
  where
    quiet : (kind : LexemeKind) (tail : Option CommentRead) (next : Option ℕ) (es : List PlainEvent) → tail ≡ None
        → tail_events kind tail next ++ es ≡ es
    quiet kind tail next es e = ap (λ (t : Option CommentRead). tail_events kind t next ++ es) e

pub all_others : (es : List PlainEvent) → only_comments es ≡ [] → but_comments es ≡ es
all_others [] h = refl
all_others (e ∷ es) h = by (is_note e.kind) (λ g. all_others es g) h
  where
    by : (v : Bool) → (only_comments es ≡ [] → but_comments es ≡ es)
        → cond v (e ∷ only_comments es) (only_comments es) ≡ []
        → cond (not v) (e ∷ but_comments es) (but_comments es) ≡ e ∷ es
    by true rest g = absurd cc
    by false rest g = ap (λ (ks : List PlainEvent). e ∷ ks) (rest g)

items_in : Result (List Item × LexState) Fault → List Item
items_in (Ok x) = x.0
items_in (Err f) = []

pub lex_same : (a : Result (List Item × LexState) Fault) (i j : List Item) (s t : LexState) → a ≡ Ok (i, s)
    → a ≡ Ok (j, t)
    → i ≡ j
unfolding items_in
lex_same a i j s t e f = sym (ap items_in e) ∙ ap items_in f

-- such a text is answered with the events of its trees
pub bare_is_answered : (o : OptionsData) (x : List ℕ) (es : List TreeEvent) → BareRead o x es
    → run o x ≡ Ok (events_told o es)
bare_is_answered o x es r =
    let items = items_of r.read in
    let l = all_read_whole o (start_of x) items true r.state r.whole in
    let e = fault_none l.0.fault l.2 in
    let g = reading_answered o x items l.0 es l.1 e r.reading (none_of o l.0.reader.laid r.read r.bare) in
    g.1 ∙ ap (λ (es : List PlainEvent). Ok es) (sym (silent l.0 g.0 l.1 g.1 o.emit_comments refl) ∙ g.2)
  where
    no_comments : comment_events (flagged (items_of r.read)) ≡ []
    no_comments = ap comment_events (flagged_bare r.read r.bare) ∙ no_events r.read r.bare

    silent : (t : LexState) (gs : List PlainEvent) → lex o (start_of x) ≡ Ok (items_of r.read, t) → run o x ≡ Ok gs
        → (v : Bool) → o.emit_comments ≡ v → but_comments gs ≡ gs
    silent t gs l g false off = unasked_silent o x gs off g
    silent t gs l g true on =
        let y = answer_reads o x gs g in
        all_others gs (y.comments on
        ∙ ap (λ (is : List Item). comment_events (flagged is))
        (lex_same (lex o (start_of x)) y.items (items_of r.read) y.state t y.are_read l)
        ∙ no_comments)

-- canonical text is answered with the events of its trees
pub canonical_is_read : (o : OptionsData) (ts : PlainTrees) → DocumentsFit ts → HasCharacters ts
    → trees_depth ts ≤ o.flow_nesting_limit → run o (flow_characters ts) ≡ Ok (canonical_events o ts)
canonical_is_read o ts fits written deep =
    let r = text_read o ts fits written deep in
    bare_is_answered o (flow_characters ts) r.tree_events r.text ∙ ap (λ (es : List PlainEvent). Ok es) r.told
