-- What the machine answers for JSON text.
use Rattle.std.proofs.Common.{Bool, List, Ok, Option, [], ap, false, refl, subst, sym}
use Rattle.std.proofs.Common.{true}
use Rattle.std.proofs.Common.{ℕ, ◌++◌, ◌∙◌, ◌∷◌, ◌≡◌, ◌≤◌}
use Rattle.std.proofs.lemmas.List.{append-nil}
use Rattle.granit_lexemes.proofs.PieceLemmas.{fault_none}
use Rattle.granit_canonical.proofs.Laws.{answer_reads, reading_answered, unasked_silent}
use Rattle.granit_base.specs.Classes.{is_printable}
use Rattle.granit_canonical.proofs.Laws.{BareItem, BareItems, no_row_too_long, all_others, lex_same}
use Rattle.granit_error.specs.OptionsData.{OptionsData}
use Rattle.granit_quiet.specs.CommentEvents.{comment_events, item_events, tail_events}
use Rattle.granit_quiet.specs.Quiet.{but_comments}
use Rattle.granit_json_scalars.proofs.Passing.{Flags, flagged_is, flagged_of, flags_name, items_of, no_flag, unflagged}
use Rattle.granit_json.proofs.Whole.{TextRead, text_read}
use Rattle.granit_json_scalars.specs.Json.{Json, json_depth}
use Rattle.granit_json_scalars.specs.JsonEvents.{json_events}
use Rattle.granit_json_scalars.specs.JsonText.{JsonText, NamesFit}
use Rattle.granit_language.specs.Seen.{Flagged}
use Rattle.granit_language.specs.TextFault.{NoneTold}
use Rattle.granit_lexemes.specs.Comment.{CommentRead}
use Rattle.granit_lexemes.specs.Gap.{Each}
use Rattle.granit_lexemes.specs.Here.{start_of}
use Rattle.granit_lexemes.specs.Lexeme.{Item, OfComment, OfLexeme}
use Rattle.granit_lexemes.specs.PlainEvent.{PlainEvent}
use Rattle.granit_machine.specs.Laid.{Laid}
use Rattle.granit_machine.specs.Lexing.{FlaggedItem, flagged, lex}
use Rattle.granit_machine.specs.Machine.{run}
use Rattle.granit_machine.specs.Parser.{next_line}
use Rattle.granit_machine.specs.Reader.{LexState}
use Rattle.granit_quiet.proofs.TellStream.{all_read_whole}

-- ---- no comment is one too many, since there is none

bare_items : (fs : List Flagged) → Flags fs → BareItems (flagged_of fs)
bare_items _ no_flag = tt
bare_items _ (unflagged {fs = fs} l k t p) = (t, bare_items fs p)
bare_items _ (flags_name {fs = fs} l m k a b n t u p) = (t, (u, bare_items fs p))

none_of : (o : OptionsData) (l : Laid) (fs : List Flagged) → Flags fs → NoneTold o true l (items_of fs)
none_of o l fs b asked given before front f many =
    let is : flagged_of fs ≡ given ++ before.more = sym (flagged_is fs b) ∙ before.is in
    let same : flagged_of fs ≡ given = is ∙ ap (λ (more : List FlaggedItem). given ++ more) (before.all refl)
    ∙ append-nil given in
    no_row_too_long o given front f (subst BareItems same (bare_items fs b)) many.row

-- and none is told
no_events : (is : List FlaggedItem) → BareItems is → comment_events is ≡ []
no_events [] b = refl
no_events (i ∷ is) b = by i.item b.0 (no_events is b.1)
  where
    by : (x : Item) → BareItem x → comment_events is ≡ [] → item_events x (next_line is) ++ comment_events is ≡ []
    by (OfLexeme l) t n =
        ap (λ (tail : Option CommentRead). tail_events l.kind tail (next_line is) ++ comment_events is) t ∙ n
    by (OfComment c) t n = absurd t

silent : (o : OptionsData) (x : List ℕ) (items : List Item) (t : LexState) (gs : List PlainEvent)
    → lex o (start_of x) ≡ Ok (items, t) → run o x ≡ Ok gs → comment_events (flagged items) ≡ [] → (v : Bool)
    → o.emit_comments ≡ v → but_comments gs ≡ gs
silent o x items t gs l g none false off = unasked_silent o x gs off g
silent o x items t gs l g none true on =
    let y = answer_reads o x gs g in
    all_others gs (y.comments on
    ∙ ap (λ (is : List Item). comment_events (flagged is))
    (lex_same (lex o (start_of x)) y.items items y.state t y.are_read l)
    ∙ none)

answered : (o : OptionsData) (x : List ℕ) (es : List PlainEvent) → TextRead o x es → run o x ≡ Ok es
answered o x es r =
    let items = items_of r.read in
    let none : comment_events (flagged items) ≡ [] =
    ap comment_events (flagged_is r.read r.flags) ∙ no_events (flagged_of r.read) (bare_items r.read r.flags) in
    let l = all_read_whole o (start_of x) items true r.state r.whole in
    let e = fault_none l.0.fault l.2 in
    let g = reading_answered o x items l.0 r.tree_events l.1 e r.reading (none_of o l.0.reader.laid r.read r.flags) in
    g.1 ∙ ap (λ (es : List PlainEvent). Ok es)
    (sym (silent o x items l.0 g.0 l.1 g.1 none o.emit_comments refl) ∙ g.2 ∙ r.told)

-- JSON text is answered with the events of its value
pub json_answered : (o : OptionsData) (x : List ℕ) (t : Json) (d : JsonText x t) → Each is_printable x
    → json_depth t ≤ o.flow_nesting_limit → NamesFit o.simple_key_max_lookahead d → run o x ≡ Ok (json_events x d)
json_answered o x t d prints deep fit = answered o x (json_events x d) (text_read o x t d prints deep fit)
