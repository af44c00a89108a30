-- What closes, documents and comments do the same to a state without what comments left in it.
use Rattle.std.proofs.Common.{◌⊎◌, inl, inr, ◌≡◌, ℕ, zero, suc, ◌==◌, ◌-◌, ◌&&◌, ◌||◌, Bool, true, false, List, [], ◌∷◌}
use Rattle.std.proofs.Common.{◌++◌, inl, Option, Some, None, Ok, Err, refl, sym, ap, subst, ◌∙◌}
use Rattle.std.specs.Prelude.{not, if◌then◌else◌}
use Rattle.granit_error.specs.FaultKind.{TooManyComments}
use Rattle.granit_error.specs.OptionsData.{OptionsData}
use Rattle.granit_lexemes.specs.Comment.{CommentRead}
use Rattle.granit_lexemes.specs.Lexeme.{DirectiveKind, Version, TagPrefix, Reserved, LexemeKind, Dash}
use Rattle.granit_lexemes.specs.Outcome.{Fault, ◌>>=◌}
use Rattle.granit_lexemes.specs.Pieces.{with_front, then_more, turns, pieces}
use Rattle.granit_lexemes.specs.PlainEvent.{PlainEvent, PlainVersion, event_at, is_note}
use Rattle.granit_lexemes.specs.Source.{Source}
use Rattle.granit_machine.proofs.ClosingLemmas.{FeedGiven}
use Rattle.granit_machine.specs.Closing.{goes_on_with, ends_top, token_start, end_top, Closing, close_turn, depth}
use Rattle.granit_machine.specs.Closing.{close}
use Rattle.granit_machine.specs.Frames.{Frame, Root, WithProperties, BlockSequence, BlockMapping, FlowSequence}
use Rattle.granit_machine.specs.Frames.{FlowMapping, FlowPair, DocumentStage, Fresh, Directives, Inside, BehindRoot}
use Rattle.granit_machine.specs.Frames.{Between, Waiting, ParserState}
use Rattle.granit_machine.specs.Giving.{null_at, flush, give}
use Rattle.granit_machine.specs.NodeEnds.{finish, empty_span}
use Rattle.granit_machine.specs.NodeSteps.{Stepped, dash_room, node}
use Rattle.granit_machine.specs.Entries.{lookup_text}
use Rattle.granit_machine.specs.Parser.{take_in, take_token, placed, hold, take_comment, take_tail, take_lexeme}
use Rattle.granit_machine.specs.StreamSteps.{at_root, with_version, declared, with_handle, open_document}
use Rattle.granit_machine.specs.StreamSteps.{with_directive}
use Rattle.granit_machine.specs.StreamSteps.{behind_directives, bare_start, begin_document, without_directives}
use Rattle.granit_machine.specs.StreamSteps.{when_fresh, when_between, end_document, behind_root, outside}
use Rattle.granit_machine.specs.TokenSort.{TokenSort, BeginsNode, Token, is_dash_token, begins_pair, token_column}
use Rattle.granit_machine.specs.TokenSort.{is_in_column, ends_frame}
use Rattle.granit_lexemes.specs.PlainEvent as events
use Rattle.granit_lexemes.specs.Lexeme as lexemes
use Rattle.granit_quiet.specs.Quiet.{quiet}
use Rattle.granit_quiet.proofs.Quieting.{untold_last, flush_quiet, give_quiet, null_quiet, waits_none}
use Rattle.granit_quiet.proofs.Quieting.{finish_quiet, end_node_quiet, end_properties_quiet}
use Rattle.granit_quiet.proofs.QuietSteps.{FitsBy, Fits, Alike, alike_ok, alike_err, fits_ok, refuses, fits_if}
use Rattle.granit_quiet.proofs.QuietSteps.{fits_then, untailed_token, node_fits, in_sequence_fits, in_mapping_fits}
use Rattle.granit_quiet.proofs.QuietSteps.{in_flow_sequence_fits, flow_mapping_fits, flow_pair_fits}

-- ---- closing

ends_top_quiet : (o : OptionsData) (t : Token) (p : ParserState) (fs : List Frame)
    → ends_top (untailed_token t) (quiet o p) fs ≡ ends_top t p fs
unfolding goes_on_with
ends_top_quiet o t p [] = refl
ends_top_quiet o t p (Root explicit ∷ fs) = refl
ends_top_quiet o t p (WithProperties q ∷ fs) = refl
ends_top_quiet o t p (BlockSequence column indentless ∷ fs) =
    ap (λ b. ends_frame (token_column t) column
    || ((indentless && not (is_dash_token t.sort && is_in_column (token_column t) column))
    && (b || (is_in_column (token_column t) column && begins_pair t.sort))))
    (waits_none o.max_buffered_comment_events p.waiting)
ends_top_quiet o t p (BlockMapping column stage ∷ fs) = refl
ends_top_quiet o t p (FlowSequence b ∷ fs) = refl
ends_top_quiet o t p (FlowMapping single stage ∷ fs) = refl
ends_top_quiet o t p (FlowPair stage ∷ fs) = refl

end_top_quiet : (o : OptionsData) (t : Token) (p : ParserState) (fs : List Frame)
    → end_top o (untailed_token t) (quiet o p) fs ≡ quiet o (end_top o t p fs)
end_top_quiet o t p (Root explicit ∷ fs) = ap finish (null_quiet o p.last_end p)
    ∙ finish_quiet o (give (null_at p.last_end) p)
end_top_quiet o t p (WithProperties q ∷ fs) = end_properties_quiet o q p
end_top_quiet o t p fs = end_node_quiet o t.lexeme.start (token_start t) p

abbrev quieted : OptionsData → FeedGiven → FeedGiven
quieted o (Ok x) = Ok (x.0, quiet o x.1)
quieted o (Err f) = Err f

front_quieted : (o : OptionsData) (front : List PlainEvent) (r : FeedGiven)
    → with_front front (quieted o r) ≡ quieted o (with_front front r)
front_quieted o front (Ok x) = refl
front_quieted o front (Err f) = refl

abbrev chosen_turn : Bool → ParserState → ParserState → Closing
chosen_turn b p q = if b then Ok (Some [], q) else Ok (None, p)

abbrev Turned : OptionsData → Token → ℕ → Type 0
Turned o t n = (p : ParserState) → turns (close_turn o (untailed_token t)) n (quiet o p)
    ≡ quieted o (turns (close_turn o t) n p)

turn_quieted : (b : Bool) (o : OptionsData) (t : Token) (n : ℕ) (p : ParserState) → Turned o t n
    → (chosen_turn b (quiet o p) (end_top o (untailed_token t) (quiet o p) p.frames) >>= λ x. then_more
    (turns (close_turn o (untailed_token t)) n) x.0 x.1)
    ≡ quieted o (chosen_turn b p (end_top o t p p.frames) >>= λ x. then_more (turns (close_turn o t) n) x.0 x.1)
turn_quieted true o t n p h =
    let q = end_top o t p p.frames in
    ap (λ (x : ParserState). with_front [] (turns (close_turn o (untailed_token t)) n x)) (end_top_quiet o t p p.frames)
    ∙ ap (λ (r : FeedGiven). with_front [] r) (h q) ∙ front_quieted o [] (turns (close_turn o t) n q)
turn_quieted false o t n p h = refl

turns_quieted : (o : OptionsData) (t : Token) (n : ℕ) → Turned o t n
unfolding turns close_turn
turns_quieted o t zero p = refl
turns_quieted o t (suc n) p =
    ap (λ b. chosen_turn b (quiet o p) (end_top o (untailed_token t) (quiet o p) p.frames) >>= λ x. then_more
    (turns (close_turn o (untailed_token t)) n) x.0 x.1) (ends_top_quiet o t p p.frames)
    ∙ turn_quieted (ends_top t p p.frames) o t n p (turns_quieted o t n)

behind_quieted : (o : OptionsData) (r : FeedGiven) → Alike o (r >>= λ x. Ok x.1) (quieted o r >>= λ x. Ok x.1)
behind_quieted o (Ok x) = alike_ok o x.1 (quiet o x.1) refl
behind_quieted o (Err f) = alike_err o f

close_fits : (o : OptionsData) (t : Token) (p : ParserState)
    → Alike o (close o t p) (close o (untailed_token t) (quiet o p))
unfolding pieces
close_fits o t p =
    let r = turns (close_turn o t) (suc (depth p)) p in
    subst (λ (s : FeedGiven). Alike o (r >>= λ x. Ok x.1) (s >>= λ x. Ok x.1))
    (sym (turns_quieted o t (suc (depth p)) p)) (behind_quieted o r)

-- ---- around documents

at_root_fits : (o : OptionsData) (t : Token) (p : ParserState)
    → Fits o t.lexeme.tail (at_root o t p) (at_root o (untailed_token t) (quiet o p))
at_root_fits o t p = fits_if o _ _ _ _ _ _ refl (node_fits o t p) (refuses o _)

version_fits : (o : OptionsData) (t : Token) (v : Option PlainVersion) (major minor : ℕ) (p : ParserState)
    → Fits o t.lexeme.tail (with_version t v major minor p) (with_version (untailed_token t) v major minor (quiet o p))
version_fits o t (Some v) major minor p = refuses o _
version_fits o t None major minor p = fits_if o _ _ _ _ _ _ refl
    (fits_ok o (record p { stage = Directives (Some (record { major = major; minor = minor })) }) _ refl) (refuses o _)

handle_fits : (o : OptionsData) (t : Token) (version : Option PlainVersion) (handle prefix : List ℕ)
    (known : Option (List ℕ)) (p : ParserState)
    → Fits o t.lexeme.tail (with_handle o t version handle prefix known p)
    (with_handle o (untailed_token t) version handle prefix known (quiet o p))
handle_fits o t version handle prefix (Some known) p = refuses o _
handle_fits o t version handle prefix None p = fits_ok o
    (record (declared o.keep_tags handle prefix p) { stage = Directives version }) _ refl

open_document_fits : (o : OptionsData) (t : Token) (version : Option PlainVersion) (p : ParserState)
    → Fits o t.lexeme.tail (open_document t version p) (open_document (untailed_token t) version (quiet o p))
open_document_fits o t version p =
    let r : ParserState = record p { names = []; stage = Inside } in
    let e = event_at (events.DocumentStart true version) t.lexeme.shown in
    let root : ParserState → ParserState = λ q. record q { frames = Root true ∷ q.frames } in
    fits_ok o (root (give e r)) (root (give e (quiet o r))) (ap root (give_quiet o e r refl))

directive_fits : (o : OptionsData) (t : Token) (d : DirectiveKind) (version : Option PlainVersion) (p : ParserState)
    → Fits o t.lexeme.tail (with_directive o t d version p)
    (with_directive o (untailed_token t) d version (quiet o p))
directive_fits o t (Version major minor) version p = version_fits o t version major minor p
directive_fits o t (TagPrefix handle prefix) version p = handle_fits o t version handle prefix
    (lookup_text handle p.handles) p
directive_fits o t (Reserved name parameters) version p = fits_ok o (record p { stage = Directives version }) _ refl

directives_fits : (o : OptionsData) (kind : LexemeKind) (t : Token) (version : Option PlainVersion) (p : ParserState)
    → Fits o t.lexeme.tail (behind_directives o kind t version p)
    (behind_directives o kind (untailed_token t) version (quiet o p))
directives_fits o (lexemes.Directive d) t version p = directive_fits o t d version p
directives_fits o lexemes.DocumentStart t version p = open_document_fits o t version p
directives_fits o kind t version p = refuses o _

pub bare_start_tells : (sort : TokenSort) (t : Token) → is_note (bare_start sort t).kind ≡ false
bare_start_tells BeginsNode t = refl
bare_start_tells sort t = refl

bare_start_untailed : (sort : TokenSort) (t : Token) → bare_start sort (untailed_token t) ≡ bare_start sort t
bare_start_untailed BeginsNode t = refl
bare_start_untailed sort t = refl

begin_document_fits : (o : OptionsData) (t : Token) (p : ParserState)
    → Fits o t.lexeme.tail (begin_document o t p) (begin_document o (untailed_token t) (quiet o p))
begin_document_fits o t p =
    let r : ParserState = record p { names = []; handles = []; stage = Inside } in
    let e = bare_start t.sort t in
    let root : ParserState → ParserState = λ q. record q { frames = Root false ∷ q.frames } in
    let same : give (bare_start t.sort (untailed_token t)) (quiet o r)
    ≡ quiet o (give e r) = ap (λ (d : PlainEvent). give d (quiet o r)) (bare_start_untailed t.sort t)
    ∙ give_quiet o e r (bare_start_tells t.sort t) in
    let begun : Fits o t.lexeme.tail (node o t (root (give e r)))
    (node o (untailed_token t) (root (give (bare_start t.sort (untailed_token t)) (quiet o r)))) =
    subst (λ (q : ParserState). Fits o t.lexeme.tail (node o t (root (give e r))) (node o (untailed_token t) (root q)))
    (sym same) (node_fits o t (root (give e r))) in
    fits_if o _ _ _ _ _ _ refl begun (refuses o _)

stream_end_fits : (o : OptionsData) (t : Token) (p : ParserState)
    → Fits o t.lexeme.tail (Ok (give (event_at events.StreamEnd t.lexeme.shown) p))
    (Ok (give (event_at events.StreamEnd t.lexeme.shown) (quiet o p)))
stream_end_fits o t p = fits_ok o _ _ (give_quiet o (event_at events.StreamEnd t.lexeme.shown) p refl)

fresh_fits : (o : OptionsData) (kind : LexemeKind) (t : Token) (p : ParserState)
    → Fits o t.lexeme.tail (when_fresh o kind t p) (when_fresh o kind (untailed_token t) (quiet o p))
fresh_fits o lexemes.DocumentEnd t p = fits_ok o (flush p) (flush (quiet o p)) (flush_quiet o p)
fresh_fits o lexemes.StreamEnd t p = stream_end_fits o t p
fresh_fits o (lexemes.Directive d) t p = directive_fits o t d None (without_directives p)
fresh_fits o lexemes.DocumentStart t p = open_document_fits o t None (record p { handles = [] })
fresh_fits o kind t p = begin_document_fits o t p

between_fits : (o : OptionsData) (kind : LexemeKind) (t : Token) (p : ParserState)
    → Fits o t.lexeme.tail (when_between kind t p) (when_between kind (untailed_token t) (quiet o p))
between_fits o (lexemes.Directive d) t p = refuses o _
between_fits o lexemes.DocumentStart t p = open_document_fits o t None (record p { handles = [] })
between_fits o lexemes.StreamEnd t p = stream_end_fits o t p
between_fits o kind t p = refuses o _

document_end_quiet : (o : OptionsData) (source : Source) (stage : DocumentStage) (p : ParserState)
    → end_document source stage (quiet o p) ≡ quiet o (end_document source stage p)
document_end_quiet o source stage p = ap (λ (q : ParserState). record q { handles = []; stage = stage })
    (give_quiet o (event_at events.DocumentEnd source) p refl)

next_document_fits : (o : OptionsData) (kind : LexemeKind) (t : Token) (p : ParserState)
    → Fits o t.lexeme.tail (when_between kind t (end_document (empty_span p.last_end) Between p))
    (when_between kind (untailed_token t) (end_document (empty_span p.last_end) Between (quiet o p)))
next_document_fits o kind t p =
    let q = end_document (empty_span p.last_end) Between p in
    subst (λ (x : ParserState). Fits o t.lexeme.tail (when_between kind t q) (when_between kind (untailed_token t) x))
    (sym (document_end_quiet o (empty_span p.last_end) Between p)) (between_fits o kind t q)

behind_root_fits : (o : OptionsData) (kind : LexemeKind) (t : Token) (p : ParserState)
    → Fits o t.lexeme.tail (behind_root kind t p) (behind_root kind (untailed_token t) (quiet o p))
behind_root_fits o lexemes.DocumentEnd t p = fits_ok o (end_document t.lexeme.shown Fresh p)
    (end_document t.lexeme.shown Fresh (quiet o p)) (document_end_quiet o t.lexeme.shown Fresh p)
behind_root_fits o kind t p = next_document_fits o kind t p

outside_fits : (o : OptionsData) (stage : DocumentStage) (t : Token) (p : ParserState)
    → Fits o t.lexeme.tail (outside o stage t p) (outside o stage (untailed_token t) (quiet o p))
outside_fits o Fresh t p = fresh_fits o t.lexeme.kind t p
outside_fits o (Directives version) t p = directives_fits o t.lexeme.kind t version p
outside_fits o BehindRoot t p = behind_root_fits o t.lexeme.kind t p
outside_fits o Between t p = between_fits o t.lexeme.kind t p
outside_fits o Inside t p = refuses o _

-- ---- a token at the open place

take_in_fits : (o : OptionsData) (fs : List Frame) (t : Token) (p : ParserState)
    → Fits o t.lexeme.tail (take_in o fs t p) (take_in o fs (untailed_token t) (quiet o p))
take_in_fits o [] t p = outside_fits o p.stage t p
take_in_fits o (Root explicit ∷ fs) t p = at_root_fits o t p
take_in_fits o (WithProperties q ∷ fs) t p = node_fits o t p
take_in_fits o (BlockSequence column indentless ∷ fs) t p = in_sequence_fits o t column indentless p
take_in_fits o (BlockMapping column stage ∷ fs) t p = in_mapping_fits o t column stage p
take_in_fits o (FlowSequence behind_entry ∷ fs) t p = in_flow_sequence_fits o t behind_entry p
take_in_fits o (FlowMapping single stage ∷ fs) t p = flow_mapping_fits o t single stage p
take_in_fits o (FlowPair stage ∷ fs) t p = flow_pair_fits o t stage t.sort p

-- ---- comments

-- a comment leaves all else as it was, unless too many are held
abbrev pub Stays : OptionsData → ParserState → Stepped → Type 0
Stays o p (Ok q) = quiet o q ≡ quiet o p
Stays o p (Err f) = f.kind ≡ TooManyComments

hold_stays : (o : OptionsData) (c : CommentRead) (e : PlainEvent) (w : Option Waiting) (p : ParserState)
    → is_note e.kind ≡ true → Stays o (record p { waiting = w }) (hold c e w (record p { waiting = w }))
hold_stays o c e None p h = ap (λ es. record (quiet o p) { waiting = None; given = es }) (untold_last p.given e h)
hold_stays o c e (Some w) p h = on (w.room == 0)
  where
    on : (b : Bool) → Stays o (record p { waiting = Some w })
        (if b then Err (record { kind = TooManyComments; mark = c.source.start; sources = [] }) else Ok
        (record p { waiting = Some (record w { room = w.room - 1; held = w.held ++ e ∷ [] }) }))
    on true = refl
    on false = ap (λ es. record (quiet o p) {
      waiting = Some
          (record { at = w.at; room = o.max_buffered_comment_events; held = es });
    }) (untold_last w.held e h)

pub comment_stays : (o : OptionsData) (c : CommentRead) (next : Option ℕ) (p : ParserState)
    → Stays o p (take_comment c next p)
comment_stays o c next p = hold_stays o c (event_at (events.Comment c.text (placed c next)) c.source) p.waiting p refl

-- ---- a lexeme with its tail

abbrev pub LexemeFitsBy : OptionsData → Stepped → Stepped → Type 0
LexemeFitsBy o (Ok p) r = r ≡ Ok (quiet o p)
LexemeFitsBy o (Err f) r = (f.kind ≡ TooManyComments) ⊎ (r ≡ Err f)

pub record LexemeFits (o : OptionsData) (r s : Stepped) : Type 0 where
  pub says : LexemeFitsBy o r s

lexeme_ok : (o : OptionsData) (p q : ParserState) → q ≡ quiet o p → LexemeFits o (Ok p) (Ok q)
lexeme_ok o p q e = record { says = ap (λ (x : ParserState). let r : Stepped = Ok x in r) e }

stays_fits : (o : OptionsData) (p : ParserState) (r : Stepped) → Stays o p r → LexemeFits o r (Ok (quiet o p))
stays_fits o p (Ok q) e = lexeme_ok o q (quiet o p) (sym e)
stays_fits o p (Err f) e = record { says = inl e }

tail_fits : (o : OptionsData) (kind : LexemeKind) (tail : Option CommentRead) (next line : Option ℕ) (p : ParserState) →
    LexemeFits o (take_tail kind tail next p) (take_tail kind None line (quiet o p))
tail_fits o Dash tail next line p = lexeme_ok o p (quiet o p) refl
tail_fits o kind None next line p = lexeme_ok o p (quiet o p) refl
tail_fits o kind (Some c) next line p = stays_fits o p (take_comment c next p) (comment_stays o c next p)

pub dash_kind : (o : OptionsData) (tail : Option CommentRead) (f : Fault) → dash_room o tail ≡ Err f →
    f.kind ≡ TooManyComments
dash_kind o None f e = absurd cc
dash_kind o (Some c) f e = on (o.max_buffered_comment_events == 0) e
  where
    on :
        (b : Bool) →
        (if b then Err (record { kind = TooManyComments; mark = c.source.start; sources = [] })
        else Ok (o.max_buffered_comment_events - 1)) ≡ Err f → f.kind ≡ TooManyComments
    on true e = let same : record { kind = TooManyComments; mark = c.source.start; sources = [] } ≡ f = cc (e) in
        ap (λ (f : Fault). f.kind) (sym same)
    on false e = absurd cc

pub token_fits : (o : OptionsData) (t : Token) (p : ParserState) →
    Fits o t.lexeme.tail (close o t p >>= take_token o t)
    (close o (untailed_token t) (quiet o p) >>= take_token o (untailed_token t))
token_fits o t p =
    fits_then o (close o t p) (close o (untailed_token t) (quiet o p)) (take_token o t)
    (take_token o (untailed_token t))
    (close_fits o t p) (λ q. take_in_fits o q.frames t q)

then_tail :
    (o : OptionsData) (tail : Option CommentRead) (r s : Stepped) (f g : ParserState → Stepped) → FitsBy o tail r s →
    ((p : ParserState) → LexemeFits o (f p) (g (quiet o p))) → LexemeFits o (r >>= f) (s >>= g)
then_tail o tail (Ok p) s f g e h = subst (λ (s : Stepped). LexemeFits o (f p) (s >>= g)) (sym e) (h p)
then_tail o tail (Err x) s f g (inl e) h = record { says = inl (dash_kind o tail x e.refused) }
then_tail o tail (Err x) s f g (inr e) h = record { says = inr (ap (λ (s : Stepped). s >>= g) e) }

pub lexeme_fits : (o : OptionsData) (t : Token) (next line : Option ℕ) (p : ParserState) →
    LexemeFits o (take_lexeme o t next p) (take_lexeme o (untailed_token t) line (quiet o p))
lexeme_fits o t next line p =
    let x = token_fits o t p in
    then_tail o t.lexeme.tail (close o t p >>= take_token o t)
    (close o (untailed_token t) (quiet o p) >>= take_token o (untailed_token t))
    (take_tail t.lexeme.kind t.lexeme.tail next) (take_tail t.lexeme.kind None line) x.says
    (λ q. tail_fits o t.lexeme.kind t.lexeme.tail next line q)
