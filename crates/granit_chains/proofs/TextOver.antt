-- Where reading goes on and nothing of the text is left, no document is told of.
use Rattle.std.proofs.Common.{◌≡◌, ℕ, suc, Bool, true, false, [], ◌∷◌, Option, None, Result, Ok, refl, ap, ◌∙◌}
use Rattle.granit_error.specs.OptionsData.{OptionsData}
use Rattle.granit_lexemes.specs.Comment.{CommentRead}
use Rattle.granit_lexemes.specs.Here.{Here, text_len}
use Rattle.granit_lexemes.specs.Lexeme.{Lexeme, LexemeKind, OfLexeme, StreamEnd}
use Rattle.granit_lexemes.specs.Outcome.{Fault}
use Rattle.granit_machine.specs.Reader.{behind_read, lex_turn}
use Rattle.granit_machine.specs.ReaderState.{Read, ReaderState}
use Rattle.granit_restart.specs.Following.{document_follows, past_items, past_lexeme, past_read, past_reads}
use Rattle.granit_restart.specs.Restart.{anew}
use Rattle.granit_alone.proofs.FaultLaws.{laid_at}
use Rattle.granit_alone.proofs.FaultLaws.{end_is_read, ReadsEnd}
use Rattle.granit_steps.specs.Steps.{incoming, StepState}

kind_told : (kind : LexemeKind) (room : ℕ) (tail : Option CommentRead) (more : ℕ → Result Bool Fault)
    → kind ≡ StreamEnd → past_lexeme room kind tail more ≡ Ok false
kind_told StreamEnd room tail more e = refl
kind_told kind room tail more e = absurd (cc)

told_of : (b : Bool) (room : ℕ) (l : Lexeme) (more : ℕ → Result Bool Fault) → l.kind ≡ StreamEnd
    → past_items room (incoming b (OfLexeme l ∷ [])) more ≡ Ok false
told_of true room l more e = kind_told l.kind room l.tail (λ room. past_items room [] more) e
told_of false room l more e = kind_told l.kind room None (λ room. past_items room [] more) e

none_told : (o : OptionsData) (may : Bool) (h : Here) (s : StepState) (room : ℕ)
    → ReadsEnd o (suc s.reading.reader.laid.number) may h → document_follows o room (anew may [] h s) ≡ Ok false
unfolding document_follows lex_turn
none_told o may h s room e =
    let reader : ReaderState = record { here = h; laid = laid_at (suc s.reading.reader.laid.number) may } in
    let later = past_reads o (suc (text_len h)) in
    ap (λ (r : Read). past_read o later room (behind_read r reader)) e
    ∙ told_of o.emit_comments room _ _ refl

-- so recovery answers false
pub over_tells : (o : OptionsData) (may : Bool) (h : Here) (s : StepState) (room : ℕ) → h.unread.text ≡ []
    → document_follows o room (anew may [] h s) ≡ Ok false
over_tells o may h s room e =
    none_told o may h s room (end_is_read o (suc s.reading.reader.laid.number) may h e)
