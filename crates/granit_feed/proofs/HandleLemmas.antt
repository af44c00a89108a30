-- Behind a directive that was taken no comment is refused for want of room: outside all nodes nothing waits for one.
use Rattle.std.proofs.Common.{◌≡◌, ℕ, Bool, true, false, ◌==◌, List, [], ◌∷◌, Option, Some, None, Result, Ok, Err, refl}
use Rattle.std.proofs.Common.{sym, ap, ◌∙◌}
use Rattle.std.specs.Prelude.{if◌then◌else◌}
use Rattle.granit_error.specs.FaultKind.{UnsupportedYamlMajorVersion}
use Rattle.granit_error.specs.OptionsData.{OptionsData}
use Rattle.granit_error.specs.Refused.{Refused}
use Rattle.granit_lexemes.specs.Comment.{CommentRead}
use Rattle.granit_lexemes.specs.Lexeme as lexemes
use Rattle.granit_lexemes.specs.Lexeme.{DirectiveKind, Version, TagPrefix, Reserved, LexemeKind, is_directive}
use Rattle.granit_lexemes.specs.Outcome.{Fault}
use Rattle.granit_lexemes.specs.PlainEvent.{PlainEvent, PlainVersion}
use Rattle.granit_machine.specs.Entries.{lookup_text}
use Rattle.granit_machine.specs.Frames.{Frame, DocumentStage, Fresh, Directives, Inside, BehindRoot, Between, Waiting}
use Rattle.granit_machine.specs.Frames.{ParserState}
use Rattle.granit_machine.specs.Leaving.{LeavesIfRoom}
use Rattle.granit_machine.specs.NodeSteps.{Stepped, misplaced}
use Rattle.granit_machine.specs.Parser.{hold, take_in, take_token}
use Rattle.granit_machine.specs.StreamSteps.{behind_directives, behind_root, outside, when_between}
use Rattle.granit_machine.specs.StreamSteps.{when_fresh, with_directive, with_handle, with_version, without_directives}
use Rattle.granit_machine.specs.TokenSort.{Token}
use Rattle.granit_frames.specs.Outside.{NoneWaitsOutside}
use Rattle.granit_feed.specs.Handles.{KeepsIfRefused}
use Rattle.granit_feed.specs.Tails.{tail_taken}

-- what waits in the state that a step leaves, where it leaves one
abbrev Waits : Option Waiting → Stepped → Type 0
Waits w (Ok p) = p.waiting ≡ w
Waits w (Err f) = Unit {0}

first_version : (b : Bool) (t : Token) (p : ParserState)
    → Waits p.waiting (if b then Ok p else misplaced UnsupportedYamlMajorVersion t)
first_version true t p = refl
first_version false t p = tt

version_waits : (t : Token) (version : Option PlainVersion) (major minor : ℕ) (p : ParserState)
    → Waits p.waiting (with_version t version major minor p)
version_waits t None major minor p = first_version (major == 1) t
    (record p { stage = Directives (Some (record { major = major; minor = minor })) })
version_waits t (Some v) major minor p = tt

handle_waits : (o : OptionsData) (t : Token) (version : Option PlainVersion) (handle prefix : List ℕ)
    (known : Option (List ℕ)) (p : ParserState) → Waits p.waiting (with_handle o t version handle prefix known p)
handle_waits o t version handle prefix None p = refl
handle_waits o t version handle prefix (Some known) p = tt

directive_waits : (o : OptionsData) (t : Token) (d : DirectiveKind) (version : Option PlainVersion) (p : ParserState)
    → Waits p.waiting (with_directive o t d version p)
directive_waits o t (Version major minor) version p = version_waits t version major minor p
directive_waits o t (TagPrefix handle prefix) version p =
    handle_waits o t version handle prefix (lookup_text handle p.handles) p
directive_waits o t (Reserved name parameters) version p = refl

fresh_waits : (o : OptionsData) (kind : LexemeKind) (t : Token) (p : ParserState) → is_directive kind ≡ true
    → Waits p.waiting (when_fresh o kind t p)
fresh_waits o (lexemes.Directive d) t p is = directive_waits o t d None (without_directives p)
fresh_waits o kind t p is = absurd (cc)

declared_waits : (o : OptionsData) (kind : LexemeKind) (t : Token) (version : Option PlainVersion) (p : ParserState)
    → is_directive kind ≡ true → Waits p.waiting (behind_directives o kind t version p)
declared_waits o (lexemes.Directive d) t version p is = directive_waits o t d version p
declared_waits o kind t version p is = absurd (cc)

between_waits : (kind : LexemeKind) (t : Token) (w : Option Waiting) (p : ParserState) → is_directive kind ≡ true
    → Waits w (when_between kind t p)
between_waits (lexemes.Directive d) t w p is = tt
between_waits kind t w p is = absurd (cc)

root_waits : (kind : LexemeKind) (t : Token) (p : ParserState) → is_directive kind ≡ true
    → Waits p.waiting (behind_root kind t p)
root_waits (lexemes.Directive d) t p is = tt
root_waits kind t p is = absurd (cc)

outside_waits : (o : OptionsData) (stage : DocumentStage) (t : Token) (p : ParserState)
    → is_directive t.lexeme.kind ≡ true → Waits p.waiting (outside o stage t p)
outside_waits o Fresh t p is = fresh_waits o t.lexeme.kind t p is
outside_waits o (Directives version) t p is = declared_waits o t.lexeme.kind t version p is
outside_waits o BehindRoot t p is = root_waits t.lexeme.kind t p is
outside_waits o Between t p is = between_waits t.lexeme.kind t p.waiting p is
outside_waits o Inside t p is = tt

-- ---- a comment behind it

held_free : (c : CommentRead) (e : PlainEvent) (w : Option Waiting) (p : ParserState) (f : Fault) → w ≡ None
    → hold c e w p ≡ Err f → ⊥
held_free c e None p f none is = absurd (cc)
held_free c e (Some w) p f none is = absurd (cc)

tail_free : (tail : Option CommentRead) (next : Option ℕ) (p : ParserState) (f : Fault) → p.waiting ≡ None
    → tail_taken tail next p ≡ Err f → ⊥
tail_free None next p f none is = absurd (cc)
tail_free (Some c) next p f none is = held_free c _ p.waiting p f none is

module _ (o : OptionsData) (t : Token) (next : Option ℕ) (before closed taken after : ParserState)
    (is : take_token o t closed ≡ Ok taken) (same : closed.kept ≡ before.kept) (left : after.kept ≡ taken.kept)
    (kept : is_directive t.lexeme.kind ≡ false → taken.kept ≡ closed.kept)
    (inside : (closed.frames ≡ [] → ⊥) → taken.kept ≡ closed.kept) (free : NoneWaitsOutside closed) where
  waits_outside : closed.frames ≡ [] → is_directive t.lexeme.kind ≡ true → taken.waiting ≡ None
  waits_outside outer directs =
      let stays : Waits closed.waiting (outside o closed.stage t closed) =
      outside_waits o closed.stage t closed directs in
      let out : outside o closed.stage t closed ≡ Ok taken =
      sym (ap (λ (fs : List Frame). take_in o fs t closed) outer) ∙ is in
      let some : Waits closed.waiting (Ok taken) = rw out at stays in
      some ∙ free outer

  module _ (tail : Option CommentRead) (e : Refused) (fails : tail_taken tail next taken ≡ Err e) where
    of_kind : (b : Bool) → is_directive t.lexeme.kind ≡ b → closed.frames ≡ [] → taken.kept ≡ closed.kept
    of_kind true directs outer = absurd (tail_free tail next taken e (waits_outside outer directs) fails)
    of_kind false other outer = kept other

    of_frames : (fs : List Frame) → closed.frames ≡ fs → taken.kept ≡ closed.kept
    of_frames [] outer = of_kind (is_directive t.lexeme.kind) refl outer
    of_frames (f ∷ fs) inner = inside (λ outer. absurd (cc))

  -- a comment that is refused behind a lexeme
  pub tail_keeps : {X : Type 0} (tail : Option CommentRead) (r : Result X Refused)
      → LeavesIfRoom r after (tail_taken tail next taken) → KeepsIfRefused r before after
  tail_keeps tail (Ok x) fed = λ e answer other. absurd (cc)
  tail_keeps tail (Err f) fed = λ e answer other.
      let alike : f ≡ e = cc in
      let fails = fed (λ memory. other (ap (λ (r : Refused). r.kind) (sym alike) ∙ memory)) in
      left ∙ of_frames tail f fails closed.frames refl ∙ same
