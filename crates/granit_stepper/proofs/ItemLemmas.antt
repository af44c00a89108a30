-- An item that the parser takes, by what is answered.
use Rattle.std.proofs.Common.{◌≡◌, ◌⊎◌, inl, inr, ℕ, ◌<◌, ◌-◌, ◌^◌, Bool, true, false, [], Option, Some, None}
use Rattle.std.proofs.Common.{Result, Ok, Err}
use Rattle.std.proofs.Common.{refl, sym, ap, subst, ◌∙◌}
use Rattle.granit_base.specs.Place.{Mark, Unread}
use Rattle.granit_cursor.specs.Reading.{GivesTo}
use Rattle.granit_error.specs.FaultKind.{NoMemory}
use Rattle.granit_error.specs.OptionsData.{OptionsData}
use Rattle.granit_error.specs.Refused.{Refused}
use Rattle.granit_feed.specs.Handles.{KeepsIfRefused, holds_directive, is_directive}
use Rattle.granit_lexemes.specs.Lexeme.{Anchor, Item, LexemeKind, OfComment, OfLexeme}
use Rattle.granit_lexemes.specs.Outcome.{Fails}
use Rattle.granit_machine.specs.Frames.{ParserState}
use Rattle.granit_machine.specs.Leaving.{LeavesIfRoom}
use Rattle.granit_machine.specs.Lexing.{FlaggedItem}
use Rattle.granit_machine.specs.Parser.{take_item}
use Rattle.granit_restart.specs.Header.{is_start_expected}
use Rattle.granit_stepper.specs.Numbers.{GetsLast, IsAnchorStart, IsNumberless, UnlessNumberless, anchor_start}
use Rattle.granit_stepper.specs.Numbers.{is_anchor, start_if}
use Rattle.granit_refusals.specs.BeforeTurn.{IsBeforeItem}
use Rattle.granit_stepper.specs.Refusals.{RefusedItem}
use Rattle.granit_stepper.specs.Stepping.{StandsIn, Stepping, feed_item, turn_view}
use Rattle.granit_refusals.specs.declared.refusal.Refusal.{Refusal}
use Rattle.granit_stepper.proofs.FrontLemmas.{before_alike}
use Rattle.granit_stepper.proofs.StateLemmas.{feed_fails, feeds, feeds_last}
use Rattle.granit_steps.specs.Steps.{StepState}

pub left_ok : (r : Result (Unit {0}) Refused) (p : ParserState) (given : Result ParserState Refused)
    → LeavesIfRoom r p given → r ≡ Ok tt → given ≡ Ok p
left_ok (Ok u) p given left is = left
left_ok (Err e) p given left is = absurd (cc)

left_err : (r : Result (Unit {0}) Refused) (p : ParserState) (given : Result ParserState Refused) (e : Refused)
    → LeavesIfRoom r p given → r ≡ Err e → Fails e given
left_err (Ok u) p given e left is = absurd (cc)
left_err (Err f) p given e left is = let same : f ≡ e = cc in subst (λ (d : Refused). Fails d given) same left

module _ {I : Type 0} (unread : I → Unread → Type 0) (s : Stepping I) (m : StepState) (at : StandsIn unread s m)
    (o : OptionsData) (x : FlaggedItem × Option ℕ) (after : ParserState) (told : s.first ≡ None) (none : m.pending ≡ [])
    (r : Result (Unit {0}) Refused)
    (fed : LeavesIfRoom r after (take_item o x.0.item x.0.begins_key x.1 s.parser)) where
  abbrev fed_to : Stepping I
  fed_to = record s { parser = after }

  pub item_fed : (start : Option Mark) → UnlessNumberless fed_to r start (Ok tt)
      → GivesTo turn_view (Ok true) (StandsIn unread fed_to) (feed_item o x m)
  item_fed start given = feeds unread s m at o x after told none
      (left_ok r after (take_item o x.0.item x.0.begins_key x.1 s.parser) fed given.0) given.1

  module _ (start : Option Mark) (is : IsAnchorStart start x.0.item) (e : Refused)
      (given : UnlessNumberless fed_to r start (Err e)) where
    pub item_not_fed : Fails e (feed_item o x m) ⊎ ((s.renumbered ≡ true) × GetsLast o x m.parser e)
    item_not_fed = elim given [
      | inl err ↦ inl (feed_fails unread s m at o x e told none
          (left_err r after (take_item o x.0.item x.0.begins_key x.1 s.parser) e fed err))
      | inr last ↦ feeds_last unread s m at o x after start e told none
          (left_ok r after (take_item o x.0.item x.0.begins_key x.1 s.parser) fed last.0) last.1 is last.2
    ]

    -- what is known where it is refused
    pub item_kept : (e.kind ≡ NoMemory → ⊥) → (refusal : Refusal) → IsBeforeItem s.parser x.0.item refusal
        → (kept : Option Refusal)
        → kept ≡ Some (record refusal { expects_start = is_start_expected e }) → after.kept ≡ s.parser.kept
        → o ≡ s.scanner.options
        → RefusedItem unread x (record s { parser = record after { given = [] }; refusal = kept }) m e
    item_kept other refusal before kept is_kept tags options = record {
      refusal = record refusal { expects_start = is_start_expected e };
      is_kept = is_kept;
      told = told;
      is_before = before_alike m.parser s.parser x.0.item refusal at.parser before;
      expects = refl;
      known = at.reading;
      fails = subst (λ (p : OptionsData). (feed_item p x m ≡ Err e)
          ⊎ ((s.renumbered ≡ true) × GetsLast p x m.parser e)) options (elim item_not_fed [
            | inl fails ↦ inl (fails other)
            | inr last ↦ inr last
          ]);
      none_given = refl;
      tags = tags ∙ sym (ap (λ (p : ParserState). p.kept) at.parser);
      numbers = subst (λ (n : ℕ). n < 2 ^ 64 - 1) (sym (ap (λ (p : ParserState). p.count) at.parser)) at.numbers;
    }

-- ---- the handles that stay over documents

no_directive : (k : LexemeKind) → is_anchor k ≡ true → is_directive k ≡ false
no_directive (Anchor name) is = refl
no_directive kind is = absurd (cc)

start_anchor : (b : Bool) (mark start : Mark) → Some start ≡ start_if b mark → b ≡ true
start_anchor true mark start is = refl
start_anchor false mark start is = absurd (cc)

anchor_alone : (i : Item) (start : Mark) → Some start ≡ anchor_start i → holds_directive i ≡ false
anchor_alone (OfLexeme l) start is =
    no_directive l.kind (start_anchor (is_anchor l.kind) l.shown.start start is)
anchor_alone (OfComment c) start is = refl

-- where the greatest number was given the item is an anchor, unless memory ran out
numberless_anchor : (renumbered : Bool) (i : Item) (start : Option Mark) (e : Refused) → IsAnchorStart start i
    → IsNumberless renumbered start e → (e.kind ≡ NoMemory → ⊥) → holds_directive i ≡ false
numberless_anchor true i (Some start) e is why other = anchor_alone i start (sym is)
numberless_anchor true i None e is why other = absurd (other why)
numberless_anchor false i start e is why other = absurd (other why)

pub item_tags : {I : Type 0} (s : Stepping I) (i : Item) (p q : ParserState) (r : Result (Unit {0}) Refused)
    (start : Option Mark) (e : Refused) → IsAnchorStart start i → UnlessNumberless s r start (Err e)
    → (e.kind ≡ NoMemory → ⊥) → (holds_directive i ≡ false → q.kept ≡ p.kept) → KeepsIfRefused r p q
    → q.kept ≡ p.kept
item_tags s i p q r start e is (inl err) other kept refused = refused e err other
item_tags s i p q r start e is (inr last) other kept refused =
    kept (numberless_anchor s.renumbered i start e is last.2 other)
