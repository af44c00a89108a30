-- A run where nothing is lent.
use Rattle.std.proofs.Common.{◌≡◌, Bool, true, false, List, [], ◌∷◌, Option, Some, None, Result, Ok, inl, inr}
use Rattle.std.proofs.Common.{◌⊎◌, refl, sym, ap, ap₂, ◌∙◌, subst, if◌then◌else◌}
use Rattle.std.proofs.Math.Bool.{and-false}
use Rattle.granit_base.specs.Place.{Mark}
use Rattle.granit_base.specs.Written.{Written}
use Rattle.granit_error.specs.OptionsData.{OptionsData}
use Rattle.granit_lexemes.specs.Here.{Here}
use Rattle.granit_lexemes.specs.Outcome.{Fault}
use Rattle.granit_lexemes.specs.PlainEvent.{EventKind, PlainEvent}
use Rattle.granit_lexemes.specs.PlainEvent as events
use Rattle.granit_machine.specs.Machine.{run_from}
use Rattle.granit_offsets.specs.Lending.{but_lending, lending_nothing, OwnsText, OwnTexts}
use Rattle.granit_feeding.specs.Offsets.{is_empty_node, bare_text, bare_kind, bare_events, bare_answer, bare_here}
use Rattle.granit_feeding.specs.Offsets.{bare_mark_of}
use Rattle.granit_offsets.proofs.BareRun.{run_bare, runs_alike}

same_tab : (t : Option Mark) → bare_mark_of but_lending t ≡ t
same_tab None = refl
same_tab (Some m) = refl

lent_here : (h : Here) → bare_here but_lending h ≡ lending_nothing h
lent_here h = ap₂ (λ (b : Bool) (t : Option Mark). let g : Here = record h {
  unread = record (h.unread) { lends = b };
  tab = t;
} in g) (and-false h.unread.lends) (same_tab h.tab)

pub run_owned : (o : OptionsData) (h : Here)
    → run_from o (lending_nothing h) ≡ bare_answer but_lending (run_from o h)
run_owned o h = ap (run_from o) (sym (lent_here h)) ∙ run_bare but_lending o h

pub lent_alike : (o : OptionsData) (g h : Here) → lending_nothing g ≡ lending_nothing h
    → bare_answer but_lending (run_from o g) ≡ bare_answer but_lending (run_from o h)
lent_alike o g h e = runs_alike but_lending o g h (lent_here g ∙ e ∙ sym (lent_here h))

-- ---- what is owned

scalar_owned : (b : Bool) (text : Written)
    → ((if b then text else bare_text but_lending text).is_borrowed ≡ false) ⊎ (b ≡ true)
scalar_owned true text = inr refl
scalar_owned false text = inl (and-false text.is_borrowed)

kind_owned : (start end : Mark) (kind : EventKind) → OwnsText start end (bare_kind but_lending start end kind)
kind_owned start end (events.Anchor n name) = and-false name.is_borrowed
kind_owned start end (events.UnresolvedAlias name) = and-false name.is_borrowed
kind_owned start end (events.Comment text placement) = and-false text.is_borrowed
kind_owned start end (events.Scalar text style n tag) = scalar_owned (is_empty_node style start end) text
kind_owned start end kind = tt

events_owned : (es : List PlainEvent) → OwnTexts (bare_events but_lending es)
events_owned [] = tt
events_owned (e ∷ es) = (kind_owned e.span.start e.span.end e.kind, events_owned es)

unlent : (h : Here) → h.unread.lends ≡ false → lending_nothing h ≡ h
unlent h e = ap (λ (b : Bool). let g : Here = record h { unread = record (h.unread) { lends = b } } in g) (sym e)

pub texts_owned : (o : OptionsData) (h : Here) (es : List PlainEvent) → h.unread.lends ≡ false
    → run_from o h ≡ Ok es → OwnTexts es
texts_owned o h es e r =
    let s : ◌≡◌ {A = Result (List PlainEvent) Fault} (Ok es) (Ok (bare_events but_lending es)) =
    sym r ∙ sym (ap (run_from o) (unlent h e)) ∙ run_owned o h ∙ ap (bare_answer but_lending) r in
    let same : bare_events but_lending es ≡ es = cc in
    subst OwnTexts same (events_owned es)
