use Rattle.std.proofs.Common.{◌≡◌, Option, Ok, Bool, true, add-one, inl, inr, refl, sym, ap, subst, ◌∙◌, arith}
use Rattle.std.specs.List.{slice_get}
use Rattle.granit_error.specs.OptionsData.{OptionsData}
use Rattle.granit_input.proofs.OriginLemmas.{goes_nowhere, goes_on}
use Rattle.granit_stepper.proofs.CalmLemmas.{nothing_waits_outside}
use Rattle.granit_stepper.proofs.HoldingLemmas.{held_full, held_none, held_other, held_stream}
use Rattle.granit_stepper.proofs.LookLemmas as look
use Rattle.granit_stepper.proofs.SettleLemmas.{keeps_both, keeps_itself}
use Rattle.granit_stepper.specs.Holding.{HoldsFault}
use Rattle.granit_stepper.specs.Recovering.{LooksOn, front_in}
use Rattle.granit_stepper.specs.Stepping.{Stepping}
use Rattle.granit_stepper.specs.declared.recovery.Front.TheVariants as fronts
use Rattle.granit_stepper.proofs.stepper.Stepper.document_follows.Goals as goal
use Rattle.granit_stepper.proofs.stepper.Stepper.document_follows.Goals.{in-Comment+else-kept-room}
use Rattle.granit_stepper.proofs.stepper.Stepper.document_follows.Goals.{in-None+in_ok-look_on-in-None+in-None-2}

pub turns-init : goal.turns-init
turns-init g c = record {
  along = λ m stands told turned. look.looks_first g.T.Input.unread c.args.self.now.scanner.options c.args.room
      c.args.self.now m stands turned;
  held = λ m e h. (refl, tt);
  within = omega arith;
  keeps = keeps_itself c.args.self.now;
  moves = (omega arith, goes_nowhere _, λ start before. before);
}

pub returns-in-StreamEnd-clause-known : goal.returns-in-StreamEnd-clause-known
returns-in-StreamEnd-clause-known g c = λ m stands told turned.
    let o = c.args.self.now.scanner.options in
    look.looks_stream g.T.Input.unread o c.args.room c.turns.self m c.turns.kept
    (c.turns.invariant.along m stands told turned) (c.turns.invariant.keeps.first ∙ told) c.turns.invariant.within
    c.in-StreamEnd.ensures

pub returns-then-kept-room-clause-known : goal.returns-then-kept-room-clause-known
returns-then-kept-room-clause-known g c = λ m stands told turned other.
    let o = c.args.self.now.scanner.options in
    look.looks_full g.T.Input.unread o c.args.room c.turns.self m c.turns.kept
    (c.turns.invariant.along m stands told turned) (c.turns.invariant.keeps.first ∙ told) c.turns.invariant.within
    c.in-Comment.ensures c.if-kept-room.true c.too_many.result c.too_many.ensures

pub returns-in-Some-clause-known : goal.returns-in-Some-clause-known
returns-in-Some-clause-known g c = λ m stands told turned.
    let unread = g.T.Input.unread in
    let o = c.args.self.now.scanner.options in
    let s = c.turns.self in
    let inv = c.turns.invariant in
    let k = inv.along m stands told turned in
    let first = inv.keeps.first ∙ told in
    let new = c.look_on.new.self in
    let waits = look.looks_none unread o c.args.room s m c.turns.kept k first inv.within c.in-None.ensures in
    let given = subst (λ (p : OptionsData). LooksOn unread p c.in_ok-look_on-in-None.field-0 new k.at) inv.keeps.options
    (c.in_ok-look_on-in-None.ensures.known k.at k.stands first (nothing_waits_outside o k.at k.turned)) in
    look.looks_known unread o c.args.room s m c.turns.kept k waits.0 waits.1 new c.in-Some.follows
    (subst (λ (r : Option Bool). LooksOn unread o r new k.at) c.in-Some.is given)

pub returns-in-DocumentEnd-clause-known : goal.returns-in-DocumentEnd-clause-known
returns-in-DocumentEnd-clause-known g c = λ m stands told turned.
    let unread = g.T.Input.unread in
    let o = c.args.self.now.scanner.options in
    let s = c.turns.self in
    let inv = c.turns.invariant in
    look.looks_other unread o c.args.room s m c.turns.kept (inv.along m stands told turned) (inv.keeps.first ∙ told)
    inv.within fronts.DocumentEnd c.in-DocumentEnd.ensures (inr refl)

pub returns-in-Another-clause-known : goal.returns-in-Another-clause-known
returns-in-Another-clause-known g c = λ m stands told turned.
    let unread = g.T.Input.unread in
    let o = c.args.self.now.scanner.options in
    let s = c.turns.self in
    let inv = c.turns.invariant in
    look.looks_other unread o c.args.room s m c.turns.kept (inv.along m stands told turned) (inv.keeps.first ∙ told)
    inv.within fronts.Another c.in-Another.ensures (inl refl)

pub turns-preserved : goal.turns-preserved
turns-preserved g c =
    let unread = g.T.Input.unread in
    let o = c.args.self.now.scanner.options in
    let s = c.turns.self in
    let inv = c.turns.invariant in
    elim c.match-front_event.branch [
      | in-Comment+else-kept-room w ↦ rw (w.self-is, w.kept-is, add-one) (record {
        along = λ m stands told turned. look.looks_past unread o c.args.room s m c.turns.kept
            (inv.along m stands told turned) (inv.keeps.first ∙ told) inv.within w.in-Comment.ensures;
        held = λ m e h.
            let k = inv.held m e h in (
              k.0,
              look.notes_past c.turns.kept c.args.self.now.parser.given k.1
                  (ap (λ (t : Stepping g.row.T.Denot). front_in (slice_get t.parser.given c.turns.kept)) (sym k.0)
                  ∙ sym w.in-Comment.ensures),
            );
        within = w.if-kept-room.false;
        keeps = inv.keeps;
        moves = inv.moves;
      })
      | in-None+in_ok-look_on-in-None+in-None-2 w ↦ rw (w.self-is, w.kept-is) (record {
        along = λ m stands told turned.
            let k = inv.along m stands told turned in
            let first = inv.keeps.first ∙ told in
            let new = w.look_on.new.self in
            let waits = look.looks_none unread o c.args.room s m c.turns.kept k first inv.within w.in-None.ensures in
            let given = subst (λ (p : OptionsData). LooksOn unread p w.in_ok-look_on-in-None.field-0 new k.at)
            inv.keeps.options (w.in_ok-look_on-in-None.ensures.known k.at k.stands first
            (nothing_waits_outside o k.at k.turned)) in
            look.looks_more unread o c.args.room s m c.turns.kept k waits.0 waits.1 new
            (subst (λ (r : Option Bool). LooksOn unread o r new k.at) w.in-None-2.is given);
        held = λ m e h.
            let here = subst (λ (t : Stepping g.row.T.Denot). HoldsFault unread t m e) (sym (inv.held m e h).0) h in
            absurd (let clash = sym w.in-None-2.is ∙ (w.in_ok-look_on-in-None.ensures.held m e here).0 in cc);
        within = inv.within;
        keeps = keeps_both c.args.self.now s w.look_on.new.self inv.keeps w.in_ok-look_on-in-None.ensures.keeps;
        moves = (
          omega (arith, inv.moves.0, w.in_ok-look_on-in-None.ensures.moves.0),
          goes_on _ _ _ inv.moves.1 w.in_ok-look_on-in-None.ensures.moves.1,
          λ start before. w.in_ok-look_on-in-None.ensures.moves.2 start (inv.moves.2 start before),
        );
      })
    ]

pub returns-in-StreamEnd-clause-held : goal.returns-in-StreamEnd-clause-held
returns-in-StreamEnd-clause-held g c = λ m e h.
    let unread = g.T.Input.unread in
    let k = c.turns.invariant.held m e h in
    held_stream unread c.turns.self m e (subst (λ (t : Stepping g.row.T.Denot). HoldsFault unread t m e) (sym k.0) h)
    c.args.room c.turns.kept c.turns.invariant.within
    (subst (λ (t : Stepping g.row.T.Denot). look.NotesUpTo c.turns.kept t.parser.given) (sym k.0) k.1)
    c.in-StreamEnd.ensures

pub returns-then-kept-room-clause-held : goal.returns-then-kept-room-clause-held
returns-then-kept-room-clause-held g c = λ m e h other.
    let unread = g.T.Input.unread in
    let k = c.turns.invariant.held m e h in
    held_full unread c.turns.self m e (subst (λ (t : Stepping g.row.T.Denot). HoldsFault unread t m e) (sym k.0) h)
    c.args.room c.turns.kept c.turns.invariant.within
    (subst (λ (t : Stepping g.row.T.Denot). look.NotesUpTo c.turns.kept t.parser.given) (sym k.0) k.1)
    c.in-Comment.ensures c.if-kept-room.true c.too_many.result c.too_many.ensures

pub returns-in-Some-clause-held : goal.returns-in-Some-clause-held
returns-in-Some-clause-held g c = λ m e h.
    let unread = g.T.Input.unread in
    let k = c.turns.invariant.held m e h in
    let here = subst (λ (t : Stepping g.row.T.Denot). HoldsFault unread t m e) (sym k.0) h in
    let looked = c.in_ok-look_on-in-None.ensures.held m e here in
    let follows : c.in-Some.follows ≡ true = let both = sym c.in-Some.is ∙ looked.0 in cc in (
      ap (λ (b : Bool). Ok b) follows ∙ held_none unread c.turns.self m e here c.args.room c.turns.kept
          c.turns.invariant.within
          (subst (λ (t : Stepping g.row.T.Denot). look.NotesUpTo c.turns.kept t.parser.given) (sym k.0) k.1)
          c.in-None.ensures,
      looked.1,
    )

pub returns-in-DocumentEnd-clause-held : goal.returns-in-DocumentEnd-clause-held
returns-in-DocumentEnd-clause-held g c = λ m e h.
    let unread = g.T.Input.unread in
    let k = c.turns.invariant.held m e h in
    held_other unread c.turns.self m e (subst (λ (t : Stepping g.row.T.Denot). HoldsFault unread t m e) (sym k.0) h)
    c.args.room c.turns.kept c.turns.invariant.within
    (subst (λ (t : Stepping g.row.T.Denot). look.NotesUpTo c.turns.kept t.parser.given) (sym k.0) k.1)
    fronts.DocumentEnd c.in-DocumentEnd.ensures (inr refl)

pub returns-in-Another-clause-held : goal.returns-in-Another-clause-held
returns-in-Another-clause-held g c = λ m e h.
    let unread = g.T.Input.unread in
    let k = c.turns.invariant.held m e h in
    held_other unread c.turns.self m e (subst (λ (t : Stepping g.row.T.Denot). HoldsFault unread t m e) (sym k.0) h)
    c.args.room c.turns.kept c.turns.invariant.within
    (subst (λ (t : Stepping g.row.T.Denot). look.NotesUpTo c.turns.kept t.parser.given) (sym k.0) k.1)
    fronts.Another c.in-Another.ensures (inl refl)
