use Rattle.std.proofs.Common.{Some, Ok, sym, ap, subst, ◌∙◌}
use Rattle.std.specs.Prelude.{Option}
use Rattle.granit_base.specs.Place.{Mark}
use Rattle.granit_cursor.specs.declared.token.Token.{Token}
use Rattle.granit_error.specs.Refused.{Refused}
use Rattle.granit_scan.specs.Scanning.{GivesStart, KeepsCopy, TokenScanning}
use Rattle.granit_scan.specs.TokenMemory.{KeepsWhole}
use Rattle.granit_scan.proofs.MemoryLemmas.{failure_told, token_told, state_told}
use Rattle.granit_scan.proofs.RecoveryLemmas.{refused_stays, rests_alike}
use Rattle.granit_scan.proofs.SourceLemmas.{failed, failed_on, fails_as, moves_on, no_start}
use Rattle.granit_scan.proofs.StateLemmas.{gives_token, next_fails}
use Rattle.granit_scan.proofs.scanner.Scanner.next_queued.Goals as goal

pub returns-in-Ok-clause-known : goal.returns-in-Ok-clause-known
returns-in-Ok-clause-known g c = λ m at.
    let same = ap (λ (s : TokenScanning g.row.T.Denot). s.items) c.take_token.ensures.rest in
    failed_on g.T.Input.origin c.args.self.now c.ready.new.self c.take_token.new.self same (λ e no. absurd cc)
    (gives_token g.T.Input.unread c.in-Ok.field-0 c.args.self.now.items.options m c.ready.new.self
    c.take_token.new.self c.take_token.result c.take_token.ensures.known) (c.in-Ok.ensures.known m at)

pub returns-in-Ok-clause-source : goal.returns-in-Ok-clause-source
returns-in-Ok-clause-source g c = λ going.
    let same = ap (λ (s : TokenScanning g.row.T.Denot). s.items) c.take_token.ensures.rest in
    let kept = ap (λ (s : TokenScanning g.row.T.Denot). s.source_error) c.take_token.ensures.rest in
    let start = subst (λ (first : Option Mark). GivesStart first (Ok c.take_token.result)) c.in-Ok.ensures.keeps.first
    c.take_token.ensures.start in
    failed_on g.T.Input.origin c.args.self.now c.ready.new.self c.take_token.new.self same
    (λ e no. absurd (let is = no.0 in cc)) (λ none. (start, kept ∙ none.1)) c.in-Ok.ensures.source

pub returns-in-Ok-clause-moves : goal.returns-in-Ok-clause-moves
returns-in-Ok-clause-moves g c =
    moves_on g.T.Input.left g.T.Input.origin c.args.self.now c.ready.new.self c.take_token.new.self
    (ap (λ (s : TokenScanning g.row.T.Denot). s.items) c.take_token.ensures.rest) c.in-Ok.ensures.moves

pub returns-in-Err-clause-known : goal.returns-in-Err-clause-known
returns-in-Err-clause-known g c = λ m at.
    let same = ap (λ (s : TokenScanning g.row.T.Denot). s.items) c.stop.ensures in
    failed_on g.T.Input.origin c.args.self.now c.ready.new.self c.stop.new.self same
    (λ e is. fails_as (Unit {0}) (Option Token) c.in-Err.error e is)
    (next_fails g.T.Input.unread c.args.self.now.items.options m c.in-Err.error) (c.in-Err.ensures.known m at)

pub returns-in-Err-clause-source : goal.returns-in-Err-clause-source
returns-in-Err-clause-source g c = λ going.
    let same = ap (λ (s : TokenScanning g.row.T.Denot). s.items) c.stop.ensures in
    let kept = ap (λ (s : TokenScanning g.row.T.Denot). s.source_error) c.stop.ensures in
    failed_on g.T.Input.origin c.args.self.now c.ready.new.self c.stop.new.self same
    (λ e is. (
      fails_as (Unit {0}) (Option Token) c.in-Err.error e is.0,
      subst (λ (r : Option Refused). KeepsCopy (Some e) r) (sym kept) is.1,
    ))
    (λ none. (no_start c.args.self.now.first c.in-Err.error none.0, kept ∙ none.1)) c.in-Err.ensures.source

pub returns-in-Err-clause-moves : goal.returns-in-Err-clause-moves
returns-in-Err-clause-moves g c =
    moves_on g.T.Input.left g.T.Input.origin c.args.self.now c.ready.new.self c.stop.new.self
    (ap (λ (s : TokenScanning g.row.T.Denot). s.items) c.stop.ensures) c.in-Err.ensures.moves

pub returns-in-Ok-clause-refused : goal.returns-in-Ok-clause-refused
returns-in-Ok-clause-refused g c = λ m at.
    let same = ap (λ (s : TokenScanning g.row.T.Denot). s.items) c.take_token.ensures.rest in
    failed_on g.T.Input.origin c.args.self.now c.ready.new.self c.take_token.new.self same (λ e u. u) (λ u. u)
    (c.in-Ok.ensures.refused m at)

pub returns-in-Err-clause-refused : goal.returns-in-Err-clause-refused
returns-in-Err-clause-refused g c = λ m at.
    let is = c.stop.ensures in
    let same = ap (λ (s : TokenScanning g.row.T.Denot). s.items) is in
    failed_on g.T.Input.origin c.args.self.now c.ready.new.self c.stop.new.self same (λ e u. u)
    (refused_stays g.T.Input.unread c.args.self.now.items.options c.ready.new.self c.stop.new.self m
    (λ n r. rests_alike g.T.Input.unread c.ready.new.self c.stop.new.self n
    (ap (λ (s : TokenScanning g.row.T.Denot). s.items.cursor) is)
    (ap (λ (s : TokenScanning g.row.T.Denot). s.items.laid) is)
    (ap (λ (s : TokenScanning g.row.T.Denot). s.items.queue) is) (ap (λ (s : TokenScanning g.row.T.Denot). s.first) is)
    (ap (λ (s : TokenScanning g.row.T.Denot). s.writer) is) r)
    (Unit {0}) (Option Token) c.in-Err.error)
    (c.in-Err.ensures.refused m at)

pub returns-in-Ok-clause-memory : goal.returns-in-Ok-clause-memory
returns-in-Ok-clause-memory g c = λ going.
    let s = c.args.self.now in
    let same = ap (λ (s : TokenScanning g.row.T.Denot). s.items) c.take_token.ensures.rest in
    failed_on g.T.Input.origin s c.ready.new.self c.take_token.new.self same (λ e u. u)
    (token_told s c.in-Ok.field-0 c.take_token.result)
    c.in-Ok.ensures.memory

pub returns-in-Err-clause-memory : goal.returns-in-Err-clause-memory
returns-in-Err-clause-memory g c = λ going.
    let s = c.args.self.now in
    let same = ap (λ (s : TokenScanning g.row.T.Denot). s.items) c.stop.ensures in
    failed_on g.T.Input.origin s c.ready.new.self c.stop.new.self same (λ e u. u)
    (failure_told (Unit {0}) (Option Token) s c.in-Err.error)
    c.in-Err.ensures.memory

pub returns-in-Ok-clause-known_memory : goal.returns-in-Ok-clause-known_memory
returns-in-Ok-clause-known_memory g c = λ m at.
    let s = c.args.self.now in
    let same = ap (λ (s : TokenScanning g.row.T.Denot). s.items) c.take_token.ensures.rest in
    failed_on g.T.Input.origin s c.ready.new.self c.take_token.new.self same (λ e u. u)
    (λ told. state_told g.T.Input.unread s m at (Ok c.take_token.result)
    (token_told s c.in-Ok.field-0 c.take_token.result told))
    c.in-Ok.ensures.memory

pub returns-in-Err-clause-known_memory : goal.returns-in-Err-clause-known_memory
returns-in-Err-clause-known_memory g c = λ m at.
    let s = c.args.self.now in
    let same = ap (λ (s : TokenScanning g.row.T.Denot). s.items) c.stop.ensures in
    failed_on g.T.Input.origin s c.ready.new.self c.stop.new.self same (λ e u. u)
    (λ told. state_told g.T.Input.unread s m at (failed (Option Token) c.in-Err.error)
    (failure_told (Unit {0}) (Option Token) s c.in-Err.error told))
    c.in-Err.ensures.memory

pub returns-in-Ok-clause-copied : goal.returns-in-Ok-clause-copied
returns-in-Ok-clause-copied g c = λ going.
    let same = ap (λ (s : TokenScanning g.row.T.Denot). s.items) c.take_token.ensures.rest in
    let kept = ap (λ (s : TokenScanning g.row.T.Denot). s.source_error) c.take_token.ensures.rest in
    failed_on g.T.Input.origin c.args.self.now c.ready.new.self c.take_token.new.self same
    (λ e whole. subst (λ (r : Option Refused). KeepsWhole e r) (sym kept) whole) (λ u. u) c.in-Ok.ensures.copied

pub returns-in-Err-clause-copied : goal.returns-in-Err-clause-copied
returns-in-Err-clause-copied g c = λ going.
    let same = ap (λ (s : TokenScanning g.row.T.Denot). s.items) c.stop.ensures in
    let kept = ap (λ (s : TokenScanning g.row.T.Denot). s.source_error) c.stop.ensures in
    failed_on g.T.Input.origin c.args.self.now c.ready.new.self c.stop.new.self same
    (λ e whole. subst (λ (r : Option Refused). KeepsWhole e r) (sym kept) whole) (λ u. u) c.in-Err.ensures.copied
