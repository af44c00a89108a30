use Rattle.std.proofs.Common.{ap}
use Rattle.granit_events.specs.Ran.{end_of}
use Rattle.granit_events.specs.declared.status.Status.TheVariants as status
use Rattle.granit_events.proofs.UnderstoodLemmas.{reading_where, fault_where, calls_for_done, wanted_or_memory}
use Rattle.granit_events.proofs.UnderstoodLemmas.{block_run, known_answered, known_run, refused_run}
use Rattle.granit_events.proofs.running.run.Goals as goal

pub returns-clause-ran : goal.returns-clause-ran
returns-clause-ran g c =
    let words = c.args.words.now in
    let left = g.S.ByteSource.left c.args.source.now in
    let now = g.S.ByteSource.left c.run_once.new.source in
    let written = g.W.Sink.written c.args.sink.now in
    let after = g.W.Sink.written c.run_once.new.sink in
    let once = c.run_once.ensures in
    λ other. record {
      ended = once.ended;
      read_fault = once.read_fault;
      write_fault = once.write_fault;
      no_memory = once.no_memory;
      source_count = once.source_count;
      sink_count = once.sink_count;
      none_left = once.none_left;
      unread = λ k wrong. ap (end_of g.S.ByteSource.left g.S.ByteSource.faults) (once.unread k wrong);
      usage = once.usage;
      exactly = once.exactly;
      read = reading_where words left now written after c.run_once.result once.ended;
      caused = fault_where words left now written after c.run_once.result once.ended;
      answered = λ r quiet. wanted_or_memory c.run_once.result status.Done _ _
          (once.exactly r.bytes status.Done r.told (calls_for_done words left r))
          (λ e. (once.read_fault e).2) (λ e. (once.write_fault e).1) quiet.0 quiet.1;
      refused = λ f h quiet. refused_run words left now written after f h
          c.run_once.result _ _ once.ended once.exactly
          (λ e. (once.read_fault e).2) (λ e. (once.write_fault e).1) quiet.0 quiet.1;
      known = λ es h quiet. known_run words left now written after es (known_answered words left es h)
          c.run_once.result _ _ once.ended once.exactly
          (λ e. (once.read_fault e).2) (λ e. (once.write_fault e).1) quiet.0 quiet.1;
      layout = λ ts h quiet. block_run words left now written after ts h
          c.run_once.result _ _ once.ended once.exactly
          (λ e. (once.read_fault e).2) (λ e. (once.write_fault e).1) quiet.0 quiet.1;
    }
