use Rattle.std.specs.Str.{chars}
use Rattle.granit_error.specs.OptionsView.{options_of}
use Rattle.granit_event.specs.Events.{plain_events}
use Rattle.granit_load.proofs.LoadLemmas.{reading_of, spans_of, stream_of, answered_of, cause_of, refused_of}
use Rattle.granit_load.proofs.LoadLemmas.{block_of, canonical_of, comments_of, json_of, trees_of, uncommented_of}
use Rattle.granit_load.proofs.load.load_str.Goals as goal

pub returns-clause-reading : goal.returns-clause-reading
returns-clause-reading c = reading_of plain_events (options_of c.args.options) (chars c.args.text.now) c.load.result
    c.load.ensures

pub returns-clause-trees : goal.returns-clause-trees
returns-clause-trees c = trees_of plain_events (options_of c.args.options) (chars c.args.text.now) c.load.result
    c.load.ensures

pub returns-clause-spans : goal.returns-clause-spans
returns-clause-spans c = spans_of plain_events (options_of c.args.options) (chars c.args.text.now) c.load.result
    c.load.ensures

pub returns-clause-stream : goal.returns-clause-stream
returns-clause-stream c = stream_of plain_events (options_of c.args.options) (chars c.args.text.now) c.load.result
    c.load.ensures

pub returns-clause-answered : goal.returns-clause-answered
returns-clause-answered c = answered_of plain_events (options_of c.args.options) (chars c.args.text.now) c.load.result
    c.load.ensures

pub returns-clause-cause : goal.returns-clause-cause
returns-clause-cause c = cause_of plain_events (options_of c.args.options) (chars c.args.text.now) c.load.result
    c.load.ensures

pub returns-clause-refused : goal.returns-clause-refused
returns-clause-refused c = refused_of plain_events (options_of c.args.options) (chars c.args.text.now) c.load.result
    c.load.ensures

pub returns-clause-canonical : goal.returns-clause-canonical
returns-clause-canonical c = canonical_of plain_events (options_of c.args.options) (chars c.args.text.now) c.load.result
    c.load.ensures

pub returns-clause-layout : goal.returns-clause-layout
returns-clause-layout c = block_of plain_events (options_of c.args.options) (chars c.args.text.now) c.load.result
    c.load.ensures

pub returns-clause-comments : goal.returns-clause-comments
returns-clause-comments c = comments_of plain_events (options_of c.args.options) (chars c.args.text.now) c.load.result
    c.load.ensures

pub returns-clause-uncommented : goal.returns-clause-uncommented
returns-clause-uncommented c = uncommented_of plain_events (options_of c.args.options) (chars c.args.text.now)
    c.load.result c.load.ensures

pub returns-clause-json : goal.returns-clause-json
returns-clause-json c = json_of plain_events (options_of c.args.options) (chars c.args.text.now) c.load.result
    c.load.ensures
