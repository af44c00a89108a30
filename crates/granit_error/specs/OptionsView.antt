-- What the options of the code say.
use Rattle.granit_error.specs.OptionsData.{OptionsData}
use Rattle.granit_error.specs.declared.options.Options.{Options}

abbrev pub options_of : Options → OptionsData
options_of o = record {
  strict_indentation = o.strict_indentation;
  disallow_directives = o.disallow_directives;
  emit_unresolved_aliases = o.emit_unresolved_aliases;
  emit_anchor_events = o.emit_anchor_events;
  emit_comments = o.emit_comments;
  keep_tags = o.keep_tags;
  max_buffered_comment_events = o.max_buffered_comment_events;
  simple_key_max_lookahead = o.simple_key_max_lookahead;
  flow_nesting_limit = o.flow_nesting_limit;
  block_nesting_limit = o.block_nesting_limit;
  max_directive_bytes = o.max_directive_bytes;
  max_reserved_directive_params = o.max_reserved_directive_params;
}
