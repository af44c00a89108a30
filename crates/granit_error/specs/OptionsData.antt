-- The options as plain data.
use Rattle.std.specs.Prelude.{ℕ, Bool, true, false}

pub record OptionsData : Type 0 where
  pub strict_indentation : Bool
  pub disallow_directives : Bool
  pub emit_unresolved_aliases : Bool
  pub emit_anchor_events : Bool
  pub emit_comments : Bool
  pub keep_tags : Bool
  pub max_buffered_comment_events : ℕ
  pub simple_key_max_lookahead : ℕ
  pub flow_nesting_limit : ℕ
  pub block_nesting_limit : ℕ
  pub max_directive_bytes : ℕ
  pub max_reserved_directive_params : ℕ

abbrev pub default_options : OptionsData
default_options = record {
  strict_indentation = false;
  disallow_directives = false;
  emit_unresolved_aliases = false;
  emit_anchor_events = false;
  emit_comments = true;
  keep_tags = false;
  max_buffered_comment_events = 96;
  simple_key_max_lookahead = 1024;
  flow_nesting_limit = 255;
  block_nesting_limit = 255;
  max_directive_bytes = 1024;
  max_reserved_directive_params = 16;
}
