-- The command line, as clap reads it (`command_line`), and what it finds in the words (`found_rows`).
use Rattle.std.specs.Prelude.{ℕ, List, [], ◌∷◌, Option, Some, None, true, pos, codes}
use Rattle.mt_scaled.specs.Number.{max_dimen}
use Rattle.mt_words.specs.Limits.{default_line_word}
use Rattle.clap.specs.Kinds.{Kinds}
use Rattle.clap.specs.Words.{App, Row, Rule, fault_of, matches_of, new_app, new_rule, with_rule}
use Rattle.clap.specs.declared.builder.ArgAction.TheVariants.{Set, Append}
use Rattle.clap.specs.declared.builder.value_parser.ValueParser.TheVariants.{Signed}

-- the option `--line`: one number, which need not be given
abbrev pub line_rule : Rule
line_rule = record (new_rule (codes "line")) {
  long = Some (codes "line");
  action = Some Set;
  parser = Some (Signed (pos 1) (pos max_dimen));
  defaults = default_line_word ∷ [];
}

-- the command, which must be given
abbrev pub action_rule : Rule
action_rule = record (new_rule (codes "action")) { required = true; action = Some Set }

-- the words after the command
abbrev pub names_rule : Rule
names_rule = record (new_rule (codes "names")) {
  action = Some Append;
  range = Some (record { start_inclusive = 1; end_inclusive = 18446744073709551615 });
}

-- a command line without a flag for help or for a version
abbrev pub plain_command : App
plain_command = record (new_app (codes "mathset")) {
  top = record (new_app (codes "mathset")).top { disable_help_flag = true; disable_version_flag = true };
}

abbrev pub command_line : App
command_line = with_rule (with_rule (with_rule plain_command line_rule) action_rule) names_rule

abbrev pub rows_unless : Kinds → List Row → Option (List Row)
rows_unless [] rows = Some rows
rows_unless (kind ∷ kinds) rows = None

-- what clap finds in the words, the program's name first; nothing where its reading has a fault
abbrev pub found_rows : List (List ℕ) → Option (List Row)
found_rows words = rows_unless (fault_of command_line words) (matches_of command_line words)
