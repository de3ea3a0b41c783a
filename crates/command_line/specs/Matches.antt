-- The options and files as clap knows them. Only private contracts cite these.
use Rattle.std.specs.Prelude.{List, [], ◌∷◌, true, map, All, IsUtf8, Some, codes, unwrap_or}
use Rattle.std.specs.Option.{option_map}
use Rattle.std.specs.Borrow.{Bor}
use Rattle.clap.specs.Walk.{Rule}
use Rattle.clap.specs.Simple.{App, new_app, new_rule, with_rule}
use Rattle.clap.specs.declared.builder.action.ArgAction.TheVariants.{Append}
use Rattle.clap.specs.Matches.{found_of, matched_of, raw_values}
use Rattle.clap.specs.declared.parser.matches.ArgMatches.{ArgMatches}
use Rattle.command_line.specs.Words.{Text, Uses}

-- an option that has a value at each use
abbrev pub valued_rule : Text → Rule
valued_rule name = record (new_rule name) { long = Some name; action = Some Append }

-- an option without a value; each use counts as the value `on`
abbrev pub flag_rule : Text → Rule
flag_rule name = record (new_rule name) {
  long = Some name;
  action = Some Append;
  range = Some (record { start_inclusive = 0; end_inclusive = 0 });
  missing = codes "on" ∷ [];
}

-- the files, each of them a use of the argument
abbrev pub files_rule : Rule
files_rule = record (new_rule (codes "files")) { action = Some Append }

-- a command without help and version; no name of a program comes before its words
abbrev pub bare_app : App
bare_app = record (new_app (codes "run")) {
  top = record (new_app (codes "run")).top { no_binary_name = true; disable_help_flag = true; disable_version_flag = true };
}

-- with the first options that have a value
abbrev pub first_app : App
first_app = with_rule (with_rule (with_rule bare_app (valued_rule (codes "workers"))) (valued_rule (codes "budget"))) (valued_rule (codes "evict"))

-- with all options that have a value
abbrev pub valued_app : App
valued_app = with_rule (with_rule (with_rule first_app (valued_rule (codes "admit"))) (valued_rule (codes "credits"))) (valued_rule (codes "weights"))

-- the command with its arguments
abbrev pub told_app : App
told_app = with_rule (with_rule valued_app (flag_rule (codes "events"))) files_rule

-- the values that clap found under a name
abbrev pub values_in : ArgMatches → Text → List Text
values_in matches name = unwrap_or (option_map raw_values (matched_of (found_of matches) name)) []

-- the values that clap found under each name
abbrev pub uses_in : ArgMatches → Uses
uses_in matches = record {
  workers = values_in matches (codes "workers");
  budget = values_in matches (codes "budget");
  evict = values_in matches (codes "evict");
  admit = values_in matches (codes "admit");
  credits = values_in matches (codes "credits");
  weights = values_in matches (codes "weights");
  events = values_in matches (codes "events");
  files = values_in matches (codes "files");
}

-- the texts to which references point
abbrev pub texts_in : List (Bor Text) → List Text
texts_in texts = map (λ text. text.now) texts

-- the text to which the reference points is UTF-8
abbrev pub HasUtf8 : Bor Text → Type 0
HasUtf8 text = IsUtf8 text.now

-- each of the texts is UTF-8
abbrev pub AreUtf8 : List (Bor Text) → Type 0
AreUtf8 texts = All HasUtf8 texts
