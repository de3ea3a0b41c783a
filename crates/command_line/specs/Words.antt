-- The options and files that the words of the command line name.
use Rattle.std.specs.Prelude.{ℕ, ◌==◌, List, [], ◌∷◌, map, filter, Bool, false, not, ◌&&◌, if◌then◌else◌, bytes_eq, Option, Some, None, codes}
use Rattle.std.specs.List.{list_any, before_first, after_first}
use Rattle.std.specs.Option.{option_map, option_and_then}

abbrev pub Text : Type 0
Text = List ℕ

-- the word begins with `-`
abbrev pub is_dashed : Text → Bool
is_dashed [] = false
is_dashed (b ∷ bs) = b == 45

-- after `--` all words are files
abbrev pub is_end : Text → Bool
is_end word = bytes_eq word (codes "--")

-- a word that begins with `-`, other than `-` itself
abbrev pub is_option : Text → Bool
is_option word = is_dashed word && not (bytes_eq word (codes "-"))

-- the rest after a first `-`
abbrev pub behind_hyphen : Text → Option Text
behind_hyphen [] = None
behind_hyphen (b ∷ bs) = if b == 45 then Some bs else None

-- an option's name, which ends at the first `=`, and the value after that
abbrev pub name_and_value : Text → Text × Option Text
name_and_value text = (
  before_first (λ b. b == 61) text,
  if list_any (λ b. b == 61) text then Some (after_first (λ b. b == 61) text) else None,
)

-- `--name` or `--name=value`
abbrev pub option_in : Text → Option (Text × Option Text)
option_in word = option_map name_and_value (option_and_then behind_hyphen (behind_hyphen word))

-- the options that have a value
abbrev pub valued : List Text
valued = codes "workers" ∷ codes "budget" ∷ codes "evict" ∷ codes "admit" ∷ codes "credits" ∷ codes "weights" ∷ []

-- it is the name of an option that has a value
abbrev pub is_valued : Text → Bool
is_valued name = list_any (λ option. bytes_eq option name) valued

-- the use of an option, under its name, or a file, under the name `files`
abbrev pub Item : Type 0
Item = Text × Text

abbrev pub file : Text → Item
file word = (codes "files", word)

-- `--events` has no value
abbrev pub events : Item
events = (codes "events", codes "on")

-- an item before others, if there are others
abbrev pub and_more : Item → Option (List Item) → Option (List Item)
and_more item more = option_map (λ items. item ∷ items) more

-- an option with the value after its `=`, or an option that waits for the next word; `more` are the items
-- after it, by the option that waits, if any
abbrev pub use_of : (Option Text → Option (List Item)) → Text × Option Text → Option (List Item)
use_of more (name, None) =
    if is_valued name then more (Some name)
    else (if bytes_eq (codes "events") name then and_more events (more None) else None)
use_of more (name, Some value) = if is_valued name then and_more (name, value) (more None) else None

-- the items in words; an option may wait for its value
abbrev pub items_in : Option Text → List Text → Option (List Item)
items_in None [] = Some []
items_in (Some name) [] = None
items_in None (word ∷ words) =
    if is_end word then Some (map file words)
    else (if is_option word then option_and_then (use_of (λ waiting. items_in waiting words)) (option_in word)
    else and_more (file word) (items_in None words))
items_in (Some name) (word ∷ words) =
    if is_option word then None else and_more (name, word) (items_in None words)

-- the values under a name
abbrev pub values_of : Text → List Item → List Text
values_of name items = map (λ item. item.1) (filter (λ item. bytes_eq item.0 name) items)

-- the values under each name
pub record Uses : Type 0 where
  pub workers : List Text
  pub budget : List Text
  pub evict : List Text
  pub admit : List Text
  pub credits : List Text
  pub weights : List Text
  pub events : List Text
  pub files : List Text

abbrev pub uses_of : List Item → Uses
uses_of items = record {
  workers = values_of (codes "workers") items;
  budget = values_of (codes "budget") items;
  evict = values_of (codes "evict") items;
  admit = values_of (codes "admit") items;
  credits = values_of (codes "credits") items;
  weights = values_of (codes "weights") items;
  events = values_of (codes "events") items;
  files = values_of (codes "files") items;
}

-- the values that words have under each name, if they are options and files
abbrev pub uses_named : List Text → Option Uses
uses_named words = option_map uses_of (items_in None words)
