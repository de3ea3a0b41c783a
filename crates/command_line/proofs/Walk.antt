-- What clap's walk makes of the words after the command: one turn for each class of words.
use Rattle.std.proofs.Common.{◌≡◌, ◌∙◌, ℕ, List, [], ◌∷◌, Bool, true, false, Option, Some, None, if◌then◌else◌, refl, ap, ap₂, codes, length, slice_get}
use Rattle.std.specs.Str.{chars}
use Rattle.std.specs.Option.{option_map_or}
use Rattle.clap.specs.Lexer.{long_of, short_of}
use Rattle.clap.specs.Walk.{is_empty, Held, Row, Rule, Waiting, Walk, idle, positional, option, next, value, trailing, with_values, reading_by, settled, walked, word_met, long_or_other, long_met, arg_by_long, done, waits, short_or_plain, Step, Outcome, after_flag, after_step}
use Rattle.clap.specs.Simple.{Shape, built}
use Rattle.clap.specs.Faults.{settle_fault, turn_fault, word_fault, long_fault, flag_word_fault, flags_fault, bundle_fault, bundle_step_fault, step_fault}
use Rattle.clap.specs.declared.error.kind.ErrorKind.TheVariants.{InvalidValue, TooManyValues}
use Rattle.clap.specs.Kinds.{Kinds, or_else}
use Rattle.clap.specs.declared.builder.value_parser.ValueParser.TheVariants.{String}
use Rattle.clap.specs.declared.parser.matches.ValueSource.TheVariants.{CommandLine}
use Rattle.command_line.specs.Words.{Item, Text, events, is_end}
use Rattle.command_line.specs.Matches.{bare_app, files_rule, flag_rule, told_app, valued_rule}

-- the arguments and the command as they are built
abbrev pub valued_built : Text → Rule
valued_built name = record (valued_rule name) { range = Some (record { start_inclusive = 1; end_inclusive = 1 }); parser = Some String }

abbrev pub files_built : Rule
files_built = record files_rule { index = Some 1; range = Some (record { start_inclusive = 1; end_inclusive = 1 }); parser = Some String }

abbrev pub events_built : Rule
events_built = record (flag_rule (codes "events")) { parser = Some String }

abbrev pub rules : List Rule
rules =
    valued_built (codes "workers")
    ∷ valued_built (codes "budget")
    ∷ valued_built (codes "evict")
    ∷ valued_built (codes "admit")
    ∷ valued_built (codes "credits")
    ∷ valued_built (codes "weights")
    ∷ events_built
    ∷ files_built
    ∷ []

abbrev pub shape : Shape
shape = record bare_app.top { rules = rules; disable_help_subcommand = true; is_built = true }

pub built_told : built told_app ≡ record { top = shape; subs = [] }
built_told = refl

-- the options that have a value
pub data Name : Type 0 where
  workers : Name
  budget : Name
  evict : Name
  admit : Name
  credits : Name
  weights : Name

abbrev pub id_of : Name → Text
id_of workers = codes "workers"
id_of budget = codes "budget"
id_of evict = codes "evict"
id_of admit = codes "admit"
id_of credits = codes "credits"
id_of weights = codes "weights"

-- one more item among the rows
abbrev pub add : List Row → Item → List Row
add rows item = with_values item.0 (reading_by files_built) CommandLine (item.1 ∷ []) rows

-- the use that is read and not yet among the rows
pub data Pending : Type 0 where
  nothing : Pending
  a_file : Text → Pending
  an_option : Name → Text → Pending

abbrev pub pending_at : Pending → Option (Text × List Text)
pending_at nothing = None
pending_at (a_file word) = Some (codes "files", word ∷ [])
pending_at (an_option name word) = Some (id_of name, word ∷ [])

abbrev pub all_rows : List Row → Pending → List Row
all_rows rows nothing = rows
all_rows rows (a_file word) = add rows (codes "files", word)
all_rows rows (an_option name word) = add rows (id_of name, word)

abbrev pub is_file : Pending → Bool
is_file nothing = false
is_file (a_file word) = true
is_file (an_option name word) = false

abbrev pub waiting_by : Bool → Waiting
waiting_by true = positional
waiting_by false = idle

abbrev pub held_at : List Row → Pending → Held
held_at rows pending = record { rows = rows; pending = pending_at pending; skip = 0 }

abbrev pub walk_at : Waiting → Held → Bool → Walk
walk_at waiting held is_trailing = record { held = held; waiting = waiting; position = 1; is_trailing = is_trailing; stopped = None }

abbrev pub at : List Row → Pending → Bool → Walk
at rows pending is_trailing = walk_at (waiting_by (is_file pending)) (held_at rows pending) is_trailing

-- an option waits for its value
abbrev pub held_for : List Row → Name → Held
held_for rows name = record { rows = rows; pending = Some (id_of name, []); skip = 0 }

abbrev pub at_option : List Row → Name → Walk
at_option rows name = walk_at (option (id_of name)) (held_for rows name) false

pub settled_is : (rows : List Row) (pending : Pending) → settled rules (held_at rows pending) ≡ held_at (all_rows rows pending) nothing
settled_is rows nothing = refl
settled_is rows (a_file word) = refl
settled_is rows (an_option workers word) = refl
settled_is rows (an_option budget word) = refl
settled_is rows (an_option evict word) = refl
settled_is rows (an_option admit word) = refl
settled_is rows (an_option credits word) = refl
settled_is rows (an_option weights word) = refl

pub settle_faultless : (rows : List Row) (pending : Pending) → settle_fault rules false (held_at rows pending) ≡ []
settle_faultless rows nothing = refl
settle_faultless rows (a_file word) = refl
settle_faultless rows (an_option workers word) = refl
settle_faultless rows (an_option budget word) = refl
settle_faultless rows (an_option evict word) = refl
settle_faultless rows (an_option admit word) = refl
settle_faultless rows (an_option credits word) = refl
settle_faultless rows (an_option weights word) = refl

pub settle_missing : (rows : List Row) (name : Name) → settle_fault rules false (held_for rows name) ≡ InvalidValue ∷ []
settle_missing rows workers = refl
settle_missing rows budget = refl
settle_missing rows evict = refl
settle_missing rows admit = refl
settle_missing rows credits = refl
settle_missing rows weights = refl

-- ## Files

file_turn : (rows : List Row) (pending : Pending) (word : Text) (is_trailing : Bool) → step_fault shape 1 (held_at rows pending) value ≡ []
file_turn rows nothing word is_trailing = refl
file_turn rows (a_file last) word is_trailing = refl
file_turn rows (an_option workers last) word is_trailing = refl
file_turn rows (an_option budget last) word is_trailing = refl
file_turn rows (an_option evict last) word is_trailing = refl
file_turn rows (an_option admit last) word is_trailing = refl
file_turn rows (an_option credits last) word is_trailing = refl
file_turn rows (an_option weights last) word is_trailing = refl

file_walked : (rows : List Row) (pending : Pending) (word : Text) (is_trailing : Bool)
    → after_step rules word (at rows pending is_trailing) (held_at rows pending) value ≡ at (all_rows rows pending) (a_file word) is_trailing
file_walked rows nothing word true = refl
file_walked rows nothing word false = refl
file_walked rows (a_file last) word true = refl
file_walked rows (a_file last) word false = refl
file_walked rows (an_option workers last) word true = refl
file_walked rows (an_option workers last) word false = refl
file_walked rows (an_option budget last) word true = refl
file_walked rows (an_option budget last) word false = refl
file_walked rows (an_option evict last) word true = refl
file_walked rows (an_option evict last) word false = refl
file_walked rows (an_option admit last) word true = refl
file_walked rows (an_option admit last) word false = refl
file_walked rows (an_option credits last) word true = refl
file_walked rows (an_option credits last) word false = refl
file_walked rows (an_option weights last) word true = refl
file_walked rows (an_option weights last) word false = refl

-- after `--`
pub trailing_turn : (rows : List Row) (pending : Pending) (word : Text) → turn_fault shape [] (at rows pending true) word ≡ []
trailing_turn rows pending word = file_turn rows pending word true

pub trailing_walked : (rows : List Row) (pending : Pending) (word : Text) → walked rules [] (at rows pending true) word ≡ at (all_rows rows pending) (a_file word) true
unfolding walked
trailing_walked rows pending word = file_walked rows pending word true

-- ## What a word is met as

abbrev pub fault_at : Bool → Text → Held → Kinds
fault_at is_file word held = word_fault shape [] false (waiting_by is_file) word held

abbrev pub met_at : Bool → Text → Held → Held × Step
met_at is_file word held = word_met rules [] false (waiting_by is_file) 1 word held

pub turn_by : (rows : List Row) (pending : Pending) (word : Text) (fault : Kinds) (met : Held × Step)
    → fault_at (is_file pending) word (held_at rows pending) ≡ fault → met_at (is_file pending) word (held_at rows pending) ≡ met
    → turn_fault shape [] (at rows pending false) word ≡ or_else fault (step_fault shape 1 met.0 met.1)
turn_by rows pending word fault met f m = ap₂ (λ f (met : Held × Step). or_else f (step_fault shape 1 met.0 met.1)) f m

pub walked_by : (rows : List Row) (pending : Pending) (word : Text) (met : Held × Step) → met_at (is_file pending) word (held_at rows pending) ≡ met
    → walked rules [] (at rows pending false) word ≡ after_step rules word (at rows pending false) met.0 met.1
unfolding walked
walked_by rows pending word met m = ap (λ (met : Held × Step). after_step rules word (at rows pending false) met.0 met.1) m

opened_fault : (b : Bool) (word : Text) (held : Held) → is_end word ≡ false → fault_at b word held ≡ flag_word_fault rules false (long_of word) word held
opened_fault true word held e = ap (λ b. if b then [] else flag_word_fault rules false (long_of word) word held) e
opened_fault false word held e = ap (λ b. if b then [] else flag_word_fault rules false (long_of word) word held) e

opened : (b : Bool) (word : Text) (held : Held) → is_end word ≡ false → met_at b word held ≡ long_or_other rules (waiting_by b) word (long_of word) held
opened true word held e = ap (λ b. if b then (held, trailing 1) else long_or_other rules positional word (long_of word) held) e
opened false word held e = ap (λ b. if b then (held, trailing 1) else long_or_other rules idle word (long_of word) held) e

-- `--`
pub end_fault : (b : Bool) (word : Text) (held : Held) → is_end word ≡ true → fault_at b word held ≡ []
end_fault true word held e = ap (λ b. if b then [] else flag_word_fault rules false (long_of word) word held) e
end_fault false word held e = ap (λ b. if b then [] else flag_word_fault rules false (long_of word) word held) e

pub end_met : (b : Bool) (word : Text) (held : Held) → is_end word ≡ true → met_at b word held ≡ (held, trailing 1)
end_met true word held e = ap (λ b. if b then (held, trailing 1) else long_or_other rules positional word (long_of word) held) e
end_met false word held e = ap (λ b. if b then (held, trailing 1) else long_or_other rules idle word (long_of word) held) e

pub end_turn : (rows : List Row) (pending : Pending) (word : Text) → is_end word ≡ true → turn_fault shape [] (at rows pending false) word ≡ []
end_turn rows pending word e =
    turn_by rows pending word [] (held_at rows pending, trailing 1) (end_fault (is_file pending) word (held_at rows pending) e) (end_met (is_file pending) word (held_at rows pending) e)

pub end_walked : (rows : List Row) (pending : Pending) (word : Text) → is_end word ≡ true → walked rules [] (at rows pending false) word ≡ at rows pending true
end_walked rows pending word e = walked_by rows pending word (held_at rows pending, trailing 1) (end_met (is_file pending) word (held_at rows pending) e)

-- the class of a word that is neither a flag nor `--`
pub record IsPlain (word : Text) : Type 0 where
  pub no_end : is_end word ≡ false
  pub no_long : long_of word ≡ None
  pub no_short : short_of word ≡ None

plain_fault : (b : Bool) (word : Text) (held : Held) → IsPlain word → fault_at b word held ≡ []
plain_fault b word held plain =
    opened_fault b word held plain.no_end
    ∙ ap (λ l. flag_word_fault rules false l word held) plain.no_long
    ∙ ap (λ s. option_map_or (λ flags. bundle_fault rules false flags held) s []) plain.no_short

plain_met : (b : Bool) (word : Text) (held : Held) → IsPlain word → met_at b word held ≡ (held, value)
plain_met true word held plain =
    opened true word held plain.no_end
    ∙ ap (λ l. long_or_other rules positional word l held) plain.no_long
    ∙ ap (λ s. short_or_plain rules positional word s held) plain.no_short
plain_met false word held plain =
    opened false word held plain.no_end
    ∙ ap (λ l. long_or_other rules idle word l held) plain.no_long
    ∙ ap (λ s. short_or_plain rules idle word s held) plain.no_short

pub plain_turn : (rows : List Row) (pending : Pending) (word : Text) → IsPlain word → turn_fault shape [] (at rows pending false) word ≡ []
plain_turn rows pending word plain =
    turn_by rows pending word [] (held_at rows pending, value) (plain_fault (is_file pending) word (held_at rows pending) plain) (plain_met (is_file pending) word (held_at rows pending) plain)
    ∙ file_turn rows pending word false

pub plain_walked : (rows : List Row) (pending : Pending) (word : Text) → IsPlain word → walked rules [] (at rows pending false) word ≡ at (all_rows rows pending) (a_file word) false
plain_walked rows pending word plain =
    walked_by rows pending word (held_at rows pending, value) (plain_met (is_file pending) word (held_at rows pending) plain)
    ∙ file_walked rows pending word false

-- ## Options

abbrev pub LongWord : Text → Text × Option Text → Type 0
LongWord word p = (is_end word ≡ false) × (long_of word ≡ Some p)

long_faults : (b : Bool) (word : Text) (p : Text × Option Text) (held : Held) → LongWord word p → fault_at b word held ≡ long_fault rules false (arg_by_long rules p.0) p.1 held
long_faults b word p held is = opened_fault b word held is.0 ∙ ap (λ l. flag_word_fault rules false l word held) is.1

long_meets : (b : Bool) (word : Text) (p : Text × Option Text) (held : Held) → LongWord word p
    → met_at b word held
    ≡ after_flag rules (waiting_by b) word (long_met rules (arg_by_long rules p.0) p.1 held).0 (long_met rules (arg_by_long rules p.0) p.1 held).1
long_meets b word p held is = opened b word held is.0 ∙ ap (λ l. long_or_other rules (waiting_by b) word l held) is.1

-- an option with the value after its `=`
pub joined_fault : (name : Name) (v : Text) (held : Held) → long_fault rules false (arg_by_long rules (id_of name)) (Some v) held ≡ or_else (settle_fault rules false held) []
joined_fault workers v held = refl
joined_fault budget v held = refl
joined_fault evict v held = refl
joined_fault admit v held = refl
joined_fault credits v held = refl
joined_fault weights v held = refl

joined_met : (name : Name) (v : Text) (held : Held)
    → long_met rules (arg_by_long rules (id_of name)) (Some v) held ≡ (record held { rows = add (settled rules held).rows (id_of name, v); pending = None }, done)
joined_met workers v held = refl
joined_met budget v held = refl
joined_met evict v held = refl
joined_met admit v held = refl
joined_met credits v held = refl
joined_met weights v held = refl

-- an option that waits for its value
pub apart_fault : (name : Name) (held : Held) → long_fault rules false (arg_by_long rules (id_of name)) None held ≡ settle_fault rules false held
apart_fault workers held = refl
apart_fault budget held = refl
apart_fault evict held = refl
apart_fault admit held = refl
apart_fault credits held = refl
apart_fault weights held = refl

apart_met : (name : Name) (held : Held)
    → long_met rules (arg_by_long rules (id_of name)) None held ≡ (record (settled rules held) { pending = Some (id_of name, []) }, waits (id_of name))
apart_met workers held = refl
apart_met budget held = refl
apart_met evict held = refl
apart_met admit held = refl
apart_met credits held = refl
apart_met weights held = refl

-- `--events`
pub events_fault : (held : Held) → long_fault rules false (arg_by_long rules (codes "events")) None held ≡ or_else (settle_fault rules false held) []
events_fault held = refl

events_met : (held : Held) → long_met rules (arg_by_long rules (codes "events")) None held ≡ (record held { rows = add (settled rules held).rows events; pending = None }, done)
events_met held = refl

pub events_over : (v : Text) (held : Held) → long_fault rules false (arg_by_long rules (codes "events")) (Some v) held ≡ TooManyValues ∷ []
events_over v held = refl

-- the turns at options; for `held` the name may be written out or known by an equation
pub joined_turn : (rows : List Row) (pending : Pending) (word : Text) (name : Name) (v : Text) → LongWord word (id_of name, Some v) → turn_fault shape [] (at rows pending false) word ≡ []
joined_turn rows pending word name v is =
    let held = held_at rows pending in
    turn_by rows pending word (or_else (settle_fault rules false held) []) (record held { rows = add (settled rules held).rows (id_of name, v); pending = None }, next idle)
    (long_faults (is_file pending) word (id_of name, Some v) held is ∙ joined_fault name v held)
    (long_meets (is_file pending) word (id_of name, Some v) held is ∙ ap (λ (m : Held × Outcome). after_flag rules (waiting_by (is_file pending)) word m.0 m.1) (joined_met name v held))
    ∙ ap (λ f. or_else (or_else f []) []) (settle_faultless rows pending)

pub joined_walked : (rows : List Row) (pending : Pending) (word : Text) (name : Name) (v : Text) → LongWord word (id_of name, Some v)
    → walked rules [] (at rows pending false) word ≡ at (add (all_rows rows pending) (id_of name, v)) nothing false
joined_walked rows pending word name v is =
    let held = held_at rows pending in
    walked_by rows pending word (record held { rows = add (settled rules held).rows (id_of name, v); pending = None }, next idle)
    (long_meets (is_file pending) word (id_of name, Some v) held is ∙ ap (λ (m : Held × Outcome). after_flag rules (waiting_by (is_file pending)) word m.0 m.1) (joined_met name v held))
    ∙ ap (λ (h : Held). walk_at idle (held_at (add h.rows (id_of name, v)) nothing) false) (settled_is rows pending)

pub apart_turn : (rows : List Row) (pending : Pending) (word : Text) (name : Name) → LongWord word (id_of name, None) → turn_fault shape [] (at rows pending false) word ≡ []
apart_turn rows pending word name is =
    let held = held_at rows pending in
    turn_by rows pending word (settle_fault rules false held) (record (settled rules held) { pending = Some (id_of name, []) }, next (option (id_of name)))
    (long_faults (is_file pending) word (id_of name, None) held is ∙ apart_fault name held)
    (long_meets (is_file pending) word (id_of name, None) held is ∙ ap (λ (m : Held × Outcome). after_flag rules (waiting_by (is_file pending)) word m.0 m.1) (apart_met name held))
    ∙ ap (λ f. or_else f []) (settle_faultless rows pending)

pub apart_walked : (rows : List Row) (pending : Pending) (word : Text) (name : Name) → LongWord word (id_of name, None)
    → walked rules [] (at rows pending false) word ≡ at_option (all_rows rows pending) name
apart_walked rows pending word name is =
    let held = held_at rows pending in
    walked_by rows pending word (record (settled rules held) { pending = Some (id_of name, []) }, next (option (id_of name)))
    (long_meets (is_file pending) word (id_of name, None) held is ∙ ap (λ (m : Held × Outcome). after_flag rules (waiting_by (is_file pending)) word m.0 m.1) (apart_met name held))
    ∙ ap (λ (h : Held). walk_at (option (id_of name)) (record h { pending = Some (id_of name, []) }) false) (settled_is rows pending)

pub events_turn : (rows : List Row) (pending : Pending) (word : Text) → LongWord word (codes "events", None) → turn_fault shape [] (at rows pending false) word ≡ []
events_turn rows pending word is =
    let held = held_at rows pending in
    turn_by rows pending word (or_else (settle_fault rules false held) []) (record held { rows = add (settled rules held).rows events; pending = None }, next idle)
    (long_faults (is_file pending) word (codes "events", None) held is ∙ events_fault held)
    (long_meets (is_file pending) word (codes "events", None) held is ∙ ap (λ (m : Held × Outcome). after_flag rules (waiting_by (is_file pending)) word m.0 m.1) (events_met held))
    ∙ ap (λ f. or_else (or_else f []) []) (settle_faultless rows pending)

pub events_walked : (rows : List Row) (pending : Pending) (word : Text) → LongWord word (codes "events", None)
    → walked rules [] (at rows pending false) word ≡ at (add (all_rows rows pending) events) nothing false
events_walked rows pending word is =
    let held = held_at rows pending in
    walked_by rows pending word (record held { rows = add (settled rules held).rows events; pending = None }, next idle)
    (long_meets (is_file pending) word (codes "events", None) held is ∙ ap (λ (m : Held × Outcome). after_flag rules (waiting_by (is_file pending)) word m.0 m.1) (events_met held))
    ∙ ap (λ (h : Held). walk_at idle (held_at (add h.rows events) nothing) false) (settled_is rows pending)

-- ## Words that are refused

-- a fault stays one, whatever follows
pub fails_first : (first more : Kinds) → is_empty first ≡ false → is_empty (or_else first more) ≡ false
fails_first [] more e = absurd (cc)
fails_first (k ∷ ks) more e = e

or_nothing : (first : Kinds) → or_else first [] ≡ first
or_nothing [] = refl
or_nothing (k ∷ ks) = refl

pub over_fails : (b : Bool) (word v : Text) (held : Held) → LongWord word (codes "events", Some v) → is_empty (fault_at b word held) ≡ false
over_fails b word v held is = ap is_empty (long_faults b word (codes "events", Some v) held is)

pub unknown_fails : (b : Bool) (word : Text) (p : Text × Option Text) (held : Held) → LongWord word p → arg_by_long rules p.0 ≡ None → is_empty (fault_at b word held) ≡ false
unknown_fails b word p held is none = ap is_empty (long_faults b word p held is ∙ ap (λ a. long_fault rules false a p.1 held) none)

-- a bundle of short options that begins with a character
pub record IsBundle (word : Text) : Type 0 where
  pub no_end : is_end word ≡ false
  pub no_long : long_of word ≡ None
  pub flag : ℕ
  pub flags : Text
  pub is_short : short_of word ≡ Some (flag ∷ flags)
  pub first : ℕ
  pub begins : slice_get (chars (flag ∷ flags)) 0 ≡ Some first

pub bundle_fails : (b : Bool) (word : Text) (held : Held) → held.skip ≡ 0 → IsBundle word → is_empty (fault_at b word held) ≡ false
unfolding flags_fault
bundle_fails b word held skip is =
    ap is_empty
    (opened_fault b word held is.no_end
    ∙ ap (λ l. flag_word_fault rules false l word held) is.no_long
    ∙ ap (λ s. option_map_or (λ flags. bundle_fault rules false flags held) s []) is.is_short
    ∙ ap (λ n. bundle_step_fault rules false (slice_get (chars (is.flag ∷ is.flags)) 0) (is.flag ∷ is.flags) n (record held { skip = 0 }) (flags_fault rules false (length is.flags))) skip
    ∙ ap (λ x. bundle_step_fault rules false x (is.flag ∷ is.flags) 0 (record held { skip = 0 }) (flags_fault rules false (length is.flags))) is.begins)
