-- What clap's walk makes of a word while an option waits for its value: the value, or a fault.
use Rattle.std.proofs.Common.{◌≡◌, ◌∙◌, List, [], ◌∷◌, true, false, Option, Some, None, if◌then◌else◌, refl, ap, ap₂, codes, length}
use Rattle.std.specs.Option.{option_map_or}
use Rattle.clap.specs.Lexer.{long_of}
use Rattle.clap.specs.Walk.{is_empty, Held, Row, Walk, option, next, idle, trailing, walked, word_met, long_or_other, arg_by_long, short_or_plain, Step, after_step}
use Rattle.clap.specs.Faults.{turn_fault, word_fault, long_fault, flag_word_fault, flags_fault, bundle_fault, bundle_step_fault, step_fault}
use Rattle.clap.specs.Kinds.{Kinds, or_else}
use Rattle.command_line.specs.Words.{Text, is_end}
use Rattle.command_line.proofs.Walk.{IsBundle, IsPlain, LongWord, Name, admit, an_option, apart_fault, at, at_option, budget, credits, events_fault, evict, fails_first, held_at, held_for, id_of, joined_fault, rules, settle_missing, shape, walk_at, weights, workers}

abbrev fault_for : Name → Text → Held → Kinds
fault_for name word held = word_fault shape [] false (option (id_of name)) word held

abbrev met_for : Name → Text → Held → Held × Step
met_for name word held = word_met rules [] false (option (id_of name)) 1 word held

opened_fault : (name : Name) (word : Text) (held : Held) → is_end word ≡ false → fault_for name word held ≡ flag_word_fault rules false (long_of word) word held
opened_fault name word held e = ap (λ b. if b then [] else flag_word_fault rules false (long_of word) word held) e

plain_fault : (name : Name) (word : Text) (held : Held) → IsPlain word → fault_for name word held ≡ []
plain_fault name word held plain =
    opened_fault name word held plain.no_end
    ∙ ap (λ l. flag_word_fault rules false l word held) plain.no_long
    ∙ ap (λ s. option_map_or (λ flags. bundle_fault rules false flags held) s []) plain.no_short

taken : (rows : List Row) (name : Name) (word : Text) → short_or_plain rules (option (id_of name)) word None (held_for rows name) ≡ (held_at rows (an_option name word), next idle)
taken rows workers word = refl
taken rows budget word = refl
taken rows evict word = refl
taken rows admit word = refl
taken rows credits word = refl
taken rows weights word = refl

plain_met : (rows : List Row) (name : Name) (word : Text) → IsPlain word → met_for name word (held_for rows name) ≡ (held_at rows (an_option name word), next idle)
plain_met rows name word plain =
    ap (λ b. if b then (held_for rows name, trailing 1) else long_or_other rules (option (id_of name)) word (long_of word) (held_for rows name)) plain.no_end
    ∙ ap (λ l. long_or_other rules (option (id_of name)) word l (held_for rows name)) plain.no_long
    ∙ ap (λ s. short_or_plain rules (option (id_of name)) word s (held_for rows name)) plain.no_short
    ∙ taken rows name word

-- the value
pub value_turn : (rows : List Row) (name : Name) (word : Text) → IsPlain word → turn_fault shape [] (at_option rows name) word ≡ []
value_turn rows name word plain =
    ap₂ (λ f (met : Held × Step). or_else f (step_fault shape 1 met.0 met.1)) (plain_fault name word (held_for rows name) plain) (plain_met rows name word plain)

pub value_walked : (rows : List Row) (name : Name) (word : Text) → IsPlain word → walked rules [] (at_option rows name) word ≡ at rows (an_option name word) false
unfolding walked
value_walked rows name word plain =
    ap (λ (met : Held × Step). after_step rules word (at_option rows name) met.0 met.1) (plain_met rows name word plain)

-- ## Faults

turn_fails : (rows : List Row) (name : Name) (word : Text) → is_empty (fault_for name word (held_for rows name)) ≡ false → is_empty (turn_fault shape [] (at_option rows name) word) ≡ false
turn_fails rows name word e =
    let met = met_for name word (held_for rows name) in
    fails_first (fault_for name word (held_for rows name)) (step_fault shape 1 met.0 met.1) e

long_faults : (name : Name) (word : Text) (p : Text × Option Text) (held : Held) → LongWord word p → fault_for name word held ≡ long_fault rules false (arg_by_long rules p.0) p.1 held
long_faults name word p held is = opened_fault name word held is.0 ∙ ap (λ l. flag_word_fault rules false l word held) is.1

pub joined_fails : (rows : List Row) (name : Name) (word : Text) (other : Name) (v : Text) → LongWord word (id_of other, Some v) → is_empty (turn_fault shape [] (at_option rows name) word) ≡ false
joined_fails rows name word other v is =
    turn_fails rows name word
    (ap is_empty (long_faults name word (id_of other, Some v) (held_for rows name) is ∙ joined_fault other v (held_for rows name) ∙ ap (λ f. or_else f []) (settle_missing rows name)))

pub apart_fails : (rows : List Row) (name : Name) (word : Text) (other : Name) → LongWord word (id_of other, None) → is_empty (turn_fault shape [] (at_option rows name) word) ≡ false
apart_fails rows name word other is =
    turn_fails rows name word
    (ap is_empty (long_faults name word (id_of other, None) (held_for rows name) is ∙ apart_fault other (held_for rows name) ∙ settle_missing rows name))

pub events_fails : (rows : List Row) (name : Name) (word : Text) → LongWord word (codes "events", None) → is_empty (turn_fault shape [] (at_option rows name) word) ≡ false
events_fails rows name word is =
    turn_fails rows name word
    (ap is_empty (long_faults name word (codes "events", None) (held_for rows name) is ∙ events_fault (held_for rows name) ∙ ap (λ f. or_else f []) (settle_missing rows name)))

pub over_fails : (rows : List Row) (name : Name) (word v : Text) → LongWord word (codes "events", Some v) → is_empty (turn_fault shape [] (at_option rows name) word) ≡ false
over_fails rows name word v is = turn_fails rows name word (ap is_empty (long_faults name word (codes "events", Some v) (held_for rows name) is))

pub unknown_fails : (rows : List Row) (name : Name) (word : Text) (p : Text × Option Text) → LongWord word p → arg_by_long rules p.0 ≡ None
    → is_empty (turn_fault shape [] (at_option rows name) word) ≡ false
unknown_fails rows name word p is none =
    turn_fails rows name word
    (ap is_empty (long_faults name word p (held_for rows name) is ∙ ap (λ a. long_fault rules false a p.1 (held_for rows name)) none))

pub bundle_fails : (rows : List Row) (name : Name) (word : Text) → IsBundle word → is_empty (turn_fault shape [] (at_option rows name) word) ≡ false
unfolding flags_fault
bundle_fails rows name word is =
    turn_fails rows name word
    (ap is_empty
    (opened_fault name word (held_for rows name) is.no_end
    ∙ ap (λ l. flag_word_fault rules false l word (held_for rows name)) is.no_long
    ∙ ap (λ s. option_map_or (λ flags. bundle_fault rules false flags (held_for rows name)) s []) is.is_short
    ∙ ap (λ x. bundle_step_fault rules false x (is.flag ∷ is.flags) 0 (held_for rows name) (flags_fault rules false (length is.flags))) is.begins))

-- `--`, after which no value can come
abbrev pub at_end : List Row → Name → Walk
at_end rows name = walk_at (option (id_of name)) (held_for rows name) true

pub end_turn : (rows : List Row) (name : Name) (word : Text) → is_end word ≡ true → turn_fault shape [] (at_option rows name) word ≡ []
end_turn rows name word e =
    ap₂ (λ f (met : Held × Step). or_else f (step_fault shape 1 met.0 met.1))
    (ap (λ b. if b then [] else flag_word_fault rules false (long_of word) word (held_for rows name)) e)
    (ap (λ b. if b then (held_for rows name, trailing 1) else long_or_other rules (option (id_of name)) word (long_of word) (held_for rows name)) e)

pub end_walked : (rows : List Row) (name : Name) (word : Text) → is_end word ≡ true → walked rules [] (at_option rows name) word ≡ at_end rows name
unfolding walked
end_walked rows name word e =
    ap (λ (met : Held × Step). after_step rules word (at_option rows name) met.0 met.1)
    (ap (λ b. if b then (held_for rows name, trailing 1) else long_or_other rules (option (id_of name)) word (long_of word) (held_for rows name)) e)

pub trailing_fails : (rows : List Row) (name : Name) (word : Text) → is_empty (turn_fault shape [] (at_end rows name) word) ≡ false
trailing_fails rows workers word = refl
trailing_fails rows budget word = refl
trailing_fails rows evict word = refl
trailing_fails rows admit word = refl
trailing_fails rows credits word = refl
trailing_fails rows weights word = refl
