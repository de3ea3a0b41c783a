-- The walk over all the words, by one step for each of them.
use Rattle.std.proofs.Common.{◌≡◌, List, [], ◌∷◌, true, false, Option, Some, None, refl, sym, subst, codes, map}
use Rattle.std.specs.Str.{IsUtf8}
use Rattle.clap.specs.Walk.{Row, is_empty}
use Rattle.clap.specs.Faults.{step_fault, turn_fault}
use Rattle.command_line.specs.Words.{Text, events, file, is_option, items_in, use_of}
use Rattle.command_line.proofs.Walk.{LongWord, Name, Pending, a_file, add, all_rows, an_option, apart_turn, apart_walked, at, at_option, bundle_fails, end_turn, end_walked, events_turn, events_walked, fails_first, fault_at, held_at, id_of, is_file, joined_turn, joined_walked, met_at, nothing, over_fails, plain_turn, plain_walked, shape, unknown_fails}
use Rattle.command_line.proofs.Waits as waits
use Rattle.command_line.proofs.Classes.{Class, Named, bundle, class_of, end, is_events, known, long, named, plain, unknown}
use Rattle.command_line.proofs.Steps.{Reads, adds, ends, ends_waiting, fails, in_end, in_option, in_plain, more_in, passes, trailing_fails, trailing_reads, use_joined, use_known, use_unknown, waits_none, waits_value}

abbrev pub AreText : List Text → Type 0
AreText [] = Unit {0}
AreText (word ∷ words) = IsUtf8 word × AreText words

-- the words are read where no option waits, and where one does
pub record Both (words : List Text) : Type 0 where
  pub ready : (rows : List Row) (pending : Pending) → Reads (at rows pending false) words (all_rows rows pending) (items_in None words)
  pub waiting : (rows : List Row) (name : Name) → Reads (at_option rows name) words rows (items_in (Some (id_of name)) words)

turn_fails : (rows : List Row) (pending : Pending) (word : Text) → is_empty (fault_at (is_file pending) word (held_at rows pending)) ≡ false
    → is_empty (turn_fault shape [] (at rows pending false) word) ≡ false
turn_fails rows pending word e =
    let met = met_at (is_file pending) word (held_at rows pending) in
    fails_first (fault_at (is_file pending) word (held_at rows pending)) (step_fault shape 1 met.0 met.1) e

-- ## Where no option waits

known_reads : (rows : List Row) (pending : Pending) (word : Text) (words : List Text) (name : Name) (v : Option Text) → LongWord word (id_of name, v) → Both words
    → Reads (at rows pending false) (word ∷ words) (all_rows rows pending) (use_of (more_in words) (id_of name, v))
known_reads rows pending word words name None is more =
    subst (Reads (at rows pending false) (word ∷ words) (all_rows rows pending)) (sym (use_known (more_in words) name))
    (passes (at rows pending false) (at_option (all_rows rows pending) name) word words (all_rows rows pending) (items_in (Some (id_of name)) words)
    (apart_turn rows pending word name is) (apart_walked rows pending word name is) (more.waiting (all_rows rows pending) name))
known_reads rows pending word words name (Some v) is more =
    subst (Reads (at rows pending false) (word ∷ words) (all_rows rows pending)) (sym (use_joined (more_in words) name v))
    (adds (at rows pending false) (at (add (all_rows rows pending) (id_of name, v)) nothing false) word words (all_rows rows pending) (id_of name, v) (items_in None words)
    (joined_turn rows pending word name v is) (joined_walked rows pending word name v is) (more.ready (add (all_rows rows pending) (id_of name, v)) nothing))

events_reads : (rows : List Row) (pending : Pending) (word : Text) (words : List Text) (v : Option Text) → LongWord word (codes "events", v) → Both words
    → Reads (at rows pending false) (word ∷ words) (all_rows rows pending) (use_of (more_in words) (codes "events", v))
events_reads rows pending word words None is more =
    adds (at rows pending false) (at (add (all_rows rows pending) events) nothing false) word words (all_rows rows pending) events (items_in None words)
    (events_turn rows pending word is) (events_walked rows pending word is) (more.ready (add (all_rows rows pending) events) nothing)
events_reads rows pending word words (Some v) is more =
    fails (at rows pending false) word words (all_rows rows pending) (turn_fails rows pending word (over_fails (is_file pending) word v (held_at rows pending) is))

long_reads : (rows : List Row) (pending : Pending) (word : Text) (words : List Text) (name : Text) (v : Option Text) → Named name → LongWord word (name, v) → Both words
    → Reads (at rows pending false) (word ∷ words) (all_rows rows pending) (use_of (more_in words) (name, v))
long_reads rows pending word words name v (known n e) =
    subst (λ (name : Text). LongWord word (name, v) → Both words → Reads (at rows pending false) (word ∷ words) (all_rows rows pending) (use_of (more_in words) (name, v))) e
    (known_reads rows pending word words n v)
long_reads rows pending word words name v (is_events e) =
    subst (λ (name : Text). LongWord word (name, v) → Both words → Reads (at rows pending false) (word ∷ words) (all_rows rows pending) (use_of (more_in words) (name, v))) e
    (events_reads rows pending word words v)
long_reads rows pending word words name v (unknown off no_events none) =
    λ is more. subst (Reads (at rows pending false) (word ∷ words) (all_rows rows pending)) (sym (use_unknown (more_in words) name v off no_events))
    (fails (at rows pending false) word words (all_rows rows pending) (turn_fails rows pending word (unknown_fails (is_file pending) word (name, v) (held_at rows pending) is none)))

ready_class : (rows : List Row) (pending : Pending) (word : Text) (words : List Text) → Class word → Both words
    → Reads (at rows pending false) (word ∷ words) (all_rows rows pending) (items_in None (word ∷ words))
ready_class rows pending word words (plain is no_end no_option) more =
    subst (Reads (at rows pending false) (word ∷ words) (all_rows rows pending)) (sym (in_plain word words no_end no_option))
    (adds (at rows pending false) (at (all_rows rows pending) (a_file word) false) word words (all_rows rows pending) (file word) (items_in None words)
    (plain_turn rows pending word is) (plain_walked rows pending word is) (more.ready (all_rows rows pending) (a_file word)))
ready_class rows pending word words (end is is_option) more =
    subst (Reads (at rows pending false) (word ∷ words) (all_rows rows pending)) (sym (in_end word words is))
    (passes (at rows pending false) (at rows pending true) word words (all_rows rows pending) (Some (map file words))
    (end_turn rows pending word is) (end_walked rows pending word is) (trailing_reads rows pending words))
ready_class rows pending word words (long p is is_option e) more =
    subst (Reads (at rows pending false) (word ∷ words) (all_rows rows pending)) (sym (in_option word words (Some p) is.0 is_option e))
    (long_reads rows pending word words p.0 p.1 (named p.0) is more)
ready_class rows pending word words (bundle is is_option e) more =
    subst (Reads (at rows pending false) (word ∷ words) (all_rows rows pending)) (sym (in_option word words None is.no_end is_option e))
    (fails (at rows pending false) word words (all_rows rows pending) (turn_fails rows pending word (bundle_fails (is_file pending) word (held_at rows pending) refl is)))

-- ## Where an option waits

long_fails : (rows : List Row) (waiter : Name) (word : Text) (words : List Text) (name : Text) (v : Option Text) → Named name → LongWord word (name, v)
    → Reads (at_option rows waiter) (word ∷ words) rows None
long_fails rows waiter word words name None (known n e) is =
    fails (at_option rows waiter) word words rows (waits.apart_fails rows waiter word n (subst (λ (name : Text). LongWord word (name, None)) (sym e) is))
long_fails rows waiter word words name (Some v) (known n e) is =
    fails (at_option rows waiter) word words rows (waits.joined_fails rows waiter word n v (subst (λ (name : Text). LongWord word (name, Some v)) (sym e) is))
long_fails rows waiter word words name None (is_events e) is =
    fails (at_option rows waiter) word words rows (waits.events_fails rows waiter word (subst (λ (name : Text). LongWord word (name, None)) (sym e) is))
long_fails rows waiter word words name (Some v) (is_events e) is =
    fails (at_option rows waiter) word words rows (waits.over_fails rows waiter word v (subst (λ (name : Text). LongWord word (name, Some v)) (sym e) is))
long_fails rows waiter word words name v (unknown off no_events none) is = fails (at_option rows waiter) word words rows (waits.unknown_fails rows waiter word (name, v) is none)

waiting_class : (rows : List Row) (name : Name) (word : Text) (words : List Text) → Class word → Both words
    → Reads (at_option rows name) (word ∷ words) rows (items_in (Some (id_of name)) (word ∷ words))
waiting_class rows name word words (plain is no_end no_option) more =
    subst (Reads (at_option rows name) (word ∷ words) rows) (sym (waits_value (id_of name) word words no_option))
    (adds (at_option rows name) (at rows (an_option name word) false) word words rows (id_of name, word) (items_in None words)
    (waits.value_turn rows name word is) (waits.value_walked rows name word is) (more.ready rows (an_option name word)))
waiting_class rows name word words (end is is_option) more =
    subst (Reads (at_option rows name) (word ∷ words) rows) (sym (waits_none (id_of name) word words is_option))
    (passes (at_option rows name) (waits.at_end rows name) word words rows None (waits.end_turn rows name word is) (waits.end_walked rows name word is) (trailing_fails rows name words))
waiting_class rows name word words (long p is is_option e) more =
    subst (Reads (at_option rows name) (word ∷ words) rows) (sym (waits_none (id_of name) word words is_option))
    (long_fails rows name word words p.0 p.1 (named p.0) is)
waiting_class rows name word words (bundle is is_option e) more =
    subst (Reads (at_option rows name) (word ∷ words) rows) (sym (waits_none (id_of name) word words is_option))
    (fails (at_option rows name) word words rows (waits.bundle_fails rows name word is))

pub each : (words : List Text) → AreText words → Both words
each [] text = record { ready = λ rows pending. ends rows pending false; waiting = λ rows name. ends_waiting rows name }
each (word ∷ words) text =
    let more = each words text.1 in
    let class = class_of word text.0 in
    record {
      ready = λ rows pending. ready_class rows pending word words class more;
      waiting = λ rows name. waiting_class rows name word words class more;
    }
