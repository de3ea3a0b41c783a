-- clap's walk has no fault exactly where the words have items, and then it holds those.
use Rattle.std.proofs.Common.{◌≡◌, ◌∙◌, List, [], ◌∷◌, Bool, true, false, Option, Some, None, IfSome, is_some, if◌then◌else◌, refl, sym, ap, subst, codes, fold, map, ◌||◌}
use Rattle.std.specs.Option.{option_and_then}
use Rattle.std.specs.Str.{bytes_eq}
use Rattle.std.proofs.Math.Bool.{or-true}
use Rattle.clap.specs.Walk.{Held, Row, Rule, Walk, finished, is_empty, has_row, default_rows, reading_by, settled, walked, with_default}
use Rattle.clap.specs.Faults.{check_fault, default_fault, defaults_fault, given_default_fault, settle_fault, turn_fault, walk_fault}
use Rattle.clap.specs.Kinds.{Kinds, or_else}
use Rattle.command_line.specs.Words.{Item, Text, and_more, events, file, is_end, is_option, is_valued, items_in, option_in, use_of}
use Rattle.command_line.proofs.Walk.{Name, Pending, a_file, add, admit, all_rows, at, at_option, budget, credits, evict, fails_first, held_at, held_for, id_of, rules, settle_faultless, settle_missing, settled_is, shape, trailing_turn, trailing_walked, weights, workers}
use Rattle.command_line.proofs.Waits as waits

-- ## The end of the words

abbrev pub NoDefaults : List Rule → Type 0
NoDefaults [] = Unit {0}
NoDefaults (a ∷ others) = (a.defaults ≡ []) × NoDefaults others

no_defaults : NoDefaults rules
no_defaults = (refl, (refl, (refl, (refl, (refl, (refl, (refl, (refl, tt))))))))

same : (b : Bool) (rows : List Row) → (if b then rows else rows) ≡ rows
same true rows = refl
same false rows = refl

default_kept : (rows : List Row) (a : Rule) → a.defaults ≡ [] → with_default rows a ≡ rows
default_kept rows a e = ap (λ d. if has_row a.id rows then rows else default_rows a.id (reading_by a) d rows) e ∙ same (has_row a.id rows) rows

default_faultless : (rows : List Row) (a : Rule) → a.defaults ≡ [] → default_fault rows a ≡ []
default_faultless rows a e =
    ap (λ d. if has_row a.id rows || is_empty d then [] else given_default_fault a d) e
    ∙ ap (λ b. if b then [] else given_default_fault a []) (or-true (has_row a.id rows))

defaults_kept : (rows : List Row) (others : List Rule) → NoDefaults others → fold with_default rows others ≡ rows
defaults_kept rows [] h = refl
defaults_kept rows (a ∷ others) h = ap (λ r. fold with_default r others) (default_kept rows a h.0) ∙ defaults_kept rows others h.1

defaults_faultless : (rows : List Row) (others : List Rule) → NoDefaults others → defaults_fault rows others ≡ []
unfolding defaults_fault
defaults_faultless rows [] h = refl
defaults_faultless rows (a ∷ others) h =
    ap (λ f. or_else f (defaults_fault (with_default rows a) others)) (default_faultless rows a h.0)
    ∙ ap (λ r. defaults_fault r others) (default_kept rows a h.0)
    ∙ defaults_faultless rows others h.1

abbrev pub ending : Held → Kinds
ending held = or_else (settle_fault rules false held) (or_else (defaults_fault (settled rules held).rows rules) (check_fault shape (finished rules held) false))

ending_is : (rows : List Row) (pending : Pending) → ending (held_at rows pending) ≡ []
ending_is rows pending =
    let held = held_at rows pending in
    ap (λ f. or_else f (or_else (defaults_fault (settled rules held).rows rules) (check_fault shape (finished rules held) false))) (settle_faultless rows pending)
    ∙ ap (λ f. or_else f (check_fault shape (finished rules held) false)) (defaults_faultless (settled rules held).rows rules no_defaults)

ending_fails : (rows : List Row) (name : Name) → is_empty (ending (held_for rows name)) ≡ false
ending_fails rows name =
    let held = held_for rows name in
    ap (λ f. is_empty (or_else f (or_else (defaults_fault (settled rules held).rows rules) (check_fault shape (finished rules held) false)))) (settle_missing rows name)

finished_is : (rows : List Row) (pending : Pending) → finished rules (held_at rows pending) ≡ all_rows rows pending
finished_is rows pending =
    defaults_kept (settled rules (held_at rows pending)).rows rules no_defaults ∙ ap (λ (h : Held). h.rows) (settled_is rows pending)

-- ## Steps of the walk

abbrev pub level : Walk → List Text → Kinds
level w words = or_else (walk_fault shape [] w words) (ending (fold (walked rules []) w words).held)

-- a fact of the words from here on: `found` are their items, and `rows` those before them
pub record Reads (w : Walk) (words : List Text) (rows : List Row) (found : Option (List Item)) : Type 0 where
  pub faults : is_empty (level w words) ≡ is_some found
  pub holds : IfSome found (λ items. finished rules (fold (walked rules []) w words).held ≡ fold add rows items)

level_on : (w next : Walk) (word : Text) (words : List Text) → turn_fault shape [] w word ≡ [] → walked rules [] w word ≡ next → level w (word ∷ words) ≡ level next words
unfolding walk_fault
level_on w next word words turn step =
    ap (λ f. or_else (or_else f (walk_fault shape [] (walked rules [] w word) words)) (ending (fold (walked rules []) (walked rules [] w word) words).held)) turn
    ∙ ap (λ v. level v words) step

level_off : (w : Walk) (word : Text) (words : List Text) → is_empty (turn_fault shape [] w word) ≡ false → is_empty (level w (word ∷ words)) ≡ false
unfolding walk_fault
level_off w word words turn =
    fails_first (or_else (turn_fault shape [] w word) (walk_fault shape [] (walked rules [] w word) words)) (ending (fold (walked rules []) (walked rules [] w word) words).held)
    (fails_first (turn_fault shape [] w word) (walk_fault shape [] (walked rules [] w word) words) turn)

-- a word without a fault that adds no item
pub passes : (w next : Walk) (word : Text) (words : List Text) (rows : List Row) (found : Option (List Item)) → turn_fault shape [] w word ≡ [] → walked rules [] w word ≡ next
    → Reads next words rows found → Reads w (word ∷ words) rows found
passes w next word words rows found turn step more = record {
  faults = ap is_empty (level_on w next word words turn step) ∙ more.faults;
  holds = subst (λ (v : Walk). IfSome found (λ items. finished rules (fold (walked rules []) v words).held ≡ fold add rows items)) (sym step) more.holds;
}

-- one that adds an item
pub adds : (w next : Walk) (word : Text) (words : List Text) (rows : List Row) (item : Item) (found : Option (List Item)) → turn_fault shape [] w word ≡ [] → walked rules [] w word ≡ next
    → Reads next words (add rows item) found → Reads w (word ∷ words) rows (and_more item found)
adds w next word words rows item None turn step more = record { faults = ap is_empty (level_on w next word words turn step) ∙ more.faults; holds = tt }
adds w next word words rows item (Some items) turn step more = record {
  faults = ap is_empty (level_on w next word words turn step) ∙ more.faults;
  holds = ap (λ (v : Walk). finished rules (fold (walked rules []) v words).held) step ∙ more.holds;
}

-- one with a fault
pub fails : (w : Walk) (word : Text) (words : List Text) (rows : List Row) → is_empty (turn_fault shape [] w word) ≡ false → Reads w (word ∷ words) rows None
fails w word words rows turn = record { faults = level_off w word words turn; holds = tt }

pub ends : (rows : List Row) (pending : Pending) (is_trailing : Bool) → Reads (at rows pending is_trailing) [] (all_rows rows pending) (Some [])
unfolding walk_fault
ends rows pending is_trailing = record { faults = ap is_empty (ending_is rows pending); holds = finished_is rows pending }

pub ends_waiting : (rows : List Row) (name : Name) → Reads (at_option rows name) [] rows None
unfolding walk_fault
ends_waiting rows name = record { faults = ending_fails rows name; holds = tt }

pub trailing_reads : (rows : List Row) (pending : Pending) (words : List Text) → Reads (at rows pending true) words (all_rows rows pending) (Some (map file words))
trailing_reads rows pending [] = ends rows pending true
trailing_reads rows pending (word ∷ words) =
    adds (at rows pending true) (at (all_rows rows pending) (a_file word) true) word words (all_rows rows pending) (file word) (Some (map file words))
    (trailing_turn rows pending word) (trailing_walked rows pending word) (trailing_reads (all_rows rows pending) (a_file word) words)

pub trailing_fails : (rows : List Row) (name : Name) (words : List Text) → Reads (waits.at_end rows name) words rows None
unfolding walk_fault
trailing_fails rows name [] = record { faults = ending_fails rows name; holds = tt }
trailing_fails rows name (word ∷ words) = fails (waits.at_end rows name) word words rows (waits.trailing_fails rows name word)

-- ## What the grammar says of a word

pub use_known : (more : Option Text → Option (List Item)) (name : Name) → use_of more (id_of name, None) ≡ more (Some (id_of name))
use_known more workers = refl
use_known more budget = refl
use_known more evict = refl
use_known more admit = refl
use_known more credits = refl
use_known more weights = refl

pub use_joined : (more : Option Text → Option (List Item)) (name : Name) (v : Text) → use_of more (id_of name, Some v) ≡ and_more (id_of name, v) (more None)
use_joined more workers v = refl
use_joined more budget v = refl
use_joined more evict v = refl
use_joined more admit v = refl
use_joined more credits v = refl
use_joined more weights v = refl

pub use_unknown : (more : Option Text → Option (List Item)) (name : Text) (v : Option Text) → is_valued name ≡ false → bytes_eq (codes "events") name ≡ false → use_of more (name, v) ≡ None
use_unknown more name None off no_events =
    ap (λ b. if b then more (Some name) else (if bytes_eq (codes "events") name then and_more events (more None) else None)) off
    ∙ ap (λ b. if b then and_more events (more None) else None) no_events
use_unknown more name (Some v) off no_events = ap (λ b. if b then and_more (name, v) (more None) else None) off

abbrev pub more_in : List Text → Option Text → Option (List Item)
more_in words waiting = items_in waiting words

pub in_plain : (word : Text) (words : List Text) → is_end word ≡ false → is_option word ≡ false → items_in None (word ∷ words) ≡ and_more (file word) (items_in None words)
in_plain word words no_end no_option =
    ap (λ b. if b then Some (map file words) else (if is_option word then option_and_then (use_of (more_in words)) (option_in word) else and_more (file word) (items_in None words))) no_end
    ∙ ap (λ b. if b then option_and_then (use_of (more_in words)) (option_in word) else and_more (file word) (items_in None words)) no_option

pub in_end : (word : Text) (words : List Text) → is_end word ≡ true → items_in None (word ∷ words) ≡ Some (map file words)
in_end word words e =
    ap (λ b. if b then Some (map file words) else (if is_option word then option_and_then (use_of (more_in words)) (option_in word) else and_more (file word) (items_in None words))) e

pub in_option : (word : Text) (words : List Text) (p : Option (Text × Option Text)) → is_end word ≡ false → is_option word ≡ true → option_in word ≡ p
    → items_in None (word ∷ words) ≡ option_and_then (use_of (more_in words)) p
in_option word words p no_end is e =
    ap (λ b. if b then Some (map file words) else (if is_option word then option_and_then (use_of (more_in words)) (option_in word) else and_more (file word) (items_in None words))) no_end
    ∙ ap (λ b. if b then option_and_then (use_of (more_in words)) (option_in word) else and_more (file word) (items_in None words)) is
    ∙ ap (λ p. option_and_then (use_of (more_in words)) p) e

pub waits_value : (name word : Text) (words : List Text) → is_option word ≡ false → items_in (Some name) (word ∷ words) ≡ and_more (name, word) (items_in None words)
waits_value name word words e = ap (λ b. if b then None else and_more (name, word) (items_in None words)) e

pub waits_none : (name word : Text) (words : List Text) → is_option word ≡ true → items_in (Some name) (word ∷ words) ≡ None
waits_none name word words e = ap (λ b. if b then None else and_more (name, word) (items_in None words)) e
