-- clap takes the words exactly where they are options and files, and finds their values.
use Rattle.std.proofs.Common.{codes, ◌≡◌, ◌∙◌, List, [], ◌∷◌, true, false, Option, Some, None, IfSome, is_some, refl, sym, ap, fold, unwrap_or, ◌⊎◌, inl, inr, arith, suc}
use Rattle.std.specs.Option.{option_map}
use Rattle.std.specs.Borrow.{Bor}
use Rattle.clap.specs.Walk.{Text, Walk, all_of, is_empty, nothing_held, rows_of, walk}
use Rattle.clap.specs.Simple.{App, HasMatchesOf, entered, is_simple, matches_of}
use Rattle.clap.specs.Matches.{found_of}
use Rattle.clap.proofs.SimpleLemmas.{is_nil}
use Rattle.clap.proofs.WalkLemmas.{raw_values-rows}
use Rattle.clap.specs.declared.parser.matches.ArgMatches.{ArgMatches}
use Rattle.clap.specs.declared.error.kind.ErrorKind.{ErrorKind}
use Rattle.clap.specs.declared.error.kind.ErrorKind.TheVariants.{OutOfMemory}
use Rattle.clap.specs.Faults.{entered_fault, fault_of, is_simple_and_free, level_fault}
use Rattle.clap.specs.Kinds.{IsAmong, Kinds}
use Rattle.command_line.specs.Words.{Item, items_in, uses_named, uses_of, values_of}
use Rattle.command_line.specs.Matches.{AreUtf8, texts_in, told_app, uses_in, values_in}
use Rattle.command_line.proofs.Walk.{add, at, nothing, rules, shape}
use Rattle.command_line.proofs.Each.{AreText, each}
use Rattle.command_line.proofs.Steps.{level}
use Rattle.command_line.proofs.Found.{values_found}

abbrev start : Walk
start = at [] nothing false

abbrev built_app : App
built_app = record { top = shape; subs = [] }

fault_is : (words : List Text) → fault_of told_app words ≡ level start words
fault_is words = by (walk rules [] nothing_held words).stopped
  where
    by : (stop : Option (Text × List Text)) → level_fault shape [] nothing_held words (is_some (entered built_app stop)) (entered_fault built_app stop) ≡ level start words
    by None = refl
    by (Some p) = refl

told_simple : is_simple_and_free told_app ≡ true
told_simple = refl

faultless : (words : List Text) → AreText words → is_empty (fault_of told_app words) ≡ is_some (items_in None words)
faultless words text = ap is_empty (fault_is words) ∙ ((each words text).ready [] nothing).faults

abbrev Finds : List Text → Option (List Item) → Type 0
Finds words found = IfSome found (λ items. matches_of told_app words ≡ fold add [] items)

finds : (words : List Text) → AreText words → Finds words (items_in None words)
finds words text = ((each words text).ready [] nothing).holds

-- ## What clap promises of a call

are_text : (texts : List (Bor Text)) → AreUtf8 texts → AreText (texts_in texts)
are_text [] utf8 = tt
are_text (text ∷ texts) utf8 = (utf8 0 text (omega arith), are_text texts (λ k d within. utf8 (suc k) d (omega arith)))

found_under : (matches : ArgMatches) (items : List Item) (name : Text) → rows_of (found_of matches) ≡ fold add [] items → values_in matches name ≡ values_of name items
found_under matches items name rows =
    ap (λ o. unwrap_or o []) (raw_values-rows (found_of matches) name ∙ ap (all_of name) rows) ∙ values_found name items

same_uses : (matches : ArgMatches) (items : List Item) → ((name : Text) → values_in matches name ≡ values_of name items) → uses_in matches ≡ uses_of items
same_uses matches items each =
    rw (each (codes "workers"), each (codes "budget"), each (codes "evict"), each (codes "admit"), each (codes "credits"), each (codes "weights"), each (codes "events"), each (codes "files")) refl

-- where it succeeds
pub found_is : (app : App) (texts : List (Bor Text)) (matches : ArgMatches) → app ≡ told_app → AreUtf8 texts
    → (is_simple_and_free app ≡ true → fault_of app (texts_in texts) ≡ []) → HasMatchesOf app (texts_in texts) matches
    → Some (uses_in matches) ≡ uses_named (texts_in texts)
found_is app texts matches is utf8 kinds has =
    let words = texts_in texts in
    let no_fault : fault_of told_app words ≡ [] = ap (λ a. fault_of a words) (sym is) ∙ kinds (ap is_simple_and_free is ∙ told_simple) in
    let named : is_some (items_in None words) ≡ true = sym (faultless words (are_text texts utf8)) ∙ ap is_empty no_fault in
    let rows : rows_of (found_of matches) ≡ matches_of told_app words = (has (ap is_simple is)).0 ∙ ap (λ a. matches_of a words) is in
    by (items_in None words) named (finds words (are_text texts utf8)) rows
  where
    by : (found : Option (List Item)) → is_some found ≡ true → Finds (texts_in texts) found → rows_of (found_of matches) ≡ matches_of told_app (texts_in texts)
        → Some (uses_in matches) ≡ option_map uses_of found
    by None named found rows = absurd (cc)
    by (Some items) named found rows = ap (λ u. Some u) (same_uses matches items (λ name. found_under matches items name (rows ∙ found)))

among_none : (kind : ErrorKind) (kinds : Kinds) (found : Option (List Item)) → IsAmong kind kinds → is_empty kinds ≡ is_some found → None ≡ option_map uses_of found
among_none kind [] found among e = absurd among
among_none kind (k ∷ ks) None among e = refl
among_none kind (k ∷ ks) (Some items) among e = let none : k ∷ ks ≡ [] = is_nil (k ∷ ks) e in absurd (cc)

-- where it fails, and not for want of memory
pub refused_is : (app : App) (texts : List (Bor Text)) (kind : ErrorKind) → app ≡ told_app → AreUtf8 texts
    → (is_simple_and_free app ≡ true → (kind ≡ OutOfMemory) ⊎ IsAmong kind (fault_of app (texts_in texts))) → (kind ≡ OutOfMemory → ⊥)
    → None ≡ uses_named (texts_in texts)
refused_is app texts kind is utf8 kinds not_memory =
    let words = texts_in texts in
    let exact : is_empty (fault_of app words) ≡ is_some (items_in None words) = ap (λ a. is_empty (fault_of a words)) is ∙ faultless words (are_text texts utf8) in
    elim (kinds (ap is_simple_and_free is ∙ told_simple)) [
      | inl memory ↦ absurd (not_memory memory)
      | inr among ↦ among_none kind (fault_of app words) (items_in None words) among exact
    ]
