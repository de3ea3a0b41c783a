-- The rows of items have the values under each name.
use Rattle.std.proofs.Common.{◌≡◌, ◌∙◌, List, [], ◌∷◌, ◌++◌, Bool, true, false, Option, Some, None, if◌then◌else◌, refl, sym, ap, fold, map, filter, append_assoc, unwrap_or}
use Rattle.std.proofs.lemmas.Slice.Eq.{bytes_eq-Decides}
use Rattle.std.specs.Option.{option_map}
use Rattle.std.specs.Str.{bytes_eq}
use Rattle.std.specs.List.{find}
use Rattle.clap.specs.Walk.{Row, all_of, reading_by, stronger}
use Rattle.clap.specs.declared.parser.matches.ValueSource.TheVariants.{CommandLine}
use Rattle.command_line.specs.Words.{Item, Text, values_of}
use Rattle.command_line.proofs.Walk.{add, files_built}

-- values after those that there are
abbrev pub joined : Option (List Text) → List Text → Option (List Text)
joined old [] = old
joined None (v ∷ vs) = Some (v ∷ vs)
joined (Some old) (v ∷ vs) = Some (old ++ v ∷ vs)

abbrev one_if : Bool → Text → List Text
one_if true v = v ∷ []
one_if false v = []

-- a row that has the name, and one that has another
all_here : (id : Text) (r : Row) (rows : List Row) (b : Bool) → bytes_eq r.id id ≡ b → all_of id (r ∷ rows) ≡ (if b then Some r.values else all_of id rows)
all_here id r rows true e = ap (λ t. option_map (λ (r : Row). r.values) (if t then Some r else find (λ r. bytes_eq r.id id) rows)) e
all_here id r rows false e = ap (λ t. option_map (λ (r : Row). r.values) (if t then Some r else find (λ r. bytes_eq r.id id) rows)) e

joined_none : (old : Option (List Text)) → joined old [] ≡ old
joined_none None = refl
joined_none (Some vs) = refl

abbrev new_row : Item → Row
new_row item = record { id = item.0; values = item.1 ∷ []; count = None; source = Some CommandLine; reading = reading_by files_built }

abbrev longer : Text → Row → Row
longer v r = record r { values = r.values ++ v ∷ []; source = Some (stronger r.source CommandLine) }

abbrev values_at : Option Row → Option (List Text)
values_at found = option_map (λ r. r.values) found

-- the item's row is new
new_values : (item : Item) (b : Bool) → values_at (if b then Some (new_row item) else None) ≡ joined None (one_if b item.1)
new_values item true = refl
new_values item false = refl

-- the row that is here is the item's
longer_values : (v : Text) (r : Row) (found : Option Row) (b : Bool) → values_at (if b then Some (longer v r) else found) ≡ joined (values_at (if b then Some r else found)) (one_if b v)
longer_values v r found true = refl
longer_values v r found false = sym (joined_none (values_at found))

-- it is another's
other_name : (id name other : Text) → bytes_eq other name ≡ false → bytes_eq other id ≡ true → bytes_eq name id ≡ false
other_name id name other apart same = by (bytes_eq name id) refl
  where
    by : (t : Bool) → bytes_eq name id ≡ t → bytes_eq name id ≡ false
    by false e = e
    by true e =
        let is : other ≡ name = (bytes_eq-Decides other id).0 same ∙ sym ((bytes_eq-Decides name id).0 e) in
        let both : true ≡ false = sym ((bytes_eq-Decides other name).1 is) ∙ apart in
        absurd (cc)

other_values : (id : Text) (item : Item) (r : Row) (rows : List Row) (b : Bool) → bytes_eq r.id id ≡ b → bytes_eq r.id item.0 ≡ false
    → all_of id (add rows item) ≡ joined (all_of id rows) (one_if (bytes_eq item.0 id) item.1)
    → all_of id (r ∷ add rows item) ≡ joined (all_of id (r ∷ rows)) (one_if (bytes_eq item.0 id) item.1)
other_values id item r rows true e apart more =
    all_here id r (add rows item) true e
    ∙ sym (ap (λ b. joined (Some r.values) (one_if b item.1)) (other_name id item.0 r.id apart e))
    ∙ sym (ap (λ o. joined o (one_if (bytes_eq item.0 id) item.1)) (all_here id r rows true e))
other_values id item r rows false e apart more =
    all_here id r (add rows item) false e
    ∙ more
    ∙ sym (ap (λ o. joined o (one_if (bytes_eq item.0 id) item.1)) (all_here id r rows false e))

abbrev Adds : Text → Item → List Row → Type 0
Adds id item rows = all_of id (add rows item) ≡ joined (all_of id rows) (one_if (bytes_eq item.0 id) item.1)

add_here : (id : Text) (r : Row) (rows : List Row) (item : Item) (t : Bool) → bytes_eq r.id item.0 ≡ t → Adds id item rows → Adds id item (r ∷ rows)
add_here id r rows item true e more =
    ap (λ t. all_of id (if t then longer item.1 r ∷ rows else r ∷ add rows item)) e
    ∙ longer_values item.1 r (find (λ r. bytes_eq r.id id) rows) (bytes_eq r.id id)
    ∙ ap (λ (name : Text). joined (all_of id (r ∷ rows)) (one_if (bytes_eq name id) item.1)) ((bytes_eq-Decides r.id item.0).0 e)
add_here id r rows item false e more =
    ap (λ t. all_of id (if t then longer item.1 r ∷ rows else r ∷ add rows item)) e
    ∙ other_values id item r rows (bytes_eq r.id id) refl e more

after_add : (id : Text) (rows : List Row) (item : Item) → Adds id item rows
after_add id [] item = new_values item (bytes_eq item.0 id)
after_add id (r ∷ rows) item = add_here id r rows item (bytes_eq r.id item.0) refl (after_add id rows item)

more_values : (old : Option (List Text)) (item : Item) (id : Text) (items : List Item) (b : Bool)
    → joined (joined old (one_if b item.1)) (values_of id items) ≡ joined old (map (λ item. item.1) (if b then item ∷ filter (λ item. bytes_eq item.0 id) items else filter (λ item. bytes_eq item.0 id) items))
more_values old item id items false = ap (λ o. joined o (values_of id items)) (joined_none old)
more_values old item id items true = by old (values_of id items)
  where
    by : (old : Option (List Text)) (vs : List Text) → joined (joined old (item.1 ∷ [])) vs ≡ joined old (item.1 ∷ vs)
    by None [] = refl
    by None (v ∷ vs) = refl
    by (Some old) [] = refl
    by (Some old) (v ∷ vs) = ap (λ l. Some l) (append_assoc old (item.1 ∷ []) (v ∷ vs))

after_items : (id : Text) (rows : List Row) (items : List Item) → all_of id (fold add rows items) ≡ joined (all_of id rows) (values_of id items)
after_items id rows [] = sym (joined_none (all_of id rows))
after_items id rows (item ∷ items) =
    after_items id (add rows item) items
    ∙ ap (λ o. joined o (values_of id items)) (after_add id rows item)
    ∙ more_values (all_of id rows) item id items (bytes_eq item.0 id)

or_none : (vs : List Text) → unwrap_or (joined None vs) [] ≡ vs
or_none [] = refl
or_none (v ∷ vs) = refl

pub values_found : (id : Text) (items : List Item) → unwrap_or (all_of id (fold add [] items)) [] ≡ values_of id items
values_found id items = ap (λ o. unwrap_or o []) (after_items id [] items) ∙ or_none (values_of id items)
