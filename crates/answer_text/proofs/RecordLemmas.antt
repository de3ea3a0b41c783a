-- The records of the `csv` crate are those of the layout.
use Rattle.std.proofs.Common.{◌≡◌, ℕ, ◌==◌, Bool, true, false, cond, ◌||◌, List, [], ◌∷◌, ◌++◌, ◌+◌, ◌<◌, length, take, get_or, refl, sym, ap, ◌∙◌, arith, map}
use Rattle.std.specs.Prelude.{flat_map}
use Rattle.std.specs.List.{list_any}
use Rattle.std.proofs.lemmas.Bool.Decides.{Decides-eqb, nat_tests}
use Rattle.std.proofs.lemmas.List.{take_more, flat_map_more}
use Rattle.cell_core.specs.declared.cell.Cell.{Cell}
use Rattle.cell_core.specs.CellText.{cell_text}
use Rattle.csv.specs.Writing.{default_writer, with_flexible}
use Rattle.csv.specs.Writing as csv
use Rattle.csv.specs.declared.writer.WriterBuilder.{WriterBuilder}
use Rattle.reply_layout.specs.Layout as layout

-- the writer that takes rows of several widths
abbrev pub row_writer : WriterBuilder
row_writer = with_flexible default_writer true

regroup : (p q r s : Bool) → ((((p || q) || (r || s)) || false) || false) ≡ (((p || q) || r) || s)
regroup true q r s = refl
regroup false true r s = refl
regroup false false true s = refl
regroup false false false true = refl
regroup false false false false = refl

special_is : (b : ℕ) → csv.needs_byte row_writer b ≡ layout.is_special b
special_is b = regroup (b == 44) (b == 34) (b == 13) (b == 10)

needs_is : (field : List ℕ) → csv.needs_quotes row_writer field ≡ list_any layout.is_special field
needs_is [] = refl
needs_is (b ∷ bs) = ap (λ p. p || list_any (csv.needs_byte row_writer) bs) (special_is b) ∙ ap (λ q. layout.is_special b || q) (needs_is bs)

-- a quote, as the mark before it doubles it
doubled : (b : ℕ) (t : List ℕ) → cond (b == 34) (34 ∷ b ∷ t) (b ∷ t) ≡ layout.field_byte b ++ t
doubled b t =
    elim (b == 34) as (λ p. (b == 34) ≡ p → cond p (34 ∷ b ∷ t) (b ∷ t) ≡ cond p (34 ∷ 34 ∷ []) (b ∷ []) ++ t) [
      | true ↦ λ e. ap (λ x. 34 ∷ x ∷ t) ((Decides-eqb b 34).0 e)
      | false ↦ λ e. refl
    ] refl

escaped_is : (field : List ℕ) → csv.escaped row_writer field ≡ flat_map layout.field_byte field
unfolding csv.escaped
escaped_is [] = refl
escaped_is (b ∷ bs) = ap (λ t. cond (b == 34) (34 ∷ b ∷ t) (b ∷ t)) (escaped_is bs) ∙ doubled b (flat_map layout.field_byte bs)

field_is : (field : List ℕ) → csv.field_text row_writer field ≡ layout.field_text field
field_is field =
    ap (λ p. cond p (34 ∷ (csv.escaped row_writer field ++ 34 ∷ [])) field) (needs_is field)
    ∙ ap (λ t. cond (list_any layout.is_special field) (34 ∷ (t ++ 34 ∷ [])) field) (escaped_is field)

fields_is : (fields : List (List ℕ)) → csv.fields_text row_writer fields ≡ flat_map (λ more. 44 ∷ layout.field_text more) fields
unfolding csv.fields_text
fields_is [] = refl
fields_is (field ∷ fields) =
    ap (λ t. 44 ∷ (t ++ csv.fields_text row_writer fields)) (field_is field) ∙ ap (λ t. 44 ∷ (layout.field_text field ++ t)) (fields_is fields)

-- one field, which may be empty
one_field : (t : List ℕ) → (t ++ []) ++ (cond (length t == 0) (34 ∷ 34 ∷ []) [] ++ 10 ∷ []) ≡ layout.quoted_if_empty (t ++ []) ++ 10 ∷ []
one_field [] = refl
one_field (b ∷ bs) =
    let some : (length (b ∷ bs) == 0) ≡ false = grind (arith, nat_tests) in
    ap (λ p. ((b ∷ bs) ++ []) ++ (cond p (34 ∷ 34 ∷ []) [] ++ 10 ∷ [])) some

-- with a comma there is a byte
with_comma : (t u : List ℕ) → layout.quoted_if_empty (t ++ 44 ∷ u) ≡ t ++ 44 ∷ u
with_comma [] u = refl
with_comma (b ∷ bs) u = refl

-- the text of a record of that writer
pub record_is : (fields : List (List ℕ)) → csv.row_text row_writer fields ≡ layout.record_text fields
unfolding csv.fields_text csv.is_blank
record_is [] = refl
record_is (field ∷ []) =
    ap (λ t. (t ++ []) ++ (cond (length t == 0) (34 ∷ 34 ∷ []) [] ++ 10 ∷ [])) (field_is field) ∙ one_field (layout.field_text field)
record_is (field ∷ next ∷ fields) =
    ap (λ t. (t ++ csv.fields_text row_writer (next ∷ fields)) ++ 10 ∷ []) (field_is field)
    ∙ ap (λ t. (layout.field_text field ++ t) ++ 10 ∷ []) (fields_is (next ∷ fields))
    ∙ ap (λ t. t ++ 10 ∷ []) (sym (with_comma (layout.field_text field) _))

-- one row more
pub rows_more : (start old new : List ℕ) (rows : List (List Cell)) (i : ℕ) (row : List Cell) → i < length rows → row ≡ get_or rows i row
    → old ≡ start ++ flat_map layout.row_record (take i rows) → new ≡ old ++ csv.row_text row_writer (map cell_text row) → new ≡ start ++ flat_map layout.row_record (take (i + 1) rows)
rows_more start old new rows i row within is so_far next =
    next
    ∙ ap (λ t. old ++ t) (record_is (map cell_text row))
    ∙ ap (λ t. t ++ layout.row_record row) so_far
    ∙ flat_map_more layout.row_record start (take i rows) row
    ∙ ap (λ rs. start ++ flat_map layout.row_record rs) (ap (λ r. take i rows ++ r ∷ []) is ∙ sym (take_more rows i row within))
