-- When two keys, or two shapes, are the same, and that this decides equality.
use Rattle.std.specs.Prelude.{◌≡◌, ◌==◌, ◌&&◌, Bool, true, false, refl}
use Rattle.std.specs.Bool.{Decides}
use Rattle.std.specs.Cmp.{IsEquivalence, decided, first_so, second_so}
use Rattle.std.specs.Str.{bytes_eq}
use Rattle.std.specs.Cmp.Lexicographic.{pointwise, pointwise_decides}
use Rattle.std.proofs.Common.{ap, ◌∙◌}
use Rattle.std.proofs.lemmas.Bool.Decides.{Decides-eqb, Decides-like}
use Rattle.std.proofs.lemmas.Slice.Eq.{bytes_eq-Decides}
use Rattle.cell_core.specs.SameInstr.{same_op, same_op_decides}
use Rattle.cell_core.specs.Decided.{decides_by}
use Rattle.cell_core.specs.Same.{same_cell, same_decides}
use Rattle.lineage_key.specs.declared.shape.Shape.{Shape}
use Rattle.lineage_key.specs.declared.key.Key.{Key}
use Rattle.lineage_key.specs.declared.key.KeyArg.{KeyArg}
use Rattle.lineage_key.specs.declared.key.KeyArg.TheVariants.{Const, Id}

-- both the same constant, or both the same id
abbrev pub same_arg : KeyArg → KeyArg → Bool
same_arg (Const a) (Const b) = same_cell a b
same_arg (Id m) (Id n) = m == n
same_arg _ _ = false

-- the same operator, arguments and version
abbrev pub same_key : Key → Key → Bool
same_key a b = same_op a.op b.op && pointwise same_arg a.args b.args && a.version == b.version

-- the same operator, table, column and arguments
abbrev pub same_shape : Shape → Shape → Bool
same_shape a b = same_op a.op b.op && bytes_eq a.table b.table && bytes_eq a.column b.column && bytes_eq a.args b.args

-- the tests are true exactly of what is equal
pub same_arg_decides : (a b : KeyArg) → Decides (same_arg a b) (a ≡ b)
same_arg_decides (Const a) (Const b) = Decides-like _ (λ e. ap Const e) (λ e. cc) (same_decides a b)
same_arg_decides (Id m) (Id n) = Decides-like _ (λ e. ap Id e) (λ e. cc) (Decides-eqb m n)
same_arg_decides _ _ = (λ e. cc, λ e. cc)

every_key : (a : Key) → same_key a a ≡ true
every_key a =
    let op : same_op a.op a.op ≡ true = (same_op_decides a.op a.op).1 refl in
    let args : pointwise same_arg a.args a.args ≡ true = (pointwise_decides same_arg_decides a.args a.args).1 refl in
    let version : (a.version == a.version) ≡ true = (Decides-eqb a.version a.version).1 refl in
    ap (λ p. p && pointwise same_arg a.args a.args && a.version == a.version) op ∙ ap (λ p. p && a.version == a.version) args ∙ version

one_key : (a b : Key) → same_key a b ≡ true → a ≡ b
one_key a b e =
    let front = first_so (same_op a.op b.op && pointwise same_arg a.args b.args) (a.version == b.version) e in
    let op : a.op ≡ b.op = (same_op_decides a.op b.op).0 (first_so (same_op a.op b.op) (pointwise same_arg a.args b.args) front) in
    let args : a.args ≡ b.args = (pointwise_decides same_arg_decides a.args b.args).0 (second_so (same_op a.op b.op) (pointwise same_arg a.args b.args) front) in
    let version : a.version ≡ b.version = (Decides-eqb a.version b.version).0 (second_so (same_op a.op b.op && pointwise same_arg a.args b.args) (a.version == b.version) e) in
    λ i. record { op = op i; args = args i; version = version i }

pub same_key_decides : (a b : Key) → Decides (same_key a b) (a ≡ b)
same_key_decides = decides_by same_key every_key one_key

every_shape : (a : Shape) → same_shape a a ≡ true
every_shape a =
    let op : same_op a.op a.op ≡ true = (same_op_decides a.op a.op).1 refl in
    let table : bytes_eq a.table a.table ≡ true = (bytes_eq-Decides a.table a.table).1 refl in
    let column : bytes_eq a.column a.column ≡ true = (bytes_eq-Decides a.column a.column).1 refl in
    let args : bytes_eq a.args a.args ≡ true = (bytes_eq-Decides a.args a.args).1 refl in
    ap (λ p. p && bytes_eq a.table a.table && bytes_eq a.column a.column && bytes_eq a.args a.args) op
    ∙ ap (λ p. p && bytes_eq a.column a.column && bytes_eq a.args a.args) table
    ∙ ap (λ p. p && bytes_eq a.args a.args) column ∙ args

one_shape : (a b : Shape) → same_shape a b ≡ true → a ≡ b
one_shape a b e =
    let four = first_so (same_op a.op b.op && bytes_eq a.table b.table && bytes_eq a.column b.column) (bytes_eq a.args b.args) e in
    let args : a.args ≡ b.args = (bytes_eq-Decides a.args b.args).0 (second_so (same_op a.op b.op && bytes_eq a.table b.table && bytes_eq a.column b.column) (bytes_eq a.args b.args) e) in
    let three = first_so (same_op a.op b.op && bytes_eq a.table b.table) (bytes_eq a.column b.column) four in
    let column : a.column ≡ b.column = (bytes_eq-Decides a.column b.column).0 (second_so (same_op a.op b.op && bytes_eq a.table b.table) (bytes_eq a.column b.column) four) in
    let table : a.table ≡ b.table = (bytes_eq-Decides a.table b.table).0 (second_so (same_op a.op b.op) (bytes_eq a.table b.table) three) in
    let op : a.op ≡ b.op = (same_op_decides a.op b.op).0 (first_so (same_op a.op b.op) (bytes_eq a.table b.table) three) in
    λ i. record { op = op i; table = table i; column = column i; args = args i }

pub same_shape_decides : (a b : Shape) → Decides (same_shape a b) (a ≡ b)
same_shape_decides = decides_by same_shape every_shape one_shape

pub same_arg_equivalence : IsEquivalence same_arg
same_arg_equivalence = decided same_arg same_arg_decides

pub same_key_equivalence : IsEquivalence same_key
same_key_equivalence = decided same_key same_key_decides

pub same_shape_equivalence : IsEquivalence same_shape
same_shape_equivalence = decided same_shape same_shape_decides
