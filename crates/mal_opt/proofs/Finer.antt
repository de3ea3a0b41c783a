-- Finer types: a kind that is that of Nil in place of any. An operator takes finer types as well, and returns a finer one.
use Rattle.std.proofs.Common.{◌≡◌, ◌+◌, ℕ, suc, zero, List, [], ◌∷◌, ◌++◌, length, map, Bool, true, false, cond, Option, Some, None, refl, ap, sym, ◌∙◌, subst}
use Rattle.std.specs.Prelude.{◌&&◌, ◌||◌, ◌==◌, slice_get}
use Rattle.std.specs.Bool.{then_some}
use Rattle.std.specs.Option.{option_or, option_map, option_and_then}
use Rattle.std.specs.Cmp.{first_so, second_so}
use Rattle.std.proofs.lemmas.Option.{same_Some}
use Rattle.std.proofs.lemmas.Bool.{and_from}
use Rattle.cell_core.specs.declared.cell.Cell.{Cell}
use Rattle.cell_core.specs.declared.cell.Cell.TheVariants as cell
use Rattle.cell_core.specs.declared.cell.Kind.{Kind}
use Rattle.cell_core.specs.declared.cell.Kind.TheVariants as kind
use Rattle.cell_core.specs.declared.operator.Op.{Op}
use Rattle.cell_core.specs.declared.operator.Op.TheVariants as op
use Rattle.cell_core.specs.declared.operator.Value.TheVariants.{One}
use Rattle.cell_core.specs.Kinds.{ValueType, OneOf, BatOf, same_kind, agrees, is_of_kind, is_of_type, kind_of, is_numeric, both_are, are_comparable, cells_kind, calculated_type, from_bat, from_bats, from_bat_and_cell, from_range, from_two, from_one, from_any, result_type}

-- the same kind, or that of Nil in its place
abbrev pub finer : Option Kind → Option Kind → Bool
finer None b = true
finer (Some a) None = false
finer (Some a) (Some b) = same_kind a b

abbrev pub IsFiner : ValueType → ValueType → Type 0
IsFiner (OneOf a) (OneOf b) = finer a b ≡ true
IsFiner (BatOf h t) (BatOf h' t') = (finer h h' ≡ true) × (finer t t' ≡ true)
IsFiner (OneOf a) (BatOf h t) = ⊥
IsFiner (BatOf h t) (OneOf a) = ⊥

same_is : (a b : Kind) → same_kind a b ≡ true → a ≡ b
same_is kind.Int kind.Int e = refl
same_is kind.Huge kind.Huge e = refl
same_is kind.Text kind.Text e = refl
same_is kind.Day kind.Day e = refl
same_is kind.Bit kind.Bit e = refl
same_is kind.Oid kind.Oid e = refl
same_is a b e = cc

same_itself : (a : Kind) → same_kind a a ≡ true
same_itself kind.Int = refl
same_itself kind.Huge = refl
same_itself kind.Text = refl
same_itself kind.Day = refl
same_itself kind.Bit = refl
same_itself kind.Oid = refl

pub finer_itself : (k : Option Kind) → finer k k ≡ true
finer_itself None = refl
finer_itself (Some a) = same_itself a

-- finer is Nil's kind, or the same
pub finer_cases : (P : Option Kind → Type 0) (a b : Option Kind) → finer a b ≡ true → P None → P b → P a
finer_cases P None b e n s = n
finer_cases P (Some a) None e n s = absurd (cc)
finer_cases P (Some a) (Some b) e n s = subst P (ap Some (sym (same_is a b e))) s

finer_along : (a b c : Option Kind) → finer a b ≡ true → finer b c ≡ true → finer a c ≡ true
finer_along a b c e f = finer_cases (λ x. finer x c ≡ true) a b e refl f

pub type_itself : (t : ValueType) → IsFiner t t
type_itself (OneOf k) = finer_itself k
type_itself (BatOf h t) = (finer_itself h, finer_itself t)

pub type_along : (a b c : ValueType) → IsFiner a b → IsFiner b c → IsFiner a c
type_along (OneOf x) (OneOf y) (OneOf z) e f = finer_along x y z e f
type_along (BatOf x x') (BatOf y y') (BatOf z z') e f = (finer_along x y z e.0 f.0, finer_along x' y' z' e.1 f.1)
type_along (OneOf x) (OneOf y) (BatOf z z') e f = absurd f
type_along (BatOf x x') (BatOf y y') (OneOf z) e f = absurd f
type_along (OneOf x) (BatOf y y') c e f = absurd e
type_along (BatOf x x') (OneOf y) c e f = absurd e

-- ## Tests of kinds

nil_agrees : (b : Option Kind) → agrees b None ≡ true
nil_agrees None = refl
nil_agrees (Some b) = refl

agrees_finer : (a a' b b' : Option Kind) → finer a a' ≡ true → finer b b' ≡ true → agrees a' b' ≡ true → agrees a b ≡ true
agrees_finer a a' b b' e f h = finer_cases (λ x. agrees x b ≡ true) a a' e refl (finer_cases (λ y. agrees a' y ≡ true) b b' f (nil_agrees a') h)

agrees_first : (a a' b : Option Kind) → finer a a' ≡ true → agrees a' b ≡ true → agrees a b ≡ true
agrees_first a a' b e h = finer_cases (λ x. agrees x b ≡ true) a a' e refl h

both_finer : (x y x' y' : Bool) → (x' ≡ true → x ≡ true) → (y' ≡ true → y ≡ true) → (x' && y') ≡ true → (x && y) ≡ true
both_finer x y x' y' f g e = and_from x y (f (first_so x' y' e)) (g (second_so x' y' e))

numeric_finer : (a a' : Option Kind) → finer a a' ≡ true → is_numeric a' ≡ true → is_numeric a ≡ true
numeric_finer a a' e h = finer_cases (λ x. is_numeric x ≡ true) a a' e refl h

either_finer : (x y x' y' : Bool) → (x' ≡ true → x ≡ true) → (y' ≡ true → y ≡ true) → (x' || y') ≡ true → (x || y) ≡ true
either_finer x y true y' f g e = ap (λ z. z || y) (f refl)
either_finer true y false y' f g e = refl
either_finer false y false y' f g e = g e

comparable_finer : (a a' b b' : Option Kind) → finer a a' ≡ true → finer b b' ≡ true → are_comparable a' b' ≡ true → are_comparable a b ≡ true
comparable_finer a a' b b' e f h =
    either_finer (agrees a b) (is_numeric a && is_numeric b) (agrees a' b') (is_numeric a' && is_numeric b') (agrees_finer a a' b b' e f)
    (both_finer (is_numeric a) (is_numeric b) (is_numeric a') (is_numeric b') (numeric_finer a a' e) (numeric_finer b b' f)) h

both_kinds_finer : (k : Kind) (a a' b b' : Option Kind) → finer a a' ≡ true → finer b b' ≡ true → both_are k a' b' ≡ true → both_are k a b ≡ true
both_kinds_finer k a a' b b' e f h = both_finer (agrees a (Some k)) (agrees b (Some k)) (agrees a' (Some k)) (agrees b' (Some k)) (agrees_first a a' (Some k) e) (agrees_first b b' (Some k) f) h

-- a kind that is taken from the left, or from the right where the left is Nil's
or_finer : (a a' b b' : Option Kind) → finer a a' ≡ true → finer b b' ≡ true → agrees a' b' ≡ true → finer (option_or a b) (option_or a' b') ≡ true
or_finer None None b b' e f h = f
or_finer None (Some a') b None e f h = finer_cases (λ y. finer y (Some a') ≡ true) b None f refl refl
or_finer None (Some a') b (Some b') e f h = finer_cases (λ y. finer y (Some a') ≡ true) b (Some b') f refl (subst (λ x. same_kind b' x ≡ true) (sym (same_is a' b' h)) (same_itself b'))
or_finer (Some a) None b b' e f h = absurd (cc)
or_finer (Some a) (Some a') b b' e f h = e

-- ## Operators

-- the result for a finer list of types
abbrev Gives : (List ValueType → Option ValueType) → List ValueType → ValueType → Type 0
Gives f types r = (s : ValueType) × (f types ≡ Some s) × IsFiner s r

abbrev pub AllFiner : List ValueType → List ValueType → Type 0
AllFiner [] [] = Unit {0}
AllFiner (s ∷ ss) (t ∷ ts) = IsFiner s t × AllFiner ss ts
AllFiner [] (t ∷ ts) = ⊥
AllFiner (s ∷ ss) [] = ⊥

-- a type under a test
abbrev GivesType : Option ValueType → ValueType → Type 0
GivesType o r = (s : ValueType) × (o ≡ Some s) × IsFiner s r

given : (s t r : ValueType) → IsFiner s t → Some t ≡ Some r → GivesType (Some s) r
given s t r h e = (s, refl, subst (IsFiner s) (same_Some t r e) h)

tested : (test test' : Bool) (s t r : ValueType) → (test' ≡ true → test ≡ true) → (test' ≡ true → IsFiner s t) → then_some test' t ≡ Some r → GivesType (then_some test s) r
tested test true s t r f h e = (s, ap (λ b. then_some b s) (f refl), subst (IsFiner s) (same_Some t r e) (h refl))
tested test false s t r f h e = absurd (cc)

abbrev OnBat : (Option Kind → Option Kind → Option ValueType) → Type 0
OnBat f = (h k h' k' : Option Kind) (r : ValueType) → finer h h' ≡ true → finer k k' ≡ true → f h' k' ≡ Some r → GivesType (f h k) r

bat_finer : (f : Option Kind → Option Kind → Option ValueType) → OnBat f → (ss ts : List ValueType) (r : ValueType) → AllFiner ss ts → from_bat f ts ≡ Some r → Gives (from_bat f) ss r
bat_finer f p (BatOf h k ∷ []) (BatOf h' k' ∷ []) r a e = p h k h' k' r a.0.0 a.0.1 e
bat_finer f p (OneOf k ∷ ss) (BatOf h' k' ∷ []) r a e = absurd a.0
bat_finer f p (BatOf h k ∷ s ∷ ss) (BatOf h' k' ∷ []) r a e = absurd a.1
bat_finer f p [] (BatOf h' k' ∷ []) r a e = absurd a
bat_finer f p ss ts r a e = absurd (cc)

abbrev OnBats : (Option Kind → Option Kind → Option Kind → Option Kind → Option ValueType) → Type 0
OnBats f = (h k i j h' k' i' j' : Option Kind) (r : ValueType) → finer h h' ≡ true → finer k k' ≡ true → finer i i' ≡ true → finer j j' ≡ true → f h' k' i' j' ≡ Some r → GivesType (f h k i j) r

bats_finer : (f : Option Kind → Option Kind → Option Kind → Option Kind → Option ValueType) → OnBats f → (ss ts : List ValueType) (r : ValueType) → AllFiner ss ts → from_bats f ts ≡ Some r → Gives (from_bats f) ss r
bats_finer f p (BatOf h k ∷ BatOf i j ∷ []) (BatOf h' k' ∷ BatOf i' j' ∷ []) r a e = p h k i j h' k' i' j' r a.0.0 a.0.1 a.1.0.0 a.1.0.1 e
bats_finer f p (OneOf k ∷ ss) (BatOf h' k' ∷ BatOf i' j' ∷ []) r a e = absurd a.0
bats_finer f p (BatOf h k ∷ OneOf i ∷ ss) (BatOf h' k' ∷ BatOf i' j' ∷ []) r a e = absurd a.1.0
bats_finer f p (BatOf h k ∷ BatOf i j ∷ s ∷ ss) (BatOf h' k' ∷ BatOf i' j' ∷ []) r a e = absurd a.1.1
bats_finer f p (BatOf h k ∷ []) (BatOf h' k' ∷ BatOf i' j' ∷ []) r a e = absurd a.1
bats_finer f p [] (BatOf h' k' ∷ BatOf i' j' ∷ []) r a e = absurd a
bats_finer f p ss ts r a e = absurd (cc)

abbrev OnCell : (Option Kind → Option Kind → Option Kind → Option ValueType) → Type 0
OnCell f = (h k i h' k' i' : Option Kind) (r : ValueType) → finer h h' ≡ true → finer k k' ≡ true → finer i i' ≡ true → f h' k' i' ≡ Some r → GivesType (f h k i) r

cell_finer : (f : Option Kind → Option Kind → Option Kind → Option ValueType) → OnCell f → (ss ts : List ValueType) (r : ValueType) → AllFiner ss ts → from_bat_and_cell f ts ≡ Some r → Gives (from_bat_and_cell f) ss r
cell_finer f p (BatOf h k ∷ OneOf i ∷ []) (BatOf h' k' ∷ OneOf i' ∷ []) r a e = p h k i h' k' i' r a.0.0 a.0.1 a.1.0 e
cell_finer f p (OneOf k ∷ ss) (BatOf h' k' ∷ OneOf i' ∷ []) r a e = absurd a.0
cell_finer f p (BatOf h k ∷ BatOf i j ∷ ss) (BatOf h' k' ∷ OneOf i' ∷ []) r a e = absurd a.1.0
cell_finer f p (BatOf h k ∷ OneOf i ∷ s ∷ ss) (BatOf h' k' ∷ OneOf i' ∷ []) r a e = absurd a.1.1
cell_finer f p (BatOf h k ∷ []) (BatOf h' k' ∷ OneOf i' ∷ []) r a e = absurd a.1
cell_finer f p [] (BatOf h' k' ∷ OneOf i' ∷ []) r a e = absurd a
cell_finer f p ss ts r a e = absurd (cc)

range_finer : (ss ts : List ValueType) (r : ValueType) → AllFiner ss ts → from_range ts ≡ Some r → Gives from_range ss r
range_finer (BatOf h k ∷ OneOf low ∷ OneOf high ∷ OneOf li ∷ OneOf hi ∷ []) (BatOf h' k' ∷ OneOf low' ∷ OneOf high' ∷ OneOf li' ∷ OneOf hi' ∷ []) r a e =
    tested (agrees low k && agrees high k && agrees li (Some kind.Bit) && agrees hi (Some kind.Bit)) (agrees low' k' && agrees high' k' && agrees li' (Some kind.Bit) && agrees hi' (Some kind.Bit)) (BatOf h k) (BatOf h' k') r
    (both_finer (agrees low k && agrees high k && agrees li (Some kind.Bit)) (agrees hi (Some kind.Bit)) (agrees low' k' && agrees high' k' && agrees li' (Some kind.Bit)) (agrees hi' (Some kind.Bit))
    (both_finer (agrees low k && agrees high k) (agrees li (Some kind.Bit)) (agrees low' k' && agrees high' k') (agrees li' (Some kind.Bit))
    (both_finer (agrees low k) (agrees high k) (agrees low' k') (agrees high' k') (agrees_finer low low' k k' a.1.0 a.0.1) (agrees_finer high high' k k' a.1.1.0 a.0.1))
    (agrees_first li li' (Some kind.Bit) a.1.1.1.0)) (agrees_first hi hi' (Some kind.Bit) a.1.1.1.1.0))
    (λ t. a.0) e
range_finer [] (BatOf h' k' ∷ OneOf low' ∷ OneOf high' ∷ OneOf li' ∷ OneOf hi' ∷ []) r a e = absurd a
range_finer (OneOf k ∷ ss) (BatOf h' k' ∷ OneOf low' ∷ OneOf high' ∷ OneOf li' ∷ OneOf hi' ∷ []) r a e = absurd a.0
range_finer (BatOf h k ∷ []) (BatOf h' k' ∷ OneOf low' ∷ OneOf high' ∷ OneOf li' ∷ OneOf hi' ∷ []) r a e = absurd a.1
range_finer (BatOf h k ∷ BatOf x y ∷ ss) (BatOf h' k' ∷ OneOf low' ∷ OneOf high' ∷ OneOf li' ∷ OneOf hi' ∷ []) r a e = absurd a.1.0
range_finer (BatOf h k ∷ OneOf low ∷ []) (BatOf h' k' ∷ OneOf low' ∷ OneOf high' ∷ OneOf li' ∷ OneOf hi' ∷ []) r a e = absurd a.1.1
range_finer (BatOf h k ∷ OneOf low ∷ BatOf x y ∷ ss) (BatOf h' k' ∷ OneOf low' ∷ OneOf high' ∷ OneOf li' ∷ OneOf hi' ∷ []) r a e = absurd a.1.1.0
range_finer (BatOf h k ∷ OneOf low ∷ OneOf high ∷ []) (BatOf h' k' ∷ OneOf low' ∷ OneOf high' ∷ OneOf li' ∷ OneOf hi' ∷ []) r a e = absurd a.1.1.1
range_finer (BatOf h k ∷ OneOf low ∷ OneOf high ∷ BatOf x y ∷ ss) (BatOf h' k' ∷ OneOf low' ∷ OneOf high' ∷ OneOf li' ∷ OneOf hi' ∷ []) r a e = absurd a.1.1.1.0
range_finer (BatOf h k ∷ OneOf low ∷ OneOf high ∷ OneOf li ∷ []) (BatOf h' k' ∷ OneOf low' ∷ OneOf high' ∷ OneOf li' ∷ OneOf hi' ∷ []) r a e = absurd a.1.1.1.1
range_finer (BatOf h k ∷ OneOf low ∷ OneOf high ∷ OneOf li ∷ BatOf x y ∷ ss) (BatOf h' k' ∷ OneOf low' ∷ OneOf high' ∷ OneOf li' ∷ OneOf hi' ∷ []) r a e = absurd a.1.1.1.1.0
range_finer (BatOf h k ∷ OneOf low ∷ OneOf high ∷ OneOf li ∷ OneOf hi ∷ s ∷ ss) (BatOf h' k' ∷ OneOf low' ∷ OneOf high' ∷ OneOf li' ∷ OneOf hi' ∷ []) r a e = absurd a.1.1.1.1.1
range_finer ss ts r a e = absurd (cc)

-- ## Functions of cells

cells_finer : (s t : ValueType) → IsFiner s t → finer (cells_kind s) (cells_kind t) ≡ true
cells_finer (OneOf k) (OneOf k') a = a
cells_finer (BatOf h k) (BatOf h' k') a = a.1
cells_finer (OneOf k) (BatOf h' k') a = absurd a
cells_finer (BatOf h k) (OneOf k') a = absurd a

calculated_finer : (k : Kind) (ss ts : List ValueType) → AllFiner ss ts → IsFiner (calculated_type k ss) (calculated_type k ts)
calculated_finer k [] [] a = same_itself k
calculated_finer k (OneOf x ∷ ss) (OneOf y ∷ ts) a = calculated_finer k ss ts a.1
calculated_finer k (BatOf h x ∷ ss) (BatOf h' y ∷ ts) a = (a.0.0, same_itself k)
calculated_finer k (OneOf x ∷ ss) (BatOf h' y ∷ ts) a = absurd a.0
calculated_finer k (BatOf h x ∷ ss) (OneOf y ∷ ts) a = absurd a.0
calculated_finer k [] (t ∷ ts) a = absurd a
calculated_finer k (s ∷ ss) [] a = absurd a

two_finer : (test : Option Kind → Option Kind → Bool) → ((a a' b b' : Option Kind) → finer a a' ≡ true → finer b b' ≡ true → test a' b' ≡ true → test a b ≡ true)
    → (k : Kind) (ss ts : List ValueType) (r : ValueType) → AllFiner ss ts → from_two test k ts ≡ Some r → Gives (from_two test k) ss r
two_finer test p k (x ∷ y ∷ []) (x' ∷ y' ∷ []) r a e =
    tested (test (cells_kind x) (cells_kind y)) (test (cells_kind x') (cells_kind y')) (calculated_type k (x ∷ y ∷ [])) (calculated_type k (x' ∷ y' ∷ [])) r
    (p (cells_kind x) (cells_kind x') (cells_kind y) (cells_kind y') (cells_finer x x' a.0) (cells_finer y y' a.1.0)) (λ t. calculated_finer k (x ∷ y ∷ []) (x' ∷ y' ∷ []) a) e
two_finer test p k [] (x' ∷ y' ∷ []) r a e = absurd a
two_finer test p k (x ∷ []) (x' ∷ y' ∷ []) r a e = absurd a.1
two_finer test p k (x ∷ y ∷ z ∷ ss) (x' ∷ y' ∷ []) r a e = absurd a.1.1
two_finer test p k ss ts r a e = absurd (cc)

one_finer : (taken k : Kind) (ss ts : List ValueType) (r : ValueType) → AllFiner ss ts → from_one taken k ts ≡ Some r → Gives (from_one taken k) ss r
one_finer taken k (x ∷ []) (x' ∷ []) r a e =
    tested (agrees (cells_kind x) (Some taken)) (agrees (cells_kind x') (Some taken)) (calculated_type k (x ∷ [])) (calculated_type k (x' ∷ [])) r
    (agrees_first (cells_kind x) (cells_kind x') (Some taken) (cells_finer x x' a.0)) (λ t. calculated_finer k (x ∷ []) (x' ∷ []) a) e
one_finer taken k [] (x' ∷ []) r a e = absurd a
one_finer taken k (x ∷ y ∷ ss) (x' ∷ []) r a e = absurd a.1
one_finer taken k ss ts r a e = absurd (cc)

any_finer : (k : Kind) (ss ts : List ValueType) (r : ValueType) → AllFiner ss ts → from_any k ts ≡ Some r → Gives (from_any k) ss r
any_finer k (x ∷ []) (x' ∷ []) r a e = given (calculated_type k (x ∷ [])) (calculated_type k (x' ∷ [])) r (calculated_finer k (x ∷ []) (x' ∷ []) a) e
any_finer k [] (x' ∷ []) r a e = absurd a
any_finer k (x ∷ y ∷ ss) (x' ∷ []) r a e = absurd a.1
any_finer k ss ts r a e = absurd (cc)

-- ## The table

-- a test that the first heads agree, and the left side's type
left_kept : OnBats (λ h k i j. then_some (agrees h i) (BatOf h k))
left_kept h k i j h' k' i' j' r a b c d e = tested (agrees h i) (agrees h' i') (BatOf h k) (BatOf h' k') r (agrees_finer h h' i i' a c) (λ t. (a, b)) e

-- a test that the groups are oids, and a type
grouped : (f : Option Kind → ValueType) → ((k k' : Option Kind) → finer k k' ≡ true → IsFiner (f k) (f k')) → OnBats (λ h k i j. then_some (agrees j (Some kind.Oid)) (f k))
grouped f p h k i j h' k' i' j' r a b c d e = tested (agrees j (Some kind.Oid)) (agrees j' (Some kind.Oid)) (f k) (f k') r (agrees_first j j' (Some kind.Oid) d) (λ t. p k k' b) e

pub result_finer : (operator : Op) (ss ts : List ValueType) (r : ValueType) → AllFiner ss ts → result_type operator ts ≡ Some r → Gives (result_type operator) ss r
result_finer op.Bind ss ts r a e = absurd (cc)
result_finer op.Select ss ts r a e = range_finer ss ts r a e
result_finer op.Semijoin ss ts r a e = bats_finer _ left_kept ss ts r a e
result_finer op.Kdifference ss ts r a e = bats_finer _ left_kept ss ts r a e
result_finer op.Kunion ss ts r a e = bats_finer _ (λ h k i j h' k' i' j' r a b c d e.
    tested (agrees h i && agrees k j) (agrees h' i' && agrees k' j') (BatOf (option_or h i) (option_or k j)) (BatOf (option_or h' i') (option_or k' j')) r
    (both_finer (agrees h i) (agrees k j) (agrees h' i') (agrees k' j') (agrees_finer h h' i i' a c) (agrees_finer k k' j j' b d))
    (λ t. (or_finer h h' i i' a c (first_so (agrees h' i') (agrees k' j') t), or_finer k k' j j' b d (second_so (agrees h' i') (agrees k' j') t))) e) ss ts r a e
result_finer op.Reverse ss ts r a e = bat_finer _ (λ h k h' k' r a b e. given (BatOf k h) (BatOf k' h') r (b, a) e) ss ts r a e
result_finer op.Mirror ss ts r a e = bat_finer _ (λ h k h' k' r a b e. given (BatOf h h) (BatOf h' h') r (a, a) e) ss ts r a e
result_finer op.MarkT ss ts r a e = cell_finer _ (λ h k i h' k' i' r a b c e. tested (agrees i (Some kind.Oid)) (agrees i' (Some kind.Oid)) (BatOf h (Some kind.Oid)) (BatOf h' (Some kind.Oid)) r (agrees_first i i' (Some kind.Oid) c) (λ t. (a, refl)) e) ss ts r a e
result_finer op.Project ss ts r a e = cell_finer _ (λ h k i h' k' i' r a b c e. given (BatOf h i) (BatOf h' i') r (a, c) e) ss ts r a e
result_finer op.Cross ss ts r a e = bats_finer _ (λ h k i j h' k' i' j' r a b c d e. given (BatOf h i) (BatOf h' i') r (a, c) e) ss ts r a e
result_finer op.Join ss ts r a e = bats_finer _ (λ h k i j h' k' i' j' r a b c d e. tested (agrees k i) (agrees k' i') (BatOf h j) (BatOf h' j') r (agrees_finer k k' i i' b c) (λ t. (a, d)) e) ss ts r a e
result_finer op.GroupNew ss ts r a e = bat_finer _ (λ h k h' k' r a b e. given (BatOf h (Some kind.Oid)) (BatOf h' (Some kind.Oid)) r (a, refl) e) ss ts r a e
result_finer op.GroupDerive ss ts r a e = bats_finer _ (λ h k i j h' k' i' j' r a b c d e. tested (agrees k (Some kind.Oid)) (agrees k' (Some kind.Oid)) (BatOf h (Some kind.Oid)) (BatOf h' (Some kind.Oid)) r (agrees_first k k' (Some kind.Oid) b) (λ t. (a, refl)) e) ss ts r a e
result_finer op.GroupHeads ss ts r a e = bat_finer _ (λ h k h' k' r a b e. tested (agrees k (Some kind.Oid)) (agrees k' (Some kind.Oid)) (BatOf (Some kind.Oid) h) (BatOf (Some kind.Oid) h') r (agrees_first k k' (Some kind.Oid) b) (λ t. (refl, a)) e) ss ts r a e
result_finer op.Count ss ts r a e = bat_finer _ (λ h k h' k' r a b e. given (OneOf (Some kind.Int)) (OneOf (Some kind.Int)) r refl e) ss ts r a e
result_finer op.Sum ss ts r a e = bat_finer _ (λ h k h' k' r a b e. tested (agrees k (Some kind.Int)) (agrees k' (Some kind.Int)) (OneOf (Some kind.Huge)) (OneOf (Some kind.Huge)) r (agrees_first k k' (Some kind.Int) b) (λ t. refl) e) ss ts r a e
result_finer op.Min ss ts r a e = bat_finer _ (λ h k h' k' r a b e. given (OneOf k) (OneOf k') r b e) ss ts r a e
result_finer op.Max ss ts r a e = bat_finer _ (λ h k h' k' r a b e. given (OneOf k) (OneOf k') r b e) ss ts r a e
result_finer op.Subcount ss ts r a e = bats_finer _ (grouped (λ k. BatOf (Some kind.Oid) (Some kind.Int)) (λ k k' b. (refl, refl))) ss ts r a e
result_finer op.Subsum ss ts r a e = bats_finer _ (λ h k i j h' k' i' j' r a b c d e.
    tested (agrees j (Some kind.Oid) && agrees k (Some kind.Int)) (agrees j' (Some kind.Oid) && agrees k' (Some kind.Int)) (BatOf (Some kind.Oid) (Some kind.Huge)) (BatOf (Some kind.Oid) (Some kind.Huge)) r
    (both_finer (agrees j (Some kind.Oid)) (agrees k (Some kind.Int)) (agrees j' (Some kind.Oid)) (agrees k' (Some kind.Int)) (agrees_first j j' (Some kind.Oid) d) (agrees_first k k' (Some kind.Int) b)) (λ t. (refl, refl)) e) ss ts r a e
result_finer op.Submin ss ts r a e = bats_finer _ (grouped (λ k. BatOf (Some kind.Oid) k) (λ k k' b. (refl, b))) ss ts r a e
result_finer op.Submax ss ts r a e = bats_finer _ (grouped (λ k. BatOf (Some kind.Oid) k) (λ k k' b. (refl, b))) ss ts r a e
result_finer op.Plus ss ts r a e = two_finer (both_are kind.Int) (both_kinds_finer kind.Int) kind.Int ss ts r a e
result_finer op.Minus ss ts r a e = two_finer (both_are kind.Int) (both_kinds_finer kind.Int) kind.Int ss ts r a e
result_finer op.Times ss ts r a e = two_finer (both_are kind.Int) (both_kinds_finer kind.Int) kind.Int ss ts r a e
result_finer op.Eq ss ts r a e = two_finer are_comparable comparable_finer kind.Bit ss ts r a e
result_finer op.Ne ss ts r a e = two_finer are_comparable comparable_finer kind.Bit ss ts r a e
result_finer op.Lt ss ts r a e = two_finer are_comparable comparable_finer kind.Bit ss ts r a e
result_finer op.Le ss ts r a e = two_finer are_comparable comparable_finer kind.Bit ss ts r a e
result_finer op.Gt ss ts r a e = two_finer are_comparable comparable_finer kind.Bit ss ts r a e
result_finer op.Ge ss ts r a e = two_finer are_comparable comparable_finer kind.Bit ss ts r a e
result_finer op.And ss ts r a e = two_finer (both_are kind.Bit) (both_kinds_finer kind.Bit) kind.Bit ss ts r a e
result_finer op.Or ss ts r a e = two_finer (both_are kind.Bit) (both_kinds_finer kind.Bit) kind.Bit ss ts r a e
result_finer op.Not ss ts r a e = one_finer kind.Bit kind.Bit ss ts r a e
result_finer op.IsNil ss ts r a e = any_finer kind.Bit ss ts r a e

turned : (a k : Kind) → same_kind k a ≡ true → same_kind a k ≡ true
turned a k e = ap (same_kind a) (same_is k a e) ∙ same_itself a

-- the kind of a cell is finer than that of any type that it has
pub cell_finer_kind : (c : Cell) (t : ValueType) → is_of_type (One c) t ≡ true → IsFiner (OneOf (kind_of c)) t
cell_finer_kind c (OneOf k) e = by_cell c k e
  where
    by_cell : (c : Cell) (k : Option Kind) → is_of_kind k c ≡ true → finer (kind_of c) k ≡ true
    by_cell cell.Nil k e = refl
    by_cell c None e = cc
    by_cell (cell.Int n) (Some k) e = turned kind.Int k e
    by_cell (cell.Huge n) (Some k) e = turned kind.Huge k e
    by_cell (cell.Text n) (Some k) e = turned kind.Text k e
    by_cell (cell.Day n) (Some k) e = turned kind.Day k e
    by_cell (cell.Bit n) (Some k) e = turned kind.Bit k e
    by_cell (cell.Oid n) (Some k) e = turned kind.Oid k e
cell_finer_kind c (BatOf h k) e = absurd (cc)
