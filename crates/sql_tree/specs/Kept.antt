-- The bytes of digits, which lie in the value itself or in memory of their own.
use Rattle.std.specs.Prelude.{ℕ, ◌≤◌, List, take}
use Rattle.sql_tree.specs.declared.digits.DigitBytes.{DigitBytes}
use Rattle.sql_tree.specs.declared.digits.DigitBytes.TheVariants.{Short, Long}

abbrev pub kept_bytes : DigitBytes → List ℕ
kept_bytes (Short bytes count) = take count bytes
kept_bytes (Long bytes) = bytes.value.items

-- the count is at most the number of bytes
abbrev pub IsWithin : DigitBytes → Type 0
IsWithin (Short bytes count) = count ≤ 20
IsWithin (Long bytes) = Unit {0}
