-- The numbers among the values of options.
use Rattle.std.specs.Prelude.{ℕ, length, Bool, ◌&&◌, nat_le, if◌then◌else◌, Option, Some, None}
use Rattle.std.specs.List.{list_all}
use Rattle.std.specs.Str.Parse.{digits_value}
use Rattle.text_bytes.specs.Classes.{is_digit}
use Rattle.command_line.specs.Words.{Text}

-- 1 to 20 decimal digits
abbrev pub is_number : Text → Bool
is_number text = list_all is_digit text && (nat_le 1 (length text) && nat_le (length text) 20)

-- the number that a text is, if it is in this range, both ends included
abbrev pub number_in : ℕ → ℕ → Text → Option ℕ
number_in low high text =
    if is_number text && (nat_le low (digits_value 10 text) && nat_le (digits_value 10 text) high) then Some (digits_value 10 text) else None
