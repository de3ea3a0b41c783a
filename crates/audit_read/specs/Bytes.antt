-- What a byte begins, and the runs that it belongs to. Only private contracts cite this.
use Rattle.std.specs.Prelude.{ℕ, ◌==◌, Bool, if◌then◌else◌}
use Rattle.sql_tree.specs.Bytes.{is_blank, is_digit, is_letter, is_word_byte, is_in_line}
use Rattle.audit_read.specs.declared.bytes.Class.{Class}
use Rattle.audit_read.specs.declared.bytes.Class.TheVariants as class
use Rattle.audit_read.specs.declared.bytes.Run.{Run}
use Rattle.audit_read.specs.declared.bytes.Run.TheVariants as run

-- what a byte begins: `'` (39) a string, `"` (34) a name in quotes
abbrev pub class_of : ℕ → Class
class_of b =
    if is_letter b then class.Letter
    else (if is_digit b then class.Digit
    else (if is_blank b then class.Blank
    else (if b == 39 then class.Apostrophe
    else (if b == 34 then class.Quote
    else class.Mark))))

-- the byte belongs to the run
abbrev pub is_in : Run → ℕ → Bool
is_in run.Word = is_word_byte
is_in run.Digits = is_digit
is_in run.Line = is_in_line
