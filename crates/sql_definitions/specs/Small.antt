-- Tables and columns whose numbers fit 32 bits.
use Rattle.std.specs.Prelude.{◌^◌, List, length, Bool, ◌&&◌, nat_lt}
use Rattle.std.specs.List.{list_all}
use Rattle.sql_definitions.specs.declared.source.Source.{Source}

-- the table has fewer than 2^32 columns
abbrev pub is_small : Source → Bool
is_small source = nat_lt (length source.columns) (2 ^ 32)

abbrev pub are_small : List Source → Bool
are_small sources = list_all is_small sources && nat_lt (length sources) (2 ^ 32)
