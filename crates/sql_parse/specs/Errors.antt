-- What the errors of the steps become.
use Rattle.sql_parse.specs.declared.error.ParseError.{ParseError}
use Rattle.sql_parse.specs.declared.error.ParseError.TheVariants.{Refused, Memory}
use Rattle.sql_reader.specs.declared.reading.TreeError.{TreeError}
use Rattle.sql_reader.specs.declared.reading.TreeError.TheVariants as reading
use Rattle.sql_definitions.specs.declared.refusal.Refusal.TheVariants.{Syntax}
use Rattle.sql_tokens.specs.declared.reading.TokensError.{TokensError}
use Rattle.sql_tokens.specs.declared.reading.TokensError.TheVariants as tokens

-- a text without tokens is refused as a syntax error
abbrev pub error_of_tokens : TokensError → ParseError
error_of_tokens tokens.Syntax = Refused Syntax
error_of_tokens tokens.Memory = Memory

-- tokens that derive no statement are refused as a syntax error
abbrev pub error_of_reading : TreeError → ParseError
error_of_reading reading.Syntax = Refused Syntax
error_of_reading reading.Memory = Memory
