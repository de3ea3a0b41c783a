-- Reserved words and names.
use Rattle.std.specs.Prelude.{ℕ, List, [], ◌∷◌, Bool, if◌then◌else◌, bytes_eq, codes, Option, Some, None}
use Rattle.std.specs.List.{list_any}
use Rattle.sql_tree.specs.declared.token.Keyword.{Keyword}
use Rattle.sql_tree.specs.declared.token.Keyword.TheVariants as keyword
use Rattle.sql_tree.specs.declared.token.Token.{Token}
use Rattle.sql_tree.specs.declared.token.Token.TheVariants as token

-- the reserved words that the profile reads, in lower case
unfoldable pub keywords : List (List ℕ × Keyword)
keywords =
    (codes "add", keyword.Add) ∷ (codes "alter", keyword.Alter) ∷ (codes "and", keyword.And) ∷ (codes "as", keyword.As) ∷ (codes "asc", keyword.Asc)
    ∷ (codes "between", keyword.Between) ∷ (codes "bigint", keyword.Bigint) ∷ (codes "by", keyword.By) ∷ (codes "column", keyword.Column)
    ∷ (codes "count", keyword.Count) ∷ (codes "create", keyword.Create) ∷ (codes "date", keyword.Date) ∷ (codes "default", keyword.Default)
    ∷ (codes "delete", keyword.Delete) ∷ (codes "desc", keyword.Desc) ∷ (codes "distinct", keyword.Distinct) ∷ (codes "drop", keyword.Drop)
    ∷ (codes "explain", keyword.Explain) ∷ (codes "from", keyword.From) ∷ (codes "group", keyword.Group) ∷ (codes "having", keyword.Having)
    ∷ (codes "in", keyword.In) ∷ (codes "inner", keyword.Inner) ∷ (codes "insert", keyword.Insert) ∷ (codes "int", keyword.Int)
    ∷ (codes "integer", keyword.Integer) ∷ (codes "into", keyword.Into) ∷ (codes "is", keyword.Is) ∷ (codes "join", keyword.Join)
    ∷ (codes "limit", keyword.Limit) ∷ (codes "max", keyword.Max) ∷ (codes "min", keyword.Min) ∷ (codes "not", keyword.Not)
    ∷ (codes "null", keyword.Null) ∷ (codes "on", keyword.On) ∷ (codes "or", keyword.Or) ∷ (codes "order", keyword.Order)
    ∷ (codes "select", keyword.Select) ∷ (codes "set", keyword.Set) ∷ (codes "sum", keyword.Sum) ∷ (codes "table", keyword.Table)
    ∷ (codes "text", keyword.Text) ∷ (codes "update", keyword.Update) ∷ (codes "values", keyword.Values) ∷ (codes "varchar", keyword.Varchar)
    ∷ (codes "where", keyword.Where) ∷ []

-- the reserved words that it leaves out, in lower case
unfoldable pub unsupported_words : List (List ℕ)
unsupported_words =
    codes "all" ∷ codes "analyze" ∷ codes "any" ∷ codes "avg" ∷ codes "begin" ∷ codes "blob" ∷ codes "boolean" ∷ codes "call" ∷ codes "case"
    ∷ codes "cast" ∷ codes "char" ∷ codes "character" ∷ codes "check" ∷ codes "clob" ∷ codes "coalesce" ∷ codes "commit" ∷ codes "constraint"
    ∷ codes "copy" ∷ codes "cross" ∷ codes "decimal" ∷ codes "declare" ∷ codes "double" ∷ codes "except" ∷ codes "exists" ∷ codes "extract"
    ∷ codes "false" ∷ codes "fetch" ∷ codes "float" ∷ codes "foreign" ∷ codes "full" ∷ codes "function" ∷ codes "grant" ∷ codes "ilike"
    ∷ codes "index" ∷ codes "intersect" ∷ codes "interval" ∷ codes "left" ∷ codes "like" ∷ codes "merge" ∷ codes "natural" ∷ codes "numeric"
    ∷ codes "offset" ∷ codes "outer" ∷ codes "over" ∷ codes "prepare" ∷ codes "primary" ∷ codes "procedure" ∷ codes "real" ∷ codes "references"
    ∷ codes "revoke" ∷ codes "right" ∷ codes "rollback" ∷ codes "savepoint" ∷ codes "schema" ∷ codes "sequence" ∷ codes "smallint" ∷ codes "start"
    ∷ codes "temporary" ∷ codes "time" ∷ codes "timestamp" ∷ codes "tinyint" ∷ codes "transaction" ∷ codes "trigger" ∷ codes "true" ∷ codes "truncate"
    ∷ codes "union" ∷ codes "unique" ∷ codes "using" ∷ codes "view" ∷ codes "with" ∷ []

-- the keyword of the first entry with this word
abbrev pub first_keyword : List ℕ → List (List ℕ × Keyword) → Option Keyword
first_keyword word [] = None
first_keyword word (entry ∷ entries) = if bytes_eq entry.0 word then Some entry.1 else first_keyword word entries

-- the keyword that a word in lower case is
unfoldable pub keyword_of : List ℕ → Option Keyword
keyword_of word = first_keyword word keywords

-- a word in lower case is one that the profile leaves out
unfoldable pub is_unsupported_word : List ℕ → Bool
is_unsupported_word word = list_any (λ left_out. bytes_eq left_out word) unsupported_words

-- the token of a word that is no keyword
abbrev pub other_word : List ℕ → Token
other_word word = if is_unsupported_word word then token.Unsupported word else token.Name word

-- the token of a word, given the keyword that it is
abbrev pub keyword_token : List ℕ → Option Keyword → Token
keyword_token word (Some keyword) = token.Key keyword
keyword_token word None = other_word word

-- the token of a word in lower case
abbrev pub word_token : List ℕ → Token
word_token word = keyword_token word (keyword_of word)
