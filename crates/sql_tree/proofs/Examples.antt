-- What the definitions say of small cases.
use Rattle.std.proofs.Common.{◌≡◌, ◌∷◌, [], codes, refl}
use Rattle.sql_tree.specs.Pieces.{pieces_of}
use Rattle.sql_tree.specs.Words.{word_token, keywords, keyword_of, unsupported_words, is_unsupported_word}
use Rattle.sql_tree.specs.declared.token.Keyword.TheVariants as keyword
use Rattle.sql_tree.specs.declared.token.Token.TheVariants as token

pieces : pieces_of (codes "a;';'; -- ;\n;\"b\"\";\" /*;*/;/* c;") ≡ codes "a" ∷ codes "';'" ∷ codes "\"b\"\";\" /*;*/" ∷ []
pieces = refl

select_is_a_keyword : word_token (codes "select") ≡ token.Key keyword.Select
unfolding keyword_of keywords
select_is_a_keyword = refl

union_is_left_out : word_token (codes "union") ≡ token.Unsupported (codes "union")
unfolding keyword_of keywords is_unsupported_word unsupported_words
union_is_left_out = refl

selects_is_a_name : word_token (codes "selects") ≡ token.Name (codes "selects")
unfolding keyword_of keywords is_unsupported_word unsupported_words
selects_is_a_name = refl
