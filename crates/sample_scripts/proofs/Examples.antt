-- The draws after 1, and what they make.
use Rattle.std.proofs.Common.{◌≡◌, [], ◌∷◌, codes, map, refl}
use Rattle.std.specs.Fmt.{digits}
use Rattle.std.specs.List.{range_with_len}
use Rattle.sample_scripts.specs.Scripts.{draw, insert_text, query_text, queries_after}

first_draws : map (draw 1) (range_with_len 1 5) ≡ 1103527590 ∷ 377401575 ∷ 662824084 ∷ 1147902781 ∷ 2035015474 ∷ []
unfolding draw
first_draws = refl

first_rows : insert_text 5 1 ≡ codes "INSERT INTO g VALUES (7590), (1575), (4084), (2781), (5474)"
unfolding draw insert_text digits
first_rows = refl

-- two draws for each query: 1103527590 and 377401575, 662824084 and 1147902781
first_queries :
    queries_after 2 1
    ≡ codes "SELECT COUNT(*), SUM(a) FROM g WHERE a BETWEEN 1590 AND 2165"
    ∷ codes "SELECT COUNT(*), SUM(a) FROM g WHERE a BETWEEN 1084 AND 1865"
    ∷ []
unfolding draw query_text queries_after digits
first_queries = refl
