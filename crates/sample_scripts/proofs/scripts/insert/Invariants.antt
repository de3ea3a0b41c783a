use Rattle.std.proofs.Common.{◌≡◌, ◌<◌, ◌++◌, codes, map}
use Rattle.std.specs.Prelude.{string_bytes}
use Rattle.std.specs.List.{range_with_len}
use Rattle.sql_print.specs.Canon.{listed}
use Rattle.sample_scripts.specs.Scripts.{draw, row_text}
use Rattle.sample_scripts.proofs.scripts.insert.Given as goal

-- the rows so far, and the draw of the last of them
abbrev pub invariant-rows : goal.invariant-rows
invariant-rows l = record {
  text : string_bytes l.text ≡ codes "INSERT INTO g VALUES " ++ listed (map (λ i. row_text (draw l.fn.x i)) (range_with_len 1 l.i));
  last : l.x ≡ draw l.fn.x l.i;
  below : l.x < 2147483648;
}
