use Rattle.std.proofs.Common.{rules, ◌≡◌, ◌==◌, ℕ, ◌+◌, List, [], ◌++◌, codes, map, if◌then◌else◌, ap, sym, ◌∙◌, append_assoc}
use Rattle.std.specs.List.{range_with_len}
use Rattle.sql_print.specs.Canon.{listed}
use Rattle.sample_scripts.specs.Scripts.{draw, next_draw, row_text}
use Rattle.sample_scripts.proofs.DrawLemmas.{draw-next, draw-none, listed-next}
use Rattle.sample_scripts.proofs.scripts.insert.Goals as goal

pub rows-init : goal.rows-init
rows-init c = record { text = search rules; last = sym (draw-none c.args.x.now); below = c.requires }

pub rows-preserved : goal.rows-preserved
rows-preserved c =
    let x = c.args.x.now in
    let i = c.rows.i in
    let front : List ℕ = codes "INSERT INTO g VALUES " in
    let between : List ℕ = if i == 0 then [] else codes ", " in
    let row : ℕ → List ℕ = λ i. row_text (draw x i) in
    let rows : List ℕ = listed (map row (range_with_len 1 i)) in
    let next : c.next_draw.new.x ≡ draw x (i + 1) = c.next_draw.ensures.next ∙ ap next_draw c.rows.invariant.last ∙ draw-next x i in
    record {
      text = c.in_ok-push_listed_row.ensures ∙ ap (λ t. t ++ (between ++ row_text c.next_draw.result)) c.rows.invariant.text
          ∙ append_assoc front rows (between ++ row_text c.next_draw.result)
          ∙ ap (λ d. front ++ (rows ++ (between ++ row_text d))) (c.next_draw.ensures.told ∙ next)
          ∙ ap (λ t. front ++ t) (listed-next row i);
      last = next;
      below = c.next_draw.ensures.below;
    }
