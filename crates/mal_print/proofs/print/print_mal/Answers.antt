use Rattle.std.proofs.Common.{◌≡◌, ℕ, Bool, List, [], ◌∷◌, ◌++◌, ap, sym, ◌∙◌, append_assoc}
use Rattle.std.specs.Prelude.{flat_map, codes}
use Rattle.cell_core.specs.declared.operator.Arg.{Arg}
use Rattle.cell_core.specs.declared.operator.Instr.{Instr}
use Rattle.mal_print.specs.Canon as canon
use Rattle.mal_print.proofs.print.print_mal.Goals as goal

-- more after what follows a head
further : (h x y t : List ℕ) → t ≡ h ++ x → t ++ y ≡ h ++ (x ++ y)
further h x y t e = ap (λ l. l ++ y) e ∙ append_assoc h x y

pub returns : goal.returns
returns c =
    let plan = c.args.plan.now in
    let head = codes "function user.main():void;\n" in
    let lines = canon.lines_text [] plan.instrs in
    let keep = canon.keep_text plan.out.keep in
    let order = flat_map canon.key_text plan.out.order in
    let limit = canon.limit_text plan.out.limit in
    let cols = canon.cols_text plan.out.cols in
    let end = codes "end user.main;\n" in
    let ruled : c.write_lines.new.out.items ≡ c.write_bytes.new.out.items ++ lines =
    c.in_ok-write_lines.ensures ∙ ap (λ (is : List Instr). c.write_bytes.new.out.items ++ canon.lines_text [] is) c.as_slice.ensures in
    let sorted : c.write_order.new.out.items ≡ c.write_keep.new.out.items ++ order =
    c.in_ok-write_order.ensures ∙ ap (λ (keys : List (ℕ × Bool)). c.write_keep.new.out.items ++ flat_map canon.key_text keys) c.as_slice-2.ensures in
    let shown : c.write_cols.new.out.items ≡ c.write_limit.new.out.items ++ cols =
    c.in_ok-write_cols.ensures ∙ ap (λ (args : List Arg). c.write_limit.new.out.items ++ canon.cols_text args) c.as_slice-3.ensures in
    let begun : c.write_lines.new.out.items ≡ head ++ lines = ruled ∙ ap (λ l. l ++ lines) (c.in_ok-write_bytes.ensures ∙ ap (λ l. l ++ head) c.new-out.ensures.items) in
    let kept : c.write_keep.new.out.items ≡ head ++ (lines ++ keep) = c.in_ok-write_keep.ensures ∙ further head lines keep c.write_lines.new.out.items begun in
    let ordered : c.write_order.new.out.items ≡ head ++ (lines ++ keep ++ order) = sorted ∙ further head (lines ++ keep) order c.write_keep.new.out.items kept in
    let limited : c.write_limit.new.out.items ≡ head ++ (lines ++ keep ++ order ++ limit) = c.in_ok-write_limit.ensures ∙ further head (lines ++ keep ++ order) limit c.write_order.new.out.items ordered in
    let all : c.write_cols.new.out.items ≡ head ++ (lines ++ keep ++ order ++ limit ++ cols) = shown ∙ further head (lines ++ keep ++ order ++ limit) cols c.write_limit.new.out.items limited in
    c.in_ok-write_bytes-2.ensures ∙ further head (lines ++ keep ++ order ++ limit ++ cols) end c.write_cols.new.out.items all
    ∙ ap (λ l. head ++ l) (sym (append_assoc (lines ++ keep ++ order ++ limit ++ cols) (codes "end user.main;") (10 ∷ [])))
