-- The bytes that a read of a list takes from its front.
use Rattle.std.proofs.Common.{◌≡◌, ℕ, ◌+◌, ◌-◌, ◌≤◌, List, ◌++◌, length, take, drop, Some, sym, ap, ◌∙◌, subst, take-append-drop}
use Rattle.std.specs.Prelude.{Option}
use Rattle.std.specs.Io.KnownBytes.{Consumes}
use Rattle.std.proofs.lemmas.List.{take_rest, drop-drop, length-take-le}
use Rattle.std.proofs.Math.Seq.{take-append_seam}

-- what is at the front of the buffer is what was taken
pub front-consumed : (old : Option (List ℕ)) (bytes seen got back : List ℕ) (done n : ℕ)
    → old ≡ Some (drop done bytes) → seen ≡ bytes → got ≡ take n (take (length seen - done) (drop done seen)) → n ≤ length (take (length seen - done) (drop done seen))
    → Consumes old (Some (drop (done + n) bytes)) (take n (got ++ back))
front-consumed old bytes seen got back done n told same e h =
    let rest : take (length seen - done) (drop done seen) ≡ drop done bytes = take_rest seen done ∙ ap (drop done) same in
    let front : got ≡ take n (drop done bytes) = e ∙ ap (take n) rest in
    let long : length got ≡ n = ap length e ∙ length-take-le n _ h in
    let kept : take n (got ++ back) ≡ got = ap (λ k. take k (got ++ back)) (sym long) ∙ take-append_seam got back in
    let whole : drop done bytes ≡ take n (got ++ back) ++ drop (done + n) bytes =
    sym (take-append-drop n (drop done bytes)) ∙ ap (λ l. l ++ drop n (drop done bytes)) (sym (kept ∙ front)) ∙ ap (λ l. take n (got ++ back) ++ l) (drop-drop n done bytes) in
    let P : Option (List ℕ) → Type 0 = λ o. Consumes o (Some (drop (done + n) bytes)) (take n (got ++ back)) in
    subst P (sym told) whole
