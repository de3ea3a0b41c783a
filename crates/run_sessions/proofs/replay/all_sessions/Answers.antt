use Rattle.std.proofs.Common.{rules, ◌≡◌, ◌≤◌, ℕ, ◌+◌, List, ◌++◌, ◌∷◌, [], length, false, ap, sym, ◌∙◌, subst, arith, append_assoc}
use Rattle.std.specs.Prelude.{sum_by}
use Rattle.std.specs.List.{AllByRecursion}
use Rattle.std.proofs.lemmas.List.{length-append, length-map, map-append}
use Rattle.std.proofs.lemmas.List.Sums.{sum_by_push}
use Rattle.session_run.specs.declared.session.Session.{Session}
use Rattle.session_run.specs.Kept.{Stands}
use Rattle.session_run.specs.Works.{IsWorked, done_by}
use Rattle.run_sessions.specs.Ordered.{IsInOrder}
use Rattle.run_sessions.specs.Tables.{AreInPlan, AreStanding, scripts_of}
use Rattle.run_sessions.proofs.OrderLemmas.{new_ordered}
use Rattle.run_sessions.proofs.PlaceLemmas.{append_all, none_there, one_of_all}
use Rattle.run_sessions.proofs.replay.all_sessions.Goals as goal

pub scripts-init : goal.scripts-init
scripts-init c = record {
  scripts = ap scripts_of c.new-sessions.ensures.items;
  standing = λ options. subst (AreStanding options []) (sym c.new-sessions.ensures.items) (λ place x there. none_there place x there);
  in_plan = subst AreInPlan (sym c.new-sessions.ensures.items) (λ place x there. none_there place x there);
  done = ap (sum_by done_by) c.new-sessions.ensures.items;
  rest = search rules;
}

pub new-requires : goal.new-requires
new-requires c =
    let yielded = c.scripts.yielded in
    let pieces = c.in-Some.pieces in
    let rest = c.next.new.self.rest.items in
    let here : yielded ++ pieces ∷ rest ≡ c.args.scripts.items = search rules in
    let len : c.len.result ≡ length c.scripts.sessions.items = search rules in
    let count = sym (length-map c.scripts.sessions.items (λ (z : Session). z.pieces)) ∙ ap length c.scripts.invariant.scripts in
    let all = sym (length-append yielded (pieces ∷ rest)) ∙ ap length here in
    let few = c.requires.few in
    record {
      low = omega arith;
      high = omega (arith, len, count, all, few);
      short = one_of_all (λ (pieces : List (List ℕ)). length pieces ≤ 256) yielded pieces rest (subst (AllByRecursion (λ (pieces : List (List ℕ)). length pieces ≤ 256)) (sym here) c.requires.short);
    }

pub scripts-preserved : goal.scripts-preserved
scripts-preserved c =
    let yielded = c.scripts.yielded in
    let pieces = c.in-Some.pieces in
    let sessions = c.scripts.sessions.items in
    let made = c.new.result in
    let here : yielded ++ pieces ∷ c.next.new.self.rest.items ≡ c.args.scripts.items = search rules in
    let len : c.len.result ≡ length sessions = search rules in
    let pushed = c.in_ok-push.ensures.items in
    let none = c.scripts.invariant.done in
    let new_none = c.new.ensures.done in
    let sum = sum_by_push done_by sessions made in
    record {
      scripts = ap scripts_of pushed ∙ map-append (λ (z : Session). z.pieces) sessions (made ∷ []) ∙ ap (λ front. front ++ made.pieces ∷ []) c.scripts.invariant.scripts ∙ ap (λ last. yielded ++ last ∷ []) c.new.ensures.pieces;
      standing = λ options. subst (AreStanding options []) (sym pushed)
          (append_all (λ place z. (z.number ≡ place + 1) × Stands options [] z × IsWorked options [] z × IsInOrder [] z) sessions made
          (c.new.ensures.number ∙ ap (λ n. n + 1) len, c.new.ensures.stands options, c.new.ensures.worked options, new_ordered options made (c.new.ensures.stands options)) (c.scripts.invariant.standing options));
      in_plan = subst AreInPlan (sym pushed) (append_all (λ place (z : Session). z.wide ≡ false) sessions made c.new.ensures.wide c.scripts.invariant.in_plan);
      done = ap (sum_by done_by) pushed ∙ (let both : sum_by done_by (sessions ++ made ∷ []) ≡ 0 = omega (arith, none, new_none, sum) in both);
      rest = append_assoc yielded (pieces ∷ []) c.next.new.self.rest.items ∙ here;
    }
