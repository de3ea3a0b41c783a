use Rattle.std.proofs.Common.{rules, ℕ, ◌≡◌, ◌≤◌, ◌+◌, ◌++◌, ◌∷◌, [], List, length, ap, sym, ◌∙◌, subst, arith, append_assoc}
use Rattle.std.specs.List.{AllByRecursion}
use Rattle.std.proofs.lemmas.List.{length-append, length-map}
use Rattle.turn_hall.specs.Passes.{pass_number}
use Rattle.session_run.specs.declared.session.Session.{Session}
use Rattle.run_sessions.specs.Tables.{scripts_of}
use Rattle.run_sessions.proofs.PlaceLemmas.{one_of_all}
use Rattle.thread_sessions.specs.Runs.{AreRunners, AreSet, IsFirst, sessions_of}
use Rattle.thread_sessions.proofs.JoinLemmas.{runners_more, scripts_more, set_more, split_first, starts_with}
use Rattle.thread_sessions.proofs.AlongLemmas.{new_at}
use Rattle.thread_sessions.proofs.serve.start_all.Goals as goal

pub new-session-requires : goal.new-session-requires
new-session-requires g c =
    let yielded = c.scripts.yielded in
    let pieces = c.in-Some.pieces in
    let rest = c.next.new.self.rest.items in
    let here : yielded ++ pieces ∷ rest ≡ c.args.scripts.items = ap (λ l. yielded ++ l) (sym c.in-Some.ensures.steps.0) ∙ c.scripts.invariant.rest in
    let len : c.len.result ≡ length c.scripts.runners.items = search rules in
    let count = sym (length-map c.scripts.runners.items (λ r. r.session)) ∙ sym (length-map (sessions_of c.scripts.runners.items) (λ (z : Session). z.pieces)) ∙ ap length c.scripts.invariant.scripts in
    let all = sym (length-append yielded (pieces ∷ rest)) ∙ ap length here in
    let few = c.requires.few in
    record {
      low = omega arith;
      high = omega (arith, len, count, all, few);
      short = one_of_all (λ (pieces : List (List ℕ)). length pieces ≤ 256) yielded pieces rest (subst (AllByRecursion (λ (pieces : List (List ℕ)). length pieces ≤ 256)) (sym here) c.requires.short);
    }

pub scripts-preserved : goal.scripts-preserved
scripts-preserved g c =
    let options = g.K.HasOptions.options in
    let hall = c.args.hall.now in
    let yielded = c.scripts.yielded in
    let pieces = c.in-Some.pieces in
    let runners = c.scripts.runners.items in
    let other = c.in_ok-other.other in
    let session = c.new-session.result in
    let here : yielded ++ pieces ∷ c.next.new.self.rest.items ≡ c.args.scripts.items = ap (λ l. yielded ++ l) (sym c.in-Some.ensures.steps.0) ∙ c.scripts.invariant.rest in
    let len : c.len.result ≡ length runners = search rules in
    let split = c.split.ensures in
    let made = c.in_ok-other.ensures in
    let pushed = c.in_ok-push.ensures.items in
    let more : length (runners ++ record { pass = other; session = session } ∷ []) ≡ length runners + 1 = length-append runners (record { pass = other; session = session } ∷ []) in
    let first = c.scripts.invariant.first in
    let number : session.number ≡ length runners + 1 = c.new-session.ensures.number ∙ ap (λ n. n + 1) len in
    let is : session.number ≡ pass_number other = number ∙ ap (λ n. n + 1) (sym first.splits_are) ∙ sym made.number in
    record {
      scripts = ap (λ l. scripts_of (sessions_of l)) pushed ∙ scripts_more runners (record { pass = other; session = session }) ∙ ap (λ front. front ++ session.pieces ∷ []) c.scripts.invariant.scripts ∙ ap (λ last. yielded ++ last ∷ []) c.new-session.ensures.pieces;
      runners = subst (AreRunners options hall) (sym pushed)
          (runners_more options hall runners (record { pass = other; session = session }) number
          (record { ours = made.hall; stands = starts_with options c.scripts.pass other session made.free is made.seen c.scripts.invariant.seen made.own (new_at options session (c.new-session.ensures.stands options) (c.new-session.ensures.worked options)) }) c.scripts.invariant.runners);
      set = subst (λ l. AreSet c.args.wide (sessions_of l)) (sym pushed) (set_more c.args.wide runners (record { pass = other; session = session }) (c.new-session.ensures.wide, c.new-session.ensures.begins) c.scripts.invariant.set);
      first = subst (λ l. IsFirst hall c.split.new.pass (length l) 0) (sym pushed)
          (subst (λ n. IsFirst hall c.split.new.pass n 0) (sym more)
          (split_first hall c.scripts.pass c.split.new.pass (length runners) first split.kept split.kept_number split.counted split.kept_joined split.kept_own));
      seen = split.kept_seen ∙ c.scripts.invariant.seen;
      rest = append_assoc yielded (pieces ∷ []) c.next.new.self.rest.items ∙ here;
    }
