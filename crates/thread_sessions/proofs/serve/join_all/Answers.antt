use Rattle.std.proofs.Common.{◌≡◌, ◌+◌, ◌++◌, ◌∷◌, [], List, length, map, ap, sym, ◌∙◌, subst, arith, append_assoc}
use Rattle.std.specs.Prelude.{slice_get, Some}
use Rattle.std.proofs.lemmas.List.{length-append, length-map, map-append}
use Rattle.cell_core.proofs.ListLemmas.{slice_get-append_middle}
use Rattle.session_run.specs.declared.session.Session.{Session}
use Rattle.thread_sessions.specs.Runs.{AreJoined, IsFirst, IsRunner}
use Rattle.thread_sessions.proofs.JoinLemmas.{join_first, join_more}
use Rattle.thread_sessions.proofs.serve.join_all.Goals as goal

pub join-requires : goal.join-requires
join-requires g c =
    let first = c.runners.invariant.first in
    let here : c.runners.yielded ++ c.in-Some.runner ∷ c.next.new.self.rest.items ≡ c.args.runners.items = ap (λ l. c.runners.yielded ++ l) (sym c.in-Some.ensures.steps.0) ∙ c.runners.invariant.rest in
    let there : slice_get c.args.runners.items (length c.runners.yielded) ≡ Some c.in-Some.runner = ap (λ l. slice_get l (length c.runners.yielded)) (sym here) ∙ slice_get-append_middle c.runners.yielded c.in-Some.runner c.next.new.self.rest.items in
    let is = subst (λ parts. IsRunner g.K.HasOptions.options c.args.hall.now (record { pass = parts.0; session = parts.1 })) (sym c.into_parts-other.ensures)
    (c.requires.runners (length c.runners.yielded) c.in-Some.runner there).1 in
    record { hall = (first.ours, is.ours); free = (first.free, is.stands.free); first = first.number }

pub runners-preserved : goal.runners-preserved
runners-preserved g c =
    let options = g.K.HasOptions.options in
    let hall = c.args.hall.now in
    let yielded = c.runners.yielded in
    let runner = c.in-Some.runner in
    let pass = c.into_parts-other.result.0 in
    let session = c.into_parts-other.result.1 in
    let sessions = c.runners.sessions.items in
    let old = c.runners.pass in
    let new = c.join.new.pass in
    let here : yielded ++ runner ∷ c.next.new.self.rest.items ≡ c.args.runners.items = ap (λ l. yielded ++ l) (sym c.in-Some.ensures.steps.0) ∙ c.runners.invariant.rest in
    let there : slice_get c.args.runners.items (length yielded) ≡ Some runner = ap (λ l. slice_get l (length yielded)) (sym here) ∙ slice_get-append_middle yielded runner c.next.new.self.rest.items in
    let own = subst (λ parts. (parts.1.number ≡ length yielded + 1) × IsRunner options hall (record { pass = parts.0; session = parts.1 })) (sym c.into_parts-other.ensures) (c.requires.runners (length yielded) runner there) in
    let long = ap length c.runners.invariant.sessions ∙ length-map yielded (λ r. r.session) in
    let at = own.0 in
    let number : session.number ≡ length sessions + 1 = omega (arith, at, long) in
    let told = c.join.ensures in
    let pushed = c.in_ok-push.ensures.items in
    let more : length (sessions ++ session ∷ []) ≡ length sessions + 1 = length-append sessions (session ∷ []) in
    let next = sym own.1.stands.number ∙ number in
    record {
      sessions = pushed ∙ ap (λ l. l ++ session ∷ []) c.runners.invariant.sessions ∙ ap (λ parts. map (λ r. r.session) yielded ++ parts.1 ∷ []) c.into_parts-other.ensures ∙ sym (map-append (λ r. r.session) yielded (runner ∷ []));
      joined = subst (λ (l : List Session). AreJoined options new l) (sym pushed) (join_more options old new pass told.joined sessions session number own.1.stands told.begins c.runners.invariant.joined);
      first = subst (λ (l : List Session). IsFirst hall new (length c.args.runners.items) (length l)) (sym pushed)
          (subst (λ n. IsFirst hall new (length c.args.runners.items) n) (sym more)
          (join_first hall old new pass (length c.args.runners.items) (length sessions) c.runners.invariant.first next told.hall told.free told.joined told.kept_number told.kept_splits told.kept_own));
      rest = append_assoc yielded (runner ∷ []) c.next.new.self.rest.items ∙ here;
    }
