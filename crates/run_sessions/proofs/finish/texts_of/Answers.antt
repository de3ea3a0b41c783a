use Rattle.std.proofs.Common.{rules, ◌≡◌, ◌++◌, ◌∷◌, [], map, ap, sym, ◌∙◌, append_assoc}
use Rattle.std.proofs.lemmas.List.{map-append}
use Rattle.session_run.specs.declared.session.Session.{Session}
use Rattle.run_sessions.proofs.finish.texts_of.Goals as goal

pub sessions-preserved : goal.sessions-preserved
sessions-preserved c =
    let yielded = c.sessions.yielded in
    let session = c.in-Some.session in
    let here : yielded ++ session ∷ c.next.new.self.rest.items ≡ c.args.sessions.items = search rules in
    record {
      texts = c.in_ok-push.ensures.items ∙ ap (λ texts. texts ++ c.into_text.result ∷ []) c.sessions.invariant.texts ∙ ap (λ text. map (λ (x : Session). x.text) yielded ++ text ∷ []) c.into_text.ensures
          ∙ sym (map-append (λ (x : Session). x.text) yielded (session ∷ []));
      rest = append_assoc yielded (session ∷ []) c.next.new.self.rest.items ∙ here;
    }
