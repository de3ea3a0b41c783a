use Rattle.std.proofs.Common.{rules, ◌≡◌, ◌++◌, ◌∷◌, [], ap, sym, ◌∙◌, append_assoc}
use Rattle.std.proofs.lemmas.List.{map-append}
use Rattle.sql_shell.specs.declared.scripts.CutScript.{CutScript}
use Rattle.sql_shell.proofs.produce.split.Goals as goal

pub scripts-preserved : goal.scripts-preserved
scripts-preserved c =
    let yielded = c.scripts.yielded in
    let script = c.in-Some.script in
    let here : yielded ++ script ∷ c.next.new.self.rest.items ≡ c.args.scripts.items = search rules in
    record {
      names = c.in_ok-push.ensures.items ∙ ap (λ names. names ++ script.name ∷ []) c.scripts.invariant.names ∙ sym (map-append (λ (s : CutScript). s.name) yielded (script ∷ []));
      texts = c.in_ok-push-2.ensures.items ∙ ap (λ texts. texts ++ script.pieces ∷ []) c.scripts.invariant.texts ∙ sym (map-append (λ (s : CutScript). s.pieces) yielded (script ∷ []));
      rest = append_assoc yielded (script ∷ []) c.next.new.self.rest.items ∙ here;
    }
