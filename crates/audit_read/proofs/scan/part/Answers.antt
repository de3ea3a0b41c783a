use Rattle.std.proofs.Common.{◌≡◌, sym, ◌∙◌, subst, arith}
use Rattle.audit_read.specs.declared.bytes.Class.{Class}
use Rattle.audit_read.proofs.ByteLemmas.{IsOf, is_of_class}
use Rattle.text_bytes.proofs.TextLemmas.{around_ascii}
use Rattle.audit_read.proofs.scan.part.Goals as goal

pub text-requires : goal.text-requires
text-requires c =
    let first = c.args.first in
    let mark : first ≡ 39 = subst (λ (class : Class). IsOf class first) (sym c.class_of.ensures ∙ c.in-Apostrophe.is) (is_of_class first) in
    (around_ascii c.requires.0 first c.args.after.now (omega (arith, mark)) c.requires.1).1

pub name-requires : goal.name-requires
name-requires c =
    let first = c.args.first in
    let mark : first ≡ 34 = subst (λ (class : Class). IsOf class first) (sym c.class_of.ensures ∙ c.in-Quote.is) (is_of_class first) in
    (around_ascii c.requires.0 first c.args.after.now (omega (arith, mark)) c.requires.1).1
