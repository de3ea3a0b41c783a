use Rattle.std.proofs.Common.{rules, sym, ap}
use Rattle.causes.proofs.Places.{started-bytes, absent-bytes, place-shown}
use Rattle.causes.proofs.open_files.OpenFiles.open.Goals as goal

pub returns-in-Some-clause-found : goal.returns-in-Some-clause-found
returns-in-Some-clause-found c = rw (started-bytes _ _ _ _ _ c.in-Some.ensures c.deref.ensures.value (ap (λ seen. seen.files) c.self.view_is)) (search rules)

pub returns-in-Some-clause-begins : goal.returns-in-Some-clause-begins
returns-in-Some-clause-begins c = sym (started-bytes _ _ _ _ _ c.in-Some.ensures c.deref.ensures.value (ap (λ seen. seen.files) c.self.view_is))

pub returns-in-None-clause-found : goal.returns-in-None-clause-found
returns-in-None-clause-found c = rw (absent-bytes _ _ _ _ c.in-None.ensures c.deref.ensures.value (ap (λ seen. seen.files) c.self.view_is)) (search rules)

pub returns-in-Some-clause-started : goal.returns-in-Some-clause-started
returns-in-Some-clause-started c = place-shown _ _ _ _ _ c.in-Some.ensures c.deref.ensures.value (ap (λ seen. seen.files) c.self.view_is)
