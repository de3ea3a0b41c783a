use Rattle.pool_policy.proofs.Empty.{empty_given}
use Rattle.pool_policy.proofs.Given.{pooled_worths, offer_from_worth}
use Rattle.pool_policy.proofs.AdmitGiven.{look_given, release_given, admit_given}
use Rattle.pool_policy.proofs.Touches.{forget_given}
use Rattle.pool_policy.proofs.laws.values_are_worths.Goals as goal

pub returns : goal.returns
returns c = record { empty = empty_given; pooled = pooled_worths; offer = offer_from_worth; look = look_given; release = release_given; forget = forget_given; admit = admit_given }
