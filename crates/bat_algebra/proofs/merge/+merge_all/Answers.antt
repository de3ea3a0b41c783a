use Rattle.std.proofs.Common.{◌/◌, ◌∙◌, arith, length}
use Rattle.std.proofs.lemmas.Result.{IfOk-weaker}
use Rattle.bat_algebra.proofs.MergeLemmas.{of_halves, of_one, one_ascends}
use Rattle.bat_algebra.proofs.merge.+merge_all.Goals as goal

pub returns-in-len1-clause-value : goal.returns-in-len1-clause-value
returns-in-len1-clause-value t c =
    IfOk-weaker c.share.result _ _ (λ out h. of_one c.args.parts.now c.only-item.result out (omega arith) (omega arith) c.only-item.is c.requires (h ∙ c.bat.ensures)) c.share.ensures

pub returns-in-len1-clause-up : goal.returns-in-len1-clause-up
returns-in-len1-clause-up t c =
    IfOk-weaker c.share.result _ _ (λ out h. one_ascends c.args.parts.now c.only-item.result out (omega arith) (omega arith) c.only-item.is c.requires (h ∙ c.bat.ensures)) c.share.ensures

pub returns-in_ok-high-in_default-clause-value : goal.returns-in_ok-high-in_default-clause-value
returns-in_ok-high-in_default-clause-value t c =
    IfOk-weaker c.merge_two.result _ _ (λ out h. of_halves c.args.parts.now (length c.args.parts.now / 2) c.in_ok-low-in_default.low c.in_ok-high-in_default.high out c.in_ok-low-in_default.ensures.value c.in_ok-high-in_default.ensures.value h) c.merge_two.ensures.value
