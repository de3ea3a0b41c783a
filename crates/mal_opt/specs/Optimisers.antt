-- The optimisers, each as a function of a plan.
use Rattle.mal_meaning.specs.declared.plan.Plan.{Plan}
use Rattle.mal_opt.specs.Live.{is_alive}
use Rattle.mal_opt.specs.Passes.{keeping, folding, sharing, dropping, through}

-- each calculation of constants that doesn't overflow is replaced by its value
abbrev pub fold_constants : Plan → Plan
fold_constants plan = through (folding keeping) plan

-- each instruction that equals an earlier one is replaced by that one
abbrev pub share_terms : Plan → Plan
share_terms plan = through (sharing keeping) plan

-- each instruction that isn't alive is dropped
abbrev pub drop_dead : Plan → Plan
drop_dead plan = through (dropping (is_alive plan) keeping) plan

-- one pass that folds and then shares at each instruction; then the dead ones are dropped
abbrev pub optimise : Plan → Plan
optimise plan = drop_dead (through (folding (sharing keeping)) plan)
