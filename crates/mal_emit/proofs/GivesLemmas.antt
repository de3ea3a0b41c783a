-- Results of emitters, put together.
use Rattle.std.proofs.Common.{◌≡◌, List, [], ◌∷◌, map, Option, Some, None, refl, subst}
use Rattle.std.specs.Option.{option_map, option_and_then}
use Rattle.cell_core.specs.declared.cell.Cell.{Cell}
use Rattle.cell_core.specs.declared.operator.Op.{Op}
use Rattle.cell_core.specs.declared.operator.Arg.{Arg}
use Rattle.cell_core.specs.declared.operator.Arg.TheVariants.{Const}
use Rattle.cell_core.specs.declared.operator.Instr.{Instr}
use Rattle.mal_emit.specs.Emitters.{Grown, Emitter, emits, gives, followed}
use Rattle.mal_emit.specs.Machines.{Machine, Holds, Told, Gives, GivesAll}
use Rattle.mal_emit.proofs.MachineLemmas.{Ref, Lit, pick, picked, none_after, step_to, rest_holds, first_holds, and_holds, refs_hold, stays}

-- the result before the last is dropped
second_gone : {V : Type 0} (m : Machine V) (instrs : List Instr) (a b : Arg) (args : List Arg) (v : V) (are : List V) (o : Option V)
    → Told m instrs (b ∷ a ∷ args) (option_map (λ w. w ∷ v ∷ are) o) → Told m instrs (b ∷ args) (option_map (λ w. w ∷ are) o)
second_gone {V} m instrs a b args v are None h = h
second_gone {V} m instrs a b args v are (Some w) h = and_holds m h (rest_holds m (rest_holds m h))

-- one more stays known
beside_known : {V : Type 0} (m : Machine V) (before after : List Instr) (r x : Arg) (args : List Arg) (v : V) (are : List V) (o : Option V) → Grown before after → Holds m before (x ∷ args) (v ∷ are)
    → Told m after (r ∷ args) (option_map (λ w. w ∷ are) o) → Told m after (r ∷ x ∷ args) (option_map (λ w. w ∷ v ∷ are) o)
beside_known {V} m before after r x args v are None g h k = k
beside_known {V} m before after r x args v are (Some w) g h k = and_holds m k (stays m g h k)

-- one result before others
cons_told : {V : Type 0} (m : Machine V) (middle after : List Instr) (a : Arg) (args others : List Arg) (x : V) (are : List V) (o : Option (List V)) → Grown middle after → Holds m middle (a ∷ args) (x ∷ are)
    → Told m after others o → Told m after (a ∷ others) (option_map (λ xs. x ∷ xs) o)
cons_told {V} m middle after a args others x are None g h k = k
cons_told {V} m middle after a args others x are (Some xs) g h k = and_holds m (stays m g h k) k

module _ {V : Type 0} {m : Machine V} where
  -- one instruction
  pub emits_gives : {args : List Arg} {are : List V} (operator : Op) (refs : List Ref) {o : Option V} → m.apply operator (map (pick args) refs) (map (picked m are) refs) ≡ o
      → Gives m args are (emits operator (map (pick args) refs)) o
  emits_gives {args} {are} operator refs {o} e = record { told = λ before h. step_to m h operator refs o e }

  -- no instruction: what is known already
  pub known_gives : {arg : Arg} {args : List Arg} {v : V} {are : List V} → Gives m (arg ∷ args) (v ∷ are) (gives arg) (Some v)
  known_gives = record { told = λ before h. and_holds m h h }

  pub constant_gives : {args : List Arg} {are : List V} (cell : Cell) → Gives m args are (gives (Const cell)) (Some (m.constant cell))
  constant_gives cell = record { told = λ before h. and_holds m (refs_hold m h (Lit cell ∷ [])) h }

  -- one and then another
  pub then_some : {args : List Arg} {are : List V} {first : Emitter Arg} {next : Arg → Emitter Arg} {v : V} {o : Option V}
      → Gives m args are first (Some v) → ((a : Arg) → Gives m (a ∷ args) (v ∷ are) (next a) o) → Gives m args are (followed first next) o
  then_some {args} {are} {first} {next} {v} {o} g k = record {
    told = λ before h. second_gone m ((followed first next).run before).0 (first.run before).1 ((followed first next).run before).1 args v are o ((k (first.run before).1).told (first.run before).0 (g.told before h));
  }

  -- where the first may have no result
  pub then_found : {X : Type 0} {args : List Arg} {are : List V} {first : Emitter Arg} {next : Arg → Emitter Arg} (f : X → V) (found : Option X) {o : X → Option V}
      → Gives m args are first (option_map f found) → ((a : Arg) (x : X) → found ≡ Some x → Gives m (a ∷ args) (f x ∷ are) (next a) (o x))
      → Gives m args are (followed first next) (option_and_then o found)
  then_found {X} {args} {are} {first} {next} f found {o} g k = record {
    told = λ before h. elim found as (λ y. found ≡ y → Told m (first.run before).0 ((first.run before).1 ∷ args) (option_map (λ v. v ∷ are) (option_map f y))
        → Told m ((followed first next).run before).0 (((followed first next).run before).1 ∷ args) (option_map (λ v. v ∷ are) (option_and_then o y))) [
          | None ↦ λ e none. none_after m ((next (first.run before).1).grows (first.run before).0) none
          | Some x ↦ λ e known. second_gone m ((followed first next).run before).0 (first.run before).1 ((followed first next).run before).1 args (f x) are (o x) ((k (first.run before).1 x e).told (first.run before).0 known)
        ] refl (g.told before h);
  }

  pub then_maybe : {X : Type 0} {args : List Arg} {are : List V} {first : Emitter Arg} {next : Arg → Emitter Arg} (f : X → V) (found : Option X) {o : X → Option V}
      → Gives m args are first (option_map f found) → ((a : Arg) (x : X) → Gives m (a ∷ args) (f x ∷ are) (next a) (o x))
      → Gives m args are (followed first next) (option_and_then o found)
  then_maybe f found g k = then_found f found g (λ a x e. k a x)

  -- the same before a list of results
  pub then_all : {args : List Arg} {are : List V} {first : Emitter Arg} {next : Arg → Emitter (List Arg)} {v : V} {o : Option (List V)}
      → Gives m args are first (Some v) → ((a : Arg) → GivesAll m (a ∷ args) (v ∷ are) (next a) o) → GivesAll m args are (followed first next) o
  then_all {args} {are} {first} {next} {v} {o} g k = record { told = λ before h. (k (first.run before).1).told (first.run before).0 (g.told before h) }

  pub then_maybe_all : {X : Type 0} {args : List Arg} {are : List V} {first : Emitter Arg} {next : Arg → Emitter (List Arg)} (f : X → V) (found : Option X) {o : X → Option (List V)}
      → Gives m args are first (option_map f found) → ((a : Arg) (x : X) → found ≡ Some x → GivesAll m (a ∷ args) (f x ∷ are) (next a) (o x))
      → GivesAll m args are (followed first next) (option_and_then o found)
  then_maybe_all {X} {args} {are} {first} {next} f found {o} g k = record {
    told = λ before h. elim found as (λ y. found ≡ y → Told m (first.run before).0 ((first.run before).1 ∷ args) (option_map (λ v. v ∷ are) (option_map f y))
        → Told m ((followed first next).run before).0 ((followed first next).run before).1 (option_and_then o y)) [
          | None ↦ λ e none. none_after m ((next (first.run before).1).grows (first.run before).0) none
          | Some x ↦ λ e known. (k (first.run before).1 x e).told (first.run before).0 known
        ] refl (g.told before h);
  }

  -- what the last but one is isn't needed
  pub without_second : {a b : Arg} {args : List Arg} {v w : V} {are : List V} {emitter : Emitter (List Arg)} {o : Option (List V)}
      → GivesAll m (a ∷ args) (v ∷ are) emitter o → GivesAll m (a ∷ b ∷ args) (v ∷ w ∷ are) emitter o
  without_second g = record { told = λ before h. g.told before (and_holds m h (rest_holds m (rest_holds m h))) }

  -- the same emitter, with its result written otherwise
  pub gives_same : {args : List Arg} {are : List V} {emitter : Emitter Arg} {o p : Option V} → o ≡ p → Gives m args are emitter o → Gives m args are emitter p
  gives_same {args} {are} {emitter} {o} {p} e g = subst (λ x. Gives m args are emitter x) e g

  -- the result after one more argument
  pub behind_one : {x : Arg} {args : List Arg} {v : V} {are : List V} {emitter : Emitter Arg} {o : Option V} → Gives m args are emitter o → Gives m (x ∷ args) (v ∷ are) emitter o
  behind_one {x} {args} {v} {are} {emitter} {o} g = record {
    told = λ before h. beside_known m before (emitter.run before).0 (emitter.run before).1 x args v are o (emitter.grows before) h (g.told before (rest_holds m h));
  }

  -- the last result alone
  pub alone_gives : {a : Arg} {args : List Arg} {v : V} {are : List V} → GivesAll m (a ∷ args) (v ∷ are) (gives (a ∷ [])) (Some (v ∷ []))
  alone_gives = record { told = λ before h. first_holds m h }

  pub gives_all_same : {args : List Arg} {are : List V} {emitter : Emitter (List Arg)} {o p : Option (List V)} → o ≡ p → GivesAll m args are emitter o → GivesAll m args are emitter p
  gives_all_same {args} {are} {emitter} {o} {p} e g = subst (λ x. GivesAll m args are emitter x) e g

  -- lists of results, one emitter after the other
  pub all_then : {X : Type 0} {args : List Arg} {are : List V} {first : Emitter (List Arg)} {next : List Arg → Emitter (List Arg)} (f : X → List V) (found : Option X) {o : X → Option (List V)}
      → GivesAll m args are first (option_map f found) → ((results : List Arg) (x : X) → found ≡ Some x → GivesAll m results (f x) (next results) (o x))
      → GivesAll m args are (followed first next) (option_and_then o found)
  all_then {X} {args} {are} {first} {next} f found {o} g k = record {
    told = λ before h. elim found as (λ y. found ≡ y → Told m (first.run before).0 (first.run before).1 (option_map f y)
        → Told m ((followed first next).run before).0 ((followed first next).run before).1 (option_and_then o y)) [
          | None ↦ λ e none. none_after m ((next (first.run before).1).grows (first.run before).0) none
          | Some x ↦ λ e known. (k (first.run before).1 x e).told (first.run before).0 known
        ] refl (g.told before h);
  }

  -- one result and then others, each from the same arguments
  pub cons_gives : {args : List Arg} {are : List V} {first : Emitter Arg} {others : Emitter (List Arg)} (o : Option V) (p : Option (List V)) → Gives m args are first o → GivesAll m args are others p
      → GivesAll m args are (followed first (λ v. followed others (λ vs. gives (v ∷ vs)))) (option_and_then (λ x. option_map (λ xs. x ∷ xs) p) o)
  cons_gives {args} {are} {first} {others} o p g k = record {
    told = λ before h. elim o as (λ y. Told m (first.run before).0 ((first.run before).1 ∷ args) (option_map (λ v. v ∷ are) y)
        → Told m (others.run (first.run before).0).0 ((first.run before).1 ∷ (others.run (first.run before).0).1) (option_and_then (λ x. option_map (λ xs. x ∷ xs) p) y)) [
          | None ↦ λ none. none_after m (others.grows (first.run before).0) none
          | Some x ↦ λ known. cons_told m (first.run before).0 (others.run (first.run before).0).0 (first.run before).1 args (others.run (first.run before).0).1 x are p (others.grows (first.run before).0) known
              (k.told (first.run before).0 (rest_holds m known))
        ] (g.told before h);
  }

  -- no result
  pub nothing_gives : {args : List Arg} {are : List V} → GivesAll m args are (gives []) (Some [])
  nothing_gives = record { told = λ before h. refs_hold m h [] }
