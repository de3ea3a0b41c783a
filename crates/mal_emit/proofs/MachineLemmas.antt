-- Steps of a machine: what is known after instructions, and after one more.
use Rattle.std.proofs.Common.{◌≡◌, ℕ, suc, zero, List, [], ◌∷◌, ◌++◌, length, map, Option, Some, None, refl, ap, sym, ◌∙◌, append-nil, append_assoc}
use Rattle.std.specs.Prelude.{slice_get, get_or}
use Rattle.std.specs.Option.{option_map, option_and_then}
use Rattle.std.proofs.lemmas.Option.{same_Some}
use Rattle.cell_core.proofs.ListLemmas.{both_found, both_from, slice_get-append_found, slice_get-append_last}
use Rattle.cell_core.specs.declared.cell.Cell.{Cell}
use Rattle.cell_core.specs.declared.cell.Cell.TheVariants.{Nil}
use Rattle.cell_core.specs.declared.operator.Op.{Op}
use Rattle.cell_core.specs.declared.operator.Arg.{Arg}
use Rattle.cell_core.specs.declared.operator.Arg.TheVariants.{Const, Var}
use Rattle.cell_core.specs.declared.operator.Instr.{Instr}
use Rattle.mal_emit.specs.Emitters.{Grown, Emitter, instruction}
use Rattle.mal_emit.specs.Machines.{Machine, arg_in, args_in, result, ran, Holds, Told}

-- a place among what is known, or a constant
pub data Ref : Type 0 where
  At : ℕ → Ref
  Lit : Cell → Ref

abbrev pub pick : List Arg → Ref → Arg
pick args (At n) = get_or args n (Const Nil)
pick args (Lit cell) = Const cell

module _ {V : Type 0} (m : Machine V) where
  abbrev pub picked : List V → Ref → V
  picked are (At n) = get_or are n (m.constant Nil)
  picked are (Lit cell) = m.constant cell

  -- ## Arguments

  arg_stays : (found more : List V) (arg : Arg) (v : V) → arg_in m found arg ≡ Some v → arg_in m (found ++ more) arg ≡ Some v
  arg_stays found more (Const cell) v e = e
  arg_stays found more (Var n) v e = slice_get-append_found found more n v e

  args_stay : (found more : List V) (args : List Arg) (are : List V) → args_in m found args ≡ Some are → args_in m (found ++ more) args ≡ Some are
  args_stay found more [] are e = e
  args_stay found more (arg ∷ args) are e =
      let parts = both_found (arg_in m found arg) (args_in m found args) are e in
      both_from parts.0 parts.1 (arg_stays found more arg parts.0 parts.2) (args_stay found more args parts.1 parts.3) ∙ ap Some parts.4

  arg_picked : (found : List V) (args : List Arg) (are : List V) (n : ℕ) → args_in m found args ≡ Some are → arg_in m found (get_or args n (Const Nil)) ≡ Some (get_or are n (m.constant Nil))
  arg_picked found [] are n e = ap (λ ys. Some (get_or ys n (m.constant Nil))) (same_Some [] are e)
  arg_picked found (arg ∷ args) are zero e =
      let parts = both_found (arg_in m found arg) (args_in m found args) are e in
      parts.2 ∙ ap (λ ys. Some (get_or ys 0 (m.constant Nil))) parts.4
  arg_picked found (arg ∷ args) are (suc n) e =
      let parts = both_found (arg_in m found arg) (args_in m found args) are e in
      arg_picked found args parts.1 n parts.3 ∙ ap (λ ys. Some (get_or ys (suc n) (m.constant Nil))) parts.4

  ref_picked : (found : List V) (args : List Arg) (are : List V) → args_in m found args ≡ Some are → (ref : Ref) → arg_in m found (pick args ref) ≡ Some (picked are ref)
  ref_picked found args are e (At n) = arg_picked found args are n e
  ref_picked found args are e (Lit cell) = refl

  refs_picked : (found : List V) (args : List Arg) (are : List V) → args_in m found args ≡ Some are → (refs : List Ref) → args_in m found (map (pick args) refs) ≡ Some (map (picked are) refs)
  refs_picked found args are e [] = refl
  refs_picked found args are e (ref ∷ refs) = both_from (picked are ref) (map (picked are) refs) (ref_picked found args are e ref) (refs_picked found args are e refs)

  -- ## Runs

  ran_push : (found : List V) (instrs : List Instr) (instr : Instr)
      → ran m found (instrs ++ instr ∷ []) ≡ option_and_then (λ vs. option_map (λ v. vs ++ v ∷ []) (result m vs instr)) (ran m found instrs)
  ran_push found [] instr = again (result m found instr)
    where
      again : (o : Option V) → option_and_then (λ v. Some (found ++ v ∷ [])) o ≡ option_map (λ v. found ++ v ∷ []) o
      again None = refl
      again (Some v) = refl
  ran_push found (i ∷ is) instr = again (result m found i) (λ v. ran_push (found ++ v ∷ []) is instr)
    where
      again : (o : Option V) → ((v : V) → ran m (found ++ v ∷ []) (is ++ instr ∷ []) ≡ option_and_then (λ vs. option_map (λ v. vs ++ v ∷ []) (result m vs instr)) (ran m (found ++ v ∷ []) is))
          → option_and_then (λ v. ran m (found ++ v ∷ []) (is ++ instr ∷ [])) o ≡ option_and_then (λ vs. option_map (λ v. vs ++ v ∷ []) (result m vs instr)) (option_and_then (λ v. ran m (found ++ v ∷ []) is) o)
      again None h = refl
      again (Some v) h = h v

  -- running more
  ran_more : (found : List V) (instrs more : List Instr) → ran m found (instrs ++ more) ≡ option_and_then (λ vs. ran m vs more) (ran m found instrs)
  ran_more found [] more = refl
  ran_more found (i ∷ is) more = again (result m found i) (λ v. ran_more (found ++ v ∷ []) is more)
    where
      again : (o : Option V) → ((v : V) → ran m (found ++ v ∷ []) (is ++ more) ≡ option_and_then (λ vs. ran m vs more) (ran m (found ++ v ∷ []) is))
          → option_and_then (λ v. ran m (found ++ v ∷ []) (is ++ more)) o ≡ option_and_then (λ vs. ran m vs more) (option_and_then (λ v. ran m (found ++ v ∷ []) is) o)
      again None h = refl
      again (Some v) h = h v

  -- as many as there are instructions, after those found before
  ran_behind : (found : List V) (instrs : List Instr) (all : List V) → ran m found instrs ≡ Some all → (new : List V) × (all ≡ found ++ new) × (length new ≡ length instrs)
  ran_behind found [] all e = ([], same_Some all found (sym e) ∙ sym (append-nil found), refl)
  ran_behind found (i ∷ is) all e = again (result m found i) (λ v f. ran_behind (found ++ v ∷ []) is all f) e
    where
      again : (o : Option V) → ((v : V) → ran m (found ++ v ∷ []) is ≡ Some all → (new : List V) × (all ≡ (found ++ v ∷ []) ++ new) × (length new ≡ length is))
          → option_and_then (λ v. ran m (found ++ v ∷ []) is) o ≡ Some all → (new : List V) × (all ≡ found ++ new) × (length new ≡ length (i ∷ is))
      again None h f = cc
      again (Some v) h f = let r = h v f in (v ∷ r.0, r.1 ∙ append_assoc found (v ∷ []) r.0, ap (λ n. suc n) r.2)

  pub none_after : {before after : List Instr} → Grown before after → ran m [] before ≡ None → ran m [] after ≡ None
  none_after {before} {after} g e = ap (ran m []) g.is ∙ ran_more [] before g.more ∙ ap (option_and_then (λ vs. ran m vs g.more)) e

  -- ## What is known

  -- what was known stays known
  pub stays : {before after : List Instr} {args others : List Arg} {are those : List V} → Grown before after → Holds m before args are → Holds m after others those → Holds m after args are
  stays {before} {after} {args} {others} {are} {those} g h k =
      let e : ran m h.found g.more ≡ Some k.found = sym (ap (ran m []) g.is ∙ ran_more [] before g.more ∙ ap (option_and_then (λ vs. ran m vs g.more)) h.done) ∙ k.done in
      let r = ran_behind h.found g.more k.found e in
      record {
        found = k.found;
        done = k.done;
        known = ap (λ vs. args_in m vs args) r.1 ∙ args_stay h.found r.0 args are h.known;
      }

  pub refs_hold : {instrs : List Instr} {args : List Arg} {are : List V} → Holds m instrs args are → (refs : List Ref) → Holds m instrs (map (pick args) refs) (map (picked are) refs)
  refs_hold {instrs} {args} {are} h refs = record { found = h.found; done = h.done; known = refs_picked h.found args are h.known refs }

  pub rest_holds : {instrs : List Instr} {arg : Arg} {args : List Arg} {v : V} {are : List V} → Holds m instrs (arg ∷ args) (v ∷ are) → Holds m instrs args are
  rest_holds {instrs} {arg} {args} {v} {are} h =
      let parts = both_found (arg_in m h.found arg) (args_in m h.found args) (v ∷ are) h.known in
      let same : parts.1 ≡ are = cc in
      record { found = h.found; done = h.done; known = parts.3 ∙ ap Some same }

  same_found : {instrs : List Instr} {args others : List Arg} {are those : List V} (h : Holds m instrs args are) (k : Holds m instrs others those) → h.found ≡ k.found
  same_found h k = same_Some h.found k.found (sym h.done ∙ k.done)

  -- one beside others
  pub and_holds : {instrs : List Instr} {arg : Arg} {args more : List Arg} {v : V} {are those : List V} → Holds m instrs (arg ∷ more) (v ∷ those) → Holds m instrs args are → Holds m instrs (arg ∷ args) (v ∷ are)
  and_holds {instrs} {arg} {args} {more} {v} {are} {those} h k =
      let parts = both_found (arg_in m h.found arg) (args_in m h.found more) (v ∷ those) h.known in
      let same : parts.0 ≡ v = cc in
      record {
        found = h.found;
        done = h.done;
        known = both_from v are (parts.2 ∙ ap Some same) (ap (λ vs. args_in m vs args) (same_found h k) ∙ k.known);
      }

  args_append : (found : List V) (args more : List Arg) (are those : List V) → args_in m found args ≡ Some are → args_in m found more ≡ Some those → args_in m found (args ++ more) ≡ Some (are ++ those)
  args_append found [] more are those e f = f ∙ ap (λ vs. Some (vs ++ those)) (same_Some [] are e)
  args_append found (arg ∷ args) more are those e f =
      let parts = both_found (arg_in m found arg) (args_in m found args) are e in
      both_from parts.0 (parts.1 ++ those) parts.2 (args_append found args more parts.1 those parts.3 f) ∙ ap (λ vs. Some (vs ++ those)) parts.4

  pub append_holds : {instrs : List Instr} {args more : List Arg} {are those : List V} → Holds m instrs args are → Holds m instrs more those → Holds m instrs (args ++ more) (are ++ those)
  append_holds {instrs} {args} {more} {are} {those} h k = record {
    found = k.found;
    done = k.done;
    known = args_append k.found args more are those (ap (λ vs. args_in m vs args) (sym (same_found h k)) ∙ h.known) k.known;
  }

  -- the first alone
  pub first_holds : {instrs : List Instr} {arg : Arg} {args : List Arg} {v : V} {are : List V} → Holds m instrs (arg ∷ args) (v ∷ are) → Holds m instrs (arg ∷ []) (v ∷ [])
  first_holds h = and_holds h (refs_hold h [])

  -- lists of arguments and of what they are have one length
  pub none_known : {instrs : List Instr} {v : V} {are : List V} → Holds m instrs [] (v ∷ are) → ⊥
  none_known {instrs} {v} {are} h = clash h.known
    where
      clash : Some [] ≡ Some (v ∷ are) → ⊥
      clash e = cc

  pub some_known : {instrs : List Instr} {arg : Arg} {args : List Arg} → Holds m instrs (arg ∷ args) [] → ⊥
  some_known {instrs} {arg} {args} h =
      let parts = both_found (arg_in m h.found arg) (args_in m h.found args) [] h.known in
      clash parts.0 parts.1 parts.4
    where
      clash : (v : V) (vs : List V) → v ∷ vs ≡ [] → ⊥
      clash v vs e = cc

  -- an instruction, and what is known after it
  pub step_to : {instrs : List Instr} {args : List Arg} {are : List V} (h : Holds m instrs args are) (operator : Op) (refs : List Ref) (o : Option V)
      → m.apply operator (map (pick args) refs) (map (picked are) refs) ≡ o
      → Told m (instrs ++ instruction operator (map (pick args) refs) ∷ []) (Var (length instrs) ∷ args) (option_map (λ v. v ∷ are) o)
  step_to {instrs} {args} {are} h operator refs o e =
      elim o as (λ x. result m h.found i ≡ x → Told m (instrs ++ i ∷ []) (Var (length instrs) ∷ args) (option_map (λ v. v ∷ are) x)) [
        | None ↦ λ f. pushed ∙ ap (option_map (λ v. h.found ++ v ∷ [])) f
        | Some v ↦ λ f.
            record {
              found = h.found ++ v ∷ [];
              done = pushed ∙ ap (option_map (λ v. h.found ++ v ∷ [])) f;
              known = both_from v are (slice_get-append_last h.found v (length instrs) long) (args_stay h.found (v ∷ []) args are h.known);
            }
      ] (ap (option_and_then (m.apply operator (map (pick args) refs))) (refs_picked h.found args are h.known refs) ∙ e)
    where
      i : Instr
      i = instruction operator (map (pick args) refs)

      pushed : ran m [] (instrs ++ i ∷ []) ≡ option_map (λ v. h.found ++ v ∷ []) (result m h.found i)
      pushed = ran_push [] instrs i ∙ ap (option_and_then (λ vs. option_map (λ v. vs ++ v ∷ []) (result m vs i))) h.done

      long : length instrs ≡ length h.found
      long = let r = ran_behind [] instrs h.found h.done in sym (ap length r.1 ∙ r.2)

  pub step : {instrs : List Instr} {args : List Arg} {are : List V} (h : Holds m instrs args are) (operator : Op) (refs : List Ref)
      → Told m (instrs ++ instruction operator (map (pick args) refs) ∷ []) (Var (length instrs) ∷ args) (option_map (λ v. v ∷ are) (m.apply operator (map (pick args) refs) (map (picked are) refs)))
  step {instrs} {args} {are} h operator refs = step_to h operator refs (m.apply operator (map (pick args) refs) (map (picked are) refs)) refl

  -- where an instruction had no result, that stays so
  pub none_told : {A : Type 0} (before : List Instr) (emitter : Emitter A) (args : List Arg) → ran m [] before ≡ None → Told m (emitter.run before).0 args None
  none_told {A} before emitter args e = none_after (emitter.grows before) e

  -- with no instruction nothing is known
  pub start : Holds m [] [] []
  start = record { found = []; done = refl; known = refl }
