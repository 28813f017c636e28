-- From what a run of the machine is to the execution that the host means.
use Rattle.std.proofs.Common.{◌≡◌, ℕ, suc, List, [], ◌∷◌, ◌++◌, reverse, Bool, Option, Some, refl, sym, ap, subst, ◌∙◌}
use Rattle.wasm_tree.specs.declared.module_parts.Module.{Module}
use Rattle.wasm_tree.specs.declared.trap.Trap.{Trap}
use Rattle.wasm_tree.specs.Exec.{ExecutionLimits, Store, Called, Back, Fell, Lost}
use Rattle.wasm_tree.specs.Frames.{enter}
use Rattle.wasm_tree.specs.Load as load
use Rattle.wasm_machine.specs.Hosts.{HostCall, Play, played}
use Rattle.wasm_machine.specs.Told.{told_called, IsCalledTold}
use Rattle.wasm_machine.specs.Running.{play, replies_of}
use Rattle.wasm_machine.specs.Ran as ran
use Rattle.wasm_machine.specs.Ran.{execute_with, limits_of, HasRun, Ran}
use Rattle.wasm_machine.proofs.Bridge.{enter_same}
use Rattle.wasm_instance.specs.declared.instance.Outcome.{Outcome}
use Rattle.wasm_instance.specs.declared.instance.Outcome.TheVariants as outcome
use Rattle.wasm_instance.specs.Fits.{ended}
use Rattle.ic0_world.specs.declared.kind.ExecutionKind.{ExecutionKind}
use Rattle.ic0_world.specs.declared.world.World.{World}
use Rattle.canister_host.specs.declared.interface.Interface.{Interface}
use Rattle.canister_host.specs.Entries.{host}
use Rattle.canister_host.specs.Execution as spec
use Rattle.canister_host.specs.Execution.{entered_as, then_go, run}
use Rattle.wasm_instance.specs.declared.instance.Limits.{Limits}
use Rattle.canister_execution.specs.declared.execution.Entry.{Entry}
use Rattle.canister_execution.specs.Executed.{execution_limits, operands_of, entries_of, store_with, AreImported, HasEnded, Stays, IfRan}
use Rattle.canister_execution.proofs.Told.{replies, AreAnswers, chain_answers}

module _ (m : Module) (pages stack f : ℕ) (args : List ℕ) (i j : load.Instance) (r s : Bool) (before after : Interface) (left rest : ℕ) (functions : AreImported m before.functions) where
  abbrev limits : ExecutionLimits
  limits = limits_of left pages stack

  abbrev begins : Play → Store Play
  begins world = ran.store_with i.memory i.globals i.table r world

  abbrev ends : Play → Store Play
  ends world = ran.store_with j.memory j.globals j.table s world

  abbrev HasRunSo : Outcome → Type 0
  HasRunSo o = HasRun replies before after (λ world. execute_with limits m played f args (begins world)) ends (ended o rest)

  abbrev entered : Called World
  entered = enter (suc stack) limits m (host m) stack f left (store_with i r before.world) (reverse args)

  abbrev told_play : List HostCall → Called Play
  told_play made = execute_with limits m played f args (begins (play [] (replies_of made)))

  -- Where the play came to this, the execution came to that.
  told_so : (made : List HostCall) (o : Called Play) → told_play made ≡ o → IsCalledTold (host m) before.world o → entered ≡ told_called (host m) before.world o
  told_so made o e t =
      (enter_same World (host m) before.world (suc stack) limits m stack f left (begins (play [] (replies_of made))) (reverse args)).same (let P : Called Play → Type 0 = λ c. IsCalledTold (host m) before.world c in subst P (sym e) t)
      ∙ ap (told_called (host m) before.world) e

  has_entered : (o : Outcome) → HasRunSo o → HasEnded entered o rest (store_with j s after.world)
  has_entered outcome.Done h =
      let answers : AreAnswers m before after h.made = chain_answers m before after h.made functions.each h.chain in
      told_so h.made (Back rest (ends (play h.made [])) []) h.ends answers.told ∙ ap (λ w. Back rest (store_with j s w) []) answers.world
  has_entered (outcome.Trap cause) h =
      let answers : AreAnswers m before after h.made = chain_answers m before after h.made functions.each h.chain in
      told_so h.made (Fell cause (ends (play h.made []))) h.ends answers.told ∙ ap (λ w. Fell cause (store_with j s w)) answers.world
  has_entered outcome.Memory h = tt

  pub has_stayed : (o : Outcome) → HasRunSo o → IfRan o (Stays before after)
  has_stayed outcome.Done h = (chain_answers m before after h.made functions.each h.chain).stays
  has_stayed (outcome.Trap cause) h = (chain_answers m before after h.made functions.each h.chain).stays
  has_stayed outcome.Memory h = tt

  -- Nothing comes behind it.
  alone : (c : Called World) (o : Outcome) (store : Store World) → HasEnded c o rest store → HasEnded (then_go c (λ left store. Back left store [])) o rest store
  alone c outcome.Done store h = ap (λ c. then_go c (λ left store. Back left store [])) h
  alone c (outcome.Trap cause) store h = ap (λ c. then_go c (λ left store. Back left store [])) h
  alone c outcome.Memory store h = tt

  pub has_run : (o : Outcome) → HasRunSo o → HasEnded (then_go entered (λ left store. Back left store [])) o rest (store_with j s after.world)
  has_run o h = alone entered o (store_with j s after.world) (has_entered o h)

abbrev pub with_kind : Interface → ExecutionKind → Interface
with_kind h kind = record h { world = record h.world { kind = kind } }

-- The kind of the execution is no limit.
pub stays_so : (h after : Interface) (kind : ExecutionKind) (o : Outcome) → IfRan o (Stays (with_kind h kind) after) → IfRan o (Stays h after)
stays_so h after kind outcome.Done s = record { functions = s.functions; limits = record { limit = s.limits.limit; open_before = s.limits.open_before; few = s.limits.few } }
stays_so h after kind (outcome.Trap cause) s = record { functions = s.functions; limits = record { limit = s.limits.limit; open_before = s.limits.open_before; few = s.limits.few } }
stays_so h after kind outcome.Memory s = tt

-- An entry that is given runs alone.
pub one_entry : (l : Limits) (m : Module) (i : load.Instance) (r : Bool) (w : World) (left : ℕ) (o : Outcome) (rest : ℕ) (store : Store World) (entry : Option Entry) (e : Entry) (operands : List ℕ)
    → entry ≡ Some e → operands_of e.operand ≡ operands
    → HasEnded (then_go (enter (suc l.stack) (limits_of left l.pages l.stack) m (host m) l.stack e.function left (store_with i r (record w { kind = e.kind })) operands) (λ left store. Back left store [])) o rest store
    → HasEnded (run (execution_limits l) m (entries_of entry) left (store_with i r w)) o rest store
one_entry l m i r w left o rest store entry e operands is same h =
    let P : List ℕ → Type 0 = λ operands. HasEnded (then_go (enter (suc l.stack) (limits_of left l.pages l.stack) m (host m) l.stack e.function left (store_with i r (record w { kind = e.kind })) operands) (λ left store. Back left store [])) o rest store in
    let Q : Option Entry → Type 0 = λ entry. HasEnded (run (execution_limits l) m (entries_of entry) left (store_with i r w)) o rest store in
    subst Q (sym is) (subst P (sym same) h)

pub both_entries : (l : ExecutionLimits) (m : Module) (first second : List spec.Entry) (left : ℕ) (store : Store World)
    → run l m (first ++ second) left store ≡ then_go (run l m first left store) (run l m second)
both_entries l m [] second left store = refl
both_entries l m (e ∷ first) second left store =
    then_more (enter (suc l.stack) (record l { steps = left }) m (host m) l.stack e.function left (entered_as e.kind store) e.operands) (run l m (first ++ second)) (run l m first) (run l m second) (both_entries l m first second)
  where
    then_more : (c : Called World) (f g next : ℕ → Store World → Called World) → ((left : ℕ) (store : Store World) → f left store ≡ then_go (g left store) next) → then_go c f ≡ then_go (then_go c g) next
    then_more (Back left store operands) f g next h = h left store
    then_more (Fell cause store) f g next h = refl
    then_more Lost f g next h = refl

-- The first has gone on to the second, or has ended both.
pub goes_on : (l : ExecutionLimits) (m : Module) (first second : List spec.Entry) (left : ℕ) (store : Store World) (middle : ℕ) (between : Store World) (o : Outcome) (rest : ℕ) (last : Store World)
    → run l m first left store ≡ Back middle between [] → HasEnded (run l m second middle between) o rest last → HasEnded (run l m (first ++ second) left store) o rest last
goes_on l m first second left store middle between o rest last e h =
    let P : Called World → Type 0 = λ c. HasEnded c o rest last in
    subst P (sym (both_entries l m first second left store ∙ ap (λ c. then_go c (run l m second)) e)) h

pub breaks_off : (l : ExecutionLimits) (m : Module) (first second : List spec.Entry) (left : ℕ) (store : Store World) (cause : Trap) (last : Store World)
    → run l m first left store ≡ Fell cause last → run l m (first ++ second) left store ≡ Fell cause last
breaks_off l m first second left store cause last e = both_entries l m first second left store ∙ ap (λ c. then_go c (run l m second)) e
