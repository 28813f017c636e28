-- The replies that an interface gives are what the host of the module answers.
use Rattle.std.proofs.Common.{◌≡◌, ℕ, List, [], ◌∷◌, Option, refl, sym, ap, subst, ◌∙◌}
use Rattle.std.specs.Prelude.{slice_get}
use Rattle.wasm_tree.specs.declared.module_parts.Module.{Module}
use Rattle.wasm_machine.specs.Hosts.{Reply, HostCall}
use Rattle.wasm_machine.specs.Told.{world_of, IsTold, AreTold}
use Rattle.wasm_machine.specs.Told as calls
use Rattle.wasm_machine.specs.Running.{Chain}
use Rattle.ic0_world.specs.declared.function.Ic0.{Ic0}
use Rattle.ic0_world.specs.declared.world.World.{World}
use Rattle.canister_host.specs.declared.interface.Interface.{Interface}
use Rattle.canister_host.specs.Entries.{host, answer_of, call_of, imported_function}
use Rattle.canister_host.specs.Replies.{Replied}
use Rattle.canister_execution.specs.Executed.{KeepsLimits, Stays}
use Rattle.canister_execution.proofs.Limits.{same_limits, keeps_limits}

-- What an interface may reply.
abbrev pub replies : Interface → ℕ → List ℕ → List ℕ → Reply → Interface → Type 0
replies old function args memory reply new = Replied old.functions old.world function args memory reply new.functions new.world

abbrev pub HasFunctions : Module → List Ic0 → Type 0
HasFunctions m functions = (index : ℕ) → slice_get functions index ≡ imported_function m index

pub record AreAnswers (m : Module) (before after : Interface) (made : List HostCall) : Type 0 where
  pub told : AreTold (host m) before.world made
  pub world : calls.after (host m) before.world made ≡ after.world
  pub stays : Stays before after

same_stays : (before : Interface) → Stays before before
same_stays before = record { functions = refl; limits = same_limits before.world }

then_limits : (a b c : World) → KeepsLimits a b → KeepsLimits b c → KeepsLimits a c
then_limits a b c first second = record {
  limit = second.limit ∙ first.limit;
  open_before = second.open_before ∙ first.open_before;
  few = λ h. second.few (first.few h);
}

pub then_stays : (a b c : Interface) → Stays a b → Stays b c → Stays a c
then_stays a b c first second = record { functions = second.functions ∙ first.functions; limits = then_limits a.world b.world c.world first.limits second.limits }

told_here : (m : Module) (function : ℕ) (args memory : List ℕ) (w : World) (found : Option Ic0) (reply : Reply) → found ≡ imported_function m function
    → IsTold (answer_of (call_of found args memory w)) reply → IsTold (host m function args memory w) reply
told_here m function args memory w found reply e t = let P : Option Ic0 → Type 0 = λ f. IsTold (answer_of (call_of f args memory w)) reply in subst P e t

pub chain_answers : (m : Module) (before after : Interface) (made : List HostCall) → HasFunctions m before.functions → Chain replies before made after → AreAnswers m before after made
chain_answers m before after [] each chain =
    let P : Interface → Type 0 = λ i. AreAnswers m before i [] in
    subst P chain (record { told = tt; world = refl; stays = same_stays before })
chain_answers m before after (c ∷ made) each chain =
    let next : Interface = chain.0 in
    let replied : Replied before.functions before.world c.function c.args c.memory c.reply next.functions next.world = chain.1 in
    let at : slice_get before.functions c.function ≡ imported_function m c.function = each c.function in
    let functions : HasFunctions m next.functions = λ index. ap (λ fs. slice_get fs index) replied.same ∙ each index in
    let rest : AreAnswers m next after made = chain_answers m next after made functions chain.2 in
    let world : next.world ≡ world_of (host m c.function c.args c.memory before.world) = replied.world ∙ ap (λ f. world_of (answer_of (call_of f c.args c.memory before.world))) at in
    let P : World → Type 0 = λ w. AreTold (host m) w made in
    let Q : World → Type 0 = λ w. KeepsLimits before.world w in
    record {
      told = (told_here m c.function c.args c.memory before.world (slice_get before.functions c.function) c.reply at replied.told, subst P world rest.told);
      world = ap (λ w. calls.after (host m) w made) (sym world) ∙ rest.world;
      stays = then_stays before next after (record { functions = replied.same; limits = subst Q (sym world) (keeps_limits (imported_function m c.function) c.args c.memory before.world) }) rest.stays;
    }
