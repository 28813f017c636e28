-- A host as its replies tell it.
use Rattle.std.specs.Prelude.{◌≡◌, ⊤, ℕ, List, [], ◌∷◌, ◌++◌, Option}
use Rattle.wasm_tree.specs.Exec.{Host, HostAnswer, Answers, Refuses, Store, State, Outcome, Falls, Branches, Returns, Traps, Stuck, Called, Back, Fell, Lost}
use Rattle.wasm_machine.specs.Hosts as hosts
use Rattle.wasm_machine.specs.Hosts.{Reply, HostCall, Play}

abbrev pub world_of : {W : Type 0} → HostAnswer W → W
world_of (Answers result memory w) = w
world_of (Refuses w) = w

-- The world after these calls.
abbrev pub after : {W : Type 0} → Host W → W → List HostCall → W
after h w [] = w
after h w (c ∷ calls) = after h (world_of (h c.function c.args c.memory w)) calls

-- The reply is the host's answer.
abbrev pub IsTold : {W : Type 0} → HostAnswer W → Reply → Type 0
IsTold (Answers result memory w) (hosts.Gives given new) = (result ≡ given) × (memory ≡ new)
IsTold (Answers result memory w) hosts.Traps = ⊥
IsTold (Refuses w) (hosts.Gives given new) = ⊥
IsTold (Refuses w) hosts.Traps = ⊤

-- Each reply is what the host answers in the world that the calls before it leave.
abbrev pub AreTold : {W : Type 0} → Host W → W → List HostCall → Type 0
AreTold h w [] = ⊤
AreTold h w (c ∷ calls) = IsTold (h c.function c.args c.memory w) c.reply × AreTold h (world_of (h c.function c.args c.memory w)) calls

-- A store of the play, with the world of the host after the calls that were made.
abbrev pub told_store : {W : Type 0} → Host W → W → Store Play → Store W
told_store h w s = record { memory = s.memory; globals = s.globals; table = s.table; refused = s.refused; world = after h w s.world.made }

abbrev pub told_state : {W : Type 0} → Host W → W → State Play → State W
told_state h w s = record { left = s.left; store = told_store h w s.store; locals = s.locals }

abbrev pub told_outcome : {W : Type 0} → Host W → W → Outcome Play → Outcome W
told_outcome h w (Falls s values) = Falls (told_state h w s) values
told_outcome h w (Branches label s values) = Branches label (told_state h w s) values
told_outcome h w (Returns s values) = Returns (told_state h w s) values
told_outcome h w (Traps cause store) = Traps cause (told_store h w store)
told_outcome h w Stuck = Stuck

abbrev pub told_called : {W : Type 0} → Host W → W → Called Play → Called W
told_called h w (Back left store operands) = Back left (told_store h w store) operands
told_called h w (Fell cause store) = Fell cause (told_store h w store)
told_called h w Lost = Lost

-- The calls that were made until then are told truly.
abbrev pub IsOutcomeTold : {W : Type 0} → Host W → W → Outcome Play → Type 0
IsOutcomeTold h w (Falls s values) = AreTold h w s.store.world.made
IsOutcomeTold h w (Branches label s values) = AreTold h w s.store.world.made
IsOutcomeTold h w (Returns s values) = AreTold h w s.store.world.made
IsOutcomeTold h w (Traps cause store) = AreTold h w store.world.made
IsOutcomeTold h w Stuck = ⊥

abbrev pub IsCalledTold : {W : Type 0} → Host W → W → Called Play → Type 0
IsCalledTold h w (Back left store operands) = AreTold h w store.world.made
IsCalledTold h w (Fell cause store) = AreTold h w store.world.made
IsCalledTold h w Lost = ⊥
