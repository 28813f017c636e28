-- Core is no deeper where it stands, unless a function makes elements of an array there.
use Rattle.std.proofs.Common.{◌≡◌, ◌⊎◌, inl, inr, ℕ, zero, suc, ◌+◌, ◌≤◌, Bool, true, false, List, ◌∷◌, refl, ◌∙◌, arith}
use Rattle.core_ir.specs.Worlds.{World, Context}
use Rattle.core_ir.specs.Expressions.{Core}
use Rattle.core_ir.specs.CoreMachine as core_machine
use Rattle.core_ir.specs.CoreMachine.{depth_of}
use Rattle.mo_machine.specs.Acts.{Store}
use Rattle.mo_machine.specs.Configurations.{live_on, live_state}
use Rattle.mo_machine.specs.Frames as machine
use Rattle.mo_machine.specs.Frames.{Stack}
use Rattle.elaboration.specs.Meeting as meeting
use Rattle.elaboration.specs.Meeting.{Comes, There}
use Rattle.elaboration_values.specs.Belonging.{Known}
use Rattle.elaboration_steps.specs.Stacks.{FillingBelongs, Soon, AtNew, AtCells, AtRead, AtHeld, StateBelongs, joinings, Passing, Written, Arrived, AtCode, AtWhile, AtRepeat, AtAction, AtValue, AtEnd, AtBody, AtTurned, AtGoing, AtLeft, AtCallee, AtMaking, AtMade, AtApplied, AtInner, AtBack, AtFunction, Later, LaterBy, AtRaising, AtWriting, AtWritten, AtEndless, AtTruth, AtTrue}
use Rattle.elaboration_steps.specs.Follows.{NoDeeper}
use Rattle.elaboration_steps.proofs.Depth.{as_deep}
use Rattle.elaboration_steps.proofs.Levels.{joins_level}

pub comes_level : (program : Core) (context : Context) (nodes : ℕ) (world : World) (n : ℕ) (f : core_machine.Focus) (k : List core_machine.Frame) (g : core_machine.Focus) (l : List core_machine.Frame) → Comes program context nodes world n f k g l → depth_of k ≡ depth_of l
comes_level program context nodes world n f k g l (There m h j) = refl
comes_level program context nodes world n f k g l (meeting.Goes m w p h j h' j' i r eq deep le c) = deep ∙ comes_level program context nodes world p h' j' i r c

through_joinings : (n : ℕ) (k : Stack) → live_on (joinings n k) ≡ live_on k
through_joinings zero k = refl
through_joinings (suc n) k = let z : live_on (joinings n k) ≡ live_on k = through_joinings n k in omega (arith, z)

module _ (program : Core) (context : Context) (nodes : ℕ) (world : World) (known : List Known) (held : ℕ) where
  abbrev Deep : List core_machine.Frame → ℕ
  Deep ck = 16 + nodes + depth_of ck

  abbrev pub NotEnd : (f : machine.Focus) (k : Stack) (cf : core_machine.Focus) (ck : List core_machine.Frame) → StateBelongs program context nodes world known held f k cf ck → Type 0
  NotEnd f k cf ck (AtEnd v w g cj value eq paid flat) = ⊥
  NotEnd f k cf ck _ = Unit {0}

  on_way : (t : Bool) (k : Stack) (f : machine.Focus) (more : Stack) → Passing t k f more → live_on k ≤ live_state f more
  on_way t k f more (Written n env) = let z : live_on (joinings n k) ≡ live_on k = through_joinings n k in omega (arith, z)
  on_way t k f more (Arrived n) = let z : live_on (joinings n k) ≡ live_on k = through_joinings n k in omega (arith, z)

  pub state_deep : (f : machine.Focus) (k : Stack) (cf : core_machine.Focus) (ck : List core_machine.Frame) (state : StateBelongs program context nodes world known held f k cf ck) → NotEnd f k cf ck state → Deep ck ≤ live_state f k
  state_deep f k cf ck (AtCode b l e env j c vals cj code around) h = let z : live_on j ≡ Deep cj = as_deep program.groups known context.globals nodes b l held j cj around in omega (arith, z)
  state_deep f k cf ck (AtWhile b l x y env j c d vals cj p q around) h = let z : live_on j ≡ Deep cj = as_deep program.groups known context.globals nodes b l held j cj around in omega (arith, z)
  state_deep f k cf ck (AtEndless b l y env j d vals cj q around) h = let z : live_on j ≡ Deep cj = as_deep program.groups known context.globals nodes b l held j cj around in omega (arith, z)
  state_deep f k cf ck (AtTruth b l y env j d vals cj q around) h = let z : live_on j ≡ Deep cj = as_deep program.groups known context.globals nodes b l held j cj around in omega (arith, z)
  state_deep f k cf ck (AtTrue b l y env j d vals cj q around) h = let z : live_on j ≡ Deep cj = as_deep program.groups known context.globals nodes b l held j cj around in omega (arith, z)
  state_deep f k cf ck (AtRepeat b l y x env j d c vals cj p q around) h = let z : live_on j ≡ Deep cj = as_deep program.groups known context.globals nodes b l held j cj around in omega (arith, z)
  state_deep f k cf ck (AtAction a vs j g cj r) h =
      let z : live_on j ≡ Deep r.others = as_deep program.groups known context.globals nodes r.b r.l r.less j r.others r.around in
      let y : depth_of cj ≡ depth_of r.ck' = comes_level program context nodes world r.weight g cj r.f' r.ck' r.path in
      let x : depth_of r.ck' ≡ depth_of r.others = r.level in
      omega (arith, z, y, x)
  state_deep f k cf ck (AtValue b l v w j cj value around) h = let z : live_on j ≡ Deep cj = as_deep program.groups known context.globals nodes b l held j cj around in omega (arith, z)
  state_deep f k cf ck (AtEnd v w g cj value eq paid flat) h = absurd h
  state_deep f k cf ck (AtBody b l p e env inner v j c d w vals vals' js cj a value pattern code around) h =
      let z : live_on j ≡ Deep cj = as_deep program.groups known context.globals nodes b l held j cj around in
      let y : depth_of ck ≡ depth_of cj = joins_level js _ a in
      omega (arith, z, y)
  state_deep f k cf ck (AtTurned b l p e env v j c w vals cj g more q value pattern around) h =
      let z : live_on j ≡ Deep cj = as_deep program.groups known context.globals nodes b l held j cj around in
      let y : live_on (machine.Stepping p v e env ∷ j) ≤ live_state g more = on_way true (machine.Stepping p v e env ∷ j) g more q in
      omega (arith, z, y)
  state_deep f k cf ck (AtGoing b l p e env v j c w vals cj value pattern around) h = let z : live_on j ≡ Deep cj = as_deep program.groups known context.globals nodes b l held j cj around in omega (arith, z)
  state_deep f k cf ck (AtLeft b l p e env v j cj g more q around) h =
      let z : live_on j ≡ Deep cj = as_deep program.groups known context.globals nodes b l held j cj around in
      let y : live_on (machine.Stepping p v e env ∷ j) ≤ live_state g more = on_way false (machine.Stepping p v e env ∷ j) g more q in
      omega (arith, z, y)
  state_deep f k cf ck (AtCallee b l m a es args env j later arguments vals cj row d e around) h = let z : live_on j ≡ Deep cj = as_deep program.groups known context.globals nodes b l held j cj around in omega (arith, z)
  state_deep f k cf ck (AtMaking m vs args env j g cj r) h =
      let z : live_on j ≡ Deep r.others = as_deep program.groups known context.globals nodes r.b r.l held j r.others r.around in let x : depth_of cj ≡ depth_of r.others = r.level in omega (arith, z, x)
  state_deep f k cf ck (AtMade m holds args env j g cj r) h =
      let z : live_on j ≡ Deep r.others = as_deep program.groups known context.globals nodes r.b r.l held j r.others r.around in let x : depth_of cj ≡ depth_of r.others = r.level in omega (arith, z, x)
  state_deep f k cf ck (AtApplied m a holds vs j g cj row r) h =
      let z : live_on j ≡ Deep r.others = as_deep program.groups known context.globals nodes r.b r.l held j r.others r.around in let x : depth_of cj ≡ depth_of r.others = r.level in omega (arith, z, x)
  state_deep f k cf ck (AtInner m a vs j g cj row r) h =
      let z : live_on j ≡ Deep r.others = as_deep program.groups known context.globals nodes r.b r.l held j r.others r.around in let x : depth_of cj ≡ depth_of r.others = r.level in omega (arith, z, x)
  state_deep f k cf ck (AtBack b l v w j cj value around) h = let z : live_on j ≡ Deep cj = as_deep program.groups known context.globals nodes b l held j cj around in omega (arith, z)
  state_deep f k cf ck (AtFunction m vs j g cj r) h =
      let z : live_on j ≡ Deep r.others = as_deep program.groups known context.globals nodes r.b r.l held j r.others r.around in
      let x : depth_of cj ≡ depth_of r.others = comes_level program context nodes world r.weight g cj _ r.others r.path in
      omega (arith, z, x)
  state_deep f k cf ck (Later g j g2 more cg cj moves none falls owes deep state) h = deep
  state_deep f k cf ck (LaterBy g j n g2 more cg cj moves goes falls owes deep state) h = deep
  state_deep f k cf ck (AtRaising b l less w i c place cell j others g cj value eq depth fits around) h =
      let z : live_on j ≡ Deep others = as_deep program.groups known context.globals nodes b l less j others around in omega (arith, z, depth)
  state_deep f k cf ck (AtWriting b l less w c place v cell u j others g cj value new eq depth fits around) h =
      let z : live_on j ≡ Deep others = as_deep program.groups known context.globals nodes b l less j others around in omega (arith, z, depth)
  state_deep f k cf ck (AtWritten b l c place j others around) h = let z : live_on j ≡ Deep others = as_deep program.groups known context.globals nodes b l held j others around in omega (arith, z)

  -- also at the end
  end_or : (f : machine.Focus) (k : Stack) (cf : core_machine.Focus) (ck : List core_machine.Frame) (state : StateBelongs program context nodes world known held f k cf ck) → (NotEnd f k cf ck state) ⊎ (depth_of ck ≡ 0)
  end_or f k cf ck (AtEnd v w g cj value eq paid flat) = inr flat
  end_or f k cf ck state = inl tt

  pub deep_within : (f : machine.Focus) (k : Stack) (cf : core_machine.Focus) (ck : List core_machine.Frame) (n : ℕ) → StateBelongs program context nodes world known held f k cf ck → live_state f k ≤ n → 16 + nodes ≤ n → Deep ck ≤ n
  deep_within f k cf ck n state a b = by (end_or f k cf ck state)
    where
      by : (NotEnd f k cf ck state) ⊎ (depth_of ck ≡ 0) → Deep ck ≤ n
      by (inl h) = let z : Deep ck ≤ live_state f k = state_deep f k cf ck state h in omega (arith, z, a)
      by (inr e) = omega (arith, e, b)

  -- where elements of an array are made
  pub filling_deep : (front fresh : Store) (f : machine.Focus) (k : Stack) (cf : core_machine.Focus) (ck : List core_machine.Frame) → FillingBelongs program context nodes world known held front fresh f k cf ck → Deep ck ≤ live_state f k
  filling_deep front fresh f k cf ck (Soon new g j g2 more cg cj moves none falls owes deep filling) = deep
  filling_deep front fresh f k cf ck (AtNew new b l e es v vs us j others g cj making values eq depth around) =
      let z : live_on j ≡ Deep others = as_deep program.groups known context.globals nodes b l held j others around in omega (arith, z, depth)
  filling_deep front fresh f k cf ck (AtCells new b l us j others g cj values eq depth around) = let z : live_on j ≡ Deep others = as_deep program.groups known context.globals nodes b l held j others around in omega (arith, z, depth)
  filling_deep front fresh f k cf ck (AtRead b l e es c cs done before rest ws j others g cj making cells values held_each eq depth around) =
      let z : live_on j ≡ Deep others = as_deep program.groups known context.globals nodes b l held j others around in omega (arith, z, depth)
  filling_deep front fresh f k cf ck (AtHeld b l done us j others g cj values eq depth around) = let z : live_on j ≡ Deep others = as_deep program.groups known context.globals nodes b l held j others around in omega (arith, z, depth)

  -- a state that Core comes to
  pub no_deeper : (f : machine.Focus) (k : Stack) (cf : core_machine.Focus) (ck0 ck : List core_machine.Frame) → StateBelongs program context nodes world known held f k cf ck → NoDeeper program context nodes ck0 ck f k
  no_deeper f k cf ck0 ck state = by (end_or f k cf ck state)
    where
      by : (NotEnd f k cf ck state) ⊎ (depth_of ck ≡ 0) → NoDeeper program context nodes ck0 ck f k
      by (inl h) = inr (state_deep f k cf ck state h)
      by (inr e) = inl (omega (arith, e))
