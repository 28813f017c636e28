-- Turns one after the other.
use Rattle.std.proofs.Common.{◌≡◌, ℕ, ◌+◌, ◌*◌, ◌<◌, List, [], ◌∷◌, ◌++◌, Ok, Err, refl, sym, ap, subst}
use Rattle.wasm_steps.specs.declared.step.Step.{Step}
use Rattle.wasm_steps.specs.Moves.{Final, Done, Trapped}
use Rattle.wasm_machine.specs.declared.frames.Saved.{Saved}
use Rattle.wasm_machine.specs.declared.frames.Here.{Here}
use Rattle.wasm_machine.specs.declared.call.Stop.{Stop}
use Rattle.wasm_machine.specs.declared.call.Stop.TheVariants as stop
use Rattle.wasm_machine.specs.declared.turn.Turn.{Turn}
use Rattle.wasm_machine.specs.declared.turn.Turn.TheVariants as turn
use Rattle.wasm_machine.specs.Hosts.{Reply, HostCall, Play}
use Rattle.wasm_machine.specs.Acts.{Parts, store_of}
use Rattle.wasm_machine.specs.Stacks.{operands_of}
use Rattle.wasm_machine.specs.Running.{Machine, play, with_world, replies_of, Chain, RunsAt, GoesOn}
use Rattle.wasm_machine.specs.Turns.{Turned, Ended, IsLess, IsFit}

chain_join : {S : Type 0} → (replies : S → ℕ → List ℕ → List ℕ → Reply → S → Type 0) (a b c : S) (xs ys : List HostCall) → Chain replies a xs b → Chain replies b ys c → Chain replies a (xs ++ ys) c
chain_join {S} replies a b c [] ys h k = subst (λ (s : S). Chain replies s ys c) (sym h) k
chain_join {S} replies a b c (x ∷ xs) ys h k = (h.0, h.1, chain_join replies h.0 b c xs ys h.2 k)

replies_join : (xs ys : List HostCall) (rest : List Reply) → replies_of xs ++ (replies_of ys ++ rest) ≡ replies_of (xs ++ ys) ++ rest
replies_join [] ys rest = refl
replies_join (x ∷ xs) ys rest = ap (λ (l : List Reply). x.reply ∷ l) (replies_join xs ys rest)

pub joined : {S : Type 0} → (replies : S → ℕ → List ℕ → List ℕ → Reply → S → Type 0) (a b c : S) (whole : List Reply → Final Play) (P Q : List Reply → Final Play → Play → Type 0) (one : GoesOn replies a b [] whole P) → GoesOn replies b c one.log (λ rest. whole (replies_of one.log ++ rest)) Q → GoesOn replies a c [] whole Q
joined replies a b c whole P Q one two = record {
  log = one.log ++ two.log;
  chain = chain_join replies a b c one.log two.log one.chain two.chain;
  on = λ rest. subst (λ (l : List Reply). Q rest (whole l) (play (one.log ++ two.log) rest)) (replies_join one.log two.log rest) (two.on rest);
}

-- before any turn
pub none_yet : {S : Type 0} → (replies : S → ℕ → List ℕ → List ℕ → Reply → S → Type 0) (a : S) (whole : List Reply → Final Play) (P : List Reply → Final Play → Play → Type 0) → ((rest : List Reply) → P rest (whole rest) (play [] rest)) → GoesOn replies a a [] whole P
none_yet replies a whole P h = record { log = []; chain = refl; on = h }

-- the last turn ends the run
pub ends_with : {S : Type 0} → (replies : S → ℕ → List ℕ → List ℕ → Reply → S → Type 0) (a b c : S) (whole : List Reply → Final Play) (P : List Reply → Final Play → Play → Type 0) (k : Machine) (steps : List Step) (last : Here) (saved : List Saved) (cells : List ℕ) (p : Parts) (one : GoesOn replies a b [] whole P) (left held : ℕ) → Turned replies b c one.log (λ rest. whole (replies_of one.log ++ rest)) k steps last saved cells p (Ok (turn.Done left held)) → Ended replies a c whole k p (Ok left)
ends_with replies a b c whole P k steps last saved cells p one left held h =
    joined replies a b c whole P (λ rest end world. (values : List ℕ) × (Done left (store_of (with_world k world) p) values ≡ end)) one (record { log = h.log; chain = h.chain; on = λ rest. (operands_of last cells held, h.on rest) })

pub stops_with : {S : Type 0} → (replies : S → ℕ → List ℕ → List ℕ → Reply → S → Type 0) (a b c : S) (whole : List Reply → Final Play) (P : List Reply → Final Play → Play → Type 0) (k : Machine) (steps : List Step) (last : Here) (saved : List Saved) (cells : List ℕ) (p : Parts) (one : GoesOn replies a b [] whole P) (e : Stop) → Turned replies b c one.log (λ rest. whole (replies_of one.log ++ rest)) k steps last saved cells p (Err e) → Ended replies a c whole k p (Err e)
stops_with replies a b c whole P k steps last saved cells p one (stop.Trapped cause) h = joined replies a b c whole P (λ rest end world. Trapped cause (store_of (with_world k world) p) ≡ end) one h
stops_with replies a b c whole P k steps last saved cells p one stop.Memory h = h

-- the run goes on
pub goes_with : {S : Type 0} → (replies : S → ℕ → List ℕ → List ℕ → Reply → S → Type 0) (a b c : S) (whole : List Reply → Final Play) (P : List Reply → Final Play → Play → Type 0) (k : Machine) (steps : List Step) (last : Here) (saved : List Saved) (cells : List ℕ) (p : Parts) (one : GoesOn replies a b [] whole P) (t : Turn) (next : Here) (left : ℕ) → t ≡ turn.On next left → Turned replies b c one.log (λ rest. whole (replies_of one.log ++ rest)) k steps last saved cells p (Ok t) → GoesOn replies a c [] whole (λ rest end world. RunsAt k steps end world saved cells next left p)
goes_with replies a b c whole P k steps last saved cells p one t next left e h =
    let on : Turned replies b c one.log (λ rest. whole (replies_of one.log ++ rest)) k steps last saved cells p (Ok (turn.On next left)) = subst (λ (x : Turn). Turned replies b c one.log (λ rest. whole (replies_of one.log ++ rest)) k steps last saved cells p (Ok x)) e h in
    joined replies a b c whole P (λ rest end world. RunsAt k steps end world saved cells next left p) one on

pub done_with : {S : Type 0} → (replies : S → ℕ → List ℕ → List ℕ → Reply → S → Type 0) (a b c : S) (whole : List Reply → Final Play) (P : List Reply → Final Play → Play → Type 0) (k : Machine) (steps : List Step) (last : Here) (saved : List Saved) (cells : List ℕ) (p : Parts) (one : GoesOn replies a b [] whole P) (t : Turn) (left held : ℕ) → t ≡ turn.Done left held → Turned replies b c one.log (λ rest. whole (replies_of one.log ++ rest)) k steps last saved cells p (Ok t) → Ended replies a c whole k p (Ok left)
done_with replies a b c whole P k steps last saved cells p one t left held e h =
    ends_with replies a b c whole P k steps last saved cells p one left held (subst (λ (x : Turn). Turned replies b c one.log (λ rest. whole (replies_of one.log ++ rest)) k steps last saved cells p (Ok x)) e h)

pub less_with : (before : Here) (limit : ℕ) (t : Turn) (next : Here) (left : ℕ) → t ≡ turn.On next left → IsLess before limit (Ok t) → 2 * left + next.depth < 2 * limit + before.depth
less_with before limit t next left e h = subst (λ (x : Turn). IsLess before limit (Ok x)) e h

pub fit_with : (before : Here) (saved : List Saved) (cells : List ℕ) (t : Turn) (next : Here) (left : ℕ) → t ≡ turn.On next left → IsFit before saved cells (Ok t) → IsFit before saved cells (Ok (turn.On next left))
fit_with before saved cells t next left e h = subst (λ (x : Turn). IsFit before saved cells (Ok x)) e h
