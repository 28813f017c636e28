-- Code that lacks steps under the host.
use Rattle.std.proofs.Common.{◌≡◌, ◌⊎◌, inl, inr, ℕ, ◌+◌, ◌-◌, ◌<◌, [], refl, sym, ap, ◌∙◌, subst, arith}
use Rattle.std.specs.Prelude.{⊤}
use Rattle.std.proofs.lemmas.List.{append-nil}
use Rattle.wasm_tree.specs.declared.trap.Trap.{Trap}
use Rattle.wasm_tree.specs.declared.trap.Trap.TheVariants as trap
use Rattle.wasm_tree.specs.Exec.{Store, State}
use Rattle.ic0_world.specs.declared.world.World.{World}
use Rattle.module_laws.specs.Prints.{IsLater}
use Rattle.low_ir.specs.Tree.{Code, Module}
use Rattle.low_ir.specs.Meaning.{Calls, Outcome, Ends, Jumps, Gives, Breaks, Astray, run}
use Rattle.low_ir.specs.Frames.{enter}
use Rattle.low_rules.specs.Rule.{At, state}
use Rattle.low_execution.specs.Host.{low_host}
use Rattle.low_limits.proofs.Later.{EndsLater, enter_later}
use Rattle.low_limits.proofs.Fewer.{IsWanting, Close, close, fewer}
use Rattle.emitted_steps.specs.Shortage.{RunsOut}
use Rattle.limited_runs.specs.Shown.{prints_of}
use Rattle.limited_runs.specs.Laws.{HostRunsOut}

never : (n : ℕ) → n < n → ⊥
never n lt = omega (arith, lt)

-- With fewer steps only steps can lack.
only_steps : (cause : Trap) (store : Store World) → IsWanting ⊤ ⊥ ⊥ cause store → cause ≡ trap.Steps
only_steps trap.Steps store h = refl
only_steps trap.Stack store h = absurd h
only_steps trap.Unreachable store h = absurd h.1
only_steps trap.Bounds store h = absurd h
only_steps trap.DivideByZero store h = absurd h
only_steps trap.Overflow store h = absurd h
only_steps trap.Indirect store h = absurd h
only_steps trap.Host store h = absurd h

module _ (pages : ℕ) (m : Module) (deep room : ℕ) where
  abbrev calls : Calls World
  calls = enter deep pages m low_host room

  module _ (extra : ℕ) where
    abbrev Beside : Outcome World → Outcome World → Type 0
    Beside o a = Close m extra ⊤ ⊥ ⊥ (λ more. tt) o a

    beside : (code : Code) (s : State World) → Beside (run pages m calls code s) (run pages m calls code (record { left = s.left + extra; store = s.store; locals = s.locals }))
    beside code s =
        close m extra ⊤ ⊥ ⊥ (λ more. tt) pages pages (omega arith) (never pages) calls calls (enter_later m deep pages room)
        (fewer m extra ⊤ ⊥ ⊥ (λ more. tt) deep pages pages room room (omega arith) (never pages) (omega arith) (never room)) code s

    -- The steps of an end are those that were left with more.
    abbrev left_of : Outcome World → ℕ
    left_of (Ends s) = s.left
    left_of _ = 0

    abbrev store_of : Store World → Outcome World → Store World
    store_of d (Ends s) = s.store
    store_of d (Breaks cause store) = store
    store_of d _ = d

    wanting : (cause : Trap) (store : Store World) (w : World) → IsWanting ⊤ ⊥ ⊥ cause store → IsLater store.world w → RunsOut prints_of (Breaks cause store) w
    wanting cause store w want later = record { store = store; is = ap (λ c. Breaks c store) (only_steps cause store want); part = record { more = later.more; is = later.is } }

    ends : (o a : Outcome World) (to : At World) → 0 < extra → a ≡ Ends (state 0 to) → Beside o a → RunsOut prints_of o to.store.world
    ends (Ends s) a to some e k = let n : s.left + extra ≡ 0 = ap left_of (sym k ∙ e) in absurd (omega (arith, n, some))
    ends (Jumps label s) a to some e k = let no : Jumps label (record { left = s.left + extra; store = s.store; locals = s.locals }) ≡ Ends (state 0 to) = sym k ∙ e in absurd (cc no)
    ends (Gives s value) a to some e k = let no : Gives (record { left = s.left + extra; store = s.store; locals = s.locals }) value ≡ Ends (state 0 to) = sym k ∙ e in absurd (cc no)
    ends (Breaks cause store) a to some e (inl k) = let no : Breaks cause store ≡ Ends (state 0 to) = sym k ∙ e in absurd (cc no)
    ends (Breaks cause store) a to some e (inr k) = wanting cause store to.store.world k.0 (subst (λ a. EndsLater store.world a) e k.1)
    ends Astray a to some e k = let no : Astray ≡ Ends (state 0 to) = sym k ∙ e in absurd (cc no)

    falls : (o a : Outcome World) (cause : Trap) (end : Store World) → a ≡ Breaks cause end → Beside o a → (o ≡ Breaks cause end) ⊎ RunsOut prints_of o end.world
    falls (Ends s) a cause end e k = let no : Ends (record { left = s.left + extra; store = s.store; locals = s.locals }) ≡ Breaks cause end = sym k ∙ e in absurd (cc no)
    falls (Jumps label s) a cause end e k = let no : Jumps label (record { left = s.left + extra; store = s.store; locals = s.locals }) ≡ Breaks cause end = sym k ∙ e in absurd (cc no)
    falls (Gives s value) a cause end e k = let no : Gives (record { left = s.left + extra; store = s.store; locals = s.locals }) value ≡ Breaks cause end = sym k ∙ e in absurd (cc no)
    falls (Breaks c store) a cause end e (inl k) = inl (sym k ∙ e)
    falls (Breaks c store) a cause end e (inr k) = inr (wanting c store end.world k.0 (subst (λ a. EndsLater store.world a) e k.1))
    falls Astray a cause end e k = let no : Astray ≡ Breaks cause end = sym k ∙ e in absurd (cc no)

  at_cost : (code : Code) (left cost : ℕ) (from : At World) (o : Outcome World) → left < cost → run pages m calls code (state cost from) ≡ o → run pages m calls code (state (left + (cost - left)) from) ≡ o
  at_cost code left cost from o lt e = ap (λ n. run pages m calls code (state n from)) (omega (arith, lt)) ∙ e

pub runs_out : HostRunsOut
runs_out pages m = record {
  tells = λ w text. refl;
  fails = λ w text. record { more = []; is = sym (append-nil w.prints) };
  ends = λ deep room code left cost from to lt e.
      ends pages m deep room (cost - left) (run pages m (enter deep pages m low_host room) code (state left from)) (run pages m (enter deep pages m low_host room) code (state (left + (cost - left)) from)) to (omega (arith, lt)) (at_cost pages m deep room code left cost from (Ends (state 0 to)) lt e)
      (beside pages m deep room (cost - left) code (state left from));
  falls = λ deep room code left cost from cause end lt e.
      falls pages m deep room (cost - left) (run pages m (enter deep pages m low_host room) code (state left from)) (run pages m (enter deep pages m low_host room) code (state (left + (cost - left)) from)) cause end (at_cost pages m deep room code left cost from (Breaks cause end) lt e)
      (beside pages m deep room (cost - left) code (state left from));
}
