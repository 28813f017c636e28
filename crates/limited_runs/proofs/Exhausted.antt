-- Limits that are reached.
use Rattle.std.proofs.Common.{◌≡◌, ℕ, ◌+◌, ◌*◌, ◌<◌, ◌≤◌, true, cond, ◌++◌, refl, ap, append_assoc, ◌∙◌, arith}
use Rattle.std.proofs.Math.Nat.{mul-le-mul, mul-le-mul_left}
use Rattle.play_script.specs.declared.item.Word.TheVariants as word
use Rattle.mo_actor.specs.Executions.{Execution}
use Rattle.mo_actor.specs.Results.{IsPrefix}
use Rattle.wasm_tree.specs.declared.trap.Trap.{Trap}
use Rattle.wasm_tree.specs.declared.trap.Trap.TheVariants as trap
use Rattle.wasm_tree.specs.Exec.{Store}
use Rattle.ic0_world.specs.declared.world.World.{World}
use Rattle.canister_host.specs.Execution.{Breaks, word_of}
use Rattle.low_ir.specs.Meaning.{Called, Fell}
use Rattle.low_execution.specs.Execution.{low_end}
use Rattle.heap_layout.specs.Table.{bytes_for}
use Rattle.emitted_steps.specs.Shortage.{ShowsMore}
use Rattle.emitted_steps.specs.Steps.{own_steps}
use Rattle.emitted_runs.proofs.Runs.{shows_on}
use Rattle.limited_runs.specs.Shown.{prints_of}
use Rattle.limited_runs.specs.Cuts.{Wants, IsExhausted}
use Rattle.limited_runs.specs.Laws.{CutsAddUp, CutsAreResults}

spread : (u a b : ℕ) → (96 + u) * (a + b) ≡ (96 + u) * a + (96 + u) * b
spread u a b = omega arith

more_bytes : (a b : ℕ) → bytes_for (a + b) ≡ bytes_for a + bytes_for b
more_bytes a b = omega arith

module _ (unit_steps left steps later pages room top end paid weight deep deeper : ℕ) (count : left ≡ steps + later) (few : steps ≤ (own_steps + unit_steps) * paid) (bytes : 8 * end ≤ 8 * top + bytes_for paid) (le : deep ≤ deeper) where
  wants_behind : (cause : Trap) (store : Store World) → Wants unit_steps later pages room end weight deep cause store → Wants unit_steps left pages room top (paid + weight) deeper cause store
  wants_behind trap.Steps store h = let e = spread unit_steps paid weight in omega (arith, e, h, count, few)
  wants_behind trap.Stack store h = omega (arith, h, le)
  wants_behind trap.Unreachable store h = (h.0, let e = more_bytes paid weight in let k = h.1 in omega (arith, e, k, bytes))
  wants_behind trap.Bounds store h = h
  wants_behind trap.DivideByZero store h = h
  wants_behind trap.Overflow store h = h
  wants_behind trap.Indirect store h = h
  wants_behind trap.Host store h = h

pub add_up : CutsAddUp
add_up unit_steps left steps later pages room top end paid weight deep deeper called w whole count few bytes le more c = record {
  cause = c.cause;
  store = c.store;
  is = c.is;
  want = wants_behind unit_steps left steps later pages room top end paid weight deep deeper count few bytes le c.cause c.store c.want;
  part = shows_on prints_of c.store.world w whole c.part more;
}

module _ {A : Type 0} (times unit_steps left pages room top weight deep : ℕ) (called : Called World) (w : World) (x : Execution A) (turns first_memory charged : ℕ) (share : times * (own_steps + unit_steps) ≤ 32768) (bytes : times * bytes_for 1 ≤ 256)
    (paid : times * (8 * top) ≤ first_memory + 256 * charged) (heavy : weight ≤ (x turns).weight) (far : deep ≤ (x turns).depth) (shows : IsPrefix w.prints (x turns).prints) (store : Store World) (part : ShowsMore prints_of store.world w) where
  begun : IsPrefix store.world.prints (x turns).prints
  begun = (part.more ++ shows.0, shows.1 ∙ ap (λ l. l ++ shows.0) part.is ∙ append_assoc store.world.prints part.more shows.0)

  steps_reached : left < (own_steps + unit_steps) * weight → times * left ≤ 32768 * ((x turns).weight + 1)
  steps_reached h =
      let a : times * left ≤ times * ((96 + unit_steps) * weight) = mul-le-mul_left {m = left} {n = (96 + unit_steps) * weight} times (omega (arith, h)) in
      let b : times * ((96 + unit_steps) * weight) ≡ (times * (96 + unit_steps)) * weight = omega arith in
      let c = mul-le-mul {n₁ = times * (96 + unit_steps)} {m₁ = weight} {n₂ = 32768} {m₂ = (x turns).weight} share heavy in
      omega (arith, a, b, c)

  pages_reached : 65536 * pages < 8 * top + bytes_for weight → 65536 * (times * pages) ≤ first_memory + 256 * ((x turns).weight + charged + 1)
  pages_reached h =
      let a : times * (65536 * pages) ≤ times * (8 * top + bytes_for weight) = mul-le-mul_left {m = 65536 * pages} {n = 8 * top + bytes_for weight} times (omega (arith, h)) in
      let b : times * (8 * top + bytes_for weight) ≡ times * (8 * top) + (times * bytes_for 1) * weight = omega arith in
      let c = mul-le-mul {n₁ = times * bytes_for 1} {m₁ = weight} {n₂ = 256} {m₂ = (x turns).weight} bytes heavy in
      let d : times * (65536 * pages) ≡ 65536 * (times * pages) = omega arith in
      omega (arith, a, b, c, d, paid)

  by : (cause : Trap) → called ≡ Fell cause store → Wants unit_steps left pages room top weight deep cause store → IsExhausted (times * left) room (times * pages) first_memory charged called x
  by trap.Steps is h = record { word = word.Steps; prints = store.world.prints; is = ap low_end is; result = (turns, refl, begun, steps_reached h) }
  by trap.Stack is h = record { word = word.Stack; prints = store.world.prints; is = ap low_end is; result = (turns, refl, begun, omega (arith, h, far)) }
  by trap.Unreachable is h = record {
    word = word.Heap;
    prints = store.world.prints;
    is = ap low_end is ∙ ap (λ refused. Breaks (word_of (cond refused true store.world.stable_refused) store.world.trap_text trap.Unreachable) store.world.prints) h.0;
    result = (turns, refl, begun, pages_reached h.1);
  }
  by trap.Bounds is h = absurd h
  by trap.DivideByZero is h = absurd h
  by trap.Overflow is h = absurd h
  by trap.Indirect is h = absurd h
  by trap.Host is h = absurd h

pub results : (A : Type 0) → CutsAreResults A
results A times unit_steps left pages room top weight deep called w x turns first_memory charged c share bytes paid heavy far shows =
    by times unit_steps left pages room top weight deep called w x turns first_memory charged share bytes paid heavy far shows c.store c.part c.cause c.is c.want
