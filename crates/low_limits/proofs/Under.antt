-- A call of which is shown how it ends where nothing is wanting, under any limits.
use Rattle.std.proofs.Common.{◌≡◌, ◌⊎◌, inl, inr, ℕ, ◌+◌, ◌-◌, ◌<◌, Option, refl, sym, ap, ◌∙◌, subst, arith}
use Rattle.wasm_tree.specs.declared.trap.Trap.{Trap}
use Rattle.wasm_tree.specs.declared.trap.Trap.TheVariants as trap
use Rattle.wasm_tree.specs.Exec.{Store}
use Rattle.ic0_world.specs.declared.world.World.{World}
use Rattle.module_laws.specs.Prints.{IsLater}
use Rattle.low_ir.specs.Tree.{Module}
use Rattle.low_ir.specs.Meaning.{Called, Gave, Fell, Lost}
use Rattle.low_ir.specs.Frames.{enter}
use Rattle.low_rules.specs.Rule.{CallEnd, Comes, Dies, cost_of, called_of}
use Rattle.low_execution.specs.Host.{low_host}
use Rattle.low_limits.specs.Laws.{CallWants, store_of, CallIsCut, CallsUnderLimits}
use Rattle.low_limits.proofs.Later.{CallIsLater}
use Rattle.low_limits.proofs.Fewer.{IsWanting, CallClose, fewer}

wants : (left cost scant ample room large : ℕ) (cause : Trap) (store : Store World) → IsWanting (left < cost) (room < large) (scant < ample) cause store → CallWants left cost scant ample room large cause store
wants left cost scant ample room large trap.Steps store h = h
wants left cost scant ample room large trap.Stack store h = h
wants left cost scant ample room large trap.Unreachable store h = h
wants left cost scant ample room large trap.Bounds store h = h
wants left cost scant ample room large trap.DivideByZero store h = h
wants left cost scant ample room large trap.Overflow store h = h
wants left cost scant ample room large trap.Indirect store h = h
wants left cost scant ample room large trap.Host store h = h

later_end : (w : World) (n : ℕ) (end : CallEnd World) → CallIsLater w (called_of n end) → IsLater w (store_of end).world
later_end w n (Comes cost store value) p = p
later_end w n (Dies cause cost store) p = p

abbrev steps_of : Called World → ℕ
steps_of (Gave left store value) = left
steps_of (Fell cause store) = 0
steps_of Lost = 0

-- A result is given with the steps that are over.
gave : (left extra n : ℕ) (end : CallEnd World) → extra ≡ cost_of end - left → (store : Store World) (value : Option ℕ) → called_of (left - cost_of end) end ≡ Gave (n + extra) store value → Gave n store value ≡ called_of (left - cost_of end) end
gave left extra n (Comes cost other v) more store value e =
    let steps : left - cost ≡ n + extra = ap steps_of e in
    let same : n ≡ n + extra = omega (arith, steps, more) in
    ap (λ k. Gave k store value) same ∙ sym e
gave left extra n (Dies cause cost other) more store value e = absurd (cc)

module _ (m : Module) (left scant ample room large : ℕ) (end : CallEnd World) (means : 0 < cost_of end - left → left < cost_of end) where
  abbrev Beside : Called World → Called World → Type 0
  Beside o a = CallClose m (cost_of end - left) (left < cost_of end) (room < large) (scant < ample) means o a

  same : (o : Called World) → Beside o (called_of (left - cost_of end) end) → (o ≡ called_of (left - cost_of end) end) ⊎ CallIsCut left scant ample room large end o
  same (Gave n store value) e = inl (gave left (cost_of end - left) n end refl store value e)
  same (Fell cause store) (inl e) = inl (sym e)
  same (Fell cause store) (inr e) = inr (record { cause = cause; store = store; is = refl; want = wants left (cost_of end) scant ample room large cause store e.0; goes = later_end store.world (left - cost_of end) end e.1 })
  same Lost e = inl (sym e)

pub under_limits : CallsUnderLimits
under_limits m deep scant ample room large f left le short store args end amply =
    let extra : ℕ = cost_of end - left in
    let whole : left + extra ≡ cost_of end + (left - cost_of end) = omega arith in
    let means : 0 < cost_of end - left → left < cost_of end = λ lt. omega (arith, lt) in
    same m left scant ample room large end means (enter deep scant m low_host room f left store args)
    (subst (λ a. CallClose m extra (left < cost_of end) (room < large) (scant < ample) means (enter deep scant m low_host room f left store args) a) (amply (left + extra) (left - cost_of end) whole)
    (fewer m extra (left < cost_of end) (room < large) (scant < ample) means deep scant ample room large le (λ lt. lt) short (λ lt. lt) f left store args))
