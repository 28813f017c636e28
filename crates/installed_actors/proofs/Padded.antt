-- Names that have no values are ().
use Rattle.std.proofs.Common.{◌≡◌, ℕ, zero, suc, List, [], ◌∷◌, ◌++◌, replicate, Option, Some, None, refl, sym, ap, ◌∙◌}
use Rattle.std.specs.Prelude.{slice_get}
use Rattle.mo_types.specs.Calls.{State as CallState, Open, Answered, Lost}
use Rattle.mo_values.specs.Shapes.{Bytes, unit}
use Rattle.mo_values.specs.Views.{natural_of}
use Rattle.core_ir.specs.declared.code.Operand.{Operand}
use Rattle.core_ir.specs.declared.code.Operand.TheVariants.{Slot, Captured, Member, Global}
use Rattle.core_ir.specs.declared.code.Operand.TheVariants as operand
use Rattle.core_ir.specs.Choices.{nth, on_some}
use Rattle.core_ir.specs.Values.{Handle, Value, future_of}
use Rattle.core_ir.specs.Worlds.{Given, World, Context, state_now}
use Rattle.core_ir.specs.Calls.{NoFuture, awaited, awaited_in, sent}
use Rattle.core_ir.specs.Gatherings.{Gathering}
use Rattle.core_ir.specs.Openings.{opened}
use Rattle.core_ir.specs.Primitives.{perform}
use Rattle.core_ir.specs.Executions.{Go, Ends, Stand, after_step, heavier, run}
use Rattle.core_ir.specs.Code.{Code, Stop, Let, If, Match, Loop, Label, Branch, Leave, Pass, Make, Call, Tabulate, Send, Wait, Raise, Return, CodeProgram}
use Rattle.core_ir.specs.CodeMachine.{Frame, Around, Caller, State, Waiting, Did, value, values, put, operated, chosen, matched, asked, waits, raise, onto, stuck, settle, gather, called, caller_with, handed, back, tabulated, instruct, made_in, step, depth, code_machine}
use Rattle.core_ir.specs.Messages.{Messages}
use Rattle.core_ir.specs.Actor.{alone, outer_names}
use Rattle.installed_actors.specs.Laws.{UnsetNamesReadAsUnits}

unit_at : (n i : ℕ) → nth unit (replicate n unit) i ≡ unit {F = Handle}
unit_at zero i = refl
unit_at (suc n) zero = refl
unit_at (suc n) (suc i) = unit_at n i

padded_at : (xs : List Value) (n i : ℕ) → nth unit (xs ++ []) i ≡ nth unit (xs ++ replicate n unit) i
padded_at [] n i = sym (unit_at n i)
padded_at (x ∷ xs) n zero = refl
padded_at (x ∷ xs) n (suc i) = padded_at xs n i

module _ {K : Type 0} (messages : Messages K) (p : CodeProgram) (own : ℕ) (id : Bytes) where
  abbrev short : Context
  short = alone (code_machine p) messages p id []

  abbrev padded : Context
  padded = alone (code_machine p) messages p id (replicate own unit)

  value_same : (f : Frame) (x : Operand) → value short.globals f x ≡ value padded.globals f x
  value_same f (Slot x) = refl
  value_same f (Captured x) = refl
  value_same f (Member m) = refl
  value_same f (Global i) = padded_at (outer_names id p.methods) own i
  value_same f (operand.Constant c) = refl

  values_same : (f : Frame) (xs : List Operand) → values short.globals f xs ≡ values padded.globals f xs
  values_same f [] = refl
  values_same f (x ∷ xs) = λ k. value_same f x k ∷ values_same f xs k

  gather_same : (world : World) (v : Value) (next left : ℕ) (vs : List Value) (t : ℕ) (c : Code) (ks : List Around) (f : Frame) (cs : List Caller) → gather p short world v next left vs t c ks f cs ≡ gather p padded world v next left vs t c ks f cs
  gather_same world v next zero vs t c ks f cs = refl
  gather_same world v next (suc left) vs t c ks f cs = refl

  handed_same : (world : World) (v : Value) (g : Option Gathering) (c : Caller) (cs : List Caller) → handed p short world v g c cs ≡ handed p padded world v g c cs
  handed_same world v None c cs = refl
  handed_same world v (Some g) c cs = ap (heavier 1) (gather_same world g.function g.next g.remaining (g.done ++ v ∷ []) c.to c.rest c.around c.frame cs)

  back_same : (world : World) (v : Value) (cs : List Caller) → back p short world v cs ≡ back p padded world v cs
  back_same world v [] = refl
  back_same world v (c ∷ cs) = handed_same world v c.gathering c cs

  tabulated_of : (world : World) (n : Option ℕ) (v : Value) (t : ℕ) (c : Code) (ks : List Around) (f : Frame) (cs : List Caller)
      → on_some (stuck world) n (λ n. heavier 1 (gather p short world v 0 n [] t c ks f cs)) ≡ on_some (stuck world) n (λ n. heavier 1 (gather p padded world v 0 n [] t c ks f cs))
  tabulated_of world None v t c ks f cs = refl
  tabulated_of world (Some n) v t c ks f cs = ap (heavier 1) (gather_same world v 0 n [] t c ks f cs)

  awaited_in_same : (world : World) (nodes number : ℕ) (s : Option (CallState Given)) → awaited_in short world nodes number s ≡ awaited_in padded world nodes number s
  awaited_in_same world nodes number None = refl
  awaited_in_same world nodes number (Some Open) = refl
  awaited_in_same world nodes number (Some (Answered v)) = refl
  awaited_in_same world nodes number (Some Lost) = refl

  awaited_of : (world : World) (nodes : ℕ) (n : Option ℕ)
      → on_some NoFuture n (λ number. awaited_in short world nodes number (state_now short world number)) ≡ on_some NoFuture n (λ number. awaited_in padded world nodes number (state_now padded world number))
  awaited_of world nodes None = refl
  awaited_of world nodes (Some number) = awaited_in_same world nodes number (state_now short world number)

  instruct_same : (world : World) (c : Code) (ks : List Around) (f : Frame) (cs : List Caller) → instruct p short world c ks f cs ≡ instruct p padded world c ks f cs
  instruct_same world Stop ks f cs = refl
  instruct_same world (Let t q xs c) ks f cs = ap (λ vs. operated world t c ks f cs (perform p.head world.store q vs)) (values_same f xs)
  instruct_same world (If q xs y n c) ks f cs = ap (λ vs. chosen world y n c ks f cs (perform p.head world.store q vs)) (values_same f xs)
  instruct_same world (Match t k x y n c) ks f cs = ap (λ v. matched world t y n c ks f cs (opened k v)) (value_same f x)
  instruct_same world (Loop b c) ks f cs = refl
  instruct_same world (Label b c) ks f cs = refl
  instruct_same world (Branch l) ks f cs = refl
  instruct_same world (Leave j) ks f cs = refl
  instruct_same world (Pass t x j) ks f cs = ap (λ v. onto world j (put f t v) cs) (value_same f x)
  instruct_same world (Make t seen code c) ks f cs = ap (λ vs. on_some (stuck world) (slice_get p.groups code) (λ group. made_in p short world t vs code c ks f cs group.bodies)) (values_same f seen)
  instruct_same world (Call t g xs c) ks f cs = λ k. called p short world (value_same f g k) (values_same f xs k) (caller_with p short t c ks f None) cs
  instruct_same world (Tabulate t n g c) ks f cs =
      (λ k. tabulated p short world (value_same f n k) (value_same f g k) t c ks f cs) ∙ tabulated_of world (natural_of (value padded.globals f n)) (value padded.globals f g) t c ks f cs
  instruct_same world (Send t s g xs h c) ks f cs = λ k. asked world t h c ks f cs (sent short world s (value_same f g k) (values_same f xs k))
  instruct_same world (Wait t x h j) ks f cs =
      ap (λ v. waits world t h j ks f cs (awaited short world f.body.nodes v)) (value_same f x) ∙ ap (waits world t h j ks f cs) (awaited_of world f.body.nodes (future_of (value padded.globals f x)))
  instruct_same world (Raise x h) ks f cs = ap (λ v. raise world v h ks f cs) (value_same f x)
  instruct_same world (Return x) ks f cs = ap (λ v. back p short world v cs) (value_same f x) ∙ back_same world (value padded.globals f x) cs

  abbrev to : Context → ℕ → (weight deep : ℕ) → List Bytes → World → State → Stand State Waiting
  to context n weight deep prints world s = run (code_machine p) context n weight deep prints world s

  then_same : (n below weight deep : ℕ) (prints : List Bytes) (x : Did) → ((weight deep : ℕ) (prints : List Bytes) (world : World) (s : State) → to short n weight deep prints world s ≡ to padded n weight deep prints world s)
      → after_step (to short n) below weight deep prints x ≡ after_step (to padded n) below weight deep prints x
  then_same n below weight deep prints (Go cost out world s) ih = ih _ _ _ world s
  then_same n below weight deep prints (Ends cost out world end) ih = refl

  run_same : (n weight deep : ℕ) (prints : List Bytes) (world : World) (s : State) → to short n weight deep prints world s ≡ to padded n weight deep prints world s
  run_same zero weight deep prints world s = refl
  run_same (suc n) weight deep prints world s =
      ap (after_step (to short n) (depth s) weight deep prints) (instruct_same world (settle s.around s.code).code (settle s.around s.code).around s.frame s.callers)
      ∙ then_same n (depth s) weight deep prints (step p padded world s) (run_same n)

pub unset_as_units : (K : Type 0) → UnsetNamesReadAsUnits K
unset_as_units K messages p own id turns world s = run_same messages p own id turns 0 0 [] world s
