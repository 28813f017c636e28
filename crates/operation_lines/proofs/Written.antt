-- A variable is written.
use Rattle.std.proofs.Common.{◌≡◌, ℕ, ◌+◌, ◌*◌, ◌<◌, ◌≤◌, List, [], ◌∷◌, length, refl, sym, ap, ◌∙◌, subst, arith}
use Rattle.std.specs.Prelude.{slice_index, slice_set}
use Rattle.mo_values.specs.Costs.{Cost}
use Rattle.mo_values.specs.Shapes.{Bytes, unit}
use Rattle.wasm_tree.specs.declared.trap.Trap.TheVariants as trap
use Rattle.wasm_tree.specs.declared.types.ValueType.TheVariants.{I32}
use Rattle.wasm_tree.specs.Numeric.{low}
use Rattle.wasm_tree.specs.Exec.{Host, Store}
use Rattle.core_ir.specs.Primitives.{Gives}
use Rattle.core_ir.specs.Values.{Value}
use Rattle.core_ir.specs.Worlds.{World}
use Rattle.low_ir.specs.declared.op.Operand.{Operand}
use Rattle.low_ir.specs.Tree.{Module}
use Rattle.low_rules.specs.Rule.{Stops, OnTest, Before, is_inside, value_of}
use Rattle.low_rules.proofs.Steps.{on_true}
use Rattle.module_laws.specs.Stored.{written}
use Rattle.heap_layout.specs.Ghosts.{Ghost}
use Rattle.heap_layout.specs.Heaps.{Plan}
use Rattle.heap_layout.specs.Laws.{IsRead, CellIsWritten}
use Rattle.emitted_steps.specs.Operations.{Clear, HeapHeld, Worked}
use Rattle.emitted_steps.proofs.Frames.{local_here}
use Rattle.operation_codes.specs.Codes.{gives_unit, writes}
use Rattle.operation_lines.specs.Laws.{operation_steps}
use Rattle.operation_lines.proofs.Work.{Behind, behind_none, behind_set, still, put_in, End, Runs, does}
use Rattle.operation_lines.proofs.Blocks.{over}

module _ {W : Type 0} (plan : Plan) (told fell : W → Bytes → W) (roof : ℕ) (g : Ghost) (world : World) (store : Store W) (top : ℕ) (held : HeapHeld plan g world store top) (locals : List ℕ) (to free : ℕ) (pages : ℕ) (m : Module) (host : Host W) (deep room : ℕ) (to_fits : to < length locals) (free_fits : 3 + free ≤ length locals) (cost : Cost) (some : 1 ≤ cost.weight)
    (n : ℕ) (c a : Operand) (v : Value) (clear : Clear free (a ∷ [])) (c_is : value_of c locals ≡ 8 * g.cells n) (read : IsRead store.memory (g.cells n)) (now : CellIsWritten plan g world store.memory held.count top n (value_of a locals) v) where
  abbrev x : ℕ
  x = low I32 (value_of c locals)

  abbrev base : List ℕ
  base = slice_set locals free x

  abbrev memory : List ℕ
  memory = written store.memory (8 * g.cells n) 8 (value_of a locals)

  behind : Behind free locals base
  behind = behind_set free locals locals free x (omega arith) (omega arith) (behind_none free locals)

  globals_are : store.globals ≡ 8 * top ∷ held.others
  globals_are = ap (λ s. s.globals) held.is

  abbrev Left : List ℕ → Type 0
  Left memory = Worked plan told fell operation_steps g world store locals top to free cost.weight [] unit (slice_set world.store n v) (record { spent = 0 + 3 + 3 + 2; store = over store memory; locals = slice_set base to 0 })

  left : Left memory
  left = record {
    word = 0;
    ghost = g;
    end = top;
    heap = record { count = held.count; others = held.others; is = λ i. record { memory = memory; globals = globals_are i; table = store.table; refused = store.refused; world = store.world }; holds = now.holds };
    later = now.later;
    rep = record { small = omega arith; means = refl };
    put = put_in to free 0 locals base behind to_fits;
    table = refl;
    some = omega arith;
    few = omega (arith, some);
    bytes = omega arith;
    shown = refl;
  }

  abbrev Goal : ℕ → ℕ → Type 0
  Goal address w =
      OnTest (is_inside store.memory address 8)
      (Before pages m (does plan told fell roof g world store top held locals to free pages m host deep room) (gives_unit to) (End plan told fell roof g world store top held locals to free (Gives cost unit (slice_set world.store n v))) (record { spent = 0 + 3 + 3; store = over store (written store.memory address 8 w); locals = base }))
      (End plan told fell roof g world store top held locals to free (Gives cost unit (slice_set world.store n v)) (Stops trap.Bounds (0 + 3 + 3) store))

  pub writes_runs : Runs plan told fell roof g world store top held locals to free pages m host deep room (Gives cost unit (slice_set world.store n v)) (writes to free c a)
  writes_runs =
      let x_is : x ≡ 8 * g.cells n = ap (low I32) c_is ∙ read.address in
      let first : slice_index base free ≡ 8 * g.cells n = local_here locals free x (omega (arith, free_fits)) ∙ x_is in
      let address : low I32 (slice_index base free) + 0 ≡ 8 * g.cells n = ap (λ n. low I32 n + 0) first ∙ ap (λ n. n + 0) read.address ∙ omega arith in
      let w_is : value_of a base ≡ value_of a locals = still free locals base behind a clear in
      subst (λ k. Goal k (value_of a base)) (sym address) (subst (Goal (8 * g.cells n)) (sym w_is) (on_true _ _ _ read.inside left))
