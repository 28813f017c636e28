-- Codes of primitives find what they call and read.
use Rattle.std.proofs.Common.{◌≡◌, ℕ, suc, ◌+◌, ◌*◌, ◌≤◌, List, [], ◌∷◌, ◌++◌, Some, slice_get, refl, sym, ap, ◌∙◌, subst, arith}
use Rattle.mo_num.specs.declared.kind.Kind.{Kind}
use Rattle.mo_num.specs.declared.kind.Kind.TheVariants as kind
use Rattle.mo_num.specs.declared.operator.Operator.{Operator}
use Rattle.mo_num.specs.declared.operator.Operator.TheVariants as operator
use Rattle.mo_num.specs.declared.operator.NumTrap.{NumTrap}
use Rattle.mo_num.specs.declared.operator.NumTrap.TheVariants.{Overflow, Underflow, DivideByZero}
use Rattle.mo_values.specs.Operations.{number_text}
use Rattle.mo_values.specs.Shapes.{Bytes}
use Rattle.wasm_tree.specs.declared.types.ValueType.TheVariants.{I32, I64}
use Rattle.core_ir.specs.Code.{CodeProgram}
use Rattle.low_ir.specs.declared.module_parts.LowExport.{LowExport}
use Rattle.low_ir.specs.Tree.{Function, Module}
use Rattle.low_ir.specs.Numbering.{host_count}
use Rattle.low_execution.specs.Host.{low_host}
use Rattle.memory_routines.specs.Allocation.{allocation}
use Rattle.memory_routines.specs.Laws as memory
use Rattle.memory_routines.proofs.Kept.{allocation_kept}
use Rattle.number_routines.specs.Laws as numbers
use Rattle.number_lines.specs.Laws.{HaveTexts, arithmetic_routine}
use Rattle.heap_layout.specs.Table.{StandsAt}
use Rattle.operation_codes.specs.Codes.{way}
use Rattle.operation_lines.specs.Linked.{MayBeCalled, Linked}
use Rattle.operation_lines.proofs.Heaped.{operations_kept}
use Rattle.limited_runs.specs.Shown.{told, fell}
use Rattle.limited_runs.proofs.Shows.{shows}
use Rattle.low_emit.specs.Texts.{texts_of, memory_of, common_texts, place_from}
use Rattle.low_emit.specs.Modules.{Routine, plan, links, traps, routines, allocating, failing, calculating, calculation_place, module_with}
use Rattle.linked_modules.specs.Laws.{ModulesAreLinked, PrimitivesAreKept}
use Rattle.linked_modules.proofs.Prefixed.{Grown, texts_begin}
use Rattle.linked_modules.proofs.Routines.{is_defined, is_typed}

-- The text of a trap, where the texts have these first.
trap_stands : (ts : List Bytes) → Grown common_texts ts → (t : NumTrap) → StandsAt (memory_of ts) (8 * place_from 1 (number_text t) ts + 8) (number_text t)
trap_stands ts g t = subst (λ ts. StandsAt (memory_of ts) (8 * place_from 1 (number_text t) ts + 8) (number_text t)) (sym g.is) (by t)
  where
    by : (t : NumTrap) → StandsAt (memory_of (common_texts ++ g.more)) (8 * place_from 1 (number_text t) (common_texts ++ g.more) + 8) (number_text t)
    by Overflow = record { inside = omega arith; bytes = refl }
    by Underflow = record { inside = omega arith; bytes = refl }
    by DivideByZero = record { inside = omega arith; bytes = refl }

module _ (p : CodeProgram) (more : List Routine) (own : ℕ) (entries : List Function) (exports : List LowExport) where
  abbrev m : Module
  m = module_with p more own entries exports

  have_texts : HaveTexts (plan p more own) (traps p more own)
  have_texts Overflow = trap_stands (texts_of p) (texts_begin p) Overflow
  have_texts Underflow = trap_stands (texts_of p) (texts_begin p) Underflow
  have_texts DivideByZero = trap_stands (texts_of p) (texts_begin p) DivideByZero

  abbrev Calculated : Operator → Kind → Type 0
  Calculated o k = (signature : ℕ) × numbers.IsThere m (host_count + (2 + calculation_place o k)) (I64 ∷ I64 ∷ []) (arithmetic_routine signature (traps p more own) o k)

  -- A calculation in the list.
  at_place : (o : Operator) (k : Kind) → slice_get (routines p more own) (2 + calculation_place o k) ≡ Some (calculating (traps p more own) (record { operator = o; kind = k }))
      → ((signature : ℕ) → (calculating (traps p more own) (record { operator = o; kind = k })).function signature ≡ arithmetic_routine signature (traps p more own) o k)
      → ((signature : ℕ) → (arithmetic_routine signature (traps p more own) o k).signature ≡ signature) → Calculated o k
  at_place o k e f s =
      let n : ℕ = suc host_count + (2 + calculation_place o k) in
      let r : Routine = calculating (traps p more own) (record { operator = o; kind = k }) in (
        n,
        record {
          typed = is_typed p more own entries exports (2 + calculation_place o k) r e (ap (λ (f : Function). f.signature) (f n) ∙ s n);
          there = is_defined p more own entries exports (2 + calculation_place o k) r e ∙ ap Some (f n);
        },
      )

  narrow : (o : Operator) (k : Kind) → MayBeCalled (way o k) → Calculated o k
  narrow operator.Add kind.Nat c = absurd c
  narrow operator.Add kind.Int c = absurd c
  narrow operator.Add kind.Nat8 c = absurd c
  narrow operator.Add kind.Nat16 c = absurd c
  narrow operator.Add kind.Nat32 c = absurd c
  narrow operator.Add kind.Nat64 c = absurd c
  narrow operator.Add kind.Int8 c = at_place operator.Add kind.Int8 refl (λ n. refl) (λ n. refl)
  narrow operator.Add kind.Int16 c = at_place operator.Add kind.Int16 refl (λ n. refl) (λ n. refl)
  narrow operator.Add kind.Int32 c = at_place operator.Add kind.Int32 refl (λ n. refl) (λ n. refl)
  narrow operator.Add kind.Int64 c = absurd c
  narrow operator.Sub kind.Nat c = absurd c
  narrow operator.Sub kind.Int c = absurd c
  narrow operator.Sub kind.Nat8 c = absurd c
  narrow operator.Sub kind.Nat16 c = absurd c
  narrow operator.Sub kind.Nat32 c = absurd c
  narrow operator.Sub kind.Nat64 c = absurd c
  narrow operator.Sub kind.Int8 c = at_place operator.Sub kind.Int8 refl (λ n. refl) (λ n. refl)
  narrow operator.Sub kind.Int16 c = at_place operator.Sub kind.Int16 refl (λ n. refl) (λ n. refl)
  narrow operator.Sub kind.Int32 c = at_place operator.Sub kind.Int32 refl (λ n. refl) (λ n. refl)
  narrow operator.Sub kind.Int64 c = absurd c
  narrow operator.Mul kind.Nat c = absurd c
  narrow operator.Mul kind.Int c = at_place operator.Mul kind.Int refl (λ n. refl) (λ n. refl)
  narrow operator.Mul kind.Nat8 c = absurd c
  narrow operator.Mul kind.Nat16 c = absurd c
  narrow operator.Mul kind.Nat32 c = absurd c
  narrow operator.Mul kind.Nat64 c = absurd c
  narrow operator.Mul kind.Int8 c = at_place operator.Mul kind.Int8 refl (λ n. refl) (λ n. refl)
  narrow operator.Mul kind.Int16 c = at_place operator.Mul kind.Int16 refl (λ n. refl) (λ n. refl)
  narrow operator.Mul kind.Int32 c = at_place operator.Mul kind.Int32 refl (λ n. refl) (λ n. refl)
  narrow operator.Mul kind.Int64 c = at_place operator.Mul kind.Int64 refl (λ n. refl) (λ n. refl)
  narrow operator.Div k c = absurd c
  narrow operator.Rem k c = absurd c
  narrow operator.Pow kind.Nat c = at_place operator.Pow kind.Nat refl (λ n. refl) (λ n. refl)
  narrow operator.Pow kind.Int c = at_place operator.Pow kind.Int refl (λ n. refl) (λ n. refl)
  narrow operator.Pow kind.Nat8 c = at_place operator.Pow kind.Nat8 refl (λ n. refl) (λ n. refl)
  narrow operator.Pow kind.Nat16 c = at_place operator.Pow kind.Nat16 refl (λ n. refl) (λ n. refl)
  narrow operator.Pow kind.Nat32 c = at_place operator.Pow kind.Nat32 refl (λ n. refl) (λ n. refl)
  narrow operator.Pow kind.Nat64 c = at_place operator.Pow kind.Nat64 refl (λ n. refl) (λ n. refl)
  narrow operator.Pow kind.Int8 c = at_place operator.Pow kind.Int8 refl (λ n. refl) (λ n. refl)
  narrow operator.Pow kind.Int16 c = at_place operator.Pow kind.Int16 refl (λ n. refl) (λ n. refl)
  narrow operator.Pow kind.Int32 c = at_place operator.Pow kind.Int32 refl (λ n. refl) (λ n. refl)
  narrow operator.Pow kind.Int64 c = at_place operator.Pow kind.Int64 refl (λ n. refl) (λ n. refl)

  allocates_there : (signature : ℕ) × memory.IsThere m host_count (I32 ∷ []) (allocation signature)
  allocates_there = (
    suc host_count + 0,
    record {
      typed = is_typed p more own entries exports 0 allocating refl refl;
      there = is_defined p more own entries exports 0 allocating refl;
    },
  )

  linked : (pages : ℕ) → pages ≤ 65535 → Linked (plan p more own) pages (65536 * pages) m (links p more own)
  linked pages few = record {
    low_roof = omega (arith, few);
    few_pages = omega arith;
    texts = have_texts;
    calculates = narrow;
    allocates = allocates_there;
    fails = (suc host_count + 1, is_typed p more own entries exports 1 failing refl refl, is_defined p more own entries exports 1 failing refl);
  }

pub modules_linked : ModulesAreLinked
modules_linked p more own entries exports pages few = linked p more own entries exports pages few

pub primitives_kept : PrimitivesAreKept
primitives_kept p more own entries exports pages few = (
  λ deep room q t to free xs. operations_kept _ p.head (plan p more own) pages (65536 * pages) (module_with p more own entries exports) low_host told fell shows (links p more own) (linked p more own entries exports pages few) deep room q to free xs t,
  λ deep room d r s memory count top others is size lt.
      let there = allocates_there p more own entries exports in
      allocation_kept _ pages (module_with p more own entries exports) low_host host_count there.0 there.1 deep room (omega (arith, d)) (omega (arith, r)) s memory count top others is size lt,
)
