-- The entry that replies with a copy.
use Rattle.std.proofs.Common.{◌≡◌, inl, inr, ◌⊎◌, ◌+◌, ◌*◌, ◌<◌, ◌≤◌, ℕ, List, [], ◌∷◌, length, take, drop, Some, None, refl, sym, ◌∙◌, subst, arith}
use Rattle.wasm_tree.specs.Imports.{entry_type}
use Rattle.wasm_tree.specs.Exec.{Store, pages_of}
use Rattle.ic0_world.specs.declared.world.World.{World}
use Rattle.ic0_world.specs.Act.{longest_message}
use Rattle.low_ir.specs.declared.op.Operand.TheVariants.{Local}
use Rattle.low_ir.specs.Tree.{Code, Call}
use Rattle.low_rules.specs.Rule.{CallEnd, spend, after_call, ResultTo, Before, begins, ends}
use Rattle.memory_routines.specs.Heaps.{pages_for, heap, heap_end, enlarged, HoldsBytes}
use Rattle.memory_routines.specs.Copying.{placed, Copies}
use Rattle.memory_routines.specs.Laws.{IsHeapStill}
use Rattle.memory_routines.proofs.Stays.{heaps_stay}
use Rattle.routine_lines.specs.Roles.{top_in, others_in, HasHeap}
use Rattle.first_run_time.specs.Entries.{replies, reply_copy, copy_entry}
use Rattle.first_run_time.specs.RunTime.{run_time}
use Rattle.first_run_time.proofs.Hosts.{fresh, answered}
use Rattle.first_run_time.proofs.Queries.{EndsWith, does, B, with_heap, at, sends, given, given_bytes, given_heap, argument_there, with_whole_argument}

module _ (pages : ℕ) (s : Store World) (w : World) (heaped : HasHeap s) (holds : HoldsBytes s.memory) (bytes : HoldsBytes w.argument) (few : length w.argument ≤ longest_message) where
  abbrev size : ℕ
  size = length w.argument

  abbrev top : ℕ
  top = top_in s

  abbrev two : 1 ≤ 2
  two = omega arith

  abbrev Ended : CallEnd World → Type 0
  Ended end = EndsWith pages (25 * size + 130) (2 * size) w.argument s w end

  abbrev with_argument_there : List ℕ
  with_argument_there = given pages 2 two s w Ended heaped holds bytes few

  abbrev store : ℕ → List ℕ → Store World
  store end memory = with_heap pages 2 two s w Ended end memory (fresh w)

  abbrev appends : Code
  appends = Call None 4 (Local 2 ∷ Local 0 ∷ []) replies

  abbrev copies : Code
  copies = Call (Some 2) 23 (Local 1 ∷ Local 0 ∷ []) appends

  sooner : (needs less : ℕ) → less ≤ needs → (heap_end < top + less) ⊎ (pages < pages_for (top + less)) → (heap_end < top + needs) ⊎ (pages < pages_for (top + needs))
  sooner needs less le (inl h) = inl (omega (arith, le, h))
  sooner needs less le (inr h) = inr (omega (arith, le, h))

  module _ (short : top + size ≤ heap_end) where
    abbrev AfterCopying : ℕ → CallEnd World → Type 0
    AfterCopying spent end =
        after_call (spend 3 (at pages 2 two s w Ended spent (store (top + size) with_argument_there) (size ∷ top ∷ 0 ∷ []))) (ResultTo (Some 2) (Before pages run_time (does pages 2 two s w Ended) appends (ends entry_type Ended))) (ends entry_type Ended) end

    sent : (spent : ℕ) → spent + 5 ≤ 25 * size + 130 → top + size + size ≤ heap_end
        → B pages 2 two s w Ended appends (at pages 2 two s w Ended spent (store (top + size + size) (placed (enlarged with_argument_there (pages_of with_argument_there) (top + size + size)) top (top + size) size)) (size ∷ top ∷ (top + size) ∷ []))
    sent spent le fits =
        let memory : List ℕ = placed (enlarged with_argument_there (pages_of with_argument_there) (top + size + size)) top (top + size) size in
        let stays = (heaps_stay with_argument_there (pages_of with_argument_there) (top + size) size (given_heap pages 2 two s w Ended heaped holds bytes few short).is fits).1 top (omega arith) in
        let still : IsHeapStill with_argument_there memory (pages_of with_argument_there) (top + size) size = stays.0 in
        let same : take size (drop (top + size) memory) ≡ w.argument = stays.1 ∙ argument_there pages 2 two s w Ended heaped holds bytes few short in
        sends pages 2 two s w Ended (Local 2) (Local 0) spent (top + size + size) (top + size) size (size ∷ top ∷ (top + size) ∷ []) memory w.argument refl refl (omega (arith, still.is.inside)) (omega (arith, still.is.whole, still.is.few)) few same
        (inl (spent + 3 + 0 + 1 + 0, omega (arith, le), with_heap pages 2 two s w Ended (top + size + size) memory (answered w.argument w), refl, refl))

    copied : (spent : ℕ) → spent ≤ 58 → B pages 2 two s w Ended copies (at pages 2 two s w Ended spent (store (top + size) with_argument_there) (size ∷ top ∷ 0 ∷ []))
    copied spent le = ((omega arith, (given_heap pages 2 two s w Ended heaped holds bytes few short, given_bytes pages 2 two s w Ended heaped holds bytes few short, omega arith)), after)
      where
        after : (end : CallEnd World) → Copies pages (store (top + size) with_argument_there) with_argument_there (pages_of with_argument_there) (top + size) (others_in s) top size end → AfterCopying spent end
        after end (inl (cost, most, fits, room, e)) = subst (AfterCopying spent) (sym e) (sent (spent + 3 + cost + 1) (omega (arith, le, most)) fits)
        after end (inr (cost, most, wants, e)) =
            let needs : top + size + size ≡ top + 2 * size = omega arith in
            subst (AfterCopying spent) (sym e)
            (inr (spent + 3 + cost, omega (arith, le, most), heap (store (top + size) with_argument_there) with_argument_there (top + size) (others_in s), refl, refl, subst (λ k. (heap_end < k) ⊎ (pages < pages_for k)) needs wants))

  pub replies_with_copy : B pages 2 two s w Ended reply_copy (begins copy_entry (record { memory = s.memory; globals = s.globals; table = s.table; refused = s.refused; world = fresh w }) [])
  replies_with_copy =
      with_whole_argument pages 2 two s w Ended heaped holds bytes few copies (0 ∷ []) (λ spent le short. copied short spent le)
      (λ cost le why. inr (cost, omega (arith, le), store top s.memory, refl, refl, sooner (2 * size) size (omega arith) why))
