-- Calls of routines that keep their lines, as codes of primitives.
use Rattle.std.proofs.Common.{◌≡◌, ◌⊎◌, inl, inr, ℕ, suc, ◌+◌, ◌*◌, ◌^◌, ◌≤◌, ◌<◌, max, List, [], ◌∷◌, length, true, Some, refl, sym, ap, ◌∙◌, subst, arith}
use Rattle.std.proofs.lemmas.List.{length-set}
use Rattle.mo_types.specs.declared.node.Node.{Node}
use Rattle.mo_types.specs.declared.node.TypeId.{TypeId}
use Rattle.mo_values.specs.Shapes.{Bytes}
use Rattle.wasm_tree.specs.declared.trap.Trap.{Trap}
use Rattle.wasm_tree.specs.declared.trap.Trap.TheVariants as trap
use Rattle.wasm_tree.specs.Exec.{Host, Store}
use Rattle.core_ir.specs.Primitives.{Done, Gives, Prints, Fails, Stuck, perform}
use Rattle.core_ir.specs.Worlds.{World}
use Rattle.low_ir.specs.declared.op.Operand as low
use Rattle.low_ir.specs.Tree.{Stop, Call, Module}
use Rattle.low_ir.specs.Frames.{enter}
use Rattle.low_ir.specs.Meaning.{Calls}
use Rattle.low_rules.specs.Rule.{At, CallEnd, ComesTo, spend, after_call, ResultTo}
use Rattle.low_rules.specs.Lines.{host_end}
use Rattle.low_rules.proofs.Entering.{weaker}
use Rattle.code_sequences.specs.Laws as sequences
use Rattle.code_sequences.proofs.Prefix.{prefix}
use Rattle.memory_routines.specs.Heaps.{heap_end, pages_for}
use Rattle.heap_layout.specs.Ghosts.{Ghost}
use Rattle.heap_layout.specs.Heaps.{Plan}
use Rattle.heap_layout.specs.Endings.{trap_end}
use Rattle.heap_layout.specs.Table.{EndsAs, Wanted, LineEnds, steps_for, bytes_for, cost_of}
use Rattle.heap_layout.proofs.Meanings.{same_later}
use Rattle.emitted_steps.specs.Operations.{given, HostShows, HeapHeld, Wanting, ComesAs, FallsAs, Light, routine_steps}
use Rattle.emitted_steps.specs.Laws.{RoutinesDo}
use Rattle.emitted_steps.proofs.Frames.{local_here, local_other}
use Rattle.emitted_steps.proofs.Calls.{in_order, reps_length}

module _ {W : Type 0} (head : TypeId → Node TypeId) (plan : Plan) (pages : ℕ) (m : Module) (host : Host W) (told fell : W → Bytes → W) (shows : HostShows host told fell) (roof : ℕ) (low_roof : roof ≤ heap_end) (few_pages : pages_for roof ≤ pages) (deep room f : ℕ) (to free : ℕ) (xs : List low.Operand) (g : Ghost) (world : World) (store : Store W) (top : ℕ) (heap : HeapHeld plan g world store top) (locals : List ℕ)
    (to_fits : to < length locals) where
  abbrev from : At W
  from = record { spent = 0; store = store; locals = locals }

  abbrev P : Done → At W → Type 0
  P d h = ComesAs plan told fell routine_steps g world store locals top to free d h

  abbrev Q : Done → Trap → ℕ → Store W → Type 0
  Q d cause spent end = FallsAs plan told fell routine_steps g world store locals top to free roof d cause spent end

  abbrev After : Done → CallEnd W → Type 0
  After d end = after_call (spend (length xs + 1) from) (ResultTo (Some to) (λ h. P d h)) (sequences.Comes (P d) (Q d)) end

  narrow : length store.memory < 2 ^ 32
  narrow = let w = heap.holds.heap.whole in let f = heap.holds.heap.few in omega (arith, w, f)

  -- the store after a print
  abbrev told_of : Bytes → Store W → Store W
  told_of text s = record { memory = s.memory; globals = s.globals; table = s.table; refused = s.refused; world = told s.world text }

  ended : (d : Done) → Light (length xs) d → (d ≡ Stuck → ⊥) → (end : CallEnd W) → EndsAs head plan host g world store store.memory top heap.others d end → After d end
  ended (Gives cost v after) light there end gave =
      subst (After (Gives cost v after)) (sym gave.is)
      (record {
        word = gave.word;
        ghost = gave.ghost;
        end = gave.end_of_heap;
        heap = record { count = gave.count; others = heap.others; is = refl; holds = gave.holds };
        later = gave.later;
        rep = gave.rep;
        put = record { long = length-set locals to gave.word; word_is = local_here locals to gave.word to_fits; others = λ x lt ne. local_other locals to x gave.word ne };
        table = refl;
        some = omega arith;
        few = let s = gave.few in let a = light.0 in let b = light.1 in omega (arith, s, a, b);
        bytes = gave.bytes;
        shown = refl;
      })
  ended (Prints cost text) light there end r =
      subst (After (Prints cost text)) (sym (r.told (told_of text store) (ap (host_end store) (shows.prints store.memory store.world r.address text narrow r.stands))))
      (record {
        word = 0;
        ghost = g;
        end = top;
        heap = record { count = heap.count; others = heap.others; is = ap (told_of text) heap.is; holds = heap.holds };
        later = same_later g store.memory;
        rep = record { small = omega arith; means = refl };
        put = record { long = length-set locals to 0; word_is = local_here locals to 0 to_fits; others = λ x lt ne. local_other locals to x 0 ne };
        table = refl;
        some = omega arith;
        few = let s = r.few in let a = light.0 in let b = light.1 in omega (arith, s, a, b);
        bytes = omega arith;
        shown = refl;
      })
  ended (Fails cost text) light there end r =
      subst (After (Fails cost text)) (sym (r.is ∙ ap (trap_end store r.steps) (shows.traps store.memory store.world r.address text narrow r.stands)))
      (inl (record { cause_is = refl; few = let s = r.few in let a = light.0 in let b = light.1 in omega (arith, s, a, b); world = refl }))
  ended Stuck light there end r = absurd (there refl)

  lack : (needed count : ℕ) → (heap_end < needed) ⊎ (max pages count < pages_for needed) → roof < needed
  lack needed count (inl lt) = omega (arith, lt, low_roof)
  lack needed count (inr lt) = omega (arith, lt, few_pages)

  wants : (weight steps : ℕ) (end : Store W) → (1 ≤ weight) × (length xs ≤ 4 * weight) → steps ≤ steps_for weight → end.refused ≡ true → end.world ≡ store.world → roof < 8 * top + bytes_for weight
      → Wanting plan told fell routine_steps store roof top weight trap.Unreachable (0 + (length xs + 1) + steps) end
  wants weight steps end light few refused world lt = record { cause_is = refl; refused = refused; few = let a = light.0 in let b = light.1 in omega (arith, few, a, b); world = world; lacks = lt }

  wanted : (d : Done) → Light (length xs) d → (d ≡ Stuck → ⊥) → (end : CallEnd W) → Wanted head plan host pages store heap.count top (cost_of head plan host d).weight end → After d end
  wanted (Gives cost v after) light there end r = subst (After (Gives cost v after)) (sym r.is) (wants cost.weight r.steps r.after light r.few r.refused r.world (lack (8 * top + bytes_for cost.weight) heap.count r.lack))
  wanted (Prints cost text) light there end r = subst (After (Prints cost text)) (sym r.is) (wants cost.weight r.steps r.after light r.few r.refused r.world (lack (8 * top + bytes_for cost.weight) heap.count r.lack))
  wanted (Fails cost text) light there end r = subst (After (Fails cost text)) (sym r.is) (inr (wants cost.weight r.steps r.after light r.few r.refused r.world (lack (8 * top + bytes_for cost.weight) heap.count r.lack)))
  wanted Stuck light there end r = absurd (there refl)

  line_ended : (d : Done) → Light (length xs) d → (d ≡ Stuck → ⊥) → (end : CallEnd W) → LineEnds head plan host pages g world store store.memory heap.count top heap.others d end → After d end
  line_ended d light there end (inl e) = ended d light there end e
  line_ended d light there end (inr w) = wanted d light there end w

given_length : (xs : List low.Operand) (locals : List ℕ) → length (given xs locals) ≡ length xs
given_length [] locals = refl
given_length (x ∷ xs) locals = ap suc (given_length xs locals)

pub routines_do : (W : Type 0) → RoutinesDo W
routines_do W head plan pages m host told fell shows roof low_roof few_pages deep room f p keeps to free xs g world store top heap locals vs to_fits free_fits clear reps there light levels_deep levels_room =
    let D : Done = perform head world.store p vs in
    let calls : Calls W = enter deep pages m host room in
    let count_is : length vs ≡ length xs = sym (reps_length g store.memory (given xs locals) vs reps) ∙ given_length xs locals in
    let line = keeps (cost_of head plan host D).levels levels_deep levels_room g world store store.memory heap.count top heap.others (record { is = heap.is; holds = heap.holds }) (given xs locals) vs reps there (omega arith) in
    prefix pages m calls (λ f store args r. ComesTo calls f store args r) (λ f store args r k. k) (Call (Some to) f xs Stop)
    (λ h. ComesAs plan told fell routine_steps g world store locals top to free D h) (λ cause spent end. FallsAs plan told fell routine_steps g world store locals top to free roof D cause spent end) (record { spent = 0; store = store; locals = locals })
    (subst (λ ws. ComesTo calls f store ws (After head plan pages m host told fell shows roof low_roof few_pages deep room f to free xs g world store top heap locals to_fits D)) (sym (in_order xs locals))
    (weaker calls f store (given xs locals) (LineEnds head plan host pages g world store store.memory heap.count top heap.others D) (After head plan pages m host told fell shows roof low_roof few_pages deep room f to free xs g world store top heap locals to_fits D)
    (line_ended head plan pages m host told fell shows roof low_roof few_pages deep room f to free xs g world store top heap locals to_fits D (subst (λ n. Light n D) count_is light) there) line))
