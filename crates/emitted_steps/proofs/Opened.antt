-- After a form was looked for, code goes on in one of two ways.
use Rattle.std.proofs.Common.{◌≡◌, ℕ, ◌+◌, ◌≤◌, List, ◌∷◌, length, Option, refl, sym, subst}
use Rattle.wasm_tree.specs.Exec.{Host}
use Rattle.core_ir.specs.declared.primitive.Constructor.{Constructor}
use Rattle.core_ir.specs.declared.code.Operand.{Operand}
use Rattle.core_ir.specs.Worlds.{World, Context}
use Rattle.core_ir.specs.Code as source
use Rattle.core_ir.specs.CodeMachine as flat
use Rattle.core_ir.specs.CodeMachine.{Within, Frame, at, depth_of}
use Rattle.low_ir.specs.Tree.{Module}
use Rattle.code_sequences.specs.Places.{After, Place}
use Rattle.heap_layout.specs.Ghosts.{Ghost}
use Rattle.heap_layout.specs.Heaps.{Plan}
use Rattle.heap_layout.specs.Table.{words_beside}
use Rattle.heap_layout.proofs.Meanings.{same_later}
use Rattle.flat_emission.specs.Emission.{Linkage, emit}
use Rattle.emitted_steps.specs.States.{Fits, FrameHeld, Arounds, Held, words_for}
use Rattle.emitted_steps.proofs.Frames.{arounds_fewer, callers_later}
use Rattle.emitted_steps.proofs.Control.{moved}

module _ (plan : Plan) (link : Linkage) (table : List (Option ℕ)) (sees : ℕ → ℕ) (context : Context) {W : Type 0} (pages : ℕ) (m : Module) (host : Host W) (total : ℕ) (world : World) (g : Ghost) (top : ℕ) (ks : List flat.Around) (f : Frame) (cs : List flat.Caller) (c : Place W)
    (t : ℕ) (form : Constructor) (x : Operand) (y z rest : source.Code) (h : Held plan link table sees context total g world (at (source.Match t form x y z rest) ks f cs) c top) where
  -- the same store, with other code, slots and constructs
  abbrev pub opened_held : (f' : Frame) (code' : source.Code) (n : ℕ) (locals : List ℕ) → n ≤ c.left → f'.seen ≡ f.seen → f'.body ≡ f.body → Fits plan link context.globals sees h.here (length f.seen) code' → FrameHeld g c.store.memory f' h.here locals
      → Held plan link table sees context total g world (at code' (Within rest ∷ ks) f' cs) (moved pages m host c (emit plan link h.here code') n c.store locals (After (emit plan link h.here rest) ∷ c.around)) top
  opened_held f' code' n locals le seen body fits frame = record {
    here = h.here;
    code = refl;
    fits = subst (λ l. Fits plan link context.globals sees h.here (length l) code') (sym seen) fits;
    frame = frame;
    around = subst (λ l. Arounds plan link context.globals sees h.here (length l) n (Within rest ∷ ks) (After (emit plan link h.here rest) ∷ c.around)) (sym seen)
        (refl, h.fits.4, arounds_fewer plan link context.globals sees h.here (length f.seen) c.left n ks c.around le h.around);
    callers = callers_later plan link context.globals sees g g c.store.memory c.store.memory (same_later g c.store.memory) total c.left n cs c.callers le h.callers;
    heap = h.heap;
    names = h.names;
    groups = h.groups;
    table_is = h.table_is;
    results = h.results;
    room = subst (λ x. total + words_beside ≤ c.room + words_for (16 + x.nodes + depth_of cs)) (sym body) h.room;
    deep = subst (λ x. total + words_beside ≤ c.deep + words_for (16 + x.nodes + depth_of cs)) (sym body) h.deep;
    within = subst (λ x. words_for (16 + x.nodes + depth_of cs) ≤ total) (sym body) h.within;
  }
