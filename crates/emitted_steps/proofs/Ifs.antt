-- A primitive whose truth is tested.
use Rattle.std.proofs.Common.{◌≡◌, ◌⊎◌, inl, inr, ℕ, zero, suc, ◌+◌, ◌*◌, ◌<◌, ◌≤◌, List, [], ◌∷◌, length, Bool, true, false, Option, Some, refl, ap, ◌∙◌, subst, arith}
use Rattle.std.specs.Prelude.{slice_index, slice_set}
use Rattle.mo_values.specs.Costs.{Cost}
use Rattle.mo_values.specs.Shapes.{Bytes}
use Rattle.mo_values.specs.Views.{flag_of}
use Rattle.wasm_tree.specs.declared.trap.Trap.TheVariants as trap
use Rattle.wasm_tree.specs.declared.types.ValueType.TheVariants.{I32}
use Rattle.wasm_tree.specs.declared.op.Conversion.TheVariants.{Wrap}
use Rattle.wasm_tree.specs.Numeric.{low, flag}
use Rattle.wasm_tree.specs.Exec.{Host, Store, if_zero}
use Rattle.core_ir.specs.declared.primitive.Primitive.{Primitive}
use Rattle.core_ir.specs.declared.code.Operand.{Operand}
use Rattle.core_ir.specs.Choices.{choose}
use Rattle.core_ir.specs.Primitives.{Done, Gives, Prints, Fails, Stuck}
use Rattle.core_ir.specs.Values.{Value}
use Rattle.core_ir.specs.Worlds.{World, Context, with_store}
use Rattle.core_ir.specs.Executions.{Go}
use Rattle.core_ir.specs.Code as source
use Rattle.core_ir.specs.CodeMachine as flat
use Rattle.core_ir.specs.CodeMachine.{Within, Frame, at, stuck, chosen, depth_of}
use Rattle.low_ir.specs.declared.op.Operand.TheVariants.{Local}
use Rattle.low_ir.specs.declared.op.Operation.TheVariants.{Convert}
use Rattle.low_ir.specs.Tree as low
use Rattle.low_ir.specs.Tree.{Code, Module}
use Rattle.low_ir.specs.Meaning.{Called, Breaks, onward, run}
use Rattle.code_sequences.specs.Sequences.{seq}
use Rattle.code_sequences.specs.Places.{After, Place, closes}
use Rattle.code_sequences.specs.Places as places
use Rattle.heap_layout.specs.Ghosts.{Ghost}
use Rattle.heap_layout.specs.Heaps.{Plan}
use Rattle.flat_emission.specs.Emission.{Linkage, emit, first_word, value_word, local_count}
use Rattle.flat_emission.specs.Emission as emission
use Rattle.emitted_steps.specs.Operations.{Light, AllKeep}
use Rattle.emitted_steps.specs.States.{Fits, FrameHeld, Held}
use Rattle.emitted_steps.specs.Shortage.{ShowsMore, RunsOut, IsShort, StepsRunOut}
use Rattle.emitted_steps.specs.Steps.{Usual, Moves, Trapped, Lacks, own_steps}
use Rattle.emitted_steps.proofs.Short.{either, shows_same, closed_short, out_now}
use Rattle.emitted_steps.proofs.Frames.{local_here, frame_behind, frame_kept, frame_later, arounds_fewer}
use Rattle.emitted_steps.proofs.Control.{calls, Follows}
use Rattle.emitted_steps.proofs.Ready.{Ready}
use Rattle.emitted_steps.proofs.Lets.{by_some, flag_word, spread, done, Outcome, Admitted, readied, outcome, Went, went, trapped, unready, worked_held}

low_flag : (b : Bool) → low I32 (flag b) ≡ flag b
low_flag true = refl
low_flag false = refl

module _ (plan : Plan) (link : Linkage) (table : List (Option ℕ)) (sees : ℕ → ℕ) (context : Context) {W : Type 0} (pages : ℕ) (m : Module) (host : Host W) (told fell : W → Bytes → W) (prints_of : W → List Bytes) (out : StepsRunOut pages m host told fell prints_of) (unit_steps total roof : ℕ)
    (keep : AllKeep plan told fell unit_steps context.head pages roof m host link) (world : World) (g : Ghost) (top : ℕ) (ks : List flat.Around) (f : Frame) (cs : List flat.Caller) (c : Place W)
    (p : Primitive) (xs : List Operand) (y z rest : source.Code) (h : Held plan link table sees context total g world (at (source.If p xs y z rest) ks f cs) c top) where
  abbrev F : Called W → flat.Did → Type 0
  F before d = Follows plan link table sees context pages m host told fell prints_of unit_steps total roof (16 + f.body.nodes + depth_of cs) before c.left top c.store.world d

  abbrev code : source.Code
  code = source.If p xs y z rest

  abbrev s : ℕ
  s = value_word h.here

  abbrev one : ℕ
  one = first_word h.here

  abbrev tail : Code
  tail = low.Set one (Convert Wrap (Local s)) (low.If (Local one) (emit plan link h.here y) (emit plan link h.here z) (emit plan link h.here rest))

  pub word_fits : s < local_count h.here
  word_fits = omega arith

  abbrev pub D : Done
  D = done plan link table sees context pages m host told fell prints_of out unit_steps total roof keep world g top ks f cs c code h s p xs tail h.code h.fits.0 word_fits

  abbrev R : Type 0
  R = Ready plan link table sees context pages m host told fell prints_of out unit_steps total roof world g top code ks f cs c h xs (seq (link.operation p s one (emission.places plan link h.here 0 xs)) tail)

  abbrev O : List ℕ → Done → Type 0
  O locals d = Outcome plan link table sees context pages m host told fell prints_of out unit_steps total roof keep world g top ks f cs c code h s p xs tail h.code h.fits.0 word_fits locals d

  abbrev A : Done → Type 0
  A d = Admitted plan link table sees context pages m host told fell prints_of out unit_steps total roof keep world g top ks f cs c code h s p xs tail h.code h.fits.0 word_fits d

  are_ready : R ⊎ IsShort prints_of (places.rest_of pages m host c) c.left (7 * length xs) c.store.world
  are_ready = readied plan link table sees context pages m host told fell prints_of out unit_steps total roof keep world g top ks f cs c code h s p xs tail h.code h.fits.0 word_fits

  ends : (d : Done) → D ≡ d → (d ≡ Stuck → ⊥) → Light (length xs) d → (r : R) → A d → O r.locals d
  ends d is there light r a = outcome plan link table sees context pages m host told fell prints_of out unit_steps total roof keep world g top ks f cs c code h s p xs tail h.code h.fits.0 word_fits h.fits.4 d is there light a r

  -- the test of a truth value's word
  chooses : (b : Bool) (v n : ℕ) (store : Store W) (locals : List ℕ) → v ≡ flag b
      → closes pages m host c (onward (if_zero v (run pages m (calls pages m host c) (emit plan link h.here z) (record { left = n; store = store; locals = locals })) (run pages m (calls pages m host c) (emit plan link h.here y) (record { left = n; store = store; locals = locals }))) (run pages m (calls pages m host c) (emit plan link h.here rest)))
      ≡ closes pages m host c (onward (run pages m (calls pages m host c) (emit plan link h.here (choose b y z)) (record { left = n; store = store; locals = locals })) (run pages m (calls pages m host c) (emit plan link h.here rest)))
  chooses true v n store locals e = ap (λ v. closes pages m host c (onward (if_zero v (run pages m (calls pages m host c) (emit plan link h.here z) (record { left = n; store = store; locals = locals })) (run pages m (calls pages m host c) (emit plan link h.here y) (record { left = n; store = store; locals = locals }))) (run pages m (calls pages m host c) (emit plan link h.here rest)))) e
  chooses false v n store locals e = ap (λ v. closes pages m host c (onward (if_zero v (run pages m (calls pages m host c) (emit plan link h.here z) (record { left = n; store = store; locals = locals })) (run pages m (calls pages m host c) (emit plan link h.here y) (record { left = n; store = store; locals = locals }))) (run pages m (calls pages m host c) (emit plan link h.here rest)))) e

  fits_choice : (b : Bool) → Fits plan link context.globals sees h.here (length f.seen) (choose b y z)
  fits_choice true = h.fits.1
  fits_choice false = h.fits.2

  -- of the test
  tail_short : (k : ℕ) (store : Store W) (locals : List ℕ) → k < 5 → run pages m (calls pages m host c) tail (record { left = k; store = store; locals = locals }) ≡ Breaks trap.Steps store
  tail_short zero store locals lt = refl
  tail_short (suc zero) store locals lt = refl
  tail_short (suc (suc zero)) store locals lt = refl
  tail_short (suc (suc (suc zero))) store locals lt = refl
  tail_short (suc (suc (suc (suc zero)))) store locals lt = refl
  tail_short (suc (suc (suc (suc (suc k))))) store locals lt = absurd (omega arith)

  abbrev W' : ℕ → Value → List Value → List ℕ → Type 0
  W' weight v after locals = Went plan link table sees context pages m host told fell prints_of out unit_steps total roof keep world g top ks f cs c code h s p xs tail h.code h.fits.0 word_fits weight [] v after locals

  abbrev Choice : Cost → List Value → Bool → Type 0
  Choice cost after b =
      Moves plan link table sees context pages m host told fell prints_of unit_steps total roof (places.rest_of pages m host c) c.left top c.store.world cost.weight [] (with_store world after) (at (choose b y z) (Within rest ∷ ks) f cs)
      ⊎ Lacks plan link table sees context pages m host told fell prints_of unit_steps total roof (places.rest_of pages m host c) c.left top cost.weight c.store.world

  test_short : (cost : Cost) (v : Value) (after : List Value) (b : Bool) → Light (length xs) (Gives cost v after) → (locals : List ℕ) (w : W' cost.weight v after locals) (k : ℕ) → w.rest ≡ k → k < 5 → Choice cost after b
  test_short cost v after b light locals w k rest_is lt =
      let s = spread unit_steps cost.weight in
      inr (inl (closed_short prints_of pages m host c (places.rest_of pages m host c) (run pages m (calls pages m host c) tail (record { left = k; store = w.to.store; locals = w.to.locals })) c.left ((own_steps + unit_steps) * cost.weight) c.store.world
      (w.same ∙ ap (λ left. closes pages m host c (run pages m (calls pages m host c) tail (record { left = left; store = w.to.store; locals = w.to.locals }))) rest_is)
      (let a = w.few in let b = light.0 in let d = light.1 in let e = w.count in omega (arith, a, b, d, e, rest_is, lt, s))
      (subst (λ u. RunsOut prints_of (run pages m (calls pages m host c) tail (record { left = k; store = w.to.store; locals = w.to.locals })) u) w.work.shown (out_now prints_of _ w.to.store (tail_short k w.to.store w.to.locals lt)))))

  tests : (cost : Cost) (v : Value) (after : List Value) (b : Bool) → flag_of v ≡ Some b → Light (length xs) (Gives cost v after) → (locals : List ℕ) (w : W' cost.weight v after locals) (k : ℕ) → w.rest ≡ k → Choice cost after b
  tests cost v after b v_is light locals w (suc (suc (suc (suc (suc n))))) rest_is =
      let k = spread unit_steps cost.weight in
      let word : ℕ = low I32 (slice_index w.to.locals s) in
      let last : List ℕ = slice_set w.to.locals one word in
      let word_is : word ≡ flag b = ap (low I32) (w.work.put.word_is ∙ flag_word w.work.ghost w.to.store.memory w.work.word v b v_is w.work.rep.means) ∙ low_flag b in
      let frame : FrameHeld w.work.ghost w.to.store.memory f h.here w.to.locals =
      frame_kept w.work.ghost w.to.store.memory f h.here locals w.to.locals w.work.put.long (λ x lt. w.work.put.others x lt (λ e. omega (arith, lt, e)))
      (frame_later g w.work.ghost c.store.memory w.to.store.memory w.work.later f h.here locals w.frame) in
      let frame_last : FrameHeld w.work.ghost w.to.store.memory f h.here last = frame_behind w.work.ghost w.to.store.memory f h.here w.to.locals one word (omega arith) frame in
      let at_one : slice_index last one ≡ flag b = local_here w.to.locals one word (let l = frame.long in omega (arith, l)) ∙ word_is in
      inl (record {
        to = record { code = emit plan link h.here (choose b y z); left = n; store = w.to.store; locals = last; around = After (emit plan link h.here rest) ∷ c.around; deep = c.deep; room = c.room; type = c.type; callers = c.callers };
        ghost = w.work.ghost;
        end = w.work.end;
        held = worked_held plan link table sees context pages m host told fell prints_of out unit_steps total roof keep world g top ks f cs c code h s p xs tail h.code h.fits.0 word_fits cost.weight [] v after locals w (choose b y z) (Within rest ∷ ks) f n last (After (emit plan link h.here rest) ∷ c.around)
            (let e = w.count in omega (arith, e, rest_is)) (fits_choice b) refl refl frame_last (refl, h.fits.3, arounds_fewer plan link context.globals sees h.here (length f.seen) c.left n ks c.around (let e = w.count in omega (arith, e, rest_is)) h.around);
        turn = Usual;
        same = w.same ∙ ap (λ left. closes pages m host c (run pages m (calls pages m host c) tail (record { left = left; store = w.to.store; locals = w.to.locals }))) rest_is ∙ chooses b (slice_index last one) n w.to.store last at_one;
        steps = w.cost + 5;
        count = let e = w.count in omega (arith, e, rest_is);
        some = omega arith;
        few = let a = w.few in let b = light.0 in let d = light.1 in omega (arith, a, b, d, k);
        bytes = w.work.bytes;
        shown = w.work.shown;
      })
  tests cost v after b v_is light locals w zero rest_is = test_short cost v after b light locals w 0 rest_is (omega arith)
  tests cost v after b v_is light locals w (suc zero) rest_is = test_short cost v after b light locals w 1 rest_is (omega arith)
  tests cost v after b v_is light locals w (suc (suc zero)) rest_is = test_short cost v after b light locals w 2 rest_is (omega arith)
  tests cost v after b v_is light locals w (suc (suc (suc zero))) rest_is = test_short cost v after b light locals w 3 rest_is (omega arith)
  tests cost v after b v_is light locals w (suc (suc (suc (suc zero)))) rest_is = test_short cost v after b light locals w 4 rest_is (omega arith)

  -- too few steps for the operands
  unready_if : (weight : ℕ) → (1 ≤ weight) × (length xs ≤ 4 * weight) → (w : W) → ShowsMore prints_of c.store.world w → IsShort prints_of (places.rest_of pages m host c) c.left (7 * length xs) c.store.world
      → Lacks plan link table sees context pages m host told fell prints_of unit_steps total roof (places.rest_of pages m host c) c.left top weight w
  unready_if = unready plan link table sees context pages m host told fell prints_of out unit_steps total roof keep world g top ks f cs c code h s p xs tail h.code h.fits.0 word_fits

  pub if_matches : (d : Done) → D ≡ d → Light (length xs) d → F (places.rest_of pages m host c) (chosen world y z rest ks f cs d)
  if_matches Stuck is light = tt
  if_matches (Prints cost text) is light = tt
  if_matches (Fails cost text) is light = λ deep. either are_ready (λ r. by r (ends (Fails cost text) is (λ e. absurd (cc e)) light r deep)) (λ short. inr (unready_if cost.weight light (fell c.store.world text) (out.fails c.store.world text) short))
    where
      by : (r : R) → O r.locals (Fails cost text)
          → Trapped plan link table sees context pages m host told fell prints_of unit_steps total roof (places.rest_of pages m host c) c.store.world text
          ⊎ Lacks plan link table sees context pages m host told fell prints_of unit_steps total roof (places.rest_of pages m host c) c.left top cost.weight (fell c.store.world text)
      by r (inl go) = absurd go.holds
      by r (inr x) = trapped plan link table sees context pages m host told fell prints_of out unit_steps total roof keep world g top ks f cs c code h s p xs tail h.code h.fits.0 word_fits cost.weight text light r x
  if_matches (Gives cost v after) is light =
      by_some (λ d. F (places.rest_of pages m host c) d) (stuck world) (flag_of v) (λ b. Go cost [] (with_store world after) (at (choose b y z) (Within rest ∷ ks) f cs)) tt
      (λ b v_is deep over.
      either are_ready
      (λ r.
      either (went plan link table sees context pages m host told fell prints_of out unit_steps total roof keep world g top ks f cs c code h s p xs tail h.code h.fits.0 word_fits cost.weight [] v after light r (ends (Gives cost v after) is (λ e. absurd (cc e)) light r deep))
      (λ w. tests cost v after b v_is light r.locals w w.rest refl) (λ lack. inr lack))
      (λ short. inr (unready_if cost.weight light c.store.world (shows_same prints_of c.store.world) short)))
