-- The first activation of an execution, and its end.
use Rattle.std.proofs.Common.{◌≡◌, ℕ, ◌+◌, ◌-◌, ◌<◌, ◌≤◌, Bool, List, [], ◌∷◌, ◌++◌, length, take, Option, Some, None, Result, Ok, Err, refl, sym, ap, ◌∙◌, subst, arith, append-nil}
use Rattle.std.specs.Prelude.{slice_get, replicate}
use Rattle.wasm_tree.specs.declared.trap.Trap.{Trap}
use Rattle.wasm_tree.specs.declared.trap.Trap.TheVariants as trap
use Rattle.wasm_tree.specs.declared.types.FunctionType.{FunctionType}
use Rattle.wasm_tree.specs.declared.module_parts.Module.{Module}
use Rattle.wasm_tree.specs.Exec.{Store, Back, Fell}
use Rattle.wasm_tree.specs.Frames.{defined, optional}
use Rattle.wasm_steps.specs.declared.layout.BodyLayout.{BodyLayout}
use Rattle.wasm_steps.specs.declared.layout.FunctionLayout.{FunctionLayout}
use Rattle.wasm_steps.specs.declared.layout.ModuleLayout.{ModuleLayout}
use Rattle.wasm_steps.specs.Layout.{IsModuleLayout}
use Rattle.wasm_steps.specs.Moves.{Final}
use Rattle.wasm_machine.specs.declared.frames.Saved.{Saved}
use Rattle.wasm_machine.specs.declared.frames.Here.{Here}
use Rattle.wasm_machine.specs.declared.call.Stop.{Stop}
use Rattle.wasm_machine.specs.declared.call.Stop.TheVariants as stop
use Rattle.wasm_machine.specs.Hosts.{Reply, Gives, Traps, HostCall, Play, played}
use Rattle.wasm_machine.specs.Asked.{IsMadeFor}
use Rattle.wasm_machine.specs.Acts.{parts}
use Rattle.wasm_machine.specs.Stacks.{frames_under, locals_of, operands_of}
use Rattle.wasm_machine.specs.Running.{Machine, play, replies_of, RunsAt}
use Rattle.wasm_machine.specs.Turns.{Ended}
use Rattle.wasm_machine.specs.Ran.{execute_with, limits_of, store_with, IsCallable, Ran, HasRun, IfEntered}
use Rattle.wasm_machine.proofs.Callees.{CalleeAt, callee_at, is_host, BodyAt, is_body, frame_enough}
use Rattle.wasm_machine.proofs.Comes.{runs_like}
use Rattle.wasm_machine.proofs.Given.{fits_many}
use Rattle.wasm_machine.proofs.Executing.{host_gives, host_traps, no_room, whole, ends_back, ends_fell, runs_first}

module _ (m : Module) (layout : ModuleLayout) (laid : IsModuleLayout m layout) (f : ℕ) (args : List ℕ) (callable : IsCallable m f args) (fl : FunctionLayout) (is : slice_get layout.functions f ≡ Some fl) (limit pages words : ℕ) (table : List (Option ℕ)) (memory globals : List ℕ) (refused : Bool) where
  pub known : CalleeAt m layout.steps f fl callable.type
  known = callee_at m layout laid f fl is callable.type callable.of_type

  abbrev pub machine : Machine
  machine = record { limits = limits_of limit pages words; within = m; table = table }

  abbrev pub start_store : List Reply → Store Play
  start_store rest = store_with memory globals table refused (play [] rest)

  pub host_ran : {S : Type 0} → (replies : S → ℕ → List ℕ → List ℕ → Reply → S → Type 0) (before after : S) → fl.body ≡ None → (types : List FunctionType) → IsMadeFor m types → (new : List ℕ) (same : Type 0) → (same → new ≡ memory) → (result : Result ℕ Stop) → IfEntered replies before after f args memory new same types limit result → HasRun replies before after (λ world. execute_with (limits_of limit pages words) m played f args (store_with memory globals table refused world)) (store_with new globals table refused) result
  host_ran {S} replies before after none types made_for new same keeps (Ok left) h =
      let host = is_host m layout.steps callable.type (defined m f) fl.body known.body none in
      let few : length (optional h.1.result) ≡ 0 = fits_many callable.type.results h.1.result (h.1.fits callable.type (made_for f callable.type callable.of_type host)) ∙ ap length callable.none in
      let call : HostCall = record { function = f; args = args; memory = memory; reply = Gives h.1.result new } in
      record {
        made = call ∷ [];
        chain = (after, h.1.replied, refl);
        ends = subst (λ (n : ℕ). execute_with (limits_of limit pages words) m played f args (start_store (Gives h.1.result new ∷ [])) ≡ Back n (store_with new globals table refused (play (call ∷ []) [])) []) (sym h.0)
            (host_gives (limits_of limit pages words) m f args callable.type callable.of_type callable.many callable.none (start_store (Gives h.1.result new ∷ [])) host h.1.result new (play (call ∷ []) []) few refl);
      }
  host_ran {S} replies before after none types made_for new same keeps (Err (stop.Trapped cause)) h =
      let host = is_host m layout.steps callable.type (defined m f) fl.body known.body none in
      let call : HostCall = record { function = f; args = args; memory = memory; reply = Traps } in
      let fell = host_traps (limits_of limit pages words) m f args callable.type callable.of_type callable.many callable.none (start_store (Traps ∷ [])) host (play (call ∷ []) []) refl in
      record {
        made = call ∷ [];
        chain = (after, h.1, refl);
        ends = fell ∙ ap (λ (x : List ℕ). Fell trap.Host (store_with x globals table refused (play (call ∷ []) []))) (sym (keeps h.2)) ∙ ap (λ (x : Trap). Fell x (store_with new globals table refused (play (call ∷ []) []))) (sym h.0);
      }
  host_ran {S} replies before after none types made_for new same keeps (Err stop.Memory) h = tt

  module _ (layout_body : BodyLayout) (some : fl.body ≡ Some layout_body) where
    abbrev pub b : BodyAt m layout.steps callable.type (defined m f) layout_body
    b = is_body m layout.steps callable.type (defined m f) fl.body layout_body known.body some

    pub full_ran : {S : Type 0} → (replies : S → ℕ → List ℕ → List ℕ → Reply → S → Type 0) (before after : S) → before ≡ after → words < layout_body.words → Ran replies before after (λ world. execute_with (limits_of limit pages words) m played f args (store_with memory globals table refused world)) (store_with memory globals table refused) (Err (stop.Trapped trap.Stack))
    full_ran replies before after same less = record {
      made = [];
      chain = same;
      ends = no_room (limits_of limit pages words) m f args callable.type callable.of_type callable.many callable.none (start_store []) b.fn layout.steps layout_body b.is b.body less;
    }

    pub enough_cells : 8 + length args + layout_body.locals + layout_body.height ≤ layout_body.words
    enough_cells = let e = frame_enough m layout.steps callable.type b.fn layout_body b.body in let n = callable.many in omega arith

    pub params_are : fl.params ≡ length args
    params_are = known.params ∙ sym callable.many

    abbrev pub whole_of : List Reply → Final Play
    whole_of rest = whole (limits_of limit pages words) m f args callable.type callable.of_type callable.many callable.none (start_store rest) b.fn layout.steps layout_body b.is b.body

    abbrev pub first : Here
    first = record { place = layout_body.entry; base = 0; count = fl.params + layout_body.locals; height = layout_body.height; room = words - layout_body.words; held = 0; depth = 0 }

    pub first_runs : (saved : List Saved) (cells : List ℕ) → take (length args + layout_body.locals) cells ≡ args ++ replicate layout_body.locals 0 → (rest : List Reply) → RunsAt machine layout.steps (whole_of rest) (play [] rest) saved cells first limit (parts memory globals refused)
    first_runs saved cells locals rest =
        let runs = runs_first (limits_of limit pages words) m f args callable.type callable.of_type callable.many callable.none (start_store rest) b.fn layout.steps layout_body b.is b.body in
        runs_like (limits_of limit pages words) m layout.steps (whole_of rest) [] (frames_under saved first cells) (words - layout_body.words) first.room (length callable.type.params + layout_body.locals) first.count layout_body.height first.height layout_body.entry first.place limit (start_store rest) (args ++ replicate layout_body.locals 0) (locals_of first cells) [] (operands_of first cells first.held)
        refl refl (ap (λ (n : ℕ). n + layout_body.locals) (sym known.params)) refl refl (sym locals ∙ ap (λ (n : ℕ). take (n + layout_body.locals) cells) (sym params_are)) refl runs

    pub ended_ran : {S : Type 0} → (replies : S → ℕ → List ℕ → List ℕ → Reply → S → Type 0) (before after : S) (new written : List ℕ) (refuses : Bool) → layout_body.words ≤ words → (result : Result ℕ Stop) → Ended replies before after whole_of machine (parts new written refuses) result → HasRun replies before after (λ world. execute_with (limits_of limit pages words) m played f args (store_with memory globals table refused world)) (store_with new written table refuses) result
    ended_ran {S} replies before after new written refuses enough (Ok left) h =
        let end = h.on [] in
        record {
          made = h.log;
          chain = h.chain;
          ends = subst (λ (l : List Reply). execute_with (limits_of limit pages words) m played f args (start_store l) ≡ Back left (store_with new written table refuses (play h.log [])) []) (append-nil (replies_of h.log))
              (ends_back (limits_of limit pages words) m f args callable.type callable.of_type callable.many callable.none (start_store (replies_of h.log ++ [])) b.fn layout.steps layout_body b.is b.body enough left (store_with new written table refuses (play h.log [])) end.0 end.1);
        }
    ended_ran {S} replies before after new written refuses enough (Err (stop.Trapped cause)) h =
        let end = h.on [] in
        record {
          made = h.log;
          chain = h.chain;
          ends = subst (λ (l : List Reply). execute_with (limits_of limit pages words) m played f args (start_store l) ≡ Fell cause (store_with new written table refuses (play h.log []))) (append-nil (replies_of h.log))
              (ends_fell (limits_of limit pages words) m f args callable.type callable.of_type callable.many callable.none (start_store (replies_of h.log ++ [])) b.fn layout.steps layout_body b.is b.body enough cause (store_with new written table refuses (play h.log [])) end);
        }
    ended_ran {S} replies before after new written refuses enough (Err stop.Memory) h = tt
