-- Executions of an emitted module under the host end as those of the low module.
use Rattle.std.proofs.Common.{◌≡◌, ℕ, List, [], ◌∷◌, length, Bool, true, false, ◌&&◌, cond, find, slice_get, Option, Some, None, refl, sym, ap, ◌∙◌, subst, codes}
use Rattle.std.specs.Str.{bytes_eq}
use Rattle.play_script.specs.declared.item.Word.TheVariants as word
use Rattle.wasm_tree.specs.declared.types.ValueType.{ValueType}
use Rattle.wasm_tree.specs.declared.types.ValueType.TheVariants.{I32, I64}
use Rattle.wasm_tree.specs.declared.types.FunctionType.{FunctionType}
use Rattle.wasm_tree.specs.declared.module_parts.Module.{Module as WasmModule}
use Rattle.wasm_tree.specs.Imports.{entry_type}
use Rattle.wasm_tree.specs.Exec.{ExecutionLimits, same_kinds, same_type, entry}
use Rattle.wasm_tree.specs.Load.{Instance, Load, Loaded, AboveLimit, OutOfBounds}
use Rattle.ic0_world.specs.declared.kind.ExecutionKind.{ExecutionKind}
use Rattle.ic0_world.specs.declared.kind.ExecutionKind.TheVariants as kind
use Rattle.ic0_world.specs.declared.world.Callback.{Callback}
use Rattle.ic0_world.specs.declared.world.World.{World}
use Rattle.canister_host.specs.State.{Canister}
use Rattle.canister_host.specs.Entries.{callback_entry, callback_type}
use Rattle.canister_host.specs.Execution.{End, Breaks, execution}
use Rattle.canister_host.specs.HostRun.{quiet_world, entry_of, callback_end}
use Rattle.actor_refinement.specs.Ends.{loaded_end, start_end, save_end}
use Rattle.low_ir.specs.declared.module_parts.LowExport.{LowExport}
use Rattle.low_ir.specs.Tree.{Module}
use Rattle.low_ir.specs.Numbering.{type_of}
use Rattle.low_ir.specs.Flat.{flat_module}
use Rattle.low_ir.specs.Formed.{ModuleIsFormed}
use Rattle.low_execution.specs.Execution.{low_execution, IsEntry}
use Rattle.low_execution.specs.Entries.{plain_function, low_exported, typed_callback, low_callback}
use Rattle.low_execution.specs.Loading.{low_load}
use Rattle.wasm_emit.specs.Emit.{emitted}
use Rattle.wasm_emit.specs.Compiled.{Keeps}
use Rattle.wasm_emit.proofs.Compile.{emitted_keep}
use Rattle.low_refinement.specs.LowEnds.{Contents, low_loaded_end, low_start_end, low_found_end, low_callback_end, low_save_end}

abbrev pub to_wasm : Module → WasmModule
to_wasm m = emitted (flat_module m)

-- What the host enters takes the operands that it gives.

both : (a b : Bool) → (a && b) ≡ true → a ≡ true
both true b e = refl
both false b e = absurd (cc)

none : (ks : List ValueType) → same_kinds ks [] ≡ true → ks ≡ []
none [] e = refl
none (k ∷ ks) e = absurd (cc)

one : (ks : List ValueType) → same_kinds ks (I32 ∷ []) ≡ true → 1 ≡ length ks
one [] e = absurd (cc)
one (I32 ∷ []) e = refl
one (I64 ∷ ks) e = absurd (cc)
one (I32 ∷ k ∷ ks) e = absurd (cc)

plain_entry : (m : Module) (f : ℕ) (k : ExecutionKind) (found : Option FunctionType) → type_of m f ≡ found → same_type found (Some entry_type) ≡ true → IsEntry m (record { kind = k; function = f; operands = [] })
plain_entry m f k None is e = absurd (cc)
plain_entry m f k (Some t) is e = record { type = t; is = is; arity = sym (ap length (none t.params (both _ _ e))) }

environment_entry : (m : Module) (f environment : ℕ) (k : ExecutionKind) (found : Option FunctionType) → type_of m f ≡ found → same_type found (Some callback_type) ≡ true → IsEntry m (record { kind = k; function = f; operands = environment ∷ [] })
environment_entry m f environment k None is e = absurd (cc)
environment_entry m f environment k (Some t) is e = record { type = t; is = is; arity = one t.params (both _ _ e) }

found_plain : (m : Module) (k : ExecutionKind) (o : Option LowExport) (f : ℕ) → plain_function m o ≡ Some f → IsEntry m (record { kind = k; function = f; operands = [] })
found_plain m k None f e = absurd (cc)
found_plain m k (Some x) f e = by (same_type (type_of m x.function) (Some entry_type)) refl e
  where
    by : (t : Bool) → same_type (type_of m x.function) (Some entry_type) ≡ t → cond t (Some x.function) None ≡ Some f → IsEntry m (record { kind = k; function = f; operands = [] })
    by true is e = let same : x.function ≡ f = cc in subst (λ f. IsEntry m (record { kind = k; function = f; operands = [] })) same (plain_entry m x.function k (type_of m x.function) refl is)
    by false is e = absurd (cc)

pub exported_enters : (m : Module) (k : ExecutionKind) (name : List ℕ) (f : ℕ) → low_exported m name ≡ Some f → IsEntry m (record { kind = k; function = f; operands = [] })
exported_enters m k name f e = found_plain m k (find (λ e. bytes_eq e.name name) m.exports) f e

found_callback : (m : Module) (k : ExecutionKind) (environment : ℕ) (o : Option ℕ) (f : ℕ) → typed_callback m o ≡ Some f → IsEntry m (record { kind = k; function = f; operands = environment ∷ [] })
found_callback m k environment None f e = absurd (cc)
found_callback m k environment (Some x) f e = by (same_type (type_of m x) (Some callback_type)) refl e
  where
    by : (t : Bool) → same_type (type_of m x) (Some callback_type) ≡ t → cond t (Some x) None ≡ Some f → IsEntry m (record { kind = k; function = f; operands = environment ∷ [] })
    by true is e = let same : x ≡ f = cc in subst (λ f. IsEntry m (record { kind = k; function = f; operands = environment ∷ [] })) same (environment_entry m x environment k (type_of m x) refl is)
    by false is e = absurd (cc)

module _ (limits : ExecutionLimits) (m : Module) (formed : ModuleIsFormed m) where
  abbrev kept : Keeps m (to_wasm m)
  kept = emitted_keep m formed

  -- An entry that may be there.
  named : (i : Instance) (k : ExecutionKind) (name : List ℕ) (w : World) (o : Option ℕ) → low_exported m name ≡ o → execution limits (to_wasm m) i (entry_of k o []) w ≡ low_execution limits m i (entry_of k o []) w
  named i k name w None e = kept.executes limits i [] w tt
  named i k name w (Some f) e = kept.executes limits i (record { kind = k; function = f; operands = [] } ∷ []) w (exported_enters m k name f e, tt)

  pub method_end : (i : Instance) (k : ExecutionKind) (name : List ℕ) (f : ℕ) (w : World) → low_exported m name ≡ Some f → execution limits (to_wasm m) i (entry_of k (Some f) []) w ≡ low_execution limits m i (entry_of k (Some f) []) w
  method_end i k name f w e = named i k name w (Some f) e

  loaded_is : (own : List ℕ) (k : ExecutionKind) (name stable : List ℕ) (l : Load) → loaded_end limits own (to_wasm m) k name stable l ≡ low_loaded_end limits own m k name stable l
  loaded_is own k name stable AboveLimit = refl
  loaded_is own k name stable OutOfBounds = refl
  loaded_is own k name stable (Loaded i) =
      ap (λ o. execution limits (to_wasm m) i (entry_of k o []) (quiet_world limits own stable)) (kept.exports name) ∙ named i k name (quiet_world limits own stable) (low_exported m name) refl

  pub start_is : (own : List ℕ) (k : ExecutionKind) (name stable : List ℕ) → start_end limits own (to_wasm m) k name stable ≡ low_start_end limits own m k name stable
  start_is own k name stable = ap (loaded_end limits own (to_wasm m) k name stable) (kept.loads limits) ∙ loaded_is own k name stable (low_load limits m)

  -- A canister of the emitted module.
  abbrev pub canister : Contents → Canister
  canister c = record { code = to_wasm m; instance = c.instance; stable = c.stable }

  pub save_is : (own : List ℕ) (c : Contents) → save_end limits own (canister c) ≡ low_save_end limits own m c
  save_is own c =
      ap (λ o. execution limits (to_wasm m) c.instance (entry_of kind.PreUpgrade o []) (quiet_world limits own c.stable)) (kept.exports (codes "canister_pre_upgrade"))
      ∙ named c.instance kind.PreUpgrade (codes "canister_pre_upgrade") (quiet_world limits own c.stable) (low_exported m (codes "canister_pre_upgrade")) refl

  abbrev found_end : Contents → ExecutionKind → Callback → World → Option ℕ → End
  found_end c k callback w None = Breaks word.Indirect []
  found_end c k callback w (Some f) = execution limits (to_wasm m) c.instance (entry_of k (Some f) (callback.environment ∷ [])) w

  found_is : (c : Contents) (k : ExecutionKind) (callback : Callback) (w : World) (o : Option ℕ) → low_callback m c.instance.table callback ≡ o → found_end c k callback w o ≡ low_found_end limits m c.instance k callback w o
  found_is c k callback w None e = refl
  found_is c k callback w (Some f) e =
      kept.executes limits c.instance (record { kind = k; function = f; operands = callback.environment ∷ [] } ∷ []) w (found_callback m k callback.environment (entry (slice_get c.instance.table callback.function)) f e, tt)

  pub callback_is : (c : Contents) (k : ExecutionKind) (callback : Callback) (w : World) → callback_end limits (canister c) k callback w ≡ low_callback_end limits m c.instance k callback w
  callback_is c k callback w =
      let found : callback_end limits (canister c) k callback w ≡ found_end c k callback w (callback_entry (to_wasm m) c.instance.table callback) = refl in
      found ∙ ap (found_end c k callback w) (kept.callbacks c.instance.table callback) ∙ found_is c k callback w (low_callback m c.instance.table callback) refl
