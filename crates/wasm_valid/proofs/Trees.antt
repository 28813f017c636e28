-- The rules over flat code are those over its tree.
use Rattle.std.proofs.Common.{◌≡◌, ℕ, List, [], ◌∷◌, ◌++◌, length, map, slice_get, sym, ap, ◌∙◌, subst, append-nil, append_assoc}
use Rattle.std.specs.List.{AllByRecursion}
use Rattle.wasm_tree.specs.declared.rule.Rule.{Rule}
use Rattle.wasm_tree.specs.declared.rule.Rule.TheVariants as rule
use Rattle.wasm_tree.specs.declared.types.ValueType.{ValueType}
use Rattle.wasm_tree.specs.declared.types.ValueType.TheVariants.{I32}
use Rattle.wasm_tree.specs.declared.op.Op.{Op}
use Rattle.wasm_tree.specs.declared.op.Op.TheVariants as op
use Rattle.wasm_tree.specs.Code.{Code, Stop, Then, Unreachable, Block, Loop, If, IfElse, Br, BrIf, BrTable, Return, Call, CallIndirect, flat}
use Rattle.wasm_tree.specs.Rules.{Context, IsFound, StartsWith, results_of}
use Rattle.wasm_tree.specs.Typing.{IsTarget, IsTyped}
use Rattle.wasm_valid.specs.declared.blocks.Opener.TheVariants as opener
use Rattle.wasm_valid.proofs.Runs.{Frame, frame, Usual, Owes, labels_of, within, Runs}

module _ (asked : Rule → Type 0) (c : Context) where
  -- What comes after code that leads to these operands.
  abbrev Goes : List Op → List Frame → List ValueType → Type 0
  Goes ops frames after = (mid : List ValueType) → (asked rule.Result → mid ≡ after) → Runs asked c ops Usual frames mid

  targets_run : (labels : List ℕ) (last : ℕ) (ops : List Op) (frames : List Frame) (results before : List ValueType) → AllByRecursion (IsTarget asked (labels_of asked c frames) results) labels
      → IsFound (asked rule.Label) (slice_get (labels_of asked c frames) last) results → (asked rule.Operand → StartsWith (I32 ∷ results) before) → (any : List ValueType) → Runs asked c ops Usual frames any
      → Runs asked c (map op.Target labels ++ op.Target last ∷ ops) (Owes (length labels) results) frames before
  targets_run [] last ops frames results before all found starts any rest = (found, starts, any, rest)
  targets_run (l ∷ labels) last ops frames results before all found starts any rest = (all.0, targets_run labels last ops frames results before all.1 found starts any rest)

  -- Typed code runs.
  pub typed_runs : (code : Code) (ops : List Op) (frames : List Frame) (before after : List ValueType) → IsTyped asked (within asked c frames) before code after → Goes ops frames after
      → Runs asked c (flat code ++ ops) Usual frames before
  typed_runs Stop ops frames before after t goes = goes before t
  typed_runs (Then p rest) ops frames before after t goes = (t.0, t.1, typed_runs rest ops frames t.0 after t.2 goes)
  typed_runs (Unreachable rest) ops frames before after t goes = (t.0, typed_runs rest ops frames t.0 after t.1 goes)
  typed_runs (Block kind body rest) ops frames before after t goes =
      let f : Frame = frame opener.Block kind before in
      let shape : (flat body ++ op.End ∷ flat rest) ++ ops ≡ flat body ++ op.End ∷ (flat rest ++ ops) = append_assoc (flat body) (op.End ∷ flat rest) ops in
      subst (λ l. Runs asked c l Usual (f ∷ frames) []) (sym shape)
      (typed_runs body (op.End ∷ (flat rest ++ ops)) (f ∷ frames) [] (results_of kind) t.0 (λ mid e. (e, λ _. tt, typed_runs rest ops frames (results_of kind ++ before) after t.1 goes)))
  typed_runs (Loop kind body rest) ops frames before after t goes =
      let f : Frame = frame opener.Loop kind before in
      let shape : (flat body ++ op.End ∷ flat rest) ++ ops ≡ flat body ++ op.End ∷ (flat rest ++ ops) = append_assoc (flat body) (op.End ∷ flat rest) ops in
      subst (λ l. Runs asked c l Usual (f ∷ frames) []) (sym shape)
      (typed_runs body (op.End ∷ (flat rest ++ ops)) (f ∷ frames) [] (results_of kind) t.0 (λ mid e. (e, λ _. tt, typed_runs rest ops frames (results_of kind ++ before) after t.1 goes)))
  typed_runs (If kind first rest) ops frames before after t goes =
      let f : Frame = frame opener.If kind t.0 in
      let shape : (flat first ++ op.End ∷ flat rest) ++ ops ≡ flat first ++ op.End ∷ (flat rest ++ ops) = append_assoc (flat first) (op.End ∷ flat rest) ops in (
        t.0,
        t.1,
        subst (λ l. Runs asked c l Usual (f ∷ frames) []) (sym shape)
            (typed_runs first (op.End ∷ (flat rest ++ ops)) (f ∷ frames) [] (results_of kind) t.3 (λ mid e. (e, t.2, typed_runs rest ops frames (results_of kind ++ t.0) after t.4 goes))),
      )
  typed_runs (IfElse kind first second rest) ops frames before after t goes =
      let f : Frame = frame opener.If kind t.0 in
      let g : Frame = frame opener.Else kind t.0 in
      let shape : (flat first ++ op.Else ∷ (flat second ++ op.End ∷ flat rest)) ++ ops ≡ flat first ++ op.Else ∷ (flat second ++ op.End ∷ (flat rest ++ ops)) =
      append_assoc (flat first) (op.Else ∷ (flat second ++ op.End ∷ flat rest)) ops ∙ ap (λ l. flat first ++ op.Else ∷ l) (append_assoc (flat second) (op.End ∷ flat rest) ops) in (
        t.0,
        t.1,
        subst (λ l. Runs asked c l Usual (f ∷ frames) []) (sym shape)
            (typed_runs first (op.Else ∷ (flat second ++ op.End ∷ (flat rest ++ ops))) (f ∷ frames) [] (results_of kind) t.2
            (λ mid e. (
              tt,
              e,
              typed_runs second (op.End ∷ (flat rest ++ ops)) (g ∷ frames) [] (results_of kind) t.3 (λ mid e. (e, λ _. tt, typed_runs rest ops frames (results_of kind ++ t.0) after t.4 goes)),
            ))),
      )
  typed_runs (Br label rest) ops frames before after t goes = (t.0, t.1, t.2, t.3, typed_runs rest ops frames t.3 after t.4 goes)
  typed_runs (BrIf label rest) ops frames before after t goes = (t.0, t.1, t.2, t.3, typed_runs rest ops frames t.2 after t.4 goes)
  typed_runs (BrTable labels last rest) ops frames before after t goes =
      let shape : (map op.Target labels ++ op.Target last ∷ flat rest) ++ ops ≡ map op.Target labels ++ op.Target last ∷ (flat rest ++ ops) = append_assoc (map op.Target labels) (op.Target last ∷ flat rest) ops in (
        t.0,
        subst (λ l. Runs asked c l (Owes (length labels) t.0) frames before) (sym shape)
            (targets_run labels last (flat rest ++ ops) frames t.0 before t.2 t.1 t.3 t.4 (typed_runs rest ops frames t.4 after t.5 goes)),
      )
  typed_runs (Return rest) ops frames before after t goes = (t.0, t.1, typed_runs rest ops frames t.1 after t.2 goes)
  typed_runs (Call f rest) ops frames before after t goes = (t.0, t.1, t.2, t.3, typed_runs rest ops frames t.2 after t.4 goes)
  typed_runs (CallIndirect x rest) ops frames before after t goes = (t.0, t.1, t.2, t.3, t.4, typed_runs rest ops frames t.3 after t.5 goes)

  -- A whole body.
  pub body_runs : (code : Code) → IsTyped asked c [] code c.results → Runs asked c (flat code) Usual [] []
  body_runs code t = subst (λ l. Runs asked c l Usual [] []) (append-nil (flat code)) (typed_runs code [] [] [] c.results t (λ mid e. e))
