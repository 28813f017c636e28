-- A module that keeps every rule keeps each of them alone, so that no rule fails in it; and the conditions of
-- instructions where all operands are there.
use Rattle.std.proofs.Common.{◌≡◌, ◌<◌, ℕ, zero, suc, List, [], ◌∷◌, ◌++◌, length, reverse, slice_get, refl, sym, ap, subst, Option, Some, None}
use Rattle.std.proofs.Math.Seq.{drop-append_seam}
use Rattle.std.specs.Prelude.{IfSome}
use Rattle.std.specs.List.{AllByRecursion}
use Rattle.wasm_tree.specs.declared.rule.Rule.{Rule}
use Rattle.wasm_tree.specs.declared.rule.Rule.TheVariants as rule
use Rattle.wasm_tree.specs.declared.types.ValueType.{ValueType}
use Rattle.wasm_tree.specs.declared.op.Conversion.TheVariants.{Wrap, ExtendS, ExtendU}
use Rattle.wasm_tree.specs.declared.op.Plain.{Plain}
use Rattle.wasm_tree.specs.declared.op.Plain.TheVariants as plain
use Rattle.wasm_tree.specs.declared.module_parts.ImportKind.{ImportKind}
use Rattle.wasm_tree.specs.declared.module_parts.ImportKind.TheVariants as «import»
use Rattle.wasm_tree.specs.declared.module_parts.Function.{Function}
use Rattle.wasm_tree.specs.declared.module_parts.ExportKind.{ExportKind}
use Rattle.wasm_tree.specs.declared.module_parts.ExportKind.TheVariants as export
use Rattle.wasm_tree.specs.declared.module_parts.Module.{Module}
use Rattle.wasm_tree.specs.Code.{Code, Stop, Then, Unreachable, Block, Loop, If, IfElse, Br, BrIf, BrTable, Return, Call, CallIndirect}
use Rattle.wasm_tree.specs.Rules.{Context, inside, every, only, IsFound, Takes, results_of, signatures}
use Rattle.wasm_tree.specs.Typing.{IsPlainTyped, IsTarget, IsTyped}
use Rattle.wasm_tree.specs.Valid.{IsValidFunction, IsValidType, IsWithin, IsConstant, IsValidTable, IsIc0, IsValidImport, IsEntered, IsEntry, IsValidExport, IsValidElement, IsValidData, HasValidParts, ValidModule, Fails}

-- An item that is there, whatever is asked for.
pub found : {A : Type 0} {asked : Type 0} {o : Option A} {item : A} → o ≡ Some item → IsFound asked o item
found {A} {asked} {o} {item} e = record { there = λ _. e; same = subst (λ o. IfSome o (λ other. other ≡ item)) (sym e) refl }

-- Operands that are there.
pub takes : {asked : Rule → Type 0} (ts gives below : List ValueType) → Takes asked ts gives (ts ++ below) (gives ++ below)
takes ts gives below = record { found = λ _. record { rest = below; split = refl }; left = ap (λ l. gives ++ l) (sym (drop-append_seam ts below)) }

pub all_map : {A : Type 0} (P Q : A → Type 0) → ((a : A) → P a → Q a) → (list : List A) → AllByRecursion P list → AllByRecursion Q list
all_map P Q f [] all = tt
all_map P Q f (a ∷ list) all = (f a all.0, all_map P Q f list all.1)

pub some_map : {A : Type 0} (P Q : A → Type 0) → ((a : A) → P a → Q a) → (o : Option A) → IfSome o P → IfSome o Q
some_map P Q f None h = tt
some_map P Q f (Some a) h = f a h

-- Where fewer rules are asked for, the same is typed and valid.
module _ (more asked : Rule → Type 0) (fewer : (r : Rule) → asked r → more r) where
  found_fewer : {A : Type 0} (r : Rule) {o : Option A} {item : A} → IsFound (more r) o item → IsFound (asked r) o item
  found_fewer r f = record { there = λ a. f.there (fewer r a); same = f.same }

  takes_fewer : {ts gives before after : List ValueType} → Takes more ts gives before after → Takes asked ts gives before after
  takes_fewer t = record { found = λ a. t.found (fewer rule.Operand a); left = t.left }

  plain_fewer : (c : Context) (p : Plain) (before after : List ValueType) → IsPlainTyped more c p before after → IsPlainTyped asked c p before after
  plain_fewer c plain.Nop before after h = takes_fewer h
  plain_fewer c plain.Drop before after h = (h.0, takes_fewer h.1)
  plain_fewer c plain.Select before after h = record { kind = h.kind; first = h.first; taken = takes_fewer h.taken }
  plain_fewer c (plain.LocalGet x) before after h = (h.0, found_fewer rule.Index h.1, takes_fewer h.2)
  plain_fewer c (plain.LocalSet x) before after h = (h.0, found_fewer rule.Index h.1, takes_fewer h.2)
  plain_fewer c (plain.LocalTee x) before after h = (h.0, found_fewer rule.Index h.1, takes_fewer h.2)
  plain_fewer c (plain.GlobalGet x) before after h = (h.0, found_fewer rule.Index h.1, takes_fewer h.2)
  plain_fewer c (plain.GlobalSet x) before after h = (h.0, found_fewer rule.Index h.1, λ a. h.2 (fewer rule.Mutable a), takes_fewer h.3)
  plain_fewer c (plain.Load kind m) before after h = (λ a. h.0 (fewer rule.Index a), λ a. h.1 (fewer rule.Align a), takes_fewer h.2)
  plain_fewer c (plain.Store kind m) before after h = (λ a. h.0 (fewer rule.Index a), λ a. h.1 (fewer rule.Align a), takes_fewer h.2)
  plain_fewer c plain.MemorySize before after h = (λ a. h.0 (fewer rule.Index a), takes_fewer h.1)
  plain_fewer c plain.MemoryGrow before after h = (λ a. h.0 (fewer rule.Index a), takes_fewer h.1)
  plain_fewer c (plain.I32Const z) before after h = takes_fewer h
  plain_fewer c (plain.I64Const z) before after h = takes_fewer h
  plain_fewer c (plain.EqualsZero kind) before after h = takes_fewer h
  plain_fewer c (plain.Compare kind o) before after h = takes_fewer h
  plain_fewer c (plain.Unary kind o) before after h = takes_fewer h
  plain_fewer c (plain.Binary kind o) before after h = takes_fewer h
  plain_fewer c (plain.Convert Wrap) before after h = takes_fewer h
  plain_fewer c (plain.Convert ExtendS) before after h = takes_fewer h
  plain_fewer c (plain.Convert ExtendU) before after h = takes_fewer h

  typed_fewer : (c : Context) (before : List ValueType) (code : Code) (after : List ValueType) → IsTyped more c before code after → IsTyped asked c before code after
  typed_fewer c before Stop after h = λ a. h (fewer rule.Result a)
  typed_fewer c before (Then p rest) after h = (h.0, plain_fewer c p before h.0 h.1, typed_fewer c h.0 rest after h.2)
  typed_fewer c before (Unreachable rest) after h = (h.0, typed_fewer c h.0 rest after h.1)
  typed_fewer c before (Block kind body rest) after h =
      (typed_fewer (inside c (results_of kind)) [] body (results_of kind) h.0, typed_fewer c (results_of kind ++ before) rest after h.1)
  typed_fewer c before (Loop kind body rest) after h =
      (typed_fewer (inside c []) [] body (results_of kind) h.0, typed_fewer c (results_of kind ++ before) rest after h.1)
  typed_fewer c before (If kind first rest) after h =
      (h.0, takes_fewer h.1, λ a. h.2 (fewer rule.Result a), typed_fewer (inside c (results_of kind)) [] first (results_of kind) h.3, typed_fewer c (results_of kind ++ h.0) rest after h.4)
  typed_fewer c before (IfElse kind first second rest) after h = (
    h.0,
    takes_fewer h.1,
    typed_fewer (inside c (results_of kind)) [] first (results_of kind) h.2,
    typed_fewer (inside c (results_of kind)) [] second (results_of kind) h.3,
    typed_fewer c (results_of kind ++ h.0) rest after h.4,
  )
  typed_fewer c before (Br label rest) after h = (h.0, found_fewer rule.Label h.1, λ a. h.2 (fewer rule.Operand a), h.3, typed_fewer c h.3 rest after h.4)
  typed_fewer c before (BrIf label rest) after h = (h.0, found_fewer rule.Label h.1, h.2, takes_fewer h.3, typed_fewer c h.2 rest after h.4)
  typed_fewer c before (BrTable labels last rest) after h = (
    h.0,
    found_fewer rule.Label h.1,
    all_map (IsTarget more c.labels h.0) (IsTarget asked c.labels h.0) (λ l t. record { there = λ a. t.there (fewer rule.Label a); same = λ a. t.same (fewer rule.Operand a) }) labels h.2,
    λ a. h.3 (fewer rule.Operand a),
    h.4,
    typed_fewer c h.4 rest after h.5,
  )
  typed_fewer c before (Return rest) after h = (λ a. h.0 (fewer rule.Operand a), h.1, typed_fewer c h.1 rest after h.2)
  typed_fewer c before (Call f rest) after h = (h.0, found_fewer rule.Index h.1, h.2, takes_fewer h.3, typed_fewer c h.2 rest after h.4)
  typed_fewer c before (CallIndirect x rest) after h =
      (λ a. h.0 (fewer rule.Index a), h.1, found_fewer rule.Index h.2, h.3, takes_fewer h.4, typed_fewer c h.3 rest after h.5)

  module _ (m : Module) where
    pub function_fewer : (f : Function) → IsValidFunction more m f → IsValidFunction asked m f
    function_fewer f v = record {
      type = v.type;
      of_type = found_fewer rule.Index v.of_type;
      tree = v.tree;
      nested = v.nested;
      typed = typed_fewer _ [] v.tree (reverse v.type.results) v.typed;
    }

    ic0_fewer : (name : List ℕ) (kind : ImportKind) → IsIc0 more m name kind → IsIc0 asked m name kind
    ic0_fewer name («import».Function signature) h = (h.0, found_fewer rule.Index h.1, λ a. h.2 (fewer rule.Import a))
    ic0_fewer name («import».Table l) h = λ a. h (fewer rule.Import a)
    ic0_fewer name («import».Memory l) h = λ a. h (fewer rule.Import a)
    ic0_fewer name («import».Global g) h = λ a. h (fewer rule.Import a)

    entered_fewer : (r : Rule) (f : ℕ) → IsEntered more m r f → IsEntered asked m r f
    entered_fewer r f e = record { type = e.type; of_function = found_fewer rule.Index e.of_function; plain = λ a. e.plain (fewer r a) }

    entry_fewer : (kind : ExportKind) → IsEntry more m kind → IsEntry asked m kind
    entry_fewer (export.Function f) h = entered_fewer rule.Export f h
    entry_fewer (export.Table t) h = λ a. h (fewer rule.Export a)
    entry_fewer (export.Memory x) h = λ a. h (fewer rule.Export a)
    entry_fewer (export.Global g) h = λ a. h (fewer rule.Export a)

    pub parts_fewer : HasValidParts more m → HasValidParts asked m
    parts_fewer v = record {
      types = all_map (IsValidType more m) (IsValidType asked m) (λ t h a. h (fewer rule.Result a)) m.types v.types;
      imports = all_map (IsValidImport more m) (IsValidImport asked m) (λ i h. record { of_ic0 = λ a. h.of_ic0 (fewer rule.Import a); function = ic0_fewer i.name i.kind h.function }) m.imports v.imports;
      one_table = λ a. v.one_table (fewer rule.Table a);
      tables = all_map (IsValidTable more m) (IsValidTable asked m) (λ l h. record { within = λ a. h.within (fewer rule.Table a); small = λ a. h.small (fewer rule.Size a) }) m.tables v.tables;
      one_memory = λ a. v.one_memory (fewer rule.Memory a);
      memories = all_map (λ l. more rule.Memory → IsWithin 65536 l) (λ l. asked rule.Memory → IsWithin 65536 l) (λ l h a. h (fewer rule.Memory a)) m.memories v.memories;
      globals = all_map (λ g. more rule.Constant → IsConstant g.kind.kind g.init) (λ g. asked rule.Constant → IsConstant g.kind.kind g.init) (λ g h a. h (fewer rule.Constant a)) m.globals v.globals;
      exports = all_map (IsValidExport more m) (IsValidExport asked m) (λ e h. record { there = λ a. h.there (fewer rule.Index a); entry = λ n. entry_fewer e.kind (h.entry n) }) m.exports v.exports;
      names = λ a. v.names (fewer rule.Export a);
      start = some_map (IsEntered more m rule.Start) (IsEntered asked m rule.Start) (λ f h. entered_fewer rule.Start f h) m.start v.start;
      elements = all_map (IsValidElement more m) (IsValidElement asked m)
          (λ s h. record { table = λ a. h.table (fewer rule.Index a); offset = λ a. h.offset (fewer rule.Constant a); functions = all_map (λ f. more rule.Index → f < length (signatures m)) (λ f. asked rule.Index → f < length (signatures m)) (λ f h a. h (fewer rule.Index a)) s.functions h.functions }) m.elements v.elements;
      segments = all_map (IsValidData more m) (IsValidData asked m) (λ s h. record { memory = λ a. h.memory (fewer rule.Index a); offset = λ a. h.offset (fewer rule.Constant a) }) m.segments v.segments;
      small = λ a. v.small (fewer rule.Size a);
    }

pub all_at : {A : Type 0} (P : A → Type 0) (list : List A) (k : ℕ) (a : A) → AllByRecursion P list → slice_get list k ≡ Some a → P a
all_at P [] k a all e = cc
all_at P (x ∷ list) zero a all e = let same : x ≡ a = cc in subst P same all.0
all_at P (x ∷ list) (suc k) a all e = all_at P list k a all.1 e

-- A rule that fails is broken.
pub fails_excludes : (m : Module) (number : Option ℕ) (r : Rule) → Fails m number r → ValidModule m → ⊥
fails_excludes m None r fails v = fails (parts_fewer every (only r) (λ _ _. tt) m v.parts)
fails_excludes m (Some number) r fails v =
    fails.broken (function_fewer every (only r) (λ _ _. tt) m fails.function (all_at (IsValidFunction every m) m.functions fails.place fails.function v.functions fails.there))
