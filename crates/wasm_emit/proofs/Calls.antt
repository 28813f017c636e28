-- Calls of the emitted module have the meaning of the low calls.
use Rattle.std.proofs.Common.{◌≡◌, ℕ, zero, suc, ◌-◌, List, [], ◌∷◌, ◌++◌, length, map, take, drop, reverse, replicate, Bool, true, false, nat_lt, cond, Option, Some, None, slice_get, refl, sym, ap, ◌∙◌, subst, arith}
use Rattle.std.specs.List.{AllByRecursion}
use Rattle.wasm_tree.specs.declared.trap.Trap.TheVariants as trap
use Rattle.wasm_tree.specs.declared.types.FunctionType.{FunctionType}
use Rattle.wasm_tree.specs.declared.module_parts.Function.{Function as WasmFunction}
use Rattle.wasm_tree.specs.declared.module_parts.Module.{Module as WasmModule}
use Rattle.wasm_tree.specs.Code as wasm
use Rattle.wasm_tree.specs.Rules.{signatures, imported_signatures, or_no, type_of as wasm_type_of}
use Rattle.wasm_tree.specs.Exec as machine
use Rattle.wasm_tree.specs.Exec.{ExecutionLimits, Store, State, HostAnswer, Answers, Refuses, Host, Back, exec}
use Rattle.wasm_tree.specs.Frames as frames
use Rattle.wasm_tree.specs.Frames.{imported_count, defined as wasm_defined, arguments, optional, frame_words, return_to, host_returns}
use Rattle.wasm_tree.proofs.Asked.{all_at}
use Rattle.low_ir.proofs.Numbers.{host_signatures_counted}
use Rattle.low_ir.specs.Tree.{Function, Module}
use Rattle.low_ir.specs.Numbering.{host_count, host_signatures, all_types, all_signatures, type_of, defined}
use Rattle.low_ir.specs.Meaning.{Outcome, Ends, Jumps, Gives, Breaks, Astray, Called, Gave, Fell, Calls}
use Rattle.low_ir.specs.Frames.{words, kept, finish, host_gives, enter_as, enter}
use Rattle.low_ir.specs.Flat.{flat_function, flat_module}
use Rattle.low_ir.specs.Formed.{FunctionIsFormed}
use Rattle.wasm_emit.specs.Emit.{emitted_function, host_imports, emitted}
use Rattle.wasm_emit.proofs.Asked.{GivesNone}
use Rattle.wasm_emit.proofs.Words.{one_each, body_tree, words_are}
use Rattle.wasm_emit.proofs.Same.{whole, over, SameCalls, same}

abbrev pub to_wasm : Module → WasmModule
to_wasm m = emitted (flat_module m)

-- The same types.

pub host_signed : imported_signatures host_imports ≡ host_signatures
unfolding host_imports host_signatures
host_signed = refl

own_signatures : (fns : List Function) → map (λ f. f.signature) (map emitted_function (map flat_function fns)) ≡ map (λ f. f.signature) fns
own_signatures [] = refl
own_signatures (f ∷ fns) = ap (λ l. f.signature ∷ l) (own_signatures fns)

pub signatures_are : (m : Module) → signatures (to_wasm m) ≡ all_signatures m
signatures_are m = let b = own_signatures m.functions in λ i. host_signed i ++ b i

pub types_are : (m : Module) (f : ℕ) → wasm_type_of (to_wasm m) f ≡ type_of m f
types_are m f = ap (λ l. or_no (slice_get l f) (slice_get (all_types m))) (signatures_are m)

-- The same functions.

abbrev to_function : Function → WasmFunction
to_function fn = emitted_function (flat_function fn)

abbrev to_functions : Option Function → Option WasmFunction
to_functions None = None
to_functions (Some fn) = Some (to_function fn)

found : (fns : List Function) (k : ℕ) → slice_get (map emitted_function (map flat_function fns)) k ≡ to_functions (slice_get fns k)
found [] k = refl
found (f ∷ fns) zero = refl
found (f ∷ fns) (suc k) = found fns k

defined_is : (m : Module) (f : ℕ) → wasm_defined (to_wasm m) f ≡ to_functions (defined m f)
defined_is m f =
    let count : imported_count (to_wasm m) ≡ host_count = ap length host_signed ∙ host_signatures_counted in
    ap (λ n. cond (nat_lt f n) None (slice_get (map emitted_function (map flat_function m.functions)) (f - n))) count ∙ by (nat_lt f host_count)
  where
    by : (t : Bool) → cond t None (slice_get (map emitted_function (map flat_function m.functions)) (f - host_count)) ≡ to_functions (cond t None (slice_get m.functions (f - host_count)))
    by true = refl
    by false = found m.functions (f - host_count)

formed_at : (m : Module) → AllByRecursion (FunctionIsFormed m) m.functions → (f : ℕ) (fn : Function) → defined m f ≡ Some fn → FunctionIsFormed m fn
formed_at m all f fn e = by (nat_lt f host_count) e
  where
    by : (t : Bool) → cond t None (slice_get m.functions (f - host_count)) ≡ Some fn → FunctionIsFormed m fn
    by true e = absurd (cc)
    by false e = all_at (FunctionIsFormed m) m.functions (f - host_count) fn all e

-- Operands and arguments.

taken : (values below : List ℕ) (n : ℕ) → length values ≡ n → take n (values ++ below) ≡ values
taken [] below zero e = refl
taken [] below (suc n) e = absurd (cc)
taken (v ∷ values) below zero e = absurd (cc)
taken (v ∷ values) below (suc n) e = ap (λ l. v ∷ l) (taken values below n (omega arith))

dropped : (values below : List ℕ) (n : ℕ) → length values ≡ n → drop n (values ++ below) ≡ below
dropped [] below zero e = refl
dropped [] below (suc n) e = absurd (cc)
dropped (v ∷ values) below zero e = absurd (cc)
dropped (v ∷ values) below (suc n) e = dropped values below n (omega arith)

-- Ends of calls.

none_of : (n : ℕ) → take {A = ℕ} n [] ≡ []
none_of zero = refl
none_of (suc n) = refl

keeps : (n : ℕ) (value : Option ℕ) → take n (optional value) ≡ optional (kept n value)
keeps zero None = refl
keeps zero (Some v) = refl
keeps (suc n) None = refl
keeps (suc n) (Some v) = ap (λ l. v ∷ l) (none_of n)

finished : {World : Type 0} (t : FunctionType) (operands below : List ℕ) (o : Outcome World) → drop (length t.params) operands ≡ below → return_to t operands (whole o) ≡ over below (finish t o)
finished t operands below (Ends s) e = let n = none_of (length t.results) in λ i. Back s.left s.store (n i ++ e i)
finished t operands below (Jumps zero s) e = let n = none_of (length t.results) in λ i. Back s.left s.store (n i ++ e i)
finished t operands below (Jumps (suc label) s) e = refl
finished t operands below (Gives s value) e = let n = keeps (length t.results) value in λ i. Back s.left s.store (n i ++ e i)
finished t operands below (Breaks cause store) e = refl
finished t operands below Astray e = refl

answered : {World : Type 0} (t : FunctionType) (operands below : List ℕ) (left : ℕ) (store : Store World) (a : HostAnswer World) → drop (length t.params) operands ≡ below → host_returns t operands left store a ≡ over below (host_gives left store a)
answered t operands below left store (Answers result memory world) e = λ i. Back left (record { memory = memory; globals = store.globals; table = store.table; refused = store.refused; world = world }) (optional result ++ e i)
answered t operands below left store (Refuses world) e = refl

tested : {World : Type 0} (t : Bool) (below : List ℕ) (store : Store World) (p : machine.Called World) (q : Called World) → p ≡ over below q → cond t (machine.Fell trap.Stack store) p ≡ over below (cond t (Fell trap.Stack store) q)
tested true below store p q e = refl
tested false below store p q e = e

no_value : {World : Type 0} (t : FunctionType) (o : Outcome World) → t.results ≡ [] → GivesNone (finish t o)
no_value t (Ends s) e = tt
no_value t (Jumps zero s) e = tt
no_value t (Jumps (suc label) s) e = tt
no_value t (Gives s value) e = subst (λ results. GivesNone (Gave s.left s.store (kept (length results) value))) (sym e) tt
no_value t (Breaks cause store) e = tt
no_value t Astray e = tt

tested_none : {World : Type 0} (t : Bool) (store : Store World) (q : Called World) → GivesNone q → GivesNone (cond t (Fell trap.Stack store) q)
tested_none true store q h = tt
tested_none false store q h = h

-- A function of the host gives no value where its type has none.
abbrev pub HostFits : {World : Type 0} → Module → Host World → Type 0
HostFits {World = World} m host =
    (f left : ℕ) (store : Store World) (args : List ℕ) (t : FunctionType) → defined m f ≡ None → type_of m f ≡ Some t → t.results ≡ [] → GivesNone (host_gives left store (host f args store.memory store.world))

module _ {World : Type 0} (limits : ExecutionLimits) (m : Module) (host : Host World) (formed : AllByRecursion (FunctionIsFormed m) m.functions) (fits : HostFits m host) where
  abbrev Inner : (ℕ → machine.Calls World) → (ℕ → Calls World) → Type 0
  Inner inner low_inner = (room : ℕ) → SameCalls limits (to_wasm m) m (inner room) (low_inner room)

  -- What enters a frame, of the words, the code, the arguments and the number of locals.
  abbrev framed : (ℕ → machine.Calls World) → ℕ → ℕ → Store World → FunctionType → List ℕ → ℕ → wasm.Code → List ℕ → ℕ → machine.Called World
  framed inner room left store t operands words code args locals =
      cond (nat_lt room words) (machine.Fell trap.Stack store) (return_to t operands (exec limits (to_wasm m) (inner (room - words)) code (record { left = left; store = store; locals = args ++ replicate locals 0 }) []))

  own : (room : ℕ) (inner : ℕ → machine.Calls World) (low_inner : ℕ → Calls World) → Inner inner low_inner → (f left : ℕ) (store : Store World) (values below : List ℕ) (t : FunctionType) (d : Option Function) → defined m f ≡ d → length values ≡ length t.params
      → frames.enter_as limits (to_wasm m) host room inner (Some t) (to_functions d) f left store (values ++ below) ≡ over below (enter_as limits.pages m host room low_inner (Some t) d f left store (reverse values))
  own room inner low_inner ih f left store values below t None e arity =
      ap (λ args. host_returns t (values ++ below) left store (host f (reverse args) store.memory store.world)) (taken values below (length t.params) arity)
      ∙ answered t (values ++ below) below left store _ (dropped values below (length t.params) arity)
  own room inner low_inner ih f left store values below t (Some fn) e arity =
      let it : FunctionIsFormed m fn = formed_at m formed f fn e in
      let words_same = words_are (to_wasm m) m (types_are m) refl (it.type.params ++ fn.locals) it.type.results (reverse it.type.results) t fn it.body in
      let tree = body_tree fn in
      let args = ap reverse (taken values below (length t.params) arity) in
      let locals = ap length (one_each fn.locals) in
      (λ i. framed inner room left store t (values ++ below) (words_same i) (tree i) (args i) (locals i))
      ∙ tested (nat_lt room (words t fn)) below store _ _
      (ap (return_to t (values ++ below)) (same limits (to_wasm m) m (inner (room - words t fn)) (low_inner (room - words t fn)) (it.type.params ++ fn.locals) it.type.results (ih (room - words t fn)) refl refl 0 (reverse it.type.results) fn.body it.body _)
      ∙ finished t (values ++ below) below _ (dropped values below (length t.params) arity))

  nothing : (room : ℕ) (low_inner : ℕ → Calls World) (f left : ℕ) (store : Store World) (values : List ℕ) (t : FunctionType) (d : Option Function) → defined m f ≡ d → type_of m f ≡ Some t → t.results ≡ []
      → GivesNone (enter_as limits.pages m host room low_inner (Some t) d f left store values)
  nothing room low_inner f left store values t None e is none = fits f left store values t e is none
  nothing room low_inner f left store values t (Some fn) e is none = tested_none (nat_lt room (words t fn)) store _ (no_value t _ none)

  -- Calls of every depth and with every room.
  pub calls_are : (deep room : ℕ) → SameCalls limits (to_wasm m) m (frames.enter deep limits (to_wasm m) host room) (enter deep limits.pages m host room)
  calls_are zero room = record { types = types_are m; same = λ f left store values below t is arity. refl; none = λ f left store values t is none. tt }
  calls_are (suc deep) room = record {
    types = types_are m;
    same = λ f left store values below t is arity.
        let inner : ℕ → machine.Calls World = λ (room : ℕ). frames.enter deep limits (to_wasm m) host room in
        let low_inner : ℕ → Calls World = λ (room : ℕ). enter deep limits.pages m host room in
        (λ i. frames.enter_as limits (to_wasm m) host room inner ((types_are m f ∙ is) i) (defined_is m f i) f left store (values ++ below))
        ∙ own room inner low_inner (calls_are deep) f left store values below t (defined m f) refl arity
        ∙ ap (λ t. over below (enter_as limits.pages m host room low_inner t (defined m f) f left store (reverse values))) (sym is);
    none = λ f left store values t is none.
        subst (λ t. GivesNone (enter_as limits.pages m host room (λ (room : ℕ). enter deep limits.pages m host room) t (defined m f) f left store values)) (sym is)
        (nothing room (λ (room : ℕ). enter deep limits.pages m host room) f left store values t (defined m f) refl is none);
  }
