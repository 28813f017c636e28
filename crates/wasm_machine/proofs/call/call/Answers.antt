use Rattle.std.proofs.Common.{◌≡◌, ◌+◌, ◌-◌, ◌≤◌, ℕ, List, length, drop, Option, Some, None, arith, refl, sym, ap, ◌∙◌, subst, length-take, length-drop}
use Rattle.std.specs.Prelude.{slice_get}
use Rattle.wasm_tree.specs.declared.types.FunctionType.{FunctionType}
use Rattle.wasm_tree.specs.Frames.{defined, optional}
use Rattle.wasm_steps.specs.declared.layout.FunctionLayout.{FunctionLayout}
use Rattle.wasm_steps.specs.declared.layout.ModuleLayout.{ModuleLayout}
use Rattle.wasm_machine.specs.declared.frames.Saved.{Saved}
use Rattle.wasm_machine.specs.declared.frames.Here.{Here}
use Rattle.wasm_machine.specs.HostCame.{args_of}
use Rattle.wasm_machine.specs.Asked.{Fitting}
use Rattle.wasm_machine.specs.Stacks.{IsStacked}
use Rattle.wasm_machine.specs.Running.{SomeAsks}
use Rattle.wasm_machine.proofs.Callees.{some_same, CalleeAt, callee_at, callee_within, is_host, is_body, frame_enough, AskFacts, ask_facts}
use Rattle.wasm_machine.proofs.Comes.{host_comes, full_comes, begin_comes}
use Rattle.wasm_machine.proofs.call.call.Goals as goal

module _ (layout : ModuleLayout) (types : List FunctionType) (saved : List Saved) (cells : List ℕ) (here : Here) (f place held : ℕ) (a : SomeAsks layout types saved cells here f place held) (stacked : IsStacked saved cells here) (fl : FunctionLayout) (is : slice_get layout.functions f ≡ Some fl) where
  the_type : FunctionType
  the_type = a.asks.waits.type

  known : CalleeAt a.k.within layout.steps f fl the_type
  unfolding the_type
  known = callee_at a.k.within layout a.laid f fl is a.asks.waits.type a.asks.waits.of_type

  facts : AskFacts held here.height the_type
  unfolding the_type
  facts = ask_facts _ _ _ _ _ _ _ _ _ _ held a.asks.waits.after

  enough : fl.params ≤ held
  enough = let b = facts.params in let n = known.params in omega arith

  fits : here.base + here.count + held ≤ length cells
  fits = let b = facts.few in let n = stacked.fits in omega arith

  host_type : fl.body ≡ None → slice_get types f ≡ Some the_type
  unfolding the_type
  host_type none = a.made_for f a.asks.waits.type a.asks.waits.of_type (is_host a.k.within layout.steps a.asks.waits.type (defined a.k.within f) fl.body known.body none)

  fitting : fl.body ≡ None → Fitting types f (args_of here cells held fl.params)
  fitting none = record {
    type = the_type;
    of_type = host_type none;
    many = (let n = known.params in let b = fits in let e = enough in omega (arith, length-take fl.params (drop (here.base + here.count + held - fl.params) cells), length-drop (here.base + here.count + held - fl.params) cells));
  }

  room : fl.body ≡ None → (t : FunctionType) → slice_get types f ≡ Some t → here.base + here.count + held - fl.params + length t.results ≤ length cells
  room none t e =
      let same : the_type ≡ t = some_same the_type t (sym (host_type none) ∙ e) in
      let b = facts.fits in
      let n = known.params in
      let s = stacked.fits in
      let p = facts.params in
      subst (λ (u : FunctionType). here.base + here.count + held - fl.params + length u.results ≤ length cells) same (omega arith)

  many : fl.body ≡ None → (r : Option ℕ) → ((t : FunctionType) → slice_get types f ≡ Some t → length (optional r) ≡ length t.results) → length (optional r) ≡ fl.results
  many none r h = h the_type (host_type none) ∙ sym known.results

pub function_at-callee-requires : goal.function_at-callee-requires
function_at-callee-requires g c = let a = c.requires.some in callee_within a.k.within c.args.layout.now a.laid c.args.function a.asks.waits.type a.asks.waits.of_type

pub call_host-requires-clause-fitting : goal.call_host-requires-clause-fitting
call_host-requires-clause-fitting g c = fitting _ _ _ _ _ _ _ _ c.requires.some c.requires.stacked _ c.function_at-callee.ensures c.in-None.is

pub call_host-requires-clause-arguments : goal.call_host-requires-clause-arguments
call_host-requires-clause-arguments g c = enough _ _ _ _ _ _ _ _ c.requires.some c.requires.stacked _ c.function_at-callee.ensures

pub call_host-requires-clause-within : goal.call_host-requires-clause-within
call_host-requires-clause-within g c = fits _ _ _ _ _ _ _ _ c.requires.some c.requires.stacked _ c.function_at-callee.ensures

pub call_host-requires-clause-room : goal.call_host-requires-clause-room
call_host-requires-clause-room g c = room _ _ _ _ _ _ _ _ c.requires.some c.requires.stacked _ c.function_at-callee.ensures c.in-None.is

pub begin-requires-clause-arguments : goal.begin-requires-clause-arguments
begin-requires-clause-arguments g c = enough _ _ _ _ _ _ _ _ c.requires.some c.requires.stacked _ c.function_at-callee.ensures

pub begin-requires-clause-few : goal.begin-requires-clause-few
begin-requires-clause-few g c = (facts _ _ _ _ _ _ _ _ c.requires.some c.requires.stacked _ c.function_at-callee.ensures).few

pub begin-requires-clause-frame : goal.begin-requires-clause-frame
begin-requires-clause-frame g c =
    let n = known _ _ _ _ _ _ _ _ c.requires.some c.requires.stacked _ c.function_at-callee.ensures in
    let b = is_body _ _ _ _ _ _ n.body c.in-Some.is in
    let e = frame_enough _ _ _ _ _ b.body in
    let p = n.params in
    omega arith

pub returns-then-body-here-clause-came : goal.returns-then-body-here-clause-came
returns-then-body-here-clause-came g c = λ k whole made left globals refused laid asks.
    full_comes g.H.Host.replies _ _ made whole k c.args.layout.now laid c.args.saved.now c.args.cells.now c.args.here left globals c.args.memory.now.bytes refused c.args.function c.args.place c.args.held _ c.function_at-callee.ensures asks c.requires.stacked _ c.in-Some.is c.if-body-here.true refl

pub returns-in-None-clause-came : goal.returns-in-None-clause-came
returns-in-None-clause-came g c = λ k whole made left globals refused laid asks.
    host_comes g.H.Host.replies _ _ made whole k c.args.layout.now laid c.args.saved.now c.args.cells.now c.args.here left globals c.args.memory.now.bytes refused c.args.function c.args.place c.args.held _ c.function_at-callee.ensures asks c.requires.stacked c.in-None.is
    (g.H.Host.types c.args.host.now) c.call_host.new.cells c.call_host.new.memory.bytes _ c.call_host.result c.call_host.ensures.below
    (many _ _ _ _ _ _ _ _ c.requires.some c.requires.stacked _ c.function_at-callee.ensures c.in-None.is) (λ t. (t.0, ap (λ x. x.bytes) t.1)) c.call_host.ensures.came

pub returns-else-body-here-clause-came : goal.returns-else-body-here-clause-came
returns-else-body-here-clause-came g c = λ k whole made left globals refused laid asks.
    begin_comes g.H.Host.replies _ _ made whole k c.args.layout.now laid c.args.saved.now c.args.cells.now c.args.here left globals c.args.memory.now.bytes refused c.args.function c.args.place c.args.held _ c.function_at-callee.ensures asks c.requires.stacked _ c.in-Some.is c.if-body-here.false refl
    c.begin.new.cells c.begin.new.saved c.begin.result c.begin.ensures.body c.begin.ensures.frames c.begin.ensures.locals
