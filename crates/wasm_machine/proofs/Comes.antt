-- What a call comes to keeps what the run stands for.
use Rattle.std.proofs.Common.{◌≡◌, ℕ, ◌+◌, ◌-◌, ◌<◌, ◌≤◌, Bool, List, [], ◌∷◌, ◌++◌, length, take, drop, Option, Some, None, Result, Ok, Err, refl, sym, ap, ◌∙◌, subst, arith, append-nil, length-drop}
use Rattle.std.specs.Prelude.{slice_get, reverse, replicate}
use Rattle.std.proofs.lemmas.List.{drop-drop}
use Rattle.wasm_tree.specs.declared.trap.Trap.{Trap}
use Rattle.wasm_tree.specs.declared.trap.Trap.TheVariants as trap
use Rattle.wasm_tree.specs.declared.types.FunctionType.{FunctionType}
use Rattle.wasm_tree.specs.declared.module_parts.Module.{Module}
use Rattle.wasm_tree.specs.Exec.{ExecutionLimits, Store, Answers, Refuses}
use Rattle.wasm_tree.specs.Frames.{defined, arguments, optional}
use Rattle.wasm_steps.specs.declared.step.Step.{Step}
use Rattle.wasm_steps.specs.declared.layout.BodyLayout.{BodyLayout}
use Rattle.wasm_steps.specs.declared.layout.FunctionLayout.{FunctionLayout}
use Rattle.wasm_steps.specs.declared.layout.ModuleLayout.{ModuleLayout}
use Rattle.wasm_steps.specs.Layout.{IsModuleLayout}
use Rattle.wasm_steps.specs.Moves.{Final, Trapped}
use Rattle.wasm_steps.specs.Calls.{Frame, Runs}
use Rattle.wasm_steps.proofs.Loops.{state}
use Rattle.wasm_steps.proofs.Frames.{full, begins, refuses, answers}
use Rattle.wasm_machine.specs.declared.frames.Saved.{Saved}
use Rattle.wasm_machine.specs.declared.frames.Here.{Here}
use Rattle.wasm_machine.specs.declared.call.Stop.{Stop}
use Rattle.wasm_machine.specs.declared.call.Stop.TheVariants as stop
use Rattle.wasm_machine.specs.Hosts.{Reply, Gives, Traps, HostCall, Play, played}
use Rattle.wasm_machine.specs.Acts.{parts, store_of}
use Rattle.wasm_machine.specs.HostCame.{args_of, goes_on, HostCame}
use Rattle.wasm_machine.specs.Stacks.{saved_list, frames_under, locals_of, operands_of, IsStacked, AgreeBelow}
use Rattle.wasm_machine.specs.Running.{Machine, play, with_world, RunsAt, AsksAt, Comes}
use Rattle.wasm_machine.proofs.Cells.{agree_less, part_agree, frames_agree, args_are}
use Rattle.wasm_machine.proofs.Callees.{CalleeAt, callee_at, is_host, is_body, AskFacts, ask_facts}

pub runs_like : (limits : ExecutionLimits) (m : Module) (steps : List Step) (whole : Final Play) (fs gs : List Frame) (room room' count count' height height' place place' left : ℕ) (store : Store Play) (ls ms : List ℕ) (os ps : List ℕ) → fs ≡ gs → room ≡ room' → count ≡ count' → height ≡ height' → place ≡ place' → ls ≡ ms → os ≡ ps → Runs limits m played steps whole fs room count height place (state left store ls) os → Runs limits m played steps whole gs room' count' height' place' (state left store ms) ps
runs_like limits m steps whole fs gs room room' count count' height height' place place' left store ls ms os ps e1 e2 e3 e4 e5 e6 e7 r =
    let r1 = subst (λ x. Runs limits m played steps whole x room count height place (state left store ls) os) e1 r in
    let r2 = subst (λ x. Runs limits m played steps whole gs x count height place (state left store ls) os) e2 r1 in
    let r3 = subst (λ x. Runs limits m played steps whole gs room' x height place (state left store ls) os) e3 r2 in
    let r4 = subst (λ x. Runs limits m played steps whole gs room' count' x place (state left store ls) os) e4 r3 in
    let r5 = subst (λ x. Runs limits m played steps whole gs room' count' height' x (state left store ls) os) e5 r4 in
    let r6 = subst (λ x. Runs limits m played steps whole gs room' count' height' place' (state left store x) os) e6 r5 in
    subst (λ x. Runs limits m played steps whole gs room' count' height' place' (state left store ms) x) e7 r6

-- the arguments, as the machine hands them to the host
args_same : (cells : List ℕ) (here : Here) (held n : ℕ) (t : FunctionType) → n ≡ length t.params → n ≤ held → here.base + here.count + held ≤ length cells → arguments t (operands_of here cells held) ≡ args_of here cells held n
args_same cells here held n t e le within =
    let floor : ℕ = here.base + here.count in
    ap (λ i. reverse (take i (operands_of here cells held))) (sym e)
    ∙ args_are (drop floor cells) n held le (let h : held + floor ≤ length cells = omega arith in omega (arith, length-drop floor cells))
    ∙ ap (take n) (drop-drop (held - n) floor cells ∙ ap (λ i. drop i cells) (let h : floor + (held - n) ≡ floor + held - n = omega arith in h))

module _ {S : Type 0} (replies : S → ℕ → List ℕ → List ℕ → Reply → S → Type 0) (before after : S) (made : List HostCall) (whole : List Reply → Final Play) (k : Machine) (layout : ModuleLayout) (laid : IsModuleLayout k.within layout) (saved : List Saved) (cells : List ℕ) (here : Here) (left : ℕ) (globals memory : List ℕ) (refused : Bool) (f place held : ℕ) (fl : FunctionLayout) (is : slice_get layout.functions f ≡ Some fl) (asks : (rest : List Reply) → AsksAt k layout.steps (whole rest) (play made rest) saved cells here left (parts memory globals refused) f place held) (stacked : IsStacked saved cells here) where
  callee : (rest : List Reply) → CalleeAt k.within layout.steps f fl (asks rest).waits.type
  callee rest = callee_at k.within layout laid f fl is (asks rest).waits.type (asks rest).waits.of_type

  facts : (rest : List Reply) → AskFacts held here.height (asks rest).waits.type
  facts rest = ask_facts _ _ _ _ _ _ _ _ _ _ held (asks rest).waits.after

  within : (rest : List Reply) → here.base + here.count + held ≤ length cells
  within rest = let a = (facts rest).few in let b = stacked.fits in omega arith

  args : (rest : List Reply) → arguments (asks rest).waits.type (operands_of here cells held) ≡ args_of here cells held fl.params
  args rest = args_same cells here held fl.params (asks rest).waits.type (callee rest).params (let a = (facts rest).params in let b = (callee rest).params in omega arith) (within rest)

  abbrev the_call : Reply → HostCall
  the_call reply = record { function = f; args = args_of here cells held fl.params; memory = memory; reply = reply }

  pub host_comes : fl.body ≡ None → (types : List FunctionType) (written new : List ℕ) (trapped : Type 0) (result : Result Here Stop) → AgreeBelow (here.base + here.count) written cells → ((r : Option ℕ) → ((t : FunctionType) → slice_get types f ≡ Some t → length (optional r) ≡ length t.results) → length (optional r) ≡ fl.results) → (trapped → replies before f (args_of here cells held fl.params) memory Traps after × (new ≡ memory)) → HostCame types f fl.params here place held cells written (λ given. replies before f (args_of here cells held fl.params) memory (Gives given new) after) trapped result → Comes replies before after made whole k layout.steps saved written left (parts new globals refused) result
  host_comes none types written new trapped (Ok next) low many fell came = record {
    log = the_call (Gives came.result new) ∷ [];
    chain = (after, came.replied, refl);
    on = λ rest.
        let coming : List Reply = Gives came.result new ∷ rest in
        let a = asks coming in
        let w = a.waits in
        let world : Play = play (made ++ the_call (Gives came.result new) ∷ []) rest in
        let answer : played f (arguments w.type (operands_of here cells held)) memory (play made coming) ≡ Answers came.result new world = ap (λ xs. played f xs memory (play made coming)) (args coming) in
        let few : length (optional came.result) ≡ length w.type.results = many came.result came.few ∙ (callee coming).results in
        let runs = answers k.limits k.within played layout.steps (whole coming) _ _ _ _ _ _ _ a.runs f place _ _ w came.result new world (is_host k.within layout.steps w.type (defined k.within f) fl.body (callee coming).body none) answer few in
        let n : ℕ = held - fl.params + length (optional came.result) in
        let shown : RunsAt k layout.steps (whole coming) world saved written (goes_on here place n) left (parts new globals refused) =
        runs_like k.limits k.within layout.steps (whole coming) _ (frames_under saved here written) _ here.room _ here.count _ here.height _ place left (store_of (with_world k world) (parts new globals refused)) _ (locals_of here written) _ (operands_of here written n)
        (sym (frames_agree (saved_list saved here.depth) written cells here.base _ _ stacked.callers (agree_less written cells (here.base + here.count) here.base (omega arith) low))) refl refl refl refl
        (sym (part_agree written cells (here.base + here.count) here.base here.count (omega arith) low))
        (ap (λ i. optional came.result ++ drop i (operands_of here cells held)) (sym (callee coming).params) ∙ sym came.operands) runs in
        subst (λ (x : Here). RunsAt k layout.steps (whole coming) world saved written x left (parts new globals refused)) (sym came.next_is) shown;
  }
  host_comes none types written new trapped (Err (stop.Trapped cause)) low many fell came =
      let t = fell came.1 in
      record {
        log = the_call Traps ∷ [];
        chain = (after, t.0, refl);
        on = λ rest.
            let coming : List Reply = Traps ∷ rest in
            let a = asks coming in
            let w = a.waits in
            let world : Play = play (made ++ the_call Traps ∷ []) rest in
            let answer : played f (arguments w.type (operands_of here cells held)) memory (play made coming) ≡ Refuses world = ap (λ xs. played f xs memory (play made coming)) (args coming) in
            let end = refuses k.limits k.within played layout.steps (whole coming) _ _ _ _ _ _ _ a.runs f place _ _ w world (is_host k.within layout.steps w.type (defined k.within f) fl.body (callee coming).body none) answer in
            ap (λ (x : Trap). Trapped x (store_of (with_world k world) (parts new globals refused))) came.0 ∙ ap (λ (x : List ℕ). Trapped trap.Host (store_of (with_world k world) (parts x globals refused))) t.1 ∙ end;
      }
  host_comes none types written new trapped (Err stop.Memory) low many fell came = tt

  -- nothing is logged
  made_same : (rest : List Reply) → play made rest ≡ play (made ++ []) rest
  made_same rest = ap (λ l. play l rest) (sym (append-nil made))

  pub full_comes : (body : BodyLayout) → fl.body ≡ Some body → here.room < body.words → before ≡ after → Comes replies before after made whole k layout.steps saved cells left (parts memory globals refused) (Err (stop.Trapped trap.Stack))
  full_comes body some less same = record {
    log = [];
    chain = same;
    on = λ rest.
        let a = asks rest in
        let w = a.waits in
        let b = is_body k.within layout.steps w.type (defined k.within f) fl.body body (callee rest).body some in
        let end = full k.limits k.within played layout.steps (whole rest) _ _ _ _ _ _ _ a.runs f place _ _ w b.fn body b.is b.body less in
        subst (λ (x : Play). Trapped trap.Stack (store_of (with_world k x) (parts memory globals refused)) ≡ whole rest) (made_same rest) end;
  }

  pub begin_comes : (body : BodyLayout) → fl.body ≡ Some body → body.words ≤ here.room → before ≡ after → (written : List ℕ) (after_saved : List Saved) (next : Here) → (next.place ≡ body.entry) × (next.room ≡ here.room - body.words) × (next.count ≡ fl.params + body.locals) × (next.height ≡ body.height) × (next.held ≡ 0) → frames_under after_saved next written ≡ record { place = place; room = here.room; count = here.count; height = here.height; locals = locals_of here cells; operands = drop fl.params (operands_of here cells held) } ∷ frames_under saved here cells → locals_of next written ≡ reverse (take fl.params (operands_of here cells held)) ++ replicate body.locals 0 → Comes replies before after made whole k layout.steps after_saved written left (parts memory globals refused) (Ok next)
  begin_comes body some enough same written after_saved next e frames locals = record {
    log = [];
    chain = same;
    on = λ rest.
        let a = asks rest in
        let w = a.waits in
        let n : fl.params ≡ length w.type.params = (callee rest).params in
        let b = is_body k.within layout.steps w.type (defined k.within f) fl.body body (callee rest).body some in
        let runs = begins k.limits k.within played layout.steps (whole rest) _ _ _ _ _ _ _ a.runs f place _ _ w b.fn body b.is b.body (callee rest).few enough in
        let fs : record { place = place; room = here.room; count = here.count; height = here.height; locals = locals_of here cells; operands = drop (length w.type.params) (operands_of here cells held) } ∷ frames_under saved here cells ≡ frames_under after_saved next written =
        ap (λ (i : ℕ). record { place = place; room = here.room; count = here.count; height = here.height; locals = locals_of here cells; operands = drop i (operands_of here cells held) } ∷ frames_under saved here cells) (sym n) ∙ sym frames in
        let ls : arguments w.type (operands_of here cells held) ++ replicate body.locals 0 ≡ locals_of next written = ap (λ (i : ℕ). reverse (take i (operands_of here cells held)) ++ replicate body.locals 0) (sym n) ∙ sym locals in
        let shown : RunsAt k layout.steps (whole rest) (play made rest) after_saved written next left (parts memory globals refused) =
        runs_like k.limits k.within layout.steps (whole rest) _ (frames_under after_saved next written) _ next.room _ next.count _ next.height _ next.place left (store_of (with_world k (play made rest)) (parts memory globals refused)) _ (locals_of next written) _ (operands_of next written next.held)
        fs (sym e.1) (ap (λ (i : ℕ). i + body.locals) (sym n) ∙ sym e.2) (sym e.3) (sym e.0) ls (ap (λ (i : ℕ). operands_of next written i) (sym e.4)) runs in
        subst (λ (x : Play). RunsAt k layout.steps (whole rest) x after_saved written next left (parts memory globals refused)) (made_same rest) shown;
  }
