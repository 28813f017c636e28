-- Calls and returns keep what the activations stand for.
use Rattle.std.proofs.Common.{◌≡◌, ℕ, zero, suc, ◌+◌, ◌-◌, ◌<◌, ◌≤◌, Bool, true, false, List, [], ◌∷◌, ◌++◌, length, take, drop, Option, Some, None, refl, sym, ap, ◌∙◌, subst, arith, cond, append_assoc, length-append, length-drop}
use Rattle.std.specs.Prelude.{nat_lt, reverse, replicate, slice_get, ◌&&◌}
use Rattle.std.proofs.lemmas.Bool.{lt-ltb, le-ltb}
use Rattle.std.proofs.lemmas.List.{take-append-le, drop-append-le}
use Rattle.wasm_tree.specs.declared.trap.Trap.{Trap}
use Rattle.wasm_tree.specs.declared.trap.Trap.TheVariants as trap
use Rattle.wasm_tree.specs.declared.types.ValueType.{ValueType}
use Rattle.wasm_tree.specs.declared.types.FunctionType.{FunctionType}
use Rattle.wasm_tree.specs.declared.module_parts.Function.{Function}
use Rattle.wasm_tree.specs.declared.module_parts.Module.{Module}
use Rattle.wasm_tree.specs.Tree.{tree_of}
use Rattle.wasm_tree.specs.Valid.{grouped}
use Rattle.wasm_tree.specs.Exec.{ExecutionLimits, Store, State, Answers, Refuses, Host, Outcome, Falls, Branches, Returns, Traps, Stuck, Called, Back, Fell, Calls, type_of, same_kind, same_kinds, same_type, entry, indirect, after_call, exec}
use Rattle.wasm_tree.specs.Frames.{defined, frame_words, arguments, optional, return_to, host_returns, enter_as}
use Rattle.wasm_steps.specs.declared.step.Step.{Step}
use Rattle.wasm_steps.specs.declared.layout.BodyLayout.{BodyLayout}
use Rattle.wasm_steps.specs.Layout.{size, Laid, IsBodyLayout}
use Rattle.wasm_steps.specs.Moves.{Final, Done, Trapped, finish, Next, Over}
use Rattle.wasm_steps.specs.Follow.{Body, under, base, labels, results, resume, Stands, resumed, Waits, Looks, Good}
use Rattle.wasm_steps.specs.Calls.{Frame, back, invoke, Caller, result_of, unwind, Linked, Runs}
use Rattle.wasm_steps.proofs.Loops.{state}
use Rattle.wasm_steps.proofs.Follows.{traps_out}
use Rattle.wasm_steps.proofs.Depth.{frugal, entered, called}

-- what a body gives its caller
pub return_back : {World : Type 0} → (t : FunctionType) (operands : List ℕ) (o : Outcome World) → return_to t operands o ≡ back t operands (finish (length t.results) o)
return_back t operands (Falls s values) = refl
return_back t operands (Branches zero s values) = refl
return_back t operands (Branches (suc l) s values) = refl
return_back t operands (Returns s values) = refl
return_back t operands (Traps cause store) = refl
return_back t operands Stuck = refl

same_length : (js ks : List ValueType) → same_kinds js ks ≡ true → length js ≡ length ks
same_length [] [] e = refl
same_length [] (k ∷ ks) e = absurd (grind (arith, e))
same_length (j ∷ js) [] e = absurd (grind (arith, e))
same_length (j ∷ js) (k ∷ ks) e = ap suc (same_length js ks (both (same_kind j k) (same_kinds js ks) e))
  where
    both : (a b : Bool) → (a && b) ≡ true → b ≡ true
    both true b e = e
    both false b e = absurd (grind (arith, e))

first_of_both : (a b : Bool) → (a && b) ≡ true → a ≡ true
first_of_both true b e = refl
first_of_both false b e = e

second_of_both : (a b : Bool) → (a && b) ≡ true → b ≡ true
second_of_both true b e = e
second_of_both false b e = absurd (grind (arith, e))

-- the store after a call of the host
abbrev pub host_store : {World : Type 0} → Store World → List ℕ → World → Store World
host_store store memory world = record { memory = memory; globals = store.globals; table = store.table; refused = store.refused; world = world }

module _ {World : Type 0} (limits : ExecutionLimits) (m : Module) (host : Host World) (steps : List Step) where
  unwind_trap : (cs : List (Caller limits m host steps)) (cause : Trap) (store : Store World) → unwind limits m host steps cs (Trapped cause store) ≡ Trapped cause store
  unwind_trap [] cause store = refl
  unwind_trap (c ∷ cs) cause store =
      ap (unwind limits m host steps cs) (traps_out limits m (invoke limits m host c.room) (frugal limits m host c.room) c.after.around cause store) ∙ unwind_trap cs cause store

  abbrev Fine : ℕ → ℕ → ℕ → ℕ → Final World → Next World → Type 0
  Fine room count height keep here next = Good limits m (invoke limits m host room) steps count height keep here next

  -- the outermost body has ended
  pub finished : (whole : Final World) (room count height place : ℕ) (s : State World) (operands : List ℕ) (r : Runs limits m host steps whole [] room count height place s operands) (end : Final World) → Fine room count height r.keep r.here (Over end) → end ≡ whole
  finished whole room count height place s operands r end good = by_callers r.callers r.linked r.means
    where
      by_callers : (cs : List (Caller limits m host steps)) → Linked limits m host steps cs [] r.keep → unwind limits m host steps cs r.here ≡ whole → end ≡ whole
      by_callers [] linked means = good.0 ∙ means
      by_callers (c ∷ cs) linked means = absurd linked

  pub trapped : (whole : Final World) (frames : List Frame) (room count height place : ℕ) (s : State World) (operands : List ℕ) (r : Runs limits m host steps whole frames room count height place s operands) (cause : Trap) (store : Store World) → Trapped cause store ≡ r.here → Trapped cause store ≡ whole
  trapped whole frames room count height place s operands r cause store e =
      sym (unwind_trap r.callers cause store) ∙ ap (unwind limits m host steps r.callers) e ∙ r.means

  -- a body has ended, and its caller goes on
  pub returned : (whole : Final World) (f : Frame) (frames : List Frame) (room count height place : ℕ) (s : State World) (operands : List ℕ) (r : Runs limits m host steps whole (f ∷ frames) room count height place s operands) (left : ℕ) (store : Store World) (values : List ℕ) → Fine room count height r.keep r.here (Over (Done left store values)) → Runs limits m host steps whole frames f.room f.count f.height f.place (state left store f.locals) (values ++ f.operands)
  returned whole f frames room count height place s operands r left store values good = by_callers r.callers r.linked r.means
    where
      by_callers : (cs : List (Caller limits m host steps)) → Linked limits m host steps cs (f ∷ frames) r.keep → unwind limits m host steps cs r.here ≡ whole → Runs limits m host steps whole frames f.room f.count f.height f.place (state left store f.locals) (values ++ f.operands)
      by_callers [] linked means = absurd linked
      by_callers (c ∷ cs) linked means =
          let calls = invoke limits m host c.room in
          let a = c.after in
          let own = values ++ drop (length c.type.params) a.own in
          let some : length values ≡ length c.type.results = good.1 ∙ linked.1 in
          let len : length a.own - length c.type.params + length c.type.results ≡ length own = omega (arith, length-append values (drop (length c.type.params) a.own), length-drop (length c.type.params) a.own, some, a.enough) in
          let below : drop (length c.type.params) c.operands ≡ drop (length c.type.params) a.own ++ under a.around = ap (drop (length c.type.params)) a.held ∙ drop-append-le (length c.type.params) a.own (under a.around) a.enough in
          let shape : values ++ drop (length c.type.params) c.operands ≡ own ++ under a.around = ap (λ t. values ++ t) below ∙ sym (append_assoc values (drop (length c.type.params) a.own) (under a.around)) in
          let here = result_of limits m host steps c (Done left store values) in
          let stands : Stands limits m calls steps c.count c.height c.keep here c.place (state left store c.locals) (values ++ drop (length c.type.params) c.operands) = record {
            code = a.code;
            around = a.around;
            own = own;
            means = refl;
            held = shape;
            laid = subst (λ i. Laid m steps c.count c.height c.keep c.place (labels a.around) (base a.around) (results a.around) i a.code) len a.laid;
            kept = a.kept;
            ends = a.ends;
          } in
          let runs : Runs limits m host steps whole frames c.room c.count c.height c.place (state left store c.locals) (values ++ drop (length c.type.params) c.operands) = record {
            callers = cs;
            here = here;
            means = ap (λ x. unwind limits m host steps cs (result_of limits m host steps c x)) good.0 ∙ means;
            keep = c.keep;
            few = c.few;
            stands = stands;
            linked = linked.2;
          } in
          subst (λ (x : Frame). Runs limits m host steps whole frames x.room x.count x.height x.place (state left store x.locals) (values ++ x.operands)) (sym linked.0) runs

  -- an activation that waits for a call of a function of this type
  module _ (whole : Final World) (frames : List Frame) (room count height place : ℕ) (s : State World) (operands : List ℕ) (r : Runs limits m host steps whole frames room count height place s operands) where
    module _ (f to : ℕ) (t : State World) (held : List ℕ) (w : Waits limits m (invoke limits m host room) steps count height r.keep r.here f to t held) where
      calls : Calls World
      calls = invoke limits m host room

      all : List ℕ
      all = held

      same_args : (k : ℕ) → k ≤ length w.after.own → take k held ≡ take k w.after.own
      same_args k le = ap (take k) w.after.held ∙ take-append-le k w.after.own (under w.after.around) le

      -- what the call comes to
      pub comes : invoke limits m host room f t.left t.store w.after.own ≡ enter_as limits m host room (invoke limits m host) (Some w.type) (defined m f) f t.left t.store w.after.own
      comes = called limits m host room f t.left t.store w.after.own ∙ ap (λ o. enter_as limits m host room (invoke limits m host) o (defined m f) f t.left t.store w.after.own) w.of_type

      after_is : (c : Called World) → invoke limits m host room f t.left t.store w.after.own ≡ c → resumed limits m (invoke limits m host room) steps count height r.keep w.after t.locals c ≡ r.here
      after_is c e = ap (λ x. resumed limits m (invoke limits m host room) steps count height r.keep w.after t.locals x) (sym e) ∙ w.means

      fell : (cause : Trap) (store : Store World) → invoke limits m host room f t.left t.store w.after.own ≡ Fell cause store → Trapped cause store ≡ whole
      fell cause store e =
          trapped whole frames room count height place s operands r cause store (sym (traps_out limits m (invoke limits m host room) (frugal limits m host room) w.after.around cause store) ∙ after_is (Fell cause store) e)

      -- no room for the frame
      pub full : (fn : Function) (layout : BodyLayout) → defined m f ≡ Some fn → IsBodyLayout m steps w.type fn layout → room < layout.words → Trapped trap.Stack t.store ≡ whole
      full fn layout is body less =
          let narrow : room < frame_words m w.type fn = let e = body.words in omega arith in
          fell trap.Stack t.store (comes ∙ ap (λ d. enter_as limits m host room (invoke limits m host) (Some w.type) d f t.left t.store w.after.own) is ∙ ap (λ b. cond b (Fell trap.Stack t.store) (entered limits m host (invoke limits m host (room - frame_words m w.type fn)) w.type fn t.left t.store w.after.own)) (lt-ltb _ _ narrow))

      -- the body begins
      pub begins : (fn : Function) (layout : BodyLayout) → defined m f ≡ Some fn → IsBodyLayout m steps w.type fn layout → length w.type.results ≤ 1 → layout.words ≤ room → Runs limits m host steps whole (record { place = to; room = room; count = count; height = height; locals = t.locals; operands = drop (length w.type.params) held } ∷ frames) (room - layout.words) (length w.type.params + layout.locals) layout.height layout.entry (state t.left t.store (arguments w.type held ++ replicate layout.locals 0)) []
      begins fn layout is body one enough =
          let inner = invoke limits m host (room - layout.words) in
          let begin : State World = state t.left t.store (arguments w.type held ++ replicate layout.locals 0) in
          let end : Final World = finish (length w.type.results) (exec limits m inner (tree_of fn.body) begin []) in
          let fits : nat_lt room (frame_words m w.type fn) ≡ false = le-ltb _ _ (let e = body.words in omega arith) in
          let args : arguments w.type w.after.own ≡ arguments w.type held = ap reverse (sym (same_args (length w.type.params) w.after.enough)) in
          let locals : arguments w.type w.after.own ++ replicate (length (grouped fn.locals)) 0 ≡ arguments w.type held ++ replicate layout.locals 0 = ap (λ n. arguments w.type w.after.own ++ replicate n 0) (sym body.locals) ∙ ap (λ xs. xs ++ replicate layout.locals 0) args in
          let gives : invoke limits m host room f t.left t.store w.after.own ≡ back w.type w.after.own end =
          comes ∙ ap (λ d. enter_as limits m host room (invoke limits m host) (Some w.type) d f t.left t.store w.after.own) is
          ∙ ap (λ b. cond b (Fell trap.Stack t.store) (entered limits m host (invoke limits m host (room - frame_words m w.type fn)) w.type fn t.left t.store w.after.own)) fits
          ∙ ap (λ n. entered limits m host (invoke limits m host (room - n)) w.type fn t.left t.store w.after.own) (sym body.words)
          ∙ ap (λ xs. return_to w.type w.after.own (exec limits m inner (tree_of fn.body) (state t.left t.store xs) [])) locals
          ∙ return_back w.type w.after.own (exec limits m inner (tree_of fn.body) begin []) in
          let c : Caller limits m host steps = record { place = to; room = room; count = count; height = height; keep = r.keep; few = r.few; locals = t.locals; type = w.type; operands = held; after = w.after } in
          let stands : Stands limits m inner steps (length w.type.params + layout.locals) layout.height (length w.type.results) end layout.entry begin [] = record {
            code = tree_of fn.body;
            around = Body (layout.entry + size (tree_of fn.body)) (length w.type.results);
            own = [];
            means = refl;
            held = refl;
            laid = body.laid;
            kept = (body.ends, refl);
            ends = refl;
          } in
          record {
            callers = c ∷ r.callers;
            here = end;
            means = ap (unwind limits m host steps r.callers) (after_is (back w.type w.after.own end) gives) ∙ r.means;
            keep = length w.type.results;
            few = one;
            stands = stands;
            linked = (refl, refl, r.linked);
          }

      -- the host traps
      pub refuses : (world : World) → defined m f ≡ None → host f (arguments w.type held) t.store.memory t.store.world ≡ Refuses world → Trapped trap.Host (host_store t.store t.store.memory world) ≡ whole
      refuses world is answer =
          let args : arguments w.type held ≡ arguments w.type w.after.own = ap reverse (same_args (length w.type.params) w.after.enough) in
          fell trap.Host (host_store t.store t.store.memory world) (comes ∙ ap (λ d. enter_as limits m host room (invoke limits m host) (Some w.type) d f t.left t.store w.after.own) is ∙ ap (host_returns w.type w.after.own t.left t.store) (ap (λ xs. host f xs t.store.memory t.store.world) (sym args) ∙ answer))

      -- the host answers
      pub answers : (result : Option ℕ) (memory : List ℕ) (world : World) → defined m f ≡ None → host f (arguments w.type held) t.store.memory t.store.world ≡ Answers result memory world → length (optional result) ≡ length w.type.results → Runs limits m host steps whole frames room count height to (state t.left (host_store t.store memory world) t.locals) (optional result ++ drop (length w.type.params) held)
      answers result memory world is answer few =
          let a = w.after in
          let args : arguments w.type held ≡ arguments w.type a.own = ap reverse (same_args (length w.type.params) a.enough) in
          let own = optional result ++ drop (length w.type.params) a.own in
          let gives : invoke limits m host room f t.left t.store a.own ≡ Back t.left (host_store t.store memory world) own =
          comes ∙ ap (λ d. enter_as limits m host room (invoke limits m host) (Some w.type) d f t.left t.store a.own) is ∙ ap (host_returns w.type a.own t.left t.store) (ap (λ xs. host f xs t.store.memory t.store.world) (sym args) ∙ answer) in
          let len : length a.own - length w.type.params + length w.type.results ≡ length own = omega (arith, length-append (optional result) (drop (length w.type.params) a.own), length-drop (length w.type.params) a.own, few, a.enough) in
          let below : drop (length w.type.params) held ≡ drop (length w.type.params) a.own ++ under a.around = ap (drop (length w.type.params)) a.held ∙ drop-append-le (length w.type.params) a.own (under a.around) a.enough in
          let shape : optional result ++ drop (length w.type.params) held ≡ own ++ under a.around = ap (λ xs. optional result ++ xs) below ∙ sym (append_assoc (optional result) (drop (length w.type.params) a.own) (under a.around)) in
          record {
            callers = r.callers;
            here = r.here;
            means = r.means;
            keep = r.keep;
            few = r.few;
            stands = record {
              code = a.code;
              around = a.around;
              own = own;
              means = after_is (Back t.left (host_store t.store memory world) own) gives;
              held = shape;
              laid = subst (λ i. Laid m steps count height r.keep to (labels a.around) (base a.around) (results a.around) i a.code) len a.laid;
              kept = a.kept;
              ends = a.ends;
            };
            linked = r.linked;
          }

    -- an indirect call finds nothing, or something of another type
    module _ (x at to : ℕ) (t : State World) (held : List ℕ) (w : Looks limits m (invoke limits m host room) steps count height r.keep r.here x at to t held) where
      pub missing : entry (slice_get t.store.table at) ≡ None → Trapped trap.Indirect t.store ≡ whole
      missing e =
          trapped whole frames room count height place s operands r trap.Indirect t.store (sym (traps_out limits m (invoke limits m host room) (frugal limits m host room) w.after.around trap.Indirect t.store)
          ∙ ap (λ o. resume limits m (invoke limits m host room) w.after.around (indirect m x o t (λ f. after_call t.locals (invoke limits m host room f t.left t.store w.after.own) (exec limits m (invoke limits m host room) w.after.code)))) (sym e) ∙ w.means)

      abbrev calling : ℕ → Outcome World
      calling f = after_call t.locals (invoke limits m host room f t.left t.store w.after.own) (exec limits m (invoke limits m host room) w.after.code)

      by_type : (f : ℕ) (b : Bool) → entry (slice_get t.store.table at) ≡ Some f → same_type (type_of m f) (slice_get m.types x) ≡ b → resume limits m (invoke limits m host room) w.after.around (cond b (calling f) (Traps trap.Indirect t.store)) ≡ r.here
      by_type f b e same =
          ap (λ c. resume limits m (invoke limits m host room) w.after.around (cond c (calling f) (Traps trap.Indirect t.store))) (sym same)
          ∙ ap (λ o. resume limits m (invoke limits m host room) w.after.around (indirect m x o t calling)) (sym e) ∙ w.means

      pub mistyped : (f : ℕ) → entry (slice_get t.store.table at) ≡ Some f → same_type (type_of m f) (slice_get m.types x) ≡ false → Trapped trap.Indirect t.store ≡ whole
      mistyped f e other =
          trapped whole frames room count height place s operands r trap.Indirect t.store (sym (traps_out limits m (invoke limits m host room) (frugal limits m host room) w.after.around trap.Indirect t.store) ∙ by_type f false e other)

      -- and then the call is as a direct one
      pub found : (f : ℕ) → entry (slice_get t.store.table at) ≡ Some f → same_type (type_of m f) (slice_get m.types x) ≡ true → Waits limits m (invoke limits m host room) steps count height r.keep r.here f to t held
      found f e same = by_function (type_of m f) refl (ap (λ o. same_type (type_of m f) o) (sym w.of_type) ∙ same)
        where
          by_function : (o : Option FunctionType) → type_of m f ≡ o → same_type (type_of m f) (Some w.type) ≡ true → Waits limits m (invoke limits m host room) steps count height r.keep r.here f to t held
          by_function None is true_ = absurd (let h : false ≡ true = ap (λ o. same_type o (Some w.type)) (sym is) ∙ true_ in grind (arith, h))
          by_function (Some u) is true_ =
              let h : (same_kinds u.params w.type.params && same_kinds u.results w.type.results) ≡ true = ap (λ o. same_type o (Some w.type)) (sym is) ∙ true_ in
              let params : length u.params ≡ length w.type.params = same_length u.params w.type.params (first_of_both _ _ h) in
              let gives : length u.results ≡ length w.type.results = same_length u.results w.type.results (second_of_both _ _ h) in
              let a = w.after in
              let sum : length a.own - length w.type.params + length w.type.results ≡ length a.own - length u.params + length u.results = omega arith in
              record {
                type = u;
                of_type = is;
                after = record {
                  code = a.code;
                  around = a.around;
                  own = a.own;
                  enough = let h2 = a.enough in omega arith;
                  few = a.few;
                  fits = subst (λ i. base a.around + i ≤ height) sum a.fits;
                  held = a.held;
                  laid = subst (λ i. Laid m steps count height r.keep to (labels a.around) (base a.around) (results a.around) i a.code) sum a.laid;
                  kept = a.kept;
                  ends = a.ends;
                };
                means = by_type f true e same;
              }
