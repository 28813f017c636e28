-- How a body ends, as its actor sees it.
use Rattle.std.proofs.Common.{◌≡◌, ℕ, ◌+◌, ◌*◌, ◌≤◌, Bool, true, false, List, [], ◌∷◌, ◌++◌, length, Option, Some, None, refl, sym, ap, ◌∙◌, subst, arith}
use Rattle.std.proofs.Math.Nat.{mul-add, mul-le-mul_right}
use Rattle.std.specs.Prelude.{nat_lt, cond, map}
use Rattle.mo_types.specs.declared.node.TypeId.{TypeId}
use Rattle.mo_types.specs.Calls.{CallTable}
use Rattle.mo_values.specs.Alike.{AlikeAll}
use Rattle.mo_values.specs.Costs.{weighing, sizes, most_levels}
use Rattle.mo_values.specs.Shapes.{Head, Bytes, Error, Tuple, NoShape, AShape, Shapes}
use Rattle.mo_values.specs.Shapes as shape
use Rattle.mo_values.specs.Views.{message_in}
use Rattle.mo_actor.specs.Executions.{Progress, Completion}
use Rattle.mo_actor.specs.Executions as actor_end
use Rattle.mo_actor.specs.Programs.{Effects}
use Rattle.mo_actor.specs.Programs as actor
use Rattle.mo_actor.specs.Results.{IsPrefix}
use Rattle.core_ir.specs.Values as core_value
use Rattle.core_ir.specs.Values.{Handle}
use Rattle.core_ir.specs.Worlds as worlds
use Rattle.core_ir.specs.Worlds.{Request, World, Context}
use Rattle.core_ir.specs.Executions.{End, Over, Stand, Machine}
use Rattle.core_ir.specs.Expressions.{Core}
use Rattle.core_ir.specs.CoreMachine as core_machine
use Rattle.core_ir.specs.CoreMachine.{State}
use Rattle.core_ir.specs.Calls as core_calls
use Rattle.core_ir.specs.Messages.{Messages}
use Rattle.core_ir.specs.Actor.{core_language}
use Rattle.core_ir.specs.Actor as core_actor
use Rattle.mo_meaning.specs.Configurations.{Surroundings}
use Rattle.mo_meaning.specs.Turns.{most_bytes, too_long}
use Rattle.mo_machine.specs.Values.{Value, Values, Made, Closure, BuiltIn, NoValue, AValue, listed, shapes_of, shapes_list}
use Rattle.mo_machine.specs.ActorLanguage.{machine, Fields, call_of_machine}
use Rattle.mo_machine.specs.Bodies.{effects, shared_progress}
use Rattle.mo_machine.specs.Jumps.{nodes_around}
use Rattle.mo_machine.specs.Configurations as configuration
use Rattle.mo_machine.specs.Configurations.{Configuration, Run, Ended, weighed}
use Rattle.mo_machine.specs.Messages.{unpacked, message_cost}
use Rattle.mo_machine.specs.Turns.{message, rejects, replies, as_reply}
use Rattle.mo_meaning.specs.Kernel.{Outgoing}
use Rattle.elaboration_values.specs.Belonging.{Known, Names, Belongs, EachBelongs}
use Rattle.elaboration_values.proofs.Messages.{messages}
use Rattle.elaboration_steps.specs.Stacks.{StackBelongs}
use Rattle.elaboration_steps.specs.Follows.{owed}
use Rattle.elaboration_steps.proofs.Paths.{nothing_more}
use Rattle.elaboration_runs.specs.Calling.{Surrounded}
use Rattle.elaboration_runs.specs.Ending.{Shows, Leaves, Finish, Returned, Thrown, Trapped, Suspended, Asleep}
use Rattle.elaboration_runs.specs.Whole.{SameCalls}
use Rattle.elaboration_actors.specs.Bodies.{reached, CompletionsBelong, ShownWhole, ProgressBelongs, EndingsBelong, CallsBelong, EffectsBelong}

-- ---- results

module _ (known : List Known) where
  listed_belong : (vs : Values) (ws : Shapes Handle) → AlikeAll (Names known) (shapes_of vs) ws → EachBelongs known (listed vs) (shape.listed ws)
  listed_belong NoValue NoShape a = tt
  listed_belong NoValue (AShape w ws) a = absurd a
  listed_belong (AValue v vs) NoShape a = absurd a
  listed_belong (AValue v vs) (AShape w ws) a = (a.0, listed_belong vs ws (a.1))

  parts_belong : (v : Value) (w : core_value.Value) → Belongs known v w → (t u : TypeId) (ts : List TypeId) → EachBelongs known (unpacked (t ∷ u ∷ ts) v) (core_actor.unpacked (t ∷ u ∷ ts) w)
  parts_belong (Made head inside) (shape.Made other ws) a t u ts = by head other (a.0)
    where
      by : (h i : Head) → h ≡ i → EachBelongs known (unpacked (t ∷ u ∷ ts) (Made h inside)) (core_actor.unpacked (t ∷ u ∷ ts) (shape.Made i ws))
      by Tuple i e = subst (λ i. EachBelongs known (listed inside) (core_actor.unpacked (t ∷ u ∷ ts) (shape.Made i ws))) e (listed_belong inside ws (a.1))
      by h i e = subst (λ i. EachBelongs known (unpacked (t ∷ u ∷ ts) (Made h inside)) (core_actor.unpacked (t ∷ u ∷ ts) (shape.Made i ws))) e tt
  parts_belong (Made head inside) (shape.Function h) a t u ts = absurd a
  parts_belong (Closure group which env) (shape.Function h) a t u ts = tt
  parts_belong (Closure group which env) (shape.Made i ws) a t u ts = absurd a
  parts_belong (BuiltIn m holds) (shape.Function h) a t u ts = tt
  parts_belong (BuiltIn m holds) (shape.Made i ws) a t u ts = absurd a

  unpacked_belong : (results : List TypeId) (v : Value) (w : core_value.Value) → Belongs known v w → EachBelongs known (unpacked results v) (core_actor.unpacked results w)
  unpacked_belong [] v w a = tt
  unpacked_belong (t ∷ []) v w a = (a, tt)
  unpacked_belong (t ∷ u ∷ ts) v w a = parts_belong v w a t u ts

-- ---- weights

-- what both pay more
pub pays_more : (times w x total : ℕ) → 1 ≤ times → total ≤ times * w → total + x ≤ times * (w + x)
pays_more times w x total one le =
    let a : times * (w + x) ≡ times * w + times * x = mul-add times w x in
    let b : 1 * x ≤ times * x = mul-le-mul_right x one in
    omega (arith, a, b, le)

pub all_shown : (prints shown : List Bytes) → shown ≡ prints → IsPrefix shown prints
all_shown prints shown e = ([], sym e ∙ nothing_more shown)

module _ {K : Type 0} (coding : Messages K) (program : Core) (own : Bytes) (table : CallTable (List TypeId) worlds.Given) (names : List core_value.Value) (nodes times : ℕ) (one : 1 ≤ times) (s : Surroundings)
    (f : Fields) (g : core_actor.Fields) (names_are : g.names ≡ names) (results : List TypeId) where
  abbrev M : Machine State core_machine.Waiting
  M = core_machine.core_machine program

  abbrev context : Context
  context = core_actor.context_of M coding program own table names

  same_calls : (cs : List Outgoing) (rs : List Request) → SameCalls cs rs → CallsBelong {K = K} program names context.globals (map call_of_machine cs) (map (core_actor.call_of M coding program) rs)
  same_calls [] [] h = tt
  same_calls [] (r ∷ rs) h = absurd h
  same_calls (c ∷ cs) [] h = absurd h
  same_calls (c ∷ cs) (r ∷ rs) h = ((h.0.callee, h.0.method, h.0.argument, h.0.results, h.0.resumes), same_calls cs rs (h.1))

  abbrev X : Run → Progress (Effects machine)
  X r = shared_progress f results (as_reply s results r)

  abbrev Y : Stand State core_machine.Waiting → Progress (Effects (core_language core_machine.Waiting K))
  Y y = core_actor.body_progress M coding program g results y

  module _ (known : List Known) (same : Surrounded program context nodes s) where
    abbrev Both : Effects machine → Effects (core_language core_machine.Waiting K) → Type 0
    Both = EffectsBelong program names context.globals f.exports known

    abbrev P : Progress (Effects machine) → Progress (Effects (core_language core_machine.Waiting K)) → Type 0
    P = ProgressBelongs times Both

    module _ (known' : List Known) (grows : (more : List Known) × (known' ≡ known ++ more)) (w d : ℕ) (prints : List Bytes) (world : World) where
      left_belongs : (c : Configuration) → Leaves program context nodes known' c world → (e : actor.Ending machine) (h : actor.Ending (core_language core_machine.Waiting K)) → EndingsBelong program names context.globals known' e h → (e ≡ actor.Unchanged → ⊥)
          → Both (record { store = record f { cells = c.store }; calls = map call_of_machine c.calls; ending = e })
          (record { store = record { cells = world.store; groups = world.groups; names = g.names }; calls = map (core_actor.call_of M coding program) world.requests; ending = h })
      left_belongs c leaves e h ends changes = record {
        known' = known';
        grows = grows;
        fields = record { cells = leaves.worlds.cells; groups = leaves.worlds.groups; names_are = names_are };
        exports_are = refl;
        calls = same_calls c.calls world.requests leaves.calls;
        ending = ends;
        quiet = λ i. absurd (changes i);
      }

      module _ (c : Configuration) (shows : Shows program context nodes c w d prints) where
        -- with a further cost at its end
        with_cost : (x y : ℕ) (levels : ℕ) (end : configuration.End) (completion : Option (Completion (Effects (core_language core_machine.Waiting K)))) → w + x ≤ times * (c.weight + x) → y ≡ x
            → CompletionsBelong times Both (effects f results (weighed (record { weight = x; levels = levels }) c) end) completion
            → P (shared_progress f results (Ended (weighed (record { weight = x; levels = levels }) c) end)) (core_actor.progress w d prints (record { weight = y; levels = levels }) completion)
        with_cost x y levels end completion light e belongs = record {
          begun = all_shown c.prints prints shows.prints_are;
          whole = in_whole completion;
          weight = omega (arith, light, e);
          depth = let z : d ≤ c.depth = shows.shallow in omega (arith, z);
          completion = belongs;
        }
          where
            in_whole : (o : Option (Completion (Effects (core_language core_machine.Waiting K)))) → ShownWhole times Both c.prints prints o
            in_whole None = tt
            in_whole (Some end) = shows.prints_are

        plainly : (end : configuration.End) (completion : Option (Completion (Effects (core_language core_machine.Waiting K)))) → w ≤ times * c.weight → CompletionsBelong times Both (effects f results c end) completion
            → P (shared_progress f results (Ended c end)) (core_actor.progress w d prints (weighing 0) completion)
        plainly end completion light belongs = record {
          begun = all_shown c.prints prints shows.prints_are;
          whole = in_whole completion;
          weight = omega (arith, light);
          depth = let z : d ≤ c.depth = shows.shallow in omega (arith, z);
          completion = belongs;
        }
          where
            in_whole : (o : Option (Completion (Effects (core_language core_machine.Waiting K)))) → ShownWhole times Both c.prints prints o
            in_whole None = tt
            in_whole (Some end) = shows.prints_are

        replies_belong : Leaves program context nodes known' c world → w ≤ times * c.weight → (vs : List Value) (us : List core_value.Value) → EachBelongs known' vs us → (o : Option Bytes)
            → P (shared_progress f results (replies s vs o c)) (core_actor.replied M coding program g results w d prints world us o)
        replies_belong leaves light vs us al None = plainly configuration.Breaks None light tt
        replies_belong leaves light vs us al (Some bytes) = by (nat_lt most_bytes (length bytes))
          where
            size : sizes us + length bytes ≡ sizes (shapes_list vs) + length bytes
            size = ap (λ n. n + length bytes) (sym ((messages known' (shapes_list vs) us al).1))

            levels : most_levels (shapes_list vs) ≡ most_levels us
            levels = (messages known' (shapes_list vs) us al).2

            c2 : Configuration
            c2 = weighed (message_cost vs bytes) c

            answers : Option (Completion (Effects (core_language core_machine.Waiting K)))
            answers = core_actor.effects M coding program g world (actor.Answers (actor.Replies bytes))

            by : (long : Bool) → P (shared_progress f results (cond long (Ended c2 (configuration.Traps too_long)) (Ended c2 (configuration.Responds (actor.Replies bytes))))) (core_actor.progress w d prints (core_calls.message_cost us bytes) (cond long (Some (actor_end.Traps core_calls.too_long)) answers))
            by true =
                subst (λ n. P (shared_progress f results (Ended c2 (configuration.Traps too_long))) (core_actor.progress w d prints (record { weight = sizes us + length bytes; levels = n }) (Some (actor_end.Traps core_calls.too_long)))) levels
                (with_cost (sizes (shapes_list vs) + length bytes) (sizes us + length bytes) (most_levels (shapes_list vs)) (configuration.Traps too_long) (Some (actor_end.Traps core_calls.too_long)) (pays_more times c.weight (sizes (shapes_list vs) + length bytes) w one light) size refl)
            by false =
                subst (λ n. P (shared_progress f results (Ended c2 (configuration.Responds (actor.Replies bytes)))) (core_actor.progress w d prints (record { weight = sizes us + length bytes; levels = n }) answers)) levels
                (with_cost (sizes (shapes_list vs) + length bytes) (sizes us + length bytes) (most_levels (shapes_list vs)) (configuration.Responds (actor.Replies bytes)) answers (pays_more times c.weight (sizes (shapes_list vs) + length bytes) w one light) size (left_belongs c leaves (actor.Answers (actor.Replies bytes)) (actor.Answers (actor.Replies bytes)) refl (λ i. absurd cc)))

        rejects_belong : Leaves program context nodes known' c world → (error : Value) (u : core_value.Value) → Belongs known' error u → ((c' : Configuration) → rejects c error ≡ Ended c' configuration.Breaks → ⊥)
            → 2 * (reached (rejects c error)).weight + owed (reached (rejects c error)).stack ≤ times * (reached (rejects c error)).weight
            → P (X (rejects c error)) (core_actor.rejected M coding program g results w d prints world (message_in u))
        rejects_belong leaves (Made (Error code text) NoValue) (shape.Made i NoShape) value whole light =
            subst (λ h. P (X (rejects c (Made (Error code text) NoValue))) (core_actor.rejected M coding program g results w d prints world (message_in {F = Handle} (shape.Made h NoShape)))) (value.0) (by (nat_lt most_bytes (length text)) light)
          where
            c2 : Configuration
            c2 = weighed (weighing (length text)) c

            paid : 2 * c2.weight + owed c2.stack ≤ times * c2.weight → w + length text ≤ times * (c.weight + length text)
            paid h = let z : w ≤ 2 * c.weight + owed c.stack = shows.light in let y : 2 * (c.weight + length text) + owed c.stack ≤ times * (c.weight + length text) = h in omega (arith, z, y)

            answers : Option (Completion (Effects (core_language core_machine.Waiting K)))
            answers = core_actor.effects M coding program g world (actor.Answers (actor.Rejects 4 text))

            Ends-so : Bool → Run
            Ends-so long = cond long (Ended c2 (configuration.Traps too_long)) (Ended c2 (configuration.Responds (actor.Rejects 4 text)))

            by : (long : Bool) → 2 * (reached (Ends-so long)).weight + owed (reached (Ends-so long)).stack ≤ times * (reached (Ends-so long)).weight → P (X (Ends-so long)) (core_actor.progress w d prints (weighing (length text)) (cond long (Some (actor_end.Traps core_calls.too_long)) answers))
            by true h = with_cost (length text) (length text) 0 (configuration.Traps too_long) (Some (actor_end.Traps core_calls.too_long)) (paid h) refl refl
            by false h = with_cost (length text) (length text) 0 (configuration.Responds (actor.Rejects 4 text)) answers (paid h) refl (left_belongs c leaves (actor.Answers (actor.Rejects 4 text)) (actor.Answers (actor.Rejects 4 text)) refl (λ i. absurd cc))
        rejects_belong leaves (Made (Error code text) NoValue) (shape.Made i (AShape x xs)) value whole light = absurd (value.1)
        rejects_belong leaves (Made (Error code text) NoValue) (shape.Function h) value whole light = absurd value
        rejects_belong leaves error u value whole light = absurd (whole c refl)

      paid : (c : Configuration) → Shows program context nodes c w d prints → 2 * c.weight + owed c.stack ≤ times * c.weight → w ≤ times * c.weight
      paid c shows light = let z : w ≤ 2 * c.weight + owed c.stack = shows.light in omega (arith, z, light)

      -- where the run is over, the progress of both is alike
      pub ends_belong : (r : Run) (end : End core_machine.Waiting) → Finish program context nodes known' w d prints world r end → ((c' : Configuration) → r ≡ Ended c' configuration.Breaks → ⊥) → 2 * (reached r).weight + owed (reached r).stack ≤ times * (reached r).weight → P (X r) (Y (Over w d prints world end))
      ends_belong r end (Returned c v u shows leaves value) whole light =
          subst (λ o. P (X (Ended c (configuration.Returns v))) (core_actor.replied M coding program g results w d prints world (core_actor.unpacked results u) o)) (sym (same.bytes known' results (unpacked results v) (core_actor.unpacked results u) al))
          (replies_belong c shows leaves (paid c shows light) (unpacked results v) (core_actor.unpacked results u) al (message s results (unpacked results v)))
        where
          al : EachBelongs known' (unpacked results v) (core_actor.unpacked results u)
          al = unpacked_belong known' results v u value
      ends_belong r end (Thrown c error u shows leaves value) whole light = rejects_belong c shows leaves error u value whole light
      ends_belong r end (Trapped c text shows) whole light = plainly c shows (configuration.Traps text) (Some (actor_end.Traps text)) (paid c shows light) refl
      ends_belong r end (Suspended c call stack shows leaves stops) whole light =
          plainly c shows (configuration.Suspends call (nodes_around 0 c.stack)) (core_actor.effects M coding program g world (actor.Awaits call (record { results = results; waiting = record { stack = stack; nodes = nodes } }))) (paid c shows light)
          (left_belongs c leaves (actor.Awaits call (record { nodes = nodes_around 0 c.stack; results = results; focus = c.focus; stack = c.stack })) (actor.Awaits call (record { results = results; waiting = record { stack = stack; nodes = nodes } })) (
            refl,
            record {
              results = refl;
              nodes = sym stops.bodies;
              labels = stops.l;
              held = stops.less;
              around = subst (λ n. StackBelongs program.groups known' context.globals n true stops.l stops.less c.stack stack) (sym stops.bodies) stops.around;
              future = stops.future;
              focus = stops.focus;
            },
          ) (λ i. absurd cc))
      ends_belong r end (Asleep c stack shows leaves) whole light = plainly c shows configuration.Sleeps (core_actor.effects M coding program g world actor.AwaitsNothing) (paid c shows light) (left_belongs c leaves actor.AwaitsNothing actor.AwaitsNothing tt (λ i. absurd cc))

      -- ---- where the execution has an end, the run has one

      abbrev Has : Progress (Effects (core_language core_machine.Waiting K)) → Type 0
      Has p = (other : Completion (Effects (core_language core_machine.Waiting K))) × (p.completion ≡ Some other)

      leaves_so : actor.Ending (core_language core_machine.Waiting K) → Completion (Effects (core_language core_machine.Waiting K))
      leaves_so h = actor_end.Completes (record { store = record { cells = world.store; groups = world.groups; names = g.names }; calls = map (core_actor.call_of M coding program) world.requests; ending = h })

      replies_some : (c : Configuration) (vs : List Value) (us : List core_value.Value) (o : Option Bytes) (last : Completion (Effects machine)) → (shared_progress f results (replies s vs o c)).completion ≡ Some last → Has (core_actor.replied M coding program g results w d prints world us o)
      unfolding leaves_so
      replies_some c vs us None last e = absurd (let z : None ≡ Some last = e in cc)
      replies_some c vs us (Some bytes) last e = by (nat_lt most_bytes (length bytes))
        where
          by : (long : Bool) → Has (core_actor.progress w d prints (core_calls.message_cost us bytes) (cond long (Some (actor_end.Traps core_calls.too_long)) (core_actor.effects M coding program g world (actor.Answers (actor.Replies bytes)))))
          by true = (actor_end.Traps core_calls.too_long, refl)
          by false = (leaves_so (actor.Answers (actor.Replies bytes)), refl)

      rejects_some : (c : Configuration) (error : Value) (u : core_value.Value) → Belongs known' error u → (last : Completion (Effects machine)) → (X (rejects c error)).completion ≡ Some last → Has (core_actor.rejected M coding program g results w d prints world (message_in u))
      unfolding leaves_so
      rejects_some c (Made (Error code text) NoValue) (shape.Made i NoShape) value last e =
          subst (λ h. Has (core_actor.rejected M coding program g results w d prints world (message_in {F = Handle} (shape.Made h NoShape)))) (value.0) (by (nat_lt most_bytes (length text)))
        where
          by : (long : Bool) → Has (core_actor.progress w d prints (weighing (length text)) (cond long (Some (actor_end.Traps core_calls.too_long)) (core_actor.effects M coding program g world (actor.Answers (actor.Rejects 4 text)))))
          by true = (actor_end.Traps core_calls.too_long, refl)
          by false = (leaves_so (actor.Answers (actor.Rejects 4 text)), refl)
      rejects_some c (Made (Error code text) NoValue) (shape.Made i (AShape x xs)) value last e = absurd (value.1)
      rejects_some c (Made (Error code text) NoValue) (shape.Function h) value last e = absurd value
      rejects_some c error u value last e = absurd (let z : None ≡ Some last = e in cc)

      pub ends_some : (r : Run) (end : End core_machine.Waiting) → Finish program context nodes known' w d prints world r end → (last : Completion (Effects machine)) → (X r).completion ≡ Some last → Has (Y (Over w d prints world end))
      unfolding leaves_so
      ends_some r end (Returned c v u shows leaves value) last e =
          subst (λ o. Has (core_actor.replied M coding program g results w d prints world (core_actor.unpacked results u) o)) (sym (same.bytes known' results (unpacked results v) (core_actor.unpacked results u) (unpacked_belong known' results v u value)))
          (replies_some c (unpacked results v) (core_actor.unpacked results u) (message s results (unpacked results v)) last e)
      ends_some r end (Thrown c error u shows leaves value) last e = rejects_some c error u value last e
      ends_some r end (Trapped c text shows) last e = (actor_end.Traps text, refl)
      ends_some r end (Suspended c call stack shows leaves stops) last e = (leaves_so (actor.Awaits call (record { results = results; waiting = record { stack = stack; nodes = nodes } })), refl)
      ends_some r end (Asleep c stack shows leaves) last e = (leaves_so actor.AwaitsNothing, refl)
