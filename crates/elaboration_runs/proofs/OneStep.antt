-- One step of an execution, and what comes of it.
use Rattle.std.proofs.Common.{◌≡◌, ℕ, suc, ◌+◌, ◌*◌, ◌≤◌, Bool, true, false, List, [], ◌∷◌, ◌++◌, length, Option, Some, None, refl, sym, ap, ◌∙◌, subst, arith}
use Rattle.std.specs.Prelude.{nat_lt, cond}
use Rattle.mo_types.specs.declared.datum.Datum.TheVariants as part
use Rattle.mo_types.specs.declared.node.Node.{Node}
use Rattle.mo_types.specs.declared.node.TypeId.{TypeId}
use Rattle.mo_types.specs.Calls.{State, Open, Answered, Lost}
use Rattle.mo_types.specs.Graph.{head_at}
use Rattle.mo_values.specs.Costs.{Cost, weighing}
use Rattle.mo_values.specs.Shapes.{Bytes, Leaf, Future}
use Rattle.core_ir.specs.Worlds.{Request, World, Context}
use Rattle.elaboration_steps.proofs.Paths as paths
use Rattle.core_ir.specs.Executions as execution
use Rattle.core_ir.specs.Expressions.{Core}
use Rattle.core_ir.specs.CoreMachine.{Frame, Focus, Waiting}
use Rattle.typed_tree.specs.declared.action.Action.TheVariants as action
use Rattle.typed_tree.specs.Language as language
use Rattle.mo_meaning.specs.Acts.{Given, Gets, Fails}
use Rattle.mo_meaning.specs.Configurations.{Surroundings}
use Rattle.mo_meaning.specs.Kernel.{Outgoing}
use Rattle.mo_meaning.specs.Turns.{most_calls, most_bytes, too_long, refused}
use Rattle.mo_machine.specs.Values.{Value, Made, NoValue, load}
use Rattle.mo_machine.specs.Acts.{Act, Goes, Prints, Asks, Awaits, Throws, Traps, Stuck}
use Rattle.mo_machine.specs.Acts as acts
use Rattle.mo_machine.specs.Configurations as configuration
use Rattle.mo_machine.specs.Messages.{message_cost}
use Rattle.mo_machine.specs.Configurations.{Configuration, Run, Still, Ended, End, weighed, standing, moved, open_now, next_call, state_now, with_call}
use Rattle.mo_machine.specs.Frames as machine
use Rattle.mo_machine.specs.Frames.{Ready}
use Rattle.mo_machine.specs.Jumps.{throw, nodes_around}
use Rattle.mo_machine.specs.Moves.{Move, Moved, Ends, Reduces, move}
use Rattle.mo_machine.specs.Reductions.{reduces}
use Rattle.mo_machine.specs.Turns.{resume_call, message, call_cost, call_of, rejects, given_turn, give, send, resumes, awaits, turn, after, step}
use Rattle.elaboration_values.specs.Belonging.{Known, EachBelongs}
use Rattle.elaboration_steps.specs.Stacks.{WorldBelongs}
use Rattle.elaboration_steps.proofs.Standing.{IsOutside, here_alone}
use Rattle.elaboration_steps.specs.Follows.{start, rank, owed}
use Rattle.elaboration_runs.specs.Together.{Together, GoesOn, IsOver, MoveTurns, ActTurns}
use Rattle.elaboration_runs.specs.Calling.{SameCall, Surrounded, Calls, CallFollows}
use Rattle.elaboration_runs.specs.Waiting.{Accounted, AwaitFollows}
use Rattle.elaboration_runs.specs.Waiting as suspends
use Rattle.elaboration_runs.specs.Whole.{Serves, SameCalls, Reaches}
use Rattle.elaboration_runs.specs.Ending.{Shows, Leaves, Stops, Finish, Returned, Thrown, Trapped, Suspended, Asleep, Finishes}
use Rattle.elaboration_runs.proofs.Calling as calling
use Rattle.elaboration_runs.proofs.Quiet.{Quiet, StandsInside, quiet_inside}
use Rattle.elaboration_runs.proofs.Turning.{turns}
use Rattle.elaboration_runs.proofs.Waiting as waiting

pub many_calls : (cs : List Outgoing) (rs : List Request) → SameCalls cs rs → length rs ≡ length cs
many_calls [] [] h = refl
many_calls [] (r ∷ rs) h = absurd h
many_calls (c ∷ cs) [] h = absurd h
many_calls (c ∷ cs) (r ∷ rs) h = ap (λ n. suc n) (many_calls cs rs (h.1))

pub more_calls : (cs : List Outgoing) (rs : List Request) (c : Outgoing) (r : Request) → SameCalls cs rs → SameCall c r → SameCalls (cs ++ c ∷ []) (rs ++ r ∷ [])
more_calls [] [] c r h same = (same, tt)
more_calls [] (x ∷ rs) c r h same = absurd h
more_calls (d ∷ cs) [] c r h same = absurd h
more_calls (d ∷ cs) (x ∷ rs) c r h same = (h.0, more_calls cs rs c r (h.1) same)

module _ (program : Core) (context : Context) (nodes : ℕ) (s : Surroundings) (head_is : context.head ≡ head_at s.types) (same : Surrounded program context nodes s) (accounted : Accounted program context nodes s)
    (held : ℕ) (known : List Known) (c : Configuration) (w d : ℕ) (prints : List Bytes) (world : World) (f : Focus) (k : List Frame) (t : Together program context nodes held known c w d prints world f k) (calls : SameCalls c.calls world.requests) (serves : Serves c) where
  abbrev There : Configuration → Type 0
  There = Reaches program context nodes known w d prints world f k

  -- by no step only where the rank falls
  abbrev pub R : Configuration → Type 0
  R c' = (r : There c') × (r.steps ≡ 0 → suc (rank c'.focus c'.stack) ≤ rank c.focus c.stack)

  abbrev pub Off : Run → Type 0
  Off = Finishes program context nodes known w d prints world f k

  -- what comes of a step: it goes on, or is over, or breaks
  pub data Outcome : Run → Type 0 where
    IsOn : (c' : Configuration) → R c' → Outcome (Still c')
    IsOff : (r : Run) → Off r → Outcome r
    IsBroken : (c' : Configuration) → Outcome (Ended c' configuration.Breaks)

  abbrev To : Act → Type 0
  To = ActTurns program context nodes (start c.focus c.stack) known w d prints world f k c

  abbrev Over-with : Configuration → execution.End Waiting → Type 0
  Over-with c' end = IsOver program context nodes (start c.focus c.stack) known w d prints world f k c' end

  abbrev F : (w d : ℕ) (prints : List Bytes) (world : World) → Run → execution.End Waiting → Type 0
  F = Finish program context nodes known

  as_many : length world.requests ≡ length c.calls
  as_many = many_calls c.calls world.requests calls

  from : (c' : Configuration) → c'.calls ≡ c.calls → GoesOn program context nodes (start c.focus c.stack) known w d prints world f k c' → R c'
  from c' kept r = (
    record {
      steps = r.steps;
      weight' = r.weight';
      depth' = r.depth';
      prints' = r.prints';
      held' = r.held';
      known' = r.known';
      world' = r.world';
      f' = r.f';
      k' = r.k';
      by = r.by;
      grows = r.grows;
      calls = subst (λ rs. SameCalls c'.calls rs) (sym r.requests) (subst (λ cs. SameCalls cs world.requests) (sym kept) calls);
      together = r.together;
    },
    r.falls,
  )

  -- it is over, with what the run shows then
  off : (c' : Configuration) (end : execution.End Waiting) (r : Run) (u : Over-with c' end) → F u.weight' u.depth' u.prints' u.world' r end → Off r
  off c' end r u finish = record { steps = u.steps; weight' = u.weight'; depth' = u.depth'; prints' = u.prints'; known' = known; world' = u.world'; end = end; by = u.by; grows = ([], paths.nothing_more known); finish = finish }

  shows : (c' : Configuration) (end : execution.End Waiting) (u : Over-with c' end) → Shows program context nodes c' u.weight' u.depth' u.prints'
  shows c' end u = record { prints_are = u.prints_are; light = u.light; shallow = u.shallow }

  leaves : (c' : Configuration) (end : execution.End Waiting) (u : Over-with c' end) → c'.store ≡ c.store → c'.calls ≡ c.calls → WorldBelongs program.groups known context.globals c.store world → Leaves program context nodes known c' u.world'
  leaves c' end u store_is calls_are worlds =
      subst (λ o. Leaves program context nodes known c' o) (sym u.world_is)
      (record { worlds = subst (λ st. WorldBelongs program.groups known context.globals st world) (sym store_is) worlds; calls = subst (λ cs. SameCalls cs world.requests) (sym calls_are) calls })

  traps : (cost : Cost) (text : Bytes) → Over-with (weighed cost c) (execution.Traps text) → Outcome (Ended (weighed cost c) (configuration.Traps text))
  traps cost text u = IsOff (Ended (weighed cost c) (configuration.Traps text)) (off (weighed cost c) (execution.Traps text) _ u (Trapped (weighed cost c) text (shows (weighed cost c) (execution.Traps text) u)))

  throws : (cost : Cost) (error : Value) → To (Throws cost error) → Outcome (rejects (weighed cost c) error)
  throws cost error (v, value, u, worlds) =
      IsOff (rejects (weighed cost c) error)
      (off (weighed cost c) (execution.Rejects v) _ u (Thrown (weighed cost c) error v (shows (weighed cost c) (execution.Rejects v) u) (leaves (weighed cost c) (execution.Rejects v) u refl refl worlds) value))

  by_act : (a : Act) → To a → Quiet a → Outcome (turn s c a)
  by_act (Goes cost store g l) r q = IsOn (moved cost store g l c) (from (moved cost store g l c) refl r)
  by_act (Prints cost text g l) r q = IsOn (record (moved cost c.store g l c) { prints = c.prints ++ text ∷ [] }) (from (record (moved cost c.store g l c) { prints = c.prints ++ text ∷ [] }) refl r)
  by_act (Asks request) r q = absurd q
  by_act (Awaits n call) r q = absurd q
  by_act (acts.Leaves n v) r q = IsBroken c
  by_act (Throws cost error) r q = throws cost error r
  by_act (Traps cost text) r q = traps cost text r
  by_act Stuck r q = IsBroken c

  -- an error that is thrown where something is given
  by_given : (a : Act) → To a → Outcome (given_turn s c a)
  by_given (Goes cost store g l) r = IsOn (moved cost store g l c) (from (moved cost store g l c) refl r)
  by_given (Prints cost text g l) r = IsBroken c
  by_given (Asks request) r = IsBroken c
  by_given (Awaits n call) r = IsBroken c
  by_given (acts.Leaves n v) r = IsBroken c
  by_given (Throws cost error) r = throws cost error r
  by_given (Traps cost text) r = traps cost text r
  by_given Stuck r = IsBroken c

  by_move : (m : Move) (a : Act) → MoveTurns program context nodes (start c.focus c.stack) known w d prints world f k c m → To a → Quiet a → Outcome (after s c (turn s c a) m)
  by_move (Moved g l) a r x q = IsOn (standing g l c) (from (standing g l c) refl r)
  by_move (Ends v) a (u, value, o, worlds) x q =
      IsOff (Ended c (configuration.Returns v)) (off c (execution.Replies u) _ o (Returned c v u (shows c (execution.Replies u) o) (leaves c (execution.Replies u) o refl refl worlds) value))
  by_move Reduces a r x q = by_act a x q

  -- what comes of a focus
  abbrev Comes-to : machine.Focus → Run
  Comes-to g = after s c (turn s c (reduces (head_at s.types) None c.store g c.stack)) (move g c.stack)

  inside : StandsInside context.head c.store c.focus → Outcome (Comes-to c.focus)
  inside h =
      subst (λ (head : TypeId → Node TypeId). Outcome (after s c (turn s c (reduces head None c.store c.focus c.stack)) (move c.focus c.stack))) head_is
      (by_move (move c.focus c.stack) (reduces context.head None c.store c.focus c.stack) (r.0) (r.1) (quiet_inside context.head c.store c.focus c.stack h))
    where
      r : MoveTurns program context nodes (start c.focus c.stack) known w d prints world f k c (move c.focus c.stack) × To (reduces context.head None c.store c.focus c.stack)
      r = turns program context nodes held known c w d prints world f k t (serves.suits known)

  -- ---- calls

  module _ (p name : Bytes) (ps rs : List TypeId) (vs : List Value) (stands : c.focus ≡ Ready (action.Send ps rs) (Made (Leaf (part.Method p name)) NoValue ∷ vs)) where
    abbrev request : acts.Request
    request = record { callee = p; method = name; parameters = ps; results = rs; arguments = vs }

    follows : CallFollows program context nodes s known c w d prints world f k p name ps rs vs
    follows = calling.calls program context nodes s same held known c w d prints world f k t as_many p name ps rs vs stands

    refused_by : nat_lt (open_now s c) most_calls ≡ false → Outcome (give s (Fails refused) c)
    refused_by room =
        subst Outcome (ap (λ g. given_turn s c (reduces (head_at s.types) (Some (Fails refused)) c.store g c.stack)) (sym stands))
        (by_given (throw c.store (weighing 1) (load refused) c.stack) (follows.refuses room (serves.handles known)))

    sent : (bytes : Bytes) (b : Bool) → nat_lt (open_now s c) most_calls ≡ true → message s ps vs ≡ Some bytes → nat_lt most_bytes (length bytes) ≡ b → Outcome (send s request (Some bytes) c)
    sent bytes true room e long =
        subst Outcome
        (ap (λ b. cond b (Ended (weighed (message_cost vs bytes) c) (configuration.Traps too_long)) (give s (Gets (language.Made (Future (next_call s c)) language.NoValue)) (with_call (call_of request bytes) (weighed (call_cost p name vs bytes) c)))) (sym long))
        (traps (message_cost vs bytes) too_long (follows.traps room bytes e long))
    sent bytes false room e short = subst Outcome h2 (IsOn (moved (weighing 1) c.store (machine.Give (Made (Future (next_call s c)) NoValue)) c.stack c2) reached)
      where
        call : Outgoing
        call = call_of request bytes

        c2 : Configuration
        c2 = with_call call (weighed (call_cost p name vs bytes) c)

        h2 : Still (moved (weighing 1) c.store (machine.Give (Made (Future (next_call s c)) NoValue)) c.stack c2) ≡ send s request (Some bytes) c
        h2 = ap (λ g. given_turn s c2 (reduces (head_at s.types) (Some (Gets (language.Made (Future (next_call s c)) language.NoValue))) c.store g c.stack)) (sym stands)
            ∙ ap (λ b. cond b (Ended (weighed (message_cost vs bytes) c) (configuration.Traps too_long)) (give s (Gets (language.Made (Future (next_call s c)) language.NoValue)) c2)) (sym short)

        r : Calls program context nodes s known c w d prints world f k call (moved (weighing 1) c.store (machine.Give (Made (Future (next_call s c)) NoValue)) c.stack c2)
        r = follows.calls room bytes e short

        reached : R (moved (weighing 1) c.store (machine.Give (Made (Future (next_call s c)) NoValue)) c.stack c2)
        reached = (
          record {
            steps = r.steps;
            weight' = r.weight';
            depth' = r.depth';
            prints' = r.prints';
            held' = r.held';
            known' = known;
            world' = r.world';
            f' = r.f';
            k' = r.k';
            by = r.by;
            grows = ([], paths.nothing_more known);
            calls = subst (λ rs. SameCalls (c.calls ++ call ∷ []) rs) (sym r.requests) (more_calls c.calls world.requests call r.request calls r.same);
            together = r.together;
          },
          λ e. absurd (let z : 1 ≤ r.steps = r.some in let y : 1 ≤ 0 = omega (arith, z, e) in (let x : ⊥ = omega (arith, y) in x)),
        )

    with_message : (o : Option Bytes) → nat_lt (open_now s c) most_calls ≡ true → message s ps vs ≡ o → Outcome (send s request o c)
    with_message None room e = IsBroken c
    with_message (Some bytes) room e = sent bytes (nat_lt most_bytes (length bytes)) room e refl

    with_room : (b : Bool) → nat_lt (open_now s c) most_calls ≡ b → Outcome (cond b (send s request (message s ps vs) c) (give s (Fails refused) c))
    with_room true room = with_message (message s ps vs) room refl
    with_room false room = refused_by room

    asks : Outcome (Comes-to (Ready (action.Send ps rs) (Made (Leaf (part.Method p name)) NoValue ∷ vs)))
    asks = with_room (nat_lt (open_now s c) most_calls) refl

  -- ---- awaits

  module _ (call : ℕ) (stands : c.focus ≡ Ready action.Await (Made (Future call) NoValue ∷ [])) where
    follows_await : AwaitFollows program context nodes s known c w d prints world f k call
    follows_await = waiting.awaits program context nodes s same accounted held known c w d prints world f k t as_many call stands

    abbrev Here-waits : Option ℕ → List Request → Configuration → Type 0
    Here-waits = suspends.Suspended program context nodes s known c w d prints world f k

    worlds : WorldBelongs program.groups known context.globals c.store world
    worlds = (here_alone program context nodes world known held c.store c.focus c.stack f k t.stands (subst (λ g. IsOutside g) (sym stands) tt)).0

    seen : (on : Option ℕ) (requests : List Request) (c' : Configuration) (u : Here-waits on requests c') → Shows program context nodes c' u.weight' u.depth' u.prints'
    seen on requests c' u =
        record { prints_are = u.prints_are; light = let z : u.weight' + u.less ≤ 2 * c'.weight + owed c'.stack = u.light in omega (arith, z); shallow = u.shallow }

    left : (c' : Configuration) (requests : List Request) → c'.store ≡ c.store → SameCalls c'.calls requests → Leaves program context nodes known c' (record { store = world.store; groups = world.groups; requests = requests })
    left c' requests store_is called =
        record { worlds = record { cells = subst (λ st. EachBelongs known st world.store) (sym store_is) worlds.cells; groups = worlds.groups }; calls = called }

    stopped : (on : Option ℕ) (requests : List Request) (c' : Configuration) (u : Here-waits on requests c') → c'.focus ≡ c.focus → Stops program context nodes known c' u.stack
    stopped on requests c' u focus_is = record { l = u.l; less = u.less; around = u.around; bodies = u.bodies; future = call; focus = focus_is ∙ stands }

    suspended : (on : ℕ) (requests : List Request) (c' : Configuration) (u : Here-waits (Some on) requests c') → c'.store ≡ c.store → c'.focus ≡ c.focus → SameCalls c'.calls requests → Outcome (Ended c' (configuration.Suspends on (nodes_around 0 c'.stack)))
    suspended on requests c' u store_is focus_is called =
        IsOff (Ended c' (configuration.Suspends on (nodes_around 0 c'.stack)))
        (record {
          steps = u.steps;
          weight' = u.weight';
          depth' = u.depth';
          prints' = u.prints';
          known' = known;
          world' = record { store = world.store; groups = world.groups; requests = requests };
          end = execution.Waits (Some on) (record { stack = u.stack; nodes = nodes });
          by = u.by;
          grows = ([], paths.nothing_more known);
          finish = Suspended c' on u.stack (seen (Some on) requests c' u) (left c' requests store_is called) (stopped (Some on) requests c' u focus_is);
        })

    asleep : (c' : Configuration) (u : Here-waits None world.requests c') → c'.store ≡ c.store → c'.calls ≡ c.calls → Outcome (Ended c' configuration.Sleeps)
    asleep c' u store_is calls_are =
        IsOff (Ended c' configuration.Sleeps)
        (record {
          steps = u.steps;
          weight' = u.weight';
          depth' = u.depth';
          prints' = u.prints';
          known' = known;
          world' = world;
          end = execution.Waits None (record { stack = u.stack; nodes = nodes });
          by = u.by;
          grows = ([], paths.nothing_more known);
          finish = Asleep c' u.stack (seen None world.requests c' u) (left c' world.requests store_is (subst (λ cs. SameCalls cs world.requests) (sym calls_are) calls));
        })

    resumed : (g : Option Given) (o : Option Bytes) → state_now s c call ≡ Some (Answered g) → nat_lt (open_now s c) most_calls ≡ true → message s [] [] ≡ o → Outcome (resumes s (nodes_around 0 c.stack) call o c)
    resumed g None e room is = IsBroken c
    resumed g (Some bytes) e room is =
        let r = follows_await.resumes g e room bytes is in
        suspended (next_call s c) (world.requests ++ r.0 ∷ []) (suspends.resuming program context nodes s known c w d prints world f k call bytes) (r.2) refl refl (more_calls c.calls world.requests (resume_call s call bytes) (r.0) calls (r.1))

    answered : (g : Option Given) (b : Bool) → state_now s c call ≡ Some (Answered g) → nat_lt (open_now s c) most_calls ≡ b → Outcome (cond b (resumes s (nodes_around 0 c.stack) call (message s [] []) c) (give s (Fails refused) c))
    answered g true e room = resumed g (message s [] []) e room refl
    answered g false e room =
        subst Outcome (ap (λ g. given_turn s c (reduces (head_at s.types) (Some (Fails refused)) c.store g c.stack)) (sym stands))
        (by_given (throw c.store (weighing 1) (load refused) c.stack) (follows_await.refuses g e room (serves.handles known)))

    with_state : (o : Option (State Given)) → state_now s c call ≡ o → Outcome (awaits s (nodes_around 0 c.stack) call o c)
    with_state None e = IsBroken c
    with_state (Some Open) e = suspended call world.requests (suspends.waiting program context nodes s known c w d prints world f k) (follows_await.waits e) refl refl calls
    with_state (Some Lost) e = asleep (suspends.waiting program context nodes s known c w d prints world f k) (follows_await.sleeps e) refl refl
    with_state (Some (Answered g)) e = answered g (nat_lt (open_now s c) most_calls) e refl

    awaits_for : Outcome (Comes-to (Ready action.Await (Made (Future call) NoValue ∷ [])))
    awaits_for = with_state (state_now s c call) refl

  -- ---- all

  at_focus : (g : machine.Focus) → c.focus ≡ g → Outcome (Comes-to g)
  at_focus (Ready (action.Send ps rs) []) e = IsBroken c
  at_focus (Ready (action.Send ps rs) (Made (Leaf (part.Method p name)) NoValue ∷ vs)) e = asks p name ps rs vs e
  at_focus (Ready (action.Send ps rs) (v ∷ vs)) e = IsBroken c
  at_focus (Ready action.Await []) e = IsBroken c
  at_focus (Ready action.Await (Made (Future call) NoValue ∷ [])) e = awaits_for call e
  at_focus (Ready action.Await (v ∷ [])) e = IsBroken c
  at_focus (Ready action.Await (v ∷ u ∷ vs)) e = IsBroken c
  at_focus (Ready a vs) e = subst (λ g. Outcome (Comes-to g)) e (inside (subst (λ g. StandsInside context.head c.store g) (sym e) tt))
  at_focus (machine.Eval x env) e = subst (λ g. Outcome (Comes-to g)) e (inside (subst (λ g. StandsInside context.head c.store g) (sym e) tt))
  at_focus (machine.Give v) e = subst (λ g. Outcome (Comes-to g)) e (inside (subst (λ g. StandsInside context.head c.store g) (sym e) tt))

  pub outcome : Outcome (step s c)
  outcome = at_focus c.focus refl

  -- a reduction that traps
  pub traps_off : (cost : Cost) (text : Bytes) → reduces context.head None c.store c.focus c.stack ≡ Traps cost text → (o : Off (Ended (weighed cost c) (configuration.Traps text))) × (o.end ≡ execution.Traps text)
  unfolding off shows
  traps_off cost text e =
      let u : Over-with (weighed cost c) (execution.Traps text) = subst To e ((turns program context nodes held known c w d prints world f k t (serves.suits known)).1) in
      (off (weighed cost c) (execution.Traps text) _ u (Trapped (weighed cost c) text (shows (weighed cost c) (execution.Traps text) u)), refl)
