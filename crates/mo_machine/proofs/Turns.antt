-- What a reduction of the machine comes to in an execution is what the language's reduction comes to.
use Rattle.std.proofs.Common.{◌≡◌, ℕ, ◌+◌, ◌*◌, max, Bool, true, false, List, [], ◌∷◌, ◌++◌, length, Option, Some, None, refl, sym, ap, ap₂, ◌∙◌}
use Rattle.std.specs.Prelude.{cond, map, nat_lt}
use Rattle.mo_types.specs.declared.node.TypeId.{TypeId}
use Rattle.mo_types.specs.Calls.{State, Open, Answered, Lost}
use Rattle.mo_types.specs.Graph.{head_at}
use Rattle.mo_values.specs.Costs.{Cost, weighing, sizes, most_levels}
use Rattle.mo_values.specs.Messages.{plain_each}
use Rattle.mo_values.specs.Recoding.{recode, recode_all, recodes}
use Rattle.mo_values.specs.Shapes.{Bytes, Error, Future, Tuple, Shape, AShape, shapes}
use Rattle.mo_actor.specs.Programs.{Rejects, Replies}
use Rattle.typed_tree.specs.Language as language
use Rattle.mo_meaning.specs.Acts.{Given, Gets, Fails}
use Rattle.mo_meaning.specs.Coding.{Types}
use Rattle.mo_meaning.specs.Configurations.{Surroundings}
use Rattle.mo_meaning.specs.Configurations as meaning
use Rattle.mo_meaning.specs.Messages as messages
use Rattle.mo_meaning.specs.Messages.{joined_values, coded}
use Rattle.mo_meaning.specs.Reduce.{reduce}
use Rattle.mo_meaning.specs.Turns as reductions
use Rattle.mo_meaning.specs.Turns.{most_calls, most_bytes, too_long, resume_name, refused}
use Rattle.mo_machine.specs.Values.{Value, Made, NoValue, Code, shapes_list}
use Rattle.mo_machine.specs.Acts.{Store, Request, Act}
use Rattle.mo_machine.specs.Acts as act
use Rattle.mo_machine.specs.Frames.{Stack, Focus}
use Rattle.mo_machine.specs.Reductions.{reduces}
use Rattle.mo_machine.specs.Messages.{plain_values, message_cost, unpacked}
use Rattle.mo_machine.specs.Configurations.{Configuration, End, Returns, Responds, Suspends, Sleeps, Traps, Breaks, Run, Still, Ended, weighed, moved, open_now, next_call, state_now, with_call}
use Rattle.mo_machine.specs.Turns.{if_short, rejects, call_cost, call_of, message, given_turn, give, if_room, send, resume_call, resumes, awaits, turn, replies, as_reply}
use Rattle.mo_machine.specs.Unload.{unload, unload_list, unload_state}
use Rattle.mo_machine.specs.Agrees.{unload_act, unload_request}
use Rattle.mo_machine.specs.Runs.{unload_configuration, unload_end, unload_run}
use Rattle.mo_machine.proofs.Depth.{depth_same}
use Rattle.mo_machine.proofs.Looks.{sizes_same, most_levels_same, plain_each_same}
use Rattle.mo_machine.proofs.Unloaded.{closed, list_closed, list_unloaded}

-- ---- costs and depth

pub weighed_same : (cost : Cost) (c : Configuration) → unload_configuration (weighed cost c) ≡ meaning.weighed cost (unload_configuration c)
weighed_same cost c = ap (λ l. record (unload_configuration c) { weight = c.weight + cost.weight; depth = max c.depth (l + 16 * cost.levels) }) (sym (depth_same c.focus c.stack))

pub moved_same : (cost : Cost) (store : Store) (f : Focus) (k : Stack) (c : Configuration)
    → unload_configuration (moved cost store f k c) ≡ meaning.moved cost (unload_list store) (unload_state f k) (unload_configuration c)
moved_same cost store f k c =
    ap₂ (λ l m. record (unload_configuration c) { weight = c.weight + cost.weight; depth = max (max c.depth (l + 16 * cost.levels)) m; store = unload_list store; at = unload_state f k })
    (sym (depth_same c.focus c.stack)) (sym (depth_same f k))

cond_same : (b : Bool) (x y : Run) (u w : meaning.Run) → unload_run x ≡ u → unload_run y ≡ w → unload_run (cond b x y) ≡ cond b u w
cond_same true x y u w h i = h
cond_same false x y u w h i = i

ended_same : (cost : Cost) (c : Configuration) (end : End) → unload_run (Ended (weighed cost c) end) ≡ meaning.Ended (meaning.weighed cost (unload_configuration c)) (unload_end end)
ended_same cost c end = ap (λ d. meaning.Ended d (unload_end end)) (weighed_same cost c)

-- a message of these bytes, in a configuration that they have been weighed in
short_same : (bytes : Bytes) (cost : Cost) (c : Configuration) (r : Run) (u : meaning.Run) → unload_run r ≡ u
    → unload_run (if_short bytes (weighed cost c) r) ≡ reductions.if_short bytes (meaning.weighed cost (unload_configuration c)) u
short_same bytes cost c r u same = cond_same (nat_lt most_bytes (length bytes)) _ _ _ _ (ended_same cost c (Traps too_long)) same

rejects_same : (c : Configuration) (v : Value) → unload_run (rejects c v) ≡ reductions.rejects (unload_configuration c) (unload v)
rejects_same c (Made (Error k text) NoValue) =
    short_same text (weighing (length text)) c _ _ (ended_same (weighing (length text)) c (Responds (Rejects 4 text)))
rejects_same c _ = refl

thrown_same : (cost : Cost) (c : Configuration) (v : Value) → unload_run (rejects (weighed cost c) v) ≡ reductions.rejects (meaning.weighed cost (unload_configuration c)) (unload v)
thrown_same cost c v = rejects_same (weighed cost c) v ∙ ap (λ d. reductions.rejects d (unload v)) (weighed_same cost c)

-- ---- messages

shapes_closed : (ss : List (Shape Code)) → shapes (recodes closed ss) ≡ recode_all closed (shapes ss)
shapes_closed [] = refl
shapes_closed (s ∷ ss) = ap (AShape (recode closed s)) (shapes_closed ss)

plain_same : (types : Types) (ts : List TypeId) (vs : List Value) → messages.plain_values types ts (unload_list vs) ≡ plain_values types ts vs
plain_same types ts vs =
    let wanted = map (λ t. Some t) ts in
    ap (λ ss. joined_values (plain_each (head_at types) wanted (shapes ss))) (list_closed vs)
    ∙ ap (λ ss. joined_values (plain_each (head_at types) wanted ss)) (shapes_closed (shapes_list vs))
    ∙ ap joined_values (plain_each_same closed (head_at types) wanted (shapes (shapes_list vs)))

message_cost_same : (vs : List Value) (bytes : Bytes) → messages.message_cost (unload_list vs) bytes ≡ message_cost vs bytes
message_cost_same vs bytes =
    ap (λ ss. record { weight = sizes ss + length bytes; levels = most_levels ss }) (list_closed vs)
    ∙ ap₂ (λ n l. record { weight = n + length bytes; levels = l }) (sizes_same closed (shapes_list vs)) (most_levels_same closed (shapes_list vs))

call_cost_same : (callee method : Bytes) (vs : List Value) (bytes : Bytes) → reductions.call_cost callee method (unload_list vs) bytes ≡ call_cost callee method vs bytes
call_cost_same callee method vs bytes = ap (λ m. record { weight = length callee + length method + m.weight; levels = m.levels }) (message_cost_same vs bytes)

module _ (s : Surroundings) where
  message_same : (ts : List TypeId) (vs : List Value) → reductions.message s ts (unload_list vs) ≡ message s ts vs
  message_same ts vs = ap (coded s.coding s.types ts) (plain_same s.types ts vs)

  -- ---- a reduction that is given its part

  given_turn_same : (c : Configuration) (m : Act) → unload_run (given_turn s c m) ≡ reductions.given_turn s (unload_configuration c) (unload_act m)
  given_turn_same c (act.Goes cost store f k) = ap meaning.Still (moved_same cost store f k c)
  given_turn_same c (act.Throws cost error) = thrown_same cost c error
  given_turn_same c (act.Traps cost text) = ended_same cost c (Traps text)
  given_turn_same c (act.Prints cost text f k) = refl
  given_turn_same c (act.Asks request) = refl
  given_turn_same c (act.Awaits nodes call) = refl
  given_turn_same c (act.Leaves labels v) = refl
  given_turn_same c act.Stuck = refl

  -- the machine stands at the reduction of the expression that it stands for
  abbrev pub StandsAt : Configuration → Type 0
  StandsAt c = (g : Option Given) → reduce (head_at s.types) g (unload_list c.store) (unload_state c.focus c.stack) ≡ unload_act (reduces (head_at s.types) g c.store c.focus c.stack)

  pub give_same : (g : Given) (c : Configuration) → StandsAt c → unload_run (give s g c) ≡ reductions.give s g (unload_configuration c)
  give_same g c h = given_turn_same c (reduces (head_at s.types) (Some g) c.store c.focus c.stack) ∙ ap (reductions.given_turn s (unload_configuration c)) (sym (h (Some g)))

  -- ---- calls and waits

  room_same : (c : Configuration) → StandsAt c → (r : Run) (u : meaning.Run) → unload_run r ≡ u → unload_run (if_room s c r) ≡ reductions.if_room s (unload_configuration c) u
  room_same c h r u same = cond_same (nat_lt (open_now s c) most_calls) _ _ _ _ same (give_same (Fails refused) c h)

  send_same : (c : Configuration) → StandsAt c → (r : Request) (o : Option Bytes) → unload_run (send s r o c) ≡ reductions.send s (unload_request r) o (unload_configuration c)
  send_same c h r None = refl
  send_same c h r (Some bytes) =
      let cost = call_cost r.callee r.method r.arguments bytes in
      let future = Gets (language.Made (Future (next_call s c)) language.NoValue) in
      let sent = λ (d : meaning.Configuration). reductions.give s future (meaning.with_call (call_of r bytes) d) in
      let there = unload_configuration c in
      short_same bytes (message_cost r.arguments bytes) c _ _
      (give_same future (with_call (call_of r bytes) (weighed cost c)) h
      ∙ ap sent (weighed_same cost c ∙ ap (λ m. meaning.weighed m there) (sym (call_cost_same r.callee r.method r.arguments bytes))))
      ∙ ap (λ m. reductions.if_short bytes (meaning.weighed m there) (sent (meaning.weighed (reductions.call_cost r.callee r.method (unload_list r.arguments) bytes) there)))
      (sym (message_cost_same r.arguments bytes))

  resumes_same : (nodes future : ℕ) (o : Option Bytes) (c : Configuration) → unload_run (resumes s nodes future o c) ≡ reductions.resumes s nodes future o (unload_configuration c)
  resumes_same nodes future None c = refl
  resumes_same nodes future (Some bytes) c =
      let cost = weighing (1 + nodes + (call_cost s.own resume_name [] bytes).weight) in
      ap (λ d. meaning.Ended (meaning.with_call (resume_call s future bytes) d) (meaning.Suspends (next_call s c) nodes)) (weighed_same cost c)

  awaits_same : (nodes future : ℕ) (o : Option (State Given)) (c : Configuration) → StandsAt c → unload_run (awaits s nodes future o c) ≡ reductions.awaits s nodes future o (unload_configuration c)
  awaits_same nodes future None c h = refl
  awaits_same nodes future (Some Open) c h = ended_same (weighing (1 + nodes)) c (Suspends future nodes)
  awaits_same nodes future (Some (Answered g)) c h = room_same c h _ _ (resumes_same nodes future (message s [] []) c)
  awaits_same nodes future (Some Lost) c h = ended_same (weighing (1 + nodes)) c Sleeps

  pub turn_same : (c : Configuration) → StandsAt c → (m : Act) → unload_run (turn s c m) ≡ reductions.turn s (unload_configuration c) (unload_act m)
  turn_same c h (act.Goes cost store f k) = ap meaning.Still (moved_same cost store f k c)
  turn_same c h (act.Prints cost text f k) = ap (λ d. meaning.Still (record d { prints = c.prints ++ text ∷ [] })) (moved_same cost c.store f k c)
  turn_same c h (act.Asks r) =
      room_same c h _ _ (send_same c h r (message s r.parameters r.arguments) ∙ ap (λ o. reductions.send s (unload_request r) o (unload_configuration c)) (sym (message_same r.parameters r.arguments)))
  turn_same c h (act.Awaits nodes future) = awaits_same nodes future (state_now s c future) c h
  turn_same c h (act.Leaves labels v) = refl
  turn_same c h (act.Throws cost error) = thrown_same cost c error
  turn_same c h (act.Traps cost text) = ended_same cost c (Traps text)
  turn_same c h act.Stuck = refl

  -- ---- replies

  replies_same : (vs : List Value) (o : Option Bytes) (c : Configuration) → unload_run (replies s vs o c) ≡ reductions.replies s (unload_list vs) o (unload_configuration c)
  replies_same vs None c = refl
  replies_same vs (Some bytes) c =
      let there = unload_configuration c in
      short_same bytes (message_cost vs bytes) c _ _ (ended_same (message_cost vs bytes) c (Responds (Replies bytes)))
      ∙ ap (λ m. reductions.if_short bytes (meaning.weighed m there) (meaning.Ended (meaning.weighed m there) (meaning.Responds (Replies bytes)))) (sym (message_cost_same vs bytes))

  unpacked_same : (ts : List TypeId) (v : Value) → messages.unpacked ts (unload v) ≡ unload_list (unpacked ts v)
  unpacked_same [] v = refl
  unpacked_same (t ∷ []) v = refl
  unpacked_same (t ∷ u ∷ ts) (Made Tuple inside) = list_unloaded inside
  unpacked_same (t ∷ u ∷ ts) _ = refl

  value_replies : (ts : List TypeId) (c : Configuration) (v : Value) → unload_run (as_reply s ts (Ended c (Returns v))) ≡ reductions.as_reply s ts (unload_run (Ended c (Returns v)))
  value_replies ts c v =
      let vs = unpacked ts v in
      replies_same vs (message s ts vs) c
      ∙ ap (λ o. reductions.replies s (unload_list vs) o (unload_configuration c)) (sym (message_same ts vs))
      ∙ ap (λ us. reductions.replies s us (reductions.message s ts us) (unload_configuration c)) (sym (unpacked_same ts v))

  pub reply_same : (ts : List TypeId) (r : Run) → unload_run (as_reply s ts r) ≡ reductions.as_reply s ts (unload_run r)
  reply_same ts (Ended c (Returns v)) = value_replies ts c v
  reply_same ts (Ended c (Responds answer)) = refl
  reply_same ts (Ended c (Suspends call nodes)) = refl
  reply_same ts (Ended c Sleeps) = refl
  reply_same ts (Ended c (Traps text)) = refl
  reply_same ts (Ended c Breaks) = refl
  reply_same ts (Still c) = refl
