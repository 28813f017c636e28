-- Turns of an execution that begins at a typed expression: it goes on, or ends as its types say.
use Rattle.std.proofs.Common.{◌≡◌, ℕ, zero, suc, ◌+◌, ◌<◌, ◌^◌, List, [], ◌∷◌, ◌++◌, length, length-append, map, Bool, true, false, cond, nat_eq, nat_lt, Option, Some, None, refl, sym, ap, ◌∙◌, subst, append_assoc, true≢false, arith, eq-eqb, eqb-true, ltb-true}
use Rattle.std.specs.Prelude.{◌&&◌, codes}
use Rattle.std.specs.Str.{is_utf8, IsAscii}
use Rattle.std.proofs.lemmas.Str.{IsUtf8-from_ascii, is_utf8-from_IsUtf8}
use Rattle.std.proofs.lemmas.Str.Ascii.{IsAscii-nil}
use Rattle.mo_types.specs.declared.node.TypeId.{TypeId}
use Rattle.mo_types.specs.Calls.{State, Open, Answered, Lost, CallTable, call_at, next_number}
use Rattle.mo_types.specs.Graph.{head_at}
use Rattle.mo_types.specs.Sub.{AtSome, Each}
use Rattle.mo_values.specs.Costs.{Cost, weighing}
use Rattle.mo_values.specs.Shapes.{Bytes, Error, Future}
use Rattle.mo_actor.specs.Completions.{open_call}
use Rattle.mo_actor.specs.Programs.{Replies, Rejects}
use Rattle.typed_tree.specs.ActionTypes.{ResultOf}
use Rattle.typed_tree.specs.Language.{Value, Exp, Made, NoValue, Val}
use Rattle.typed_tree.specs.Wants.{Of, Below}
use Rattle.mo_meaning.specs.Acts.{Store, Request, Given, Gets, Fails, Act, Goes, Prints, Asks, Awaits, Leaves, Throws}
use Rattle.mo_meaning.specs.Acts as act
use Rattle.mo_meaning.specs.Configurations.{Configuration, End, Returns, Responds, Suspends, Sleeps, Traps, Breaks, Run, Still, Ended, Surroundings, weighed, moved, open_now, next_call, state_now, with_call}
use Rattle.mo_meaning.specs.Kernel.{kernel, Outgoing}
use Rattle.mo_meaning.specs.Messages.{message_cost, unpacked}
use Rattle.mo_meaning.specs.Places.{value_or}
use Rattle.mo_meaning.specs.Reduce.{reduce}
use Rattle.mo_meaning.specs.Turns.{most_calls, most_bytes, too_long, refused, if_short, rejects, call_cost, call_of, resume_name, resume_call, message, given_turn, give, if_room, send, resumes, awaits, turn, turns, turns_given, then_turns, replies, as_reply}
use Rattle.mo_soundness.specs.Answered.{IsAsking, IsAnswered}
use Rattle.mo_soundness.specs.Keeps.{IsLonger, IsNoValue, IsRequest, KnowsMore, Suits}
use Rattle.mo_soundness.specs.Lawful.{IsLawful}
use Rattle.mo_soundness.specs.Running.{AnswerTypes, IsErrorValue}
use Rattle.mo_soundness.proofs.Answered.{answers as told}
use Rattle.mo_soundness.proofs.Elsewhere.{waits_there}
use Rattle.mo_soundness.proofs.More.{longer_self, knows_self, has_grow, store_grow}
use Rattle.program_soundness.specs.Agreement.{WaitsOn, GivenFits, StateFits, GivesAnswer, Agrees, awaited_by}
use Rattle.program_soundness.specs.Results.{AreResults}
use Rattle.program_soundness.specs.Runs.{ReturnsOrTraps, Fitting, Grows, Further, KeepsFit, Begins, IsKept, table_now, IsTypedState, Stands, EndFits, EndsFit, RunFits}
use Rattle.program_soundness.proofs.Messages.{first_shareable, last_shareable, result_below, results_unpacked, message_there}
use Rattle.program_soundness.proofs.Tables.{Entry, in_range, found_before, found_last, state_found}
use Rattle.program_soundness.specs.Worlds.{running, IsCarried}
use Rattle.mo_soundness.specs.Worlds.{World}
use Rattle.typed_tree.specs.Types.{AreLawful}

-- ---- a text of ASCII is UTF-8

abbrev all_small : List ℕ → Bool
all_small [] = true
all_small (b ∷ bs) = nat_lt b 128 && all_small bs

ascii : (bs : List ℕ) → all_small bs ≡ true → IsAscii bs
ascii [] h i = IsAscii-nil i
ascii (b ∷ bs) h zero = by (nat_lt b 128) refl h
  where
    by : (t : Bool) → nat_lt b 128 ≡ t → (t && all_small bs) ≡ true → b < 128
    by true e k = ltb-true b 128 e
    by false e k = absurd (true≢false (sym k))
ascii (b ∷ bs) h (suc i) = ascii bs (rest (nat_lt b 128) h) i
  where
    rest : (t : Bool) → (t && all_small bs) ≡ true → all_small bs ≡ true
    rest true k = k
    rest false k = absurd (true≢false (sym k))

-- ---- more answers and cells

pub longer_through : (a b c : List TypeId) → IsLonger a b → IsLonger b c → IsLonger a c
longer_through a b c p q = (p.0 ++ q.0, q.1 ∙ ap (λ x. x ++ q.0) p.1 ∙ append_assoc a p.0 q.0)

knows_through : (a b c : AnswerTypes) → KnowsMore a b → KnowsMore b c → KnowsMore a c
knows_through a b c p q = (λ n t e. q.0 n t (p.0 n t e), λ e. q.1 (p.1 e))

pub grows_self : (a : AnswerTypes) → Grows a a
grows_self a = (knows_self a, λ e. refl)

pub grows_through : (a b c : AnswerTypes) → Grows a b → Grows b c → Grows a c
grows_through a b c p q = (knows_through a b c p.0 q.0, λ e. q.1 (ap (λ (x : AnswerTypes). x.may_call) (p.1 e) ∙ e) ∙ p.1 e)

pub at_once : (answers : AnswerTypes) (kinds : List TypeId) (p : AnswerTypes → List TypeId → Type 0) → p answers kinds → Further answers kinds p
at_once answers kinds p h = (answers, kinds, grows_self answers, longer_self kinds, h)

pub further_on : (answers more : AnswerTypes) (kinds longer : List TypeId) (p : AnswerTypes → List TypeId → Type 0) → Grows answers more → IsLonger kinds longer → Further more longer p → Further answers kinds p
further_on answers more kinds longer p k l h = (h.0, h.1, grows_through answers more h.0 k h.2, longer_through kinds longer h.1 l h.3, h.4)

-- ---- what is known of calls

module _ (world : World) where
  given_grow : (answers more : AnswerTypes) (kinds longer : List TypeId) → KnowsMore answers more → IsLonger kinds longer → (t : TypeId) (g : Given) → GivenFits world answers kinds t g → GivenFits world more longer t g
  given_grow answers more kinds longer k l t (Gets v) h = has_grow world answers more k kinds longer l v (Of t) h
  given_grow answers more kinds longer k l t (Fails e) h = h

  state_grow : (answers more : AnswerTypes) (kinds longer : List TypeId) → KnowsMore answers more → IsLonger kinds longer → (t : TypeId) (s : State Given) → StateFits world answers kinds t s → StateFits world more longer t s
  state_grow answers more kinds longer k l t (Answered (Some g)) h = given_grow answers more kinds longer k l t g h
  state_grow answers more kinds longer k l t (Answered None) h = tt
  state_grow answers more kinds longer k l t Open h = tt
  state_grow answers more kinds longer k l t Lost h = tt

  pub gives_grow : (answers more : AnswerTypes) (kinds longer : List TypeId) → KnowsMore answers more → IsLonger kinds longer → (table : CallTable (List TypeId) Given) (n : ℕ) (t : TypeId)
      → GivesAnswer world answers kinds table n t → GivesAnswer world more longer table n t
  gives_grow answers more kinds longer k l table n t g =
      record { call = g.call; is = g.is; result = g.result; shareable = g.shareable; own = g.own; state = state_grow answers more kinds longer k l t g.call.state g.state }

  pub agrees_grow : (answers : AnswerTypes) (kinds longer : List TypeId) → IsLonger kinds longer → (table : CallTable (List TypeId) Given) → Agrees world answers kinds table → Agrees world answers longer table
  agrees_grow answers kinds longer l table h n t e = gives_grow answers answers kinds longer (knows_self answers) l table n t (h n t e)

-- ---- a call that is added

-- the answers with one more
abbrev with_answer : ℕ → TypeId → AnswerTypes → AnswerTypes
with_answer number t answers = record { types = λ n. cond (nat_eq n number) (Some t) (answers.types n); may_call = answers.may_call }

module _ (s : Surroundings) where
  map_added : (calls : List Outgoing) (call : Outgoing) → map (open_call {L = kernel} 0) (calls ++ call ∷ []) ≡ map (open_call {L = kernel} 0) calls ++ open_call {L = kernel} 0 call ∷ []
  map_added [] call = refl
  map_added (c ∷ calls) call = ap (λ (cs : List Entry). open_call {L = kernel} 0 c ∷ cs) (map_added calls call)

  more_calls : (c : Configuration) (call : Outgoing)
      → s.table.calls ++ map (open_call {L = kernel} 0) (c.calls ++ call ∷ []) ≡ (s.table.calls ++ map (open_call {L = kernel} 0) c.calls) ++ open_call {L = kernel} 0 call ∷ []
  more_calls c call =
      ap (λ (cs : List Entry). s.table.calls ++ cs) (map_added c.calls call) ∙ sym (append_assoc s.table.calls (map (open_call {L = kernel} 0) c.calls) (open_call {L = kernel} 0 call ∷ []))

  -- the table, with a call more
  added_table : (c : Configuration) (call : Outgoing) (n : ℕ) (e : Entry) → call_at (table_now s c) n ≡ Some e → call_at (table_now s (with_call call c)) n ≡ Some e
  added_table c call n e h =
      ap (λ (cs : List Entry). call_at (record { first = s.table.first; calls = cs }) n) (more_calls c call)
      ∙ found_before s.table.first (s.table.calls ++ map (open_call {L = kernel} 0) c.calls) (open_call {L = kernel} 0 call ∷ []) n e h

  length_mapped : (calls : List Outgoing) → length (map (open_call {L = kernel} 0) calls) ≡ length calls
  length_mapped [] = refl
  length_mapped (c ∷ calls) = ap suc (length_mapped calls)

  length_now : (c : Configuration) → next_call s c ≡ s.table.first + length (s.table.calls ++ map (open_call {L = kernel} 0) c.calls)
  length_now c = omega (arith, length-append s.table.calls (map (open_call {L = kernel} 0) c.calls), length_mapped c.calls)

  -- the call that is added has the next number
  added_last : (c : Configuration) (call : Outgoing) → call_at (table_now s (with_call call c)) (next_call s c) ≡ Some (open_call {L = kernel} 0 call)
  added_last c call =
      ap (λ (cs : List Entry). call_at (record { first = s.table.first; calls = cs }) (next_call s c)) (more_calls c call)
      ∙ found_last s.table.first (s.table.calls ++ map (open_call {L = kernel} 0) c.calls) (open_call {L = kernel} 0 call) (next_call s c) (length_now c)

  module _ (answers : AnswerTypes) (kinds : List TypeId) where
    -- an answer that is known is that of an earlier call
    earlier : (c : Configuration) (n : ℕ) (t : TypeId) → Agrees (running s.types) answers kinds (table_now s c) → answers.types n ≡ Some t → n < next_call s c
    earlier c n t a e =
        let g = a n t e in
        let r = in_range s.table.first (s.table.calls ++ map (open_call {L = kernel} 0) c.calls) n g.call g.is in
        omega (arith, r.1, length_now c)

    known_next : (c : Configuration) (u : TypeId) → Agrees (running s.types) answers kinds (table_now s c) → (n : ℕ) (t : TypeId) → answers.types n ≡ Some t → (with_answer (next_call s c) u answers).types n ≡ Some t
    known_next c u a n t e = by (nat_eq n (next_call s c)) refl
      where
        by : (b : Bool) → nat_eq n (next_call s c) ≡ b → cond b (Some u) (answers.types n) ≡ Some t
        by true q = absurd (let same : n ≡ next_call s c = eqb-true n (next_call s c) q in let less : n < next_call s c = earlier c n t a e in omega (arith, same, less))
        by false q = e

    knows_next : (c : Configuration) (u : TypeId) → Agrees (running s.types) answers kinds (table_now s c) → KnowsMore answers (with_answer (next_call s c) u answers)
    knows_next c u a = (λ n t e. known_next c u a n t e, λ e. e)

    -- a call of `__resume` has no future that is waited on
    agrees_resumed : (c : Configuration) (call : Outgoing) → Agrees (running s.types) answers kinds (table_now s c) → Agrees (running s.types) answers kinds (table_now s (with_call call c))
    agrees_resumed c call a n t e =
        let g = a n t e in
        record { call = g.call; is = added_table c call n g.call g.is; result = g.result; shareable = g.shareable; own = g.own; state = g.state }

    agrees_sent : (c : Configuration) (q : Request) (bytes : Bytes) (u : TypeId) → Agrees (running s.types) answers kinds (table_now s c) → ResultOf (running s.types).head q.results u → Each (IsCarried s.types) q.results
        → Agrees (running s.types) (with_answer (next_call s c) u answers) kinds (table_now s (with_call (call_of q bytes) c))
    agrees_sent c q bytes u a r sh n t e = by (nat_eq n (next_call s c)) refl e
      where
        by : (b : Bool) → nat_eq n (next_call s c) ≡ b → cond b (Some u) (answers.types n) ≡ Some t → GivesAnswer (running s.types) (with_answer (next_call s c) u answers) kinds (table_now s (with_call (call_of q bytes) c)) n t
        by true p k =
            let same : u ≡ t = cc in
            record {
              call = open_call {L = kernel} 0 (call_of q bytes);
              is = subst (λ (m : ℕ). call_at (table_now s (with_call (call_of q bytes) c)) m ≡ Some (open_call {L = kernel} 0 (call_of q bytes))) (sym (eqb-true n (next_call s c) p)) (added_last c (call_of q bytes));
              result = subst (ResultOf (running s.types).head q.results) same r;
              shareable = sh;
              own = refl;
              state = tt;
            }
        by false p k =
            gives_grow (running s.types) answers (with_answer (next_call s c) u answers) kinds kinds (knows_next c u a) (longer_self kinds) (table_now s (with_call (call_of q bytes) c)) n t
            (agrees_resumed c (call_of q bytes) a n t k)

-- ---- one turn

module _ (s : Surroundings) (lawful : IsLawful (running s.types).head) (shared : AreLawful s.types) (P : Fitting Exp) (Q : Fitting Value) (kept : IsKept (running s.types) P Q) where
  abbrev Fits : AnswerTypes → List TypeId → Run → Type 0
  Fits = RunFits s P Q

  abbrev St : Configuration → AnswerTypes → List TypeId → Type 0
  St = Stands s P Q

  pub run_later : (answers more : AnswerTypes) (kinds longer : List TypeId) → Grows answers more → IsLonger kinds longer → (r : Run) → Fits more longer r → Fits answers kinds r
  run_later answers more kinds longer k l (Still c) h = further_on answers more kinds longer (St c) k l h
  run_later answers more kinds longer k l (Ended c end) h = further_on answers more kinds longer (EndFits s P Q c end) k l h

  short_or : (bytes : Bytes) (c : Configuration) (r : Run) (answers : AnswerTypes) (kinds : List TypeId) → Fits answers kinds r → Fits answers kinds (if_short bytes c r)
  short_or bytes c r answers kinds h = by (nat_lt most_bytes (length bytes))
    where
      by : (b : Bool) → Fits answers kinds (cond b (Ended c (Traps too_long)) r)
      by true = at_once answers kinds (EndFits s P Q c (Traps too_long)) tt
      by false = h

  rejects_fit : (c : Configuration) (v : Value) (answers : AnswerTypes) (kinds : List TypeId) → IsTypedState s answers kinds c → IsErrorValue v × (answers.may_call ≡ true) → Fits answers kinds (rejects c v)
  rejects_fit c (Made (Error k text) NoValue) answers kinds h e = short_or text (weighed (weighing (length text)) c) (Ended (weighed (weighing (length text)) c) (Responds (Rejects 4 text))) answers kinds (at_once answers kinds (EndFits s P Q (weighed (weighing (length text)) c) (Responds (Rejects 4 text))) (h, e.1))
  rejects_fit c v answers kinds h e = absurd e.0

  abbrev asked : Configuration → Act
  asked c = reduce (head_at s.types) None c.store c.at

  goes_fit : (c : Configuration) (cost : Cost) (store : Store) (e : Exp) (answers : AnswerTypes) (kinds : List TypeId) → IsTypedState s answers kinds c
      → KeepsFit (running s.types) P answers kinds (Goes cost store e) → Fits answers kinds (Still (moved cost store e c))
  goes_fit c cost store e answers kinds h k =
      (answers, k.0, grows_self answers, k.1, ((k.2, λ m. agrees_grow (running s.types) answers kinds k.0 k.1 (table_now s c) (h.1 m), h.2), k.3))

  given_fits : (c : Configuration) (a : Act) (answers : AnswerTypes) (kinds : List TypeId) → IsTypedState s answers kinds c → IsAnswered a → KeepsFit (running s.types) P answers kinds a → Fits answers kinds (given_turn s c a)
  given_fits c (Goes cost store e) answers kinds h i k = goes_fit c cost store e answers kinds h k
  given_fits c (Throws cost error) answers kinds h i k = rejects_fit (weighed cost c) error answers kinds h k
  given_fits c (act.Traps cost text) answers kinds h i k = at_once answers kinds (EndFits s P Q (weighed cost c) (Traps text)) tt
  given_fits c a answers kinds h i k = absurd i

  not_value : (c : Configuration) → IsAsking (asked c) → IsNoValue c.at
  not_value c h = by c.at h
    where
      by : (e : Exp) → IsAsking (reduce (head_at s.types) None c.store e) → IsNoValue e
      by (Val v) k = absurd k
      by e k = tt

  -- what asks is given its part
  pub give_fits : (g : Given) (c : Configuration) (answers : AnswerTypes) (kinds : List TypeId) → St c answers kinds → IsAsking (asked c) → Suits (running s.types) answers kinds (Some g) (asked c) → Fits answers kinds (give s g c)
  give_fits g c answers kinds h i suits =
      given_fits c (reduce (head_at s.types) (Some g) c.store c.at) answers kinds h.0 (told (head_at s.types) g c.store c.at i)
      (kept.keeps answers kinds (Some g) c.store c.at (not_value c i) h.0.0 h.1 suits)

  small : 2 < 2 ^ 32
  small = omega arith

  spelled : is_utf8 (codes "call refused") ≡ true
  spelled = is_utf8-from_IsUtf8 (codes "call refused") (IsUtf8-from_ascii (codes "call refused") (ascii (codes "call refused") refl))

  refused_suits : (a : Act) (answers : AnswerTypes) (kinds : List TypeId) → Suits (running s.types) answers kinds (Some (Fails refused)) a
  refused_suits (Asks r) answers kinds = (small, spelled)
  refused_suits (Awaits n c) answers kinds = (small, spelled)
  refused_suits (Goes cost store e) answers kinds = tt
  refused_suits (Prints cost text e) answers kinds = tt
  refused_suits (Leaves l v) answers kinds = tt
  refused_suits (Throws cost v) answers kinds = tt
  refused_suits (act.Traps cost text) answers kinds = tt
  refused_suits act.Stuck answers kinds = tt

  room_or : (c : Configuration) (r : Run) (answers : AnswerTypes) (kinds : List TypeId) → St c answers kinds → IsAsking (asked c) → Fits answers kinds r → Fits answers kinds (if_room s c r)
  room_or c r answers kinds h i k = by (nat_lt (open_now s c) most_calls)
    where
      by : (b : Bool) → Fits answers kinds (cond b r (give s (Fails refused) c))
      by true = k
      by false = give_fits (Fails refused) c answers kinds h i (refused_suits (asked c) answers kinds)

  -- ---- calls

  -- the execution behind a call that was sent
  abbrev sent : Request → Bytes → Configuration → Configuration
  sent q bytes c = with_call (call_of q bytes) (weighed (call_cost q.callee q.method q.arguments bytes) c)

  abbrev future : Configuration → Given
  future c = Gets (Made (Future (next_call s c)) NoValue)

  -- what is known behind it
  abbrev later : Configuration → TypeId → AnswerTypes → AnswerTypes
  later c u answers = with_answer (next_call s c) u answers

  next_answered : (c : Configuration) (u : TypeId) (answers : AnswerTypes) → (later c u answers).types (next_call s c) ≡ Some u
  next_answered c u answers = ap (λ b. cond b (Some u) (answers.types (next_call s c))) (eq-eqb (next_call s c) (next_call s c) refl)

  future_suits : (c : Configuration) (q : Request) (u : TypeId) (answers : AnswerTypes) (kinds : List TypeId) → ResultOf (running s.types).head q.results u → Suits (running s.types) (later c u answers) kinds (Some (future c)) (Asks q)
  future_suits c q u answers kinds h r i = subst (λ o. AtSome o (λ k. Below (running s.types).head k r)) (sym (next_answered c u answers)) (result_below (running s.types).head lawful q.results u r h i)

  sent_stands : (q : Request) (bytes : Bytes) (c : Configuration) (u : TypeId) (answers : AnswerTypes) (kinds : List TypeId) → St c answers kinds → answers.may_call ≡ true → ResultOf (running s.types).head q.results u → Each (IsCarried s.types) q.results
      → St (sent q bytes c) (later c u answers) kinds
  sent_stands q bytes c u answers kinds h may r sh =
      let paid = weighed (call_cost q.callee q.method q.arguments bytes) c in
      let knows = knows_next s answers kinds c u (h.0.1 may) in (
        (store_grow (running s.types) answers (later c u answers) knows kinds kinds (longer_self kinds) c.store kinds h.0.0, λ m. agrees_sent s answers kinds paid q bytes u (h.0.1 may) r sh, λ e. absurd (true≢false (sym may ∙ e))),
        kept.grows answers (later c u answers) kinds kinds c.at knows (longer_self kinds) h.1,
      )

  gone_fits : (q : Request) (bytes : Bytes) (c : Configuration) (u : TypeId) (answers : AnswerTypes) (kinds : List TypeId) → St c answers kinds → asked c ≡ Asks q → answers.may_call ≡ true → ResultOf (running s.types).head q.results u → Each (IsCarried s.types) q.results
      → Fits answers kinds (give s (future c) (sent q bytes c))
  gone_fits q bytes c u answers kinds h e may r sh =
      run_later answers (later c u answers) kinds kinds (knows_next s answers kinds c u (h.0.1 may), λ active. absurd (true≢false (sym may ∙ active))) (longer_self kinds) (give s (future c) (sent q bytes c))
      (give_fits (future c) (sent q bytes c) (later c u answers) kinds (sent_stands q bytes c u answers kinds h may r sh) (subst IsAsking (sym e) tt)
      (subst (λ a. Suits (running s.types) (later c u answers) kinds (Some (future c)) a) (sym e) (future_suits c q u answers kinds r)))

  send_fits : (q : Request) (c : Configuration) (answers : AnswerTypes) (kinds : List TypeId) → St c answers kinds → asked c ≡ Asks q → IsRequest (running s.types) answers kinds q → Fits answers kinds (send s q (message s q.parameters q.arguments) c)
  send_fits q c answers kinds h e i =
      let m = message_there s.coding s.types shared answers kinds q.parameters q.arguments (first_shareable (IsCarried s.types) q.parameters q.results i.8) i.6 in
      subst (λ o. Fits answers kinds (send s q o c)) (sym m.1)
      (short_or m.0 (weighed (message_cost q.arguments m.0) c) (give s (future c) (sent q m.0 c)) answers kinds (gone_fits q m.0 c i.1 answers kinds h e i.7 i.5 (last_shareable (IsCarried s.types) q.parameters q.results i.8)))

  -- ---- waits

  waits_on : (c : Configuration) (nodes call : ℕ) → asked c ≡ Awaits nodes call → WaitsOn (running s.types) call c.at
  waits_on c nodes call e = (nodes, λ store. waits_there c.store store (head_at s.types) c.at nodes call e)

  resumes_fit : (nodes call : ℕ) (c : Configuration) (answers : AnswerTypes) (kinds : List TypeId) → answers.may_call ≡ true → St c answers kinds → asked c ≡ Awaits nodes call → Fits answers kinds (resumes s nodes call (message s [] []) c)
  resumes_fit nodes call c answers kinds may h e =
      let m = message_there s.coding s.types shared answers kinds [] [] tt tt in
      subst (λ o. Fits answers kinds (resumes s nodes call o c)) (sym m.1)
      (at_once answers kinds (EndFits s P Q (with_call (resume_call s call m.0) (weighed (weighing (1 + nodes + (call_cost s.own resume_name [] m.0).weight)) c)) (Suspends (next_call s c) nodes)) (
        ((h.0.0, λ y. agrees_resumed s answers kinds (weighed (weighing (1 + nodes + (call_cost s.own resume_name [] m.0).weight)) c) (resume_call s call m.0) (h.0.1 y), λ y. absurd (true≢false (sym may ∙ y))), h.1),
        (open_call {L = kernel} 0 (resume_call s call m.0), added_last s (weighed (weighing (1 + nodes + (call_cost s.own resume_name [] m.0).weight)) c) (resume_call s call m.0), waits_on c nodes call e),
        may,
      ))

  awaits_fit : (nodes call : ℕ) (c : Configuration) (answers : AnswerTypes) (kinds : List TypeId) (t : TypeId) → St c answers kinds → asked c ≡ Awaits nodes call → answers.types call ≡ Some t → answers.may_call ≡ true → Fits answers kinds (awaits s nodes call (state_now s c call) c)
  awaits_fit nodes call c answers kinds t h e a may =
      let g = h.0.1 may call t a in
      subst (λ o. Fits answers kinds (awaits s nodes call o c)) (sym (state_found s.table.first s.table.calls c.calls call (next_number s.table) (next_call s c) g.call refl refl g.is)) (by g g.call.state)
    where
      asks : IsAsking (asked c)
      asks = subst IsAsking (sym e) tt

      by : GivesAnswer (running s.types) answers kinds (table_now s c) call t → (state : State Given) → Fits answers kinds (awaits s nodes call (Some state) c)
      by g Open = at_once answers kinds (EndFits s P Q (weighed (weighing (1 + nodes)) c) (Suspends call nodes)) (h, (g.call, g.is, subst (λ o. WaitsOn (running s.types) (awaited_by call o) c.at) (sym g.own) (waits_on c nodes call e)), may)
      by g (Answered v) = room_or c (resumes s nodes call (message s [] []) c) answers kinds h asks (resumes_fit nodes call c answers kinds may h e)
      by g Lost = at_once answers kinds (EndFits s P Q (weighed (weighing (1 + nodes)) c) Sleeps) (h.0, may)

  -- ---- turns

  some_answer : (o : Option TypeId) → AtSome o (λ t. Unit {0}) → (t : TypeId) × (o ≡ Some t)
  some_answer None h = absurd h
  some_answer (Some t) h = (t, refl)

  turn_fits : (c : Configuration) (a : Act) (answers : AnswerTypes) (kinds : List TypeId) → St c answers kinds → asked c ≡ a → KeepsFit (running s.types) P answers kinds a → Fits answers kinds (turn s c a)
  turn_fits c (Goes cost store e) answers kinds h q k = goes_fit c cost store e answers kinds h.0 k
  turn_fits c (Prints cost text e) answers kinds h q k = at_once answers kinds (St (record (moved cost c.store e c) { prints = c.prints ++ text ∷ [] })) (h.0, k.1)
  turn_fits c (Asks r) answers kinds h q k = room_or c (send s r (message s r.parameters r.arguments) c) answers kinds h (subst IsAsking (sym q) tt) (send_fits r c answers kinds h q k)
  turn_fits c (Awaits nodes call) answers kinds h q k = let t = some_answer (answers.types call) k.0 in awaits_fit nodes call c answers kinds t.0 h q t.1 k.1
  turn_fits c (Leaves labels v) answers kinds h q k = absurd k
  turn_fits c (Throws cost error) answers kinds h q k = rejects_fit (weighed cost c) error answers kinds h.0 k
  turn_fits c (act.Traps cost text) answers kinds h q k = at_once answers kinds (EndFits s P Q (weighed cost c) (Traps text)) tt
  turn_fits c act.Stuck answers kinds h q k = absurd k

  by_value : (R : Run → Type 0) (e : Exp) (on : Value → Run) (otherwise : Run) → ((v : Value) → e ≡ Val v → R (on v)) → (IsNoValue e → R otherwise) → R (value_or e on otherwise)
  by_value R (Val v) on otherwise p q = p v refl
  by_value R _ on otherwise p q = q tt

  then_fits : (n : ℕ) → ((c : Configuration) (answers : AnswerTypes) (kinds : List TypeId) → St c answers kinds → Fits answers kinds (turns s n c)) → (r : Run) (answers : AnswerTypes) (kinds : List TypeId) → Fits answers kinds r → Fits answers kinds (then_turns s (turns s n) r)
  then_fits n ih (Still c) answers kinds h = run_later answers h.0 kinds h.1 h.2 h.3 (turns s n c) (ih c h.0 h.1 h.4)
  then_fits n ih (Ended c end) answers kinds h = h

  pub turns_fit : (n : ℕ) (c : Configuration) (answers : AnswerTypes) (kinds : List TypeId) → St c answers kinds → Fits answers kinds (turns s n c)
  turns_fit zero c answers kinds h = at_once answers kinds (St c) h
  turns_fit (suc n) c answers kinds h =
      then_fits n (turns_fit n) (value_or c.at (λ v. Ended c (Returns v)) (turn s c (asked c))) answers kinds
      (by_value (Fits answers kinds) c.at (λ v. Ended c (Returns v)) (turn s c (asked c))
      (λ v q. at_once answers kinds (EndFits s P Q c (Returns v)) (h.0, kept.value answers kinds v (subst (P answers kinds) q h.1)))
      (λ active. turn_fits c (asked c) answers kinds h refl (kept.keeps answers kinds None c.store c.at active h.0.0 h.1 tt)))

  -- where the first reduction is given what it waits for
  pub turns_given_fit : (g : Given) (n : ℕ) (c : Configuration) (answers : AnswerTypes) (kinds : List TypeId) → St c answers kinds → IsAsking (asked c) → Suits (running s.types) answers kinds (Some g) (asked c) → Fits answers kinds (turns_given s g n c)
  turns_given_fit g zero c answers kinds h i k = at_once answers kinds (St c) h
  turns_given_fit g (suc n) c answers kinds h i k = then_fits n (turns_fit n) (give s g c) answers kinds (give_fits g c answers kinds h i k)

  -- ---- how it ends

  pub run_ends : (run : Run) (answers : AnswerTypes) (kinds : List TypeId) → Fits answers kinds run → EndsFit s P Q answers kinds run
  run_ends (Still c) answers kinds h = tt
  run_ends (Ended c end) answers kinds h = h

  -- the first reduction is one that is no value and does not ask
  pub begun_ends : (n : ℕ) (c : Configuration) (answers : AnswerTypes) (kinds : List TypeId) → IsTypedState s answers kinds c → IsNoValue c.at → Begins (running s.types) P answers kinds (asked c) → EndsFit s P Q answers kinds (turns s n c)
  begun_ends zero c answers kinds h active b = tt
  begun_ends (suc n) c answers kinds h active b =
      run_ends (turns s (suc n) c) answers kinds
      (then_fits n (turns_fit n) (value_or c.at (λ v. Ended c (Returns v)) (turn s c (asked c))) answers kinds
      (by_value (Fits answers kinds) c.at (λ v. Ended c (Returns v)) (turn s c (asked c)) (λ v q. absurd (subst IsNoValue q active)) (λ k. by (asked c) b)))
    where
      by : (a : Act) → Begins (running s.types) P answers kinds a → Fits answers kinds (turn s c a)
      by (Goes cost store e) k = goes_fit c cost store e answers kinds h k
      by (act.Traps cost text) k = at_once answers kinds (EndFits s P Q (weighed cost c) (Traps text)) tt
      by (Prints cost text e) k = absurd k
      by (Asks r) k = absurd k
      by (Awaits m call) k = absurd k
      by (Leaves l v) k = absurd k
      by (Throws cost v) k = absurd k
      by act.Stuck k = absurd k

-- ---- the value of a shared body is its reply

module _ (s : Surroundings) (shared : AreLawful s.types) (P : Fitting Exp) (results : List TypeId) (sh : Each (IsCarried s.types) results) where
  abbrev Rs : Fitting Value
  Rs = AreResults (running s.types) results

  reply_short : (bytes : Bytes) (c : Configuration) (run : Run) (answers : AnswerTypes) (kinds : List TypeId) → EndsFit s P Rs answers kinds run → EndsFit s P Rs answers kinds (if_short bytes c run)
  reply_short bytes c run answers kinds h = by (nat_lt most_bytes (length bytes))
    where
      by : (b : Bool) → EndsFit s P Rs answers kinds (cond b (Ended c (Traps too_long)) run)
      by true = at_once answers kinds (EndFits s P Rs c (Traps too_long)) tt
      by false = h

  returns_fit : (c : Configuration) (v : Value) (answers : AnswerTypes) (kinds : List TypeId) → answers.may_call ≡ true → EndFits s P Rs c (Returns v) answers kinds → EndsFit s P Rs answers kinds (as_reply s results (Ended c (Returns v)))
  returns_fit c v answers kinds may h =
      let m = message_there s.coding s.types shared answers kinds results (unpacked results v) sh (results_unpacked (running s.types) answers kinds results h.1.0 v h.1.1 h.1.2) in
      subst (λ o. EndsFit s P Rs answers kinds (replies s (unpacked results v) o c)) (sym m.1) (reply_short m.0 (weighed (message_cost (unpacked results v) m.0) c) (Ended (weighed (message_cost (unpacked results v) m.0) c) (Responds (Replies m.0))) answers kinds
      (at_once answers kinds (EndFits s P Rs (weighed (message_cost (unpacked results v) m.0) c) (Responds (Replies m.0))) (h.0, may)))

  ends_later : (answers more : AnswerTypes) (kinds longer : List TypeId) → Grows answers more → IsLonger kinds longer → (run : Run) → EndsFit s P Rs more longer run → EndsFit s P Rs answers kinds run
  ends_later answers more kinds longer k l (Still c) h = tt
  ends_later answers more kinds longer k l (Ended c end) h = further_on answers more kinds longer (EndFits s P Rs c end) k l h

  pub reply_ends : (run : Run) (answers : AnswerTypes) (kinds : List TypeId) → answers.may_call ≡ true → EndsFit s P Rs answers kinds run → EndsFit s P Rs answers kinds (as_reply s results run)
  reply_ends (Still c) answers kinds may h = tt
  reply_ends (Ended c (Returns v)) answers kinds may h = ends_later answers h.0 kinds h.1 h.2 h.3 (as_reply s results (Ended c (Returns v))) (returns_fit c v h.0 h.1 (h.2.0.1 may) h.4)
  reply_ends (Ended c (Responds answer)) answers kinds may h = h
  reply_ends (Ended c (Suspends call nodes)) answers kinds may h = h
  reply_ends (Ended c Sleeps) answers kinds may h = h
  reply_ends (Ended c (Traps text)) answers kinds may h = h
  reply_ends (Ended c Breaks) answers kinds may h = h

-- ---- where no calls may be made

module _ (s : Surroundings) (P : Fitting Exp) (Q : Fitting Value) where
  end_quiet : (c : Configuration) (end : End) (answers : AnswerTypes) (kinds : List TypeId) → answers.may_call ≡ false → EndFits s P Q c end answers kinds → ReturnsOrTraps end
  end_quiet c (Returns v) answers kinds none h = tt
  end_quiet c (Responds answer) answers kinds none h = absurd (true≢false (sym h.1 ∙ none))
  end_quiet c (Suspends number nodes) answers kinds none h = absurd (true≢false (sym h.2 ∙ none))
  end_quiet c Sleeps answers kinds none h = absurd (true≢false (sym h.1 ∙ none))
  end_quiet c (Traps text) answers kinds none h = tt
  end_quiet c Breaks answers kinds none h = absurd h

  pub run_quiet : (run : Run) (c : Configuration) (end : End) (answers : AnswerTypes) (kinds : List TypeId) → answers.may_call ≡ false → EndsFit s P Q answers kinds run → run ≡ Ended c end → ReturnsOrTraps end
  run_quiet run c end answers kinds none h q =
      let e = subst (λ r. EndsFit s P Q answers kinds r) q h in
      end_quiet c end e.0 e.1 (ap (λ (a : AnswerTypes). a.may_call) (e.2.1 none) ∙ none) e.4
