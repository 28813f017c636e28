-- What a completed execution leaves of a typed actor of the machine is typed.
use Rattle.std.proofs.Common.{◌≡◌, ◌⊎◌, inl, inr, ℕ, zero, suc, ◌+◌, List, [], ◌∷◌, ◌++◌, map, Bool, true, false, true≢false, cond, Option, Some, None, refl, sym, ap, ◌∙◌, subst, slice_set, eq-eqb, eqb-true, append-nil}
use Rattle.std.specs.Prelude.{nat_eq, if◌then◌else◌}
use Rattle.mo_types.specs.declared.node.TypeId.{TypeId}
use Rattle.mo_types.specs.Calls.{State, Answered, Lost, CallTable, call_from, is_open_state, set_state}
use Rattle.mo_types.specs.Graph.{Slot}
use Rattle.mo_actor.specs.CallAnswers.{broken_by, broken, filled}
use Rattle.mo_actor.specs.Completions.{activation_after, committed, open_call}
use Rattle.mo_actor.specs.IncomingCalls.{arrived}
use Rattle.mo_actor.specs.Programs.{OutgoingCall, Effects, Ending, Answers, Awaits, AwaitsNothing, Unchanged}
use Rattle.mo_actor.specs.States.{Activation, IsAnswered, IsDead, Actor, or_answered, activation_at, waiting_on}
use Rattle.mo_actor.proofs.Lists.{get_set_other}
use Rattle.typed_tree.specs.ActionTypes.{ResultOf}
use Rattle.typed_tree.specs.Programs.{Program}
use Rattle.mo_meaning.specs.Acts.{Given}
use Rattle.mo_meaning.specs.Kernel.{kernel, Outgoing}
use Rattle.mo_soundness.specs.Keeps.{IsLonger, KnowsMore}
use Rattle.mo_soundness.specs.Lawful.{IsLawful}
use Rattle.mo_soundness.specs.Running.{AnswerTypes}
use Rattle.mo_soundness.specs.Worlds.{World}
use Rattle.program_soundness.specs.Agreement.{StateFits, Agrees, WaitsOn, awaited_by}
use Rattle.program_soundness.specs.Bodies.{EndingFits, EffectsFit, with_calls}
use Rattle.program_soundness.specs.Worlds.{running}
use Rattle.program_soundness.proofs.Calls.{reowned, set_found, set_open}
use Rattle.program_soundness.proofs.Typed.{results_kept}
use Rattle.mo_machine.specs.ActorLanguage.{machine, Waiting, call_of_meaning, unload_effects, unload_ending, unload_waiting}
use Rattle.elaboration_sound.specs.Typed.{WaitsAs}
use Rattle.elaboration_sound.proofs.Held.{Row, Standings, WaitsIn, Known}

-- ---- calls and activations

-- the table, whoever made the calls
opened_same : (owner : ℕ) (calls : List (OutgoingCall machine)) → map (open_call {L = kernel} owner) (map call_of_meaning calls) ≡ map (open_call {L = machine} owner) calls
opened_same owner [] = refl
opened_same owner (c ∷ calls) = ap (λ r. open_call {L = machine} owner c ∷ r) (opened_same owner calls)

at_other : (acts : Standings) (owner other : ℕ) (x : Activation machine) → (other ≡ owner → ⊥) → activation_at (slice_set acts owner x) other ≡ activation_at acts other
at_other acts owner other x differ = ap or_answered (get_set_other acts owner other x differ)

-- the one that is set, or one that never came
at_set : (acts : Standings) (owner : ℕ) (x : Activation machine) → (activation_at (slice_set acts owner x) owner ≡ x) ⊎ (activation_at (slice_set acts owner x) owner ≡ IsAnswered)
at_set [] owner x = inr refl
at_set (y ∷ acts) zero x = inl refl
at_set (y ∷ acts) (suc owner) x = at_set acts owner x

-- one more, for which nothing waits
at_pushed : (acts : Standings) (number other : ℕ) (w : Waiting) → waiting_on number (activation_at (acts ++ IsDead ∷ []) other) ≡ Some w → waiting_on number (activation_at acts other) ≡ Some w
at_pushed [] number zero w q = absurd (let z : None ≡ Some w = q in cc)
at_pushed [] number (suc other) w q = absurd (let z : None ≡ Some w = q in cc)
at_pushed (x ∷ acts) number zero w q = q
at_pushed (x ∷ acts) number (suc other) w q = at_pushed acts number other w q

-- a call of another owner was made before
made_before : (first : ℕ) (cs : List Row) (calls : List (OutgoingCall machine)) (owner number : ℕ) (c : Row) → (c.owner ≡ owner → ⊥) → call_from first (cs ++ map (open_call {L = machine} owner) calls) number ≡ Some c → call_from first cs number ≡ Some c
made_before first [] [] owner number c other q = absurd (let z : None ≡ Some c = q in cc)
made_before first [] (d ∷ calls) owner number c other q = by (nat_eq first number) q (λ k. made_before (suc first) [] calls owner number c other k)
  where
    by : (b : Bool) → (if b then Some (open_call {L = machine} owner d) else call_from (suc first) (map (open_call {L = machine} owner) calls) number) ≡ Some c
        → (call_from (suc first) (map (open_call {L = machine} owner) calls) number ≡ Some c → None ≡ Some c) → None ≡ Some c
    by true k later = absurd (other (let same : open_call {L = machine} owner d ≡ c = cc in ap (λ (x : Row). x.owner) (sym same)))
    by false k later = later k
made_before first (e ∷ cs) calls owner number c other q = by (nat_eq first number) q (λ k. made_before (suc first) cs calls owner number c other k)
  where
    by : (b : Bool) → (if b then Some e else call_from (suc first) (cs ++ map (open_call {L = machine} owner) calls) number) ≡ Some c
        → (call_from (suc first) (cs ++ map (open_call {L = machine} owner) calls) number ≡ Some c → call_from (suc first) cs number ≡ Some c) → (if b then Some e else call_from (suc first) cs number) ≡ Some c
    by true k later = k
    by false k later = later k

-- ---- what agrees

module _ (world : World) (answers : AnswerTypes) (kinds : List TypeId) where
  agrees_owner : (table : CallTable (List TypeId) Given) (calls : List Outgoing) (owner : ℕ) → Agrees world answers kinds (with_calls table calls) → Agrees world answers kinds (record table { calls = table.calls ++ map (open_call {L = kernel} owner) calls })
  agrees_owner table calls owner h n t q =
      let g = h n t q in
      let r = reowned table.first table.calls calls 0 owner n g.call g.is in
      record {
        call = r.0;
        is = r.1;
        result = subst (λ rs. ResultOf world.head rs t) r.2.results g.result;
        shareable = subst (world.IsMessage []) r.2.results g.shareable;
        own = sym r.2.resumes ∙ g.own;
        state = subst (StateFits world answers kinds t) r.2.state g.state;
      }

  -- where a call is lost
  agrees_set : (table : CallTable (List TypeId) Given) (number : ℕ) (st : State Given) → ((t : TypeId) → StateFits world answers kinds t st) → Agrees world answers kinds table → Agrees world answers kinds (set_state table number st)
  agrees_set table number st fits h n t q =
      let g = h n t q in
      let r = set_found table.first table.calls number n st g.call g.is in
      record {
        call = r.0;
        is = r.1;
        result = subst (λ rs. ResultOf world.head rs t) r.2 g.result;
        shareable = subst (world.IsMessage []) r.2 g.shareable;
        own = sym r.3 ∙ g.own;
        state = by g.call r.0 g.state r.4;
      }
    where
      by : (c d : Row) → StateFits world answers kinds t c.state → (c.state ≡ d.state) ⊎ ((n ≡ number) × (st ≡ d.state)) → StateFits world answers kinds t d.state
      by c d k (inl e) = subst (StateFits world answers kinds t) e k
      by c d k (inr e) = subst (StateFits world answers kinds t) e.1 (fits t)

-- ---- actors

module _ (types : List Slot) (p : Program) (lawful : IsLawful (running types).head) where
  waits_grow : (answers more : AnswerTypes) (kinds longer : List TypeId) → KnowsMore answers more → IsLonger kinds longer → (number : ℕ) (c : Row) (w : Waiting) → WaitsAs types p answers kinds number c w → WaitsAs types p more longer number c w
  waits_grow answers more kinds longer k l number c w h =
      ((h.0.0, (results_kept (running types) w.results lawful).grows answers more kinds longer (unload_waiting w).at k l h.0.1), h.1)

  module _ (answers : AnswerTypes) (kinds : List TypeId) (a : Actor machine) (k : Known types p answers kinds a) where
    -- one more incoming call
    pub known_arrived : Known types p answers kinds (arrived a)
    known_arrived = record { may = k.may; fields = k.fields; calls = k.calls; waits = λ number c q o w i. k.waits number c q o w (at_pushed a.activations number c.owner w i) }

    -- a call is answered
    pub known_filled : (number : ℕ) (o : Option Given) → Agrees (running types) answers kinds (set_state a.table number (Answered o)) → Known types p answers kinds (filled number o a)
    known_filled number o agreed = record {
      may = k.may;
      fields = k.fields;
      calls = agreed;
      waits = λ n c q e w i. k.waits n c (set_open a.table.first a.table.calls number n (Answered o) c refl q e) e w i;
    }

    -- or its answer trapped
    pub known_broken : (number owner : ℕ) → Known types p answers kinds (broken number owner a)
    known_broken number owner = by (waiting_on number (activation_at a.activations owner))
      where
        by : (o : Option Waiting) → Known types p answers kinds (broken_by number owner a o)
        by None = record {
          may = k.may;
          fields = k.fields;
          calls = agrees_set (running types) answers kinds a.table number Lost (λ t. tt) k.calls;
          waits = λ n c q e w i. k.waits n c (set_open a.table.first a.table.calls number n Lost c refl q e) e w i;
        }
        by (Some v) = record {
          may = k.may;
          fields = k.fields;
          calls = agrees_set (running types) answers kinds a.table number (Answered None) (λ t. tt) k.calls;
          waits = λ n c q e w i. at_owner n c (set_open a.table.first a.table.calls number n (Answered None) c refl q e) e w (nat_eq c.owner owner) refl i;
        }
          where
            dead : Standings
            dead = slice_set a.activations owner IsDead

            nobody : (n : ℕ) (w : Waiting) → (activation_at dead owner ≡ IsDead) ⊎ (activation_at dead owner ≡ IsAnswered) → waiting_on n (activation_at dead owner) ≡ Some w → ⊥
            nobody n w (inl e) i = let z : None ≡ Some w = ap (waiting_on n) (sym e) ∙ i in cc
            nobody n w (inr e) i = let z : None ≡ Some w = ap (waiting_on n) (sym e) ∙ i in cc

            at_owner : (n : ℕ) (c : Row) → call_from a.table.first a.table.calls n ≡ Some c → is_open_state c.state ≡ true → (w : Waiting) → (b : Bool) → nat_eq c.owner owner ≡ b → waiting_on n (activation_at dead c.owner) ≡ Some w → WaitsAs types p answers kinds n c w
            at_owner n c q o w true e i = absurd (nobody n w (at_set a.activations owner IsDead) (ap (λ x. waiting_on n (activation_at dead x)) (sym (eqb-true c.owner owner e)) ∙ i))
            at_owner n c q o w false e i =
                k.waits n c q o w (ap (waiting_on n) (sym (at_other a.activations owner c.owner IsDead (λ z. true≢false (sym (eq-eqb c.owner owner z) ∙ e)))) ∙ i)

    -- ---- what an execution leaves

    -- an execution that leaves its activation as it was has made no calls
    abbrev pub Quiet : Effects machine → Type 0
    Quiet effects = effects.ending ≡ Unchanged → effects.calls ≡ []

    module _ (owner weight : ℕ) (effects : Effects machine) (quiet : Quiet effects) (fit : EffectsFit types p answers kinds a.table (unload_effects effects)) where
      abbrev more : AnswerTypes
      more = fit.0

      abbrev longer : List TypeId
      longer = fit.1

      abbrev after : Actor machine
      after = committed owner weight effects a

      abbrev rows : List Row
      rows = a.table.calls ++ map (open_call {L = machine} owner) effects.calls

      calls_fit : Agrees (running types) more longer after.table
      calls_fit = subst (λ (cs : List Row). Agrees (running types) more longer (record { first = a.table.first; calls = a.table.calls ++ cs })) (opened_same owner effects.calls)
          (agrees_owner (running types) more longer a.table (map call_of_meaning effects.calls) owner fit.4.1)

      grown : (n : ℕ) (c : Row) (w : Waiting) → WaitsAs types p answers kinds n c w → WaitsAs types p more longer n c w
      grown = waits_grow answers more kinds longer fit.2.0 fit.3

      -- what the execution waits for
      waits_now : (n m : ℕ) (v w : Waiting) (c : Row) → EndingFits types p more longer (with_calls a.table (map call_of_meaning effects.calls)) (Awaits m (unload_waiting v)) → call_from a.table.first rows n ≡ Some c → cond (nat_eq m n) (Some v) None ≡ Some w
          → WaitsAs types p more longer n c w
      waits_now n m v w c h q i = by (nat_eq m n) refl i
        where
          by : (b : Bool) → nat_eq m n ≡ b → cond b (Some v) None ≡ Some w → WaitsAs types p more longer n c w
          by false e z = absurd (let y : None ≡ Some w = z in cc)
          by true e z =
              let same : v ≡ w = cc in
              let at : m ≡ n = eqb-true m n e in
              let back = subst (λ (cs : List Row). call_from a.table.first (a.table.calls ++ cs) n ≡ Some c) (sym (opened_same owner effects.calls)) q in
              let d = reowned a.table.first a.table.calls (map call_of_meaning effects.calls) owner 0 n c back in
              let there : call_from a.table.first (a.table.calls ++ map (open_call {L = kernel} 0) (map call_of_meaning effects.calls)) n ≡ Some h.1.0 = ap (λ x. call_from a.table.first (a.table.calls ++ map (open_call {L = kernel} 0) (map call_of_meaning effects.calls)) x) (sym at) ∙ h.1.1 in
              let alike : d.0 ≡ h.1.0 = (let y : Some d.0 ≡ Some h.1.0 = sym d.1 ∙ there in cc) in
              subst (λ u. WaitsAs types p more longer n c u) same (
                h.0,
                subst (λ (x : Option ℕ). WaitsOn (running types) (awaited_by n x) (unload_waiting v).at) (sym (d.2.resumes ∙ ap (λ (x : Row). x.resumes) alike))
                    (subst (λ x. WaitsOn (running types) (awaited_by x h.1.0.resumes) (unload_waiting v).at) at h.1.2),
              )

      -- of the activation of this execution
      its_own : (n : ℕ) (c : Row) → c.owner ≡ owner → call_from a.table.first rows n ≡ Some c → is_open_state c.state ≡ true → (w : Waiting) → (e : Ending machine) → effects.ending ≡ e → EndingFits types p more longer (with_calls a.table (map call_of_meaning effects.calls)) (unload_ending e)
          → waiting_on n (activation_after e (activation_at a.activations owner)) ≡ Some w → WaitsAs types p more longer n c w
      its_own n c own q o w (Answers answer) e h i = absurd (let z : None ≡ Some w = i in cc)
      its_own n c own q o w AwaitsNothing e h i = absurd (let z : None ≡ Some w = i in cc)
      its_own n c own q o w (Awaits m v) e h i = waits_now n m v w c h q i
      its_own n c own q o w Unchanged e h i =
          let none : map (open_call {L = machine} owner) effects.calls ≡ [] = ap (map (open_call {L = machine} owner)) (quiet e) in
          grown n c w (k.waits n c (ap (λ cs. call_from a.table.first cs n) (sym (append-nil a.table.calls)) ∙ ap (λ (cs : List Row). call_from a.table.first (a.table.calls ++ cs) n) (sym none) ∙ q) o w
          (ap (λ x. waiting_on n (activation_at a.activations x)) own ∙ i))

      own_waits : (n : ℕ) (c : Row) → c.owner ≡ owner → call_from a.table.first rows n ≡ Some c → is_open_state c.state ≡ true → (w : Waiting)
          → (activation_at after.activations owner ≡ activation_after effects.ending (activation_at a.activations owner)) ⊎ (activation_at after.activations owner ≡ IsAnswered)
          → waiting_on n (activation_at after.activations owner) ≡ Some w → WaitsAs types p more longer n c w
      own_waits n c own q o w (inl e) i = its_own n c own q o w effects.ending refl fit.4.2 (ap (waiting_on n) (sym e) ∙ i)
      own_waits n c own q o w (inr e) i = absurd (let z : None ≡ Some w = ap (waiting_on n) (sym e) ∙ i in cc)

      all_wait : WaitsIn types p more longer a.table.first rows after.activations
      all_wait n c q o w i = by (nat_eq c.owner owner) refl
        where
          by : (b : Bool) → nat_eq c.owner owner ≡ b → WaitsAs types p more longer n c w
          by true e =
              let own : c.owner ≡ owner = eqb-true c.owner owner e in
              own_waits n c own q o w (at_set a.activations owner (activation_after effects.ending (activation_at a.activations owner))) (ap (λ x. waiting_on n (activation_at after.activations x)) (sym own) ∙ i)
          by false e =
              let other : c.owner ≡ owner → ⊥ = λ z. true≢false (sym (eq-eqb c.owner owner z) ∙ e) in
              grown n c w (k.waits n c (made_before a.table.first a.table.calls effects.calls owner n c other q) o w
              (ap (waiting_on n) (sym (at_other a.activations owner c.owner (activation_after effects.ending (activation_at a.activations owner)) other)) ∙ i))

      pub known_left : Known types p fit.0 fit.1 (committed owner weight effects a)
      known_left = record { may = fit.2.0.1 k.may; fields = fit.4.0; calls = calls_fit; waits = all_wait }
