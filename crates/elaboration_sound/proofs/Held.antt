-- What waits in a committed state is what waits in the actor.
use Rattle.std.proofs.Common.{◌≡◌, ℕ, suc, List, [], ◌∷◌, map, Bool, true, false, cond, Some, None, refl, sym, ap, ◌∙◌, subst, arith, eq-eqb, eqb-true}
use Rattle.std.specs.Prelude.{nat_eq, if◌then◌else◌}
use Rattle.mo_types.specs.declared.node.TypeId.{TypeId}
use Rattle.mo_types.specs.Calls.{Call, call_from, is_open_state}
use Rattle.mo_types.specs.Graph.{Slot}
use Rattle.mo_actor.specs.Passes.{HeldCall, held_calls, committed_state}
use Rattle.mo_actor.specs.States.{Activation, Actor, activation_at, waiting_on}
use Rattle.typed_tree.specs.Programs.{Program}
use Rattle.mo_meaning.specs.Acts.{Given}
use Rattle.mo_soundness.specs.Running.{AnswerTypes}
use Rattle.program_soundness.specs.Agreement.{Agrees}
use Rattle.program_soundness.specs.Bodies.{FieldsTyped}
use Rattle.program_soundness.specs.Worlds.{running}
use Rattle.program_soundness.proofs.Tables.{in_range}
use Rattle.mo_machine.specs.ActorLanguage.{machine, Waiting, unload_fields}
use Rattle.elaboration_sound.specs.Typed.{WaitsAs, HeldTyped, CommittedTyped}

abbrev pub Row : Type 0
Row = Call (List TypeId) Given

abbrev pub Standings : Type 0
Standings = List (Activation machine)

-- the calls that are held are those of the table
pub held_calls_are : (first : ℕ) (cs : List Row) (acts : Standings) → map (λ (h : HeldCall machine). h.call) (held_calls first cs acts) ≡ cs
held_calls_are first [] acts = refl
held_calls_are first (c ∷ cs) acts = ap (λ r. c ∷ r) (held_calls_are (suc first) cs acts)

module _ (types : List Slot) (p : Program) (answers : AnswerTypes) (kinds : List TypeId) where
  -- what waits on an open call, as an actor has it
  abbrev pub WaitsIn : ℕ → List Row → Standings → Type 0
  WaitsIn first cs acts = (number : ℕ) (c : Row) → call_from first cs number ≡ Some c → is_open_state c.state ≡ true → (w : Waiting) → waiting_on number (activation_at acts c.owner) ≡ Some w → WaitsAs types p answers kinds number c w

  pub held_typed : (first : ℕ) (cs : List Row) (acts : Standings) → WaitsIn first cs acts → HeldTyped types p answers kinds first (held_calls first cs acts)
  held_typed first [] acts h = tt
  held_typed first (c ∷ cs) acts h = (by (is_open_state c.state) refl, held_typed (suc first) cs acts (λ number d q. h number d (later number d q)))
    where
      found : call_from first (c ∷ cs) first ≡ Some c
      found = ap (λ b. if b then Some c else call_from (suc first) cs first) (eq-eqb first first refl)

      by : (b : Bool) → is_open_state c.state ≡ b → (w : Waiting) → cond b (waiting_on first (activation_at acts c.owner)) None ≡ Some w → WaitsAs types p answers kinds first c w
      by true e w q = h first c found e w q
      by false e w q = absurd (let z : None ≡ Some w = q in cc)

      later : (number : ℕ) (d : Row) → call_from (suc first) cs number ≡ Some d → call_from first (c ∷ cs) number ≡ Some d
      later number d q = at_number (nat_eq first number) refl
        where
          at_number : (b : Bool) → nat_eq first number ≡ b → (if b then Some c else call_from (suc first) cs number) ≡ Some d
          at_number true e = let r = in_range (suc first) cs number d q in absurd (let same : first ≡ number = eqb-true first number e in omega (arith, r.0, same))
          at_number false e = q

  pub waits_in : (first : ℕ) (cs : List Row) (acts : Standings) → HeldTyped types p answers kinds first (held_calls first cs acts) → WaitsIn first cs acts
  waits_in first [] acts h number d q o w i = absurd (let z : None ≡ Some d = q in cc)
  waits_in first (c ∷ cs) acts h number d q o w i = by (nat_eq first number) refl q (λ k. waits_in (suc first) cs acts h.1 number d k o w i)
    where
      by : (b : Bool) → nat_eq first number ≡ b → (if b then Some c else call_from (suc first) cs number) ≡ Some d → (call_from (suc first) cs number ≡ Some d → WaitsAs types p answers kinds number d w) → WaitsAs types p answers kinds number d w
      by true e k later =
          let same : first ≡ number = eqb-true first number e in
          let alike : c ≡ d = cc in
          subst (λ n. WaitsAs types p answers kinds n d w) same (subst (λ (x : Row). WaitsAs types p answers kinds first x w) alike (h.0 w
          (ap (λ b. cond b (waiting_on first (activation_at acts c.owner)) None) (ap (λ (x : Row). is_open_state x.state) alike ∙ o)
          ∙ ap (λ n. waiting_on n (activation_at acts c.owner)) same ∙ ap (λ (x : Row). waiting_on number (activation_at acts x.owner)) alike ∙ i)))
      by false e k later = later k

  -- what is known of an actor of the machine
  pub record Known (a : Actor machine) : Type 0 where
    pub may : answers.may_call ≡ true
    pub fields : FieldsTyped types p answers kinds (unload_fields a.store)
    pub calls : Agrees (running types) answers kinds a.table
    pub waits : WaitsIn a.table.first a.table.calls a.activations

  pub known_committed : (a : Actor machine) → Known a → CommittedTyped types p (committed_state a)
  known_committed a k = record {
    answers = answers;
    kinds = kinds;
    may_call = k.may;
    fields = k.fields;
    calls = subst (λ (cs : List Row). Agrees (running types) answers kinds (record { first = a.table.first; calls = cs })) (sym (held_calls_are a.table.first a.table.calls a.activations)) k.calls;
    waits = held_typed a.table.first a.table.calls a.activations k.waits;
  }

pub committed_known : (types : List Slot) (p : Program) (a : Actor machine) (h : CommittedTyped types p (committed_state a)) → Known types p h.answers h.kinds a
committed_known types p a h = record {
  may = h.may_call;
  fields = h.fields;
  calls = subst (λ (cs : List Row). Agrees (running types) h.answers h.kinds (record { first = a.table.first; calls = cs })) (held_calls_are a.table.first a.table.calls a.activations) h.calls;
  waits = waits_in types p h.answers h.kinds a.table.first a.table.calls a.activations h.waits;
}
