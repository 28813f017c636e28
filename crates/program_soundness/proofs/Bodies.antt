-- Executions of methods, and of bodies that waited, end as their types say.
use Rattle.std.proofs.Common.{◌≡◌, inl, inr, ℕ, zero, suc, ◌+◌, List, [], ◌∷◌, length, true, Option, Some, None, refl, sym, ap, ◌∙◌, subst, slice_get}
use Rattle.mo_types.specs.declared.node.TypeId.{TypeId}
use Rattle.mo_types.specs.Calls.{Call}
use Rattle.mo_types.specs.Sub.{AtSome, Each}
use Rattle.mo_actor.specs.Executions.{Completion, Completes}
use Rattle.mo_actor.specs.Programs.{Effects}
use Rattle.typed_tree.specs.Language.{Exp}
use Rattle.typed_tree.specs.Programs.{Program, Method}
use Rattle.typed_tree.specs.Wants.{Of}
use Rattle.mo_meaning.specs.Acts.{Store, Given, Gets, Fails, Awaits}
use Rattle.mo_meaning.specs.Bodies.{resume_function, function_or, function_at, called, shared_progress, body_run, results_of}
use Rattle.mo_meaning.specs.Configurations.{Returns, Responds, Suspends, Sleeps, Traps, Breaks, Run, Still, Ended, Surroundings, beginning}
use Rattle.mo_meaning.specs.Exports.{method_functions}
use Rattle.mo_meaning.specs.Kernel.{kernel, Fields, Entry, Body, Enters, Resumes}
use Rattle.mo_meaning.specs.Turns.{turns, turns_given}
use Rattle.mo_soundness.specs.Answered.{IsAsking}
use Rattle.mo_soundness.specs.Keeps.{IsLonger, KnowsMore, Suits}
use Rattle.mo_soundness.specs.Lawful.{IsLawful}
use Rattle.mo_soundness.specs.Running.{AnswerTypes, HasValue, StoreTyped}
use Rattle.mo_soundness.proofs.Found.{unit_fits}
use Rattle.mo_soundness.proofs.More.{append_nil}
use Rattle.program_soundness.specs.Agreement.{Agrees, GivenFits}
use Rattle.program_soundness.specs.Bodies.{Shares, IsEntry, FieldsTyped, BodyFits, EffectsFit}
use Rattle.program_soundness.specs.Results.{GivesResults, AreResults}
use Rattle.program_soundness.specs.Roles.{AMethod, IsFunctionAs, calling}
use Rattle.program_soundness.specs.Runs.{IsTypedState, EndsFit}
use Rattle.program_soundness.proofs.Entering.{called_begins}
use Rattle.program_soundness.proofs.Exported.{exports_grow, method_there}
use Rattle.program_soundness.proofs.Turns.{begun_ends, turns_given_fit, run_ends, reply_ends}
use Rattle.program_soundness.proofs.Typed.{results_kept}
use Rattle.program_soundness.specs.Worlds.{running, IsCarried}
use Rattle.typed_tree.specs.Types.{AreLawful}

-- of the method of a number
pub at_method : (P : Method → Type 0) (ms : List Method) (i : ℕ) (m : Method) → Each P ms → slice_get ms i ≡ Some m → P m
at_method P [] i m h q = absurd (let z : None ≡ Some m = q in cc)
at_method P (k ∷ ms) zero m h q = let same : k ≡ m = cc in subst P same h.0
at_method P (k ∷ ms) (suc i) m h q = at_method P ms i m h.1 q

module _ (s : Surroundings) (lawful : IsLawful (running s.types).head) (shared : AreLawful s.types) (p : Program) (shares : Shares s.types p) where
  abbrev EndFor : List TypeId → AnswerTypes → List TypeId → Run → Type 0
  EndFor rs = EndsFit s (GivesResults (running s.types) rs) (AreResults (running s.types) rs)

  -- the table as an execution finds it
  begun_state : (answers : AnswerTypes) (kinds : List TypeId) (weight : ℕ) (cells : Store) (e : Exp) → StoreTyped (running s.types) answers kinds cells kinds → Agrees (running s.types) answers kinds s.table → IsTypedState s answers kinds (beginning weight cells e)
  begun_state answers kinds weight cells e st a =
      (st, λ m. subst (λ (cs : List (Call (List TypeId) Given)). Agrees (running s.types) answers kinds (record { first = s.table.first; calls = cs })) (sym (append_nil s.table.calls)) a, λ e. refl)

  resume_is : (answers : AnswerTypes) (kinds : List TypeId) → IsFunctionAs s.types answers kinds (AMethod [] []) resume_function
  resume_is answers kinds = (AMethod [] [] ∷ [], (([], [], lawful.unit, inl (refl, refl), refl, lawful.is_unit, unit_fits (running s.types) (calling answers) kinds lawful.unit lawful.is_unit), tt), refl)

  -- the method's function, and its results
  record Entered (answers : AnswerTypes) (kinds : List TypeId) (fields : Fields) (entry : Entry) : Type 0 where
    function : IsFunctionAs s.types answers kinds (AMethod entry.parameters entry.results) (function_at fields entry.place)
    results : Each (IsCarried s.types) entry.results

  entered : (answers : AnswerTypes) (kinds : List TypeId) (fields : Fields) (entry : Entry) → FieldsTyped s.types p answers kinds fields → IsEntry p entry → Entered answers kinds fields entry
  entered answers kinds fields entry h (inl i) =
      let x = h.exports in
      let f = method_there s.types answers kinds p.methods x.functions i.0 i.1 x.methods i.3 in
      let place = ap (λ v. function_or (slice_get (method_functions v) i.0)) x.is ∙ ap function_or f.1 in
      record {
        function =
            subst (λ (ps : List TypeId). IsFunctionAs s.types answers kinds (AMethod ps entry.results) (function_at fields entry.place)) (sym i.4)
            (subst (λ (rs : List TypeId). IsFunctionAs s.types answers kinds (AMethod i.1.parameters rs) (function_at fields entry.place)) (sym i.5)
            (subst (λ (o : Option ℕ). IsFunctionAs s.types answers kinds (AMethod i.1.parameters i.1.results) (function_at fields o)) (sym i.2)
            (subst (IsFunctionAs s.types answers kinds (AMethod i.1.parameters i.1.results)) (sym place) f.2)));
        results = subst (Each (IsCarried s.types)) (sym i.5) (at_method (λ (m : Method). Each (IsCarried s.types) m.results) p.methods i.0 i.1 shares.results i.3);
      }
  entered answers kinds fields entry h (inr i) = record {
    function =
        subst (λ (ps : List TypeId). IsFunctionAs s.types answers kinds (AMethod ps entry.results) (function_at fields entry.place)) (sym i.1)
        (subst (λ (rs : List TypeId). IsFunctionAs s.types answers kinds (AMethod [] rs) (function_at fields entry.place)) (sym i.2)
        (subst (λ (o : Option ℕ). IsFunctionAs s.types answers kinds (AMethod [] []) (function_at fields o)) (sym i.0) (resume_is answers kinds)));
    results = subst (Each (IsCarried s.types)) (sym i.2) tt;
  }

  given_suits : (answers : AnswerTypes) (kinds : List TypeId) (g : Given) (nodes future : ℕ) (t : TypeId) → answers.types future ≡ Some t → GivenFits (running s.types) answers kinds t g → Suits (running s.types) answers kinds (Some g) (Awaits nodes future)
  given_suits answers kinds (Gets v) nodes future t q h = subst (λ o. AtSome o (λ u. HasValue (running s.types) answers kinds (Of u) v)) (sym q) h
  given_suits answers kinds (Fails e) nodes future t q h = h

  pub body_ends : (answers : AnswerTypes) (kinds : List TypeId) (fields : Fields) (body : Body) (n : ℕ) → answers.may_call ≡ true → FieldsTyped s.types p answers kinds fields → Agrees (running s.types) answers kinds s.table → BodyFits s.types p answers kinds body
      → EndFor (results_of body) answers kinds (body_run s fields body n)
  body_ends answers kinds fields (Enters entry caller vs) n may h a b =
      let e = entered answers kinds fields entry h b.0 in
      reply_ends s shared (GivesResults (running s.types) entry.results) entry.results e.results (turns s n (beginning (2 + length caller) fields.cells (called (function_at fields entry.place) caller vs))) answers kinds may
      (begun_ends s lawful shared (GivesResults (running s.types) entry.results) (AreResults (running s.types) entry.results) (results_kept (running s.types) entry.results lawful) n (beginning (2 + length caller) fields.cells (called (function_at fields entry.place) caller vs)) answers kinds
      (begun_state answers kinds (2 + length caller) fields.cells (called (function_at fields entry.place) caller vs) h.cells a) tt
      (called_begins s.types lawful answers kinds may None fields.cells entry.parameters entry.results (function_at fields entry.place) caller vs h.cells e.function b.1 b.2))
  body_ends answers kinds fields (Resumes w g) n may h a b =
      let state = begun_state answers kinds w.nodes fields.cells w.at h.cells a in
      let wait = b.1.3.1 fields.cells in
      reply_ends s shared (GivesResults (running s.types) w.results) w.results b.0.0 (turns_given s g n (beginning w.nodes fields.cells w.at)) answers kinds may
      (run_ends s lawful shared (GivesResults (running s.types) w.results) (AreResults (running s.types) w.results) (results_kept (running s.types) w.results lawful) (turns_given s g n (beginning w.nodes fields.cells w.at)) answers kinds
      (turns_given_fit s lawful shared (GivesResults (running s.types) w.results) (AreResults (running s.types) w.results) (results_kept (running s.types) w.results lawful) g n (beginning w.nodes fields.cells w.at) answers kinds
      (state, b.0.1) (subst IsAsking (sym wait) tt)
      (subst (Suits (running s.types) answers kinds (Some g)) (sym wait) (given_suits answers kinds g b.1.3.0 b.1.0 b.1.1 b.1.2 b.1.4))))

  -- ---- what is left

  abbrev left_or : Option (Completion (Effects kernel)) → Effects kernel → Effects kernel
  left_or (Some (Completes e)) other = e
  left_or _ other = other

  same_effects : (answers : AnswerTypes) (kinds : List TypeId) (e other : Effects kernel) → EffectsFit s.types p answers kinds s.table e → Some (Completes e) ≡ Some (Completes other) → EffectsFit s.types p answers kinds s.table other
  same_effects answers kinds e other h q = subst (EffectsFit s.types p answers kinds s.table) (ap (λ o. left_or o other) q) h

  left_typed : (answers more : AnswerTypes) (kinds longer : List TypeId) (fields : Fields) (cells : Store) → KnowsMore answers more → IsLonger kinds longer → FieldsTyped s.types p answers kinds fields → StoreTyped (running s.types) more longer cells longer
      → FieldsTyped s.types p more longer (record fields { cells = cells })
  left_typed answers more kinds longer fields cells k l h st = record { cells = st; exports = exports_grow s.types answers more k kinds longer l p fields.exports h.exports }

  run_left : (answers : AnswerTypes) (kinds : List TypeId) (fields : Fields) (results : List TypeId) (run : Run) (other : Effects kernel) → answers.may_call ≡ true → Each (IsCarried s.types) results → FieldsTyped s.types p answers kinds fields → EndFor results answers kinds run
      → (shared_progress fields results run).completion ≡ Some (Completes other) → EffectsFit s.types p answers kinds s.table other
  run_left answers kinds fields results (Still c) other may sh h i q = absurd cc
  run_left answers kinds fields results (Ended c (Returns v)) other may sh h i q = absurd cc
  run_left answers kinds fields results (Ended c (Responds answer)) other may sh h i q =
      same_effects answers kinds _ other (i.0, i.1, i.2, i.3, (left_typed answers i.0 kinds i.1 fields c.store i.2.0 i.3 h i.4.0.0, i.4.0.1 (i.2.0.1 may), tt)) q
  run_left answers kinds fields results (Ended c (Suspends call nodes)) other may sh h i q =
      same_effects answers kinds _ other (i.0, i.1, i.2, i.3, (left_typed answers i.0 kinds i.1 fields c.store i.2.0 i.3 h i.4.0.0.0, i.4.0.0.1 (i.2.0.1 may), ((sh, i.4.0.1), i.4.1))) q
  run_left answers kinds fields results (Ended c Sleeps) other may sh h i q =
      same_effects answers kinds _ other (i.0, i.1, i.2, i.3, (left_typed answers i.0 kinds i.1 fields c.store i.2.0 i.3 h i.4.0.0, i.4.0.1 (i.2.0.1 may), tt)) q
  run_left answers kinds fields results (Ended c (Traps text)) other may sh h i q = absurd cc
  run_left answers kinds fields results (Ended c Breaks) other may sh h i q = absurd cc

  results_share : (answers : AnswerTypes) (kinds : List TypeId) (fields : Fields) (body : Body) → FieldsTyped s.types p answers kinds fields → BodyFits s.types p answers kinds body → Each (IsCarried s.types) (results_of body)
  results_share answers kinds fields (Enters entry caller vs) h b = (entered answers kinds fields entry h b.0).results
  results_share answers kinds fields (Resumes w g) h b = b.0.0

  pub body_left : (answers : AnswerTypes) (kinds : List TypeId) (fields : Fields) (body : Body) (n : ℕ) (other : Effects kernel) → answers.may_call ≡ true → FieldsTyped s.types p answers kinds fields → Agrees (running s.types) answers kinds s.table → BodyFits s.types p answers kinds body
      → (shared_progress fields (results_of body) (body_run s fields body n)).completion ≡ Some (Completes other) → EffectsFit s.types p answers kinds s.table other
  body_left answers kinds fields body n other may h a b q =
      run_left answers kinds fields (results_of body) (body_run s fields body n) other may (results_share answers kinds fields body h b) h (body_ends answers kinds fields body n may h a b) q
