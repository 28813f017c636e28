-- Whole executions of converted code are those of the code before.
use Rattle.std.proofs.Common.{◌≡◌, ℕ, zero, suc, ◌+◌, refl, sym, ap, subst, List, [], ◌∷◌, ◌++◌, length, map, Some, Bool, true, false}
use Rattle.std.specs.Prelude.{max, cond, slice_get, nat_eq}
use Rattle.mo_values.specs.Shapes.{Bytes}
use Rattle.core_ir.specs.Values.{Value, flag_value}
use Rattle.core_ir.specs.Programs.{Method}
use Rattle.core_ir.specs.Contexts.{call_context}
use Rattle.core_ir.specs.Worlds.{Given, Gets, Throws, World, Context}
use Rattle.core_ir.specs.Executions.{Entry, Begins, Resumes, Saves, Starts, Breaks, Go, Ends, Stand, Still, Over, after_step, run, execution, deep_with}
use Rattle.core_ir.specs.Code.{Code, Body, CodeProgram}
use Rattle.core_ir.specs.CodeMachine.{Caller, Waiting, State, Did, frame_of, stuck, go, first_of, step, begins, goes_on, enters, depth, code_machine}
use Rattle.core_laws.specs.Conversion.{convert, convert_body, convert_method}
use Rattle.core_laws.specs.Converted.{world_as}
use Rattle.core_laws.proofs.Seen.{Sees, SeesSegments, SeesAround, segment_sees}
use Rattle.core_laws.proofs.ConvertedStates.{got, waiting_as, state_as, Callers, SameEnd, Same, same_depth}
use Rattle.core_laws.proofs.ConvertedSteps.{Good, target, on_some_as, heavier_as, goes_as, raise_as, step_as}

module _ (needs : List (List ℕ)) (program : CodeProgram) (context : Context) where
  -- how the runs stand
  abbrev pub StandsAs : Stand State Waiting → Stand State Waiting → Type 0
  StandsAs (Still weight depth prints world s) x =
      (used : List ℕ) × (cs : List Caller) × (x ≡ Still weight depth prints (world_as needs world) (state_as needs used s cs))
      × Sees needs used s.code × SeesAround needs used s.around × SeesSegments needs used s.frame.body.segments × Callers needs s.callers cs
  StandsAs (Over weight depth prints world e) x = (e' : _) × (x ≡ Over weight depth prints (world_as needs world) e') × SameEnd needs e e'

  -- the bodies that are entered see nothing
  pub record GoodBodies : Type 0 where
    pub methods : (m : ℕ) (x : Method Body) → slice_get program.methods m ≡ Some x → SeesSegments needs [] x.body.segments
    pub save : SeesSegments needs [] program.save.segments
    pub start : SeesSegments needs [] program.start.segments

  -- the same entry
  abbrev pub EntersAs : Entry Waiting → Entry Waiting → Type 0
  EntersAs (Begins m caller vs) e = e ≡ Begins m caller vs
  EntersAs (Resumes w given) e = (used : List ℕ) × (e ≡ Resumes (waiting_as needs used w) given) × SeesSegments needs used w.frame.body.segments
  EntersAs Saves e = e ≡ Saves
  EntersAs (Starts kept upgraded) e = e ≡ Starts kept upgraded

  module _ (good : Good needs program context) where
    abbrev after : CodeProgram → ℕ → ℕ → ℕ → ℕ → List Bytes → Did → Stand State Waiting
    after p n bodies w d out x = after_step (run (code_machine p) context n) bodies w d out x

    abbrev RunsAs : ℕ → Type 0
    RunsAs n =
        (w d : ℕ) (out : List Bytes) (world : World) (used : List ℕ) (s : State) (cs : List Caller)
        → Sees needs used s.code → SeesAround needs used s.around → SeesSegments needs used s.frame.body.segments → Callers needs s.callers cs
        → StandsAs (run (code_machine program) context n w d out world s) (run (code_machine (target needs program context)) context n w d out (world_as needs world) (state_as needs used s cs))

    after_as : (n bodies w d : ℕ) (out : List Bytes) (x y : Did) → Same needs x y → RunsAs n
        → StandsAs (after program n bodies w d out x) (after (target needs program context) n bodies w d out y)
    after_as n bodies w d out (Go cost prints world s) y m more =
        subst (λ y. StandsAs (after program n bodies w d out (Go cost prints world s)) (after (target needs program context) n bodies w d out y)) (sym (m.2))
        (more (w + cost.weight) (max d (deep_with bodies cost)) (out ++ prints) world (m.0) s (m.1) (m.3) (m.4) (m.5) (m.6))
    after_as n bodies w d out (Ends cost prints world e) y m more =
        subst (λ y. StandsAs (after program n bodies w d out (Ends cost prints world e)) (after (target needs program context) n bodies w d out y)) (sym (m.1)) (m.0, refl, m.2)

    -- after every number of steps the runs stand alike: the same weight, depth, prints, store and calls
    pub run_as : (n : ℕ) → RunsAs n
    run_as zero w d out world used s cs hc hk hf h = (used, cs, refl, hc, hk, hf, h)
    run_as (suc n) w d out world used s cs hc hk hf h =
        let deep : depth (state_as needs used s cs) ≡ depth s = ap (λ n. 16 + s.frame.body.nodes + n) (same_depth needs s.callers cs h) in
        subst
        (λ e. StandsAs (run (code_machine program) context (suc n) w d out world s) (after (target needs program context) n e w d out (step (target needs program context) context (world_as needs world) (state_as needs used s cs))))
        (sym deep)
        (after_as n (depth s) w d out (step program context world s) (step (target needs program context) context (world_as needs world) (state_as needs used s cs)) (step_as needs program context good world used s cs hc hk hf h) (run_as n))

    module _ (world : World) where
      first_in : (segs : List Code) → SeesSegments needs [] segs → Sees needs [] (first_of segs) × (convert needs [] (first_of segs) ≡ first_of (map (convert needs []) segs))
      first_in [] h = (tt, refl)
      first_in (c ∷ segs) h = (h.0, refl)

      begins_as : (paid : ℕ) (b : Body) (vs : List Value) → SeesSegments needs [] b.segments
          → Same needs (begins program context world paid b vs) (begins (target needs program context) context (world_as needs world) paid (convert_body needs [] b) vs)
      begins_as paid b vs h = by (nat_eq (length vs) b.parameters) (first_in b.segments h)
        where
          by : (e : Bool) → Sees needs [] (first_of b.segments) × (convert needs [] (first_of b.segments) ≡ first_of (map (convert needs []) b.segments))
              → Same needs (cond e (go (paid + (1 + b.nodes)) world (first_of b.segments) [] (frame_of b 0 [] vs) []) (stuck world))
              (cond e (go (paid + (1 + b.nodes)) (world_as needs world) (first_of (map (convert needs []) b.segments)) [] (frame_of (convert_body needs [] b) 0 [] vs) []) (stuck (world_as needs world)))
          by true x = ([], [], ap (λ c. go (paid + (1 + b.nodes)) (world_as needs world) c [] (frame_of (convert_body needs [] b) 0 [] vs) []) (sym (x.1)), x.0, tt, h, tt)
          by false x = (Breaks, refl, refl)

      goes_on_as : (used : List ℕ) (w : Waiting) (given : Given) → SeesSegments needs used w.frame.body.segments
          → Same needs (goes_on program context world w given) (goes_on (target needs program context) context (world_as needs world) (waiting_as needs used w) given)
      goes_on_as used w (Gets v) h =
          on_some_as needs world (convert needs used) (slice_get w.frame.body.segments w.segment) _ _ _ (got (convert needs used) w.frame.body.segments w.segment)
          (λ c e. goes_as needs world used w.frame [] [] h tt _ [] world c [] _ (segment_sees needs used w.frame.body.segments w.segment c h e) tt)
      goes_on_as used w (Throws e) h = heavier_as needs w.frame.body.nodes _ _ (raise_as needs world used w.frame [] [] h tt e w.handler [] tt)

      -- each entry begins alike
      pub enters_as : GoodBodies → (e e' : Entry Waiting) → EntersAs e e' → Same needs (enters program context world e) (enters (target needs program context) context (world_as needs world) e')
      enters_as b (Begins m caller vs) e' h =
          subst (λ e. Same needs (enters program context world (Begins m caller vs)) (enters (target needs program context) context (world_as needs world) e)) (sym h)
          (on_some_as needs world (convert_method needs) (slice_get program.methods m) _ _ _ (got (convert_method needs) program.methods m) (λ x i. begins_as (2 + length caller) x.body (call_context caller ∷ vs) (b.methods m x i)))
      enters_as b (Resumes w given) e' h =
          subst (λ e. Same needs (enters program context world (Resumes w given)) (enters (target needs program context) context (world_as needs world) e)) (sym (h.1)) (goes_on_as (h.0) w given (h.2))
      enters_as b Saves e' h =
          subst (λ e. Same needs (enters program context world Saves) (enters (target needs program context) context (world_as needs world) e)) (sym h) (begins_as 0 program.save [] b.save)
      enters_as b (Starts kept upgraded) e' h =
          subst (λ e. Same needs (enters program context world (Starts kept upgraded)) (enters (target needs program context) context (world_as needs world) e)) (sym h)
          (begins_as 0 program.start (kept ++ flag_value upgraded ∷ []) b.start)

    -- executions of converted code are those of the code before
    pub execution_as : GoodBodies → (n : ℕ) (world : World) (e e' : Entry Waiting) → EntersAs e e'
        → StandsAs (execution (code_machine program) context n world e) (execution (code_machine (target needs program context)) context n (world_as needs world) e')
    execution_as b n world e e' h = after_as n 0 0 0 [] (enters program context world e) (enters (target needs program context) context (world_as needs world) e') (enters_as world b e e' h) (run_as n)
