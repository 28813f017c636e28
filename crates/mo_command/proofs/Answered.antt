-- What `build` and `run` come to for actors of constant queries.
use Rattle.std.proofs.Common.{◌≡◌, ◌≢◌, ℕ, zero, suc, ◌<◌, List, [], ◌∷◌, length, drop, slice_get, Option, Some, None, refl, ap, subst, arith}
use Rattle.std.proofs.lemmas.List.Elements.{All-head}
use Rattle.std.specs.List.{All, AllByRecursion, AllZip}
use Rattle.outer.specs.Names.{NameMap}
use Rattle.play_script.specs.declared.event.Event.{Event}
use Rattle.play_script.specs.declared.event.Event.TheVariants.{Install, Call, Reply, Reject, Upgrade}
use Rattle.play_script.specs.declared.item.Item.{Item}
use Rattle.play_script.specs.Events.{NamesModuleBelow}
use Rattle.play_script.specs.Scripts.{BeginsWell}
use Rattle.query_source.specs.declared.query.Method.{Method}
use Rattle.query_source.specs.Source.{IsSource}
use Rattle.query_module.specs.ActorRun.{IsGiven}
use Rattle.query_module.specs.Program.{queries, IsProgramOf}
use Rattle.query_module.proofs.Told.{runs_are_answers, refined_modules_answer}
use Rattle.mo_actor.specs.Programs.{Program}
use Rattle.mo_actor.specs.Steps.{ActorRun}
use Rattle.actor_refinement.specs.Laws.{no_exhaustion}
use Rattle.wasm_tree.specs.Exec.{ExecutionLimits}
use Rattle.mo_play.specs.Transcripts.{own_principal}
use Rattle.mo_command.specs.Built.{Accepts}
use Rattle.mo_command.specs.Held.{HasBytes}
use Rattle.mo_command.specs.Replays.{limits_of}
use Rattle.mo_command.specs.Answered.{BuiltModulesAnswer, IsAnswered, RunsAreAnswered}

pub built_modules_answer : BuiltModulesAnswer
built_modules_answer source bytes m =
    let p = m.built.0 in
    let built = m.built.2 in
    record {
      methods = m.methods;
      spelled = m.spelled;
      short = built.short;
      tree = built.tree;
      written = built.written;
      valid = built.valid;
      runs = refined_modules_answer m.methods p m.built.1 built.tree built.refines;
    }

-- The methods of sources, one list for each program.
record MethodsOf (held : NameMap) (files : List (List ℕ)) (programs : List (Program queries)) : Type 0 where
  methods : List (List Method)
  are : AllZip (λ file methods. HasBytes held file (λ source. IsSource methods source)) files methods
  long : length programs ≡ length files
  at : (k : ℕ) (p : Program queries) → slice_get programs k ≡ Some p → (ms : List Method) × (slice_get methods k ≡ Some ms) × IsProgramOf ms p

more_methods : (held : NameMap) (f : List ℕ) (fs : List (List ℕ)) (x : Program queries) (ps : List (Program queries)) → HasBytes held f (λ source. Accepts source x) → MethodsOf held fs ps → MethodsOf held (f ∷ fs) (x ∷ ps)
more_methods held f fs x ps g rest =
    record { methods = (g.2).0 ∷ rest.methods; are = ((g.0, g.1, (g.2).1), rest.are); long = ap suc rest.long; at = λ k p e. there k p e }
  where
    there : (k : ℕ) (p : Program queries) → slice_get (x ∷ ps) k ≡ Some p → (ms : List Method) × (slice_get ((g.2).0 ∷ rest.methods) k ≡ Some ms) × IsProgramOf ms p
    there zero p e = let same : x ≡ p = cc in ((g.2).0, refl, subst (IsProgramOf (g.2).0) same (g.2).2)
    there (suc k) p e = rest.at k p e

methods_of : (held : NameMap) (files : List (List ℕ)) (programs : List (Program queries)) → AllZip (λ file p. HasBytes held file (λ source. Accepts source p)) files programs → MethodsOf held files programs
methods_of held [] [] g = record { methods = []; are = tt; long = refl; at = λ k p e. none k p e }
  where
    none : (k : ℕ) (p : Program queries) → slice_get {X = Program queries} [] k ≡ Some p → (ms : List Method) × (slice_get {X = List Method} [] k ≡ Some ms) × IsProgramOf ms p
    none zero p e = absurd (cc)
    none (suc k) p e = absurd (cc)
methods_of held [] (p ∷ ps) g = absurd g
methods_of held (f ∷ fs) [] g = absurd g
methods_of held (f ∷ fs) (p ∷ ps) g = more_methods held f fs p ps g.0 (methods_of held fs ps g.1)

past : (programs : List (Program queries)) (number : ℕ) → slice_get programs number ≡ None → number < length programs → ⊥
past [] number e lt = omega arith
past (m ∷ ms) zero e lt = absurd (cc)
past (m ∷ ms) (suc number) e lt = past ms number e (omega arith)

answered : (held : NameMap) (limits : ExecutionLimits) (files : List (List ℕ)) (programs : List (Program queries)) (m : MethodsOf held files programs) (items : List Item) (events : List Event) → events ≢ [] → BeginsWell events
    → All (NamesModuleBelow (length files)) events → AllByRecursion IsGiven (drop 1 events) → ActorRun (no_exhaustion limits) programs own_principal events items → IsAnswered m.methods events items
answered held limits files programs m items [] some begun below given run = absurd (some refl)
answered held limits files programs m items (Install number ∷ es) some begun below given run =
    let lt : number < length files = All-head (NamesModuleBelow (length files)) (Install number) es below in
    there (slice_get programs number) refl lt
  where
    there : (found : Option (Program queries)) → slice_get programs number ≡ found → number < length files → IsAnswered m.methods (Install number ∷ es) items
    there None e lt = absurd (past programs number e (let same : length programs ≡ length files = m.long in omega arith))
    there (Some p) e lt =
        let a = m.at number p e in
        record {
          number = number;
          others = es;
          begun = refl;
          given = given;
          methods = a.0;
          there = a.1;
          run = runs_are_answers programs number p e a.0 a.2 limits own_principal es given items run;
        }
answered held limits files programs m items (Call q n c b ∷ es) some begun below given run = absurd begun
answered held limits files programs m items (Reply n b ∷ es) some begun below given run = absurd begun
answered held limits files programs m items (Reject n c t ∷ es) some begun below given run = absurd begun
answered held limits files programs m items (Upgrade number ∷ es) some begun below given run = absurd begun

pub runs_are_answered : RunsAreAnswered
runs_are_answered held o script files text r =
    let m = methods_of held files r.programs r.programs_are in
    let s = r.script_is in
    let is = (s.2).script in
    record {
      events = r.events;
      script_is = (s.0, s.1, is);
      programs = m.methods;
      programs_are = m.are;
      items = r.items;
      run = answered held (limits_of o) files r.programs m r.items r.events is.some is.good.begun is.good.suits.below (s.2).admitted r.run;
      lines = r.lines;
    }
