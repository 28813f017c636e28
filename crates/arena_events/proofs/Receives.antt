-- Incoming calls by the names of methods.
use Rattle.std.proofs.Common.{◌≡◌, ℕ, [], ◌∷◌, map, Bool, true, false, Option, Some, None, sym, ap, subst}
use Rattle.mo_values.specs.Shapes.{Bytes}
use Rattle.mo_actor.specs.Computed.{Followed, ToItsEnd, followed}
use Rattle.mo_actor.specs.IncomingCalls.{query_course, update_course}
use Rattle.mo_actor.specs.Programs as actor_programs
use Rattle.mo_actor.specs.States as actor
use Rattle.typed_tree.specs.declared.program.Program.{Program as Written}
use Rattle.typed_tree.specs.Language.{Functions}
use Rattle.typed_tree.specs.ProgramView.{method, program}
use Rattle.mo_meaning.specs.Actor.{method_from}
use Rattle.mo_meaning.specs.Coding.{Coding, Types}
use Rattle.mo_meaning.specs.Kernel.{Entry}
use Rattle.mo_machine.specs.ActorLanguage.{machine}
use Rattle.mo_machine.specs.States.{with_states}
use Rattle.arena_actors.specs.declared.actor.Actor.{Actor}
use Rattle.arena_actors.specs.States.{actor_of}
use Rattle.arena_outcomes.specs.declared.ran.Lived.{Lived}
use Rattle.arena_events.specs.Calling.{IsCalled, IsMissing, IsReceived}
use Rattle.arena_events.specs.Lives.{Comes, CourseOf, Lives}

-- a course that comes to the same
pub lives_alike : (types : Types) (course other : CourseOf) (n : ℕ) (x : Actor) (l : Lived)
    → ((coding : Coding) (groups : ℕ → Functions) (first charged : ℕ) → let a : actor.Actor machine = actor_of coding types groups x charged in
    followed (course coding first a) (ToItsEnd n ∷ []) ≡ followed (other coding first a) (ToItsEnd n ∷ []))
    → Lives types other n x l → Lives types course n x l
lives_alike types course other n x l same h = record {
  sound = h.sound;
  tables = h.tables;
  rests = h.rests;
  means = λ coding faithful groups has rests first charged.
      let Of : Option (Followed (actor.Actor machine)) → Type 0 = λ f. Comes coding types groups x charged f l in
      subst Of (sym (same coding groups first charged)) (h.means coding faithful groups has rests first charged);
}

module _ (p : Written) (own name caller argument : Bytes) (n : ℕ) (x : Actor) (l : Lived) where
  abbrev meant : Coding → ℕ → actor_programs.Program machine
  meant coding first = with_states coding first p.types (program p)

  abbrev named : Bool → Option Entry
  named query = method_from 0 query name (map method p.methods)

  abbrev course_by : Coding → ℕ → actor.Actor machine → Option Entry → Option Entry → Option (Followed (actor.Actor machine))
  course_by coding first a o q = followed (update_course (meant coding first) own a o q caller argument) (ToItsEnd n ∷ [])

  -- the first method that is looked for is there
  pub found_first : (query : Bool) (entry : Entry) → Some entry ≡ named query → IsCalled p own query entry caller argument n x l → IsReceived p own query name caller argument n x l
  found_first true entry is h =
      lives_alike p.types _ _ n x l
      (λ coding groups first charged. let a : actor.Actor machine = actor_of coding p.types groups x charged in ap (λ (o : Option Entry). followed (query_course (meant coding first) own a o caller argument) (ToItsEnd n ∷ [])) (sym is)) h
  found_first false entry is h =
      lives_alike p.types _ _ n x l (λ coding groups first charged. let a : actor.Actor machine = actor_of coding p.types groups x charged in ap (λ (o : Option Entry). course_by coding first a o (named true)) (sym is)) h

  pub missing_query : None ≡ named true → IsMissing x l → IsReceived p own true name caller argument n x l
  missing_query is h =
      lives_alike p.types _ _ n x l
      (λ coding groups first charged. let a : actor.Actor machine = actor_of coding p.types groups x charged in ap (λ (o : Option Entry). followed (query_course (meant coding first) own a o caller argument) (ToItsEnd n ∷ [])) (sym is)) (h p.types n)

  -- a query method stands in for an update method
  pub standing_in : None ≡ named false → IsReceived p own true name caller argument n x l → IsReceived p own false name caller argument n x l
  standing_in none h =
      lives_alike p.types _ _ n x l (λ coding groups first charged. let a : actor.Actor machine = actor_of coding p.types groups x charged in ap (λ (o : Option Entry). course_by coding first a o (named true)) (sym none)) h
