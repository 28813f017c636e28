-- What a completed execution leaves.
use Rattle.std.proofs.Common.{◌≡◌, ℕ, zero, suc, ◌+◌, List, [], ◌∷◌, ◌++◌, length, map, refl, sym, ap, ap₂, ◌∙◌, subst}
use Rattle.std.specs.Prelude.{slice_set}
use Rattle.std.proofs.lemmas.List.{length-map, map-append}
use Rattle.play_script.specs.declared.item.Item.{Item}
use Rattle.play_script.specs.declared.item.Item.TheVariants as item
use Rattle.mo_types.specs.Calls.{Call, CallTable}
use Rattle.mo_types.specs.declared.node.TypeId.{TypeId}
use Rattle.mo_values.specs.Shapes.{Bytes}
use Rattle.mo_actor.specs.Completions.{activation_after, complete, committed, open_call}
use Rattle.mo_actor.specs.Outcomes.{answer_items, call_items, close, outcome, print_items}
use Rattle.mo_actor.specs.States as actor
use Rattle.mo_actor.specs.States.{activation_at}
use Rattle.typed_tree.specs.Language.{Functions}
use Rattle.mo_meaning.specs.Acts.{Given}
use Rattle.mo_meaning.specs.Coding.{Coding, Types}
use Rattle.mo_machine.specs.ActorLanguage.{machine}
use Rattle.value_arena.specs.declared.node.Node.{Node}
use Rattle.arena_executions.specs.declared.execution.Outgoing.{Outgoing}
use Rattle.arena_actors.specs.declared.actor.Activation.{Activation}
use Rattle.arena_actors.specs.declared.actor.Activation.TheVariants as activation
use Rattle.arena_actors.specs.declared.actor.Made.{Made}
use Rattle.arena_actors.specs.States.{actor_of, call_of, calls_of, came_of, table_of, AreAtRest, AreCameWithin}
use Rattle.arena_actors.proofs.Resting.{rest_set}
use Rattle.arena_outcomes.specs.declared.ran.Done.{Done}
use Rattle.arena_outcomes.specs.declared.ran.Ending.{Ending}
use Rattle.arena_outcomes.specs.declared.ran.Ending.TheVariants as ending
use Rattle.arena_outcomes.specs.Books as books
use Rattle.arena_outcomes.specs.Books.{came_after, completed, completed_items, effects_of, ending_of, opened, outgoing_of}
use Rattle.arena_outcomes.specs.Ends.{IsEndingWithin, IsRestingEnd}
use Rattle.arena_outcomes.proofs.Closes.{came_set, came_within_set, close_is}

pub calls_are : (next : ℕ) (cs : List Outgoing) → call_items next (outgoing_of cs) ≡ books.call_items next cs
calls_are next [] = refl
calls_are next (c ∷ cs) = ap (λ (l : List Item). item.Call next c.callee c.method c.argument ∷ l) (calls_are (next + 1) cs)

opened_are : (coding : Coding) (types : Types) (owner : ℕ) (cs : List Outgoing) → calls_of coding types (map (λ c. opened owner c) cs) ≡ map (open_call owner) (outgoing_of cs)
opened_are coding types owner [] = refl
opened_are coding types owner (c ∷ cs) = ap (λ (l : List (Call (List TypeId) Given)). call_of coding types (opened owner c) ∷ l) (opened_are coding types owner cs)

pub calls_more : (coding : Coding) (types : Types) (owner : ℕ) (ms : List Made) (cs : List Outgoing)
    → calls_of coding types (ms ++ map (λ c. opened owner c) cs) ≡ calls_of coding types ms ++ map (open_call owner) (outgoing_of cs)
calls_more coding types owner ms cs =
    map-append (λ (m : Made). call_of coding types m) ms (map (λ c. opened owner c) cs)
    ∙ ap (λ (l : List (Call (List TypeId) Given)). calls_of coding types ms ++ l) (opened_are coding types owner cs)

-- an activation that stays is written again
set_same : (ys : List (actor.Activation machine)) (i : ℕ) → slice_set ys i (activation_at ys i) ≡ ys
set_same [] i = refl
set_same (y ∷ ys) zero = refl
set_same (y ∷ ys) (suc i) = ap (λ (l : List (actor.Activation machine)). y ∷ l) (set_same ys i)

rests_as : {xs ys : List (actor.Activation machine)} → xs ≡ ys → AreAtRest ys → AreAtRest xs
rests_as is h = let Of : List (actor.Activation machine) → Type 0 = λ l. AreAtRest l in subst Of (sym is) h

module _ (groups : ℕ → Functions) (ns : List Node) where
  pub answers_are : (owner : ℕ) (e : Ending) → answer_items owner (ending_of groups ns e) ≡ books.answer_items owner e
  answers_are owner (ending.Replies bytes) = refl
  answers_are owner (ending.Rejects text) = refl
  answers_are owner (ending.Waits number b) = refl
  answers_are owner ending.Sleeps = refl
  answers_are owner ending.Unchanged = refl

  pub came_after_is : (owner : ℕ) (e : Ending) (xs : List Activation)
      → slice_set (came_of groups ns xs) owner (activation_after (ending_of groups ns e) (activation_at (came_of groups ns xs) owner)) ≡ came_of groups ns (came_after owner e xs)
  came_after_is owner (ending.Replies bytes) xs = sym (came_set groups ns xs owner activation.Answered)
  came_after_is owner (ending.Rejects text) xs = sym (came_set groups ns xs owner activation.Answered)
  came_after_is owner (ending.Waits number b) xs = sym (came_set groups ns xs owner (activation.WaitsFor number b))
  came_after_is owner ending.Sleeps xs = sym (came_set groups ns xs owner activation.WaitsForNothing)
  came_after_is owner ending.Unchanged xs = set_same (came_of groups ns xs) owner

  -- what waits then rests
  pub came_after_rests : (owner : ℕ) (e : Ending) (xs : List Activation) → AreAtRest (came_of groups ns xs) → IsRestingEnd groups ns e → AreAtRest (came_of groups ns (came_after owner e xs))
  came_after_rests owner (ending.Replies bytes) xs h k = rests_as (came_set groups ns xs owner activation.Answered) (rest_set (came_of groups ns xs) owner _ h tt)
  came_after_rests owner (ending.Rejects text) xs h k = rests_as (came_set groups ns xs owner activation.Answered) (rest_set (came_of groups ns xs) owner _ h tt)
  came_after_rests owner (ending.Waits number b) xs h k = rests_as (came_set groups ns xs owner (activation.WaitsFor number b)) (rest_set (came_of groups ns xs) owner _ h k)
  came_after_rests owner ending.Sleeps xs h k = rests_as (came_set groups ns xs owner activation.WaitsForNothing) (rest_set (came_of groups ns xs) owner _ h tt)
  came_after_rests owner ending.Unchanged xs h k = h

pub came_after_within : (ns : List Node) (owner : ℕ) (e : Ending) (xs : List Activation) → AreCameWithin ns xs → IsEndingWithin ns e → AreCameWithin ns (came_after owner e xs)
came_after_within ns owner (ending.Replies bytes) xs h k = came_within_set ns xs owner activation.Answered h tt
came_after_within ns owner (ending.Rejects text) xs h k = came_within_set ns xs owner activation.Answered h tt
came_after_within ns owner (ending.Waits number b) xs h k = came_within_set ns xs owner (activation.WaitsFor number b) h k
came_after_within ns owner ending.Sleeps xs h k = came_within_set ns xs owner activation.WaitsForNothing h tt
came_after_within ns owner ending.Unchanged xs h k = h

module _ (coding : Coding) (types : Types) (groups : ℕ → Functions) (d : Done) (owner weight : ℕ) (a : actor.Actor machine)
    (tables : a.table ≡ table_of coding types d.actor.first d.actor.made)
    (came : slice_set a.activations owner (activation_after (ending_of groups d.actor.arena d.ending) (activation_at a.activations owner)) ≡ came_of groups d.actor.arena (came_after owner d.ending d.actor.came)) where
  abbrev acts : CallTable (List TypeId) Given → List (actor.Activation machine) → actor.Actor machine
  acts table xs = record { store = (effects_of groups d).store; table = table; activations = xs; charged = a.charged + weight }

  abbrev more : CallTable (List TypeId) Given → CallTable (List TypeId) Given
  more table = record table { calls = table.calls ++ map (open_call owner) (outgoing_of d.calls) }

  pub committed_is : committed owner weight (effects_of groups d) a ≡ actor_of coding types groups (books.committed owner d) (a.charged + weight)
  committed_is =
      ap₂ (λ (table : CallTable (List TypeId) Given) (xs : List (actor.Activation machine)). acts table xs)
      (ap more tables ∙ ap (λ (cs : List (Call (List TypeId) Given)). record { first = d.actor.first; calls = cs }) (sym (calls_more coding types owner d.actor.made d.calls)))
      came

  abbrev next : ℕ
  next = d.actor.first + length d.actor.made

  next_is : a.table.first + length a.table.calls ≡ next
  next_is =
      ap (λ (table : CallTable (List TypeId) Given). table.first + length table.calls) tables
      ∙ ap (λ (n : ℕ). d.actor.first + n) (length-map d.actor.made (λ (m : Made). call_of coding types m))

  items_are : call_items (a.table.first + length a.table.calls) (outgoing_of d.calls) ++ answer_items owner (ending_of groups d.actor.arena d.ending)
      ≡ books.call_items next d.calls ++ books.answer_items owner d.ending
  items_are =
      ap₂ (λ (xs ys : List Item). xs ++ ys)
      (ap (λ (n : ℕ). call_items n (outgoing_of d.calls)) next_is ∙ calls_are next d.calls)
      (answers_are groups d.actor.arena owner d.ending)

  -- the outcome of an execution that completes
  pub complete_is : (prints : List Bytes) → prints ≡ d.prints
      → complete owner prints weight (effects_of groups d) a ≡ outcome (completed owner d).items (actor_of coding types groups (completed owner d).actor (a.charged + weight))
  complete_is prints same =
      ap₂ (λ (xs : List Item) (b : actor.Actor machine). close owner xs b)
      (ap₂ (λ (ps : List Bytes) (xs : List Item). print_items ps ++ xs) same items_are)
      committed_is
      ∙ close_is coding types groups owner (a.charged + weight) (record { items = completed_items owner d; actor = books.committed owner d })
