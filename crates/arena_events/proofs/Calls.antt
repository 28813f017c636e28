-- Incoming calls.
use Rattle.std.proofs.Common.{◌≡◌, ℕ, zero, suc, ◌+◌, List, [], ◌∷◌, ◌++◌, length, map, Bool, true, false, cond, Option, Some, None, Vec, Global, refl, sym, ap, ap₂, ◌∙◌, subst}
use Rattle.std.specs.Prelude.{codes, not, ◌&&◌, slice_set}
use Rattle.std.proofs.lemmas.List.{length-map}
use Rattle.play_script.specs.declared.item.Item.{Item}
use Rattle.play_script.specs.declared.item.Item.TheVariants as item
use Rattle.play_script.specs.declared.item.Word.TheVariants as word
use Rattle.mo_types.specs.Calls.{CallTable}
use Rattle.mo_types.specs.declared.node.TypeId.{TypeId}
use Rattle.mo_types.specs.Graph.{Slot}
use Rattle.mo_values.specs.Shapes.{Bytes}
use Rattle.mo_actor.specs.Completions as completions
use Rattle.mo_actor.specs.Completions.{activation_after, complete}
use Rattle.mo_actor.specs.Computed.{ToItsEnd, followed_to}
use Rattle.mo_actor.specs.Executions.{Execution, ReadingCost, after_reading}
use Rattle.mo_actor.specs.Executions as execution
use Rattle.mo_actor.specs.IncomingCalls.{arrived, entered, entered_body}
use Rattle.mo_actor.specs.Outcomes.{Outcome, close, outcome, print_items, rejected, trap_items}
use Rattle.mo_actor.specs.Programs.{Effects}
use Rattle.mo_actor.specs.Results.{Completed, Result, Trapped}
use Rattle.mo_actor.specs.States as actor
use Rattle.mo_actor.specs.States.{IsAnswered, IsDead, activation_at}
use Rattle.typed_tree.specs.Language.{Functions}
use Rattle.typed_tree.specs.Language as typed
use Rattle.typed_tree.specs.Programs.{Program}
use Rattle.mo_meaning.specs.Acts.{Given}
use Rattle.mo_meaning.specs.Actor.{surroundings}
use Rattle.mo_meaning.specs.Coding.{Coding, Types}
use Rattle.mo_meaning.specs.Kernel.{Entry}
use Rattle.mo_meaning.specs.Messages.{read_values, reading_cost}
use Rattle.mo_machine.specs.ActorLanguage.{machine, Body, Enters, Fields}
use Rattle.mo_machine.specs.Bodies.{execution_of}
use Rattle.mo_machine.specs.States.{with_states}
use Rattle.mo_machine.specs.States as states
use Rattle.mo_machine.specs.Values.{load_list}
use Rattle.value_arena.specs.declared.node.Node.{Node}
use Rattle.value_arena.specs.declared.node.ValueId.{ValueId}
use Rattle.arena_states.specs.declared.group.GroupOf.{GroupOf}
use Rattle.arena_states.specs.Groups.{HasGroups}
use Rattle.arena_states.specs.Standing.{list_of}
use Rattle.arena_reading.specs.Opening.{AreRead, IsReadAs}
use Rattle.arena_actors.specs.declared.actor.Activation.{Activation}
use Rattle.arena_actors.specs.declared.actor.Activation.TheVariants as activation
use Rattle.arena_actors.specs.declared.actor.Actor.{Actor}
use Rattle.arena_actors.specs.declared.actor.Made.{Made}
use Rattle.arena_actors.specs.States.{activation_of, actor_of, came_of, fields_of, table_of, AreAtRest, IsSound, Rests}
use Rattle.arena_actors.proofs.Resting.{rest_more}
use Rattle.arena_outcomes.specs.declared.ran.Done.{Done}
use Rattle.arena_outcomes.specs.declared.ran.Ending.{Ending}
use Rattle.arena_outcomes.specs.declared.ran.Ending.TheVariants as ending
use Rattle.arena_outcomes.specs.declared.ran.Lived.{Lived}
use Rattle.arena_outcomes.specs.declared.ran.Lived.TheVariants as lived
use Rattle.arena_outcomes.specs.declared.ran.Over.{Over}
use Rattle.arena_outcomes.specs.declared.ran.Ran.{Ran}
use Rattle.arena_outcomes.specs.declared.ran.Ran.TheVariants as ran
use Rattle.arena_outcomes.specs.Books as books
use Rattle.arena_outcomes.specs.Books.{completed, effects_of, ending_of}
use Rattle.arena_events.specs.Calling.{after_query, found_course, outcome_by, trapping, IsArrived, IsArrivedKept, IsCompletedBy, IsEntered, IsMissing, IsQueried, IsTold}
use Rattle.arena_outcomes.specs.Ends.{table_in, Ends, IsKept, RestingIn}
use Rattle.arena_events.specs.Lives.{CourseOf, Lives}
use Rattle.arena_outcomes.specs.Running.{IsMethod}
use Rattle.arena_outcomes.proofs.Closes.{closed_rests, closed_sound, closed_table}
use Rattle.arena_outcomes.proofs.Commits.{answers_are, came_after_is, came_after_rests, came_after_within, complete_is}
use Rattle.arena_events.proofs.Follows.{followed_completes, followed_still, followed_traps}
use Rattle.arena_outcomes.proofs.Grown.{left_so, IsLeft, IsPlain}
use Rattle.arena_outcomes.proofs.Placing.{set_last}

pub plain_dead : IsPlain activation.Dead IsDead
plain_dead = record { within = λ ns. tt; means = λ groups ns. refl; rests = tt }

pub plain_answered : IsPlain activation.Answered IsAnswered
plain_answered = record { within = λ ns. tt; means = λ groups ns. refl; rests = tt }

-- ---- an argument that does not read

pub trapping_ends : (groups : ℕ → Functions) (cost : ReadingCost) (table : Vec GroupOf Global) (text : Bytes) (n : ℕ) → Ends groups n (trapping table text n) (after_reading cost (execution.trapping text))
trapping_ends groups cost table text zero = refl
trapping_ends groups cost table text (suc n) = (refl, refl)

-- with nothing read before
pub traps_at_once : (groups : ℕ → Functions) (table : Vec GroupOf Global) (text : Bytes) (n : ℕ) → Ends groups n (trapping table text n) (execution.trapping text)
traps_at_once groups table text zero = refl
traps_at_once groups table text (suc n) = (refl, refl)

pub trapping_table : (table : Vec GroupOf Global) (text : Bytes) (n : ℕ) → table_in (trapping table text n) ≡ table.items
trapping_table table text zero = refl
trapping_table table text (suc n) = refl

-- by the turns
pub trapping_first : (table : Vec GroupOf Global) (text : Bytes) (n : ℕ) → n ≡ 0 → ran.Still table ≡ trapping table text n
trapping_first table text n is = ap (λ (m : ℕ). trapping table text m) (sym is)

pub trapping_later : (table : Vec GroupOf Global) (text copy : Bytes) (prints : List Bytes) (n : ℕ) → (n ≡ 0 → ⊥) → prints ≡ [] → copy ≡ text → ran.Traps table prints copy ≡ trapping table text n
trapping_later table text copy prints zero some none is = absurd (some refl)
trapping_later table text copy prints (suc n) some none is = ap₂ (λ (ls : List Bytes) (t : Bytes). ran.Traps table ls t) none is

read_none : (ns : List Node) (o : Option (List typed.Value)) → IsReadAs ns o None → o ≡ None
read_none ns None h = refl
read_none ns (Some vs) h = absurd h

-- the values that were read
pub record IsRead (ns : List Node) (o : Option (List typed.Value)) (ids : List ValueId) : Type 0 where
  pub values : List typed.Value
  pub are : o ≡ Some values
  pub means : (groups : ℕ → Functions) → list_of groups ns ids ≡ load_list values

read_some : (ns : List Node) (o : Option (List typed.Value)) (ids : List ValueId) → IsReadAs ns o (Some ids) → IsRead ns o ids
read_some ns (Some vs) ids h = record { values = vs; are = refl; means = h.1 }
read_some ns None ids h = absurd h

module _ (types : List Slot) (own : Bytes) (entry : Entry) (caller argument : Bytes) (n : ℕ) (x : Actor) where
  abbrev enters : Coding → (groups : ℕ → Functions) → (first charged : ℕ) → Program → Option Body → Execution (Effects machine)
  enters coding groups first charged p o = after_reading (reading_cost coding types entry.parameters argument) (entered_body (with_states coding first types p) own (actor_of coding types groups x charged) o)

  -- ---- where it does not read

  pub unread_entered : (table : Vec GroupOf Global) (old new : List Node) → table.items ≡ x.table.items → AreRead types entry.parameters argument old None new
      → IsEntered types own entry caller argument n x (trapping table (codes "bad argument") n)
  unread_entered table old new is read = record {
    tables = λ groups has. let Of : List GroupOf → Type 0 = λ l. HasGroups groups l in subst Of (trapping_table table (codes "bad argument") n ∙ is) has;
    kept = kept_so n;
    rests = λ groups has. rests_so groups n;
    means = λ coding faithful groups has first charged p.
        let Of : Option Body → Type 0 = λ o. Ends groups n (trapping table (codes "bad argument") n) (enters coding groups first charged p o) in
        let none : read_values coding types entry.parameters argument ≡ None = read_none new _ (read.means coding faithful) in
        subst Of (sym (ap (λ (o : Option (List typed.Value)). states.entered entry caller o) none)) (trapping_ends groups (reading_cost coding types entry.parameters argument) table (codes "bad argument") n);
  }
    where
      kept_so : (m : ℕ) → IsArrivedKept x (trapping table (codes "bad argument") m)
      kept_so zero = tt
      kept_so (suc m) = tt

      rests_so : (groups : ℕ → Functions) (m : ℕ) → RestingIn groups (trapping table (codes "bad argument") m)
      rests_so groups zero = tt
      rests_so groups (suc m) = tt

  -- ---- where it reads

  module _ (z : Actor) (tabled : z.table.items ≡ x.table.items) (first_is : z.first ≡ x.first) (made_is : z.made ≡ x.made)
      (fields_are : (groups : ℕ → Functions) → fields_of groups z.arena z.store.items z.exports ≡ fields_of groups x.arena x.store.items x.exports)
      (came_is : (groups : ℕ → Functions) → came_of groups z.arena z.came ≡ came_of groups x.arena x.came ++ IsDead ∷ []) where
    kept_arrived : (r : Ran) → IsKept z r → IsArrivedKept x r
    kept_arrived (ran.Still table) h = tt
    kept_arrived (ran.Traps table prints text) h = tt
    kept_arrived (ran.Completes d) h = record {
      sound = h.sound;
      first = h.first ∙ first_is;
      made = h.made ∙ made_is;
      came = λ groups. h.came groups ∙ came_is groups;
      within = h.within;
    }

    -- the cost of reading shows in nothing else
    after_cost : (groups : ℕ → Functions) (cost : ReadingCost) (r : Ran) (e : Execution (Effects machine)) → Ends groups n r e → Ends groups n r (after_reading cost e)
    after_cost groups cost (ran.Still table) e h = h
    after_cost groups cost (ran.Traps table prints text) e h = h
    after_cost groups cost (ran.Completes d) e h = h

    pub read_entered : (old : List Node) (ids : List ValueId) (r : Ran) → AreRead types entry.parameters argument old (Some ids) z.arena → IsMethod types own entry.results entry.place caller ids n z r
        → IsEntered types own entry caller argument n x r
    read_entered old ids r read h = record {
      tables = λ groups has. let Of : List GroupOf → Type 0 = λ l. HasGroups groups l in subst Of tabled (h.tables groups has);
      kept = kept_arrived r h.kept;
      rests = h.rests;
      means = λ coding faithful groups has first charged p.
          let k : IsRead z.arena (read_values coding types entry.parameters argument) ids = read_some z.arena _ ids (read.means coding faithful) in
          let runs : CallTable (List TypeId) Given → Fields → Execution (Effects machine) = λ table these. execution_of (surroundings coding types own table) these (Enters entry caller k.values) in
          let there : Ends groups n r (runs (table_of coding types z.first z.made) (fields_of groups z.arena z.store.items z.exports)) = h.means coding faithful groups has entry k.values refl refl (sym (k.means groups)) in
          let At : Fields → Type 0 = λ these. Ends groups n r (runs (table_of coding types z.first z.made) these) in
          let To : CallTable (List TypeId) Given → Type 0 = λ table. Ends groups n r (runs table (fields_of groups x.arena x.store.items x.exports)) in
          let table_is : table_of coding types z.first z.made ≡ table_of coding types x.first x.made = ap₂ (λ (m : ℕ) (ms : List Made). table_of coding types m ms) first_is made_is in
          let here : Ends groups n r (runs (table_of coding types x.first x.made) (fields_of groups x.arena x.store.items x.exports)) = subst To table_is (subst At (fields_are groups) there) in
          let Of : Option Body → Type 0 = λ o. Ends groups n r (enters coding groups first charged p o) in
          subst Of (sym (ap (λ (o : Option (List typed.Value)). states.entered entry caller o) k.are)) (after_cost groups (reading_cost coding types entry.parameters argument) r (runs (table_of coding types x.first x.made) (fields_of groups x.arena x.store.items x.exports)) here);
    }

-- ---- what a query leaves

abbrev query_state : Ending → actor.Activation machine
query_state (ending.Replies bytes) = IsAnswered
query_state (ending.Rejects text) = IsAnswered
query_state (ending.Waits number b) = IsDead
query_state ending.Sleeps = IsDead
query_state ending.Unchanged = IsDead

plain_query : (e : Ending) → IsPlain (after_query e) (query_state e)
plain_query (ending.Replies bytes) = plain_answered
plain_query (ending.Rejects text) = plain_answered
plain_query (ending.Waits number b) = plain_dead
plain_query ending.Sleeps = plain_dead
plain_query ending.Unchanged = plain_dead

-- ---- what comes of an execution

-- the actor and the items of an outcome
abbrev Reaches : Coding → Types → (ℕ → Functions) → Outcome (actor.Actor machine) → Over → ℕ → Type 0
Reaches coding types groups reached o after = reached ≡ outcome o.items (actor_of coding types groups o.actor after)

trapped_by : (query : Bool) (owner : ℕ) (a : actor.Actor machine) (prints : List Bytes) (text : Bytes) → outcome_by query owner a (Trapped prints text) ≡ close owner (trap_items prints (word.Text text)) a
trapped_by true owner a prints text = refl
trapped_by false owner a prints text = refl

lives_as : (types : Types) (course : CourseOf) (n : ℕ) (x : Actor) (l form : Lived) → l ≡ form → Lives types course n x form → Lives types course n x l
lives_as types course n x l form is h = let Of : Lived → Type 0 = λ k. Lives types course n x k in subst Of (sym is) h

module _ (types : List Slot) (own : Bytes) (entry : Entry) (caller argument : Bytes) (n : ℕ) (x : Actor) (query : Bool) (p : Program) where
  abbrev course : CourseOf
  course coding first a = found_course (with_states coding first types p) own query entry caller argument a

  abbrev was : Coding → (ℕ → Functions) → ℕ → actor.Actor machine
  was coding groups charged = actor_of coding types groups x charged

  abbrev runs : Coding → (groups : ℕ → Functions) → (first charged : ℕ) → Execution (Effects machine)
  runs coding groups first charged = entered (with_states coding first types p) own (was coding groups charged) entry caller argument

  abbrev told : Coding → (ℕ → Functions) → ℕ → Result (Effects machine) → Outcome (actor.Actor machine)
  told coding groups charged r = outcome_by query (length (was coding groups charged).activations) (arrived (was coding groups charged)) r

  called_still : (table : Vec GroupOf Global) → IsEntered types own entry caller argument n x (ran.Still table) → Lives types course n x (lived.Still table)
  called_still table h = record {
    sound = tt;
    tables = h.tables;
    rests = λ groups has rests. tt;
    means = λ coding faithful groups has rests first charged. followed_still first charged n (runs coding groups first charged) (told coding groups charged) (h.means coding faithful groups has first charged p);
  }

  called_traps : (table : Vec GroupOf Global) (prints : List Bytes) (text : Bytes) (o : Over) → IsEntered types own entry caller argument n x (ran.Traps table prints text)
      → IsLeft x table.items IsDead (map item.Print prints ++ item.Trapped (word.Text text) ∷ []) o → Lives types course n x (lived.Over o)
  called_traps table prints text o h left = record {
    sound = left.sound;
    tables = λ groups has. h.tables groups (there groups has);
    rests = λ groups has rests. left.rests groups rests;
    means = λ coding faithful groups has rests first charged.
        let e = h.means coding faithful groups (there groups has) first charged p in
        let x_n = runs coding groups first charged n in
        let reached : Reaches coding types groups (told coding groups charged (Trapped x_n.prints text)) o charged =
        trapped_by query (length (was coding groups charged).activations) (arrived (was coding groups charged)) x_n.prints text
        ∙ ap (λ (ps : List Bytes). close (length (was coding groups charged).activations) (trap_items ps (word.Text text)) (arrived (was coding groups charged))) e.0
        ∙ left.means coding types groups charged in
        (followed_to (told coding groups charged (Trapped x_n.prints text)) [] [], followed_traps first charged n (runs coding groups first charged) (told coding groups charged) text e.1, charged, reached);
  }
    where
      there : (groups : ℕ → Functions) → HasGroups groups o.actor.table.items → HasGroups groups table.items
      there groups has = let Of : List GroupOf → Type 0 = λ l. HasGroups groups l in subst Of left.tabled has

  -- what an execution that completes comes to
  module _ (d : Done) (o : Over) (h : IsEntered types own entry caller argument n x (ran.Completes d)) where
    abbrev result : Coding → (groups : ℕ → Functions) → (first charged : ℕ) → Result (Effects machine)
    result coding groups first charged = Completed (runs coding groups first charged n).prints (runs coding groups first charged n).weight (effects_of groups d)

    completes : (tabled : o.actor.table.items ≡ d.actor.table.items) → IsSound o.actor → ((groups : ℕ → Functions) → HasGroups groups d.actor.table.items → Rests groups x → Rests groups o.actor)
        → ((coding : Coding) (groups : ℕ → Functions) (first charged : ℕ) → (runs coding groups first charged n).prints ≡ d.prints
        → (after : ℕ) × Reaches coding types groups (told coding groups charged (result coding groups first charged)) o after)
        → Lives types course n x (lived.Over o)
    completes tabled sound rests means = record {
      sound = sound;
      tables = λ groups has. h.tables groups (there groups has);
      rests = λ groups has k. rests groups (there groups has) k;
      means = λ coding faithful groups has k first charged.
          let e = h.means coding faithful groups (there groups has) first charged p in
          let reached = means coding groups first charged e.0 in
          (followed_to (told coding groups charged (result coding groups first charged)) [] [], followed_completes first charged n (runs coding groups first charged) (told coding groups charged) (effects_of groups d) e.1, reached.0, reached.1);
    }
      where
        there : (groups : ℕ → Functions) → HasGroups groups o.actor.table.items → HasGroups groups d.actor.table.items
        there groups has = let Of : List GroupOf → Type 0 = λ l. HasGroups groups l in subst Of tabled has

  -- ---- a query

  replied : (coding : Coding) (groups : ℕ → Functions) (charged : ℕ) (items : List Item) → let a : actor.Actor machine = was coding groups charged in
      close (length a.activations) items (record a { activations = slice_set (a.activations ++ IsDead ∷ []) (length a.activations) IsAnswered })
      ≡ close (length a.activations) items (record a { activations = a.activations ++ IsAnswered ∷ [] })
  replied coding groups charged items =
      let a : actor.Actor machine = was coding groups charged in
      ap (λ (l : List (actor.Activation machine)). close (length a.activations) items (record a { activations = l })) (set_last a.activations IsDead IsAnswered)

  query_left : (coding : Coding) (groups : ℕ → Functions) (charged : ℕ) (ns : List Node) (items : List Item) (e : Ending) → let a : actor.Actor machine = was coding groups charged in
      close (length a.activations) items (completions.after_query (length a.activations) (ending_of groups ns e) (arrived a))
      ≡ close (length a.activations) items (record a { activations = a.activations ++ query_state e ∷ [] })
  query_left coding groups charged ns items (ending.Replies bytes) = replied coding groups charged items
  query_left coding groups charged ns items (ending.Rejects text) = replied coding groups charged items
  query_left coding groups charged ns items (ending.Waits number b) = refl
  query_left coding groups charged ns items ending.Sleeps = refl
  query_left coding groups charged ns items ending.Unchanged = refl

  called_query : (d : Done) (o : Over) → query ≡ true → IsEntered types own entry caller argument n x (ran.Completes d) → IsQueried x d o → Lives types course n x (lived.Over o)
  called_query d o is h told_so =
      let left : IsLeft x d.actor.table.items (query_state d.ending) (map item.Print d.prints ++ books.answer_items (length x.came) d.ending) o =
      left_so x d.actor.table.items (after_query d.ending) (query_state d.ending) (map item.Print d.prints ++ books.answer_items (length x.came) d.ending) o (plain_query d.ending) told_so in
      completes d o h left.tabled left.sound (λ groups has rests. left.rests groups rests)
      (λ coding groups first charged same.
      let a : actor.Actor machine = was coding groups charged in
      let many : length a.activations ≡ length x.came = length-map x.came (λ (y : Activation). activation_of groups x.arena y) in (
        charged,
        ap (λ (b : Bool). outcome_by b (length a.activations) (arrived a) (result d o h coding groups first charged)) is
            ∙ ap (λ (items : List Item). close (length a.activations) items (completions.after_query (length a.activations) (ending_of groups d.actor.arena d.ending) (arrived a)))
            (ap₂ (λ (ps : List Bytes) (items : List Item). print_items ps ++ items) same
            (answers_are groups d.actor.arena (length a.activations) d.ending ∙ ap (λ (owner : ℕ). books.answer_items owner d.ending) many))
            ∙ query_left coding groups charged d.actor.arena (map item.Print d.prints ++ books.answer_items (length x.came) d.ending) d.ending
            ∙ left.means coding types groups charged,
      ))

  -- ---- an update

  called_update : (d : Done) (o : Over) → query ≡ false → IsEntered types own entry caller argument n x (ran.Completes d) → o ≡ completed (length x.came) d → Lives types course n x (lived.Over o)
  called_update d o is h done =
      let owner : ℕ = length x.came in
      let before : Over = record { items = books.completed_items owner d; actor = books.committed owner d } in
      let k : IsArrived x d = h.kept in
      let sound : IsSound before.actor = record { stores = k.sound.stores; exports = k.sound.exports; came = came_after_within d.actor.arena owner d.ending d.actor.came k.sound.came k.within } in
      let Of : Over → Type 0 = λ z. Lives types course n x (lived.Over z) in
      subst Of (sym done)
      (completes d (completed owner d) h (closed_table owner before) (closed_sound owner before sound)
      (λ groups has rests. closed_rests groups owner before
      (came_after_rests groups d.actor.arena owner d.ending d.actor.came
      (let At : List (actor.Activation machine) → Type 0 = λ l. AreAtRest l in subst At (sym (k.came groups)) (rest_more (came_of groups x.arena x.came) IsDead rests tt))
      (h.rests groups has)))
      (λ coding groups first charged same.
      let a : actor.Actor machine = was coding groups charged in
      let here : actor.Actor machine = arrived a in
      let many : length a.activations ≡ owner = length-map x.came (λ (y : Activation). activation_of groups x.arena y) in
      let weight : ℕ = (runs coding groups first charged n).weight in
      let table_is : here.table ≡ table_of coding types d.actor.first d.actor.made = ap₂ (λ (m : ℕ) (ms : List Made). table_of coding types m ms) (sym k.first) (sym k.made) in
      let came_so : slice_set here.activations owner (activation_after (ending_of groups d.actor.arena d.ending) (activation_at here.activations owner)) ≡ came_of groups d.actor.arena (books.came_after owner d.ending d.actor.came) =
      ap (λ (l : List (actor.Activation machine)). slice_set l owner (activation_after (ending_of groups d.actor.arena d.ending) (activation_at l owner))) (sym (k.came groups))
      ∙ came_after_is groups d.actor.arena owner d.ending d.actor.came in (
        charged + weight,
        ap (λ (b : Bool). outcome_by b (length a.activations) here (result d o h coding groups first charged)) is
            ∙ ap (λ (m : ℕ). complete m (runs coding groups first charged n).prints weight (effects_of groups d) here) many
            ∙ complete_is coding types groups d owner weight here table_is came_so (runs coding groups first charged n).prints same,
      )))

  -- ---- all of them

  pub called_so : (r : Ran) (l : Lived) → IsEntered types own entry caller argument n x r → IsTold x query r l → Lives types course n x l
  called_so (ran.Still table) l h is = lives_as types course n x l (lived.Still table) is (called_still table h)
  called_so (ran.Traps table prints text) l h t =
      lives_as types course n x l (lived.Over t.0) t.1
      (called_traps table prints text t.0 h (left_so x table.items activation.Dead IsDead (map item.Print prints ++ item.Trapped (word.Text text) ∷ []) t.0 plain_dead t.2))
  called_so (ran.Completes d) l h t = lives_as types course n x l (lived.Over t.0) t.1 (by query refl t.2)
    where
      by : (b : Bool) → query ≡ b → IsCompletedBy b x d t.0 → Lives types course n x (lived.Over t.0)
      by true is k = called_query d t.0 is h k
      by false is k = called_update d t.0 is h k

-- ---- no method

answered_last : (xs : List (actor.Activation machine)) → activation_at (xs ++ IsAnswered ∷ []) (length xs) ≡ IsAnswered
answered_last [] = refl
answered_last (y ∷ xs) = answered_last xs

pub missing_so : (x : Actor) (o : Over) (table : List GroupOf) → table ≡ x.table.items
    → IsLeft x table IsAnswered (item.Rejected (length x.came) 5 (codes "no method") ∷ []) o → IsMissing x (lived.Over o)
missing_so x o table is left types n = record {
  sound = left.sound;
  tables = λ groups has. let Of : List GroupOf → Type 0 = λ l. HasGroups groups l in subst Of (left.tabled ∙ is) has;
  rests = λ groups has rests. left.rests groups rests;
  means = λ coding faithful groups has rests first charged.
      let a : actor.Actor machine = actor_of coding types groups x charged in
      let many : length a.activations ≡ length x.came = length-map x.came (λ (y : Activation). activation_of groups x.arena y) in
      let after : actor.Actor machine = record a { activations = a.activations ++ IsAnswered ∷ [] } in
      let items : List Item = item.Rejected (length x.came) 5 (codes "no method") ∷ [] in
      let open_calls : Bool = actor.owns_open a.table (length a.activations) in
      let closes : close (length a.activations) items after ≡ outcome items after =
      ap (λ (y : actor.Activation machine). cond (not (actor.is_answered y) && not open_calls) (rejected (length a.activations) 5 (codes "no answer") items after) (outcome items after)) (answered_last a.activations) in (
        followed_to (rejected (length a.activations) 5 (codes "no method") [] (arrived a)) [] (ToItsEnd n ∷ []),
        refl,
        charged,
        ap₂ (λ (owner : ℕ) (l : List (actor.Activation machine)). outcome (item.Rejected owner 5 (codes "no method") ∷ []) (record a { activations = l })) many (set_last a.activations IsDead IsAnswered)
            ∙ sym closes
            ∙ left.means coding types groups charged,
      );
}
