-- From the end of an entry's call to what the host sees of its query: a reply, or a trap with the text.
use Rattle.std.proofs.Common.{◌≡◌, inl, inr, ◌+◌, ◌-◌, ◌*◌, ◌≤◌, ℕ, suc, List, [], ◌∷◌, Some, false, refl, sym, ap, ◌∙◌, subst, arith}
use Rattle.play_script.specs.declared.item.Word.TheVariants as word
use Rattle.wasm_tree.specs.Imports.{entry_type}
use Rattle.wasm_tree.specs.Exec.{ExecutionLimits, Store}
use Rattle.wasm_tree.specs.Load.{Instance}
use Rattle.ic0_world.specs.declared.world.World.{World}
use Rattle.ic0_world.specs.declared.kind.ExecutionKind.TheVariants.{Query}
use Rattle.canister_host.specs.Execution.{End, Breaks, entered_as, store_of}
use Rattle.low_ir.specs.Tree.{Function}
use Rattle.low_ir.specs.Numbering.{type_of, defined}
use Rattle.low_ir.specs.Meaning.{Called}
use Rattle.low_ir.specs.Frames.{words, enter}
use Rattle.low_rules.specs.Rule.{CallEnd, cost_of, called_of, ComesTo, Before, begins, ends}
use Rattle.low_rules.specs.Lines.{line}
use Rattle.low_rules.proofs.Entering.{routine, lines_met}
use Rattle.low_execution.specs.Host.{low_host}
use Rattle.low_execution.specs.Execution.{then_go, low_run, low_end, low_execution}
use Rattle.wasm_emit.proofs.Compile.{emitted_keep}
use Rattle.routine_lines.specs.Roles.{top_in, frame_words, routine_table}
use Rattle.routine_lines.proofs.Linked.{table_kept}
use Rattle.first_run_time.specs.RunTime.{run_time, signature_of}
use Rattle.first_run_time.specs.Laws.{IsAsked, query_of, replied, RepliesWith, EndsShort, executed}
use Rattle.first_run_time.proofs.Formed.{run_time_formed, run_time_has}
use Rattle.first_run_time.proofs.Hosts.{fresh, answered}
use Rattle.first_run_time.proofs.Queries.{EndsWith}
use Rattle.first_run_time.proofs.Short.{TrapsWith}

module _ (limits : ExecutionLimits) (i : Instance) (w : World) (asked : IsAsked w) (most : ℕ) (enough : most ≤ limits.steps) (Holds : CallEnd World → Type 0) (Replies : End → Type 0) where
  abbrev s : Store World
  s = store_of i w

  abbrev begun : Store World
  begun = record { memory = i.memory; globals = i.globals; table = i.table; refused = false; world = fresh w }

  -- The query's world is the one that is entered.
  entered : entered_as Query s ≡ begun
  entered = λ j. record { memory = i.memory; globals = i.globals; table = i.table; refused = false; world = record w { kind = Query; answered = asked.before j; answer = asked.answer j; reply_data = asked.reply j } }

  abbrev after : Called World → End
  after c = low_end (then_go c (low_run limits run_time []))

  module _ (cheap : (end : CallEnd World) → Holds end → cost_of end ≤ most) (ended : (end : CallEnd World) (n : ℕ) → Holds end → Replies (after (called_of n end))) where
    low_ends : (f : ℕ) → ComesTo (enter (suc limits.stack) limits.pages run_time low_host limits.stack) f begun [] Holds → Replies (low_execution limits run_time i (query_of f ∷ []) w)
    low_ends f c =
        let left : ℕ = limits.steps - cost_of c.end in
        let total : limits.steps ≡ cost_of c.end + left = omega (arith, cheap c.end c.holds, enough) in
        let at : enter (suc limits.stack) limits.pages run_time low_host limits.stack f limits.steps (entered_as Query s) [] ≡ called_of left c.end = ap (λ s. enter (suc limits.stack) limits.pages run_time low_host limits.stack f limits.steps s []) entered ∙ c.by limits.steps left total in
        subst (λ c. Replies (after c)) (sym at) (ended c.end left c.holds)

    -- Of an entry whose body keeps this, by lines of a level.
    execution_ends : (f level : ℕ) (fn : Function) → type_of run_time f ≡ Some entry_type → defined run_time f ≡ Some fn → level ≤ limits.stack → words entry_type fn + frame_words * level ≤ limits.stack
        → Before limits.pages run_time (line (routine_table limits.pages run_time low_host) level) fn.body (ends entry_type Holds) (begins fn begun [])
        → Replies (executed limits f i w)
    execution_ends f level fn typed there deep room body =
        let c =
        routine limits.pages run_time low_host limits.stack limits.stack f entry_type fn (line (routine_table limits.pages run_time low_host) level) begun [] Holds typed there (omega (arith, room))
        (lines_met limits.pages run_time low_host (routine_table limits.pages run_time low_host) (table_kept limits.pages run_time low_host signature_of run_time_has) level limits.stack (limits.stack - words entry_type fn) deep (omega (arith, room))) body in
        subst Replies
        (sym ((emitted_keep run_time run_time_formed).executes limits i (query_of f ∷ []) w (record { type = entry_type; is = typed; arity = refl }, tt)))
        (low_ends f c)

module _ (limits : ExecutionLimits) (i : Instance) (w : World) (asked : IsAsked w) (most needs : ℕ) where
  -- A reply.

  module _ (text : List ℕ) (enough : most ≤ limits.steps) where
    abbrev Holds : CallEnd World → Type 0
    Holds end = EndsWith limits.pages most needs text (store_of i w) w end

    abbrev Replies : End → Type 0
    Replies end = RepliesWith text needs limits.pages (top_in (store_of i w)) w end

    same_reply : answered text w ≡ replied text w
    same_reply = λ j. record (replied text w) { answered = sym asked.before j }

    ended : (end : CallEnd World) (n : ℕ) → Holds end → Replies (low_end (then_go (called_of n end) (low_run limits run_time [])))
    ended end n (inl (cost, le, store, e, is)) = subst (λ end. Replies (low_end (then_go (called_of n end) (low_run limits run_time [])))) (sym e) (inl (store, refl, is ∙ same_reply))
    ended end n (inr (cost, le, store, e, is, wants)) =
        subst (λ end. Replies (low_end (then_go (called_of n end) (low_run limits run_time [])))) (sym e) (inr (ap (λ (w : World). Breaks word.Heap w.prints) is, wants))

    cheap : (end : CallEnd World) → Holds end → cost_of end ≤ most
    cheap end (inl (cost, le, store, e, is)) = subst (λ end. cost_of end ≤ most) (sym e) le
    cheap end (inr (cost, le, store, e, is, wants)) = subst (λ end. cost_of end ≤ most) (sym e) le

    pub executes : (f level : ℕ) (fn : Function) → type_of run_time f ≡ Some entry_type → defined run_time f ≡ Some fn → level ≤ limits.stack → words entry_type fn + frame_words * level ≤ limits.stack
        → Before limits.pages run_time (line (routine_table limits.pages run_time low_host) level) fn.body (ends entry_type Holds) (begins fn (record { memory = i.memory; globals = i.globals; table = i.table; refused = false; world = fresh w }) [])
        → Replies (executed limits f i w)
    executes = execution_ends limits i w asked most enough Holds Replies cheap ended

  -- A trap with the text.

  module _ (enough : most ≤ limits.steps) where
    abbrev Traps : CallEnd World → Type 0
    Traps end = TrapsWith limits.pages most needs (store_of i w) w end

    abbrev Refuses : End → Type 0
    Refuses end = EndsShort needs limits.pages (top_in (store_of i w)) w end

    refuses : (end : CallEnd World) (n : ℕ) → Traps end → Refuses (low_end (then_go (called_of n end) (low_run limits run_time [])))
    refuses end n (inl (cost, le, store, e, is)) =
        subst (λ end. Refuses (low_end (then_go (called_of n end) (low_run limits run_time [])))) (sym e) (inl (ap (λ (w : World). Breaks (word.Text w.trap_text) w.prints) is))
    refuses end n (inr (cost, le, store, e, is, wants)) =
        subst (λ end. Refuses (low_end (then_go (called_of n end) (low_run limits run_time [])))) (sym e) (inr (ap (λ (w : World). Breaks word.Heap w.prints) is, wants))

    cheaply : (end : CallEnd World) → Traps end → cost_of end ≤ most
    cheaply end (inl (cost, le, store, e, is)) = subst (λ end. cost_of end ≤ most) (sym e) le
    cheaply end (inr (cost, le, store, e, is, wants)) = subst (λ end. cost_of end ≤ most) (sym e) le

    pub executes_to_trap : (f level : ℕ) (fn : Function) → type_of run_time f ≡ Some entry_type → defined run_time f ≡ Some fn → level ≤ limits.stack → words entry_type fn + frame_words * level ≤ limits.stack
        → Before limits.pages run_time (line (routine_table limits.pages run_time low_host) level) fn.body (ends entry_type Traps) (begins fn (record { memory = i.memory; globals = i.globals; table = i.table; refused = false; world = fresh w }) [])
        → Refuses (executed limits f i w)
    executes_to_trap = execution_ends limits i w asked most enough Traps Refuses cheaply refuses
