-- Calls of routines that keep their lines.
use Rattle.std.proofs.Common.{◌≡◌, ℕ, zero, suc, ◌+◌, ◌-◌, ◌≤◌, List, true, false, nat_lt, cond, Option, Some, None, refl, ap, ◌∙◌, arith}
use Rattle.std.proofs.lemmas.Bool.Decides.{nat_tests}
use Rattle.wasm_tree.specs.declared.trap.Trap.TheVariants as trap
use Rattle.wasm_tree.specs.declared.types.FunctionType.{FunctionType}
use Rattle.wasm_tree.specs.Exec.{Store, Host, HostAnswer, Answers, Refuses}
use Rattle.low_ir.specs.Tree.{Function, Module}
use Rattle.low_ir.specs.Numbering.{type_of, defined}
use Rattle.low_ir.specs.Meaning.{Called, Fell, Calls, run}
use Rattle.low_ir.specs.Frames.{words, finish, host_gives, enter_as, enter}
use Rattle.low_rules.specs.Rule.{state, CodeEnd, Next, Leaps, Yields, Stops, spent_of, outcome_of, CallEnd, Comes, Dies, cost_of, called_of, Contracts, Before, ComesTo, Meets, begins, ends}
use Rattle.low_rules.specs.Lines.{Table, line, host_end, Keeps, TableIsKept, tested, LinesAreMet}
use Rattle.low_rules.proofs.Sound.{sound}

-- Of the end of a body.
closed : {World : Type 0} (t : FunctionType) (q : CallEnd World → Type 0) (e : CodeEnd World) (f : ℕ → Called World) → ends t q e → ((left n : ℕ) → left ≡ spent_of e + n → f left ≡ finish t (outcome_of n e))
    → (end : CallEnd World) × q end × ((left n : ℕ) → left ≡ cost_of end + n → f left ≡ called_of n end)
closed t q (Next h) f b by = (Comes h.spent h.store None, b, by)
closed t q (Leaps zero h) f b by = (Comes h.spent h.store None, b, by)
closed t q (Leaps (suc label) h) f b by = absurd b
closed t q (Yields h value) f b by = (Comes h.spent h.store _, b, by)
closed t q (Stops cause spent store) f b by = (Dies cause spent store, b, by)

not_below : (a b : ℕ) → b ≤ a → nat_lt a b ≡ false
not_below a b h = grind (arith, nat_tests)

pub weaker : {World : Type 0} (calls : Calls World) (f : ℕ) (store : Store World) (args : List ℕ) (p q : CallEnd World → Type 0) → ((end : CallEnd World) → p end → q end) → ComesTo calls f store args p → ComesTo calls f store args q
weaker calls f store args p q then c = record { end = c.end; holds = then c.end c.holds; by = c.by }

module _ {World : Type 0} (pages : ℕ) (m : Module) (host : Host World) where
  -- With room for its frame, and where the calls that it makes meet their contracts with what room is left.
  pub routine : (deep room f : ℕ) (t : FunctionType) (fn : Function) (does : Contracts World) (store : Store World) (args : List ℕ) (q : CallEnd World → Type 0) → type_of m f ≡ Some t → defined m f ≡ Some fn → words t fn ≤ room
      → Meets (enter deep pages m host (room - words t fn)) does → Before pages m does fn.body (ends t q) (begins fn store args) → ComesTo (enter (suc deep) pages m host room) f store args q
  routine deep room f t fn does store args q typed there fits meets b =
      let r = sound pages m (enter deep pages m host (room - words t fn)) does meets fn.body (ends t q) (begins fn store args) b in
      let inner : ℕ → Calls World = λ (room : ℕ). enter deep pages m host room in
      let at : (left : ℕ) → enter (suc deep) pages m host room f left store args ≡ finish t (run pages m (inner (room - words t fn)) fn.body (state left (begins fn store args))) =
      λ left.
      (λ i. enter_as pages m host room inner (typed i) (there i) f left store args)
      ∙ ap (λ x. cond x (Fell trap.Stack store) (finish t (run pages m (inner (room - words t fn)) fn.body (state left (begins fn store args))))) (not_below room (words t fn) fits) in
      let same : spent_of r.end ≡ r.cost = omega (arith, r.total) in
      let c = closed t q r.end (λ left. enter (suc deep) pages m host room f left store args) r.holds (λ left n e. at left ∙ ap (finish t) (r.by left n (omega (arith, e, same)))) in
      record { end = c.0; holds = c.1; by = c.2 }

  host_cost : (store : Store World) (a : HostAnswer World) → cost_of (host_end store a) ≡ 0
  host_cost store (Answers value memory world) = refl
  host_cost store (Refuses world) = refl

  host_calls : (left : ℕ) (store : Store World) (a : HostAnswer World) → host_gives left store a ≡ called_of left (host_end store a)
  host_calls left store (Answers value memory world) = refl
  host_calls left store (Refuses world) = refl

  -- A call of the host.
  pub answered : (deep room f : ℕ) (t : FunctionType) (store : Store World) (args : List ℕ) (q : CallEnd World → Type 0) → type_of m f ≡ Some t → defined m f ≡ None
      → q (host_end store (host f args store.memory store.world)) → ComesTo (enter (suc deep) pages m host room) f store args q
  answered deep room f t store args q typed there h =
      let inner : ℕ → Calls World = λ (room : ℕ). enter deep pages m host room in
      let none = host_cost store (host f args store.memory store.world) in
      record {
        end = host_end store (host f args store.memory store.world);
        holds = h;
        by = λ left n e.
            (λ i. enter_as pages m host room inner (typed i) (there i) f left store args) ∙ host_calls left store (host f args store.memory store.world)
            ∙ ap (λ left. called_of left (host_end store (host f args store.memory store.world))) (omega (arith, e, none));
      }

  module _ (table : Table World) (keeps : TableIsKept pages m host table) where
    -- Where the lines of the level below are met.
    one : (level deep room f : ℕ) (store : Store World) (args : List ℕ) (q : CallEnd World → Type 0) → ((end : CallEnd World) → table.Does (suc level) f store args end → q end) → table.words (suc level) ≤ room → ((room : ℕ) → table.words level ≤ room → Meets (enter deep pages m host room) (line table level))
        → (found : Option FunctionType) (there : Option Function) → type_of m f ≡ found → defined m f ≡ there → Keeps pages m host table level f store args found there → ComesTo (enter (suc deep) pages m host room) f store args (table.Does (suc level) f store args)
    one level deep room f store args q then fits ih None there typed is k = absurd k
    one level deep room f store args q then fits ih (Some t) None typed is k = answered deep room f t store args (table.Does (suc level) f store args) typed is k
    one level deep room f store args q then fits ih (Some t) (Some fn) typed is k =
        routine deep room f t fn (line table level) store args (table.Does (suc level) f store args) typed is (omega (arith, k.room, fits)) (ih (room - words t fn) (omega (arith, k.room, fits))) k.body

    -- The lines of each level are met, with a depth and room for them.
    pub lines_met : (level deep room : ℕ) → level ≤ deep → table.words level ≤ room → Meets (enter deep pages m host room) (line table level)
    lines_met zero deep room less fits f store args q d = absurd (keeps.none f store args d.0)
    lines_met (suc level) zero room less fits f store args q d = absurd (omega arith)
    lines_met (suc level) (suc deep) room less fits f store args q d =
        weaker (enter (suc deep) pages m host room) f store args (table.Does (suc level) f store args) q d.1
        (one level deep room f store args q d.1 fits (λ room fits. lines_met level deep room (omega arith) fits) (type_of m f) (defined m f) refl refl (keeps.kept level f store args d.0))

pub tested_lines_met : (World : Type 0) → LinesAreMet World
tested_lines_met World asks does words pages m host keeps level deep room less fits f store args asked =
    lines_met pages m host (tested asks does words) keeps level deep room less fits f store args (λ end. does level f store args end ≡ true) (asked, λ end h. h)
