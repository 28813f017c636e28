-- Executions that are cut off at a limit, and whether their weight bears it out: they are undone as by a trap, and the actor
-- goes on.
use Rattle.std.specs.Prelude.{ℕ, zero, suc, ◌+◌, ◌*◌, List, [], ◌∷◌, ◌++◌, map, Bool, true, false, ◌&&◌, nat_le, Option, Some, None, codes}
use Rattle.play_script.specs.declared.event.Event.{Event}
use Rattle.play_script.specs.declared.event.Event.TheVariants as event
use Rattle.play_script.specs.declared.item.Item.{Item}
use Rattle.play_script.specs.declared.item.Item.TheVariants as item
use Rattle.play_script.specs.declared.item.Word.{Word}
use Rattle.play_script.specs.declared.item.Word.TheVariants as word
use Rattle.mo_types.specs.Graph.{head_at}
use Rattle.mo_values.specs.Shapes.{Bytes}
use Rattle.mo_actor.specs.Computed.{Extent, ToItsEnd, ToALimit, Transcript, transcript_after}
use Rattle.mo_actor.specs.Measures.{Exhaustion}
use Rattle.typed_tree.specs.Language.{Exp, Val, Name, Group, While, NoFunction, unit, let_in, then}
use Rattle.typed_tree.specs.Patterns.{Bind}
use Rattle.typed_tree.specs.declared.action.Member.TheVariants as member
use Rattle.typed_tree.specs.Programs.{Program}
use Rattle.mo_meaning.specs.BenchRows.{bench, ask_f, ask_t}
use Rattle.mo_meaning.specs.ExampleCoding.{leb}
use Rattle.mo_meaning.specs.ExampleTypes.{graph, nat}
use Rattle.mo_meaning.specs.Playing.{meant, own, calls, queries, empty, nat_message, no_answer, didl}
use Rattle.mo_meaning.specs.UpgradeRows.{keeper}
use Rattle.mo_meaning.specs.Writing.{number, true_exp, await, call, method_of, shared, update, query, methods_alone}

pub record Limits : Type 0 where
  pub steps : ℕ
  pub stack : ℕ
  pub pages : ℕ

-- `Spent` of the crate of actors as a test
abbrev pub is_spent : Limits → Word → Exhaustion → Bool
is_spent l word.Steps e = nat_le l.steps (32768 * (e.weight + 1))
is_spent l word.Stack e = nat_le l.stack (8 * e.depth + 4096)
is_spent l word.Heap e = nat_le (65536 * l.pages) (e.first_memory + 256 * (e.weight + e.charged + 1))
is_spent l _ e = false

abbrev pub are_spent : Limits → List Exhaustion → Bool
are_spent l [] = true
are_spent l (e ∷ es) = is_spent l e.cause e && are_spent l es

-- the items, and whether each exhaustion is borne out
pub record Measured : Type 0 where
  pub items : List Item
  pub spent : Bool

abbrev pub measured : Limits → Option Transcript → Option Measured
measured l None = None
measured l (Some t) = Some (record { items = t.items; spent = are_spent l t.exhaustions })

abbrev pub plays_under : Limits → List Extent → List Program → List Event → Option Measured
plays_under l extents programs events = measured l (transcript_after extents (map meant programs) own (event.Install 0 ∷ events))

abbrev pub whole : Extent
whole = ToItsEnd 100

-- ---- `actor { public func spin() : async () { loop {} }; public query func one() : async Nat { 1 } }`, 1,000,000 steps

abbrev pub forever : Exp
forever = While true_exp (Val unit)

abbrev pub spinning : Program
spinning = record {
  head = head_at graph;
  stable = [];
  methods = update (codes "spin") [] [] ∷ query (codes "one") [] (nat ∷ []) ∷ [];
  nodes = 2;
  body = Group (shared 3 [] forever (shared 2 [] (number 1) NoFunction)) (methods_alone (Name 0 ∷ Name 1 ∷ []));
}

abbrev pub a_million : Limits
a_million = record { steps = 1000000; stack = 4194304; pages = 64 }

-- it is cut off after so many turns
abbrev pub spins : ℕ → Option Measured
spins turns = plays_under a_million (whole ∷ ToALimit turns word.Steps 0 ∷ whole ∷ []) (spinning ∷ []) (calls (codes "spin") ∷ queries (codes "one") ∷ [])

abbrev pub wanted_spins : Bool → Option Measured
wanted_spins spent =
    Some (record { items = item.Installed ∷ item.Trapped word.Steps ∷ no_answer 0 ∷ item.Replied 1 (nat_message 1) ∷ []; spent = spent })

-- ---- `public func go() : async Nat { let a = o.t(); let b = o.f(); await b; (await a).size() }`, 4 pages: the text of a reply
-- that nobody waits for may fill the heap

abbrev pub letters : ℕ → Bytes
letters zero = []
letters (suc n) = 97 ∷ letters n

abbrev pub long_reply : ℕ → Bytes
long_reply n = didl (0 ∷ 1 ∷ 0x71 ∷ (leb n ++ letters n))

abbrev pub ignores_text : Exp
ignores_text = let_in Bind (ask_t 0) (let_in Bind (ask_f 1) (then (await (Name 0)) (call (method_of member.TextSize (await (Name 1))) [])))

abbrev pub four_pages : Limits
four_pages = record { steps = 100000000; stack = 4194304; pages = 4 }

abbrev pub fills : ℕ → Option Measured
fills n =
    plays_under four_pages (whole ∷ whole ∷ ToALimit 0 word.Heap 0 ∷ whole ∷ []) (bench (nat ∷ []) ignores_text ∷ [])
    (calls (codes "go") ∷ event.Reply 0 (long_reply n) ∷ event.Reply 1 empty ∷ [])

abbrev pub wanted_fills : Bool → Option Measured
wanted_fills spent =
    Some (record {
      items = item.Installed ∷ item.Call 0 [] (codes "t") empty ∷ item.Call 1 [] (codes "f") empty ∷ item.Trapped word.Heap ∷ no_answer 0 ∷ [];
      spent = spent;
    })

-- ---- `loop {}` in `postupgrade`: the old actor is there again, and so is its value

abbrev pub stuck_upgrade : Option Measured
stuck_upgrade =
    plays_under a_million (whole ∷ whole ∷ ToALimit 100 word.Steps 1 ∷ whole ∷ []) (keeper (number 1) forever ∷ [])
    (event.Upgrade 0 ∷ queries (codes "get") ∷ [])

abbrev pub wanted_stuck_upgrade : Option Measured
wanted_stuck_upgrade =
    Some (record {
      items = item.Installed ∷ item.Print (codes "a") ∷ item.Print (codes "b") ∷ item.Trapped word.Steps ∷ item.Replied 0 (nat_message 1) ∷ [];
      spent = true;
    })
