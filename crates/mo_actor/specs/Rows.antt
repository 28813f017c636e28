-- Worked rows: programs, events, and the items that they give.
use Rattle.std.specs.Prelude.{ℕ, zero, suc, List, [], ◌∷◌, map, true, false, Option, Some, codes}
use Rattle.play_script.specs.declared.event.Event.{Event}
use Rattle.play_script.specs.declared.event.Event.TheVariants as event
use Rattle.play_script.specs.declared.item.Item.{Item}
use Rattle.play_script.specs.declared.item.Item.TheVariants as item
use Rattle.play_script.specs.declared.item.Word.TheVariants as word
use Rattle.mo_actor.specs.Computed.{Extent, ToItsEnd, items_after}
use Rattle.mo_actor.specs.Commands.{ANumber, Command, Load, ReplyNumber, Trap, empty}
use Rattle.mo_actor.specs.CommandPrograms.{Method, Source, program}

pub record Row : Type 0 where
  pub sources : List Source
  pub events : List Event
  -- how far the executions are followed
  pub extents : List Extent
  pub items : List Item

-- the own principal of the actor in each row
abbrev pub own : List ℕ
own = 0 ∷ 0 ∷ 0 ∷ 0 ∷ 0 ∷ 0 ∷ 0 ∷ 1 ∷ 1 ∷ 1 ∷ []

abbrev pub given : Row → Option (List Item)
given r = items_after r.extents (map program r.sources) own r.events

abbrev pub answers : List Row → List (Option (List Item))
answers rows = map given rows

abbrev pub wanted : List Row → List (Option (List Item))
wanted rows = map (λ r. Some r.items) rows

-- ---- parts of rows

-- every execution that is not exhausted ends within so many turns
abbrev pub whole : ℕ → List Extent
whole zero = []
whole (suc n) = ToItsEnd 12 ∷ whole n

-- One program, installed first, whose executions end.
abbrev pub row : Source → List Event → List Item → Row
row source events items = record { sources = source ∷ []; events = event.Install 0 ∷ events; extents = whole 12; items = item.Installed ∷ items }

abbrev pub method : List ℕ → List Command → Method
method name cs = record { name = name; commands = cs }

-- the method `get` replies the store's number
abbrev pub get : Method
get = method (codes "get") (Load ∷ ReplyNumber ∷ [])

-- an actor with these update methods and the query method `get`
abbrev pub actor : List Method → Source
actor updates = record { updates = updates; queries = get ∷ []; initial = []; before_upgrade = []; after_upgrade = []; stable = ANumber }

abbrev pub call : List ℕ → Event
call name = event.Call false name (4 ∷ []) empty

abbrev pub query : List ℕ → Event
query name = event.Call true name (4 ∷ []) empty

abbrev pub reply : ℕ → Event
reply number = event.Reply number empty

abbrev pub trapped : List ℕ → Item
trapped text = item.Trapped (word.Text text)

abbrev pub no_answer : ℕ → Item
no_answer owner = item.Rejected owner 5 (codes "no answer")

-- a call of `f` of the management canister, whose principal is empty
abbrev pub calls_f : ℕ → Item
calls_f number = item.Call number [] (codes "f") empty

abbrev pub resumes : ℕ → Item
resumes number = item.Call number own (codes "__resume") empty

abbrev pub assertion : Command
assertion = Trap (codes "assertion failed")
