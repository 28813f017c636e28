-- A typed program as its actor's run sees it: Motoko language manual, sections "Actors" and "Shared functions". With it the
-- run of an actor is that of this language.
use Rattle.std.specs.Prelude.{◌≡◌, ℕ, zero, suc, length, List, [], ◌∷◌, Bool, true, false, not, ◌&&◌, cond, Option, Some, None}
use Rattle.std.specs.Str.{bytes_eq}
use Rattle.mo_types.specs.declared.node.TypeId.{TypeId}
use Rattle.mo_types.specs.Calls.{CallTable}
use Rattle.mo_types.specs.Graph.{head_at}
use Rattle.mo_values.specs.declared.error_code.ErrorCode.{ErrorCode}
use Rattle.mo_values.specs.declared.error_code.ErrorCode.TheVariants as code
use Rattle.mo_values.specs.Shapes.{Bytes}
use Rattle.mo_actor.specs.Programs.{Effects}
use Rattle.mo_actor.specs.Programs as actor
use Rattle.typed_tree.specs.Language.{Value}
use Rattle.typed_tree.specs.Programs.{Program, Method}
use Rattle.mo_meaning.specs.Acts.{Given, Gets, Fails}
use Rattle.mo_meaning.specs.Bodies.{body_execution}
use Rattle.mo_meaning.specs.Coding.{Types, Coding}
use Rattle.mo_meaning.specs.Configurations.{Surroundings}
use Rattle.mo_meaning.specs.Kernel.{kernel, Entry, Body, Enters, Resumes}
use Rattle.mo_meaning.specs.Messages.{packed, read_values, reading_cost}
use Rattle.mo_meaning.specs.Saving.{save}
use Rattle.mo_meaning.specs.Starting.{start}
use Rattle.mo_meaning.specs.Turns.{error, resume_name}

-- ---- methods by name; `__resume` stands behind the program's own, and is no query method

abbrev pub entry_of : ℕ → Method → Entry
entry_of place m = record { place = Some place; parameters = m.parameters; results = m.results }

abbrev pub resume_entry : Entry
resume_entry = record { place = None; parameters = []; results = [] }

abbrev pub entry_if : Bool → Option Entry
entry_if true = Some resume_entry
entry_if false = None

-- the method of a name, of update methods or of query methods
abbrev pub method_from : ℕ → Bool → Bytes → List Method → Option Entry
method_from place query name [] = entry_if (not query && bytes_eq resume_name name)
method_from place query name (m ∷ ms) =
    cond (bytes_eq m.name name && cond query m.query (not m.query)) (Some (entry_of place m)) (method_from (suc place) query name ms)

-- ---- messages

abbrev pub entered : Entry → Bytes → Option (List Value) → Option Body
entered entry caller None = None
entered entry caller (Some vs) = Some (Enters entry caller vs)

abbrev pub results_given : Option (List Value) → Option Given
results_given None = None
results_given (Some vs) = Some (Gets (packed vs))

-- the code of an error by the number of a reject: Motoko base library, `Error.ErrorCode`
abbrev pub reject_code : ℕ → ErrorCode
reject_code (suc zero) = code.SystemFatal
reject_code (suc (suc zero)) = code.SystemTransient
reject_code (suc (suc (suc zero))) = code.DestinationInvalid
reject_code (suc (suc (suc (suc zero)))) = code.CanisterReject
reject_code (suc (suc (suc (suc (suc zero))))) = code.CanisterError
reject_code n = code.Future n

-- ---- the program

abbrev pub surroundings : Coding → Types → Bytes → CallTable (List TypeId) Given → Surroundings
surroundings coding types own table = record { types = types; coding = coding; own = own; table = table }

-- these nodes are those of the program's graph of types
abbrev pub HasTypes : Program → Types → Type 0
HasTypes p types = (t : TypeId) → p.head t ≡ head_at types t

-- a program with the nodes of its graph of types, whose first memory has so many bytes
abbrev pub meaning : Coding → ℕ → Types → Program → actor.Program kernel
meaning coding first types p = record {
  first_memory = first;
  update = λ name. method_from 0 false name p.methods;
  query = λ name. method_from 0 true name p.methods;
  enter = λ entry caller argument. entered entry caller (read_values coding types entry.parameters argument);
  resume = λ w g. Resumes w g;
  run = λ own table fields body. body_execution (surroundings coding types own table) fields body;
  read = λ results bytes. results_given (read_values coding types results bytes);
  error_of = λ n text. Fails (error (reject_code n) text);
  start = λ own kept. start coding types p own kept;
  save = λ own fields. save coding types p own fields;
  argument_cost = λ entry argument. reading_cost coding types entry.parameters argument;
  reply_cost = λ results bytes. reading_cost coding types results bytes;
  reject_cost = λ text. record { weight = length text; depth = 0 };
}
