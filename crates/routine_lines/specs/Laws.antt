-- The laws, as statements.
use Rattle.std.specs.Prelude.{◌≤◌, ◌*◌, ℕ, List}
use Rattle.wasm_tree.specs.Exec.{Store, Host}
use Rattle.low_ir.specs.Tree.{Module}
use Rattle.low_ir.specs.Frames.{enter}
use Rattle.low_rules.specs.Rule.{ComesTo}
use Rattle.low_rules.specs.Lines.{TableIsKept}
use Rattle.routine_lines.specs.Roles.{Role, place, level_of, AreThere, Asked, Done, frame_words, routine_table}

-- In a module that has the routines the body of each keeps its line, from the lines of those that it calls.
abbrev pub TablesAreKept : Type 0 → Type 0
TablesAreKept World = (pages : ℕ) (m : Module) (host : Host World) (signature : Role → ℕ) → AreThere m signature → TableIsKept pages m host (routine_table pages m host)

-- So each call of one meets its line, with a depth and stack words for its frames.
abbrev pub LinkedCallsKeepTheirLines : Type 0 → Type 0
LinkedCallsKeepTheirLines World =
    (pages : ℕ) (m : Module) (host : Host World) (signature : Role → ℕ) → AreThere m signature → (r : Role) (store : Store World) (args : List ℕ) → Asked r store args
    → (deep room : ℕ) → level_of r ≤ deep → frame_words * level_of r ≤ room → ComesTo (enter deep pages m host room) (place r) store args (Done pages r store args)
