-- Why a text is no script is one thing.
use Rattle.std.specs.Prelude.{◌≡◌, ◌≢◌, ℕ, List}
use Rattle.play_script.specs.declared.script.ScriptFault.{ScriptFault}
use Rattle.play_script.specs.declared.script.ScriptFault.TheVariants.{Memory}
use Rattle.play_script.specs.Faults.{FaultOf}

-- A text has one fault at most; want of memory, which needs no cause, is apart.
abbrev pub HasOneFault : Type 0
HasOneFault =
    (text : List ℕ) → (modules : ℕ) → (fault other : ScriptFault) → fault ≢ Memory → other ≢ Memory → FaultOf text modules fault → FaultOf text modules other → fault ≡ other
