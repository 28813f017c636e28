-- Transcripts, and what is put of them.
use Rattle.std.specs.Prelude.{ℕ, List, [], ◌∷◌, Option, Result, Ok, Err}
use Rattle.std.specs.Io.KnownBytes.{Appends}
use Rattle.outer.specs.declared.outside.OutsideFault.{OutsideFault}
use Rattle.outer.specs.Sinks.{AppendsPrefix}
use Rattle.play_script.specs.declared.event.Event.{Event}
use Rattle.play_script.specs.Items.{ItemsText}
use Rattle.wasm_tree.specs.declared.module_parts.Module.{Module}
use Rattle.wasm_tree.specs.Exec.{ExecutionLimits}
use Rattle.canister_host.specs.HostRun.{host_run}

-- The canister's own principal.
abbrev pub own_principal : List ℕ
own_principal = 0 ∷ 0 ∷ 0 ∷ 0 ∷ 0 ∷ 0 ∷ 0 ∷ 1 ∷ 1 ∷ 1 ∷ []

-- The lines of the items that the host's run over the events gives.
abbrev pub IsTranscript : List Module → ExecutionLimits → List Event → List ℕ → Type 0
IsTranscript modules limits events text = ItemsText (host_run modules limits own_principal events) text

-- A text of this kind was put, or a prefix of one, where the sink tells what it holds.
abbrev pub IsPut : {T : Type 0} → (List ℕ → Type 0) → Option (List ℕ) → Option (List ℕ) → Result T OutsideFault → Type 0
IsPut P old new (Ok done) = (text : List ℕ) × P text × Appends old new text
IsPut P old new (Err fault) = (text : List ℕ) × P text × AppendsPrefix old new text
