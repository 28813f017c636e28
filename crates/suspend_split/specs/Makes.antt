-- What is made of expressions, before code that was made already.
use Rattle.std.specs.Prelude.{◌≡◌, ℕ, ◌≤◌, ◌++◌, Bool, List, length}
use Rattle.core_ir.specs.declared.code.Code.{Code as CodeTree}
use Rattle.core_ir.specs.declared.code.Exit.{Exit}
use Rattle.core_ir.specs.declared.code.Operand.{Operand}
use Rattle.core_ir.specs.declared.scopes.Outermost.{Outermost}
use Rattle.core_ir.specs.Choices.{nth}
use Rattle.core_ir.specs.Code.{Code}
use Rattle.core_ir.specs.CodeView.{Names, code_of, exit_code}
use Rattle.core_ir.specs.ScopeNames.{scope_names}
use Rattle.core_laws.specs.Around.{Kind}
use Rattle.core_laws.specs.Split.{Emitted, Segments, emitted, joint}
use Rattle.suspend_split.specs.declared.draft.Draft.{Draft}
use Rattle.suspend_split.specs.declared.draft.State.{State}
use Rattle.suspend_split.specs.Drafts.{draft_code, segments_code}

-- of groups of these sizes
abbrev pub size_of : List ℕ → ℕ → ℕ
size_of sizes k = nth 0 sizes k

-- the names of each scope are these
abbrev pub Agree : Outermost → List (List Operand) → Names → Type 0
Agree o scopes names = (n : ℕ) → n ≤ length scopes → names n ≡ scope_names scopes o n

-- by some further scopes
pub record Grows (old new : List (List Operand)) : Type 0 where
  pub more : List (List Operand)
  pub is : new ≡ old ++ more

abbrev pub Making : Type 0
Making = Names → List Kind → Code → Segments → Emitted

abbrev pub made : Names → State → Emitted
made names s = emitted (draft_code names s.draft) (segments_code names s.segments.list.items)

-- code was made before the draft of a state
pub record Makes (o : Outermost) (old new : State) (f : Making) : Type 0 where
  pub around : new.around ≡ old.around
  pub scopes : Grows old.scopes new.scopes
  pub makes : (names : Names) → Agree o new.scopes names → made names new ≡ f names old.around (draft_code names old.draft) (segments_code names old.segments.list.items)

-- a draft was made beside that of a state, before this exit
pub record MakesAside (o : Outermost) (old new : State) (exit : Exit) (draft : Draft) (f : Making) : Type 0 where
  pub kept : new.draft ≡ old.draft
  pub around : new.around ≡ old.around
  pub scopes : Grows old.scopes new.scopes
  pub makes : (names : Names) → Agree o new.scopes names
      → emitted (draft_code names draft) (segments_code names new.segments.list.items) ≡ f names old.around (exit_code exit) (segments_code names old.segments.list.items)

-- the same as whole code
pub record MakesInside (o : Outermost) (old new : State) (exit : Exit) (code : CodeTree) (f : Making) : Type 0 where
  pub kept : new.draft ≡ old.draft
  pub around : new.around ≡ old.around
  pub scopes : Grows old.scopes new.scopes
  pub makes : (names : Names) → Agree o new.scopes names
      → emitted (code_of code names) (segments_code names new.segments.list.items) ≡ f names old.around (exit_code exit) (segments_code names old.segments.list.items)

-- a construct was begun, whole or cut
pub record Begins (cut : Bool) (old new : State) (exit : Exit) : Type 0 where
  pub scopes : new.scopes ≡ old.scopes
  pub around : (c : Code) (segments : Segments) → new.around ≡ (joint cut old.around c segments).around
  pub next : (names : Names) → exit_code exit ≡ (joint cut old.around (draft_code names old.draft) (segments_code names old.segments.list.items)).next
  pub after : (names : Names) → draft_code names new.draft ≡ (joint cut old.around (draft_code names old.draft) (segments_code names old.segments.list.items)).after
  pub segments : (names : Names) → segments_code names new.segments.list.items ≡ (joint cut old.around (draft_code names old.draft) (segments_code names old.segments.list.items)).segments
