-- The activations that the machine's cells hold. Each has its locals, and then its operands; the one that it called
-- begins where its own operands end.
use Rattle.std.specs.Prelude.{◌≡◌, ℕ, zero, suc, ◌+◌, ◌-◌, ◌*◌, ◌<◌, ◌≤◌, List, [], ◌∷◌, ◌++◌, length, take, drop, ⊤}
use Rattle.std.proofs.Math.ListN.{get_or}
use Rattle.wasm_steps.specs.Calls.{Frame}
use Rattle.wasm_machine.specs.declared.frames.Saved.{Saved}
use Rattle.wasm_machine.specs.declared.frames.Here.{Here}
use Rattle.wasm_machine.specs.Operands.{tops}

abbrev pub no_frame : Saved
no_frame = record { place = 0; base = 0; count = 0; height = 0; room = 0 }

-- The callers that are saved, the innermost first.
abbrev pub saved_list : List Saved → ℕ → List Saved
saved_list saved zero = []
saved_list saved (suc n) = get_or saved n no_frame ∷ saved_list saved n

-- A caller whose operands end where the cells of what it called begin.
abbrev pub frame_at : Saved → List ℕ → ℕ → Frame
frame_at x cells end = record { place = x.place; room = x.room; count = x.count; height = x.height; locals = take x.count (drop x.base cells); operands = tops (drop (x.base + x.count) cells) (end - (x.base + x.count)) }

abbrev pub frames_of : List Saved → List ℕ → ℕ → List Frame
frames_of [] cells end = []
frames_of (x ∷ xs) cells end = frame_at x cells end ∷ frames_of xs cells x.base

abbrev pub frames_under : List Saved → Here → List ℕ → List Frame
frames_under saved here cells = frames_of (saved_list saved here.depth) cells here.base

abbrev pub locals_of : Here → List ℕ → List ℕ
locals_of here cells = take here.count (drop here.base cells)

abbrev pub operands_of : Here → List ℕ → ℕ → List ℕ
operands_of here cells held = tops (drop (here.base + here.count) cells) held

-- The callers lie below each other, and what they may still need is there.
abbrev pub AreStacked : List Saved → ℕ → ℕ → ℕ → Type 0
AreStacked [] end cells frames = ⊤
AreStacked (x ∷ xs) end cells frames =
    (x.base + x.count ≤ end) × (x.base + x.count + x.height + x.room ≤ cells) × (8 * length xs + 8 + x.room ≤ 8 * frames) × AreStacked xs x.base cells frames

-- There are cells and frames enough for what may be called.
pub record IsStacked (saved : List Saved) (cells : List ℕ) (here : Here) : Type 0 where
  pub fits : here.base + here.count + here.height + here.room ≤ length cells
  pub many : 8 * here.depth + 8 + here.room ≤ 8 * length saved
  pub callers : AreStacked (saved_list saved here.depth) here.base (length cells) (length saved)

-- Two lists of cells agree below n.
pub record AgreeBelow (n : ℕ) (s t : List ℕ) : Type 0 where
  pub long : length s ≡ length t
  pub within : n ≤ length s
  pub same : (i : ℕ) → i < n → get_or s i 0 ≡ get_or t i 0

-- The innermost frame, under what it called, goes on with these results on top of its operands.
pub record IsCaller (saved : List Saved) (before after : Here) (cells written results : List ℕ) : Type 0 where
  pub frame : Frame
  pub frames : frames_under saved before cells ≡ frame ∷ frames_under saved after written
  pub place : frame.place ≡ after.place
  pub room : frame.room ≡ after.room
  pub count : frame.count ≡ after.count
  pub height : frame.height ≡ after.height
  pub locals : frame.locals ≡ locals_of after written
  pub operands : results ++ frame.operands ≡ operands_of after written after.held
