-- What stands around a place of a body that is split: constructs, labels and handlers. What has an `await` inside is cut: it goes
-- on as a segment of its own.
use Rattle.std.specs.Prelude.{ℕ, zero, suc, List, [], ◌∷◌, Option, Some, None}
use Rattle.core_ir.specs.declared.code.Way.{Way}
use Rattle.core_ir.specs.declared.code.Way.TheVariants.{Near, Far}
use Rattle.core_ir.specs.declared.code.Handler.{Handler}

-- t is the slot that takes the value or error, if it is looked at
pub data Kind : Type 0 where
  -- a construct of this segment that no jump leaves
  Other : Kind
  LabelHere : (t : Option ℕ) → Kind
  LabelAt : (segment : ℕ) → (t : Option ℕ) → Kind
  HandlerHere : (t : ℕ) → Kind
  HandlerAt : (segment t : ℕ) → Kind

-- from inside a further construct
abbrev pub out_by : Way → Way
out_by (Near n) = Near (suc n)
out_by (Far j) = Far j

-- where a break goes that leaves so many labels and the next one
abbrev pub way : List Kind → ℕ → Way
way [] l = Near 0
way (Other ∷ ls) l = out_by (way ls l)
way (LabelHere t ∷ ls) zero = Near 0
way (LabelHere t ∷ ls) (suc l) = out_by (way ls l)
way (LabelAt j t ∷ ls) zero = Far j
way (LabelAt j t ∷ ls) (suc l) = way ls l
way (HandlerHere t ∷ ls) l = out_by (way ls l)
way (HandlerAt j t ∷ ls) l = way ls l

-- the slot of that label
abbrev pub target : List Kind → ℕ → Option ℕ
target [] l = None
target (Other ∷ ls) l = target ls l
target (LabelHere t ∷ ls) zero = t
target (LabelHere t ∷ ls) (suc l) = target ls l
target (LabelAt j t ∷ ls) zero = t
target (LabelAt j t ∷ ls) (suc l) = target ls l
target (HandlerHere t ∷ ls) l = target ls l
target (HandlerAt j t ∷ ls) l = target ls l

abbrev pub farther : Option Handler → Option Handler
farther None = None
farther (Some h) = Some (record { slot = h.slot; way = out_by h.way })

-- what takes an error
abbrev pub handler : List Kind → Option Handler
handler [] = None
handler (Other ∷ ls) = farther (handler ls)
handler (LabelHere t ∷ ls) = farther (handler ls)
handler (LabelAt j t ∷ ls) = handler ls
handler (HandlerHere t ∷ ls) = Some (record { slot = t; way = Near 0 })
handler (HandlerAt j t ∷ ls) = Some (record { slot = t; way = Far j })

-- nothing of this segment stands around
abbrev pub AllFar : List Kind → Type 0
AllFar [] = Unit {0}
AllFar (Other ∷ ls) = ⊥
AllFar (LabelHere t ∷ ls) = ⊥
AllFar (LabelAt j t ∷ ls) = AllFar ls
AllFar (HandlerHere t ∷ ls) = ⊥
AllFar (HandlerAt j t ∷ ls) = AllFar ls
