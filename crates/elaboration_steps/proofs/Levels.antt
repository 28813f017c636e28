-- Frames that stand in one body.
use Rattle.std.proofs.Common.{◌≡◌, List, [], ◌∷◌, ◌++◌, refl}
use Rattle.core_ir.specs.CoreMachine as core_machine
use Rattle.core_ir.specs.CoreMachine.{Frame, Arguments, Looping, Caller, Join, depth_of}
use Rattle.elaboration.specs.Meeting.{Joins}
use Rattle.elaboration_steps.specs.Stacks.{Passed}

pub joins_level : (s k : List Frame) → Joins s → depth_of (s ++ k) ≡ depth_of k
joins_level [] k h = refl
joins_level (Join ∷ s) k h = joins_level s k h
joins_level (Arguments g d r e ∷ s) k h = absurd h
joins_level (Looping b e ∷ s) k h = absurd h
joins_level (core_machine.Labelled ∷ s) k h = absurd h
joins_level (core_machine.Trying b e ∷ s) k h = absurd h
joins_level (Caller n g ∷ s) k h = absurd h

pub skips_level : (s k : List Frame) → Passed s → depth_of (s ++ k) ≡ depth_of k
skips_level [] k h = refl
skips_level (Join ∷ s) k h = skips_level s k h
skips_level (Arguments g d r e ∷ s) k h = skips_level s k h
skips_level (Looping b e ∷ s) k h = absurd h
skips_level (core_machine.Labelled ∷ s) k h = absurd h
skips_level (core_machine.Trying b e ∷ s) k h = absurd h
skips_level (Caller n g ∷ s) k h = absurd h
