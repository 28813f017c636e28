use Rattle.std.proofs.Common.{◌≡◌, List, [], ◌∷◌, ◌++◌, sym, subst}
use Rattle.typed_tree.specs.declared.program.Program.{Program}
use Rattle.typed_tree.specs.WellTyped.{WellTyped}
use Rattle.stepper.specs.Standing.{AreOwned}
use Rattle.sound_steppers.proofs.Owned.{owned_more}
use Rattle.meaning_player.proofs.sources.programs.Goals as goal

still_owned : (ps qs : List Program) (p : Program) → qs ≡ ps ++ p ∷ [] → AreOwned ps → WellTyped p → AreOwned qs
still_owned ps qs p e owned w = subst AreOwned (sym e) (owned_more ps p owned w)

pub loop-number-preserved : goal.loop-number-preserved
loop-number-preserved g c = still_owned c.loop-number.made.items _ c.in_ok-typed.typed c.in_ok-push.ensures.items c.loop-number.invariant c.in_ok-typed.ensures
