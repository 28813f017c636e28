-- Typed expressions fit, and so do values of their types.
use Rattle.std.proofs.Common.{◌≡◌, List, [], Some, None}
use Rattle.mo_types.specs.declared.node.TypeId.{TypeId}
use Rattle.typed_tree.specs.ActionTypes.{ResultOf}
use Rattle.typed_tree.specs.Wants.{Want, Of}
use Rattle.mo_meaning.specs.Acts.{Act, Goes, Prints, Asks, Awaits, Leaves, Throws, Traps, Stuck}
use Rattle.mo_meaning.specs.Reduce.{reduce}
use Rattle.mo_soundness.specs.Keeps.{Keeps, closed}
use Rattle.mo_soundness.specs.Lawful.{IsLawful}
use Rattle.mo_soundness.specs.Running.{AnswerTypes}
use Rattle.mo_soundness.proofs.Members.{members_keep}
use Rattle.mo_soundness.proofs.More.{typed_grow}
use Rattle.mo_soundness.proofs.Steps.{keeps}
use Rattle.program_soundness.specs.Results.{GivesResults, AreResults}
use Rattle.program_soundness.specs.Runs.{KeepsFit, IsKept, Gives, IsValueOf}
use Rattle.mo_soundness.specs.Worlds.{World}

module _ (world : World) (w : Want TypeId) where
  no_label : (answers : AnswerTypes) (kinds : List TypeId) (a : Act) → Keeps world answers kinds [] w a → KeepsFit world (Gives world w) answers kinds a
  no_label answers kinds (Goes cost store e) h = h
  no_label answers kinds (Prints cost text e) h = h
  no_label answers kinds (Asks r) h = h
  no_label answers kinds (Awaits n c) h = h
  no_label answers kinds (Leaves l v) h = absurd (let z : None ≡ Some h.0 = h.1 in cc)
  no_label answers kinds (Throws cost v) h = h
  no_label answers kinds (Traps cost text) h = h
  no_label answers kinds Stuck h = h

  pub typed_kept : IsLawful world.head → IsKept world (Gives world w) (IsValueOf world w)
  typed_kept lawful = record {
    value = λ answers kinds v h. h;
    grows = λ answers more kinds longer e k l h. typed_grow world answers more k kinds longer l (closed []) e w h;
    keeps = λ answers kinds given store e active st h i. no_label answers kinds _ (keeps world lawful answers kinds (members_keep world lawful answers kinds) given store st e [] w active h i);
  }

-- what gives the results of a shared function
pub results_kept : (world : World) (results : List TypeId) → IsLawful world.head → IsKept world (GivesResults world results) (AreResults world results)
results_kept world results lawful = record {
  value = λ answers kinds v h. h;
  grows = λ answers more kinds longer e k l h. (h.0, h.1, typed_grow world answers more k kinds longer l (closed []) e (Of h.0) h.2);
  keeps = λ answers kinds given store e active st h i. of_results answers kinds h.0 h.1 (reduce world.meant given store e) ((typed_kept world (Of h.0) lawful).keeps answers kinds given store e active st h.2 i);
}
  where
    of_results : (answers : AnswerTypes) (kinds : List TypeId) (r : TypeId) → ResultOf world.head results r → (a : Act) → KeepsFit world (Gives world (Of r)) answers kinds a → KeepsFit world (GivesResults world results) answers kinds a
    of_results answers kinds r is (Goes cost store e) k = (k.0, k.1, k.2, (r, is, k.3))
    of_results answers kinds r is (Prints cost text e) k = (k.0, (r, is, k.1))
    of_results answers kinds r is (Asks q) k = k
    of_results answers kinds r is (Awaits n c) k = k
    of_results answers kinds r is (Leaves l v) k = k
    of_results answers kinds r is (Throws cost v) k = k
    of_results answers kinds r is (Traps cost text) k = k
    of_results answers kinds r is Stuck k = k
