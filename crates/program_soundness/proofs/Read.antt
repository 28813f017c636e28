-- What a message is read as at shareable types has these types.
use Rattle.std.proofs.Common.{◌≡◌, List, [], ◌∷◌, map, Option, Some, None, refl, subst}
use Rattle.mo_types.specs.declared.node.TypeId.{TypeId}
use Rattle.mo_types.specs.Graph.{Slot, head_at}
use Rattle.mo_types.specs.Sub.{Each}
use Rattle.mo_types.specs.Values as message
use Rattle.mo_values.specs.Messages.{opened}
use Rattle.mo_values.specs.Shapes.{Bytes, Shapes, NoShape, AShape, listed}
use Rattle.typed_tree.specs.Language.{Value}
use Rattle.typed_tree.specs.Opening.{Code, values_of}
use Rattle.typed_tree.specs.Wants.{Want, Of}
use Rattle.mo_meaning.specs.Coding.{Coding, IsFaithful}
use Rattle.mo_meaning.specs.Messages.{values_at, as_values, read_values}
use Rattle.mo_soundness.specs.Keeps.{HasEach}
use Rattle.mo_soundness.specs.Running.{AnswerTypes, HaveValues}
use Rattle.typed_tree.proofs.OwnLabels.{labels_own}
use Rattle.program_soundness.proofs.Carried.{all_shareable, back_each}
use Rattle.program_soundness.proofs.Reading.{opened_have}
use Rattle.program_soundness.specs.Worlds.{running, IsCarried}
use Rattle.mo_soundness.specs.Worlds.{plain_world}
use Rattle.typed_tree.specs.Types.{AreLawful}
use Rattle.subtype_laws.specs.Labels.{OwnLabels}
use Rattle.typed_tree.specs.Shareable.{IsShareable}

module _ (types : List Slot) (answers : AnswerTypes) (kinds : List TypeId) (coding : Coding) (faithful : IsFaithful coding) where
  listed_each : (ws : List (Want TypeId)) (s : Shapes Code) → HaveValues (plain_world (head_at types)) answers kinds ws (values_of s) → HasEach (plain_world (head_at types)) answers kinds ws (as_values (listed s))
  listed_each [] NoShape h = tt
  listed_each [] (AShape v s) h = absurd h
  listed_each (w ∷ ws) NoShape h = absurd h
  listed_each (w ∷ ws) (AShape v s) h = (h.0, listed_each ws s h.1)

  -- values that are read at shareable types have these types
  pub plain_read : ((t : TypeId) → OwnLabels (head_at types t)) → (ts : List TypeId) (bytes : Bytes) (vs : List Value) → Each (IsShareable (head_at types)) ts → read_values coding types ts bytes ≡ Some vs → HasEach (plain_world (head_at types)) answers kinds (map (λ t. Of t) ts) vs
  plain_read own ts bytes vs sh q = by (coding.read types ts bytes) refl q
    where
      by : (o : Option message.Values) → coding.read types ts bytes ≡ o → read_values (record coding { read = λ a b c. o }) types ts bytes ≡ Some vs → HasEach (plain_world (head_at types)) answers kinds (map (λ t. Of t) ts) vs
      by None e k = absurd (let z : None ≡ Some vs = k in cc)
      by (Some values) e k =
          subst (HasEach (plain_world (head_at types)) answers kinds (map (λ t. Of t) ts)) (let same : as_values (values_at types ts values) ≡ vs = cc in same)
          (listed_each (map (λ t. Of t) ts) (opened (head_at types) ts values) (opened_have (head_at types) answers kinds own values ts sh (faithful.sound types ts bytes values e).typed))

module _ (types : List Slot) (graph : AreLawful types) (answers : AnswerTypes) (kinds : List TypeId) (coding : Coding) (faithful : IsFaithful coding) where
  -- and so have those at types that go into messages, where a program runs
  pub read_typed : (ts : List TypeId) (bytes : Bytes) (vs : List Value) → Each (IsCarried types) ts → read_values coding types ts bytes ≡ Some vs → HasEach (running types) answers kinds (map (λ t. Of t) ts) vs
  read_typed ts bytes vs sh q = back_each types graph answers kinds ts vs sh (plain_read types answers kinds coding faithful (labels_own types graph) ts bytes vs (all_shareable types ts sh) q)
