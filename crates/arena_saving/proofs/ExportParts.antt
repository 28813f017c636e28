-- The parts of what the declarations of an actor came to.
use Rattle.std.proofs.Common.{◌≡◌, ℕ, ◌<◌, List, [], ◌∷◌, Option, Some, None, Vec, Global, refl, sym, ap, ◌∙◌, subst}
use Rattle.std.specs.Prelude.{IfSome}
use Rattle.mo_types.specs.Heads.{map_option}
use Rattle.mo_values.specs.Shapes.{Head, Present}
use Rattle.typed_tree.specs.declared.action.Action.TheVariants as action
use Rattle.typed_tree.specs.Language.{Functions}
use Rattle.mo_machine.specs.Exports.{before_upgrade, option_value, values_in}
use Rattle.mo_machine.specs.Frames as machine
use Rattle.mo_machine.specs.Starting.{hook}
use Rattle.mo_machine.specs.Values.{Value, Values, Made, Closure, BuiltIn, unit}
use Rattle.value_arena.specs.declared.node.Node.{Node}
use Rattle.value_arena.specs.declared.node.ValueHead.{ValueHead}
use Rattle.value_arena.specs.declared.node.ValueHead.TheVariants as head
use Rattle.value_arena.specs.declared.node.ValueId.{ValueId}
use Rattle.value_arena.specs.Growth.{AreBelow, AreWithin, IsValueAdded, IsWithin}
use Rattle.value_arena.specs.Heads.{head_of}
use Rattle.value_arena.specs.Meaning.{value_at, value_of, values, values_at}
use Rattle.value_arena.specs.Seen.{made_of}
use Rattle.value_arena.proofs.Growing.{begins}
use Rattle.arena_states.specs.declared.frame.Doing.TheVariants as doing
use Rattle.arena_states.specs.declared.frame.Focus.TheVariants as focus
use Rattle.arena_states.specs.declared.primitive.Primitive.TheVariants as built
use Rattle.arena_states.specs.Standing.{list_of}
use Rattle.arena_bodies.proofs.Made.{some_in}
use Rattle.arena_saving.specs.Saving.{only, IsHooked}

-- ---- options

pub only_is : (vs : List Value) (ids : List ValueId) → map_option (λ v. value_at vs v) (only ids) ≡ option_value (Made Present (values_at vs ids))
only_is vs [] = refl
only_is vs (id ∷ []) = refl
only_is vs (id ∷ other ∷ ids) = refl

pub only_below : (n : ℕ) (ids : List ValueId) → AreBelow n ids → IfSome (only ids) (λ v. v.index < n)
only_below n [] h = tt
only_below n (id ∷ []) h = h.0
only_below n (id ∷ other ∷ ids) h = tt

pub not_present : (h : ValueHead) (inside : Values) → (h ≡ head.Present → ⊥) → None ≡ option_value (Made (head_of h) inside)
not_present head.Present inside other = absurd (other refl)
not_present (head.Leaf d) inside other = refl
not_present head.Tuple inside other = refl
not_present head.Array inside other = refl
not_present (head.Object labels) inside other = refl
not_present (head.Tag label) inside other = refl
not_present (head.Error code text) inside other = refl
not_present (head.Cell at) inside other = refl
not_present (head.Future call) inside other = refl

-- a value with this head and these parts
pub made_value : (w : Value) (h : Head) (inside : Values) → Some (Made h inside) ≡ made_of w → Made h inside ≡ w
made_value (Made other others) h inside is = let e : Some (Made h inside) ≡ Some (Made other others) = is in let f : Made h inside ≡ Made other others = cc in f
made_value (Closure group which env) h inside is = absurd (let e : Some (Made h inside) ≡ None = is in cc)
made_value (BuiltIn member holds) h inside is = absurd (let e : Some (Made h inside) ≡ None = is in cc)

pub made_none : (w : Value) → None ≡ made_of w → None ≡ option_value w
made_none (Made h inside) is = absurd (let e : None ≡ Some (Made h inside) = is in cc)
made_none (Closure group which env) is = refl
made_none (BuiltIn member holds) is = refl

-- ---- lists of parts

module _ (groups : ℕ → Functions) (ns : List Node) (v : ValueId) where
  pub parts_are : (h : Head) (ids : List ValueId) → Some (Made h (values_at (values groups ns) ids)) ≡ made_of (value_of groups ns v) → list_of groups ns ids ≡ values_in (value_of groups ns v)
  parts_are h ids is = sym (some_in (value_of groups ns v) h (values_at (values groups ns) ids) is)

-- ---- the hook

pub hooks_call : (ns : List Node) (exports id : ValueId) (operands : Vec ValueId Global) → IsWithin ns id → ((groups : ℕ → Functions) → Some (value_of groups ns id) ≡ before_upgrade (value_of groups ns exports))
    → operands.items ≡ id ∷ [] → IsHooked ns exports (focus.Ready (doing.Built built.Call) operands) ns
hooks_call ns exports id operands within found is =
    let Of : List ValueId → Type 0 = λ ids. AreWithin ns ids in
    record {
      grows = begins ns;
      within = subst Of (sym is) (within, tt);
      means = λ groups. ap (λ (ids : List ValueId). machine.Ready action.Call (list_of groups ns ids)) is ∙ ap (λ (o : Option Value). hook o) (found groups);
    }

pub hooks_none : (old new : List Node) (exports v : ValueId) → ((groups : ℕ → Functions) → None ≡ before_upgrade (value_of groups old exports)) → IsValueAdded old (λ groups. unit) v new → IsHooked old exports (focus.Give v) new
hooks_none old new exports v none added = record {
  grows = added.grows;
  within = added.within;
  means = λ groups. ap (λ (x : Value). machine.Give x) (added.means groups) ∙ ap (λ (o : Option Value). hook o) (none groups);
}
