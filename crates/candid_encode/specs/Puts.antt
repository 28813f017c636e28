-- What writing answers.
use Rattle.std.specs.Prelude.{◌≡◌, ℕ, ◌≤◌, List, [], length, true, Result, Ok, Err}
use Rattle.mo_types.specs.declared.datum.Datum.{Datum}
use Rattle.mo_types.specs.declared.datum.Datum.TheVariants as part
use Rattle.mo_types.specs.declared.node.Node.{Node}
use Rattle.mo_types.specs.declared.node.TypeId.{TypeId}
use Rattle.mo_types.specs.declared.wire.Plain.TheVariants as plain
use Rattle.mo_types.specs.declared.wire.Ref.{Ref}
use Rattle.mo_types.specs.declared.wire.Ref.TheVariants.{Of, Just}
use Rattle.mo_types.specs.declared.wire.Wire.TheVariants.{Func}
use Rattle.mo_types.specs.Values.{IsPartOf, is_method_name}
use Rattle.mo_types.specs.Spelling.{shortest, AnyCount, IsWirePart}
use Rattle.candid_forms.specs.Forms.{IsSpelledBy, IsPartAt}
use Rattle.candid_write.specs.Appends.{Appends}
use Rattle.candid_encode.specs.declared.refusal.Refusal.{Refusal}
use Rattle.candid_encode.specs.declared.refusal.Refusal.TheVariants as refusal

-- What does not fit is refused; memory may run out.
abbrev pub Refuses : Type 0 → Refusal → Type 0
Refuses Fits refusal.OtherValues = Fits → ⊥
Refuses Fits refusal.Memory = Unit {0}

-- What fits is written, and what does not fit is refused.
abbrev pub Puts : {X : Type 0} → Type 0 → (List ℕ → Type 0) → Result X Refusal → List ℕ → List ℕ → Type 0
Puts Fits IsBytes (Ok x) old new = Fits × Appends IsBytes old new
Puts Fits IsBytes (Err e) old new = Refuses Fits e

-- the outermost part of a value of a type with this head, whatever the heads of other types are
abbrev pub PutsPart : {X : Type 0} → Node TypeId → Datum → Result X Refusal → List ℕ → List ℕ → Type 0
PutsPart n p result old new = (head : TypeId → Node TypeId) → Puts (IsPartOf n p) (IsSpelledBy shortest AnyCount head n p) result old new

-- a method of an actor, and its bytes: a flag, the actor, the name
abbrev pub IsMethod : Datum → Type 0
IsMethod (part.Method p name) = (length p ≤ 29) × (is_method_name name ≡ true)
IsMethod _ = ⊥

abbrev pub IsMethodSpelled : Datum → List ℕ → Type 0
IsMethodSpelled p bytes = IsWirePart shortest (AnyCount {B = ℕ}) (Func [] [] []) p bytes

-- so many parts
abbrev pub IsRecord : ℕ → Datum → Type 0
IsRecord count (part.Record n) = n ≡ count
IsRecord count _ = ⊥

-- an outermost part of a value at a type; where null stands for () under a tag, the part is that of ()
abbrev pub Fits : (TypeId → Node TypeId) → Ref TypeId → Datum → Type 0
Fits head (Of t) p = IsPartOf (head t) p
Fits head (Just plain.Null) p = p ≡ part.Record 0
Fits head (Just _) p = ⊥

abbrev pub PutsAt : {X : Type 0} → (TypeId → Node TypeId) → Ref TypeId → Datum → Result X Refusal → List ℕ → List ℕ → Type 0
PutsAt head r p result old new = Puts (Fits head r p) (IsPartAt shortest AnyCount head r p) result old new
