-- What an actor is told of messages: values that are read hold no function, and values that belong together go into messages alike.
use Rattle.std.proofs.Common.{◌≡◌, ℕ, suc, refl, sym, ap, subst, length, List, [], ◌∷◌, map, Option, Some, None}
use Rattle.mo_types.specs.declared.node.Node.{Node}
use Rattle.mo_types.specs.declared.node.TypeId.{TypeId}
use Rattle.mo_types.specs.Code.{Variable}
use Rattle.mo_types.specs.Graph.{head_at}
use Rattle.mo_types.specs.Values as message
use Rattle.mo_values.specs.Alike.{AlikeAll}
use Rattle.mo_values.specs.Messages.{opened}
use Rattle.mo_values.specs.Recoding.{recode_all}
use Rattle.mo_values.specs.Shapes.{Bytes, Shapes, NoShape, AShape, listed}
use Rattle.core_ir.specs.Choices.{on_some}
use Rattle.core_ir.specs.Expressions.{Core}
use Rattle.core_ir.specs.Messages.{Messages}
use Rattle.core_ir.specs.Values as core
use Rattle.typed_tree.specs.Language as language
use Rattle.typed_tree.specs.Opening as opening
use Rattle.typed_tree.specs.Opening.{Code}
use Rattle.typed_tree.specs.Programs.{Program, StableVariable}
use Rattle.mo_meaning.specs.Coding.{Types, Coding}
use Rattle.mo_meaning.specs.Messages.{joined_values, coded, read_values, values_at, as_values}
use Rattle.mo_meaning.specs.Kernel.{Kept}
use Rattle.mo_meaning.specs.Starting.{Taken, Fresh, Value?, Incompatible, taken_values, taken, all_taken, and_taken, all_kept}
use Rattle.mo_machine.specs.Starting.{kept_value}
use Rattle.mo_machine.specs.Values.{load, load_all, load_list, shapes_of, shapes_list}
use Rattle.elaboration.specs.Playing.{core_value, messages_of}
use Rattle.elaboration_values.specs.Belonging.{Known, Names, Belongs, EachBelongs}
use Rattle.elaboration_values.proofs.Messages.{messages}
use Rattle.elaboration_actors.specs.Actors.{ReadBelongs, MessagesAreTold}
use Rattle.elaboration_actors.specs.Starts.{as_given, KeptBelongs, KeptIsRestored}

module _ (known : List Known) where
  belong : (head : TypeId → Node TypeId) (ts : List TypeId) (m : message.Values)
      → AlikeAll (Names known) (shapes_of (load_all (opening.values_of (opened {F = Code} head ts m)))) (recode_all (λ code. record { group = 0; member = 0 }) (opening.shapes_of (opening.values_of (opened {F = Code} head ts m))))
  belong head [] m = tt
  belong head (t ∷ ts) message.Nil = tt
  belong head (t ∷ ts) (message.Value p inner others) = ((refl, belong head (message.inside (head t) p) inner), belong head ts others)

  each : (sh : Shapes Code) → AlikeAll (Names known) (shapes_of (load_all (opening.values_of sh))) (recode_all (λ code. record { group = 0; member = 0 }) (opening.shapes_of (opening.values_of sh)))
      → EachBelongs known (load_list (as_values (listed sh))) (map core_value (as_values (listed sh)))
  each NoShape b = tt
  each (AShape v vs) b = (b.0, each vs (b.1))

module _ (coding : Coding) (types : Types) (p : Program) where
  read_as : (ts : List TypeId) (bytes : Bytes) (m : message.Values) → coding.read types ts bytes ≡ Some m → read_values coding types ts bytes ≡ Some (as_values (values_at types ts m))
  read_as ts bytes m is = rw (is, read_values) refl

  read_not : (ts : List TypeId) (bytes : Bytes) → coding.read types ts bytes ≡ None → read_values coding types ts bytes ≡ None
  read_not ts bytes is = rw (is, read_values) refl

  read_so : (ts : List TypeId) (bytes : Bytes) (o : Option message.Values) → coding.read types ts bytes ≡ o → ReadBelongs (read_values coding types ts bytes) ((messages_of coding types p).read ts bytes)
  read_so ts bytes None is = rw (read_not ts bytes is) tt
  read_so ts bytes (Some m) is = rw (read_as ts bytes m is) (λ known. each known (opened (head_at types) ts m) (belong known (head_at types) ts m))

pub messages_are_told : MessagesAreTold
messages_are_told coding types p = record {
  spell = λ known ts vs ws b. ap (λ x. coded coding types ts (joined_values x)) (sym (let same = messages known (shapes_list vs) ws b in same.0 (head_at types) (map (λ t. Some t) ts)));
  read = λ ts bytes. read_so coding types p ts bytes (coding.read types ts bytes) refl;
  costs = λ ts bytes. refl;
  refuses = λ kept is. ap (λ o. on_some None o (λ vs. Some (map (λ o. on_some None o (λ v. Some (core_value v))) vs))) is;
  restoring = λ kept. refl;
}

-- ---- what was kept

module _ (types : Types) (p : Program) (code : Core) (told : Messages Kept) where
  abbrev IsPlain : Taken → Type 0
  IsPlain (Value? v) = (known : List Known) → Belongs known (load v) (core_value v)
  IsPlain _ = Unit {0}

  plain_value : (t : TypeId) (o : Option message.Values) → IsPlain (taken_values types t o)
  plain_value t None = tt
  plain_value t (Some message.Nil) = tt
  plain_value t (Some (message.Value p inner others)) = λ known. (let b = belong known (head_at types) (t ∷ []) (message.Value p inner others) in b.0)

  abbrev Plain : List Taken → Type 0
  Plain [] = Unit {0}
  Plain (t ∷ ts) = IsPlain t × Plain ts

  module _ (coding : Coding) (old : Types) (variables : List (Variable TypeId)) where
    plain_taken : (v : StableVariable) (o : Option (Variable TypeId)) → IsPlain (taken coding old types v o)
    plain_taken v None = tt
    plain_taken v (Some w) = plain_value v.of_type (coding.keep old types w.type v.of_type w.value)

    all_plain : (stable : List StableVariable) → Plain (all_taken coding old types variables stable)
    all_plain [] = tt
    all_plain (v ∷ stable) = (plain_taken v _, all_plain stable)

    as_many : (stable : List StableVariable) → length (all_taken coding old types variables stable) ≡ length stable
    as_many [] = refl
    as_many (v ∷ stable) = ap (λ n. suc n) (as_many stable)

  abbrev as_core : Option language.Value → Option core.Value
  as_core o = on_some None o (λ v. Some (core_value v))

  abbrev Restored : ℕ → Option (List (Option language.Value)) → Type 0
  Restored n None = Unit {0}
  Restored n (Some vs) = (length vs ≡ n) × ((known : List Known) → EachBelongs known (map kept_value vs) (map (as_given p code told) (map as_core vs)))

  and_plain : (n : ℕ) (t : Taken) (o : Option (List (Option language.Value))) → IsPlain t → Restored n o → Restored (suc n) (and_taken t o)
  and_plain n t None b r = tt
  and_plain n Fresh (Some vs) b r = (ap (λ n. suc n) (r.0), λ known. ((refl, tt), r.1 known))
  and_plain n (Value? v) (Some vs) b r = (ap (λ n. suc n) (r.0), λ known. ((refl, (b known, tt)), r.1 known))
  and_plain n Incompatible (Some vs) b r = tt

  restored : (ts : List Taken) → Plain ts → Restored (length ts) (all_kept ts)
  restored [] b = (refl, λ known. tt)
  restored (t ∷ ts) b = and_plain (length ts) t (all_kept ts) (b.0) (restored ts (b.1))

  kept_so : (o : Option (List (Option language.Value))) → Restored (length p.stable) o → KeptBelongs p code told o (on_some None o (λ vs. Some (map as_core vs)))
  kept_so None r = tt
  kept_so (Some vs) r = r

pub kept_is_restored : KeptIsRestored
kept_is_restored coding types p code kept =
    let told : Messages Kept = messages_of coding types p in
    let ts : List Taken = all_taken coding kept.types types kept.variables p.stable in
    kept_so types p code told (all_kept ts)
    (subst (λ n. Restored types p code told n (all_kept ts)) (as_many types p code told coding kept.types kept.variables p.stable) (restored types p code told ts (all_plain types p code told coding kept.types kept.variables p.stable)))
